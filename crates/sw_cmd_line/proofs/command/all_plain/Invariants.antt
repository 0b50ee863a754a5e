use Rattle.std.proofs.Common.{◌≡◌, drop}
use Rattle.std.specs.List.{list_all}
use Rattle.sw_cmd_line.specs.Forms.{is_plain}
use Rattle.sw_cmd_line.proofs.command.all_plain.Given as goal

abbrev pub invariant-loop-word : goal.invariant-loop-word
invariant-loop-word l = list_all is_plain l.fn.words ≡ list_all is_plain (drop l.word-index l.words)
