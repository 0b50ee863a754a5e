use Rattle.std.proofs.Common.{◌≡◌, ◌++◌, codes, string_bytes}
use Rattle.sw_cmd_workload.specs.Texts.{uses}
use Rattle.sw_cmd_workload.proofs.texts.main_text.Given as goal

abbrev pub invariant-parts : goal.invariant-parts
invariant-parts l = string_bytes l.text ≡ codes "@use \"lib\";" ++ uses l.place
