use Rattle.std.proofs.Common.{◌≡◌, drop}
use Rattle.std.specs.List.{list_all}
use Rattle.sw_cmd_line.specs.Forms.{is_load_path}
use Rattle.sw_cmd_line.proofs.command.all_load_paths.Given as goal

abbrev pub invariant-loop-path : goal.invariant-loop-path
invariant-loop-path l = list_all is_load_path l.fn.paths ≡ list_all is_load_path (drop l.path-index l.paths)
