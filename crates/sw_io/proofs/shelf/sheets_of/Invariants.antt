use Rattle.std.proofs.Common.{◌≡◌, ◌++◌, drop}
use Rattle.sw_io.specs.Disks.{sheets_of}
use Rattle.sw_io.proofs.shelf.sheets_of.Given as goal

abbrev pub invariant-loop-file : goal.invariant-loop-file
invariant-loop-file l = l.paths ++ sheets_of (drop l.file-index l.files) ≡ sheets_of l.files
