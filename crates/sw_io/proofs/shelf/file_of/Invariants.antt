use Rattle.std.proofs.Common.{◌≡◌, drop}
use Rattle.sw_io.specs.Disks.{file_of}
use Rattle.sw_io.proofs.shelf.file_of.Given as goal

abbrev pub invariant-loop-file : goal.invariant-loop-file
invariant-loop-file l = file_of (drop l.file-index l.files) l.path ≡ file_of l.files l.path
