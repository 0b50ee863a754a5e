use Rattle.std.proofs.Common.{◌≡◌, ℕ, List, length, take}
use Rattle.std.specs.FinMap.{get, len}
use Rattle.std.specs.Map.{lookup}
use Rattle.std.specs.Str.{bytes_eq}
use Rattle.sw_folder.specs.Table.{files_of}
use Rattle.sw_folder.proofs.folder.copy_of.Given as goal

abbrev pub invariant-loop-at : goal.invariant-loop-at
invariant-loop-at l = record {
  same : (path : List ℕ) → get (files_of l.copy.entries) path ≡ lookup (bytes_eq path) (take l.at l.table.entries);
  one_each : length l.copy.entries ≡ len (files_of l.copy.entries);
}
