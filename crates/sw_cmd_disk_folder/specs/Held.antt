-- The files that a disk's folder holds for the compiler. This project's own rule.
use Rattle.std.specs.Prelude.{◌≡◌, ◌⊎◌, ℕ, ◌+◌, Bool, true, false, not, ◌&&◌, nat_le, if◌then◌else◌, List, [], ◌∷◌, Option, None, Some}
use Rattle.std.specs.List.Sorted.{IsPermutation, IsSorted}
use Rattle.std.specs.Ordering.{nat_cmp}
use Rattle.std.specs.Cmp.Lexicographic.{slice_cmp}
use Rattle.std.specs.FinMap.{empty, contains_key, len}
use Rattle.sw_folder.specs.Paths.{is_path}
use Rattle.sw_folder.specs.Files.{Files, most_files}
use Rattle.sw_folder.specs.Edits.{after_put, folder_after}
use Rattle.sw_io.specs.Disks.{File, Course, after_listing, sheets_of, read_of}

-- the same paths, in byte order
pub record IsInOrder (paths order : List (List ℕ)) : Type 0 where
  pub same : IsPermutation paths order
  pub sorted : IsSorted (slice_cmp nat_cmp) order

-- a file that went, is too long or is no text in UTF-8 counts as not there
abbrev pub with_file : Files → List ℕ → Option (List ℕ) → Files
with_file folder path None = folder
with_file folder path (Some bytes) = folder_after (after_put path bytes folder) folder

-- so does one whose path isn't one of a sheet's folder; a path counts once
abbrev pub is_wanted : Files → List ℕ → Bool
is_wanted folder path = is_path path && not (contains_key folder path)

abbrev pub with_sheet : List File → List ℕ → Files → Files
with_sheet files path folder = if is_wanted folder path then with_file folder path (read_of files path) else folder

-- the files at these paths, one after the other, until 4,096 are held
unfoldable pub held_by : List File → List (List ℕ) → Files → Files
held_by files [] folder = folder
held_by files (path ∷ paths) folder =
    if nat_le most_files (len folder) then folder else held_by files paths (with_sheet files path folder)

-- a disk's folder of these files holds its sheets, the first 4,096 in byte order of their paths
pub record IsHeld (files : List File) (folder : Files) : Type 0 where
  pub order : List (List ℕ)
  pub in_order : IsInOrder (sheets_of files) order
  pub held : folder ≡ held_by files order empty

-- the disk's folder was listed, and this is what it holds then, where that is told
abbrev pub IsRead : Option Course → Option Course → Files → Type 0
IsRead before now folder =
    (c : Course) → before ≡ Some c → (now ≡ Some (after_listing c)) × IsHeld (after_listing c).files folder

-- the reading of the disk's folder broke off: it was listed, or it wasn't
abbrev pub IsBrokenOff : Option Course → Option Course → Type 0
IsBrokenOff before now =
    (c : Course) → before ≡ Some c → (now ≡ Some c) ⊎ (now ≡ Some (after_listing c))

-- so many, or one more
abbrev pub with_one : Bool → ℕ → ℕ
with_one true count = count + 1
with_one false count = count
