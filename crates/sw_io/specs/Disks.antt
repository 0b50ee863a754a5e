-- What a disk says of a folder: the files that it holds now and those that it will hold, listing by listing. This
-- project's own rule; the endings are those of sheets (Sass reference documentation, "Syntax").
use Rattle.std.specs.Prelude.{◌≡◌, ℕ, List, [], ◌∷◌, take, Bool, ◌||◌, bytes_eq, nat_eq, codes, Option, Some, None, option_map, Result, IfOk, OnErr, IsErrOf, if◌then◌else◌, ◌↔◌}
use Rattle.std.specs.List.{Contains, ends_with}
use Rattle.std.specs.List.Sorted.{IsPermutation}
use Rattle.sw_io.specs.declared.disk.DiskEnd.{DiskEnd}
use Rattle.sw_io.specs.declared.disk.DiskEnd.TheVariants.{Failed}
use Rattle.sw_io.specs.Memory.{call_after}

-- a path in the folder, and the bytes there
abbrev pub File : Type 0
File = List ℕ × List ℕ

pub record Course : Type 0 where
  pub files : List File
  pub next : List (List File)

-- before the first listing no file is there
abbrev pub course : List (List File) → Course
course folders = record { files = []; next = folders }

abbrev pub turned : List File → List (List File) → Course
turned files [] = record { files = files; next = [] }
turned files (folder ∷ folders) = record { files = folder; next = folders }

-- as it is when it was listed: the next folder has come, where there is one
abbrev pub after_listing : Course → Course
after_listing c = turned c.files c.next

abbrev pub is_sheet : List ℕ → Bool
is_sheet path =
    ends_with nat_eq path (codes ".scss") || (ends_with nat_eq path (codes ".sass")
    || ends_with nat_eq path (codes ".css"))

abbrev pub sheets_of : List File → List (List ℕ)
sheets_of [] = []
sheets_of (file ∷ files) = if is_sheet file.0 then file.0 ∷ sheets_of files else sheets_of files

abbrev pub file_of : List File → List ℕ → Option (List ℕ)
file_of [] path = None
file_of (file ∷ files) path = if bytes_eq file.0 path then Some file.1 else file_of files path

-- a file is read up to one byte more than the longest sheet has
unfoldable pub most_read : ℕ
most_read = 1048577

abbrev pub read_of : List File → List ℕ → Option (List ℕ)
read_of files path = option_map (take most_read) (file_of files path)

-- a listing gives the path of each sheet once, in any order; one that is refused changes no folder
pub record Lists (before now : List ℕ → Option Course) (dir : List ℕ) (result : Result (List (List ℕ)) DiskEnd) :
    Type 0 where
  pub listed : IfOk result (λ paths. (c : Course) → before dir ≡ Some c
      → (now dir ≡ Some (after_listing c)) × IsPermutation (sheets_of (after_listing c).files) paths)
  pub kept : OnErr result ((other : List ℕ) → now other ≡ before other)

-- a reading changes no folder
pub record Reads (before now : List ℕ → Option Course) (dir path : List ℕ)
    (result : Result (Option (List ℕ)) DiskEnd) : Type 0 where
  pub found : IfOk result (λ bytes. (c : Course) → before dir ≡ Some c → bytes ≡ read_of c.files path)
  pub kept : (other : List ℕ) → now other ≡ before other

-- a disk in memory: what its folders are, the numbers of the calls that fail, the calls so far and the faults so far
pub record Shelves : Type 0 where
  pub course : Course
  pub fail : List ℕ
  pub calls : ℕ
  pub faults : ℕ

abbrev pub shelves : List (List File) → List ℕ → Shelves
shelves folders fail = record { course = course folders; fail = fail; calls = 0; faults = 0 }

-- one call more was made, and the disk failed exactly where its number is listed
pub record DiskFailsAsListed {T : Type 0} (before now : Shelves) (result : Result T DiskEnd) : Type 0 where
  pub list : now.fail ≡ before.fail
  pub count : now.calls ≡ call_after before.calls
  pub exact : IsErrOf result Failed ↔ Contains before.fail (call_after before.calls)
