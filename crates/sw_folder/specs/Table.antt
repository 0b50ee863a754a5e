-- How the table of a folder, which keeps the order of insertion, is seen as its files.
use Rattle.std.specs.Prelude.{◌≡◌, ℕ, ◌||◌, true, false, List, length, codes, nat_eq}
use Rattle.std.specs.List.{ends_with, list_any}
use Rattle.std.specs.FinMap.{from_entries, contains_key, len}
use Rattle.sw_folder.specs.declared.folder.Marks.{Marks}
use Rattle.sw_folder.specs.Files.{Files, IsFolder}
use Rattle.sw_folder.specs.Paths.{is_underscore}

abbrev pub Entry : Type 0
Entry = List ℕ × List ℕ

abbrev pub files_of : List Entry → Files
files_of entries = from_entries entries

-- what a path may have, where it is this one or had that before
abbrev pub marked : List ℕ → Marks → Marks
marked path marks = record {
  indented = marks.indented || ends_with nat_eq path (codes ".sass");
  underscored = marks.underscored || list_any is_underscore path;
}

-- no file has what no path may have
pub record Tells (marks : Marks) (files : Files) : Type 0 where
  pub indented : marks.indented ≡ false → (path : List ℕ) → ends_with nat_eq path (codes ".sass") ≡ true
      → contains_key files path ≡ false
  pub underscored : marks.underscored ≡ false → (path : List ℕ) → list_any is_underscore path ≡ true
      → contains_key files path ≡ false

-- the table has one entry for each file, and its files are a folder
pub record IsTable (marks : Marks) (entries : List Entry) : Type 0 where
  pub one_each : length entries ≡ len (files_of entries)
  pub folder : IsFolder (files_of entries)
  pub tells : Tells marks (files_of entries)
