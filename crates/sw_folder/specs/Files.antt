-- The files of a folder. This project's own rule.
use Rattle.std.specs.Prelude.{◌≡◌, ℕ, ◌≤◌, List, length, Some, IsTrue}
use Rattle.std.specs.Ordering.{nat_cmp}
use Rattle.std.specs.Cmp.Lexicographic.{slice_cmp}
use Rattle.std.specs.Coded.{Coded, coded_ℕ, coded_list}
use Rattle.std.specs.FinMap.{FinMap, get, len, code}
use Rattle.sw_folder.specs.Paths.{is_path}

-- the text of each path, in byte order of the paths; `entries` of `FinMap` gives the list of them
abbrev pub Files : Type 0
Files = FinMap (slice_cmp nat_cmp) (List ℕ)

abbrev pub files_code : Coded Files
files_code = code (coded_list coded_ℕ) (coded_list coded_ℕ)

-- the bytes of the longest file
abbrev pub most_bytes : ℕ
most_bytes = 1048576

abbrev pub most_files : ℕ
most_files = 4096

-- what every folder keeps
pub record IsFolder (files : Files) : Type 0 where
  pub few : len files ≤ most_files
  pub paths : (path text : List ℕ) → get files path ≡ Some text → IsTrue (is_path path)
  pub short : (path text : List ℕ) → get files path ≡ Some text → length text ≤ most_bytes
