-- The files of a disk's folder, held by a keeper. This project's own rule.
use Rattle.std.specs.Prelude.{◌≡◌, ℕ, Bool, true, List, bytes_eq}
use Rattle.std.specs.List.{list_any}
use Rattle.std.specs.FinMap.{contains_key}
use Rattle.sw_folder.specs.Files.{Files}

abbrev pub is_listed : List (List ℕ) → List ℕ → Bool
is_listed paths path = list_any (bytes_eq path) paths

-- each file has one of these paths
abbrev pub Covers : List (List ℕ) → Files → Type 0
Covers paths folder = (path : List ℕ) → contains_key folder path ≡ true → is_listed paths path ≡ true
