-- Which file of a folder a URL means. This project's own rule, modelled on Sass's load of partials and index files.
use Rattle.std.specs.Prelude.{◌≡◌, ℕ, Bool, false, ◌||◌, nat_eq, if◌then◌else◌, List, [], ◌∷◌, ◌++◌, map, filter, codes, length, take, slice_index_or, Option, None, Some, Result, Ok, Err, option_and_then}
use Rattle.std.specs.List.{flat_map, ends_with}
use Rattle.std.specs.FinMap.{contains_key}
use Rattle.sw_folder.specs.declared.resolve.ResolveFault.{ResolveFault}
use Rattle.sw_folder.specs.declared.resolve.ResolveFault.TheVariants.{NotFound, Ambiguous, Memory}
use Rattle.sw_folder.specs.Paths.{segments, is_dot, is_dot_dot}
use Rattle.sw_folder.specs.Files.{Files}

-- one folder up; the top of the folder has none above it
abbrev pub up : List (List ℕ) → Option (List (List ℕ))
up [] = None
up (first ∷ more) = Some (take (length more) (first ∷ more))

-- where one segment leads from a place
abbrev pub step : List (List ℕ) → List ℕ → Option (List (List ℕ))
step place segment =
    if is_dot segment then Some place
    else if is_dot_dot segment then up place
    else Some (place ++ segment ∷ [])

-- a text is this one segment, which leads on from a place
pub record IsLone (text name : List ℕ) : Type 0 where
  pub one : segments text ≡ name ∷ []
  pub dot : is_dot name ≡ false
  pub dot_dot : is_dot_dot name ≡ false

-- where these segments lead, unless they leave the folder
unfoldable pub walk : List (List ℕ) → List (List ℕ) → Option (List (List ℕ))
walk place [] = Some place
walk place (segment ∷ more) = option_and_then (λ next. walk next more) (step place segment)

-- what a URL is joined to: the folder of the sheet in which it stands, then each load path in order
abbrev pub bases : List ℕ → List (List ℕ) → List (List (List ℕ))
bases from paths = (segments from ++ codes ".." ∷ []) ∷ map segments paths

-- a name with and without `_` before it, behind the text of its folder
abbrev pub both : List ℕ → List ℕ → List ℕ → List (List ℕ)
both folder name ending = (folder ++ (name ++ ending)) ∷ (folder ++ (codes "_" ++ (name ++ ending))) ∷ []

abbrev pub sheets : List ℕ → List ℕ → List (List ℕ)
sheets folder name = both folder name (codes ".sass") ++ both folder name (codes ".scss")

abbrev pub has_extension : List ℕ → Bool
has_extension name =
    ends_with nat_eq name (codes ".sass")
    || (ends_with nat_eq name (codes ".scss") || ends_with nat_eq name (codes ".css"))

abbrev pub inside : List ℕ → List ℕ → List ℕ
inside folder name = folder ++ (name ++ codes "/")

-- the groups of a name without an extension
abbrev pub name_groups : List ℕ → List ℕ → List (List (List ℕ))
name_groups folder name = sheets folder name ∷ both folder name (codes ".css") ∷ []

-- the groups of files that a name may mean, the one that counts first in front: with an extension that file, else a
-- sheet or plain CSS, beside or as the index of a folder of that name
abbrev pub groups : List ℕ → List ℕ → List (List (List ℕ))
groups folder name =
    if has_extension name then both folder name [] ∷ []
    else name_groups folder name ++ name_groups (inside folder name) (codes "index")

abbrev pub folder_text : List (List ℕ) → List ℕ
folder_text segments = flat_map (λ segment. segment ++ codes "/") segments

-- the groups at a place: its last segment is the name
abbrev pub groups_at : Option (List (List ℕ)) → List (List (List ℕ))
groups_at None = []
groups_at (Some []) = []
groups_at (Some (first ∷ more)) =
    groups (folder_text (take (length more) (first ∷ more))) (slice_index_or (first ∷ more) (length more) first)

-- the groups of a URL at each base
abbrev pub groups_from : List ℕ → List (List (List ℕ)) → List (List (List ℕ))
groups_from url bases = flat_map (λ base. groups_at (walk [] (base ++ segments url))) bases

-- those of a group that are files
abbrev pub present : Files → List (List ℕ) → List (List ℕ)
present files group = filter (contains_key files) group

-- one file is the answer, two or more are ambiguous
abbrev pub choice : List (List ℕ) → Result (Option (List ℕ)) ResolveFault
choice [] = Ok None
choice (path ∷ []) = Ok (Some path)
choice (path ∷ other ∷ more) = Err Ambiguous

-- what two parts of one group choose together
abbrev pub both_choices : Option (List ℕ) → Option (List ℕ) → Result (Option (List ℕ)) ResolveFault
both_choices None other = Ok other
both_choices (Some path) None = Ok (Some path)
both_choices (Some path) (Some other) = Err Ambiguous

abbrev pub or_next : Result (Option (List ℕ)) ResolveFault → Result (Option (List ℕ)) ResolveFault
    → Result (Option (List ℕ)) ResolveFault
or_next (Ok None) next = next
or_next (Ok (Some path)) next = Ok (Some path)
or_next (Err fault) next = Err fault

-- the first group of which a file exists decides
unfoldable pub first_choice : Files → List (List (List ℕ)) → Result (Option (List ℕ)) ResolveFault
first_choice files [] = Ok None
first_choice files (group ∷ more) = or_next (choice (present files group)) (first_choice files more)

abbrev pub or_not_found : Result (Option (List ℕ)) ResolveFault → Result (List ℕ) ResolveFault
or_not_found (Ok None) = Err NotFound
or_not_found (Ok (Some path)) = Ok path
or_not_found (Err fault) = Err fault

-- the file that a URL means in the sheet `from`
unfoldable pub resolved : Files → List ℕ → List ℕ → List (List ℕ) → Result (List ℕ) ResolveFault
resolved files from url paths = or_not_found (first_choice files (groups_from url (bases from paths)))

-- an answer is the right one, or want of memory
abbrev pub IsResolution : {X : Type 0} → Result X ResolveFault → Result X ResolveFault → Type 0
IsResolution (Ok found) right = right ≡ Ok found
IsResolution (Err Memory) right = Unit {0}
IsResolution (Err fault) right = right ≡ Err fault
