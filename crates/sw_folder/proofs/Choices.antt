-- The first group that decides, over lists of groups.
use Rattle.std.proofs.Common.{◌≡◌, ℕ, ◌+◌, ◌<◌, ◌≤◌, List, [], ◌∷◌, ◌++◌, map, length, take, drop, get_or, true, false, if◌then◌else◌, codes, Bor, Option, None, Some, Result, Ok, Err, refl, sym, ap, subst, ◌∙◌, arith, length-append}
use Rattle.std.proofs.lemmas.List.{drop_more, drop_all, map_push}
use Rattle.std.proofs.Math.Seq.{take-append_seam, get_or-append_seam}
use Rattle.sw_folder.specs.declared.resolve.ResolveFault.{ResolveFault}
use Rattle.sw_folder.specs.declared.resolve.ResolveFault.TheVariants.{NotFound, Ambiguous, Memory}
use Rattle.sw_folder.specs.Files.{Files}
use Rattle.sw_folder.specs.Paths.{segments}
use Rattle.sw_folder.specs.Resolution.{IsResolution, bases, both, choice, first_choice, folder_text, has_extension, inside, name_groups, groups, groups_at, groups_from, or_next, or_not_found, present, resolved, walk}

abbrev Choice : Type 0
Choice = Result (Option (List ℕ)) ResolveFault

pub or_next-none : (a : Choice) → or_next a (Ok None) ≡ a
or_next-none (Ok None) = refl
or_next-none (Ok (Some path)) = refl
or_next-none (Err fault) = refl

pub or_next-assoc : (a b d : Choice) → or_next (or_next a b) d ≡ or_next a (or_next b d)
or_next-assoc (Ok None) b d = refl
or_next-assoc (Ok (Some path)) b d = refl
or_next-assoc (Err fault) b d = refl

pub first_choice-none : (files : Files) → first_choice files [] ≡ Ok None
unfolding first_choice
first_choice-none files = refl

pub first_choice-cons : (files : Files) (group : List (List ℕ)) (more : List (List (List ℕ))) → first_choice files (group ∷ more) ≡ or_next (choice (present files group)) (first_choice files more)
unfolding first_choice
first_choice-cons files group more = refl

pub first_choice-one : (files : Files) (group : List (List ℕ)) → first_choice files (group ∷ []) ≡ choice (present files group)
unfolding first_choice
first_choice-one files group = or_next-none (choice (present files group))

pub first_choice-append : (files : Files) (front back : List (List (List ℕ))) → first_choice files (front ++ back) ≡ or_next (first_choice files front) (first_choice files back)
unfolding first_choice
first_choice-append files [] back = refl
first_choice-append files (group ∷ front) back =
    ap (or_next (choice (present files group))) (first_choice-append files front back) ∙ sym (or_next-assoc (choice (present files group)) (first_choice files front) (first_choice files back))

or_fault : (a b : Choice) (fault : ResolveFault) → IsResolution {X = Option (List ℕ)} (Err fault) a → IsResolution {X = Option (List ℕ)} (Err fault) (or_next a b)
or_fault a b Memory right = tt
or_fault a b NotFound right = ap (λ r. or_next r b) right
or_fault a b Ambiguous right = ap (λ r. or_next r b) right

-- a group in front that decides, or has no file
module _ (files : Files) (group : List (List ℕ)) (more : List (List (List ℕ))) where
  pub group_found : (path : List ℕ) → choice (present files group) ≡ Ok (Some path) → first_choice files (group ∷ more) ≡ Ok (Some path)
  group_found path e = first_choice-cons files group more ∙ ap (λ r. or_next r (first_choice files more)) e

  pub group_fault : (fault : ResolveFault) → IsResolution {X = Option (List ℕ)} (Err fault) (choice (present files group)) → IsResolution {X = Option (List ℕ)} (Err fault) (first_choice files (group ∷ more))
  group_fault fault right = subst (IsResolution {X = Option (List ℕ)} (Err fault)) (sym (first_choice-cons files group more)) (or_fault _ (first_choice files more) fault right)

  pub group_next : (answer : Choice) → choice (present files group) ≡ Ok None → IsResolution answer (first_choice files more) → IsResolution answer (first_choice files (group ∷ more))
  group_next answer nothing right =
      subst (IsResolution answer) (sym (first_choice-cons files group more ∙ ap (λ r. or_next r (first_choice files more)) nothing)) right

  pub group_last : (answer : Choice) → IsResolution answer (choice (present files group)) → IsResolution answer (first_choice files (group ∷ []))
  group_last answer right = subst (IsResolution answer) (sym (first_choice-one files group)) right

-- groups in front that decide, or have no file
module _ (files : Files) (front back : List (List (List ℕ))) where
  pub front_found : (path : List ℕ) → first_choice files front ≡ Ok (Some path) → first_choice files (front ++ back) ≡ Ok (Some path)
  front_found path e = first_choice-append files front back ∙ ap (λ r. or_next r (first_choice files back)) e

  pub front_fault : (fault : ResolveFault) → IsResolution {X = Option (List ℕ)} (Err fault) (first_choice files front) → IsResolution {X = Option (List ℕ)} (Err fault) (first_choice files (front ++ back))
  front_fault fault right = subst (IsResolution {X = Option (List ℕ)} (Err fault)) (sym (first_choice-append files front back)) (or_fault _ (first_choice files back) fault right)

  pub front_next : (answer : Choice) → first_choice files front ≡ Ok None → IsResolution answer (first_choice files back) → IsResolution answer (first_choice files (front ++ back))
  front_next answer nothing right =
      subst (IsResolution answer) (sym (first_choice-append files front back ∙ ap (λ r. or_next r (first_choice files back)) nothing)) right

  pub front_none : first_choice files front ≡ Ok None → first_choice files (front ++ back) ≡ first_choice files back
  front_none nothing = first_choice-append files front back ∙ ap (λ r. or_next r (first_choice files back)) nothing

-- nowhere there is no file
pub nowhere : (files : Files) {place : Option (List (List ℕ))} → place ≡ None → first_choice files (groups_at place) ≡ Ok None
nowhere files lost = ap (λ p. first_choice files (groups_at p)) lost ∙ first_choice-none files

-- the last segment is the name
pub groups_at-last : (folders : List (List ℕ)) (name : List ℕ) → groups_at (Some (folders ++ name ∷ [])) ≡ groups (folder_text folders) name
groups_at-last [] name = refl
groups_at-last (first ∷ more) name =
    let count : length (more ++ name ∷ []) ≡ length (first ∷ more) = omega (arith, length-append more (name ∷ [])) in
    let front : take (length (more ++ name ∷ [])) ((first ∷ more) ++ name ∷ []) ≡ first ∷ more
    = ap (λ n. take n ((first ∷ more) ++ name ∷ [])) count ∙ take-append_seam (first ∷ more) (name ∷ []) in
    let last : get_or ((first ∷ more) ++ name ∷ []) (length (more ++ name ∷ [])) first ≡ name
    = ap (λ n. get_or ((first ∷ more) ++ name ∷ []) n first) count ∙ get_or-append_seam (first ∷ more) name [] first in
    ap (λ f. groups (folder_text f) (get_or ((first ∷ more) ++ name ∷ []) (length (more ++ name ∷ [])) first)) front ∙ ap (groups (folder_text (first ∷ more))) last

-- a place with its name at the end
pub at_place : (files : Files) (place folders : List (Bor (List ℕ))) (name : Bor (List ℕ)) (folder : List ℕ) → place ≡ folders ++ name ∷ [] → folder ≡ folder_text (map (λ s. s.now) folders)
    → first_choice files (groups_at (Some (map (λ s. s.now) place))) ≡ first_choice files (groups folder name.now)
at_place files place folders name folder is text =
    ap (λ p. first_choice files (groups_at (Some p))) (ap (map (λ s. s.now)) is ∙ map_push (λ s. s.now) folders name)
    ∙ ap (first_choice files) (groups_at-last (map (λ s. s.now) folders) name.now)
    ∙ ap (λ f. first_choice files (groups f name.now)) (sym text)

-- a name with an extension is one group, and one without the groups beside it and those of its index
pub groups-extension : (folder name : List ℕ) → has_extension name ≡ true → groups folder name ≡ both folder name [] ∷ []
groups-extension folder name e = ap (λ b. if b then both folder name [] ∷ [] else name_groups folder name ++ name_groups (inside folder name) (codes "index")) e

pub groups-none : (folder name : List ℕ) → has_extension name ≡ false → groups folder name ≡ name_groups folder name ++ name_groups (inside folder name) (codes "index")
groups-none folder name e = ap (λ b. if b then both folder name [] ∷ [] else name_groups folder name ++ name_groups (inside folder name) (codes "index")) e

-- the next load path
pub groups_from-drop : (url : List ℕ) (paths : List (List ℕ)) (at : ℕ) (path : List ℕ) → at < length paths → path ≡ get_or paths at path
    → groups_from url (map segments (drop at paths)) ≡ groups_at (walk [] (segments path ++ segments url)) ++ groups_from url (map segments (drop (at + 1) paths))
groups_from-drop url paths at path within is =
    ap (λ p. groups_from url (map segments p)) (drop_more paths at path within ∙ ap (λ p. p ∷ drop (at + 1) paths) (sym is))

pub groups_from-end : (url : List ℕ) (paths : List (List ℕ)) (at : ℕ) → length paths ≤ at → groups_from url (map segments (drop at paths)) ≡ []
groups_from-end url paths at past = ap (λ p. groups_from url (map segments p)) (drop_all at paths past)

pub resolved-answer : (files : Files) (from url : List ℕ) (paths : List (List ℕ)) (answer : Choice) → IsResolution answer (first_choice files (groups_from url (bases from paths)))
    → IsResolution (or_not_found answer) (resolved files from url paths)
unfolding resolved
resolved-answer files from url paths (Ok None) right = ap or_not_found right
resolved-answer files from url paths (Ok (Some path)) right = ap or_not_found right
resolved-answer files from url paths (Err Memory) right = tt
resolved-answer files from url paths (Err NotFound) right = ap or_not_found right
resolved-answer files from url paths (Err Ambiguous) right = ap or_not_found right

pub nothing_there : (files : Files) (place : List (Bor (List ℕ))) → length place ≡ 0 → first_choice files (groups_at (Some (map (λ s. s.now) place))) ≡ Ok None
nothing_there files [] e = first_choice-none files
nothing_there files (first ∷ more) e = absurd (omega arith)

-- a turn over the load paths
module _ {whole : Choice} (files : Files) (url : List ℕ) (paths : List (List ℕ)) (at : ℕ) (path text : List ℕ) (within : at < length paths) (is : path ≡ get_or paths at path) (read : text ≡ path)
    (so_far : whole ≡ first_choice files (groups_from url (map segments (drop at paths)))) where
  opened : whole ≡ first_choice files (groups_at (walk [] (segments text ++ segments url)) ++ groups_from url (map segments (drop (at + 1) paths)))
  opened = so_far ∙ ap (first_choice files) (groups_from-drop url paths at path within is)
      ∙ ap (λ p. first_choice files (groups_at (walk [] (segments p ++ segments url)) ++ groups_from url (map segments (drop (at + 1) paths)))) (sym read)

  pub turn_found : (found : List ℕ) → first_choice files (groups_at (walk [] (segments text ++ segments url))) ≡ Ok (Some found) → whole ≡ Ok (Some found)
  turn_found found e = opened ∙ front_found files _ (groups_from url (map segments (drop (at + 1) paths))) found e

  pub turn_fault : (fault : ResolveFault) → IsResolution {X = Option (List ℕ)} (Err fault) (first_choice files (groups_at (walk [] (segments text ++ segments url)))) → IsResolution {X = Option (List ℕ)} (Err fault) whole
  turn_fault fault right = subst (IsResolution {X = Option (List ℕ)} (Err fault)) (sym opened) (front_fault files _ (groups_from url (map segments (drop (at + 1) paths))) fault right)

  pub turn_next : first_choice files (groups_at (walk [] (segments text ++ segments url))) ≡ Ok None → whole ≡ first_choice files (groups_from url (map segments (drop (at + 1) paths)))
  turn_next nothing = opened ∙ front_none files _ (groups_from url (map segments (drop (at + 1) paths))) nothing
