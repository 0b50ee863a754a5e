-- Walking from a place by segments, one segment at a time.
use Rattle.std.proofs.Common.{◌≡◌, Bool, true, false, List, [], ◌∷◌, ◌++◌, Option, None, Some, ℕ, codes, refl, ap, ◌∙◌, if◌then◌else◌}
use Rattle.std.specs.Option.{option_and_then}
use Rattle.sw_folder.specs.Paths.{segments, rest_segments, is_dot, is_dot_dot}
use Rattle.sw_folder.specs.Resolution.{step, up, walk, IsLone}

pub walk-none : (place : List (List ℕ)) → walk place [] ≡ Some place
unfolding walk
walk-none place = refl

pub walk-step : (place next : List (List ℕ)) (segment : List ℕ) (more : List (List ℕ)) → step place segment ≡ Some next → walk place (segment ∷ more) ≡ walk next more
unfolding walk
walk-step place next segment more e = ap (option_and_then (λ p. walk p more)) e

pub walk-leaves : (place : List (List ℕ)) (segment : List ℕ) (more : List (List ℕ)) → step place segment ≡ None → walk place (segment ∷ more) ≡ None
unfolding walk
walk-leaves place segment more e = ap (option_and_then (λ p. walk p more)) e

-- one way and then another
pub walk-append : (place : List (List ℕ)) (way further : List (List ℕ)) → walk place (way ++ further) ≡ option_and_then (λ p. walk p further) (walk place way)
unfolding walk
walk-append place [] further = refl
walk-append place (segment ∷ way) further = by (step place segment) (λ next. walk-append next way further)
  where
    by : (next : Option (List (List ℕ))) → ((at : List (List ℕ)) → walk at (way ++ further) ≡ option_and_then (λ p. walk p further) (walk at way))
        → option_and_then (λ p. walk p (way ++ further)) next ≡ option_and_then (λ p. walk p further) (option_and_then (λ p. walk p way) next)
    by None rest = refl
    by (Some next) rest = rest next

-- a turn of the walk: the first segment of what is left leads on, or out of the folder
module _ {whole : Option (List (List ℕ))} (place next : List (List ℕ)) (left more : Option (List ℕ)) (part first : List ℕ) (within : Bool)
    (so_far : whole ≡ walk place (rest_segments left)) (is : left ≡ Some part) (parts : segments part ≡ first ∷ rest_segments more)
    (stepped : step place first ≡ (if within then Some next else None)) where
  pub walk-turn : within ≡ true → whole ≡ walk next (rest_segments more)
  walk-turn stays = so_far ∙ ap (λ l. walk place (rest_segments l)) is ∙ ap (walk place) parts ∙ walk-step place next first _ (stepped ∙ ap (λ b. if b then Some next else None) stays)

  pub walk-out : within ≡ false → whole ≡ None
  walk-out leaves = so_far ∙ ap (λ l. walk place (rest_segments l)) is ∙ ap (walk place) parts ∙ walk-leaves place first _ (stepped ∙ ap (λ b. if b then Some next else None) leaves)

-- one way and then another, where the first one leads somewhere or leaves the folder
module _ (place next : List (List ℕ)) (way further : List (List ℕ)) (within : Bool) (walked : walk place way ≡ (if within then Some next else None)) where
  pub walk-reaches : within ≡ true → walk place (way ++ further) ≡ walk next further
  walk-reaches stays = walk-append place way further ∙ ap (option_and_then (λ p. walk p further)) (walked ∙ ap (λ b. if b then Some next else None) stays)

  pub walk-lost : within ≡ false → walk place (way ++ further) ≡ None
  walk-lost leaves = walk-append place way further ∙ ap (option_and_then (λ p. walk p further)) (walked ∙ ap (λ b. if b then Some next else None) leaves)

pub walk-up : (place : List (List ℕ)) → walk place (codes ".." ∷ []) ≡ up place
unfolding walk
walk-up place = by (up place)
  where
    by : (at : Option (List (List ℕ))) → option_and_then (λ p. Some p) at ≡ at
    by None = refl
    by (Some p) = refl

-- to the folder of a sheet
module _ (next above : List (List ℕ)) (from : List (List ℕ)) (within higher : Bool) (walked : walk [] from ≡ (if within then Some next else None))
    (went_up : up next ≡ (if higher then Some above else None)) where
  pub walk-folder : within ≡ true → walk [] (from ++ codes ".." ∷ []) ≡ (if higher then Some above else None)
  walk-folder stays = walk-reaches [] next from (codes ".." ∷ []) within walked stays ∙ walk-up next ∙ went_up

pub walk-lost_before : (place : List (List ℕ)) (way on further : List (List ℕ)) → walk place way ≡ None → walk place ((way ++ on) ++ further) ≡ None
walk-lost_before place way on further lost =
    walk-append place (way ++ on) further ∙ ap (option_and_then (λ p. walk p further)) (walk-append place way on ∙ ap (option_and_then (λ p. walk p on)) lost)

-- a segment that is no dot and no pair of dots leads on
step-on : (place : List (List ℕ)) (segment : List ℕ) → is_dot segment ≡ false → is_dot_dot segment ≡ false → step place segment ≡ Some (place ++ segment ∷ [])
step-on place segment dot dot_dot =
    ap (λ b. if b then Some place else if is_dot_dot segment then up place else Some (place ++ segment ∷ [])) dot
    ∙ ap (λ b. if b then up place else Some (place ++ segment ∷ [])) dot_dot

-- a URL of one segment in a sheet of the top folder leads to that segment
pub walk-lone : (from url sheet name : List ℕ) → IsLone from sheet → IsLone url name → walk [] ((segments from ++ codes ".." ∷ []) ++ segments url) ≡ Some (name ∷ [])
walk-lone from url sheet name of_sheet of_name =
    ap (λ s. walk [] ((s ++ codes ".." ∷ []) ++ segments url)) of_sheet.one
    ∙ ap (λ s. walk [] (sheet ∷ codes ".." ∷ s)) of_name.one
    ∙ walk-step [] (sheet ∷ []) sheet (codes ".." ∷ name ∷ []) (step-on [] sheet of_sheet.dot of_sheet.dot_dot)
    ∙ walk-step (sheet ∷ []) [] (codes "..") (name ∷ []) refl
    ∙ walk-step [] (name ∷ []) name [] (step-on [] name of_name.dot of_name.dot_dot)
    ∙ walk-none (name ∷ [])
