-- Items at places of a list of distinct ones.
use Rattle.std.proofs.Common.{◌≡◌, ℕ, zero, suc, ◌<◌, List, [], ◌∷◌, ◌++◌, length, take, slice_get, get_or, Option, Some, None, refl, sym, ◌∙◌, ap, arith}
use Rattle.std.specs.List.{All, filter_map, cons_option}
use Rattle.std.proofs.lemmas.Option.{slice_get_within, slice_get-get_or}
use Rattle.std.proofs.lemmas.List.Elements.{filter_map-append, All-head, All-tail, All-push, All-weaker, All-take, All-nil}
use Rattle.std.proofs.lemmas.List.{length_push}

module _ {X : Type 0} where
  abbrev at_places : List X → List ℕ → List X
  at_places distinct places = filter_map (slice_get distinct) places

  abbrev Within : List X → List ℕ → Type 0
  Within distinct places = All (λ place. place < length distinct) places

  abbrev pub item_at : List X → Option ℕ → Option X
  item_at distinct None = None
  item_at distinct (Some place) = slice_get distinct place

  found : (distinct : List X) (place : ℕ) → place < length distinct → (x : X) × (slice_get distinct place ≡ Some x)
  found [] place lt = absurd (omega (arith, lt))
  found (x ∷ xs) zero lt = (x, refl)
  found (x ∷ xs) (suc place) lt = found xs place (omega (arith, lt))

  pub listed_length : (distinct : List X) (places : List ℕ) → Within distinct places → length (at_places distinct places) ≡ length places
  listed_length distinct [] all = refl
  listed_length distinct (p ∷ ps) all =
      let x = found distinct p (All-head (λ place. place < length distinct) p ps all) in
      ap (λ (o : Option X). length (cons_option o (at_places distinct ps))) x.1 ∙ ap suc (listed_length distinct ps (All-tail (λ place. place < length distinct) p ps all))

  pub listed_get : (distinct : List X) (places : List ℕ) (at : ℕ) → Within distinct places → slice_get (at_places distinct places) at ≡ item_at distinct (slice_get places at)
  listed_get distinct [] at all = refl
  listed_get distinct (p ∷ ps) zero all =
      let x = found distinct p (All-head (λ place. place < length distinct) p ps all) in
      ap (λ (o : Option X). slice_get (cons_option o (at_places distinct ps)) zero) x.1 ∙ sym x.1
  listed_get distinct (p ∷ ps) (suc at) all =
      let x = found distinct p (All-head (λ place. place < length distinct) p ps all) in
      ap (λ (o : Option X). slice_get (cons_option o (at_places distinct ps)) (suc at)) x.1 ∙ listed_get distinct ps at (All-tail (λ place. place < length distinct) p ps all)

  -- one place twice has one item twice
  pub listed_same : (distinct : List X) (places : List ℕ) (at other : ℕ) → Within distinct places → at < length places → other < length places → get_or places at 0 ≡ get_or places other 0
      → slice_get (at_places distinct places) at ≡ slice_get (at_places distinct places) other
  listed_same distinct places at other all lt lt' same =
      listed_get distinct places at all
      ∙ ap (item_at distinct) (slice_get-get_or places at 0 lt ∙ ap Some same ∙ sym (slice_get-get_or places other 0 lt'))
      ∙ sym (listed_get distinct places other all)

  pub listed_take : (distinct : List X) (places : List ℕ) (n : ℕ) → Within distinct places → at_places distinct (take n places) ≡ take n (at_places distinct places)
  listed_take distinct places zero all = refl
  listed_take distinct [] (suc n) all = refl
  listed_take distinct (p ∷ ps) (suc n) all =
      let x = found distinct p (All-head (λ place. place < length distinct) p ps all) in
      ap (λ (o : Option X). cons_option o (at_places distinct (take n ps))) x.1
      ∙ ap (λ l. x.0 ∷ l) (listed_take distinct ps n (All-tail (λ place. place < length distinct) p ps all))
      ∙ ap (λ (o : Option X). take (suc n) (cons_option o (at_places distinct ps))) (sym x.1)

  -- the item at one place more
  pub listed_again : (distinct : List X) (places : List ℕ) (place : ℕ) (x : X) → slice_get distinct place ≡ Some x → at_places distinct (places ++ place ∷ []) ≡ at_places distinct places ++ x ∷ []
  listed_again distinct places place x here =
      filter_map-append (slice_get distinct) places (place ∷ []) ∙ ap (λ (o : Option X). at_places distinct places ++ cons_option o []) here

  pub within_again : (distinct : List X) (places : List ℕ) (place : ℕ) (x : X) → Within distinct places → slice_get distinct place ≡ Some x → Within distinct (places ++ place ∷ [])
  within_again distinct places place x all here = All-push (λ p. p < length distinct) places place all (slice_get_within distinct place x here)

  got_before : (distinct : List X) (x : X) (place : ℕ) → place < length distinct → slice_get (distinct ++ x ∷ []) place ≡ slice_get distinct place
  got_before [] x place lt = absurd (omega (arith, lt))
  got_before (y ∷ ys) x zero lt = refl
  got_before (y ∷ ys) x (suc place) lt = got_before ys x place (omega (arith, lt))

  got_last : (distinct : List X) (x : X) → slice_get (distinct ++ x ∷ []) (length distinct) ≡ Some x
  got_last [] x = refl
  got_last (y ∷ ys) x = got_last ys x

  listed_before : (distinct : List X) (x : X) (places : List ℕ) → Within distinct places → at_places (distinct ++ x ∷ []) places ≡ at_places distinct places
  listed_before distinct x [] all = refl
  listed_before distinct x (p ∷ ps) all =
      ap (λ (o : Option X). cons_option o (at_places (distinct ++ x ∷ []) ps)) (got_before distinct x p (All-head (λ place. place < length distinct) p ps all))
      ∙ ap (cons_option (slice_get distinct p)) (listed_before distinct x ps (All-tail (λ place. place < length distinct) p ps all))

  -- one distinct item more, at its place
  pub listed_new : (distinct : List X) (places : List ℕ) (x : X) → Within distinct places → at_places (distinct ++ x ∷ []) (places ++ length distinct ∷ []) ≡ at_places distinct places ++ x ∷ []
  listed_new distinct places x all =
      listed_again (distinct ++ x ∷ []) places (length distinct) x (got_last distinct x) ∙ ap (λ l. l ++ x ∷ []) (listed_before distinct x places all)

  pub within_new : (distinct : List X) (places : List ℕ) (x : X) → Within distinct places → Within (distinct ++ x ∷ []) (places ++ length distinct ∷ [])
  within_new distinct places x all =
      let more = All-weaker (λ place. place < length distinct) (λ place. place < length (distinct ++ x ∷ [])) (λ place lt. omega (arith, lt, length_push distinct x)) places all in
      All-push (λ place. place < length (distinct ++ x ∷ [])) places (length distinct) more (omega (arith, length_push distinct x))

  pub within_take : (distinct : List X) (places : List ℕ) (n : ℕ) → Within distinct places → Within distinct (take n places)
  within_take distinct places n all = All-take (λ place. place < length distinct) n places all

  pub within_none : (distinct : List X) → Within distinct []
  within_none distinct = All-nil (λ place. place < length distinct)
