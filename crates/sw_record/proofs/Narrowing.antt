-- Marks of eight places.
use Rattle.std.proofs.Common.{◌≡◌, ◌≢◌, ◌↔◌, ◌⊎◌, ℕ, ◌+◌, ◌<◌, ◌≤◌, Bool, true, false, List, Option, Some, None, MatchOption, length, get_or, set, replicate, sym, ◌∙◌, ap, subst, inl, inr, arith}
use Rattle.std.proofs.lemmas.List.{get_or_past, get_or-set_same, get_or-set_other, get_or-replicate, length-replicate}
use Rattle.std.specs.Option.{is_some}
use Rattle.sw_record.specs.Together.{IsMarked, IsFirstMarked, HasMark}

lt_or_le : (a b : ℕ) → (a < b) ⊎ (b ≤ a)
lt_or_le a b = grind arith

not_true : false ≡ true → ⊥
not_true e = cc

-- a mark stands at a place that there is
pub marked_within : (marks : List Bool) (place : ℕ) → IsMarked marks place → place < length marks
marked_within marks place m = by (lt_or_le place (length marks))
  where
    by : (place < length marks) ⊎ (length marks ≤ place) → place < length marks
    by (inl lt) = lt
    by (inr le) = absurd (not_true (sym (get_or_past marks place false le) ∙ m))

-- where none of all places is marked
pub none_marked : (marks : List Bool) (n : ℕ) → length marks ≤ n → ((place : ℕ) → place < n → IsMarked marks place → ⊥) → (place : ℕ) → IsMarked marks place → ⊥
none_marked marks n le none place m = none place (omega (arith, le, marked_within marks place m)) m

pub only_marked : (marks : List Bool) (n near : ℕ) → length marks ≤ n → ((place : ℕ) → place < n → IsMarked marks place → place ≡ near) → (place : ℕ) → IsMarked marks place → place ≡ near
only_marked marks n near le only place m = only place (omega (arith, le, marked_within marks place m)) m

-- one more place is marked where it has a property
pub marked_more : (P : ℕ → Type 0) (marks : List Bool) (i : ℕ) (b : Bool) → i < length marks → (b ≡ true) ↔ P i → ((place : ℕ) → place < i → IsMarked marks place ↔ P place)
    → (place : ℕ) → place < i + 1 → IsMarked (set marks i b) place ↔ P place
marked_more P marks i b lt is done place under = by (lt_or_le place i)
  where
    by : (place < i) ⊎ (i ≤ place) → IsMarked (set marks i b) place ↔ P place
    by (inl before) =
        let other : place ≢ i = λ e. absurd_lt place i before e in
        let same : get_or (set marks i b) place false ≡ get_or marks place false = get_or-set_other marks i place b false other in
        (λ m. (done place before).0 (sym same ∙ m), λ p. same ∙ (done place before).1 p)
      where
        absurd_lt : (x y : ℕ) → x < y → x ≡ y → ⊥
        absurd_lt x y l e = omega (arith, l, e)
    by (inr behind) =
        let here : place ≡ i = omega (arith, behind, under) in
        let same : get_or (set marks i b) place false ≡ b = ap (λ (n : ℕ). get_or (set marks i b) n false) here ∙ get_or-set_same marks i b false lt in
        (λ m. subst P (sym here) (is.0 (sym same ∙ m)), λ p. same ∙ is.1 (subst P here p))

pub ahead_more : (marks : List Bool) (i : ℕ) (b : Bool) → ((place : ℕ) → i ≤ place → IsMarked marks place → ⊥) → (place : ℕ) → i + 1 ≤ place → IsMarked (set marks i b) place → ⊥
ahead_more marks i b none place le m =
    let other : place ≢ i = λ e. apart place i le e in
    let same : get_or (set marks i b) place false ≡ get_or marks place false = get_or-set_other marks i place b false other in
    none place (omega (arith, le)) (sym same ∙ m)
  where
    apart : (x y : ℕ) → y + 1 ≤ x → x ≡ y → ⊥
    apart x y l e = omega (arith, l, e)

pub marked_all : (P : ℕ → Type 0) (marks : List Bool) (n : ℕ) → ((place : ℕ) → place < n → IsMarked marks place ↔ P place) → ((place : ℕ) → n ≤ place → IsMarked marks place → ⊥) → ((place : ℕ) → P place → place < n)
    → (place : ℕ) → IsMarked marks place ↔ P place
marked_all P marks n done none within place = by (lt_or_le place n)
  where
    by : (place < n) ⊎ (n ≤ place) → IsMarked marks place ↔ P place
    by (inl lt) = done place lt
    by (inr le) = (λ m. absurd (none place le m), λ p. done_within p)
      where
        done_within : P place → IsMarked marks place
        done_within p = (done place (within place p)).1 p

-- at first no place is marked
pub none_first : (n place : ℕ) → IsMarked (replicate n false) place → ⊥
none_first n place m = by (lt_or_le place n)
  where
    by : (place < n) ⊎ (n ≤ place) → ⊥
    by (inl lt) = not_true (sym (get_or-replicate n place false false lt) ∙ m)
    by (inr le) = not_true (sym (get_or_past (replicate n false) place false (omega (arith, le, length-replicate n false))) ∙ m)

-- what the search for the first mark finds
pub no_mark : (marks : List Bool) (found : Option ℕ) → MatchOption found ((place : ℕ) → IsMarked marks place → ⊥) (λ place. IsFirstMarked marks place) → is_some found ≡ false → (place : ℕ) → IsMarked marks place → ⊥
no_mark marks None told none = told
no_mark marks (Some place) told none = absurd (not_true (sym none))

pub a_mark : (marks : List Bool) (found : Option ℕ) → MatchOption found ((place : ℕ) → IsMarked marks place → ⊥) (λ place. IsFirstMarked marks place) → is_some found ≡ true → HasMark marks
a_mark marks None told some = absurd (not_true some)
a_mark marks (Some place) told some = (place, told.marked)
