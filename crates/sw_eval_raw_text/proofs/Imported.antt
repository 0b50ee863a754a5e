-- What stands behind `@import`, step by step.
use Rattle.std.proofs.Common.{◌≡◌, ℕ, zero, suc, ◌+◌, ◌-◌, ◌<◌, ◌≤◌, true, false, List, [], ◌∷◌, ◌++◌, length, drop, get_or, Some, None, refl, sym, ◌∙◌, ap, arith, append_assoc, append-nil}
use Rattle.std.specs.Prelude.{nat_le, if◌then◌else◌}
use Rattle.std.proofs.lemmas.Bool.Decides.{nat_tests}
use Rattle.sw_tree.specs.declared.text.Piece.{Piece}
use Rattle.sw_text_scan.proofs.Bounds.{if_true, if_false}
use Rattle.sw_text_scan.specs.Pieces.{piece}
use Rattle.sw_eval_calls.proofs.Items.{next_item, drop_all}
use Rattle.sw_eval_raw_text.specs.Imports.{piece_template, templates, is_text, inserted_one, inserted_of, is_mark, mark_step, mark_in, place_for, with_first, pieces_by, pieces_in, filled_in, filled_from}

-- ---- templates

pub template_next : (done : List (List ℕ)) (ps : List Piece) (i : ℕ) (p : Piece) → i < length ps → p ≡ get_or ps i p
    → (done ++ piece_template p ∷ []) ++ templates (drop (i + 1) ps) ≡ done ++ templates (drop i ps)
template_next done ps i p lt is =
    rw (next_item ps i p lt is) (append_assoc done (piece_template p ∷ []) (templates (drop (i + 1) ps)))

pub templates_end : (done : List (List ℕ)) (ps : List Piece) (i : ℕ) → length ps ≤ i → done ++ templates (drop i ps) ≡ done
templates_end done ps i le = rw (drop_all ps i le) (append-nil done)

pub none_more : (done : List (List ℕ)) (p : Piece) (text : List ℕ) → is_text p ≡ true → done ≡ done ++ inserted_one p text
none_more done p text e = sym (ap (λ (xs : List (List ℕ)). done ++ xs) (if_true (is_text p) [] (text ∷ []) e) ∙ append-nil done)

pub one_more : (done : List (List ℕ)) (p : Piece) (text : List ℕ) → is_text p ≡ false → done ++ text ∷ [] ≡ done ++ inserted_one p text
one_more done p text e = sym (ap (λ (xs : List (List ℕ)). done ++ xs) (if_false (is_text p) [] (text ∷ []) e))

pub inserted_next : (done : List (List ℕ)) (ps : List Piece) (texts : List (List ℕ)) (i : ℕ) (p : Piece) (text : List ℕ) → i < length ps → i < length texts → p ≡ get_or ps i p → text ≡ get_or texts i text
    → (done ++ inserted_one p text) ++ inserted_of (drop (i + 1) ps) (drop (i + 1) texts) ≡ done ++ inserted_of (drop i ps) (drop i texts)
inserted_next done ps texts i p text lt more is has =
    rw (next_item ps i p lt is, next_item texts i text more has)
    (append_assoc done (inserted_one p text) (inserted_of (drop (i + 1) ps) (drop (i + 1) texts)))

none_inserted : (ps : List Piece) → inserted_of ps [] ≡ []
none_inserted [] = refl
none_inserted (p ∷ ps) = refl

pub inserted_none : (done : List (List ℕ)) (ps : List Piece) (texts : List (List ℕ)) (i : ℕ) → length texts ≤ i → done ++ inserted_of (drop i ps) (drop i texts) ≡ done
inserted_none done ps texts i le = rw (drop_all texts i le, none_inserted (drop i ps)) (append-nil done)

pub inserted_end : (done : List (List ℕ)) (ps : List Piece) (texts : List (List ℕ)) (i : ℕ) → length ps ≤ i → done ++ inserted_of (drop i ps) (drop i texts) ≡ done
inserted_end done ps texts i le = rw (drop_all ps i le) (append-nil done)

-- ---- values

any_default : (xs : List (List ℕ)) (i : ℕ) → i < length xs → (d e : List ℕ) → get_or xs i d ≡ get_or xs i e
any_default [] i lt d e = absurd (omega arith)
any_default (x ∷ xs) zero lt d e = refl
any_default (x ∷ xs) (suc i) lt d e = any_default xs i (omega arith) d e

module _ (bs : List ℕ) where
  -- ---- values in parts

  pub mark_past : (n at : ℕ) → length bs ≤ at → mark_in n bs at ≡ None
  mark_past zero at le = refl
  mark_past (suc n) at le =
      if_true (nat_le (length bs) at) None (if is_mark bs at then Some at else mark_in n bs (at + mark_step bs at)) (grind (arith, nat_tests))

  pub mark_found : (n at : ℕ) → 0 < n → at < length bs → is_mark bs at ≡ true → mark_in n bs at ≡ Some at
  mark_found zero at z lt e = absurd (omega arith)
  mark_found (suc n) at z lt e =
      if_false (nat_le (length bs) at) None (if is_mark bs at then Some at else mark_in n bs (at + mark_step bs at)) (grind (arith, nat_tests))
      ∙ if_true (is_mark bs at) (Some at) (mark_in n bs (at + mark_step bs at)) e

  pub mark_on : (n at : ℕ) → 0 < n → at < length bs → is_mark bs at ≡ false → mark_in n bs at ≡ mark_in (n - 1) bs (at + mark_step bs at)
  mark_on zero at z lt e = absurd (omega arith)
  mark_on (suc n) at z lt e =
      if_false (nat_le (length bs) at) None (if is_mark bs at then Some at else mark_in n bs (at + mark_step bs at)) (grind (arith, nat_tests))
      ∙ if_false (is_mark bs at) (Some at) (mark_in n bs (at + mark_step bs at)) e
      ∙ ap (λ (k : ℕ). mark_in k bs (at + mark_step bs at)) less
    where
      less : n ≡ suc n - 1
      less = omega arith

  module _ (values : List (List ℕ)) where
    pub rest_is : (n taken from : ℕ) → 0 < n → place_for bs values taken from ≡ None → pieces_in n bs values taken from ≡ (piece bs from (length bs) ∷ [], taken)
    rest_is zero taken from z e = absurd (omega arith)
    rest_is (suc n) taken from z e = ap (pieces_by (pieces_in n bs values) bs values taken from) e

    pub goes_on : (n taken from place : ℕ) (value : List ℕ) → 0 < n → place_for bs values taken from ≡ Some place → value ≡ get_or values taken value → taken < length values
        → pieces_in n bs values taken from ≡ with_first (piece bs from place) value (pieces_in (n - 1) bs values (taken + 1) (place + 3))
    goes_on zero taken from place value z e is lt = absurd (omega arith)
    goes_on (suc n) taken from place value z e is lt =
        ap (pieces_by (pieces_in n bs values) bs values taken from) e
        ∙ ap (λ (v : List ℕ). with_first (piece bs from place) v (pieces_in n bs values (taken + 1) (place + 3))) (any_default values taken lt [] value ∙ sym is)
        ∙ ap (λ (k : ℕ). with_first (piece bs from place) value (pieces_in k bs values (taken + 1) (place + 3))) less
      where
        less : n ≡ suc n - 1
        less = omega arith

    pub marks_next : (done more made : List (List ℕ)) (n taken from place : ℕ) (value : List ℕ) → 0 < n → place_for bs values taken from ≡ Some place → value ≡ get_or values taken value → taken < length values
        → more ≡ done ++ piece bs from place ∷ [] → made ≡ more ++ value ∷ []
        → made ++ (pieces_in (n - 1) bs values (taken + 1) (place + 3)).0 ≡ done ++ (pieces_in n bs values taken from).0
    marks_next done more made n taken from place value z e is lt first both =
        let rest : List (List ℕ) × ℕ = pieces_in (n - 1) bs values (taken + 1) (place + 3) in
        ap (λ (xs : List (List ℕ)). xs ++ rest.0) (both ∙ ap (λ (xs : List (List ℕ)). xs ++ value ∷ []) first)
        ∙ append_assoc (done ++ piece bs from place ∷ []) (value ∷ []) rest.0
        ∙ append_assoc done (piece bs from place ∷ []) (value ∷ rest.0)
        ∙ ap (λ (r : List (List ℕ) × ℕ). done ++ r.0) (sym (goes_on n taken from place value z e is lt))

    pub taken_next : (n taken from place : ℕ) (value : List ℕ) → 0 < n → place_for bs values taken from ≡ Some place → value ≡ get_or values taken value → taken < length values
        → (pieces_in (n - 1) bs values (taken + 1) (place + 3)).1 ≡ (pieces_in n bs values taken from).1
    taken_next n taken from place value z e is lt = ap (λ (r : List (List ℕ) × ℕ). r.1) (sym (goes_on n taken from place value z e is lt))

pub filled_next : (done parts values : List (List ℕ)) (i taken : ℕ) (part : List ℕ) (text : List ℕ) (next : ℕ) → i < length parts → part ≡ get_or parts i part → text ≡ (filled_in part values taken).0 → next ≡ (filled_in part values taken).1
    → (done ++ text ∷ []) ++ filled_from values next (drop (i + 1) parts) ≡ done ++ filled_from values taken (drop i parts)
filled_next done parts values i taken part text next lt is e f =
    rw (next_item parts i part lt is, e, f) (append_assoc done ((filled_in part values taken).0 ∷ []) (filled_from values (filled_in part values taken).1 (drop (i + 1) parts)))

pub filled_end : (done parts values : List (List ℕ)) (i taken : ℕ) → length parts ≤ i → done ++ filled_from values taken (drop i parts) ≡ done
filled_end done parts values i taken le = rw (drop_all parts i le) (append-nil done)
