-- What special text is but for its white space.
use Rattle.std.proofs.Common.{◌≡◌, ℕ, Bool, true, false, not, ◌&&◌, ◌⊎◌, inl, inr, List, [], ◌∷◌, ◌++◌, refl, sym, ◌∙◌, ap}
use Rattle.std.specs.Prelude.{codes, if◌then◌else◌, ◌==◌, is_none}
use Rattle.sw_text_scan.proofs.Bounds.{if_true, if_false, and_right, not_true}
use Rattle.sw_text_scan.specs.Bytes.{sign, byte, is_white}
use Rattle.sw_eval_raw_text.specs.Spacing.{stepped, is_blank, shows_space, is_end, spaced, unspaced, is_single}
use Rattle.sw_eval_raw_text.specs.declared.spacing.Reading.{Reading}

true_or_false : (b : Bool) → (b ≡ true) ⊎ (b ≡ false)
true_or_false true = inl refl
true_or_false false = inr refl

-- where white space may be left out, a space may be too
space_is_blank : (r : Reading) (b : ℕ) → is_blank r b ≡ true → is_blank r (sign " ") ≡ true
space_is_blank r b e = and_right (is_white b) (is_none r.quote && not (r.before == sign "\\")) e

-- ---- the same text

blank_gone : (r : Reading) (b : ℕ) (bs : List ℕ) → is_blank r b ≡ true → unspaced r (b ∷ bs) ≡ unspaced r bs
blank_gone r b bs e = if_true (is_blank r b) (unspaced r bs) (b ∷ unspaced (stepped r b) bs) e

kept_one : (r : Reading) (b : ℕ) (bs : List ℕ) → is_blank r b ≡ false → unspaced r (b ∷ bs) ≡ b ∷ unspaced (stepped r b) bs
kept_one r b bs e = if_false (is_blank r b) (unspaced r bs) (b ∷ unspaced (stepped r b) bs) e

space_gone : (r : Reading) (b : ℕ) (shown : Bool) (bs : List ℕ) → is_blank r b ≡ true → unspaced r ((if shown then codes " " else []) ++ bs) ≡ unspaced r bs
space_gone r b true bs e = blank_gone r (sign " ") bs (space_is_blank r b e)
space_gone r b false bs e = refl

module _ (is_last : Bool) where
  spaced_blank : (r : Reading) (b : ℕ) (bs : List ℕ) → is_blank r b ≡ true
      → spaced is_last r (b ∷ bs) ≡ (if shows_space r (is_end is_last bs) (byte bs 0) then codes " " else []) ++ spaced is_last r bs
  spaced_blank r b bs e =
      if_true (is_blank r b) ((if shows_space r (is_end is_last bs) (byte bs 0) then codes " " else []) ++ spaced is_last r bs) (b ∷ spaced is_last (stepped r b) bs) e

  spaced_kept : (r : Reading) (b : ℕ) (bs : List ℕ) → is_blank r b ≡ false → spaced is_last r (b ∷ bs) ≡ b ∷ spaced is_last (stepped r b) bs
  spaced_kept r b bs e =
      if_false (is_blank r b) ((if shows_space r (is_end is_last bs) (byte bs 0) then codes " " else []) ++ spaced is_last r bs) (b ∷ spaced is_last (stepped r b) bs) e

  pub same_text : (r : Reading) (bs : List ℕ) → unspaced r (spaced is_last r bs) ≡ unspaced r bs
  same_text r [] = refl
  same_text r (b ∷ bs) = elim (true_or_false (is_blank r b)) [
    | inl e ↦ ap (unspaced r) (spaced_blank r b bs e)
        ∙ space_gone r b (shows_space r (is_end is_last bs) (byte bs 0)) (spaced is_last r bs) e
        ∙ same_text r bs ∙ sym (blank_gone r b bs e)
    | inr e ↦ ap (unspaced r) (spaced_kept r b bs e)
        ∙ kept_one r b (spaced is_last (stepped r b) bs) e
        ∙ ap (λ (xs : List ℕ). b ∷ xs) (same_text (stepped r b) bs) ∙ sym (kept_one r b bs e)
  ]

  -- ---- single spaces

  single_blank : (r : Reading) (b : ℕ) (bs : List ℕ) → is_blank r b ≡ true → is_single r (b ∷ bs) ≡ ((b == sign " ") && (not (is_white (byte bs 0)) && is_single r bs))
  single_blank r b bs e = if_true (is_blank r b) ((b == sign " ") && (not (is_white (byte bs 0)) && is_single r bs)) (is_single (stepped r b) bs) e

  single_kept : (r : Reading) (b : ℕ) (bs : List ℕ) → is_blank r b ≡ false → is_single r (b ∷ bs) ≡ is_single (stepped r b) bs
  single_kept r b bs e = if_false (is_blank r b) ((b == sign " ") && (not (is_white (byte bs 0)) && is_single r bs)) (is_single (stepped r b) bs) e

  not_white_blank : (r : Reading) (b : ℕ) → is_white b ≡ false → is_blank r b ≡ false
  not_white_blank r b e = ap (λ (w : Bool). w && (is_none r.quote && not (r.before == sign "\\"))) e

  at_first : (b : ℕ) (bs : List ℕ) → is_white (byte (b ∷ bs) 0) ≡ false → is_white b ≡ false
  unfolding byte
  at_first b bs e = e

  -- what is no white space begins what is made of it
  first_kept : (r : Reading) (bs : List ℕ) → is_white (byte bs 0) ≡ false → byte (spaced is_last r bs) 0 ≡ byte bs 0
  unfolding byte
  first_kept r [] e = refl
  first_kept r (b ∷ bs) e = ap (λ (xs : List ℕ). byte xs 0) (spaced_kept r b bs (not_white_blank r b (at_first b bs e)))

  both : (a b : Bool) → a ≡ true → b ≡ true → (a && b) ≡ true
  both true true e f = refl
  both true false e f = f
  both false b e f = e

  space_single : (r : Reading) (b : ℕ) (bs : List ℕ) (shown : Bool) → is_blank r b ≡ true → (shown ≡ true → is_white (byte bs 0) ≡ false) → is_single r (spaced is_last r bs) ≡ true
      → is_single r ((if shown then codes " " else []) ++ spaced is_last r bs) ≡ true
  space_single r b bs false e f single = single
  space_single r b bs true e f single =
      single_blank r (sign " ") (spaced is_last r bs) (space_is_blank r b e)
      ∙ both (not (is_white (byte (spaced is_last r bs) 0))) (is_single r (spaced is_last r bs)) (ap not (ap is_white (first_kept r bs (f refl)) ∙ f refl)) single

  none_behind : (r : Reading) (ends : Bool) (next : ℕ) → shows_space r ends next ≡ true → is_white next ≡ false
  none_behind r ends next e = not_true (is_white next) (and_right (not ends) (not (is_white next)) (and_right r.inside (not ends && not (is_white next)) e))

  pub single_spaces : (r : Reading) (bs : List ℕ) → is_single r (spaced is_last r bs) ≡ true
  single_spaces r [] = refl
  single_spaces r (b ∷ bs) = elim (true_or_false (is_blank r b)) [
    | inl e ↦ ap (is_single r) (spaced_blank r b bs e)
        ∙ space_single r b bs (shows_space r (is_end is_last bs) (byte bs 0)) e (none_behind r (is_end is_last bs) (byte bs 0)) (single_spaces r bs)
    | inr e ↦ ap (is_single r) (spaced_kept r b bs e)
        ∙ single_kept r b (spaced is_last (stepped r b) bs) e ∙ single_spaces (stepped r b) bs
  ]
