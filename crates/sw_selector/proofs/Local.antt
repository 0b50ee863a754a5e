-- Attributes and prefixes that stand in two texts end at the same place in both.
use Rattle.std.proofs.Common.{◌≡◌, ℕ, ◌+◌, ◌-◌, ◌≤◌, ◌<◌, Bool, true, false, not, ◌&&◌, ◌||◌, List, refl, sym, ◌∙◌, ap, subst, arith, Option, Some, None}
use Rattle.std.specs.Prelude.{◌==◌, if◌then◌else◌}
use Rattle.std.proofs.lemmas.Bool.Decides.{nat_tests}
use Rattle.sw_text_scan.specs.declared.runs.Class.{Class}
use Rattle.sw_text_scan.specs.declared.runs.Class.TheVariants as classes
use Rattle.sw_text_scan.specs.Bytes.{sign, byte, is_white, is_letter, is_name_byte, is_quote}
use Rattle.sw_text_scan.specs.Runs.{next, run_end, begins_name}
use Rattle.sw_text_scan.specs.Brackets.{string_end}
use Rattle.sw_text_scan.proofs.Bounds.{if_true, if_false, and_left, and_right, run_forward}
use Rattle.sw_text_scan.proofs.Progress.{run_stops}
use Rattle.sw_selector.specs.Attributes.{word_end, prefix_end, is_operator_sign, operator_end, value_end, bracket_end, modifier_end, valued_end, operated_end, matched_end, named_end}
use Rattle.sw_text_locality.specs.Names.{white, name_end}
use Rattle.sw_selector.proofs.Lexical.{begins_word, name_none, value_ahead, operator_ahead}
use Rattle.sw_text_locality.proofs.Lexical.{split, white_none, white_forward, name_forward}
use Rattle.sw_text_locality.proofs.Begins.{begins_kept}
use Rattle.sw_text_locality.proofs.Kept.{Alike}
use Rattle.sw_text_locality.proofs.Written.{no_name}
use Rattle.sw_text_locality.proofs.Runs.{name_stops, white_stops, text_stops, Steps, white_steps, name_steps, text_steps, run_again}

pub some_is : {k j : ℕ} → Some k ≡ Some j → k ≡ j
some_is e = cc

both : (a b : Bool) → a ≡ true → b ≡ true → (a && b) ≡ true
both true b e f = f
both false b e f = absurd (cc)

none_left : (a b : Bool) → a ≡ false → (a && b) ≡ false
none_left true b e = absurd (cc)
none_left false b e = refl

no_slash : (b : ℕ) → (is_letter b || (b == sign "]")) ≡ true → (b == sign "\\") ≡ false
no_slash b e = grind (arith, nat_tests)

pub white_slash : (b : ℕ) → is_white b ≡ true → (b == sign "\\") ≡ false
white_slash b e = grind (arith, nat_tests)

-- behind white space no `\` stands, so none stands before it
behind_white : (bs : List ℕ) (p : ℕ) → (byte bs (white bs p) == sign "\\") ≡ false → (byte bs p == sign "\\") ≡ false
behind_white bs p e = go (is_white (byte bs p)) refl
  where
    go : (t : Bool) → is_white (byte bs p) ≡ t → (byte bs p == sign "\\") ≡ false
    go true t = white_slash (byte bs p) t
    go false t = ap (λ (x : ℕ). byte bs x == sign "\\") (sym (white_none bs p t)) ∙ e

pub white_ends : (bs : List ℕ) (p : ℕ) → is_white (byte bs (white bs p)) ≡ false
white_ends bs p = go (is_white (byte bs (white bs p))) refl
  where
    go : (t : Bool) → is_white (byte bs (white bs p)) ≡ t → t ≡ false
    go false t = refl
    go true t =
        let stops = run_stops bs classes.White p in
        let on = if_true (is_white (byte bs (white bs p))) (white bs p + 1) (white bs p) t in
        absurd (omega (arith, stops, on))

module _ (bs cs : List ℕ) (i d n : ℕ) (a : Alike bs cs i d n) where
  -- the place in the other text
  abbrev pub at : ℕ → ℕ
  at p = d + (p - i)

  pub same : (p : ℕ) → i ≤ p → p < i + n → byte cs (at p) ≡ byte bs p
  same p l lt = sym (ap (byte bs) (let e : p ≡ i + (p - i) = omega (arith, l) in e) ∙ a (p - i) (omega (arith, l, lt)))

  pub same_on : (p k : ℕ) → i ≤ p → p + k < i + n → byte cs (at p + k) ≡ byte bs (p + k)
  same_on p k l lt = ap (byte cs) (let e : at p + k ≡ at (p + k) = omega (arith, l) in e) ∙ same (p + k) (omega (arith, l)) lt

  from : (p m : ℕ) → i ≤ p → p + m ≤ i + n → Alike bs cs p (at p) m
  from p m l r k lt = sym (same_on p k l (omega (arith, lt, r)))

  pub run_at : (c : Class) → Steps bs cs c → (p : ℕ) → i ≤ p → run_end c bs p < i + n → next c cs (at (run_end c bs p)) ≤ at (run_end c bs p)
      → run_end c cs (at p) ≡ at (run_end c bs p)
  run_at c steps p l lt stops =
      let fw = run_forward bs c p in
      let back : at p + (run_end c bs p - p) ≡ at (run_end c bs p) = omega (arith, l, fw) in
      run_again bs cs c steps (run_end c bs p - p) p (at p) (run_end c bs p - p) (omega arith) (let e : run_end c bs p ≡ p + (run_end c bs p - p) = omega (arith, fw) in e)
      (from p ((run_end c bs p - p) + 1) l (omega (arith, fw, lt))) (subst (λ (x : ℕ). next c cs x ≤ x) (sym back) stops)
      ∙ back

  pub white_at : (p : ℕ) → i ≤ p → white bs p < i + n → white cs (at p) ≡ at (white bs p)
  white_at p l lt =
      let fw = white_forward bs p in
      run_at classes.White (white_steps bs cs) p l lt
      (white_stops cs (at (white bs p)) (ap is_white (same (white bs p) (omega (arith, fw, l)) lt) ∙ white_ends bs p))

  pub name_at : (p : ℕ) → i ≤ p → name_end bs p < i + n → (byte bs (name_end bs p) == sign "\\") ≡ false → name_end cs (at p) ≡ at (name_end bs p)
  name_at p l lt slash =
      let fw = name_forward bs p in
      let there = same (name_end bs p) (omega (arith, fw, l)) lt in
      run_at classes.Name (name_steps bs cs) p l lt
      (name_stops cs (at (name_end bs p)) (ap is_name_byte there ∙ no_name bs (name_end bs p) (run_stops bs classes.Name p)) (ap (λ (b : ℕ). b == sign "\\") there ∙ slash))

  pub begins_at : (p : ℕ) → i ≤ p → name_end bs p ≤ i + n → begins_name bs p ≡ true → begins_name cs (at p) ≡ true
  begins_at p l r e =
      let fw = name_forward bs p in
      begins_kept bs cs p (at p) (name_end bs p - p) (from p (name_end bs p - p) l (omega (arith, fw, r))) e (omega (arith, fw))

  pub string_at : (q p r : ℕ) → string_end bs q p ≡ Some r → i ≤ p → r ≤ i + n → string_end cs q (at p) ≡ Some (at r)
  unfolding string_end
  string_at q p r e l room =
      split (byte bs (run_end (classes.Text q) bs (p + 1)) == q) (Some (run_end (classes.Text q) bs (p + 1) + 1)) None (Some r)
      (λ t f. let here = some_is f in
      let fw = run_forward bs (classes.Text q) (p + 1) in
      let there = same (run_end (classes.Text q) bs (p + 1)) (omega (arith, fw, l)) (omega (arith, here, room)) in
      let run = run_at (classes.Text q) (text_steps bs cs q) (p + 1) (omega (arith, l)) (omega (arith, here, room))
      (text_stops cs q (at (run_end (classes.Text q) bs (p + 1))) (ap (λ (b : ℕ). b == q) there ∙ t)) in
      let end : run_end (classes.Text q) cs (at p + 1) ≡ at (run_end (classes.Text q) bs (p + 1)) = ap (run_end (classes.Text q) cs) (let z : at p + 1 ≡ at (p + 1) = omega (arith, l) in z) ∙ run in
      if_true (byte cs (run_end (classes.Text q) cs (at p + 1)) == q) (Some (run_end (classes.Text q) cs (at p + 1) + 1)) None
      (ap (λ (x : ℕ). byte cs x == q) end ∙ ap (λ (b : ℕ). b == q) there ∙ t)
      ∙ ap Some (let z : run_end (classes.Text q) cs (at p + 1) + 1 ≡ at r = omega (arith, end, here, fw, l) in z))
      (λ t f. absurd (cc)) e

  bracket_at : (p r : ℕ) → bracket_end bs p ≡ Some r → i ≤ p → r ≤ i + n → bracket_end cs (at p) ≡ Some (at r)
  bracket_at p r e l room =
      split (byte bs p == sign "]") (Some (p + 1)) None (Some r)
      (λ t f. let here = some_is f in
      if_true (byte cs (at p) == sign "]") (Some (at p + 1)) None (ap (λ (b : ℕ). b == sign "]") (same p l (omega (arith, here, room))) ∙ t)
      ∙ ap Some (let z : at p + 1 ≡ at r = omega (arith, here, l) in z))
      (λ t f. absurd (cc)) e

  bracket_is : (p r : ℕ) → bracket_end bs p ≡ Some r → (r ≡ p + 1) × ((byte bs p == sign "]") ≡ true)
  bracket_is p r e =
      split (byte bs p == sign "]") (Some (p + 1)) None (Some r) (λ t f. (sym (some_is f), t)) (λ t f. absurd (cc)) e

  modifier_at : (p r : ℕ) → modifier_end bs p ≡ Some r → i ≤ p → r ≤ i + n → modifier_end cs (at p) ≡ Some (at r)
  unfolding modifier_end
  modifier_at p r e l room =
      split (is_letter (byte bs p)) (bracket_end bs (white bs (p + 1))) (bracket_end bs p) (Some r)
      (λ t f. let end = (bracket_is (white bs (p + 1)) r f).0 in
      let fw = white_forward bs (p + 1) in
      let here = same p l (omega (arith, fw, end, room)) in
      if_true (is_letter (byte cs (at p))) (bracket_end cs (white cs (at p + 1))) (bracket_end cs (at p)) (ap is_letter here ∙ t)
      ∙ ap (λ (x : ℕ). bracket_end cs (white cs x)) (let z : at p + 1 ≡ at (p + 1) = omega (arith, l) in z)
      ∙ ap (bracket_end cs) (white_at (p + 1) (omega (arith, l)) (omega (arith, end, room)))
      ∙ bracket_at (white bs (p + 1)) r f (omega (arith, fw, l)) room)
      (λ t f. let end = (bracket_is p r f).0 in
      let here = same p l (omega (arith, end, room)) in
      if_false (is_letter (byte cs (at p))) (bracket_end cs (white cs (at p + 1))) (bracket_end cs (at p)) (ap is_letter here ∙ t) ∙ bracket_at p r f l room) e

  -- what stands there, and that more follows
  modifier_is : (p r : ℕ) → modifier_end bs p ≡ Some r → (p < r) × ((is_letter (byte bs p) || (byte bs p == sign "]")) ≡ true)
  unfolding modifier_end
  modifier_is p r e =
      split (is_letter (byte bs p)) (bracket_end bs (white bs (p + 1))) (bracket_end bs p) (Some r)
      (λ t f. let end = (bracket_is (white bs (p + 1)) r f).0 in let fw = white_forward bs (p + 1) in (omega (arith, end, fw), left (is_letter (byte bs p)) _ t))
      (λ t f. let end = bracket_is p r f in (let x = end.0 in omega (arith, x), right (is_letter (byte bs p)) _ end.1)) e
    where
      left : (x y : Bool) → x ≡ true → (x || y) ≡ true
      left true y e = refl
      left false y e = absurd (cc)

      right : (x y : Bool) → y ≡ true → (x || y) ≡ true
      right true y e = refl
      right false y e = e

  value_at : (p r : ℕ) → value_end bs p ≡ Some r → i ≤ p → r < i + n → (byte bs r == sign "\\") ≡ false → value_end cs (at p) ≡ Some (at r)
  unfolding value_end
  value_at p r e l room slash =
      let ahead = value_ahead bs p r (value_is e) in
      let there = same p l (omega (arith, ahead, room)) in
      split (is_quote (byte bs p)) (string_end bs (byte bs p) p) _ (Some r)
      (λ t f. if_true (is_quote (byte cs (at p))) (string_end cs (byte cs (at p)) (at p)) _ (ap is_quote there ∙ t)
      ∙ ap (λ (b : ℕ). string_end cs b (at p)) there ∙ string_at (byte bs p) p r f l (omega (arith, room)))
      (λ t f. if_false (is_quote (byte cs (at p))) (string_end cs (byte cs (at p)) (at p)) _ (ap is_quote there ∙ t)
      ∙ split (begins_name bs p) (Some (name_end bs p)) None (Some r)
      (λ u g. let here = some_is g in
      if_true (begins_name cs (at p)) (Some (name_end cs (at p))) None (begins_at p l (omega (arith, here, room)) u)
      ∙ ap Some (name_at p l (omega (arith, here, room)) (ap (λ (x : ℕ). byte bs x == sign "\\") here ∙ slash) ∙ ap at here))
      (λ u g. absurd (cc)) f) e
    where
      value_is : (if is_quote (byte bs p) then string_end bs (byte bs p) p else (if begins_name bs p then Some (name_end bs p) else None)) ≡ Some r → value_end bs p ≡ Some r
      value_is e = e

  valued_at : (o : Option ℕ) (p r : ℕ) → o ≡ Some p → valued_end bs o ≡ Some r → i ≤ p → r ≤ i + n → (valued_end cs (Some (at p)) ≡ Some (at r)) × ((p < r) × ((byte bs p == sign "\\") ≡ false))
  valued_at None p r f e l room = absurd (cc)
  valued_at (Some x) p r f e l room =
      let here : modifier_end bs (white bs p) ≡ Some r = ap (λ (z : ℕ). modifier_end bs (white bs z)) (sym (some_is f)) ∙ e in
      let is = modifier_is (white bs p) r here in
      let lt = is.0 in
      let fw = white_forward bs p in (
        ap (modifier_end cs) (white_at p l (omega (arith, lt, room))) ∙ modifier_at (white bs p) r here (omega (arith, fw, l)) room,
        (omega (arith, lt, fw), behind_white bs p (no_slash (byte bs (white bs p)) is.1)),
      )

  operated_at : (p r : ℕ) → operated_end bs (Some p) ≡ Some r → i ≤ p → r ≤ i + n → (operated_end cs (Some (at p)) ≡ Some (at r)) × (p < r)
  operated_at p r e l room = go (value_end bs (white bs p)) refl e
    where
      go : (o : Option ℕ) → value_end bs (white bs p) ≡ o → valued_end bs o ≡ Some r → (operated_end cs (Some (at p)) ≡ Some (at r)) × (p < r)
      go None f g = absurd (cc)
      go (Some v) f g =
          let fw = white_forward bs p in
          let ahead = value_ahead bs (white bs p) v f in
          let rest = valued_at (Some v) v r refl g (omega (arith, fw, ahead, l)) room in
          let lt = rest.1.0 in (
            ap (λ (x : ℕ). valued_end cs (value_end cs x)) (white_at p l (omega (arith, lt, ahead, room)))
                ∙ ap (valued_end cs) (value_at (white bs p) v f (omega (arith, fw, l)) (omega (arith, lt, room)) rest.1.1) ∙ rest.0,
            omega (arith, lt, ahead, fw),
          )

  operator_at : (p r : ℕ) → operator_end bs p ≡ Some r → i ≤ p → r ≤ i + n → (operator_end cs (at p) ≡ Some (at r)) × (p < r)
  unfolding operator_end
  operator_at p r e l room =
      split (byte bs p == sign "=") (Some (p + 1)) _ (Some r)
      (λ t f. let here = some_is f in (
        if_true (byte cs (at p) == sign "=") (Some (at p + 1)) _ (ap (λ (b : ℕ). b == sign "=") (same p l (omega (arith, here, room))) ∙ t)
            ∙ ap Some (let z : at p + 1 ≡ at r = omega (arith, here, l) in z),
        omega (arith, here),
      ))
      (λ t f. split (is_operator_sign (byte bs p) && (byte bs (p + 1) == sign "=")) (Some (p + 2)) None (Some r)
      (λ u g. let here = some_is g in
      let first = same p l (omega (arith, here, room)) in
      let second = same_on p 1 l (omega (arith, here, room)) in (
        if_false (byte cs (at p) == sign "=") (Some (at p + 1)) _ (ap (λ (b : ℕ). b == sign "=") first ∙ t)
            ∙ if_true (is_operator_sign (byte cs (at p)) && (byte cs (at p + 1) == sign "=")) (Some (at p + 2)) None
            (both (is_operator_sign (byte cs (at p))) _ (ap is_operator_sign first ∙ and_left (is_operator_sign (byte bs p)) _ u)
            (ap (λ (b : ℕ). b == sign "=") second ∙ and_right (is_operator_sign (byte bs p)) _ u))
            ∙ ap Some (let z : at p + 2 ≡ at r = omega (arith, here, l) in z),
        omega (arith, here),
      ))
      (λ u g. absurd (cc)) f) e

  operator_slash : (p r : ℕ) → operator_end bs p ≡ Some r → (byte bs p == sign "\\") ≡ false
  unfolding operator_end
  operator_slash p r e =
      split (byte bs p == sign "=") (Some (p + 1)) _ (Some r) (λ t f. equals (byte bs p) t)
      (λ t f. split (is_operator_sign (byte bs p) && (byte bs (p + 1) == sign "=")) (Some (p + 2)) None (Some r)
      (λ u g. signs (byte bs p) (and_left (is_operator_sign (byte bs p)) _ u)) (λ u g. absurd (cc)) f) e
    where
      equals : (b : ℕ) → (b == sign "=") ≡ true → (b == sign "\\") ≡ false
      equals b t = grind (arith, nat_tests)

      signs : (b : ℕ) → is_operator_sign b ≡ true → (b == sign "\\") ≡ false
      signs b t = grind (arith, nat_tests)

  matched_at : (p r : ℕ) → matched_end bs p ≡ Some r → i ≤ p → r ≤ i + n → (matched_end cs (at p) ≡ Some (at r)) × ((p < r) × ((byte bs p == sign "\\") ≡ false))
  unfolding matched_end
  matched_at p r e l room =
      split (byte bs p == sign "]") (Some (p + 1)) _ (Some r)
      (λ t f. let here = some_is f in (
        if_true (byte cs (at p) == sign "]") (Some (at p + 1)) _ (ap (λ (b : ℕ). b == sign "]") (same p l (omega (arith, here, room))) ∙ t)
            ∙ ap Some (let z : at p + 1 ≡ at r = omega (arith, here, l) in z),
        (omega (arith, here), bracket (byte bs p) t),
      ))
      (λ t f. go t (operator_end bs p) refl f) e
    where
      bracket : (b : ℕ) → (b == sign "]") ≡ true → (b == sign "\\") ≡ false
      bracket b t = grind (arith, nat_tests)

      go : (byte bs p == sign "]") ≡ false → (o : Option ℕ) → operator_end bs p ≡ o → operated_end bs o ≡ Some r
          → ((if byte cs (at p) == sign "]" then Some (at p + 1) else operated_end cs (operator_end cs (at p))) ≡ Some (at r)) × ((p < r) × ((byte bs p == sign "\\") ≡ false))
      go t None f g = absurd (cc)
      go t (Some k) f g =
          let ahead = operator_ahead bs p k f in
          let rest = operated_at k r g (omega (arith, ahead, l)) room in
          let lt = rest.1 in
          let first = operator_at p k f l (omega (arith, lt, room)) in (
            if_false (byte cs (at p) == sign "]") (Some (at p + 1)) _ (ap (λ (b : ℕ). b == sign "]") (same p l (omega (arith, ahead, lt, room))) ∙ t)
                ∙ ap (operated_end cs) first.0 ∙ rest.0,
            (omega (arith, ahead, lt), operator_slash p k f),
          )

  pub named_at : (p r : ℕ) → begins_name bs p ≡ true → matched_end bs (white bs (name_end bs p)) ≡ Some r → i ≤ p → r ≤ i + n
      → (named_end cs (at p) ≡ Some (at r)) × ((name_end bs p < r) × ((byte bs (name_end bs p) == sign "\\") ≡ false))
  named_at p r begins e l room =
      let fw = white_forward bs (name_end bs p) in
      let on = name_forward bs p in
      let rest = matched_at (white bs (name_end bs p)) r e (omega (arith, fw, on, l)) room in
      let lt = rest.1.0 in
      let slash = behind_white bs (name_end bs p) rest.1.1 in (
        if_true (begins_name cs (at p)) _ None (begins_at p l (omega (arith, lt, fw, room)) begins)
            ∙ ap (λ (x : ℕ). matched_end cs (white cs x)) (name_at p l (omega (arith, lt, fw, room)) slash)
            ∙ ap (matched_end cs) (white_at (name_end bs p) (omega (arith, on, l)) (omega (arith, lt, room))) ∙ rest.0,
        (omega (arith, lt, fw), slash),
      )

  star_no_word : (b : ℕ) → (b == sign "*") ≡ true → begins_word b ≡ false
  star_no_word b t = grind (arith, nat_tests)

  bar_no_word : (b : ℕ) → (b == sign "|") ≡ true → begins_word b ≡ false
  bar_no_word b t = grind (arith, nat_tests)

  bar_no_star : (b : ℕ) → (b == sign "|") ≡ true → (b == sign "*") ≡ false
  bar_no_star b t = grind (arith, nat_tests)

  bar_no_slash : (b : ℕ) → (b == sign "|") ≡ true → (b == sign "\\") ≡ false
  bar_no_slash b t = grind (arith, nat_tests)

  -- up to the bar of a prefix
  word_at : (p : ℕ) → i ≤ p → word_end bs p < i + n → (byte bs (word_end bs p) == sign "|") ≡ true → word_end cs (at p) ≡ at (word_end bs p)
  word_at p l lt bar = stars (byte bs p == sign "*") refl
    where
      there : p < i + n → byte cs (at p) ≡ byte bs p
      there lt = same p l lt

      stars : (t : Bool) → (byte bs p == sign "*") ≡ t → word_end cs (at p) ≡ at (word_end bs p)
      stars true t =
          let word : word_end bs p ≡ p + 1 = if_true (byte bs p == sign "*") (p + 1) _ t in
          if_true (byte cs (at p) == sign "*") (at p + 1) _ (ap (λ (b : ℕ). b == sign "*") (there (omega (arith, word, lt))) ∙ t)
          ∙ (let z : at p + 1 ≡ at (p + 1) = omega (arith, l) in z) ∙ ap at (sym word)
      stars false t = names (begins_name bs p) refl
        where
          names : (u : Bool) → begins_name bs p ≡ u → word_end cs (at p) ≡ at (word_end bs p)
          names true u =
              let word : word_end bs p ≡ name_end bs p = if_false (byte bs p == sign "*") (p + 1) _ t ∙ if_true (begins_name bs p) (name_end bs p) p u in
              let fw = name_forward bs p in
              if_false (byte cs (at p) == sign "*") (at p + 1) _ (ap (λ (b : ℕ). b == sign "*") (there (omega (arith, word, fw, lt))) ∙ t)
              ∙ if_true (begins_name cs (at p)) (name_end cs (at p)) (at p) (begins_at p l (omega (arith, word, lt)) u)
              ∙ name_at p l (omega (arith, word, lt)) (ap (λ (x : ℕ). byte bs x == sign "\\") (sym word) ∙ bar_no_slash (byte bs (word_end bs p)) bar) ∙ ap at (sym word)
          names false u =
              let word : word_end bs p ≡ p = if_false (byte bs p == sign "*") (p + 1) _ t ∙ if_false (begins_name bs p) (name_end bs p) p u in
              let here : byte cs (at p) ≡ byte bs p = there (omega (arith, word, lt)) in
              let is_bar : (byte cs (at p) == sign "|") ≡ true = ap (λ (b : ℕ). b == sign "|") here ∙ ap (λ (x : ℕ). byte bs x == sign "|") (sym word) ∙ bar in
              if_false (byte cs (at p) == sign "*") (at p + 1) _ (ap (λ (b : ℕ). b == sign "*") here ∙ t)
              ∙ if_false (begins_name cs (at p)) (name_end cs (at p)) (at p) (name_none cs (at p) (bar_no_word (byte cs (at p)) is_bar)) ∙ ap at (sym word)

  -- a prefix, with the byte behind it
  pub prefix_at : (p : ℕ) → i ≤ p → p < prefix_end bs p → prefix_end bs p < i + n → prefix_end cs (at p) ≡ at (prefix_end bs p)
  unfolding prefix_end
  prefix_at p l some room =
      split ((byte bs (word_end bs p) == sign "|") && not (byte bs (word_end bs p + 1) == sign "=")) (word_end bs p + 1) p (prefix_end bs p)
      (λ t f. go t f) (λ t f. absurd (omega (arith, f, some))) (prefix_is p)
    where
      prefix_is : (p : ℕ) → (if (byte bs (word_end bs p) == sign "|") && not (byte bs (word_end bs p + 1) == sign "=") then word_end bs p + 1 else p) ≡ prefix_end bs p
      prefix_is p = refl

      go : ((byte bs (word_end bs p) == sign "|") && not (byte bs (word_end bs p + 1) == sign "=")) ≡ true → word_end bs p + 1 ≡ prefix_end bs p → prefix_end cs (at p) ≡ at (prefix_end bs p)
      go t f =
          let bar = and_left (byte bs (word_end bs p) == sign "|") _ t in
          let word = word_at p l (omega (arith, f, room)) bar in
          let first = same (word_end bs p) (omega (arith, f, some, l)) (omega (arith, f, room)) in
          let second = same_on (word_end bs p) 1 (omega (arith, f, some, l)) (omega (arith, f, room)) in
          if_true ((byte cs (word_end cs (at p)) == sign "|") && not (byte cs (word_end cs (at p) + 1) == sign "=")) (word_end cs (at p) + 1) (at p)
          (both (byte cs (word_end cs (at p)) == sign "|") _ (ap (λ (x : ℕ). byte cs x == sign "|") word ∙ ap (λ (b : ℕ). b == sign "|") first ∙ bar)
          (ap (λ (x : ℕ). not (byte cs (x + 1) == sign "=")) word ∙ ap (λ (b : ℕ). not (b == sign "=")) second ∙ and_right (byte bs (word_end bs p) == sign "|") _ t))
          ∙ (let z : word_end cs (at p) + 1 ≡ at (prefix_end bs p) = omega (arith, word, f, some, l) in z)

-- where no bar stands behind a word, or one before `=`, no prefix stands
pub prefix_stays : (bs : List ℕ) (p w : ℕ) → word_end bs p ≡ w → ((byte bs w == sign "|") && not (byte bs (w + 1) == sign "=")) ≡ false → prefix_end bs p ≡ p
unfolding prefix_end
prefix_stays bs p w e f =
    if_false ((byte bs (word_end bs p) == sign "|") && not (byte bs (word_end bs p + 1) == sign "=")) (word_end bs p + 1) p
    (ap (λ (x : ℕ). (byte bs x == sign "|") && not (byte bs (x + 1) == sign "=")) e ∙ f)

pub word_name : (bs : List ℕ) (p : ℕ) → begins_name bs p ≡ true → word_end bs p ≡ name_end bs p
word_name bs p e =
    if_false (byte bs p == sign "*") (p + 1) _ (go (byte bs p == sign "*") refl) ∙ if_true (begins_name bs p) (name_end bs p) p e
  where
    star : (b : ℕ) → (b == sign "*") ≡ true → begins_word b ≡ false
    star b t = grind (arith, nat_tests)

    go : (t : Bool) → (byte bs p == sign "*") ≡ t → t ≡ false
    go false t = refl
    go true t = let no = name_none bs p (star (byte bs p) t) in absurd (let wrong : true ≡ false = sym e ∙ no in cc)
