-- Steps of a scan for the end of an argument, in two texts.
use Rattle.std.proofs.Common.{◌≡◌, ℕ, zero, suc, ◌+◌, ◌-◌, ◌≤◌, ◌<◌, true, false, List, [], ◌∷◌, ◌++◌, length, take, refl, sym, ◌∙◌, ap, subst, arith, Option, Some, None}
use Rattle.std.specs.Prelude.{◌==◌, nat_lt, if◌then◌else◌}
use Rattle.std.proofs.lemmas.Bool.Decides.{nat_tests}
use Rattle.sw_text_scan.specs.declared.brackets.Stops.TheVariants as stops
use Rattle.sw_text_scan.specs.declared.runs.Class.TheVariants as classes
use Rattle.sw_text_scan.specs.declared.signs.TheConstants.{END}
use Rattle.sw_text_scan.specs.Bytes.{sign, byte, is_quote}
use Rattle.sw_text_scan.specs.Runs.{escape_end, run_end}
use Rattle.sw_text_scan.specs.Brackets.{closing, is_closing, innermost, over, string_end, Scan, at_place, past_string, scan_step, stopped, scan_by, scan_from, stop_behind}
use Rattle.sw_text_scan.proofs.Bounds.{if_true, if_false, run_forward}
use Rattle.sw_text_scan.proofs.Progress.{either}
use Rattle.sw_text_scan.proofs.StopLemmas.{stops_by_step}
use Rattle.sw_text_locality.proofs.Lexical.{split}
use Rattle.sw_text_locality.proofs.Characters.{escape_none}
use Rattle.sw_selector.proofs.Local.{some_is}

-- what stands for no bracket in a scan
abbrev pub NO_BRACKET : ℕ
NO_BRACKET = 0

same_scan : {x y : Scan} → Some x ≡ Some y → x ≡ y
same_scan e = cc

-- what a step leads to, by what stands there
module _ (bs closers : List ℕ) (p : ℕ) (P : Scan → Type 0)
    (of_string : (j : ℕ) → (byte bs p == END) ≡ false → is_quote (byte bs p) ≡ true → string_end bs (byte bs p) p ≡ Some j → P (at_place closers j))
    (of_open : (byte bs p == END) ≡ false → is_quote (byte bs p) ≡ false → nat_lt NO_BRACKET (closing (byte bs p)) ≡ true → P (at_place (closers ++ closing (byte bs p) ∷ []) (p + 1)))
    (of_close : (byte bs p == END) ≡ false → is_quote (byte bs p) ≡ false → nat_lt NO_BRACKET (closing (byte bs p)) ≡ false → is_closing (byte bs p) ≡ true
    → (innermost closers == byte bs p) ≡ true → P (at_place (take (length closers - 1) closers) (p + 1)))
    (of_other : (byte bs p == END) ≡ false → is_quote (byte bs p) ≡ false → nat_lt NO_BRACKET (closing (byte bs p)) ≡ false → is_closing (byte bs p) ≡ false
    → P (at_place closers (over bs p))) where
  none_told : {scan : Scan} → None ≡ Some scan → P scan
  none_told e = absurd (cc)

  told : {x scan : Scan} → Some x ≡ Some scan → P x → P scan
  told e h = subst P (same_scan e) h

  string_told : (scan : Scan) (o : Option ℕ) → (byte bs p == END) ≡ false → is_quote (byte bs p) ≡ true → string_end bs (byte bs p) p ≡ o → past_string closers o ≡ Some scan → P scan
  string_told scan None n q e f = absurd (cc)
  string_told scan (Some j) n q e f = told f (of_string j n q e)

  pub step_told : (scan : Scan) → scan_step bs closers p ≡ Some scan → P scan
  unfolding scan_step
  step_told scan e =
      split (byte bs p == END) None _ (Some scan) (λ t f. none_told f)
      (λ n f. split (is_quote (byte bs p)) (past_string closers (string_end bs (byte bs p) p)) _ (Some scan)
      (λ q g. string_told scan (string_end bs (byte bs p) p) n q refl g)
      (λ q g. split (nat_lt NO_BRACKET (closing (byte bs p))) (Some (at_place (closers ++ closing (byte bs p) ∷ []) (p + 1))) _ (Some scan)
      (λ o h. told h (of_open n q o))
      (λ o h. split (is_closing (byte bs p)) _ (Some (at_place closers (over bs p))) (Some scan)
      (λ c k. split (innermost closers == byte bs p) (Some (at_place (take (length closers - 1) closers) (p + 1))) None (Some scan)
      (λ i l. told l (of_close n q o c i)) (λ i l. none_told l) k)
      (λ c k. told k (of_other n q o c)) h) g) f) e

module _ (bs : List ℕ) where
  pub over_goes : (p : ℕ) → p < over bs p
  unfolding over
  over_goes p = either (λ (x : ℕ). p < x) (nat_lt p (escape_end bs p)) (escape_end bs p) (p + 1) (λ t. grind (arith, nat_tests)) (λ _. omega arith)

  pub string_is : (q p j : ℕ) → string_end bs q p ≡ Some j → (p + 2 ≤ j) × ((byte bs (j - 1) == q) ≡ true)
  unfolding string_end
  string_is q p j e =
      let fw = run_forward bs (classes.Text q) (p + 1) in
      split (byte bs (run_end (classes.Text q) bs (p + 1)) == q) (Some (run_end (classes.Text q) bs (p + 1) + 1)) None (Some j)
      (λ t f. let here = some_is f in
      (omega (arith, here, fw), ap (λ (x : ℕ). byte bs x == q) (let z : j - 1 ≡ run_end (classes.Text q) bs (p + 1) = omega (arith, here) in z) ∙ t))
      (λ t f. absurd (cc)) e

  pub step_forward : (closers : List ℕ) (p : ℕ) (scan : Scan) → scan_step bs closers p ≡ Some scan → p < scan.place
  step_forward closers p scan e =
      step_told bs closers p (λ (s : Scan). p < s.place) (λ j n q s. let is = (string_is (byte bs p) p j s).0 in omega (arith, is))
      (λ n q o. omega arith) (λ n q o c i. omega arith) (λ n q o c. over_goes p) scan e

  stops_from : (n : ℕ) (closers : List ℕ) (p k : ℕ) → scan_from stops.Argument bs n closers p ≡ Some k → p ≤ k
  stops_from zero closers p k e = absurd (cc)
  stops_from (suc n) closers p k e =
      split (stopped stops.Argument bs closers p) (Some p) (scan_by (scan_from stops.Argument bs n) (scan_step bs closers p)) (Some k)
      (λ t f. let here = some_is f in omega (arith, here)) (λ t f. go (stops_from n) (scan_step bs closers p) refl f) e
    where
      go : ((closers : List ℕ) (p k : ℕ) → scan_from stops.Argument bs n closers p ≡ Some k → p ≤ k) → (o : Option Scan) → scan_step bs closers p ≡ o
          → scan_by (scan_from stops.Argument bs n) o ≡ Some k → p ≤ k
      go before None f g = absurd (cc)
      go before (Some scan) f g =
          let on = step_forward closers p scan f in
          let rest = before scan.closers scan.place k g in omega (arith, on, rest)

  pub stop_forward : (closers : List ℕ) (p k : ℕ) → stop_behind stops.Argument bs closers p ≡ Some k → p ≤ k
  stop_forward closers p k e = stops_from (length bs + 1) closers p k e

  -- at the end, or one step on
  pub stop_step : (P : Type 0) (closers : List ℕ) (p k : ℕ) → stop_behind stops.Argument bs closers p ≡ Some k
      → (stopped stops.Argument bs closers p ≡ true → p ≡ k → P)
      → ((scan : Scan) → stopped stops.Argument bs closers p ≡ false → scan_step bs closers p ≡ Some scan → stop_behind stops.Argument bs scan.closers scan.place ≡ Some k → P) → P
  stop_step P closers p k e here on =
      split (stopped stops.Argument bs closers p) (Some p) (scan_by (stop_behind stops.Argument bs) (scan_step bs closers p)) (Some k)
      (λ t f. here t (some_is f)) (λ t f. go t (scan_step bs closers p) refl f) (sym (stops_by_step stops.Argument bs closers p) ∙ e)
    where
      go : stopped stops.Argument bs closers p ≡ false → (o : Option Scan) → scan_step bs closers p ≡ o → scan_by (stop_behind stops.Argument bs) o ≡ Some k → P
      go t None f g = absurd (cc)
      go t (Some scan) f g = on scan t f g

  pub stop_found : (closers : List ℕ) (p : ℕ) → stopped stops.Argument bs closers p ≡ true → stop_behind stops.Argument bs closers p ≡ Some p
  stop_found closers p t =
      stops_by_step stops.Argument bs closers p ∙ if_true (stopped stops.Argument bs closers p) (Some p) (scan_by (stop_behind stops.Argument bs) (scan_step bs closers p)) t

  pub stop_on : (closers : List ℕ) (p : ℕ) (more : List ℕ) (j k : ℕ) → stopped stops.Argument bs closers p ≡ false → scan_step bs closers p ≡ Some (at_place more j)
      → stop_behind stops.Argument bs more j ≡ Some k → stop_behind stops.Argument bs closers p ≡ Some k
  stop_on closers p more j k t s e =
      stops_by_step stops.Argument bs closers p ∙ if_false (stopped stops.Argument bs closers p) (Some p) (scan_by (stop_behind stops.Argument bs) (scan_step bs closers p)) t
      ∙ ap (scan_by (stop_behind stops.Argument bs)) s ∙ e

  pub over_plain : (p : ℕ) → (byte bs p == sign "\\") ≡ false → over bs p ≡ p + 1
  unfolding over
  over_plain p e =
      let stays = escape_none bs p e in if_false (nat_lt p (escape_end bs p)) (escape_end bs p) (p + 1) (grind (arith, nat_tests))

  pub over_escape : (p : ℕ) → p < escape_end bs p → over bs p ≡ escape_end bs p
  unfolding over
  over_escape p lt = if_true (nat_lt p (escape_end bs p)) (escape_end bs p) (p + 1) (grind (arith, nat_tests))

  pub over_broken : (p : ℕ) → nat_lt p (escape_end bs p) ≡ false → over bs p ≡ p + 1
  unfolding over
  over_broken p e = if_false (nat_lt p (escape_end bs p)) (escape_end bs p) (p + 1) e

-- a step in another text, in which the same byte stands
abbrev StepsTo : (bs cs closers : List ℕ) (p q r : ℕ) → Scan → Type 0
StepsTo bs cs closers p q r s =
    (is_quote (byte bs p) ≡ true → string_end bs (byte bs p) p ≡ Some s.place → string_end cs (byte bs p) q ≡ Some r) → (s.place ≡ p + 1 → q + 1 ≡ r) → (over bs p ≡ s.place → over cs q ≡ r)
    → scan_step cs closers q ≡ Some (at_place s.closers r)

pub step_again : (bs cs closers : List ℕ) (p q r : ℕ) (scan : Scan) → byte cs q ≡ byte bs p
    → (is_quote (byte bs p) ≡ true → string_end bs (byte bs p) p ≡ Some scan.place → string_end cs (byte bs p) q ≡ Some r)
    → (scan.place ≡ p + 1 → q + 1 ≡ r) → (over bs p ≡ scan.place → over cs q ≡ r) → scan_step bs closers p ≡ Some scan → scan_step cs closers q ≡ Some (at_place scan.closers r)
unfolding scan_step
step_again bs cs closers p q r scan same of_string of_one of_over e =
    step_told bs closers p (StepsTo bs cs closers p q r) (λ j n t f s o v. not_end _ _ n ∙ quote _ _ t ∙ ap (λ (b : ℕ). past_string closers (string_end cs b q)) same ∙ ap (past_string closers) (s t f))
    (λ n t o s one v. not_end _ _ n ∙ no_quote _ _ t ∙ opens _ _ o ∙ ap Some (ap (λ (b : ℕ). at_place (closers ++ closing b ∷ []) (q + 1)) same ∙ ap (at_place (closers ++ closing (byte bs p) ∷ [])) (one refl)))
    (λ n t o c i s one v. not_end _ _ n ∙ no_quote _ _ t ∙ no_open _ _ o ∙ closes_ _ _ c ∙ inner _ _ i ∙ ap (λ (x : ℕ). Some (at_place (take (length closers - 1) closers) x)) (one refl))
    (λ n t o c s one v. not_end _ _ n ∙ no_quote _ _ t ∙ no_open _ _ o ∙ no_close _ _ c ∙ ap (λ (x : ℕ). Some (at_place closers x)) (v refl)) scan e of_string of_one of_over
  where
    not_end : (x y : Option Scan) → (byte bs p == END) ≡ false → (if byte cs q == END then x else y) ≡ y
    not_end x y n = if_false (byte cs q == END) x y (ap (λ (b : ℕ). b == END) same ∙ n)

    quote : (x y : Option Scan) → is_quote (byte bs p) ≡ true → (if is_quote (byte cs q) then x else y) ≡ x
    quote x y n = if_true (is_quote (byte cs q)) x y (ap is_quote same ∙ n)

    no_quote : (x y : Option Scan) → is_quote (byte bs p) ≡ false → (if is_quote (byte cs q) then x else y) ≡ y
    no_quote x y n = if_false (is_quote (byte cs q)) x y (ap is_quote same ∙ n)

    opens : (x y : Option Scan) → nat_lt NO_BRACKET (closing (byte bs p)) ≡ true → (if nat_lt NO_BRACKET (closing (byte cs q)) then x else y) ≡ x
    opens x y n = if_true (nat_lt NO_BRACKET (closing (byte cs q))) x y (ap (λ (b : ℕ). nat_lt NO_BRACKET (closing b)) same ∙ n)

    no_open : (x y : Option Scan) → nat_lt NO_BRACKET (closing (byte bs p)) ≡ false → (if nat_lt NO_BRACKET (closing (byte cs q)) then x else y) ≡ y
    no_open x y n = if_false (nat_lt NO_BRACKET (closing (byte cs q))) x y (ap (λ (b : ℕ). nat_lt NO_BRACKET (closing b)) same ∙ n)

    closes_ : (x y : Option Scan) → is_closing (byte bs p) ≡ true → (if is_closing (byte cs q) then x else y) ≡ x
    closes_ x y n = if_true (is_closing (byte cs q)) x y (ap is_closing same ∙ n)

    no_close : (x y : Option Scan) → is_closing (byte bs p) ≡ false → (if is_closing (byte cs q) then x else y) ≡ y
    no_close x y n = if_false (is_closing (byte cs q)) x y (ap is_closing same ∙ n)

    inner : (x y : Option Scan) → (innermost closers == byte bs p) ≡ true → (if innermost closers == byte cs q then x else y) ≡ x
    inner x y n = if_true (innermost closers == byte cs q) x y (ap (λ (b : ℕ). innermost closers == b) same ∙ n)
