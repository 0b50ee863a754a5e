-- The walk over a text, step by step.
use Rattle.std.proofs.Common.{◌≡◌, ℕ, zero, suc, ◌-◌, ◌≤◌, ◌<◌, List, ◌++◌, refl, sym, ◌∙◌, ap, arith, length, Option, Some, None, Result, Ok, Err, append_assoc}
use Rattle.std.specs.Prelude.{nat_lt}
use Rattle.std.proofs.lemmas.Bool.Decides.{nat_tests}
use Rattle.sw_tokens.specs.declared.token.Token.{Token}
use Rattle.sw_text_scan.proofs.Bounds.{if_true, if_false}
use Rattle.sw_parse_layout.specs.declared.laid.Laid.{Laid}
use Rattle.sw_parse_layout.specs.declared.state.State.{State}
use Rattle.sw_parse_layout.specs.declared.state.Found.{Found}
use Rattle.sw_parse_layout.specs.Steps.{step}
use Rattle.sw_parse_layout.specs.Laid.{earlier, both, behind}
use Rattle.sw_parse_layout.specs.Layout.{finished, walk_on, walk}

earlier_twice : (a b c : Option ℕ) → earlier (earlier a b) c ≡ earlier a (earlier b c)
earlier_twice None b c = refl
earlier_twice (Some k) b c = refl

both_twice : (x y z : Laid) → both (both x y) z ≡ both x (both y z)
both_twice x y z =
    same (x.tokens) (y.tokens) (z.tokens) _ _ (append_assoc x.tokens y.tokens z.tokens) (earlier_twice x.refused
    y.refused z.refused)
  where
    same : (a b c : List Token) (r q : Option ℕ) → (a ++ b) ++ c ≡ a ++ (b ++ c) → r ≡ q
        → (let l : Laid = record { tokens = (a ++ b) ++ c; refused = r } in l) ≡ record {
          tokens = a ++ (b ++ c);
          refused = q;
        }
    same a b c r q e f = rw (e, f) refl

pub behind_twice : (x y : Laid) (r : Result Laid ℕ) → behind (both x y) r ≡ behind x (behind y r)
behind_twice x y (Ok z) = ap Ok (both_twice x y z)
behind_twice x y (Err k) = refl

module _ (bs : List ℕ) where
  pub walk_past : (n : ℕ) (s : State) → length bs ≤ s.at → walk bs n s ≡ finished s
  walk_past zero s l = refl
  walk_past (suc n) s l = if_false (nat_lt s.at (length bs)) _ (finished s) (grind (arith, nat_tests))

  pub walk_more : (n : ℕ) (s : State) → 0 < n → s.at < length bs → walk bs n s ≡ walk_on (walk bs (n - 1)) (step bs s)
  walk_more zero s z l = absurd (omega arith)
  walk_more (suc n) s z l =
      if_true (nat_lt s.at (length bs)) _ (finished s) (grind (arith, nat_tests)) ∙ ap (λ (k : ℕ). walk_on (walk bs k)
      (step bs s)) less
    where
      less : n ≡ suc n - 1
      less = omega arith

  pub loop_step : (acc : Laid) (n : ℕ) (s : State) (t : Result Laid ℕ) (f : Found) → behind acc (walk bs n s) ≡ t
      → 0 < n → s.at < length bs → step bs s ≡ Ok f
      → behind (both acc f.laid) (walk bs (n - 1) f.state) ≡ t
  loop_step acc n s t f inv z l e =
      behind_twice acc f.laid _ ∙ ap (behind acc) (sym (walk_more n s z l ∙ ap (walk_on (walk bs (n - 1))) e)) ∙ inv

  pub loop_broken : (acc : Laid) (n : ℕ) (s : State) (t : Result Laid ℕ) (k : ℕ) → behind acc (walk bs n s) ≡ t
      → 0 < n → s.at < length bs → step bs s ≡ Err k → t ≡ Err k
  loop_broken acc n s t k inv z l e = sym inv ∙ ap (behind acc) (walk_more n s z l ∙ ap (walk_on (walk bs (n - 1))) e)
