-- Loops that count up, a step at a time.
use Rattle.std.proofs.Common.{◌≡◌, ℕ, zero, suc, ◌+◌, ◌-◌, ◌<◌, ◌≤◌, nat_lt, true, false, sym, subst, add-one, arith}
use Rattle.std.proofs.lemmas.Bool.Decides.{nat_tests}
use Rattle.sw_world.specs.declared.question.Question.{Question}
use Rattle.sw_world.specs.declared.answer.Answer.{Answer}
use Rattle.sw_eval_questions.specs.Talk.{Talk}
use Rattle.sw_eval_questions.specs.Ran.{Stand, Ran}

-- up to a number, where the talk is `go` of the turn and of how many are left
module _ {W A S : Type 0} {gives : W → Question → Answer → W → Type 0} (go : ℕ → ℕ → S → Talk (A × S)) where
  pub up_at : {T : Talk (A × S)} {z a : Stand} {q w : W} (i n : ℕ) (s : S) → i < n → Ran gives T z q (go i (n - i) s) a w → Ran gives T z q (go i (suc (n - (i + 1))) s) a w
  up_at {T = T} {z = z} {a = a} {q = q} {w = w} i n s lt on = let k : n - i ≡ suc (n - (i + 1)) = omega arith in subst (λ (m : ℕ). Ran gives T z q (go i m s) a w) k on

  pub up_next : {T : Talk (A × S)} {z a : Stand} {q w : W} (i n : ℕ) (s : S) → Ran gives T z q (go (suc i) n s) a w → Ran gives T z q (go (i + 1) n s) a w
  up_next {T = T} {z = z} {a = a} {q = q} {w = w} i n s on = subst (λ (m : ℕ). Ran gives T z q (go m n s) a w) (sym (add-one i)) on

  pub up_end : {T : Talk (A × S)} {z a : Stand} {q w : W} (i n : ℕ) (s : S) → n ≤ i → Ran gives T z q (go i (n - i) s) a w → Ran gives T z q (go i zero s) a w
  up_end {T = T} {z = z} {a = a} {q = q} {w = w} i n s le on = let k : n - i ≡ zero = omega arith in subst (λ (m : ℕ). Ran gives T z q (go i m s) a w) k on

pub is_less : (n m : ℕ) → n < m → nat_lt n m ≡ true
is_less n m lt = grind (arith, nat_tests)

pub not_less : (n m : ℕ) → m ≤ n → nat_lt n m ≡ false
not_less n m le = grind (arith, nat_tests)
