-- Loops that count, a step at a time.
use Rattle.std.proofs.Common.{◌≡◌, ℕ, zero, suc, ◌-◌, ◌<◌, ◌≤◌, subst, arith}
use Rattle.sw_world.specs.declared.question.Question.{Question}
use Rattle.sw_world.specs.declared.answer.Answer.{Answer}
use Rattle.sw_eval_questions.specs.Talk.{Talk}
use Rattle.sw_eval_questions.specs.Ran.{Stand, Ran}

-- down, where the talk is `go` of how many turns are left: at a turn, and where none is left
module _ {W A S : Type 0} {gives : W → Question → Answer → W → Type 0} (go : ℕ → S → Talk (A × S)) where
  pub turn_at : {T : Talk (A × S)} {z a : Stand} {q w : W} (n : ℕ) (s : S) → 0 < n → Ran gives T z q (go n s) a w → Ran gives T z q (go (suc (n - 1)) s) a w
  turn_at {T = T} {z = z} {a = a} {q = q} {w = w} n s some on = let k : n ≡ suc (n - 1) = omega arith in subst (λ (m : ℕ). Ran gives T z q (go m s) a w) k on

  pub turn_end : {T : Talk (A × S)} {z a : Stand} {q w : W} (n : ℕ) (s : S) → n ≤ 0 → Ran gives T z q (go n s) a w → Ran gives T z q (go zero s) a w
  turn_end {T = T} {z = z} {a = a} {q = q} {w = w} n s none on = let k : n ≡ zero = omega arith in subst (λ (m : ℕ). Ran gives T z q (go m s) a w) k on
