-- The loops of the evaluation, a step at a time.
use Rattle.std.proofs.Common.{◌≡◌, ℕ, zero, suc, ◌+◌, ◌<◌, ◌≤◌, List, [], ◌∷◌, length, drop, get_or, refl, sym, ◌∙◌, ap, subst, add-one, arith}
use Rattle.std.proofs.Math.Seq.{drop-cons}
use Rattle.sw_world.specs.declared.question.Question.{Question}
use Rattle.sw_world.specs.declared.answer.Answer.{Answer}
use Rattle.sw_eval_questions.specs.Talk.{Talk}
use Rattle.sw_eval_questions.specs.Ran.{Stand, Ran}

pub next_item : {A : Type 0} (xs : List A) (i : ℕ) (x : A) → i < length xs → x ≡ get_or xs i x → drop i xs ≡ x ∷ drop (i + 1) xs
next_item xs i x lt is = rw add-one (drop-cons xs i x lt ∙ ap (λ y. y ∷ drop (suc i) xs) (sym is))

pub drop_all : {A : Type 0} (xs : List A) (i : ℕ) → length xs ≤ i → drop i xs ≡ []
drop_all [] zero le = refl
drop_all [] (suc i) le = refl
drop_all (x ∷ xs) zero le = absurd (omega arith)
drop_all (x ∷ xs) (suc i) le = drop_all xs i (omega arith)

-- a loop over a list, whose talk is `go` of what is left: it goes on where a run of it came to
module _ {W A S X : Type 0} {gives : W → Question → Answer → W → Type 0} (go : List X → S → Talk (A × S)) where
  -- at an item
  pub loop_at : {T : Talk (A × S)} {z a : Stand} {q w : W} (xs : List X) (i : ℕ) (x : X) (s : S) → i < length xs → x ≡ get_or xs i x
      → Ran gives T z q (go (drop i xs) s) a w → Ran gives T z q (go (x ∷ drop (i + 1) xs) s) a w
  loop_at {T = T} {z = z} {a = a} {q = q} {w = w} xs i x s lt is on = subst (λ (l : List X). Ran gives T z q (go l s) a w) (next_item xs i x lt is) on

  -- at its end
  pub loop_end : {T : Talk (A × S)} {z a : Stand} {q w : W} (xs : List X) (i : ℕ) (s : S) → length xs ≤ i
      → Ran gives T z q (go (drop i xs) s) a w → Ran gives T z q (go [] s) a w
  loop_end {T = T} {z = z} {a = a} {q = q} {w = w} xs i s le on = subst (λ (l : List X). Ran gives T z q (go l s) a w) (drop_all xs i le) on
