-- A choice in an evaluation.
use Rattle.std.proofs.Common.{◌≡◌, Bool, true, false, if◌then◌else◌, Result}
use Rattle.sw_world.specs.declared.question.Question.{Question}
use Rattle.sw_world.specs.declared.answer.Answer.{Answer}
use Rattle.sw_eval_questions.specs.Talk.{Talk}
use Rattle.sw_eval_questions.specs.Ran.{Stand}
use Rattle.sw_eval_questions.specs.Did.{Did}
use Rattle.sw_eval_questions.specs.declared.stop.Stop.{Stop}

module _ {W A S : Type 0} {gives : W → Question → Answer → W → Type 0} {a b : Stand} {w x : W} {r : Result A Stop} {s : S} where
  pub did_yes : (c : Bool) (t u : Talk (A × S)) → c ≡ true → Did gives t a w r s b x → Did gives (if c then t else u) a w r s b x
  did_yes c t u is d = rw is d

  pub did_no : (c : Bool) (t u : Talk (A × S)) → c ≡ false → Did gives u a w r s b x → Did gives (if c then t else u) a w r s b x
  did_no c t u is d = rw is d
