-- What the closures of a level do, which may be called at any time.
use Rattle.std.specs.Prelude.{ℕ, Option, Result}
use denote.Param.Members.{Shared}
use denote.Ref.{Bor, MutBor}
use Rattle.sw_text.specs.declared.place.Span.{Span}
use Rattle.sw_tree.specs.declared.expr.Expr.{Expr}
use Rattle.sw_tree.specs.declared.statement.Statement.{Statement}
use Rattle.sw_values.specs.declared.plain.Plain.{Plain}
use Rattle.sw_eval_literals.specs.declared.quotients.Parens.{Parens}
use Rattle.sw_world.specs.declared.question.Question.{Question}
use Rattle.sw_world.specs.declared.answer.Answer.{Answer}
use Rattle.sw_eval_questions.specs.declared.stop.Stop.{Stop}
use Rattle.sw_eval_walk.specs.declared.below.Body.{Body}
use Rattle.sw_eval_walk.specs.declared.walk.Walk.{Walk}
use Rattle.sw_eval.specs.Means.{value_to, does_to, enter_to}
use Rattle.sw_eval_walk.specs.Going.{Goes_on}

module _ {W F : Type 0} (gives : W → Question → Answer → W → Type 0) where
  -- the closure gives the values of expressions that are nested no deeper than the number
  abbrev pub Values : Shared F (MutBor Walk × (Parens × (Bor Expr × (MutBor W × Unit {0}))))
      (Result Plain Stop × (MutBor Walk × (MutBor W × Unit {0}))) → F → ℕ → Type 0
  Values g f depth =
      ((walk : MutBor Walk) (parens : Parens) (e : Bor Expr) (world : MutBor W)
      → g.pre f (walk, (parens, (e, (world, tt)))))
      × ((walk : MutBor Walk) (parens : Parens) (e : Bor Expr) (world : MutBor W) (r : Result Plain Stop)
      (walked : MutBor Walk) (left : MutBor W)
      → g.post f (walk, (parens, (e, (world, tt)))) (r, (walked, (left, tt)))
      → Goes_on gives (value_to depth parens e.now) walk.now world.now r walked.now left.now)

  -- the closure does statements
  abbrev pub Statements : Shared F (MutBor Walk × (Bor Statement × (MutBor W × Unit {0})))
      (Result (Option Plain) Stop × (MutBor Walk × (MutBor W × Unit {0}))) → F → ℕ → Type 0
  Statements g f depth =
      ((walk : MutBor Walk) (x : Bor Statement) (world : MutBor W) → g.pre f (walk, (x, (world, tt))))
      × ((walk : MutBor Walk) (x : Bor Statement) (world : MutBor W) (r : Result (Option Plain) Stop)
      (walked : MutBor Walk) (left : MutBor W)
      → g.post f (walk, (x, (world, tt))) (r, (walked, (left, tt)))
      → Goes_on gives (does_to depth x.now) walk.now world.now r walked.now left.now)

  -- the closure goes through the bodies of what is called
  abbrev pub Bodies : Shared F (MutBor Walk × (Bor Span × (Body × (MutBor W × Unit {0}))))
      (Result (Option Plain) Stop × (MutBor Walk × (MutBor W × Unit {0}))) → F → ℕ → Type 0
  Bodies g f depth =
      ((walk : MutBor Walk) (at : Bor Span) (b : Body) (world : MutBor W) → g.pre f (walk, (at, (b, (world, tt)))))
      × ((walk : MutBor Walk) (at : Bor Span) (b : Body) (world : MutBor W) (r : Result (Option Plain) Stop)
      (walked : MutBor Walk) (left : MutBor W)
      → g.post f (walk, (at, (b, (world, tt)))) (r, (walked, (left, tt)))
      → Goes_on gives (enter_to depth at.now b.start.now b.params.now b.block.now) walk.now world.now r walked.now
      left.now)
