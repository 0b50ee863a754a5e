-- Branches and loops (the Sass specification on flow control; that a loop has one frame for all its turns, and the places
-- of faults and limits, are this project's own).
use Rattle.std.specs.Prelude.{ℕ, zero, suc, Bool, if◌then◌else◌, List, [], ◌∷◌, Option, Some, None}
use Rattle.sw_text.specs.declared.fault.FaultCode.TheVariants as C
use Rattle.sw_tree.specs.declared.expr.Expr.{Expr}
use Rattle.sw_tree.specs.declared.statement.Branch.{Branch}
use Rattle.sw_tree.specs.declared.statement.While.{While}
use Rattle.sw_tree.specs.declared.statement.Statement.{Statement}
use Rattle.sw_values.specs.declared.plain.Plain.{Plain}
use Rattle.sw_values.specs.Shape.{truth_of}
use Rattle.sw_scope.specs.declared.mark.FrameKind.{FrameKind}
use Rattle.sw_scope.specs.declared.mark.FrameKind.TheVariants as F
use Rattle.sw_eval_literals.specs.declared.quotients.Parens.{Parens}
use Rattle.sw_eval_literals.specs.declared.quotients.Parens.TheVariants as P
use Rattle.sw_eval_questions.specs.Talk.{Talk, Gives, Fails, bind}
use Rattle.sw_eval_questions.specs.Asking.{fault}
use Rattle.sw_eval_state.specs.Begin.{spent}
use Rattle.sw_eval_state.specs.Scope.{entered, left}
use Rattle.sw_eval_state.specs.Eval.{Eval}
use Rattle.sw_eval_state.specs.declared.state.State.{State}

-- a value that ends a body ends what is around it
abbrev pub after : Option Plain → Eval (Option Plain) → Eval (Option Plain)
after (Some v) next s = Gives (Some v, s)
after None next s = next s

-- nothing ends
abbrev pub done : Unit {0} × State → Talk (Option Plain × State)
done r = Gives (None, r.1)

-- ---- one level: `value` and `does` are the levels below

module _ (does : Statement → Eval (Option Plain)) where
  abbrev pub block : List Statement → Eval (Option Plain)
  block [] s = Gives (None, s)
  block (x ∷ xs) s = bind (does x s) (λ r. after r.0 (block xs) r.1)

  -- a block in a frame of its own
  unfoldable pub framed : FrameKind → List Statement → Eval (Option Plain)
  framed kind xs s = bind (block xs (entered kind s)) (λ r. Gives (r.0, left r.1))

  abbrev pub otherwise_by : Option (List Statement) → Eval (Option Plain)
  otherwise_by None s = Gives (None, s)
  otherwise_by (Some xs) s = framed F.Flow xs s

-- only false and null don't hold
unfoldable pub holds : (Parens → Expr → Eval Plain) → Expr → Eval Bool
holds value e s = bind (value P.Outside e s) (λ v. Gives (truth_of v.0, v.1))

module _ (value : Parens → Expr → Eval Plain) (does : Statement → Eval (Option Plain)) where
  -- the block of the first condition that holds, or else the last one
  abbrev pub branches : Option (List Statement) → List Branch → Eval (Option Plain)
  branches otherwise [] s = otherwise_by does otherwise s
  branches otherwise (b ∷ bs) s =
      bind (holds value b.condition s)
      (λ v. if v.0 then framed does F.Flow b.block v.1 else branches otherwise bs v.1)

  -- a turn as long as the condition holds, with so many tests
  abbrev pub repeat : While → ℕ → Eval (Option Plain)
  repeat x zero s = Fails (fault C.Turns x.span)
  repeat x (suc tests) s =
      bind (holds value x.condition s)
      (λ v. if v.0 then bind (spent x.span v.1)
      (λ t. bind (block does x.block t.1) (λ r. after r.0 (repeat x tests) r.1))
      else Gives (None, v.1))

  -- there is a test more than turns
  unfoldable pub repeats : While → Eval (Option Plain)
  repeats x s = repeat x (suc s.turns) s

  -- in one frame for all turns
  unfoldable pub repeat_in : While → Eval (Option Plain)
  repeat_in x s = bind (repeats x (entered F.Flow s)) (λ r. Gives (r.0, left r.1))
