-- Steps of values for which a variable gives up what it holds.
use Rattle.std.proofs.Common.{◌≡◌, ℕ, List, [], true, Option, Result, Ok, Err, refl, sym}
use Rattle.std.specs.Prelude.{IsErr, IsErrAnd}
use Rattle.sw_text.specs.declared.place.Span.{Span}
use Rattle.sw_tree.specs.declared.callable.Param.{Param}
use Rattle.sw_tree.specs.declared.expr.Argument.{Argument}
use Rattle.sw_tree.specs.declared.expr.Callee.{Callee}
use Rattle.sw_tree.specs.declared.expr.Expr.{Expr}
use Rattle.sw_tree.specs.declared.statement.Statement.{Statement}
use Rattle.sw_values.specs.declared.plain.Plain.{Plain}
use Rattle.sw_builtins.specs.declared.built_in.BuiltIn.{BuiltIn}
use Rattle.sw_builtins.specs.declared.built_in.BuiltIn.TheVariants as B
use Rattle.sw_world.specs.declared.question.Question.{Question}
use Rattle.sw_world.specs.declared.answer.Answer.{Answer}
use Rattle.sw_eval_literals.specs.declared.quotients.Parens.{Parens}
use Rattle.sw_eval_literals.specs.Quotients.{deeper}
use Rattle.sw_eval_built_in_calls.specs.BuiltIns as built_in
use Rattle.sw_eval_growing.specs.Growth.{grows}
use Rattle.sw_eval_questions.specs.Talk.{Talk, Gives, bind}
use Rattle.sw_eval_questions.specs.Did.{Did, IsReturn, stand}
use Rattle.sw_eval_questions.specs.Refusals.{answer}
use Rattle.sw_eval_questions.specs.declared.stop.Stop.{Stop}
use Rattle.sw_eval_questions.specs.declared.stop.Stop.TheVariants.{Memory, Fault}
use Rattle.sw_eval_questions.specs.Ran.{Stand}
use Rattle.sw_eval_questions.proofs.Steps.{err_of, gives_state}
use Rattle.sw_eval_state.specs.Eval.{Eval}
use Rattle.sw_eval_state.specs.declared.called.Called.{Called}
use Rattle.sw_eval_state.specs.declared.called.Called.TheVariants as C
use Rattle.sw_eval_state.specs.declared.entries.Entry.{Entry}
use Rattle.sw_eval_state.specs.declared.state.State.{State}
use Rattle.sw_eval_walk.specs.Arguments.{argument_values}
use Rattle.sw_eval_walk.specs.declared.walk.Walk.{Walk}
use Rattle.sw_eval_expressions.specs.Calls.{built_in_call, built_in_by, call_by}
use Rattle.sw_eval_expressions.specs.Growing.{given_up, IsLeft, Gave_up}

failed_left : (name : List ℕ) (r : Result Plain Stop) (e : Stop) (made left : State) → r ≡ Err e → IsLeft name r made left
failed_left name r e made left is = rw is tt

any_left : (name : List ℕ) (r : Result Plain Stop) (made left : State) → given_up made name ≡ left → IsLeft name r made left
any_left name (Ok v) made left is = sym is
any_left name (Err e) made left is = tt

module _ {W : Type 0} {gives : W → Question → Answer → W → Type 0} where
  -- what a failed call returns is returned
  pub did_failed : {A S : Type 0} {t : Talk (A × S)} {a b : Stand} {w x : W} {s : S} {r : Result A Stop} (stop : Stop) → Did gives t a w (Err stop) s b x → IsErr r × IsErrAnd r (λ y. y ≡ stop) → Did gives t a w r s b x
  did_failed {r = r} stop d p = rw (err_of r stop p) d

  -- no memory was found for what comes behind a call and asks nothing
  pub did_lost : {A B S : Type 0} {t : Talk (A × S)} {a b : Stand} {w x : W} {v : A} {s u : S} {r : Result A Stop} (stop : Stop) (y : B × S) → Did gives t a w (Ok v) s b x → IsReturn {A = B} (Err stop) u (Gives y)
      → IsErr r × IsErrAnd r (λ z. z ≡ stop) → Did gives t a w r u b x
  did_lost {r = r} Memory y d is p = rw (err_of r Memory p) record { last = d.last; ran = d.ran; is_return = tt }
  did_lost (Fault fault) y d is p = absurd cc

  -- no value was made
  pub gave_err : {name : List ℕ} {e : Eval Plain} {a b : Walk} {w x : W} {r : Result Plain Stop} (stop : Stop) → Did gives (e a.state) (stand a.asked) w r b.state (stand b.asked) x → IsErr r × IsErrAnd r (λ y. y ≡ stop)
      → Gave_up gives name e a w r b x
  gave_err {name = name} {b = b} {r = r} stop d p = record { made = b.state; went = d; left = failed_left name r stop b.state b.state (err_of r stop p) }

  -- what was made, and given up behind it
  pub gave : {name : List ℕ} {e : Eval Plain} {a b c : Walk} {w x : W} {r : Result Plain Stop} → Did gives (e a.state) (stand a.asked) w r b.state (stand b.asked) x
      → c.asked ≡ b.asked → IsReturn {A = Unit {0}} (Ok (tt {0})) c.state (Gives (tt {0}, given_up b.state name)) → Gave_up gives name e a w r c x
  gave {name = name} {b = b} {c = c} {r = r} d same is = record { made = b.state; went = rw same d; left = any_left name r b.state c.state (gives_state is) }

  -- another evaluation that is the same there
  pub gave_same : {name : List ℕ} (e f : Eval Plain) {a b : Walk} {w x : W} {r : Result Plain Stop} → e a.state ≡ f a.state → Gave_up gives name f a w r b x → Gave_up gives name e a w r b x
  gave_same e f same d = record { made = d.made; went = rw same d.went; left = d.left }

module _ (value : Parens → Expr → Eval Plain) (enter : Span → Entry → List Param → List Statement → Eval (Option Plain)) where
  -- a function that makes its first argument grow is given its arguments and asks nothing
  grown_by : (parens : Parens) (f : BuiltIn) (args : List Argument) (span : Span) (s : State) → grows f ≡ true
      → built_in_by value enter parens f args span s ≡ bind (argument_values value (deeper parens) args [] s) (λ vs. answer (built_in.built_in_call f args vs.0 span) vs.1)
  unfolding bind Rattle.sw_eval_expressions.specs.Calls.built_in_call
  grown_by parens (B.Math x) args span s is = absurd cc
  grown_by parens (B.Text x) args span s is = absurd cc
  grown_by parens (B.List x) args span s is = refl
  grown_by parens (B.Map x) args span s is = refl
  grown_by parens (B.Colour x) args span s is = absurd cc
  grown_by parens (B.Css x) args span s is = absurd cc
  grown_by parens (B.Meta x) args span s is = absurd cc
  grown_by parens (B.Asked x) args span s is = absurd cc
  grown_by parens (B.Variable x) args span s is = absurd cc
  grown_by parens B.If args span s is = absurd cc

  -- where that was found
  pub grown_call : (parens : Parens) (c : Callee) (args : List Argument) (span : Span) (found : Called) (f : BuiltIn) (s : State) → found ≡ C.BuiltIn f → grows f ≡ true
      → call_by value enter parens c args span found s ≡ bind (argument_values value (deeper parens) args [] s) (λ vs. answer (built_in.built_in_call f args vs.0 span) vs.1)
  grown_call parens c args span found f s is grow = rw is (grown_by parens f args span s grow)
