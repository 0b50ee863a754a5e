-- Steps of assignments whose variable gives up what it holds.
use Rattle.std.proofs.Common.{◌≡◌, ℕ, List, false, Option, None, Result, Ok, Err, refl, sym, ◌∙◌, ap, subst}
use Rattle.std.specs.Prelude.{IsErr, IsErrAnd}
use Rattle.sw_text.specs.declared.fault.FaultCode.TheVariants as C
use Rattle.sw_text.specs.declared.place.Span.{Span}
use Rattle.sw_tree.specs.declared.callable.Param.{Param}
use Rattle.sw_tree.specs.declared.expr.Expr.{Expr}
use Rattle.sw_tree.specs.declared.statement.Statement.{Statement, out-Statement}
use Rattle.sw_tree.specs.declared.statement.Statement.TheOpen.{Statement-F}
use Rattle.sw_tree.specs.declared.statement.Variable.{Variable}
use Rattle.sw_values.specs.declared.plain.Plain.{Plain}
use Rattle.sw_values.specs.declared.plain.Plain.TheVariants as N
use Rattle.sw_world.specs.declared.question.Question.{Question}
use Rattle.sw_world.specs.declared.answer.Answer.{Answer}
use Rattle.sw_eval_literals.specs.Answers.{Answer as Answer_of}
use Rattle.sw_eval_literals.specs.Quotients.{plain_at}
use Rattle.sw_eval_literals.specs.declared.quotients.Parens.{Parens}
use Rattle.sw_eval_literals.specs.declared.quotients.Parens.TheVariants as P
use Rattle.sw_eval_questions.specs.Talk.{Talk, Gives, Fails, bind}
use Rattle.sw_eval_questions.specs.Ran.{Stand, Ran, within}
use Rattle.sw_eval_questions.specs.Did.{Did, IsReturn, stand}
use Rattle.sw_eval_questions.specs.Asking.{fault}
use Rattle.sw_eval_questions.specs.Refusals.{answer}
use Rattle.sw_eval_questions.specs.declared.stop.Stop.{Stop}
use Rattle.sw_eval_questions.proofs.Steps.{did_plain, did_stop, did_err, gives_state, plain_then}
use Rattle.sw_eval_state.specs.Eval.{Eval}
use Rattle.sw_eval_state.specs.Misplaced.{misplaced, is_return, is_content, stands_in_function}
use Rattle.sw_eval_state.specs.Scope.{origin, set_by}
use Rattle.sw_eval_state.specs.declared.entries.Entry.{Entry}
use Rattle.sw_eval_state.specs.declared.here.Inside.{Inside}
use Rattle.sw_eval_state.specs.declared.here.Inside.TheVariants as I
use Rattle.sw_eval_state.specs.declared.state.State.{State}
use Rattle.sw_scope.specs.declared.scopes.Scopes.{Scopes}
use Rattle.sw_eval_statements.specs.Assignments.{variable_set}
use Rattle.sw_eval_statements.specs.Flow.{done}
use Rattle.sw_eval_statements.specs.Names.{name_span}
use Rattle.sw_eval_statements.specs.Statements.{does_one, does_placed}
use Rattle.sw_eval_walk.specs.Texts.{plain_value}
use Rattle.sw_eval_walk.specs.Variables.{kept, stored}
use Rattle.sw_eval_walk.specs.declared.walk.Walk.{Walk}
use Rattle.sw_eval_expressions.specs.Growing.{given_up, Gave_up}
use Rattle.sw_eval.specs.Growing.{Went}
use Rattle.sw_eval.specs.Means.{value_to}
use Rattle.sw_eval.specs.declared.growing.ValuePlace.{ValuePlace}
use Rattle.sw_eval.specs.declared.growing.ValuePlace.TheVariants as V
use Rattle.sw_eval.proofs.Twice.{set_twice}

-- what is set behind what was given up is set
pub given_up_set : (s : State) (name : List ℕ) (v : Plain) → set_by (given_up s name) (name, v) ≡ set_by s (name, v)
unfolding set_by
given_up_set s name v = ap (λ (scopes : Scopes). record s { scopes = scopes }) (set_twice (origin s) s.scopes name N.Null v)

-- no level is left
module _ {W : Type 0} (gives : W → Question → Answer → W → Type 0) where
  pub went_fault : (place : ValuePlace) (depth : ℕ) (e : Expr) (a : Walk) (w : W) (r : Result Plain Stop) → depth ≡ 0 → IsReturn r a.state (Fails (fault C.Depth e.span)) → Went gives place depth e a w r a w
  unfolding value_to
  went_fault (V.Within parens) depth e a w r none is = rw none (did_plain _ a.state _ _ _ is)
  went_fault (V.Assigned name) depth e a w (Ok v) none is = absurd cc
  went_fault (V.Assigned name) depth e a w (Err stop) none is = record { made = a.state; went = rw none (did_plain _ a.state _ _ _ is); left = tt }

module _ {W : Type 0} {gives : W → Question → Answer → W → Type 0} where
  -- a call, what goes on after it, and the rest, which ask nothing
  pub did_twice : {A B D S : Type 0} {t : Talk (A × S)} (f : A × S → Talk (B × S)) (g : B × S → Talk (D × S)) {a b : Stand} {w x : W} {v : A} {s u : S} {r : Result D Stop}
      → Did gives t a w (Ok v) s b x → IsReturn r u (bind (f (v, s)) g) → Did gives (bind (bind t f) g) a w r u b x
  unfolding bind
  did_twice {t = t} f g {a = a} {b = b} {w = w} {x = x} {v = v} {s = s} d is =
      record {
        last = bind (f (v, s)) g;
        ran = subst (λ (l : _). Ran gives (bind (bind t f) g) a w (bind (bind l f) g) b x) d.is_return (within (bind t f) (bind d.last f) g a b w x (within t d.last f a b w x d.ran));
        is_return = is;
      }

-- ---- what such a statement does

-- an assignment may stand anywhere
not_misplaced : (inside : Inside) (x : Statement) (v : Variable) → out-Statement x ≡ Statement-F.Variable v → misplaced inside x ≡ false
unfolding misplaced is_return is_content stands_in_function
not_misplaced I.Sheet x v is = rw is refl
not_misplaced I.Function x v is = rw is refl
not_misplaced I.Mixin x v is = rw is refl

-- without flags, the value is what it is set to
pub set_plain : (value : Parens → Expr → Eval Plain) (v : Variable) (s : State) → v.flags.default ≡ false → v.flags.global ≡ false
    → variable_set value v s ≡ bind (bind (value P.Outside v.value s) (λ a. answer (plain_at a.0 v.value.span) a.1)) (λ a. bind (stored false v.name a.0 (name_span v) v.span a.1) done)
unfolding variable_set kept bind plain_value
set_plain value v s default global = rw (default, global) refl

-- a level below a statement that is one
pub set_does : (x : Statement) (v : Variable) (value : Parens → Expr → Eval Plain) (does : Statement → Eval (Option Plain)) (enter : Span → Entry → List Param → List Statement → Eval (Option Plain)) (s : State)
    → out-Statement x ≡ Statement-F.Variable v → does_placed value does enter x s ≡ variable_set value v s
unfolding does_placed does_one
set_does x v value does enter s is = rw (not_misplaced s.here.inside x v is, is) refl

abbrev none_given : State → Talk (Option Plain × State)
none_given s = Gives (None, s)

-- what it is set to at last
stored_last : (made old new : State) (v : Variable) (value : Plain) → old ≡ given_up made v.name → IsReturn {A = Unit {0}} (Ok (tt {0})) new (Gives (tt {0}, set_by old (v.name, value)))
    → IsReturn {A = Option Plain} (Ok None) new (bind (stored false v.name value (name_span v) v.span made) done)
unfolding bind stored
stored_last made old new v value is set =
    ap none_given (sym (given_up_set made v.name value) ∙ ap (λ (s : State). set_by s (v.name, value)) (sym is) ∙ gives_state set)

pub assigned_last : (made old new : State) (v : Variable) (value : Plain) (right : Answer_of Plain) → IsReturn (Ok value) made (answer right made) → old ≡ given_up made v.name
    → IsReturn {A = Unit {0}} (Ok (tt {0})) new (Gives (tt {0}, set_by old (v.name, value)))
    → IsReturn {A = Option Plain} (Ok None) new (bind (answer right made) (λ p. bind (stored false v.name p.0 (name_span v) v.span p.1) done))
assigned_last made old new v value right is given set =
    plain_then (answer right made) (λ p. bind (stored false v.name p.0 (name_span v) v.span p.1) done) value (Ok None) made new is (stored_last made old new v value given set)

-- ---- the whole of such an assignment

module _ {W : Type 0} {gives : W → Question → Answer → W → Type 0} where
  -- its value can't be made
  pub set_err : (depth : ℕ) (v : Variable) {a b : Walk} {w x : W} {stop : Stop} {r : Result (Option Plain) Stop} → v.flags.default ≡ false → v.flags.global ≡ false
      → Gave_up gives v.name (value_to depth P.Outside v.value) a w (Err stop) b x → IsErr r × IsErrAnd r (λ y. y ≡ stop)
      → Did gives (variable_set (value_to depth) v a.state) (stand a.asked) w r b.state (stand b.asked) x
  set_err depth v {a = a} {b = b} default global d p = rw (set_plain (value_to depth) v a.state default global) (did_err _ {s = b.state} (did_stop _ d.went) p)

  -- it has its value, which asks nothing more
  pub set_done : (depth : ℕ) (v : Variable) {a b c : Walk} {w x : W} {value : Plain} {r : Result (Option Plain) Stop} → v.flags.default ≡ false → v.flags.global ≡ false
      → Gave_up gives v.name (value_to depth P.Outside v.value) a w (Ok value) b x
      → ((made : State) → b.state ≡ given_up made v.name → IsReturn r c.state (bind (answer (plain_at value v.value.span) made) (λ p. bind (stored false v.name p.0 (name_span v) v.span p.1) done)))
      → c.asked ≡ b.asked → Did gives (variable_set (value_to depth) v a.state) (stand a.asked) w r c.state (stand c.asked) x
  set_done depth v {a = a} default global d assigned same = rw (set_plain (value_to depth) v a.state default global, same) (did_twice _ _ d.went (assigned d.made d.left))
