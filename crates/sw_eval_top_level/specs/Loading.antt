-- Loads of modules with their configurations (the Sass specification on `@use` and `@forward`; the places of faults are
-- this project's own). A load is two steps of one statement: its configuration is evaluated once, and kept until the
-- load is answered.
use Rattle.std.specs.Prelude.{ℕ, true, false, if◌then◌else◌, List, [], ◌∷◌, ◌++◌, Option, Some, None}
use Rattle.sw_text.specs.declared.fault.FaultCode.TheVariants as C
use Rattle.sw_tree.specs.declared.expr.Expr.{Expr}
use Rattle.sw_tree.specs.declared.load.Given.{Given as Entry}
use Rattle.sw_values.specs.declared.plain.Plain.{Plain}
use Rattle.sw_eval_literals.specs.declared.quotients.Parens.{Parens}
use Rattle.sw_eval_literals.specs.declared.quotients.Parens.TheVariants as P
use Rattle.sw_world.specs.declared.answer.Answer.{Answer}
use Rattle.sw_world.specs.declared.question.Given.{Given}
use Rattle.sw_eval_configurations.specs.Loads.{Loading, url_of, span_of, entries_of, how_of}
use Rattle.sw_eval_configurations.specs.Passing.{Settings, passed, value_passed, given_of, taken_by}
use Rattle.sw_eval_questions.specs.Talk.{NumberedQuestion, Loads, Gives, Fails, bind}
use Rattle.sw_eval_questions.specs.Asking.{fault, asking}
use Rattle.sw_eval_state.specs.Eval.{Eval}
use Rattle.sw_eval_state.specs.declared.state.State.{State}
use Rattle.sw_eval_walk.specs.Texts.{plain_value}
use Rattle.sw_eval_top_level.specs.Taking.{took_all}

-- `value` is the level below the statements of the top
module _ (value : Parens → Expr → Eval Plain) where
  abbrev pub entry_by : Option Plain → Entry → Eval Plain
  entry_by (Some v) e s = Gives (v, s)
  entry_by None e s = plain_value value P.Outside e.value s

  -- an entry with a default is the value that is passed on, where there is one
  unfoldable pub entry_value : List Given → Entry → Eval Plain
  entry_value ps e s = entry_by (value_passed ps e) e s

  -- the entries behind the values that are known
  abbrev pub entries : List Given → List Entry → List Given → Eval (List Given)
  entries ps [] done s = Gives (done, s)
  entries ps (e ∷ es) done s =
      bind (entry_value ps e s) (λ v. entries ps es (done ++ given_of e v.0 ∷ []) v.1)

  -- what a load gives: behind what is passed on its entries in order
  abbrev pub configuration : Settings → Loading → Eval (List Given)
  configuration config l s = entries (passed config l) (entries_of l) (passed config l) s

  abbrev pub prepared_by : Settings → Loading → Option (List Given) → Eval (List Given)
  prepared_by config l (Some given) s = Gives (given, s)
  prepared_by config l None s =
      if s.late then Fails (fault C.LateUse (span_of l))
      else bind (configuration config l s) (λ r. Gives (r.0, record r.1 { given = Some r.0 }))

  -- what a load gives, which is evaluated once; no load may come late
  unfoldable pub prepared : Settings → Loading → Eval (List Given)
  prepared config l s = prepared_by config l s.given s

-- the question of a load that gives these values
abbrev pub question : Loading → List Given → NumberedQuestion
question l given = Loads (url_of l).text (url_of l).span (how_of l) given

-- the module is loaded
unfoldable pub load_ended : Settings → Loading → Answer → State → State
load_ended config l a s = took_all (taken_by config l a) (record s { given = None })

unfoldable pub loaded : Settings → Loading → List Given → Eval (Unit {0})
loaded config l given s =
    bind (asking (question l given) (span_of l) s) (λ r. Gives (tt, load_ended config l r.0.1 r.1))

-- a load, over what evaluates its entries
unfoldable pub load : (Parens → Expr → Eval Plain) → Settings → Loading → Eval (Unit {0})
load value config l s = bind (prepared value config l s) (λ r. loaded config l r.0 r.1)
