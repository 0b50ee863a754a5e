-- What statements put out, and where (this project's own rules on limits and places of faults).
use Rattle.std.specs.Prelude.{ℕ, nat_le, if◌then◌else◌, List, length, Option, Some, None}
use Rattle.sw_text.specs.declared.fault.FaultCode.TheVariants as C
use Rattle.sw_text.specs.declared.place.Span.{Span}
use Rattle.sw_values.specs.declared.plain.Plain.{Plain}
use Rattle.sw_eval_literals.specs.Texts.{declaration_text}
use Rattle.sw_css_tree.specs.declared.block.Line.TheVariants as L
use Rattle.sw_css_tree.specs.Output.{Output, is_open, rule_opened, lined, grown, most as most_bytes}
use Rattle.sw_eval_questions.specs.Talk.{Gives, Fails, bind}
use Rattle.sw_eval_questions.specs.Asking.{fault}
use Rattle.sw_eval_questions.specs.Refusals.{answer}
use Rattle.sw_eval_state.specs.Eval.{Eval}

-- what follows belongs to this statement; in an open rule it belongs to the rule's
unfoldable pub numbered : ℕ → Output → Output
numbered number out = if is_open out then out else record out { statement = number }

-- the output is this one now, where its bytes aren't too many
abbrev pub output_is : Output → Span → Eval (Unit {0})
output_is out span s =
    if nat_le out.bytes most_bytes then Gives (tt, record s { css = out }) else Fails (fault C.TooLarge span)

-- a rule with these selectors is open
unfoldable pub opened : List ℕ → Span → Eval (Unit {0})
opened selectors span s = output_is (rule_opened s.css selectors) span s

-- a line of the open rule
abbrev pub lining : List ℕ → List ℕ → Span → Eval (Unit {0})
lining property text span s = output_is (lined s.css (L.Declaration property text)) span s

unfoldable pub declaring : List ℕ → List ℕ → Span → Eval (Unit {0})
declaring property text span s = if is_open s.css then lining property text span s else Fails (fault C.BadPlace span)

-- nothing where there is no text
abbrev pub declaring_by : List ℕ → Option (List ℕ) → Span → Eval (Unit {0})
declaring_by property (Some text) span s = declaring property text span s
declaring_by property None span s = Gives (tt, s)

-- a declaration of this value, whose expression stands at the first place and whose statement at the second
unfoldable pub written : List ℕ → Plain → Span → Span → Eval (Unit {0})
written property v value_span span s = bind (answer (declaration_text v value_span) s) (λ t. declaring_by property t.0 span t.1)

-- a comment is a line where it stands
unfoldable pub commented : List ℕ → Span → Eval (Unit {0})
commented text span s = output_is (lined s.css (L.Comment text)) span s

-- the bytes of a message count as those of the output do
unfoldable pub noted : List ℕ → Span → Eval (Unit {0})
noted text span s = output_is (grown s.css (length text)) span s
