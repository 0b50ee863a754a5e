-- Rules, and properties nested in each other (the Sass specification on style rules and declarations; limits and places
-- of faults are this project's own).
use Rattle.std.specs.Prelude.{ℕ, ◌-◌, Bool, true, if◌then◌else◌, List, [], ◌∷◌, ◌++◌, codes, length, take, Option, Some, None}
use Rattle.sw_text.specs.declared.place.Span.{Span}
use Rattle.sw_selector.specs.Writing.{text_of}
use Rattle.sw_css_tree.specs.Output.{closed, last}
use Rattle.sw_eval_literals.specs.Texts.{all_pieces}
use Rattle.sw_eval_questions.specs.Talk.{Gives, bind}
use Rattle.sw_eval_questions.specs.Refusals.{answer}
use Rattle.sw_eval_state.specs.Output.{opened}
use Rattle.sw_eval_state.specs.Selecting.{Selectors, selected}
use Rattle.sw_eval_state.specs.Eval.{Eval}
use Rattle.sw_eval_keyframes.specs.Keyframes.{keyframe_text}
use Rattle.sw_eval_state.specs.Nestings.{are_keyframes}
use Rattle.sw_eval_state.specs.declared.nesting.Nesting.{Nesting}
use Rattle.sw_eval_state.specs.declared.nesting.Rules.TheVariants as R
use Rattle.sw_eval_state.specs.declared.state.State.{State}

-- ---- what statements are nested in

-- what follows is nested in this
unfoldable pub nested : Nesting → State → State
nested nesting s = record s { nesting = nesting; outer = s.outer ++ s.nesting ∷ [] }

abbrev pub or_now : Nesting → Option Nesting → Nesting
or_now nesting None = nesting
or_now nesting (Some before) = before

-- what follows is nested in what it was nested in before
unfoldable pub unnested : State → State
unnested s = record s { nesting = or_now s.nesting (last s.outer); outer = take (length s.outer - 1) s.outer }

-- ---- rules

abbrev pub in_rule : Selectors → Nesting → Nesting
in_rule selectors n = record n { parents = Some selectors; rules = R.Nested; in_rule = true }

abbrev pub in_frame : Nesting → Nesting
in_frame n = record n { in_rule = true }

-- a rule is open, in which `&` is these selectors; it stands here
unfoldable pub rule_opening : Selectors → Span → Eval (Unit {0})
rule_opening selectors span s =
    bind (opened (text_of selectors) span s) (λ u. Gives (tt, nested (in_rule selectors u.1.nesting) u.1))

-- a rule is open whose selectors are written as this text, and in which there is no `&`; it stands here
unfoldable pub plain_entered : List ℕ → Span → Eval (Unit {0})
plain_entered text span s = bind (opened text span s) (λ u. Gives (tt, nested (in_frame u.1.nesting) u.1))

-- one of keyframes, which don't nest
unfoldable pub frame_entered : List ℕ → Span → Span → Eval (Unit {0})
frame_entered text text_span span s =
    bind (answer (keyframe_text text text_span) s) (λ t. plain_entered t.0 span t.1)

unfoldable pub style_entered : Bool → List ℕ → Span → Span → Eval (Unit {0})
style_entered at_root text text_span span s =
    bind (selected at_root text text_span s) (λ q. rule_opening q.0 span q.1)

-- a rule is open, in `@at-root` or not, whose selectors have this text, which stands at the first place; the rule stands
-- at the second
unfoldable pub rule_entered : Bool → List ℕ → Span → Span → Eval (Unit {0})
rule_entered at_root text text_span span s =
    if are_keyframes s.nesting.rules then frame_entered text text_span span s
    else style_entered at_root text text_span span s

-- it is closed
unfoldable pub rule_left : State → State
rule_left s = unnested (record s { css = closed s.css })

-- ---- nested properties

-- the name of a property among those of another one
abbrev pub named_by : Option (List ℕ) → List ℕ → List ℕ
named_by None name = name
named_by (Some prefix) name = all_pieces (prefix ∷ codes "-" ∷ name ∷ [])

-- the whole name of a property
abbrev pub full_name : List ℕ → State → List ℕ
full_name name s = named_by s.nesting.prefix name

abbrev pub with_prefix : List ℕ → Nesting → Nesting
with_prefix name n = record n { prefix = Some name }

-- among the properties of this name
unfoldable pub prefixed : List ℕ → State → State
prefixed name s = nested (with_prefix name s.nesting) s
