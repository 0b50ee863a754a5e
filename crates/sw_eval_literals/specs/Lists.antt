-- Lists (the Sass specification on lists).
use Rattle.std.specs.Prelude.{Bool, true, false, List}
use Rattle.sw_text.specs.declared.place.Span.{Span}
use Rattle.sw_values.specs.declared.plain.Plain.{Plain}
use Rattle.sw_values.specs.declared.plain.Plain.TheVariants as P
use Rattle.sw_values.specs.declared.plain.Separator.{Separator as Between}
use Rattle.sw_values.specs.declared.plain.Separator.TheVariants as between
use Rattle.sw_tree.specs.declared.expr.Separator.{Separator}
use Rattle.sw_tree.specs.declared.expr.Separator.TheVariants as separators
use Rattle.sw_tree.specs.declared.expr.Around.{Around}
use Rattle.sw_tree.specs.declared.expr.Around.TheVariants as arounds
use Rattle.sw_eval_literals.specs.Answers.{Answer, within}

abbrev pub separator_of : Separator → Between
separator_of separators.Undecided = between.Undecided
separator_of separators.Space = between.Space
separator_of separators.Comma = between.Comma

abbrev pub is_bracketed : Around → Bool
is_bracketed arounds.Nothing = false
is_bracketed arounds.Parens = false
is_bracketed arounds.Brackets = true

-- parentheses leave no trace
unfoldable pub list_value : List Plain → Separator → Around → Span → Answer Plain
list_value items separator around span = within (P.List items (separator_of separator) (is_bracketed around)) span
