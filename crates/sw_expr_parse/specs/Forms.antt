-- What of an expression is read by itself: how the tokens are seen for it, and which form of the table it is.
use Rattle.sw_parse_lexemes.specs.declared.state.Mode.{Mode}
use Rattle.sw_parse_lexemes.specs.declared.state.Mode.TheVariants as modes
use Rattle.sw_parse_table.specs.Parts.{Form as TableForm, Value, SpaceList, Sum}
use Rattle.sw_expr_parse.specs.declared.form.Form.{Form}
use Rattle.sw_expr_parse.specs.declared.form.Form.TheVariants as wanted

-- `!default` and `!global` end each, and the words of `@for` end its bounds
abbrev pub mode_of : Form → Mode
mode_of wanted.Expr = modes.Ends
mode_of wanted.Space = modes.Ends
mode_of wanted.Bound = modes.BoundEnds
mode_of wanted.Sum = modes.Ends

abbrev pub form_of : Form → TableForm
form_of wanted.Expr = Value
form_of wanted.Space = SpaceList
form_of wanted.Bound = SpaceList
form_of wanted.Sum = Sum
