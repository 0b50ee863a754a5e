-- Special text (the CSS specification on math functions; what is kept as it is written is this project's own).
use Rattle.std.specs.Prelude.{List, [], ◌∷◌, ◌++◌, Option, Some, None}
use Rattle.sw_text.specs.declared.place.Span.{Span}
use Rattle.sw_tree.specs.declared.expr.Expr.{Expr}
use Rattle.sw_tree.specs.declared.expr.ExprKind.TheOpen.{Parts-F, Piece-F}
use Rattle.sw_tree.specs.declared.text.Parts.{Parts, out-Parts}
use Rattle.sw_tree.specs.declared.text.Piece.{Piece, out-Piece}
use Rattle.sw_values.specs.declared.plain.Plain.{Plain}
use Rattle.sw_builtins.specs.declared.built_in.BuiltIn.{BuiltIn}
use Rattle.sw_eval_literals.specs.declared.quotients.Parens.{Parens}
use Rattle.sw_eval_literals.specs.Quotients.{deeper}
use Rattle.sw_eval_questions.specs.Talk.{Gives, bind}
use Rattle.sw_eval_questions.specs.Refusals.{answer}
use Rattle.sw_eval_state.specs.Eval.{Eval}
use Rattle.sw_eval_calls.specs.Layers.{Texts, Pieces}
use Rattle.sw_eval_raw_text.specs.Special.{plain_special, special_value, extremum, extremum_value}
use Rattle.sw_eval_walk.specs.declared.texts.TextKind.TheVariants as K
use Rattle.sw_eval_walk.specs.Texts.{pieces}

-- `value` is the level below
module _ (value : Parens → Expr → Eval Plain) where
  unfoldable pub value_behind : Parens → Expr → List Plain → Eval (List Plain)
  value_behind parens e done s = bind (value (deeper parens) e s) (λ v. Gives (done ++ v.0 ∷ [], v.1))

  abbrev pub piece_by : Parens → Pieces → List Plain → Eval (List Plain)
  piece_by parens (Piece-F.Text text) done s = Gives (done, s)
  piece_by parens (Piece-F.Inserted e) done s = Gives (done, s)
  piece_by parens (Piece-F.Value e) done s = value_behind parens e done s

  -- the value of a piece that is one, behind others
  unfoldable pub piece_value : Parens → Piece → List Plain → Eval (List Plain)
  piece_value parens p done s = piece_by parens (out-Piece p) done s

  -- the values of the pieces that are values, behind those that are done
  abbrev pub piece_values : Parens → List Piece → List Plain → Eval (List Plain)
  piece_values parens [] done s = Gives (done, s)
  piece_values parens (p ∷ ps) done s =
      bind (piece_value parens p done s) (λ vs. piece_values parens ps vs.0 vs.1)

  -- `min` and `max` may be computed
  unfoldable pub extremum_called : Parens → BuiltIn → List Piece → Span → Eval Plain
  extremum_called parens f ps span s =
      bind (piece_values parens ps [] s) (λ vs. answer (extremum_value f ps vs.0 span) vs.1)

  unfoldable pub special_text : Parens → List Piece → Span → Eval Plain
  special_text parens ps span s =
      bind (pieces value K.Sheet parens ps [] s) (λ ts. answer (special_value ps ts.0 span) ts.1)

  abbrev pub special_by : Parens → List Piece → Span → Option BuiltIn → Eval Plain
  special_by parens ps span (Some f) s = extremum_called parens f ps span s
  special_by parens ps span None s = special_text parens ps span s

  abbrev pub special_parts : Parens → Texts → Span → Eval Plain
  special_parts parens (Parts-F.Plain text) span s = answer (plain_special text span) s
  special_parts parens (Parts-F.Mixed ps) span s = special_by parens ps span (extremum ps) s

  -- `calc()` and what else is read as it is, an unquoted string
  unfoldable pub special : Parens → Parts → Span → Eval Plain
  special parens parts span s = special_parts parens (out-Parts parts) span s
