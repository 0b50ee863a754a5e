-- Texts of a sheet in which values stand (the Sass specification on interpolation).
use Rattle.std.specs.Prelude.{true, ℕ, false, List, [], ◌∷◌, ◌++◌, Ok}
use Rattle.sw_text.specs.declared.place.Span.{Span}
use Rattle.sw_tree.specs.declared.expr.Expr.{Expr}
use Rattle.sw_tree.specs.declared.text.Parts.{Parts, out-Parts}
use Rattle.sw_tree.specs.declared.expr.ExprKind.TheOpen.{Parts-F, Piece-F}
use Rattle.sw_tree.specs.declared.text.Piece.{Piece, out-Piece}
use Rattle.sw_values.specs.declared.plain.Plain.{Plain}
use Rattle.sw_eval_literals.specs.declared.quotients.Parens.{Parens}
use Rattle.sw_eval_literals.specs.Answers.{Answer}
use Rattle.sw_eval_literals.specs.Quotients.{deeper, plain_at}
use Rattle.sw_eval_literals.specs.Texts.{inserted, css_text, all_pieces, joined}
use Rattle.sw_eval_calls.specs.Layers.{Texts, Pieces}
use Rattle.sw_eval_questions.specs.Talk.{Gives, bind}
use Rattle.sw_eval_questions.specs.Refusals.{answer}
use Rattle.sw_eval_state.specs.Eval.{Eval}
use Rattle.sw_eval_walk.specs.declared.texts.TextKind.{TextKind}
use Rattle.sw_eval_walk.specs.declared.texts.TextKind.TheVariants as K

-- the text of a value that stands in a text: a string's own text in an expression, and elsewhere its text in CSS without
-- quotes
abbrev pub spelled : TextKind → Plain → Span → Answer (List ℕ)
spelled K.Expression v span = inserted v span
spelled K.Sheet v span = css_text false v span

-- the pieces behind one another; a text of an expression is a value, which has a limit
abbrev pub assembled : TextKind → List (List ℕ) → Span → Answer (List ℕ)
assembled K.Expression texts span = joined texts span
assembled K.Sheet texts span = Ok (all_pieces texts)

-- `value` is the level below
module _ (value : Parens → Expr → Eval Plain) where
  unfoldable pub spelled_value : TextKind → Parens → Expr → Eval (List ℕ)
  spelled_value kind parens e s = bind (value (deeper parens) e s) (λ v. answer (spelled kind v.0 e.span) v.1)

  -- a value that stands without `#{}` in a text keeps its quotes
  unfoldable pub plain_spelled : Parens → Expr → Eval (List ℕ)
  plain_spelled parens e s = bind (value (deeper parens) e s) (λ v. answer (css_text true v.0 e.span) v.1)

  abbrev pub piece_by : TextKind → Parens → Pieces → Eval (List ℕ)
  piece_by kind parens (Piece-F.Text text) s = Gives (text, s)
  piece_by kind parens (Piece-F.Inserted e) s = spelled_value kind parens e s
  piece_by kind parens (Piece-F.Value e) s = plain_spelled parens e s

  unfoldable pub piece : TextKind → Parens → Piece → Eval (List ℕ)
  piece kind parens p s = piece_by kind parens (out-Piece p) s

  -- the texts of the pieces behind those that are done
  abbrev pub pieces : TextKind → Parens → List Piece → List (List ℕ) → Eval (List (List ℕ))
  pieces kind parens [] done s = Gives (done, s)
  pieces kind parens (p ∷ ps) done s =
      bind (piece kind parens p s) (λ t. pieces kind parens ps (done ++ t.0 ∷ []) t.1)

  -- a text that is made of pieces, and stands here
  unfoldable pub mixed : TextKind → Parens → List Piece → Span → Eval (List ℕ)
  mixed kind parens ps span s = bind (pieces kind parens ps [] s) (λ ts. answer (assembled kind ts.0 span) ts.1)

  abbrev pub text_by : TextKind → Parens → Texts → Span → Eval (List ℕ)
  text_by kind parens (Parts-F.Plain text) span s = Gives (text, s)
  text_by kind parens (Parts-F.Mixed ps) span s = mixed kind parens ps span s

  unfoldable pub text : TextKind → Parens → Parts → Span → Eval (List ℕ)
  text kind parens parts span s = text_by kind parens (out-Parts parts) span s

  -- a value that keeps no sides
  unfoldable pub plain_value : Parens → Expr → Eval Plain
  plain_value parens e s = bind (value parens e s) (λ v. answer (plain_at v.0 e.span) v.1)
