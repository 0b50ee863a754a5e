-- Imports of plain CSS (the Sass specification on imports; limits and the places of faults are
-- this project's own).
use Rattle.std.specs.Prelude.{ℕ, if◌then◌else◌, List, [], Option}
use Rattle.std.specs.Option.{is_some}
use Rattle.sw_text.specs.declared.fault.FaultCode.TheVariants as C
use Rattle.sw_tree.specs.declared.expr.Expr.{Expr}
use Rattle.sw_tree.specs.declared.expr.ExprKind.TheOpen.{Parts-F}
use Rattle.sw_tree.specs.declared.statement.Import.{Import}
use Rattle.sw_tree.specs.declared.text.Parts.{Parts, out-Parts}
use Rattle.sw_tree.specs.declared.text.Piece.{Piece}
use Rattle.sw_values.specs.declared.plain.Plain.{Plain}
use Rattle.sw_scope.specs.declared.mark.FrameKind.TheVariants as F
use Rattle.sw_eval_literals.specs.declared.quotients.Parens.{Parens}
use Rattle.sw_eval_literals.specs.declared.quotients.Parens.TheVariants as P
use Rattle.sw_eval_questions.specs.Talk.{Gives, Fails, bind}
use Rattle.sw_eval_questions.specs.Asking.{fault}
use Rattle.sw_eval_state.specs.AtRules.{imported_all, imported_one}
use Rattle.sw_eval_state.specs.Eval.{Eval}
use Rattle.sw_eval_raw_text.specs.Imports.{template, all_plain, inserted_of, filled_all}
use Rattle.sw_eval_raw_text.specs.Cutting.{parts_of}
use Rattle.sw_eval_calls.specs.Layers.{Texts}
use Rattle.sw_eval_walk.specs.declared.texts.TextKind.TheVariants as K
use Rattle.sw_eval_statements.specs.Flow.{done}
use Rattle.sw_eval_statements.specs.Places.{is_css}
use Rattle.sw_eval_statements.specs.Texts.{sheet_text}
use Rattle.sw_eval_walk.specs.Texts.{pieces}

-- ---- `value` is the level below

module _ (value : Parens → Expr → Eval Plain) where
  -- the texts of the values in pieces
  unfoldable pub inserted_pieces : List Piece → Eval (List (List ℕ))
  inserted_pieces ps s = bind (pieces value K.Sheet P.Outside ps [] s) (λ ts. Gives (inserted_of ps ts.0, ts.1))

  abbrev pub inserted_by : Texts → Eval (List (List ℕ))
  inserted_by (Parts-F.Plain text) s = Gives ([], s)
  inserted_by (Parts-F.Mixed ps) s = inserted_pieces ps s

  -- the texts of the values in a text
  unfoldable pub inserted_texts : Parts → Eval (List (List ℕ))
  inserted_texts parts s = inserted_by (out-Parts parts) s

  -- imports of plain CSS, of which these are the parts
  unfoldable pub plain_import : List (List ℕ) → Import → Eval (Option Plain)
  plain_import parts x s =
      bind (inserted_texts x.text.parts s)
      (λ vs. bind (imported_all (filled_all parts vs.0) x.span vs.1) done)

  -- they may load plain CSS alone
  abbrev pub import_by : List (List ℕ) → Import → Eval (Option Plain)
  import_by parts x s = if all_plain parts then plain_import parts x s else Fails (fault C.Import x.span)

  -- in a file of plain CSS it is one, as it is written
  unfoldable pub css_import : Import → Eval (Option Plain)
  css_import x s = bind (sheet_text value x.text s) (λ t. bind (imported_one t.0 x.span t.1) done)

  -- elsewhere the text is cut into parts before the values in it are known
  abbrev pub sheet_import : Import → Eval (Option Plain)
  sheet_import x s =
      if is_css x.span then css_import x s else import_by (parts_of (template x.text.parts)) x s

  unfoldable pub import : Import → Eval (Option Plain)
  import x s = if is_some s.nesting.prefix then Fails (fault C.BadPlace x.span) else sheet_import x s
