-- How a call ends, by what the table's reader answers.
use Rattle.std.proofs.Common.{ℕ, [], ◌∷◌, inl, inr, sym, subst, Result, Ok, Err}
use Rattle.sw_parse_grammar.specs.Readers.{ReadsForm}
use Rattle.sw_parse_grammar.specs.Grammar.{Unexpected, TooDeep}
use Rattle.sw_parse_grammar.specs.declared.ReadError.{ReadError}
use Rattle.sw_parse_grammar.specs.declared.ReadError.TheVariants as stops
use Rattle.sw_text.specs.declared.fault.FaultCode.TheVariants.{Syntax, Depth}
use Rattle.sw_tokens.specs.Listed.{Listed}
use Rattle.sw_tree.specs.declared.expr.Expr.{Expr}
use Rattle.sw_parse_table.specs.declared.source.Source.{Source}
use Rattle.sw_parse_table.specs.Parts.{Values}
use Rattle.sw_parse_table.specs.Sources.{text_of}
use Rattle.sw_parse_table.specs.Table.{forms, opening, closing}
use Rattle.sw_expr_parse.specs.declared.end.ReadEnd.{ReadEnd}
use Rattle.sw_expr_parse.specs.declared.end.ReadEnd.TheVariants as ends
use Rattle.sw_expr_parse.specs.declared.form.Form.{Form}
use Rattle.sw_expr_parse.specs.Forms.{form_of}
use Rattle.sw_expr_parse.specs.Readings.{fault_at, Says, IsEnd, EndsBy, Sees, ReadsSource, ReadsExpr}

module _ (source : Source) (levels : ℕ) (form : Form) where
  syntax_ended : (at : ℕ) (end : ReadEnd) → Says source levels form (Unexpected at)
      → IsEnd (fault_at source Syntax at) end → ReadsSource source levels form (Err end)
  syntax_ended at (ends.Fault told) says same = inl (at, says, same)
  syntax_ended at ends.Memory says same = tt

  depth_ended : (at : ℕ) (end : ReadEnd) → Says source levels form (TooDeep at)
      → IsEnd (fault_at source Depth at) end → ReadsSource source levels form (Err end)
  depth_ended at (ends.Fault told) says same = inr (at, says, same)
  depth_ended at ends.Memory says same = tt

  pub ended : (error : ReadError) (end : ReadEnd) → ReadsForm (forms source) (text_of source) opening closing levels
      (form_of form) 0 (λ (read : Expr × ℕ). Values read.0 ∷ []) (λ (read : Expr × ℕ). read.1) (Err error)
      → EndsBy source error end → ReadsSource source levels form (Err end)
  ended stops.Memory end says by =
      subst (λ (e : ReadEnd). ReadsSource source levels form (Err e)) (sym by) tt
  ended (stops.Unexpected at) end says by = syntax_ended at end says by
  ended (stops.TooDeep at) end says by = depth_ended at end says by

  pub expr_read : (at : ℕ) (listed : Listed) (result : Result (Expr × ℕ) ReadEnd) → Sees listed form at source
      → ReadsSource source levels form result → ReadsExpr listed form at levels result
  expr_read at listed (Ok read) sees reads = (source, sees, reads)
  expr_read at listed (Err (ends.Fault told)) sees reads = (source, sees, reads)
  expr_read at listed (Err ends.Memory) sees reads = tt
