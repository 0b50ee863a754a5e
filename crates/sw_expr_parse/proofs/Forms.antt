-- What the reader of a production answers is what the table says of the form.
use Rattle.std.proofs.Common.{ℕ, [], ◌∷◌, Result}
use Rattle.sw_parse_grammar.specs.Readers.{ReadsForm}
use Rattle.sw_parse_grammar.specs.declared.ReadError.{ReadError}
use Rattle.sw_parse_grammar.proofs.Whole.{reads_form}
use Rattle.sw_tree.specs.declared.expr.Expr.{Expr}
use Rattle.sw_parse_table.specs.declared.source.Source.{Source}
use Rattle.sw_parse_table.specs.Parts.{Form, Values}
use Rattle.sw_parse_table.specs.Sources.{text_of}
use Rattle.sw_parse_table.specs.Table.{forms, opening, closing}
use Rattle.sw_parse_table.specs.Reads.{reader, ReadsValue}
use Rattle.sw_parse_table.proofs.Decided.{fit, forms_nested}

pub form_read : (source : Source) (levels : ℕ) (form : Form) (r : Result (Expr × ℕ) ReadError)
    → ReadsValue r (reader source levels (forms source form) 0)
    → ReadsForm (forms source) (text_of source) opening closing levels form 0
    (λ (read : Expr × ℕ). Values read.0 ∷ []) (λ (read : Expr × ℕ). read.1) r
form_read source levels form r read =
    reads_form (fit source) opening closing (forms_nested source) levels form 0
    (λ (read : Expr × ℕ). Values read.0 ∷ []) (λ (read : Expr × ℕ). read.1) r read
