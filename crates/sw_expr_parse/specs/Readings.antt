-- What reading an expression at a place in a sheet's tokens gives: its tree and the place behind it, or the fault.
use Rattle.std.specs.Prelude.{◌≡◌, ℕ, ◌⊎◌, [], ◌∷◌, Option, Some, None, Result, Ok, Err, length}
use Rattle.sw_parse_grammar.specs.Grammar.{Answer, Got, Unexpected, TooDeep}
use Rattle.sw_parse_grammar.specs.Levels.{ReadsDeep}
use Rattle.sw_parse_grammar.specs.declared.ReadError.{ReadError}
use Rattle.sw_parse_grammar.specs.declared.ReadError.TheVariants as stops
use Rattle.sw_text.specs.declared.fault.Fault.{Fault}
use Rattle.sw_text.specs.declared.fault.FaultCode.{FaultCode}
use Rattle.sw_text.specs.declared.fault.FaultCode.TheVariants.{Syntax, Depth}
use Rattle.sw_text.specs.declared.place.Span.{Span}
use Rattle.sw_tokens.specs.Listed.{Listed}
use Rattle.sw_tokens.specs.declared.token.Token.{Token}
use Rattle.sw_parse_lexemes.specs.Lexemes.{value_lexemes_of}
use Rattle.sw_tree.specs.declared.expr.Expr.{Expr}
use Rattle.sw_parse_table.specs.declared.source.Source.{Source}
use Rattle.sw_parse_table.specs.Parts.{Part, Values}
use Rattle.sw_parse_table.specs.Sources.{bytes, text_of, lexeme_at, token_at, token_of, span_from}
use Rattle.sw_parse_table.specs.Table.{forms, opening, closing}
use Rattle.sw_expr_parse.specs.declared.end.ReadEnd.{ReadEnd}
use Rattle.sw_expr_parse.specs.declared.end.ReadEnd.TheVariants as ends
use Rattle.sw_expr_parse.specs.declared.form.Form.{Form}
use Rattle.sw_expr_parse.specs.Forms.{mode_of, form_of}

-- the tokens from a place on, as the grammar sees them for a form
pub record Sees (listed : Listed) (form : Form) (at : ℕ) (source : Source) : Type 0 where
  pub tokens : source.tokens.now ≡ listed
  pub lexemes : source.lexemes.now ≡ value_lexemes_of listed.sheet.bytes listed.list (mode_of form) at

-- a call ended with a fault, unless memory ran out
abbrev pub IsEnd : Fault → ReadEnd → Type 0
IsEnd fault (ends.Fault told) = told ≡ fault
IsEnd fault ends.Memory = Unit {0}

module _ (source : Source) where
  -- past the last token the span is empty, at the end of the text
  abbrev pub token_span : Option Token → Span
  token_span None = span_from source (length (bytes source)) (length (bytes source))
  token_span (Some token) = span_from source token.from token.to

  -- a fault at the whole token at a place
  unfoldable pub fault_at : FaultCode → ℕ → Fault
  fault_at code at = record { code = code; span = token_span (token_of source (lexeme_at source at)) }

  -- how a call ends where the reader of the grammar stops so
  abbrev pub EndsBy : ReadError → ReadEnd → Type 0
  EndsBy stops.Memory end = end ≡ ends.Memory
  EndsBy (stops.Unexpected at) end = IsEnd (fault_at Syntax at) end
  EndsBy (stops.TooDeep at) end = IsEnd (fault_at Depth at) end

  module _ (levels : ℕ) (form : Form) where
    -- the table says this of the form at the first token, where so many levels may be opened
    abbrev pub Says : Answer Part → Type 0
    Says answer = ReadsDeep (forms source) (text_of source) opening closing levels (form_of form) 0 answer

    -- the first token with which the form can't go on, or the first that opens a level too many
    abbrev pub IsFault : Fault → Type 0
    IsFault fault =
        ((at : ℕ) × Says (Unexpected at) × (fault ≡ fault_at Syntax at))
        ⊎ ((at : ℕ) × Says (TooDeep at) × (fault ≡ fault_at Depth at))

    -- what was returned is what the table says, with the place of the token behind it among all tokens, unless memory ran
    -- out
    abbrev pub ReadsSource : Result (Expr × ℕ) ReadEnd → Type 0
    ReadsSource (Ok read) = (at : ℕ) × Says (Got (Values read.0 ∷ []) at) × (read.1 ≡ token_at source at)
    ReadsSource (Err (ends.Fault fault)) = IsFault fault
    ReadsSource (Err ends.Memory) = Unit {0}

-- the same of the tokens of a sheet from a place on
abbrev pub IsRead : Listed → Form → ℕ → ℕ → Result (Expr × ℕ) ReadEnd → Type 0
IsRead listed form at levels result =
    (source : Source) × Sees listed form at source × ReadsSource source levels form result

abbrev pub ReadsExpr : Listed → Form → ℕ → ℕ → Result (Expr × ℕ) ReadEnd → Type 0
ReadsExpr listed form at levels (Ok read) = IsRead listed form at levels (Ok read)
ReadsExpr listed form at levels (Err (ends.Fault fault)) = IsRead listed form at levels (Err (ends.Fault fault))
ReadsExpr listed form at levels (Err ends.Memory) = Unit {0}
