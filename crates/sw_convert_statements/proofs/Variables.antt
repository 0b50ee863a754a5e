-- Variables and the assignment of another module's variable.
use Rattle.std.proofs.Common.{◌≡◌, ℕ, true, false, List, [], ◌∷◌, ◌++◌, refl, sym, subst, append_assoc, lit<}
use Rattle.std.specs.Prelude.{codes}
use Rattle.sw_text.specs.Names.{dashed}
use Rattle.sw_text_scan.specs.Bytes.{sign, byte}
use Rattle.sw_tree.specs.declared.statement.Flags.{Flags as TreeFlags}
use Rattle.sw_tokens.specs.declared.pieces.Before.{Before}
use Rattle.sw_tokens.specs.declared.pieces.Before.TheVariants as befores
use Rattle.sw_tokens.specs.declared.token.TokenKind.TheVariants as kinds
use Rattle.sw_tokens.specs.Tokens.{is_spaced}
use Rattle.sw_parse_terminals.specs.declared.terminal.Terminal.TheVariants as terminals
use Rattle.sw_parse_terminals.specs.Numbers.{just}
use Rattle.sw_parse_lexemes.specs.declared.sort.Sort.TheVariants as sorts
use Rattle.sw_parse_lexemes.specs.declared.state.Mode.TheVariants as modes
use Rattle.sw_parse_table.specs.declared.source.Source.{Source}
use Rattle.sw_parse_table.specs.Sources.{bytes_at}
use Rattle.sw_convert_written.specs.Names.{name_text, dollar_name}
use Rattle.sw_convert_written.specs.Heads.{with_flags}
use Rattle.sw_convert_passing.specs.Written.{Written, written, direct}
use Rattle.sw_convert_passing.specs.Heads.{Head, variable_head}
use Rattle.sw_convert_again.specs.Tokens.{Tok, tok, Old, Dashed}
use Rattle.sw_convert_again.specs.Tokens as again
use Rattle.sw_convert_again.specs.Statements.{flag_tokens}
use Rattle.sw_convert_tokens.specs.Joints.{Segment}
use Rattle.sw_convert_tokens.specs.Written.{Follows, is_calm, AsRow, WrittenAs}
use Rattle.sw_convert_tokens.specs.Values.{WasRead}
use Rattle.sw_convert_tokens.proofs.Joins as joins
use Rattle.sw_convert_tokens.proofs.Signs.{Anything, lone_segment, sign_segment, sign_token}
use Rattle.sw_convert_tokens.proofs.Unclosed.{space_ends, follows_end}
use Rattle.sw_convert_tokens.proofs.Variables.{variable_name}
use Rattle.sw_convert_heads_passing.specs.Statements.{flagged, begins_else}
use Rattle.sw_convert_texts.specs.RawTexts.{SheetSegment}
use Rattle.sw_convert_statements.specs.Segments.{FrontWritten}
use Rattle.sw_convert_statements.proofs.Segments.{sheet, join, as_text, as_passed, as_behind, text_follows}
use Rattle.sw_convert_statements.proofs.Flags.{flags_written}

-- a `:` behind a name
pub colon_segment : Segment befores.Other (codes ":") (again.sign terminals.Colon ∷ [])
    (direct sorts.Colon terminals.Colon ∷ []) befores.Other Anything
colon_segment = lone_segment (sign ":") (terminals.Colon ∷ []) befores.Other false refl refl refl (λ inside code. refl)

-- `$name:` where a statement begins
record VariableHead (source : Source) (i : ℕ) (before : Before) : Type 0 where
  passed : List Written
  first : (rest : List Written) → begins_else (passed ++ rest) ≡ false
  head : Head modes.Ends passed
  segment : SheetSegment before (dollar_name (dashed (bytes_at source i)) ++ codes ":")
      (again.sign terminals.DollarNamed ∷ tok terminals.VariableName (Dashed (dashed (bytes_at source i)))
      ∷ again.sign terminals.Colon ∷ []) passed befores.Other Anything

variable_head_written : (source : Source) (i : ℕ) → WasRead source → Old source i (just terminals.VariableName)
    → (before : Before) → is_calm before ≡ true → VariableHead source i before
unfolding byte
variable_head_written source i was old before calm =
    let name = variable_name source i was old in
    let text = name_text (dashed (bytes_at source i)) in record {
      passed = written sorts.Dollar (is_spaced before) terminals.DollarNamed ∷ direct name.sort terminals.VariableName
          ∷ direct sorts.Colon terminals.Colon ∷ [];
      first = λ rest. refl;
      head = variable_head name.sort name.is;
      segment = sheet
          (joins.join
          (sign_segment kinds.Dollar (codes "$") (terminals.DollarNamed ∷ []) before false Anything refl refl refl (lit< tt)
          (λ inside after code ok. sign_token kinds.Dollar after inside before refl code calm refl))
          (joins.join name.segment colon_segment (λ after ok. record { stop = refl; closed = refl })) (λ after ok. tt));
    }

-- a variable with its value and flags
pub variable_written : (source : Source) (i : ℕ) → WasRead source → Old source i (just terminals.VariableName)
    → {value : List ℕ} {tokens : List Tok} → WrittenAs AsRow value tokens → (flags : TreeFlags)
    → FrontWritten modes.Ends (with_flags flags (dollar_name (dashed (bytes_at source i)) ++ (codes ": " ++ value)))
    (again.sign terminals.DollarNamed ∷ tok terminals.VariableName (Dashed (dashed (bytes_at source i)))
    ∷ again.sign terminals.Colon ∷ (tokens ++ flag_tokens flags))
variable_written source i was old {value} {tokens} it flags before calm =
    let head = variable_head_written source i was old before calm in
    let one = it befores.Other true refl in
    let name = dollar_name (dashed (bytes_at source i)) in
    let whole : SheetSegment before (name ++ (codes ": " ++ value))
    (again.sign terminals.DollarNamed ∷ tok terminals.VariableName (Dashed (dashed (bytes_at source i)))
    ∷ again.sign terminals.Colon ∷ tokens) (head.passed ++ one.passed) befores.Other
    (Follows (name ++ (codes ": " ++ value))) =
    as_behind
    (λ after f. follows_end (name ++ codes ":") value (sign " ") space_ends after
    (subst (λ (t : List ℕ). Follows t after) (sym (append_assoc name (codes ":") (sign " " ∷ value))) f))
    (as_text (append_assoc name (codes ":") (codes " " ++ value))
    (join head.segment (sheet one.segment) (λ after f. tt))) in
    let all = flags_written whole flags in record {
      passed = head.passed ++ (one.passed ++ all.more);
      first = head.first (one.passed ++ all.more);
      front = flagged head.head (one.told modes.Ends refl).1 all.are;
      end = befores.Other;
      loose = λ u. refl;
      segment = as_behind (λ after e. text_follows _ after e)
          (as_passed (append_assoc head.passed one.passed all.more) all.segment);
    }
