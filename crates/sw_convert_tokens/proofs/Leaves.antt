-- Constants, `&`, `!important` and strings.
use Rattle.std.proofs.Common.{◌≡◌, ◌<◌, ℕ, Bool, true, false, not, if◌then◌else◌, List, [], ◌∷◌, ◌++◌, length, Option, refl, sym, ◌∙◌, ap, subst, append_assoc, arith, lit<}
use Rattle.std.specs.Prelude.{◌==◌, codes}
use Rattle.sw_text_scan.specs.Bytes.{sign, byte, is_white}
use Rattle.sw_text_scan.specs.Runs.{run_end, escape_end, begins_name}
use Rattle.sw_text_scan.specs.Words.{is_u, begins_range, begins_url}
use Rattle.sw_text_locality.specs.Names as locality
use Rattle.sw_tokens.specs.declared.pieces.Before.{Before}
use Rattle.sw_tokens.specs.declared.pieces.Before.TheVariants as befores
use Rattle.sw_tokens.specs.declared.pieces.Change.TheVariants as changes
use Rattle.sw_tokens.specs.declared.skips.Inside.TheVariants as insides
use Rattle.sw_tokens.specs.declared.token.TokenKind.TheVariants as kinds
use Rattle.sw_tokens.specs.Pieces.{made, piece, code_piece, word_piece, name_piece, sign_piece, opens_url, number_piece, is_hex_form, quote_piece, loud_piece}
use Rattle.sw_tokens.specs.Tokens.{is_spaced}
use Rattle.sw_parse_grammar.specs.Grammar.{member}
use Rattle.sw_parse_terminals.specs.Urls.{has_namespace}
use Rattle.sw_parse_terminals.specs.declared.terminal.Terminal.{Terminal}
use Rattle.sw_parse_terminals.specs.declared.terminal.Terminal.TheVariants as terminals
use Rattle.sw_parse_terminals.specs.declared.lexeme.Lexeme.{Lexeme}
use Rattle.sw_parse_terminals.specs.Numbers.{number_of}
use Rattle.sw_parse_lexemes.specs.declared.sort.Sort.TheVariants as sorts
use Rattle.sw_parse_lexemes.specs.Classes.{is_comment}
use Rattle.sw_parse_lexemes.specs.Sorts.{sort_of, quoted_sort}
use Rattle.sw_parse_table.specs.Operators.{constant_of}
use Rattle.sw_parse_table.specs.declared.source.Source.{Source}
use Rattle.sw_parse_table.specs.Sets.{constants}
use Rattle.sw_parse_table.specs.Sources.{token_of, decoded_in, decoded_by, decoded_at}
use Rattle.sw_convert_spelling.specs.Spelt.{behind_gap}
use Rattle.sw_convert_spelling.specs.Neighbours.{parts_name, begins_other}
use Rattle.sw_convert_spelling.specs.Strings.{are_bytes, escaped, string_text}
use Rattle.sw_convert_spelling.proofs.StringTokens as strings
use Rattle.sw_convert_spelling.proofs.MovedRuns.{first_byte}
use Rattle.sw_convert_spelling.proofs.Choices.{left_no, both, neither}
use Rattle.sw_convert_written.specs.Escapes.{ends_unclosed}
use Rattle.sw_convert_written.specs.Signs.{constant_text}
use Rattle.sw_convert_passing.specs.Kinds.{is_quoted}
use Rattle.sw_convert_passing.specs.Values.{constant, lone_value, important, quoted}
use Rattle.sw_convert_again.specs.Tokens.{tok, Decoded}
use Rattle.sw_convert_again.specs.Tokens as again
use Rattle.sw_convert_tokens.specs.Joints.{Seen, Segment, Sits}
use Rattle.sw_convert_tokens.specs.Written.{Follows, is_calm, gap_of, AsValue, WrittenAs}
use Rattle.sw_convert_tokens.proofs.Joins.{join, as_text, as_behind}
use Rattle.sw_convert_tokens.proofs.Signs.{Fits, token_segment, sign_segment, token_by, sign_token}
use Rattle.sw_convert_tokens.proofs.Stops.{name_parts}

-- ---- words of the language

-- what begins without a `u` is no range and no url
pub no_other : (b : ℕ) (bytes : List ℕ) → is_u b ≡ false → begins_other befores.White (b ∷ bytes) ≡ false
no_other b bytes e =
    neither (begins_range (b ∷ bytes) 0) (begins_url (b ∷ bytes) 0)
    (left_no (is_u (byte (b ∷ bytes) 0)) _ (ap is_u (first_byte b bytes) ∙ e))
    (left_no (is_u (byte (b ∷ bytes) 0)) _ (ap is_u (first_byte b bytes) ∙ e))

-- a word behind what stands before it
pub word_segment : (b c : ℕ) (bytes : List ℕ) (terminal : Terminal) (before : Before) (spaced : Bool)
    → is_calm (behind_gap before (gap_of spaced)) ≡ true → is_comment (sort_of kinds.Word (b ∷ c ∷ bytes)) ≡ false
    → is_white b ≡ false → is_u b ≡ false → (b == sign "}") ≡ false
    → piece ((b ∷ c ∷ bytes) ++ []) insides.Sheet befores.White 0 ≡ made kinds.Word (length (b ∷ c ∷ bytes)) changes.Keep
    → locality.ends_unclosed (b ∷ c ∷ bytes) 0 ≡ ends_unclosed (b ∷ c ∷ bytes)
    → Segment before (gap_of spaced ++ b ∷ c ∷ bytes) (again.sign terminal ∷ [])
    (record { sort = sort_of kinds.Word (b ∷ c ∷ bytes); spaced = is_spaced (behind_gap before (gap_of spaced)); may_be = terminal ∷ [] } ∷ [])
    befores.Other (Follows (b ∷ c ∷ bytes))
word_segment b c bytes terminal before spaced calm seen black no_u no_brace alone same =
    sign_segment kinds.Word (b ∷ c ∷ bytes) (terminal ∷ []) before spaced (Follows (b ∷ c ∷ bytes)) refl seen
    (ap is_white (first_byte b (c ∷ bytes)) ∙ black) (some bytes)
    (λ inside after code f.
    token_by kinds.Word b (c ∷ bytes) after inside (behind_gap before (gap_of spaced)) code calm no_u no_brace alone
    (both (parts_name 0 (b ∷ c ∷ bytes) after) _ (name_parts (b ∷ c ∷ bytes) after same f)
    (ap not (no_other b (c ∷ (bytes ++ after)) no_u))))
  where
    some : (xs : List ℕ) → 0 < length (b ∷ c ∷ xs)
    some xs = omega arith

-- ---- constants

pub data IsConstant : Terminal → Type 0 where
  true_is : IsConstant terminals.True
  false_is : IsConstant terminals.False
  null_is : IsConstant terminals.Null

pub constant_by : (terminal : Terminal) → member (number_of terminal) constants ≡ true → IsConstant terminal
constant_by terminals.True m = true_is
constant_by terminals.False m = false_is
constant_by terminals.Null m = null_is
constant_by _ m = absurd (cc)

pub constant_written : {terminal : Terminal} → IsConstant terminal
    → WrittenAs (AsValue false) (constant_text (constant_of terminal)) (again.sign terminal ∷ [])
unfolding code_piece word_piece name_piece sign_piece opens_url number_piece byte begins_name escape_end run_end is_hex_form quote_piece loud_piece locality.ends_unclosed locality.is_unclosed ends_unclosed
constant_written true_is before spaced calm = record {
  passed = _;
  segment = word_segment (sign "t") (sign "r") (codes "ue") terminals.True before spaced calm refl refl refl refl refl refl;
  told = λ mode free. constant sorts.True refl;
}
constant_written false_is before spaced calm = record {
  passed = _;
  segment = word_segment (sign "f") (sign "a") (codes "lse") terminals.False before spaced calm refl refl refl refl refl refl;
  told = λ mode free. constant sorts.False refl;
}
constant_written null_is before spaced calm = record {
  passed = _;
  segment = word_segment (sign "n") (sign "u") (codes "ll") terminals.Null before spaced calm refl refl refl refl refl refl;
  told = λ mode free. constant sorts.Null refl;
}

-- ---- `&` and `!important`

pub parent_written : WrittenAs (AsValue false) (codes "&") (again.sign terminals.Ampersand ∷ [])
unfolding byte
parent_written before spaced calm = record {
  passed = _;
  segment = sign_segment kinds.Ampersand (codes "&") (terminals.Ampersand ∷ []) before spaced (Follows (codes "&")) refl refl refl (lit< tt)
      (λ inside after code f. sign_token kinds.Ampersand after inside (behind_gap before (gap_of spaced)) refl code calm refl);
  told = λ mode free. lone_value sorts.Ampersand refl;
}

pub important_written : WrittenAs (AsValue false) (codes "!important")
    (again.sign terminals.Bang ∷ again.sign terminals.Important ∷ [])
unfolding code_piece word_piece name_piece sign_piece opens_url number_piece byte begins_name escape_end run_end is_hex_form quote_piece loud_piece locality.ends_unclosed locality.is_unclosed ends_unclosed
important_written before spaced calm = record {
  passed = _;
  segment = as_behind (λ after f. record { stop = f.stop; closed = f.closed })
      (as_text (append_assoc (gap_of spaced) (codes "!") (codes "important"))
      (join (sign_segment kinds.Exclamation (codes "!") (terminals.Bang ∷ []) before spaced (λ after. (rest : List ℕ) × (after ≡ sign "i" ∷ rest)) refl refl refl (lit< tt)
      (λ inside after code next. sign_token kinds.Exclamation after inside (behind_gap before (gap_of spaced)) refl code calm
      (subst (λ (t : List ℕ). Fits kinds.Exclamation t) (sym next.1) refl)))
      (word_segment (sign "i") (sign "m") (codes "portant") terminals.Important befores.Other false refl refl refl refl refl refl refl)
      (λ after f. (codes "mportant" ++ after, refl))));
  told = λ mode free. important;
}

-- ---- strings

quoted_is : (text : List ℕ) → is_quoted (quoted_sort text) ≡ true
quoted_is text = go (has_namespace text)
  where
    go : (t : Bool) → is_quoted (if t then sorts.Quoted else sorts.Unnamed) ≡ true
    go true = refl
    go false = refl

not_comment : (text : List ℕ) → is_comment (quoted_sort text) ≡ false
not_comment text = go (has_namespace text)
  where
    go : (t : Bool) → is_comment (if t then sorts.Quoted else sorts.Unnamed) ≡ false
    go true = refl
    go false = refl

pub says_decoded : (text : List ℕ) (seen : Seen) → decoded_by seen.kind ≡ text → (source : Source) (commented : Bool) (at : ℕ)
    (front after : List ℕ) → Sits source commented at front seen after → decoded_at source at ≡ text
unfolding decoded_at
says_decoded text seen is source commented at front after sits =
    ap (λ (l : Option Lexeme). decoded_in (token_of source l)) sits.there ∙ sits.decoded_is ∙ is

pub quoted_written : (text : List ℕ) → are_bytes text ≡ true
    → WrittenAs (AsValue false) (string_text text) (tok terminals.Quoted (Decoded text) ∷ [])
quoted_written text bytes before spaced calm = record {
  passed = _;
  segment = token_segment (kinds.Quoted text) (string_text text) (terminals.Quoted ∷ []) (Decoded text) before spaced
      (Follows (string_text text)) refl (not_comment text) (ap is_white (first_byte (sign "\"") (escaped text ++ codes "\""))) (some (escaped text ++ codes "\""))
      (says_decoded text _ refl)
      (λ inside after code f. strings.string_token text inside (behind_gap before (gap_of spaced)) after bytes code);
  told = λ mode free. quoted (quoted_sort text) (quoted_is text);
}
  where
    some : (xs : List ℕ) → 0 < length (sign "\"" ∷ xs)
    some xs = omega arith
