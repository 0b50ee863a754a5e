-- Values with signs between them, and values beside each other.
use Rattle.std.proofs.Common.{◌≡◌, ◌<◌, ℕ, Bool, true, false, List, [], ◌∷◌, ◌++◌, length, Some, refl, sym, ◌∙◌, ap, subst, append_assoc, arith, lit<}
use Rattle.std.specs.Prelude.{◌==◌, codes}
use Rattle.sw_text_scan.specs.Bytes.{sign, byte, is_white}
use Rattle.sw_text_scan.specs.Runs.{run_end, escape_end, begins_name}
use Rattle.sw_text_scan.specs.Words.{is_u}
use Rattle.sw_text_locality.specs.Names as locality
use Rattle.sw_tokens.specs.declared.pieces.Before.{Before}
use Rattle.sw_tokens.specs.declared.pieces.Before.TheVariants as befores
use Rattle.sw_tokens.specs.declared.pieces.Change.TheVariants as changes
use Rattle.sw_tokens.specs.declared.skips.Inside.TheVariants as insides
use Rattle.sw_tokens.specs.declared.token.TokenKind.{TokenKind}
use Rattle.sw_tokens.specs.declared.token.TokenKind.TheVariants as kinds
use Rattle.sw_tokens.specs.Pieces.{made, piece, code_piece, word_piece, name_piece, sign_piece, opens_url, number_piece, is_hex_form, quote_piece, loud_piece}
use Rattle.sw_tokens.specs.Ends.{opens}
use Rattle.sw_tokens.specs.Tokens.{before_of, is_spaced}
use Rattle.sw_parse_grammar.specs.Grammar.{member}
use Rattle.sw_parse_terminals.specs.declared.terminal.Terminal.{Terminal}
use Rattle.sw_parse_terminals.specs.declared.terminal.Terminal.TheVariants as terminals
use Rattle.sw_parse_terminals.specs.Numbers.{number_of}
use Rattle.sw_parse_lexemes.specs.declared.sort.Sort.{Sort}
use Rattle.sw_parse_lexemes.specs.declared.sort.Sort.TheVariants as sorts
use Rattle.sw_parse_lexemes.specs.declared.state.Mode.{Mode}
use Rattle.sw_parse_lexemes.specs.Classes.{is_comment}
use Rattle.sw_parse_lexemes.specs.Sorts.{sort_of}
use Rattle.sw_parse_table.specs.declared.operator.Precedence.{Precedence}
use Rattle.sw_parse_table.specs.declared.operator.Precedence.TheVariants as precedences
use Rattle.sw_parse_table.specs.Operators.{operator_of, sign_of}
use Rattle.sw_parse_table.specs.Sets.{operators, prefixes}
use Rattle.sw_convert_spelling.specs.Spelt.{behind_gap}
use Rattle.sw_convert_spelling.specs.Neighbours.{may_stand_behind}
use Rattle.sw_convert_spelling.proofs.MovedRuns.{first_byte}
use Rattle.sw_convert_written.specs.Escapes.{ends_unclosed, space_behind}
use Rattle.sw_convert_written.specs.Signs.{operator_text, sign_text}
use Rattle.sw_convert_passing.specs.Kinds.{is_operator, operator}
use Rattle.sw_convert_passing.specs.Standing.{is_prefix_sign}
use Rattle.sw_convert_passing.specs.Written.{Written}
use Rattle.sw_convert_passing.specs.Written as passing
use Rattle.sw_convert_passing.specs.Values.{Value, negated, prefixed, linked, divided, beside}
use Rattle.sw_convert_again.specs.Tokens.{Tok}
use Rattle.sw_convert_again.specs.Tokens as again
use Rattle.sw_convert_tokens.specs.Joints.{Segment}
use Rattle.sw_convert_tokens.specs.Written.{Follows, is_calm, gap_of, AsValue, WrittenAs}
use Rattle.sw_convert_tokens.proofs.Joins.{join, as_text, as_behind}
use Rattle.sw_convert_tokens.proofs.Signs.{Fits, sign_segment, token_by, sign_token}
use Rattle.sw_convert_tokens.proofs.Unclosed.{space_ends, slash_ends, unclosed_behind, follows_end}
use Rattle.sw_convert_tokens.proofs.Spaces.{BeginsSpace, space_by, padded, space_text, unclosed_spaced, follows_spaced}

-- ---- values beside each other, and with an operator between them

pub beside_written : {signed : Bool} {left right : List ℕ} {ks ls : List Tok} (last : List ℕ)
    → ends_unclosed left ≡ ends_unclosed last → WrittenAs (AsValue signed) left ks → WrittenAs (AsValue false) right ls
    → WrittenAs (AsValue signed) (left ++ (space_behind last ++ right)) (ks ++ ls)
beside_written {left = left} {right = right} last e a b before spaced calm =
    let unclosed = ends_unclosed last in
    let one = padded a unclosed e before spaced calm in
    let two = b one.end true refl in record {
      passed = one.passed ++ two.passed;
      segment = as_behind (λ after f. follows_spaced left right unclosed after f)
          (as_text (space_text (gap_of spaced) left right unclosed)
          (join one.segment two.segment (λ after f. (right ++ after, refl))));
      told = λ mode free. beside (one.told mode free) (two.told mode free);
    }

-- a sign or a word with white space on both sides
pub spaced_segment : (kind : TokenKind) (b : ℕ) (bytes : List ℕ) (terminal : Terminal) (before : Before)
    → opens kind ≡ false → is_comment (sort_of kind (b ∷ bytes)) ≡ false
    → is_white b ≡ false → is_u b ≡ false → (b == sign "}") ≡ false
    → piece ((b ∷ bytes) ++ []) insides.Sheet befores.White 0 ≡ made kind (length (b ∷ bytes)) changes.Keep
    → ((rest : List ℕ) → may_stand_behind befores.White kind (b ∷ bytes) (sign " " ∷ rest) ≡ true)
    → Segment before (sign " " ∷ b ∷ bytes) (again.sign terminal ∷ [])
    (passing.apart (sort_of kind (b ∷ bytes)) terminal ∷ []) (before_of (Some kind)) BeginsSpace
spaced_segment kind b bytes terminal before closed seen black no_u no_brace alone fits =
    sign_segment kind (b ∷ bytes) (terminal ∷ []) before true BeginsSpace closed seen (ap is_white (first_byte b bytes) ∙ black)
    (some bytes)
    (λ inside after code space.
    token_by kind b bytes after inside befores.White code refl no_u no_brace alone
    (subst (λ (t : List ℕ). may_stand_behind befores.White kind (b ∷ bytes) t ≡ true) (sym space.1) (fits space.0)))
  where
    some : (xs : List ℕ) → 0 < length (b ∷ xs)
    some xs = omega arith

-- an operator as it is written
pub record IsOperator (terminal : Terminal) : Type 0 where
  pub sort : Sort
  pub is : is_operator sort ≡ true
  pub kind : operator sort ≡ terminal
  pub bytes : List ℕ
  pub text : operator_text (operator_of terminal) ≡ bytes ++ codes " "
  pub segment : (before : Before)
      → Segment before (sign " " ∷ bytes) (again.sign terminal ∷ []) (passing.apart sort terminal ∷ []) befores.Other
      BeginsSpace

abbrev pub is_binary : Terminal → Bool
is_binary terminals.Or = true
is_binary terminals.And = true
is_binary terminals.Equal = true
is_binary terminals.NotEqual = true
is_binary terminals.Less = true
is_binary terminals.LessEqual = true
is_binary terminals.Greater = true
is_binary terminals.GreaterEqual = true
is_binary terminals.Plus = true
is_binary terminals.Minus = true
is_binary terminals.Times = true
is_binary terminals.Divide = true
is_binary terminals.Modulo = true
is_binary _ = false

pub operators_are : (terminal : Terminal) → is_binary terminal ≡ true → IsOperator terminal
unfolding code_piece word_piece name_piece sign_piece opens_url number_piece byte begins_name escape_end run_end is_hex_form quote_piece loud_piece locality.ends_unclosed locality.is_unclosed
operators_are terminals.Or b = record {
  sort = sorts.Or;
  is = refl;
  kind = refl;
  bytes = codes "or";
  text = refl;
  segment = λ before.
      spaced_segment kinds.Word (sign "o") (codes "r") terminals.Or before refl refl refl refl refl refl (λ rest. refl);
}
operators_are terminals.And b = record {
  sort = sorts.And;
  is = refl;
  kind = refl;
  bytes = codes "and";
  text = refl;
  segment = λ before.
      spaced_segment kinds.Word (sign "a") (codes "nd") terminals.And before refl refl refl refl refl refl (λ rest. refl);
}
operators_are terminals.Equal b = record {
  sort = sorts.EqualsEquals;
  is = refl;
  kind = refl;
  bytes = codes "==";
  text = refl;
  segment = λ before.
      spaced_segment kinds.EqualsEquals (sign "=") (codes "=") terminals.Equal before refl refl refl refl refl refl (λ rest. refl);
}
operators_are terminals.NotEqual b = record {
  sort = sorts.NotEquals;
  is = refl;
  kind = refl;
  bytes = codes "!=";
  text = refl;
  segment = λ before.
      spaced_segment kinds.NotEquals (sign "!") (codes "=") terminals.NotEqual before refl refl refl refl refl refl (λ rest. refl);
}
operators_are terminals.Less b = record {
  sort = sorts.Less;
  is = refl;
  kind = refl;
  bytes = codes "<";
  text = refl;
  segment = λ before.
      spaced_segment kinds.Less (sign "<") [] terminals.Less before refl refl refl refl refl refl (λ rest. refl);
}
operators_are terminals.LessEqual b = record {
  sort = sorts.LessEquals;
  is = refl;
  kind = refl;
  bytes = codes "<=";
  text = refl;
  segment = λ before.
      spaced_segment kinds.LessEquals (sign "<") (codes "=") terminals.LessEqual before refl refl refl refl refl refl (λ rest. refl);
}
operators_are terminals.Greater b = record {
  sort = sorts.Greater;
  is = refl;
  kind = refl;
  bytes = codes ">";
  text = refl;
  segment = λ before.
      spaced_segment kinds.Greater (sign ">") [] terminals.Greater before refl refl refl refl refl refl (λ rest. refl);
}
operators_are terminals.GreaterEqual b = record {
  sort = sorts.GreaterEquals;
  is = refl;
  kind = refl;
  bytes = codes ">=";
  text = refl;
  segment = λ before.
      spaced_segment kinds.GreaterEquals (sign ">") (codes "=") terminals.GreaterEqual before refl refl refl refl refl refl (λ rest. refl);
}
operators_are terminals.Plus b = record {
  sort = sorts.Plus;
  is = refl;
  kind = refl;
  bytes = codes "+";
  text = refl;
  segment = λ before.
      spaced_segment kinds.Plus (sign "+") [] terminals.Plus before refl refl refl refl refl refl (λ rest. refl);
}
operators_are terminals.Minus b = record {
  sort = sorts.Minus;
  is = refl;
  kind = refl;
  bytes = codes "-";
  text = refl;
  segment = λ before.
      spaced_segment kinds.Minus (sign "-") [] terminals.Minus before refl refl refl refl refl refl (λ rest. refl);
}
operators_are terminals.Times b = record {
  sort = sorts.Star;
  is = refl;
  kind = refl;
  bytes = codes "*";
  text = refl;
  segment = λ before.
      spaced_segment kinds.Star (sign "*") [] terminals.Times before refl refl refl refl refl refl (λ rest. refl);
}
operators_are terminals.Divide b = record {
  sort = sorts.Slash;
  is = refl;
  kind = refl;
  bytes = codes "/";
  text = refl;
  segment = λ before.
      spaced_segment kinds.Slash (sign "/") [] terminals.Divide before refl refl refl refl refl refl (λ rest. refl);
}
operators_are terminals.Modulo b = record {
  sort = sorts.Percent;
  is = refl;
  kind = refl;
  bytes = codes "%";
  text = refl;
  segment = λ before.
      spaced_segment kinds.Percent (sign "%") [] terminals.Modulo before refl refl refl refl refl refl (λ rest. refl);
}
operators_are _ b = absurd (cc)

pub binary_by : (precedence : Precedence) (terminal : Terminal)
    → member (number_of terminal) (operators precedence) ≡ true → is_binary terminal ≡ true
binary_by precedences.Product terminals.Times m = refl
binary_by precedences.Product terminals.Divide m = refl
binary_by precedences.Product terminals.Modulo m = refl
binary_by precedences.Product _ m = absurd (cc)
binary_by precedences.Sum terminals.Plus m = refl
binary_by precedences.Sum terminals.Minus m = refl
binary_by precedences.Sum _ m = absurd (cc)
binary_by precedences.Relation terminals.Less m = refl
binary_by precedences.Relation terminals.LessEqual m = refl
binary_by precedences.Relation terminals.Greater m = refl
binary_by precedences.Relation terminals.GreaterEqual m = refl
binary_by precedences.Relation _ m = absurd (cc)
binary_by precedences.Equality terminals.Equal m = refl
binary_by precedences.Equality terminals.NotEqual m = refl
binary_by precedences.Equality _ m = absurd (cc)
binary_by precedences.And terminals.And m = refl
binary_by precedences.And _ m = absurd (cc)
binary_by precedences.Or terminals.Or m = refl
binary_by precedences.Or _ m = absurd (cc)

pub linked_written : {signed next : Bool} {left right : List ℕ} {ks ls : List Tok} (last : List ℕ) (terminal : Terminal)
    → IsOperator terminal → ends_unclosed left ≡ ends_unclosed last → WrittenAs (AsValue signed) left ks
    → WrittenAs (AsValue next) right ls
    → WrittenAs (AsValue signed) (left ++ (space_behind last ++ (operator_text (operator_of terminal) ++ right)))
    (ks ++ again.sign terminal ∷ ls)
linked_written {signed} {next} {left} {right} {ks} {ls} last terminal op e a b before spaced calm =
    let unclosed = ends_unclosed last in
    let one = padded a unclosed e before spaced calm in
    let two = b befores.Other true refl in
    let same : (op.bytes ++ codes " ") ++ right ≡ op.bytes ++ sign " " ∷ right = append_assoc op.bytes (codes " ") right in
    let whole : left ++ (space_by unclosed ++ (op.bytes ++ sign " " ∷ right))
    ≡ left ++ (space_behind last ++ (operator_text (operator_of terminal) ++ right)) =
    ap (λ (t : List ℕ). left ++ (space_by unclosed ++ t)) (sym same ∙ ap (λ (t : List ℕ). t ++ right) (sym op.text)) in record {
      passed = one.passed ++ passing.apart op.sort terminal ∷ two.passed;
      segment = as_behind (λ after f. follows_linked op.bytes after (subst (λ (t : List ℕ). Follows t after) (sym whole) f))
          (as_text (space_text (gap_of spaced) left (op.bytes ++ sign " " ∷ right) unclosed
          ∙ ap (λ (t : List ℕ). gap_of spaced ++ t) whole)
          (join one.segment (join (op.segment one.end) two.segment (λ after f. (right ++ after, refl)))
          (λ after f. ((op.bytes ++ sign " " ∷ right) ++ after, refl))));
      told = λ mode free. linked_told op.sort op.is op.kind (one.told mode free) (two.told mode free);
    }
  where
    follows_linked : (bytes after : List ℕ) → Follows (left ++ (space_by (ends_unclosed last) ++ (bytes ++ sign " " ∷ right))) after
        → Follows right after
    follows_linked bytes after f =
        follows_end bytes right (sign " ") space_ends after
        (follows_spaced left (bytes ++ sign " " ∷ right) (ends_unclosed last) after f)

    linked_told : {mode : Mode} {sp : Bool} {vs ws : List Written} (sort : Sort) → is_operator sort ≡ true
        → operator sort ≡ terminal → Value mode sp signed vs → Value mode true next ws
        → Value mode sp signed (vs ++ passing.apart sort terminal ∷ ws)
    linked_told {mode} {sp} {vs} {ws} sort is kind v w =
        subst (λ (t : Terminal). Value mode sp signed (vs ++ passing.apart sort t ∷ ws)) kind (linked v sort is w)

pub unclosed_linked : (left last right : List ℕ) (terminal : Terminal) → IsOperator terminal
    → ends_unclosed (left ++ (space_behind last ++ (operator_text (operator_of terminal) ++ right))) ≡ ends_unclosed right
unclosed_linked left last right terminal op =
    unclosed_spaced left (operator_text (operator_of terminal) ++ right) (ends_unclosed last)
    ∙ ap (λ (t : List ℕ). ends_unclosed (t ++ right)) op.text
    ∙ ap ends_unclosed (append_assoc op.bytes (codes " ") right) ∙ unclosed_behind op.bytes right (sign " ") space_ends

-- the `/` of a quotient of numbers
pub divided_written : {signed next : Bool} {left right : List ℕ} {ks ls : List Tok} → WrittenAs (AsValue signed) left ks
    → WrittenAs (AsValue next) right ls → ((after : List ℕ) → Fits kinds.Slash (right ++ after))
    → WrittenAs (AsValue signed) (left ++ (codes "/" ++ right)) (ks ++ again.sign terminals.Divide ∷ ls)
unfolding byte
divided_written {left = left} {right = right} a b fits before spaced calm =
    let one = a before spaced calm in
    let two = b befores.Other false refl in record {
      passed = one.passed ++ passing.direct sorts.Slash terminals.Divide ∷ two.passed;
      segment = as_behind (λ after f. follows_end left right (sign "/") slash_ends after f)
          (as_text (append_assoc (gap_of spaced) left (codes "/" ++ right))
          (join one.segment
          (join (sign_segment kinds.Slash (codes "/") (terminals.Divide ∷ []) befores.Other false (Fits kinds.Slash) refl refl refl (lit< tt)
          (λ inside after code ok. sign_token kinds.Slash after inside befores.Other refl code refl ok)) two.segment
          (λ after f. fits after))
          (λ after f. record { stop = refl; closed = refl })));
      told = λ mode free. divided (one.told mode free) (two.told mode free);
    }

-- ---- signs before a value

pub data IsPrefix : Terminal → Type 0 where
  plus_is : IsPrefix terminals.PrefixPlus
  minus_is : IsPrefix terminals.PrefixMinus
  slash_is : IsPrefix terminals.PrefixSlash
  not_is : IsPrefix terminals.Not

pub prefix_by : (terminal : Terminal) → member (number_of terminal) prefixes ≡ true → IsPrefix terminal
prefix_by terminals.PrefixPlus m = plus_is
prefix_by terminals.PrefixMinus m = minus_is
prefix_by terminals.PrefixSlash m = slash_is
prefix_by terminals.Not m = not_is
prefix_by _ m = absurd (cc)

module _ {next : Bool} {right : List ℕ} {ls : List Tok} (b : WrittenAs (AsValue next) right ls) where
  -- a sign or a word before a space and the value
  prefix_segment : (kind : TokenKind) (c : ℕ) (bytes : List ℕ) (terminal : Terminal) (before : Before) (spaced : Bool)
      → is_calm (behind_gap before (gap_of spaced)) ≡ true → opens kind ≡ false
      → is_comment (sort_of kind (c ∷ bytes)) ≡ false → is_white c ≡ false → is_u c ≡ false
      → (c == sign "}") ≡ false
      → piece ((c ∷ bytes) ++ []) insides.Sheet befores.White 0 ≡ made kind (length (c ∷ bytes)) changes.Keep
      → ((rest : List ℕ) → may_stand_behind befores.White kind (c ∷ bytes) (sign " " ∷ rest) ≡ true)
      → before_of (Some kind) ≡ befores.Other
      → Segment before (gap_of spaced ++ ((c ∷ bytes) ++ (codes " " ++ right))) (again.sign terminal ∷ ls)
      (passing.written (sort_of kind (c ∷ bytes)) (is_spaced (behind_gap before (gap_of spaced))) terminal
      ∷ (b befores.Other true refl).passed) befores.Other (Follows ((c ∷ bytes) ++ (codes " " ++ right)))
  prefix_segment kind c bytes terminal before spaced calm closed seen black no_u no_brace alone fits other =
      let two = b befores.Other true refl in
      let one : Segment before (gap_of spaced ++ c ∷ bytes) (again.sign terminal ∷ [])
      (passing.written (sort_of kind (c ∷ bytes)) (is_spaced (behind_gap before (gap_of spaced))) terminal ∷ [])
      befores.Other BeginsSpace =
      subst (λ (end : Before). Segment before (gap_of spaced ++ c ∷ bytes) (again.sign terminal ∷ []) (passing.written (sort_of kind (c ∷ bytes)) (is_spaced (behind_gap before (gap_of spaced))) terminal ∷ []) end BeginsSpace)
      other
      (sign_segment kind (c ∷ bytes) (terminal ∷ []) before spaced BeginsSpace closed seen (ap is_white (first_byte c bytes) ∙ black)
      (some bytes)
      (λ inside after code space.
      token_by kind c bytes after inside (behind_gap before (gap_of spaced)) code calm no_u no_brace alone
      (subst (λ (t : List ℕ). may_stand_behind befores.White kind (c ∷ bytes) t ≡ true) (sym space.1) (fits space.0)))) in
      as_behind (λ after f. follows_end (c ∷ bytes) right (sign " ") space_ends after f)
      (as_text (append_assoc (gap_of spaced) (c ∷ bytes) (codes " " ++ right))
      (join one two.segment (λ after f. (right ++ after, refl))))
    where
      some : (xs : List ℕ) → 0 < length (c ∷ xs)
      some xs = omega arith

  pub prefix_written : {terminal : Terminal} → IsPrefix terminal
      → WrittenAs (AsValue (is_prefix_sign terminal)) (sign_text (sign_of terminal) ++ right) (again.sign terminal ∷ ls)
  unfolding code_piece word_piece name_piece sign_piece opens_url number_piece byte begins_name escape_end run_end is_hex_form quote_piece loud_piece locality.ends_unclosed locality.is_unclosed
  prefix_written plus_is before spaced calm = record {
    passed = _;
    segment = prefix_segment kinds.Plus (sign "+") [] terminals.PrefixPlus before spaced calm refl refl refl refl refl refl (λ rest. refl) refl;
    told = λ mode free. prefixed sorts.Plus refl ((b befores.Other true refl).told mode free);
  }
  prefix_written minus_is before spaced calm = record {
    passed = _;
    segment = prefix_segment kinds.Minus (sign "-") [] terminals.PrefixMinus before spaced calm refl refl refl refl refl refl (λ rest. refl) refl;
    told = λ mode free. prefixed sorts.Minus refl ((b befores.Other true refl).told mode free);
  }
  prefix_written slash_is before spaced calm = record {
    passed = _;
    segment = prefix_segment kinds.Slash (sign "/") [] terminals.PrefixSlash before spaced calm refl refl refl refl refl refl (λ rest. refl) refl;
    told = λ mode free. prefixed sorts.Slash refl ((b befores.Other true refl).told mode free);
  }
  prefix_written not_is before spaced calm = record {
    passed = _;
    segment = prefix_segment kinds.Word (sign "n") (codes "ot") terminals.Not before spaced calm refl refl refl refl refl refl (λ rest. refl) refl;
    told = λ mode free. negated ((b befores.Other true refl).told mode free);
  }
