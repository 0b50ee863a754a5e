-- Names of raw text are the tokens that they were, before what is written behind them.
use Rattle.std.proofs.Common.{◌≡◌, inl, ◌<◌, ℕ, Bool, true, false, not, ◌&&◌, ◌||◌, List, [], ◌∷◌, ◌++◌, length, Option, Some, None, refl, sym, ◌∙◌, ap, subst, ◌-◌, arith}
use Rattle.std.specs.Prelude.{◌==◌, if◌then◌else◌}
use Rattle.std.specs.List.{list_all}
use Rattle.std.proofs.lemmas.Bool.Decides.{nat_tests}
use Rattle.sw_parse_lexemes.specs.declared.sort.Sort.TheVariants as sorts
use Rattle.sw_convert_texts.proofs.RawHeads.{ToldSort, is_neutral, name_neutral}
use Rattle.sw_text_scan.specs.declared.signs.TheConstants.{END, LINE_FEED, CARRIAGE_RETURN}
use Rattle.sw_text_scan.specs.Bytes.{sign, byte, is_white, is_name_byte}
use Rattle.sw_text_scan.specs.Words.{is_u}
use Rattle.sw_text_scan.proofs.Bounds.{if_true, if_false, and_left, and_right, or_left, or_right, not_true}
use Rattle.sw_tokens.specs.declared.pieces.Before.{Before}
use Rattle.sw_tokens.specs.declared.pieces.Before.TheVariants as befores
use Rattle.sw_tokens.specs.declared.pieces.Change.TheVariants as changes
use Rattle.sw_tokens.specs.declared.skips.Inside.TheVariants as insides
use Rattle.sw_tokens.specs.declared.token.TokenKind.{TokenKind}
use Rattle.sw_tokens.specs.Ends.{opens}
use Rattle.sw_tokens.specs.Pieces.{made, piece, name_piece}
use Rattle.sw_tokens.specs.Tokens.{before_of}
use Rattle.sw_parse_terminals.specs.declared.lexeme.Lexeme.{Lexeme}
use Rattle.sw_parse_terminals.specs.declared.terminal.Terminal.TheVariants as terminals
use Rattle.sw_parse_lexemes.specs.declared.sort.Sort.{Sort}
use Rattle.sw_parse_lexemes.specs.declared.state.Mode.{Mode}
use Rattle.sw_parse_lexemes.specs.Ahead.{sort_at}
use Rattle.sw_parse_lexemes.specs.Classes.{is_name, is_number, is_comment}
use Rattle.sw_parse_lexemes.specs.Sorts.{sort_of}
use Rattle.sw_parse_table.specs.declared.source.Source.{Source}
use Rattle.sw_parse_table.specs.Sources.{lexeme_at, bytes_at}
use Rattle.sw_convert_spelling.proofs.MovedRuns.{first_byte}
use Rattle.sw_convert_spelling.proofs.Choices.{left_no, right_no}
use Rattle.sw_convert_spelling.proofs.Choices as names
use Rattle.sw_convert_written.specs.Escapes.{takes_white, behind_text, ends_unclosed}
use Rattle.sw_convert_written.specs.Expressions.{is_url}
use Rattle.sw_convert_passing.specs.Written.{Written, written}
use Rattle.sw_convert_heads_passing.specs.RawTexts.{Around, RawText}
use Rattle.sw_convert_heads_passing.specs.RawTexts as told
use Rattle.sw_convert_tokens.specs.Values.{WasRead}
use Rattle.sw_convert_tokens.specs.Written.{begins_white}
use Rattle.sw_convert_tokens.proofs.NamePieces.{name_in, name_keep}
use Rattle.sw_convert_tokens.proofs.Names.{token_at, dollar_at, hash_at, name_black}
use Rattle.sw_convert_tokens.proofs.Stops.{Behind, nothing_parts}
use Rattle.sw_convert_tokens.proofs.Words.{kind_of_name, name_opens, name_behind, name_comment}
use Rattle.sw_convert_texts.specs.RawKinds.{goes_on, is_colour, is_digits, is_hex, stands_behind, sort_behind, is_some, is_unescaped, escape_stays, name_stays, calls_url, is_at, at_stays, told_by, token_stays}
use Rattle.sw_convert_texts.proofs.LexemePairs.{plains_in}
use Rattle.sw_convert_texts.proofs.OldPieces.{old_piece, whole_bytes, Whole}
use Rattle.sw_convert_texts.proofs.UrlNames.{begins_opaque, url_called}

-- a token as raw text, wherever what is written behind it leaves it one
pub record RawToken (sort : Sort) (text : List ℕ) : Type 0 where
  pub kind : TokenKind
  pub closed : opens kind ≡ false
  pub seen : is_comment (sort_of kind text) ≡ false
  pub other : before_of (Some kind) ≡ sort_behind sort
  pub some : 0 < length text
  pub black : is_white (byte text 0) ≡ false
  pub token : (after : List ℕ) → token_stays sort text after ≡ true → (before : Before)
      → stands_behind before sort text ≡ true → piece (text ++ after) insides.Sheet before 0 ≡ made kind (length text) changes.Keep
  pub raw : (mode : Mode) (around : Around) (spaced : Bool) (rest : List Written) → RawText mode around rest
      → RawText mode around (written (sort_of kind text) spaced terminals.Raw ∷ rest)
  pub told : ToldSort sort (sort_of kind text)
  pub digits : (is_number sort && is_digits text) ≡ true → sort_of kind text ≡ sorts.Digits
  pub neutral : is_neutral (sort_of kind text) ≡ true

-- ---- names

-- `url` before arguments that are no raw text
url_after : (text after : List ℕ) → calls_url text after ≡ true → (is_url text && begins_opaque after) ≡ true
url_after text [] e = absurd (let wrong : false ≡ true = e in cc)
url_after text (b ∷ []) e = absurd (let wrong : false ≡ true = e in cc)
url_after text (b ∷ c ∷ after) e = e

state_none : (xs : List ℕ) → list_all is_unescaped xs ≡ true → behind_text None xs ≡ None
state_none [] all = refl
state_none (x ∷ xs) all =
    ap (λ (state : Option ℕ). behind_text state xs)
    (if_false (x == sign "\\") (Some 0) None (not_true (x == sign "\\") (and_left (is_unescaped x) _ all)))
    ∙ state_none xs (and_right (is_unescaped x) _ all)

pub unescaped : (xs : List ℕ) → list_all is_unescaped xs ≡ true → ends_unclosed xs ≡ false
unfolding ends_unclosed
unescaped xs all = ap takes_white (state_none xs all)

second : (a c : Bool) → a ≡ true → (a && c) ≡ false → c ≡ false
second true c e f = f
second false c e f = absurd (cc)

-- no white space goes into an escape
shut_behind : (t : Bool) (after : List ℕ) → (not t || not ((byte after 0 == END) || is_white (byte after 0))) ≡ true
    → (begins_white after && t) ≡ false
shut_behind false after e = right_no (begins_white after) false refl
shut_behind true [] e = refl
shut_behind true (b ∷ after) e =
    left_no (is_white b) true
    (sym (ap is_white (first_byte b after))
    ∙ or_right (byte (b ∷ after) 0 == END) _ (not_true ((byte (b ∷ after) 0 == END) || is_white (byte (b ∷ after) 0)) e))

-- what the byte behind a name isn't
behind_name : (text after : List ℕ) → name_stays text (byte after 0) ≡ true → Behind text after
behind_name text after e =
    let b = byte after 0 in
    let one = and_right (escape_stays text b) _ e in
    let dark = not_true (goes_on b) (and_left (not (goes_on b)) _ one) in
    let two = and_right (not (goes_on b)) _ one in
    let feed = not_true _ (and_left (not ((byte text (length text - 1) == CARRIAGE_RETURN) && (b == LINE_FEED))) _ two) in
    let three = and_right (not ((byte text (length text - 1) == CARRIAGE_RETURN) && (b == LINE_FEED))) _ two in
    let range = not_true _ (and_left (not ((b == sign "+") && ((length text == 1) && is_u (byte text 0)))) _ three) in
    let url = not_true _ (and_right (not ((b == sign "+") && ((length text == 1) && is_u (byte text 0)))) _ three) in record {
      name = or_left (is_name_byte b) _ dark;
      slash = or_right (is_name_byte b) _ dark;
      feed = feed;
      closed = shut_behind (ends_unclosed text) after (and_left (escape_stays text b) _ e);
      range = λ plus one. second (length text == 1) (is_u (byte text 0)) (same (length text) one) (second (b == sign "+") _ plus range);
      url = λ paren. second (b == sign "(") (is_url text) paren url;
    }
  where
    same : (n : ℕ) → n ≡ 1 → (n == 1) ≡ true
    same n e = grind (arith, nat_tests)

name_there : (sort : Sort) (text after : List ℕ) → is_name sort ≡ true → token_stays sort text after ≡ true
    → (name_stays text (byte after 0) || calls_url text after) ≡ true
name_there sort text after n e =
    sym (if_true (is_name sort) (name_stays text (byte after 0) || calls_url text after) (if is_at sort then at_stays text after else told_by sort text after) n)
    ∙ and_right (is_some text) _ e

pub at_there : (sort : Sort) (text after : List ℕ) → is_name sort ≡ false → is_at sort ≡ true → token_stays sort text after ≡ true
    → at_stays text after ≡ true
at_there sort text after n a e =
    sym (if_false (is_name sort) (name_stays text (byte after 0) || calls_url text after) (if is_at sort then at_stays text after else told_by sort text after) n
    ∙ if_true (is_at sort) (at_stays text after) (told_by sort text after) a)
    ∙ and_right (is_some text) _ e

pub no_number : (sort : Sort) → is_name sort ≡ true → is_number sort ≡ false
no_number sorts.Digits e = absurd (cc)
no_number sorts.Number e = absurd (cc)
no_number _ e = refl

pub name_leaves : (sort : Sort) → is_name sort ≡ true → sort_behind sort ≡ befores.Other
name_leaves sorts.Hash e = absurd (cc)
name_leaves sorts.Dollar e = absurd (cc)
name_leaves _ e = refl

no_colour : (sort : Sort) (text : List ℕ) → is_name sort ≡ true → stands_behind befores.Hash sort text ≡ true
    → is_colour text ≡ false
no_colour sort text n e =
    not_true (is_colour text) (sym (if_true (is_name sort) (not (is_colour text)) (is_hex sort) n) ∙ e)

module _ (source : Source) (was : WasRead source) (k : ℕ) (lexeme : Lexeme) (there : lexeme_at source k ≡ Some lexeme) where
  abbrev sort_here : Sort
  sort_here = sort_at (plains_in source) lexeme.token

  pub name_raw : is_name sort_here ≡ true → RawToken sort_here (bytes_at source k)
  name_raw n =
      let piece_there = old_piece source was k lexeme there in
      let k_is = kind_of_name piece_there.kind piece_there.text (ap is_name (sym piece_there.sort) ∙ n) in
      let it = piece_there.own (name_opens piece_there.kind k_is) in
      let same = whole_bytes source k lexeme piece_there.kind piece_there.text there it in
      subst (RawToken sort_here) (sym same) (of_name piece_there.kind piece_there.text k_is piece_there.sort it)
    where
      of_name : (kind : TokenKind) (text : List ℕ) → names.is_name kind ≡ true → sort_here ≡ sort_of kind text
          → Whole source lexeme kind text → RawToken sort_here text
      of_name kind text k_is sort it =
          let named = name_in kind (length text) it.change k_is (text ++ it.after) it.inside it.before it.is in
          let keep = name_keep kind (length text) it.change k_is (text ++ it.after) named in record {
            kind = kind;
            closed = name_opens kind k_is;
            seen = name_comment (sort_of kind text) (ap is_name (sym sort) ∙ n);
            other = name_behind kind k_is ∙ sym (name_leaves sort_here n);
            some = it.some;
            black = name_black text it.after [] kind it.change k_is it.some named (nothing_parts text);
            token = λ after stays before stands.
                either before stands after (name_stays text (byte after 0)) refl (name_there sort_here text after n stays) named
                ∙ ap (made kind (length text)) keep;
            raw = λ mode around spaced rest more. told.raw_name (sort_of kind text) (ap is_name (sym sort) ∙ n) more;
            told = inl (sym sort);
            digits = λ e. absurd (let no = no_number sort_here n in let wrong : true ≡ false = sym e ∙ left_no (is_number sort_here) _ no in cc);
            neutral = name_neutral (sort_of kind text) (ap is_name (sym sort) ∙ n);
          }
        where
          by : (before : Before) → stands_behind before sort_here text ≡ true → (after : List ℕ) → Behind text after
              → name_piece (text ++ it.after) 0 ≡ made kind (length text) it.change
              → piece (text ++ after) insides.Sheet before 0 ≡ made kind (length text) it.change
          by befores.White stands after beyond named = token_at text it.after after kind it.change k_is it.some named beyond insides.Sheet befores.White refl refl
          by befores.Other stands after beyond named = token_at text it.after after kind it.change k_is it.some named beyond insides.Sheet befores.Other refl refl
          by befores.Dollar stands after beyond named = dollar_at text it.after after kind it.change k_is it.some named beyond insides.Sheet refl
          by befores.Hash stands after beyond named =
              hash_at text it.after after kind it.change k_is it.some named beyond (no_colour sort_here text n stands) insides.Sheet refl

          either : (before : Before) → stands_behind before sort_here text ≡ true → (after : List ℕ) (t : Bool)
              → name_stays text (byte after 0) ≡ t → (t || calls_url text after) ≡ true
              → name_piece (text ++ it.after) 0 ≡ made kind (length text) it.change
              → piece (text ++ after) insides.Sheet before 0 ≡ made kind (length text) it.change
          either before stands after true s e named = by before stands after (behind_name text after s) named
          either before stands after false s e named = url_called text it.after after kind it.change named (url_after text after e) before
