-- Urls, unicode ranges and `@` with a name in raw text are the tokens that they were.
use Rattle.std.proofs.Common.{◌≡◌, ◌<◌, inl, ℕ, ◌+◌, Bool, true, false, not, ◌||◌, if◌then◌else◌, List, [], ◌∷◌, ◌++◌, length, Option, Some, refl, sym, ◌∙◌, ap, subst, arith}
use Rattle.std.specs.Prelude.{◌==◌}
use Rattle.std.proofs.lemmas.Bool.Decides.{nat_tests}
use Rattle.sw_text_scan.specs.declared.runs.Class.TheVariants as classes
use Rattle.sw_text_scan.specs.Bytes.{sign, byte, is_name_byte, starts_plainly, opens_at}
use Rattle.sw_text_scan.specs.Runs.{run_end}
use Rattle.sw_text_scan.specs.Words.{begins_range, unit_start}
use Rattle.sw_text_scan.proofs.Bounds.{and_left, and_right, not_true}
use Rattle.sw_tokens.specs.declared.pieces.Before.{Before}
use Rattle.sw_tokens.specs.declared.pieces.Before.TheVariants as befores
use Rattle.sw_tokens.specs.declared.pieces.Change.{Change}
use Rattle.sw_tokens.specs.declared.pieces.Change.TheVariants as changes
use Rattle.sw_tokens.specs.declared.pieces.Piece.{Piece}
use Rattle.sw_tokens.specs.declared.skips.Inside.{Inside}
use Rattle.sw_tokens.specs.declared.skips.Inside.TheVariants as insides
use Rattle.sw_tokens.specs.declared.token.TokenKind.{TokenKind}
use Rattle.sw_tokens.specs.declared.token.TokenKind.TheVariants as kinds
use Rattle.sw_tokens.specs.Ends.{opens}
use Rattle.sw_tokens.specs.Pieces.{made, piece, number_kind, number_piece}
use Rattle.sw_parse_terminals.specs.declared.lexeme.Lexeme.{Lexeme}
use Rattle.sw_parse_lexemes.specs.declared.sort.Sort.{Sort}
use Rattle.sw_parse_lexemes.specs.declared.sort.Sort.TheVariants as sorts
use Rattle.sw_parse_lexemes.specs.Ahead.{sort_at}
use Rattle.sw_parse_lexemes.specs.Classes.{is_name, is_number}
use Rattle.sw_parse_lexemes.specs.Sorts.{sort_of}
use Rattle.sw_parse_table.specs.declared.source.Source.{Source}
use Rattle.sw_parse_table.specs.Sources.{lexeme_at, bytes_at}
use Rattle.sw_convert_spelling.proofs.Choices.{left_no, right_no, ends_here, unlike, no_white_piece}
use Rattle.sw_convert_written.specs.Escapes.{ends_unclosed}
use Rattle.sw_convert_passing.specs.Kinds.{is_raw}
use Rattle.sw_convert_heads_passing.specs.RawTexts as told
use Rattle.sw_convert_tokens.specs.Values.{WasRead}
use Rattle.sw_convert_tokens.specs.Written.{is_stop, is_dots, stops, begins_white}
use Rattle.sw_convert_tokens.proofs.OriginChoices.{is_range}
use Rattle.sw_convert_tokens.proofs.Ranges.{range_black, range_token}
use Rattle.sw_convert_tokens.proofs.Stops.{stopped}
use Rattle.sw_convert_tokens.proofs.Words.{kind_of_range}
use Rattle.sw_convert_texts.specs.RawKinds.{is_at, is_digits, is_equals, is_hex, sort_behind, ends_number, at_stays}
use Rattle.sw_convert_texts.specs.Urls.{is_unbroken}
use Rattle.sw_convert_texts.proofs.RawHeads.{is_neutral}
use Rattle.sw_convert_texts.proofs.TerminalChoices.{is_url}
use Rattle.sw_convert_texts.proofs.LexemePairs.{plains_in}
use Rattle.sw_convert_texts.proofs.OldPieces.{old_piece, whole_bytes, Whole}
use Rattle.sw_convert_texts.proofs.Pieces.{is_frame, Cases, piece_has, name_has, is_named}
use Rattle.sw_convert_texts.proofs.NameTokens.{Settled, parted_settled}
use Rattle.sw_convert_texts.proofs.PartTokens.{PartToken}
use Rattle.sw_convert_texts.proofs.AtTokens.{at_part}
use Rattle.sw_convert_texts.proofs.WordKinds.{kind_of_at}
use Rattle.sw_convert_texts.proofs.UrlTokens.{UrlAt, url_in, url_token, url_black, url_some}
use Rattle.sw_convert_texts.proofs.Urls.{kind_of_url, closed_at, shut_at}
use Rattle.sw_convert_texts.proofs.RawNames.{RawToken, at_there}
use Rattle.sw_convert_texts.proofs.RawSigns.{calm_by, stays_is}

-- ---- urls

-- one without a `}` and a `#{`
pub url_by : (source : Source) (lexeme : Lexeme) (text : List ℕ) → Whole source lexeme kinds.Url text → is_unbroken text ≡ true
    → RawToken sorts.Url text
url_by source lexeme text whole unbroken =
    let closed : (xs : List ℕ) (k : ℕ) → k < length text → (byte (text ++ xs) k == sign "}") ≡ false =
    λ xs k lt. closed_at text xs unbroken k lt in
    let shut : (xs : List ℕ) (k : ℕ) → k + 1 < length text → opens_at (text ++ xs) k ≡ false =
    λ xs k lt. shut_at text xs unbroken k lt in
    let at : UrlAt (text ++ whole.after) (length text) =
    url_in (length text) whole.change (text ++ whole.after) whole.inside whole.before whole.is in record {
      kind = kinds.Url;
      closed = refl;
      seen = refl;
      other = refl;
      some = url_some text whole.after [] closed shut at;
      black = url_black text whole.after [] closed shut at;
      token = λ after stays before stands.
          url_token text whole.after after closed shut at insides.Sheet before refl (calm_by before sorts.Url text refl refl refl stands);
      raw = λ mode around spaced rest more. told.raw_token sorts.Url refl more;
      told = inl refl;
      digits = λ e. absurd (let wrong : false ≡ true = e in cc);
      neutral = refl;
    }

-- ---- unicode ranges

abbrev is_range_kind : TokenKind → Bool
is_range_kind kinds.UnicodeRange = true
is_range_kind _ = false

frame_no : (kind : TokenKind) → is_frame kind ≡ true → is_range_kind kind ≡ false
frame_no kinds.UnicodeRange e = absurd (cc)
frame_no _ e = refl

named_no : (kind : TokenKind) → is_named kind ≡ true → is_range_kind kind ≡ false
named_no kinds.UnicodeRange e = absurd (cc)
named_no _ e = refl

number_no : (t : Bool) → is_range_kind (if t then kinds.Digits else kinds.Number) ≡ false
number_no true = refl
number_no false = refl

module _ (n : ℕ) (change : Change) where
  abbrev result : Option Piece
  result = made kinds.UnicodeRange n change

  not_so : {P : Type 0} (other : TokenKind) (a : ℕ) (c : Change) → made other a c ≡ result → is_range_kind other ≡ false → P
  not_so other a c e f = absurd (let wrong : true ≡ false = unlike is_range_kind other a c e ∙ f in cc)

  -- where one begins, and how far it goes
  abbrev RangeHere : List ℕ → Type 0
  RangeHere xs = (begins_range xs 0 ≡ true) × (run_end classes.Range xs 2 ≡ n)

  range_cases : (xs : List ℕ) → Cases xs 0 (λ o. o ≡ result → RangeHere xs)
  unfolding number_piece
  range_cases xs = record {
    none = λ e. absurd (cc);
    white = λ m e. no_white_piece _ e;
    frame = λ other f m c e. not_so other m c e (frame_no other f);
    quoted = λ i j m e. not_so (kinds.Quoted _) m changes.Keep e refl;
    text = λ i j m e. not_so (kinds.Text _) m changes.Keep e refl;
    name = name_has xs 0 (λ o. o ≡ result → RangeHere xs) (λ other named m c e. not_so other m c e (named_no other named));
    number = λ b e. not_so (number_kind xs (run_end classes.Digit xs 0) (unit_start xs 0)) _ changes.Keep e (number_no _);
    range = λ b e. (b, ends_here kinds.UnicodeRange _ changes.Keep e);
    url = λ top b c e. not_so kinds.Url _ changes.Keep e refl;
  }

  range_in : (xs : List ℕ) (inside : Inside) (before : Before) → piece xs inside before 0 ≡ result → RangeHere xs
  range_in xs inside before = piece_has xs 0 (λ o. o ≡ result → RangeHere xs) (range_cases xs) inside before

end_stops : (after : List ℕ) → ends_number after ≡ true → stops after ≡ true
end_stops [] e = refl
end_stops (b ∷ after) e = go (is_stop b) e
  where
    go : (t : Bool) → t ≡ true → (t || is_dots (b ∷ after)) ≡ true
    go true f = refl
    go false f = absurd (cc)

pub range_by : (source : Source) (lexeme : Lexeme) (text : List ℕ) → Whole source lexeme kinds.UnicodeRange text
    → RawToken sorts.Range text
range_by source lexeme text whole =
    let (begins, run) = range_in (length text) whole.change (text ++ whole.after) whole.inside whole.before whole.is in
    let end = stopped [] refl in record {
      kind = kinds.UnicodeRange;
      closed = refl;
      seen = refl;
      other = refl;
      some = whole.some;
      black = range_black text whole.after [] end begins run;
      token = λ after stays before stands.
          range_token text whole.after after (stopped after (end_stops after (stays_is sorts.Range text after refl refl stays)))
          begins run insides.Sheet before refl (calm_by before sorts.Range text refl refl refl stands);
      raw = λ mode around spaced rest more. told.raw_token sorts.Range refl more;
      told = inl refl;
      digits = λ e. absurd (let wrong : false ≡ true = e in cc);
      neutral = refl;
    }

-- ---- `@` with a name

at_raw : (sort : Sort) → is_at sort ≡ true → is_raw sort ≡ true
at_raw sorts.AtUse e = refl
at_raw sorts.AtForward e = refl
at_raw sorts.AtFunction e = refl
at_raw sorts.AtMixin e = refl
at_raw sorts.AtInclude e = refl
at_raw sorts.AtContent e = refl
at_raw sorts.AtReturn e = refl
at_raw sorts.AtWarn e = refl
at_raw sorts.AtDebug e = refl
at_raw sorts.AtError e = refl
at_raw sorts.AtIf e = refl
at_raw sorts.AtElse e = refl
at_raw sorts.AtElseIf e = refl
at_raw sorts.AtEach e = refl
at_raw sorts.AtFor e = refl
at_raw sorts.AtWhile e = refl
at_raw sorts.AtMedia e = refl
at_raw sorts.AtSupports e = refl
at_raw sorts.AtRoot e = refl
at_raw sorts.AtCharset e = refl
at_raw sorts.AtImport e = refl
at_raw sorts.AtExtend e = refl
at_raw sorts.AtName e = refl
at_raw _ e = absurd (cc)

at_neutral : (sort : Sort) → is_at sort ≡ true → is_neutral sort ≡ true
at_neutral sorts.OpenParen e = absurd (cc)
at_neutral sorts.OpenBracket e = absurd (cc)
at_neutral sorts.OpenInsert e = absurd (cc)
at_neutral sorts.CloseParen e = absurd (cc)
at_neutral sorts.CloseBracket e = absurd (cc)
at_neutral sorts.CloseInsert e = absurd (cc)
at_neutral sorts.OpenBrace e = absurd (cc)
at_neutral sorts.CloseBrace e = absurd (cc)
at_neutral sorts.Semicolon e = absurd (cc)
at_neutral _ e = refl

at_leaves : (sort : Sort) → is_at sort ≡ true → sort_behind sort ≡ befores.Other
at_leaves sorts.Hash e = absurd (cc)
at_leaves sorts.Dollar e = absurd (cc)
at_leaves _ e = refl

at_unnamed : (sort : Sort) → is_at sort ≡ true → is_name sort ≡ false
at_unnamed sorts.AtUse e = refl
at_unnamed sorts.AtForward e = refl
at_unnamed sorts.AtFunction e = refl
at_unnamed sorts.AtMixin e = refl
at_unnamed sorts.AtInclude e = refl
at_unnamed sorts.AtContent e = refl
at_unnamed sorts.AtReturn e = refl
at_unnamed sorts.AtWarn e = refl
at_unnamed sorts.AtDebug e = refl
at_unnamed sorts.AtError e = refl
at_unnamed sorts.AtIf e = refl
at_unnamed sorts.AtElse e = refl
at_unnamed sorts.AtElseIf e = refl
at_unnamed sorts.AtEach e = refl
at_unnamed sorts.AtFor e = refl
at_unnamed sorts.AtWhile e = refl
at_unnamed sorts.AtMedia e = refl
at_unnamed sorts.AtSupports e = refl
at_unnamed sorts.AtRoot e = refl
at_unnamed sorts.AtCharset e = refl
at_unnamed sorts.AtImport e = refl
at_unnamed sorts.AtExtend e = refl
at_unnamed sorts.AtName e = refl
at_unnamed _ e = absurd (cc)

at_unhex : (sort : Sort) → is_at sort ≡ true → is_hex sort ≡ false
at_unhex sorts.Hex e = absurd (cc)
at_unhex _ e = refl

at_unequal : (sort : Sort) → is_at sort ≡ true → is_equals sort ≡ false
at_unequal sorts.Equals e = absurd (cc)
at_unequal _ e = refl

at_uncounted : (sort : Sort) → is_at sort ≡ true → is_number sort ≡ false
at_uncounted sorts.Digits e = absurd (cc)
at_uncounted sorts.Number e = absurd (cc)
at_uncounted _ e = refl

-- what stands behind it goes on with no name
at_settled : (text after : List ℕ) → at_stays text after ≡ true → Settled text after
unfolding byte
at_settled text after e =
    let dark = stopped after (end_stops after (and_right (not (ends_unclosed text)) _ e)) in
    parted_settled text after
    (record {
      dark = dark;
      closed = right_no (begins_white after) _ (not_true (ends_unclosed text) (and_left (not (ends_unclosed text)) _ e));
    })
    (record {
      digit = dark.digit;
      unit = no_start (byte after 0) dark.name;
      percent = dark.percent;
      point = left_no (byte after 0 == sign ".") _ (no_point after (and_right (not (ends_unclosed text)) _ e));
    })
  where
    no_start : (b : ℕ) → is_name_byte b ≡ false → starts_plainly b ≡ false
    no_start b n = grind (arith, nat_tests)

    stop_point : (b : ℕ) → is_stop b ≡ true → (b == sign ".") ≡ false
    stop_point b n = grind (arith, nat_tests)

    no_point : (xs : List ℕ) → ends_number xs ≡ true → (byte xs 0 == sign ".") ≡ false
    no_point [] n = refl
    no_point (b ∷ xs) n = stop_point b n

pub at_by : (source : Source) (k : ℕ) (text : List ℕ) (sort : Sort) → (token : PartToken source k text)
    → token.kind ≡ kinds.AtName → sort_of kinds.AtName text ≡ sort → is_at sort ≡ true → RawToken sort text
at_by source k text sort token kind_is sort_is at =
    let same : sort_of token.kind text ≡ sort = ap (λ (kind : TokenKind). sort_of kind text) kind_is ∙ sort_is in record {
      kind = token.kind;
      closed = token.closed;
      seen = token.seen;
      other = token.other ∙ sym (at_leaves sort at);
      some = token.some;
      black = token.black;
      token = λ after stays before stands.
          token.token after (at_settled text after (at_there sort text after (at_unnamed sort at) at stays)) insides.Sheet refl before
          (calm_by before sort text (at_unnamed sort at) (at_unhex sort at) (at_unequal sort at) stands);
      raw = λ mode around spaced rest more. told.raw_token (sort_of token.kind text) (at_raw _ (ap is_at same ∙ at)) more;
      told = inl same;
      digits = λ e. absurd (let none = left_no (is_number sort) (is_digits text) (at_uncounted sort at) in let wrong : true ≡ false = sym e ∙ none in cc);
      neutral = at_neutral _ (ap is_at same ∙ at);
    }

-- ---- of a sheet that was read

module _ (source : Source) (was : WasRead source) (k : ℕ) (lexeme : Lexeme) (there : lexeme_at source k ≡ Some lexeme) where
  abbrev sort_here : Sort
  sort_here = sort_at (plains_in source) lexeme.token

  pub url_raw : sort_here ≡ sorts.Url → is_unbroken (bytes_at source k) ≡ true → RawToken sorts.Url (bytes_at source k)
  url_raw is unbroken =
      let old = old_piece source was k lexeme there in
      let kind = kind_of_url old.kind old.text (ap is_url (sym old.sort ∙ is)) in
      let whole : Whole source lexeme kinds.Url old.text =
      subst (λ (kind : TokenKind). Whole source lexeme kind old.text) kind (old.own (ap opens kind)) in
      let same : bytes_at source k ≡ old.text = whole_bytes source k lexeme kinds.Url old.text there whole in
      subst (RawToken sorts.Url) (sym same) (url_by source lexeme old.text whole (ap is_unbroken (sym same) ∙ unbroken))

  pub range_raw : sort_here ≡ sorts.Range → RawToken sorts.Range (bytes_at source k)
  range_raw is =
      let old = old_piece source was k lexeme there in
      let kind = kind_of_range old.kind old.text (ap is_range (sym old.sort ∙ is)) in
      let whole : Whole source lexeme kinds.UnicodeRange old.text =
      subst (λ (kind : TokenKind). Whole source lexeme kind old.text) kind (old.own (ap opens kind)) in
      let same : bytes_at source k ≡ old.text = whole_bytes source k lexeme kinds.UnicodeRange old.text there whole in
      subst (RawToken sorts.Range) (sym same) (range_by source lexeme old.text whole)

  pub at_name_raw : is_at sort_here ≡ true → RawToken sort_here (bytes_at source k)
  at_name_raw at =
      let old = old_piece source was k lexeme there in
      let kind = kind_of_at old.kind old.text (ap is_at (sym old.sort) ∙ at) in
      let whole : Whole source lexeme kinds.AtName old.text =
      subst (λ (kind : TokenKind). Whole source lexeme kind old.text) kind (old.own (ap opens kind)) in
      let same : bytes_at source k ≡ old.text = whole_bytes source k lexeme kinds.AtName old.text there whole in
      let (token, (kind_is, named)) = at_part source k lexeme there old.text whole in
      subst (RawToken sort_here) (sym same)
      (at_by source k old.text sort_here token kind_is
      (sym (ap (λ (kind : TokenKind). sort_of kind old.text) kind) ∙ sym old.sort) at)
