-- Unicode ranges that were read are written as they stood.
use Rattle.std.proofs.Common.{◌≡◌, ◌<◌, ℕ, zero, suc, ◌+◌, ◌-◌, Bool, true, false, not, ◌&&◌, ◌||◌, List, [], ◌∷◌, ◌++◌, length, Option, Some, None, refl, sym, ◌∙◌, ap, subst, arith}
use Rattle.std.specs.Prelude.{◌==◌, slice_range}
use Rattle.std.proofs.lemmas.Bool.Decides.{nat_tests}
use Rattle.sw_text.specs.declared.place.Span.{Span}
use Rattle.sw_text_scan.specs.declared.runs.Class.TheVariants as classes
use Rattle.sw_text_scan.specs.Bytes.{sign, byte, is_white, is_quote, is_digit, is_range_byte, starts_plainly, opens_at, begins_silent, begins_loud}
use Rattle.sw_text_scan.specs.Runs.{next, run_end}
use Rattle.sw_text_scan.specs.Words.{is_u, begins_number, begins_range}
use Rattle.sw_text_scan.proofs.Bounds.{if_true, if_false, and_left, and_right, run_step, run_stop, run_forward}
use Rattle.sw_text_locality.proofs.Written.{byte_before}
use Rattle.sw_tree.specs.declared.expr.ExprKind.TheVariants as exprs
use Rattle.sw_tree.specs.declared.text.Parts.TheVariants.{Plain as PlainParts}
use Rattle.sw_tokens.specs.declared.pieces.Before.{Before}
use Rattle.sw_tokens.specs.declared.pieces.Before.TheVariants as befores
use Rattle.sw_tokens.specs.declared.pieces.Change.{Change}
use Rattle.sw_tokens.specs.declared.pieces.Change.TheVariants as changes
use Rattle.sw_tokens.specs.declared.pieces.Piece.{Piece}
use Rattle.sw_tokens.specs.declared.skips.Inside.{Inside}
use Rattle.sw_tokens.specs.declared.skips.Inside.TheVariants as insides
use Rattle.sw_tokens.specs.declared.token.TokenKind.{TokenKind}
use Rattle.sw_tokens.specs.declared.token.TokenKind.TheVariants as kinds
use Rattle.sw_tokens.specs.Ends.{opens}
use Rattle.sw_tokens.specs.Pieces.{made, piece, sign_of, is_hex_form, after_dollar, after_hash, word_piece, in_interpolation, code_piece}
use Rattle.sw_parse_grammar.specs.Grammar.{member}
use Rattle.sw_parse_terminals.specs.declared.terminal.Terminal.{Terminal}
use Rattle.sw_parse_terminals.specs.declared.terminal.Terminal.TheVariants as terminals
use Rattle.sw_parse_terminals.specs.Numbers.{number_of, just}
use Rattle.sw_parse_lexemes.specs.declared.sort.Sort.TheVariants as sorts
use Rattle.sw_parse_lexemes.specs.Sorts.{sort_of}
use Rattle.sw_parse_table.specs.declared.source.Source.{Source}
use Rattle.sw_parse_table.specs.Sources.{bytes, from_at, to_at, bytes_at, bytes_between}
use Rattle.sw_parse_table.specs.Values.{expression}
use Rattle.sw_convert_spelling.specs.Spelt.{is_sheet_code, behind_gap}
use Rattle.sw_convert_spelling.proofs.Again as texts
use Rattle.sw_convert_spelling.proofs.Choices.{left_no, both, neither}
use Rattle.sw_convert_written.specs.declared.manner.Manner.TheVariants as manners
use Rattle.sw_convert_written.specs.Pieces.{pieces_text}
use Rattle.sw_convert_written.specs.Expressions.{expr_text}
use Rattle.sw_convert_written.proofs.Unrolled as unrolled
use Rattle.sw_convert_passing.specs.Values.{lone_value}
use Rattle.sw_convert_again.specs.Tokens.{Bytes, tok, Old}
use Rattle.sw_convert_again.proofs.Tokens.{one_byte}
use Rattle.sw_convert_tokens.specs.Written.{Follows, is_calm, gap_of, AsValue, WrittenAs}
use Rattle.sw_convert_tokens.specs.Values.{WasRead}
use Rattle.sw_convert_tokens.proofs.Joins.{as_text, as_behind}
use Rattle.sw_convert_tokens.proofs.Signs.{token_segment}
use Rattle.sw_convert_tokens.proofs.Stops.{Dark, stopped}
use Rattle.sw_convert_tokens.proofs.Olds.{old_token}
use Rattle.sw_convert_tokens.proofs.OriginChoices.{fits}
use Rattle.sw_convert_tokens.proofs.PieceCases.{is_plain, bare_plain, lone_plain, sign_plain, Cases, sign_of_is, number_has, piece_has, name_has}
use Rattle.sw_convert_tokens.proofs.Names.{Start, start_by}
use Rattle.sw_convert_tokens.proofs.Words.{kind_of_range, bytes_sit}

-- ---- what was read

-- the piece at the beginning of a text is a range only where one begins, and is its run
abbrev is_run_of : List ℕ → TokenKind → ℕ → Type 0
is_run_of bs kinds.UnicodeRange n = (begins_range bs 0 ≡ true) × (run_end classes.Range bs 2 ≡ n)
is_run_of bs _ n = Unit {0}

abbrev token_run : List ℕ → Option TokenKind → ℕ → Type 0
token_run bs None n = Unit {0}
token_run bs (Some kind) n = is_run_of bs kind n

abbrev piece_run : List ℕ → Option Piece → Type 0
piece_run bs None = Unit {0}
piece_run bs (Some p) = token_run bs p.token p.to

run_cases : (bs : List ℕ) → Cases bs 0 (piece_run bs)
run_cases bs = record {
  none = tt;
  white = λ n. tt;
  plain = λ kind e n change. plain kind n (sign_plain kind e);
  name = name_has bs 0 (piece_run bs) (λ kind e n change. plain kind n (bare_plain kind e))
      (plain (sign_of (byte bs 0)) _ (lone_plain (sign_of (byte bs 0)) (sign_of_is (byte bs 0))));
  number = λ e. number_has bs 0 (piece_run bs) (λ kind f named n change. plain kind n f);
  hex = λ e. tt;
  quoted = λ i j n. tt;
  text = λ i j n. tt;
  range = λ e. (e, refl);
}
  where
    plain : (kind : TokenKind) (n : ℕ) → is_plain kind ≡ true → is_run_of bs kind n
    plain kinds.UnicodeRange n e = absurd (cc)
    plain _ n e = tt

range_run : (bs : List ℕ) (inside : Inside) (before : Before) (n : ℕ) (change : Change)
    → piece bs inside before 0 ≡ made kinds.UnicodeRange n change
    → (begins_range bs 0 ≡ true) × (run_end classes.Range bs 2 ≡ n)
range_run bs inside before n change e = subst (piece_run bs) e (piece_has bs 0 (piece_run bs) (run_cases bs) inside before)

-- ---- before what may stand behind a value

-- what a range begins with
u_start : (b : ℕ) → is_u b ≡ true → (starts_plainly b || ((b == sign "\\") || (b == sign "-"))) ≡ true
u_start b e = grind (arith, nat_tests)

module _ (w old after : List ℕ) (dark : Dark (byte after 0)) where
  abbrev bs : List ℕ
  bs = w ++ old

  abbrev cs : List ℕ
  cs = w ++ after

  -- the run ends where it did
  run_again : (f i : ℕ) → length w ≡ f + i → run_end classes.Range bs i ≡ length w → run_end classes.Range cs i ≡ length w
  run_again zero i e r =
      let place : length w ≡ i = omega (arith, e) in
      let here : byte cs i ≡ byte after 0 = ap (byte cs) (sym place) ∙ texts.behind_first w old after in
      let none = if_false (is_range_byte (byte cs i)) (i + 1) i (ap is_range_byte here ∙ dark.range) in
      run_stop cs classes.Range i (omega (arith, none)) ∙ sym place
  run_again (suc f) i e r = go (is_range_byte (byte bs i)) refl (run_again f (i + 1) (omega (arith, e)))
    where
      within : i < length w
      within = omega (arith, e)

      go : (t : Bool) → is_range_byte (byte bs i) ≡ t
          → (run_end classes.Range bs (i + 1) ≡ length w → run_end classes.Range cs (i + 1) ≡ length w)
          → run_end classes.Range cs i ≡ length w
      go false t more =
          let none = if_false (is_range_byte (byte bs i)) (i + 1) i t in
          let stays = run_stop bs classes.Range i (omega (arith, none)) in absurd (omega (arith, stays, r, within))
      go true t more =
          let on = if_true (is_range_byte (byte bs i)) (i + 1) i t in
          let new = if_true (is_range_byte (byte cs i)) (i + 1) i (ap is_range_byte (sym (texts.same w old after i within)) ∙ t) in
          let old_step : run_end classes.Range bs (i + 1) ≡ length w =
          ap (run_end classes.Range bs) (sym on) ∙ run_step bs classes.Range i (omega (arith, on)) ∙ r in
          sym (run_step cs classes.Range i (omega (arith, new))) ∙ ap (run_end classes.Range cs) new ∙ more old_step

  module _ (begins : begins_range bs 0 ≡ true) (run : run_end classes.Range bs 2 ≡ length w) where
    third : is_range_byte (byte bs 2) ≡ true
    third = and_right (byte bs 1 == sign "+") _ (and_right (is_u (byte bs 0)) _ begins)

    long : 2 < length w
    long =
        let on = if_true (is_range_byte (byte bs 2)) (2 + 1) 2 third in
        let step = run_step bs classes.Range 2 (omega (arith, on)) in
        let forward = run_forward bs classes.Range (next classes.Range bs 2) in omega (arith, on, step, forward, run)

    first_u : is_u (byte cs 0) ≡ true
    first_u = texts.back w old after is_u 0 (omega (arith, long)) ∙ and_left (is_u (byte bs 0)) _ begins

    begins_again : begins_range cs 0 ≡ true
    begins_again =
        both (is_u (byte cs 0)) _ first_u
        (both (byte cs 1 == sign "+") _
        (texts.back w old after (λ b. b == sign "+") 1 (omega (arith, long))
        ∙ and_left (byte bs 1 == sign "+") _ (and_right (is_u (byte bs 0)) _ begins))
        (texts.back w old after is_range_byte 2 long ∙ third))

    start : Start (byte cs 0)
    start = start_by (byte cs 0) (u_start (byte cs 0) first_u)

    pub range_black : is_white (byte w 0) ≡ false
    range_black = ap is_white (sym (byte_before w after 0 (omega (arith, long)))) ∙ start.white

    pub range_some : 0 < length w
    range_some = omega (arith, long)

    range_code : (top : Inside) (before : Before) → after_hash before ≡ false → after_dollar before ≡ false
        → code_piece cs top before 0 ≡ made kinds.UnicodeRange (length w) changes.Keep
    unfolding code_piece word_piece
    range_code top before no_hash no_dollar =
        if_false (is_white (byte cs 0)) _ _ start.white
        ∙ if_false (is_quote (byte cs 0)) _ _ start.quote
        ∙ if_false (opens_at cs 0) _ _ (left_no (byte cs 0 == sign "#") _ start.hash)
        ∙ if_false ((byte cs 0 == sign "}") && in_interpolation top) _ _ (left_no (byte cs 0 == sign "}") _ start.brace)
        ∙ if_false (begins_silent cs 0) _ _ (left_no (byte cs 0 == sign "/") _ start.slash)
        ∙ if_false (begins_loud cs 0) _ _ (left_no (byte cs 0 == sign "/") _ start.slash)
        ∙ if_false (after_hash before && is_hex_form cs 0) _ _ (left_no (after_hash before) _ no_hash)
        ∙ if_false (begins_number cs 0) _ _
        (neither (is_digit (byte cs 0)) _ start.digit (left_no (byte cs 0 == sign ".") _ start.dot))
        ∙ if_true (not (after_dollar before) && begins_range cs 0) _ _
        (both (not (after_dollar before)) _ (ap not no_dollar) begins_again)
        ∙ ap (λ (n : ℕ). made kinds.UnicodeRange n changes.Keep)
        (run_again (length w - 2) 2 (omega (arith, long)) run)

    calm_code : (top : Inside) (before : Before) → is_calm before ≡ true
        → code_piece cs top before 0 ≡ made kinds.UnicodeRange (length w) changes.Keep
    calm_code top befores.White calm = range_code top befores.White refl refl
    calm_code top befores.Other calm = range_code top befores.Other refl refl
    calm_code top befores.Hash calm = absurd (cc)
    calm_code top befores.Dollar calm = absurd (cc)

    pub range_token : (inside : Inside) (before : Before) → is_sheet_code inside ≡ true → is_calm before ≡ true
        → piece cs inside before 0 ≡ made kinds.UnicodeRange (length w) changes.Keep
    range_token insides.Sheet before code calm = calm_code insides.Sheet before calm
    range_token insides.Interpolation before code calm = calm_code insides.Interpolation before calm
    range_token _ before code calm = absurd (cc)

-- ---- ranges

only_range : (terminal : Terminal) → member (number_of terminal) (just terminals.Range) ≡ true → terminal ≡ terminals.Range
only_range terminals.Range m = refl
only_range _ m = absurd (cc)

pub own_bytes : (source : Source) (i : ℕ) → bytes_between source i (suc i) ≡ bytes_at source i
own_bytes source i =
    ap (λ (k : ℕ). slice_range (bytes source) (from_at source i) (to_at source k)) (let z : suc i - 1 ≡ i = omega arith in z)

pub range_written : (source : Source) (i : ℕ) (span : Span) → WasRead source → Old source i (just terminals.Range)
    → WrittenAs (AsValue false) (expr_text (expression (exprs.Word (PlainParts (bytes_between source i (suc i)))) span))
    (tok terminals.Range (Bytes 1 (bytes_between source i (suc i))) ∷ [])
range_written source i span was old before spaced calm =
    let it = old_token source was i old.lexeme old.there in
    let kind_is = kind_of_range it.kind it.text (ap (λ (t : Terminal). fits t (sort_of it.kind it.text)) (sym (only_range old.lexeme.terminal old.kind)) ∙ it.fit) in
    let own = it.own (ap opens kind_is) in
    let known = range_run (it.text ++ own.after) own.inside own.before (length it.text) own.change
    (own.is ∙ ap (λ (k : TokenKind). made k (length it.text) own.change) kind_is) in
    let end = stopped [] refl in
    let text_is : it.text ≡ bytes_between source i (suc i) =
    sym own.bytes_are ∙ sym (own_bytes source i) in
    let shown : it.text ≡ expr_text (expression (exprs.Word (PlainParts (bytes_between source i (suc i)))) span) =
    text_is ∙ sym (unrolled.word_is (PlainParts (bytes_between source i (suc i)))
    ∙ ap (pieces_text manners.Joined) (unrolled.plain_is (bytes_between source i (suc i)))) in record {
      passed = _;
      segment = as_behind (λ after f. subst (λ (t : List ℕ). Follows t after) (sym shown) f)
          (as_text (ap (λ (t : List ℕ). gap_of spaced ++ t) shown)
          (token_segment kinds.UnicodeRange it.text (terminals.Range ∷ []) (Bytes 1 (bytes_between source i (suc i))) before spaced
          (Follows it.text) refl refl
          (range_black it.text own.after [] end known.0 known.1)
          (range_some it.text own.after [] end known.0 known.1)
          (λ new commented at front after sits. one_byte new at ∙ bytes_sit new commented at front _ after sits ∙ text_is)
          (λ inside after code f.
          range_token it.text own.after after (stopped after f.stop) known.0 known.1 inside (behind_gap before (gap_of spaced)) code calm)));
      told = λ mode free. lone_value sorts.Range refl;
    }
