-- `@` with a name that was read is the same token before what goes on with no name.
use Rattle.std.proofs.Common.{◌≡◌, ◌<◌, ℕ, ◌+◌, ◌-◌, Bool, true, false, not, ◌&&◌, if◌then◌else◌, List, [], ◌∷◌, ◌++◌, length, Option, Some, None, refl, sym, ◌∙◌, ap, subst, arith, append_assoc, length-append}
use Rattle.std.specs.Prelude.{◌==◌}
use Rattle.sw_text_scan.specs.declared.runs.Class.TheVariants as classes
use Rattle.sw_text_scan.specs.declared.signs.TheConstants.{CARRIAGE_RETURN, LINE_FEED}
use Rattle.sw_text_scan.specs.Bytes.{sign, byte, is_white, is_letter}
use Rattle.sw_text_scan.specs.Runs.{next, run_end, begins_name}
use Rattle.sw_text_scan.specs.Words.{is_u, begins_range, begins_url, unit_start}
use Rattle.sw_text_scan.proofs.Bounds.{and_left}
use Rattle.sw_text_locality.specs.Names as locality
use Rattle.sw_text_locality.proofs.Lexical.{split, equal}
use Rattle.sw_tokens.specs.declared.pieces.Before.{Before}
use Rattle.sw_tokens.specs.declared.pieces.Before.TheVariants as befores
use Rattle.sw_tokens.specs.declared.pieces.Change.{Change}
use Rattle.sw_tokens.specs.declared.pieces.Change.TheVariants as changes
use Rattle.sw_tokens.specs.declared.pieces.Piece.{Piece}
use Rattle.sw_tokens.specs.declared.skips.Inside.{Inside}
use Rattle.sw_tokens.specs.declared.skips.Inside.TheVariants as insides
use Rattle.sw_tokens.specs.declared.token.TokenKind.{TokenKind}
use Rattle.sw_tokens.specs.declared.token.TokenKind.TheVariants as kinds
use Rattle.sw_tokens.specs.Pieces.{made, piece, letter_kind, dash_kind, name_piece, number_kind, number_piece, code_piece}
use Rattle.sw_parse_terminals.specs.declared.lexeme.Lexeme.{Lexeme}
use Rattle.sw_parse_lexemes.specs.declared.sort.Sort.{Sort}
use Rattle.sw_parse_lexemes.specs.declared.sort.Sort.TheVariants as sorts
use Rattle.sw_parse_lexemes.specs.Classes.{is_comment}
use Rattle.sw_parse_lexemes.specs.Words.{at_sort}
use Rattle.sw_parse_table.specs.declared.source.Source.{Source}
use Rattle.sw_parse_table.specs.Sources.{lexeme_at, to_in, to_at}
use Rattle.sw_convert_spelling.specs.Spelt.{is_sheet_code}
use Rattle.sw_convert_spelling.specs.Neighbours.{parts_sign, begins_other}
use Rattle.sw_convert_spelling.proofs.MovedRuns as moved
use Rattle.sw_convert_spelling.proofs.Again as texts
use Rattle.sw_convert_spelling.proofs.Choices.{left_no, right_no, neither, ends_here, unlike, no_white_piece, is_at_name}
use Rattle.sw_convert_spelling.proofs.NamesStay as staying
use Rattle.sw_convert_written.specs.Escapes.{takes_white, ends_unclosed}
use Rattle.sw_convert_tokens.specs.Written.{is_calm, begins_white}
use Rattle.sw_convert_tokens.proofs.OpenEscapes.{run_state, nothing_open, states_text}
use Rattle.sw_convert_tokens.proofs.Stops.{white_same}
use Rattle.sw_convert_tokens.proofs.Names.{Start, code_name}
use Rattle.sw_convert_texts.specs.RawKinds.{is_at}
use Rattle.sw_convert_texts.proofs.TokenPairs.{at_yes}
use Rattle.sw_convert_texts.proofs.Pieces.{is_frame, is_mark, Cases, piece_has, sign_has}
use Rattle.sw_convert_texts.proofs.NameTokens.{Settled, no_more, joins_no}
use Rattle.sw_convert_texts.proofs.OldPieces.{Whole}
use Rattle.sw_convert_texts.proofs.PartTokens.{PartToken, name_bars, name_undigit, no_next}

-- ---- it is read as one

frame_no : (kind : TokenKind) → is_frame kind ≡ true → is_at_name kind ≡ false
frame_no kinds.AtName e = absurd (cc)
frame_no _ e = refl

mark_no : (kind : TokenKind) → is_mark kind ≡ true → is_at_name kind ≡ false
mark_no kinds.AtName e = absurd (cc)
mark_no _ e = refl

number_no : (t : Bool) → is_at_name (if t then kinds.Digits else kinds.Number) ≡ false
number_no true = refl
number_no false = refl

letter_no : (t : Bool) → is_at_name (if t then kinds.Word else kinds.Name) ≡ false
letter_no true = refl
letter_no false = refl

dash_no : (t : Bool) → is_at_name (if t then kinds.DashedName else kinds.Name) ≡ false
dash_no true = refl
dash_no false = refl

change_in : Option Piece → Change
change_in None = changes.Keep
change_in (Some p) = p.change

module _ (n : ℕ) (change : Change) where
  abbrev result : Option Piece
  result = made kinds.AtName n change

  not_so : {P : Type 0} (other : TokenKind) (a : ℕ) (c : Change) → made other a c ≡ result → is_at_name other ≡ false → P
  not_so other a c e f = absurd (let wrong : true ≡ false = unlike is_at_name other a c e ∙ f in cc)

  at_cases : (xs : List ℕ) → Cases xs 0 (λ o. o ≡ result → name_piece xs 0 ≡ result)
  unfolding number_piece
  at_cases xs = record {
    none = λ e. absurd (cc);
    white = λ m e. no_white_piece _ e;
    frame = λ other f m c e. not_so other m c e (frame_no other f);
    quoted = λ i j m e. not_so (kinds.Quoted _) m changes.Keep e refl;
    text = λ i j m e. not_so (kinds.Text _) m changes.Keep e refl;
    name = λ e. e;
    number = λ b e. not_so (number_kind xs (run_end classes.Digit xs 0) (unit_start xs 0)) _ changes.Keep e (number_no _);
    range = λ b e. not_so kinds.UnicodeRange _ changes.Keep e refl;
    url = λ top b c e. not_so kinds.Url _ changes.Keep e refl;
  }

  at_in : (xs : List ℕ) (inside : Inside) (before : Before) → piece xs inside before 0 ≡ result → name_piece xs 0 ≡ result
  at_in xs inside before = piece_has xs 0 (λ o. o ≡ result → name_piece xs 0 ≡ result) (at_cases xs) inside before

  -- an `@`, and a name behind it
  record AtHere (xs : List ℕ) : Type 0 where
    at_sign : (byte xs 0 == sign "@") ≡ true
    ends : run_end classes.Name xs 1 ≡ n
    keeps : change ≡ changes.Keep

  at_run : (xs : List ℕ) → name_piece xs 0 ≡ result → AtHere xs
  unfolding name_piece change_in
  at_run xs =
      split (is_letter (byte xs 0)) _ _ result (λ t e. not_so (letter_kind _ _) _ changes.Keep e (letter_no _))
      (λ t. split (begins_name xs 0) _ _ result (λ u f. not_so (dash_kind xs 0) _ changes.Keep f (dash_no _))
      (λ u. split ((byte xs 0 == sign "@") && begins_name xs (0 + 1)) _ _ result
      (λ v g. record {
        at_sign = and_left (byte xs 0 == sign "@") _ v;
        ends = ends_here kinds.AtName _ changes.Keep g;
        keeps = sym (ap change_in g);
      })
      (λ v g. sign_has xs 0 (λ o. o ≡ result → AtHere xs) (λ other m a c e. not_so other a c e (mark_no other m)) g)))

-- ---- the escape that is open at its end

at_open : (v old : List ℕ) → run_end classes.Name (sign "@" ∷ (v ++ old)) 1 ≡ length (sign "@" ∷ v)
    → locality.ends_unclosed (sign "@" ∷ (v ++ old)) 1 ≡ ends_unclosed (sign "@" ∷ v)
unfolding run_end locality.ends_unclosed ends_unclosed
at_open v old e =
    sym (run_state (sign "@" ∷ (v ++ old)) (length (sign "@" ∷ (v ++ old)) - 1) 1 (length v) None false
    (nothing_open (sign "@" ∷ (v ++ old)) 1) (e ∙ (let z : length (sign "@" ∷ v) ≡ 1 + length v = omega arith in z)))
    ∙ sym (ap takes_white (states_text (sign "@" ∷ []) v old None))

at_start : Start (sign "@")
at_start = record {
  white = refl;
  quote = refl;
  hash = refl;
  brace = refl;
  slash = refl;
  digit = refl;
  dot = refl;
  opening = refl;
  equal = refl;
}

module _ (v old after : List ℕ) (change : Change)
    (is : name_piece ((sign "@" ∷ v) ++ old) 0 ≡ made kinds.AtName (length (sign "@" ∷ v)) change)
    (p : Settled (sign "@" ∷ v) after) where
  abbrev w : List ℕ
  w = sign "@" ∷ v

  abbrev new : List ℕ
  new = w ++ after

  run : run_end classes.Name (w ++ old) 1 ≡ length w
  run = (at_run (length w) change (w ++ old) is).ends

  behind_is : byte new (length w) ≡ byte after 0
  behind_is = texts.behind_first w old after

  parts : texts.Parts w old after (locality.ends_unclosed (w ++ old) 1)
  parts =
      let place : length w ≡ length w + 0 = omega arith in
      let there : next classes.Name new (length w) ≡ length w + 0 =
      ap (next classes.Name new) place ∙ moved.next_moved w after classes.Name 0
      ∙ ap (λ (n : ℕ). length w + n) (no_more after p.quiet) in record {
        stops = omega (arith, there);
        white =
            ap (λ (t : Bool). t && is_white (byte new (length w))) (at_open v old run)
            ∙ ap (λ (b : ℕ). ends_unclosed w && is_white b) behind_is
            ∙ ap (λ (t : Bool). ends_unclosed w && t) (white_same after)
            ∙ turned (begins_white after) (ends_unclosed w) p.closed;
        feed = right_no (byte new (length w - 1) == CARRIAGE_RETURN) _
            (ap (λ (b : ℕ). b == LINE_FEED) behind_is ∙ p.quiet.feed);
      }
    where
      turned : (a b : Bool) → (a && b) ≡ false → (b && a) ≡ false
      turned true true e = e
      turned true false e = refl
      turned false true e = refl
      turned false false e = refl

  parted : parts_sign w after ≡ true
  parted = go v
    where
      go : (xs : List ℕ) → parts_sign (sign "@" ∷ xs) after ≡ true
      go [] = ap not (joins_no (sign "@") after p.quiet at_start refl)
      go (c ∷ xs) = refl

  some : 0 < length w
  some = omega arith

  here : name_piece new 0 ≡ made kinds.AtName (length w) change
  here =
      staying.names_again w old after some parted kinds.AtName change
      (λ n. absurd (let wrong : false ≡ true = n in cc)) (λ a. parts) is

  first : byte new 0 ≡ sign "@"
  first = moved.first_byte (sign "@") (v ++ after)

  other : (before : Before) → is_calm before ≡ true → begins_other before new ≡ false
  other befores.White c =
      neither (begins_range new 0) (begins_url new 0) (left_no (is_u (byte new 0)) _ (ap is_u first)) (left_no (is_u (byte new 0)) _ (ap is_u first))
  other befores.Other c =
      neither (begins_range new 0) (begins_url new 0) (left_no (is_u (byte new 0)) _ (ap is_u first)) (left_no (is_u (byte new 0)) _ (ap is_u first))
  other befores.Hash c = absurd (cc)
  other befores.Dollar c = absurd (cc)

  at_code : (top : Inside) (before : Before) → is_calm before ≡ true
      → code_piece new top before 0 ≡ made kinds.AtName (length w) changes.Keep
  at_code top before calm =
      code_name new top before (subst Start (sym first) at_start) (other before calm)
      ∙ here ∙ ap (made kinds.AtName (length w)) (at_run (length w) change (w ++ old) is).keeps

  at_token : (inside : Inside) (before : Before) → is_sheet_code inside ≡ true → is_calm before ≡ true
      → piece new inside before 0 ≡ made kinds.AtName (length w) changes.Keep
  at_token insides.Sheet before code calm = at_code insides.Sheet before calm
  at_token insides.Interpolation before code calm = at_code insides.Interpolation before calm
  at_token _ before code calm = absurd (cc)

-- ---- one that was read

at_no_comment : (sort : Sort) → is_at sort ≡ true → is_comment sort ≡ false
at_no_comment sorts.Comment a = absurd (cc)
at_no_comment sorts.CommentTemplate a = absurd (cc)
at_no_comment _ a = refl

at_first : (text after : List ℕ) → 0 < length text → (byte (text ++ after) 0 == sign "@") ≡ true
    → (v : List ℕ) × (text ≡ sign "@" ∷ v)
at_first [] after some e = absurd (omega (arith, some))
at_first (b ∷ v) after some e =
    (v, ap (λ (c : ℕ). c ∷ v) (sym (moved.first_byte b (v ++ after)) ∙ equal (byte ((b ∷ v) ++ after) 0) (sign "@") e))

module _ (source : Source) (k : ℕ) (lexeme : Lexeme) (there : lexeme_at source k ≡ Some lexeme) (text : List ℕ)
    (it : Whole source lexeme kinds.AtName text) where
  end_there : to_at source k ≡ length (it.front ++ text)
  unfolding to_at
  end_there = ap (to_in source) there ∙ it.to ∙ sym (length-append it.front text)

  named : name_piece (text ++ it.after) 0 ≡ made kinds.AtName (length text) it.change
  named = at_in (length text) it.change (text ++ it.after) it.inside it.before it.is

  pub at_part : (token : PartToken source k text) × ((token.kind ≡ kinds.AtName) × (token.named ≡ true))
  at_part =
      let (v, same) = at_first text it.after it.some (at_run (length text) it.change (text ++ it.after) named).at_sign in
      let is : name_piece ((sign "@" ∷ v) ++ it.after) 0 ≡ made kinds.AtName (length (sign "@" ∷ v)) it.change =
      subst (λ (xs : List ℕ). name_piece (xs ++ it.after) 0 ≡ made kinds.AtName (length xs) it.change) same named in
      let run = (at_run (length (sign "@" ∷ v)) it.change ((sign "@" ∷ v) ++ it.after) is).ends in
      let bars = name_bars (sign "@" ∷ v) it.after 1 run in
      let digit = name_undigit (sign "@" ∷ v) it.after 1 run in
      subst (λ (xs : List ℕ). (token : PartToken source k xs) × ((token.kind ≡ kinds.AtName) × (token.named ≡ true))) (sym same) (
        record {
          kind = kinds.AtName;
          seen = at_no_comment (at_sort (sign "@" ∷ v)) (at_yes (sign "@" ∷ v));
          closed = refl;
          some = omega arith;
          other = refl;
          black = ap is_white (moved.first_byte (sign "@") v);
          token = λ after settled inside code before calm. at_token v it.after after it.change is settled inside before code calm;
          front = it.front ++ text;
          after = it.after;
          whole = it.whole ∙ sym (append_assoc it.front text it.after);
          ends = end_there;
          long = false;
          power = false;
          bare = λ e. absurd (cc);
          sharp = λ e. absurd (cc);
          more = λ next rest same some next_is. absurd (no_next it.after bars digit next rest same some next_is);
          named = true;
          alone = λ e next rest same some next_is. no_next it.after bars digit next rest same some next_is;
        },
        (refl, refl),
      )
