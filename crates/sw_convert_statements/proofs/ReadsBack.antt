-- The text of a sheet reads back.
use Rattle.std.proofs.Common.{◌≡◌, ℕ, Bool, ◌+◌, true, false, ◌&&◌, if◌then◌else◌, List, [], ◌∷◌, ◌++◌, map, length, Some, inl, inr, append-nil, refl, sym, ◌∙◌, ap, subst, append_assoc, length-append, arith}
use Rattle.std.specs.Prelude.{◌==◌}
use Rattle.std.specs.List.{list_all}
use Rattle.sw_text.specs.Places.{mark_length}
use Rattle.sw_text_scan.specs.Bytes.{is_white}
use Rattle.sw_text_scan.proofs.Bounds.{if_true, if_false}
use Rattle.sw_tree.specs.declared.statement.Statement.{Statement}
use Rattle.sw_tokens.specs.declared.pieces.Before.{Before}
use Rattle.sw_tokens.specs.declared.pieces.Before.TheVariants as befores
use Rattle.sw_tokens.specs.declared.skips.Inside.{Inside}
use Rattle.sw_tokens.specs.declared.token.Token.{Token}
use Rattle.sw_tokens.specs.Ends.{tokens_of}
use Rattle.sw_tokens.specs.Tokens.{before_of}
use Rattle.sw_parse_terminals.specs.declared.lexeme.Lexeme.{Lexeme}
use Rattle.sw_parse_lexemes.specs.declared.plain.Plain.{Plain}
use Rattle.sw_parse_lexemes.specs.Plains.{plains_from, plains_of}
use Rattle.sw_parse_lexemes.specs.Lexemes.{beginning, lexemes_of}
use Rattle.sw_parse_table.specs.declared.source.Source.{Source}
use Rattle.sw_convert_spelling.specs.Spelt.{opened}
use Rattle.sw_convert_written.specs.Statements.{top_text, marked, statement_shown}
use Rattle.sw_convert_passing.specs.Written.{Written}
use Rattle.sw_convert_again.specs.Tokens.{Stands, Tok}
use Rattle.sw_convert_heads_passing.specs.Statements.{Statements}
use Rattle.sw_convert_heads_passing.proofs.Loud.{runs_are_seen}
use Rattle.sw_convert_heads_passing.proofs.Sheets.{no_more, no_else}
use Rattle.sw_convert_heads_passing.proofs.Statements.{statements_are_told}
use Rattle.sw_convert_tokens.specs.Joints.{Joint, spelt_of, spelts, text, Stand, writtens, toks}
use Rattle.sw_convert_tokens.proofs.Laid.{Laid, listed, all_laid}
use Rattle.sw_convert_tokens.proofs.Sitting.{laid_there, all_stand}
use Rattle.sw_convert_values.proofs.ReadsBack.{listed_of}
use Rattle.sw_convert_texts.specs.RawTexts.{SheetSegment}
use Rattle.sw_convert_statements.specs.Segments.{Anything}
use Rattle.sw_convert_statements.specs.Sheets.{last_line}
use Rattle.sw_convert_statements.specs.ReadsBack.{IsSheetText, SheetsReadBack}
use Rattle.sw_convert_statements.proofs.KeywordLengths.{braces_of, keywords_of}
use Rattle.sw_convert_statements.proofs.LaidBehind.{order_mark, IsMark, laid_behind, laid_marked}
use Rattle.sw_convert_statements.proofs.Sheets.{sheets_written}
use Rattle.sw_convert_statements.proofs.Steps.{run_steps, steps_sit}
use Rattle.sw_convert_statements.proofs.Walked.{AreBefore, tokens_before}

-- each is a token before what stands behind all of them
are_before : (stack : List Inside) (before : Before) (joints : List Joint) (after : List ℕ)
    → Stand stack before joints [] after → AreBefore stack before (spelts joints) after
are_before stack before [] after e = e
are_before stack before (x ∷ joints) after (gap, some, told, opening, token, rest) =
    (gap, some, token, are_before (opened stack (spelt_of x).change) (before_of (Some (spelt_of x).kind)) joints after rest)

-- a text that is read: a byte order mark or none, text, and white space
record Whole (mark value last : List ℕ) : Type 0 where
  mark_is : IsMark mark
  marked : mark_length (mark ++ (value ++ last)) ≡ length mark
  white : list_all is_white last ≡ true

-- tokens that are the text of statements stand in it
module _ (written : Source) (mark value last : List ℕ) (whole : Whole mark value last) (tokens : List Tok)
    (passed : List Written) (end : Before) (told_as : Statements false passed)
    (segment : SheetSegment befores.Other value tokens passed end Anything)
    (it : IsSheetText written (mark ++ (value ++ last))) where
  abbrev list : List Token
  list = written.tokens.now.list

  abbrev bytes_written : List ℕ
  bytes_written = mark ++ (value ++ last)

  abbrev plains : List Plain
  plains = plains_of bytes_written list

  text_is : mark ++ (text segment.joints ++ last) ≡ bytes_written
  text_is = ap (λ (t : List ℕ). mark ++ (t ++ last)) segment.spelling

  listed_is : list ≡ listed befores.Other (length mark) segment.joints
  listed_is =
      ap (listed_of list)
      (sym it.tokens_are ∙ ap tokens_of (sym text_is)
      ∙ tokens_before last whole.white mark (spelts segment.joints) (ap mark_length text_is ∙ whole.marked)
      (are_before [] befores.Other segment.joints last (segment.stand last tt)))

  is_laid : Laid mark segment.joints plains list
  is_laid =
      let split = append_assoc mark (text segment.joints) last in
      subst (λ (t : List ℕ). Laid mark segment.joints (plains_of t list) list) text_is
      (laid_marked mark (text segment.joints ++ last) whole.mark_is list
      (subst (λ (t : List ℕ). Laid mark segment.joints (plains_from t (length mark) list) list) split
      (laid_behind (mark ++ text segment.joints) last (length mark) list
      (let l = length-append mark (text segment.joints) in omega (arith, l))
      (subst (λ (t : List Token). Laid mark segment.joints (plains_from (mark ++ text segment.joints) (length mark) t) t)
      (sym listed_is)
      (all_laid (mark ++ text segment.joints) [] befores.Other mark segment.joints refl (segment.stand [] tt))))))

  stand : Stands written 0 tokens (length written.lexemes.now)
  unfolding lexemes_of
  stand =
      let stands = segment.stand last tt in
      let there = laid_there plains [] is_laid refl in
      let told = statements_are_told false (writtens segment.joints)
      (subst (λ (ws : List Written). Statements false ws) (sym segment.written) told_as) plains [] beginning 0
      (length plains) (braces_of is_laid [] befores.Other [] last stands) (keywords_of is_laid [] befores.Other [] last stands)
      refl (record { frames_are = refl; start = refl; no_comment = refl; word = refl; before = refl })
      (record { first = λ c. refl; last = λ c. no_else plains }) there in
      let lexemes : written.lexemes.now ≡ told.lexemes =
      it.lexemes_are
      ∙ runs_are_seen plains beginning 0 (writtens segment.joints) told.lexemes told.end (length plains) told.run
      ∙ ap (λ (t : List Lexeme). told.lexemes ++ t) (no_more plains told.end) ∙ append-nil told.lexemes in
      let (sit, count) = steps_sit written plains last segment.joints [] {done = []} {done_tokens = []} (run_steps told.run)
      is_laid (record { all = refl; here = refl; all_tokens = refl; here_token = refl }) lexemes (it.text_is ∙ sym text_is) in
      subst (λ (t : List Tok). Stands written 0 t (length written.lexemes.now)) segment.seen
      (all_stand written segment.joints false 0 (length written.lexemes.now) mark last sit segment.tells
      (let a = ap length lexemes in let z : 0 + length (toks segment.joints) ≡ length written.lexemes.now = omega (arith, a, count) in z))

-- ---- a byte order mark before the text, or none

none_or_three : (bytes : List ℕ) → (mark_length bytes == 3) ≡ false → mark_length bytes ≡ 0
none_or_three [] m = refl
none_or_three (a ∷ []) m = refl
none_or_three (a ∷ b ∷ []) m = refl
none_or_three (a ∷ b ∷ c ∷ bytes) m = go ((a == 239) && ((b == 187) && (c == 191))) m
  where
    length_by : Bool → ℕ
    length_by t = if t then 3 else 0

    go : (t : Bool) → (length_by t == 3) ≡ false → length_by t ≡ 0
    go true e = absurd (cc)
    go false e = refl

last_white : (statements : List Statement) → list_all is_white (last_line statements) ≡ true
last_white [] = refl
last_white (statement ∷ statements) = refl

-- the text of a sheet is such a text
record Cut (top value last : List ℕ) : Type 0 where
  mark : List ℕ
  whole : Whole mark value last
  is : marked top ≡ mark ++ (value ++ last)

cut_of : (top value last : List ℕ) → list_all is_white last ≡ true → top ≡ value ++ last → Cut top value last
cut_of top value last white e = go (mark_length top == 3) refl
  where
    go : (t : Bool) → (mark_length top == 3) ≡ t → Cut top value last
    go true f = record {
      mark = order_mark;
      whole = record { mark_is = inr refl; marked = refl; white = white };
      is = if_true (mark_length top == 3) (239 ∷ 187 ∷ 191 ∷ top) top f ∙ ap (λ (t : List ℕ). order_mark ++ t) e;
    }
    go false f = record {
      mark = [];
      whole = record { mark_is = inl refl; marked = ap mark_length (sym e) ∙ none_or_three top f; white = white };
      is = if_false (mark_length top == 3) (239 ∷ 187 ∷ 191 ∷ top) top f ∙ e;
    }

pub sheets_read_back : SheetsReadBack
sheets_read_back source written levels parts again fronts it =
    let sheet = sheets_written source 0 _ again.list again.tokens again.spells fronts in
    let cut = cut_of (top_text (map statement_shown again.list)) sheet.text (last_line again.list) (last_white again.list)
    sheet.text_is in
    again.back
    (stand written cut.mark sheet.text (last_line again.list) cut.whole again.tokens sheet.passed sheet.end sheet.listed
    sheet.segment (subst (IsSheetText written) cut.is it))
