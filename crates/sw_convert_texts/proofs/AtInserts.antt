-- Names of at-rules whose `#{}` stands directly behind the `@`, or behind a `-` there, are written as their tokens.
use Rattle.std.proofs.Common.{◌≡◌, ◌<◌, ℕ, suc, ◌+◌, ◌-◌, Bool, true, false, inr, List, [], ◌∷◌, ◌++◌, length, refl, sym, ◌∙◌, ap, subst, arith, lit<}
use Rattle.std.specs.Prelude.{slice_range, codes}
use Rattle.sw_text_scan.specs.Bytes.{sign, byte, is_white}
use Rattle.sw_text_scan.specs.Runs.{begins_name, escape_end}
use Rattle.sw_text_scan.specs.Words.{is_u}
use Rattle.sw_tree.specs.declared.expr.Expr.{Expr}
use Rattle.sw_tokens.specs.declared.pieces.Before.{Before}
use Rattle.sw_tokens.specs.declared.pieces.Before.TheVariants as befores
use Rattle.sw_tokens.specs.declared.pieces.Change.TheVariants as changes
use Rattle.sw_tokens.specs.declared.skips.Inside.{Inside}
use Rattle.sw_tokens.specs.declared.skips.Inside.TheVariants as insides
use Rattle.sw_tokens.specs.declared.token.TokenKind.TheVariants as kinds
use Rattle.sw_tokens.specs.Pieces.{made, piece, code_piece, word_piece, name_piece, sign_piece, opens_url}
use Rattle.sw_tokens.specs.Tokens.{is_spaced}
use Rattle.sw_parse_terminals.specs.declared.terminal.Terminal.TheVariants as terminals
use Rattle.sw_parse_terminals.specs.Numbers.{just}
use Rattle.sw_parse_lexemes.specs.declared.sort.Sort.TheVariants as sorts
use Rattle.sw_parse_table.specs.declared.source.Source.{Source}
use Rattle.sw_parse_table.specs.Parts.{Part, Inserts}
use Rattle.sw_parse_table.specs.Sources.{Texts, bytes, from_at, to_at, bytes_at, texts, texts_from, text_pieces, pieces_from, parts_between, stretch_between}
use Rattle.sw_convert_spelling.specs.Neighbours.{may_stand_behind}
use Rattle.sw_convert_spelling.specs.Spelt.{behind_gap, innermost, is_sheet_code}
use Rattle.sw_convert_spelling.proofs.MovedRuns.{first_byte}
use Rattle.sw_convert_written.specs.Expressions.{expr_text}
use Rattle.sw_convert_passing.specs.Written.{Written, written, direct}
use Rattle.sw_convert_again.specs.Tokens.{Said, Nothing, Before as BeforeIt, Says, text_up_to, Tok, tok, Old}
use Rattle.sw_convert_again.specs.Tokens as again
use Rattle.sw_convert_again.specs.Spells.{SpellsRow}
use Rattle.sw_convert_again.specs.Statements.{at_word, at_insert, at_minus}
use Rattle.sw_convert_tokens.specs.Joints.{Seen, Token, Segment, text}
use Rattle.sw_convert_tokens.specs.Values.{WasRead}
use Rattle.sw_convert_tokens.specs.Written.{Follows, is_calm, gap_of, AsRow, WrittenAs}
use Rattle.sw_convert_tokens.proofs.Signs.{gap_is, token_by, sign_token}
use Rattle.sw_convert_tokens.proofs.Unclosed.{Ends}
use Rattle.sw_convert_texts.specs.Adjoining.{Adjoins}
use Rattle.sw_convert_texts.specs.AtInserts.{AsInsertedAt, at_inserted, at_minused, AtInsertsAreWritten}
use Rattle.sw_convert_texts.specs.Inserted.{RowHasValues}
use Rattle.sw_convert_texts.specs.Names.{joined, NameWritten}
use Rattle.sw_convert_texts.proofs.AtBefore.{at_inserts, at_minuses}
use Rattle.sw_convert_texts.proofs.Endings.{follows_ending}
use Rattle.sw_convert_texts.proofs.Inserts.{inner_items}
use Rattle.sw_convert_texts.proofs.JoinedTexts.{slice_more, slice_some, lone, Flat, flat_text, flat_more, joined_pieces, mixed_text}
use Rattle.sw_convert_texts.proofs.MinusBefore.{minus_there}
use Rattle.sw_convert_texts.proofs.NameTokens.{insert_settled}
use Rattle.sw_convert_texts.proofs.NewRows.{HeadRun, run_more, run_token, says_first}
use Rattle.sw_convert_texts.proofs.OldRows.{row_text}
use Rattle.sw_convert_texts.proofs.PartTokens.{minus_fits}
use Rattle.sw_convert_texts.proofs.Stretches.{said_start}
use Rattle.sw_convert_texts.proofs.WordsWithValues.{behind_more, inner, inserted_text, inserted_tokens, inserted_passed, insert_segment, list_from, pieces_behind, signed_text, signed_said_is}

-- ---- the `@`

at_ends : Ends (sign "@")
at_ends = record { slash = refl; digit = refl }

dash_ends : Ends (sign "-")
dash_ends = record { slash = refl; digit = refl }

alone : piece (codes "@" ++ []) insides.Sheet befores.White 0 ≡ made kinds.At 1 changes.Keep
unfolding code_piece word_piece name_piece sign_piece opens_url byte begins_name escape_end
alone = refl

before_insert : (rest : List ℕ) → may_stand_behind befores.White kinds.At (codes "@") (codes "#{" ++ rest) ≡ true
unfolding byte begins_name escape_end
before_insert rest = refl

before_minus : (rest : List ℕ) → may_stand_behind befores.White kinds.At (codes "@") (codes "-#{" ++ rest) ≡ true
unfolding byte begins_name escape_end
before_minus rest = refl

at_token : (after : List ℕ) → may_stand_behind befores.White kinds.At (codes "@") after ≡ true → (inside : Inside)
    → is_sheet_code inside ≡ true → (before : Before) → is_calm before ≡ true
    → piece (codes "@" ++ after) inside before 0 ≡ made kinds.At 1 changes.Keep
at_token after ok inside code before calm = token_by kinds.At (sign "@") [] after inside before code calm refl refl alone ok

abbrev at_seen : Before → Bool → Said → Seen
at_seen before spaced said = record {
  gap = gap_of spaced;
  kind = kinds.At;
  bytes = codes "@";
  change = changes.Keep;
  spaced = is_spaced (behind_gap before (gap_of spaced));
  may_be = terminals.AtInsert ∷ [];
  said = said;
}

module _ (source : Source) (was : WasRead source) (i : ℕ) {c j count : ℕ} (value : Expr) {inserts : List Part}
    {tokens others : List Tok} (close : Old source c (just terminals.InsertEnd))
    (row : SpellsRow source terminals.Part terminals.PartInsert 0 (suc c) j inserts count others)
    (has : WrittenAs AsRow (expr_text value) tokens) (more : RowHasValues row)
    (at : bytes_at source i ≡ codes "@") (sticks : Adjoins source i) where
  abbrev insert_text : List ℕ
  insert_text = inserted_text Follows follows_ending source was i value close row has more

  abbrev insert_tokens : List Tok
  insert_tokens =
      inserted_tokens Follows follows_ending source was i value close row has more terminals.WordInsert Nothing

  abbrev insert_passed : List Written
  insert_passed =
      inserted_passed Follows follows_ending source was i value close row has more false terminals.WordInsert

  abbrev insert : Segment befores.Other insert_text insert_tokens insert_passed befores.Other (Follows insert_text)
  insert =
      insert_segment Follows follows_ending source was i value close row has more terminals.WordInsert Nothing befores.Other
      false (λ new commented place front after joints sit. tt)

  -- ---- directly behind it

  shown : joined (parts_between source i j (Inserts (suc i) (suc c) value ∷ inserts)) ≡ codes "@" ++ insert_text
  shown = signed_text Follows follows_ending source was i value close row has more (codes "@") at sticks

  abbrev said : Said
  said = BeforeIt 1 (text_up_to source (from_at source i) i (i + 1))

  said_is : said ≡ said_start false 0 (lone (codes "@" ++ []))
  said_is = signed_said_is Follows follows_ending source was i value close row has more (codes "@") at sticks

  insert_written : NameWritten AsInsertedAt Follows (joined (parts_between source i j (Inserts (suc i) (suc c) value ∷ inserts)))
      (tok terminals.AtInsert said ∷ insert_tokens)
  unfolding insert_segment
  insert_written before spaced calm =
      let run : HeadRun false 0 insert.joints [] = run_more refl in record {
        passed = written sorts.At (is_spaced (behind_gap before (gap_of spaced))) terminals.AtInsert ∷ insert_passed;
        segment = record {
          joints = Token (at_seen before spaced said) ∷ insert.joints;
          spelling = ap (λ (t : List ℕ). gap_of spaced ++ t) (ap (λ (t : List ℕ). codes "@" ++ t) insert.spelling ∙ sym shown);
          seen = ap (λ (t : List Tok). tok terminals.AtInsert said ∷ t) insert.seen;
          written = ap (λ (t : List Written). written sorts.At (is_spaced (behind_gap before (gap_of spaced))) terminals.AtInsert ∷ t)
              insert.written;
          last = insert.last;
          tells = (
            λ new commented place front after sit.
                subst (Says new place) (sym said_is) (says_first new run (at_seen before spaced said) commented place front after sit),
            insert.tells,
          );
          stand = λ stack after code f.
              let follows = subst (λ (t : List ℕ). Follows t after) shown f in (
                gap_is (innermost stack) spaced (codes "@") code (ap is_white (first_byte (sign "@") [])),
                lit< tt,
                (refl, refl),
                λ e. absurd (cc),
                at_token (text insert.joints ++ after) (before_insert _) (innermost stack) code (behind_gap before (gap_of spaced)) calm,
                insert.stand stack after code (follows_ending.cuts [] insert_text (sign "@") at_ends
                    (inr (ap is_u (first_byte (sign "#") (codes "{" ++ (expr_text value ++ (codes "}" ++ row_text source row)))))) after follows),
              );
        };
        told = at_inserted
            (inner_items (inner Follows follows_ending source was i value close row has more))
            (behind_more Follows follows_ending source was i value close row has more).parts;
      }

  -- ---- behind a `-`

  module _ (dash : bytes_at source (suc i) ≡ codes "-") (next : Adjoins source (suc i)) where
    one_flat : Flat source i 1
    one_flat = flat_more source i 0 (suc i) tt (let z : suc i ≡ suc (i + 0) = omega arith in z) sticks.calm

    two_flat : Flat source i 2
    two_flat = flat_more source i 1 (suc (suc i)) one_flat (let z : suc (suc i) ≡ suc (i + 1) = omega arith in z) next.calm

    before_it : slice_range (bytes source) (from_at source i) (from_at source (suc (suc i))) ≡ codes "@-"
    before_it =
        let begins = sticks.from in
        let ends = next.from in
        let one = slice_some (bytes source) (from_at source i) (to_at source i)
        (subst (λ (t : List ℕ). 0 < length t) (sym at) (lit< tt)) in
        let two = slice_some (bytes source) (from_at source (suc i)) (to_at source (suc i))
        (subst (λ (t : List ℕ). 0 < length t) (sym dash) (lit< tt)) in
        slice_more (bytes source) (from_at source i) (to_at source i) (from_at source (suc (suc i))) (omega (arith, one))
        (omega (arith, begins, ends, two))
        ∙ ap (λ (t : List ℕ). t ++ slice_range (bytes source) (to_at source i) (from_at source (suc (suc i)))) at
        ∙ ap (λ (n : ℕ). codes "@" ++ slice_range (bytes source) n (from_at source (suc (suc i)))) (sym begins)
        ∙ ap (λ (n : ℕ). codes "@" ++ slice_range (bytes source) (from_at source (suc i)) n) ends
        ∙ ap (λ (t : List ℕ). codes "@" ++ t) dash

    minus_shown : joined (parts_between source i j (Inserts (suc (suc i)) (suc c) value ∷ inserts))
        ≡ codes "@" ++ (codes "-" ++ insert_text)
    unfolding texts
    minus_shown =
        let list = list_from Follows follows_ending source was i value close row has more in
        mixed_text (pieces_from source (stretch_between source i j) (Inserts (suc (suc i)) (suc c) value ∷ inserts))
        ∙ ap (λ (n : ℕ). joined_pieces (text_pieces (texts_from source (from_at source (suc (suc i))) (from_at source i) i n) ++ list))
        (let z : suc (suc i) - i ≡ 2 = omega arith in z)
        ∙ ap (λ (t : Texts). joined_pieces (text_pieces t ++ list))
        (flat_text source (from_at source (suc (suc i))) (from_at source i) i 2 two_flat)
        ∙ ap (λ (t : List ℕ). joined_pieces (text_pieces (lone t) ++ list)) before_it
        ∙ pieces_behind Follows follows_ending source was i value close row has more (codes "@-")

    abbrev minus_said : Said
    minus_said = BeforeIt 2 (text_up_to source (from_at source i) i (i + 2))

    minus_said_is : minus_said ≡ said_start false 1 (lone (codes "@" ++ (codes "-" ++ [])))
    unfolding texts
    minus_said_is =
        ap (λ (n : ℕ). BeforeIt 2 (texts_from source (from_at source n) (from_at source i) i (n - i)))
        (let z : i + 2 ≡ suc (suc i) = omega arith in z)
        ∙ ap (λ (n : ℕ). BeforeIt 2 (texts_from source (from_at source (suc (suc i))) (from_at source i) i n))
        (let z : suc (suc i) - i ≡ 2 = omega arith in z)
        ∙ ap (BeforeIt 2) (flat_text source (from_at source (suc (suc i))) (from_at source i) i 2 two_flat)
        ∙ ap (λ (t : List ℕ). BeforeIt 2 (lone t)) before_it

    minus_written : NameWritten AsInsertedAt Follows
        (joined (parts_between source i j (Inserts (suc (suc i)) (suc c) value ∷ inserts)))
        (tok terminals.AtInsert minus_said ∷ again.sign terminals.WordMinus ∷ insert_tokens)
    unfolding insert_segment
    minus_written before spaced calm =
        let minus : Seen = record {
          gap = [];
          kind = kinds.Minus;
          bytes = codes "-";
          change = changes.Keep;
          spaced = false;
          may_be = terminals.WordMinus ∷ [];
          said = Nothing;
        } in
        let run : HeadRun false 1 (Token minus ∷ insert.joints) (codes "-" ++ []) = run_token refl (run_more refl) in
        let first = at_seen before spaced minus_said in
        let black = is_spaced (behind_gap before (gap_of spaced)) in record {
          passed = written sorts.At black terminals.AtInsert ∷ direct sorts.Minus terminals.WordMinus ∷ insert_passed;
          segment = record {
            joints = Token first ∷ Token minus ∷ insert.joints;
            spelling = ap (λ (t : List ℕ). gap_of spaced ++ t)
                (ap (λ (t : List ℕ). codes "@-" ++ t) insert.spelling ∙ sym minus_shown);
            seen = ap (λ (t : List Tok). tok terminals.AtInsert minus_said ∷ again.sign terminals.WordMinus ∷ t) insert.seen;
            written = ap
                (λ (t : List Written). written sorts.At black terminals.AtInsert ∷ direct sorts.Minus terminals.WordMinus ∷ t)
                insert.written;
            last = insert.last;
            tells = (
              λ new commented place front after sit.
                  subst (Says new place) (sym minus_said_is) (says_first new run first commented place front after sit),
              (λ new commented place front after sit. tt, insert.tells),
            );
            stand = λ stack after code f.
                let follows = subst (λ (t : List ℕ). Follows t after) minus_shown f in (
                  gap_is (innermost stack) spaced (codes "@") code (ap is_white (first_byte (sign "@") [])),
                  lit< tt,
                  (refl, refl),
                  λ e. absurd (cc),
                  at_token (codes "-" ++ (text insert.joints ++ after)) (before_minus _) (innermost stack) code
                      (behind_gap before (gap_of spaced)) calm,
                  (
                    refl,
                    lit< tt,
                    (refl, refl),
                    λ e. absurd (cc),
                    sign_token kinds.Minus (text insert.joints ++ after) (innermost stack) befores.Other refl code refl
                        (minus_fits (text insert.joints ++ after) (insert_settled (codes "-") _).quiet),
                    insert.stand stack after code (follows_ending.cuts (codes "@") insert_text (sign "-") dash_ends
                        (inr (ap is_u (first_byte (sign "#") (codes "{" ++ (expr_text value ++ (codes "}" ++ row_text source row)))))) after follows),
                  ),
                );
          };
          told = at_minused
              (inner_items (inner Follows follows_ending source was i value close row has more))
              (behind_more Follows follows_ending source was i value close row has more).parts;
        }

pub at_inserts_written : AtInsertsAreWritten
at_inserts_written source i j parts tokens was (at_insert {value = value} old opens inner close row) told (has, more) =
    let it = at_inserts source was i old opens in
    insert_written source was i value close row has more it.at it.sticks
at_inserts_written source i j parts tokens was (at_minus {value = value} old minus opens inner close row) told (has, more) =
    let it = at_minuses source was i old minus in
    let dash = minus_there source was (suc i) minus opens in
    minus_written source was i value close row has more it.at it.sticks dash.dash dash.sticks
at_inserts_written source i j parts tokens was (at_word name) told has = absurd (cc)
