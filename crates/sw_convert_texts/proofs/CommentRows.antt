-- What a loud comment goes on with, up to its end, is written as its tokens.
use Rattle.std.proofs.Common.{◌≡◌, ◌<◌, ℕ, suc, ◌+◌, ◌-◌, Bool, true, false, not, List, [], ◌∷◌, ◌++◌, length, refl, sym, ◌∙◌, ap, subst, arith, append_assoc, lit<}
use Rattle.std.specs.Prelude.{◌==◌, codes}
use Rattle.std.proofs.lemmas.Bool.Decides.{nat_tests}
use Rattle.sw_text_scan.proofs.Bounds.{and_left, and_right}
use Rattle.sw_tree.specs.declared.expr.Expr.{Expr}
use Rattle.sw_tokens.specs.declared.pieces.Before.TheVariants as befores
use Rattle.sw_tokens.specs.declared.pieces.Change.TheVariants as changes
use Rattle.sw_tokens.specs.declared.skips.Inside.TheVariants as insides
use Rattle.sw_tokens.specs.declared.token.TokenKind.TheVariants as kinds
use Rattle.sw_tokens.specs.Pieces.{made, piece}
use Rattle.sw_parse_terminals.specs.declared.terminal.Terminal.TheVariants as terminals
use Rattle.sw_parse_terminals.specs.Numbers.{just}
use Rattle.sw_parse_lexemes.specs.declared.sort.Sort.TheVariants as sorts
use Rattle.sw_parse_table.specs.declared.source.Source.{Source}
use Rattle.sw_parse_table.specs.Parts.{Part}
use Rattle.sw_parse_table.specs.Sources.{from_in, to_in, from_at, to_at, bytes_at}
use Rattle.sw_convert_written.specs.Expressions.{expr_text}
use Rattle.sw_convert_passing.specs.Written.{Written, direct}
use Rattle.sw_convert_passing.specs.Values.{Pieces, no_piece, text_piece, piece_insert, inserted}
use Rattle.sw_convert_again.specs.Tokens.{Said, Nothing, Worded, Says, Tok, tok, sign, Old, saying}
use Rattle.sw_convert_again.specs.Spells.{Spells, SpellsRow, behind_insert}
use Rattle.sw_convert_again.specs.Spells as spells
use Rattle.sw_convert_tokens.specs.Joints.{Seen, Joint, Token, text, toks, writtens, written_of, behind, Direct, Sits, Stand, Tell}
use Rattle.sw_convert_tokens.specs.Written.{AsRow, WrittenAs}
use Rattle.sw_convert_tokens.proofs.Joins.{text_append, toks_append, writtens_append, behind_append, tell_append}
use Rattle.sw_convert_texts.specs.Comments.{is_comment_text, is_comment_piece, adjoins, row_texts, comment_row, has_inserts}
use Rattle.sw_convert_texts.specs.Inserted.{RowHasValues}
use Rattle.sw_convert_texts.proofs.CommentTokens.{Stops, end_stops, insert_stops, piece_token, end_token}
use Rattle.sw_convert_texts.proofs.Inserts.{inner_of, inner_items, opening, closing, value_stand_to}
use Rattle.sw_convert_texts.proofs.JoinedTexts.{lone}
use Rattle.sw_convert_texts.proofs.NewRows.{HeadRun, run_end, run_more, run_token, says_next}
use Rattle.sw_convert_texts.proofs.OldComments.{comment_head, some_piece, behind_text}
use Rattle.sw_convert_texts.proofs.OldRows.{row_text}
use Rattle.sw_convert_texts.proofs.Stretches.{none, said_behind, behind_is}

-- what the first token says, wherever it stands
abbrev pub IsSaid : Said → Type 0
IsSaid said =
    (new : Source) (commented : Bool) (at : ℕ) (front : List ℕ) (seen : Seen) (rest : List ℕ) → 0 < length seen.bytes
    → Sits new commented at front seen rest → Says new at said

pub says_nothing : IsSaid Nothing
says_nothing new commented at front seen rest some sits = tt

differs : (a n : ℕ) → 0 < n → (a == a + n) ≡ false
differs a n some = grind (arith, nat_tests)

-- it has a text of its own
pub says_worded : IsSaid Worded
unfolding from_at to_at
says_worded new commented at front seen rest some sits =
    let from : from_at new at ≡ length front = ap (from_in new) sits.there ∙ sits.from in
    let to : to_at new at ≡ length front + length seen.bytes = ap (to_in new) sits.there ∙ sits.to in
    ap (λ (n : ℕ). n == to_at new at) from ∙ ap (λ (n : ℕ). length front == n) to
    ∙ differs (length front) (length seen.bytes) some

-- the tokens behind the one that opens the comment
pub record RowIs (source : Source) (first : Said) {i j count : ℕ} {inserts : List Part} {tokens : List Tok}
    (row : SpellsRow source terminals.Piece terminals.Insert 1 i j inserts count tokens) : Type 0 where
  pub joints : List Joint
  pub spelling : text joints ≡ row_text source row ++ codes "*/"
  pub seen : toks joints ≡ saying first (tokens ++ sign terminals.CommentEnd ∷ [])
  pub inner : List Written
  pub pieces : Pieces sorts.Piece inner
  pub written : writtens joints ≡ inner ++ direct sorts.CommentEnd terminals.CommentEnd ∷ []
  pub last : behind befores.Other joints ≡ befores.White
  pub run : HeadRun (none inserts) count joints (comment_head source row)
  pub tells : Tell joints
  pub direct : Direct joints
  pub stand : (after : List ℕ) → Stand (insides.Comment ∷ []) befores.Other joints [] after

-- ---- its text

piece_by : (text after : List ℕ) → is_comment_piece text ≡ true → Stops after
    → piece (text ++ after) insides.Comment befores.Other 0 ≡ made kinds.Piece (length text) changes.Keep
piece_by [] after told stops = absurd (cc)
piece_by (b ∷ text) after told stops = piece_token b text after told stops befores.Other

-- what may stand behind a text
row_stops : (source : Source) {i j count : ℕ} {inserts : List Part} {tokens : List Tok}
    (row : SpellsRow source terminals.Piece terminals.Insert 1 i j inserts count tokens) → not (row_texts row) ≡ true
    → (after : List ℕ) → Stops ((row_text source row ++ codes "*/") ++ after)
row_stops source spells.row_end told after = end_stops after
row_stops source (spells.row_part old row) told after = absurd (cc)
row_stops source (spells.row_insert opens inner close row) told after = insert_stops _

-- ---- tokens

-- those of a row say nothing as it is
unsaid : (source : Source) {i j count : ℕ} {inserts : List Part} {tokens : List Tok}
    (row : SpellsRow source terminals.Piece terminals.Insert 1 i j inserts count tokens)
    → saying Nothing (tokens ++ sign terminals.CommentEnd ∷ []) ≡ tokens ++ sign terminals.CommentEnd ∷ []
unsaid source spells.row_end = refl
unsaid source (spells.row_part old row) = refl
unsaid source (spells.row_insert opens inner close row) = refl

abbrev end_seen : Said → Seen
end_seen said = record {
  gap = [];
  kind = kinds.CommentEnd;
  bytes = codes "*/";
  change = changes.Pop;
  spaced = false;
  may_be = terminals.CommentEnd ∷ [];
  said = said;
}

abbrev piece_seen : Source → ℕ → Said → Seen
piece_seen source i said = record {
  gap = [];
  kind = kinds.Piece;
  bytes = bytes_at source i;
  change = changes.Keep;
  spaced = false;
  may_be = terminals.Piece ∷ [];
  said = said;
}

module _ (source : Source) where
  end_is : (first : Said) → IsSaid first → {i : ℕ} → RowIs source first (spells.row_end {i = i})
  end_is first says = record {
    joints = Token (end_seen first) ∷ [];
    spelling = refl;
    seen = refl;
    inner = [];
    pieces = no_piece;
    written = refl;
    last = refl;
    run = run_token refl run_end;
    tells = (λ new commented at front after sit. says new commented at _ (end_seen first) _ (lit< tt) sit.0, tt);
    direct = refl;
    stand = λ after. (refl, lit< tt, (refl, refl), λ e. absurd (cc), end_token after befores.Other, refl);
  }

  piece_is : (first : Said) → IsSaid first → {i j count : ℕ} {inserts : List Part} {tokens : List Tok}
      (old : Old source i (just terminals.Piece))
      (row : SpellsRow source terminals.Piece terminals.Insert 1 (suc i) j inserts count tokens)
      → is_comment_piece (bytes_at source i) ≡ true → not (row_texts row) ≡ true → RowIs source Nothing row
      → RowIs source first (spells.row_part old row)
  piece_is first says {i} old row told lone_text more =
      let some = some_piece (bytes_at source i) told in record {
        joints = Token (piece_seen source i first) ∷ more.joints;
        spelling = ap (λ (t : List ℕ). bytes_at source i ++ t) more.spelling
            ∙ sym (append_assoc (bytes_at source i) (row_text source row) (codes "*/"));
        seen = ap (λ (t : List Tok). tok terminals.Piece first ∷ t) (more.seen ∙ unsaid source row);
        inner = direct sorts.Piece terminals.Piece ∷ more.inner;
        pieces = text_piece more.pieces;
        written = ap (λ (t : List Written). direct sorts.Piece terminals.Piece ∷ t) more.written;
        last = more.last;
        run = run_token refl more.run;
        tells = (
          λ new commented at front after sit. says new commented at _ (piece_seen source i first) _ some sit.0,
          more.tells,
        );
        direct = refl;
        stand = λ after. (
          refl,
          some,
          (refl, refl),
          λ e. absurd (cc),
          ap (λ (t : List ℕ). piece (bytes_at source i ++ (t ++ after)) insides.Comment befores.Other 0) more.spelling
              ∙ piece_by (bytes_at source i) ((row_text source row ++ codes "*/") ++ after) told
              (row_stops source row lone_text after),
          more.stand after,
        );
      }

  insert_is : (first : Said) → IsSaid first → {i c j count : ℕ} {value : Expr} {inserts : List Part}
      {tokens others : List Tok} (opens : Old source i (just terminals.Insert))
      (value_is : Spells source (suc i) c value tokens) (close : Old source c (just terminals.InsertEnd))
      (row : SpellsRow source terminals.Piece terminals.Insert 1 (suc c) j inserts count others)
      → comment_row source row ≡ true → WrittenAs AsRow (expr_text value) tokens → RowIs source Nothing row
      → RowIs source first (spells.row_insert opens value_is close row)
  insert_is first says {i} {c} {j} {count} {value} {inserts} {tokens} {others} opens value_is close row told has more =
      let inner = inner_of (expr_text value) tokens has in
      let list = inner.segment.joints in
      let said = behind_insert source c inserts count in
      let said_is : said ≡ said_behind (none inserts) count (lone (comment_head source row)) =
      behind_is source c count inserts ∙ ap (said_behind (none inserts) count) (behind_text source row told) in
      let opened = opening befores.Other false terminals.Insert first in
      let rest = Token (closing said) ∷ more.joints in
      let ends = direct sorts.CommentEnd terminals.CommentEnd ∷ [] in record {
        joints = Token opened ∷ (list ++ rest);
        spelling = ap (λ (t : List ℕ). codes "#{" ++ t)
            (text_append list rest
            ∙ ap (λ (t : List ℕ). t ++ (codes "}" ++ text more.joints)) inner.segment.spelling
            ∙ ap (λ (t : List ℕ). expr_text value ++ (codes "}" ++ t)) more.spelling
            ∙ sym (append_assoc (expr_text value) (codes "}" ++ row_text source row) (codes "*/")));
        seen = ap (λ (t : List Tok). tok terminals.Insert first ∷ t)
            (toks_append list rest
            ∙ ap (λ (t : List Tok). t ++ tok terminals.InsertEnd said ∷ toks more.joints) inner.segment.seen
            ∙ ap (λ (t : List Tok). tokens ++ tok terminals.InsertEnd said ∷ t) (more.seen ∙ unsaid source row)
            ∙ sym (append_assoc tokens (tok terminals.InsertEnd said ∷ others) (sign terminals.CommentEnd ∷ [])));
        inner = inserted false terminals.Insert inner.passed more.inner;
        pieces = piece_insert (inner_items inner) more.pieces;
        written = ap (λ (t : List Written). written_of (Token opened) ∷ t)
            (writtens_append list rest
            ∙ ap (λ (t : List Written). t ++ writtens rest) inner.segment.written
            ∙ ap (λ (t : List Written). inner.passed ++ written_of (Token (closing said)) ∷ t) more.written
            ∙ sym (append_assoc inner.passed (written_of (Token (closing said)) ∷ more.inner) ends));
        last = behind_append befores.Other list rest ∙ more.last;
        run = run_more refl;
        tells = (
          λ new commented at front after sit. says new commented at _ opened _ (lit< tt) sit.0,
          tell_append list rest inner.segment.tells (
            λ new commented at front after sit.
                subst (Says new at) (sym said_is) (says_next new more.run (closing said) commented at front after sit),
            more.tells,
          ),
        );
        direct = refl;
        stand = λ after.
            value_stand_to (insides.Comment ∷ []) [] befores.Other [] terminals.Insert first said inner more.joints after
            refl refl (more.stand after);
      }

  -- ---- all of them

  pub row_is : (first : Said) → IsSaid first → {i j count : ℕ} {inserts : List Part} {tokens : List Tok}
      (row : SpellsRow source terminals.Piece terminals.Insert 1 i j inserts count tokens) → comment_row source row ≡ true
      → RowHasValues row → RowIs source first row
  row_is first says spells.row_end told has = end_is first says
  row_is first says (spells.row_part {i = i} old row) told has =
      let rest = and_right (adjoins source (i - 1)) _ told in
      let others = and_right (is_comment_piece (bytes_at source i)) _ rest in
      piece_is first says old row (and_left (is_comment_piece (bytes_at source i)) _ rest)
      (and_left (not (row_texts row)) _ others)
      (row_is Nothing says_nothing row (and_right (not (row_texts row)) _ others) has)
  row_is first says (spells.row_insert {i = i} opens inner close row) told (has, more) =
      let rest = and_right (adjoins source (i - 1)) _ told in
      insert_is first says opens inner close row rest has (row_is Nothing says_nothing row rest more)

  -- ---- up to the first value

  -- a text in a comment, and a `#{`
  pub record BeginsSo (text : List ℕ) : Type 0 where
    pub first : List ℕ
    pub rest : List ℕ
    pub is : text ≡ first ++ (codes "#{" ++ rest)
    pub plain : is_comment_text first ≡ true

  piece_text : (text : List ℕ) → is_comment_piece text ≡ true → is_comment_text text ≡ true
  piece_text [] e = absurd (cc)
  piece_text (b ∷ text) e = e

  behind_piece : {i j count : ℕ} {inserts : List Part} {tokens : List Tok}
      (row : SpellsRow source terminals.Piece terminals.Insert 1 i j inserts count tokens) → has_inserts inserts ≡ true
      → not (row_texts row) ≡ true → (text : List ℕ) → is_comment_text text ≡ true
      → BeginsSo (text ++ row_text source row)
  behind_piece spells.row_end some told text plain = absurd (cc)
  behind_piece (spells.row_part old row) some told text plain = absurd (cc)
  behind_piece (spells.row_insert opens inner close row) some told text plain =
      record { first = text; rest = _; is = refl; plain = plain }

  pub begins_so : {i j count : ℕ} {inserts : List Part} {tokens : List Tok}
      (row : SpellsRow source terminals.Piece terminals.Insert 1 i j inserts count tokens) → has_inserts inserts ≡ true
      → comment_row source row ≡ true → BeginsSo (row_text source row)
  begins_so spells.row_end some told = absurd (cc)
  begins_so (spells.row_part {i = i} old row) some told =
      let rest = and_right (adjoins source (i - 1)) _ told in
      behind_piece row some (and_left (not (row_texts row)) _ (and_right (is_comment_piece (bytes_at source i)) _ rest))
      (bytes_at source i) (piece_text (bytes_at source i) (and_left (is_comment_piece (bytes_at source i)) _ rest))
  begins_so (spells.row_insert opens inner close row) some told = record { first = []; rest = _; is = refl; plain = refl }
