-- Loud comments that were read are written as their tokens.
use Rattle.std.proofs.Common.{◌≡◌, ◌≤◌, ◌<◌, ℕ, suc, ◌+◌, true, List, [], ◌∷◌, ◌++◌, length, refl, sym, ◌∙◌, ap, subst, arith, append_assoc, length-append, lit<}
use Rattle.std.specs.Prelude.{bytes_eq, codes}
use Rattle.std.proofs.lemmas.Slice.Eq.{bytes_eq-Decides}
use Rattle.sw_text_scan.proofs.Bounds.{and_left, and_right}
use Rattle.sw_tree.specs.declared.text.Parts.{Parts}
use Rattle.sw_tree.specs.declared.text.Parts.TheVariants as parts
use Rattle.sw_tokens.specs.declared.pieces.Before.{Before}
use Rattle.sw_tokens.specs.declared.pieces.Change.TheVariants as changes
use Rattle.sw_tokens.specs.declared.skips.Inside.TheVariants as insides
use Rattle.sw_tokens.specs.declared.token.TokenKind.TheVariants as kinds
use Rattle.sw_tokens.specs.Pieces.{made, piece}
use Rattle.sw_tokens.specs.Tokens.{is_spaced}
use Rattle.sw_parse_terminals.specs.declared.terminal.Terminal.TheVariants as terminals
use Rattle.sw_parse_lexemes.specs.declared.sort.Sort.TheVariants as sorts
use Rattle.sw_parse_table.specs.declared.source.Source.{Source}
use Rattle.sw_parse_table.specs.Parts.{Part}
use Rattle.sw_parse_table.specs.Sources.{bytes, from_at, to_at, bytes_at, parts_between}
use Rattle.sw_convert_written.specs.declared.manner.Manner.TheVariants as manners
use Rattle.sw_convert_written.specs.Pieces.{pieces_text}
use Rattle.sw_convert_written.specs.Expressions.{parts_written}
use Rattle.sw_convert_written.proofs.Unrolled as unrolled
use Rattle.sw_convert_passing.specs.Written.{Written, written, direct}
use Rattle.sw_convert_heads_passing.specs.Comments.{whole, with_values}
use Rattle.sw_convert_again.specs.Tokens.{Said, Plain, Worded, Says, Tok, tok, saying}
use Rattle.sw_convert_again.specs.Tokens as again
use Rattle.sw_convert_again.specs.Spells.{SpellsRow, from_start}
use Rattle.sw_convert_again.specs.Comments.{whole_comment, comment_template, whole_lines, lines_template}
use Rattle.sw_convert_tokens.specs.Joints.{Seen, Token, text}
use Rattle.sw_convert_tokens.proofs.Words.{bytes_sit, parts_are}
use Rattle.sw_convert_texts.specs.Comments.{comment_row, has_inserts, CommentWritten, CommentsAreWritten}
use Rattle.sw_convert_texts.specs.Names.{joined}
use Rattle.sw_convert_texts.proofs.CommentRows.{RowIs, row_is, says_worded, BeginsSo, begins_so}
use Rattle.sw_convert_texts.proofs.CommentTokens.{whole_token, template_token}
use Rattle.sw_convert_texts.proofs.JoinedTexts.{lone, slice_some}
use Rattle.sw_convert_texts.proofs.NewRows.{says_first}
use Rattle.sw_convert_texts.proofs.OldComments.{comment_head, started_text, started_is}
use Rattle.sw_convert_texts.proofs.OldRows.{row_text}
use Rattle.sw_convert_texts.proofs.WholeComments.{IsWholeText, whole_text}
use Rattle.sw_convert_texts.proofs.Stretches.{none, said_start, start_is}

-- ---- without values

module _ (source : Source) (i : ℕ) (it : IsWholeText (bytes_at source i)) where
  abbrev inner_text : List ℕ
  inner_text = it.inner

  bytes_are : bytes_at source i ≡ codes "/*" ++ (inner_text ++ codes "*/")
  bytes_are = it.is

  length_is : length (bytes_at source i) ≡ (2 + length inner_text) + 2
  length_is =
      let one = ap length bytes_are in
      let two = length-append inner_text (codes "*/") in omega (arith, one, two)

  whole_is : (after : List ℕ) (before : Before)
      → piece (bytes_at source i ++ after) insides.Sheet before 0 ≡ made kinds.Comment (length (bytes_at source i)) changes.Keep
  whole_is after before =
      ap (λ (t : List ℕ). piece (t ++ after) insides.Sheet before 0) bytes_are
      ∙ ap (λ (t : List ℕ). piece (codes "/*" ++ t) insides.Sheet before 0) (append_assoc inner_text (codes "*/") after)
      ∙ whole_token inner_text after it.plain before
      ∙ ap (λ (n : ℕ). made kinds.Comment n changes.Keep) (sym length_is)

  some_bytes : 0 < length (bytes_at source i)
  some_bytes = let long = length_is in omega (arith, long)

  text_shown : joined (parts_between source i (suc i) []) ≡ bytes_at source i
  text_shown =
      ap (λ (p : Parts). pieces_text manners.Joined (parts_written p)) (parts_are source i)
      ∙ ap (pieces_text manners.Joined) (unrolled.plain_is (bytes_at source i))

  whole_written : CommentWritten (joined (parts_between source i (suc i) []))
      (tok terminals.CommentWhole (Plain 1 (parts_between source i (suc i) [])) ∷ [])
  whole_written before calm =
      let seen : Seen = record {
        gap = [];
        kind = kinds.Comment;
        bytes = bytes_at source i;
        change = changes.Keep;
        spaced = is_spaced before;
        may_be = terminals.CommentWhole ∷ [];
        said = Plain 1 (parts_between source i (suc i) []);
      } in record {
        passed = written sorts.Comment (is_spaced before) terminals.CommentWhole ∷ [];
        comment = whole;
        end = _;
        segment = record {
          joints = Token seen ∷ [];
          spelling = bytes_end (bytes_at source i) ∙ sym text_shown;
          seen = refl;
          written = refl;
          last = refl;
          tells = (
            λ new commented at front after sit.
                ap (λ (n : ℕ). parts_between new at n []) (let z : at + 1 ≡ suc at = omega arith in z)
                ∙ parts_are new at
                ∙ ap parts.Plain (bytes_sit new commented at _ seen _ sit.0)
                ∙ sym (parts_are source i),
            tt,
          );
          stand = λ after ok. (refl, some_bytes, (refl, tt), λ e. absurd (cc), whole_is after before, refl);
        };
      }
    where
      bytes_end : (xs : List ℕ) → xs ++ [] ≡ xs
      bytes_end [] = refl
      bytes_end (x ∷ xs) = ap (λ (t : List ℕ). x ∷ t) (bytes_end xs)

-- ---- with values

module _ (source : Source) {i k count : ℕ} {inserts : List Part} {tokens : List Tok}
    (row : SpellsRow source terminals.Piece terminals.Insert 1 (suc i) k inserts count tokens)
    (opens : bytes_at source i ≡ codes "/*") (some : has_inserts inserts ≡ true) (told : comment_row source row ≡ true)
    (more : RowIs source Worded row) where
  low : from_at source i ≤ to_at source i
  low =
      let lies = slice_some (bytes source) (from_at source i) (to_at source i)
      (subst (λ (t : List ℕ). 0 < length t) (sym opens) (lit< tt)) in omega (arith, lies)

  abbrev said : Said
  said = from_start source i inserts (suc count)

  said_is : said ≡ said_start (none inserts) count (lone (codes "/*" ++ comment_head source row))
  said_is =
      start_is source i count inserts
      ∙ ap (said_start (none inserts) count) (started_text source row told low)
      ∙ ap (λ (t : List ℕ). said_start (none inserts) count (lone (t ++ comment_head source row))) opens

  shown : joined (parts_between source i (suc k) inserts) ≡ codes "/*" ++ (row_text source row ++ codes "*/")
  shown =
      started_is source row told some low
      ∙ ap (λ (t : List ℕ). t ++ (row_text source row ++ codes "*/")) opens

  begun : BeginsSo source (row_text source row)
  begun = begins_so source row some told

  opened_is : (after : List ℕ) (before : Before)
      → piece (codes "/*" ++ (text more.joints ++ after)) insides.Sheet before 0
      ≡ made kinds.CommentTemplate 2 (changes.Push insides.Comment)
  opened_is after before =
      ap (λ (t : List ℕ). piece (codes "/*" ++ (t ++ after)) insides.Sheet before 0)
      (more.spelling ∙ ap (λ (t : List ℕ). t ++ codes "*/") begun.is)
      ∙ ap (λ (t : List ℕ). piece (codes "/*" ++ t) insides.Sheet before 0)
      (append_assoc (begun.first ++ (codes "#{" ++ begun.rest)) (codes "*/") after
      ∙ append_assoc begun.first (codes "#{" ++ begun.rest) (codes "*/" ++ after))
      ∙ template_token begun.first (begun.rest ++ (codes "*/" ++ after)) begun.plain before

  template_written : CommentWritten (joined (parts_between source i (suc k) inserts))
      (tok terminals.CommentTemplate said ∷ saying Worded (tokens ++ again.sign terminals.CommentEnd ∷ []))
  template_written before calm =
      let seen : Seen = record {
        gap = [];
        kind = kinds.CommentTemplate;
        bytes = codes "/*";
        change = changes.Push insides.Comment;
        spaced = is_spaced before;
        may_be = terminals.CommentTemplate ∷ [];
        said = said;
      } in record {
        passed = written sorts.CommentTemplate (is_spaced before) terminals.CommentTemplate ∷ (more.inner ++ direct sorts.CommentEnd terminals.CommentEnd ∷ []);
        comment = with_values more.pieces;
        end = _;
        segment = record {
          joints = Token seen ∷ more.joints;
          spelling = ap (λ (t : List ℕ). codes "/*" ++ t) more.spelling ∙ sym shown;
          seen = ap (λ (t : List Tok). tok terminals.CommentTemplate said ∷ t) more.seen;
          written = ap (λ (t : List Written). written sorts.CommentTemplate (is_spaced before) terminals.CommentTemplate ∷ t)
              more.written;
          last = more.last;
          tells = (
            λ new commented at front after sit.
                subst (Says new at) (sym said_is) (says_first new more.run seen commented at front after sit),
            more.tells,
          );
          stand = λ after ok.
              (refl, lit< tt, (refl, tt), λ e. more.direct, opened_is after before, more.stand after);
        };
      }

pub comments_written : CommentsAreWritten
comments_written source i j text tokens was (whole_comment old) told has = whole_written source i (whole_text source was i old)
comments_written source i j text tokens was (comment_template {inserts = inserts} old made row end) told has =
    let rest = and_right (bytes_eq (bytes_at source i) (codes "/*")) _ told in
    let is = and_right (has_inserts inserts) _ rest in
    template_written source row
    ((bytes_eq-Decides (bytes_at source i) (codes "/*")).0 (and_left (bytes_eq (bytes_at source i) (codes "/*")) _ told))
    (and_left (has_inserts inserts) _ rest) is (row_is source Worded says_worded row is has)
comments_written source i j text tokens was (whole_lines old made) told has = absurd (cc)
comments_written source i j text tokens was (lines_template old made spelt) told has = absurd (cc)
