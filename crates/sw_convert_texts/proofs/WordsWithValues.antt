-- Words and names with values in them are written as their tokens.
use Rattle.std.proofs.Common.{◌≡◌, ◌≤◌, ℕ, suc, ◌+◌, ◌-◌, Bool, true, false, not, ◌||◌, inl, inr, List, [], ◌∷◌, ◌++◌, Some, refl, sym, ◌∙◌, ap, subst, arith, append_assoc, append-nil, lit<}
use Rattle.std.specs.Prelude.{slice_range, codes}
use Rattle.sw_text_scan.specs.Bytes.{sign, is_white}
use Rattle.sw_text_scan.specs.Words.{is_u}
use Rattle.sw_tree.specs.declared.expr.Expr.{Expr}
use Rattle.sw_tree.specs.declared.text.Parts.{Parts}
use Rattle.sw_tree.specs.declared.text.Piece.{Piece}
use Rattle.sw_tree.specs.declared.text.Piece.TheVariants as pieces
use Rattle.sw_tokens.specs.declared.pieces.Before.{Before}
use Rattle.sw_tokens.specs.declared.pieces.Before.TheVariants as befores
use Rattle.sw_tokens.specs.declared.pieces.Change.TheVariants as changes
use Rattle.sw_tokens.specs.declared.token.TokenKind.{TokenKind}
use Rattle.sw_tokens.specs.declared.token.TokenKind.TheVariants as kinds
use Rattle.sw_tokens.specs.Ends.{opens}
use Rattle.sw_tokens.specs.Pieces.{piece}
use Rattle.sw_tokens.specs.Tokens.{is_spaced}
use Rattle.sw_parse_terminals.specs.declared.lexeme.Lexeme.{Lexeme}
use Rattle.sw_parse_terminals.specs.declared.terminal.Terminal.{Terminal}
use Rattle.sw_parse_terminals.specs.declared.terminal.Terminal.TheVariants as terminals
use Rattle.sw_parse_terminals.specs.Numbers.{just}
use Rattle.sw_parse_lexemes.specs.declared.sort.Sort.TheVariants as sorts
use Rattle.sw_parse_lexemes.specs.Ahead.{sort_at, is_direct}
use Rattle.sw_parse_lexemes.specs.Classes.{is_name}
use Rattle.sw_parse_lexemes.specs.Sorts.{sort_of}
use Rattle.sw_parse_lexemes.specs.Words.{at_sort}
use Rattle.sw_parse_table.specs.declared.source.Source.{Source}
use Rattle.sw_parse_table.specs.Parts.{Part, Inserts}
use Rattle.sw_parse_table.specs.Sources.{Texts, bytes, lexeme_at, from_at, to_at, bytes_at, is_commented, texts, texts_from, text_pieces, pieces_from, parts_between, stretch_between}
use Rattle.sw_convert_spelling.specs.Spelt.{behind_gap, innermost}
use Rattle.sw_convert_spelling.proofs.MovedRuns.{first_byte}
use Rattle.sw_convert_written.specs.Expressions.{expr_text}
use Rattle.sw_convert_passing.specs.Written.{Written, written}
use Rattle.sw_convert_passing.specs.Values.{inserted}
use Rattle.sw_convert_passing.specs.Values as values
use Rattle.sw_convert_again.specs.Tokens.{Said, Nothing, Before as BeforeIt, Says, text_up_to, Tok, tok, Old}
use Rattle.sw_convert_again.specs.Spells.{SpellsWord, SpellsRow, from_start, behind_insert}
use Rattle.sw_convert_again.specs.Spells as spells
use Rattle.sw_convert_again.specs.Statements.{SpellsName, name_row}
use Rattle.sw_convert_tokens.specs.Joints.{Seen, Joint, Token, Segment, text, toks, writtens, behind, Sit, Stand}
use Rattle.sw_convert_tokens.specs.Values.{WasRead}
use Rattle.sw_convert_tokens.specs.Written.{Follows, is_calm, gap_of, AsRow, WrittenAs}
use Rattle.sw_convert_tokens.proofs.Joins.{as_text, as_behind, text_append, toks_append, writtens_append, behind_append, tell_append}
use Rattle.sw_convert_tokens.proofs.Signs.{gap_is, sign_token}
use Rattle.sw_convert_tokens.proofs.Loud.{seen_by}
use Rattle.sw_convert_tokens.proofs.Words.{kind_of_name}
use Rattle.sw_convert_tokens.proofs.Unclosed.{Ends}
use Rattle.sw_convert_texts.specs.Adjoining.{Adjoins}
use Rattle.sw_convert_texts.specs.Inserted.{RowHasValues, WordHasValues, NameHasValues}
use Rattle.sw_convert_texts.specs.Names.{joined, NameWritten, row_inserts, row_ends, is_mixed, AsWord, Opens, Followers, WordsWithValuesAreWritten, CalledWordsAreWritten, AsName, as_name, CustomNamesAreWritten, name_inserts, AsAtName, as_at, AtNamesAreWritten}
use Rattle.sw_convert_texts.specs.RawKinds.{is_at}
use Rattle.sw_convert_texts.proofs.TerminalChoices.{comes}
use Rattle.sw_convert_texts.proofs.LexemePairs.{plains_in, comes_at}
use Rattle.sw_convert_texts.proofs.JoinedTexts.{slice_none, lone, Flat, flat_text, joined_pieces, value_more, text_more, mixed_text}
use Rattle.sw_convert_texts.proofs.Stretches.{none, said_start, said_behind, start_is, behind_is}
use Rattle.sw_convert_texts.proofs.NameTokens.{insert_settled}
use Rattle.sw_convert_texts.proofs.OldPieces.{old_piece, Whole, whole_bytes}
use Rattle.sw_convert_texts.proofs.OldRows.{lies_at, part_there, row_text, head_of, part_closed, started_text, started_is, behind_text, behind_pieces}
use Rattle.sw_convert_texts.proofs.NewRows.{HeadRun, run_more, says_first, says_next}
use Rattle.sw_convert_texts.proofs.MinusBefore.{minus_there}
use Rattle.sw_convert_texts.proofs.Inserts.{Inner, inner_of, inner_items, opening, closing, code_inserts, insert_stand}
use Rattle.sw_convert_texts.proofs.PartTokens.{PartToken, minus_fits}
use Rattle.sw_convert_texts.proofs.Parts.{name_token, none_next}
use Rattle.sw_convert_texts.proofs.AtTokens.{at_part}
use Rattle.sw_convert_texts.proofs.Rows.{Ending, RowIs, row_is, stands_row, behind_row, brace_ends}
use Rattle.sw_convert_texts.proofs.Endings.{follows_ending, opens_ending}
use Rattle.sw_convert_texts.proofs.WordKinds.{only_word, only_custom, only_at, part_name, kind_of_at}

dash_ends : Ends (sign "-")
dash_ends = record { slash = refl; digit = refl }

-- a word that is no single name has a `#{}` directly behind its name
inserts_by : {source : Source} {i j count : ℕ} {inserts : List Part} {tokens : List Tok}
    (row : SpellsRow source terminals.Part terminals.PartInsert 0 (suc i) j inserts count tokens) → not (row_ends row) ≡ true
    → (Old source (suc i) (just terminals.Part) → ⊥) → row_inserts row ≡ true
inserts_by spells.row_end mixed blocked = absurd (cc)
inserts_by (spells.row_part old row) mixed blocked = absurd (blocked old)
inserts_by (spells.row_insert opens inner close row) mixed blocked = refl

-- the empty text before a token
empty_text : (source : Source) (at : ℕ) → text_up_to source (from_at source at) at (at + 0) ≡ lone []
unfolding texts
empty_text source at =
    ap (λ (n : ℕ). texts_from source (from_at source n) (from_at source at) at (n - at)) (let z : at + 0 ≡ at = omega arith in z)
    ∙ ap (λ (n : ℕ). texts_from source (from_at source at) (from_at source at) at n) (let z : at - at ≡ 0 = omega arith in z)
    ∙ ap lone (slice_none (bytes source) (from_at source at))

module _ (Behind : Followers) (ending : Ending Behind) (source : Source) (was : WasRead source) where
  -- ---- what begins with a name

  -- a name that was read, at a place
  pub record First (i : ℕ) : Type 0 where
    pub lexeme : Lexeme
    pub there : lexeme_at source i ≡ Some lexeme
    pub part : PartToken source i (bytes_at source i)
    pub named : part.named ≡ true
    pub low : from_at source i ≤ to_at source i

  pub first_there : (i : ℕ) (lexeme : Lexeme) → lexeme_at source i ≡ Some lexeme
      → is_name (sort_at (plains_in source) lexeme.token) ≡ true
      → (first : First i) × (is_name (sort_of first.part.kind (bytes_at source i)) ≡ true)
  first_there i lexeme there n =
      let piece = old_piece source was i lexeme there in
      let named = ap is_name (sym piece.sort) ∙ n in
      let fits = part_name (sort_of piece.kind piece.text) named in
      let whole = piece.own (part_closed piece.kind piece.text fits) in
      let same = whole_bytes source i lexeme piece.kind piece.text there whole in
      let (token, (kind_is, alone)) = name_token source i lexeme there piece.kind piece.text fits whole (kind_of_name piece.kind piece.text named) in
      let (part, (so_named, so_alone)) =
      subst (λ (xs : List ℕ). (it : PartToken source i xs) × ((is_name (sort_of it.kind xs) ≡ true) × (it.named ≡ true))) (sym same)
      (token, (ap (λ (k : TokenKind). is_name (sort_of k piece.text)) kind_is ∙ named, alone)) in (
        record { lexeme = lexeme; there = there; part = part; named = so_alone; low = lies_at source i lexeme piece.kind piece.text there whole },
        so_named,
      )

  -- `@` with a name
  at_there : (i : ℕ) (lexeme : Lexeme) → lexeme_at source i ≡ Some lexeme
      → is_at (sort_at (plains_in source) lexeme.token) ≡ true → (first : First i) × (first.part.kind ≡ kinds.AtName)
  at_there i lexeme there n =
      let piece = old_piece source was i lexeme there in
      let kind = kind_of_at piece.kind piece.text (ap is_at (sym piece.sort) ∙ n) in
      let whole = subst (λ (k : TokenKind). Whole source lexeme k piece.text) kind (piece.own (ap opens kind)) in
      let same = whole_bytes source i lexeme kinds.AtName piece.text there whole in
      let (part, (so, so_alone)) =
      subst (λ (xs : List ℕ). (it : PartToken source i xs) × ((it.kind ≡ kinds.AtName) × (it.named ≡ true))) (sym same)
      (at_part source i lexeme there piece.text whole) in (
        record { lexeme = lexeme; there = there; part = part; named = so_alone; low = lies_at source i lexeme kinds.AtName piece.text there whole },
        so,
      )

  module _ {i j count : ℕ} {inserts : List Part} {tokens : List Tok} (terminal : Terminal) (first : First i)
      (row : SpellsRow source terminals.Part terminals.PartInsert 0 (suc i) j inserts count tokens)
      (has : RowHasValues row) where
    more : RowIs Behind source row
    more = row_is Behind ending source was row i first.lexeme first.there refl has

    blocked : Old source (suc i) (just terminals.Part) → ⊥
    blocked old =
        none_next source was i (bytes_at source i) first.part first.named (part_there source was i first.lexeme first.there old)

    abbrev said : Said
    said = from_start source i inserts (suc count)

    said_is : said ≡ said_start (none inserts) count (lone (bytes_at source i ++ head_of source row))
    said_is =
        start_is source i count inserts
        ∙ ap (said_start (none inserts) count) (started_text source was row first.lexeme first.there first.low)

    text_is : joined (parts_between source i j inserts) ≡ bytes_at source i ++ row_text source row
    text_is = started_is source was row first.lexeme first.there first.low

    begun_segment : (before : Before) (spaced : Bool) → is_calm (behind_gap before (gap_of spaced)) ≡ true
        → Segment before (gap_of spaced ++ joined (parts_between source i j inserts)) (tok terminal said ∷ tokens)
        (written (sort_of first.part.kind (bytes_at source i)) (is_spaced (behind_gap before (gap_of spaced))) terminal ∷ writtens more.joints)
        befores.Other (Behind (joined (parts_between source i j inserts)))
    begun_segment before spaced calm =
        let seen : Seen = record {
          gap = gap_of spaced;
          kind = first.part.kind;
          bytes = bytes_at source i;
          change = changes.Keep;
          spaced = is_spaced (behind_gap before (gap_of spaced));
          may_be = terminal ∷ [];
          said = said;
        } in
        let part = first.part in record {
          joints = Token seen ∷ more.joints;
          spelling = ap (λ (t : List ℕ). gap_of spaced ++ t) (ap (λ (t : List ℕ). bytes_at source i ++ t) more.spelling ∙ sym text_is);
          seen = ap (λ (t : List Tok). tok terminal said ∷ t) more.seen;
          written = refl;
          last = ap (λ (b : Before). behind b more.joints) part.other ∙ more.last;
          tells = (
            λ new commented at front after sit.
                subst (Says new at) (sym said_is) (says_first new more.run seen commented at front after sit),
            more.tells,
          );
          stand = λ stack after code f.
              let follows = subst (λ (t : List ℕ). Behind t after) text_is f in (
                gap_is (innermost stack) spaced (bytes_at source i) code part.black,
                part.some,
                (refl, seen_by (sort_of part.kind (bytes_at source i)) (terminal ∷ []) part.seen),
                λ e. absurd (let no : true ≡ false = sym e ∙ part.closed in cc),
                ap (λ (t : List ℕ). piece (bytes_at source i ++ (t ++ after)) (innermost stack) (behind_gap before (gap_of spaced)) 0) more.spelling
                    ∙ stands_row Behind ending source was row i (bytes_at source i) part first.lexeme first.there refl after follows
                    (innermost stack) code (behind_gap before (gap_of spaced)) calm,
                subst (λ (b : Before). Stand stack b more.joints stack after) (sym part.other)
                    (more.stand stack after code
                    (behind_row Behind ending source was row i (bytes_at source i) part first.lexeme first.there refl after follows)),
              );
        }

  -- ---- what begins with a `#{}`

  module _ (i : ℕ) {c j count : ℕ} (value : Expr) {inserts : List Part} {tokens others : List Tok}
      (close : Old source c (just terminals.InsertEnd))
      (row : SpellsRow source terminals.Part terminals.PartInsert 0 (suc c) j inserts count others)
      (written_so : WrittenAs AsRow (expr_text value) tokens) (has : RowHasValues row) where
    pub behind_more : RowIs Behind source row
    behind_more = row_is Behind ending source was row c close.lexeme close.there refl has

    abbrev pub closed_said : Said
    closed_said = behind_insert source c inserts count

    pub closed_said_is : closed_said ≡ said_behind (none inserts) count (lone (head_of source row))
    closed_said_is =
        behind_is source c count inserts
        ∙ ap (said_behind (none inserts) count) (behind_text source was row close.lexeme close.there)

    pub inner : Inner (expr_text value) tokens
    inner = inner_of (expr_text value) tokens written_so

    abbrev pub inserted_text : List ℕ
    inserted_text = codes "#{" ++ (expr_text value ++ (codes "}" ++ row_text source row))

    abbrev pub inserted_tokens : Terminal → Said → List Tok
    inserted_tokens terminal said = tok terminal said ∷ (tokens ++ tok terminals.InsertEnd closed_said ∷ others)

    abbrev pub inserted_passed : Bool → Terminal → List Written
    inserted_passed spaced terminal = inserted spaced terminal inner.passed (writtens behind_more.joints)

    unfoldable pub insert_segment : (terminal : Terminal) (said : Said) (before : Before) (spaced : Bool)
        → ((new : Source) (commented : Bool) (at : ℕ) (front after : List ℕ) (joints : List Joint)
        → Sit new commented at front (Token (opening before spaced terminal said) ∷ joints) after → Says new at said)
        → Segment before (gap_of spaced ++ inserted_text) (inserted_tokens terminal said)
        (inserted_passed (is_spaced (behind_gap before (gap_of spaced))) terminal) befores.Other (Behind inserted_text)
    insert_segment terminal said before spaced says =
        let list = inner.segment.joints in
        let rest = Token (closing closed_said) ∷ behind_more.joints in record {
          joints = Token (opening before spaced terminal said) ∷ (list ++ rest);
          spelling = ap (λ (t : List ℕ). gap_of spaced ++ (codes "#{" ++ t))
              (text_append list rest
              ∙ ap (λ (t : List ℕ). t ++ (codes "}" ++ text behind_more.joints)) inner.segment.spelling
              ∙ ap (λ (t : List ℕ). expr_text value ++ (codes "}" ++ t)) behind_more.spelling);
          seen = ap (λ (t : List Tok). tok terminal said ∷ t)
              (toks_append list rest
              ∙ ap (λ (t : List Tok). t ++ tok terminals.InsertEnd closed_said ∷ toks behind_more.joints) inner.segment.seen
              ∙ ap (λ (t : List Tok). tokens ++ tok terminals.InsertEnd closed_said ∷ t) behind_more.seen);
          written = ap (λ (t : List Written). written sorts.OpenInsert (is_spaced (behind_gap before (gap_of spaced))) terminal ∷ t)
              (writtens_append list rest
              ∙ ap (λ (t : List Written). t ++ writtens rest) inner.segment.written);
          last = behind_append befores.Other list rest ∙ behind_more.last;
          tells = (
            λ new commented at front after sit. says new commented at front after (list ++ rest) sit,
            tell_append list rest inner.segment.tells (
              λ new commented at front after sit.
                  subst (Says new at) (sym closed_said_is) (says_next new behind_more.run (closing closed_said) commented at front after sit),
              behind_more.tells,
            ),
          );
          stand = λ stack after code f.
              insert_stand stack before spaced terminal said closed_said inner behind_more.joints after
              (code_inserts (innermost stack) code) (gap_is (innermost stack) spaced (codes "#{") code (ap is_white (first_byte (sign "#") (codes "{"))))
              (behind_more.stand stack after code
              (ending.cuts (codes "#{" ++ expr_text value) (row_text source row) (sign "}") brace_ends (inl refl) after
              (subst (λ (t : List ℕ). Behind t after)
              (sym (append_assoc (codes "#{") (expr_text value) (sign "}" ∷ row_text source row))) f)));
        }

    -- the pieces behind the text before it
    abbrev pub list_behind : List Piece
    list_behind =
        pieces_from source (record { from = to_at source (suc c - 1); to = to_at source (j - 1); first = suc c - 1; end = j - 1 }) inserts

    abbrev pub list_from : List Piece
    list_from = pieces.Inserted value ∷ list_behind

    pub pieces_behind : (before : List ℕ) → joined_pieces (text_pieces (lone before) ++ list_from) ≡ before ++ inserted_text
    pieces_behind before =
        text_more before list_from
        ∙ ap (λ (t : List ℕ). before ++ t)
        (value_more value list_behind
        ∙ ap (λ (t : List ℕ). codes "#{" ++ (expr_text value ++ (codes "}" ++ t)))
        (behind_pieces source was row close.lexeme close.there (to_at source (j - 1)) (j - 1) refl refl))

    -- a word that begins with it
    pub begun_text : joined (parts_between source i j (Inserts i (suc c) value ∷ inserts)) ≡ inserted_text
    unfolding texts
    begun_text =
        mixed_text (pieces_from source (stretch_between source i j) (Inserts i (suc c) value ∷ inserts))
        ∙ ap (λ (n : ℕ). joined_pieces (text_pieces (texts_from source (from_at source i) (from_at source i) i n) ++ list_from)) (let z : i - i ≡ 0 = omega arith in z)
        ∙ ap (λ (t : List ℕ). joined_pieces (text_pieces (lone t) ++ list_from)) (slice_none (bytes source) (from_at source i))
        ∙ pieces_behind []

    begun_written : NameWritten AsWord Behind (joined (parts_between source i j (Inserts i (suc c) value ∷ inserts)))
        (inserted_tokens terminals.WordInsert (BeforeIt 0 (text_up_to source (from_at source i) i (i + 0))))
    begun_written before spaced calm = record {
      passed = inserted_passed (is_spaced (behind_gap before (gap_of spaced))) terminals.WordInsert;
      segment = as_behind (λ after f. subst (λ (t : List ℕ). Behind t after) begun_text f)
          (as_text (ap (λ (t : List ℕ). gap_of spaced ++ t) (sym begun_text))
          (insert_segment terminals.WordInsert (BeforeIt 0 (text_up_to source (from_at source i) i (i + 0))) before spaced
          (λ new commented at front after joints sit. empty_text new at ∙ sym (empty_text source i))));
      told = λ mode owned called. values.begun (inner_items inner) behind_more.parts;
    }

    -- and one with a sign before it
    module _ (first : List ℕ) (is : bytes_at source i ≡ first) (sticks : Adjoins source i) where
      pub signed_text : joined (parts_between source i j (Inserts (suc i) (suc c) value ∷ inserts)) ≡ first ++ inserted_text
      unfolding texts
      signed_text =
          mixed_text (pieces_from source (stretch_between source i j) (Inserts (suc i) (suc c) value ∷ inserts))
          ∙ ap (λ (n : ℕ). joined_pieces (text_pieces (texts_from source (from_at source (suc i)) (from_at source i) i n) ++ list_from)) (let z : suc i - i ≡ 1 = omega arith in z)
          ∙ ap (λ (t : Texts). joined_pieces (text_pieces t ++ list_from)) (flat_text source (from_at source (suc i)) (from_at source i) i 1 one_flat)
          ∙ ap (λ (n : ℕ). joined_pieces (text_pieces (lone (slice_range (bytes source) (from_at source i) n)) ++ list_from)) sticks.from
          ∙ ap (λ (t : List ℕ). joined_pieces (text_pieces (lone t) ++ list_from)) is
          ∙ pieces_behind first
        where
          one_flat : Flat source i 1
          one_flat = (ap (is_commented source) (let z : i + 1 ≡ suc i = omega arith in z) ∙ sticks.calm, tt)

      pub signed_said_is : BeforeIt 1 (text_up_to source (from_at source i) i (i + 1)) ≡ said_start false 0 (lone (first ++ []))
      unfolding texts
      signed_said_is =
          ap (λ (n : ℕ). BeforeIt 1 (texts_from source (from_at source n) (from_at source i) i (n - i))) (let z : i + 1 ≡ suc i = omega arith in z)
          ∙ ap (λ (n : ℕ). BeforeIt 1 (texts_from source (from_at source (suc i)) (from_at source i) i n)) (let z : suc i - i ≡ 1 = omega arith in z)
          ∙ ap (BeforeIt 1) (flat_text source (from_at source (suc i)) (from_at source i) i 1
          (ap (is_commented source) (let z : i + 1 ≡ suc i = omega arith in z) ∙ sticks.calm, tt))
          ∙ ap (λ (n : ℕ). BeforeIt 1 (lone (slice_range (bytes source) (from_at source i) n))) sticks.from
          ∙ ap (λ (t : List ℕ). BeforeIt 1 (lone t)) (is ∙ sym (append-nil first))

    -- a `-`
    module _ (dash : bytes_at source i ≡ codes "-") (sticks : Adjoins source i) where
      pub minus_text : joined (parts_between source i j (Inserts (suc i) (suc c) value ∷ inserts)) ≡ codes "-" ++ inserted_text
      minus_text = signed_text (codes "-") dash sticks

      abbrev minus_said : Said
      minus_said = BeforeIt 1 (text_up_to source (from_at source i) i (i + 1))

      minus_said_is : minus_said ≡ said_start false 0 (lone (codes "-" ++ []))
      minus_said_is = signed_said_is (codes "-") dash sticks

      minus_written : NameWritten AsWord Behind (joined (parts_between source i j (Inserts (suc i) (suc c) value ∷ inserts)))
          (tok terminals.WordMinus minus_said ∷ inserted_tokens terminals.WordInsert Nothing)
      unfolding insert_segment
      minus_written before spaced calm =
          let seen : Seen = record {
            gap = gap_of spaced;
            kind = kinds.Minus;
            bytes = codes "-";
            change = changes.Keep;
            spaced = is_spaced (behind_gap before (gap_of spaced));
            may_be = terminals.WordMinus ∷ [];
            said = minus_said;
          } in
          let insert = insert_segment terminals.WordInsert Nothing befores.Other false (λ new commented at front after joints sit. tt) in
          let run : HeadRun false 0 insert.joints [] = run_more refl in record {
            passed = written sorts.Minus (is_spaced (behind_gap before (gap_of spaced))) terminals.WordMinus ∷ inserted_passed false terminals.WordInsert;
            segment = record {
              joints = Token seen ∷ insert.joints;
              spelling = ap (λ (t : List ℕ). gap_of spaced ++ t) (ap (λ (t : List ℕ). codes "-" ++ t) insert.spelling ∙ sym minus_text);
              seen = ap (λ (t : List Tok). tok terminals.WordMinus minus_said ∷ t) insert.seen;
              written = ap (λ (t : List Written). written sorts.Minus (is_spaced (behind_gap before (gap_of spaced))) terminals.WordMinus ∷ t) insert.written;
              last = insert.last;
              tells = (
                λ new commented at front after sit.
                    subst (Says new at) (sym minus_said_is) (says_first new run seen commented at front after sit),
                insert.tells,
              );
              stand = λ stack after code f.
                  let follows = subst (λ (t : List ℕ). Behind t after) minus_text f in (
                    gap_is (innermost stack) spaced (codes "-") code (ap is_white (first_byte (sign "-") [])),
                    lit< tt,
                    (refl, refl),
                    λ e. absurd (cc),
                    sign_token kinds.Minus (text insert.joints ++ after) (innermost stack) (behind_gap before (gap_of spaced)) refl code calm
                        (minus_fits (text insert.joints ++ after) (insert_settled (codes "-") _).quiet),
                    insert.stand stack after code (ending.cuts [] inserted_text (sign "-") dash_ends
                        (inr (ap is_u (first_byte (sign "#") (codes "{" ++ (expr_text value ++ (codes "}" ++ row_text source row)))))) after follows),
                  );
            };
            told = λ mode owned called. values.begun_minus (inner_items inner) behind_more.parts;
          }

  -- ---- the laws

  mixed_word : {i j : ℕ} {parts : Parts} {tokens : List Tok} (spelt : SpellsWord source i j parts tokens) → is_mixed spelt ≡ true
      → WordHasValues spelt → NameWritten AsWord Behind (joined parts) tokens
  mixed_word (spells.named {i} old row) mixed has =
      let it = comes_at source was i old.lexeme old.there in
      let n : is_name (sort_at (plains_in source) old.lexeme.token) ≡ true =
      ap (λ (t : Terminal). comes t (sort_at (plains_in source) old.lexeme.token) it.goes (is_direct (plains_in source) (old.lexeme.token + 1) sorts.OpenInsert) it.touches)
      (sym (only_word old.lexeme.terminal old.kind)) ∙ it.fit in
      let (first, named) = first_there i old.lexeme old.there n in
      let inserts = inserts_by row mixed (blocked terminals.Word first row has) in λ before spaced calm. record {
        passed = _;
        segment = begun_segment terminals.Word first row has before spaced calm;
        told = λ mode owned called.
            values.named (sort_of first.part.kind (bytes_at source i)) named
            (yes _ _ ((more terminals.Word first row has).inserts_so ∙ inserts)) (more terminals.Word first row has).parts;
      }
    where
      yes : (a b : Bool) → a ≡ true → (a || b) ≡ true
      yes true b e = refl
      yes false b e = absurd (cc)
  mixed_word (spells.begun {i = i} {value = value} opens _ close row) mixed (written_so, has) =
      begun_written i value close row written_so has
  mixed_word (spells.begun_minus {i = i} {value = value} minus opens _ close row) mixed (written_so, has) =
      let it = minus_there source was i minus opens in minus_written i value close row written_so has it.dash it.sticks

  custom_name : {i j : ℕ} {parts : Parts} {tokens : List Tok} (spelt : SpellsName source terminals.Custom i j parts tokens)
      → NameHasValues spelt → NameWritten (AsName is_name terminals.Custom) Behind (joined parts) tokens
  custom_name (name_row {i} old row) has before spaced calm =
      let it = comes_at source was i old.lexeme old.there in
      let n : is_name (sort_at (plains_in source) old.lexeme.token) ≡ true =
      ap (λ (t : Terminal). comes t (sort_at (plains_in source) old.lexeme.token) it.goes (is_direct (plains_in source) (old.lexeme.token + 1) sorts.OpenInsert) it.touches)
      (sym (only_custom old.lexeme.terminal old.kind)) ∙ it.fit in
      let (first, named) = first_there i old.lexeme old.there n in record {
        passed = _;
        segment = begun_segment terminals.Custom first row has before spaced calm;
        told = as_name (sort_of first.part.kind (bytes_at source i)) named (more terminals.Custom first row has).parts;
      }

  at_name : {i j : ℕ} {parts : Parts} {tokens : List Tok} (spelt : SpellsName source terminals.AtOther i j parts tokens)
      → NameHasValues spelt
      → NameWritten (AsAtName (at_sort (bytes_at source i)) (name_inserts spelt)) Behind (joined parts) tokens
  at_name (name_row {i} old row) has before spaced calm =
      let it = comes_at source was i old.lexeme old.there in
      let n : is_at (sort_at (plains_in source) old.lexeme.token) ≡ true =
      ap (λ (t : Terminal). comes t (sort_at (plains_in source) old.lexeme.token) it.goes (is_direct (plains_in source) (old.lexeme.token + 1) sorts.OpenInsert) it.touches)
      (sym (only_at old.lexeme.terminal old.kind)) ∙ it.fit in
      let (first, kind) = at_there i old.lexeme old.there n in
      let it_is = more terminals.AtOther first row has in record {
        passed = _;
        segment = begun_segment terminals.AtOther first row has before spaced calm;
        told = subst
            (λ (k : TokenKind). AsAtName (at_sort (bytes_at source i)) (row_inserts row) (is_spaced (behind_gap before (gap_of spaced)))
            (written (sort_of k (bytes_at source i)) (is_spaced (behind_gap before (gap_of spaced))) terminals.AtOther ∷ writtens it_is.joints))
            (sym kind) (as_at it_is.inserts_so it_is.parts);
      }

pub words_written : WordsWithValuesAreWritten
words_written source i j parts tokens was spelt mixed has = mixed_word Follows follows_ending source was spelt mixed has

pub called_words_written : CalledWordsAreWritten
called_words_written source i j parts tokens was spelt mixed has = mixed_word Opens opens_ending source was spelt mixed has

pub at_names_written : AtNamesAreWritten
at_names_written source i j parts tokens was spelt has = at_name Follows follows_ending source was spelt has

pub custom_names_written : CustomNamesAreWritten
custom_names_written source i j parts tokens was spelt has = custom_name Follows follows_ending source was spelt has
