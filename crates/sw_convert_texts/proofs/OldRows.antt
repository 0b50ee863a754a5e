-- What a word, a name or a url goes on with, as it was read: its text, and that its tokens stand directly behind each other.
use Rattle.std.proofs.Common.{◌≡◌, ◌≤◌, ℕ, suc, ◌+◌, ◌-◌, true, false, ◌&&◌, List, [], ◌∷◌, ◌++◌, Some, refl, sym, ◌∙◌, ap, subst, arith, append_assoc, append-nil}
use Rattle.std.specs.Prelude.{slice_range, codes}
use Rattle.sw_text_scan.proofs.Bounds.{and_left, and_right}
use Rattle.sw_tree.specs.declared.text.Piece.{Piece}
use Rattle.sw_tree.specs.declared.text.Piece.TheVariants as pieces
use Rattle.sw_tokens.specs.declared.token.TokenKind.{TokenKind}
use Rattle.sw_tokens.specs.declared.token.TokenKind.TheVariants as kinds
use Rattle.sw_tokens.specs.Ends.{opens}
use Rattle.sw_parse_grammar.specs.Grammar.{member}
use Rattle.sw_parse_terminals.specs.declared.lexeme.Lexeme.{Lexeme}
use Rattle.sw_parse_terminals.specs.declared.terminal.Terminal.{Terminal}
use Rattle.sw_parse_terminals.specs.declared.terminal.Terminal.TheVariants as terminals
use Rattle.sw_parse_terminals.specs.Numbers.{number_of, just}
use Rattle.sw_parse_lexemes.specs.declared.sort.Sort.TheVariants as sorts
use Rattle.sw_parse_lexemes.specs.Ahead.{sort_at, is_direct}
use Rattle.sw_parse_lexemes.specs.Sorts.{sort_of}
use Rattle.sw_parse_table.specs.declared.source.Source.{Source}
use Rattle.sw_parse_table.specs.Parts.{Part}
use Rattle.sw_parse_table.specs.Sources.{Texts, bytes, lexeme_at, from_in, to_in, from_at, to_at, bytes_at, commented_in, is_commented, texts, texts_from, text_pieces, plain_parts, pieces_from, parts_between, stretch_between}
use Rattle.sw_convert_written.specs.Expressions.{expr_text}
use Rattle.sw_convert_passing.specs.Kinds.{is_part}
use Rattle.sw_convert_again.specs.Tokens.{Tok, Old}
use Rattle.sw_convert_again.specs.Spells.{SpellsRow}
use Rattle.sw_convert_again.specs.Spells as spells
use Rattle.sw_convert_tokens.specs.Values.{WasRead}
use Rattle.sw_convert_texts.specs.Adjoining.{Adjoins}
use Rattle.sw_convert_texts.specs.Names.{joined}
use Rattle.sw_convert_texts.proofs.TerminalChoices.{comes}
use Rattle.sw_convert_texts.proofs.LexemePairs.{plains_in, comes_at, Touches, directly}
use Rattle.sw_convert_texts.proofs.OldPieces.{old_piece, Whole}
use Rattle.sw_convert_texts.proofs.JoinedTexts.{slice_more, slice_none, lone, Flat, flat_text, flat_more, joined_pieces, value_more, text_more, text_last, plain_text, mixed_text}
use Rattle.sw_convert_texts.proofs.Stretches.{none, stretch_text}

-- ---- the text of a row, and of the tokens before its first `#{`

abbrev pub row_text : (source : Source) {part opening : Terminal} {extra i j count : ℕ} {inserts : List Part}
    {tokens : List Tok} → SpellsRow source part opening extra i j inserts count tokens → List ℕ
row_text source spells.row_end = []
row_text source (spells.row_part {i = i} old row) = bytes_at source i ++ row_text source row
row_text source (spells.row_insert {value = value} opens inner close row) =
    codes "#{" ++ (expr_text value ++ (codes "}" ++ row_text source row))

abbrev pub head_of : (source : Source) {part opening : Terminal} {extra i j count : ℕ} {inserts : List Part}
    {tokens : List Tok} → SpellsRow source part opening extra i j inserts count tokens → List ℕ
head_of source spells.row_end = []
head_of source (spells.row_part {i = i} old row) = bytes_at source i ++ head_of source row
head_of source (spells.row_insert opens inner close row) = []

-- ---- terminals

pub only_part : (terminal : Terminal) → member (number_of terminal) (just terminals.Part) ≡ true → terminal ≡ terminals.Part
only_part terminals.Part m = refl
only_part _ m = absurd (cc)

only_insert : (terminal : Terminal) → member (number_of terminal) (just terminals.PartInsert) ≡ true
    → terminal ≡ terminals.PartInsert
only_insert terminals.PartInsert m = refl
only_insert _ m = absurd (cc)

pub part_closed : (kind : TokenKind) (text : List ℕ) → is_part (sort_of kind text) ≡ true → opens kind ≡ false
part_closed kinds.Template text e = absurd (cc)
part_closed kinds.UrlTemplate text e = absurd (cc)
part_closed kinds.CommentTemplate text e = absurd (cc)
part_closed _ text e = refl

-- a token that opens nothing lies in the text
pub lies_at : (source : Source) (k : ℕ) (lexeme : Lexeme) (kind : TokenKind) (xs : List ℕ)
    → lexeme_at source k ≡ Some lexeme → Whole source lexeme kind xs → from_at source k ≤ to_at source k
unfolding from_at to_at
lies_at source k lexeme kind xs there whole =
    let a = ap (from_in source) there in
    let b = ap (to_in source) there in
    let c = whole.from in
    let d = whole.to in omega (arith, a, b, c, d)

module _ (source : Source) (was : WasRead source) where
  pub sticks_by : (k : ℕ) (lexeme next : Lexeme) → lexeme_at source k ≡ Some lexeme → lexeme_at source (suc k) ≡ Some next
      → Touches source was lexeme next → Adjoins source k
  unfolding from_at to_at is_commented
  sticks_by k lexeme next there then touches = record {
    from = ap (from_in source) then ∙ sym touches.begins ∙ sym (ap (to_in source) there);
    calm = ap (commented_in source) then ∙ touches.uncommented;
  }

  -- a part of a word, and a `#{` in one
  pub record PartThere (k : ℕ) : Type 0 where
    pub sticks : Adjoins source k
    pub lexeme : Lexeme
    pub there : lexeme_at source (suc k) ≡ Some lexeme
    pub fits : is_part (sort_at (plains_in source) lexeme.token) ≡ true
    pub low : from_at source (suc k) ≤ to_at source (suc k)

  pub part_there : (k : ℕ) (lexeme : Lexeme) → lexeme_at source k ≡ Some lexeme → Old source (suc k) (just terminals.Part)
      → PartThere k
  part_there k lexeme there old =
      let it = comes_at source was (suc k) old.lexeme old.there in
      let fit : (it.goes && is_part (sort_at (plains_in source) old.lexeme.token)) ≡ true =
      ap (λ (t : Terminal). comes t (sort_at (plains_in source) old.lexeme.token) it.goes (is_direct (plains_in source) (old.lexeme.token + 1) sorts.OpenInsert) it.touches)
      (sym (only_part old.lexeme.terminal old.kind)) ∙ it.fit in
      let piece = old_piece source was (suc k) old.lexeme old.there in
      let whole = piece.own (part_closed piece.kind piece.text (ap is_part (sym piece.sort) ∙ and_right it.goes _ fit)) in record {
        sticks = sticks_by k lexeme old.lexeme there old.there
            (directly source was k lexeme old.lexeme there old.there (it.direct (and_left it.goes _ fit)));
        lexeme = old.lexeme;
        there = old.there;
        fits = and_right it.goes _ fit;
        low = lies_at source (suc k) old.lexeme piece.kind piece.text old.there whole;
      }

  pub insert_sticks : (k : ℕ) (lexeme : Lexeme) → lexeme_at source k ≡ Some lexeme
      → Old source (suc k) (just terminals.PartInsert) → Adjoins source k
  insert_sticks k lexeme there old =
      let it = comes_at source was (suc k) old.lexeme old.there in
      let goes : it.goes ≡ true =
      ap (λ (t : Terminal). comes t (sort_at (plains_in source) old.lexeme.token) it.goes (is_direct (plains_in source) (old.lexeme.token + 1) sorts.OpenInsert) it.touches)
      (sym (only_insert old.lexeme.terminal old.kind)) ∙ it.fit in
      sticks_by k lexeme old.lexeme there old.there
      (directly source was k lexeme old.lexeme there old.there (it.direct goes))

  -- one token further
  further : (k from : ℕ) → PartThere k → from ≤ to_at source k
      → slice_range (bytes source) from (to_at source (suc k)) ≡ slice_range (bytes source) from (to_at source k) ++ bytes_at source (suc k)
  further k from part low =
      let stick = part.sticks.from in
      let lies = part.low in
      slice_more (bytes source) from (to_at source k) (to_at source (suc k)) low (omega (arith, stick, lies))
      ∙ ap (λ (n : ℕ). slice_range (bytes source) from (to_at source k) ++ slice_range (bytes source) n (to_at source (suc k))) (sym stick)

  -- ---- what is written of it

  -- the row behind a token at a place `at`, where so many tokens stand between a place `first` and that
  joined_row : {i j count : ℕ} {inserts : List Part} {tokens : List Tok}
      (row : SpellsRow source terminals.Part terminals.PartInsert 0 i j inserts count tokens) (first n at from : ℕ)
      (lexeme : Lexeme) → lexeme_at source at ≡ Some lexeme → at ≡ first + n → i ≡ suc at → Flat source first n
      → from ≤ to_at source at → (to end : ℕ) → to ≡ to_at source (j - 1) → end ≡ j - 1
      → joined_pieces (pieces_from source (record { from = from; to = to; first = first; end = end }) inserts)
      ≡ slice_range (bytes source) from (to_at source at) ++ row_text source row
  unfolding texts
  joined_row (spells.row_end {i = i}) first n at from lexeme there place e flat low to end to_is end_is =
      ap (λ (m : ℕ). joined_pieces (text_pieces (texts_from source to from first m))) (let z : end - first ≡ n = omega (arith, end_is, e, place) in z)
      ∙ ap (λ (t : Texts). joined_pieces (text_pieces t)) (flat_text source to from first n flat)
      ∙ text_last (slice_range (bytes source) from to)
      ∙ ap (slice_range (bytes source) from) (to_is ∙ ap (to_at source) (let z : i - 1 ≡ at = omega (arith, e) in z))
      ∙ sym (append-nil (slice_range (bytes source) from (to_at source at)))
  joined_row (spells.row_part {i = i} old row) first n at from lexeme there place e flat low to end to_is end_is =
      let part = part_there at lexeme there (subst (λ (m : ℕ). Old source m (just terminals.Part)) e old) in
      let stick = part.sticks.from in
      let lies = part.low in
      joined_row row first (suc n) (suc at) from part.lexeme part.there (let z : suc at ≡ first + suc n = omega (arith, place) in z) (ap suc e)
      (flat_more source first n (suc at) flat (ap suc place) part.sticks.calm) (omega (arith, low, stick, lies)) to end to_is end_is
      ∙ ap (λ (t : List ℕ). t ++ row_text source row) (further at from part low)
      ∙ append_assoc (slice_range (bytes source) from (to_at source at)) (bytes_at source (suc at)) (row_text source row)
      ∙ ap (λ (m : ℕ). slice_range (bytes source) from (to_at source at) ++ (bytes_at source m ++ row_text source row)) (sym e)
  joined_row (spells.row_insert {i = i} {c = c} {value = value} {inserts = inserts} opens inner close row) first n at from
      lexeme there place e flat low to end to_is end_is =
      let sticks = insert_sticks at lexeme there (subst (λ (m : ℕ). Old source m (just terminals.PartInsert)) e opens) in
      let list : List Piece =
      pieces.Inserted value ∷ pieces_from source (record { from = to_at source (suc c - 1); to = to; first = suc c - 1; end = end }) inserts in
      let rest : ℕ → List ℕ = λ m. joined_pieces (pieces_from source (record { from = to_at source m; to = to; first = m; end = end }) inserts) in
      ap (λ (m : ℕ). joined_pieces (text_pieces (texts_from source (from_at source i) from first m) ++ list)) (let z : i - first ≡ suc n = omega (arith, e, place) in z)
      ∙ ap (λ (t : Texts). joined_pieces (text_pieces t ++ list))
      (flat_text source (from_at source i) from first (suc n)
      (flat_more source first n (suc at) flat (ap suc place) sticks.calm))
      ∙ text_more (slice_range (bytes source) from (from_at source i)) list
      ∙ ap (λ (m : ℕ). slice_range (bytes source) from m ++ joined_pieces list) (ap (from_at source) e ∙ sticks.from)
      ∙ ap (λ (t : List ℕ). slice_range (bytes source) from (to_at source at) ++ t)
      (value_more value (pieces_from source (record { from = to_at source (suc c - 1); to = to; first = suc c - 1; end = end }) inserts)
      ∙ ap (λ (t : List ℕ). codes "#{" ++ (expr_text value ++ (codes "}" ++ t)))
      (ap rest (let z : suc c - 1 ≡ c = omega arith in z)
      ∙ joined_row row c 0 c (to_at source c) close.lexeme close.there (let z : c ≡ c + 0 = omega arith in z) refl tt (omega arith) to end to_is end_is
      ∙ ap (λ (t : List ℕ). t ++ row_text source row) (slice_none (bytes source) (to_at source c))))

  -- what stands before its first `#{`
  pub old_head : {i j count : ℕ} {inserts : List Part} {tokens : List Tok}
      (row : SpellsRow source terminals.Part terminals.PartInsert 0 i j inserts count tokens) (first n at from : ℕ)
      (lexeme : Lexeme) → lexeme_at source at ≡ Some lexeme → at ≡ first + n → i ≡ suc at → Flat source first n
      → from ≤ to_at source at
      → stretch_text source (none inserts) from first (n + count)
      ≡ lone (slice_range (bytes source) from (to_at source at) ++ head_of source row)
  old_head spells.row_end first n at from lexeme there place e flat low =
      ap (λ (m : ℕ). texts_from source (to_at source (first + m)) from first m) (let z : n + 0 ≡ n = omega arith in z)
      ∙ flat_text source (to_at source (first + n)) from first n flat
      ∙ ap (λ (m : ℕ). lone (slice_range (bytes source) from (to_at source m))) (sym place)
      ∙ ap lone (sym (append-nil (slice_range (bytes source) from (to_at source at))))
  old_head (spells.row_part {i = i} {count = count} {inserts = inserts} old row) first n at from lexeme there place e flat low =
      let part = part_there at lexeme there (subst (λ (m : ℕ). Old source m (just terminals.Part)) e old) in
      let stick = part.sticks.from in
      let lies = part.low in
      ap (stretch_text source (none inserts) from first) (let z : n + suc count ≡ suc n + count = omega arith in z)
      ∙ old_head row first (suc n) (suc at) from part.lexeme part.there (let z : suc at ≡ first + suc n = omega (arith, place) in z) (ap suc e)
      (flat_more source first n (suc at) flat (ap suc place) part.sticks.calm) (omega (arith, low, stick, lies))
      ∙ ap (λ (t : List ℕ). lone (t ++ head_of source row)) (further at from part low)
      ∙ ap lone (append_assoc (slice_range (bytes source) from (to_at source at)) (bytes_at source (suc at)) (head_of source row))
      ∙ ap (λ (m : ℕ). lone (slice_range (bytes source) from (to_at source at) ++ (bytes_at source m ++ head_of source row))) (sym e)
  old_head (spells.row_insert {i = i} opens inner close row) first n at from lexeme there place e flat low =
      let sticks = insert_sticks at lexeme there (subst (λ (m : ℕ). Old source m (just terminals.PartInsert)) e opens) in
      ap (λ (m : ℕ). texts_from source (from_at source (suc (first + m))) from first (suc m)) (let z : n + 0 ≡ n = omega arith in z)
      ∙ flat_text source (from_at source (suc (first + n))) from first (suc n)
      (flat_more source first n (suc at) flat (ap suc place) sticks.calm)
      ∙ ap (λ (m : ℕ). lone (slice_range (bytes source) from m)) (ap (λ (m : ℕ). from_at source (suc m)) (sym place) ∙ sticks.from)
      ∙ ap lone (sym (append-nil (slice_range (bytes source) from (to_at source at))))

  -- ---- what begins with a token of its own

  module _ {i j count : ℕ} {inserts : List Part} {tokens : List Tok}
      (row : SpellsRow source terminals.Part terminals.PartInsert 0 (suc i) j inserts count tokens) (lexeme : Lexeme)
      (there : lexeme_at source i ≡ Some lexeme) (low : from_at source i ≤ to_at source i) where
    pub started_text : stretch_text source (none inserts) (from_at source i) i count
        ≡ lone (bytes_at source i ++ head_of source row)
    started_text =
        ap (stretch_text source (none inserts) (from_at source i) i) (let z : count ≡ 0 + count = omega arith in z)
        ∙ old_head row i 0 i (from_at source i) lexeme there (let z : i ≡ i + 0 = omega arith in z) refl tt low

    started_pieces : joined_pieces (pieces_from source (stretch_between source i j) inserts) ≡ bytes_at source i ++ row_text source row
    started_pieces =
        joined_row row i 0 i (from_at source i) lexeme there (let z : i ≡ i + 0 = omega arith in z) refl tt low _ _ refl refl

  -- behind the `}` of a `#{}`
  pub behind_text : {c j count : ℕ} {inserts : List Part} {tokens : List Tok}
      (row : SpellsRow source terminals.Part terminals.PartInsert 0 (suc c) j inserts count tokens) (lexeme : Lexeme)
      → lexeme_at source c ≡ Some lexeme
      → stretch_text source (none inserts) (to_at source c) c count ≡ lone (head_of source row)
  behind_text {c} {j} {count} {inserts} row lexeme there =
      ap (stretch_text source (none inserts) (to_at source c) c) (let z : count ≡ 0 + count = omega arith in z)
      ∙ old_head row c 0 c (to_at source c) lexeme there (let z : c ≡ c + 0 = omega arith in z) refl tt (omega arith)
      ∙ ap (λ (t : List ℕ). lone (t ++ head_of source row)) (slice_none (bytes source) (to_at source c))

  pub behind_pieces : {c j count : ℕ} {inserts : List Part} {tokens : List Tok}
      (row : SpellsRow source terminals.Part terminals.PartInsert 0 (suc c) j inserts count tokens) (lexeme : Lexeme)
      → lexeme_at source c ≡ Some lexeme → (to end : ℕ) → to ≡ to_at source (j - 1) → end ≡ j - 1
      → joined_pieces (pieces_from source (record { from = to_at source (suc c - 1); to = to; first = suc c - 1; end = end }) inserts)
      ≡ row_text source row
  behind_pieces {c} {j} {count} {inserts} row lexeme there to end to_is end_is =
      ap (λ (m : ℕ). joined_pieces (pieces_from source (record { from = to_at source m; to = to; first = m; end = end }) inserts))
      (let z : suc c - 1 ≡ c = omega arith in z)
      ∙ joined_row row c 0 c (to_at source c) lexeme there (let z : c ≡ c + 0 = omega arith in z) refl tt (omega arith) to end to_is end_is
      ∙ ap (λ (t : List ℕ). t ++ row_text source row) (slice_none (bytes source) (to_at source c))

  -- without `#{}` the row ends where its tokens do
  plain_end : {i j count : ℕ} {inserts : List Part} {tokens : List Tok}
      (row : SpellsRow source terminals.Part terminals.PartInsert 0 i j inserts count tokens) → none inserts ≡ true
      → (j ≡ i + count) × (head_of source row ≡ row_text source row)
  plain_end (spells.row_end {i = i}) e = (let z : i ≡ i + 0 = omega arith in z, refl)
  plain_end (spells.row_part {i = i} {j = j} {count = count} old row) e =
      let (ends, same) = plain_end row e in (
        let z : j ≡ i + suc count = omega (arith, ends) in z,
        ap (λ (t : List ℕ). bytes_at source i ++ t) same,
      )
  plain_end (spells.row_insert opens inner close row) e = absurd (cc)

  -- the text of a name that begins with a token and goes on with a row
  pub started_is : {i j count : ℕ} {inserts : List Part} {tokens : List Tok}
      (row : SpellsRow source terminals.Part terminals.PartInsert 0 (suc i) j inserts count tokens) (lexeme : Lexeme)
      → lexeme_at source i ≡ Some lexeme → from_at source i ≤ to_at source i
      → joined (parts_between source i j inserts) ≡ bytes_at source i ++ row_text source row
  unfolding texts
  started_is {i} {j} {count} {inserts = []} row lexeme there low =
      let (ends, same) = plain_end row refl in
      ap (λ (m : ℕ). joined (plain_parts (texts_from source (to_at source m) (from_at source i) i (m - i))))
      (let z : j - 1 ≡ i + count = omega (arith, ends) in z)
      ∙ ap (λ (m : ℕ). joined (plain_parts (texts_from source (to_at source (i + count)) (from_at source i) i m)))
      (let z : (i + count) - i ≡ count = omega arith in z)
      ∙ ap (λ (t : Texts). joined (plain_parts t)) (started_text row lexeme there low)
      ∙ plain_text (bytes_at source i ++ head_of source row)
      ∙ ap (λ (t : List ℕ). bytes_at source i ++ t) same
  started_is {i} {j} {inserts = part ∷ inserts} row lexeme there low =
      mixed_text (pieces_from source (stretch_between source i j) (part ∷ inserts)) ∙ started_pieces row lexeme there low
