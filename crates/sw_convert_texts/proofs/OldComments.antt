-- A loud comment with values in it, as it was read: its text, where its tokens stand directly behind each other.
use Rattle.std.proofs.Common.{◌≡◌, ◌≤◌, ◌<◌, ℕ, suc, ◌+◌, ◌-◌, true, not, List, [], ◌∷◌, ◌++◌, length, refl, sym, ◌∙◌, ap, subst, arith, append_assoc, append-nil, lit<}
use Rattle.std.specs.Prelude.{◌==◌, slice_range, bytes_eq, codes}
use Rattle.std.proofs.lemmas.Slice.Eq.{bytes_eq-Decides}
use Rattle.sw_text_scan.proofs.Bounds.{and_left, and_right, not_true}
use Rattle.sw_text_locality.proofs.Lexical.{equal}
use Rattle.sw_tree.specs.declared.text.Piece.{Piece}
use Rattle.sw_tree.specs.declared.text.Piece.TheVariants as pieces
use Rattle.sw_parse_terminals.specs.declared.terminal.Terminal.{Terminal}
use Rattle.sw_parse_terminals.specs.declared.terminal.Terminal.TheVariants as terminals
use Rattle.sw_parse_table.specs.declared.source.Source.{Source}
use Rattle.sw_parse_table.specs.Parts.{Part}
use Rattle.sw_parse_table.specs.Sources.{Texts, bytes, from_at, to_at, bytes_at, is_commented, texts, texts_from, text_pieces, pieces_from, parts_between, stretch_between}
use Rattle.sw_convert_written.specs.Expressions.{expr_text}
use Rattle.sw_convert_again.specs.Tokens.{Tok}
use Rattle.sw_convert_again.specs.Spells.{SpellsRow}
use Rattle.sw_convert_again.specs.Spells as spells
use Rattle.sw_convert_texts.specs.Adjoining.{Adjoins}
use Rattle.sw_convert_texts.specs.Comments.{is_comment_piece, adjoins, row_texts, comment_row, has_inserts}
use Rattle.sw_convert_texts.specs.Names.{joined}
use Rattle.sw_convert_texts.proofs.JoinedTexts.{slice_more, slice_none, slice_some, lone, Flat, flat_text, flat_more, joined_pieces, value_more, text_more, text_last, mixed_text}
use Rattle.sw_convert_texts.proofs.OldRows.{row_text}
use Rattle.sw_convert_texts.proofs.Stretches.{none, stretch_text}

-- what stands before its first `#{`, up to the `*/` where there is none
abbrev pub comment_head : (source : Source) {part opening : Terminal} {extra i j count : ℕ} {inserts : List Part}
    {tokens : List Tok} → SpellsRow source part opening extra i j inserts count tokens → List ℕ
comment_head source spells.row_end = codes "*/"
comment_head source (spells.row_part {i = i} old row) = bytes_at source i ++ comment_head source row
comment_head source (spells.row_insert opens inner close row) = []

pub some_piece : (text : List ℕ) → is_comment_piece text ≡ true → 0 < length text
some_piece [] e = absurd (cc)
some_piece (b ∷ text) e = omega arith

module _ (source : Source) where
  pub stuck : (at i : ℕ) → i ≡ suc at → adjoins source (i - 1) ≡ true → Adjoins source at
  stuck at i e told =
      let same : adjoins source at ≡ true = ap (adjoins source) (let z : at ≡ i - 1 = omega (arith, e) in z) ∙ told in record {
        from = equal (from_at source (suc at)) (to_at source at)
            (and_left (from_at source (suc at) == to_at source at) (not (is_commented source (suc at))) same);
        calm = not_true (is_commented source (suc at))
            (and_right (from_at source (suc at) == to_at source at) (not (is_commented source (suc at))) same);
      }

  closing : (i : ℕ) → bytes_eq (bytes_at source i) (codes "*/") ≡ true → bytes_at source i ≡ codes "*/"
  closing i e = (bytes_eq-Decides (bytes_at source i) (codes "*/")).0 e

  -- one token further
  record More (at from : ℕ) : Type 0 where
    is : slice_range (bytes source) from (to_at source (suc at))
        ≡ slice_range (bytes source) from (to_at source at) ++ bytes_at source (suc at)
    low : from ≤ to_at source (suc at)

  further : (at from : ℕ) → Adjoins source at → 0 < length (bytes_at source (suc at)) → from ≤ to_at source at → More at from
  further at from stick some low =
      let begins = stick.from in
      let lies = slice_some (bytes source) (from_at source (suc at)) (to_at source (suc at)) some in record {
        is = slice_more (bytes source) from (to_at source at) (to_at source (suc at)) low (omega (arith, begins, lies))
            ∙ ap (λ (n : ℕ). slice_range (bytes source) from (to_at source at) ++ slice_range (bytes source) n (to_at source (suc at)))
            (sym begins);
        low = omega (arith, begins, lies, low);
      }

  further_end : (at i from : ℕ) → i ≡ suc at → Adjoins source at → bytes_at source i ≡ codes "*/" → from ≤ to_at source at
      → slice_range (bytes source) from (to_at source (suc at)) ≡ slice_range (bytes source) from (to_at source at) ++ codes "*/"
  further_end at i from e stick is low =
      let same : bytes_at source (suc at) ≡ codes "*/" = ap (bytes_at source) (sym e) ∙ is in
      (further at from stick (subst (λ (t : List ℕ). 0 < length t) (sym same) (lit< tt)) low).is
      ∙ ap (λ (t : List ℕ). slice_range (bytes source) from (to_at source at) ++ t) same

  further_piece : (at i from : ℕ) → i ≡ suc at → Adjoins source at → is_comment_piece (bytes_at source i) ≡ true
      → from ≤ to_at source at → More at from
  further_piece at i from e stick is low =
      further at from stick
      (some_piece (bytes_at source (suc at)) (ap (λ (n : ℕ). is_comment_piece (bytes_at source n)) (sym e) ∙ is)) low

  -- ---- what is written of it

  -- the row behind a token at a place `at`, where so many tokens stand between a place `first` and that
  joined_row : {i j count : ℕ} {inserts : List Part} {tokens : List Tok}
      (row : SpellsRow source terminals.Piece terminals.Insert 1 i j inserts count tokens) → comment_row source row ≡ true
      → (first n at from : ℕ) → at ≡ first + n → i ≡ suc at → Flat source first n → from ≤ to_at source at
      → (to end : ℕ) → to ≡ to_at source j → end ≡ j
      → joined_pieces (pieces_from source (record { from = from; to = to; first = first; end = end }) inserts)
      ≡ slice_range (bytes source) from (to_at source at) ++ (row_text source row ++ codes "*/")
  unfolding texts
  joined_row (spells.row_end {i = i}) told first n at from place e flat low to end to_is end_is =
      let stick = stuck at i e (and_left (adjoins source (i - 1)) _ told) in
      ap (λ (m : ℕ). joined_pieces (text_pieces (texts_from source to from first m)))
      (let z : end - first ≡ suc n = omega (arith, end_is, e, place) in z)
      ∙ ap (λ (t : Texts). joined_pieces (text_pieces t))
      (flat_text source to from first (suc n) (flat_more source first n (suc at) flat (ap suc place) stick.calm))
      ∙ text_last (slice_range (bytes source) from to)
      ∙ ap (slice_range (bytes source) from) (to_is ∙ ap (to_at source) e)
      ∙ further_end at i from e stick (closing i (and_right (adjoins source (i - 1)) _ told)) low
  joined_row (spells.row_part {i = i} old row) told first n at from place e flat low to end to_is end_is =
      let stick = stuck at i e (and_left (adjoins source (i - 1)) _ told) in
      let rest = and_right (adjoins source (i - 1)) _ told in
      let more = further_piece at i from e stick (and_left (is_comment_piece (bytes_at source i)) _ rest) low in
      let others = row_text source row ++ codes "*/" in
      joined_row row
      (and_right (not (row_texts row)) _ (and_right (is_comment_piece (bytes_at source i)) _ rest)) first (suc n) (suc at) from
      (let z : suc at ≡ first + suc n = omega (arith, place) in z) (ap suc e)
      (flat_more source first n (suc at) flat (ap suc place) stick.calm) more.low to end to_is end_is
      ∙ ap (λ (t : List ℕ). t ++ others) more.is
      ∙ append_assoc (slice_range (bytes source) from (to_at source at)) (bytes_at source (suc at)) others
      ∙ ap (λ (m : ℕ). slice_range (bytes source) from (to_at source at) ++ (bytes_at source m ++ others)) (sym e)
      ∙ ap (λ (t : List ℕ). slice_range (bytes source) from (to_at source at) ++ t)
      (sym (append_assoc (bytes_at source i) (row_text source row) (codes "*/")))
  joined_row (spells.row_insert {i = i} {c = c} {value = value} {inserts = inserts} opens inner close row) told first n at
      from place e flat low to end to_is end_is =
      let stick = stuck at i e (and_left (adjoins source (i - 1)) _ told) in
      let list : List Piece =
      pieces.Inserted value ∷ pieces_from source (record { from = to_at source (suc c - 1); to = to; first = suc c - 1; end = end }) inserts in
      let rest : ℕ → List ℕ = λ m. joined_pieces (pieces_from source (record { from = to_at source m; to = to; first = m; end = end }) inserts) in
      ap (λ (m : ℕ). joined_pieces (text_pieces (texts_from source (from_at source i) from first m) ++ list))
      (let z : i - first ≡ suc n = omega (arith, e, place) in z)
      ∙ ap (λ (t : Texts). joined_pieces (text_pieces t ++ list))
      (flat_text source (from_at source i) from first (suc n)
      (flat_more source first n (suc at) flat (ap suc place) stick.calm))
      ∙ text_more (slice_range (bytes source) from (from_at source i)) list
      ∙ ap (λ (m : ℕ). slice_range (bytes source) from m ++ joined_pieces list) (ap (from_at source) e ∙ stick.from)
      ∙ ap (λ (t : List ℕ). slice_range (bytes source) from (to_at source at) ++ t)
      (value_more value (pieces_from source (record { from = to_at source (suc c - 1); to = to; first = suc c - 1; end = end }) inserts)
      ∙ ap (λ (t : List ℕ). codes "#{" ++ (expr_text value ++ (codes "}" ++ t)))
      (ap rest (let z : suc c - 1 ≡ c = omega arith in z)
      ∙ joined_row row (and_right (adjoins source (i - 1)) _ told) c 0 c (to_at source c)
      (let z : c ≡ c + 0 = omega arith in z) refl tt (omega arith) to end to_is end_is
      ∙ ap (λ (t : List ℕ). t ++ (row_text source row ++ codes "*/")) (slice_none (bytes source) (to_at source c)))
      ∙ ap (λ (t : List ℕ). codes "#{" ++ t)
      (sym
      (append_assoc (expr_text value) (codes "}" ++ row_text source row) (codes "*/"))))

  -- what stands before its first `#{`
  old_head : {i j count : ℕ} {inserts : List Part} {tokens : List Tok}
      (row : SpellsRow source terminals.Piece terminals.Insert 1 i j inserts count tokens) → comment_row source row ≡ true
      → (first n at from : ℕ) → at ≡ first + n → i ≡ suc at → Flat source first n → from ≤ to_at source at
      → stretch_text source (none inserts) from first (n + count)
      ≡ lone (slice_range (bytes source) from (to_at source at) ++ comment_head source row)
  old_head (spells.row_end {i = i}) told first n at from place e flat low =
      let stick = stuck at i e (and_left (adjoins source (i - 1)) _ told) in
      ap (λ (m : ℕ). texts_from source (to_at source (first + m)) from first m) (let z : n + 1 ≡ suc n = omega arith in z)
      ∙ flat_text source (to_at source (first + suc n)) from first (suc n)
      (flat_more source first n (suc at) flat (ap suc place) stick.calm)
      ∙ ap (λ (m : ℕ). lone (slice_range (bytes source) from (to_at source m)))
      (let z : first + suc n ≡ suc at = omega (arith, place) in z)
      ∙ ap lone (further_end at i from e stick (closing i (and_right (adjoins source (i - 1)) _ told)) low)
  old_head (spells.row_part {i = i} {count = count} {inserts = inserts} old row) told first n at from place e flat low =
      let stick = stuck at i e (and_left (adjoins source (i - 1)) _ told) in
      let rest = and_right (adjoins source (i - 1)) _ told in
      let more = further_piece at i from e stick (and_left (is_comment_piece (bytes_at source i)) _ rest) low in
      ap (stretch_text source (none inserts) from first) (let z : n + suc count ≡ suc n + count = omega arith in z)
      ∙ old_head row
      (and_right (not (row_texts row)) _ (and_right (is_comment_piece (bytes_at source i)) _ rest)) first (suc n) (suc at) from
      (let z : suc at ≡ first + suc n = omega (arith, place) in z) (ap suc e)
      (flat_more source first n (suc at) flat (ap suc place) stick.calm) more.low
      ∙ ap (λ (t : List ℕ). lone (t ++ comment_head source row)) more.is
      ∙ ap lone (append_assoc (slice_range (bytes source) from (to_at source at)) (bytes_at source (suc at)) (comment_head source row))
      ∙ ap (λ (m : ℕ). lone (slice_range (bytes source) from (to_at source at) ++ (bytes_at source m ++ comment_head source row))) (sym e)
  old_head (spells.row_insert {i = i} opens inner close row) told first n at from place e flat low =
      let stick = stuck at i e (and_left (adjoins source (i - 1)) _ told) in
      ap (λ (m : ℕ). texts_from source (from_at source (suc (first + m))) from first (suc m)) (let z : n + 0 ≡ n = omega arith in z)
      ∙ flat_text source (from_at source (suc (first + n))) from first (suc n)
      (flat_more source first n (suc at) flat (ap suc place) stick.calm)
      ∙ ap (λ (m : ℕ). lone (slice_range (bytes source) from m)) (ap (λ (m : ℕ). from_at source (suc m)) (sym place) ∙ stick.from)
      ∙ ap lone (sym (append-nil (slice_range (bytes source) from (to_at source at))))

  -- ---- behind the first token, and behind the `}` of a `#{}`

  pub started_text : {i j count : ℕ} {inserts : List Part} {tokens : List Tok}
      (row : SpellsRow source terminals.Piece terminals.Insert 1 (suc i) j inserts count tokens)
      → comment_row source row ≡ true → from_at source i ≤ to_at source i
      → stretch_text source (none inserts) (from_at source i) i count ≡ lone (bytes_at source i ++ comment_head source row)
  started_text {i} {j} {count} {inserts} row told low =
      ap (stretch_text source (none inserts) (from_at source i) i) (let z : count ≡ 0 + count = omega arith in z)
      ∙ old_head row told i 0 i (from_at source i) (let z : i ≡ i + 0 = omega arith in z) refl tt low

  pub started_is : {i k count : ℕ} {inserts : List Part} {tokens : List Tok}
      (row : SpellsRow source terminals.Piece terminals.Insert 1 (suc i) k inserts count tokens)
      → comment_row source row ≡ true → has_inserts inserts ≡ true → from_at source i ≤ to_at source i
      → joined (parts_between source i (suc k) inserts) ≡ bytes_at source i ++ (row_text source row ++ codes "*/")
  started_is {inserts = []} row told some low = absurd (cc)
  started_is {i} {k} {inserts = part ∷ inserts} row told some low =
      mixed_text (pieces_from source (stretch_between source i (suc k)) (part ∷ inserts))
      ∙ joined_row row told i 0 i (from_at source i) (let z : i ≡ i + 0 = omega arith in z) refl tt low _ _
      (ap (to_at source) (let z : suc k - 1 ≡ k = omega arith in z)) (let z : suc k - 1 ≡ k = omega arith in z)

  pub behind_text : {c j count : ℕ} {inserts : List Part} {tokens : List Tok}
      (row : SpellsRow source terminals.Piece terminals.Insert 1 (suc c) j inserts count tokens)
      → comment_row source row ≡ true
      → stretch_text source (none inserts) (to_at source c) c count ≡ lone (comment_head source row)
  behind_text {c} {j} {count} {inserts} row told =
      ap (stretch_text source (none inserts) (to_at source c) c) (let z : count ≡ 0 + count = omega arith in z)
      ∙ old_head row told c 0 c (to_at source c) (let z : c ≡ c + 0 = omega arith in z) refl tt (omega arith)
      ∙ ap (λ (t : List ℕ). lone (t ++ comment_head source row)) (slice_none (bytes source) (to_at source c))
