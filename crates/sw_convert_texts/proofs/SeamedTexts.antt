-- What is written of a text without comments in which values stand in `#{}`: it as it stood, with these values.
use Rattle.std.proofs.Common.{◌≡◌, ◌≤◌, ℕ, suc, ◌+◌, ◌-◌, Bool, true, false, List, [], ◌∷◌, ◌++◌, map, refl, sym, ◌∙◌, ap, subst, arith, append_assoc, append-nil}
use Rattle.std.specs.Prelude.{slice_range, codes}
use Rattle.sw_tree.specs.declared.expr.Expr.{Expr}
use Rattle.sw_tree.specs.declared.text.Piece.{Piece}
use Rattle.sw_tree.specs.declared.text.Piece.TheVariants as pieces
use Rattle.sw_parse_table.specs.declared.source.Source.{Source}
use Rattle.sw_parse_table.specs.Parts.{Part, Inserts}
use Rattle.sw_parse_table.specs.Sources.{Texts, bytes, from_at, to_at, text_pieces, texts_from, pieces_from, texts}
use Rattle.sw_convert_written.specs.declared.manner.Manner.TheVariants as manners
use Rattle.sw_convert_written.specs.Pieces.{Written, Said, Inserted, Value, piece_text, pieces_text}
use Rattle.sw_convert_written.specs.Expressions.{piece_written, expr_text}
use Rattle.sw_convert_written.proofs.Unrolled as unrolled
use Rattle.sw_convert_texts.proofs.JoinedTexts.{slice_more, slice_none, lone, Flat, flat_text, flat_more}
use Rattle.sw_convert_texts.proofs.AroundTexts.{Step, Beside, longer}

abbrev pub seamed : List Piece → List ℕ
seamed list = pieces_text manners.Seamed (map piece_written list)

abbrev pub is_loose : List Written → Bool
is_loose [] = true
is_loose (Said text ∷ list) = true
is_loose (Inserted value ∷ list) = true
is_loose (Value value ∷ list) = false

-- no value stands by itself at its begin
abbrev pub no_value : List Piece → Bool
no_value list = is_loose (map piece_written list)

abbrev pub in_insert : Expr → List ℕ → List ℕ
in_insert value rest = codes "#{" ++ (expr_text value ++ (codes "}" ++ rest))

-- ---- pieces

before_next : (value : List ℕ) (list : List Written) → is_loose list ≡ true
    → pieces_text manners.Seamed (Inserted value ∷ list) ≡ codes "#{" ++ (value ++ (codes "}" ++ pieces_text manners.Seamed list))
before_next value [] e = refl
before_next value (Said text ∷ list) e =
    ap (λ (t : List ℕ). codes "#{" ++ t) (append_assoc value (codes "}") (pieces_text manners.Seamed (Said text ∷ list)))
before_next value (Inserted other ∷ list) e =
    ap (λ (t : List ℕ). codes "#{" ++ t) (append_assoc value (codes "}") (pieces_text manners.Seamed (Inserted other ∷ list)))
before_next value (Value other ∷ list) e = absurd (cc)

pub seamed_insert : (value : Expr) (list : List Piece) → no_value list ≡ true
    → seamed (pieces.Inserted value ∷ list) ≡ in_insert value (seamed list)
seamed_insert value list e =
    ap (λ (w : Written). pieces_text manners.Seamed (w ∷ map piece_written list)) (unrolled.inserted_is value)
    ∙ before_next (expr_text value) (map piece_written list) e

pub seamed_said : (text : List ℕ) (value : Expr) (list : List Piece)
    → seamed (text_pieces (lone text) ++ pieces.Inserted value ∷ list) ≡ text ++ seamed (pieces.Inserted value ∷ list)
seamed_said [] value list = refl
seamed_said (b ∷ text) value list =
    let rest = map piece_written list in
    let next = piece_written (pieces.Inserted value) in
    ap (λ (w : Written). pieces_text manners.Seamed (w ∷ next ∷ rest)) (unrolled.said_is (b ∷ text))
    ∙ ap (λ (w : Written). pieces_text manners.Seamed (Said (b ∷ text) ∷ w ∷ rest)) (unrolled.inserted_is value)
    ∙ ap (λ (w : Written). (b ∷ text) ++ pieces_text manners.Seamed (w ∷ rest)) (sym (unrolled.inserted_is value))

pub seamed_last : (text : List ℕ) → seamed (text_pieces (lone text)) ≡ text
seamed_last [] = refl
seamed_last (b ∷ text) = ap (piece_text manners.Seamed) (unrolled.said_is (b ∷ text))

pub text_loose : (text : List ℕ) → no_value (text_pieces (lone text)) ≡ true
text_loose [] = refl
text_loose (b ∷ text) = ap (λ (w : Written). is_loose (w ∷ [])) (unrolled.said_is (b ∷ text))

pub insert_loose : (text : List ℕ) (value : Expr) (list : List Piece)
    → no_value (text_pieces (lone text) ++ pieces.Inserted value ∷ list) ≡ true
insert_loose [] value list = ap (λ (w : Written). is_loose (w ∷ map piece_written list)) (unrolled.inserted_is value)
insert_loose (b ∷ text) value list =
    ap (λ (w : Written). is_loose (w ∷ piece_written (pieces.Inserted value) ∷ map piece_written list)) (unrolled.said_is (b ∷ text))

-- ---- texts

-- pieces that are written as a text
pub record IsSeamed (list : List Piece) (text : List ℕ) : Type 0 where
  pub is : seamed list ≡ text
  pub loose : no_value list ≡ true

module _ (source : Source) where
  -- so it is written from the token at a place on, where so many tokens stand between a place `first` and that
  abbrev pub SeamedFrom : ℕ → ℕ → ℕ → List Part → List ℕ → Type 0
  SeamedFrom to end at parts text =
      (first n from : ℕ) → at ≡ first + n → Flat source first n → from ≤ to_at source at
      → IsSeamed (pieces_from source (record { from = from; to = to; first = first; end = end }) parts)
      (slice_range (bytes source) from (to_at source at) ++ text)

  pub seamed_end : (to end at : ℕ) → to ≡ to_at source at → end ≡ at → SeamedFrom to end at [] []
  unfolding texts
  seamed_end to end at to_is end_is first n from place flat low =
      let same = ap (λ (m : ℕ). texts_from source to from first m) (let z : end - first ≡ n = omega (arith, end_is, place) in z)
      ∙ flat_text source to from first n flat
      ∙ ap lone (ap (slice_range (bytes source) from) to_is ∙ sym (append-nil (slice_range (bytes source) from (to_at source at)))) in
      record {
        is = ap (λ (t : Texts). seamed (text_pieces t)) same ∙ seamed_last _;
        loose = ap (λ (t : Texts). no_value (text_pieces t)) same ∙ text_loose _;
      }

  pub seamed_token : (to end at : ℕ) (gap own : List ℕ) (parts : List Part) (text : List ℕ) → Step source at gap own
      → SeamedFrom to end (suc at) parts text → SeamedFrom to end at parts (gap ++ (own ++ text))
  seamed_token to end at gap own parts text step more first n from place flat low =
      let near = step.low in
      let far = step.high in
      subst (IsSeamed (pieces_from source (record { from = from; to = to; first = first; end = end }) parts))
      (longer source from at gap own text step low)
      (more first (suc n) from (let z : suc at ≡ first + suc n = omega (arith, place) in z)
      (flat_more source first n (suc at) flat (ap suc place) step.calm) (omega (arith, low, near, far)))

  pub seamed_value : (to end at c : ℕ) (gap : List ℕ) (value : Expr) (parts : List Part) (text : List ℕ)
      → Beside source at gap → SeamedFrom to end c parts text
      → SeamedFrom to end at (Inserts (suc at) (suc c) value ∷ parts) (gap ++ in_insert value text)
  unfolding texts
  seamed_value to end at c gap value parts text beside more first n from place flat low =
      let bs = bytes source in
      let near = beside.low in
      let list : ℕ → List Piece = λ m. pieces_from source (record { from = to_at source m; to = to; first = m; end = end }) parts in
      let behind : IsSeamed (list c) (slice_range bs (to_at source c) (to_at source c) ++ text) =
      more c 0 (to_at source c) (let z : c ≡ c + 0 = omega arith in z) tt (omega arith) in
      let here : suc c - 1 ≡ c = omega arith in
      let front = slice_range bs from (to_at source at) in
      let same = ap (λ (m : ℕ). texts_from source (from_at source (suc at)) from first m) (let z : suc at - first ≡ suc n = omega (arith, place) in z)
      ∙ flat_text source (from_at source (suc at)) from first (suc n) (flat_more source first n (suc at) flat (ap suc place) beside.calm)
      ∙ ap lone (slice_more bs from (to_at source at) (from_at source (suc at)) low near ∙ ap (λ (t : List ℕ). front ++ t) beside.gap_is) in
      record {
        is = ap (λ (t : Texts). seamed (text_pieces t ++ pieces.Inserted value ∷ list (suc c - 1))) same
            ∙ ap (λ (m : ℕ). seamed (text_pieces (lone (front ++ gap)) ++ pieces.Inserted value ∷ list m)) here
            ∙ seamed_said (front ++ gap) value (list c)
            ∙ ap (λ (t : List ℕ). (front ++ gap) ++ t)
            (seamed_insert value (list c) behind.loose
            ∙ ap (in_insert value) (behind.is ∙ ap (λ (t : List ℕ). t ++ text) (slice_none bs (to_at source c))))
            ∙ append_assoc front gap (in_insert value text);
        loose = ap (λ (t : Texts). no_value (text_pieces t ++ pieces.Inserted value ∷ list (suc c - 1))) same
            ∙ insert_loose (front ++ gap) value (list (suc c - 1));
      }

  -- ---- from the first token on

  pub seamed_first : (to end at : ℕ) (parts : List Part) (text : List ℕ) → from_at source at ≤ to_at source at
      → SeamedFrom to end at parts text
      → IsSeamed (pieces_from source (record { from = from_at source at; to = to; first = at; end = end }) parts)
      (slice_range (bytes source) (from_at source at) (to_at source at) ++ text)
  seamed_first to end at parts text low more =
      more at 0 (from_at source at) (let z : at ≡ at + 0 = omega arith in z) tt low

  pub value_first : (to end at c : ℕ) (value : Expr) (parts : List Part) (text : List ℕ) → SeamedFrom to end c parts text
      → IsSeamed
      (pieces_from source (record { from = from_at source at; to = to; first = at; end = end }) (Inserts at (suc c) value ∷ parts))
      (in_insert value text)
  unfolding texts
  value_first to end at c value parts text more =
      let bs = bytes source in
      let list : ℕ → List Piece = λ m. pieces_from source (record { from = to_at source m; to = to; first = m; end = end }) parts in
      let behind : IsSeamed (list c) (slice_range bs (to_at source c) (to_at source c) ++ text) =
      more c 0 (to_at source c) (let z : c ≡ c + 0 = omega arith in z) tt (omega arith) in
      let here : suc c - 1 ≡ c = omega arith in
      let same = ap (λ (m : ℕ). texts_from source (from_at source at) (from_at source at) at m) (let z : at - at ≡ 0 = omega arith in z)
      ∙ ap lone (slice_none bs (from_at source at)) in
      record {
        is = ap (λ (t : Texts). seamed (text_pieces t ++ pieces.Inserted value ∷ list (suc c - 1))) same
            ∙ ap (λ (m : ℕ). seamed (pieces.Inserted value ∷ list m)) here
            ∙ seamed_insert value (list c) behind.loose
            ∙ ap (in_insert value) (behind.is ∙ ap (λ (t : List ℕ). t ++ text) (slice_none bs (to_at source c)));
        loose = ap (λ (t : Texts). no_value (text_pieces t ++ pieces.Inserted value ∷ list (suc c - 1))) same
            ∙ insert_loose [] value (list (suc c - 1));
      }
