-- The texts before, between and behind the values of a text without comments, token by token.
use Rattle.std.proofs.Common.{◌≡◌, ◌≤◌, ℕ, suc, ◌+◌, ◌-◌, false, List, [], ◌∷◌, ◌++◌, map, refl, sym, ◌∙◌, ap, arith, append_assoc, append-nil}
use Rattle.std.specs.Prelude.{slice_range}
use Rattle.sw_tree.specs.declared.text.Piece.{Piece}
use Rattle.sw_parse_table.specs.declared.source.Source.{Source}
use Rattle.sw_parse_table.specs.declared.gap.Stretch.{Stretch}
use Rattle.sw_parse_table.specs.Sources.{Texts, begun, bytes, from_at, to_at, bytes_at, is_commented, texts_list, text_pieces, texts, texts_from, up_to, behind}
use Rattle.sw_convert_again.specs.Tokens.{Extent, extent, around}
use Rattle.sw_convert_texts.proofs.JoinedTexts.{slice_more, slice_none, lone, Flat, flat_text, flat_more}

-- what stands before, between and behind values, as single texts
abbrev pub lones : Texts → List Texts
lones cuts = map lone (texts_list cuts)

-- a text, and then a value
abbrev pub cut_before : Texts → Texts
cut_before cuts = record { first = []; rest = texts_list cuts }

module _ (source : Source) where
  abbrev pub around_texts : Stretch → List Extent → List Texts
  around_texts stretch [] = texts source stretch ∷ []
  around_texts stretch (one ∷ extents) =
      texts source (up_to source stretch one.first) ∷ around_texts (behind source stretch one.behind) extents

  pub around_is : (stretch : Stretch) (extents : List Extent)
      → around source stretch extents ≡ map text_pieces (around_texts stretch extents)
  around_is stretch [] = refl
  around_is stretch (one ∷ extents) =
      ap (λ (list : List (List Piece)). text_pieces (texts source (up_to source stretch one.first)) ∷ list)
      (around_is (behind source stretch one.behind) extents)

  -- so they are behind the token at a place, where so many tokens stand between a place `first` and that
  abbrev pub CutFrom : ℕ → ℕ → ℕ → List Extent → Texts → Type 0
  CutFrom to end at extents cuts =
      (first n from : ℕ) → at ≡ first + n → Flat source first n → from ≤ to_at source at
      → around_texts (record { from = from; to = to; first = first; end = end }) extents
      ≡ lones (begun (slice_range (bytes source) from (to_at source at)) cuts)

  -- a token behind the one at a place, with white space before it
  pub record Step (at : ℕ) (gap text : List ℕ) : Type 0 where
    pub calm : is_commented source (suc at) ≡ false
    pub gap_is : slice_range (bytes source) (to_at source at) (from_at source (suc at)) ≡ gap
    pub text_is : bytes_at source (suc at) ≡ text
    pub low : to_at source at ≤ from_at source (suc at)
    pub high : from_at source (suc at) ≤ to_at source (suc at)

  -- what stands behind one, and nothing between
  pub record Beside (at : ℕ) (gap : List ℕ) : Type 0 where
    pub calm : is_commented source (suc at) ≡ false
    pub gap_is : slice_range (bytes source) (to_at source at) (from_at source (suc at)) ≡ gap
    pub low : to_at source at ≤ from_at source (suc at)

  pub cut_end : (to end at : ℕ) → to ≡ to_at source at → end ≡ at → CutFrom to end at [] (lone [])
  unfolding texts
  cut_end to end at to_is end_is first n from place flat low =
      ap (λ (m : ℕ). texts_from source to from first m ∷ []) (let z : end - first ≡ n = omega (arith, end_is, place) in z)
      ∙ ap (λ (t : Texts). t ∷ []) (flat_text source to from first n flat)
      ∙ ap (λ (t : List ℕ). lone t ∷ [])
      (ap (slice_range (bytes source) from) to_is ∙ sym (append-nil (slice_range (bytes source) from (to_at source at))))

  -- one text more before the first
  pub longer : (from at : ℕ) (gap text more : List ℕ) → Step at gap text → from ≤ to_at source at
      → slice_range (bytes source) from (to_at source (suc at)) ++ more
      ≡ slice_range (bytes source) from (to_at source at) ++ (gap ++ (text ++ more))
  longer from at gap text more step low =
      let first = step.low in
      let then = step.high in
      let bs = bytes source in
      ap (λ (t : List ℕ). t ++ more)
      (slice_more bs from (to_at source at) (to_at source (suc at)) low (omega (arith, first, then))
      ∙ ap (λ (t : List ℕ). slice_range bs from (to_at source at) ++ t)
      (slice_more bs (to_at source at) (from_at source (suc at)) (to_at source (suc at)) first then
      ∙ ap (λ (t : List ℕ). t ++ bytes_at source (suc at)) step.gap_is ∙ ap (λ (t : List ℕ). gap ++ t) step.text_is))
      ∙ append_assoc (slice_range bs from (to_at source at)) (gap ++ text) more
      ∙ ap (λ (t : List ℕ). slice_range bs from (to_at source at) ++ t) (append_assoc gap text more)

  pub cut_token : (to end at : ℕ) (gap text : List ℕ) (extents : List Extent) (cuts : Texts) → Step at gap text
      → CutFrom to end (suc at) extents cuts → CutFrom to end at extents (begun gap (begun text cuts))
  cut_token to end at gap text extents cuts step more first n from place flat low =
      let near = step.low in
      let far = step.high in
      more first (suc n) from (let z : suc at ≡ first + suc n = omega (arith, place) in z)
      (flat_more source first n (suc at) flat (ap suc place) step.calm) (omega (arith, low, near, far))
      ∙ ap (λ (t : List ℕ). lone t ∷ map lone cuts.rest) (longer from at gap text cuts.first step low)

  -- and where a `#{` stands
  pub cut_insert : (to end at c : ℕ) (gap : List ℕ) (extents : List Extent) (cuts : Texts) → Beside at gap
      → CutFrom to end c extents cuts → CutFrom to end at (extent (suc at) (suc c) ∷ extents) (begun gap (cut_before cuts))
  unfolding texts
  cut_insert to end at c gap extents cuts beside more first n from place flat low =
      let bs = bytes source in
      let near = beside.low in
      let rest : ℕ → List Texts = λ m. around_texts (record { from = to_at source m; to = to; first = m; end = end }) extents in
      ap (λ (m : ℕ). texts_from source (from_at source (suc at)) from first m ∷ rest (suc c - 1))
      (let z : suc at - first ≡ suc n = omega (arith, place) in z)
      ∙ ap (λ (t : Texts). t ∷ rest (suc c - 1))
      (flat_text source (from_at source (suc at)) from first (suc n)
      (flat_more source first n (suc at) flat (ap suc place) beside.calm))
      ∙ ap (λ (t : List ℕ). lone t ∷ rest (suc c - 1))
      (slice_more bs from (to_at source at) (from_at source (suc at)) low near
      ∙ ap (λ (t : List ℕ). slice_range bs from (to_at source at) ++ t) (beside.gap_is ∙ sym (append-nil gap)))
      ∙ ap (λ (list : List Texts). lone (slice_range bs from (to_at source at) ++ (gap ++ [])) ∷ list)
      (ap rest (let z : suc c - 1 ≡ c = omega arith in z)
      ∙ more c 0 (to_at source c) (let z : c ≡ c + 0 = omega arith in z) tt (omega arith)
      ∙ ap (λ (t : List ℕ). lones (begun t cuts)) (slice_none bs (to_at source c)))

  -- ---- from the first token on

  pub first_token : (to end at : ℕ) (extents : List Extent) (cuts : Texts) → from_at source at ≤ to_at source at
      → CutFrom to end at extents cuts
      → around_texts (record { from = from_at source at; to = to; first = at; end = end }) extents
      ≡ lones (begun (bytes_at source at) cuts)
  first_token to end at extents cuts low more =
      more at 0 (from_at source at) (let z : at ≡ at + 0 = omega arith in z) tt low

  pub first_insert : (to end at c : ℕ) (extents : List Extent) (cuts : Texts) → CutFrom to end c extents cuts
      → around_texts (record { from = from_at source at; to = to; first = at; end = end }) (extent at (suc c) ∷ extents)
      ≡ lones (cut_before cuts)
  unfolding texts
  first_insert to end at c extents cuts more =
      let bs = bytes source in
      let rest : ℕ → List Texts = λ m. around_texts (record { from = to_at source m; to = to; first = m; end = end }) extents in
      ap (λ (m : ℕ). texts_from source (from_at source at) (from_at source at) at m ∷ rest (suc c - 1))
      (let z : at - at ≡ 0 = omega arith in z)
      ∙ ap (λ (t : List ℕ). lone t ∷ rest (suc c - 1)) (slice_none bs (from_at source at))
      ∙ ap (λ (list : List Texts). lone [] ∷ list)
      (ap rest (let z : suc c - 1 ≡ c = omega arith in z)
      ∙ more c 0 (to_at source c) (let z : c ≡ c + 0 = omega arith in z) tt (omega arith)
      ∙ ap (λ (t : List ℕ). lones (begun t cuts)) (slice_none bs (to_at source c)))
