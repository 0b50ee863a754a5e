-- Where a comment with white space beside it stands before a token, the texts around values have the white space alone.
use Rattle.std.proofs.Common.{◌≡◌, ◌≤◌, ℕ, zero, suc, ◌+◌, ◌-◌, Bool, true, false, List, [], ◌∷◌, ◌++◌, map, refl, sym, ◌∙◌, ap, arith, append_assoc}
use Rattle.std.specs.Prelude.{slice_range}
use Rattle.sw_text_scan.proofs.Bounds.{if_true, if_false}
use Rattle.sw_tree.specs.declared.text.Piece.{Piece}
use Rattle.sw_tree.specs.declared.text.Piece.TheVariants as pieces
use Rattle.sw_parse_table.specs.declared.source.Source.{Source}
use Rattle.sw_parse_table.specs.declared.gap.Stretch.{Stretch}
use Rattle.sw_parse_table.specs.Parts.{Part, Inserts}
use Rattle.sw_parse_table.specs.Sources.{Texts, begun, cut, bytes, from_at, to_at, is_commented, gap_at, text_pieces, texts, texts_from, pieces_from, up_to, behind}
use Rattle.sw_convert_again.specs.Tokens.{Extent}
use Rattle.sw_convert_again.specs.Spells.{extents_of}
use Rattle.sw_convert_texts.specs.RawKinds.{is_some}
use Rattle.sw_convert_texts.proofs.JoinedTexts.{lone, Flat}
use Rattle.sw_convert_texts.proofs.AroundTexts.{lones, around_texts, CutFrom}
use Rattle.sw_convert_texts.proofs.SeamedTexts.{seamed, no_value, seamed_said, seamed_last, text_loose, insert_loose, IsSeamed, SeamedFrom}

-- where the first value stands, or the end
abbrev pub first_of : ℕ → List Extent → ℕ
first_of end [] = end
first_of end (one ∷ extents) = one.first

-- a value in `#{}` comes first, or none
abbrev pub begins_insert : List Part → Bool
begins_insert [] = true
begins_insert (Inserts i j value ∷ parts) = true
begins_insert _ = false

-- a text more before the first one
abbrev begun_first : List ℕ → List Texts → List Texts
begun_first text [] = []
begun_first text (one ∷ list) = begun text one ∷ list

abbrev head_of : Texts → List Texts → Texts
head_of default [] = default
head_of default (one ∷ list) = one

module _ (source : Source) where
  -- over tokens before which no comment stands
  flat_then : (to from at n m : ℕ) → Flat source at n → texts_from source to from at (n + m) ≡ texts_from source to from (at + n) m
  flat_then to from at zero m f =
      ap (texts_from source to from at) (let z : 0 + m ≡ m = omega arith in z)
      ∙ ap (λ (k : ℕ). texts_from source to from k m) (let z : at ≡ at + 0 = omega arith in z)
  flat_then to from at (suc n) m (c, f) =
      ap (texts_from source to from at) (let z : suc n + m ≡ suc (n + m) = omega arith in z)
      ∙ if_false (is_commented source (at + 1)) _ _ c
      ∙ ap (λ (k : ℕ). texts_from source to k (at + 1) (n + m)) (if_false (is_commented source (at + 1)) _ _ c)
      ∙ flat_then to from (at + 1) n m f
      ∙ ap (λ (k : ℕ). texts_from source to from k m) (let z : (at + 1) + n ≡ at + suc n = omega arith in z)

  -- a comment stands before the token behind the one at a place, and this white space beside it
  pub record Parted (at : ℕ) (gap : List ℕ) : Type 0 where
    pub commented : is_commented source (suc at) ≡ true
    pub gap_is : gap_at source (suc at) ≡ gap
    pub some : is_some gap ≡ true

  cut_some : (text gap : List ℕ) (more : Texts) → is_some gap ≡ true → cut text gap more ≡ begun (text ++ gap) more
  cut_some text [] more e = absurd (cc)
  cut_some text (b ∷ gap) more e = refl

  module _ (at : ℕ) (gap : List ℕ) (parted : Parted at gap) where
    -- over the token behind the comment
    parted_step : (to from m : ℕ) → texts_from source to from at (suc m)
        ≡ begun (slice_range (bytes source) from (to_at source at) ++ gap) (texts_from source to (from_at source (suc at)) (suc at) m)
    parted_step to from m =
        let here : at + 1 ≡ suc at = omega arith in
        let commented : is_commented source (at + 1) ≡ true = ap (is_commented source) here ∙ parted.commented in
        if_true (is_commented source (at + 1)) _ _ commented
        ∙ ap (λ (k : ℕ). cut (slice_range (bytes source) from (to_at source ((at + 1) - 1))) (gap_at source (at + 1)) (texts_from source to k (at + 1) m))
        (if_true (is_commented source (at + 1)) _ _ commented)
        ∙ ap (λ (k : ℕ). cut (slice_range (bytes source) from (to_at source (k - 1))) (gap_at source k) (texts_from source to (from_at source k) k m)) here
        ∙ ap (λ (k : ℕ). cut (slice_range (bytes source) from (to_at source k)) (gap_at source (suc at)) (texts_from source to (from_at source (suc at)) (suc at) m))
        (let z : suc at - 1 ≡ at = omega arith in z)
        ∙ ap (λ (t : List ℕ). cut (slice_range (bytes source) from (to_at source at)) t (texts_from source to (from_at source (suc at)) (suc at) m)) parted.gap_is
        ∙ cut_some _ gap _ parted.some

    abbrev beyond : ℕ → ℕ → Stretch
    beyond to end = record { from = from_at source (suc at); to = to; first = suc at; end = end }

    module _ (first n from : ℕ) (place : at ≡ first + n) (flat : Flat source first n) where
      abbrev front : List ℕ
      front = slice_range (bytes source) from (to_at source at) ++ gap

      -- the text up to a place behind it
      parted_head : (to end : ℕ) → suc at ≤ end
          → texts source (record { from = from; to = to; first = first; end = end }) ≡ begun front (texts source (beyond to end))
      unfolding texts
      parted_head to end ahead =
          ap (texts_from source to from first) (let z : end - first ≡ n + suc (end - suc at) = omega (arith, place, ahead) in z)
          ∙ flat_then to from first n (suc (end - suc at)) flat
          ∙ ap (λ (k : ℕ). texts_from source to from k (suc (end - suc at))) (sym place)
          ∙ parted_step to from (end - suc at)

      parted_around : (to end : ℕ) (extents : List Extent) → suc at ≤ first_of end extents
          → around_texts source (record { from = from; to = to; first = first; end = end }) extents
          ≡ begun_first front (around_texts source (beyond to end) extents)
      parted_around to end [] ahead = ap (λ (t : Texts). t ∷ []) (parted_head to end ahead)
      parted_around to end (one ∷ extents) ahead =
          ap (λ (t : Texts). t ∷ around_texts source (behind source (beyond to end) one.behind) extents)
          (parted_head (from_at source one.first) one.first ahead)

    -- the texts around values
    pub cut_parted : (to end : ℕ) (extents : List Extent) (cuts : Texts) → suc at ≤ first_of end extents
        → around_texts source (beyond to end) extents ≡ lones cuts → CutFrom source to end at extents (begun gap cuts)
    cut_parted to end extents cuts ahead there first n from place flat low =
        parted_around first n from place flat to end extents ahead
        ∙ ap (begun_first (front first n from place flat)) there
        ∙ ap (λ (t : List ℕ). lone t ∷ map lone cuts.rest) (append_assoc (slice_range (bytes source) from (to_at source at)) gap cuts.first)

    -- what is written of them
    pub seamed_parted : (to end : ℕ) (parts : List Part) (cuts : Texts) (text : List ℕ) → begins_insert parts ≡ true
        → suc at ≤ first_of end (extents_of parts) → around_texts source (beyond to end) (extents_of parts) ≡ lones cuts
        → IsSeamed (pieces_from source (beyond to end) parts) text → SeamedFrom source to end at parts (gap ++ text)
    seamed_parted to end [] cuts text inserts ahead there it first n from place flat low =
        let own = slice_range (bytes source) from (to_at source at) in
        let lone_is : texts source (beyond to end) ≡ lone cuts.first = ap (head_of (lone [])) there in
        let same : texts source (record { from = from; to = to; first = first; end = end }) ≡ lone ((own ++ gap) ++ cuts.first) =
        parted_head first n from place flat to end ahead ∙ ap (begun (own ++ gap)) lone_is in
        let rest : cuts.first ≡ text =
        sym (seamed_last cuts.first) ∙ ap (λ (t : Texts). seamed (text_pieces t)) (sym lone_is) ∙ it.is in record {
          is = ap (λ (t : Texts). seamed (text_pieces t)) same ∙ seamed_last _
              ∙ append_assoc own gap cuts.first ∙ ap (λ (t : List ℕ). own ++ (gap ++ t)) rest;
          loose = ap (λ (t : Texts). no_value (text_pieces t)) same ∙ text_loose _;
        }
    seamed_parted to end (Inserts i j value ∷ parts) cuts text inserts ahead there it first n from place flat low =
        let own = slice_range (bytes source) from (to_at source at) in
        let list : List Piece = pieces_from source (behind source (beyond to end) j) parts in
        let lone_is : texts source (up_to source (beyond to end) i) ≡ lone cuts.first = ap (head_of (lone [])) there in
        let same : texts source (record { from = from; to = from_at source i; first = first; end = i }) ≡ lone ((own ++ gap) ++ cuts.first) =
        parted_head first n from place flat (from_at source i) i ahead ∙ ap (begun (own ++ gap)) lone_is in
        let rest : cuts.first ++ seamed (pieces.Inserted value ∷ list) ≡ text =
        sym (seamed_said cuts.first value list)
        ∙ ap (λ (t : Texts). seamed (text_pieces t ++ pieces.Inserted value ∷ list)) (sym lone_is) ∙ it.is in record {
          is = ap (λ (t : Texts). seamed (text_pieces t ++ pieces.Inserted value ∷ list)) same
              ∙ seamed_said ((own ++ gap) ++ cuts.first) value list
              ∙ append_assoc (own ++ gap) cuts.first (seamed (pieces.Inserted value ∷ list))
              ∙ append_assoc own gap (cuts.first ++ seamed (pieces.Inserted value ∷ list))
              ∙ ap (λ (t : List ℕ). own ++ (gap ++ t)) rest;
          loose = ap (λ (t : Texts). no_value (text_pieces t ++ pieces.Inserted value ∷ list)) same
              ∙ insert_loose ((own ++ gap) ++ cuts.first) value list;
        }
    seamed_parted to end (part ∷ parts) cuts text inserts ahead there it first n from place flat low = absurd (cc)
