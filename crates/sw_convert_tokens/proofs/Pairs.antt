-- Two tokens that stand side by side and keep one text.
use Rattle.std.proofs.Common.{◌≡◌, ◌<◌, ℕ, suc, ◌+◌, ◌-◌, Bool, true, false, List, [], ◌∷◌, ◌++◌, length, Option, Some, append-nil, append_assoc, length-append, refl, sym, ◌∙◌, ap, subst, arith}
use Rattle.std.specs.Prelude.{slice_range}
use Rattle.sw_text_scan.specs.Bytes.{byte, is_white}
use Rattle.sw_tokens.specs.declared.pieces.Before.{Before}
use Rattle.sw_tokens.specs.declared.pieces.Change.TheVariants as changes
use Rattle.sw_tokens.specs.declared.skips.Inside.{Inside}
use Rattle.sw_tokens.specs.declared.token.TokenKind.{TokenKind}
use Rattle.sw_tokens.specs.Ends.{opens}
use Rattle.sw_tokens.specs.Pieces.{made, piece}
use Rattle.sw_tokens.specs.Tokens.{before_of, is_spaced}
use Rattle.sw_parse_terminals.specs.declared.lexeme.Lexeme.{Lexeme}
use Rattle.sw_parse_terminals.specs.declared.terminal.Terminal.{Terminal}
use Rattle.sw_parse_lexemes.specs.Classes.{is_comment}
use Rattle.sw_parse_lexemes.specs.Sorts.{sort_of}
use Rattle.sw_parse_table.specs.declared.source.Source.{Source}
use Rattle.sw_parse_table.specs.Sources.{bytes, from_in, to_in, from_at, to_at, bytes_between}
use Rattle.sw_convert_spelling.specs.Spelt.{behind_gap, innermost, is_sheet_code}
use Rattle.sw_convert_again.specs.Tokens.{Said, Nothing, Says}
use Rattle.sw_convert_tokens.specs.Joints.{Seen, Token, Segment, Sits}
use Rattle.sw_convert_tokens.specs.Written.{gap_of}
use Rattle.sw_convert_tokens.proofs.Signs.{gap_is}
use Rattle.sw_convert_tokens.proofs.Laid.{range_behind}
use Rattle.sw_convert_tokens.proofs.Loud.{seen_by}

-- their text
pub pair_sits : (source : Source) (c d : Bool) (at : ℕ) (front : List ℕ) (one two : Seen) (rest more : List ℕ)
    → two.gap ≡ [] → rest ≡ two.bytes ++ more → Sits source c at front one rest
    → Sits source d (suc at) (front ++ one.bytes) two more
    → bytes_between source at (suc (suc at)) ≡ one.bytes ++ two.bytes
unfolding from_at to_at
pair_sits source c d at front one two rest more direct rest_is a b =
    ap (λ (k : ℕ). slice_range (bytes source) (from_at source at) (to_at source k)) (let z : suc (suc at) - 1 ≡ suc at = omega arith in z)
    ∙ ap (λ (l : Option Lexeme). slice_range (bytes source) (from_in source l) (to_at source (suc at))) a.there
    ∙ ap (λ (l : Option Lexeme). slice_range (bytes source) a.lexeme.from (to_in source l)) b.there
    ∙ ap (λ (n : ℕ). slice_range (bytes source) n b.lexeme.to) a.from
    ∙ ap (λ (n : ℕ). slice_range (bytes source) (length front) n)
    (b.to ∙ (let e = length-append front one.bytes in
    let f = length-append one.bytes two.bytes in
    let z : length (front ++ one.bytes) + length two.bytes ≡ length front + length (one.bytes ++ two.bytes) = omega (arith, e, f) in z))
    ∙ ap (λ (t : List ℕ). slice_range t (length front) (length front + length (one.bytes ++ two.bytes)))
    (a.text_is ∙ ap (λ (t : List ℕ). front ++ (one.bytes ++ t)) rest_is
    ∙ ap (λ (t : List ℕ). front ++ t) (sym (append_assoc one.bytes two.bytes more)))
    ∙ range_behind front (one.bytes ++ two.bytes) more

module _ (k l : TokenKind) (xs ys : List ℕ) (ts us : List Terminal) (said : Said) (before : Before) (spaced : Bool)
    (P : List ℕ → Type 0) where
  abbrev one : Seen
  one = record {
    gap = gap_of spaced;
    kind = k;
    bytes = xs;
    change = changes.Keep;
    spaced = is_spaced (behind_gap before (gap_of spaced));
    may_be = ts;
    said = said;
  }

  abbrev two : Seen
  two = record {
    gap = [];
    kind = l;
    bytes = ys;
    change = changes.Keep;
    spaced = is_spaced (before_of (Some k));
    may_be = us;
    said = Nothing;
  }

  pub pair_segment : opens k ≡ false → opens l ≡ false → is_comment (sort_of k xs) ≡ false
      → is_comment (sort_of l ys) ≡ false → is_white (byte xs 0) ≡ false → 0 < length xs → 0 < length ys
      → ((source : Source) (at : ℕ) → bytes_between source at (suc (suc at)) ≡ xs ++ ys → Says source at said)
      → ((inside : Inside) (after : List ℕ) → is_sheet_code inside ≡ true → P after
      → piece (xs ++ (ys ++ after)) inside (behind_gap before (gap_of spaced)) 0 ≡ made k (length xs) changes.Keep)
      → ((inside : Inside) (after : List ℕ) → is_sheet_code inside ≡ true → P after
      → piece (ys ++ after) inside (before_of (Some k)) 0 ≡ made l (length ys) changes.Keep)
      → Segment before (gap_of spaced ++ (xs ++ ys)) (record { kinds = ts; said = said } ∷ record { kinds = us; said = Nothing } ∷ [])
      (record { sort = sort_of k xs; spaced = is_spaced (behind_gap before (gap_of spaced)); may_be = ts }
      ∷ record { sort = sort_of l ys; spaced = is_spaced (before_of (Some k)); may_be = us } ∷ [])
      (before_of (Some l)) P
  pair_segment closed_one closed_two seen_one seen_two black some_one some_two tells token_one token_two = record {
    joints = Token one ∷ Token two ∷ [];
    spelling = ap (λ (t : List ℕ). gap_of spaced ++ (xs ++ t)) (append-nil ys);
    seen = refl;
    written = refl;
    last = refl;
    tells = (
      λ source commented at front after sit.
          tells source at
          (pair_sits source commented false at (front ++ gap_of spaced) one two ((ys ++ []) ++ after) after refl
          (ap (λ (t : List ℕ). t ++ after) (append-nil ys)) sit.0
          (subst (λ (f : List ℕ). Sits source false (suc at) f two after) (append-nil ((front ++ gap_of spaced) ++ xs)) sit.1.0)),
      (λ source commented at front after sit. tt, tt),
    );
    stand = λ stack after code ok. (
      gap_is (innermost stack) spaced xs code black,
      some_one,
      (refl, seen_by (sort_of k xs) ts seen_one),
      λ e. absurd (wrong closed_one e),
      subst (λ (t : List ℕ). piece (xs ++ (t ++ after)) (innermost stack) (behind_gap before (gap_of spaced)) 0 ≡ made k (length xs) changes.Keep)
          (sym (append-nil ys)) (token_one (innermost stack) after code ok),
      (
        refl,
        some_two,
        (refl, seen_by (sort_of l ys) us seen_two),
        λ e. absurd (wrong closed_two e),
        token_two (innermost stack) after code ok,
        refl,
      ),
    );
  }
    where
      wrong : {t : Bool} → t ≡ false → t ≡ true → ⊥
      wrong e f = cc
