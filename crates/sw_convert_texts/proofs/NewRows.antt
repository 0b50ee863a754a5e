-- Tokens that are written directly behind each other: what is told of their text where they stand.
use Rattle.std.proofs.Common.{◌≡◌, ℕ, suc, ◌+◌, Bool, true, false, List, [], ◌∷◌, ◌++◌, length, refl, sym, ◌∙◌, ap, arith, append_assoc, append-nil, length-append}
use Rattle.std.specs.Prelude.{slice_range}
use Rattle.sw_parse_table.specs.declared.source.Source.{Source}
use Rattle.sw_parse_table.specs.Sources.{bytes, from_in, to_in, from_at, to_at, commented_in, is_commented, texts_from}
use Rattle.sw_convert_again.specs.Tokens.{Says}
use Rattle.sw_convert_tokens.specs.Joints.{Seen, Joint, Token, text, Sits, Sit}
use Rattle.sw_convert_tokens.proofs.Laid.{range_behind}
use Rattle.sw_convert_texts.proofs.JoinedTexts.{lone, Flat, flat_text, flat_more}
use Rattle.sw_convert_texts.proofs.Stretches.{stretch_text, said_start, said_behind, says_start, says_behind}

-- so many tokens with nothing between them, and then the end or one more; with the text of the first
pub data HeadRun : Bool → ℕ → List Joint → List ℕ → Type 0 where
  run_end : HeadRun true 0 [] []
  run_more : {seen : Seen} {joints : List Joint} → seen.gap ≡ [] → HeadRun false 0 (Token seen ∷ joints) []
  run_token : {last : Bool} {count : ℕ} {seen : Seen} {joints : List Joint} {head : List ℕ} → seen.gap ≡ []
      → HeadRun last count joints head → HeadRun last (suc count) (Token seen ∷ joints) (seen.bytes ++ head)

-- the text of all of them begins with it
record Begins (joints : List Joint) (head : List ℕ) : Type 0 where
  rest : List ℕ
  is : text joints ≡ head ++ rest

begins : {last : Bool} {count : ℕ} {joints : List Joint} {head : List ℕ} → HeadRun last count joints head
    → Begins joints head
begins run_end = record { rest = []; is = refl }
begins (run_more {seen = seen} {joints = joints} gap) = record { rest = text (Token seen ∷ joints); is = refl }
begins (run_token {seen = seen} {joints = joints} {head = head} gap run) =
    let more = begins run in record {
      rest = more.rest;
      is = ap (λ (t : List ℕ). t ++ (seen.bytes ++ text joints)) gap
          ∙ ap (λ (t : List ℕ). seen.bytes ++ t) more.is ∙ sym (append_assoc seen.bytes head more.rest);
    }

module _ (new : Source) where
  -- where a token sits
  record There (at : ℕ) (front bytes_ : List ℕ) : Type 0 where
    from : from_at new at ≡ length front
    to : to_at new at ≡ length front + length bytes_

  there_is : (commented : Bool) (at : ℕ) (front : List ℕ) (seen : Seen) (rest : List ℕ) → Sits new commented at front seen rest
      → There at front seen.bytes
  unfolding from_at to_at
  there_is commented at front seen rest sits = record {
    from = ap (from_in new) sits.there ∙ sits.from;
    to = ap (to_in new) sits.there ∙ sits.to;
  }

  calm_is : (at : ℕ) (front : List ℕ) (seen : Seen) (rest : List ℕ) → Sits new false at front seen rest
      → is_commented new at ≡ false
  unfolding is_commented
  calm_is at front seen rest sits = ap (commented_in new) sits.there ∙ sits.commented_is

  no_gap : (front gap : List ℕ) → gap ≡ [] → front ++ gap ≡ front
  no_gap front gap e = ap (λ (t : List ℕ). front ++ t) e ∙ append-nil front

  -- the tokens behind one at a place, where so many stand between a place `first` and that
  head_there : {last : Bool} {count : ℕ} {joints : List Joint} {head : List ℕ} → HeadRun last count joints head
      → (first n at from : ℕ) (front after : List ℕ) → at ≡ first + n → Flat new first n → to_at new at ≡ length front
      → Sit new false (suc at) front joints after
      → stretch_text new last from first (n + count) ≡ lone (slice_range (bytes new) from (length front + length head))
  head_there run_end first n at from front after place flat end sit =
      ap (λ (m : ℕ). texts_from new (to_at new (first + m)) from first m) (let z : n + 0 ≡ n = omega arith in z)
      ∙ flat_text new (to_at new (first + n)) from first n flat
      ∙ ap (λ (m : ℕ). lone (slice_range (bytes new) from m))
      (ap (to_at new) (sym place) ∙ end ∙ (let z : length front ≡ length front + 0 = omega arith in z))
  head_there (run_more {seen = seen} {joints = joints} gap) first n at from front after place flat end (sits, sit) =
      let there = there_is false (suc at) (front ++ seen.gap) seen (text joints ++ after) sits in
      let calm = calm_is (suc at) (front ++ seen.gap) seen (text joints ++ after) sits in
      ap (λ (m : ℕ). texts_from new (from_at new (suc (first + m))) from first (suc m)) (let z : n + 0 ≡ n = omega arith in z)
      ∙ flat_text new (from_at new (suc (first + n))) from first (suc n)
      (flat_more new first n (suc at) flat (ap suc place) calm)
      ∙ ap (λ (m : ℕ). lone (slice_range (bytes new) from m))
      (ap (λ (m : ℕ). from_at new (suc m)) (sym place) ∙ there.from ∙ ap length (no_gap front seen.gap gap)
      ∙ (let z : length front ≡ length front + 0 = omega arith in z))
  head_there (run_token {last = last} {count = count} {seen = seen} {joints = joints} {head = head} gap run) first n at
      from front after place flat end (sits, sit) =
      let there = there_is false (suc at) (front ++ seen.gap) seen (text joints ++ after) sits in
      let calm = calm_is (suc at) (front ++ seen.gap) seen (text joints ++ after) sits in
      let ends = there.to in
      let one = length-append (front ++ seen.gap) seen.bytes in
      let all = length-append seen.bytes head in
      let plain = ap length (no_gap front seen.gap gap) in
      ap (stretch_text new last from first) (let z : n + suc count ≡ suc n + count = omega arith in z)
      ∙ head_there run first (suc n) (suc at) from ((front ++ seen.gap) ++ seen.bytes) after
      (let z : suc at ≡ first + suc n = omega (arith, place) in z)
      (flat_more new first n (suc at) flat (ap suc place) calm) (ends ∙ sym one) sit
      ∙ ap (λ (m : ℕ). lone (slice_range (bytes new) from m))
      (let z : length ((front ++ seen.gap) ++ seen.bytes) + length head ≡ length front + length (seen.bytes ++ head) = omega (arith, one, all, plain) in z)

  -- ---- what is said

  -- of a text that begins with a token
  pub says_first : {last : Bool} {count : ℕ} {joints : List Joint} {head : List ℕ} → HeadRun last count joints head
      → (first : Seen) (commented : Bool) (at : ℕ) (front after : List ℕ)
      → Sit new commented at front (Token first ∷ joints) after
      → Says new at (said_start last count (lone (first.bytes ++ head)))
  says_first {last} {count} {joints} {head} run first commented at front after (sits, sit) =
      let there = there_is commented at (front ++ first.gap) first (text joints ++ after) sits in
      let more = begins run in
      let begin = front ++ first.gap in
      let long = length-append begin first.bytes in
      let both = length-append first.bytes head in
      says_start new at count last (lone (first.bytes ++ head))
      (ap (stretch_text new last (from_at new at) at) (let z : count ≡ 0 + count = omega arith in z)
      ∙ head_there run at 0 at (from_at new at) (begin ++ first.bytes) after (let z : at ≡ at + 0 = omega arith in z) tt (there.to ∙ sym long) sit
      ∙ ap (λ (m : ℕ). lone (slice_range (bytes new) m (length (begin ++ first.bytes) + length head))) there.from
      ∙ ap (λ (m : ℕ). lone (slice_range (bytes new) (length begin) m))
      (let z : length (begin ++ first.bytes) + length head ≡ length begin + length (first.bytes ++ head) = omega (arith, long, both) in z)
      ∙ ap (λ (t : List ℕ). lone (slice_range t (length begin) (length begin + length (first.bytes ++ head))))
      (sits.text_is
      ∙ ap (λ (t : List ℕ). begin ++ (first.bytes ++ (t ++ after))) more.is
      ∙ ap (λ (t : List ℕ). begin ++ (first.bytes ++ t)) (append_assoc head more.rest after)
      ∙ ap (λ (t : List ℕ). begin ++ t) (sym (append_assoc first.bytes head (more.rest ++ after))))
      ∙ ap lone (range_behind begin (first.bytes ++ head) (more.rest ++ after)))

  -- of a text that stands behind a token
  pub says_next : {last : Bool} {count : ℕ} {joints : List Joint} {head : List ℕ} → HeadRun last count joints head
      → (first : Seen) (commented : Bool) (at : ℕ) (front after : List ℕ)
      → Sit new commented at front (Token first ∷ joints) after
      → Says new at (said_behind last count (lone head))
  says_next {last} {count} {joints} {head} run first commented at front after (sits, sit) =
      let there = there_is commented at (front ++ first.gap) first (text joints ++ after) sits in
      let more = begins run in
      let begin = (front ++ first.gap) ++ first.bytes in
      let long = length-append (front ++ first.gap) first.bytes in
      says_behind new at count last (lone head)
      (ap (stretch_text new last (to_at new at) at) (let z : count ≡ 0 + count = omega arith in z)
      ∙ head_there run at 0 at (to_at new at) begin after (let z : at ≡ at + 0 = omega arith in z) tt (there.to ∙ sym long) sit
      ∙ ap (λ (m : ℕ). lone (slice_range (bytes new) m (length begin + length head))) (there.to ∙ sym long)
      ∙ ap (λ (t : List ℕ). lone (slice_range t (length begin) (length begin + length head)))
      (sits.text_is
      ∙ ap (λ (t : List ℕ). (front ++ first.gap) ++ (first.bytes ++ (t ++ after))) more.is
      ∙ sym (append_assoc (front ++ first.gap) first.bytes ((head ++ more.rest) ++ after))
      ∙ ap (λ (t : List ℕ). begin ++ t) (append_assoc head more.rest after))
      ∙ ap lone (range_behind begin head (more.rest ++ after)))
