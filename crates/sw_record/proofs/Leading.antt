-- Questions that lead the world on.
use Rattle.std.proofs.Common.{◌≡◌, ℕ, ◌+◌, ◌-◌, ◌<◌, ◌≤◌, List, [], ◌∷◌, ◌++◌, length, get_or, drop, refl, subst, arith, slice_range, slice_get, Some}
use Rattle.std.proofs.lemmas.List.{take_more, get_or-drop, length-drop}
use Rattle.std.proofs.lemmas.Option.{get_or_from_slice_get, slice_get_within}
use Rattle.sw_world.specs.declared.question.Question.{Question}
use Rattle.sw_world.specs.declared.answer.Answer.{Answer}
use Rattle.sw_world.specs.Questions.{IsLoad}
use Rattle.sw_world.specs.Body.{Pair, Leads}
use Rattle.sw_record.specs.Replay.{AskedAgain}

-- one more question
pub leads_more : {W : Type 0} (gives : W → Question → Answer → W → Type 0) (w : W) (ps : List Pair) (p : Pair) (mid after : W)
    → Leads gives w ps mid → (IsLoad p.0 → ⊥) → gives mid p.0 p.1 after → Leads gives w (ps ++ p ∷ []) after
leads_more {W} gives w [] p mid after led plain given =
    let from_w : gives w p.0 p.1 after = subst (λ (m : W). gives m p.0 p.1 after) led given in
    (plain, (after, from_w, refl))
leads_more gives w (q ∷ qs) p mid after led plain given =
    (led.0, (led.1.0, led.1.1, leads_more gives led.1.0 qs p mid after led.1.2 plain given))

-- the range up to the next place
pub range_more : (xs : List Pair) (from at : ℕ) (x : Pair) → from ≤ at → slice_get xs at ≡ Some x → slice_range xs from (at + 1) ≡ slice_range xs from at ++ x ∷ []
range_more xs from at x le here =
    let within : at < length xs = slice_get_within xs at x here in
    let inside : at - from < length (drop from xs) = rw length-drop (omega arith) in
    let e : (at + 1) - from ≡ (at - from) + 1 = omega arith in
    let same : from + (at - from) ≡ at = omega arith in
    let read : get_or (drop from xs) (at - from) x ≡ x = rw (get_or-drop, same) (get_or_from_slice_get xs at x x here) in
    rw (e, take_more (drop from xs) (at - from) x inside, read)

pub asked_more : {W : Type 0} (gives : W → Question → Answer → W → Type 0) (xs : List Pair) (from at : ℕ) (x : Pair) (w mid after : W)
    → AskedAgain gives xs from at w mid → slice_get xs at ≡ Some x → (IsLoad x.0 → ⊥) → gives mid x.0 x.1 after → AskedAgain gives xs from (at + 1) w after
asked_more gives xs from at x w mid after again here plain given =
    let within : at < length xs = slice_get_within xs at x here in
    let e = range_more xs from at x again.0 here in
    (omega arith, omega arith, rw e (leads_more gives w (slice_range xs from at) x mid after again.2 plain given))
