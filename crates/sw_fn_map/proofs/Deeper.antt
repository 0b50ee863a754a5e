-- Maps that are merged with those in them.
use Rattle.std.proofs.Common.{◌≡◌, ℕ, zero, suc, ◌-◌, ◌<◌, List, ◌++◌, Ok, Err, subst, arith}
use Rattle.std.specs.Prelude.{filter}
use Rattle.sw_values.specs.declared.plain.Plain.{Plain}
use Rattle.sw_fn_call.specs.declared.fault.FnFault.{FnFault}
use Rattle.sw_fn_call.specs.Answers.{Answer, IsAnswer, with}
use Rattle.sw_fn_map.specs.Pairs.{Pair, map_value}
use Rattle.sw_fn_map.specs.Changes.{is_new}
use Rattle.sw_fn_map.specs.Deep.{deep_pairs, deep_merged}
use Rattle.sw_fn_map.proofs.Steps.{err-through}

pub deep-merged-ok : (levels : ℕ) (pairs given other all : List Pair) (result : Answer) → 0 < levels → given ≡ pairs
    → Ok all ≡ deep_pairs (deep_merged (levels - 1)) given other → IsAnswer result (map_value (all ++ filter (is_new pairs) other))
    → IsAnswer result (deep_merged levels pairs other)
unfolding deep_merged
deep-merged-ok zero pairs given other all result some same is h = absurd (omega arith)
deep-merged-ok (suc n) pairs given other all result some same is h =
    let e : suc n - 1 ≡ n = omega arith in
    let j : Ok all ≡ deep_pairs (deep_merged n) given other = subst (λ m. Ok all ≡ deep_pairs (deep_merged m) given other) e is in
    let k : Ok all ≡ deep_pairs (deep_merged n) pairs other = subst (λ l. Ok all ≡ deep_pairs (deep_merged n) l other) same j in
    subst (λ answer. IsAnswer result (with answer (λ rows. map_value (rows ++ filter (is_new pairs) other)))) k h

pub deep-merged-err : (levels : ℕ) (pairs given other : List Pair) (fault : FnFault) → 0 < levels → given ≡ pairs
    → IsAnswer {T = List Pair} (Err fault) (deep_pairs (deep_merged (levels - 1)) given other)
    → IsAnswer {T = Plain} (Err fault) (deep_merged levels pairs other)
unfolding deep_merged
deep-merged-err zero pairs given other fault some same h = absurd (omega arith)
deep-merged-err (suc n) pairs given other fault some same h =
    let e : suc n - 1 ≡ n = omega arith in
    let j : IsAnswer {T = List Pair} (Err fault) (deep_pairs (deep_merged n) given other) =
    subst (λ m. IsAnswer {T = List Pair} (Err fault) (deep_pairs (deep_merged m) given other)) e h in
    let k : IsAnswer {T = List Pair} (Err fault) (deep_pairs (deep_merged n) pairs other) =
    subst (λ l. IsAnswer {T = List Pair} (Err fault) (deep_pairs (deep_merged n) l other)) same j in
    err-through fault (deep_pairs (deep_merged n) pairs other) (λ rows. map_value (rows ++ filter (is_new pairs) other)) k
