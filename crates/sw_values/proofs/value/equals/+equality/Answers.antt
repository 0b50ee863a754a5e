use Rattle.std.proofs.Common.{◌≡◌, ◌+◌, ◌≤◌, arith, refl, sym, ap, ◌∙◌, false, Some, None, option_copied}
use Rattle.sw_values.specs.Shape.{plain_of}
use Rattle.sw_values.specs.Weight.{nest, greatest_by}
use Rattle.sw_values.specs.Sizes.{nest_list, nest_map, pair_nest}
use Rattle.sw_values.proofs.Parts.{args_le}
use Rattle.sw_values.proofs.Rules.{rules}
use Rattle.sw_values.proofs.Alike.{node_back}
use Rattle.sw_values.proofs.Tables.{lengths_told, maps_told, pair_step}
use Rattle.sw_values.proofs.value.equals.+equality.Goals as goal

pub equal_values-returns-clause-equal : goal.equal_values-returns-clause-equal
equal_values-returns-clause-equal t c =
    rw (← c.a.view_is, ← c.b.view_is) (c.equal_nodes.ensures.rules ∙ rules _ _ c.equal_nodes.ensures.told)

pub equal_values-returns-clause-rules : goal.equal_values-returns-clause-rules
equal_values-returns-clause-rules t c =
    rw (← node_back _ _ c.a.view_is, ← node_back _ _ c.b.view_is) c.equal_nodes.ensures.rules

pub equal_nodes-equal_lists-requires : goal.equal_nodes-equal_lists-requires
equal_nodes-equal_lists-requires t c =
    let e : nest (plain_of c.args.a.now) ≡ greatest_by nest c.in-List-List.items + 1 = rw c.in-List-List.is-0 (nest_list _ _ _) in
    let k : greatest_by nest c.as_slice.result.now ≡ greatest_by nest c.in-List-List.items = rw (c.as_slice.ensures, c.get.ensures) refl in
    (omega (arith, e, k, c.decreases), tt)

pub equal_nodes-equal_lists-requires-in-List-Args : goal.equal_nodes-equal_lists-requires-in-List-Args
equal_nodes-equal_lists-requires-in-List-Args t c =
    let e : nest (plain_of c.args.a.now) ≡ greatest_by nest c.in-List-Args.items + 1 = rw c.in-List-Args.is-0 (nest_list _ _ _) in
    let k : greatest_by nest c.as_slice-in-List-Args.result.now ≡ greatest_by nest c.in-List-Args.items = rw (c.as_slice-in-List-Args.ensures, c.get-in-List-Args.ensures) refl in
    (omega (arith, e, k, c.decreases), tt)

pub equal_nodes-equal_lists-requires-in-Args-List : goal.equal_nodes-equal_lists-requires-in-Args-List
equal_nodes-equal_lists-requires-in-Args-List t c =
    let e : greatest_by nest c.in-Args-List.items + 1 ≤ nest (plain_of c.args.a.now) = rw c.in-Args-List.is-0 (args_le _ _) in
    let k : greatest_by nest c.as_slice-in-Args-List.result.now ≡ greatest_by nest c.in-Args-List.items = rw (c.as_slice-in-Args-List.ensures, c.get-in-Args-List.ensures) refl in
    (omega (arith, e, k, c.decreases), tt)

pub equal_nodes-equal_lists-requires-in-Args-Args : goal.equal_nodes-equal_lists-requires-in-Args-Args
equal_nodes-equal_lists-requires-in-Args-Args t c =
    let e : greatest_by nest c.in-Args-Args.items + 1 ≤ nest (plain_of c.args.a.now) = rw c.in-Args-Args.is-0 (args_le _ _) in
    let k : greatest_by nest c.as_slice-in-Args-Args.result.now ≡ greatest_by nest c.in-Args-Args.items = rw (c.as_slice-in-Args-Args.ensures, c.get-in-Args-Args.ensures) refl in
    (omega (arith, e, k, c.decreases), tt)

pub equal_nodes-equal_maps-requires : goal.equal_nodes-equal_maps-requires
equal_nodes-equal_maps-requires t c =
    let e : nest (plain_of c.args.a.now) ≡ greatest_by pair_nest c.in-Map-Map.pairs + 1 = rw c.in-Map-Map.is-0 (nest_map _) in
    (omega (arith, e, c.decreases), tt)

pub equal_maps-returns-then-len-clause-rule : goal.equal_maps-returns-then-len-clause-rule
equal_maps-returns-then-len-clause-rule t c =
    sym (lengths_told _ _ c.len.ensures.distinct c.len-2.ensures.distinct (λ e. absurd (omega (arith, c.len.ensures.len, c.len-2.ensures.len, e))))

pub equal_maps-returns-then-len-clause-words : goal.equal_maps-returns-then-len-clause-words
equal_maps-returns-then-len-clause-words t c = maps_told _ _ c.len.ensures.distinct c.len-2.ensures.distinct

pub equal_maps-returns-then-keys_within-clause-words : goal.equal_maps-returns-then-keys_within-clause-words
equal_maps-returns-then-keys_within-clause-words t c = maps_told _ _ c.len.ensures.distinct c.len-2.ensures.distinct

pub equal_maps-returns-else-keys_within-clause-words : goal.equal_maps-returns-else-keys_within-clause-words
equal_maps-returns-else-keys_within-clause-words t c = maps_told _ _ c.len.ensures.distinct c.len-2.ensures.distinct

pub is_pair_within-returns-in-None : goal.is_pair_within-returns-in-None
is_pair_within-returns-in-None t c =
    pair_step _ _ _ c.index-list-place.result None false c.requires (rw c.as_slice-list.ensures at c.index-list-place.is)
    (λ p e. sym (ap option_copied c.in-None.is) ∙ c.value_at_key.ensures p e) refl

pub is_pair_within-returns-in-Some : goal.is_pair_within-returns-in-Some
is_pair_within-returns-in-Some t c =
    pair_step _ _ _ c.index-list-place.result (Some c.in-Some.other.now) _ c.requires (rw c.as_slice-list.ensures at c.index-list-place.is)
    (λ p e. sym (ap option_copied c.in-Some.is) ∙ c.value_at_key.ensures p e) c.equal_values.ensures.equal
