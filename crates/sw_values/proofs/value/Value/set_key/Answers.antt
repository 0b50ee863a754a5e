use Rattle.std.proofs.Common.{◌≡◌, is_some, refl, sym, ap, ◌∙◌, true≢false}
use Rattle.sw_values.specs.declared.plain.Plain.TheVariants as P
use Rattle.sw_values.specs.declared.value.Node.{Node}
use Rattle.sw_values.specs.Growing.{map_pairs, map_with}
use Rattle.sw_values.specs.Maps.{with_value}
use Rattle.sw_values.specs.Shape.{node_of}
use Rattle.sw_values.proofs.Alike.{node_back}
use Rattle.sw_values.proofs.Growing.{map_back, map_is, ok_on, fault_on, stays_map}
use Rattle.sw_values.proofs.value.Value.set_key.Goals as goal

pub unreachable-requires : goal.unreachable-requires
unreachable-requires c =
    absurd (true≢false (sym c.requires ∙ ap (λ (n : Node). is_some (map_pairs n)) (sym (node_back _ _ c.self.view_is)) ∙ ap is_some (sym c.pairs_in.ensures ∙ c.in-None.is)))

pub set_in-requires : goal.set_in-requires
set_in-requires c =
    let back : P.Map c.in-Some.pairs ≡ c.args.self = map_back _ _ c.in-Some.pairs c.self.view_is (sym c.pairs_in.ensures ∙ c.in-Some.is) in
    record {
      weight = rw (c.weight.ensures.weight, c.weight-2.ensures.weight, c.weight-3.ensures.weight, back) refl;
      nesting = rw (c.max-nesting.ensures, c.max.ensures, c.nesting.ensures.nesting, c.nesting-2.ensures.nesting, c.nesting-3.ensures.nesting, back) refl;
    }

pub returns : goal.returns
returns c =
    let whole : P.Map (with_value c.in-Some.pairs c.args.key.now c.args.value.now) ≡ map_with (map_pairs (node_of c.args.self)) c.args.key.now c.args.value.now =
    map_is _ _ _ c.self.inside.node c.in-Some.pairs c.self.view_is (sym c.pairs_in.ensures ∙ c.in-Some.is) in
    let ok = ok_on _ _ _ whole c.set_in.ensures.ok in
    record { ok = ok; map = stays_map _ (map_pairs (node_of c.args.self)) c.args.key.now c.args.value.now c.requires ok; err = fault_on _ _ _ whole c.set_in.ensures.err }
