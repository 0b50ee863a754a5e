use Rattle.std.proofs.Common.{◌≡◌, Some, None, sym, ◌∙◌}
use Rattle.sw_values.specs.declared.plain.Plain.TheVariants as P
use Rattle.sw_values.specs.Maps.{with_value}
use Rattle.sw_values.proofs.Growing.{at_place, weight_of_pair, nesting_of_pair, grown_fault, of_fault}
use Rattle.sw_values.proofs.value.growing.set_in.Goals as goal

pub sized-requires : goal.sized-requires
sized-requires c = record {
  weight = rw (c.in-Ok-grown.ensures) (c.requires.weight ∙ sym (weight_of_pair _ _ _));
  nesting = rw (c.in-Ok-grown.ensures) (c.requires.nesting ∙ sym (nesting_of_pair _ _ _));
}

pub returns-clause-err : goal.returns-clause-err
returns-clause-err c =
    let made : P.Map c.in-Ok-grown.pairs ≡ P.Map (with_value c.args.pairs c.args.key.now c.args.value.now) =
    at_place c.args.pairs c.args.key.now c.args.value.now _ None _ c.in-Ok.ensures (sym c.in-None.is ∙ c.place_of.ensures.place) c.in-Ok-grown.ensures in
    grown_fault _ _ _ made c.sized.ensures

pub returns-in-Some-clause-err : goal.returns-in-Some-clause-err
returns-in-Some-clause-err c =
    let made : P.Map c.in-Ok-set_at.pairs ≡ P.Map (with_value c.args.pairs c.args.key.now c.args.value.now) =
    at_place c.args.pairs c.args.key.now c.args.value.now _ (Some c.in-Some.place) _ c.in-Ok.ensures (sym c.in-Some.is ∙ c.place_of.ensures.place) c.in-Ok-set_at.ensures in
    of_fault _ _ _ made c.of.ensures
