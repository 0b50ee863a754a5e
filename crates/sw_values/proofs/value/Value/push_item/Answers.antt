use Rattle.std.proofs.Common.{◌≡◌, ◌++◌, ◌∷◌, List, [], Some, is_some, sym, ap, ◌∙◌, true≢false}
use Rattle.sw_values.specs.declared.plain.Plain.{Plain}
use Rattle.sw_values.specs.declared.plain.Plain.TheVariants as P
use Rattle.sw_values.specs.declared.value.Node.{Node}
use Rattle.sw_values.specs.Growing.{list_parts, list_with}
use Rattle.sw_values.specs.Shape.{node_of}
use Rattle.sw_values.proofs.Alike.{node_back}
use Rattle.sw_values.proofs.Growing.{list_is, weight_of_more, nesting_of_more, grown_is, grown_fault, stays_list}
use Rattle.sw_values.proofs.value.Value.push_item.Goals as goal

pub unreachable-requires : goal.unreachable-requires
unreachable-requires c =
    absurd (true≢false (sym c.requires ∙ ap (λ (n : Node). is_some (list_parts n)) (sym (node_back _ _ c.self.view_is)) ∙ ap is_some (sym c.parts_of.ensures ∙ c.in-None.is)))

pub sized-requires : goal.sized-requires
sized-requires c = record {
  weight = rw (c.in-Ok.ensures) (weight_of_more _ _ c.self.inside.node (c.in-Some.items, c.in-Some.bracketed) _ _ _ c.self.view_is (sym c.parts_of.ensures ∙ c.in-Some.is)
      c.weight.ensures.weight c.weight-2.ensures.weight);
  nesting = rw (c.max-nesting.ensures, c.in-Ok.ensures) (nesting_of_more _ _ c.self.inside.node (c.in-Some.items, c.in-Some.bracketed) _ _ _ c.self.view_is (sym c.parts_of.ensures ∙ c.in-Some.is)
      c.nesting.ensures.nesting c.nesting-2.ensures.nesting);
}

pub returns-in-Ok : goal.returns-in-Ok
returns-in-Ok c =
    let parts : list_parts c.self.inside.node ≡ Some (c.in-Some.items, c.in-Some.bracketed) = sym c.parts_of.ensures ∙ c.in-Some.is in
    let whole : P.List (c.in-Some.items ++ c.args.item ∷ []) c.args.separator c.in-Some.bracketed ≡ list_with (list_parts (node_of c.args.self)) c.args.separator c.args.item =
    list_is _ _ c.self.inside.node (c.in-Some.items, c.in-Some.bracketed) _ c.self.view_is parts in
    let made : P.List c.in-Ok.items c.args.separator c.in-Some.bracketed ≡ list_with (list_parts (node_of c.args.self)) c.args.separator c.args.item =
    ap (λ (items : List Plain). P.List items c.args.separator c.in-Some.bracketed) c.in-Ok.ensures ∙ whole in
    let ok = grown_is _ _ _ made c.sized.ensures in
    record { ok = ok; list = stays_list _ (list_parts (node_of c.args.self)) c.args.separator c.args.item c.requires ok; err = grown_fault _ _ _ made c.sized.ensures }
