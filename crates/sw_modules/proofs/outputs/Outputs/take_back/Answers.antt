use Rattle.std.proofs.Common.{◌-◌, length, map, take, sym, ap, ◌∙◌}
use Rattle.std.proofs.lemmas.List.{length-map, take-map}
use Rattle.sw_css_tree.specs.Output.{Output}
use Rattle.sw_world.specs.declared.end.Finish.{Finish}
use Rattle.sw_modules.proofs.outputs.Outputs.take_back.Goals as goal

abbrev css_of : Finish → Output
css_of finish = finish.css

pub returns : goal.returns
returns c =
    ap (map css_of) c.truncate.ensures
    ∙ sym (take-map css_of c.saturating_sub.result c.self.inside.ended)
    ∙ ap (λ n. take n (map css_of c.self.inside.ended)) (c.saturating_sub.ensures ∙ ap (λ n. n - 1) (c.len.ensures ∙ sym (length-map c.self.inside.ended css_of)))
    ∙ ap (λ outputs. take (length outputs - 1) outputs) c.self.view_is
