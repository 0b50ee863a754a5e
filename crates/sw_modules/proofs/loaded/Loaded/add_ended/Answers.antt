use Rattle.std.proofs.Common.{bytes_eq, sym, subst, ap, ◌∙◌}
use Rattle.sw_modules.specs.Noted.{HoldsFirst}
use Rattle.sw_modules.proofs.Noting.{first_fewer}
use Rattle.indexmap.specs.IndexMap.{insert_entry}
use Rattle.sw_modules.specs.declared.module.Module.{Module}
use Rattle.sw_modules.proofs.loaded.Loaded.add_ended.Goals as goal

pub returns-clause-ok : goal.returns-clause-ok
returns-clause-ok c =
    let held : Module = c.in_ok-held.held in
    c.in_ok-insert.ensures.entries ∙ ap (λ es. insert_entry bytes_eq es c.in_ok-path.path held) c.self.view_is
    ∙ ap (λ p. insert_entry bytes_eq c.args.self.now p held) c.in_ok-path.ensures
    ∙ ap (λ (m : Module). insert_entry bytes_eq c.args.self.now c.args.path.now m) c.in_ok-held.ensures

pub invariant_of-self : goal.invariant_of-self
invariant_of-self c =
    subst (λ es. HoldsFirst c.self.inside.holders es c.noted_with-self-inside.result) (sym c.in_err-insert.ensures.err)
    (first_fewer c.self.inside.holders c.self.inside.entries.entries c.noted_with-self-inside.result c.self.inside.noted c.noted_with-self-inside.ensures.few c.self.invariant)

pub invariant_of-self-2 : goal.invariant_of-self-2
invariant_of-self-2 c =
    subst (λ es. HoldsFirst c.self.inside.holders es c.noted_with-self-inside.result) (sym c.in_ok-insert.ensures.entries)
    (c.noted_with-self-inside.ensures.first c.self.inside.holders c.in_ok-held.held c.self.invariant)
