use Rattle.std.proofs.Common.{bytes_eq, sym, subst, ap, ◌∙◌}
use Rattle.sw_modules.specs.Noted.{HoldsFirst}
use Rattle.sw_modules.proofs.Noting.{first_fewer}
use Rattle.std.specs.Map.{lookup, set_value}
use Rattle.sw_modules.proofs.Using.{used_at, none_at}
use Rattle.sw_modules.proofs.loaded.Loaded.set_uses.Goals as goal
use Rattle.sw_modules.proofs.loaded.Loaded.set_uses.Goals.{in-Some, in-None}

pub returns : goal.returns
returns c =
    elim c.match-get_mut.branch [
      | in-Some w ↦
          ap (λ i. i.entries.entries) w.self-inside-is ∙ (c.get_mut.follows.holds w.set_uses.new.self).0
          ∙ ap (λ es. set_value (bytes_eq c.args.path.now) es w.set_uses.new.self) c.self.view_is
          ∙ used_at c.args.self.now c.args.path.now c.args.uses w.in-Some.held.now w.set_uses.new.self
          (ap (lookup (bytes_eq c.args.path.now)) (sym c.self.view_is) ∙ sym w.in-Some.ensures.value) w.set_uses.ensures
      | in-None w ↦
          ap (λ i. i.entries.entries) w.self-inside-is ∙ ap (λ m. m.entries) c.get_mut.follows.holds-at-none ∙ c.self.view_is
          ∙ none_at c.args.self.now c.args.path.now c.args.uses
          (ap (lookup (bytes_eq c.args.path.now)) (sym c.self.view_is) ∙ sym w.in-None.ensures.value)
    ]

pub invariant_of-self : goal.invariant_of-self
invariant_of-self c =
    elim c.match-get_mut.branch [
      | in-Some w ↦
          subst (λ i. HoldsFirst i.holders i.entries.entries i.noted) (sym w.self-inside-is)
          (subst (λ es. HoldsFirst c.self.inside.holders es c.noted_beside-self-inside.result) (sym (c.get_mut.follows.holds w.set_uses.new.self).0)
          (c.noted_beside-self-inside.ensures.first c.self.inside.holders w.set_uses.new.self c.self.invariant))
      | in-None w ↦
          subst (λ i. HoldsFirst i.holders i.entries.entries i.noted) (sym w.self-inside-is)
          (subst (λ m. HoldsFirst c.self.inside.holders m.entries c.noted_beside-self-inside.result) (sym c.get_mut.follows.holds-at-none)
          (first_fewer c.self.inside.holders c.self.inside.entries.entries c.noted_beside-self-inside.result c.self.inside.noted
          c.noted_beside-self-inside.ensures.few c.self.invariant))
    ]
