use Rattle.std.proofs.Common.{◌≡◌, bytes_eq, Some, None, sym, ◌∙◌, ap}
use Rattle.std.specs.Map.{lookup}
use Rattle.std.specs.Option.{option_copied}
use Rattle.sw_world.proofs.Named.{named_there, named_new, named_kept}
use Rattle.sw_world.proofs.variables.NamedVariables.add.Goals as goal

pub returns-in-Some-clause-has : goal.returns-in-Some-clause-has
returns-in-Some-clause-has c has =
    let here : lookup (bytes_eq c.args.name.now) c.args.self.now.values ≡ Some c.in-Some.there.now = sym c.get.ensures ∙ ap option_copied c.in-Some.is in
    named_there c.args.self.now c.args.name.now c.args.value.now c.in-Some.there.now here (c.same.ensures.0 has)

pub returns-in_ok-add-in-None-clause-has : goal.returns-in_ok-add-in-None-clause-has
returns-in_ok-add-in-None-clause-has c has =
    let none : lookup (bytes_eq c.args.name.now) c.args.self.now.values ≡ None = sym c.get.ensures ∙ ap option_copied c.in-None.is in
    named_new c.args.self.now c.add.new.self c.in_ok-share-in-None.field-0 c.args.name.now c.in_ok-share-in-None-2.field-0 c.args.value.now none c.in_ok-share-in-None.ensures c.in_ok-share-in-None-2.ensures
    c.in_ok-add-in-None.ensures.ok

pub returns-in_ok-add-in-None-clause-keeps : goal.returns-in_ok-add-in-None-clause-keeps
returns-in_ok-add-in-None-clause-keeps c =
    let none : lookup (bytes_eq c.args.name.now) c.args.self.now.values ≡ None = sym c.get.ensures ∙ ap option_copied c.in-None.is in
    named_kept c.args.self.now c.add.new.self c.in_ok-share-in-None.field-0 c.args.name.now c.in_ok-share-in-None-2.field-0 c.args.value.now none c.in_ok-share-in-None.ensures c.in_ok-share-in-None-2.ensures
    c.in_ok-add-in-None.ensures.ok
