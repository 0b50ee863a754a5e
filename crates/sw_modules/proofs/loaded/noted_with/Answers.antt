use Rattle.indexmap.specs.IndexMap.{insert_entry}
use Rattle.std.proofs.Common.{bytes_eq, sym, ◌∙◌}
use Rattle.sw_modules.proofs.Noting.{first_none, first_new}
use Rattle.sw_modules.proofs.loaded.noted_with.Goals as goal

pub returns-then-contains_key-clause-first : goal.returns-then-contains_key-clause-first
returns-then-contains_key-clause-first c = λ holders held first. first_none holders (insert_entry bytes_eq c.args.entries.now.entries c.args.path.now held)

pub returns-clause-first : goal.returns-clause-first
returns-clause-first c = λ holders held first.
    first_new holders c.args.entries.now.entries c.args.path.now held c.args.noted (sym c.if-contains_key.false ∙ c.contains_key.ensures) first
