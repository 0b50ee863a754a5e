use Rattle.std.proofs.Common.{nat_eq, ◌∙◌}
use Rattle.indexmap.proofs.MapLemmas.{absent_from_lookup, insert_entry-absent}
use Rattle.sw_step.proofs.steps.add_compile.Goals as goal

pub returns-clause-ok : goal.returns-clause-ok
returns-clause-ok g c =
    c.in_ok-insert.ensures.entries
    ∙ insert_entry-absent nat_eq c.args.number c.args.compile c.args.under_way.now.entries (absent_from_lookup (nat_eq c.args.number) c.args.under_way.now.entries c.requires)
