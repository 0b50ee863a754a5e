use Rattle.std.proofs.Common.{ℕ, sym}
use Rattle.sw_parse_statement_text.proofs.PlainRaw.{plain_step}
use Rattle.sw_parse_statement_text.proofs.raw.behind_plain.Goals as goal

pub items-preserved : goal.items-preserved
items-preserved c =
    λ levels. plain_step c.args.source.now levels c.args.at c.items.place (c.items.invariant levels) (sym c.items-test.ensures.test)
