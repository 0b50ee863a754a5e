use Rattle.std.proofs.Common.{List, sym, ap, map, codes, append-nil}
use Rattle.sw_parse_grammar.specs.Grammar.{Got}
use Rattle.sw_parse_terminals.specs.declared.terminal.Terminal.TheVariants as T
use Rattle.sw_parse_terminals.specs.Numbers.{just}
use Rattle.sw_parse_table.specs.Parts.{Part, Pieces}
use Rattle.sw_parse_media_queries.specs.Joints.{behind_and}
use Rattle.sw_parse_media_queries.proofs.Added.{worded}
use Rattle.sw_parse_media_queries.proofs.Choices.{rest_some, rest_none}
use Rattle.sw_parse_media_queries.proofs.typed.typed_rest_at.Goals as goal

pub returns-then-not-is_at : goal.returns-then-not-is_at
returns-then-not-is_at c =
    rw (rest_none c.args.source.now c.args.levels c.args.at (sym c.if-not-is_at.ensures.test)) (ap (λ (u : List Part). Got u c.args.at) (append-nil (map Pieces c.args.list.now)))

pub returns : goal.returns
returns c =
    rw (rest_some c.args.source.now c.args.levels c.args.at (sym c.if-not-is_at.ensures.test), worded c.args.source.now c.args.levels (codes " and ") (just T.And) (behind_and c.args.source.now) c.args.at c.args.list.now c.add_text.new.list (sym c.if-not-is_at.ensures.test) c.in_ok-add_text.ensures.more) c.behind_and_at.ensures
