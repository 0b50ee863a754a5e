use Rattle.sw_modules.proofs.Noting.{added_has, added_more}
use Rattle.sw_modules.proofs.holders.note.Goals as goal

pub returns-clause-has : goal.returns-clause-has
returns-clause-has c =
    added_has c.args.holders.now c.add.new.self c.args.name.now c.in_ok-name.name c.args.path.now c.in_ok-holding.holding c.add.result
    c.in_ok-name.ensures c.add.ensures.ok c.in_ok-holding.ensures.has

pub returns-clause-more : goal.returns-clause-more
returns-clause-more c =
    added_more c.args.holders.now c.add.new.self c.args.name.now c.in_ok-name.name _ c.in_ok-holding.holding c.add.result
    c.in_ok-name.ensures c.get.ensures c.add.ensures.ok c.add.ensures.err c.in_ok-holding.ensures.more
