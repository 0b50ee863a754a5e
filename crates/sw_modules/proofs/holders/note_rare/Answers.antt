use Rattle.sw_modules.proofs.Noting.{all_none, all_same}
use Rattle.sw_modules.proofs.holders.note_rare.Goals as goal

pub returns-in-Some-clause-all : goal.returns-in-Some-clause-all
returns-in-Some-clause-all g c =
    all_same c.note_all.new.holders c.args.path.now c.in-Some.table.now c.args.names.now c.note_all.result c.in-Some.ensures c.note_all.ensures.all

pub returns-in-None-clause-all : goal.returns-in-None-clause-all
returns-in-None-clause-all g c = all_none c.args.holders.now c.args.path.now c.args.names.now c.in-None.ensures
