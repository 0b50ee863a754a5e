use Rattle.sw_scope.proofs.Seen.{on_ok}
use Rattle.sw_scope.proofs.Indexes.{noted}
use Rattle.sw_scope.proofs.index.Index.note.Goals as goal

pub returns : goal.returns
returns c = on_ok c.add.result c.add.ensures (λ e. noted c.args.self.now c.add.new.self c.args.vars.now c.args.at c.index-vars-at.result c.requires.within c.requires.index e)
