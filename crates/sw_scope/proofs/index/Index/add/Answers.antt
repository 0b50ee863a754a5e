use Rattle.sw_scope.proofs.index.Index.add.Goals as goal

pub returns : goal.returns
returns c q = rw (c.in_ok-share.ensures, c.self.view_is) at (c.in_ok-insert.ensures.updates.0 q)
