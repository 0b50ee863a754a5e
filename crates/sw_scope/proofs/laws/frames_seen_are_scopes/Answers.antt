use Rattle.sw_scope.proofs.Sights.{seen-set_on, unseen-set_on, seen-declare_on, seen-put_on, seen-push, popped-put_on}
use Rattle.sw_scope.proofs.laws.frames_seen_are_scopes.Goals as goal

pub returns-clause-set : goal.returns-clause-set
returns-clause-set c = seen-set_on

pub returns-clause-others : goal.returns-clause-others
returns-clause-others c = unseen-set_on

pub returns-clause-declare : goal.returns-clause-declare
returns-clause-declare c = seen-declare_on

pub returns-clause-on : goal.returns-clause-on
returns-clause-on c = seen-put_on

pub returns-clause-push : goal.returns-clause-push
returns-clause-push c = seen-push

pub returns-clause-pop : goal.returns-clause-pop
returns-clause-pop c = popped-put_on
