use Rattle.sw_record.proofs.Tails.{named_more, named_last, first_read}
use Rattle.sw_record.proofs.tail.Gathering.add_module.Goals as goal

pub returns-clause-has : goal.returns-clause-has
returns-clause-has c pair asked =
    let read = c.args.read.now in
    rw c.in_ok-push.ensures.items (named_last c.args.self.now.named.items c.in_ok-first.first pair
    (first_read c.in_ok-first.first read.site.now read.space.now read.path.now read.name.now read.value.now c.in_ok-first.ensures pair asked))

pub returns-clause-keeps : goal.returns-clause-keeps
returns-clause-keeps c pair asked =
    rw c.in_ok-push.ensures.items (named_more c.args.self.now.named.items c.in_ok-first.first pair asked)
