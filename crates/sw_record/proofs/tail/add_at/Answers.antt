use Rattle.std.proofs.Common.{sym}
use Rattle.sw_record.proofs.Tails.{named_set, set_there, of_read}
use Rattle.sw_record.proofs.tail.add_at.Goals as goal

pub returns-clause-has : goal.returns-clause-has
returns-clause-has c has pair asked =
    let read = c.args.read.now in
    let of = c.if-not-are_of.ensures in
    set_there c.args.named.now.items c.args.place _ c.requires pair
    (c.in_ok-has.ensures.has has pair (of_read c.index_mut-one.result.now read.site.now read.space.now read.path.now read.name.now read.value.now pair of.0 of.1 of.2 asked))

pub returns-clause-keeps : goal.returns-clause-keeps
returns-clause-keeps c pair asked =
    named_set c.args.named.now.items c.args.place c.index_mut-one.result.now _ c.requires (sym c.index_mut-one.ensures.value) c.in_ok-has.ensures.keeps pair asked
