use Rattle.sw_record.proofs.Tails.{tells_kept, tells_on}
use Rattle.sw_record.proofs.tail.Gathering.add_from.Goals as goal

pub returns-then-step-eq0 : goal.returns-then-step-eq0
returns-then-step-eq0 c =
    tells_kept c.loop-at.self.named.items c.add_at.new.self.named.items c.loop-at.self.alone c.add_at.new.self.alone c.args.seen.now c.args.from c.loop-at.at c.loop-at.invariant c.in_ok-step.ensures.keeps

pub loop-at-preserved : goal.loop-at-preserved
loop-at-preserved c =
    tells_on c.add_at.new.self.named.items c.add_at.new.self.alone c.args.seen.now c.args.from c.loop-at.at _
    (tells_kept c.loop-at.self.named.items c.add_at.new.self.named.items c.loop-at.self.alone c.add_at.new.self.alone c.args.seen.now c.args.from c.loop-at.at c.loop-at.invariant c.in_ok-step.ensures.keeps)
    c.in_ok-step.ensures.told
