use Rattle.std.proofs.Common.{sym, arith}
use Rattle.sw_eval_questions.proofs.Names.{seen_some, seen_past, seen_beyond}
use Rattle.sw_eval_questions.proofs.asked.Asked.answer.Goals as goal

pub returns-then-number-self : goal.returns-then-number-self
returns-then-number-self c = sym (seen_past c.args.self.now.pairs.items c.args.self.now.at c.args.number (omega arith))

pub returns-then-number-len : goal.returns-then-number-len
returns-then-number-len c = sym (seen_beyond c.args.self.now.pairs.items c.args.self.now.at c.args.number (omega (arith, c.len.ensures, c.if-number-len.true)))

pub returns : goal.returns
returns c =
    sym (seen_some c.args.self.now.pairs.items c.args.self.now.at c.args.number c.pair.result.now (omega arith) c.pair.ensures)
