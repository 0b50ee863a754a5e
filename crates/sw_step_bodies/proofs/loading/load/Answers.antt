use Rattle.std.proofs.Common.{refl, ap, subst, ◌∙◌, arith}
use Rattle.sw_modules.specs.declared.live.Begin.{Begin}
use Rattle.sw_modules.specs.State.{closed}
use Rattle.sw_modules.specs.Loads.{IsBegun}
use Rattle.sw_modules.specs.Settings.{hostless}
use Rattle.sw_step_bodies.proofs.Loads.{load_answered, load_read, load_unread, open_more, closed_open}
use Rattle.sw_step_bodies.proofs.loading.load.Goals as goal

pub returns-in-Answered-clause-did : goal.returns-in-Answered-clause-did
returns-in-Answered-clause-did g c = λ body.
    let opens = subst (λ (b : Begin). IsBegun b c.args.live.now c.begin.new.self) c.in-Answered.is c.in_ok-answer.ensures.opens in
    load_answered (hostless g.R.Reader.reads body) c.args.op.now c.in-Answered.answer c.args.live.now c.begin.new.self c.requires
    (c.in_ok-answer.ensures.ok ∙ ap (λ (b : Begin). (b, c.begin.new.self)) c.in-Answered.is) opens

pub read_open-requires-clause-few : goal.read_open-requires-clause-few
read_open-requires-clause-few g c =
    let opens = subst (λ (b : Begin). IsBegun b c.args.live.now c.begin.new.self) c.in-Open.is c.in_ok-answer.ensures.opens in
    opens.2

pub read_open-requires-clause-is_open : goal.read_open-requires-clause-is_open
read_open-requires-clause-is_open g c =
    let opens = subst (λ (b : Begin). IsBegun b c.args.live.now c.begin.new.self) c.in-Open.is c.in_ok-answer.ensures.opens in
    let more = open_more c.in-Open.path c.args.live.now c.begin.new.self opens.1 in
    omega (arith, more)

pub returns-in-Ok-Read-clause-did : goal.returns-in-Ok-Read-clause-did
returns-in-Ok-Read-clause-did g c = λ body.
    let opens = subst (λ (b : Begin). IsBegun b c.args.live.now c.begin.new.self) c.in-Open.is c.in_ok-answer.ensures.opens in
    let read = rw c.in-Ok-Read.field-0-is at c.in-Ok-Read.ensures.read in (
      refl,
      read.1,
      load_read (hostless g.R.Reader.reads body) c.args.op.now c.in-Open.path c.in-Open.text c.in-Open.config c.args.live.now c.begin.new.self c.read_open.new.live c.requires
          (c.in_ok-answer.ensures.ok ∙ ap (λ (b : Begin). (b, c.begin.new.self)) c.in-Open.is) opens c.in-Ok-Read.sheet c.in-Ok-Read.opened read,
    )

pub returns-in-Ok-Unread-clause-did : goal.returns-in-Ok-Unread-clause-did
returns-in-Ok-Unread-clause-did g c = λ body.
    let opens = subst (λ (b : Begin). IsBegun b c.args.live.now c.begin.new.self) c.in-Open.is c.in_ok-answer.ensures.opens in
    let read = rw c.in-Ok-Unread.field-0-is at c.in-Ok-Unread.ensures.read in
    load_unread (hostless g.R.Reader.reads body) c.args.op.now c.in-Open.path c.in-Open.text c.in-Open.config c.args.live.now c.begin.new.self c.read_open.new.live c.requires
    (c.in_ok-answer.ensures.ok ∙ ap (λ (b : Begin). (b, c.begin.new.self)) c.in-Open.is) opens c.in-Ok-Unread.answer read

pub close-requires : goal.close-requires
close-requires g c =
    let opens = subst (λ (b : Begin). IsBegun b c.args.live.now c.begin.new.self) c.in-Open.is c.in_ok-answer.ensures.opens in
    let more = open_more c.in-Open.path c.args.live.now c.read_open.new.live (c.in-Err.ensures.err ∙ opens.1) in
    omega (arith, more)

pub returns-in-Err-clause-err : goal.returns-in-Err-clause-err
returns-in-Err-clause-err g c =
    let opens = subst (λ (b : Begin). IsBegun b c.args.live.now c.begin.new.self) c.in-Open.is c.in_ok-answer.ensures.opens in
    c.close.ensures.after ∙ ap closed (c.in-Err.ensures.err ∙ opens.1) ∙ closed_open c.in-Open.path c.args.live.now
