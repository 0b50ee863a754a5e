use Rattle.std.proofs.Common.{◌≡◌, suc, List, [], ◌∷◌, ◌++◌, length, None, sym, ap, subst, ◌∙◌, arith}
use Rattle.sw_modules.specs.State.{State}
use Rattle.sw_modules.specs.Settings.{hostless}
use Rattle.sw_step_bodies.specs.declared.loading.Loaded.{Loaded}
use Rattle.sw_step_bodies.specs.Standing.{Waits}
use Rattle.sw_step_bodies.specs.Moves.{DidLoad, DidAnswer, moment_of}
use Rattle.sw_step_bodies.proofs.Pairs.{fits_load}
use Rattle.sw_step_bodies.proofs.Nexts.{on_err}
use Rattle.sw_step_bodies.proofs.Moments.{given_here, waits_here, moment_answered, moment_opened, opened_deep}
use Rattle.sw_step_bodies.proofs.going.Going.answer_load.Goals as goal

pub load-requires : goal.load-requires
load-requires g c = c.in-Some.ensures.asks.load

pub give-requires : goal.give-requires
give-requires g c =
    let did = subst (λ (l : Loaded). DidLoad (hostless g.R.Reader.reads g.E.Engine.body) c.in-Some.op.now l c.args.self.now.live c.load.new.live) c.in-Answered.is (c.in_ok-answer.ensures.did g.E.Engine.body) in
    (c.in-Some.op.now, sym c.in-Some.ensures.op, fits_load c.in-Some.op.now c.in-Answered.answer c.in-Some.ensures.asks.load did.kind)

pub returns-in-Answered-clause-answered : goal.returns-in-Answered-clause-answered
returns-in-Answered-clause-answered g c =
    let setting = hostless g.R.Reader.reads g.E.Engine.body in
    let s = c.args.self.now in
    let did = subst (λ (l : Loaded). DidLoad (hostless g.R.Reader.reads g.E.Engine.body) c.in-Some.op.now l c.args.self.now.live c.load.new.live) c.in-Answered.is (c.in_ok-answer.ensures.did g.E.Engine.body) in
    subst (λ (w : List Waits). DidAnswer (hostless g.R.Reader.reads g.E.Engine.body) None (moment_of c.args.self.now.live c.args.self.now.waiting.items c.args.self.now.innermost c.args.self.now.times.items) (moment_of c.load.new.live w c.give.new.self c.args.self.now.times.items))
    (sym c.reserve.ensures.items)
    (moment_answered (hostless g.R.Reader.reads g.E.Engine.body) g.met.E.Engine.ends_in_time c.args.self.now.live c.load.new.live c.args.self.now.waiting.items c.args.self.now.innermost c.give.new.self c.args.self.now.times.items c.requires.deep
    c.in-Some.op.now c.in-Answered.answer c.in-Some.ensures.asks did (given_here c.args.self.now.innermost c.give.new.self c.in-Some.op.now c.in-Answered.answer c.in-Some.ensures.op c.give.ensures))

pub returns-in-Answered-clause-deep : goal.returns-in-Answered-clause-deep
returns-in-Answered-clause-deep g c =
    let did = subst (λ (l : Loaded). DidLoad (hostless g.R.Reader.reads g.E.Engine.body) c.in-Some.op.now l c.args.self.now.live c.load.new.live) c.in-Answered.is (c.in_ok-answer.ensures.did g.E.Engine.body) in
    did.same_depth ∙ c.requires.deep ∙ ap (λ (w : List Waits). suc (length w)) (sym c.reserve.ensures.items)

pub returns-in-Answered-clause-folder : goal.returns-in-Answered-clause-folder
returns-in-Answered-clause-folder g c =
    let did = subst (λ (l : Loaded). DidLoad (hostless g.R.Reader.reads g.E.Engine.body) c.in-Some.op.now l c.args.self.now.live c.load.new.live) c.in-Answered.is (c.in_ok-answer.ensures.did g.E.Engine.body) in
    did.same_folder

pub returns-in-Opens-clause-answered : goal.returns-in-Opens-clause-answered
returns-in-Opens-clause-answered g c =
    let did = subst (λ (l : Loaded). DidLoad (hostless g.R.Reader.reads g.E.Engine.body) c.in-Some.op.now l c.args.self.now.live c.load.new.live) c.in-Opens.is (c.in_ok-answer.ensures.did g.E.Engine.body) in
    let waits : c.open.new.waiting.items ≡ c.args.self.now.waiting.items ++ (record { body = c.args.self.now.innermost.standing; op = c.in-Some.op.now }) ∷ [] =
    waits_here c.args.self.now.innermost c.in-Some.op.now c.reserve.new.self.items c.open.new.waiting.items c.in-Some.ensures.op c.open.ensures.waits
    ∙ ap (λ (w : List Waits). w ++ (record { body = c.args.self.now.innermost.standing; op = c.in-Some.op.now }) ∷ []) c.reserve.ensures.items in
    moment_opened (hostless g.R.Reader.reads g.E.Engine.body) g.met.E.Engine.ends_in_time c.args.self.now.live c.load.new.live c.args.self.now.waiting.items c.args.self.now.innermost c.open.new.innermost c.args.self.now.times.items c.requires.deep
    c.in-Some.op.now c.in-Opens.work c.in-Opens.opened c.open.new.waiting.items did waits c.in_ok-body.body c.in-Some.ensures.asks (c.in_ok-body.ensures ∙ c.path.ensures) c.open.ensures.innermost

pub returns-in-Opens-clause-deep : goal.returns-in-Opens-clause-deep
returns-in-Opens-clause-deep g c =
    let did = subst (λ (l : Loaded). DidLoad (hostless g.R.Reader.reads g.E.Engine.body) c.in-Some.op.now l c.args.self.now.live c.load.new.live) c.in-Opens.is (c.in_ok-answer.ensures.did g.E.Engine.body) in
    let waits : c.open.new.waiting.items ≡ c.args.self.now.waiting.items ++ (record { body = c.args.self.now.innermost.standing; op = c.in-Some.op.now }) ∷ [] =
    waits_here c.args.self.now.innermost c.in-Some.op.now c.reserve.new.self.items c.open.new.waiting.items c.in-Some.ensures.op c.open.ensures.waits
    ∙ ap (λ (w : List Waits). w ++ (record { body = c.args.self.now.innermost.standing; op = c.in-Some.op.now }) ∷ []) c.reserve.ensures.items in
    opened_deep (hostless g.R.Reader.reads g.E.Engine.body) g.met.E.Engine.ends_in_time c.args.self.now.live c.load.new.live c.args.self.now.waiting.items c.args.self.now.innermost c.open.new.innermost c.args.self.now.times.items c.requires.deep
    c.in-Some.op.now c.in-Opens.work c.in-Opens.opened c.open.new.waiting.items did waits

pub returns-in-Opens-clause-folder : goal.returns-in-Opens-clause-folder
returns-in-Opens-clause-folder g c =
    let did = subst (λ (l : Loaded). DidLoad (hostless g.R.Reader.reads g.E.Engine.body) c.in-Some.op.now l c.args.self.now.live c.load.new.live) c.in-Opens.is (c.in_ok-answer.ensures.did g.E.Engine.body) in
    ap (λ (s : State). s.folder) did.2.opens

pub open-requires-clause-room : goal.open-requires-clause-room
open-requires-clause-room g c = let room = c.in_ok-reserve.ensures.ok in omega (arith, room)

pub open-requires-clause-loads : goal.open-requires-clause-loads
open-requires-clause-loads g c =
    let did = subst (λ (l : Loaded). DidLoad (hostless g.R.Reader.reads g.E.Engine.body) c.in-Some.op.now l c.args.self.now.live c.load.new.live) c.in-Opens.is (c.in_ok-answer.ensures.did g.E.Engine.body) in
    did.0

pub open-requires-clause-asks : goal.open-requires-clause-asks
open-requires-clause-asks g c = c.requires.asks

pub returns-in_err-reserve-clause-err : goal.returns-in_err-reserve-clause-err
returns-in_err-reserve-clause-err g c =
    on_err c.from_residual-in_err-reserve.result (ap (λ (w : List Waits). moment_of c.args.self.now.live w c.args.self.now.innermost c.args.self.now.times.items) c.reserve.ensures.items)

pub returns-in_err-answer-clause-err : goal.returns-in_err-answer-clause-err
returns-in_err-answer-clause-err g c =
    on_err c.from_residual-in_err-answer.result (ap (λ (s : State). moment_of s c.reserve.new.self.items c.args.self.now.innermost c.args.self.now.times.items) c.in_err-answer.ensures.err
    ∙ ap (λ (w : List Waits). moment_of c.args.self.now.live w c.args.self.now.innermost c.args.self.now.times.items) c.reserve.ensures.items)
