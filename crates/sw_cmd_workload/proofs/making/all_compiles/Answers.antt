use Rattle.std.proofs.Common.{◌≡◌, ℕ, [], refl, sym, subst, arith}
use Rattle.std.proofs.lemmas.List.{append-nil}
use Rattle.sw_modules.specs.Settings.{hostless}
use Rattle.sw_cmd_workload.specs.Ends.{standing, Counts}
use Rattle.sw_cmd_workload.proofs.Going.{going_start, nothing_yet, on_err, going_breaks, uncounted, going_on}
use Rattle.sw_cmd_workload.proofs.making.all_compiles.Goals as goal

pub returns-in_err-keeper-clause-err : goal.returns-in_err-keeper-clause-err
returns-in_err-keeper-clause-err g c =
    on_err c.from_residual.result (nothing_yet (hostless g.R.Reader.reads g.E.Engine.body) c.args.number g.T.Audience.hears
    (standing (g.E.Engine.ran c.args.engine.now) (g.T.Audience.state c.args.audience.now)))

pub turns-init : goal.turns-init
turns-init g c =
    going_start (hostless g.R.Reader.reads g.E.Engine.body) c.args.number g.T.Audience.hears c.new-tally.result c.in_ok-keeper.keeper
    (standing (g.E.Engine.ran c.args.engine.now) (g.T.Audience.state c.args.audience.now)) c.in_ok-keeper.ensures.folder c.in_ok-keeper.ensures.kept c.new-tally.ensures.ran c.new-tally.ensures.css

pub returns-in_err-edit-clause-err : goal.returns-in_err-edit-clause-err
returns-in_err-edit-clause-err g c =
    on_err c.from_residual-in_err-edit.result (going_breaks (hostless g.R.Reader.reads g.E.Engine.body) c.args.number g.T.Audience.hears c.turns.tally c.turns.keeper c.turns.turn
    (standing (g.E.Engine.ran c.args.engine.now) (g.T.Audience.state c.args.audience.now)) (standing (g.E.Engine.ran c.turns.engine) (g.T.Audience.state c.turns.audience)) c.turns.invariant
    (standing (g.E.Engine.ran c.turns.engine) (g.T.Audience.state c.turns.audience)) [] (omega arith) (sym (append-nil (g.E.Engine.ran c.turns.engine))) refl)

pub returns-in_err-reply-clause-err : goal.returns-in_err-reply-clause-err
returns-in_err-reply-clause-err g c =
    on_err c.from_residual-in_err-reply.result (going_breaks (hostless g.R.Reader.reads g.E.Engine.body) c.args.number g.T.Audience.hears c.turns.tally c.turns.keeper c.turns.turn
    (standing (g.E.Engine.ran c.args.engine.now) (g.T.Audience.state c.args.audience.now)) (standing (g.E.Engine.ran c.turns.engine) (g.T.Audience.state c.turns.audience)) c.turns.invariant
    (standing (g.E.Engine.ran c.compile.new.engine) (g.T.Audience.state c.turns.audience)) c.in_err-reply.ensures.cut.0 (omega arith) c.in_err-reply.ensures.cut.1 refl)

pub returns-in_err-count-clause-err : goal.returns-in_err-count-clause-err
returns-in_err-count-clause-err g c =
    on_err c.from_residual-in_err-count.result (uncounted (hostless g.R.Reader.reads g.E.Engine.body) c.args.number g.T.Audience.hears c.turns.tally c.turns.keeper c.turns.turn
    (standing (g.E.Engine.ran c.args.engine.now) (g.T.Audience.state c.args.audience.now)) (standing (g.E.Engine.ran c.turns.engine) (g.T.Audience.state c.turns.audience)) c.turns.invariant
    c.edit.new.keeper c.compile.new.keeper c.in_ok-reply.reply (standing (g.E.Engine.ran c.compile.new.engine) (g.T.Audience.state c.hear.new.self))
    c.in_ok-edit.ensures.folder c.edit.ensures.kept c.in_ok-reply.ensures.reply c.in_ok-reply.ensures.after c.in_ok-reply.ensures.ran c.hear.ensures (omega arith))

pub turns-preserved : goal.turns-preserved
turns-preserved g c =
    going_on (hostless g.R.Reader.reads g.E.Engine.body) c.args.number g.T.Audience.hears c.turns.tally c.turns.keeper c.turns.turn
    (standing (g.E.Engine.ran c.args.engine.now) (g.T.Audience.state c.args.audience.now)) (standing (g.E.Engine.ran c.turns.engine) (g.T.Audience.state c.turns.audience)) c.turns.invariant
    c.edit.new.keeper c.compile.new.keeper c.in_ok-reply.reply (standing (g.E.Engine.ran c.compile.new.engine) (g.T.Audience.state c.hear.new.self))
    c.in_ok-edit.ensures.folder c.edit.ensures.kept c.in_ok-reply.ensures.reply c.in_ok-reply.ensures.after c.in_ok-reply.ensures.ran c.hear.ensures c.count.new.self c.in_ok-count.ensures.ran c.in_ok-count.ensures.css

pub returns-clause-ok : goal.returns-clause-ok
returns-clause-ok g c =
    let end : c.turns.turn ≡ 51 = omega arith in
    subst (λ (n : ℕ). Counts (hostless g.R.Reader.reads g.E.Engine.body) c.args.number n g.T.Audience.hears c.turns.tally (standing (g.E.Engine.ran c.args.engine.now) (g.T.Audience.state c.args.audience.now))
    (standing (g.E.Engine.ran c.turns.engine) (g.T.Audience.state c.turns.audience))) end c.turns.invariant.counts
