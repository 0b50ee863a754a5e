use Rattle.std.proofs.Common.{ℕ, List, refl, subst, ◌∙◌}
use Rattle.sw_io.specs.declared.disk.DiskEnd.TheVariants.{Failed, Memory}
use Rattle.sw_io.proofs.Causes.{failed_so, failed_else, fine_ok, fine_else, spared}
use Rattle.sw_cmd_disk_folder.specs.Held.{IsRead, IsBrokenOff}
use Rattle.sw_cmd_line.specs.Forms.{target_seen}
use Rattle.sw_keeper.specs.Keeping.{Table}
use Rattle.sw_cmd_protocol.specs.Heard.{told_of}
use Rattle.sw_cmd_protocol.specs.Turns.{standing, Says, SayStops}
use Rattle.sw_cmd_protocol.proofs.Fronts.{if_ok, if_err}
use Rattle.sw_cmd_session.specs.Sheets.{hostless}
use Rattle.sw_cmd_protocol.specs.declared.stop.Stop.TheVariants as Stop
use Rattle.sw_cmd_run.specs.Poll.{Scan, held, poll}
use Rattle.sw_cmd_run.proofs.Scanning.{unread_fails, unread_starves}
use Rattle.sw_cmd_run.proofs.scan.scan.Goals as goal

pub returns-in-Ok-clause-ok : goal.returns-in-Ok-clause-ok
returns-in-Ok-clause-ok g c =
    let setting = hostless g.E.Engine.body in
    let t = target_seen c.args.target.now in
    let before = g.D.Disk.course c.args.disk.now c.args.target.now.dir.now in
    let now = g.D.Disk.course c.read_folder.new.disk c.args.target.now.dir.now in
    let read = subst (λ (d : List ℕ). IsRead (g.D.Disk.course c.args.disk.now d) (g.D.Disk.course c.read_folder.new.disk d) c.read_folder.new.holder.folder) c.as_str.ensures c.in-Ok.ensures.ok in
    if_ok c.compile.result (λ reply says. subst (λ (kept : Table). Says (poll setting) Scan (told_of reply) (standing (held t before kept) (g.E.Engine.ran c.args.engine.now))
    (standing (held t now c.compile.new.watched.kept) (g.E.Engine.ran c.compile.new.engine)) (g.K.Sink.written c.args.sink.now) (g.K.Sink.written c.compile.new.sink))
    (c.read_folder.ensures.rest ∙ c.clear.ensures.kept) (says before now read)) c.compile.ensures.ok

pub returns-in-Ok-clause-err : goal.returns-in-Ok-clause-err
returns-in-Ok-clause-err g c =
    let setting = hostless g.E.Engine.body in
    let t = target_seen c.args.target.now in
    let before = g.D.Disk.course c.args.disk.now c.args.target.now.dir.now in
    let now = g.D.Disk.course c.read_folder.new.disk c.args.target.now.dir.now in
    let read = subst (λ (d : List ℕ). IsRead (g.D.Disk.course c.args.disk.now d) (g.D.Disk.course c.read_folder.new.disk d) c.read_folder.new.holder.folder) c.as_str.ensures c.in-Ok.ensures.ok in
    if_err c.compile.result (λ stop says. subst (λ (kept : Table). SayStops (poll setting) stop Scan (standing (held t before kept) (g.E.Engine.ran c.args.engine.now))
    (standing (held t now c.compile.new.watched.kept) (g.E.Engine.ran c.compile.new.engine)) (g.K.Sink.written c.args.sink.now) (g.K.Sink.written c.compile.new.sink))
    (c.read_folder.ensures.rest ∙ c.clear.ensures.kept) (says before now read)) c.compile.ensures.err

pub returns-in-Err-Failed-clause-err : goal.returns-in-Err-Failed-clause-err
returns-in-Err-Failed-clause-err g c =
    let broken = subst (λ (d : List ℕ). IsBrokenOff (g.D.Disk.course c.args.disk.now d) (g.D.Disk.course c.read_folder.new.disk d)) c.as_str.ensures c.in-Err-Failed.ensures.err in
    unread_fails (hostless g.E.Engine.body) (target_seen c.args.target.now) _ _ c.args.watched.now.kept c.read_folder.new.holder.kept (g.E.Engine.ran c.args.engine.now)
    (c.read_folder.ensures.rest ∙ c.clear.ensures.kept) broken (g.K.Sink.written c.args.sink.now)

pub returns-in-Err-Memory-clause-err : goal.returns-in-Err-Memory-clause-err
returns-in-Err-Memory-clause-err g c =
    let broken = subst (λ (d : List ℕ). IsBrokenOff (g.D.Disk.course c.args.disk.now d) (g.D.Disk.course c.read_folder.new.disk d)) c.as_str.ensures c.in-Err-Memory.ensures.err in
    unread_starves (hostless g.E.Engine.body) (target_seen c.args.target.now) _ _ c.args.watched.now.kept c.read_folder.new.holder.kept (g.E.Engine.ran c.args.engine.now)
    (c.read_folder.ensures.rest ∙ c.clear.ensures.kept) broken (g.K.Sink.written c.args.sink.now)

-- the compile doesn't ask the disk
pub returns-in-Ok-clause-disk_cause : goal.returns-in-Ok-clause-disk_cause
returns-in-Ok-clause-disk_cause g c = spared Stop.OutsideFailed _ _ c.compile.result c.compile.ensures.no_disk (fine_ok Failed _ _ _ c.in-Ok.ensures.cause)

pub returns-in-Err-Failed-clause-disk_cause : goal.returns-in-Err-Failed-clause-disk_cause
returns-in-Err-Failed-clause-disk_cause g c = let e = rw c.in-Err-Failed.field-0-is at c.in-Err-Failed.ensures.cause in failed_so Stop.OutsideFailed _ _ e.later (e.rose refl)

pub returns-in-Err-Memory-clause-disk_cause : goal.returns-in-Err-Memory-clause-disk_cause
returns-in-Err-Memory-clause-disk_cause g c = failed_else Stop.OutsideFailed _ _ Stop.Memory (λ e. cc) (fine_else Failed _ _ Memory (λ e. cc) (rw c.in-Err-Memory.field-0-is at c.in-Err-Memory.ensures.cause))
