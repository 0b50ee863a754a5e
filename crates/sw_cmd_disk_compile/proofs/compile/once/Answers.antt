use Rattle.std.proofs.Common.{List, ℕ, refl, ap, ◌∙◌, subst}
use Rattle.sw_io.specs.declared.disk.DiskEnd.TheVariants.{Failed, Memory}
use Rattle.sw_io.proofs.Causes.{fine_ok, fine_else}
use Rattle.sw_cmd_disk_folder.specs.Held.{IsRead, IsBrokenOff}
use Rattle.sw_cmd_line.specs.Forms.{target_seen}
use Rattle.sw_keeper.specs.Keeping.{Keeping}
use Rattle.sw_modules.specs.Settings.{hostless}
use Rattle.sw_cmd_disk_compile.specs.Once.{surroundings}
use Rattle.sw_cmd_disk_compile.proofs.Compiling.{unread, compiles, ends_by}
use Rattle.sw_cmd_disk_compile.proofs.compile.once.Goals as goal

pub returns-clause-ends : goal.returns-clause-ends
returns-clause-ends g c =
    let setting = hostless g.R.Reader.reads g.E.Engine.body in
    let target = target_seen c.args.target.now in
    let old = surroundings (g.D.Disk.course c.args.disk.now c.args.target.now.dir.now) (g.K.Sink.written c.args.output.now.sink) (g.E.Engine.ran c.args.engine.now) in
    let new = surroundings (g.D.Disk.course c.read_folder.new.disk c.args.target.now.dir.now) (g.K.Sink.written c.write_outcome-ending.new.sink) (g.E.Engine.ran c.compile.new.engine) in
    ends_by setting target g.T.Audience.hears old new (g.T.Audience.state c.args.output.now.audience) (g.T.Audience.state c.tell_written.new.audience) c.in-Ok-compile.reply
    c.write_outcome-ending.result c.in-Ok-compile.reply.outcome refl
    (compiles setting target old new c.read_folder.new.holder c.compile.new.self c.in-Ok-compile.reply
    (c.read_folder.ensures.rest ∙ ap (λ (k : Keeping). k.kept) c.new-watched.ensures)
    (subst (λ (d : List ℕ). IsRead (g.D.Disk.course c.args.disk.now d) (g.D.Disk.course c.read_folder.new.disk d) c.read_folder.new.holder.folder) c.as_str.ensures c.in-Ok.ensures.ok)
    c.in-Ok-compile.ensures.ok) c.write_outcome-ending.ensures.ends c.tell_written.ensures

pub returns-in-Err-Failed-clause-ends : goal.returns-in-Err-Failed-clause-ends
returns-in-Err-Failed-clause-ends g c =
    let broken = subst (λ (d : List ℕ). IsBrokenOff (g.D.Disk.course c.args.disk.now d) (g.D.Disk.course c.read_folder.new.disk d)) c.as_str.ensures c.in-Err-Failed.ensures.err in
    (unread _ _ (g.K.Sink.written c.args.output.now.sink) (g.E.Engine.ran c.args.engine.now) broken, refl, refl)

pub returns-in-Err-Memory-clause-ends : goal.returns-in-Err-Memory-clause-ends
returns-in-Err-Memory-clause-ends g c =
    let broken = subst (λ (d : List ℕ). IsBrokenOff (g.D.Disk.course c.args.disk.now d) (g.D.Disk.course c.read_folder.new.disk d)) c.as_str.ensures c.in-Err-Memory.ensures.err in
    (unread _ _ (g.K.Sink.written c.args.output.now.sink) (g.E.Engine.ran c.args.engine.now) broken, refl)

pub returns-clause-no_disk_fault : goal.returns-clause-no_disk_fault
returns-clause-no_disk_fault g c = λ _. fine_ok Failed _ _ _ c.in-Ok.ensures.cause

pub returns-in-Err-Memory-clause-no_disk_fault : goal.returns-in-Err-Memory-clause-no_disk_fault
returns-in-Err-Memory-clause-no_disk_fault g c = λ _. fine_else Failed _ _ Memory (λ e. cc) (rw c.in-Err-Memory.field-0-is at c.in-Err-Memory.ensures.cause)
