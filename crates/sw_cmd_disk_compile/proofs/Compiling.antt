-- What comes of one compile of a disk's folder.
use Rattle.std.proofs.Common.{◌≡◌, ℕ, List, [], inr, sym, ap, ◌∙◌}
use Rattle.std.proofs.lemmas.List.{append-nil}
use Rattle.std.specs.declared.option.Option.{Option}
use Rattle.sw_io.specs.Disks.{Course}
use Rattle.sw_folder.specs.Files.{Files}
use Rattle.sw_cmd_disk_folder.specs.Held.{IsRead, IsBrokenOff}
use Rattle.sw_cmd_line.specs.Forms.{Target}
use Rattle.sw_modules.specs.Fresh.{Setting}
use Rattle.sw_record.specs.declared.reply.Reply.{Reply}
use Rattle.sw_record.specs.declared.reply.Outcome.{Outcome}
use Rattle.sw_record.specs.declared.reply.Outcome.TheVariants.{Css, Error}
use Rattle.sw_cmd_protocol.specs.Heard.{Hearing}
use Rattle.sw_cmd_protocol.proofs.Writing.{appends_none}
use Rattle.sw_keeper.specs.Compile.{compiled, CompilesTo, paths_of}
use Rattle.sw_keeper.specs.Keeping.{Keeping}
use Rattle.sw_cmd_disk_compile.specs.declared.ending.Ending.{Ending}
use Rattle.sw_cmd_disk_compile.specs.declared.ending.Ending.TheVariants.{Css as Css_end, Error as Error_end, SinkFailed, Memory, DiskFailed}
use Rattle.sw_cmd_disk_compile.specs.Once.{Surroundings, surroundings, text_of, Compiles, Forgets, WritesBy, HearsBy, EndsBy}

pub read_on : (before now : Option Course) (folder : Files) → IsRead before now folder → IsBrokenOff before now
read_on before now folder read = λ c e. inr ((read c e).0)

-- the folder wasn't read whole, so no body ran
pub unread : (before now : Option Course) (written : Option (List ℕ)) (ran : List (List ℕ)) → IsBrokenOff before now → Forgets (surroundings before written ran) (surroundings now written ran)
unread before now written ran broken = record { read = broken; more = []; told = sym (append-nil ran); sends = appends_none _ }

-- the compile over no kept run
pub compiles : (setting : Setting) (target : Target) (old new : Surroundings) (before after : Keeping) (reply : Reply) → before.kept ≡ [] → IsRead old.course new.course before.folder
    → CompilesTo (compiled setting before.folder target.paths target.entry []) reply before after [] old.ran new.ran → Compiles setting target reply old new
compiles setting target old new before after reply none read c = record {
  folder = before.folder;
  read = read;
  says = c.says;
  outcome = c.outcome;
  bodies = rw none at c.ran;
  told = c.told;
}

module _ {State : Type 0} (setting : Setting) (target : Target) (hears : Hearing Reply State) (old new : Surroundings) (before now : State) (reply : Reply) where
  pub ends_by : (ending : Ending) (outcome : Outcome) → reply.outcome ≡ outcome → Compiles setting target reply old new → WritesBy ending outcome old.written new.written
      → HearsBy ending hears reply before now → EndsBy ending setting target hears old new before now
  ends_by Css_end (Css bytes) e c w h = (bytes, record { reply = reply; compiles = c; is = e; sends = w; heard = h })
  ends_by Css_end (Error fault) e c w h = absurd w
  ends_by Error_end (Css bytes) e c w h = absurd w
  ends_by Error_end (Error fault) e c w h = (fault, record { reply = reply; compiles = c; is = e; sends = w; heard = h })
  ends_by SinkFailed outcome e c w h = (record { reply = reply; compiles = c; front = w.0; back = w.1; parts = ap text_of e ∙ w.2; sends = w.3 }, h)
  ends_by Memory outcome e c w h = (record { read = read_on old.course new.course c.folder c.read; more = paths_of reply.ran; told = c.told; sends = w }, h)
  ends_by DiskFailed outcome e c w h = absurd w
