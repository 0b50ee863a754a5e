-- What comes of a scan.
use Rattle.std.proofs.Common.{◌≡◌, ℕ, List, [], ◌∷◌, ◌++◌, refl, sym, ap}
use Rattle.std.specs.declared.option.Option.{Option}
use Rattle.std.specs.Io.KnownBytes.{Appends}
use Rattle.std.proofs.lemmas.List.{append-nil}
use Rattle.sw_io.specs.Disks.{Course}
use Rattle.sw_folder.specs.Files.{Files}
use Rattle.sw_cmd_disk_folder.specs.Held.{IsRead, IsBrokenOff}
use Rattle.sw_cmd_line.specs.Forms.{Target}
use Rattle.sw_wire.specs.Replies.{reply_text, memory_text}
use Rattle.sw_modules.specs.Fresh.{Setting}
use Rattle.sw_record.specs.declared.reply.Reply.{Reply}
use Rattle.sw_keeper.specs.Compile.{compiled, CompilesTo}
use Rattle.sw_keeper.specs.Keeping.{Table, Keeping}
use Rattle.sw_cmd_protocol.specs.declared.stop.Stop.{Stop}
use Rattle.sw_cmd_protocol.specs.declared.stop.Stop.TheVariants.{Memory, OutsideFailed}
use Rattle.sw_cmd_protocol.specs.Protocol.{Turn}
use Rattle.sw_cmd_protocol.specs.Turns.{standing, Does, Says, SaysSome, SayStops}
use Rattle.sw_cmd_protocol.proofs.Writing.{appends_none}
use Rattle.sw_cmd_protocol.proofs.Saying.{does, says, says_some, send_ends}
use Rattle.sw_cmd_protocol.specs.Sending.{IsCutShort, SendEnds}
use Rattle.sw_cmd_session.proofs.Turning.{one_reply, reply_is}
use Rattle.sw_cmd_run.specs.Poll.{Scan, Held, held, Answered, Refused, Unread, compiled_of, answered_turn, refused_turn, unread_turn, turn_of, poll}

answered_is : (setting : Setting) (h : Held) (course : Option Course) (folder : Files) (reply : Reply) (kept : Table)
    → turn_of setting h Scan (Answered course folder reply.ran kept) ≡ answered_turn h course (compiled_of setting h folder) reply.ran kept
unfolding turn_of
answered_is setting h course folder reply kept = refl

refused_is : (setting : Setting) (h : Held) (course : Option Course) (folder : Files) (ran : List (List ℕ)) → turn_of setting h Scan (Refused course folder ran) ≡ refused_turn h course ran
unfolding turn_of
refused_is setting h course folder ran = refl

unread_is : (setting : Setting) (h : Held) (course : Option Course) → turn_of setting h Scan (Unread course) ≡ unread_turn h course
unfolding turn_of
unread_is setting h course = refl

module _ (setting : Setting) (t : Target) (before now : Option Course) (old new : Keeping) (ran ran_now : List (List ℕ)) (written sent : Option (List ℕ)) (read : IsRead before now old.folder) where
  -- the compile was answered
  module _ (reply : Reply) (c : CompilesTo (compiled setting old.folder t.paths t.entry []) reply old new [] ran ran_now) where
    abbrev answered : Turn Held Reply
    answered = answered_turn (held t before old.kept) now (compiled_of setting (held t before old.kept) old.folder) reply.ran new.kept

    pub compile_says : Appends written sent (reply_text reply) → Says (poll setting) Scan (reply ∷ []) (standing (held t before old.kept) ran) (standing (held t now new.kept) ran_now) written sent
    compile_says a =
        says (poll setting) Scan (Answered now old.folder reply.ran new.kept) (standing (held t before old.kept) ran) (standing (held t now new.kept) ran_now) answered
        (answered_is setting (held t before old.kept) now old.folder reply new.kept) (read, c.ran, c.kept) refl c.told written sent (reply_text reply)
        (reply_is reply (compiled setting old.folder t.paths t.entry []) c.says c.outcome) (reply ∷ [])
        (one_reply reply (compiled setting old.folder t.paths t.entry []) c.says c.outcome) tt a

    pub compile_stops : (stop : Stop) → SendEnds stop (reply_text reply) written sent → SayStops (poll setting) stop Scan (standing (held t before old.kept) ran) (standing (held t now new.kept) ran_now) written sent
    compile_stops =
        send_ends (poll setting) Scan (Answered now old.folder reply.ran new.kept) (standing (held t before old.kept) ran) (standing (held t now new.kept) ran_now) answered
        (answered_is setting (held t before old.kept) now old.folder reply new.kept) (read, c.ran, c.kept) refl c.told written sent (reply_text reply)
        (reply_is reply (compiled setting old.folder t.paths t.entry []) c.says c.outcome) tt

  -- the compile was refused for want of memory
  module _ (same : new ≡ old) (more : List (List ℕ)) (told : ran_now ≡ ran ++ more) (reply : List ℕ) (e : reply ≡ memory_text) where
    pub refusal_says : Appends written sent reply → Says (poll setting) Scan [] (standing (held t before old.kept) ran) (standing (held t now new.kept) ran_now) written sent
    refusal_says a =
        says (poll setting) Scan (Refused now old.folder more) (standing (held t before old.kept) ran) (standing (held t now new.kept) ran_now) (refused_turn (held t before old.kept) now more)
        (refused_is setting (held t before old.kept) now old.folder more) read (ap (λ (k : Keeping). held t now k.kept) same) told written sent reply e [] refl tt a

    pub refusal_says_some : IsCutShort reply written sent → SaysSome (poll setting) Scan (standing (held t before old.kept) ran) (standing (held t now new.kept) ran_now) written sent
    refusal_says_some s =
        says_some (poll setting) Scan (Refused now old.folder more) (standing (held t before old.kept) ran) (standing (held t now new.kept) ran_now) (refused_turn (held t before old.kept) now more)
        (refused_is setting (held t before old.kept) now old.folder more) read (ap (λ (k : Keeping). held t now k.kept) same) told written sent reply e s

-- the reading broke off
module _ (setting : Setting) (t : Target) (before now : Option Course) (kept kept_now : Table) (ran : List (List ℕ)) (same : kept_now ≡ kept) (broken : IsBrokenOff before now) where
  abbrev unread : Does (poll setting) Scan (standing (held t before kept) ran) (standing (held t now kept_now) ran)
  unread = does (poll setting) Scan (Unread now) (standing (held t before kept) ran) (standing (held t now kept_now) ran) (unread_turn (held t before kept) now)
      (unread_is setting (held t before kept) now) broken (ap (held t now) same) (sym (append-nil ran))

  pub unread_fails : (written : Option (List ℕ)) → SayStops (poll setting) OutsideFailed Scan (standing (held t before kept) ran) (standing (held t now kept_now) ran) written written
  unread_fails written = record { does = unread; left = tt; sends = appends_none written }

  pub unread_starves : (written : Option (List ℕ)) → SayStops (poll setting) Memory Scan (standing (held t before kept) ran) (standing (held t now kept_now) ran) written written
  unread_starves written = record { does = unread; left = tt; sends = appends_none written }
