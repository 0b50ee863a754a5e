-- What one turn of the loop does, by how it ends.
use Rattle.std.specs.Prelude.{◌≡◌, ◌⊎◌, ℕ, ◌≤◌, List, [], ◌++◌, length, Option}
use Rattle.std.specs.Io.KnownBytes.{Appends, IsAtEnd}
use Rattle.sw_io.specs.Reads.{Reads}
use Rattle.sw_cmd_protocol.specs.declared.stop.Stop.{Stop}
use Rattle.sw_cmd_protocol.specs.declared.stop.Stop.TheVariants.{Ended, Wrong, CutOff, SourceFailed, SinkFailed, Memory, OutsideFailed, Over as Over_stop}
use Rattle.sw_cmd_protocol.specs.Script.{Next, Whole, Closing, NoRequest, Short, End, Bad, Over, Cut, Grammar, last}
use Rattle.sw_cmd_protocol.specs.Protocol.{Protocol}

-- where the loop stands: the bytes taken ahead, those left in the source, and those written
pub record Place : Type 0 where
  pub ahead : List ℕ
  pub left : Option (List ℕ)
  pub written : Option (List ℕ)

abbrev pub place : List ℕ → Option (List ℕ) → Option (List ℕ) → Place
place ahead left written = record { ahead = ahead; left = left; written = written }

-- the bytes used between two places
abbrev pub Uses : Place → List ℕ → Place → Type 0
Uses old used new = Reads old.ahead old.left used new.ahead new.left

-- what is held, and the paths of the bodies that ran
pub record Standing (Held : Type 0) : Type 0 where
  pub held : Held
  pub ran : List (List ℕ)

abbrev pub standing : {Held : Type 0} → Held → List (List ℕ) → Standing Held
standing held ran = record { held = held; ran = ran }

-- a request was carried out
pub record Does {Event Mark Held Reply : Type 0} (p : Protocol Event Mark Held Reply) (event : Event)
    (before after : Standing Held) : Type 0 where
  pub mark : Mark
  pub is_mark : p.IsMark before.held event mark
  pub ran : after.ran ≡ before.ran ++ (p.turn_of before.held event mark).ran
  pub held : after.held ≡ (p.turn_of before.held event mark).held

-- a request was carried out, and its reply was written; these replies are to be told
pub record Says {Event Mark Held Reply : Type 0} (p : Protocol Event Mark Held Reply) (event : Event)
    (told : List Reply) (before after : Standing Held) (written now : Option (List ℕ)) : Type 0 where
  pub does : Does p event before after
  pub tells : (p.turn_of before.held event does.mark).told ≡ told
  pub said : p.IsSaid before.held event does.mark
  pub sends : Appends written now (p.turn_of before.held event does.mark).text

-- a request was carried out, and a front of its reply was written
pub record SaysSome {Event Mark Held Reply : Type 0} (p : Protocol Event Mark Held Reply) (event : Event)
    (before after : Standing Held) (written now : Option (List ℕ)) : Type 0 where
  pub does : Does p event before after
  pub front : List ℕ
  pub back : List ℕ
  pub parts : (p.turn_of before.held event does.mark).text ≡ front ++ back
  pub sends : Appends written now front

-- a request was carried out, and for this stop nothing of its reply was written
pub record SaysNothing {Event Mark Held Reply : Type 0} (p : Protocol Event Mark Held Reply) (stop : Stop)
    (event : Event) (before after : Standing Held) (written now : Option (List ℕ)) : Type 0 where
  pub does : Does p event before after
  pub left : p.IsLeft stop does.mark
  pub sends : Appends written now []

-- how a request ends that was carried out and whose reply wasn't written whole
abbrev pub SayStops : {Event Mark Held Reply : Type 0} → Protocol Event Mark Held Reply → Stop → Event → Standing Held
    → Standing Held → Option (List ℕ) → Option (List ℕ) → Type 0
SayStops p Ended event before after written now = ⊥
SayStops p Wrong event before after written now = ⊥
SayStops p CutOff event before after written now = ⊥
SayStops p SourceFailed event before after written now = ⊥
SayStops p SinkFailed event before after written now = SaysSome p event before after written now
SayStops p Memory event before after written now = SaysNothing p Memory event before after written now
SayStops p OutsideFailed event before after written now = SaysNothing p OutsideFailed event before after written now
SayStops p Over_stop event before after written now = ⊥

-- these bytes were used, and they are a whole request, whatever follows
pub record Takes {Event : Type 0} (meaning : List ℕ → Next Event) (event : Event) (old new : Place) : Type 0 where
  pub used : List ℕ
  pub uses : Uses old used new
  pub whole : (rest : List ℕ) → meaning (used ++ rest) ≡ Whole event rest

-- a request was read and carried out, and its reply was written; these replies are to be told
pub record Answers {Event Mark Held Reply : Type 0} (meaning : List ℕ → Next Event) (p : Protocol Event Mark Held Reply)
    (told : List Reply) (old : Place) (before : Standing Held) (new : Place) (after : Standing Held) : Type 0 where
  pub event : Event
  pub takes : Takes meaning event old new
  pub says : Says p event told before after old.written new.written

-- a request was read and carried out, and a front of its reply was written; little was taken past it
pub record Breaks {Event Mark Held Reply : Type 0} (meaning : List ℕ → Next Event) (p : Protocol Event Mark Held Reply)
    (old : Place) (before : Standing Held) (new : Place) (after : Standing Held) : Type 0 where
  pub event : Event
  pub takes : Takes meaning event old new
  pub says : SaysSome p event before after old.written new.written
  pub near : length new.ahead ≤ 4096

-- a request was read and carried out, and for this stop nothing was written
pub record Leaves {Event Mark Held Reply : Type 0} (stop : Stop) (meaning : List ℕ → Next Event)
    (p : Protocol Event Mark Held Reply) (old : Place) (before : Standing Held) (new : Place) (after : Standing Held) :
    Type 0 where
  pub event : Event
  pub takes : Takes meaning event old new
  pub says : SaysNothing p stop event before after old.written new.written

-- bytes were used that begin as the meaning says, however they go on, and nothing was written
pub record Finds {T : Type 0} (meaning : List ℕ → T) (is : T) (old new : Place) : Type 0 where
  pub used : List ℕ
  pub uses : Uses old used new
  pub means : (rest : List ℕ) → meaning (used ++ rest) ≡ is
  pub sends : Appends old.written new.written []

-- all that the source gave was used, it means this, and nothing was written
pub record Drains {T : Type 0} (meaning : List ℕ → T) (is : T) (old new : Place) : Type 0 where
  pub used : List ℕ
  pub uses : Uses old used new
  pub means : meaning used ≡ is
  pub none : new.ahead ≡ []
  pub sends : Appends old.written new.written []

-- some bytes were used, and nothing was written
pub record Forgets (old new : Place) : Type 0 where
  pub used : List ℕ
  pub uses : Uses old used new
  pub sends : Appends old.written new.written []

-- how a turn ends that doesn't answer its request whole
abbrev pub TurnEnds : {Event Mark Held Reply : Type 0} → (List ℕ → Next Event) → Protocol Event Mark Held Reply → Stop
    → Place → Standing Held → Place → Standing Held → Type 0
TurnEnds meaning p Ended old before new after = Finds meaning Closing old new × (after ≡ before)
TurnEnds meaning p Wrong old before new after = Finds meaning NoRequest old new × (after ≡ before)
TurnEnds meaning p CutOff old before new after = Drains meaning Short old new × IsAtEnd new.left × (after ≡ before)
TurnEnds meaning p SourceFailed old before new after = Drains meaning Short old new × (after ≡ before)
TurnEnds meaning p SinkFailed old before new after = Breaks meaning p old before new after
TurnEnds meaning p Memory old before new after =
    (Forgets old new × (after ≡ before)) ⊎ Leaves Memory meaning p old before new after
TurnEnds meaning p OutsideFailed old before new after = Leaves OutsideFailed meaning p old before new after
TurnEnds meaning p Over_stop old before new after = ⊥

-- how it ends where no more requests are answered
abbrev pub LastEnds : {Event : Type 0} → Grammar Event → Stop → Place → Place → Type 0
LastEnds grammar Ended old new = Finds (last grammar) End old new
LastEnds grammar Wrong old new = Finds (last grammar) Bad old new
LastEnds grammar CutOff old new = Drains (last grammar) Cut old new × IsAtEnd new.left
LastEnds grammar SourceFailed old new = Drains (last grammar) Cut old new
LastEnds grammar SinkFailed old new = ⊥
LastEnds grammar Memory old new = Forgets old new
LastEnds grammar OutsideFailed old new = ⊥
LastEnds grammar Over_stop old new = Finds (last grammar) Over old new
