-- What was done, by how it ended. This project's own rule.
use Rattle.std.specs.Prelude.{◌≡◌, ◌⊎◌, ℕ, ◌≤◌, List, [], ◌∷◌, ◌++◌, length, ⊤, Option}
use Rattle.std.specs.Io.KnownBytes.{Appends, Consumes, IsAtEnd}
use Rattle.sw_cmd_protocol.specs.declared.stop.Stop.{Stop}
use Rattle.sw_cmd_protocol.specs.declared.stop.Stop.TheVariants.{Ended, Wrong, CutOff, SourceFailed, SinkFailed, Memory, OutsideFailed, Over as Over_stop}
use Rattle.sw_cmd_protocol.specs.Script.{Ending, End, Bad, Over, Cut, Grammar, script, behind}
use Rattle.sw_cmd_protocol.specs.Protocol.{Protocol, Turn}
use Rattle.sw_cmd_protocol.specs.Transcript.{AreMarks, AreSaid, turns, text, ran_in, held_after}

-- what is around the answers: the bytes left in the source, those written into the sink, what is held, and the paths of
-- the bodies that ran
pub record Surroundings (Held : Type 0) : Type 0 where
  pub left : Option (List ℕ)
  pub written : Option (List ℕ)
  pub held : Held
  pub ran : List (List ℕ)

abbrev pub surroundings : {Held : Type 0} → Option (List ℕ) → Option (List ℕ) → Held → List (List ℕ) → Surroundings Held
surroundings left written held ran = record { left = left; written = written; held = held; ran = ran }

-- how the script of what was taken ends
abbrev pub EndsIn : Stop → Ending → Option (List ℕ) → Type 0
EndsIn Ended ending left = ending ≡ End
EndsIn Wrong ending left = ending ≡ Bad
EndsIn CutOff ending left = (ending ≡ Cut) × IsAtEnd left
EndsIn SourceFailed ending left = ending ≡ Cut
EndsIn SinkFailed ending left = ⊤
EndsIn Memory ending left = ⊤
EndsIn OutsideFailed ending left = ⊤
EndsIn Over_stop ending left = ending ≡ Over

-- the bodies of these turns ran, and what they leave is held
pub record Did {Held Reply : Type 0} (done : List (Turn Held Reply)) (old new : Surroundings Held) : Type 0 where
  pub ran : new.ran ≡ old.ran ++ ran_in done
  pub held : new.held ≡ held_after old.held done

-- every request has its mark, so that each was carried out, and their replies were written
pub record Tells {Event Mark Held Reply : Type 0} (events : List Event) (marks : List Mark)
    (done : List (Turn Held Reply)) (out : List ℕ) : Type 0 where
  pub each : length marks ≡ length events
  pub written : out ≡ text done

-- the replies of all turns but the last were written, and a front of that one's; little was taken past its request
pub record BreaksOff {Event Held Reply : Type 0} (grammar : Grammar Event) (done : List (Turn Held Reply))
    (taken out : List ℕ) : Type 0 where
  pub whole : List (Turn Held Reply)
  pub broken : Turn Held Reply
  pub front : List ℕ
  pub back : List ℕ
  pub order : done ≡ whole ++ broken ∷ []
  pub parts : broken.text ≡ front ++ back
  pub written : out ≡ text whole ++ front
  pub near : length (behind grammar (length done) taken) ≤ 4096

-- the replies of all turns but the last were written; that one's request has a mark with which this stop can come, and
-- nothing of its reply was written
pub record LeavesOff {Event Mark Held Reply : Type 0} (p : Protocol Event Mark Held Reply) (stop : Stop)
    (marks : List Mark) (done : List (Turn Held Reply)) (out : List ℕ) : Type 0 where
  pub said : List Mark
  pub mark : Mark
  pub marks_order : marks ≡ said ++ mark ∷ []
  pub left : p.IsLeft stop mark
  pub whole : List (Turn Held Reply)
  pub unsaid : Turn Held Reply
  pub order : done ≡ whole ++ unsaid ∷ []
  pub written : out ≡ text whole

-- which requests were carried out, and what was written of their replies
abbrev pub TellsBy : {Event Mark Held Reply : Type 0} → Protocol Event Mark Held Reply → Stop → List Event → List Mark
    → List (Turn Held Reply) → List ℕ → List ℕ → Type 0
TellsBy p Ended events marks done taken out = Tells events marks done out
TellsBy p Wrong events marks done taken out = Tells events marks done out
TellsBy p CutOff events marks done taken out = Tells events marks done out
TellsBy p SourceFailed events marks done taken out = Tells events marks done out
TellsBy p SinkFailed events marks done taken out = BreaksOff p.grammar done taken out
TellsBy p Memory events marks done taken out = (out ≡ text done) ⊎ LeavesOff p Memory marks done out
TellsBy p OutsideFailed events marks done taken out = LeavesOff p OutsideFailed marks done out
TellsBy p Over_stop events marks done taken out = Tells events marks done out

-- all but the last request that was carried out were answered
pub record AllButLast {Event Mark Held Reply : Type 0} (p : Protocol Event Mark Held Reply) (held : Held)
    (events : List Event) (marks : List Mark) : Type 0 where
  pub firsts : List Mark
  pub last : Mark
  pub order : marks ≡ firsts ++ last ∷ []
  pub said : AreSaid p held events firsts

-- which requests were answered of those that were carried out
abbrev pub SaidBy : {Event Mark Held Reply : Type 0} → Protocol Event Mark Held Reply → Stop → Held → List Event
    → List Mark → Type 0
SaidBy p Ended held events marks = AreSaid p held events marks
SaidBy p Wrong held events marks = AreSaid p held events marks
SaidBy p CutOff held events marks = AreSaid p held events marks
SaidBy p SourceFailed held events marks = AreSaid p held events marks
SaidBy p SinkFailed held events marks = AllButLast p held events marks
SaidBy p Memory held events marks = AreSaid p held events marks ⊎ AllButLast p held events marks
SaidBy p OutsideFailed held events marks = AllButLast p held events marks
SaidBy p Over_stop held events marks = AreSaid p held events marks

-- the source gave some bytes; their script ends as the stop says, and the turns of its requests that have a mark, from
-- what was held, are what was done
pub record Served {Event Mark Held Reply : Type 0} (p : Protocol Event Mark Held Reply) (most : ℕ) (stop : Stop)
    (old new : Surroundings Held) : Type 0 where
  pub taken : List ℕ
  pub marks : List Mark
  pub out : List ℕ
  pub source : Consumes old.left new.left taken
  pub sink : Appends old.written new.written out
  pub ending : EndsIn stop (script p.grammar most taken).ending new.left
  pub marked : AreMarks p old.held (script p.grammar most taken).events marks
  pub said : SaidBy p stop old.held (script p.grammar most taken).events marks
  pub did : Did (turns p old.held (script p.grammar most taken).events marks) old new
  pub tells : TellsBy p stop (script p.grammar most taken).events marks
      (turns p old.held (script p.grammar most taken).events marks) taken out
