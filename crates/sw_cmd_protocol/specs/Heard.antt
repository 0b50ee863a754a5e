-- Who hears replies, and which. This project's own rule.
use Rattle.std.specs.Prelude.{◌≡◌, ◌⊎◌, ℕ, List, [], ◌∷◌, ◌++◌, Option, None, Some}
use Rattle.sw_cmd_protocol.specs.declared.stop.Stop.{Stop}
use Rattle.sw_cmd_protocol.specs.declared.stop.Stop.TheVariants.{Ended, Wrong, CutOff, SourceFailed, SinkFailed, Memory, OutsideFailed, Over as Over_stop}
use Rattle.sw_cmd_protocol.specs.Script.{script}
use Rattle.sw_cmd_protocol.specs.Protocol.{Protocol, Turn}
use Rattle.sw_cmd_protocol.specs.Transcript.{turns, text}
use Rattle.sw_cmd_protocol.specs.Served.{Surroundings, Served, LeavesOff}

-- a reply of which listeners are told, or none
abbrev pub told_of : {Reply : Type 0} → Option Reply → List Reply
told_of None = []
told_of (Some reply) = reply ∷ []

-- the replies of which listeners are told in these turns
abbrev pub told_in : {Held Reply : Type 0} → List (Turn Held Reply) → List Reply
told_in [] = []
told_in (turn ∷ turns) = turn.told ++ told_in turns

-- nobody is told of any reply
abbrev pub TellsNothing : {Event Mark Held Reply : Type 0} → Protocol Event Mark Held Reply → Type 0
TellsNothing {Event} {Mark} {Held} p =
    (held : Held) (event : Event) (mark : Mark) → (p.turn_of held event mark).told ≡ []

-- what it is to hear one reply
abbrev pub Hearing : Type 0 → Type 0 → Type 1
Hearing Reply State = Reply → State → State → Type 0

-- these replies were heard, one after the other
abbrev pub HearsAll : {Reply State : Type 0} → Hearing Reply State → List Reply → State → State → Type 0
HearsAll hears [] before now = now ≡ before
HearsAll {Reply} {State} hears (reply ∷ replies) before now =
    (between : State) × hears reply before between × HearsAll hears replies between now

-- the replies of all turns but the last were heard
pub record HearsButLast {Held Reply State : Type 0} (hears : Hearing Reply State) (done : List (Turn Held Reply))
    (before now : State) : Type 0 where
  pub firsts : List (Turn Held Reply)
  pub last : Turn Held Reply
  pub order : done ≡ firsts ++ last ∷ []
  pub heard : HearsAll hears (told_in firsts) before now

-- which replies were heard of the turns that were carried out: those whose bytes were written whole, and where the
-- sink failed at the last one, all but that one's
abbrev pub HeardBy : {Event Mark Held Reply State : Type 0} → Protocol Event Mark Held Reply → Stop
    → Hearing Reply State → List Mark → List (Turn Held Reply) → List ℕ → State → State → Type 0
HeardBy p Ended hears marks done out before now = HearsAll hears (told_in done) before now
HeardBy p Wrong hears marks done out before now = HearsAll hears (told_in done) before now
HeardBy p CutOff hears marks done out before now = HearsAll hears (told_in done) before now
HeardBy p SourceFailed hears marks done out before now = HearsAll hears (told_in done) before now
HeardBy p SinkFailed hears marks done out before now = HearsButLast hears done before now
HeardBy p Memory hears marks done out before now =
    ((out ≡ text done) × HearsAll hears (told_in done) before now)
    ⊎ (LeavesOff p Memory marks done out × HearsButLast hears done before now)
HeardBy p OutsideFailed hears marks done out before now = HearsButLast hears done before now
HeardBy p Over_stop hears marks done out before now = HearsAll hears (told_in done) before now

-- the source gave some bytes, their requests were carried out and answered, and the replies were heard
pub record ServedAndHeard {Event Mark Held Reply State : Type 0} (p : Protocol Event Mark Held Reply)
    (hears : Hearing Reply State) (most : ℕ) (stop : Stop) (old new : Surroundings Held) (before now : State) : Type 0
  where
    pub served : Served p most stop old new
    pub heard : HeardBy p stop hears served.marks
        (turns p old.held (script p.grammar most served.taken).events served.marks) served.out before now
