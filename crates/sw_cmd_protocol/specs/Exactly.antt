-- Which stop a script calls for, and what was then done. This project's own rule.
use Rattle.std.specs.Prelude.{◌≡◌, ◌≢◌, ◌⊎◌, ℕ, List, ◌++◌, length}
use Rattle.sw_cmd_protocol.specs.declared.stop.Stop.{Stop}
use Rattle.sw_cmd_protocol.specs.Script.{Next, Whole, Closing, NoRequest, Short, Grammar, script}
use Rattle.sw_cmd_protocol.specs.Protocol.{Protocol, Turn}
use Rattle.sw_cmd_protocol.specs.Transcript.{AreMarks, turns, text, ran_in, held_after}
use Rattle.sw_cmd_protocol.specs.Endings.{stop_at, IsBrokenOff, IsBrokenOffAlone}

-- the same, with more bytes behind it
abbrev pub more_next : {Event : Type 0} → List ℕ → Next Event → Next Event
more_next more (Whole event rest) = Whole event (rest ++ more)
more_next more Closing = Closing
more_next more NoRequest = NoRequest
more_next more Short = Short

-- what a line begins stays as it is, whatever bytes follow, unless it is short
abbrev pub Grows : {Event : Type 0} → Grammar Event → Type 0
Grows grammar =
    (line rest more : List ℕ) → grammar.front line rest ≢ Short
    → grammar.front line (rest ++ more) ≡ more_next more (grammar.front line rest)

-- what no fault and no want of memory breaks off ends exactly as the script of all these bytes calls for, and it has
-- answered that script
abbrev pub EndsExactly : {Event : Type 0} → Grammar Event → ℕ → Stop → List ℕ → List ℕ → Type 0
EndsExactly grammar most stop bytes taken =
    IsBrokenOff stop ⊎ ((stop ≡ stop_at (script grammar most bytes).ending)
    × (script grammar most taken ≡ script grammar most bytes))

-- the same where nothing is asked beside the source
abbrev pub EndsExactlyAlone : {Event : Type 0} → Grammar Event → ℕ → Stop → List ℕ → List ℕ → Type 0
EndsExactlyAlone grammar most stop bytes taken =
    IsBrokenOffAlone stop ⊎ ((stop ≡ stop_at (script grammar most bytes).ending)
    × (script grammar most taken ≡ script grammar most bytes))

-- the bytes written grew by the replies of these turns, the bodies that ran are theirs, and what they leave is held
pub record GrewBy {Held Reply : Type 0} (done : List (Turn Held Reply)) (before now : List ℕ)
    (ran ran_now : List (List ℕ)) (held held_now : Held) : Type 0 where
  pub by_text : now ≡ before ++ text done
  pub by_bodies : ran_now ≡ ran ++ ran_in done
  pub by_turns : held_now ≡ held_after held done

-- the whole transcript of these bytes was carried out: each request has its mark
pub record AnswersAll {Event Mark Held Reply : Type 0} (p : Protocol Event Mark Held Reply) (most : ℕ) (bytes : List ℕ)
    (marks : List Mark) (before now : List ℕ)
    (ran ran_now : List (List ℕ)) (held held_now : Held) : Type 0 where
  pub marked : AreMarks p held (script p.grammar most bytes).events marks
  pub each : length marks ≡ length (script p.grammar most bytes).events
  pub grew : GrewBy (turns p held (script p.grammar most bytes).events marks) before now ran ran_now held held_now
