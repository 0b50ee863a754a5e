-- The requests that stand at the front of some bytes, and what comes behind them. This project's own rule.
use Rattle.std.specs.Prelude.{ℕ, suc, zero, List, [], ◌∷◌}
use Rattle.sw_io.specs.Lines.{Split, Line, Long, Unended, split_line}

-- what stands at the front of some bytes: a request and the rest, the line `end`, what is no request, or less than one
pub data Next (Event : Type 0) : Type 0 where
  Whole : Event → List ℕ → Next Event
  Closing : Next Event
  NoRequest : Next Event
  Short : Next Event

-- how a script ends: with the line `end`; with what is no request; with one request more than are answered; or cut off
pub data Ending : Type 0 where
  End : Ending
  Bad : Ending
  Over : Ending
  Cut : Ending

-- what a line is, with the bytes behind it, and how it ends a script where no request is answered any more
pub record Grammar (Event : Type 0) : Type 0 where
  pub front : List ℕ → List ℕ → Next Event
  pub last : List ℕ → Ending

abbrev pub next_by : {Event : Type 0} → Grammar Event → Split → Next Event
next_by grammar (Line line rest) = grammar.front line rest
next_by grammar Long = NoRequest
next_by grammar Unended = Short

-- what stands next: a line has at most 1,024 bytes
unfoldable pub next : {Event : Type 0} → Grammar Event → List ℕ → Next Event
next grammar bytes = next_by grammar (split_line 1024 bytes)

abbrev pub last_by : {Event : Type 0} → Grammar Event → Split → Ending
last_by grammar (Line line rest) = grammar.last line
last_by grammar Long = Bad
last_by grammar Unended = Cut

-- where no request is answered any more, the next line decides
unfoldable pub last : {Event : Type 0} → Grammar Event → List ℕ → Ending
last grammar bytes = last_by grammar (split_line 1024 bytes)

pub record Script (Event : Type 0) : Type 0 where
  pub events : List Event
  pub ending : Ending

abbrev pub script_by : {Event : Type 0} → (List ℕ → Script Event) → Next Event → Script Event
script_by others (Whole event rest) = record { events = event ∷ (others rest).events; ending = (others rest).ending }
script_by others Closing = record { events = []; ending = End }
script_by others NoRequest = record { events = []; ending = Bad }
script_by others Short = record { events = []; ending = Cut }

-- the script of some bytes, with at most so many requests
unfoldable pub script : {Event : Type 0} → Grammar Event → ℕ → List ℕ → Script Event
script grammar zero bytes = record { events = []; ending = last grammar bytes }
script grammar (suc most) bytes = script_by (script grammar most) (next grammar bytes)

abbrev pub behind_by : {Event : Type 0} → (List ℕ → List ℕ) → Next Event → List ℕ
behind_by others (Whole event rest) = others rest
behind_by others Closing = []
behind_by others NoRequest = []
behind_by others Short = []

-- what stands behind the first n requests
unfoldable pub behind : {Event : Type 0} → Grammar Event → ℕ → List ℕ → List ℕ
behind grammar zero bytes = bytes
behind grammar (suc n) bytes = behind_by (behind grammar n) (next grammar bytes)
