-- What comes of a line behind which nothing was read.
use Rattle.std.proofs.Common.{◌≡◌, ℕ, ◌≤◌, List, [], length, None, Ok, Err, IfErr, inl, inr, refl, ap, ◌∙◌, subst}
use Rattle.std.specs.declared.option.Option.{Option}
use Rattle.std.specs.declared.result.Result.{Result}
use Rattle.sw_io.proofs.Reading.{reads_none}
use Rattle.sw_cmd_protocol.specs.declared.stop.Stop.{Stop}
use Rattle.sw_cmd_protocol.specs.declared.stop.Stop.TheVariants.{Ended, Wrong, CutOff, SourceFailed, SinkFailed, Memory, OutsideFailed, Over as Over_stop}
use Rattle.sw_cmd_protocol.specs.Script.{Next, Whole, Closing, NoRequest, Ending, Bad}
use Rattle.sw_cmd_protocol.specs.Endings.{LineStops, LastLine}
use Rattle.sw_cmd_protocol.specs.Protocol.{Protocol}
use Rattle.sw_cmd_protocol.specs.Turns.{place, Standing, Says, SayStops, Takes, Finds, Answers, TurnEnds}
use Rattle.sw_cmd_protocol.proofs.Writing.{appends_none}

-- the last line, from which no request was read
pub last_line : {Request : Type 0} (last_by : Option Request → Ending) (said : Option Request) → last_by None ≡ Bad → (stop : Stop) → LineStops stop said → LastLine stop (last_by said)
last_line last_by said b Ended e = absurd e
last_line last_by said b Wrong e = ap last_by e ∙ b
last_line last_by said b CutOff e = absurd e
last_line last_by said b SourceFailed e = absurd e
last_line last_by said b SinkFailed e = absurd e
last_line last_by said b Memory e = tt
last_line last_by said b OutsideFailed e = absurd e
last_line last_by said b Over_stop e = absurd e

module _ {Event Mark Held Reply : Type 0} (p : Protocol Event Mark Held Reply) (meaning : List ℕ → Next Event) (ahead : List ℕ) (left written : Option (List ℕ)) (s : Standing Held) where
  finds : (is : Next Event) → ((rest : List ℕ) → meaning rest ≡ is) → Finds meaning is (place ahead left written) (place ahead left written)
  finds is m = record { used = []; uses = reads_none _ _; means = m; sends = appends_none _ }

  -- it is the line `end`
  pub line_closes : ((rest : List ℕ) → meaning rest ≡ Closing) → TurnEnds meaning p Ended (place ahead left written) s (place ahead left written) s
  line_closes m = (finds Closing m, refl)

  -- no request was read from it
  pub line_stops : {Request : Type 0} (said : Option Request) → (said ≡ None → (rest : List ℕ) → meaning rest ≡ NoRequest) → (stop : Stop) → LineStops stop said
      → TurnEnds meaning p stop (place ahead left written) s (place ahead left written) s
  line_stops said none Ended e = absurd e
  line_stops said none Wrong e = (finds NoRequest (none e), refl)
  line_stops said none CutOff e = absurd e
  line_stops said none SourceFailed e = absurd e
  line_stops said none SinkFailed e = absurd e
  line_stops said none Memory e = inl (record { used = []; uses = reads_none _ _; sends = appends_none _ }, refl)
  line_stops said none OutsideFailed e = absurd e
  line_stops said none Over_stop e = absurd e

  -- the line alone is a request
  module _ (now : Option (List ℕ)) (t : Standing Held) (event : Event) (w : (rest : List ℕ) → meaning rest ≡ Whole event rest) where
    takes : Takes meaning event (place ahead left written) (place ahead left now)
    takes = record { used = []; uses = reads_none _ _; whole = w }

    pub line_answers : (told : List Reply) → Says p event told s t written now → Answers meaning p told (place ahead left written) s (place ahead left now) t
    line_answers told x = record { event = event; takes = takes; says = x }

    pub line_breaks : length ahead ≤ 4096 → (stop : Stop) → SayStops p stop event s t written now → TurnEnds meaning p stop (place ahead left written) s (place ahead left now) t
    line_breaks near Ended x = absurd x
    line_breaks near Wrong x = absurd x
    line_breaks near CutOff x = absurd x
    line_breaks near SourceFailed x = absurd x
    line_breaks near SinkFailed x = record { event = event; takes = takes; says = x; near = near }
    line_breaks near Memory x = inr (record { event = event; takes = takes; says = x })
    line_breaks near OutsideFailed x = record { event = event; takes = takes; says = x }
    line_breaks near Over_stop x = absurd x

-- a fault of the source doesn't come where it has no meaning
pub not_source : {A T : Type 0} (P : Stop → Type 0) (r : Result T Stop) → (P SourceFailed → ⊥) → IfErr r P → r ≡ Err SourceFailed → A
not_source P (Ok x) n p e = cc
not_source P (Err stop) n p e = let same : stop ≡ SourceFailed = cc in absurd (n (subst P same p))
