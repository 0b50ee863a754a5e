-- A line that was read, and what comes of it.
use Rattle.std.proofs.Common.{◌≡◌, ◌≢◌, ℕ, List, [], ◌∷◌, ◌++◌, Ok, Err, IfErr, IfOk, OnOk, OnErr, inl, inr, refl, ap, ◌∙◌, append_assoc}
use Rattle.std.specs.declared.option.Option.{Option}
use Rattle.std.specs.declared.result.Result.{Result}
use Rattle.std.specs.Io.KnownBytes.{Appends}
use Rattle.sw_io.specs.Lines.{Line, Long, Unended, split_line}
use Rattle.sw_io.specs.declared.stop.ReadStop.{ReadStop}
use Rattle.sw_io.specs.declared.stop.ReadStop.TheVariants.{TooLong, Ended as Read_Ended, Failed as Read_Failed, Memory as Read_Memory}
use Rattle.sw_io.specs.Ends.{LineEnds}
use Rattle.sw_io.specs.Causes.{NoFault, Rose, Cause}
use Rattle.sw_io.proofs.Causes.{fine_else}
use Rattle.sw_io.proofs.Reading.{reads_on}
use Rattle.sw_cmd_protocol.specs.declared.stop.Stop.{Stop}
use Rattle.sw_cmd_protocol.specs.declared.stop.Stop.TheVariants.{Ended, Wrong, CutOff, SourceFailed, SinkFailed, Memory, OutsideFailed, Over as Over_stop}
use Rattle.sw_cmd_protocol.specs.Script.{Next, Closing, NoRequest, Short, Ending, End, Bad, Over, Cut, Grammar, next, next_by, last, last_by}
use Rattle.sw_cmd_protocol.specs.Endings.{stop_of, LastLine}
use Rattle.sw_cmd_protocol.specs.Protocol.{Protocol}
use Rattle.sw_cmd_protocol.specs.Turns.{Place, place, Uses, Standing, Takes, Answers, Leaves, Finds, Drains, TurnEnds, LastEnds}

-- the bytes, and then a line feed, are the first line, whatever follows
abbrev pub IsLine : List ℕ → Type 0
IsLine line = (rest : List ℕ) → split_line 1024 (line ++ 10 ∷ rest) ≡ Line line rest

module _ {Event : Type 0} (grammar : Grammar Event) where
  next_line : (line : List ℕ) → IsLine line → (rest : List ℕ) → next grammar ((line ++ 10 ∷ []) ++ rest) ≡ grammar.front line rest
  unfolding next
  next_line line h rest = ap (λ s. next_by grammar (split_line 1024 s)) (append_assoc line (10 ∷ []) rest) ∙ ap (next_by grammar) (h rest)

  -- and behind it some bytes more
  next_line_on : (line used : List ℕ) → IsLine line → (rest : List ℕ) → next grammar (((line ++ 10 ∷ []) ++ used) ++ rest) ≡ grammar.front line (used ++ rest)
  next_line_on line used h rest = ap (next grammar) (append_assoc (line ++ 10 ∷ []) used rest) ∙ next_line line h (used ++ rest)

  last_line : (line : List ℕ) → IsLine line → (rest : List ℕ) → last grammar ((line ++ 10 ∷ []) ++ rest) ≡ grammar.last line
  unfolding last
  last_line line h rest = ap (λ s. last_by grammar (split_line 1024 s)) (append_assoc line (10 ∷ []) rest) ∙ ap (last_by grammar) (h rest)

  next_long : (bytes : List ℕ) → split_line 1024 bytes ≡ Long → next grammar bytes ≡ NoRequest
  unfolding next
  next_long bytes h = ap (next_by grammar) h

  next_short : (bytes : List ℕ) → split_line 1024 bytes ≡ Unended → next grammar bytes ≡ Short
  unfolding next
  next_short bytes h = ap (next_by grammar) h

  last_long : (bytes : List ℕ) → split_line 1024 bytes ≡ Long → last grammar bytes ≡ Bad
  unfolding last
  last_long bytes h = ap (last_by grammar) h

  last_short : (bytes : List ℕ) → split_line 1024 bytes ≡ Unended → last grammar bytes ≡ Cut
  unfolding last
  last_short bytes h = ap (last_by grammar) h

  -- no line came
  pub last_stops : (stop : ReadStop) (used : List ℕ) (before now : ℕ) (old new : Place)
      → Uses old used new → Appends old.written new.written [] → LineEnds stop used new.ahead new.left before now → LastEnds grammar (stop_of stop) old new
  last_stops TooLong used before now old new u a h = record { used = used; uses = u; means = λ rest. last_long (used ++ rest) (h rest); sends = a }
  last_stops Read_Ended used before now old new u a h = (record { used = used; uses = u; means = last_short used h.0; none = h.1; sends = a }, h.2)
  last_stops Read_Failed used before now old new u a h = record { used = used; uses = u; means = last_short used h.0; none = h.1; sends = a }
  last_stops Read_Memory used before now old new u a h = record { used = used; uses = u; sends = a }

  last_finds : (line : List ℕ) (is : Ending) (old new : Place) → Uses old (line ++ 10 ∷ []) new → Appends old.written new.written [] → IsLine line → grammar.last line ≡ is → Finds (last grammar) is old new
  last_finds line is old new u a l e = record { used = line ++ 10 ∷ []; uses = u; means = λ rest. last_line line l rest ∙ e; sends = a }

  -- a line came
  pub last_line_ends : (stop : Stop) (line : List ℕ) (old new : Place) → Uses old (line ++ 10 ∷ []) new → Appends old.written new.written [] → IsLine line
      → LastLine stop (grammar.last line) → LastEnds grammar stop old new
  last_line_ends Ended line old new u a l e = last_finds line End old new u a l e
  last_line_ends Wrong line old new u a l e = last_finds line Bad old new u a l e
  last_line_ends CutOff line old new u a l e = absurd e
  last_line_ends SourceFailed line old new u a l e = absurd e
  last_line_ends SinkFailed line old new u a l e = absurd e
  last_line_ends Memory line old new u a l e = record { used = line ++ 10 ∷ []; uses = u; sends = a }
  last_line_ends OutsideFailed line old new u a l e = absurd e
  last_line_ends Over_stop line old new u a l e = last_finds line Over old new u a l e

module _ {Event Mark Held Reply : Type 0} (p : Protocol Event Mark Held Reply) where
  -- no line came
  pub line_stops : (stop : ReadStop) (used : List ℕ) (before now : ℕ) (old new : Place) (s : Standing Held)
      → Uses old used new → Appends old.written new.written [] → LineEnds stop used new.ahead new.left before now → TurnEnds (next p.grammar) p (stop_of stop) old s new s
  line_stops TooLong used before now old new s u a h = (record { used = used; uses = u; means = λ rest. next_long p.grammar (used ++ rest) (h rest); sends = a }, refl)
  line_stops Read_Ended used before now old new s u a h = (record { used = used; uses = u; means = next_short p.grammar used h.0; none = h.1; sends = a }, h.2, refl)
  line_stops Read_Failed used before now old new s u a h = (record { used = used; uses = u; means = next_short p.grammar used h.0; none = h.1; sends = a }, refl)
  line_stops Read_Memory used before now old new s u a h = inl (record { used = used; uses = u; sends = a }, refl)

  -- a line came, and then what the protocol did behind it
  module _ (line ahead : List ℕ) (left : Option (List ℕ)) (old new : Place) (s t : Standing Held) (u : Uses old (line ++ 10 ∷ []) (place ahead left old.written)) (l : IsLine line) where
    takes_on : (event : Event) → Takes (p.grammar.front line) event (place ahead left old.written) new → Takes (next p.grammar) event old new
    takes_on event x = record {
      used = (line ++ 10 ∷ []) ++ x.used;
      uses = reads_on _ _ _ _ _ _ _ _ u x.uses;
      whole = λ rest. next_line_on p.grammar line x.used l rest ∙ x.whole rest;
    }

    finds_on : (is : Next Event) → Finds (p.grammar.front line) is (place ahead left old.written) new → Finds (next p.grammar) is old new
    finds_on is x = record {
      used = (line ++ 10 ∷ []) ++ x.used;
      uses = reads_on _ _ _ _ _ _ _ _ u x.uses;
      means = λ rest. next_line_on p.grammar line x.used l rest ∙ x.means rest;
      sends = x.sends;
    }

    drains_on : (is : Next Event) → Drains (p.grammar.front line) is (place ahead left old.written) new → Drains (next p.grammar) is old new
    drains_on is x = record {
      used = (line ++ 10 ∷ []) ++ x.used;
      uses = reads_on _ _ _ _ _ _ _ _ u x.uses;
      means = next_line p.grammar line l x.used ∙ x.means;
      none = x.none;
      sends = x.sends;
    }

    leaves_on : (stop : Stop) → Leaves stop (p.grammar.front line) p (place ahead left old.written) s new t → Leaves stop (next p.grammar) p old s new t
    leaves_on stop x = record { event = x.event; takes = takes_on x.event x.takes; says = x.says }

    pub turn_answers : (told : List Reply) → Answers (p.grammar.front line) p told (place ahead left old.written) s new t → Answers (next p.grammar) p told old s new t
    turn_answers told x = record { event = x.event; takes = takes_on x.event x.takes; says = x.says }

    pub turn_stops : (stop : Stop) → TurnEnds (p.grammar.front line) p stop (place ahead left old.written) s new t → TurnEnds (next p.grammar) p stop old s new t
    turn_stops Ended x = (finds_on Closing x.0, x.1)
    turn_stops Wrong x = (finds_on NoRequest x.0, x.1)
    turn_stops CutOff x = (drains_on Short x.0, x.1, x.2)
    turn_stops SourceFailed x = (drains_on Short x.0, x.1)
    turn_stops SinkFailed x = record { event = x.event; takes = takes_on x.event x.takes; says = x.says; near = x.near }
    turn_stops Memory (inl x) = inl (record { used = (line ++ 10 ∷ []) ++ x.0.used; uses = reads_on _ _ _ _ _ _ _ _ u x.0.uses; sends = x.0.sends }, x.1)
    turn_stops Memory (inr x) = inr (leaves_on Memory x)
    turn_stops OutsideFailed x = leaves_on OutsideFailed x
    turn_stops Over_stop x = absurd x

-- the count of a source from which no line came
module _ {T : Type 0} (before now : ℕ) where
  pub line_rose : (stop : ReadStop) → Cause {T = T} Read_Failed before now (Err stop) → stop_of stop ≡ SourceFailed → Rose before now
  line_rose TooLong c e = cc
  line_rose Read_Ended c e = cc
  line_rose Read_Failed c e = c.rose refl
  line_rose Read_Memory c e = cc

  pub line_fine : (stop : ReadStop) → Cause {T = T} Read_Failed before now (Err stop) → stop_of stop ≢ SourceFailed → NoFault before now
  line_fine TooLong c n = fine_else Read_Failed before now TooLong (λ e. cc) c
  line_fine Read_Ended c n = fine_else Read_Failed before now Read_Ended (λ e. cc) c
  line_fine Read_Failed c n = absurd (n refl)
  line_fine Read_Memory c n = fine_else Read_Failed before now Read_Memory (λ e. cc) c

  pub line_cause : {U : Type 0} (stop : ReadStop) → Cause {T = T} Read_Failed before now (Err stop) → Cause {T = U} SourceFailed before now (Err (stop_of stop))
  line_cause stop c = record { later = c.later; rose = λ e. line_rose stop c cc; fine = λ n. line_fine stop c (λ e. n (ap Err e)) }

pub if_err : {T E : Type 0} {P Q : E → Type 0} → (r : Result T E) → ((e : E) → P e → Q e) → IfErr r P → IfErr r Q
if_err (Ok x) f p = tt
if_err (Err e) f p = f e p

pub on_ok : {T E P Q : Type 0} → (r : Result T E) → (P → Q) → OnOk r P → OnOk r Q
on_ok (Ok x) f p = f p
on_ok (Err x) f p = tt

pub on_err : {T E P Q : Type 0} → (r : Result T E) → (P → Q) → OnErr r P → OnErr r Q
on_err (Ok x) f p = tt
on_err (Err x) f p = f p

pub if_ok : {T E : Type 0} {P Q : T → Type 0} → (r : Result T E) → ((x : T) → P x → Q x) → IfOk r P → IfOk r Q
if_ok (Ok x) f p = f x p
if_ok (Err e) f p = tt
