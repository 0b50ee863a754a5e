-- The loop: what was done so far, and what is left, whatever comes.
use Rattle.std.proofs.Common.{◌≡◌, ℕ, suc, zero, ◌+◌, ◌≤◌, ◌<◌, List, [], ◌∷◌, ◌++◌, length, inl, inr, refl, sym, ap, ◌∙◌, subst, append_assoc, arith, zero-add, add-zero}
use Rattle.std.specs.declared.option.Option.{Option}
use Rattle.std.specs.Io.KnownBytes.{Appends, Consumes}
use Rattle.std.proofs.lemmas.List.{append-nil, length_push}
use Rattle.sw_io.proofs.Reading.{reads_none, reads_on}
use Rattle.sw_cmd_protocol.specs.declared.stop.Stop.{Stop}
use Rattle.sw_cmd_protocol.specs.declared.stop.Stop.TheVariants.{Ended, Wrong, CutOff, SourceFailed, SinkFailed, Memory, OutsideFailed, Over as Over_stop}
use Rattle.sw_cmd_protocol.specs.Script.{Next, Whole, Closing, NoRequest, Short, Ending, End, Bad, Over, Cut, Grammar, next, last, Script, script, script_by, behind, behind_by}
use Rattle.sw_cmd_protocol.specs.Protocol.{Protocol, Turn}
use Rattle.sw_cmd_protocol.specs.Transcript.{AreMarks, AreSaid, turns, text, ran_in, held_after}
use Rattle.sw_cmd_protocol.specs.Turns.{Place, place, Uses, Standing, Does, Answers, Breaks, Leaves, TurnEnds, LastEnds}
use Rattle.sw_cmd_protocol.specs.Served.{Surroundings, surroundings, EndsIn, Did, Tells, LeavesOff, TellsBy, AllButLast, SaidBy}
use Rattle.sw_cmd_protocol.specs.Heard.{told_in, Hearing, HearsAll, HearsButLast, HeardBy, ServedAndHeard}
use Rattle.sw_cmd_protocol.proofs.Writing.{appends_none, appends_on}

-- scripts
module _ {Event : Type 0} (grammar : Grammar Event) where
  script_next : (n : ℕ) (bytes : List ℕ) (is : Next Event) → next grammar bytes ≡ is → script grammar (suc n) bytes ≡ script_by (script grammar n) is
  unfolding script
  script_next n bytes is e = ap (script_by (script grammar n)) e

  script_last : (bytes : List ℕ) (is : Ending) → last grammar bytes ≡ is → script grammar zero bytes ≡ record { events = []; ending = is }
  unfolding script
  script_last bytes is e = ap (λ (x : Ending). let s : Script Event = record { events = []; ending = x } in s) e

  behind_whole : (n : ℕ) (bytes : List ℕ) (event : Event) (rest : List ℕ) → next grammar bytes ≡ Whole event rest → behind grammar (suc n) bytes ≡ behind grammar n rest
  unfolding behind
  behind_whole n bytes event rest e = ap (behind_by (behind grammar n)) e

  behind_none : (bytes : List ℕ) → behind grammar zero bytes ≡ bytes
  unfolding behind
  behind_none bytes = refl

  events_on : (n : ℕ) (used rest : List ℕ) (event : Event) → next grammar (used ++ rest) ≡ Whole event rest → length (script grammar (suc n) (used ++ rest)).events ≡ suc (length (script grammar n rest).events)
  events_on n used rest event w = ap (λ (x : Script Event). length x.events) (script_next n (used ++ rest) (Whole event rest) w)

-- turns
module _ {Held Reply : Type 0} where
  text_append : (xs ys : List (Turn Held Reply)) → text (xs ++ ys) ≡ text xs ++ text ys
  text_append [] ys = refl
  text_append (x ∷ xs) ys = ap (λ t. x.text ++ t) (text_append xs ys) ∙ sym (append_assoc x.text (text xs) (text ys))

  ran_append : (xs ys : List (Turn Held Reply)) → ran_in (xs ++ ys) ≡ ran_in xs ++ ran_in ys
  ran_append [] ys = refl
  ran_append (x ∷ xs) ys = ap (λ t. x.ran ++ t) (ran_append xs ys) ∙ sym (append_assoc x.ran (ran_in xs) (ran_in ys))

  held_push : (held : Held) (xs : List (Turn Held Reply)) (x : Turn Held Reply) → held_after held (xs ++ x ∷ []) ≡ x.held
  held_push held [] x = refl
  held_push held (y ∷ xs) x = held_push y.held xs x

  -- the reply and the bodies of one turn more
  text_more : (done : List (Turn Held Reply)) (turn : Turn Held Reply) → text done ++ turn.text ≡ text (done ++ turn ∷ [])
  text_more done turn = ap (λ t. text done ++ t) (sym (append-nil turn.text)) ∙ sym (text_append done (turn ∷ []))

  ran_more : (ran now next : List (List ℕ)) (done : List (Turn Held Reply)) (turn : Turn Held Reply) → now ≡ ran ++ ran_in done → next ≡ now ++ turn.ran → next ≡ ran ++ ran_in (done ++ turn ∷ [])
  ran_more ran now next done turn a b =
      b ∙ ap (λ t. t ++ turn.ran) a ∙ append_assoc ran (ran_in done) turn.ran
      ∙ ap (λ t. ran ++ t) (ap (λ t. ran_in done ++ t) (sym (append-nil turn.ran)) ∙ sym (ran_append done (turn ∷ [])))

module _ {Event Mark Held Reply : Type 0} (p : Protocol Event Mark Held Reply) where
  no_turns : (h : Held) (events : List Event) → turns p h events [] ≡ []
  unfolding turns
  no_turns h [] = refl
  no_turns h (event ∷ events) = refl

  no_marks : (h : Held) (events : List Event) → AreMarks p h events []
  unfolding AreMarks
  no_marks h [] = tt
  no_marks h (event ∷ events) = tt

  no_said : (h : Held) (events : List Event) → AreSaid p h events []
  unfolding AreSaid
  no_said h [] = tt
  no_said h (event ∷ events) = tt

  first_turn : (h : Held) (event : Event) (events : List Event) (mark : Mark) (later : List Mark)
      → turns p h (event ∷ events) (mark ∷ later) ≡ p.turn_of h event mark ∷ turns p (p.turn_of h event mark).held events later
  unfolding turns
  first_turn h event events mark later = refl

  first_mark : (h : Held) (event : Event) (events : List Event) (mark : Mark) (later : List Mark)
      → p.IsMark h event mark → AreMarks p (p.turn_of h event mark).held events later → AreMarks p h (event ∷ events) (mark ∷ later)
  unfolding AreMarks
  first_mark h event events mark later m l = (m, l)

  first_said : (h : Held) (event : Event) (events : List Event) (mark : Mark) (later : List Mark)
      → p.IsSaid h event mark → AreSaid p (p.turn_of h event mark).held events later → AreSaid p h (event ∷ events) (mark ∷ later)
  unfolding AreSaid
  first_said h event events mark later m l = (m, l)

  -- the turns and the marks of a request and of what follows it
  turns_on : (n : ℕ) (h : Held) (event : Event) (mark : Mark) (later : List Mark) (used rest : List ℕ) → next p.grammar (used ++ rest) ≡ Whole event rest
      → turns p h (script p.grammar (suc n) (used ++ rest)).events (mark ∷ later) ≡ p.turn_of h event mark ∷ turns p (p.turn_of h event mark).held (script p.grammar n rest).events later
  turns_on n h event mark later used rest w =
      ap (λ (x : Script Event). turns p h x.events (mark ∷ later)) (script_next p.grammar n (used ++ rest) (Whole event rest) w) ∙ first_turn h event (script p.grammar n rest).events mark later

  marks_on : (n : ℕ) (h : Held) (event : Event) (mark : Mark) (later : List Mark) (used rest : List ℕ) → next p.grammar (used ++ rest) ≡ Whole event rest
      → p.IsMark h event mark → AreMarks p (p.turn_of h event mark).held (script p.grammar n rest).events later → AreMarks p h (script p.grammar (suc n) (used ++ rest)).events (mark ∷ later)
  marks_on n h event mark later used rest w m l =
      subst (λ (x : Script Event). AreMarks p h x.events (mark ∷ later)) (sym (script_next p.grammar n (used ++ rest) (Whole event rest) w)) (first_mark h event (script p.grammar n rest).events mark later m l)

  said_on : (n : ℕ) (h : Held) (event : Event) (mark : Mark) (later : List Mark) (used rest : List ℕ) → next p.grammar (used ++ rest) ≡ Whole event rest
      → p.IsSaid h event mark → AreSaid p (p.turn_of h event mark).held (script p.grammar n rest).events later → AreSaid p h (script p.grammar (suc n) (used ++ rest)).events (mark ∷ later)
  said_on n h event mark later used rest w m l =
      subst (λ (x : Script Event). AreSaid p h x.events (mark ∷ later)) (sym (script_next p.grammar n (used ++ rest) (Whole event rest) w)) (first_said h event (script p.grammar n rest).events mark later m l)

-- what was heard
module _ {Reply State : Type 0} (hears : Hearing Reply State) where
  hears_on : (xs ys : List Reply) (first before now : State) → HearsAll hears xs first before → HearsAll hears ys before now → HearsAll hears (xs ++ ys) first now
  hears_on [] ys first before now e h = subst (λ (x : State). HearsAll hears ys x now) e h
  hears_on (x ∷ xs) ys first before now (between, one, rest) h = (between, one, hears_on xs ys between before now rest h)

module _ {Held Reply : Type 0} where
  told_more : (done : List (Turn Held Reply)) (turn : Turn Held Reply) → told_in (done ++ turn ∷ []) ≡ told_in done ++ turn.told
  told_more [] turn = append-nil turn.told
  told_more (x ∷ done) turn = ap (λ t. x.told ++ t) (told_more done turn) ∙ sym (append_assoc x.told (told_in done) turn.told)

-- the replies of one turn more
module _ {Held Reply State : Type 0} (hears : Hearing Reply State) where
  hears_more : (done : List (Turn Held Reply)) (turn : Turn Held Reply) (told : List Reply) (first before now : State) → HearsAll hears (told_in done) first before
      → turn.told ≡ told → HearsAll hears told before now → HearsAll hears (told_in (done ++ turn ∷ [])) first now
  hears_more done turn told first before now a e b =
      subst (λ (xs : List Reply). HearsAll hears xs first now) (ap (λ t. told_in done ++ t) (sym e) ∙ sym (told_more done turn))
      (hears_on hears (told_in done) told first before now a b)

-- from one place to another some requests were carried out and answered whole, and so many more may come; whatever bytes and marks
-- follow, the turns of all are those done and those of the rest
pub record Going {Event Mark Held Reply : Type 0} (p : Protocol Event Mark Held Reply) (most : ℕ) (start : Standing Held) (n : ℕ) (s : Standing Held) (old new : Place) : Type 0 where
  pub used : List ℕ
  pub marks : List Mark
  pub done : List (Turn Held Reply)
  pub uses : Uses old used new
  pub sends : Appends old.written new.written (text done)
  pub runs : s.ran ≡ start.ran ++ ran_in done
  pub holds : s.held ≡ held_after start.held done
  pub all : (rest : List ℕ) (later : List Mark)
      → turns p start.held (script p.grammar most (used ++ rest)).events (marks ++ later) ≡ done ++ turns p s.held (script p.grammar n rest).events later
  pub marked : (rest : List ℕ) (later : List Mark) → AreMarks p s.held (script p.grammar n rest).events later
      → AreMarks p start.held (script p.grammar most (used ++ rest)).events (marks ++ later)
  pub said : (rest : List ℕ) (later : List Mark) → AreSaid p s.held (script p.grammar n rest).events later
      → AreSaid p start.held (script p.grammar most (used ++ rest)).events (marks ++ later)
  pub each : (rest : List ℕ) → length (script p.grammar most (used ++ rest)).events ≡ length marks + length (script p.grammar n rest).events
  pub ending : (rest : List ℕ) → (script p.grammar most (used ++ rest)).ending ≡ (script p.grammar n rest).ending
  pub behind : (k : ℕ) (rest : List ℕ) → behind p.grammar (length done + k) (used ++ rest) ≡ behind p.grammar k rest

-- and their replies were heard
pub record GoingHeard {Event Mark Held Reply State : Type 0} (p : Protocol Event Mark Held Reply) (hears : Hearing Reply State) (most : ℕ) (start : Standing Held) (first : State)
    (n : ℕ) (s : Standing Held) (now : State) (old new : Place) : Type 0 where
  pub going : Going p most start n s old new
  pub heard : HearsAll hears (told_in going.done) first now

abbrev pub around : {Held : Type 0} → Place → Standing Held → Surroundings Held
around at s = surroundings at.left at.written s.held s.ran

given_is : (old new : Place) (used : List ℕ) (u : Uses old used new) → old.ahead ≡ [] → u.given ≡ used ++ new.ahead
given_is old new used u e = sym (ap (λ t. t ++ u.given) e) ∙ u.bytes

-- all that was taken
taken_is : (old new : Place) (used : List ℕ) (u : Uses old used new) → old.ahead ≡ [] → Consumes old.left new.left (used ++ new.ahead)
taken_is old new used u e = subst (λ (t : List ℕ). Consumes old.left new.left t) (given_is old new used u e) u.source

counted : {Mark : Type 0} (marks : List Mark) (all rest : ℕ) → all ≡ length marks + rest → rest ≡ 0 → length (marks ++ []) ≡ all
counted marks all rest a b = ap length (append-nil marks) ∙ omega arith

drained : (used ahead : List ℕ) → ahead ≡ [] → used ++ ahead ≡ used
drained used ahead e = ap (λ t. used ++ t) e ∙ append-nil used

module _ {Event Mark Held Reply : Type 0} (p : Protocol Event Mark Held Reply) (most : ℕ) (start : Standing Held) where
  pub going_start : (at : Place) → Going p most start most start at at
  going_start at = record {
    used = [];
    marks = [];
    done = [];
    uses = reads_none _ _;
    sends = appends_none _;
    runs = sym (append-nil start.ran);
    holds = refl;
    all = λ rest later. refl;
    marked = λ rest later m. m;
    said = λ rest later m. m;
    each = λ rest. sym (zero-add (length (script p.grammar most rest).events));
    ending = λ rest. refl;
    behind = λ k rest. ap (λ i. behind p.grammar i rest) (zero-add k);
  }

  -- one request more was carried out, and what follows is as what it leaves says
  module _ (n : ℕ) (s t : Standing Held) (old mid : Place) (g : Going p most start (suc n) s old mid)
      (used : List ℕ) (event : Event) (w : (rest : List ℕ) → next p.grammar (used ++ rest) ≡ Whole event rest) (d : Does p event s t) where
    abbrev turn_done : Turn Held Reply
    turn_done = p.turn_of s.held event d.mark

    more_runs : t.ran ≡ start.ran ++ ran_in (g.done ++ turn_done ∷ [])
    more_runs = ran_more start.ran s.ran t.ran g.done turn_done g.runs d.ran

    more_holds : t.held ≡ held_after start.held (g.done ++ turn_done ∷ [])
    more_holds = d.held ∙ sym (held_push start.held g.done turn_done)

    more_all : (rest : List ℕ) (later : List Mark)
        → turns p start.held (script p.grammar most ((g.used ++ used) ++ rest)).events ((g.marks ++ d.mark ∷ []) ++ later) ≡ (g.done ++ turn_done ∷ []) ++ turns p t.held (script p.grammar n rest).events later
    more_all rest later = rw (append_assoc g.used used rest, append_assoc g.marks (d.mark ∷ []) later, append_assoc g.done (turn_done ∷ []) (turns p t.held (script p.grammar n rest).events later))
        (g.all (used ++ rest) (d.mark ∷ later)
        ∙ ap (λ x. g.done ++ x) (turns_on p n s.held event d.mark later used rest (w rest)
        ∙ ap (λ (h : Held). turn_done ∷ turns p h (script p.grammar n rest).events later) (sym d.held)))

    more_marked : (rest : List ℕ) (later : List Mark) → AreMarks p t.held (script p.grammar n rest).events later
        → AreMarks p start.held (script p.grammar most ((g.used ++ used) ++ rest)).events ((g.marks ++ d.mark ∷ []) ++ later)
    more_marked rest later m = rw (append_assoc g.used used rest, append_assoc g.marks (d.mark ∷ []) later)
        (g.marked (used ++ rest) (d.mark ∷ later)
        (marks_on p n s.held event d.mark later used rest (w rest) d.is_mark
        (subst (λ (h : Held). AreMarks p h (script p.grammar n rest).events later) d.held m)))

    more_said : p.IsSaid s.held event d.mark → (rest : List ℕ) (later : List Mark) → AreSaid p t.held (script p.grammar n rest).events later
        → AreSaid p start.held (script p.grammar most ((g.used ++ used) ++ rest)).events ((g.marks ++ d.mark ∷ []) ++ later)
    more_said is rest later m = rw (append_assoc g.used used rest, append_assoc g.marks (d.mark ∷ []) later)
        (g.said (used ++ rest) (d.mark ∷ later)
        (said_on p n s.held event d.mark later used rest (w rest) is
        (subst (λ (h : Held). AreSaid p h (script p.grammar n rest).events later) d.held m)))

    more_behind : (k : ℕ) (rest : List ℕ) → behind p.grammar (length (g.done ++ turn_done ∷ []) + k) ((g.used ++ used) ++ rest) ≡ behind p.grammar k rest
    more_behind k rest = rw (append_assoc g.used used rest)
        (ap (λ i. behind p.grammar i (g.used ++ (used ++ rest))) (longer (length g.done) k _ (length_push g.done turn_done))
        ∙ g.behind (suc k) (used ++ rest) ∙ behind_whole p.grammar k (used ++ rest) event rest (w rest))
      where
        longer : (d n k : ℕ) → k ≡ d + 1 → k + n ≡ d + suc n
        longer d n k e = omega arith

    -- all that was taken, with nothing behind it
    last_order : (ahead : List ℕ) → turns p start.held (script p.grammar most ((g.used ++ used) ++ ahead)).events (g.marks ++ d.mark ∷ []) ≡ g.done ++ turn_done ∷ []
    last_order ahead =
        ap (turns p start.held (script p.grammar most ((g.used ++ used) ++ ahead)).events) (sym (append-nil (g.marks ++ d.mark ∷ [])))
        ∙ more_all ahead [] ∙ ap (λ x. (g.done ++ turn_done ∷ []) ++ x) (no_turns p t.held (script p.grammar n ahead).events) ∙ append-nil (g.done ++ turn_done ∷ [])

    last_marked : (ahead : List ℕ) → AreMarks p start.held (script p.grammar most ((g.used ++ used) ++ ahead)).events (g.marks ++ d.mark ∷ [])
    last_marked ahead =
        subst (AreMarks p start.held (script p.grammar most ((g.used ++ used) ++ ahead)).events) (append-nil (g.marks ++ d.mark ∷ [])) (more_marked ahead [] (no_marks p t.held (script p.grammar n ahead).events))

    -- the requests before the last one were answered
    last_said : (ahead : List ℕ) → AllButLast p start.held (script p.grammar most ((g.used ++ used) ++ ahead)).events (g.marks ++ d.mark ∷ [])
    last_said ahead = record {
      firsts = g.marks;
      last = d.mark;
      order = refl;
      said = subst (AreSaid p start.held (script p.grammar most ((g.used ++ used) ++ ahead)).events) (append-nil g.marks)
          (rw (append_assoc g.used used ahead) (g.said (used ++ ahead) [] (no_said p s.held (script p.grammar (suc n) (used ++ ahead)).events)));
    }

    last_did : (ahead : List ℕ) (old_at new_at : Place)
        → Did (turns p start.held (script p.grammar most ((g.used ++ used) ++ ahead)).events (g.marks ++ d.mark ∷ [])) (around old_at start) (around new_at t)
    last_did ahead old_at new_at = record {
      ran = more_runs ∙ ap (λ x. start.ran ++ ran_in x) (sym (last_order ahead));
      held = more_holds ∙ ap (held_after start.held) (sym (last_order ahead));
    }

    last_near : (ahead : List ℕ) → length ahead ≤ 4096
        → length (behind p.grammar (length (turns p start.held (script p.grammar most ((g.used ++ used) ++ ahead)).events (g.marks ++ d.mark ∷ []))) ((g.used ++ used) ++ ahead)) ≤ 4096
    last_near ahead le = rw (last_order ahead) (rw (← add-zero (length (g.done ++ turn_done ∷ [])), more_behind 0 ahead, behind_none p.grammar ahead) le)

  going_on : (n : ℕ) (s t : Standing Held) (old mid new : Place) (told : List Reply) → Going p most start (suc n) s old mid → Answers (next p.grammar) p told mid s new t → Going p most start n t old new
  going_on n s t old mid new told g a =
      let turn : Turn Held Reply = p.turn_of s.held a.event a.says.does.mark in record {
        used = g.used ++ a.takes.used;
        marks = g.marks ++ a.says.does.mark ∷ [];
        done = g.done ++ turn ∷ [];
        uses = reads_on _ _ _ _ _ _ _ _ g.uses a.takes.uses;
        sends = subst (λ (x : List ℕ). Appends old.written new.written x) (text_more g.done turn) (appends_on _ _ _ (text g.done) turn.text g.sends a.says.sends);
        runs = more_runs n s t old mid g a.takes.used a.event a.takes.whole a.says.does;
        holds = more_holds n s t old mid g a.takes.used a.event a.takes.whole a.says.does;
        all = more_all n s t old mid g a.takes.used a.event a.takes.whole a.says.does;
        marked = more_marked n s t old mid g a.takes.used a.event a.takes.whole a.says.does;
        said = more_said n s t old mid g a.takes.used a.event a.takes.whole a.says.does a.says.said;
        each = λ rest. rw (append_assoc g.used a.takes.used rest)
            (count (length g.marks) _ _ _ _ (g.each (a.takes.used ++ rest)) (events_on p.grammar n a.takes.used rest a.event (a.takes.whole rest)) (length_push g.marks a.says.does.mark));
        ending = λ rest. rw (append_assoc g.used a.takes.used rest)
            (g.ending (a.takes.used ++ rest) ∙ ap (λ (x : Script Event). x.ending) (script_next p.grammar n (a.takes.used ++ rest) (Whole a.event rest) (a.takes.whole rest)));
        behind = more_behind n s t old mid g a.takes.used a.event a.takes.whole a.says.does;
      }
    where
      count : (m all rest more now : ℕ) → all ≡ m + more → more ≡ suc rest → now ≡ m + 1 → all ≡ now + rest
      count m all rest more now a b c = omega arith

  pub start_heard : {State : Type 0} (hears : Hearing Reply State) (first : State) (at : Place) → GoingHeard p hears most start first most start first at at
  unfolding going_start
  start_heard hears first at = record { going = going_start at; heard = refl }

  on_heard : {State : Type 0} (hears : Hearing Reply State) (first before now : State) (n : ℕ) (s t : Standing Held) (old mid new : Place) (told : List Reply)
      → GoingHeard p hears most start first (suc n) s before old mid → Answers (next p.grammar) p told mid s new t → HearsAll hears told before now
      → GoingHeard p hears most start first n t now old new
  unfolding going_on
  on_heard hears first before now n s t old mid new told g a h = record {
    going = going_on n s t old mid new told g.going a;
    heard = hears_more hears g.going.done (p.turn_of s.held a.event a.says.does.mark) told first before now g.heard a.says.tells h;
  }

  -- nothing more was done
  module _ (n : ℕ) (s t : Standing Held) (old mid new : Place) (used : List ℕ) (e : old.ahead ≡ []) (g : Going p most start n s old mid)
      (u : Uses mid used new) (a : Appends mid.written new.written []) (r : t ≡ s) {State : Type 0} (hears : Hearing Reply State) (first now : State)
      (h : HearsAll hears (told_in g.done) first now) where
    none_order : turns p start.held (script p.grammar most ((g.used ++ used) ++ new.ahead)).events (g.marks ++ []) ≡ g.done
    none_order = rw (append_assoc g.used used new.ahead)
        (g.all (used ++ new.ahead) [] ∙ ap (λ x. g.done ++ x) (no_turns p s.held (script p.grammar n (used ++ new.ahead)).events) ∙ append-nil g.done)

    none_said : AreSaid p start.held (script p.grammar most ((g.used ++ used) ++ new.ahead)).events (g.marks ++ [])
    none_said = rw (append_assoc g.used used new.ahead) (g.said (used ++ new.ahead) [] (no_said p s.held (script p.grammar n (used ++ new.ahead)).events))

    none_heard : HearsAll hears (told_in (turns p start.held (script p.grammar most ((g.used ++ used) ++ new.ahead)).events (g.marks ++ []))) first now
    none_heard = subst (λ (done : List (Turn Held Reply)). HearsAll hears (told_in done) first now) (sym none_order) h

    none_served : (stop : Stop) → EndsIn stop (script p.grammar most ((g.used ++ used) ++ new.ahead)).ending new.left
        → SaidBy p stop start.held (script p.grammar most ((g.used ++ used) ++ new.ahead)).events (g.marks ++ [])
        → TellsBy p stop (script p.grammar most ((g.used ++ used) ++ new.ahead)).events (g.marks ++ []) (turns p start.held (script p.grammar most ((g.used ++ used) ++ new.ahead)).events (g.marks ++ [])) ((g.used ++ used) ++ new.ahead) (text g.done ++ [])
        → (HearsAll hears (told_in (turns p start.held (script p.grammar most ((g.used ++ used) ++ new.ahead)).events (g.marks ++ []))) first now
        → HeardBy p stop hears (g.marks ++ []) (turns p start.held (script p.grammar most ((g.used ++ used) ++ new.ahead)).events (g.marks ++ [])) (text g.done ++ []) first now)
        → ServedAndHeard p hears most stop (around old start) (around new t) first now
    none_served stop ends said tells by = record {
      heard = by none_heard;
      served = record {
        taken = (g.used ++ used) ++ new.ahead;
        marks = g.marks ++ [];
        out = text g.done ++ [];
        source = taken_is old new (g.used ++ used) (reads_on _ _ _ _ _ _ _ _ g.uses u) e;
        sink = appends_on _ _ _ (text g.done) [] g.sends a;
        ending = ends;
        marked = rw (append_assoc g.used used new.ahead) (g.marked (used ++ new.ahead) [] (no_marks p s.held (script p.grammar n (used ++ new.ahead)).events));
        said = said;
        did = record {
          ran = ap (λ (x : Standing Held). x.ran) r ∙ g.runs ∙ ap (λ x. start.ran ++ ran_in x) (sym none_order);
          held = ap (λ (x : Standing Held). x.held) r ∙ g.holds ∙ ap (held_after start.held) (sym none_order);
        };
        tells = tells;
      };
    }

    none_written : text g.done ++ [] ≡ text (turns p start.held (script p.grammar most ((g.used ++ used) ++ new.ahead)).events (g.marks ++ []))
    none_written = append-nil (text g.done) ∙ ap text (sym none_order)

    -- the rest of the script has no request
    closes : (stop : Stop) (ending : Ending) → script p.grammar n (used ++ new.ahead) ≡ record { events = []; ending = ending }
        → EndsIn stop ending new.left
        → ((h : Held) (events : List Event) (marks : List Mark) → AreSaid p h events marks → SaidBy p stop h events marks)
        → ((events : List Event) (marks : List Mark) (done : List (Turn Held Reply)) (taken out : List ℕ) → Tells events marks done out → TellsBy p stop events marks done taken out)
        → ((marks : List Mark) (done : List (Turn Held Reply)) (out : List ℕ) → HearsAll hears (told_in done) first now → HeardBy p stop hears marks done out first now)
        → ServedAndHeard p hears most stop (around old start) (around new t) first now
    closes stop ending is ends said tells by = none_served stop
        (rw (append_assoc g.used used new.ahead, g.ending (used ++ new.ahead), is) ends)
        (said _ _ _ none_said)
        (tells _ _ _ _ _ (record {
          each = rw (append_assoc g.used used new.ahead) (counted g.marks _ _ (g.each (used ++ new.ahead)) (ap (λ (x : Script Event). length x.events) is));
          written = none_written;
        })) (by _ _ _)

    -- want of memory: what was answered stays whole
    forgets : ServedAndHeard p hears most Memory (around old start) (around new t) first now
    forgets = none_served Memory tt (inl none_said) (inl none_written) (λ w. inl (none_written, w))

  breaks_off : {State : Type 0} (hears : Hearing Reply State) (first now : State) (n : ℕ) (s t : Standing Held) (old mid new : Place) → old.ahead ≡ []
      → (g : Going p most start (suc n) s old mid) → HearsAll hears (told_in g.done) first now → Breaks (next p.grammar) p mid s new t
      → ServedAndHeard p hears most SinkFailed (around old start) (around new t) first now
  breaks_off hears first now n s t old mid new e g h b = record {
    heard = record {
      firsts = g.done;
      last = p.turn_of s.held b.event b.says.does.mark;
      order = last_order n s t old mid g b.takes.used b.event b.takes.whole b.says.does new.ahead;
      heard = h;
    };
    served = record {
      taken = (g.used ++ b.takes.used) ++ new.ahead;
      marks = g.marks ++ b.says.does.mark ∷ [];
      out = text g.done ++ b.says.front;
      source = taken_is old new (g.used ++ b.takes.used) (reads_on _ _ _ _ _ _ _ _ g.uses b.takes.uses) e;
      sink = appends_on _ _ _ (text g.done) b.says.front g.sends b.says.sends;
      ending = tt;
      marked = last_marked n s t old mid g b.takes.used b.event b.takes.whole b.says.does new.ahead;
      said = last_said n s t old mid g b.takes.used b.event b.takes.whole b.says.does new.ahead;
      did = last_did n s t old mid g b.takes.used b.event b.takes.whole b.says.does new.ahead old new;
      tells = record {
        whole = g.done;
        broken = p.turn_of s.held b.event b.says.does.mark;
        front = b.says.front;
        back = b.says.back;
        order = last_order n s t old mid g b.takes.used b.event b.takes.whole b.says.does new.ahead;
        parts = b.says.parts;
        written = refl;
        near = last_near n s t old mid g b.takes.used b.event b.takes.whole b.says.does new.ahead b.near;
      };
    };
  }

  module _ {State : Type 0} (hears : Hearing Reply State) (first now : State) (n : ℕ) (s t : Standing Held) (old mid new : Place) (e : old.ahead ≡ [])
      (g : Going p most start (suc n) s old mid) (h : HearsAll hears (told_in g.done) first now) where
    left_off : (stop : Stop) (b : Leaves stop (next p.grammar) p mid s new t)
        → LeavesOff p stop (g.marks ++ b.says.does.mark ∷ []) (turns p start.held (script p.grammar most ((g.used ++ b.takes.used) ++ new.ahead)).events (g.marks ++ b.says.does.mark ∷ [])) (text g.done ++ [])
    left_off stop b = record {
      said = g.marks;
      mark = b.says.does.mark;
      marks_order = refl;
      left = b.says.left;
      whole = g.done;
      unsaid = p.turn_of s.held b.event b.says.does.mark;
      order = last_order n s t old mid g b.takes.used b.event b.takes.whole b.says.does new.ahead;
      written = append-nil (text g.done);
    }

    left_served : (stop : Stop) (b : Leaves stop (next p.grammar) p mid s new t) → EndsIn stop (script p.grammar most ((g.used ++ b.takes.used) ++ new.ahead)).ending new.left
        → ((h : Held) (events : List Event) (marks : List Mark) → AllButLast p h events marks → SaidBy p stop h events marks)
        → (LeavesOff p stop (g.marks ++ b.says.does.mark ∷ []) (turns p start.held (script p.grammar most ((g.used ++ b.takes.used) ++ new.ahead)).events (g.marks ++ b.says.does.mark ∷ [])) (text g.done ++ [])
        → TellsBy p stop (script p.grammar most ((g.used ++ b.takes.used) ++ new.ahead)).events (g.marks ++ b.says.does.mark ∷ []) (turns p start.held (script p.grammar most ((g.used ++ b.takes.used) ++ new.ahead)).events (g.marks ++ b.says.does.mark ∷ [])) ((g.used ++ b.takes.used) ++ new.ahead) (text g.done ++ []))
        → (LeavesOff p stop (g.marks ++ b.says.does.mark ∷ []) (turns p start.held (script p.grammar most ((g.used ++ b.takes.used) ++ new.ahead)).events (g.marks ++ b.says.does.mark ∷ [])) (text g.done ++ [])
        → HearsButLast hears (turns p start.held (script p.grammar most ((g.used ++ b.takes.used) ++ new.ahead)).events (g.marks ++ b.says.does.mark ∷ [])) first now
        → HeardBy p stop hears (g.marks ++ b.says.does.mark ∷ []) (turns p start.held (script p.grammar most ((g.used ++ b.takes.used) ++ new.ahead)).events (g.marks ++ b.says.does.mark ∷ [])) (text g.done ++ []) first now)
        → ServedAndHeard p hears most stop (around old start) (around new t) first now
    left_served stop b ends said tells by = record {
      heard = by (left_off stop b) (record {
        firsts = g.done;
        last = p.turn_of s.held b.event b.says.does.mark;
        order = last_order n s t old mid g b.takes.used b.event b.takes.whole b.says.does new.ahead;
        heard = h;
      });
      served = record {
        taken = (g.used ++ b.takes.used) ++ new.ahead;
        marks = g.marks ++ b.says.does.mark ∷ [];
        out = text g.done ++ [];
        source = taken_is old new (g.used ++ b.takes.used) (reads_on _ _ _ _ _ _ _ _ g.uses b.takes.uses) e;
        sink = appends_on _ _ _ (text g.done) [] g.sends b.says.sends;
        ending = ends;
        marked = last_marked n s t old mid g b.takes.used b.event b.takes.whole b.says.does new.ahead;
        said = said _ _ _ (last_said n s t old mid g b.takes.used b.event b.takes.whole b.says.does new.ahead);
        did = last_did n s t old mid g b.takes.used b.event b.takes.whole b.says.does new.ahead old new;
        tells = tells (left_off stop b);
      };
    }

    pub turn_ends : (stop : Stop) → TurnEnds (next p.grammar) p stop mid s new t → ServedAndHeard p hears most stop (around old start) (around new t) first now
    turn_ends Ended (f, r) = closes (suc n) s t old mid new f.used e g f.uses f.sends r hears first now h Ended End (script_next p.grammar n (f.used ++ new.ahead) Closing (f.means new.ahead)) refl (λ held events marks w. w) (λ events marks done taken out w. w) (λ marks done out w. w)
    turn_ends Wrong (f, r) = closes (suc n) s t old mid new f.used e g f.uses f.sends r hears first now h Wrong Bad (script_next p.grammar n (f.used ++ new.ahead) NoRequest (f.means new.ahead)) refl (λ held events marks w. w) (λ events marks done taken out w. w) (λ marks done out w. w)
    turn_ends CutOff (f, z, r) =
        closes (suc n) s t old mid new f.used e g f.uses f.sends r hears first now h CutOff Cut (script_next p.grammar n (f.used ++ new.ahead) Short (ap (next p.grammar) (drained f.used new.ahead f.none) ∙ f.means)) (refl, z) (λ held events marks w. w) (λ events marks done taken out w. w) (λ marks done out w. w)
    turn_ends SourceFailed (f, r) =
        closes (suc n) s t old mid new f.used e g f.uses f.sends r hears first now h SourceFailed Cut (script_next p.grammar n (f.used ++ new.ahead) Short (ap (next p.grammar) (drained f.used new.ahead f.none) ∙ f.means)) refl (λ held events marks w. w) (λ events marks done taken out w. w) (λ marks done out w. w)
    turn_ends SinkFailed b = breaks_off hears first now n s t old mid new e g h b
    turn_ends Memory (inl (f, r)) = forgets (suc n) s t old mid new f.used e g f.uses f.sends r hears first now h
    turn_ends Memory (inr b) = left_served Memory b tt (λ held events marks x. inr x) (λ x. inr x) (λ l x. inr (l, x))
    turn_ends OutsideFailed b = left_served OutsideFailed b tt (λ held events marks x. x) (λ x. x) (λ l x. x)
    turn_ends Over_stop x = absurd x

  module _ {State : Type 0} (hears : Hearing Reply State) (first now : State) (s : Standing Held) (old mid new : Place) (e : old.ahead ≡ [])
      (g : Going p most start zero s old mid) (h : HearsAll hears (told_in g.done) first now) where
    pub last_ends : (stop : Stop) → LastEnds p.grammar stop mid new → ServedAndHeard p hears most stop (around old start) (around new s) first now
    last_ends Ended f = closes zero s s old mid new f.used e g f.uses f.sends refl hears first now h Ended End (script_last p.grammar (f.used ++ new.ahead) End (f.means new.ahead)) refl (λ held events marks w. w) (λ events marks done taken out w. w) (λ marks done out w. w)
    last_ends Wrong f = closes zero s s old mid new f.used e g f.uses f.sends refl hears first now h Wrong Bad (script_last p.grammar (f.used ++ new.ahead) Bad (f.means new.ahead)) refl (λ held events marks w. w) (λ events marks done taken out w. w) (λ marks done out w. w)
    last_ends CutOff (f, z) =
        closes zero s s old mid new f.used e g f.uses f.sends refl hears first now h CutOff Cut (script_last p.grammar (f.used ++ new.ahead) Cut (ap (last p.grammar) (drained f.used new.ahead f.none) ∙ f.means)) (refl, z) (λ held events marks w. w) (λ events marks done taken out w. w) (λ marks done out w. w)
    last_ends SourceFailed f =
        closes zero s s old mid new f.used e g f.uses f.sends refl hears first now h SourceFailed Cut (script_last p.grammar (f.used ++ new.ahead) Cut (ap (last p.grammar) (drained f.used new.ahead f.none) ∙ f.means)) refl (λ held events marks w. w) (λ events marks done taken out w. w) (λ marks done out w. w)
    last_ends SinkFailed f = absurd f
    last_ends Memory f = forgets zero s s old mid new f.used e g f.uses f.sends refl hears first now h
    last_ends OutsideFailed f = absurd f
    last_ends Over_stop f = closes zero s s old mid new f.used e g f.uses f.sends refl hears first now h Over_stop Over (script_last p.grammar (f.used ++ new.ahead) Over (f.means new.ahead)) refl (λ held events marks w. w) (λ events marks done taken out w. w) (λ marks done out w. w)

  -- nothing was begun
  pub no_lines : {State : Type 0} (hears : Hearing Reply State) (first : State) (left written : Option (List ℕ))
      → ServedAndHeard p hears most Memory (surroundings left written start.held start.ran) (surroundings left written start.held start.ran) first first
  unfolding going_start
  no_lines hears first left written =
      forgets most start start (place [] left written) (place [] left written) (place [] left written) [] refl (going_start (place [] left written)) (reads_none _ _) (appends_none _) refl hears first first refl

  pub going_on_at : {State : Type 0} (hears : Hearing Reply State) (first before now : State) (n counter : ℕ) (s t : Standing Held) (old mid new : Place) (told : List Reply) → n + counter ≡ most → counter < most
      → GoingHeard p hears most start first n s before old mid → Answers (next p.grammar) p told mid s new t → HearsAll hears told before now
      → (k : ℕ) × (k + (counter + 1) ≡ most) × GoingHeard p hears most start first k t now old new
  going_on_at hears first before now zero counter s t old mid new told e lt g a h = absurd (omega arith)
  going_on_at hears first before now (suc k) counter s t old mid new told e lt g a h = (k, omega arith, on_heard hears first before now k s t old mid new told g a h)

  pub turn_ends_at : {State : Type 0} (hears : Hearing Reply State) (first now : State) (n counter : ℕ) (s t : Standing Held) (old mid new : Place) (stop : Stop) → n + counter ≡ most → counter < most
      → old.ahead ≡ [] → GoingHeard p hears most start first n s now old mid → TurnEnds (next p.grammar) p stop mid s new t
      → ServedAndHeard p hears most stop (around old start) (around new t) first now
  turn_ends_at hears first now zero counter s t old mid new stop is lt e g x = absurd (omega arith)
  turn_ends_at hears first now (suc k) counter s t old mid new stop is lt e g x = turn_ends hears first now k s t old mid new e g.going g.heard stop x

  pub last_ends_at : {State : Type 0} (hears : Hearing Reply State) (first now : State) (n counter : ℕ) (s : Standing Held) (old mid new : Place) (stop : Stop) → n + counter ≡ most → most ≤ counter
      → old.ahead ≡ [] → GoingHeard p hears most start first n s now old mid → LastEnds p.grammar stop mid new → ServedAndHeard p hears most stop (around old start) (around new s) first now
  last_ends_at hears first now zero counter s old mid new stop is le e g t = last_ends hears first now s old mid new e g.going g.heard stop t
  last_ends_at hears first now (suc k) counter s old mid new stop is le e g t = absurd (omega arith)
