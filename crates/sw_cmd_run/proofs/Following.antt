-- What follows for polls from what holds of every protocol, and of the folders that they read.
use Rattle.std.proofs.Common.{◌≡◌, ℕ, List, [], ◌∷◌, ◌++◌, Some, ◌⊎◌, refl, ap, ◌∙◌, subst}
use Rattle.std.specs.declared.option.Option.{Option}
use Rattle.sw_io.specs.Disks.{Course, after_listing}
use Rattle.sw_cmd_line.specs.Forms.{Target}
use Rattle.sw_modules.specs.Fresh.{Setting}
use Rattle.sw_keeper.specs.Keeping.{Table}
use Rattle.sw_cmd_protocol.specs.declared.stop.Stop.{Stop}
use Rattle.sw_cmd_protocol.specs.declared.stop.Stop.TheVariants.{Ended}
use Rattle.sw_cmd_protocol.specs.Script.{script, End}
use Rattle.sw_cmd_protocol.specs.Transcript.{AreMarks, turns, held_after}
use Rattle.sw_cmd_protocol.specs.Served as protocol
use Rattle.sw_cmd_protocol.specs.Endings.{IsBrokenOff}
use Rattle.sw_cmd_protocol.specs.Exactly.{more_next, Grows, EndsExactly, AnswersAll}
use Rattle.sw_cmd_protocol.proofs.Whole.{exactly as exactly_of_any, all_answered as all_answered_of_any}
use Rattle.sw_cmd_run.specs.declared.word.Word.{Word}
use Rattle.sw_cmd_run.specs.declared.word.Word.TheVariants as word
use Rattle.sw_cmd_run.specs.Poll.{Event, Scan, Mark, Answered, Refused, Unread, Held, held, word_of, front_by, grammar, compiled_of, turn_of, poll}
use Rattle.sw_cmd_run.specs.Listings.{ReadInTurn}
use Rattle.sw_cmd_run.specs.Served.{surroundings, Served}

front_grows : (w : Word) (rest more : List ℕ) → front_by w (rest ++ more) ≡ more_next more (front_by w rest)
front_grows word.Scan rest more = refl
front_grows word.End rest more = refl
front_grows word.Other rest more = refl

grows : Grows grammar
grows line rest more n = front_grows (word_of line) rest more

pub exactly : (setting : Setting) (target : Target) (most : ℕ) (stop : Stop) (bytes : List ℕ) (left written written_now : Option (List ℕ)) (course course_now : Option Course) (ran ran_now : List (List ℕ))
    (s : Served setting target most stop (surroundings (Some bytes) written course ran) (surroundings left written_now course_now ran_now)) → EndsExactly grammar most stop bytes s.served.taken
exactly setting target most stop bytes left written written_now course course_now ran ran_now s =
    exactly_of_any (poll setting) grows most bytes ran ran_now (held target course []) s.holds stop left written written_now s.served

pub all_answered : (setting : Setting) (target : Target) (most : ℕ) (stop : Stop) (bytes before now : List ℕ) (left : Option (List ℕ)) (course course_now : Option Course) (ran ran_now : List (List ℕ))
    (s : Served setting target most stop (surroundings (Some bytes) (Some before) course ran) (surroundings left (Some now) course_now ran_now)) → (script grammar most bytes).ending ≡ End
    → IsBrokenOff stop ⊎ ((stop ≡ Ended) × AnswersAll (poll setting) most bytes s.served.marks before now ran ran_now (held target course []) s.holds)
all_answered setting target most stop bytes before now left course course_now ran ran_now s e =
    all_answered_of_any (poll setting) grows most bytes ran ran_now (held target course []) s.holds before now left stop s.served e

pub in_turn : (setting : Setting) (target : Target) (c : Course) (kept : Table) (events : List Event) (marks : List Mark) → AreMarks (poll setting) (held target (Some c) kept) events marks → ReadInTurn c marks
unfolding AreMarks turn_of
in_turn setting target c kept events [] m = tt
in_turn setting target c kept [] (Answered course folder ran now ∷ marks) m = absurd m
in_turn setting target c kept [] (Refused course folder ran ∷ marks) m = absurd m
in_turn setting target c kept [] (Unread course ∷ marks) m = tt
in_turn setting target c kept (Scan ∷ events) (Answered course folder ran now ∷ marks) m =
    let read = m.0.0 c refl in
    (read.1, in_turn setting target (after_listing c) now events marks (subst (λ (x : Option Course). AreMarks (poll setting) (held target x now) events marks) read.0 m.1))
in_turn setting target c kept (Scan ∷ events) (Refused course folder ran ∷ marks) m =
    let read = m.0 c refl in
    (read.1, in_turn setting target (after_listing c) kept events marks (subst (λ (x : Option Course). AreMarks (poll setting) (held target x kept) events marks) read.0 m.1))
in_turn setting target c kept (Scan ∷ events) (Unread course ∷ marks) m = tt

-- what is compiled stays
keeps_target : (setting : Setting) (h : Held) (events : List Event) (marks : List Mark) → (held_after h (turns (poll setting) h events marks)).target ≡ h.target
unfolding turns turn_of
keeps_target setting h [] [] = refl
keeps_target setting h (event ∷ events) [] = refl
keeps_target setting h [] (mark ∷ marks) = refl
keeps_target setting h (Scan ∷ events) (Answered course folder ran now ∷ marks) = keeps_target setting (held h.target course now) events marks
keeps_target setting h (Scan ∷ events) (Refused course folder ran ∷ marks) = keeps_target setting (held h.target course h.kept) events marks
keeps_target setting h (Scan ∷ events) (Unread course ∷ marks) = keeps_target setting (held h.target course h.kept) events marks

pub same_target : (setting : Setting) (most : ℕ) (stop : Stop) (old new : protocol.Surroundings Held) → protocol.Served (poll setting) most stop old new → new.held.target ≡ old.held.target
same_target setting most stop old new s = ap (λ (h : Held). h.target) s.did.held ∙ keeps_target setting old.held (script grammar most s.taken).events s.marks
