-- What was taken has the script of all that the source had.
use Rattle.std.proofs.Common.{◌≡◌, ◌≢◌, ℕ, List, [], ◌++◌, length, None, Some, subst, refl, sym, ap, ◌∙◌, ◌⊎◌, inl, inr}
use Rattle.std.specs.declared.option.Option.{Option}
use Rattle.std.proofs.lemmas.List.{append-nil}
use Rattle.sw_cmd_protocol.specs.declared.stop.Stop.{Stop}
use Rattle.sw_cmd_protocol.specs.declared.stop.Stop.TheVariants.{Ended, Wrong, CutOff, SourceFailed, SinkFailed, Memory, OutsideFailed, Over as Over_stop}
use Rattle.sw_cmd_protocol.specs.Script.{Ending, End, Bad, Over, Cut, Grammar, Script, script}
use Rattle.sw_cmd_protocol.specs.Endings.{stop_at, IsBrokenOff}
use Rattle.sw_cmd_protocol.specs.Protocol.{Protocol}
use Rattle.sw_cmd_protocol.specs.Transcript.{AreMarks, turns, text, ran_in, held_after}
use Rattle.sw_cmd_protocol.specs.Served.{surroundings, Served}
use Rattle.sw_cmd_protocol.specs.Exactly.{Grows, EndsExactly, AnswersAll}
use Rattle.sw_cmd_protocol.proofs.Growing.{script_grows}

abbrev Same : {Event : Type 0} → Grammar Event → ℕ → Stop → List ℕ → List ℕ → Type 0
Same grammar most stop bytes taken = (stop ≡ stop_at (script grammar most bytes).ending) × (script grammar most taken ≡ script grammar most bytes)

module _ {Event : Type 0} (grammar : Grammar Event) (grows : Grows grammar) (most : ℕ) (bytes taken rest : List ℕ) (b : bytes ≡ taken ++ rest) where
  ended : (ending : Ending) → (script grammar most taken).ending ≡ ending → ending ≢ Cut → Same grammar most (stop_at ending) bytes taken
  ended ending e n =
      let same : script grammar most bytes ≡ script grammar most taken = ap (script grammar most) b ∙ script_grows grammar grows most taken rest (λ c. n (sym e ∙ c)) in
      (sym (ap (λ (s : Script Event). stop_at s.ending) same ∙ ap stop_at e), sym same)

  cut : (script grammar most taken).ending ≡ Cut → rest ≡ [] → Same grammar most CutOff bytes taken
  cut e n =
      let same : script grammar most bytes ≡ script grammar most taken = ap (script grammar most) (b ∙ ap (λ t. taken ++ t) n ∙ append-nil taken) in
      (sym (ap (λ (s : Script Event). stop_at s.ending) same ∙ ap stop_at e), sym same)

not_ended : {Event : Type 0} (grammar : Grammar Event) (most : ℕ) (stop : Stop) (bytes taken : List ℕ) → EndsExactly grammar most stop bytes taken → (script grammar most bytes).ending ≡ End → IsBrokenOff stop ⊎ (stop ≡ Ended)
not_ended grammar most stop bytes taken (inl broken) e = inl broken
not_ended grammar most stop bytes taken (inr same) e = inr (same.0 ∙ ap stop_at e)

apart_wrong : Wrong ≡ Ended → ⊥
apart_wrong c = cc

apart_cut : CutOff ≡ Ended → ⊥
apart_cut c = cc

apart_over : Over_stop ≡ Ended → ⊥
apart_over c = cc

module _ {Event Mark Held Reply : Type 0} (p : Protocol Event Mark Held Reply) (grows : Grows p.grammar) (most : ℕ) (bytes : List ℕ) (ran ran_now : List (List ℕ)) (held held_now : Held) where
  pub exactly : (stop : Stop) (left written now : Option (List ℕ))
      (s : Served p most stop (surroundings (Some bytes) written held ran) (surroundings left now held_now ran_now)) → EndsExactly p.grammar most stop bytes s.taken
  exactly SourceFailed left written now s = inl tt
  exactly SinkFailed left written now s = inl tt
  exactly Memory left written now s = inl tt
  exactly OutsideFailed left written now s = inl tt
  exactly Ended None written now s = absurd s.source
  exactly Ended (Some rest) written now s = inr (ended p.grammar grows most bytes s.taken rest s.source End s.ending (λ c. cc))
  exactly Wrong None written now s = absurd s.source
  exactly Wrong (Some rest) written now s = inr (ended p.grammar grows most bytes s.taken rest s.source Bad s.ending (λ c. cc))
  exactly Over_stop None written now s = absurd s.source
  exactly Over_stop (Some rest) written now s = inr (ended p.grammar grows most bytes s.taken rest s.source Over s.ending (λ c. cc))
  exactly CutOff None written now s = absurd s.source
  exactly CutOff (Some rest) written now s = inr (cut p.grammar grows most bytes s.taken rest s.source s.ending.0 s.ending.1)

  module _ (before now : List ℕ) (left : Option (List ℕ)) where
    ended_all : (s : Served p most Ended (surroundings (Some bytes) (Some before) held ran) (surroundings left (Some now) held_now ran_now))
        → EndsExactly p.grammar most Ended bytes s.taken → AnswersAll p most bytes s.marks before now ran ran_now held held_now
    ended_all s (inl broken) = absurd broken
    ended_all s (inr same) = record {
      marked = subst (λ (t : Script Event). AreMarks p held t.events s.marks) same.1 s.marked;
      each = s.tells.each ∙ ap (λ (t : Script Event). length t.events) same.1;
      grew = record {
        by_text = s.sink ∙ ap (λ t. before ++ t) (s.tells.written ∙ ap (λ (t : Script Event). text (turns p held t.events s.marks)) same.1);
        by_bodies = s.did.ran ∙ ap (λ (t : Script Event). ran ++ ran_in (turns p held t.events s.marks)) same.1;
        by_turns = s.did.held ∙ ap (λ (t : Script Event). held_after held (turns p held t.events s.marks)) same.1;
      };
    }

    pub all_answered : (stop : Stop) (s : Served p most stop (surroundings (Some bytes) (Some before) held ran) (surroundings left (Some now) held_now ran_now)) → (script p.grammar most bytes).ending ≡ End
        → IsBrokenOff stop ⊎ ((stop ≡ Ended) × AnswersAll p most bytes s.marks before now ran ran_now held held_now)
    all_answered SourceFailed s e = inl tt
    all_answered SinkFailed s e = inl tt
    all_answered Memory s e = inl tt
    all_answered OutsideFailed s e = inl tt
    all_answered Ended s e = inr (refl, ended_all s (exactly Ended left (Some before) (Some now) s))
    all_answered Wrong s e = elim (not_ended p.grammar most Wrong bytes s.taken (exactly Wrong left (Some before) (Some now) s) e) [ inl b ↦ absurd b | inr c ↦ absurd (apart_wrong c) ]
    all_answered CutOff s e = elim (not_ended p.grammar most CutOff bytes s.taken (exactly CutOff left (Some before) (Some now) s) e) [ inl b ↦ absurd b | inr c ↦ absurd (apart_cut c) ]
    all_answered Over_stop s e = elim (not_ended p.grammar most Over_stop bytes s.taken (exactly Over_stop left (Some before) (Some now) s) e) [ inl b ↦ absurd b | inr c ↦ absurd (apart_over c) ]
