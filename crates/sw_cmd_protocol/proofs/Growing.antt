-- A script that has ended stays as it is, whatever bytes follow.
use Rattle.std.proofs.Common.{◌≡◌, ◌≢◌, ℕ, suc, zero, Bool, true, false, eqb, if◌then◌else◌, List, [], ◌∷◌, ◌++◌, refl, ap, ◌∙◌}
use Rattle.sw_io.specs.Lines.{Split, Line, Long, Unended, longer, split_line}
use Rattle.sw_cmd_protocol.specs.Script.{Grammar, Next, Whole, Closing, NoRequest, Short, next_by, next, Ending, Cut, last, last_by, Script, script, script_by}
use Rattle.sw_cmd_protocol.specs.Exactly.{more_next, Grows}

abbrev more_split : List ℕ → Split → Split
more_split more (Line line rest) = Line line (rest ++ more)
more_split more Long = Long
more_split more Unended = Unended

longer_more : (byte : ℕ) (more : List ℕ) (s : Split) → longer byte (more_split more s) ≡ more_split more (longer byte s)
longer_more byte more (Line line rest) = refl
longer_more byte more Long = refl
longer_more byte more Unended = refl

split_step : (t : Bool) (byte : ℕ) (bytes more : List ℕ) (x y : Split) → (y ≢ Unended → x ≡ more_split more y) → (if t then Line [] bytes else longer byte y) ≢ Unended
    → (if t then Line [] (bytes ++ more) else longer byte x) ≡ more_split more (if t then Line [] bytes else longer byte y)
split_step true byte bytes more x y ih h = refl
split_step false byte bytes more x y ih h = ap (longer byte) (ih (λ e. h (ap (longer byte) e))) ∙ longer_more byte more y

split_grows : (room : ℕ) (bytes more : List ℕ) → split_line room bytes ≢ Unended → split_line room (bytes ++ more) ≡ more_split more (split_line room bytes)
unfolding split_line
split_grows room [] more h = absurd (h refl)
split_grows zero (byte ∷ bytes) more h =
    elim (eqb byte 10) as (λ t. (if t then Line [] (bytes ++ more) else Long) ≡ more_split more (if t then Line [] bytes else Long)) [ true ↦ refl | false ↦ refl ]
split_grows (suc room) (byte ∷ bytes) more h =
    split_step (eqb byte 10) byte bytes more (split_line room (bytes ++ more)) (split_line room bytes) (split_grows room bytes more) h

module _ {Event : Type 0} (grammar : Grammar Event) (grows : Grows grammar) where
  split_next : (s t : Split) (more : List ℕ) → (s ≢ Unended → t ≡ more_split more s) → next_by grammar s ≢ Short → next_by grammar t ≡ more_next more (next_by grammar s)
  split_next (Line line rest) t more ih h = ap (next_by grammar) (ih (λ e. cc)) ∙ grows line rest more h
  split_next Long t more ih h = ap (next_by grammar) (ih (λ e. cc))
  split_next Unended t more ih h = absurd (h refl)

  next_grows : (bytes more : List ℕ) → next grammar bytes ≢ Short → next grammar (bytes ++ more) ≡ more_next more (next grammar bytes)
  unfolding next
  next_grows bytes more h = split_next (split_line 1024 bytes) (split_line 1024 (bytes ++ more)) more (split_grows 1024 bytes more) h

  split_last : (s t : Split) (more : List ℕ) → (s ≢ Unended → t ≡ more_split more s) → last_by grammar s ≢ Cut → last_by grammar t ≡ last_by grammar s
  split_last (Line line rest) t more ih h = ap (last_by grammar) (ih (λ e. cc))
  split_last Long t more ih h = ap (last_by grammar) (ih (λ e. cc))
  split_last Unended t more ih h = absurd (h refl)

  last_grows : (bytes more : List ℕ) → last grammar bytes ≢ Cut → last grammar (bytes ++ more) ≡ last grammar bytes
  unfolding last
  last_grows bytes more h = split_last (split_line 1024 bytes) (split_line 1024 (bytes ++ more)) more (split_grows 1024 bytes more) h

  next_script : (others : List ℕ → Script Event) (more : List ℕ) → ((rest : List ℕ) → (others rest).ending ≢ Cut → others (rest ++ more) ≡ others rest)
      → (x y : Next Event) → (x ≢ Short → y ≡ more_next more x) → (script_by others x).ending ≢ Cut → script_by others y ≡ script_by others x
  next_script others more ih (Whole event rest) y g h = ap (script_by others) (g (λ e. cc)) ∙ ap (λ (s : Script Event). let t : Script Event = record { events = event ∷ s.events; ending = s.ending } in t) (ih rest h)
  next_script others more ih Closing y g h = ap (script_by others) (g (λ e. cc))
  next_script others more ih NoRequest y g h = ap (script_by others) (g (λ e. cc))
  next_script others more ih Short y g h = absurd (h refl)

  pub script_grows : (n : ℕ) (bytes more : List ℕ) → (script grammar n bytes).ending ≢ Cut → script grammar n (bytes ++ more) ≡ script grammar n bytes
  unfolding script
  script_grows zero bytes more h = ap (λ (x : Ending). let s : Script Event = record { events = []; ending = x } in s) (last_grows bytes more h)
  script_grows (suc n) bytes more h = next_script (script grammar n) more (λ rest. script_grows n rest more) (next grammar bytes) (next grammar (bytes ++ more)) (next_grows bytes more) h
