-- What a whole walk lays stands in order in the text.
use Rattle.std.proofs.Common.{◌≡◌, ℕ, zero, suc, ◌+◌, ◌-◌, ◌*◌, ◌≤◌, ◌<◌, List, [], ◌∷◌, refl, sym, subst, ap, ◌∙◌, arith, length, Option, Some, None, Result, Ok, Err}
use Rattle.std.specs.Prelude.{nat_lt, ◌^◌, IfOk, IfErr}
use Rattle.std.specs.Str.{IsCharBoundary}
use Rattle.std.proofs.lemmas.Bool.Decides.{nat_tests}
use Rattle.std.proofs.lemmas.Str.{IsCharBoundary-before_ascii}
use Rattle.sw_text.specs.Places.{mark_length}
use Rattle.sw_tokens.specs.declared.token.Token.{Token}
use Rattle.sw_tokens.specs.declared.token.Syntax.TheVariants as syntaxes
use Rattle.sw_tokens.specs.declared.scan.Opened.{Opened}
use Rattle.sw_tokens.specs.Order.{InOrder}
use Rattle.sw_tokens.specs.Tokens.{first_start}
use Rattle.sw_tokens.specs.Ends.{reached}
use Rattle.sw_text_scan.proofs.Progress.{either}
use Rattle.sw_tokens.proofs.Cuts.{IsText, byte_is, cut_after}
use Rattle.sw_tokens.proofs.Ordered.{AllStarted, IsAsciiAt, mark_cut, order_from}
use Rattle.sw_parse_layout.specs.declared.laid.Laid.{Laid}
use Rattle.sw_parse_layout.specs.declared.state.State.{State}
use Rattle.sw_parse_layout.specs.declared.state.Found.{Found}
use Rattle.sw_parse_layout.specs.declared.state.StepEnd.TheVariants as steps
use Rattle.sw_parse_layout.specs.declared.state.StepEnd.{StepEnd}
use Rattle.sw_parse_layout.specs.declared.walk.Place.{Place}
use Rattle.sw_parse_layout.specs.declared.walk.LayoutEnd.{LayoutEnd}
use Rattle.sw_parse_layout.specs.declared.walk.LayoutEnd.TheVariants as ends
use Rattle.sw_parse_layout.specs.Laid.{nothing, both, behind}
use Rattle.sw_parse_layout.specs.Steps.{step, Stepped}
use Rattle.sw_parse_layout.specs.Layout.{CutIf, IsByte, IsPlace, Fits32, place_of, told_by, Told, TellsLaid, walk_on, walk, finished_by, finished, start_at, laid_of}
use Rattle.sw_parse_layout.proofs.Loops.{walk_past, loop_step, loop_broken}
use Rattle.sw_parse_layout.proofs.Runs.{runs_order, Lays, lays_both, reached_order, end_of_cut}
use Rattle.sw_parse_layout.proofs.Brought.{last_runs}
use Rattle.sw_parse_layout.proofs.Stands.{Stands, Steps, goes, unclosed, step_steps}

module _ (bs : List ℕ) where
  pub data IsLawful (i : ℕ) : Result Laid ℕ → Type 0 where
    laid : {l : Laid} (j : ℕ) → Lays bs i j l → IsLawful i (Ok l)
    open_at : {k : ℕ} → IsByte bs (steps.Unclosed k) → IsLawful i (Err k)

  lawful_behind : (i j : ℕ) (x : Laid) (r : Result Laid ℕ) → Lays bs i j x → IsLawful j r → IsLawful i (behind x r)
  lawful_behind i j x (Ok y) l (laid k m) = laid k (lays_both bs i j k x y l m)
  lawful_behind i j x (Err k) l (open_at b) = open_at b

module _ (bs : List ℕ) (text : IsText bs) where
  byte_at : (k : ℕ) → IsAsciiAt bs k → IsByte bs (steps.Unclosed k)
  byte_at k ascii =
      let l = ascii.within in
      let small = ascii.small in
      let e = byte_is bs k l in
      (l, IsCharBoundary-before_ascii bs k l (omega arith), cut_after bs text k l small)

  pub start_stands : (at : ℕ) → at ≡ mark_length bs → Stands bs (start_at at)
  start_stands at e =
      let cut = subst (IsCharBoundary bs) (sym e) (mark_cut syntaxes.Scss bs text) in
      record { within = cut.0; cut = cut; started = tt; order = omega arith; last = cut; comments = omega arith }

  by_first : (s : State) (os : List Opened) → IsCharBoundary bs s.line.end → AllStarted bs os
      → IsLawful bs s.line.end (finished_by s (first_start os))
  by_first s [] cut all = laid s.line.end (record { runs = last_runs bs text s cut; refused = tt })
  by_first s (o ∷ os) cut all = open_at (byte_at o.start (record { within = all.0.0; small = all.0.1 }))

  finished_lawful : (s : State) → Stands bs s → IsLawful bs s.line.end (finished s)
  unfolding finished
  finished_lawful s st = by_first s s.line.opened st.last st.started

  step_lawful : (on : State → Result Laid ℕ) (s : State) (r : Result Found ℕ) → Steps bs s r → ((t : State)
      → Stands bs t → IsLawful bs t.line.end (on t)) → IsLawful bs s.line.end (walk_on on r)
  step_lawful on s (Ok f) (goes st ls) ih =
      lawful_behind bs s.line.end f.state.line.end f.laid (on f.state) ls (ih f.state st)
  step_lawful on s (Err k) (unclosed a) ih = open_at (byte_at k a)

  walk_lawful : (n : ℕ) (s : State) → Stands bs s → IsLawful bs s.line.end (walk bs n s)
  walk_lawful zero s st = finished_lawful s st
  walk_lawful (suc n) s st =
      either (IsLawful bs s.line.end) (nat_lt s.at (length bs)) _ _
      (λ m. step_lawful (walk bs n) s (step bs s) (step_steps bs text s st (grind (arith, nat_tests))) (λ t here.
      walk_lawful n t here))
      (λ _. finished_lawful s st)

  laid_lawful : IsLawful bs (mark_length bs) (laid_of bs)
  unfolding laid_of
  laid_lawful = walk_lawful (2 * length bs) (start_at (mark_length bs)) (start_stands (mark_length bs) refl)

  pub record IsLaid (l : Laid) : Type 0 where
    pub order : InOrder bs 0 (reached l.tokens).list
    pub refused : CutIf bs l.refused

  of_lays : (l : Laid) (j : ℕ) → Lays bs (mark_length bs) j l → IsLaid l
  of_lays l j m = record {
    order = order_from bs 0 (mark_length bs) (reached l.tokens).list (omega arith) (reached_order bs (mark_length bs)
        l.tokens (runs_order bs (mark_length bs) j l.tokens m.runs));
    refused = m.refused;
  }

  of_lawful : (l : Laid) → IsLawful bs (mark_length bs) (Ok l) → IsLaid l
  of_lawful l (laid j m) = of_lays l j m

  pub laid_stands : (l : Laid) → laid_of bs ≡ Ok l → IsLaid l
  laid_stands l e = of_lawful l (subst (IsLawful bs (mark_length bs)) e laid_lawful)

  of_open : (k : ℕ) → IsLawful bs (mark_length bs) (Err k) → IsByte bs (steps.Unclosed k)
  of_open k (open_at b) = b

  pub open_stands : (k : ℕ) → laid_of bs ≡ Err k → IsByte bs (steps.Unclosed k)
  open_stands k e = of_open k (subst (IsLawful bs (mark_length bs)) e laid_lawful)

  step_goes : (s : State) (r : Result Found ℕ) (f : Found) → Steps bs s r → r ≡ Ok f → Stands bs f.state
  step_goes s (Ok g) f (goes st ls) e = subst (λ (h : Found). Stands bs h.state) (ap given e) st
    where
      given : Result Found ℕ → Found
      given (Ok h) = h
      given (Err k) = f
  step_goes s (Err k) f (unclosed a) e = absurd (cc)

  -- the loop of the walk goes on
  pub loop_stands : (s : State) (f : Found) → Stands bs s → s.at < length bs → step bs s ≡ Ok f → Stands bs f.state
  loop_stands s f st l e = step_goes s (step bs s) f (step_steps bs text s st l) e

-- the answers of the walk
module _ (bs : List ℕ) where
  nothing_before : (r : Result Laid ℕ) → behind nothing r ≡ r
  nothing_before (Ok l) = refl
  nothing_before (Err k) = refl

  pub walk_begins : (acc : Laid) (s : State) (at : ℕ) → acc ≡ nothing → s ≡ start_at at → at ≡ mark_length bs
      → behind acc (walk bs (2 * length bs - 0) s) ≡ laid_of bs
  unfolding laid_of
  walk_begins acc s at e f g =
      ap (λ (a : Laid). behind a (walk bs (2 * length bs - 0) s)) e ∙ nothing_before _
      ∙ ap (λ (k : ℕ). walk bs k s) fuel ∙ ap (walk bs (2 * length bs)) (f ∙ ap start_at g)
    where
      fuel : 2 * length bs - 0 ≡ 2 * length bs
      fuel = omega arith

  pub walk_ends : (acc : Laid) (n : ℕ) (s : State) (t : Result Laid ℕ) → behind acc (walk bs n s) ≡ t
      → length bs ≤ s.at → behind acc (finished s) ≡ t
  walk_ends acc n s t inv l = ap (behind acc) (sym (walk_past bs n s l)) ∙ inv

  pub walk_breaks : (acc : Laid) (n : ℕ) (s : State) (t : Result Laid ℕ) (end : StepEnd)
      → behind acc (walk bs n s) ≡ t → 0 < n → s.at < length bs → Stepped (Err end) (step bs s) → TellsLaid (Err end) t
  walk_breaks acc n s t steps.Memory inv z l told = tt
  walk_breaks acc n s t (steps.Unclosed k) inv z l told = loop_broken bs acc n s t k inv z l told

  pub walk_goes : (acc more : Laid) (count block : ℕ) (s : State) (t : Result Laid ℕ) (f : Found)
      → behind acc (walk bs (count - block) s) ≡ t → block < count → s.at < length bs → step bs s ≡ Ok f
      → more ≡ both acc f.laid → behind more (walk bs (count - (block + 1)) f.state) ≡ t
  walk_goes acc more count block s t f inv z l e m =
      ap (λ (a : Laid). behind a (walk bs (count - (block + 1)) f.state)) m ∙ ap (λ (k : ℕ). behind (both acc f.laid)
      (walk bs k f.state)) less
      ∙ loop_step bs acc (count - block) s t f inv (omega arith) l e
    where
      less : count - (block + 1) ≡ (count - block) - 1
      less = omega arith

  pub fits : (end : StepEnd) → IsByte bs end → length bs < 2 ^ 32 → Fits32 end
  fits steps.Memory b l = tt
  fits (steps.Unclosed k) b l = let lt = b.0 in omega arith

  pub place_stands : (end : StepEnd) → IsByte bs end → IsPlace bs (place_of end)
  place_stands steps.Memory b = tt
  place_stands (steps.Unclosed k) b = (b.1, b.2)

  pub told_order : (ts : List Token) (refused : Option ℕ) (r : Result (List Token) LayoutEnd) → InOrder bs 0 ts
      → Told r (told_by ts refused) → IfOk r (λ us. InOrder bs 0 us)
  told_order ts None (Ok us) order e = subst (InOrder bs 0) (ap given e) order
    where
      given : Result (List Token) Place → List Token
      given (Ok h) = h
      given (Err k) = ts
  told_order ts (Some k) (Ok us) order e = absurd (cc)
  told_order ts refused (Err end) order e = tt

  pub told_place : (ts : List Token) (refused : Option ℕ) (r : Result (List Token) LayoutEnd) → InOrder bs 0 ts
      → CutIf bs refused → Told r (told_by ts refused) → IfErr r (IsPlace bs)
  told_place ts refused (Ok us) order cut e = tt
  told_place ts refused (Err ends.Memory) order cut e = tt
  told_place ts None (Err (ends.Refused place)) order cut e = absurd (cc)
  told_place ts (Some k) (Err (ends.Refused place)) order cut e =
      subst (λ (p : Place). IsCharBoundary bs p.from × IsCharBoundary bs p.to) (ap given e) (
        cut,
        end_of_cut bs k 0 ts
            cut order,
      )
    where
      given : Result (List Token) Place → Place
      given (Ok h) = place
      given (Err p) = p

module _ (bs : List ℕ) (text : IsText bs) where
  pub end_stands : (end : StepEnd) → TellsLaid (Err end) (laid_of bs) → IsByte bs end
  end_stands steps.Memory told = tt
  end_stands (steps.Unclosed k) told = open_stands bs text k told
