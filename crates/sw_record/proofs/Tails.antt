-- Tails of traces.
use Rattle.std.proofs.Common.{◌≡◌, ◌⊎◌, ℕ, zero, suc, ◌+◌, ◌-◌, ◌<◌, ◌≤◌, Bool, true, false, List, [], ◌∷◌, ◌++◌, length, take, get_or, refl, sym, ◌∙◌, ap, subst, inl, inr, arith, slice_get, slice_set, Some}
use Rattle.std.specs.Bool.{OnTrue}
use Rattle.std.proofs.lemmas.List.{take_more, take_all}
use Rattle.std.proofs.lemmas.List.Elements.{All-contains, All-push, Contains-push, Contains-append_left}
use Rattle.std.specs.List.{Contains}
use Rattle.std.proofs.lemmas.Option.{slice_get-get_or, slice_get_within}
use Rattle.sw_values.specs.declared.plain.Plain.{Plain}
use Rattle.sw_world.specs.declared.question.Question.{Question}
use Rattle.sw_world.specs.declared.answer.Answer.{Answer}
use Rattle.sw_world.specs.declared.variables.NamedVariables.{NamedVariables}
use Rattle.sw_world.specs.Questions.{IsLoad}
use Rattle.sw_world.specs.Body.{Pair}
use Rattle.sw_world.specs.Named.{IsOfVariable, IsOfOne, IsNamed, IsNamedIn}
use Rattle.sw_record.specs.Replay.{AskedAgain}
use Rattle.sw_record.specs.Tails.{IsTold, StandsAt, TellsUpTo, IsOfRead, AreGiven, IsGivenAt, AreGivenAt}
use Rattle.sw_record.proofs.Leading.{asked_more}

-- ---- variables of more modules, or more variables of one

pub named_more : (ns : List NamedVariables) (n : NamedVariables) (pair : Pair) → IsNamedIn ns pair → IsNamedIn (ns ++ n ∷ []) pair
named_more [] n pair none = absurd none
named_more (m ∷ ms) n pair (inl here) = inl here
named_more (m ∷ ms) n pair (inr there) = inr (named_more ms n pair there)

pub named_last : (ns : List NamedVariables) (n : NamedVariables) (pair : Pair) → IsNamed n pair → IsNamedIn (ns ++ n ∷ []) pair
named_last [] n pair is = inl is
named_last (m ∷ ms) n pair is = inr (named_last ms n pair is)

named_split : (ns : List NamedVariables) (n : NamedVariables) (pair : Pair) → IsNamedIn (ns ++ n ∷ []) pair → IsNamedIn ns pair ⊎ IsNamed n pair
named_split [] n pair (inl is) = inr is
named_split [] n pair (inr none) = absurd none
named_split (m ∷ ms) n pair (inl here) = inl (inl here)
named_split (m ∷ ms) n pair (inr there) = by (named_split ms n pair there)
  where
    by : IsNamedIn ms pair ⊎ IsNamed n pair → IsNamedIn (m ∷ ms) pair ⊎ IsNamed n pair
    by (inl first) = inl (inr first)
    by (inr last) = inr last

pub named_set : (ns : List NamedVariables) (k : ℕ) (old new : NamedVariables) → k < length ns → get_or ns k old ≡ old → ((pair : Pair) → IsNamed old pair → IsNamed new pair)
    → (pair : Pair) → IsNamedIn ns pair → IsNamedIn (slice_set ns k new) pair
named_set [] k old new lt is keeps pair none = absurd none
named_set (n ∷ ns) zero old new lt is keeps pair (inl here) = inl (keeps pair (subst (λ (m : NamedVariables). IsNamed m pair) is here))
named_set (n ∷ ns) zero old new lt is keeps pair (inr there) = inr there
named_set (n ∷ ns) (suc k) old new lt is keeps pair (inl here) = inl here
named_set (n ∷ ns) (suc k) old new lt is keeps pair (inr there) = inr (named_set ns k old new (omega (arith, lt)) is keeps pair there)

pub set_there : (ns : List NamedVariables) (k : ℕ) (new : NamedVariables) → k < length ns → (pair : Pair) → IsNamed new pair → IsNamedIn (slice_set ns k new) pair
set_there [] k new lt pair is = absurd (omega (arith, lt))
set_there (n ∷ ns) zero new lt pair is = inl is
set_there (n ∷ ns) (suc k) new lt pair is = inr (set_there ns k new (omega (arith, lt)) pair is)

-- what two questions stand for is a variable of its module
pub of_read : (named : NamedVariables) (site space path name : List ℕ) (value : Plain) (pair : Pair)
    → named.site ≡ site → named.space ≡ space → named.path ≡ path → IsOfRead site space path name value pair → IsOfVariable named (name, value) pair
of_read named site space path name value pair a b c is = rw (a, b, c) is

pub first_read : (named : NamedVariables) (site space path name : List ℕ) (value : Plain)
    → named ≡ record { site = site; space = space; path = path; values = (name, value) ∷ [] } → (pair : Pair) → IsOfRead site space path name value pair → IsNamed named pair
first_read named site space path name value is pair asked = subst (λ (n : NamedVariables). IsNamed n pair) (sym is) (inl asked)

-- ---- no load

variable_plain : (named : NamedVariables) (variable : List ℕ × Plain) (pair : Pair) → IsOfVariable named variable pair → IsLoad pair.0 → ⊥
variable_plain named variable pair (inl is) load = subst (λ (p : Pair). IsLoad p.0) is load
variable_plain named variable pair (inr is) load = subst (λ (p : Pair). IsLoad p.0) is load

one_plain : (named : NamedVariables) (es : List (List ℕ × Plain)) (pair : Pair) → IsOfOne named es pair → IsLoad pair.0 → ⊥
one_plain named [] pair none load = none
one_plain named (e ∷ es) pair (inl is) load = variable_plain named e pair is load
one_plain named (e ∷ es) pair (inr is) load = one_plain named es pair is load

named_plain : (ns : List NamedVariables) (pair : Pair) → IsNamedIn ns pair → IsLoad pair.0 → ⊥
named_plain [] pair none load = none
named_plain (n ∷ ns) pair (inl is) load = one_plain n n.values pair is load
named_plain (n ∷ ns) pair (inr is) load = named_plain ns pair is load

-- ---- more questions are told

pub tells_kept : (ns ns' : List NamedVariables) (alone alone' : List ℕ) (seen : List Pair) (from to : ℕ) → TellsUpTo ns alone seen from to
    → ((pair : Pair) → IsTold ns alone seen pair → IsTold ns' alone' seen pair) → TellsUpTo ns' alone' seen from to
tells_kept ns ns' alone alone' seen from to tells keeps =
    record { ordered = tells.ordered; within = tells.within; told = λ place pair le lt here. keeps pair (tells.told place pair le lt here) }

same_some : (x y : ℕ) → Some x ≡ Some y → x ≡ y
same_some x y e = cc

-- one question is told
pub tells_one : (ns : List NamedVariables) (alone : List ℕ) (seen : List Pair) (at : ℕ) → at < length seen
    → ((pair : Pair) → slice_get seen at ≡ Some pair → StandsAt seen alone pair) → TellsUpTo ns alone seen at (at + 1)
tells_one ns alone seen at lt told =
    record { ordered = omega arith; within = omega (arith, lt); told = λ place pair le below here. let is : place ≡ at = omega (arith, le, below) in inr (told pair (rw is at here)) }

pub told_more : (ns : List NamedVariables) (old new : List ℕ) (seen : List Pair) → ((pair : Pair) → StandsAt seen old pair → StandsAt seen new pair)
    → (pair : Pair) → IsTold ns old seen pair → IsTold ns new seen pair
told_more ns old new seen keeps pair (inl named) = inl named
told_more ns old new seen keeps pair (inr stands) = inr (keeps pair stands)

pub contained : (places : List ℕ) (k place : ℕ) → slice_get places k ≡ Some place → Contains places place
contained places k place here =
    let within = slice_get_within places k place here in
    (k, within, same_some _ _ (sym (slice_get-get_or places k place within) ∙ here))

pub stands_pushed : (seen : List Pair) (places : List ℕ) (at : ℕ) (pair : Pair) → slice_get seen at ≡ Some pair → StandsAt seen (places ++ at ∷ []) pair
stands_pushed seen places at pair here = (at, Contains-push places at, here)

pub stands_still : (seen : List Pair) (places : List ℕ) (at : ℕ) (pair : Pair) → StandsAt seen places pair → StandsAt seen (places ++ at ∷ []) pair
stands_still seen places at pair (place, among, here) = (place, Contains-append_left places (at ∷ []) place among, here)

lt_or_le : (a b : ℕ) → (a < b) ⊎ (b ≤ a)
lt_or_le a b = grind arith

pub tells_on : (ns : List NamedVariables) (alone : List ℕ) (seen : List Pair) (from at to : ℕ) → TellsUpTo ns alone seen from at → TellsUpTo ns alone seen at to
    → TellsUpTo ns alone seen from to
tells_on ns alone seen from at to first second =
    record { ordered = omega (arith, first.ordered, second.ordered); within = second.within; told = λ place pair le lt here. by place pair le lt here (lt_or_le place at) }
  where
    by : (place : ℕ) (pair : Pair) → from ≤ place → place < to → slice_get seen place ≡ Some pair → (place < at) ⊎ (at ≤ place) → IsTold ns alone seen pair
    by place pair le lt here (inl before) = first.told place pair le before here
    by place pair le lt here (inr behind) = second.told place pair behind lt here

-- ---- all are given

pub none_given : {W : Type 0} (gives : W → Question → Answer → W → Type 0) (w : W) → AreGiven gives w []
none_given gives w pair none = absurd none

pub given_more : {W : Type 0} (gives : W → Question → Answer → W → Type 0) (w : W) (ns : List NamedVariables) (at : ℕ) (n : NamedVariables) → at < length ns → get_or ns at n ≡ n
    → AreGiven gives w (take at ns) → ((pair : Pair) → IsNamed n pair → gives w pair.0 pair.1 w) → AreGiven gives w (take (at + 1) ns)
given_more {W} gives w ns at n lt is given one pair asked =
    let last : take (at + 1) ns ≡ take at ns ++ n ∷ [] = take_more ns at n lt ∙ ap (λ x. take at ns ++ x ∷ []) is in
    by (named_split (take at ns) n pair (subst (λ l. IsNamedIn l pair) last asked))
  where
    by : IsNamedIn (take at ns) pair ⊎ IsNamed n pair → gives w pair.0 pair.1 w
    by (inl first) = given pair first
    by (inr here) = one pair here

pub at_more : {W : Type 0} (gives : W → Question → Answer → W → Type 0) (w : W) (seen : List Pair) (places : List ℕ) (at d : ℕ) → at < length places
    → AreGivenAt gives w seen (take at places) → IsGivenAt gives w seen (get_or places at d) → AreGivenAt gives w seen (take (at + 1) places)
at_more gives w seen places at d lt before one =
    subst (λ l. AreGivenAt gives w seen l) (sym (take_more places at d lt)) (All-push (IsGivenAt gives w seen) (take at places) (get_or places at d) before one)

pub at_all : {W : Type 0} (gives : W → Question → Answer → W → Type 0) (w : W) (seen : List Pair) (places : List ℕ) (at : ℕ) → length places ≤ at
    → AreGivenAt gives w seen (take at places) → AreGivenAt gives w seen places
at_all gives w seen places at le all = subst (λ l. AreGivenAt gives w seen l) (take_all at places le) all

-- a range of which each question is given
asked_up : {W : Type 0} (gives : W → Question → Answer → W → Type 0) (seen : List Pair) (from d : ℕ) (w : W) → from + d ≤ length seen
    → ((place : ℕ) (pair : Pair) → from ≤ place → place < from + d → slice_get seen place ≡ Some pair → (IsLoad pair.0 → ⊥) × gives w pair.0 pair.1 w)
    → AskedAgain gives seen from (from + d) w w
asked_up gives seen from zero w within each =
    let none : from - from ≡ 0 = omega arith in
    let same : from + 0 ≡ from = omega arith in
    rw same (omega arith, omega (arith, within), rw none refl)
asked_up gives [] from (suc d) w within each = absurd (omega (arith, within))
asked_up {W} gives (x ∷ xs) from (suc d) w within each =
    let inside : from + d < length (x ∷ xs) = omega (arith, within) in
    let here : slice_get (x ∷ xs) (from + d) ≡ Some (get_or (x ∷ xs) (from + d) x) = slice_get-get_or (x ∷ xs) (from + d) x inside in
    let one = each (from + d) (get_or (x ∷ xs) (from + d) x) (omega arith) (omega arith) here in
    let before : AskedAgain gives (x ∷ xs) from (from + d) w w = asked_up gives (x ∷ xs) from d w (omega (arith, within)) (λ place pair le lt. each place pair le (omega (arith, lt))) in
    let next : from + suc d ≡ (from + d) + 1 = omega arith in
    subst (λ n. AskedAgain gives (x ∷ xs) from n w w) (sym next) (asked_more gives (x ∷ xs) from (from + d) (get_or (x ∷ xs) (from + d) x) w w w before here one.0 one.1)

pub asked_tail : {W : Type 0} (gives : W → Question → Answer → W → Type 0) (w : W) (seen : List Pair) (from to : ℕ) (named : List NamedVariables) (alone : List ℕ)
    → TellsUpTo named alone seen from to → AreGiven gives w named → AreGivenAt gives w seen alone → AskedAgain gives seen from to w w
asked_tail {W} gives w seen from to named alone tells given given_at =
    let up : from + (to - from) ≡ to = omega (arith, tells.ordered) in
    subst (λ n. AskedAgain gives seen from n w w) up
    (asked_up gives seen from (to - from) w (rw up tells.within) (λ place pair le lt here. by place pair here (tells.told place pair le (omega (arith, lt, tells.ordered)) here)))
  where
    by : (place : ℕ) (pair : Pair) → slice_get seen place ≡ Some pair → IsTold named alone seen pair → (IsLoad pair.0 → ⊥) × gives w pair.0 pair.1 w
    by place pair here (inl is) = (named_plain named pair is, given pair is)
    by place pair here (inr (told, among, there)) = All-contains (IsGivenAt gives w seen) alone told given_at among pair there

pub on_true : (b : Bool) {P Q : Type 0} → (P → Q) → OnTrue b P → OnTrue b Q
on_true true f h = f h
on_true false f h = h
