-- Maps that are rebuilt from the innermost one, and values before a last one.
use Rattle.std.proofs.Common.{◌≡◌, ℕ, suc, ◌+◌, ◌-◌, ◌<◌, List, [], ◌∷◌, ◌++◌, length, take, drop, get_or, bytes_eq, add-one, arith, drop-cons, Some, Result, Ok, Err, refl, sym, ap, subst, append_assoc, ◌∙◌}
use Rattle.std.proofs.Math.Seq.{take-suc, take-length}
use Rattle.indexmap.specs.IndexSet.{insert_key}
use Rattle.sw_values.specs.Canon.{canon}
use Rattle.sw_values.specs.declared.plain.Plain.{Plain}
use Rattle.sw_values.specs.Maps.{with_value}
use Rattle.sw_fn_call.specs.declared.fault.FnFault.{FnFault}
use Rattle.sw_fn_call.specs.declared.fault.FnFault.TheVariants as F
use Rattle.sw_fn_call.specs.Answers.{Answer, IsAnswer, with}
use Rattle.sw_fn_map.specs.Pairs.{Pair, map_value}
use Rattle.sw_fn_map.specs.Changes.{rebuilt, parted, parted_by, canons_after}

with-ok : (answer : Answer) → with answer (λ value. Ok value) ≡ answer
with-ok (Ok value) = refl
with-ok (Err fault) = refl

with-with : (answer : Answer) (f g : Plain → Answer) → with (with answer f) g ≡ with answer (λ value. with (f value) g)
with-with (Ok value) f g = refl
with-with (Err fault) f g = refl

pub rebuilt-append : (steps : List (List Pair × Plain)) (step : List Pair × Plain) (value : Plain)
    → rebuilt (steps ++ step ∷ []) value ≡ with (map_value (with_value step.0 step.1 value)) (rebuilt steps)
rebuilt-append [] step value = sym (with-ok (map_value (with_value step.0 step.1 value)))
rebuilt-append (first ∷ steps) step value =
    ap (λ answer. with answer (λ inner. map_value (with_value first.0 first.1 inner))) (rebuilt-append steps step value)
    ∙ with-with (map_value (with_value step.0 step.1 value)) (rebuilt steps) (λ inner. map_value (with_value first.0 first.1 inner))

pub rebuilt-step : (steps new : List (List Pair × Plain)) (step : List Pair × Plain) (value made : Plain) (whole : Answer)
    → steps ≡ new ++ step ∷ [] → Ok made ≡ map_value (with_value step.0 step.1 value) → rebuilt steps value ≡ whole
    → rebuilt new made ≡ whole
rebuilt-step steps new step value made whole e is h =
    let k : rebuilt (new ++ step ∷ []) value ≡ whole = subst (λ all. rebuilt all value ≡ whole) e h in
    let m : with (map_value (with_value step.0 step.1 value)) (rebuilt new) ≡ whole = sym (rebuilt-append new step value) ∙ k in
    subst (λ answer. with answer (rebuilt new) ≡ whole) (sym is) m

-- a fault goes through what would be made of a value
pub err-through : {A B : Type 0} (fault : FnFault) (answer : Result A FnFault) (next : A → Result B FnFault)
    → IsAnswer {T = A} (Err fault) answer → IsAnswer {T = B} (Err fault) (with answer next)
err-through F.Memory answer next h = tt
err-through F.ArgumentFault answer next h = subst (λ a. Err F.ArgumentFault ≡ with a next) h refl
err-through F.TypeFault answer next h = subst (λ a. Err F.TypeFault ≡ with a next) h refl
err-through F.UnitFault answer next h = subst (λ a. Err F.UnitFault ≡ with a next) h refl
err-through F.DivideByZero answer next h = subst (λ a. Err F.DivideByZero ≡ with a next) h refl
err-through F.NumberRange answer next h = subst (λ a. Err F.NumberRange ≡ with a next) h refl
err-through F.NotCss answer next h = subst (λ a. Err F.NotCss ≡ with a next) h refl
err-through F.TooLarge answer next h = subst (λ a. Err F.TooLarge ≡ with a next) h refl
err-through F.Index answer next h = subst (λ a. Err F.Index ≡ with a next) h refl

pub rebuilt-err : (steps new : List (List Pair × Plain)) (step : List Pair × Plain) (value : Plain) (fault : FnFault) (whole : Answer)
    → steps ≡ new ++ step ∷ [] → IsAnswer {T = Plain} (Err fault) (map_value (with_value step.0 step.1 value))
    → rebuilt steps value ≡ whole → IsAnswer {T = Plain} (Err fault) whole
rebuilt-err steps new step value fault whole e is h =
    let k : rebuilt (new ++ step ∷ []) value ≡ whole = subst (λ all. rebuilt all value ≡ whole) e h in
    let m : with (map_value (with_value step.0 step.1 value)) (rebuilt new) ≡ whole = sym (rebuilt-append new step value) ∙ k in
    subst (λ answer. IsAnswer {T = Plain} (Err fault) answer) m (err-through fault (map_value (with_value step.0 step.1 value)) (rebuilt new) is)

pub parted-append : (before : List Plain) (last : Plain)
    → parted (before ++ last ∷ []) ≡ Some (record { before = before; last = last })
parted-append [] last = refl
parted-append (value ∷ before) last = ap (λ parts. Some (parted_by value parts)) (parted-append before last)

pub parted-last : (values : List Plain) (last : Plain) → 0 < length values → last ≡ get_or values (length values - 1) last
    → parted values ≡ Some (record { before = take (length values - 1) values; last = last })
parted-last values last some is =
    let n : length values ≡ suc (length values - 1) = omega arith in
    let whole : values ≡ take (length values - 1) values ++ last ∷ [] =
    sym (take-length values) ∙ ap (λ m. take m values) n ∙ take-suc values (length values - 1) last (omega arith)
    ∙ ap (λ x. take (length values - 1) values ++ x ∷ []) (sym is) in
    ap parted whole ∙ parted-append (take (length values - 1) values) last

-- ---- what of some keys counts for `==`

next-key : (keys : List Plain) (i : ℕ) (key : Plain) → i < length keys → key ≡ get_or keys i key → drop i keys ≡ key ∷ drop (i + 1) keys
next-key keys i key lt is = rw add-one (drop-cons keys i key lt ∙ ap (λ k. k ∷ drop (suc i) keys) (sym is))

pub canons-step : (canons canons' all : List (List ℕ)) (keys : List Plain) (i : ℕ) (key : Plain) (new : List ℕ) → i < length keys
    → key ≡ get_or keys i key → new ≡ canon key → canons' ≡ insert_key bytes_eq canons new
    → canons_after canons (drop i keys) ≡ all → canons_after canons' (drop (i + 1) keys) ≡ all
canons-step canons canons' all keys i key new lt is same adds inv =
    ap (λ l. canons_after l (drop (i + 1) keys)) (adds ∙ ap (insert_key bytes_eq canons) same)
    ∙ sym (ap (canons_after canons) (next-key keys i key lt is)) ∙ inv

-- pairs so far before those to come
pub more-none : (rest : Result (List Pair) FnFault) → with rest (λ pairs. Ok ([] ++ pairs)) ≡ rest
more-none (Ok pairs) = refl
more-none (Err fault) = refl

pub more-one : (made : Pair) (all : List Pair) (rest whole : Result (List Pair) FnFault)
    → with (with rest (λ pairs. Ok (made ∷ pairs))) (λ pairs. Ok (all ++ pairs)) ≡ whole
    → with rest (λ pairs. Ok ((all ++ made ∷ []) ++ pairs)) ≡ whole
more-one made all (Ok pairs) whole h = rw append_assoc h
more-one made all (Err fault) whole h = h
