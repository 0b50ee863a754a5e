-- What ran is given by the kept runs and the runs of a compile.
use Rattle.std.proofs.Common.{◌≡◌, ◌≢◌, ◌⊎◌, List, [], ◌∷◌, ◌++◌, append_assoc, refl, sym, ◌∙◌, ap, subst, inl, inr, arith}
use Rattle.std.specs.List.{All, Any, Contains}
use Rattle.std.proofs.lemmas.List.Elements.{All-contains}
use Rattle.sw_world.specs.declared.question.Question.{Question}
use Rattle.sw_world.specs.declared.question.Question.TheVariants as ops
use Rattle.sw_world.specs.Body.{Pair, Run}
use Rattle.sw_record.specs.declared.reply.Cause.{Cause}
use Rattle.sw_record.specs.declared.reply.Cause.TheVariants.{First, Text, Config, Load, Member, Variable, Call}
use Rattle.sw_record.specs.Ran.{RanIsOne, IsAlike, IsAnswered, NoneGoesOn, IsCause, IsCauseBy}

-- a list that two fronts with a pair behind each begin: the pairs are the same, or one front goes on with the other pair
abbrev Ahead : List Pair → List Pair → Pair → Pair → Type 0
Ahead xs ys p q = (p ≡ q) ⊎ (((mid : List Pair) × (ys ≡ xs ++ p ∷ mid)) ⊎ ((mid : List Pair) × (xs ≡ ys ++ q ∷ mid)))

ahead_more : (x y : Pair) (xs ys : List Pair) (p q : Pair) → x ≡ y → Ahead xs ys p q → Ahead (x ∷ xs) (y ∷ ys) p q
ahead_more x y xs ys p q e (inl a) = inl a
ahead_more x y xs ys p q e (inr (inl a)) = inr (inl (a.0, ap (λ (z : Pair). z ∷ ys) (sym e) ∙ ap (λ l. x ∷ l) a.1))
ahead_more x y xs ys p q e (inr (inr a)) = inr (inr (a.0, ap (λ (z : Pair). z ∷ xs) e ∙ ap (λ l. y ∷ l) a.1))

ahead : (xs ys : List Pair) (p q : Pair) (ps qs : List Pair) → xs ++ p ∷ ps ≡ ys ++ q ∷ qs → Ahead xs ys p q
ahead [] [] p q ps qs e = let same : p ≡ q = cc in inl same
ahead [] (y ∷ ys) p q ps qs e = let same : p ≡ y = cc in inr (inl (ys, ap (λ (z : Pair). z ∷ ys) (sym same)))
ahead (x ∷ xs) [] p q ps qs e = let same : x ≡ q = cc in inr (inr (xs, ap (λ (z : Pair). z ∷ xs) same))
ahead (x ∷ xs) (y ∷ ys) p q ps qs e =
    let head : x ≡ y = cc in
    let rest : xs ++ p ∷ ps ≡ ys ++ q ∷ qs = cc in
    ahead_more x y xs ys p q head (ahead xs ys p q ps qs rest)

-- what begins with a front that goes on so
goes_on : (seen xs ys mid qs : List Pair) (p q : Pair) → ys ≡ xs ++ p ∷ mid → seen ≡ ys ++ q ∷ qs → seen ≡ xs ++ p ∷ (mid ++ q ∷ qs)
goes_on seen xs ys mid qs p q front is = is ∙ ap (λ l. l ++ q ∷ qs) front ∙ append_assoc xs (p ∷ mid) (q ∷ qs)

one_cause_by : (op : Question) (c d : Cause) → IsCauseBy op c → IsCauseBy op d → c ≡ d
one_cause_by (ops.Load site url span how config) c d x y = x ∙ sym y
one_cause_by (ops.Find site space kind name) c d x y = x ∙ sym y
one_cause_by (ops.Get owner name) c d x y = x ∙ sym y
one_cause_by (ops.Call name args) c d x y = x ∙ sym y
one_cause_by (ops.Put owner name value) c d x y = absurd x
one_cause_by (ops.Say kind span text) c d x y = absurd x

-- of a kept run that is like this one, where none goes on so
not_on : (kept : List Run) (run one : Run) (before : List Pair) (pair : Pair) → NoneGoesOn kept run before pair → Contains kept one → IsAlike one run → (rest : List Pair) → one.seen ≢ before ++ pair ∷ rest
not_on kept run one before pair none among = All-contains (λ (r : Run). IsAlike r run → (rest : List Pair) → r.seen ≢ before ++ pair ∷ rest) kept one none among

-- two that go the furthest stand at one question
one_answer : (kept : List Run) (run : Run) (c d : Cause) → IsAnswered kept run c → IsAnswered kept run d → c ≡ d
one_answer kept run c d x y =
    by (ahead x.first.before y.first.before (x.op, x.first.new_answer) (y.op, y.first.new_answer) x.first.new_rest y.first.new_rest (sym x.first.new_is ∙ y.first.new_is))
  where
    by : Ahead x.first.before y.first.before (x.op, x.first.new_answer) (y.op, y.first.new_answer) → c ≡ d
    by (inl same) =
        let same_op : x.op ≡ y.op = ap (λ (p : Pair). p.0) same in
        one_cause_by y.op c d (subst (λ (o : Question). IsCauseBy o c) same_op x.by) y.by
    by (inr (inl on)) =
        absurd (not_on kept run y.one x.first.before (x.op, x.first.new_answer) x.furthest y.among y.alike (on.0 ++ (y.op, y.first.old_answer) ∷ y.first.old_rest)
        (goes_on y.one.seen x.first.before y.first.before on.0 y.first.old_rest (x.op, x.first.new_answer) (y.op, y.first.old_answer) on.1 y.first.old_is))
    by (inr (inr on)) =
        absurd (not_on kept run x.one y.first.before (y.op, y.first.new_answer) y.furthest x.among x.alike (on.0 ++ (x.op, x.first.old_answer) ∷ x.first.old_rest)
        (goes_on x.one.seen y.first.before x.first.before on.0 x.first.old_rest (y.op, y.first.new_answer) (x.op, x.first.old_answer) on.1 x.first.old_is))

-- nothing is in an empty list
none_in : (kept : List Run) (one : Run) → Contains kept one → kept ≡ [] → ⊥
none_in [] one among e = let lt = among.1 in omega arith
none_in (x ∷ xs) one among e = cc

none_any : (kept : List Run) (run : Run) → Any (λ one. one.text ≡ run.text) kept → kept ≡ [] → ⊥
none_any kept run some e = none_in kept some.1 (some.0, some.2, some.3) e

-- of a kept run, where none has the text of this one
not_text : (kept : List Run) (run one : Run) → All (λ one. one.text ≢ run.text) kept → Contains kept one → one.text ≢ run.text
not_text kept run one none among = All-contains (λ (r : Run). r.text ≢ run.text) kept one none among

-- of a kept run, where none is like this one
not_alike : (kept : List Run) (run one : Run) → All (λ one. IsAlike one run → ⊥) kept → Contains kept one → IsAlike one run → ⊥
not_alike kept run one none among = All-contains (λ (r : Run). IsAlike r run → ⊥) kept one none among

text_any : (kept : List Run) (run : Run) → All (λ one. one.text ≢ run.text) kept → Any (λ one. one.text ≡ run.text) kept → ⊥
text_any kept run none some = not_text kept run some.1 none (some.0, some.2, some.3) some.4

-- why a run is none of the kept ones
abbrev Reason : List Run → Run → Cause → Type 0
Reason kept run c =
    ((c ≡ First) × (kept ≡ [])) ⊎ (((c ≡ Text) × (kept ≢ []) × All (λ one. one.text ≢ run.text) kept)
    ⊎ (((c ≡ Config) × Any (λ one. one.text ≡ run.text) kept × All (λ one. IsAlike one run → ⊥) kept) ⊎ IsAnswered kept run c))

reason : (kept : List Run) (run : Run) (c : Cause) → IsCause kept run c → Reason kept run c
reason kept run First h = inl (refl, h)
reason kept run Text h = inr (inl (refl, h.0, h.1))
reason kept run Config h = inr (inr (inl (refl, h.0, h.1)))
reason kept run Load h = inr (inr (inr h))
reason kept run Member h = inr (inr (inr h))
reason kept run Variable h = inr (inr (inr h))
reason kept run Call h = inr (inr (inr h))

one_reason : (kept : List Run) (run : Run) (c d : Cause) → Reason kept run c → Reason kept run d → c ≡ d
one_reason kept run c d (inl x) (inl y) = x.0 ∙ sym y.0
one_reason kept run c d (inl x) (inr (inl y)) = absurd (y.1 x.1)
one_reason kept run c d (inl x) (inr (inr (inl y))) = absurd (none_any kept run y.1 x.1)
one_reason kept run c d (inl x) (inr (inr (inr y))) = absurd (none_in kept y.one y.among x.1)
one_reason kept run c d (inr (inl x)) (inl y) = absurd (x.1 y.1)
one_reason kept run c d (inr (inl x)) (inr (inl y)) = x.0 ∙ sym y.0
one_reason kept run c d (inr (inl x)) (inr (inr (inl y))) = absurd (text_any kept run x.2 y.1)
one_reason kept run c d (inr (inl x)) (inr (inr (inr y))) = absurd (not_text kept run y.one x.2 y.among y.alike.same_text)
one_reason kept run c d (inr (inr (inl x))) (inl y) = absurd (none_any kept run x.1 y.1)
one_reason kept run c d (inr (inr (inl x))) (inr (inl y)) = absurd (text_any kept run y.2 x.1)
one_reason kept run c d (inr (inr (inl x))) (inr (inr (inl y))) = x.0 ∙ sym y.0
one_reason kept run c d (inr (inr (inl x))) (inr (inr (inr y))) = absurd (not_alike kept run y.one x.2 y.among y.alike)
one_reason kept run c d (inr (inr (inr x))) (inl y) = absurd (none_in kept x.one x.among y.1)
one_reason kept run c d (inr (inr (inr x))) (inr (inl y)) = absurd (not_text kept run x.one y.2 x.among x.alike.same_text)
one_reason kept run c d (inr (inr (inr x))) (inr (inr (inl y))) = absurd (not_alike kept run x.one y.2 x.among x.alike)
one_reason kept run c d (inr (inr (inr x))) (inr (inr (inr y))) = one_answer kept run c d x y

one_cause : (kept : List Run) (run : Run) (c d : Cause) → IsCause kept run c → IsCause kept run d → c ≡ d
one_cause kept run c d x y = one_reason kept run c d (reason kept run c x) (reason kept run d y)

-- a kept run is like itself, and goes on as it does
itself : (run : Run) → IsAlike run run
itself run = record { same_text = refl; same_config = refl }

no_reason : (kept : List Run) (run : Run) (c : Cause) → Contains kept run → Reason kept run c → ⊥
no_reason kept run c among (inl x) = none_in kept run among x.1
no_reason kept run c among (inr (inl x)) = not_text kept run run x.2 among refl
no_reason kept run c among (inr (inr (inl x))) = not_alike kept run run x.2 among (itself run)
no_reason kept run c among (inr (inr (inr x))) = not_on kept run run x.first.before (x.op, x.first.new_answer) x.furthest among (itself run) x.first.new_rest x.first.new_is

no_cause : (kept : List Run) (run : Run) (c : Cause) → Contains kept run → IsCause kept run c → ⊥
no_cause kept run c among x = no_reason kept run c among (reason kept run c x)

pub ran_is_one : RanIsOne
ran_is_one kept [] ran other x y = x ∙ sym y
ran_is_one kept (run ∷ runs) ran other (inl x) (inl y) = ran_is_one kept runs ran other x.1 y.1
ran_is_one kept (run ∷ runs) ran other (inl x) (inr y) = absurd (no_cause (kept run.path) run y.0 x.0 y.1)
ran_is_one kept (run ∷ runs) ran other (inr x) (inl y) = absurd (no_cause (kept run.path) run x.0 y.0 x.1)
ran_is_one kept (run ∷ runs) ran other (inr x) (inr y) =
    let cause : x.0 ≡ y.0 = one_cause (kept run.path) run x.0 y.0 x.1 y.1 in
    let rest : x.2.0 ≡ y.2.0 = ran_is_one kept runs x.2.0 y.2.0 x.2.2 y.2.2 in
    x.2.1 ∙ ap (λ l. (run.path, x.0) ∷ l) rest ∙ ap (λ (c : Cause). (run.path, c) ∷ y.2.0) cause ∙ sym y.2.1
