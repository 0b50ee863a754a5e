-- Compiles under way by their numbers.
use Rattle.std.proofs.Common.{◌≡◌, ℕ, suc, ◌≤◌, nat_eq, Bool, true, false, cond, List, [], ◌∷◌, ◌++◌, Option, None, Some, refl, ◌∙◌, ap, arith}
use Rattle.std.specs.Map.{lookup, set_value, remove_entry}
use Rattle.std.proofs.lemmas.Bool.Decides.{nat_tests}
use Rattle.sw_modules.specs.Fresh.{Setting}
use Rattle.sw_step_bodies.specs.declared.stepped.StepReply.{StepReply}
use Rattle.sw_step_bodies.specs.declared.stepped.Stepped.TheVariants as S
use Rattle.sw_step.specs.Joint.{Joint, UnderWay, Answers}
use Rattle.sw_step.specs.Under.{IsNext, NoneFrom}

-- a number that no entry has
none_first : {C : Type 0} (b : Bool) (x : C) (r : Option C) → cond b (Some x) r ≡ None → (b ≡ false) × (r ≡ None)
none_first true x r e = absurd (apart e)
  where
    apart : {A : Type 0} {y : A} → Some y ≡ None → ⊥
    apart e = cc
none_first false x r e = (refl, e)

lookup_past : {C : Type 0} (seek : ℕ → Bool) (es fs : List (ℕ × C)) → lookup seek es ≡ None → lookup seek (es ++ fs) ≡ lookup seek fs
lookup_past seek [] fs none = refl
lookup_past seek (e ∷ es) fs none =
    let split = none_first (seek e.0) e.1 (lookup seek es) none in
    ap (λ (b : Bool). cond b (Some e.1) (lookup seek (es ++ fs))) split.0 ∙ lookup_past seek es fs split.1

none_set : {C : Type 0} (seek test : ℕ → Bool) (es : List (ℕ × C)) (w : C) → lookup seek es ≡ None → lookup seek (set_value test es w) ≡ None
none_set seek test [] w none = refl
none_set seek test (e ∷ es) w none =
    let split = none_first (seek e.0) e.1 (lookup seek es) none in
    by (test e.0) split.0 split.1 (none_set seek test es w split.1)
  where
    by : (b : Bool) → seek e.0 ≡ false → lookup seek es ≡ None → lookup seek (set_value test es w) ≡ None → lookup seek (cond b ((e.0, w) ∷ es) (e ∷ set_value test es w)) ≡ None
    by true first rest deeper = ap (λ (b : Bool). cond b (Some w) (lookup seek es)) first ∙ rest
    by false first rest deeper = ap (λ (b : Bool). cond b (Some e.1) (lookup seek (set_value test es w))) first ∙ deeper

none_removed : {C : Type 0} (seek test : ℕ → Bool) (es : List (ℕ × C)) → lookup seek es ≡ None → lookup seek (remove_entry test es) ≡ None
none_removed seek test [] none = refl
none_removed seek test (e ∷ es) none =
    let split = none_first (seek e.0) e.1 (lookup seek es) none in
    by (test e.0) split.0 split.1 (none_removed seek test es split.1)
  where
    by : (b : Bool) → seek e.0 ≡ false → lookup seek es ≡ None → lookup seek (remove_entry test es) ≡ None → lookup seek (cond b es (e ∷ remove_entry test es)) ≡ None
    by true first rest deeper = rest
    by false first rest deeper = ap (λ (b : Bool). cond b (Some e.1) (lookup seek (remove_entry test es))) first ∙ deeper

removed_set : {C : Type 0} (test : ℕ → Bool) (es : List (ℕ × C)) (w : C) → remove_entry test (set_value test es w) ≡ remove_entry test es
removed_set test [] w = refl
removed_set {C} test (e ∷ es) w = by (test e.0) refl (removed_set test es w)
  where
    by : (b : Bool) → test e.0 ≡ b → remove_entry test (set_value test es w) ≡ remove_entry test es → remove_entry test (cond b ((e.0, w) ∷ es) (e ∷ set_value test es w)) ≡ cond b es (e ∷ remove_entry test es)
    by true is deeper = ap (λ (b : Bool). cond b es ((e.0, w) ∷ remove_entry test es)) is
    by false is deeper = ap (λ (b : Bool). cond b (set_value test es w) (e ∷ remove_entry test (set_value test es w))) is ∙ ap (λ (l : List (ℕ × C)). e ∷ l) deeper

-- a value that is set again
pub set_same : {C : Type 0} (test : ℕ → Bool) (es : List (ℕ × C)) (w : C) → lookup test es ≡ Some w → set_value test es w ≡ es
set_same test [] w is = refl
set_same {C} test (e ∷ es) w is = by (test e.0) is (set_same test es w)
  where
    by : (b : Bool) → cond b (Some e.1) (lookup test es) ≡ Some w → (lookup test es ≡ Some w → set_value test es w ≡ es) → cond b ((e.0, w) ∷ es) (e ∷ set_value test es w) ≡ e ∷ es
    by true is deeper = let same : w ≡ e.1 = cc is in ap (λ (x : C). (e.0, x) ∷ es) same
    by false is deeper = ap (λ (l : List (ℕ × C)). e ∷ l) (deeper is)

-- no compile has a number that wasn't given
pub none_given : {C : Type 0} (given : ℕ) (es : List (ℕ × C)) (c : C) → NoneFrom given es → NoneFrom (suc given) (es ++ (given, c) ∷ [])
none_given {C} given es c none = λ number past.
    let from : given ≤ number = omega arith in
    let differs : nat_eq number given ≡ false = grind (arith, nat_tests) in
    lookup_past (nat_eq number) es ((given, c) ∷ []) (none number from) ∙ ap (λ (b : Bool). cond b (Some c) None) differs

pub none_changed : {C : Type 0} (given at : ℕ) (es : List (ℕ × C)) (w : C) → NoneFrom given es → NoneFrom given (set_value (nat_eq at) es w)
none_changed given at es w none = λ number past. none_set (nat_eq number) (nat_eq at) es w (none number past)

pub none_left : {C : Type 0} (given at : ℕ) (es : List (ℕ × C)) → NoneFrom given es → NoneFrom given (remove_entry (nat_eq at) es)
none_left given at es none = λ number past. none_removed (nat_eq number) (nat_eq at) es (none number past)

-- a step was answered
module _ (setting : Setting) (number : ℕ) (joint now : Joint) (old new : UnderWay) (is : lookup (nat_eq number) joint.under_way ≡ Some old) where
  pub answers_loading : (body opened : List ℕ) → IsNext setting old (S.Loading body opened) new → now ≡ record joint { under_way = set_value (nat_eq number) joint.under_way new }
      → Answers setting number (S.Loading body opened) joint now
  answers_loading body opened next after =
      record {
        compile = old;
        is = is;
        left = new.left;
        next = next.0;
        replies = tt;
        after = after ∙ ap (λ (c : UnderWay). record joint { under_way = set_value (nat_eq number) joint.under_way c }) next.1;
      }

  pub answers_finished : (body : List ℕ) → IsNext setting old (S.Finished body) new → now ≡ record joint { under_way = set_value (nat_eq number) joint.under_way new }
      → Answers setting number (S.Finished body) joint now
  answers_finished body next after =
      record {
        compile = old;
        is = is;
        left = new.left;
        next = next.0;
        replies = tt;
        after = after ∙ ap (λ (c : UnderWay). record joint { under_way = set_value (nat_eq number) joint.under_way c }) next.1;
      }

  pub answers_ended : (reply : StepReply) → IsNext setting old (S.Ended reply) new
      → now ≡ record joint { under_way = remove_entry (nat_eq number) (set_value (nat_eq number) joint.under_way new) } → Answers setting number (S.Ended reply) joint now
  answers_ended reply next after =
      record {
        compile = old;
        is = is;
        left = [];
        next = next.0;
        replies = next.1;
        after = after ∙ ap (λ (es : List (ℕ × UnderWay)). record joint { under_way = es }) (removed_set (nat_eq number) joint.under_way new);
      }
