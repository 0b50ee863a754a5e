-- A variable that is set twice.
use Rattle.std.proofs.Common.{◌≡◌, ℕ, zero, suc, ◌==◌, Bool, true, false, ◌&&◌, List, [], ◌∷◌, ◌++◌, length, Option, Some, None, slice_get, slice_set, bytes_eq, refl, sym, ◌∙◌, ap, arith}
use Rattle.std.specs.Option.{is_some}
use Rattle.std.specs.Map.{lookup}
use Rattle.std.proofs.lemmas.Slice.Eq.{bytes_eq-Decides}
use Rattle.std.proofs.lemmas.Bool.Decides.{nat_tests}
use Rattle.indexmap.specs.IndexMap.{insert_entry}
use Rattle.sw_values.specs.declared.plain.Plain.{Plain}
use Rattle.sw_scope.specs.declared.mark.Origin.{Origin}
use Rattle.sw_scope.specs.declared.scopes.Scopes.{Scopes}
use Rattle.sw_scope.specs.Frames.{Name, Variable, later, place, look_in}
use Rattle.sw_scope.specs.Stack.{Standing, seen_from, seen, with_vars, set_from, set_on, declare_on}
use Rattle.sw_scope.specs.Scopes.{is_own, look_top, set_top, all_flow, sets_top, declare, set_new, set}

same : (name : Name) → bytes_eq name name ≡ true
same name = (bytes_eq-Decides name name).1 refl

-- ---- the top

lookup_new : (es : List Variable) (name : Name) (v : Plain) → is_some (lookup (bytes_eq name) (insert_entry bytes_eq es name v)) ≡ true
lookup_new [] name v = rw (same name) refl
lookup_new (e ∷ es) name v = by (bytes_eq name e.0) refl (lookup_new es name v)
  where
    by : (b : Bool) → bytes_eq name e.0 ≡ b → is_some (lookup (bytes_eq name) (insert_entry bytes_eq es name v)) ≡ true
        → is_some (lookup (bytes_eq name) (insert_entry bytes_eq (e ∷ es) name v)) ≡ true
    by true is more = rw (is, is) refl
    by false is more = rw (is, is) more

insert_twice : (es : List Variable) (name : Name) (a b : Plain) → insert_entry bytes_eq (insert_entry bytes_eq es name a) name b ≡ insert_entry bytes_eq es name b
insert_twice [] name a b = rw (same name) refl
insert_twice (e ∷ es) name a b = by (bytes_eq name e.0) refl (insert_twice es name a b)
  where
    by : (t : Bool) → bytes_eq name e.0 ≡ t → insert_entry bytes_eq (insert_entry bytes_eq es name a) name b ≡ insert_entry bytes_eq es name b
        → insert_entry bytes_eq (insert_entry bytes_eq (e ∷ es) name a) name b ≡ insert_entry bytes_eq (e ∷ es) name b
    by true is more = rw (is, is) refl
    by false is more = rw (is, is, more) refl

top_twice : (s : Scopes) (name : Name) (a b : Plain) → set_top (set_top s (name, a)) (name, b) ≡ set_top s (name, b)
unfolding set_top
top_twice s name a b = ap (λ (es : List Variable). record s { top = es }) (insert_twice s.top name a b)

-- ---- a frame's variables

set_set : (vs : List Variable) (i : ℕ) (v w : Variable) → slice_set (slice_set vs i v) i w ≡ slice_set vs i w
set_set [] i v w = refl
set_set (x ∷ xs) zero v w = refl
set_set (x ∷ xs) (suc i) v w = ap (λ (l : List Variable). x ∷ l) (set_set xs i v w)

set_end : (vs : List Variable) (v w : Variable) → slice_set (vs ++ v ∷ []) (length vs) w ≡ vs ++ w ∷ []
set_end [] v w = refl
set_end (x ∷ xs) v w = ap (λ (l : List Variable). x ∷ l) (set_end xs v w)

get_end : (vs : List Variable) (v : Variable) → slice_get (vs ++ v ∷ []) (length vs) ≡ Some v
get_end [] v = refl
get_end (x ∷ xs) v = get_end xs v

place_end : (vs : List Variable) (name : Name) (a : Plain) → place (vs ++ (name, a) ∷ []) name ≡ Some (length vs)
place_end [] name a = rw (same name) refl
place_end (x ∷ xs) name a = rw (place_end xs name a) refl

none_later : (p : Option ℕ) (here : Bool) → later p here ≡ None → (p ≡ None) × (here ≡ false)
none_later (Some i) here is = absurd cc
none_later None true is = absurd cc
none_later None false is = (refl, refl)

-- where the name stands last, its variable may be another one of the name
place_set : (vs : List Variable) (name : Name) (i : ℕ) (a : Plain) → place vs name ≡ Some i → (place (slice_set vs i (name, a)) name ≡ Some i) × (slice_get (slice_set vs i (name, a)) i ≡ Some (name, a))
place_set [] name i a is = absurd cc
place_set (v ∷ vs) name i a is = by (place vs name) refl (λ j. place_set vs name j a) i is
  where
    here : (p : Option ℕ) → place vs name ≡ p → p ≡ None → (b : Bool) → bytes_eq v.0 name ≡ b → (n : ℕ) → later (place vs name) (bytes_eq v.0 name) ≡ Some n → (place (slice_set (v ∷ vs) n (name, a)) name ≡ Some n) × (slice_get (slice_set (v ∷ vs) n (name, a)) n ≡ Some (name, a))
    here p it none true eq zero is = (rw (it, none, same name) refl, refl)
    here p it none true eq (suc n) is = absurd (let k : later None true ≡ Some (suc n) = sym (ap (λ (q : Option ℕ). later q true) (it ∙ none)) ∙ sym (ap (λ (t : Bool). later (place vs name) t) eq) ∙ is in cc)
    here p it none false eq n is = absurd (let k : later None false ≡ Some n = sym (ap (λ (q : Option ℕ). later q false) (it ∙ none)) ∙ sym (ap (λ (t : Bool). later (place vs name) t) eq) ∙ is in cc)

    by : (p : Option ℕ) → place vs name ≡ p → ((j : ℕ) → place vs name ≡ Some j → (place (slice_set vs j (name, a)) name ≡ Some j) × (slice_get (slice_set vs j (name, a)) j ≡ Some (name, a)))
        → (n : ℕ) → later (place vs name) (bytes_eq v.0 name) ≡ Some n → (place (slice_set (v ∷ vs) n (name, a)) name ≡ Some n) × (slice_get (slice_set (v ∷ vs) n (name, a)) n ≡ Some (name, a))
    by None it more n is = here None it refl (bytes_eq v.0 name) refl n is
    by (Some j) it more zero is = absurd (let k : Some (suc j) ≡ Some 0 = sym (ap (λ (q : Option ℕ). later q (bytes_eq v.0 name)) it) ∙ is in cc)
    by (Some j) it more (suc n) is =
        let k : Some (suc j) ≡ Some (suc n) = sym (ap (λ (q : Option ℕ). later q (bytes_eq v.0 name)) it) ∙ is in
        let e : j ≡ n = cc in let m : _ = more n (it ∙ ap Some e) in (rw m.0 refl, m.1)

-- ---- frames

length_set : (n : ℕ) (ss : List Standing) (v : Variable) → length (set_from n ss v) ≡ length ss
length_set n [] v = refl
length_set n (s ∷ ss) v = by (n == suc (length ss)) refl (place s.frame.vars v.0) refl (length_set s.below ss v) (length_set n ss v)
  where
    by : (b : Bool) → (n == suc (length ss)) ≡ b → (p : Option ℕ) → place s.frame.vars v.0 ≡ p → length (set_from s.below ss v) ≡ length ss → length (set_from n ss v) ≡ length ss → length (set_from n (s ∷ ss) v) ≡ suc (length ss)
    by true is (Some i) at lower more = rw (is, at) refl
    by true is None at lower more = rw (is, at) (ap suc lower)
    by false is p at lower more = rw is (ap suc more)

set_from_twice : (n : ℕ) (ss : List Standing) (name : Name) (a b : Plain) → set_from n (set_from n ss (name, a)) (name, b) ≡ set_from n ss (name, b)
set_from_twice n [] name a b = refl
set_from_twice n (s ∷ ss) name a b = by (n == suc (length ss)) refl (place s.frame.vars name) refl (set_from_twice s.below ss name a b) (set_from_twice n ss name a b)
  where
    by : (t : Bool) → (n == suc (length ss)) ≡ t → (p : Option ℕ) → place s.frame.vars name ≡ p
        → set_from s.below (set_from s.below ss (name, a)) (name, b) ≡ set_from s.below ss (name, b) → set_from n (set_from n ss (name, a)) (name, b) ≡ set_from n ss (name, b)
        → set_from n (set_from n (s ∷ ss) (name, a)) (name, b) ≡ set_from n (s ∷ ss) (name, b)
    by true is (Some i) at lower more =
        rw (is, at, is, (place_set s.frame.vars name i a at).0) (ap (λ (vs : List Variable). with_vars s vs ∷ ss) (set_set s.frame.vars i (name, a) (name, b)))
    by true is None at lower more =
        rw (is, at, length_set s.below ss (name, a), is, at) (ap (λ (l : List Standing). s ∷ l) lower)
    by false is p at lower more =
        rw (is, length_set n ss (name, a), is) (ap (λ (l : List Standing). s ∷ l) more)

set_on_twice : (ss : List Standing) (name : Name) (a b : Plain) → set_on (set_on ss (name, a)) (name, b) ≡ set_on ss (name, b)
unfolding set_on
set_on_twice ss name a b = rw (length_set (length ss) ss (name, a)) (set_from_twice (length ss) ss name a b)

seen_from_set : (n : ℕ) (ss : List Standing) (name : Name) (a old : Plain) → look_in (seen_from n ss) name ≡ Some old → look_in (seen_from n (set_from n ss (name, a))) name ≡ Some a
seen_from_set n [] name a old is = absurd cc
seen_from_set n (s ∷ ss) name a old is = by (n == suc (length ss)) refl (place s.frame.vars name) refl (seen_from_set s.below ss name a old) (seen_from_set n ss name a old) is
  where
    by : (t : Bool) → (n == suc (length ss)) ≡ t → (p : Option ℕ) → place s.frame.vars name ≡ p
        → (look_in (seen_from s.below ss) name ≡ Some old → look_in (seen_from s.below (set_from s.below ss (name, a))) name ≡ Some a)
        → (look_in (seen_from n ss) name ≡ Some old → look_in (seen_from n (set_from n ss (name, a))) name ≡ Some a)
        → look_in (seen_from n (s ∷ ss)) name ≡ Some old → look_in (seen_from n (set_from n (s ∷ ss) (name, a))) name ≡ Some a
    by true is (Some i) at lower more there = let set : _ = place_set s.frame.vars name i a at in rw (is, at, is, set.0, set.1) refl
    by true is None at lower more there = rw (is, at, length_set s.below ss (name, a), is, at) (lower (rw (is, at) at there))
    by false is p at lower more there = rw (is, length_set n ss (name, a), is) (more (rw is at there))

seen_set : (ss : List Standing) (name : Name) (a old : Plain) → look_in (seen ss) name ≡ Some old → look_in (seen (set_on ss (name, a))) name ≡ Some a
unfolding seen set_on
seen_set ss name a old is = rw (length_set (length ss) ss (name, a)) (seen_from_set (length ss) ss name a old is)

itself : (n : ℕ) → (n == n) ≡ true
itself n = grind (arith, nat_tests)

declared_seen : (s : Standing) (ss : List Standing) (name : Name) (a : Plain) → look_in (seen (declare_on (s ∷ ss) (name, a))) name ≡ Some a
unfolding seen
declared_seen s ss name a = rw (itself (suc (length ss)), place_end s.frame.vars name a, get_end s.frame.vars (name, a)) refl

declared_twice : (s : Standing) (ss : List Standing) (name : Name) (a b : Plain) → set_on (declare_on (s ∷ ss) (name, a)) (name, b) ≡ declare_on (s ∷ ss) (name, b)
unfolding set_on
declared_twice s ss name a b = rw (itself (suc (length ss)), place_end s.frame.vars name a) (ap (λ (vs : List Variable). with_vars s vs ∷ ss) (set_end s.frame.vars (name, a) (name, b)))

-- ---- scopes

set_found : (origin : Origin) (s : Scopes) (v : Variable) (old : Plain) → look_in (seen s.frames) v.0 ≡ Some old → set origin s v ≡ record s { frames = set_on s.frames v }
unfolding set
set_found origin s v old is = rw is refl

set_missing : (origin : Origin) (s : Scopes) (v : Variable) → look_in (seen s.frames) v.0 ≡ None → set origin s v ≡ set_new origin s v
unfolding set
set_missing origin s v is = rw is refl

found_twice : (origin : Origin) (s : Scopes) (name : Name) (a b old : Plain) → look_in (seen s.frames) name ≡ Some old → set origin (set origin s (name, a)) (name, b) ≡ set origin s (name, b)
found_twice origin s name a b old is =
    rw (set_found origin s (name, a) old is, set_found origin (record s { frames = set_on s.frames (name, a) }) (name, b) a (seen_set s.frames name a old is), set_found origin s (name, b) old is)
    (ap (λ (ss : List Standing). record s { frames = ss }) (set_on_twice s.frames name a b))

new_top : (s : Scopes) (name : Name) (a : Plain) → is_some (look_top (set_top s (name, a)) name) ≡ true
unfolding look_top set_top
new_top s name a = lookup_new s.top name a

top_frames : (s : Scopes) (v : Variable) → (set_top s v).frames ≡ s.frames
unfolding set_top
top_frames s v = refl

both : (a b c : Bool) → (a && b && c) ≡ true → (a ≡ true) × (b ≡ true)
both true true true is = (refl, refl)
both true true false is = absurd cc
both true false c is = absurd cc
both false b c is = absurd cc

-- the name is at the top
still_top : (origin : Origin) (s : Scopes) (name : Name) (a : Plain) → sets_top origin s name ≡ true → sets_top origin (set_top s (name, a)) name ≡ true
still_top origin s name a is =
    let k : _ = both (is_own origin) (all_flow s) (is_some (look_top s name)) is in
    rw (k.0, ap (λ (ss : List Standing). all_flow (record s { frames = ss })) (top_frames s (name, a)) ∙ k.1, new_top s name a) refl

top_new_twice : (origin : Origin) (s : Scopes) (name : Name) (a b : Plain) → look_in (seen s.frames) name ≡ None → sets_top origin s name ≡ true → set origin (set_new origin s (name, a)) (name, b) ≡ set_new origin s (name, b)
top_new_twice origin s name a b none is =
    let after : look_in (seen (set_top s (name, a)).frames) name ≡ None = rw (top_frames s (name, a)) none in
    rw (is, set_missing origin (set_top s (name, a)) (name, b) after, still_top origin s name a is) (top_twice s name a b)

-- where no frame is open, a new variable is the top's
no_frame : (origin : Origin) (s : Scopes) (v : Variable) → s.frames ≡ [] → set_new origin s v ≡ set_top s v
unfolding declare
no_frame origin s v none = by (sets_top origin s v.0) refl
  where
    by : (t : Bool) → sets_top origin s v.0 ≡ t → set_new origin s v ≡ set_top s v
    by true is = rw is refl
    by false is = rw (is, none) refl

framed_twice : (origin : Origin) (s : Scopes) (f : Standing) (fs : List Standing) (name : Name) (a b : Plain) → set origin (record s { frames = declare_on (f ∷ fs) (name, a) }) (name, b) ≡ record s { frames = declare_on (f ∷ fs) (name, b) }
framed_twice origin s f fs name a b =
    rw (set_found origin (record s { frames = declare_on (f ∷ fs) (name, a) }) (name, b) a (declared_seen f fs name a))
    (ap (λ (ss : List Standing). record s { frames = ss }) (declared_twice f fs name a b))

-- a new variable of the innermost frame
declared : (origin : Origin) (s : Scopes) (f : Standing) (fs : List Standing) (v : Variable) → s.frames ≡ f ∷ fs → sets_top origin s v.0 ≡ false → set_new origin s v ≡ record s { frames = declare_on (f ∷ fs) v }
unfolding declare
declared origin s f fs v frames is = rw (is, frames) refl

new_twice : (origin : Origin) (s : Scopes) (name : Name) (a b : Plain) → look_in (seen s.frames) name ≡ None → set origin (set_new origin s (name, a)) (name, b) ≡ set_new origin s (name, b)
new_twice origin s name a b none = by (sets_top origin s name) refl s.frames refl
  where
    by : (t : Bool) → sets_top origin s name ≡ t → (ss : List Standing) → s.frames ≡ ss → set origin (set_new origin s (name, a)) (name, b) ≡ set_new origin s (name, b)
    by true is ss frames = top_new_twice origin s name a b none is
    by false is [] frames =
        let after : (set_top s (name, a)).frames ≡ [] = top_frames s (name, a) ∙ frames in
        let unseen : look_in (seen (set_top s (name, a)).frames) name ≡ None = rw (top_frames s (name, a)) none in
        rw (no_frame origin s (name, a) frames, no_frame origin s (name, b) frames, set_missing origin (set_top s (name, a)) (name, b) unseen, no_frame origin (set_top s (name, a)) (name, b) after) (top_twice s name a b)
    by false is (f ∷ fs) frames =
        rw (declared origin s f fs (name, a) frames is, declared origin s f fs (name, b) frames is) (framed_twice origin s f fs name a b)

-- what a variable is set to last is what it has
pub set_twice : (origin : Origin) (s : Scopes) (name : Name) (a b : Plain) → set origin (set origin s (name, a)) (name, b) ≡ set origin s (name, b)
set_twice origin s name a b = by (look_in (seen s.frames) name) refl
  where
    by : (old : Option Plain) → look_in (seen s.frames) name ≡ old → set origin (set origin s (name, a)) (name, b) ≡ set origin s (name, b)
    by (Some old) is = found_twice origin s name a b old is
    by None is = rw (set_missing origin s (name, a) is, set_missing origin s (name, b) is) (new_twice origin s name a b is)
