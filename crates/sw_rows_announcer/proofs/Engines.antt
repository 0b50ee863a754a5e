-- What the calls of the engine owe, over the fields of a body.
use Rattle.std.proofs.Common.{◌≡◌, Bool, true, false, if◌then◌else◌, List, [], ◌∷◌, ◌++◌, refl, sym, ◌∙◌, ap, subst, append-nil, append_assoc, inr}
use Rattle.sw_world.specs.declared.question.Question.{Question}
use Rattle.sw_world.specs.declared.answer.Answer.{Answer}
use Rattle.sw_world.specs.declared.end.Turn.{Turn}
use Rattle.sw_world.specs.declared.end.Turn.TheVariants.{Load, Ended}
use Rattle.sw_world.specs.Body.{Pair, Job, Next, BodyOf, answers, Goes}
use Rattle.sw_world.specs.Progress.{Status, Running, Waiting, Progress, IsAt, IsBody, Went, stops}
use Rattle.sw_rows_announcer.specs.Turns.{TurnDid, IsStep, HasRoom, place_of, status_of}
use Rattle.sw_rows_announcer.specs.declared.place.Place.{Place}
use Rattle.sw_rows_announcer.specs.declared.place.Place.TheVariants.{Running as At_Running, Waiting as At_Waiting, Ended as At_Ended}

pub went_law : (body : BodyOf) {W : Type 0} (gives : W → Question → Answer → W → Type 0) (job : Job) (ps qs : List Pair) (started : Bool) (a b : Status) (w x : W) → TurnDid gives (body job) ps w qs x
    → (taken : List Pair) × (asked : List Pair) × Went gives (record { job = job; left = if started then [] else ps; seen = if started then ps else []; status = a })
    (record { job = job; left = []; seen = qs; status = b }) taken asked w x
went_law body gives job ps qs true a b w x d =
    ([], d.asked, record { same_job = refl; left = refl; seen = d.grew; led = d.led; first = inr refl })
went_law body gives job ps qs false a b w x d =
    (ps, d.asked, record { same_job = refl; left = sym (append-nil ps); seen = d.grew; led = d.led; first = inr refl })

goes-append : (b : List Answer → Next) (before : List Answer) (ps qs : List Pair) → Goes b before ps → Goes b (before ++ answers ps) qs → Goes b before (ps ++ qs)
goes-append b before [] qs g h = subst (λ (l : List Answer). Goes b l qs) (append-nil before) h
goes-append b before (p ∷ ps) qs g h = (g.0, g.1, goes-append b (before ++ p.1 ∷ []) ps qs g.2 (subst (λ (l : List Answer). Goes b l qs) (sym (append_assoc before (p.1 ∷ []) (answers ps))) h))

whole : (b : List Answer → Next) (ps : List Pair) (started : Bool) → Goes b [] ((if started then ps else []) ++ (if started then [] else ps)) → Goes b [] ps
whole b ps true g = subst (λ (l : List Pair). Goes b [] l) (append-nil ps) g
whole b ps false g = g

pub body_law : (body : BodyOf) {W : Type 0} (gives : W → Question → Answer → W → Type 0) (job : Job) (ps qs : List Pair) (started : Bool) (a : Status) (w x : W) → TurnDid gives (body job) ps w qs x
    → Goes (body job) [] ((if started then ps else []) ++ (if started then [] else ps)) → IsAt (body job) (answers qs) [] a
    → IsBody body (record { job = job; left = []; seen = qs; status = a })
body_law body gives job ps qs started a w x d g at = record {
  goes = subst (λ (l : List Pair). Goes (body job) [] l) (sym d.grew ∙ sym (append-nil qs)) (goes-append (body job) [] ps d.asked (whole (body job) ps started g) d.goes);
  place = at;
}

pub at_stop : (b : List Answer → Next) (qs : List Pair) (t : Turn) → IsStep b qs t → IsAt b (answers qs) [] (stops t)
at_stop b qs (Load op) is = (is.0, is.1, refl)
at_stop b qs (Ended end) is = (is, refl)

pub given_law : (job : Job) (ps : List Pair) (started : Bool) (a : Status) (op : Question) (answer : Answer) → (if started then [] else ps) ≡ []
    → ◌≡◌ {A = Progress} (record { job = job; left = []; seen = ps ++ (op, answer) ∷ []; status = Running })
    (record { job = job; left = if started then [] else ps; seen = (if started then ps else []) ++ (op, answer) ∷ []; status = Running })
given_law job ps true a op answer e = refl
given_law job ps false a op answer e = rw e refl

pub left_none : (b : List Answer → Next) (given : List Answer) (left : List Pair) (st : Status) (op : Question) → IsAt b given left st → st ≡ Waiting op → left ≡ []
left_none b given left st op at e = let h : IsAt b given left (Waiting op) = subst (λ (s : Status). IsAt b given left s) e at in h.2

pub waiting_at : (p : Place) (op : Question) → status_of p ≡ Waiting op → p ≡ At_Waiting op
waiting_at At_Running op e = absurd cc
waiting_at (At_Waiting other) op e = let k : other ≡ op = cc in ap At_Waiting k
waiting_at (At_Ended end) op e = absurd cc

pub room_running : (p : Place) (has_room : Bool) → status_of p ≡ Running → HasRoom p has_room
room_running At_Running has_room e = tt
room_running (At_Waiting op) has_room e = absurd cc
room_running (At_Ended end) has_room e = tt

pub status_stops : (t : Turn) → status_of (place_of t) ≡ stops t
status_stops (Load op) = refl
status_stops (Ended end) = refl
