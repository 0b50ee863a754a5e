-- Kept runs that agree.
use Rattle.std.proofs.Common.{◌≡◌, ℕ, zero, suc, ◌+◌, ◌-◌, ◌<◌, ◌≤◌, Bool, List, [], ◌∷◌, ◌++◌, length, take, drop, slice_get, slice_range, Some, refl, sym, ◌∙◌, ap, subst, append_assoc, length-append, arith}
use Rattle.std.proofs.lemmas.List.{take-append-drop, take_rest, take_at, drop_at, drop_all, drop-append-le, drop-take, length-take-le, length_push}
use Rattle.std.proofs.lemmas.Option.{same_Some}
use Rattle.sw_world.specs.declared.question.Question.{Question}
use Rattle.sw_world.specs.declared.answer.Answer.{Answer}
use Rattle.sw_world.specs.Questions.{Fits}
use Rattle.sw_world.specs.Body.{Pair, Asks, BodyOf, answers, Leads}
use Rattle.sw_record.specs.Kept.{Kept, IsKept, job_of}
use Rattle.sw_record.specs.Replay.{AskedAgain, IsAgain, LoadAt, DiffersAt}
use Rattle.sw_record.specs.declared.again.Again.{Again}
use Rattle.sw_record.specs.declared.again.Again.TheVariants as again
use Rattle.sw_record.specs.declared.replay.Replayed.{Replayed}
use Rattle.sw_record.specs.declared.replay.Replayed.TheVariants.{Same, Load, Differs}
use Rattle.sw_record.specs.Together.{IsMarked, HasMark, Begins, BeginsAt, AreTogether, AreLeft, NoneBegins, NoneBeginsBefore, HasAnswerAt, AreNarrowed, AskedFrom, DepartsAt, AreAtLoads, IsReplay, BrokeOff, WentOn, replayed_by}
use Rattle.sw_record.proofs.Going.{split_at, asks_next, goes_next}

-- ---- lists

pub one_at : {X : Type 0} (xs : List X) (at : ℕ) (x y : X) → slice_get xs at ≡ Some x → slice_get xs at ≡ Some y → x ≡ y
one_at xs at x y a b = same_Some x y (sym a ∙ b)

pub get_behind : (xs : List Pair) (p : Pair) (r : List Pair) (at : ℕ) → length xs ≡ at → slice_get (xs ++ p ∷ r) at ≡ Some p
get_behind [] p r zero e = refl
get_behind [] p r (suc at) e = absurd (omega (arith, e))
get_behind (x ∷ xs) p r zero e = absurd (omega (arith, e))
get_behind (x ∷ xs) p r (suc at) e = get_behind xs p r at (omega (arith, e))

pub prefix_of : (xs ys seen : List Pair) → Begins xs seen → Begins ys seen → length xs ≤ length ys → (more : List Pair) × (ys ≡ xs ++ more)
prefix_of [] ys seen a b le = (ys, refl)
prefix_of (x ∷ xs) [] seen a b le = absurd (omega (arith, le))
prefix_of (x ∷ xs) (y ∷ ys) seen a b le =
    let e : x ∷ (xs ++ a.0) ≡ y ∷ (ys ++ b.0) = sym a.1 ∙ b.1 in
    let head : x ≡ y = cc in
    let rest : xs ++ a.0 ≡ ys ++ b.0 = cc in
    let r = prefix_of xs ys (xs ++ a.0) (a.0, refl) (b.0, rest) (omega (arith, le)) in
    (r.0, ap (λ (z : Pair). z ∷ ys) (sym head) ∙ ap (λ (l : List Pair). x ∷ l) r.1)

pub begins_front : (xs ys more seen : List Pair) → ys ≡ xs ++ more → Begins ys seen → Begins xs seen
begins_front xs ys more seen e b = (more ++ b.0, b.1 ∙ ap (λ (l : List Pair). l ++ b.0) e ∙ append_assoc xs more b.0)

behind_same : (xs : List Pair) (p q : Pair) (ps qs : List Pair) → xs ++ p ∷ ps ≡ xs ++ q ∷ qs → p ≡ q
behind_same [] p q ps qs e = cc
behind_same (x ∷ xs) p q ps qs e = let rest : xs ++ p ∷ ps ≡ xs ++ q ∷ qs = cc in behind_same xs p q ps qs rest

-- ---- marks

pub same_begins : (runs : List Kept) (place : ℕ) (k : Kept) (xs : List Pair) → BeginsAt runs place xs → slice_get runs place ≡ Some k → Begins xs k.run.seen
same_begins runs place k xs b here = subst (λ (x : Kept). Begins xs x.run.seen) (one_at runs place b.0 k b.1 here) b.2

front_at : (runs : List Kept) (place : ℕ) (xs ys more : List Pair) → ys ≡ xs ++ more → BeginsAt runs place ys → BeginsAt runs place xs
front_at runs place xs ys more e b = (b.0, b.1, begins_front xs ys more b.0.run.seen e b.2)

pub left_on : (runs : List Kept) (marks mid left : List Bool) (xs ys more : List Pair) → ys ≡ xs ++ more → AreLeft runs marks xs mid → AreLeft runs mid ys left → AreLeft runs marks ys left
left_on runs marks mid left xs ys more e a b = λ place. (on place, back place)
  where
    on : (place : ℕ) → IsMarked left place → IsMarked marks place × BeginsAt runs place ys
    on place m = let h = (b place).0 m in (((a place).0 h.0).0, h.1)

    back : (place : ℕ) → IsMarked marks place × BeginsAt runs place ys → IsMarked left place
    back place m = (b place).1 ((a place).1 (m.0, front_at runs place xs ys more e m.1), m.1)

pub none_on : (runs : List Kept) (marks mid : List Bool) (xs ys more : List Pair) → ys ≡ xs ++ more → AreLeft runs marks xs mid → NoneBegins runs mid ys → NoneBegins runs marks ys
none_on runs marks mid xs ys more e a none place m b = none place ((a place).1 (m, front_at runs place xs ys more e b)) b

before_on : (runs : List Kept) (marks mid : List Bool) (near : ℕ) (xs ys more : List Pair) → ys ≡ xs ++ more → AreLeft runs marks xs mid → NoneBeginsBefore runs mid near ys → NoneBeginsBefore runs marks near ys
before_on runs marks mid near xs ys more e a none place lt m b =
    none place lt ((a place).1 (m, front_at runs place xs ys more e b)) b

-- what is left goes on together
abbrev pub together_left : (body : BodyOf) (runs : List Kept) (marks left : List Bool) (from to : ℕ) (pairs : List Pair) → AreTogether body runs marks from → AreLeft runs marks pairs left → HasMark left → length pairs ≡ to
    → AreTogether body runs left to
together_left body runs marks left from to pairs on are some count =
    record {
      job = on.job;
      first = pairs;
      count = count;
      some = some;
      each = λ place m. let h = (are place).0 m in let of = on.each place h.0 in record {
        kept = of.kept;
        here = of.here;
        is_kept = of.is_kept;
        same_job = of.same_job;
        begins = same_begins runs place of.kept pairs h.1 of.here;
      };
    }

all_left : (body : BodyOf) (runs : List Kept) (marks : List Bool) (from : ℕ) (on : AreTogether body runs marks from) → AreLeft runs marks on.first marks
all_left body runs marks from on = λ place. (λ m. let of = on.each place m in (m, (of.kept, of.here, of.begins)), λ m. m.0)

-- ---- the runs that agree ask one question

module _ (body : BodyOf) (runs : List Kept) (marks : List Bool) (at : ℕ) (on : AreTogether body runs marks at) where
  -- where one of them has a pair
  pub asks_at : (near : ℕ) (k : Kept) (p : Pair) → IsMarked marks near → slice_get runs near ≡ Some k → slice_get k.run.seen at ≡ Some p
      → (k.run.seen ≡ on.first ++ p ∷ drop (suc at) k.run.seen) × (body on.job (answers on.first) ≡ Asks p.0)
  asks_at near k p m here pair =
      let of = on.each near m in
      let same : of.kept ≡ k = one_at runs near of.kept k of.here here in
      let begins : Begins on.first k.run.seen = subst (λ (x : Kept). Begins on.first x.run.seen) same of.begins in
      let is_kept : IsKept body k = subst (λ (x : Kept). IsKept body x) same of.is_kept in
      let job_is : job_of k ≡ on.job = subst (λ (x : Kept). job_of x ≡ on.job) same of.same_job in
      let front : take at k.run.seen ≡ on.first = ap (λ (l : List Pair). take at l) begins.1 ∙ take_at on.first begins.0 at on.count in
      let seen : k.run.seen ≡ on.first ++ p ∷ drop (suc at) k.run.seen =
      split_at k.run.seen at p pair ∙ ap (λ (l : List Pair). l ++ p ∷ drop (suc at) k.run.seen) front in
      (seen, asks_next body k on.job on.first p (drop (suc at) k.run.seen) is_kept job_is seen)

  -- each of them has it
  next_at : (op : Question) → body on.job (answers on.first) ≡ Asks op → (place : ℕ) (m : IsMarked marks place)
      → (a : Answer) × (more : List Pair) × ((on.each place m).kept.run.seen ≡ on.first ++ (op, a) ∷ more)
  next_at op asks place m =
      let of = on.each place m in
      let next = goes_next body of.kept on.job on.first of.begins.0 op of.is_kept of.same_job of.begins.1 asks in
      (next.0, next.1, of.begins.1 ∙ ap (λ (l : List Pair). on.first ++ l) next.2)

  pub narrowed : (op : Question) (answer : Answer) (left : List Bool) → body on.job (answers on.first) ≡ Asks op → AreNarrowed runs marks at answer left → AreLeft runs marks (on.first ++ (op, answer) ∷ []) left
  narrowed op answer left asks are = λ place. (λ m. let h = (are place).0 m in (h.0, here place h.0 h.1), λ m. (are place).1 (m.0, has place m.1))
    where
      here : (place : ℕ) → IsMarked marks place → HasAnswerAt runs place at answer → BeginsAt runs place (on.first ++ (op, answer) ∷ [])
      here place m h =
          let of = on.each place m in
          let next = next_at op asks place m in
          let same : h.0 ≡ of.kept = one_at runs place h.0 of.kept h.1 of.here in
          let pair : slice_get of.kept.run.seen at ≡ Some (op, next.0) = ap (λ (l : List Pair). slice_get l at) next.2 ∙ get_behind on.first (op, next.0) next.1 at on.count in
          let there : slice_get of.kept.run.seen at ≡ Some h.2.0 = subst (λ (k : Kept). slice_get k.run.seen at ≡ Some h.2.0) same h.2.1 in
          let e : h.2.0 ≡ (op, next.0) = one_at of.kept.run.seen at h.2.0 (op, next.0) there pair in
          let answer_is : next.0 ≡ answer = ap (λ (p : Pair). p.1) (sym e) ∙ h.2.2 in
          (of.kept, of.here, (next.1, next.2 ∙ ap (λ (a : Answer). on.first ++ (op, a) ∷ next.1) answer_is ∙ sym (append_assoc on.first ((op, answer) ∷ []) next.1)))

      has : (place : ℕ) → BeginsAt runs place (on.first ++ (op, answer) ∷ []) → HasAnswerAt runs place at answer
      has place b =
          let seen : b.0.run.seen ≡ on.first ++ (op, answer) ∷ b.2.0 = b.2.1 ∙ append_assoc on.first ((op, answer) ∷ []) b.2.0 in
          (b.0, b.1, ((op, answer), ap (λ (l : List Pair). slice_get l at) seen ∙ get_behind on.first (op, answer) b.2.0 at on.count, refl))

  pub at_loads : (near : ℕ) (k : Kept) → IsMarked marks near → slice_get runs near ≡ Some k → LoadAt k.run.seen at → AreAtLoads runs marks at
  at_loads near k m here load place mark =
      let asks = (asks_at near k load.pair m here load.here).1 in
      let of = on.each place mark in
      let next = next_at load.pair.0 asks place mark in
      (of.kept, of.here, record { pair = (load.pair.0, next.0); here = ap (λ (l : List Pair). slice_get l at) next.2 ∙ get_behind on.first (load.pair.0, next.0) next.1 at on.count; load = load.load })

  -- another answer than that of a run that agreed so far
  pub departs_at : (near : ℕ) (k : Kept) (answer : Answer) (p : Pair) → IsMarked marks near → slice_get runs near ≡ Some k → slice_get k.run.seen at ≡ Some p → (p.1 ≡ answer → ⊥) → Fits p.0 answer
      → DepartsAt runs near on.first p.0 answer
  departs_at near k answer p m here pair differs fits =
      record { kept = k; here = here; old = p.1; rest = drop (suc at) k.run.seen; seen = (asks_at near k p m here pair).0; differs = differs; fits = fits }

-- where no mark is left, none of them has the answer
pub none_left : (runs : List Kept) (marks left : List Bool) (pairs : List Pair) → AreLeft runs marks pairs left → ((place : ℕ) → IsMarked left place → ⊥) → NoneBegins runs marks pairs
none_left runs marks left pairs are none place m b = none place ((are place).1 (m, b))

-- ---- asking

module _ {W : Type 0} (gives : W → Question → Answer → W → Type 0) where
  leads_join : (xs ys : List Pair) (w m t : W) → Leads gives w xs m → Leads gives m ys t → Leads gives w (xs ++ ys) t
  leads_join [] ys w m t a b = subst (λ (u : W). Leads gives u ys t) a b
  leads_join (x ∷ xs) ys w m t a b = (a.0, (a.1.0, a.1.1, leads_join xs ys a.1.0 m t a.1.2 b))

  pub asked_join : (xs ys more : List Pair) (from at : ℕ) (w m t : W) → ys ≡ xs ++ more → length xs ≡ at → AskedFrom gives xs from w m → AskedFrom gives ys at m t → AskedFrom gives ys from w t
  asked_join xs ys more from at w m t e count a b =
      let rest : drop at ys ≡ more = ap (λ (l : List Pair). drop at l) e ∙ drop_at xs more at count in
      let all : drop from ys ≡ drop from xs ++ more = ap (λ (l : List Pair). drop from l) e ∙ drop-append-le from xs more a.0 in
      let led : Leads gives w (drop from xs ++ more) t = leads_join (drop from xs) more w m t a.1 (subst (λ (l : List Pair). Leads gives m l t) rest b.1) in
      (omega (arith, a.0, b.0, count), subst (λ (l : List Pair). Leads gives w l t) (sym all) led)

  asked_none : (xs : List Pair) (at : ℕ) (w : W) → length xs ≡ at → AskedFrom gives xs at w w
  asked_none xs at w count =
      let none : drop at xs ≡ [] = drop_all at xs (omega (arith, count)) in
      (omega (arith, count), subst (λ (l : List Pair). Leads gives w l w) (sym none) refl)

  asked_one : (xs : List Pair) (p : Pair) (at : ℕ) (w t : W) → length xs ≡ at → Leads gives w (p ∷ []) t → AskedFrom gives (xs ++ p ∷ []) at w t
  asked_one xs p at w t count led =
      (omega (arith, count, length_push xs p), subst (λ (l : List Pair). Leads gives w l t) (sym (drop_at xs (p ∷ []) at count)) led)

  -- of one run, from a place up to another
  asked_range : (seen : List Pair) (from to : ℕ) (w t : W) → AskedAgain gives seen from to w t → AskedFrom gives (take to seen) from w t
  asked_range seen from to w t a =
      let up : from + (to - from) ≡ to = omega (arith, a.0) in
      let same : drop from (take to seen) ≡ slice_range seen from to = ap (λ (n : ℕ). drop from (take n seen)) (sym up) ∙ drop-take from (to - from) seen in
      (omega (arith, a.0, length-take-le to seen a.1), subst (λ (l : List Pair). Leads gives w l t) (sym same) a.2)

  asked_whole : (seen : List Pair) (from : ℕ) (w t : W) → AskedAgain gives seen from (length seen) w t → AskedFrom gives seen from w t
  asked_whole seen from w t a = (a.0, subst (λ (l : List Pair). Leads gives w l t) (take_rest seen from) a.2)

  -- ---- going on

  module _ (runs : List Kept) where
    pub went_none : (body : BodyOf) (marks : List Bool) (from : ℕ) (w : W) → AreTogether body runs marks from → WentOn gives runs marks from marks from w w
    went_none body marks from w on =
        record { pairs = on.first; count = on.count; asked = asked_none on.first from w on.count; are_left = all_left body runs marks from on; some = on.some }

    -- how two runs of pairs stand to each other that one run has
    more_of : (xs ys : List Pair) (place : ℕ) (k : Kept) → BeginsAt runs place xs → slice_get runs place ≡ Some k → Begins ys k.run.seen → length xs ≤ length ys → (more : List Pair) × (ys ≡ xs ++ more)
    more_of xs ys place k b here there le = prefix_of xs ys k.run.seen (same_begins runs place k xs b here) there le

    module _ (marks left : List Bool) (from at : ℕ) (w m t : W) (on : WentOn gives runs marks from left at w m) where
      pub stop_join : (r : Replayed) → IsReplay gives runs left at r m t → IsReplay gives runs marks from r w t
      stop_join (Same place) r =
          let marked = (on.are_left place).0 r.1 in
          let begins : Begins on.pairs r.0.run.seen = same_begins runs place r.0 on.pairs marked.1 r.2 in
          (r.0, marked.0, r.2, asked_join on.pairs r.0.run.seen begins.0 from at w m t begins.1 on.count on.asked r.3)
      stop_join (Load alive to) r =
          let here = (r.3 r.4.0).0 r.4.1 in
          let marked = (on.are_left r.4.0).0 here.0 in
          let more = more_of on.pairs r.0 r.4.0 here.1.0 marked.1 here.1.1 here.1.2 (omega (arith, on.count, r.2.0)) in
          (r.0, r.1, asked_join on.pairs r.0 more.0 from at w m t more.1 on.count on.asked r.2, left_on runs marks left alive on.pairs r.0 more.0 more.1 on.are_left r.3, r.4, r.5)
      stop_join (Differs near to answer) r =
          let marked = (on.are_left near).0 r.5 in
          let departs = r.6 in
          let all : List Pair = r.0 ++ (r.1, answer) ∷ [] in
          let more = more_of on.pairs r.0 near departs.kept marked.1 departs.here ((r.1, departs.old) ∷ departs.rest, departs.seen) (omega (arith, on.count, r.2, r.3)) in
          let longer : all ≡ on.pairs ++ (more.0 ++ (r.1, answer) ∷ []) = ap (λ (l : List Pair). l ++ (r.1, answer) ∷ []) more.1 ∙ append_assoc on.pairs more.0 ((r.1, answer) ∷ []) in (
            r.0,
            r.1,
            r.2,
            omega (arith, on.count, on.asked.0, r.3),
            asked_join on.pairs all (more.0 ++ (r.1, answer) ∷ []) from at w m t longer on.count on.asked r.4,
            marked.0,
            departs,
            none_on runs marks left on.pairs all (more.0 ++ (r.1, answer) ∷ []) longer on.are_left r.7,
            before_on runs marks left near on.pairs r.0 more.0 more.1 on.are_left r.8,
          )

      pub went_join : (alive : List Bool) (to : ℕ) → WentOn gives runs left at alive to m t → WentOn gives runs marks from alive to w t
      went_join alive to next =
          let here = (next.are_left next.some.0).0 next.some.1 in
          let marked = (on.are_left next.some.0).0 here.0 in
          let more = more_of on.pairs next.pairs next.some.0 here.1.0 marked.1 here.1.1 here.1.2 (omega (arith, on.count, next.asked.0)) in
          record {
            pairs = next.pairs;
            count = next.count;
            asked = asked_join on.pairs next.pairs more.0 from at w m t more.1 on.count on.asked next.asked;
            are_left = left_on runs marks left alive on.pairs next.pairs more.0 more.1 on.are_left next.are_left;
            some = next.some;
          }

      pub broke_join : BrokeOff gives runs left at m t → BrokeOff gives runs marks from w t
      broke_join b =
          let marked = (on.are_left b.1).0 b.2 in
          let more = more_of on.pairs b.0 b.1 b.3.0 marked.1 b.3.1 b.3.2 (omega (arith, on.count, b.4.0)) in
          (b.0, b.1, marked.0, b.3, asked_join on.pairs b.0 more.0 from at w m t more.1 on.count on.asked b.4)

    -- ---- one question of all

    module _ (body : BodyOf) (marks : List Bool) (at near : ℕ) (k : Kept) (w t : W) (on : AreTogether body runs marks at) (m : IsMarked marks near) (here : slice_get runs near ≡ Some k) where
      -- the first pairs of this run
      begins_here : Begins on.first k.run.seen
      begins_here = let of = on.each near m in subst (λ (x : Kept). Begins on.first x.run.seen) (one_at runs near of.kept k of.here here) of.begins

      pub inside : at ≤ length k.run.seen
      inside = omega (arith, on.count, ap length begins_here.1, length-append on.first begins_here.0)

      pub stops_ended : length k.run.seen ≤ at → t ≡ w → IsReplay gives runs marks at (Same near) w t
      stops_ended le same =
          let asked : AskedFrom gives k.run.seen at w w = asked_none k.run.seen at w (omega (arith, le, inside)) in
          (k, m, here, subst (λ (u : W). AskedFrom gives k.run.seen at w u) (sym same) asked)

      pub stops_load : LoadAt k.run.seen at → t ≡ w → IsReplay gives runs marks at (Load marks at) w t
      stops_load load same =
          (on.first, on.count, subst (λ (u : W). AskedFrom gives on.first at w u) (sym same) (asked_none on.first at w on.count), all_left body runs marks at on, on.some, at_loads body runs marks at on near k m here load)

      pub goes_as_kept : (p : Pair) (left : List Bool) → slice_get k.run.seen at ≡ Some p → Leads gives w (p ∷ []) t → AreNarrowed runs marks at p.1 left → WentOn gives runs marks at left (at + 1) w t
      goes_as_kept p left pair led are =
          let asks = asks_at body runs marks at on near k p m here pair in
          let are_left : AreLeft runs marks (on.first ++ p ∷ []) left = narrowed body runs marks at on p.0 p.1 left asks.1 are in
          record {
            pairs = on.first ++ p ∷ [];
            count = omega (arith, on.count, length_push on.first p);
            asked = asked_one on.first p at w t on.count led;
            are_left = are_left;
            some = (near, (are_left near).1 (m, (k, here, (drop (suc at) k.run.seen, asks.0 ∙ sym (append_assoc on.first (p ∷ []) (drop (suc at) k.run.seen))))));
          }

      pub goes_otherwise : (answer : Answer) (left : List Bool) → DiffersAt gives k.run.seen at answer w t → AreNarrowed runs marks at answer left → HasMark left → WentOn gives runs marks at left (at + 1) w t
      goes_otherwise answer left d are some =
          let asks = asks_at body runs marks at on near k d.pair m here d.here in
          let p : Pair = (d.pair.0, answer) in
          record {
            pairs = on.first ++ p ∷ [];
            count = omega (arith, on.count, length_push on.first p);
            asked = asked_one on.first p at w t on.count (d.plain, (t, d.given, refl));
            are_left = narrowed body runs marks at on d.pair.0 answer left asks.1 are;
            some = some;
          }

      pub stops_differs : (answer : Answer) (left : List Bool) → ((place : ℕ) → place < near → IsMarked marks place → ⊥) → DiffersAt gives k.run.seen at answer w t → AreNarrowed runs marks at answer left → ((place : ℕ) → IsMarked left place → ⊥) → IsReplay gives runs marks at (Differs near at answer) w t
      stops_differs answer left first d are none =
          let asks = asks_at body runs marks at on near k d.pair m here d.here in
          let p : Pair = (d.pair.0, answer) in (
            on.first,
            d.pair.0,
            on.count,
            omega arith,
            asked_one on.first p at w t on.count (d.plain, (t, d.given, refl)),
            m,
            departs_at body runs marks at on near k answer d.pair m here d.here d.differs d.fits,
            none_left runs marks left (on.first ++ p ∷ []) (narrowed body runs marks at on d.pair.0 answer left asks.1 are) none,
            λ place lt mark b. first place lt mark,
          )

      -- where this run is the only one
      module _ (only : (place : ℕ) → IsMarked marks place → place ≡ near) where
        here_at : (place : ℕ) → IsMarked marks place → slice_get runs place ≡ Some k
        here_at place mark = ap (λ (n : ℕ). slice_get runs n) (only place mark) ∙ here

        pub alone : (r : Again) → IsAgain gives k.run.seen at r w t → IsReplay gives runs marks at (replayed_by near marks r) w t
        alone again.Same a = (k, m, here, asked_whole k.run.seen at w t a)
        alone (again.Load to) a =
            let load = a.1 in
            let le : to ≤ length k.run.seen = a.0.1 in
            let front : k.run.seen ≡ take to k.run.seen ++ drop to k.run.seen = sym (take-append-drop to k.run.seen) in (
              take to k.run.seen,
              length-take-le to k.run.seen le,
              asked_range k.run.seen at to w t a.0,
              λ place. (λ mark. (mark, (k, here_at place mark, (drop to k.run.seen, front))), λ mark. mark.0),
              (near, m),
              λ place mark. (k, here_at place mark, load),
            )
        alone (again.Differs to answer) a =
            let d = a.2 in
            let p : Pair = (d.pair.0, answer) in
            let front : List Pair = take to k.run.seen in
            let first = asked_range k.run.seen at to w a.0 a.1 in
            let count : length front ≡ to = length-take-le to k.run.seen a.1.1 in
            let seen : k.run.seen ≡ front ++ d.pair ∷ drop (suc to) k.run.seen = split_at k.run.seen to d.pair d.here in (
              front,
              d.pair.0,
              count,
              a.1.0,
              asked_join front (front ++ p ∷ []) (p ∷ []) at to w a.0 t refl count first (asked_one front p to a.0 t count (d.plain, (t, d.given, refl))),
              m,
              record { kept = k; here = here; old = d.pair.1; rest = drop (suc to) k.run.seen; seen = seen; differs = d.differs; fits = d.fits },
              λ place mark b. no_more d.pair answer front (drop (suc to) k.run.seen) seen d.differs (same_begins runs place k (front ++ p ∷ []) b (here_at place mark)),
              λ place lt mark b. apart place lt (only place mark),
            )
          where
            apart : (place : ℕ) → place < near → place ≡ near → ⊥
            apart place lt e = omega (arith, lt, e)

            no_more : (q : Pair) (x : Answer) (front rest : List Pair) → k.run.seen ≡ front ++ q ∷ rest → (q.1 ≡ x → ⊥) → Begins (front ++ (q.0, x) ∷ []) k.run.seen → ⊥
            no_more q x front rest seen differs b =
                let e : front ++ q ∷ rest ≡ front ++ (q.0, x) ∷ b.0 = sym seen ∙ b.1 ∙ append_assoc front ((q.0, x) ∷ []) b.0 in
                differs (ap (λ (z : Pair). z.1) (behind_same front q (q.0, x) rest b.0 e))

        pub broke_alone : (to : ℕ) → AskedAgain gives k.run.seen at to w t → BrokeOff gives runs marks at w t
        broke_alone to a =
            (take to k.run.seen, near, m, (k, here, (drop to k.run.seen, sym (take-append-drop to k.run.seen))), asked_range k.run.seen at to w t a)

      pub broke_here : t ≡ w → BrokeOff gives runs marks at w t
      broke_here same =
          (on.first, near, m, (k, here, begins_here), subst (λ (u : W). AskedFrom gives on.first at w u) (sym same) (asked_none on.first at w on.count))

-- ---- how long it goes on

abbrev pub total : List Kept → ℕ
total [] = 0
total (k ∷ ks) = length k.run.seen + total ks

pub within_total : (runs : List Kept) (place : ℕ) (k : Kept) → slice_get runs place ≡ Some k → length k.run.seen ≤ total runs
within_total [] place k here = cc
within_total (x ∷ xs) zero k here = let e : x ≡ k = same_Some x k here in omega (arith, ap (λ (y : Kept). length y.run.seen) e)
within_total (x ∷ xs) (suc place) k here = let le = within_total xs place k here in omega (arith, le)

pub went_within : {W : Type 0} (gives : W → Question → Answer → W → Type 0) (runs : List Kept) (marks : List Bool) (from : ℕ) (left : List Bool) (to : ℕ) (w t : W) → WentOn gives runs marks from left to w t → to ≤ total runs
went_within gives runs marks from left to w t on =
    let here = (on.are_left on.some.0).0 on.some.1 in
    let le = within_total runs on.some.0 here.1.0 here.1.1 in
    omega (arith, le, on.count, ap length here.1.2.1, length-append on.pairs here.1.2.0)
