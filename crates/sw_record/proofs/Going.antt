-- Pairs that a body goes through.
use Rattle.std.proofs.Common.{◌≡◌, true, false, ℕ, suc, ◌<◌, List, [], ◌∷◌, ◌++◌, length, take, drop, get_or, slice_get, Some, sym, ◌∙◌, ap, subst, append_assoc, append-nil, drop-cons}
use Rattle.std.proofs.lemmas.List.{take-append-drop}
use Rattle.std.proofs.lemmas.Option.{get_or_from_slice_get, slice_get_within}
use Rattle.sw_world.specs.declared.question.Question.{Question}
use Rattle.sw_world.specs.declared.answer.Answer.{Answer}
use Rattle.sw_world.specs.declared.end.End.{End}
use Rattle.sw_world.specs.Body.{Pair, Job, Next, Asks, Ends, BodyOf, answers, Goes}
use Rattle.sw_record.specs.Kept.{Kept, IsKept, job_of}

pub not_true : false ≡ true → ⊥
not_true e = cc

pub goes_first : (next : List Answer → Next) (before : List Answer) (ps qs : List Pair) → Goes next before (ps ++ qs) → Goes next before ps
goes_first next before [] qs goes = tt
goes_first next before (p ∷ ps) qs goes = (goes.0, goes.1, goes_first next (before ++ p.1 ∷ []) ps qs goes.2)

pub goes_rest : (next : List Answer → Next) (before : List Answer) (ps qs : List Pair) → Goes next before (ps ++ qs) → Goes next (before ++ answers ps) qs
goes_rest next before [] qs goes = rw append-nil goes
goes_rest next before (p ∷ ps) qs goes =
    let rest = goes_rest next (before ++ p.1 ∷ []) ps qs goes.2 in rw append_assoc at rest

-- a list, at a place that it has
pub split_at : (ps : List Pair) (at : ℕ) (p : Pair) → slice_get ps at ≡ Some p → ps ≡ take at ps ++ p ∷ drop (suc at) ps
split_at ps at p here =
    let inside : at < length ps = slice_get_within ps at p here in
    let e : drop at ps ≡ get_or ps at p ∷ drop (suc at) ps = drop-cons ps at p inside in
    sym (take-append-drop at ps) ∙ ap (λ r. take at ps ++ r) (e ∙ ap (λ q. q ∷ drop (suc at) ps) (get_or_from_slice_get ps at p p here))

pub same_question : (a b : Question) → Asks a ≡ Asks b → a ≡ b
same_question a b e = cc

apart : {op : Question} {end : End} → Asks op ≡ Ends end → ⊥
apart e = cc

-- what a kept run's body asks on the answers of its first pairs
pub asks_next : (body : BodyOf) (k : Kept) (job : Job) (xs : List Pair) (p : Pair) (r : List Pair) → IsKept body k → job_of k ≡ job → k.run.seen ≡ xs ++ p ∷ r → body job (answers xs) ≡ Asks p.0
asks_next body k job xs p r is_kept same seen =
    let goes : Goes (body (job_of k)) [] (xs ++ p ∷ r) = subst (λ (l : List Pair). Goes (body (job_of k)) [] l) seen is_kept.goes in
    let rest = goes_rest (body (job_of k)) [] xs (p ∷ r) goes in
    subst (λ (j : Job). body j (answers xs) ≡ Asks p.0) same rest.0

-- so each kept run of this job asks it that has these first pairs
pub goes_next : (body : BodyOf) (k : Kept) (job : Job) (xs r : List Pair) (op : Question) → IsKept body k → job_of k ≡ job → k.run.seen ≡ xs ++ r → body job (answers xs) ≡ Asks op
    → (a : Answer) × (more : List Pair) × (r ≡ (op, a) ∷ more)
goes_next body k job xs [] op is_kept same seen asks =
    let whole : k.run.seen ≡ xs = seen ∙ append-nil xs in
    let there : body job (answers k.run.seen) ≡ Ends k.run.end = subst (λ (j : Job). body j (answers k.run.seen) ≡ Ends k.run.end) same is_kept.ends in
    let ends : body job (answers xs) ≡ Ends k.run.end = subst (λ (l : List Pair). body job (answers l) ≡ Ends k.run.end) whole there in
    absurd (apart (sym asks ∙ ends))
goes_next body k job xs (q ∷ r) op is_kept same seen asks =
    let this : body job (answers xs) ≡ Asks q.0 = asks_next body k job xs q r is_kept same seen in
    let e : q.0 ≡ op = same_question q.0 op (sym this ∙ asks) in
    (q.1, r, ap (λ (o : Question). (o, q.1) ∷ r) e)

-- bodies that go through pairs with the same answers go through the same pairs
pub goes_one : (next : List Answer → Next) (before : List Answer) (ps qs : List Pair) → Goes next before ps → Goes next before qs → answers ps ≡ answers qs → ps ≡ qs
goes_one next before [] [] a b e = cc
goes_one next before [] (q ∷ qs) a b e = cc
goes_one next before (p ∷ ps) [] a b e = cc
goes_one next before (p ∷ ps) (q ∷ qs) a b e =
    let answer : p.1 ≡ q.1 = cc in
    let more : answers ps ≡ answers qs = cc in
    let question : p.0 ≡ q.0 = same_question p.0 q.0 (sym a.0 ∙ b.0) in
    let there : Goes next (before ++ p.1 ∷ []) qs = subst (λ (x : Answer). Goes next (before ++ x ∷ []) qs) (sym answer) b.2 in
    let rest : ps ≡ qs = goes_one next (before ++ p.1 ∷ []) ps qs a.2 there more in
    ap (λ (l : List Pair). p ∷ l) rest ∙ ap (λ (o : Question). (o, p.1) ∷ qs) question ∙ ap (λ (x : Answer). (q.0, x) ∷ qs) answer

-- so runs of one job with the same answers have the same pairs and the same end
pub same_runs : (body : BodyOf) (a b : Kept) → IsKept body a → IsKept body b → job_of a ≡ job_of b → answers a.run.seen ≡ answers b.run.seen → (a.run.seen ≡ b.run.seen) × (a.run.end ≡ b.run.end)
same_runs body a b is_a is_b job same =
    let there : Goes (body (job_of a)) [] b.run.seen = subst (λ (j : Job). Goes (body j) [] b.run.seen) (sym job) is_b.goes in
    let pairs : a.run.seen ≡ b.run.seen = goes_one (body (job_of a)) [] a.run.seen b.run.seen is_a.goes there same in
    let ends : body (job_of a) (answers b.run.seen) ≡ Ends b.run.end = subst (λ (j : Job). body j (answers b.run.seen) ≡ Ends b.run.end) (sym job) is_b.ends in
    let ends_a : body (job_of a) (answers b.run.seen) ≡ Ends a.run.end = subst (λ (l : List Pair). body (job_of a) (answers l) ≡ Ends a.run.end) pairs is_a.ends in
    (pairs, same_end a.run.end b.run.end (sym ends_a ∙ ends))
  where
    same_end : (x y : End) → Ends x ≡ Ends y → x ≡ y
    same_end x y e = cc
