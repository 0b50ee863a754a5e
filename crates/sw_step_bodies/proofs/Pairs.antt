-- Pairs that a body goes through.
use Rattle.std.proofs.Common.{◌≡◌, suc, ◌-◌, ◌≤◌, List, [], ◌∷◌, ◌++◌, length, take, drop, refl, sym, ◌∙◌, ap, subst, append_assoc, append-nil, arith}
use Rattle.std.proofs.lemmas.List.{take-append-drop, length-take, length-drop}
use Rattle.sw_world.specs.declared.question.Question.{Question}
use Rattle.sw_world.specs.declared.question.Question.TheVariants.{Load}
use Rattle.sw_world.specs.declared.answer.Answer.{Answer}
use Rattle.sw_world.specs.declared.answer.Answer.TheVariants.{Loaded, Refused}
use Rattle.sw_world.specs.declared.end.End.{End}
use Rattle.sw_world.specs.Body.{Pair, Job, Next, Asks, Ends, BodyOf, answers, Goes}
use Rattle.sw_world.specs.Questions.{IsLoad, Fits}
use Rattle.sw_world.specs.Laws.{EndsInTime, most_asked}
use Rattle.sw_world.specs.Progress.{Progress, Status, Waiting, IsBody, IsAt, given}
use Rattle.sw_modules.specs.Loads.{AnswersLoad}

length-answers : (ps : List Pair) → length (answers ps) ≡ length ps
length-answers [] = refl
length-answers (p ∷ ps) = ap suc (length-answers ps)

pub goes_first : (next : List Answer → Next) (before : List Answer) (ps qs : List Pair) → Goes next before (ps ++ qs) → Goes next before ps
goes_first next before [] qs goes = tt
goes_first next before (p ∷ ps) qs goes = (goes.0, goes.1, goes_first next (before ++ p.1 ∷ []) ps qs goes.2)

pub goes_rest : (next : List Answer → Next) (before : List Answer) (ps qs : List Pair) → Goes next before (ps ++ qs) → Goes next (before ++ answers ps) qs
goes_rest next before [] qs goes = rw append-nil goes
goes_rest next before (p ∷ ps) qs goes =
    let rest = goes_rest next (before ++ p.1 ∷ []) ps qs goes.2 in rw append_assoc at rest

pub goes_join : (next : List Answer → Next) (before : List Answer) (ps qs : List Pair) → Goes next before ps → Goes next (before ++ answers ps) qs → Goes next before (ps ++ qs)
goes_join next before [] qs goes rest = rw append-nil at rest
goes_join next before (p ∷ ps) qs goes rest =
    (goes.0, goes.1, goes_join next (before ++ p.1 ∷ []) ps qs goes.2 (rw append_assoc rest))

-- a body goes through at most as many pairs as it may ask questions
pub within : (body : BodyOf) (job : Job) (pairs : List Pair) → EndsInTime body → Goes (body job) [] pairs → length pairs ≤ most_asked
within body job pairs in_time goes =
    let split : Goes (body job) [] (take most_asked pairs ++ drop most_asked pairs) = rw take-append-drop goes in
    past (drop most_asked pairs) (length-drop most_asked pairs) (goes_rest (body job) [] (take most_asked pairs) (drop most_asked pairs) split)
  where
    past : (qs : List Pair) → length qs ≡ length pairs - most_asked → Goes (body job) (answers (take most_asked pairs)) qs → length pairs ≤ most_asked
    past [] e g = omega (arith, e)
    past (q ∷ qs) e g =
        let lt : most_asked ≤ length pairs = omega (arith, e) in
        let len : length (answers (take most_asked pairs)) ≡ most_asked = length-answers (take most_asked pairs) ∙ length-take most_asked pairs ∙ omega arith in
        let ends = in_time job (answers (take most_asked pairs)) len in
        absurd (apart (sym g.0 ∙ ends.1))
      where
        apart : {op : Question} {end : End} → Asks op ≡ Ends end → ⊥
        apart e = cc

pub few_asked : (body : BodyOf) (job : Job) (pairs : List Pair) → EndsInTime body → Goes (body job) [] pairs → length pairs ≤ 1000000
unfolding most_asked
few_asked body job pairs in_time goes = within body job pairs in_time goes

-- what answers a load fits it
pub fits_load : (op : Question) (a : Answer) → IsLoad op → AnswersLoad a → Fits op a
fits_load (Load site url span how config) (Loaded path taken) is kind = tt
fits_load (Load site url span how config) (Refused fault) is kind = tt
fits_load (Load site url span how config) _ is kind = absurd kind
fits_load _ a is kind = absurd is

-- Bodies

pub at_status : (body : BodyOf) (q : Progress) (s : Status) → IsBody body q → q.status ≡ s → IsAt (body q.job) (answers q.seen) q.left s
at_status body q s is_q e = subst (λ (v : Status). IsAt (body q.job) (answers q.seen) q.left v) e is_q.place

pub goes_seen : (body : BodyOf) (q : Progress) → IsBody body q → Goes (body q.job) [] q.seen
goes_seen body q is_q = goes_first (body q.job) [] q.seen q.left is_q.goes

goes_given : (body : BodyOf) (q : Progress) (op : Question) (a : Answer) → IsBody body q → q.status ≡ Waiting op → Fits op a → Goes (body q.job) [] (q.seen ++ (op, a) ∷ [])
goes_given body q op a is_q waits fits =
    let here = at_status body q (Waiting op) is_q waits in
    goes_join (body q.job) [] q.seen ((op, a) ∷ []) (goes_seen body q is_q) (here.0, fits, tt)

-- the pairs of a body that waits, and the known ones, which are none
pub waiting_left : (body : BodyOf) (q : Progress) (op : Question) → IsBody body q → q.status ≡ Waiting op → q.left ≡ []
waiting_left body q op is_q waits = (at_status body q (Waiting op) is_q waits).2

is_given : (body : BodyOf) (q : Progress) (op : Question) (a : Answer) → IsBody body q → q.status ≡ Waiting op → Fits op a → IsBody body (given q op a)
is_given body q op a is_q waits fits =
    let goes : Goes (body q.job) [] ((q.seen ++ (op, a) ∷ []) ++ q.left) =
    subst (λ (l : List Pair). Goes (body q.job) [] l) (sym (ap (λ l. (q.seen ++ (op, a) ∷ []) ++ l) (waiting_left body q op is_q waits) ∙ append-nil (q.seen ++ (op, a) ∷ []))) (goes_given body q op a is_q waits fits) in
    record { goes = goes; place = tt }

abbrev pub IsGiven : Progress → Progress → Answer → Type 0
IsGiven q q2 a = (o : Question) × (q.status ≡ Waiting o) × (q2 ≡ given q o a)

pub same_given : (q q2 : Progress) (op : Question) (a : Answer) → q.status ≡ Waiting op → IsGiven q q2 a → q2 ≡ given q op a
same_given q q2 op a waits gave = let e : gave.0 ≡ op = cc in gave.2 ∙ ap (λ o. given q o a) e

-- a body that was given the answer to its load
pub is_body_given : (body : BodyOf) (q q2 : Progress) (op : Question) (a : Answer) → IsBody body q → q.status ≡ Waiting op → Fits op a → IsGiven q q2 a → IsBody body q2
is_body_given body q q2 op a is_q waits fits gave =
    subst (λ (x : Progress). IsBody body x) (sym (same_given q q2 op a waits gave)) (is_given body q op a is_q waits fits)

pub pairs_given : (body : BodyOf) (q q2 : Progress) (op : Question) (a : Answer) → IsBody body q → q.status ≡ Waiting op → IsGiven q q2 a → q2.seen ++ q2.left ≡ q.seen ++ (op, a) ∷ []
pairs_given body q q2 op a is_q waits gave =
    ap (λ (x : Progress). x.seen ++ x.left) (same_given q q2 op a waits gave)
    ∙ ap (λ l. (q.seen ++ (op, a) ∷ []) ++ l) (waiting_left body q op is_q waits) ∙ append-nil (q.seen ++ (op, a) ∷ [])
