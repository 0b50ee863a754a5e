-- What a body of any engine is that stops at a load, and then has its answer.
use Rattle.std.proofs.Common.{◌≡◌, List, [], ◌∷◌, ◌++◌, refl, sym, ◌∙◌, ap, subst, append-nil, append_assoc}
use Rattle.sw_world.specs.declared.question.Question.{Question}
use Rattle.sw_world.specs.declared.question.Question.TheVariants.{Load, Find, Get, Put, Say, Call}
use Rattle.sw_world.specs.declared.answer.Answer.{Answer}
use Rattle.sw_world.specs.declared.answer.Answer.TheVariants.{Loaded, Refused, Owner, Callable, BuiltIn, NoNamespace, NoMember, LeftOut, Conflict, Value, Done, Hosted}
use Rattle.sw_world.specs.declared.end.Turn.TheVariants.{Load as Turn_Load}
use Rattle.sw_world.specs.Body.{Pair, Next, Job, BodyOf, answers, Goes}
use Rattle.sw_world.specs.Progress.{Status, Waiting, Progress, IsAt, IsBody, begun, given}
use Rattle.sw_world.specs.Questions.{IsLoad, Fits}
use Rattle.sw_rows_bodies.specs.Ready.{AnswersLoads, IsReady, IsStopped}

pub begun_ready : (body : BodyOf) (job : Job) (p : Progress) → p ≡ begun job [] → IsReady body p
begun_ready body job p is = subst (λ (q : Progress). IsReady body q) (sym is) (record { runs = refl; is_body = record { goes = tt; place = tt } })

fits_load : (op : Question) (a : Answer) → IsLoad op → AnswersLoads a → Fits op a
fits_load (Load site url span how config) (Loaded path taken) load is = tt
fits_load (Load site url span how config) (Refused fault) load is = tt
fits_load (Load site url span how config) (Owner path own) load is = absurd is
fits_load (Load site url span how config) (Callable place body) load is = absurd is
fits_load (Load site url span how config) (BuiltIn home member) load is = absurd is
fits_load (Load site url span how config) NoNamespace load is = absurd is
fits_load (Load site url span how config) NoMember load is = absurd is
fits_load (Load site url span how config) LeftOut load is = absurd is
fits_load (Load site url span how config) Conflict load is = absurd is
fits_load (Load site url span how config) (Value value) load is = absurd is
fits_load (Load site url span how config) Done load is = absurd is
fits_load (Load site url span how config) (Hosted value) load is = absurd is
fits_load (Find site space kind name) a load is = absurd load
fits_load (Get owner name) a load is = absurd load
fits_load (Put owner name value) a load is = absurd load
fits_load (Say kind span text) a load is = absurd load
fits_load (Call name args) a load is = absurd load

at_status : (body : BodyOf) (p : Progress) (s : Status) → IsBody body p → p.status ≡ s → IsAt (body p.job) (answers p.seen) p.left s
at_status body p s is_p e = subst (λ (v : Status). IsAt (body p.job) (answers p.seen) p.left v) e is_p.place

-- a body that stopped at a load can have the answer
pub can_give : (body : BodyOf) (p : Progress) (op : Question) (a : Answer) → IsStopped body p (Turn_Load op) → AnswersLoads a
    → (o : Question) × (p.status ≡ Waiting o) × Fits o a
can_give body p op a at is =
    let here = at_status body p (Waiting op) at.is_body at.stopped in
    (op, at.stopped, fits_load op a here.1 is)

goes-append : (b : List Answer → Next) (before : List Answer) (ps qs : List Pair) → Goes b before ps → Goes b (before ++ answers ps) qs → Goes b before (ps ++ qs)
goes-append b before [] qs g h = subst (λ (l : List Answer). Goes b l qs) (append-nil before) h
goes-append b before (p ∷ ps) qs g h = (g.0, g.1, goes-append b (before ++ p.1 ∷ []) ps qs g.2 (subst (λ (l : List Answer). Goes b l qs) (sym (append_assoc before (p.1 ∷ []) (answers ps))) h))

is_given : (body : BodyOf) (p : Progress) (op : Question) (a : Answer) → IsBody body p → p.status ≡ Waiting op → AnswersLoads a → IsBody body (given p op a)
is_given body p op a is_p waits is =
    let here = at_status body p (Waiting op) is_p waits in
    let seen : Goes (body p.job) [] p.seen = subst (λ (l : List Pair). Goes (body p.job) [] l) (ap (λ l. p.seen ++ l) here.2 ∙ append-nil p.seen) is_p.goes in
    let goes : Goes (body p.job) [] (p.seen ++ (op, a) ∷ []) = goes-append (body p.job) [] p.seen ((op, a) ∷ []) seen (here.0, fits_load op a here.1 is, tt) in
    record {
      goes = subst (λ (l : List Pair). Goes (body p.job) [] l) (sym (ap (λ l. (p.seen ++ (op, a) ∷ []) ++ l) here.2 ∙ append-nil (p.seen ++ (op, a) ∷ []))) goes;
      place = tt;
    }

-- and then it can go on
pub given_ready : (body : BodyOf) (p q : Progress) (a : Answer) → IsBody body p → AnswersLoads a → ((o : Question) × (p.status ≡ Waiting o) × (q ≡ given p o a)) → IsReady body q
given_ready body p q a is_p is gave = subst (λ (x : Progress). IsReady body x) (sym gave.2) (record { runs = refl; is_body = is_given body p gave.0 a is_p gave.1 is })
