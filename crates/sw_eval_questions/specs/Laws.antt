-- What holds of every talk that runs on a list of answers: so it holds of every body, whatever the language.
use Rattle.std.proofs.Common.{◌≡◌, ℕ, zero, suc, ◌≤◌, List, [], ◌∷◌, ◌++◌, length, Option, Some, None, slice_get, refl, sym, ◌∙◌, ap, subst, inl, inr, append_assoc, append-nil, arith}
use Rattle.sw_text.specs.declared.fault.Fault.{Fault}
use Rattle.sw_text.specs.declared.place.Span.{Span}
use Rattle.sw_world.specs.declared.question.Question.{Question}
use Rattle.sw_world.specs.declared.question.Question.TheVariants.{Load, Find, Get, Put, Say, Call}
use Rattle.sw_world.specs.declared.answer.Answer.{Answer}
use Rattle.sw_world.specs.declared.answer.Answer.TheVariants.{Loaded, Refused, Owner, Callable, BuiltIn, NoNamespace, NoMember, LeftOut, Conflict, Value, Done, Hosted}
use Rattle.sw_world.specs.declared.end.End.{End}
use Rattle.sw_world.specs.declared.end.End.TheVariants.{Done as Done_end, Fault as Fault_end}
use Rattle.sw_world.specs.declared.end.Finish.{Finish}
use Rattle.sw_world.specs.Body.{Pair, Next, Asks, Ends, answers, Goes}
use Rattle.sw_world.specs.Laws.{Answered, IsOwner, IsWrittenAt, HasSource}
use Rattle.sw_eval_questions.specs.Talk.{NumberedQuestion, Loads, Finds, Gets, Puts, Says, Calls, Talk, Gives, Fails, Asking, answered, site_by, owned, op_of, no_owner, too_many, next_by, run}

module _ {A : Type 0} (end : A → Finish) (path : List ℕ) where
  ends_by : (o : Option Question) (span : Span) (a : Answer) (given : List Answer) (f : Answer → List Answer → Next)
      → ((e : End) × (f a given ≡ Ends e)) → (e : End) × (next_by o span (a ∷ given) f ≡ Ends e)
  ends_by None span a given f p = (Fault_end (no_owner span), refl)
  ends_by (Some op) span a given f p = p

  pub run_ends : (left : ℕ) (seen : List Answer) (t : Talk A) (given : List Answer) → left ≤ length given
      → (e : End) × (run end path left seen t given ≡ Ends e)
  unfolding run
  run_ends left seen (Gives a) given le = (Done_end (end a), refl)
  run_ends left seen (Fails fault) given le = (Fault_end fault, refl)
  run_ends zero seen (Asking q at k) given le = (Fault_end (too_many at), refl)
  run_ends (suc left) seen (Asking q at k) [] le = absurd (omega arith)
  run_ends (suc left) seen (Asking q at k) (a ∷ given) le =
      ends_by (op_of path seen q) at a given _
      (run_ends left (seen ++ a ∷ []) (answered (k (length seen)) a) given (omega arith))

  keeps_by : (o : Option Question) (span : Span) (given more : List Answer) (f : Answer → List Answer → Next) (e : End)
      → ((a : Answer) (rest : List Answer) → f a rest ≡ Ends e → f a (rest ++ more) ≡ Ends e)
      → next_by o span given f ≡ Ends e → next_by o span (given ++ more) f ≡ Ends e
  keeps_by None span given more f e later is = is
  keeps_by (Some op) span [] more f e later is = absurd cc
  keeps_by (Some op) span (a ∷ given) more f e later is = later a given is

  pub run_keeps : (left : ℕ) (seen : List Answer) (t : Talk A) (given more : List Answer) (e : End)
      → run end path left seen t given ≡ Ends e → run end path left seen t (given ++ more) ≡ Ends e
  unfolding run
  run_keeps left seen (Gives a) given more e is = is
  run_keeps left seen (Fails fault) given more e is = is
  run_keeps zero seen (Asking q at k) given more e is = is
  run_keeps (suc left) seen (Asking q at k) given more e is =
      keeps_by (op_of path seen q) at given more _ e
      (λ a rest. run_keeps left (seen ++ a ∷ []) (answered (k (length seen)) a) rest more e) is

  refused_by : (o : Option Question) (span : Span) (given : List Answer) (f : Answer → List Answer → Next) (op : Question)
      (fault : Fault) → f (Refused fault) [] ≡ Ends (Fault_end fault)
      → ((a : Answer) (rest : List Answer) → f a rest ≡ Asks op
      → f a (rest ++ Refused fault ∷ []) ≡ Ends (Fault_end fault))
      → next_by o span given f ≡ Asks op → next_by o span (given ++ Refused fault ∷ []) f ≡ Ends (Fault_end fault)
  refused_by None span given f op fault now later is = absurd cc
  refused_by (Some asked) span [] f op fault now later is = now
  refused_by (Some asked) span (a ∷ given) f op fault now later is = later a given is

  pub run_refused : (left : ℕ) (seen : List Answer) (t : Talk A) (given : List Answer) (op : Question) (fault : Fault)
      → run end path left seen t given ≡ Asks op
      → run end path left seen t (given ++ Refused fault ∷ []) ≡ Ends (Fault_end fault)
  unfolding run
  run_refused left seen (Gives a) given op fault is = absurd cc
  run_refused left seen (Fails other) given op fault is = absurd cc
  run_refused zero seen (Asking q at k) given op fault is = absurd cc
  run_refused (suc left) seen (Asking q at k) given op fault is =
      refused_by (op_of path seen q) at given _ op fault refl
      (λ a rest. run_refused left (seen ++ a ∷ []) (answered (k (length seen)) a) rest op fault) is

  gives_by : (o : Option Question) (span : Span) (given : List Answer) (f : Answer → List Answer → Next) (finish : Finish)
      → ((a : Answer) (rest : List Answer) → f a rest ≡ Ends (Done_end finish) → (v : A) × (finish ≡ end v))
      → next_by o span given f ≡ Ends (Done_end finish) → (v : A) × (finish ≡ end v)
  gives_by None span given f finish later is = absurd cc
  gives_by (Some op) span [] f finish later is = absurd cc
  gives_by (Some op) span (a ∷ given) f finish later is = later a given is

  -- what is left behind is made of what the talk gave
  pub run_gives : (left : ℕ) (seen : List Answer) (t : Talk A) (given : List Answer) (finish : Finish)
      → run end path left seen t given ≡ Ends (Done_end finish) → (v : A) × (finish ≡ end v)
  unfolding run
  run_gives left seen (Gives a) given finish is = let same : end a ≡ finish = cc in (a, sym same)
  run_gives left seen (Fails fault) given finish is = absurd cc
  run_gives zero seen (Asking q at k) given finish is = absurd cc
  run_gives (suc left) seen (Asking q at k) given finish is =
      gives_by (op_of path seen q) at given _ finish
      (λ a rest. run_gives left (seen ++ a ∷ []) (answered (k (length seen)) a) rest finish) is

-- ---- where names come from

answered_at : (P : Answer → Type 0) (ps : List Pair) (n : ℕ) (a : Answer) → slice_get (answers ps) n ≡ Some a → P a
    → Answered P ps
answered_at P [] n a is p = absurd cc
answered_at P (q ∷ ps) zero a is p = let same : q.1 ≡ a = cc in inl (subst P (sym same) p)
answered_at P (q ∷ ps) (suc n) a is p = inr (answered_at P ps n a is p)

site_at : (path : List ℕ) (ps : List Pair) (n : ℕ) (o : Option Answer) → slice_get (answers ps) n ≡ o
    → (space : Option (List ℕ)) (kind : _) (name : List ℕ) → HasSource path ps (Find (site_by path o) space kind name)
site_at path ps n (Some (Callable site body)) is space kind name =
    inr (answered_at (IsWrittenAt site) ps n (Callable site body) is refl)
site_at path ps n (Some (Loaded p taken)) is space kind name = inl refl
site_at path ps n (Some (Refused fault)) is space kind name = inl refl
site_at path ps n (Some (Owner p m)) is space kind name = inl refl
site_at path ps n (Some (BuiltIn home m)) is space kind name = inl refl
site_at path ps n (Some NoNamespace) is space kind name = inl refl
site_at path ps n (Some NoMember) is space kind name = inl refl
site_at path ps n (Some LeftOut) is space kind name = inl refl
site_at path ps n (Some Conflict) is space kind name = inl refl
site_at path ps n (Some (Value v)) is space kind name = inl refl
site_at path ps n (Some Done) is space kind name = inl refl
site_at path ps n (Some (Hosted v)) is space kind name = inl refl
site_at path ps n None is space kind name = inl refl

owner_at : (path : List ℕ) (ps : List Pair) (n : ℕ) (f : List ℕ → List ℕ → Question) (op : Question)
    → ((p m : List ℕ) → Answered (IsOwner p m) ps → HasSource path ps (f p m))
    → (o : Option Answer) → slice_get (answers ps) n ≡ o → owned f o ≡ Some op → HasSource path ps op
owner_at path ps n f op has (Some (Owner p m)) is asks =
    let same : f p m ≡ op = cc in subst (λ (x : Question). HasSource path ps x) same
    (has p m (answered_at (IsOwner p m) ps n (Owner p m) is (refl, refl)))
owner_at path ps n f op has (Some (Callable site body)) is asks = absurd cc
owner_at path ps n f op has (Some (Loaded p taken)) is asks = absurd cc
owner_at path ps n f op has (Some (Refused fault)) is asks = absurd cc
owner_at path ps n f op has (Some (BuiltIn home m)) is asks = absurd cc
owner_at path ps n f op has (Some NoNamespace) is asks = absurd cc
owner_at path ps n f op has (Some NoMember) is asks = absurd cc
owner_at path ps n f op has (Some LeftOut) is asks = absurd cc
owner_at path ps n f op has (Some Conflict) is asks = absurd cc
owner_at path ps n f op has (Some (Value v)) is asks = absurd cc
owner_at path ps n f op has (Some Done) is asks = absurd cc
owner_at path ps n f op has (Some (Hosted v)) is asks = absurd cc
owner_at path ps n f op has None is asks = absurd cc

op_source : (path : List ℕ) (ps : List Pair) (q : NumberedQuestion) (op : Question) → op_of path (answers ps) q ≡ Some op
    → HasSource path ps op
op_source path ps (Loads url span how config) op is = let same : Load path url span how config ≡ op = cc in
    subst (λ (x : Question). HasSource path ps x) same refl
op_source path ps (Finds zero space kind name) op is = let same : Find path space kind name ≡ op = cc in
    subst (λ (x : Question). HasSource path ps x) same (inl refl)
op_source path ps (Finds (suc n) space kind name) op is =
    let same : Find (site_by path (slice_get (answers ps) n)) space kind name ≡ op = cc in
    subst (λ (x : Question). HasSource path ps x) same (site_at path ps n (slice_get (answers ps) n) refl space kind name)
op_source path ps (Gets owner) op is = owner_at path ps owner (λ p n. Get p n) op (λ p m known. known)
    (slice_get (answers ps) owner) refl is
op_source path ps (Puts owner value) op is =
    owner_at path ps owner (λ p n. Put p n value) op (λ p m known. known) (slice_get (answers ps) owner) refl is
op_source path ps (Says kind span text) op is = let same : Say kind span text ≡ op = cc in
    subst (λ (x : Question). HasSource path ps x) same tt
op_source path ps (Calls name args) op is = let same : Call name args ≡ op = cc in
    subst (λ (x : Question). HasSource path ps x) same tt

answers-last : (ps : List Pair) (p : Pair) → answers (ps ++ p ∷ []) ≡ answers ps ++ p.1 ∷ []
answers-last [] p = refl
answers-last (q ∷ ps) p = ap (λ l. q.1 ∷ l) (answers-last ps p)

source_now : (path : List ℕ) (seen : List Pair) (q : NumberedQuestion) (span : Span) (f : Answer → List Answer → Next) (op : Question)
    → next_by (op_of path (answers seen) q) span [] f ≡ Asks op → HasSource path (seen ++ []) op
source_now path seen q span f op e = by (op_of path (answers seen) q) refl e
  where
    by : (o : Option Question) → op_of path (answers seen) q ≡ o → next_by o span [] f ≡ Asks op
        → HasSource path (seen ++ []) op
    by None is asks = absurd cc
    by (Some asked) is asks = let same : asked ≡ op = cc in
        subst (λ (l : List Pair). HasSource path l op) (sym (append-nil seen))
        (op_source path seen q op (is ∙ ap Some same))

goes_later : {A : Type 0} (end : A → Finish) (path : List ℕ) (left : ℕ) (seen : List Answer) (q : NumberedQuestion)
    (span : Span) (k : ℕ → Answer → Talk A) (op : Question) → op_of path seen q ≡ Some op
    → (a : Answer) (before : List Answer) (ps : List Pair)
    → Goes (run end path (suc left) seen (Asking q span k)) (a ∷ before) ps
    → Goes (run end path left (seen ++ a ∷ []) (answered (k (length seen)) a)) before ps
unfolding run
goes_later end path left seen q span k op is a before [] g = tt
goes_later end path left seen q span k op is a before (p ∷ ps) g = (
  sym (ap (λ o. next_by o span (a ∷ before)
      (λ a rest. run end path left (seen ++ a ∷ []) (answered (k (length seen)) a) rest)) is)
      ∙ g.0,
  g.1,
  goes_later end path left seen q span k op is a (before ++ p.1 ∷ []) ps g.2,
)

module _ {A : Type 0} (end : A → Finish) (path : List ℕ) (left : ℕ) (seen : List Pair) (q : NumberedQuestion) (span : Span)
    (k : ℕ → Answer → Talk A) where
  -- a question that was answered, and what goes on after it
  sourced_on : (p : Pair) (ps : List Pair) (op : Question) (o : Option Question) → op_of path (answers seen) q ≡ o
      → next_by o span [] (λ a rest. run end path left (answers seen ++ a ∷ []) (answered (k (length (answers seen))) a)
      rest) ≡ Asks p.0
      → Goes (run end path (suc left) (answers seen) (Asking q span k)) (p.1 ∷ []) ps
      → run end path (suc left) (answers seen) (Asking q span k) (p.1 ∷ answers ps) ≡ Asks op
      → (Goes (run end path left (answers (seen ++ p ∷ [])) (answered (k (length (answers seen))) p.1)) [] ps
      → run end path left (answers (seen ++ p ∷ [])) (answered (k (length (answers seen))) p.1) (answers ps) ≡ Asks op
      → HasSource path ((seen ++ p ∷ []) ++ ps) op)
      → HasSource path (seen ++ p ∷ ps) op
  unfolding run
  sourced_on p ps op None is asks g e more = absurd cc
  sourced_on p ps op (Some asked) is asks g e more =
      let t : Talk A = answered (k (length (answers seen))) p.1 in
      let f : Answer → List Answer → Next =
      λ a rest. run end path left (answers seen ++ a ∷ []) (answered (k (length (answers seen))) a) rest in
      let later : Goes (run end path left (answers seen ++ p.1 ∷ []) t) [] ps =
      goes_later end path left (answers seen) q span k asked is p.1 [] ps g in
      let on : run end path left (answers seen ++ p.1 ∷ []) t (answers ps) ≡ Asks op =
      sym (ap (λ o. next_by o span (p.1 ∷ answers ps) f) is) ∙ e in
      let grew : answers seen ++ p.1 ∷ [] ≡ answers (seen ++ p ∷ []) = sym (answers-last seen p) in
      subst (λ (l : List Pair). HasSource path l op) (append_assoc seen (p ∷ []) ps)
      (more (subst (λ (l : List Answer). Goes (run end path left l t) [] ps) grew later)
      (subst (λ (l : List Answer). run end path left l t (answers ps) ≡ Asks op) grew on))

pub run_sourced : {A : Type 0} (end : A → Finish) (path : List ℕ) (left : ℕ) (seen : List Pair) (t : Talk A)
    (more : List Pair) (op : Question)
    → Goes (run end path left (answers seen) t) [] more → run end path left (answers seen) t (answers more) ≡ Asks op
    → HasSource path (seen ++ more) op
unfolding run
run_sourced end path left seen (Gives a) more op g e = absurd cc
run_sourced end path left seen (Fails fault) more op g e = absurd cc
run_sourced end path zero seen (Asking q at k) more op g e = absurd cc
run_sourced end path (suc left) seen (Asking q at k) [] op g e = source_now path seen q at _ op e
run_sourced end path (suc left) seen (Asking q at k) (p ∷ ps) op g e =
    sourced_on end path left seen q at k p ps op (op_of path (answers seen) q) refl g.0 g.2 e
    (run_sourced end path left (seen ++ p ∷ []) (answered (k (length (answers seen))) p.1) ps op)
