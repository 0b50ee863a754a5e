-- An evaluation as a talk: it gives a value, ends with a fault, or asks a question and goes on with the answer. A
-- question names modules and owners by the numbers of the questions that answered them, so it can name no other.
use Rattle.std.specs.Prelude.{ℕ, zero, suc, List, [], ◌∷◌, ◌++◌, length, Option, Some, None, slice_get}
use Rattle.sw_text.specs.declared.fault.Fault.{Fault}
use Rattle.sw_text.specs.declared.fault.FaultCode.TheVariants.{Turns, UnknownVariable}
use Rattle.sw_text.specs.declared.place.Span.{Span}
use Rattle.sw_tree.specs.declared.callable.Kind.{Kind}
use Rattle.sw_values.specs.declared.plain.Plain.{Plain}
use Rattle.sw_world.specs.declared.question.Question.{Question}
use Rattle.sw_world.specs.declared.question.Question.TheVariants.{Load, Find, Get, Put, Say, Call}
use Rattle.sw_world.specs.declared.question.How.{How}
use Rattle.sw_world.specs.declared.question.Given.{Given}
use Rattle.sw_world.specs.declared.question.SayKind.{SayKind}
use Rattle.sw_world.specs.declared.answer.Answer.{Answer}
use Rattle.sw_world.specs.declared.answer.Answer.TheVariants.{Loaded, Refused, Owner, Callable, BuiltIn, NoNamespace, NoMember, LeftOut, Conflict, Value, Done, Hosted}
use Rattle.sw_world.specs.declared.end.End.TheVariants.{Done as Done_end, Fault as Fault_end}
use Rattle.sw_world.specs.declared.end.Finish.{Finish}
use Rattle.sw_world.specs.Body.{Next, Asks, Ends}

-- what a body may ask: a site is 0 for its own module, or one more than the number of the question that answered a
-- callable; an owner is the number of the question that answered it
pub data NumberedQuestion : Type 0 where
  Loads : List ℕ → Span → How → List Given → NumberedQuestion
  Finds : ℕ → Option (List ℕ) → Kind → List ℕ → NumberedQuestion
  Gets : ℕ → NumberedQuestion
  Puts : ℕ → Plain → NumberedQuestion
  Says : SayKind → Span → List ℕ → NumberedQuestion
  Calls : List ℕ → List Plain → NumberedQuestion

pub data Talk (A : Type 0) : Type 0 where
  Gives : A → Talk A
  Fails : Fault → Talk A
  -- a question, and what of the sheet asks it; it goes on with the question's number, counted from 0, and the answer
  Asking : NumberedQuestion → Span → (ℕ → Answer → Talk A) → Talk A

unfoldable pub bind : {A B : Type 0} → Talk A → (A → Talk B) → Talk B
bind (Gives a) f = f a
bind (Fails fault) f = Fails fault
bind (Asking q at k) f = Asking q at (λ n a. bind (k n a) f)

-- a refused load ends the body with its fault
abbrev pub answered : {A : Type 0} → (Answer → Talk A) → Answer → Talk A
answered k (Loaded path taken) = k (Loaded path taken)
answered k (Refused fault) = Fails fault
answered k (Owner path name) = k (Owner path name)
answered k (Callable site body) = k (Callable site body)
answered k (BuiltIn home name) = k (BuiltIn home name)
answered k NoNamespace = k NoNamespace
answered k NoMember = k NoMember
answered k LeftOut = k LeftOut
answered k Conflict = k Conflict
answered k (Value value) = k (Value value)
answered k Done = k Done
answered k (Hosted value) = k (Hosted value)

-- ---- what a question asks, by the answers before it

abbrev pub site_by : List ℕ → Option Answer → List ℕ
site_by path (Some (Callable site body)) = site
site_by path _ = path

abbrev pub site_of : List ℕ → List Answer → ℕ → List ℕ
site_of path seen zero = path
site_of path seen (suc n) = site_by path (slice_get seen n)

abbrev pub owned : (List ℕ → List ℕ → Question) → Option Answer → Option Question
owned op (Some (Owner path name)) = Some (op path name)
owned op _ = None

-- none where there is no such owner
abbrev pub op_of : List ℕ → List Answer → NumberedQuestion → Option Question
op_of path seen (Loads url span how config) = Some (Load path url span how config)
op_of path seen (Finds site space kind name) = Some (Find (site_of path seen site) space kind name)
op_of path seen (Gets owner) = owned (λ p n. Get p n) (slice_get seen owner)
op_of path seen (Puts owner value) = owned (λ p n. Put p n value) (slice_get seen owner)
op_of path seen (Says kind span text) = Some (Say kind span text)
op_of path seen (Calls name args) = Some (Call name args)

-- ---- a talk on a list of answers

-- the fault of a question too many
abbrev pub too_many : Span → Fault
too_many span = record { code = Turns; span = span }

-- the fault of a question about no owner
abbrev pub no_owner : Span → Fault
no_owner span = record { code = UnknownVariable; span = span }

abbrev pub next_by : Option Question → Span → List Answer → (Answer → List Answer → Next) → Next
next_by None span given f = Ends (Fault_end (no_owner span))
next_by (Some op) span [] f = Asks op
next_by (Some op) span (a ∷ given) f = f a given

-- what a talk does on a list of answers behind those seen, with so many questions left; what it gives leaves that
-- behind
unfoldable pub run : {A : Type 0} → (A → Finish) → List ℕ → ℕ → List Answer → Talk A → List Answer → Next
run end path left seen (Gives a) given = Ends (Done_end (end a))
run end path left seen (Fails fault) given = Ends (Fault_end fault)
run end path zero seen (Asking q at k) given = Ends (Fault_end (too_many at))
run end path (suc left) seen (Asking q at k) given =
    next_by (op_of path seen q) at given (λ a rest. run end path left (seen ++ a ∷ []) (answered (k (length seen)) a)
    rest)
