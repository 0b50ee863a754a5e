-- How an evaluation goes on: it takes known pairs first, and then asks the world.
use Rattle.std.specs.Prelude.{◌≡◌, ℕ, ◌+◌, ◌<◌, ◌≤◌, List, [], ◌∷◌, ◌++◌, length, take, Option, Some, None, slice_get}
use Rattle.std.proofs.Common.{refl, subst}
use Rattle.sw_text.specs.declared.place.Span.{Span}
use Rattle.sw_world.specs.declared.question.Question.{Question}
use Rattle.sw_world.specs.declared.answer.Answer.{Answer}
use Rattle.sw_world.specs.declared.answer.Answer.TheVariants.{Loaded, Refused, Owner, Callable, BuiltIn, NoNamespace, NoMember, LeftOut, Conflict, Value, Done, Hosted}
use Rattle.sw_world.specs.Questions.{IsLoad, Fits}
use Rattle.sw_world.specs.Body.{Pair, answers}
use Rattle.sw_world.specs.Laws.{most_asked}
use Rattle.sw_eval_questions.specs.Talk.{NumberedQuestion, Talk, Fails, Asking, bind, answered, too_many, no_owner, op_of}

-- the path of the body, the known and the asked pairs, and how many of them were taken
pub record Stand : Type 0 where
  pub path : List ℕ
  pub pairs : List Pair
  pub at : ℕ

-- what a question asks there
abbrev pub op_at : List ℕ → List Pair → ℕ → NumberedQuestion → Option Question
op_at path ps n q = op_of path (answers (take n ps)) q

-- from a talk, a stand and a world to those after some questions
pub data Ran {W A : Type 0} (gives : W → Question → Answer → W → Type 0) : Talk A → Stand → W → Talk A → Stand → W
    → Type 0 where
  still : (t : Talk A) (s : Stand) (w : W) → Ran gives t s w t s w
  takes : (q : NumberedQuestion) (op : Question) (span : Span) (k : ℕ → Answer → Talk A) (path : List ℕ) (ps : List Pair) (n : ℕ)
      (w : W) (p : Pair) (u : Talk A) (s' : Stand) (w' : W)
      → n < most_asked → op_at path ps n q ≡ Some op → slice_get ps n ≡ Some p
      → Ran gives (answered (k n) p.1) (record { path = path; pairs = ps; at = n + 1 }) w u s' w'
      → Ran gives (Asking q span k) (record { path = path; pairs = ps; at = n }) w u s' w'
  asks : (q : NumberedQuestion) (op : Question) (span : Span) (k : ℕ → Answer → Talk A) (path : List ℕ) (ps : List Pair) (w : W)
      (a : Answer) (v : W) (u : Talk A) (s' : Stand) (w' : W)
      → length ps < most_asked → op_at path ps (length ps) q ≡ Some op → (IsLoad op → ⊥) → gives w op a v → Fits op a
      → Ran gives (answered (k (length ps)) a)
      (record { path = path; pairs = ps ++ (op, a) ∷ []; at = length ps + 1 }) v u s' w'
      → Ran gives (Asking q span k) (record { path = path; pairs = ps; at = length ps }) w u s' w'
  full : (q : NumberedQuestion) (span : Span) (k : ℕ → Answer → Talk A) (s : Stand) (w : W) (u : Talk A) (s' : Stand) (w' : W)
      → most_asked ≤ s.at → Ran gives (Fails (too_many span)) s w u s' w' → Ran gives (Asking q span k) s w u s' w'
  lost : (q : NumberedQuestion) (span : Span) (k : ℕ → Answer → Talk A) (s : Stand) (w : W) (u : Talk A) (s' : Stand) (w' : W)
      → s.at < most_asked → op_at s.path s.pairs s.at q ≡ None → Ran gives (Fails (no_owner span)) s w u s' w'
      → Ran gives (Asking q span k) s w u s' w'

-- it goes on from where another came to
pub ran_on : {W A : Type 0} {gives : W → Question → Answer → W → Type 0} (t u v : Talk A) (a b c : Stand) (w x y : W)
    → Ran gives t a w u b x → Ran gives u b x v c y → Ran gives t a w v c y
ran_on _ _ v _ _ c _ _ y (still t s w) more = more
ran_on _ _ v _ _ c _ _ y (takes q op at k path ps n w p u b x few is here ran) more =
    takes q op at k path ps n w p v c y few is here
    (ran_on (answered (k n) p.1) u v (record { path = path; pairs = ps; at = n + 1 }) b c w x y ran more)
ran_on _ _ v _ _ c _ _ y (asks q op at k path ps w a z u b x few is plain given fits ran) more =
    asks q op at k path ps w a z v c y few is plain given fits
    (ran_on (answered (k (length ps)) a) u v
    (record { path = path; pairs = ps ++ (op, a) ∷ []; at = length ps + 1 }) b c z x y ran more)
ran_on _ _ v _ _ c _ _ y (full q at k s w u b x many ran) more =
    full q at k s w v c y many (ran_on (Fails (too_many at)) u v s b c w x y ran more)
ran_on _ _ v _ _ c _ _ y (lost q at k s w u b x few is ran) more =
    lost q at k s w v c y few is (ran_on (Fails (no_owner at)) u v s b c w x y ran more)

bound : {A B : Type 0} (k : Answer → Talk A) (f : A → Talk B) (a : Answer)
    → bind (answered k a) f ≡ answered (λ b. bind (k b) f) a
unfolding bind
bound k f (Loaded path taken) = refl
bound k f (Refused fault) = refl
bound k f (Owner path name) = refl
bound k f (Callable site body) = refl
bound k f (BuiltIn home name) = refl
bound k f NoNamespace = refl
bound k f NoMember = refl
bound k f LeftOut = refl
bound k f Conflict = refl
bound k f (Value value) = refl
bound k f Done = refl
bound k f (Hosted value) = refl

-- inside what goes on after it
pub within : {W A B : Type 0} {gives : W → Question → Answer → W → Type 0} (t u : Talk A) (f : A → Talk B) (a b : Stand)
    (w x : W)
    → Ran gives t a w u b x → Ran gives (bind t f) a w (bind u f) b x
unfolding bind
within _ _ f _ _ _ _ (still t s w) = still (bind t f) s w
within {B = B} {gives = gives} _ _ f _ _ _ _ (takes q op at k path ps n w p u b x few is here ran) =
    takes q op at (λ n a. bind (k n a) f) path ps n w p (bind u f) b x few is here
    (subst (λ (t : Talk B). Ran gives t (record { path = path; pairs = ps; at = n + 1 }) w (bind u f) b x)
    (bound (k n) f p.1) (within (answered (k n) p.1) u f (record { path = path; pairs = ps; at = n + 1 }) b w x
    ran))
within {B = B} {gives = gives} _ _ f _ _ _ _ (asks q op at k path ps w a z u b x few is plain given fits ran) =
    asks q op at (λ n a. bind (k n a) f) path ps w a z (bind u f) b x few is plain given fits
    (subst (λ (t : Talk B). Ran gives t (record { path = path; pairs = ps ++ (op, a) ∷ []; at = length ps + 1 }) z
    (bind u f) b x) (bound (k (length ps)) f a)
    (within (answered (k (length ps)) a) u f
    (record { path = path; pairs = ps ++ (op, a) ∷ []; at = length ps + 1 }) b z x ran))
within _ _ f _ _ _ _ (full q at k s w u b x many ran) =
    full q at (λ n a. bind (k n a) f) s w (bind u f) b x many (within (Fails (too_many at)) u f s b w x ran)
within _ _ f _ _ _ _ (lost q at k s w u b x few is ran) =
    lost q at (λ n a. bind (k n a) f) s w (bind u f) b x few is (within (Fails (no_owner at)) u f s b w x ran)
