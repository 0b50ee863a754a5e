-- Pairs that a body goes through.
use Rattle.std.proofs.Common.{◌≡◌, ◌-◌, ◌≤◌, List, [], ◌∷◌, ◌++◌, length, take, drop, sym, ◌∙◌, append_assoc, append-nil, arith}
use Rattle.std.proofs.lemmas.List.{take-append-drop, length-take, length-drop}
pub use Rattle.sw_record.proofs.Answering.{length-answers}
pub use Rattle.sw_record.proofs.Going.{goes_first, goes_rest, split_at}
use Rattle.sw_world.specs.declared.question.Question.{Question}
use Rattle.sw_world.specs.declared.answer.Answer.{Answer}
use Rattle.sw_world.specs.declared.end.End.{End}
use Rattle.sw_world.specs.Body.{Pair, Job, Next, Asks, Ends, BodyOf, answers, Goes}
use Rattle.sw_world.specs.Questions.{Fits}
use Rattle.sw_world.specs.Laws.{EndsInTime, most_asked}

pub goes_join : (next : List Answer → Next) (before : List Answer) (ps qs : List Pair) → Goes next before ps → Goes next (before ++ answers ps) qs → Goes next before (ps ++ qs)
goes_join next before [] qs goes rest = rw append-nil at rest
goes_join next before (p ∷ ps) qs goes rest =
    (goes.0, goes.1, goes_join next (before ++ p.1 ∷ []) ps qs goes.2 (rw append_assoc rest))

-- a body goes through at most as many pairs as it may ask questions
pub within : (body : BodyOf) (job : Job) (pairs : List Pair) → EndsInTime body → Goes (body job) [] pairs → length pairs ≤ most_asked
within body job pairs in_time goes =
    let split : Goes (body job) [] (take most_asked pairs ++ drop most_asked pairs) = rw take-append-drop goes in
    past (drop most_asked pairs) (length-drop most_asked pairs) (goes_rest (body job) [] (take most_asked pairs) (drop most_asked pairs) split)
  where
    past : (qs : List Pair) → length qs ≡ length pairs - most_asked → Goes (body job) (answers (take most_asked pairs)) qs → length pairs ≤ most_asked
    past [] e g = omega (arith, e)
    past (q ∷ qs) e g =
        let lt : most_asked ≤ length pairs = omega (arith, e) in
        let len : length (answers (take most_asked pairs)) ≡ most_asked = length-answers (take most_asked pairs) ∙ length-take most_asked pairs ∙ omega arith in
        let ends = in_time job (answers (take most_asked pairs)) len in
        absurd (apart (sym g.0 ∙ ends.1))
      where
        apart : {op : Question} {end : End} → Asks op ≡ Ends end → ⊥
        apart e = cc

-- the same pairs, and another answer to the question behind them
pub goes_other : (next : List Answer → Next) (ps : List Pair) (op : Question) (old a : Answer) (rest : List Pair) → Goes next [] (ps ++ (op, old) ∷ rest) → Fits op a → Goes next [] (ps ++ (op, a) ∷ [])
goes_other next ps op old a rest goes fits =
    let behind = goes_rest next [] ps ((op, old) ∷ rest) goes in
    goes_join next [] ps ((op, a) ∷ []) (goes_first next [] ps ((op, old) ∷ rest) goes) (behind.0, fits, tt)

-- the answer behind these pairs fits its question
pub fits_behind : (next : List Answer → Next) (ps : List Pair) (p : Pair) (rest : List Pair) → Goes next [] (ps ++ p ∷ rest) → Fits p.0 p.1
fits_behind next ps p rest goes = (goes_rest next [] ps (p ∷ rest) goes).1
