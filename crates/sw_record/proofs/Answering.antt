-- Answers of pairs.
use Rattle.std.proofs.Common.{◌≡◌, ℕ, zero, suc, ◌+◌, ◌<◌, ◌≤◌, List, [], ◌∷◌, ◌++◌, length, take, get_or, refl, sym, ◌∙◌, ap, slice_get, Some}
use Rattle.std.proofs.lemmas.List.{take_more, take_all}
use Rattle.std.proofs.lemmas.Option.{none-some, same_Some, slice_get_within, get_or_from_slice_get}
use Rattle.sw_world.specs.declared.answer.Answer.{Answer}
use Rattle.sw_world.specs.Body.{Pair, answers}

pub length-answers : (ps : List Pair) → length (answers ps) ≡ length ps
length-answers [] = refl
length-answers (p ∷ ps) = ap suc (length-answers ps)

answers-append : (ps qs : List Pair) → answers (ps ++ qs) ≡ answers ps ++ answers qs
answers-append [] qs = refl
answers-append (p ∷ ps) qs = ap (λ (l : List Answer). p.1 ∷ l) (answers-append ps qs)

answers_up : (ps : List Pair) (at : ℕ) (p : Pair) → slice_get ps at ≡ Some p → answers (take (at + 1) ps) ≡ answers (take at ps) ++ p.1 ∷ []
answers_up ps at p here =
    ap answers (take_more ps at p (slice_get_within ps at p here)) ∙ answers-append (take at ps) (get_or ps at p ∷ []) ∙ ap (λ (x : Pair). answers (take at ps) ++ x.1 ∷ []) (get_or_from_slice_get ps at p p here)

pub answers_more : (ps qs : List Pair) (at : ℕ) (p q : Pair) → slice_get ps at ≡ Some p → slice_get qs at ≡ Some q → p.1 ≡ q.1 → answers (take at ps) ≡ answers (take at qs) → answers (take (at + 1) ps) ≡ answers (take (at + 1) qs)
answers_more ps qs at p q here there same before =
    answers_up ps at p here ∙ ap (λ (l : List Answer). l ++ p.1 ∷ []) before ∙ ap (λ (a : Answer). answers (take at qs) ++ a ∷ []) same ∙ sym (answers_up qs at q there)

pub answer_at : (ps qs : List Pair) (at : ℕ) (p q : Pair) → slice_get ps at ≡ Some p → slice_get qs at ≡ Some q → answers ps ≡ answers qs → p.1 ≡ q.1
answer_at [] qs at p q here there e = absurd (none-some p here)
answer_at (x ∷ xs) [] at p q here there e = absurd (none-some q there)
answer_at (x ∷ xs) (y ∷ ys) zero p q here there e =
    let head : x.1 ≡ y.1 = cc in ap (λ (z : Pair). z.1) (sym (same_Some x p here)) ∙ head ∙ ap (λ (z : Pair). z.1) (same_Some y q there)
answer_at (x ∷ xs) (y ∷ ys) (suc at) p q here there e =
    let rest : answers xs ≡ answers ys = cc in answer_at xs ys at p q here there rest

pub answers_whole : (ps qs : List Pair) (at : ℕ) → length ps ≤ at → length qs ≤ at → answers (take at ps) ≡ answers (take at qs) → answers ps ≡ answers qs
answers_whole ps qs at le le2 e =
    sym (ap answers (take_all at ps le)) ∙ e ∙ ap answers (take_all at qs le2)
