-- The texts of `&`, one at a time.
use Rattle.std.proofs.Common.{◌≡◌, ℕ, ◌+◌, ◌<◌, ◌≤◌, List, [], ◌∷◌, ◌++◌, false, length, drop, get_or, Result, Ok, Err, refl}
use Rattle.std.specs.Prelude.{IsErr, IsErrAnd}
use Rattle.sw_text.specs.declared.place.Span.{Span}
use Rattle.sw_values.specs.declared.plain.Plain.{Plain}
use Rattle.sw_eval_literals.specs.declared.refused.Refused.{Refused}
use Rattle.sw_eval_literals.specs.Answers.{Returns}
use Rattle.sw_eval_literals.specs.Literals.{string_value}
use Rattle.sw_eval_questions.proofs.Loops.{next_item, drop_all}
use Rattle.sw_eval_state.specs.Selecting.{words_of, complex_of, complexes_of}
use Rattle.sw_eval_calls.proofs.Answering.{refused_then}

pub word_next : (done : List Plain) (texts : List (List ℕ)) (i : ℕ) (text : List ℕ) (word : Plain) (at : Span) → i < length texts → text ≡ get_or texts i text → string_value text false at ≡ Ok word
    → words_of done (drop i texts) at ≡ words_of (done ++ word ∷ []) (drop (i + 1) texts) at
word_next done texts i text word at lt is e = rw (next_item texts i text lt is, e) refl

pub word_refused : (done : List Plain) (texts : List (List ℕ)) (i : ℕ) (text : List ℕ) (e : Refused) (r : Result (List Plain) Refused) (at : Span) → i < length texts → text ≡ get_or texts i text → Returns {A = Plain} (Err e) (string_value text false at)
    → IsErr r × IsErrAnd r (λ x. x ≡ e) → Returns r (words_of done (drop i texts) at)
word_refused done texts i text e r at lt is gave p =
    rw (next_item texts i text lt is) (refused_then (string_value text false at) (λ word. words_of (done ++ word ∷ []) (drop (i + 1) texts) at) e r gave p)

pub words_end : (done : List Plain) (texts : List (List ℕ)) (i : ℕ) (at : Span) → length texts ≤ i → words_of done (drop i texts) at ≡ Ok done
words_end done texts i at le = rw (drop_all texts i le) refl

pub complex_next : (done : List Plain) (all : List (List (List ℕ))) (i : ℕ) (texts : List (List ℕ)) (complex : Plain) (at : Span) → i < length all → texts ≡ get_or all i texts → complex_of texts at ≡ Ok complex
    → complexes_of done (drop i all) at ≡ complexes_of (done ++ complex ∷ []) (drop (i + 1) all) at
complex_next done all i texts complex at lt is e = rw (next_item all i texts lt is, e) refl

pub complex_refused : (done : List Plain) (all : List (List (List ℕ))) (i : ℕ) (texts : List (List ℕ)) (e : Refused) (r : Result (List Plain) Refused) (at : Span) → i < length all → texts ≡ get_or all i texts → Returns {A = Plain} (Err e) (complex_of texts at)
    → IsErr r × IsErrAnd r (λ x. x ≡ e) → Returns r (complexes_of done (drop i all) at)
complex_refused done all i texts e r at lt is gave p =
    rw (next_item all i texts lt is) (refused_then (complex_of texts at) (λ complex. complexes_of (done ++ complex ∷ []) (drop (i + 1) all) at) e r gave p)

pub complexes_end : (done : List Plain) (all : List (List (List ℕ))) (i : ℕ) (at : Span) → length all ≤ i → complexes_of done (drop i all) at ≡ Ok done
complexes_end done all i at le = rw (drop_all all i le) refl
