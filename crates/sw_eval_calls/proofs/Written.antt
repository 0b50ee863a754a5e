-- The texts of the arguments of a function of CSS, one at a time.
use Rattle.std.proofs.Common.{◌≡◌, ℕ, ◌+◌, ◌<◌, ◌≤◌, true, List, [], ◌∷◌, ◌++◌, length, drop, get_or, Result, Ok, Err, refl, append_assoc, append-nil}
use Rattle.std.specs.Prelude.{codes, IsErr, IsErrAnd}
use Rattle.sw_text.specs.declared.place.Span.{Span}
use Rattle.sw_values.specs.declared.plain.Plain.{Plain}
use Rattle.sw_eval_literals.specs.declared.refused.Refused.{Refused}
use Rattle.sw_eval_literals.specs.Answers.{Returns}
use Rattle.sw_eval_literals.specs.Texts.{css_text}
use Rattle.sw_eval_calls.proofs.Items.{next_item, drop_all}
use Rattle.sw_eval_calls.specs.CssCalls.{comma_behind, argument_texts}
use Rattle.sw_eval_calls.proofs.Answering.{refused_then}

pub comma_none : (done : List (List ℕ)) → done ≡ [] → done ≡ done ++ comma_behind done
comma_none done e = rw e refl

pub comma_some : (done : List (List ℕ)) → (done ≡ [] → ⊥) → done ++ codes ", " ∷ [] ≡ done ++ comma_behind done
comma_some [] some = absurd (some refl)
comma_some (text ∷ texts) some = refl

pub text_next : (done behind : List (List ℕ)) (vs : List Plain) (i : ℕ) (v : Plain) (text : List ℕ) (at : Span) → i < length vs → v ≡ get_or vs i v → css_text true v at ≡ Ok text → behind ≡ done ++ comma_behind done
    → argument_texts done (drop i vs) at ≡ argument_texts (behind ++ text ∷ []) (drop (i + 1) vs) at
text_next done behind vs i v text at lt is e made = rw (next_item vs i v lt is, e, made) refl

pub text_refused : (done : List (List ℕ)) (vs : List Plain) (i : ℕ) (v : Plain) (e : Refused) (r : Result (List (List ℕ)) Refused) (at : Span) → i < length vs → v ≡ get_or vs i v → Returns {A = List ℕ} (Err e) (css_text true v at)
    → IsErr r × IsErrAnd r (λ x. x ≡ e) → Returns r (argument_texts done (drop i vs) at)
text_refused done vs i v e r at lt is gave p =
    rw (next_item vs i v lt is) (refused_then (css_text true v at) (λ text. argument_texts ((done ++ comma_behind done) ++ text ∷ []) (drop (i + 1) vs) at) e r gave p)

pub texts_end : (done : List (List ℕ)) (vs : List Plain) (i : ℕ) (at : Span) → length vs ≤ i → argument_texts done (drop i vs) at ≡ Ok done
texts_end done vs i at le = rw (drop_all vs i le) refl

-- ---- what is put behind others

pub item_next : {A : Type 0} (done xs : List A) (i : ℕ) (x : A) → i < length xs → x ≡ get_or xs i x → (done ++ x ∷ []) ++ drop (i + 1) xs ≡ done ++ drop i xs
item_next done xs i x lt is = rw (next_item xs i x lt is) (append_assoc done (x ∷ []) (drop (i + 1) xs))

pub items_end : {A : Type 0} (done xs : List A) (i : ℕ) → length xs ≤ i → done ++ drop i xs ≡ done
items_end done xs i le = rw (drop_all xs i le) (append-nil done)
