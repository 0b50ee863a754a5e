-- What a search for a part of a text finds is the first place where it stands.
use Rattle.std.proofs.Common.{◌≡◌, ℕ, zero, suc, ◌+◌, ◌-◌, ◌<◌, ◌≤◌, Bool, true, false, List, [], ◌∷◌, ◌++◌, length, take, drop, Option, Some, None, eqb, refl, sym, ap, subst, ◌∙◌, append_assoc, arith}
use Rattle.std.specs.Prelude.{chars}
use Rattle.std.specs.List.{starts_with}
use Rattle.std.specs.Option.{option_map}
use Rattle.std.specs.Str.{IsUtf8}
use Rattle.std.proofs.lemmas.Str.{IsUtf8-drop}
use Rattle.std.specs.Str.Pattern.{FindsText, LacksTextAt, SplitsAroundMatch}
use Rattle.std.proofs.lemmas.Bool.{cases_Bool}
use Rattle.std.proofs.lemmas.Bool.Decides.{Decides-eqb}
use Rattle.std.proofs.lemmas.Slice.Eq.{starts_is}
use Rattle.std.proofs.Common.{⊎_elim}
use Rattle.sw_fn_text.specs.Places.{first_in, place_in}
use Rattle.sw_fn_text.specs.Pieces.{cut, pieces}

begins : (part text rest : List ℕ) → text ≡ part ++ rest → starts_with eqb text part ≡ true
begins part text rest e = (starts_is Decides-eqb text part _ refl).1 rest e

lacks : (part text : List ℕ) → LacksTextAt part text 0 → starts_with eqb text part ≡ false
lacks part text h =
    ⊎_elim (λ e. absurd (h _ ((starts_is Decides-eqb text part _ refl).0 e))) (λ e. e)
    (cases_Bool (starts_with eqb text part))

first_at : (part text : List ℕ) (i : ℕ) → ((k : ℕ) → k < i → LacksTextAt part text k) → (rest : List ℕ)
    → drop i text ≡ part ++ rest → first_in part text ≡ Some i
first_at part [] zero before rest e = rw (begins part [] rest e) refl
first_at part [] (suc i) before rest e = absurd (before 0 (omega arith) rest e)
first_at part (b ∷ bs) zero before rest e = rw (begins part (b ∷ bs) rest e) refl
first_at part (b ∷ bs) (suc i) before rest e =
    rw (lacks part (b ∷ bs) (before 0 (omega arith)))
    (ap (option_map suc) (first_at part bs i (λ k h. before (suc k) (omega arith)) rest e))

first_none : (part text : List ℕ) → ((i : ℕ) → i ≤ length text → LacksTextAt part text i) → first_in part text ≡ None
first_none part [] h = rw (lacks part [] (h 0 (omega arith))) refl
first_none part (b ∷ bs) h =
    rw (lacks part (b ∷ bs) (h 0 (omega arith)))
    (ap (option_map suc) (first_none part bs (λ i l. h (suc i) (omega arith))))

pub place-split : (part text front back : List ℕ) (n : ℕ) → SplitsAroundMatch (FindsText part) text front back
    → n ≡ length (chars front) → Some n ≡ place_in text part
unfolding place_in
place-split part text front back n h e =
    rw (first_at part text h.0 h.2.0 (drop h.1 text) h.2.1.split, ← h.3, ← e) refl

pub place-none : (part text : List ℕ) → FindsText part text None → None ≡ place_in text part
unfolding place_in
place-none part text h = rw (first_none part text h) refl

pub cut-split : (part text front back : List ℕ) → SplitsAroundMatch (FindsText part) text front back
    → cut part text ≡ Some (front, back)
unfolding cut
cut-split part text front back h =
    rw (first_at part text h.0 h.2.0 (drop h.1 text) h.2.1.split, ← h.3, ← h.2.1.ends, ← h.4) refl

pub cut-none : (part text : List ℕ) → FindsText part text None → cut part text ≡ None
unfolding cut
cut-none part text h = rw (first_none part text h) refl

pub utf8-split : (part text front back : List ℕ) → IsUtf8 text → SplitsAroundMatch (FindsText part) text front back
    → IsUtf8 back
utf8-split part text front back u h =
    rw (h.4, h.2.1.ends) (IsUtf8-drop text (h.0 + length part) u h.2.1.after)

-- a piece more, and one cut fewer
pub pieces-step : (cuts done : ℕ) (separator left piece behind : List ℕ) (texts all : List (List ℕ)) → done < cuts
    → cut separator left ≡ Some (piece, behind) → texts ++ pieces (cuts - done) separator left ≡ all
    → (texts ++ piece ∷ []) ++ pieces (cuts - (done + 1)) separator behind ≡ all
pieces-step cuts done separator left piece behind texts all lt e h =
    let n : cuts - done ≡ suc (cuts - (done + 1)) = omega arith in
    let k : texts ++ pieces (suc (cuts - (done + 1))) separator left ≡ all = subst (λ m. texts ++ pieces m separator left ≡ all) n h in
    rw append_assoc (rw e at k)
