-- One turn of each loop of the reader.
use Rattle.std.proofs.Common.{◌≡◌, ◌≢◌, ℕ, zero, suc, ◌+◌, ◌-◌, ◌<◌, true, false, List, [], ◌∷◌, ◌++◌, refl, ◌∙◌, ap, arith, Option, Some, None, Result, Err}
use Rattle.std.specs.Prelude.{◌==◌, if◌then◌else◌}
use Rattle.std.specs.Result.{IsErrAnd}
use Rattle.std.proofs.lemmas.Result.{err_from_is_err_and}
use Rattle.sw_text_scan.specs.declared.signs.TheConstants.{END}
use Rattle.sw_text_scan.specs.Bytes.{sign, byte}
use Rattle.sw_text_scan.proofs.Bounds.{if_true, if_false}
use Rattle.sw_selector.specs.declared.fault.SelectorFault.{SelectorFault}
use Rattle.sw_selector.specs.declared.fault.SelectorFault.TheVariants.{BadSelector, NoParent, TooLarge, Memory}
use Rattle.sw_selector.specs.declared.selector.Part.{Part}
use Rattle.sw_selector.specs.declared.turn.Before.{Before}
use Rattle.sw_selector.specs.declared.turn.Turn.TheVariants as turns
use Rattle.std.proofs.lemmas.Bool.Decides.{nat_tests}
use Rattle.sw_selector.specs.Simples.{IsRead, takes_selectors}
use Rattle.sw_selector.specs.Reading.{Lists, turn_at, closed_by, argument_at, complex_by, complex_from, complex_at, list_by, list_from, commas_end, whole_by, whole_from}

fails_by : {T U : Type 0} (e : SelectorFault) (said : Option T) (other : Option U) → IsRead {T = T} (Err e) said → (said ≡ None → other ≡ None) → IsRead {T = U} (Err e) other
fails_by BadSelector said other h f = f h
fails_by NoParent said other h f = h
fails_by TooLarge said other h f = h
fails_by Memory said other h f = tt

-- what a failed call hands on
pub handed_on : {T U : Type 0} (e : SelectorFault) (r : Result U SelectorFault) (said : Option T) (other : Option U)
    → IsErrAnd r (λ d. d ≡ e) → IsRead {T = T} (Err e) said → (said ≡ None → other ≡ None) → IsRead r other
handed_on {T} {U} e r said other a h f =
    let p = err_from_is_err_and r a in
    rw (p.1, p.2) (fails_by e said other h f)

pub is_byte : (r b n : ℕ) → r ≡ b → r ≡ n → (b == n) ≡ true
is_byte r b n e f = grind (arith, nat_tests)

pub is_other : (r b n : ℕ) → r ≡ b → r ≢ n → (b == n) ≡ false
is_other r b n e f = grind (arith, nat_tests)

less : (n : ℕ) → n ≡ suc n - 1
less n = omega arith

module _ (deeper : Lists) (bs : List ℕ) where
  pub argument_fails : (name : List ℕ) (i : ℕ) → takes_selectors name ≡ true → deeper i ≡ None → argument_at deeper bs name i ≡ None
  unfolding argument_at closed_by
  argument_fails name i e f = rw (e, f) refl

  pub complex_stops : (n : ℕ) (before : Before) (parts : List Part) (i j : ℕ) → 0 < n → turn_at deeper bs before i ≡ Some (turns.Stops j)
      → complex_from deeper bs n before parts i ≡ Some (parts, j)
  complex_stops zero before parts i j z e = absurd (omega arith)
  complex_stops (suc n) before parts i j z e = ap (complex_by (complex_from deeper bs n) parts) e

  pub complex_takes : (n : ℕ) (before : Before) (parts : List Part) (i : ℕ) (part : Part) (behind : Before) (j : ℕ) → 0 < n
      → turn_at deeper bs before i ≡ Some (turns.Takes part behind j)
      → complex_from deeper bs n before parts i ≡ complex_from deeper bs (n - 1) behind (parts ++ part ∷ []) j
  complex_takes zero before parts i part behind j z e = absurd (omega arith)
  complex_takes (suc n) before parts i part behind j z e =
      ap (complex_by (complex_from deeper bs n) parts) e ∙ ap (λ (k : ℕ). complex_from deeper bs k behind (parts ++ part ∷ []) j) (less n)

  pub complex_fails : (n : ℕ) (before : Before) (parts : List Part) (i : ℕ) → 0 < n → turn_at deeper bs before i ≡ None → complex_from deeper bs n before parts i ≡ None
  complex_fails zero before parts i z e = absurd (omega arith)
  complex_fails (suc n) before parts i z e = ap (complex_by (complex_from deeper bs n) parts) e

  pub list_fails : (n : ℕ) (list : List (List Part)) (i : ℕ) → 0 < n → complex_at deeper bs i ≡ None → list_from deeper bs n list i ≡ None
  list_fails zero list i z e = absurd (omega arith)
  list_fails (suc n) list i z e = ap (list_by (list_from deeper bs n) bs list) e

  pub list_ends : (n : ℕ) (list : List (List Part)) (i : ℕ) (parts : List Part) (j : ℕ) → 0 < n → complex_at deeper bs i ≡ Some (parts, j) → (byte bs j == sign ",") ≡ false
      → list_from deeper bs n list i ≡ Some (list ++ parts ∷ [], j)
  list_ends zero list i parts j z e f = absurd (omega arith)
  list_ends (suc n) list i parts j z e f =
      ap (list_by (list_from deeper bs n) bs list) e ∙ if_false (byte bs j == sign ",") (list_from deeper bs n (list ++ parts ∷ []) (j + 1)) (Some (list ++ parts ∷ [], j)) f

  pub list_goes : (n : ℕ) (list : List (List Part)) (i : ℕ) (parts : List Part) (j : ℕ) → 0 < n → complex_at deeper bs i ≡ Some (parts, j) → (byte bs j == sign ",") ≡ true
      → list_from deeper bs n list i ≡ list_from deeper bs (n - 1) (list ++ parts ∷ []) (j + 1)
  list_goes zero list i parts j z e f = absurd (omega arith)
  list_goes (suc n) list i parts j z e f =
      ap (list_by (list_from deeper bs n) bs list) e
      ∙ if_true (byte bs j == sign ",") (list_from deeper bs n (list ++ parts ∷ []) (j + 1)) (Some (list ++ parts ∷ [], j)) f
      ∙ ap (λ (k : ℕ). list_from deeper bs k (list ++ parts ∷ []) (j + 1)) (less n)

  pub whole_fails : (n : ℕ) (list : List (List Part)) (i : ℕ) → 0 < n → complex_at deeper bs i ≡ None → whole_from deeper bs n list i ≡ None
  whole_fails zero list i z e = absurd (omega arith)
  whole_fails (suc n) list i z e = ap (whole_by (whole_from deeper bs n) bs list) e

  -- behind a complex selector
  whole_on : (n : ℕ) (list : List (List Part)) (i : ℕ) (parts : List Part) (j : ℕ) → complex_at deeper bs i ≡ Some (parts, j)
      → whole_from deeper bs (suc n) list i ≡ whole_by (whole_from deeper bs n) bs list (Some (parts, j))
  whole_on n list i parts j e = ap (whole_by (whole_from deeper bs n) bs list) e

  pub whole_ends : (n : ℕ) (list : List (List Part)) (i : ℕ) (parts : List Part) (j : ℕ) → 0 < n → complex_at deeper bs i ≡ Some (parts, j)
      → (byte bs (commas_end bs j) == END) ≡ true → whole_from deeper bs n list i ≡ Some (list ++ parts ∷ [])
  whole_ends zero list i parts j z e f = absurd (omega arith)
  whole_ends (suc n) list i parts j z e f =
      whole_on n list i parts j e
      ∙ if_true (byte bs (commas_end bs j) == END) (Some (list ++ parts ∷ [])) (if byte bs j == sign "," then whole_from deeper bs n (list ++ parts ∷ []) (commas_end bs j) else None) f

  pub whole_wrong : (n : ℕ) (list : List (List Part)) (i : ℕ) (parts : List Part) (j : ℕ) → 0 < n → complex_at deeper bs i ≡ Some (parts, j)
      → (byte bs (commas_end bs j) == END) ≡ false → (byte bs j == sign ",") ≡ false → whole_from deeper bs n list i ≡ None
  whole_wrong zero list i parts j z e f g = absurd (omega arith)
  whole_wrong (suc n) list i parts j z e f g =
      whole_on n list i parts j e
      ∙ if_false (byte bs (commas_end bs j) == END) (Some (list ++ parts ∷ [])) (if byte bs j == sign "," then whole_from deeper bs n (list ++ parts ∷ []) (commas_end bs j) else None) f
      ∙ if_false (byte bs j == sign ",") (whole_from deeper bs n (list ++ parts ∷ []) (commas_end bs j)) None g

  pub whole_goes : (n : ℕ) (list : List (List Part)) (i : ℕ) (parts : List Part) (j : ℕ) → 0 < n → complex_at deeper bs i ≡ Some (parts, j)
      → (byte bs (commas_end bs j) == END) ≡ false → (byte bs j == sign ",") ≡ true
      → whole_from deeper bs n list i ≡ whole_from deeper bs (n - 1) (list ++ parts ∷ []) (commas_end bs j)
  whole_goes zero list i parts j z e f g = absurd (omega arith)
  whole_goes (suc n) list i parts j z e f g =
      whole_on n list i parts j e
      ∙ if_false (byte bs (commas_end bs j) == END) (Some (list ++ parts ∷ [])) (if byte bs j == sign "," then whole_from deeper bs n (list ++ parts ∷ []) (commas_end bs j) else None) f
      ∙ if_true (byte bs j == sign ",") (whole_from deeper bs n (list ++ parts ∷ []) (commas_end bs j)) None g
      ∙ ap (λ (k : ℕ). whole_from deeper bs k (list ++ parts ∷ []) (commas_end bs j)) (less n)
