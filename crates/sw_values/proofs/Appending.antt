-- Texts that are written one behind the other.
use Rattle.std.proofs.Common.{◌≡◌, ◌≤◌, ◌<◌, ℕ, Bool, true, false, if◌then◌else◌, nat_lt, List, [], ◌++◌, length, length-append, append_assoc, Option, Some, None, is_none, Result, Ok, Err, IfOk, IfErr, refl, sym, ap, ◌∙◌, arith}
use Rattle.std.proofs.lemmas.Bool.{ltb-true, ltb-false, le-ltb}
use Rattle.sw_values.specs.Weight.{most}
use Rattle.sw_values.specs.Written.{if_short, appended, IsNamed}
use Rattle.sw_values.specs.Texts.{Shown, IsTextFault}
use Rattle.sw_values.specs.Inspected.{IsInspectFault}
use Rattle.sw_values.specs.declared.fault.ValueFault.{ValueFault}
use Rattle.sw_values.specs.declared.fault.ValueFault.TheVariants as F

longer : (t a b : List ℕ) → most ≤ length (t ++ a) → most ≤ length (t ++ (a ++ b))
longer t a b h = simp (length-append) (omega (arith, simp (length-append) at h))

pub joined : (w : Option (List ℕ)) (a b : List ℕ) → appended (appended w a) b ≡ appended w (a ++ b)
unfolding appended
joined None a b = refl
joined (Some t) a b = elim (nat_lt (length (t ++ a)) most) as (λ c. nat_lt (length (t ++ a)) most ≡ c → appended (if c then Some (t ++ a) else None) b ≡ if_short (t ++ (a ++ b))) [
  | true ↦ λ e. ap if_short (append_assoc t a b)
  | false ↦ λ e. sym (ap (λ c. if c then Some (t ++ (a ++ b)) else None) (le-ltb (length (t ++ (a ++ b))) most (longer t a b (ltb-false (length (t ++ a)) most e))))
] refl

pub joined_three : (w : Option (List ℕ)) (a b c : List ℕ) → appended (appended (appended w a) b) c ≡ appended w ((a ++ b) ++ c)
joined_three w a b c = ap (λ u. appended u c) (joined w a b) ∙ joined w (a ++ b) c

pub stays_long : (w : Option (List ℕ)) (t : List ℕ) → is_none w ≡ true → w ≡ appended w t
unfolding appended
stays_long None t e = refl
stays_long (Some v) t e = cc

pub short : (t b : List ℕ) → Some b ≡ appended (Some []) t → (b ≡ t) × (length t < most)
unfolding appended
short t b h = elim (nat_lt (length t) most) as (λ c. nat_lt (length t) most ≡ c → Some b ≡ (if c then Some t else None) → (b ≡ t) × (length t < most)) [
  | true ↦ λ e f. let k : b ≡ t = cc in (k, ltb-true (length t) most e)
  | false ↦ λ e f. cc
] refl h

pub long : (t : List ℕ) → None ≡ appended (Some []) t → most ≤ length t
unfolding appended
long t h = elim (nat_lt (length t) most) as (λ c. nat_lt (length t) most ≡ c → (if c then Some t else None) ≡ None → most ≤ length t) [
  | true ↦ λ e f. cc
  | false ↦ λ e f. ltb-false (length t) most e
] refl (sym h)

pub name_is : (t : List ℕ) (r : Result (List ℕ) ValueFault) → IsNamed t r → IfOk r (λ name. name ≡ t)
name_is t (Ok name) h = h.0
name_is t (Err fault) h = tt

pub name_light : (t : List ℕ) (r : Result (List ℕ) ValueFault) → IsNamed t r → IfOk r (λ name. length name < most)
name_light t (Ok name) h = let e : name ≡ t = h.0 in rw e h.1
name_light t (Err fault) h = tt

pub name_css : (css : Bool) (t : List ℕ) (r : Result (List ℕ) ValueFault) → css ≡ true → IfOk r (λ name. css ≡ true)
name_css css t (Ok name) e = e
name_css css t (Err fault) e = tt

pub fault_css : (s : Shown) (r : Result (List ℕ) ValueFault) → s.css ≡ true → IsNamed s.text r → IfErr r (λ fault. IsTextFault s fault)
fault_css s (Ok name) e h = tt
fault_css s (Err F.TooLarge) e h = (e, h)
fault_css s (Err F.NotCss) e h = absurd h
fault_css s (Err (F.DuplicateKey place)) e h = absurd h
fault_css s (Err F.Memory) e h = tt

pub fault_said : (t : List ℕ) (r : Result (List ℕ) ValueFault) → IsNamed t r → IfErr r (λ fault. IsInspectFault t fault)
fault_said t (Ok name) h = tt
fault_said t (Err F.TooLarge) h = h
fault_said t (Err F.NotCss) h = absurd h
fault_said t (Err (F.DuplicateKey place)) h = absurd h
fault_said t (Err F.Memory) h = tt

pub is_named : (t b : List ℕ) (r : Result (List ℕ) ValueFault) → (b ≡ t) × (length t < most) → IfOk r (λ name. name ≡ b) → IfErr r (λ fault. fault ≡ F.Memory) → IsNamed t r
is_named t b (Ok name) h f g = (f ∙ h.0, h.1)
is_named t b (Err fault) h f g = rw g tt
