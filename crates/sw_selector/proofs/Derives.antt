-- The reader finds what the grammar derives, and derives what it finds.
use Rattle.std.proofs.Common.{◌≡◌, ℕ, ◌+◌, ◌-◌, ◌≤◌, ◌<◌, Bool, true, false, not, ◌&&◌, ◌||◌, List, [], ◌∷◌, ◌++◌, length, refl, sym, ◌∙◌, ap, subst, arith, Option, Some, None, append_assoc, append-nil}
use Rattle.std.specs.Prelude.{◌==◌, nat_lt, if◌then◌else◌, unwrap_or}
use Rattle.std.proofs.lemmas.Bool.Decides.{nat_tests}
use Rattle.sw_text_scan.specs.declared.brackets.Stops.TheVariants as stops
use Rattle.sw_text_scan.specs.Bytes.{sign, byte}
use Rattle.sw_text_scan.specs.Runs.{begins_name}
use Rattle.sw_text_scan.specs.Pieces.{piece}
use Rattle.sw_text_scan.specs.Brackets.{stop_at}
use Rattle.sw_text_scan.proofs.Bounds.{and_left, and_right, if_true, if_false}
use Rattle.sw_selector.specs.declared.selector.Part.{Part}
use Rattle.sw_selector.specs.declared.selector.Part.TheVariants as parts
use Rattle.sw_selector.specs.declared.selector.Combinator.{Combinator}
use Rattle.sw_selector.specs.declared.selector.Combinator.TheVariants as combinators
use Rattle.sw_selector.specs.declared.turn.Before.{Before}
use Rattle.sw_selector.specs.declared.turn.Before.TheVariants as befores
use Rattle.sw_selector.specs.declared.turn.Turn.TheVariants as turns
use Rattle.sw_selector.specs.Attributes.{prefix_end, attribute_end}
use Rattle.sw_text_locality.specs.Names.{white, name_end, name_text}
use Rattle.sw_selector.specs.Simples.{text_at, as_part, class_at, placeholder_at, type_behind, type_at, attribute_by, attribute_at, parent_at, takes_selectors, with_argument, argument_text, raw_by, raw_at, colons_end}
use Rattle.sw_selector.specs.Reading.{Lists, closed_by, argument_at, pseudo_behind, pseudo_at, is_simple, is_joined, head_at, simple_at, combinator_of, ends_complex, simple_turn, plain_turn, joined_turn, spaced_turn, turn_at, complex_from, complex_at}
use Rattle.sw_selector.specs.Grammar as g
use Rattle.sw_selector.specs.Grammar.{Inner, Name, pseudo_name, Simple, Head, Simples, Compound, Joint, Compounds, Ends, IsComplex}
use Rattle.sw_selector.proofs.Loops.{complex_takes, complex_stops}
use Rattle.sw_selector.proofs.Lexical.{begins_simple, begins_word, begins_type, begins_part, not_white, not_end, not_sign, sign_not_end, stands, name_first, prefix_forward, type_first, any_first, colons_forward, attribute_further}
use Rattle.sw_text_locality.proofs.Lexical.{equal, split, in_or, white_forward, white_none, white_twice, name_forward, name_further}

-- what is read in arguments is what the grammar has there
pub record Fits (bs : List ℕ) (deeper : Lists) (inner : Inner) : Type 0 where
  pub sound : (i j : ℕ) (list : List (List Part)) → deeper i ≡ Some (list, j) → inner i j list
  pub complete : (i j : ℕ) (list : List (List Part)) → inner i j list → deeper i ≡ Some (list, j)
  pub forward : (i j : ℕ) (list : List (List Part)) → inner i j list → i ≤ j

pub same_first : {A B : Type 0} {a c : A} {b d : B} → ◌≡◌ {A = Option (A × B)} (Some (a, b)) (Some (c, d)) → a ≡ c
same_first {A} {B} {a} {c} {b} {d} e = ap (λ (o : Option (A × B)). (unwrap_or o (a, b)).0) e

pub same_second : {A B : Type 0} {a c : A} {b d : B} → ◌≡◌ {A = Option (A × B)} (Some (a, b)) (Some (c, d)) → b ≡ d
same_second {A} {B} {a} {c} {b} {d} e = ap (λ (o : Option (A × B)). (unwrap_or o (a, b)).1) e

module _ (bs : List ℕ) (deeper : Lists) (inner : Inner) (fits : Fits bs deeper inner) where
  -- what a byte decides at i
  abbrev chosen : Before → ℕ → ℕ → Option (Part × ℕ)
  chosen before i b =
      if (b == sign ".") || (b == sign "#") then class_at bs i
      else (if b == sign "%" then placeholder_at bs i
      else (if b == sign "[" then attribute_at bs i
      else (if b == sign ":" then pseudo_at deeper bs i
      else head_at bs before i)))

  by_byte : (before : Before) (i b : ℕ) → byte bs i ≡ b → simple_at deeper bs before i ≡ chosen before i b
  unfolding simple_at
  by_byte before i b e = ap (chosen before i) e

  -- names
  text_found : (i k j : ℕ) → Name bs k j → text_at bs i k ≡ Some (name_text bs i k j, j)
  unfolding text_at
  text_found i k j n = if_true (begins_name bs k) _ None n.0 ∙ ap (λ (m : ℕ). Some (name_text bs i k m, m)) (sym n.1)

  -- a part that is named by a text behind it
  record Told (kind : List ℕ → Part) (i k j : ℕ) (part : Part) : Type 0 where
    name : Name bs k j
    is : kind (name_text bs i k j) ≡ part

  text_told : (kind : List ℕ → Part) (i k j : ℕ) (part : Part) → as_part kind (text_at bs i k) ≡ Some (part, j) → Told kind i k j part
  unfolding text_at
  text_told kind i k j part e = go (begins_name bs k) refl e
    where
      go : (t : Bool) → begins_name bs k ≡ t → as_part kind (if t then Some (name_text bs i k (name_end bs k), name_end bs k) else None) ≡ Some (part, j) → Told kind i k j part
      go true m f =
          let end = same_second f in
          record { name = (m, sym end); is = ap (λ (x : ℕ). kind (name_text bs i k x)) (sym end) ∙ same_first f }
      go false m f = absurd (cc)

  -- simple selectors that may stand behind another
  argument_found : (name : List ℕ) (i j : ℕ) (list : List (List Part)) → takes_selectors name ≡ true → inner i j list → byte bs j ≡ sign ")"
      → argument_at deeper bs name i ≡ Some (parts.Pseudo name list, j + 1)
  unfolding argument_at closed_by
  argument_found name i j list takes within close =
      if_true (takes_selectors name) _ _ takes ∙ ap (closed_by bs name) (fits.complete i j list within)
      ∙ if_true (byte bs j == sign ")") _ _ (ap (λ (b : ℕ). b == sign ")") close)

  raw_found : (name : List ℕ) (i j : ℕ) → takes_selectors name ≡ false → stop_at stops.Argument bs i ≡ Some j → byte bs j ≡ sign ")" → white bs i < j
      → argument_at deeper bs name i ≡ Some (parts.Closed (with_argument name (argument_text bs i j)), j + 1)
  unfolding argument_at raw_by
  raw_found name i j takes stop close lt =
      if_false (takes_selectors name) _ _ takes ∙ ap (raw_by bs name i) stop
      ∙ if_true ((byte bs j == sign ")") && nat_lt (white bs i) j) _ _ (both (byte bs j == sign ")") (nat_lt (white bs i) j) (ap (λ (b : ℕ). b == sign ")") close) (grind (arith, nat_tests)))
    where
      both : (a b : Bool) → a ≡ true → b ≡ true → (a && b) ≡ true
      both true b e f = f
      both false b e f = absurd (cc)

  pseudo_found : (i j : ℕ) → Name bs (colons_end bs i) j → pseudo_at deeper bs i ≡ pseudo_behind deeper bs (pseudo_name bs i j) j
  unfolding pseudo_at
  pseudo_found i j n =
      if_true (begins_name bs (colons_end bs i)) _ None n.0 ∙ ap (λ (m : ℕ). pseudo_behind deeper bs (pseudo_name bs i m) m) (sym n.1)

  behind_plain : (name : List ℕ) (j : ℕ) → (byte bs j == sign "(") ≡ false → pseudo_behind deeper bs name j ≡ Some (parts.Named name, j)
  unfolding pseudo_behind
  behind_plain name j e = if_false (byte bs j == sign "(") _ _ e

  behind_open : (name : List ℕ) (j : ℕ) → byte bs j ≡ sign "(" → pseudo_behind deeper bs name j ≡ argument_at deeper bs name (j + 1)
  unfolding pseudo_behind
  behind_open name j e = if_true (byte bs j == sign "(") _ _ (ap (λ (b : ℕ). b == sign "(") e)

  simple_found : (before : Before) (i j : ℕ) (part : Part) → Simple inner bs i j part → simple_at deeper bs before i ≡ Some (part, j)
  simple_found before i j part (g.Simple.class s n) = by_byte before i (sign ".") s ∙ ap (as_part parts.Named) (text_found i (i + 1) j n)
  simple_found before i j part (g.Simple.id s n) = by_byte before i (sign "#") s ∙ ap (as_part parts.Named) (text_found i (i + 1) j n)
  simple_found before i j part (g.Simple.placeholder s n) = by_byte before i (sign "%") s ∙ ap (as_part parts.Placeholder) (text_found i (i + 1) j n)
  simple_found before i j part (g.Simple.attribute s e) = by_byte before i (sign "[") s ∙ ap (attribute_by bs i) e
  simple_found before i j part (g.Simple.pseudo s n e) = by_byte before i (sign ":") s ∙ pseudo_found i j n ∙ behind_plain (pseudo_name bs i j) j e
  simple_found before i j part (g.Simple.pseudo_of {j = m} {k} {list} s n o takes within close) =
      by_byte before i (sign ":") s ∙ pseudo_found i m n ∙ behind_open (pseudo_name bs i m) m o ∙ argument_found (pseudo_name bs i m) (m + 1) k list takes within close
  simple_found before i j part (g.Simple.pseudo_with {j = m} {k} s n o takes stop close lt) =
      by_byte before i (sign ":") s ∙ pseudo_found i m n ∙ behind_open (pseudo_name bs i m) m o ∙ raw_found (pseudo_name bs i m) (m + 1) k takes stop close lt

  -- what only begins a compound
  abbrev headed : Before → ℕ → ℕ → Option (Part × ℕ)
  headed before i b = if is_simple before then None else (if b == sign "&" then parent_at bs i else type_at bs i)

  head_is : (before : Before) (i : ℕ) → head_at bs before i ≡ headed before i (byte bs i)
  unfolding head_at
  head_is before i = refl

  by_type : (before : Before) (i : ℕ) → begins_type (byte bs i) ≡ true → is_simple before ≡ false → simple_at deeper bs before i ≡ type_at bs i
  by_type before i first e =
      by_byte before i (byte bs i) refl
      ∙ if_false ((byte bs i == sign ".") || (byte bs i == sign "#")) _ _ (tests (byte bs i) first).0
      ∙ if_false (byte bs i == sign "%") _ _ (tests (byte bs i) first).1
      ∙ if_false (byte bs i == sign "[") _ _ (tests (byte bs i) first).2
      ∙ if_false (byte bs i == sign ":") _ _ (tests (byte bs i) first).3
      ∙ head_is before i ∙ if_false (is_simple before) None _ e ∙ if_false (byte bs i == sign "&") _ _ (tests (byte bs i) first).4
    where
      tests : (b : ℕ) → begins_type b ≡ true
          → (((b == sign ".") || (b == sign "#")) ≡ false) × ((b == sign "%") ≡ false) × ((b == sign "[") ≡ false) × ((b == sign ":") ≡ false) × ((b == sign "&") ≡ false)
      tests b first = (grind (arith, nat_tests), grind (arith, nat_tests), grind (arith, nat_tests), grind (arith, nat_tests), grind (arith, nat_tests))

  name_not_star : (k : ℕ) → begins_name bs k ≡ true → (byte bs k == sign "*") ≡ false
  name_not_star k m = go (byte bs k) (name_first bs k m)
    where
      go : (b : ℕ) → begins_word b ≡ true → (b == sign "*") ≡ false
      go b e = grind (arith, nat_tests)

  head_found : (before : Before) (i j : ℕ) (part : Part) → Head bs i j part → is_simple before ≡ false → simple_at deeper bs before i ≡ Some (part, j)
  unfolding parent_at type_behind
  head_found before i j part (g.Head.parent s e) f =
      by_byte before i (sign "&") s ∙ head_is before i ∙ ap (headed before i) s ∙ if_false (is_simple before) None _ f
      ∙ ap (λ (m : ℕ). Some (parts.Parent (name_text bs (i + 1) (i + 1) m), m)) (sym e)
  head_found before i j part (g.Head.type {k} p n) f =
      by_type before i (type_first bs i (ap (begins_name bs) (sym p) ∙ n.0)) f ∙ ap (type_behind bs i) (sym p)
      ∙ if_false (byte bs k == sign "*") _ _ (name_not_star k n.0) ∙ ap (as_part parts.Named) (text_found i k j n)
  head_found before i j part (g.Head.any {k} p s) f =
      by_type before i (any_first bs i (ap (byte bs) (sym p) ∙ s)) f ∙ ap (type_behind bs i) (sym p)
      ∙ if_true (byte bs k == sign "*") _ _ (ap (λ (b : ℕ). b == sign "*") s)

  -- with which bytes they begin
  pub simple_begins : (i j : ℕ) (part : Part) → Simple inner bs i j part → begins_part (byte bs i) ≡ true
  simple_begins i j part (g.Simple.class s n) = ap begins_part s
  simple_begins i j part (g.Simple.id s n) = ap begins_part s
  simple_begins i j part (g.Simple.placeholder s n) = ap begins_part s
  simple_begins i j part (g.Simple.attribute s e) = ap begins_part s
  simple_begins i j part (g.Simple.pseudo s n e) = ap begins_part s
  simple_begins i j part (g.Simple.pseudo_of s n o takes within close) = ap begins_part s
  simple_begins i j part (g.Simple.pseudo_with s n o takes stop close lt) = ap begins_part s

  type_part : (b : ℕ) → begins_type b ≡ true → begins_part b ≡ true
  type_part b e = in_or (begins_simple b) _ (in_or (b == sign "&") _ e)

  pub head_begins : (i j : ℕ) (part : Part) → Head bs i j part → begins_part (byte bs i) ≡ true
  head_begins i j part (g.Head.parent s e) = ap begins_part s
  head_begins i j part (g.Head.type p n) = type_part (byte bs i) (type_first bs i (ap (begins_name bs) (sym p) ∙ n.0))
  head_begins i j part (g.Head.any p s) = type_part (byte bs i) (any_first bs i (ap (byte bs) (sym p) ∙ s))

  -- they go forward
  pub simple_further : (i j : ℕ) (part : Part) → Simple inner bs i j part → i < j
  simple_further i j part (g.Simple.class s n) = let on = name_forward bs (i + 1) in let e = n.1 in omega arith
  simple_further i j part (g.Simple.id s n) = let on = name_forward bs (i + 1) in let e = n.1 in omega arith
  simple_further i j part (g.Simple.placeholder s n) = let on = name_forward bs (i + 1) in let e = n.1 in omega arith
  simple_further i j part (g.Simple.attribute s e) = attribute_further bs i j e
  simple_further i j part (g.Simple.pseudo s n e) = let c = colons_forward bs i in let on = name_forward bs (colons_end bs i) in let m = n.1 in omega arith
  simple_further i j part (g.Simple.pseudo_of {j = m} {k} {list} s n o takes within close) =
      let c = colons_forward bs i in let on = name_forward bs (colons_end bs i) in let e = n.1 in
      let f = fits.forward (m + 1) k list within in omega arith
  simple_further i j part (g.Simple.pseudo_with {j = m} {k} s n o takes stop close lt) =
      let c = colons_forward bs i in let on = name_forward bs (colons_end bs i) in let e = n.1 in
      let f = white_forward bs (m + 1) in omega arith

  pub head_further : (i j : ℕ) (part : Part) → Head bs i j part → i < j
  head_further i j part (g.Head.parent s e) = let on = name_forward bs (i + 1) in omega arith
  head_further i j part (g.Head.type {k} p n) = let a = prefix_forward bs i in let b = name_further bs k n.0 in let e = n.1 in omega arith
  head_further i j part (g.Head.any {k} p s) = let a = prefix_forward bs i in omega arith

  -- what the reader finds, the grammar has
  pub data Found (before : Before) (i j : ℕ) (part : Part) : Type 0 where
    found_simple : Simple inner bs i j part → Found before i j part
    found_head : Head bs i j part → is_simple before ≡ false → Found before i j part

  found_as : (before : Before) (i j : ℕ) {p q : Part} → p ≡ q → Simple inner bs i j p → Found before i j q
  found_as before i j e s = found_simple (subst (Simple inner bs i j) e s)

  head_as : (before : Before) (i j : ℕ) {p q : Part} → is_simple before ≡ false → p ≡ q → Head bs i j p → Found before i j q
  head_as before i j f e h = found_head (subst (Head bs i j) e h) f

  attribute_told : (i j : ℕ) (part : Part) (o : Option ℕ) → attribute_end bs i ≡ o → attribute_by bs i o ≡ Some (part, j)
      → (attribute_end bs i ≡ Some j) × (parts.Closed (piece bs i j) ≡ part)
  attribute_told i j part None e f = absurd (cc)
  attribute_told i j part (Some k) e f =
      let same = same_second f in
      (e ∙ ap (λ (x : ℕ). Some x) same, ap (λ (x : ℕ). parts.Closed (piece bs i x)) (sym same) ∙ same_first f)

  closed_told : (before : Before) (i m j : ℕ) (part : Part) (o : Option (List (List Part) × ℕ)) → byte bs i ≡ sign ":" → Name bs (colons_end bs i) m → byte bs m ≡ sign "("
      → takes_selectors (pseudo_name bs i m) ≡ true → deeper (m + 1) ≡ o → closed_by bs (pseudo_name bs i m) o ≡ Some (part, j) → Found before i j part
  unfolding closed_by
  closed_told before i m j part None s n p takes e f = absurd (cc)
  closed_told before i m j part (Some x) s n p takes e f =
      split (byte bs x.1 == sign ")") (Some (parts.Pseudo (pseudo_name bs i m) x.0, x.1 + 1)) None (Some (part, j))
      (λ close h. subst (λ (k : ℕ). Found before i k part) (same_second h)
      (found_as before i (x.1 + 1) (same_first h) (g.Simple.pseudo_of s n p takes (fits.sound (m + 1) x.1 x.0 e) (equal (byte bs x.1) (sign ")") close))))
      (λ close h. absurd (cc)) f

  raw_told : (before : Before) (i m j : ℕ) (part : Part) (o : Option ℕ) → byte bs i ≡ sign ":" → Name bs (colons_end bs i) m → byte bs m ≡ sign "("
      → takes_selectors (pseudo_name bs i m) ≡ false → stop_at stops.Argument bs (m + 1) ≡ o → raw_by bs (pseudo_name bs i m) (m + 1) o ≡ Some (part, j) → Found before i j part
  unfolding raw_by
  raw_told before i m j part None s n p takes e f = absurd (cc)
  raw_told before i m j part (Some k) s n p takes e f =
      split ((byte bs k == sign ")") && nat_lt (white bs (m + 1)) k) (Some (parts.Closed (with_argument (pseudo_name bs i m) (argument_text bs (m + 1) k)), k + 1)) None (Some (part, j))
      (λ close h. subst (λ (x : ℕ). Found before i x part) (same_second h)
      (found_as before i (k + 1) (same_first h) (g.Simple.pseudo_with s n p takes e (equal (byte bs k) (sign ")") (and_left (byte bs k == sign ")") _ close))
      (let lt = and_right (byte bs k == sign ")") _ close in grind (arith, nat_tests)))))
      (λ close h. absurd (cc)) f

  argument_told : (before : Before) (i m j : ℕ) (part : Part) → byte bs i ≡ sign ":" → Name bs (colons_end bs i) m → byte bs m ≡ sign "("
      → argument_at deeper bs (pseudo_name bs i m) (m + 1) ≡ Some (part, j) → Found before i j part
  unfolding argument_at
  argument_told before i m j part s n p e =
      split (takes_selectors (pseudo_name bs i m)) (closed_by bs (pseudo_name bs i m) (deeper (m + 1))) (raw_at bs (pseudo_name bs i m) (m + 1)) (Some (part, j))
      (λ takes f. closed_told before i m j part (deeper (m + 1)) s n p takes refl f)
      (λ takes f. raw_told before i m j part (stop_at stops.Argument bs (m + 1)) s n p takes refl f) e

  behind_told : (before : Before) (i m j : ℕ) (part : Part) → byte bs i ≡ sign ":" → Name bs (colons_end bs i) m
      → pseudo_behind deeper bs (pseudo_name bs i m) m ≡ Some (part, j) → Found before i j part
  unfolding pseudo_behind
  behind_told before i m j part s n e =
      split (byte bs m == sign "(") (argument_at deeper bs (pseudo_name bs i m) (m + 1)) (Some (parts.Named (pseudo_name bs i m), m)) (Some (part, j))
      (λ p f. argument_told before i m j part s n (equal (byte bs m) (sign "(") p) f)
      (λ p f. subst (λ (x : ℕ). Found before i x part) (same_second f) (found_as before i m (same_first f) (g.Simple.pseudo s n p))) e

  pseudo_told : (before : Before) (i j : ℕ) (part : Part) → byte bs i ≡ sign ":" → pseudo_at deeper bs i ≡ Some (part, j) → Found before i j part
  unfolding pseudo_at
  pseudo_told before i j part s e =
      split (begins_name bs (colons_end bs i)) (pseudo_behind deeper bs (pseudo_name bs i (name_end bs (colons_end bs i))) (name_end bs (colons_end bs i))) None (Some (part, j))
      (λ m f. behind_told before i (name_end bs (colons_end bs i)) j part s (m, refl) f) (λ m f. absurd (cc)) e

  parent_told : (before : Before) (i j : ℕ) (part : Part) → byte bs i ≡ sign "&" → is_simple before ≡ false → parent_at bs i ≡ Some (part, j) → Found before i j part
  unfolding parent_at
  parent_told before i j part s f e =
      subst (λ (x : ℕ). Found before i x part) (same_second e) (head_as before i (name_end bs (i + 1)) f (same_first e) (g.Head.parent s refl))

  type_told : (before : Before) (i j : ℕ) (part : Part) → is_simple before ≡ false → type_at bs i ≡ Some (part, j) → Found before i j part
  unfolding type_behind
  type_told before i j part f e =
      split (byte bs (prefix_end bs i) == sign "*") (Some (parts.Closed (piece bs i (prefix_end bs i + 1)), prefix_end bs i + 1)) (as_part parts.Named (text_at bs i (prefix_end bs i))) (Some (part, j))
      (λ s h. subst (λ (x : ℕ). Found before i x part) (same_second h)
      (head_as before i (prefix_end bs i + 1) f (same_first h) (g.Head.any refl (equal (byte bs (prefix_end bs i)) (sign "*") s))))
      (λ s h. let told = text_told parts.Named i (prefix_end bs i) j part h in head_as before i j f told.is (g.Head.type refl told.name)) e

  head_told : (before : Before) (i j : ℕ) (part : Part) → head_at bs before i ≡ Some (part, j) → Found before i j part
  unfolding head_at
  head_told before i j part e =
      split (is_simple before) None _ (Some (part, j)) (λ b f. absurd (cc))
      (λ b f. split (byte bs i == sign "&") (parent_at bs i) (type_at bs i) (Some (part, j))
      (λ s h. parent_told before i j part (equal (byte bs i) (sign "&") s) b h) (λ s h. type_told before i j part b h) f) e

  class_told : (before : Before) (i j : ℕ) (part : Part) (dot : Bool) → (byte bs i == sign ".") ≡ dot → (dot || (byte bs i == sign "#")) ≡ true
      → class_at bs i ≡ Some (part, j) → Found before i j part
  class_told before i j part true s t e = let told = text_told parts.Named i (i + 1) j part e in found_as before i j told.is (g.Simple.class (equal (byte bs i) (sign ".") s) told.name)
  class_told before i j part false s t e = let told = text_told parts.Named i (i + 1) j part e in found_as before i j told.is (g.Simple.id (equal (byte bs i) (sign "#") t) told.name)

  pub part_told : (before : Before) (i j : ℕ) (part : Part) → simple_at deeper bs before i ≡ Some (part, j) → Found before i j part
  unfolding simple_at
  part_told before i j part e =
      split ((byte bs i == sign ".") || (byte bs i == sign "#")) (class_at bs i) _ (Some (part, j)) (λ s f. class_told before i j part (byte bs i == sign ".") refl s f)
      (λ _ r. split (byte bs i == sign "%") (placeholder_at bs i) _ (Some (part, j))
      (λ s f. let told = text_told parts.Placeholder i (i + 1) j part f in found_as before i j told.is (g.Simple.placeholder (equal (byte bs i) (sign "%") s) told.name))
      (λ _ r. split (byte bs i == sign "[") (attribute_at bs i) _ (Some (part, j))
      (λ s f. let told = attribute_told i j part (attribute_end bs i) refl f in found_as before i j told.1 (g.Simple.attribute (equal (byte bs i) (sign "[") s) told.0))
      (λ _ r. split (byte bs i == sign ":") (pseudo_at deeper bs i) (head_at bs before i) (Some (part, j))
      (λ s f. pseudo_told before i j part (equal (byte bs i) (sign ":") s) f) (λ _ f. head_told before i j part f) r) r) r) e

  -- one turn of the reader
  turn_part : (before : Before) (i j : ℕ) (part : Part) → begins_part (byte bs (white bs i)) ≡ true → (nat_lt i (white bs i) && is_simple before) ≡ false
      → simple_at deeper bs before (white bs i) ≡ Some (part, j) → turn_at deeper bs before i ≡ Some (turns.Takes part befores.Simple j)
  unfolding spaced_turn plain_turn
  turn_part before i j part first e f =
      if_false (ends_complex (byte bs (white bs i))) _ _ (not_end (byte bs (white bs i)) first)
      ∙ ap (joined_turn deeper bs before (nat_lt i (white bs i)) (white bs i)) (not_sign (byte bs (white bs i)) first)
      ∙ if_false (nat_lt i (white bs i) && is_simple before) _ _ e ∙ ap simple_turn f

  turn_space : (i : ℕ) → begins_part (byte bs (white bs i)) ≡ true → i < white bs i
      → turn_at deeper bs befores.Simple i ≡ Some (turns.Takes (parts.Combinator combinators.Descendant) befores.Combinator (white bs i))
  unfolding spaced_turn plain_turn
  turn_space i first lt =
      if_false (ends_complex (byte bs (white bs i))) _ _ (not_end (byte bs (white bs i)) first)
      ∙ ap (joined_turn deeper bs befores.Simple (nat_lt i (white bs i)) (white bs i)) (not_sign (byte bs (white bs i)) first)
      ∙ if_true (nat_lt i (white bs i) && true) _ _ (let e : nat_lt i (white bs i) ≡ true = grind (arith, nat_tests) in rw e refl)

  turn_sign : (before : Before) (i : ℕ) (c : Combinator) → combinator_of (byte bs (white bs i)) ≡ Some c → is_joined before ≡ false
      → turn_at deeper bs before i ≡ Some (turns.Takes (parts.Combinator c) befores.Combinator (white bs i + 1))
  unfolding spaced_turn
  turn_sign before i c e f =
      if_false (ends_complex (byte bs (white bs i))) _ _ (sign_not_end (byte bs (white bs i)) c e)
      ∙ ap (joined_turn deeper bs before (nat_lt i (white bs i)) (white bs i)) e
      ∙ if_false (is_joined before) None _ f

  turn_end : (i j : ℕ) → Ends bs i j → turn_at deeper bs befores.Simple i ≡ Some (turns.Stops j)
  unfolding spaced_turn
  turn_end i j e =
      if_true (ends_complex (byte bs (white bs i))) _ _ (ap (λ (k : ℕ). ends_complex (byte bs k)) (sym e.0) ∙ e.1)
      ∙ ap (λ (k : ℕ). Some (turns.Stops k)) (sym e.0)

  -- the reader goes on to the end of a complex selector, however many turns it still may take
  goes_end : (i j : ℕ) → Ends bs i j → (n : ℕ) (done : List Part) → length bs - i < n → complex_from deeper bs n befores.Simple done i ≡ Some (done ++ [], j)
  goes_end i j e n done enough =
      complex_stops deeper bs n befores.Simple done i j (omega arith) (turn_end i j e) ∙ ap (λ (x : List Part). Some (x, j)) (sym (append-nil done))

  goes_on : (before behind : Before) (i k j : ℕ) (part : Part) (list : List Part) → turn_at deeper bs before i ≡ Some (turns.Takes part behind k) → i < length bs → i < k
      → ((n : ℕ) (done : List Part) → length bs - k < n → complex_from deeper bs n behind done k ≡ Some (done ++ list, j))
      → (n : ℕ) (done : List Part) → length bs - i < n → complex_from deeper bs n before done i ≡ Some (done ++ part ∷ list, j)
  goes_on before behind i k j part list e within on rest n done enough =
      complex_takes deeper bs n before done i part behind k (omega arith) e
      ∙ rest (n - 1) (done ++ part ∷ []) (omega arith)
      ∙ ap (λ (x : List Part). Some (x, j)) (append_assoc done (part ∷ []) list)

  within_part : (i : ℕ) → begins_part (byte bs i) ≡ true → i < length bs
  within_part i first = stands bs i begins_part refl first

  no_space : (i : ℕ) → begins_part (byte bs i) ≡ true → white bs i ≡ i
  no_space i first = white_none bs i (not_white (byte bs i) first)

  goes_simples : (i k j : ℕ) (list rest : List Part) → Simples inner bs i k list
      → ((n : ℕ) (done : List Part) → length bs - k < n → complex_from deeper bs n befores.Simple done k ≡ Some (done ++ rest, j))
      → (n : ℕ) (done : List Part) → length bs - i < n → complex_from deeper bs n befores.Simple done i ≡ Some (done ++ (list ++ rest), j)
  goes_simples i k j list rest g.Simples.none on = on
  goes_simples i k j list rest (g.Simples.more {k = m} {part} {list = more} s ss) on =
      let first = simple_begins i m part s in
      let here = no_space i first in
      goes_on befores.Simple befores.Simple i m j part (more ++ rest)
      (turn_part befores.Simple i m part (ap (λ (x : ℕ). begins_part (byte bs x)) here ∙ first)
      (ap (λ (x : ℕ). nat_lt i x && true) here ∙ self i)
      (ap (simple_at deeper bs befores.Simple) here ∙ simple_found befores.Simple i m part s))
      (within_part i first) (simple_further i m part s) (goes_simples m k j more rest ss on)
    where
      self : (i : ℕ) → (nat_lt i i && true) ≡ false
      self i = grind (arith, nat_tests)

  -- from before a compound on, where white space is skipped
  goes_first : (before : Before) (i l m j : ℕ) (part : Part) (list : List Part) → is_simple before ≡ false → white bs i ≡ l → begins_part (byte bs l) ≡ true
      → l < m → simple_at deeper bs before l ≡ Some (part, m)
      → ((n : ℕ) (done : List Part) → length bs - m < n → complex_from deeper bs n befores.Simple done m ≡ Some (done ++ list, j))
      → (n : ℕ) (done : List Part) → length bs - i < n → complex_from deeper bs n before done i ≡ Some (done ++ part ∷ list, j)
  goes_first before i l m j part list f here first lt e on =
      let w = white_forward bs i in
      let within = within_part l first in
      goes_on before befores.Simple i m j part list
      (turn_part before i m part (ap (λ (x : ℕ). begins_part (byte bs x)) here ∙ first) (no_simple (nat_lt i (white bs i)) (is_simple before) f)
      (ap (simple_at deeper bs before) here ∙ e))
      (omega arith) (omega arith) on
    where
      no_simple : (a b : Bool) → b ≡ false → (a && b) ≡ false
      no_simple true b h = h
      no_simple false b h = refl

  goes_compound : (before : Before) (i l m j : ℕ) (list rest : List Part) → is_simple before ≡ false → white bs i ≡ l → Compound inner bs l m list
      → ((n : ℕ) (done : List Part) → length bs - m < n → complex_from deeper bs n befores.Simple done m ≡ Some (done ++ rest, j))
      → (n : ℕ) (done : List Part) → length bs - i < n → complex_from deeper bs n before done i ≡ Some (done ++ (list ++ rest), j)
  goes_compound before i l m j list rest f here (g.Compound.headed {k} {part} {list = more} h ss) on =
      goes_first before i l k j part (more ++ rest) f here (head_begins l k part h) (head_further l k part h) (head_found before l k part h f)
      (goes_simples k m j more rest ss on)
  goes_compound before i l m j list rest f here (g.Compound.plain {k} {part} {list = more} s ss) on =
      goes_first before i l k j part (more ++ rest) f here (simple_begins l k part s) (simple_further l k part s) (simple_found before l k part s)
      (goes_simples k m j more rest ss on)

  compound_begins : (i j : ℕ) (list : List Part) → Compound inner bs i j list → begins_part (byte bs i) ≡ true
  compound_begins i j list (g.Compound.headed {k} {part} h ss) = head_begins i k part h
  compound_begins i j list (g.Compound.plain {k} {part} s ss) = simple_begins i k part s

  pub compounds_begin : (i j : ℕ) (list : List Part) → Compounds inner bs i j list → begins_part (byte bs i) ≡ true
  compounds_begin i j list (g.Compounds.one c) = compound_begins i j list c
  compounds_begin i j list (g.Compounds.joined {k} {first} c joint rest) = compound_begins i k first c

  pub sign_stands : (i : ℕ) (c : Combinator) → combinator_of (byte bs i) ≡ Some c → i < length bs
  sign_stands i c e = stands bs i (λ b. not (ends_complex b)) refl (ap not (sign_not_end (byte bs i) c e))

  goes_compounds : (before : Before) (i l k j : ℕ) (list : List Part) → is_simple before ≡ false → white bs i ≡ l → Compounds inner bs l k list → Ends bs k j
      → (n : ℕ) (done : List Part) → length bs - i < n → complex_from deeper bs n before done i ≡ Some (done ++ list, j)
  goes_compounds before i l k j list f here (g.Compounds.one c) ends n done enough =
      goes_compound before i l k j list [] f here c (goes_end k j ends) n done enough ∙ ap (λ (x : List Part). Some (done ++ x, j)) (append-nil list)
  goes_compounds before i l k j list f here (g.Compounds.joined {k = m} {l = p} {first} {rest} {combinator} c (g.Joint.signed e) more) ends n done enough =
      let w = white_forward bs m in
      let within = sign_stands (white bs m) combinator e in
      goes_compound before i l m j first (parts.Combinator combinator ∷ rest) f here c
      (goes_on befores.Simple befores.Combinator m (white bs m + 1) j (parts.Combinator combinator) rest (turn_sign befores.Simple m combinator e refl) (omega arith) (omega arith)
      (goes_compounds befores.Combinator (white bs m + 1) p k j rest refl refl more ends)) n done enough
  goes_compounds before i l k j list f here (g.Compounds.joined {k = m} {l = p} {first} {rest} c (g.Joint.spaced lt) more) ends n done enough =
      let next = compounds_begin (white bs m) k rest more in
      let within = within_part (white bs m) next in
      goes_compound before i l m j first (parts.Combinator combinators.Descendant ∷ rest) f here c
      (goes_on befores.Simple befores.Combinator m (white bs m) j (parts.Combinator combinators.Descendant) rest (turn_space m next lt) (omega arith) lt
      (goes_compounds befores.Combinator (white bs m) (white bs m) k j rest refl (white_twice bs m) more ends)) n done enough

  pub complex_found : (i j : ℕ) (list : List Part) → IsComplex inner bs i j list → complex_at deeper bs i ≡ Some (list, j)
  unfolding complex_at
  complex_found i j list (g.IsComplex.plain {k} c ends) = goes_compounds befores.Nothing i (white bs i) k j list refl refl c ends (length bs + 1) [] (omega arith)
  complex_found i j list (g.IsComplex.led {k} {list = rest} {combinator} e c ends) =
      let w = white_forward bs i in
      let within = sign_stands (white bs i) combinator e in
      goes_on befores.Nothing befores.Combinator i (white bs i + 1) j (parts.Combinator combinator) rest (turn_sign befores.Nothing i combinator e refl) (omega arith) (omega arith)
      (goes_compounds befores.Combinator (white bs i + 1) (white bs (white bs i + 1)) k j rest refl refl c ends) (length bs + 1) [] (omega arith)
