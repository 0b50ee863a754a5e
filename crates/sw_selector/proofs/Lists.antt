-- What the reader finds in lists of selectors, the grammar derives, and the other way round.
use Rattle.std.proofs.Common.{◌≡◌, ℕ, zero, suc, ◌+◌, ◌-◌, ◌≤◌, ◌<◌, Bool, true, false, ◌&&◌, ◌||◌, List, [], ◌∷◌, ◌++◌, length, refl, sym, ◌∙◌, ap, subst, arith, Option, Some, None, append_assoc, append-nil}
use Rattle.std.specs.Prelude.{◌==◌, nat_lt, if◌then◌else◌}
use Rattle.std.proofs.lemmas.Bool.Decides.{nat_tests}
use Rattle.sw_text_scan.specs.declared.runs.Class.TheVariants as classes
use Rattle.sw_text_scan.specs.declared.signs.TheConstants.{END}
use Rattle.sw_text_scan.specs.Bytes.{sign, byte, is_white}
use Rattle.sw_text_scan.proofs.Progress.{run_on}
use Rattle.sw_selector.specs.declared.selector.Part.{Part}
use Rattle.sw_selector.specs.declared.selector.Part.TheVariants as parts
use Rattle.sw_selector.specs.declared.selector.Combinator.{Combinator}
use Rattle.sw_selector.specs.declared.selector.Combinator.TheVariants as combinators
use Rattle.sw_selector.specs.declared.turn.Before.{Before}
use Rattle.sw_selector.specs.declared.turn.Before.TheVariants as befores
use Rattle.sw_selector.specs.declared.turn.Turn.{Turn}
use Rattle.sw_selector.specs.declared.turn.Turn.TheVariants as turns
use Rattle.sw_text_locality.specs.Names.{white}
use Rattle.sw_selector.specs.Reading.{Lists, is_simple, is_joined, simple_at, combinator_of, ends_complex, simple_turn, plain_turn, joined_turn, last_turn, spaced_turn, turn_at, complex_by, complex_from, complex_at, list_by, list_from, list_at, selectors_in, commas_end, whole_by, whole_from, complexes_of}
use Rattle.sw_selector.specs.Grammar as g
use Rattle.sw_selector.specs.Grammar.{Inner, Simple, Head, Simples, Compound, Joint, Compounds, Ends, IsComplex, Argument, Listed, Arguments, IsSelectorList}
use Rattle.sw_selector.proofs.Loops.{list_ends, list_goes, whole_ends, whole_goes}
use Rattle.sw_selector.proofs.Lexical.{begins_part, stands}
use Rattle.sw_text_locality.proofs.Lexical.{equal, split, white_forward, white_none, white_twice}
use Rattle.sw_selector.proofs.Derives.{Fits, Found, found_simple, found_head, same_first, same_second, part_told, compounds_begin, simple_further, head_further, complex_found}

module _ (bs : List ℕ) (deeper : Lists) (inner : Inner) (fits : Fits bs deeper inner) where
  -- a turn of the reader
  data Step (before : Before) (i : ℕ) : Part → Before → ℕ → Type 0 where
    sign_step : {combinator : Combinator} → combinator_of (byte bs (white bs i)) ≡ Some combinator → is_joined before ≡ false
        → Step before i (parts.Combinator combinator) befores.Combinator (white bs i + 1)
    space_step : is_simple before ≡ true → i < white bs i → Step before i (parts.Combinator combinators.Descendant) befores.Combinator (white bs i)
    simple_step : {part : Part} {k : ℕ} → (nat_lt i (white bs i) && is_simple before) ≡ false → Simple inner bs (white bs i) k part → Step before i part befores.Simple k
    head_step : {part : Part} {k : ℕ} → is_simple before ≡ false → Head bs (white bs i) k part → Step before i part befores.Simple k

  data TurnIs (before : Before) (i : ℕ) : Turn → Type 0 where
    stop : {k : ℕ} → is_simple before ≡ true → Ends bs i k → TurnIs before i (turns.Stops k)
    take : {part : Part} {behind : Before} {k : ℕ} → Step before i part behind k → TurnIs before i (turns.Takes part behind k)

  step_of : (before : Before) (i k : ℕ) (part : Part) → (nat_lt i (white bs i) && is_simple before) ≡ false → Found bs deeper inner fits before (white bs i) k part → Step before i part befores.Simple k
  step_of before i k part e (found_simple s) = simple_step e s
  step_of before i k part e (found_head h f) = head_step f h

  plain_told : (before : Before) (i : ℕ) (o : Option (Part × ℕ)) (t : Turn) → (nat_lt i (white bs i) && is_simple before) ≡ false
      → simple_at deeper bs before (white bs i) ≡ o → simple_turn o ≡ Some t → TurnIs before i t
  plain_told before i None t e f h = absurd (cc)
  plain_told before i (Some x) t e f h =
      let same : turns.Takes x.0 befores.Simple x.1 ≡ t = cc in
      subst (TurnIs before i) same (take (step_of before i x.1 x.0 e (part_told bs deeper inner fits before (white bs i) x.1 x.0 f)))

  joined_told : (before : Before) (i : ℕ) (o : Option Combinator) (t : Turn) → combinator_of (byte bs (white bs i)) ≡ o
      → joined_turn deeper bs before (nat_lt i (white bs i)) (white bs i) o ≡ Some t → TurnIs before i t
  unfolding plain_turn
  joined_told before i (Some combinator) t e h =
      split (is_joined before) None (Some (turns.Takes (parts.Combinator combinator) befores.Combinator (white bs i + 1))) (Some t)
      (λ j f. absurd (cc))
      (λ j f. let same : turns.Takes (parts.Combinator combinator) befores.Combinator (white bs i + 1) ≡ t = cc in subst (TurnIs before i) same (take (sign_step e j))) h
  joined_told before i None t e h =
      split (nat_lt i (white bs i) && is_simple before) (Some (turns.Takes (parts.Combinator combinators.Descendant) befores.Combinator (white bs i)))
      (simple_turn (simple_at deeper bs before (white bs i))) (Some t)
      (λ s f. let same : turns.Takes (parts.Combinator combinators.Descendant) befores.Combinator (white bs i) ≡ t = cc in
      subst (TurnIs before i) same (take (space_step (right (nat_lt i (white bs i)) (is_simple before) s) (let lt = left (nat_lt i (white bs i)) (is_simple before) s in grind (arith, nat_tests)))))
      (λ s f. plain_told before i (simple_at deeper bs before (white bs i)) t s refl f) h
    where
      left : (a b : Bool) → (a && b) ≡ true → a ≡ true
      left true b x = refl
      left false b x = x

      right : (a b : Bool) → (a && b) ≡ true → b ≡ true
      right true b x = x
      right false b x = absurd (cc)

  turn_told : (before : Before) (i : ℕ) (t : Turn) → turn_at deeper bs before i ≡ Some t → TurnIs before i t
  unfolding spaced_turn
  turn_told before i t h =
      split (ends_complex (byte bs (white bs i))) (last_turn before (white bs i)) _ (Some t)
      (λ e f. split (is_simple before) (Some (turns.Stops (white bs i))) None (Some t)
      (λ s x. let same : turns.Stops (white bs i) ≡ t = cc in subst (TurnIs before i) same (stop s (refl, e))) (λ s x. absurd (cc)) f)
      (λ e f. joined_told before i (combinator_of (byte bs (white bs i))) t refl f) h

  -- what is left of a complex selector behind a simple one
  data Tail : ℕ → ℕ → List Part → Type 0 where
    at_end : {i j : ℕ} → Ends bs i j → Tail i j []
    behind : {i k j : ℕ} {part : Part} {list : List Part} → Simple inner bs i k part → Tail k j list → Tail i j (part ∷ list)
    joining : {i l m j : ℕ} {combinator : Combinator} {list : List Part} → Joint bs i l combinator → Compounds inner bs l m list → Ends bs m j
        → Tail i j (parts.Combinator combinator ∷ list)

  record Ending (i j : ℕ) (list : List Part) : Type 0 where
    place : ℕ
    compounds : Compounds inner bs i place list
    ends : Ends bs place j

  -- simple selectors that are read, and the rest
  with_tail : (i k l j : ℕ) (first : List Part) (list : List Part) → ((m : ℕ) (more : List Part) → Simples inner bs k m more → Compound inner bs i m (first ++ more))
      → Tail k j list → Ending i j (first ++ list)
  with_tail i k l j first list make (at_end e) = record { place = k; compounds = g.Compounds.one (make k [] g.Simples.none); ends = e }
  with_tail i k l j first list make (joining {combinator} {list = rest} joint c e) =
      record { place = _; compounds = subst (Compounds inner bs i _) (ap (λ (x : List Part). x ++ parts.Combinator combinator ∷ rest) (append-nil first)) (g.Compounds.joined (make k [] g.Simples.none) joint c); ends = e }
  with_tail i k l j first list make (behind {k = m} {part} {list = rest} s tail) =
      let on = with_tail i m l j (first ++ part ∷ []) rest
      (λ n more ss. subst (Compound inner bs i n) (sym (append_assoc first (part ∷ []) more)) (make n (part ∷ more) (g.Simples.more s ss))) tail in
      record { place = on.place; compounds = subst (Compounds inner bs i on.place) (append_assoc first (part ∷ []) rest) on.compounds; ends = on.ends }

  after_simple : (i k j : ℕ) (part : Part) (list : List Part) → Simple inner bs i k part → Tail k j list → Ending i j (part ∷ list)
  after_simple i k j part list s tail = with_tail i k k j (part ∷ []) list (λ m more ss. g.Compound.plain s ss) tail

  after_head : (i k j : ℕ) (part : Part) (list : List Part) → Head bs i k part → Tail k j list → Ending i j (part ∷ list)
  after_head i k j part list h tail = with_tail i k k j (part ∷ []) list (λ m more ss. g.Compound.headed h ss) tail

  -- what a complex selector is from a place in it on
  abbrev Rest : Before → ℕ → ℕ → List Part → Type 0
  Rest befores.Nothing i j list = IsComplex inner bs i j list
  Rest befores.Combinator i j list = Ending (white bs i) j list
  Rest befores.Simple i j list = Tail i j list

  whole_plain : (i j : ℕ) (list : List Part) → Ending (white bs i) j list → IsComplex inner bs i j list
  whole_plain i j list e = g.IsComplex.plain e.compounds e.ends

  stepped : (before behind_ : Before) (i k j : ℕ) (part : Part) (list : List Part) → Step before i part behind_ k → Rest behind_ k j list → Rest before i j (part ∷ list)
  stepped befores.Nothing behind_ i k j part list (sign_step e f) rest = g.IsComplex.led e rest.compounds rest.ends
  stepped befores.Nothing behind_ i k j part list (space_step s lt) rest = absurd (cc)
  stepped befores.Nothing behind_ i k j part list (simple_step e s) rest = whole_plain i j _ (after_simple (white bs i) k j _ list s rest)
  stepped befores.Nothing behind_ i k j part list (head_step e h) rest = whole_plain i j _ (after_head (white bs i) k j _ list h rest)
  stepped befores.Combinator behind_ i k j part list (sign_step e f) rest = absurd (cc)
  stepped befores.Combinator behind_ i k j part list (space_step s lt) rest = absurd (cc)
  stepped befores.Combinator behind_ i k j part list (simple_step e s) rest = after_simple (white bs i) k j _ list s rest
  stepped befores.Combinator behind_ i k j part list (head_step e h) rest = after_head (white bs i) k j _ list h rest
  stepped befores.Simple behind_ i k j part list (sign_step e f) rest = joining (g.Joint.signed e) rest.compounds rest.ends
  stepped befores.Simple behind_ i k j part list (space_step s lt) rest =
      joining (g.Joint.spaced lt) (subst (λ (x : ℕ). Compounds inner bs x rest.place list) (white_twice bs i) rest.compounds) rest.ends
  stepped befores.Simple behind_ i k j part list (simple_step e s) rest =
      let here : white bs i ≡ i = let w = white_forward bs i in let no : nat_lt i (white bs i) ≡ false = left (nat_lt i (white bs i)) e in grind (arith, nat_tests) in
      behind (subst (λ (x : ℕ). Simple inner bs x k part) here s) rest
    where
      left : (a : Bool) → (a && true) ≡ false → a ≡ false
      left true x = x
      left false x = refl
  stepped befores.Simple behind_ i k j part list (head_step e h) rest = absurd (cc)

  record Read (before : Before) (i j : ℕ) (done out : List Part) : Type 0 where
    list : List Part
    is : done ++ list ≡ out
    rest : Rest before i j list

  complex_told_from : (n : ℕ) (before : Before) (done out : List Part) (i j : ℕ) → complex_from deeper bs n before done i ≡ Some (out, j) → Read before i j done out
  complex_told_from zero before done out i j e = absurd (cc)
  complex_told_from (suc n) before done out i j e =
      go (turn_at deeper bs before i) (λ t f. turn_told before i t f) (λ behind_ done k f. complex_told_from n behind_ done out k j f) e
    where
      go : (o : Option Turn) → ((t : Turn) → o ≡ Some t → TurnIs before i t)
          → ((behind_ : Before) (done : List Part) (k : ℕ) → complex_from deeper bs n behind_ done k ≡ Some (out, j) → Read behind_ k j done out)
          → complex_by (complex_from deeper bs n) done o ≡ Some (out, j) → Read before i j done out
      go None is ih f = absurd (cc)
      go (Some (turns.Stops k)) is ih f = stopped before (is (turns.Stops k) refl)
        where
          stopped : (before : Before) → TurnIs before i (turns.Stops k) → Read before i j done out
          stopped befores.Simple (stop s ends) =
              record { list = []; is = append-nil done ∙ same_first f; rest = subst (λ (x : ℕ). Tail i x []) (same_second f) (at_end ends) }
          stopped befores.Nothing (stop s ends) = absurd (cc)
          stopped befores.Combinator (stop s ends) = absurd (cc)
      go (Some (turns.Takes part behind_ k)) is ih f = taken (is (turns.Takes part behind_ k) refl)
        where
          taken : TurnIs before i (turns.Takes part behind_ k) → Read before i j done out
          taken (take step) =
              let on = ih behind_ (done ++ part ∷ []) k f in
              record { list = part ∷ on.list; is = sym (append_assoc done (part ∷ []) on.list) ∙ on.is; rest = stepped before behind_ i k j part on.list step on.rest }

  pub complex_told : (i j : ℕ) (list : List Part) → complex_at deeper bs i ≡ Some (list, j) → IsComplex inner bs i j list
  unfolding complex_at
  complex_told i j list e = let on = complex_told_from (length bs + 1) befores.Nothing [] list i j e in subst (IsComplex inner bs i j) on.is on.rest

  -- they go forward
  simples_forward : (i j : ℕ) (list : List Part) → Simples inner bs i j list → i ≤ j
  simples_forward i j list g.Simples.none = omega arith
  simples_forward i j list (g.Simples.more {k} {part} {list = rest} s ss) =
      let a = simple_further bs deeper inner fits i k part s in let b = simples_forward k j rest ss in omega arith

  compound_forward : (i j : ℕ) (list : List Part) → Compound inner bs i j list → i ≤ j
  compound_forward i j list (g.Compound.headed {k} {part} {list = rest} h ss) =
      let a = head_further bs deeper inner fits i k part h in let b = simples_forward k j rest ss in omega arith
  compound_forward i j list (g.Compound.plain {k} {part} {list = rest} s ss) =
      let a = simple_further bs deeper inner fits i k part s in let b = simples_forward k j rest ss in omega arith

  joint_forward : (i j : ℕ) (combinator : Combinator) → Joint bs i j combinator → i ≤ j
  joint_forward i j combinator (g.Joint.signed e) = let a = white_forward bs i in let b = white_forward bs (white bs i + 1) in omega arith
  joint_forward i j combinator (g.Joint.spaced lt) = white_forward bs i

  compounds_forward : (i j : ℕ) (list : List Part) → Compounds inner bs i j list → i ≤ j
  compounds_forward i j list (g.Compounds.one c) = compound_forward i j list c
  compounds_forward i j list (g.Compounds.joined {k} {l} {first} {rest} {combinator} c joint more) =
      let a = compound_forward i k first c in let b = joint_forward k l combinator joint in let d = compounds_forward l j rest more in omega arith

  complex_forward : (i j : ℕ) (list : List Part) → IsComplex inner bs i j list → i ≤ j
  complex_forward i j list (g.IsComplex.plain {k} c ends) =
      let a = white_forward bs i in let b = compounds_forward (white bs i) k list c in let d = white_forward bs k in let e = ends.0 in omega arith
  complex_forward i j list (g.IsComplex.led {k} {list = rest} s c ends) =
      let a = white_forward bs i in let m = white_forward bs (white bs i + 1) in
      let b = compounds_forward (white bs (white bs i + 1)) k rest c in let d = white_forward bs k in let e = ends.0 in omega arith

  pub argument_forward : (i j : ℕ) (list : List (List Part)) → Argument inner bs i j list → i ≤ j
  argument_forward i j list (g.Argument.last {complex} c e) = complex_forward i j complex c
  argument_forward i j list (g.Argument.more {k} {complex} {list = rest} c e more) =
      let a = complex_forward i k complex c in let b = argument_forward (k + 1) j rest more in omega arith

  comma_stands : (k : ℕ) → byte bs k ≡ sign "," → k < length bs
  comma_stands k e = stands bs k (λ b. b == sign ",") refl (ap (λ (b : ℕ). b == sign ",") e)

  -- arguments
  argument_found_from : (i j : ℕ) (list : List (List Part)) → Argument inner bs i j list → (n : ℕ) (done : List (List Part)) → length bs - i < n
      → list_from deeper bs n done i ≡ Some (done ++ list, j)
  argument_found_from i j list (g.Argument.last {complex} c e) n done enough =
      list_ends deeper bs n done i complex j (omega arith) (complex_found bs deeper inner fits i j complex c) e
  argument_found_from i j list (g.Argument.more {k} {complex} {list = rest} c e more) n done enough =
      let on = complex_forward i k complex c in
      let within = comma_stands k e in
      list_goes deeper bs n done i complex k (omega arith) (complex_found bs deeper inner fits i k complex c) (ap (λ (b : ℕ). b == sign ",") e)
      ∙ argument_found_from (k + 1) j rest more (n - 1) (done ++ complex ∷ []) (omega arith)
      ∙ ap (λ (x : List (List Part)). Some (x, j)) (append_assoc done (complex ∷ []) rest)

  pub argument_found : (i j : ℕ) (list : List (List Part)) → Argument inner bs i j list → list_at deeper bs i ≡ Some (list, j)
  unfolding list_at
  argument_found i j list a = argument_found_from i j list a (length bs + 1) [] (omega arith)

  record ReadList (i j : ℕ) (done out : List (List Part)) : Type 0 where
    list : List (List Part)
    is : done ++ list ≡ out
    rest : Argument inner bs i j list

  argument_told_from : (n : ℕ) (done out : List (List Part)) (i j : ℕ) → list_from deeper bs n done i ≡ Some (out, j) → ReadList i j done out
  argument_told_from zero done out i j e = absurd (cc)
  argument_told_from (suc n) done out i j e =
      go (complex_at deeper bs i) (λ complex k f. complex_told i k complex f) (λ done k f. argument_told_from n done out k j f) e
    where
      go : (o : Option (List Part × ℕ)) → ((complex : List Part) (k : ℕ) → o ≡ Some (complex, k) → IsComplex inner bs i k complex)
          → ((done : List (List Part)) (k : ℕ) → list_from deeper bs n done k ≡ Some (out, j) → ReadList k j done out)
          → list_by (list_from deeper bs n) bs done o ≡ Some (out, j) → ReadList i j done out
      go None is ih f = absurd (cc)
      go (Some x) is ih f =
          split (byte bs x.1 == sign ",") (list_from deeper bs n (done ++ x.0 ∷ []) (x.1 + 1)) (Some (done ++ x.0 ∷ [], x.1)) (Some (out, j))
          (λ comma h. let on = ih (done ++ x.0 ∷ []) (x.1 + 1) h in
          record { list = x.0 ∷ on.list; is = sym (append_assoc done (x.0 ∷ []) on.list) ∙ on.is; rest = g.Argument.more (is x.0 x.1 refl) (equal (byte bs x.1) (sign ",") comma) on.rest })
          (λ comma h. record { list = x.0 ∷ []; is = same_first h; rest = subst (λ (k : ℕ). Argument inner bs i k (x.0 ∷ [])) (same_second h) (g.Argument.last (is x.0 x.1 refl) comma) }) f

  pub argument_told : (i j : ℕ) (list : List (List Part)) → list_at deeper bs i ≡ Some (list, j) → Argument inner bs i j list
  unfolding list_at
  argument_told i j list e = let on = argument_told_from (length bs + 1) [] list i j e in subst (Argument inner bs i j) on.is on.rest

  -- whole texts
  complex_inside : (i j : ℕ) (list : List Part) → IsComplex inner bs i j list → (byte bs i == END) ≡ false
  complex_inside i j list c = go (byte bs i == END) refl
    where
      first : (i j : ℕ) (list : List Part) → IsComplex inner bs i j list → byte bs (white bs i) ≡ END → ⊥
      first i j list (g.IsComplex.plain {k} c ends) e =
          let part = compounds_begin bs deeper inner fits (white bs i) k list c in
          let none : begins_part (byte bs (white bs i)) ≡ false = ap begins_part e in cc
      first i j list (g.IsComplex.led {combinator} s c ends) e =
          let none : combinator_of (byte bs (white bs i)) ≡ None = ap combinator_of e in
          let wrong : None ≡ Some combinator = sym none ∙ s in cc

      go : (t : Bool) → (byte bs i == END) ≡ t → t ≡ false
      go false e = refl
      go true e =
          let at : byte bs i ≡ END = equal (byte bs i) END e in
          let here = white_none bs i (ap is_white at) in
          absurd (first i j list c (ap (byte bs) here ∙ at))

  listed_inside : (i : ℕ) (list : List (List Part)) → Listed inner bs i list → (byte bs i == END) ≡ false
  listed_inside i list (g.Listed.last {j} {complex} c e) = complex_inside i j complex c
  listed_inside i list (g.Listed.more {j} {complex} c e more) = complex_inside i j complex c

  commas_further : (k : ℕ) → byte bs k ≡ sign "," → k < commas_end bs k
  commas_further k e = run_on bs classes.Commas k (taken (byte bs k) e)
    where
      taken : (b : ℕ) → b ≡ sign "," → k < (if is_white b || (b == sign ",") then k + 1 else k)
      taken b e = subst (λ (b : ℕ). k < (if is_white b || (b == sign ",") then k + 1 else k)) (sym e) (omega arith)

  listed_found_from : (i : ℕ) (list : List (List Part)) → Listed inner bs i list → (n : ℕ) (done : List (List Part)) → length bs - i < n
      → whole_from deeper bs n done i ≡ Some (done ++ list)
  listed_found_from i list (g.Listed.last {j} {complex} c e) n done enough =
      whole_ends deeper bs n done i complex j (omega arith) (complex_found bs deeper inner fits i j complex c) (ap (λ (b : ℕ). b == END) e)
  listed_found_from i list (g.Listed.more {j} {complex} {list = rest} c e more) n done enough =
      let on = complex_forward i j complex c in
      let within = comma_stands j e in
      let further = commas_further j e in
      whole_goes deeper bs n done i complex j (omega arith) (complex_found bs deeper inner fits i j complex c) (listed_inside (commas_end bs j) rest more) (ap (λ (b : ℕ). b == sign ",") e)
      ∙ listed_found_from (commas_end bs j) rest more (n - 1) (done ++ complex ∷ []) (omega arith)
      ∙ ap Some (append_assoc done (complex ∷ []) rest)

  pub listed_found : (list : List (List Part)) → Listed inner bs 0 list → whole_from deeper bs (length bs + 1) [] 0 ≡ Some list
  listed_found list l = listed_found_from 0 list l (length bs + 1) [] (omega arith)

  record ReadWhole (i : ℕ) (done out : List (List Part)) : Type 0 where
    list : List (List Part)
    is : done ++ list ≡ out
    rest : Listed inner bs i list

  listed_told_from : (n : ℕ) (done out : List (List Part)) (i : ℕ) → whole_from deeper bs n done i ≡ Some out → ReadWhole i done out
  listed_told_from zero done out i e = absurd (cc)
  listed_told_from (suc n) done out i e =
      go (complex_at deeper bs i) (λ complex k f. complex_told i k complex f) (λ done k f. listed_told_from n done out k f) e
    where
      some_is : {x y : List (List Part)} → Some x ≡ Some y → x ≡ y
      some_is e = cc

      go : (o : Option (List Part × ℕ)) → ((complex : List Part) (k : ℕ) → o ≡ Some (complex, k) → IsComplex inner bs i k complex)
          → ((done : List (List Part)) (k : ℕ) → whole_from deeper bs n done k ≡ Some out → ReadWhole k done out)
          → whole_by (whole_from deeper bs n) bs done o ≡ Some out → ReadWhole i done out
      go None is ih f = absurd (cc)
      go (Some x) is ih f =
          split (byte bs (commas_end bs x.1) == END) (Some (done ++ x.0 ∷ [])) _ (Some out)
          (λ end h. record { list = x.0 ∷ []; is = some_is h; rest = g.Listed.last (is x.0 x.1 refl) (equal (byte bs (commas_end bs x.1)) END end) })
          (λ end r. split (byte bs x.1 == sign ",") (whole_from deeper bs n (done ++ x.0 ∷ []) (commas_end bs x.1)) None (Some out)
          (λ comma h. let on = ih (done ++ x.0 ∷ []) (commas_end bs x.1) h in
          record { list = x.0 ∷ on.list; is = sym (append_assoc done (x.0 ∷ []) on.list) ∙ on.is; rest = g.Listed.more (is x.0 x.1 refl) (equal (byte bs x.1) (sign ",") comma) on.rest })
          (λ comma h. absurd (cc)) r) f

  pub listed_told : (list : List (List Part)) → whole_from deeper bs (length bs + 1) [] 0 ≡ Some list → Listed inner bs 0 list
  listed_told list e = let on = listed_told_from (length bs + 1) [] list 0 e in subst (Listed inner bs 0) on.is on.rest

-- with each number of levels
pub levels_fit : (bs : List ℕ) (levels : ℕ) → Fits bs (selectors_in bs levels) (Arguments bs levels)
levels_fit bs zero = record { sound = λ i j list e. absurd (cc); complete = λ i j list e. absurd e; forward = λ i j list e. absurd e }
levels_fit bs (suc levels) =
    let fits = levels_fit bs levels in
    record {
      sound = λ i j list e. argument_told bs (selectors_in bs levels) (Arguments bs levels) fits i j list e;
      complete = λ i j list a. argument_found bs (selectors_in bs levels) (Arguments bs levels) fits i j list a;
      forward = λ i j list a. argument_forward bs (selectors_in bs levels) (Arguments bs levels) fits i j list a;
    }

pub list_found : (levels : ℕ) (bs : List ℕ) (list : List (List Part)) → IsSelectorList levels bs list → complexes_of bs levels ≡ Some list
unfolding complexes_of
list_found levels bs list l = listed_found bs (selectors_in bs levels) (Arguments bs levels) (levels_fit bs levels) list l

pub list_told : (levels : ℕ) (bs : List ℕ) (list : List (List Part)) → complexes_of bs levels ≡ Some list → IsSelectorList levels bs list
unfolding complexes_of
list_told levels bs list e = listed_told bs (selectors_in bs levels) (Arguments bs levels) (levels_fit bs levels) list e
