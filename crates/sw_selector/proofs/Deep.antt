-- What is read, and what nesting gives, is never too deep.
use Rattle.std.proofs.Common.{◌≡◌, ℕ, zero, suc, ◌+◌, ◌-◌, ◌≤◌, max, Bool, true, false, ◌&&◌, ◌==◌, List, [], ◌∷◌, ◌++◌, length, map, take, refl, sym, ◌∙◌, ap, subst, arith, Some}
use Rattle.std.specs.Prelude.{slice_get}
use Rattle.std.specs.List.{flat_map}
use Rattle.std.proofs.lemmas.Bool.Decides.{nat_tests}
use Rattle.sw_text_scan.proofs.Progress.{either}
use Rattle.sw_selector.specs.declared.reader.TheConstants.{LEVELS}
use Rattle.sw_selector.specs.declared.selector.Combinator.{Combinator}
use Rattle.sw_selector.specs.declared.selector.Combinator.TheVariants as combinators
use Rattle.sw_selector.specs.declared.selector.Part.{Part, out-Part, roll-Part, roll-out-Part, out-roll-Part}
use Rattle.sw_selector.specs.declared.selector.Part.TheOpen.{Part-F}
use Rattle.sw_selector.specs.declared.selector.Part.TheVariants as parts
use Rattle.sw_selector.specs.Depth.{greatest_by, part_depth, complex_depth, list_depth}
use Rattle.sw_selector.specs.declared.holds.Sought.TheVariants as soughts
use Rattle.sw_selector.specs.Holds.{is_reference_by, is_reference, refers, complex_holds}
use Rattle.sw_selector.specs.Grammar as g
use Rattle.sw_selector.specs.Grammar.{Inner, pseudo_name, Simple, Head, Simples, Compound, Compounds, IsComplex, Argument, Listed, Arguments, IsSelectorList}
use Rattle.sw_selector.specs.Reading.{complexes_of}
use Rattle.sw_selector.specs.Nesting.{is_led, ends_in_space, suffixed_by, suffixed_part, last_suffixed, suffixed, opened, spliced_by, part_spliced, parts_spliced, spliced, inner_by, inner_of, part_prepared, parts_prepared, inner_nested, prepared, descended, nested, all_nested, too_deep}
use Rattle.sw_selector.proofs.Lists.{list_told}
use Rattle.sw_selector.proofs.Unrolled.{depth_pseudo, depth_parent, depth_placeholder, depth_combinator, depth_named, depth_closed, prepared_pseudo, prepared_parent, prepared_placeholder, prepared_combinator, prepared_named, prepared_closed}

-- the greatest of two lists
both : (a b c x : ℕ) → x ≡ max a b → max c x ≡ max (max c a) b
both a b c x e = omega (arith, e)

pub greatest-append : {A : Type 0} (f : A → ℕ) (xs ys : List A) → greatest_by f (xs ++ ys) ≡ max (greatest_by f xs) (greatest_by f ys)
greatest-append f [] ys = omega arith
greatest-append f (x ∷ xs) ys = both (greatest_by f xs) (greatest_by f ys) (f x) (greatest_by f (xs ++ ys)) (greatest-append f xs ys)

append_le : {A : Type 0} (f : A → ℕ) (n : ℕ) (xs ys : List A) → greatest_by f xs ≤ n → greatest_by f ys ≤ n → greatest_by f (xs ++ ys) ≤ n
append_le f n xs ys a b = let e = greatest-append f xs ys in omega (arith, e, a, b)

take_le : {A : Type 0} (f : A → ℕ) (n : ℕ) (xs : List A) → greatest_by f (take n xs) ≤ greatest_by f xs
take_le f zero xs = omega arith
take_le f (suc n) [] = omega arith
take_le f (suc n) (x ∷ xs) = let h = take_le f n xs in omega (arith, h)

-- ---- what is read

zero_le : (n : ℕ) (part : Part) → part_depth 0 part ≡ 0 → part_depth 0 part ≤ n
zero_le n part e = omega (arith, e)

one_part : (n : ℕ) (part : Part) (list : List Part) → part_depth 0 part ≤ n → complex_depth 0 list ≤ n → complex_depth 0 (part ∷ list) ≤ n
one_part n part list a b = omega (arith, a, b)

one_complex : (n : ℕ) (complex : List Part) (list : List (List Part)) → complex_depth 0 complex ≤ n → list_depth 0 list ≤ n → list_depth 0 (complex ∷ list) ≤ n
one_complex n complex list a b = omega (arith, a, b)

module _ (bs : List ℕ) (inner : Inner) (n : ℕ) (less : (i j : ℕ) (list : List (List Part)) → inner i j list → list_depth 0 list + 1 ≤ n) where
  simple_depth : (i j : ℕ) (part : Part) → Simple inner bs i j part → part_depth 0 part ≤ n
  simple_depth i j part (g.Simple.class s m) = zero_le n part (depth_named 0 _)
  simple_depth i j part (g.Simple.id s m) = zero_le n part (depth_named 0 _)
  simple_depth i j part (g.Simple.placeholder s m) = zero_le n part (depth_placeholder 0 _)
  simple_depth i j part (g.Simple.attribute s e) = zero_le n part (depth_closed 0 _)
  simple_depth i j part (g.Simple.pseudo s m e) = zero_le n part (depth_named 0 _)
  simple_depth i j part (g.Simple.pseudo_of {j = m} {k} {list} s name o takes within close) =
      let e = depth_pseudo 0 (pseudo_name bs i m) list in let h = less (m + 1) k list within in omega (arith, e, h)
  simple_depth i j part (g.Simple.pseudo_with s m o takes stop close lt) = zero_le n part (depth_closed 0 _)

  head_depth : (i j : ℕ) (part : Part) → Head bs i j part → part_depth 0 part ≤ n
  head_depth i j part (g.Head.parent s e) = zero_le n part (depth_parent 0 _)
  head_depth i j part (g.Head.type p m) = zero_le n part (depth_named 0 _)
  head_depth i j part (g.Head.any p s) = zero_le n part (depth_closed 0 _)

  simples_depth : (i j : ℕ) (list : List Part) → Simples inner bs i j list → complex_depth 0 list ≤ n
  simples_depth i j list g.Simples.none = omega arith
  simples_depth i j list (g.Simples.more {k = k} {part = part} {list = rest} s others) =
      one_part n part rest (simple_depth i k part s) (simples_depth k j rest others)

  compound_depth : (i j : ℕ) (list : List Part) → Compound inner bs i j list → complex_depth 0 list ≤ n
  compound_depth i j list (g.Compound.headed {k = k} {part = part} {list = rest} h others) =
      one_part n part rest (head_depth i k part h) (simples_depth k j rest others)
  compound_depth i j list (g.Compound.plain {k = k} {part = part} {list = rest} s others) =
      one_part n part rest (simple_depth i k part s) (simples_depth k j rest others)

  sign_depth : (combinator : Combinator) → part_depth 0 (parts.Combinator combinator) ≤ n
  sign_depth combinator = zero_le n (parts.Combinator combinator) (depth_combinator 0 combinator)

  compounds_depth : (i j : ℕ) (list : List Part) → Compounds inner bs i j list → complex_depth 0 list ≤ n
  compounds_depth i j list (g.Compounds.one c) = compound_depth i j list c
  compounds_depth i j list (g.Compounds.joined {k = k} {l = l} {first = first} {rest = rest} {combinator = combinator} c joint others) =
      append_le (part_depth 0) n first (parts.Combinator combinator ∷ rest) (compound_depth i k first c)
      (one_part n (parts.Combinator combinator) rest (sign_depth combinator) (compounds_depth l j rest others))

  read_complex_depth : (i j : ℕ) (list : List Part) → IsComplex inner bs i j list → complex_depth 0 list ≤ n
  read_complex_depth i j list (g.IsComplex.plain c ends) = compounds_depth _ _ list c
  read_complex_depth i j list (g.IsComplex.led {list = rest} {combinator = combinator} s c ends) =
      one_part n (parts.Combinator combinator) rest (sign_depth combinator) (compounds_depth _ _ rest c)

  argument_depth : (i j : ℕ) (list : List (List Part)) → Argument inner bs i j list → list_depth 0 list ≤ n
  argument_depth i j list (g.Argument.last {complex = complex} c e) = one_complex n complex [] (read_complex_depth i j complex c) (omega arith)
  argument_depth i j list (g.Argument.more {k = k} {complex = complex} {list = rest} c e others) =
      one_complex n complex rest (read_complex_depth i k complex c) (argument_depth (k + 1) j rest others)

  listed_depth : (i : ℕ) (list : List (List Part)) → Listed inner bs i list → list_depth 0 list ≤ n
  listed_depth i list (g.Listed.last {j = j} {complex = complex} c e) = one_complex n complex [] (read_complex_depth i j complex c) (omega arith)
  listed_depth i list (g.Listed.more {j = j} {complex = complex} {list = rest} c e others) =
      one_complex n complex rest (read_complex_depth i j complex c) (listed_depth _ rest others)

arguments_depth : (bs : List ℕ) (n i j : ℕ) (list : List (List Part)) → Arguments bs n i j list → list_depth 0 list + 1 ≤ n
arguments_depth bs zero i j list h = absurd h
arguments_depth bs (suc n) i j list h = let d = argument_depth bs (Arguments bs n) n (arguments_depth bs n) i j list h in omega (arith, d)

-- as many pseudos as are counted stand in each other at most
pub listed_within : (n : ℕ) (bs : List ℕ) (list : List (List Part)) → IsSelectorList n bs list → list_depth 0 list ≤ n
listed_within n bs list h = listed_depth bs (Arguments bs n) n (arguments_depth bs n) 0 list h

pub read_within : (bs : List ℕ) (list : List (List Part)) → complexes_of bs LEVELS ≡ Some list → list_depth 0 list ≤ LEVELS
read_within bs list e = listed_within LEVELS bs list (list_told LEVELS bs list e)

-- ---- what nesting gives

suffixed_part_le : (suffix : List ℕ) (part : Part) → part_depth 0 (suffixed_part suffix part) ≤ part_depth 0 part
unfolding suffixed_part
suffixed_part_le suffix part = go (out-Part part)
  where
    go : (layer : Part-F Part) → part_depth 0 (suffixed_by part suffix layer) ≤ part_depth 0 part
    go (Part-F.Named name) = let e = depth_named 0 (name ++ suffix) in omega (arith, e)
    go (Part-F.Placeholder name) = let e = depth_placeholder 0 (name ++ suffix) in omega (arith, e)
    go (Part-F.Combinator _) = omega arith
    go (Part-F.Parent _) = omega arith
    go (Part-F.Closed _) = omega arith
    go (Part-F.Pseudo _ _) = omega arith

last_le : (suffix : List ℕ) (complex : List Part) (i : ℕ) → complex_depth 0 (last_suffixed suffix (slice_get complex i)) ≤ complex_depth 0 complex
last_le suffix [] i = omega arith
last_le suffix (part ∷ complex) zero = let h = suffixed_part_le suffix part in omega (arith, h)
last_le suffix (part ∷ complex) (suc i) = let h = last_le suffix complex i in omega (arith, h)

suffixed_le : (n : ℕ) (complex : List Part) (suffix : List ℕ) → complex_depth 0 complex ≤ n → complex_depth 0 (suffixed complex suffix) ≤ n
unfolding suffixed
suffixed_le n complex suffix h =
    either (λ (x : List Part). complex_depth 0 x ≤ n) (length suffix == 0) complex _ (λ _. h)
    (λ _. let t = take_le (part_depth 0) (length complex - 1) complex in
    let l = last_le suffix complex (length complex - 1) in
    append_le (part_depth 0) n (take (length complex - 1) complex) _ (omega (arith, t, h)) (omega (arith, l, h)))

opened_le : (n : ℕ) (parent before : List Part) → complex_depth 0 before ≤ n → complex_depth 0 (opened parent before) ≤ n
unfolding opened
opened_le n parent before h =
    either (λ (x : List Part). complex_depth 0 x ≤ n) (is_led parent && ends_in_space before) (take (length before - 1) before) before
    (λ _. let t = take_le (part_depth 0) (length before - 1) before in omega (arith, t, h)) (λ _. h)

-- a part that is not too deep, also where a parent of this depth stands for it
record Below (under n : ℕ) (part : Part) : Type 0 where
  depth : part_depth 0 part ≤ n
  room : is_reference part ≡ true → under ≤ n

abbrev AllBelow : ℕ → ℕ → List Part → Type 0
AllBelow under n [] = Unit {0}
AllBelow under n (part ∷ list) = Below under n part × AllBelow under n list

all_depth : (under n : ℕ) (list : List Part) → AllBelow under n list → complex_depth 0 list ≤ n
all_depth under n [] h = omega arith
all_depth under n (part ∷ list) h = one_part n part list h.0.depth (all_depth under n list h.1)

part_spliced_le : (under n : ℕ) (parent before : List Part) (part : Part) → complex_depth 0 parent ≤ under → complex_depth 0 before ≤ n → Below under n part
    → complex_depth 0 (part_spliced parent before part) ≤ n
unfolding part_spliced is_reference
part_spliced_le under n parent before part p b below = go (out-Part part) refl
  where
    behind : complex_depth 0 (before ++ part ∷ []) ≤ n
    behind = append_le (part_depth 0) n before (part ∷ []) b (one_part n part [] below.depth (omega arith))

    go : (layer : Part-F Part) → out-Part part ≡ layer → complex_depth 0 (spliced_by parent before part layer) ≤ n
    go (Part-F.Parent suffix) e =
        let room : under ≤ n = below.room (ap is_reference_by e) in
        append_le (part_depth 0) n (opened parent before) (suffixed parent suffix) (opened_le n parent before b) (suffixed_le n parent suffix (omega (arith, p, room)))
    go (Part-F.Combinator _) e = behind
    go (Part-F.Named _) e = behind
    go (Part-F.Placeholder _) e = behind
    go (Part-F.Closed _) e = behind
    go (Part-F.Pseudo _ _) e = behind

parts_spliced_le : (under n : ℕ) (parent before list : List Part) → complex_depth 0 parent ≤ under → complex_depth 0 before ≤ n → AllBelow under n list
    → complex_depth 0 (parts_spliced parent before list) ≤ n
parts_spliced_le under n parent before [] p b h = b
parts_spliced_le under n parent before (part ∷ list) p b h =
    parts_spliced_le under n parent (part_spliced parent before part) list p (part_spliced_le under n parent before part p b h.0) h.1

spliced_le : (under n : ℕ) (parent list : List Part) → complex_depth 0 parent ≤ under → AllBelow under n list → complex_depth 0 (spliced parent list) ≤ n
unfolding spliced
spliced_le under n parent list p h = parts_spliced_le under n parent [] list p (omega arith) h

each_spliced_le : (under n : ℕ) (parents : List (List Part)) (list : List Part) → list_depth 0 parents ≤ under → AllBelow under n list
    → list_depth 0 (map (λ (parent : List Part). spliced parent list) parents) ≤ n
each_spliced_le under n [] list p h = omega arith
each_spliced_le under n (parent ∷ parents) list p h =
    one_complex n (spliced parent list) _ (spliced_le under n parent list (omega (arith, p)) h) (each_spliced_le under n parents list (omega (arith, p)) h)

module _ (parents : List (List Part)) where
  abbrev under : ℕ
  under = list_depth 0 parents

  -- parts that hold no selectors and are no `&`
  plainly : (n : ℕ) (part : Part) (layer : Part-F Part) → out-Part part ≡ layer → is_reference_by layer ≡ false → part_depth 0 part ≡ 0 → Below under n part
  unfolding is_reference
  plainly n part layer e none flat = record {
    depth = zero_le n part flat;
    room = λ r. let f : is_reference_by (out-Part part) ≡ false = ap is_reference_by e ∙ none in absurd (cc);
  }

  inner_of_le : (n : ℕ) (list : List Part) → AllBelow under n list → list_depth 0 (inner_of parents list) ≤ n
  unfolding inner_by
  inner_of_le n list h =
      either (λ (x : List (List Part)). list_depth 0 x ≤ n) (refers list) (map (λ (parent : List Part). spliced parent list) parents) (list ∷ [])
      (λ _. each_spliced_le under n parents list (omega arith) h) (λ _. one_complex n list [] (all_depth under n list h) (omega arith))

  module _ (n : ℕ) (deeper : (part : Part) → part_depth under part ≤ n → Below under n (part_prepared parents part)) where
    parts_below : (list : List Part) → complex_depth under list ≤ n → AllBelow under n (parts_prepared parents list)
    parts_below [] h = tt
    parts_below (part ∷ list) h = (deeper part (omega (arith, h)), parts_below list (omega (arith, h)))

    inner_below : (list : List (List Part)) → list_depth under list ≤ n → list_depth 0 (inner_nested parents list) ≤ n
    inner_below [] h = omega arith
    inner_below (complex ∷ list) h =
        append_le (complex_depth 0) n (inner_of parents (parts_prepared parents complex)) (inner_nested parents list)
        (inner_of_le n (parts_prepared parents complex) (parts_below complex (omega (arith, h)))) (inner_below list (omega (arith, h)))

  abbrev Prepares : ℕ → Part → Type 0
  Prepares n part = part_depth under part ≤ n → Below under n (part_prepared parents part)

  parent_prepares : (n : ℕ) (suffix : List ℕ) → Prepares n (parts.Parent suffix)
  parent_prepares n suffix h = subst (Below under n) (sym (prepared_parent parents suffix)) (record {
    depth = zero_le n (parts.Parent suffix) (depth_parent 0 suffix);
    room = λ _. let e = depth_parent under suffix in omega (arith, e, h);
  })

  combinator_prepares : (n : ℕ) (combinator : Combinator) → Prepares n (parts.Combinator combinator)
  combinator_prepares n combinator h =
      subst (Below under n) (sym (prepared_combinator parents combinator))
      (plainly n (parts.Combinator combinator) (Part-F.Combinator combinator) (ap out-Part (sym (parts.rolls-Combinator combinator)) ∙ out-roll-Part (Part-F.Combinator combinator)) refl (depth_combinator 0 combinator))

  named_prepares : (n : ℕ) (name : List ℕ) → Prepares n (parts.Named name)
  named_prepares n name h =
      subst (Below under n) (sym (prepared_named parents name))
      (plainly n (parts.Named name) (Part-F.Named name) (ap out-Part (sym (parts.rolls-Named name)) ∙ out-roll-Part (Part-F.Named name)) refl (depth_named 0 name))

  placeholder_prepares : (n : ℕ) (name : List ℕ) → Prepares n (parts.Placeholder name)
  placeholder_prepares n name h =
      subst (Below under n) (sym (prepared_placeholder parents name))
      (plainly n (parts.Placeholder name) (Part-F.Placeholder name) (ap out-Part (sym (parts.rolls-Placeholder name)) ∙ out-roll-Part (Part-F.Placeholder name)) refl (depth_placeholder 0 name))

  closed_prepares : (n : ℕ) (text : List ℕ) → Prepares n (parts.Closed text)
  closed_prepares n text h =
      subst (Below under n) (sym (prepared_closed parents text))
      (plainly n (parts.Closed text) (Part-F.Closed text) (ap out-Part (sym (parts.rolls-Closed text)) ∙ out-roll-Part (Part-F.Closed text)) refl (depth_closed 0 text))

  -- the same of all parts with one level less
  abbrev Earlier : ℕ → Type 0
  Earlier zero = Unit {0}
  Earlier (suc n) = (part : Part) → Prepares n part

  no_reference : (name : List ℕ) (list : List (List Part)) → is_reference (parts.Pseudo name list) ≡ false
  unfolding is_reference
  no_reference name list = ap is_reference_by (ap out-Part (sym (parts.rolls-Pseudo name list)) ∙ out-roll-Part (Part-F.Pseudo name list))

  pseudo_prepares : (n : ℕ) → Earlier n → (name : List ℕ) (selectors : List (List Part)) → Prepares n (parts.Pseudo name selectors)
  pseudo_prepares zero earlier name selectors h = let e = depth_pseudo under name selectors in absurd (omega (arith, e, h))
  pseudo_prepares (suc n) earlier name selectors h =
      let e = depth_pseudo under name selectors in
      let inside = inner_below n earlier selectors (omega (arith, e, h)) in
      let d = depth_pseudo 0 name (inner_nested parents selectors) in
      subst (Below under (suc n)) (sym (prepared_pseudo parents name selectors)) (record {
        depth = omega (arith, d, inside);
        room = λ r. let f : is_reference (parts.Pseudo name (inner_nested parents selectors)) ≡ false = no_reference name (inner_nested parents selectors) in absurd (cc);
      })

  by_layer : (n : ℕ) → Earlier n → (layer : Part-F Part) → Prepares n (roll-Part layer)
  by_layer n earlier (Part-F.Parent suffix) = subst (Prepares n) (sym (parts.rolls-Parent suffix)) (parent_prepares n suffix)
  by_layer n earlier (Part-F.Combinator combinator) = subst (Prepares n) (sym (parts.rolls-Combinator combinator)) (combinator_prepares n combinator)
  by_layer n earlier (Part-F.Named name) = subst (Prepares n) (sym (parts.rolls-Named name)) (named_prepares n name)
  by_layer n earlier (Part-F.Placeholder name) = subst (Prepares n) (sym (parts.rolls-Placeholder name)) (placeholder_prepares n name)
  by_layer n earlier (Part-F.Closed text) = subst (Prepares n) (sym (parts.rolls-Closed text)) (closed_prepares n text)
  by_layer n earlier (Part-F.Pseudo name selectors) = subst (Prepares n) (sym (parts.rolls-Pseudo name selectors)) (pseudo_prepares n earlier name selectors)

  prepares : (n : ℕ) (part : Part) → Prepares n part
  prepares zero part = subst (Prepares zero) (roll-out-Part part) (by_layer zero tt (out-Part part))
  prepares (suc n) part = subst (Prepares (suc n)) (roll-out-Part part) (by_layer (suc n) (prepares n) (out-Part part))

  descended_le : (n : ℕ) (parent child : List Part) → complex_depth 0 parent ≤ n → complex_depth 0 child ≤ n → complex_depth 0 (descended parent child) ≤ n
  unfolding descended
  descended_le n parent child p h =
      let space : complex_depth 0 (parts.Combinator combinators.Descendant ∷ []) ≤ n =
      one_part n (parts.Combinator combinators.Descendant) [] (zero_le n (parts.Combinator combinators.Descendant) (depth_combinator 0 combinators.Descendant)) (omega arith) in
      either (λ (x : List Part). complex_depth 0 x ≤ n) (is_led child) (parent ++ child) ((parent ++ parts.Combinator combinators.Descendant ∷ []) ++ child)
      (λ _. append_le (part_depth 0) n parent child p h)
      (λ _. append_le (part_depth 0) n (parent ++ parts.Combinator combinators.Descendant ∷ []) child
      (append_le (part_depth 0) n parent (parts.Combinator combinators.Descendant ∷ []) p space) h)

  module _ (n : ℕ) (at_root : Bool) (room : under ≤ n) where
    nested_le : (parent child : List Part) → complex_depth 0 parent ≤ under → complex_depth under child ≤ n
        → complex_depth 0 (nested at_root parent (prepared parents child)) ≤ n
    unfolding nested prepared
    nested_le parent child p h =
        let below = parts_below n (prepares n) child h in
        let flat = all_depth under n (parts_prepared parents child) below in
        either (λ (x : List Part). complex_depth 0 x ≤ n) (complex_holds soughts.Parent child) (spliced parent (parts_prepared parents child)) _
        (λ _. spliced_le under n parent (parts_prepared parents child) p below)
        (λ _. either (λ (x : List Part). complex_depth 0 x ≤ n) at_root (parts_prepared parents child) (descended parent (parts_prepared parents child)) (λ _. flat)
        (λ _. descended_le n parent (parts_prepared parents child) (omega (arith, p, room)) flat))

    children_le : (parent : List Part) (child : List (List Part)) → complex_depth 0 parent ≤ under → list_depth under child ≤ n
        → list_depth 0 (map (nested at_root parent) (map (prepared parents) child)) ≤ n
    children_le parent [] p h = omega arith
    children_le parent (complex ∷ child) p h =
        one_complex n (nested at_root parent (prepared parents complex)) _ (nested_le parent complex p (omega (arith, h))) (children_le parent child p (omega (arith, h)))

    pairs_le : (some child : List (List Part)) → list_depth 0 some ≤ under → list_depth under child ≤ n
        → list_depth 0 (flat_map (λ (parent : List Part). map (nested at_root parent) (map (prepared parents) child)) some) ≤ n
    pairs_le [] child p h = omega arith
    pairs_le (parent ∷ some) child p h =
        append_le (complex_depth 0) n (map (nested at_root parent) (map (prepared parents) child)) _ (children_le parent child (omega (arith, p)) h) (pairs_le some child (omega (arith, p)) h)

pub nested_within : (at_root : Bool) (parents child : List (List Part)) → list_depth 0 parents ≤ LEVELS → too_deep parents child ≡ false
    → list_depth 0 (all_nested at_root parents child) ≤ LEVELS
unfolding all_nested
nested_within at_root parents child p h =
    let d : list_depth (list_depth 0 parents) child ≤ LEVELS = grind (arith, nat_tests) in
    pairs_le parents LEVELS at_root p parents child (omega arith) d
