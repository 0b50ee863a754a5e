-- What definitions over parts say of each kind of part.
use Rattle.std.proofs.Common.{◌≡◌, ℕ, ◌+◌, max, Bool, true, false, ◌||◌, List, [], ◌∷◌, ◌++◌, map, refl, sym, ◌∙◌, ap}
use Rattle.std.specs.Prelude.{codes}
use Rattle.std.specs.List.{list_any}
use Rattle.std.proofs.lemmas.List.Folds.{flat_map-map}
use Rattle.sw_selector.specs.declared.holds.Sought.{Sought}
use Rattle.sw_selector.specs.declared.selector.Combinator.{Combinator}
use Rattle.sw_selector.specs.declared.selector.Part.{Part, fold-roll-Part, para-roll-Part}
use Rattle.sw_selector.specs.declared.selector.Part.TheOpen.{Part-F}
use Rattle.sw_selector.specs.declared.selector.Part.TheVariants as parts
use Rattle.sw_selector.specs.Depth.{greatest_by, depth_step, part_depth, list_depth}
use Rattle.sw_selector.specs.Holds.{is_parent, is_placeholder, has_step, part_has, some_holds}
use Rattle.sw_selector.specs.Nesting.{is_sign_part, parts_joined, joined_step, part_joined, joined_behind, complex_joined, some_joined, inner_of, prepare_step, part_prepared, parts_prepared, inner_nested}
use Rattle.sw_selector.specs.Writing.{combinator_text, run_text, list_by, text_step, part_text, parts_text, list_text, separator}

any-map : {A : Type 0} (f : A → Bool) (xs : List A) → list_any (λ t. t) (map f xs) ≡ list_any f xs
any-map f [] = refl
any-map f (x ∷ xs) = ap (λ t. f x || t) (any-map f xs)

any-maps : {A : Type 0} (f : A → Bool) (xss : List (List A)) → list_any (list_any (λ t. t)) (map (map f) xss) ≡ list_any (list_any f) xss
any-maps f [] = refl
any-maps f (xs ∷ xss) = ap (λ t. t || list_any (list_any (λ t. t)) (map (map f) xss)) (any-map f xs) ∙ ap (λ t. list_any f xs || t) (any-maps f xss)

greatest-map : {A : Type 0} (f : A → ℕ) (xs : List A) → greatest_by (λ n. n) (map f xs) ≡ greatest_by f xs
greatest-map f [] = refl
greatest-map f (x ∷ xs) = ap (max (f x)) (greatest-map f xs)

greatest-maps : {A : Type 0} (f : A → ℕ) (xss : List (List A)) → greatest_by (greatest_by (λ n. n)) (map (map f) xss) ≡ greatest_by (greatest_by f) xss
greatest-maps f [] = refl
greatest-maps f (xs ∷ xss) =
    ap (λ n. max n (greatest_by (greatest_by (λ n. n)) (map (map f) xss))) (greatest-map f xs) ∙ ap (max (greatest_by f xs)) (greatest-maps f xss)

pub has_pseudo : (sought : Sought) (name : List ℕ) (selectors : List (List Part)) → part_has sought (parts.Pseudo name selectors) ≡ some_holds sought selectors
unfolding part_has
has_pseudo sought name selectors =
    ap (part_has sought) (sym (parts.rolls-Pseudo name selectors)) ∙ fold-roll-Part Bool (has_step sought) (Part-F.Pseudo name selectors)
    ∙ any-maps (part_has sought) selectors

pub has_parent : (sought : Sought) (suffix : List ℕ) → part_has sought (parts.Parent suffix) ≡ is_parent sought suffix
unfolding part_has
has_parent sought suffix = ap (part_has sought) (sym (parts.rolls-Parent suffix)) ∙ fold-roll-Part Bool (has_step sought) (Part-F.Parent suffix)

pub has_placeholder : (sought : Sought) (name : List ℕ) → part_has sought (parts.Placeholder name) ≡ is_placeholder sought
unfolding part_has
has_placeholder sought name = ap (part_has sought) (sym (parts.rolls-Placeholder name)) ∙ fold-roll-Part Bool (has_step sought) (Part-F.Placeholder name)

pub has_combinator : (sought : Sought) (combinator : Combinator) → part_has sought (parts.Combinator combinator) ≡ false
unfolding part_has
has_combinator sought combinator = ap (part_has sought) (sym (parts.rolls-Combinator combinator)) ∙ fold-roll-Part Bool (has_step sought) (Part-F.Combinator combinator)

pub has_named : (sought : Sought) (name : List ℕ) → part_has sought (parts.Named name) ≡ false
unfolding part_has
has_named sought name = ap (part_has sought) (sym (parts.rolls-Named name)) ∙ fold-roll-Part Bool (has_step sought) (Part-F.Named name)

pub has_closed : (sought : Sought) (text : List ℕ) → part_has sought (parts.Closed text) ≡ false
unfolding part_has
has_closed sought text = ap (part_has sought) (sym (parts.rolls-Closed text)) ∙ fold-roll-Part Bool (has_step sought) (Part-F.Closed text)

-- ---- depth

pub depth_pseudo : (under : ℕ) (name : List ℕ) (selectors : List (List Part)) → part_depth under (parts.Pseudo name selectors) ≡ list_depth under selectors + 1
unfolding part_depth
depth_pseudo under name selectors =
    ap (part_depth under) (sym (parts.rolls-Pseudo name selectors)) ∙ fold-roll-Part ℕ (depth_step under) (Part-F.Pseudo name selectors)
    ∙ ap (λ n. n + 1) (greatest-maps (part_depth under) selectors)

pub depth_parent : (under : ℕ) (suffix : List ℕ) → part_depth under (parts.Parent suffix) ≡ under
unfolding part_depth
depth_parent under suffix = ap (part_depth under) (sym (parts.rolls-Parent suffix)) ∙ fold-roll-Part ℕ (depth_step under) (Part-F.Parent suffix)

pub depth_placeholder : (under : ℕ) (name : List ℕ) → part_depth under (parts.Placeholder name) ≡ 0
unfolding part_depth
depth_placeholder under name = ap (part_depth under) (sym (parts.rolls-Placeholder name)) ∙ fold-roll-Part ℕ (depth_step under) (Part-F.Placeholder name)

pub depth_combinator : (under : ℕ) (combinator : Combinator) → part_depth under (parts.Combinator combinator) ≡ 0
unfolding part_depth
depth_combinator under combinator = ap (part_depth under) (sym (parts.rolls-Combinator combinator)) ∙ fold-roll-Part ℕ (depth_step under) (Part-F.Combinator combinator)

pub depth_named : (under : ℕ) (name : List ℕ) → part_depth under (parts.Named name) ≡ 0
unfolding part_depth
depth_named under name = ap (part_depth under) (sym (parts.rolls-Named name)) ∙ fold-roll-Part ℕ (depth_step under) (Part-F.Named name)

pub depth_closed : (under : ℕ) (text : List ℕ) → part_depth under (parts.Closed text) ≡ 0
unfolding part_depth
depth_closed under text = ap (part_depth under) (sym (parts.rolls-Closed text)) ∙ fold-roll-Part ℕ (depth_step under) (Part-F.Closed text)

-- ---- signs before `&`

joined-map : (before : Bool) (complex : List Part) → parts_joined before (map (λ part. (part, part_joined part)) complex) ≡ complex_joined before complex
joined-map before [] = refl
joined-map before (part ∷ complex) = ap (λ t. joined_behind before part || t) (joined-map (is_sign_part part) complex)

joined-maps : (list : List (List Part)) → list_any (parts_joined false) (map (map (λ part. (part, part_joined part))) list) ≡ some_joined list
joined-maps [] = refl
joined-maps (complex ∷ list) =
    ap (λ t. t || list_any (parts_joined false) (map (map (λ part. (part, part_joined part))) list)) (joined-map false complex)
    ∙ ap (λ t. complex_joined false complex || t) (joined-maps list)

pub joined_pseudo : (name : List ℕ) (selectors : List (List Part)) → part_joined (parts.Pseudo name selectors) ≡ some_joined selectors
unfolding part_joined
joined_pseudo name selectors =
    ap part_joined (sym (parts.rolls-Pseudo name selectors)) ∙ para-roll-Part Bool joined_step (Part-F.Pseudo name selectors) ∙ joined-maps selectors

pub joined_parent : (suffix : List ℕ) → part_joined (parts.Parent suffix) ≡ false
unfolding part_joined
joined_parent suffix = ap part_joined (sym (parts.rolls-Parent suffix)) ∙ para-roll-Part Bool joined_step (Part-F.Parent suffix)

pub joined_placeholder : (name : List ℕ) → part_joined (parts.Placeholder name) ≡ false
unfolding part_joined
joined_placeholder name = ap part_joined (sym (parts.rolls-Placeholder name)) ∙ para-roll-Part Bool joined_step (Part-F.Placeholder name)

pub joined_combinator : (combinator : Combinator) → part_joined (parts.Combinator combinator) ≡ false
unfolding part_joined
joined_combinator combinator = ap part_joined (sym (parts.rolls-Combinator combinator)) ∙ para-roll-Part Bool joined_step (Part-F.Combinator combinator)

pub joined_named : (name : List ℕ) → part_joined (parts.Named name) ≡ false
unfolding part_joined
joined_named name = ap part_joined (sym (parts.rolls-Named name)) ∙ para-roll-Part Bool joined_step (Part-F.Named name)

pub joined_closed : (text : List ℕ) → part_joined (parts.Closed text) ≡ false
unfolding part_joined
joined_closed text = ap part_joined (sym (parts.rolls-Closed text)) ∙ para-roll-Part Bool joined_step (Part-F.Closed text)

-- ---- preparing

pub prepared_pseudo : (parents : List (List Part)) (name : List ℕ) (selectors : List (List Part))
    → part_prepared parents (parts.Pseudo name selectors) ≡ parts.Pseudo name (inner_nested parents selectors)
unfolding part_prepared
prepared_pseudo parents name selectors =
    ap (part_prepared parents) (sym (parts.rolls-Pseudo name selectors)) ∙ fold-roll-Part Part (prepare_step parents) (Part-F.Pseudo name selectors)
    ∙ ap (parts.Pseudo name) (flat_map-map (inner_of parents) (parts_prepared parents) selectors)

pub prepared_parent : (parents : List (List Part)) (suffix : List ℕ) → part_prepared parents (parts.Parent suffix) ≡ parts.Parent suffix
unfolding part_prepared
prepared_parent parents suffix =
    ap (part_prepared parents) (sym (parts.rolls-Parent suffix)) ∙ fold-roll-Part Part (prepare_step parents) (Part-F.Parent suffix) ∙ parts.rolls-Parent suffix

pub prepared_placeholder : (parents : List (List Part)) (name : List ℕ) → part_prepared parents (parts.Placeholder name) ≡ parts.Placeholder name
unfolding part_prepared
prepared_placeholder parents name =
    ap (part_prepared parents) (sym (parts.rolls-Placeholder name)) ∙ fold-roll-Part Part (prepare_step parents) (Part-F.Placeholder name) ∙ parts.rolls-Placeholder name

pub prepared_combinator : (parents : List (List Part)) (combinator : Combinator) → part_prepared parents (parts.Combinator combinator) ≡ parts.Combinator combinator
unfolding part_prepared
prepared_combinator parents combinator =
    ap (part_prepared parents) (sym (parts.rolls-Combinator combinator)) ∙ fold-roll-Part Part (prepare_step parents) (Part-F.Combinator combinator) ∙ parts.rolls-Combinator combinator

pub prepared_named : (parents : List (List Part)) (name : List ℕ) → part_prepared parents (parts.Named name) ≡ parts.Named name
unfolding part_prepared
prepared_named parents name =
    ap (part_prepared parents) (sym (parts.rolls-Named name)) ∙ fold-roll-Part Part (prepare_step parents) (Part-F.Named name) ∙ parts.rolls-Named name

pub prepared_closed : (parents : List (List Part)) (text : List ℕ) → part_prepared parents (parts.Closed text) ≡ parts.Closed text
unfolding part_prepared
prepared_closed parents text =
    ap (part_prepared parents) (sym (parts.rolls-Closed text)) ∙ fold-roll-Part Part (prepare_step parents) (Part-F.Closed text) ∙ parts.rolls-Closed text

-- ---- texts

text-map : (first : Bool) (complex : List Part) → run_text first (map part_text complex) ≡ parts_text first complex
text-map first [] = refl
text-map first (part ∷ complex) = ap (λ t. part_text part first ++ t) (text-map false complex)

text-maps : (first : Bool) (list : List (List Part)) → list_by first (map (map part_text) list) ≡ list_text first list
text-maps first [] = refl
text-maps first (complex ∷ list) =
    ap (λ t. (separator first ++ t) ++ list_by false (map (map part_text) list)) (text-map true complex)
    ∙ ap (λ t. (separator first ++ parts_text true complex) ++ t) (text-maps false list)

pub text_pseudo : (first : Bool) (name : List ℕ) (selectors : List (List Part))
    → part_text (parts.Pseudo name selectors) first ≡ name ++ codes "(" ++ list_text true selectors ++ codes ")"
unfolding part_text
text_pseudo first name selectors =
    ap (λ part. part_text part first) (sym (parts.rolls-Pseudo name selectors))
    ∙ ap (λ f. f first) (fold-roll-Part (Bool → List ℕ) text_step (Part-F.Pseudo name selectors))
    ∙ ap (λ t. name ++ codes "(" ++ t ++ codes ")") (text-maps true selectors)

pub text_parent : (first : Bool) (suffix : List ℕ) → part_text (parts.Parent suffix) first ≡ codes "&" ++ suffix
unfolding part_text
text_parent first suffix =
    ap (λ part. part_text part first) (sym (parts.rolls-Parent suffix)) ∙ ap (λ f. f first) (fold-roll-Part (Bool → List ℕ) text_step (Part-F.Parent suffix))

pub text_placeholder : (first : Bool) (name : List ℕ) → part_text (parts.Placeholder name) first ≡ name
unfolding part_text
text_placeholder first name =
    ap (λ part. part_text part first) (sym (parts.rolls-Placeholder name)) ∙ ap (λ f. f first) (fold-roll-Part (Bool → List ℕ) text_step (Part-F.Placeholder name))

pub text_combinator : (first : Bool) (combinator : Combinator) → part_text (parts.Combinator combinator) first ≡ combinator_text first combinator
unfolding part_text
text_combinator first combinator =
    ap (λ part. part_text part first) (sym (parts.rolls-Combinator combinator)) ∙ ap (λ f. f first) (fold-roll-Part (Bool → List ℕ) text_step (Part-F.Combinator combinator))

pub text_named : (first : Bool) (name : List ℕ) → part_text (parts.Named name) first ≡ name
unfolding part_text
text_named first name =
    ap (λ part. part_text part first) (sym (parts.rolls-Named name)) ∙ ap (λ f. f first) (fold-roll-Part (Bool → List ℕ) text_step (Part-F.Named name))

pub text_closed : (first : Bool) (text : List ℕ) → part_text (parts.Closed text) first ≡ text
unfolding part_text
text_closed first text =
    ap (λ part. part_text part first) (sym (parts.rolls-Closed text)) ∙ ap (λ f. f first) (fold-roll-Part (Bool → List ℕ) text_step (Part-F.Closed text))
