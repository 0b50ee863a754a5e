-- What is left of a room behind texts.
use Rattle.std.proofs.Common.{◌≡◌, ℕ, ◌+◌, ◌-◌, ◌<◌, ◌≤◌, Bool, true, false, cond, List, ◌∷◌, ◌++◌, length, drop, get_or, sym, ◌∙◌, ap, length-append, arith}
use Rattle.std.specs.Prelude.{codes}
use Rattle.std.proofs.lemmas.List.{drop_more}
use Rattle.sw_selector.specs.declared.holds.Sought.TheVariants as soughts
use Rattle.sw_selector.specs.declared.selector.Part.{Part}
use Rattle.sw_selector.specs.declared.selector.Part.TheVariants as parts
use Rattle.sw_selector.specs.declared.selector.Combinator.{Combinator}
use Rattle.sw_selector.specs.Holds.{complex_holds}
use Rattle.sw_selector.specs.Writing.{combinator_text, part_text, parts_text, list_text, separator, written}
use Rattle.sw_selector.proofs.Unrolled.{text_pseudo, text_parent, text_placeholder, text_combinator, text_named, text_closed}

-- ---- each kind of part

pub size_combinator : (first : Bool) (combinator : Combinator) → length (part_text (parts.Combinator combinator) first) ≡ length (combinator_text first combinator)
size_combinator first combinator = ap length (text_combinator first combinator)

pub size_parent : (first : Bool) (suffix : List ℕ) → length (part_text (parts.Parent suffix) first) ≡ length suffix + 1
size_parent first suffix = ap length (text_parent first suffix) ∙ omega arith

pub size_named : (first : Bool) (name : List ℕ) → length (part_text (parts.Named name) first) ≡ length name + 0
size_named first name = ap length (text_named first name) ∙ omega arith

pub size_placeholder : (first : Bool) (name : List ℕ) → length (part_text (parts.Placeholder name) first) ≡ length name + 0
size_placeholder first name = ap length (text_placeholder first name) ∙ omega arith

pub size_closed : (first : Bool) (text : List ℕ) → length (part_text (parts.Closed text) first) ≡ length text + 0
size_closed first text = ap length (text_closed first text) ∙ omega arith

pub size_pseudo : (first : Bool) (name : List ℕ) (selectors : List (List Part)) → length (part_text (parts.Pseudo name selectors) first) ≡ (length name + 2) + length (list_text true selectors)
size_pseudo first name selectors =
    ap length (text_pseudo first name selectors)
    ∙ omega (arith, length-append (name ++ codes "(" ++ list_text true selectors) (codes ")"), length-append (name ++ codes "(") (list_text true selectors), length-append name (codes "("))

-- ---- one more text

pub taken : (room a b : ℕ) → (room - a) - b ≡ room - (a + b)
taken room a b = omega arith

pub pseudo_room : (room left : ℕ) (first : Bool) (name : List ℕ) (selectors : List (List Part)) → left ≡ (room - (length name + 2)) - length (list_text true selectors)
    → left ≡ room - length (part_text (parts.Pseudo name selectors) first)
pseudo_room room left first name selectors e = e ∙ taken room (length name + 2) (length (list_text true selectors)) ∙ ap (λ n. room - n) (sym (size_pseudo first name selectors))

next : {A : Type 0} (xs : List A) (i : ℕ) (x : A) → i < length xs → x ≡ get_or xs i x → drop i xs ≡ x ∷ drop (i + 1) xs
next {A} xs i x lt is = drop_more xs i x lt ∙ ap (λ (y : A). y ∷ drop (i + 1) xs) (sym is)

pub parts_turn : (left after : ℕ) (first : Bool) (ps : List Part) (i : ℕ) (part : Part) → i < length ps → part ≡ get_or ps i part → after ≡ left - length (part_text part first)
    → after - length (parts_text false (drop (i + 1) ps)) ≡ left - length (parts_text first (drop i ps))
parts_turn left after first ps i part lt is e =
    ap (λ n. n - length (parts_text false (drop (i + 1) ps))) e ∙ taken left _ _
    ∙ ap (λ n. left - n) (sym (length-append (part_text part first) (parts_text false (drop (i + 1) ps))) ∙ ap (λ l. length (parts_text first l)) (sym (next ps i part lt is)))

complex_room : (left after inner : ℕ) (first : Bool) (complex : List Part) (rest : List ℕ) → inner ≡ left - length (separator first) → after ≡ inner - length (parts_text true complex)
    → after - length rest ≡ left - length ((separator first ++ parts_text true complex) ++ rest)
complex_room left after inner first complex rest e k =
    omega (arith, e, k, length-append (separator first ++ parts_text true complex) rest, length-append (separator first) (parts_text true complex))

pub list_turn : (left after inner : ℕ) (first : Bool) (list : List (List Part)) (i : ℕ) (complex : List Part) → i < length list → complex ≡ get_or list i complex
    → inner ≡ left - length (separator first) → after ≡ inner - length (parts_text true complex)
    → after - length (list_text false (drop (i + 1) list)) ≡ left - length (list_text first (drop i list))
list_turn left after inner first list i complex lt is e k =
    complex_room left after inner first complex (list_text false (drop (i + 1) list)) e k ∙ ap (λ l. left - length (list_text first l)) (sym (next list i complex lt is))

-- one that is written
pub shown_turn : (left after inner : ℕ) (first : Bool) (list : List (List Part)) (i : ℕ) (complex : List Part) → i < length list → complex ≡ get_or list i complex
    → complex_holds soughts.Placeholder complex ≡ false → inner ≡ left - length (separator first) → after ≡ inner - length (parts_text true complex)
    → after - length (written false (drop (i + 1) list)) ≡ left - length (written first (drop i list))
shown_turn left after inner first list i complex lt is shown e k =
    complex_room left after inner first complex (written false (drop (i + 1) list)) e k
    ∙ ap (λ l. left - length l) (sym (ap (λ b. cond b (written first (drop (i + 1) list)) ((separator first ++ parts_text true complex) ++ written false (drop (i + 1) list))) shown)
    ∙ ap (written first) (sym (next list i complex lt is)))

-- one that isn't
pub hidden_turn : (left : ℕ) (first : Bool) (list : List (List Part)) (i : ℕ) (complex : List Part) → i < length list → complex ≡ get_or list i complex → complex_holds soughts.Placeholder complex ≡ true
    → left - length (written first (drop (i + 1) list)) ≡ left - length (written first (drop i list))
hidden_turn left first list i complex lt is hidden =
    ap (λ l. left - length l) (sym (ap (λ b. cond b (written first (drop (i + 1) list)) ((separator first ++ parts_text true complex) ++ written false (drop (i + 1) list))) hidden)
    ∙ ap (written first) (sym (next list i complex lt is)))

-- nothing is left
pub none_left : (room left : ℕ) (rest whole : List ℕ) → left ≡ 0 → left - length rest ≡ room - length whole → room ≤ length whole
none_left room left rest whole none e = omega (arith, none, e)
