-- What is written is read as what was read.
use Rattle.std.proofs.Common.{◌≡◌, ℕ, zero, suc, ◌+◌, ◌≤◌, ◌<◌, Bool, true, false, ◌||◌, cond, List, [], ◌∷◌, ◌++◌, length, refl, sym, ◌∙◌, ap, subst, arith, Ok, length-append, append_assoc}
use Rattle.std.specs.Prelude.{◌==◌, codes}
use Rattle.std.specs.List.{filter}
use Rattle.sw_text_scan.specs.declared.runs.Class.TheVariants as classes
use Rattle.sw_text_scan.specs.declared.signs.TheConstants.{END}
use Rattle.sw_text_scan.specs.Bytes.{sign, byte, is_white}
use Rattle.sw_text_scan.specs.Runs.{next}
use Rattle.sw_text_scan.specs.Pieces.{is_cut}
use Rattle.sw_text_scan.proofs.Bounds.{if_true, if_false, byte_past, run_step, run_stop}
use Rattle.sw_selector.specs.declared.reader.TheConstants.{LEVELS, MOST_SELECTORS}
use Rattle.sw_selector.specs.declared.selector.Part.{Part}
use Rattle.sw_text_locality.specs.Names.{white}
use Rattle.sw_selector.specs.Reading.{ends_complex, commas_end, selectors_of}
use Rattle.sw_selector.specs.Writing.{parts_text, list_text}
use Rattle.sw_selector.specs.Grammar as g
use Rattle.sw_selector.specs.Grammar.{Inner, IsComplex, Argument, Listed, Arguments, IsSelectorList}
use Rattle.sw_selector.specs.Laws.{is_shown, IsReadAs, ReadsBack}
use Rattle.sw_text_locality.proofs.Lexical.{white_none}
use Rattle.sw_selector.proofs.Others.{writes_others}
use Rattle.sw_selector.proofs.Whole.{reads_lists}
use Rattle.sw_text_locality.proofs.Stands.{Stands, stands_first, stands_byte, stands_left, stands_right}
use Rattle.sw_selector.proofs.Cuts.{Whole, whole_text, commas_cut}
use Rattle.sw_selector.proofs.Compounds.{white_one}
use Rattle.sw_selector.proofs.Joints.{complex_back, complex_start}

-- the first byte behind a comma and a space
record Comma (cs : List ℕ) (d : ℕ) (text : List ℕ) : Type 0 where
  comma : byte cs d ≡ sign ","
  space : byte cs (d + 1) ≡ sign " "
  rest : Stands cs ((d + 1) + 1) text

comma_at : (cs : List ℕ) (d : ℕ) (text : List ℕ) → Stands cs d (codes ", " ++ text) → Comma cs d text
unfolding byte
comma_at cs d text st =
    let left = stands_left cs d (codes ", ") text st in
    let n : length (codes ", ") ≡ 2 = refl in
    record {
      comma = stands_first cs d (codes ", ") left (omega (arith, n));
      space = stands_byte cs d (codes ", ") left 1 (omega (arith, n));
      rest = subst (λ (x : ℕ). Stands cs x text) (let z : d + length (codes ", ") ≡ (d + 1) + 1 = omega (arith, n) in z) (stands_right cs d (codes ", ") text st);
    }

comma_ends : (b : ℕ) → b ≡ sign "," → ends_complex b ≡ true
comma_ends b e = ap ends_complex e

module _ (cs : List ℕ) (d : ℕ) where
  comma_step : (is_white (byte cs d) || (byte cs d == sign ",")) ≡ true → commas_end cs d ≡ commas_end cs (d + 1)
  comma_step e =
      let step : next classes.Commas cs d ≡ d + 1 = if_true (is_white (byte cs d) || (byte cs d == sign ",")) (d + 1) d e in
      sym (run_step cs classes.Commas d (omega (arith, step))) ∙ ap (commas_end cs) step

  comma_stop : (is_white (byte cs d) || (byte cs d == sign ",")) ≡ false → commas_end cs d ≡ d
  comma_stop e =
      let step : next classes.Commas cs d ≡ d = if_false (is_white (byte cs d) || (byte cs d == sign ",")) (d + 1) d e in run_stop cs classes.Commas d (omega (arith, step))

neither : (a b : Bool) → a ≡ false → b ≡ false → (a || b) ≡ false
neither true b e f = e
neither false b e f = f

-- complex selectors that stand somewhere in a text
data Each (bs : List ℕ) (inner : Inner) : List (List Part) → Type 0 where
  none : Each bs inner []
  more : {i j : ℕ} {complex : List Part} {list : List (List Part)} → is_cut bs i ≡ true → IsComplex inner bs i j complex → Each bs inner list → Each bs inner (complex ∷ list)

each_shown : (bs : List ℕ) (inner : Inner) (list : List (List Part)) → Each bs inner list → Each bs inner (filter is_shown list)
each_shown bs inner list Each.none = Each.none
each_shown bs inner list (Each.more {complex = complex} {list = rest} cut c others) = go (is_shown complex) (each_shown bs inner rest others)
  where
    go : (t : Bool) → Each bs inner (filter is_shown rest) → Each bs inner (cond t (complex ∷ filter is_shown rest) (filter is_shown rest))
    go true e = Each.more cut c e
    go false e = e

some_argument : (bs : List ℕ) (inner : Inner) (i j : ℕ) (list : List (List Part)) → Argument inner bs i j list → 0 < length list
some_argument bs inner i j list (g.Argument.last c e) = omega arith
some_argument bs inner i j list (g.Argument.more c e others) = omega arith

module _ (bs : List ℕ) (w : Whole bs) (inner : Inner) where
  comma_small : (i : ℕ) → byte bs i ≡ sign "," → byte bs i < 128
  comma_small i e = omega (arith, e)

  argument_each : (i j : ℕ) (list : List (List Part)) → is_cut bs i ≡ true → Argument inner bs i j list → Each bs inner list
  argument_each i j list cut (g.Argument.last c e) = Each.more cut c Each.none
  argument_each i j list cut (g.Argument.more {k = k} {list = rest} c e others) = Each.more cut c (argument_each (k + 1) j rest (w.behind k (comma_small k e)) others)

  listed_each : (i : ℕ) (list : List (List Part)) → is_cut bs i ≡ true → Listed inner bs i list → Each bs inner list
  listed_each i list cut (g.Listed.last c e) = Each.more cut c Each.none
  listed_each i list cut (g.Listed.more {j = j} {list = rest} c e others) =
      Each.more cut c (listed_each (commas_end bs j) rest (ap (is_cut bs) (comma_step bs j (ap (λ (b : ℕ). is_white b || (b == sign ",")) e)) ∙ commas_cut bs w (j + 1) (w.behind j (comma_small j e))) others)

module _ (bs cs : List ℕ) (w : Whole bs) (inner inner_ : Inner)
    (within : (i j : ℕ) (list : List (List Part)) → is_cut bs i ≡ true → inner i j list → (q : ℕ) → Stands cs q (list_text true list)
    → byte cs (q + length (list_text true list)) ≡ sign ")" → inner_ q (q + length (list_text true list)) list) where
  first_left : (x : ℕ) (complex : List Part) (list : List (List Part)) → Stands cs x (list_text true (complex ∷ list)) → Stands cs x (parts_text true complex)
  first_left x complex list st = stands_left cs x (parts_text true complex) (list_text false list) st

  -- neither white space nor a comma stands in front
  list_start : (x : ℕ) (complex : List Part) (list : List (List Part)) → Each bs inner (complex ∷ list) → Stands cs x (list_text true (complex ∷ list))
      → (is_white (byte cs x) ≡ false) × ((byte cs x == sign ",") ≡ false)
  list_start x complex list (Each.more {i = i} {j = j} cut c others) st = complex_start bs cs w inner inner_ within i j x complex cut c (first_left x complex list st)

  -- what is behind the first
  tail_text : (complex next_ : List Part) (list : List (List Part)) → list_text true (complex ∷ next_ ∷ list) ≡ parts_text true complex ++ (codes ", " ++ list_text true (next_ ∷ list))
  tail_text complex next_ list = ap (λ (t : List ℕ). parts_text true complex ++ t) (append_assoc (codes ", ") (parts_text true next_) (list_text false list))

  alone_text : (complex : List Part) (x : ℕ) → x + length (list_text true (complex ∷ [])) ≡ x + length (parts_text true complex)
  alone_text complex x = let e = length-append (parts_text true complex) [] in omega (arith, e)

  two_text : (complex next_ : List Part) (list : List (List Part)) (x : ℕ)
      → x + length (list_text true (complex ∷ next_ ∷ list)) ≡ (((x + length (parts_text true complex)) + 1) + 1) + length (list_text true (next_ ∷ list))
  two_text complex next_ list x =
      let e = ap length (tail_text complex next_ list) in
      let f = length-append (parts_text true complex) (codes ", " ++ list_text true (next_ ∷ list)) in
      let h = length-append (codes ", ") (list_text true (next_ ∷ list)) in
      let n : length (codes ", ") ≡ 2 = refl in
      omega (arith, e, f, h, n)

  comma_behind : (x : ℕ) (complex next_ : List Part) (list : List (List Part)) → Stands cs x (list_text true (complex ∷ next_ ∷ list))
      → Comma cs (x + length (parts_text true complex)) (list_text true (next_ ∷ list))
  comma_behind x complex next_ list st =
      comma_at cs (x + length (parts_text true complex)) (list_text true (next_ ∷ list))
      (stands_right cs x (parts_text true complex) (codes ", " ++ list_text true (next_ ∷ list)) (subst (Stands cs x) (tail_text complex next_ list) st))

  arguments_again : (list : List (List Part)) (complex : List Part) → Each bs inner (complex ∷ list) → (d x : ℕ) → white cs d ≡ x → Stands cs x (list_text true (complex ∷ list))
      → byte cs (x + length (list_text true (complex ∷ list))) ≡ sign ")" → Argument inner_ cs d (x + length (list_text true (complex ∷ list))) (complex ∷ list)
  arguments_again [] complex (Each.more {i = i} {j = j} cut c others) d x e st f =
      let here = ap (byte cs) (sym (alone_text complex x)) ∙ f in
      subst (λ (y : ℕ). Argument inner_ cs d y (complex ∷ [])) (sym (alone_text complex x))
      (g.Argument.last (complex_back bs cs w inner inner_ within i j d x complex cut c e (first_left x complex [] st) (ap ends_complex here)) (ap (λ (b : ℕ). b == sign ",") here))
  arguments_again (next_ ∷ list) complex (Each.more {i = i} {j = j} cut c others) d x e st f =
      let m = comma_behind x complex next_ list st in
      let start = list_start (((x + length (parts_text true complex)) + 1) + 1) next_ list others m.rest in
      subst (λ (y : ℕ). Argument inner_ cs d y (complex ∷ next_ ∷ list)) (sym (two_text complex next_ list x))
      (g.Argument.more (complex_back bs cs w inner inner_ within i j d x complex cut c e (first_left x complex (next_ ∷ list) st) (comma_ends (byte cs (x + length (parts_text true complex))) m.comma)) m.comma
      (arguments_again list next_ others ((x + length (parts_text true complex)) + 1) (((x + length (parts_text true complex)) + 1) + 1)
      (white_one cs ((x + length (parts_text true complex)) + 1) (ap is_white m.space) start.0) m.rest
      (ap (byte cs) (sym (two_text complex next_ list x)) ∙ f)))

  listed_again : (list : List (List Part)) (complex : List Part) → Each bs inner (complex ∷ list) → (x : ℕ) → white cs x ≡ x → Stands cs x (list_text true (complex ∷ list))
      → byte cs (x + length (list_text true (complex ∷ list))) ≡ END → Listed inner_ cs x (complex ∷ list)
  listed_again [] complex (Each.more {i = i} {j = j} cut c others) x e st f =
      let here = ap (byte cs) (sym (alone_text complex x)) ∙ f in
      let k = x + length (parts_text true complex) in
      g.Listed.last (complex_back bs cs w inner inner_ within i j x x complex cut c e (first_left x complex [] st) (ap ends_complex here))
      (ap (byte cs) (comma_stop cs k (ap (λ (b : ℕ). is_white b || (b == sign ",")) here)) ∙ here)
  listed_again (next_ ∷ list) complex (Each.more {i = i} {j = j} cut c others) x e st f =
      let m = comma_behind x complex next_ list st in
      let k = x + length (parts_text true complex) in
      let start = list_start ((k + 1) + 1) next_ list others m.rest in
      let end : commas_end cs k ≡ (k + 1) + 1 =
      comma_step cs k (ap (λ (b : ℕ). is_white b || (b == sign ",")) m.comma) ∙ comma_step cs (k + 1) (ap (λ (b : ℕ). is_white b || (b == sign ",")) m.space)
      ∙ comma_stop cs ((k + 1) + 1) (neither (is_white (byte cs ((k + 1) + 1))) _ start.0 start.1) in
      g.Listed.more (complex_back bs cs w inner inner_ within i j x x complex cut c e (first_left x complex (next_ ∷ list) st) (comma_ends (byte cs k) m.comma)) m.comma
      (subst (λ (y : ℕ). Listed inner_ cs y (next_ ∷ list)) (sym end)
      (listed_again list next_ others ((k + 1) + 1) (white_none cs ((k + 1) + 1) start.0) m.rest (ap (byte cs) (sym (two_text complex next_ list x)) ∙ f)))

  argument_again : (i j : ℕ) (list : List (List Part)) → is_cut bs i ≡ true → Argument inner bs i j list → (q : ℕ) → Stands cs q (list_text true list)
      → byte cs (q + length (list_text true list)) ≡ sign ")" → Argument inner_ cs q (q + length (list_text true list)) list
  argument_again i j list cut h q st f = go list (argument_each bs w inner i j list cut h) (some_argument bs inner i j list h) st f
    where
      go : (list : List (List Part)) → Each bs inner list → 0 < length list → Stands cs q (list_text true list) → byte cs (q + length (list_text true list)) ≡ sign ")"
          → Argument inner_ cs q (q + length (list_text true list)) list
      go [] e s st f = absurd (omega (arith, s))
      go (complex ∷ rest) e s st f = arguments_again rest complex e q q (white_none cs q (list_start q complex rest e st).0) st f

module _ (bs cs : List ℕ) (w : Whole bs) where
  inner_again : (n i j : ℕ) (list : List (List Part)) → is_cut bs i ≡ true → Arguments bs n i j list → (q : ℕ) → Stands cs q (list_text true list)
      → byte cs (q + length (list_text true list)) ≡ sign ")" → Arguments cs n q (q + length (list_text true list)) list
  inner_again zero i j list cut h q st f = absurd h
  inner_again (suc n) i j list cut h q st f = argument_again bs cs w (Arguments bs n) (Arguments cs n) (inner_again n) i j list cut h q st f

shown_within : (list : List (List Part)) → length (filter is_shown list) ≤ length list
shown_within [] = omega arith
shown_within (complex ∷ list) = go (is_shown complex) (shown_within list)
  where
    go : (t : Bool) → length (filter is_shown list) ≤ length list → length (cond t (complex ∷ filter is_shown list) (filter is_shown list)) ≤ length (complex ∷ list)
    go true l = omega (arith, l)
    go false l = omega (arith, l)

append_none : (xs : List ℕ) → xs ≡ xs ++ []
append_none [] = refl
append_none (x ∷ xs) = ap (λ (ys : List ℕ). x ∷ ys) (append_none xs)

shown_again : (text cs : List ℕ) (w : Whole text) (complex : List Part) (rest : List (List Part)) → cs ≡ list_text true (complex ∷ rest) → Each text (Arguments text LEVELS) (complex ∷ rest)
    → length (complex ∷ rest) ≤ MOST_SELECTORS → selectors_of cs ≡ Ok (complex ∷ rest)
shown_again text cs w complex rest e each l =
    let all : Stands cs 0 (list_text true (complex ∷ rest)) = record { before = []; after = []; is = e ∙ append_none (list_text true (complex ∷ rest)); at = refl } in
    let start = list_start text cs w (Arguments text LEVELS) (Arguments cs LEVELS) (inner_again text cs w LEVELS) 0 complex rest each all in
    let size = ap length e in
    ((reads_lists cs).list (complex ∷ rest)).1 (
      listed_again text cs w (Arguments text LEVELS) (Arguments cs LEVELS) (inner_again text cs w LEVELS) rest complex each 0 (white_none cs 0 start.0) all
          (byte_past cs (0 + length (list_text true (complex ∷ rest))) (omega (arith, size))),
      l,
    )

any_again : (text : List ℕ) (w : Whole text) (shown : List (List Part)) → Each text (Arguments text LEVELS) shown → length shown ≤ MOST_SELECTORS → IsReadAs (list_text true shown) shown
any_again text w [] each l = refl
any_again text w (complex ∷ rest) each l = shown_again text (list_text true (complex ∷ rest)) w complex rest refl each l

pub reads_back : (text : List ℕ) (list : List (List Part)) → ReadsBack text list
reads_back text list u e =
    let w = whole_text text u in
    let read = ((reads_lists text).list list).0 e in
    let most = read.1 in
    let fewer = shown_within list in
    subst (λ (x : List ℕ). IsReadAs x (filter is_shown list)) (sym (writes_others list))
    (any_again text w (filter is_shown list) (each_shown text (Arguments text LEVELS) list (listed_each text w (Arguments text LEVELS) 0 list w.start read.0)) (omega (arith, fewer, most)))
