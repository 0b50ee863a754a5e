-- What is written of a simple selector is that selector, before what may stand behind it.
use Rattle.std.proofs.Common.{◌≡◌, ℕ, ◌+◌, ◌-◌, ◌≤◌, ◌<◌, Bool, true, false, ◌&&◌, ◌||◌, List, length, refl, sym, ◌∙◌, ap, subst, arith, Some}
use Rattle.std.specs.Prelude.{◌==◌, nat_lt, nat_le, slice_range, if◌then◌else◌}
use Rattle.std.proofs.lemmas.Bool.Decides.{nat_tests}
use Rattle.sw_text_scan.specs.declared.runs.Class.TheVariants as classes
use Rattle.sw_text_scan.specs.Bytes.{sign, byte, continues}
use Rattle.sw_text_scan.specs.Runs.{begins_name, next}
use Rattle.sw_text_scan.specs.Pieces.{is_cut, piece}
use Rattle.sw_text_scan.proofs.Bounds.{if_true, if_false, and_left}
use Rattle.sw_text_scan.proofs.Progress.{name_taken}
use Rattle.sw_selector.specs.declared.selector.Part.{Part}
use Rattle.sw_selector.specs.declared.selector.Part.TheVariants as parts
use Rattle.sw_selector.specs.Attributes.{prefix_end, attribute_end}
use Rattle.sw_text_locality.specs.Names.{name_end, name_text, parts_names}
use Rattle.sw_selector.specs.Simples.{colons_end}
use Rattle.sw_selector.specs.Reading.{ends_complex}
use Rattle.sw_selector.specs.Grammar as g
use Rattle.sw_selector.specs.Grammar.{Inner, Name, Simple, Head, pseudo_name}
use Rattle.sw_selector.proofs.Lexical.{begins_simple, stands, attribute_further, prefix_forward}
use Rattle.sw_text_locality.proofs.Lexical.{equal, name_further}
use Rattle.sw_text_locality.proofs.Kept.{Alike}
use Rattle.sw_text_locality.proofs.Written.{byte_range, length_range}
use Rattle.sw_text_locality.proofs.Stands.{Stands, stands_byte, piece_is, piece_again, cut_at, cut_byte, parts_cut, name_alike, name_end_again, name_begins_again, name_first_again, name_text_again}
use Rattle.sw_selector.proofs.Cuts.{Whole}
use Rattle.sw_selector.proofs.Local.{prefix_at, prefix_stays, word_name}
use Rattle.sw_selector.proofs.Closed.{attribute_again, attribute_shut}

-- what is written behind a simple selector
abbrev pub goes_behind : ℕ → Bool
goes_behind b = begins_simple b || ((b == sign " ") || ends_complex b)

pub behind_parts : (b : ℕ) → goes_behind b ≡ true → parts_names b ≡ true
behind_parts b e = grind (arith, nat_tests)

pub behind_open : (b : ℕ) → goes_behind b ≡ true → (b == sign "(") ≡ false
behind_open b e = grind (arith, nat_tests)

pub behind_bar : (b : ℕ) → goes_behind b ≡ true → (b == sign "|") ≡ false
behind_bar b e = grind (arith, nat_tests)

simple_ascii : (b : ℕ) → begins_simple b ≡ true → b < 128
simple_ascii b e = grind (arith, nat_tests)

no_and : (a b : Bool) → a ≡ false → (a && b) ≡ false
no_and true b e = absurd (cc)
no_and false b e = refl

pub cut_before : (bs : List ℕ) (i : ℕ) → byte bs i < 128 → is_cut bs i ≡ true
cut_before bs i lt =
    cut_at bs i (let l = stands bs i (λ b. nat_lt b 128) refl (grind (arith, nat_tests)) in omega (arith, l)) (small (byte bs i) lt)
  where
    small : (b : ℕ) → b < 128 → continues b ≡ false
    small b lt = grind (arith, nat_tests)

module _ (bs cs : List ℕ) (w : Whole bs) where
  -- a name with what stands before it, that begins in the other text at d
  pub record Again (i k d m : ℕ) (text : List ℕ) : Type 0 where
    pub name : Name cs m (d + length text)
    pub text_is : name_text cs d m (d + length text) ≡ text
    pub first : byte cs d ≡ byte bs i
    pub alike : Alike bs cs i d (name_end bs k - i)

  pub again : (i k d m : ℕ) → i ≤ k → begins_name bs k ≡ true → is_cut bs i ≡ true → m ≡ d + (k - i) → Stands cs d (name_text bs i k (name_end bs k))
      → parts_names (byte cs (d + length (name_text bs i k (name_end bs k)))) ≡ true → Again i k d m (name_text bs i k (name_end bs k))
  again i k d m l begins cut e s f = record {
    name = (ap (begins_name cs) e ∙ name_begins_again bs i k l taken cut cs d s f begins, sym (ap (name_end cs) e ∙ name_end_again bs i k l taken cut cs d s f));
    text_is = ap (λ (x : ℕ). name_text cs d x (d + length (name_text bs i k (name_end bs k)))) e ∙ name_text_again bs i k l taken cut cs d s f;
    first = name_first_again bs i k l taken cut cs d s f;
    alike = name_alike bs i k l taken cut cs d s f;
  }
    where
      taken : k < next classes.Name bs k
      taken = name_taken bs k begins

  -- a text between two places
  module _ (i j d : ℕ) (lt : i < j) (cut : is_cut bs i ≡ true) (cut_ : is_cut bs j ≡ true) (s : Stands cs d (piece bs i j)) where
    range_is : piece bs i j ≡ slice_range bs i j
    range_is = piece_is bs i j (omega (arith, lt)) cut cut_

    end_in : j ≤ length bs
    end_in = let e = and_left (nat_le j (length bs)) _ cut_ in grind (arith, nat_tests)

    pub piece_length : length (piece bs i j) ≡ j - i
    piece_length = ap length range_is ∙ length_range bs i j end_in

    pub piece_alike : Alike bs cs i d (j - i)
    piece_alike n less =
        let e = piece_length in
        sym (stands_byte cs d (piece bs i j) s n (omega (arith, e, less)) ∙ ap (λ (x : List ℕ). byte x n) range_is ∙ byte_range bs i j n less)

    pub piece_first : byte cs d ≡ byte bs i
    piece_first = sym (ap (byte bs) (let z : i ≡ i + 0 = omega arith in z) ∙ piece_alike 0 (omega (arith, lt)) ∙ ap (byte cs) (let z : d + 0 ≡ d = omega arith in z))

    pub piece_same : continues (byte cs (d + length (piece bs i j))) ≡ false → piece cs d (d + length (piece bs i j)) ≡ piece bs i j
    piece_same f = piece_again cs d (piece bs i j) s (ap continues piece_first ∙ cut_byte bs i cut) f

  module _ (inner inner_ : Inner) where
    -- the part stands there where its text does, before what goes behind it
    abbrev pub Back : Part → ℕ → List ℕ → Type 0
    Back part d text = Stands cs d text → goes_behind (byte cs (d + length text)) ≡ true → Simple inner_ cs d (d + length text) part

    pub class_back : (i d : ℕ) → byte bs i ≡ sign "." → begins_name bs (i + 1) ≡ true
        → Back (parts.Named (name_text bs i (i + 1) (name_end bs (i + 1)))) d (name_text bs i (i + 1) (name_end bs (i + 1)))
    class_back i d s begins st f =
        let text = name_text bs i (i + 1) (name_end bs (i + 1)) in
        let a = again i (i + 1) d (d + 1) (omega arith) begins (cut_before bs i (omega (arith, s))) (omega arith) st (behind_parts (byte cs (d + length text)) f) in
        subst (λ (x : List ℕ). Simple inner_ cs d (d + length text) (parts.Named x)) a.text_is (g.Simple.class (a.first ∙ s) a.name)

    pub id_back : (i d : ℕ) → byte bs i ≡ sign "#" → begins_name bs (i + 1) ≡ true
        → Back (parts.Named (name_text bs i (i + 1) (name_end bs (i + 1)))) d (name_text bs i (i + 1) (name_end bs (i + 1)))
    id_back i d s begins st f =
        let text = name_text bs i (i + 1) (name_end bs (i + 1)) in
        let a = again i (i + 1) d (d + 1) (omega arith) begins (cut_before bs i (omega (arith, s))) (omega arith) st (behind_parts (byte cs (d + length text)) f) in
        subst (λ (x : List ℕ). Simple inner_ cs d (d + length text) (parts.Named x)) a.text_is (g.Simple.id (a.first ∙ s) a.name)

    pub placeholder_back : (i d : ℕ) → byte bs i ≡ sign "%" → begins_name bs (i + 1) ≡ true
        → Back (parts.Placeholder (name_text bs i (i + 1) (name_end bs (i + 1)))) d (name_text bs i (i + 1) (name_end bs (i + 1)))
    placeholder_back i d s begins st f =
        let text = name_text bs i (i + 1) (name_end bs (i + 1)) in
        let a = again i (i + 1) d (d + 1) (omega arith) begins (cut_before bs i (omega (arith, s))) (omega arith) st (behind_parts (byte cs (d + length text)) f) in
        subst (λ (x : List ℕ). Simple inner_ cs d (d + length text) (parts.Placeholder x)) a.text_is (g.Simple.placeholder (a.first ∙ s) a.name)

    pub attribute_back : (i j d : ℕ) → byte bs i ≡ sign "[" → attribute_end bs i ≡ Some j → Back (parts.Closed (piece bs i j)) d (piece bs i j)
    attribute_back i j d s e st f =
        let up = attribute_further bs i j e in
        let shut = attribute_shut bs i j e in
        let last : byte bs (j - 1) < 128 = let x = equal (byte bs (j - 1)) (sign "]") shut in omega (arith, x) in
        let cut = cut_before bs i (omega (arith, s)) in
        let cut_ = ap (is_cut bs) (let z : j ≡ (j - 1) + 1 = omega (arith, up) in z) ∙ w.behind (j - 1) last in
        let free = parts_cut (byte cs (d + length (piece bs i j))) (behind_parts (byte cs (d + length (piece bs i j))) f) in
        let size = piece_length i j d up cut cut_ st in
        let same_ = attribute_again bs cs i d (j - i) (piece_alike i j d up cut cut_ st) (e ∙ ap Some (let z : j ≡ i + (j - i) = omega (arith, up) in z)) in
        subst (λ (x : List ℕ). Simple inner_ cs d (d + length (piece bs i j)) (parts.Closed x)) (piece_same i j d up cut cut_ st free)
        (g.Simple.attribute (piece_first i j d up cut cut_ st ∙ s) (same_ ∙ ap Some (let z : d + (j - i) ≡ d + length (piece bs i j) = omega (arith, size) in z)))

    -- one or two colons
    pub colons_again : (i d n : ℕ) → 1 < n → Alike bs cs i d n → colons_end cs d ≡ d + (colons_end bs i - i)
    colons_again i d n l a = go (byte bs (i + 1) == sign ":") refl
      where
        go : (t : Bool) → (byte bs (i + 1) == sign ":") ≡ t → colons_end cs d ≡ d + (colons_end bs i - i)
        go true t =
            let e : colons_end bs i ≡ i + 2 = if_true (byte bs (i + 1) == sign ":") (i + 2) (i + 1) t in
            if_true (byte cs (d + 1) == sign ":") (d + 2) (d + 1) (ap (λ (b : ℕ). b == sign ":") (sym (a 1 l)) ∙ t) ∙ (let z : d + 2 ≡ d + (colons_end bs i - i) = omega (arith, e) in z)
        go false t =
            let e : colons_end bs i ≡ i + 1 = if_false (byte bs (i + 1) == sign ":") (i + 2) (i + 1) t in
            if_false (byte cs (d + 1) == sign ":") (d + 2) (d + 1) (ap (λ (b : ℕ). b == sign ":") (sym (a 1 l)) ∙ t) ∙ (let z : d + 1 ≡ d + (colons_end bs i - i) = omega (arith, e) in z)

    -- a pseudo's colons and name
    pub pseudo_again : (i d : ℕ) → byte bs i ≡ sign ":" → begins_name bs (colons_end bs i) ≡ true → Stands cs d (name_text bs i (colons_end bs i) (name_end bs (colons_end bs i)))
        → parts_names (byte cs (d + length (name_text bs i (colons_end bs i) (name_end bs (colons_end bs i))))) ≡ true
        → Again i (colons_end bs i) d (colons_end cs d) (name_text bs i (colons_end bs i) (name_end bs (colons_end bs i)))
    pseudo_again i d s begins st f =
        let up = colons_up (byte bs (i + 1) == sign ":") in
        let cut = cut_before bs i (omega (arith, s)) in
        let on = name_further bs (colons_end bs i) begins in
        let al = name_alike bs i (colons_end bs i) (omega (arith, up)) (name_taken bs (colons_end bs i) begins) cut cs d st f in
        again i (colons_end bs i) d (colons_end cs d) (omega (arith, up)) begins cut (colons_again i d (name_end bs (colons_end bs i) - i) (omega (arith, up, on)) al) st f
      where
        colons_up : (t : Bool) → i < (if t then i + 2 else i + 1)
        colons_up true = omega arith
        colons_up false = omega arith

    pub pseudo_back : (i d : ℕ) → byte bs i ≡ sign ":" → begins_name bs (colons_end bs i) ≡ true
        → Back (parts.Named (pseudo_name bs i (name_end bs (colons_end bs i)))) d (pseudo_name bs i (name_end bs (colons_end bs i)))
    pseudo_back i d s begins st f =
        let text = pseudo_name bs i (name_end bs (colons_end bs i)) in
        let a = pseudo_again i d s begins st (behind_parts (byte cs (d + length text)) f) in
        subst (λ (x : List ℕ). Simple inner_ cs d (d + length text) (parts.Named x)) a.text_is
        (g.Simple.pseudo (a.first ∙ s) a.name (behind_open (byte cs (d + length text)) f))

  -- the same of what only begins a compound
  abbrev pub HeadBack : Part → ℕ → List ℕ → Type 0
  HeadBack part d text = Stands cs d text → goes_behind (byte cs (d + length text)) ≡ true → Head cs d (d + length text) part

  module _ (i d : ℕ) (cut : is_cut bs i ≡ true) (begins : begins_name bs (prefix_end bs i) ≡ true)
      (st : Stands cs d (name_text bs i (prefix_end bs i) (name_end bs (prefix_end bs i))))
      (f : goes_behind (byte cs (d + length (name_text bs i (prefix_end bs i) (name_end bs (prefix_end bs i))))) ≡ true) where
    abbrev k : ℕ
    k = prefix_end bs i

    abbrev text : List ℕ
    text = name_text bs i k (name_end bs k)

    a : Again i k d (d + (k - i)) text
    a = again i k d (d + (k - i)) (prefix_forward bs i) begins cut refl st (behind_parts (byte cs (d + length text)) f)

    type_prefix : (t : Bool) → nat_lt i k ≡ t → prefix_end cs d ≡ d + (k - i)
    type_prefix true t =
        let lt : i < k = grind (arith, nat_tests) in
        let on = name_further bs k begins in
        ap (prefix_end cs) (let z : d ≡ d + (i - i) = omega arith in z)
        ∙ prefix_at bs cs i d (name_end bs k - i) a.alike i (omega arith) lt (omega (arith, on, lt))
    type_prefix false t =
        let ge : k ≤ i = grind (arith, nat_tests) in
        let here : d + (k - i) ≡ d = omega (arith, ge) in
        let begins_ : begins_name cs d ≡ true = ap (begins_name cs) (sym here) ∙ a.name.0 in
        let end_ : name_end cs d ≡ d + length text = ap (name_end cs) (sym here) ∙ sym a.name.1 in
        prefix_stays cs d (d + length text) (word_name cs d begins_ ∙ end_) (no_and (byte cs (d + length text) == sign "|") _ (behind_bar (byte cs (d + length text)) f)) ∙ sym here

    type_stands : Head cs d (d + length text) (parts.Named text)
    type_stands = subst (λ (x : List ℕ). Head cs d (d + length text) (parts.Named x)) a.text_is (g.Head.type (sym (type_prefix (nat_lt i k) refl)) a.name)

  pub type_back : (i d : ℕ) → is_cut bs i ≡ true → begins_name bs (prefix_end bs i) ≡ true
      → HeadBack (parts.Named (name_text bs i (prefix_end bs i) (name_end bs (prefix_end bs i)))) d (name_text bs i (prefix_end bs i) (name_end bs (prefix_end bs i)))
  type_back i d cut begins st f = type_stands i d cut begins st f

  module _ (i d : ℕ) (cut : is_cut bs i ≡ true) (star : byte bs (prefix_end bs i) ≡ sign "*") (st : Stands cs d (piece bs i (prefix_end bs i + 1)))
      (f : goes_behind (byte cs (d + length (piece bs i (prefix_end bs i + 1)))) ≡ true) where
    abbrev m : ℕ
    m = prefix_end bs i

    abbrev all : List ℕ
    all = piece bs i (m + 1)

    cut_ : is_cut bs (m + 1) ≡ true
    cut_ = w.behind m (omega (arith, star))

    lt_ : i < m + 1
    lt_ = let up = prefix_forward bs i in omega (arith, up)

    size : (d + (m - i)) + 1 ≡ d + length all
    size = let e = piece_length i (m + 1) d lt_ cut cut_ st in let u = lt_ in omega (arith, e, u)

    al : Alike bs cs i d ((m + 1) - i)
    al = piece_alike i (m + 1) d lt_ cut cut_ st

    there : byte cs (d + (m - i)) ≡ sign "*"
    there = let u = lt_ in sym (al (m - i) (omega (arith, u))) ∙ ap (byte bs) (let z : i + (m - i) ≡ m = omega (arith, u) in z) ∙ star

    any_prefix : (t : Bool) → nat_lt i m ≡ t → prefix_end cs d ≡ d + (m - i)
    any_prefix true t =
        let less : i < m = grind (arith, nat_tests) in
        ap (prefix_end cs) (let z : d ≡ d + (i - i) = omega arith in z) ∙ prefix_at bs cs i d ((m + 1) - i) al i (omega arith) less (omega (arith, less))
    any_prefix false t =
        let ge : m ≤ i = grind (arith, nat_tests) in
        let here : d + (m - i) ≡ d = omega (arith, ge) in
        let s = size in
        let star_ : byte cs d ≡ sign "*" = ap (byte cs) (sym here) ∙ there in
        prefix_stays cs d (d + length all) (if_true (byte cs d == sign "*") (d + 1) _ (ap (λ (b : ℕ). b == sign "*") star_) ∙ (let z : d + 1 ≡ d + length all = omega (arith, s, here) in z))
        (no_and (byte cs (d + length all) == sign "|") _ (behind_bar (byte cs (d + length all)) f)) ∙ sym here

    any_stands : Head cs d (d + length all) (parts.Closed all)
    any_stands =
        subst (λ (x : List ℕ). Head cs d (d + length all) (parts.Closed x)) (piece_same i (m + 1) d lt_ cut cut_ st (parts_cut (byte cs (d + length all)) (behind_parts (byte cs (d + length all)) f)))
        (subst (λ (x : ℕ). Head cs d x (parts.Closed (piece cs d (d + length all)))) size
        (subst (λ (x : ℕ). Head cs d ((d + (m - i)) + 1) (parts.Closed (piece cs d x))) size (g.Head.any (sym (any_prefix (nat_lt i m) refl)) there)))

  pub any_back : (i d : ℕ) → is_cut bs i ≡ true → byte bs (prefix_end bs i) ≡ sign "*" → HeadBack (parts.Closed (piece bs i (prefix_end bs i + 1))) d (piece bs i (prefix_end bs i + 1))
  any_back i d cut star st f = any_stands i d cut star st f
