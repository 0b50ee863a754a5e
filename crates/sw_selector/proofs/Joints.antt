-- What is written of compounds and combinators is these, before what ends a complex selector.
use Rattle.std.proofs.Common.{◌≡◌, ℕ, ◌+◌, ◌<◌, Bool, true, false, ◌||◌, List, [], ◌∷◌, ◌++◌, length, refl, sym, ◌∙◌, ap, subst, arith, Some, None, length-append}
use Rattle.std.specs.Prelude.{◌==◌}
use Rattle.std.proofs.lemmas.Bool.Decides.{nat_tests}
use Rattle.sw_text_scan.specs.declared.runs.Class.TheVariants as classes
use Rattle.sw_text_scan.specs.Bytes.{sign, byte, is_white}
use Rattle.sw_text_scan.specs.Runs.{begins_name}
use Rattle.sw_text_scan.specs.Pieces.{is_cut}
use Rattle.sw_text_scan.proofs.Bounds.{if_true, run_step}
use Rattle.sw_selector.specs.declared.selector.Combinator.{Combinator}
use Rattle.sw_selector.specs.declared.selector.Combinator.TheVariants as combinators
use Rattle.sw_selector.specs.declared.selector.Part.{Part}
use Rattle.sw_selector.specs.declared.selector.Part.TheVariants as parts
use Rattle.sw_text_locality.specs.Names.{white}
use Rattle.sw_selector.specs.Reading.{combinator_of, ends_complex}
use Rattle.sw_selector.specs.Writing.{combinator_text, part_text, parts_text, list_text}
use Rattle.sw_selector.specs.Grammar as g
use Rattle.sw_selector.specs.Grammar.{Inner, Simple, Head, Simples, Compound, Joint, Compounds, Ends, IsComplex}
use Rattle.sw_selector.proofs.Lexical.{begins_simple, begins_type, begins_part, not_white, type_first, any_first}
use Rattle.sw_text_locality.proofs.Lexical.{equal, white_none, in_or, split}
use Rattle.sw_selector.proofs.Unrolled.{text_pseudo, text_parent, text_placeholder, text_combinator, text_named, text_closed}
use Rattle.sw_text_locality.proofs.Stands.{Stands, stands_byte, stands_first, stands_left, stands_right}
use Rattle.sw_selector.proofs.Cuts.{Whole, white_cut}
use Rattle.sw_selector.proofs.Parts.{goes_behind}
use Rattle.sw_selector.proofs.Compounds.{white_one, parts_append, simple_back, head_back, simple_start, head_start}

ends_behind : (b : ℕ) → ends_complex b ≡ true → goes_behind b ≡ true
ends_behind b e = grind (arith, nat_tests)

simple_behind : (b : ℕ) → begins_simple b ≡ true → goes_behind b ≡ true
simple_behind b e = grind (arith, nat_tests)

end_not_white : (b : ℕ) → ends_complex b ≡ true → is_white b ≡ false
end_not_white b e = grind (arith, nat_tests)

-- a combinator's sign
abbrev sign_of : Combinator → ℕ
sign_of combinators.Descendant = sign " "
sign_of combinators.Child = sign ">"
sign_of combinators.Next = sign "+"
sign_of combinators.Subsequent = sign "~"

sign_is : (b : ℕ) (c : Combinator) → combinator_of b ≡ Some c → (b ≡ sign_of c) × (combinator_of (sign_of c) ≡ Some c)
sign_is b c e =
    split (b == sign ">") (Some combinators.Child) _ (Some c) (λ t f. case combinators.Child (sign ">") t refl refl (some_is f))
    (λ t f. split (b == sign "+") (Some combinators.Next) _ (Some c) (λ u h. case combinators.Next (sign "+") u refl refl (some_is h))
    (λ u h. split (b == sign "~") (Some combinators.Subsequent) None (Some c) (λ v k. case combinators.Subsequent (sign "~") v refl refl (some_is k)) (λ v k. absurd (cc)) h) f) e
  where
    some_is : {x y : Combinator} → Some x ≡ Some y → x ≡ y
    some_is e = cc

    case : (x : Combinator) (s : ℕ) → (b == s) ≡ true → s ≡ sign_of x → combinator_of s ≡ Some x → x ≡ c → (b ≡ sign_of c) × (combinator_of (sign_of c) ≡ Some c)
    case x s t f h same = subst (λ (y : Combinator). (b ≡ sign_of y) × (combinator_of (sign_of y) ≡ Some y)) same (equal b s t ∙ f, ap combinator_of (sym f) ∙ h)

sign_small : (b : ℕ) (c : Combinator) → combinator_of b ≡ Some c → (b < 128) × ((is_white b ≡ false) × ((b == sign ",") ≡ false))
sign_small b c e = let is = (sign_is b c e).0 in let t = signs c (ap combinator_of (sym is) ∙ e) in
    (let x = t.0 in omega (arith, is, x), (ap is_white is ∙ t.1.0, ap (λ (x : ℕ). x == sign ",") is ∙ t.1.1))
  where
    signs : (c : Combinator) → combinator_of (sign_of c) ≡ Some c → (sign_of c < 128) × ((is_white (sign_of c) ≡ false) × ((sign_of c == sign ",") ≡ false))
    signs combinators.Descendant e = absurd (let wrong : None ≡ Some combinators.Descendant = e in cc)
    signs combinators.Child e = (omega arith, (refl, refl))
    signs combinators.Next e = (omega arith, (refl, refl))
    signs combinators.Subsequent e = (omega arith, (refl, refl))

-- a sign with its spaces, and the same in front
record Signed (cs : List ℕ) (d n : ℕ) (c : Combinator) : Type 0 where
  here : byte cs (d + n) ≡ sign_of c
  space : byte cs ((d + n) + 1) ≡ sign " "

module _ (cs : List ℕ) (d : ℕ) where
  sign_text_ : (c : Combinator) → combinator_of (sign_of c) ≡ Some c → Stands cs d (combinator_text false c)
      → (byte cs d ≡ sign " ") × (Signed cs d 1 c × (length (combinator_text false c) ≡ 3))
  unfolding combinator_text byte
  sign_text_ combinators.Descendant e st = absurd (let wrong : None ≡ Some combinators.Descendant = e in cc)
  sign_text_ combinators.Child e st =
      let n : length (combinator_text false combinators.Child) ≡ 3 = refl in (
        stands_first cs d (combinator_text false combinators.Child) st (omega (arith, n)),
        (
          record {
            here = stands_byte cs d (combinator_text false combinators.Child) st 1 (omega (arith, n));
            space = ap (byte cs) (let z : (d + 1) + 1 ≡ d + 2 = omega arith in z) ∙ stands_byte cs d (combinator_text false combinators.Child) st 2 (omega (arith, n));
          },
          n,
        ),
      )
  sign_text_ combinators.Next e st =
      let n : length (combinator_text false combinators.Next) ≡ 3 = refl in (
        stands_first cs d (combinator_text false combinators.Next) st (omega (arith, n)),
        (
          record {
            here = stands_byte cs d (combinator_text false combinators.Next) st 1 (omega (arith, n));
            space = ap (byte cs) (let z : (d + 1) + 1 ≡ d + 2 = omega arith in z) ∙ stands_byte cs d (combinator_text false combinators.Next) st 2 (omega (arith, n));
          },
          n,
        ),
      )
  sign_text_ combinators.Subsequent e st =
      let n : length (combinator_text false combinators.Subsequent) ≡ 3 = refl in (
        stands_first cs d (combinator_text false combinators.Subsequent) st (omega (arith, n)),
        (
          record {
            here = stands_byte cs d (combinator_text false combinators.Subsequent) st 1 (omega (arith, n));
            space = ap (byte cs) (let z : (d + 1) + 1 ≡ d + 2 = omega arith in z) ∙ stands_byte cs d (combinator_text false combinators.Subsequent) st 2 (omega (arith, n));
          },
          n,
        ),
      )

  front_text : (c : Combinator) → combinator_of (sign_of c) ≡ Some c → Stands cs d (combinator_text true c) → Signed cs d 0 c × (length (combinator_text true c) ≡ 2)
  unfolding combinator_text byte
  front_text combinators.Descendant e st = absurd (let wrong : None ≡ Some combinators.Descendant = e in cc)
  front_text combinators.Child e st =
      let n : length (combinator_text true combinators.Child) ≡ 2 = refl in (
        record {
          here = stands_byte cs d (combinator_text true combinators.Child) st 0 (omega (arith, n));
          space = ap (byte cs) (let z : (d + 0) + 1 ≡ d + 1 = omega arith in z) ∙ stands_byte cs d (combinator_text true combinators.Child) st 1 (omega (arith, n));
        },
        n,
      )
  front_text combinators.Next e st =
      let n : length (combinator_text true combinators.Next) ≡ 2 = refl in (
        record {
          here = stands_byte cs d (combinator_text true combinators.Next) st 0 (omega (arith, n));
          space = ap (byte cs) (let z : (d + 0) + 1 ≡ d + 1 = omega arith in z) ∙ stands_byte cs d (combinator_text true combinators.Next) st 1 (omega (arith, n));
        },
        n,
      )
  front_text combinators.Subsequent e st =
      let n : length (combinator_text true combinators.Subsequent) ≡ 2 = refl in (
        record {
          here = stands_byte cs d (combinator_text true combinators.Subsequent) st 0 (omega (arith, n));
          space = ap (byte cs) (let z : (d + 0) + 1 ≡ d + 1 = omega arith in z) ∙ stands_byte cs d (combinator_text true combinators.Subsequent) st 1 (omega (arith, n));
        },
        n,
      )

  space_text : Stands cs d (combinator_text false combinators.Descendant) → (byte cs d ≡ sign " ") × (length (combinator_text false combinators.Descendant) ≡ 1)
  unfolding combinator_text byte
  space_text st =
      let n : length (combinator_text false combinators.Descendant) ≡ 1 = refl in (stands_first cs d (combinator_text false combinators.Descendant) st (omega (arith, n)), n)

-- a joint, before what is no white space
joint_back : (bs cs : List ℕ) (k l d : ℕ) (c : Combinator) → Joint bs k l c → Stands cs d (combinator_text false c) → is_white (byte cs (d + length (combinator_text false c))) ≡ false
    → Joint cs d (d + length (combinator_text false c)) c × (byte cs d ≡ sign " ")
joint_back bs cs k l d c (g.Joint.signed e) st f =
    let is = sign_is (byte bs (white bs k)) c e in
    let t = sign_text_ cs d c is.1 st in
    let s = t.1.0 in
    let size = t.1.1 in
    let small = sign_small (sign_of c) c is.1 in
    let first : white cs d ≡ d + 1 = white_one cs d (ap is_white t.0) (ap is_white s.here ∙ small.1.0) in
    let second : white cs (white cs d + 1) ≡ d + length (combinator_text false c) =
    ap (λ (x : ℕ). white cs (x + 1)) first
    ∙ white_one cs ((d + 1) + 1) (ap is_white s.space) (ap (λ (x : ℕ). is_white (byte cs x)) (let z : ((d + 1) + 1) + 1 ≡ d + length (combinator_text false c) = omega (arith, size) in z) ∙ f)
    ∙ (let z : ((d + 1) + 1) + 1 ≡ d + length (combinator_text false c) = omega (arith, size) in z) in
    (subst (λ (x : ℕ). Joint cs d x c) second (g.Joint.signed (ap (λ (x : ℕ). combinator_of (byte cs x)) first ∙ ap combinator_of s.here ∙ is.1)), t.0)
joint_back bs cs k l d c (g.Joint.spaced lt) st f =
    let t = space_text cs d st in
    let size = t.1 in
    let same : d + 1 ≡ d + length (combinator_text false combinators.Descendant) = omega (arith, size) in
    let first : white cs d ≡ d + 1 = white_one cs d (ap is_white t.0) (ap (λ (x : ℕ). is_white (byte cs x)) same ∙ f) in
    (subst (λ (x : ℕ). Joint cs d x combinators.Descendant) (first ∙ same) (g.Joint.spaced (omega (arith, first))), t.0)

-- a joint ends between two characters
joint_cut : (bs : List ℕ) (w : Whole bs) (k l : ℕ) (c : Combinator) → Joint bs k l c → is_cut bs l ≡ true
joint_cut bs w k l c (g.Joint.signed e) = white_cut bs w (white bs k + 1) (w.behind (white bs k) (sign_small (byte bs (white bs k)) c e).0)
joint_cut bs w k l c (g.Joint.spaced lt) = go (is_white (byte bs k)) refl
  where
    white_small : (b : ℕ) → is_white b ≡ true → b < 128
    white_small b e = grind (arith, nat_tests)

    go : (t : Bool) → is_white (byte bs k) ≡ t → is_cut bs (white bs k) ≡ true
    go false t = let none = white_none bs k t in absurd (omega (arith, none, lt))
    go true t =
        let step = if_true (is_white (byte bs k)) (k + 1) k t in
        ap (is_cut bs) (sym (run_step bs classes.White k (omega (arith, step))) ∙ ap (white bs) step) ∙ white_cut bs w (k + 1) (w.behind k (white_small (byte bs k) t))

module _ (bs cs : List ℕ) (w : Whole bs) (inner inner_ : Inner)
    (within : (i j : ℕ) (list : List (List Part)) → is_cut bs i ≡ true → inner i j list → (q : ℕ) → Stands cs q (list_text true list)
    → byte cs (q + length (list_text true list)) ≡ sign ")" → inner_ q (q + length (list_text true list)) list) where
  -- how a part stands in front doesn't matter, but for combinators
  simple_flag : (i j : ℕ) (part : Part) → Simple inner bs i j part → (b : Bool) → part_text part b ≡ part_text part false
  simple_flag i j part (g.Simple.class s n) b = text_named b _ ∙ sym (text_named false _)
  simple_flag i j part (g.Simple.id s n) b = text_named b _ ∙ sym (text_named false _)
  simple_flag i j part (g.Simple.placeholder s n) b = text_placeholder b _ ∙ sym (text_placeholder false _)
  simple_flag i j part (g.Simple.attribute s e) b = text_closed b _ ∙ sym (text_closed false _)
  simple_flag i j part (g.Simple.pseudo s n e) b = text_named b _ ∙ sym (text_named false _)
  simple_flag i j part (g.Simple.pseudo_of s n o takes inside close) b = text_pseudo b _ _ ∙ sym (text_pseudo false _ _)
  simple_flag i j part (g.Simple.pseudo_with s n o takes stop close lt) b = text_closed b _ ∙ sym (text_closed false _)

  head_flag : (i j : ℕ) (part : Part) → Head bs i j part → (b : Bool) → part_text part b ≡ part_text part false
  head_flag i j part (g.Head.parent s e) b = text_parent b _ ∙ sym (text_parent false _)
  head_flag i j part (g.Head.type p n) b = text_named b _ ∙ sym (text_named false _)
  head_flag i j part (g.Head.any p s) b = text_closed b _ ∙ sym (text_closed false _)

  -- with which byte they begin
  simple_first : (i j : ℕ) (part : Part) → Simple inner bs i j part → begins_simple (byte bs i) ≡ true
  simple_first i j part (g.Simple.class s n) = ap begins_simple s
  simple_first i j part (g.Simple.id s n) = ap begins_simple s
  simple_first i j part (g.Simple.placeholder s n) = ap begins_simple s
  simple_first i j part (g.Simple.attribute s e) = ap begins_simple s
  simple_first i j part (g.Simple.pseudo s n e) = ap begins_simple s
  simple_first i j part (g.Simple.pseudo_of s n o takes inside close) = ap begins_simple s
  simple_first i j part (g.Simple.pseudo_with s n o takes stop close lt) = ap begins_simple s

  simple_part : (b : ℕ) → begins_simple b ≡ true → begins_part b ≡ true
  simple_part b e = or_in (begins_simple b) _ e
    where
      or_in : (x y : Bool) → x ≡ true → (x || y) ≡ true
      or_in true y e = refl
      or_in false y e = absurd (cc)

  type_part : (b : ℕ) → begins_type b ≡ true → begins_part b ≡ true
  type_part b e = in_or (begins_simple b) _ (in_or (b == sign "&") _ e)

  head_first : (i j : ℕ) (part : Part) → Head bs i j part → begins_part (byte bs i) ≡ true
  head_first i j part (g.Head.parent s e) = ap begins_part s
  head_first i j part (g.Head.type p n) = type_part (byte bs i) (type_first bs i (ap (begins_name bs) (sym p) ∙ n.0))
  head_first i j part (g.Head.any p s) = type_part (byte bs i) (any_first bs i (ap (byte bs) (sym p) ∙ s))

  compound_first : (i j : ℕ) (list : List Part) → Compound inner bs i j list → begins_part (byte bs i) ≡ true
  compound_first i j list (g.Compound.headed {k = k} {part = part} h others) = head_first i k part h
  compound_first i j list (g.Compound.plain {k = k} {part = part} s others) = simple_part (byte bs i) (simple_first i k part s)

  compounds_first : (i j : ℕ) (list : List Part) → Compounds inner bs i j list → begins_part (byte bs i) ≡ true
  compounds_first i j list (g.Compounds.one c) = compound_first i j list c
  compounds_first i j list (g.Compounds.joined {k = k} {first = first} c joint rest) = compound_first i k first c

  -- what stands in front of simple selectors goes behind another
  simples_start : (i j d : ℕ) (list : List Part) → Simples inner bs i j list → Stands cs d (parts_text false list) → goes_behind (byte cs (d + length (parts_text false list))) ≡ true
      → goes_behind (byte cs d) ≡ true
  simples_start i j d list g.Simples.none st f = ap (λ (x : ℕ). goes_behind (byte cs x)) (let z : d ≡ d + 0 = omega arith in z) ∙ f
  simples_start i j d list (g.Simples.more {k = k} {part = part} {list = rest} s others) st f =
      ap goes_behind (simple_start bs cs w inner inner_ within i k d part s (stands_left cs d (part_text part false) (parts_text false rest) st))
      ∙ simple_behind (byte bs i) (simple_first i k part s)

  behind : (d : ℕ) (xs ys : List ℕ) → d + length (xs ++ ys) ≡ (d + length xs) + length ys
  behind d xs ys = let e = length-append xs ys in omega (arith, e)

  simples_back : (i j d : ℕ) (list : List Part) → Simples inner bs i j list → Stands cs d (parts_text false list) → goes_behind (byte cs (d + length (parts_text false list))) ≡ true
      → Simples inner_ cs d (d + length (parts_text false list)) list
  simples_back i j d list g.Simples.none st f = subst (λ (x : ℕ). Simples inner_ cs d x []) (let z : d ≡ d + 0 = omega arith in z) g.Simples.none
  simples_back i j d list (g.Simples.more {k = k} {part = part} {list = rest} s others) st f =
      let p = part_text part false in
      let r = parts_text false rest in
      let right = stands_right cs d p r st in
      let f_ = ap (λ (x : ℕ). goes_behind (byte cs x)) (sym (behind d p r)) ∙ f in
      subst (λ (x : ℕ). Simples inner_ cs d x list) (sym (behind d p r))
      (g.Simples.more (simple_back bs cs w inner inner_ within i k d part s (stands_left cs d p r st) (simples_start k j (d + length p) rest others right f_))
      (simples_back k j (d + length p) rest others right f_))

  compound_back : (i j d : ℕ) (list : List Part) → is_cut bs i ≡ true → Compound inner bs i j list → Stands cs d (parts_text false list)
      → goes_behind (byte cs (d + length (parts_text false list))) ≡ true → Compound inner_ cs d (d + length (parts_text false list)) list
  compound_back i j d list cut (g.Compound.headed {k = k} {part = part} {list = rest} h others) st f =
      let p = part_text part false in
      let r = parts_text false rest in
      let right = stands_right cs d p r st in
      let f_ = ap (λ (x : ℕ). goes_behind (byte cs x)) (sym (behind d p r)) ∙ f in
      subst (λ (x : ℕ). Compound inner_ cs d x list) (sym (behind d p r))
      (g.Compound.headed (head_back bs cs w inner inner_ within i k d part cut h (stands_left cs d p r st) (simples_start k j (d + length p) rest others right f_))
      (simples_back k j (d + length p) rest others right f_))
  compound_back i j d list cut (g.Compound.plain {k = k} {part = part} {list = rest} s others) st f =
      let p = part_text part false in
      let r = parts_text false rest in
      let right = stands_right cs d p r st in
      let f_ = ap (λ (x : ℕ). goes_behind (byte cs x)) (sym (behind d p r)) ∙ f in
      subst (λ (x : ℕ). Compound inner_ cs d x list) (sym (behind d p r))
      (g.Compound.plain (simple_back bs cs w inner inner_ within i k d part s (stands_left cs d p r st) (simples_start k j (d + length p) rest others right f_))
      (simples_back k j (d + length p) rest others right f_))

  compound_start : (i j d : ℕ) (list : List Part) → is_cut bs i ≡ true → Compound inner bs i j list → Stands cs d (parts_text false list) → byte cs d ≡ byte bs i
  compound_start i j d list cut (g.Compound.headed {k = k} {part = part} {list = rest} h others) st =
      head_start bs cs w inner inner_ within i k d part cut h (stands_left cs d (part_text part false) (parts_text false rest) st)
  compound_start i j d list cut (g.Compound.plain {k = k} {part = part} {list = rest} s others) st =
      simple_start bs cs w inner inner_ within i k d part s (stands_left cs d (part_text part false) (parts_text false rest) st)

  compound_flag : (i j : ℕ) (list more : List Part) (b : Bool) → Compound inner bs i j list → parts_text b (list ++ more) ≡ parts_text false (list ++ more)
  compound_flag i j list more b (g.Compound.headed {k = k} {part = part} {list = rest} h others) = ap (λ (t : List ℕ). t ++ parts_text false (rest ++ more)) (head_flag i k part h b)
  compound_flag i j list more b (g.Compound.plain {k = k} {part = part} {list = rest} s others) = ap (λ (t : List ℕ). t ++ parts_text false (rest ++ more)) (simple_flag i k part s b)

  pub compounds_flag : (i j : ℕ) (list : List Part) (b : Bool) → Compounds inner bs i j list → parts_text b list ≡ parts_text false list
  compounds_flag i j list b (g.Compounds.one c) = ap (parts_text b) (append_none list) ∙ compound_flag i j list [] b c ∙ ap (parts_text false) (sym (append_none list))
    where
      append_none : (xs : List Part) → xs ≡ xs ++ []
      append_none [] = refl
      append_none (x ∷ xs) = ap (λ (ys : List Part). x ∷ ys) (append_none xs)
  compounds_flag i j list b (g.Compounds.joined {k = k} {first = first} {rest = rest} {combinator = combinator} c joint others) = compound_flag i k first (parts.Combinator combinator ∷ rest) b c

  -- compounds with a combinator between
  joined_text : (first rest : List Part) (c : Combinator) → parts_text false (first ++ parts.Combinator c ∷ rest) ≡ parts_text false first ++ (combinator_text false c ++ parts_text false rest)
  joined_text first rest c =
      parts_append first (parts.Combinator c ∷ rest) ∙ ap (λ (t : List ℕ). parts_text false first ++ (t ++ parts_text false rest)) (text_combinator false c)

  pub compounds_start : (i j d : ℕ) (list : List Part) → is_cut bs i ≡ true → Compounds inner bs i j list → Stands cs d (parts_text false list) → byte cs d ≡ byte bs i
  compounds_start i j d list cut (g.Compounds.one c) st = compound_start i j d list cut c st
  compounds_start i j d list cut (g.Compounds.joined {k = k} {first = first} {rest = rest} {combinator = combinator} c joint others) st =
      compound_start i k d first cut c (stands_left cs d (parts_text false first) (combinator_text false combinator ++ parts_text false rest) (subst (Stands cs d) (joined_text first rest combinator) st))

  pub compounds_back : (i j d : ℕ) (list : List Part) → is_cut bs i ≡ true → Compounds inner bs i j list → Stands cs d (parts_text false list)
      → ends_complex (byte cs (d + length (parts_text false list))) ≡ true → Compounds inner_ cs d (d + length (parts_text false list)) list
  compounds_back i j d list cut (g.Compounds.one c) st f = g.Compounds.one (compound_back i j d list cut c st (ends_behind (byte cs (d + length (parts_text false list))) f))
  compounds_back i j d list cut (g.Compounds.joined {k = k} {l = l} {first = first} {rest = rest} {combinator = combinator} c joint others) st f =
      let p = parts_text false first in
      let m = combinator_text false combinator in
      let r = parts_text false rest in
      let st_ = subst (Stands cs d) (joined_text first rest combinator) st in
      let s1 = stands_left cs d p (m ++ r) st_ in
      let s2 = stands_right cs d p (m ++ r) st_ in
      let s3 = stands_left cs (d + length p) m r s2 in
      let s4 = stands_right cs (d + length p) m r s2 in
      let size : d + length (parts_text false list) ≡ ((d + length p) + length m) + length r =
      ap (λ (x : List ℕ). d + length x) (joined_text first rest combinator) ∙ behind d p (m ++ r) ∙ behind (d + length p) m r in
      let cut_ = joint_cut bs w k l combinator joint in
      let start = compounds_start l j ((d + length p) + length m) rest cut_ others s4 in
      let white = ap is_white start ∙ not_white (byte bs l) (compounds_first l j rest others) in
      let jo = joint_back bs cs k l (d + length p) combinator joint s3 white in
      subst (λ (x : ℕ). Compounds inner_ cs d x list) (sym size)
      (g.Compounds.joined (compound_back i k d first cut c s1 (ap goes_behind jo.1)) jo.0
      (compounds_back l j ((d + length p) + length m) rest cut_ others s4 (ap (λ (x : ℕ). ends_complex (byte cs x)) (sym size) ∙ f)))

  ended : (i : ℕ) → ends_complex (byte cs i) ≡ true → Ends cs i i
  ended i f = (sym (white_none cs i (end_not_white (byte cs i) f)), f)

  pub complex_back : (i j d x : ℕ) (list : List Part) → is_cut bs i ≡ true → IsComplex inner bs i j list → white cs d ≡ x → Stands cs x (parts_text true list)
      → ends_complex (byte cs (x + length (parts_text true list))) ≡ true → IsComplex inner_ cs d (x + length (parts_text true list)) list
  complex_back i j d x list cut (g.IsComplex.plain {k = k} c ends) e st f =
      let flag = compounds_flag (white bs i) k list true c in
      let size : x + length (parts_text false list) ≡ x + length (parts_text true list) = ap (λ (t : List ℕ). x + length t) (sym flag) in
      let back = compounds_back (white bs i) k x list (white_cut bs w i cut) c (subst (Stands cs x) flag st) (ap (λ (y : ℕ). ends_complex (byte cs y)) size ∙ f) in
      g.IsComplex.plain (subst (λ (y : ℕ). Compounds inner_ cs y (x + length (parts_text true list)) list) (sym e) (subst (λ (y : ℕ). Compounds inner_ cs x y list) size back))
      (ended (x + length (parts_text true list)) f)
  complex_back i j d x list cut (g.IsComplex.led {k = k} {list = rest} {combinator = combinator} s c ends) e st f =
      let is = sign_is (byte bs (white bs i)) combinator s in
      let m = combinator_text true combinator in
      let r = parts_text false rest in
      let text : parts_text true list ≡ m ++ r = ap (λ (t : List ℕ). t ++ parts_text false rest) (text_combinator true combinator) in
      let st_ = subst (Stands cs x) text st in
      let s1 = stands_left cs x m r st_ in
      let s2 = stands_right cs x m r st_ in
      let t = front_text cs x combinator is.1 s1 in
      let here = t.0.here in
      let space = t.0.space in
      let two = t.1 in
      let size : x + length (parts_text true list) ≡ (x + length m) + length r = ap (λ (y : List ℕ). x + length y) text ∙ behind x m r in
      let cut_ = white_cut bs w (white bs i + 1) (w.behind (white bs i) (sign_small (byte bs (white bs i)) combinator s).0) in
      let start = compounds_start (white bs (white bs i + 1)) k (x + length m) rest cut_ c s2 in
      let none = ap is_white start ∙ not_white (byte bs (white bs (white bs i + 1))) (compounds_first (white bs (white bs i + 1)) k rest c) in
      let after : white cs (white cs d + 1) ≡ x + length m =
      ap (λ (y : ℕ). white cs (y + 1)) e
      ∙ white_one cs (x + 1) (ap (λ (y : ℕ). is_white (byte cs y)) (let z : x + 1 ≡ (x + 0) + 1 = omega arith in z) ∙ ap is_white space)
      (ap (λ (y : ℕ). is_white (byte cs y)) (let z : (x + 1) + 1 ≡ x + length m = omega (arith, two) in z) ∙ none)
      ∙ (let z : (x + 1) + 1 ≡ x + length m = omega (arith, two) in z) in
      let back = compounds_back (white bs (white bs i + 1)) k (x + length m) rest cut_ c s2 (ap (λ (y : ℕ). ends_complex (byte cs y)) (sym size) ∙ f) in
      g.IsComplex.led (ap (λ (y : ℕ). combinator_of (byte cs y)) (e ∙ (let z : x ≡ x + 0 = omega arith in z)) ∙ ap combinator_of here ∙ is.1)
      (subst (λ (y : ℕ). Compounds inner_ cs y (x + length (parts_text true list)) rest) (sym after) (subst (λ (y : ℕ). Compounds inner_ cs (x + length m) y rest) (sym size) back))
      (ended (x + length (parts_text true list)) f)

  part_comma : (b : ℕ) → begins_part b ≡ true → (b == sign ",") ≡ false
  part_comma b e = grind (arith, nat_tests)

  -- neither white space nor a comma stands in front
  pub complex_start : (i j x : ℕ) (list : List Part) → is_cut bs i ≡ true → IsComplex inner bs i j list → Stands cs x (parts_text true list)
      → (is_white (byte cs x) ≡ false) × ((byte cs x == sign ",") ≡ false)
  complex_start i j x list cut (g.IsComplex.plain {k = k} c ends) st =
      let start = compounds_start (white bs i) k x list (white_cut bs w i cut) c (subst (Stands cs x) (compounds_flag (white bs i) k list true c) st) in
      let begins = compounds_first (white bs i) k list c in
      (ap is_white start ∙ not_white (byte bs (white bs i)) begins, ap (λ (b : ℕ). b == sign ",") start ∙ part_comma (byte bs (white bs i)) begins)
  complex_start i j x list cut (g.IsComplex.led {list = rest} {combinator = combinator} s c ends) st =
      let is = sign_is (byte bs (white bs i)) combinator s in
      let st_ = subst (Stands cs x) (ap (λ (t : List ℕ). t ++ parts_text false rest) (text_combinator true combinator)) st in
      let t = front_text cs x combinator is.1 (stands_left cs x (combinator_text true combinator) (parts_text false rest) st_) in
      let small = sign_small (sign_of combinator) combinator is.1 in
      let here = ap (byte cs) (let z : x ≡ x + 0 = omega arith in z) ∙ t.0.here in
      (ap is_white here ∙ small.1.0, ap (λ (b : ℕ). b == sign ",") here ∙ small.1.1)
