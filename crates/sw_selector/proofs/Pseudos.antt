-- What is written of `&` and of a pseudo with an argument is that part, before what may stand behind it.
use Rattle.std.proofs.Common.{◌≡◌, ℕ, zero, suc, ◌+◌, ◌-◌, ◌≤◌, ◌<◌, Bool, true, false, ◌&&◌, List, [], ◌++◌, length, take, drop, refl, sym, ◌∙◌, ap, subst, arith, Some, length-append}
use Rattle.std.specs.Prelude.{nat_lt, nat_le, codes, slice_range, if◌then◌else◌}
use Rattle.std.proofs.lemmas.Bool.Decides.{nat_tests}
use Rattle.sw_text_scan.specs.declared.brackets.Stops.TheVariants as stops
use Rattle.sw_text_scan.specs.declared.runs.Class.TheVariants as classes
use Rattle.sw_text_scan.specs.Bytes.{sign, byte, continues, is_white}
use Rattle.sw_text_scan.specs.Runs.{begins_name, next}
use Rattle.sw_text_scan.specs.Pieces.{is_cut, piece}
use Rattle.sw_text_scan.specs.Brackets.{stopped, scan_step, scan_by, stop_at, stop_behind}
use Rattle.sw_text_scan.proofs.Bounds.{if_true, if_false, run_step, run_stop, run_forward}
use Rattle.sw_text_scan.proofs.StopLemmas.{stops_by_step}
use Rattle.sw_selector.specs.declared.selector.Part.{Part}
use Rattle.sw_selector.specs.declared.selector.Part.TheVariants as parts
use Rattle.sw_text_locality.specs.Names.{white, name_end, name_text, unclosed_from, ends_unclosed, parts_names}
use Rattle.sw_selector.specs.Simples.{colons_end, takes_selectors, with_argument, argument_end, argument_text}
use Rattle.sw_selector.specs.Writing.{list_text}
use Rattle.sw_selector.specs.Grammar as g
use Rattle.sw_selector.specs.Grammar.{Inner, Name, Simple, Head, pseudo_name}
use Rattle.sw_text_locality.proofs.Lexical.{white_none}
use Rattle.sw_text_locality.proofs.Unclosed.{unclosed_stop}
use Rattle.sw_text_locality.proofs.Kept.{Alike}
use Rattle.sw_text_locality.proofs.Written.{parted}
use Rattle.sw_text_locality.proofs.Stands.{Stands, stands_first, stands_left, stands_right, name_end_again, name_text_again}
use Rattle.sw_selector.proofs.Cuts.{Whole, white_cut}
use Rattle.sw_selector.proofs.Local.{white_ends}
use Rattle.sw_selector.proofs.Raw.{Trimmed, white_step, white_byte, scan_again}
use Rattle.sw_selector.proofs.Arguments.{trimmed, end_again}
use Rattle.sw_selector.proofs.Parts.{goes_behind, behind_parts, cut_before, Again, pseudo_again, piece_alike, piece_length, piece_first, piece_same, Back, HeadBack}

-- nothing of a name
empty_piece : (xs : List ℕ) (p : ℕ) → piece xs p p ≡ []
unfolding piece
empty_piece xs p = go (nat_le p p && (is_cut xs p && is_cut xs p)) (let z : p - p ≡ 0 = omega arith in ap (λ (n : ℕ). take n (drop p xs)) z)
  where
    go : (t : Bool) → slice_range xs p p ≡ [] → (if t then slice_range xs p p else []) ≡ []
    go true e = e
    go false e = refl

empty_name : (xs : List ℕ) (p q : ℕ) → next classes.Name xs p ≤ p → q ≡ p → name_text xs p p q ≡ []
unfolding name_text ends_unclosed
empty_name xs p q l e =
    if_false (unclosed_from xs (length xs - p) false p) (piece xs p q ++ codes " ") (piece xs p q) (unclosed_stop xs p false l) ∙ ap (piece xs p) e ∙ empty_piece xs p

module _ (bs cs : List ℕ) (w : Whole bs) where
  module _ (i d : ℕ) (s : byte bs i ≡ sign "&") (st : Stands cs d (codes "&" ++ name_text bs (i + 1) (i + 1) (name_end bs (i + 1))))
      (f : goes_behind (byte cs (d + length (codes "&" ++ name_text bs (i + 1) (i + 1) (name_end bs (i + 1))))) ≡ true) where
    abbrev suffix : List ℕ
    suffix = name_text bs (i + 1) (i + 1) (name_end bs (i + 1))

    right : Stands cs (d + 1) suffix
    right = let n : length (codes "&") ≡ 1 = refl in subst (λ (x : ℕ). Stands cs x suffix) (let z : d + length (codes "&") ≡ d + 1 = omega (arith, n) in z) (stands_right cs d (codes "&") suffix st)

    size : d + length (codes "&" ++ suffix) ≡ (d + 1) + length suffix
    size = let e = length-append (codes "&") suffix in let n : length (codes "&") ≡ 1 = refl in omega (arith, e, n)

    amp : byte cs d ≡ sign "&"
    unfolding byte
    amp = let n : length (codes "&") ≡ 1 = refl in stands_first cs d (codes "&") (stands_left cs d (codes "&") suffix st) (omega (arith, n))

    follow : parts_names (byte cs ((d + 1) + length suffix)) ≡ true
    follow = behind_parts (byte cs ((d + 1) + length suffix)) (ap (λ (x : ℕ). goes_behind (byte cs x)) (sym size) ∙ f)

    built : name_end cs (d + 1) ≡ (d + 1) + length suffix → name_text cs (d + 1) (d + 1) ((d + 1) + length suffix) ≡ suffix
        → Head cs d (d + length (codes "&" ++ suffix)) (parts.Parent suffix)
    built e t =
        subst (λ (x : ℕ). Head cs d x (parts.Parent suffix)) (sym size)
        (subst (λ (x : List ℕ). Head cs d ((d + 1) + length suffix) (parts.Parent x)) t (g.Head.parent amp (sym e)))

    with_suffix : i + 1 < next classes.Name bs (i + 1) → Head cs d (d + length (codes "&" ++ suffix)) (parts.Parent suffix)
    with_suffix taken =
        let cut = w.behind i (omega (arith, s)) in
        let zero_ : (d + 1) + ((i + 1) - (i + 1)) ≡ d + 1 = omega arith in
        built (ap (name_end cs) (sym zero_) ∙ name_end_again bs (i + 1) (i + 1) (omega arith) taken cut cs (d + 1) right follow)
        (ap (λ (x : ℕ). name_text cs (d + 1) x ((d + 1) + length suffix)) (sym zero_) ∙ name_text_again bs (i + 1) (i + 1) (omega arith) taken cut cs (d + 1) right follow)

    with_none : next classes.Name bs (i + 1) ≤ i + 1 → Head cs d (d + length (codes "&" ++ suffix)) (parts.Parent suffix)
    with_none stays =
        let none : suffix ≡ [] = empty_name bs (i + 1) (name_end bs (i + 1)) stays (run_stop bs classes.Name (i + 1) stays) in
        let zero_ : length suffix ≡ 0 = ap length none in
        let here : (d + 1) + length suffix ≡ d + 1 = omega (arith, zero_) in
        let stays_ = parted cs (d + 1) (byte cs (d + 1)) refl (ap (λ (x : ℕ). parts_names (byte cs x)) (sym here) ∙ follow) in
        built (run_stop cs classes.Name (d + 1) (omega (arith, stays_)) ∙ sym here)
        (empty_name cs (d + 1) ((d + 1) + length suffix) (omega (arith, stays_)) here ∙ sym none)

    parent_by : (t : Bool) → nat_lt (i + 1) (next classes.Name bs (i + 1)) ≡ t → Head cs d (d + length (codes "&" ++ suffix)) (parts.Parent suffix)
    parent_by true t = with_suffix (grind (arith, nat_tests))
    parent_by false t = with_none (grind (arith, nat_tests))

  pub parent_back : (i d : ℕ) → byte bs i ≡ sign "&"
      → HeadBack bs cs w (parts.Parent (name_text bs (i + 1) (i + 1) (name_end bs (i + 1)))) d (codes "&" ++ name_text bs (i + 1) (i + 1) (name_end bs (i + 1)))
  parent_back i d s st f = parent_by i d s st f (nat_lt (i + 1) (next classes.Name bs (i + 1))) refl

  -- a text in parentheses behind a name
  record InParens (d : ℕ) (name text : List ℕ) : Type 0 where
    name_stands : Stands cs d name
    opened : byte cs (d + length name) ≡ sign "("
    text_stands : Stands cs ((d + length name) + 1) text
    close : byte cs (((d + length name) + 1) + length text) ≡ sign ")"
    size : d + length (name ++ codes "(" ++ text ++ codes ")") ≡ (((d + length name) + 1) + length text) + 1

  in_parens : (d : ℕ) (name text : List ℕ) → Stands cs d (name ++ codes "(" ++ text ++ codes ")") → InParens d name text
  unfolding byte
  in_parens d name text st =
      let a = stands_left cs d (name ++ codes "(" ++ text) (codes ")") st in
      let b = stands_left cs d (name ++ codes "(") text a in
      let c = stands_right cs d name (codes "(") b in
      let e = stands_right cs d (name ++ codes "(") text a in
      let f = stands_right cs d (name ++ codes "(" ++ text) (codes ")") st in
      let m = length-append name (codes "(") in
      let n = length-append (name ++ codes "(") text in
      let o = length-append (name ++ codes "(" ++ text) (codes ")") in
      let one : length (codes "(") ≡ 1 = refl in
      let one_ : length (codes ")") ≡ 1 = refl in
      let p : d + length (name ++ codes "(") ≡ (d + length name) + 1 = omega (arith, m, one) in
      let q : d + length (name ++ codes "(" ++ text) ≡ ((d + length name) + 1) + length text = omega (arith, m, n, one) in
      record {
        name_stands = stands_left cs d name (codes "(") b;
        opened = stands_first cs (d + length name) (codes "(") c (omega (arith, one));
        text_stands = subst (λ (x : ℕ). Stands cs x text) p e;
        close = ap (byte cs) (sym q) ∙ stands_first cs (d + length (name ++ codes "(" ++ text)) (codes ")") f (omega (arith, one_));
        size = omega (arith, m, n, o, one, one_);
      }

  module _ (inner inner_ : Inner) where
    pub selectors_back : (i d : ℕ) (list : List (List Part)) → byte bs i ≡ sign ":" → begins_name bs (colons_end bs i) ≡ true
        → takes_selectors (pseudo_name bs i (name_end bs (colons_end bs i))) ≡ true
        → ((q : ℕ) → Stands cs q (list_text true list) → byte cs (q + length (list_text true list)) ≡ sign ")" → inner_ q (q + length (list_text true list)) list)
        → Back bs cs w inner inner_ (parts.Pseudo (pseudo_name bs i (name_end bs (colons_end bs i))) list) d
        (pseudo_name bs i (name_end bs (colons_end bs i)) ++ codes "(" ++ list_text true list ++ codes ")")
    selectors_back i d list s begins takes within st f =
        let name = pseudo_name bs i (name_end bs (colons_end bs i)) in
        let p = in_parens d name (list_text true list) st in
        let a = pseudo_again bs cs w inner inner_ i d s begins p.name_stands (ap parts_names p.opened) in
        subst (λ (x : ℕ). Simple inner_ cs d x (parts.Pseudo name list)) (sym p.size)
        (subst (λ (x : List ℕ). Simple inner_ cs d ((((d + length name) + 1) + length (list_text true list)) + 1) (parts.Pseudo x list)) a.text_is
        (g.Simple.pseudo_of (a.first ∙ s) a.name p.opened (ap takes_selectors a.text_is ∙ takes) (within ((d + length name) + 1) p.text_stands p.close) p.close))

    -- white space in front of an argument
    abbrev Skips : ℕ → ℕ → Type 0
    Skips k n = (p : ℕ) → white bs p ≤ p + n → white bs p < k → stop_behind stops.Argument bs [] p ≡ Some k → stop_behind stops.Argument bs [] (white bs p) ≡ Some k

    skip_one : (p k : ℕ) → is_white (byte bs p) ≡ true → stop_behind stops.Argument bs [] p ≡ Some k → stop_behind stops.Argument bs [] (p + 1) ≡ Some k
    skip_one p k t e =
        sym (stops_by_step stops.Argument bs [] p
        ∙ if_false (stopped stops.Argument bs [] p) (Some p) (scan_by (stop_behind stops.Argument bs) (scan_step bs [] p)) (white_byte (byte bs p) t).1.1.1.1.1
        ∙ ap (scan_by (stop_behind stops.Argument bs)) (white_step bs [] p t))
        ∙ e

    white_on : (p : ℕ) → is_white (byte bs p) ≡ true → white bs (p + 1) ≡ white bs p
    white_on p t =
        let one : next classes.White bs p ≡ p + 1 = if_true (is_white (byte bs p)) (p + 1) p t in
        ap (white bs) (sym one) ∙ run_step bs classes.White p (omega (arith, one))

    skip_more : (k n : ℕ) → Skips k n → Skips k (suc n)
    skip_more k n before p l lt e = go (is_white (byte bs p)) refl
      where
        go : (t : Bool) → is_white (byte bs p) ≡ t → stop_behind stops.Argument bs [] (white bs p) ≡ Some k
        go false t = ap (stop_behind stops.Argument bs []) (white_none bs p t) ∙ e
        go true t =
            let same = white_on p t in
            ap (stop_behind stops.Argument bs []) (sym same) ∙ before (p + 1) (omega (arith, l, same)) (omega (arith, lt, same)) (skip_one p k t e)

    skip_white : (k n : ℕ) → Skips k n
    skip_white k zero p l lt e = let up = run_forward bs classes.White p in ap (stop_behind stops.Argument bs []) (let z : white bs p ≡ p = omega (arith, l, up) in z) ∙ e
    skip_white k (suc n) p l lt e = skip_more k n (skip_white k n) p l lt e

    stop_is : (xs : List ℕ) (p : ℕ) → stop_at stops.Argument xs p ≡ stop_behind stops.Argument xs [] p
    unfolding stop_at
    stop_is xs p = refl

    module _ (i k d : ℕ) (s : byte bs i ≡ sign ":") (begins : begins_name bs (colons_end bs i) ≡ true) (bracket : byte bs (name_end bs (colons_end bs i)) ≡ sign "(")
        (takes : takes_selectors (pseudo_name bs i (name_end bs (colons_end bs i))) ≡ false) (stop : stop_at stops.Argument bs (name_end bs (colons_end bs i) + 1) ≡ Some k)
        (close : byte bs k ≡ sign ")") (lt : white bs (name_end bs (colons_end bs i) + 1) < k)
        (st : Stands cs d (with_argument (pseudo_name bs i (name_end bs (colons_end bs i))) (argument_text bs (name_end bs (colons_end bs i) + 1) k))) where
      abbrev j : ℕ
      j = name_end bs (colons_end bs i)

      abbrev name : List ℕ
      name = pseudo_name bs i j

      abbrev p : ℕ
      p = white bs (j + 1)

      abbrev e : ℕ
      e = argument_end bs p k

      abbrev text : List ℕ
      text = piece bs p e

      abbrev q : ℕ
      q = (d + length name) + 1

      parens : InParens d name text
      parens = in_parens d name text st

      a : Again bs cs w i (colons_end bs i) d (colons_end cs d) name
      a = pseudo_again bs cs w inner inner_ i d s begins parens.name_stands (ap parts_names parens.opened)

      t : Trimmed bs p e k
      t = trimmed bs p k lt (white_ends bs (j + 1))

      cut : is_cut bs p ≡ true
      cut = white_cut bs w (j + 1) (w.behind j (omega (arith, bracket)))

      white_small : (b : ℕ) → is_white b ≡ true → b < 128
      white_small b z = grind (arith, nat_tests)

      cut_by : (b : Bool) → nat_lt e k ≡ b → is_cut bs e ≡ true
      cut_by true b = cut_before bs e (white_small (byte bs e) (t.white e (omega arith) (grind (arith, nat_tests))))
      cut_by false b =
          let ge : k ≤ e = grind (arith, nat_tests) in
          let within = t.within in
          let here : byte bs e ≡ sign ")" = ap (byte bs) (let z : e ≡ k = omega (arith, ge, within) in z) ∙ close in
          cut_before bs e (omega (arith, here))

      cut_ : is_cut bs e ≡ true
      cut_ = cut_by (nat_lt e k) refl

      free : continues (byte cs (q + length text)) ≡ false
      free = ap continues parens.close

      size_ : length text ≡ e - p
      size_ = piece_length bs cs w p e q t.some cut cut_ parens.text_stands

      al : Alike bs cs p q (e - p)
      al = piece_alike bs cs w p e q t.some cut cut_ parens.text_stands

      t_ : Trimmed bs p (p + (e - p)) k
      t_ = let some = t.some in subst (λ (x : ℕ). Trimmed bs p x k) (let z : e ≡ p + (e - p) = omega (arith, some) in z) t

      close_ : byte cs (q + (e - p)) ≡ sign ")"
      close_ = ap (λ (x : ℕ). byte cs (q + x)) (sym size_) ∙ parens.close

      no_white : white cs q ≡ q
      no_white = white_none cs q (ap is_white (piece_first bs cs w p e q t.some cut cut_ parens.text_stands) ∙ white_ends bs (j + 1))

      found : stop_at stops.Argument cs q ≡ Some (q + length text)
      found =
          stop_is cs q ∙ ap (stop_behind stops.Argument cs []) (let z : q ≡ q + (p - p) = omega arith in z)
          ∙ scan_again bs cs p q (e - p) k al t_ close close_ (e - p) [] p (omega arith) (omega arith) (omega arith)
          (skip_white k p (j + 1) (omega arith) lt (sym (stop_is bs (j + 1)) ∙ stop))
          ∙ ap Some (let z : q + ((p + (e - p)) - p) ≡ q + length text = omega (arith, size_) in z)

      text_again : argument_text cs q (q + length text) ≡ text
      text_again =
          ap (λ (x : ℕ). piece cs x (argument_end cs x (q + length text))) no_white
          ∙ ap (λ (x : ℕ). piece cs q (argument_end cs q x)) (ap (λ (x : ℕ). q + x) size_)
          ∙ ap (piece cs q) (end_again bs cs p q (e - p) k al t_) ∙ ap (λ (x : ℕ). piece cs q (q + x)) (sym size_)
          ∙ piece_same bs cs w p e q t.some cut cut_ parens.text_stands free

      whole : Simple inner_ cs d (d + length (with_argument name text)) (parts.Closed (with_argument name text))
      whole =
          let some = t.some in
          subst (λ (x : ℕ). Simple inner_ cs d x (parts.Closed (with_argument name text))) (sym parens.size)
          (subst (λ (x : List ℕ). Simple inner_ cs d ((q + length text) + 1) (parts.Closed (with_argument name x))) text_again
          (subst (λ (x : List ℕ). Simple inner_ cs d ((q + length text) + 1) (parts.Closed (with_argument x (argument_text cs q (q + length text))))) a.text_is
          (g.Simple.pseudo_with (a.first ∙ s) a.name parens.opened (ap takes_selectors a.text_is ∙ takes) found parens.close (omega (arith, no_white, size_, some)))))

    pub argument_back : (i k d : ℕ) → byte bs i ≡ sign ":" → begins_name bs (colons_end bs i) ≡ true → byte bs (name_end bs (colons_end bs i)) ≡ sign "("
        → takes_selectors (pseudo_name bs i (name_end bs (colons_end bs i))) ≡ false → stop_at stops.Argument bs (name_end bs (colons_end bs i) + 1) ≡ Some k → byte bs k ≡ sign ")"
        → white bs (name_end bs (colons_end bs i) + 1) < k
        → Back bs cs w inner inner_ (parts.Closed (with_argument (pseudo_name bs i (name_end bs (colons_end bs i))) (argument_text bs (name_end bs (colons_end bs i) + 1) k))) d
        (with_argument (pseudo_name bs i (name_end bs (colons_end bs i))) (argument_text bs (name_end bs (colons_end bs i) + 1) k))
    argument_back i k d s begins bracket takes stop close lt st f = whole i k d s begins bracket takes stop close lt st
