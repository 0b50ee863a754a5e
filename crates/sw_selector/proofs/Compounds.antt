-- What is written of compounds and combinators is these, before what ends a complex selector.
use Rattle.std.proofs.Common.{◌≡◌, ℕ, ◌+◌, ◌-◌, ◌≤◌, ◌<◌, true, false, List, [], ◌∷◌, ◌++◌, length, refl, sym, ◌∙◌, ap, subst, arith, append_assoc}
use Rattle.std.specs.Prelude.{codes}
use Rattle.sw_text_scan.specs.declared.runs.Class.TheVariants as classes
use Rattle.sw_text_scan.specs.Bytes.{sign, byte, is_white}
use Rattle.sw_text_scan.specs.Runs.{begins_name, next}
use Rattle.sw_text_scan.specs.Pieces.{is_cut, piece}
use Rattle.sw_text_scan.proofs.Bounds.{if_true, run_step}
use Rattle.sw_text_scan.proofs.Progress.{name_taken}
use Rattle.sw_selector.specs.declared.selector.Part.{Part}
use Rattle.sw_selector.specs.declared.selector.Part.TheVariants as parts
use Rattle.sw_selector.specs.Attributes.{prefix_end}
use Rattle.sw_text_locality.specs.Names.{white, name_end, name_text}
use Rattle.sw_text_scan.specs.declared.brackets.Stops.TheVariants as stops
use Rattle.sw_text_scan.specs.Brackets.{stop_at}
use Rattle.sw_selector.specs.Simples.{colons_end, argument_text, with_argument, takes_selectors}
use Rattle.sw_selector.specs.Writing.{part_text, parts_text, list_text}
use Rattle.sw_selector.specs.Grammar as g
use Rattle.sw_selector.specs.Grammar.{Inner, Name, pseudo_name, Simple, Head, Simples, Compound, Joint, Compounds, Ends, IsComplex}
use Rattle.sw_selector.proofs.Lexical.{prefix_forward, attribute_further, colons_forward}
use Rattle.sw_text_locality.proofs.Lexical.{equal, white_none}
use Rattle.sw_selector.proofs.Unrolled.{text_pseudo, text_parent, text_placeholder, text_named, text_closed}
use Rattle.sw_text_locality.proofs.Stands.{Stands, stands_first, stands_left, name_some, name_first}
use Rattle.sw_selector.proofs.Cuts.{Whole}
use Rattle.sw_selector.proofs.Closed.{attribute_shut}
use Rattle.sw_selector.proofs.Parts.{cut_before, piece_first, Back, HeadBack, class_back, id_back, placeholder_back, attribute_back, pseudo_back, type_back, any_back}
use Rattle.sw_selector.proofs.Pseudos.{parent_back, selectors_back, argument_back}

-- one white space
pub white_one : (cs : List ℕ) (d : ℕ) → is_white (byte cs d) ≡ true → is_white (byte cs (d + 1)) ≡ false → white cs d ≡ d + 1
white_one cs d e f =
    let step : next classes.White cs d ≡ d + 1 = if_true (is_white (byte cs d)) (d + 1) d e in
    sym (run_step cs classes.White d (omega (arith, step))) ∙ ap (white cs) step ∙ white_none cs (d + 1) f

pub parts_append : (xs ys : List Part) → parts_text false (xs ++ ys) ≡ parts_text false xs ++ parts_text false ys
parts_append [] ys = refl
parts_append (x ∷ xs) ys = ap (λ (t : List ℕ). part_text x false ++ t) (parts_append xs ys) ∙ sym (append_assoc (part_text x false) (parts_text false xs) (parts_text false ys))

module _ (bs cs : List ℕ) (w : Whole bs) (inner inner_ : Inner)
    (within : (i j : ℕ) (list : List (List Part)) → is_cut bs i ≡ true → inner i j list → (q : ℕ) → Stands cs q (list_text true list)
    → byte cs (q + length (list_text true list)) ≡ sign ")" → inner_ q (q + length (list_text true list)) list) where
  abbrev IsBack : Part → ℕ → List ℕ → Type 0
  IsBack part d text = Back bs cs w inner inner_ part d text

  named : (name : List ℕ) (d : ℕ) → IsBack (parts.Named name) d name → IsBack (parts.Named name) d (part_text (parts.Named name) false)
  named name d h = subst (IsBack (parts.Named name) d) (sym (text_named false name)) h

  closed : (text : List ℕ) (d : ℕ) → IsBack (parts.Closed text) d text → IsBack (parts.Closed text) d (part_text (parts.Closed text) false)
  closed text d h = subst (IsBack (parts.Closed text) d) (sym (text_closed false text)) h

  pub simple_back : (i j d : ℕ) (part : Part) → Simple inner bs i j part → IsBack part d (part_text part false)
  simple_back i j d part (g.Simple.class s n) =
      subst (λ (x : ℕ). IsBack (parts.Named (name_text bs i (i + 1) x)) d (part_text (parts.Named (name_text bs i (i + 1) x)) false)) (sym n.1)
      (named (name_text bs i (i + 1) (name_end bs (i + 1))) d (class_back bs cs w inner inner_ i d s n.0))
  simple_back i j d part (g.Simple.id s n) =
      subst (λ (x : ℕ). IsBack (parts.Named (name_text bs i (i + 1) x)) d (part_text (parts.Named (name_text bs i (i + 1) x)) false)) (sym n.1)
      (named (name_text bs i (i + 1) (name_end bs (i + 1))) d (id_back bs cs w inner inner_ i d s n.0))
  simple_back i j d part (g.Simple.placeholder s n) =
      subst (λ (x : ℕ). IsBack (parts.Placeholder (name_text bs i (i + 1) x)) d (part_text (parts.Placeholder (name_text bs i (i + 1) x)) false)) (sym n.1)
      (subst (IsBack (parts.Placeholder (name_text bs i (i + 1) (name_end bs (i + 1)))) d) (sym (text_placeholder false (name_text bs i (i + 1) (name_end bs (i + 1)))))
      (placeholder_back bs cs w inner inner_ i d s n.0))
  simple_back i j d part (g.Simple.attribute s e) = closed (piece bs i j) d (attribute_back bs cs w inner inner_ i j d s e)
  simple_back i j d part (g.Simple.pseudo s n e) =
      subst (λ (x : ℕ). IsBack (parts.Named (pseudo_name bs i x)) d (part_text (parts.Named (pseudo_name bs i x)) false)) (sym n.1)
      (named (pseudo_name bs i (name_end bs (colons_end bs i))) d (pseudo_back bs cs w inner inner_ i d s n.0))
  simple_back i j d part (g.Simple.pseudo_of {j = m} {k} {list} s n o takes inside close) =
      subst (λ (x : ℕ). IsBack (parts.Pseudo (pseudo_name bs i x) list) d (part_text (parts.Pseudo (pseudo_name bs i x) list) false)) (sym n.1)
      (subst (IsBack (parts.Pseudo (pseudo_name bs i (name_end bs (colons_end bs i))) list) d) (sym (text_pseudo false (pseudo_name bs i (name_end bs (colons_end bs i))) list))
      (selectors_back bs cs w inner inner_ i d list s n.0 (ap (λ (x : ℕ). takes_selectors (pseudo_name bs i x)) (sym n.1) ∙ takes)
      (within (m + 1) k list (w.behind m (omega (arith, o))) inside)))
  simple_back i j d part (g.Simple.pseudo_with {j = m} {k} s n o takes stop close lt) =
      subst (λ (x : ℕ). IsBack (parts.Closed (with_argument (pseudo_name bs i x) (argument_text bs (x + 1) k))) d (part_text (parts.Closed (with_argument (pseudo_name bs i x) (argument_text bs (x + 1) k))) false)) (sym n.1)
      (closed (with_argument (pseudo_name bs i (name_end bs (colons_end bs i))) (argument_text bs (name_end bs (colons_end bs i) + 1) k)) d
      (argument_back bs cs w inner inner_ i k d s n.0 (ap (byte bs) (sym n.1) ∙ o) (ap (λ (x : ℕ). takes_selectors (pseudo_name bs i x)) (sym n.1) ∙ takes)
      (ap (λ (x : ℕ). stop_at stops.Argument bs (x + 1)) (sym n.1) ∙ stop) close (subst (λ (x : ℕ). white bs (x + 1) < k) n.1 lt)))

  pub head_back : (i j d : ℕ) (part : Part) → is_cut bs i ≡ true → Head bs i j part → HeadBack bs cs w part d (part_text part false)
  head_back i j d part cut (g.Head.parent s e) =
      subst (λ (x : ℕ). HeadBack bs cs w (parts.Parent (name_text bs (i + 1) (i + 1) x)) d (part_text (parts.Parent (name_text bs (i + 1) (i + 1) x)) false)) (sym e)
      (subst (HeadBack bs cs w (parts.Parent (name_text bs (i + 1) (i + 1) (name_end bs (i + 1)))) d) (sym (text_parent false (name_text bs (i + 1) (i + 1) (name_end bs (i + 1)))))
      (parent_back bs cs w i d s))
  head_back i j d part cut (g.Head.type {k = k} p n) =
      subst (λ (x : ℕ). HeadBack bs cs w (parts.Named (name_text bs i k x)) d (part_text (parts.Named (name_text bs i k x)) false)) (sym n.1)
      (subst (λ (y : ℕ). HeadBack bs cs w (parts.Named (name_text bs i y (name_end bs y))) d (part_text (parts.Named (name_text bs i y (name_end bs y))) false)) (sym p)
      (subst (HeadBack bs cs w (parts.Named (name_text bs i (prefix_end bs i) (name_end bs (prefix_end bs i)))) d) (sym (text_named false (name_text bs i (prefix_end bs i) (name_end bs (prefix_end bs i)))))
      (type_back bs cs w i d cut (ap (begins_name bs) (sym p) ∙ n.0))))
  head_back i j d part cut (g.Head.any {k = k} p s) =
      subst (λ (y : ℕ). HeadBack bs cs w (parts.Closed (piece bs i (y + 1))) d (part_text (parts.Closed (piece bs i (y + 1))) false)) (sym p)
      (subst (HeadBack bs cs w (parts.Closed (piece bs i (prefix_end bs i + 1))) d) (sym (text_closed false (piece bs i (prefix_end bs i + 1))))
      (any_back bs cs w i d cut (ap (byte bs) (sym p) ∙ s)))

  -- the first byte
  start_name : (i k d : ℕ) → i ≤ k → begins_name bs k ≡ true → is_cut bs i ≡ true → Stands cs d (name_text bs i k (name_end bs k)) → byte cs d ≡ byte bs i
  start_name i k d l begins cut st =
      stands_first cs d (name_text bs i k (name_end bs k)) st (name_some bs i k l (name_taken bs k begins) cut) ∙ name_first bs i k l (name_taken bs k begins) cut

  abbrev Starts : ℕ → ℕ → List ℕ → Type 0
  Starts i d text = Stands cs d text → byte cs d ≡ byte bs i

  start_at : (i k j d : ℕ) → i ≤ k → begins_name bs k ≡ true → is_cut bs i ≡ true → j ≡ name_end bs k → Starts i d (name_text bs i k j)
  start_at i k j d l begins cut e st = start_name i k d l begins cut (subst (λ (x : ℕ). Stands cs d (name_text bs i k x)) e st)

  start_colons : (i j d : ℕ) → byte bs i ≡ sign ":" → Name bs (colons_end bs i) j → Starts i d (pseudo_name bs i j)
  start_colons i j d s n st =
      let up = colons_forward bs i in start_at i (colons_end bs i) j d (omega (arith, up)) n.0 (cut_before bs i (omega (arith, s))) n.1 st

  pub simple_start : (i j d : ℕ) (part : Part) → Simple inner bs i j part → Starts i d (part_text part false)
  simple_start i j d part (g.Simple.class s n) st =
      start_at i (i + 1) j d (omega arith) n.0 (cut_before bs i (omega (arith, s))) n.1 (subst (Stands cs d) (text_named false (name_text bs i (i + 1) j)) st)
  simple_start i j d part (g.Simple.id s n) st =
      start_at i (i + 1) j d (omega arith) n.0 (cut_before bs i (omega (arith, s))) n.1 (subst (Stands cs d) (text_named false (name_text bs i (i + 1) j)) st)
  simple_start i j d part (g.Simple.placeholder s n) st =
      start_at i (i + 1) j d (omega arith) n.0 (cut_before bs i (omega (arith, s))) n.1 (subst (Stands cs d) (text_placeholder false (name_text bs i (i + 1) j)) st)
  simple_start i j d part (g.Simple.attribute s e) st =
      let up = attribute_further bs i j e in
      let shut = equal (byte bs (j - 1)) (sign "]") (attribute_shut bs i j e) in
      piece_first bs cs w i j d up (cut_before bs i (omega (arith, s))) (ap (is_cut bs) (let z : j ≡ (j - 1) + 1 = omega (arith, up) in z) ∙ w.behind (j - 1) (omega (arith, shut)))
      (subst (Stands cs d) (text_closed false (piece bs i j)) st)
  simple_start i j d part (g.Simple.pseudo s n e) st = start_colons i j d s n (subst (Stands cs d) (text_named false (pseudo_name bs i j)) st)
  simple_start i j d part (g.Simple.pseudo_of {j = m} {k} {list} s n o takes inside close) st =
      start_colons i m d s n (in_front (pseudo_name bs i m) (list_text true list) (subst (Stands cs d) (text_pseudo false (pseudo_name bs i m) list) st))
    where
      in_front : (name text : List ℕ) → Stands cs d (name ++ codes "(" ++ text ++ codes ")") → Stands cs d name
      in_front name text st = stands_left cs d name (codes "(") (stands_left cs d (name ++ codes "(") text (stands_left cs d (name ++ codes "(" ++ text) (codes ")") st))
  simple_start i j d part (g.Simple.pseudo_with {j = m} {k} s n o takes stop close lt) st =
      start_colons i m d s n (in_front (pseudo_name bs i m) (argument_text bs (m + 1) k) (subst (Stands cs d) (text_closed false (with_argument (pseudo_name bs i m) (argument_text bs (m + 1) k))) st))
    where
      in_front : (name text : List ℕ) → Stands cs d (name ++ codes "(" ++ text ++ codes ")") → Stands cs d name
      in_front name text st = stands_left cs d name (codes "(") (stands_left cs d (name ++ codes "(") text (stands_left cs d (name ++ codes "(" ++ text) (codes ")") st))

  pub head_start : (i j d : ℕ) (part : Part) → is_cut bs i ≡ true → Head bs i j part → Starts i d (part_text part false)
  unfolding byte
  head_start i j d part cut (g.Head.parent s e) st =
      let n : length (codes "&") ≡ 1 = refl in
      stands_first cs d (codes "&") (stands_left cs d (codes "&") (name_text bs (i + 1) (i + 1) j) (subst (Stands cs d) (text_parent false (name_text bs (i + 1) (i + 1) j)) st)) (omega (arith, n)) ∙ sym s
  head_start i j d part cut (g.Head.type {k = k} p n) st =
      start_at i k j d (let up = prefix_forward bs i in omega (arith, up, p)) n.0 cut n.1 (subst (Stands cs d) (text_named false (name_text bs i k j)) st)
  head_start i j d part cut (g.Head.any {k = k} p s) st =
      piece_first bs cs w i (k + 1) d (let up = prefix_forward bs i in omega (arith, up, p)) cut (w.behind k (omega (arith, s))) (subst (Stands cs d) (text_closed false (piece bs i (k + 1))) st)
