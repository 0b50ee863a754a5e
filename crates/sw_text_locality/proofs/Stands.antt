-- Texts that stand in another, and names in them.
use Rattle.std.proofs.Common.{◌≡◌, ℕ, ◌+◌, ◌-◌, ◌≤◌, ◌<◌, Bool, true, false, not, ◌&&◌, List, [], ◌∷◌, ◌++◌, length, take, drop, refl, sym, ◌∙◌, ap, subst, arith, append_assoc, length-append}
use Rattle.std.specs.Prelude.{◌==◌, nat_le, slice_range, codes, if◌then◌else◌}
use Rattle.std.proofs.lemmas.Bool.Decides.{nat_tests}
use Rattle.std.proofs.Math.Seq.{drop-append_seam, take-append_seam}
use Rattle.sw_text_scan.specs.declared.runs.Class.TheVariants as classes
use Rattle.sw_text_scan.specs.declared.signs.TheConstants.{LINE_FEED}
use Rattle.sw_text_scan.specs.Bytes.{sign, byte, continues}
use Rattle.sw_text_scan.specs.Runs.{run_from, run_end, next, begins_name}
use Rattle.sw_text_scan.specs.Pieces.{is_cut, piece}
use Rattle.sw_text_scan.proofs.Bounds.{if_true, if_false, and_right, run_onward, next_from}
use Rattle.sw_text_scan.proofs.Progress.{run_on, run_stops}
use Rattle.sw_text_locality.specs.Names.{name_end, unclosed_from, ends_unclosed, name_text, parts_names}
use Rattle.sw_text_locality.proofs.Begins.{begins_kept}
use Rattle.sw_text_locality.proofs.Characters.{closes, closing}
use Rattle.sw_text_locality.proofs.Kept.{Alike, EndsAt, run_kept}
use Rattle.sw_text_locality.proofs.Written.{byte_behind, byte_before, byte_range, length_range, space, name_cut, no_name, parted}

-- at this place of the text
pub record Stands (cs : List ℕ) (d : ℕ) (text : List ℕ) : Type 0 where
  pub before : List ℕ
  pub after : List ℕ
  pub is : cs ≡ before ++ (text ++ after)
  pub at : d ≡ length before

module _ (cs : List ℕ) (d : ℕ) where
  pub stands_byte : (text : List ℕ) → Stands cs d text → (k : ℕ) → k < length text → byte cs (d + k) ≡ byte text k
  stands_byte text s k lt =
      ap (λ (x : List ℕ). byte x (d + k)) s.is ∙ ap (λ (x : ℕ). byte (s.before ++ (text ++ s.after)) (x + k)) s.at
      ∙ byte_behind s.before (text ++ s.after) k ∙ byte_before text s.after k lt

  pub stands_first : (text : List ℕ) → Stands cs d text → 0 < length text → byte cs d ≡ byte text 0
  stands_first text s lt = ap (byte cs) (let e : d ≡ d + 0 = omega arith in e) ∙ stands_byte text s 0 lt

  pub stands_left : (xs ys : List ℕ) → Stands cs d (xs ++ ys) → Stands cs d xs
  stands_left xs ys s =
      record { before = s.before; after = ys ++ s.after; is = s.is ∙ ap (λ (x : List ℕ). s.before ++ x) (append_assoc xs ys s.after); at = s.at }

  pub stands_right : (xs ys : List ℕ) → Stands cs d (xs ++ ys) → Stands cs (d + length xs) ys
  stands_right xs ys s = record {
    before = s.before ++ xs;
    after = s.after;
    is = s.is ∙ ap (λ (x : List ℕ). s.before ++ x) (append_assoc xs ys s.after) ∙ sym (append_assoc s.before xs (ys ++ s.after));
    at = ap (λ (x : ℕ). x + length xs) s.at ∙ sym (length-append s.before xs);
  }

  pub stands_within : (text : List ℕ) → Stands cs d text → d + length text ≤ length cs
  stands_within text s =
      let e = ap length s.is ∙ length-append s.before (text ++ s.after) in let f = length-append text s.after in let g = s.at in omega (arith, e, f, g)

  pub stands_range : (text : List ℕ) → Stands cs d text → slice_range cs d (d + length text) ≡ text
  stands_range text s =
      let n : (d + length text) - d ≡ length text = omega arith in
      ap (λ (x : ℕ). take x (drop d cs)) n
      ∙ ap (λ (x : List ℕ). take (length text) (drop d x)) s.is
      ∙ ap (λ (x : ℕ). take (length text) (drop x (s.before ++ (text ++ s.after)))) s.at
      ∙ ap (take (length text)) (drop-append_seam s.before (text ++ s.after)) ∙ take-append_seam text s.after

  pub cut_at : d ≤ length cs → continues (byte cs d) ≡ false → is_cut cs d ≡ true
  cut_at l e = both (nat_le d (length cs)) (continues (byte cs d)) (grind (arith, nat_tests)) e
    where
      both : (a b : Bool) → a ≡ true → b ≡ false → (a && not b) ≡ true
      both true b e f = ap not f
      both false b e f = absurd (cc)

pub cut_byte : (bs : List ℕ) (i : ℕ) → is_cut bs i ≡ true → continues (byte bs i) ≡ false
cut_byte bs i e = go (continues (byte bs i)) (and_right (nat_le i (length bs)) (not (continues (byte bs i))) e)
  where
    go : (t : Bool) → not t ≡ true → t ≡ false
    go true e = absurd (cc)
    go false e = refl

pub piece_is : (bs : List ℕ) (i j : ℕ) → i ≤ j → is_cut bs i ≡ true → is_cut bs j ≡ true → piece bs i j ≡ slice_range bs i j
unfolding piece
piece_is bs i j l e f =
    if_true (nat_le i j && (is_cut bs i && is_cut bs j)) (slice_range bs i j) [] (all (nat_le i j) (is_cut bs i) (is_cut bs j) (grind (arith, nat_tests)) e f)
  where
    all : (a b c : Bool) → a ≡ true → b ≡ true → c ≡ true → (a && (b && c)) ≡ true
    all true true c e f g = g
    all true false c e f g = absurd (cc)
    all false b c e f g = absurd (cc)

-- a text between two characters is the piece there
pub piece_again : (cs : List ℕ) (d : ℕ) (text : List ℕ) → Stands cs d text → continues (byte cs d) ≡ false → continues (byte cs (d + length text)) ≡ false
    → piece cs d (d + length text) ≡ text
piece_again cs d text s e f =
    let w = stands_within cs d text s in
    piece_is cs d (d + length text) (omega arith) (cut_at cs d (omega (arith, w)) e) (cut_at cs (d + length text) w f) ∙ stands_range cs d text s

pub parts_cut : (b : ℕ) → parts_names b ≡ true → continues b ≡ false
parts_cut b e = grind (arith, nat_tests)

no_feed : (b : ℕ) → parts_names b ≡ true → not (b == LINE_FEED) ≡ true
no_feed b p = grind (arith, nat_tests)

abbrev closer : Bool → List ℕ
closer true = codes " "
closer false = []

closer_length : (t : Bool) → length (closer t) ≡ closing t
closer_length true = refl
closer_length false = refl

append_none : (xs : List ℕ) → xs ≡ xs ++ []
append_none [] = refl
append_none (x ∷ xs) = ap (λ (ys : List ℕ). x ∷ ys) (append_none xs)

module _ (bs : List ℕ) (i k : ℕ) (le : i ≤ k) (taken : k < next classes.Name bs k) (cut : is_cut bs i ≡ true) where
  abbrev j : ℕ
  j = name_end bs k

  abbrev bare : Bool
  bare = ends_unclosed bs k

  abbrev text : List ℕ
  text = name_text bs i k (name_end bs k)

  further : k < j
  further = run_on bs classes.Name k taken

  within : k < length bs
  within = next_from bs classes.Name k taken

  end_within : j ≤ length bs
  end_within = (run_onward bs classes.Name k (let w = within in omega (arith, w))).within

  cut_end : is_cut bs j ≡ true
  cut_end = cut_at bs j end_within (name_cut (byte bs j) (no_name bs j (run_stops bs classes.Name k)))

  text_is : text ≡ slice_range bs i j ++ closer bare
  unfolding name_text
  text_is = go bare
    where
      piece_here : piece bs i j ≡ slice_range bs i j
      piece_here = piece_is bs i j (let f = further in omega (arith, f, le)) cut cut_end

      go : (t : Bool) → (if t then piece bs i j ++ codes " " else piece bs i j) ≡ slice_range bs i j ++ closer t
      go true = ap (λ (xs : List ℕ). xs ++ codes " ") piece_here
      go false = piece_here ∙ append_none (slice_range bs i j)

  range_length : length (slice_range bs i j) ≡ j - i
  range_length = length_range bs i j end_within

  text_length : length text ≡ (j - i) + closing bare
  text_length =
      ap length text_is ∙ length-append (slice_range bs i j) (closer bare) ∙ ap (λ (n : ℕ). n + length (closer bare)) range_length
      ∙ ap (λ (n : ℕ). (j - i) + n) (closer_length bare)

  text_byte : (n : ℕ) → n < j - i → byte text n ≡ byte bs (i + n)
  text_byte n lt =
      ap (λ (xs : List ℕ). byte xs n) text_is ∙ byte_before (slice_range bs i j) (closer bare) n (let e = range_length in omega (arith, e, lt)) ∙ byte_range bs i j n lt

  pub name_some : 0 < length text
  name_some = let e = text_length in let f = further in omega (arith, e, f, le)

  pub name_first : byte text 0 ≡ byte bs i
  name_first = text_byte 0 (let f = further in omega (arith, f, le)) ∙ ap (byte bs) (let e : i + 0 ≡ i = omega arith in e)

  module _ (cs : List ℕ) (d : ℕ) (s : Stands cs d text) (follow : parts_names (byte cs (d + length text)) ≡ true) where
    abbrev q : ℕ
    q = d + (k - i)

    pub name_alike : Alike bs cs i d (j - i)
    name_alike n lt = sym (stands_byte cs d text s n (let e = text_length in omega (arith, e, lt)) ∙ text_byte n lt)

    alike_name : Alike bs cs k q (j - k)
    alike_name n lt =
        let f = further in
        let here : k + n ≡ i + ((k - i) + n) = omega (arith, le) in
        let there : d + ((k - i) + n) ≡ q + n = omega (arith, le) in
        ap (byte bs) here ∙ name_alike ((k - i) + n) (omega (arith, lt, le, f)) ∙ ap (byte cs) there

    closed : closes bare (byte cs (q + (j - k))) ≡ true
    closed = go bare refl
      where
        go : (t : Bool) → bare ≡ t → closes t (byte cs (q + (j - k))) ≡ true
        go false e =
            let f = further in
            let size : q + (j - k) ≡ d + length text = omega (arith, text_length, ap closing e, f, le) in
            no_feed (byte cs (q + (j - k))) (ap (λ (x : ℕ). parts_names (byte cs x)) size ∙ follow)
        go true e =
            let f = further in
            let size : j - i < length text = omega (arith, text_length, ap closing e) in
            let place : q + (j - k) ≡ d + (j - i) = omega (arith, f, le) in
            let size2 = range_length in
            let at : byte cs (q + (j - k)) ≡ sign " " =
            ap (byte cs) place ∙ stands_byte cs d text s (j - i) size ∙ ap (λ (xs : List ℕ). byte xs (j - i)) (text_is ∙ ap (λ (t : Bool). slice_range bs i j ++ closer t) e)
            ∙ ap (byte (slice_range bs i j ++ codes " ")) (let p : j - i ≡ length (slice_range bs i j) + 0 = omega (arith, size2) in p)
            ∙ byte_behind (slice_range bs i j) (codes " ") 0 ∙ space in
            ap (λ (b : ℕ). b == sign " ") at

    same_end : (q + (j - k)) + closing bare ≡ d + length text
    same_end = let f = further in let e = text_length in omega (arith, e, f, le)

    run_is : run_from classes.Name bs (length bs - k) k ≡ j
    unfolding run_end
    run_is = refl

    test_is : unclosed_from bs (length bs - k) false k ≡ bare
    unfolding ends_unclosed
    test_is = refl

    ends_at : EndsAt bs cs q ((q + (j - k)) + closing bare)
    ends_at =
        run_kept bs cs (length bs - k) k q j bare false run_is test_is taken (let w = within in omega (arith, w)) alike_name closed
        (let none = parted cs (d + length text) (byte cs (d + length text)) refl follow in
        subst (λ (x : ℕ). next classes.Name cs x ≤ x) (sym same_end) (omega (arith, none)))

    pub name_end_again : name_end cs q ≡ d + length text
    name_end_again = ends_at.end ∙ same_end

    pub name_begins_again : begins_name bs k ≡ true → begins_name cs q ≡ true
    name_begins_again begins = begins_kept bs cs k q (j - k) alike_name begins (let f = further in omega (arith, f))

    whole_again : ends_unclosed cs q ≡ false
    unfolding ends_unclosed
    whole_again = ends_at.whole false

    pub name_first_again : byte cs d ≡ byte bs i
    name_first_again = stands_first cs d text s name_some ∙ name_first

    pub name_text_again : name_text cs d q (d + length text) ≡ text
    unfolding name_text
    name_text_again =
        if_false (ends_unclosed cs q) (piece cs d (d + length text) ++ codes " ") (piece cs d (d + length text)) whole_again
        ∙ piece_again cs d text s (ap continues name_first_again ∙ cut_byte bs i cut) (parts_cut (byte cs (d + length text)) follow)
