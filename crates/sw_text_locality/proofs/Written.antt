-- The same, of texts: behind any text and before what goes on no name.
use Rattle.std.proofs.Common.{◌≡◌, ℕ, ◌+◌, ◌-◌, ◌≤◌, ◌<◌, Bool, true, false, not, ◌&&◌, List, [], ◌∷◌, ◌++◌, length, take, drop, get_or, refl, sym, ◌∙◌, ap, subst, arith, Option, Some, None, length-append}
use Rattle.std.specs.Prelude.{◌==◌, nat_le, slice_get, slice_range, unwrap_or, codes, if◌then◌else◌}
use Rattle.std.proofs.lemmas.Bool.Decides.{nat_tests}
use Rattle.std.proofs.lemmas.Option.{unwrap_or-slice_get}
use Rattle.std.proofs.lemmas.List.{get_or-take, get_or-drop, get_or_append_left, get_or-append-add, length-take-le, length-drop}
use Rattle.sw_text_scan.specs.declared.runs.Class.TheVariants as classes
use Rattle.sw_text_scan.specs.declared.signs.TheConstants.{END, LINE_FEED}
use Rattle.sw_text_scan.specs.Bytes.{sign, byte, byte_in, continues, is_name_byte}
use Rattle.sw_text_scan.specs.Runs.{escape_end, run_from, run_end, next, begins_name}
use Rattle.sw_text_scan.specs.Pieces.{is_cut, piece}
use Rattle.sw_text_scan.proofs.Bounds.{if_true, if_false, run_onward, next_from}
use Rattle.sw_text_scan.proofs.Progress.{name_taken, run_on, run_stops}
use Rattle.sw_text_locality.specs.Names.{name_end, unclosed_from, ends_unclosed, name_text, parts_names, kept_name, KeepsName}
use Rattle.sw_text_locality.proofs.Begins.{begins_kept}
use Rattle.sw_text_locality.proofs.Characters.{closes, closing}
use Rattle.sw_text_locality.proofs.Kept.{Alike, EndsAt, run_kept}

pub byte_get : (bs : List ℕ) (i : ℕ) → byte bs i ≡ get_or bs i END
unfolding byte
byte_get bs i = in_is (slice_get bs i) ∙ unwrap_or-slice_get bs i END
  where
    in_is : (o : Option ℕ) → byte_in o ≡ unwrap_or o END
    in_is None = refl
    in_is (Some b) = refl

pub byte_behind : (xs ys : List ℕ) (k : ℕ) → byte (xs ++ ys) (length xs + k) ≡ byte ys k
byte_behind xs ys k = byte_get (xs ++ ys) (length xs + k) ∙ get_or-append-add xs ys k END ∙ sym (byte_get ys k)

pub byte_before : (xs ys : List ℕ) (k : ℕ) → k < length xs → byte (xs ++ ys) k ≡ byte xs k
byte_before xs ys k lt = byte_get (xs ++ ys) k ∙ get_or_append_left xs ys END k lt ∙ sym (byte_get xs k)

pub byte_range : (bs : List ℕ) (i j k : ℕ) → k < j - i → byte (slice_range bs i j) k ≡ byte bs (i + k)
byte_range bs i j k lt =
    byte_get (take (j - i) (drop i bs)) k ∙ get_or-take (j - i) (drop i bs) k END lt ∙ get_or-drop i bs k END ∙ sym (byte_get bs (i + k))

pub length_range : (bs : List ℕ) (i j : ℕ) → j ≤ length bs → length (slice_range bs i j) ≡ j - i
length_range bs i j l = length-take-le (j - i) (drop i bs) (let e = length-drop i bs in omega (arith, e, l))

pub space : byte (codes " ") 0 ≡ sign " "
unfolding byte
space = refl

-- where the run of name characters ends, no character of another kind is cut
pub name_cut : (b : ℕ) → is_name_byte b ≡ false → continues b ≡ false
name_cut b e = grind (arith, nat_tests)

pub no_name : (bs : List ℕ) (i : ℕ) → next classes.Name bs i ≤ i → is_name_byte (byte bs i) ≡ false
no_name bs i l = go (is_name_byte (byte bs i)) refl
  where
    go : (t : Bool) → is_name_byte (byte bs i) ≡ t → t ≡ false
    go false e = refl
    go true e = let up = if_true (is_name_byte (byte bs i)) (i + 1) (escape_end bs i) e in absurd (omega (arith, up, l))

-- nothing of a name stands there
pub parted : (bs : List ℕ) (i b : ℕ) → byte bs i ≡ b → parts_names b ≡ true → next classes.Name bs i ≡ i
unfolding escape_end
parted bs i b e p =
    if_false (is_name_byte (byte bs i)) (i + 1) (escape_end bs i) (ap is_name_byte e ∙ name b p)
    ∙ if_true (not (byte bs i == sign "\\")) i _ (ap (λ (x : ℕ). not (x == sign "\\")) e ∙ slash b p)
  where
    name : (b : ℕ) → parts_names b ≡ true → is_name_byte b ≡ false
    name b p = grind (arith, nat_tests)

    slash : (b : ℕ) → parts_names b ≡ true → not (b == sign "\\") ≡ true
    slash b p = grind (arith, nat_tests)

module _ (bs : List ℕ) (i : ℕ) (begins : begins_name bs i ≡ true) (cut : is_cut bs i ≡ true) (before after : List ℕ) (parts_ : parts_names (byte after 0) ≡ true) where
  abbrev j : ℕ
  j = name_end bs i

  abbrev bare : Bool
  bare = ends_unclosed bs i

  abbrev closer : Bool → List ℕ
  closer true = codes " "
  closer false = []

  abbrev d : ℕ
  d = length before

  abbrev whole : List ℕ
  whole = before ++ (kept_name bs i ++ after)

  taken : i < next classes.Name bs i
  taken = name_taken bs i begins

  within : i < length bs
  within = next_from bs classes.Name i taken

  end_within : j ≤ length bs
  end_within = (run_onward bs classes.Name i (let w = within in omega (arith, w))).within

  further : i < j
  further = run_on bs classes.Name i taken

  cut_end : is_cut bs j ≡ true
  cut_end =
      let free = name_cut (byte bs j) (no_name bs j (run_stops bs classes.Name i)) in
      both (nat_le j (length bs)) (continues (byte bs j)) (let l = end_within in grind (arith, nat_tests)) free
    where
      both : (a b : Bool) → a ≡ true → b ≡ false → (a && not b) ≡ true
      both true b e f = ap not f
      both false b e f = absurd (cc)

  piece_is : piece bs i j ≡ slice_range bs i j
  unfolding piece
  piece_is =
      if_true (nat_le i j && (is_cut bs i && is_cut bs j)) (slice_range bs i j) []
      (all (nat_le i j) (is_cut bs i) (is_cut bs j) (let f = further in grind (arith, nat_tests)) cut cut_end)
    where
      all : (a b c : Bool) → a ≡ true → b ≡ true → c ≡ true → (a && (b && c)) ≡ true
      all true true c e f g = g
      all true false c e f g = absurd (cc)
      all false b c e f g = absurd (cc)

  name_is : kept_name bs i ≡ slice_range bs i j ++ closer bare
  unfolding name_text
  name_is = go bare
    where
      append_none : (xs : List ℕ) → xs ≡ xs ++ []
      append_none [] = refl
      append_none (x ∷ xs) = ap (λ (ys : List ℕ). x ∷ ys) (append_none xs)

      go : (t : Bool) → (if t then piece bs i j ++ codes " " else piece bs i j) ≡ slice_range bs i j ++ closer t
      go true = ap (λ (xs : List ℕ). xs ++ codes " ") piece_is
      go false = piece_is ∙ append_none (slice_range bs i j)

  name_length : length (kept_name bs i) ≡ (j - i) + closing bare
  name_length =
      ap length name_is ∙ length-append (slice_range bs i j) (closer bare)
      ∙ ap (λ (n : ℕ). n + length (closer bare)) (length_range bs i j end_within) ∙ ap (λ (n : ℕ). (j - i) + n) (go bare)
    where
      go : (t : Bool) → length (closer t) ≡ closing t
      go true = refl
      go false = refl

  -- in the name, and in the whole text
  in_name : (k : ℕ) → k < length (kept_name bs i) → byte whole (d + k) ≡ byte (kept_name bs i) k
  in_name k lt = byte_behind before (kept_name bs i ++ after) k ∙ byte_before (kept_name bs i) after k lt

  alike : Alike bs whole i d (j - i)
  alike k lt =
      let size = name_length in
      let size2 = length_range bs i j end_within in
      sym (in_name k (omega (arith, size, lt)) ∙ ap (λ (xs : List ℕ). byte xs k) name_is
      ∙ byte_before (slice_range bs i j) (closer bare) k (omega (arith, size2, lt)) ∙ byte_range bs i j k lt)

  -- behind it
  behind : (n : ℕ) → n ≡ length (kept_name bs i) → byte whole (d + n) ≡ byte after 0
  behind n e =
      byte_behind before (kept_name bs i ++ after) n
      ∙ ap (byte (kept_name bs i ++ after)) (let p : n ≡ length (kept_name bs i) + 0 = omega (arith, e) in p)
      ∙ byte_behind (kept_name bs i) after 0

  closed : closes bare (byte whole (d + (j - i))) ≡ true
  closed = go bare refl
    where
      no_feed : (b : ℕ) → parts_names b ≡ true → not (b == LINE_FEED) ≡ true
      no_feed b p = grind (arith, nat_tests)

      go : (t : Bool) → bare ≡ t → closes t (byte whole (d + (j - i))) ≡ true
      go false e =
          let size : j - i ≡ length (kept_name bs i) = omega (arith, name_length, ap closing e) in
          no_feed (byte whole (d + (j - i))) (ap parts_names (behind (j - i) size) ∙ parts_)
      go true e =
          let size : j - i < length (kept_name bs i) = omega (arith, name_length, ap closing e) in
          let size2 = length_range bs i j end_within in
          let at : byte whole (d + (j - i)) ≡ sign " " =
          in_name (j - i) size ∙ ap (λ (xs : List ℕ). byte xs (j - i)) (name_is ∙ ap (λ (t : Bool). slice_range bs i j ++ closer t) e)
          ∙ ap (byte (slice_range bs i j ++ codes " ")) (let p : j - i ≡ length (slice_range bs i j) + 0 = omega (arith, size2) in p)
          ∙ byte_behind (slice_range bs i j) (codes " ") 0 ∙ space in
          ap (λ (b : ℕ). b == sign " ") at

  ends : next classes.Name whole ((d + (j - i)) + closing bare) ≤ (d + (j - i)) + closing bare
  ends =
      let same : (d + (j - i)) + closing bare ≡ d + length (kept_name bs i) = omega (arith, name_length) in
      let none = parted whole (d + length (kept_name bs i)) (byte after 0) (behind (length (kept_name bs i)) refl) parts_ in
      subst (λ (x : ℕ). next classes.Name whole x ≤ x) (sym same) (omega (arith, none))

  run_is : run_from classes.Name bs (length bs - i) i ≡ j
  unfolding run_end
  run_is = refl

  test_is : unclosed_from bs (length bs - i) false i ≡ bare
  unfolding ends_unclosed
  test_is = refl

  ends_at : EndsAt bs whole d ((d + (j - i)) + closing bare)
  ends_at = run_kept bs whole (length bs - i) i d j bare false run_is test_is taken (let w = within in omega (arith, w)) alike closed ends

  pub kept_end : name_end whole d ≡ d + length (kept_name bs i)
  kept_end =
      ends_at.end
      ∙ (let p : (d + (j - i)) + closing bare ≡ d + length (kept_name bs i) = omega (arith, name_length) in p)

  pub kept_begin : begins_name whole d ≡ true
  kept_begin = begins_kept bs whole i d (j - i) alike begins (let f = further in omega (arith, f))

pub keeps_name : (text : List ℕ) (i : ℕ) → KeepsName text i
keeps_name text i begins cut before after p = (kept_begin text i begins cut before after p, kept_end text i begins cut before after p)
