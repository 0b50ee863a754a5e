-- A number that was read: where its digits end, and the unit behind them.
use Rattle.std.proofs.Common.{◌≡◌, ◌≤◌, ◌<◌, ℕ, zero, suc, ◌+◌, ◌-◌, Bool, true, false, not, ◌&&◌, ◌||◌, if◌then◌else◌, List, ◌++◌, length, take, drop, Option, Some, None, inl, inr, refl, sym, ◌∙◌, ap, arith, append_assoc, take-append-drop, length-drop, length-append}
use Prim.Native.String.{String}
use Rattle.std.specs.Prelude.{◌==◌}
use Rattle.sw_text_scan.specs.declared.runs.Class.TheVariants as classes
use Rattle.sw_text_scan.specs.declared.signs.TheConstants.{END}
use Rattle.sw_text_scan.specs.Bytes.{sign, byte, is_digit}
use Rattle.sw_text_scan.specs.Runs.{run_end}
use Rattle.sw_text_scan.specs.Words.{fraction_end, is_exponent, is_plus_or_minus, exponent_end, unit_start, unit_end, begins_number}
use Rattle.sw_text_scan.proofs.Bounds.{byte_past, if_true, if_false, and_left, and_right, run_step, run_stop, run_past, run_forward, run_within, fraction_onward, exponent_onward, unit_onward}
use Rattle.sw_text_scan.proofs.Progress.{run_on}
use Rattle.sw_text_locality.proofs.Written.{byte_before}
use Rattle.sw_tokens.specs.declared.pieces.Before.{Before}
use Rattle.sw_tokens.specs.declared.pieces.Change.{Change}
use Rattle.sw_tokens.specs.declared.pieces.Change.TheVariants as changes
use Rattle.sw_tokens.specs.declared.pieces.Piece.{Piece}
use Rattle.sw_tokens.specs.declared.skips.Inside.{Inside}
use Rattle.sw_tokens.specs.declared.token.TokenKind.{TokenKind}
use Rattle.sw_tokens.specs.declared.token.TokenKind.TheVariants as kinds
use Rattle.sw_tokens.specs.Pieces.{made, piece, comparison_of, sign_of, number_kind, number_piece}
use Rattle.sw_convert_spelling.proofs.Again.{lt_or_le}
use Rattle.sw_convert_spelling.proofs.Choices.{left_no, right_no, both, is_name, to_of, unlike, no_white_piece}
use Rattle.sw_convert_spelling.proofs.MovedRuns as moved
use Rattle.sw_convert_tokens.proofs.PieceCases.{is_bare, Cases, piece_has, name_has}

-- ---- what a number is

abbrev pub is_numeric : TokenKind → Bool
is_numeric kinds.Digits = true
is_numeric kinds.Number = true
is_numeric _ = false

abbrev pub is_signed : TokenKind → Bool
is_signed kinds.Plus = true
is_signed kinds.Minus = true
is_signed _ = false

pub record NumberHere (bs : List ℕ) (n : ℕ) : Type 0 where
  pub begins : begins_number bs 0 ≡ true
  pub ends : unit_end bs (unit_start bs 0) ≡ n

pub record SignHere (kind : TokenKind) (bs : List ℕ) (n : ℕ) : Type 0 where
  pub is : is_plus_or_minus (byte bs 0) ≡ true
  pub kind_is : sign_of (byte bs 0) ≡ kind
  pub one : n ≡ 1

-- the token of a piece
abbrev token_kind : Option TokenKind → TokenKind
token_kind None = kinds.Other
token_kind (Some kind) = kind

abbrev kind_in : Option Piece → TokenKind
kind_in None = kinds.Other
kind_in (Some p) = token_kind p.token

pick_no : (f : TokenKind → Bool) (t : Bool) (x y : TokenKind) → f x ≡ false → f y ≡ false → f (if t then x else y) ≡ false
pick_no f true x y e g = e
pick_no f false x y e g = g

-- signs of one byte
no_numeric : (b : ℕ) → is_numeric (sign_of b) ≡ false
no_numeric b =
    none "{" kinds.OpenBrace _ refl (none "}" kinds.CloseBrace _ refl (none "(" kinds.OpenParen _ refl
    (none ")" kinds.CloseParen _ refl (none "[" kinds.OpenBracket _ refl (none "]" kinds.CloseBracket _ refl
    (none ":" kinds.Colon _ refl (none ";" kinds.Semicolon _ refl (none "," kinds.Comma _ refl (none "." kinds.Dot _ refl
    (none "$" kinds.Dollar _ refl (none "#" kinds.Hash _ refl (none "!" kinds.Exclamation _ refl
    (none "&" kinds.Ampersand _ refl (none "+" kinds.Plus _ refl (none "-" kinds.Minus _ refl (none "*" kinds.Star _ refl
    (none "/" kinds.Slash _ refl (none "%" kinds.Percent _ refl (none "=" kinds.Equals _ refl (none "<" kinds.Less _ refl
    (none ">" kinds.Greater _ refl (none "@" kinds.At kinds.Other refl refl))))))))))))))))))))))
  where
    none : (s : String) (x y : TokenKind) → is_numeric x ≡ false → is_numeric y ≡ false
        → is_numeric (if b == sign s then x else y) ≡ false
    none s x y e f = pick_no is_numeric (b == sign s) x y e f

-- a `+` or `-` is this byte
signed_byte : (b : ℕ) → is_signed (sign_of b) ≡ true → is_plus_or_minus b ≡ true
signed_byte b =
    no (b == sign "{") kinds.OpenBrace _ refl (no (b == sign "}") kinds.CloseBrace _ refl
    (no (b == sign "(") kinds.OpenParen _ refl (no (b == sign ")") kinds.CloseParen _ refl
    (no (b == sign "[") kinds.OpenBracket _ refl (no (b == sign "]") kinds.CloseBracket _ refl
    (no (b == sign ":") kinds.Colon _ refl (no (b == sign ";") kinds.Semicolon _ refl
    (no (b == sign ",") kinds.Comma _ refl (no (b == sign ".") kinds.Dot _ refl
    (no (b == sign "$") kinds.Dollar _ refl (no (b == sign "#") kinds.Hash _ refl
    (no (b == sign "!") kinds.Exclamation _ refl (no (b == sign "&") kinds.Ampersand _ refl
    (yes_or (b == sign "+") kinds.Plus _ (λ t. or_yes (b == sign "+") (b == sign "-") t)
    (yes_or (b == sign "-") kinds.Minus _ (λ t. or_more (b == sign "+") (b == sign "-") t)
    (λ e. absurd (let wrong : true ≡ false = sym e ∙ others in cc)))))))))))))))))
  where
    no : {P : Type 0} (t : Bool) (x y : TokenKind) → is_signed x ≡ false → (is_signed y ≡ true → P)
        → is_signed (if t then x else y) ≡ true → P
    no true x y f more e = absurd (let wrong : true ≡ false = sym e ∙ f in cc)
    no false x y f more e = more e

    yes_or : {P : Type 0} (t : Bool) (x y : TokenKind) → (t ≡ true → P) → (is_signed y ≡ true → P)
        → is_signed (if t then x else y) ≡ true → P
    yes_or true x y f more e = f refl
    yes_or false x y f more e = more e

    or_yes : (a c : Bool) → a ≡ true → (a || c) ≡ true
    or_yes true c e = refl
    or_yes false c e = absurd (cc)

    or_more : (a c : Bool) → c ≡ true → (a || c) ≡ true
    or_more true c e = refl
    or_more false c e = e

    others : is_signed
        (if b == sign "*" then kinds.Star else (if b == sign "/" then kinds.Slash else comparison_of b)) ≡ false
    others =
        pick_no is_signed (b == sign "*") kinds.Star _ refl (pick_no is_signed (b == sign "/") kinds.Slash _ refl
        (pick_no is_signed (b == sign "%") kinds.Percent _ refl (pick_no is_signed (b == sign "=") kinds.Equals _ refl
        (pick_no is_signed (b == sign "<") kinds.Less _ refl (pick_no is_signed (b == sign ">") kinds.Greater _ refl
        (pick_no is_signed (b == sign "@") kinds.At kinds.Other refl refl))))))

-- a piece that is a token of some sort, and what holds where it is one
module _ (test : TokenKind → Bool) (kind : TokenKind) (n : ℕ) (change : Change) (k : test kind ≡ true) where
  abbrev result : Option Piece
  result = made kind n change

  not_so : {P : Type 0} (other : TokenKind) (a : ℕ) (c : Change) → made other a c ≡ result → test other ≡ false → P
  not_so other a c e f = absurd (let wrong : true ≡ false = sym k ∙ unlike test other a c e ∙ f in cc)

no_piece : {kind : TokenKind} {n : ℕ} {change : Change} {P : Type 0} → None ≡ made kind n change → P
no_piece e = absurd (cc)

module _ (kind : TokenKind) (n : ℕ) (change : Change) (k : is_numeric kind ≡ true) where
  abbrev Number : List ℕ → Option Piece → Type 0
  Number bs o = o ≡ made kind n change → NumberHere bs n

  bare_number : (other : TokenKind) → is_bare other ≡ true → is_numeric other ≡ false
  bare_number kinds.Digits e = sym e
  bare_number kinds.Number e = sym e
  bare_number _ e = refl

  number_cases : (bs : List ℕ) → Cases bs 0 (Number bs)
  unfolding number_piece
  number_cases bs = record {
    none = λ e. no_piece e;
    white = λ m e. no_white_piece _ e;
    plain = λ other o m c e.
        not_so is_numeric kind n change k other m c e (bare_number other (and_right (not (is_name other)) _ o));
    quoted = λ i j m e. not_so is_numeric kind n change k (kinds.Quoted _) m changes.Keep e refl;
    text = λ i j m e. not_so is_numeric kind n change k (kinds.Text _) m changes.Keep e refl;
    name = name_has bs 0 (Number bs) (λ other o m c e. not_so is_numeric kind n change k other m c e (bare_number other o))
        (λ e. not_so is_numeric kind n change k (sign_of (byte bs 0)) _ changes.Keep e (no_numeric (byte bs 0)));
    number = λ b e. record { begins = b; ends = ap to_of e };
    hex = λ b e. not_so is_numeric kind n change k kinds.Hex _ changes.Keep e refl;
    range = λ b e. not_so is_numeric kind n change k kinds.UnicodeRange _ changes.Keep e refl;
  }

  pub number_in : (bs : List ℕ) (inside : Inside) (before : Before) → piece bs inside before 0 ≡ made kind n change
      → NumberHere bs n
  number_in bs inside before = piece_has bs 0 (Number bs) (number_cases bs) inside before

module _ (kind : TokenKind) (n : ℕ) (change : Change) (k : is_signed kind ≡ true) where
  abbrev Sign : List ℕ → Option Piece → Type 0
  Sign bs o = o ≡ made kind n change → SignHere kind bs n

  bare_sign : (other : TokenKind) → is_bare other ≡ true → is_signed other ≡ false
  bare_sign kinds.Plus e = sym e
  bare_sign kinds.Minus e = sym e
  bare_sign _ e = refl

  sign_cases : (bs : List ℕ) → Cases bs 0 (Sign bs)
  unfolding number_piece
  sign_cases bs = record {
    none = λ e. no_piece e;
    white = λ m e. no_white_piece _ e;
    plain = λ other o m c e.
        not_so is_signed kind n change k other m c e (bare_sign other (and_right (not (is_name other)) _ o));
    quoted = λ i j m e. not_so is_signed kind n change k (kinds.Quoted _) m changes.Keep e refl;
    text = λ i j m e. not_so is_signed kind n change k (kinds.Text _) m changes.Keep e refl;
    name = name_has bs 0 (Sign bs) (λ other o m c e. not_so is_signed kind n change k other m c e (bare_sign other o))
        (λ e. record {
          is = signed_byte (byte bs 0) (sym (unlike is_signed (sign_of (byte bs 0)) _ changes.Keep e) ∙ k);
          kind_is = ap kind_in e;
          one = sym (ap to_of e);
        });
    number = λ b e.
        not_so is_signed kind n change k (number_kind bs (run_end classes.Digit bs 0) (unit_start bs 0)) _ changes.Keep e
        (pick_no is_signed _ kinds.Digits kinds.Number refl refl);
    hex = λ b e. not_so is_signed kind n change k kinds.Hex _ changes.Keep e refl;
    range = λ b e. not_so is_signed kind n change k kinds.UnicodeRange _ changes.Keep e refl;
  }

  pub sign_in : (bs : List ℕ) (inside : Inside) (before : Before) → piece bs inside before 0 ≡ made kind n change
      → SignHere kind bs n
  sign_in bs inside before = piece_has bs 0 (Sign bs) (sign_cases bs) inside before

-- ---- by itself

module _ (w old : List ℕ) where
  abbrev bs : List ℕ
  bs = w ++ old

  abbrev n : ℕ
  n = length w

  same : (k : ℕ) → k < n → byte w k ≡ byte bs k
  same k lt = sym (byte_before w old k lt)

  -- what isn't there before other text isn't there at the end of the text
  no : (f : ℕ → Bool) (k : ℕ) → f END ≡ false → f (byte bs k) ≡ false → f (byte w k) ≡ false
  no f k end e = elim (lt_or_le k n) [
    | inl lt ↦ ap f (same k lt) ∙ e
    | inr past ↦ ap f (byte_past w k past) ∙ end
  ]

  two_no : (f : ℕ → Bool) (x y : Bool) (k : ℕ) → f END ≡ false → (y ≡ false → x ≡ false) → (f (byte bs k) && y) ≡ false
      → (f (byte w k) && x) ≡ false
  two_no f x true k end more e = left_no (f (byte w k)) x (no f k end (first (f (byte bs k)) e))
    where
      first : (a : Bool) → (a && true) ≡ false → a ≡ false
      first true e = e
      first false e = refl
  two_no f x false k end more e = right_no (f (byte w k)) x (more refl)

  pub digits_alone : (f i e : ℕ) → n ≡ f + i → run_end classes.Digit bs i ≡ e → e ≤ n → run_end classes.Digit w i ≡ e
  digits_alone zero i e all r within =
      let fw = run_forward bs classes.Digit i in
      run_past w classes.Digit i (omega (arith, all)) ∙ (let z : i ≡ e = omega (arith, all, fw, r, within) in z)
  digits_alone (suc f) i e all r within = go (is_digit (byte bs i)) refl (digits_alone f (i + 1) e (omega (arith, all)))
    where
      lt : i < n
      lt = omega (arith, all)

      go : (t : Bool) → is_digit (byte bs i) ≡ t
          → (run_end classes.Digit bs (i + 1) ≡ e → e ≤ n → run_end classes.Digit w (i + 1) ≡ e)
          → run_end classes.Digit w i ≡ e
      go false t more =
          let none = if_false (is_digit (byte bs i)) (i + 1) i t in
          let stays = run_stop bs classes.Digit i (omega (arith, none)) in
          let new = if_false (is_digit (byte w i)) (i + 1) i (ap is_digit (same i lt) ∙ t) in
          run_stop w classes.Digit i (omega (arith, new)) ∙ sym stays ∙ r
      go true t more =
          let on = if_true (is_digit (byte bs i)) (i + 1) i t in
          let new = if_true (is_digit (byte w i)) (i + 1) i (ap is_digit (same i lt) ∙ t) in
          let old_step : run_end classes.Digit bs (i + 1) ≡ e =
          ap (run_end classes.Digit bs) (sym on) ∙ run_step bs classes.Digit i (omega (arith, on)) ∙ r in
          sym (run_step w classes.Digit i (omega (arith, new))) ∙ ap (run_end classes.Digit w) new ∙ more old_step within

  -- digits from a place on, of which the first stands there
  digits_from : (i : ℕ) → is_digit (byte bs i) ≡ true → run_end classes.Digit bs i ≤ n
      → (i < n) × (run_end classes.Digit w i ≡ run_end classes.Digit bs i)
  digits_from i t within =
      let on = if_true (is_digit (byte bs i)) (i + 1) i t in
      let goes = run_on bs classes.Digit i (omega (arith, on)) in
      let lt : i < n = omega (arith, goes, within) in
      (lt, digits_alone (n - i) i (run_end classes.Digit bs i) (omega (arith, lt)) refl within)

  fraction_alone : (d : ℕ) → fraction_end bs d ≤ n → fraction_end w d ≡ fraction_end bs d
  fraction_alone d = go ((byte bs d == sign ".") && is_digit (byte bs (d + 1))) refl
    where
      go : (t : Bool) → ((byte bs d == sign ".") && is_digit (byte bs (d + 1))) ≡ t
          → (if t then run_end classes.Digit bs (d + 1) else d) ≤ n
          → fraction_end w d ≡ (if t then run_end classes.Digit bs (d + 1) else d)
      go true t within =
          let more = digits_from (d + 1) (and_right (byte bs d == sign ".") _ t) within in
          let lt = more.0 in
          if_true ((byte w d == sign ".") && is_digit (byte w (d + 1))) (run_end classes.Digit w (d + 1)) d
          (both (byte w d == sign ".") _
          (ap (λ (b : ℕ). b == sign ".") (same d (omega (arith, lt))) ∙ and_left (byte bs d == sign ".") _ t)
          (ap is_digit (same (d + 1) lt) ∙ and_right (byte bs d == sign ".") _ t))
          ∙ more.1
      go false t within =
          if_false ((byte w d == sign ".") && is_digit (byte w (d + 1))) (run_end classes.Digit w (d + 1)) d
          (two_no (λ b. b == sign ".") (is_digit (byte w (d + 1))) (is_digit (byte bs (d + 1))) d refl (no is_digit (d + 1) refl) t)

  -- what is left of an exponent where no digits stand directly behind the `e`
  abbrev signed_end : ℕ → ℕ
  signed_end e =
      if is_exponent (byte w e) && (is_plus_or_minus (byte w (e + 1)) && is_digit (byte w (e + 2)))
      then run_end classes.Digit w (e + 2) else e

  exponent_alone : (e : ℕ) → exponent_end bs e ≤ n → exponent_end w e ≡ exponent_end bs e
  exponent_alone e =
      go (is_exponent (byte bs e) && is_digit (byte bs (e + 1))) refl
      (is_exponent (byte bs e) && (is_plus_or_minus (byte bs (e + 1)) && is_digit (byte bs (e + 2)))) refl
    where
      none : (is_exponent (byte bs e) && is_digit (byte bs (e + 1))) ≡ false → exponent_end w e ≡ signed_end e
      none t =
          if_false (is_exponent (byte w e) && is_digit (byte w (e + 1))) (run_end classes.Digit w (e + 1)) _
          (two_no is_exponent (is_digit (byte w (e + 1))) (is_digit (byte bs (e + 1))) e refl (no is_digit (e + 1) refl) t)

      go : (t : Bool) → (is_exponent (byte bs e) && is_digit (byte bs (e + 1))) ≡ t
          → (u : Bool) → (is_exponent (byte bs e) && (is_plus_or_minus (byte bs (e + 1)) && is_digit (byte bs (e + 2)))) ≡ u
          → (if t then run_end classes.Digit bs (e + 1) else (if u then run_end classes.Digit bs (e + 2) else e)) ≤ n
          → exponent_end w e
          ≡ (if t then run_end classes.Digit bs (e + 1) else (if u then run_end classes.Digit bs (e + 2) else e))
      go true t u v within =
          let digit = and_right (is_exponent (byte bs e)) _ t in
          let more = digits_from (e + 1) digit within in
          let lt = more.0 in
          if_true (is_exponent (byte w e) && is_digit (byte w (e + 1))) (run_end classes.Digit w (e + 1)) _
          (both (is_exponent (byte w e)) _ (ap is_exponent (same e (omega (arith, lt))) ∙ and_left (is_exponent (byte bs e)) _ t)
          (ap is_digit (same (e + 1) lt) ∙ digit))
          ∙ more.1
      go false t true v within =
          let signed = and_right (is_exponent (byte bs e)) _ v in
          let digit = and_right (is_plus_or_minus (byte bs (e + 1))) _ signed in
          let more = digits_from (e + 2) digit within in
          let lt = more.0 in
          none t
          ∙ if_true (is_exponent (byte w e) && (is_plus_or_minus (byte w (e + 1)) && is_digit (byte w (e + 2))))
          (run_end classes.Digit w (e + 2)) e
          (both (is_exponent (byte w e)) _ (ap is_exponent (same e (omega (arith, lt))) ∙ and_left (is_exponent (byte bs e)) _ v)
          (both (is_plus_or_minus (byte w (e + 1))) _
          (ap is_plus_or_minus (same (e + 1) (omega (arith, lt))) ∙ and_left (is_plus_or_minus (byte bs (e + 1))) _ signed)
          (ap is_digit (same (e + 2) lt) ∙ digit)))
          ∙ more.1
      go false t false v within =
          none t
          ∙ if_false (is_exponent (byte w e) && (is_plus_or_minus (byte w (e + 1)) && is_digit (byte w (e + 2))))
          (run_end classes.Digit w (e + 2)) e
          (two_no is_exponent (is_plus_or_minus (byte w (e + 1)) && is_digit (byte w (e + 2)))
          (is_plus_or_minus (byte bs (e + 1)) && is_digit (byte bs (e + 2))) e refl
          (λ g. two_no is_plus_or_minus (is_digit (byte w (e + 2))) (is_digit (byte bs (e + 2))) (e + 1) refl (no is_digit (e + 2) refl) g) v)

  -- where the unit of the number begins, it begins too where nothing stands behind the number
  pub start_alone : unit_start bs 0 ≤ n → unit_start w 0 ≡ unit_start bs 0
  start_alone within =
      let whole = run_within bs classes.Digit 0 (omega arith) in
      let fraction = fraction_onward bs (run_end classes.Digit bs 0) whole in
      let power = exponent_onward bs (fraction_end bs (run_end classes.Digit bs 0)) fraction.within in
      let past = power.forward in
      let up = fraction.forward in
      ap (λ (k : ℕ). exponent_end w (fraction_end w k))
      (digits_alone n 0 (run_end classes.Digit bs 0) (omega arith) refl (omega (arith, past, up, within)))
      ∙ ap (exponent_end w) (fraction_alone (run_end classes.Digit bs 0) (omega (arith, past, within)))
      ∙ exponent_alone (fraction_end bs (run_end classes.Digit bs 0)) within

-- a number's bytes: up to the unit, and the unit, which ended there before what stood behind
pub record OldUnit (w : List ℕ) : Type 0 where
  pub front : List ℕ
  pub unit : List ℕ
  pub old : List ℕ
  pub split : w ≡ front ++ unit
  pub start : unit_start w 0 ≡ length front
  pub ends : unit_end (unit ++ old) 0 ≡ length unit

pub old_unit : (w old : List ℕ) → unit_end (w ++ old) (unit_start (w ++ old) 0) ≡ length w → OldUnit w
old_unit w old e =
    let bs = w ++ old in
    let u = unit_start bs 0 in
    let whole = run_within bs classes.Digit 0 (omega arith) in
    let fraction = fraction_onward bs (run_end classes.Digit bs 0) whole in
    let power = exponent_onward bs (fraction_end bs (run_end classes.Digit bs 0)) fraction.within in
    let unit_on = unit_onward bs u power.within in
    let on = unit_on.forward in
    let within : u ≤ length w = omega (arith, on, e) in
    let front = take u w in
    let unit = drop u w in
    let both_are : front ++ unit ≡ w = take-append-drop u w in
    let unit_long = length-drop u w in
    let all_long = length-append front unit in
    let same_long = ap length both_are in
    let front_long : length front ≡ u = omega (arith, within, unit_long, all_long, same_long) in
    let text : bs ≡ front ++ (unit ++ old) = ap (λ (t : List ℕ). t ++ old) (sym both_are) ∙ append_assoc front unit old in
    let moved_end = moved.unit_moved front (unit ++ old) 0 in
    let there : unit_end (front ++ (unit ++ old)) (length front + 0) ≡ length w =
    ap (unit_end (front ++ (unit ++ old))) (let z : length front + 0 ≡ u = omega (arith, front_long) in z)
    ∙ ap (λ (t : List ℕ). unit_end t u) (sym text) ∙ e in
    record {
      front = front;
      unit = unit;
      old = old;
      split = sym both_are;
      start = start_alone w old within ∙ sym front_long;
      ends = omega (arith, moved_end, there, front_long, unit_long, within);
    }
