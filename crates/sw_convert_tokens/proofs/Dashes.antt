-- A name that is kept with `-` for each `_` is a name where it is written.
use Rattle.std.proofs.Common.{◌≡◌, ◌⊎◌, ◌≤◌, ◌<◌, ℕ, zero, suc, ◌+◌, ◌-◌, Bool, true, false, not, ◌&&◌, ◌||◌, if◌then◌else◌, List, [], ◌∷◌, ◌++◌, length, map, inl, inr, refl, sym, ◌∙◌, ap, subst, arith}
use Rattle.std.specs.Prelude.{◌==◌, nat_lt}
use Rattle.std.proofs.lemmas.Bool.Decides.{nat_tests}
use Rattle.sw_text.specs.Names.{hyphen, underscore, dash, dashed}
use Rattle.sw_text_scan.specs.declared.runs.Class.TheVariants as classes
use Rattle.sw_text_scan.specs.declared.runs.TheConstants.{MOST_HEX_DIGITS}
use Rattle.sw_text_scan.specs.declared.signs.TheConstants.{END, CARRIAGE_RETURN, LINE_FEED}
use Rattle.sw_text_scan.specs.Bytes.{sign, byte, is_break, is_white, is_digit, is_letter, is_hex_digit, is_name_byte, starts_plainly}
use Rattle.sw_text_scan.specs.Runs.{hex_from, hex_end, white_end, escape_end, next, run_from, run_end, starts_at, begins_name}
use Rattle.sw_text_scan.proofs.Bounds.{if_true, if_false, run_stop}
use Rattle.sw_tokens.specs.declared.pieces.Change.TheVariants as changes
use Rattle.sw_tokens.specs.declared.token.TokenKind.{TokenKind}
use Rattle.sw_tokens.specs.declared.token.TokenKind.TheVariants as kinds
use Rattle.sw_tokens.specs.Pieces.{made, letter_kind, dash_kind, name_piece}
use Rattle.sw_convert_spelling.proofs.MovedRuns as moved
use Rattle.sw_convert_spelling.proofs.Again as texts
use Rattle.sw_convert_spelling.proofs.Choices.{both, by_test, is_name}
use Rattle.sw_convert_written.specs.Names.{begins_no_name, name_text}
use Rattle.sw_convert_tokens.proofs.Names.{goes, word_name}

-- ---- bytes

byte_map : (xs : List ℕ) (i : ℕ) → byte (map dash xs) i ≡ dash (byte xs i)
unfolding byte
byte_map [] i = refl
byte_map (x ∷ xs) zero = refl
byte_map (x ∷ xs) (suc i) = byte_map xs i

-- what is asked of a byte of a name is the same with a `-` for a `_`
record Same (b c : ℕ) : Type 0 where
  name : is_name_byte b ≡ is_name_byte c
  slash : (b == sign "\\") ≡ (c == sign "\\")
  hex : is_hex_digit b ≡ is_hex_digit c
  white : is_white b ≡ is_white c
  return : (b == CARRIAGE_RETURN) ≡ (c == CARRIAGE_RETURN)
  feed : (b == LINE_FEED) ≡ (c == LINE_FEED)
  broken : is_break b ≡ is_break c
  end : (b == END) ≡ (c == END)

same_self : (b : ℕ) → Same b b
same_self b = record {
  name = refl;
  slash = refl;
  hex = refl;
  white = refl;
  return = refl;
  feed = refl;
  broken = refl;
  end = refl;
}

same_dash : (b : ℕ) → (b == underscore) ≡ true → Same hyphen b
same_dash b e = record {
  name = sym (let t : is_name_byte b ≡ true = grind (arith, nat_tests) in t);
  slash = sym (let t : (b == sign "\\") ≡ false = grind (arith, nat_tests) in t);
  hex = sym (let t : is_hex_digit b ≡ false = grind (arith, nat_tests) in t);
  white = sym (let t : is_white b ≡ false = grind (arith, nat_tests) in t);
  return = sym (let t : (b == CARRIAGE_RETURN) ≡ false = grind (arith, nat_tests) in t);
  feed = sym (let t : (b == LINE_FEED) ≡ false = grind (arith, nat_tests) in t);
  broken = sym (let t : is_break b ≡ false = grind (arith, nat_tests) in t);
  end = sym (let t : (b == END) ≡ false = grind (arith, nat_tests) in t);
}

dash_same : (b : ℕ) → Same (dash b) b
dash_same b = go (b == underscore) refl
  where
    go : (t : Bool) → (b == underscore) ≡ t → Same (if t then hyphen else b) b
    go true e = same_dash b e
    go false e = same_self b

same_if : (a b : Bool) (x y z w : ℕ) → a ≡ b → x ≡ y → z ≡ w → (if a then x else z) ≡ (if b then y else w)
same_if true true x y z w e f g = f
same_if false false x y z w e f g = g
same_if true false x y z w e f g = absurd (cc)
same_if false true x y z w e f g = absurd (cc)

same_and : (a b c d : Bool) → a ≡ c → b ≡ d → (a && b) ≡ (c && d)
same_and a b c d e f = ap (λ (t : Bool). t && b) e ∙ ap (λ (t : Bool). c && t) f

same_or : (a b c d : Bool) → a ≡ c → b ≡ d → (a || b) ≡ (c || d)
same_or a b c d e f = ap (λ (t : Bool). t || b) e ∙ ap (λ (t : Bool). c || t) f

-- ---- runs

module _ (bs : List ℕ) where
  abbrev ys : List ℕ
  ys = map dash bs

  at : (i : ℕ) → Same (byte ys i) (byte bs i)
  at i = subst (λ (b : ℕ). Same b (byte bs i)) (sym (byte_map bs i)) (dash_same (byte bs i))

  hex_same : (n i : ℕ) → hex_from ys n i ≡ hex_from bs n i
  hex_same zero i = refl
  hex_same (suc n) i =
      same_if (is_hex_digit (byte ys i)) (is_hex_digit (byte bs i)) (hex_from ys n (i + 1)) (hex_from bs n (i + 1)) i i
      (at i).hex (hex_same n (i + 1)) refl

  white_same : (i : ℕ) → white_end ys i ≡ white_end bs i
  white_same i =
      same_if ((byte ys i == CARRIAGE_RETURN) && (byte ys (i + 1) == LINE_FEED))
      ((byte bs i == CARRIAGE_RETURN) && (byte bs (i + 1) == LINE_FEED)) (i + 2) (i + 2)
      (if is_white (byte ys i) then i + 1 else i) (if is_white (byte bs i) then i + 1 else i)
      (same_and (byte ys i == CARRIAGE_RETURN) (byte ys (i + 1) == LINE_FEED) (byte bs i == CARRIAGE_RETURN)
      (byte bs (i + 1) == LINE_FEED) (at i).return (at (i + 1)).feed) refl
      (same_if (is_white (byte ys i)) (is_white (byte bs i)) (i + 1) (i + 1) i i (at i).white refl refl)

  escape_same : (i : ℕ) → escape_end ys i ≡ escape_end bs i
  unfolding escape_end hex_end
  escape_same i =
      same_if (not (byte ys i == sign "\\")) (not (byte bs i == sign "\\")) i i _ _ (ap not (at i).slash) refl
      (same_if (is_hex_digit (byte ys (i + 1))) (is_hex_digit (byte bs (i + 1)))
      (white_end ys (hex_from ys MOST_HEX_DIGITS (i + 1))) (white_end bs (hex_from bs MOST_HEX_DIGITS (i + 1))) _ _
      (at (i + 1)).hex
      (white_same (hex_from ys MOST_HEX_DIGITS (i + 1)) ∙ ap (white_end bs) (hex_same MOST_HEX_DIGITS (i + 1)))
      (same_if (is_break (byte ys (i + 1)) || (byte ys (i + 1) == END)) (is_break (byte bs (i + 1)) || (byte bs (i + 1) == END)) i i (i + 2) (i + 2)
      (same_or (is_break (byte ys (i + 1))) (byte ys (i + 1) == END) (is_break (byte bs (i + 1))) (byte bs (i + 1) == END) (at (i + 1)).broken (at (i + 1)).end)
      refl refl))

  next_same : (i : ℕ) → next classes.Name ys i ≡ next classes.Name bs i
  next_same i =
      same_if (is_name_byte (byte ys i)) (is_name_byte (byte bs i)) (i + 1) (i + 1) (escape_end ys i) (escape_end bs i)
      (at i).name refl (escape_same i)

  from_same : (f i : ℕ) → run_from classes.Name ys f i ≡ run_from classes.Name bs f i
  from_same zero i = refl
  from_same (suc f) i =
      same_if (nat_lt i (next classes.Name ys i)) (nat_lt i (next classes.Name bs i))
      (run_from classes.Name ys f (next classes.Name ys i)) (run_from classes.Name bs f (next classes.Name bs i)) i i
      (ap (nat_lt i) (next_same i))
      (from_same f (next classes.Name ys i) ∙ ap (run_from classes.Name bs f) (next_same i)) refl

  long_same : (xs : List ℕ) → length (map dash xs) ≡ length xs
  long_same [] = refl
  long_same (x ∷ xs) = let e = long_same xs in omega (arith, e)

  pub run_same : (i : ℕ) → run_end classes.Name ys i ≡ run_end classes.Name bs i
  unfolding run_end
  run_same i =
      ap (λ (n : ℕ). run_from classes.Name ys (n - i) i) (long_same bs) ∙ from_same (length bs - i) i

-- ---- a name of what begins and runs as one

name_made : (xs : List ℕ) (n : ℕ) → (is_letter (byte xs 0) || begins_name xs 0) ≡ true → run_end classes.Name xs 0 ≡ n
    → (kind : TokenKind) × (is_name kind ≡ true) × (name_piece xs 0 ≡ made kind n changes.Keep)
unfolding name_piece
name_made xs n b run = go (is_letter (byte xs 0)) refl b
  where
    letters : (p q : ℕ) → is_name (letter_kind p q) ≡ true
    letters p q = by (p == q)
      where
        by : (t : Bool) → is_name (if t then kinds.Word else kinds.Name) ≡ true
        by true = refl
        by false = refl

    dashes : is_name (dash_kind xs 0) ≡ true
    dashes = by ((byte xs 0 == sign "-") && (byte xs (0 + 1) == sign "-"))
      where
        by : (t : Bool) → is_name (if t then kinds.DashedName else kinds.Name) ≡ true
        by true = refl
        by false = refl

    go : (t : Bool) → is_letter (byte xs 0) ≡ t → (t || begins_name xs 0) ≡ true
        → (kind : TokenKind) × (is_name kind ≡ true) × (name_piece xs 0 ≡ made kind n changes.Keep)
    go true t e =
        let end = word_name xs (length xs) 0 (omega arith) ∙ run in (
          letter_kind (run_end classes.Word xs 0) n,
          letters (run_end classes.Word xs 0) n,
          if_true (is_letter (byte xs 0)) _ _ t
              ∙ ap (λ (k : ℕ). made (letter_kind (run_end classes.Word xs 0) k) k changes.Keep) end,
        )
    go false t e = (
      dash_kind xs 0,
      dashes,
      if_false (is_letter (byte xs 0)) _ _ t ∙ if_true (begins_name xs 0) _ _ e
          ∙ ap (λ (k : ℕ). made (dash_kind xs 0) k changes.Keep) run,
    )

-- ---- the name as it is written

dashed_append : (xs more : List ℕ) → dashed (xs ++ more) ≡ dashed xs ++ dashed more
dashed_append [] more = refl
dashed_append (x ∷ xs) more = ap (λ (t : List ℕ). dash x ∷ t) (dashed_append xs more)

dash_twice : (b : ℕ) → dash (dash b) ≡ dash b
dash_twice b = go (b == underscore) refl
  where
    go : (t : Bool) → (b == underscore) ≡ t → dash (if t then hyphen else b) ≡ (if t then hyphen else b)
    go true e = refl
    go false e = if_false (b == underscore) hyphen b e

dashed_twice : (w : List ℕ) → dashed (dashed w) ≡ dashed w
dashed_twice [] = refl
dashed_twice (b ∷ w) = ap (λ (c : ℕ). c ∷ dashed (dashed w)) (dash_twice b) ∙ ap (λ (t : List ℕ). dash b ∷ t) (dashed_twice w)

equal_by : (a b : ℕ) → (a == b) ≡ true → b ≡ a
equal_by a b e = grind (arith, nat_tests)

kept_dashed : (w : List ℕ) → dashed (name_text (dashed w)) ≡ dashed w
kept_dashed [] = refl
kept_dashed (b ∷ w) =
    ap (λ (t : List ℕ). dash (if (dash b == hyphen) && begins_no_name (dashed w) then underscore else dash b) ∷ t) (dashed_twice w)
    ∙ ap (λ (c : ℕ). c ∷ dashed w) (go ((dash b == hyphen) && begins_no_name (dashed w)) refl)
  where
    left : (x y : Bool) → (x && y) ≡ true → x ≡ true
    left true y e = refl
    left false y e = e

    go : (t : Bool) → ((dash b == hyphen) && begins_no_name (dashed w)) ≡ t → dash (if t then underscore else dash b) ≡ dash b
    go true e = equal_by (dash b) hyphen (left (dash b == hyphen) _ e)
    go false e = dash_twice b

kept_long : (w : List ℕ) → length (name_text (dashed w)) ≡ length w
kept_long [] = refl
kept_long (b ∷ w) = let e = long_same [] w in omega (arith, e)

-- whichever name byte a text begins with, it runs on alike
first_free : (a c : ℕ) (t : List ℕ) → is_name_byte a ≡ true → is_name_byte c ≡ true
    → run_end classes.Name (a ∷ t) 0 ≡ run_end classes.Name (c ∷ t) 0
first_free a c t e f = one a e ∙ sym (one c f)
  where
    one : (x : ℕ) → is_name_byte x ≡ true → run_end classes.Name (x ∷ t) 0 ≡ 1 + run_end classes.Name t 0
    one x n = goes (x ∷ t) 0 (ap is_name_byte (moved.first_byte x t) ∙ n) ∙ moved.run_moved (x ∷ []) t classes.Name 0

or_yes : (a b : Bool) → a ≡ true → (a || b) ≡ true
or_yes true b e = refl
or_yes false b e = absurd (cc)

or_more : (a b : Bool) → b ≡ true → (a || b) ≡ true
or_more true b e = refl
or_more false b e = e

pick_right : (a b : Bool) → (a || b) ≡ true → a ≡ false → b ≡ true
pick_right true b e f = absurd (cc)
pick_right false b e f = e

module _ (b : ℕ) (rest old : List ℕ) (begun : (is_letter (byte (b ∷ (rest ++ old)) 0) || begins_name (b ∷ (rest ++ old)) 0) ≡ true)
    (run : run_end classes.Name (b ∷ (rest ++ old)) 0 ≡ length (b ∷ rest)) where
  abbrev old_text : List ℕ
  old_text = b ∷ (rest ++ old)

  abbrev new_text : List ℕ
  new_text = map dash old_text

  new_is : new_text ≡ dash b ∷ (dashed rest ++ dashed old)
  new_is = ap (λ (t : List ℕ). dash b ∷ t) (dashed_append rest old)

  new_run : run_end classes.Name new_text 0 ≡ length (b ∷ rest)
  new_run = run_same old_text 0 ∙ run

  new_first : byte new_text 0 ≡ dash b
  new_first = moved.first_byte (dash b) (map dash (rest ++ old))

  hyphen_name : (c : ℕ) → (c == hyphen) ≡ true → (is_name_byte c ≡ true) × ((c == sign "-") ≡ true)
  hyphen_name c e = (grind (arith, nat_tests), e)

  -- behind a `-` stands what goes on with a name
  second : (dash b == hyphen) ≡ true → (r : List ℕ) → rest ≡ r → begins_no_name (dashed r) ≡ false
      → (starts_at new_text 1 || (byte new_text 1 == sign "-")) ≡ true
  second d [] is none = absurd (cc)
  second d (c ∷ r) is none =
      let name = hyphen_name (dash b) d in
      let go_on = goes new_text 0 (ap is_name_byte new_first ∙ name.0) in
      let long = ap length is in
      let first : byte new_text 1 ≡ dash c =
      ap (λ (t : List ℕ). byte (dash b ∷ map dash (t ++ old)) 1) is
      ∙ moved.at_byte (dash b ∷ []) (dash c ∷ map dash (r ++ old)) 0 ∙ moved.first_byte (dash c) (map dash (r ++ old)) in
      further first (texts.lt_or_le 1 (next classes.Name new_text 1)) go_on long
    where
      kinds_of : (x : ℕ) → is_name_byte x ≡ true → is_digit x ≡ false → (starts_plainly x || (x == sign "-")) ≡ true
      kinds_of x n f = grind (arith, nat_tests)

      swap : (p e d : Bool) → (p || d) ≡ true → ((p || e) || d) ≡ true
      swap true e d t = refl
      swap false true d t = refl
      swap false false d t = t

      less : (x : ℕ) → 1 < x → nat_lt 1 x ≡ true
      less x l = grind (arith, nat_tests)

      further : byte new_text 1 ≡ dash c → (1 < next classes.Name new_text 1) ⊎ (next classes.Name new_text 1 ≤ 1)
          → run_end classes.Name new_text 0 ≡ run_end classes.Name new_text 1 → length rest ≡ length (c ∷ r)
          → (starts_at new_text 1 || (byte new_text 1 == sign "-")) ≡ true
      further first (inr stays) go_on long =
          let stopped = run_stop new_text classes.Name 1 stays in
          let all = new_run in
          absurd (omega (arith, stopped, go_on, long, all))
      further first (inl on) go_on long =
          by_test ((starts_at new_text 1 || (byte new_text 1 == sign "-")) ≡ true) (is_name_byte (byte new_text 1))
          (λ t. swap (starts_plainly (byte new_text 1)) (nat_lt 1 (escape_end new_text 1)) (byte new_text 1 == sign "-")
          (kinds_of (byte new_text 1) t (ap is_digit first ∙ none)))
          (λ t. let e = if_false (is_name_byte (byte new_text 1)) (1 + 1) (escape_end new_text 1) t in
          or_yes (starts_at new_text 1) _
          (or_more (starts_plainly (byte new_text 1)) _ (less (escape_end new_text 1) (subst (λ (k : ℕ). 1 < k) e on))))

  -- the text with `-` for each `_` begins a name where no `_` has to stand first
  new_begun : ((dash b == hyphen) && begins_no_name (dashed rest)) ≡ false
      → (is_letter (byte new_text 0) || begins_name new_text 0) ≡ true
  unfolding begins_name
  new_begun c =
      by_test ((is_letter (byte new_text 0) || begins_name new_text 0) ≡ true) (dash b == hyphen)
      (λ d. or_more (is_letter (byte new_text 0)) _
      (or_more (starts_at new_text 0) _
      (both (byte new_text 0 == sign "-") _ (ap (λ (x : ℕ). x == sign "-") new_first ∙ d)
      (second d rest refl (other (dash b == hyphen) (begins_no_name (dashed rest)) c d)))))
      (λ d. plain d)
    where
      other : (x y : Bool) → (x && y) ≡ false → x ≡ true → y ≡ false
      other true y e f = e
      other false y e f = absurd (cc)

      not_under : (b == underscore) ≡ true → (dash b == hyphen) ≡ true
      not_under e = ap (λ (t : ℕ). t == hyphen) (if_true (b == underscore) hyphen b e)

      same_first : (dash b == hyphen) ≡ false → dash b ≡ b
      same_first d =
          by_test (dash b ≡ b) (b == underscore)
          (λ t. absurd (let u = not_under t in let wrong : true ≡ false = sym u ∙ d in cc))
          (λ t. if_false (b == underscore) hyphen b t)

      plain : (dash b == hyphen) ≡ false → (is_letter (byte new_text 0) || begins_name new_text 0) ≡ true
      plain d =
          let e = new_first ∙ same_first d ∙ sym (moved.first_byte b (rest ++ old)) in
          let s : starts_at new_text 0 ≡ starts_at old_text 0 =
          ap (λ (x : ℕ). starts_plainly x || nat_lt 0 (escape_end new_text 0)) e
          ∙ ap (λ (x : ℕ). starts_plainly (byte old_text 0) || nat_lt 0 x) (escape_same old_text 0) in
          let no_dash : (byte old_text 0 == sign "-") ≡ false =
          ap (λ (x : ℕ). x == sign "-") (moved.first_byte b (rest ++ old) ∙ sym (same_first d)) ∙ d in
          by_test ((is_letter (byte new_text 0) || begins_name new_text 0) ≡ true) (is_letter (byte old_text 0))
          (λ t. or_yes (is_letter (byte new_text 0)) _ (ap is_letter e ∙ t))
          (λ t. or_more (is_letter (byte new_text 0)) _
          (or_yes (starts_at new_text 0) _ (s ∙ starts t no_dash)))
        where
          flip : (x y z : Bool) → (x || (y && z)) ≡ true → y ≡ false → x ≡ true
          flip true y z e f = refl
          flip false true z e f = absurd (cc)
          flip false false z e f = absurd (cc)

          starts : is_letter (byte old_text 0) ≡ false → (byte old_text 0 == sign "-") ≡ false → starts_at old_text 0 ≡ true
          starts l dark = flip (starts_at old_text 0) (byte old_text 0 == sign "-") _ (pick_right (is_letter (byte old_text 0)) _ begun l) dark

begins_plainly : (t : List ℕ) → begins_name (underscore ∷ t) 0 ≡ true
unfolding begins_name
begins_plainly t =
    or_yes (starts_at (underscore ∷ t) 0) _
    (or_yes (starts_plainly (byte (underscore ∷ t) 0)) _ (ap starts_plainly (moved.first_byte underscore t)))

-- a name that is kept, as it is written: a name token, that is kept as the same
pub record IsKept (w old : List ℕ) : Type 0 where
  pub kind : TokenKind
  pub is : is_name kind ≡ true
  pub piece_is : name_piece (name_text (dashed w) ++ dashed old) 0 ≡ made kind (length (name_text (dashed w))) changes.Keep
  pub some : 0 < length (name_text (dashed w))
  pub dashed_is : dashed (name_text (dashed w)) ≡ dashed w

pub kept_name : (w old : List ℕ) → 0 < length w
    → (is_letter (byte (w ++ old) 0) || begins_name (w ++ old) 0) ≡ true → run_end classes.Name (w ++ old) 0 ≡ length w
    → IsKept w old
kept_name [] old some begun run = absurd (omega (arith, some))
kept_name (b ∷ rest) old some begun run =
    let (kind, k, e) = go ((dash b == hyphen) && begins_no_name (dashed rest)) refl in record {
      kind = kind;
      is = k;
      piece_is = e ∙ ap (λ (n : ℕ). made kind n changes.Keep) (sym (kept_long (b ∷ rest)));
      some = let l = kept_long (b ∷ rest) in omega (arith, l);
      dashed_is = kept_dashed (b ∷ rest);
    }
  where
    left : (x y : Bool) → (x && y) ≡ true → x ≡ true
    left true y e = refl
    left false y e = e

    hyphen_is : (c : ℕ) → (c == hyphen) ≡ true → is_name_byte c ≡ true
    hyphen_is c e = grind (arith, nat_tests)

    go : (t : Bool) → ((dash b == hyphen) && begins_no_name (dashed rest)) ≡ t
        → (kind : TokenKind) × (is_name kind ≡ true)
        × (name_piece ((if t then underscore else dash b) ∷ (dashed rest ++ dashed old)) 0 ≡ made kind (length (b ∷ rest)) changes.Keep)
    go false c =
        let is = new_is b rest old begun run in
        name_made (dash b ∷ (dashed rest ++ dashed old)) (length (b ∷ rest))
        (subst (λ (t : List ℕ). (is_letter (byte t 0) || begins_name t 0) ≡ true) is (new_begun b rest old begun run c))
        (ap (λ (t : List ℕ). run_end classes.Name t 0) (sym is) ∙ new_run b rest old begun run)
    go true c =
        let is = new_is b rest old begun run in
        name_made (underscore ∷ (dashed rest ++ dashed old)) (length (b ∷ rest)) (under (dashed rest ++ dashed old))
        (first_free underscore (dash b) (dashed rest ++ dashed old) refl (hyphen_is (dash b) (left (dash b == hyphen) _ c))
        ∙ ap (λ (t : List ℕ). run_end classes.Name t 0) (sym is) ∙ new_run b rest old begun run)
      where
        under : (t : List ℕ) → (is_letter (byte (underscore ∷ t) 0) || begins_name (underscore ∷ t) 0) ≡ true
        under t = or_more (is_letter (byte (underscore ∷ t) 0)) _ (begins_plainly t)
