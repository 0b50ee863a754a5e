-- What stands behind the text of a value goes on with no name, no number, no range and no sign.
use Rattle.std.proofs.Common.{◌≡◌, ℕ, ◌+◌, Bool, true, false, not, ◌&&◌, ◌||◌, List, [], ◌∷◌, length, refl, sym, ◌∙◌, ap, arith}
use Rattle.std.specs.Prelude.{◌==◌, ◌-◌, nat_lt}
use Rattle.std.proofs.lemmas.Bool.Decides.{nat_tests}
use Rattle.sw_text_scan.specs.declared.runs.Class.TheVariants as classes
use Rattle.sw_text_scan.specs.declared.signs.TheConstants.{CARRIAGE_RETURN, LINE_FEED}
use Rattle.sw_text_scan.specs.Bytes.{sign, byte, is_white, is_digit, is_name_byte, is_range_byte}
use Rattle.sw_text_scan.specs.Runs.{next, escape_end}
use Rattle.sw_text_scan.specs.Words.{is_u, is_plus_or_minus}
use Rattle.sw_text_scan.proofs.Bounds.{if_true, if_false}
use Rattle.sw_text_locality.specs.Names as locality
use Rattle.sw_convert_spelling.specs.Neighbours.{parts_name}
use Rattle.sw_convert_spelling.proofs.Choices.{right_no, both}
use Rattle.sw_convert_written.specs.Escapes.{ends_unclosed}
use Rattle.sw_convert_written.specs.Expressions.{is_url}
use Rattle.sw_convert_tokens.specs.Written.{Follows, is_stop, is_dots, stops, begins_white}

-- what the first byte behind a value isn't
pub record Dark (b : ℕ) : Type 0 where
  pub name : is_name_byte b ≡ false
  pub slash : (b == sign "\\") ≡ false
  pub feed : (b == LINE_FEED) ≡ false
  pub digit : is_digit b ≡ false
  pub sign_before : is_plus_or_minus b ≡ false
  pub percent : (b == sign "%") ≡ false
  pub range : is_range_byte b ≡ false
  pub hash : (b == sign "#") ≡ false
  pub paren : (b == sign "(") ≡ false
  pub equals : (b == sign "=") ≡ false

stop_dark : (b : ℕ) → is_stop b ≡ true → Dark b
stop_dark b e = record {
  name = grind (arith, nat_tests);
  slash = grind (arith, nat_tests);
  feed = grind (arith, nat_tests);
  digit = grind (arith, nat_tests);
  sign_before = grind (arith, nat_tests);
  percent = grind (arith, nat_tests);
  range = grind (arith, nat_tests);
  hash = grind (arith, nat_tests);
  paren = grind (arith, nat_tests);
  equals = grind (arith, nat_tests);
}

pub dot_dark : (b : ℕ) → (b == sign ".") ≡ true → Dark b
dot_dark b e = record {
  name = grind (arith, nat_tests);
  slash = grind (arith, nat_tests);
  feed = grind (arith, nat_tests);
  digit = grind (arith, nat_tests);
  sign_before = grind (arith, nat_tests);
  percent = grind (arith, nat_tests);
  range = grind (arith, nat_tests);
  hash = grind (arith, nat_tests);
  paren = grind (arith, nat_tests);
  equals = grind (arith, nat_tests);
}

dots_first : (b : ℕ) (rest : List ℕ) → is_dots (b ∷ rest) ≡ true → (b == sign ".") ≡ true
dots_first b (c ∷ d ∷ rest) e = left (b == sign ".") _ e
  where
    left : (x y : Bool) → (x && y) ≡ true → x ≡ true
    left true y e = refl
    left false y e = e
dots_first b (c ∷ []) e = absurd (cc)
dots_first b [] e = absurd (cc)

pub stopped : (after : List ℕ) → stops after ≡ true → Dark (byte after 0)
unfolding byte
stopped [] e = record {
  name = refl;
  slash = refl;
  feed = refl;
  digit = refl;
  sign_before = refl;
  percent = refl;
  range = refl;
  hash = refl;
  paren = refl;
  equals = refl;
}
stopped (b ∷ rest) e = go (is_stop b) refl e
  where
    go : (t : Bool) → is_stop b ≡ t → (t || is_dots (b ∷ rest)) ≡ true → Dark b
    go true t f = stop_dark b t
    go false t f = dot_dark b (dots_first b rest f)

pub white_same : (after : List ℕ) → is_white (byte after 0) ≡ begins_white after
unfolding byte
white_same [] = refl
white_same (b ∷ rest) = refl

-- no escape begins
pub no_escape : (after : List ℕ) → (byte after 0 == sign "\\") ≡ false → escape_end after 0 ≡ 0
unfolding escape_end
no_escape after e = if_true (not (byte after 0 == sign "\\")) 0 _ (ap not e)

pub name_ends : (after : List ℕ) → is_name_byte (byte after 0) ≡ false → (byte after 0 == sign "\\") ≡ false
    → next classes.Name after 0 ≡ 0
name_ends after name slash =
    if_false (is_name_byte (byte after 0)) (0 + 1) (escape_end after 0) name ∙ no_escape after slash

pub no_more_name : (after : List ℕ) → Dark (byte after 0) → next classes.Name after 0 ≡ 0
no_more_name after dark = name_ends after dark.name dark.slash

-- a name ends before it, where escapes are told to be open as the name tells
pub name_parts : (bytes after : List ℕ) → locality.ends_unclosed bytes 0 ≡ ends_unclosed bytes → Follows bytes after
    → parts_name 0 bytes after ≡ true
name_parts bytes after same f =
    let dark = stopped after f.stop in
    both (not (nat_lt 0 (next classes.Name after 0))) _
    (ap (λ (n : ℕ). not (nat_lt 0 n)) (no_more_name after dark))
    (both (not (locality.ends_unclosed bytes 0 && is_white (byte after 0))) _
    (ap not (ap (λ (t : Bool). t && is_white (byte after 0)) same
    ∙ ap (λ (t : Bool). ends_unclosed bytes && t) (white_same after) ∙ turned (ends_unclosed bytes) (begins_white after) f.closed))
    (ap not (right_no (byte bytes (length bytes - 1) == CARRIAGE_RETURN) _ dark.feed)))
  where
    turned : (a b : Bool) → (b && a) ≡ false → (a && b) ≡ false
    turned true true e = e
    turned true false e = refl
    turned false b e = refl

-- what stands behind the text of a value goes on with no name, and takes no open escape for its own
pub record Parted (value after : List ℕ) : Type 0 where
  pub dark : Dark (byte after 0)
  pub closed : (begins_white after && ends_unclosed value) ≡ false

pub follows_parts : (value after : List ℕ) → Follows value after → Parted value after
follows_parts value after f = record { dark = stopped after f.stop; closed = f.closed }

pub nothing_parts : (value : List ℕ) → Parted value []
nothing_parts value = record { dark = stopped [] refl; closed = refl }

-- ---- behind a name, where a `(` may stand too

-- what stands behind a name goes on with none, takes no open escape for its own, and makes no range and no url of it
pub record Behind (value after : List ℕ) : Type 0 where
  pub name : is_name_byte (byte after 0) ≡ false
  pub slash : (byte after 0 == sign "\\") ≡ false
  pub feed : ((byte value (length value - 1) == CARRIAGE_RETURN) && (byte after 0 == LINE_FEED)) ≡ false
  pub closed : (begins_white after && ends_unclosed value) ≡ false
  pub range : (byte after 0 == sign "+") ≡ true → length value ≡ 1 → is_u (byte value 0) ≡ false
  pub url : (byte after 0 == sign "(") ≡ true → is_url value ≡ false

pub parted_behind : (value after : List ℕ) → Parted value after → Behind value after
parted_behind value after p = record {
  name = p.dark.name;
  slash = p.dark.slash;
  feed = right_no (byte value (length value - 1) == CARRIAGE_RETURN) _ p.dark.feed;
  closed = p.closed;
  range = λ e one. absurd (let d = p.dark.sign_before in
      let wrong : true ≡ false = sym (plus_sign (byte after 0) e) ∙ d in cc);
  url = λ e. absurd (let d = p.dark.paren in let wrong : true ≡ false = sym e ∙ d in cc);
}
  where
    plus_sign : (b : ℕ) → (b == sign "+") ≡ true → is_plus_or_minus b ≡ true
    plus_sign b e = grind (arith, nat_tests)

-- the `(` of a call
pub paren_behind : (value rest : List ℕ) → is_url value ≡ false → Behind value (sign "(" ∷ rest)
unfolding byte
paren_behind value rest no_url = record {
  name = refl;
  slash = refl;
  feed = right_no (byte value (length value - 1) == CARRIAGE_RETURN) _ refl;
  closed = refl;
  range = λ e. absurd (let no : false ≡ true = e in cc);
  url = λ e. no_url;
}
