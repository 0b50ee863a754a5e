-- Lone signs, and letters with which nothing but a name begins, are the tokens that the pieces are.
use Rattle.std.proofs.Common.{◌≡◌, ℕ, ◌+◌, ◌-◌, ◌<◌, Bool, true, false, not, ◌&&◌, ◌||◌, List, ◌++◌, refl, sym, ◌∙◌, ap, arith, length, Some, Result}
use Rattle.std.specs.Prelude.{◌==◌, if◌then◌else◌}
use Rattle.std.proofs.lemmas.Bool.Decides.{nat_tests}
use Rattle.sw_text_scan.specs.declared.runs.Class.TheVariants as classes
use Rattle.sw_text_scan.specs.Bytes.{sign, byte, is_white, is_quote, is_digit, is_letter, is_hex_digit, starts_plainly, is_name_byte, opens_at, begins_silent, begins_loud}
use Rattle.sw_text_scan.specs.Runs.{next, run_end, escape_end, begins_name}
use Rattle.sw_text_scan.specs.Words.{is_u, begins_number, begins_range, begins_url}
use Rattle.sw_text_scan.proofs.Bounds.{if_true, if_false, run_stop, and_left, and_right}
use Rattle.sw_tokens.specs.declared.token.Token.{Token}
use Rattle.sw_tokens.specs.declared.token.TokenKind.TheVariants as kinds
use Rattle.sw_tokens.specs.declared.token.Syntax.{Syntax}
use Rattle.sw_tokens.specs.declared.skips.Inside.{Inside}
use Rattle.sw_tokens.specs.declared.skips.Inside.TheVariants as insides
use Rattle.sw_tokens.specs.declared.pieces.Before.{Before}
use Rattle.sw_tokens.specs.declared.pieces.Before.TheVariants as befores
use Rattle.sw_tokens.specs.declared.pieces.Change.TheVariants as changes
use Rattle.sw_tokens.specs.declared.scan.Opened.{Opened}
use Rattle.sw_tokens.specs.Pieces.{made, sign_of, sign_piece, letter_kind, name_piece, has_hex_length, is_hex_form, is_open_ended, opens_url, after_dollar, after_hash, word_piece, in_interpolation, code_piece, css_piece, piece}
use Rattle.sw_tokens.specs.Tokens.{top, is_code, is_lone_in, is_lone, ends_name, is_named_in, is_named, before_of, kept_by, behind, rest}
use Rattle.sw_tokens.proofs.Walks.{loop_step}

and_no : (a b : Bool) → a ≡ false → (a && b) ≡ false
and_no true b e = absurd (cc)
and_no false b e = refl

no_and : (a b : Bool) → b ≡ false → (a && b) ≡ false
no_and true b e = e
no_and false b e = refl

or_no : (a b : Bool) → a ≡ false → b ≡ false → (a || b) ≡ false
or_no true b e f = absurd (cc)
or_no false b e f = f

is_not : (a : Bool) → not a ≡ true → a ≡ false
is_not true e = absurd (cc)
is_not false e = refl

-- a byte that begins a name or a sign by itself
record Calm (inside : Inside) (before : Before) (b : ℕ) : Type 0 where
  white : is_white b ≡ false
  quote : is_quote b ≡ false
  hash : (b == sign "#") ≡ false
  brace : ((b == sign "}") && in_interpolation inside) ≡ false
  slash : (b == sign "/") ≡ false
  hex : (after_hash before && is_hex_digit b) ≡ false
  digit : is_digit b ≡ false
  dot : (b == sign ".") ≡ false
  u : is_u b ≡ false

module _ (bs : List ℕ) (at : ℕ) where
  hex_form : is_hex_digit (byte bs at) ≡ false → is_hex_form bs at ≡ false
  unfolding is_hex_form
  hex_form e =
      let stays : next classes.HexDigit bs at ≡ at = if_false (is_hex_digit (byte bs at)) (at + 1) at e in
      let ends : run_end classes.HexDigit bs at ≡ at = run_stop bs classes.HexDigit at (omega arith) in
      and_no (has_hex_length (run_end classes.HexDigit bs at - at)) _ (rw ends (ap has_hex_length none))
    where
      none : at - at ≡ 0
      none = omega arith

  no_hex : (before : Before) → (after_hash before && is_hex_digit (byte bs at)) ≡ false → (after_hash before && is_hex_form bs at) ≡ false
  no_hex befores.Hash e = hex_form e
  no_hex befores.White e = refl
  no_hex befores.Dollar e = refl
  no_hex befores.Other e = refl

  word_calm : (inside : Inside) (before : Before) → Calm inside before (byte bs at) → word_piece bs inside before at ≡ name_piece bs at
  unfolding word_piece opens_url
  word_calm inside before f =
      if_false (after_hash before && is_hex_form bs at) _ _ (no_hex before f.hex)
      ∙ if_false (begins_number bs at) _ _ (or_no (is_digit (byte bs at)) _ f.digit (and_no (byte bs at == sign ".") _ f.dot))
      ∙ if_false (not (after_dollar before) && begins_range bs at) _ _ (no_and (not (after_dollar before)) _ (and_no (is_u (byte bs at)) _ f.u))
      ∙ if_false (begins_url bs at && _) _ _ (and_no (begins_url bs at) _ (and_no (is_u (byte bs at)) _ f.u))
      ∙ if_false (is_open_ended inside && _) _ _ (no_and (is_open_ended inside) _ (and_no (begins_url bs at) _ (and_no (is_u (byte bs at)) _ f.u)))

  code_calm : (inside : Inside) (before : Before) → Calm inside before (byte bs at) → code_piece bs inside before at ≡ name_piece bs at
  unfolding code_piece
  code_calm inside before f =
      if_false (is_white (byte bs at)) _ _ f.white
      ∙ if_false (is_quote (byte bs at)) _ _ f.quote
      ∙ if_false (opens_at bs at) _ _ (and_no (byte bs at == sign "#") _ f.hash)
      ∙ if_false ((byte bs at == sign "}") && in_interpolation inside) _ _ f.brace
      ∙ if_false (begins_silent bs at) _ _ (and_no (byte bs at == sign "/") _ f.slash)
      ∙ if_false (begins_loud bs at) _ _ (and_no (byte bs at == sign "/") _ f.slash)
      ∙ word_calm inside before f

  css_calm : (before : Before) → Calm insides.Css before (byte bs at) → css_piece bs before at ≡ name_piece bs at
  unfolding css_piece
  css_calm before f =
      if_false (is_white (byte bs at)) _ _ f.white
      ∙ if_false (is_quote (byte bs at)) _ _ f.quote
      ∙ if_false (opens_at bs at) _ _ (and_no (byte bs at == sign "#") _ f.hash)
      ∙ if_false (begins_silent bs at) _ _ (and_no (byte bs at == sign "/") _ f.slash)
      ∙ if_false (begins_loud bs at) _ _ (and_no (byte bs at == sign "/") _ f.slash)
      ∙ word_calm insides.Css before f

  calm_piece : (inside : Inside) (before : Before) → is_code inside ≡ true → Calm inside before (byte bs at) → piece bs inside before at ≡ name_piece bs at
  calm_piece insides.Sheet before e f = code_calm insides.Sheet before f
  calm_piece insides.Interpolation before e f = code_calm insides.Interpolation before f
  calm_piece insides.Css before e f = css_calm before f
  calm_piece (insides.Quotes q) before e f = absurd (cc)
  calm_piece insides.Comment before e f = absurd (cc)
  calm_piece insides.Url before e f = absurd (cc)
  calm_piece insides.UrlInside before e f = absurd (cc)

same_number : (a b : ℕ) → (a == b) ≡ true → a ≡ b
same_number a b e = grind (arith, nat_tests)

-- what holds of each sign that is one token by itself
module _ (inside : Inside) (P : ℕ → Type 0) (b : ℕ) where
  found : (c : ℕ) → P c → (b == c) ≡ true → P b
  found c p e = rw (same_number b c e) p

  or_else : (t : Bool) (u : Bool) → (t ≡ true → P b) → (u ≡ true → P b) → (t || u) ≡ true → P b
  or_else true u f g e = f refl
  or_else false u f g e = g e

  lone_by : P 123 → P 40 → P 41 → P 91 → P 93 → P 58 → P 59 → P 44 → (in_interpolation inside ≡ false → P 125) → is_lone_in inside b ≡ true → P b
  lone_by p1 p2 p3 p4 p5 p6 p7 p8 close =
      or_else (b == 123) _ (found 123 p1) (or_else (b == 40) _ (found 40 p2) (or_else (b == 41) _ (found 41 p3)
      (or_else (b == 91) _ (found 91 p4) (or_else (b == 93) _ (found 93 p5) (or_else (b == 58) _ (found 58 p6)
      (or_else (b == 59) _ (found 59 p7) (or_else (b == 44) _ (found 44 p8)
      (λ e. found 125 (close (is_not (in_interpolation inside) (and_right (b == sign "}") _ e))) (and_left (b == sign "}") _ e)))))))))

-- what begins no name, and no token of two or three signs
record Single (b : ℕ) : Type 0 where
  letter : is_letter b ≡ false
  plain : starts_plainly b ≡ false
  escape : (b == sign "\\") ≡ false
  dash : (b == sign "-") ≡ false
  at_sign : (b == sign "@") ≡ false
  dots : (b == sign ".") ≡ false
  equals : (b == sign "=") ≡ false
  bang : (b == sign "!") ≡ false
  less : (b == sign "<") ≡ false
  greater : (b == sign ">") ≡ false
  other : before_of (Some (sign_of b)) ≡ befores.Other

single_lone : (inside : Inside) (b : ℕ) → is_lone_in inside b ≡ true → Single b
single_lone inside b =
    lone_by inside Single b
    (record { letter = refl; plain = refl; escape = refl; dash = refl; at_sign = refl; dots = refl; equals = refl; bang = refl; less = refl; greater = refl; other = refl })
    (record { letter = refl; plain = refl; escape = refl; dash = refl; at_sign = refl; dots = refl; equals = refl; bang = refl; less = refl; greater = refl; other = refl })
    (record { letter = refl; plain = refl; escape = refl; dash = refl; at_sign = refl; dots = refl; equals = refl; bang = refl; less = refl; greater = refl; other = refl })
    (record { letter = refl; plain = refl; escape = refl; dash = refl; at_sign = refl; dots = refl; equals = refl; bang = refl; less = refl; greater = refl; other = refl })
    (record { letter = refl; plain = refl; escape = refl; dash = refl; at_sign = refl; dots = refl; equals = refl; bang = refl; less = refl; greater = refl; other = refl })
    (record { letter = refl; plain = refl; escape = refl; dash = refl; at_sign = refl; dots = refl; equals = refl; bang = refl; less = refl; greater = refl; other = refl })
    (record { letter = refl; plain = refl; escape = refl; dash = refl; at_sign = refl; dots = refl; equals = refl; bang = refl; less = refl; greater = refl; other = refl })
    (record { letter = refl; plain = refl; escape = refl; dash = refl; at_sign = refl; dots = refl; equals = refl; bang = refl; less = refl; greater = refl; other = refl })
    (λ opened. record { letter = refl; plain = refl; escape = refl; dash = refl; at_sign = refl; dots = refl; equals = refl; bang = refl; less = refl; greater = refl; other = refl })

calm_lone : (inside : Inside) (before : Before) (b : ℕ) → is_lone_in inside b ≡ true → Calm inside before b
calm_lone inside before b =
    lone_by inside (Calm inside before) b
    (record { white = refl; quote = refl; hash = refl; brace = refl; slash = refl; hex = no_and (after_hash before) false refl; digit = refl; dot = refl; u = refl })
    (record { white = refl; quote = refl; hash = refl; brace = refl; slash = refl; hex = no_and (after_hash before) false refl; digit = refl; dot = refl; u = refl })
    (record { white = refl; quote = refl; hash = refl; brace = refl; slash = refl; hex = no_and (after_hash before) false refl; digit = refl; dot = refl; u = refl })
    (record { white = refl; quote = refl; hash = refl; brace = refl; slash = refl; hex = no_and (after_hash before) false refl; digit = refl; dot = refl; u = refl })
    (record { white = refl; quote = refl; hash = refl; brace = refl; slash = refl; hex = no_and (after_hash before) false refl; digit = refl; dot = refl; u = refl })
    (record { white = refl; quote = refl; hash = refl; brace = refl; slash = refl; hex = no_and (after_hash before) false refl; digit = refl; dot = refl; u = refl })
    (record { white = refl; quote = refl; hash = refl; brace = refl; slash = refl; hex = no_and (after_hash before) false refl; digit = refl; dot = refl; u = refl })
    (record { white = refl; quote = refl; hash = refl; brace = refl; slash = refl; hex = no_and (after_hash before) false refl; digit = refl; dot = refl; u = refl })
    (λ opened. record { white = refl; quote = refl; hash = refl; brace = opened; slash = refl; hex = no_and (after_hash before) false refl; digit = refl; dot = refl; u = refl })

-- what stands behind many names: neither a name character nor what begins an escape
record Over (b : ℕ) : Type 0 where
  name : is_name_byte b ≡ false
  escape : (b == sign "\\") ≡ false

or_either : (t : Bool) (u : Bool) (P : Type 0) → (t ≡ true → P) → (u ≡ true → P) → (t || u) ≡ true → P
or_either true u P f g e = f refl
or_either false u P f g e = g e

over : (b c : ℕ) → Over c → (b == c) ≡ true → Over b
over b c p e = rw (same_number b c e) p

ends_over : (b : ℕ) → ends_name b ≡ true → Over b
ends_over b =
    or_either (b == 32) _ (Over b) (over b 32 (record { name = refl; escape = refl })) (or_either (b == 10) _ (Over b) (over b 10 (record { name = refl; escape = refl }))
    (or_either (b == 123) _ (Over b) (over b 123 (record { name = refl; escape = refl })) (or_either (b == 125) _ (Over b) (over b 125 (record { name = refl; escape = refl }))
    (or_either (b == 40) _ (Over b) (over b 40 (record { name = refl; escape = refl })) (or_either (b == 41) _ (Over b) (over b 41 (record { name = refl; escape = refl }))
    (or_either (b == 58) _ (Over b) (over b 58 (record { name = refl; escape = refl })) (or_either (b == 59) _ (Over b) (over b 59 (record { name = refl; escape = refl }))
    (or_either (b == 44) _ (Over b) (over b 44 (record { name = refl; escape = refl })) (over b 46 (record { name = refl; escape = refl }))))))))))

-- such a sign ends a name
pub name_over : (bs : List ℕ) (at : ℕ) → ends_name (byte bs at) ≡ true → run_end classes.Name bs at ≡ at
unfolding escape_end
name_over bs at e =
    let f : Over (byte bs at) = ends_over (byte bs at) e in
    let stays : next classes.Name bs at ≡ at = if_false (is_name_byte (byte bs at)) (at + 1) (escape_end bs at) f.name ∙ if_true (not (byte bs at == sign "\\")) at _ (rw f.escape refl) in
    run_stop bs classes.Name at (omega (arith, stays))

module _ (bs : List ℕ) (at : ℕ) where
  no_name : Single (byte bs at) → begins_name bs at ≡ false
  unfolding begins_name escape_end
  no_name f =
      or_no _ _
      (or_no (starts_plainly (byte bs at)) _ f.plain (rw (if_true (not (byte bs at == sign "\\")) at _ (rw f.escape refl)) (grind (arith, nat_tests))))
      (and_no (byte bs at == sign "-") _ f.dash)

  sign_alone : Single (byte bs at) → sign_piece bs at ≡ made (sign_of (byte bs at)) (at + 1) changes.Keep
  unfolding sign_piece
  sign_alone f =
      if_false ((byte bs at == sign ".") && _) _ _ (and_no (byte bs at == sign ".") _ f.dots)
      ∙ if_false ((byte bs at == sign "=") && _) _ _ (and_no (byte bs at == sign "=") _ f.equals)
      ∙ if_false ((byte bs at == sign "!") && _) _ _ (and_no (byte bs at == sign "!") _ f.bang)
      ∙ if_false ((byte bs at == sign "<") && _) _ _ (and_no (byte bs at == sign "<") _ f.less)
      ∙ if_false ((byte bs at == sign ">") && _) _ _ (and_no (byte bs at == sign ">") _ f.greater)

  name_alone : Single (byte bs at) → name_piece bs at ≡ made (sign_of (byte bs at)) (at + 1) changes.Keep
  unfolding name_piece
  name_alone f =
      if_false (is_letter (byte bs at)) _ _ f.letter
      ∙ if_false (begins_name bs at) _ _ (no_name f)
      ∙ if_false ((byte bs at == sign "@") && _) _ _ (and_no (byte bs at == sign "@") _ f.at_sign)
      ∙ sign_alone f

  name_letters : is_letter (byte bs at) ≡ true → name_piece bs at
      ≡ made (letter_kind (run_end classes.Word bs at) (run_end classes.Name bs (run_end classes.Word bs at))) (run_end classes.Name bs (run_end classes.Word bs at)) changes.Keep
  unfolding name_piece
  name_letters e = if_true (is_letter (byte bs at)) _ _ e

-- a letter that begins nothing but a name
calm_named : (inside : Inside) (before : Before) (b : ℕ) → is_named_in before b ≡ true → Calm inside before b
calm_named inside before b e =
    let letter : is_letter b ≡ true = and_left (is_letter b) _ (and_right (not (after_hash before)) _ e) in
    record {
      white = grind (arith, nat_tests);
      quote = grind (arith, nat_tests);
      hash = grind (arith, nat_tests);
      brace = and_no (b == sign "}") _ (grind (arith, nat_tests));
      slash = grind (arith, nat_tests);
      hex = and_no (after_hash before) _ (is_not (after_hash before) (and_left (not (after_hash before)) _ e));
      digit = grind (arith, nat_tests);
      dot = grind (arith, nat_tests);
      u = is_not (is_u b) (and_right (is_letter b) _ (and_right (not (after_hash before)) _ e));
    }

pub lone_piece : (bs : List ℕ) (inside : Inside) (before : Before) (at : ℕ) → is_lone bs inside at ≡ true → piece bs inside before at ≡ made (sign_of (byte bs at)) (at + 1) changes.Keep
lone_piece bs inside before at e =
    let lone = and_right (is_code inside) _ e in
    calm_piece bs at inside before (and_left (is_code inside) _ e) (calm_lone inside before (byte bs at) lone)
    ∙ name_alone bs at (single_lone inside (byte bs at) lone)

pub named_piece : (bs : List ℕ) (inside : Inside) (before : Before) (at : ℕ) → is_named bs inside before at ≡ true
    → piece bs inside before at ≡ made (letter_kind (run_end classes.Word bs at) (run_end classes.Name bs (run_end classes.Word bs at))) (run_end classes.Name bs (run_end classes.Word bs at)) changes.Keep
named_piece bs inside before at e =
    calm_piece bs at inside before (and_left (is_code inside) _ e) (calm_named inside before (byte bs at) (and_right (is_code inside) _ e))
    ∙ name_letters bs at (and_left (is_letter (byte bs at)) _ (and_right (not (after_hash before)) _ (and_right (is_code inside) _ e)))

lone_before : (bs : List ℕ) (inside : Inside) (at : ℕ) → is_lone bs inside at ≡ true → before_of (Some (sign_of (byte bs at))) ≡ befores.Other
lone_before bs inside at e = (single_lone inside (byte bs at) (and_right (is_code inside) _ e)).other

letters_before : (plain to : ℕ) → before_of (Some (letter_kind plain to)) ≡ befores.Other
letters_before plain to = go (plain == to)
  where
    go : (t : Bool) → before_of (Some (if t then kinds.Word else kinds.Name)) ≡ befores.Other
    go true = refl
    go false = refl

-- the loop takes a sign by itself
pub loop_lone : (syntax : Syntax) (bs : List ℕ) (acc : List Token) (os : List Opened) (b : Before) (at : ℕ) (t : Result (List Token) ℕ) → behind acc (rest syntax bs os b at) ≡ t → at < length bs
    → is_lone bs (top syntax os) at ≡ true → behind (acc ++ kept_by (Some (sign_of (byte bs at))) at (at + 1) b) (rest syntax bs os befores.Other (at + 1)) ≡ t
loop_lone syntax bs acc os b at t inv l e =
    ap (λ (next : Before). behind (acc ++ kept_by (Some (sign_of (byte bs at))) at (at + 1) b) (rest syntax bs os next (at + 1))) (sym (lone_before bs (top syntax os) at e))
    ∙ loop_step syntax bs acc os b at (record { token = Some (sign_of (byte bs at)); to = at + 1; change = changes.Keep }) t inv l (lone_piece bs (top syntax os) b at e)

-- and a name
pub loop_named : (syntax : Syntax) (bs : List ℕ) (acc : List Token) (os : List Opened) (b : Before) (at plain to : ℕ) (t : Result (List Token) ℕ) → behind acc (rest syntax bs os b at) ≡ t → at < length bs
    → is_named bs (top syntax os) b at ≡ true → plain ≡ run_end classes.Word bs at → to ≡ run_end classes.Name bs plain
    → behind (acc ++ kept_by (Some (letter_kind plain to)) at to b) (rest syntax bs os befores.Other to) ≡ t
loop_named syntax bs acc os b at plain to t inv l e ep et =
    ap (λ (next : Before). behind (acc ++ kept_by (Some (letter_kind plain to)) at to b) (rest syntax bs os next to)) (sym (letters_before plain to))
    ∙ loop_step syntax bs acc os b at (record { token = Some (letter_kind plain to); to = to; change = changes.Keep }) t inv l (rw (et, ep) (named_piece bs (top syntax os) b at e))
