-- The name `url` before arguments that are no raw text.
use Rattle.std.proofs.Common.{◌≡◌, ℕ, zero, suc, ◌+◌, ◌-◌, Bool, true, false, not, ◌&&◌, ◌||◌, if◌then◌else◌, List, [], ◌∷◌, ◌++◌, length, Option, None, is_some, refl, sym, ◌∙◌, ap, arith}
use Rattle.std.specs.Prelude.{◌==◌, nat_lt}
use Rattle.std.proofs.lemmas.Bool.Decides.{nat_tests}
use Rattle.sw_text_scan.specs.declared.signs.TheConstants.{END}
use Rattle.sw_text_scan.specs.declared.runs.Class.{Class}
use Rattle.sw_text_scan.specs.declared.runs.Class.TheVariants as classes
use Rattle.sw_text_scan.specs.Bytes.{sign, byte, is_white, is_digit, is_hex_digit, is_letter, is_quote, is_url_byte, opens_at, begins_silent, begins_loud}
use Rattle.sw_text_scan.specs.Runs.{next, run_end, escape_end, is_word_byte, goes_in_url, goes_in_inner_url}
use Rattle.sw_text_scan.specs.Words.{is_u, is_r, is_l, begins_number, begins_range, begins_url, url_text_end, url_close}
use Rattle.sw_text_scan.proofs.Bounds.{if_true, if_false, and_left, and_right, run_step, run_stop, run_forward}
use Rattle.sw_tokens.specs.declared.pieces.Before.{Before}
use Rattle.sw_tokens.specs.declared.pieces.Before.TheVariants as befores
use Rattle.sw_tokens.specs.declared.pieces.Change.{Change}
use Rattle.sw_tokens.specs.declared.pieces.Change.TheVariants as changes
use Rattle.sw_tokens.specs.declared.skips.Inside.{Inside}
use Rattle.sw_tokens.specs.declared.skips.Inside.TheVariants as insides
use Rattle.sw_tokens.specs.declared.skips.Skim.{Skim}
use Rattle.sw_tokens.specs.declared.skips.Skim.TheVariants as skims
use Rattle.sw_tokens.specs.declared.token.TokenKind.{TokenKind}
use Rattle.sw_tokens.specs.declared.token.TokenKind.TheVariants as kinds
use Rattle.sw_tokens.specs.Pieces.{made, piece, letter_kind, name_piece, has_hex_length, is_hex_form, is_open_ended, opens_url, url_class, url_inside, after_dollar, after_hash, word_piece, in_interpolation, code_piece}
use Rattle.sw_tokens.specs.Skips.{skim, skim_in, skim_url, skip, skip_with, skip_rest, skip_on, closed_at, passed, closes_url}
use Rattle.sw_convert_spelling.specs.Spelt.{is_sheet_code}
use Rattle.sw_convert_spelling.proofs.Choices.{left_no, right_no, both, neither, ends_here}
use Rattle.sw_convert_written.specs.Expressions.{is_url}
use Rattle.sw_convert_tokens.specs.Written.{is_calm}
use Rattle.sw_convert_tokens.proofs.Names.{ends}

-- a quote or a `$`
abbrev pub is_opaque_byte : ℕ → Bool
is_opaque_byte b = is_quote b || (b == sign "$")

-- arguments behind a `url(` that are no raw text: they begin with a quote or a `$`, or an empty comment and a space stand
-- before them
pub data NoText : List ℕ → Type 0 where
  opaque : (b : ℕ) (rest : List ℕ) → is_opaque_byte b ≡ true → NoText (b ∷ rest)
  guarded : (b : ℕ) (rest : List ℕ) → is_white b ≡ false → (b == sign ")") ≡ false
      → NoText (sign "/" ∷ sign "*" ∷ sign "*" ∷ sign "/" ∷ sign " " ∷ b ∷ rest)

-- no character of a url's raw text
record Shut (b : ℕ) : Type 0 where
  url : is_url_byte b ≡ false
  slash : (b == sign "\\") ≡ false
  hash : (b == sign "#") ≡ false
  paren : (b == sign ")") ≡ false

opaque_shut : (b : ℕ) → is_opaque_byte b ≡ true → Shut b
opaque_shut b e = record {
  url = grind (arith, nat_tests);
  slash = grind (arith, nat_tests);
  hash = grind (arith, nat_tests);
  paren = grind (arith, nat_tests);
}

opaque_black : (b : ℕ) → is_opaque_byte b ≡ true → is_white b ≡ false
opaque_black b e = grind (arith, nat_tests)

abbrev is_raw : Class → Bool
is_raw classes.Url = true
is_raw classes.UrlInside = true
is_raw _ = false

abbrev is_raw_inside : Inside → Bool
is_raw_inside insides.Url = true
is_raw_inside insides.UrlInside = true
is_raw_inside _ = false

-- ---- raw text of a url ends before such a byte

module _ (bs : List ℕ) (i : ℕ) where
  white_stays : is_white (byte bs i) ≡ false → run_end classes.White bs i ≡ i
  white_stays e = let on = if_false (is_white (byte bs i)) (i + 1) i e in run_stop bs classes.White i (omega (arith, on))

  escape_stays : (byte bs i == sign "\\") ≡ false → escape_end bs i ≡ i
  unfolding escape_end
  escape_stays e = if_true (not (byte bs i == sign "\\")) i _ (ap not e)

  raw_stays : Shut (byte bs i) → (class : Class) → is_raw class ≡ true → run_end class bs i ≡ i
  raw_stays s classes.Url r =
      let on = if_false (goes_in_url bs i) (i + 1) (escape_end bs i) (left_no (is_url_byte (byte bs i)) _ s.url) in
      let none = escape_stays s.slash in
      run_stop bs classes.Url i (omega (arith, on, none))
  raw_stays s classes.UrlInside r =
      let on = if_false (goes_in_inner_url bs i) (i + 1) (escape_end bs i)
      (left_no (is_url_byte (byte bs i) && not (byte bs i == sign "}")) _ (left_no (is_url_byte (byte bs i)) _ s.url)) in
      let none = escape_stays s.slash in
      run_stop bs classes.UrlInside i (omega (arith, on, none))
  raw_stays s _ r = absurd (cc)

  -- behind white space there no `)` stands
  abbrev Ends : Type 0
  Ends = (is_white (byte bs i) && (byte bs (run_end classes.White bs i) == sign ")")) ≡ false

  skim_stuck : Shut (byte bs i) → Ends → (class : Class) → is_raw class ≡ true → skim_url bs class i ≡ skims.Stuck
  unfolding skim_url
  skim_stuck s none class r =
      if_false (byte bs i == sign ")") _ _ s.paren
      ∙ if_false (opens_at bs i) _ _ (left_no (byte bs i == sign "#") _ s.hash)
      ∙ if_false (nat_lt i (run_end class bs i)) _ _ (ap (nat_lt i) (raw_stays s class r) ∙ not_below i)
      ∙ if_false (is_white (byte bs i) && _) _ _ none
    where
      not_below : (n : ℕ) → nat_lt n n ≡ false
      not_below n = grind (arith, nat_tests)

  stuck : Shut (byte bs i) → Ends → (inside : Inside) → is_raw_inside inside ≡ true → skim bs inside i ≡ skims.Stuck
  unfolding skim
  stuck s none inside r = at_end (byte bs i == END) (skim_in bs inside i) (by inside r)
    where
      at_end : (t : Bool) (y : Skim) → y ≡ skims.Stuck → (if t then skims.Stuck else y) ≡ skims.Stuck
      at_end true y e = refl
      at_end false y e = e

      by : (x : Inside) → is_raw_inside x ≡ true → skim_in bs x i ≡ skims.Stuck
      by insides.Url r = skim_stuck s none classes.Url refl
      by insides.UrlInside r = skim_stuck s none classes.UrlInside refl
      by _ r = absurd (cc)

  -- where nothing goes on, nothing is closed
  stuck_none : (deeper : Inside → ℕ → Option ℕ) (inside : Inside) (n : ℕ) → skim bs inside i ≡ skims.Stuck
      → skip_with deeper bs inside n i ≡ None
  stuck_none deeper inside zero e = refl
  stuck_none deeper inside (suc n) e =
      ap (λ (t : Skim). skip_on (skip_with deeper bs inside n) (closed_at t) (passed deeper t)) e

  word_goes : is_word_byte (byte bs i) ≡ true → run_end classes.Word bs i ≡ run_end classes.Word bs (i + 1)
  word_goes e =
      let on = if_true (is_word_byte (byte bs i)) (i + 1) i e in
      sym (run_step bs classes.Word i (omega (arith, on))) ∙ ap (run_end classes.Word bs) on

-- ---- `url(` before one

record Begins (u : ℕ) : Type 0 where
  white : is_white u ≡ false
  quote : is_quote u ≡ false
  hash : (u == sign "#") ≡ false
  brace : (u == sign "}") ≡ false
  slash : (u == sign "/") ≡ false
  digit : is_digit u ≡ false
  dot : (u == sign ".") ≡ false
  letter : is_letter u ≡ true
  hex : is_hex_digit u ≡ false
  word : is_word_byte u ≡ true

begins : (u : ℕ) → is_u u ≡ true → Begins u
begins u e = record {
  white = grind (arith, nat_tests);
  quote = grind (arith, nat_tests);
  hash = grind (arith, nat_tests);
  brace = grind (arith, nat_tests);
  slash = grind (arith, nat_tests);
  digit = grind (arith, nat_tests);
  dot = grind (arith, nat_tests);
  letter = grind (arith, nat_tests);
  hex = grind (arith, nat_tests);
  word = grind (arith, nat_tests);
}

r_word : (r : ℕ) → is_r r ≡ true → (is_word_byte r ≡ true) × ((r == sign "+") ≡ false)
r_word r e = (grind (arith, nat_tests), grind (arith, nat_tests))

l_word : (l : ℕ) → is_l l ≡ true → is_word_byte l ≡ true
l_word l e = grind (arith, nat_tests)

-- raw text goes on with such a byte
raw_goes : (bs : List ℕ) (i : ℕ) (class : Class) → is_raw class ≡ true → is_url_byte (byte bs i) ≡ true
    → (byte bs i == sign "#") ≡ false → (byte bs i == sign "}") ≡ false
    → run_end class bs i ≡ run_end class bs (i + 1)
raw_goes bs i classes.Url r u hash brace =
    let on = if_true (goes_in_url bs i) (i + 1) (escape_end bs i)
    (both (is_url_byte (byte bs i)) _ u (ap not (left_no (byte bs i == sign "#") _ hash))) in
    sym (run_step bs classes.Url i (omega (arith, on))) ∙ ap (run_end classes.Url bs) on
raw_goes bs i classes.UrlInside r u hash brace =
    let on = if_true (goes_in_inner_url bs i) (i + 1) (escape_end bs i)
    (both (is_url_byte (byte bs i) && not (byte bs i == sign "}")) _ (both (is_url_byte (byte bs i)) _ u (ap not brace))
    (ap not (left_no (byte bs i == sign "#") _ hash))) in
    sym (run_step bs classes.UrlInside i (omega (arith, on))) ∙ ap (run_end classes.UrlInside bs) on
raw_goes bs i _ r u hash brace = absurd (cc)

-- what a `url(` is no raw text with
record IsNoText (bs : List ℕ) : Type 0 where
  close : (class : Class) → is_raw class ≡ true → (byte bs (url_close bs class 0) == sign ")") ≡ false
  further : (inside : Inside) → is_raw_inside inside ≡ true → (depth : ℕ)
      → skip bs depth inside (run_end classes.White bs (0 + 4)) ≡ None

module _ (u r l d : ℕ) (rest : List ℕ) (o : is_opaque_byte d ≡ true) where
  abbrev quoted : List ℕ
  quoted = u ∷ r ∷ l ∷ sign "(" ∷ d ∷ rest

  shut : Shut (byte quoted 4)
  unfolding byte
  shut = opaque_shut d o

  black : is_white (byte quoted 4) ≡ false
  unfolding byte
  black = opaque_black d o

  opaque_text : IsNoText quoted
  unfolding url_text_end skip_rest
  opaque_text =
      let white_end = white_stays quoted 4 black in record {
        close = λ class c.
            ap (λ (k : ℕ). byte quoted (run_end classes.White quoted (run_end class quoted k)) == sign ")") white_end
            ∙ ap (λ (k : ℕ). byte quoted (run_end classes.White quoted k) == sign ")") (raw_stays quoted 4 shut class c)
            ∙ ap (λ (k : ℕ). byte quoted k == sign ")") white_end ∙ shut.paren;
        further = λ inside i depth. ap (skip quoted depth inside) white_end ∙ none depth inside i;
      }
    where
      none : (depth : ℕ) (inside : Inside) → is_raw_inside inside ≡ true → skip quoted depth inside 4 ≡ None
      none zero inside i = refl
      none (suc depth) inside i =
          stuck_none quoted 4 (skip quoted depth) inside (suc (length quoted - 4))
          (stuck quoted 4 shut (left_no (is_white (byte quoted 4)) _ black) inside i)

module _ (u r l b : ℕ) (rest : List ℕ) (dark : is_white b ≡ false) (no_end : (b == sign ")") ≡ false) where
  abbrev commented : List ℕ
  commented = u ∷ r ∷ l ∷ sign "(" ∷ sign "/" ∷ sign "*" ∷ sign "*" ∷ sign "/" ∷ sign " " ∷ b ∷ rest

  space : Shut (byte commented 8)
  unfolding byte
  space = record { url = refl; slash = refl; hash = refl; paren = refl }

  text_end : (class : Class) → is_raw class ≡ true → run_end class commented 4 ≡ 8
  unfolding byte
  text_end class c =
      raw_goes commented 4 class c refl refl refl ∙ raw_goes commented 5 class c refl refl refl
      ∙ raw_goes commented 6 class c refl refl refl ∙ raw_goes commented 7 class c refl refl refl
      ∙ raw_stays commented 8 space class c

  space_end : run_end classes.White commented 8 ≡ 9
  unfolding byte
  space_end = sym (run_step commented classes.White 8 (omega arith)) ∙ white_stays commented 9 dark

  no_paren : (byte commented (run_end classes.White commented 8) == sign ")") ≡ false
  unfolding byte
  no_paren = ap (λ (k : ℕ). byte commented k == sign ")") space_end ∙ no_end

  white_none : run_end classes.White commented 4 ≡ 4
  unfolding byte
  white_none = white_stays commented 4 refl

  goes : (inside : Inside) → is_raw_inside inside ≡ true → skim commented inside 4 ≡ skims.Goes 8
  unfolding skim skim_url byte
  goes insides.Url i =
      if_true (nat_lt 4 (run_end classes.Url commented 4)) _ _ (ap (nat_lt 4) (text_end classes.Url refl))
      ∙ ap (λ (k : ℕ). skims.Goes k) (text_end classes.Url refl)
  goes insides.UrlInside i =
      if_true (nat_lt 4 (run_end classes.UrlInside commented 4)) _ _ (ap (nat_lt 4) (text_end classes.UrlInside refl))
      ∙ ap (λ (k : ℕ). skims.Goes k) (text_end classes.UrlInside refl)
  goes _ i = absurd (cc)

  guarded_text : IsNoText commented
  unfolding url_text_end skip_rest
  guarded_text = record {
    close = λ class c.
        ap (λ (k : ℕ). byte commented (run_end classes.White commented (run_end class commented k)) == sign ")") white_none
        ∙ ap (λ (k : ℕ). byte commented (run_end classes.White commented k) == sign ")") (text_end class c) ∙ no_paren;
    further = λ inside i depth. ap (skip commented depth inside) white_none ∙ none depth inside i;
  }
    where
      none : (depth : ℕ) (inside : Inside) → is_raw_inside inside ≡ true → skip commented depth inside 4 ≡ None
      none zero inside i = refl
      none (suc depth) inside i =
          let further = skip_with (skip commented depth) commented inside (length commented - 4) in
          ap (λ (t : Skim). skip_on further (closed_at t) (passed (skip commented depth) t)) (goes inside i)
          ∙ stuck_none commented 8 (skip commented depth) inside (length commented - 4)
          (stuck commented 8 space (right_no (is_white (byte commented 8)) _ no_paren) inside i)

no_text : (u r l : ℕ) (after : List ℕ) → NoText after → IsNoText (u ∷ r ∷ l ∷ sign "(" ∷ after)
no_text u r l _ (opaque b rest o) = opaque_text u r l b rest o
no_text u r l _ (guarded b rest dark no_end) = guarded_text u r l b rest dark no_end

module _ (u r l : ℕ) (after : List ℕ) (is : (is_u u && (is_r r && is_l l)) ≡ true) (it : NoText after) where
  abbrev bs : List ℕ
  bs = u ∷ r ∷ l ∷ sign "(" ∷ after

  is_first : is_u u ≡ true
  is_first = and_left (is_u u) _ is

  is_second : is_r r ≡ true
  is_second = and_left (is_r r) _ (and_right (is_u u) _ is)

  is_third : is_l l ≡ true
  is_third = and_right (is_r r) _ (and_right (is_u u) _ is)

  closed_no : (inside : Inside) → is_raw_inside inside ≡ true
      → closes_url bs inside (run_end classes.White bs (0 + 4)) ≡ false
  unfolding closes_url
  closed_no inside c = ap (λ (o : Option ℕ). is_some o) ((no_text u r l after it).further inside c 257)

  word_end : run_end classes.Word bs 0 ≡ 3
  unfolding byte
  word_end =
      word_goes bs 0 (begins u is_first).word ∙ word_goes bs 1 (r_word r is_second).0 ∙ word_goes bs 2 (l_word l is_third)
      ∙ run_stop bs classes.Word 3 (omega arith)

  name_end : run_end classes.Name bs 3 ≡ 3
  unfolding byte
  name_end = ends bs 3 refl refl

  name_is : name_piece bs 0 ≡ made kinds.Word 3 changes.Keep
  unfolding name_piece byte
  name_is =
      if_true (is_letter u) _ _ (begins u is_first).letter
      ∙ ap (λ (k : ℕ). made (letter_kind k (run_end classes.Name bs k)) (run_end classes.Name bs k) changes.Keep) word_end
      ∙ ap (λ (k : ℕ). made (letter_kind 3 k) k changes.Keep) name_end

  code : (top : Inside) → is_raw (url_class top) ≡ true → is_raw_inside (url_inside top) ≡ true → (before : Before)
      → (after_hash before && is_hex_form bs 0) ≡ false → code_piece bs top before 0 ≡ made kinds.Word 3 changes.Keep
  unfolding code_piece word_piece opens_url byte
  code top c i before form =
      let b = begins u is_first in
      if_false (is_white u) _ _ b.white
      ∙ if_false (is_quote u) _ _ b.quote
      ∙ if_false (opens_at bs 0) _ _ (left_no (u == sign "#") _ b.hash)
      ∙ if_false ((u == sign "}") && in_interpolation top) _ _ (left_no (u == sign "}") _ b.brace)
      ∙ if_false (begins_silent bs 0) _ _ (left_no (u == sign "/") _ b.slash)
      ∙ if_false (begins_loud bs 0) _ _ (left_no (u == sign "/") _ b.slash)
      ∙ if_false (after_hash before && is_hex_form bs 0) _ _ form
      ∙ if_false (begins_number bs 0) _ _ (neither (is_digit u) _ b.digit (left_no (u == sign ".") _ b.dot))
      ∙ if_false (not (after_dollar before) && begins_range bs 0) _ _
      (right_no (not (after_dollar before)) _ (right_no (is_u u) _ (left_no (r == sign "+") _ (r_word r is_second).1)))
      ∙ if_false (begins_url bs 0 && (byte bs (url_close bs (url_class top) 0) == sign ")")) _ _
      (right_no (begins_url bs 0) _ ((no_text u r l after it).close (url_class top) c))
      ∙ if_false (is_open_ended top && (begins_url bs 0 && _)) _ _
      (right_no (is_open_ended top) _ (right_no (begins_url bs 0) _ (closed_no (url_inside top) i)))
      ∙ name_is

  calm_hash : (before : Before) → is_calm before ≡ true → after_hash before ≡ false
  calm_hash befores.Hash calm = absurd (cc)
  calm_hash _ calm = refl

  pub url_name : (inside : Inside) (before : Before) → is_sheet_code inside ≡ true → is_calm before ≡ true
      → piece bs inside before 0 ≡ made kinds.Word 3 changes.Keep
  url_name insides.Sheet before code_is calm = code insides.Sheet refl refl before (left_no (after_hash before) _ (calm_hash before calm))
  url_name insides.Interpolation before code_is calm =
      code insides.Interpolation refl refl before (left_no (after_hash before) _ (calm_hash before calm))
  url_name _ before code_is calm = absurd (cc)

  -- behind a `#` too, since no hexadecimal form begins with a `u`
  no_form : is_hex_form bs 0 ≡ false
  unfolding is_hex_form byte
  no_form =
      let on = if_false (is_hex_digit u) (0 + 1) 0 (begins u is_first).hex in
      let none : run_end classes.HexDigit bs 0 ≡ 0 = run_stop bs classes.HexDigit 0 (omega (arith, on)) in
      ap (λ (k : ℕ). has_hex_length (k - 0) && not (nat_lt k (next classes.Name bs k))) none

  pub url_sheet : (before : Before) → piece bs insides.Sheet before 0 ≡ made kinds.Word 3 changes.Keep
  url_sheet before = code insides.Sheet refl refl before (right_no (after_hash before) _ no_form)

-- ---- one that was read

-- a quote or a `$` behind a `(`
abbrev pub begins_opaque : List ℕ → Bool
begins_opaque (b ∷ c ∷ behind) = (b == sign "(") && is_opaque_byte c
begins_opaque _ = false

module _ (u r l : ℕ) (old : List ℕ) (is : (is_u u && (is_r r && is_l l)) ≡ true) where
  abbrev read : List ℕ
  read = u ∷ r ∷ l ∷ old

  letters : run_end classes.Word read 0 ≡ run_end classes.Word read 3
  unfolding byte
  letters =
      word_goes read 0 (begins u (and_left (is_u u) _ is)).word
      ∙ word_goes read 1 (r_word r (and_left (is_r r) _ (and_right (is_u u) _ is))).0
      ∙ word_goes read 2 (l_word l (and_right (is_r r) _ (and_right (is_u u) _ is)))

  -- where it is a name it is a word
  word_read : (kind : TokenKind) (change : Change) → name_piece read 0 ≡ made kind 3 change
      → made kinds.Word 3 changes.Keep ≡ made kind 3 change
  unfolding name_piece byte
  word_read kind change e =
      let w = run_end classes.Word read 0 in
      let z = run_end classes.Name read w in
      let first : name_piece read 0 ≡ made (letter_kind w z) z changes.Keep =
      if_true (is_letter u) _ _ (begins u (and_left (is_u u) _ is)).letter in
      let long : z ≡ 3 = ends_here (letter_kind w z) z changes.Keep (sym first ∙ e) in
      let name = run_forward read classes.Name w in
      let word = run_forward read classes.Word 3 in
      let same = letters in
      let short : w ≡ 3 = omega (arith, long, name, word, same) in
      sym (ap (λ (k : ℕ). made (letter_kind w k) k changes.Keep) long ∙ ap (λ (k : ℕ). made (letter_kind k 3) 3 changes.Keep) short)
      ∙ sym first ∙ e

-- it is the same before arguments that are no raw text
pub url_called : (text old after : List ℕ) (kind : TokenKind) (change : Change)
    → name_piece (text ++ old) 0 ≡ made kind (length text) change → (is_url text && begins_opaque after) ≡ true → (before : Before)
    → piece (text ++ after) insides.Sheet before 0 ≡ made kind (length text) change
url_called (u ∷ r ∷ l ∷ []) old (b ∷ c ∷ after) kind change e it before =
    let url = and_left (is_url (u ∷ r ∷ l ∷ [])) _ it in
    let more = and_right (is_url (u ∷ r ∷ l ∷ [])) _ it in
    ap (λ (x : ℕ). piece (u ∷ r ∷ l ∷ x ∷ c ∷ after) insides.Sheet before 0) (equal b (sign "(") (and_left (b == sign "(") _ more))
    ∙ url_sheet u r l (c ∷ after) url (opaque c after (and_right (b == sign "(") _ more)) before
    ∙ word_read u r l old url kind change e
  where
    equal : (x y : ℕ) → (x == y) ≡ true → x ≡ y
    equal x y f = grind (arith, nat_tests)
url_called text old [] kind change e it before =
    absurd (let none = right_no (is_url text) false refl in let wrong : true ≡ false = sym it ∙ none in cc)
url_called text old (b ∷ []) kind change e it before =
    absurd (let none = right_no (is_url text) false refl in let wrong : true ≡ false = sym it ∙ none in cc)
url_called [] old (b ∷ c ∷ after) kind change e it before = absurd (let wrong : false ≡ true = it in cc)
url_called (u ∷ []) old (b ∷ c ∷ after) kind change e it before = absurd (let wrong : false ≡ true = it in cc)
url_called (u ∷ r ∷ []) old (b ∷ c ∷ after) kind change e it before = absurd (let wrong : false ≡ true = it in cc)
url_called (u ∷ r ∷ l ∷ x ∷ text) old (b ∷ c ∷ after) kind change e it before = absurd (let wrong : false ≡ true = it in cc)
