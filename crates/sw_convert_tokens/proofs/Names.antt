-- A name that was read is the same token before what may stand behind a value.
use Rattle.std.proofs.Common.{◌≡◌, ◌⊎◌, ◌≤◌, ◌<◌, ℕ, zero, suc, ◌+◌, ◌-◌, Bool, true, false, not, ◌&&◌, ◌||◌, List, [], ◌∷◌, ◌++◌, length, inl, inr, refl, sym, ◌∙◌, ap, subst, arith}
use Rattle.std.specs.Prelude.{◌==◌, nat_lt}
use Rattle.std.proofs.lemmas.Bool.Decides.{nat_tests}
use Rattle.sw_text_scan.specs.declared.runs.Class.TheVariants as classes
use Rattle.sw_text_scan.specs.declared.signs.TheConstants.{CARRIAGE_RETURN, LINE_FEED}
use Rattle.sw_text_scan.specs.Bytes.{sign, byte, is_white, is_digit, is_letter, is_quote, is_name_byte, starts_plainly, opens_at, begins_silent, begins_loud}
use Rattle.sw_text_scan.specs.Runs.{next, run_end, escape_end, is_word_byte, starts_at, begins_name}
use Rattle.sw_text_scan.specs.Words.{is_u, is_r, is_l, is_plus_or_minus, begins_number, begins_range, begins_url}
use Rattle.sw_text_scan.proofs.Bounds.{if_true, if_false, and_left, and_right, or_left, or_right, byte_past, run_step, run_stop, run_forward}
use Rattle.sw_text_locality.specs.Names as locality
use Rattle.sw_text_locality.proofs.Begins.{escape_goes}
use Rattle.sw_tokens.specs.declared.pieces.Before.{Before}
use Rattle.sw_tokens.specs.declared.pieces.Before.TheVariants as befores
use Rattle.sw_tokens.specs.declared.pieces.Change.{Change}
use Rattle.sw_tokens.specs.declared.skips.Inside.{Inside}
use Rattle.sw_tokens.specs.declared.skips.Inside.TheVariants as insides
use Rattle.sw_tokens.specs.declared.token.TokenKind.{TokenKind}
use Rattle.sw_tokens.specs.declared.token.TokenKind.TheVariants as kinds
use Rattle.sw_tokens.specs.Pieces.{made, piece, name_piece, is_hex_form, is_open_ended, opens_url, after_dollar, after_hash, word_piece, in_interpolation, code_piece}
use Rattle.sw_convert_spelling.specs.Spelt.{is_sheet_code}
use Rattle.sw_convert_spelling.specs.Neighbours.{joins_sign, parts_sign, begins_other}
use Rattle.sw_convert_spelling.proofs.MovedRuns as moved
use Rattle.sw_convert_spelling.proofs.Again as texts
use Rattle.sw_convert_spelling.proofs.Choices.{both, left_no, right_no, neither, by_test, is_name, is_at_name}
use Rattle.sw_convert_spelling.proofs.NamesStay as staying
use Rattle.sw_convert_written.specs.Escapes.{ends_unclosed}
use Rattle.sw_convert_written.specs.Expressions.{is_url}
use Rattle.sw_convert_tokens.specs.Written.{is_calm, begins_white}
use Rattle.sw_text_locality.proofs.Characters.{Character, known, character_next, hex_some}
use Rattle.sw_text_locality.proofs.Characters.Character.{plain, escaped, closed, paired, unclosed}
use Rattle.sw_text_locality.proofs.Written.{byte_before}
use Rattle.sw_convert_tokens.proofs.HexForms.{is_form, no_form}
use Rattle.sw_convert_tokens.proofs.OpenEscapes.{name_open}
use Rattle.sw_convert_tokens.proofs.Stops.{Parted, Behind, parted_behind, white_same, no_escape, name_ends}
use Rattle.sw_convert_tokens.proofs.NamePieces.{name_run}

-- word characters are name characters
word_is_name : (b : ℕ) → is_word_byte b ≡ true → is_name_byte b ≡ true
word_is_name b e = grind (arith, nat_tests)

-- a name runs on from its plain characters
pub word_name : (x : List ℕ) (f i : ℕ) → length x ≤ f + i
    → run_end classes.Name x (run_end classes.Word x i) ≡ run_end classes.Name x i
word_name x zero i l =
    let none = if_false (is_word_byte (byte x i)) (i + 1) i (ap is_word_byte (byte_past x i (omega (arith, l)))) in
    ap (run_end classes.Name x) (run_stop x classes.Word i (omega (arith, none)))
word_name x (suc f) i l = go (is_word_byte (byte x i)) refl (word_name x f (i + 1) (omega (arith, l)))
  where
    go : (t : Bool) → is_word_byte (byte x i) ≡ t
        → run_end classes.Name x (run_end classes.Word x (i + 1)) ≡ run_end classes.Name x (i + 1)
        → run_end classes.Name x (run_end classes.Word x i) ≡ run_end classes.Name x i
    go false t more =
        let none = if_false (is_word_byte (byte x i)) (i + 1) i t in
        ap (run_end classes.Name x) (run_stop x classes.Word i (omega (arith, none)))
    go true t more =
        let word = if_true (is_word_byte (byte x i)) (i + 1) i t in
        let name = if_true (is_name_byte (byte x i)) (i + 1) (escape_end x i) (word_is_name (byte x i) t) in
        ap (run_end classes.Name x)
        (sym (run_step x classes.Word i (omega (arith, word))) ∙ ap (run_end classes.Word x) word)
        ∙ more ∙ ap (run_end classes.Name x) (sym name) ∙ run_step x classes.Name i (omega (arith, name))

-- what a name begins with is nothing else
pub record Start (b : ℕ) : Type 0 where
  pub white : is_white b ≡ false
  pub quote : is_quote b ≡ false
  pub hash : (b == sign "#") ≡ false
  pub brace : (b == sign "}") ≡ false
  pub slash : (b == sign "/") ≡ false
  pub digit : is_digit b ≡ false
  pub dot : (b == sign ".") ≡ false
  pub opening : (b == sign "{") ≡ false
  pub equal : ((b == sign "=") || ((b == sign "!") || ((b == sign "<") || (b == sign ">")))) ≡ false

pub start_by : (b : ℕ) → (starts_plainly b || ((b == sign "\\") || (b == sign "-"))) ≡ true → Start b
start_by b e = record {
  white = grind (arith, nat_tests);
  quote = grind (arith, nat_tests);
  hash = grind (arith, nat_tests);
  brace = grind (arith, nat_tests);
  slash = grind (arith, nat_tests);
  digit = grind (arith, nat_tests);
  dot = grind (arith, nat_tests);
  opening = grind (arith, nat_tests);
  equal = grind (arith, nat_tests);
}

module _ (cs : List ℕ) where
  pub begun_by : (is_letter (byte cs 0) || begins_name cs 0) ≡ true
      → (starts_plainly (byte cs 0) || ((byte cs 0 == sign "\\") || (byte cs 0 == sign "-"))) ≡ true
  unfolding begins_name
  begun_by e = go (is_letter (byte cs 0)) (starts_plainly (byte cs 0)) (byte cs 0 == sign "\\") (byte cs 0 == sign "-") _ _ (letter (byte cs 0)) (escape_goes cs 0) e
    where
      letter : (b : ℕ) → is_letter b ≡ true → starts_plainly b ≡ true
      letter b l = grind (arith, nat_tests)

      go : (l p s d x y : Bool) → (l ≡ true → p ≡ true) → nat_lt 0 (escape_end cs 0) ≡ (s && x)
          → (l || ((p || nat_lt 0 (escape_end cs 0)) || (d && y))) ≡ true → (p || (s || d)) ≡ true
      go l p s d x y f g e = by l p s d x y (nat_lt 0 (escape_end cs 0)) f g e
        where
          by : (l p s d x y z : Bool) → (l ≡ true → p ≡ true) → z ≡ (s && x) → (l || ((p || z) || (d && y))) ≡ true
              → (p || (s || d)) ≡ true
          by l true s d x y z f g e = refl
          by l false true d x y z f g e = refl
          by l false false true x y z f g e = refl
          by true false false false x y z f g e = f refl
          by false false false false x y true f g e = sym g
          by false false false false x y false f g e = e

  -- nothing else begins there
  pub code_name : (top : Inside) (before : Before) → Start (byte cs 0) → begins_other before cs ≡ false
      → code_piece cs top before 0 ≡ name_piece cs 0
  unfolding code_piece word_piece opens_url
  code_name top before start other =
      if_false (is_white (byte cs 0)) _ _ start.white
      ∙ if_false (is_quote (byte cs 0)) _ _ start.quote
      ∙ if_false (opens_at cs 0) _ _ (left_no (byte cs 0 == sign "#") _ start.hash)
      ∙ if_false ((byte cs 0 == sign "}") && in_interpolation top) _ _ (left_no (byte cs 0 == sign "}") _ start.brace)
      ∙ if_false (begins_silent cs 0) _ _ (left_no (byte cs 0 == sign "/") _ start.slash)
      ∙ if_false (begins_loud cs 0) _ _ (left_no (byte cs 0 == sign "/") _ start.slash)
      ∙ if_false (after_hash before && is_hex_form cs 0) _ _ (or_left (after_hash before && is_hex_form cs 0) _ other)
      ∙ if_false (begins_number cs 0) _ _
      (neither (is_digit (byte cs 0)) _ start.digit (left_no (byte cs 0 == sign ".") _ start.dot))
      ∙ if_false (not (after_dollar before) && begins_range cs 0) _ _
      (or_left (not (after_dollar before) && begins_range cs 0) _ (or_right (after_hash before && is_hex_form cs 0) _ other))
      ∙ if_false (begins_url cs 0 && _) _ _ (left_no (begins_url cs 0) _ no_url)
      ∙ if_false (is_open_ended top && (begins_url cs 0 && _)) _ _ (right_no (is_open_ended top) _ (left_no (begins_url cs 0) _ no_url))
    where
      no_url : begins_url cs 0 ≡ false
      no_url = or_right (not (after_dollar before) && begins_range cs 0) _ (or_right (after_hash before && is_hex_form cs 0) _ other)

  -- a name character is one of the run, and what is none ends it
  pub goes : (i : ℕ) → is_name_byte (byte cs i) ≡ true → run_end classes.Name cs i ≡ run_end classes.Name cs (i + 1)
  goes i e =
      let on = if_true (is_name_byte (byte cs i)) (i + 1) (escape_end cs i) e in
      sym (run_step cs classes.Name i (omega (arith, on))) ∙ ap (run_end classes.Name cs) on

  pub ends : (i : ℕ) → is_name_byte (byte cs i) ≡ false → (byte cs i == sign "\\") ≡ false → run_end classes.Name cs i ≡ i
  unfolding escape_end
  ends i e s =
      let on = if_false (is_name_byte (byte cs i)) (i + 1) (escape_end cs i) e ∙ if_true (not (byte cs i == sign "\\")) i _ (ap not s) in
      run_stop cs classes.Name i (omega (arith, on))

  -- a name before what goes on with none begins no range and no url
  module _ (n : ℕ) (run : run_end classes.Name cs 0 ≡ n)
      (range : (byte cs n == sign "+") ≡ true → n ≡ 1 → is_u (byte cs 0) ≡ false)
      (other : (byte cs n == sign "(") ≡ true → n ≡ 3 → (is_u (byte cs 0) && (is_r (byte cs 1) && is_l (byte cs 2))) ≡ false) where
    u_name : (b : ℕ) → is_u b ≡ true → is_name_byte b ≡ true
    u_name b e = grind (arith, nat_tests)

    r_name : (b : ℕ) → is_r b ≡ true → is_name_byte b ≡ true
    r_name b e = grind (arith, nat_tests)

    l_name : (b : ℕ) → is_l b ≡ true → is_name_byte b ≡ true
    l_name b e = grind (arith, nat_tests)

    plus_dark : (b : ℕ) → (b == sign "+") ≡ true
        → (is_name_byte b ≡ false) × ((b == sign "\\") ≡ false) × (is_plus_or_minus b ≡ true)
    plus_dark b e = (grind (arith, nat_tests), grind (arith, nat_tests), grind (arith, nat_tests))

    paren_dark : (b : ℕ) → (b == sign "(") ≡ true → (is_name_byte b ≡ false) × ((b == sign "\\") ≡ false)
    paren_dark b e = (grind (arith, nat_tests), grind (arith, nat_tests))

    no_range : begins_range cs 0 ≡ false
    no_range = by_test (begins_range cs 0 ≡ false) (begins_range cs 0) (λ t. absurd (wrong t)) (λ t. t)
      where
        wrong : begins_range cs 0 ≡ true → ⊥
        wrong t =
            let u = and_left (is_u (byte cs 0)) _ t in
            let plus = and_left (byte cs 1 == sign "+") _ (and_right (is_u (byte cs 0)) _ t) in
            let p = plus_dark (byte cs 1) plus in
            let end : 1 ≡ n = sym (ends 1 p.0 p.1) ∙ sym (goes 0 (u_name (byte cs 0) u)) ∙ run in
            let none = range (ap (λ (k : ℕ). byte cs k == sign "+") (sym end) ∙ plus) (sym end) in
            (let no : true ≡ false = sym u ∙ none in cc)

    no_url : begins_url cs 0 ≡ false
    no_url = by_test (begins_url cs 0 ≡ false) (begins_url cs 0) (λ t. absurd (wrong t)) (λ t. t)
      where
        wrong : begins_url cs 0 ≡ true → ⊥
        wrong t =
            let u = and_left (is_u (byte cs 0)) _ t in
            let t1 = and_right (is_u (byte cs 0)) _ t in
            let r = and_left (is_r (byte cs 1)) _ t1 in
            let t2 = and_right (is_r (byte cs 1)) _ t1 in
            let l = and_left (is_l (byte cs 2)) _ t2 in
            let paren = and_right (is_l (byte cs 2)) _ t2 in
            let p = paren_dark (byte cs 3) paren in
            let end : 3 ≡ n =
            sym (ends 3 p.0 p.1) ∙ sym (goes 2 (l_name (byte cs 2) l)) ∙ sym (goes 1 (r_name (byte cs 1) r))
            ∙ sym (goes 0 (u_name (byte cs 0) u)) ∙ run in
            let there : (byte cs n == sign "(") ≡ true = ap (λ (k : ℕ). byte cs k == sign "(") (sym end) ∙ paren in
            let d = other there (sym end) in
            let x = both (is_u (byte cs 0)) _ u (both (is_r (byte cs 1)) _ r l) in (let no : true ≡ false = sym x ∙ d in cc)

    calm_other : (before : Before) → is_calm before ≡ true → begins_other before cs ≡ false
    calm_other befores.White c = neither (begins_range cs 0) (begins_url cs 0) no_range no_url
    calm_other befores.Other c = neither (begins_range cs 0) (begins_url cs 0) no_range no_url
    calm_other befores.Hash c = absurd (cc)
    calm_other befores.Dollar c = absurd (cc)

-- ---- one sign alone

joins_no : (b : ℕ) (after : List ℕ) → is_name_byte (byte after 0) ≡ false → (byte after 0 == sign "\\") ≡ false → Start b
    → (b == sign "\\") ≡ false → joins_sign b after ≡ false
unfolding begins_name
joins_no b after name bars start slash =
    neither _ _ (left_no (b == sign "#") _ start.hash)
    (neither _ _ (left_no (b == sign "/") _ start.slash)
    (neither _ _ (left_no (b == sign ".") _ start.dot)
    (neither _ _ (left_no ((b == sign "=") || ((b == sign "!") || ((b == sign "<") || (b == sign ">")))) _ start.equal)
    (neither _ _ (right_no (b == sign "-") _ (neither (starts_at after 0) _ no_start (no_dash (byte after 0) name)))
    (neither _ _ (right_no (b == sign "@") _ no_name) (left_no (b == sign "\\") _ slash))))))
  where
    no_dash : (c : ℕ) → is_name_byte c ≡ false → (c == sign "-") ≡ false
    no_dash c e = grind (arith, nat_tests)

    plain_no : (c : ℕ) → is_name_byte c ≡ false → starts_plainly c ≡ false
    plain_no c e = grind (arith, nat_tests)

    no_start : starts_at after 0 ≡ false
    no_start = neither (starts_plainly (byte after 0)) _ (plain_no (byte after 0) name) (ap (nat_lt 0) (no_escape after bars))

    no_name : begins_name after 0 ≡ false
    no_name = neither (starts_at after 0) _ no_start (left_no (byte after 0 == sign "-") _ (no_dash (byte after 0) name))

-- an escape is longer than one byte
pub slash_long : (bs : List ℕ) → (byte bs 0 == sign "\\") ≡ true → run_end classes.Name bs 0 ≡ 1 → ⊥
slash_long bs slash run = go (texts.lt_or_le 0 (next classes.Name bs 0))
  where
    no_name : (b : ℕ) → (b == sign "\\") ≡ true → is_name_byte b ≡ true → ⊥
    no_name b e f = let wrong : is_name_byte b ≡ false = grind (arith, nat_tests) in (let no : true ≡ false = sym f ∙ wrong in cc)

    of_one : (m : ℕ) (bare : Bool) → Character bs 0 m bare → m ≡ 1 → ⊥
    of_one m bare (plain q e) one = no_name (byte bs 0) slash e
    of_one m bare (escaped q s h o) one = omega (arith, q, one)
    of_one m bare (closed k q s h e p w) one = omega (arith, q, one)
    of_one m bare (paired k q s h e p) one = omega (arith, q, one)
    of_one m bare (unclosed k q s h e w) one = let some = hex_some bs k (0 + 1) h e in omega (arith, q, one, some)

    go : (0 < next classes.Name bs 0) ⊎ (next classes.Name bs 0 ≤ 0) → ⊥
    go (inr stays) = let none = run_stop bs classes.Name 0 stays in omega (arith, none, run)
    go (inl lt) =
        let k = known bs 0 lt in
        let there = character_next bs 0 k.bytes k.bare k.kind in
        let step = run_step bs classes.Name 0 lt in
        let fw = run_forward bs classes.Name (next classes.Name bs 0) in
        of_one k.bytes k.bare k.kind (omega (arith, there, step, fw, lt, run))

-- `url` by its bytes
url_bytes : (w after : List ℕ) → length w ≡ 3 → is_url w ≡ false
    → (is_u (byte (w ++ after) 0) && (is_r (byte (w ++ after) 1) && is_l (byte (w ++ after) 2))) ≡ false
unfolding byte
url_bytes (a ∷ b ∷ c ∷ []) after l e = e
url_bytes (a ∷ b ∷ []) after l e = absurd (omega (arith, l))
url_bytes (a ∷ []) after l e = absurd (omega (arith, l))
url_bytes [] after l e = absurd (omega (arith, l))
url_bytes (a ∷ b ∷ c ∷ d ∷ w) after l e = absurd (omega (arith, l))

-- ---- a name that was read, before what may stand behind it

module _ (w old after : List ℕ) (kind : TokenKind) (change : Change) (k : is_name kind ≡ true) (some : 0 < length w)
    (is : name_piece (w ++ old) 0 ≡ made kind (length w) change) (p : Behind w after) where
  abbrev cs : List ℕ
  cs = w ++ after

  run_at : (xs : List ℕ) → name_piece xs 0 ≡ made kind (length w) change → run_end classes.Name xs 0 ≡ length w
  run_at xs e = go (name_run kind (length w) change k xs e).1
    where
      go : ((is_letter (byte xs 0) ≡ true) × (run_end classes.Name xs (run_end classes.Word xs 0) ≡ length w))
          ⊎ (run_end classes.Name xs 0 ≡ length w)
          → run_end classes.Name xs 0 ≡ length w
      go (inl l) = sym (word_name xs (length xs) 0 (omega arith)) ∙ l.1
      go (inr e) = e

  start_of : (xs : List ℕ) → name_piece xs 0 ≡ made kind (length w) change → Start (byte xs 0)
  start_of xs e = start_by (byte xs 0) (begun_by xs (name_run kind (length w) change k xs e).0)

  first_same : byte (w ++ old) 0 ≡ byte cs 0
  first_same = texts.same w old after 0 some

  behind_is : byte cs (length w) ≡ byte after 0
  behind_is = texts.behind_first w old after

  -- a range begins with a `u` and a `+`
  range_here : (byte cs (length w) == sign "+") ≡ true → length w ≡ 1 → is_u (byte cs 0) ≡ false
  range_here e one = ap is_u (byte_before w after 0 some) ∙ p.range (ap (λ (b : ℕ). b == sign "+") (sym behind_is) ∙ e) one

  no_url_here : (byte cs (length w) == sign "(") ≡ true → length w ≡ 3
      → (is_u (byte cs 0) && (is_r (byte cs 1) && is_l (byte cs 2))) ≡ false
  no_url_here e l = url_bytes w after l (p.url (ap (λ (b : ℕ). b == sign "(") (sym behind_is) ∙ e))

  open_same : locality.ends_unclosed (w ++ old) 0 ≡ ends_unclosed w
  open_same = name_open w old (run_at (w ++ old) is)

  parts : texts.Parts w old after (locality.ends_unclosed (w ++ old) 0)
  parts =
      let place : length w ≡ length w + 0 = omega arith in
      let there : next classes.Name cs (length w) ≡ length w + 0 =
      ap (next classes.Name cs) place ∙ moved.next_moved w after classes.Name 0
      ∙ ap (λ (n : ℕ). length w + n) (name_ends after p.name p.slash) in record {
        stops = omega (arith, there);
        white =
            ap (λ (t : Bool). t && is_white (byte cs (length w))) open_same
            ∙ ap (λ (b : ℕ). ends_unclosed w && is_white b) behind_is
            ∙ ap (λ (t : Bool). ends_unclosed w && t) (white_same after)
            ∙ turned (begins_white after) (ends_unclosed w) p.closed;
        feed = ap (λ (b : ℕ). (b == CARRIAGE_RETURN) && (byte cs (length w) == LINE_FEED)) (byte_before w after (length w - 1) (omega (arith, some)))
            ∙ ap (λ (b : ℕ). (byte w (length w - 1) == CARRIAGE_RETURN) && (b == LINE_FEED)) behind_is ∙ p.feed;
      }
    where
      turned : (a b : Bool) → (a && b) ≡ false → (b && a) ≡ false
      turned true true e = e
      turned true false e = refl
      turned false true e = refl
      turned false false e = refl

  parted : parts_sign w after ≡ true
  parted =
      signed w refl (λ b e. joins_no b after p.name p.slash
      (subst Start (ap (λ (xs : List ℕ). byte (xs ++ old) 0) e ∙ moved.first_byte b old) (start_of (w ++ old) is))
      (by_test ((b == sign "\\") ≡ false) (b == sign "\\")
      (λ t. absurd (slash_long (w ++ old)
      (ap (λ (c : ℕ). c == sign "\\") (ap (λ (xs : List ℕ). byte (xs ++ old) 0) e ∙ moved.first_byte b old) ∙ t)
      (run_at (w ++ old) is ∙ ap length e)))
      (λ t. t)))
    where
      signed : (xs : List ℕ) → w ≡ xs → ((b : ℕ) → w ≡ b ∷ [] → joins_sign b after ≡ false) → parts_sign xs after ≡ true
      signed [] e j = refl
      signed (b ∷ []) e j = ap not (j b e)
      signed (b ∷ c ∷ xs) e j = refl

  no_at : is_at_name kind ≡ true → ⊥
  no_at a = by kind k a
    where
      by : (x : TokenKind) → is_name x ≡ true → is_at_name x ≡ true → ⊥
      by kinds.AtName n a = let wrong : false ≡ true = n in cc
      by kinds.Word n a = let wrong : false ≡ true = a in cc
      by kinds.Name n a = let wrong : false ≡ true = a in cc
      by kinds.DashedName n a = let wrong : false ≡ true = a in cc
      by _ n a = let wrong : false ≡ true = a in cc

  name_here : name_piece cs 0 ≡ made kind (length w) change
  name_here = staying.names_again w old after some parted kind change (λ n. parts) (λ a. absurd (no_at a)) is

  name_code : (top : Inside) (before : Before) → is_calm before ≡ true
      → code_piece cs top before 0 ≡ made kind (length w) change
  name_code top before calm =
      code_name cs top before (start_of cs name_here)
      (calm_other cs (length w) (run_at cs name_here) range_here no_url_here before calm)
      ∙ name_here

  pub token_at : (inside : Inside) (before : Before) → is_sheet_code inside ≡ true → is_calm before ≡ true
      → piece cs inside before 0 ≡ made kind (length w) change
  token_at insides.Sheet before code calm = name_code insides.Sheet before calm
  token_at insides.Interpolation before code calm = name_code insides.Interpolation before calm
  token_at _ before code calm = absurd (cc)

  -- and so behind a `$`
  dollar_code : (top : Inside) → code_piece cs top befores.Dollar 0 ≡ made kind (length w) change
  dollar_code top =
      code_name cs top befores.Dollar (start_of cs name_here)
      (no_url cs (length w) (run_at cs name_here) range_here no_url_here)
      ∙ name_here

  pub dollar_at : (inside : Inside) → is_sheet_code inside ≡ true
      → piece cs inside befores.Dollar 0 ≡ made kind (length w) change
  dollar_at insides.Sheet code = dollar_code insides.Sheet
  dollar_at insides.Interpolation code = dollar_code insides.Interpolation
  dollar_at _ code = absurd (cc)

  -- and behind a `#`, where it is no hexadecimal form
  hash_code : is_form w ≡ false → (top : Inside) → code_piece cs top befores.Hash 0 ≡ made kind (length w) change
  hash_code none top =
      code_name cs top befores.Hash (start_of cs name_here)
      (neither (is_hex_form cs 0) _ (no_form w after (run_at cs name_here) none)
      (neither (begins_range cs 0) (begins_url cs 0)
      (no_range cs (length w) (run_at cs name_here) range_here no_url_here)
      (no_url cs (length w) (run_at cs name_here) range_here no_url_here)))
      ∙ name_here

  pub hash_at : is_form w ≡ false → (inside : Inside) → is_sheet_code inside ≡ true
      → piece cs inside befores.Hash 0 ≡ made kind (length w) change
  hash_at none insides.Sheet code = hash_code none insides.Sheet
  hash_at none insides.Interpolation code = hash_code none insides.Interpolation
  hash_at none _ code = absurd (cc)

  -- it begins with no white space
  black_at : is_white (byte w 0) ≡ false
  black_at = ap is_white (sym (byte_before w old 0 some)) ∙ (start_of (w ++ old) is).white

-- the same before what may stand behind a value
module _ (w old after : List ℕ) (kind : TokenKind) (change : Change) (k : is_name kind ≡ true) (some : 0 < length w)
    (is : name_piece (w ++ old) 0 ≡ made kind (length w) change) (p : Parted w after) where
  pub run_by : (xs : List ℕ) → name_piece xs 0 ≡ made kind (length w) change → run_end classes.Name xs 0 ≡ length w
  run_by = run_at w old after kind change k some is (parted_behind w after p)

  pub name_token : (inside : Inside) (before : Before) → is_sheet_code inside ≡ true → is_calm before ≡ true
      → piece (w ++ after) inside before 0 ≡ made kind (length w) change
  name_token = token_at w old after kind change k some is (parted_behind w after p)

  pub name_dollar : (inside : Inside) → is_sheet_code inside ≡ true
      → piece (w ++ after) inside befores.Dollar 0 ≡ made kind (length w) change
  name_dollar = dollar_at w old after kind change k some is (parted_behind w after p)

  pub name_hash : is_form w ≡ false → (inside : Inside) → is_sheet_code inside ≡ true
      → piece (w ++ after) inside befores.Hash 0 ≡ made kind (length w) change
  name_hash = hash_at w old after kind change k some is (parted_behind w after p)

  -- it begins with no white space
  pub name_black : is_white (byte w 0) ≡ false
  name_black = black_at w old after kind change k some is (parted_behind w after p)

  pub name_start : Start (byte w 0)
  name_start =
      subst Start (byte_before w old 0 some) (start_of w old after kind change k some is (parted_behind w after p) (w ++ old) is)
