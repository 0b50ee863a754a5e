-- Names that were read are the same tokens before a `#{`, as before what may stand behind a value.
use Rattle.std.proofs.Common.{◌≡◌, ◌⊎◌, ◌<◌, ℕ, ◌+◌, ◌-◌, Bool, true, false, not, ◌&&◌, ◌||◌, List, [], ◌∷◌, ◌++◌, length, inl, inr, refl, sym, ◌∙◌, ap, subst, arith}
use Rattle.std.specs.Prelude.{◌==◌, nat_lt}
use Rattle.std.proofs.lemmas.Bool.Decides.{nat_tests}
use Rattle.sw_text_scan.specs.declared.runs.Class.TheVariants as classes
use Rattle.sw_text_scan.specs.declared.signs.TheConstants.{CARRIAGE_RETURN, LINE_FEED}
use Rattle.sw_text_scan.specs.Bytes.{sign, byte, is_white, is_digit, is_letter, is_name_byte, starts_plainly}
use Rattle.sw_text_scan.specs.Runs.{next, run_end, escape_end, starts_at, begins_name}
use Rattle.sw_text_scan.specs.Words.{is_u, is_r, is_l, is_plus_or_minus, begins_range, begins_url}
use Rattle.sw_text_scan.proofs.Bounds.{if_false, and_left, and_right}
use Rattle.sw_text_locality.specs.Names as locality
use Rattle.sw_text_locality.proofs.Written.{byte_before}
use Rattle.sw_tokens.specs.declared.pieces.Before.{Before}
use Rattle.sw_tokens.specs.declared.pieces.Before.TheVariants as befores
use Rattle.sw_tokens.specs.declared.pieces.Change.{Change}
use Rattle.sw_tokens.specs.declared.skips.Inside.{Inside}
use Rattle.sw_tokens.specs.declared.skips.Inside.TheVariants as insides
use Rattle.sw_tokens.specs.declared.token.TokenKind.{TokenKind}
use Rattle.sw_tokens.specs.declared.token.TokenKind.TheVariants as kinds
use Rattle.sw_tokens.specs.Pieces.{made, piece, name_piece, code_piece}
use Rattle.sw_convert_spelling.specs.Spelt.{is_sheet_code}
use Rattle.sw_convert_spelling.specs.Neighbours.{joins_sign, parts_sign, begins_other}
use Rattle.sw_convert_spelling.proofs.MovedRuns as moved
use Rattle.sw_convert_spelling.proofs.Again as texts
use Rattle.sw_convert_spelling.proofs.Choices.{left_no, right_no, neither, both, by_test, is_name, is_at_name}
use Rattle.sw_convert_spelling.proofs.NamesStay as staying
use Rattle.sw_convert_written.specs.Escapes.{ends_unclosed}
use Rattle.sw_convert_written.specs.Expressions.{is_url}
use Rattle.sw_convert_tokens.specs.Written.{is_calm, begins_white}
use Rattle.sw_convert_tokens.proofs.OpenEscapes.{name_open}
use Rattle.sw_convert_tokens.proofs.Stops.{Parted, nothing_parts, white_same, no_escape}
use Rattle.sw_convert_tokens.proofs.NamePieces.{name_run}
use Rattle.sw_convert_texts.proofs.DigitTokens.{Still}
use Rattle.sw_convert_tokens.proofs.Names.{word_name, Start, start_by, begun_by, code_name, goes, ends, slash_long}

-- what the first byte behind a name isn't
pub record Quiet (b : ℕ) : Type 0 where
  pub name : is_name_byte b ≡ false
  pub slash : (b == sign "\\") ≡ false
  pub feed : (b == LINE_FEED) ≡ false
  pub sign_before : is_plus_or_minus b ≡ false
  pub equals : (b == sign "=") ≡ false

-- what stands behind a name goes on with none, takes no open escape for its own, and makes no url of it
pub record Settled (value after : List ℕ) : Type 0 where
  pub quiet : Quiet (byte after 0)
  pub closed : (begins_white after && ends_unclosed value) ≡ false
  pub no_url : ((byte after 0 == sign "(") ≡ false) ⊎ (is_url value ≡ false)
  pub still : Still after

pub parted_settled : (value after : List ℕ) → Parted value after → Still after → Settled value after
parted_settled value after p still = record {
  quiet = record {
    name = p.dark.name;
    slash = p.dark.slash;
    feed = p.dark.feed;
    sign_before = p.dark.sign_before;
    equals = p.dark.equals;
  };
  closed = p.closed;
  no_url = inl p.dark.paren;
  still = still;
}

hash_quiet : Quiet (sign "#")
hash_quiet = record { name = refl; slash = refl; feed = refl; sign_before = refl; equals = refl }

pub insert_settled : (value after : List ℕ) → Settled value (sign "#" ∷ after)
insert_settled value after = record {
  quiet = subst Quiet (sym (moved.first_byte (sign "#") after)) hash_quiet;
  closed = refl;
  no_url = inl (ap (λ (b : ℕ). b == sign "(") (moved.first_byte (sign "#") after));
  still = record {
    digit = ap is_digit (moved.first_byte (sign "#") after);
    unit = ap starts_plainly (moved.first_byte (sign "#") after);
    percent = ap (λ (b : ℕ). b == sign "%") (moved.first_byte (sign "#") after);
    point = left_no (byte (sign "#" ∷ after) 0 == sign ".") _ (ap (λ (b : ℕ). b == sign ".") (moved.first_byte (sign "#") after));
  };
}

pub nothing_settled : (value : List ℕ) → Settled value []
unfolding byte
nothing_settled value =
    parted_settled value [] (nothing_parts value) (record { digit = refl; unit = refl; percent = refl; point = refl })

pub no_more : (after : List ℕ) → Quiet (byte after 0) → next classes.Name after 0 ≡ 0
no_more after quiet =
    if_false (is_name_byte (byte after 0)) (0 + 1) (escape_end after 0) quiet.name ∙ no_escape after quiet.slash

-- three letters
three : (w after : List ℕ) → length w ≡ 3 → is_u (byte (w ++ after) 0) ≡ true → is_r (byte (w ++ after) 1) ≡ true
    → is_l (byte (w ++ after) 2) ≡ true → is_url w ≡ true
unfolding byte
three (a ∷ b ∷ c ∷ []) after e u r l = both (is_u a) _ u (both (is_r b) _ r l)
three [] after e u r l = absurd (omega (arith, e))
three (a ∷ []) after e u r l = absurd (omega (arith, e))
three (a ∷ b ∷ []) after e u r l = absurd (omega (arith, e))
three (a ∷ b ∷ c ∷ d ∷ w) after e u r l = absurd (omega (arith, e))

-- a name before what goes on with none begins no range and no url
module _ (w after : List ℕ) (run : run_end classes.Name (w ++ after) 0 ≡ length w) (p : Settled w after) where
  abbrev cs : List ℕ
  cs = w ++ after

  here : byte cs (length w) ≡ byte after 0
  here = texts.behind_first w [] after

  u_name : (b : ℕ) → is_u b ≡ true → is_name_byte b ≡ true
  u_name b e = grind (arith, nat_tests)

  r_name : (b : ℕ) → is_r b ≡ true → is_name_byte b ≡ true
  r_name b e = grind (arith, nat_tests)

  l_name : (b : ℕ) → is_l b ≡ true → is_name_byte b ≡ true
  l_name b e = grind (arith, nat_tests)

  plus_dark : (b : ℕ) → (b == sign "+") ≡ true
      → (is_name_byte b ≡ false) × ((b == sign "\\") ≡ false) × (is_plus_or_minus b ≡ true)
  plus_dark b e = (grind (arith, nat_tests), grind (arith, nat_tests), grind (arith, nat_tests))

  paren_dark : (b : ℕ) → (b == sign "(") ≡ true → (is_name_byte b ≡ false) × ((b == sign "\\") ≡ false)
  paren_dark b e = (grind (arith, nat_tests), grind (arith, nat_tests))

  no_range : begins_range cs 0 ≡ false
  no_range = by_test (begins_range cs 0 ≡ false) (begins_range cs 0) (λ t. absurd (wrong t)) (λ t. t)
    where
      wrong : begins_range cs 0 ≡ true → ⊥
      wrong t =
          let u = and_left (is_u (byte cs 0)) _ t in
          let plus = and_left (byte cs 1 == sign "+") _ (and_right (is_u (byte cs 0)) _ t) in
          let q = plus_dark (byte cs 1) plus in
          let end : 1 ≡ length w = sym (ends cs 1 q.0 q.1) ∙ sym (goes cs 0 (u_name (byte cs 0) u)) ∙ run in
          let d = p.quiet.sign_before in
          let x = ap (λ (k : ℕ). is_plus_or_minus (byte cs k)) end ∙ ap is_plus_or_minus here in
          let y = q.2 in (let no : true ≡ false = sym y ∙ x ∙ d in cc)

  no_url : begins_url cs 0 ≡ false
  no_url = by_test (begins_url cs 0 ≡ false) (begins_url cs 0) (λ t. absurd (wrong t)) (λ t. t)
    where
      wrong : begins_url cs 0 ≡ true → ⊥
      wrong t =
          let u = and_left (is_u (byte cs 0)) _ t in
          let t1 = and_right (is_u (byte cs 0)) _ t in
          let r = and_left (is_r (byte cs 1)) _ t1 in
          let t2 = and_right (is_r (byte cs 1)) _ t1 in
          let l = and_left (is_l (byte cs 2)) _ t2 in
          let paren = and_right (is_l (byte cs 2)) _ t2 in
          let q = paren_dark (byte cs 3) paren in
          let end : 3 ≡ length w =
          sym (ends cs 3 q.0 q.1) ∙ sym (goes cs 2 (l_name (byte cs 2) l)) ∙ sym (goes cs 1 (r_name (byte cs 1) r))
          ∙ sym (goes cs 0 (u_name (byte cs 0) u)) ∙ run in
          either (ap (λ (k : ℕ). byte cs k == sign "(") (sym end) ∙ paren) (three w after (sym end) u r l) p.no_url
        where
          either : (byte cs (length w) == sign "(") ≡ true → is_url w ≡ true
              → ((byte after 0 == sign "(") ≡ false) ⊎ (is_url w ≡ false) → ⊥
          either paren url (inl bars) = let d = ap (λ (b : ℕ). b == sign "(") (sym here) ∙ paren in (let wrong : true ≡ false = sym d ∙ bars in cc)
          either paren url (inr bars) = (let wrong : true ≡ false = sym url ∙ bars in cc)

  calm_other : (before : Before) → is_calm before ≡ true → begins_other before cs ≡ false
  calm_other befores.White c = neither (begins_range cs 0) (begins_url cs 0) no_range no_url
  calm_other befores.Other c = neither (begins_range cs 0) (begins_url cs 0) no_range no_url
  calm_other befores.Hash c = absurd (cc)
  calm_other befores.Dollar c = absurd (cc)

-- ---- one sign alone

pub joins_no : (b : ℕ) (after : List ℕ) → Quiet (byte after 0) → Start b → (b == sign "\\") ≡ false
    → joins_sign b after ≡ false
unfolding begins_name
joins_no b after quiet start slash =
    neither _ _ (left_no (b == sign "#") _ start.hash)
    (neither _ _ (left_no (b == sign "/") _ start.slash)
    (neither _ _ (left_no (b == sign ".") _ start.dot)
    (neither _ _ (right_no ((b == sign "=") || ((b == sign "!") || ((b == sign "<") || (b == sign ">")))) _ quiet.equals)
    (neither _ _ (right_no (b == sign "-") _ (neither (starts_at after 0) _ no_start (no_dash (byte after 0) quiet.name)))
    (neither _ _ (right_no (b == sign "@") _ no_name) (left_no (b == sign "\\") _ slash))))))
  where
    no_dash : (c : ℕ) → is_name_byte c ≡ false → (c == sign "-") ≡ false
    no_dash c e = grind (arith, nat_tests)

    plain_no : (c : ℕ) → is_name_byte c ≡ false → starts_plainly c ≡ false
    plain_no c e = grind (arith, nat_tests)

    no_start : starts_at after 0 ≡ false
    no_start = neither (starts_plainly (byte after 0)) _ (plain_no (byte after 0) quiet.name) (ap (nat_lt 0) (no_escape after quiet.slash))

    no_name : begins_name after 0 ≡ false
    no_name = neither (starts_at after 0) _ no_start (left_no (byte after 0 == sign "-") _ (no_dash (byte after 0) quiet.name))

-- ---- a name that was read, before what goes on with none

module _ (w old after : List ℕ) (kind : TokenKind) (change : Change) (k : is_name kind ≡ true) (some : 0 < length w)
    (is : name_piece (w ++ old) 0 ≡ made kind (length w) change) (p : Settled w after) where
  abbrev new : List ℕ
  new = w ++ after

  run_by : (xs : List ℕ) → name_piece xs 0 ≡ made kind (length w) change → run_end classes.Name xs 0 ≡ length w
  run_by xs e = go (name_run kind (length w) change k xs e).1
    where
      go : ((is_letter (byte xs 0) ≡ true) × (run_end classes.Name xs (run_end classes.Word xs 0) ≡ length w))
          ⊎ (run_end classes.Name xs 0 ≡ length w)
          → run_end classes.Name xs 0 ≡ length w
      go (inl l) = sym (word_name xs (length xs) 0 (omega arith)) ∙ l.1
      go (inr e) = e

  start_of : (xs : List ℕ) → name_piece xs 0 ≡ made kind (length w) change → Start (byte xs 0)
  start_of xs e = start_by (byte xs 0) (begun_by xs (name_run kind (length w) change k xs e).0)

  behind_is : byte new (length w) ≡ byte after 0
  behind_is = texts.behind_first w old after

  quiet : Quiet (byte after 0)
  quiet = p.quiet

  open_same : locality.ends_unclosed (w ++ old) 0 ≡ ends_unclosed w
  open_same = name_open w old (run_by (w ++ old) is)

  parts : texts.Parts w old after (locality.ends_unclosed (w ++ old) 0)
  parts =
      let place : length w ≡ length w + 0 = omega arith in
      let there : next classes.Name new (length w) ≡ length w + 0 =
      ap (next classes.Name new) place ∙ moved.next_moved w after classes.Name 0
      ∙ ap (λ (n : ℕ). length w + n) (no_more after quiet) in record {
        stops = omega (arith, there);
        white =
            ap (λ (t : Bool). t && is_white (byte new (length w))) open_same
            ∙ ap (λ (b : ℕ). ends_unclosed w && is_white b) behind_is
            ∙ ap (λ (t : Bool). ends_unclosed w && t) (white_same after)
            ∙ turned (begins_white after) (ends_unclosed w) p.closed;
        feed = right_no (byte new (length w - 1) == CARRIAGE_RETURN) _
            (ap (λ (b : ℕ). b == LINE_FEED) behind_is ∙ quiet.feed);
      }
    where
      turned : (a b : Bool) → (a && b) ≡ false → (b && a) ≡ false
      turned true true e = e
      turned true false e = refl
      turned false true e = refl
      turned false false e = refl

  parted : parts_sign w after ≡ true
  parted =
      signed w refl (λ b e. joins_no b after quiet
      (subst Start (ap (λ (xs : List ℕ). byte (xs ++ old) 0) e ∙ moved.first_byte b old) (start_of (w ++ old) is))
      (by_test ((b == sign "\\") ≡ false) (b == sign "\\")
      (λ t. absurd (slash_long (w ++ old)
      (ap (λ (c : ℕ). c == sign "\\") (ap (λ (xs : List ℕ). byte (xs ++ old) 0) e ∙ moved.first_byte b old) ∙ t)
      (run_by (w ++ old) is ∙ ap length e)))
      (λ t. t)))
    where
      signed : (xs : List ℕ) → w ≡ xs → ((b : ℕ) → w ≡ b ∷ [] → joins_sign b after ≡ false) → parts_sign xs after ≡ true
      signed [] e j = refl
      signed (b ∷ []) e j = ap not (j b e)
      signed (b ∷ c ∷ xs) e j = refl

  no_at : is_at_name kind ≡ true → ⊥
  no_at a = by kind k a
    where
      by : (x : TokenKind) → is_name x ≡ true → is_at_name x ≡ true → ⊥
      by kinds.AtName n a = let wrong : false ≡ true = n in cc
      by kinds.Word n a = let wrong : false ≡ true = a in cc
      by kinds.Name n a = let wrong : false ≡ true = a in cc
      by kinds.DashedName n a = let wrong : false ≡ true = a in cc
      by _ n a = let wrong : false ≡ true = a in cc

  name_here : name_piece new 0 ≡ made kind (length w) change
  name_here = staying.names_again w old after some parted kind change (λ n. parts) (λ a. absurd (no_at a)) is

  name_code : (top : Inside) (before : Before) → is_calm before ≡ true
      → code_piece new top before 0 ≡ made kind (length w) change
  name_code top before calm =
      code_name new top before (start_of new name_here)
      (calm_other w after (run_by (w ++ after) name_here) p before calm)
      ∙ name_here

  pub settled_token : (inside : Inside) (before : Before) → is_sheet_code inside ≡ true → is_calm before ≡ true
      → piece new inside before 0 ≡ made kind (length w) change
  settled_token insides.Sheet before code calm = name_code insides.Sheet before calm
  settled_token insides.Interpolation before code calm = name_code insides.Interpolation before calm
  settled_token _ before code calm = absurd (cc)

  -- it begins with no white space
  pub settled_black : is_white (byte w 0) ≡ false
  settled_black = ap is_white (sym (byte_before w old 0 some)) ∙ (start_of (w ++ old) is).white

  -- and nothing that a name goes on with stood behind it
  pub old_stop : run_end classes.Name (w ++ old) 0 ≡ length w
  old_stop = run_by (w ++ old) is
