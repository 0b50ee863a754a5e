-- Colours, and other names behind a `#`, are written as they stood.
use Rattle.std.proofs.Common.{◌≡◌, ◌<◌, ℕ, suc, ◌+◌, ◌-◌, Bool, true, false, not, ◌&&◌, ◌||◌, List, [], ◌∷◌, ◌++◌, length, refl, sym, ◌∙◌, ap, subst, arith, lit<}
use Rattle.std.specs.Prelude.{◌==◌, codes, nat_lt}
use Rattle.std.specs.List.{list_all}
use Rattle.std.proofs.lemmas.Bool.Decides.{nat_tests}
use Rattle.sw_text_scan.specs.declared.runs.Class.TheVariants as classes
use Rattle.sw_text_scan.specs.Bytes.{sign, byte, is_white, is_quote, is_hex_digit, is_name_byte, opens_at, begins_silent, begins_loud}
use Rattle.sw_text_scan.specs.Runs.{next, run_end}
use Rattle.sw_text_scan.proofs.Bounds.{if_true, if_false, and_left, and_right, run_step, run_stop}
use Rattle.sw_text_locality.proofs.Written.{byte_before}
use Rattle.sw_tokens.specs.declared.pieces.Before.{Before}
use Rattle.sw_tokens.specs.declared.pieces.Before.TheVariants as befores
use Rattle.sw_tokens.specs.declared.pieces.Change.{Change}
use Rattle.sw_tokens.specs.declared.pieces.Change.TheVariants as changes
use Rattle.sw_tokens.specs.declared.skips.Inside.{Inside}
use Rattle.sw_tokens.specs.declared.skips.Inside.TheVariants as insides
use Rattle.sw_tokens.specs.declared.token.TokenKind.{TokenKind}
use Rattle.sw_tokens.specs.declared.token.TokenKind.TheVariants as kinds
use Rattle.sw_tokens.specs.Pieces.{made, piece, name_piece, has_hex_length, is_hex_form, in_interpolation, word_piece, code_piece}
use Rattle.sw_tokens.specs.Tokens.{is_spaced}
use Rattle.sw_parse_terminals.specs.declared.terminal.Terminal.TheVariants as terminals
use Rattle.sw_parse_lexemes.specs.declared.sort.Sort.TheVariants as sorts
use Rattle.sw_parse_lexemes.specs.Classes.{is_name as is_name_sort}
use Rattle.sw_parse_lexemes.specs.Sorts.{sort_of}
use Rattle.sw_parse_table.specs.Sources.{bytes_between}
use Rattle.sw_convert_spelling.specs.Spelt.{is_sheet_code, behind_gap}
use Rattle.sw_convert_spelling.proofs.MovedRuns as moved
use Rattle.sw_convert_spelling.proofs.Choices.{left_no, both, by_test, is_name}
use Rattle.sw_convert_passing.specs.Written.{written, direct}
use Rattle.sw_convert_passing.specs.Values.{hash}
use Rattle.sw_convert_again.specs.Tokens.{Bytes, tok}
use Rattle.sw_convert_again.specs.Tokens as again
use Rattle.sw_convert_tokens.specs.Joints.{Segment}
use Rattle.sw_convert_tokens.specs.Written.{Follows, gap_of, AsValue, WrittenAs}
use Rattle.sw_convert_tokens.proofs.Signs.{Fits, sign_token}
use Rattle.sw_convert_tokens.proofs.Stops.{stopped, name_ends, follows_parts, nothing_parts}
use Rattle.sw_convert_tokens.proofs.HexForms.{is_form}
use Rattle.sw_convert_tokens.proofs.NamePieces.{name_keep}
use Rattle.sw_convert_tokens.proofs.Names.{name_hash, name_start}
use Rattle.sw_convert_tokens.proofs.OriginChoices.{hash_name}
use Rattle.sw_convert_tokens.proofs.Unclosed.{Ends, follows_end}
use Rattle.sw_convert_tokens.proofs.Words.{name_yes, name_opens, name_behind, name_comment}
use Rattle.sw_convert_tokens.proofs.Pairs.{pair_segment}

-- what a hexadecimal digit isn't
record Digit (b : ℕ) : Type 0 where
  white : is_white b ≡ false
  quote : is_quote b ≡ false
  hash : (b == sign "#") ≡ false
  brace : (b == sign "}") ≡ false
  open_brace : (b == sign "{") ≡ false
  slash : (b == sign "/") ≡ false

digit_by : (b : ℕ) → is_hex_digit b ≡ true → Digit b
digit_by b e = record {
  white = grind (arith, nat_tests);
  quote = grind (arith, nat_tests);
  hash = grind (arith, nat_tests);
  brace = grind (arith, nat_tests);
  open_brace = grind (arith, nat_tests);
  slash = grind (arith, nat_tests);
}

no_hex : (b : ℕ) → is_name_byte b ≡ false → is_hex_digit b ≡ false
no_hex b e = grind (arith, nat_tests)

digits_run : (ds rest : List ℕ) → list_all is_hex_digit ds ≡ true → is_hex_digit (byte rest 0) ≡ false
    → run_end classes.HexDigit (ds ++ rest) 0 ≡ length ds
digits_run [] rest all dark =
    run_stop rest classes.HexDigit 0
    (let e : next classes.HexDigit rest 0 ≡ 0 = if_false (is_hex_digit (byte rest 0)) (0 + 1) 0 dark in omega (arith, e))
digits_run (d ∷ ds) rest all dark =
    let bs = d ∷ (ds ++ rest) in
    let first : is_hex_digit (byte bs 0) ≡ true =
    ap is_hex_digit (moved.first_byte d (ds ++ rest)) ∙ and_left (is_hex_digit d) _ all in
    let goes : next classes.HexDigit bs 0 ≡ 1 = if_true (is_hex_digit (byte bs 0)) (0 + 1) 0 first in
    sym (run_step bs classes.HexDigit 0 (omega (arith, goes))) ∙ ap (run_end classes.HexDigit bs) goes
    ∙ moved.run_moved (d ∷ []) (ds ++ rest) classes.HexDigit 0
    ∙ ap (λ (n : ℕ). 1 + n) (digits_run ds rest (and_right (is_hex_digit d) _ all) dark)
    ∙ (let e : 1 + length ds ≡ length (d ∷ ds) = omega arith in e)

module _ (ds after : List ℕ) (all : list_all is_hex_digit ds ≡ true) (long : has_hex_length (length ds) ≡ true)
    (name : is_name_byte (byte after 0) ≡ false) (slash : (byte after 0 == sign "\\") ≡ false) where
  abbrev bs : List ℕ
  bs = ds ++ after

  some : 0 < length ds
  some = go ds long
    where
      go : (xs : List ℕ) → has_hex_length (length xs) ≡ true → 0 < length xs
      go [] e = absurd (cc)
      go (x ∷ xs) e = omega arith

  first : is_hex_digit (byte (ds ++ after) 0) ≡ true
  first = go ds some all
    where
      go : (xs : List ℕ) → 0 < length xs → list_all is_hex_digit xs ≡ true → is_hex_digit (byte (xs ++ after) 0) ≡ true
      go [] l e = absurd (omega (arith, l))
      go (x ∷ xs) l e = ap is_hex_digit (moved.first_byte x (xs ++ after)) ∙ and_left (is_hex_digit x) _ e

  run : run_end classes.HexDigit (ds ++ after) 0 ≡ length ds
  run = digits_run ds after all (no_hex (byte after 0) name)

  form : is_hex_form (ds ++ after) 0 ≡ true
  unfolding is_hex_form
  form =
      let place : length ds ≡ length ds + 0 = omega arith in
      let none : next classes.Name bs (length ds) ≡ length ds =
      ap (next classes.Name bs) place ∙ moved.next_moved ds after classes.Name 0
      ∙ ap (λ (n : ℕ). length ds + n) (name_ends after name slash) ∙ sym place in
      both (has_hex_length (run_end classes.HexDigit bs 0 - 0)) _
      (ap (λ (n : ℕ). has_hex_length (n - 0)) run ∙ ap has_hex_length (let z : length ds - 0 ≡ length ds = omega arith in z) ∙ long)
      (ap (λ (n : ℕ). not (nat_lt n (next classes.Name bs n))) run
      ∙ ap (λ (n : ℕ). not (nat_lt (length ds) n)) none
      ∙ ap not (let z : nat_lt (length ds) (length ds) ≡ false = grind (arith, nat_tests) in z))

  hex_code : (top : Inside) → code_piece (ds ++ after) top befores.Hash 0 ≡ made kinds.Hex (length ds) changes.Keep
  unfolding code_piece word_piece
  hex_code top =
      let d = digit_by (byte bs 0) first in
      if_false (is_white (byte bs 0)) _ _ d.white
      ∙ if_false (is_quote (byte bs 0)) _ _ d.quote
      ∙ if_false (opens_at bs 0) _ _ (left_no (byte bs 0 == sign "#") _ d.hash)
      ∙ if_false ((byte bs 0 == sign "}") && in_interpolation top) _ _ (left_no (byte bs 0 == sign "}") _ d.brace)
      ∙ if_false (begins_silent bs 0) _ _ (left_no (byte bs 0 == sign "/") _ d.slash)
      ∙ if_false (begins_loud bs 0) _ _ (left_no (byte bs 0 == sign "/") _ d.slash)
      ∙ if_true (is_hex_form bs 0) _ _ form
      ∙ ap (λ (n : ℕ). made kinds.Hex n changes.Keep) run

  pub hex_token : (inside : Inside) → is_sheet_code inside ≡ true
      → piece (ds ++ after) inside befores.Hash 0 ≡ made kinds.Hex (length ds) changes.Keep
  hex_token insides.Sheet code = hex_code insides.Sheet
  hex_token insides.Interpolation code = hex_code insides.Interpolation
  hex_token _ code = absurd (cc)

  hash_fits : Fits kinds.Hash (ds ++ after)
  unfolding byte
  hash_fits = ap (λ (x : Bool). not (x || false) && true) (digit_by (byte bs 0) first).open_brace

-- `#` and three, four, six or eight hexadecimal digits
abbrev pub is_colour : List ℕ → Bool
is_colour [] = false
is_colour (b ∷ digits) = (b == sign "#") && is_form digits

pub colour_written : (text : List ℕ) → is_colour text ≡ true
    → WrittenAs (AsValue false) text (tok terminals.Hash (Bytes 2 text) ∷ again.sign terminals.HashName ∷ [])
unfolding byte
colour_written [] e = absurd (cc)
colour_written (b ∷ ds) e = by_hash b (is_hash b (and_left (b == sign "#") _ e))
  where
    is_hash : (b : ℕ) → (b == sign "#") ≡ true → sign "#" ≡ b
    is_hash b e = grind (arith, nat_tests)

    all : list_all is_hex_digit ds ≡ true
    all = and_left (list_all is_hex_digit ds) _ (and_right (b == sign "#") _ e)

    long : has_hex_length (length ds) ≡ true
    long = and_right (list_all is_hex_digit ds) _ (and_right (b == sign "#") _ e)

    whole : WrittenAs (AsValue false) (codes "#" ++ ds)
        (tok terminals.Hash (Bytes 2 (codes "#" ++ ds)) ∷ again.sign terminals.HashName ∷ [])
    whole before spaced calm = record {
      passed = _;
      segment = pair_segment kinds.Hash kinds.Hex (codes "#") ds (terminals.Hash ∷ []) (terminals.HashName ∷ [])
          (Bytes 2 (codes "#" ++ ds)) before spaced (Follows (codes "#" ++ ds)) refl refl refl refl refl (lit< tt)
          (some ds [] all long (stopped [] refl).name (stopped [] refl).slash)
          (λ new at same. ap (bytes_between new at) (let z : at + 2 ≡ suc (suc at) = omega arith in z) ∙ same)
          (λ inside after code f.
          sign_token kinds.Hash (ds ++ after) inside (behind_gap before (gap_of spaced)) refl code calm
          (hash_fits ds after all long (stopped after f.stop).name (stopped after f.stop).slash))
          (λ inside after code f. hex_token ds after all long (stopped after f.stop).name (stopped after f.stop).slash inside code);
      told = λ mode free. hash sorts.Hex refl;
    }

    by_hash : (c : ℕ) → sign "#" ≡ c
        → WrittenAs (AsValue false) (c ∷ ds) (tok terminals.Hash (Bytes 2 (c ∷ ds)) ∷ again.sign terminals.HashName ∷ [])
    by_hash c e =
        subst
        (λ (x : ℕ). WrittenAs (AsValue false) (x ∷ ds) (tok terminals.Hash (Bytes 2 (x ∷ ds)) ∷ again.sign terminals.HashName ∷ []))
        e whole

-- ---- names that are no colour

hash_ends : Ends (sign "#")
hash_ends = record { slash = refl; digit = refl }

module _ (w old : List ℕ) (kind : TokenKind) (change : Change) (k : is_name kind ≡ true) (some : 0 < length w)
    (is : name_piece (w ++ old) 0 ≡ made kind (length w) change) where
  n : is_name_sort (sort_of kind w) ≡ true
  n = name_yes kind w k

  fits : (after : List ℕ) → Fits kinds.Hash (w ++ after)
  unfolding byte
  fits after =
      ap (λ (x : Bool). not (x || false) && true)
      (ap (λ (b : ℕ). b == sign "{") (byte_before w after 0 some)
      ∙ (name_start w old [] kind change k some is (nothing_parts w)).opening)

  named_written : is_form w ≡ false
      → WrittenAs (AsValue false) (codes "#" ++ w)
      (tok terminals.Hash (Bytes 2 (codes "#" ++ w)) ∷ again.sign terminals.HashName ∷ [])
  unfolding byte
  named_written none before spaced calm =
      let text = codes "#" ++ w in record {
        passed = _;
        segment = subst
            (λ (end : Before). Segment before (gap_of spaced ++ text) (tok terminals.Hash (Bytes 2 text) ∷ again.sign terminals.HashName ∷ []) (written (sort_of kinds.Hash (codes "#")) (is_spaced (behind_gap before (gap_of spaced))) terminals.Hash ∷ direct (sort_of kind w) terminals.HashName ∷ []) end (Follows text))
            (name_behind kind k)
            (pair_segment kinds.Hash kind (codes "#") w (terminals.Hash ∷ []) (terminals.HashName ∷ []) (Bytes 2 text) before spaced
            (Follows text) refl (name_opens kind k) refl (name_comment (sort_of kind w) n) refl (lit< tt) some
            (λ new at same. ap (bytes_between new at) (let z : at + 2 ≡ suc (suc at) = omega arith in z) ∙ same)
            (λ inside after code f.
            sign_token kinds.Hash (w ++ after) inside (behind_gap before (gap_of spaced)) refl code calm (fits after))
            (λ inside after code f.
            name_hash w old after kind change k some is
            (follows_parts w after (follows_end [] w (sign "#") hash_ends after f)) none inside code
            ∙ ap (made kind (length w)) (name_keep kind (length w) change k (w ++ old) is)));
        told = λ mode free. hash (sort_of kind w) (hash_name (sort_of kind w) n);
      }

  pub hashed_written : WrittenAs (AsValue false) (codes "#" ++ w)
      (tok terminals.Hash (Bytes 2 (codes "#" ++ w)) ∷ again.sign terminals.HashName ∷ [])
  hashed_written =
      by_test
      (WrittenAs (AsValue false) (codes "#" ++ w)
      (tok terminals.Hash (Bytes 2 (codes "#" ++ w)) ∷ again.sign terminals.HashName ∷ []))
      (is_form w) (λ t. colour_written (codes "#" ++ w) t) named_written
