-- The walk comes back from each value.
use Rattle.std.proofs.Common.{◌≡◌, ℕ, zero, suc, Bool, true, false, not, ◌&&◌, List, [], ◌∷◌, ◌++◌, Some, refl, ◌∙◌}
use Rattle.std.specs.List.{list_all}
use Rattle.sw_text_scan.proofs.Bounds.{if_false}
use Rattle.sw_parse_terminals.specs.declared.terminal.Terminal.TheVariants as terminals
use Rattle.sw_parse_lexemes.specs.declared.sort.Sort.{Sort}
use Rattle.sw_parse_lexemes.specs.declared.sort.Sort.TheVariants as sorts
use Rattle.sw_parse_lexemes.specs.declared.state.Mode.{Mode}
use Rattle.sw_parse_lexemes.specs.Classes.{is_name, is_number}
use Rattle.sw_parse_layout.specs.declared.state.Bracket.{Bracket}
use Rattle.sw_parse_layout.specs.declared.state.Bracket.TheVariants as brackets
use Rattle.sw_convert_spelling.proofs.Choices.{right_no}
use Rattle.sw_convert_passing.specs.Written.{Written, written}
use Rattle.sw_convert_passing.specs.Kinds.{is_quoted, is_hash_name, is_constant, is_part, is_lone_value, is_operator, is_prefix, is_separator, is_raw, is_raw_sign, is_sign, is_plus_or_minus, is_flag_sort}
use Rattle.sw_convert_passing.specs.Values.{Value, number, negative, positive, quoted, template, hash, constant, lone_value, url_template, variable, owned_variable, owned_call, word, call, important, in_parens, in_brackets, negated, prefixed, linked, divided, beside, special, seamed, Word, named, begun, begun_minus, Parts, no_part, part, part_insert, Call, arguments, settled, Pieces, no_piece, text_piece, piece_insert, Items, no_items, items, seamed_items, Row, first, separated, further, Special, text_end, text_token, text_brace, text_name, text_dollar, text_sign, text_comma, text_number, text_signed, text_variable, text_owned_variable, text_call, text_owned_call, text_insert, text_parens, text_brackets, text_seam, Flags, no_flag, flag}
use Rattle.sw_convert_laid.specs.Held.{has_none}
use Rattle.sw_convert_heads_laid.specs.Marks.{Plain, Brace, sort_mark}
use Rattle.sw_convert_heads_laid.proofs.Walk as walks
use Rattle.sw_convert_heads_laid.proofs.Walk.{Level, Free, At, at, step, walk, Where, is_quiet, plain_by, some_brackets, nothing, freely, still, past_seam, join, insert, parens, squares, between, settled_over}

pub name_plain : (sort : Sort) → is_name sort ≡ true → sort_mark sort ≡ Plain
name_plain sort e = plain_by is_name refl refl refl refl refl refl refl refl refl refl sort e

pub number_plain : (sort : Sort) → is_number sort ≡ true → sort_mark sort ≡ Plain
number_plain sort e = plain_by is_number refl refl refl refl refl refl refl refl refl refl sort e

pub part_plain : (sort : Sort) → is_part sort ≡ true → sort_mark sort ≡ Plain
part_plain sort e = plain_by is_part refl refl refl refl refl refl refl refl refl refl sort e

pub raw_plain : (sort : Sort) → is_raw sort ≡ true → sort_mark sort ≡ Plain
raw_plain sort e = plain_by is_raw refl refl refl refl refl refl refl refl refl refl sort e

sign_plain : (spaced ended : Bool) (sort : Sort) → is_sign sort spaced ended ≡ true → sort_mark sort ≡ Plain
sign_plain spaced ended sort e =
    plain_by (λ (x : Sort). is_sign x spaced ended) refl refl refl refl refl refl refl refl refl refl sort e

-- in brackets there is one
abbrev pub Inner : Bool → List Bracket → Type 0
Inner true bs = has_none bs ≡ false
Inner false bs = Unit {0}

inner_paren : (inner : Bool) (bs : List Bracket) → Inner inner (bs ++ brackets.Paren ∷ [])
inner_paren true bs = some_brackets bs brackets.Paren
inner_paren false bs = tt

module _ (custom : Bool) where
  -- a sign for which lines stand, in brackets
  brace : (sort : Sort) (spaced : Bool) (rest : List Written) → is_raw_sign sort ≡ true → Level custom (Inner true) rest
      → Level custom (Inner true) (written sort spaced terminals.Raw ∷ rest)
  brace sort spaced rest r more = record {
    goes = λ n bs w others. over n bs w sort r (rest ++ others) ∙ more.goes n bs w others;
    quiet = λ others q. quietly sort r (rest ++ others) (more.quiet others q);
  }
    where
      in_it : (bs : List Bracket) → has_none bs ≡ false → step custom 0 bs Brace ≡ Some (at 0 bs)
      in_it bs w = if_false (not custom && has_none bs) _ _ (right_no (not custom) (has_none bs) w)

      over : (n : ℕ) (bs : List Bracket) → Where (Inner true) n bs → (sort : Sort) → is_raw_sign sort ≡ true
          → (tokens : List Written) → walk custom n bs (written sort spaced terminals.Raw ∷ tokens) ≡ walk custom n bs tokens
      over zero bs w sorts.OpenBrace e tokens = walks.further custom 0 bs (written sorts.OpenBrace spaced terminals.Raw) tokens (at 0 bs) (in_it bs w)
      over zero bs w sorts.CloseBrace e tokens = walks.further custom 0 bs (written sorts.CloseBrace spaced terminals.Raw) tokens (at 0 bs) (in_it bs w)
      over zero bs w sorts.Semicolon e tokens = refl
      over (suc n) bs w sorts.OpenBrace e tokens = refl
      over (suc n) bs w sorts.CloseBrace e tokens = refl
      over (suc n) bs w sorts.Semicolon e tokens = refl
      over n bs w _ e tokens = absurd (cc)

      quietly : (sort : Sort) → is_raw_sign sort ≡ true → (tokens : List Written) → list_all is_quiet tokens ≡ true
          → list_all is_quiet (written sort spaced terminals.Raw ∷ tokens) ≡ true
      quietly sorts.OpenBrace e tokens q = q
      quietly sorts.CloseBrace e tokens q = q
      quietly sorts.Semicolon e tokens q = q
      quietly _ e tokens q = absurd (cc)

  mutual
    pub value : {mode : Mode} {spaced signed : Bool} {tokens : List Written} → Value mode spaced signed tokens
        → Free custom tokens
    value (number sort n) = still custom _ [] (number_plain sort n) (nothing custom)
    value (negative sort n) = still custom _ _ refl (still custom _ [] (number_plain sort n) (nothing custom))
    value (positive sort n) = still custom _ _ refl (still custom _ [] (number_plain sort n) (nothing custom))
    value (quoted sort q) =
        still custom _ [] (plain_by is_quoted refl refl refl refl refl refl refl refl refl refl sort q) (nothing custom)
    value (template {inner = inner} inside) =
        between custom _ inner _ [] refl (pieces refl inside) refl (nothing custom)
    value (hash sort h) =
        still custom _ _ refl
        (still custom _ [] (plain_by is_hash_name refl refl refl refl refl refl refl refl refl refl sort h) (nothing custom))
    value (constant sort c) =
        still custom _ [] (plain_by is_constant refl refl refl refl refl refl refl refl refl refl sort c) (nothing custom)
    value (lone_value sort l) =
        still custom _ [] (plain_by is_lone_value refl refl refl refl refl refl refl refl refl refl sort l) (nothing custom)
    value (url_template {inner = inner} inside) =
        between custom _ inner _ [] refl (pieces refl inside) refl (nothing custom)
    value (variable name n) = still custom _ _ refl (still custom _ [] (name_plain name n) (nothing custom))
    value (owned_variable owner name o n) =
        still custom _ _ (name_plain owner o)
        (still custom _ _ refl (still custom _ _ refl (still custom _ [] (name_plain name n) (nothing custom))))
    value (owned_call {name = name} {call = called} owner o by arguing) =
        still custom _ _ (name_plain owner o)
        (still custom _ _ refl (join custom name called (one_word by) (calls arguing)))
    value (word by) = one_word by
    value (call {name = name} {call = called} by arguing) = join custom name called (one_word by) (calls arguing)
    value important = still custom _ _ refl (still custom _ [] refl (nothing custom))
    value (in_parens {inner = inner} inside) =
        parens custom _ inner _ [] refl refl (λ bs. tt) (all_items inside) (nothing custom)
    value (in_brackets {inner = inner} inside) =
        squares custom _ inner _ [] refl refl (λ bs. tt) (all_items inside) (nothing custom)
    value (negated {value = tokens} v) = still custom _ tokens refl (value v)
    value (prefixed {value = tokens} sort p v) =
        still custom _ tokens (plain_by is_prefix refl refl refl refl refl refl refl refl refl refl sort p) (value v)
    value (linked {left = left} {right = right} v sort o u) =
        join custom left _ (value v)
        (still custom _ right (plain_by is_operator refl refl refl refl refl refl refl refl refl refl sort o) (value u))
    value (divided {left = left} {right = right} v u) =
        join custom left _ (value v) (still custom _ right refl (value u))
    value (beside {left = left} {right = right} v u) = join custom left right (value v) (value u)
    value (special {text = text} blank inside) =
        still custom _ _ refl
        (parens custom _ text _ [] refl refl (inner_paren false) (texts inside) (nothing custom))
    value (seamed {value = tokens} v) = join custom tokens _ (value v) (past_seam custom [] (nothing custom))

    pub one_word : {mode : Mode} {spaced owned called : Bool} {tokens : List Written}
        → Word mode spaced owned called tokens → Free custom tokens
    one_word (named {parts = more} sort n w by) = still custom _ more (name_plain sort n) (all_parts by)
    one_word (begun {spaced = spaced} {inner = inner} {parts = more} inside by) =
        insert custom spaced _ inner more (all_items inside) (all_parts by)
    one_word (begun_minus {inner = inner} {parts = more} inside by) =
        still custom _ _ refl (insert custom false _ inner more (all_items inside) (all_parts by))

    pub all_parts : {tokens : List Written} → Parts tokens → Free custom tokens
    all_parts no_part = nothing custom
    all_parts (part {parts = more} sort p by) = still custom _ more (part_plain sort p) (all_parts by)
    all_parts (part_insert {inner = inner} {parts = more} inside by) =
        insert custom false _ inner more (all_items inside) (all_parts by)

    calls : {tokens : List Written} → Call tokens → Free custom tokens
    calls (arguments {inner = inner} inside) =
        parens custom _ inner _ [] refl refl (λ bs. tt) (all_items inside) (nothing custom)
    calls (settled loose s) = settled_over custom (calls loose) s

    pieces : {what : Sort} {tokens : List Written} → sort_mark what ≡ Plain → Pieces what tokens → Free custom tokens
    pieces s no_piece = nothing custom
    pieces s (text_piece {pieces = more} by) = still custom _ more s (pieces s by)
    pieces s (piece_insert {inner = inner} {pieces = more} inside by) =
        insert custom false _ inner more (all_items inside) (pieces s by)

    pub all_items : {tokens : List Written} → Items tokens → Free custom tokens
    all_items no_items = nothing custom
    all_items (items by) = rows by
    all_items (seamed_items {row = row} by) = past_seam custom row (rows by)

    pub rows : {mode : Mode} {spaced ended : Bool} {tokens : List Written} → Row mode spaced ended tokens
        → Free custom tokens
    rows (first v) = value v
    rows (separated {row = row} by sort s) =
        join custom row _ (rows by)
        (still custom _ [] (plain_by is_separator refl refl refl refl refl refl refl refl refl refl sort s) (nothing custom))
    rows (further {row = row} {value = tokens} by v) = join custom row tokens (rows by) (value v)

    texts : {inner ended : Bool} {tokens : List Written} → Special inner ended tokens → Level custom (Inner inner) tokens
    texts text_end = nothing custom
    texts (text_token {rest = rest} sort r more) = still custom _ rest (raw_plain sort r) (texts more)
    texts (text_brace {rest = rest} sort r more) = brace sort _ rest r (texts more)
    texts (text_name {rest = rest} sort n r more) = still custom _ rest (name_plain sort n) (texts more)
    texts (text_dollar {rest = rest} n more) = still custom _ rest refl (texts more)
    texts (text_sign {rest = rest} sort p n more) =
        still custom _ rest (plain_by is_plus_or_minus refl refl refl refl refl refl refl refl refl refl sort p) (texts more)
    texts (text_comma {rest = rest} more) = still custom _ rest refl (texts more)
    texts (text_number {rest = rest} sort n more) = still custom _ rest (number_plain sort n) (texts more)
    texts (text_signed {ended = ended} {spaced = spaced} {rest = rest} sort digits n s more) =
        still custom _ _ (sign_plain spaced ended sort s) (still custom _ rest (number_plain digits n) (texts more))
    texts (text_variable {rest = rest} name n more) =
        still custom _ _ refl (still custom _ rest (name_plain name n) (texts more))
    texts (text_owned_variable {rest = rest} owner name o n more) =
        still custom _ _ (name_plain owner o)
        (still custom _ _ refl (still custom _ _ refl (still custom _ rest (name_plain name n) (texts more))))
    texts (text_call {call = called} {rest = rest} name n s arguing more) =
        still custom _ _ (name_plain name n) (join custom called rest (freely custom (calls arguing)) (texts more))
    texts (text_owned_call {call = called} {rest = rest} owner name o n arguing more) =
        still custom _ _ (name_plain owner o)
        (still custom _ _ refl
        (still custom _ _ (name_plain name n) (join custom called rest (freely custom (calls arguing)) (texts more))))
    texts (text_insert {spaced = spaced} {inside = inside} {rest = rest} values more) =
        insert custom spaced _ inside rest (all_items values) (texts more)
    texts (text_parens {inside = inside} {rest = rest} blank by more) =
        parens custom _ inside _ rest refl refl (inner_paren true) (texts by) (texts more)
    texts (text_brackets {inside = inside} {rest = rest} blank by more) =
        squares custom _ inside _ rest refl refl (λ bs. some_brackets bs brackets.Square) (texts by) (texts more)
    texts (text_seam {rest = rest} more) = past_seam custom rest (texts more)

  pub all_flags : {tokens : List Written} → Flags tokens → Free custom tokens
  all_flags no_flag = nothing custom
  all_flags (flag {rest = rest} sort f more) =
      still custom _ _ refl
      (still custom _ rest (plain_by is_flag_sort refl refl refl refl refl refl refl refl refl refl sort f) (all_flags more))
