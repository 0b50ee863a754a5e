-- A walk over a word goes over all that stands in its `#{}`.
use Rattle.std.proofs.Common.{◌≡◌, ℕ, zero, suc, ◌+◌, ◌-◌, ◌<◌, Bool, true, false, if◌then◌else◌, List, [], ◌∷◌, ◌++◌, length, Option, Some, None, refl, ◌∙◌, ap, arith}
use Rattle.std.specs.Prelude.{nat_lt}
use Rattle.sw_text_scan.proofs.Bounds.{if_true}
use Rattle.sw_parse_terminals.specs.declared.terminal.Terminal.{Terminal}
use Rattle.sw_parse_lexemes.specs.declared.sort.Sort.{Sort}
use Rattle.sw_parse_lexemes.specs.declared.sort.Sort.TheVariants as sorts
use Rattle.sw_parse_lexemes.specs.declared.plain.Plain.{Plain}
use Rattle.sw_parse_lexemes.specs.declared.state.Mode.{Mode}
use Rattle.sw_parse_lexemes.specs.declared.state.Walk.TheVariants as walks
use Rattle.sw_parse_lexemes.specs.Classes.{is_name, is_number, goes_on}
use Rattle.sw_parse_lexemes.specs.Ahead.{sort_at, spaced_at, in_insert, over_word, walk_by, walk_from}
use Rattle.sw_convert_passing.specs.Written.{Written, Stand}
use Rattle.sw_convert_passing.specs.Kinds.{is_quoted, is_hash_name, is_constant, is_part, is_lone_value, is_operator, is_prefix, is_separator, is_raw, is_raw_sign, is_sign, is_plus_or_minus}
use Rattle.sw_convert_passing.specs.Values.{Value, number, negative, positive, quoted, template, hash, constant, lone_value, url_template, variable, owned_variable, owned_call, word, call, important, in_parens, in_brackets, negated, prefixed, linked, divided, beside, special, seamed, Word, named, begun, begun_minus, Parts, no_part, part, part_insert, Call, arguments, Pieces, no_piece, text_piece, piece_insert, Items, no_items, items, seamed_items, Row, first, separated, further, Special, text_end, text_token, text_brace, text_name, text_dollar, text_sign, text_comma, text_number, text_signed, text_variable, text_owned_variable, text_call, text_owned_call, text_insert, text_parens, text_brackets, text_seam, enclosed, inserted, Settles, settled}
use Rattle.sw_convert_passing.proofs.Settling.{stand_loose}
use Rattle.sw_convert_passing.proofs.Entries.{split}

-- neither a `#{` nor the end of one
abbrev pub is_still : Sort → Bool
is_still sorts.OpenInsert = false
is_still sorts.CloseInsert = false
is_still _ = true

still_count : (sort : Sort) → is_still sort ≡ true → (count : ℕ) → in_insert sort count ≡ count
still_count sorts.OpenInsert s count = absurd (cc)
still_count sorts.CloseInsert s count = absurd (cc)
still_count _ s count = refl

still_by : (test : Sort → Bool) → test sorts.OpenInsert ≡ false → test sorts.CloseInsert ≡ false → (sort : Sort)
    → test sort ≡ true → is_still sort ≡ true
still_by test o c sorts.OpenInsert t = absurd (cc)
still_by test o c sorts.CloseInsert t = absurd (cc)
still_by test o c _ t = refl

-- in a `#{}` the walk goes over every token
within : (sort : Sort) (spaced : Bool) (count : ℕ)
    → over_word sort spaced (suc count) ≡ Some (in_insert sort (suc count))
within sort spaced count =
    if_true (nat_lt 0 (suc count)) _ _ (let some : nat_lt 0 (suc count) ≡ true = grind arith in some)

-- one token further
pub goes : (plains : List Plain) (at count more : ℕ) → at < length plains
    → over_word (sort_at plains at) (spaced_at plains at) count ≡ Some more
    → walk_from walks.Word plains count at ≡ walk_from walks.Word plains more (at + 1)
unfolding walk_from
goes plains at count more l e =
    ap (λ (n : ℕ). walk_by walks.Word plains n count at)
    (let z : length plains - at ≡ suc (length plains - (at + 1)) = omega (arith, l) in z)
    ∙ ap (λ (x : Option ℕ). elim x as (λ _. ℕ) [
      | None ↦ at
      | Some k ↦ walk_by walks.Word plains (length plains - (at + 1)) k (at + 1)
    ]) e

-- the end of the word
pub ends : (plains : List Plain) (at count : ℕ)
    → over_word (sort_at plains at) (spaced_at plains at) count ≡ None → walk_from walks.Word plains count at ≡ at
unfolding walk_from
ends plains at count e = go (length plains - at)
  where
    go : (n : ℕ) → walk_by walks.Word plains n count at ≡ at
    go zero = refl
    go (suc n) =
        ap (λ (x : Option ℕ). elim x as (λ _. ℕ) [ None ↦ at | Some k ↦ walk_by walks.Word plains n k (at + 1) ]) e

-- with a `#{` open before these tokens as many are open behind them
pub record Balanced (tokens : List Written) : Type 0 where
  pub walks_over : (plains : List Plain) (at to count : ℕ) → Stand plains at tokens to
      → walk_from walks.Word plains (suc count) at ≡ walk_from walks.Word plains (suc count) to

nothing : Balanced []
nothing = record { walks_over = λ plains at to count e. ap (walk_from walks.Word plains (suc count)) e }

still : (one : Written) (rest : List Written) → is_still one.sort ≡ true → Balanced rest → Balanced (one ∷ rest)
still one rest s more = record {
  walks_over = λ plains at to count stand.
      goes plains at (suc count) (suc count) stand.0.within
      (within (sort_at plains at) (spaced_at plains at) count
      ∙ ap (λ (x : Sort). Some (in_insert x (suc count))) stand.0.sort ∙ ap Some (still_count one.sort s (suc count)))
      ∙ more.walks_over plains (at + 1) to count stand.1;
}

join : (left right : List Written) → Balanced left → Balanced right → Balanced (left ++ right)
join left right a b = record {
  walks_over = λ plains at to count stand.
      let (place, stands, others) = split plains to left right at stand in
      a.walks_over plains at place count stands ∙ b.walks_over plains place to count others;
}

-- a `#{}` and what follows it
opens : (plains : List Plain) (at to count : ℕ) (spaced : Bool) (terminal : Terminal) (inner rest : List Written)
    → Stand plains at (inserted spaced terminal inner rest) to → Balanced inner
    → over_word sorts.OpenInsert spaced count ≡ Some (suc count)
    → (place : ℕ) × Stand plains place rest to
    × (walk_from walks.Word plains count at ≡ walk_from walks.Word plains count place)
opens plains at to count spaced terminal inner rest (there, stand) inside over =
    let (place, stands, (last, others)) = split plains to inner (_ ∷ rest) (at + 1) stand in (
      place + 1,
      others,
      goes plains at count (suc count) there.within
          (ap (λ (x : Sort). over_word x (spaced_at plains at) count) there.sort
          ∙ ap (λ (x : Bool). over_word sorts.OpenInsert x count) there.spaced ∙ over)
          ∙ inside.walks_over plains (at + 1) place count stands
          ∙ goes plains place (suc count) count last.within
          (ap (λ (x : Sort). over_word x (spaced_at plains place) (suc count)) last.sort
          ∙ within sorts.CloseInsert (spaced_at plains place) count
          ∙ ap Some (let z : suc count - 1 ≡ count = omega arith in z)),
    )

insert : (spaced : Bool) (terminal : Terminal) (inner rest : List Written) → Balanced inner → Balanced rest
    → Balanced (inserted spaced terminal inner rest)
insert spaced terminal inner rest inside more = record {
  walks_over = λ plains at to count stand.
      let (place, others, e) = opens plains at to (suc count) spaced terminal inner rest stand inside
      (within sorts.OpenInsert spaced count ∙ ap Some (let z : suc count + 1 ≡ suc (suc count) = omega arith in z)) in
      e ∙ more.walks_over plains place to count others;
}

round : (opening : Written) (inner : List Written) (closing : Written) (rest : List Written)
    → is_still opening.sort ≡ true
    → Balanced inner → is_still closing.sort ≡ true → Balanced rest → Balanced (enclosed opening inner closing rest)
round opening inner closing rest o inside c more =
    still opening (inner ++ closing ∷ rest) o (join inner (closing ∷ rest) inside (still closing rest c more))

settled_over : {loose exact : List Written} → Balanced loose → Settles loose exact → Balanced exact
settled_over it s = record {
  walks_over = λ plains at to count stand. it.walks_over plains at to count (stand_loose plains s at to stand);
}

mutual
  value : {mode : Mode} {spaced signed : Bool} {tokens : List Written} → Value mode spaced signed tokens
      → Balanced tokens
  value (number sort n) = still _ [] (still_by is_number refl refl sort n) nothing
  value (negative sort n) = still _ _ refl (still _ [] (still_by is_number refl refl sort n) nothing)
  value (positive sort n) = still _ _ refl (still _ [] (still_by is_number refl refl sort n) nothing)
  value (quoted sort q) = still _ [] (still_by is_quoted refl refl sort q) nothing
  value (template {inner = inner} inside) = round _ inner _ [] refl (pieces refl inside) refl nothing
  value (hash sort h) = still _ _ refl (still _ [] (still_by is_hash_name refl refl sort h) nothing)
  value (constant sort c) = still _ [] (still_by is_constant refl refl sort c) nothing
  value (lone_value sort l) = still _ [] (still_by is_lone_value refl refl sort l) nothing
  value (url_template {inner = inner} inside) = round _ inner _ [] refl (pieces refl inside) refl nothing
  value (variable name n) = still _ _ refl (still _ [] (still_by is_name refl refl name n) nothing)
  value (owned_variable owner name o n) =
      still _ _ (still_by is_name refl refl owner o)
      (still _ _ refl (still _ _ refl (still _ [] (still_by is_name refl refl name n) nothing)))
  value (owned_call {name = name} {call = called} owner o by arguing) =
      still _ _ (still_by is_name refl refl owner o) (still _ _ refl (join name called (one_word by) (calls arguing)))
  value (word by) = one_word by
  value (call {name = name} {call = called} by arguing) = join name called (one_word by) (calls arguing)
  value important = still _ _ refl (still _ [] refl nothing)
  value (in_parens {inner = inner} inside) = round _ inner _ [] refl (all_items inside) refl nothing
  value (in_brackets {inner = inner} inside) = round _ inner _ [] refl (all_items inside) refl nothing
  value (negated {value = tokens} v) = still _ tokens refl (value v)
  value (prefixed {value = tokens} sort p v) = still _ tokens (still_by is_prefix refl refl sort p) (value v)
  value (linked {left = left} {right = right} v sort o u) =
      join left _ (value v) (still _ right (still_by is_operator refl refl sort o) (value u))
  value (divided {left = left} {right = right} v u) = join left _ (value v) (still _ right refl (value u))
  value (beside {left = left} {right = right} v u) = join left right (value v) (value u)
  value (special {text = text} blank inside) = still _ _ refl (round _ text _ [] refl (texts inside) refl nothing)
  value (seamed {value = tokens} v) = join tokens _ (value v) (still _ [] refl nothing)

  one_word : {mode : Mode} {spaced owned called : Bool} {tokens : List Written} → Word mode spaced owned called tokens
      → Balanced tokens
  one_word (named {parts = more} sort n w by) = still _ more (still_by is_name refl refl sort n) (all_parts by)
  one_word (begun {spaced = spaced} {inner = inner} {parts = more} inside by) =
      insert spaced _ inner more (all_items inside) (all_parts by)
  one_word (begun_minus {inner = inner} {parts = more} inside by) =
      still _ _ refl (insert false _ inner more (all_items inside) (all_parts by))

  all_parts : {tokens : List Written} → Parts tokens → Balanced tokens
  all_parts no_part = nothing
  all_parts (part {parts = more} sort p by) = still _ more (still_by is_part refl refl sort p) (all_parts by)
  all_parts (part_insert {inner = inner} {parts = more} inside by) =
      insert false _ inner more (all_items inside) (all_parts by)

  calls : {tokens : List Written} → Call tokens → Balanced tokens
  calls (arguments {inner = inner} inside) = round _ inner _ [] refl (all_items inside) refl nothing
  calls (settled loose s) = settled_over (calls loose) s

  pieces : {what : Sort} {tokens : List Written} → is_still what ≡ true → Pieces what tokens → Balanced tokens
  pieces s no_piece = nothing
  pieces s (text_piece {pieces = more} by) = still _ more s (pieces s by)
  pieces s (piece_insert {inner = inner} {pieces = more} inside by) =
      insert false _ inner more (all_items inside) (pieces s by)

  pub all_items : {tokens : List Written} → Items tokens → Balanced tokens
  all_items no_items = nothing
  all_items (items by) = rows by
  all_items (seamed_items {row = row} by) = still _ row refl (rows by)

  rows : {mode : Mode} {spaced ended : Bool} {tokens : List Written} → Row mode spaced ended tokens → Balanced tokens
  rows (first v) = value v
  rows (separated {row = row} by sort s) = join row _ (rows by) (still _ [] (still_by is_separator refl refl sort s) nothing)
  rows (further {row = row} {value = tokens} by v) = join row tokens (rows by) (value v)

  texts : {inner ended : Bool} {tokens : List Written} → Special inner ended tokens → Balanced tokens
  texts text_end = nothing
  texts (text_token {rest = rest} sort r more) = still _ rest (still_by is_raw refl refl sort r) (texts more)
  texts (text_brace {rest = rest} sort r more) = still _ rest (still_by is_raw_sign refl refl sort r) (texts more)
  texts (text_name {rest = rest} sort n r more) = still _ rest (still_by is_name refl refl sort n) (texts more)
  texts (text_dollar {rest = rest} n more) = still _ rest refl (texts more)
  texts (text_sign {rest = rest} sort p n more) =
      still _ rest (still_by is_plus_or_minus refl refl sort p) (texts more)
  texts (text_comma {rest = rest} more) = still _ rest refl (texts more)
  texts (text_number {rest = rest} sort n more) = still _ rest (still_by is_number refl refl sort n) (texts more)
  texts (text_signed {ended = ended} {spaced = spaced} {rest = rest} sort digits n s more) =
      still _ _ (still_by (λ (x : Sort). is_sign x spaced ended) refl refl sort s) (still _ rest (still_by is_number refl refl digits n) (texts more))
  texts (text_variable {rest = rest} name n more) =
      still _ _ refl (still _ rest (still_by is_name refl refl name n) (texts more))
  texts (text_owned_variable {rest = rest} owner name o n more) =
      still _ _ (still_by is_name refl refl owner o)
      (still _ _ refl (still _ _ refl (still _ rest (still_by is_name refl refl name n) (texts more))))
  texts (text_call {call = called} {rest = rest} name n s arguing more) =
      still _ _ (still_by is_name refl refl name n) (join called rest (calls arguing) (texts more))
  texts (text_owned_call {call = called} {rest = rest} owner name o n arguing more) =
      still _ _ (still_by is_name refl refl owner o)
      (still _ _ refl
      (still _ _ (still_by is_name refl refl name n) (join called rest (calls arguing) (texts more))))
  texts (text_insert {spaced = spaced} {inside = inside} {rest = rest} values more) =
      insert spaced _ inside rest (all_items values) (texts more)
  texts (text_parens {inside = inside} {rest = rest} blank by more) =
      round _ inside _ rest refl (texts by) refl (texts more)
  texts (text_brackets {inside = inside} {rest = rest} blank by more) =
      round _ inside _ rest refl (texts by) refl (texts more)
  texts (text_seam {rest = rest} more) = still _ rest refl (texts more)

-- ---- the parts of a word

part_goes : (sort : Sort) → is_part sort ≡ true → goes_on sort ≡ true
part_goes sorts.Digits p = refl
part_goes sorts.Minus p = refl
part_goes sorts.OpenInsert p = absurd (cc)
part_goes _ p = p

part_over : (sort : Sort) (b : Bool) → goes_on sort ≡ b → is_still sort ≡ true
    → over_word sort false 0 ≡ (if b then Some 0 else None)
part_over sort b g s =
    ap (λ (x : Bool). if x then Some (in_insert sort 0) else None) g
    ∙ ap (λ (n : ℕ). if b then Some n else None) (still_count sort s 0)

-- the walk goes over them
pub parts_over : {tokens : List Written} → Parts tokens → (plains : List Plain) (at to : ℕ) → Stand plains at tokens to
    → walk_from walks.Word plains 0 at ≡ walk_from walks.Word plains 0 to
parts_over no_part plains at to e = ap (walk_from walks.Word plains 0) e
parts_over (part {parts} sort p more) plains at to (there, stand) =
    goes plains at 0 0 there.within
    (ap (λ (x : Sort). over_word x (spaced_at plains at) 0) there.sort
    ∙ ap (λ (x : Bool). over_word sort x 0) there.spaced
    ∙ part_over sort true (part_goes sort p) (still_by is_part refl refl sort p))
    ∙ parts_over more plains (at + 1) to stand
parts_over (part_insert {inner} {parts} inside more) plains at to stand =
    let (place, others, e) = opens plains at to 0 false _ inner parts stand (all_items inside) refl in
    e ∙ parts_over more plains place to others

-- behind a `#{` that begins a word
pub insert_over : (inner rest : List Written) → Items inner → (plains : List Plain) (at to : ℕ) (spaced : Bool)
    (terminal : Terminal) → Stand plains at (inserted spaced terminal inner rest) to
    → (place : ℕ) × Stand plains place rest to
    × (walk_from walks.Word plains 1 (at + 1) ≡ walk_from walks.Word plains 0 place)
insert_over inner rest inside plains at to spaced terminal (there, stand) =
    let (place, stands, (last, others)) = split plains to inner (_ ∷ rest) (at + 1) stand in (
      place + 1,
      others,
      (all_items inside).walks_over plains (at + 1) place 0 stands
          ∙ goes plains place 1 0 last.within (ap (λ (x : Sort). over_word x (spaced_at plains place) 1) last.sort),
    )

colon_ends : (spaced : Bool) → over_word sorts.Colon spaced 0 ≡ None
colon_ends true = refl
colon_ends false = refl

-- a word ends before a `:`
pub ends_before : (plains : List Plain) (at : ℕ) → sort_at plains at ≡ sorts.Colon
    → walk_from walks.Word plains 0 at ≡ at
ends_before plains at e =
    ends plains at 0
    (ap (λ (x : Sort). over_word x (spaced_at plains at) 0) e ∙ colon_ends (spaced_at plains at))
