-- A walk over a comment goes over all that stands in its `#{}`, in which no further comment with `#{}` begins or ends.
use Rattle.std.proofs.Common.{◌≡◌, ℕ, ◌+◌, Bool, true, false, List, [], ◌∷◌, ◌++◌, Some, refl, ◌∙◌, ap}
use Rattle.sw_parse_terminals.specs.declared.terminal.Terminal.{Terminal}
use Rattle.sw_parse_lexemes.specs.declared.sort.Sort.{Sort}
use Rattle.sw_parse_lexemes.specs.declared.sort.Sort.TheVariants as sorts
use Rattle.sw_parse_lexemes.specs.declared.plain.Plain.{Plain}
use Rattle.sw_parse_lexemes.specs.declared.state.Mode.{Mode}
use Rattle.sw_parse_lexemes.specs.declared.state.Walk.TheVariants as walks
use Rattle.sw_parse_lexemes.specs.Classes.{is_name, is_number}
use Rattle.sw_parse_lexemes.specs.Ahead.{over_comment, walk_from}
use Rattle.sw_convert_passing.specs.Written.{Written, Stand}
use Rattle.sw_convert_passing.specs.Kinds.{is_quoted, is_hash_name, is_constant, is_part, is_lone_value, is_operator, is_prefix, is_separator, is_raw, is_raw_sign, is_sign, is_plus_or_minus}
use Rattle.sw_convert_passing.specs.Values.{Value, number, negative, positive, quoted, template, hash, constant, lone_value, url_template, variable, owned_variable, owned_call, word, call, important, in_parens, in_brackets, negated, prefixed, linked, divided, beside, special, seamed, Word, named, begun, begun_minus, Parts, no_part, part, part_insert, Call, arguments, Pieces, no_piece, text_piece, piece_insert, Items, no_items, items, seamed_items, Row, first, separated, further, Special, text_end, text_token, text_brace, text_name, text_dollar, text_sign, text_comma, text_number, text_signed, text_variable, text_owned_variable, text_call, text_owned_call, text_insert, text_parens, text_brackets, text_seam, enclosed, inserted, Settles, settled}
use Rattle.sw_convert_passing.proofs.Settling.{stand_loose}
use Rattle.sw_convert_passing.proofs.Entries.{split}
use Rattle.sw_convert_heads_passing.proofs.Selectors.{goes}

-- neither the start of a comment with `#{}` nor the end of one
abbrev pub is_bare : Sort → Bool
is_bare sorts.CommentTemplate = false
is_bare sorts.CommentEnd = false
is_bare _ = true

bare_by : (test : Sort → Bool) → test sorts.CommentTemplate ≡ false → test sorts.CommentEnd ≡ false → (sort : Sort)
    → test sort ≡ true → is_bare sort ≡ true
bare_by test o c sorts.CommentTemplate t = absurd (cc)
bare_by test o c sorts.CommentEnd t = absurd (cc)
bare_by test o c _ t = refl

bare_count : (sort : Sort) → is_bare sort ≡ true → over_comment sort 1 ≡ Some 1
bare_count sorts.CommentTemplate b = absurd (cc)
bare_count sorts.CommentEnd b = absurd (cc)
bare_count _ b = refl

-- where one comment is open before these tokens one is open behind them
pub record Bare (tokens : List Written) : Type 0 where
  pub walks_over : (plains : List Plain) (at to : ℕ) → Stand plains at tokens to
      → walk_from walks.Comments plains 1 at ≡ walk_from walks.Comments plains 1 to

nothing : Bare []
nothing = record { walks_over = λ plains at to e. ap (walk_from walks.Comments plains 1) e }

still : (one : Written) (rest : List Written) → is_bare one.sort ≡ true → Bare rest → Bare (one ∷ rest)
still one rest b more = record {
  walks_over = λ plains at to stand.
      goes walks.Comments plains at 1 1 stand.0.within
      (ap (λ (x : Sort). over_comment x 1) stand.0.sort ∙ bare_count one.sort b)
      ∙ more.walks_over plains (at + 1) to stand.1;
}

join : (left right : List Written) → Bare left → Bare right → Bare (left ++ right)
join left right a b = record {
  walks_over = λ plains at to stand.
      let (place, stands, others) = split plains to left right at stand in
      a.walks_over plains at place stands ∙ b.walks_over plains place to others;
}

round : (opening : Written) (inner : List Written) (closing : Written) (rest : List Written)
    → is_bare opening.sort ≡ true
    → Bare inner → is_bare closing.sort ≡ true → Bare rest → Bare (enclosed opening inner closing rest)
round opening inner closing rest o inside c more =
    still opening (inner ++ closing ∷ rest) o (join inner (closing ∷ rest) inside (still closing rest c more))

insert : (spaced : Bool) (terminal : Terminal) (inner rest : List Written) → Bare inner → Bare rest
    → Bare (inserted spaced terminal inner rest)
insert spaced terminal inner rest inside more = round _ inner _ rest refl inside refl more

settled_over : {loose exact : List Written} → Bare loose → Settles loose exact → Bare exact
settled_over it s = record {
  walks_over = λ plains at to stand. it.walks_over plains at to (stand_loose plains s at to stand);
}

mutual
  value : {mode : Mode} {spaced signed : Bool} {tokens : List Written} → Value mode spaced signed tokens
      → Bare tokens
  value (number sort n) = still _ [] (bare_by is_number refl refl sort n) nothing
  value (negative sort n) = still _ _ refl (still _ [] (bare_by is_number refl refl sort n) nothing)
  value (positive sort n) = still _ _ refl (still _ [] (bare_by is_number refl refl sort n) nothing)
  value (quoted sort q) = still _ [] (bare_by is_quoted refl refl sort q) nothing
  value (template {inner = inner} inside) = round _ inner _ [] refl (pieces refl inside) refl nothing
  value (hash sort h) = still _ _ refl (still _ [] (bare_by is_hash_name refl refl sort h) nothing)
  value (constant sort c) = still _ [] (bare_by is_constant refl refl sort c) nothing
  value (lone_value sort l) = still _ [] (bare_by is_lone_value refl refl sort l) nothing
  value (url_template {inner = inner} inside) = round _ inner _ [] refl (pieces refl inside) refl nothing
  value (variable name n) = still _ _ refl (still _ [] (bare_by is_name refl refl name n) nothing)
  value (owned_variable owner name o n) =
      still _ _ (bare_by is_name refl refl owner o)
      (still _ _ refl (still _ _ refl (still _ [] (bare_by is_name refl refl name n) nothing)))
  value (owned_call {name = name} {call = called} owner o by arguing) =
      still _ _ (bare_by is_name refl refl owner o) (still _ _ refl (join name called (one_word by) (calls arguing)))
  value (word by) = one_word by
  value (call {name = name} {call = called} by arguing) = join name called (one_word by) (calls arguing)
  value important = still _ _ refl (still _ [] refl nothing)
  value (in_parens {inner = inner} inside) = round _ inner _ [] refl (all_items inside) refl nothing
  value (in_brackets {inner = inner} inside) = round _ inner _ [] refl (all_items inside) refl nothing
  value (negated {value = tokens} v) = still _ tokens refl (value v)
  value (prefixed {value = tokens} sort p v) = still _ tokens (bare_by is_prefix refl refl sort p) (value v)
  value (linked {left = left} {right = right} v sort o u) =
      join left _ (value v) (still _ right (bare_by is_operator refl refl sort o) (value u))
  value (divided {left = left} {right = right} v u) = join left _ (value v) (still _ right refl (value u))
  value (beside {left = left} {right = right} v u) = join left right (value v) (value u)
  value (special {text = text} blank inside) = still _ _ refl (round _ text _ [] refl (texts inside) refl nothing)
  value (seamed {value = tokens} v) = join tokens _ (value v) (still _ [] refl nothing)

  one_word : {mode : Mode} {spaced owned called : Bool} {tokens : List Written} → Word mode spaced owned called tokens
      → Bare tokens
  one_word (named {parts = more} sort n w by) = still _ more (bare_by is_name refl refl sort n) (all_parts by)
  one_word (begun {spaced = spaced} {inner = inner} {parts = more} inside by) =
      insert spaced _ inner more (all_items inside) (all_parts by)
  one_word (begun_minus {inner = inner} {parts = more} inside by) =
      still _ _ refl (insert false _ inner more (all_items inside) (all_parts by))

  all_parts : {tokens : List Written} → Parts tokens → Bare tokens
  all_parts no_part = nothing
  all_parts (part {parts = more} sort p by) = still _ more (bare_by is_part refl refl sort p) (all_parts by)
  all_parts (part_insert {inner = inner} {parts = more} inside by) =
      insert false _ inner more (all_items inside) (all_parts by)

  calls : {tokens : List Written} → Call tokens → Bare tokens
  calls (arguments {inner = inner} inside) = round _ inner _ [] refl (all_items inside) refl nothing
  calls (settled loose s) = settled_over (calls loose) s

  pub pieces : {what : Sort} {tokens : List Written} → is_bare what ≡ true → Pieces what tokens → Bare tokens
  pieces s no_piece = nothing
  pieces s (text_piece {pieces = more} by) = still _ more s (pieces s by)
  pieces s (piece_insert {inner = inner} {pieces = more} inside by) =
      insert false _ inner more (all_items inside) (pieces s by)

  all_items : {tokens : List Written} → Items tokens → Bare tokens
  all_items no_items = nothing
  all_items (items by) = rows by
  all_items (seamed_items {row = row} by) = still _ row refl (rows by)

  rows : {mode : Mode} {spaced ended : Bool} {tokens : List Written} → Row mode spaced ended tokens → Bare tokens
  rows (first v) = value v
  rows (separated {row = row} by sort s) = join row _ (rows by) (still _ [] (bare_by is_separator refl refl sort s) nothing)
  rows (further {row = row} {value = tokens} by v) = join row tokens (rows by) (value v)

  texts : {inner ended : Bool} {tokens : List Written} → Special inner ended tokens → Bare tokens
  texts text_end = nothing
  texts (text_token {rest = rest} sort r more) = still _ rest (bare_by is_raw refl refl sort r) (texts more)
  texts (text_brace {rest = rest} sort r more) = still _ rest (bare_by is_raw_sign refl refl sort r) (texts more)
  texts (text_name {rest = rest} sort n r more) = still _ rest (bare_by is_name refl refl sort n) (texts more)
  texts (text_dollar {rest = rest} n more) = still _ rest refl (texts more)
  texts (text_sign {rest = rest} sort p n more) =
      still _ rest (bare_by is_plus_or_minus refl refl sort p) (texts more)
  texts (text_comma {rest = rest} more) = still _ rest refl (texts more)
  texts (text_number {rest = rest} sort n more) = still _ rest (bare_by is_number refl refl sort n) (texts more)
  texts (text_signed {ended = ended} {spaced = spaced} {rest = rest} sort digits n s more) =
      still _ _ (bare_by (λ (x : Sort). is_sign x spaced ended) refl refl sort s) (still _ rest (bare_by is_number refl refl digits n) (texts more))
  texts (text_variable {rest = rest} name n more) =
      still _ _ refl (still _ rest (bare_by is_name refl refl name n) (texts more))
  texts (text_owned_variable {rest = rest} owner name o n more) =
      still _ _ (bare_by is_name refl refl owner o)
      (still _ _ refl (still _ _ refl (still _ rest (bare_by is_name refl refl name n) (texts more))))
  texts (text_call {call = called} {rest = rest} name n s arguing more) =
      still _ _ (bare_by is_name refl refl name n) (join called rest (calls arguing) (texts more))
  texts (text_owned_call {call = called} {rest = rest} owner name o n arguing more) =
      still _ _ (bare_by is_name refl refl owner o)
      (still _ _ refl
      (still _ _ (bare_by is_name refl refl name n) (join called rest (calls arguing) (texts more))))
  texts (text_insert {spaced = spaced} {inside = inside} {rest = rest} values more) =
      insert spaced _ inside rest (all_items values) (texts more)
  texts (text_parens {inside = inside} {rest = rest} blank by more) =
      round _ inside _ rest refl (texts by) refl (texts more)
  texts (text_brackets {inside = inside} {rest = rest} blank by more) =
      round _ inside _ rest refl (texts by) refl (texts more)
  texts (text_seam {rest = rest} more) = still _ rest refl (texts more)
