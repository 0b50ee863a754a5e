-- Walks over tokens go over a value in `#{}`: as many brackets are open behind it as before.
use Rattle.std.proofs.Common.{◌≡◌, ℕ, suc, ◌+◌, ◌-◌, Bool, true, false, ◌||◌, List, [], ◌∷◌, ◌++◌, Option, Some, None, refl, sym, ◌∙◌, ap, arith}
use Rattle.std.specs.Prelude.{◌==◌, nat_lt}
use Rattle.std.proofs.lemmas.Bool.Decides.{nat_tests}
use Rattle.sw_text_scan.proofs.Bounds.{if_true, if_false, or_left, or_right}
use Rattle.sw_parse_terminals.specs.declared.terminal.Terminal.{Terminal}
use Rattle.sw_parse_terminals.specs.declared.terminal.Terminal.TheVariants as terminals
use Rattle.sw_parse_lexemes.specs.declared.sort.Sort.{Sort}
use Rattle.sw_parse_lexemes.specs.declared.sort.Sort.TheVariants as sorts
use Rattle.sw_parse_lexemes.specs.declared.state.Mode.{Mode}
use Rattle.sw_parse_lexemes.specs.declared.state.Walk.{Walk}
use Rattle.sw_parse_lexemes.specs.declared.state.Walk.TheVariants as walks
use Rattle.sw_parse_lexemes.specs.Classes.{is_name, is_number}
use Rattle.sw_parse_lexemes.specs.Ahead.{in_insert, over_word, to_sign, walk_step}
use Rattle.sw_convert_passing.specs.Written.{Written, direct}
use Rattle.sw_convert_passing.specs.Kinds.{is_quoted, is_hash_name, is_constant, is_part, is_lone_value, is_operator, is_prefix, is_separator, is_raw, is_raw_sign, is_sign, is_plus_or_minus}
use Rattle.sw_convert_passing.specs.Values.{Value, number, negative, positive, quoted, template, hash, constant, lone_value, url_template, variable, owned_variable, owned_call, word, call, important, in_parens, in_brackets, negated, prefixed, linked, divided, beside, special, seamed, Word, named, begun, begun_minus, Parts, no_part, part, part_insert, Call, arguments, Pieces, no_piece, text_piece, piece_insert, Items, no_items, items, seamed_items, Row, first, separated, further, Special, text_end, text_token, text_brace, text_name, text_dollar, text_sign, text_comma, text_number, text_signed, text_variable, text_owned_variable, text_call, text_owned_call, text_insert, text_parens, text_brackets, text_seam, enclosed, inserted, Settles, settled, settled_end, settled_same, settled_dollar, settled_named}
use Rattle.sw_convert_heads_passing.specs.Rules.{walked}

-- ---- how many brackets are open behind tokens

-- none where the walk ends among them
abbrev pub counted : Walk → ℕ → List Written → Option ℕ
counted walk count [] = Some count
counted walk count (token ∷ tokens) =
    elim (walk_step walk token.sort token.spaced count) as (λ _. Option ℕ) [
      | None ↦ None
      | Some more ↦ counted walk more tokens
    ]

abbrev onward : Walk → List Written → Option ℕ → Option ℕ
onward walk tokens x = elim x as (λ _. Option ℕ) [ None ↦ None | Some more ↦ counted walk more tokens ]

abbrev left_by : Walk → List Written → List Written → Option ℕ → List Written
left_by walk all tokens x = elim x as (λ _. List Written) [ None ↦ all | Some more ↦ walked walk more tokens ]

some_is : (a b : ℕ) → Some a ≡ Some b → a ≡ b
some_is a b e = ap value_of e
  where
    value_of : Option ℕ → ℕ
    value_of None = a
    value_of (Some c) = c

-- a walk goes over such tokens
pub walked_over : (walk : Walk) (tokens rest : List Written) (count more : ℕ) → counted walk count tokens ≡ Some more
    → walked walk count (tokens ++ rest) ≡ walked walk more rest
walked_over walk [] rest count more e = ap (λ (n : ℕ). walked walk n rest) (some_is count more e)
walked_over walk (token ∷ tokens) rest count more e =
    go (λ next f. walked_over walk tokens rest next more f) (walk_step walk token.sort token.spaced count) refl
  where
    go : ((next : ℕ) → counted walk next tokens ≡ Some more → walked walk next (tokens ++ rest) ≡ walked walk more rest)
        → (x : Option ℕ) → walk_step walk token.sort token.spaced count ≡ x
        → walked walk count (token ∷ (tokens ++ rest)) ≡ walked walk more rest
    go onward_so None f = absurd (let wrong : None ≡ Some more = sym (ap (onward walk tokens) f) ∙ e in cc)
    go onward_so (Some next) f =
        ap (left_by walk (token ∷ (tokens ++ rest)) (tokens ++ rest)) f
        ∙ onward_so next (sym (ap (onward walk tokens) f) ∙ e)

counted_append : (walk : Walk) (xs ys : List Written) (count more : ℕ) → counted walk count xs ≡ Some more
    → counted walk count (xs ++ ys) ≡ counted walk more ys
counted_append walk [] ys count more e = ap (λ (n : ℕ). counted walk n ys) (some_is count more e)
counted_append walk (token ∷ xs) ys count more e =
    go (λ next f. counted_append walk xs ys next more f) (walk_step walk token.sort token.spaced count) refl
  where
    go : ((next : ℕ) → counted walk next xs ≡ Some more → counted walk next (xs ++ ys) ≡ counted walk more ys)
        → (x : Option ℕ) → walk_step walk token.sort token.spaced count ≡ x
        → counted walk count (token ∷ (xs ++ ys)) ≡ counted walk more ys
    go onward_so None f = absurd (let wrong : None ≡ Some more = sym (ap (onward walk xs) f) ∙ e in cc)
    go onward_so (Some next) f =
        ap (onward walk (xs ++ ys)) f ∙ onward_so next (sym (ap (onward walk xs) f) ∙ e)

-- ---- single tokens

-- no bracket
abbrev is_level : Sort → Bool
is_level sorts.OpenParen = false
is_level sorts.OpenBracket = false
is_level sorts.OpenInsert = false
is_level sorts.CloseParen = false
is_level sorts.CloseBracket = false
is_level sorts.CloseInsert = false
is_level _ = true

abbrev is_open : Sort → Bool
is_open sorts.OpenParen = true
is_open sorts.OpenBracket = true
is_open _ = false

abbrev is_close : Sort → Bool
is_close sorts.CloseParen = true
is_close sorts.CloseBracket = true
is_close _ = false

-- a test that none of the brackets meets
abbrev Passes : (Sort → Bool) → Bool
Passes test =
    test sorts.OpenParen || (test sorts.OpenBracket || (test sorts.OpenInsert
    || (test sorts.CloseParen || (test sorts.CloseBracket || test sorts.CloseInsert))))

level_by : (test : Sort → Bool) → Passes test ≡ false → (sort : Sort) → test sort ≡ true → is_level sort ≡ true
level_by test none sorts.OpenParen t =
    let no = or_left (test sorts.OpenParen) _ none in absurd (let wrong : true ≡ false = sym t ∙ no in cc)
level_by test none sorts.OpenBracket t =
    let more = or_right (test sorts.OpenParen) _ none in
    let no = or_left (test sorts.OpenBracket) _ more in absurd (let wrong : true ≡ false = sym t ∙ no in cc)
level_by test none sorts.OpenInsert t =
    let more = or_right (test sorts.OpenBracket) _ (or_right (test sorts.OpenParen) _ none) in
    let no = or_left (test sorts.OpenInsert) _ more in absurd (let wrong : true ≡ false = sym t ∙ no in cc)
level_by test none sorts.CloseParen t =
    let more = or_right (test sorts.OpenInsert) _ (or_right (test sorts.OpenBracket) _ (or_right (test sorts.OpenParen) _ none)) in
    let no = or_left (test sorts.CloseParen) _ more in absurd (let wrong : true ≡ false = sym t ∙ no in cc)
level_by test none sorts.CloseBracket t =
    let more = or_right (test sorts.OpenInsert) _ (or_right (test sorts.OpenBracket) _ (or_right (test sorts.OpenParen) _ none)) in
    let no = or_left (test sorts.CloseBracket) _ (or_right (test sorts.CloseParen) _ more) in
    absurd (let wrong : true ≡ false = sym t ∙ no in cc)
level_by test none sorts.CloseInsert t =
    let more = or_right (test sorts.OpenInsert) _ (or_right (test sorts.OpenBracket) _ (or_right (test sorts.OpenParen) _ none)) in
    let no = or_right (test sorts.CloseBracket) _ (or_right (test sorts.CloseParen) _ more) in
    absurd (let wrong : true ≡ false = sym t ∙ no in cc)
level_by test none _ t = refl

-- in a `#{}` the walk over a word goes over every token
within : (sort : Sort) (spaced : Bool) (count : ℕ) → over_word sort spaced (suc count) ≡ Some (in_insert sort (suc count))
within sort spaced count =
    if_true (nat_lt 0 (suc count)) _ _ (let some : nat_lt 0 (suc count) ≡ true = grind arith in some)

level_word : (sort : Sort) → is_level sort ≡ true → (spaced : Bool) (count : ℕ)
    → over_word sort spaced (suc count) ≡ Some (suc count)
level_word sort l spaced count = within sort spaced count ∙ ap Some (go sort l)
  where
    go : (sort : Sort) → is_level sort ≡ true → in_insert sort (suc count) ≡ suc count
    go sorts.OpenInsert l = absurd (cc)
    go sorts.CloseInsert l = absurd (cc)
    go _ l = refl

level_sign : (sort : Sort) → is_level sort ≡ true → (count : ℕ) → to_sign sort (suc count) ≡ Some (suc count)
level_sign sorts.OpenParen l count = absurd (cc)
level_sign sorts.OpenBracket l count = absurd (cc)
level_sign sorts.OpenInsert l count = absurd (cc)
level_sign sorts.CloseParen l count = absurd (cc)
level_sign sorts.CloseBracket l count = absurd (cc)
level_sign sorts.CloseInsert l count = absurd (cc)
level_sign sorts.OpenBrace l count = if_false (suc count == 0) _ _ (let some : (suc count == 0) ≡ false = grind (arith, nat_tests) in some)
level_sign sorts.CloseBrace l count = if_false (suc count == 0) _ _ (let some : (suc count == 0) ≡ false = grind (arith, nat_tests) in some)
level_sign sorts.Semicolon l count = if_false (suc count == 0) _ _ (let some : (suc count == 0) ≡ false = grind (arith, nat_tests) in some)
level_sign _ l count = refl

more_by_one : (count : ℕ) → count + 1 ≡ suc count
more_by_one count = omega arith

less_by_one : (count : ℕ) → suc count - 1 ≡ count
less_by_one count = omega arith

open_sign : (sort : Sort) → is_open sort ≡ true → (count : ℕ) → to_sign sort count ≡ Some (suc count)
open_sign sorts.OpenParen o count = ap Some (more_by_one count)
open_sign sorts.OpenBracket o count = ap Some (more_by_one count)
open_sign _ o count = absurd (cc)

close_sign : (sort : Sort) → is_close sort ≡ true → (count : ℕ) → to_sign sort (suc count) ≡ Some count
close_sign sorts.CloseParen c count = ap Some (less_by_one count)
close_sign sorts.CloseBracket c count = ap Some (less_by_one count)
close_sign _ c count = absurd (cc)

open_word : (sort : Sort) → is_open sort ≡ true → (spaced : Bool) (count : ℕ) → over_word sort spaced (suc count) ≡ Some (suc count)
open_word sort o spaced count = within sort spaced count ∙ ap Some (go sort o)
  where
    go : (sort : Sort) → is_open sort ≡ true → in_insert sort (suc count) ≡ suc count
    go sorts.OpenParen o = refl
    go sorts.OpenBracket o = refl
    go _ o = absurd (cc)

close_word : (sort : Sort) → is_close sort ≡ true → (spaced : Bool) (count : ℕ) → over_word sort spaced (suc count) ≡ Some (suc count)
close_word sort c spaced count = within sort spaced count ∙ ap Some (go sort c)
  where
    go : (sort : Sort) → is_close sort ≡ true → in_insert sort (suc count) ≡ suc count
    go sorts.CloseParen c = refl
    go sorts.CloseBracket c = refl
    go _ c = absurd (cc)

-- ---- tokens one behind the other

-- where a bracket is open before tokens as many are open behind them, to both walks
pub record Level (tokens : List Written) : Type 0 where
  pub word : (count : ℕ) → counted walks.Word (suc count) tokens ≡ Some (suc count)
  pub sign : (count : ℕ) → counted walks.Sign (suc count) tokens ≡ Some (suc count)

nothing : Level []
nothing = record { word = λ count. refl; sign = λ count. refl }

still : (one : Written) (rest : List Written) → is_level one.sort ≡ true → Level rest → Level (one ∷ rest)
still one rest l more = record {
  word = λ count. ap (onward walks.Word rest) (level_word one.sort l one.spaced count) ∙ more.word count;
  sign = λ count. ap (onward walks.Sign rest) (level_sign one.sort l count) ∙ more.sign count;
}

join : (left right : List Written) → Level left → Level right → Level (left ++ right)
join left right a b = record {
  word = λ count. counted_append walks.Word left right (suc count) (suc count) (a.word count) ∙ b.word count;
  sign = λ count. counted_append walks.Sign left right (suc count) (suc count) (a.sign count) ∙ b.sign count;
}

round : (opening : Written) (inner : List Written) (closing : Written) (rest : List Written) → is_level opening.sort ≡ true
    → Level inner → is_level closing.sort ≡ true → Level rest → Level (enclosed opening inner closing rest)
round opening inner closing rest o inside c more =
    still opening (inner ++ closing ∷ rest) o (join inner (closing ∷ rest) inside (still closing rest c more))

bracketed : (opening : Written) (inner : List Written) (closing : Written) (rest : List Written) → is_open opening.sort ≡ true
    → Level inner → is_close closing.sort ≡ true → Level rest → Level (enclosed opening inner closing rest)
bracketed opening inner closing rest o inside c more = record {
  word = λ count.
      ap (onward walks.Word (inner ++ closing ∷ rest)) (open_word opening.sort o opening.spaced count)
      ∙ counted_append walks.Word inner (closing ∷ rest) (suc count) (suc count) (inside.word count)
      ∙ ap (onward walks.Word rest) (close_word closing.sort c closing.spaced count) ∙ more.word count;
  sign = λ count.
      ap (onward walks.Sign (inner ++ closing ∷ rest)) (open_sign opening.sort o (suc count))
      ∙ counted_append walks.Sign inner (closing ∷ rest) (suc (suc count)) (suc (suc count)) (inside.sign (suc count))
      ∙ ap (onward walks.Sign rest) (close_sign closing.sort c (suc count)) ∙ more.sign count;
}

insert : (spaced : Bool) (terminal : Terminal) (inner rest : List Written) → Level inner → Level rest
    → Level (inserted spaced terminal inner rest)
insert spaced terminal inner rest inside more =
    let closing = direct sorts.CloseInsert terminals.InsertEnd in record {
      word = λ count.
          ap (onward walks.Word (inner ++ closing ∷ rest)) (within sorts.OpenInsert spaced count ∙ ap Some (more_by_one (suc count)))
          ∙ counted_append walks.Word inner (closing ∷ rest) (suc (suc count)) (suc (suc count)) (inside.word (suc count))
          ∙ ap (onward walks.Word rest) (within sorts.CloseInsert false (suc count) ∙ ap Some (less_by_one (suc count)))
          ∙ more.word count;
      sign = λ count.
          ap (onward walks.Sign (inner ++ closing ∷ rest)) (ap Some (more_by_one (suc count)))
          ∙ counted_append walks.Sign inner (closing ∷ rest) (suc (suc count)) (suc (suc count)) (inside.sign (suc count))
          ∙ ap (onward walks.Sign rest) (ap Some (less_by_one (suc count))) ∙ more.sign count;
    }

onward_same : (walk : Walk) (xs ys : List Written) → ((count : ℕ) → counted walk count ys ≡ counted walk count xs)
    → (x : Option ℕ) → onward walk ys x ≡ onward walk xs x
onward_same walk xs ys e None = refl
onward_same walk xs ys e (Some count) = e count

-- a `$` is one before the name of an argument or not
same_counted : {loose exact : List Written} → Settles loose exact → (walk : Walk) (count : ℕ)
    → counted walk count exact ≡ counted walk count loose
same_counted settled_end walk count = refl
same_counted (settled_same {rest} {more} token s) walk count =
    onward_same walk rest more (λ n. same_counted s walk n) (walk_step walk token.sort token.spaced count)
same_counted (settled_dollar {spaced} {rest} {more} name n s) walk count =
    onward_same walk (name ∷ rest) more (λ m. same_counted s walk m) (walk_step walk sorts.Dollar spaced count)
same_counted (settled_named {spaced} {rest} {more} name n s) walk count =
    onward_same walk (direct name terminals.VariableName ∷ direct sorts.Colon terminals.Colon ∷ rest) more
    (λ m. same_counted s walk m) (walk_step walk sorts.Dollar spaced count)

settled_over : {loose exact : List Written} → Level loose → Settles loose exact → Level exact
settled_over it s = record {
  word = λ count. same_counted s walks.Word (suc count) ∙ it.word count;
  sign = λ count. same_counted s walks.Sign (suc count) ∙ it.sign count;
}

-- ---- values

one_number : (sort : Sort) → is_number sort ≡ true → is_level sort ≡ true
one_number sort n = level_by is_number refl sort n

one_name : (sort : Sort) → is_name sort ≡ true → is_level sort ≡ true
one_name sort n = level_by is_name refl sort n

mutual
  value : {mode : Mode} {spaced signed : Bool} {tokens : List Written} → Value mode spaced signed tokens → Level tokens
  value (number sort n) = still _ [] (one_number sort n) nothing
  value (negative sort n) = still _ _ refl (still _ [] (one_number sort n) nothing)
  value (positive sort n) = still _ _ refl (still _ [] (one_number sort n) nothing)
  value (quoted sort q) = still _ [] (level_by is_quoted refl sort q) nothing
  value (template {inner = inner} inside) = round _ inner _ [] refl (pieces refl inside) refl nothing
  value (hash sort h) = still _ _ refl (still _ [] (level_by is_hash_name refl sort h) nothing)
  value (constant sort c) = still _ [] (level_by is_constant refl sort c) nothing
  value (lone_value sort l) = still _ [] (level_by is_lone_value refl sort l) nothing
  value (url_template {inner = inner} inside) = round _ inner _ [] refl (pieces refl inside) refl nothing
  value (variable name n) = still _ _ refl (still _ [] (one_name name n) nothing)
  value (owned_variable owner name o n) =
      still _ _ (one_name owner o) (still _ _ refl (still _ _ refl (still _ [] (one_name name n) nothing)))
  value (owned_call {name = name} {call = called} owner o by arguing) =
      still _ _ (one_name owner o) (still _ _ refl (join name called (one_word by) (calls arguing)))
  value (word by) = one_word by
  value (call {name = name} {call = called} by arguing) = join name called (one_word by) (calls arguing)
  value important = still _ _ refl (still _ [] refl nothing)
  value (in_parens {inner = inner} inside) = bracketed _ inner _ [] refl (all_items inside) refl nothing
  value (in_brackets {inner = inner} inside) = bracketed _ inner _ [] refl (all_items inside) refl nothing
  value (negated {value = tokens} v) = still _ tokens refl (value v)
  value (prefixed {value = tokens} sort p v) = still _ tokens (level_by is_prefix refl sort p) (value v)
  value (linked {left = left} {right = right} v sort o u) =
      join left _ (value v) (still _ right (level_by is_operator refl sort o) (value u))
  value (divided {left = left} {right = right} v u) = join left _ (value v) (still _ right refl (value u))
  value (beside {left = left} {right = right} v u) = join left right (value v) (value u)
  value (special {text = text} blank inside) = still _ _ refl (bracketed _ text _ [] refl (texts inside) refl nothing)
  value (seamed {value = tokens} v) = join tokens _ (value v) (still _ [] refl nothing)

  one_word : {mode : Mode} {spaced owned called : Bool} {tokens : List Written} → Word mode spaced owned called tokens
      → Level tokens
  one_word (named {parts = more} sort n w by) = still _ more (one_name sort n) (all_parts by)
  one_word (begun {spaced = spaced} {inner = inner} {parts = more} inside by) =
      insert spaced _ inner more (all_items inside) (all_parts by)
  one_word (begun_minus {inner = inner} {parts = more} inside by) =
      still _ _ refl (insert false _ inner more (all_items inside) (all_parts by))

  all_parts : {tokens : List Written} → Parts tokens → Level tokens
  all_parts no_part = nothing
  all_parts (part {parts = more} sort p by) = still _ more (level_by is_part refl sort p) (all_parts by)
  all_parts (part_insert {inner = inner} {parts = more} inside by) =
      insert false _ inner more (all_items inside) (all_parts by)

  calls : {tokens : List Written} → Call tokens → Level tokens
  calls (arguments {inner = inner} inside) = bracketed _ inner _ [] refl (all_items inside) refl nothing
  calls (settled loose s) = settled_over (calls loose) s

  pieces : {what : Sort} {tokens : List Written} → is_level what ≡ true → Pieces what tokens → Level tokens
  pieces s no_piece = nothing
  pieces s (text_piece {pieces = more} by) = still _ more s (pieces s by)
  pieces s (piece_insert {inner = inner} {pieces = more} inside by) =
      insert false _ inner more (all_items inside) (pieces s by)

  pub all_items : {tokens : List Written} → Items tokens → Level tokens
  all_items no_items = nothing
  all_items (items by) = rows by
  all_items (seamed_items {row = row} by) = still _ row refl (rows by)

  rows : {mode : Mode} {spaced ended : Bool} {tokens : List Written} → Row mode spaced ended tokens → Level tokens
  rows (first v) = value v
  rows (separated {row = row} by sort s) = join row _ (rows by) (still _ [] (level_by is_separator refl sort s) nothing)
  rows (further {row = row} {value = tokens} by v) = join row tokens (rows by) (value v)

  texts : {inner ended : Bool} {tokens : List Written} → Special inner ended tokens → Level tokens
  texts text_end = nothing
  texts (text_token {rest = rest} sort r more) = still _ rest (level_by is_raw refl sort r) (texts more)
  texts (text_brace {rest = rest} sort r more) = still _ rest (level_by is_raw_sign refl sort r) (texts more)
  texts (text_name {rest = rest} sort n r more) = still _ rest (one_name sort n) (texts more)
  texts (text_dollar {rest = rest} n more) = still _ rest refl (texts more)
  texts (text_sign {rest = rest} sort p n more) = still _ rest (level_by is_plus_or_minus refl sort p) (texts more)
  texts (text_comma {rest = rest} more) = still _ rest refl (texts more)
  texts (text_number {rest = rest} sort n more) = still _ rest (one_number sort n) (texts more)
  texts (text_signed {ended = ended} {spaced = spaced} {rest = rest} sort digits n s more) =
      still _ _ (level_by (λ (x : Sort). is_sign x spaced ended) refl sort s) (still _ rest (one_number digits n) (texts more))
  texts (text_variable {rest = rest} name n more) = still _ _ refl (still _ rest (one_name name n) (texts more))
  texts (text_owned_variable {rest = rest} owner name o n more) =
      still _ _ (one_name owner o) (still _ _ refl (still _ _ refl (still _ rest (one_name name n) (texts more))))
  texts (text_call {call = called} {rest = rest} name n s arguing more) =
      still _ _ (one_name name n) (join called rest (calls arguing) (texts more))
  texts (text_owned_call {call = called} {rest = rest} owner name o n arguing more) =
      still _ _ (one_name owner o)
      (still _ _ refl (still _ _ (one_name name n) (join called rest (calls arguing) (texts more))))
  texts (text_insert {spaced = spaced} {inside = inside} {rest = rest} values more) =
      insert spaced _ inside rest (all_items values) (texts more)
  texts (text_parens {inside = inside} {rest = rest} blank by more) =
      bracketed _ inside _ rest refl (texts by) refl (texts more)
  texts (text_brackets {inside = inside} {rest = rest} blank by more) =
      bracketed _ inside _ rest refl (texts by) refl (texts more)
  texts (text_seam {rest = rest} more) = still _ rest refl (texts more)

-- ---- a value in `#{}`

-- a walk up to a `;` or a brace goes over it
pub sign_over : (inner : List Written) → Items inner → (spaced : Bool) (terminal : Terminal) (count : ℕ) (rest : List Written)
    → walked walks.Sign count (inserted spaced terminal inner rest) ≡ walked walks.Sign count rest
sign_over inner inside spaced terminal count rest =
    let closing = direct sorts.CloseInsert terminals.InsertEnd in
    ap (λ (n : ℕ). walked walks.Sign n (inner ++ closing ∷ rest)) (more_by_one count)
    ∙ walked_over walks.Sign inner (closing ∷ rest) (suc count) (suc count) ((all_items inside).sign count)
    ∙ ap (λ (n : ℕ). walked walks.Sign n rest) (less_by_one count)

-- and behind its `#{` one over a word
pub word_over : (inner : List Written) → Items inner → (rest : List Written)
    → walked walks.Word 1 (inner ++ direct sorts.CloseInsert terminals.InsertEnd ∷ rest) ≡ walked walks.Word 0 rest
word_over inner inside rest =
    let closing = direct sorts.CloseInsert terminals.InsertEnd in
    walked_over walks.Word inner (closing ∷ rest) 1 1 ((all_items inside).word 0)
    ∙ ap (left_by walks.Word (closing ∷ rest) rest) (within sorts.CloseInsert false 0 ∙ ap Some (less_by_one 0))
