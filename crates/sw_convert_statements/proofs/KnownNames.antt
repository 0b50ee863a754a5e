-- Names of properties, of custom properties and of at-rules are written as their tokens.
use Rattle.std.proofs.Common.{◌≡◌, ℕ, suc, Bool, true, false, not, ◌&&◌, ◌||◌, List, [], ◌∷◌, ◌++◌, refl, sym, ◌∙◌, ap, subst, append_assoc}
use Rattle.std.specs.Prelude.{◌==◌, codes}
use Rattle.std.proofs.lemmas.Bool.Decides.{nat_tests}
use Rattle.std.proofs.Common.{arith}
use Rattle.sw_text_scan.specs.Bytes.{sign, byte, is_white}
use Rattle.sw_text_scan.proofs.Bounds.{and_left, and_right, not_true}
use Rattle.sw_tree.specs.declared.text.Parts.{Parts}
use Rattle.sw_tokens.specs.declared.pieces.Before.{Before}
use Rattle.sw_tokens.specs.declared.pieces.Before.TheVariants as befores
use Rattle.sw_tree.specs.declared.text.Text.{Text}
use Rattle.sw_parse_terminals.specs.declared.terminal.Terminal.{Terminal}
use Rattle.sw_parse_terminals.specs.declared.terminal.Terminal.TheVariants as terminals
use Rattle.sw_parse_terminals.specs.Numbers.{just}
use Rattle.sw_parse_lexemes.specs.declared.sort.Sort.{Sort}
use Rattle.sw_parse_lexemes.specs.declared.sort.Sort.TheVariants as sorts
use Rattle.sw_parse_lexemes.specs.declared.state.Mode.TheVariants as modes
use Rattle.sw_parse_lexemes.specs.Classes.{is_name, is_reserved, is_else, same}
use Rattle.sw_parse_lexemes.specs.Sorts.{sort_of}
use Rattle.sw_parse_table.specs.declared.source.Source.{Source}
use Rattle.sw_parse_table.specs.Parts.{Part}
use Rattle.sw_parse_table.specs.Sources.{bytes_at, parts_between}
use Rattle.sw_convert_written.specs.declared.manner.Manner.TheVariants as manners
use Rattle.sw_convert_written.specs.Pieces.{pieces_text}
use Rattle.sw_convert_written.specs.Expressions.{parts_written}
use Rattle.sw_convert_written.proofs.Unrolled as unrolled
use Rattle.sw_convert_passing.specs.Written.{Written, written, direct}
use Rattle.sw_convert_passing.specs.Kinds.{is_word, is_part}
use Rattle.sw_convert_passing.specs.Values.{Word, Parts as WordParts, begins_insert}
use Rattle.sw_convert_passing.specs.Values as passing
use Rattle.sw_convert_again.specs.Tokens.{Tok, tok, Old}
use Rattle.sw_convert_again.specs.Spells.{from_start, SpellsWord, SpellsRow}
use Rattle.sw_convert_again.specs.Spells as spells
use Rattle.sw_convert_again.specs.Statements.{SpellsName, SpellsAtName, name_row, at_word, at_insert, at_minus}
use Rattle.sw_convert_tokens.specs.Values.{WasRead}
use Rattle.sw_convert_tokens.specs.Written.{Follows, begins_white}
use Rattle.sw_convert_tokens.proofs.Joins as joins
use Rattle.sw_convert_tokens.proofs.Olds.{old_token}
use Rattle.sw_convert_tokens.proofs.OriginChoices.{fits}
use Rattle.sw_convert_tokens.proofs.Stops.{follows_parts}
use Rattle.sw_convert_tokens.proofs.Words.{only_word, parts_are, said_is, copied_name, copied_bytes}
use Rattle.sw_convert_heads_passing.specs.Heads.{is_keyword, TextHead, named_head, keyword_head}
use Rattle.sw_convert_heads_passing.specs.Heads as heads
use Rattle.sw_convert_heads_passing.specs.Properties.{colon, PropertyHead, named_property, begun_property, minus_property, CustomHead, custom_head}
use Rattle.sw_convert_heads_passing.specs.Statements.{begins_else}
use Rattle.sw_convert_again.specs.Comments.{SpellsComment, whole_comment, comment_template, whole_lines, lines_template}
use Rattle.sw_convert_texts.specs.Comments.{CommentHasValues}
use Rattle.sw_convert_texts.specs.AtInserts.{begins_inserted, AsInsertedAt, at_inserted, at_minused}
use Rattle.sw_convert_texts.specs.Inserted.{RowHasValues, WordHasValues, NameHasValues, AtNameHasValues}
use Rattle.sw_convert_texts.specs.Names.{joined, is_mixed, AsName, as_name, AsAtName, as_at}
use Rattle.sw_convert_texts.specs.RawTexts.{SheetSegment}
use Rattle.sw_convert_texts.proofs.AtInserts.{at_inserts_written}
use Rattle.sw_convert_texts.proofs.WordsWithValues.{words_written, custom_names_written, at_names_written}
use Rattle.sw_convert_statements.specs.Fronts.{ValuesAreKnown}
use Rattle.sw_convert_statements.specs.Names.{NamedAs, begins_dashed, is_property, is_custom, names_rule, is_at_rule}
use Rattle.sw_convert_statements.specs.Starts.{may_begin}
use Rattle.sw_convert_statements.proofs.Dashes.{first_dashed}
use Rattle.sw_convert_statements.proofs.FirstTokens.{is_plain, dashed_sort, first_calm, first_undashed}
use Rattle.sw_convert_statements.proofs.Segments.{sheet}
use Rattle.sw_convert_values.specs.Values.{goes_on}
use Rattle.sw_convert_values.proofs.Reserved.{whole_unreserved}
use Rattle.sw_convert_values.proofs.Starts.{is_clear, behind_old}
use Rattle.sw_convert_values.proofs.Stops.{before_old}

abbrev pub AsProperty : List Written → Type 0
AsProperty passed = PropertyHead (passed ++ colon ∷ [])

abbrev pub AsCustom : List Written → Type 0
AsCustom passed = CustomHead (passed ++ colon ∷ [])

-- ---- the values in a name

module _ {source : Source} (values : ValuesAreKnown source) where
  row_values : {part opening : Terminal} {extra i j count : ℕ} {inserts : List Part} {tokens : List Tok}
      → is_clear (just opening) ≡ true → (row : SpellsRow source part opening extra i j inserts count tokens)
      → RowHasValues row
  row_values c spells.row_end = tt
  row_values c (spells.row_part old row) = row_values c row
  row_values c (spells.row_insert opens inner close row) =
      (values.rows _ _ _ _ (behind_old opens c) (before_old close refl) inner, row_values c row)

  word_values : {i j : ℕ} {parts : Parts} {tokens : List Tok} → (word : SpellsWord source i j parts tokens)
      → WordHasValues word
  word_values (spells.named old row) = row_values refl row
  word_values (spells.begun opens inner close row) =
      (values.rows _ _ _ _ (behind_old opens refl) (before_old close refl) inner, row_values refl row)
  word_values (spells.begun_minus minus opens inner close row) =
      (values.rows _ _ _ _ (behind_old opens refl) (before_old close refl) inner, row_values refl row)

  name_values : {first : Terminal} {i j : ℕ} {parts : Parts} {tokens : List Tok}
      → (name : SpellsName source first i j parts tokens) → NameHasValues name
  name_values (name_row old row) = row_values refl row

  pub comment_values : {i j : ℕ} {text : Text} {tokens : List Tok} → (comment : SpellsComment source i j text tokens)
      → CommentHasValues comment
  comment_values (whole_comment old) = tt
  comment_values (comment_template old made row end) = row_values refl row
  comment_values (whole_lines old made) = tt
  comment_values (lines_template old made lines) = tt

-- a `:` stands behind a name
pub before_colon : (name : List ℕ) → Follows name (codes ":")
before_colon name = record { stop = refl; closed = refl }

pub name_else : (sort : Sort) → is_name sort ≡ true → is_else sort ≡ false
name_else sorts.AtElse n = absurd (cc)
name_else sorts.AtElseIf n = absurd (cc)
name_else _ n = refl

-- ---- properties

-- what a word is to the pass over tokens where a statement begins
record IsHead (passed : List Written) : Type 0 where
  head : AsProperty passed
  first : (more : List Written) → begins_else (passed ++ more) ≡ false

no_constant : (inserts : Bool) (sort : Sort) → (inserts || is_word modes.Expression false false sort) ≡ true
    → (inserts || not (is_reserved sort)) ≡ true
no_constant true sort e = refl
no_constant false sort e = and_left (not (is_reserved sort)) _ e

with_colon : (inner parts : List Written) (closing : Written)
    → (inner ++ closing ∷ parts) ++ colon ∷ [] ≡ inner ++ closing ∷ (parts ++ colon ∷ [])
with_colon inner parts closing = append_assoc inner (closing ∷ parts) (colon ∷ [])

word_head : {before : Before} {name : List ℕ} {tokens : List Tok} {spaced : Bool} {passed : List Written}
    → Word modes.Expression spaced false false passed
    → SheetSegment before name tokens passed befores.Other (Follows name) → begins_white name ≡ false
    → begins_dashed name ≡ false → IsHead passed
word_head {name = name} (passing.named sort n test parts) a black none = record {
  head = named_property sort n (first_dashed a n black (codes ":") (before_colon name) ∙ none)
      (no_constant _ sort test) parts;
  first = λ more. name_else sort n;
}
word_head {spaced = spaced} (passing.begun {inner = inner} {parts = parts} inside more) a black none = record {
  head = subst (λ (l : List Written). PropertyHead (written sorts.OpenInsert spaced terminals.WordInsert ∷ l))
      (sym (with_colon inner parts (direct sorts.CloseInsert terminals.InsertEnd))) (begun_property inside more);
  first = λ rest. refl;
}
word_head {spaced = spaced} (passing.begun_minus {inner = inner} {parts = parts} inside more) a black none = record {
  head = subst
      (λ (l : List Written). PropertyHead
      (written sorts.Minus spaced terminals.WordMinus ∷ written sorts.OpenInsert false terminals.WordInsert ∷ l))
      (sym (with_colon inner parts (direct sorts.CloseInsert terminals.InsertEnd))) (minus_property inside more);
  first = λ rest. refl;
}

module _ (source : Source) (was : WasRead source) where
  -- a name by itself
  name_written : {i : ℕ} (old : Old source i (just terminals.Word)) → may_begin source i ≡ true
      → goes_on source (suc i) ≡ false
      → NamedAs AsProperty (joined (parts_between source i (suc i) [])) (tok terminals.Word (from_start source i [] 1) ∷ [])
  name_written {i} old begins ended before calm =
      let it = old_token source was i old.lexeme old.there in
      let sort = sort_of it.kind it.text in
      let word = only_word old.lexeme.terminal old.kind in
      let plain : is_plain old.lexeme.terminal ≡ true = ap is_plain word in
      let n : is_name sort ≡ true = ap (λ (t : Terminal). fits t sort) (sym word) ∙ it.fit in
      let bytes_are = copied_bytes source i old.lexeme it n in
      let free = whole_unreserved source was i (first_calm source old plain begins) ended old it in
      let shown : it.text ≡ joined (parts_between source i (suc i) []) =
      sym bytes_are ∙ ap (pieces_text manners.Joined) (sym (unrolled.plain_is (bytes_at source i)))
      ∙ ap (λ (p : Parts). pieces_text manners.Joined (parts_written p)) (sym (parts_are source i)) in
      let segment = sheet
      (joins.as_behind (λ after f. subst (λ (t : List ℕ). Follows t after) (sym shown) f)
      (joins.as_text shown
      (copied_name source i old.lexeme it n terminals.Word (from_start source i [] 1) before false calm (Follows it.text)
      (follows_parts it.text)
      (λ new at same. said_is new at ∙ ap (λ (t : List ℕ). record { first = t; rest = [] }) same ∙ sym (said_is source i))))) in
      record {
        passed = _;
        head = named_property sort n (first_undashed source old plain was it begins) (ap not free) passing.no_part;
        first = λ more. name_else sort n;
        segment = segment;
      }

  module _ (values : ValuesAreKnown source) where
    mixed_written : {i j : ℕ} {parts : Parts} {tokens : List Tok} → (word : SpellsWord source i j parts tokens)
        → is_mixed word ≡ true → begins_white (joined parts) ≡ false
        → begins_dashed (joined parts) ≡ false → NamedAs AsProperty (joined parts) tokens
    mixed_written {i} {j} {parts} {tokens} word mixed black none before calm =
        let it = words_written source i j parts tokens was word mixed (word_values values word) before false calm in
        let is = word_head (it.told modes.Expression false false) (sheet it.segment) black none in record {
          passed = it.passed;
          head = is.head;
          first = is.first;
          segment = sheet it.segment;
        }

    mixed_property : {i j : ℕ} {parts : Parts} {tokens : List Tok} → (word : SpellsWord source i j parts tokens)
        → is_mixed word ≡ true → (not (begins_white (joined parts)) && not (begins_dashed (joined parts))) ≡ true
        → NamedAs AsProperty (joined parts) tokens
    mixed_property {parts = parts} word mixed t =
        mixed_written word mixed (not_true _ (and_left (not (begins_white (joined parts))) _ t))
        (not_true _ (and_right (not (begins_white (joined parts))) _ t))

    pub properties_written : {i j : ℕ} {parts : Parts} {tokens : List Tok} → (word : SpellsWord source i j parts tokens)
        → may_begin source i ≡ true → goes_on source j ≡ false → is_property word ≡ true
        → NamedAs AsProperty (joined parts) tokens
    properties_written (spells.named old spells.row_end) begins ended t = name_written old begins ended
    properties_written (spells.named old (spells.row_part part row)) begins ended t =
        mixed_property (spells.named old (spells.row_part part row)) refl t
    properties_written (spells.named old (spells.row_insert opens inner close row)) begins ended t =
        mixed_property (spells.named old (spells.row_insert opens inner close row)) refl t
    properties_written (spells.begun opens inner close row) begins ended t =
        mixed_property (spells.begun opens inner close row) refl t
    properties_written (spells.begun_minus minus opens inner close row) begins ended t =
        mixed_property (spells.begun_minus minus opens inner close row) refl t

-- ---- custom properties

dash_black : (b : ℕ) → (b == sign "-") ≡ true → is_white b ≡ false
dash_black b e = grind (arith, nat_tests)

dashed_black : (name : List ℕ) → begins_dashed name ≡ true → begins_white name ≡ false
unfolding byte
dashed_black [] d = refl
dashed_black (b ∷ name) d = dash_black b (and_left (b == sign "-") _ d)

record IsCustomHead (passed : List Written) : Type 0 where
  head : AsCustom passed
  first : (more : List Written) → begins_else (passed ++ more) ≡ false

custom_is : {before : Before} {name : List ℕ} {tokens : List Tok} {spaced : Bool} {passed : List Written}
    → AsName is_name terminals.Custom spaced passed
    → SheetSegment before name tokens passed befores.Other (Follows name) → begins_dashed name ≡ true → IsCustomHead passed
custom_is {name = name} {spaced = spaced} (as_name {parts = parts} sort n more) a dashed =
    let d = first_dashed a n (dashed_black name dashed) (codes ":") (before_colon name) ∙ dashed in record {
      head = subst (λ (s : Sort). CustomHead (written s spaced terminals.Custom ∷ (parts ++ colon ∷ [])))
          (sym (dashed_sort sort d)) (custom_head more);
      first = λ rest. name_else sort n;
    }

-- ---- at-rules

record IsAtHead (sort : Sort) (spaced : Bool) (parts : List Written) : Type 0 where
  head : TextHead (written sort spaced terminals.AtOther ∷ parts)
  first : is_else sort ≡ false

no_insert : (sort : Sort) → is_part sort ≡ true → same sort sorts.OpenInsert ≡ false
no_insert sorts.OpenInsert p = absurd (cc)
no_insert _ p = refl

keyword_is : (sort : Sort) {spaced : Bool} {parts : List Written} → begins_insert parts ≡ true → WordParts parts
    → is_keyword sort ≡ true → is_else sort ≡ false → IsAtHead sort spaced parts
keyword_is sort e passing.no_part k no_else = absurd (let wrong : false ≡ true = e in cc)
keyword_is sort e (passing.part next p more) k no_else =
    absurd (let wrong : false ≡ true = sym (no_insert next p) ∙ e in cc)
keyword_is sort e (passing.part_insert inside more) k no_else =
    record { head = keyword_head sort k inside more; first = no_else }

all_three : (a b c : Bool) → (a && (b && c)) ≡ true → (a ≡ true) × (b ≡ true) × (c ≡ true)
all_three true true c t = (refl, refl, t)
all_three true false c t = absurd (cc)
all_three false b c t = absurd (cc)

at_is : (sort : Sort) (inserts : Bool) {spaced : Bool} {parts : List Written} → begins_insert parts ≡ inserts
    → WordParts parts → names_rule sort inserts ≡ true → IsAtHead sort spaced parts
at_is sorts.AtName inserts e parts t = record { head = named_head parts; first = refl }
at_is sort inserts e parts t =
    let (k, no_else, i) = all_three (is_keyword sort) (not (is_else sort)) inserts t in
    keyword_is sort (e ∙ i) parts k (not_true (is_else sort) no_else)

module _ (source : Source) (was : WasRead source) (values : ValuesAreKnown source) where
  pub customs_written : {i j : ℕ} {parts : Parts} {tokens : List Tok}
      → (name : SpellsName source terminals.Custom i j parts tokens) → is_custom source name ≡ true
      → NamedAs AsCustom (joined parts) tokens
  customs_written {i} {j} {parts} {tokens} name t before calm =
      let it = custom_names_written source i j parts tokens was name (name_values values name) before false calm in
      let is = custom_is it.told (sheet it.segment) t in record {
        passed = it.passed;
        head = is.head;
        first = is.first;
        segment = sheet it.segment;
      }

  at_named : {spaced inserts : Bool} {sort : Sort} {passed : List Written} → AsAtName sort inserts spaced passed
      → names_rule sort inserts ≡ true
      → TextHead passed × ((more : List Written) → begins_else (passed ++ more) ≡ false)
  at_named {inserts = inserts} {sort = sort} (as_at e parts) t =
      let is = at_is sort inserts e parts t in (is.head, λ more. is.first)

  at_values : {i j : ℕ} {parts : Parts} {tokens : List Tok} → (name : SpellsAtName source i j parts tokens)
      → AtNameHasValues name
  at_values (at_word name) = name_values values name
  at_values (at_insert old opens inner close row) =
      (values.rows _ _ _ _ (behind_old opens refl) (before_old close refl) inner, row_values values refl row)
  at_values (at_minus old minus opens inner close row) =
      (values.rows _ _ _ _ (behind_old opens refl) (before_old close refl) inner, row_values values refl row)

  inserted_head : {spaced : Bool} {passed : List Written} → AsInsertedAt spaced passed
      → TextHead passed × ((more : List Written) → begins_else (passed ++ more) ≡ false)
  inserted_head (at_inserted inner parts) = (heads.inserted_head inner parts, λ more. refl)
  inserted_head (at_minused inner parts) = (heads.minus_head inner parts, λ more. refl)

  inserted_rule : {i j : ℕ} {parts : Parts} {tokens : List Tok} → (name : SpellsAtName source i j parts tokens)
      → begins_inserted name ≡ true → NamedAs TextHead (joined parts) tokens
  inserted_rule {i} {j} {parts} {tokens} name t before calm =
      let it = at_inserts_written source i j parts tokens was name t (at_values name) before false calm in
      let (head, first) = inserted_head it.told in record {
        passed = it.passed;
        head = head;
        first = first;
        segment = sheet it.segment;
      }

  pub at_rules_written : {i j : ℕ} {parts : Parts} {tokens : List Tok} → (name : SpellsAtName source i j parts tokens)
      → is_at_rule source name ≡ true → NamedAs TextHead (joined parts) tokens
  at_rules_written {j = j} {parts} {tokens} (at_word {i} name) t before calm =
      let it = at_names_written source i j parts tokens was name (name_values values name) before false calm in
      let (head, first) = at_named it.told t in record {
        passed = it.passed;
        head = head;
        first = first;
        segment = sheet it.segment;
      }
  at_rules_written {i} {j} {parts} {tokens} (at_insert old opens inner close row) t before calm =
      inserted_rule (at_insert old opens inner close row) t before calm
  at_rules_written {i} {j} {parts} {tokens} (at_minus old minus opens inner close row) t before calm =
      inserted_rule (at_minus old minus opens inner close row) t before calm
