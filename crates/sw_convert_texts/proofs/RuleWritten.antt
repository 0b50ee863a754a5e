-- What stands before the block of a rule is written as its tokens, and these begin a rule.
use Rattle.std.proofs.Common.{◌≡◌, ◌⊎◌, ℕ, Bool, true, false, not, ◌&&◌, ◌||◌, inl, inr, None, List, [], ◌∷◌, ◌++◌, refl, sym, ◌∙◌, ap, subst, append_assoc}
use Rattle.std.specs.Prelude.{if◌then◌else◌}
use Rattle.sw_text_scan.proofs.Bounds.{and_left, and_right, not_true}
use Rattle.sw_tokens.specs.declared.pieces.Before.{Before}
use Rattle.sw_tokens.specs.declared.pieces.Before.TheVariants as befores
use Rattle.sw_tokens.specs.Tokens.{is_spaced}
use Rattle.sw_parse_lexemes.specs.declared.sort.Sort.{Sort}
use Rattle.sw_parse_lexemes.specs.declared.sort.Sort.TheVariants as sorts
use Rattle.sw_parse_lexemes.specs.declared.state.Mode.TheVariants as modes
use Rattle.sw_parse_lexemes.specs.declared.state.Walk.TheVariants as walks
use Rattle.sw_parse_lexemes.specs.Ahead.{in_insert}
use Rattle.sw_parse_lexemes.specs.Classes.{is_name, goes_on as goes_on_sort, same}
use Rattle.sw_parse_table.specs.declared.source.Source.{Source}
use Rattle.sw_parse_table.specs.Parts.{Part}
use Rattle.sw_parse_table.specs.Sources.{parts_between, text_between}
use Rattle.sw_convert_spelling.specs.Spelt.{behind_gap}
use Rattle.sw_convert_spelling.proofs.Choices.{left_no, right_no, both}
use Rattle.sw_convert_passing.specs.Written.{Written}
use Rattle.sw_convert_passing.specs.Kinds.{is_dot, is_dollar}
use Rattle.sw_convert_written.specs.Escapes.{ends_open}
use Rattle.sw_convert_written.specs.Expressions.{parts_written}
use Rattle.sw_convert_written.specs.Heads.{unescaping, seamed_text}
use Rattle.sw_convert_heads_passing.specs.Blocks.{open_sign}
use Rattle.sw_convert_heads_passing.specs.RawTexts.{RawText, Outside}
use Rattle.sw_convert_heads_passing.specs.RawTexts as told
use Rattle.sw_convert_heads_passing.specs.Rules.{walked, is_direct, is_pseudo, no_variable, is_rule}
use Rattle.sw_convert_again.specs.Tokens.{Tok, Extent}
use Rattle.sw_convert_again.specs.RawTexts.{parens, squares, braces, SpellsRawItem, SpellsRawText, raw_token, raw_insert, raw_brackets, raw_end, raw_more, raw_tokens}
use Rattle.sw_convert_texts.specs.RawKinds.{gap_before, row_text, sort_there, is_some, sort_behind, leaves, item_known, raw_stays}
use Rattle.sw_convert_texts.specs.RuleTexts.{item_sort, item_digits, is_begin, is_literal, is_lead, is_type, is_part, ends_word, goes_as_class, goes_as_pseudo, goes_as_rule, goes_behind_name, begins_as, begins_rule, seams_of, RuleTextsAreWritten}
use Rattle.sw_convert_texts.specs.RawTexts.{SheetSegment, EndsText}
use Rattle.sw_convert_texts.proofs.RawHeads.{Head, is_one, IsOver, RowHead}
use Rattle.sw_convert_tokens.specs.Joints.{writtens}
use Rattle.sw_convert_tokens.proofs.Joins.{writtens_append}
use Rattle.sw_convert_texts.proofs.RawRows.{row_leaves}
use Rattle.sw_convert_texts.proofs.RawWritten.{whole_text, whole_raw, uncut_same, unescaped}
use Rattle.sw_convert_texts.proofs.RuleHeads.{block, which, or_first, or_second, as_told, exact, literal_new, name_unliteral, lead_rule, ends_so, word_so, block_so, Ends, no_comment, word_stops, ends_plain, ends_pseudo, word_part, name_goes, named_insert, insert_rule, minus_rule, dashed_rule, name_rule, alone_rule, is_pseudo_begin, pseudo_unliteral, is_pseudo_so}

-- white space stands there
gap_spaced : (start : Before) (gap : List ℕ) → is_some gap ≡ true → is_spaced (behind_gap start gap) ≡ true
gap_spaced start [] e = absurd (cc)
gap_spaced start (b ∷ gap) e = refl

gap_direct : (start : Before) (gap : List ℕ) → is_spaced start ≡ false → is_some gap ≡ false
    → is_spaced (behind_gap start gap) ≡ false
gap_direct start [] dark e = dark
gap_direct start (b ∷ gap) dark e = absurd (cc)

-- none stands directly behind an item
leaves_direct : {source : Source} {i k : ℕ} {parts : List Part} {tokens : List Tok} {extents : List Extent}
    (item : SpellsRawItem source i k parts tokens extents) → is_spaced (leaves item) ≡ false
leaves_direct (raw_token old) = go (sort_there old)
  where
    go : (sort : Sort) → is_spaced (sort_behind sort) ≡ false
    go sorts.Hash = refl
    go sorts.Dollar = refl
    go _ = refl
leaves_direct (raw_insert opens inner close) = refl
leaves_direct (raw_brackets kind opens text close) = refl

-- an item that begins with none of these is one token
one_by : (f : Sort → Bool) → f sorts.OpenInsert ≡ false → f sorts.OpenParen ≡ false → f sorts.OpenBracket ≡ false
    → f sorts.OpenBrace ≡ false → {source : Source} {i k : ℕ} {parts : List Part} {tokens : List Tok} {extents : List Extent}
    → (item : SpellsRawItem source i k parts tokens extents) → f (item_sort item) ≡ true → is_one item ≡ true
one_by f insert paren square brace (raw_token old) e = refl
one_by f insert paren square brace (raw_insert opens inner close) e = absurd (let wrong : true ≡ false = sym e ∙ insert in cc)
one_by f insert paren square brace (raw_brackets parens opens text close) e = absurd (let wrong : true ≡ false = sym e ∙ paren in cc)
one_by f insert paren square brace (raw_brackets squares opens text close) e = absurd (let wrong : true ≡ false = sym e ∙ square in cc)
one_by f insert paren square brace (raw_brackets braces opens text close) e = absurd (let wrong : true ≡ false = sym e ∙ brace in cc)

one_digits : {source : Source} {i k : ℕ} {parts : List Part} {tokens : List Tok} {extents : List Extent}
    (item : SpellsRawItem source i k parts tokens extents) → item_digits item ≡ true → is_one item ≡ true
one_digits (raw_token old) e = refl
one_digits (raw_insert opens inner close) e = absurd (let wrong : false ≡ true = e in cc)
one_digits (raw_brackets kind opens text close) e = absurd (let wrong : false ≡ true = e in cc)

-- by the sort that is looked for
is_minus : (sort : Sort) → same sort sorts.Minus ≡ true → sort ≡ sorts.Minus
is_minus sorts.Minus e = refl
is_minus _ e = absurd (cc)

is_insert : (sort : Sort) → same sort sorts.OpenInsert ≡ true → sort ≡ sorts.OpenInsert
is_insert sorts.OpenInsert e = refl
is_insert _ e = absurd (cc)

-- ---- behind a `.` and behind a `:`

class_so : (unclosed : Bool) (before : Before) {source : Source} {k j : ℕ} {more : List Part} {others : List Tok}
    {further : List Extent} (row : SpellsRawText source k j more others further) (list : List Written)
    → RowHead modes.Raw before row list → goes_as_class row ≡ true → no_variable (list ++ block unclosed) ≡ true
class_so true before raw_end list rows e = ap (λ (t : List Written). no_variable (t ++ block true)) rows
class_so false before raw_end list rows e = ap (λ (t : List Written). no_variable (t ++ block false)) rows
class_so unclosed before (raw_more item row) list (rest, third, one, over, walk, rows) e =
    ap (λ (t : List Written). no_variable (t ++ block unclosed)) third.is
    ∙ ap not (right_no (not third.head.spaced) _
    (as_told is_dollar false refl refl refl refl (item_sort item) third.head.sort third.told
    (not_true (same (item_sort item) sorts.Dollar) e)))

pseudo_so : (unclosed : Bool) (before : Before) → is_spaced before ≡ false → {source : Source} {k j : ℕ} {more : List Part}
    {others : List Tok} {further : List Extent} (row : SpellsRawText source k j more others further) (list : List Written)
    → RowHead modes.Raw before row list → goes_as_pseudo row ≡ true → is_pseudo (list ++ block unclosed) ≡ true
pseudo_so unclosed before dark raw_end list rows e = absurd (cc)
pseudo_so unclosed before dark {source} (raw_more {i = at} item row) list (rest, third, one, over, walk, rows) e =
    let begins = and_right (not (is_some (gap_before source at))) (is_pseudo_begin (item_sort item)) e in
    let direct = not_true (is_some (gap_before source at)) (and_left (not (is_some (gap_before source at))) _ e) in
    is_pseudo_so list third.head third.tail unclosed third.is
    (third.spaced_is ∙ gap_direct before (gap_before source at) dark direct)
    (ap is_pseudo_begin
    (exact (item_sort item) third.head.sort third.told (pseudo_unliteral (item_sort item) begins)) ∙ begins)
    (walk refl)

-- ---- behind a word

-- an item, behind which more stand
module _ {source : Source} (unclosed dashed : Bool) (before : Before) (dark : is_spaced before ≡ false) {i k j : ℕ}
    {parts more : List Part} {tokens others : List Tok} {extents further : List Extent}
    (next : SpellsRawItem source i k parts tokens extents) (row : SpellsRawText source k j more others further)
    (list rest : List Written)
    (second : Head (item_sort next) (item_digits next) (is_spaced (behind_gap before (gap_before source i))) list)
    (one : is_one next ≡ true → second.tail ≡ rest) (over : IsOver (item_sort next) second.tail rest)
    (rows : RowHead modes.Raw (leaves next) row rest)
    (onward : goes_as_rule row dashed ≡ true → word_so dashed 0 (rest ++ block unclosed) ≡ true) where
  abbrev spaced : Bool
  spaced = is_some (gap_before source i)

  abbrev behind : List Written
  behind = second.tail ++ block unclosed

  white : spaced ≡ true → second.head.spaced ≡ true
  white e = second.spaced_is ∙ gap_spaced before (gap_before source i) e

  direct : spaced ≡ false → second.head.spaced ≡ false
  direct e = second.spaced_is ∙ gap_direct before (gap_before source i) dark e

  -- one token goes on with it
  token_goes : spaced ≡ false → (sort : Sort) → second.head.sort ≡ sort → goes_on_sort sort ≡ true → in_insert sort 0 ≡ 0
      → is_one next ≡ true → goes_as_rule row dashed ≡ true → word_so dashed 0 (second.head ∷ behind) ≡ true
  token_goes e sort same_is goes counted single g =
      word_part dashed second.head behind 0 (direct e) (ap goes_on_sort same_is ∙ goes) (ap (λ (s : Sort). in_insert s 0) same_is ∙ counted)
      ∙ ap (λ (t : List Written). word_so dashed 0 (t ++ block unclosed)) (one single) ∙ onward g

  -- a value does
  insert_goes : spaced ≡ false → same (item_sort next) sorts.OpenInsert ≡ true → goes_as_rule row dashed ≡ true
      → word_so dashed 0 (second.head ∷ behind) ≡ true
  insert_goes e insert g =
      let is = is_insert (item_sort next) insert in
      let same_is = exact (item_sort next) second.head.sort second.told (ap is_literal is) ∙ is in
      word_part dashed second.head behind 1 (direct e) (ap goes_on_sort same_is) (ap (λ (s : Sort). in_insert s 0) same_is)
      ∙ ap (λ (t : List Written). ends_so dashed (walked walks.Comments 0 t)) (over insert (block unclosed)) ∙ onward g

  part_goes : spaced ≡ false → is_part next ≡ true → goes_as_rule row dashed ≡ true
      → word_so dashed 0 (second.head ∷ behind) ≡ true
  part_goes e part g = go (which (item_digits next) _ part)
    where
      sign : (same (item_sort next) sorts.Minus ≡ true) ⊎ (same (item_sort next) sorts.OpenInsert ≡ true)
          → word_so dashed 0 (second.head ∷ behind) ≡ true
      sign (inl m) =
          let is = is_minus (item_sort next) m in
          token_goes e sorts.Minus (exact (item_sort next) second.head.sort second.told (ap is_literal is) ∙ is) refl refl
          (one_by (λ s. same s sorts.Minus) refl refl refl refl next m) g
      sign (inr insert) = insert_goes e insert g

      word : (is_name (item_sort next) ≡ true) ⊎ ((same (item_sort next) sorts.Minus || same (item_sort next) sorts.OpenInsert) ≡ true)
          → word_so dashed 0 (second.head ∷ behind) ≡ true
      word (inl n) =
          token_goes e (item_sort next) (exact (item_sort next) second.head.sort second.told (name_unliteral (item_sort next) n))
          (name_goes (item_sort next) n) (named_insert (item_sort next) n) (one_by is_name refl refl refl refl next n) g
      word (inr s) = sign (which (same (item_sort next) sorts.Minus) _ s)

      go : (item_digits next ≡ true)
          ⊎ ((is_name (item_sort next) || (same (item_sort next) sorts.Minus || same (item_sort next) sorts.OpenInsert)) ≡ true)
          → word_so dashed 0 (second.head ∷ behind) ≡ true
      go (inl d) = token_goes e sorts.Digits (second.digits_is d) refl refl (one_digits next d) g
      go (inr w) = word (which (is_name (item_sort next)) _ w)

  -- or it ends the word
  head_ends : ends_word spaced (item_sort next) ≡ true → Ends second.head
  head_ends e = go (is_literal (item_sort next)) refl e
    where
      spaced_or : (spaced ≡ true) ⊎ (not (goes_on_sort (item_sort next)) ≡ true) → second.head.sort ≡ item_sort next
          → (not second.head.spaced && goes_on_sort second.head.sort) ≡ false
      spaced_or (inl w) is = left_no (not second.head.spaced) _ (ap not (white w))
      spaced_or (inr n) is =
          right_no (not second.head.spaced) _ (ap goes_on_sort is ∙ not_true (goes_on_sort (item_sort next)) n)

      go : (t : Bool) → is_literal (item_sort next) ≡ t
          → (if t then spaced else (is_begin (item_sort next) && (spaced || not (goes_on_sort (item_sort next))))) ≡ true
          → Ends second.head
      go true l w = record {
        apart = left_no (not second.head.spaced) _ (ap not (white w));
        seen = no_comment second.head.sort
            (or_second (is_begin second.head.sort) _ (literal_new (item_sort next) second.head.sort second.told l));
      }
      go false l w =
          let is = exact (item_sort next) second.head.sort second.told l in record {
            apart = spaced_or (which spaced _ (and_right (is_begin (item_sort next)) _ w)) is;
            seen = no_comment second.head.sort
                (or_first (is_begin second.head.sort) _ (ap is_begin is ∙ and_left (is_begin (item_sort next)) _ w));
          }

  ends_here : (ends_word spaced (item_sort next) && (not (same (item_sort next) sorts.Colon) || (not dashed && goes_as_pseudo row))) ≡ true
      → word_so dashed 0 (second.head ∷ behind) ≡ true
  ends_here e =
      word_stops dashed second.head behind (head_ends (and_left (ends_word spaced (item_sort next)) _ e))
      ∙ go (same (item_sort next) sorts.Colon) refl (and_right (ends_word spaced (item_sort next)) _ e)
    where
      go : (t : Bool) → same (item_sort next) sorts.Colon ≡ t → (not t || (not dashed && goes_as_pseudo row)) ≡ true
          → ends_so dashed (second.head ∷ behind) ≡ true
      go false c f =
          ends_plain dashed second.head behind
          (as_told (λ s. same s sorts.Colon) false refl refl refl refl (item_sort next) second.head.sort second.told c)
      go true c f =
          ends_pseudo dashed second.head behind (and_left (not dashed) _ f)
          (ap (λ (t : List Written). is_pseudo (t ++ block unclosed)) (one (one_by (λ s. same s sorts.Colon) refl refl refl refl next c))
          ∙ pseudo_so unclosed (leaves next) (leaves_direct next) row rest rows (and_right (not dashed) _ f))

  pub next_so : goes_as_rule (raw_more next row) dashed ≡ true → word_so dashed 0 (list ++ block unclosed) ≡ true
  next_so e = ap (λ (t : List Written). word_so dashed 0 (t ++ block unclosed)) second.is ∙ go (not spaced && is_part next) refl e
    where
      go : (t : Bool) → (not spaced && is_part next) ≡ t
          → (if t then goes_as_rule row dashed
          else (ends_word spaced (item_sort next) && (not (same (item_sort next) sorts.Colon) || (not dashed && goes_as_pseudo row)))) ≡ true
          → word_so dashed 0 (second.head ∷ behind) ≡ true
      go true p f = part_goes (not_true spaced (and_left (not spaced) _ p)) (and_right (not spaced) _ p) f
      go false p f = ends_here f

-- items behind a word
word_row : (unclosed dashed : Bool) {source : Source} {k j : ℕ} {more : List Part} {others : List Tok} {further : List Extent}
    (row : SpellsRawText source k j more others further) (before : Before) → is_spaced before ≡ false → (list : List Written)
    → RowHead modes.Raw before row list → goes_as_rule row dashed ≡ true → word_so dashed 0 (list ++ block unclosed) ≡ true
word_row unclosed dashed raw_end before dark list rows e =
    ap (λ (t : List Written). word_so dashed 0 (t ++ block unclosed)) rows ∙ block_so dashed unclosed
word_row unclosed dashed (raw_more item row) before dark list (rest, second, one, over, walk, rows) e =
    next_so unclosed dashed before dark item row list rest second one over rows
    (λ f. word_row unclosed dashed row (leaves item) (leaves_direct item) rest rows f) e

-- ---- behind a name that begins the text

name_row : (first : Written) → is_type first.sort ≡ true → (unclosed : Bool) {source : Source} {k j : ℕ} {more : List Part}
    {others : List Tok} {further : List Extent} (row : SpellsRawText source k j more others further) (before : Before)
    → is_spaced before ≡ false → (list : List Written) → RowHead modes.Raw before row list → goes_behind_name row ≡ true
    → is_rule (first ∷ (list ++ block unclosed)) ≡ true
name_row first type unclosed raw_end before dark list rows e =
    ap (λ (t : List Written). is_rule (first ∷ (t ++ block unclosed))) rows ∙ alone_rule first unclosed type
name_row first type unclosed {source} (raw_more {i = at} item row) before dark list (rest, second, one, over, walk, rows) e =
    ap (λ (t : List Written). is_rule (first ∷ (t ++ block unclosed))) second.is ∙ go (not spaced && same (item_sort item) sorts.Dot) refl e
  where
    spaced : Bool
    spaced = is_some (gap_before source at)

    white : spaced ≡ true → second.head.spaced ≡ true
    white f = second.spaced_is ∙ gap_spaced before (gap_before source at) f

    direct : spaced ≡ false → second.head.spaced ≡ false
    direct f = second.spaced_is ∙ gap_direct before (gap_before source at) dark f

    no_dot : (t : Bool) → spaced ≡ t → (not t && same (item_sort item) sorts.Dot) ≡ false → is_direct is_dot second.head ≡ false
    no_dot true w d = left_no (not second.head.spaced) _ (ap not (white w))
    no_dot false w d =
        right_no (not second.head.spaced) _
        (as_told is_dot false refl refl refl refl (item_sort item) second.head.sort second.told d)

    dot_is : (sort : Sort) → same sort sorts.Dot ≡ true → is_literal sort ≡ false
    dot_is sorts.Dot d = refl
    dot_is _ d = absurd (cc)

    go : (t : Bool) → (not spaced && same (item_sort item) sorts.Dot) ≡ t
        → (if t then goes_as_class row else goes_as_rule (raw_more item row) false) ≡ true
        → is_rule (first ∷ second.head ∷ (second.tail ++ block unclosed)) ≡ true
    go true d f =
        let dot = and_right (not spaced) (same (item_sort item) sorts.Dot) d in
        name_rule first second.head (second.tail ++ block unclosed) type
        (λ n. ap (λ (t : List Written). no_variable (t ++ block unclosed)) (one (one_by is_dot refl refl refl refl item dot))
        ∙ class_so unclosed (leaves item) row rest rows f)
        (λ n. absurd (let there : is_direct is_dot second.head ≡ true =
        both (not second.head.spaced) _ (ap not (direct (not_true spaced (and_left (not spaced) _ d))))
        (ap is_dot (exact (item_sort item) second.head.sort second.told (dot_is (item_sort item) dot)) ∙ dot) in
        let wrong : true ≡ false = sym there ∙ n in cc))
    go false d f =
        name_rule first second.head (second.tail ++ block unclosed) type
        (λ n. absurd (let none = no_dot spaced refl d in let wrong : true ≡ false = sym n ∙ none in cc))
        (λ n. sym (ap (λ (t : List Written). word_so false 0 (t ++ block unclosed)) second.is)
        ∙ word_row unclosed false (raw_more item row) before dark list (rest, second, one, over, walk, rows) f)

-- ---- by the first token

module _ {source : Source} {i k : ℕ} {parts : List Part} {tokens : List Tok} {extents : List Extent}
    (item : SpellsRawItem source i k parts tokens extents) (xs ys : List Written) (spaced unclosed : Bool)
    (first : Head (item_sort item) (item_digits item) spaced xs) (one : is_one item ≡ true → first.tail ≡ [])
    (over : IsOver (item_sort item) first.tail []) {j : ℕ} {more : List Part} {others : List Tok} {further : List Extent}
    (row : SpellsRawText source k j more others further) (rows : RowHead modes.Raw (leaves item) row ys) where
  dark : is_spaced (leaves item) ≡ false
  dark = leaves_direct item

  -- one token
  lone : is_one item ≡ true → is_rule (first.head ∷ (ys ++ block unclosed)) ≡ true → is_rule ((xs ++ ys) ++ block unclosed) ≡ true
  lone single e =
      ap (λ (t : List Written). is_rule ((t ++ ys) ++ block unclosed)) (first.is ∙ ap (λ (t : List Written). first.head ∷ t) (one single)) ∙ e

  exactly : (sort : Sort) → item_sort item ≡ sort → is_literal sort ≡ false → first.head.sort ≡ sort
  exactly sort is none = exact (item_sort item) first.head.sort first.told (ap is_literal is ∙ none) ∙ is

  sign_so : is_lead (item_sort item) ≡ true → is_rule ((xs ++ ys) ++ block unclosed) ≡ true
  sign_so e =
      ap (λ (t : List Written). is_rule ((t ++ ys) ++ block unclosed)) first.is
      ∙ lead_rule first.head (first.tail ++ ys) unclosed
      (as_told is_lead true refl refl refl refl (item_sort item) first.head.sort first.told e)

  by_sort : (sort : Sort) → item_sort item ≡ sort → begins_as sort row ≡ true → is_rule ((xs ++ ys) ++ block unclosed) ≡ true
  by_sort sorts.DashedName is e =
      lone (one_by is_name refl refl refl refl item (ap is_name is))
      (dashed_rule first.head (ys ++ block unclosed) (exactly sorts.DashedName is refl)
      (word_row unclosed true row (leaves item) dark ys rows e))
  by_sort sorts.Minus is e =
      lone (one_by (λ s. same s sorts.Minus) refl refl refl refl item (ap (λ (s : Sort). same s sorts.Minus) is))
      (minus_rule first.head (ys ++ block unclosed) (exactly sorts.Minus is refl)
      (word_row unclosed false row (leaves item) dark ys rows e))
  by_sort sorts.OpenInsert is e =
      ap (λ (t : List Written). is_rule ((t ++ ys) ++ block unclosed)) first.is
      ∙ insert_rule first.head ((first.tail ++ ys) ++ block unclosed) (exactly sorts.OpenInsert is refl)
      (ap (λ (t : List Written). ends_so false (walked walks.Comments 0 t))
      (ap (walked walks.Word 1) (append_assoc first.tail ys (block unclosed))
      ∙ over (ap (λ (s : Sort). same s sorts.OpenInsert) is) (ys ++ block unclosed))
      ∙ word_row unclosed false row (leaves item) dark ys rows e)
  by_sort sort is e = go (which (is_lead sort) _ e) refl
    where
      go : (is_lead sort ≡ true) ⊎ ((is_name sort && goes_behind_name row) ≡ true) → is_type sort ≡ is_name sort
          → is_rule ((xs ++ ys) ++ block unclosed) ≡ true
      go (inl l) plain = sign_so (ap is_lead is ∙ l)
      go (inr w) plain =
          let n = and_left (is_name sort) (goes_behind_name row) w in
          lone (one_by is_name refl refl refl refl item (ap is_name is ∙ n))
          (name_row first.head (ap is_type (exactly sort is (name_unliteral sort n)) ∙ plain ∙ n) unclosed row (leaves item) dark ys rows
          (and_right (is_name sort) (goes_behind_name row) w))

  pub begins_so : begins_rule (raw_more item row) ≡ true → is_rule ((xs ++ ys) ++ block unclosed) ≡ true
  begins_so e = by_sort (item_sort item) refl e

-- ---- a whole text

seam_raw : (unclosed : Bool) → RawText modes.Raw Outside (seams_of unclosed)
seam_raw true = told.raw_seam told.raw_end
seam_raw false = told.raw_end

pub rule_texts_written : RuleTextsAreWritten
rule_texts_written source i j values tokens extents was raw_end known uncut begins has before calm = absurd (cc)
rule_texts_written source i j values tokens extents was (raw_more item row) known uncut begins (has, more) before calm =
    let stays = and_left (raw_stays source modes.Raw (raw_more item row)) _ known in
    let own = seamed_text (text_between source i j values) in
    let closed = not_true (ends_open own) (and_right (raw_stays source modes.Raw (raw_more item row)) _ known) in
    let it = whole_text source was modes.Raw item row
    (and_left (item_known source modes.Raw item None befores.Other (row_text source row [])) _ stays)
    (and_right (item_known source modes.Raw item None befores.Other (row_text source row [])) _ stays) has more before false calm in
    let xs = it.one.joints in
    let ys = it.rest.joints in record {
      passed = writtens (xs ++ ys);
      raw = λ unclosed. whole_raw source was modes.Raw item row it Outside (seams_of unclosed) (seam_raw unclosed);
      rule = λ unclosed.
          ap is_rule (append_assoc (writtens (xs ++ ys)) (seams_of unclosed) (open_sign true ∷ [])
          ∙ ap (λ (t : List Written). t ++ block unclosed) (writtens_append xs ys))
          ∙ begins_so item (writtens xs) (writtens ys) _ unclosed it.one.head it.one.one it.one.over row it.rest.head begins;
      end = row_leaves (leaves item) row;
      segment = subst
          (λ (own : List ℕ). SheetSegment before own (raw_tokens source i j values extents tokens) (writtens (xs ++ ys)) (row_leaves (leaves item) row) (EndsText own))
          (sym (ap unescaping (uncut_same (parts_written (parts_between source i j values)) uncut) ∙ unescaped own closed)) it.segment;
    }
