-- What begins neither with `(` nor with `not` opens no condition, nor does a namespace that isn't called so.
use Rattle.std.proofs.Common.{◌≡◌, ◌<◌, ℕ, Bool, true, false, not, ◌&&◌, ◌||◌, if◌then◌else◌, List, [], ◌∷◌, ◌++◌, length, take, append-nil, refl, sym, ◌∙◌, ap, append_assoc, arith}
use Rattle.std.specs.List.{list_all}
use Rattle.std.proofs.Math.Seq.{take-append_seam}
use Rattle.sw_text_scan.specs.declared.runs.Class.TheVariants as classes
use Rattle.sw_text_scan.specs.Bytes.{byte, is_white}
use Rattle.sw_text_scan.specs.Runs.{run_end}
use Rattle.sw_text_scan.proofs.Bounds.{if_true, if_false, and_left, and_right, not_true}
use Rattle.sw_tokens.specs.declared.pieces.Before.{Before}
use Rattle.sw_tokens.specs.declared.pieces.Change.{Change}
use Rattle.sw_tokens.specs.declared.skips.Inside.{Inside}
use Rattle.sw_tokens.specs.declared.token.TokenKind.{TokenKind}
use Rattle.sw_tokens.specs.declared.token.TokenKind.TheVariants as kinds
use Rattle.sw_tokens.specs.Pieces.{made, piece}
use Rattle.sw_parse_terminals.specs.declared.terminal.Terminal.TheVariants as terminals
use Rattle.sw_parse_lexemes.specs.declared.sort.Sort.{Sort}
use Rattle.sw_parse_lexemes.specs.declared.sort.Sort.TheVariants as sorts
use Rattle.sw_parse_lexemes.specs.declared.state.Mode.TheVariants as modes
use Rattle.sw_parse_lexemes.specs.Classes.{is_name, is_number, same}
use Rattle.sw_parse_lexemes.specs.Sorts.{sort_of}
use Rattle.sw_parse_lexemes.specs.Words.{word_sort, is_prefixed_calc}
use Rattle.sw_convert_spelling.specs.Spelt.{behind_gap, innermost, takes_gap, is_gap}
use Rattle.sw_convert_spelling.proofs.Choices as names
use Rattle.sw_convert_passing.specs.Kinds.{is_quoted, is_constant, is_lone_value, is_prefix, is_word}
use Rattle.sw_convert_passing.specs.Written.{Written, written, direct}
use Rattle.sw_convert_passing.specs.Values.{Value, Word, Parts, Row, begins_insert}
use Rattle.sw_convert_passing.specs.Values as values
use Rattle.sw_convert_again.specs.Tokens.{Tok}
use Rattle.sw_convert_tokens.specs.Joints.{Joint, Token, Apart, text, toks, writtens, Stand}
use Rattle.sw_convert_tokens.proofs.NamePieces.{name_in, name_run}
use Rattle.sw_convert_tokens.proofs.Names.{start_by, begun_by}
use Rattle.sw_convert_tokens.proofs.Words.{kind_of_name}
use Rattle.sw_convert_heads_passing.specs.Media.{is_code, opens_no_condition, Compared, one_side, equal_sides}
use Rattle.sw_convert_statements.specs.Media.{begins_value, begins_feature, begins_owner, begins_owned, begins_not}
use Rattle.sw_convert_statements.proofs.WordRuns.{word_run}

-- ---- sorts that open none, whatever stands behind

abbrev is_calm_sort : Sort → Bool
is_calm_sort sort = is_code sort && (not (same sort sorts.OpenParen) && not (same sort sorts.Not))

calm_opens : (code paren other behind : Bool) → (code && (not paren && not other)) ≡ true
    → (code && not (paren || (other && behind))) ≡ true
calm_opens true false false behind e = refl
calm_opens true false true behind e = absurd (cc)
calm_opens true true other behind e = absurd (cc)
calm_opens false paren other behind e = absurd (cc)

number_calm : (sort : Sort) → is_number sort ≡ true → is_calm_sort sort ≡ true
number_calm sorts.Digits n = refl
number_calm sorts.Number n = refl
number_calm _ n = absurd (cc)

quoted_calm : (sort : Sort) → is_quoted sort ≡ true → is_calm_sort sort ≡ true
quoted_calm sorts.Quoted n = refl
quoted_calm sorts.Unnamed n = refl
quoted_calm _ n = absurd (cc)

constant_calm : (sort : Sort) → is_constant sort ≡ true → is_calm_sort sort ≡ true
constant_calm sorts.True n = refl
constant_calm sorts.False n = refl
constant_calm sorts.Null n = refl
constant_calm _ n = absurd (cc)

lone_calm : (sort : Sort) → is_lone_value sort ≡ true → is_calm_sort sort ≡ true
lone_calm sorts.Url n = refl
lone_calm sorts.Range n = refl
lone_calm sorts.Ampersand n = refl
lone_calm _ n = absurd (cc)

prefix_calm : (sort : Sort) → is_prefix sort ≡ true → is_calm_sort sort ≡ true
prefix_calm sorts.Plus n = refl
prefix_calm sorts.Minus n = refl
prefix_calm sorts.Slash n = refl
prefix_calm _ n = absurd (cc)

-- a name, but `not`
name_calm : (sort : Sort) → is_name sort ≡ true → same sort sorts.Not ≡ false → is_calm_sort sort ≡ true
name_calm sorts.Not n e = absurd (cc)
name_calm sorts.Comment n e = absurd (cc)
name_calm sorts.CommentTemplate n e = absurd (cc)
name_calm sorts.CommentEnd n e = absurd (cc)
name_calm sorts.OpenParen n e = absurd (cc)
name_calm _ n e = refl

-- ---- the first token

-- neither `(` nor `not`, nor a namespace by the name `not`
abbrev begins_so : Written → Bool
begins_so one = begins_value one.may_be || (begins_owner one.may_be && not (same one.sort sorts.Not))

pub record Starts (passed : List Written) : Type 0 where
  pub one : Written
  pub rest : List Written
  pub is : passed ≡ one ∷ rest
  pub calm : begins_so one ≡ true → (more : List Written) → opens_no_condition (one ∷ (rest ++ more)) ≡ true

-- one of such a sort
starts_calm : (one : Written) (rest : List Written) → is_calm_sort one.sort ≡ true → Starts (one ∷ rest)
starts_calm one rest e = record {
  one = one;
  rest = rest;
  is = refl;
  calm = λ f more. calm_opens (is_code one.sort) (same one.sort sorts.OpenParen) (same one.sort sorts.Not) _ e;
}

starts_never : (one : Written) (rest : List Written) → begins_so one ≡ false → Starts (one ∷ rest)
starts_never one rest e = record {
  one = one;
  rest = rest;
  is = refl;
  calm = λ f more. absurd (let wrong : true ≡ false = sym f ∙ e in cc);
}

starts_owner : (owner : Sort) (spaced : Bool) (rest : List Written) → is_name owner ≡ true
    → Starts (written owner spaced terminals.Owner ∷ rest)
starts_owner owner spaced rest n = record {
  one = written owner spaced terminals.Owner;
  rest = rest;
  is = refl;
  calm = λ f more.
      calm_opens (is_code owner) (same owner sorts.OpenParen) (same owner sorts.Not) _
      (name_calm owner n (not_true (same owner sorts.Not) f));
}

starts_more : {left : List Written} (right : List Written) → Starts left → Starts (left ++ right)
starts_more right it = record {
  one = it.one;
  rest = it.rest ++ right;
  is = ap (λ (l : List Written). l ++ right) it.is;
  calm = λ f more.
      ap (λ (l : List Written). opens_no_condition (it.one ∷ l)) (append_assoc it.rest right more)
      ∙ it.calm f (right ++ more);
}

not_inserts : (parts : List Written) → Parts parts → begins_insert parts ≡ true → (spaced : Bool) (more : List Written)
    → opens_no_condition (written sorts.Not spaced terminals.Word ∷ (parts ++ more)) ≡ true
not_inserts parts values.no_part e spaced more = absurd (cc)
not_inserts parts (values.part {parts = rest} sort p others) e spaced more = insert_part sort e (rest ++ more)
  where
    insert_part : (s : Sort) → same s sorts.OpenInsert ≡ true → (behind : List Written)
        → opens_no_condition (written sorts.Not spaced terminals.Word ∷ direct s terminals.Part ∷ behind) ≡ true
    insert_part sorts.OpenInsert f behind = refl
    insert_part _ f behind = absurd (cc)
not_inserts parts (values.part_insert inside rest) e spaced more = refl

word_starts : {spaced owned called : Bool} {passed : List Written} → Word modes.Expression spaced owned called passed
    → Starts passed
word_starts {spaced} {owned} {called} (values.named {parts = parts} sort n test more) = go (same sort sorts.Not) refl
  where
    is_not : (s : Sort) → same s sorts.Not ≡ true → s ≡ sorts.Not
    is_not sorts.Not e = refl
    is_not _ e = absurd (cc)

    inserts : (b : Bool) → (b || is_word modes.Expression owned called sorts.Not) ≡ true → b ≡ true
    inserts true e = refl
    inserts false e = absurd (cc)

    go : (t : Bool) → same sort sorts.Not ≡ t → Starts (written sort spaced terminals.Word ∷ parts)
    go false e = starts_calm (written sort spaced terminals.Word) parts (name_calm sort n e)
    go true e =
        let it = is_not sort e in record {
          one = written sort spaced terminals.Word;
          rest = parts;
          is = refl;
          calm = λ f tail.
              ap (λ (s : Sort). opens_no_condition (written s spaced terminals.Word ∷ (parts ++ tail))) it
              ∙ not_inserts parts more
              (inserts (begins_insert parts)
              (ap (λ (s : Sort). begins_insert parts || is_word modes.Expression owned called s) (sym it) ∙ test)) spaced tail;
        }
word_starts (values.begun inside parts) = starts_calm _ _ refl
word_starts (values.begun_minus inside parts) = starts_calm _ _ refl

pub value_starts : {spaced signed : Bool} {passed : List Written} → Value modes.Expression spaced signed passed
    → Starts passed
value_starts (values.number sort n) = starts_calm _ _ (number_calm sort n)
value_starts (values.negative sort n) = starts_calm _ _ refl
value_starts (values.positive sort n) = starts_calm _ _ refl
value_starts (values.quoted sort q) = starts_calm _ _ (quoted_calm sort q)
value_starts (values.template pieces) = starts_calm _ _ refl
value_starts (values.hash sort h) = starts_calm _ _ refl
value_starts (values.constant sort c) = starts_calm _ _ (constant_calm sort c)
value_starts (values.lone_value sort l) = starts_calm _ _ (lone_calm sort l)
value_starts (values.url_template pieces) = starts_calm _ _ refl
value_starts (values.variable sort n) = starts_calm _ _ refl
value_starts (values.owned_variable {spaced = spaced} owner sort o n) = starts_owner owner spaced _ o
value_starts (values.owned_call {spaced = spaced} owner o one called) = starts_owner owner spaced _ o
value_starts (values.word one) = word_starts one
value_starts (values.call {call = call} one called) = starts_more call (word_starts one)
value_starts values.important = starts_calm _ _ refl
value_starts (values.in_parens inside) = starts_never _ _ refl
value_starts (values.in_brackets inside) = starts_calm _ _ refl
value_starts (values.negated one) = starts_never _ _ refl
value_starts (values.prefixed sort p one) = starts_calm _ _ (prefix_calm sort p)
value_starts (values.linked one sort o two) = starts_more _ (value_starts one)
value_starts (values.divided one two) = starts_more _ (value_starts one)
value_starts (values.beside one two) = starts_more _ (value_starts one)
value_starts (values.special blank text) = starts_calm _ _ refl
value_starts (values.seamed one) = starts_more _ (value_starts one)

pub row_starts : {spaced ended : Bool} {passed : List Written} → Row modes.Expression spaced ended passed → Starts passed
row_starts (values.first one) = value_starts one
row_starts (values.separated more sort s) = starts_more _ (row_starts more)
row_starts (values.further more one) = starts_more _ (row_starts more)

pub compared_starts : {spaced : Bool} {passed : List Written} → Compared spaced passed → Starts passed
compared_starts (one_side value) = value_starts value
compared_starts (equal_sides left right) = starts_more _ (compared_starts left)

-- ---- told by the tokens and by the text

not_name : (sort : Sort) → same sort sorts.Not ≡ true → is_name sort ≡ true
not_name sorts.Not e = refl
not_name _ e = absurd (cc)

-- only a word is `not`
not_kind : (kind : TokenKind) (text : List ℕ) → same (sort_of kind text) sorts.Not ≡ true → kind ≡ kinds.Word
not_kind kind text e = go kind (kind_of_name kind text (not_name (sort_of kind text) e)) e
  where
    special : (t : Bool) → same (if t then sorts.Special else sorts.Name) sorts.Not ≡ true → ⊥
    special true f = cc
    special false f = cc

    go : (k : TokenKind) → names.is_name k ≡ true → same (sort_of k text) sorts.Not ≡ true → k ≡ kinds.Word
    go kinds.Word n f = refl
    go kinds.Name n f = absurd (special (is_prefixed_calc text) f)
    go kinds.DashedName n f = absurd (cc)
    go _ n f = absurd (cc)

-- it begins its text so
not_begins : (bytes rest : List ℕ) → 0 < length bytes → is_white (byte (bytes ++ rest) 0) ≡ false
    → run_end classes.Word (bytes ++ rest) 0 ≡ length bytes → same (word_sort bytes) sorts.Not ≡ true
    → begins_not (bytes ++ rest) ≡ true
unfolding byte
not_begins [] rest some black run e = absurd (omega (arith, some))
not_begins (b ∷ bytes) rest some black run e =
    if_false (is_white b) _ _ black
    ∙ ap (λ (n : ℕ). same (word_sort (take n (b ∷ (bytes ++ rest)))) sorts.Not) run
    ∙ ap (λ (t : List ℕ). same (word_sort t) sorts.Not) (take-append_seam (b ∷ bytes) rest) ∙ e

not_there : (kind : TokenKind) (bytes rest : List ℕ) (inside : Inside) (before : Before) (change : Change)
    → 0 < length bytes → piece (bytes ++ rest) inside before 0 ≡ made kind (length bytes) change
    → same (sort_of kind bytes) sorts.Not ≡ true → begins_not (bytes ++ rest) ≡ true
not_there kind bytes rest inside before change some token e =
    let word = not_kind kind bytes e in
    let here = token ∙ ap (λ (k : TokenKind). made k (length bytes) change) word in
    let named = name_in kinds.Word (length bytes) change refl (bytes ++ rest) inside before here in
    not_begins bytes rest some
    (start_by (byte (bytes ++ rest) 0)
    (begun_by (bytes ++ rest) (name_run kinds.Word (length bytes) change refl (bytes ++ rest) named).0)).white
    (sym (word_run (bytes ++ rest) inside before (length bytes) change here))
    (ap (λ (k : TokenKind). same (sort_of k bytes) sorts.Not) (sym word) ∙ e)

behind_white : (gap text : List ℕ) → list_all is_white gap ≡ true → begins_not (gap ++ text) ≡ begins_not text
behind_white [] text white = refl
behind_white (b ∷ gap) text white =
    if_true (is_white b) _ _ (and_left (is_white b) _ white)
    ∙ behind_white gap text (and_right (is_white b) (list_all is_white gap) white)

gap_white : (inside : Inside) (gap bytes : List ℕ) → is_gap inside gap bytes ≡ true → list_all is_white gap ≡ true
gap_white inside [] bytes e = refl
gap_white inside (b ∷ gap) bytes e =
    and_left (list_all is_white (b ∷ gap)) _ (and_right (takes_gap inside) _ e)

abbrev begins_passed : List Written → Bool
begins_passed [] = false
begins_passed (one ∷ rest) = begins_so one

both_left : (owner told : Bool) → (owner && told) ≡ true → (owner && true) ≡ true
both_left true told e = refl
both_left false told e = absurd (cc)

-- the text behind the white space before a token
cut_gap : (gap bytes rest after : List ℕ) → (gap ++ (bytes ++ rest)) ++ after ≡ gap ++ (bytes ++ (rest ++ after))
cut_gap gap bytes rest after =
    append_assoc gap (bytes ++ rest) after ∙ ap (λ (t : List ℕ). gap ++ t) (append_assoc bytes rest after)

begins_joints : (joints : List Joint) (before : Before) (after : List ℕ) → Stand [] before joints [] after
    → (begins_feature (toks joints) || (begins_owned (toks joints) && not (begins_not (text joints ++ after)))) ≡ true
    → begins_passed (writtens joints) ≡ true
begins_joints [] before after stand e = absurd (cc)
begins_joints (Apart ∷ joints) before after stand e = refl
begins_joints (Token seen ∷ joints) before after (gap, some, told, opening, token, rest) e =
    go (begins_value seen.may_be) (begins_owner seen.may_be) (same (sort_of seen.kind seen.bytes) sorts.Not) refl e
  where
    go : (value owner t : Bool) → same (sort_of seen.kind seen.bytes) sorts.Not ≡ t
        → (value || (owner && not (begins_not ((seen.gap ++ (seen.bytes ++ text joints)) ++ after)))) ≡ true
        → (value || (owner && not t)) ≡ true
    go true owner t same_is f = refl
    go false owner false same_is f =
        both_left owner (not (begins_not ((seen.gap ++ (seen.bytes ++ text joints)) ++ after))) f
    go false owner true same_is f =
        absurd
        (let wrong : false ≡ true =
        sym (ap not
        (ap begins_not (cut_gap seen.gap seen.bytes (text joints) after)
        ∙ behind_white seen.gap (seen.bytes ++ (text joints ++ after)) (gap_white (innermost []) seen.gap seen.bytes gap)
        ∙ not_there seen.kind seen.bytes (text joints ++ after) (innermost []) (behind_gap before seen.gap) seen.change some
        token same_is))
        ∙ and_right owner _ f in cc)

pub starts_told : {tokens : List Tok} {passed : List Written} {value : List ℕ} (joints : List Joint) (before : Before)
    (after : List ℕ) → Stand [] before joints [] after → text joints ≡ value → toks joints ≡ tokens
    → writtens joints ≡ passed
    → (begins_feature tokens || (begins_owned tokens && not (begins_not (value ++ after)))) ≡ true → Starts passed
    → opens_no_condition passed ≡ true
starts_told {tokens} joints before after stand spelling seen told e it =
    let first : begins_so it.one ≡ true =
    ap begins_passed (sym it.is) ∙ ap begins_passed (sym told)
    ∙ begins_joints joints before after stand
    (ap (λ (t : List Tok). begins_feature t || (begins_owned t && not (begins_not (text joints ++ after)))) seen
    ∙ ap (λ (t : List ℕ). begins_feature tokens || (begins_owned tokens && not (begins_not (t ++ after)))) spelling ∙ e) in
    ap opens_no_condition (it.is ∙ ap (λ (l : List Written). it.one ∷ l) (sym (append-nil it.rest))) ∙ it.calm first []
