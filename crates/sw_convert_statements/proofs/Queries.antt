-- `@media` with its queries.
use Rattle.std.proofs.Common.{◌≡◌, ℕ, suc, ◌-◌, Bool, true, false, not, ◌||◌, if◌then◌else◌, List, [], ◌∷◌, ◌++◌, append-nil, inl, refl, sym, ◌∙◌, ap, subst, append_assoc, arith, lit<}
use Rattle.std.specs.Prelude.{◌==◌, length, bytes_eq, codes}
use Rattle.std.proofs.lemmas.Slice.Eq.{bytes_eq-Decides}
use Rattle.sw_text_scan.specs.declared.signs.TheConstants.{CARRIAGE_RETURN}
use Rattle.sw_text_scan.specs.Bytes.{byte}
use Rattle.sw_text_scan.specs.Runs.{run_end, escape_end, begins_name}
use Rattle.sw_text_scan.proofs.Bounds.{if_true, and_left, and_right, not_true}
use Rattle.sw_text.specs.declared.place.Span.{Span}
use Rattle.sw_tree.specs.declared.text.Parts.TheVariants.{Mixed}
use Rattle.sw_tree.specs.declared.text.Piece.{Piece}
use Rattle.sw_tree.specs.declared.text.Piece.TheVariants as pieces
use Rattle.sw_tokens.specs.declared.pieces.Before.TheVariants as befores
use Rattle.sw_tokens.specs.declared.token.TokenKind.{TokenKind}
use Rattle.sw_tokens.specs.declared.token.TokenKind.TheVariants as kinds
use Rattle.sw_tokens.specs.Pieces.{name_piece}
use Rattle.sw_tokens.specs.Tokens.{is_spaced}
use Rattle.sw_parse_grammar.specs.Grammar.{member}
use Rattle.sw_parse_terminals.specs.Numbers.{number_of, just}
use Rattle.sw_parse_terminals.specs.declared.terminal.Terminal.{Terminal}
use Rattle.sw_parse_terminals.specs.declared.terminal.Terminal.TheVariants as terminals
use Rattle.sw_parse_lexemes.specs.declared.sort.Sort.{Sort}
use Rattle.sw_parse_lexemes.specs.declared.sort.Sort.TheVariants as sorts
use Rattle.sw_parse_lexemes.specs.declared.state.Mode.TheVariants as modes
use Rattle.sw_parse_lexemes.specs.Classes.{is_name, is_reserved}
use Rattle.sw_parse_lexemes.specs.Sorts.{sort_of}
use Rattle.sw_parse_lexemes.specs.Words.{word_sort, is_prefixed_calc}
use Rattle.sw_parse_table.specs.declared.source.Source.{Source}
use Rattle.sw_parse_table.specs.Sources.{bytes_at, bytes_between, bytes_from, from_at, to_at}
use Rattle.sw_convert_spelling.proofs.Choices as names
use Rattle.sw_convert_spelling.proofs.Choices.{right_no}
use Rattle.sw_convert_written.specs.Escapes.{ends_unclosed}
use Rattle.sw_convert_written.specs.Expressions.{expr_text}
use Rattle.sw_convert_written.specs.Heads.{queries_text}
use Rattle.sw_convert_passing.specs.Written.{Written, written, direct, apart}
use Rattle.sw_convert_passing.specs.Values.{Parts, no_part, part_insert, begins_insert, inserted}
use Rattle.sw_convert_again.specs.Tokens.{Tok, tok, Bytes, Old}
use Rattle.sw_convert_again.specs.Tokens as again
use Rattle.sw_convert_again.specs.Spells.{within}
use Rattle.sw_convert_again.specs.Queries.{type_prefixes, copied, SpellsTypeParts, SpellsTypeRest, SpellsTyped, SpellsCondition, SpellsQuery, SpellsMoreQueries, SpellsQueries}
use Rattle.sw_convert_again.specs.Queries as spells
use Rattle.sw_convert_again.proofs.Tokens.{one_byte}
use Rattle.sw_convert_tokens.specs.Joints.{Segment}
use Rattle.sw_convert_tokens.specs.Values.{WasRead}
use Rattle.sw_convert_tokens.specs.Written.{stops, begins_white, AsRow, WrittenAs}
use Rattle.sw_convert_tokens.proofs.Joins.{join, as_text, as_behind}
use Rattle.sw_convert_tokens.proofs.Olds.{old_token}
use Rattle.sw_convert_tokens.proofs.OriginChoices.{fits}
use Rattle.sw_convert_tokens.proofs.Stops.{Behind}
use Rattle.sw_convert_tokens.proofs.Signs.{Fits, token_segment, sign_token}
use Rattle.sw_convert_tokens.proofs.Words.{only_word, kind_of_name, copied_behind, copied_bytes, bytes_sit}
use Rattle.sw_convert_texts.proofs.MinusBefore.{minus_there}
use Rattle.sw_convert_heads_passing.specs.Media.{is_type, begins_type, opens, Joins, and_joins, or_joins, named_type, inserted_type, minus_type, TypeRest, type_features, type_not, Typed, typed, Query, only_query, not_type_query, typed_query, not_query, joined_query, Queries, one_query, more_queries}
use Rattle.sw_convert_heads_passing.specs.Statements.{querying}
use Rattle.sw_convert_values.proofs.Starts.{behind_old}
use Rattle.sw_convert_values.proofs.Stops.{before_old}
use Rattle.sw_convert_statements.specs.Segments.{FrontWritten}
use Rattle.sw_convert_statements.specs.Fronts.{ValuesAreKnown}
use Rattle.sw_convert_statements.specs.Media.{prefix_text, in_parens, is_feature, is_type_name, are_type_parts, is_type_rest, is_typed, is_whole, is_query, are_more_queries, are_queries, is_seamless}
use Rattle.sw_convert_statements.proofs.Callables.{name_ends}
use Rattle.sw_convert_statements.proofs.Features.{IsFeature, AreFeatures, insert_at, feature_written, worded_written, features_written}
use Rattle.sw_convert_statements.proofs.Keywords.{keyword}
use Rattle.sw_convert_statements.proofs.MediaPieces.{flat, no_pieces, flat_append, flat_text, flat_insert, queries_flat, passed_as, and_word, or_word, not_word}
use Rattle.sw_convert_texts.proofs.OldNames.{NamedSo}
use Rattle.sw_convert_statements.proofs.OneName.{name_segment}
use Rattle.sw_convert_statements.proofs.Params.{comma_segment}
use Rattle.sw_convert_statements.proofs.Segments.{sheet, text_follows}
use Rattle.sw_convert_statements.proofs.Segments as segments

-- what ends a query stands behind
abbrev Stops : List ℕ → Type 0
Stops after = stops after ≡ true

-- before it, or before a `#{}`, a name ends whose escapes are closed
stops_behind : (name : List ℕ) → ends_unclosed name ≡ false → (after : List ℕ) → Stops after → Behind name after
stops_behind name closed after s =
    name_ends name after (record { stop = s; closed = right_no (begins_white after) _ closed })

insert_behind : (name rest : List ℕ) → Behind name (codes "#{" ++ rest)
unfolding byte
insert_behind name rest = record {
  name = refl;
  slash = refl;
  feed = right_no (byte name (length name - 1) == CARRIAGE_RETURN) _ refl;
  closed = refl;
  range = λ e. absurd (let wrong : false ≡ true = e in cc);
  url = λ e. absurd (let wrong : false ≡ true = e in cc);
}

-- the text of one token
between_one : (source : Source) (i : ℕ) → bytes_between source i (suc i) ≡ bytes_at source i
between_one source i =
    ap (λ (k : ℕ). bytes_from source (from_at source i) (to_at source k)) (let z : suc i - 1 ≡ i = omega arith in z)

-- `#{}`, what goes on with it and what stands behind
more_inserted : (terminal : Terminal) (spaced : Bool) (inner parts rest : List Written)
    → inserted spaced terminal inner [] ++ (parts ++ rest) ≡ inserted spaced terminal inner parts ++ rest
more_inserted terminal spaced inner parts rest =
    let closing = direct sorts.CloseInsert terminals.InsertEnd in
    ap (λ (l : List Written). written sorts.OpenInsert spaced terminal ∷ l)
    (append_assoc inner (closing ∷ []) (parts ++ rest) ∙ sym (append_assoc inner (closing ∷ parts) rest))

-- ---- what stands behind the name of a media type

-- `#{}`, and features
record IsTail (text : List ℕ) (tokens : List Tok) : Type 0 where
  parts : List Written
  goes_on : Parts parts
  rest : List Written
  are : TypeRest rest
  behind : (name : List ℕ) → ends_unclosed name ≡ false → (after : List ℕ) → Stops after → Behind name (text ++ after)
  segment : Segment befores.Other text tokens (parts ++ rest) befores.Other Stops

same_tail : {xs ys : List ℕ} {ks ls : List Tok} → xs ≡ ys → ks ≡ ls → IsTail xs ks → IsTail ys ls
same_tail {xs} {ys} {ks} {ls} e f it =
    subst (λ (t : List Tok). IsTail ys t) f (subst (λ (t : List ℕ). IsTail t ks) e it)

features_tail : {text : List ℕ} {tokens : List Tok} → AreFeatures sorts.And terminals.And text tokens → IsTail text tokens
features_tail {text} it = record {
  parts = [];
  goes_on = no_part;
  rest = it.passed;
  are = type_features it.are;
  behind = λ name closed after s. stops_behind name closed (text ++ after) (it.goes after s);
  segment = as_behind (λ after s. tt) it.segment;
}

not_tail : {paren : Bool} {text : List ℕ} {tokens : List Tok} → IsFeature paren true text tokens
    → IsTail (codes " and " ++ (codes "not " ++ text)) (again.sign terminals.And ∷ again.sign terminals.Not ∷ tokens)
not_tail {text = text} it = record {
  parts = [];
  goes_on = no_part;
  rest = apart sorts.And terminals.And ∷ apart sorts.Not terminals.Not ∷ it.passed;
  are = type_not it.are;
  behind = λ name closed after s. stops_behind name closed ((codes " and " ++ (codes "not " ++ text)) ++ after) refl;
  segment = as_behind (λ after s. tt)
      (join and_word.segment (join not_word.segment it.segment (λ after ok. (text ++ after, refl)))
      (λ after ok. (codes "not " ++ (text ++ after), refl)));
}

module _ (source : Source) (values : ValuesAreKnown source) where
  rest_written : {i j : ℕ} {list : List Piece} {tokens : List Tok} → (rest : SpellsTypeRest source i j list tokens)
      → is_type_rest source rest ≡ true → IsTail (flat list) tokens
  rest_written (spells.type_features more) t = features_tail (features_written source values and_word (codes " and ") refl more t)
  rest_written (spells.type_not {list = list} old one) t =
      let it = worded_written source values one t in
      same_tail (ap (λ (x : List ℕ). codes " and " ++ x) (sym it.text_is) ∙ sym (flat_text (codes " and ") list))
      (ap (λ (l : List Tok). again.sign terminals.And ∷ l) (sym it.tokens_are)) (not_tail it.feature)

  tail_written : {i k j : ℕ} {list others : List Piece} {tokens more : List Tok}
      → (parts : SpellsTypeParts source i k list tokens) → are_type_parts parts ≡ true
      → (rest : SpellsTypeRest source k j others more) → is_type_rest source rest ≡ true
      → IsTail (flat (list ++ others)) (tokens ++ more)
  tail_written spells.type_end t rest u = rest_written rest u
  tail_written {others = last} {more = end}
      (spells.type_more {others = others} {more = os}
      (spells.type_inserted (spells.inserted_value {value = value} {tokens = ks} opened spelt close)) parts) t rest u =
      let it = insert_at terminals.PartInsert false (values.rows _ _ _ _ (behind_old opened refl) (before_old close refl) spelt) in
      let tail = tail_written parts t rest u in
      let shown = expr_text value ++ codes "}" in
      let list = pieces.Inserted value ∷ [] in
      same_tail
      (ap (λ (x : List ℕ). x ++ flat (others ++ last)) (sym (flat_insert value)) ∙ sym (flat_append list (others ++ last))
      ∙ ap flat (sym (append_assoc list others last)))
      (sym (append_assoc (within (again.sign terminals.PartInsert) ks terminals.InsertEnd) os end))
      (record {
        parts = inserted false terminals.PartInsert it.inner tail.parts;
        goes_on = part_insert it.items tail.goes_on;
        rest = tail.rest;
        are = tail.are;
        behind = λ name closed after s. insert_behind name ((shown ++ flat (others ++ last)) ++ after);
        segment = passed_as (more_inserted terminals.PartInsert false it.inner tail.parts tail.rest)
            (join it.segment tail.segment (λ after s. tt));
      })
  tail_written (spells.type_more (spells.type_part old) parts) t rest u = absurd (cc)

-- ---- media types

-- with a space before it
record IsTyped (text : List ℕ) (tokens : List Tok) : Type 0 where
  passed : List Written
  are : Typed passed
  begins : begins_type passed ≡ true
  segment : Segment befores.Other (codes " " ++ text) tokens passed befores.Other Stops

same_typed : {xs ys : List ℕ} {ks : List Tok} → xs ≡ ys → IsTyped xs ks → IsTyped ys ks
same_typed {xs} {ys} {ks} e it = subst (λ (t : List ℕ). IsTyped t ks) e it

type_free : (sort : Sort) → is_type sort ≡ true → not (is_reserved sort) ≡ true
type_free sorts.Only e = absurd (cc)
type_free sort e = and_right (is_name sort) _ e

type_sort : (kind : TokenKind) (text : List ℕ) → names.is_name kind ≡ true → is_type (word_sort text) ≡ true
    → is_type (sort_of kind text) ≡ true
type_sort kinds.Word text n r = r
type_sort kinds.Name text n r = go (is_prefixed_calc text)
  where
    go : (t : Bool) → is_type (if t then sorts.Special else sorts.Name) ≡ true
    go true = refl
    go false = refl
type_sort kinds.DashedName text n r = refl
type_sort _ text n r = absurd (cc)

or_second : (a b : Bool) → b ≡ true → (a || b) ≡ true
or_second true b e = refl
or_second false b e = e

or_first : (a b : Bool) → a ≡ true → (a || b) ≡ true
or_first true b e = refl
or_first false b e = absurd (cc)

word_typed : (source : Source) → WasRead source → (i : ℕ) → Old source i (just terminals.Word)
    → is_type (word_sort (bytes_at source i)) ≡ true → ends_unclosed (bytes_at source i) ≡ false → {text : List ℕ}
    {tokens : List Tok} → IsTail text tokens
    → IsTyped (bytes_between source i (suc i) ++ text) (copied source i terminals.Word ∷ tokens)
word_typed source was i old free closed {text} tail =
    let it = old_token source was i old.lexeme old.there in
    let sort = sort_of it.kind it.text in
    let n : is_name sort ≡ true =
    ap (λ (t : Terminal). fits t sort) (sym (only_word old.lexeme.terminal old.kind)) ∙ it.fit in
    let bytes_are = copied_bytes source i old.lexeme it n in
    let type = type_sort it.kind it.text (kind_of_name it.kind it.text n)
    (ap (λ (t : List ℕ). is_type (word_sort t)) (sym bytes_are) ∙ free) in
    let first = copied_behind source i old.lexeme it n terminals.Word (Bytes 1 (bytes_between source i (suc i)))
    befores.Other true refl (Behind it.text) (λ after f. f)
    (λ new at same. one_byte new at ∙ same ∙ sym (between_one source i)) in record {
      passed = written sort true terminals.Word ∷ (tail.parts ++ tail.rest);
      are = typed (named_type sort n (or_second (begins_insert tail.parts) _ type) tail.goes_on) tail.are;
      begins = if_true (is_name sort) _ _ n ∙ or_first (not (is_reserved sort)) _ (type_free sort type);
      segment = as_text
          (ap (λ (x : List ℕ). codes " " ++ (x ++ text)) (sym bytes_are ∙ sym (between_one source i)))
          (join first tail.segment
          (λ after s. tail.behind it.text (ap ends_unclosed (sym bytes_are) ∙ closed) after s));
    }

insert_typed : {value text : List ℕ} {ks tokens : List Tok} → WrittenAs AsRow value ks → IsTail text tokens
    → IsTyped ((codes "#{" ++ (value ++ codes "}")) ++ text)
    (within (again.sign terminals.WordInsert) ks terminals.InsertEnd ++ tokens)
insert_typed w tail =
    let it = insert_at terminals.WordInsert true w in record {
      passed = inserted true terminals.WordInsert it.inner tail.parts ++ tail.rest;
      are = typed (inserted_type it.items tail.goes_on) tail.are;
      begins = refl;
      segment = passed_as (more_inserted terminals.WordInsert true it.inner tail.parts tail.rest)
          (join it.segment tail.segment (λ after s. tt));
    }

-- a `-` before a `#{`
before_insert : (rest : List ℕ) → Fits kinds.Minus (codes "#{" ++ rest)
unfolding byte begins_name escape_end
before_insert rest = refl

minus_typed : (source : Source) → WasRead source → (i : ℕ) → Old source i (just terminals.WordMinus)
    → Old source (suc i) (just terminals.WordInsert) → {value text : List ℕ} {ks tokens : List Tok}
    → WrittenAs AsRow value ks → IsTail text tokens
    → IsTyped (bytes_between source i (suc i) ++ ((codes "#{" ++ (value ++ codes "}")) ++ text))
    (copied source i terminals.WordMinus ∷ (within (again.sign terminals.WordInsert) ks terminals.InsertEnd ++ tokens))
unfolding byte
minus_typed source was i old opened {value} {text} w tail =
    let there = minus_there source was i old opened in
    let it = insert_at terminals.WordInsert false w in
    let same = between_one source i ∙ there.dash in
    let first = token_segment kinds.Minus (codes "-") (terminals.WordMinus ∷ []) (Bytes 1 (bytes_between source i (suc i)))
    befores.Other true (Fits kinds.Minus) refl refl refl (lit< tt)
    (λ new commented at front after sits. one_byte new at ∙ bytes_sit new commented at front _ after sits ∙ sym same)
    (λ inside after code fits. sign_token kinds.Minus after inside befores.White refl code refl fits) in record {
      passed = written sorts.Minus true terminals.WordMinus
          ∷ (inserted false terminals.WordInsert it.inner tail.parts ++ tail.rest);
      are = typed (minus_type it.items tail.goes_on) tail.are;
      begins = refl;
      segment = as_text
          (ap (λ (x : List ℕ). codes " " ++ (x ++ ((codes "#{" ++ (value ++ codes "}")) ++ text))) (sym same))
          (join first
          (passed_as (more_inserted terminals.WordInsert false it.inner tail.parts tail.rest)
          (join it.segment tail.segment (λ after s. tt)))
          (λ after s. before_insert _));
    }

typed_written : (source : Source) → WasRead source → ValuesAreKnown source → {i j : ℕ} {list : List Piece}
    {tokens : List Tok} → (media : SpellsTyped source i j list tokens) → is_typed source media ≡ true
    → IsTyped (flat list) tokens
typed_written source was values
    (spells.typed {others = others} {last = last} (spells.type_word {i} old) parts rest) t =
    let name = and_left (is_type_name source (spells.type_word old)) _ t in
    let more = and_right (is_type_name source (spells.type_word old)) _ t in
    let tail = tail_written source values parts (and_left (are_type_parts parts) _ more) rest
    (and_right (are_type_parts parts) _ more) in
    same_typed (sym (flat_text (bytes_between source i (suc i)) (others ++ last)))
    (word_typed source was i old (and_left _ _ name) (not_true _ (and_right _ _ name)) tail)
typed_written source was values
    (spells.typed {others = others} {last = last}
    (spells.type_insert (spells.inserted_value {value = value} opened spelt close)) parts rest) t =
    let tail = tail_written source values parts (and_left (are_type_parts parts) _ t) rest
    (and_right (are_type_parts parts) _ t) in
    same_typed
    (ap (λ (x : List ℕ). x ++ flat (others ++ last)) (sym (flat_insert value))
    ∙ sym (flat_append (pieces.Inserted value ∷ []) (others ++ last)))
    (insert_typed (values.rows _ _ _ _ (behind_old opened refl) (before_old close refl) spelt) tail)
typed_written source was values
    (spells.typed {others = others} {last = last}
    (spells.type_minus {i} old (spells.inserted_value {value = value} opened spelt close)) parts rest) t =
    let tail = tail_written source values parts (and_left (are_type_parts parts) _ t) rest
    (and_right (are_type_parts parts) _ t) in
    same_typed
    (ap (λ (x : List ℕ). bytes_between source i (suc i) ++ (x ++ flat (others ++ last))) (sym (flat_insert value))
    ∙ ap (λ (x : List ℕ). bytes_between source i (suc i) ++ x) (sym (flat_append (pieces.Inserted value ∷ []) (others ++ last)))
    ∙ sym (flat_text (bytes_between source i (suc i)) (pieces.Inserted value ∷ (others ++ last))))
    (minus_typed source was i old opened (values.rows _ _ _ _ (behind_old opened refl) (before_old close refl) spelt) tail)

-- ---- one query

-- with a space before it
record IsQuery (text : List ℕ) (tokens : List Tok) : Type 0 where
  passed : List Written
  are : Query passed
  segment : Segment befores.Other (codes " " ++ text) tokens passed befores.Other Stops

same_query : {xs ys : List ℕ} {ks ls : List Tok} → xs ≡ ys → ks ≡ ls → IsQuery xs ks → IsQuery ys ls
same_query {xs} {ys} {ks} {ls} e f it =
    subst (λ (t : List Tok). IsQuery ys t) f (subst (λ (t : List ℕ). IsQuery t ks) e it)

only_name : NamedSo (codes "only")
unfolding name_piece byte begins_name escape_end run_end
only_name = record { kind = kinds.Word; named = refl; some = lit< tt; rest = []; piece_is = refl }

not_name : NamedSo (codes "not")
unfolding name_piece byte begins_name escape_end run_end
not_name = record { kind = kinds.Word; named = refl; some = lit< tt; rest = []; piece_is = refl }

data Prefixes : Terminal → Type 0 where
  only_prefixes : Prefixes terminals.Only
  not_prefixes : Prefixes terminals.NotType

prefixes_by : (terminal : Terminal) → member (number_of terminal) type_prefixes ≡ true → Prefixes terminal
prefixes_by terminals.Only m = only_prefixes
prefixes_by terminals.NotType m = not_prefixes
prefixes_by _ m = absurd (cc)

prefixed : {terminal : Terminal} → Prefixes terminal → (said : List ℕ) → said ≡ prefix_text terminal → {text : List ℕ}
    {tokens : List Tok} → IsTyped text tokens
    → IsQuery (prefix_text terminal ++ (codes " " ++ text)) (tok terminal (Bytes 1 said) ∷ tokens)
unfolding only_name not_name ends_unclosed
prefixed only_prefixes said e {text} media = record {
  passed = apart sorts.Only terminals.Only ∷ media.passed;
  are = only_query media.are media.begins;
  segment = join
      (name_segment (codes "only") only_name terminals.Only (Bytes 1 said) befores.Other true refl
      (λ new at same. one_byte new at ∙ same ∙ sym e)) media.segment
      (λ after s. name_ends (codes "only") (codes " " ++ (text ++ after)) (record { stop = refl; closed = refl }));
}
prefixed not_prefixes said e {text} media = record {
  passed = apart sorts.Not terminals.NotType ∷ media.passed;
  are = not_type_query media.are;
  segment = join
      (name_segment (codes "not") not_name terminals.NotType (Bytes 1 said) befores.Other true refl
      (λ new at same. one_byte new at ∙ same ∙ sym e)) media.segment
      (λ after s. name_ends (codes "not") (codes " " ++ (text ++ after)) (record { stop = refl; closed = refl }));
}

not_whole : {text : List ℕ} {tokens : List Tok} → IsFeature true true text tokens
    → IsQuery (codes "not " ++ text) (again.sign terminals.Not ∷ tokens)
not_whole {text} it = record {
  passed = apart sorts.Not terminals.Not ∷ it.passed;
  are = not_query it.are (ap opens (sym (append-nil it.passed)) ∙ it.opening refl []);
  segment = as_behind (λ after s. tt) (join not_word.segment it.segment (λ after ok. (text ++ after, refl)));
}

joined_whole : {word : Sort} {terminal : Terminal} → Joins word terminal → {paren : Bool} {first rest : List ℕ}
    {ks os : List Tok} → IsFeature paren true first ks → AreFeatures word terminal rest os
    → IsQuery (first ++ rest) (ks ++ os)
joined_whole joins one more = record {
  passed = one.passed ++ more.passed;
  are = joined_query joins one.are more.are;
  segment = as_behind (λ after s. tt) (join one.segment more.segment (λ after ok. tt));
}

module _ (source : Source) (was : WasRead source) (values : ValuesAreKnown source) where
  whole_written : {i j : ℕ} {list : List Piece} {tokens : List Tok} → (one : SpellsCondition source i j list tokens)
      → is_whole source one ≡ true → IsQuery (flat list) tokens
  whole_written (spells.not_condition (spells.worded {list = list} {tokens = tokens} old one)) t =
      let it = feature_written source values one (and_right (in_parens one) _ t) true in
      same_query (sym (flat_text (codes "not ") list)) refl
      (not_whole
      (subst (λ (b : Bool). IsFeature b true (flat list) tokens) (and_left (in_parens one) _ t) it))
  whole_written (spells.and_condition {list = list} {others = others} one more) t =
      same_query (sym (flat_append list others)) refl
      (joined_whole and_joins (feature_written source values one (and_left (is_feature source one) _ t) true)
      (features_written source values and_word (codes " and ") refl more (and_right (is_feature source one) _ t)))
  whole_written (spells.or_condition {list = list} {others = others} one more) t =
      same_query (sym (flat_append list others)) refl
      (joined_whole or_joins (feature_written source values one (and_left (is_feature source one) _ t) true)
      (features_written source values or_word (codes " or ") refl more (and_right (is_feature source one) _ t)))

  query_written : {i j : ℕ} {list : List Piece} {tokens : List Tok} → (one : SpellsQuery source i j list tokens)
      → is_query source one ≡ true → IsQuery (flat list) tokens
  query_written (spells.prefixed_query {i} {list = list} old media) t =
      let word = prefix_text old.lexeme.terminal in
      let said = bytes_between source i (suc i) in
      let same = between_one source i ∙ (bytes_eq-Decides (bytes_at source i) word).0 (and_left _ _ t) in
      same_query
      (ap (λ (x : List ℕ). x ++ (codes " " ++ flat list)) (sym same)
      ∙ ap (λ (x : List ℕ). said ++ x) (sym (flat_text (codes " ") list))
      ∙ sym (flat_text said (pieces.Text (codes " ") ∷ list))) refl
      (prefixed (prefixes_by old.lexeme.terminal old.kind) said same
      (typed_written source was values media (and_right (bytes_eq (bytes_at source i) word) _ t)))
  query_written (spells.typed_query media) t =
      let it = typed_written source was values media t in
      record { passed = it.passed; are = typed_query it.are; segment = it.segment }
  query_written (spells.condition_query condition) t = whole_written condition t

-- ---- all of them

record AreQueries (text : List ℕ) (tokens : List Tok) : Type 0 where
  passed : List Written
  are : Queries passed
  segment : Segment befores.Other (codes " " ++ text) tokens passed befores.Other Stops

same_queries : {xs ys : List ℕ} {ks ls : List Tok} → xs ≡ ys → ks ≡ ls → AreQueries xs ks → AreQueries ys ls
same_queries {xs} {ys} {ks} {ls} e f it =
    subst (λ (t : List Tok). AreQueries ys t) f (subst (λ (t : List ℕ). AreQueries t ks) e it)

before_queries : {first rest : List ℕ} {ks os : List Tok} → IsQuery first ks → AreQueries rest os
    → AreQueries (first ++ (codes ", " ++ rest)) (ks ++ again.sign terminals.Comma ∷ os)
before_queries one more = record {
  passed = one.passed ++ direct sorts.Comma terminals.Comma ∷ more.passed;
  are = more_queries one.are more.are;
  segment = join one.segment (join comma_segment more.segment (λ after s. tt)) (λ after s. refl);
}

module _ (source : Source) (was : WasRead source) (values : ValuesAreKnown source) where
  queries_from : {i j : ℕ} {text : List ℕ} {list : List Piece} {ks tokens : List Tok} → IsQuery text ks
      → (more : SpellsMoreQueries source i j list tokens) → are_more_queries source more ≡ true
      → AreQueries (text ++ flat list) (ks ++ tokens)
  queries_from {text = text} {ks = ks} one spells.no_more_queries t =
      same_queries (sym (append-nil text) ∙ ap (λ (x : List ℕ). text ++ x) (sym no_pieces)) (sym (append-nil ks))
      (record { passed = one.passed; are = one_query one.are; segment = one.segment })
  queries_from {text = text} one
      (spells.more_queries {others = others} (spells.comma_query {list = list} comma next) more) t =
      same_queries
      (ap (λ (x : List ℕ). text ++ (codes ", " ++ x)) (sym (flat_append list others))
      ∙ ap (λ (x : List ℕ). text ++ x) (sym (flat_text (codes ", ") (list ++ others)))) refl
      (before_queries one
      (queries_from (query_written source was values next (and_left (is_query source next) _ t)) more
      (and_right (is_query source next) _ t)))

  pub media_written : {i j : ℕ} {list : List Piece} {tokens : List Tok} → (all : SpellsQueries source i j list tokens)
      → are_queries source all ≡ true → (span : Span)
      → is_seamless (record { parts = Mixed list; span = span }) ≡ true
      → FrontWritten modes.Media (codes "@media " ++ queries_text (record { parts = Mixed list; span = span }))
      (again.sign terminals.AtMedia ∷ tokens)
  media_written (spells.queries_list {list = list} {others = others} one more) t span seamless before calm =
      let first = query_written source was values one (and_left (is_query source one) _ t) in
      let it = queries_from first more (and_right (is_query source one) _ t) in
      let shown = flat list ++ flat others in
      let same : shown ≡ queries_text (record { parts = Mixed (list ++ others); span = span }) =
      sym (flat_append list others)
      ∙ sym (queries_flat (list ++ others) (record { parts = Mixed (list ++ others); span = span }) refl seamless) in record {
        passed = written sorts.AtMedia (is_spaced before) terminals.AtMedia ∷ it.passed;
        front = querying it.are;
        first = refl;
        end = befores.Other;
        loose = λ u. refl;
        segment = segments.as_behind (λ after e. (text_follows _ after e).stop)
            (segments.as_text (ap (λ (x : List ℕ). codes "@media " ++ x) same)
            (segments.join (sheet ((keyword terminals.AtMedia sorts.AtMedia refl).segment before calm)) (sheet it.segment)
            (λ after s. (shown ++ after, inl refl))));
      }
