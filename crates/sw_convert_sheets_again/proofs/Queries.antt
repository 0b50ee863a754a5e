-- Media queries are read again.
use Rattle.std.specs.Prelude.{codes}
use Rattle.std.proofs.Common.{◌≡◌, ℕ, suc, List, [], ◌∷◌, ◌++◌, inl, inr, refl, sym, ◌∙◌, ap, subst, append_assoc}
use Rattle.sw_parse_grammar.specs.Grammar.{Grammar, skip, seq, alt, many, build, anywhere, Row, done, then}
use Rattle.sw_tree.specs.declared.text.Piece.{Piece}
use Rattle.sw_tree.specs.declared.text.Piece.TheVariants as pieces
use Rattle.sw_parse_terminals.specs.declared.terminal.Terminal.TheVariants as terminals
use Rattle.sw_parse_terminals.specs.Numbers.{just}
use Rattle.sw_parse_table.specs.declared.source.Source.{Source}
use Rattle.sw_parse_table.specs.Parts.{Part, Form}
use Rattle.sw_parse_table.specs.Values.{inserted_piece}
use Rattle.sw_parse_table.specs.Expressions.{word_insert, part_insert}
use Rattle.sw_parse_table.specs.Queries.{said_before, to_token_piece, feature, and_feature, or_feature, not_feature, features, typed_rest, typed_parts, typed_part, typed_name, inserted, typed, inserted_query, prefixed_query, paren_feature, query, comma_query}
use Rattle.sw_convert_again.specs.Tokens.{Tok, sign, Old}
use Rattle.sw_convert_again.specs.Again.{Reads}
use Rattle.sw_convert_again.specs.Queries.{type_prefixes, SpellsInserted, SpellsFeature, inserted_feature, SpellsWorded, worded, SpellsJoined, joined_end, joined_more, SpellsCondition, or_condition, SpellsTypeName, type_word, type_minus, type_insert, SpellsTypePart, type_part, type_inserted, SpellsTypeParts, type_end, type_more, SpellsTypeRest, type_features, type_not, SpellsTyped, typed as spells_typed, SpellsQuery, prefixed_query as spells_prefixed, typed_query, condition_query, SpellsCommaQuery, comma_query as spells_comma, SpellsMoreQueries, no_more_queries, more_queries, SpellsQueries, queries_list}
use Rattle.sw_convert_sheets_again.proofs.Pieces.{AllAgain, Copied, copied_token, CopiedOf, copied_of, both_again, many_again, into_again, none_again, worded_again, said_again, inserted_again, copied_again, copied_of_set_again}
use Rattle.sw_convert_sheets_again.proofs.Features.{inner_conditions, inner_features, feature_again, in_condition, in_feature, paren_feature_again, not_again, ands_again, ors_some, conditions_of}

-- a feature and those behind it, and what stands behind the name of a media type
data FeatureJoined (source : Source) : ℕ → ℕ → List Piece → List Tok → Type 0 where
  feature_joined : {i k j : ℕ} {xs ys : List Piece} {ts us : List Tok} → SpellsFeature source i k xs ts
      → SpellsJoined source terminals.And (codes " and ") k j ys us → FeatureJoined source i j (xs ++ ys) (ts ++ us)

data TypeTail (source : Source) : ℕ → ℕ → List Piece → List Tok → Type 0 where
  type_tail : {i k j : ℕ} {xs ys : List Piece} {ts us : List Tok} → SpellsTypeParts source i k xs ts
      → SpellsTypeRest source k j ys us → TypeTail source i j (xs ++ ys) (ts ++ us)

data SpacedTyped (source : Source) : ℕ → ℕ → List Piece → List Tok → Type 0 where
  spaced_typed : {i j : ℕ} {xs : List Piece} {ts : List Tok} → SpellsTyped source i j xs ts
      → SpacedTyped source i j (pieces.Text (codes " ") ∷ xs) ts

and_features : (source : Source) (i j : ℕ) (xs : List Piece) (ts : List Tok) → Old source i (just terminals.And)
    → FeatureJoined source (suc i) j xs ts
    → SpellsTypeRest source i j (pieces.Text (codes " and ") ∷ xs) (sign terminals.And ∷ ts)
and_features source i j xs ts old (feature_joined f more) = type_features (joined_more (worded old f) more)

minus_insert : (source : Source) (i k j : ℕ) (xs ys : List Piece) (ts us : List Tok)
    → Copied source terminals.WordMinus i k xs ts → SpellsInserted source terminals.WordInsert k j ys us
    → SpellsTypeName source i j (xs ++ ys) (ts ++ us)
minus_insert source i k j xs ys ts us (copied_token old) s = type_minus old s

with_tail : (source : Source) (i k j : ℕ) (xs ys : List Piece) (ts us : List Tok) → SpellsTypeName source i k xs ts
    → TypeTail source k j ys us → SpellsTyped source i j (xs ++ ys) (ts ++ us)
with_tail source i k j xs ys ts us name (type_tail more rest) = spells_typed name more rest

with_prefix : (source : Source) (i k j : ℕ) (xs ys : List Piece) (ts us : List Tok)
    → CopiedOf source type_prefixes i k xs ts → SpacedTyped source k j ys us
    → SpellsQuery source i j (xs ++ ys) (ts ++ us)
with_prefix source i k j xs ys ts us (copied_of old) (spaced_typed s) = spells_prefixed old s

name_word : (source : Source) (i j : ℕ) (xs : List Piece) (ts : List Tok) → Copied source terminals.Word i j xs ts
    → SpellsTypeName source i j xs ts
name_word source i j xs ts (copied_token old) = type_word old

name_part : (source : Source) (i j : ℕ) (xs : List Piece) (ts : List Tok) → Copied source terminals.Part i j xs ts
    → SpellsTypePart source i j xs ts
name_part source i j xs ts (copied_token old) = type_part old

module _ (source written : Source) (n : ℕ) where
  abbrev Was : Grammar Part Form → ℕ → ℕ → List Part → Type 0
  Was g = Reads source n g

  abbrev Is : Grammar Part Form → ℕ → ℕ → List Part → Type 0
  Is g = Reads written n g

  one_feature : AllAgain source written (SpellsFeature source) n feature
  one_feature = feature_again source written n (inner_conditions source written n) (inner_features source written n)

  word_insert_again : AllAgain source written (SpellsInserted source terminals.WordInsert) n inserted
  unfolding inserted word_insert
  word_insert_again = inserted_again source written n terminals.WordInsert (record { here = refl; own = refl })

  part_insert_again : AllAgain source written (SpellsInserted source terminals.PartInsert) n
      (λ s. build (anywhere inserted_piece) (part_insert s))
  unfolding part_insert
  part_insert_again = inserted_again source written n terminals.PartInsert (record { here = refl; own = refl })

  -- ---- media types

  name_again : AllAgain source written (SpellsTypeName source) n typed_name
  unfolding typed_name word_insert
  name_again i j w (inl d) =
      into_again source written n (Copied source terminals.Word) (SpellsTypeName source)
      (build (to_token_piece written) (skip (just terminals.Word))) (typed_name written) (name_word source)
      (λ p q v r. inl r)
      (copied_again source written n terminals.Word (record { here = refl; own = refl }) i j w d)
  name_again i j w (inr d) =
      into_again source written n (SpellsTypeName source) (SpellsTypeName source)
      (seq (build (to_token_piece written) (skip (just terminals.WordMinus)))
      (build (anywhere inserted_piece) (word_insert written))) (typed_name written) (λ x y xs ts s. s)
      (λ p q v r. inr r)
      (both_again source written n (Copied source terminals.WordMinus) (SpellsInserted source terminals.WordInsert)
      (SpellsTypeName source) (λ s. build (to_token_piece s) (skip (just terminals.WordMinus)))
      (λ s. build (anywhere inserted_piece) (word_insert s)) (minus_insert source)
      (copied_again source written n terminals.WordMinus (record { here = refl; own = refl }))
      (inserted_again source written n terminals.WordInsert (record { here = refl; own = refl })) i j w d)

  part_again : AllAgain source written (SpellsTypePart source) n typed_part
  unfolding typed_part typed_parts
  part_again i j w (inl d) =
      into_again source written n (Copied source terminals.Part) (SpellsTypePart source)
      (build (to_token_piece written) (skip (just terminals.Part))) (typed_part written) (name_part source)
      (λ p q v r. inl r)
      (copied_again source written n terminals.Part (record { here = refl; own = refl }) i j w d)
  part_again i j w (inr d) =
      into_again source written n (SpellsInserted source terminals.PartInsert) (SpellsTypePart source)
      (build (anywhere inserted_piece) (part_insert written)) (typed_part written) (λ x y xs ts s. type_inserted s)
      (λ p q v r. inr r) (part_insert_again i j w d)

  parts_again : AllAgain source written (SpellsTypeParts source) n (λ s. many (typed_part s))
  parts_again i j w row =
      many_again source written n (SpellsTypePart source) (SpellsTypeParts source) typed_part (λ x. type_end)
      (λ i k j xs ys ts us a b. type_more a b) part_again row

  -- `and`, and what stands behind it
  abbrev and_then : (Source → Grammar Part Form) → Source → Grammar Part Form
  and_then g s = build (anywhere (said_before (codes " and "))) (seq (skip (just terminals.And)) (g s))

  abbrev feature_ands : Source → Grammar Part Form
  feature_ands s = seq (feature s) (many (and_feature s))

  rest_again : AllAgain source written (SpellsTypeRest source) n typed_rest
  unfolding typed_rest
  rest_again i j w (inl (x, (k, u, v, a, inl d, e1), e2)) =
      into_again source written n (SpellsTypeRest source) (SpellsTypeRest source) (and_then not_feature written)
      (typed_rest written) (λ x y xs ts s. s)
      (λ p q y (x, (k, u, v, a, d, e1), e2). inl (x, (k, u, v, a, inl d, e1), e2))
      (worded_again source written n terminals.And (record { here = refl; own = refl }) (codes " and ")
      (SpellsWorded source terminals.Not (codes "not ")) (SpellsTypeRest source) not_feature
      (λ i j xs ts o s. type_not o s)
      (not_again source written n (inner_conditions source written n) (inner_features source written n)) i j w
      (x, (k, u, v, a, d, e1), e2))
  rest_again i j w (inl (x, (k, u, v, a, inr d, e1), e2)) =
      into_again source written n (SpellsTypeRest source) (SpellsTypeRest source) (and_then feature_ands written)
      (typed_rest written) (λ x y xs ts s. s)
      (λ p q y (x, (k, u, v, a, d, e1), e2). inl (x, (k, u, v, a, inr d, e1), e2))
      (worded_again source written n terminals.And (record { here = refl; own = refl }) (codes " and ")
      (FeatureJoined source) (SpellsTypeRest source) feature_ands (and_features source)
      (both_again source written n (SpellsFeature source) (SpellsJoined source terminals.And (codes " and "))
      (FeatureJoined source) feature (λ s. many (and_feature s))
      (λ i k j xs ys ts us a b. feature_joined a b) one_feature
      (ands_again source written n (inner_conditions source written n) (inner_features source written n))) i j w
      (x, (k, u, v, a, d, e1), e2))
  rest_again i j w (inr (e1, e2)) =
      none_again source written n (SpellsTypeRest source) (typed_rest written) i j w e1 e2 (type_features joined_end)
      (λ p. inr (refl, refl))

  abbrev behind_name : (Source → Grammar Part Form) → Source → Grammar Part Form
  behind_name g s = seq (g s) (seq (many (typed_part s)) (typed_rest s))

  typed_of : (g : Source → Grammar Part Form) → AllAgain source written (SpellsTypeName source) n g
      → AllAgain source written (SpellsTyped source) n (behind_name g)
  typed_of g name =
      both_again source written n (SpellsTypeName source) (TypeTail source) (SpellsTyped source) g
      (λ s. seq (many (typed_part s)) (typed_rest s)) (with_tail source) name
      (both_again source written n (SpellsTypeParts source) (SpellsTypeRest source) (TypeTail source)
      (λ s. many (typed_part s)) typed_rest (λ i k j xs ys ts us a b. type_tail a b) parts_again rest_again)

  insert_name : AllAgain source written (SpellsTypeName source) n inserted
  insert_name i j w d =
      into_again source written n (SpellsInserted source terminals.WordInsert) (SpellsTypeName source)
      (inserted written) (inserted written) (λ x y xs ts s. type_insert s) (λ p q v r. r) (word_insert_again i j w d)

  either_name : AllAgain source written (SpellsTypeName source) n (λ s. alt (typed_name s) (inserted s))
  either_name i j w (inl d) =
      into_again source written n (SpellsTypeName source) (SpellsTypeName source) (typed_name written)
      (alt (typed_name written) (inserted written)) (λ x y xs ts s. s) (λ p q v r. inl r) (name_again i j w d)
  either_name i j w (inr d) =
      into_again source written n (SpellsTypeName source) (SpellsTypeName source) (inserted written)
      (alt (typed_name written) (inserted written)) (λ x y xs ts s. s) (λ p q v r. inr r) (insert_name i j w d)

  typed_again : AllAgain source written (SpellsTyped source) n typed
  unfolding typed
  typed_again = typed_of (λ s. alt (typed_name s) (inserted s)) either_name

  -- ---- queries

  prefixed_again : AllAgain source written (SpellsQuery source) n prefixed_query
  unfolding prefixed_query
  prefixed_again =
      both_again source written n (CopiedOf source type_prefixes) (SpacedTyped source) (SpellsQuery source)
      (λ s. build (to_token_piece s) (skip type_prefixes))
      (λ s. build (anywhere (said_before (codes " "))) (typed s)) (with_prefix source)
      (copied_of_set_again source written n type_prefixes refl)
      (said_again source written n (codes " ") (SpellsTyped source) (SpacedTyped source) typed
      (λ i j xs ts s. spaced_typed s) typed_again)

  -- behind a value in `#{}` may stand parts of a name, or none
  some_parts : (p q : ℕ) (w : List Part) → Is (behind_name inserted written) p q w → Is (inserted_query written) p q w
  unfolding inserted_query
  some_parts p q w (k, u, v, d, (m, a, b, row, rest, e1), e2) = go row rest e1 e2
    where
      go : {m : ℕ} {a : List Part} → Row (Is (typed_part written)) k m a → Is (typed_rest written) m q b → v ≡ a ++ b
          → w ≡ u ++ v → Is (inserted_query written) p q w
      go (done {i}) rest e1 e2 =
          (k, u, v, d, inr (inr (subst (Is (typed_rest written) k q) (sym e1) rest)), e2)
      go (then {i} {k = after} {j} {u = x} {v = y} one more) rest e1 e2 =
          (k, u, v, d, inl (after, x, y ++ b, one, (j, y, b, more, rest, refl), e1 ∙ append_assoc x y b), e2)

  inserted_query_again : AllAgain source written (SpellsQuery source) n inserted_query
  unfolding inserted_query
  inserted_query_again i j w (k, u, v, d, inl (l, x, y, one, (m, a, b, row, rest, e1), e2), e3) =
      into_again source written n (SpellsTyped source) (SpellsQuery source) (behind_name inserted written)
      (inserted_query written) (λ x y xs ts s. typed_query s) some_parts
      (typed_of inserted insert_name i j w
      (k, u, v, d, (m, x ++ a, b, then one row, rest, e2 ∙ ap (λ (z : List Part). x ++ z) e1 ∙ sym (append_assoc x a b)), e3))
  inserted_query_again i j w (k, u, v, d, inr (inl ors), e) =
      into_again source written n (SpellsCondition source) (SpellsQuery source)
      (seq (inserted written) (seq (or_feature written) (many (or_feature written)))) (inserted_query written)
      (λ x y xs ts s. condition_query s) (λ p q x (a, b, c, r1, r2, f). (a, b, c, r1, inr (inl r2), f))
      (both_again source written n (SpellsInserted source terminals.WordInsert)
      (SpellsJoined source terminals.Or (codes " or "))
      (SpellsCondition source) inserted (λ s. seq (or_feature s) (many (or_feature s)))
      (λ i k j xs ys ts us a b. or_condition (inserted_feature a) b) word_insert_again
      (ors_some source written n (inner_conditions source written n) (inner_features source written n)) i j w
      (k, u, v, d, ors, e))
  inserted_query_again i j w (k, u, v, d, inr (inr rest), e) =
      into_again source written n (SpellsTyped source) (SpellsQuery source) (behind_name inserted written)
      (inserted_query written) (λ x y xs ts s. typed_query s) some_parts
      (typed_of inserted insert_name i j w (k, u, v, d, (k, [], v, done, rest, refl), e))

  abbrev paren_condition : Source → Grammar Part Form
  paren_condition s = alt (not_feature s) (seq (paren_feature s) (features s))

  paren_condition_again : AllAgain source written (SpellsCondition source) n paren_condition
  unfolding paren_feature
  paren_condition_again =
      conditions_of source written n (inner_conditions source written n) (inner_features source written n)
      (λ s. alt (in_condition source written n s) (in_feature source written n s))
      (paren_feature_again source written n (inner_conditions source written n) (inner_features source written n))

  query_again : AllAgain source written (SpellsQuery source) n query
  unfolding query
  query_again i j w (inl d) =
      into_again source written n (SpellsQuery source) (SpellsQuery source) (prefixed_query written) (query written)
      (λ x y xs ts s. s) (λ p q v r. inl r) (prefixed_again i j w d)
  query_again i j w (inr (inl d)) =
      into_again source written n (SpellsTyped source) (SpellsQuery source) (behind_name typed_name written)
      (query written) (λ x y xs ts s. typed_query s) (λ p q v r. inr (inl r))
      (typed_of typed_name name_again i j w d)
  query_again i j w (inr (inr (inl d))) =
      into_again source written n (SpellsQuery source) (SpellsQuery source) (inserted_query written) (query written)
      (λ x y xs ts s. s) (λ p q v r. inr (inr (inl r))) (inserted_query_again i j w d)
  query_again i j w (inr (inr (inr d))) =
      into_again source written n (SpellsCondition source) (SpellsQuery source) (paren_condition written)
      (query written) (λ x y xs ts s. condition_query s) (λ p q v r. inr (inr (inr r)))
      (paren_condition_again i j w d)

  comma_again : AllAgain source written (SpellsCommaQuery source) n comma_query
  unfolding comma_query
  comma_again =
      worded_again source written n terminals.Comma (record { here = refl; own = refl }) (codes ", ")
      (SpellsQuery source)
      (SpellsCommaQuery source) query (λ i j xs ts o s. spells_comma o s) query_again

  pub list_again : AllAgain source written (SpellsQueries source) n (λ s. seq (query s) (many (comma_query s)))
  list_again =
      both_again source written n (SpellsQuery source) (SpellsMoreQueries source) (SpellsQueries source) query
      (λ s. many (comma_query s)) (λ i k j xs ys ts us a b. queries_list a b) query_again
      (λ i j w row. many_again source written n (SpellsCommaQuery source) (SpellsMoreQueries source) comma_query
      (λ x. no_more_queries) (λ i k j xs ys ts us a b. more_queries a b) comma_again row)
