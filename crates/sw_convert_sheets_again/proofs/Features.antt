-- The features and the conditions of media queries are read again, through any number of parentheses in each other.
use Rattle.std.specs.Prelude.{codes}
use Rattle.std.proofs.Common.{ℕ, zero, suc, List, [], ◌∷◌, ◌++◌, map, inl, inr, refl, sym, ◌∙◌, ap, subst}
use Rattle.sw_parse_grammar.specs.Grammar.{Grammar, empty, skip, seq, alt, many, group, build, anywhere}
use Rattle.sw_tree.specs.declared.text.Piece.TheVariants as pieces
use Rattle.sw_parse_terminals.specs.declared.terminal.Terminal.{Terminal}
use Rattle.sw_parse_terminals.specs.declared.terminal.Terminal.TheVariants as terminals
use Rattle.sw_parse_terminals.specs.Numbers.{just}
use Rattle.sw_parse_table.specs.declared.source.Source.{Source}
use Rattle.sw_parse_table.specs.Parts.{Part, Form, Pieces, Condition, Feature}
use Rattle.sw_parse_table.specs.Sources.{bytes_at}
use Rattle.sw_parse_table.specs.Values.{inserted_piece}
use Rattle.sw_parse_table.specs.Expressions.{word_insert, sum, expr}
use Rattle.sw_parse_table.specs.Queries.{said_before, in_parens, to_value_piece, to_comparison, feature, and_feature, or_feature, not_feature, features, condition, value_piece, comparison, colon_piece, feature_inside}
use Rattle.sw_convert_alike.specs.Expressions as alike
use Rattle.sw_convert_again.specs.Tokens.{Bytes, tok}
use Rattle.sw_convert_again.specs.Again.{Again}
use Rattle.sw_convert_again.specs.Queries.{comparisons, SpellsInserted, SpellsValue, side, SpellsComparison, compared, SpellsComparisons, compared_end, compared_last, compared_more, SpellsSides, given_side, compared_sides, SpellsFeatureInside, inside_parens, SpellsFeature, inserted_feature, condition_feature, inside_feature, SpellsWorded, worded, SpellsJoined, joined_end, joined_more, SpellsCondition, not_condition, and_condition, or_condition}
use Rattle.sw_convert_again.proofs.Tokens.{one_byte, old_of, of_set}
use Rattle.sw_convert_again.proofs.Rows.{Plainly, inserting}
use Rattle.sw_convert_again.proofs.Values.{values_again, sums_again}
use Rattle.sw_convert_sheets_again.proofs.Pieces.{like_text, AllAgain, InnerAgain, both_again, many_again, into_again, none_again, worded_again, parens_again, inserted_again}

module _ (source written : Source) (n : ℕ) where
  -- ---- what stands in the parentheses of a feature

  value_again : (g : Source → Grammar Part Form) → Again source written n g
      → AllAgain source written (SpellsValue source) n (λ s. build (anywhere to_value_piece) (g s))
  value_again g values i j w (u, d, e) =
      let one = values i j u d in record {
        list = pieces.Value one.value ∷ [];
        is = e ∙ ap to_value_piece one.is;
        tokens = one.tokens;
        spells = side one.spells;
        back = λ p q stand. let f = one.back p q stand in
            (pieces.Value f.found ∷ [], (_, f.reads, refl), alike.value f.alike alike.no_pieces);
      }

  side_again : AllAgain source written (SpellsValue source) n value_piece
  unfolding value_piece
  side_again = value_again sum (sums_again source written n)

  comparison_again : AllAgain source written (SpellsComparison source) n comparison
  unfolding comparison
  comparison_again i j w (u, (k, u1, u2, (m, e1, e2), d, e3), e4) =
      let one = side_again k j u2 d in
      let old = old_of source i comparisons refl m in
      let token = tok old.lexeme.terminal (Bytes 1 (bytes_at source i)) in record {
        list = pieces.Text (codes " " ++ (bytes_at source i ++ codes " ")) ∷ one.list;
        is = e4 ∙ ap (λ (x : List Part). to_comparison source i j x)
            (e3 ∙ ap (λ (x : List Part). x ++ u2) e2 ∙ one.is);
        tokens = token ∷ one.tokens;
        spells = compared old (subst (λ (x : ℕ). SpellsValue source x j one.list one.tokens) e1 one.spells);
        back = λ p q stand. let (f, reads, like) = one.back (suc p) q stand.1 in (
          pieces.Text (codes " " ++ (bytes_at written p ++ codes " ")) ∷ f,
          (
            map Pieces f,
            (suc p, [], map Pieces f, (of_set source written i p comparisons old token stand.0 refl, refl, refl), reads, refl),
            refl,
          ),
          like_text (codes " " ++ (bytes_at source i ++ codes " ")) (codes " " ++ (bytes_at written p ++ codes " "))
              one.list f
              (ap (λ (x : List ℕ). codes " " ++ (x ++ codes " ")) (sym stand.0.said ∙ one_byte written p)) like,
        );
      }

  -- one comparison more, or none
  maybe_compared : AllAgain source written (SpellsComparisons source) n (λ s. alt (comparison s) empty)
  maybe_compared i j w (inl d) =
      into_again source written n (SpellsComparison source) (SpellsComparisons source) (comparison written)
      (alt (comparison written) empty) (λ x y xs ts c. compared_last c) (λ p q v r. inl r) (comparison_again i j w d)
  maybe_compared i j w (inr (e1, e2)) =
      none_again source written n (SpellsComparisons source) (alt (comparison written) empty) i j w e1 e2 compared_end
      (λ p. inr (refl, refl))

  abbrev compared_twice : Source → Grammar Part Form
  compared_twice s = seq (comparison s) (alt (comparison s) empty)

  abbrev sides : Source → Grammar Part Form
  sides s = alt (colon_piece s) (alt (compared_twice s) empty)

  sides_again : AllAgain source written (SpellsSides source) n sides
  unfolding colon_piece
  sides_again i j w (inl d) =
      into_again source written n (SpellsSides source) (SpellsSides source) (colon_piece written) (sides written)
      (λ x y xs ts s. s) (λ p q v r. inl r)
      (worded_again source written n terminals.Colon (record { here = refl; own = refl }) (codes ": ")
      (SpellsValue source) (SpellsSides source) (λ s. build (anywhere to_value_piece) (expr s))
      (λ i j xs ts o v. given_side o v) (value_again expr (values_again source written n)) i j w d)
  sides_again i j w (inr (inl d)) =
      into_again source written n (SpellsComparisons source) (SpellsSides source) (compared_twice written)
      (sides written) (λ x y xs ts s. compared_sides s) (λ p q v r. inr (inl r))
      (both_again source written n (SpellsComparison source) (SpellsComparisons source) (SpellsComparisons source)
      comparison (λ s. alt (comparison s) empty) (λ i k j xs ys ts us a b. compared_more a b)
      comparison_again maybe_compared i j w d)
  sides_again i j w (inr (inr (e1, e2))) =
      none_again source written n (SpellsSides source) (sides written) i j w e1 e2 (compared_sides compared_end)
      (λ p. inr (inr (refl, refl)))

  inside_again : AllAgain source written (SpellsFeatureInside source) n feature_inside
  unfolding feature_inside
  inside_again =
      both_again source written n (SpellsValue source) (SpellsSides source) (SpellsFeatureInside source) value_piece
      sides (λ i k j xs ys ts us a b. inside_parens a b) side_again sides_again

  -- ---- features

  abbrev pub in_condition : Source → Grammar Part Form
  in_condition s =
      build (anywhere in_parens) (group (just terminals.ConditionParen) Condition (just terminals.ParenEnd))

  abbrev pub in_feature : Source → Grammar Part Form
  in_feature s = build (anywhere in_parens) (group (just terminals.Paren) Feature (just terminals.ParenEnd))

  module _ (conditions : InnerAgain source written (SpellsCondition source) n Condition)
      (insides : InnerAgain source written (SpellsFeatureInside source) n Feature) where
    in_condition_again : AllAgain source written (SpellsFeature source) n in_condition
    in_condition_again =
        parens_again source written n terminals.ConditionParen (record { here = refl; own = refl })
        (SpellsCondition source)
        (SpellsFeature source) Condition (λ i c xs ts o s z. condition_feature o s z) conditions

    in_feature_again : AllAgain source written (SpellsFeature source) n in_feature
    in_feature_again =
        parens_again source written n terminals.Paren (record { here = refl; own = refl }) (SpellsFeatureInside source)
        (SpellsFeature source) Feature (λ i c xs ts o s z. inside_feature o s z) insides

    pub feature_again : AllAgain source written (SpellsFeature source) n feature
    unfolding feature word_insert
    feature_again i j w (inl d) =
        into_again source written n (SpellsInserted source terminals.WordInsert) (SpellsFeature source)
        (build (anywhere inserted_piece) (inserting written terminals.WordInsert)) (feature written)
        (λ x y xs ts s. inserted_feature s) (λ p q v r. inl r)
        (inserted_again source written n terminals.WordInsert (record { here = refl; own = refl }) i j w d)
    feature_again i j w (inr (inl d)) =
        into_again source written n (SpellsFeature source) (SpellsFeature source) (in_condition written)
        (feature written) (λ x y xs ts s. s) (λ p q v r. inr (inl r)) (in_condition_again i j w d)
    feature_again i j w (inr (inr d)) =
        into_again source written n (SpellsFeature source) (SpellsFeature source) (in_feature written)
        (feature written) (λ x y xs ts s. s) (λ p q v r. inr (inr r)) (in_feature_again i j w d)

    -- in a query, where one in `#{}` is told by itself
    pub paren_feature_again : AllAgain source written (SpellsFeature source) n (λ s. alt (in_condition s) (in_feature s))
    paren_feature_again i j w (inl d) =
        into_again source written n (SpellsFeature source) (SpellsFeature source) (in_condition written)
        (alt (in_condition written) (in_feature written)) (λ x y xs ts s. s) (λ p q v r. inl r)
        (in_condition_again i j w d)
    paren_feature_again i j w (inr d) =
        into_again source written n (SpellsFeature source) (SpellsFeature source) (in_feature written)
        (alt (in_condition written) (in_feature written)) (λ x y xs ts s. s) (λ p q v r. inr r)
        (in_feature_again i j w d)

    -- ---- features with a word before each

    abbrev after_word : Terminal → List ℕ → Source → Grammar Part Form
    after_word word text s = build (anywhere (said_before text)) (seq (skip (just word)) (feature s))

    after_word_again : (word : Terminal) → Plainly word → (text : List ℕ)
        → AllAgain source written (SpellsWorded source word text) n (after_word word text)
    after_word_again word plainly text =
        worded_again source written n word plainly text (SpellsFeature source) (SpellsWorded source word text) feature
        (λ i j xs ts o s. worded o s) feature_again

    joined_again : (word : Terminal) → Plainly word → (text : List ℕ)
        → AllAgain source written (SpellsJoined source word text) n (λ s. many (after_word word text s))
    joined_again word plainly text i j w row =
        many_again source written n (SpellsWorded source word text) (SpellsJoined source word text)
        (after_word word text) (λ x. joined_end) (λ i k j xs ys ts us a b. joined_more a b)
        (after_word_again word plainly text) row

    joined_some : (word : Terminal) → Plainly word → (text : List ℕ)
        → AllAgain source written (SpellsJoined source word text) n
        (λ s. seq (after_word word text s) (many (after_word word text s)))
    joined_some word plainly text =
        both_again source written n (SpellsWorded source word text) (SpellsJoined source word text)
        (SpellsJoined source word text) (after_word word text) (λ s. many (after_word word text s))
        (λ i k j xs ys ts us a b. joined_more a b) (after_word_again word plainly text)
        (joined_again word plainly text)

    and_plainly : Plainly terminals.And
    and_plainly = record { here = refl; own = refl }

    or_plainly : Plainly terminals.Or
    or_plainly = record { here = refl; own = refl }

    pub not_again : AllAgain source written (SpellsWorded source terminals.Not (codes "not ")) n not_feature
    unfolding not_feature
    not_again = after_word_again terminals.Not (record { here = refl; own = refl }) (codes "not ")

    pub ands_again : AllAgain source written (SpellsJoined source terminals.And (codes " and ")) n (λ s. many (and_feature s))
    unfolding and_feature
    ands_again = joined_again terminals.And and_plainly (codes " and ")

    pub ands_some : AllAgain source written (SpellsJoined source terminals.And (codes " and ")) n
        (λ s. seq (and_feature s) (many (and_feature s)))
    unfolding and_feature
    ands_some = joined_some terminals.And and_plainly (codes " and ")

    pub ors_some : AllAgain source written (SpellsJoined source terminals.Or (codes " or ")) n
        (λ s. seq (or_feature s) (many (or_feature s)))
    unfolding or_feature
    ors_some = joined_some terminals.Or or_plainly (codes " or ")

    -- `not` and a feature, or features that begin with one that a production derives
    pub conditions_of : (g : Source → Grammar Part Form) → AllAgain source written (SpellsFeature source) n g
        → AllAgain source written (SpellsCondition source) n (λ s. alt (not_feature s) (seq (g s) (features s)))
    unfolding features
    conditions_of g first i j w (inl d) =
        into_again source written n (SpellsWorded source terminals.Not (codes "not ")) (SpellsCondition source)
        (not_feature written) (alt (not_feature written) (seq (g written) (features written)))
        (λ x y xs ts s. not_condition s) (λ p q v r. inl r) (not_again i j w d)
    conditions_of g first i j w (inr (k, u, v, d, inl more, e)) =
        into_again source written n (SpellsCondition source) (SpellsCondition source)
        (seq (g written) (seq (and_feature written) (many (and_feature written))))
        (alt (not_feature written) (seq (g written) (features written))) (λ x y xs ts s. s)
        (λ p q x (a, b, c, r1, r2, f). inr (a, b, c, r1, inl r2, f))
        (both_again source written n (SpellsFeature source) (SpellsJoined source terminals.And (codes " and "))
        (SpellsCondition source) g (λ s. seq (and_feature s) (many (and_feature s)))
        (λ i k j xs ys ts us a b. and_condition a b) first ands_some i j w (k, u, v, d, more, e))
    conditions_of g first i j w (inr (k, u, v, d, inr (inl more), e)) =
        into_again source written n (SpellsCondition source) (SpellsCondition source)
        (seq (g written) (seq (or_feature written) (many (or_feature written))))
        (alt (not_feature written) (seq (g written) (features written))) (λ x y xs ts s. s)
        (λ p q x (a, b, c, r1, r2, f). inr (a, b, c, r1, inr (inl r2), f))
        (both_again source written n (SpellsFeature source) (SpellsJoined source terminals.Or (codes " or "))
        (SpellsCondition source) g (λ s. seq (or_feature s) (many (or_feature s)))
        (λ i k j xs ys ts us a b. or_condition a b) first ors_some i j w (k, u, v, d, more, e))
    conditions_of g first i j w (inr (k, u, v, d, inr (inr more), e)) =
        into_again source written n (SpellsCondition source) (SpellsCondition source) (seq (g written) empty)
        (alt (not_feature written) (seq (g written) (features written))) (λ x y xs ts s. s)
        (λ p q x (a, b, c, r1, r2, f). inr (a, b, c, r1, inr (inr r2), f))
        (both_again source written n (SpellsFeature source) (SpellsJoined source terminals.And (codes " and "))
        (SpellsCondition source) g (λ s. empty)
        (λ i k j xs ys ts us a b. and_condition a b) first
        (λ i j w (e1, e2). none_again source written n (SpellsJoined source terminals.And (codes " and ")) empty i j w e1 e2
        joined_end (λ p. (refl, refl))) i j w (k, u, v, d, more, e))

    condition_again : AllAgain source written (SpellsCondition source) n condition
    unfolding condition
    condition_again = conditions_of feature feature_again

-- through any number of parentheses
module _ (source written : Source) where
  conditions_again : (n : ℕ) → AllAgain source written (SpellsCondition source) n condition
  conditions_again zero = condition_again source written zero (λ i j w d. absurd d) (λ i j w d. absurd d)
  conditions_again (suc n) =
      condition_again source written (suc n) (conditions_again n) (inside_again source written n)

  pub inner_conditions : (n : ℕ) → InnerAgain source written (SpellsCondition source) n Condition
  inner_conditions zero i j w d = absurd d
  inner_conditions (suc n) i j w d = conditions_again n i j w d

  pub inner_features : (n : ℕ) → InnerAgain source written (SpellsFeatureInside source) n Feature
  inner_features zero i j w d = absurd d
  inner_features (suc n) i j w d = inside_again source written n i j w d
