-- Media features, and conditions of them.
use Rattle.std.proofs.Common.{◌≡◌, ℕ, Bool, true, false, not, List, [], ◌∷◌, ◌++◌, refl, sym, ◌∙◌, ap, subst, append_assoc}
use Rattle.std.specs.Prelude.{codes}
use Rattle.sw_text_scan.proofs.Bounds.{and_left, and_right}
use Rattle.sw_tree.specs.declared.text.Piece.{Piece}
use Rattle.sw_tokens.specs.declared.pieces.Before.TheVariants as befores
use Rattle.sw_parse_terminals.specs.declared.terminal.Terminal.{Terminal}
use Rattle.sw_parse_terminals.specs.declared.terminal.Terminal.TheVariants as terminals
use Rattle.sw_parse_terminals.specs.Numbers.{just}
use Rattle.sw_parse_lexemes.specs.declared.sort.Sort.{Sort}
use Rattle.sw_parse_lexemes.specs.declared.sort.Sort.TheVariants as sorts
use Rattle.sw_parse_table.specs.declared.source.Source.{Source}
use Rattle.sw_convert_passing.specs.Written.{Written, written, direct, apart}
use Rattle.sw_convert_passing.specs.Values.{Items, ahead, inserted}
use Rattle.sw_convert_again.specs.Tokens.{Tok}
use Rattle.sw_convert_again.specs.Tokens as again
use Rattle.sw_convert_again.specs.Spells.{within}
use Rattle.sw_convert_again.specs.Queries.{SpellsInserted, SpellsFeature, SpellsWorded, SpellsJoined, SpellsCondition}
use Rattle.sw_convert_again.specs.Queries as spells
use Rattle.sw_convert_tokens.specs.Joints.{Segment}
use Rattle.sw_convert_tokens.specs.Written.{gap_of, stops, AsRow, WrittenAs}
use Rattle.sw_convert_tokens.proofs.Joins.{join, as_text}
use Rattle.sw_convert_tokens.proofs.Signs.{Anything}
use Rattle.sw_convert_heads_passing.specs.Media.{is_insert, opens, Joins, and_joins, or_joins, Feature, insert_feature, condition_feature, inside_feature, Features, no_feature, more_features, Condition, not_condition, joined_condition}
use Rattle.sw_convert_values.proofs.Starts.{is_clear, behind_old}
use Rattle.sw_convert_values.proofs.Stops.{before_old}
use Rattle.sw_convert_statements.specs.Fronts.{ValuesAreKnown}
use Rattle.sw_convert_statements.specs.Media.{opens_feature, in_parens, begins_condition, is_feature, is_worded, are_joined, is_condition}
use Rattle.sw_convert_statements.proofs.Comparisons.{inside_written}
use Rattle.sw_convert_statements.proofs.FeatureStarts.{starts_told}
use Rattle.sw_convert_statements.proofs.InsertTokens.{insert_written}
use Rattle.sw_convert_statements.proofs.MediaPieces.{flat, flat_is, no_pieces, flat_append, flat_text, flat_insert, flat_parens, IsWord, and_word, or_word, direct_not, not_follows, open_paren}
use Rattle.sw_convert_statements.proofs.Params.{close_segment}

-- ---- one feature

-- with a space before it or none, and whether it begins with `(`
pub record IsFeature (paren spaced : Bool) (text : List ℕ) (tokens : List Tok) : Type 0 where
  pub passed : List Written
  pub are : Feature spaced passed
  pub opening : paren ≡ true → (more : List Written) → opens (passed ++ more) ≡ true
  pub segment : Segment befores.Other (gap_of spaced ++ text) tokens passed befores.Other Anything

same_feature : {paren spaced : Bool} {xs ys : List ℕ} {ks : List Tok} → xs ≡ ys → IsFeature paren spaced xs ks
    → IsFeature paren spaced ys ks
same_feature {paren} {spaced} {xs} {ys} {ks} e it = subst (λ (t : List ℕ). IsFeature paren spaced t ks) e it

-- `#{}` as this terminal
pub record IsInserted (terminal : Terminal) (spaced : Bool) (text : List ℕ) (tokens : List Tok) : Type 0 where
  pub inner : List Written
  pub items : Items inner
  pub segment : Segment befores.Other (gap_of spaced ++ text) tokens (inserted spaced terminal inner []) befores.Other
      Anything

pub insert_at : (terminal : Terminal) (spaced : Bool) {value : List ℕ} {tokens : List Tok} → WrittenAs AsRow value tokens
    → IsInserted terminal spaced (codes "#{" ++ (value ++ codes "}"))
    (within (again.sign terminal) tokens terminals.InsertEnd)
insert_at terminal true w =
    let it = insert_written terminal befores.Other true w in
    record { inner = it.inner; items = it.items; segment = it.segment }
insert_at terminal false w =
    let it = insert_written terminal befores.Other false w in
    record { inner = it.inner; items = it.items; segment = it.segment }

pub inserted_written : {source : Source} → ValuesAreKnown source → {terminal : Terminal} {i j : ℕ} {list : List Piece}
    {tokens : List Tok} → is_clear (just terminal) ≡ true → SpellsInserted source terminal i j list tokens → (spaced : Bool)
    → IsInserted terminal spaced (flat list) tokens
inserted_written values {terminal} clear (spells.inserted_value {value = value} {tokens = tokens} old spelt close) spaced =
    subst
    (λ (t : List ℕ). IsInserted terminal spaced t (within (again.sign terminal) tokens terminals.InsertEnd))
    (sym (flat_insert value)) (insert_at terminal spaced (values.rows _ _ _ _ (behind_old old clear) (before_old close refl) spelt))

-- parentheses around tokens
in_parens_written : (terminal : Terminal) (spaced : Bool) {text : List ℕ} {tokens : List Tok} {passed : List Written}
    {P : List ℕ → Type 0} → Segment befores.Other text tokens passed befores.Other P
    → ((after : List ℕ) → P (codes ")" ++ after))
    → Segment befores.Other (gap_of spaced ++ (codes "(" ++ (text ++ codes ")")))
    (within (again.sign terminal) tokens terminals.ParenEnd)
    (written sorts.OpenParen spaced terminal ∷ (passed ++ direct sorts.CloseParen terminals.ParenEnd ∷ [])) befores.Other
    Anything
in_parens_written terminal spaced {text} it fits =
    as_text (append_assoc (gap_of spaced) (codes "(") (text ++ codes ")"))
    (join (open_paren terminal spaced) (join it close_segment (λ after ok. fits after)) (λ after ok. tt))

feature_ahead : {one : List Written} → Feature true one → ahead is_insert 0 one ≡ false
feature_ahead (insert_feature inside) = refl
feature_ahead (condition_feature condition e) = refl
feature_ahead (inside_feature inside e) = refl

-- ---- features with a word before each

pub record AreFeatures (sort : Sort) (terminal : Terminal) (text : List ℕ) (tokens : List Tok) : Type 0 where
  pub passed : List Written
  pub are : Features sort terminal passed
  pub goes : (after : List ℕ) → stops after ≡ true → stops (text ++ after) ≡ true
  pub segment : Segment befores.Other text tokens passed befores.Other Anything

same_features : {sort : Sort} {terminal : Terminal} {xs ys : List ℕ} {ks : List Tok} → xs ≡ ys
    → AreFeatures sort terminal xs ks → AreFeatures sort terminal ys ks
same_features {sort} {terminal} {xs} {ys} {ks} e it = subst (λ (t : List ℕ). AreFeatures sort terminal t ks) e it

none_joined : (sort : Sort) (terminal : Terminal) → AreFeatures sort terminal [] []
none_joined sort terminal = record {
  passed = [];
  are = no_feature;
  goes = λ after e. e;
  segment = record {
    joints = [];
    spelling = refl;
    seen = refl;
    written = refl;
    last = refl;
    tells = tt;
    stand = λ stack after code ok. refl;
  };
}

one_joined : {sort : Sort} {terminal : Terminal} {word : List ℕ} → IsWord sort terminal word → {paren : Bool}
    {first rest : List ℕ} {ks os : List Tok} → IsFeature paren true first ks → AreFeatures sort terminal rest os
    → AreFeatures sort terminal ((codes " " ++ (word ++ codes " ")) ++ (first ++ rest)) (again.sign terminal ∷ (ks ++ os))
one_joined {sort} {terminal} {word} is {first = first} {rest = rest} one more = record {
  passed = apart sort terminal ∷ (one.passed ++ more.passed);
  are = more_features one.are more.are;
  goes = λ after e. refl;
  segment = as_text (ap (λ (t : List ℕ). codes " " ++ t) (sym (append_assoc word (codes " ") (first ++ rest))))
      (join is.segment (join one.segment more.segment (λ after ok. tt)) (λ after ok. ((first ++ rest) ++ after, refl)));
}

-- ---- conditions

-- one in parentheses
record IsCondition (begins : Bool) (text : List ℕ) (tokens : List Tok) : Type 0 where
  passed : List Written
  are : Condition passed
  opening : begins ≡ true → opens passed ≡ true
  segment : Segment befores.Other text tokens passed befores.Other Anything

same_condition : {begins : Bool} {xs ys : List ℕ} {ks : List Tok} → xs ≡ ys → IsCondition begins xs ks
    → IsCondition begins ys ks
same_condition {begins} {xs} {ys} {ks} e it = subst (λ (t : List ℕ). IsCondition begins t ks) e it

not_written : {paren : Bool} {text : List ℕ} {tokens : List Tok} → IsFeature paren true text tokens
    → IsCondition true (codes "not " ++ text) (again.sign terminals.Not ∷ tokens)
not_written {text = text} it = record {
  passed = direct sorts.Not terminals.Not ∷ it.passed;
  are = not_condition it.are;
  opening = λ e. ap not (feature_ahead it.are);
  segment = join direct_not it.segment (λ after ok. not_follows (text ++ after));
}

joined_written : {word : Sort} {terminal : Terminal} → Joins word terminal → {paren : Bool} {first rest : List ℕ}
    {ks os : List Tok} → IsFeature paren false first ks → AreFeatures word terminal rest os
    → IsCondition paren (first ++ rest) (ks ++ os)
joined_written joins one more = record {
  passed = one.passed ++ more.passed;
  are = joined_condition joins one.are more.are;
  opening = λ e. one.opening e more.passed;
  segment = join one.segment more.segment (λ after ok. tt);
}

-- a feature behind a word
pub record IsWorded (terminal : Terminal) (word : List ℕ) (list : List Piece) (tokens : List Tok) : Type 0 where
  pub text : List ℕ
  pub rest : List Tok
  pub text_is : flat list ≡ word ++ text
  pub tokens_are : tokens ≡ again.sign terminal ∷ rest
  pub paren : Bool
  pub feature : IsFeature paren true text rest

module _ (source : Source) (values : ValuesAreKnown source) where
  mutual
    pub feature_written : {i j : ℕ} {list : List Piece} {tokens : List Tok}
        → (one : SpellsFeature source i j list tokens) → is_feature source one ≡ true → (spaced : Bool)
        → IsFeature (in_parens one) spaced (flat list) tokens
    feature_written (spells.inserted_feature one) t spaced =
        let it = inserted_written values refl one spaced in record {
          passed = _;
          are = insert_feature it.items;
          opening = λ e. absurd (cc);
          segment = it.segment;
        }
    feature_written (spells.condition_feature {list = list} opened condition closes) t spaced =
        let begins = begins_condition condition in
        let it = condition_written condition (and_right begins _ t) in
        same_feature (sym (flat_parens list)) (record {
          passed = _;
          are = condition_feature it.are (it.opening (and_left begins _ t));
          opening = λ e more. refl;
          segment = in_parens_written terminals.ConditionParen spaced it.segment (λ after. tt);
        })
    feature_written (spells.inside_feature {list = list} {tokens = tokens} opened inside closes) t spaced =
        let it = inside_written source values (behind_old opened refl) (before_old closes refl) inside (and_right (opens_feature list tokens) _ t) in
        let seg = it.segment in
        same_feature (sym (flat_parens list)) (record {
          passed = _;
          are = inside_feature it.are
              (starts_told seg.joints befores.Other (codes ")") (seg.stand [] (codes ")") refl ([], refl))
              (seg.spelling ∙ flat_is list) seg.seen seg.written (and_left (opens_feature list tokens) _ t) it.starts);
          opening = λ e more. refl;
          segment = in_parens_written terminals.Paren spaced seg (λ after. (after, refl));
        })

    pub worded_written : {word : Terminal} {text : List ℕ} {i j : ℕ} {list : List Piece} {tokens : List Tok}
        → (one : SpellsWorded source word text i j list tokens) → is_worded source one ≡ true
        → IsWorded word text list tokens
    worded_written {text = text} (spells.worded {list = list} {tokens = tokens} old one) t = record {
      text = flat list;
      rest = tokens;
      text_is = flat_text text list;
      tokens_are = refl;
      paren = in_parens one;
      feature = feature_written one t true;
    }

    pub features_written : {sort : Sort} {terminal : Terminal} {word : List ℕ} → IsWord sort terminal word
        → (text : List ℕ) → text ≡ codes " " ++ (word ++ codes " ") → {i j : ℕ} {list : List Piece} {tokens : List Tok}
        → (more : SpellsJoined source terminal text i j list tokens) → are_joined source more ≡ true
        → AreFeatures sort terminal (flat list) tokens
    features_written {sort} {terminal} is text e spells.joined_end t =
        same_features (sym no_pieces) (none_joined sort terminal)
    features_written {sort} {terminal} {word} is text e
        (spells.joined_more {list = list} {others = others} {more = os} one more) t =
        let it = worded_written one (and_left (is_worded source one) _ t) in
        let rest = features_written is text e more (and_right (is_worded source one) _ t) in
        let spaced = codes " " ++ (word ++ codes " ") in
        same_features
        (sym
        (flat_append list others ∙ ap (λ (x : List ℕ). x ++ flat others) it.text_is
        ∙ ap (λ (x : List ℕ). (x ++ it.text) ++ flat others) e ∙ append_assoc spaced it.text (flat others)))
        (subst (λ (l : List Tok). AreFeatures sort terminal (spaced ++ (it.text ++ flat others)) (l ++ os)) (sym it.tokens_are)
        (one_joined is it.feature rest))

    condition_written : {i j : ℕ} {list : List Piece} {tokens : List Tok}
        → (one : SpellsCondition source i j list tokens) → is_condition source one ≡ true
        → IsCondition (begins_condition one) (flat list) tokens
    condition_written (spells.not_condition one) t =
        let it = worded_written one t in
        same_condition (sym it.text_is)
        (subst (λ (l : List Tok). IsCondition true (codes "not " ++ it.text) l) (sym it.tokens_are) (not_written it.feature))
    condition_written (spells.and_condition {list = list} {others = others} one more) t =
        same_condition (sym (flat_append list others))
        (joined_written and_joins (feature_written one (and_left (is_feature source one) _ t) false)
        (features_written and_word (codes " and ") refl more (and_right (is_feature source one) _ t)))
    condition_written (spells.or_condition {list = list} {others = others} one more) t =
        same_condition (sym (flat_append list others))
        (joined_written or_joins (feature_written one (and_left (is_feature source one) _ t) false)
        (features_written or_word (codes " or ") refl more (and_right (is_feature source one) _ t)))
