-- The reader answers what the whole text derives.
use Rattle.std.proofs.Common.{◌≡◌, ℕ, zero, suc, ◌≤◌, true, List, length, refl, sym, ◌∙◌, ap, subst, arith}
use Rattle.sw_parse_grammar.specs.Grammar.{Grammar, Text, Answer, Got, Unexpected, TooDeep, decided, Derives, Begins, Reads}
use Rattle.sw_parse_grammar.specs.Readers.{parse}
use Rattle.sw_parse_grammar.proofs.Laws.{derives_begins}
use Rattle.sw_parse_grammar.proofs.Whole.{parse_reads}
use Rattle.sw_parse_table.specs.declared.source.Source.{Source}
use Rattle.sw_parse_table.specs.Parts.{Part, Form, Whole, Block, Value, Inside, Items, Arguing, RawInside, SpecialInside, SpecialItems, Taking, Condition, Feature, Giving, Passing, SpaceList, Sum}
use Rattle.sw_parse_table.specs.Sources.{text_of}
use Rattle.sw_parse_table.specs.Table.{forms}
use Rattle.sw_parse_table.specs.Reads.{reader}
use Rattle.sw_parse_table.proofs.Decided.{fit}
use Rattle.sw_parse_table.specs.Expressions.{number, insert, quoted, text_item, url_item, template, hash, constant, url, url_template, special, variable, word_insert, part_insert, word_part, word_start, word, arguments_in, called, owned_variable, owned_call, owned, range, parent, important, parens, brackets, literal, other, primary, prefix, unary, link, product, sum, relation, equality, conjunction, disjunction, space_item, space, list_item, expr, colon_space, pair, pairs_rest, items_rest, inside, items, named_argument, plain_argument, argument, arguing, special_number, special_expr, special_value, special_parens, special_brackets, special_item, special_inside}
use Rattle.sw_parse_table.specs.Queries.{feature, and_feature, or_feature, not_feature, features, condition, typed_rest, typed_parts, typed_part, typed_name, inserted, typed, inserted_query, prefixed_query, paren_feature, query, comma_query, queries, value_piece, comparison, colon_piece, feature_inside}
use Rattle.sw_parse_table.specs.Statements.{finish, block, raw_item, raw, raw_inside, optional_raw, dollar_name, flag, default_flag, colon_expr, set, owner, assigned, block_or_end, property, property_value, declaration, custom_name, custom, rule, supports, at_root, at_name, at, import, extend, charset, comment, given_name, given, giving, with_given, as_name, use_, as_prefix, member_, filter, passed, passing, with_passed, forward, param, taking, params, function, mixin, include_name, using, include, content, return, warn, debug, error, else_if, else_, if_, each, for_, while_, media, plain_statement, load_statement, member_statement, flow_statement, css_statement, statement}
use Rattle.sw_convert_again.specs.Closed.{closed}
use Rattle.sw_convert_again.proofs.Ends.{derives_in, begins_end}

module _ {V F : Type 0} (rules : F → Grammar V F) (t : Text V) (end : ℕ)
    (ok : (f : F) → decided rules (rules f) ≡ true) (shut : (f : F) → closed (rules f) ≡ true)
    (past : (i : ℕ) → end ≤ i → t.kind i ≡ 0) where
  begun : (n : ℕ) (f : F) (i j : ℕ) (w : List V) → Derives rules t n f i j w → Begins rules t n f i j
  begun zero f i j w d = absurd d
  begun (suc n) f i j w d = derives_begins t (Derives rules t n) (Begins rules t n) (begun n) (rules f) i j w d

  told : (n : ℕ) (f : F) (i : ℕ) (w : List V) → i ≤ end → Derives rules t (suc n) f i end w → (a : Answer V)
      → Reads rules t n f i a → a ≡ Got w end
  told n f i w l d (Got v j) r =
      let far : end ≤ j = r.1 end (suc n, begun (suc n) f i end w d) in
      let near : j ≤ end = derives_in t end past (Derives rules t n) (rules f) (shut f) i j v r.0 l in
      let same : end ≡ j = omega (arith, far, near) in
      let one : w ≡ v = r.2 w (suc n, subst (λ (k : ℕ). Derives rules t (suc n) f i k w) same d) in
      ap (λ (k : ℕ). Got v k) (sym same) ∙ ap (λ (u : List V). Got u end) (sym one)
  told n f i w l d (Unexpected k) r =
      let far : end ≤ k = r.1 end (suc n, begun (suc n) f i end w d) in
      let near : k ≤ end = begins_end t end past rules shut (suc n) f i k r.0 l in
      let same : end ≡ k = omega (arith, far, near) in
      absurd (r.2 w (suc n, subst (λ (j : ℕ). Derives rules t (suc n) f i j w) same d))
  told n f i w l d (TooDeep k) r =
      let far : end ≤ k = r.2 end (begun (suc n) f i end w d) in
      let near : suc k ≤ end = begins_end t end past rules shut (suc (suc n)) f i (suc k) r.0 l in
      absurd (omega (arith, far, near))

  pub read_whole : (n : ℕ) (f : F) (i : ℕ) (w : List V) → i ≤ end → Derives rules t (suc n) f i end w
      → parse rules t end n (rules f) i ≡ Got w end
  read_whole n f i w l d =
      told n f i w l d (parse rules t end n (rules f) i)
      (parse_reads (record { ok = ok; past = past }) n f i (parse rules t end n (rules f) i) refl)

module _ (source : Source) where
  shut : (form : Form) → closed (forms source form) ≡ true
  unfolding number insert quoted text_item url_item template hash constant url url_template special variable
      word_insert part_insert word_part word_start word arguments_in called owned_variable owned_call owned range
      parent important parens brackets literal other primary prefix unary link product sum relation equality
      conjunction disjunction space_item space list_item expr colon_space pair pairs_rest items_rest inside
      items named_argument plain_argument argument arguing special_number special_expr special_value
      special_parens special_brackets special_item special_inside feature and_feature or_feature
      not_feature features condition typed_rest typed_parts typed_part typed_name inserted typed
      inserted_query prefixed_query paren_feature query comma_query queries value_piece
      comparison colon_piece feature_inside finish block raw_item raw raw_inside
      optional_raw dollar_name flag default_flag colon_expr set owner assigned
      block_or_end property property_value declaration custom_name custom rule
      supports at_root at_name at import extend charset comment given_name
      given giving with_given as_name use_ as_prefix member_ filter
      passed passing with_passed forward param taking params function
      mixin include_name using include content return warn debug
      error else_if else_ if_ each for_ while_ media
      plain_statement load_statement member_statement
      flow_statement css_statement statement
  shut Whole = refl
  shut Block = refl
  shut Value = refl
  shut Inside = refl
  shut Items = refl
  shut Arguing = refl
  shut RawInside = refl
  shut SpecialInside = refl
  shut SpecialItems = refl
  shut Taking = refl
  shut Condition = refl
  shut Feature = refl
  shut Giving = refl
  shut Passing = refl
  shut SpaceList = refl
  shut Sum = refl

pub sheets : (source : Source) (levels : ℕ) (parts : List Part)
    → Derives (forms source) (text_of source) (suc levels) Whole 0 (length source.lexemes.now) parts
    → reader source levels (forms source Whole) 0 ≡ Got parts (length source.lexemes.now)
sheets source levels parts d =
    read_whole (forms source) (text_of source) (length source.lexemes.now) (fit source).ok (shut source)
    (fit source).past levels Whole 0 parts (omega arith) d
