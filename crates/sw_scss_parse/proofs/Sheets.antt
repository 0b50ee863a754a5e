-- What the reader of a whole sheet answers is what the definitions say.
use Rattle.std.proofs.Common.{◌≡◌, ℕ, suc, ◌≤◌, true, List, [], ◌∷◌, inl, inr, map, refl, sym, ◌∙◌, ap, subst, arith, length, Option, Result, Ok, Err}
use Rattle.std.proofs.lemmas.Bool.Decides.{nat_tests}
use Rattle.std.proofs.lemmas.Option.{slice_get_cases}
use Rattle.sw_parse_grammar.specs.Grammar.{many, member, Answer, Got, Unexpected, TooDeep, Derives, DerivesAny}
use Rattle.sw_parse_grammar.specs.Readers.{Fails}
use Rattle.sw_parse_grammar.specs.declared.ReadError.{ReadError}
use Rattle.sw_parse_grammar.specs.declared.ReadError.TheVariants as stops
use Rattle.sw_parse_grammar.proofs.Whole.{parse_reads, parse_reads_deep, parse_deep_exactly}
use Rattle.sw_parse_grammar.proofs.Ends.{derives_end}
use Rattle.sw_text.specs.declared.fault.FaultCode.TheVariants.{Syntax, Depth}
use Rattle.sw_text.specs.declared.fault.Fault.{Fault}
use Rattle.sw_text.specs.Places.{Text}
use Rattle.sw_tokens.specs.Listed.{Listed}
use Rattle.sw_tokens.specs.Ends.{tokens_of}
use Rattle.sw_tokens.specs.Faults.{IsFaultBy, TellsFault}
use Rattle.sw_tokens.specs.declared.token.Token.{Token}
use Rattle.sw_tokens.specs.declared.token.Fault10.{Fault10}
use Rattle.sw_tokens.specs.declared.token.Fault10.TheVariants as faults
use Rattle.sw_parse_terminals.specs.declared.lexeme.Lexeme.{Lexeme}
use Rattle.sw_parse_lexemes.specs.Lexemes.{lexemes_of}
use Rattle.sw_parse_terminals.specs.Numbers.{number_of}
use Rattle.sw_parse_terminals.proofs.Terminals.{positive}
use Rattle.sw_tree.specs.declared.sheet.Sheet.{Sheet}
use Rattle.sw_tree.specs.declared.statement.Statement.{Statement}
use Rattle.sw_parse_table.specs.declared.source.Source.{Source}
use Rattle.sw_parse_table.specs.Parts.{Part, States, Whole, statements_of}
use Rattle.sw_parse_table.specs.Sources.{terminal_at, terminal_in, text_of}
use Rattle.sw_parse_table.specs.Expressions.{number, insert, quoted, text_item, url_item, template, hash, constant, url, url_template, special, variable, word_insert, part_insert, word_part, word_start, word, arguments_in, called, owned_variable, owned_call, owned, range, parent, important, parens, brackets, literal, other, primary, prefix, unary, link, product, sum, relation, equality, conjunction, disjunction, space_item, space, list_item, expr, colon_space, pair, pairs_rest, items_rest, inside, items, named_argument, plain_argument, argument, arguing, special_number, special_expr, special_value, special_parens, special_brackets, special_item, special_inside}
use Rattle.sw_parse_table.specs.Queries.{feature, and_feature, or_feature, not_feature, features, condition, typed_rest, typed_parts, typed_part, typed_name, inserted, typed, inserted_query, prefixed_query, paren_feature, query, comma_query, queries, value_piece, comparison, colon_piece, feature_inside}
use Rattle.sw_parse_table.specs.Statements.{finish, block, raw_item, raw, raw_inside, optional_raw, dollar_name, flag, default_flag, colon_expr, set, owner, assigned, block_or_end, property, property_value, declaration, custom_name, custom, rule, supports, at_root, at_name, at, import, extend, charset, comment, given_name, given, giving, with_given, as_name, use_, as_prefix, member_, filter, passed, passing, with_passed, forward, param, taking, params, function, mixin, include_name, using, include, content, return, warn, debug, error, else_if, else_, if_, each, for_, while_, media, plain_statement, load_statement, member_statement, flow_statement, css_statement, statement}
use Rattle.sw_parse_table.specs.Table.{forms, opening, closing}
use Rattle.sw_parse_table.specs.Reads.{reader}
use Rattle.sw_parse_table.proofs.Decided.{fit, forms_nested}
use Rattle.sw_expr_parse.specs.declared.end.ReadEnd.{ReadEnd}
use Rattle.sw_expr_parse.specs.declared.end.ReadEnd.TheVariants as ends
use Rattle.sw_expr_parse.specs.Readings.{fault_at, IsEnd, EndsBy}
use Rattle.sw_scss_parse.specs.Seen.{source_of}
use Rattle.sw_scss_parse.specs.Readings.{answered, source_read, OpensTooMany, ReadsSource, TellsDepth, listed_in, sheet_of_tokens, tokens_read, sheet_of, Returns, end_without_tokens, IsSeen, Saw, SawText, ReadsTokens, IsReading, TellsTextDepth}
use Rattle.sw_scss_parse.proofs.StatesOf.{statements_of_map, sheet_states}
use Rattle.sw_scss_parse.proofs.Alike.{same_read, seen_list}

not_end : (k : ℕ) → 1 ≤ k → member k (0 ∷ []) ≡ true → ⊥
not_end k l e = grind (arith, nat_tests)

States_inj : (a b : List Statement) → map States a ≡ map States b → a ≡ b
States_inj [] [] e = refl
States_inj [] (b ∷ bs) e = absurd (cc)
States_inj (a ∷ xs) [] e = absurd (cc)
States_inj (a ∷ xs) (b ∷ bs) e =
    let t : map States xs ≡ map States bs = cc in
    let h : a ≡ b = cc in
    let r = States_inj xs bs t in cc

module _ (source : Source) where
  -- only the end has the number 0
  at_end : (j : ℕ) → member (terminal_at source j) (0 ∷ []) ≡ true → length source.lexemes.now ≤ j
  unfolding terminal_at
  at_end j e =
      elim (slice_get_cases source.lexemes.now j).1 [
        | inr (l, x) ↦ l
        | inl (x, l, is, x2) ↦ absurd (not_end (number_of x.terminal) (positive x.terminal) (subst (λ (o : Option Lexeme). member (terminal_in o) (0 ∷ []) ≡ true) is e))
      ]

  -- a sheet ends at the end of the text
  sheet_end : (n j : ℕ) (w : List Part) → Derives (forms source) (text_of source) (suc n) Whole 0 j w
      → j ≡ length source.lexemes.now
  unfolding number insert quoted text_item url_item template hash constant url url_template special variable word_insert part_insert word_part word_start word arguments_in called owned_variable owned_call owned range parent important parens brackets literal other primary prefix unary link product sum relation equality conjunction disjunction space_item space list_item expr colon_space pair pairs_rest items_rest inside items named_argument plain_argument argument arguing special_number special_expr special_value special_parens special_brackets special_item special_inside feature and_feature or_feature not_feature features condition typed_rest typed_parts typed_part typed_name inserted typed inserted_query prefixed_query paren_feature query comma_query queries value_piece comparison colon_piece feature_inside finish block raw_item raw raw_inside optional_raw dollar_name flag default_flag colon_expr set owner assigned block_or_end property property_value declaration custom_name custom rule supports at_root at_name at import extend charset comment given_name given giving with_given as_name use_ as_prefix member_ filter passed passing with_passed forward param taking params function mixin include_name using include content return warn debug error else_if else_ if_ each for_ while_ media plain_statement load_statement member_statement flow_statement css_statement statement
  sheet_end n j w (k, u, v, d, (m, e1, e2), e3) =
      let le : k ≤ length source.lexemes.now = derives_end (text_of source) (Derives (forms source) (text_of source) n) (length source.lexemes.now) ((fit source).past) (many (statement source)) refl 0 k u d (omega arith) in
      let ge : length source.lexemes.now ≤ k = at_end k m in
      omega arith

  abbrev whole : Answer Part
  whole = reader source 128 (forms source Whole) 0

  -- a fault of depth comes where the table says so, and nowhere else
  deep : (at : ℕ) → OpensTooMany source at → whole ≡ TooDeep at
  deep at d = (parse_deep_exactly (fit source) opening closing (forms_nested source) 128 Whole 0 whole refl at).1 d

  got_states : (xs : List Statement) (j : ℕ) → whole ≡ Got (map States xs) j
      → ReadsSource source (Ok (record { statements = xs }))
  got_states xs j e =
      let r = parse_reads (fit source) 128 Whole 0 (Got (map States xs) j) e in
      let end = sheet_end 128 j (map States xs) r.0 in (
        (129, subst (λ (z : ℕ). Derives (forms source) (text_of source) 129 Whole 0 z (map States xs)) end r.0),
        (λ others d. States_inj others xs (r.2 (map States others) (subst (λ (z : ℕ). DerivesAny (forms source) (text_of source) Whole 0 z (map States others)) (sym end) d))),
      )

  -- the answer of the reader of a whole sheet, as the grammar says it
  answer_is_read : (a : Answer Part) → whole ≡ a → ReadsSource source (answered source a)
  answer_is_read (Got parts j) e =
      let r = parse_reads (fit source) 128 Whole 0 (Got parts j) e in
      let xs = sheet_states source 128 j parts r.0 in
      let same : statements_of parts ≡ xs.0 = ap statements_of xs.1 ∙ statements_of_map xs.0 in
      subst (λ (x : List Statement). ReadsSource source (Ok (record { statements = x }))) (sym same)
      (got_states xs.0 j (e ∙ ap (λ (x : List Part). Got x j) xs.1))
  answer_is_read (Unexpected at) e =
      let r = parse_reads (fit source) 128 Whole 0 (Unexpected at) e in
      inl (at, ((129, r.0), r.1, (λ xs p d. r.2 (map States xs) (subst (λ (z : ℕ). DerivesAny (forms source) (text_of source) Whole 0 z (map States xs)) (sym p) d))), refl)
  answer_is_read (TooDeep at) e =
      inr (at, parse_reads_deep (fit source) opening closing (forms_nested source) 128 Whole 0 (TooDeep at) e, refl)

  source_is_read : ReadsSource source (source_read source)
  source_is_read = answer_is_read whole refl

  source_is_deep : TellsDepth source (source_read source)
  source_is_deep at d = ap (answered source) (deep at d)

  -- how a call ends
  pub got_returned : (xs : List Statement) (j : ℕ) → whole ≡ Got (map States xs) j
      → source_read source ≡ Ok (record { statements = xs })
  got_returned xs j e =
      ap (answered source) e
      ∙ ap (λ (x : List Statement). let r : Result Sheet Fault = Ok (record { statements = x }) in r)
      (statements_of_map xs)

  fault_returned : (fault : Fault) (end : ReadEnd) → source_read source ≡ Err fault → IsEnd fault end
      → Returns (Err end) (source_read source)
  fault_returned fault (ends.Fault told) e same =
      e ∙ ap (λ (f : Fault). let r : Result Sheet Fault = Err f in r) (sym same)
  fault_returned fault ends.Memory e same = tt

  pub failed_returned : (error : ReadError) (end : ReadEnd) → Fails error whole → EndsBy source error end
      → Returns (Err end) (source_read source)
  failed_returned stops.Memory end fails by =
      subst (λ (e : ReadEnd). Returns (Err e) (source_read source)) (sym by) tt
  failed_returned (stops.Unexpected at) end fails by =
      fault_returned (fault_at source Syntax at) end (ap (answered source) fails) by
  failed_returned (stops.TooDeep at) end fails by =
      fault_returned (fault_at source Depth at) end (ap (answered source) fails) by

  saw : (r : Result Sheet ReadEnd) → IsSeen source.tokens.now → Saw source.tokens.now r
  saw (Ok sheet) e = e
  saw (Err (ends.Fault fault)) e = e
  saw (Err ends.Memory) e = tt

  -- what was returned for the tokens is what they give
  pub list_returned : (r : Result Sheet ReadEnd) → Returns r (source_read source)
      → source.lexemes.now ≡ lexemes_of source.tokens.now.sheet.bytes source.tokens.now.list
      → Returns r (sheet_of_tokens source.tokens.now) × Saw source.tokens.now r
  unfolding sheet_of_tokens
  list_returned r x e = (subst (Returns r) (same_read source e) x, saw r (seen_list source e))

pub list_is_read : (listed : Listed) → ReadsSource (source_of listed) (sheet_of_tokens listed)
unfolding sheet_of_tokens
list_is_read listed = source_is_read (source_of listed)

pub list_is_deep : (listed : Listed) → TellsDepth (source_of listed) (sheet_of_tokens listed)
unfolding sheet_of_tokens
list_is_deep listed = source_is_deep (source_of listed)

tokens_are_read : (sheet : Text) (r : Result (List Token) ℕ) → ReadsTokens sheet r (tokens_read sheet r)
tokens_are_read sheet (Ok tokens) = list_is_read (listed_in sheet tokens)
tokens_are_read sheet (Err k) = refl

pub sheet_is_read : (sheet : Text) → IsReading sheet (sheet_of sheet)
unfolding sheet_of
sheet_is_read sheet = tokens_are_read sheet (tokens_of sheet.bytes)

pub sheet_is_deep : (sheet : Text) → TellsTextDepth sheet (sheet_of sheet)
unfolding sheet_of
sheet_is_deep sheet tokens e at d = ap (tokens_read sheet) e ∙ list_is_deep (listed_in sheet tokens) at d

-- what was returned for the tokens is what the text gives
pub tokens_returned : (sheet : Text) (listed : Listed) (r : Result Sheet ReadEnd) → tokens_of sheet.bytes ≡ Ok listed.list
    → listed.sheet ≡ sheet → Returns r (sheet_of_tokens listed) → Returns r (sheet_of sheet)
unfolding sheet_of
tokens_returned sheet listed r e is x =
    let y : Returns r (sheet_of_tokens (listed_in sheet listed.list)) =
    subst (λ (s : Text). Returns r (sheet_of_tokens (listed_in s listed.list))) is x in
    subst (λ (t : Result (List Token) ℕ). Returns r (tokens_read sheet t)) (sym e) y

pub tokens_saw : (sheet : Text) (listed : Listed) (r : Result Sheet ReadEnd) → tokens_of sheet.bytes ≡ Ok listed.list
    → listed.sheet ≡ sheet → Saw listed r → SawText sheet r
tokens_saw sheet listed r e is x tokens has =
    let y : Saw (listed_in sheet listed.list) r =
    subst (λ (s : Text). Saw (listed_in s listed.list) r) is x in
    let same : listed.list ≡ tokens = cc in
    subst (λ (t : List Token). Saw (listed_in sheet t) r) same y

unclosed : (sheet : Text) (t : Result (List Token) ℕ) (fault : Fault) → IsFaultBy sheet t fault
    → tokens_read sheet t ≡ Err fault
unclosed sheet (Ok tokens) fault x = absurd x
unclosed sheet (Err k) fault x = ap (λ (f : Fault). let r : Result Sheet Fault = Err f in r) (sym x)

pub unclosed_returned : (sheet : Text) (fault : Fault10) → TellsFault sheet (tokens_of sheet.bytes) fault
    → Returns (Err (end_without_tokens fault)) (sheet_of sheet)
unfolding sheet_of
unclosed_returned sheet (faults.Fault fault) x = unclosed sheet (tokens_of sheet.bytes) fault x
unclosed_returned sheet faults.Memory x = tt

pub unclosed_saw : (sheet : Text) (fault : Fault10) → TellsFault sheet (tokens_of sheet.bytes) fault
    → SawText sheet (Err (end_without_tokens fault))
unclosed_saw sheet (faults.Fault fault) x tokens has =
    absurd (subst (λ (t : Result (List Token) ℕ). IsFaultBy sheet t fault) has x)
unclosed_saw sheet faults.Memory x tokens has = tt
