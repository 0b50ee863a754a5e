-- Which row of a choice is read in parts of statements, by the terminal that stands there, and what is repeated there.
use Rattle.std.proofs.Common.{◌≡◌, ℕ, true, false, List, [], ◌++◌, refl, ◌∙◌}
use Rattle.sw_parse_grammar.specs.Grammar.{Grammar, Got, alt, seq, many, skip, keep, empty, group, first, member}
use Rattle.sw_parse_grammar.specs.Readers.{parse}
use Rattle.sw_parse_terminals.specs.declared.terminal.Terminal.TheVariants as T
use Rattle.sw_parse_terminals.specs.Numbers.{just}
use Rattle.sw_parse_table.specs.declared.source.Source.{Source}
use Rattle.sw_parse_table.specs.Parts.{Part, Form}
use Rattle.sw_parse_table.specs.Sources.{terminal_at}
use Rattle.sw_parse_table.specs.Expressions.{number, insert, quoted, text_item, url_item, template, hash, constant, url, url_template, special, variable, word_insert, part_insert, word_part, word_start, word, arguments_in, called, owned_variable, owned_call, owned, range, parent, important, parens, brackets, literal, other, primary, prefix, unary, link, product, sum, relation, equality, conjunction, disjunction, space_item, space, list_item, expr, colon_space, pair, pairs_rest, items_rest, inside, items, named_argument, plain_argument, argument, arguing, special_number, special_expr, special_value, special_parens, special_brackets, special_item, special_inside}
use Rattle.sw_parse_table.specs.Statements.{raw_item, raw_inside, raw, optional_raw, dollar_name, member_, filter, as_name, as_prefix}
use Rattle.sw_parse_table.specs.Reads.{reader, reads}
use Rattle.sw_parse_table.proofs.Decided.{Repeats}
use Rattle.sw_parse_expr_lists.proofs.Choices.{goes_left, goes_right}
use Rattle.sw_parse_statement_text.specs.Rows.{raw_starts, raw_group, comma_member, passed_row, filter_words}

module _ (source : Source) where
  pub raw_items : Repeats source (raw_item source) raw_starts
  unfolding number insert quoted text_item url_item template hash constant url url_template special variable word_insert part_insert word_part word_start word arguments_in called owned_variable owned_call owned range parent important parens brackets literal other primary prefix unary link product sum relation equality conjunction disjunction space_item space list_item expr colon_space pair pairs_rest items_rest inside items named_argument plain_argument argument arguing special_number special_expr special_value special_parens special_brackets special_item special_inside raw_item raw_inside
  raw_items = record { all = refl; one = refl; some = refl; starts = refl }

  pub members : Repeats source (comma_member source) (just T.Comma)
  unfolding member_ dollar_name
  members = record { all = refl; one = refl; some = refl; starts = refl }

  -- the rows of raw text, from the first on
  abbrev bracketed : Grammar Part Form
  bracketed =
      alt (raw_group T.RawBracket T.RawBracketEnd) (alt (raw_group T.RawBrace T.RawBraceEnd) (insert source))

  abbrev enclosed : Grammar Part Form
  enclosed = alt (raw_group T.RawParen T.RawParenEnd) bracketed

  abbrev texts : Grammar Part Form
  texts = skip (just T.Raw)

  starts_raw : first (raw source) ≡ raw_starts
  unfolding raw raw_item insert
  starts_raw = refl

  starts_passed : first (passed_row source) ≡ filter_words
  unfolding member_ dollar_name
  starts_passed = refl

  module _ (n i : ℕ) where
    empty_read : reader source n empty i ≡ Got [] i
    unfolding parse
    empty_read = refl

    pub item_raw : member (terminal_at source i) (just T.Raw) ≡ true
        → reads source n raw_item i ≡ reader source n texts i
    unfolding raw_item
    item_raw m = goes_left source n texts enclosed (just T.Raw) i refl m

    past_raw : member (terminal_at source i) (just T.Raw) ≡ false
        → reads source n raw_item i ≡ reader source n enclosed i
    unfolding raw_item
    past_raw o = goes_right source n texts enclosed (just T.Raw) i refl o

    past_paren : member (terminal_at source i) (just T.Raw) ≡ false → member (terminal_at source i)
        (just T.RawParen) ≡ false → reads source n raw_item i ≡ reader source n bracketed i
    past_paren o p =
        past_raw o ∙ goes_right source n (raw_group T.RawParen T.RawParenEnd) bracketed (just T.RawParen) i refl p

    past_bracket : member (terminal_at source i) (just T.Raw) ≡ false → member (terminal_at source i)
        (just T.RawParen) ≡ false → member (terminal_at source i) (just T.RawBracket) ≡ false
        → reads source n raw_item i ≡ reader source n (alt (raw_group T.RawBrace T.RawBraceEnd) (insert source)) i
    past_bracket o p q =
        past_paren o p ∙ goes_right source n (raw_group T.RawBracket T.RawBracketEnd) (alt (raw_group T.RawBrace
        T.RawBraceEnd) (insert source)) (just T.RawBracket) i refl q

    pub item_paren : member (terminal_at source i) (just T.Raw) ≡ false → member (terminal_at source i)
        (just T.RawParen) ≡ true → reads source n raw_item i ≡ reader source n (raw_group T.RawParen T.RawParenEnd) i
    item_paren o m =
        past_raw o ∙ goes_left source n (raw_group T.RawParen T.RawParenEnd) bracketed (just T.RawParen) i refl m

    pub item_bracket : member (terminal_at source i) (just T.Raw) ≡ false → member (terminal_at source i)
        (just T.RawParen) ≡ false → member (terminal_at source i) (just T.RawBracket) ≡ true
        → reads source n raw_item i ≡ reader source n (raw_group T.RawBracket T.RawBracketEnd) i
    item_bracket o p m =
        past_paren o p ∙ goes_left source n (raw_group T.RawBracket T.RawBracketEnd) (alt (raw_group T.RawBrace
        T.RawBraceEnd) (insert source)) (just T.RawBracket) i refl m

    pub item_brace : member (terminal_at source i) (just T.Raw) ≡ false → member (terminal_at source i)
        (just T.RawParen) ≡ false → member (terminal_at source i) (just T.RawBracket) ≡ false → member
        (terminal_at source i) (just T.RawBrace) ≡ true
        → reads source n raw_item i ≡ reader source n (raw_group T.RawBrace T.RawBraceEnd) i
    item_brace o p q m =
        past_bracket o p q ∙ goes_left source n (raw_group T.RawBrace T.RawBraceEnd) (insert source) (just T.RawBrace) i
        refl m

    pub item_insert : member (terminal_at source i) (just T.Raw) ≡ false → member (terminal_at source i)
        (just T.RawParen) ≡ false → member (terminal_at source i) (just T.RawBracket) ≡ false → member
        (terminal_at source i) (just T.RawBrace) ≡ false → reads source n raw_item i ≡ reads source n insert i
    item_insert o p q r =
        past_bracket o p q ∙ goes_right source n (raw_group T.RawBrace T.RawBraceEnd) (insert source) (just T.RawBrace) i
        refl r

    -- where raw text may stand
    pub no_raw : member (terminal_at source i) raw_starts ≡ false → reads source n optional_raw i ≡ Got [] i
    unfolding optional_raw
    no_raw o = goes_right source n (raw source) empty raw_starts i starts_raw o ∙ empty_read

    pub some_raw : member (terminal_at source i) raw_starts ≡ true → reads source n optional_raw i ≡ reads source n raw i
    unfolding optional_raw
    some_raw m = goes_left source n (raw source) empty raw_starts i starts_raw m

    -- where names behind `show` or `hide` may stand
    pub no_filter : member (terminal_at source i) filter_words ≡ false → reads source n filter i ≡ Got [] i
    unfolding filter
    no_filter o = goes_right source n (passed_row source) empty filter_words i starts_passed o ∙ empty_read

    pub some_filter : member (terminal_at source i) filter_words ≡ true
        → reads source n filter i ≡ reader source n (passed_row source) i
    unfolding filter
    some_filter m = goes_left source n (passed_row source) empty filter_words i starts_passed m
