-- Which row of a choice is read in parameters and includes, by the terminal that stands there.
use Rattle.std.proofs.Common.{◌≡◌, ℕ, true, false, [], refl, ◌∙◌}
use Rattle.sw_parse_grammar.specs.Grammar.{Got, empty, first, member}
use Rattle.sw_parse_grammar.specs.Readers.{parse}
use Rattle.sw_parse_terminals.specs.declared.terminal.Terminal.TheVariants as T
use Rattle.sw_parse_terminals.specs.Numbers.{just}
use Rattle.sw_parse_table.specs.declared.source.Source.{Source}
use Rattle.sw_parse_table.specs.Sources.{terminal_at}
use Rattle.sw_parse_table.specs.Sets.{dollars}
use Rattle.sw_parse_table.specs.Expressions.{number, insert, quoted, text_item, url_item, template, hash, constant, url, url_template, special, variable, word_insert, part_insert, word_part, word_start, word, arguments_in, called, owned_variable, owned_call, owned, range, parent, important, parens, brackets, literal, other, primary, prefix, unary, link, product, sum, relation, equality, conjunction, disjunction, space_item, space, list_item, expr, colon_space, pair, pairs_rest, items_rest, inside, items, named_argument, plain_argument, argument, arguing, special_number, special_expr, special_value, special_parens, special_brackets, special_item, special_inside}
use Rattle.sw_parse_table.specs.Statements.{dollar_name, param, params, using}
use Rattle.sw_parse_table.specs.Reads.{reader, reads}
use Rattle.sw_parse_table.proofs.Decided.{Separated}
use Rattle.sw_parse_expr_lists.proofs.Choices.{goes_left, goes_right}
use Rattle.sw_parse_statement_heads.specs.CallableHeads.{optional_arguments, optional_params}
use Rattle.sw_parse_statement_heads.specs.CallableRows.{dots_row, behind_name, several_row, listed_row, using_row}

module _ (source : Source) where
  pub more_params : Separated source (just T.Comma) (param source) dollars
  unfolding number insert quoted text_item url_item template hash constant url url_template special variable word_insert part_insert word_part word_start word arguments_in called owned_variable owned_call owned range parent important parens brackets literal other primary prefix unary link product sum relation equality conjunction disjunction space_item space list_item expr colon_space pair pairs_rest items_rest inside items named_argument plain_argument argument arguing special_number special_expr special_value special_parens special_brackets special_item special_inside dollar_name param
  more_params = record { all = refl; starts = refl }

  starts_arguments : first (arguments_in source) ≡ just T.CallParen
  unfolding arguments_in
  starts_arguments = refl

  starts_colon : first (colon_space source) ≡ just T.Colon
  unfolding colon_space
  starts_colon = refl

  starts_params : first (params source) ≡ just T.HeadParen
  unfolding params
  starts_params = refl

  starts_several : first (several_row source) ≡ dollars
  unfolding param dollar_name
  starts_several = refl

  module _ (n i : ℕ) where
    empty_read : reader source n empty i ≡ Got [] i
    unfolding parse
    empty_read = refl

    -- where arguments may stand
    pub no_arguments : member (terminal_at source i) (just T.CallParen) ≡ false
        → reader source n (optional_arguments source) i ≡ Got [] i
    no_arguments o =
        goes_right source n (arguments_in source) empty (just T.CallParen) i starts_arguments o ∙ empty_read

    pub some_arguments : member (terminal_at source i) (just T.CallParen) ≡ true
        → reader source n (optional_arguments source) i ≡ reads source n arguments_in i
    some_arguments m = goes_left source n (arguments_in source) empty (just T.CallParen) i starts_arguments m

    -- what may stand behind the name of a parameter
    pub behind_colon : member (terminal_at source i) (just T.Colon) ≡ true
        → reader source n (behind_name source) i ≡ reads source n colon_space i
    behind_colon m = goes_left source n (colon_space source) dots_row (just T.Colon) i starts_colon m

    pub behind_other : member (terminal_at source i) (just T.Colon) ≡ false
        → reader source n (behind_name source) i ≡ reader source n dots_row i
    behind_other o = goes_right source n (colon_space source) dots_row (just T.Colon) i starts_colon o

    -- where parameters may stand
    pub no_params : member (terminal_at source i) (just T.HeadParen) ≡ false
        → reader source n (optional_params source) i ≡ Got [] i
    no_params o = goes_right source n (params source) empty (just T.HeadParen) i starts_params o ∙ empty_read

    pub some_params : member (terminal_at source i) (just T.HeadParen) ≡ true
        → reader source n (optional_params source) i ≡ reads source n params i
    some_params m = goes_left source n (params source) empty (just T.HeadParen) i starts_params m

    pub no_list : member (terminal_at source i) dollars ≡ false → reader source n (listed_row source) i ≡ Got [] i
    no_list o = goes_right source n (several_row source) empty dollars i starts_several o ∙ empty_read

    pub some_list : member (terminal_at source i) dollars ≡ true
        → reader source n (listed_row source) i ≡ reader source n (several_row source) i
    some_list m = goes_left source n (several_row source) empty dollars i starts_several m

    -- where `using` may stand
    pub no_using : member (terminal_at source i) (just T.Using) ≡ false → reads source n using i ≡ Got [] i
    unfolding using
    no_using o = goes_right source n (using_row source) empty (just T.Using) i refl o ∙ empty_read

    pub some_using : member (terminal_at source i) (just T.Using) ≡ true
        → reads source n using i ≡ reader source n (using_row source) i
    unfolding using
    some_using m = goes_left source n (using_row source) empty (just T.Using) i refl m
