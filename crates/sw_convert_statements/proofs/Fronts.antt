-- Statements with values, by their kinds.
use Rattle.std.proofs.Common.{◌≡◌, ℕ, suc, Bool, true, false, List, ◌∷◌, ◌++◌, refl, sym, ◌∙◌, ap, subst, append_assoc}
use Rattle.std.specs.Prelude.{codes}
use Rattle.sw_text_scan.proofs.Bounds.{and_left, and_right}
use Rattle.sw_tree.specs.declared.text.Parts.TheVariants.{Mixed}
use Rattle.sw_tree.specs.declared.expr.Argument.{Argument}
use Rattle.sw_tree.specs.declared.statement.Level.{Level}
use Rattle.sw_tree.specs.declared.statement.Level.TheVariants as levels
use Rattle.sw_parse_terminals.specs.Numbers.{just}
use Rattle.sw_parse_table.specs.Actions.{flags_at, name_at, mixin_of}
use Rattle.sw_parse_terminals.specs.declared.terminal.Terminal.TheVariants as terminals
use Rattle.sw_parse_lexemes.specs.declared.state.Mode.TheVariants as modes
use Rattle.sw_convert_written.specs.Expressions.{is_url, expr_text, space_text}
use Rattle.sw_convert_written.specs.Heads.{given_behind_name, given_arguments, include_text, using_params}
use Rattle.sw_convert_written.specs.Names.{name_text}
use Rattle.sw_convert_again.specs.Tokens.{Tok}
use Rattle.sw_convert_again.specs.Tokens as again
use Rattle.sw_convert_again.specs.Statements.{say_name}
use Rattle.sw_convert_again.specs.Statements as spells
use Rattle.sw_convert_values.proofs.Starts.{is_clear, behind_old}
use Rattle.sw_convert_values.proofs.Stops.{before_old}
use Rattle.sw_convert_statements.specs.Fronts.{is_unbounded, FrontsAreWritten, BranchesAreWritten}
use Rattle.sw_convert_statements.specs.Media.{is_seamless}
use Rattle.sw_convert_statements.proofs.Queries.{media_written}
use Rattle.sw_convert_statements.proofs.Valued.{return_written, say_written, if_written, while_written, else_if_written}
use Rattle.sw_convert_statements.proofs.Variables.{variable_written}
use Rattle.sw_convert_texts.proofs.Comments.{comments_written}
use Rattle.sw_convert_statements.proofs.KnownNames.{comment_values}
use Rattle.sw_convert_statements.proofs.StatementStops.{before_block, before_close, before_flags}
use Rattle.sw_convert_statements.proofs.Loads.{use_written}
use Rattle.sw_convert_statements.proofs.Forwards.{forward_written}
use Rattle.sw_convert_statements.specs.Segments.{FrontWritten}
use Rattle.sw_convert_statements.proofs.Bounds.{for_written}
use Rattle.sw_convert_statements.proofs.Assignments.{no_global, assignment_written}
use Rattle.sw_convert_statements.proofs.Arguments.{given_written}
use Rattle.sw_convert_statements.proofs.Includes.{mixin_no_url, content_called, include_line_written, using_written}
use Rattle.sw_convert_statements.proofs.Callables.{function_written, mixin_written}
use Rattle.sw_convert_statements.proofs.Flow.{each_written, charset_written, at_root_written}

say_clear : (level : Level) → is_clear (just (say_name level)) ≡ true
say_clear levels.Warn = refl
say_clear levels.Debug = refl
say_clear levels.Error = refl

-- behind any other name than `url` no comment stands before the arguments
unguarded : (space name : List ℕ) (url : Bool) (arguments : List Argument) → url ≡ false
    → (space ++ name) ++ given_arguments arguments ≡ space ++ (name ++ given_behind_name url arguments)
unguarded space name url arguments e =
    append_assoc space name (given_arguments arguments)
    ∙ ap (λ (u : Bool). space ++ (name ++ given_behind_name u arguments)) (sym e)

pub fronts_written : FrontsAreWritten
fronts_written source was known i j statement tokens begins ended (spells.return_line span old inner end) t =
    return_written (known.rows _ _ _ _ (behind_old old refl) (before_close end ended) inner)
fronts_written source was known i j statement tokens begins ended (spells.say_line level span old inner end) t =
    say_written (known.rows _ _ _ _ (behind_old old (say_clear level)) (before_close end ended) inner) level
fronts_written source was known i j statement tokens begins ended
    (spells.variable_line {i = k} {places = places} span one two three inner flags end) t =
    variable_written source (suc k) was two
    (known.rows _ _ _ _ (behind_old three refl) (before_flags flags (before_close end ended)) inner) (flags_at source places)
fronts_written source was known i j statement tokens begins ended
    (spells.assignment_line {i = k} {places = places} span target_span one two three four five inner flags end) t =
    assignment_written source k was one four begins
    (known.rows _ _ _ _ (behind_old five refl) (before_flags flags (before_close end ended)) inner) (flags_at source places)
    (no_global source flags)
fronts_written source was known i j statement tokens begins ended (spells.charset_line span one two end) t = charset_written
fronts_written source was known i j statement tokens begins ended (spells.content_line span old given end) t =
    content_called (given_written source was known given)
fronts_written source was known i j statement tokens begins ended
    (spells.include_line {namespace = namespace} {name = at} {arguments = arguments} {tokens = ks} {others = os} span name_span old mixin given
    using end) t =
    subst
    (λ (x : List ℕ). FrontWritten modes.Include (codes "@include " ++ x) (again.sign terminals.AtInclude ∷ (ks ++ os)))
    (unguarded (space_text namespace) (name_text (name_at source at)) (is_url (name_at source at)) arguments (mixin_no_url source mixin t))
    (include_line_written source was known mixin t (given_written source was known given))
fronts_written source was known i j statement tokens begins ended
    (spells.include_block {namespace = namespace} {name = at} {arguments = arguments} {params = params} {tokens = ks} {others = os} {more = more} span name_span
    old mixin given using block) t =
    subst
    (λ (l : List Tok). FrontWritten modes.Include (using_params params (include_text (mixin_of source namespace at name_span arguments))) (again.sign terminals.AtInclude ∷ l))
    (append_assoc ks os more)
    (subst
    (λ (x : List ℕ). FrontWritten modes.Include (using_params params (codes "@include " ++ x)) (again.sign terminals.AtInclude ∷ ((ks ++ os) ++ more)))
    (unguarded (space_text namespace) (name_text (name_at source at)) (is_url (name_at source at)) arguments (mixin_no_url source mixin t))
    (using_written source was known mixin t (given_written source was known given) using))
fronts_written source was known i j statement tokens begins ended (spells.at_root_block span old block) t = at_root_written
fronts_written source was known i j statement tokens begins ended
    (spells.forward_line {i = k} span one two renamed members settings end) t =
    forward_written source (suc k) was known renamed members settings
fronts_written source was known i j statement tokens begins ended (spells.use_line {i = k} span one two name settings end) t =
    use_written source (suc k) was known name t settings
fronts_written source was known i j statement tokens begins ended (spells.function_block {i = k} span one two head block) t =
    function_written source was known (suc k) two t head
fronts_written source was known i j statement tokens begins ended (spells.mixin_block {i = k} span one two head block) t =
    mixin_written source was known (suc k) two t head
fronts_written source was known i j statement tokens begins ended
    (spells.for_block {from = from} {tokens = ks} span one two three four low old high block) t =
    for_written source was three old (known.rows _ _ _ _ (behind_old four refl) (before_old old refl) low) (and_left (is_unbounded (expr_text from) ks) _ t)
    (known.rows _ _ _ _ (behind_old old refl) (before_block block) high) (and_right (is_unbounded (expr_text from) ks) _ t)
fronts_written source was known i j statement tokens begins ended (spells.while_block span old inner block) t =
    while_written (known.rows _ _ _ _ (behind_old old refl) (before_block block) inner)
fronts_written source was known i j statement tokens begins ended (spells.if_block span old inner block further otherwise) t =
    if_written (known.rows _ _ _ _ (behind_old old refl) (before_block block) inner)
fronts_written source was known i j statement tokens begins ended
    (spells.each_block span one two three names in_word inner block) t =
    each_written source was three names (known.rows _ _ _ _ (behind_old in_word refl) (before_block block) inner)
fronts_written source was known i j statement tokens begins ended
    (spells.media_block {list = list} span text_span old queries block) t =
    let seamless = is_seamless (record { parts = Mixed list; span = text_span }) in
    media_written source was known queries (and_right seamless _ t) text_span (and_left seamless _ t)
fronts_written source was known i j statement tokens begins ended (spells.comment_line {text = text} comment) t =
    comments_written source i j text tokens was comment t (comment_values known comment)
fronts_written source was known i j statement tokens begins ended _ t = absurd (cc)

pub branches_written : BranchesAreWritten
branches_written value tokens it = else_if_written it
