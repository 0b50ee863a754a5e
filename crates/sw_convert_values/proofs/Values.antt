-- Values that are built of others: signs, operators, lists, brackets and maps.
use Rattle.std.proofs.Common.{◌≡◌, ◌⊎◌, ℕ, suc, Bool, true, false, not, ◌&&◌, List, [], ◌∷◌, ◌++◌, map, inl, inr, append-nil, refl, sym, ◌∙◌, ap, subst, append_assoc}
use Rattle.std.specs.Prelude.{codes}
use Rattle.std.specs.List.{list_all}
use Rattle.sw_text.specs.Names.{dashed}
use Rattle.sw_text_scan.specs.Bytes.{sign}
use Rattle.sw_text_scan.proofs.Bounds.{and_left, and_right}
use Rattle.sw_tokens.specs.declared.pieces.Before.{Before}
use Rattle.sw_tokens.specs.declared.pieces.Before.TheVariants as befores
use Rattle.sw_tokens.specs.declared.token.TokenKind.TheVariants as kinds
use Rattle.sw_tree.specs.declared.text.Parts.{Parts}
use Rattle.sw_tree.specs.declared.text.Parts.TheVariants.{Plain as PlainParts}
use Rattle.sw_tree.specs.declared.text.Piece.{Piece}
use Rattle.sw_tree.specs.declared.text.Piece.TheVariants as pieces
use Rattle.sw_tree.specs.declared.expr.Argument.{Argument}
use Rattle.sw_tree.specs.declared.expr.Around.TheVariants as arounds
use Rattle.sw_tree.specs.declared.expr.Expr.{Expr}
use Rattle.sw_tree.specs.declared.expr.ExprKind.TheVariants as exprs
use Rattle.sw_tree.specs.declared.expr.Link.{Link}
use Rattle.sw_tree.specs.declared.expr.Operator.{Operator}
use Rattle.sw_tree.specs.declared.expr.Pair.{Pair}
use Rattle.sw_tree.specs.declared.expr.Separator.TheVariants as separators
use Rattle.sw_tree.specs.declared.expr.Sign.{Sign}
use Rattle.sw_parse_terminals.specs.declared.terminal.Terminal.{Terminal}
use Rattle.sw_parse_terminals.specs.declared.terminal.Terminal.TheVariants as terminals
use Rattle.sw_parse_terminals.specs.Numbers.{just}
use Rattle.sw_parse_table.specs.declared.source.Source.{Source}
use Rattle.sw_parse_table.specs.Parts.{Part}
use Rattle.sw_parse_table.specs.Operators.{operator_of, operator_in, sign_of, sign_in}
use Rattle.sw_parse_table.specs.Sources.{lexeme_at, bytes_at, decoded_at, bytes_between}
use Rattle.sw_parse_table.specs.Values.{expression, qualified_of}
use Rattle.sw_convert_written.specs.Names.{dollar_name}
use Rattle.sw_convert_written.specs.Escapes.{ends_unclosed, space_behind}
use Rattle.sw_convert_written.specs.declared.manner.Manner.TheVariants as manners
use Rattle.sw_convert_written.specs.Pieces.{Written, piece_text, pieces_text}
use Rattle.sw_convert_written.specs.Signs.{operator_text, sign_text}
use Rattle.sw_convert_written.specs.Expressions.{ShownLink, expr_text, expr_shown, link_shown, links_text, is_quotient, is_divide, is_number, items_behind, signs_text, pair_text, with_commas, quoted_text, of_argument, argument_text, piece_written}
use Rattle.sw_convert_written.proofs.Unrolled as unrolled
use Rattle.sw_convert_passing.specs.Standing.{is_prefix_sign, is_number_sign}
use Rattle.sw_convert_passing.specs.Values as passing
use Rattle.sw_convert_again.specs.Tokens.{Tok, tok, Extent}
use Rattle.sw_convert_again.specs.Tokens as again
use Rattle.sw_convert_again.specs.Spells.{undollared, Spells, SpellsWord, SpellsItem, SpellsText, SpellsPlain, SpellsLinks, SpellsItems, SpellsCommas, SpellsPairs, SpellsSigns, SpellsArgument, SpellsMore, SpellsArguments, SpellsPieces, SpellsRow, unlisted, no_links, more_links, no_items, more_items, no_commas, more_commas, no_pairs, more_pairs, no_signs, more_signs, within, paren}
use Rattle.sw_convert_again.specs.Spells as spells
use Rattle.sw_convert_tokens.specs.Written.{AsValue, AsRow, WrittenAs}
use Rattle.sw_convert_tokens.specs.Values.{WasRead, IsValueWritten}
use Rattle.sw_convert_values.specs.Values.{is_led, goes_on, is_called, is_url_called, has_arguments, SinglesAreWritten, ValuesAreWritten, PlainsAreWritten}
use Rattle.sw_convert_tokens.proofs.Ends.{bare_list, no_sign_behind}
use Rattle.sw_convert_tokens.proofs.Signs.{Fits}
use Rattle.sw_convert_tokens.proofs.Unclosed.{slash_ends, unclosed_behind}
use Rattle.sw_convert_tokens.proofs.Spaces.{unclosed_spaced}
use Rattle.sw_convert_tokens.proofs.Between.{operators_are, binary_by, beside_written, linked_written, divided_written, unclosed_linked, prefix_by, prefix_written}
use Rattle.sw_convert_values.proofs.Quotients.{number_begun}
use Rattle.sw_convert_spelling.proofs.Choices.{by_test, neither}
use Rattle.sw_convert_tokens.proofs.Staying.{number_kept, sign_bytes, minus_kept, plus_kept}
use Rattle.sw_convert_texts.proofs.OldHashes.{hash_written}
use Rattle.sw_convert_tokens.proofs.Undollared.{placed_argument, spaced_argument}
use Rattle.sw_convert_tokens.proofs.Arguments.{IsItems, AreArguments, ArgumentsBehind, value_argument, name_argument, first_argument, further_argument, colon_argument, dots_behind, no_arguments_written, arguments_written, guarded_written}
use Rattle.sw_convert_tokens.proofs.Templates.{IsText, nothing_more, text_more, insert_more, template_written}
use Rattle.sw_convert_texts.specs.Inserted.{ItemHasValues, TextHasValues, RowHasValues, WordHasValues}
use Rattle.sw_convert_texts.specs.InText.{InText, is_digits, value_fits}
use Rattle.sw_convert_texts.specs.RawKinds.{gap_before}
use Rattle.sw_convert_texts.specs.Specials.{is_alone, item_known, text_known, special_known}
use Rattle.sw_convert_texts.specs.Urls.{is_unbroken}
use Rattle.sw_convert_texts.proofs.SpecialOlds.{text_told, enclosed_told}
use Rattle.sw_convert_texts.proofs.SpecialWritten.{told_of, specials_written}
use Rattle.sw_convert_texts.proofs.Urls.{urls_written}
use Rattle.sw_convert_tokens.proofs.OldNumbers.{only_sign, plus_sort, numbers_written}
use Rattle.sw_convert_tokens.proofs.Variables.{variable_written, qualified_written}
use Rattle.sw_convert_tokens.proofs.Rows.{row_of, comma_written, comma_ended, colon_written, parens_none, parens_written, brackets_none, brackets_written}
use Rattle.sw_convert_tokens.proofs.Leaves.{constant_by, constant_written, parent_written, important_written, quoted_written}
use Rattle.sw_convert_tokens.proofs.Ranges.{range_written}
use Rattle.sw_convert_tokens.proofs.Decodings.{decoded_there}
use Rattle.sw_convert_values.proofs.Shapes.{same, same_row, stays_as, list_around, bare_text, pieces_more, quoted_is, text_some, text_none, is_divided, again_behind, three, tokens_behind, parens_text, brackets_text}
use Rattle.sw_convert_values.proofs.Starts.{is_clear, behind_old, behind_operator, behind_value, behind_signs}
use Rattle.sw_convert_values.proofs.Stops.{before_old, before_links, before_items, before_commas, before_pairs, before_more, before_end}
use Rattle.sw_convert_values.proofs.InTexts.{kept_number, kept_signed, kept_variable, kept_owned, call_alone, owned_call_alone}
use Rattle.sw_convert_values.proofs.Called.{called_in, owned_in, arguments_as, named_text}
use Rattle.sw_convert_values.proofs.Single.{unsigned, retold, constant_is, Either, row_in, plain_in, single, name_in, mixed_in}
use Rattle.sw_convert_values.proofs.Firsts.{value_begun, IsBegun, begun_more}
use Rattle.sw_convert_values.proofs.UrlCalls.{has_by, UrlArguments, opaque_arguments, guarded_arguments, url_called_in, url_owned_in}
use Rattle.sw_convert_values.proofs.Strings.{TextBefore, text_before, text_alone, begun_in}

module _ (source : Source) (was : WasRead source) (known : SinglesAreWritten source) where
  abbrev IsWritten : ℕ → List ℕ → List Tok → Type 0
  IsWritten = IsValueWritten source

  mutual
    either : {i j : ℕ} {value : Expr} {tokens : List Tok} → is_led source i ≡ false → goes_on source j ≡ false
        → Spells source i j value tokens → Either source i value tokens
    either led ended (spells.number {i} {j} number span e old) = inl (unsigned (numbers_written source i j number span was e old))
    either led ended (spells.quoted {i} span old) =
        inl (unsigned (same
        (sym (unrolled.quoted_is (PlainParts (decoded_at source i)) ∙ ap quoted_text (unrolled.plain_is (decoded_at source i)))) refl
        (quoted_written (decoded_at source i) (decoded_there source was i))))
    either led ended (spells.template {texts = texts} span opens inner close) =
        inl (unsigned (same (sym (quoted_is span texts)) refl
        (template_written (pieces_in false (λ t. absurd (cc)) inner) (begun_in source was opens inner close))))
    either led ended (spells.hash {i} span one two) =
        inl (unsigned (same (sym (unrolled.hash_is (bytes_between source i (suc (suc i))))) refl (hash_written source was i one two)))
    either led ended (spells.constant span old) =
        inl (unsigned (same (sym (constant_is old span)) refl
        (constant_written (constant_by old.lexeme.terminal old.kind))))
    either led ended (spells.url {i} span old) =
        inl (by_test (IsWritten _ _ _) (is_unbroken (bytes_at source i))
        (λ e. unsigned (urls_written source i span was old e))
        (λ e. single source was known led ended (spells.url span old) (ap not e)))
    either led ended (spells.url_template span opens inner close) =
        inl (single source was known led ended (spells.url_template span opens inner close) refl)
    either led ended (spells.special {i} {k} {inserts} {tokens} {extents} span name opens inner close) =
        inl (by_test (IsWritten _ _ _) (special_known source name inner)
        (λ e. unsigned (specials_written source i k span inserts tokens extents was name inner e
        (text_values inner false (bytes_at source i ++ codes "(") (gap_before source k ++ codes ")") (told_of source name inner e).known)))
        (λ e. single source was known led ended (spells.special span name opens inner close) (ap not e)))
    either led ended (spells.stays_number {i} span old) =
        inl (unsigned (same (sym (stays_as (bytes_between source i (suc i)) span)) refl (number_kept source was (λ mode spaced sort n. passing.number sort n) i old)))
    either led ended (spells.stays_signed {i} span one two) = inl (by_sign (sign_bytes source was i one))
      where
        by_sign : (bytes_at source i ≡ codes "+") ⊎ (bytes_at source i ≡ codes "-")
            → IsWritten i (expr_text (expression (exprs.Special (PlainParts (bytes_between source i (suc (suc i))))) span))
            (tok terminals.Sign (again.Bytes 2 (bytes_between source i (suc (suc i)))) ∷ again.sign terminals.Number ∷ [])
        by_sign (inl e) = record {
          signed = true;
          written = same (sym (stays_as (bytes_between source i (suc (suc i))) span)) refl (plus_kept source was (λ mode spaced sort n. passing.positive sort n) i one two e);
          sign = λ s. record {
            lexeme = one.lexeme;
            there = one.there;
            is = inr (ap is_number_sign (only_sign one.lexeme.terminal one.kind), plus_sort source was i one e);
          };
        }
        by_sign (inr e) =
            unsigned (same (sym (stays_as (bytes_between source i (suc (suc i))) span)) refl (minus_kept source was (λ mode spaced sort n. passing.negative sort n) i one two e))
    either led ended (spells.variable {i} span one two) =
        inl (unsigned (same (sym (unrolled.variable_is (dashed (bytes_at source (suc i))))) refl
        (variable_written (λ mode spaced name n. passing.variable name n) source (suc i) was two)))
    either led ended (spells.owned_variable {i} span one two third four) =
        inl (unsigned (same (sym (unrolled.qualified_is (qualified_of source i (suc (suc (suc i)))))) refl
        (qualified_written (λ mode spaced owner name o n. passing.owned_variable owner name o n) source i was one four)))
    either led ended (spells.range {i} span old) = inl (unsigned (range_written source i span was old))
    either led ended (spells.word span (spells.named old spells.row_end)) = inl (name_in source was known led ended span old)
    either led ended (spells.word span (spells.named old (spells.row_part one more))) =
        inl (mixed_in source was known span (spells.named old (spells.row_part one more)) refl (row_values refl more))
    either led ended (spells.word span (spells.named old (spells.row_insert {value = value} opens inner close more))) =
        inl (mixed_in source was known span (spells.named old (spells.row_insert opens inner close more)) refl
        (row_in value (either (behind_old opens refl) (before_old close refl) inner), row_values refl more))
    either led ended (spells.word span (spells.begun {value = value} opens inner close more)) =
        inl (mixed_in source was known span (spells.begun opens inner close more) refl
        (row_in value (either (behind_old opens refl) (before_old close refl) inner), row_values refl more))
    either led ended (spells.word span (spells.begun_minus {value = value} minus opens inner close more)) =
        inl (mixed_in source was known span (spells.begun_minus minus opens inner close more) refl
        (row_in value (either (behind_old opens refl) (before_old close refl) inner), row_values refl more))
    either led ended (spells.call {args = args} span name_span name opens inner close) =
        inl (by_test (IsWritten _ _ _) (is_called source false name)
        (λ e. unsigned (called_in source was args span name_span led opens name e (word_values name) (arguments_in (behind_old opens refl) (before_old close refl) inner)))
        (λ e. by_test (IsWritten _ _ _) (is_url_called source args name)
        (λ f. unsigned (url_called_in source args
        (url_arguments_in (behind_old opens refl) (before_old close refl) inner (has_by source args name f)) span name_span name f))
        (λ f. single source was known led ended (spells.call span name_span name opens inner close)
        (ap not (neither (is_called source false name) _ e f)))))
    either led ended (spells.owned_call {args = args} span name_span owner dot name opens inner close) =
        inl (by_test (IsWritten _ _ _) (is_called source true name)
        (λ e. unsigned (owned_in source was args span name_span owner name e (word_values name) (arguments_in (behind_old opens refl) (before_old close refl) inner)))
        (λ e. by_test (IsWritten _ _ _) (is_url_called source args name)
        (λ f. unsigned (url_owned_in source args
        (url_arguments_in (behind_old opens refl) (before_old close refl) inner (has_by source args name f)) was span name_span owner name f))
        (λ f. single source was known led ended (spells.owned_call span name_span owner dot name opens inner close)
        (ap not (neither (is_called source true name) _ e f)))))
    either led ended (spells.parent span old) = inl (unsigned (same (sym unrolled.parent_is) refl parent_written))
    either led ended (spells.important span one two) = inl (unsigned (same (sym unrolled.important_is) refl important_written))
    either led ended (spells.prefixed {operand = operand} first span before value) =
        inl (retold (sym (unrolled.prefixed_is (first ∷ _) operand)) refl (signs_written before (plain (behind_signs before) ended value)))
    either led ended (spells.chain {first = first} {links = links} link span value more) =
        inl (let one = plain led (before_links more ended) value in
        let shown = map link_shown (link ∷ links) in
        retold (sym (unrolled.chain_is first (link ∷ links))) refl
        (record {
          signed = one.signed;
          written = links_written (is_quotient (expr_shown first) shown) ended more (expr_text first) refl one.written
              (λ e. and_right (is_number (expr_shown first).sort) _ e);
          sign = one.sign;
        }))
    either led ended (spells.spaced {first = first} {items = items} next span value more) =
        inl (let one = plain led (before_items more ended) value in
        retold (sym (bare_text (first ∷ next ∷ items) separators.Space span ∙ append-nil _)) refl
        (record {
          signed = one.signed;
          written = items_written ended value more (expr_text first) refl one.written;
          sign = one.sign;
        }))
    either led ended (spells.comma_one {item = item} span value old) =
        inr (
          bare_list span (item ∷ []),
          same_row (sym (bare_text (item ∷ []) separators.Comma span
              ∙ ap (λ (t : List ℕ). t ++ codes ",") (append-nil (expr_text item)))) refl
              (comma_ended (row_of (plain led (before_old old refl) value).written)),
        )
    either led ended (spells.comma_more {first = first} {items = items} next span value more end) =
        inr (
          bare_list span (first ∷ next ∷ items),
          same_row (sym (bare_text (first ∷ next ∷ items) separators.Comma span ∙ append-nil _)) refl
              (commas_written (expr_text first) (before_end end ended) more
              (row_of (plain led (before_commas more (before_end end ended)) value).written)),
        )
    either led ended (spells.in_brackets_none span opens close) =
        inl (unsigned (same (sym (list_around [] separators.Undecided arounds.Brackets span)) refl brackets_none))
    either led ended (spells.in_brackets_some {value = value} span opens inner close) =
        inl (unsigned (same (sym (brackets_text span value)) refl (brackets_written (row_in value (either (behind_old opens refl) (before_old close refl) inner)))))
    either led ended (spells.in_parens_none span opens close) =
        inl (unsigned (same (sym (list_around [] separators.Undecided arounds.Parens span)) refl parens_none))
    either led ended (spells.in_parens_some {value = value} span opens inner close) =
        inl (unsigned (same (sym (parens_text span value)) refl (parens_written (row_in value (either (behind_old opens refl) (before_old close refl) inner)))))
    either led ended (spells.map {key = key} {value = value} {pairs = pairs} {tokens = tokens} {others = others} {more = more_tokens} span opens one colon two more end close) =
        inl (unsigned (same (sym (unrolled.map_is (record { key = key; value = value } ∷ pairs)))
        (ap (λ (t : List Tok). within paren t terminals.ParenEnd)
        (tokens_behind tokens (again.sign terminals.Colon) others more_tokens))
        (parens_written
        (pairs_written (before_end end (before_old close refl)) more
        (colon_written (row_of (plain (behind_old opens refl) (before_old colon refl) one).written)
        (plain (behind_old colon refl) (before_pairs more (before_end end (before_old close refl))) two).written)))))

    plain : {i j : ℕ} {value : Expr} {tokens : List Tok} → is_led source i ≡ false → goes_on source j ≡ false
        → SpellsPlain source i j value tokens → IsWritten i (expr_text value) tokens
    plain led ended (unlisted {value = value} bare spelt) = plain_in value bare (either led ended spelt)

    -- signs before an operand
    signs_written : {i k : ℕ} {signs : List Sign} {tokens others : List Tok} {text : List ℕ}
        → SpellsSigns source i k signs tokens → IsWritten k text others
        → IsWritten i (signs_text signs ++ text) (tokens ++ others)
    signs_written no_signs it = it
    signs_written {text = text} (more_signs {i} {signs = signs} {tokens = tokens} old more) it =
        let inner = signs_written more it in
        let terminal = old.lexeme.terminal in record {
          signed = is_prefix_sign terminal;
          written = same
              (sym (append_assoc (sign_text (sign_of terminal)) (signs_text signs) text)
              ∙ ap (λ (s : Sign). (sign_text s ++ signs_text signs) ++ text) (sym (ap sign_in old.there))) refl
              (prefix_written inner.written (prefix_by terminal old.kind));
          sign = λ e. record { lexeme = old.lexeme; there = old.there; is = inl e };
        }

    -- operators, and what stands behind each
    links_written : {i j : ℕ} {links : List Link} {left : List ℕ} {ks others : List Tok} {signed : Bool} (quotient : Bool)
        → goes_on source j ≡ false → SpellsLinks source i j links others → (last : List ℕ) → ends_unclosed left ≡ ends_unclosed last
        → WrittenAs (AsValue signed) left ks
        → (quotient ≡ true
        → list_all (λ (l : ShownLink). is_divide l.operator && is_number l.operand.sort) (map link_shown links) ≡ true)
        → WrittenAs (AsValue signed) (left ++ links_text quotient last (map link_shown links)) (ks ++ others)
    links_written {left = left} {ks = ks} quotient ended no_links last e it all =
        same (sym (append-nil left)) (sym (append-nil ks)) it
    links_written {left = left} {ks = ks} false ended
        (more_links {i} {operand = operand} {links = links} {tokens = tokens} {others = others} precedence old value more) last
        e it all =
        let terminal = old.lexeme.terminal in
        let op = operators_are terminal (binary_by precedence terminal old.kind) in
        let one = plain (behind_operator precedence old) (before_links more ended) value in
        let rest = links_text false (expr_text operand) (map link_shown links) in
        same
        (again_behind left (space_behind last) (operator_text (operator_of terminal)) (expr_text operand) rest
        ∙ ap (λ (o : Operator). left ++ ((space_behind last ++ operator_text o) ++ (expr_text operand ++ rest)))
        (sym (ap operator_in old.there)))
        (tokens_behind ks (again.sign terminal) tokens others)
        (links_written false ended more (expr_text operand) (unclosed_linked left last (expr_text operand) terminal op)
        (linked_written last terminal op e it one.written) (λ f. absurd (cc)))
    links_written {left = left} {ks = ks} true ended
        (more_links {i} {operand = operand} {links = links} {tokens = tokens} {others = others} precedence old value more) last
        e it all =
        let terminal = old.lexeme.terminal in
        let one = plain (behind_operator precedence old) (before_links more ended) value in
        let here = and_left (is_divide (operator_in (lexeme_at source i)) && is_number (expr_shown operand).sort) _ (all refl) in
        let is : terminal ≡ terminals.Divide = is_divided terminal (binary_by precedence terminal old.kind)
        (ap (λ (o : Operator). is_divide o) (sym (ap operator_in old.there)) ∙ and_left (is_divide (operator_in (lexeme_at source i))) _ here) in
        same (three left (codes "/") (expr_text operand) (links_text true (expr_text operand) (map link_shown links)))
        (tokens_behind ks (again.sign terminals.Divide) tokens others
        ∙ ap (λ (t : Terminal). ks ++ again.sign t ∷ (tokens ++ others)) (sym is))
        (links_written true ended more (expr_text operand) (unclosed_behind left (expr_text operand) (sign "/") slash_ends)
        (divided_written it one.written (begun value (and_right (is_divide (operator_in (lexeme_at source i))) _ here)))
        (λ f. and_right (is_divide (operator_in (lexeme_at source i)) && is_number (expr_shown operand).sort) _ (all refl)))
      where
        begun : {i k : ℕ} {value : Expr} {tokens : List Tok} → SpellsPlain source i k value tokens
            → is_number (expr_shown value).sort ≡ true → (after : List ℕ) → Fits kinds.Slash (expr_text value ++ after)
        begun (unlisted bare spelt) = number_begun source spelt

    -- items with spaces between them, the first of which stands behind another one
    items_written : {i k j : ℕ} {before : Expr} {bs ks others : List Tok} {items : List Expr} {left : List ℕ} {signed : Bool}
        → goes_on source j ≡ false → SpellsPlain source i k before bs → SpellsItems source k j items others → (last : List ℕ)
        → ends_unclosed left ≡ ends_unclosed last → WrittenAs (AsValue signed) left ks
        → WrittenAs (AsValue signed) (left ++ items_behind separators.Space false last (map expr_text items)) (ks ++ others)
    items_written {ks = ks} {left = left} ended previous no_items last e it = same (sym (append-nil left)) (sym (append-nil ks)) it
    items_written {ks = ks} {left = left} ended previous
        (more_items {item = item} {items = items} {tokens = tokens} {others = others} value more) last e it =
        let one = plain (behind_value previous) (before_items more ended) value in
        same (three left (space_behind last) (expr_text item) (items_behind separators.Space false (expr_text item) (map expr_text items)))
        (append_assoc ks tokens others)
        (items_written ended value more (expr_text item) (unclosed_spaced left (expr_text item) (ends_unclosed last))
        (beside_written last e it (calm previous value one refl)))
      where
        calm : {i k j : ℕ} {before item : Expr} {bs tokens : List Tok} → SpellsPlain source i k before bs
            → SpellsPlain source k j item tokens
            → (one : IsWritten k (expr_text item) tokens) → {signed : Bool} → one.signed ≡ signed
            → WrittenAs (AsValue false) (expr_text item) tokens
        calm {item = item} {tokens = tokens} (unlisted b first) (unlisted c next) one {signed = true} e =
            absurd (no_sign_behind source was.lexemes b first (one.sign e))
        calm {item = item} {tokens = tokens} (unlisted b first) (unlisted c next) one {signed = false} e =
            subst (λ (s : Bool). WrittenAs (AsValue s) (expr_text item) tokens) e one.written

    -- items with commas between them
    commas_written : {k j : ℕ} {ks others : List Tok} {items : List Expr} {left : List ℕ} (before : List ℕ)
        → goes_on source j ≡ false → SpellsCommas source k j items others → WrittenAs AsRow left ks
        → WrittenAs AsRow (left ++ items_behind separators.Comma false before (map expr_text items)) (ks ++ others)
    commas_written {ks = ks} {left = left} before ended no_commas it = same_row (sym (append-nil left)) (sym (append-nil ks)) it
    commas_written {ks = ks} {left = left} before ended
        (more_commas {item = item} {items = items} {tokens = tokens} {others = others} old value more) it =
        same_row (three left (codes ", ") (expr_text item) (items_behind separators.Comma false (expr_text item) (map expr_text items)))
        (tokens_behind ks (again.sign terminals.Comma) tokens others)
        (commas_written (expr_text item) ended more
        (comma_written it (plain (behind_old old refl) (before_commas more ended) value).written))

    -- keys and values
    pairs_written : {k j : ℕ} {ks others : List Tok} {pairs : List Pair} {left : List ℕ}
        → goes_on source j ≡ false → SpellsPairs source k j pairs others → WrittenAs AsRow left ks
        → WrittenAs AsRow (left ++ with_commas false (map pair_text pairs)) (ks ++ others)
    pairs_written {ks = ks} {left = left} ended no_pairs it = same_row (sym (append-nil left)) (sym (append-nil ks)) it
    pairs_written {ks = ks} {left = left} ended
        (more_pairs {key = key} {value = value} {pairs = pairs} {tokens = tokens} {others = others} {more = more} comma one
        colon two further) it =
        let rest = with_commas false (map pair_text pairs) in
        same_row
        (append_assoc (left ++ (codes ", " ++ expr_text key)) (codes ": " ++ expr_text value) rest
        ∙ three left (codes ", ") (expr_text key) ((codes ": " ++ expr_text value) ++ rest)
        ∙ ap (λ (t : List ℕ). left ++ (codes ", " ++ t)) (sym (append_assoc (expr_text key) (codes ": " ++ expr_text value) rest)))
        (append_assoc (ks ++ again.sign terminals.Comma ∷ tokens) (again.sign terminals.Colon ∷ others) more
        ∙ tokens_behind ks (again.sign terminals.Comma) tokens (again.sign terminals.Colon ∷ (others ++ more)))
        (pairs_written ended further
        (colon_written (comma_written it (plain (behind_old comma refl) (before_old colon refl) one).written)
        (plain (behind_old colon refl) (before_pairs further ended) two).written))

    -- values in words
    row_values : {part opening : Terminal} {extra i j count : ℕ} {inserts : List Part} {tokens : List Tok}
        → is_clear (just opening) ≡ true → (row : SpellsRow source part opening extra i j inserts count tokens)
        → RowHasValues row
    row_values c spells.row_end = tt
    row_values c (spells.row_part old row) = row_values c row
    row_values c (spells.row_insert {value = value} opens inner close row) =
        (row_in value (either (behind_old opens c) (before_old close refl) inner), row_values c row)

    word_values : {i j : ℕ} {parts : Parts} {tokens : List Tok} → (word : SpellsWord source i j parts tokens)
        → WordHasValues word
    word_values (spells.named old row) = row_values refl row
    word_values (spells.begun {value = value} opens inner close row) = (row_in value (either (behind_old opens refl) (before_old close refl) inner), row_values refl row)
    word_values (spells.begun_minus {value = value} minus opens inner close row) =
        (row_in value (either (behind_old opens refl) (before_old close refl) inner), row_values refl row)

    -- values in the text of a special function
    alone_in : {i k : ℕ} {value : Expr} {tokens : List Tok} → (inner : Spells source i k value tokens) → is_alone inner ≡ true
        → WrittenAs (InText (is_digits inner) (value_fits inner)) (expr_text value) tokens
    alone_in (spells.stays_number span old) e = kept_number source was span old
    alone_in (spells.stays_signed span one two) e = kept_signed source was span one two
    alone_in (spells.variable span one two) e = kept_variable source was span two
    alone_in (spells.owned_variable span one two third four) e = kept_owned source was span one four
    alone_in (spells.call {args = args} span name_span name opens inner close) e =
        call_alone source was args span name_span name e (arguments_in (behind_old opens refl) (before_old close refl) inner)
    alone_in (spells.owned_call {args = args} span name_span owner dot name opens inner close) e =
        owned_call_alone source was args span name_span owner name e (arguments_in (behind_old opens refl) (before_old close refl) inner)
    alone_in _ e = absurd (cc)

    item_values : {i k : ℕ} {parts : List Part} {tokens : List Tok} {extents : List Extent}
        (item : SpellsItem source i k parts tokens extents) (ended parens digits : Bool) (front behind : List ℕ)
        → item_known source item ended parens digits front behind ≡ true → ItemHasValues item
    item_values (spells.item_token old) ended parens digits front behind e = tt
    item_values (spells.item_insert {value = value} opens inner close) ended parens digits front behind e =
        row_in value (either (behind_old opens refl) (before_old close refl) inner)
    item_values (spells.item_value inner) ended parens digits front behind e = alone_in inner (and_left (is_alone inner) _ e)
    item_values (spells.item_parens opens inner close) ended parens digits front behind e =
        text_values inner false _ _ (enclosed_told source was inner (codes "(") (codes ")") front behind e).inside
    item_values (spells.item_brackets opens inner close) ended parens digits front behind e =
        text_values inner false _ _ (enclosed_told source was inner (codes "[") (codes "]") front behind e).inside

    text_values : {i j : ℕ} {parts : List Part} {tokens : List Tok} {extents : List Extent}
        (text : SpellsText source i j parts tokens extents) (ended : Bool) (front behind : List ℕ)
        → text_known source text ended front behind ≡ true → TextHasValues text
    text_values spells.text_end ended front behind e = tt
    text_values (spells.text_more item text) ended front behind e =
        let told = text_told source was item text ended front behind e in
        (item_values item ended _ _ _ _ told.one, text_values text _ _ behind told.rest)

    -- text and values in a string, behind a text or not
    pieces_in : (behind : Bool) → {i j : ℕ} {texts : List Piece} {tokens : List Tok} → (behind ≡ true → TextBefore source i)
        → SpellsPieces source i j texts tokens
        → IsText behind (pieces_text manners.Quoted (map piece_written texts)) tokens
    pieces_in behind before spells.no_pieces = nothing_more behind
    pieces_in behind before (spells.text_piece {i} {texts = texts} {tokens = tokens} old some more) =
        let said = decoded_at source i in
        subst (λ (t : List ℕ). IsText behind t (tok terminals.TextPiece (again.Decoded said) ∷ tokens))
        (sym (pieces_more (pieces.Text said) texts
        ∙ ap (λ (w : Written). piece_text manners.Quoted w ++ pieces_text manners.Quoted (map piece_written texts)) (unrolled.said_is said)))
        (text_more behind (text_alone source was i old behind before) said (decoded_there source was i)
        (text_some said some)
        (pieces_in true (λ t. text_before i old) more))
    pieces_in behind before (spells.empty_piece {i} {texts = texts} {tokens = tokens} old none more) =
        let said = decoded_at source i in
        subst (λ (b : Bool). IsText b (pieces_text manners.Quoted (map piece_written (pieces.Text said ∷ texts))) tokens)
        (sym (text_alone source was i old behind before))
        (subst (λ (t : List ℕ). IsText false t tokens)
        (sym (pieces_more (pieces.Text said) texts
        ∙ ap (λ (w : Written). piece_text manners.Quoted w ++ pieces_text manners.Quoted (map piece_written texts)) (unrolled.said_is said)
        ∙ ap (λ (t : List ℕ). t ++ pieces_text manners.Quoted (map piece_written texts)) (text_none said none)))
        (pieces_in false (λ t. absurd (cc)) more))
    pieces_in behind before
        (spells.inserted_piece {value = value} {texts = texts} {tokens = tokens} {others = others} opens inner closes more) =
        subst (λ (t : List ℕ). IsText behind t (again.sign terminals.Insert ∷ (tokens ++ again.sign terminals.InsertEnd ∷ others)))
        (sym (pieces_more (pieces.Inserted value) texts
        ∙ ap (λ (w : Written). piece_text manners.Quoted w ++ pieces_text manners.Quoted (map piece_written texts)) (unrolled.inserted_is value)))
        (insert_more behind (row_in value (either (behind_old opens refl) (before_old closes refl) inner)) (pieces_in false (λ t. absurd (cc)) more))

    -- arguments
    argument_in : {i j : ℕ} {arg : Argument} {tokens : List Tok} → is_led source i ≡ false → goes_on source j ≡ false
        → SpellsArgument source i j arg tokens
        → AreArguments false (argument_text arg) tokens
    argument_in led ended (spells.named_argument {i} {value = inner} dollar name colon value) =
        let said = dollar_name (dashed (bytes_at source (suc i))) in
        arguments_as (named_text said (expr_text inner)) refl
        (colon_argument (first_argument (name_argument false source (suc i) was name)) (value_argument true (plain (behind_old colon refl) ended value).written))
    argument_in led ended (spells.placed_argument {value = inner} value) =
        arguments_as (sym (append-nil (expr_text inner))) refl (first_argument (placed_argument false (plain led ended value).written))
    argument_in led ended (spells.spread_argument {value = inner} value dots) =
        dots_behind (first_argument (placed_argument false (plain led (before_old dots refl) value).written))

    argument_behind : {i j : ℕ} {arg : Argument} {ks tokens : List Tok} {left : List ℕ}
        {before : Before} {spaced : Bool}
        → is_led source i ≡ false → goes_on source j ≡ false → SpellsArgument source i j arg tokens
        → ArgumentsBehind before spaced false left ks
        → ArgumentsBehind before spaced false (left ++ (codes ", " ++ argument_text arg))
        (ks ++ again.sign terminals.Comma ∷ tokens)
    argument_behind {ks = ks} {left = left} led ended (spells.named_argument {i} {value = inner} {tokens = tokens} dollar name colon value) it =
        let said = dollar_name (dashed (bytes_at source (suc i))) in
        arguments_as
        (three left (codes ", ") said (codes ": " ++ expr_text inner)
        ∙ ap (λ (t : List ℕ). left ++ (codes ", " ++ t)) (named_text said (expr_text inner)))
        (append_assoc ks (again.sign terminals.Comma ∷ again.sign terminals.DollarNamed
        ∷ tok terminals.VariableName (again.Dashed (dashed (bytes_at source (suc i)))) ∷ []) (again.sign terminals.Colon ∷ tokens))
        (colon_argument (further_argument it (name_argument true source (suc i) was name)) (value_argument true (plain (behind_old colon refl) ended value).written))
    argument_behind {left = left} led ended (spells.placed_argument {value = inner} value) it =
        arguments_as (ap (λ (t : List ℕ). left ++ (codes ", " ++ t)) (sym (append-nil (expr_text inner)))) refl
        (further_argument it (placed_argument true (plain led ended value).written))
    argument_behind {ks = ks} {left = left} led ended (spells.spread_argument {value = inner} {tokens = tokens} value dots) it =
        arguments_as (three left (codes ", ") (expr_text inner) (codes "..."))
        (tokens_behind ks (again.sign terminals.Comma) (undollared tokens) (again.sign terminals.Ellipsis ∷ []))
        (dots_behind (further_argument it (placed_argument true (plain led (before_old dots refl) value).written)))

    more_in : {k j : ℕ} {ks others : List Tok} {args : List Argument} {left : List ℕ} {before : Before} {spaced : Bool}
        → goes_on source j ≡ false → SpellsMore source k j args others → ArgumentsBehind before spaced false left ks
        → ArgumentsBehind before spaced false (left ++ with_commas false (map argument_text args)) (ks ++ others)
    more_in {ks = ks} {left = left} ended spells.no_more it = arguments_as (sym (append-nil left)) (sym (append-nil ks)) it
    more_in {ks = ks} {left = left} ended
        (spells.more {arg = arg} {args = args} {tokens = tokens} {others = others} comma one rest) it =
        arguments_as (three left (codes ", ") (argument_text arg) (with_commas false (map argument_text args)))
        (tokens_behind ks (again.sign terminals.Comma) tokens others)
        (more_in ended rest (argument_behind (behind_old comma refl) (before_more rest ended) one it))

    arguments_in : {i j : ℕ} {args : List Argument} {tokens : List Tok} → is_led source i ≡ false → goes_on source j ≡ false
        → SpellsArguments source i j args tokens
        → IsItems (with_commas true (map argument_text args)) tokens
    arguments_in led ended spells.no_arguments = no_arguments_written
    arguments_in led ended (spells.arguments one rest end) =
        let stop = before_end end ended in
        arguments_written (more_in stop rest (argument_in led (before_more rest stop) one))

    -- the first behind a comment, and all of a url
    guarded_in : {i j : ℕ} {arg : Argument} {tokens : List Tok} → is_led source i ≡ false → goes_on source j ≡ false
        → SpellsArgument source i j arg tokens
        → (of_argument arg).opaque ≡ false
        → IsBegun (argument_text arg) × ArgumentsBehind befores.White true false (argument_text arg) tokens
    guarded_in led ended (spells.named_argument dollar name colon value) o = absurd (cc)
    guarded_in led ended (spells.placed_argument {value = inner} value) o =
        let it = (plain led ended value).written in (
          begun_more (expr_text inner) [] (value_begun it),
          arguments_as (sym (append-nil (expr_text inner))) refl (first_argument (spaced_argument befores.White it)),
        )
    guarded_in led ended (spells.spread_argument {value = inner} value dots) o =
        let it = (plain led (before_old dots refl) value).written in (
          begun_more (expr_text inner) (codes "...") (value_begun it),
          dots_behind (first_argument (spaced_argument befores.White it)),
        )

    url_arguments_in : {i j : ℕ} {args : List Argument} {tokens : List Tok} → is_led source i ≡ false → goes_on source j ≡ false
        → SpellsArguments source i j args tokens → has_arguments args ≡ true → UrlArguments args tokens
    url_arguments_in led ended spells.no_arguments e = absurd (cc)
    url_arguments_in led ended (spells.arguments {arg = arg} {args = args} one rest end) e =
        let stop = before_end end ended in
        by_test (UrlArguments _ _) (of_argument arg).opaque
        (λ o. opaque_arguments arg args o (arguments_written (more_in stop rest (argument_in led (before_more rest stop) one))))
        (λ o. let first = guarded_in led (before_more rest stop) one o in
        guarded_arguments arg args o first.0 (guarded_written (more_in stop rest first.1)))

pub values_written : ValuesAreWritten
values_written source was known i j value tokens led ended spelt = row_in value (either source was known led ended spelt)

pub plains_written : PlainsAreWritten
plains_written source was known i j value tokens led ended spelt =
    let one = plain source was known led ended spelt in (one.signed, one.written)
