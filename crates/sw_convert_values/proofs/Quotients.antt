-- A number that was read begins with no `/` and no `*`, so that a `/` may stand directly before it.
use Rattle.std.proofs.Common.{◌≡◌, ◌≤◌, ◌<◌, ℕ, suc, Bool, true, false, not, ◌&&◌, ◌||◌, List, [], ◌∷◌, ◌++◌, length, Option, Some, None, ℤ, pos, negsuc, decimal, refl, sym, ◌∙◌, ap, subst, arith}
use Rattle.std.specs.Prelude.{◌==◌, ◌/◌, ◌%◌, codes}
use Rattle.std.proofs.lemmas.Bool.Decides.{nat_tests}
use Rattle.sw_fixed.specs.Arithmetic.{scale}
use Rattle.sw_fixed.specs.Reading.{AreDigits}
use Rattle.sw_fixed.specs.Text.{fraction_text, magnitude_text}
use Rattle.sw_fixed.proofs.DigitRuns.{AreDigits_parts}
use Rattle.sw_text.specs.declared.place.Span.{Span}
use Rattle.sw_text_scan.specs.Bytes.{sign, byte}
use Rattle.sw_tokens.specs.declared.token.TokenKind.TheVariants as kinds
use Rattle.sw_tree.specs.declared.text.Parts.{Parts}
use Rattle.sw_tree.specs.declared.text.Piece.{Piece}
use Rattle.sw_tree.specs.declared.text.Text.{Text}
use Rattle.sw_tree.specs.declared.expr.Argument.{Argument}
use Rattle.sw_tree.specs.declared.expr.Around.{Around}
use Rattle.sw_tree.specs.declared.expr.Around.TheVariants as arounds
use Rattle.sw_tree.specs.declared.expr.Callee.{Callee}
use Rattle.sw_tree.specs.declared.expr.Expr.{Expr}
use Rattle.sw_tree.specs.declared.expr.ExprKind.{ExprKind, out-ExprKind}
use Rattle.sw_tree.specs.declared.expr.ExprKind.TheOpen.{ExprKind-F}
use Rattle.sw_tree.specs.declared.expr.ExprKind.TheVariants as exprs
use Rattle.sw_tree.specs.declared.expr.Link.{Link}
use Rattle.sw_tree.specs.declared.expr.Number.{Number}
use Rattle.sw_tree.specs.declared.expr.Pair.{Pair}
use Rattle.sw_tree.specs.declared.expr.Separator.{Separator}
use Rattle.sw_tree.specs.declared.expr.Separator.TheVariants as separators
use Rattle.sw_parse_table.specs.declared.source.Source.{Source}
use Rattle.sw_parse_table.specs.Sources.{bytes_between}
use Rattle.sw_parse_table.specs.Values.{in_parens_by, in_parens, in_brackets_by, in_brackets}
use Rattle.sw_convert_spelling.specs.Numerals.{begins_exponent, no_exponent, value_text}
use Rattle.sw_convert_spelling.proofs.Numerals.{whole_small}
use Rattle.sw_convert_written.specs.declared.sort.Sort.{Sort}
use Rattle.sw_convert_written.specs.declared.sort.Sort.TheVariants as shown
use Rattle.sw_convert_written.specs.Names.{number_text}
use Rattle.sw_convert_written.specs.Expressions.{kind_shown, expr_shown, expr_text, is_number}
use Rattle.sw_convert_written.proofs.Unrolled as unrolled
use Rattle.sw_convert_again.specs.Tokens.{Tok}
use Rattle.sw_convert_again.specs.Spells.{Spells}
use Rattle.sw_convert_again.specs.Spells as spells
use Rattle.sw_convert_tokens.proofs.Signs.{Fits}
use Rattle.sw_convert_tokens.proofs.NumeralsBack.{IsSmall, numeral_small}

-- ---- its first byte

record Begins (text : List ℕ) : Type 0 where
  first : ℕ
  rest : List ℕ
  is : text ≡ first ∷ rest
  calm : ((first == sign "/") || (first == sign "*")) ≡ false

digits_begin : (digits more : List ℕ) → 0 < length digits → AreDigits digits → Begins (digits ++ more)
digits_begin [] more some all = absurd (omega (arith, some))
digits_begin (d ∷ digits) more some all =
    let p = AreDigits_parts d digits all in
    record { first = d; rest = digits ++ more; is = refl; calm = digit d p.low p.high }
  where
    digit : (d : ℕ) → 48 ≤ d → d ≤ 57 → ((d == sign "/") || (d == sign "*")) ≡ false
    digit d low high = grind (arith, nat_tests)

begins_more : (text more : List ℕ) → Begins text → Begins (text ++ more)
begins_more text more b =
    record { first = b.first; rest = b.rest ++ more; is = ap (λ (t : List ℕ). t ++ more) b.is; calm = b.calm }

value_begins : (value : Option ℤ) (unit : List ℕ) → IsSmall value → Begins (value_text value unit)
value_begins None unit l = record { first = sign "1"; rest = codes "e28"; is = refl; calm = refl }
value_begins (Some (negsuc n)) unit l = record {
  first = sign "-";
  rest = magnitude_text (suc n) ++ no_exponent (begins_exponent unit);
  is = refl;
  calm = refl;
}
value_begins (Some (pos n)) unit l =
    let whole = whole_small n l in
    begins_more (magnitude_text n) (no_exponent (begins_exponent unit))
    (digits_begin (decimal (n / scale)) (fraction_text (n % scale)) whole.some whole.alone)

slash_fits : (text after : List ℕ) → Begins text → Fits kinds.Slash (text ++ after)
unfolding byte
slash_fits text after b =
    subst (λ (t : List ℕ). Fits kinds.Slash (t ++ after)) (sym b.is)
    (ap (λ (t : Bool). not (t || false) && true) b.calm)

-- ---- what is no number

no_number : (kind : ExprKind) (sort : Sort) → (kind_shown kind).sort ≡ sort → is_number sort ≡ false
    → is_number (kind_shown kind).sort ≡ true → ⊥
no_number kind sort e f n = let wrong : true ≡ false = sym n ∙ ap is_number e ∙ f in cc

list_no : (items : List Expr) (separator : Separator) (around : Around)
    → is_number (kind_shown (exprs.List items separator around)).sort ≡ true → ⊥
list_no items separator around =
    no_number (exprs.List items separator around) shown.Other (unrolled.list_sort items separator around) refl

abbrev Open : Type 0
Open = ExprKind-F ExprKind Parts Piece Argument Callee Expr Link Pair Text

parens_no : (span : Span) (value : Expr) (out : Open) → is_number (expr_shown (in_parens_by span value out)).sort ≡ true → ⊥
parens_no span value (ExprKind-F.List items separator arounds.Nothing) = list_no items separator arounds.Parens
parens_no span value _ = no_number (exprs.Paren value) shown.Other (unrolled.paren_sort value) refl

brackets_no : (span : Span) (value : Expr) (out : Open)
    → is_number (expr_shown (in_brackets_by span value out)).sort ≡ true → ⊥
brackets_no span value (ExprKind-F.List items separator arounds.Nothing) = list_no items separator arounds.Brackets
brackets_no span value _ = list_no (value ∷ []) separators.Undecided arounds.Brackets

pub number_begun : (source : Source) {i j : ℕ} {value : Expr} {tokens : List Tok} → Spells source i j value tokens
    → is_number (expr_shown value).sort ≡ true → (after : List ℕ) → Fits kinds.Slash (expr_text value ++ after)
unfolding in_parens in_brackets
number_begun source (spells.number {i} {j} number span e old) n after =
    subst (λ (t : List ℕ). Fits kinds.Slash (t ++ after)) (sym (unrolled.number_is number))
    (slash_fits (number_text number) after
    (begins_more (value_text number.value number.unit) number.unit
    (value_begins number.value number.unit (subst (λ (x : Number). IsSmall x.value) e (numeral_small (bytes_between source i j))))))
number_begun source (spells.quoted span old) n after = absurd (no_number (exprs.Quoted _) shown.Opaque (unrolled.quoted_sort _) refl n)
number_begun source (spells.template span opens inner close) n after = absurd (no_number (exprs.Quoted _) shown.Opaque (unrolled.quoted_sort _) refl n)
number_begun source (spells.hash span one two) n after = absurd (no_number (exprs.Hash _) shown.Other (unrolled.hash_sort _) refl n)
number_begun source (spells.constant span old) n after = absurd (no_number (exprs.Constant _) shown.Other (unrolled.constant_sort _) refl n)
number_begun source (spells.url span old) n after = absurd (no_number (exprs.Url _) shown.Other (unrolled.url_sort _) refl n)
number_begun source (spells.url_template span opens inner close) n after = absurd (no_number (exprs.Url _) shown.Other (unrolled.url_sort _) refl n)
number_begun source (spells.special span name opens inner close) n after = absurd (no_number (exprs.Special _) shown.Other (unrolled.special_sort _) refl n)
number_begun source (spells.stays_number span old) n after = absurd (no_number (exprs.Special _) shown.Other (unrolled.special_sort _) refl n)
number_begun source (spells.stays_signed span one two) n after = absurd (no_number (exprs.Special _) shown.Other (unrolled.special_sort _) refl n)
number_begun source (spells.variable span one two) n after = absurd (no_number (exprs.Variable _) shown.Opaque (unrolled.variable_sort _) refl n)
number_begun source (spells.owned_variable span one two third four) n after = absurd (no_number (exprs.Qualified _) shown.Other (unrolled.qualified_sort _) refl n)
number_begun source (spells.range span old) n after = absurd (no_number (exprs.Word _) shown.Other (unrolled.word_sort _) refl n)
number_begun source (spells.word span it) n after = absurd (no_number (exprs.Word _) shown.Other (unrolled.word_sort _) refl n)
number_begun source (spells.call span name_span name opens inner close) n after = absurd (no_number (exprs.Call _ _) shown.Other (unrolled.call_sort _ _) refl n)
number_begun source (spells.owned_call span name_span owner dot name opens inner close) n after = absurd (no_number (exprs.Call _ _) shown.Other (unrolled.call_sort _ _) refl n)
number_begun source (spells.parent span old) n after = absurd (no_number exprs.Parent shown.Other unrolled.parent_sort refl n)
number_begun source (spells.important span one two) n after = absurd (no_number exprs.Important shown.Other unrolled.important_sort refl n)
number_begun source (spells.prefixed first span before value) n after = absurd (no_number (exprs.Prefixed _ _) shown.Other (unrolled.prefixed_sort _ _) refl n)
number_begun source (spells.chain link span value more) n after = absurd (no_number (exprs.Chain _ _) shown.Other (unrolled.chain_sort _ _) refl n)
number_begun source (spells.map span opens one colon two more end close) n after = absurd (no_number (exprs.Map _) shown.Other (unrolled.map_sort _) refl n)
number_begun source (spells.spaced next span value more) n after = absurd (list_no _ _ _ n)
number_begun source (spells.comma_one span value old) n after = absurd (list_no _ _ _ n)
number_begun source (spells.comma_more next span value more end) n after = absurd (list_no _ _ _ n)
number_begun source (spells.in_brackets_none span opens close) n after = absurd (list_no _ _ _ n)
number_begun source (spells.in_parens_none span opens close) n after = absurd (list_no _ _ _ n)
number_begun source (spells.in_brackets_some {value = value} span opens inner close) n after =
    absurd (brackets_no span value (out-ExprKind value.kind) n)
number_begun source (spells.in_parens_some {value = value} span opens inner close) n after =
    absurd (parens_no span value (out-ExprKind value.kind) n)
