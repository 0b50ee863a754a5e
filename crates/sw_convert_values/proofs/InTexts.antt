-- Values by themselves in the text of a special function.
use Rattle.std.proofs.Common.{◌≡◌, ◌⊎◌, ℕ, suc, Bool, true, false, not, List, [], ◌∷◌, ◌++◌, map, Some, None, inl, inr, refl, sym, ◌∙◌, ap, subst}
use Rattle.std.specs.Prelude.{codes}
use Rattle.sw_text.specs.declared.place.Span.{Span}
use Rattle.sw_text.specs.Names.{dashed}
use Rattle.sw_text_scan.proofs.Bounds.{and_left, and_right, not_true}
use Rattle.sw_tree.specs.declared.text.Parts.{Parts}
use Rattle.sw_tree.specs.declared.text.Parts.TheVariants.{Plain as PlainParts}
use Rattle.sw_tree.specs.declared.expr.Argument.{Argument}
use Rattle.sw_tree.specs.declared.expr.ExprKind.TheVariants as exprs
use Rattle.sw_parse_terminals.specs.declared.terminal.Terminal.TheVariants as terminals
use Rattle.sw_parse_terminals.specs.Numbers.{just}
use Rattle.sw_parse_lexemes.specs.declared.sort.Sort.{Sort}
use Rattle.sw_parse_lexemes.specs.declared.sort.Sort.TheVariants as sorts
use Rattle.sw_parse_lexemes.specs.declared.state.Mode.{Mode}
use Rattle.sw_parse_lexemes.specs.Classes.{is_name, is_number}
use Rattle.sw_parse_lexemes.specs.Names.{stays_text}
use Rattle.sw_parse_lexemes.specs.Sorts.{sort_of}
use Rattle.sw_parse_table.specs.declared.source.Source.{Source}
use Rattle.sw_parse_table.specs.Sources.{bytes_at, bytes_between, parts_between}
use Rattle.sw_parse_table.specs.Values.{expression, callee_of, namespaced, qualified_of}
use Rattle.sw_convert_written.specs.Expressions.{expr_text, with_commas, ends_in_url, argument_text}
use Rattle.sw_convert_written.proofs.Unrolled as unrolled
use Rattle.sw_convert_passing.specs.Written.{Written, written, direct}
use Rattle.sw_convert_passing.specs.Values.{Call, Special, text_number, text_signed, text_variable, text_owned_variable, text_call, text_owned_call}
use Rattle.sw_convert_again.specs.Tokens.{Tok, tok, Old, Dashed}
use Rattle.sw_convert_again.specs.Tokens as again
use Rattle.sw_convert_again.specs.Spells.{dollar, from_start, call_tokens, SpellsWord}
use Rattle.sw_convert_again.specs.Spells as spells
use Rattle.sw_convert_tokens.specs.Written.{Shape, WrittenAs}
use Rattle.sw_convert_tokens.specs.Values.{WasRead}
use Rattle.sw_convert_tokens.proofs.Arguments.{IsItems}
use Rattle.sw_convert_tokens.proofs.Calls.{CalleeAs, call_as, owned_call_as, name_called_as, name_dotted, named_call_text}
use Rattle.sw_convert_tokens.proofs.Olds.{old_token}
use Rattle.sw_convert_tokens.proofs.Staying.{number_kept, sign_bytes, minus_kept, plus_kept}
use Rattle.sw_convert_tokens.proofs.Variables.{variable_written, qualified_written}
use Rattle.sw_convert_texts.specs.InText.{begins_plainly, InText, sign_goes}
use Rattle.sw_convert_texts.specs.RawKinds.{sort_there}
use Rattle.sw_convert_texts.specs.Specials.{is_plainly_called}
use Rattle.sw_convert_values.proofs.Shapes.{same_as, stays_as, no_url_at}

-- wherever it may stand
abbrev pub Always : Bool → Bool → Bool
Always spaced ended = true

-- ---- their first tokens

number_plain : (sort : Sort) (spaced : Bool) → is_number sort ≡ true
    → begins_plainly true (written sort spaced terminals.Number) ≡ true
number_plain sorts.Digits spaced n = refl
number_plain sorts.Number spaced n = refl
number_plain _ spaced n = absurd (cc)

name_plain : (sort : Sort) (spaced digits : Bool) (terminal : _) → is_name sort ≡ true
    → begins_plainly digits (written sort spaced terminal) ≡ true
name_plain sorts.Dot spaced digits terminal n = absurd (cc)
name_plain sorts.OpenParen spaced digits terminal n = absurd (cc)
name_plain sorts.Digits spaced digits terminal n = absurd (cc)
name_plain sorts.Number spaced digits terminal n = absurd (cc)
name_plain _ spaced true terminal n = refl
name_plain _ spaced false terminal n = refl

-- ---- numbers and variables

number_in_text : (mode : Mode) (spaced : Bool) (sort : Sort) → is_number sort ≡ true
    → InText true Always mode spaced (written sort spaced terminals.Number ∷ [])
number_in_text mode spaced sort n = record {
  first = written sort spaced terminals.Number;
  others = [];
  is = refl;
  spaced_is = refl;
  plainly = number_plain sort spaced n;
  goes = λ inner ended rest f more. text_number sort n more;
}

variable_in_text : (mode : Mode) (spaced : Bool) (name : Sort) → is_name name ≡ true
    → InText false Always mode spaced
    (record { sort = sorts.Dollar; spaced = spaced; may_be = terminals.Dollar ∷ terminals.DollarNamed ∷ [] }
    ∷ direct name terminals.VariableName ∷ [])
variable_in_text mode spaced name n = record {
  first = record { sort = sorts.Dollar; spaced = spaced; may_be = terminals.Dollar ∷ terminals.DollarNamed ∷ [] };
  others = direct name terminals.VariableName ∷ [];
  is = refl;
  spaced_is = refl;
  plainly = refl;
  goes = λ inner ended rest f more. text_variable name n more;
}

owned_in_text : (mode : Mode) (spaced : Bool) (owner name : Sort) → is_name owner ≡ true → is_name name ≡ true
    → InText false Always mode spaced
    (written owner spaced terminals.Owner ∷ direct sorts.Dot terminals.OwnerDot
    ∷ direct sorts.Dollar terminals.OwnerDollar ∷ direct name terminals.VariableName ∷ [])
owned_in_text mode spaced owner name o n = record {
  first = written owner spaced terminals.Owner;
  others = direct sorts.Dot terminals.OwnerDot ∷ direct sorts.Dollar terminals.OwnerDollar ∷ direct name terminals.VariableName ∷ [];
  is = refl;
  spaced_is = refl;
  plainly = name_plain owner spaced false terminals.Owner o;
  goes = λ inner ended rest f more. text_owned_variable owner name o n more;
}

module _ (source : Source) (was : WasRead source) where
  pub kept_number : {i : ℕ} (span : Span) (old : Old source i (just terminals.Number))
      → WrittenAs (InText true Always)
      (expr_text (expression (exprs.Special (PlainParts (bytes_between source i (suc i)))) span))
      (tok terminals.Number (again.Bytes 1 (bytes_between source i (suc i))) ∷ [])
  kept_number {i} span old =
      same_as (sym (stays_as (bytes_between source i (suc i)) span)) refl (number_kept source was number_in_text i old)

  signed_in_text : (own : Sort) (text : List ℕ) → begins_plainly false (written own false terminals.Sign) ≡ true
      → ((spaced ended inner : Bool) (number : Sort) (rest : List Written) → is_number number ≡ true
      → sign_goes text spaced ended ≡ true → Special inner true rest
      → Special inner ended (written own spaced terminals.Sign ∷ direct number terminals.Number ∷ rest))
      → (mode : Mode) (spaced : Bool) (number : Sort) → is_number number ≡ true
      → InText false (sign_goes text) mode spaced (written own spaced terminals.Sign ∷ direct number terminals.Number ∷ [])
  signed_in_text own text plain goes mode spaced number n = record {
    first = written own spaced terminals.Sign;
    others = direct number terminals.Number ∷ [];
    is = refl;
    spaced_is = refl;
    plainly = plain;
    goes = λ inner ended rest f more. goes spaced ended inner number rest n f more;
  }

  pub kept_signed : {i : ℕ} (span : Span) (one : Old source i (just terminals.Sign))
      → Old source (suc i) (just terminals.Number)
      → WrittenAs (InText false (sign_goes (bytes_at source i)))
      (expr_text (expression (exprs.Special (PlainParts (bytes_between source i (suc (suc i))))) span))
      (tok terminals.Sign (again.Bytes 2 (bytes_between source i (suc (suc i)))) ∷ again.sign terminals.Number ∷ [])
  kept_signed {i} span one two = by_sign (sign_bytes source was i one)
    where
      text : List ℕ
      text = bytes_between source i (suc (suc i))

      by_sign : (bytes_at source i ≡ codes "+") ⊎ (bytes_at source i ≡ codes "-")
          → WrittenAs (InText false (sign_goes (bytes_at source i)))
          (expr_text (expression (exprs.Special (PlainParts (bytes_between source i (suc (suc i))))) span))
          (tok terminals.Sign (again.Bytes 2 (bytes_between source i (suc (suc i)))) ∷ again.sign terminals.Number ∷ [])
      by_sign (inl e) =
          same_as (sym (stays_as text span)) refl
          (plus_kept source was
          (signed_in_text sorts.Plus (bytes_at source i) refl
          (λ spaced ended inner number rest n f more.
          text_signed sorts.Plus number n (sym (ap (λ (t : List ℕ). sign_goes t spaced ended) e) ∙ f) more)) i one two e)
      by_sign (inr e) =
          same_as (sym (stays_as text span)) refl
          (minus_kept source was
          (signed_in_text sorts.Minus (bytes_at source i) refl
          (λ spaced ended inner number rest n f more.
          text_signed sorts.Minus number n (sym (ap (λ (t : List ℕ). sign_goes t spaced ended) e) ∙ f) more)) i one two e)

  pub kept_variable : {i : ℕ} (span : Span) → Old source (suc i) (just terminals.VariableName)
      → WrittenAs (InText false Always) (expr_text (expression (exprs.Variable (dashed (bytes_at source (suc i)))) span))
      (dollar ∷ tok terminals.VariableName (Dashed (dashed (bytes_at source (suc i)))) ∷ [])
  kept_variable {i} span two =
      same_as (sym (unrolled.variable_is (dashed (bytes_at source (suc i))))) refl
      (variable_written variable_in_text source (suc i) was two)

  pub kept_owned : {i : ℕ} (span : Span) → Old source i (just terminals.Owner)
      → Old source (suc (suc (suc i))) (just terminals.VariableName)
      → WrittenAs (InText false Always) (expr_text (expression (exprs.Qualified (qualified_of source i (suc (suc (suc i))))) span))
      (tok terminals.Owner (again.Bytes 1 (bytes_at source i)) ∷ again.sign terminals.OwnerDot ∷ again.sign terminals.OwnerDollar
      ∷ tok terminals.VariableName (Dashed (dashed (bytes_at source (suc (suc (suc i)))))) ∷ [])
  kept_owned {i} span one four =
      same_as (sym (unrolled.qualified_is (qualified_of source i (suc (suc (suc i)))))) refl
      (qualified_written owned_in_text source i was one four)

  -- ---- calls

  -- one name, which by itself stays no text
  abbrev AsName : Bool → Shape
  AsName owned mode spaced passed =
      (sort : Sort) × (is_name sort ≡ true) × (owned ≡ false → stays_text sort ≡ false)
      × (passed ≡ written sort spaced terminals.Word ∷ [])

  call_in_text : (mode : Mode) (spaced : Bool) (name args : List Written) → AsName false mode spaced name → Call args
      → InText false Always mode spaced (name ++ args)
  call_in_text mode spaced name args (sort, n, stays, is) call =
      subst (λ (t : List Written). InText false Always mode spaced (t ++ args)) (sym is)
      (record {
        first = written sort spaced terminals.Word;
        others = args;
        is = refl;
        spaced_is = refl;
        plainly = name_plain sort spaced false terminals.Word n;
        goes = λ inner ended rest f more. text_call sort n (stays refl) call more;
      })

  owned_call_in_text : (mode : Mode) (spaced : Bool) (owner : Sort) (name args : List Written) → is_name owner ≡ true
      → AsName true mode false name → Call args
      → InText false Always mode spaced (written owner spaced terminals.Owner ∷ direct sorts.Dot terminals.OwnerDot ∷ (name ++ args))
  owned_call_in_text mode spaced owner name args o (sort, n, stays, is) call =
      subst
      (λ (t : List Written). InText false Always mode spaced (written owner spaced terminals.Owner ∷ direct sorts.Dot terminals.OwnerDot ∷ (t ++ args)))
      (sym is)
      (record {
        first = written owner spaced terminals.Owner;
        others = direct sorts.Dot terminals.OwnerDot ∷ direct sort terminals.Word ∷ args;
        is = refl;
        spaced_is = refl;
        plainly = name_plain owner spaced false terminals.Owner o;
        goes = λ inner ended rest f more. text_owned_call owner sort o n call more;
      })

  name_in_text : (owned : Bool) {i : ℕ} (old : Old source i (just terminals.Word)) → ends_in_url (bytes_at source i) ≡ false
      → (owned ≡ false → stays_text (sort_there old) ≡ false)
      → CalleeAs (AsName owned) (bytes_at source i) (tok terminals.Word (from_start source i [] 1) ∷ [])
  name_in_text owned {i} old url stays =
      let it = old_token source was i old.lexeme old.there in
      name_called_as source i old it (no_url_at (bytes_at source i) url)
      (λ mode spaced b n. (sort_of it.kind it.text, n, λ e. sym (ap stays_text it.sort) ∙ stays e, refl))

  pub kept_call : {i : ℕ} (args : List Argument) {others : List Tok} (span name_span : Span)
      (old : Old source i (just terminals.Word)) → ends_in_url (bytes_at source i) ≡ false
      → stays_text (sort_there old) ≡ false → IsItems (with_commas true (map argument_text args)) others
      → WrittenAs (InText false Always)
      (expr_text
      (expression
      (exprs.Call (callee_of None (record { parts = parts_between source i (suc i) []; span = name_span })) args) span))
      (tok terminals.Word (from_start source i [] 1) ∷ call_tokens others)
  kept_call {i} args span name_span old url stays it =
      same_as (sym (named_call_text source i None args span name_span url)) refl
      (call_as call_in_text (name_in_text false old url (λ e. stays)) it)

  pub kept_owned_call : {i at : ℕ} (args : List Argument) {others : List Tok} (span name_span : Span)
      → Old source at (just terminals.Owner) → (old : Old source i (just terminals.Word))
      → ends_in_url (bytes_at source i) ≡ false → IsItems (with_commas true (map argument_text args)) others
      → WrittenAs (InText false Always)
      (expr_text
      (expression
      (exprs.Call (callee_of (Some (namespaced source at)) (record { parts = parts_between source i (suc i) []; span = name_span })) args)
      span))
      (tok terminals.Owner (again.Bytes 1 (bytes_at source at)) ∷ again.sign terminals.OwnerDot
      ∷ tok terminals.Word (from_start source i [] 1) ∷ call_tokens others)
  kept_owned_call {i} {at} args span name_span owner old url it =
      same_as (sym (named_call_text source i (Some (namespaced source at)) args span name_span url)) refl
      (owned_call_as owned_call_in_text source at was owner (name_in_text true old url (λ e. absurd (let wrong : true ≡ false = e in cc)))
      (name_dotted source i was old) it)

  -- calls as they are told
  pub call_alone : {i k : ℕ} {parts : Parts} {tokens others : List Tok} (args : List Argument) (span name_span : Span)
      (name : SpellsWord source i k parts tokens) → is_plainly_called source false name ≡ true
      → IsItems (with_commas true (map argument_text args)) others
      → WrittenAs (InText false Always)
      (expr_text (expression (exprs.Call (callee_of None (record { parts = parts; span = name_span })) args) span))
      (tokens ++ call_tokens others)
  call_alone args span name_span (spells.named {i} old spells.row_end) e it =
      kept_call args span name_span old
      (not_true (ends_in_url (bytes_at source i)) (and_right (not (stays_text (sort_there old))) _ e))
      (not_true (stays_text (sort_there old)) (and_left (not (stays_text (sort_there old))) _ e)) it
  call_alone args span name_span _ e it = absurd (cc)

  pub owned_call_alone : {i k at : ℕ} {parts : Parts} {tokens others : List Tok} (args : List Argument) (span name_span : Span)
      → Old source at (just terminals.Owner) → (name : SpellsWord source i k parts tokens)
      → is_plainly_called source true name ≡ true → IsItems (with_commas true (map argument_text args)) others
      → WrittenAs (InText false Always)
      (expr_text
      (expression (exprs.Call (callee_of (Some (namespaced source at)) (record { parts = parts; span = name_span })) args) span))
      (tok terminals.Owner (again.Bytes 1 (bytes_at source at)) ∷ again.sign terminals.OwnerDot ∷ (tokens ++ call_tokens others))
  owned_call_alone args span name_span owner (spells.named {i} old spells.row_end) e it =
      kept_owned_call args span name_span owner old (not_true (ends_in_url (bytes_at source i)) e) it
  owned_call_alone args span name_span owner _ e it = absurd (cc)
