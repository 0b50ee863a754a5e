-- Calls.
use Rattle.std.proofs.Common.{◌≡◌, ℕ, Bool, true, false, if◌then◌else◌, not, Some, None, List, [], ◌∷◌, ◌++◌, map, append-nil, refl, sym, ◌∙◌, ap, subst, append_assoc}
use Rattle.std.specs.Prelude.{codes}
use Rattle.sw_text.specs.declared.place.Span.{Span}
use Rattle.sw_text_scan.proofs.Bounds.{and_left, and_right, not_true}
use Rattle.sw_tokens.specs.declared.pieces.Before.{Before}
use Rattle.sw_tree.specs.declared.text.Parts.{Parts}
use Rattle.sw_tree.specs.declared.expr.Argument.{Argument}
use Rattle.sw_tree.specs.declared.expr.ExprKind.TheVariants as exprs
use Rattle.sw_parse_terminals.specs.declared.terminal.Terminal.TheVariants as terminals
use Rattle.sw_parse_terminals.specs.Numbers.{just}
use Rattle.sw_parse_lexemes.specs.Classes.{is_reserved}
use Rattle.sw_parse_lexemes.specs.Words.{word_sort}
use Rattle.sw_parse_table.specs.declared.source.Source.{Source}
use Rattle.sw_parse_table.specs.Sources.{bytes_at}
use Rattle.sw_parse_table.specs.Values.{expression, callee_of, namespaced}
use Rattle.sw_convert_written.specs.Expressions.{expr_text, with_commas, ends_in_url, argument_text}
use Rattle.sw_convert_again.specs.Tokens.{Tok, tok, Old}
use Rattle.sw_convert_again.specs.Tokens as again
use Rattle.sw_convert_again.specs.Spells.{call_tokens, SpellsWord, paren}
use Rattle.sw_convert_again.specs.Spells as spells
use Rattle.sw_convert_tokens.specs.Written.{AsValue, WrittenAs}
use Rattle.sw_convert_tokens.specs.Values.{WasRead}
use Rattle.sw_convert_values.specs.Values.{is_led, is_called, is_name_called}
use Rattle.sw_convert_tokens.specs.Calls.{is_unspecial}
use Rattle.sw_convert_tokens.proofs.Calls.{call_written, owned_call_written, name_called, name_dotted, call_shown, named_call_text}
use Rattle.sw_convert_tokens.proofs.Arguments.{IsItems, ArgumentsBehind}
use Rattle.sw_convert_texts.specs.Inserted.{WordHasValues}
use Rattle.sw_convert_texts.specs.Names.{joined, is_mixed}
use Rattle.sw_convert_texts.proofs.Dotted.{mixed_dotted}
use Rattle.sw_convert_texts.proofs.WordsWithValues.{called_words_written as mixed_called_written}
use Rattle.sw_convert_tokens.proofs.Joins.{as_behind}
use Rattle.sw_convert_tokens.proofs.Olds.{old_token}
use Rattle.sw_convert_values.proofs.Reserved.{called_unreserved, free_sort}
use Rattle.sw_convert_values.proofs.Shapes.{same, no_url_at, opens_paren}

-- ---- arguments

pub arguments_as : {before : Before} {spaced : Bool} {xs ys : List ℕ} {ks ls : List Tok} → xs ≡ ys → ks ≡ ls
    → ArgumentsBehind before spaced false xs ks → ArgumentsBehind before spaced false ys ls
arguments_as {before} {spaced} {xs} {ys} {ks} {ls} e f a =
    subst (λ (t : List Tok). ArgumentsBehind before spaced false ys t) f
    (subst (λ (t : List ℕ). ArgumentsBehind before spaced false t ks) e a)

-- a name, `: ` and a value
pub named_text : (name value : List ℕ) → name ++ (codes ": " ++ value) ≡ (name ++ codes ": ") ++ (value ++ [])
named_text name value =
    sym (append_assoc name (codes ": ") value) ∙ ap (λ (t : List ℕ). (name ++ codes ": ") ++ t) (sym (append-nil value))

module _ (source : Source) (was : WasRead source) where
  -- calls by one name, and by a word with `#{}`
  one_called : {i k : ℕ} {parts : Parts} {tokens others : List Tok} (args : List Argument) (span name_span : Span)
      → is_led source i ≡ false → Old source k (just terminals.CallParen)
      → (name : SpellsWord source i k parts tokens) → is_name_called source false name ≡ true
      → IsItems (with_commas true (map argument_text args)) others
      → WrittenAs (AsValue false)
      (expr_text (expression (exprs.Call (callee_of None (record { parts = parts; span = name_span })) args) span))
      (tokens ++ call_tokens others)
  one_called args span name_span led opens (spells.named {i} old spells.row_end) e it =
      let name = bytes_at source i in
      let url = not_true (ends_in_url name) (and_right (is_unspecial false name) _ e) in
      let token = old_token source was i old.lexeme old.there in
      same (sym (named_call_text source i None args span name_span url)) refl
      (call_written
      (name_called source i old token false (called_unreserved source was i led old token opens)
      (and_left (is_unspecial false name) _ e) (no_url_at name url)) it)
  one_called args span name_span led opens _ e it = absurd (cc)

  mixed_called : {i k : ℕ} {parts : Parts} {tokens others : List Tok} (args : List Argument) (span name_span : Span)
      → (name : SpellsWord source i k parts tokens) → is_mixed name ≡ true
      → ends_in_url (joined parts) ≡ false → WordHasValues name
      → IsItems (with_commas true (map argument_text args)) others
      → WrittenAs (AsValue false)
      (expr_text (expression (exprs.Call (callee_of None (record { parts = parts; span = name_span })) args) span))
      (tokens ++ call_tokens others)
  mixed_called {i} {k} {parts} {tokens} args span name_span name mixed no_url values it =
      same (sym (call_shown None parts args span name_span (joined parts) refl no_url)) refl
      (call_written
      (λ before spaced calm.
      let name_written = mixed_called_written source i k parts tokens was name mixed values before spaced calm in record {
        passed = name_written.passed;
        segment = as_behind (λ after b. record { paren = opens_paren after b; named = no_url }) name_written.segment;
        told = λ mode free. name_written.told mode false true;
      }) it)

  pub called_in : {i k : ℕ} {parts : Parts} {tokens others : List Tok} (args : List Argument) (span name_span : Span)
      → is_led source i ≡ false → Old source k (just terminals.CallParen)
      → (name : SpellsWord source i k parts tokens) → is_called source false name ≡ true → WordHasValues name
      → IsItems (with_commas true (map argument_text args)) others
      → WrittenAs (AsValue false)
      (expr_text (expression (exprs.Call (callee_of None (record { parts = parts; span = name_span })) args) span))
      (tokens ++ call_tokens others)
  called_in {parts = parts} {tokens = tokens} {others = others} args span name_span led opens name e values it = go (is_mixed name) refl e
    where
      go : (t : Bool) → is_mixed name ≡ t
          → (if t then not (ends_in_url (joined parts)) else is_name_called source false name) ≡ true
          → WrittenAs (AsValue false)
          (expr_text (expression (exprs.Call (callee_of None (record { parts = parts; span = name_span })) args) span))
          (tokens ++ call_tokens others)
      go true mixed f =
          mixed_called args span name_span name mixed (not_true (ends_in_url (joined parts)) f) values it
      go false mixed f = one_called args span name_span led opens name f it

  -- the same behind a namespace
  one_owned : {i k : ℕ} {parts : Parts} {tokens others : List Tok} (args : List Argument) (span name_span : Span)
      → {at : ℕ} → Old source at (just terminals.Owner)
      → (name : SpellsWord source i k parts tokens) → is_name_called source true name ≡ true
      → IsItems (with_commas true (map argument_text args)) others
      → WrittenAs (AsValue false)
      (expr_text
      (expression
      (exprs.Call (callee_of (Some (namespaced source at)) (record { parts = parts; span = name_span })) args) span))
      (tok terminals.Owner (again.Bytes 1 (bytes_at source at)) ∷ again.sign terminals.OwnerDot
      ∷ (tokens ++ call_tokens others))
  one_owned args span name_span {at} owner (spells.named {i} old spells.row_end) e it =
      let name = bytes_at source i in
      let url = not_true (ends_in_url name) (and_right (not (is_reserved (word_sort name))) _ e) in
      let token = old_token source was i old.lexeme old.there in
      let free = not_true (is_reserved (word_sort name)) (and_left (not (is_reserved (word_sort name))) _ e) in
      same (sym (named_call_text source i (Some (namespaced source at)) args span name_span url)) refl
      (owned_call_written source at was owner
      (name_called source i old token true (free_sort source i old token free) refl (no_url_at name url))
      (name_dotted source i was old) it)
  one_owned args span name_span owner _ e it = absurd (cc)

  mixed_owned : {i k : ℕ} {parts : Parts} {tokens others : List Tok} (args : List Argument) (span name_span : Span)
      → {at : ℕ} → Old source at (just terminals.Owner)
      → (name : SpellsWord source i k parts tokens) → is_mixed name ≡ true
      → ends_in_url (joined parts) ≡ false → WordHasValues name
      → IsItems (with_commas true (map argument_text args)) others
      → WrittenAs (AsValue false)
      (expr_text
      (expression
      (exprs.Call (callee_of (Some (namespaced source at)) (record { parts = parts; span = name_span })) args) span))
      (tok terminals.Owner (again.Bytes 1 (bytes_at source at)) ∷ again.sign terminals.OwnerDot
      ∷ (tokens ++ call_tokens others))
  mixed_owned {i} {k} {parts} {tokens} args span name_span {at} owner name mixed no_url values it =
      same
      (sym (call_shown (Some (namespaced source at)) parts args span name_span (joined parts) refl
      no_url)) refl
      (owned_call_written source at was owner
      (λ before spaced calm.
      let name_written = mixed_called_written source i k parts tokens was name mixed values before spaced calm in record {
        passed = name_written.passed;
        segment = as_behind (λ after b. record { paren = opens_paren after b; named = no_url }) name_written.segment;
        told = λ mode free. name_written.told mode true true;
      }) (mixed_dotted source was name values) it)

  pub owned_in : {i k : ℕ} {parts : Parts} {tokens others : List Tok} (args : List Argument) (span name_span : Span)
      → {at : ℕ} → Old source at (just terminals.Owner)
      → (name : SpellsWord source i k parts tokens) → is_called source true name ≡ true → WordHasValues name
      → IsItems (with_commas true (map argument_text args)) others
      → WrittenAs (AsValue false)
      (expr_text
      (expression
      (exprs.Call (callee_of (Some (namespaced source at)) (record { parts = parts; span = name_span })) args) span))
      (tok terminals.Owner (again.Bytes 1 (bytes_at source at)) ∷ again.sign terminals.OwnerDot
      ∷ (tokens ++ call_tokens others))
  owned_in {parts = parts} {tokens = tokens} {others = others} args span name_span {at} owner name e values it =
      go (is_mixed name) refl e
    where
      go : (t : Bool) → is_mixed name ≡ t
          → (if t then not (ends_in_url (joined parts)) else is_name_called source true name) ≡ true
          → WrittenAs (AsValue false)
          (expr_text
          (expression
          (exprs.Call (callee_of (Some (namespaced source at)) (record { parts = parts; span = name_span })) args) span))
          (tok terminals.Owner (again.Bytes 1 (bytes_at source at)) ∷ again.sign terminals.OwnerDot
          ∷ (tokens ++ call_tokens others))
      go true mixed f =
          mixed_owned args span name_span owner name mixed (not_true (ends_in_url (joined parts)) f) values it
      go false mixed f = one_owned args span name_span owner name f it
