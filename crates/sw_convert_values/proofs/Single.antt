-- Single values, and values that are lists or not.
use Rattle.std.proofs.Common.{◌≡◌, ◌⊎◌, ℕ, suc, true, false, List, [], ◌∷◌, inl, inr, refl, sym, ◌∙◌, ap}
use Rattle.sw_text.specs.declared.place.Span.{Span}
use Rattle.sw_tree.specs.declared.text.Parts.{Parts}
use Rattle.sw_tree.specs.declared.expr.Expr.{Expr}
use Rattle.sw_tree.specs.declared.expr.ExprKind.TheVariants as exprs
use Rattle.sw_parse_terminals.specs.declared.terminal.Terminal.TheVariants as terminals
use Rattle.sw_parse_terminals.specs.Numbers.{just}
use Rattle.sw_parse_table.specs.declared.source.Source.{Source}
use Rattle.sw_parse_table.specs.Operators.{constant_of, constant_in, constant_at}
use Rattle.sw_parse_table.specs.Sets.{constants}
use Rattle.sw_parse_table.specs.Sources.{parts_between}
use Rattle.sw_parse_table.specs.Values.{expression}
use Rattle.sw_convert_written.specs.Signs.{constant_text}
use Rattle.sw_convert_written.specs.Expressions.{expr_text}
use Rattle.sw_convert_written.proofs.Unrolled as unrolled
use Rattle.sw_convert_passing.specs.Values as passing
use Rattle.sw_convert_again.specs.Bare.{is_bare}
use Rattle.sw_convert_again.specs.Tokens.{Tok, tok, Old}
use Rattle.sw_convert_again.specs.Spells.{from_start, Spells, SpellsWord}
use Rattle.sw_convert_tokens.specs.Written.{AsValue, AsRow, WrittenAs}
use Rattle.sw_convert_tokens.specs.Values.{WasRead, IsValueWritten}
use Rattle.sw_convert_values.specs.Values.{is_led, goes_on, is_single, SinglesAreWritten}
use Rattle.sw_convert_texts.specs.Inserted.{WordHasValues}
use Rattle.sw_convert_texts.specs.Names.{is_mixed}
use Rattle.sw_convert_texts.proofs.WordsWithValues.{words_written as mixed_words_written}
use Rattle.sw_convert_tokens.proofs.Rows.{row_of}
use Rattle.sw_convert_tokens.proofs.Words.{word_written}
use Rattle.sw_convert_tokens.proofs.Olds.{old_token}
use Rattle.sw_convert_values.proofs.Reserved.{whole_unreserved}
use Rattle.sw_convert_values.proofs.Shapes.{same}

pub unsigned : {source : Source} {i : ℕ} {text : List ℕ} {tokens : List Tok} → WrittenAs (AsValue false) text tokens
    → IsValueWritten source i text tokens
unsigned it = record { signed = false; written = it; sign = λ e. absurd (cc) }

pub retold : {source : Source} {i : ℕ} {xs ys : List ℕ} {ks ls : List Tok} → xs ≡ ys → ks ≡ ls
    → IsValueWritten source i xs ks → IsValueWritten source i ys ls
retold e f a = record { signed = a.signed; written = same e f a.written; sign = a.sign }

pub constant_is : {source : Source} {i : ℕ} (old : Old source i constants) (span : Span)
    → expr_text (expression (exprs.Constant (constant_at source i)) span)
    ≡ constant_text (constant_of old.lexeme.terminal)
constant_is {source} {i} old span = unrolled.constant_is (constant_at source i) ∙ ap constant_text (ap constant_in old.there)

-- ---- a value, or a list with commas and without brackets

abbrev pub Either : Source → ℕ → Expr → List Tok → Type 0
Either source i value tokens =
    IsValueWritten source i (expr_text value) tokens
    ⊎ ((is_bare value ≡ true) × WrittenAs AsRow (expr_text value) tokens)

pub row_in : {source : Source} {i : ℕ} (value : Expr) {tokens : List Tok} → Either source i value tokens
    → WrittenAs AsRow (expr_text value) tokens
row_in value (inl it) = row_of it.written
row_in value (inr (e, it)) = it

pub plain_in : {source : Source} {i : ℕ} (value : Expr) {tokens : List Tok} → is_bare value ≡ false
    → Either source i value tokens → IsValueWritten source i (expr_text value) tokens
plain_in value bare (inl it) = it
plain_in value bare (inr (e, it)) = absurd (cc)

-- ---- what is asked for, and words

module _ (source : Source) (was : WasRead source) (known : SinglesAreWritten source) where
  pub single : {i j : ℕ} {value : Expr} {tokens : List Tok} → is_led source i ≡ false → goes_on source j ≡ false
      → (spelt : Spells source i j value tokens) → is_single spelt ≡ true → IsValueWritten source i (expr_text value) tokens
  single {i} {j} {value} {tokens} led ended spelt e = unsigned (known i j value tokens spelt led ended e)

  -- a name by itself
  pub name_in : {i : ℕ} → is_led source i ≡ false → goes_on source (suc i) ≡ false → (span : Span) (old : Old source i (just terminals.Word))
      → IsValueWritten source i (expr_text (expression (exprs.Word (parts_between source i (suc i) [])) span))
      (tok terminals.Word (from_start source i [] 1) ∷ [])
  name_in {i} led ended span old =
      let it = old_token source was i old.lexeme old.there in
      unsigned (word_written source i span old it (whole_unreserved source was i led ended old it))

  -- a word with `#{}`
  pub mixed_in : {i j : ℕ} {parts : Parts} {tokens : List Tok} (span : Span)
      (word : SpellsWord source i j parts tokens)
      → is_mixed word ≡ true → WordHasValues word
      → IsValueWritten source i (expr_text (expression (exprs.Word parts) span)) tokens
  mixed_in {i} {j} {parts} {tokens} span word mixed values =
      unsigned (same (sym (unrolled.word_is parts)) refl
      (λ before spaced calm.
      let it = mixed_words_written source i j parts tokens was word mixed values before spaced calm in record {
        passed = it.passed;
        segment = it.segment;
        told = λ mode free. passing.word (it.told mode false false);
      }))
