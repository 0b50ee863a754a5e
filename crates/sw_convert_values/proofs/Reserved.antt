-- Where a name that is a constant or an operator is read as a word, in a sheet that was read.
use Rattle.std.proofs.Common.{◌≡◌, ℕ, zero, suc, ◌+◌, true, false, List, [], ◌∷◌, Option, Some, inl, inr, refl, sym, ◌∙◌, ap, subst}
use Rattle.std.specs.Prelude.{slice_get, unwrap_or}
use Rattle.sw_parse_terminals.specs.declared.terminal.Terminal.{Terminal}
use Rattle.sw_parse_terminals.specs.declared.terminal.Terminal.TheVariants as terminals
use Rattle.sw_parse_terminals.specs.declared.lexeme.Lexeme.{Lexeme}
use Rattle.sw_parse_lexemes.specs.declared.sort.Sort.TheVariants as sorts
use Rattle.sw_parse_lexemes.specs.declared.plain.Plain.{Plain}
use Rattle.sw_parse_lexemes.specs.Classes.{is_name, is_reserved}
use Rattle.sw_parse_lexemes.specs.Ahead.{is_direct}
use Rattle.sw_parse_lexemes.specs.Plains.{plains_of}
use Rattle.sw_parse_lexemes.specs.Laws.{EachBehind}
use Rattle.sw_parse_terminals.specs.Numbers.{number_of, just}
use Rattle.sw_parse_grammar.specs.Grammar.{member}
use Rattle.sw_parse_lexemes.specs.Sorts.{sort_of}
use Rattle.sw_parse_lexemes.specs.Words.{word_sort}
use Rattle.sw_parse_table.specs.declared.source.Source.{Source}
use Rattle.sw_parse_table.specs.Sources.{bytes, bytes_at, lexeme_at}
use Rattle.sw_convert_spelling.proofs.Choices.{by_test}
use Rattle.sw_convert_again.specs.Tokens.{Old}
use Rattle.sw_convert_tokens.specs.Values.{WasRead}
use Rattle.sw_convert_tokens.proofs.Olds.{OldToken}
use Rattle.sw_convert_tokens.proofs.OriginChoices.{fits}
use Rattle.sw_convert_tokens.proofs.Words.{only_word, kind_of_name, name_reserved, copied_bytes}
use Rattle.sw_convert_values.specs.Values.{leads, leads_in, is_led, is_part_insert, part_in, goes_on}
use Rattle.sw_convert_values.proofs.ReservedWords.{is_word, Reason, WordIs, reserved_words, begins_part, AllGoOn, words_go_on}

-- ---- of one lexeme among all

module _ (Law : Terminal → Lexeme → Type 0) where
  some_is : (x y : Lexeme) → Some x ≡ Some y → x ≡ y
  some_is x y e = ap (λ (o : Option Lexeme). unwrap_or o x) e

  -- of the first, and of one behind another
  pub first_law : (before : Terminal) (lexemes : List Lexeme) (b : Lexeme) → EachBehind Law before lexemes
      → slice_get lexemes zero ≡ Some b → Law before b
  first_law before [] b each got = absurd (cc)
  first_law before (x ∷ xs) b (l, each) got = subst (Law before) (some_is x b got) l

  pub next_law : (before : Terminal) (lexemes : List Lexeme) (at : ℕ) (b : Lexeme) → EachBehind Law before lexemes
      → slice_get lexemes (suc at) ≡ Some b → (a : Lexeme) × (slice_get lexemes at ≡ Some a) × Law a.terminal b
  next_law before [] at b each got = absurd (cc)
  next_law before (x ∷ xs) zero b (l, each) got = (x, refl, first_law x.terminal xs b each got)
  next_law before (x ∷ xs) (suc at) b (l, each) got = next_law x.terminal xs at b each got

begins_there : (lexemes : List Lexeme) → begins_part lexemes ≡ true → part_in (slice_get lexemes zero) ≡ true
begins_there [] e = absurd (cc)
begins_there (x ∷ xs) e = e

goes_there : (plains : List Plain) (lexemes : List Lexeme) (at : ℕ) (a : Lexeme) → AllGoOn plains lexemes
    → slice_get lexemes at ≡ Some a → is_word a.terminal ≡ true
    → is_direct plains (a.token + 1) sorts.OpenInsert ≡ true → part_in (slice_get lexemes (suc at)) ≡ true
goes_there plains [] at a all got w d = absurd (cc)
goes_there plains (x ∷ xs) zero a (goes, all) got w d =
    let same : a ≡ x = ap (λ (o : Option Lexeme). unwrap_or o a) (sym got) in
    begins_there xs
    (goes (ap (λ (l : Lexeme). is_word l.terminal) (sym same) ∙ w)
    (ap (λ (l : Lexeme). is_direct plains (l.token + 1) sorts.OpenInsert) (sym same) ∙ d))
goes_there plains (x ∷ xs) (suc at) a (goes, all) got w d = goes_there plains xs at a all got w d

module _ (source : Source) (was : WasRead source) where
  abbrev plains_in : List Plain
  plains_in = plains_of (bytes source) source.tokens.now.list

  each : EachBehind (WordIs plains_in) terminals.Semicolon source.lexemes.now
  each =
      subst (λ (l : List Lexeme). EachBehind (WordIs plains_in) terminals.Semicolon l) (sym was.lexemes)
      (reserved_words (bytes source) source.tokens.now.list)

  all : AllGoOn plains_in source.lexemes.now
  all = subst (AllGoOn plains_in) (sym was.lexemes) (words_go_on (bytes source) source.tokens.now.list)

  -- such a word is no more than the first token of one
  reserved_goes_on : (i : ℕ) → is_led source i ≡ false → (old : Old source i (just terminals.Word))
      (it : OldToken source i old.lexeme) → is_reserved (sort_of it.kind it.text) ≡ true
      → goes_on source (suc i) ≡ true
  reserved_goes_on i led old it r = by i led old.there
    where
      word : is_word old.lexeme.terminal ≡ true
      word = ap is_word (only_word old.lexeme.terminal old.kind)

      told : {before : Terminal} → leads before ≡ false → WordIs plains_in before old.lexeme
          → is_direct plains_in (old.lexeme.token + 1) sorts.OpenInsert ≡ true
      told {before} calm law = either (law.reserved word (ap is_reserved it.sort ∙ r))
        where
          either : Reason plains_in before old.lexeme.token
              → is_direct plains_in (old.lexeme.token + 1) sorts.OpenInsert ≡ true
          either (inl l) = absurd (let wrong : true ≡ false = sym l ∙ calm in cc)
          either (inr d) = d

      by : (k : ℕ) → is_led source k ≡ false → lexeme_at source k ≡ Some old.lexeme → goes_on source (suc k) ≡ true
      by zero calm there =
          goes_there plains_in source.lexemes.now zero old.lexeme all there word
          (told refl (first_law (WordIs plains_in) terminals.Semicolon source.lexemes.now old.lexeme each there))
      by (suc k) calm there =
          let (a, got, law) = next_law (WordIs plains_in) terminals.Semicolon source.lexemes.now k old.lexeme each there in
          goes_there plains_in source.lexemes.now (suc k) old.lexeme all there word
          (told (ap leads_in (sym got) ∙ calm) law)

  -- none is a whole one
  pub whole_unreserved : (i : ℕ) → is_led source i ≡ false → goes_on source (suc i) ≡ false
      → (old : Old source i (just terminals.Word)) (it : OldToken source i old.lexeme)
      → is_reserved (sort_of it.kind it.text) ≡ false
  whole_unreserved i led ended old it =
      by_test (is_reserved (sort_of it.kind it.text) ≡ false) (is_reserved (sort_of it.kind it.text))
      (λ t. absurd (let wrong : true ≡ false = sym (reserved_goes_on i led old it t) ∙ ended in cc)) (λ t. t)

  -- and none is called
  pub called_unreserved : (i : ℕ) → is_led source i ≡ false → (old : Old source i (just terminals.Word))
      (it : OldToken source i old.lexeme) → Old source (suc i) (just terminals.CallParen)
      → is_reserved (sort_of it.kind it.text) ≡ false
  called_unreserved i led old it opens =
      whole_unreserved i led (ap part_in opens.there ∙ call_no opens.lexeme.terminal opens.kind) old it
    where
      call_no : (terminal : Terminal) → member (number_of terminal) (just terminals.CallParen) ≡ true
          → is_part_insert terminal ≡ false
      call_no terminals.PartInsert m = absurd (cc)
      call_no _ m = refl

-- the same by its bytes
pub free_sort : (source : Source) (i : ℕ) (old : Old source i (just terminals.Word)) (it : OldToken source i old.lexeme)
    → is_reserved (word_sort (bytes_at source i)) ≡ false → is_reserved (sort_of it.kind it.text) ≡ false
free_sort source i old it free =
    let n : is_name (sort_of it.kind it.text) ≡ true =
    ap (λ (t : Terminal). fits t (sort_of it.kind it.text)) (sym (only_word old.lexeme.terminal old.kind)) ∙ it.fit in
    name_reserved it.kind it.text (kind_of_name it.kind it.text n)
    (ap (λ (t : List ℕ). is_reserved (word_sort t)) (sym (copied_bytes source i old.lexeme it n)) ∙ free)
