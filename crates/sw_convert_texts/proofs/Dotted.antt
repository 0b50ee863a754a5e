-- A word with `#{}` may stand behind the `.` of a namespace: no digit and no `.` begins it.
use Rattle.std.proofs.Common.{◌≡◌, ℕ, ◌+◌, true, List, ◌++◌, refl, sym, ◌∙◌, ap, subst, append_assoc}
use Rattle.sw_text_scan.specs.Bytes.{byte}
use Rattle.sw_tree.specs.declared.text.Parts.{Parts}
use Rattle.sw_tokens.specs.declared.token.TokenKind.TheVariants as kinds
use Rattle.sw_parse_terminals.specs.declared.terminal.Terminal.{Terminal}
use Rattle.sw_parse_lexemes.specs.declared.sort.Sort.TheVariants as sorts
use Rattle.sw_parse_lexemes.specs.Ahead.{sort_at, is_direct}
use Rattle.sw_parse_lexemes.specs.Classes.{is_name}
use Rattle.sw_parse_table.specs.declared.source.Source.{Source}
use Rattle.sw_parse_table.specs.Sources.{bytes_at}
use Rattle.sw_convert_again.specs.Tokens.{Tok}
use Rattle.sw_convert_again.specs.Spells.{SpellsWord}
use Rattle.sw_convert_again.specs.Spells as spells
use Rattle.sw_convert_tokens.specs.Values.{WasRead}
use Rattle.sw_convert_tokens.proofs.Calls.{Dotted, name_dotted}
use Rattle.sw_convert_tokens.proofs.Signs.{Fits}
use Rattle.sw_convert_texts.specs.Inserted.{WordHasValues}
use Rattle.sw_convert_texts.specs.Names.{joined, Opens}
use Rattle.sw_convert_texts.proofs.TerminalChoices.{comes}
use Rattle.sw_convert_texts.proofs.LexemePairs.{plains_in, comes_at}
use Rattle.sw_convert_texts.proofs.OldRows.{row_text, started_is}
use Rattle.sw_convert_texts.proofs.MinusBefore.{minus_there}
use Rattle.sw_convert_texts.proofs.Endings.{opens_ending}
use Rattle.sw_convert_texts.proofs.WordKinds.{only_word}
use Rattle.sw_convert_texts.proofs.WordsWithValues.{first_there, begun_text, minus_text}

module _ (source : Source) (was : WasRead source) where
  pub mixed_dotted : {i j : ℕ} {parts : Parts} {tokens : List Tok} (spelt : SpellsWord source i j parts tokens)
      → WordHasValues spelt → Dotted (joined parts)
  unfolding byte
  mixed_dotted (spells.named {i} old row) has after =
      let it = comes_at source was i old.lexeme old.there in
      let n : is_name (sort_at (plains_in source) old.lexeme.token) ≡ true =
      ap
      (λ (t : Terminal). comes t (sort_at (plains_in source) old.lexeme.token) it.goes (is_direct (plains_in source) (old.lexeme.token + 1) sorts.OpenInsert) it.touches)
      (sym (only_word old.lexeme.terminal old.kind))
      ∙ it.fit in
      let (first, named) = first_there Opens opens_ending source was i old.lexeme old.there n in
      subst (λ (t : List ℕ). Fits kinds.Dot (t ++ after)) (sym (started_is source was row first.lexeme first.there first.low))
      (subst (λ (t : List ℕ). Fits kinds.Dot t) (sym (append_assoc (bytes_at source i) (row_text source row) after))
      (name_dotted source i was old (row_text source row ++ after)))
  mixed_dotted (spells.begun {i = i} {value = value} opens inner close row) (written_so, has) after =
      subst (λ (t : List ℕ). Fits kinds.Dot (t ++ after))
      (sym (begun_text Opens opens_ending source was i value close row written_so has)) refl
  mixed_dotted (spells.begun_minus {i = i} {value = value} minus opens inner close row) (written_so, has) after =
      let it = minus_there source was i minus opens in
      subst (λ (t : List ℕ). Fits kinds.Dot (t ++ after))
      (sym (minus_text Opens opens_ending source was i value close row written_so has it.dash it.sticks)) refl
