-- The configuration of `@forward`.
use Rattle.std.proofs.Common.{◌≡◌, ℕ, suc, Bool, true, false, List, [], ◌∷◌, ◌++◌, map, append-nil, refl, sym, ◌∙◌, ap, subst, append_assoc}
use Rattle.std.specs.Prelude.{codes}
use Rattle.sw_text_scan.specs.Bytes.{sign}
use Rattle.sw_tree.specs.declared.load.Given.{Given}
use Rattle.sw_tokens.specs.declared.pieces.Before.{Before}
use Rattle.sw_tokens.specs.declared.pieces.Before.TheVariants as befores
use Rattle.sw_parse_terminals.specs.declared.terminal.Terminal.TheVariants as terminals
use Rattle.sw_parse_terminals.specs.Numbers.{just}
use Rattle.sw_parse_lexemes.specs.declared.sort.Sort.{Sort}
use Rattle.sw_parse_lexemes.specs.declared.sort.Sort.TheVariants as sorts
use Rattle.sw_parse_lexemes.specs.declared.state.Mode.{Mode}
use Rattle.sw_parse_lexemes.specs.declared.state.Mode.TheVariants as modes
use Rattle.sw_parse_lexemes.specs.Classes.{is_name}
use Rattle.sw_parse_table.specs.declared.source.Source.{Source}
use Rattle.sw_parse_table.specs.Actions.{name_at}
use Rattle.sw_convert_spelling.proofs.Choices.{right_no}
use Rattle.sw_convert_written.specs.Escapes.{ends_unclosed, space_behind}
use Rattle.sw_convert_written.specs.Expressions.{with_commas}
use Rattle.sw_convert_written.specs.Heads.{given_text}
use Rattle.sw_convert_written.specs.Names.{dollar_name}
use Rattle.sw_convert_passing.specs.Written.{Written, direct}
use Rattle.sw_convert_passing.specs.Values.{Value, Flags, no_flag, flag, seamed, dollar}
use Rattle.sw_convert_again.specs.Tokens.{Tok, Old}
use Rattle.sw_convert_again.specs.Tokens as again
use Rattle.sw_convert_again.specs.Params.{dollar_tokens}
use Rattle.sw_convert_again.specs.Loads.{SpellsConfigured, SpellsMoreConfigured, SpellsConfiguration, configured_variable, configured_default, no_more_configured, more_configured, no_configuration, some_configuration}
use Rattle.sw_convert_tokens.specs.Written.{Follows, gap_of, begins_white, AsValue, WrittenAs}
use Rattle.sw_convert_tokens.specs.Values.{WasRead}
use Rattle.sw_convert_tokens.proofs.Spaces.{space_by}
use Rattle.sw_convert_tokens.proofs.Unclosed.{space_ends, unclosed_behind, follows_end}
use Rattle.sw_convert_heads_passing.specs.Loads.{Entries, entry, one_entry, more_entries, ForwardConfiguration, configuration_in}
use Rattle.sw_convert_heads_passing.specs.Loads as loads
use Rattle.sw_convert_texts.specs.RawTexts.{SheetSegment}
use Rattle.sw_convert_values.proofs.Starts.{behind_old}
use Rattle.sw_convert_values.specs.Values.{goes_on}
use Rattle.sw_convert_values.proofs.Stops.{before_old, before_end}
use Rattle.sw_convert_statements.proofs.StatementStops.{before_configured}
use Rattle.sw_convert_statements.specs.Segments.{seams}
use Rattle.sw_convert_statements.specs.Fronts.{ValuesAreKnown}
use Rattle.sw_convert_statements.proofs.Configurations.{IsConfigured, nothing_configured, with_written, behind_colon}
use Rattle.sw_convert_statements.proofs.Flags.{default_flag, one_flag, flag_closed, flag_of}
use Rattle.sw_convert_statements.proofs.Params.{comma_segment, behind_comma, variable_at}
use Rattle.sw_convert_statements.proofs.Segments.{sheet, join, as_text, as_passed, as_behind}
use Rattle.sw_convert_statements.proofs.Variables.{colon_segment}

-- ---- one variable

-- its name and its value, with a space before it or none
record IsValued (spaced : Bool) (text : List ℕ) (tokens : List Tok) : Type 0 where
  name : Sort
  is : is_name name ≡ true
  signed : Bool
  value : List Written
  told : Value modes.Ends true signed value
  segment : SheetSegment befores.Other (gap_of spaced ++ text) tokens
      (dollar spaced ∷ direct name terminals.VariableName ∷ direct sorts.Colon terminals.Colon ∷ value) befores.Other
      (Follows text)

-- and its flags
record IsEntry (spaced : Bool) (text : List ℕ) (tokens : List Tok) : Type 0 where
  name : Sort
  is : is_name name ≡ true
  signed : Bool
  value : List Written
  told : Value modes.Ends true signed value
  flags : List Written
  are : Flags flags
  segment : SheetSegment befores.Other (gap_of spaced ++ text) tokens (entry spaced name value flags) befores.Other
      (Follows text)

valued_written : (source : Source) (i : ℕ) → WasRead source → Old source i (just terminals.VariableName) → {signed : Bool}
    {value : List ℕ} {tokens : List Tok} → WrittenAs (AsValue signed) value tokens → (spaced : Bool)
    → IsValued spaced (dollar_name (name_at source i) ++ (codes ": " ++ value))
    (dollar_tokens (name_at source i) ++ again.sign terminals.Colon ∷ tokens)
valued_written source i was old {signed} {value} it spaced =
    let one = variable_at source was i old spaced in
    let two = it befores.Other true refl in
    let name = dollar_name (name_at source i) in record {
      name = one.sort;
      is = one.is;
      signed = signed;
      value = two.passed;
      told = two.told modes.Ends refl;
      segment = as_behind (λ after f. behind_colon name value after f)
          (as_text (append_assoc (gap_of spaced) name (codes ": " ++ value))
          (join (sheet one.segment) (join (sheet colon_segment) (sheet two.segment) (λ after f. tt))
          (λ after f. record { stop = refl; closed = refl })));
    }

without_flag : {spaced : Bool} {text : List ℕ} {tokens : List Tok} → IsValued spaced text tokens
    → IsEntry spaced (text ++ []) tokens
without_flag {spaced} {text} it = record {
  name = it.name;
  is = it.is;
  signed = it.signed;
  value = it.value;
  told = it.told;
  flags = [];
  are = no_flag;
  segment = as_behind (λ after f. subst (λ (x : List ℕ). Follows x after) (append-nil text) f)
      (as_text (ap (λ (x : List ℕ). gap_of spaced ++ x) (sym (append-nil text)))
      (as_passed
      (ap (λ (l : List Written). dollar spaced ∷ direct it.name terminals.VariableName ∷ direct sorts.Colon terminals.Colon ∷ l)
      (sym (append-nil it.value))) it.segment));
}

-- ---- with a flag

unclosed_gap : (spaced : Bool) (text : List ℕ) → ends_unclosed (gap_of spaced ++ text) ≡ ends_unclosed text
unclosed_gap true text = unclosed_behind [] text (sign " ") space_ends
unclosed_gap false text = refl

follows_gap : (spaced : Bool) (text after : List ℕ) → Follows (gap_of spaced ++ text) after → Follows text after
follows_gap true text after f = follows_end [] text (sign " ") space_ends after f
follows_gap false text after f = f

-- a value with the comment that an escape at its end needs
seamed_by : (unclosed : Bool) {mode : Mode} {spaced signed : Bool} {value : List Written} → Value mode spaced signed value
    → Value mode spaced signed (value ++ seams unclosed)
seamed_by true it = seamed it
seamed_by false {mode} {spaced} {signed} it =
    subst (λ (l : List Written). Value mode spaced signed l) (sym (append-nil _)) it

with_flag : {spaced : Bool} {text : List ℕ} {tokens : List Tok} → IsValued spaced text tokens
    → IsEntry spaced (text ++ (space_behind text ++ codes "!default"))
    (tokens ++ again.sign terminals.Ending ∷ again.sign terminals.Default ∷ [])
with_flag {spaced} {text} it =
    let before = gap_of spaced ++ text in
    let marks = flag_of sorts.Default terminals.Default in
    let unclosed = seams (ends_unclosed before) in record {
      name = it.name;
      is = it.is;
      signed = it.signed;
      value = it.value ++ unclosed;
      told = seamed_by (ends_unclosed before) it.told;
      flags = marks;
      are = flag sorts.Default refl no_flag;
      segment = as_behind
          (λ after f. record {
            stop = f.stop;
            closed = right_no (begins_white after) _ (flag_closed before (codes "default") default_flag.closed);
          })
          (as_text
          (ap (λ (u : Bool). before ++ (space_by u ++ codes "!default")) (unclosed_gap spaced text)
          ∙ append_assoc (gap_of spaced) text (space_behind text ++ codes "!default"))
          (as_passed
          (ap (λ (l : List Written). dollar spaced ∷ direct it.name terminals.VariableName ∷ direct sorts.Colon terminals.Colon ∷ l)
          (sym (append_assoc it.value unclosed marks)))
          (one_flag default_flag (as_behind (λ after f. follows_gap spaced text after f) it.segment))));
    }

-- ---- several

record AreEntries (spaced : Bool) (text : List ℕ) (tokens : List Tok) : Type 0 where
  passed : List Written
  are : Entries spaced passed
  segment : SheetSegment befores.Other (gap_of spaced ++ text) tokens passed befores.Other (Follows text)

same_entries : {spaced : Bool} {xs ys : List ℕ} {ks ls : List Tok} → xs ≡ ys → ks ≡ ls → AreEntries spaced xs ks
    → AreEntries spaced ys ls
same_entries {spaced} {xs} {ys} {ks} {ls} e f it =
    subst (λ (t : List Tok). AreEntries spaced ys t) f (subst (λ (t : List ℕ). AreEntries spaced t ks) e it)

last_entry : {spaced : Bool} {text : List ℕ} {tokens : List Tok} → IsEntry spaced text tokens
    → AreEntries spaced text tokens
last_entry it = record { passed = _; are = one_entry it.name it.is it.told it.are; segment = it.segment }

before_entries : {spaced : Bool} {first rest : List ℕ} {ks ls : List Tok} → IsEntry spaced first ks
    → AreEntries true rest ls → AreEntries spaced (first ++ (codes ", " ++ rest)) (ks ++ again.sign terminals.Comma ∷ ls)
before_entries {spaced} {first} {rest} one more = record {
  passed = entry spaced one.name one.value one.flags ++ direct sorts.Comma terminals.Comma ∷ more.passed;
  are = more_entries one.name one.is one.told one.are more.are;
  segment = as_behind (λ after f. behind_comma first rest after f)
      (as_text (append_assoc (gap_of spaced) first (codes ", " ++ rest))
      (join one.segment (join (sheet comma_segment) more.segment (λ after f. tt))
      (λ after f. record { stop = refl; closed = refl })));
}

module _ (source : Source) (was : WasRead source) (values : ValuesAreKnown source) where
  entry_written : {i j : ℕ} {given : Given} {tokens : List Tok} → goes_on source j ≡ false
      → SpellsConfigured source true i j given tokens → (spaced : Bool) → IsEntry spaced (given_text given) tokens
  entry_written ended (configured_variable {i} dollar_sign name colon spelt) spaced =
      let (signed, it) = values.plains _ _ _ _ (behind_old colon refl) ended spelt in
      without_flag (valued_written source (suc i) was name it spaced)
  entry_written ended (configured_default {i} dollar_sign name colon spelt bang default) spaced =
      let (signed, it) = values.plains _ _ _ _ (behind_old colon refl) (before_old bang refl) spelt in
      with_flag (valued_written source (suc i) was name it spaced)

  entries_written : {i j k m : ℕ} {given : Given} {givens : List Given} {tokens others : List Tok}
      → goes_on source j ≡ false → goes_on source m ≡ false → SpellsConfigured source true i j given tokens
      → SpellsMoreConfigured source true k m givens others
      → (spaced : Bool)
      → AreEntries spaced (given_text given ++ with_commas false (map given_text givens)) (tokens ++ others)
  entries_written first ended one no_more_configured spaced =
      same_entries (sym (append-nil _)) (sym (append-nil _)) (last_entry (entry_written first one spaced))
  entries_written first ended one (more_configured comma next more) spaced =
      before_entries (entry_written first one spaced)
      (entries_written (before_configured more ended) ended next more true)

-- ---- behind a load

configured_by : (unclosed : Bool) {inner : List Written} → Entries false inner
    → ForwardConfiguration (seams unclosed ++ configuration_in inner)
configured_by true entries = loads.ForwardConfiguration.configured_apart entries
configured_by false entries = loads.ForwardConfiguration.configured entries

pub forward_configured : {source : Source} → WasRead source → ValuesAreKnown source → {before : Before} {text : List ℕ}
    {tokens more : List Tok} {passed : List Written} {i j : ℕ} {givens : List Given}
    → SheetSegment before text tokens passed befores.Other (Follows text)
    → SpellsConfiguration source true i j givens more
    → IsConfigured ForwardConfiguration before text tokens more passed givens
forward_configured was values it no_configuration =
    nothing_configured loads.ForwardConfiguration.not_configured it
forward_configured {source} was values {text = text} it (some_configuration with_word opens one more end closes) =
    let stop = before_end end (before_old closes refl) in
    let inner = entries_written source was values (before_configured more stop) stop one more false in record {
      configuration = seams (ends_unclosed text) ++ configuration_in inner.passed;
      are = configured_by (ends_unclosed text) inner.are;
      segment = as_behind (λ after e. tt) (with_written it inner.segment);
    }
