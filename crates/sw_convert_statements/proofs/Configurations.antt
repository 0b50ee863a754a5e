-- The configuration of `@use`, and what stands in parentheses behind the `with` of a load.
use Rattle.std.proofs.Common.{◌≡◌, ℕ, suc, Bool, true, false, List, [], ◌∷◌, ◌++◌, map, append-nil, refl, sym, ◌∙◌, ap, subst, append_assoc}
use Rattle.std.specs.Prelude.{codes}
use Rattle.sw_text_scan.specs.Bytes.{sign}
use Rattle.sw_tree.specs.declared.load.Given.{Given}
use Rattle.sw_tokens.specs.declared.pieces.Before.{Before}
use Rattle.sw_tokens.specs.declared.pieces.Before.TheVariants as befores
use Rattle.sw_parse_terminals.specs.declared.terminal.Terminal.TheVariants as terminals
use Rattle.sw_parse_terminals.specs.Numbers.{just}
use Rattle.sw_parse_lexemes.specs.declared.sort.Sort.TheVariants as sorts
use Rattle.sw_parse_lexemes.specs.declared.state.Mode.{Mode}
use Rattle.sw_parse_lexemes.specs.declared.state.Mode.TheVariants as modes
use Rattle.sw_parse_table.specs.declared.source.Source.{Source}
use Rattle.sw_parse_table.specs.Actions.{name_at}
use Rattle.sw_convert_written.specs.Escapes.{ends_unclosed}
use Rattle.sw_convert_written.specs.Expressions.{expr_text, with_commas}
use Rattle.sw_convert_written.specs.Heads.{given_text, configured, word_behind}
use Rattle.sw_convert_written.specs.Names.{dollar_name}
use Rattle.sw_convert_passing.specs.Kinds.{separator}
use Rattle.sw_convert_passing.specs.Written.{Written, direct}
use Rattle.sw_convert_passing.specs.Values.{Row, variable, items, first, separated, further, dollar}
use Rattle.sw_convert_again.specs.Tokens.{Tok, Old}
use Rattle.sw_convert_again.specs.Tokens as again
use Rattle.sw_convert_again.specs.Spells.{unlisted, within}
use Rattle.sw_convert_again.specs.Params.{dollar_tokens}
use Rattle.sw_convert_again.specs.Loads.{SpellsConfigured, SpellsMoreConfigured, SpellsConfiguration, configured_variable, no_more_configured, more_configured, no_configuration, some_configuration}
use Rattle.sw_convert_tokens.specs.Joints.{Segment}
use Rattle.sw_convert_tokens.specs.Written.{Follows, AsRow, WrittenAs}
use Rattle.sw_convert_tokens.specs.Values.{WasRead}
use Rattle.sw_convert_tokens.proofs.Joins as joins
use Rattle.sw_convert_tokens.proofs.Spaces.{space_by, space_text}
use Rattle.sw_convert_tokens.proofs.Unclosed.{space_ends, follows_end}
use Rattle.sw_convert_heads_passing.specs.Loads.{UseConfiguration, configured_apart, configuration_in}
use Rattle.sw_convert_heads_passing.specs.Loads as loads
use Rattle.sw_convert_texts.specs.RawTexts.{SheetSegment}
use Rattle.sw_convert_statements.specs.Segments.{Anything, seams}
use Rattle.sw_convert_statements.specs.Fronts.{ValuesAreKnown}
use Rattle.sw_convert_statements.proofs.Keywords.{spaced_word}
use Rattle.sw_convert_statements.proofs.Params.{comma_segment, close_segment, open_segment, behind_comma, variable_at}
use Rattle.sw_convert_statements.proofs.Segments.{sheet, join, as_text, as_toks, as_passed, as_behind, value_pads, padded}
use Rattle.sw_convert_statements.proofs.Variables.{colon_segment}
use Rattle.sw_convert_values.proofs.Starts.{behind_old}
use Rattle.sw_convert_values.specs.Values.{goes_on}
use Rattle.sw_convert_values.proofs.Stops.{before_old, before_end}
use Rattle.sw_convert_statements.proofs.StatementStops.{before_configured}

-- ---- values one behind the other

-- a row of values behind a sign
pub row_behind : {mode : Mode} {spaced ended : Bool} {left row : List Written} → Row mode spaced false left
    → Row mode true ended row → Row mode spaced ended (left ++ row)
row_behind before (first one) = further before one
row_behind {mode} {spaced} {left = left} before (separated {row = row} more sort s) =
    subst (λ (l : List Written). Row mode spaced false l) (append_assoc left row (direct sort (separator sort) ∷ []))
    (separated (row_behind before more) sort s)
row_behind {mode} {spaced} {left = left} before (further {row = row} {value = value} more one) =
    subst (λ (l : List Written). Row mode spaced true l) (append_assoc left row value) (further (row_behind before more) one)

-- variables with values, with commas between them
record AreGiven (text : List ℕ) (tokens : List Tok) : Type 0 where
  passed : List Written
  ended : Bool
  are : Row modes.Expression false ended passed
  segment : Segment befores.Other text tokens passed befores.Other (Follows text)

same_given : {xs ys : List ℕ} {ks ls : List Tok} → xs ≡ ys → ks ≡ ls → AreGiven xs ks → AreGiven ys ls
same_given {xs} {ys} {ks} {ls} e f it =
    subst (λ (t : List Tok). AreGiven ys t) f (subst (λ (t : List ℕ). AreGiven t ks) e it)

-- what stands behind a `:` and a space
pub behind_colon : (name value after : List ℕ) → Follows (name ++ (codes ": " ++ value)) after → Follows value after
behind_colon name value after f =
    follows_end (name ++ codes ":") value (sign " ") space_ends after
    (subst (λ (t : List ℕ). Follows t after) (sym (append_assoc name (codes ":") (codes " " ++ value))) f)

module _ (source : Source) (was : WasRead source) where
  first_given : (i : ℕ) → Old source i (just terminals.VariableName) → {value : List ℕ} {tokens : List Tok}
      → WrittenAs AsRow value tokens
      → AreGiven (dollar_name (name_at source i) ++ (codes ": " ++ value))
      (dollar_tokens (name_at source i) ++ again.sign terminals.Colon ∷ tokens)
  first_given i old {value = value} it =
      let one = variable_at source was i old false in
      let two = it befores.Other true refl in
      let row = two.told modes.Expression refl in record {
        passed = _;
        ended = row.0;
        are = row_behind (separated (first (variable one.sort one.is)) sorts.Colon refl) row.1;
        segment = joins.as_behind (λ after f. behind_colon (dollar_name (name_at source i)) value after f)
            (joins.join one.segment (joins.join colon_segment two.segment (λ after f. tt))
            (λ after f. record { stop = refl; closed = refl }));
      }

  further_given : {left : List ℕ} {ks : List Tok} → AreGiven left ks → (i : ℕ)
      → Old source i (just terminals.VariableName) → {value : List ℕ} {tokens : List Tok} → WrittenAs AsRow value tokens
      → AreGiven (left ++ (codes ", " ++ (dollar_name (name_at source i) ++ (codes ": " ++ value))))
      (ks ++ again.sign terminals.Comma ∷ (dollar_tokens (name_at source i) ++ again.sign terminals.Colon ∷ tokens))
  further_given {left} a i old {value = value} it =
      let one = variable_at source was i old true in
      let two = it befores.Other true refl in
      let row = two.told modes.Expression refl in
      let name = dollar_name (name_at source i) in
      let comma = direct sorts.Comma terminals.Comma in
      let colon = direct sorts.Colon terminals.Colon in
      let this = dollar true ∷ direct one.sort terminals.VariableName ∷ [] in record {
        passed = a.passed ++ comma ∷ (this ++ colon ∷ two.passed);
        ended = row.0;
        are = subst (λ (l : List Written). Row modes.Expression false row.0 l)
            (ap (λ (l : List Written). (l ++ colon ∷ []) ++ two.passed) (append_assoc a.passed (comma ∷ []) this)
            ∙ ap (λ (l : List Written). l ++ two.passed) (append_assoc a.passed (comma ∷ this) (colon ∷ []))
            ∙ append_assoc a.passed (comma ∷ (this ++ colon ∷ [])) two.passed)
            (row_behind (separated (further (separated a.are sorts.Comma refl) (variable one.sort one.is)) sorts.Colon refl)
            row.1);
        segment = joins.as_behind
            (λ after f. behind_colon name value after (behind_comma left (name ++ (codes ": " ++ value)) after f))
            (joins.join a.segment
            (joins.join comma_segment
            (joins.join one.segment (joins.join colon_segment two.segment (λ after f. tt))
            (λ after f. record { stop = refl; closed = refl })) (λ after f. tt))
            (λ after f. record { stop = refl; closed = refl }));
      }

module _ (source : Source) (was : WasRead source) (values : ValuesAreKnown source) where
  given_first : {i j : ℕ} {given : Given} {tokens : List Tok} → goes_on source j ≡ false
      → SpellsConfigured source false i j given tokens
      → AreGiven (given_text given) tokens
  given_first ended (configured_variable {i} {value = value} dollar name colon (unlisted plain spelt)) =
      same_given (sym (append-nil (dollar_name (name_at source (suc i)) ++ (codes ": " ++ expr_text value)))) refl
      (first_given source was (suc i) name (values.rows _ _ _ _ (behind_old colon refl) ended spelt))

  given_further : {i j : ℕ} {given : Given} {tokens ks : List Tok} {left : List ℕ}
      → goes_on source j ≡ false → SpellsConfigured source false i j given tokens → AreGiven left ks
      → AreGiven (left ++ (codes ", " ++ given_text given)) (ks ++ again.sign terminals.Comma ∷ tokens)
  given_further {left = left} ended (configured_variable {i} {value = value} dollar name colon (unlisted plain spelt)) it =
      same_given
      (ap (λ (x : List ℕ). left ++ (codes ", " ++ x))
      (sym (append-nil (dollar_name (name_at source (suc i)) ++ (codes ": " ++ expr_text value))))) refl
      (further_given source was it (suc i) name (values.rows _ _ _ _ (behind_old colon refl) ended spelt))

  given_more : {i j : ℕ} {givens : List Given} {others ks : List Tok} {left : List ℕ}
      → goes_on source j ≡ false → SpellsMoreConfigured source false i j givens others → AreGiven left ks
      → AreGiven (left ++ with_commas false (map given_text givens)) (ks ++ others)
  given_more {ks = ks} {left = left} ended no_more_configured it = same_given (sym (append-nil left)) (sym (append-nil ks)) it
  given_more {ks = ks} {left = left} ended
      (more_configured {given = given} {givens = givens} {tokens = tokens} {others = others} comma one more) it =
      let rest = with_commas false (map given_text givens) in
      same_given
      (append_assoc left (codes ", " ++ given_text given) rest)
      (append_assoc ks (again.sign terminals.Comma ∷ tokens) others)
      (given_more ended more (given_further (before_configured more ended) one it))

-- ---- behind a load

-- what stands behind a text, and what the pass over tokens sees of it
pub record IsConfigured (Configuration : List Written → Type 0) (before : Before) (text : List ℕ) (tokens more : List Tok)
    (passed : List Written) (givens : List Given) : Type 0 where
  pub configuration : List Written
  pub are : Configuration configuration
  pub segment : SheetSegment before (configured givens text) (tokens ++ more) (passed ++ configuration) befores.Other
      (Follows (configured givens text))

pub nothing_configured : {Configuration : List Written → Type 0} {before : Before} {text : List ℕ} {tokens : List Tok}
    {passed : List Written} → Configuration [] → SheetSegment before text tokens passed befores.Other (Follows text)
    → IsConfigured Configuration before text tokens [] passed []
nothing_configured {text = text} {tokens = tokens} {passed = passed} none it = record {
  configuration = [];
  are = none;
  segment = as_behind (λ after f. subst (λ (x : List ℕ). Follows x after) (append-nil text) f)
      (as_text (sym (append-nil text)) (as_toks (sym (append-nil tokens)) (as_passed (sym (append-nil passed)) it)));
}

-- `with` and parentheses behind a text
pub with_written : {before : Before} {text listed : List ℕ} {tokens ks : List Tok} {passed inner : List Written}
    → SheetSegment before text tokens passed befores.Other (Follows text)
    → SheetSegment befores.Other listed ks inner befores.Other (Follows listed)
    → SheetSegment before (text ++ (word_behind (codes "with (") text ++ (listed ++ codes ")")))
    (tokens ++ again.sign terminals.With ∷ within (again.sign terminals.HeadParen) ks terminals.ParenEnd)
    (passed ++ (seams (ends_unclosed text) ++ configuration_in inner)) befores.Other Anything
with_written {text = text} {listed = listed} {passed = passed} {inner = inner} it within_it =
    let unclosed = ends_unclosed text in
    let pads = padded unclosed refl (λ u. refl) (value_pads text) it in
    let last = codes "with" ++ (codes " (" ++ (listed ++ codes ")")) in
    let whole : text ++ (space_by unclosed ++ last) ≡ text ++ (word_behind (codes "with (") text ++ (listed ++ codes ")")) =
    ap (λ (x : List ℕ). text ++ x) (sym (append_assoc (space_by unclosed) (codes "with (") (listed ++ codes ")"))) in
    as_text (space_text [] text last unclosed ∙ whole)
    (as_passed (append_assoc passed (seams unclosed) (configuration_in inner))
    (join pads.segment
    (join (sheet (spaced_word sorts.With refl pads.end))
    (join (sheet (open_segment true))
    (join within_it (sheet close_segment) (λ after ok. record { stop = refl; closed = refl }))
    (λ after ok. tt))
    (λ after ok. ((codes "(" ++ (listed ++ codes ")")) ++ after, refl)))
    (λ after ok. (last ++ after, refl))))

configured_by : (unclosed : Bool) {ended : Bool} {inner : List Written} → Row modes.Expression false ended inner
    → UseConfiguration (seams unclosed ++ configuration_in inner)
configured_by true row = configured_apart (items row)
configured_by false row = loads.UseConfiguration.configured (items row)

pub configured_written : {source : Source} → WasRead source → ValuesAreKnown source → {before : Before} {text : List ℕ}
    {tokens more : List Tok} {passed : List Written} {i j : ℕ} {givens : List Given}
    → SheetSegment before text tokens passed befores.Other (Follows text)
    → SpellsConfiguration source false i j givens more
    → IsConfigured UseConfiguration before text tokens more passed givens
configured_written was values it no_configuration = nothing_configured loads.UseConfiguration.not_configured it
configured_written {source} was values {text = text} it (some_configuration with_word opens one more end closes) =
    let stop = before_end end (before_old closes refl) in
    let inner = given_more source was values stop more (given_first source was values (before_configured more stop) one) in record {
      configuration = seams (ends_unclosed text) ++ configuration_in inner.passed;
      are = configured_by (ends_unclosed text) inner.are;
      segment = as_behind (λ after e. tt) (with_written it (sheet inner.segment));
    }
