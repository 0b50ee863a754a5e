-- Declarations, custom properties and at-rules of CSS.
use Rattle.std.proofs.Common.{◌≡◌, ℕ, Bool, true, false, List, [], ◌∷◌, ◌++◌, Option, append-nil, refl, sym, ◌∙◌, ap, subst, append_assoc}
use Rattle.std.specs.Prelude.{codes}
use Rattle.sw_text_scan.specs.Bytes.{sign}
use Rattle.sw_tree.specs.declared.text.Text.{Text}
use Rattle.sw_tokens.specs.declared.pieces.Before.{Before}
use Rattle.sw_tokens.specs.declared.pieces.Before.TheVariants as befores
use Rattle.sw_parse_terminals.specs.declared.terminal.Terminal.TheVariants as terminals
use Rattle.sw_parse_lexemes.specs.declared.state.Mode.TheVariants as modes
use Rattle.sw_parse_table.specs.declared.source.Source.{Source}
use Rattle.sw_parse_table.specs.Sources.{text_between}
use Rattle.sw_convert_written.specs.Escapes.{ends_unclosed}
use Rattle.sw_convert_written.specs.Heads.{raw_text, spaced_raw, prelude_behind}
use Rattle.sw_convert_passing.specs.Written.{Written}
use Rattle.sw_convert_passing.specs.Values.{seam}
use Rattle.sw_convert_passing.proofs.Facts.{and_left, and_right}
use Rattle.sw_convert_again.specs.Tokens.{Tok}
use Rattle.sw_convert_again.specs.Tokens as again
use Rattle.sw_convert_again.specs.Statements.{SpellsOptionalRaw, no_raw, some_raw}
use Rattle.sw_convert_again.specs.Statements as spells
use Rattle.sw_convert_tokens.specs.Written.{Follows, AsRow, WrittenAs}
use Rattle.sw_convert_tokens.proofs.Unclosed.{Ends, space_ends, unclosed_behind, follows_end}
use Rattle.sw_convert_tokens.proofs.Spaces.{pad, space_text, unclosed_spaced}
use Rattle.sw_convert_heads_passing.specs.RawTexts.{RawText, Outside, raw_end}
use Rattle.sw_convert_heads_passing.specs.Heads.{TextHead}
use Rattle.sw_convert_heads_passing.specs.Properties.{colon}
use Rattle.sw_convert_heads_passing.specs.Statements.{begins_else, Front, declared, unvalued, named, texted, texted_apart, customised}
use Rattle.sw_convert_texts.specs.RawTexts.{SheetSegment, EndsText}
use Rattle.sw_convert_statements.specs.Segments.{Anything, seams, FrontWritten}
use Rattle.sw_convert_statements.specs.Texts.{TextsAreKnown}
use Rattle.sw_convert_statements.specs.Names.{NamedAs, is_custom, is_at_rule, optional_known, NamedFrontsAreWritten}
use Rattle.sw_convert_statements.proofs.KnownNames.{AsProperty, AsCustom, properties_written, customs_written, at_rules_written}
use Rattle.sw_convert_statements.proofs.Loose.{text_of_raw}
use Rattle.sw_convert_statements.proofs.Segments.{sheet, join, as_text, as_toks, as_passed, as_behind, text_follows, value_pads, padded}
use Rattle.sw_convert_statements.proofs.Texts.{begins_spaced, text_end}
use Rattle.sw_convert_statements.proofs.Variables.{colon_segment}
use Rattle.sw_convert_values.proofs.Starts.{behind_old}
use Rattle.sw_convert_values.proofs.Stops.{before_old}
use Rattle.sw_convert_statements.proofs.StatementStops.{before_block, before_close}

colon_ends : Ends (sign ":")
colon_ends = record { slash = refl; digit = refl }

-- a name and its `:`
with_colon : {before : Before} {name : List ℕ} {ks : List Tok} {passed : List Written}
    → SheetSegment before name ks passed befores.Other (Follows name)
    → SheetSegment before (name ++ codes ":") (ks ++ again.sign terminals.Colon ∷ []) (passed ++ colon ∷ []) befores.Other
    Anything
with_colon it = join it (sheet colon_segment) (λ after ok. record { stop = refl; closed = refl })

module _ {name : List ℕ} {ks : List Tok} (is : NamedAs AsProperty name ks) where
  property_written : {value : List ℕ} {tokens : List Tok} → WrittenAs AsRow value tokens
      → FrontWritten modes.Expression (name ++ (codes ": " ++ value)) (ks ++ again.sign terminals.Colon ∷ tokens)
  property_written {value} {tokens} it before calm =
      let one = is before calm in
      let two = it befores.Other true refl in record {
        passed = (one.passed ++ colon ∷ []) ++ two.passed;
        front = declared one.head (two.told modes.Expression refl).1;
        first = ap (λ (l : List Written). begins_else l) (append_assoc one.passed (colon ∷ []) two.passed)
            ∙ one.first (colon ∷ two.passed);
        end = befores.Other;
        loose = λ u. refl;
        segment = as_behind
            (λ after e. follows_end (name ++ codes ":") value (sign " ") space_ends after
            (subst (λ (t : List ℕ). Follows t after) (sym (append_assoc name (codes ":") (codes " " ++ value))) (text_follows _ after e)))
            (as_text (append_assoc name (codes ":") (codes " " ++ value))
            (as_toks (append_assoc ks (again.sign terminals.Colon ∷ []) tokens)
            (join (with_colon one.segment) (sheet two.segment) (λ after f. tt))));
      }

  lone_property : FrontWritten modes.Expression (name ++ codes ":") (ks ++ again.sign terminals.Colon ∷ [])
  lone_property before calm =
      let one = is before calm in record {
        passed = one.passed ++ colon ∷ [];
        front = unvalued one.head;
        first = one.first (colon ∷ []);
        end = befores.Other;
        loose = λ u. refl;
        segment = as_behind (λ after e. tt) (with_colon one.segment);
      }

-- a custom property
custom_written : {source : Source} {c k : ℕ} {value : Option Text} {name : List ℕ} {ks others : List Tok}
    → NamedAs AsCustom name ks → TextsAreKnown modes.Custom source
    → (raw : SpellsOptionalRaw source c k value others) → optional_known source modes.Custom raw ≡ true
    → FrontWritten modes.Custom (name ++ (codes ":" ++ spaced_raw value)) (ks ++ again.sign terminals.Colon ∷ others)
custom_written {name = name} {ks = ks} is known no_raw told before calm =
    let one = is before calm in record {
      passed = (one.passed ++ colon ∷ []) ++ [];
      front = customised one.head raw_end;
      first = ap (λ (l : List Written). begins_else l) (append-nil (one.passed ++ colon ∷ [])) ∙ one.first (colon ∷ []);
      end = befores.Other;
      loose = λ u. refl;
      segment = as_behind (λ after e. tt) (as_passed (sym (append-nil (one.passed ++ colon ∷ []))) (with_colon one.segment));
    }
custom_written {name = name} {ks = ks} is known (some_raw {i} {j} {values} {tokens} {extents} spelt) told before calm =
    let one = is before calm in
    let two = text_of_raw (known i j values tokens extents spelt told) befores.Other in
    let value = raw_text (text_between _ i j values) in record {
      passed = (one.passed ++ colon ∷ []) ++ two.passed;
      front = customised one.head two.raw;
      first = ap (λ (l : List Written). begins_else l) (append_assoc one.passed (colon ∷ []) two.passed)
          ∙ one.first (colon ∷ two.passed);
      end = two.end;
      loose = λ u. two.loose
          (sym (unclosed_behind (name ++ codes ":") value (sign " ") space_ends)
          ∙ ap ends_unclosed (append_assoc name (codes ":") (codes " " ++ value)) ∙ u);
      segment = as_behind
          (λ after e. text_end (name ++ codes ":") value (sign " ") space_ends after
          (subst (λ (t : List ℕ). EndsText t after) (sym (append_assoc name (codes ":") (codes " " ++ value))) e))
          (as_text (append_assoc name (codes ":") (codes " " ++ value))
          (as_toks (append_assoc ks (again.sign terminals.Colon ∷ []) _)
          (join (with_colon one.segment) two.segment (λ after f. tt))));
    }

-- an at-rule of CSS
rule_written : {source : Source} {c k : ℕ} {prelude : Option Text} {name : List ℕ} {ks others : List Tok}
    → NamedAs TextHead name ks → TextsAreKnown modes.Raw source
    → (raw : SpellsOptionalRaw source c k prelude others) → optional_known source modes.Raw raw ≡ true
    → FrontWritten modes.Raw (name ++ prelude_behind prelude name) (ks ++ others)
rule_written {name = name} {ks = ks} is known no_raw told before calm =
    let one = is before calm in record {
      passed = one.passed;
      front = named one.head;
      first = ap (λ (l : List Written). begins_else l) (sym (append-nil one.passed)) ∙ one.first [];
      end = befores.Other;
      loose = λ u. refl;
      segment = as_text (sym (append-nil name))
          (as_toks (sym (append-nil ks))
          (as_behind (λ after e. text_follows name after (subst (λ (t : List ℕ). EndsText t after) (append-nil name) e))
          one.segment));
    }
rule_written {name = name} {ks = ks} is known (some_raw {i} {j} {values} {tokens} {extents} spelt) told before calm =
    let one = is before calm in
    let unclosed = ends_unclosed name in
    let pads = padded unclosed refl (λ u. refl) (value_pads name) one.segment in
    let two = text_of_raw (known i j values tokens extents spelt told) pads.end in
    let value = raw_text (text_between _ i j values) in
    let b = begins_spaced two.segment in record {
      passed = (one.passed ++ seams unclosed) ++ two.passed;
      front = subst (λ (l : List Written). Front modes.Raw ((one.passed ++ seams unclosed) ++ l)) (sym b.is)
          (with_text unclosed one.passed one.head b.one b.rest b.spaced
          (subst (λ (l : List Written). RawText modes.Raw Outside l) b.is two.raw));
      first = ap (λ (l : List Written). begins_else l) (append_assoc one.passed (seams unclosed) two.passed)
          ∙ one.first (seams unclosed ++ two.passed);
      end = two.end;
      loose = λ u. two.loose (sym (unclosed_spaced name value unclosed) ∙ u);
      segment = as_behind
          (λ after e. text_end (name ++ pad unclosed) value (sign " ") space_ends after
          (subst (λ (t : List ℕ). EndsText t after) (sym (space_text [] name value unclosed)) e))
          (as_text (space_text [] name value unclosed) (join pads.segment two.segment (λ after f. (value ++ after, refl))));
    }
  where
    with_text : (unclosed : Bool) (head : List Written) → TextHead head → (first : Written) (rest : List Written)
        → first.spaced ≡ true → RawText modes.Raw Outside (first ∷ rest)
        → Front modes.Raw ((head ++ seams unclosed) ++ first ∷ rest)
    with_text true head h first rest spaced raw =
        subst (λ (l : List Written). Front modes.Raw l) (sym (append_assoc head (seam ∷ []) (first ∷ rest)))
        (texted_apart h first spaced raw)
    with_text false head h first rest spaced raw =
        subst (λ (l : List Written). Front modes.Raw (l ++ first ∷ rest)) (sym (append-nil head)) (texted h first spaced raw)

pub named_fronts_written : NamedFrontsAreWritten
named_fronts_written source was values raws customs selectors i j statement tokens begins ended
    (spells.declaration_line span text_span word mark inner end) t =
    property_written (properties_written source was values word begins (before_old mark refl) t)
    (values.rows _ _ _ _ (behind_old mark refl) (before_close end ended) inner)
named_fronts_written source was values raws customs selectors i j statement tokens begins ended
    (spells.custom_line span text_span name mark inner end) t =
    custom_written (customs_written source was values name (and_left (is_custom source name) _ t)) customs inner
    (and_right (is_custom source name) _ t)
named_fronts_written source was values raws customs selectors i j statement tokens begins ended
    (spells.at_rule_line span text_span name raw end) t =
    rule_written (at_rules_written source was values name (and_left (is_at_rule source name) _ t)) raws raw
    (and_right (is_at_rule source name) _ t)
named_fronts_written source was values raws customs selectors i j statement tokens begins ended
    (spells.at_rule_block span text_span name raw block) t =
    rule_written (at_rules_written source was values name (and_left (is_at_rule source name) _ t)) raws raw
    (and_right (is_at_rule source name) _ t)
named_fronts_written source was values raws customs selectors i j statement tokens begins ended
    (spells.properties_block span text_span word mark block) t =
    lone_property (properties_written source was values word begins (before_old mark refl) t)
named_fronts_written source was values raws customs selectors i j statement tokens begins ended
    (spells.properties_value_block span text_span word mark inner block) t =
    property_written (properties_written source was values word begins (before_old mark refl) t)
    (values.rows _ _ _ _ (behind_old mark refl) (before_block block) inner)
named_fronts_written source was values raws customs selectors i j statement tokens begins ended (spells.rule_block span raw block) t =
    selectors _ _ _ _ _ raw t
named_fronts_written source was values raws customs selectors i j statement tokens begins ended _ t = absurd (cc)
