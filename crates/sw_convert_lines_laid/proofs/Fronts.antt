-- What is written of a statement up to its end or its block is a line.
use Rattle.std.proofs.Common.{◌≡◌, ℕ, Bool, true, false, List, [], ◌∷◌, ◌++◌, inl, refl, sym, ◌∙◌, ap, subst, append-nil}
use Rattle.std.specs.Prelude.{codes, Some}
use Rattle.sw_tokens.specs.declared.pieces.Before.{Before}
use Rattle.sw_tokens.specs.declared.pieces.Before.TheVariants as befores
use Rattle.sw_tokens.specs.declared.skips.Inside.{Inside}
use Rattle.sw_tokens.specs.Tokens.{before_of}
use Rattle.sw_parse_lexemes.specs.declared.state.Mode.{Mode}
use Rattle.sw_parse_lexemes.specs.declared.state.Mode.TheVariants as modes
use Rattle.sw_parse_lexemes.specs.Brackets.{is_custom}
use Rattle.sw_convert_spelling.specs.Spelt.{opened}
use Rattle.sw_convert_written.specs.Escapes.{ends_unclosed}
use Rattle.sw_convert_passing.specs.Written.{Written}
use Rattle.sw_convert_heads_passing.specs.RawTexts.{RawText, Outside}
use Rattle.sw_convert_heads_passing.specs.Blocks.{open_sign}
use Rattle.sw_convert_heads_passing.specs.Rules.{is_rule}
use Rattle.sw_convert_laid.specs.Held.{is_line}
use Rattle.sw_convert_laid.specs.LineFeeds.{ends_plainly, StandBefore}
use Rattle.sw_convert_laid.specs.Blocks.{row_of, IsLine}
use Rattle.sw_convert_laid.proofs.Held.{line_held}
use Rattle.sw_convert_heads_laid.specs.Marks.{AreSame}
use Rattle.sw_convert_heads_laid.proofs.Lines.{fronts_pass, rules_pass}
use Rattle.sw_convert_again.specs.Tokens.{Tok}
use Rattle.sw_convert_tokens.specs.Joints.{Joint, spelt_of, spelts, Stand}
use Rattle.sw_convert_texts.specs.RawTexts.{SheetSegment, EndsText}
use Rattle.sw_convert_statements.specs.Segments.{seams}
use Rattle.sw_convert_lines_laid.proofs.Same.{joints_same}
use Rattle.sw_convert_lines_laid.specs.Fronts.{FitsLine, FrontsAreLines, RulesAreLines}

stand_before : (stack : List Inside) (before : Before) (joints : List Joint) (end : List Inside) (after : List ℕ)
    → Stand stack before joints end after → StandBefore stack before (spelts joints) end after
stand_before stack before [] end after e = e
stand_before stack before (x ∷ joints) end after (gap, some, told, opening, token, rest) =
    (gap, some, token, stand_before (opened stack (spelt_of x).change) (before_of (Some (spelt_of x).kind)) joints end after rest)

segment_line : (text : List ℕ) (tokens : List Tok) (passed : List Written) (end : Before) (custom : Bool)
    → (segment : SheetSegment befores.White text tokens passed end (EndsText text)) → FitsLine custom text segment.joints
    → ((after : List ℕ) → StandBefore [] befores.White (spelts segment.joints) [] after → is_line (spelts segment.joints) ≡ true)
    → IsLine (spelts segment.joints)
segment_line text tokens passed end custom segment fits test rest =
    let stands = stand_before [] befores.White segment.joints [] (codes " " ++ rest) (segment.stand (codes " " ++ rest)
    (record { ends = inl refl; closed = fits.closed })) in
    line_held (row_of 0 false (spelts segment.joints)) rest (test (codes " " ++ rest) stands)
    (ap ends_plainly segment.spelling ∙ fits.plain) fits.no_call stands

-- the tokens are those that the pass over tokens has
segment_same : (text : List ℕ) (tokens : List Tok) (passed : List Written) (end : Before)
    → (segment : SheetSegment befores.White text tokens passed end (EndsText text)) → ends_unclosed text ≡ false
    → AreSame (spelts segment.joints) passed
segment_same text tokens passed end segment closed =
    subst (AreSame (spelts segment.joints)) segment.written
    (joints_same [] befores.White segment.joints [] (codes " ")
    (segment.stand (codes " ") (record { ends = inl refl; closed = closed })))

pub fronts_are_lines : (mode : Mode) (else_first : Bool) (text : List ℕ) (tokens : List Tok) → FrontsAreLines mode else_first text tokens
fronts_are_lines mode else_first text tokens front fits =
    segment_line text tokens front.passed front.end (is_custom mode) front.segment fits
    (λ after stands. fronts_pass mode front.passed front.front (spelts front.segment.joints) after
    (segment_same text tokens front.passed front.end front.segment fits.closed) stands fits.holds)

pub rules_are_lines : (text : List ℕ) (tokens : List Tok) → RulesAreLines text tokens
rules_are_lines text tokens rule fits member =
    segment_line text tokens rule.passed rule.end false rule.segment fits
    (λ after stands. rules_pass rule.passed raw_is told_is (spelts rule.segment.joints) after
    (segment_same text tokens rule.passed rule.end rule.segment fits.closed) member stands fits.holds)
  where
    bare : rule.passed ++ seams (ends_unclosed text) ≡ rule.passed
    bare = ap (λ (t : Bool). rule.passed ++ seams t) fits.closed ∙ append-nil rule.passed

    raw_is : RawText modes.Raw Outside rule.passed
    raw_is = subst (RawText modes.Raw Outside) bare rule.raw

    told_is : is_rule (rule.passed ++ open_sign true ∷ []) ≡ true
    told_is = sym (ap (λ (x : List Written). is_rule (x ++ open_sign true ∷ [])) bare) ∙ rule.rule
