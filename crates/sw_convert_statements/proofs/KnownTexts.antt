-- Raw texts and rules that are written as their tokens, where this is so of the values in the sheet.
use Rattle.std.proofs.Common.{◌≡◌, ℕ, true, false, List, [], ◌∷◌, inl, refl, sym, ◌∙◌, ap}
use Rattle.std.specs.Prelude.{codes}
use Rattle.sw_tokens.specs.declared.pieces.Before.{Before}
use Rattle.sw_tokens.specs.declared.pieces.Before.TheVariants as befores
use Rattle.sw_parse_lexemes.specs.declared.state.Mode.{Mode}
use Rattle.sw_parse_lexemes.specs.declared.state.Mode.TheVariants as modes
use Rattle.sw_parse_table.specs.declared.source.Source.{Source}
use Rattle.sw_parse_table.specs.Parts.{Part}
use Rattle.sw_parse_table.specs.Sources.{parts_between, text_between}
use Rattle.sw_convert_written.specs.Escapes.{ends_unclosed}
use Rattle.sw_convert_written.specs.Expressions.{parts_written}
use Rattle.sw_convert_written.specs.Heads.{selector_text}
use Rattle.sw_convert_passing.proofs.Facts.{and_left, and_right}
use Rattle.sw_convert_again.specs.Tokens.{Tok, Extent}
use Rattle.sw_convert_again.specs.RawTexts.{SpellsRawItem, SpellsRawText, raw_token, raw_insert, raw_brackets, raw_end, raw_more}
use Rattle.sw_convert_tokens.specs.Joints.{Joint, text, behind, Stand}
use Rattle.sw_convert_tokens.specs.Values.{WasRead}
use Rattle.sw_convert_texts.specs.Inserted.{RawItemHasValues, RawTextHasValues}
use Rattle.sw_convert_texts.specs.RawKinds.{raw_known, is_uncut}
use Rattle.sw_convert_texts.proofs.RawWritten.{raw_texts_written}
use Rattle.sw_convert_texts.proofs.RuleWritten.{rule_texts_written}
use Rattle.sw_convert_values.proofs.Starts.{behind_old}
use Rattle.sw_convert_values.proofs.Stops.{before_old}
use Rattle.sw_convert_statements.specs.Fronts.{ValuesAreKnown}
use Rattle.sw_convert_statements.specs.Texts.{TextsAreKnown}
use Rattle.sw_convert_statements.specs.Names.{SelectorsAreKnown}
use Rattle.sw_convert_statements.proofs.Loose.{loose_in}

module _ {source : Source} (values : ValuesAreKnown source) where
  mutual
    item_values : {i j : ℕ} {parts : List Part} {tokens : List Tok} {extents : List Extent}
        → (item : SpellsRawItem source i j parts tokens extents) → RawItemHasValues item
    item_values (raw_token old) = tt
    item_values (raw_insert opens inner close) = values.rows _ _ _ _ (behind_old opens refl) (before_old close refl) inner
    item_values (raw_brackets kind opens text close) = text_values text

    text_values : {i j : ℕ} {parts : List Part} {tokens : List Tok} {extents : List Extent}
        → (text : SpellsRawText source i j parts tokens extents) → RawTextHasValues text
    text_values raw_end = tt
    text_values (raw_more item text) = (item_values item, text_values text)

loose : (value : List ℕ) (joints : List Joint) (before : Before) → Stand [] before joints [] (codes ";") → text joints ≡ value
    → ends_unclosed value ≡ true → behind before joints ≡ befores.Other
unfolding ends_unclosed
loose value [] before stand spelling u = absurd (let wrong : true ≡ false = sym u ∙ ap ends_unclosed (sym spelling) in cc)
loose value (x ∷ joints) before stand spelling u =
    loose_in x joints [] before (codes ";") [] stand (ap ends_unclosed spelling ∙ u)

module _ (source : Source) (was : WasRead source) (values : ValuesAreKnown source) where
  pub texts_known : (mode : Mode) → TextsAreKnown mode source
  texts_known mode i j parts tokens extents spelt known =
      raw_texts_written source mode i j parts tokens extents was spelt known (text_values values spelt)

  pub rules_known : SelectorsAreKnown source
  rules_known i j parts tokens extents spelt known before calm =
      let own = selector_text (text_between source i j parts) in
      let more = and_right (raw_known source modes.Raw spelt) _ known in
      let uncut = is_uncut (parts_written (parts_between source i j parts)) in
      let one = rule_texts_written source i j parts tokens extents was spelt (and_left (raw_known source modes.Raw spelt) _ known)
      (and_left uncut _ more) (and_right uncut _ more) (text_values values spelt) before calm in record {
        passed = one.passed;
        raw = one.raw (ends_unclosed own);
        rule = one.rule (ends_unclosed own);
        end = one.end;
        loose = λ u.
            sym one.segment.last
            ∙ loose own one.segment.joints before
            (one.segment.stand (codes ";") (record { ends = inl refl; closed = refl })) one.segment.spelling u;
        segment = one.segment;
      }
