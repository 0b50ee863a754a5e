-- At-rules with raw text.
use Rattle.std.proofs.Common.{◌≡◌, ◌⊎◌, ◌<◌, ℕ, Bool, true, false, ◌&&◌, List, [], ◌∷◌, ◌++◌, length, inl, inr, refl, sym, ◌∙◌, ap, subst, arith}
use Rattle.std.specs.Prelude.{codes}
use Rattle.sw_text_scan.specs.Bytes.{sign, byte, is_white}
use Rattle.sw_tokens.specs.declared.pieces.Before.{Before}
use Rattle.sw_tokens.specs.declared.pieces.Before.TheVariants as befores
use Rattle.sw_tokens.specs.Tokens.{is_spaced}
use Rattle.sw_parse_terminals.specs.declared.terminal.Terminal.TheVariants as terminals
use Rattle.sw_parse_lexemes.specs.declared.sort.Sort.{Sort}
use Rattle.sw_parse_lexemes.specs.declared.sort.Sort.TheVariants as sorts
use Rattle.sw_parse_lexemes.specs.declared.state.Mode.TheVariants as modes
use Rattle.sw_parse_lexemes.specs.Classes.{is_else}
use Rattle.sw_convert_spelling.specs.Spelt.{behind_gap}
use Rattle.sw_convert_written.specs.Escapes.{ends_unclosed}
use Rattle.sw_convert_passing.specs.Written.{Written, written}
use Rattle.sw_convert_again.specs.Tokens.{Tok}
use Rattle.sw_convert_again.specs.Tokens as again
use Rattle.sw_convert_again.specs.Statements.{SpellsStatement}
use Rattle.sw_convert_again.specs.Statements as spells
use Rattle.sw_convert_tokens.specs.Joints.{Joint, Token, Apart, text, writtens, Stand}
use Rattle.sw_convert_tokens.specs.Written.{begins_white}
use Rattle.sw_convert_tokens.proofs.Unclosed.{Ends, space_ends, unclosed_behind}
use Rattle.sw_convert_heads_passing.specs.RawTexts.{RawText, Outside}
use Rattle.sw_convert_heads_passing.specs.Heads.{takes_text, text_rule, text_head}
use Rattle.sw_convert_heads_passing.specs.Statements.{Front, texted}
use Rattle.sw_convert_texts.specs.RawTexts.{SheetSegment, EndsText, ends_statement}
use Rattle.sw_convert_statements.specs.Segments.{FrontWritten, TextWritten}
use Rattle.sw_convert_statements.specs.Texts.{TextFrontsAreWritten}
use Rattle.sw_convert_statements.proofs.Segments.{sheet, join, as_behind}
use Rattle.sw_convert_statements.proofs.Gaps.{code_black, first_white}
use Rattle.sw_convert_statements.proofs.Loose.{text_of_raw}
use Rattle.sw_convert_statements.proofs.Keywords.{IsKeyword, keyword}

-- ---- a space before the first token

pub record BeginsSpaced (passed : List Written) : Type 0 where
  pub one : Written
  pub rest : List Written
  pub is : passed ≡ one ∷ rest
  pub spaced : one.spaced ≡ true

first_of : List ℕ → ℕ
first_of [] = 0
first_of (b ∷ bytes) = b

pub begins_spaced : {before end : Before} {value : List ℕ} {tokens : List Tok} {passed : List Written}
    → SheetSegment before (sign " " ∷ value) tokens passed end (EndsText value) → BeginsSpaced passed
unfolding first_of byte
begins_spaced {before} {end} {value} {tokens} {passed} a =
    go a.joints a.spelling a.written (a.stand (codes ";") (record { ends = inl refl; closed = refl }))
  where
    spaced_by : (gap bytes rest : List ℕ) (spaced : Bool) → spaced ≡ is_spaced (behind_gap before gap) → 0 < length bytes
        → is_white (byte bytes 0) ≡ false → gap ++ (bytes ++ rest) ≡ sign " " ∷ value → spaced ≡ true
    spaced_by (b ∷ gap) bytes rest spaced told some black e = told
    spaced_by [] [] rest spaced told some black e = absurd (omega (arith, some))
    spaced_by [] (b ∷ bytes) rest spaced told some black e =
        absurd (let wrong : true ≡ false = sym (ap is_white (ap first_of e)) ∙ black in cc)

    go : (joints : List Joint) → text joints ≡ sign " " ∷ value → writtens joints ≡ passed
        → Stand [] before joints [] (codes ";") → BeginsSpaced passed
    go [] spelling is stand = absurd (let wrong : 0 ≡ sign " " = ap first_of spelling in omega (arith, wrong))
    go (Apart ∷ joints) spelling is stand =
        absurd (let wrong : sign "/" ≡ sign " " = ap first_of spelling in omega (arith, wrong))
    go (Token seen ∷ joints) spelling is (gap, some, told, opening, token, rest) = record {
      one = _;
      rest = writtens joints;
      is = sym is;
      spaced = spaced_by seen.gap seen.bytes (text joints) seen.spaced told.0 some
          (first_white seen.bytes (text joints ++ codes ";") some
          ∙ code_black (seen.bytes ++ (text joints ++ codes ";")) (behind_gap before seen.gap) seen.kind (length seen.bytes) seen.change token)
          spelling;
    }

-- ---- text behind a keyword

pub text_end : (xs ys : List ℕ) (b : ℕ) → Ends b → (after : List ℕ) → EndsText (xs ++ b ∷ ys) after → EndsText ys after
text_end xs ys b e after f = record {
  ends = go f.ends;
  closed = ap (λ (t : Bool). begins_white after && t) (sym (unclosed_behind xs ys b e)) ∙ f.closed;
}
  where
    go : (ends_statement after ≡ true)
        ⊎ ((ends_unclosed (xs ++ b ∷ ys) ≡ true) × (rest : List ℕ) × (after ≡ codes "/**/" ++ rest))
        → (ends_statement after ≡ true) ⊎ ((ends_unclosed ys ≡ true) × (rest : List ℕ) × (after ≡ codes "/**/" ++ rest))
    go (inl h) = inl h
    go (inr (u, rest, h)) = inr (sym (unclosed_behind xs ys b e) ∙ u, rest, h)

rule_with_text : {word value : List ℕ} {tokens : List Tok} (sort : Sort) → takes_text sort ≡ true → is_else sort ≡ false
    → IsKeyword (text_rule sort) sort word → TextWritten modes.Raw value tokens
    → FrontWritten modes.Raw (word ++ (codes " " ++ value)) (again.sign (text_rule sort) ∷ tokens)
rule_with_text {word} {value} sort takes no_else key it before calm =
    let one = it befores.Other in
    let b = begins_spaced one.segment in
    let head = written sort (is_spaced before) (text_rule sort) in record {
      passed = head ∷ one.passed;
      front = subst (λ (l : List Written). Front modes.Raw (head ∷ l)) (sym b.is)
          (texted (text_head sort takes) b.one b.spaced
          (subst (λ (l : List Written). RawText modes.Raw Outside l) b.is one.raw));
      first = no_else;
      end = one.end;
      loose = λ u. one.loose (sym (unclosed_behind word value (sign " ") space_ends) ∙ u);
      segment = as_behind (λ after e. text_end word value (sign " ") space_ends after e)
          (join (sheet (key.segment before calm)) one.segment (λ after f. (value ++ after, inl refl)));
    }

pub text_fronts_written : TextFrontsAreWritten
text_fronts_written source known i j statement tokens (spells.import_line span old inner end) t =
    rule_with_text sorts.AtImport refl refl (keyword terminals.AtImport sorts.AtImport refl) (text_of_raw (known _ _ _ _ _ inner t))
text_fronts_written source known i j statement tokens (spells.extend_line span old inner end) t =
    rule_with_text sorts.AtExtend refl refl (keyword terminals.AtExtend sorts.AtExtend refl) (text_of_raw (known _ _ _ _ _ inner t))
text_fronts_written source known i j statement tokens (spells.supports_block span old raw block) t =
    rule_with_text sorts.AtSupports refl refl (keyword terminals.AtSupports sorts.AtSupports refl) (text_of_raw (known _ _ _ _ _ raw t))
text_fronts_written source known i j statement tokens (spells.at_root_text_block span old raw block) t =
    rule_with_text sorts.AtRoot refl refl (keyword terminals.AtRoot sorts.AtRoot refl) (text_of_raw (known _ _ _ _ _ raw t))
text_fronts_written source known i j statement tokens _ t = absurd (cc)
