-- A head and the block behind it.
use Rattle.std.proofs.Common.{◌≡◌, ℕ, zero, suc, ◌+◌, Bool, true, false, List, [], ◌∷◌, ◌++◌, append-nil, refl, sym, ◌∙◌, ap, subst, append_assoc, lit<}
use Rattle.std.specs.Prelude.{codes}
use Rattle.std.specs.List.{list_all}
use Rattle.sw_text_scan.specs.Bytes.{sign, is_white, byte}
use Rattle.sw_tokens.specs.declared.pieces.Before.{Before}
use Rattle.sw_tokens.specs.declared.pieces.Before.TheVariants as befores
use Rattle.sw_tokens.specs.declared.pieces.Change.TheVariants as changes
use Rattle.sw_tokens.specs.declared.skips.Inside.TheVariants as insides
use Rattle.sw_tokens.specs.declared.token.TokenKind.TheVariants as kinds
use Rattle.sw_tokens.specs.Tokens.{is_spaced}
use Rattle.sw_parse_terminals.specs.declared.terminal.Terminal.TheVariants as terminals
use Rattle.sw_parse_lexemes.specs.declared.state.Mode.{Mode}
use Rattle.sw_parse_lexemes.specs.Brackets.{is_custom}
use Rattle.sw_convert_written.specs.Escapes.{ends_unclosed, space_behind}
use Rattle.sw_convert_written.specs.Statements.{ShownStatement, indent, block_text}
use Rattle.sw_convert_passing.specs.Written.{Written}
use Rattle.sw_convert_again.specs.Tokens.{Tok, Nothing}
use Rattle.sw_convert_again.specs.Tokens as again
use Rattle.sw_convert_again.specs.Spells.{within}
use Rattle.sw_convert_tokens.specs.Joints.{Token}
use Rattle.sw_convert_tokens.proofs.Signs.{Anything, lone_token}
use Rattle.sw_convert_tokens.proofs.Spaces.{space_by, space_text}
use Rattle.sw_convert_heads_passing.specs.Blocks.{end_sign, open_sign, close_sign}
use Rattle.sw_convert_heads_passing.specs.Statements.{Front, Headed, plainly, seamed, begins_else, Statements, statement_block, statement_rule}
use Rattle.sw_convert_heads_passing.proofs.Fronts.{begins_code, code_before, front_code}
use Rattle.sw_convert_texts.specs.RawTexts.{SheetSegment, EndsText}
use Rattle.sw_convert_statements.specs.Segments.{seams, IsFrontWritten, IsRuleWritten}
use Rattle.sw_convert_statements.specs.Written.{AreLinesWritten}
use Rattle.sw_convert_statements.proofs.Segments.{join, as_text, text_pads, padded}
use Rattle.sw_convert_statements.proofs.Gaps.{gapped}

-- ---- `;` and braces

pub end_segment : (before : Before) → SheetSegment before (codes ";") (again.sign terminals.Semicolon ∷ [])
    (end_sign (is_spaced before) ∷ []) befores.Other Anything
end_segment before = record {
  joints = Token (record { gap = []; kind = kinds.Semicolon; bytes = codes ";"; change = changes.Keep; spaced = is_spaced before; may_be = terminals.Semicolon ∷ []; said = Nothing })
      ∷ [];
  spelling = refl;
  seen = refl;
  written = refl;
  last = refl;
  tells = (λ source commented at front after sit. tt, tt);
  stand = λ after ok. (refl, lit< tt, (refl, refl), λ e. absurd (cc), lone_token (sign ";") insides.Sheet before after refl refl, refl);
}

-- with a space before it
open_segment : (before : Before) → SheetSegment before (codes " {") (again.sign terminals.Open ∷ [])
    (open_sign true ∷ []) befores.Other Anything
unfolding byte
open_segment before = record {
  joints = Token (record { gap = codes " "; kind = kinds.OpenBrace; bytes = codes "{"; change = changes.Keep; spaced = true; may_be = terminals.Open ∷ []; said = Nothing })
      ∷ [];
  spelling = refl;
  seen = refl;
  written = refl;
  last = refl;
  tells = (λ source commented at front after sit. tt, tt);
  stand = λ after ok. (refl, lit< tt, (refl, refl), λ e. absurd (cc), lone_token (sign "{") insides.Sheet befores.White after refl refl, refl);
}

close_segment : SheetSegment befores.White (codes "}") (again.sign terminals.Close ∷ []) (close_sign true ∷ [])
    befores.Other Anything
close_segment = record {
  joints = Token (record { gap = []; kind = kinds.CloseBrace; bytes = codes "}"; change = changes.Keep; spaced = true; may_be = terminals.Close ∷ []; said = Nothing })
      ∷ [];
  spelling = refl;
  seen = refl;
  written = refl;
  last = refl;
  tells = (λ source commented at front after sit. tt, tt);
  stand = λ after ok. (refl, lit< tt, (refl, refl), λ e. absurd (cc), lone_token (sign "}") insides.Sheet befores.White after refl refl, refl);
}

-- ---- white space before a line

pub indent_white : (level : ℕ) → list_all is_white (indent level) ≡ true
indent_white zero = refl
indent_white (suc level) = indent_white level

abbrev pub line_gap : ℕ → List ℕ
line_gap level = codes "\n" ++ indent level

-- ---- what stands before a block

pub record IsHead (else_first : Bool) (text : List ℕ) (tokens : List Tok) (before : Before) : Type 0 where
  pub passed : List Written
  pub code : begins_code passed ≡ true
  pub end : Before
  pub loose : ends_unclosed text ≡ true → end ≡ befores.Other
  pub segment : SheetSegment before text tokens passed end (EndsText text)
  pub extends : {inner rest : List Written} {else_in else_next : Bool} → Statements else_in inner
      → Statements else_next rest
      → Statements else_first
      ((passed ++ seams (ends_unclosed text)) ++ open_sign true ∷ (inner ++ close_sign true ∷ rest))

headed : {mode : Mode} {passed : List Written} (unclosed : Bool) → Front mode passed → Headed mode (passed ++ seams unclosed)
headed true front = seamed front
headed {mode} {passed} false front = subst (Headed mode) (sym (append-nil passed)) (plainly front)

same_else : (passed more : List Written) → begins_code passed ≡ true → begins_else (passed ++ more) ≡ begins_else passed
same_else [] more c = absurd (cc)
same_else (one ∷ passed) more c = refl

pub front_head : {mode : Mode} {else_first : Bool} {text : List ℕ} {tokens : List Tok} {before : Before}
    → is_custom mode ≡ false → IsFrontWritten mode else_first text tokens before → IsHead else_first text tokens before
front_head {mode} {else_first} {text} custom it =
    let code = front_code it.front in record {
      passed = it.passed;
      code = code;
      end = it.end;
      loose = it.loose;
      segment = it.segment;
      extends = λ {inner} {rest} {else_in} {else_next} inside more.
          subst
          (λ (b : Bool). Statements b ((it.passed ++ seams (ends_unclosed text)) ++ open_sign true ∷ (inner ++ close_sign true ∷ rest)))
          (same_else it.passed (seams (ends_unclosed text)) code ∙ it.first)
          (statement_block true true (headed (ends_unclosed text) it.front) custom inside more);
    }

pub rule_head : {text : List ℕ} {tokens : List Tok} {before : Before} → (it : IsRuleWritten text tokens before)
    → begins_code it.passed ≡ true → IsHead false text tokens before
rule_head it code = record {
  passed = it.passed;
  code = code;
  end = it.end;
  loose = it.loose;
  segment = it.segment;
  extends = λ inside more. statement_rule true true it.raw it.rule inside more;
}

-- ---- blocks

-- a head with its block, up to the last line feed
pub record IsBlock (else_first : Bool) (level : ℕ) (head : List ℕ) (shown : List ShownStatement) (tokens : List Tok)
    (before : Before) : Type 0 where
  pub text : List ℕ
  pub text_is : block_text level head shown ≡ text ++ codes "\n"
  pub passed : List Written
  pub code : begins_code passed ≡ true
  pub segment : SheetSegment before text tokens passed befores.Other Anything
  pub extends : {rest : List Written} {else_next : Bool} → Statements else_next rest → Statements else_first (passed ++ rest)

close_text : (head space lines indented : List ℕ)
    → (head ++ (space ++ (codes "{" ++ (lines ++ (codes "\n" ++ (indented ++ codes "}")))))) ++ codes "\n"
    ≡ head ++ (space ++ (codes "{" ++ ((lines ++ codes "\n") ++ (indented ++ codes "}\n"))))
close_text head space lines indented =
    append_assoc head (space ++ (codes "{" ++ (lines ++ (codes "\n" ++ (indented ++ codes "}"))))) (codes "\n")
    ∙ ap (λ (t : List ℕ). head ++ t)
    (append_assoc space (codes "{" ++ (lines ++ (codes "\n" ++ (indented ++ codes "}")))) (codes "\n")
    ∙ ap (λ (t : List ℕ). space ++ (codes "{" ++ t))
    (append_assoc lines (codes "\n" ++ (indented ++ codes "}")) (codes "\n")
    ∙ ap (λ (t : List ℕ). lines ++ (codes "\n" ++ t)) (append_assoc indented (codes "}") (codes "\n"))
    ∙ sym (append_assoc lines (codes "\n") (indented ++ codes "}\n"))))

pub block_written : {else_first : Bool} {head : List ℕ} {ks inner : List Tok} {before : Before} (level : ℕ)
    (shown : List ShownStatement) → IsHead else_first head ks before → AreLinesWritten (level + 1) shown inner befores.Other
    → IsBlock else_first level head shown (ks ++ within (again.sign terminals.Open) inner terminals.Close) before
block_written {else_first} {head} {ks} {inner} {before} level shown it inside =
    let unclosed = ends_unclosed head in
    let pads = padded unclosed refl it.loose (text_pads head) it.segment in
    let close = gapped (sign "\n") (indent level) (indent_white level) refl close_segment inside.end in
    let behind = inside.text ++ (line_gap level ++ codes "}") in
    let passed = (it.passed ++ seams unclosed) ++ open_sign true ∷ (inside.passed ++ close_sign true ∷ []) in record {
      text = head ++ (space_by unclosed ++ (codes "{" ++ behind));
      text_is = sym (close_text head (space_behind head) inside.text (indent level)
          ∙ ap (λ (t : List ℕ). head ++ (space_behind head ++ (codes "{" ++ (t ++ (indent level ++ codes "}\n"))))) (sym inside.text_is));
      passed = passed;
      code = code_before (it.passed ++ seams unclosed) _ (code_before it.passed (seams unclosed) it.code);
      segment = as_text (space_text [] head (codes "{" ++ behind) unclosed)
          (join pads.segment
          (join (open_segment pads.end) (join inside.segment close (λ after ok. tt)) (λ after ok. tt))
          (λ after ok. ((codes "{" ++ behind) ++ after, refl)));
      extends = λ {rest} more.
          subst (λ (l : List Written). Statements else_first l)
          (sym (append_assoc (it.passed ++ seams unclosed) (open_sign true ∷ (inside.passed ++ close_sign true ∷ [])) rest
          ∙ ap (λ (l : List Written). (it.passed ++ seams unclosed) ++ open_sign true ∷ l) (append_assoc inside.passed (close_sign true ∷ []) rest)))
          (it.extends inside.listed more);
    }
