-- Flags behind a value.
use Rattle.std.proofs.Common.{◌≡◌, ℕ, Bool, true, false, List, [], ◌∷◌, ◌++◌, append-nil, refl, sym, ◌∙◌, ap, subst, append_assoc, lit<}
use Rattle.std.specs.Prelude.{codes}
use Rattle.sw_text_scan.specs.Bytes.{sign, byte}
use Rattle.sw_text_scan.specs.Runs.{run_end, escape_end, begins_name}
use Rattle.sw_text_locality.specs.Names as locality
use Rattle.sw_tree.specs.declared.statement.Flags.{Flags as TreeFlags}
use Rattle.sw_tokens.specs.declared.pieces.Before.{Before}
use Rattle.sw_tokens.specs.declared.pieces.Before.TheVariants as befores
use Rattle.sw_tokens.specs.declared.token.TokenKind.TheVariants as kinds
use Rattle.sw_tokens.specs.Pieces.{code_piece, word_piece, name_piece, sign_piece, opens_url, number_piece, is_hex_form, quote_piece, loud_piece}
use Rattle.sw_parse_terminals.specs.declared.terminal.Terminal.{Terminal}
use Rattle.sw_parse_terminals.specs.declared.terminal.Terminal.TheVariants as terminals
use Rattle.sw_parse_lexemes.specs.declared.sort.Sort.{Sort}
use Rattle.sw_parse_lexemes.specs.declared.sort.Sort.TheVariants as sorts
use Rattle.sw_parse_lexemes.specs.Names.{behind_bang}
use Rattle.sw_convert_written.specs.Escapes.{ends_unclosed, space_behind}
use Rattle.sw_convert_written.specs.Heads.{with_flags}
use Rattle.sw_convert_passing.specs.Written.{Written, direct, apart}
use Rattle.sw_convert_passing.specs.Values.{Flags, no_flag, flag}
use Rattle.sw_convert_passing.specs.Kinds.{is_flag_sort}
use Rattle.sw_convert_again.specs.Tokens.{Tok}
use Rattle.sw_convert_again.specs.Tokens as again
use Rattle.sw_convert_again.specs.Statements.{flag_if, flag_tokens}
use Rattle.sw_convert_tokens.specs.Joints.{Segment}
use Rattle.sw_convert_tokens.specs.Written.{Follows}
use Rattle.sw_convert_tokens.proofs.Joins as joins
use Rattle.sw_convert_tokens.proofs.Signs.{Fits, sign_segment, sign_token}
use Rattle.sw_convert_tokens.proofs.Leaves.{word_segment}
use Rattle.sw_convert_tokens.proofs.Unclosed.{Ends, follows_end}
use Rattle.sw_convert_tokens.proofs.Spaces.{space_text, unclosed_spaced, follows_spaced}
use Rattle.sw_convert_heads_passing.specs.Statements.{FlagsBehind, directly, behind_seam}
use Rattle.sw_convert_texts.specs.RawTexts.{SheetSegment}
use Rattle.sw_convert_statements.specs.Segments.{seams}
use Rattle.sw_convert_statements.proofs.Segments.{sheet, join, as_text, as_toks, as_passed, as_behind, value_pads, padded}

-- a flag behind a space
pub record IsFlag (terminal : Terminal) (sort : Sort) (word : List ℕ) : Type 0 where
  pub is : is_flag_sort sort ≡ true
  pub told : behind_bang sort ≡ terminal
  pub closed : ends_unclosed (codes "!" ++ word) ≡ false
  pub segment : (before : Before)
      → Segment before (codes " !" ++ word) (again.sign terminals.Ending ∷ again.sign terminal ∷ [])
      (apart sorts.Exclamation terminals.Ending ∷ direct sort terminal ∷ []) befores.Other (Follows word)

bang : (before : Before) (b : ℕ) → ((rest : List ℕ) → Fits kinds.Exclamation (b ∷ rest))
    → Segment before (codes " !") (again.sign terminals.Ending ∷ []) (apart sorts.Exclamation terminals.Ending ∷ [])
    befores.Other (λ after. (rest : List ℕ) × (after ≡ b ∷ rest))
unfolding byte
bang before b fits =
    sign_segment kinds.Exclamation (codes "!") (terminals.Ending ∷ []) before true _ refl refl refl (lit< tt)
    (λ inside after code next. sign_token kinds.Exclamation after inside befores.White refl code refl
    (subst (λ (t : List ℕ). Fits kinds.Exclamation t) (sym next.1) (fits next.0)))

pub default_flag : IsFlag terminals.Default sorts.Default (codes "default")
unfolding code_piece word_piece name_piece sign_piece opens_url number_piece byte begins_name escape_end run_end is_hex_form quote_piece loud_piece locality.ends_unclosed locality.is_unclosed ends_unclosed
default_flag = record {
  is = refl;
  told = refl;
  closed = refl;
  segment = λ before.
      joins.join (bang before (sign "d") (λ rest. refl))
      (word_segment (sign "d") (sign "e") (codes "fault") terminals.Default befores.Other false refl refl refl refl refl refl refl)
      (λ after f. (codes "efault" ++ after, refl));
}

global_flag : IsFlag terminals.Global sorts.Global (codes "global")
unfolding code_piece word_piece name_piece sign_piece opens_url number_piece byte begins_name escape_end run_end is_hex_form quote_piece loud_piece locality.ends_unclosed locality.is_unclosed ends_unclosed
global_flag = record {
  is = refl;
  told = refl;
  closed = refl;
  segment = λ before.
      joins.join (bang before (sign "g") (λ rest. refl))
      (word_segment (sign "g") (sign "l") (codes "obal") terminals.Global befores.Other false refl refl refl refl refl refl refl)
      (λ after f. (codes "lobal" ++ after, refl));
}

-- ---- behind a text

abbrev pub flag_of : Sort → Terminal → List Written
flag_of sort terminal = apart sorts.Exclamation terminals.Ending ∷ direct sort terminal ∷ []

-- one flag behind the tokens of a text
pub one_flag : {before : Before} {value : List ℕ} {tokens : List Tok} {passed : List Written} {terminal : Terminal}
    {sort : Sort} {word : List ℕ} → IsFlag terminal sort word
    → SheetSegment before value tokens passed befores.Other (Follows value)
    → SheetSegment before (value ++ (space_behind value ++ (codes "!" ++ word)))
    (tokens ++ again.sign terminals.Ending ∷ again.sign terminal ∷ [])
    (passed ++ (seams (ends_unclosed value) ++ flag_of sort terminal)) befores.Other
    (Follows (value ++ (space_behind value ++ (codes "!" ++ word))))
one_flag {value = value} {passed = passed} {terminal = terminal} {sort = sort} {word = word} is it =
    let unclosed = ends_unclosed value in
    let pads = padded unclosed refl (λ u. refl) (value_pads value) it in
    as_behind (λ after f. follows_end [] word (sign "!") bang_ends after (follows_spaced value (codes "!" ++ word) unclosed after f))
    (as_passed (append_assoc passed (seams unclosed) (flag_of sort terminal))
    (as_text (space_text [] value (codes "!" ++ word) unclosed)
    (join pads.segment (sheet (is.segment pads.end)) (λ after f. ((codes "!" ++ word) ++ after, refl)))))
  where
    bang_ends : Ends (sign "!")
    bang_ends = record { slash = refl; digit = refl }

pub flag_closed : (value word : List ℕ) → ends_unclosed (codes "!" ++ word) ≡ false
    → ends_unclosed (value ++ (space_behind value ++ (codes "!" ++ word))) ≡ false
flag_closed value word e = unclosed_spaced value (codes "!" ++ word) (ends_unclosed value) ∙ e

-- what stands behind the value
pub record WithFlags (before : Before) (value : List ℕ) (tokens : List Tok) (passed : List Written) (flags : TreeFlags) :
    Type 0 where
  pub more : List Written
  pub segment : SheetSegment before (with_flags flags value) (tokens ++ flag_tokens flags) (passed ++ more) befores.Other
      (Follows (with_flags flags value))
  pub are : FlagsBehind more

seamed_flags : (unclosed : Bool) (flags : List Written) → Flags flags → FlagsBehind (seams unclosed ++ flags)
seamed_flags true flags f = behind_seam f
seamed_flags false flags f = directly f

abbrev flags_in : Bool → Bool → TreeFlags
flags_in default global = record { default = default; global = global }

pub flags_written : {before : Before} {value : List ℕ} {tokens : List Tok} {passed : List Written}
    → SheetSegment before value tokens passed befores.Other (Follows value) → (flags : TreeFlags)
    → WithFlags before value tokens passed flags
flags_written {before} {value} {tokens} {passed} it flags = go flags.default flags.global
  where
    text_is : (t : List ℕ) → t ++ [] ≡ t
    text_is t = append-nil t

    go : (default global : Bool) → WithFlags before value tokens passed (flags_in default global)
    go false false = record {
      more = [];
      segment = as_text (sym (text_is (value ++ [])) ∙ ap (λ (t : List ℕ). t ++ []) refl)
          (as_behind (λ after f. subst (λ (t : List ℕ). Follows t after) (text_is (value ++ []) ∙ text_is value) f)
          (as_text (sym (text_is value)) (as_toks (sym (append-nil tokens)) (as_passed (sym (append-nil passed)) it))));
      are = directly no_flag;
    }
    go true false = record {
      more = seams (ends_unclosed value) ++ flag_of sorts.Default terminals.Default;
      segment = as_behind (λ after f. subst (λ (t : List ℕ). Follows t after) (text_is _) f)
          (as_text (sym (text_is _)) (one_flag default_flag it));
      are = seamed_flags (ends_unclosed value) _ (flag sorts.Default refl no_flag);
    }
    go false true =
        let plain = as_behind (λ after f. subst (λ (t : List ℕ). Follows t after) (text_is value) f)
        (as_text (sym (text_is value)) it) in record {
          more = seams (ends_unclosed (value ++ [])) ++ flag_of sorts.Global terminals.Global;
          segment = one_flag global_flag plain;
          are = seamed_flags (ends_unclosed (value ++ [])) _ (flag sorts.Global refl no_flag);
        }
    go true true =
        let first = one_flag default_flag it in
        let text = value ++ (space_behind value ++ codes "!default") in
        let closed = flag_closed value (codes "default") default_flag.closed in
        let second = one_flag global_flag first in record {
          more = seams (ends_unclosed value) ++ (flag_of sorts.Default terminals.Default ++ flag_of sorts.Global terminals.Global);
          segment = as_toks (append_assoc tokens (flag_if true terminals.Default) (flag_if true terminals.Global))
              (as_passed
              (ap (λ (u : Bool). (passed ++ (seams (ends_unclosed value) ++ flag_of sorts.Default terminals.Default))
              ++ (seams u ++ flag_of sorts.Global terminals.Global)) closed
              ∙ append_assoc passed (seams (ends_unclosed value) ++ flag_of sorts.Default terminals.Default)
              (flag_of sorts.Global terminals.Global)
              ∙ ap (λ (l : List Written). passed ++ l)
              (append_assoc (seams (ends_unclosed value)) (flag_of sorts.Default terminals.Default)
              (flag_of sorts.Global terminals.Global))) second);
          are = seamed_flags (ends_unclosed value) _ (flag sorts.Default refl (flag sorts.Global refl no_flag));
        }
