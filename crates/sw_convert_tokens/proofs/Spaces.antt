-- A space behind a value, and the empty comment before it where an escape would take it.
use Rattle.std.proofs.Common.{◌≡◌, ℕ, Bool, true, false, if◌then◌else◌, List, [], ◌∷◌, ◌++◌, append-nil, refl, sym, ◌∙◌, ap, subst, append_assoc, lit<}
use Rattle.std.specs.Prelude.{codes}
use Rattle.sw_text_scan.specs.Bytes.{sign, byte}
use Rattle.sw_text_scan.specs.Runs.{run_end}
use Rattle.sw_tokens.specs.declared.pieces.Before.{Before}
use Rattle.sw_tokens.specs.declared.pieces.Before.TheVariants as befores
use Rattle.sw_tokens.specs.declared.pieces.Change.TheVariants as changes
use Rattle.sw_tokens.specs.declared.skips.Inside.{Inside}
use Rattle.sw_tokens.specs.declared.token.TokenKind.TheVariants as kinds
use Rattle.sw_tokens.specs.Pieces.{made, piece, code_piece, loud_piece}
use Rattle.sw_tokens.specs.Tokens.{is_spaced}
use Rattle.sw_parse_lexemes.specs.declared.state.Mode.{Mode}
use Rattle.sw_convert_spelling.specs.Spelt.{behind_gap, innermost, is_sheet_code}
use Rattle.sw_convert_written.specs.Escapes.{apart, ends_unclosed}
use Rattle.sw_convert_passing.specs.Written.{Written}
use Rattle.sw_convert_passing.specs.Values.{Value, seam, seamed}
use Rattle.sw_convert_again.specs.Tokens.{Tok}
use Rattle.sw_convert_tokens.specs.Joints.{Apart, Segment}
use Rattle.sw_convert_tokens.specs.Written.{Follows, is_calm, gap_of, AsValue, WrittenAs, is_bounded}
use Rattle.sw_convert_tokens.proofs.Joins.{join, as_text, as_toks, as_behind}
use Rattle.sw_convert_tokens.proofs.Signs.{Anything, token_by}
use Rattle.sw_convert_tokens.proofs.Unclosed.{space_ends, unclosed_behind, follows_end}

-- an empty comment is one token
apart_token : (after : List ℕ) (inside : Inside) → is_sheet_code inside ≡ true
    → piece (apart ++ after) inside befores.Other 0 ≡ made kinds.Comment 4 changes.Keep
unfolding code_piece loud_piece byte run_end
apart_token after inside code =
    token_by kinds.Comment (sign "/") (codes "**/") after inside befores.Other code refl refl refl refl refl

pub apart_segment : Segment befores.Other apart [] (seam ∷ []) befores.White Anything
apart_segment = record {
  joints = Apart ∷ [];
  spelling = refl;
  seen = refl;
  written = refl;
  last = refl;
  tells = tt;
  stand = λ stack after code ok. (refl, lit< tt, refl, λ e. absurd (cc), apart_token after (innermost stack) code, refl);
}

-- ---- a space behind a value

-- a space stands behind
abbrev pub BeginsSpace : List ℕ → Type 0
BeginsSpace after = (rest : List ℕ) × (after ≡ sign " " ∷ rest)

-- the empty comment that an unclosed escape needs before a space, and both
abbrev pub pad : Bool → List ℕ
pad unclosed = if unclosed then apart else []

abbrev pub space_by : Bool → List ℕ
space_by unclosed = if unclosed then apart ++ codes " " else codes " "

-- a value with that comment behind it or without
pub record Padded (signed unclosed : Bool) (value : List ℕ) (tokens : List Tok) (before : Before) (spaced : Bool) : Type 0 where
  pub passed : List Written
  pub end : Before
  pub segment : Segment before (gap_of spaced ++ (value ++ pad unclosed)) tokens passed end BeginsSpace
  pub told : (mode : Mode) → is_bounded mode ≡ false
      → Value mode (is_spaced (behind_gap before (gap_of spaced))) signed passed

pub padded : {signed : Bool} {value : List ℕ} {tokens : List Tok} → WrittenAs (AsValue signed) value tokens
    → (unclosed : Bool) → ends_unclosed value ≡ unclosed → (before : Before) (spaced : Bool)
    → is_calm (behind_gap before (gap_of spaced)) ≡ true → Padded signed unclosed value tokens before spaced
padded {value = value} it false e before spaced calm =
    let one = it before spaced calm in record {
      passed = one.passed;
      end = befores.Other;
      segment = as_text (ap (λ (t : List ℕ). gap_of spaced ++ t) (sym (append-nil value)))
          (as_behind (λ after space. subst (λ (t : List ℕ). Follows value t) (sym space.1) (record { stop = refl; closed = e }))
          one.segment);
      told = one.told;
    }
padded {value = value} it true e before spaced calm =
    let one = it before spaced calm in record {
      passed = one.passed ++ seam ∷ [];
      end = befores.White;
      segment = as_text (append_assoc (gap_of spaced) value apart)
          (as_toks (append-nil _)
          (as_behind (λ after space. tt) (join one.segment apart_segment (λ after ok. record { stop = refl; closed = refl }))));
      told = λ mode free. seamed (one.told mode free);
    }

-- the text of a value, of a space and of what stands behind it
pub space_text : (gap value more : List ℕ) (unclosed : Bool)
    → (gap ++ (value ++ pad unclosed)) ++ sign " " ∷ more ≡ gap ++ (value ++ (space_by unclosed ++ more))
space_text gap value more unclosed =
    append_assoc gap (value ++ pad unclosed) (sign " " ∷ more)
    ∙ ap (λ (t : List ℕ). gap ++ t)
    (append_assoc value (pad unclosed) (sign " " ∷ more) ∙ ap (λ (t : List ℕ). value ++ t) (spaces unclosed))
  where
    spaces : (t : Bool) → pad t ++ sign " " ∷ more ≡ space_by t ++ more
    spaces true = refl
    spaces false = refl

pub unclosed_spaced : (value more : List ℕ) (unclosed : Bool)
    → ends_unclosed (value ++ (space_by unclosed ++ more)) ≡ ends_unclosed more
unclosed_spaced value more unclosed =
    ap ends_unclosed (sym (space_text [] value more unclosed)) ∙ unclosed_behind (value ++ pad unclosed) more (sign " ") space_ends

pub follows_spaced : (value more : List ℕ) (unclosed : Bool) (after : List ℕ)
    → Follows (value ++ (space_by unclosed ++ more)) after → Follows more after
follows_spaced value more unclosed after f =
    follows_end (value ++ pad unclosed) more (sign " ") space_ends after
    (subst (λ (t : List ℕ). Follows t after) (sym (space_text [] value more unclosed)) f)
