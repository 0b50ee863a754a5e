-- Whether an escape is open at the end of a text is told by what stands behind the last sign in it.
use Rattle.std.proofs.Common.{◌≡◌, ℕ, Bool, true, false, ◌&&◌, if◌then◌else◌, List, [], ◌∷◌, ◌++◌, Option, Some, None, refl, sym, ◌∙◌, ap}
use Rattle.std.specs.Prelude.{◌==◌, nat_lt}
use Rattle.sw_text_scan.specs.Bytes.{sign, is_hex_digit}
use Rattle.sw_text_scan.specs.declared.runs.TheConstants.{MOST_HEX_DIGITS}
use Rattle.sw_text_scan.proofs.Bounds.{if_false}
use Rattle.sw_convert_spelling.proofs.Choices.{left_no}
use Rattle.sw_convert_written.specs.Escapes.{begun, takes_white, behind_text, ends_unclosed}
use Rattle.sw_convert_written.specs.Escapes as escapes
use Rattle.sw_convert_tokens.specs.Written.{Follows, begins_white}

-- a byte that is part of no hexadecimal escape
pub record Ends (b : ℕ) : Type 0 where
  pub slash : (b == sign "\\") ≡ false
  pub digit : is_hex_digit b ≡ false

state_ends : (state : Option ℕ) (b : ℕ) → Ends b → escapes.behind state b ≡ None
state_ends None b e = if_false (b == sign "\\") (Some 0) None e.slash
state_ends (Some digits) b e =
    if_false (is_hex_digit b && nat_lt digits MOST_HEX_DIGITS) _ _ (left_no (is_hex_digit b) _ e.digit) ∙ go (digits == 0)
  where
    go : (t : Bool) → (if t then None else begun b) ≡ None
    go true = refl
    go false = if_false (b == sign "\\") (Some 0) None e.slash

state_behind : (state : Option ℕ) (xs ys : List ℕ) (b : ℕ) → Ends b
    → behind_text state (xs ++ b ∷ ys) ≡ behind_text None ys
state_behind state [] ys b e = ap (λ (s : Option ℕ). behind_text s ys) (state_ends state b e)
state_behind state (x ∷ xs) ys b e = state_behind (escapes.behind state x) xs ys b e

pub unclosed_behind : (xs ys : List ℕ) (b : ℕ) → Ends b → ends_unclosed (xs ++ b ∷ ys) ≡ ends_unclosed ys
unfolding ends_unclosed
unclosed_behind xs ys b e = ap takes_white (state_behind None xs ys b e)

pub unclosed_never : (xs : List ℕ) (b : ℕ) → Ends b → ends_unclosed (xs ++ b ∷ []) ≡ false
unfolding ends_unclosed
unclosed_never xs b e = unclosed_behind xs [] b e

-- what may stand behind a text may stand behind its end
pub follows_end : (xs ys : List ℕ) (b : ℕ) → Ends b → (after : List ℕ) → Follows (xs ++ b ∷ ys) after → Follows ys after
follows_end xs ys b e after f = record {
  stop = f.stop;
  closed = ap (λ (t : Bool). begins_white after && t) (sym (unclosed_behind xs ys b e)) ∙ f.closed;
}

pub space_ends : Ends (sign " ")
space_ends = record { slash = refl; digit = refl }

pub slash_ends : Ends (sign "/")
slash_ends = record { slash = refl; digit = refl }
