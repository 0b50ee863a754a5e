-- A lexeme whose ends stand where the text may be cut. Those of a text's own tokens do; a list of lexemes by itself says
-- nothing of a text.
use Rattle.std.proofs.Common.{◌≡◌, ℕ, ◌≤◌, ◌<◌, Bool, true, false, not, ◌&&◌, ◌||◌, nat_lt, nat_le, if◌then◌else◌, List, [], ◌∷◌, map, length, slice_index, All, refl, arith}
use Rattle.std.specs.Str.{IsCharBoundary}
use Rattle.std.proofs.lemmas.Bool.Decides.{nat_tests}
use Rattle.std.proofs.lemmas.Str.{IsCharBoundary-end}
use Rattle.std.proofs.lemmas.List.Elements.{All-nil, All-cons}
use Rattle.sw_text.specs.Places.{pos_at}
use Rattle.sw_parse_terminals.specs.Lies.{LexemeLies}
use Rattle.sw_parse_terminals.specs.declared.lexeme.Lexeme.{Lexeme}

-- a character begins at the offset, or the text ends there
abbrev pub is_cut : List ℕ → ℕ → Bool
is_cut bytes k =
    nat_le k (length bytes)
    && (not (nat_lt k (length bytes) && nat_le 128 (slice_index bytes k)) || nat_le 192 (slice_index bytes k))

-- the offset itself if it is such a one, else that of the end
abbrev pub cut_at : List ℕ → ℕ → ℕ
cut_at bytes k = if is_cut bytes k then k else length bytes

-- the lexeme with both its ends there, and with their lines and columns
abbrev pub laid : List ℕ → Lexeme → Lexeme
laid bytes lexeme =
    record lexeme {
      from = cut_at bytes lexeme.from;
      to = cut_at bytes lexeme.to;
      start = pos_at bytes (cut_at bytes lexeme.from);
      end = pos_at bytes (cut_at bytes lexeme.to);
    }

told_cut : (k n b : ℕ) → (nat_le k n && (not (nat_lt k n && nat_le 128 b) || nat_le 192 b)) ≡ true
    → (k ≤ n) × (k < n → 128 ≤ b → 192 ≤ b)
told_cut k n b e = (grind (arith, nat_tests), λ l a. grind (arith, nat_tests))

chosen : (bytes : List ℕ) (k : ℕ) (b : Bool) → is_cut bytes k ≡ b → IsCharBoundary bytes (if b then k else length bytes)
chosen bytes k true e = told_cut k (length bytes) (slice_index bytes k) e
chosen bytes k false e = IsCharBoundary-end bytes

cut_is : (bytes : List ℕ) (k : ℕ) → IsCharBoundary bytes (cut_at bytes k)
cut_is bytes k = chosen bytes k (is_cut bytes k) refl

-- it lies in the text
laid_lies : (bytes : List ℕ) (lexeme : Lexeme) → LexemeLies bytes (laid bytes lexeme)
laid_lies bytes lexeme =
    record { from = cut_is bytes lexeme.from; to = cut_is bytes lexeme.to; start = refl; end = refl }

pub laid_lie : (bytes : List ℕ) (lexemes : List Lexeme) → All (LexemeLies bytes) (map (laid bytes) lexemes)
laid_lie bytes [] = All-nil (LexemeLies bytes)
laid_lie bytes (lexeme ∷ lexemes) =
    All-cons (LexemeLies bytes) (laid bytes lexeme) (map (laid bytes) lexemes) (laid_lies bytes lexeme)
    (laid_lie bytes lexemes)
