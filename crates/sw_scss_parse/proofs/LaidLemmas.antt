-- A lexeme that lies in a text is laid there as it is.
use Rattle.std.proofs.Common.{◌≡◌, ℕ, ◌≤◌, ◌<◌, Bool, true, not, ◌&&◌, ◌||◌, nat_lt, nat_le, if◌then◌else◌, List, [], ◌∷◌, map, length, slice_index, All, refl, sym, ap, arith}
use Rattle.std.specs.Str.{IsCharBoundary}
use Rattle.std.specs.List.{AllByRecursion}
use Rattle.std.proofs.lemmas.Bool.Decides.{nat_tests}
use Rattle.std.proofs.lemmas.List.Elements.{recursion_from_All}
use Rattle.sw_parse_terminals.specs.Lies.{LexemeLies}
use Rattle.sw_parse_terminals.specs.declared.lexeme.Lexeme.{Lexeme}
use Rattle.sw_scss_parse.specs.Laid.{cut_at, laid}

cut_told : (k n b : ℕ) → k ≤ n → (k < n → 128 ≤ b → 192 ≤ b)
    → (nat_le k n && (not (nat_lt k n && nat_le 128 b) || nat_le 192 b)) ≡ true
cut_told k n b l f = grind (arith, nat_tests, f)

cut_same : (bytes : List ℕ) (k : ℕ) → IsCharBoundary bytes k → cut_at bytes k ≡ k
cut_same bytes k at =
    ap (λ (b : Bool). if b then k else length bytes) (cut_told k (length bytes) (slice_index bytes k) at.0 at.1)

one_same : (bytes : List ℕ) (lexeme : Lexeme) → LexemeLies bytes lexeme → laid bytes lexeme ≡ lexeme
one_same bytes lexeme lies =
    let from = cut_same bytes lexeme.from lies.from in
    let to = cut_same bytes lexeme.to lies.to in
    rw (from, to) (rw (sym lies.start, sym lies.end) refl)

all_same : (bytes : List ℕ) (lexemes : List Lexeme) → AllByRecursion (LexemeLies bytes) lexemes
    → map (laid bytes) lexemes ≡ lexemes
all_same bytes [] lie = refl
all_same bytes (lexeme ∷ lexemes) lie =
    let one = one_same bytes lexeme lie.0 in
    let rest = all_same bytes lexemes lie.1 in cc

pub laid_same : (bytes : List ℕ) (lexemes : List Lexeme) → All (LexemeLies bytes) lexemes
    → map (laid bytes) lexemes ≡ lexemes
laid_same bytes lexemes lie = all_same bytes lexemes (recursion_from_All (LexemeLies bytes) lexemes lie)
