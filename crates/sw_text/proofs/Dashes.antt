-- Names in which `_` is written as `-`.
use Rattle.std.proofs.Common.{◌≡◌, ℕ, ◌+◌, ◌<◌, List, ◌∷◌, [], ◌++◌, length, get_or, take, drop, append-nil, arith, sym, ap, ◌∙◌}
use Rattle.std.proofs.lemmas.List.{drop_all, take_more, map-append, length-take}
use Rattle.std.proofs.lemmas.Str.{IsCharBoundary-after_ascii, IsCharBoundary-start}
use Rattle.std.specs.Str.{IsCharBoundary, IsUtf8}
use Rattle.sw_text.specs.Names.{dash, dashed}

-- behind a byte of ASCII a character begins
pub boundary_behind : (bytes : List ℕ) (i : ℕ) → IsUtf8 bytes → i < length bytes → (b : ℕ) → get_or bytes i 0 ≡ b → b < 128 → IsCharBoundary bytes (i + 1)
boundary_behind bytes i u l b e lt = IsCharBoundary-after_ascii bytes i u l (omega (arith, e))

pub boundary_start : (bytes : List ℕ) → IsUtf8 bytes → IsCharBoundary bytes 0
boundary_start bytes u = IsCharBoundary-start bytes u

pub dashed_step : (name' name text : List ℕ) (from at : ℕ) → at < length text → get_or text at 0 ≡ 95 → name' ≡ (name ++ drop from (take at text)) ++ 45 ∷ []
    → name ++ drop from (take at text) ≡ dashed (take at text) → name' ++ drop (at + 1) (take (at + 1) text) ≡ dashed (take (at + 1) text)
dashed_step name' name text from at l e is inv =
    let none : drop (at + 1) (take (at + 1) text) ≡ [] = drop_all (at + 1) (take (at + 1) text) (omega (arith, length-take (at + 1) text)) in
    let more : take (at + 1) text ≡ take at text ++ 95 ∷ [] = take_more text at 0 l ∙ ap (λ (x : ℕ). take at text ++ x ∷ []) e in
    ap (λ (x : List ℕ). name' ++ x) none ∙ append-nil name' ∙ is ∙ ap (λ (x : List ℕ). x ++ 45 ∷ []) inv
    ∙ sym (ap dashed more ∙ map-append dash (take at text) (95 ∷ []))
