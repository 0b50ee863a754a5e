-- Places of a text.
use Rattle.std.proofs.Common.{◌≡◌, ℕ, suc, ◌+◌, ◌<◌, List, ◌∷◌, length, get_or, drop, drop-cons, add-one, arith, sym, ap, ◌∙◌}
use Rattle.sw_parse_terminals.specs.Urls.{part_from, part_start}
use Rattle.std.proofs.lemmas.Str.{IsCharBoundary-after_ascii, IsCharBoundary-start}
use Rattle.std.specs.Str.{IsCharBoundary, IsUtf8}

-- behind a byte of ASCII a character begins
pub boundary_behind : (bytes : List ℕ) (i : ℕ) → IsUtf8 bytes → i < length bytes → (b : ℕ) → get_or bytes i 0 ≡ b → b < 128 → IsCharBoundary bytes (i + 1)
boundary_behind bytes i u l b e lt = IsCharBoundary-after_ascii bytes i u l (omega (arith, e))

pub boundary_start : (bytes : List ℕ) → IsUtf8 bytes → IsCharBoundary bytes 0
boundary_start bytes u = IsCharBoundary-start bytes u

byte_next : (bytes : List ℕ) (i b : ℕ) → i < length bytes → get_or bytes i 0 ≡ b → drop i bytes ≡ b ∷ drop (i + 1) bytes
byte_next bytes i b l e = rw add-one (drop-cons bytes i 0 l ∙ ap (λ (x : ℕ). x ∷ drop (suc i) bytes) e)

-- behind a `/` the last part of a URL may begin
pub part_step : (url : List ℕ) (start at : ℕ) → at < length url → get_or url at 0 ≡ 47 → part_from start at (drop at url) ≡ part_start url → part_from (at + 1) (at + 1) (drop (at + 1) url) ≡ part_start url
part_step url start at l e inv = ap (part_from start at) (sym (byte_next url at 47 l e)) ∙ inv
