-- Words that differ in their first byte.
use Rattle.std.proofs.Common.{◌≡◌, ℕ, List, false, arith}
use Rattle.std.specs.Prelude.{◌==◌, bytes_eq}
use Rattle.std.proofs.lemmas.Bool.Decides.{nat_tests}
use Rattle.std.proofs.lemmas.Slice.Eq.{bytes_eq-Decides}
use Rattle.sw_text_scan.specs.Bytes.{byte}

pub first_differs : (word known : List ℕ) → (byte word 0 == byte known 0) ≡ false → bytes_eq word known ≡ false
first_differs word known e = grind (arith, nat_tests, bytes_eq-Decides word known)
