-- What stands at the front of the bytes behind the line of a put.
use Rattle.std.proofs.Common.{◌≡◌, ◌≢◌, ℕ, ◌≤◌, true, false, eqb, if◌then◌else◌, List, [], ◌∷◌, ◌++◌, length, take, drop, refl, ap, ◌∙◌, append_assoc, arith, inl, inr}
use Rattle.std.proofs.lemmas.List.{take_at, drop_at, drop_all, take-append-le, drop-append-le}
use Rattle.std.proofs.lemmas.Bool.{cases_lt}
use Rattle.std.proofs.lemmas.Bool.Decides.{nat_tests}
use Rattle.sw_cmd_protocol.specs.Script.{Next, Whole, NoRequest, Short}
use Rattle.sw_cmd_protocol.specs.Exactly.{more_next}
use Rattle.sw_cmd_edits.specs.Puts.{put_at, put_next}

other : (y : ℕ) → y ≢ 10 → eqb y 10 ≡ false
other y n = grind (arith, nat_tests)

-- what a line begins stays as it is
at_grows : {Event : Type 0} (event : Event) (tail more : List ℕ) → put_at event tail ≢ Short → put_at event (tail ++ more) ≡ more_next more (put_at event tail)
at_grows event [] more h = absurd (h refl)
at_grows {Event} event (byte ∷ tail) more h =
    elim (eqb byte 10) as (λ t. (if t then Whole event (tail ++ more) else NoRequest) ≡ more_next more (if t then Whole event tail else NoRequest)) [ true ↦ refl | false ↦ refl ]

module _ {Event : Type 0} (put : List ℕ → Event) (count : ℕ) where
  at_body : (bytes tail : List ℕ) → length bytes ≡ count → put_next put count (bytes ++ tail) ≡ put_at (put bytes) tail
  at_body bytes tail e = rw (take_at bytes tail count e, drop_at bytes tail count e) refl

  pub put_whole : (bytes : List ℕ) → length bytes ≡ count → (rest : List ℕ) → put_next put count ((bytes ++ 10 ∷ []) ++ rest) ≡ Whole (put bytes) rest
  put_whole bytes e rest = ap (put_next put count) (append_assoc bytes (10 ∷ []) rest) ∙ at_body bytes (10 ∷ rest) e

  pub put_wrong : (bytes : List ℕ) (byte : ℕ) → length bytes ≡ count → byte ≢ 10 → (rest : List ℕ) → put_next put count ((bytes ++ byte ∷ []) ++ rest) ≡ NoRequest
  put_wrong bytes byte e n rest = ap (put_next put count) (append_assoc bytes (byte ∷ []) rest) ∙ at_body bytes (byte ∷ rest) e ∙ rw (other byte n) refl

  pub put_short : (bytes : List ℕ) → length bytes ≤ count → put_next put count bytes ≡ Short
  put_short bytes le = ap (put_at (put (take count bytes))) (drop_all count bytes le)

  pub put_grows : (rest more : List ℕ) → put_next put count rest ≢ Short → put_next put count (rest ++ more) ≡ more_next more (put_next put count rest)
  put_grows rest more h =
      elim (cases_lt count (length rest)) [
        | inl lt ↦ let le : count ≤ length rest = omega arith in
            rw (take-append-le count rest more le, drop-append-le count rest more le) (at_grows (put (take count rest)) (drop count rest) more h)
        | inr le ↦ absurd (h (ap (put_at (put (take count rest))) (drop_all count rest le)))
      ]
