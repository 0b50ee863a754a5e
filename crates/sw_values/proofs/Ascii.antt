-- The texts of numbers, and of colours that aren't spelt, are ASCII.
use Rattle.std.proofs.Common.{◌≡◌, ◌<◌, ◌≤◌, ◌+◌, ◌/◌, ◌%◌, ◌^◌, ◌==◌, ℕ, zero, suc, true, false, if◌then◌else◌, List, [], ◌∷◌, ◌++◌, ℤ, pos, negsuc, unsigned_abs, decimal, codes, Option, None, arith, sym, ap, subst, ◌∙◌}
use Rattle.std.specs.Str.{IsAscii}
use Rattle.std.proofs.lemmas.Bool.Decides.{nat_tests}
use Rattle.std.proofs.lemmas.Str.{IsAscii-append}
use Rattle.std.proofs.lemmas.Str.Ascii.{IsAscii-nil, IsAscii-cons}
use Rattle.std.proofs.lemmas.Fmt.{IsAscii-decimal_wide}
use Rattle.std.proofs.Math.Nat.{div-lt_iff_lt-mul, div-le_self, pow-succ', mod-lt, one-le-pow}
use Rattle.sw_fixed.specs.Arithmetic.{scale, limit, IsWithin}
use Rattle.sw_fixed.specs.Text.{decimals, fraction_text, magnitude_text, text_of}
use Rattle.sw_colour.specs.Colours.{Rgba}
use Rattle.sw_colour.specs.Text.{digit_of, hex_text, channels_text, computed_text, text_by, css_text}

positive : (places : ℕ) → 0 < 10 ^ places
positive places = one-le-pow places 10 (omega arith)

digit : (places rest : ℕ) → rest < 10 ^ suc places → rest / 10 ^ places < 10
digit places rest h = (div-lt_iff_lt-mul (positive places)).1 (rw (pow-succ' 10 places) at h)

decimals_ascii : (places rest : ℕ) → rest < 10 ^ places → IsAscii (decimals places rest)
unfolding decimals
decimals_ascii zero rest h = IsAscii-nil
decimals_ascii (suc places) rest h =
    elim (rest == 0) as (λ t. IsAscii (if t then [] else (48 + rest / 10 ^ places) ∷ decimals places (rest % 10 ^ places))) [
      | true ↦ IsAscii-nil
      | false ↦ IsAscii-cons (48 + rest / 10 ^ places) (decimals places (rest % 10 ^ places)) (omega (arith, digit places rest h))
          (decimals_ascii places (rest % 10 ^ places) (mod-lt rest (positive places)))
    ]

fraction_ascii : (rest : ℕ) → rest < scale → IsAscii (fraction_text rest)
fraction_ascii rest h = elim (rest == 0) as (λ t. IsAscii (if t then [] else 46 ∷ decimals 10 rest)) [
  | true ↦ IsAscii-nil
  | false ↦ IsAscii-cons 46 (decimals 10 rest) (omega arith) (decimals_ascii 10 rest h)
]

magnitude_ascii : (n : ℕ) → n ≤ limit → IsAscii (magnitude_text n)
magnitude_ascii n h = IsAscii-append (decimal (n / scale)) (fraction_text (n % scale))
    (IsAscii-decimal_wide (n / scale) (omega (arith, div-le_self n scale, h))) (fraction_ascii (n % scale) (mod-lt n (omega arith)))

pub number_ascii : (z : ℤ) → IsWithin z → IsAscii (text_of z)
number_ascii (pos n) h = magnitude_ascii n h
number_ascii (negsuc n) h = IsAscii-cons 45 (magnitude_text (suc n)) (omega arith) (magnitude_ascii (suc n) h)

hex_digit : (n : ℕ) → n < 16 → digit_of n < 128
hex_digit n h = grind (arith, nat_tests)

high_digit : (n : ℕ) → n < 256 → digit_of (n / 16) < 128
high_digit n h = hex_digit (n / 16) (omega arith)

low_digit : (n : ℕ) → digit_of (n % 16) < 128
low_digit n = hex_digit (n % 16) (omega arith)

abbrev AreLow : List ℕ → Type 0
AreLow [] = Unit {0}
AreLow (b ∷ bs) = (b < 128) × AreLow bs

low_ascii : (bs : List ℕ) → AreLow bs → IsAscii bs
low_ascii [] h = IsAscii-nil
low_ascii (b ∷ bs) h = IsAscii-cons b bs h.0 (low_ascii bs h.1)

hex_ascii : (red green blue : ℕ) → red < 256 → green < 256 → blue < 256 → IsAscii (hex_text red green blue)
hex_ascii red green blue r g b =
    low_ascii (hex_text red green blue) (omega arith, (high_digit red r, (low_digit red, (high_digit green g, (low_digit green, (high_digit blue b, (low_digit blue, tt)))))))

comma : IsAscii (codes ", ")
comma = low_ascii (codes ", ") (omega arith, (omega arith, tt))

head : IsAscii (codes "rgba(")
head = low_ascii (codes "rgba(") (omega arith, (omega arith, (omega arith, (omega arith, (omega arith, tt)))))

behind : IsAscii (codes ")")
behind = low_ascii (codes ")") (omega arith, tt)

channel_ascii : (before : List ℕ) (n : ℕ) → IsAscii before → n < 256 → IsAscii (before ++ decimal n ++ codes ", ")
channel_ascii before n h lt =
    IsAscii-append (before ++ decimal n) (codes ", ") (IsAscii-append before (decimal n) h (IsAscii-decimal_wide n (omega (arith, lt)))) comma

channels_ascii : (red green blue : ℕ) → red < 256 → green < 256 → blue < 256 → IsAscii (channels_text red green blue)
channels_ascii red green blue r g b =
    channel_ascii (codes "rgba(" ++ decimal red ++ codes ", " ++ decimal green ++ codes ", ") blue
    (channel_ascii (codes "rgba(" ++ decimal red ++ codes ", ") green (channel_ascii (codes "rgba(") red head r) g) b

clear_ascii : (colour : Rgba) → colour.red < 256 → colour.green < 256 → colour.blue < 256 → IsWithin colour.alpha
    → IsAscii (channels_text colour.red colour.green colour.blue ++ text_of colour.alpha ++ codes ")")
clear_ascii colour r g b a =
    IsAscii-append (channels_text colour.red colour.green colour.blue ++ text_of colour.alpha) (codes ")")
    (IsAscii-append (channels_text colour.red colour.green colour.blue) (text_of colour.alpha) (channels_ascii colour.red colour.green colour.blue r g b) (number_ascii colour.alpha a))
    behind

computed_ascii : (colour : Rgba) → colour.red < 256 → colour.green < 256 → colour.blue < 256 → IsWithin colour.alpha → IsAscii (computed_text colour)
computed_ascii colour r g b a =
    elim (unsigned_abs colour.alpha == scale) as (λ t. IsAscii (if t then hex_text colour.red colour.green colour.blue
    else channels_text colour.red colour.green colour.blue ++ text_of colour.alpha ++ codes ")")) [
      | true ↦ hex_ascii colour.red colour.green colour.blue r g b
      | false ↦ clear_ascii colour r g b a
    ]

pub colour_ascii : (colour : Rgba) → colour.spelt ≡ None → colour.red < 256 → colour.green < 256 → colour.blue < 256 → IsWithin colour.alpha → IsAscii (css_text colour)
colour_ascii colour e r g b a = subst (λ (spelt : Option (List ℕ)). IsAscii (text_by spelt (computed_text colour))) (sym e) (computed_ascii colour r g b a)

-- bytes that were written into an empty vector
pub written_ascii : (bytes out before text : List ℕ) → bytes ≡ out → out ≡ before ++ text → before ≡ [] → IsAscii text → IsAscii bytes
written_ascii bytes out before text e f g h = subst (λ (bs : List ℕ). IsAscii bs) (sym (e ∙ f ∙ ap (λ (b : List ℕ). b ++ text) g)) h
