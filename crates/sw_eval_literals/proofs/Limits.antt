-- Values and texts at their limits.
use Rattle.std.proofs.Common.{◌≡◌, ℕ, ◌<◌, ◌≤◌, nat_lt, true, false, List, length, Ok, refl, arith}
use Rattle.std.proofs.lemmas.Bool.Decides.{nat_tests}
use Rattle.sw_text.specs.declared.place.Span.{Span}
use Rattle.sw_text.specs.declared.fault.FaultCode.TheVariants as C
use Rattle.sw_colour.specs.Colours.{Rgba}
use Rattle.sw_values.specs.declared.plain.Plain.TheVariants as P
use Rattle.sw_values.specs.Sizes.{weigh_colour, nest_colour}
use Rattle.sw_values.specs.Texts.{Shown}
use Rattle.sw_values.specs.Weight.{most, is_within}
use Rattle.sw_eval_literals.specs.Answers.{refused}
use Rattle.sw_eval_literals.specs.Texts.{short, css_by}

is_lt : (n m : ℕ) → n < m → nat_lt n m ≡ true
is_lt n m lt = grind (arith, nat_tests)

not_lt : (n m : ℕ) → m ≤ n → nat_lt n m ≡ false
not_lt n m le = grind (arith, nat_tests)

-- ---- values

pub colour_is_within : (colour : Rgba) → is_within (P.Colour colour) ≡ true
colour_is_within colour = rw (weigh_colour colour, nest_colour colour) refl

-- ---- texts

pub short_ok : (text : List ℕ) (at : Span) → length text < most → short text at ≡ Ok text
short_ok text at lt = rw (is_lt (length text) most lt) refl

pub short_over : (text : List ℕ) (at : Span) → most ≤ length text → short text at ≡ refused C.TooLarge at
short_over text at le = rw (not_lt (length text) most le) refl

pub css_ok : (value : Shown) (at : Span) → value.css ≡ true → length value.text < most → css_by value at ≡ Ok value.text
css_ok value at css lt = rw (css, is_lt (length value.text) most lt) refl

pub css_over : (value : Shown) (at : Span) → value.css ≡ true → most ≤ length value.text → css_by value at ≡ refused C.TooLarge at
css_over value at css le = rw (css, not_lt (length value.text) most le) refl

pub css_none : (value : Shown) (at : Span) → value.css ≡ false → css_by value at ≡ refused C.NotCss at
css_none value at css = rw css refl
