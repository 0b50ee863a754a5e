-- Two numbers are equal exactly where the words of their quantities are.
use Rattle.std.proofs.Common.{◌≡◌, ◌*◌, ◌<◌, inl, inr, ℕ, zero, suc, Bool, true, false, ◌||◌, if◌then◌else◌, List, codes, bytes_eq, Option, Some, None, refl, sym, ap, ◌∙◌, arith, is_some, true≢false}
use Rattle.std.proofs.lemmas.Bool.{or_cases, or_left, or_right}
use Rattle.std.proofs.lemmas.Slice.Eq.{bytes_eq-Decides}
use Rattle.sw_units.specs.declared.measure.Family.{Family}
use Rattle.sw_units.specs.declared.measure.Family.TheVariants.{Length, Angle, Time, Frequency, Resolution}
use Rattle.sw_units.specs.declared.measure.Measure.{Measure}
use Rattle.sw_units.specs.Measures.{measure, measure_of, length_of, angle_of, time_of, frequency_of, resolution_of, first_of, count_in, count_of, same_family, same_measure, fits}
use Rattle.sw_values.specs.Amounts.{first_unit, length_parts, resolution_parts, unit_by, counted_as, parts_by, parts_of}

-- ---- the table: so many parts of a unit, times how many make one measure, are the same for the whole family

abbrev pub whole_of : Family → ℕ
whole_of Length = 3657600
whole_of Angle = 3600
whole_of Time = 1000
whole_of Frequency = 1000
whole_of Resolution = 609600

abbrev pub whole_by : Option Measure → ℕ
whole_by None = 1
whole_by (Some found) = whole_of found.family

abbrev IsCounted : Option Measure → List ℕ → Type 0
IsCounted m name = parts_by m name * count_in m ≡ whole_by m

first_counted : (one other : Option Measure) (name : List ℕ) → IsCounted one name → IsCounted other name → IsCounted (first_of one other) name
first_counted None other name h k = k
first_counted (Some found) other name h k = h

lengths : (name : List ℕ) (px inch cm mm q pt pc : Bool)
    → (if px then 381 else if inch then 36576 else if cm then 14400 else if mm then 1440 else if q then 360 else if pt then 508 else if pc then 6096 else 1)
    ≡ length_parts name
    → IsCounted (if px then measure Length 9600 else if inch then measure Length 100 else if cm then measure Length 254
    else if mm then measure Length 2540 else if q then measure Length 10160 else if pt then measure Length 7200
    else if pc then measure Length 600 else None) name
lengths name true inch cm mm q pt pc e = ap (λ n. n * 9600) (sym e)
lengths name false true cm mm q pt pc e = ap (λ n. n * 100) (sym e)
lengths name false false true mm q pt pc e = ap (λ n. n * 254) (sym e)
lengths name false false false true q pt pc e = ap (λ n. n * 2540) (sym e)
lengths name false false false false true pt pc e = ap (λ n. n * 10160) (sym e)
lengths name false false false false false true pc e = ap (λ n. n * 7200) (sym e)
lengths name false false false false false false true e = ap (λ n. n * 600) (sym e)
lengths name false false false false false false false e = refl

angles : (name : List ℕ) (deg grad turn : Bool)
    → IsCounted (if deg then measure Angle 360 else if grad then measure Angle 400 else if turn then measure Angle 1 else None) name
angles name true grad turn = refl
angles name false true turn = refl
angles name false false true = refl
angles name false false false = refl

times : (name : List ℕ) (s ms : Bool) → IsCounted (if s then measure Time 1 else if ms then measure Time 1000 else None) name
times name true ms = refl
times name false true = refl
times name false false = refl

frequencies : (name : List ℕ) (hz khz : Bool) → IsCounted (if hz then measure Frequency 1000 else if khz then measure Frequency 1 else None) name
frequencies name true khz = refl
frequencies name false true = refl
frequencies name false false = refl

resolutions : (name : List ℕ) (dpi dpcm dppx : Bool)
    → (if dpi then 50 else if dpcm then 127 else if dppx then 4800 else 1) ≡ resolution_parts name
    → IsCounted (if dpi then measure Resolution 12192 else if dpcm then measure Resolution 4800
    else if dppx then measure Resolution 127 else None) name
resolutions name true dpcm dppx e = ap (λ n. n * 12192) (sym e)
resolutions name false true dppx e = ap (λ n. n * 4800) (sym e)
resolutions name false false true e = ap (λ n. n * 127) (sym e)
resolutions name false false false e = refl

pub counted : (name : List ℕ) → parts_of name * count_of name ≡ whole_by (measure_of name)
unfolding parts_of measure_of
counted name =
    first_counted (length_of name) _ name
    (lengths name (bytes_eq name (codes "px")) (bytes_eq name (codes "in")) (bytes_eq name (codes "cm")) (bytes_eq name (codes "mm"))
    (bytes_eq name (codes "Q")) (bytes_eq name (codes "pt")) (bytes_eq name (codes "pc")) refl)
    (first_counted (angle_of name) _ name (angles name (bytes_eq name (codes "deg")) (bytes_eq name (codes "grad")) (bytes_eq name (codes "turn")))
    (first_counted (time_of name) _ name (times name (bytes_eq name (codes "s")) (bytes_eq name (codes "ms")))
    (first_counted (frequency_of name) (resolution_of name) name (frequencies name (bytes_eq name (codes "Hz")) (bytes_eq name (codes "kHz")))
    (resolutions name (bytes_eq name (codes "dpi")) (bytes_eq name (codes "dpcm")) (bytes_eq name (codes "dppx")) refl))))

whole_positive : (m : Option Measure) → 0 < whole_by m
whole_positive None = omega arith
whole_positive (Some found) = elim found.family as (λ f. 0 < whole_of f) [
  | Length ↦ omega arith
  | Angle ↦ omega arith
  | Time ↦ omega arith
  | Frequency ↦ omega arith
  | Resolution ↦ omega arith
]

left_positive : (p c k : ℕ) → p * c ≡ k → 0 < k → 0 < p
left_positive zero c k e h = omega (arith, e, h)
left_positive (suc p) c k e h = omega arith

right_positive : (p c k : ℕ) → p * c ≡ k → 0 < k → 0 < c
right_positive p zero k e h = omega (arith, e, h)
right_positive p (suc c) k e h = omega arith

pub parts_positive : (name : List ℕ) → 0 < parts_of name
parts_positive name = left_positive _ _ _ (counted name) (whole_positive (measure_of name))

pub count_positive : (name : List ℕ) → 0 < count_of name
count_positive name = right_positive (parts_of name) _ _ (counted name) (whole_positive (measure_of name))

-- ---- units fit exactly where they are counted as the same unit

same_family_itself : (f : Family) → same_family f f ≡ true
same_family_itself Length = refl
same_family_itself Angle = refl
same_family_itself Time = refl
same_family_itself Frequency = refl
same_family_itself Resolution = refl

families_told : (f g : Family) → same_family f g ≡ bytes_eq (first_unit f) (first_unit g)
families_told Length Length = refl
families_told Length Angle = refl
families_told Length Time = refl
families_told Length Frequency = refl
families_told Length Resolution = refl
families_told Angle Length = refl
families_told Angle Angle = refl
families_told Angle Time = refl
families_told Angle Frequency = refl
families_told Angle Resolution = refl
families_told Time Length = refl
families_told Time Angle = refl
families_told Time Time = refl
families_told Time Frequency = refl
families_told Time Resolution = refl
families_told Frequency Length = refl
families_told Frequency Angle = refl
families_told Frequency Time = refl
families_told Frequency Frequency = refl
families_told Frequency Resolution = refl
families_told Resolution Length = refl
families_told Resolution Angle = refl
families_told Resolution Time = refl
families_told Resolution Frequency = refl
families_told Resolution Resolution = refl

same_whole : (f g : Family) → same_family f g ≡ true → whole_of f ≡ whole_of g
same_whole Length Length e = refl
same_whole Angle Angle e = refl
same_whole Time Time e = refl
same_whole Frequency Frequency e = refl
same_whole Resolution Resolution e = refl
same_whole Length Angle e = cc
same_whole Length Time e = cc
same_whole Length Frequency e = cc
same_whole Length Resolution e = cc
same_whole Angle Length e = cc
same_whole Angle Time e = cc
same_whole Angle Frequency e = cc
same_whole Angle Resolution e = cc
same_whole Time Length e = cc
same_whole Time Angle e = cc
same_whole Time Frequency e = cc
same_whole Time Resolution e = cc
same_whole Frequency Length e = cc
same_whole Frequency Angle e = cc
same_whole Frequency Time e = cc
same_whole Frequency Resolution e = cc
same_whole Resolution Length e = cc
same_whole Resolution Angle e = cc
same_whole Resolution Time e = cc
same_whole Resolution Frequency e = cc

alike_units : (m n : Option Measure) (a b : List ℕ) → same_measure m n ≡ true → unit_by m a ≡ unit_by n b
alike_units None n a b e = cc
alike_units (Some found) None a b e = cc
alike_units (Some found) (Some other) a b e = (bytes_eq-Decides (first_unit found.family) (first_unit other.family)).0 (sym (families_told found.family other.family) ∙ e)

alike_wholes : (m n : Option Measure) → same_measure m n ≡ true → whole_by m ≡ whole_by n
alike_wholes None n e = cc
alike_wholes (Some found) None e = cc
alike_wholes (Some found) (Some other) e = same_whole found.family other.family e

known_by : (f : Family) → is_some (measure_of (first_unit f)) ≡ true
unfolding measure_of
known_by Length = refl
known_by Angle = refl
known_by Time = refl
known_by Frequency = refl
known_by Resolution = refl

unknown : (a : List ℕ) (f : Family) → measure_of a ≡ None → a ≡ first_unit f → ⊥
unknown a f none e = true≢false (sym (known_by f) ∙ ap (λ u. is_some (measure_of u)) (sym e) ∙ ap is_some none)

joins : (a b : List ℕ) (m n : Option Measure) → measure_of a ≡ m → measure_of b ≡ n → unit_by m a ≡ unit_by n b → (bytes_eq a b || same_measure m n) ≡ true
joins a b None None h k e = or_left _ _ ((bytes_eq-Decides a b).1 e)
joins a b None (Some other) h k e = absurd (unknown a other.family h e)
joins a b (Some found) None h k e = absurd (unknown b found.family k (sym e))
joins a b (Some found) (Some other) h k e =
    or_right _ _ (families_told found.family other.family ∙ (bytes_eq-Decides (first_unit found.family) (first_unit other.family)).1 e)

pub fit_from_units : (a b : List ℕ) → counted_as a ≡ counted_as b → fits a b ≡ true
unfolding counted_as
fit_from_units a b e = joins a b (measure_of a) (measure_of b) refl refl e

pub units_from_fit : (a b : List ℕ) → fits a b ≡ true → counted_as a ≡ counted_as b
unfolding counted_as
units_from_fit a b e = elim (or_cases (bytes_eq a b) _ e) [
  | inl h ↦ ap counted_as ((bytes_eq-Decides a b).0 h)
  | inr h ↦ alike_units (measure_of a) (measure_of b) a b h
]

pub wholes_from_fit : (a b : List ℕ) → fits a b ≡ true → whole_by (measure_of a) ≡ whole_by (measure_of b)
wholes_from_fit a b e = elim (or_cases (bytes_eq a b) _ e) [
  | inl h ↦ ap (λ u. whole_by (measure_of u)) ((bytes_eq-Decides a b).0 h)
  | inr h ↦ alike_wholes (measure_of a) (measure_of b) h
]
