-- Colours with other parts (Sass reference documentation, "sass:color": adjust, scale, change, complement, grayscale).
-- The arguments of a change are the colour, red, green, blue, hue, saturation, lightness and alpha; null is as not given.
use Rattle.std.specs.Prelude.{ℕ, ◌*◌, ℤ, pos, ◌*ℤ◌, is_some, Bool, ◌&&◌, List, [], ◌∷◌, Option, Some, None, Result, Ok, Err, if◌then◌else◌}
use Rattle.sw_fixed.specs.Arithmetic.{scale as one_whole}
use Rattle.sw_colour.specs.declared.change.Change.{Change}
use Rattle.sw_colour.specs.declared.hsl.Hsl.{Hsl}
use Rattle.sw_colour.specs.Colours.{Rgba, computed}
use Rattle.sw_colour.specs.Hues.{hsl_of, colour_of_hsl}
use Rattle.sw_colour.specs.Changes.{names_rgb, names_hsl, adjusted, scaled}
use Rattle.sw_values.specs.declared.plain.Plain.{Plain}
use Rattle.sw_fn_call.specs.declared.fault.FnFault.{FnFault}
use Rattle.sw_fn_call.specs.declared.fault.FnFault.TheVariants as F
use Rattle.sw_fn_call.specs.Answers.{Answer, with}
use Rattle.sw_fn_call.specs.Arguments.{Argument}
use Rattle.sw_fn_colour.specs.declared.amounts.Amount.{Amount}
use Rattle.sw_fn_colour.specs.declared.amounts.Amount.TheVariants as A
use Rattle.sw_fn_colour.specs.declared.changes.Three.{Three}
use Rattle.sw_fn_colour.specs.Colours.{colour_of, one_colour, coloured}
use Rattle.sw_fn_colour.specs.Amounts.{optional, optional_part, is_null}

-- ---- changes of some parts

abbrev pub rgb_change : Option ℤ → Option ℤ → Option ℤ → Option ℤ → Change
rgb_change red green blue alpha =
    record {
      red = red;
      green = green;
      blue = blue;
      hue = None;
      saturation = None;
      lightness = None;
      alpha = alpha;
    }

abbrev pub hsl_change : Option ℤ → Option ℤ → Option ℤ → Option ℤ → Change
hsl_change hue saturation lightness alpha =
    record {
      red = None;
      green = None;
      blue = None;
      hue = hue;
      saturation = saturation;
      lightness = lightness;
      alpha = alpha;
    }

-- ---- parts that are set

abbrev pub set_number : ℤ → Option ℤ → ℤ
set_number old None = old
set_number old (Some number) = number

abbrev pub set_hsl : Hsl → Change → ℤ → Rgba
set_hsl hsl by alpha =
    colour_of_hsl (set_number hsl.hue by.hue) (set_number hsl.saturation by.saturation)
    (set_number hsl.lightness by.lightness) alpha

-- nothing where the part is set
abbrev pub emptied_channel : ℕ → Option ℤ → ℕ
emptied_channel channel None = channel
emptied_channel channel (Some _) = 0

abbrev pub emptied_alpha : ℤ → Option ℤ → ℤ
emptied_alpha alpha None = alpha
emptied_alpha alpha (Some _) = pos 0

abbrev pub emptied : Rgba → Change → Rgba
emptied colour by =
    computed (emptied_channel colour.red by.red) (emptied_channel colour.green by.green)
    (emptied_channel colour.blue by.blue) (emptied_alpha colour.alpha by.alpha)

-- the colour with these parts in the place of its own: channels from 0 to 255, saturation and lightness from 0 to 100
-- percent, alpha from 0 to 1
unfoldable pub changed : Rgba → Change → Rgba
changed colour by =
    if names_hsl by
    then
    adjusted (set_hsl (hsl_of colour) by (emptied_alpha colour.alpha by.alpha)) (hsl_change None None None by.alpha)
    else adjusted (emptied colour by) by

-- ---- the arguments of a change

unfoldable pub first_colour : List Argument → Result Rgba FnFault
first_colour (colour ∷ _ ∷ _ ∷ _ ∷ _ ∷ _ ∷ _ ∷ _ ∷ []) = colour_of colour.1
first_colour _ = Err F.ArgumentFault

unfoldable pub three_amounts : Amount → Amount → Plain → Plain → Plain → Result Three FnFault
three_amounts amount others first second third =
    with (optional amount first)
    (λ first. with (optional others second)
    (λ second. with (optional others third)
    (λ third. Ok (record { first = first; second = second; third = third }))))

unfoldable pub three_parts : Plain → Plain → Plain → Result Three FnFault
three_parts first second third =
    with (optional_part first)
    (λ first. with (optional_part second)
    (λ second. with (optional_part third)
    (λ third. Ok (record { first = first; second = second; third = third }))))

-- the change of all parts
abbrev pub change_by : Three → Three → Option ℤ → Change
change_by rgb hsl alpha =
    record {
      red = rgb.first;
      green = rgb.second;
      blue = rgb.third;
      hue = hsl.first;
      saturation = hsl.second;
      lightness = hsl.third;
      alpha = alpha;
    }

unfoldable pub amounts_of : List Argument → Result Change FnFault
amounts_of (_ ∷ red ∷ green ∷ blue ∷ hue ∷ saturation ∷ lightness ∷ alpha ∷ []) =
    with (three_amounts A.Channel A.Channel red.1 green.1 blue.1)
    (λ rgb. with (three_amounts A.Hue A.Percent hue.1 saturation.1 lightness.1)
    (λ hsl. with (optional A.Alpha alpha.1) (λ alpha. Ok (change_by rgb hsl alpha))))
amounts_of _ = Err F.ArgumentFault

-- a hue isn't scaled
unfoldable pub parts_of : List Argument → Result Change FnFault
parts_of (_ ∷ red ∷ green ∷ blue ∷ hue ∷ saturation ∷ lightness ∷ alpha ∷ []) =
    with (three_parts red.1 green.1 blue.1)
    (λ rgb. if is_null hue.1 then
    with (three_parts saturation.1 lightness.1 alpha.1)
    (λ others. Ok (change_by rgb (record { first = None; second = others.first; third = others.second }) others.third))
    else Err F.ArgumentFault)
parts_of _ = Err F.ArgumentFault

abbrev pub is_of_both_models : Change → Bool
is_of_both_models by = names_rgb by && names_hsl by

-- channels of one model alone
abbrev pub one_model : Change → Result Change FnFault
one_model by = if is_of_both_models by then Err F.ArgumentFault else Ok by

unfoldable pub amounts_of_one : List Argument → Result Change FnFault
amounts_of_one args = with (amounts_of args) one_model

unfoldable pub parts_of_one : List Argument → Result Change FnFault
parts_of_one args = with (parts_of args) one_model

-- ---- the functions

-- adds to the parts
abbrev pub adjust : List Argument → Answer
adjust args = with (first_colour args) (λ colour. with (amounts_of_one args) (λ by. coloured (adjusted colour by)))

-- moves the parts towards their greatest value, or towards 0
abbrev pub scale : List Argument → Answer
scale args = with (first_colour args) (λ colour. with (parts_of_one args) (λ by. coloured (scaled colour by)))

-- sets the parts
abbrev pub change : List Argument → Answer
change args = with (first_colour args) (λ colour. with (amounts_of_one args) (λ by. coloured (changed colour by)))

-- half a turn of the hue
abbrev pub complement : List Argument → Answer
complement args =
    with (one_colour args)
    (λ colour. coloured (adjusted colour (hsl_change (Some (pos 180 *ℤ pos one_whole)) None None None)))

-- no saturation
abbrev pub grayscale : List Argument → Answer
grayscale args =
    with (one_colour args) (λ colour. coloured (changed colour (hsl_change None (Some (pos 0)) None None)))
