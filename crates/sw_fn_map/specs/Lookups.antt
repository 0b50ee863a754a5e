-- What a map has (Sass reference documentation, "sass:map").
use Rattle.std.specs.Prelude.{false, List, [], ◌∷◌, map, Option, Some, None, Ok}
use Rattle.std.specs.Option.{is_some}
use Rattle.sw_values.specs.declared.plain.Plain.{Plain}
use Rattle.sw_values.specs.declared.plain.Plain.TheVariants as P
use Rattle.sw_values.specs.declared.plain.Separator.TheVariants.{Comma}
use Rattle.sw_values.specs.Maps.{second}
use Rattle.sw_fn_call.specs.Answers.{Answer, with, within}
use Rattle.sw_fn_call.specs.Arguments.{Argument, one, three, rest}
use Rattle.sw_fn_map.specs.Pairs.{Pair, pairs_of, value_at, nested}

-- what stands behind a key and further keys, each in the map before
abbrev pub found : List Pair → Plain → List Plain → Option Plain
found pairs key [] = value_at pairs key
found pairs key (next ∷ keys) = found (nested pairs key) next keys

abbrev pub or_null : Option Plain → Plain
or_null (Some value) = value
or_null None = P.Null

abbrev pub get : List Argument → Answer
get args =
    with (three args)
    (λ values. with (rest values.2)
    (λ keys. with (pairs_of values.0) (λ pairs. Ok (or_null (found pairs values.1 keys)))))

abbrev pub has_key : List Argument → Answer
has_key args =
    with (three args)
    (λ values. with (rest values.2)
    (λ keys. with (pairs_of values.0) (λ pairs. Ok (P.Bool (is_some (found pairs values.1 keys))))))

abbrev pub first : Pair → Plain
first p = p.0

-- comma lists
abbrev pub keys : List Argument → Answer
keys args = with (one args) (λ value. with (pairs_of value) (λ pairs. within (P.List (map first pairs) Comma false)))

abbrev pub values : List Argument → Answer
values args =
    with (one args) (λ value. with (pairs_of value) (λ pairs. within (P.List (map second pairs) Comma false)))
