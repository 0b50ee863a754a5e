-- Quotes and the case of letters (Sass reference documentation, "sass:string").
use Rattle.std.specs.Prelude.{ℕ, Bool, true, false, List, map}
use Rattle.std.specs.Char.{to_ascii_uppercase, to_ascii_lowercase}
use Rattle.sw_values.specs.declared.plain.Plain.{Plain}
use Rattle.sw_values.specs.declared.plain.Plain.TheVariants as P
use Rattle.sw_fn_call.specs.Answers.{Answer, with, within}
use Rattle.sw_fn_call.specs.Arguments.{Argument, one}
use Rattle.sw_fn_call.specs.Kinds.{text_of, is_quoted}

abbrev pub quote : List Argument → Answer
quote args = with (one args) (λ value. with (text_of value) (λ text. within (P.Text text true)))

abbrev pub unquote : List Argument → Answer
unquote args = with (one args) (λ value. with (text_of value) (λ text. within (P.Text text false)))

-- the letters a to z alone; quoted as the argument is
abbrev pub to_upper_case : List Argument → Answer
to_upper_case args =
    with (one args)
    (λ value. with (text_of value) (λ text. within (P.Text (map to_ascii_uppercase text) (is_quoted value))))

-- the letters A to Z alone
abbrev pub to_lower_case : List Argument → Answer
to_lower_case args =
    with (one args)
    (λ value. with (text_of value) (λ text. within (P.Text (map to_ascii_lowercase text) (is_quoted value))))
