-- The pieces of a string around a separator (Sass reference documentation, "sass:string", `string.split`).
use Rattle.std.specs.Prelude.{ℕ, zero, suc, ◌+◌, ◌==◌, min, ◌||◌, ℤ, unsigned_abs, Bool, true, false, List, [], ◌∷◌, ◌++◌, take, drop, length, map, chars, encode_utf8, encode_utf8_all, Option, Some, None, Result, Ok, Err, if◌then◌else◌}
use Rattle.sw_fixed.specs.Arithmetic.{whole_of, is_below_zero}
use Rattle.sw_values.specs.declared.plain.Plain.{Plain}
use Rattle.sw_values.specs.declared.plain.Plain.TheVariants as P
use Rattle.sw_values.specs.declared.plain.Separator.TheVariants.{Comma}
use Rattle.sw_values.specs.declared.value.Node.{Node}
use Rattle.sw_values.specs.declared.value.Node.TheVariants as N
use Rattle.sw_values.specs.Shape.{node_of}
use Rattle.sw_values.specs.Canon.{is_empty}
use Rattle.sw_fn_call.specs.declared.fault.FnFault.{FnFault}
use Rattle.sw_fn_call.specs.declared.fault.FnFault.TheVariants as F
use Rattle.sw_fn_call.specs.Answers.{Answer, with, within}
use Rattle.sw_fn_call.specs.Arguments.{Argument, three}
use Rattle.sw_fn_call.specs.Kinds.{number_of, text_of, is_quoted}
use Rattle.sw_fn_text.specs.Places.{first_in}

-- ---- how often a text is cut

-- a whole number from 1 on, whose unit is passed over; a text has no more cuts than bytes
abbrev pub limit_by : ℕ → Option ℤ → Result ℕ FnFault
limit_by most None = Err F.ArgumentFault
limit_by most (Some limit) =
    if is_below_zero limit || (unsigned_abs limit == 0) then Err F.ArgumentFault else Ok (min (unsigned_abs limit) most)

abbrev pub numbered : ℕ → Plain → Result ℕ FnFault
numbered most value = with (number_of value) (λ number. limit_by most (whole_of number.value))

-- null is no limit
abbrev pub limit_in : ℕ → Plain → Node → Result ℕ FnFault
limit_in most value (N.Number _) = numbered most value
limit_in most value (N.Text _ _) = numbered most value
limit_in most value (N.Colour _) = numbered most value
limit_in most value (N.List _ _ _) = numbered most value
limit_in most value (N.Map _) = numbered most value
limit_in most value (N.Bool _) = numbered most value
limit_in most value N.Null = Ok most
limit_in most value (N.Args _ _) = numbered most value

unfoldable pub limit_of : ℕ → Plain → Result ℕ FnFault
limit_of most value = limit_in most value (node_of value)

-- ---- the pieces

-- what stands before the first place of a part, and what stands behind it
abbrev pub cut_by : List ℕ → List ℕ → Option ℕ → Option (List ℕ × List ℕ)
cut_by part text None = None
cut_by part text (Some at) = Some (take at text, drop (at + length part) text)

unfoldable pub cut : List ℕ → List ℕ → Option (List ℕ × List ℕ)
cut part text = cut_by part text (first_in part text)

abbrev pub joined_pieces : (List ℕ → List (List ℕ)) → List ℕ → Option (List ℕ × List ℕ) → List (List ℕ)
joined_pieces further text None = text ∷ []
joined_pieces further text (Some parts) = parts.0 ∷ further parts.1

-- a text cut so many times at most
abbrev pub pieces : ℕ → List ℕ → List ℕ → List (List ℕ)
pieces zero separator text = text ∷ []
pieces (suc cuts) separator text = joined_pieces (pieces cuts separator) text (cut separator text)

-- these characters as one piece, where there are any
abbrev pub rest : List ℕ → List (List ℕ)
rest [] = []
rest (c ∷ cs) = encode_utf8_all (c ∷ cs) ∷ []

-- the first characters, as many as the limit, one by one, and then what is left
abbrev pub letters_in : ℕ → List ℕ → List (List ℕ)
letters_in limit all = map encode_utf8 (take limit all) ++ rest (drop limit all)

abbrev pub letters : ℕ → List ℕ → List (List ℕ)
letters limit text = letters_in limit (chars text)

-- the empty text has no pieces, and an empty separator cuts behind each character
abbrev pub split_pieces : ℕ → List ℕ → List ℕ → List (List ℕ)
split_pieces limit separator text =
    if is_empty text then []
    else if is_empty separator then letters limit text
    else pieces limit separator text

abbrev pub piece_value : Bool → List ℕ → Plain
piece_value quoted text = P.Text text quoted

-- a comma list in brackets
abbrev pub pieces_list : Bool → List (List ℕ) → Answer
pieces_list quoted texts = within (P.List (map (piece_value quoted) texts) Comma true)

-- each piece is quoted as the string is
abbrev pub split : List Argument → Answer
split args =
    with (three args)
    (λ values. with (text_of values.0)
    (λ text. with (text_of values.1)
    (λ separator. with (limit_of (length text) values.2)
    (λ limit. pieces_list (is_quoted values.0) (split_pieces limit separator text)))))
