-- White space in special text (the Sass specification keeps special text as it is written; that white space is one space
-- there, and that there is none at its ends, is this project's own).
use Rattle.std.specs.Prelude.{ℕ, Bool, true, false, not, ◌&&◌, ◌||◌, ◌==◌, codes, if◌then◌else◌, List, [], ◌∷◌, ◌++◌, Option, Some, None, is_none}
use Rattle.sw_text_scan.specs.Bytes.{sign, byte, is_quote, is_white}
use Rattle.sw_text_scan.specs.declared.signs.TheConstants.{END}
use Rattle.sw_tree.specs.declared.text.Piece.{Piece}
use Rattle.sw_scope.specs.Bind.{is_empty}
use Rattle.sw_eval_raw_text.specs.Imports.{is_text}
use Rattle.sw_eval_raw_text.specs.declared.spacing.Reading.{Reading}

-- nothing stands before it
abbrev pub start : Reading
start = record { quote = None; before = END; inside = false }

-- behind a value
abbrev pub behind_value : Reading → Reading
behind_value r = record r { before = END; inside = true }

-- the quote that is open behind a byte
abbrev pub turned : Option ℕ → ℕ → Option ℕ
turned None b = if is_quote b then Some b else None
turned (Some quote) b = if b == quote then None else Some quote

-- what stands behind the first bracket
abbrev pub is_inside : Reading → Bool
is_inside r = r.inside || (r.before == sign "(")

-- behind a byte that stays as it is: one behind a `\` ends no string and opens none
abbrev pub stepped : Reading → ℕ → Reading
stepped r b =
    if r.before == sign "\\" then record r { before = END }
    else record { quote = turned r.quote b; before = b; inside = is_inside r }

-- white space outside of strings
abbrev pub is_blank : Reading → ℕ → Bool
is_blank r b = is_white b && (is_none r.quote && not (r.before == sign "\\"))

-- the last of several stands for all of them; behind the first bracket and before the last one there is none
abbrev pub shows_space : Reading → Bool → ℕ → Bool
shows_space r is_end next = r.inside && (not is_end && not (is_white next))

abbrev pub behind : Reading → List ℕ → Reading
behind r [] = r
behind r (b ∷ bs) = if is_blank r b then behind r bs else behind (stepped r b) bs

-- the last bracket alone is left
abbrev pub is_one : List ℕ → Bool
is_one [] = false
is_one (b ∷ []) = true
is_one (b ∷ c ∷ bs) = false

abbrev pub is_end : Bool → List ℕ → Bool
is_end is_last bs = is_last && is_one bs

-- a text, the last one or not, with its white space as special text has it
abbrev pub spaced : Bool → Reading → List ℕ → List ℕ
spaced is_last r [] = []
spaced is_last r (b ∷ bs) =
    if is_blank r b
    then (if shows_space r (is_end is_last bs) (byte bs 0) then codes " " else []) ++ spaced is_last r bs
    else b ∷ spaced is_last (stepped r b) bs

-- ---- what it is

-- a text without its white space outside of strings
abbrev pub unspaced : Reading → List ℕ → List ℕ
unspaced r [] = []
unspaced r (b ∷ bs) = if is_blank r b then unspaced r bs else b ∷ unspaced (stepped r b) bs

-- white space outside of strings is a space, and no other white space stands behind it
abbrev pub is_single : Reading → List ℕ → Bool
is_single r [] = true
is_single r (b ∷ bs) =
    if is_blank r b then (b == sign " ") && (not (is_white (byte bs 0)) && is_single r bs)
    else is_single (stepped r b) bs

-- ---- with values

-- the text of a value is as it is
abbrev pub piece_spaced : Bool → Reading → Piece → List ℕ → List ℕ
piece_spaced is_last r p text = if is_text p then spaced is_last r text else text

abbrev pub behind_piece : Reading → Piece → List ℕ → Reading
behind_piece r p text = if is_text p then behind r text else behind_value r

-- of the texts of pieces those of the sheet
abbrev pub spaced_texts : Reading → List Piece → List (List ℕ) → List (List ℕ)
spaced_texts r [] texts = []
spaced_texts r (p ∷ ps) [] = []
spaced_texts r (p ∷ ps) (text ∷ texts) =
    piece_spaced (is_empty ps) r p text ∷ spaced_texts (behind_piece r p text) ps texts
