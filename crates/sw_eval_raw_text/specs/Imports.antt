-- What stands behind `@import`, with the values in it (the Sass specification on plain CSS imports).
use Rattle.std.specs.Prelude.{ℕ, zero, suc, ◌+◌, ◌-◌, Bool, true, false, not, ◌&&◌, ◌||◌, ◌==◌, nat_lt, nat_le, nat_eq, codes, if◌then◌else◌, List, [], ◌∷◌, ◌++◌, length, get_or, Option, Some, None}
use Rattle.std.specs.List.{starts_with, ends_with, list_all}
use Rattle.sw_tree.specs.declared.expr.ExprKind.TheOpen.{Parts-F, Piece-F}
use Rattle.sw_tree.specs.declared.text.Parts.{Parts, out-Parts}
use Rattle.sw_tree.specs.declared.text.Piece.{Piece, out-Piece}
use Rattle.sw_text_scan.specs.Brackets.{string_end}
use Rattle.sw_text_scan.specs.Bytes.{sign, byte, is_quote}
use Rattle.sw_text_scan.specs.Pieces.{piece}
use Rattle.sw_text_scan.specs.Words.{begins_url}
use Rattle.sw_scope.specs.Bind.{is_empty}
use Rattle.sw_tokens.specs.Decoded.{decoded}
use Rattle.sw_eval_literals.specs.Texts.{all_pieces}
use Rattle.sw_eval_calls.specs.Layers.{Texts, Pieces}

-- ---- templates: `#{}` stands for each value

abbrev pub mark : List ℕ
mark = codes "#{}"

abbrev pub template_by : Pieces → List ℕ
template_by (Piece-F.Text text) = text
template_by (Piece-F.Inserted e) = mark
template_by (Piece-F.Value e) = mark

unfoldable pub piece_template : Piece → List ℕ
piece_template p = template_by (out-Piece p)

abbrev pub templates : List Piece → List (List ℕ)
templates [] = []
templates (p ∷ ps) = piece_template p ∷ templates ps

abbrev pub template_of : List Piece → List ℕ
template_of ps = all_pieces (templates ps)

abbrev pub parts_template : Texts → List ℕ
parts_template (Parts-F.Plain text) = text
parts_template (Parts-F.Mixed ps) = template_of ps

-- a text as it was before the values in it were known
unfoldable pub template : Parts → List ℕ
template parts = parts_template (out-Parts parts)

abbrev pub text_by : Pieces → Bool
text_by (Piece-F.Text text) = true
text_by (Piece-F.Inserted e) = false
text_by (Piece-F.Value e) = false

unfoldable pub is_text : Piece → Bool
is_text p = text_by (out-Piece p)

abbrev pub inserted_one : Piece → List ℕ → List (List ℕ)
inserted_one p text = if is_text p then [] else text ∷ []

-- of the texts of pieces those of values
abbrev pub inserted_of : List Piece → List (List ℕ) → List (List ℕ)
inserted_of [] texts = []
inserted_of (p ∷ ps) [] = []
inserted_of (p ∷ ps) (text ∷ texts) = inserted_one p text ++ inserted_of ps texts

-- ---- which parts are plain CSS

abbrev pub has_scheme : List ℕ → Bool
has_scheme url = starts_with nat_eq url (codes "http://") || starts_with nat_eq url (codes "https://")

-- the URL names a host
abbrev pub is_remote : List ℕ → Bool
is_remote url = has_scheme url || starts_with nat_eq url (codes "//")

-- it is one of CSS
abbrev pub is_web : List ℕ → Bool
is_web url = is_remote url || ends_with nat_eq url (codes ".css")

-- a string that ends here: more stands behind it, or the text that it stands for is such a URL
abbrev pub ends_plain : List ℕ → ℕ → Bool
ends_plain bs end = nat_lt end (length bs) || is_web (decoded (piece bs 1 (end - 1)))

abbrev pub plain_string : List ℕ → Option ℕ → Bool
plain_string bs None = false
plain_string bs (Some end) = ends_plain bs end

-- a part is plain CSS: `url(..)`, a string with such a URL, or one with more behind it
abbrev pub is_plain : List ℕ → Bool
is_plain bs =
    not (is_empty bs)
    && (begins_url bs 0 || (is_quote (byte bs 0) && plain_string bs (string_end bs (byte bs 0) 0)))

abbrev pub all_plain : List (List ℕ) → Bool
all_plain = list_all is_plain

-- ---- values in parts

-- a value is to stand there
abbrev pub is_mark : List ℕ → ℕ → Bool
is_mark bs at = (byte bs at == sign "#") && (byte bs (at + 1) == sign "{")

-- how many bytes stand before the next place that may be one: a `#` behind a `\` is text
abbrev pub mark_step : List ℕ → ℕ → ℕ
mark_step bs at = if byte bs at == sign "\\" then 2 else 1

-- the next place where one is to stand, in so many steps
abbrev pub mark_in : ℕ → List ℕ → ℕ → Option ℕ
mark_in zero bs at = None
mark_in (suc steps) bs at =
    if nat_le (length bs) at then None
    else if is_mark bs at then Some at
    else mark_in steps bs (at + mark_step bs at)

abbrev pub next_mark : List ℕ → ℕ → Option ℕ
next_mark bs from = mark_in (length bs) bs from

-- the place of the next value in a part, where one is left
abbrev pub place_for : List ℕ → List (List ℕ) → ℕ → ℕ → Option ℕ
place_for bs values taken from = if nat_le (length values) taken then None else next_mark bs from

abbrev pub with_first : List ℕ → List ℕ → List (List ℕ) × ℕ → List (List ℕ) × ℕ
with_first text value rest = (text ∷ value ∷ rest.0, rest.1)

abbrev pub pieces_by : (ℕ → ℕ → List (List ℕ) × ℕ) → List ℕ → List (List ℕ) → ℕ → ℕ → Option ℕ
    → List (List ℕ) × ℕ
pieces_by go bs values taken from None = (piece bs from (length bs) ∷ [], taken)
pieces_by go bs values taken from (Some place) =
    with_first (piece bs from place) (get_or values taken []) (go (taken + 1) (place + 3))

-- the pieces of a part from a place on, in so many steps, and how many values were taken by then
abbrev pub pieces_in : ℕ → List ℕ → List (List ℕ) → ℕ → ℕ → List (List ℕ) × ℕ
pieces_in zero bs values taken from = ([], taken)
pieces_in (suc steps) bs values taken from =
    pieces_by (pieces_in steps bs values) bs values taken from (place_for bs values taken from)

abbrev pub part_pieces : List ℕ → List (List ℕ) → ℕ → List (List ℕ) × ℕ
part_pieces bs values taken = pieces_in (length bs + 1) bs values taken 0

-- a part with the values in it, and how many of them were taken by then
abbrev pub filled_in : List ℕ → List (List ℕ) → ℕ → List ℕ × ℕ
filled_in bs values taken = (all_pieces (part_pieces bs values taken).0, (part_pieces bs values taken).1)

-- the parts with the values from one on in them
abbrev pub filled_from : List (List ℕ) → ℕ → List (List ℕ) → List (List ℕ)
filled_from values taken [] = []
filled_from values taken (part ∷ parts) =
    (filled_in part values taken).0 ∷ filled_from values (filled_in part values taken).1 parts

-- the parts with the values in them
abbrev pub filled_all : List (List ℕ) → List (List ℕ) → List (List ℕ)
filled_all parts values = filled_from values 0 parts
