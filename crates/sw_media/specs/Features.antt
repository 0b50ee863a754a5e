-- The features of media queries that hold no conditions: `(a)`, `(a: b)`, `(a < b)` and `(a < b < c)`. Each side is any
-- text that isn't blank, whose strings and brackets are closed, and in which no `:`, `<`, `>` or `=` stands outside
-- them.
use Rattle.std.specs.Prelude.{ℕ, ◌+◌, List, ◌++◌, Option, Some, None, Bool, ◌&&◌, ◌||◌, ◌==◌, nat_lt, codes, if◌then◌else◌}
use Rattle.sw_text_scan.specs.declared.brackets.Stops.TheVariants as stops
use Rattle.sw_text_scan.specs.Bytes.{sign, byte}
use Rattle.sw_text_scan.specs.Pieces.{piece, trimmed_end}
use Rattle.sw_text_scan.specs.Brackets.{stop_at}
use Rattle.sw_media.specs.Words.{white}

-- what stands from i up to j without the white space around it
abbrev pub trimmed : List ℕ → ℕ → ℕ → List ℕ
trimmed bs i j = piece bs (white bs i) (trimmed_end bs (white bs i) j)

unfoldable pub sum_by : List ℕ → ℕ → Option ℕ → Option (List ℕ × ℕ)
sum_by bs i None = None
sum_by bs i (Some j) = if nat_lt (white bs i) j then Some (trimmed bs i j, j) else None

-- one side, and where it ends
abbrev pub sum_at : List ℕ → ℕ → Option (List ℕ × ℕ)
sum_at bs i = sum_by bs i (stop_at stops.Sum bs i)

abbrev pub in_parens : List ℕ → List ℕ
in_parens text = codes "(" ++ text ++ codes ")"

abbrev pub closed_by : List ℕ → List ℕ → ℕ → Option (List ℕ × ℕ)
closed_by bs text i = if byte bs i == sign ")" then Some (in_parens text, i + 1) else None

abbrev pub declared_text : List ℕ → List ℕ → List ℕ
declared_text name value = name ++ codes ": " ++ value

-- behind the `:`
unfoldable pub value_by : List ℕ → List ℕ → Option (List ℕ × ℕ) → Option (List ℕ × ℕ)
value_by bs name None = None
value_by bs name (Some x) = closed_by bs (declared_text name x.0) x.1

abbrev pub is_comparison : ℕ → Bool
is_comparison b = (b == sign "<") || ((b == sign "=") || (b == sign ">"))

-- behind < <= > >= or =
unfoldable pub comparison_end : List ℕ → ℕ → ℕ
comparison_end bs i =
    if ((byte bs i == sign "<") || (byte bs i == sign ">")) && (byte bs (i + 1) == sign "=") then i + 2 else i + 1

abbrev pub compared_text : List ℕ → List ℕ → List ℕ → List ℕ
compared_text left sign right = left ++ codes " " ++ sign ++ codes " " ++ right

-- the side behind the comparison that stands at i, with what is written before it
abbrev pub compared_by : List ℕ → List ℕ → ℕ → Option (List ℕ × ℕ) → Option (List ℕ × ℕ)
compared_by bs left i None = None
compared_by bs left i (Some x) = Some (compared_text left (piece bs i (comparison_end bs i)) x.0, x.1)

unfoldable pub compared_at : List ℕ → List ℕ → ℕ → Option (List ℕ × ℕ)
compared_at bs left i =
    if is_comparison (byte bs i) then compared_by bs left i (sum_at bs (comparison_end bs i)) else None

abbrev pub last_by : List ℕ → Option (List ℕ × ℕ) → Option (List ℕ × ℕ)
last_by bs None = None
last_by bs (Some x) = closed_by bs x.0 x.1

-- behind one comparison: the end, or a second comparison
unfoldable pub range_by : List ℕ → Option (List ℕ × ℕ) → Option (List ℕ × ℕ)
range_by bs None = None
range_by bs (Some x) =
    if byte bs x.1 == sign ")" then Some (in_parens x.0, x.1 + 1) else last_by bs (compared_at bs x.0 x.1)

-- behind the first side
unfoldable pub sides_by : List ℕ → Option (List ℕ × ℕ) → Option (List ℕ × ℕ)
sides_by bs None = None
sides_by bs (Some x) =
    if byte bs x.1 == sign ")" then Some (in_parens x.0, x.1 + 1)
    else (if byte bs x.1 == sign ":" then value_by bs x.0 (sum_at bs (x.1 + 1))
    else range_by bs (compared_at bs x.0 x.1))

-- the text of the feature whose inside begins at i, and the place behind it
abbrev pub plain_at : List ℕ → ℕ → Option (List ℕ × ℕ)
plain_at bs i = sides_by bs (sum_at bs i)
