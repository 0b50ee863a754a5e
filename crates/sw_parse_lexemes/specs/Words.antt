-- The words of sheets that are told apart: constants, operators, words of at-rules' heads, and the names of functions
-- whose calls are special text or stay in it. They are looked for by their length.
use Rattle.std.specs.Prelude.{ℕ, ◌-◌, Bool, not, ◌&&◌, ◌==◌, nat_lt, if◌then◌else◌, List, length, slice_range, nat_eq, bytes_eq, codes}
use Rattle.std.specs.List.{list_any, ends_with}
use Rattle.sw_text_scan.specs.Bytes.{sign, byte}
use Rattle.sw_parse_lexemes.specs.declared.sort.Sort.{Sort}
use Rattle.sw_parse_lexemes.specs.declared.sort.Sort.TheVariants as sorts

-- words of two letters
abbrev pub of_two : List ℕ → Sort
of_two word =
    if bytes_eq word (codes "or") then sorts.Or
    else (if bytes_eq word (codes "as") then sorts.As
    else (if bytes_eq word (codes "if") then sorts.If
    else (if bytes_eq word (codes "in") then sorts.In
    else (if bytes_eq word (codes "to") then sorts.To
    else sorts.Name))))

-- words of three letters
abbrev pub of_three : List ℕ → Sort
of_three word =
    if bytes_eq word (codes "and") then sorts.And
    else (if bytes_eq word (codes "not") then sorts.Not
    else (if bytes_eq word (codes "var") then sorts.Special
    else (if bytes_eq word (codes "env") then sorts.Special
    else (if bytes_eq word (codes "min") then sorts.Special
    else (if bytes_eq word (codes "max") then sorts.Special
    else (if bytes_eq word (codes "mod") then sorts.Stays
    else (if bytes_eq word (codes "rem") then sorts.Stays
    else (if bytes_eq word (codes "abs") then sorts.Stays
    else (if bytes_eq word (codes "sin") then sorts.Stays
    else (if bytes_eq word (codes "cos") then sorts.Stays
    else (if bytes_eq word (codes "tan") then sorts.Stays
    else (if bytes_eq word (codes "pow") then sorts.Stays
    else (if bytes_eq word (codes "log") then sorts.Stays
    else (if bytes_eq word (codes "exp") then sorts.Stays
    else sorts.Name))))))))))))))

-- words of four letters
abbrev pub of_four : List ℕ → Sort
of_four word =
    if bytes_eq word (codes "true") then sorts.True
    else (if bytes_eq word (codes "null") then sorts.Null
    else (if bytes_eq word (codes "with") then sorts.With
    else (if bytes_eq word (codes "show") then sorts.Show
    else (if bytes_eq word (codes "hide") then sorts.Hide
    else (if bytes_eq word (codes "from") then sorts.From
    else (if bytes_eq word (codes "only") then sorts.Only
    else (if bytes_eq word (codes "calc") then sorts.Special
    else (if bytes_eq word (codes "sign") then sorts.Stays
    else (if bytes_eq word (codes "asin") then sorts.Stays
    else (if bytes_eq word (codes "acos") then sorts.Stays
    else (if bytes_eq word (codes "atan") then sorts.Stays
    else (if bytes_eq word (codes "sqrt") then sorts.Stays
    else sorts.Name))))))))))))

-- words of five letters
abbrev pub of_five : List ℕ → Sort
of_five word =
    if bytes_eq word (codes "false") then sorts.False
    else (if bytes_eq word (codes "using") then sorts.Using
    else (if bytes_eq word (codes "clamp") then sorts.Special
    else (if bytes_eq word (codes "round") then sorts.Stays
    else (if bytes_eq word (codes "atan2") then sorts.Stays
    else (if bytes_eq word (codes "hypot") then sorts.Stays
    else sorts.Name)))))

-- words of six letters
abbrev pub of_six : List ℕ → Sort
of_six word =
    if bytes_eq word (codes "global") then sorts.Global
    else sorts.Name

-- words of seven letters
abbrev pub of_seven : List ℕ → Sort
of_seven word =
    if bytes_eq word (codes "through") then sorts.Through
    else (if bytes_eq word (codes "default") then sorts.Default
    else sorts.Name)

-- words of nine letters
abbrev pub of_nine : List ℕ → Sort
of_nine word =
    if bytes_eq word (codes "important") then sorts.Important
    else sorts.Name

-- a name of letters, digits and `-`
abbrev pub word_sort : List ℕ → Sort
word_sort word =
    if length word == 2 then of_two word
    else (if length word == 3 then of_three word
    else (if length word == 4 then of_four word
    else (if length word == 5 then of_five word
    else (if length word == 6 then of_six word
    else (if length word == 7 then of_seven word
    else (if length word == 9 then of_nine word
    else sorts.Name))))))

-- a `-` stands between two places
unfoldable pub has_dash : List ℕ → ℕ → ℕ → Bool
has_dash name from to = list_any (λ b. b == sign "-") (slice_range name from to)

-- where the prefix of a prefixed `calc` ends
abbrev pub prefix_end : List ℕ → ℕ
prefix_end name = length name - length (codes "-calc")

-- `-`, a prefix without another `-`, and `-calc`
abbrev pub is_prefixed_calc : List ℕ → Bool
is_prefixed_calc name =
    nat_lt 1 (prefix_end name)
    && ((byte name 0 == sign "-")
    && (ends_with nat_eq name (codes "-calc")
    && not (has_dash name 1 (prefix_end name))))

-- any other name that doesn't begin with `--`
abbrev pub name_sort : List ℕ → Sort
name_sort name = if is_prefixed_calc name then sorts.Special else sorts.Name

-- the signs that stand for at-keywords in a sheet that was written in lines
abbrev pub at_one : List ℕ → Sort
at_one word =
    if bytes_eq word (codes "=") then sorts.AtMixin
    else (if bytes_eq word (codes "+") then sorts.AtInclude
    else sorts.AtName)

-- at-keywords of three characters
abbrev pub at_three : List ℕ → Sort
at_three word =
    if bytes_eq word (codes "@if") then sorts.AtIf
    else sorts.AtName

-- at-keywords of four characters
abbrev pub at_four : List ℕ → Sort
at_four word =
    if bytes_eq word (codes "@use") then sorts.AtUse
    else (if bytes_eq word (codes "@for") then sorts.AtFor
    else sorts.AtName)

-- at-keywords of five characters
abbrev pub at_five : List ℕ → Sort
at_five word =
    if bytes_eq word (codes "@warn") then sorts.AtWarn
    else (if bytes_eq word (codes "@else") then sorts.AtElse
    else (if bytes_eq word (codes "@each") then sorts.AtEach
    else sorts.AtName))

-- at-keywords of six characters
abbrev pub at_six : List ℕ → Sort
at_six word =
    if bytes_eq word (codes "@mixin") then sorts.AtMixin
    else (if bytes_eq word (codes "@debug") then sorts.AtDebug
    else (if bytes_eq word (codes "@error") then sorts.AtError
    else (if bytes_eq word (codes "@while") then sorts.AtWhile
    else (if bytes_eq word (codes "@media") then sorts.AtMedia
    else sorts.AtName))))

-- at-keywords of seven characters
abbrev pub at_seven : List ℕ → Sort
at_seven word =
    if bytes_eq word (codes "@return") then sorts.AtReturn
    else (if bytes_eq word (codes "@elseif") then sorts.AtElseIf
    else (if bytes_eq word (codes "@import") then sorts.AtImport
    else (if bytes_eq word (codes "@extend") then sorts.AtExtend
    else sorts.AtName)))

-- at-keywords of eight characters
abbrev pub at_eight : List ℕ → Sort
at_eight word =
    if bytes_eq word (codes "@forward") then sorts.AtForward
    else (if bytes_eq word (codes "@include") then sorts.AtInclude
    else (if bytes_eq word (codes "@content") then sorts.AtContent
    else (if bytes_eq word (codes "@at-root") then sorts.AtRoot
    else (if bytes_eq word (codes "@charset") then sorts.AtCharset
    else sorts.AtName))))

-- at-keywords of nine characters
abbrev pub at_nine : List ℕ → Sort
at_nine word =
    if bytes_eq word (codes "@function") then sorts.AtFunction
    else (if bytes_eq word (codes "@supports") then sorts.AtSupports
    else sorts.AtName)

-- `@` and a name
abbrev pub at_sort : List ℕ → Sort
at_sort word =
    if length word == 1 then at_one word
    else (if length word == 3 then at_three word
    else (if length word == 4 then at_four word
    else (if length word == 5 then at_five word
    else (if length word == 6 then at_six word
    else (if length word == 7 then at_seven word
    else (if length word == 8 then at_eight word
    else (if length word == 9 then at_nine word
    else sorts.AtName)))))))
