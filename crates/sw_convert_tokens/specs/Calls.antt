-- Names that may be called.
use Rattle.std.specs.Prelude.{ℕ, Bool, not, ◌&&◌, ◌||◌, List}
use Rattle.sw_parse_lexemes.specs.Names.{is_special_name}
use Rattle.sw_parse_lexemes.specs.Words.{word_sort, is_prefixed_calc}

-- by itself that of no special function; behind a namespace these are functions like others
abbrev pub is_unspecial : Bool → List ℕ → Bool
is_unspecial owned name = owned || (not (is_special_name (word_sort name)) && not (is_prefixed_calc name))
