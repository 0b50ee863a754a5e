-- The names of members (Sass reference documentation, "Variables", "Private Members").
use Rattle.std.specs.Prelude.{List, [], ◌∷◌, map, ℕ, Bool, false, ◌||◌, ◌==◌, if◌then◌else◌, string_bytes}
use Rattle.sw_text.specs.declared.letters.Letters.{Letters}
use Rattle.sw_text.specs.declared.letters.Letters.TheVariants.{Near, Far}

abbrev pub hyphen : ℕ
hyphen = 45

abbrev pub underscore : ℕ
underscore = 95

-- private to its module
abbrev pub is_private : List ℕ → Bool
is_private [] = false
is_private (first ∷ rest) = (first == hyphen) || (first == underscore)

abbrev pub dash : ℕ → ℕ
dash b = if b == underscore then hyphen else b

-- as it is stored: with `-` for each `_`
abbrev pub dashed : List ℕ → List ℕ
dashed name = map dash name

-- the bytes of a text, near or far
abbrev pub letters_of : Letters → List ℕ
letters_of (Near near) = near.bytes
letters_of (Far far) = string_bytes far
