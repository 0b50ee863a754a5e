-- The addresses of loads, and the namespaces that they give (Sass specification, `@use`): the last component of the URL
-- up to its first `.`, without one leading `_`, where that is a name; of `sass:math` it is `math`.
use Rattle.std.specs.Prelude.{ℕ, ◌+◌, Bool, false, ◌&&◌, ◌||◌, ◌==◌, nat_le, if◌then◌else◌, List, [], ◌∷◌, length, codes, nat_eq, slice_range}
use Rattle.std.specs.List.{list_all, starts_with}

-- without the `sass:` of a built-in module
unfoldable pub without_scheme : List ℕ → List ℕ
without_scheme url = if starts_with nat_eq url (codes "sass:") then slice_range url 5 (length url) else url

-- where the part behind the last `/` begins
abbrev pub part_from : ℕ → ℕ → List ℕ → ℕ
part_from start i [] = start
part_from start i (b ∷ bytes) = part_from (if b == 47 then i + 1 else start) (i + 1) bytes

abbrev pub part_start : List ℕ → ℕ
part_start url = part_from 0 0 url

-- how many bytes stand before the first `.`
abbrev pub before_dot : List ℕ → ℕ
before_dot [] = 0
before_dot (b ∷ bytes) = if b == 46 then 0 else before_dot bytes + 1

-- without a leading `_`
abbrev pub without_underscore : List ℕ → List ℕ
without_underscore [] = []
without_underscore (b ∷ bytes) = if b == 95 then bytes else b ∷ bytes

-- the last component of a URL
abbrev pub last_part : List ℕ → List ℕ
last_part url = slice_range url (part_start url) (length url)

abbrev pub up_to_dot : List ℕ → List ℕ
up_to_dot part = slice_range part 0 (before_dot part)

-- the default namespace of a URL
unfoldable pub namespace_of : List ℕ → List ℕ
namespace_of url = without_underscore (up_to_dot (last_part (without_scheme url)))

-- a byte with which a name may begin: a letter, `_`, or one of a character from U+0080 on
abbrev pub starts_name : ℕ → Bool
starts_name b = (nat_le 65 b && nat_le b 90) || ((nat_le 97 b && nat_le b 122) || ((b == 95) || nat_le 128 b))

abbrev pub is_name_byte : ℕ → Bool
is_name_byte b = starts_name b || ((nat_le 48 b && nat_le b 57) || (b == 45))

abbrev pub is_name_behind : List ℕ → Bool
is_name_behind [] = false
is_name_behind (b ∷ bytes) = (starts_name b || (b == 45)) && list_all is_name_byte bytes

-- all of it is a name: `--` and any name characters, or an optional `-` and a name that begins with neither a digit nor
-- a `-`
abbrev pub is_name : List ℕ → Bool
is_name [] = false
is_name (b ∷ bytes) = if b == 45 then is_name_behind bytes else starts_name b && list_all is_name_byte bytes

-- the string of a load has a default namespace
unfoldable pub has_namespace : List ℕ → Bool
has_namespace url = is_name (namespace_of url)
