-- Keywords and types of media queries. Keywords are lower case.
use Rattle.std.specs.Prelude.{◌≡◌, ℕ, List, Option, Some, None, Result, Ok, Err, Bool, not, ◌&&◌, ◌||◌, codes, bytes_eq}
use Rattle.sw_text_scan.specs.declared.runs.Class.TheVariants as classes
use Rattle.sw_text_scan.specs.Runs.{run_end, begins_name}
use Rattle.sw_text_scan.specs.Pieces.{piece}
use Rattle.sw_media.specs.declared.fault.MediaFault.{MediaFault}
use Rattle.sw_media.specs.declared.fault.MediaFault.TheVariants.{BadQuery, MediaJoin, TooLarge, Memory}

-- what was read is what the definition says, and nothing was read exactly where it says none, or for want of memory
abbrev pub IsRead : {T : Type 0} → Result T MediaFault → Option T → Type 0
IsRead (Ok value) said = said ≡ Some value
IsRead (Err BadQuery) said = said ≡ None
IsRead (Err Memory) said = Unit {0}
IsRead (Err MediaJoin) said = ⊥
IsRead (Err TooLarge) said = ⊥

-- behind white space
abbrev pub white : List ℕ → ℕ → ℕ
white bs i = run_end classes.White bs i

-- behind a name
abbrev pub name_end : List ℕ → ℕ → ℕ
name_end bs i = run_end classes.Name bs i

-- the name characters from i on
abbrev pub word : List ℕ → ℕ → List ℕ
word bs i = piece bs i (name_end bs i)

-- this keyword stands at i
unfoldable pub is_at : List ℕ → List ℕ → ℕ → Bool
is_at keyword bs i = bytes_eq (word bs i) keyword

abbrev pub is_connector : List ℕ → Bool
is_connector name = bytes_eq name (codes "and") || (bytes_eq name (codes "or") || bytes_eq name (codes "not"))

abbrev pub is_value : List ℕ → Bool
is_value name = bytes_eq name (codes "true") || (bytes_eq name (codes "false") || bytes_eq name (codes "null"))

-- a type may stand at i: a name other than these words
unfoldable pub is_type_at : List ℕ → ℕ → Bool
is_type_at bs i = begins_name bs i && not (is_connector (word bs i) || is_value (word bs i))
