-- A walk through a text that counts its lines and columns.
use Rattle.std.specs.Prelude.{◌≡◌, ℕ, ◌+◌, ◌≤◌, List, length}
use Rattle.sw_text.specs.Places.{Place, place_at}
use Rattle.sw_parse_lexemes.specs.declared.cursor.Cursor.{Cursor}

abbrev pub place_of : Cursor → Place
place_of cursor = record { line = cursor.line; column = cursor.column; returned = cursor.returned }

-- a cursor stands at an offset of a text
pub record Stands (bytes : List ℕ) (at : ℕ) (cursor : Cursor) : Type 0 where
  pub place : place_of cursor ≡ place_at bytes at
  pub within : at ≤ length bytes
  pub line : cursor.line ≤ at + 1
  pub column : cursor.column ≤ at + 1
