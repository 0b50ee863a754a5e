-- The start of a file, where a fault of the whole file stands (this project's own).
use Rattle.std.specs.Prelude.{List, ℕ}
use Rattle.sw_text.specs.declared.place.Span.{Span}

abbrev pub start_of : List ℕ → Span
start_of file = record { file = file; from = record { line = 1; column = 1 }; to = record { line = 1; column = 1 } }
