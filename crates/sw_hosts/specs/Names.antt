-- The names that host functions have: names of CSS Syntax, as the names of a sheet's functions.
use Rattle.std.specs.Prelude.{ℕ, List, length, Bool, ◌&&◌, ◌==◌}
use Rattle.sw_text_scan.specs.declared.runs.Class.TheVariants as classes
use Rattle.sw_text_scan.specs.Runs.{begins_name, run_end}

-- a name begins at the text's start and ends at its end
unfoldable pub is_name : List ℕ → Bool
is_name text = begins_name text 0 && (run_end classes.Name text 0 == length text)
