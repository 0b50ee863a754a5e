-- Parts of a text without the white space around them.
use Rattle.std.specs.Prelude.{ℕ, List}
use Rattle.sw_text_scan.specs.declared.runs.Class.TheVariants as classes
use Rattle.sw_text_scan.specs.Pieces.{piece, trimmed_end}
use Rattle.sw_text_scan.specs.Runs.{run_end}

-- what stands between two places
abbrev pub trimmed : List ℕ → ℕ → ℕ → List ℕ
trimmed bs from to =
    piece bs (run_end classes.White bs from) (trimmed_end bs (run_end classes.White bs from) to)
