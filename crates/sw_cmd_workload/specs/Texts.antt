-- The texts of a made folder and of its summary. This project's own rule.
use Rattle.std.specs.Prelude.{ℕ, suc, zero, ◌+◌, ◌*◌, ◌%◌, List, [], ◌++◌, codes}
use Rattle.std.specs.Fmt.{decimal}

-- the sheet of which each part asks
abbrev pub lib_path : List ℕ
lib_path = codes "lib.scss"

abbrev pub lib_text : List ℕ
lib_text = codes "$c: 0; @mixin bump($x) { $c: $c + $x !global; }"

-- how many parts there are
abbrev pub parts_of : ℕ → ℕ
parts_of number = 1 + number % 1000

-- by how much a part raises the count
abbrev pub width_of : ℕ → ℕ → ℕ
width_of number place = (number + 7 * place) % 100

abbrev pub part_path : ℕ → List ℕ
part_path place = codes "m" ++ decimal place ++ codes ".scss"

abbrev pub part_text : ℕ → ℕ → List ℕ
part_text place width =
    codes "@use \"lib\"; @include lib.bump(" ++ decimal width ++ codes ");" ++ (codes " .m" ++ decimal place)
    ++ codes " { w: lib.$c; }"

abbrev pub use_text : ℕ → List ℕ
use_text place = codes " @use \"m" ++ decimal place ++ codes "\";"

-- the parts are used in order
unfoldable pub uses : ℕ → List ℕ
uses zero = []
uses (suc place) = uses place ++ use_text place

abbrev pub main_path : List ℕ
main_path = codes "main.scss"

abbrev pub main_text : ℕ → List ℕ
main_text parts = codes "@use \"lib\";" ++ uses parts ++ codes " .main { w: lib.$c; }"

-- which part is made anew before the compile with this number, and by how much it raises the count then
abbrev pub edited_place : ℕ → ℕ → ℕ
edited_place number turn = (number + 13 * turn) % parts_of number

abbrev pub edited_width : ℕ → ℕ → ℕ
edited_width number turn = (number + 7 * edited_place number turn + turn) % 100

-- what was done: the parts, with the sheet that they use and the one that uses them; the compiles; the bodies that ran
abbrev pub work_text : ℕ → ℕ → List ℕ
work_text modules ran =
    codes "modules " ++ decimal modules ++ codes "\ncompiles 51\n" ++ (codes "ran " ++ decimal ran ++ codes "\n")

-- what is told in the end: of this, and of the CSS of the last compile
abbrev pub summary : ℕ → ℕ → ℕ → List ℕ
summary modules ran css = work_text modules ran ++ (codes "css " ++ decimal css ++ codes "\n")
