-- Which operators bind next more and next less.
use Rattle.std.specs.Prelude.{ℕ, ◌==◌, if◌then◌else◌, Option, Some, None}
use Rattle.sw_parse_table.specs.declared.operator.Precedence.{Precedence}
use Rattle.sw_parse_table.specs.declared.operator.Precedence.TheVariants.{Product, Sum, Relation, Equality, And, Or}

-- how many bind more
abbrev pub rank : Precedence → ℕ
rank Product = 0
rank Sum = 1
rank Relation = 2
rank Equality = 3
rank And = 4
rank Or = 5

abbrev pub tighter : Precedence → Option Precedence
tighter Product = None
tighter Sum = Some Product
tighter Relation = Some Sum
tighter Equality = Some Relation
tighter And = Some Equality
tighter Or = Some And

abbrev pub next : Precedence → Precedence
next Product = Sum
next Sum = Relation
next Relation = Equality
next Equality = And
next And = Or
next Or = Or

-- the same up to a last one
abbrev pub looser : Precedence → Precedence → Option Precedence
looser precedence last = if rank precedence == rank last then None else Some (next precedence)
