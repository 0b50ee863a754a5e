-- Which arguments `if()` chooses between (the Sass reference documentation on `if()`; that an argument which doesn't fit
-- is told before anything is evaluated is this project's own).
use Rattle.std.specs.Prelude.{ℕ, Bool, true, false, not, ◌&&◌, ◌==◌, bytes_eq, codes, if◌then◌else◌, List, [], ◌∷◌, length, Option, Some, None, slice_get}
use Rattle.std.specs.List.{list_any}
use Rattle.std.specs.Option.{is_some}
use Rattle.sw_tree.specs.declared.expr.Argument.{Argument}
use Rattle.sw_tree.specs.declared.expr.Expr.{Expr}
use Rattle.sw_eval_expressions.specs.declared.choosing.Chosen.{Chosen}

-- a value is written with `...`
abbrev pub has_spread : List Argument → Bool
has_spread = list_any (λ a. a.spread)

-- no argument is written without its name behind one that is written with it
abbrev pub ordered : Bool → List Argument → Bool
ordered named [] = true
ordered named (a ∷ args) = if is_some a.name then ordered true args else (not named && ordered named args)

abbrev pub is_in_order : List Argument → Bool
is_in_order = ordered false

abbrev pub or_later : Bool → Expr → Option Expr → Option Expr
or_later true e later = Some e
or_later false e later = later

abbrev pub is_named : Option (List ℕ) → List ℕ → Bool
is_named None name = false
is_named (Some own) name = bytes_eq own name

-- the argument that is written with this name
abbrev pub by_name : List ℕ → List Argument → Option Expr
by_name name [] = None
by_name name (a ∷ args) = or_later (is_named a.name name) a.value (by_name name args)

abbrev pub placed : Option (List ℕ) → Expr → Option Expr → Option Expr
placed None e named = Some e
placed (Some own) e named = named

abbrev pub argument_by : Option Argument → Option Expr → Option Expr
argument_by None named = named
argument_by (Some a) named = placed a.name a.value named

-- the argument of the parameter at this place and of this name
abbrev pub argument_of : List Argument → ℕ → List ℕ → Option Expr
argument_of args place name = argument_by (slice_get args place) (by_name name args)

abbrev pub Choice : Type 0
Choice = Expr × Expr × Expr

-- what the code has of it
abbrev pub choice_of : Chosen → Choice
choice_of c = (c.condition.now, c.if_true.now, c.if_false.now)

abbrev pub all_three : Option Expr → Option Expr → Option Expr → Option Choice
all_three (Some condition) (Some if_true) (Some if_false) = Some (condition, if_true, if_false)
all_three _ _ _ = None

abbrev pub three_of : List Argument → Option Choice
three_of args =
    all_three (argument_of args 0 (codes "condition")) (argument_of args 1 (codes "if-true"))
    (argument_of args 2 (codes "if-false"))

-- the condition and what it chooses between; none where the arguments don't fit
abbrev pub choice : List Argument → Option Choice
choice args = if (length args == 3) && is_in_order args then three_of args else None

-- what is chosen where the condition holds, or doesn't
abbrev pub one_by : Choice → Bool → Expr
one_by c true = c.1
one_by c false = c.2
