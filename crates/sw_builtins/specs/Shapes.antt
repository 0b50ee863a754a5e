-- Parameter lists.
use Rattle.std.specs.Prelude.{ℕ, ℤ, pos, negsuc, Bool, ◌&&◌, ◌==◌, ◌-◌, nat_le, List, [], ◌∷◌, length, drop, codes, bytes_eq, Some, None}
use Rattle.std.specs.List.{list_all, list_any}
use Rattle.sw_text.specs.Starts.{start_of}
use Rattle.sw_tree.specs.declared.callable.Param.{Param}
use Rattle.sw_tree.specs.declared.callable.Params.{Params}
use Rattle.sw_tree.specs.declared.text.Parts.TheVariants as parts
use Rattle.sw_tree.specs.declared.expr.Constant.TheVariants as constants
use Rattle.sw_tree.specs.declared.expr.Expr.{Expr}
use Rattle.sw_tree.specs.declared.expr.ExprKind.{ExprKind}
use Rattle.sw_tree.specs.declared.expr.ExprKind.TheVariants as exprs
use Rattle.sw_builtins.specs.declared.shapes.Fallback.{Fallback}
use Rattle.sw_builtins.specs.declared.shapes.Fallback.TheVariants as F

-- ---- defaults

abbrev pub number : ℤ → List ℕ → ExprKind
number value unit = exprs.Number (record { value = Some value; unit = unit })

abbrev pub kind_of : Fallback → ExprKind
kind_of F.Null = exprs.Constant constants.Null
kind_of F.Auto = exprs.Word (parts.Plain (codes "auto"))
kind_of F.Last = number (negsuc 9999999999) []
kind_of F.Half = number (pos 500000000000) (codes "%")
kind_of F.Whole = number (pos 1000000000000) (codes "%")

-- it stands in no sheet
abbrev pub default_of : Fallback → Expr
default_of fallback = record { kind = kind_of fallback; span = start_of [] }

-- ---- parameters

abbrev pub needed : List ℕ → Param
needed name = record { name = name; default = None }

abbrev pub optional : List ℕ → Fallback → Param
optional name fallback = record { name = name; default = Some (default_of fallback) }

abbrev pub fixed : List Param → Params
fixed items = record { items = items; rest = None }

abbrev pub with_rest : List Param → List ℕ → Params
with_rest items rest = record { items = items; rest = Some rest }

-- those of `join`
abbrev pub joining : Params
joining =
    fixed (needed (codes "list1") ∷ needed (codes "list2")
    ∷ optional (codes "separator") F.Auto ∷ optional (codes "bracketed") F.Auto ∷ [])

-- ---- which list takes some arguments

-- so many arguments without a name and these with one are so many together
abbrev pub are_together : ℕ → List (List ℕ) → ℕ → Bool
are_together count named total = nat_le count total && (total - count == length named)

abbrev pub is_named : List (List ℕ) → Param → Bool
is_named named param = list_any (bytes_eq param.name) named

-- each parameter gets one of so many arguments without a name and of these with one; of parameters without defaults
abbrev pub takes : Params → ℕ → List (List ℕ) → Bool
takes params count named =
    are_together count named (length params.items) && list_all (is_named named) (drop count params.items)
