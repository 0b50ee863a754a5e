-- A worked case: `$a: 1; .x { $b: 2 !global; $c: 3; $a: 4 !global }` makes `$a` and `$b`.
use Rattle.std.proofs.Common.{◌≡◌, ℕ, Bool, true, false, List, [], ◌∷◌, ◌∙◌, ap, refl}
use Rattle.std.specs.Prelude.{codes}
use Rattle.sw_text.specs.declared.place.Span.{Span}
use Rattle.sw_tree.specs.declared.expr.Expr.{Expr}
use Rattle.sw_tree.specs.declared.text.Text.{Text}
use Rattle.sw_tree.specs.declared.statement.Variable.{Variable}
use Rattle.sw_tree.specs.declared.statement.Rule.{Rule}
use Rattle.sw_tree.specs.declared.statement.Statement.{Statement}
use Rattle.sw_tree.specs.declared.statement.Statement.TheVariants as statements
use Rattle.sw_tree.specs.Globals.{Names, joined, declared_by, declared, globals_in, globals_after}
use Rattle.sw_tree.proofs.Unrolled.{of_variable, of_rule}

declared_variable : (x : Variable) → declared (statements.Variable x) ≡ x.name ∷ []
unfolding declared
declared_variable x = ap (λ layer. declared_by layer (globals_in (statements.Variable x))) (statements.outs-Variable x)

declared_rule : (x : Rule) → declared (statements.Rule x) ≡ globals_in (statements.Rule x)
unfolding declared
declared_rule x = ap (λ layer. declared_by layer (globals_in (statements.Rule x))) (statements.outs-Rule x)

module _ (value : Expr) (selector : Text) (span : Span) where
  abbrev variable : List ℕ → Bool → Variable
  variable name global = record { name = name; value = value; flags = record { default = false; global = global }; span = span }

  abbrev block : List Statement
  block = statements.Variable (variable (codes "b") true) ∷ statements.Variable (variable (codes "c") false) ∷ statements.Variable (variable (codes "a") true) ∷ []

  abbrev rule : Rule
  rule = record { selector = selector; block = block; span = span }

  in_block : globals_in (statements.Rule rule) ≡ codes "b" ∷ codes "a" ∷ []
  in_block =
      of_rule rule ∙ rw (of_variable (variable (codes "b") true), of_variable (variable (codes "c") false), of_variable (variable (codes "a") true)) refl

  pub worked : globals_after [] (statements.Variable (variable (codes "a") false) ∷ statements.Rule rule ∷ []) ≡ codes "a" ∷ codes "b" ∷ []
  worked =
      ap (λ (names : Names). joined (joined [] names) (declared (statements.Rule rule))) (declared_variable (variable (codes "a") false))
      ∙ ap (λ (names : Names). joined (codes "a" ∷ []) names) (declared_rule rule ∙ in_block)
