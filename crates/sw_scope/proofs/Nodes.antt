-- What a value gives that is written with `...`.
use Rattle.std.proofs.Common.{◌≡◌, Bool, List, ◌++◌, Result, Ok, Err, OnOk, sym, ◌∙◌, ap}
use Rattle.sw_values.specs.Shape.{node_of}
use Rattle.sw_values.specs.declared.plain.Plain.{Plain}
use Rattle.sw_values.specs.declared.plain.Separator.{Separator}
use Rattle.sw_values.specs.declared.value.Node.{Node}
use Rattle.sw_values.specs.declared.value.Node.TheVariants as N
use Rattle.sw_scope.specs.declared.passed.Passed.{Passed}
use Rattle.sw_scope.specs.Frames.{Variable}
use Rattle.sw_scope.specs.Passed.{spread_by, spread}

module _ (p : Passed) (v : Plain) (node : Node) (is : node ≡ node_of v) where
  pub spread_is : (shown : Node) → node ≡ shown → spread_by p v shown ≡ spread p v
  spread_is shown same = ap (spread_by p v) (sym same ∙ is)

  pub spread_list : (items all : List Plain) (separator : Separator) (bracketed : Bool) → node ≡ N.List items separator bracketed → all ≡ p.items ++ items → record p { items = all } ≡ spread p v
  spread_list items all separator bracketed same e = ap (λ l. record p { items = l }) e ∙ spread_is (N.List items separator bracketed) same

  pub spread_args : (items all : List Plain) (named variables : List Variable) → node ≡ N.Args items named → all ≡ p.items ++ items → variables ≡ p.named ++ named
      → record p { items = all; named = variables } ≡ spread p v
  spread_args items all named variables same e f =
      ap (λ l. record p { items = l; named = variables }) e ∙ ap (λ l. record p { items = p.items ++ items; named = l }) f ∙ spread_is (N.Args items named) same

pub on_ok : {A E : Type 0} {P Q : Type 0} (r : Result A E) → OnOk r P → (P → Q) → OnOk r Q
on_ok (Ok x) p f = f p
on_ok (Err e) p f = tt
