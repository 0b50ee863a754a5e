-- What the table makes of what was read of statements with blocks.
use Rattle.std.proofs.Common.{◌≡◌, ℕ, List, [], ◌∷◌, ◌++◌, map, Option, Some, None, refl, sym, ◌∙◌, ap, append_assoc, append-nil}
use Rattle.sw_tree.specs.declared.expr.Expr.{Expr}
use Rattle.sw_tree.specs.declared.text.Text.{Text as TreeText}
use Rattle.sw_tree.specs.declared.expr.Argument.{Argument}
use Rattle.sw_tree.specs.declared.callable.Kind.{Kind}
use Rattle.sw_tree.specs.declared.callable.Params.{Params}
use Rattle.sw_tree.specs.declared.callable.Mixin.{Mixin}
use Rattle.sw_tree.specs.declared.statement.Statement.{Statement}
use Rattle.sw_tree.specs.declared.statement.Statement.TheVariants as statements
use Rattle.sw_parse_table.specs.declared.source.Source.{Source}
use Rattle.sw_parse_table.specs.Parts.{Part, Place, Texts, Values, Behind, Includes, Blocks, States}
use Rattle.sw_parse_table.specs.Sources.{span_between}
use Rattle.sw_parse_table.specs.Actions.{at_rule_of, to_at_rule, callable_of, to_callable, include_of, to_include, each_of, to_each, names_at}
use Rattle.sw_parse_statement_text.specs.Rows.{text_in}
use Rattle.sw_parse_statement_heads.specs.declared.text.AtRuleHead.{AtRuleHead}
use Rattle.sw_parse_statement_heads.specs.declared.callable.CallableHead.{CallableHead}
use Rattle.sw_parse_statement_heads.specs.declared.include.IncludeHead.{IncludeHead}
use Rattle.sw_parse_statement_heads.specs.declared.each.EachHead.{EachHead}
use Rattle.sw_parse_statement_heads.specs.Heads.{at_parts, each_parts}
use Rattle.sw_parse_statement_heads.specs.CallableHeads.{params_in, callable_parts, arguments_parts, include_parts}
use Rattle.sw_parse_statement_blocks.specs.Rows.{block_in}
use Rattle.sw_parse_statement_blocks.specs.Made.{written_params, mixin_with, content_in}

module _ (source : Source) (i j : ℕ) where
  at_rule_by : (name : TreeText) (prelude : Option TreeText) (block : Option (List Statement))
      → to_at_rule source i j (((Texts name ∷ text_in prelude) ++ Behind j ∷ []) ++ block_in block)
      ≡ at_rule_of source i j name prelude block
  at_rule_by name None None = refl
  at_rule_by name None (Some block) = refl
  at_rule_by name (Some prelude) None = refl
  at_rule_by name (Some prelude) (Some block) = refl

  pub at_rule_is : (head : AtRuleHead) (block : Option (List Statement))
      → to_at_rule source i j ((at_parts head ++ Behind j ∷ []) ++ block_in block)
      ≡ at_rule_of source i j head.name head.prelude block
  at_rule_is head block = at_rule_by head.name head.prelude block

  callable_by : (kind : Kind) (name : ℕ) (params : Option Params) (block : List Statement)
      → to_callable source kind i j (((Place name ∷ params_in params) ++ Behind j ∷ []) ++ Blocks block ∷ [])
      ≡ callable_of source kind i j name (written_params params) block
  callable_by kind name None block = refl
  callable_by kind name (Some params) block = refl

  pub callable_is : (kind : Kind) (head : CallableHead) (block : List Statement)
      → to_callable source kind i j ((callable_parts head ++ Behind j ∷ []) ++ Blocks block ∷ [])
      ≡ callable_of source kind i j head.name (written_params head.params) block
  callable_is kind head block = callable_by kind head.name head.params block

  include_by : (mixin : Mixin) (arguments : Option (List Argument)) (params : Option Params) (block : Option (List
      Statement)) → to_include source i j (((Includes mixin ∷ (arguments_parts arguments ++ params_in params)) ++ Behind
      j ∷ []) ++ block_in block)
      ≡ include_of source i j (mixin_with mixin arguments) (content_in (written_params params) block)
  include_by mixin None None None = refl
  include_by mixin None None (Some block) = refl
  include_by mixin None (Some params) None = refl
  include_by mixin None (Some params) (Some block) = refl
  include_by mixin (Some arguments) None None = refl
  include_by mixin (Some arguments) None (Some block) = refl
  include_by mixin (Some arguments) (Some params) None = refl
  include_by mixin (Some arguments) (Some params) (Some block) = refl

  pub include_is : (head : IncludeHead) (block : Option (List Statement))
      → to_include source i j ((include_parts head ++ Behind j ∷ []) ++ block_in block)
      ≡ include_of source i j (mixin_with head.mixin head.arguments) (content_in (written_params head.params) block)
  include_is head block = include_by head.mixin head.arguments head.params block

  abbrev looped : List ℕ → Expr → List Statement → List Part
  looped names value block =
      States (statements.Each (record
      { names = names_at source names; value = value; block = block; span = span_between source i j })) ∷ []

  each_by : (names rest : List ℕ) (value : Expr) (block : List Statement)
      → each_of source i names (((map Place rest ++ Values value ∷ []) ++ Behind j ∷ []) ++ Blocks block ∷ [])
      ≡ looped (names ++ rest) value block
  each_by names [] value block = ap (λ (all : List ℕ). looped all value block) (sym (append-nil names))
  each_by names (place ∷ rest) value block =
      each_by (names ++ place ∷ []) rest value block
      ∙ ap (λ (all : List ℕ). looped all value block) (append_assoc names (place ∷ []) rest)

  pub each_is : (head : EachHead) (block : List Statement)
      → to_each source i j ((each_parts head ++ Behind j ∷ []) ++ Blocks block ∷ [])
      ≡ looped (head.first ∷ head.rest) head.value block
  each_is head block = each_by (head.first ∷ []) head.rest head.value block
