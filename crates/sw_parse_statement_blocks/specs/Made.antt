-- What the table makes of what was read of statements with blocks.
use Rattle.std.specs.Prelude.{ℕ, List, [], Option, Some, None}
use Rattle.sw_text.specs.declared.place.Span.{Span}
use Rattle.sw_tree.specs.declared.expr.Expr.{Expr}
use Rattle.sw_tree.specs.declared.expr.Argument.{Argument}
use Rattle.sw_tree.specs.declared.callable.Params.{Params}
use Rattle.sw_tree.specs.declared.callable.Mixin.{Mixin}
use Rattle.sw_tree.specs.declared.callable.Content.{Content}
use Rattle.sw_tree.specs.declared.statement.Bounds.{Bounds}
use Rattle.sw_tree.specs.declared.statement.Statement.{Statement}
use Rattle.sw_tree.specs.declared.statement.Statement.TheVariants as statements
use Rattle.sw_parse_terminals.specs.declared.terminal.Terminal.TheVariants as terminals
use Rattle.sw_parse_table.specs.declared.source.Source.{Source}
use Rattle.sw_parse_table.specs.Actions.{params_with, stands_at}
use Rattle.sw_parse_statement_heads.specs.declared.flow.ForHead.{ForHead}

-- the parameters that are written, or none
abbrev pub written_params : Option Params → Params
written_params None = params_with []
written_params (Some params) = params

-- a mixin with the arguments that are written for it
abbrev pub mixin_with : Mixin → Option (List Argument) → Mixin
mixin_with mixin None = mixin
mixin_with mixin (Some arguments) =
    record { namespace = mixin.namespace; name = mixin.name; name_span = mixin.name_span; arguments = arguments }

-- the block that is passed with an include
abbrev pub content_in : Params → Option (List Statement) → Option Content
content_in params None = None
content_in params (Some block) = Some (record { params = params; block = block })

module _ (source : Source) where
  abbrev pub bounds_of : ℕ → Expr → Expr → Bounds
  bounds_of word from to = record { from = from; to = to; through = stands_at source word terminals.Through }

  abbrev pub for_of : List ℕ → Span → ForHead → List Statement → Statement
  for_of name span head block =
      statements.For (record
      { name = name; bounds = bounds_of head.word head.from head.to; block = block; span = span })
