-- Where a statement stands.
use Rattle.std.specs.Prelude.{Bool, nat_eq, codes}
use Rattle.std.specs.List.{ends_with}
use Rattle.sw_text.specs.declared.place.Span.{Span}
use Rattle.sw_tree.specs.declared.statement.Statement.{Statement, out-Statement}
use Rattle.sw_tree.specs.declared.statement.Statement.TheOpen.{Statement-F}
use Rattle.sw_eval_calls.specs.Layers.{Layer}

abbrev pub place_by : Layer → Span
place_by (Statement-F.Variable x) = x.span
place_by (Statement-F.Assignment x) = x.span
place_by (Statement-F.Declaration x) = x.span
place_by (Statement-F.Rule x) = x.span
place_by (Statement-F.Use x) = x.span
place_by (Statement-F.Properties x) = x.span
place_by (Statement-F.Custom x) = x.span
place_by (Statement-F.Forward x) = x.span
place_by (Statement-F.Callable x) = x.span
place_by (Statement-F.Include mixin content at) = at
place_by (Statement-F.Content x) = x.span
place_by (Statement-F.Return x) = x.span
place_by (Statement-F.Say x) = x.span
place_by (Statement-F.If branches otherwise at) = at
place_by (Statement-F.Each x) = x.span
place_by (Statement-F.For x) = x.span
place_by (Statement-F.While x) = x.span
place_by (Statement-F.Media x) = x.span
place_by (Statement-F.Supports x) = x.span
place_by (Statement-F.AtRoot x) = x.span
place_by (Statement-F.Charset at) = at
place_by (Statement-F.Import x) = x.span
place_by (Statement-F.Extend x) = x.span
place_by (Statement-F.AtRule x) = x.span
place_by (Statement-F.Comment text) = text.span

unfoldable pub place_of : Statement → Span
place_of x = place_by (out-Statement x)

-- what stands in a file of plain CSS, which is read by the extension of its path
abbrev pub is_css : Span → Bool
is_css span = ends_with nat_eq span.file (codes ".css")
