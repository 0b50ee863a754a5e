-- What was read, as the parts that the table builds.
use Rattle.std.specs.Prelude.{List, [], ◌∷◌, map, Option, Some, None, true, false}
use Rattle.sw_tree.specs.declared.expr.Expr.{Expr}
use Rattle.sw_tree.specs.declared.text.Piece.{Piece}
use Rattle.sw_tree.specs.declared.text.Piece.TheVariants as pieces
use Rattle.sw_parse_table.specs.Parts.{Part, Inserts, Stands, Values, Pairs}
use Rattle.sw_parse_expr_nodes.specs.declared.build.Inserted.{Inserted}
use Rattle.sw_parse_expr_nodes.specs.declared.build.Inner.{Inner}
use Rattle.sw_parse_expr_nodes.specs.declared.build.Inner.TheVariants as inners

abbrev pub insert_of : Inserted → Part
insert_of inserted = elim (inserted.stands) as (λ _. Part) [
  | true ↦ Stands inserted.from inserted.to inserted.value
  | false ↦ Inserts inserted.from inserted.to inserted.value
]

abbrev pub inserted_piece : Inserted → Piece
inserted_piece inserted =
    elim (inserted.stands) as
    (λ _. Piece) [ true ↦ pieces.Value inserted.value | false ↦ pieces.Inserted inserted.value ]

abbrev pub inserts_in : Option Inserted → List Part
inserts_in None = []
inserts_in (Some inserted) = insert_of inserted ∷ []

abbrev pub inner_parts : Inner → List Part
inner_parts inners.Nothing = []
inner_parts (inners.Value value) = Values value ∷ []
inner_parts (inners.Pairs first rest) = Pairs first ∷ map Pairs rest

abbrev pub value_parts : Option Expr → List Part
value_parts None = []
value_parts (Some value) = Values value ∷ []
