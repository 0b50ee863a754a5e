use Rattle.sw_parse_table.specs.Parts.{Value, SpaceList, Sum}
use Rattle.sw_expr_parse.proofs.Forms.{form_read}
use Rattle.sw_expr_parse.proofs.whole.read_form.Goals as goal

pub returns-in-Expr : goal.returns-in-Expr
returns-in-Expr c =
    rw c.in-Expr.is (form_read c.args.source.now c.args.levels Value c.read_value.result c.read_value.ensures)

pub returns-in-Sum : goal.returns-in-Sum
returns-in-Sum c =
    rw c.in-Sum.is (form_read c.args.source.now c.args.levels Sum c.read_sum.result c.read_sum.ensures)

pub returns-in-Space : goal.returns-in-Space
returns-in-Space c =
    rw c.in-Space.is (form_read c.args.source.now c.args.levels SpaceList c.read_space.result c.read_space.ensures)

pub returns-in-Bound : goal.returns-in-Bound
returns-in-Bound c =
    rw c.in-Bound.is (form_read c.args.source.now c.args.levels SpaceList c.read_space-in-Bound.result c.read_space-in-Bound.ensures)
