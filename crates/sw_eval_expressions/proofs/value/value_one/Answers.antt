use Rattle.sw_eval_expressions.specs.Expressions.{value_one}
use Rattle.sw_eval_questions.proofs.Steps.{did_value, did_err, did_then, did_plain}
use Rattle.sw_eval_expressions.proofs.Opens.{out_Prefixed, out_Chain, out_List, out_Paren, out_Map, out_Call}
use Rattle.sw_tree.specs.declared.expr.ExprKind as E
use Rattle.sw_eval_expressions.proofs.value.value_one.Goals as goal

pub returns-in-Number : goal.returns-in-Number
unfolding value_one E.out-ExprKind denote.Hole.Carrier.out
returns-in-Number g c =
    rw c.in-Number.is (did_plain _ _ _ _ _ (c.of_number.ensures c.args.walk.now.state))

pub returns-in-Quoted : goal.returns-in-Quoted
unfolding value_one E.out-ExprKind denote.Hole.Carrier.out
returns-in-Quoted g c =
    rw (c.in-Quoted.is) c.string.ensures

pub returns-in-Word : goal.returns-in-Word
unfolding value_one E.out-ExprKind denote.Hole.Carrier.out
returns-in-Word g c =
    rw (c.in-Word.is) c.word.ensures

pub returns-in-Hash : goal.returns-in-Hash
unfolding value_one E.out-ExprKind denote.Hole.Carrier.out
returns-in-Hash g c =
    rw c.in-Hash.is (did_plain _ _ _ _ _ (c.of_hash.ensures c.args.walk.now.state))

pub returns-in-Constant : goal.returns-in-Constant
unfolding value_one E.out-ExprKind denote.Hole.Carrier.out
returns-in-Constant g c =
    rw (c.in-Constant.is, c.constant_value.ensures) (did_value _ c.args.walk.now.state _ _)

pub returns-in-Url : goal.returns-in-Url
unfolding value_one E.out-ExprKind denote.Hole.Carrier.out
returns-in-Url g c =
    rw (c.in-Url.is) c.string-in-Url.ensures

pub returns-in-Variable : goal.returns-in-Variable
unfolding value_one E.out-ExprKind denote.Hole.Carrier.out
returns-in-Variable g c =
    rw c.in-Variable.is c.variable.ensures

pub returns-in-Qualified : goal.returns-in-Qualified
unfolding value_one E.out-ExprKind denote.Hole.Carrier.out
returns-in-Qualified g c =
    rw c.in-Qualified.is (rw c.get.ensures at c.qualified.ensures)

pub returns-in-Parent : goal.returns-in-Parent
unfolding value_one E.out-ExprKind denote.Hole.Carrier.out
returns-in-Parent g c =
    rw c.in-Parent.is (did_plain _ _ _ _ _ c.parent.ensures)

pub returns-in-Important : goal.returns-in-Important
unfolding value_one E.out-ExprKind denote.Hole.Carrier.out
returns-in-Important g c =
    rw c.in-Important.is (did_plain _ _ _ _ _ (c.of_important.ensures c.args.walk.now.state))

pub returns-in-Prefixed : goal.returns-in-Prefixed
unfolding value_one
returns-in-Prefixed g c =
    rw (c.in-Prefixed.is, out_Prefixed) (rw (c.as_slice.ensures, c.get-in-Prefixed.ensures) at c.signed.ensures)

pub returns-in-Chain : goal.returns-in-Chain
unfolding value_one
returns-in-Chain g c =
    rw (c.in-Chain.is, out_Chain) (rw (c.as_slice-in-Chain.ensures, c.get-in-Chain.ensures) at c.chain.ensures)

pub returns-in_err-values-in-List : goal.returns-in_err-values-in-List
unfolding value_one
returns-in_err-values-in-List g c =
    rw (c.in-List.is, out_List) (did_err _ (rw (c.as_slice-in-List.ensures, c.item-place.ensures) at c.in_err-values-in-List.ensures) c.from_residual.ensures)

pub returns-in_ok-values-in-List : goal.returns-in_ok-values-in-List
unfolding value_one
returns-in_ok-values-in-List g c =
    rw (c.in-List.is, out_List) (did_then _ (rw (c.as_slice-in-List.ensures, c.item-place.ensures) at c.in_ok-values-in-List.ensures) (did_plain _ _ _ _ _ (c.of_items.ensures c.items.new.walk.state)))

pub returns-in-Paren : goal.returns-in-Paren
unfolding value_one
returns-in-Paren g c =
    rw (c.in-Paren.is, out_Paren) (rw c.get-in-Paren.ensures at c.plain_value.ensures)

pub returns-in-Map : goal.returns-in-Map
unfolding value_one
returns-in-Map g c =
    rw (c.in-Map.is, out_Map) (rw c.as_slice-in-Map.ensures at c.map.ensures)

pub returns-in-Call : goal.returns-in-Call
unfolding value_one
returns-in-Call g c =
    rw (c.in-Call.is, out_Call) (rw (c.get-in-Call.ensures, c.as_slice-in-Call.ensures) at c.call.ensures)

pub returns-in-Special : goal.returns-in-Special
unfolding value_one E.out-ExprKind denote.Hole.Carrier.out
returns-in-Special g c = rw c.in-Special.is c.special.ensures
