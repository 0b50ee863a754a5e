use Rattle.std.proofs.Common.{◌++◌, ◌∙◌, ap}
use Rattle.sw_scope.proofs.Nodes.{spread_is, spread_list, spread_args, on_ok}
use Rattle.sw_scope.proofs.passed.Passed.spread.Goals as goal

pub returns-in-List : goal.returns-in-List
returns-in-List c =
    on_ok c.pass_items.result c.pass_items.ensures (λ e. spread_list c.args.self.now c.args.value.now c.node.result.now c.node.ensures.node c.in-List.items _ _ _ c.in-List.is (e ∙ ap (λ l. c.args.self.now.items ++ l) (c.as_slice.ensures ∙ c.get.ensures)))

pub returns-in_ok-pass_items-in-Args : goal.returns-in_ok-pass_items-in-Args
returns-in_ok-pass_items-in-Args c =
    on_ok c.pass_variables.result c.pass_variables.ensures (λ e. spread_args c.args.self.now c.args.value.now c.node.result.now c.node.ensures.node c.in-Args.items _ c.in-Args.named _ c.in-Args.is
    (c.in_ok-pass_items-in-Args.ensures ∙ ap (λ l. c.args.self.now.items ++ l) (c.as_slice-in-Args.ensures ∙ c.get-in-Args.ensures))
    (e ∙ ap (λ l. c.args.self.now.named ++ l) (c.as_slice-in-Args-2.ensures ∙ c.get-in-Args-2.ensures)))

pub returns-in-Map : goal.returns-in-Map
returns-in-Map c =
    on_ok c.pass_pairs.result (rw c.as_slice-in-Map.ensures at c.pass_pairs.ensures) (λ e. e ∙ spread_is c.args.self.now c.args.value.now c.node.result.now c.node.ensures.node _ c.in-Map.is)

pub returns-in-Number : goal.returns-in-Number
returns-in-Number c = on_ok c.pass_whole.result c.pass_whole.ensures (λ e. e ∙ spread_is c.args.self.now c.args.value.now c.node.result.now c.node.ensures.node _ c.in-Number.is)

pub returns-in-Text : goal.returns-in-Text
returns-in-Text c = on_ok c.pass_whole-in-Text.result c.pass_whole-in-Text.ensures (λ e. e ∙ spread_is c.args.self.now c.args.value.now c.node.result.now c.node.ensures.node _ c.in-Text.is)

pub returns-in-Colour : goal.returns-in-Colour
returns-in-Colour c = on_ok c.pass_whole-in-Colour.result c.pass_whole-in-Colour.ensures (λ e. e ∙ spread_is c.args.self.now c.args.value.now c.node.result.now c.node.ensures.node _ c.in-Colour.is)

pub returns-in-Bool : goal.returns-in-Bool
returns-in-Bool c = on_ok c.pass_whole-in-Bool.result c.pass_whole-in-Bool.ensures (λ e. e ∙ spread_is c.args.self.now c.args.value.now c.node.result.now c.node.ensures.node _ c.in-Bool.is)

pub returns-in-Null : goal.returns-in-Null
returns-in-Null c = on_ok c.pass_whole-in-Null.result c.pass_whole-in-Null.ensures (λ e. e ∙ spread_is c.args.self.now c.args.value.now c.node.result.now c.node.ensures.node _ c.in-Null.is)
