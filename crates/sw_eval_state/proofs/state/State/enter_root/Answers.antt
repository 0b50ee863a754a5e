use Rattle.std.proofs.Common.{◌≡◌, false, Result, Ok, Err, sym, ◌∙◌}
use Rattle.std.specs.Prelude.{OnOk}
use Rattle.std.specs.Result.{is_err}
use Rattle.sw_css_tree.specs.Output.{left_rules}
use Rattle.sw_eval_state.specs.AtRules.{root_entered}
use Rattle.sw_eval_state.proofs.Answering.{out_of_memory}
use Rattle.sw_eval_state.proofs.state.State.enter_root.Goals as goal

where_ok : {T E P : Type 0} (r : Result T E) → OnOk r P → is_err r ≡ false → P
where_ok (Ok v) p e = p
where_ok (Err x) p e = absurd cc

pub returns-in_err-around : goal.returns-in_err-around
returns-in_err-around c = out_of_memory _ _ _ c.from_residual.ensures

pub returns : goal.returns
unfolding root_entered
returns c =
    let left : c.open_root.new.self ≡ left_rules c.args.self.now.css = where_ok c.open_root.result c.open_root.ensures.ok (sym c.is_err.ensures.value ∙ c.if-is_err.false) in
    rw (c.in_root.ensures, c.in_ok-around.ensures, left) at c.nest.ensures
