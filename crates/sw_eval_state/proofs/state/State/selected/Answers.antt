use Rattle.std.proofs.Common.{◌≡◌, Bool, true, false, ◌||◌, refl}
use Rattle.sw_eval_state.specs.Nestings.{is_at_root}
use Rattle.sw_eval_state.specs.Selecting.{selected}
use Rattle.sw_eval_state.proofs.state.State.selected.Goals as goal
use Rattle.sw_eval_state.proofs.state.State.selected.Goals.{then-at_root, else-at_root}

first_holds : (a b r : Bool) → a ≡ true → r ≡ a → r ≡ (a || b)
first_holds a b r e is = rw (is, e) refl

second_counts : (a b r : Bool) → a ≡ false → r ≡ b → r ≡ (a || b)
second_counts a b r e is = rw (is, e) refl

pub returns : goal.returns
unfolding selected
returns c =
    let rules = c.args.self.now.nesting.rules in
    let e : c.if-at_root.at_root ≡ (c.args.at_root || is_at_root rules) =
    elim c.if-at_root.branch [
      | then-at_root w ↦ first_holds c.args.at_root (is_at_root rules) c.if-at_root.at_root w.if-at_root.true w.at_root-is
      | else-at_root w ↦ second_counts c.args.at_root (is_at_root rules) c.if-at_root.at_root w.if-at_root.false (rw w.is_at_root-at_root.ensures at w.at_root-is)
    ] in
    c.selected_by.ensures _ c.args.self.now (rw e at c.nested_in.ensures)
