use Rattle.sw_tokens.specs.declared.token.Syntax.TheVariants as syntaxes
use Rattle.std.proofs.Common.{◌-◌, ◌*◌, ◌<◌, length, sym, subst, arith}
use Rattle.sw_tokens.proofs.Cuts.{IsText}
use Rattle.sw_tokens.proofs.Ordered.{plain_top}
use Rattle.sw_parse_layout.specs.Layout.{TellsLaid}
use Rattle.sw_parse_layout.proofs.Stands.{Stands}
use Rattle.sw_parse_layout.proofs.Endings.{start_stands, loop_stands, walk_begins, walk_ends, walk_breaks, walk_goes}
use Rattle.sw_parse_layout.proofs.walk.laid_of.Goals as goal

pub steps-init : goal.steps-init
steps-init c =
    let text : IsText c.args.text.now = record {
      utf8 = c.utf8.text;
      small = λ i. let fits = c.type_inv.text i in omega
          arith;
    } in
    record {
      rest = walk_begins c.args.text.now c.nothing-laid.result c.start_at-state.result c.mark_length_of.result
          c.nothing-laid.ensures c.start_at-state.ensures c.mark_length_of.ensures;
      stands = subst (Stands c.args.text.now) (sym c.start_at-state.ensures) (start_stands c.args.text.now text
          c.mark_length_of.result c.mark_length_of.ensures);
    }

pub returns-then-state-text : goal.returns-then-state-text
returns-then-state-text c =
    subst (TellsLaid c.ended.result) (walk_ends c.args.text.now c.steps.laid (2 * length c.args.text.now -
    c.steps._step) c.steps.state _ c.steps.invariant.rest c.if-state-text.true) c.ended.ensures

pub step-requires-clause-plain : goal.step-requires-clause-plain
step-requires-clause-plain c =
    plain_top c.args.text.now syntaxes.Scss c.steps.state.line.opened c.steps.invariant.stands.started

pub returns-in-Err : goal.returns-in-Err
returns-in-Err c =
    let test : c.steps._step < 2 * length c.args.text.now = c.steps-test.true in
    walk_breaks c.args.text.now c.steps.laid (2 * length c.args.text.now - c.steps._step) c.steps.state _ c.in-Err.end
    c.steps.invariant.rest (omega arith) c.if-state-text.false c.in-Err.ensures

pub steps-preserved : goal.steps-preserved
steps-preserved c =
    let text : IsText c.args.text.now = record {
      utf8 = c.utf8.text;
      small = λ i. let fits = c.type_inv.text i in omega
          arith;
    } in
    record {
      rest = walk_goes c.args.text.now c.steps.laid c.in_ok-laid.laid (2 * length c.args.text.now) c.steps._step
          c.steps.state _ c.in-Ok.found c.steps.invariant.rest c.steps-test.true c.if-state-text.false c.in-Ok.ensures
          c.in_ok-laid.ensures;
      stands = loop_stands c.args.text.now text c.steps.state c.in-Ok.found c.steps.invariant.stands
          c.if-state-text.false c.in-Ok.ensures;
    }
