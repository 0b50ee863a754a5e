use Rattle.std.proofs.Common.{ap, ◌∙◌}
use Rattle.sw_folder.specs.Resolution.{first_choice}
use Rattle.sw_folder.proofs.Choices.{turn_found, turn_fault, turn_next, groups_from-end, first_choice-none}
use Rattle.sw_folder.proofs.folder.Folder.on_paths.Goals as goal

pub returns-in-Ok-Some : goal.returns-in-Ok-Some
returns-in-Ok-Some c =
    turn_found c.args.self.now c.args.url.now c.args.paths.now c.loop-path.path-index c.path-item.result c.as_str.result.now c.loop-path-test.true c.path-item.is c.as_str.ensures c.loop-path.invariant
    c.in-Ok-Some.found (rw c.in-Ok-Some.field-0-is at c.in-Ok-Some.ensures)

pub returns-in-Err : goal.returns-in-Err
returns-in-Err c =
    turn_fault c.args.self.now c.args.url.now c.args.paths.now c.loop-path.path-index c.path-item.result c.as_str.result.now c.loop-path-test.true c.path-item.is c.as_str.ensures c.loop-path.invariant
    c.in-Err.fault c.in-Err.ensures

pub loop-path-preserved : goal.loop-path-preserved
loop-path-preserved c =
    turn_next c.args.self.now c.args.url.now c.args.paths.now c.loop-path.path-index c.path-item.result c.as_str.result.now c.loop-path-test.true c.path-item.is c.as_str.ensures c.loop-path.invariant
    (rw c.in-Ok-None.field-0-is at c.in-Ok-None.ensures)

pub returns : goal.returns
returns c = c.loop-path.invariant ∙ ap (first_choice c.args.self.now) (groups_from-end c.args.url.now c.args.paths.now c.loop-path.path-index c.loop-path-test.false) ∙ first_choice-none c.args.self.now
