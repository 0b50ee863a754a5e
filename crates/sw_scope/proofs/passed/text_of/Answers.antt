use Rattle.std.proofs.Common.{◌∙◌, ap}
use Rattle.sw_scope.specs.Passed.{text_by}
use Rattle.sw_scope.proofs.passed.text_of.Goals as goal

pub returns : goal.returns
returns c = c.text_by.ensures ∙ ap text_by c.node.ensures.node
