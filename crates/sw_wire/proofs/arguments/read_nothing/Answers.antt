use Rattle.std.proofs.Common.{ap, ◌∙◌}
use Rattle.sw_wire.specs.Words.{rest_words}
use Rattle.sw_wire.specs.Requests.{nothing_by}
use Rattle.sw_wire.proofs.Spaces.{some_words}
use Rattle.sw_wire.proofs.arguments.read_nothing.Goals as goal

pub returns-in-Some : goal.returns-in-Some
returns-in-Some c =
    let words = some_words c.in-Some.field-0.now in
    ap (λ more. nothing_by (rest_words more)) c.in-Some.is ∙ ap nothing_by words.2
