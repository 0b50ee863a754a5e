use Rattle.std.proofs.Common.{ap, ◌∙◌}
use Rattle.sw_rows_announcer.specs.Turns.{Shown}
use Rattle.sw_rows_announcer.proofs.Engines.{waiting_at}
use Rattle.sw_rows_announcer.proofs.announcer.give_to.Goals as goal

pub returns-in_default : goal.returns-in_default
returns-in_default c =
    absurd (c.in_default.not-Waiting c.requires.0 (c.replace.ensures.value ∙ ap (λ (b : Shown). b.place) c.b.view_is ∙ waiting_at c.args.b.now.place c.requires.0 c.requires.1))
