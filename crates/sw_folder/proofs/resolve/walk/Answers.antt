use Rattle.std.proofs.Common.{ap, map, ◌∙◌}
use Rattle.std.specs.Option.{option_copied}
use Rattle.sw_folder.specs.Paths.{rest_segments}
use Rattle.sw_folder.specs.Resolution.{walk}
use Rattle.sw_folder.proofs.Walks.{walk-turn, walk-out, walk-none}
use Rattle.sw_folder.proofs.resolve.walk.Goals as goal

pub returns-then-not-branch-clause-place : goal.returns-then-not-branch-clause-place
returns-then-not-branch-clause-place c =
    walk-out _ (map (λ s. s.now) c.step.new.place.items) _ (option_copied c.first_segment.result.1) c.in-Some.part.now c.first_segment.result.0.now c.in_ok-step.field-0
    c.loop-left.invariant (ap option_copied c.in-Some.is) c.first_segment.ensures.parts c.in_ok-step.ensures.place c.if-not-branch.true

pub loop-left-preserved : goal.loop-left-preserved
loop-left-preserved c =
    walk-turn _ (map (λ s. s.now) c.step.new.place.items) _ (option_copied c.first_segment.result.1) c.in-Some.part.now c.first_segment.result.0.now c.in_ok-step.field-0
    c.loop-left.invariant (ap option_copied c.in-Some.is) c.first_segment.ensures.parts c.in_ok-step.ensures.place c.if-not-branch.false

pub returns-clause-place : goal.returns-clause-place
returns-clause-place c = c.loop-left.invariant ∙ ap (λ l. walk (map (λ s. s.now) c.loop-left.place.items) (rest_segments l)) (ap option_copied c.in_default.is) ∙ walk-none (map (λ s. s.now) c.loop-left.place.items)
