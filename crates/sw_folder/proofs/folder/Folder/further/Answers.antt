use Rattle.std.proofs.Common.{map, None, Some, ap, ◌∙◌, if◌then◌else◌}
use Rattle.sw_folder.proofs.Choices.{nowhere}
use Rattle.sw_folder.proofs.folder.Folder.further.Goals as goal

pub returns-then-not-branch : goal.returns-then-not-branch
returns-then-not-branch c = nowhere c.args.self.now (c.in_ok-walk.ensures.place ∙ ap (λ b. if b then Some (map (λ s. s.now) c.walk.new.place.items) else None) c.if-not-branch.true)
