use Rattle.std.proofs.Common.{◌≡◌, [], ◌++◌, map, sym, subst}
use Rattle.sw_folder.specs.Paths.{segments}
use Rattle.sw_folder.specs.Resolution.{IsResolution, first_choice, groups_at, walk}
use Rattle.sw_folder.proofs.Choices.{nowhere}
use Rattle.sw_folder.proofs.Walks.{walk-lost, walk-reaches}
use Rattle.sw_folder.proofs.folder.Folder.on_path.Goals as goal

pub returns-then-not-branch : goal.returns-then-not-branch
returns-then-not-branch c =
    nowhere c.args.self.now (walk-lost [] (map (λ s. s.now) c.walk.new.place.items) (segments c.args.base.now) (segments c.args.url.now) c.in_ok-walk.field-0
    (rw c.new-place.ensures.items at c.in_ok-walk.ensures.place) c.if-not-branch.true)

pub returns : goal.returns
returns c =
    let way : walk [] (segments c.args.base.now ++ segments c.args.url.now) ≡ walk (map (λ s. s.now) c.walk.new.place.items) (segments c.args.url.now)
    = walk-reaches [] (map (λ s. s.now) c.walk.new.place.items) (segments c.args.base.now) (segments c.args.url.now) c.in_ok-walk.field-0
    (rw c.new-place.ensures.items at c.in_ok-walk.ensures.place) c.if-not-branch.false in
    subst (λ p. IsResolution c.further.result (first_choice c.args.self.now (groups_at p))) (sym way) c.further.ensures
