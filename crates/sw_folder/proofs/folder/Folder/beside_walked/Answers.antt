use Rattle.std.proofs.Common.{◌≡◌, [], ◌∷◌, ◌++◌, map, None, Some, ap, sym, subst, ◌∙◌, if◌then◌else◌, codes}
use Rattle.sw_folder.specs.Paths.{segments}
use Rattle.sw_folder.specs.Resolution.{IsResolution, first_choice, groups_at, walk}
use Rattle.sw_folder.proofs.Choices.{nowhere}
use Rattle.sw_folder.proofs.Walks.{walk-lost, walk-lost_before, walk-reaches, walk-folder}
use Rattle.sw_folder.proofs.folder.Folder.beside_walked.Goals as goal

pub returns-then-not-branch : goal.returns-then-not-branch
returns-then-not-branch c =
    nowhere c.args.self.now (walk-lost_before [] (segments c.args.from.now) (codes ".." ∷ []) (segments c.args.url.now)
    (rw c.new-place.ensures.items at c.in_ok-walk.ensures.place ∙ ap (λ b. if b then Some (map (λ s. s.now) c.walk.new.place.items) else None) c.if-not-branch.true))

pub returns-then-not-go_up : goal.returns-then-not-go_up
returns-then-not-go_up c =
    nowhere c.args.self.now (walk-lost [] (map (λ s. s.now) c.go_up.new.place.items) (segments c.args.from.now ++ codes ".." ∷ []) (segments c.args.url.now) c.go_up.result
    (walk-folder (map (λ s. s.now) c.walk.new.place.items) (map (λ s. s.now) c.go_up.new.place.items) (segments c.args.from.now) c.in_ok-walk.field-0 c.go_up.result
    (rw c.new-place.ensures.items at c.in_ok-walk.ensures.place) c.go_up.ensures c.if-not-branch.false) c.if-not-go_up.true)

pub returns : goal.returns
returns c =
    let way : walk [] ((segments c.args.from.now ++ codes ".." ∷ []) ++ segments c.args.url.now) ≡ walk (map (λ s. s.now) c.go_up.new.place.items) (segments c.args.url.now)
    = walk-reaches [] (map (λ s. s.now) c.go_up.new.place.items) (segments c.args.from.now ++ codes ".." ∷ []) (segments c.args.url.now) c.go_up.result
    (walk-folder (map (λ s. s.now) c.walk.new.place.items) (map (λ s. s.now) c.go_up.new.place.items) (segments c.args.from.now) c.in_ok-walk.field-0 c.go_up.result
    (rw c.new-place.ensures.items at c.in_ok-walk.ensures.place) c.go_up.ensures c.if-not-branch.false) c.if-not-go_up.false in
    subst (λ p. IsResolution c.further.result (first_choice c.args.self.now (groups_at p))) (sym way) c.further.ensures
