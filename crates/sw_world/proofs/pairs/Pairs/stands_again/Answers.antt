use Rattle.std.proofs.Common.{◌≡◌, ◌<◌, length, slice_get, get_or, subst, sym, ap, ◌∙◌, eqb-true}
use Rattle.std.proofs.lemmas.Bool.{OnTrue_from}
use Rattle.sw_world.proofs.Listed.{listed_same}
use Rattle.sw_world.proofs.pairs.Pairs.stands_again.Goals as goal

pub returns : goal.returns
returns c =
    let distinct = c.self.inside.distinct in
    let places = c.self.inside.places in
    let at_lt : c.args.at < length places = rw c.as_slice-places.ensures at c.if-at-places.false in
    let other_lt : c.args.other < length places = rw c.as_slice-places.ensures at c.if-other-places.false in
    OnTrue_from _ _ (λ same. subst (λ l. slice_get l c.args.at ≡ slice_get l c.args.other) c.self.view_is
    (listed_same distinct places c.args.at c.args.other c.self.invariant at_lt other_lt (ap (λ l. get_or l c.args.at 0) (sym c.as_slice-places.ensures) ∙ eqb-true _ _ same ∙ ap (λ l. get_or l c.args.other 0) c.as_slice-places.ensures)))
