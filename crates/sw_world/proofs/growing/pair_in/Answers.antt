use Rattle.std.proofs.Common.{◌≡◌, ◌≤◌, ◌<◌, ℕ, length, slice_get, get_or, Some, sym, ap, ◌∙◌, arith}
use Rattle.std.proofs.lemmas.Option.{slice_get_past, slice_get-get_or}
use Rattle.sw_world.specs.Pairs.{listed}
use Rattle.sw_world.proofs.Listed.{item_at, listed_get, listed_length}
use Rattle.sw_world.proofs.growing.pair_in.Goals as goal

pub returns-then-at-places : goal.returns-then-at-places
returns-then-at-places c =
    sym (slice_get_past (listed c.args.distinct.now c.args.places.now) c.args.at (omega (arith, listed_length c.args.distinct.now c.args.places.now c.requires, c.if-at-places.true)))

pub returns : goal.returns
returns c =
    let distinct = c.args.distinct.now in
    let places = c.args.places.now in
    let place : ℕ = get_or places c.args.at 0 in
    let pair = c.index-distinct-place.result in
    let lt : place < length distinct = c.requires c.args.at 0 c.if-at-places.false in
    ap Some c.index-distinct-place.is
    ∙ sym (slice_get-get_or distinct place pair lt)
    ∙ ap (item_at distinct) (sym (slice_get-get_or places c.args.at 0 c.if-at-places.false))
    ∙ sym (listed_get distinct places c.args.at c.requires)
