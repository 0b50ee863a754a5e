use Rattle.std.proofs.Common.{◌≡◌, ◌<◌, length, sym, ◌∙◌, ap, arith}
use Rattle.std.proofs.lemmas.Option.{slice_get_within}
use Rattle.sw_record.proofs.Narrowing.{no_mark}
use Rattle.sw_record.specs.Kept.{Kept}
use Rattle.sw_record.proofs.Together.{one_at}
use Rattle.sw_keeper.proofs.Replays.{can_load}
use Rattle.sw_keeper.proofs.loading.after_load.Goals as goal

pub departure_at-requires : goal.departure_at-requires
departure_at-requires g c =
    let m = c.in-Some.ensures.marked in
    let found = c.requires.loads c.in-Some.near m in
    can_load g.E.Engine.body c.args.going.now.runs.now c.args.going.now.alive c.narrow-alive.result c.args.going.now.at c.in-Some.near found.0 found.2.pair c.args.answer c.requires.together m found.1 found.2.here
    c.requires.fits c.narrow-alive.ensures (no_mark c.narrow-alive.result c.first_marked-2.result c.first_marked-2.ensures (sym c.if-is_some.ensures))

pub overflow_add-result : goal.overflow_add-result
overflow_add-result g c =
    let at = c.args.going.now.at in
    let found = c.requires.loads c.in-Some.near c.in-Some.ensures.marked in
    let inside : at < length found.0.run.seen = slice_get_within found.0.run.seen at found.2.pair found.2.here in
    let same : length c.seen-seen.result.now ≡ length found.0.run.seen =
    ap length (c.seen-seen.ensures.seen ∙ ap (λ (k : Kept). k.run.seen) (c.get.ensures ∙ one_at c.args.going.now.runs.now c.in-Some.near c.run_at.result.now found.0 c.run_at.ensures found.1)) in
    omega (arith, inside, same, c.len-count.ensures)
