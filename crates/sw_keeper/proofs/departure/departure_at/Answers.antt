use Rattle.std.proofs.Common.{◌∙◌, ap}
use Rattle.sw_record.specs.Kept.{Kept}
use Rattle.sw_record.proofs.Together.{one_at}
use Rattle.sw_keeper.proofs.Replays.{departs_by}
use Rattle.sw_keeper.proofs.departure.departure_at.Goals as goal

pub returns : goal.returns
returns g c =
    departs_by c.args.runs.now c.args.near c.args.at c.args.answer c.in_ok-departure.departure c.seen-seen.result.now c.requires
    (c.seen-seen.ensures.seen ∙ ap (λ (k : Kept). k.run.seen) (c.get.ensures ∙ one_at c.args.runs.now c.args.near c.run_at.result.now c.requires.kept c.run_at.ensures c.requires.here))
    c.in_ok-departure.ensures.known c.in_ok-departure.ensures.cause
