use Rattle.std.proofs.Common.{◌≡◌, List, Option, Some, slice_get, length, ap, subst, arith}
use Rattle.sw_world.specs.declared.answer.Answer.{Answer}
use Rattle.sw_world.specs.Body.{Pair}
use Rattle.sw_record.specs.Replay.{IsOther}
use Rattle.sw_record.proofs.Going.{not_true}
use Rattle.sw_record.proofs.replay.ask_at.Goals as goal

pub pair-requires : goal.pair-requires
pair-requires g c = omega (arith, c.requires, ap length c.seen-seen.ensures.seen)

pub returns-in-Some-clause-ok : goal.returns-in-Some-clause-ok
returns-in-Some-clause-ok g c =
    let xs : List Pair = c.seen-seen.result.now in
    let p : Pair = c.pair.result.now in
    let here : slice_get xs c.args.at ≡ Some p = c.pair.ensures in
    let other : IsOther g.W.World.gives p.0 p.1 (Some c.in-Some.answer) c.confirms.new.self c.other_answer.new.world = subst (λ (o : Option Answer). IsOther g.W.World.gives p.0 p.1 o c.confirms.new.self c.other_answer.new.world) c.in-Some.is c.in_ok-other_answer.ensures.ok in
    let given = rw (c.if-confirms.ensures.same) at other.0 in
    rw (← c.seen-seen.ensures.seen) (record { pair = p; here = here; plain = λ l. not_true (c.if-is_load.ensures.1 l); given = given; differs = other.1; fits = other.2 })
