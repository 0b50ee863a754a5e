use Rattle.std.proofs.Common.{true, false, ◌≡◌, List, Option, Some, sym, subst, slice_get}
use Rattle.sw_world.specs.declared.answer.Answer.{Answer}
use Rattle.sw_world.specs.Questions.{IsLoad}
use Rattle.sw_world.specs.Body.{Pair}
use Rattle.sw_record.specs.Replay.{IsOther}
use Rattle.sw_record.proofs.Leading.{asked_more}
use Rattle.sw_record.proofs.again.replay.Goals as goal

not_true : false ≡ true → ⊥
not_true e = cc

pub loop-at-preserved-then-confirms : goal.loop-at-preserved-then-confirms
loop-at-preserved-then-confirms g c =
    let xs : List Pair = c.seen-seen.result.now in
    let p : Pair = c.pair.result.now in
    let here : slice_get xs c.loop-at.at ≡ Some p = c.pair.ensures in
    let plain : IsLoad p.0 → ⊥ = λ l. not_true (c.if-is_load.ensures.1 l) in
    asked_more g.W.World.gives xs c.args.from c.loop-at.at p c.args.world.now c.loop-at.world c.confirms.new.self c.loop-at.invariant here plain
    (subst (λ world. g.W.World.gives c.loop-at.world p.0 p.1 world) (sym c.if-confirms.ensures.same) c.if-confirms.ensures.given)

pub loop-at-preserved : goal.loop-at-preserved
loop-at-preserved g c =
    let xs : List Pair = c.seen-seen.result.now in
    let p : Pair = c.pair.result.now in
    let here : slice_get xs c.loop-at.at ≡ Some p = c.pair.ensures in
    let plain : IsLoad p.0 → ⊥ = λ l. not_true (c.if-is_load.ensures.1 l) in
    let given : g.W.World.gives c.confirms.new.self p.0 p.1 c.other_answer.new.world = subst (λ (o : Option Answer). IsOther g.W.World.gives p.0 p.1 o c.confirms.new.self c.other_answer.new.world) c.in-None.is c.in_ok-other_answer.ensures.ok in
    asked_more g.W.World.gives xs c.args.from c.loop-at.at p c.args.world.now c.loop-at.world c.other_answer.new.world c.loop-at.invariant here plain
    (rw (c.if-confirms.ensures.same) at given)

pub returns-in-Some-clause-ok : goal.returns-in-Some-clause-ok
returns-in-Some-clause-ok g c =
    let xs : List Pair = c.seen-seen.result.now in
    let p : Pair = c.pair.result.now in
    let here : slice_get xs c.loop-at.at ≡ Some p = c.pair.ensures in
    let other : IsOther g.W.World.gives p.0 p.1 (Some c.in-Some.answer) c.confirms.new.self c.other_answer.new.world = subst (λ (o : Option Answer). IsOther g.W.World.gives p.0 p.1 o c.confirms.new.self c.other_answer.new.world) c.in-Some.is c.in_ok-other_answer.ensures.ok in
    let given = rw (c.if-confirms.ensures.same) at other.0 in
    rw (← c.seen-seen.ensures.seen) (c.loop-at.world, c.loop-at.invariant, record { pair = p; here = here; plain = λ l. not_true (c.if-is_load.ensures.1 l); given = given; differs = other.1; fits = other.2 })
