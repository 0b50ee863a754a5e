use Rattle.std.proofs.Common.{◌≡◌, ◌<◌, ◌≤◌, List, length, slice_get, Some, refl, sym, ◌∙◌, ap, subst, rules, arith}
use Rattle.std.proofs.lemmas.Option.{slice_get_within}
use Rattle.sw_record.specs.declared.replay.Asked.{Asked}
use Rattle.sw_world.specs.Body.{Pair}
use Rattle.sw_record.specs.Together.{IsAsked, AreNarrowed}
use Rattle.sw_record.proofs.Narrowing.{no_mark, a_mark}
use Rattle.sw_record.proofs.Together.{one_at, inside, alone, broke_alone, broke_here, stops_ended, stops_load, goes_as_kept, goes_otherwise, stops_differs}
use Rattle.sw_record.proofs.replay.replay_step.Goals as goal

pub run_at-requires : goal.run_at-requires
run_at-requires g c =
    let of = c.requires.each c.in-Some.near c.in-Some.ensures.marked in slice_get_within c.args.runs.now c.in-Some.near of.kept of.here

pub replay-requires : goal.replay-requires
replay-requires g c =
    let here : slice_get c.args.runs.now c.in-Some.near ≡ Some c.get-run.result.now = c.run_at.ensures ∙ ap Some (sym c.get-run.ensures) in
    inside g.W.World.gives c.args.runs.now g.E.Engine.body c.args.alive c.args.at c.in-Some.near c.get-run.result.now c.args.world.now c.args.world.now c.requires c.in-Some.ensures.marked here

pub returns-then-is_alone-clause-ok : goal.returns-then-is_alone-clause-ok
returns-then-is_alone-clause-ok g c =
    let here : slice_get c.args.runs.now c.in-Some.near ≡ Some c.get-run.result.now = c.run_at.ensures ∙ ap Some (sym c.get-run.ensures) in
    rw c.replayed_of.ensures
    (alone g.W.World.gives c.args.runs.now g.E.Engine.body c.args.alive c.args.at c.in-Some.near c.get-run.result.now c.args.world.now c.replay.new.world c.requires c.in-Some.ensures.marked here
    (c.if-is_alone.ensures.0 refl) c.in_ok-again.again c.in_ok-again.ensures.ok)

pub returns-in_err-again-clause-err : goal.returns-in_err-again-clause-err
returns-in_err-again-clause-err g c =
    let here : slice_get c.args.runs.now c.in-Some.near ≡ Some c.get-run.result.now = c.run_at.ensures ∙ ap Some (sym c.get-run.ensures) in
    let broke = c.in_err-again.ensures.err in
    let cut = broke_alone g.W.World.gives c.args.runs.now g.E.Engine.body c.args.alive c.args.at c.in-Some.near c.get-run.result.now c.args.world.now c.replay.new.world c.requires c.in-Some.ensures.marked here
    (c.if-is_alone.ensures.0 refl) broke.0 broke.1 in
    search (rules, cut)

pub returns-in_err-ask_at-clause-err : goal.returns-in_err-ask_at-clause-err
returns-in_err-ask_at-clause-err g c =
    let here : slice_get c.args.runs.now c.in-Some.near ≡ Some c.get-run.result.now = c.run_at.ensures ∙ ap Some (sym c.get-run.ensures) in
    let cut = broke_here g.W.World.gives c.args.runs.now g.E.Engine.body c.args.alive c.args.at c.in-Some.near c.get-run.result.now c.args.world.now c.ask_at.new.world c.requires c.in-Some.ensures.marked here c.in_err-ask_at.ensures.err in
    search (rules, cut)

pub returns-then-at-len-clause-ok : goal.returns-then-at-len-clause-ok
returns-then-at-len-clause-ok g c =
    let here : slice_get c.args.runs.now c.in-Some.near ≡ Some c.get-run.result.now = c.run_at.ensures ∙ ap Some (sym c.get-run.ensures) in
    let le : length c.get-run.result.now.run.seen ≤ c.args.at = omega (arith, c.if-at-len.true, c.len.ensures, ap length c.seen-seen.ensures.seen) in
    stops_ended g.W.World.gives c.args.runs.now g.E.Engine.body c.args.alive c.args.at c.in-Some.near c.get-run.result.now c.args.world.now c.args.world.now c.requires c.in-Some.ensures.marked here le refl

pub ask_at-requires : goal.ask_at-requires
ask_at-requires g c = omega (arith, c.if-at-len.false, c.len.ensures, ap length c.seen-seen.ensures.seen)

pub returns-in-Load-clause-ok : goal.returns-in-Load-clause-ok
returns-in-Load-clause-ok g c =
    let here : slice_get c.args.runs.now c.in-Some.near ≡ Some c.get-run.result.now = c.run_at.ensures ∙ ap Some (sym c.get-run.ensures) in
    let asked = subst (λ (x : Asked). IsAsked g.W.World.gives c.get-run.result.now.run.seen c.args.at x c.args.world.now c.ask_at.new.world) c.in-Load.is c.in_ok-ask_at.ensures.ok in
    stops_load g.W.World.gives c.args.runs.now g.E.Engine.body c.args.alive c.args.at c.in-Some.near c.get-run.result.now c.args.world.now c.ask_at.new.world c.requires c.in-Some.ensures.marked here asked.0 asked.1

pub pair-requires : goal.pair-requires
pair-requires g c =
    let asked = subst (λ (x : Asked). IsAsked g.W.World.gives c.get-run.result.now.run.seen c.args.at x c.args.world.now c.ask_at.new.world) c.in-AsKept.is c.in_ok-ask_at.ensures.ok in
    let inside : c.args.at < length c.get-run.result.now.run.seen = slice_get_within c.get-run.result.now.run.seen c.args.at asked.0 asked.1 in
    omega (arith, inside, ap length c.seen-seen.ensures.seen)

pub returns-in-AsKept-clause-ok : goal.returns-in-AsKept-clause-ok
returns-in-AsKept-clause-ok g c =
    let run = c.get-run.result.now in
    let here : slice_get c.args.runs.now c.in-Some.near ≡ Some run = c.run_at.ensures ∙ ap Some (sym c.get-run.ensures) in
    let asked = subst (λ (x : Asked). IsAsked g.W.World.gives run.run.seen c.args.at x c.args.world.now c.ask_at.new.world) c.in-AsKept.is c.in_ok-ask_at.ensures.ok in
    let p : Pair = c.pair.result.now in
    let same : p ≡ asked.0 = one_at run.run.seen c.args.at p asked.0 (subst (λ (l : List Pair). slice_get l c.args.at ≡ Some p) c.seen-seen.ensures.seen c.pair.ensures) asked.1 in
    let narrowed : AreNarrowed c.args.runs.now c.args.alive c.args.at asked.0.1 c.narrow.result = subst (λ (q : Pair). AreNarrowed c.args.runs.now c.args.alive c.args.at q.1 c.narrow.result) same c.narrow.ensures in
    (goes_as_kept g.W.World.gives c.args.runs.now g.E.Engine.body c.args.alive c.args.at c.in-Some.near run c.args.world.now c.ask_at.new.world c.requires c.in-Some.ensures.marked here asked.0 c.narrow.result asked.1 asked.2 narrowed, omega arith)

pub returns-then-is_none-clause-ok : goal.returns-then-is_none-clause-ok
returns-then-is_none-clause-ok g c =
    let run = c.get-run.result.now in
    let here : slice_get c.args.runs.now c.in-Some.near ≡ Some run = c.run_at.ensures ∙ ap Some (sym c.get-run.ensures) in
    let differs = subst (λ (x : Asked). IsAsked g.W.World.gives run.run.seen c.args.at x c.args.world.now c.ask_at.new.world) c.in-Other.is c.in_ok-ask_at.ensures.ok in
    stops_differs g.W.World.gives c.args.runs.now g.E.Engine.body c.args.alive c.args.at c.in-Some.near run c.args.world.now c.ask_at.new.world c.requires c.in-Some.ensures.marked here
    c.in-Other.answer c.narrow-left.result c.in-Some.ensures.first differs c.narrow-left.ensures (no_mark c.narrow-left.result c.first_marked-in-Other.result c.first_marked-in-Other.ensures c.if-is_none.ensures)

pub returns-else-is_none-clause-ok : goal.returns-else-is_none-clause-ok
returns-else-is_none-clause-ok g c =
    let run = c.get-run.result.now in
    let here : slice_get c.args.runs.now c.in-Some.near ≡ Some run = c.run_at.ensures ∙ ap Some (sym c.get-run.ensures) in
    let differs = subst (λ (x : Asked). IsAsked g.W.World.gives run.run.seen c.args.at x c.args.world.now c.ask_at.new.world) c.in-Other.is c.in_ok-ask_at.ensures.ok in (
      goes_otherwise g.W.World.gives c.args.runs.now g.E.Engine.body c.args.alive c.args.at c.in-Some.near run c.args.world.now c.ask_at.new.world c.requires c.in-Some.ensures.marked here
          c.in-Other.answer c.narrow-left.result differs c.narrow-left.ensures (a_mark c.narrow-left.result c.first_marked-in-Other.result c.first_marked-in-Other.ensures c.if-is_none.ensures),
      omega arith,
    )
