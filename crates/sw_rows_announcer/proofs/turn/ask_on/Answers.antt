use Rattle.std.proofs.Common.{sym, ◌∙◌}
use Rattle.std.proofs.lemmas.List.{nil_from_length}
use Rattle.std.proofs.lemmas.Result.{IfOk-weaker}
use Rattle.sw_rows_announcer.specs.Announcing.{end_of}
use Rattle.sw_rows_announcer.proofs.turn.ask_on.Goals as goal

pub wait-requires : goal.wait-requires
wait-requires g c = nil_from_length c.args.pairs.now.items (sym c.len.ensures ∙ c.if-len-eq0.true)

pub returns-then-len-eq0-clause-step : goal.returns-then-len-eq0-clause-step
returns-then-len-eq0-clause-step g c =
    IfOk-weaker c.wait.result _ _ (λ t step. step (end_of c.args.sheet.now c.args.path.now)) c.wait.ensures.step
