use Rattle.std.proofs.Common.{subst}
use Rattle.sw_eval_questions.specs.Talk.{Talk}
use Rattle.sw_eval_questions.specs.Did.{IsReturn}
use Rattle.sw_eval_state.proofs.Answered.{not_built_in}
use Rattle.sw_eval_state.proofs.owners.target.Goals as goal

pub returns-in_default : goal.returns-in_default
returns-in_default c = λ s.
    subst (λ (t : Talk _). IsReturn c.owner.result s t) (not_built_in c.args.span.now c.args.name_span.now c.args.space_span.now c.args.number c.args.answer.now s c.in_default.not-BuiltIn) (c.owner.ensures s)
