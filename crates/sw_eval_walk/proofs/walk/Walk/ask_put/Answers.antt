use Rattle.std.proofs.Common.{◌∙◌, ap, ℕ, List}
use Rattle.std.specs.Option.{option_map}
use Rattle.sw_world.specs.declared.question.Question.TheVariants.{Put}
use Rattle.sw_world.specs.Laws.{most_asked}
use Rattle.sw_eval_questions.specs.Talk.{Puts}
use Rattle.sw_eval_questions.proofs.Steps.{no_memory, ask_none}
use Rattle.sw_eval_questions.proofs.Heard.{heard, failed}
use Rattle.sw_eval_walk.proofs.walk.Walk.ask_put.Goals as goal

pub returns-in_err-path : goal.returns-in_err-path
returns-in_err-path g c =
    no_memory _ c.args.self.now.state _ _ _ c.from_residual.ensures

pub returns-in-Some : goal.returns-in-Some
returns-in-Some g c =
    heard _ _ c.args.self.now.asked c.ask.new.asked c.args.self.now.state (c.ask.ensures.did (Puts c.args.owner c.args.value) (c.in_ok-path.ensures (λ (p : List ℕ). λ (n : List ℕ). Put p n c.args.value) ∙ ap (option_map (λ r. (λ (p : List ℕ). λ (n : List ℕ). Put p n c.args.value) r.0 r.1)) c.in-Some.is))

pub returns-in-None : goal.returns-in-None
unfolding most_asked
returns-in-None g c =
    ask_none (Puts c.args.owner c.args.value) c.args.span.now c.args.self.now.state _ _ _ (c.in_ok-path.ensures (λ (p : List ℕ). λ (n : List ℕ). Put p n c.args.value) ∙ ap (option_map (λ r. (λ (p : List ℕ). λ (n : List ℕ). Put p n c.args.value) r.0 r.1)) c.in-None.is) (λ m. failed _ _ c.args.self.now.state (c.lost.ensures.full m)) (λ m. failed _ _ c.args.self.now.state (c.lost.ensures.lost m))
