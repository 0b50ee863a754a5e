use Rattle.std.proofs.Common.{◌++◌, ◌∷◌, [], ap, ◌∙◌}
use Rattle.sw_keeper.specs.Results.{Results}
use Rattle.sw_keeper.proofs.results.Results.add.Goals as goal

pub returns-clause-ran : goal.returns-clause-ran
returns-clause-ran g c = c.in_ok-push-2.ensures.ok ∙ ap (λ (r : Results). r.ran ++ (c.args.path, c.args.cause) ∷ []) c.self.view_is
