use Rattle.std.proofs.Common.{◌≡◌, true, false, List, [], ◌∷◌, Ok, refl}
use Rattle.sw_scope.specs.Bind.{is_empty}
use Rattle.sw_eval_state.specs.AtRules.{media_entered}
use Rattle.sw_eval_questions.proofs.Steps.{plain_err, plain_then}
use Rattle.sw_eval_state.proofs.state.State.enter_media.Goals as goal

none_left : {A : Type 0} (xs : List A) → xs ≡ [] → is_empty xs ≡ true
none_left xs e = rw e refl

some_left : {A : Type 0} (xs : List A) → (xs ≡ [] → ⊥) → is_empty xs ≡ false
some_left [] some = absurd (some refl)
some_left (x ∷ xs) some = refl

pub returns-in_err-queries : goal.returns-in_err-queries
unfolding media_entered
returns-in_err-queries c = plain_err _ _ _ _ c.args.self.now _ c.in_err-queries.ensures c.from_residual.ensures

pub returns-then-is_empty : goal.returns-then-is_empty
unfolding media_entered
returns-then-is_empty c =
    plain_then _ _ _ (Ok false) c.args.self.now _ c.in_ok-queries.ensures (rw (none_left _ (c.is_empty.ensures.0 c.if-is_empty.true)) refl)

pub returns-in_err-open_media : goal.returns-in_err-open_media
unfolding media_entered
returns-in_err-open_media c =
    let some : is_empty c.in_ok-queries.queries ≡ false = some_left _ (λ e. let yes = c.is_empty.ensures.1 e in let no = c.if-is_empty.false in absurd (cc)) in
    plain_then _ _ _ _ c.args.self.now _ c.in_ok-queries.ensures
    (rw some (plain_err _ _ _ _ _ _ c.in_err-open_media.ensures c.from_residual-in_err-open_media.ensures))

pub returns : goal.returns
unfolding media_entered
returns c =
    let some : is_empty c.in_ok-queries.queries ≡ false = some_left _ (λ e. let yes = c.is_empty.ensures.1 e in let no = c.if-is_empty.false in absurd (cc)) in
    plain_then _ _ _ (Ok true) c.args.self.now _ c.in_ok-queries.ensures (rw some (plain_then _ _ _ (Ok true) _ _ c.in_ok-open_media.ensures refl))
