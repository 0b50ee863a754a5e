use Rattle.std.proofs.Common.{List, ℕ, sym, subst}
use Rattle.sw_tokens.specs.Order.{StandsIn}
use Rattle.sw_convert_lines.proofs.held.look_over.Goals as goal

pub look_with-requires : goal.look_with-requires
look_with-requires c =
    subst (λ (bytes : List ℕ). StandsIn bytes c.in-Some.token.now) c.requires
    (c.in-Some.ensures.stands c.in-Some.token.now (sym c.in-Some.ensures.value))
