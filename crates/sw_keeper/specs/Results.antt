-- What a compile has come to so far.
use Rattle.std.specs.Prelude.{ℕ, List}
use Rattle.sw_world.specs.Body.{Run}
use Rattle.sw_record.specs.declared.reply.Cause.{Cause}

-- the runs that ended, kept ones and new ones, and the modules whose bodies ran, each with its cause; both in the order
-- in which the bodies ended
pub record Results : Type 0 where
  pub runs : List Run
  pub ran : List (List ℕ × Cause)
