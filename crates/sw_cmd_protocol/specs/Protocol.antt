-- What requests are, and what comes of each. This project's own rule.
use Rattle.std.specs.Prelude.{ℕ, List}
use Rattle.sw_cmd_protocol.specs.declared.stop.Stop.{Stop}
use Rattle.sw_cmd_protocol.specs.Script.{Grammar}

-- what comes of a request: the bytes of its reply, the replies of which reporters are told, the paths of the bodies
-- that ran, and what is held then
pub record Turn (Held Reply : Type 0) : Type 0 where
  pub text : List ℕ
  pub told : List Reply
  pub ran : List (List ℕ)
  pub held : Held

-- a mark says of a request what follows from no definition. With the marks for which `IsSaid` holds the request is
-- answered; with those for which `IsLeft` holds of a stop, that stop can come in place of the reply
pub record Protocol (Event Mark Held Reply : Type 0) : Type 1 where
  pub grammar : Grammar Event
  pub turn_of : Held → Event → Mark → Turn Held Reply
  pub IsMark : Held → Event → Mark → Type 0
  pub IsSaid : Held → Event → Mark → Type 0
  pub IsLeft : Stop → Mark → Type 0
