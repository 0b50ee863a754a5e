-- What was done where compiles go on by steps, by how it ended. This project's own rule.
use Rattle.std.specs.Prelude.{◌≡◌, ℕ, List, [], Option}
use Rattle.std.specs.FinMap.{empty}
use Rattle.sw_modules.specs.Fresh.{Setting}
use Rattle.sw_step.specs.Joint.{Joint}
use Rattle.sw_cmd_protocol.specs.declared.stop.Stop.{Stop}
use Rattle.sw_cmd_protocol.specs.Endings.{status_of}
use Rattle.sw_cmd_protocol.specs.Served as protocol
use Rattle.sw_cmd_steps.specs.Transcript.{steps}

-- what is around the answers: the bytes left in the source, those written into the sink, and the paths of the bodies
-- that ran
pub record Surroundings : Type 0 where
  pub left : Option (List ℕ)
  pub written : Option (List ℕ)
  pub ran : List (List ℕ)

abbrev pub surroundings : Option (List ℕ) → Option (List ℕ) → List (List ℕ) → Surroundings
surroundings left written ran = record { left = left; written = written; ran = ran }

-- no file, no number given, and no compile under way
abbrev pub nothing_held : Joint
nothing_held = record { folder = empty; given = 0; under_way = [] }

-- with this held inside
abbrev pub around : Surroundings → Joint → protocol.Surroundings Joint
around s inside = protocol.surroundings s.left s.written inside s.ran

-- from nothing at most so many requests were answered
pub record Served (setting : Setting) (most : ℕ) (stop : Stop) (old new : Surroundings) : Type 0 where
  pub holds : Joint
  pub served : protocol.Served (steps setting) most stop (around old nothing_held) (around new holds)

-- at most 1,000,000 requests were answered, and this is the status
abbrev pub ServedWith : Setting → ℕ → Surroundings → Surroundings → Type 0
ServedWith setting status old new =
    (stop : Stop) × (status ≡ status_of stop) × Served setting 1000000 stop old new
