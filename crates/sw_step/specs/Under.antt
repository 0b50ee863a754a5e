-- Where a compile under way is.
use Rattle.std.specs.Prelude.{◌≡◌, ◌≤◌, ℕ, List, [], ◌∷◌, ◌++◌, nat_eq, Option, None}
use Rattle.std.specs.Map.{lookup}
use Rattle.sw_modules.specs.Fresh.{Setting}
use Rattle.sw_step_bodies.specs.declared.begun.Start.{Start}
use Rattle.sw_step_bodies.specs.declared.stepped.Stepped.{Stepped}
use Rattle.sw_step_bodies.specs.declared.stepped.Stepped.TheVariants as S
use Rattle.sw_step_bodies.specs.Stepping.{Step, Ended}
use Rattle.sw_step_bodies.specs.Standing.{Moment, behind, whole}
use Rattle.sw_step_bodies.specs.Steps.{step_of}
use Rattle.sw_step_bodies.specs.Under.{left_of}
use Rattle.sw_step.specs.declared.fault.StartFault.{StartFault}
use Rattle.sw_step.specs.declared.fault.StartFault.TheVariants as A
use Rattle.sw_step.specs.declared.fault.StepFault.{StepFault}
use Rattle.sw_step.specs.declared.fault.StepFault.TheVariants as F
use Rattle.sw_step.specs.Joint.{Joint, UnderWay, IsReply}

-- a compile of which nothing has begun, or which stands at a moment
abbrev pub under_way_of : Setting → Start → Option Moment → UnderWay
under_way_of setting start moment =
    record {
      entry = start.entry;
      paths = start.paths;
      folder = start.folder;
      left = (left_of setting start moment).steps ++ Ended ∷ [];
    }

-- what is left is the end of all that it is to come to
pub record IsStanding (setting : Setting) (start : Start) (moment : Option Moment) : Type 0 where
  pub done : List Step
  pub is : behind done (left_of setting start moment) ≡ whole setting start.folder start.paths start.entry

-- a compile answered a step
abbrev pub IsNext : Setting → UnderWay → Stepped → UnderWay → Type 0
IsNext setting old (S.Ended reply) now = (old.left ≡ Ended ∷ []) × IsReply setting old reply
IsNext setting old answer now =
    (old.left ≡ step_of answer ∷ now.left) × (now ≡ record old { left = now.left })

-- no compile has this number or a later one
abbrev pub NoneFrom : {C : Type 0} → ℕ → List (ℕ × C) → Type 0
NoneFrom given under_way = (number : ℕ) → given ≤ number → lookup (nat_eq number) under_way ≡ None

-- all numbers were given
abbrev pub IsStartFault : ℕ → StartFault → Type 0
IsStartFault given A.NoNumber = given ≡ 4294967295
IsStartFault given A.Memory = Unit {0}

-- no compile under way has the number, and nothing ran; or memory ran out
abbrev pub IsStepFault : ℕ → StepFault → Joint → List (List ℕ) → List (List ℕ) → Type 0
IsStepFault number F.NoCompile joint told_old told_new =
    (lookup (nat_eq number) joint.under_way ≡ None) × (told_new ≡ told_old)
IsStepFault number F.Memory joint told_old told_new = (more : List (List ℕ)) × (told_new ≡ told_old ++ more)
