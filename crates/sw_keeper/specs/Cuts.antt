-- What is left of steps that were cut off for want of memory.
use Rattle.std.specs.Prelude.{◌≡◌, ℕ, List, ◌++◌}
use Rattle.sw_values.specs.declared.plain.Plain.{Plain}
use Rattle.sw_world.specs.Hosts.{HostState}
use Rattle.sw_world.specs.declared.question.Question.{Question}
use Rattle.sw_world.specs.Body.{Pair, Job}
use Rattle.sw_modules.specs.Outside.{Outside}
use Rattle.sw_modules.specs.Fresh.{Setting, room}
use Rattle.sw_modules.specs.Calls.{HostCall, after_calls, calls_for, calls_within, calls_left, calls_open}
use Rattle.sw_keeper.specs.Steps.{Moment}

-- some bodies ran, whichever they are
abbrev pub RanMore : List (List ℕ) → List (List ℕ) → Type 0
RanMore old now = (more : List (List ℕ)) × (now ≡ old ++ more)

-- for want of memory an evaluation with these calls was cut off: the first of them were made, and some bodies ran
pub record CutOff (setting : Setting) (calls : List HostCall) (old now : HostState)
    (told_old told_new : List (List ℕ)) : Type 0 where
  pub made : List HostCall
  pub left : List HostCall
  pub order : calls ≡ made ++ left
  pub hosts : now ≡ after_calls setting.functions made old
  pub told : RanMore told_old told_new

-- the rest of a body that has these pairs behind it was cut off
abbrev pub RestCut : Setting → Job → List Pair → Outside → Outside → List (List ℕ) → List (List ℕ) → Type 0
RestCut setting job pairs old now told_old told_new =
    CutOff setting (calls_left setting job pairs old) old.hosts now.hosts told_old told_new

abbrev pub BodyCut : Setting → Job → List Pair → Moment → Moment → Type 0
BodyCut setting job pairs old now = RestCut setting job pairs old.outside now.outside old.told now.told

-- the answer to a load was
abbrev pub LoadCut : Setting → Question → Moment → Moment → Type 0
LoadCut setting op old now =
    CutOff setting (calls_for (calls_within setting (room old.outside.live)) op old.outside) old.outside.hosts
    now.outside.hosts old.told now.told

-- the evaluation of a module whose path is open was
abbrev pub OpenCut : Setting → List ℕ → List ℕ → List (List ℕ × Plain) → Moment → Moment → Type 0
OpenCut setting path text config old now =
    CutOff setting (calls_open setting old.outside path text config) old.outside.hosts now.outside.hosts old.told
    now.told
