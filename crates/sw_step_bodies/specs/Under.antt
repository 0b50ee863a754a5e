-- What is left of a compile under way, over the folder that it began with.
use Rattle.std.specs.Prelude.{◌≡◌, [], ◌∷◌, Option, None, Some, Result, Ok, Err}
use Rattle.std.specs.FinMap.{empty}
use Rattle.sw_folder.specs.Files.{Files}
use Rattle.sw_text.specs.declared.Memory.{Memory}
use Rattle.sw_text.specs.declared.fault.Fault.{Fault}
use Rattle.sw_record.specs.declared.reply.Outcome.TheVariants.{Error}
use Rattle.sw_modules.specs.Fresh.{Setting}
use Rattle.sw_step_bodies.specs.declared.stepped.Stepped.{Stepped}
use Rattle.sw_step_bodies.specs.declared.stepped.Stepped.TheVariants as S
use Rattle.sw_step_bodies.specs.declared.begun.Start.{Start}
use Rattle.sw_step_bodies.specs.declared.going.Came.{Came}
use Rattle.sw_step_bodies.specs.declared.going.Came.TheVariants as C
use Rattle.sw_step_bodies.specs.Stepping.{Loading, Finished}
use Rattle.sw_step_bodies.specs.Standing.{Rest, Moment, behind, left_at, whole}

-- a moment over this folder
abbrev pub over_folder : Files → Moment → Moment
over_folder folder m = record m { live = record m.live { folder = folder } }

-- what is left of a compile, of which all is where nothing has begun
abbrev pub left_of : Setting → Start → Option Moment → Rest
left_of setting start None = whole setting start.folder start.paths start.entry
left_of setting start (Some m) = left_at setting (over_folder start.folder m)

-- no body of the entry runs
abbrev pub refused_with : Fault → Rest
refused_with fault = record { steps = []; reply = record { says = []; times = []; outcome = Error fault } }

-- a compile has begun, where it hadn't before; or its entry is refused with this fault
abbrev pub IsBegun : Setting → Start → Option Moment → Result Moment Fault → Type 0
IsBegun setting start old (Ok now) = left_of setting start (Some now) ≡ left_of setting start old
IsBegun setting start old (Err fault) = left_of setting start old ≡ refused_with fault

-- what a compile answers that came so far, and where it is then
abbrev pub IsWent : Result Came Memory → Moment → Option Moment → Result Stepped Memory → Type 0
IsWent (Ok (C.Loading body opened)) m now answer =
    (now ≡ Some (over_folder empty m)) × (answer ≡ Ok (S.Loading body opened))
IsWent (Ok (C.Finished body)) m now answer = (now ≡ Some (over_folder empty m)) × (answer ≡ Ok (S.Finished body))
IsWent (Ok (C.Over outcome)) m now answer =
    (now ≡ None)
    × (answer ≡ Ok (S.Ended (record { says = m.live.says; times = m.times; outcome = outcome })))
IsWent (Err memory) m now answer = (now ≡ Some (over_folder empty m)) × (answer ≡ Err memory)

-- where a compile is after it went on from a moment: a step was answered, it is over, or memory ran out
abbrev pub DidGo : Setting → Files → Moment → Option Moment → Result Stepped Memory → Type 0
DidGo setting folder old now (Ok (S.Loading body opened)) =
    (m : Moment) × (now ≡ Some m) × (left_at setting (over_folder folder old)
    ≡ behind (Loading body opened ∷ []) (left_at setting (over_folder folder m)))
DidGo setting folder old now (Ok (S.Finished body)) =
    (m : Moment) × (now ≡ Some m) × (left_at setting (over_folder folder old)
    ≡ behind (Finished body ∷ []) (left_at setting (over_folder folder m)))
DidGo setting folder old now (Ok (S.Ended reply)) =
    (now ≡ None) × (left_at setting (over_folder folder old) ≡ record { steps = []; reply = reply })
DidGo setting folder old now (Err memory) =
    (m : Moment) × (now ≡ Some m)
    × (left_at setting (over_folder folder m) ≡ left_at setting (over_folder folder old))
