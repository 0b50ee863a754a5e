-- Where a compile is that went on.
use Rattle.std.proofs.Common.{◌≡◌, ℕ, List, [], ◌∷◌, ◌++◌, Option, Result, Ok, Err, IfOk, OnErr, sym, ◌∙◌, ap, subst}
use Rattle.std.specs.FinMap.{empty}
use Rattle.sw_folder.specs.Files.{Files}
use Rattle.sw_text.specs.declared.Memory.{Memory}
use Rattle.sw_modules.specs.Fresh.{Setting}
use Rattle.sw_step_bodies.specs.declared.stepped.Stepped.{Stepped}
use Rattle.sw_step_bodies.specs.declared.going.Came.{Came}
use Rattle.sw_step_bodies.specs.declared.going.Came.TheVariants as C
use Rattle.sw_step_bodies.specs.Stepping.{Loading, Finished}
use Rattle.sw_step_bodies.specs.Standing.{Moment, behind, left_at}
use Rattle.sw_step_bodies.specs.Moves.{Comes, ended_at}
use Rattle.sw_step_bodies.specs.Steps.{ended_in}
use Rattle.sw_step_bodies.specs.Under.{over_folder, IsWent, DidGo}

-- a moment over the folder that it has
pub over_same : (folder : Files) (m : Moment) → m.live.folder ≡ folder → over_folder folder (over_folder empty m) ≡ m
over_same folder m e = ap (λ (f : Files). over_folder f m) (sym e)

pub did_go : (setting : Setting) (folder : Files) (old m : Moment) (came : Result Came Memory) (now : Option Moment) (answer : Result Stepped Memory)
    → m.live.folder ≡ folder → IsWent came m now answer
    → IfOk came (λ c. Comes setting c (over_folder folder old) m) → OnErr came (left_at setting m ≡ left_at setting (over_folder folder old))
    → DidGo setting folder old now answer
did_go setting folder old m (Ok (C.Loading body opened)) now answer same went comes stays =
    subst (DidGo setting folder old now) (sym went.1)
    (over_folder empty m, went.0, comes ∙ ap (λ (x : Moment). behind (Loading body opened ∷ []) (left_at setting x)) (sym (over_same folder m same)))
did_go setting folder old m (Ok (C.Finished body)) now answer same went comes stays =
    subst (DidGo setting folder old now) (sym went.1)
    (over_folder empty m, went.0, comes ∙ ap (λ (x : Moment). behind (Finished body ∷ []) (left_at setting x)) (sym (over_same folder m same)))
did_go setting folder old m (Ok (C.Over outcome)) now answer same went comes stays =
    subst (DidGo setting folder old now) (sym went.1) (went.0, comes)
did_go setting folder old m (Err memory) now answer same went comes stays =
    subst (DidGo setting folder old now) (sym went.1)
    (over_folder empty m, went.0, ap (left_at setting) (over_same folder m same) ∙ stays)

pub on_err : {T E P : Type 0} → (r : Result T E) → P → OnErr r P
on_err (Ok x) p = tt
on_err (Err x) p = p

-- what has run is what it tells
pub went_ran : (came : Result Came Memory) (m : Moment) (now : Option Moment) (answer : Result Stepped Memory)
    → IsWent came m now answer → (before after : List (List ℕ)) → IfOk came (λ c. after ≡ before ++ ended_at c m.times)
    → IfOk answer (λ stepped. after ≡ before ++ ended_in stepped)
went_ran (Ok (C.Loading body opened)) m now answer went before after ran =
    subst (λ (a : Result Stepped Memory). IfOk a (λ (stepped : Stepped). after ≡ before ++ ended_in stepped)) (sym went.1) ran
went_ran (Ok (C.Finished body)) m now answer went before after ran =
    subst (λ (a : Result Stepped Memory). IfOk a (λ (stepped : Stepped). after ≡ before ++ ended_in stepped)) (sym went.1) ran
went_ran (Ok (C.Over outcome)) m now answer went before after ran =
    subst (λ (a : Result Stepped Memory). IfOk a (λ (stepped : Stepped). after ≡ before ++ ended_in stepped)) (sym went.1) ran
went_ran (Err memory) m now answer went before after ran =
    subst (λ (a : Result Stepped Memory). IfOk a (λ (stepped : Stepped). after ≡ before ++ ended_in stepped)) (sym went.1) tt
