-- How evaluations end (this project's own rule): as the bodies of their modules do. The turns and the loads that an
-- evaluation may take are never used up.
use Rattle.std.specs.Prelude.{◌≡◌, ◌⊎◌, ℕ, ◌≤◌, List, [], ◌∷◌, length, Ok, Err, ⊤}
use Rattle.sw_text.specs.declared.fault.Fault.{Fault}
use Rattle.sw_tree.specs.declared.sheet.Sheet.{Sheet}
use Rattle.sw_values.specs.declared.plain.Plain.{Plain}
use Rattle.sw_world.specs.declared.end.End.{End}
use Rattle.sw_world.specs.declared.end.End.TheVariants.{Fault as Fault_end}
use Rattle.sw_world.specs.Body.{Run, Ends, answers}
use Rattle.sw_world.specs.Laws.{EndsInTime}
use Rattle.sw_modules.specs.Outside.{Outside}
use Rattle.sw_modules.specs.Fresh.{Setting, from_open}

-- a run that ended as the body of its text ends on the answers that it had
pub record EndsAsBody (setting : Setting) (run : Run) : Type 0 where
  pub sheet : Sheet
  pub reads : setting.read run.path run.text ≡ Ok sheet
  pub ends : setting.body (record { sheet = sheet; config = run.config; path = run.path }) (answers run.seen)
      ≡ Ends run.end

abbrev pub EachEndsAsBody : Setting → List Run → Type 0
EachEndsAsBody setting [] = ⊤
EachEndsAsBody setting (run ∷ runs) = EndsAsBody setting run × EachEndsAsBody setting runs

-- a run of this text
pub record IsRunOf (path text : List ℕ) (config : List (List ℕ × Plain)) (run : Run) : Type 0 where
  pub same_path : run.path ≡ path
  pub same_text : run.text ≡ text
  pub same_config : run.config ≡ config

-- an evaluation ends with the fault with which its text doesn't read, or as the body of that text ended
abbrev pub IsEndOf : Setting → List ℕ → List ℕ → List (List ℕ × Plain) → End → Type 0
IsEndOf setting path text config end =
    ((fault : Fault) × (setting.read path text ≡ Err fault) × (end ≡ Fault_end fault))
    ⊎ ((run : Run) × IsRunOf path text config run × EndsAsBody setting run × (end ≡ run.end))

-- so do all runs in it, where every body ends in time and no more loads are open than may be
abbrev pub EndsByBodies : Type 0
EndsByBodies =
    (setting : Setting) (o : Outside) (path text : List ℕ) (config : List (List ℕ × Plain)) →
    EndsInTime setting.body → length o.live.opened ≤ 64 →
    IsEndOf setting path text config (from_open setting o path text config).end
    × EachEndsAsBody setting (from_open setting o path text config).runs
