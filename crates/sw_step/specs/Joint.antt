-- Several compiles under way over one folder that goes on changing (this project's own rule).
use Rattle.std.specs.Prelude.{◌≡◌, ℕ, suc, nat_eq, List, [], ◌∷◌, ◌++◌, Some}
use Rattle.std.specs.Map.{lookup, set_value, remove_entry}
use Rattle.sw_folder.specs.Files.{Files}
use Rattle.sw_modules.specs.Fresh.{Setting}
use Rattle.sw_step_bodies.specs.declared.stepped.StepReply.{StepReply}
use Rattle.sw_step_bodies.specs.declared.stepped.Stepped.{Stepped}
use Rattle.sw_step_bodies.specs.declared.stepped.Stepped.TheVariants as S
use Rattle.sw_step_bodies.specs.Compiled.{compiled}
use Rattle.sw_step_bodies.specs.Stepping.{Step, stepping, steps_of}
use Rattle.sw_step_bodies.specs.Steps.{step_of}

-- a compile under way: its entry, its load paths, the folder as it was when it began, and the steps that are left
pub record UnderWay : Type 0 where
  pub entry : List ℕ
  pub paths : List (List ℕ)
  pub folder : Files
  pub left : List Step

-- the folder, how many numbers were given, and each compile under way by its number
pub record Joint : Type 0 where
  pub folder : Files
  pub given : ℕ
  pub under_way : List (ℕ × UnderWay)

abbrev pub at_start : Setting → Files → List (List ℕ) → List ℕ → UnderWay
at_start setting folder paths entry =
    record { entry = entry; paths = paths; folder = folder; left = steps_of setting folder paths entry }

-- a compile begins under the next number, over the folder as it is
abbrev pub started : Setting → List ℕ → List (List ℕ) → Joint → Joint
started setting entry paths joint = record joint {
  given = suc joint.given;
  under_way = joint.under_way ++ (joint.given, at_start setting joint.folder paths entry) ∷ [];
}

-- what is left of a compile after a step: it goes on, or it is under way no more
abbrev pub stepped : ℕ → UnderWay → Stepped → List Step → Joint → Joint
stepped number compile (S.Ended reply) left joint =
    record joint { under_way = remove_entry (nat_eq number) joint.under_way }
stepped number compile _ left joint =
    record joint { under_way = set_value (nat_eq number) joint.under_way (record compile { left = left }) }

-- the last step replies what the compile gives from nothing, over its own folder, and how many steps ran each body of it
pub record IsReply (setting : Setting) (compile : UnderWay) (reply : StepReply) : Type 0 where
  pub says : reply.says ≡ (compiled setting compile.folder compile.paths compile.entry).says
  pub times : reply.times ≡ (stepping setting compile.folder compile.paths compile.entry).times
  pub outcome : reply.outcome ≡ (compiled setting compile.folder compile.paths compile.entry).outcome

abbrev pub RepliesWell : Setting → UnderWay → Stepped → Type 0
RepliesWell setting compile (S.Ended reply) = IsReply setting compile reply
RepliesWell setting compile _ = Unit {0}

-- a step of the compile with a number was answered: the first one that was left
pub record Answers (setting : Setting) (number : ℕ) (answer : Stepped) (old new : Joint) : Type 0 where
  pub compile : UnderWay
  pub is : lookup (nat_eq number) old.under_way ≡ Some compile
  pub left : List Step
  pub next : compile.left ≡ step_of answer ∷ left
  pub replies : RepliesWell setting compile answer
  pub after : new ≡ stepped number compile answer left old
