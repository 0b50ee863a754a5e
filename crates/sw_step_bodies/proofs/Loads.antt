-- What a load comes to, by its begin and by its text.
use Rattle.std.proofs.Common.{◌≡◌, ℕ, ◌+◌, List, length, sym, ◌∙◌, ap, subst, length-append, arith}
use Rattle.sw_tree.specs.declared.sheet.Sheet.{Sheet}
use Rattle.sw_values.specs.declared.plain.Plain.{Plain}
use Rattle.sw_world.specs.declared.question.Question.{Question}
use Rattle.sw_world.specs.declared.answer.Answer.{Answer}
use Rattle.sw_world.specs.declared.end.End.TheVariants.{Fault as Fault_end}
use Rattle.sw_world.specs.Questions.{IsLoad}
use Rattle.sw_modules.specs.declared.live.Begin.{Begin}
use Rattle.sw_modules.specs.declared.live.Begin.TheVariants.{Answered, Open}
use Rattle.sw_modules.specs.declared.module.Opened.{Opened}
use Rattle.sw_modules.specs.State.{State, open_at, path_in, closed}
use Rattle.sw_modules.specs.Loads.{begun, IsBegun}
use Rattle.sw_modules.specs.Fresh.{Setting}
use Rattle.sw_step_bodies.specs.declared.loading.Reading.TheVariants.{Read, Unread}
use Rattle.sw_step_bodies.specs.Moves.{IsAnswered, IsOpened, IsRead}
use Rattle.sw_step_bodies.proofs.Ends.{take_front}
use Rattle.sw_step_bodies.proofs.Folders.{begun_folder, ended_folder}
use Rattle.sw_step_bodies.proofs.Answered.{answered_at_once, answered_unread}

-- a load that is taken back
pub closed_open : (path : List ℕ) (s : State) → closed (open_at path s) ≡ s
closed_open path s = ap (λ (o : List Opened). record s { opened = o }) (take_front s.opened _)

pub open_more : (path : List ℕ) (s t : State) → t ≡ open_at path s → length t.opened ≡ length s.opened + 1
open_more path s t opens = ap (λ (u : State). length u.opened) opens ∙ length-append s.opened _

pub load_answered : (setting : Setting) (op : Question) (a : Answer) (s t : State) → IsLoad op → begun op s ≡ (Answered a, t) → IsBegun (Answered a) s t → IsAnswered setting op a s t
load_answered setting op a s t is begins opens =
    answered_at_once setting op a s t is begins opens.0 opens.1 (ap (λ (p : Begin × State). p.1.folder) (sym begins) ∙ begun_folder op s)

module _ (setting : Setting) (op : Question) (path text : List ℕ) (config : List (List ℕ × Plain)) (s m t : State) (is : IsLoad op) (begins : begun op s ≡ (Open path text config, m)) (opens : IsBegun (Open path text config) s m) where
  pub load_unread : (a : Answer) → IsRead setting.read path text op (Unread a) m t → IsAnswered setting op a s t
  load_unread a read =
      let more = open_more path s m opens.1 in
      let less = read.4 in
      let depth : length t.opened ≡ length s.opened = omega (arith, more, less) in
      answered_unread setting op path text config read.0 a s m t is begins opens.0 read.1 read.2 read.3 depth
      (ap (λ (p : Answer × State). p.1.folder) (sym read.2) ∙ ended_folder op (path_in m.opened) (Fault_end read.0) m ∙ ap (λ (u : State). u.folder) opens.1)

  pub load_read : (sheet : Sheet) (opened : List ℕ) → IsRead setting.read path text op (Read sheet opened) m t → IsOpened setting op path sheet config s t
  load_read sheet opened read =
      subst (IsOpened setting op path sheet config s) (sym read.2) (record { text = text; begins = begins; reads = read.0; few = opens.0; opens = opens.1 })
