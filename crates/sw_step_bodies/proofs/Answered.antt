-- Loads that are answered, and loads that open a body.
use Rattle.std.proofs.Common.{◌≡◌, ℕ, suc, ◌-◌, ◌<◌, List, [], length, Some, Result, Ok, Err, refl, ◌∙◌, ap, arith}
use Rattle.sw_text.specs.declared.fault.Fault.{Fault}
use Rattle.sw_tree.specs.declared.sheet.Sheet.{Sheet}
use Rattle.sw_values.specs.declared.plain.Plain.{Plain}
use Rattle.sw_world.specs.declared.question.Question.{Question}
use Rattle.sw_world.specs.declared.question.Question.TheVariants.{Load, Find, Get, Put, Say, Call}
use Rattle.sw_world.specs.declared.answer.Answer.{Answer}
use Rattle.sw_world.specs.declared.end.End.TheVariants.{Fault as Fault_end}
use Rattle.sw_world.specs.Body.{Job}
use Rattle.sw_world.specs.Questions.{IsLoad}
use Rattle.sw_world.specs.Laws.{most_asked}
use Rattle.sw_modules.specs.declared.live.Begin.{Begin}
use Rattle.sw_modules.specs.declared.live.Begin.TheVariants.{Answered, Open}
use Rattle.sw_modules.specs.State.{State, path_in}
use Rattle.sw_modules.specs.Loads.{begun, ended_by, AnswersLoad}
use Rattle.sw_modules.specs.Outside.{Functions, Outside}
use Rattle.sw_modules.specs.Fresh.{Setting, Outcome, Evaluation, responds, load_response, load_ended, at_once, fresh, room, evaluated_by, goes_on}
use Rattle.sw_step_bodies.specs.Stepping.{Stepping, StepsIn, opened_at, opened_by, opened_for, steps_on, steps_read, steps_within, steps_left}
use Rattle.sw_step_bodies.specs.Standing.{close_of, close_left, outside_of}
use Rattle.sw_step_bodies.specs.Moves.{IsAnswered}
use Rattle.sw_step_bodies.proofs.Asked.{closes}

pub responds_load : (functions : Functions) (inner : Evaluation) (op : Question) (o : Outside) → IsLoad op → responds functions inner op o ≡ load_response inner op (begun op o.live) o
responds_load functions inner (Load site url span how config) o is = refl
responds_load functions inner (Find site space kind name) o is = absurd is
responds_load functions inner (Get owner name) o is = absurd is
responds_load functions inner (Put owner name value) o is = absurd is
responds_load functions inner (Say kind span text) o is = absurd is
responds_load functions inner (Call name args) o is = absurd is

pub opened_load : (setting : Setting) (inside : StepsIn) (op : Question) (o : Outside) → IsLoad op → opened_for setting inside op o ≡ opened_by setting inside (begun op o.live).0 (begun op o.live).1 o
opened_load setting inside (Load site url span how config) o is = refl
opened_load setting inside (Find site space kind name) o is = absurd is
opened_load setting inside (Get owner name) o is = absurd is
opened_load setting inside (Put owner name value) o is = absurd is
opened_load setting inside (Say kind span text) o is = absurd is
opened_load setting inside (Call name args) o is = absurd is

-- one that is answered at once
pub answered_at_once : (setting : Setting) (op : Question) (a : Answer) (s t : State) → IsLoad op → begun op s ≡ (Answered a, t) → AnswersLoad a → length t.opened ≡ length s.opened → t.folder ≡ s.folder
    → IsAnswered setting op a s t
answered_at_once setting op a s t is begins kind depth folder =
    record {
      kind = kind;
      responds = λ d e. responds_load setting.functions (fresh setting d) op (outside_of s) is ∙ ap (λ p. load_response (fresh setting d) op p (outside_of s)) begins;
      opens_none = λ d. opened_load setting (steps_within setting d) op (outside_of s) is ∙ ap (λ (p : Begin × State). opened_by setting (steps_within setting d) p.0 p.1 (outside_of s)) begins;
      same_depth = depth;
      same_folder = folder;
    }

fresh_unread : (setting : Setting) (e : ℕ) (o : Outside) (path text : List ℕ) (config : List (List ℕ × Plain)) (fault : Fault) → setting.read path text ≡ Err fault
    → fresh setting (suc e) o path text config ≡ record { outside = o; runs = []; end = Fault_end fault }
unfolding fresh
fresh_unread setting e o path text config fault reads =
    ap (evaluated_by (λ sheet. goes_on setting (fresh setting e) (record { sheet = sheet; config = config; path = path }) text (suc most_asked) [] [] o) o) reads

room_left : (s : State) (d : ℕ) → length s.opened < 64 → d ≡ room s → d ≡ suc (63 - length s.opened)
room_left s d few e = omega (arith, few, e)

-- one whose text doesn't read
pub answered_unread : (setting : Setting) (op : Question) (path text : List ℕ) (config : List (List ℕ × Plain)) (fault : Fault) (a : Answer) (s m t : State)
    → IsLoad op → begun op s ≡ (Open path text config, m) → length s.opened < 64 → setting.read path text ≡ Err fault
    → ended_by op (path_in m.opened) (Fault_end fault) m ≡ (a, t) → AnswersLoad a → length t.opened ≡ length s.opened → t.folder ≡ s.folder
    → IsAnswered setting op a s t
answered_unread setting op path text config fault a s m t is begins few reads ends kind depth folder =
    record {
      kind = kind;
      responds = λ d e.
          responds_load setting.functions (fresh setting d) op (outside_of s) is ∙ ap (λ p. load_response (fresh setting d) op p (outside_of s)) begins
          ∙ ap (λ (n : ℕ). load_ended op (fresh setting n (outside_of m) path text config)) (room_left s d few e)
          ∙ ap (λ (c : Outcome). load_ended op c) (fresh_unread setting (63 - length s.opened) (outside_of m) path text config fault reads)
          ∙ ap (λ (p : Answer × State). at_once (outside_of m) [] p) ends;
      opens_none = λ d. opened_load setting (steps_within setting d) op (outside_of s) is ∙ ap (λ (p : Begin × State). opened_by setting (steps_within setting d) p.0 p.1 (outside_of s)) begins
          ∙ ap (opened_at (steps_within setting d) (outside_of m) path text config) reads;
      same_depth = depth;
      same_folder = folder;
    }

all_turns : suc most_asked ≡ suc most_asked - 0
all_turns = omega arith

-- one that opens a body
module _ (setting : Setting) (op : Question) (path text : List ℕ) (config : List (List ℕ × Plain)) (sheet : Sheet) (s m : State) (is : IsLoad op) (begins : begun op s ≡ (Open path text config, m)) (reads : setting.read path text ≡ Ok sheet) where
  job : Job
  job = record { sheet = sheet; config = config; path = path }

  within_reads : (e : ℕ) → steps_within setting (suc e) (outside_of m) path text config ≡ steps_left setting e job 0 [] (outside_of m)
  unfolding steps_within job
  within_reads e =
      ap (steps_read (λ sheet. steps_on setting (fresh setting e) (steps_within setting e) (record { sheet = sheet; config = config; path = path }) (suc most_asked) 0 [] (outside_of m))) reads
      ∙ ap (λ (n : ℕ). steps_on setting (fresh setting e) (steps_within setting e) (record { sheet = sheet; config = config; path = path }) n 0 [] (outside_of m)) all_turns

  pub opens_reads : (e : ℕ) → opened_for setting (steps_within setting (suc e)) op (outside_of s) ≡ Some (path, steps_left setting e (record { sheet = sheet; config = config; path = path }) 0 [] (outside_of m))
  unfolding job
  opens_reads e =
      opened_load setting (steps_within setting (suc e)) op (outside_of s) is
      ∙ ap (λ (p : Begin × State). opened_by setting (steps_within setting (suc e)) p.0 p.1 (outside_of s)) begins
      ∙ ap (opened_at (steps_within setting (suc e)) (outside_of m) path text config) reads
      ∙ ap (λ (x : Stepping). Some (path, x)) (within_reads e)

  pub answers_reads : (e : ℕ) → (v : Outcome) × (responds setting.functions (fresh setting (suc e)) op (outside_of s) ≡ load_ended op v)
      × (close_of v ≡ close_left setting e (record { sheet = sheet; config = config; path = path }) [] (outside_of m))
  unfolding fresh
  answers_reads e =
      let o : Outside = outside_of m in (
        fresh setting (suc e) o path text config,
        responds_load setting.functions (fresh setting (suc e)) op (outside_of s) is ∙ ap (λ p. load_response (fresh setting (suc e)) op p (outside_of s)) begins,
        ap (λ (r : Result Sheet Fault). close_of (evaluated_by (λ sheet. goes_on setting (fresh setting e) (record { sheet = sheet; config = config; path = path }) text (suc most_asked) [] [] o) o r)) reads
            ∙ closes setting (fresh setting e) (record { sheet = sheet; config = config; path = path }) text [] (suc most_asked) [] [] [] o
            ∙ ap (λ (n : ℕ). close_of (goes_on setting (fresh setting e) (record { sheet = sheet; config = config; path = path }) [] n [] [] o)) all_turns,
      )
