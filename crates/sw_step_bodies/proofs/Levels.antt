-- The moves of a compile, by where its open bodies stand.
use Rattle.std.proofs.Common.{◌≡◌, ℕ, suc, List, [], ◌∷◌, ◌++◌, length, refl, sym, ◌∙◌, ap, arith}
use Rattle.sw_tree.specs.declared.sheet.Sheet.{Sheet}
use Rattle.sw_values.specs.declared.plain.Plain.{Plain}
use Rattle.sw_world.specs.declared.question.Question.{Question}
use Rattle.sw_world.specs.declared.answer.Answer.{Answer}
use Rattle.sw_world.specs.declared.end.End.{End}
use Rattle.sw_world.specs.declared.end.End.TheVariants.{Done, Fault}
use Rattle.sw_world.specs.Laws.{EndsInTime}
use Rattle.sw_modules.specs.State.{State, path_in}
use Rattle.sw_modules.specs.Loads.{ended_by, left_by}
use Rattle.sw_modules.specs.Fresh.{Setting, room}
use Rattle.sw_step_bodies.specs.Compiled.{outcome_of}
use Rattle.sw_step_bodies.specs.Stepping.{Loading, Finished}
use Rattle.sw_step_bodies.specs.Standing.{Rest, behind, Close, Standing, Waits, with_answer, resumed, left_open, over, after_load, later_of, depth_above, left_above, outside_of}
use Rattle.sw_step_bodies.specs.Bodies.{IsAsking, IsEnding}
use Rattle.sw_step_bodies.specs.Moves.{IsAnswered, IsOpened}
use Rattle.sw_step_bodies.proofs.Asked.{left_answered, left_ended, left_opened}
use Rattle.sw_step_bodies.proofs.Answered.{opens_reads, answers_reads}

module _ (setting : Setting) (in_time : EndsInTime setting.body) (ws : List Waits) (b : Standing) (times : List (List ℕ × ℕ)) (s : State) (deep : length s.opened ≡ suc (length ws)) where
  pub above_answered : (op : Question) (a : Answer) (t : State) → IsAsking setting.body b op → IsAnswered setting op a s t
      → left_above setting ws (with_answer b op a) times t ≡ left_above setting ws b times s
  above_answered op a t asking answered =
      let here : depth_above ws ≡ room s = omega (arith, deep) in
      sym (left_answered setting in_time (depth_above ws) (later_of setting ws) times b op a (outside_of s) (outside_of t) asking.goes asking.asks
      (answered.responds (depth_above ws) here) (answered.opens_none (depth_above ws)))

  pub above_opened : (op : Question) (path : List ℕ) (sheet : Sheet) (config : List (List ℕ × Plain)) (t : State) → IsAsking setting.body b op → IsOpened setting op path sheet config s t
      → left_above setting ws b times s
      ≡ behind (Loading b.job.path path ∷ []) (left_above setting (record { body = b; op = op } ∷ ws)
      (record { job = record { sheet = sheet; config = config; path = path }; count = 0; pairs = [] }) times t)
  above_opened op path sheet config t asking opened =
      let w : Waits = record { body = b; op = op } in
      let c : Standing = record { job = record { sheet = sheet; config = config; path = path }; count = 0; pairs = [] } in
      let e : ℕ = depth_above (w ∷ ws) in
      let few = opened.few in
      let here : depth_above ws ≡ suc e = omega (arith, deep, few) in
      ap (λ (d : ℕ). left_open setting d (later_of setting ws) b times (outside_of s)) here
      ∙ left_opened setting in_time (suc e) e (later_of setting ws) times b c op (outside_of s) (outside_of t) asking.goes asking.asks
      (opens_reads setting op path opened.text config sheet s t asking.load opened.begins opened.reads e)
      (answers_reads setting op path opened.text config sheet s t asking.load opened.begins opened.reads e)
      ∙ ap (λ (d : ℕ). behind (Loading b.job.path path ∷ []) (left_open setting e (after setting d ws w) c times (outside_of t))) (sym here)
    where
      after : (setting : Setting) → ℕ → List Waits → Waits → List (List ℕ × ℕ) → List ℕ → Close → Rest
      after setting d ws w = after_load setting d (later_of setting ws) w

  pub above_over : (end : End) → ws ≡ [] → IsEnding setting.body b end
      → left_above setting ws b times s
      ≡ record { steps = []; reply = record { says = s.says; times = times ++ (b.job.path, suc b.count) ∷ []; outcome = outcome_of end (left_by end s).outputs } }
  above_over end none ending =
      left_ended setting in_time (depth_above ws) (later_of setting ws) times b (outside_of s) end ending.goes ending.ends
      ∙ ap (λ (l : List Waits). later_of setting l (times ++ (b.job.path, suc b.count) ∷ []) b.job.path (record { outside = outside_of s; end = end })) none
      ∙ says_stay end
    where
      says_stay : (end : End) → over (times ++ (b.job.path, suc b.count) ∷ []) b.job.path (record { outside = outside_of s; end = end })
          ≡ record { steps = []; reply = record { says = s.says; times = times ++ (b.job.path, suc b.count) ∷ []; outcome = outcome_of end (left_by end s).outputs } }
      says_stay (Done finish) = refl
      says_stay (Fault fault) = refl

  pub above_closed : (w : Waits) (rest : List Waits) (end : End) (a : Answer) (t : State) → ws ≡ w ∷ rest → IsEnding setting.body b end → ended_by w.op (path_in s.opened) end s ≡ (a, t)
      → left_above setting ws b times s ≡ behind (Finished b.job.path ∷ []) (left_above setting rest (resumed w a) (times ++ (b.job.path, suc b.count) ∷ []) t)
  above_closed w rest end a t is ending ends =
      left_ended setting in_time (depth_above ws) (later_of setting ws) times b (outside_of s) end ending.goes ending.ends
      ∙ ap (λ (l : List Waits). later_of setting l (times ++ (b.job.path, suc b.count) ∷ []) b.job.path (record { outside = outside_of s; end = end })) is
      ∙ ap (λ (p : Answer × State). behind (Finished b.job.path ∷ []) (left_open setting (depth_above rest) (later_of setting rest) (resumed w p.0) (times ++ (b.job.path, suc b.count) ∷ []) (outside_of p.1))) ends
