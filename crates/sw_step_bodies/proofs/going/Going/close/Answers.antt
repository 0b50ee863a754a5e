use Rattle.std.proofs.Common.{◌≡◌, List, [], ◌∷◌, ◌++◌, length, slice_get, ◌-◌, sym, ap, ◌∙◌}
use Rattle.sw_world.specs.declared.question.Question.{Question}
use Rattle.sw_world.specs.declared.answer.Answer.{Answer}
use Rattle.sw_modules.specs.State.{State, path_in}
use Rattle.sw_modules.specs.Loads.{ended_by}
use Rattle.sw_modules.specs.Settings.{hostless}
use Rattle.sw_step_bodies.specs.Standing.{Waits}
use Rattle.sw_step_bodies.proofs.Ends.{none_last, same_last}
use Rattle.sw_step_bodies.proofs.Folders.{ended_folder}
use Rattle.sw_step_bodies.proofs.Moments.{ended_more, moment_over, moment_closed}
use Rattle.sw_step_bodies.proofs.going.Going.close.Goals as goal

pub returns-in_default-clause-came : goal.returns-in_default-clause-came
returns-in_default-clause-came g c =
    let i = c.args.self.now.innermost in
    let none : c.args.self.now.waiting.items ≡ [] = sym c.deref.ensures.value ∙ none_last c.deref.result.now c.in_default.ensures.value in
    let timed = ended_more c.args.self.now.times.items c.reserve.new.self.items c.push_reserved.new.self.items i.standing.job.path c.in_ok-path.path i.standing.count c.loads-count.result
    c.push_reserved.ensures.items c.reserve.ensures.items (c.in_ok-path.ensures ∙ c.path.ensures) c.loads-count.ensures.count in
    moment_over (hostless g.R.Reader.reads g.E.Engine.body) g.met.E.Engine.ends_in_time c.args.self.now.live c.args.self.now.live c.args.self.now.waiting.items i i c.args.self.now.times.items c.requires.deep
    c.args.end c.in_ok-outcome.outcome c.push_reserved.new.self.items none c.requires.ends c.in_ok-outcome.ensures timed

pub returns-clause-came : goal.returns-clause-came
returns-clause-came g c =
    let i = c.args.self.now.innermost in
    let live = c.args.self.now.live in
    let timed = ended_more c.args.self.now.times.items c.reserve.new.self.items c.push_reserved-2.new.self.items i.standing.job.path c.in_ok-path.path i.standing.count c.loads-count.result
    c.push_reserved-2.ensures.items c.reserve.ensures.items (c.in_ok-path.ensures ∙ c.path.ensures) c.loads-count.ensures.count in
    let are : c.args.self.now.waiting.items ≡ c.pop.new.self.items ++ c.in-Some-pop.waiting ∷ [] = c.in-Some-pop.ensures.items in
    let last : c.in-Some.waiting.now ≡ c.in-Some-pop.waiting =
    same_last c.args.self.now.waiting.items c.pop.new.self.items c.in-Some.waiting.now c.in-Some-pop.waiting are (c.in-Some.ensures.value ∙ ap (λ (l : List Waits). slice_get l (length l - 1)) c.deref.ensures.value) in
    let ends : ended_by c.in-Some-pop.waiting.op (path_in live.opened) c.args.end live ≡ (c.in_ok-answer.answer, c.end.new.self) =
    ap (λ (op : Question). ended_by op (path_in live.opened) c.args.end live) (ap (λ (w : Waits). w.op) (sym last) ∙ sym c.op.ensures.op) ∙ c.in_ok-answer.ensures.ok in
    moment_closed (hostless g.R.Reader.reads g.E.Engine.body) g.met.E.Engine.ends_in_time live c.end.new.self c.args.self.now.waiting.items i c.resumed.result c.args.self.now.times.items c.requires.deep
    c.args.end c.in-Some-pop.waiting c.pop.new.self.items c.in_ok-answer.answer c.in_ok-body.body c.push_reserved-2.new.self.items are c.requires.ends ends c.resumed.ensures
    (c.in_ok-body.ensures ∙ c.in_ok-path.ensures ∙ c.path.ensures) timed

pub returns-clause-folder : goal.returns-clause-folder
returns-clause-folder g c =
    ap (λ (p : Answer × State). p.1.folder) (sym c.in_ok-answer.ensures.ok) ∙ ended_folder c.op.result.now (path_in c.args.self.now.live.opened) c.args.end c.args.self.now.live
