-- The laws of the body of a sheet: they are laws of every talk.
use Rattle.std.proofs.Common.{◌≡◌, [], ◌∙◌, ap, refl, arith}
use Rattle.sw_world.specs.Laws.{EndsForGood, EndsInTime, AsksFromSources, NamesOnce, EndsRefused, most_asked}
use Rattle.sw_tree.specs.Globals.{globals, joined}
use Rattle.sw_eval_questions.specs.Laws.{run_ends, run_keeps, run_refused, run_gives, run_sourced}
use Rattle.sw_eval_state.specs.Left.{finish_of, end_of, names, names-left, once_joined}
use Rattle.sw_eval_state.specs.Begin.{begin}
use Rattle.sw_eval.specs.Means.{from, body}

pub ends_in_time : EndsInTime body
unfolding body
ends_in_time job given e = run_ends (end_of job.sheet) job.path most_asked [] (from job 0 begin)
    given (omega (arith, e))

pub ends_for_good : EndsForGood body
unfolding body
ends_for_good job given more end e = run_keeps (end_of job.sheet) job.path most_asked []
    (from job 0 begin) given more end e

pub ends_refused : EndsRefused body
unfolding body
ends_refused job given op fault load e = run_refused (end_of job.sheet) job.path most_asked []
    (from job 0 begin) given op fault e

pub asks_from_sources : AsksFromSources body
unfolding body
asks_from_sources job seen op goes e = run_sourced (end_of job.sheet) job.path most_asked []
    (from job 0 begin) seen op goes e

pub names_once : NamesOnce body
unfolding body finish_of
names_once job given finish e =
    let is = run_gives (end_of job.sheet) job.path most_asked [] (from job 0 begin) given finish e in
    let same : names finish.variables ≡ joined [] (globals job.sheet) =
    ap (λ f. names f.variables) is.1 ∙ names-left is.0.1.scopes (globals job.sheet) [] in
    λ name. rw same (once_joined (globals job.sheet) [] (λ n. refl) name)
