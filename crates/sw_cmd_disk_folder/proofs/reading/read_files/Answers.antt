use Rattle.std.proofs.Common.{◌<◌, ◌≤◌, refl, sym, ap, ◌∙◌, arith}
use Rattle.std.proofs.lemmas.Bool.{lt-leb}
use Rattle.std.proofs.lemmas.Result.{err_from_is_err_and}
use Rattle.std.specs.FinMap as files
use Rattle.sw_folder.specs.Files.{most_files}
use Rattle.sw_io.specs.declared.disk.DiskEnd.TheVariants.{Failed}
use Rattle.sw_io.proofs.Causes.{went_well, after_none, same_cause, fine_ok}
use Rattle.sw_cmd_disk_folder.specs.Held.{held_by}
use Rattle.sw_cmd_disk_folder.proofs.Steps.{texts, one_more, none_more, held_full, held_on, held_all}
use Rattle.sw_cmd_disk_folder.proofs.reading.read_files.Goals as goal
use Rattle.sw_cmd_disk_folder.proofs.reading.read_files.Goals.{then-branch, else-branch}

pub paths-init : goal.paths-init
paths-init g c = record {
  count = sym (ap files.len c.requires ∙ files.len-empty _ _);
  few = omega arith;
  kept = refl;
  rest = refl;
  fine = refl;
  held = λ c' e. ap (held_by c'.files (texts c.args.paths.now)) (sym c.requires);
}

pub returns-then-count-ge-MOST_FILES-clause-ok : goal.returns-then-count-ge-MOST_FILES-clause-ok
returns-then-count-ge-MOST_FILES-clause-ok g c =
    λ c' e. let i = c.paths.invariant in
    let full : most_files ≤ files.len (g.F.Holder.folder c.paths.holder) = omega (arith, i.count, c.if-count-ge-MOST_FILES.true) in
    sym (i.held c' e ∙ held_full c'.files _ _ full)

pub paths-preserved : goal.paths-preserved
paths-preserved g c =
    let i = c.paths.invariant in
    let o = c.in_ok-read_file.ensures in
    record {
      count = elim c.if-branch.branch [
        | then-branch w ↦ omega (arith, i.count, w.count-is, one_more _ _ _ o.count w.if-branch.true)
        | else-branch w ↦ omega (arith, i.count, w.count-is, none_more _ _ _ o.count w.if-branch.false)
      ];
      few = elim c.if-branch.branch [
        | then-branch w ↦ omega (arith, w.count-is, c.if-count-ge-MOST_FILES.false)
        | else-branch w ↦ omega (arith, w.count-is, i.few)
      ];
      kept = o.kept ∙ i.kept;
      rest = o.rest ∙ i.rest;
      fine = fine_ok Failed _ _ _ o.cause ∙ i.fine;
      held = λ c' e.
          let room : files.len (g.F.Holder.folder c.paths.holder) < most_files = omega (arith, i.count, c.if-count-ge-MOST_FILES.false) in
          i.held c' e ∙ held_on c'.files c.args.paths.now c.paths.path-index _ _ _ c.paths-test.true (lt-leb _ _ room) (o.ok c' (i.kept ∙ e));
    }

pub returns-clause-ok : goal.returns-clause-ok
returns-clause-ok g c = λ c' e. sym (c.paths.invariant.held c' e ∙ held_all c'.files c.args.paths.now c.paths.path-index _ c.paths-test.false)

pub returns-then-count-ge-MOST_FILES-clause-cause : goal.returns-then-count-ge-MOST_FILES-clause-cause
returns-then-count-ge-MOST_FILES-clause-cause g c = went_well Failed _ _ _ c.paths.invariant.fine

pub returns-in_err-read_file-clause-cause : goal.returns-in_err-read_file-clause-cause
returns-in_err-read_file-clause-cause g c =
    let p = err_from_is_err_and c.from_residual.result c.from_residual.ensures.1 in
    rw (p.1, p.2) (after_none Failed _ _ _ _ c.paths.invariant.fine (same_cause Failed _ _ _ c.in_err-read_file.ensures.cause))

pub returns-clause-cause : goal.returns-clause-cause
returns-clause-cause g c = went_well Failed _ _ _ c.paths.invariant.fine
