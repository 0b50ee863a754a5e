-- Runs that are kept (this project's own rule).
use Rattle.std.specs.Prelude.{◌≡◌, [], Option, Some, None}
use Rattle.sw_tree.specs.declared.sheet.Sheet.{Sheet}
use Rattle.sw_css_print.specs.declared.part.Printed.{Printed}
use Rattle.sw_css_print.specs.Parts.{print_one}
use Rattle.sw_world.specs.declared.end.End.{End}
use Rattle.sw_world.specs.declared.end.End.TheVariants.{Done, Fault}
use Rattle.sw_world.specs.Body.{Run, Job, BodyOf, Ends, answers, Goes}
use Rattle.sw_record.specs.declared.trace.Trace.{Trace}

-- a run, with the sheet that it ran
pub record Kept : Type 0 where
  pub sheet : Sheet
  pub run : Run

-- the run of which this is the trace
abbrev pub kept_of : Trace → Kept
kept_of trace =
    record {
      sheet = trace.sheet;
      run =
          record
          { path = trace.path; text = trace.text; config = trace.config; seen = trace.seen; end = trace.end };
    }

abbrev pub job_of : Kept → Job
job_of kept = record { sheet = kept.sheet; config = kept.run.config; path = kept.run.path }

-- its questions and its end are those of the body
pub record IsKept (body : BodyOf) (kept : Kept) : Type 0 where
  pub goes : Goes (body (job_of kept)) [] kept.run.seen
  pub ends : body (job_of kept) (answers kept.run.seen) ≡ Ends kept.run.end

-- the printed part of its output, which only a body that ended well has
abbrev pub printed_of : End → Option Printed
printed_of (Done finish) = Some (print_one finish.css)
printed_of (Fault fault) = None
