use Rattle.std.proofs.Common.{◌≡◌, ◌≤◌, string_bytes}
use Rattle.std.specs.Str.{IsCharBoundary}
use Rattle.sw_eval_raw_text.specs.Spacing.{spaced}
use Rattle.sw_eval_raw_text.proofs.Spaced.{so_far}
use Rattle.sw_eval_raw_text.proofs.spacing.spaced.Given as goal

abbrev pub invariant-bytes : goal.invariant-bytes
invariant-bytes l = record {
  done : so_far l.is_last (string_bytes l.name) l.text l.from l.at l.now ≡ spaced l.is_last l.fn.reading l.text;
  boundary : IsCharBoundary l.text l.from;
  behind : l.from ≤ l.at;
}
