use Rattle.std.proofs.Common.{◌≡◌, ◌≤◌, ◌+◌, drop}
use Rattle.sw_text.specs.Places.{place_after}
use Rattle.sw_eval_statements.specs.Names.{as_place}
use Rattle.sw_eval_statements.proofs.names.over.Given as goal

abbrev pub invariant-bytes : goal.invariant-bytes
invariant-bytes l = record {
  place : place_after (as_place l.reached) (drop l.byte-index l.bytes) ≡ place_after (as_place l.fn.from) l.bytes;
  line : l.reached.line ≤ l.fn.from.line + l.byte-index;
  column : l.reached.column ≤ l.fn.from.column + l.byte-index;
}
