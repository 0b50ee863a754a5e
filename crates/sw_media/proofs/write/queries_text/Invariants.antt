use Rattle.std.proofs.Common.{◌≡◌, drop}
use Rattle.std.specs.String.{string_bytes}
use Rattle.sw_media.specs.Writing.{queries_from, queries_text}
use Rattle.sw_media.proofs.write.queries_text.Given as goal

abbrev pub invariant-list : goal.invariant-list
invariant-list l = queries_from (string_bytes l.out) (drop l.query-index l.list) ≡ queries_text l.list
