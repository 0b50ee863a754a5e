use Rattle.std.proofs.Common.{◌≡◌, ◌≤◌, ◌+◌, drop}
use Rattle.sw_text.specs.Places.{place_after}
use Rattle.sw_parse_lexemes.specs.Cursors.{place_of}
use Rattle.sw_parse_lexemes.proofs.cursor.walk_over.Given as goal

abbrev pub invariant-bytes : goal.invariant-bytes
invariant-bytes l = record {
  place : place_after (place_of l.cursor) (drop l.byte-index l.bytes) ≡ place_after (place_of l.fn.cursor) l.bytes;
  line : l.cursor.line ≤ l.fn.cursor.line + l.byte-index;
  column : l.cursor.column ≤ l.fn.cursor.column + l.byte-index;
}
