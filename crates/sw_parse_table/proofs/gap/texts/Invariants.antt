use Rattle.std.proofs.Common.{◌≡◌, ◌-◌, ◌++◌, string_bytes}
use Rattle.std.specs.Str.{IsCharBoundary}
use Rattle.sw_parse_table.specs.Sources.{bytes, begun, texts_list, texts_from}
use Rattle.sw_parse_table.proofs.gap.texts.Given as goal

abbrev pub invariant-places : goal.invariant-places
invariant-places l = record {
  added :
      l.list ++ texts_list (begun (string_bytes l.text) (texts_from l.source l.to l.from l.at (l.end - l.at)))
      ≡ texts_list (texts_from l.source l.fn.stretch.to l.fn.stretch.from l.fn.stretch.first (l.fn.stretch.end - l.fn.stretch.first));
  boundary : IsCharBoundary (bytes l.source) l.from;
}
