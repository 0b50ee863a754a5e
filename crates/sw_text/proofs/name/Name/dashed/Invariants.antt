use Rattle.std.proofs.Common.{◌≡◌, ◌≤◌, ◌++◌, take, drop, string_bytes}
use Rattle.std.specs.Str.{IsCharBoundary}
use Rattle.sw_text.specs.Names.{dashed}
use Rattle.sw_text.proofs.name.Name.dashed.Given as goal

abbrev pub invariant-bytes : goal.invariant-bytes
invariant-bytes l = record {
  done : string_bytes l.name ++ drop l.from (take l.at l.text) ≡ dashed (take l.at l.text);
  boundary : IsCharBoundary l.text l.from;
  behind : l.from ≤ l.at;
}
