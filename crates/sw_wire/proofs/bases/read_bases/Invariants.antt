use Rattle.std.proofs.Common.{◌≡◌, true, ◌≤◌, ◌++◌, length}
use Rattle.std.specs.List.{list_all}
use Rattle.sw_wire.specs.Words.{rest_words}
use Rattle.sw_wire.specs.Requests.{is_base}
use Rattle.sw_wire.proofs.LoadPaths.{length_left}
use Rattle.sw_wire.proofs.bases.read_bases.Given as goal

abbrev pub invariant-loop-rest : goal.invariant-loop-rest
invariant-loop-rest l = record {
  all : rest_words l.left ≡ l.bases ++ rest_words l.rest;
  few : length l.bases ≤ 8;
  good : list_all is_base l.bases ≡ true;
}

abbrev pub decreases-loop-rest : goal.decreases-loop-rest
decreases-loop-rest l = length_left l.rest
