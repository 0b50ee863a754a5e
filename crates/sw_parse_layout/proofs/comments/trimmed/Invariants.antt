use Rattle.std.proofs.Common.{◌≡◌, ◌-◌, ◌≤◌}
use Rattle.sw_parse_layout.specs.Comments.{trimmed_from, trimmed}
use Rattle.sw_parse_layout.proofs.comments.trimmed.Given as goal

abbrev pub invariant-blanks : goal.invariant-blanks
invariant-blanks l = record {
  rest : trimmed_from (l.end - l.from) l.bytes l.end ≡ trimmed l.bytes l.from l.to;
  within : l.end ≤ l.to;
}

abbrev pub decreases-blanks : goal.decreases-blanks
decreases-blanks l = l.end
