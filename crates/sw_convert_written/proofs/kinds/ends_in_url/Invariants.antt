use Rattle.std.proofs.Common.{◌≡◌, true, drop}
use Rattle.std.specs.Prelude.{◌||◌}
use Rattle.sw_convert_written.specs.Expressions.{ends_in_url_from}
use Rattle.sw_convert_written.proofs.kinds.ends_in_url.Given as goal

abbrev pub invariant-bytes : goal.invariant-bytes
invariant-bytes l = (l.url || ends_in_url_from l.begins (drop l.i l.name)) ≡ ends_in_url_from true l.name
