use Rattle.std.proofs.Common.{◌≡◌, take, filter}
use Rattle.std.specs.Option.{option_copied}
use Rattle.sw_modules.specs.Noted.{is_kept}
use Rattle.sw_modules.proofs.holders.kept.Given as goal

abbrev pub invariant-paths : goal.invariant-paths
invariant-paths l = l.few ≡ filter (is_kept (option_copied l.holding)) (take l.path-index l.paths)
