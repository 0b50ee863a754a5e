use Rattle.std.proofs.Common.{◌≡◌, drop, find}
use Rattle.sw_modules.specs.Names.{brings}
use Rattle.sw_modules.proofs.live.Live.first_star.Given as goal

abbrev pub invariant-stars : goal.invariant-stars
invariant-stars l =
    find (brings l.self l.kind l.name) l.stars ≡ find (brings l.self l.kind l.name) (drop l.path-index l.stars)
