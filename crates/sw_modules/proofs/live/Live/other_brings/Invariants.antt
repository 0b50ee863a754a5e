use Rattle.std.proofs.Common.{◌≡◌, drop}
use Rattle.std.specs.List.{list_any}
use Rattle.sw_modules.specs.Names.{brings_other}
use Rattle.sw_modules.proofs.live.Live.other_brings.Given as goal

abbrev pub invariant-stars : goal.invariant-stars
invariant-stars l =
    list_any (brings_other l.self l.kind l.name l.path) l.stars
    ≡ list_any (brings_other l.self l.kind l.name l.path) (drop l.other-index l.stars)
