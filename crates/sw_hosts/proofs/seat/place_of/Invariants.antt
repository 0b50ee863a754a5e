use Rattle.std.proofs.Common.{◌≡◌, ◌+◌, drop}
use Rattle.sw_text.specs.Names.{dashed}
use Rattle.sw_hosts.specs.Seats.{place_in}
use Rattle.sw_hosts.proofs.seat.place_of.Given as goal

abbrev pub invariant-seats : goal.invariant-seats
invariant-seats g l =
    l.at + place_in (λ seat. seat.name) (drop l.at l.seats) (dashed l.name)
    ≡ place_in (λ seat. seat.name) l.seats (dashed l.name)
