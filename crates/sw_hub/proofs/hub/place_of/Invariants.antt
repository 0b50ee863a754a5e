use Rattle.std.proofs.Common.{◌≡◌, ◌++◌, drop, take}
use Rattle.sw_hub.specs.Hubs.{first_of, without_first}
use Rattle.sw_hub.proofs.hub.place_of.Given as goal

abbrev pub invariant-seats : goal.invariant-seats
invariant-seats g l = record {
  seat : first_of (drop l.at l.seats) (λ seat. seat.number) l.number ≡ first_of l.seats (λ seat. seat.number) l.number;
  rest : take l.at l.seats ++ without_first (drop l.at l.seats) (λ seat. seat.number) l.number
      ≡ without_first l.seats (λ seat. seat.number) l.number;
}
