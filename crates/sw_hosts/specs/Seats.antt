-- What contracts see of the hosts that a table holds.
use Rattle.std.specs.Prelude.{ℕ, suc, List, [], ◌∷◌, map, bytes_eq, if◌then◌else◌}
use Rattle.sw_world.specs.Hosts.{HostFunction, HostState}
use Rattle.sw_hosts.specs.declared.seat.Seat.{Seat}

-- a host of this kind and state, under a name
abbrev pub seated : {F : Type 0} → (F → ℕ) → (F → List ℕ) → List ℕ → F → HostFunction
seated kind state name host = record { name = name; sort = kind host; numbers = state host }

-- the hosts in their order
abbrev pub functions : {F : Type 0} → (F → ℕ) → (F → List ℕ) → List (Seat F) → HostState
functions kind state seats = map (λ seat. seated kind state seat.name seat.host) seats

-- where the first with this stored name stands; the length where none does
abbrev pub place_in : {A : Type 0} → (A → List ℕ) → List A → List ℕ → ℕ
place_in name_of [] name = 0
place_in name_of (x ∷ xs) name = if bytes_eq (name_of x) name then 0 else suc (place_in name_of xs name)
