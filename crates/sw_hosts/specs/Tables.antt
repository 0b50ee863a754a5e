-- A table of host functions, as the list of them in order of attaching. A name is stored with `-` for each `_`, and is
-- looked for so.
use Rattle.std.specs.Prelude.{ℕ, List, [], ◌∷◌, bytes_eq, Bool, not, if◌then◌else◌, Option, Some, None, option_map}
use Rattle.std.specs.Option.{is_some}
use Rattle.sw_text.specs.Names.{dashed}
use Rattle.sw_values.specs.declared.plain.Plain.{Plain}
use Rattle.sw_world.specs.Hosts.{HostFunction, HostState}
use Rattle.sw_hosts.specs.declared.refusal.Why.{Why}
use Rattle.sw_hosts.specs.declared.refusal.Why.TheVariants.{BadName, Taken}
use Rattle.sw_hosts.specs.Kinds.{Row, host_row}
use Rattle.sw_hosts.specs.Names.{is_name}

-- the first with this stored name
abbrev pub stored : HostState → List ℕ → Option HostFunction
stored [] name = None
stored (host ∷ hosts) name = if bytes_eq host.name name then Some host else stored hosts name

-- the first with this stored name is taken out
abbrev pub without : HostState → List ℕ → HostState
without [] name = []
without (host ∷ hosts) name = if bytes_eq host.name name then hosts else host ∷ without hosts name

-- the first with this stored name has other numbers
abbrev pub with_numbers : HostState → List ℕ → List ℕ → HostState
with_numbers [] name numbers = []
with_numbers (host ∷ hosts) name numbers =
    if bytes_eq host.name name then record { name = host.name; sort = host.sort; numbers = numbers } ∷ hosts
    else host ∷ with_numbers hosts name numbers

-- the host function that is attached under a name
abbrev pub attached : HostState → List ℕ → Option HostFunction
attached hosts name = stored hosts (dashed name)

-- what forbids a name to a further host: that it is none, or has a host
abbrev pub refusal : HostState → List ℕ → Option Why
refusal hosts name =
    if not (is_name name) then Some BadName
    else if is_some (attached hosts name) then Some Taken
    else None

abbrev pub row_of : HostFunction → List Plain → Row
row_of host args = host_row host.sort host.numbers args

-- a call by name: the value of the function that is attached
abbrev pub answer : HostState → List ℕ → List Plain → Option Plain
answer hosts name args = option_map (λ host. (row_of host args).value) (attached hosts name)

-- and that function alone has its next state
abbrev pub after_by : Option HostFunction → HostState → List ℕ → List Plain → HostState
after_by None hosts name args = hosts
after_by (Some host) hosts name args = with_numbers hosts (dashed name) (row_of host args).next

abbrev pub after : HostState → List ℕ → List Plain → HostState
after hosts name args = after_by (attached hosts name) hosts name args
