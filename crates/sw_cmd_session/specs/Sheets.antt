-- What compiles rest on. This project's own rule.
use Rattle.std.specs.Prelude.{ℕ, List, Option, None}
use Rattle.sw_parse_file.specs.Files.{sheet_at}
use Rattle.sw_values.specs.declared.plain.Plain.{Plain}
use Rattle.sw_world.specs.Hosts.{HostState}
use Rattle.sw_world.specs.Body.{BodyOf}
use Rattle.sw_modules.specs.Outside.{Functions}
use Rattle.sw_modules.specs.Fresh.{Setting, setting_of}

-- functions of a host: what they answer, and what they are then
abbrev pub functions : (HostState → List ℕ → List Plain → Option Plain) → (HostState → List ℕ → List Plain → HostState)
    → Functions
functions answer after = record { answer = answer; after = after }

-- none at all
abbrev pub no_functions : Functions
no_functions = functions (λ state name args. None) (λ state name args. state)

-- compiles of sheets that may call these functions of a host
abbrev pub hosted : BodyOf → Functions → Setting
hosted body host = setting_of host.answer host.after sheet_at body

-- compiles of sheets without functions of a host
abbrev pub hostless : BodyOf → Setting
hostless body = hosted body no_functions
