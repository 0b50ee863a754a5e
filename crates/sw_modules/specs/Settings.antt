-- What compiles rest on (this project's own rule).
use Rattle.std.specs.Prelude.{ℕ, List, None, Result}
use Rattle.sw_text.specs.declared.fault.Fault.{Fault}
use Rattle.sw_tree.specs.declared.sheet.Sheet.{Sheet}
use Rattle.sw_world.specs.Body.{BodyOf}
use Rattle.sw_modules.specs.Fresh.{Setting, setting_of}

-- without functions of a host
abbrev pub hostless : (List ℕ → List ℕ → Result Sheet Fault) → BodyOf → Setting
hostless reads body = setting_of (λ state name args. None) (λ state name args. state) reads body
