-- When an answer `Failed` may come: exactly where the object's own count of faults rose. This project's own rule.
use Rattle.std.specs.Prelude.{◌≡◌, ℕ, ◌+◌, ◌-◌, ◌^◌, ◌≤◌, min, Result, OnOk, OnErr, IsErrOf}

-- the count is as before: no call failed
abbrev pub NoFault : ℕ → ℕ → Type 0
NoFault before now = now ≡ before

-- the count rose by one, so one call failed and no other did; at the end of its type it stands still
abbrev pub Rose : ℕ → ℕ → Type 0
Rose before now = now ≡ min (before + 1) (2 ^ 64 - 1)

-- the count didn't fall; it is as before where the call went well, and rose where it failed
pub record HasCause {T E : Type 0} (before now : ℕ) (result : Result T E) : Type 0 where
  pub later : before ≤ now
  pub fine : OnOk result (NoFault before now)
  pub failed : OnErr result (Rose before now)

-- the count didn't fall; it rose where the call ended with this error, and is as before where it didn't
pub record Cause {T E : Type 0} (error : E) (before now : ℕ) (result : Result T E) : Type 0 where
  pub later : before ≤ now
  pub rose : IsErrOf result error → Rose before now
  pub fine : (IsErrOf result error → ⊥) → NoFault before now
