-- What a call leaves of a count of faults, by how it ended.
use Rattle.std.proofs.Common.{◌≡◌, ◌≢◌, ℕ, ◌≤◌, Ok, Err, IfErr, refl, ap, subst, arith}
use Rattle.std.specs.Prelude.{IsErrOf}
use Rattle.std.specs.declared.result.Result.{Result}
use Rattle.sw_io.specs.Causes.{NoFault, Rose, Cause}

module _ {T E : Type 0} (error : E) (before now : ℕ) where
  pub went_well : (x : T) → NoFault before now → Cause error before now (Ok x)
  went_well x e = record { later = omega (arith, e); rose = λ bad. cc; fine = λ _. e }

  pub failed_so : before ≤ now → Rose before now → Cause {T = T} error before now (Err error)
  failed_so le r = record { later = le; rose = λ _. r; fine = λ n. absurd (n refl) }

  pub failed_else : (other : E) → other ≢ error → NoFault before now → Cause {T = T} error before now (Err other)
  failed_else other n e = record { later = omega (arith, e); rose = λ bad. absurd (n cc); fine = λ _. e }

  -- no call failed before
  pub after_none : (first : ℕ) (r : Result T E) → NoFault first before → Cause error before now r → Cause error first now r
  after_none first r e c = subst (λ (n : ℕ). Cause error n now r) e c

  pub fine_ok : (x : T) → Cause error before now (Ok x) → NoFault before now
  fine_ok x c = c.fine (λ bad. cc)

  pub fine_else : (other : E) → other ≢ error → Cause {T = T} error before now (Err other) → NoFault before now
  fine_else other n c = c.fine (λ bad. n cc)

  -- the call never ends with this error
  pub spared : (r : Result T E) → IfErr r (λ e. e ≢ error) → NoFault before now → Cause error before now r
  spared (Ok x) n e = went_well x e
  spared (Err other) n e = failed_else other n e

inner : {T E : Type 0} (error other : E) → IsErrOf {T = T} (Err other) error → other ≡ error
inner error other e = cc

-- the same error, of a call with another value
pub same_cause : {T U E : Type 0} (error : E) (before now : ℕ) (other : E) → Cause {T = T} error before now (Err other) → Cause {T = U} error before now (Err other)
same_cause error before now other c = record { later = c.later; rose = λ e. c.rose (ap Err (inner error other e)); fine = λ n. c.fine (λ e. n (ap Err (inner error other e))) }
