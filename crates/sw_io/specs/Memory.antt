-- Sources and sinks in memory, and which of their calls fail. This project's own rule.
use Rattle.std.specs.Prelude.{◌≡◌, ℕ, ◌+◌, ◌-◌, ◌^◌, min, List, [], Result, IsErr, OnOk, OnErr, ◌⊎◌, ◌↔◌}
use Rattle.std.specs.List.{Contains}
use Rattle.sw_io.specs.Causes.{Rose}

-- the bytes that are left, how many a call gives at most, the numbers of the calls that fail, the calls so far and the
-- faults so far
pub record Giver : Type 0 where
  pub left : List ℕ
  pub most : ℕ
  pub fail : List ℕ
  pub calls : ℕ
  pub faults : ℕ

-- a source before its first call
abbrev pub giver : List ℕ → ℕ → List ℕ → Giver
giver bytes most fail = record { left = bytes; most = most; fail = fail; calls = 0; faults = 0 }

-- the bytes that were written, how many a call takes at most, the numbers of the calls that fail, the calls so far, the
-- faults so far, and the faults for want of memory so far
pub record Taker : Type 0 where
  pub bytes : List ℕ
  pub most : ℕ
  pub fail : List ℕ
  pub calls : ℕ
  pub faults : ℕ
  pub starved : ℕ

-- a sink before its first call
abbrev pub taker : ℕ → List ℕ → Taker
taker most fail = record { bytes = []; most = most; fail = fail; calls = 0; faults = 0; starved = 0 }

-- the number of the call that comes; past the end of its type it stands still, and no such call is listed
abbrev pub call_after : ℕ → ℕ
call_after calls = min (calls + 1) (2 ^ 64 - 1)

-- one call more was made of the same kind, and it failed exactly where its number is listed
pub record FailsAsListed {T E : Type 0} (before now : Giver) (result : Result T E) : Type 0 where
  pub list : now.fail ≡ before.fail
  pub most : now.most ≡ before.most
  pub count : now.calls ≡ call_after before.calls
  pub exact : IsErr result ↔ Contains before.fail (call_after before.calls)

-- one call more was made of the same kind; it failed where its number is listed, and else only where no memory was
-- found
pub record FailsAsListedOrStarved {T E : Type 0} (before now : Taker) (result : Result T E) : Type 0 where
  pub list : now.fail ≡ before.fail
  pub most : now.most ≡ before.most
  pub count : now.calls ≡ call_after before.calls
  pub listed : Contains before.fail (call_after before.calls) → IsErr result
  pub failed : OnErr result (Contains before.fail (call_after before.calls) ⊎ Rose before.starved now.starved)
  pub fed : OnOk result (now.starved ≡ before.starved)
