-- Reporters in memory, and which of their calls fail. This project's own rule.
use Rattle.std.specs.Prelude.{◌≡◌, ℕ, ◌+◌, ◌-◌, ◌^◌, List, [], Result, IsErr, OnOk, OnErr, ◌⊎◌, Option, Some, None, Bool, true, false, ◌||◌, nat_le, if◌then◌else◌}
use Rattle.std.specs.List.{Contains}
use Rattle.sw_record.specs.declared.reply.Reply.{Reply}
use Rattle.sw_record.specs.declared.reply.Outcome.{Outcome}
use Rattle.sw_record.specs.declared.reply.Outcome.TheVariants.{Css, Error}
use Rattle.sw_io.specs.Causes.{Rose}
use Rattle.sw_io.specs.Memory.{call_after}

-- the replies that were heard, the numbers of the calls that fail, the calls so far, the faults so far, and the faults
-- for want of memory so far
pub record Keeper : Type 0 where
  pub replies : List Reply
  pub fail : List ℕ
  pub calls : ℕ
  pub faults : ℕ
  pub starved : ℕ

-- a reporter before its first call
abbrev pub keeper : List ℕ → Keeper
keeper fail = record { replies = []; fail = fail; calls = 0; faults = 0; starved = 0 }

abbrev pub with_replies : List Reply → Keeper → Keeper
with_replies replies before = record {
  replies = replies;
  fail = before.fail;
  calls = before.calls;
  faults = before.faults;
  starved = before.starved;
}

-- one call more was made; it failed where its number is listed, and else only where no memory was found
pub record HearsAsListed {T E : Type 0} (before now : Keeper) (result : Result T E) : Type 0 where
  pub list : now.fail ≡ before.fail
  pub count : now.calls ≡ call_after before.calls
  pub listed : Contains before.fail (call_after before.calls) → IsErr result
  pub failed : OnErr result (Contains before.fail (call_after before.calls) ⊎ Rose before.starved now.starved)
  pub fed : OnOk result (now.starved ≡ before.starved)

-- how many replies had CSS, and how many an error; and whether more came than can be told
pub record Tally : Type 0 where
  pub css : ℕ
  pub errors : ℕ
  pub full : Bool

abbrev pub tally : Tally
tally = record { css = 0; errors = 0; full = false }

-- how many there were
abbrev pub number_of : Tally → Option ℕ
number_of t = if t.full then None else Some (t.css + t.errors)

-- a reply with CSS, or with an error, is one more of these
abbrev tallied_by : Tally → Outcome → Tally
tallied_by t (Css bytes) = record { css = t.css + 1; errors = t.errors; full = false }
tallied_by t (Error fault) = record { css = t.css; errors = t.errors + 1; full = false }

abbrev pub tallied : Tally → Outcome → Tally
tallied t outcome =
    if t.full || nat_le (2 ^ 64 - 1) (t.css + t.errors)
    then record { css = t.css; errors = t.errors; full = true } else tallied_by t outcome
