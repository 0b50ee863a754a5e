-- What a reporter has heard. This project's own rule.
use Rattle.std.specs.Prelude.{◌≡◌, ℕ, ◌+◌, ◌-◌, ◌^◌, List, [], ◌∷◌, ◌++◌, Option, Some, None, option_map, Result, OnOk, OnErr, nat_lt, if◌then◌else◌}
use Rattle.sw_record.specs.declared.reply.Reply.{Reply}

-- one reply more, where the replies are told
abbrev pub with_reply : Reply → Option (List Reply) → Option (List Reply)
with_reply reply = option_map (λ (replies : List Reply). replies ++ reply ∷ [])

-- a reply that is heard stands behind the others; one that isn't leaves them
pub record Hears {T E : Type 0} (before now : Option (List Reply)) (reply : Reply) (result : Result T E) : Type 0 where
  pub told : OnOk result (now ≡ with_reply reply before)
  pub kept : OnErr result (now ≡ before)

-- one more; past the end of its type a number isn't told
abbrev pub counted : Option ℕ → Option ℕ
counted None = None
counted (Some n) = if nat_lt n (2 ^ 64 - 1) then Some (n + 1) else None

pub record Counts {T E : Type 0} (before now : Option ℕ) (result : Result T E) : Type 0 where
  pub told : OnOk result (now ≡ counted before)
  pub kept : OnErr result (now ≡ before)
