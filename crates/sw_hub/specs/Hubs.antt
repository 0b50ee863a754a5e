-- Who is attached to a hub, and who has heard a reply. This project's own rule.
use Rattle.std.specs.Prelude.{◌≡◌, ℕ, List, [], ◌∷◌, ◌++◌, length, Option, Some, None, option_map, slice_get, Bool, true, false, ◌==◌, if◌then◌else◌}
use Rattle.sw_record.specs.declared.reply.Reply.{Reply}
use Rattle.sw_io.specs.Causes.{NoFault, Rose}
use Rattle.sw_hub.specs.Hearing.{with_reply, counted}

-- what is known of a reporter: the number under which it is attached, whether it is silent, the replies that it has
-- heard, how many they are, and its count of faults
pub record Known : Type 0 where
  pub number : ℕ
  pub silent : Bool
  pub heard : Option (List Reply)
  pub count : Option ℕ
  pub faults : ℕ

-- a reporter under its number, of which these are told
abbrev pub known : {Reporter : Type 0} → (Reporter → Option (List Reply)) → (Reporter → Option ℕ) → (Reporter → ℕ) → ℕ
    → Bool → Reporter → Known
known heard count faults number silent reporter = record {
  number = number;
  silent = silent;
  heard = heard reporter;
  count = count reporter;
  faults = faults reporter;
}

-- it was called and has heard the reply without a fault, or its own count of faults rose by this one, and it is as
-- before but silent
pub record HasHeard (reply : Reply) (before now : Known) : Type 0 where
  pub heard : now.heard ≡ with_reply reply before.heard
  pub count : now.count ≡ counted before.count
  pub faults : NoFault before.faults now.faults

pub record FallsSilent (before now : Known) : Type 0 where
  pub heard : now.heard ≡ before.heard
  pub count : now.count ≡ before.count
  pub cause : Rose before.faults now.faults

abbrev pub Called : Bool → Reply → Known → Known → Type 0
Called false reply before now = HasHeard reply before now
Called true reply before now = FallsSilent before now

-- one that was silent isn't called; any other hears the reply and goes on hearing, or falls silent
abbrev pub Told : Bool → Reply → Known → Known → Type 0
Told true reply before now = now ≡ before
Told false reply before now = (now.number ≡ before.number) × Called now.silent reply before now

-- the first of these with a number
abbrev pub first_of : {A : Type 0} → List A → (A → ℕ) → ℕ → Option A
first_of [] f number = None
first_of (x ∷ xs) f number = if f x == number then Some x else first_of xs f number

abbrev pub without_first : {A : Type 0} → List A → (A → ℕ) → ℕ → List A
without_first [] f number = []
without_first (x ∷ xs) f number = if f x == number then xs else x ∷ without_first xs f number

-- the same as many, and so is each to the one in its place
pub record Each {A : Type 0} (before now : List A) (is : A → A → Type 0) : Type 0 where
  pub count : length now ≡ length before
  pub each : (k : ℕ) (old new : A) → slice_get before k ≡ Some old → slice_get now k ≡ Some new → is old new

-- each of those who are attached is told of a reply
abbrev pub Tells : Reply → List Known → List Known → Type 0
Tells reply before now = Each before now (λ old new. Told old.silent reply old new)

-- a hub: those who are attached, and how many numbers were given
pub record Attached : Type 0 where
  pub seats : List Known
  pub given : ℕ

-- each of those who are attached is told of a reply, and no number is given
pub record HubTells (reply : Reply) (before now : Attached) : Type 0 where
  pub told : Tells reply before.seats now.seats
  pub given : now.given ≡ before.given

-- these replies, behind those that were heard before, where they are told
abbrev pub with_all : List Reply → Option (List Reply) → Option (List Reply)
with_all replies = option_map (λ (heard : List Reply). heard ++ replies)

-- so many more, where their number is told
abbrev pub counted_all : List Reply → Option ℕ → Option ℕ
counted_all [] count = count
counted_all (reply ∷ replies) count = counted_all replies (counted count)

-- it heard all of these replies without a fault
pub record HeardAll (replies : List Reply) (before now : Known) : Type 0 where
  pub heard : now.heard ≡ with_all replies before.heard
  pub count : now.count ≡ counted_all replies before.count
  pub faults : NoFault before.faults now.faults

-- it heard the first of these replies, until it failed once; it wasn't called again
pub record FellSilent (replies : List Reply) (before now : Known) : Type 0 where
  pub front : List Reply
  pub back : List Reply
  pub order : replies ≡ front ++ back
  pub heard : now.heard ≡ with_all front before.heard
  pub count : now.count ≡ counted_all front before.count
  pub cause : Rose before.faults now.faults

-- what came of one that is attached, by whether it was silent before and is now
abbrev pub Attended : Bool → Bool → List Reply → Known → Known → Type 0
Attended true silent replies before now = now ≡ before
Attended false false replies before now = (now.number ≡ before.number) × HeardAll replies before now
Attended false true replies before now = (now.number ≡ before.number) × FellSilent replies before now

-- what came of each who is attached; no number was given
pub record AllAttend (replies : List Reply) (before now : Attached) : Type 0 where
  pub each : Each before.seats now.seats (λ old new. Attended old.silent new.silent replies old new)
  pub given : now.given ≡ before.given
