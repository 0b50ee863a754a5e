-- What comes of one who is attached when replies are told one after the other.
use Rattle.std.proofs.Common.{◌≡◌, ◌<◌, Bool, true, false, List, [], ◌∷◌, length, get_or, Option, None, Some, refl, sym, ap, ◌∙◌, subst, append_assoc, arith}
use Rattle.std.specs.Prelude.{slice_get}
use Rattle.std.proofs.lemmas.List.{append-nil}
use Rattle.std.proofs.lemmas.Option.{slice_get_within, slice_get-get_or}
use Rattle.sw_record.specs.declared.reply.Reply.{Reply}
use Rattle.sw_io.specs.Causes.{Rose}
use Rattle.sw_cmd_protocol.specs.Heard.{HearsAll}
use Rattle.sw_hub.specs.Hearing.{with_reply}
use Rattle.sw_hub.specs.Hubs.{Known, HasHeard, FallsSilent, Called, Told, Each, Tells, Attached, HubTells, AllAttend, with_all, counted_all, Attended}

none_more : (heard : Option (List Reply)) → heard ≡ with_all [] heard
none_more None = refl
none_more (Some replies) = ap (λ (x : List Reply). Some x) (sym (append-nil replies))

one_more : (reply : Reply) (replies : List Reply) (heard : Option (List Reply)) → with_all replies (with_reply reply heard) ≡ with_all (reply ∷ replies) heard
one_more reply replies None = refl
one_more reply replies (Some heard) = ap (λ (x : List Reply). Some x) (append_assoc heard (reply ∷ []) replies)

-- nothing was told
stays : (b c : Bool) (x : Known) → b ≡ c → Attended b c [] x x
stays true c x e = refl
stays false false x e = (refl, record { heard = none_more x.heard; count = refl; faults = refl })
stays false true x e = cc

-- one reply, and then the others
module _ (reply : Reply) (replies : List Reply) (old mid new : Known) where
  heard_first : (c : Bool) → (mid.number ≡ old.number) × HasHeard reply old mid → Attended false c replies mid new → Attended false c (reply ∷ replies) old new
  heard_first false one more = (
    more.0 ∙ one.0,
    record {
      heard = more.1.heard ∙ ap (with_all replies) one.1.heard ∙ one_more reply replies old.heard;
      count = more.1.count ∙ ap (counted_all replies) one.1.count;
      faults = more.1.faults ∙ one.1.faults;
    },
  )
  heard_first true one more = (
    more.0 ∙ one.0,
    record {
      front = reply ∷ more.1.front;
      back = more.1.back;
      order = ap (λ (x : List Reply). reply ∷ x) more.1.order;
      heard = more.1.heard ∙ ap (with_all more.1.front) one.1.heard ∙ one_more reply more.1.front old.heard;
      count = more.1.count ∙ ap (counted_all more.1.front) one.1.count;
      cause = omega (arith, one.1.faults, more.1.cause);
    },
  )

  silent_first : (c : Bool) → (mid.number ≡ old.number) × FallsSilent old mid → new ≡ mid → new.silent ≡ c → mid.silent ≡ true → Attended false c (reply ∷ replies) old new
  silent_first false one same s t = cc
  silent_first true one same s t = (
    ap (λ (x : Known). x.number) same ∙ one.0,
    record {
      front = [];
      back = reply ∷ replies;
      order = refl;
      heard = ap (λ (x : Known). x.heard) same ∙ one.1.heard ∙ none_more old.heard;
      count = ap (λ (x : Known). x.count) same ∙ one.1.count;
      cause = subst (λ (x : Known). Rose old.faults x.faults) (sym same) one.1.cause;
    },
  )

  by_both : (b c : Bool) → mid.silent ≡ b → new.silent ≡ c → (mid.number ≡ old.number) × Called b reply old mid → Attended b c replies mid new → Attended false c (reply ∷ replies) old new
  by_both false c m n one more = heard_first c one more
  by_both true c m n one more = silent_first c one more n m

  was_silent : (b c : Bool) → old.silent ≡ true → mid.silent ≡ b → mid ≡ old → Attended b c replies mid new → new ≡ old
  was_silent true c o m e more = more ∙ e
  was_silent false c o m e more = cc

  by_all : (a : Bool) → old.silent ≡ a → Told a reply old mid → Attended mid.silent new.silent replies mid new → Attended a new.silent (reply ∷ replies) old new
  by_all true o t more = was_silent mid.silent new.silent o refl t more
  by_all false o t more = by_both mid.silent new.silent refl refl t more

same_seat : (old new : Known) → Some old ≡ Some new → old ≡ new
same_seat old new e = cc

nothing_told : (before now : List Known) → now ≡ before → Each before now (λ old new. Attended old.silent new.silent [] old new)
nothing_told before now e = record {
  count = ap length e;
  each = λ k old new x y.
      let one : old ≡ new = same_seat old new (sym x ∙ ap (λ (xs : List Known). slice_get xs k) (sym e) ∙ y) in
      subst (λ (z : Known). Attended old.silent z.silent [] old z) one (stays old.silent old.silent old refl);
}

one_told : (reply : Reply) (replies : List Reply) (before between now : List Known) → Tells reply before between
    → Each between now (λ old new. Attended old.silent new.silent replies old new) → Each before now (λ old new. Attended old.silent new.silent (reply ∷ replies) old new)
one_told reply replies before between now first rest = record {
  count = rest.count ∙ first.count;
  each = λ k old new x y.
      let inside = slice_get_within before k old x in
      let within : k < length between = omega (arith, inside, first.count) in
      let mid = get_or between k old in
      let there = slice_get-get_or between k old within in
      by_all reply replies old mid new old.silent refl (first.each k old mid x there) (rest.each k mid new there y);
}

pub all_attend : (replies : List Reply) (before now : Attached) → HearsAll HubTells replies before now → AllAttend replies before now
all_attend [] before now e = record {
  each = nothing_told before.seats now.seats (ap (λ (x : Attached). x.seats) e);
  given = ap (λ (x : Attached). x.given) e;
}
all_attend (reply ∷ replies) before now (between, first, rest) =
    let more = all_attend replies between now rest in
    record { each = one_told reply replies before.seats between.seats now.seats first.told more.each; given = more.given ∙ first.given }
