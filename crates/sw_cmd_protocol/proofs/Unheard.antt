-- Where nothing is told, nothing is heard.
use Rattle.std.proofs.Common.{◌≡◌, ℕ, List, [], ◌∷◌, ◌++◌, inl, inr, refl, sym, ap, ◌∙◌, subst, append_assoc}
use Rattle.sw_cmd_protocol.specs.declared.stop.Stop.{Stop}
use Rattle.sw_cmd_protocol.specs.declared.stop.Stop.TheVariants.{Ended, Wrong, CutOff, SourceFailed, SinkFailed, Memory, OutsideFailed, Over as Over_stop}
use Rattle.sw_cmd_protocol.specs.Protocol.{Protocol, Turn}
use Rattle.sw_cmd_protocol.specs.Transcript.{turns}
use Rattle.sw_cmd_protocol.specs.Heard.{told_in, Hearing, HearsAll, HearsButLast, HeardBy, TellsNothing}

told_append : {Held Reply : Type 0} (xs ys : List (Turn Held Reply)) → told_in (xs ++ ys) ≡ told_in xs ++ told_in ys
told_append [] ys = refl
told_append (x ∷ xs) ys = ap (λ t. x.told ++ t) (told_append xs ys) ∙ sym (append_assoc x.told (told_in xs) (told_in ys))

front_is_nothing : {A : Type 0} (xs ys : List A) → xs ++ ys ≡ [] → xs ≡ []
front_is_nothing [] ys e = refl
front_is_nothing (x ∷ xs) ys e = cc

both_nothing : {A : Type 0} (xs ys : List A) → xs ≡ [] → ys ≡ [] → xs ++ ys ≡ []
both_nothing xs ys a b = ap (λ t. t ++ ys) a ∙ b

module _ {Event Mark Held Reply State : Type 0} (p : Protocol Event Mark Held Reply) (none : TellsNothing p) (hears : Hearing Reply State) (before now : State) where
  nothing_told : (held : Held) (events : List Event) (marks : List Mark) → told_in (turns p held events marks) ≡ []
  unfolding turns
  nothing_told held events [] = refl
  nothing_told held [] (mark ∷ marks) = refl
  nothing_told held (event ∷ events) (mark ∷ marks) = both_nothing _ _ (none held event mark) (nothing_told (p.turn_of held event mark).held events marks)

  module _ (done : List (Turn Held Reply)) (n : told_in done ≡ []) where
    all : HearsAll hears (told_in done) before now → now ≡ before
    all h = subst (λ (told : List Reply). HearsAll hears told before now) n h

    but_last : HearsButLast hears done before now → now ≡ before
    but_last h =
        let few : told_in h.firsts ≡ [] = front_is_nothing (told_in h.firsts) (told_in (h.last ∷ [])) (sym (told_append h.firsts (h.last ∷ [])) ∙ sym (ap told_in h.order) ∙ n) in
        subst (λ (told : List Reply). HearsAll hears told before now) few h.heard

    by : (stop : Stop) (marks : List Mark) (out : List ℕ) → HeardBy p stop hears marks done out before now → now ≡ before
    by Ended marks out h = all h
    by Wrong marks out h = all h
    by CutOff marks out h = all h
    by SourceFailed marks out h = all h
    by SinkFailed marks out h = but_last h
    by Memory marks out (inl h) = all h.1
    by Memory marks out (inr h) = but_last h.1
    by OutsideFailed marks out h = but_last h
    by Over_stop marks out h = all h

  pub unheard : (stop : Stop) (held : Held) (events : List Event) (marks : List Mark) (out : List ℕ) → HeardBy p stop hears marks (turns p held events marks) out before now → now ≡ before
  unheard stop held events marks out h = by (turns p held events marks) (nothing_told held events marks) stop marks out h
