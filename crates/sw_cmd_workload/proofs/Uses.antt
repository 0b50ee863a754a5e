-- One part more.
use Rattle.std.proofs.Common.{◌≡◌, ℕ, ◌+◌, List, ◌++◌, refl, sym, ap, ◌∙◌, append_assoc, add-one}
use Rattle.std.proofs.lemmas.List.{append-nil}
use Rattle.sw_cmd_workload.specs.Texts.{use_text, uses}

-- some text, and no part behind it
pub no_uses : (text : List ℕ) → text ≡ text ++ uses 0
unfolding uses
no_uses text = sym (append-nil text)

uses_more : (place : ℕ) → uses (place + 1) ≡ uses place ++ use_text place
unfolding uses
uses_more place = rw add-one refl

-- and one part more
pub one_more : (front text part now : List ℕ) (place : ℕ) → text ≡ front ++ uses place → part ≡ use_text place → now ≡ text ++ part → now ≡ front ++ uses (place + 1)
one_more front text part now place t p n =
    n ∙ ap (λ x. x ++ part) t ∙ ap (λ x. (front ++ uses place) ++ x) p ∙ append_assoc front (uses place) (use_text place) ∙ ap (λ x. front ++ x) (sym (uses_more place))

-- and what stands behind them
pub all_uses : (front text back now : List ℕ) (place parts : ℕ) → place ≡ parts → text ≡ front ++ uses place → now ≡ text ++ back → now ≡ front ++ (uses parts ++ back)
all_uses front text back now place parts e t n =
    n ∙ ap (λ x. x ++ back) t ∙ append_assoc front (uses place) back ∙ ap (λ k. front ++ (uses k ++ back)) e
