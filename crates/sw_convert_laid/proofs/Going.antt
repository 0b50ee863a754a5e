-- The walk of the layout goes on from one state to another, and lays tokens on its way.
use Rattle.std.proofs.Common.{◌≡◌, ℕ, suc, ◌+◌, ◌<◌, ◌≤◌, List, [], ◌++◌, length, Option, None, Result, Ok, Err, refl, sym, ◌∙◌, ap, subst, arith}
use Rattle.std.specs.Prelude.{nat_lt}
use Rattle.std.proofs.lemmas.Bool.Decides.{nat_tests}
use Rattle.sw_tokens.specs.declared.token.Token.{Token}
use Rattle.sw_text_scan.proofs.Bounds.{if_true}
use Rattle.sw_parse_layout.specs.declared.laid.Laid.{Laid}
use Rattle.sw_parse_layout.specs.declared.state.State.{State}
use Rattle.sw_parse_layout.specs.declared.state.Found.{Found}
use Rattle.sw_parse_layout.specs.Laid.{nothing, behind}
use Rattle.sw_parse_layout.specs.Steps.{step}
use Rattle.sw_parse_layout.specs.Layout.{walk_on, walk, finished}
use Rattle.sw_parse_layout.proofs.Loops.{behind_twice, walk_past}

-- tokens of which none is refused
abbrev pub laid : List Token → Laid
laid tokens = record { tokens = tokens; refused = None }

nothing_behind : (r : Result Laid ℕ) → behind nothing r ≡ r
nothing_behind (Ok l) = refl
nothing_behind (Err k) = refl

module _ (bs : List ℕ) where
  -- some steps lead from a state to another
  pub record Goes (s : State) (tokens : List Token) (t : State) : Type 0 where
    pub count : ℕ
    pub goes : (n : ℕ) → walk bs (count + n) s ≡ behind (laid tokens) (walk bs n t)

  -- some steps lead to the end
  pub record Finishes (s : State) (tokens : List Token) : Type 0 where
    pub count : ℕ
    pub goes : (n : ℕ) → walk bs (count + n) s ≡ Ok (laid tokens)

  pub stays : (s : State) → Goes s [] s
  stays s = record {
    count = 0;
    goes = λ n. ap (λ (k : ℕ). walk bs k s) (let e : 0 + n ≡ n = omega arith in e) ∙ sym (nothing_behind (walk bs n s));
  }

  -- one after the other
  pub then_on : {s t u : State} {ts us : List Token} → Goes s ts t → Goes t us u → Goes s (ts ++ us) u
  then_on {s} {t} {u} {ts} {us} a b = record {
    count = a.count + b.count;
    goes = λ n.
        ap (λ (k : ℕ). walk bs k s) (let e : (a.count + b.count) + n ≡ a.count + (b.count + n) = omega arith in e)
        ∙ a.goes (b.count + n) ∙ ap (behind (laid ts)) (b.goes n)
        ∙ sym (behind_twice (laid ts) (laid us) (walk bs n u));
  }

  pub then_finishes : {s t : State} {ts us : List Token} → Goes s ts t → Finishes t us → Finishes s (ts ++ us)
  then_finishes {s} {t} {ts} {us} a b = record {
    count = a.count + b.count;
    goes = λ n.
        ap (λ (k : ℕ). walk bs k s) (let e : (a.count + b.count) + n ≡ a.count + (b.count + n) = omega arith in e)
        ∙ a.goes (b.count + n) ∙ ap (behind (laid ts)) (b.goes n);
  }

  -- one step
  pub stepped : (s : State) (f : Found) → s.at < length bs → step bs s ≡ Ok f → f.laid.refused ≡ None
      → Goes s f.laid.tokens f.state
  stepped s f l e r = record {
    count = 1;
    goes = λ n.
        ap (λ (k : ℕ). walk bs k s) (let e : 1 + n ≡ suc n = omega arith in e)
        ∙ if_true (nat_lt s.at (length bs)) _ (finished s) (grind (arith, nat_tests))
        ∙ ap (walk_on (walk bs n)) e
        ∙ ap (λ (o : Option ℕ). behind (record { tokens = f.laid.tokens; refused = o }) (walk bs n f.state)) r;
  }

  -- at the end of the text
  pub at_end : (s : State) (tokens : List Token) → length bs ≤ s.at → finished s ≡ Ok (laid tokens) → Finishes s tokens
  at_end s tokens l e = record {
    count = 0;
    goes = λ n. walk_past bs (0 + n) s l ∙ e;
  }

  -- the same from a state that is the same
  pub from_same : {s t u : State} {ts : List Token} → s ≡ t → Goes t ts u → Goes s ts u
  from_same {u = u} {ts = ts} e g = subst (λ (x : State). Goes x ts u) (sym e) g

  pub to_same : {s t u : State} {ts : List Token} → Goes s ts t → t ≡ u → Goes s ts u
  to_same {s = s} {ts = ts} g e = subst (λ (x : State). Goes s ts x) e g

  pub lays_same : {s t : State} {ts us : List Token} → ts ≡ us → Goes s ts t → Goes s us t
  lays_same {s = s} {t = t} e g = subst (λ (x : List Token). Goes s x t) e g

  pub finishes_so : {s : State} {ts us : List Token} → ts ≡ us → Finishes s ts → Finishes s us
  finishes_so {s = s} e f = subst (λ (x : List Token). Finishes s x) e f
