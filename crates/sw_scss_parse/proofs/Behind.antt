-- What a reader answers that puts what it reads behind what was read before.
use Rattle.std.proofs.Common.{◌≡◌, ℕ, true, List, [], ◌++◌, ap, ◌∙◌, sym, subst, append-nil}
use Rattle.sw_parse_grammar.specs.Grammar.{Grammar, Text, Answer, Got, Unexpected, TooDeep, many, first, member, decided, prepend}
use Rattle.sw_parse_grammar.specs.Readers.{parse, Fails}
use Rattle.sw_parse_grammar.specs.declared.ReadError.{ReadError}
use Rattle.sw_parse_grammar.specs.declared.ReadError.TheVariants as ends
use Rattle.sw_parse_grammar.proofs.Loops.{Fit, loop_step}

pub nothing_behind : {V : Type 0} (before : List V) (a : Answer V) (j : ℕ) → a ≡ Got [] j → prepend before a ≡ Got before j
nothing_behind before a j e = ap (prepend before) e ∙ ap (λ x. Got x j) (append-nil before)

abbrev parts_of : {V : Type 0} → Answer V → List V
parts_of (Got u j) = u
parts_of (Unexpected k) = []
parts_of (TooDeep k) = []

abbrev end_of : {V : Type 0} → Answer V → ℕ
end_of (Got u j) = j
end_of (Unexpected k) = k
end_of (TooDeep k) = k

-- what was read alone, of what was put behind the others
pub read_behind : {V : Type 0} (before after : List V) (a : Answer V) (j : ℕ) → prepend before a ≡ Got after j
    → (u : List V) × (a ≡ Got u j) × (before ++ u ≡ after)
read_behind before after (Got u k) j e = (u, ap (λ (i : ℕ). Got u i) (ap end_of e), ap parts_of e)
read_behind before after (Unexpected k) j e = absurd (cc)
read_behind before after (TooDeep k) j e = absurd (cc)

pub fails_alone : {V : Type 0} (before : List V) (e : ReadError) (a : Answer V) → Fails e (prepend before a) → Fails e a
fails_alone before ends.Memory a x = tt
fails_alone before (ends.Unexpected k) (Got u j) x = absurd (cc)
fails_alone before (ends.Unexpected k) (Unexpected m) x = x
fails_alone before (ends.Unexpected k) (TooDeep m) x = absurd (cc)
fails_alone before (ends.TooDeep k) (Got u j) x = absurd (cc)
fails_alone before (ends.TooDeep k) (Unexpected m) x = absurd (cc)
fails_alone before (ends.TooDeep k) (TooDeep m) x = x

-- A loop of many g, whose reader puts what it reads behind what was read from at to place.
module _ {V F : Type 0} {rules : F → Grammar V F} {t : Text V} {end : ℕ} (fit : Fit rules t end) (n : ℕ) where
  pub step_behind : (g : Grammar V F) → decided rules (many g) ≡ true → (acc before after : List V) (at place next : ℕ) → before ≡ acc
      → prepend acc (parse rules t end n (many g) place) ≡ parse rules t end n (many g) at → member (t.kind place) (first g) ≡ true
      → prepend before (parse rules t end n g place) ≡ Got after next
      → prepend after (parse rules t end n (many g) next) ≡ parse rules t end n (many g) at
  step_behind g ok acc before after at place next same inv m e =
      let alone = read_behind before after (parse rules t end n g place) next e in
      subst (λ (x : List V). prepend x (parse rules t end n (many g) next) ≡ parse rules t end n (many g) at) alone.2
      (loop_step fit n g ok before alone.0 at place next
      (subst (λ (x : List V). prepend x (parse rules t end n (many g) place) ≡ parse rules t end n (many g) at) (sym same) inv) m alone.1)
