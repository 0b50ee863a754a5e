-- What a reader answers that puts what it reads behind what was read before.
use Rattle.std.proofs.Common.{◌≡◌, ℕ, List, ◌++◌, sym, ◌∙◌, ap}
use Rattle.sw_parse_grammar.specs.Grammar.{Answer, Got, prepend, acted}
use Rattle.sw_parse_grammar.specs.Readers.{Fails}
use Rattle.sw_parse_grammar.specs.declared.ReadError.{ReadError}
use Rattle.sw_parse_grammar.proofs.Loops.{fails_prepend, fails_acted}

pub put_behind : {V : Type 0} (before u after : List V) (a : Answer V) (j : ℕ) → a ≡ Got u j → after ≡ before ++ u
    → prepend before a ≡ Got after j
put_behind before u after a j e more = ap (prepend before) e ∙ ap (λ x. Got x j) (sym more)

-- the same where it is made of a head and what stands behind it
pub made_behind : {V : Type 0} (h : ℕ → List V → List V) (before head u w after : List V) (a : Answer V) (j : ℕ)
    → a ≡ Got u j → h j (head ++ u) ≡ w → after ≡ before ++ w → prepend before (acted h (prepend head a)) ≡ Got after j
made_behind h before head u w after a j e made more =
    put_behind before w after (acted h (prepend head a)) j
    (ap (λ x. acted h (prepend head x)) e ∙ ap (λ x. Got x j) made) more

pub fails_made : {V : Type 0} (h : ℕ → List V → List V) (before head : List V) (e : ReadError) (a : Answer V)
    → Fails e a → Fails e (prepend before (acted h (prepend head a)))
fails_made h before head e a x =
    fails_prepend before e (acted h (prepend head a)) (fails_acted h e (prepend head a) (fails_prepend head e a x))
