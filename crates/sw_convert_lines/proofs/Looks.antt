-- What the tokens of a text tell, one after another.
use Rattle.std.proofs.Common.{◌≡◌, ℕ, suc, ◌+◌, ◌≤◌, Bool, List, drop, length, slice_get, Some, ◌∙◌, ap, arith}
use Rattle.std.proofs.lemmas.List.{drop_all}
use Rattle.sw_tokens.specs.declared.token.Token.{Token}
use Rattle.sw_tokens.proofs.Seams.{drop_at_seam}
use Rattle.sw_convert_lines.specs.declared.held.Look.{Look}
use Rattle.sw_convert_lines.specs.Held.{look_with, look_over}

pub look_next : (custom : Bool) (text : List ℕ) (look : Look) (ts : List Token) (i : ℕ) (t : Token) → slice_get ts i ≡ Some t
    → look_over custom text look (drop i ts) ≡ look_over custom text (look_with custom text look t) (drop (i + 1) ts)
look_next custom text look ts i t is =
    let e : suc i ≡ i + 1 = omega arith in
    ap (λ (us : List Token). look_over custom text look us) (drop_at_seam ts i t is)
    ∙ ap (λ (j : ℕ). look_over custom text (look_with custom text look t) (drop j ts)) e

pub look_end : (custom : Bool) (text : List ℕ) (look : Look) (ts : List Token) (i : ℕ) → length ts ≤ i
    → look_over custom text look (drop i ts) ≡ look
look_end custom text look ts i le = ap (λ (us : List Token). look_over custom text look us) (drop_all i ts le)
