-- A box whose value is as it was is as it was.
use Rattle.std.proofs.Common.{◌≡◌, ◌∙◌, ap, Result, Ok, Err}
use Rattle.std.specs.Prelude.{OnErr}

pub whole : {I B : Type 0} {V : I → Type 0} (mk : (i : I) → V i → B) (i j : I) (x now : V i) (y : V j) → ◌≡◌ {A = (k : I) × V k} (i, x) (j, y) → now ≡ x → mk i now ≡ mk j y
whole {I} {B} {V} mk i j x now y e h = ap (λ (v : V i). mk i v) h ∙ ap (λ (q : (k : I) × V k). mk q.0 q.1) e

pub on_err : {T E : Type 0} {P Q : Type 0} (r : Result T E) → (P → Q) → OnErr r P → OnErr r Q
on_err (Ok x) f h = tt
on_err (Err e) f h = f h

pub at_error : {T E : Type 0} {P : Type 0} (r : Result T E) → P → OnErr r P
at_error (Ok x) p = tt
at_error (Err e) p = p
