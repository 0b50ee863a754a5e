-- A vector of which an item was replaced by itself.
use Rattle.std.proofs.Common.{◌≡◌, ℕ, List, length, set, get_or, sym, ◌∙◌, ap, subst}
use Rattle.std.specs.Vec.{with_item}
use Rattle.std.proofs.Math.Nat.{ℕ_set}
use Rattle.std.proofs.lemmas.List.{set-get_or}
use Rattle.std.specs.declared.vec.Vec.{Vec}

module _ {X Z : Type 0} (v : Vec X Z) where
  base : (ok : v.len ≡ length v.items) → record { ptr = v.ptr; len = v.len; cap = v.cap; alloc = v.alloc; items = v.items; ok = (ok, v.ok.1); small = v.small } ≡ v
  base ok = ap (λ (q : v.len ≡ length v.items). record { ptr = v.ptr; len = v.len; cap = v.cap; alloc = v.alloc; items = v.items; ok = (q, v.ok.1); small = v.small }) (ℕ_set v.len (length v.items) ok v.ok.0)

  of_items : (xs : List X) → xs ≡ v.items → (ok : v.len ≡ length xs) → record { ptr = v.ptr; len = v.len; cap = v.cap; alloc = v.alloc; items = xs; ok = (ok, v.ok.1); small = v.small } ≡ v
  of_items xs e =
      let P : List X → Type 0 = λ ys. (ok : v.len ≡ length ys) → record { ptr = v.ptr; len = v.len; cap = v.cap; alloc = v.alloc; items = ys; ok = (ok, v.ok.1); small = v.small } ≡ v in
      subst P (sym e) base

  pub same_item : (i : ℕ) (x y : X) → x ≡ get_or v.items i x → y ≡ x → with_item v i y ≡ v
  same_item i x y is e = of_items (set v.items i y) (ap (λ (z : X). set v.items i z) (e ∙ is) ∙ set-get_or v.items i x) _
