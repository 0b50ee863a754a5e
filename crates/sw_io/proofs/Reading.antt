-- One read after another.
use Rattle.std.proofs.Common.{◌≡◌, ℕ, List, [], ◌∷◌, ◌++◌, length, take, drop, None, Some, append_assoc, sym, ap, ◌∙◌, refl, subst, arith}
use Rattle.std.specs.declared.option.Option.{Option}
use Rattle.std.specs.Io.KnownBytes.{Consumes}
use Rattle.std.proofs.lemmas.List.{append-nil, take-append-drop}
use Rattle.sw_io.specs.Reads.{Reads}

pub consumes_none : (o : Option (List ℕ)) → Consumes o o []
consumes_none None = tt
consumes_none (Some xs) = refl

pub consumes_on : (a b c : Option (List ℕ)) (x y : List ℕ) → Consumes a b x → Consumes b c y → Consumes a c (x ++ y)
consumes_on None b c x y p q = tt
consumes_on (Some a) None c x y p q = absurd p
consumes_on (Some a) (Some b) None x y p q = absurd q
consumes_on (Some a) (Some b) (Some c) x y p q = p ∙ ap (λ t. x ++ t) q ∙ sym (append_assoc x y c)

pub reads_none : (a : List ℕ) (l : Option (List ℕ)) → Reads a l [] a l
reads_none a l = record { given = []; source = consumes_none l; bytes = append-nil a }

pub reads_on : (a : List ℕ) (l : Option (List ℕ)) (u b : List ℕ) (m : Option (List ℕ)) (v c : List ℕ) (n : Option (List ℕ))
    → Reads a l u b m → Reads b m v c n → Reads a l (u ++ v) c n
reads_on a l u b m v c n p q = record {
  given = p.given ++ q.given;
  source = consumes_on l m n p.given q.given p.source q.source;
  bytes = sym (append_assoc a p.given q.given) ∙ ap (λ t. t ++ q.given) p.bytes ∙ append_assoc u b q.given
      ∙ ap (λ t. u ++ t) q.bytes ∙ sym (append_assoc u v c);
}

-- bytes ahead are used
pub reads_ahead : (v c : List ℕ) (l : Option (List ℕ)) → Reads (v ++ c) l v c l
reads_ahead v c l = record { given = []; source = consumes_none l; bytes = append-nil (v ++ c) }

-- a read, and then the use of the first n bytes ahead
pub reads_take : (a : List ℕ) (l : Option (List ℕ)) (u b : List ℕ) (m : Option (List ℕ)) (n : ℕ)
    → Reads a l u b m → Reads a l (u ++ take n b) (drop n b) m
reads_take a l u b m n p = record {
  given = p.given;
  source = p.source;
  bytes = p.bytes ∙ ap (λ t. u ++ t) (sym (take-append-drop n b)) ∙ sym (append_assoc u (take n b) (drop n b));
}

-- a read, and then one that used nothing
pub reads_then_none : (a : List ℕ) (l : Option (List ℕ)) (u b : List ℕ) (m : Option (List ℕ)) (c : List ℕ) (n : Option (List ℕ))
    → Reads a l u b m → Reads b m [] c n → Reads a l u c n
reads_then_none a l u b m c n p q = subst (λ (t : List ℕ). Reads a l t c n) (append-nil u) (reads_on a l u b m [] c n p q)

-- a fill, and then the use of the first k bytes ahead
pub reads_then_take : (a : List ℕ) (l : Option (List ℕ)) (u b : List ℕ) (m : Option (List ℕ)) (c : List ℕ) (n : Option (List ℕ)) (k : ℕ)
    → Reads a l u b m → Reads b m [] c n → Reads a l (u ++ take k c) (drop k c) n
reads_then_take a l u b m c n k p q = reads_take a l u c n k (reads_then_none a l u b m c n p q)

pub empty : (xs : List ℕ) → length xs ≡ 0 → xs ≡ []
empty [] e = refl
empty (x ∷ xs) e = absurd (omega arith)
