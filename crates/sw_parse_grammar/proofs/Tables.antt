-- A table of productions as they are written, and one that one token decides, with the same texts.
use Rattle.std.proofs.Common.{◌≡◌, ℕ, zero, suc, List, ◌++◌, inl, inr, refl, sym, ◌∙◌, ap, Result, Ok, Err}
use Rattle.sw_parse_grammar.specs.Grammar.{Grammar, seq, alt, build, Text, DerivesIn, Derives, Begins, DerivesAny, BeginsAny}
use Rattle.sw_parse_grammar.specs.Readers.{ReadsForm}
use Rattle.sw_parse_grammar.specs.declared.ReadError.{ReadError}
use Rattle.sw_parse_grammar.specs.declared.ReadError.TheVariants as ends
use Rattle.sw_parse_grammar.specs.Same.{Same}
use Rattle.sw_parse_grammar.proofs.Reader.{derives_map, begins_map}

module _ {V F : Type 0} (t : Text V) (R : F → ℕ → ℕ → List V → Type 0) (R' : F → ℕ → ℕ → Type 0) where
  pub same_refl : (g : Grammar V F) → Same t R R' g g
  same_refl g = record { d = λ i j w x. x; d' = λ i j w x. x; b = λ i m x. x; b' = λ i m x. x }

  pub same_trans : (g h k : Grammar V F) → Same t R R' g h → Same t R R' h k → Same t R R' g k
  same_trans g h k x y = record { d = λ i j w z. y.d i j w (x.d i j w z); d' = λ i j w z. x.d' i j w (y.d' i j w z); b = λ i m z. y.b i m (x.b i m z); b' = λ i m z. x.b' i m (y.b' i m z) }

  pub same_seq : (g g' h h' : Grammar V F) → Same t R R' g g' → Same t R R' h h' → Same t R R' (seq g h) (seq g' h')
  same_seq g g' h h' x y = record {
    d = λ i j w (k, u, v, p, q, e). (k, u, v, x.d i k u p, y.d k j v q, e);
    d' = λ i j w (k, u, v, p, q, e). (k, u, v, x.d' i k u p, y.d' k j v q, e);
    b = λ i m z. elim z [ inl p ↦ inl (x.b i m p) | inr (k, u, p, q) ↦ inr (k, u, x.d i k u p, y.b k m q) ];
    b' = λ i m z. elim z [ inl p ↦ inl (x.b' i m p) | inr (k, u, p, q) ↦ inr (k, u, x.d' i k u p, y.b' k m q) ];
  }

  pub same_act : (f : ℕ → ℕ → List V → List V) (g h : Grammar V F) → Same t R R' g h → Same t R R' (build f g) (build f h)
  same_act f g h x = record { d = λ i j w (u, p, e). (u, x.d i j u p, e); d' = λ i j w (u, p, e). (u, x.d' i j u p, e); b = λ i m z. x.b i m z; b' = λ i m z. x.b' i m z }

  pub same_alt : (g g' h h' : Grammar V F) → Same t R R' g g' → Same t R R' h h' → Same t R R' (alt g h) (alt g' h')
  same_alt g g' h h' x y = record {
    d = λ i j w z. elim z [ inl p ↦ inl (x.d i j w p) | inr p ↦ inr (y.d i j w p) ];
    d' = λ i j w z. elim z [ inl p ↦ inl (x.d' i j w p) | inr p ↦ inr (y.d' i j w p) ];
    b = λ i m z. elim z [ inl p ↦ inl (x.b i m p) | inr p ↦ inr (y.b i m p) ];
    b' = λ i m z. elim z [ inl p ↦ inl (x.b' i m p) | inr p ↦ inr (y.b' i m p) ];
  }

  -- two functions, one after the other
  pub same_twice : (f h : ℕ → ℕ → List V → List V) (g : Grammar V F) → Same t R R' (build f (build h g)) (build (λ i j ws. f i j (h i j ws)) g)
  same_twice f h g = record {
    d = λ i j w (x, (u, p, e), e2). (u, p, e2 ∙ ap (f i j) e);
    d' = λ i j w (u, p, e). (h i j u, (u, p, refl), e);
    b = λ i m z. z;
    b' = λ i m z. z;
  }

  -- A row begins with a part that is itself a row: h makes the same of the flat row.
  pub same_front : (a b c : Grammar V F) (f h : ℕ → ℕ → List V → List V)
      → ((i k l j : ℕ) (u v w : List V) → DerivesIn t R a i k u → DerivesIn t R b k l v → DerivesIn t R c l j w → h i j (u ++ (v ++ w)) ≡ f i l (u ++ v) ++ w)
      → Same t R R' (seq (build f (seq a b)) c) (build h (seq a (seq b c)))
  same_front a b c f h hyp = record {
    d = λ i j w (l, x, y, (z, (k, u, v, da, db, e1), e2), dc, e3).
        (u ++ (v ++ y), (k, u, v ++ y, da, (l, v, y, db, dc, refl), refl), e3 ∙ ap (λ (q : List V). q ++ y) (e2 ∙ ap (f i l) e1) ∙ sym (hyp i k l j u v y da db dc));
    d' = λ i j w (x, (k, u, y, da, (l, v, z, db, dc, e1), e2), e3).
        (l, f i l (u ++ v), z, (u ++ v, (k, u, v, da, db, refl), refl), dc, e3 ∙ ap (h i j) (e2 ∙ ap (λ (q : List V). u ++ q) e1) ∙ hyp i k l j u v z da db dc);
    b = λ i m z. elim z [
      | inl (inl x) ↦ inl x
      | inl (inr (k, u, da, x)) ↦ inr (k, u, da, inl x)
      | inr (l, y, (z, (k, u, v, da, db, e1), e2), x) ↦ inr (k, u, da, inr (l, v, db, x))
    ];
    b' = λ i m z. elim z [
      | inl x ↦ inl (inl x)
      | inr (k, u, da, inl x) ↦ inl (inr (k, u, da, x))
      | inr (k, u, da, inr (l, v, db, x)) ↦ inr (l, f i l (u ++ v), (u ++ v, (k, u, v, da, db, refl), refl), x)
    ];
  }

  -- Two rows with the same front are read by one: h undoes the marks of the rests.
  pub same_factor : (a p q : Grammar V F) (f g h mark_p mark_q : ℕ → ℕ → List V → List V)
      → ((i k j : ℕ) (u v : List V) → DerivesIn t R a i k u → DerivesIn t R p k j v → h i j (u ++ mark_p k j v) ≡ f i j (u ++ v))
      → ((i k j : ℕ) (u v : List V) → DerivesIn t R a i k u → DerivesIn t R q k j v → h i j (u ++ mark_q k j v) ≡ g i j (u ++ v))
      → Same t R R' (alt (build f (seq a p)) (build g (seq a q))) (build h (seq a (alt (build mark_p p) (build mark_q q))))
  same_factor a p q f g h mark_p mark_q hp hq = record {
    d = λ i j w z. elim z [
      | inl (x, (k, u, v, da, dp, e), e2) ↦ (u ++ mark_p k j v, (k, u, mark_p k j v, da, inl (v, dp, refl), refl), e2 ∙ ap (f i j) e ∙ sym (hp i k j u v da dp))
      | inr (x, (k, u, v, da, dq, e), e2) ↦ (u ++ mark_q k j v, (k, u, mark_q k j v, da, inr (v, dq, refl), refl), e2 ∙ ap (g i j) e ∙ sym (hq i k j u v da dq))
    ];
    d' = λ i j w (x, (k, u, v, da, y, e), e2). elim y [
      | inl (v1, dp, e3) ↦ inl (u ++ v1, (k, u, v1, da, dp, refl), e2 ∙ ap (h i j) (e ∙ ap (λ (z : List V). u ++ z) e3) ∙ hp i k j u v1 da dp)
      | inr (v1, dq, e3) ↦ inr (u ++ v1, (k, u, v1, da, dq, refl), e2 ∙ ap (h i j) (e ∙ ap (λ (z : List V). u ++ z) e3) ∙ hq i k j u v1 da dq)
    ];
    b = λ i m z. elim z [
      | inl (inl x) ↦ inl x
      | inl (inr (k, u, da, x)) ↦ inr (k, u, da, inl x)
      | inr (inl x) ↦ inl x
      | inr (inr (k, u, da, x)) ↦ inr (k, u, da, inr x)
    ];
    b' = λ i m z. elim z [
      | inl x ↦ inl (inl x)
      | inr (k, u, da, inl x) ↦ inl (inr (k, u, da, x))
      | inr (k, u, da, inr x) ↦ inr (inr (k, u, da, x))
    ];
  }

-- Tables that are the same form by form have the same texts.
module _ {V F : Type 0} (t : Text V) (rules rules' : F → Grammar V F)
    (same : (f : F) (R : F → ℕ → ℕ → List V → Type 0) (R' : F → ℕ → ℕ → Type 0) → Same t R R' (rules f) (rules' f)) where
  pub record Both (n : ℕ) : Type 0 where
    pub d : (f : F) (i j : ℕ) (w : List V) → Derives rules t n f i j w → Derives rules' t n f i j w
    pub d' : (f : F) (i j : ℕ) (w : List V) → Derives rules' t n f i j w → Derives rules t n f i j w
    pub b : (f : F) (i m : ℕ) → Begins rules t n f i m → Begins rules' t n f i m
    pub b' : (f : F) (i m : ℕ) → Begins rules' t n f i m → Begins rules t n f i m

  pub tables : (n : ℕ) → Both n
  tables zero = record { d = λ f i j w x. x; d' = λ f i j w x. x; b = λ f i m x. x; b' = λ f i m x. x }
  tables (suc n) =
      let r = tables n in
      record {
        d = λ f i j w x. (same f (Derives rules' t n) (Begins rules' t n)).d i j w (derives_map t (Derives rules t n) (Derives rules' t n) (Begins rules t n) (Begins rules' t n) r.d r.b (rules f) i j w x);
        d' = λ f i j w x. (same f (Derives rules t n) (Begins rules t n)).d' i j w (derives_map t (Derives rules' t n) (Derives rules t n) (Begins rules' t n) (Begins rules t n) r.d' r.b' (rules' f) i j w x);
        b = λ f i m x. (same f (Derives rules' t n) (Begins rules' t n)).b i m (begins_map t (Derives rules t n) (Derives rules' t n) (Begins rules t n) (Begins rules' t n) r.d r.b (rules f) i m x);
        b' = λ f i m x. (same f (Derives rules t n) (Begins rules t n)).b' i m (begins_map t (Derives rules' t n) (Derives rules t n) (Begins rules' t n) (Begins rules t n) r.d' r.b' (rules' f) i m x);
      }

  derives_back : (f : F) (i j : ℕ) (w : List V) → DerivesAny rules' t f i j w → DerivesAny rules t f i j w
  derives_back f i j w (n, x) = (n, (tables n).d' f i j w x)

  begins_back : (f : F) (i m : ℕ) → BeginsAny rules' t f i m → BeginsAny rules t f i m
  begins_back f i m (n, x) = (n, (tables n).b' f i m x)

  derives_forth : (f : F) (i j : ℕ) (w : List V) → DerivesAny rules t f i j w → DerivesAny rules' t f i j w
  derives_forth f i j w (n, x) = (n, (tables n).d f i j w x)

  begins_forth : (f : F) (i m : ℕ) → BeginsAny rules t f i m → BeginsAny rules' t f i m
  begins_forth f i m (n, x) = (n, (tables n).b f i m x)

  -- What is read by the second table is what the first one says.
  pub reads_as_written : {X : Type 0} (O C : List ℕ) (n : ℕ) (f : F) (at : ℕ) (view : X → List V) (next : X → ℕ) (r : Result X ReadError)
      → ReadsForm rules' t O C n f at view next r → ReadsForm rules t O C n f at view next r
  reads_as_written O C n f at view next (Ok x) r =
      (derives_back f at (next x) (view x) r.0, (λ m y. r.1 m (begins_forth f at m y)), (λ v y. r.2 v (derives_forth f at (next x) v y)), r.3)
  reads_as_written O C n f at view next (Err ends.Memory) r = tt
  reads_as_written O C n f at view next (Err (ends.Unexpected k)) r =
      (begins_back f at k r.0, (λ m y. r.1 m (begins_forth f at m y)), (λ v y. r.2 v (derives_forth f at k v y)), r.3)
  reads_as_written O C n f at view next (Err (ends.TooDeep k)) r = (begins_back f at (suc k) r.0, r.1)
