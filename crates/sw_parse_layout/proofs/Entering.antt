-- What a line brings ends what is before it, and opens what comes behind it.
use Rattle.std.proofs.Common.{◌≡◌, ℕ, zero, suc, ◌-◌, ◌<◌, Bool, true, false, not, List, [], ◌∷◌, ◌++◌, refl, sym, subst, ◌∙◌, ap, arith, length, take, None, append_assoc}
use Rattle.std.specs.Prelude.{◌==◌, ◌||◌, nat_lt}
use Rattle.std.specs.List.{AllByRecursion}
use Rattle.std.proofs.lemmas.Bool.Decides.{nat_tests}
use Rattle.sw_tokens.specs.declared.token.Token.{Token}
use Rattle.sw_text_scan.proofs.Progress.{either}
use Rattle.sw_parse_layout.specs.declared.blocks.Blocks.{Blocks}
use Rattle.sw_parse_layout.specs.declared.blocks.Shut.{Shut}
use Rattle.sw_parse_layout.specs.declared.blocks.Entry.{Entry}
use Rattle.sw_parse_layout.specs.Laid.{refused_at}
use Rattle.sw_parse_layout.specs.Blocks.{top_depth, shut_from, shut_blocks, due_sign, is_mixed, entered, line_laid}
use Rattle.sw_parse_layout.specs.Laws.{BeginsLine, IsOwn, FirstAt}
use Rattle.sw_parse_layout.proofs.Nesting.{one_more, top_more, top_none, less_by_one, Deep, deep_more, Rest, shut_rest, Ends, ended, opened}

-- blocks that stay open are deeper than the top
shut_deep : (n end depth : ℕ) (depths : List ℕ) → n ≡ length depths → Deep n depths
    → Deep (length (shut_from n end depth depths).depths) (shut_from n end depth depths).depths
shut_deep zero end depth depths e d = subst (λ (k : ℕ). Deep k depths) e d
shut_deep (suc n) end depth depths e d =
    either (λ (s : Shut). Deep (length s.depths) s.depths) (nat_lt depth (top_depth depths)) _ _
    (λ _. shut_deep n end depth (take (length depths - 1) depths) (less_by_one depths n e) d.1)
    (λ _. subst (λ (k : ℕ). Deep k depths) e d)

pub entered_deep : (b : Blocks) (end depth at : ℕ) → Deep (length b.depths) b.depths
    → Deep (length (entered b end depth at).depths) (entered b end depth at).depths
unfolding entered shut_blocks
entered_deep b end depth at d =
    either (λ (r : Entry). Deep (length r.depths) r.depths) b.first _ _ (λ _. d)
    (λ _. either (λ (r : Entry). Deep (length r.depths) r.depths) (nat_lt (top_depth b.depths) depth) _ _
    (λ m. subst (λ (k : ℕ). Deep k (b.depths ++ depth ∷ [])) (sym (one_more b.depths depth)) (deep_more (length
    b.depths) b.depths depth (positive (top_depth b.depths) m) d))
    (λ _. shut_deep (length b.depths) end depth b.depths refl d))
  where
    positive : (k : ℕ) → nat_lt k depth ≡ true → 0 < depth
    positive k m = grind (arith, nat_tests)

-- a line that isn't refused is as deep as its block
pub entered_depth : (b : Blocks) (end depth at : ℕ) → (b.first ≡ true → b.depths ≡ [])
    → (entered b end depth at).wrong ≡ false → top_depth (entered b end depth at).depths ≡ depth
unfolding entered
entered_depth b end depth at f =
    either (λ (r : Entry). r.wrong ≡ false → top_depth r.depths ≡ depth) b.first _ _
    (λ m w. ap top_depth (f m) ∙ top_none ∙ at_top w)
    (λ _. either (λ (r : Entry). r.wrong ≡ false → top_depth r.depths ≡ depth) (nat_lt (top_depth b.depths) depth) _ _
    (λ _ _. top_more b.depths depth)
    (λ _ w. same (top_depth (shut_blocks end depth b.depths).depths) w))
  where
    at_top : nat_lt 0 depth ≡ false → 0 ≡ depth
    at_top w = grind (arith, nat_tests)

    same : (k : ℕ) → not (k == depth) ≡ false → k ≡ depth
    same k w = grind (arith, nat_tests)

module _ (bs : List ℕ) where
  entered_ends : (b : Blocks) (end depth at : ℕ) (x : List Token) → b.first ≡ false → BeginsLine bs depth at
      → FirstAt at x → Rest bs (length (entered b end depth at).depths) (entered b end depth at).depths x
      → Ends bs b.due b.depths ((entered b end depth at).tokens ++ x)
  unfolding entered shut_blocks
  entered_ends b end depth at x later begins head =
      either (λ (r : Entry). Rest bs (length r.depths) r.depths x → Ends bs b.due b.depths (r.tokens ++ x)) b.first _ _
      (λ m _. absurd (never b.first later m))
      (λ _. either (λ (r : Entry). Rest bs (length r.depths) r.depths x → Ends bs b.due b.depths (r.tokens ++ x))
      (nat_lt (top_depth b.depths) depth) _ _
      (λ m r. opened at depth (deeper (top_depth b.depths) m) begins head (subst (λ (k : ℕ). Rest bs k (b.depths ++ depth
      ∷ []) x) (one_more b.depths depth) r))
      (λ _ r. subst (Ends bs b.due b.depths) (sym (append_assoc (due_sign b.due end) (shut_from (length b.depths) end
      depth b.depths).tokens x))
      (ended end (shut_rest bs (length b.depths) end depth b.depths x refl r))))
    where
      never : (t : Bool) → t ≡ false → t ≡ true → ⊥
      never true e f = absurd (cc)
      never false e f = absurd (cc)

      deeper : (k : ℕ) → nat_lt k depth ≡ true → k < depth
      deeper k m = grind (arith, nat_tests)

  -- the first line brings nothing
  entered_first : (b : Blocks) (end depth at : ℕ) (x : List Token) → b.first ≡ true
      → Rest bs (length (entered b end depth at).depths) (entered b end depth at).depths x
      → Rest bs (length b.depths) b.depths ((entered b end depth at).tokens ++ x)
  unfolding entered
  entered_first b end depth at x m =
      either (λ (r : Entry). Rest bs (length r.depths) r.depths x → Rest bs (length b.depths) b.depths (r.tokens ++ x))
      b.first _ _ (λ _ r. r) (λ f _. absurd (never b.first m f))
    where
      never : (t : Bool) → t ≡ true → t ≡ false → ⊥
      never true e f = absurd (cc)
      never false e f = absurd (cc)

  -- what follows where these blocks are open, and what is laid there
  pub data Follows (b : Blocks) : List Token → Type 0 where
    begins : {ts : List Token} → b.first ≡ true → Rest bs (length b.depths) b.depths ts → Follows b ts
    goes_on : (own : List Token) {ts : List Token} → b.first ≡ false → AllByRecursion IsOwn own → Ends bs b.due b.depths ts
        → Follows b (own ++ ts)

  unrefused : (wrong mixed : Bool) (at : ℕ) → refused_at (wrong || mixed) at ≡ None → wrong ≡ false
  unrefused true mixed at e = absurd (cc)
  unrefused false mixed at e = refl

  pub line_depth : (b : Blocks) (end start at : ℕ) → (b.first ≡ true → b.depths ≡ [])
      → (line_laid bs b end start at).refused ≡ None → top_depth (entered b end (at - start) at).depths ≡ at - start
  unfolding line_laid
  line_depth b end start at f e =
      entered_depth b end (at - start) at f (unrefused _ (is_mixed bs b.indent start at) at e)

  pub line_follows : (b : Blocks) (end start at : ℕ) (x : List Token) → BeginsLine bs (at - start) at → FirstAt at x
      → Rest bs (length (entered b end (at - start) at).depths) (entered b end (at - start) at).depths x
      → Follows b ((line_laid bs b end start at).tokens ++ x)
  unfolding line_laid
  line_follows b end start at x line head r = go b.first refl
    where
      go : (t : Bool) → b.first ≡ t → Follows b ((entered b end (at - start) at).tokens ++ x)
      go true e = begins e (entered_first b end (at - start) at x e r)
      go false e = goes_on [] e tt (entered_ends b end (at - start) at x e line head r)
