-- What may follow where blocks are open: the statements of the innermost, its `}`, and so on outward.
use Rattle.std.proofs.Common.{◌≡◌, ℕ, zero, suc, ◌-◌, ◌≤◌, ◌<◌, Bool, true, false, List, [], ◌∷◌, ◌++◌, refl, sym, subst, ◌∙◌, ap, arith, length, take, Option, Some, append_assoc}
use Rattle.std.specs.Prelude.{◌==◌, nat_lt, slice_get, unwrap_or}
use Rattle.std.proofs.lemmas.Bool.Decides.{nat_tests}
use Rattle.std.proofs.lemmas.List.{length-append}
use Rattle.std.proofs.Math.Seq.{take-append_seam}
use Rattle.sw_tokens.specs.declared.token.TokenKind.TheVariants as kinds
use Rattle.sw_tokens.specs.declared.token.Token.{Token}
use Rattle.sw_text_scan.proofs.Progress.{either}
use Rattle.sw_parse_layout.specs.declared.blocks.Shut.{Shut}
use Rattle.sw_parse_layout.specs.Laid.{sign_at}
use Rattle.sw_parse_layout.specs.Blocks.{top_depth, shut_from, due_sign}
use Rattle.sw_parse_layout.specs.Laws.{BeginsLine, FirstAt, is_comment, Own, Statements, none, plain, comment, block}

-- the innermost block

get_last : (xs : List ℕ) (x : ℕ) → slice_get (xs ++ x ∷ []) (length xs) ≡ Some x
get_last [] x = refl
get_last (y ∷ xs) x = get_last xs x

one_less : (xs : List ℕ) (x : ℕ) → length (xs ++ x ∷ []) - 1 ≡ length xs
one_less xs x = let e = length-append xs (x ∷ []) in omega arith

pub one_more : (xs : List ℕ) (x : ℕ) → length (xs ++ x ∷ []) ≡ suc (length xs)
one_more xs x = let e = length-append xs (x ∷ []) in omega arith

pub top_more : (xs : List ℕ) (x : ℕ) → top_depth (xs ++ x ∷ []) ≡ x
unfolding top_depth
top_more xs x =
    ap (λ (k : ℕ). unwrap_or (slice_get (xs ++ x ∷ []) k) 0) (one_less xs x)
    ∙ ap (λ (o : Option ℕ). unwrap_or o 0) (get_last xs x)

pub rest_more : (xs : List ℕ) (x : ℕ) → take (length (xs ++ x ∷ []) - 1) (xs ++ x ∷ []) ≡ xs
rest_more xs x = ap (λ (k : ℕ). take k (xs ++ x ∷ [])) (one_less xs x) ∙ take-append_seam xs (x ∷ [])

pub top_none : top_depth [] ≡ 0
unfolding top_depth
top_none = refl

pub less_by_one : (xs : List ℕ) (n : ℕ) → suc n ≡ length xs → n ≡ length (take (length xs - 1) xs)
less_by_one [] n e = absurd (omega arith)
less_by_one (x ∷ xs) n e = go xs x n e
  where
    len_take : (k : ℕ) (ys : List ℕ) → k ≤ length ys → length (take k ys) ≡ k
    len_take zero ys l = refl
    len_take (suc k) [] l = absurd (omega arith)
    len_take (suc k) (y ∷ ys) l = let e = len_take k ys (omega arith) in omega arith

    go : (xs : List ℕ) (x n : ℕ) → suc n ≡ length (x ∷ xs) → n ≡ length (take (length (x ∷ xs) - 1) (x ∷ xs))
    go xs x n e = let l = len_take (length (x ∷ xs) - 1) (x ∷ xs) (omega arith) in omega arith

-- each block is deeper than the top
abbrev pub Deep : ℕ → List ℕ → Type 0
Deep zero depths = Unit {0}
Deep (suc n) depths = (0 < top_depth depths) × Deep n (take (length depths - 1) depths)

pub deep_more : (n : ℕ) (depths : List ℕ) (depth : ℕ) → 0 < depth → Deep n depths → Deep (suc n) (depths ++ depth ∷ [])
deep_more n depths depth l d =
    (let e = top_more depths depth in omega arith, subst (Deep n) (sym (rest_more depths depth)) d)

module _ (bs : List ℕ) where
  -- what follows where n blocks are open
  pub data Rest : ℕ → List ℕ → List Token → Type 0 where
    outermost : {depths : List ℕ} {ts : List Token} → Statements bs (top_depth depths) ts → Rest zero depths ts
    inside : {n : ℕ} {depths : List ℕ} {inner after : List Token} (end : ℕ) → Statements bs (top_depth depths) inner
        → Rest n (take (length depths - 1) depths) after
        → Rest (suc n) depths (inner ++ sign_at kinds.CloseBrace end ∷ after)

  -- a statement more
  pub in_front : (n : ℕ) (depths : List ℕ) (x ts : List Token) → Rest n depths ts → ((rest : List Token)
      → Statements bs (top_depth depths) rest → Statements bs (top_depth depths) (x ++ rest)) → Rest n depths (x ++ ts)
  in_front zero depths x ts (outermost st) more = outermost (more ts st)
  in_front (suc n) depths x _ (inside {inner = inner} {after = after} end st out) more =
      subst (Rest (suc n) depths) (append_assoc x inner (sign_at kinds.CloseBrace end ∷ after))
      (inside end (more inner st) out)

  -- blocks are closed
  pub shut_rest : (n end depth : ℕ) (depths : List ℕ) (after : List Token) → n ≡ length depths
      → Rest (length (shut_from n end depth depths).depths) (shut_from n end depth depths).depths after
      → Rest n depths ((shut_from n end depth depths).tokens ++ after)
  shut_rest zero end depth depths after e r = subst (λ (k : ℕ). Rest k depths after) (sym e) r
  shut_rest (suc n) end depth depths after e r =
      either (λ (s : Shut). Rest (length s.depths) s.depths after → Rest (suc n) depths (s.tokens ++ after))
      (nat_lt depth (top_depth depths)) _ _
      (λ _ q. inside end none (shut_rest n end depth (take (length depths - 1) depths) after (less_by_one depths n e) q))
      (λ _ q. subst (λ (k : ℕ). Rest k depths after) (sym e) q) r

  -- all of them at the end
  pub closed_rest : (n end : ℕ) (depths : List ℕ) → Deep n depths → Rest n depths (shut_from n end 0 depths).tokens
  closed_rest zero end depths d = outermost none
  closed_rest (suc n) end depths d =
      either (λ (s : Shut). Rest (suc n) depths s.tokens) (nat_lt 0 (top_depth depths)) _ _
      (λ _. inside end none (closed_rest n end (take (length depths - 1) depths) d.1))
      (λ f. absurd (let l = d.0 in not_less (top_depth depths) l f))
    where
      not_less : (k : ℕ) → 0 < k → nat_lt 0 k ≡ false → ⊥
      not_less k l f = grind (arith, nat_tests)

  -- what may follow the tokens of a statement
  pub data Ends (due : Bool) (depths : List ℕ) : List Token → Type 0 where
    ended : {after : List Token} (end : ℕ) → Rest (length depths) depths after → Ends due depths (due_sign due end ++ after)
    opened : {after : List Token} (at depth : ℕ) → top_depth depths < depth → BeginsLine bs depth at → FirstAt at after
        → Rest (suc (length depths)) (depths ++ depth ∷ []) after → Ends due depths (sign_at kinds.OpenBrace at ∷ after)

  first_inner : (at end : ℕ) (inner after : List Token) → FirstAt at (inner ++ sign_at kinds.CloseBrace end ∷ after)
      → FirstAt at inner
  first_inner at end [] after f = absurd (made end f.1)
    where
      made : (k : ℕ) → (k == k) ≡ false → ⊥
      made k e = grind (arith, nat_tests)
  first_inner at end (t ∷ ts) after f = f

  regroup : (own inner rest : List Token) (o c : Token)
      → (own ++ o ∷ (inner ++ c ∷ [])) ++ rest ≡ own ++ o ∷ (inner ++ c ∷ rest)
  regroup own inner rest o c =
      append_assoc own (o ∷ (inner ++ c ∷ [])) rest
      ∙ ap (λ (x : List Token). own ++ o ∷ x) (append_assoc inner (c ∷ []) rest)

  opened_block : (depths : List ℕ) (own ts : List Token) (at depth : ℕ) → Own bs (top_depth depths) own
      → top_depth depths < depth → BeginsLine bs depth at → FirstAt at ts
      → Rest (suc (length depths)) (depths ++ depth ∷ []) ts
      → Rest (length depths) depths (own ++ sign_at kinds.OpenBrace at ∷ ts)
  opened_block depths own _ at depth o l b f (inside {inner = inner} {after = after} end st out) =
      subst (Rest (length depths) depths) (regroup own inner after (sign_at kinds.OpenBrace at) (sign_at kinds.CloseBrace
      end))
      (in_front (length depths) depths (own ++ sign_at kinds.OpenBrace at ∷ (inner ++ sign_at kinds.CloseBrace end ∷ []))
      after (subst (λ (ds : List ℕ). Rest (length depths) ds after) (rest_more depths depth) out) (λ rest more.
      subst (Statements bs (top_depth depths)) (sym (regroup own inner rest (sign_at kinds.OpenBrace at) (sign_at
      kinds.CloseBrace end)))
      (block at end o l b (first_inner at end inner after f) (subst (λ (d : ℕ). Statements bs d inner) (top_more depths
      depth) st) more)))

  -- a statement and what may follow it
  pub statement_ends : (depths : List ℕ) (own ts : List Token) → Own bs (top_depth depths) own → is_comment own ≡ false
      → Ends true depths ts → Rest (length depths) depths (own ++ ts)
  statement_ends depths own _ o c (ended {after = after} end r) =
      subst (Rest (length depths) depths) (append_assoc own (sign_at kinds.Semicolon end ∷ []) after)
      (in_front (length depths) depths (own ++ sign_at kinds.Semicolon end ∷ []) after r (λ rest more.
      subst (Statements bs (top_depth depths)) (sym (append_assoc own (sign_at kinds.Semicolon end ∷ []) rest))
      (plain end o c more)))
  statement_ends depths own _ o c (opened {after = after} at depth l b f r) =
      opened_block depths own after at depth o l b f r

  pub comment_ends : (depths : List ℕ) (own ts : List Token) → Own bs (top_depth depths) own → is_comment own ≡ true
      → Ends false depths ts → Rest (length depths) depths (own ++ ts)
  comment_ends depths own _ o c (ended {after = after} end r) =
      in_front (length depths) depths own after r (λ rest more. comment o c more)
  comment_ends depths own _ o c (opened {after = after} at depth l b f r) =
      opened_block depths own after at depth o l b f r
