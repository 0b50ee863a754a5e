-- The blocks that a line closes, one after the other; and the blanks at the end of a text.
use Rattle.std.proofs.Common.{◌≡◌, ℕ, zero, suc, ◌+◌, ◌-◌, ◌≤◌, ◌<◌, true, false, List, [], ◌∷◌, ◌++◌, refl, sym, ◌∙◌, ap, arith, length, take, append_assoc, append-nil}
use Rattle.std.specs.Prelude.{nat_lt}
use Rattle.std.proofs.lemmas.Bool.Decides.{nat_tests}
use Rattle.sw_tokens.specs.declared.token.TokenKind.TheVariants as kinds
use Rattle.sw_tokens.specs.declared.token.Token.{Token}
use Rattle.sw_text_scan.specs.Bytes.{byte}
use Rattle.sw_text_scan.proofs.Bounds.{if_true, if_false}
use Rattle.sw_parse_layout.specs.declared.blocks.Shut.{Shut}
use Rattle.sw_parse_layout.specs.Lines.{is_blank}
use Rattle.sw_parse_layout.specs.Laid.{sign_at}
use Rattle.sw_parse_layout.specs.Blocks.{top_depth, behind_brace, shut_from}
use Rattle.sw_parse_layout.specs.Comments.{trimmed_from}

abbrev pub with_more : List Token → Shut → Shut
with_more ts s = record { tokens = ts ++ s.tokens; depths = s.depths }

more_brace : (ts : List Token) (end : ℕ) (s : Shut)
    → with_more ts (behind_brace end s) ≡ with_more (ts ++ sign_at kinds.CloseBrace end ∷ []) s
more_brace ts end s =
    ap (λ (us : List Token). (let r : Shut = record { tokens = us; depths = s.depths } in r)) (sym (append_assoc ts
    (sign_at kinds.CloseBrace end ∷ []) s.tokens))

-- one block more is closed
shut_one : (ts : List Token) (n end depth : ℕ) (depths : List ℕ) (t : Shut)
    → with_more ts (shut_from n end depth depths) ≡ t → 0 < n → depth < top_depth depths
    → with_more (ts ++ sign_at kinds.CloseBrace end ∷ []) (shut_from (n - 1) end depth (take (length depths - 1)
    depths)) ≡ t
shut_one ts zero end depth depths t inv z l = absurd (omega arith)
shut_one ts (suc n) end depth depths t inv z l =
    ap (λ (k : ℕ). with_more (ts ++ sign_at kinds.CloseBrace end ∷ []) (shut_from k end depth (take (length depths - 1)
    depths))) less
    ∙ sym (more_brace ts end (shut_from n end depth (take (length depths - 1) depths)))
    ∙ ap (with_more ts) (sym (if_true (nat_lt depth (top_depth depths)) _ _ (grind (arith, nat_tests))))
    ∙ inv
  where
    less : suc n - 1 ≡ n
    less = omega arith

pub shut_step : (ts : List Token) (count block end depth : ℕ) (depths : List ℕ) (t : Shut)
    → with_more ts (shut_from (count - block) end depth depths) ≡ t → block < count → depth < top_depth depths
    → with_more (ts ++ sign_at kinds.CloseBrace end ∷ []) (shut_from (count - (block + 1)) end depth (take (length
    depths - 1) depths)) ≡ t
shut_step ts count block end depth depths t inv l m =
    ap (λ (k : ℕ). with_more (ts ++ sign_at kinds.CloseBrace end ∷ []) (shut_from k end depth (take (length depths - 1)
    depths))) less
    ∙ shut_one ts (count - block) end depth depths t inv (omega arith) m
  where
    less : count - (block + 1) ≡ (count - block) - 1
    less = omega arith

-- the blocks that stay open
pub shut_done : (ts : List Token) (n end depth : ℕ) (depths : List ℕ) (t : Shut)
    → with_more ts (shut_from n end depth depths) ≡ t → top_depth depths ≤ depth
    → t ≡ record { tokens = ts; depths = depths }
shut_done ts zero end depth depths t inv l =
    sym inv ∙ ap (λ (us : List Token). (let r : Shut = record { tokens = us; depths = depths } in r)) (append-nil ts)
shut_done ts (suc n) end depth depths t inv l =
    sym inv ∙ ap (with_more ts) (if_false (nat_lt depth (top_depth depths)) _ _ (grind (arith, nat_tests)))
    ∙ ap (λ (us : List Token). (let r : Shut = record { tokens = us; depths = depths } in r)) (append-nil ts)

pub shut_spent : (ts : List Token) (end depth : ℕ) (depths : List ℕ) (t : Shut)
    → with_more ts (shut_from 0 end depth depths) ≡ t → t ≡ record { tokens = ts; depths = depths }
shut_spent ts end depth depths t inv =
    sym inv ∙ ap (λ (us : List Token). (let r : Shut = record { tokens = us; depths = depths } in r)) (append-nil ts)

module _ (bs : List ℕ) where
  pub trim_step : (n to : ℕ) → 0 < n → is_blank (byte bs (to - 1)) ≡ true
      → trimmed_from n bs to ≡ trimmed_from (n - 1) bs (to - 1)
  trim_step zero to z m = absurd (omega arith)
  trim_step (suc n) to z m =
      if_true (is_blank (byte bs (to - 1))) _ _ m ∙ ap (λ (k : ℕ). trimmed_from k bs (to - 1)) less
    where
      less : n ≡ suc n - 1
      less = omega arith

  pub trim_stop : (n to : ℕ) → is_blank (byte bs (to - 1)) ≡ false → trimmed_from n bs to ≡ to
  trim_stop zero to m = refl
  trim_stop (suc n) to m = if_false (is_blank (byte bs (to - 1))) _ _ m
