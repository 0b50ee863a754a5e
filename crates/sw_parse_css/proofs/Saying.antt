-- Text without the comments in it, token by token.
use Rattle.std.proofs.Common.{◌≡◌, ℕ, suc, ◌+◌, ◌-◌, ◌<◌, Bool, true, false, if◌then◌else◌, List, ◌++◌, Option, Some, None, sym, ◌∙◌, ap, arith, append_assoc}
use Rattle.sw_tokens.specs.declared.token.Token.{Token}
use Rattle.sw_tokens.specs.Order.{StandsIn}
use Rattle.sw_parse_css.specs.Seen.{Seen, is_comment, comment_in, comment_at, before_comment, behind_comment, said_from}

less_one : (i n : ℕ) → i < n → n - i ≡ suc (n - (i + 1))
less_one i n l = omega arith

module _ (seen : Seen) where
  -- one more token
  said_step : (to from at last : ℕ) → at < last
      → said_from seen to from at (last - at) ≡ before_comment seen from (comment_at seen (at + 1)) ++ said_from seen to (behind_comment seen from (comment_at seen (at + 1))) (at + 1) (last - (at + 1))
  said_step to from at last l = ap (said_from seen to from at) (less_one at last l)

  pub said_more : (text whole : List ℕ) (to from at last : ℕ) → at < last → text ++ said_from seen to from at (last - at) ≡ whole
      → (text ++ before_comment seen from (comment_at seen (at + 1))) ++ said_from seen to (behind_comment seen from (comment_at seen (at + 1))) (at + 1) (last - (at + 1)) ≡ whole
  said_more text whole to from at last l e =
      append_assoc text (before_comment seen from (comment_at seen (at + 1))) _ ∙ ap (λ (xs : List ℕ). text ++ xs) (sym (said_step to from at last l)) ∙ e

  -- the next token is no comment
  pub said_past : (to from at last : ℕ) → at < last → comment_at seen (at + 1) ≡ None
      → said_from seen to from at (last - at) ≡ said_from seen to from (at + 1) (last - (at + 1))
  said_past to from at last l e =
      said_step to from at last l
      ∙ ap (λ (o : Option Token). before_comment seen from o ++ said_from seen to (behind_comment seen from o) (at + 1) (last - (at + 1))) e

chosen : (b : Bool) (x y : Token) → (if b then Some x else None) ≡ Some y → Some x ≡ Some y
chosen true x y e = e
chosen false x y e = absurd (cc)

-- a comment stands where its token does
pub comment_stands : (bytes : List ℕ) (o : Option Token) → ((t : Token) → o ≡ Some t → StandsIn bytes t)
    → (t : Token) → comment_in o ≡ Some t → StandsIn bytes t
comment_stands bytes None each t e = absurd (cc)
comment_stands bytes (Some x) each t e = each t (chosen (is_comment x.kind) x t e)
