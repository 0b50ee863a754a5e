-- Tokens that stand before a space stand before a line feed.
use Rattle.std.proofs.Common.{◌≡◌, ℕ, Bool, true, false, not, ◌||◌, List, [], ◌∷◌, ◌++◌, length, Some, refl, sym, ◌∙◌, ap, arith, append_assoc, length-append}
use Rattle.std.specs.List.{list_all}
use Rattle.sw_text_scan.specs.Bytes.{byte}
use Rattle.sw_text_scan.specs.Words.{is_u, is_r, is_l, begins_url}
use Rattle.sw_tokens.specs.declared.pieces.Before.{Before}
use Rattle.sw_tokens.specs.declared.skips.Inside.{Inside}
use Rattle.sw_tokens.specs.Pieces.{piece}
use Rattle.sw_tokens.specs.Tokens.{before_of}
use Rattle.sw_convert_spelling.specs.Spelt.{Spelt, text_of, behind_gap, innermost, opened, IsToken}
use Rattle.sw_convert_spelling.proofs.Choices.{right_no}
use Rattle.sw_convert_laid.specs.LineFeeds.{ends_plainly, StandBefore, is_url, HasNoCall, StandBeforeLineFeed}
use Rattle.sw_convert_laid.proofs.SamePieces.{is_sound, piece_same}
use Rattle.sw_convert_laid.proofs.Sound.{top_sound, opened_sound}

plain_behind : (xs ys : List ℕ) → ends_plainly (xs ++ ys) ≡ true → ends_plainly ys ≡ true
plain_behind [] ys e = e
plain_behind (x ∷ xs) ys e = plain_behind xs ys (tail x (xs ++ ys) e)
  where
    tail : (x : ℕ) (zs : List ℕ) → ends_plainly (x ∷ zs) ≡ true → ends_plainly zs ≡ true
    tail x [] e = refl
    tail x (z ∷ zs) e = e

module _ (r : List ℕ) where
  -- no url begins at the end of a text before a space
  no_url_there : (w : List ℕ) → begins_url w 0 ≡ false → begins_url (w ++ 32 ∷ r) 0 ≡ false
  unfolding byte
  no_url_there [] e = refl
  no_url_there (a ∷ []) e = right_no (is_u a) _ refl
  no_url_there (a ∷ b ∷ []) e = right_no (is_u a) _ (right_no (is_r b) _ refl)
  no_url_there (a ∷ b ∷ c ∷ []) e = right_no (is_u a) _ (right_no (is_r b) _ (right_no (is_l c) _ refl))
  no_url_there (a ∷ b ∷ c ∷ d ∷ w) e = e

  no_call_there : (t : Bool) (w : List ℕ) → (t || not (begins_url w 0)) ≡ true → (t || not (begins_url (w ++ 32 ∷ r) 0)) ≡ true
  no_call_there true w e = refl
  no_call_there false w e = ap not (no_url_there w (is_false (begins_url w 0) e))
    where
      is_false : (t : Bool) → not t ≡ true → t ≡ false
      is_false true e = absurd (cc)
      is_false false e = refl

  token_there : (inside : Inside) (before : Before) (spelt : Spelt) (text : List ℕ) → is_sound inside ≡ true
      → ends_plainly (spelt.bytes ++ text) ≡ true
      → (is_url spelt.kind || not (begins_url (spelt.bytes ++ text) 0)) ≡ true
      → IsToken inside before spelt (text ++ 32 ∷ r) → IsToken inside before spelt (text ++ 10 ∷ r)
  token_there inside before spelt text sound plain no_call e =
      ap (λ (bs : List ℕ). piece bs inside before 0) (sym (append_assoc spelt.bytes text (10 ∷ r)))
      ∙ piece_same r (spelt.bytes ++ text) plain inside before 0 spelt.kind (length spelt.bytes) spelt.change sound
      (no_call_there (is_url spelt.kind) (spelt.bytes ++ text) no_call)
      (let l = length-append spelt.bytes text in omega (arith, l))
      (ap (λ (bs : List ℕ). piece bs inside before 0) (append_assoc spelt.bytes text (32 ∷ r)) ∙ e)

  stand_there : (list : List Spelt) (stack : List Inside) (before : Before) (end : List Inside)
      → list_all is_sound stack ≡ true → ends_plainly (text_of list) ≡ true → HasNoCall list
      → StandBefore stack before list end (32 ∷ r) → StandBefore stack before list end (10 ∷ r)
  stand_there [] stack before end sound plain no_call e = e
  stand_there (spelt ∷ list) stack before end sound plain (here, further) (gap, some, token, rest) =
      let behind = plain_behind spelt.gap (spelt.bytes ++ text_of list) plain in (
        gap,
        some,
        token_there (innermost stack) (behind_gap before spelt.gap) spelt (text_of list) (top_sound stack sound) behind here token,
        stand_there list (opened stack spelt.change) (before_of (Some spelt.kind)) end
            (opened_sound (spelt.bytes ++ (text_of list ++ 32 ∷ r)) 0 stack (behind_gap before spelt.gap) spelt.kind
            (length spelt.bytes) spelt.change sound token)
            (plain_behind spelt.bytes (text_of list) behind) further rest,
      )

pub before_line_feed : (list : List Spelt) (after : List ℕ) → StandBeforeLineFeed list after
before_line_feed list after before plain no_call stands = stand_there after list [] before [] refl plain no_call stands
