-- Tokens fill a text where each is given its end.
use Rattle.std.proofs.Common.{◌≡◌, ℕ, true, false, List, [], ◌∷◌, refl, sym, subst, ◌∙◌, ap, length, Option, Some, None, Result, Ok, Err}
use Rattle.std.specs.Prelude.{IfOk}
use Rattle.sw_text.specs.Places.{mark_length}
use Rattle.sw_tokens.specs.declared.token.TokenKind.{TokenKind}
use Rattle.sw_tokens.specs.declared.token.TokenKind.TheVariants as kinds
use Rattle.sw_tokens.specs.declared.token.Token.{Token}
use Rattle.sw_tokens.specs.Ends.{opens, last_end, reaching, reached}
use Rattle.sw_text_scan.proofs.Bounds.{if_false}
use Rattle.sw_tokens.proofs.Cuts.{IsText}
use Rattle.sw_parse_layout.specs.declared.laid.Laid.{Laid}
use Rattle.sw_parse_layout.specs.declared.walk.LayoutEnd.{LayoutEnd}
use Rattle.sw_parse_layout.specs.declared.walk.Place.{Place}
use Rattle.sw_parse_layout.specs.Layout.{laid_of, told_by, Told}
use Rattle.sw_parse_layout.specs.LawsOfText.{Covers, scss, inner, begins, text, ends, is_makeable, Fills, ended, made, token}
use Rattle.sw_parse_layout.proofs.Alike.{Alike, reached_alike}
use Rattle.sw_parse_layout.proofs.Filling.{laid_filled}

unopened : (kind : TokenKind) → is_makeable kind ≡ true → opens kind ≡ false
unopened kinds.Template e = absurd (cc)
unopened kinds.UrlTemplate e = absurd (cc)
unopened kinds.CommentTemplate e = absurd (cc)
unopened _ e = refl

module _ (bs : List ℕ) where
  covers_still : (t : Token) (later : List ℕ) (end : ℕ) → Covers bs t end → Covers bs (reaching t later) end
  covers_still t later _ (scss inside before p e k) = scss inside before p e k
  covers_still t later _ (inner reach k e m) = inner reach k e m
  covers_still t later _ (begins k m) = begins k m
  covers_still t later end (text k l f) = text k l f
  covers_still t later _ (ends k m) = ends k m

  end_still : (t : Token) (later : List ℕ) → opens t.kind ≡ false → (reaching t later).to ≡ t.to
  end_still t later e = if_false (opens t.kind) (last_end later t.to) t.to e

  pub fills_alike : (i j : ℕ) (ts us : List Token) → Fills bs i j ts → Alike ts us → Fills bs i j us
  fills_alike i j _ [] (ended g) a = ended g
  fills_alike i j _ (u ∷ us) (ended g) a = absurd a
  fills_alike i j _ [] (made m e f) a = absurd a
  fills_alike i j _ (u ∷ us) (made {t = t} {ts = ts} m e f) a =
      subst (λ (x : Token). Fills bs i j (x ∷ us)) (sym a.0.1)
      (made m (e ∙ sym (end_still t a.0.0 (unopened t.kind m))) (fills_alike i j ts us f a.1))
  fills_alike i j _ [] (token g c e f) a = absurd a
  fills_alike i j _ (u ∷ us) (token {end = end} {t = t} {ts = ts} g c e f) a =
      subst (λ (x : Token). Fills bs i j (x ∷ us)) (sym a.0.1)
      (token g (covers_still t a.0.0 end c) (λ o. end_still t a.0.0 o ∙ e o) (fills_alike end j ts us f a.1))

-- the tokens of a text fill it
pub told_fills : (bs : List ℕ) → IsText bs → (l : Laid) (ts : List Token) (r : Result (List Token) LayoutEnd)
    → laid_of bs ≡ Ok l → ts ≡ (reached l.tokens).list → Told r (told_by ts l.refused)
    → IfOk r (λ us. Fills bs (mark_length bs) (length bs) us)
told_fills bs utf l ts r e is told = go l.refused r told
  where
    all : Fills bs (mark_length bs) (length bs) ts
    all =
        subst (Fills bs (mark_length bs) (length bs)) (sym is) (fills_alike bs (mark_length bs) (length bs) l.tokens
        (reached l.tokens).list (laid_filled bs utf l e) (reached_alike l.tokens))

    given : Result (List Token) Place → List Token
    given (Ok h) = h
    given (Err k) = ts

    go : (o : Option ℕ) → (r : Result (List Token) LayoutEnd) → Told r (told_by ts o)
        → IfOk r (λ us. Fills bs (mark_length bs) (length bs) us)
    go None (Ok us) told = subst (Fills bs (mark_length bs) (length bs)) (ap given told) all
    go (Some k) (Ok us) told = absurd (cc)
    go o (Err end) told = tt
