-- Text in a string with `#{}`: where it ends stands a `#{` or the end of the string.
use Rattle.std.proofs.Common.{◌≡◌, ℕ, ◌+◌, Bool, true, false, not, ◌&&◌, if◌then◌else◌, nat_lt, List, Option, Some, None, refl, sym, ◌∙◌, ap, arith}
use Rattle.std.specs.Prelude.{◌==◌, slice_range, unwrap_or}
use Rattle.std.proofs.lemmas.Bool.Decides.{nat_tests}
use Rattle.sw_text_scan.specs.declared.runs.Class.{Class}
use Rattle.sw_text_scan.specs.declared.runs.Class.TheVariants as classes
use Rattle.sw_text_scan.specs.Bytes.{sign, byte, is_white, is_quote, opens_at, begins_silent, begins_loud, ends_loud}
use Rattle.sw_text_scan.specs.Runs.{run_end}
use Rattle.sw_text_scan.specs.Words.{begins_number, begins_range, begins_url, url_close}
use Rattle.sw_tokens.specs.declared.pieces.Before.{Before}
use Rattle.sw_tokens.specs.declared.pieces.Change.{Change}
use Rattle.sw_tokens.specs.declared.pieces.Change.TheVariants as changes
use Rattle.sw_tokens.specs.declared.pieces.Piece.{Piece}
use Rattle.sw_tokens.specs.declared.skips.Inside.{Inside}
use Rattle.sw_tokens.specs.declared.skips.Inside.TheVariants as insides
use Rattle.sw_tokens.specs.declared.token.TokenKind.{TokenKind}
use Rattle.sw_tokens.specs.declared.token.TokenKind.TheVariants as kinds
use Rattle.sw_tokens.specs.Decoded.{decoded}
use Rattle.sw_tokens.specs.Pieces.{made, piece, text_piece, quote_piece, sign_of, is_hex_form, url_class, opens_url, url_piece, after_dollar, after_hash, word_piece, comment_piece, loud_piece, in_interpolation, code_piece, css_quote, css_loud, css_piece}
use Rattle.sw_convert_tokens.proofs.PieceCases.{is_plain, is_bare, is_lone, sign_of_is, number_has, name_has}

-- text in a string, and what ends it
abbrev pub is_text : TokenKind → Bool
is_text (kinds.Text told) = true
is_text _ = false

abbrev pub ends_text : TokenKind → Bool
ends_text kinds.OpenInterpolation = true
ends_text kinds.TemplateEnd = true
ends_text _ = false

abbrev pub has_text : Option TokenKind → Bool
has_text None = false
has_text (Some kind) = is_text kind

abbrev pub has_end : Option TokenKind → Bool
has_end None = false
has_end (Some kind) = ends_text kind

abbrev textless : Option Piece → Bool
textless None = true
textless (Some p) = not (has_text p.token)

abbrev pub ending : Option Piece → Bool
ending None = true
ending (Some p) = has_end p.token

-- text stands in a string alone
pub record InText (bs : List ℕ) (at : ℕ) (inside : Inside) (p : Piece) : Type 0 where
  pub quote : ℕ
  pub inside_is : inside ≡ insides.Quotes quote
  pub to_is : p.to ≡ run_end (classes.SheetText quote) bs at
  pub change_is : p.change ≡ changes.Keep

module _ (bs : List ℕ) (at : ℕ) where
  pick : (t : Bool) (x y : Option Piece) → textless x ≡ true → textless y ≡ true → textless (if t then x else y) ≡ true
  pick true x y e f = e
  pick false x y e f = f

  of_plain : (kind : TokenKind) → is_plain kind ≡ true → (n : ℕ) (change : Change) → textless (made kind n change) ≡ true
  of_plain (kinds.Text told) e n change = absurd (cc)
  of_plain _ e n change = refl

  of_bare : (kind : TokenKind) → is_bare kind ≡ true → (n : ℕ) (change : Change) → textless (made kind n change) ≡ true
  of_bare (kinds.Text told) e n change = absurd (cc)
  of_bare _ e n change = refl

  of_lone : (kind : TokenKind) → is_lone kind ≡ true → (n : ℕ) (change : Change) → textless (made kind n change) ≡ true
  of_lone (kinds.Text told) e n change = absurd (cc)
  of_lone _ e n change = refl

  word_textless : (top : Inside) (before : Before) → textless (word_piece bs top before at) ≡ true
  unfolding word_piece
  word_textless top before =
      pick (after_hash before && is_hex_form bs at) _ _ refl
      (pick (begins_number bs at) _ _
      (number_has bs at (λ o. textless o ≡ true) (λ kind plain named n change. of_plain kind plain n change))
      (pick (not (after_dollar before) && begins_range bs at) _ _ refl
      (pick (begins_url bs at && (byte bs (url_close bs (url_class top) at) == sign ")")) _ _ refl
      (pick (opens_url bs top at) _ _ refl
      (name_has bs at (λ o. textless o ≡ true) of_bare
      (of_lone (sign_of (byte bs at)) (sign_of_is (byte bs at)) (at + 1) changes.Keep))))))

  code_textless : (top : Inside) (before : Before) → textless (code_piece bs top before at) ≡ true
  unfolding code_piece quote_piece loud_piece
  code_textless top before =
      pick (is_white (byte bs at)) _ _ refl
      (pick (is_quote (byte bs at)) _ _
      (pick (byte bs (run_end (classes.SheetText (byte bs at)) bs (at + 1)) == byte bs at) _ _ refl refl)
      (pick (opens_at bs at) _ _ refl
      (pick ((byte bs at == sign "}") && in_interpolation top) _ _ refl
      (pick (begins_silent bs at) _ _ refl
      (pick (begins_loud bs at) _ _
      (pick (ends_loud bs (run_end classes.Comment bs (at + 2))) _ _ refl refl) (word_textless top before))))))

  css_textless : (before : Before) → textless (css_piece bs before at) ≡ true
  unfolding css_piece css_quote css_loud
  css_textless before =
      pick (is_white (byte bs at)) _ _ refl
      (pick (is_quote (byte bs at)) _ _
      (pick (byte bs (run_end (classes.Text (byte bs at)) bs (at + 1)) == byte bs at) _ _ refl refl)
      (pick (opens_at bs at) _ _ refl
      (pick (begins_silent bs at) _ _ refl
      (pick (begins_loud bs at) _ _
      (pick (ends_loud bs (run_end classes.CssComment bs (at + 2))) _ _ refl refl) (word_textless insides.Css before)))))

  url_textless : (class : Class) → textless (url_piece bs class at) ≡ true
  unfolding url_piece
  url_textless class =
      pick (byte bs at == sign ")") _ _ refl
      (pick (opens_at bs at) _ _ refl
      (pick (nat_lt at (run_end class bs at)) _ _ refl (pick (is_white (byte bs at)) _ _ refl refl)))

  comment_textless : textless (comment_piece bs at) ≡ true
  unfolding comment_piece
  comment_textless =
      pick (ends_loud bs at) _ _ refl
      (pick (opens_at bs at) _ _ refl (pick (nat_lt at (run_end classes.Comment bs at)) _ _ refl refl))

  clash : {P : Type 0} (o : Option Piece) (p : Piece) → textless o ≡ true → o ≡ Some p → has_text p.token ≡ true → P
  clash o p none is e = absurd (let wrong : true ≡ false = sym none ∙ ap textless is ∙ ap not e in cc)

  text_in : (q : ℕ) (p : Piece) → text_piece bs q at ≡ Some p → has_text p.token ≡ true → InText bs at (insides.Quotes q) p
  unfolding text_piece
  text_in q p = go (byte bs at == q) (opens_at bs at) (nat_lt at (run_end (classes.SheetText q) bs at))
    where
      back : Option Piece → Piece
      back o = unwrap_or o p

      other : {P : Type 0} (kind : TokenKind) (n : ℕ) (change : Change) → is_text kind ≡ false → made kind n change ≡ Some p
          → has_text p.token ≡ true → P
      other kind n change none is e =
          absurd (let wrong : false ≡ true = sym none ∙ ap (λ (o : Option Piece). has_text (back o).token) is ∙ e in cc)

      go : (a b c : Bool)
          → (if a then made kinds.TemplateEnd (at + 1) changes.Pop
          else (if b then made kinds.OpenInterpolation (at + 2) (changes.Push insides.Interpolation)
          else (if c then made (kinds.Text (decoded (slice_range bs at (run_end (classes.SheetText q) bs at)))) (run_end (classes.SheetText q) bs at) changes.Keep else None))) ≡ Some p
          → has_text p.token ≡ true → InText bs at (insides.Quotes q) p
      go true b c is e = other kinds.TemplateEnd _ _ refl is e
      go false true c is e = other kinds.OpenInterpolation _ _ refl is e
      go false false true is e = record {
        quote = q;
        inside_is = refl;
        to_is = sym (ap (λ (o : Option Piece). (back o).to) is);
        change_is = sym (ap (λ (o : Option Piece). (back o).change) is);
      }
      go false false false is e = absurd (cc)

  pub in_text : (inside : Inside) (before : Before) (p : Piece) → piece bs inside before at ≡ Some p
      → has_text p.token ≡ true → InText bs at inside p
  in_text (insides.Quotes q) before p is e = text_in q p is e
  in_text insides.Sheet before p is e = clash _ p (code_textless insides.Sheet before) is e
  in_text insides.Interpolation before p is e = clash _ p (code_textless insides.Interpolation before) is e
  in_text insides.Css before p is e = clash _ p (css_textless before) is e
  in_text insides.Comment before p is e = clash _ p comment_textless is e
  in_text insides.Url before p is e = clash _ p (url_textless classes.Url) is e
  in_text insides.UrlInside before p is e = clash _ p (url_textless classes.UrlInside) is e

  -- where no text goes on, it ends
  pub text_ends : (q : ℕ) → run_end (classes.SheetText q) bs at ≡ at → ending (text_piece bs q at) ≡ true
  unfolding text_piece
  text_ends q stops =
      go (byte bs at == q) (opens_at bs at) (nat_lt at (run_end (classes.SheetText q) bs at))
      (let none : nat_lt at (run_end (classes.SheetText q) bs at) ≡ false = grind (arith, nat_tests) in none)
    where
      go : (a b c : Bool) → c ≡ false
          → ending (if a then made kinds.TemplateEnd (at + 1) changes.Pop
          else (if b then made kinds.OpenInterpolation (at + 2) (changes.Push insides.Interpolation)
          else (if c then made (kinds.Text (decoded (slice_range bs at (run_end (classes.SheetText q) bs at)))) (run_end (classes.SheetText q) bs at) changes.Keep else None))) ≡ true
      go true b c e = refl
      go false true c e = refl
      go false false true e = absurd (cc)
      go false false false e = refl
