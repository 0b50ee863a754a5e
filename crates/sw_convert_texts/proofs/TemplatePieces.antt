-- A string with `#{}`: no closing quote stands before its first `#{`.
use Rattle.std.proofs.Common.{◌≡◌, ◌⊎◌, ◌≤◌, ◌||◌, inl, inr, ℕ, ◌+◌, Bool, true, false, not, ◌&&◌, if◌then◌else◌, nat_lt, List, Option, Some, None, refl, sym, ◌∙◌, ap, arith}
use Rattle.std.specs.Prelude.{◌==◌, slice_range, unwrap_or}
use Rattle.sw_text_scan.specs.declared.runs.Class.TheVariants as classes
use Rattle.sw_text_scan.specs.Bytes.{sign, byte, is_break, is_white, is_quote, opens_at, begins_silent, begins_loud, ends_loud}
use Rattle.sw_text_scan.specs.Runs.{text_next, run_end}
use Rattle.sw_text_scan.specs.Words.{begins_number, begins_range, begins_url, url_close, unit_start, unit_end}
use Rattle.sw_tokens.specs.declared.pieces.Before.{Before}
use Rattle.sw_tokens.specs.declared.pieces.Change.{Change}
use Rattle.sw_tokens.specs.declared.pieces.Change.TheVariants as changes
use Rattle.sw_tokens.specs.declared.pieces.Piece.{Piece}
use Rattle.sw_tokens.specs.declared.skips.Inside.{Inside}
use Rattle.sw_tokens.specs.declared.skips.Inside.TheVariants as insides
use Rattle.sw_tokens.specs.declared.token.TokenKind.{TokenKind}
use Rattle.sw_tokens.specs.declared.token.TokenKind.TheVariants as kinds
use Rattle.sw_tokens.specs.Decoded.{decoded}
use Rattle.sw_tokens.specs.Pieces.{made, piece, text_piece, quote_piece, is_hex_form, number_piece, url_class, opens_url, url_piece, after_dollar, after_hash, word_piece, comment_piece, loud_piece, in_interpolation, code_piece, css_quote, css_loud, css_piece}
use Rattle.sw_text_scan.specs.declared.signs.TheConstants.{END}
use Rattle.sw_text_scan.proofs.Bounds.{if_true, run_stop}
use Rattle.sw_convert_texts.proofs.Pieces.{is_named, name_has as named_has}
use Rattle.sw_convert_texts.proofs.TextPieces.{has_text}

-- what opens a string with `#{}`, and a `#{}`
abbrev pub is_template : TokenKind → Bool
is_template kinds.Template = true
is_template _ = false

abbrev pub is_open : TokenKind → Bool
is_open kinds.OpenInterpolation = true
is_open _ = false

abbrev pub has_template : Option TokenKind → Bool
has_template None = false
has_template (Some kind) = is_template kind

abbrev pub has_open : Option TokenKind → Bool
has_open None = false
has_open (Some kind) = is_open kind

abbrev templateless : Option Piece → Bool
templateless None = true
templateless (Some p) = not (has_template p.token)

-- a string with `#{}` opens where no text up to its quote stands
pub record InTemplate (bs : List ℕ) (at : ℕ) (p : Piece) : Type 0 where
  pub quote : ℕ
  pub to_is : p.to ≡ at + 1
  pub change_is : p.change ≡ changes.Push (insides.Quotes quote)
  pub unquoted : (byte bs (run_end (classes.SheetText quote) bs (at + 1)) == quote) ≡ false

module _ (bs : List ℕ) (at : ℕ) where
  pick_open : (t : Bool) (x y : Option Piece) → templateless x ≡ true → templateless y ≡ true
      → templateless (if t then x else y) ≡ true
  pick_open true x y e f = e
  pick_open false x y e f = f

  of_named : (kind : TokenKind) → is_named kind ≡ true → (n : ℕ) (change : Change) → templateless (made kind n change) ≡ true
  of_named kinds.Template e n change = absurd (cc)
  of_named _ e n change = refl

  number_templateless : templateless (number_piece bs at) ≡ true
  unfolding number_piece
  number_templateless = kind ((run_end classes.Digit bs at == unit_start bs at) && not (byte bs (unit_start bs at) == sign "%"))
    where
      kind : (t : Bool)
          → templateless (made (if t then kinds.Digits else kinds.Number) (unit_end bs (unit_start bs at)) changes.Keep) ≡ true
      kind true = refl
      kind false = refl

  word_templateless : (top : Inside) (before : Before) → templateless (word_piece bs top before at) ≡ true
  unfolding word_piece
  word_templateless top before =
      pick_open (after_hash before && is_hex_form bs at) _ _ refl
      (pick_open (begins_number bs at) _ _ number_templateless
      (pick_open (not (after_dollar before) && begins_range bs at) _ _ refl
      (pick_open (begins_url bs at && (byte bs (url_close bs (url_class top) at) == sign ")")) _ _ refl
      (pick_open (opens_url bs top at) _ _ refl (named_has bs at (λ o. templateless o ≡ true) of_named)))))

  no_template : {P : Type 0} (o : Option Piece) (p : Piece) → templateless o ≡ true → o ≡ Some p → has_template p.token ≡ true
      → P
  no_template o p none is e = absurd (let wrong : true ≡ false = sym none ∙ ap templateless is ∙ ap not e in cc)

  code_by : (p : Piece) (w k u : Bool) (white quoted template others : Option Piece) → templateless white ≡ true
      → templateless quoted ≡ true → templateless others ≡ true
      → (if w then white else (if k then (if u then quoted else template) else others)) ≡ Some p
      → has_template p.token ≡ true → (u ≡ false) × (template ≡ Some p)
  code_by p true k u white quoted template others a b c is e = no_template white p a is e
  code_by p false true true white quoted template others a b c is e = no_template quoted p b is e
  code_by p false true false white quoted template others a b c is e = (refl, is)
  code_by p false false u white quoted template others a b c is e = no_template others p c is e

  code_template : (top : Inside) (before : Before) (p : Piece) → code_piece bs top before at ≡ Some p
      → has_template p.token ≡ true → InTemplate bs at p
  unfolding code_piece quote_piece loud_piece
  code_template top before p is e =
      let q = byte bs at in
      let (unquoted, same) = code_by p (is_white q) (is_quote q) (byte bs (run_end (classes.SheetText q) bs (at + 1)) == q) _ _
      (made kinds.Template (at + 1) (changes.Push (insides.Quotes q))) _ refl refl
      (pick_open (opens_at bs at) _ _ refl
      (pick_open ((byte bs at == sign "}") && in_interpolation top) _ _ refl
      (pick_open (begins_silent bs at) _ _ refl
      (pick_open (begins_loud bs at) _ _
      (pick_open (ends_loud bs (run_end classes.Comment bs (at + 2))) _ _ refl refl) (word_templateless top before)))))
      is e in record {
        quote = q;
        to_is = sym (ap (λ (o : Option Piece). (unwrap_or o p).to) same);
        change_is = sym (ap (λ (o : Option Piece). (unwrap_or o p).change) same);
        unquoted = unquoted;
      }

  pub in_template : (inside : Inside) (before : Before) (p : Piece) → piece bs inside before at ≡ Some p
      → has_template p.token ≡ true → InTemplate bs at p
  unfolding text_piece url_piece comment_piece css_piece css_quote css_loud
  in_template insides.Sheet before p is e = code_template insides.Sheet before p is e
  in_template insides.Interpolation before p is e = code_template insides.Interpolation before p is e
  in_template (insides.Quotes q) before p is e =
      no_template _ p
      (pick_open (byte bs at == q) _ _ refl
      (pick_open (opens_at bs at) _ _ refl
      (pick_open (nat_lt at (run_end (classes.SheetText q) bs at)) _ _ refl refl)))
      is e
  in_template insides.Comment before p is e =
      no_template _ p
      (pick_open (ends_loud bs at) _ _ refl
      (pick_open (opens_at bs at) _ _ refl (pick_open (nat_lt at (run_end classes.Comment bs at)) _ _ refl refl)))
      is e
  in_template insides.Url before p is e =
      no_template _ p
      (pick_open (byte bs at == sign ")") _ _ refl
      (pick_open (opens_at bs at) _ _ refl
      (pick_open (nat_lt at (run_end classes.Url bs at)) _ _ refl (pick_open (is_white (byte bs at)) _ _ refl refl))))
      is e
  in_template insides.UrlInside before p is e =
      no_template _ p
      (pick_open (byte bs at == sign ")") _ _ refl
      (pick_open (opens_at bs at) _ _ refl
      (pick_open (nat_lt at (run_end classes.UrlInside bs at)) _ _ refl (pick_open (is_white (byte bs at)) _ _ refl refl))))
      is e
  in_template insides.Css before p is e =
      no_template _ p
      (pick_open (is_white (byte bs at)) _ _ refl
      (pick_open (is_quote (byte bs at)) _ _
      (pick_open (byte bs (run_end (classes.Text (byte bs at)) bs (at + 1)) == byte bs at) _ _ refl refl)
      (pick_open (opens_at bs at) _ _ refl
      (pick_open (begins_silent bs at) _ _ refl
      (pick_open (begins_loud bs at) _ _
      (pick_open (ends_loud bs (run_end classes.CssComment bs (at + 2))) _ _ refl refl)
      (word_templateless insides.Css before))))))
      is e

  -- what begins in a string before whose end a `#{` stands
  pub record TextOnward (q : ℕ) (p : Piece) : Type 0 where
    pub text : has_text p.token ≡ true
    pub to_is : p.to ≡ run_end (classes.SheetText q) bs at
    pub change_is : p.change ≡ changes.Keep

  pub opens_in : (q : ℕ) (p : Piece) → (byte bs (run_end (classes.SheetText q) bs at) == q) ≡ false
      → text_piece bs q at ≡ Some p → (has_open p.token ≡ true) ⊎ TextOnward q p
  unfolding text_piece text_next
  opens_in q p unquoted =
      go (byte bs at == q) refl (opens_at bs at) (nat_lt at (run_end (classes.SheetText q) bs at))
    where
      back : Option Piece → Piece
      back o = unwrap_or o p

      stays : (byte bs at == q) ≡ true → run_end (classes.SheetText q) bs at ≡ at
      stays t =
          let none = if_true ((byte bs at == q) || (is_break (byte bs at) || (byte bs at == END))) at _
          (either (byte bs at == q) _ t) in
          run_stop bs (classes.SheetText q) at (same (opens_at bs at) none)
        where
          either : (a b : Bool) → a ≡ true → (a || b) ≡ true
          either true b e = refl
          either false b e = absurd (cc)

          same : (t : Bool) → text_next bs q at ≡ at → (if t then at else text_next bs q at) ≤ at
          same true e = omega arith
          same false e = omega (arith, e)

      go : (a : Bool) → (byte bs at == q) ≡ a → (b c : Bool)
          → (if a then made kinds.TemplateEnd (at + 1) changes.Pop
          else (if b then made kinds.OpenInterpolation (at + 2) (changes.Push insides.Interpolation)
          else (if c then made (kinds.Text (decoded (slice_range bs at (run_end (classes.SheetText q) bs at)))) (run_end (classes.SheetText q) bs at) changes.Keep else None))) ≡ Some p
          → (has_open p.token ≡ true) ⊎ TextOnward q p
      go true t b c is =
          absurd (let wrong : true ≡ false = sym t ∙ ap (λ (k : ℕ). byte bs k == q) (sym (stays t)) ∙ unquoted in cc)
      go false t true c is = inl (sym (ap (λ (o : Option Piece). has_open (back o).token) is))
      go false t false true is = inr (record {
        text = sym (ap (λ (o : Option Piece). has_text (back o).token) is);
        to_is = sym (ap (λ (o : Option Piece). (back o).to) is);
        change_is = sym (ap (λ (o : Option Piece). (back o).change) is);
      })
      go false t false false is = absurd (cc)
