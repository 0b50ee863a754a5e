-- Behind any other text, the piece that begins at a place is the one that begins there in a text by itself.
use Rattle.std.proofs.Common.{◌≡◌, ℕ, ◌+◌, ◌-◌, Bool, true, false, not, ◌&&◌, if◌then◌else◌, List, ◌++◌, length, refl, ◌∙◌, ap, arith, Option, Some, None}
use Rattle.std.specs.Prelude.{◌==◌, nat_lt, slice_range}
use Rattle.std.proofs.lemmas.Bool.Decides.{nat_tests}
use Rattle.sw_text_scan.specs.declared.runs.Class.{Class}
use Rattle.sw_text_scan.specs.declared.runs.Class.TheVariants as classes
use Rattle.sw_text_scan.specs.Bytes.{sign, is_quote, byte, is_white, is_letter, opens_at, begins_silent, begins_loud, ends_loud}
use Rattle.sw_text_scan.specs.Runs.{next, run_end, begins_name}
use Rattle.sw_text_scan.specs.Words.{unit_start, unit_end, begins_number, begins_range, begins_url, url_close}
use Rattle.sw_text_scan.proofs.Bounds.{run_forward}
use Rattle.sw_tokens.specs.declared.token.TokenKind.{TokenKind}
use Rattle.sw_tokens.specs.declared.token.TokenKind.TheVariants as kinds
use Rattle.sw_tokens.specs.declared.skips.Inside.{Inside}
use Rattle.sw_tokens.specs.declared.skips.Inside.TheVariants as insides
use Rattle.sw_tokens.specs.declared.pieces.Before.{Before}
use Rattle.sw_tokens.specs.declared.pieces.Change.{Change}
use Rattle.sw_tokens.specs.declared.pieces.Change.TheVariants as changes
use Rattle.sw_tokens.specs.declared.pieces.Piece.{Piece}
use Rattle.sw_tokens.specs.Decoded.{decoded}
use Rattle.sw_tokens.specs.Pieces.{made, made_white, text_piece, quote_piece, sign_of, sign_piece, letter_kind, dash_kind, name_piece, has_hex_length, is_hex_form, number_kind, number_piece, url_class, url_inside, is_open_ended, opens_url, url_piece, after_dollar, after_hash, word_piece, comment_piece, loud_piece, in_interpolation, code_piece, css_quote, css_loud, css_piece, piece}
use Rattle.sw_tokens.specs.Skips.{closes_url}
use Rattle.sw_convert_spelling.proofs.MovedRuns as runs
use Rattle.sw_convert_spelling.proofs.MovedSkips.{closes_moved}

-- a piece so many bytes further on
abbrev pub moved : ℕ → Option Piece → Option Piece
moved n None = None
moved n (Some p) = Some (record { token = p.token; to = n + p.to; change = p.change })

module _ (front bs : List ℕ) where
  abbrev cs : List ℕ
  cs = front ++ bs

  abbrev d : ℕ
  d = length front

  pick : (t u : Bool) (a b x y : Option Piece) → t ≡ u → a ≡ moved d x → b ≡ moved d y → (if t then a else b) ≡ moved d (if u then x else y)
  pick true true a b x y e f g = f
  pick false false a b x y e f g = g
  pick true false a b x y e f g = absurd (cc)
  pick false true a b x y e f g = absurd (cc)

  at_end : (kind : TokenKind) (a x : ℕ) (change : Change) → a ≡ d + x → made kind a change ≡ moved d (made kind x change)
  at_end kind a x change e = ap (λ (k : ℕ). made kind k change) e

  both : (k l : TokenKind) (a x : ℕ) (change : Change) → k ≡ l → a ≡ d + x → made k a change ≡ moved d (made l x change)
  both k l a x change e f = ap (λ (kind : TokenKind). made kind a change) e ∙ at_end l a x change f

  white : (a x : ℕ) → a ≡ d + x → made_white a ≡ moved d (made_white x)
  white a x e = ap made_white e

  goes_moved : (class : Class) (i : ℕ) → nat_lt (d + i) (run_end class cs (d + i)) ≡ nat_lt i (run_end class bs i)
  goes_moved class i = ap (nat_lt (d + i)) (runs.run_moved front bs class i) ∙ runs.less front bs i (run_end class bs i)

  opening : (i : ℕ) → made kinds.OpenInterpolation ((d + i) + 2) (changes.Push insides.Interpolation) ≡ moved d (made kinds.OpenInterpolation (i + 2) (changes.Push insides.Interpolation))
  opening i = at_end kinds.OpenInterpolation ((d + i) + 2) (i + 2) (changes.Push insides.Interpolation) (runs.plus front bs i 2)

  text_moved : (q i : ℕ) → text_piece cs q (d + i) ≡ moved d (text_piece bs q i)
  unfolding text_piece
  text_moved q i =
      pick _ (byte bs i == q) _ _ (made kinds.TemplateEnd (i + 1) changes.Pop) _ (runs.one front bs (λ b. b == q) i) (at_end kinds.TemplateEnd _ (i + 1) changes.Pop (runs.plus front bs i 1))
      (pick _ (opens_at bs i) _ _ (made kinds.OpenInterpolation (i + 2) (changes.Push insides.Interpolation)) _ (runs.opens_moved front bs i) (opening i)
      (pick _ (nat_lt i (run_end (classes.SheetText q) bs i)) _ _ (made (kinds.Text (decoded (slice_range bs i (run_end (classes.SheetText q) bs i)))) (run_end (classes.SheetText q) bs i) changes.Keep) None
      (goes_moved (classes.SheetText q) i)
      (both _ (kinds.Text (decoded (slice_range bs i (run_end (classes.SheetText q) bs i)))) _ (run_end (classes.SheetText q) bs i) changes.Keep
      (ap (λ (k : ℕ). kinds.Text (decoded (slice_range cs (d + i) k))) (runs.run_moved front bs (classes.SheetText q) i)
      ∙ ap (λ (xs : List ℕ). kinds.Text (decoded xs)) (runs.range_same front bs i (run_end (classes.SheetText q) bs i)))
      (runs.run_moved front bs (classes.SheetText q) i)) refl))

  quoted : (class : Class) (i : ℕ)
      → made (kinds.Quoted (decoded (slice_range cs ((d + i) + 1) (run_end class cs ((d + i) + 1))))) (run_end class cs ((d + i) + 1) + 1) changes.Keep
      ≡ moved d (made (kinds.Quoted (decoded (slice_range bs (i + 1) (run_end class bs (i + 1))))) (run_end class bs (i + 1) + 1) changes.Keep)
  quoted class i =
      both _ (kinds.Quoted (decoded (slice_range bs (i + 1) (run_end class bs (i + 1))))) _ (run_end class bs (i + 1) + 1) changes.Keep
      (ap (λ (k : ℕ). kinds.Quoted (decoded (slice_range cs ((d + i) + 1) k))) (runs.run_later front bs class i 1)
      ∙ ap (λ (k : ℕ). kinds.Quoted (decoded (slice_range cs k (d + run_end class bs (i + 1))))) (runs.plus front bs i 1)
      ∙ ap (λ (xs : List ℕ). kinds.Quoted (decoded xs)) (runs.range_same front bs (i + 1) (run_end class bs (i + 1))))
      (ap (λ (k : ℕ). k + 1) (runs.run_later front bs class i 1) ∙ runs.plus front bs (run_end class bs (i + 1)) 1)

  ends_at : (class : Class) (q i : ℕ) → (byte cs (run_end class cs ((d + i) + 1)) == q) ≡ (byte bs (run_end class bs (i + 1)) == q)
  ends_at class q i = ap (λ (k : ℕ). byte cs k == q) (runs.run_later front bs class i 1) ∙ runs.one front bs (λ b. b == q) (run_end class bs (i + 1))

  quote_moved : (q i : ℕ) → quote_piece cs q (d + i) ≡ moved d (quote_piece bs q i)
  unfolding quote_piece
  quote_moved q i =
      pick _ (byte bs (run_end (classes.SheetText q) bs (i + 1)) == q) _ _ _ (made kinds.Template (i + 1) (changes.Push (insides.Quotes q))) (ends_at (classes.SheetText q) q i) (quoted (classes.SheetText q) i)
      (at_end kinds.Template _ (i + 1) (changes.Push (insides.Quotes q)) (runs.plus front bs i 1))

  pair : (kind : TokenKind) (a b : ℕ) (i : ℕ) (x y : Option Piece) → x ≡ moved d y
      → (if (byte cs (d + i) == a) && (byte cs ((d + i) + 1) == b) then made kind ((d + i) + 2) changes.Keep else x)
      ≡ moved d (if (byte bs i == a) && (byte bs (i + 1) == b) then made kind (i + 2) changes.Keep else y)
  pair kind a b i x y e =
      pick _ ((byte bs i == a) && (byte bs (i + 1) == b)) _ _ (made kind (i + 2) changes.Keep) y (runs.two front bs (λ c. c == a) (λ c. c == b) i)
      (at_end kind ((d + i) + 2) (i + 2) changes.Keep (runs.plus front bs i 2)) e

  sign_moved : (i : ℕ) → sign_piece cs (d + i) ≡ moved d (sign_piece bs i)
  unfolding sign_piece
  sign_moved i =
      pick _ ((byte bs i == sign ".") && ((byte bs (i + 1) == sign ".") && (byte bs (i + 2) == sign "."))) _ _ (made kinds.Ellipsis (i + 3) changes.Keep) _
      (runs.both_same front bs _ _ _ _ (runs.one front bs (λ b. b == sign ".") i) (runs.both_same front bs _ _ _ _ (runs.later front bs (λ b. b == sign ".") i 1) (runs.later front bs (λ b. b == sign ".") i 2)))
      (at_end kinds.Ellipsis _ (i + 3) changes.Keep (runs.plus front bs i 3))
      (pair kinds.EqualsEquals (sign "=") (sign "=") i _ _ (pair kinds.NotEquals (sign "!") (sign "=") i _ _ (pair kinds.LessEquals (sign "<") (sign "=") i _ _ (pair kinds.GreaterEquals (sign ">") (sign "=") i _ _
      (both (sign_of (byte cs (d + i))) (sign_of (byte bs i)) _ (i + 1) changes.Keep (ap sign_of (runs.at_byte front bs i)) (runs.plus front bs i 1))))))

  equal_moved : (i j : ℕ) → (d + i == d + j) ≡ (i == j)
  equal_moved i j = go (i == j) refl
    where
      go : (t : Bool) → (i == j) ≡ t → (d + i == d + j) ≡ t
      go true e = grind (arith, nat_tests)
      go false e = grind (arith, nat_tests)

  letters_moved : (i j : ℕ) → letter_kind (d + i) (d + j) ≡ letter_kind i j
  letters_moved i j = ap (λ (t : Bool). if t then kinds.Word else kinds.Name) (equal_moved i j)

  name_moved : (i : ℕ) → name_piece cs (d + i) ≡ moved d (name_piece bs i)
  unfolding name_piece
  name_moved i =
      let word = runs.run_moved front bs classes.Word i in
      let name = ap (run_end classes.Name cs) word ∙ runs.run_moved front bs classes.Name (run_end classes.Word bs i) in
      pick _ (is_letter (byte bs i)) _ _ (made (letter_kind (run_end classes.Word bs i) (run_end classes.Name bs (run_end classes.Word bs i))) (run_end classes.Name bs (run_end classes.Word bs i)) changes.Keep) _ (runs.one front bs is_letter i)
      (both _ (letter_kind (run_end classes.Word bs i) (run_end classes.Name bs (run_end classes.Word bs i))) _ (run_end classes.Name bs (run_end classes.Word bs i)) changes.Keep
      (ap (λ (k : ℕ). letter_kind k (run_end classes.Name cs (run_end classes.Word cs (d + i)))) word ∙ ap (letter_kind (d + run_end classes.Word bs i)) name
      ∙ letters_moved (run_end classes.Word bs i) (run_end classes.Name bs (run_end classes.Word bs i))) name)
      (pick _ (begins_name bs i) _ _ (made (dash_kind bs i) (run_end classes.Name bs i) changes.Keep) _ (runs.name_moved front bs i)
      (both _ (dash_kind bs i) _ (run_end classes.Name bs i) changes.Keep (ap (λ (t : Bool). if t then kinds.DashedName else kinds.Name) (runs.two front bs (λ b. b == sign "-") (λ b. b == sign "-") i))
      (runs.run_moved front bs classes.Name i))
      (pick _ ((byte bs i == sign "@") && begins_name bs (i + 1)) _ _ (made kinds.AtName (run_end classes.Name bs (i + 1)) changes.Keep) (sign_piece bs i)
      (runs.both_same front bs _ _ _ _ (runs.one front bs (λ b. b == sign "@") i) (ap (begins_name cs) (runs.plus front bs i 1) ∙ runs.name_moved front bs (i + 1)))
      (at_end kinds.AtName _ (run_end classes.Name bs (i + 1)) changes.Keep (runs.run_later front bs classes.Name i 1)) (sign_moved i)))

  hex_moved : (i : ℕ) → is_hex_form cs (d + i) ≡ is_hex_form bs i
  unfolding is_hex_form
  hex_moved i =
      let run = runs.run_moved front bs classes.HexDigit i in
      runs.both_same front bs _ _ _ _
      (ap has_hex_length (ap (λ (k : ℕ). k - (d + i)) run ∙ (let e : (d + run_end classes.HexDigit bs i) - (d + i) ≡ run_end classes.HexDigit bs i - i = omega arith in e)))
      (ap not (ap (λ (k : ℕ). nat_lt k (next classes.Name cs k)) run ∙ ap (nat_lt (d + run_end classes.HexDigit bs i)) (runs.next_moved front bs classes.Name (run_end classes.HexDigit bs i))
      ∙ runs.less front bs (run_end classes.HexDigit bs i) (next classes.Name bs (run_end classes.HexDigit bs i))))

  number_moved : (i : ℕ) → number_piece cs (d + i) ≡ moved d (number_piece bs i)
  unfolding number_piece
  number_moved i =
      let run = runs.run_moved front bs classes.Digit i in
      let unit = runs.start_moved front bs i in
      both _ (number_kind bs (run_end classes.Digit bs i) (unit_start bs i)) _ (unit_end bs (unit_start bs i)) changes.Keep
      (ap (λ (k : ℕ). number_kind cs k (unit_start cs (d + i))) run ∙ ap (number_kind cs (d + run_end classes.Digit bs i)) unit
      ∙ ap (λ (t : Bool). if t then kinds.Digits else kinds.Number)
      (runs.both_same front bs _ _ _ _ (equal_moved (run_end classes.Digit bs i) (unit_start bs i)) (runs.one front bs (λ b. not (b == sign "%")) (unit_start bs i))))
      (ap (unit_end cs) unit ∙ runs.unit_moved front bs (unit_start bs i))

  opens_url_moved : (top : Inside) (i : ℕ) → opens_url cs top (d + i) ≡ opens_url bs top i
  unfolding opens_url
  opens_url_moved top i =
      let on = run_forward bs classes.White (i + 4) in
      ap (λ (t : Bool). is_open_ended top && t)
      (runs.both_same front bs _ _ _ _ (runs.url_moved front bs i)
      (ap (closes_url cs (url_inside top)) (runs.run_later front bs classes.White i 4) ∙ closes_moved front bs (url_inside top) (run_end classes.White bs (i + 4)) (omega (arith, on))))

  url_moved : (class : Class) (i : ℕ) → url_piece cs class (d + i) ≡ moved d (url_piece bs class i)
  unfolding url_piece
  url_moved class i =
      pick _ (byte bs i == sign ")") _ _ (made kinds.UrlEnd (i + 1) changes.Pop) _ (runs.one front bs (λ b. b == sign ")") i) (at_end kinds.UrlEnd _ (i + 1) changes.Pop (runs.plus front bs i 1))
      (pick _ (opens_at bs i) _ _ (made kinds.OpenInterpolation (i + 2) (changes.Push insides.Interpolation)) _ (runs.opens_moved front bs i) (opening i)
      (pick _ (nat_lt i (run_end class bs i)) _ _ (made kinds.Piece (run_end class bs i) changes.Keep) _ (goes_moved class i) (at_end kinds.Piece _ (run_end class bs i) changes.Keep (runs.run_moved front bs class i))
      (pick _ (is_white (byte bs i)) _ _ (made_white (run_end classes.White bs i)) None (runs.one front bs is_white i) (white _ (run_end classes.White bs i) (runs.run_moved front bs classes.White i)) refl)))

  word_moved : (top : Inside) (before : Before) (i : ℕ) → word_piece cs top before (d + i) ≡ moved d (word_piece bs top before i)
  unfolding word_piece
  word_moved top before i =
      pick _ (after_hash before && is_hex_form bs i) _ _ (made kinds.Hex (run_end classes.HexDigit bs i) changes.Keep) _ (ap (λ (t : Bool). after_hash before && t) (hex_moved i))
      (at_end kinds.Hex _ (run_end classes.HexDigit bs i) changes.Keep (runs.run_moved front bs classes.HexDigit i))
      (pick _ (begins_number bs i) _ _ (number_piece bs i) _ (runs.number_moved front bs i) (number_moved i)
      (pick _ (not (after_dollar before) && begins_range bs i) _ _ (made kinds.UnicodeRange (run_end classes.Range bs (i + 2)) changes.Keep) _ (ap (λ (t : Bool). not (after_dollar before) && t) (runs.range_moved front bs i))
      (at_end kinds.UnicodeRange _ (run_end classes.Range bs (i + 2)) changes.Keep (runs.run_later front bs classes.Range i 2))
      (pick _ (begins_url bs i && (byte bs (url_close bs (url_class top) i) == sign ")")) _ _ (made kinds.Url (url_close bs (url_class top) i + 1) changes.Keep) _
      (runs.both_same front bs _ _ _ _ (runs.url_moved front bs i)
      (ap (λ (k : ℕ). byte cs k == sign ")") (runs.close_moved front bs (url_class top) i) ∙ runs.one front bs (λ b. b == sign ")") (url_close bs (url_class top) i)))
      (at_end kinds.Url _ (url_close bs (url_class top) i + 1) changes.Keep (ap (λ (k : ℕ). k + 1) (runs.close_moved front bs (url_class top) i) ∙ runs.plus front bs (url_close bs (url_class top) i) 1))
      (pick _ (opens_url bs top i) _ _ (made kinds.UrlTemplate (run_end classes.White bs (i + 4)) (changes.Push (url_inside top))) (name_piece bs i) (opens_url_moved top i)
      (at_end kinds.UrlTemplate _ (run_end classes.White bs (i + 4)) (changes.Push (url_inside top)) (runs.run_later front bs classes.White i 4)) (name_moved i)))))

  comment_moved : (i : ℕ) → comment_piece cs (d + i) ≡ moved d (comment_piece bs i)
  unfolding comment_piece
  comment_moved i =
      pick _ (ends_loud bs i) _ _ (made kinds.CommentEnd (i + 2) changes.Pop) _ (runs.ends_moved front bs i) (at_end kinds.CommentEnd _ (i + 2) changes.Pop (runs.plus front bs i 2))
      (pick _ (opens_at bs i) _ _ (made kinds.OpenInterpolation (i + 2) (changes.Push insides.Interpolation)) _ (runs.opens_moved front bs i) (opening i)
      (pick _ (nat_lt i (run_end classes.Comment bs i)) _ _ (made kinds.Piece (run_end classes.Comment bs i) changes.Keep) None (goes_moved classes.Comment i)
      (at_end kinds.Piece _ (run_end classes.Comment bs i) changes.Keep (runs.run_moved front bs classes.Comment i)) refl))

  loud_end : (class : Class) (i : ℕ) → ends_loud cs (run_end class cs ((d + i) + 2)) ≡ ends_loud bs (run_end class bs (i + 2))
  loud_end class i = ap (ends_loud cs) (runs.run_later front bs class i 2) ∙ runs.ends_moved front bs (run_end class bs (i + 2))

  whole_comment : (class : Class) (i : ℕ) → made kinds.Comment (run_end class cs ((d + i) + 2) + 2) changes.Keep ≡ moved d (made kinds.Comment (run_end class bs (i + 2) + 2) changes.Keep)
  whole_comment class i =
      at_end kinds.Comment _ (run_end class bs (i + 2) + 2) changes.Keep (ap (λ (k : ℕ). k + 2) (runs.run_later front bs class i 2) ∙ runs.plus front bs (run_end class bs (i + 2)) 2)

  loud_moved : (i : ℕ) → loud_piece cs (d + i) ≡ moved d (loud_piece bs i)
  unfolding loud_piece
  loud_moved i =
      pick _ (ends_loud bs (run_end classes.Comment bs (i + 2))) _ _ _ (made kinds.CommentTemplate (i + 2) (changes.Push insides.Comment)) (loud_end classes.Comment i) (whole_comment classes.Comment i)
      (at_end kinds.CommentTemplate _ (i + 2) (changes.Push insides.Comment) (runs.plus front bs i 2))

  at_quote : (f : List ℕ → ℕ → ℕ → Option Piece) (i : ℕ) → ((q : ℕ) → f cs q (d + i) ≡ moved d (f bs q i)) → f cs (byte cs (d + i)) (d + i) ≡ moved d (f bs (byte bs i) i)
  at_quote f i h = ap (λ (q : ℕ). f cs q (d + i)) (runs.at_byte front bs i) ∙ h (byte bs i)

  silent : (i : ℕ) → begins_silent cs (d + i) ≡ begins_silent bs i
  silent i = runs.two front bs (λ b. b == sign "/") (λ b. b == sign "/") i

  loud : (i : ℕ) → begins_loud cs (d + i) ≡ begins_loud bs i
  loud i = runs.two front bs (λ b. b == sign "/") (λ b. b == sign "*") i

  code_moved : (top : Inside) (before : Before) (i : ℕ) → code_piece cs top before (d + i) ≡ moved d (code_piece bs top before i)
  unfolding code_piece
  code_moved top before i =
      pick _ (is_white (byte bs i)) _ _ (made_white (run_end classes.White bs i)) _ (runs.one front bs is_white i) (white _ (run_end classes.White bs i) (runs.run_moved front bs classes.White i))
      (pick _ (is_quote (byte bs i)) _ _ (quote_piece bs (byte bs i) i) _ (runs.one front bs is_quote i) (at_quote quote_piece i (λ q. quote_moved q i))
      (pick _ (opens_at bs i) _ _ (made kinds.OpenInterpolation (i + 2) (changes.Push insides.Interpolation)) _ (runs.opens_moved front bs i) (opening i)
      (pick _ ((byte bs i == sign "}") && in_interpolation top) _ _ (made kinds.CloseInterpolation (i + 1) changes.Pop) _ (ap (λ (t : Bool). t && in_interpolation top) (runs.one front bs (λ b. b == sign "}") i))
      (at_end kinds.CloseInterpolation _ (i + 1) changes.Pop (runs.plus front bs i 1))
      (pick _ (begins_silent bs i) _ _ (made_white (run_end classes.Line bs (i + 2))) _ (silent i) (white _ (run_end classes.Line bs (i + 2)) (runs.run_later front bs classes.Line i 2))
      (pick _ (begins_loud bs i) _ _ (loud_piece bs i) (word_piece bs top before i) (loud i) (loud_moved i) (word_moved top before i))))))

  css_quote_moved : (q i : ℕ) → css_quote cs q (d + i) ≡ moved d (css_quote bs q i)
  unfolding css_quote
  css_quote_moved q i = pick _ (byte bs (run_end (classes.Text q) bs (i + 1)) == q) _ _ _ None (ends_at (classes.Text q) q i) (quoted (classes.Text q) i) refl

  css_loud_moved : (i : ℕ) → css_loud cs (d + i) ≡ moved d (css_loud bs i)
  unfolding css_loud
  css_loud_moved i = pick _ (ends_loud bs (run_end classes.CssComment bs (i + 2))) _ _ _ None (loud_end classes.CssComment i) (whole_comment classes.CssComment i) refl

  css_moved : (before : Before) (i : ℕ) → css_piece cs before (d + i) ≡ moved d (css_piece bs before i)
  unfolding css_piece
  css_moved before i =
      pick _ (is_white (byte bs i)) _ _ (made_white (run_end classes.White bs i)) _ (runs.one front bs is_white i) (white _ (run_end classes.White bs i) (runs.run_moved front bs classes.White i))
      (pick _ (is_quote (byte bs i)) _ _ (css_quote bs (byte bs i) i) _ (runs.one front bs is_quote i) (at_quote css_quote i (λ q. css_quote_moved q i))
      (pick _ (opens_at bs i) _ _ (made kinds.OpenInterpolation (i + 2) changes.Keep) _ (runs.opens_moved front bs i) (at_end kinds.OpenInterpolation _ (i + 2) changes.Keep (runs.plus front bs i 2))
      (pick _ (begins_silent bs i) _ _ (made kinds.DoubleSlash (i + 2) changes.Keep) _ (silent i) (at_end kinds.DoubleSlash _ (i + 2) changes.Keep (runs.plus front bs i 2))
      (pick _ (begins_loud bs i) _ _ (css_loud bs i) (word_piece bs insides.Css before i) (loud i) (css_loud_moved i) (word_moved insides.Css before i)))))

  pub piece_moved : (inside : Inside) (before : Before) (i : ℕ) → piece cs inside before (d + i) ≡ moved d (piece bs inside before i)
  piece_moved insides.Css before i = css_moved before i
  piece_moved (insides.Quotes q) before i = text_moved q i
  piece_moved insides.Url before i = url_moved classes.Url i
  piece_moved insides.UrlInside before i = url_moved classes.UrlInside i
  piece_moved insides.Comment before i = comment_moved i
  piece_moved insides.Sheet before i = code_moved insides.Sheet before i
  piece_moved insides.Interpolation before i = code_moved insides.Interpolation before i
