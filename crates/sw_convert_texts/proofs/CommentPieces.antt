-- What a text has at a place, outside plain CSS: a loud comment without values runs to its `*/`, and nothing opens plain CSS.
use Rattle.std.proofs.Common.{◌≡◌, ℕ, ◌+◌, Bool, true, false, ◌&&◌, if◌then◌else◌, List, Option, Some, None, refl, sym, ◌∙◌}
use Rattle.std.specs.Prelude.{◌==◌}
use Rattle.sw_text_scan.specs.declared.runs.Class.{Class}
use Rattle.sw_text_scan.specs.declared.runs.Class.TheVariants as classes
use Rattle.sw_text_scan.specs.Bytes.{sign, byte, is_quote, is_white, is_letter, opens_at, begins_silent, begins_loud, ends_loud}
use Rattle.sw_text_scan.specs.Runs.{run_end, begins_name}
use Rattle.sw_tokens.specs.declared.pieces.Before.{Before}
use Rattle.sw_tokens.specs.declared.pieces.Change.{Change}
use Rattle.sw_tokens.specs.declared.pieces.Change.TheVariants as changes
use Rattle.sw_tokens.specs.declared.pieces.Piece.{Piece}
use Rattle.sw_tokens.specs.declared.skips.Inside.{Inside}
use Rattle.sw_tokens.specs.declared.skips.Inside.TheVariants as insides
use Rattle.sw_tokens.specs.declared.token.TokenKind.{TokenKind}
use Rattle.sw_tokens.specs.declared.token.TokenKind.TheVariants as kinds
use Rattle.sw_tokens.specs.Pieces.{made, made_white, piece, sign_of, sign_piece, letter_kind, dash_kind, name_piece, number_piece, url_inside, url_piece, word_piece, comment_piece, loud_piece, in_interpolation, code_piece, text_piece, quote_piece}

abbrev pub is_css : Inside → Bool
is_css insides.Css = true
is_css _ = false

abbrev pub pushes_css : Change → Bool
pushes_css (changes.Push inside) = is_css inside
pushes_css _ = false

abbrev pub is_loud : Option TokenKind → Bool
is_loud (Some kinds.Comment) = true
is_loud _ = false

-- from the `/*` at a place up to behind the `*/`
pub record Loud (bs : List ℕ) (at to : ℕ) : Type 0 where
  pub begins : begins_loud bs at ≡ true
  pub ends : ends_loud bs (run_end classes.Comment bs (at + 2)) ≡ true
  pub to_is : to ≡ run_end classes.Comment bs (at + 2) + 2

pub record Good (bs : List ℕ) (at : ℕ) (p : Piece) : Type 0 where
  pub loud : is_loud p.token ≡ true → Loud bs at p.to
  pub calm : pushes_css p.change ≡ false

abbrev pub GoodIn : List ℕ → ℕ → Option Piece → Type 0
GoodIn bs at None = Unit {0}
GoodIn bs at (Some p) = Good bs at p

-- ---- kinds

pick_no : (t : Bool) (x y : TokenKind) → is_loud (Some x) ≡ false → is_loud (Some y) ≡ false
    → is_loud (Some (if t then x else y)) ≡ false
pick_no true x y e f = e
pick_no false x y e f = f

sign_no : (b : ℕ) → is_loud (Some (sign_of b)) ≡ false
sign_no b =
    pick_no (b == sign "{") kinds.OpenBrace _ refl (pick_no (b == sign "}") kinds.CloseBrace _ refl
    (pick_no (b == sign "(") kinds.OpenParen _ refl (pick_no (b == sign ")") kinds.CloseParen _ refl
    (pick_no (b == sign "[") kinds.OpenBracket _ refl (pick_no (b == sign "]") kinds.CloseBracket _ refl
    (pick_no (b == sign ":") kinds.Colon _ refl (pick_no (b == sign ";") kinds.Semicolon _ refl
    (pick_no (b == sign ",") kinds.Comma _ refl (pick_no (b == sign ".") kinds.Dot _ refl
    (pick_no (b == sign "$") kinds.Dollar _ refl (pick_no (b == sign "#") kinds.Hash _ refl
    (pick_no (b == sign "!") kinds.Exclamation _ refl (pick_no (b == sign "&") kinds.Ampersand _ refl
    (pick_no (b == sign "+") kinds.Plus _ refl (pick_no (b == sign "-") kinds.Minus _ refl
    (pick_no (b == sign "*") kinds.Star _ refl (pick_no (b == sign "/") kinds.Slash _ refl
    (pick_no (b == sign "%") kinds.Percent _ refl (pick_no (b == sign "=") kinds.Equals _ refl
    (pick_no (b == sign "<") kinds.Less _ refl (pick_no (b == sign ">") kinds.Greater _ refl
    (pick_no (b == sign "@") kinds.At kinds.Other refl refl))))))))))))))))))))))

letter_no : (plain to : ℕ) → is_loud (Some (letter_kind plain to)) ≡ false
letter_no plain to = pick_no (plain == to) kinds.Word kinds.Name refl refl

dash_no : (bs : List ℕ) (at : ℕ) → is_loud (Some (dash_kind bs at)) ≡ false
dash_no bs at =
    pick_no ((byte bs at == sign "-") && (byte bs (at + 1) == sign "-")) kinds.DashedName kinds.Name refl refl

url_no : (top : Inside) → is_css (url_inside top) ≡ false
url_no insides.Sheet = refl
url_no _ = refl

-- what holds of each such piece
module _ (bs : List ℕ) (at : ℕ) (P : Option Piece → Type 0) (none : P None) (white : (to : ℕ) → P (made_white to))
    (other : (kind : TokenKind) (to : ℕ) (change : Change) → is_loud (Some kind) ≡ false → pushes_css change ≡ false
    → P (made kind to change))
    (whole : begins_loud bs at ≡ true → ends_loud bs (run_end classes.Comment bs (at + 2)) ≡ true
    → P (made kinds.Comment (run_end classes.Comment bs (at + 2) + 2) changes.Keep)) where
  choose : (t : Bool) (x y : Option Piece) → P x → P y → P (if t then x else y)
  choose true x y p q = p
  choose false x y p q = q

  when : (t : Bool) (x y : Option Piece) → (t ≡ true → P x) → P y → P (if t then x else y)
  when true x y p q = p refl
  when false x y p q = q

  sign_good : P (sign_piece bs at)
  unfolding sign_piece
  sign_good =
      choose _ _ _ (other kinds.Ellipsis _ changes.Keep refl refl)
      (choose _ _ _ (other kinds.EqualsEquals _ changes.Keep refl refl)
      (choose _ _ _ (other kinds.NotEquals _ changes.Keep refl refl)
      (choose _ _ _ (other kinds.LessEquals _ changes.Keep refl refl)
      (choose _ _ _ (other kinds.GreaterEquals _ changes.Keep refl refl)
      (other (sign_of (byte bs at)) _ changes.Keep (sign_no (byte bs at)) refl)))))

  name_good : P (name_piece bs at)
  unfolding name_piece
  name_good =
      choose (is_letter (byte bs at)) _ _ (other (letter_kind _ _) _ changes.Keep (letter_no _ _) refl)
      (choose (begins_name bs at) _ _ (other (dash_kind bs at) _ changes.Keep (dash_no bs at) refl)
      (choose ((byte bs at == sign "@") && begins_name bs (at + 1)) _ _ (other kinds.AtName _ changes.Keep refl refl)
      sign_good))

  number_good : P (number_piece bs at)
  unfolding number_piece
  number_good = other _ _ changes.Keep (pick_no _ kinds.Digits kinds.Number refl refl) refl

  word_good : (top : Inside) (before : Before) → P (word_piece bs top before at)
  unfolding word_piece
  word_good top before =
      choose _ _ _ (other kinds.Hex _ changes.Keep refl refl)
      (choose _ _ _ number_good
      (choose _ _ _ (other kinds.UnicodeRange _ changes.Keep refl refl)
      (choose _ _ _ (other kinds.Url _ changes.Keep refl refl)
      (choose _ _ _ (other kinds.UrlTemplate _ (changes.Push (url_inside top)) refl (url_no top)) name_good))))

  quote_good : (q : ℕ) → P (quote_piece bs q at)
  unfolding quote_piece
  quote_good q =
      choose _ _ _ (other (kinds.Quoted _) _ changes.Keep refl refl)
      (other kinds.Template _ (changes.Push (insides.Quotes q)) refl refl)

  loud_good : begins_loud bs at ≡ true → P (loud_piece bs at)
  unfolding loud_piece
  loud_good begins =
      when (ends_loud bs (run_end classes.Comment bs (at + 2))) _ _
      (whole begins)
      (other kinds.CommentTemplate _ (changes.Push insides.Comment) refl refl)

  code_good : (top : Inside) (before : Before) → P (code_piece bs top before at)
  unfolding code_piece
  code_good top before =
      choose (is_white (byte bs at)) _ _ (white _)
      (choose (is_quote (byte bs at)) _ _ (quote_good (byte bs at))
      (choose (opens_at bs at) _ _ (other kinds.OpenInterpolation _ (changes.Push insides.Interpolation) refl refl)
      (choose ((byte bs at == sign "}") && in_interpolation top) _ _ (other kinds.CloseInterpolation _ changes.Pop refl refl)
      (choose (begins_silent bs at) _ _ (white _)
      (when (begins_loud bs at) _ _ loud_good (word_good top before))))))

  text_good : (q : ℕ) → P (text_piece bs q at)
  unfolding text_piece
  text_good q =
      choose _ _ _ (other kinds.TemplateEnd _ changes.Pop refl refl)
      (choose _ _ _ (other kinds.OpenInterpolation _ (changes.Push insides.Interpolation) refl refl)
      (choose _ _ _ (other (kinds.Text _) _ changes.Keep refl refl) none))

  url_good : (class : Class) → P (url_piece bs class at)
  unfolding url_piece
  url_good class =
      choose _ _ _ (other kinds.UrlEnd _ changes.Pop refl refl)
      (choose _ _ _ (other kinds.OpenInterpolation _ (changes.Push insides.Interpolation) refl refl)
      (choose _ _ _ (other kinds.Piece _ changes.Keep refl refl) (choose _ _ _ (white _) none)))

  comment_good : P (comment_piece bs at)
  unfolding comment_piece
  comment_good =
      choose _ _ _ (other kinds.CommentEnd _ changes.Pop refl refl)
      (choose _ _ _ (other kinds.OpenInterpolation _ (changes.Push insides.Interpolation) refl refl)
      (choose _ _ _ (other kinds.Piece _ changes.Keep refl refl) none))

  piece_has : (inside : Inside) (before : Before) → is_css inside ≡ false → P (piece bs inside before at)
  piece_has insides.Sheet before e = code_good insides.Sheet before
  piece_has insides.Interpolation before e = code_good insides.Interpolation before
  piece_has (insides.Quotes q) before e = text_good q
  piece_has insides.Comment before e = comment_good
  piece_has insides.Url before e = url_good classes.Url
  piece_has insides.UrlInside before e = url_good classes.UrlInside
  piece_has insides.Css before e = absurd (cc)

pub piece_good : (bs : List ℕ) (at : ℕ) (inside : Inside) (before : Before) → is_css inside ≡ false
    → GoodIn bs at (piece bs inside before at)
piece_good bs at inside before e =
    piece_has bs at (GoodIn bs at) tt (λ to. record { loud = λ l. absurd (cc); calm = refl })
    (λ kind to change l c. record { loud = λ y. absurd (let no : true ≡ false = sym y ∙ l in cc); calm = c })
    (λ begins ends. record { loud = λ l. record { begins = begins; ends = ends; to_is = refl }; calm = refl }) inside before e
