-- Tests of bytes, and choices of pieces that are made again in another text.
use Rattle.std.proofs.Common.{◌≡◌, ℕ, ◌≤◌, ◌<◌, Bool, true, false, not, ◌&&◌, ◌||◌, ◌⊎◌, if◌then◌else◌, refl, sym, ◌∙◌, ap, arith, Option, Some, None, is_some}
use Rattle.std.specs.Prelude.{◌==◌}
use Rattle.sw_text_scan.specs.Bytes.{sign}
use Rattle.sw_text_scan.proofs.Bounds.{if_true, if_false, or_left, or_right}
use Rattle.sw_tokens.specs.declared.pieces.Change.{Change}
use Rattle.sw_tokens.specs.declared.pieces.Piece.{Piece}
use Rattle.sw_tokens.specs.declared.token.TokenKind.{TokenKind}
use Rattle.sw_tokens.specs.declared.token.TokenKind.TheVariants as kinds
use Rattle.sw_tokens.specs.Pieces.{made, made_white}

pub left_no : (a b : Bool) → a ≡ false → (a && b) ≡ false
left_no true b e = absurd (cc)
left_no false b e = refl

pub right_no : (a b : Bool) → b ≡ false → (a && b) ≡ false
right_no true b e = e
right_no false b e = refl

pub both : (a b : Bool) → a ≡ true → b ≡ true → (a && b) ≡ true
both true b e f = f
both false b e f = absurd (cc)

pub neither : (a b : Bool) → a ≡ false → b ≡ false → (a || b) ≡ false
neither true b e f = absurd (cc)
neither false b e f = f

-- of two that aren't both, the second where the first is
pub other_no : (a b : Bool) → (a && b) ≡ false → a ≡ true → b ≡ false
other_no true b e f = e
other_no false b e f = absurd (cc)

-- what has a first part
pub less_no : (a b c : Bool) → (a && (b || c)) ≡ false → (a && b) ≡ false
less_no true b c e = or_left b c e
less_no false b c e = refl

pub more_no : (a b c : Bool) → (a && (b || c)) ≡ false → (a && c) ≡ false
more_no true b c e = or_right b c e
more_no false b c e = refl

pub at_most : (t : Bool) (a b k : ℕ) → a ≤ k → b ≤ k → (if t then a else b) ≤ k
at_most true a b k l h = l
at_most false a b k l h = h

-- of seven none
pub record Apart (a b c d e f g : Bool) : Type 0 where
  pub hash : a ≡ false
  pub slash : b ≡ false
  pub dot : c ≡ false
  pub equals : d ≡ false
  pub minus : e ≡ false
  pub at_sign : f ≡ false
  pub escape : g ≡ false

pub apart : (a b c d e f g : Bool) → (a || (b || (c || (d || (e || (f || g)))))) ≡ false → Apart a b c d e f g
apart false false false false false false false z = record { hash = refl; slash = refl; dot = refl; equals = refl; minus = refl; at_sign = refl; escape = refl }
apart true b c d e f g z = absurd (cc)
apart false true c d e f g z = absurd (cc)
apart false false true d e f g z = absurd (cc)
apart false false false true e f g z = absurd (cc)
apart false false false false true f g z = absurd (cc)
apart false false false false false true g z = absurd (cc)
apart false false false false false false true z = absurd (cc)

pub by_test : (P : Type 0) (t : Bool) → (t ≡ true → P) → (t ≡ false → P) → P
by_test P true f g = f refl
by_test P false f g = g refl

-- ---- what a piece tells

abbrev pub to_of : Option Piece → ℕ
to_of None = 0
to_of (Some p) = p.to

abbrev pub has_token : Option Piece → Bool
has_token None = false
has_token (Some p) = is_some p.token

abbrev pub fits : (TokenKind → Bool) → Option TokenKind → Bool
fits f None = false
fits f (Some kind) = f kind

abbrev pub kind_fits : (TokenKind → Bool) → Option Piece → Bool
kind_fits f None = false
kind_fits f (Some p) = fits f p.token

-- a choice of pieces that is made again in the other text
pub follow : (t u : Bool) (a b x y r : Option Piece) → (t ≡ true → a ≡ r → (u ≡ true) × (x ≡ r)) → (t ≡ false → b ≡ r → (u ≡ false) × (y ≡ r)) → (if t then a else b) ≡ r → (if u then x else y) ≡ r
follow true u a b x y r f g e = let z = f refl e in if_true u x y z.0 ∙ z.1
follow false u a b x y r f g e = let z = g refl e in if_false u x y z.0 ∙ z.1

-- names that begin where their token does, and behind an `@`
abbrev pub is_name : TokenKind → Bool
is_name kinds.Word = true
is_name kinds.Name = true
is_name kinds.DashedName = true
is_name _ = false

abbrev pub is_at_name : TokenKind → Bool
is_at_name kinds.AtName = true
is_at_name _ = false

-- signs that are no part of a longer one
abbrev pub is_single : ℕ → Bool
is_single b = not ((b == sign ".") || ((b == sign "=") || ((b == sign "!") || ((b == sign "<") || (b == sign ">")))))

-- a piece that ends where the bytes do
pub again : {kind : TokenKind} {n : ℕ} {change : Change} (k : TokenKind) (a x : ℕ) (c : Change) → made k a c ≡ made kind n change → x ≡ n → made k x c ≡ made kind n change
again k a x c e f = ap (λ (z : ℕ). made k z c) (f ∙ sym (ap to_of e)) ∙ e

pub ends_here : {kind : TokenKind} {n : ℕ} {change : Change} (k : TokenKind) (a : ℕ) (c : Change) → made k a c ≡ made kind n change → a ≡ n
ends_here k a c e = ap to_of e

pub unlike : {kind : TokenKind} {n : ℕ} {change : Change} (f : TokenKind → Bool) (k : TokenKind) (a : ℕ) (c : Change) → made k a c ≡ made kind n change → f kind ≡ f k
unlike f k a c e = sym (ap (kind_fits f) e)

pub no_white_piece : {kind : TokenKind} {n : ℕ} {change : Change} {P : Type 0} → (a : ℕ) → made_white a ≡ made kind n change → P
no_white_piece a e = absurd (let wrong : false ≡ true = ap has_token e in cc)

pub one_or_more : (n : ℕ) → 0 < n → (n ≡ 1) ⊎ (1 < n)
one_or_more n some = grind arith
