-- A name that was read stands as one, and what a name begins with.
use Rattle.std.proofs.Common.{◌≡◌, ◌⊎◌, ℕ, ◌+◌, Bool, true, false, not, ◌&&◌, ◌||◌, List, Option, Some, None, inl, inr, refl, sym, ◌∙◌, ap}
use Rattle.std.specs.Prelude.{◌==◌}
use Rattle.sw_text_scan.specs.declared.runs.Class.TheVariants as classes
use Rattle.sw_text_scan.specs.Bytes.{sign, byte, is_letter}
use Rattle.sw_text_scan.specs.Runs.{run_end, begins_name}
use Rattle.sw_text_scan.proofs.Bounds.{and_left}
use Rattle.sw_text_locality.proofs.Lexical.{split}
use Rattle.sw_tokens.specs.declared.pieces.Before.{Before}
use Rattle.sw_tokens.specs.declared.pieces.Change.{Change}
use Rattle.sw_tokens.specs.declared.pieces.Change.TheVariants as changes
use Rattle.sw_tokens.specs.declared.pieces.Piece.{Piece}
use Rattle.sw_tokens.specs.declared.skips.Inside.{Inside}
use Rattle.sw_tokens.specs.declared.token.TokenKind.{TokenKind}
use Rattle.sw_tokens.specs.declared.token.TokenKind.TheVariants as kinds
use Rattle.sw_tokens.specs.Pieces.{made, piece, sign_of, sign_piece, letter_kind, dash_kind, name_piece}
use Rattle.sw_convert_spelling.proofs.Choices.{is_name, ends_here, unlike, no_white_piece}
use Rattle.sw_convert_tokens.proofs.PieceCases.{sign_of_is, Cases, number_has, piece_has}

-- ---- a name is read as one

no_piece : {kind : TokenKind} {n : ℕ} {change : Change} {P : Type 0} → None ≡ made kind n change → P
no_piece e = absurd (cc)

-- other tokens aren't names
no_name : (kind : TokenKind) (x : Bool) → (not (is_name kind) && x) ≡ true → is_name kind ≡ false
no_name kind x e = go (is_name kind) (and_left (not (is_name kind)) x e)
  where
    go : (t : Bool) → not t ≡ true → t ≡ false
    go true e = sym e
    go false e = refl

module _ (kind : TokenKind) (n : ℕ) (change : Change) (k : is_name kind ≡ true) where
  abbrev result : Option Piece
  result = made kind n change

  not_so : {P : Type 0} (other : TokenKind) (a : ℕ) (c : Change) → made other a c ≡ result → is_name other ≡ false → P
  not_so other a c e f = absurd (let wrong : true ≡ false = sym k ∙ unlike is_name other a c e ∙ f in cc)

  -- a piece that is this token is one of those of names
  named_cases : (bs : List ℕ) → Cases bs 0 (λ o. o ≡ result → name_piece bs 0 ≡ result)
  named_cases bs = record {
    none = λ e. no_piece e;
    white = λ m e. no_white_piece _ e;
    plain = λ other o m c e. not_so other m c e (no_name other _ o);
    quoted = λ i j m e. not_so (kinds.Quoted _) m changes.Keep e refl;
    text = λ i j m e. not_so (kinds.Text _) m changes.Keep e refl;
    name = λ e. e;
    number = λ b. number_has bs 0 (λ o. o ≡ result → name_piece bs 0 ≡ result)
        (λ other o named m c e. not_so other m c e named);
    hex = λ b e. not_so kinds.Hex _ changes.Keep e refl;
    range = λ b e. not_so kinds.UnicodeRange _ changes.Keep e refl;
  }

  pub name_in : (bs : List ℕ) (inside : Inside) (before : Before) → piece bs inside before 0 ≡ result
      → name_piece bs 0 ≡ result
  name_in bs inside before =
      piece_has bs 0 (λ o. o ≡ result → name_piece bs 0 ≡ result) (named_cases bs) inside before

  -- ---- what a name begins with, and its run

  sign_piece_no : {P : Type 0} (bs : List ℕ) → sign_piece bs 0 ≡ result → P
  unfolding sign_piece
  sign_piece_no bs =
      split ((byte bs 0 == sign ".") && ((byte bs (0 + 1) == sign ".") && (byte bs (0 + 2) == sign "."))) _ _ result (λ t e. not_so kinds.Ellipsis _ changes.Keep e refl)
      (λ t. split ((byte bs 0 == sign "=") && (byte bs (0 + 1) == sign "=")) _ _ result (λ u f. not_so kinds.EqualsEquals _ changes.Keep f refl)
      (λ u. split ((byte bs 0 == sign "!") && (byte bs (0 + 1) == sign "=")) _ _ result (λ v g. not_so kinds.NotEquals _ changes.Keep g refl)
      (λ v. split ((byte bs 0 == sign "<") && (byte bs (0 + 1) == sign "=")) _ _ result (λ x h. not_so kinds.LessEquals _ changes.Keep h refl)
      (λ x. split ((byte bs 0 == sign ">") && (byte bs (0 + 1) == sign "=")) _ _ result (λ y m. not_so kinds.GreaterEquals _ changes.Keep m refl)
      (λ y m. not_so (sign_of (byte bs 0)) _ changes.Keep m (no_name (sign_of (byte bs 0)) _ (sign_of_is (byte bs 0))))))))

  -- a letter begins the name, or a name begins there, and it runs to its end
  pub name_run : (bs : List ℕ) → name_piece bs 0 ≡ result
      → ((is_letter (byte bs 0) || begins_name bs 0) ≡ true)
      × (((is_letter (byte bs 0) ≡ true) × (run_end classes.Name bs (run_end classes.Word bs 0) ≡ n))
      ⊎ (run_end classes.Name bs 0 ≡ n))
  unfolding name_piece
  name_run bs =
      split (is_letter (byte bs 0)) _ _ result
      (λ t e. (or_yes (is_letter (byte bs 0)) (begins_name bs 0) t, inl (t, ends_here (letter_kind _ _) _ changes.Keep e)))
      (λ t. split (begins_name bs 0) _ _ result
      (λ u f. (or_more (is_letter (byte bs 0)) (begins_name bs 0) u, inr (ends_here (dash_kind bs 0) _ changes.Keep f)))
      (λ u. split ((byte bs 0 == sign "@") && begins_name bs (0 + 1)) _ _ result
      (λ v g. not_so kinds.AtName _ changes.Keep g refl) (λ v g. sign_piece_no bs g)))
    where
      or_yes : (a b : Bool) → a ≡ true → (a || b) ≡ true
      or_yes true b e = refl
      or_yes false b e = absurd (cc)

      or_more : (a b : Bool) → b ≡ true → (a || b) ≡ true
      or_more true b e = refl
      or_more false b e = e

  change_in : Option Piece → Change
  change_in None = changes.Keep
  change_in (Some p) = p.change

  -- a name opens and closes nothing
  pub name_keep : (bs : List ℕ) → name_piece bs 0 ≡ result → change ≡ changes.Keep
  unfolding name_piece change_in
  name_keep bs =
      split (is_letter (byte bs 0)) _ _ result (λ t e. sym (ap change_in e))
      (λ t. split (begins_name bs 0) _ _ result (λ u f. sym (ap change_in f))
      (λ u. split ((byte bs 0 == sign "@") && begins_name bs (0 + 1)) _ _ result
      (λ v g. not_so kinds.AtName _ changes.Keep g refl) (λ v g. sign_piece_no bs g)))
