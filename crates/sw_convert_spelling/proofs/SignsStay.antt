-- Signs stay the tokens that they are before what may stand behind them.
use Rattle.std.proofs.Common.{◌≡◌, ℕ, ◌+◌, ◌<◌, Bool, true, false, not, ◌&&◌, ◌||◌, ◌⊎◌, inl, inr, if◌then◌else◌, List, [], ◌∷◌, ◌++◌, length, refl, sym, ◌∙◌, ap, arith, Option}
use Rattle.std.specs.Prelude.{◌==◌}
use Rattle.std.proofs.lemmas.Bool.Decides.{nat_tests}
use Rattle.sw_text_scan.specs.declared.signs.TheConstants.{END}
use Rattle.sw_text_scan.specs.Bytes.{sign, byte, is_break, is_digit}
use Rattle.sw_text_scan.specs.Runs.{starts_at, begins_name}
use Rattle.sw_text_scan.proofs.Bounds.{if_false, and_left, and_right, or_left, or_right, not_true}
use Rattle.sw_tokens.specs.declared.pieces.Change.{Change}
use Rattle.sw_tokens.specs.declared.pieces.Change.TheVariants as changes
use Rattle.sw_tokens.specs.declared.pieces.Piece.{Piece}
use Rattle.sw_tokens.specs.declared.token.TokenKind.{TokenKind}
use Rattle.sw_tokens.specs.declared.token.TokenKind.TheVariants as kinds
use Rattle.sw_tokens.specs.Pieces.{made, sign_of, sign_piece}
use Rattle.sw_text_locality.proofs.Written.{byte_before}
use Rattle.sw_convert_spelling.specs.Neighbours.{joins_sign, parts_sign}
use Rattle.sw_convert_spelling.proofs.MovedRuns as moved
use Rattle.sw_convert_spelling.proofs.Again as texts
use Rattle.sw_convert_spelling.proofs.Choices.{left_no, right_no, both, more_no, Apart, apart, by_test, to_of, follow, is_single, ends_here, one_or_more}

module _ (w old after : List ℕ) (some : 0 < length w) where
  abbrev bs : List ℕ
  bs = w ++ old

  abbrev cs : List ℕ
  cs = w ++ after

  abbrev n : ℕ
  n = length w

  -- ---- the bytes behind

  pub zero_byte : (f : ℕ → Bool) → f (byte cs 0) ≡ f (byte bs 0)
  zero_byte f = texts.back w old after f 0 some

  pub behind_one : n ≡ 1 → byte cs 1 ≡ byte after 0
  behind_one e = ap (byte cs) (sym e) ∙ texts.behind_first w old after

  -- two bytes that fail a test fail it again
  pub two_no : (f g : ℕ → Bool) → (f (byte bs 0) && g (byte bs 1)) ≡ false → (n ≡ 1 → (f (byte bs 0) && g (byte after 0)) ≡ false) → (f (byte cs 0) && g (byte cs 1)) ≡ false
  two_no f g e h = go (one_or_more n some)
    where
      go : (n ≡ 1) ⊎ (1 < n) → (f (byte cs 0) && g (byte cs 1)) ≡ false
      go (inl one) = ap (λ (t : Bool). t && g (byte cs 1)) (zero_byte f) ∙ ap (λ (b : ℕ). f (byte bs 0) && g b) (behind_one one) ∙ h one
      go (inr more) = ap (λ (t : Bool). t && g (byte cs 1)) (zero_byte f) ∙ ap (λ (t : Bool). f (byte bs 0) && t) (texts.back w old after g 1 more) ∙ e

  pub two_yes : (f g : ℕ → Bool) → 1 < n → (f (byte bs 0) && g (byte bs 1)) ≡ true → (f (byte cs 0) && g (byte cs 1)) ≡ true
  two_yes f g more e = ap (λ (t : Bool). t && g (byte cs 1)) (zero_byte f) ∙ ap (λ (t : Bool). f (byte bs 0) && t) (texts.back w old after g 1 more) ∙ e

  module _ (parted : parts_sign w after ≡ true) where
    joins : n ≡ 1 → joins_sign (byte bs 0) after ≡ false
    joins one = ap (λ (b : ℕ). joins_sign b after) (byte_before w old 0 some) ∙ single w one parted
      where
        single : (v : List ℕ) → length v ≡ 1 → parts_sign v after ≡ true → joins_sign (byte v 0) after ≡ false
        single [] e p = absurd (omega (arith, e))
        single (b ∷ []) e p = ap (λ (x : ℕ). joins_sign x after) (moved.first_byte b []) ∙ not_true (joins_sign b after) p
        single (b ∷ c ∷ v) e p = absurd (omega (arith, e))

    abbrev equal_first : Bool
    equal_first = (byte bs 0 == sign "=") || ((byte bs 0 == sign "!") || ((byte bs 0 == sign "<") || (byte bs 0 == sign ">")))

    abbrev slash_next : Bool
    slash_next = (byte after 0 == sign "/") || (byte after 0 == sign "*")

    abbrev dot_next : Bool
    dot_next = is_digit (byte after 0) || ((byte after 0 == sign ".") && (byte after 1 == sign "."))

    abbrev dash_next : Bool
    dash_next = starts_at after 0 || (byte after 0 == sign "-")

    abbrev escaped_next : Bool
    escaped_next = not (is_break (byte after 0) || (byte after 0 == END))

    -- none of the signs that go on
    pub none : n ≡ 1 → Apart ((byte bs 0 == sign "#") && (byte after 0 == sign "{")) ((byte bs 0 == sign "/") && slash_next) ((byte bs 0 == sign ".") && dot_next)
        (equal_first && (byte after 0 == sign "=")) ((byte bs 0 == sign "-") && dash_next) ((byte bs 0 == sign "@") && begins_name after 0) ((byte bs 0 == sign "\\") && escaped_next)
    none one =
        apart ((byte bs 0 == sign "#") && (byte after 0 == sign "{")) ((byte bs 0 == sign "/") && slash_next) ((byte bs 0 == sign ".") && dot_next)
        (equal_first && (byte after 0 == sign "=")) ((byte bs 0 == sign "-") && dash_next) ((byte bs 0 == sign "@") && begins_name after 0) ((byte bs 0 == sign "\\") && escaped_next) (joins one)

    module _ (kind : TokenKind) (change : Change) where
      abbrev result : Option Piece
      result = made kind n change

      -- ---- signs

      abbrev pair_of : ℕ → List ℕ → TokenKind → Option Piece → Option Piece
      pair_of b x k more = if (byte x 0 == b) && (byte x 1 == sign "=") then made k (0 + 2) changes.Keep else more

      abbrev last_sign : List ℕ → Option Piece
      last_sign x = made (sign_of (byte x 0)) (0 + 1) changes.Keep

      abbrev pairs : List ℕ → Option Piece
      pairs x = pair_of (sign "=") x kinds.EqualsEquals (pair_of (sign "!") x kinds.NotEquals (pair_of (sign "<") x kinds.LessEquals (pair_of (sign ">") x kinds.GreaterEquals (last_sign x))))

      sign_last : last_sign bs ≡ result → last_sign cs ≡ result
      sign_last e = ap (λ (b : ℕ). made (sign_of b) (0 + 1) changes.Keep) (sym (texts.same w old after 0 some)) ∙ e

      one_pair : (b : ℕ) (k : TokenKind) (x y : Option Piece) → (n ≡ 1 → ((byte bs 0 == b) && (byte after 0 == sign "=")) ≡ false) → (x ≡ result → y ≡ result)
          → pair_of b bs k x ≡ result → pair_of b cs k y ≡ result
      one_pair b k x y none more e =
          follow ((byte bs 0 == b) && (byte bs 1 == sign "=")) ((byte cs 0 == b) && (byte cs 1 == sign "=")) (made k (0 + 2) changes.Keep) x (made k (0 + 2) changes.Keep) y result
          (λ t f. let two = ends_here k (0 + 2) changes.Keep f in (two_yes (λ c. c == b) (λ c. c == sign "=") (omega (arith, two)) t, f))
          (λ t f. (two_no (λ c. c == b) (λ c. c == sign "=") t none, more f)) e

      alone : (a1 a2 a3 a4 c : Bool) → ((a1 || (a2 || (a3 || a4))) && c) ≡ false → ((a1 && c) ≡ false) × ((a2 && c) ≡ false) × ((a3 && c) ≡ false) × ((a4 && c) ≡ false)
      alone true a2 a3 a4 c e = (e, right_no a2 c e, right_no a3 c e, right_no a4 c e)
      alone false true a3 a4 c e = (refl, e, right_no a3 c e, right_no a4 c e)
      alone false false true a4 c e = (refl, refl, e, right_no a4 c e)
      alone false false false a4 c e = (refl, refl, refl, e)

      equals_no : n ≡ 1 → (((byte bs 0 == sign "=") && (byte after 0 == sign "=")) ≡ false) × (((byte bs 0 == sign "!") && (byte after 0 == sign "=")) ≡ false)
          × (((byte bs 0 == sign "<") && (byte after 0 == sign "=")) ≡ false) × (((byte bs 0 == sign ">") && (byte after 0 == sign "=")) ≡ false)
      equals_no one = alone (byte bs 0 == sign "=") (byte bs 0 == sign "!") (byte bs 0 == sign "<") (byte bs 0 == sign ">") (byte after 0 == sign "=") (none one).equals

      pairs_again : pairs bs ≡ result → pairs cs ≡ result
      pairs_again =
          one_pair (sign "=") kinds.EqualsEquals _ _ (λ one. (equals_no one).0)
          (one_pair (sign "!") kinds.NotEquals _ _ (λ one. (equals_no one).1)
          (one_pair (sign "<") kinds.LessEquals _ _ (λ one. (equals_no one).2)
          (one_pair (sign ">") kinds.GreaterEquals _ _ (λ one. (equals_no one).3) sign_last)))

      -- where no longer sign begins, one byte is taken
      pairs_one : ((byte bs 0 == sign "=") || ((byte bs 0 == sign "!") || ((byte bs 0 == sign "<") || (byte bs 0 == sign ">")))) ≡ false → pairs bs ≡ result → n ≡ 1
      pairs_one e f =
          let a = or_left (byte bs 0 == sign "=") _ e in
          let r = or_right (byte bs 0 == sign "=") _ e in
          let b = or_left (byte bs 0 == sign "!") _ r in
          let s = or_right (byte bs 0 == sign "!") _ r in
          let c = or_left (byte bs 0 == sign "<") _ s in
          let d = or_right (byte bs 0 == sign "<") _ s in
          let down : pairs bs ≡ last_sign bs =
          if_false ((byte bs 0 == sign "=") && _) _ _ (left_no (byte bs 0 == sign "=") _ a) ∙ if_false ((byte bs 0 == sign "!") && _) _ _ (left_no (byte bs 0 == sign "!") _ b)
          ∙ if_false ((byte bs 0 == sign "<") && _) _ _ (left_no (byte bs 0 == sign "<") _ c) ∙ if_false ((byte bs 0 == sign ">") && _) _ _ (left_no (byte bs 0 == sign ">") _ d) in
          sym (ap to_of (sym down ∙ f))

      abbrev dots : List ℕ → Bool
      dots x = (byte x 0 == sign ".") && ((byte x 1 == sign ".") && (byte x 2 == sign "."))

      pub sign_again : sign_piece bs 0 ≡ result → sign_piece cs 0 ≡ result
      unfolding sign_piece
      sign_again =
          follow (dots bs) (dots cs) (made kinds.Ellipsis (0 + 3) changes.Keep) (pairs bs) (made kinds.Ellipsis (0 + 3) changes.Keep) (pairs cs) result
          (λ t f. let three = ends_here kinds.Ellipsis (0 + 3) changes.Keep f in (
            both (byte cs 0 == sign ".") _ (zero_byte (λ b. b == sign ".") ∙ and_left (byte bs 0 == sign ".") _ t)
                (both (byte cs 1 == sign ".") _ (texts.back w old after (λ b. b == sign ".") 1 (omega (arith, three)) ∙ and_left (byte bs 1 == sign ".") _ (and_right (byte bs 0 == sign ".") _ t))
                (texts.back w old after (λ b. b == sign ".") 2 (omega (arith, three)) ∙ and_right (byte bs 1 == sign ".") _ (and_right (byte bs 0 == sign ".") _ t))),
            f,
          ))
          (λ t f. (no_dots f, pairs_again f))
        where
          dot_alone : (b : ℕ) → (b == sign ".") ≡ true → ((b == sign "=") || ((b == sign "!") || ((b == sign "<") || (b == sign ">")))) ≡ false
          dot_alone b e = grind (arith, nat_tests)

          no_dots : pairs bs ≡ result → dots cs ≡ false
          no_dots f = by_test (dots cs ≡ false) (byte bs 0 == sign ".")
              (λ t. let one = pairs_one (dot_alone (byte bs 0) t) f in
              ap (λ (u : Bool). u && ((byte cs 1 == sign ".") && (byte cs 2 == sign "."))) (zero_byte (λ b. b == sign "."))
              ∙ ap (λ (b : ℕ). (byte bs 0 == sign ".") && ((b == sign ".") && (byte cs 2 == sign "."))) (behind_one one)
              ∙ ap (λ (b : ℕ). (byte bs 0 == sign ".") && ((byte after 0 == sign ".") && (b == sign "."))) (ap (byte cs) (let e : 2 ≡ n + 1 = omega (arith, one) in e) ∙ texts.behind w old after 1)
              ∙ more_no (byte bs 0 == sign ".") (is_digit (byte after 0)) _ (none one).dot)
              (λ t. left_no (byte cs 0 == sign ".") _ (zero_byte (λ b. b == sign ".") ∙ t))

      pub sign_one : is_single (byte bs 0) ≡ true → sign_piece bs 0 ≡ result → n ≡ 1
      unfolding sign_piece
      sign_one e f =
          let s = not_true _ e in
          let down : sign_piece bs 0 ≡ pairs bs = if_false (dots bs) _ _ (left_no (byte bs 0 == sign ".") _ (or_left (byte bs 0 == sign ".") _ s)) in
          pairs_one (or_right (byte bs 0 == sign ".") _ s) (sym down ∙ f)
