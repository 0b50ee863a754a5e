-- Which names begin with `--`.
use Rattle.std.proofs.Common.{◌≡◌, ◌<◌, ℕ, Bool, true, false, ◌&&◌, ◌||◌, if◌then◌else◌, List, [], ◌∷◌, ◌++◌, length, refl, sym, ◌∙◌, ap, append_assoc, arith}
use Rattle.std.specs.Prelude.{◌==◌, codes, bytes_eq}
use Rattle.std.specs.List.{list_all}
use Rattle.std.proofs.lemmas.Bool.Decides.{nat_tests}
use Rattle.sw_text_scan.specs.Bytes.{sign, byte, is_white, is_letter}
use Rattle.sw_text_scan.specs.Runs.{begins_name}
use Rattle.sw_text_locality.proofs.Lexical.{split}
use Rattle.sw_tokens.specs.declared.pieces.Before.{Before}
use Rattle.sw_tokens.specs.declared.pieces.Change.{Change}
use Rattle.sw_tokens.specs.declared.pieces.Change.TheVariants as changes
use Rattle.sw_tokens.specs.declared.skips.Inside.{Inside}
use Rattle.sw_tokens.specs.declared.skips.Inside.TheVariants as insides
use Rattle.sw_tokens.specs.declared.token.TokenKind.{TokenKind}
use Rattle.sw_tokens.specs.declared.token.TokenKind.TheVariants as kinds
use Rattle.sw_tokens.specs.Pieces.{made, piece, letter_kind, dash_kind, name_piece}
use Rattle.sw_parse_terminals.specs.declared.terminal.Terminal.{Terminal}
use Rattle.sw_parse_lexemes.specs.declared.sort.Sort.{Sort}
use Rattle.sw_parse_lexemes.specs.declared.sort.Sort.TheVariants as sorts
use Rattle.sw_parse_lexemes.specs.Classes.{is_name}
use Rattle.sw_parse_lexemes.specs.Sorts.{sort_of}
use Rattle.sw_parse_lexemes.specs.Words.{of_two, of_three, of_four, of_five, of_six, of_seven, of_nine, word_sort, is_prefixed_calc}
use Rattle.sw_convert_spelling.specs.Spelt.{behind_gap, is_gap}
use Rattle.sw_convert_spelling.proofs.Choices.{left_no, unlike}
use Rattle.sw_convert_spelling.proofs.Choices as names
use Rattle.sw_convert_passing.specs.Written.{Written, written}
use Rattle.sw_convert_passing.proofs.Facts.{and_left}
use Rattle.sw_convert_again.specs.Tokens.{Tok}
use Rattle.sw_convert_tokens.specs.Joints.{Joint, Token, Apart, text, writtens, Stand}
use Rattle.sw_convert_tokens.specs.Written.{begins_white}
use Rattle.sw_convert_tokens.proofs.NamePieces.{name_in, name_run}
use Rattle.sw_convert_tokens.proofs.Words.{kind_of_name}
use Rattle.sw_convert_heads_passing.specs.Properties.{is_dashed}
use Rattle.sw_convert_texts.specs.RawTexts.{SheetSegment}

-- two `-` stand first
abbrev pub dashes : List ℕ → Bool
dashes bs = (byte bs 0 == sign "-") && (byte bs 1 == sign "-")

is_double : TokenKind → Bool
is_double kinds.DashedName = true
is_double _ = false

letter_dash : (b : ℕ) → is_letter b ≡ true → (b == sign "-") ≡ false
letter_dash b e = grind (arith, nat_tests)

neither : (a b : Bool) → a ≡ false → b ≡ false → (a || b) ≡ true → ⊥
neither true b e f g = let wrong : true ≡ false = e in cc
neither false true e f g = let wrong : true ≡ false = f in cc
neither false false e f g = let wrong : false ≡ true = g in cc

-- the name that begins there
module _ (kind : TokenKind) (n : ℕ) (change : Change) (named : names.is_name kind ≡ true) where
  double_kind : (bs : List ℕ) (inside : Inside) (before : Before) → piece bs inside before 0 ≡ made kind n change
      → is_double kind ≡ dashes bs
  unfolding name_piece is_double
  double_kind bs inside before is =
      let it = name_in kind n change named bs inside before is in
      split (is_letter (byte bs 0)) _ _ (made kind n change)
      (λ t e. unlike is_double (letter_kind _ _) _ changes.Keep e ∙ letter _
      ∙ sym (left_no (byte bs 0 == sign "-") (byte bs 1 == sign "-") (letter_dash (byte bs 0) t)))
      (λ t. split (begins_name bs 0) _ _ (made kind n change)
      (λ u e. unlike is_double (dash_kind bs 0) _ changes.Keep e ∙ double (dashes bs))
      (λ u e. absurd (neither (is_letter (byte bs 0)) (begins_name bs 0) t u (name_run kind n change named bs it).0))) it
    where
      letter : (t : Bool) → is_double (if t then kinds.Word else kinds.Name) ≡ false
      letter true = refl
      letter false = refl

      double : (t : Bool) → is_double (if t then kinds.DashedName else kinds.Name) ≡ t
      double true = refl
      double false = refl

-- ---- as the grammar sees it

pick : (t : Bool) (x y : Sort) → is_dashed x ≡ false → is_dashed y ≡ false → is_dashed (if t then x else y) ≡ false
pick true x y e f = e
pick false x y e f = f

plain_word : (text : List ℕ) → is_dashed (word_sort text) ≡ false
plain_word text =
    (pick (length text == 2) (of_two text) _ (pick (bytes_eq text (codes "or")) sorts.Or _ refl
    (pick (bytes_eq text (codes "as")) sorts.As _ refl (pick (bytes_eq text (codes "if")) sorts.If _ refl
    (pick (bytes_eq text (codes "in")) sorts.In _ refl (pick (bytes_eq text (codes "to")) sorts.To _ refl refl)))))
    (pick (length text == 3) (of_three text) _ (pick (bytes_eq text (codes "and")) sorts.And _ refl
    (pick (bytes_eq text (codes "not")) sorts.Not _ refl (pick (bytes_eq text (codes "var")) sorts.Special _ refl
    (pick (bytes_eq text (codes "env")) sorts.Special _ refl
    (pick (bytes_eq text (codes "min")) sorts.Special _ refl
    (pick (bytes_eq text (codes "max")) sorts.Special _ refl (pick (bytes_eq text (codes "mod")) sorts.Stays _ refl
    (pick (bytes_eq text (codes "rem")) sorts.Stays _ refl (pick (bytes_eq text (codes "abs")) sorts.Stays _ refl
    (pick (bytes_eq text (codes "sin")) sorts.Stays _ refl (pick (bytes_eq text (codes "cos")) sorts.Stays _ refl
    (pick (bytes_eq text (codes "tan")) sorts.Stays _ refl (pick (bytes_eq text (codes "pow")) sorts.Stays _ refl
    (pick (bytes_eq text (codes "log")) sorts.Stays _ refl
    (pick (bytes_eq text (codes "exp")) sorts.Stays _ refl refl)))))))))))))))
    (pick (length text == 4) (of_four text) _ (pick (bytes_eq text (codes "true")) sorts.True _ refl
    (pick (bytes_eq text (codes "null")) sorts.Null _ refl (pick (bytes_eq text (codes "with")) sorts.With _ refl
    (pick (bytes_eq text (codes "show")) sorts.Show _ refl (pick (bytes_eq text (codes "hide")) sorts.Hide _ refl
    (pick (bytes_eq text (codes "from")) sorts.From _ refl (pick (bytes_eq text (codes "only")) sorts.Only _ refl
    (pick (bytes_eq text (codes "calc")) sorts.Special _ refl
    (pick (bytes_eq text (codes "sign")) sorts.Stays _ refl (pick (bytes_eq text (codes "asin")) sorts.Stays _ refl
    (pick (bytes_eq text (codes "acos")) sorts.Stays _ refl (pick (bytes_eq text (codes "atan")) sorts.Stays _ refl
    (pick (bytes_eq text (codes "sqrt")) sorts.Stays _ refl refl)))))))))))))
    (pick (length text == 5) (of_five text) _ (pick (bytes_eq text (codes "false")) sorts.False _ refl
    (pick (bytes_eq text (codes "using")) sorts.Using _ refl
    (pick (bytes_eq text (codes "clamp")) sorts.Special _ refl
    (pick (bytes_eq text (codes "round")) sorts.Stays _ refl
    (pick (bytes_eq text (codes "atan2")) sorts.Stays _ refl
    (pick (bytes_eq text (codes "hypot")) sorts.Stays _ refl refl))))))
    (pick (length text == 6) (of_six text) _ (pick (bytes_eq text (codes "global")) sorts.Global _ refl refl)
    (pick (length text == 7) (of_seven text) _ (pick (bytes_eq text (codes "through")) sorts.Through _ refl
    (pick (bytes_eq text (codes "default")) sorts.Default _ refl refl))
    (pick (length text == 9) (of_nine text) _ (pick (bytes_eq text (codes "important")) sorts.Important _ refl refl)
    refl)))))))

named_sort : (kind : TokenKind) (text : List ℕ) → names.is_name kind ≡ true → is_dashed (sort_of kind text) ≡ is_double kind
unfolding is_double
named_sort kinds.Word text n = plain_word text
named_sort kinds.Name text n = pick (is_prefixed_calc text) sorts.Special sorts.Name refl refl
named_sort kinds.DashedName text n = refl
named_sort _ text n = absurd (cc)

-- ---- the first token of a text

first_sort : List Written → Sort
first_sort [] = sorts.Other
first_sort (one ∷ rest) = one.sort

-- text that begins with no white space has none before its first token
no_gap : (gap bytes value : List ℕ) → is_gap insides.Sheet gap bytes ≡ true → gap ++ bytes ≡ value
    → begins_white value ≡ false → gap ≡ []
no_gap [] bytes value g e black = refl
no_gap (b ∷ gap) bytes value g e black =
    absurd
    (let wrong : true ≡ false =
    sym (and_left (is_white b) _ (and_left (list_all is_white (b ∷ gap)) _ g)) ∙ ap begins_white e ∙ black in cc)

module _ {before end : Before} {value : List ℕ} {tokens : List Tok} {sort : Sort} {spaced : Bool}
    {terminal : Terminal} {rest : List Written} {P : List ℕ → Type 0} where
  -- where it is a name, it tells whether the text begins with `--`
  pub first_dashed : SheetSegment before value tokens (written sort spaced terminal ∷ rest) end P → is_name sort ≡ true
      → begins_white value ≡ false → (after : List ℕ) → P after → is_dashed sort ≡ dashes (value ++ after)
  unfolding first_sort byte
  first_dashed a n black after ok = go a.joints a.spelling a.written (a.stand after ok)
    where
      go : (joints : List Joint) → text joints ≡ value → writtens joints ≡ written sort spaced terminal ∷ rest
          → Stand [] before joints [] after → is_dashed sort ≡ dashes (value ++ after)
      go [] spelling is stand =
          absurd (let wrong : false ≡ true = ap (λ (l : List Written). is_name (first_sort l)) is ∙ n in cc)
      go (Apart ∷ joints) spelling is stand =
          absurd (let wrong : false ≡ true = ap (λ (l : List Written). is_name (first_sort l)) is ∙ n in cc)
      go (Token seen ∷ joints) spelling is (gap, some, told, opening, token, more) =
          let e : sort_of seen.kind seen.bytes ≡ sort = ap first_sort is in
          let k = kind_of_name seen.kind seen.bytes (ap is_name e ∙ n) in
          let none = no_gap seen.gap (seen.bytes ++ text joints) value
          (white_gap seen.gap seen.bytes (text joints) some gap) spelling black in
          let here : seen.bytes ++ (text joints ++ after) ≡ value ++ after =
          sym (append_assoc seen.bytes (text joints) after)
          ∙ ap (λ (t : List ℕ). t ++ after)
          (ap (λ (g : List ℕ). g ++ (seen.bytes ++ text joints)) (sym none) ∙ spelling) in
          ap is_dashed (sym e) ∙ named_sort seen.kind seen.bytes k
          ∙ double_kind seen.kind (length seen.bytes) seen.change k (seen.bytes ++ (text joints ++ after)) insides.Sheet
          (behind_gap before seen.gap) token
          ∙ ap dashes here
        where
          white_gap : (gap bytes others : List ℕ) → 0 < length bytes → is_gap insides.Sheet gap bytes ≡ true
              → is_gap insides.Sheet gap (bytes ++ others) ≡ true
          white_gap [] bytes others some g = refl
          white_gap gap [] others some g = absurd (omega (arith, some))
          white_gap (c ∷ gap) (b ∷ bytes) others some g = g
