-- At-keywords before a space.
use Rattle.std.proofs.Common.{◌≡◌, ◌⊎◌, ◌<◌, ℕ, Bool, true, false, ◌||◌, List, [], ◌∷◌, ◌++◌, length, inl, inr, refl, sym, ◌∙◌, ap, subst, arith}
use Rattle.std.specs.Prelude.{◌==◌, codes}
use Rattle.std.proofs.lemmas.Bool.Decides.{nat_tests}
use Rattle.sw_text_scan.specs.Bytes.{sign, byte, is_white}
use Rattle.sw_text_scan.specs.Runs.{run_end, escape_end, begins_name}
use Rattle.sw_text_locality.specs.Names as locality
use Rattle.sw_tokens.specs.declared.pieces.Before.{Before}
use Rattle.sw_tokens.specs.declared.pieces.Before.TheVariants as befores
use Rattle.sw_tokens.specs.declared.pieces.Change.TheVariants as changes
use Rattle.sw_tokens.specs.declared.skips.Inside.TheVariants as insides
use Rattle.sw_tokens.specs.declared.token.TokenKind.TheVariants as kinds
use Rattle.sw_tokens.specs.Pieces.{made, piece, code_piece, word_piece, name_piece, sign_piece, opens_url, number_piece, is_hex_form, quote_piece, loud_piece}
use Rattle.sw_tokens.specs.Tokens.{is_spaced}
use Rattle.sw_parse_terminals.specs.declared.terminal.Terminal.{Terminal}
use Rattle.sw_parse_terminals.specs.declared.terminal.Terminal.TheVariants as terminals
use Rattle.sw_parse_lexemes.specs.declared.sort.Sort.{Sort}
use Rattle.sw_parse_lexemes.specs.declared.sort.Sort.TheVariants as sorts
use Rattle.sw_parse_lexemes.specs.Classes.{is_comment}
use Rattle.sw_parse_lexemes.specs.Sorts.{sort_of}
use Rattle.sw_convert_spelling.specs.Neighbours.{may_stand_behind}
use Rattle.sw_convert_spelling.proofs.MovedRuns.{first_byte}
use Rattle.sw_convert_written.specs.Escapes.{ends_unclosed}
use Rattle.sw_convert_passing.specs.Written as passing
use Rattle.sw_convert_again.specs.Tokens as again
use Rattle.sw_convert_tokens.specs.Joints.{Segment}
use Rattle.sw_convert_tokens.specs.Written.{is_calm}
use Rattle.sw_convert_tokens.proofs.Signs.{sign_segment, token_by}
use Rattle.sw_convert_tokens.proofs.Spaces.{BeginsSpace}
use Rattle.sw_convert_heads_passing.specs.Heads.{is_keyword}
use Rattle.sw_convert_texts.specs.RawTexts.{ends_statement, EndsText}
use Rattle.sw_convert_tokens.proofs.Between.{spaced_segment}

-- a space, a `;` or a `(` stands behind
abbrev pub BeginsEnd : List ℕ → Type 0
BeginsEnd after =
    (rest : List ℕ) × ((after ≡ sign " " ∷ rest) ⊎ ((after ≡ sign ";" ∷ rest) ⊎ (after ≡ sign "(" ∷ rest)))

pub text_ends : (value after : List ℕ) → ends_unclosed value ≡ false → EndsText value after → BeginsEnd after
text_ends value after closed e = go after e.ends
  where
    first : (b : ℕ) (rest : List ℕ) → (t u : Bool) → (b == sign ";") ≡ t → (b == sign " ") ≡ u → (t || u) ≡ true
        → BeginsEnd (b ∷ rest)
    first b rest true u f g h = (rest, inr (inl (ap (λ (x : ℕ). x ∷ rest) (is b (sign ";") f))))
      where
        is : (x y : ℕ) → (x == y) ≡ true → x ≡ y
        is x y e = grind (arith, nat_tests)
    first b rest false true f g h = (rest, inl (ap (λ (x : ℕ). x ∷ rest) (is b (sign " ") g)))
      where
        is : (x y : ℕ) → (x == y) ≡ true → x ≡ y
        is x y e = grind (arith, nat_tests)
    first b rest false false f g h = absurd (cc)

    go : (t : List ℕ) → (ends_statement t ≡ true) ⊎ ((ends_unclosed value ≡ true) × (rest : List ℕ) × (t ≡ codes "/**/" ++ rest))
        → BeginsEnd t
    go [] (inl f) = absurd (cc)
    go (b ∷ rest) (inl f) = first b rest (b == sign ";") (b == sign " ") refl refl f
    go t (inr (u, rest, f)) = absurd (let wrong : true ≡ false = sym u ∙ closed in cc)

-- an at-keyword as it is written
pub record IsKeyword (terminal : Terminal) (sort : Sort) (word : List ℕ) : Type 0 where
  pub closed : ends_unclosed word ≡ false
  pub segment : (before : Before) → is_calm before ≡ true
      → Segment before word (again.sign terminal ∷ [])
      (passing.written sort (is_spaced before) terminal ∷ []) befores.Other BeginsEnd

-- one that is a token by itself, and before such a sign
keyword_by : (terminal : Terminal) (sort : Sort) (word : List ℕ) → sort_of kinds.AtName (sign "@" ∷ word) ≡ sort
    → is_comment (sort_of kinds.AtName (sign "@" ∷ word)) ≡ false → ends_unclosed (sign "@" ∷ word) ≡ false
    → piece ((sign "@" ∷ word) ++ []) insides.Sheet befores.White 0
    ≡ made kinds.AtName (length (sign "@" ∷ word)) changes.Keep
    → ((rest : List ℕ) → may_stand_behind befores.White kinds.AtName (sign "@" ∷ word) (sign " " ∷ rest) ≡ true)
    → ((rest : List ℕ) → may_stand_behind befores.White kinds.AtName (sign "@" ∷ word) (sign ";" ∷ rest) ≡ true)
    → ((rest : List ℕ) → may_stand_behind befores.White kinds.AtName (sign "@" ∷ word) (sign "(" ∷ rest) ≡ true)
    → IsKeyword terminal sort (sign "@" ∷ word)
keyword_by terminal sort word is seen closed alone spaced ended opened = record {
  closed = closed;
  segment = λ before calm.
      subst
      (λ (s : Sort). Segment before (sign "@" ∷ word) (again.sign terminal ∷ []) (passing.written s (is_spaced before) terminal ∷ []) befores.Other BeginsEnd)
      is
      (sign_segment kinds.AtName (sign "@" ∷ word) (terminal ∷ []) before false BeginsEnd refl seen
      (ap is_white (first_byte (sign "@") word)) (some word)
      (λ inside after code ends.
      token_by kinds.AtName (sign "@") word after inside before code calm refl refl alone (fits after ends.0 ends.1)));
}
  where
    some : (xs : List ℕ) → 0 < length (sign "@" ∷ xs)
    some xs = omega arith

    fits : (after rest : List ℕ) → (after ≡ sign " " ∷ rest) ⊎ ((after ≡ sign ";" ∷ rest) ⊎ (after ≡ sign "(" ∷ rest))
        → may_stand_behind befores.White kinds.AtName (sign "@" ∷ word) after ≡ true
    fits after rest (inl e) =
        subst (λ (t : List ℕ). may_stand_behind befores.White kinds.AtName (sign "@" ∷ word) t ≡ true) (sym e) (spaced rest)
    fits after rest (inr (inl e)) =
        subst (λ (t : List ℕ). may_stand_behind befores.White kinds.AtName (sign "@" ∷ word) t ≡ true) (sym e) (ended rest)
    fits after rest (inr (inr e)) =
        subst (λ (t : List ℕ). may_stand_behind befores.White kinds.AtName (sign "@" ∷ word) t ≡ true) (sym e) (opened rest)

-- the text of each
abbrev pub keyword_text : Sort → List ℕ
keyword_text sorts.AtReturn = codes "@return"
keyword_text sorts.AtWarn = codes "@warn"
keyword_text sorts.AtDebug = codes "@debug"
keyword_text sorts.AtError = codes "@error"
keyword_text sorts.AtIf = codes "@if"
keyword_text sorts.AtWhile = codes "@while"
keyword_text sorts.AtEach = codes "@each"
keyword_text sorts.AtFor = codes "@for"
keyword_text sorts.AtElse = codes "@else"
keyword_text sorts.AtFunction = codes "@function"
keyword_text sorts.AtMixin = codes "@mixin"
keyword_text sorts.AtInclude = codes "@include"
keyword_text sorts.AtUse = codes "@use"
keyword_text sorts.AtForward = codes "@forward"
keyword_text sorts.AtCharset = codes "@charset"
keyword_text sorts.AtMedia = codes "@media"
keyword_text sorts.AtSupports = codes "@supports"
keyword_text sorts.AtRoot = codes "@at-root"
keyword_text sorts.AtImport = codes "@import"
keyword_text sorts.AtExtend = codes "@extend"
keyword_text sorts.AtContent = codes "@content"
keyword_text sorts.AtElseIf = codes "@elseif"
keyword_text _ = []

pub keyword : (terminal : Terminal) (sort : Sort) → is_keyword sort ≡ true → IsKeyword terminal sort (keyword_text sort)
unfolding code_piece word_piece name_piece sign_piece opens_url number_piece byte begins_name escape_end run_end is_hex_form quote_piece loud_piece locality.ends_unclosed locality.is_unclosed ends_unclosed
keyword terminal sorts.AtReturn k = keyword_by terminal sorts.AtReturn (codes "return") refl refl refl refl (λ rest. refl) (λ rest. refl)
    (λ rest. refl)
keyword terminal sorts.AtWarn k = keyword_by terminal sorts.AtWarn (codes "warn") refl refl refl refl (λ rest. refl) (λ rest. refl)
    (λ rest. refl)
keyword terminal sorts.AtDebug k = keyword_by terminal sorts.AtDebug (codes "debug") refl refl refl refl (λ rest. refl) (λ rest. refl)
    (λ rest. refl)
keyword terminal sorts.AtError k = keyword_by terminal sorts.AtError (codes "error") refl refl refl refl (λ rest. refl) (λ rest. refl)
    (λ rest. refl)
keyword terminal sorts.AtIf k = keyword_by terminal sorts.AtIf (codes "if") refl refl refl refl (λ rest. refl) (λ rest. refl)
    (λ rest. refl)
keyword terminal sorts.AtWhile k = keyword_by terminal sorts.AtWhile (codes "while") refl refl refl refl (λ rest. refl) (λ rest. refl)
    (λ rest. refl)
keyword terminal sorts.AtEach k = keyword_by terminal sorts.AtEach (codes "each") refl refl refl refl (λ rest. refl) (λ rest. refl)
    (λ rest. refl)
keyword terminal sorts.AtFor k = keyword_by terminal sorts.AtFor (codes "for") refl refl refl refl (λ rest. refl) (λ rest. refl)
    (λ rest. refl)
keyword terminal sorts.AtElse k = keyword_by terminal sorts.AtElse (codes "else") refl refl refl refl (λ rest. refl) (λ rest. refl)
    (λ rest. refl)
keyword terminal sorts.AtFunction k = keyword_by terminal sorts.AtFunction (codes "function") refl refl refl refl (λ rest. refl) (λ rest. refl)
    (λ rest. refl)
keyword terminal sorts.AtMixin k = keyword_by terminal sorts.AtMixin (codes "mixin") refl refl refl refl (λ rest. refl) (λ rest. refl)
    (λ rest. refl)
keyword terminal sorts.AtInclude k = keyword_by terminal sorts.AtInclude (codes "include") refl refl refl refl (λ rest. refl) (λ rest. refl)
    (λ rest. refl)
keyword terminal sorts.AtUse k = keyword_by terminal sorts.AtUse (codes "use") refl refl refl refl (λ rest. refl) (λ rest. refl)
    (λ rest. refl)
keyword terminal sorts.AtForward k = keyword_by terminal sorts.AtForward (codes "forward") refl refl refl refl (λ rest. refl) (λ rest. refl)
    (λ rest. refl)
keyword terminal sorts.AtCharset k = keyword_by terminal sorts.AtCharset (codes "charset") refl refl refl refl (λ rest. refl) (λ rest. refl)
    (λ rest. refl)
keyword terminal sorts.AtMedia k = keyword_by terminal sorts.AtMedia (codes "media") refl refl refl refl (λ rest. refl) (λ rest. refl)
    (λ rest. refl)
keyword terminal sorts.AtSupports k = keyword_by terminal sorts.AtSupports (codes "supports") refl refl refl refl (λ rest. refl) (λ rest. refl)
    (λ rest. refl)
keyword terminal sorts.AtRoot k = keyword_by terminal sorts.AtRoot (codes "at-root") refl refl refl refl (λ rest. refl) (λ rest. refl)
    (λ rest. refl)
keyword terminal sorts.AtImport k = keyword_by terminal sorts.AtImport (codes "import") refl refl refl refl (λ rest. refl) (λ rest. refl)
    (λ rest. refl)
keyword terminal sorts.AtExtend k = keyword_by terminal sorts.AtExtend (codes "extend") refl refl refl refl (λ rest. refl) (λ rest. refl)
    (λ rest. refl)
keyword terminal sorts.AtContent k = keyword_by terminal sorts.AtContent (codes "content") refl refl refl refl (λ rest. refl) (λ rest. refl)
    (λ rest. refl)
keyword terminal sorts.AtElseIf k = keyword_by terminal sorts.AtElseIf (codes "elseif") refl refl refl refl (λ rest. refl) (λ rest. refl)
    (λ rest. refl)
keyword terminal _ k = absurd (cc)

-- ---- words with a space before and behind each

abbrev pub word_text : Sort → List ℕ
word_text sorts.If = codes "if"
word_text sorts.In = codes "in"
word_text sorts.From = codes "from"
word_text sorts.Through = codes "through"
word_text sorts.To = codes "to"
word_text sorts.As = codes "as"
word_text sorts.With = codes "with"
word_text sorts.Show = codes "show"
word_text sorts.Hide = codes "hide"
word_text _ = []

abbrev pub word_terminal : Sort → Terminal
word_terminal sorts.If = terminals.If
word_terminal sorts.In = terminals.In
word_terminal sorts.From = terminals.From
word_terminal sorts.Through = terminals.Through
word_terminal sorts.To = terminals.To
word_terminal sorts.As = terminals.As
word_terminal sorts.With = terminals.With
word_terminal sorts.Show = terminals.Show
word_terminal sorts.Hide = terminals.Hide
word_terminal _ = terminals.Other

abbrev pub is_spaced_word : Sort → Bool
is_spaced_word sorts.If = true
is_spaced_word sorts.In = true
is_spaced_word sorts.From = true
is_spaced_word sorts.Through = true
is_spaced_word sorts.To = true
is_spaced_word sorts.As = true
is_spaced_word sorts.With = true
is_spaced_word sorts.Show = true
is_spaced_word sorts.Hide = true
is_spaced_word _ = false

pub spaced_word : (sort : Sort) → is_spaced_word sort ≡ true → (before : Before)
    → Segment before (codes " " ++ word_text sort) (again.sign (word_terminal sort) ∷ [])
    (passing.apart sort (word_terminal sort) ∷ []) befores.Other BeginsSpace
unfolding code_piece word_piece name_piece sign_piece opens_url number_piece byte begins_name escape_end run_end is_hex_form quote_piece loud_piece locality.ends_unclosed locality.is_unclosed
spaced_word sorts.If w before = spaced_segment kinds.Word (sign "i") (codes "f") terminals.If before refl refl refl refl refl refl (λ rest. refl)
spaced_word sorts.In w before = spaced_segment kinds.Word (sign "i") (codes "n") terminals.In before refl refl refl refl refl refl (λ rest. refl)
spaced_word sorts.From w before = spaced_segment kinds.Word (sign "f") (codes "rom") terminals.From before refl refl refl refl refl refl (λ rest. refl)
spaced_word sorts.Through w before = spaced_segment kinds.Word (sign "t") (codes "hrough") terminals.Through before refl refl refl refl refl refl (λ rest. refl)
spaced_word sorts.To w before = spaced_segment kinds.Word (sign "t") (codes "o") terminals.To before refl refl refl refl refl refl (λ rest. refl)
spaced_word sorts.As w before = spaced_segment kinds.Word (sign "a") (codes "s") terminals.As before refl refl refl refl refl refl (λ rest. refl)
spaced_word sorts.With w before = spaced_segment kinds.Word (sign "w") (codes "ith") terminals.With before refl refl refl refl refl refl (λ rest. refl)
spaced_word sorts.Show w before = spaced_segment kinds.Word (sign "s") (codes "how") terminals.Show before refl refl refl refl refl refl (λ rest. refl)
spaced_word sorts.Hide w before = spaced_segment kinds.Word (sign "h") (codes "ide") terminals.Hide before refl refl refl refl refl refl (λ rest. refl)
spaced_word _ w before = absurd (cc)
