-- What is written of a value begins with no white space and no `)`.
use Rattle.std.proofs.Common.{◌≡◌, ℕ, Bool, true, false, List, [], ◌∷◌, ◌++◌, length, refl, sym, ◌∙◌, ap, subst, arith}
use Rattle.std.specs.Prelude.{◌==◌}
use Rattle.std.proofs.lemmas.Bool.Decides.{nat_tests}
use Rattle.sw_text_scan.specs.Bytes.{sign, byte, is_white}
use Rattle.sw_text_scan.specs.Runs.{run_end}
use Rattle.sw_text_scan.specs.declared.runs.Class.TheVariants as classes
use Rattle.sw_text_scan.proofs.Bounds.{if_true}
use Rattle.sw_tokens.specs.declared.pieces.Before.TheVariants as befores
use Rattle.sw_tokens.specs.declared.pieces.Change.{Change}
use Rattle.sw_tokens.specs.declared.pieces.Change.TheVariants as changes
use Rattle.sw_tokens.specs.declared.skips.Inside.TheVariants as insides
use Rattle.sw_tokens.specs.declared.token.TokenKind.{TokenKind}
use Rattle.sw_tokens.specs.declared.token.TokenKind.TheVariants as kinds
use Rattle.sw_tokens.specs.Pieces.{made, piece, code_piece}
use Rattle.sw_tokens.specs.Tokens.{is_spaced}
use Rattle.sw_parse_lexemes.specs.declared.sort.Sort.{Sort}
use Rattle.sw_parse_lexemes.specs.declared.sort.Sort.TheVariants as sorts
use Rattle.sw_parse_lexemes.specs.declared.state.Mode.{Mode}
use Rattle.sw_parse_lexemes.specs.declared.state.Mode.TheVariants as modes
use Rattle.sw_parse_lexemes.specs.Classes.{is_name, is_number}
use Rattle.sw_parse_lexemes.specs.Sorts.{sort_of}
use Rattle.sw_convert_spelling.specs.Spelt.{behind_gap}
use Rattle.sw_convert_spelling.proofs.Choices.{by_test, no_white_piece, unlike}
use Rattle.sw_convert_passing.specs.Kinds.{is_quoted, is_constant, is_lone_value, is_prefix}
use Rattle.sw_convert_passing.specs.Written.{Written}
use Rattle.sw_convert_passing.specs.Values.{Value, Word}
use Rattle.sw_convert_passing.specs.Values as passing
use Rattle.sw_convert_again.specs.Tokens.{Tok}
use Rattle.sw_convert_tokens.specs.Joints.{Joint, Token, Apart, Stand, text, writtens}
use Rattle.sw_convert_tokens.specs.Written.{AsValue, WrittenAs}
use Rattle.sw_convert_tokens.proofs.Signs.{lone_token}

-- ---- its first token

abbrev begins : Sort → Bool
begins sorts.CloseParen = false
begins sorts.Comment = false
begins _ = true

chosen : (test : Sort → Bool) → test sorts.CloseParen ≡ false → test sorts.Comment ≡ false → (sort : Sort)
    → test sort ≡ true → begins sort ≡ true
chosen test a b sorts.CloseParen e = absurd (let wrong : true ≡ false = sym e ∙ a in cc)
chosen test a b sorts.Comment e = absurd (let wrong : true ≡ false = sym e ∙ b in cc)
chosen test a b _ e = refl

abbrev Begins : Bool → List Written → Type 0
Begins spaced [] = ⊥
Begins spaced (first ∷ rest) = (first.spaced ≡ spaced) × (begins first.sort ≡ true)

begins_append : (spaced : Bool) (left right : List Written) → Begins spaced left → Begins spaced (left ++ right)
begins_append spaced [] right b = absurd b
begins_append spaced (first ∷ left) right b = b

word_begins : {mode : Mode} {spaced owned called : Bool} {ws : List Written} → Word mode spaced owned called ws
    → Begins spaced ws
word_begins (passing.named sort n _ _) = (refl, chosen is_name refl refl sort n)
word_begins (passing.begun inner parts) = (refl, refl)
word_begins (passing.begun_minus inner parts) = (refl, refl)

value_begins : {mode : Mode} {spaced signed : Bool} {ws : List Written} → Value mode spaced signed ws → Begins spaced ws
value_begins (passing.number sort e) = (refl, chosen is_number refl refl sort e)
value_begins (passing.negative sort e) = (refl, refl)
value_begins (passing.positive sort e) = (refl, refl)
value_begins (passing.quoted sort e) = (refl, chosen is_quoted refl refl sort e)
value_begins (passing.template inner) = (refl, refl)
value_begins (passing.hash sort e) = (refl, refl)
value_begins (passing.constant sort e) = (refl, chosen is_constant refl refl sort e)
value_begins (passing.lone_value sort e) = (refl, chosen is_lone_value refl refl sort e)
value_begins (passing.url_template inner) = (refl, refl)
value_begins (passing.variable sort n) = (refl, refl)
value_begins (passing.owned_variable owner sort n m) = (refl, chosen is_name refl refl owner n)
value_begins (passing.owned_call owner n name call) = (refl, chosen is_name refl refl owner n)
value_begins (passing.word name) = word_begins name
value_begins (passing.call {name = name} {call = call} is_word is_call) = begins_append _ name call (word_begins is_word)
value_begins passing.important = (refl, refl)
value_begins (passing.in_parens inner) = (refl, refl)
value_begins (passing.in_brackets inner) = (refl, refl)
value_begins (passing.negated value) = (refl, refl)
value_begins (passing.prefixed sort e value) = (refl, chosen is_prefix refl refl sort e)
value_begins (passing.linked {left = left} first sort e next) = begins_append _ left _ (value_begins first)
value_begins (passing.divided {left = left} first next) = begins_append _ left _ (value_begins first)
value_begins (passing.beside {left = left} first next) = begins_append _ left _ (value_begins first)
value_begins (passing.special blank inner) = (refl, refl)
value_begins (passing.seamed {value = value} it) = begins_append _ value _ (value_begins it)

-- ---- its first byte

pub record IsBegun (text : List ℕ) : Type 0 where
  pub first : ℕ
  pub rest : List ℕ
  pub is : text ≡ first ∷ rest
  pub black : is_white first ≡ false
  pub opened : (first == sign ")") ≡ false

pub begun_more : (text more : List ℕ) → IsBegun text → IsBegun (text ++ more)
begun_more text more it = record {
  first = it.first;
  rest = it.rest ++ more;
  is = ap (λ (t : List ℕ). t ++ more) it.is;
  black = it.black;
  opened = it.opened;
}

abbrev is_close : TokenKind → Bool
is_close kinds.CloseParen = true
is_close _ = false

close_sort : (kind : TokenKind) (bytes : List ℕ) → is_close kind ≡ true → begins (sort_of kind bytes) ≡ false
close_sort kinds.CloseParen bytes e = refl
close_sort _ bytes e = absurd (cc)

module _ (b : ℕ) (rest : List ℕ) (kind : TokenKind) (n : ℕ) (change : Change) (bytes : List ℕ)
    (is : piece (b ∷ rest) insides.Sheet befores.Other 0 ≡ made kind n change)
    (first : begins (sort_of kind bytes) ≡ true) where
  no_white : is_white b ≡ true → ⊥
  unfolding code_piece byte
  no_white e =
      no_white_piece (run_end classes.White (b ∷ rest) 0) (sym (if_true (is_white b) _ _ e) ∙ is)

  no_close : (b == sign ")") ≡ true → ⊥
  no_close e =
      let there : b ≡ sign ")" = grind (arith, nat_tests) in
      let close = sym (subst (λ (x : ℕ). piece (x ∷ rest) insides.Sheet befores.Other 0 ≡ made kinds.CloseParen 1 changes.Keep) (sym there)
      (lone_token (sign ")") insides.Sheet befores.Other rest refl refl)) ∙ is in
      absurd (let wrong : true ≡ false = sym first ∙ close_sort kind bytes (unlike is_close kinds.CloseParen 1 changes.Keep close) in cc)

  byte_begun : (others : List ℕ) → IsBegun (b ∷ others)
  byte_begun others = record {
    first = b;
    rest = others;
    is = refl;
    black = by_test (is_white b ≡ false) (is_white b) (λ t. absurd (no_white t)) (λ t. t);
    opened = by_test ((b == sign ")") ≡ false) (b == sign ")") (λ t. absurd (no_close t)) (λ t. t);
  }

begun_in : (joints : List Joint) → Begins false (writtens joints) → Stand [] befores.Other joints [] []
    → IsBegun (text joints)
begun_in [] b s = absurd b
begun_in (Apart ∷ joints) (spaced, first) s = absurd (cc)
begun_in (Token seen ∷ joints) (spaced, first) (fits, some, (told, seen_is), opening, token, more) =
    by_gap seen.gap refl
  where
    by_bytes : (bytes : List ℕ) → seen.bytes ≡ bytes → seen.gap ≡ [] → IsBegun (text (Token seen ∷ joints))
    by_bytes [] e g = absurd (let none = ap (λ (t : List ℕ). length t) e in omega (arith, some, none))
    by_bytes (b ∷ bytes) e g =
        let rest = text joints ++ [] in
        let is : piece (b ∷ (bytes ++ rest)) insides.Sheet befores.Other 0 ≡ made seen.kind (length seen.bytes) seen.change =
        ap (λ (t : List ℕ). piece (t ++ rest) insides.Sheet befores.Other 0) (sym e)
        ∙ ap (λ (t : List ℕ). piece (seen.bytes ++ rest) insides.Sheet (behind_gap befores.Other t) 0) (sym g) ∙ token in
        subst IsBegun
        (ap (λ (t : List ℕ). t ++ text joints) (sym e) ∙ ap (λ (t : List ℕ). t ++ (seen.bytes ++ text joints)) (sym g))
        (byte_begun b (bytes ++ rest) seen.kind (length seen.bytes) seen.change seen.bytes is first (bytes ++ text joints))

    by_gap : (gap : List ℕ) → seen.gap ≡ gap → IsBegun (text (Token seen ∷ joints))
    by_gap [] g = by_bytes seen.bytes refl g
    by_gap (b ∷ gap) g =
        absurd
        (let wrong : false ≡ true = sym spaced ∙ told ∙ ap (λ (t : List ℕ). is_spaced (behind_gap befores.Other t)) g in cc)

pub value_begun : {signed : Bool} {bytes : List ℕ} {tokens : List Tok} → WrittenAs (AsValue signed) bytes tokens
    → IsBegun bytes
value_begun value =
    let it = value befores.Other false refl in
    let segment = it.segment in
    subst IsBegun segment.spelling
    (begun_in segment.joints
    (subst (Begins false) (sym segment.written) (value_begins (it.told modes.Expression refl)))
    (segment.stand [] [] refl (record { stop = refl; closed = refl })))
