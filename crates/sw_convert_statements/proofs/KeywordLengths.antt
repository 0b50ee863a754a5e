-- Every keyword that is written is longer than a sign, and every brace has a text.
use Rattle.std.proofs.Common.{◌≡◌, ◌<◌, ℕ, zero, suc, ◌-◌, Bool, true, false, ◌&&◌, if◌then◌else◌, List, ◌++◌, length, refl, sym, ◌∙◌, ap, arith}
use Rattle.std.specs.Prelude.{nat_lt}
use Rattle.std.proofs.lemmas.Bool.Decides.{nat_tests}
use Rattle.sw_tokens.specs.declared.pieces.Before.{Before}
use Rattle.sw_tokens.specs.declared.pieces.Change.{Change}
use Rattle.sw_tokens.specs.declared.skips.Inside.{Inside}
use Rattle.sw_tokens.specs.declared.token.Token.{Token}
use Rattle.sw_tokens.specs.declared.token.TokenKind.{TokenKind}
use Rattle.sw_tokens.specs.declared.token.TokenKind.TheVariants as kinds
use Rattle.sw_tokens.specs.Pieces.{made, piece}
use Rattle.sw_parse_terminals.specs.Urls.{has_namespace}
use Rattle.sw_parse_lexemes.specs.declared.plain.Plain.{Plain}
use Rattle.sw_parse_lexemes.specs.declared.sort.Sort.{Sort}
use Rattle.sw_parse_lexemes.specs.declared.sort.Sort.TheVariants as sorts
use Rattle.sw_parse_lexemes.specs.Ahead.{sort_at, length_at}
use Rattle.sw_parse_lexemes.specs.Classes.{is_name}
use Rattle.sw_parse_lexemes.specs.Sorts.{sort_of}
use Rattle.sw_convert_spelling.specs.Spelt.{behind_gap, innermost}
use Rattle.sw_convert_heads_passing.specs.Heads.{is_keyword, AreKeywords}
use Rattle.sw_convert_heads_passing.specs.RawTexts.{AreBraces}
use Rattle.sw_convert_tokens.specs.Joints.{Joint, Token as Seen, Apart, text, Stand}
use Rattle.sw_convert_tokens.proofs.Laid.{Laid, laid_end, laid}
use Rattle.sw_convert_tokens.proofs.Words.{name_yes}
use Rattle.sw_convert_statements.proofs.AtNames.{at_name_long}

-- ---- what an at-keyword is

-- no keyword is a name
apart : (sort : Sort) → (is_keyword sort && is_name sort) ≡ false
apart sorts.AtUse = refl
apart _ = refl

no_name : (sort : Sort) → is_name sort ≡ true → is_keyword sort ≡ true → ⊥
no_name sort n k =
    let wrong : true ≡ false = sym n ∙ ap (λ (b : Bool). b && is_name sort) (sym k) ∙ apart sort in cc

keyword_kind : (kind : TokenKind) (text : List ℕ) → is_keyword (sort_of kind text) ≡ true → kind ≡ kinds.AtName
keyword_kind kinds.AtName text k = refl
keyword_kind kinds.Word text k = absurd (no_name (sort_of kinds.Word text) (name_yes kinds.Word text refl) k)
keyword_kind kinds.Name text k = absurd (no_name (sort_of kinds.Name text) (name_yes kinds.Name text refl) k)
keyword_kind (kinds.Quoted told) text k = absurd (let wrong : true ≡ false = sym k ∙ quoted (has_namespace told) in cc)
  where
    quoted : (t : Bool) → is_keyword (if t then sorts.Quoted else sorts.Unnamed) ≡ false
    quoted true = refl
    quoted false = refl
keyword_kind _ text k = absurd (cc)

keyword_long : (kind : TokenKind) (bytes rest : List ℕ) (inside : Inside) (before : Before) (change : Change)
    → piece (bytes ++ rest) inside before 0 ≡ made kind (length bytes) change → is_keyword (sort_of kind bytes) ≡ true
    → 1 < length bytes
keyword_long kind bytes rest inside before change is k =
    at_name_long (bytes ++ rest) inside before (length bytes) change
    (is ∙ ap (λ (t : TokenKind). made t (length bytes) change) (keyword_kind kind bytes k))

-- ---- where they stand

longer : (n from to : ℕ) → n < to - from → nat_lt n (to - from) ≡ true
longer n from to l = grind (arith, nat_tests)

pub braces_of : {front : List ℕ} {joints : List Joint} {plains : List Plain} {tokens : List Token}
    → Laid front joints plains tokens → (stack : List Inside) (before : Before) (end : List Inside) (after : List ℕ)
    → Stand stack before joints end after → AreBraces plains
unfolding sort_at length_at
braces_of laid_end stack before end after stand at e = absurd (cc)
braces_of (laid {plain = plain} it more) stack before end after (gap, some, told, opening, one, rest) zero e =
    longer 0 plain.from plain.to (let from = it.from in
    let to = it.to in
    omega (arith, some, from, to))
braces_of (laid it more) stack before end after (gap, some, told, opening, one, rest) (suc at) e =
    braces_of more _ _ end after rest at e

pub keywords_of : {front : List ℕ} {joints : List Joint} {plains : List Plain} {tokens : List Token}
    → Laid front joints plains tokens → (stack : List Inside) (before : Before) (end : List Inside) (after : List ℕ)
    → Stand stack before joints end after → AreKeywords plains
unfolding sort_at length_at
keywords_of laid_end stack before end after stand at k = absurd (cc)
keywords_of (laid {joint = Apart} it more) stack before end after stand zero k =
    absurd (let wrong : true ≡ false = sym k ∙ ap is_keyword it.sort in cc)
keywords_of (laid {joint = Seen seen} {joints = joints} {plain = plain} it more) stack before end after
    (gap, some, told, opening, one, rest) zero k =
    let long = keyword_long seen.kind seen.bytes (text joints ++ after) (innermost stack) (behind_gap before seen.gap)
    seen.change one (sym (ap is_keyword it.sort) ∙ k) in
    longer 1 plain.from plain.to (let from = it.from in
    let to = it.to in
    omega (arith, long, from, to))
keywords_of (laid it more) stack before end after (gap, some, told, opening, one, rest) (suc at) k =
    keywords_of more _ _ end after rest at k
