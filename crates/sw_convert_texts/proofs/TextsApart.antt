-- In a sheet that was read no text of a string stands behind another one, and in each string with `#{}` stands one.
use Rattle.std.proofs.Common.{◌≡◌, ◌⊎◌, ℕ, zero, suc, ◌+◌, Bool, true, false, if◌then◌else◌, List, [], ◌∷◌, Option, Some, None, inl, inr, refl, sym, ◌∙◌, ap, arith}
use Rattle.std.specs.Prelude.{slice_get, slice_range, unwrap_or}
use Rattle.sw_tokens.specs.declared.token.Token.{Token}
use Rattle.sw_tokens.specs.declared.token.TokenKind.{TokenKind}
use Rattle.sw_tokens.specs.declared.token.TokenKind.TheVariants as kinds
use Rattle.sw_parse_grammar.specs.Grammar.{member}
use Rattle.sw_parse_terminals.specs.Urls.{has_namespace}
use Rattle.sw_parse_terminals.specs.Numbers.{number_of, just}
use Rattle.sw_parse_terminals.specs.declared.lexeme.Lexeme.{Lexeme}
use Rattle.sw_parse_terminals.specs.declared.terminal.Terminal.{Terminal}
use Rattle.sw_parse_terminals.specs.declared.terminal.Terminal.TheVariants as terminals
use Rattle.sw_parse_lexemes.specs.declared.plain.Plain.{Plain}
use Rattle.sw_parse_lexemes.specs.declared.sort.Sort.{Sort}
use Rattle.sw_parse_lexemes.specs.declared.sort.Sort.TheVariants as sorts
use Rattle.sw_parse_lexemes.specs.Ahead.{sort_in, sort_at, is_direct}
use Rattle.sw_parse_lexemes.specs.Classes.{is_name, is_comment}
use Rattle.sw_parse_lexemes.specs.Plains.{end_by, plain_of, plains_from}
use Rattle.sw_parse_lexemes.specs.Sorts.{sort_of}
use Rattle.sw_parse_lexemes.specs.Words.{at_sort}
use Rattle.sw_parse_table.specs.declared.source.Source.{Source}
use Rattle.sw_parse_table.specs.Sources.{bytes, lexeme_at}
use Rattle.sw_convert_again.specs.Tokens.{Old}
use Rattle.sw_convert_tokens.specs.Values.{WasRead}
use Rattle.sw_convert_tokens.proofs.Words.{name_yes}
use Rattle.sw_convert_texts.specs.RawKinds.{is_at}
use Rattle.sw_convert_texts.proofs.TerminalChoices.{comes, is_text_sort, is_template, is_template_end}
use Rattle.sw_convert_texts.proofs.TokenPairs.{Next, Pairs, pairs_at, at_yes}
use Rattle.sw_convert_texts.proofs.TextPieces.{is_text, ends_text}
use Rattle.sw_convert_texts.proofs.TemplatePieces.{is_template as is_template_kind, is_open}
use Rattle.sw_convert_texts.proofs.TextTokens.{TextBehind, Opening, Opens, Templates, Strings, all_strings}
use Rattle.sw_convert_texts.proofs.LexemePairs.{plains_in, plain_pairs, lexeme_pairs, LexemeBehind, Comes, comes_at}

-- what ends text
abbrev ends_sort : Sort → Bool
ends_sort sorts.OpenInsert = true
ends_sort sorts.TemplateEnd = true
ends_sort _ = false

abbrev is_open_sort : Sort → Bool
is_open_sort sorts.OpenInsert = true
is_open_sort _ = false

-- a sort that no name, no at-keyword and no string has
abbrev is_inner : Sort → Bool
is_inner sorts.Text = true
is_inner sorts.Template = true
is_inner _ = false

name_no : (sort : Sort) → is_name sort ≡ true → is_inner sort ≡ false
name_no sorts.Text n = absurd (cc)
name_no sorts.Template n = absurd (cc)
name_no _ n = refl

at_no : (sort : Sort) → is_at sort ≡ true → is_inner sort ≡ false
at_no sorts.Text n = absurd (cc)
at_no sorts.Template n = absurd (cc)
at_no _ n = refl

quoted_no : (t : Bool) → is_inner (if t then sorts.Quoted else sorts.Unnamed) ≡ false
quoted_no true = refl
quoted_no false = refl

text_inner : (sort : Sort) → is_text_sort sort ≡ true → is_inner sort ≡ true
text_inner sorts.Text e = refl
text_inner _ e = absurd (cc)

template_inner : (sort : Sort) → is_template sort ≡ true → is_inner sort ≡ true
template_inner sorts.Template e = refl
template_inner _ e = absurd (cc)

-- so a token of such a sort is none of these
no_word : {P : Type 0} (kind : TokenKind) (text : List ℕ) → is_inner (sort_of kind text) ≡ true
    → (is_inner (sort_of kind text) ≡ false) → P
no_word kind text e f = absurd (let no : true ≡ false = sym e ∙ f in cc)

text_kind : (kind : TokenKind) (text : List ℕ) → is_text_sort (sort_of kind text) ≡ true → is_text kind ≡ true
text_kind (kinds.Text told) text e = refl
text_kind kinds.Word text e =
    no_word kinds.Word text (text_inner (sort_of kinds.Word text) e) (name_no (sort_of kinds.Word text) (name_yes kinds.Word text refl))
text_kind kinds.Name text e =
    no_word kinds.Name text (text_inner (sort_of kinds.Name text) e) (name_no (sort_of kinds.Name text) (name_yes kinds.Name text refl))
text_kind kinds.AtName text e = no_word kinds.AtName text (text_inner (at_sort text) e) (at_no (at_sort text) (at_yes text))
text_kind (kinds.Quoted told) text e =
    no_word (kinds.Quoted told) text (text_inner (sort_of (kinds.Quoted told) text) e) (quoted_no (has_namespace told))
text_kind _ text e = absurd (cc)

template_kind : (kind : TokenKind) (text : List ℕ) → is_template (sort_of kind text) ≡ true → is_template_kind kind ≡ true
template_kind kinds.Template text e = refl
template_kind kinds.Word text e =
    no_word kinds.Word text (template_inner (sort_of kinds.Word text) e) (name_no (sort_of kinds.Word text) (name_yes kinds.Word text refl))
template_kind kinds.Name text e =
    no_word kinds.Name text (template_inner (sort_of kinds.Name text) e) (name_no (sort_of kinds.Name text) (name_yes kinds.Name text refl))
template_kind kinds.AtName text e =
    no_word kinds.AtName text (template_inner (at_sort text) e) (at_no (at_sort text) (at_yes text))
template_kind (kinds.Quoted told) text e =
    no_word (kinds.Quoted told) text (template_inner (sort_of (kinds.Quoted told) text) e) (quoted_no (has_namespace told))
template_kind _ text e = absurd (cc)

end_sort : (kind : TokenKind) (text : List ℕ) → ends_text kind ≡ true → ends_sort (sort_of kind text) ≡ true
end_sort kinds.OpenInterpolation text e = refl
end_sort kinds.TemplateEnd text e = refl
end_sort _ text e = absurd (cc)

open_sort : (kind : TokenKind) (text : List ℕ) → is_open kind ≡ true → is_open_sort (sort_of kind text) ≡ true
open_sort kinds.OpenInterpolation text e = refl
open_sort _ text e = absurd (cc)

text_sort : (kind : TokenKind) (text : List ℕ) → is_text kind ≡ true → is_text_sort (sort_of kind text) ≡ true
text_sort (kinds.Text told) text e = refl
text_sort _ text e = absurd (cc)

-- ---- as the pass over tokens has them

record PlainText (p q : Plain) : Type 0 where
  ends : is_text_sort p.sort ≡ true → ends_sort q.sort ≡ true

abbrev PlainOpening : List Plain → Type 0
PlainOpening [] = Unit {0}
PlainOpening (p ∷ ps) = is_open_sort p.sort ≡ true

abbrev PlainOpens : List Plain → Type 0
PlainOpens [] = Unit {0}
PlainOpens (p ∷ ps) = (is_open_sort p.sort ≡ true) ⊎ ((is_text_sort p.sort ≡ true) × PlainOpening ps)

abbrev PlainTemplates : List Plain → Type 0
PlainTemplates [] = Unit {0}
PlainTemplates (p ∷ ps) = (is_template p.sort ≡ true → PlainOpens ps) × PlainTemplates ps

module _ (bs : List ℕ) where
  next_plain : (gap : ℕ) (t : Token) (list : List Token) → Next TextBehind t list
      → Next PlainText (plain_of bs gap t (end_by t (slice_get list 0))) (plains_from bs (end_by t (slice_get list 0)) list)
  unfolding plain_of
  next_plain gap t [] n = tt
  next_plain gap t (u ∷ list) n = record {
    ends = λ e.
        end_sort u.kind (slice_range bs u.from u.to) (n.ends (text_kind t.kind (slice_range bs t.from t.to) e));
  }

  all_plains : (gap : ℕ) (list : List Token) → Pairs TextBehind list → Pairs PlainText (plains_from bs gap list)
  all_plains gap [] p = tt
  all_plains gap (t ∷ list) (n, p) =
      (next_plain gap t list n, all_plains (end_by t (slice_get list 0)) list p)

  plain_opening : (gap : ℕ) (list : List Token) → Opening list → PlainOpening (plains_from bs gap list)
  unfolding plain_of
  plain_opening gap [] o = tt
  plain_opening gap (t ∷ list) o = open_sort t.kind (slice_range bs t.from t.to) o

  plain_opens : (gap : ℕ) (list : List Token) → Opens list → PlainOpens (plains_from bs gap list)
  unfolding plain_of
  plain_opens gap [] o = tt
  plain_opens gap (t ∷ list) (inl o) = inl (open_sort t.kind (slice_range bs t.from t.to) o)
  plain_opens gap (t ∷ list) (inr (text, o)) =
      inr (text_sort t.kind (slice_range bs t.from t.to) text, plain_opening (end_by t (slice_get list 0)) list o)

  plain_templates : (gap : ℕ) (list : List Token) → Templates list → PlainTemplates (plains_from bs gap list)
  unfolding plain_of
  plain_templates gap [] p = tt
  plain_templates gap (t ∷ list) (o, p) = (
    λ e. plain_opens (end_by t (slice_get list 0)) list (o (template_kind t.kind (slice_range bs t.from t.to) e)),
    plain_templates (end_by t (slice_get list 0)) list p,
  )

some_is : (p q : Plain) → Some p ≡ Some q → p ≡ q
some_is p q e = ap (λ (o : Option Plain). unwrap_or o p) e

-- what stands behind the token that opens a string: a `#{`, or a text and a `#{`
abbrev Behind : List Plain → ℕ → Plain → Type 0
Behind ps n q =
    (is_open_sort q.sort ≡ true)
    ⊎ ((is_text_sort q.sort ≡ true) × ((r : Plain) → slice_get ps (suc (suc n)) ≡ Some r → is_open_sort r.sort ≡ true))

templates_at : (ps : List Plain) (n : ℕ) (p q : Plain) → PlainTemplates ps → slice_get ps n ≡ Some p
    → slice_get ps (suc n) ≡ Some q → is_template p.sort ≡ true → Behind ps n q
templates_at [] n p q all got next e = absurd (cc)
templates_at (x ∷ []) zero p q (o, all) got next e = absurd (cc)
templates_at (x ∷ (y ∷ ys)) zero p q (o, all) got next e =
    go (o (ap (λ (a : Plain). is_template a.sort) (some_is x p got) ∙ e))
  where
    opening : (zs : List Plain) → PlainOpening zs → (r : Plain) → slice_get zs 0 ≡ Some r → is_open_sort r.sort ≡ true
    opening [] o r e = absurd (cc)
    opening (z ∷ zs) o r e = ap (λ (a : Plain). is_open_sort a.sort) (sym (some_is z r e)) ∙ o

    go : PlainOpens (y ∷ ys)
        → (is_open_sort q.sort ≡ true)
        ⊎ ((is_text_sort q.sort ≡ true)
        × ((r : Plain) → slice_get (x ∷ (y ∷ ys)) (suc (suc zero)) ≡ Some r → is_open_sort r.sort ≡ true))
    go (inl o) = inl (ap (λ (a : Plain). is_open_sort a.sort) (sym (some_is y q next)) ∙ o)
    go (inr (text, o)) =
        inr (ap (λ (a : Plain). is_text_sort a.sort) (sym (some_is y q next)) ∙ text, λ r e. opening ys o r e)
templates_at (x ∷ xs) (suc n) p q (o, all) got next e = templates_at xs n p q all got next e

-- ---- terminals

only_text : (terminal : Terminal) → member (number_of terminal) (just terminals.TextPiece) ≡ true
    → terminal ≡ terminals.TextPiece
only_text terminals.TextPiece m = refl
only_text _ m = absurd (cc)

only_template : (terminal : Terminal) → member (number_of terminal) (just terminals.Template) ≡ true
    → terminal ≡ terminals.Template
only_template terminals.Template m = refl
only_template _ m = absurd (cc)

only_end : (terminal : Terminal) → member (number_of terminal) (just terminals.TemplateEnd) ≡ true
    → terminal ≡ terminals.TemplateEnd
only_end terminals.TemplateEnd m = refl
only_end _ m = absurd (cc)

-- sorts that differ
open_end : (sort : Sort) → is_open_sort sort ≡ true → is_template_end sort ≡ true → ⊥
open_end sorts.OpenInsert e c = let no : false ≡ true = c in cc
open_end _ e c = let no : false ≡ true = e in cc

open_text : (sort : Sort) → is_open_sort sort ≡ true → is_text_sort sort ≡ true → ⊥
open_text sorts.OpenInsert e c = let no : false ≡ true = c in cc
open_text _ e c = let no : false ≡ true = e in cc

text_end : (sort : Sort) → is_text_sort sort ≡ true → is_template_end sort ≡ true → ⊥
text_end sorts.Text e c = let no : false ≡ true = c in cc
text_end _ e c = let no : false ≡ true = e in cc

ends_no_text : (sort : Sort) → ends_sort sort ≡ true → is_text_sort sort ≡ true → ⊥
ends_no_text sorts.OpenInsert e c = let no : false ≡ true = c in cc
ends_no_text sorts.TemplateEnd e c = let no : false ≡ true = c in cc
ends_no_text _ e c = let no : false ≡ true = e in cc

ends_seen : (sort : Sort) → ends_sort sort ≡ true → is_comment sort ≡ false
ends_seen sorts.OpenInsert e = refl
ends_seen sorts.TemplateEnd e = refl
ends_seen _ e = absurd (cc)

open_seen : (sort : Sort) → is_open_sort sort ≡ true → is_comment sort ≡ false
open_seen sorts.OpenInsert e = refl
open_seen _ e = absurd (cc)

text_seen : (sort : Sort) → is_text_sort sort ≡ true → is_comment sort ≡ false
text_seen sorts.Text e = refl
text_seen _ e = absurd (cc)

module _ (source : Source) (was : WasRead source) where
  abbrev Seen : Lexeme → Type 0
  Seen = Comes (plains_in source) (plain_pairs source was)

  seen : (k : ℕ) (ts : Terminal) (old : Old source k (just ts)) → Seen old.lexeme
  seen k ts old = comes_at source was k old.lexeme old.there

  -- what the terminal tells of the sort
  told_as : (k : ℕ) (ts : Terminal) (old : Old source k (just ts)) → old.lexeme.terminal ≡ ts
      → comes ts (sort_at (plains_in source) old.lexeme.token) (seen k ts old).goes
      (is_direct (plains_in source) (old.lexeme.token + 1) sorts.OpenInsert) (seen k ts old).touches ≡ true
  told_as k ts old is =
      let it = seen k ts old in
      ap
      (λ (t : Terminal). comes t (sort_at (plains_in source) old.lexeme.token) it.goes (is_direct (plains_in source) (old.lexeme.token + 1) sorts.OpenInsert) it.touches)
      (sym is)
      ∙ it.fit

  plain_is : (test : Sort → Bool) (lexeme : Lexeme) (it : Seen lexeme) → test (sort_at (plains_in source) lexeme.token) ≡ true
      → test it.plain.sort ≡ true
  unfolding sort_at
  plain_is test lexeme it e = ap (λ (o : Option Plain). test (sort_in o)) (sym it.got) ∙ e

  suc_is : (n : ℕ) → suc n ≡ n + 1
  suc_is n = omega arith

  -- where what stands directly behind is no comment, the grammar sees it next
  next_there : (lexeme next : Lexeme)
      → ((q : Plain) → slice_get (plains_in source) (lexeme.token + 1) ≡ Some q → is_comment q.sort ≡ false)
      → LexemeBehind (plains_in source) (plain_pairs source was) lexeme next → next.token ≡ lexeme.token + 1
  unfolding sort_at
  next_there lexeme next none (inl (s, c, d)) = go (slice_get (plains_in source) (lexeme.token + 1)) refl c
    where
      go : (o : Option Plain) → slice_get (plains_in source) (lexeme.token + 1) ≡ o → is_comment (sort_in o) ≡ true
          → next.token ≡ lexeme.token + 1
      go None got c = absurd (let no : false ≡ true = c in cc)
      go (Some q) got c = absurd (let no : true ≡ false = sym c ∙ none q got in cc)
  next_there lexeme next none (inr (at, silent)) = at

  behind_at : (k : ℕ) (lexeme next : Lexeme) → lexeme_at source k ≡ Some lexeme → lexeme_at source (suc k) ≡ Some next
      → LexemeBehind (plains_in source) (plain_pairs source was) lexeme next
  behind_at k lexeme next there next_is =
      pairs_at (LexemeBehind (plains_in source) (plain_pairs source was)) source.lexemes.now k lexeme next
      (lexeme_pairs source was) there next_is

  strings : Strings source.tokens.now.list
  strings = all_strings (bytes source) source.tokens.now.list was.tokens

  -- ---- a text and what stands behind it

  text_there : (k : ℕ) (old : Old source k (just terminals.TextPiece)) → is_text_sort (seen k terminals.TextPiece old).plain.sort ≡ true
  text_there k old =
      plain_is is_text_sort old.lexeme (seen k terminals.TextPiece old)
      (told_as k terminals.TextPiece old (only_text old.lexeme.terminal old.kind))

  end_there : (k : ℕ) (old : Old source k (just terminals.TemplateEnd))
      → is_template_end (seen k terminals.TemplateEnd old).plain.sort ≡ true
  end_there k old =
      plain_is is_template_end old.lexeme (seen k terminals.TemplateEnd old)
      (told_as k terminals.TemplateEnd old (only_end old.lexeme.terminal old.kind))

  ended_there : (lexeme : Lexeme) (it : Seen lexeme) → is_text_sort it.plain.sort ≡ true
      → (next : Plain) → slice_get (plains_in source) (lexeme.token + 1) ≡ Some next → ends_sort next.sort ≡ true
  ended_there lexeme it text next got =
      let pair : PlainText it.plain next =
      pairs_at PlainText (plains_in source) lexeme.token it.plain next
      (all_plains (bytes source) 0 source.tokens.now.list strings.pairs) it.got
      (ap (slice_get (plains_in source)) (suc_is lexeme.token) ∙ got) in
      pair.ends text

  pub texts_apart : (k : ℕ) → Old source k (just terminals.TextPiece) → Old source (suc k) (just terminals.TextPiece) → ⊥
  texts_apart k one two =
      let it = seen k terminals.TextPiece one in
      let more = seen (suc k) terminals.TextPiece two in
      let ends = ended_there one.lexeme it (text_there k one) in
      let at = next_there one.lexeme two.lexeme (λ q got. ends_seen q.sort (ends q got))
      (behind_at k one.lexeme two.lexeme one.there two.there) in
      ends_no_text more.plain.sort
      (ends more.plain (ap (slice_get (plains_in source)) (sym at) ∙ more.got)) (text_there (suc k) two)

  -- ---- a string with `#{}` has one

  opened_there : (k : ℕ) (old : Old source k (just terminals.Template)) (next : Plain)
      → slice_get (plains_in source) (old.lexeme.token + 1) ≡ Some next
      → Behind (plains_in source) old.lexeme.token next
  opened_there k old next got =
      let it = seen k terminals.Template old in
      templates_at (plains_in source) old.lexeme.token it.plain next
      (plain_templates (bytes source) 0 source.tokens.now.list strings.templates) it.got
      (ap (slice_get (plains_in source)) (suc_is old.lexeme.token) ∙ got)
      (plain_is is_template old.lexeme it (told_as k terminals.Template old (only_template old.lexeme.terminal old.kind)))

  behind_seen : (n : ℕ) (q : Plain) → Behind (plains_in source) n q → is_comment q.sort ≡ false
  behind_seen n q (inl o) = open_seen q.sort o
  behind_seen n q (inr (text, o)) = text_seen q.sort text

  -- the token behind the one that opens a string
  opened_next : (k : ℕ) (old : Old source k (just terminals.Template)) (next : Lexeme) (it : Seen next)
      → lexeme_at source (suc k) ≡ Some next
      → (next.token ≡ old.lexeme.token + 1) × Behind (plains_in source) old.lexeme.token it.plain
  opened_next k old next it there =
      let at = next_there old.lexeme next (λ q got. behind_seen old.lexeme.token q (opened_there k old q got))
      (behind_at k old.lexeme next old.there there) in
      (at, opened_there k old it.plain (ap (slice_get (plains_in source)) (sym at) ∙ it.got))

  pub begins_open : (k : ℕ) → Old source k (just terminals.Template) → Old source (suc k) (just terminals.TemplateEnd) → ⊥
  begins_open k old end =
      let it = seen (suc k) terminals.TemplateEnd end in
      let ends = end_there (suc k) end in
      go it.plain.sort ends (opened_next k old end.lexeme it end.there).1
    where
      go : (sort : Sort) → is_template_end sort ≡ true
          → (is_open_sort sort ≡ true)
          ⊎ ((is_text_sort sort ≡ true)
          × ((r : Plain) → slice_get (plains_in source) (suc (suc old.lexeme.token)) ≡ Some r → is_open_sort r.sort ≡ true))
          → ⊥
      go sort ends (inl o) = open_end sort o ends
      go sort ends (inr (text, more)) = text_end sort text ends

  pub text_opens : (k : ℕ) → Old source k (just terminals.Template) → Old source (suc k) (just terminals.TextPiece)
      → Old source (suc (suc k)) (just terminals.TemplateEnd) → ⊥
  text_opens k old text end =
      let it = seen (suc k) terminals.TextPiece text in
      let (at, behind) = opened_next k old text.lexeme it text.there in
      go at (text_there (suc k) text) behind
    where
      go : text.lexeme.token ≡ old.lexeme.token + 1
          → is_text_sort (seen (suc k) terminals.TextPiece text).plain.sort ≡ true
          → (is_open_sort (seen (suc k) terminals.TextPiece text).plain.sort ≡ true)
          ⊎ ((is_text_sort (seen (suc k) terminals.TextPiece text).plain.sort ≡ true)
          × ((r : Plain) → slice_get (plains_in source) (suc (suc old.lexeme.token)) ≡ Some r → is_open_sort r.sort ≡ true))
          → ⊥
      go at is (inl o) = open_text _ o is
      go at is (inr (same, opens)) =
          let place : text.lexeme.token + 1 ≡ suc (suc old.lexeme.token) = omega (arith, at) in
          let more = seen (suc (suc k)) terminals.TemplateEnd end in
          let further : (q : Plain) → slice_get (plains_in source) (text.lexeme.token + 1) ≡ Some q → is_open_sort q.sort ≡ true =
          λ q got. opens q (ap (slice_get (plains_in source)) (sym place) ∙ got) in
          let next = next_there text.lexeme end.lexeme (λ q got. open_seen q.sort (further q got))
          (behind_at (suc k) text.lexeme end.lexeme text.there end.there) in
          open_end more.plain.sort (further more.plain (ap (slice_get (plains_in source)) (sym next) ∙ more.got))
          (end_there (suc (suc k)) end)
