-- The last token of a value ends an operand, so that no sign before a value stands behind it.
use Rattle.std.proofs.Common.{◌≡◌, ℕ, zero, suc, Bool, true, false, ◌&&◌, List, [], ◌∷◌, eqb, Option, Some, inl, inr, refl, sym, ◌∙◌, ap, subst, arith}
use Rattle.std.specs.Prelude.{slice_get, unwrap_or}
use Rattle.sw_parse_grammar.specs.Grammar.{member}
use Rattle.sw_parse_grammar.proofs.Sets.{or_cases, and_both}
use Rattle.sw_text.specs.declared.place.Span.{Span}
use Rattle.sw_tree.specs.declared.text.Parts.{Parts}
use Rattle.sw_tree.specs.declared.expr.Around.TheVariants as arounds
use Rattle.sw_tree.specs.declared.expr.Expr.{Expr}
use Rattle.sw_tree.specs.declared.expr.ExprKind.TheVariants as exprs
use Rattle.sw_tree.specs.declared.expr.Link.{Link}
use Rattle.sw_tree.specs.declared.expr.Separator.TheVariants as separators
use Rattle.sw_parse_terminals.specs.declared.terminal.Terminal.{Terminal}
use Rattle.sw_parse_terminals.specs.declared.terminal.Terminal.TheVariants as terminals
use Rattle.sw_parse_terminals.specs.declared.lexeme.Lexeme.{Lexeme}
use Rattle.sw_parse_terminals.specs.Numbers.{number_of, these}
use Rattle.sw_parse_lexemes.specs.Laws.{EachBehind}
use Rattle.sw_parse_lexemes.specs.Plains.{plains_of}
use Rattle.sw_parse_lexemes.specs.Lexemes.{lexemes_of}
use Rattle.sw_parse_lexemes.specs.Signs.{ends_operand}
use Rattle.sw_parse_table.specs.declared.source.Source.{Source}
use Rattle.sw_parse_table.specs.Parts.{Part}
use Rattle.sw_parse_table.specs.Sources.{bytes, lexeme_at}
use Rattle.sw_parse_table.specs.Values.{comma_list}
use Rattle.sw_convert_passing.specs.Standing.{SignStands}
use Rattle.sw_convert_passing.proofs.SignsStand.{signs_stand}
use Rattle.sw_convert_tokens.proofs.PlusSigns.{PlusStands, pluses_stand}
use Rattle.sw_convert_again.specs.Bare.{is_bare, is_bare_by}
use Rattle.sw_convert_again.specs.Tokens.{Tok, Old}
use Rattle.sw_convert_again.specs.Spells.{Spells, SpellsPlain, SpellsLinks, SpellsItems, SpellsWord, SpellsRow, unlisted, unsigned, signed, no_links, more_links, no_items, more_items, named, begun, begun_minus, row_end, row_part, row_insert}
use Rattle.sw_convert_again.specs.Spells as spells
use Rattle.sw_convert_tokens.specs.Values.{OldSign}

-- a list with commas and without brackets is one
pub bare_list : (span : Span) (items : List Expr) → is_bare (comma_list span items) ≡ true
unfolding is_bare
bare_list span items = ap is_bare_by (exprs.outs-List items separators.Comma arounds.Nothing)

-- the terminals that end an operand, as a set
ending : List ℕ
ending =
    these (terminals.Number ∷ terminals.Quoted ∷ terminals.TemplateEnd ∷ terminals.HashName ∷ terminals.True
    ∷ terminals.False ∷ terminals.Null ∷ terminals.Url ∷ terminals.UrlEnd ∷ terminals.VariableName ∷ terminals.Word
    ∷ terminals.Part ∷ terminals.InsertEnd ∷ terminals.Range ∷ terminals.Ampersand ∷ terminals.Important
    ∷ terminals.ParenEnd ∷ terminals.BracketEnd ∷ terminals.RawParenEnd ∷ [])

ends_by : (terminal : Terminal) → member (number_of terminal) ending ≡ true → ends_operand terminal ≡ true
unfolding ending
ends_by terminals.Number m = refl
ends_by terminals.Quoted m = refl
ends_by terminals.TemplateEnd m = refl
ends_by terminals.HashName m = refl
ends_by terminals.True m = refl
ends_by terminals.False m = refl
ends_by terminals.Null m = refl
ends_by terminals.Url m = refl
ends_by terminals.UrlEnd m = refl
ends_by terminals.VariableName m = refl
ends_by terminals.Word m = refl
ends_by terminals.Part m = refl
ends_by terminals.InsertEnd m = refl
ends_by terminals.Range m = refl
ends_by terminals.Ampersand m = refl
ends_by terminals.Important m = refl
ends_by terminals.ParenEnd m = refl
ends_by terminals.BracketEnd m = refl
ends_by terminals.RawParenEnd m = refl
ends_by _ m = absurd (cc)

abbrev all_end : List ℕ → Bool
all_end [] = true
all_end (x ∷ xs) = member x ending && all_end xs

in_ending : (k : ℕ) (xs : List ℕ) → all_end xs ≡ true → member k xs ≡ true → member k ending ≡ true
in_ending k [] a m = absurd (cc)
in_ending k (x ∷ xs) a m =
    let both = and_both (member x ending) (all_end xs) a in
    elim (or_cases (eqb k x) (member k xs) m) [
      | inl e ↦ subst (λ (z : ℕ). member z ending ≡ true) (grind (arith, e)) both.0
      | inr e ↦ in_ending k xs both.1 e
    ]

-- ---- the last token of a value

-- the token before a place ends an operand
pub record Ended (source : Source) (place : ℕ) : Type 0 where
  pub lexeme : Lexeme
  pub at : ℕ
  pub is : place ≡ suc at
  pub there : lexeme_at source at ≡ Some lexeme
  pub ends : ends_operand lexeme.terminal ≡ true

module _ (source : Source) where
  ended : {set : List ℕ} (at : ℕ) → all_end set ≡ true → Old source at set → Ended source (suc at)
  ended {set} at all old = record {
    lexeme = old.lexeme;
    at = at;
    is = refl;
    there = old.there;
    ends = ends_by old.lexeme.terminal (in_ending (number_of old.lexeme.terminal) set all old.kind);
  }

  -- what goes on with a word
  row_ends : {i j count : ℕ} {inserts : List Part} {tokens : List Tok} → Ended source i
      → SpellsRow source terminals.Part terminals.PartInsert 0 i j inserts count tokens → Ended source j
  unfolding ending
  row_ends end row_end = end
  row_ends end (row_part {i = i} old more) = row_ends (ended i refl old) more
  row_ends end (row_insert {c = c} opens value close more) = row_ends (ended c refl close) more

  word_ends : {i j : ℕ} {parts : Parts} {tokens : List Tok} → SpellsWord source i j parts tokens → Ended source j
  unfolding ending
  word_ends (named {i} old more) = row_ends (ended i refl old) more
  word_ends (begun {c = c} opens value close more) = row_ends (ended c refl close) more
  word_ends (begun_minus {c = c} minus opens value close more) = row_ends (ended c refl close) more

  mutual
    unfolding ending

    value_ends : {i j : ℕ} {value : Expr} {tokens : List Tok} → Spells source i j value tokens → is_bare value ≡ false
        → Ended source j
    value_ends (spells.number number span e (unsigned {i} old)) b = ended i refl old
    value_ends (spells.number number span e (signed {i} one two)) b = ended (suc i) refl two
    value_ends (spells.quoted {i} span old) b = ended i refl old
    value_ends (spells.template {k = k} span opens inner close) b = ended k refl close
    value_ends (spells.hash {i} span one two) b = ended (suc i) refl two
    value_ends (spells.constant {i} span old) b = ended i refl old
    value_ends (spells.url {i} span old) b = ended i refl old
    value_ends (spells.url_template {k = k} span opens inner close) b = ended k refl close
    value_ends (spells.special {k = k} span name opens inner close) b = ended k refl close
    value_ends (spells.stays_number {i} span old) b = ended i refl old
    value_ends (spells.stays_signed {i} span one two) b = ended (suc i) refl two
    value_ends (spells.variable {i} span one two) b = ended (suc i) refl two
    value_ends (spells.owned_variable {i} span one two three four) b = ended (suc (suc (suc i))) refl four
    value_ends (spells.range {i} span old) b = ended i refl old
    value_ends (spells.word span word) b = word_ends word
    value_ends (spells.call {c = c} span name_span name opens inner close) b = ended c refl close
    value_ends (spells.owned_call {c = c} span name_span owner dot name opens inner close) b = ended c refl close
    value_ends (spells.parent {i} span old) b = ended i refl old
    value_ends (spells.important {i} span one two) b = ended (suc i) refl two
    value_ends (spells.prefixed first span before value) b = plain_ends value
    value_ends (spells.chain link span value more) b = links_end (plain_ends value) more
    value_ends (spells.spaced next span value more) b = items_end (plain_ends value) more
    value_ends (spells.comma_one {item = item} span value old) b =
        absurd (let t = bare_list span (item ∷ []) in cc)
    value_ends (spells.comma_more {first = first} {items = items} next span value more end) b =
        absurd (let t = bare_list span (first ∷ next ∷ items) in cc)
    value_ends (spells.in_brackets_none {i} span opens close) b = ended (suc i) refl close
    value_ends (spells.in_brackets_some {k = k} span opens inner close) b = ended k refl close
    value_ends (spells.in_parens_none {i} span opens close) b = ended (suc i) refl close
    value_ends (spells.in_parens_some {k = k} span opens inner close) b = ended k refl close
    value_ends (spells.map {close = close} span opens one colon two more end last) b = ended close refl last

    pub plain_ends : {i j : ℕ} {value : Expr} {tokens : List Tok} → SpellsPlain source i j value tokens → Ended source j
    plain_ends (unlisted b spelt) = value_ends spelt b

    links_end : {i j : ℕ} {links : List Link} {tokens : List Tok} → Ended source i → SpellsLinks source i j links tokens
        → Ended source j
    links_end end no_links = end
    links_end end (more_links precedence old value more) = links_end (plain_ends value) more

    items_end : {i j : ℕ} {items : List Expr} {tokens : List Tok} → Ended source i → SpellsItems source i j items tokens
        → Ended source j
    items_end end no_items = end
    items_end end (more_items value more) = items_end (plain_ends value) more

  -- ---- what stands behind it

  some_is : (x y : Lexeme) → Some x ≡ Some y → x ≡ y
  some_is x y e = ap (λ (o : Option Lexeme). unwrap_or o x) e

  behind : (Law : Terminal → Lexeme → Type 0) (before : Terminal) (lexemes : List Lexeme) (at : ℕ) (a b : Lexeme)
      → EachBehind Law before lexemes → slice_get lexemes at ≡ Some a → slice_get lexemes (suc at) ≡ Some b
      → Law a.terminal b
  behind Law before [] at a b each one two = absurd (cc)
  behind Law before (x ∷ []) zero a b each one two = absurd (cc)
  behind Law before (x ∷ y ∷ rest) zero a b (l, (m, more)) one two =
      subst (λ (z : Lexeme). Law a.terminal z) (some_is y b two)
      (subst (λ (z : Lexeme). Law z.terminal y) (some_is x a one) m)
  behind Law before (x ∷ xs) (suc at) a b (l, each) one two = behind Law x.terminal xs at a b each one two

  pub no_sign_behind : source.lexemes.now ≡ lexemes_of (bytes source) source.tokens.now.list
      → {i k : ℕ} {value : Expr} {tokens : List Tok} → is_bare value ≡ false → Spells source i k value tokens
      → OldSign source k → ⊥
  no_sign_behind are bare spelt sign =
      let end = value_ends spelt bare in
      let text = bytes source in
      let tokens = source.tokens.now.list in
      let plains = plains_of text tokens in
      let there = ap (lexeme_at source) (sym end.is) ∙ sign.there in
      let signs = behind (SignStands plains) terminals.Semicolon source.lexemes.now end.at end.lexeme sign.lexeme
      (subst (λ (l : List Lexeme). EachBehind (SignStands plains) terminals.Semicolon l) (sym are) (signs_stand text tokens))
      end.there there in
      let pluses = behind (PlusStands plains) terminals.Semicolon source.lexemes.now end.at end.lexeme sign.lexeme
      (subst (λ (l : List Lexeme). EachBehind (PlusStands plains) terminals.Semicolon l) (sym are) (pluses_stand text tokens))
      end.there there in
      let ends = end.ends in
      let dark : ends_operand end.lexeme.terminal ≡ false = elim sign.is [
        | inl prefix ↦ signs.prefix prefix
        | inr plus ↦ pluses.number plus.0 plus.1
      ] in
      (let wrong : true ≡ false = sym ends ∙ dark in cc)
