-- Places where no `#{}` goes on with a word: before a token that is none, and so before each value.
use Rattle.std.proofs.Common.{◌≡◌, ◌⊎◌, ℕ, Bool, suc, true, false, not, List, ◌∷◌, inl, inr, refl, sym, ◌∙◌, ap}
use Rattle.sw_text_scan.proofs.Bounds.{not_true}
use Rattle.sw_tree.specs.declared.expr.Argument.{Argument}
use Rattle.sw_tree.specs.declared.expr.Expr.{Expr}
use Rattle.sw_tree.specs.declared.expr.Link.{Link}
use Rattle.sw_tree.specs.declared.expr.Pair.{Pair}
use Rattle.sw_tree.specs.declared.expr.Sign.{Sign}
use Rattle.sw_tree.specs.declared.text.Parts.{Parts}
use Rattle.sw_parse_grammar.specs.Grammar.{member}
use Rattle.sw_parse_terminals.specs.declared.terminal.Terminal.{Terminal}
use Rattle.sw_parse_terminals.specs.declared.terminal.Terminal.TheVariants as terminals
use Rattle.sw_parse_terminals.specs.Numbers.{number_of, just}
use Rattle.sw_parse_table.specs.declared.source.Source.{Source}
use Rattle.sw_parse_table.specs.declared.operator.Precedence.{Precedence}
use Rattle.sw_parse_table.specs.Sets.{operators}
use Rattle.sw_convert_again.specs.Tokens.{Tok, Old}
use Rattle.sw_convert_again.specs.Spells.{Spells, SpellsWord, SpellsPlain, SpellsLinks, SpellsItems, SpellsCommas, SpellsPairs, SpellsSigns, SpellsMore, unlisted}
use Rattle.sw_convert_again.specs.Spells as spells
use Rattle.sw_convert_tokens.proofs.Between.{is_binary, binary_by}
use Rattle.sw_convert_values.specs.Values.{is_part_insert, part_in, goes_on}

-- the `#{` that goes on with a word isn't among these terminals
abbrev pub is_apart : List ℕ → Bool
is_apart set = not (member (number_of terminals.PartInsert) set)

apart_by : (terminal : Terminal) (set : List ℕ) → is_apart set ≡ true → member (number_of terminal) set ≡ true
    → is_part_insert terminal ≡ false
apart_by terminals.PartInsert set c m =
    let none = not_true (member (number_of terminals.PartInsert) set) c in
    absurd (let wrong : true ≡ false = sym m ∙ none in cc)
apart_by _ set c m = refl

binary_apart : (terminal : Terminal) → is_binary terminal ≡ true → is_part_insert terminal ≡ false
binary_apart terminals.PartInsert b = absurd (cc)
binary_apart _ b = refl

module _ {source : Source} where
  -- before a token that was read
  pub before_old : {at : ℕ} {set : List ℕ} → Old source at set → is_apart set ≡ true → goes_on source at ≡ false
  before_old {at} {set} old c = ap part_in old.there ∙ apart_by old.lexeme.terminal set c old.kind

  before_operator : {at : ℕ} (precedence : Precedence) → Old source at (operators precedence) → goes_on source at ≡ false
  before_operator precedence old =
      ap part_in old.there ∙ binary_apart old.lexeme.terminal (binary_by precedence old.lexeme.terminal old.kind)

  -- before a value
  pub before_word : {i j : ℕ} {parts : Parts} {tokens : List Tok} → SpellsWord source i j parts tokens
      → goes_on source i ≡ false
  before_word (spells.named old row) = before_old old refl
  before_word (spells.begun opens inner close row) = before_old opens refl
  before_word (spells.begun_minus minus opens inner close row) = before_old minus refl

  before_signs : {i j : ℕ} {first : Sign} {signs : List Sign} {tokens : List Tok}
      → SpellsSigns source i j (first ∷ signs) tokens → goes_on source i ≡ false
  before_signs (spells.more_signs old more) = before_old old refl

  mutual
    pub before_value : {i j : ℕ} {value : Expr} {tokens : List Tok} → Spells source i j value tokens
        → goes_on source i ≡ false
    before_value (spells.number number span e (spells.unsigned old)) = before_old old refl
    before_value (spells.number number span e (spells.signed one two)) = before_old one refl
    before_value (spells.quoted span old) = before_old old refl
    before_value (spells.template span opens inner close) = before_old opens refl
    before_value (spells.hash span one two) = before_old one refl
    before_value (spells.constant span old) = before_old old refl
    before_value (spells.url span old) = before_old old refl
    before_value (spells.url_template span opens inner close) = before_old opens refl
    before_value (spells.special span name opens inner close) = before_old name refl
    before_value (spells.stays_number span old) = before_old old refl
    before_value (spells.stays_signed span one two) = before_old one refl
    before_value (spells.variable span one two) = before_old one refl
    before_value (spells.owned_variable span one two third four) = before_old one refl
    before_value (spells.range span old) = before_old old refl
    before_value (spells.word span word) = before_word word
    before_value (spells.call span name_span name opens inner close) = before_word name
    before_value (spells.owned_call span name_span owner dot name opens inner close) = before_old owner refl
    before_value (spells.parent span old) = before_old old refl
    before_value (spells.important span one two) = before_old one refl
    before_value (spells.prefixed first span signs value) = before_signs signs
    before_value (spells.chain link span value more) = before_plain value
    before_value (spells.spaced next span value more) = before_plain value
    before_value (spells.comma_one span value old) = before_plain value
    before_value (spells.comma_more next span value more end) = before_plain value
    before_value (spells.in_brackets_none span opens close) = before_old opens refl
    before_value (spells.in_brackets_some span opens inner close) = before_old opens refl
    before_value (spells.in_parens_none span opens close) = before_old opens refl
    before_value (spells.in_parens_some span opens inner close) = before_old opens refl
    before_value (spells.map span opens one colon two more end close) = before_old opens refl

    before_plain : {i j : ℕ} {value : Expr} {tokens : List Tok} → SpellsPlain source i j value tokens
        → goes_on source i ≡ false
    before_plain (unlisted bare spelt) = before_value spelt

  -- before what comes behind a value, where there is any
  pub before_links : {k j : ℕ} {links : List Link} {others : List Tok} → SpellsLinks source k j links others
      → goes_on source j ≡ false → goes_on source k ≡ false
  before_links spells.no_links end = end
  before_links (spells.more_links precedence old value more) end = before_operator precedence old

  pub before_items : {k j : ℕ} {items : List Expr} {others : List Tok} → SpellsItems source k j items others
      → goes_on source j ≡ false → goes_on source k ≡ false
  before_items spells.no_items end = end
  before_items (spells.more_items value more) end = before_plain value

  pub before_commas : {k j : ℕ} {items : List Expr} {others : List Tok} → SpellsCommas source k j items others
      → goes_on source j ≡ false → goes_on source k ≡ false
  before_commas spells.no_commas end = end
  before_commas (spells.more_commas old value more) end = before_old old refl

  pub before_pairs : {k j : ℕ} {pairs : List Pair} {others : List Tok} → SpellsPairs source k j pairs others
      → goes_on source j ≡ false → goes_on source k ≡ false
  before_pairs spells.no_pairs end = end
  before_pairs (spells.more_pairs comma one colon two more) end = before_old comma refl

  pub before_more : {k j : ℕ} {args : List Argument} {others : List Tok} → SpellsMore source k j args others
      → goes_on source j ≡ false → goes_on source k ≡ false
  before_more spells.no_more end = end
  before_more (spells.more comma one rest) end = before_old comma refl

  -- before a comma that is left out, or none
  pub before_end : {m j : ℕ} → (j ≡ m) ⊎ ((j ≡ suc m) × Old source m (just terminals.Comma)) → goes_on source j ≡ false
      → goes_on source m ≡ false
  before_end (inl same) end = ap (goes_on source) (sym same) ∙ end
  before_end (inr (same, comma)) end = before_old comma refl
