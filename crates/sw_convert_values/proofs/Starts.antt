-- Places that no `.` of a namespace and no `!` stands before.
use Rattle.std.proofs.Common.{◌≡◌, ℕ, suc, Bool, true, false, not, ◌&&◌, List, ◌∷◌, refl, sym, ◌∙◌, ap}
use Rattle.sw_text_scan.proofs.Bounds.{and_left, and_right, not_true}
use Rattle.sw_tree.specs.declared.expr.Expr.{Expr}
use Rattle.sw_tree.specs.declared.expr.Sign.{Sign}
use Rattle.sw_parse_grammar.specs.Grammar.{member}
use Rattle.sw_parse_terminals.specs.declared.terminal.Terminal.{Terminal}
use Rattle.sw_parse_terminals.specs.declared.terminal.Terminal.TheVariants as terminals
use Rattle.sw_parse_terminals.specs.Numbers.{number_of}
use Rattle.sw_parse_lexemes.specs.Signs.{ends_operand}
use Rattle.sw_parse_table.specs.declared.source.Source.{Source}
use Rattle.sw_parse_table.specs.declared.operator.Precedence.{Precedence}
use Rattle.sw_parse_table.specs.Sets.{operators}
use Rattle.sw_convert_again.specs.Tokens.{Tok, Old}
use Rattle.sw_convert_again.specs.Spells.{SpellsPlain, SpellsSigns, no_signs, more_signs}
use Rattle.sw_convert_tokens.proofs.Between.{is_binary, binary_by}
use Rattle.sw_convert_tokens.proofs.Ends.{plain_ends}
use Rattle.sw_convert_values.specs.Values.{leads, leads_in, is_led}

-- none of these terminals leads
abbrev pub is_clear : List ℕ → Bool
is_clear set =
    not (member (number_of terminals.OwnerDot) set)
    && (not (member (number_of terminals.Bang) set) && not (member (number_of terminals.Ending) set))

clear_by : (terminal : Terminal) (set : List ℕ) → is_clear set ≡ true → member (number_of terminal) set ≡ true
    → leads terminal ≡ false
clear_by terminals.OwnerDot set c m =
    let none = not_true (member (number_of terminals.OwnerDot) set) (and_left (not (member (number_of terminals.OwnerDot) set)) _ c) in
    absurd (let wrong : true ≡ false = sym m ∙ none in cc)
clear_by terminals.Bang set c m =
    let others = and_right (not (member (number_of terminals.OwnerDot) set)) _ c in
    let none = not_true (member (number_of terminals.Bang) set) (and_left (not (member (number_of terminals.Bang) set)) _ others) in
    absurd (let wrong : true ≡ false = sym m ∙ none in cc)
clear_by terminals.Ending set c m =
    let others = and_right (not (member (number_of terminals.OwnerDot) set)) _ c in
    let none = not_true (member (number_of terminals.Ending) set) (and_right (not (member (number_of terminals.Bang) set)) _ others) in
    absurd (let wrong : true ≡ false = sym m ∙ none in cc)
clear_by _ set c m = refl

binary_calm : (terminal : Terminal) → is_binary terminal ≡ true → leads terminal ≡ false
binary_calm terminals.OwnerDot b = absurd (cc)
binary_calm terminals.Bang b = absurd (cc)
binary_calm terminals.Ending b = absurd (cc)
binary_calm _ b = refl

operand_calm : (terminal : Terminal) → ends_operand terminal ≡ true → leads terminal ≡ false
operand_calm terminals.OwnerDot e = absurd (cc)
operand_calm terminals.Bang e = absurd (cc)
operand_calm terminals.Ending e = absurd (cc)
operand_calm _ e = refl

module _ {source : Source} where
  -- behind a token that was read
  pub behind_old : {at : ℕ} {set : List ℕ} → Old source at set → is_clear set ≡ true → is_led source (suc at) ≡ false
  behind_old {at} {set} old c = ap leads_in old.there ∙ clear_by old.lexeme.terminal set c old.kind

  pub behind_operator : {at : ℕ} (precedence : Precedence) → Old source at (operators precedence)
      → is_led source (suc at) ≡ false
  behind_operator precedence old =
      ap leads_in old.there ∙ binary_calm old.lexeme.terminal (binary_by precedence old.lexeme.terminal old.kind)

  -- behind a value
  pub behind_value : {i k : ℕ} {value : Expr} {tokens : List Tok} → SpellsPlain source i k value tokens
      → is_led source k ≡ false
  behind_value value =
      let end = plain_ends source value in
      ap (is_led source) end.is ∙ ap leads_in end.there ∙ operand_calm end.lexeme.terminal end.ends

  -- behind signs
  pub behind_signs : {i k : ℕ} {first : Sign} {signs : List Sign} {tokens : List Tok}
      → SpellsSigns source i k (first ∷ signs) tokens → is_led source k ≡ false
  behind_signs (more_signs old no_signs) = behind_old old refl
  behind_signs (more_signs old (more_signs next more)) = behind_signs (more_signs next more)
