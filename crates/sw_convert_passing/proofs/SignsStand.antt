-- Where signs stand in any text.
use Rattle.std.specs.Prelude.{nat_lt}
use Rattle.std.proofs.Common.{◌≡◌, ◌⊎◌, ℕ, ◌+◌, Bool, true, false, not, ◌&&◌, ◌||◌, if◌then◌else◌, List, inl, inr, refl}
use Rattle.sw_parse_terminals.specs.declared.terminal.Terminal.{Terminal}
use Rattle.sw_parse_terminals.specs.declared.terminal.Terminal.TheVariants as terminals
use Rattle.sw_parse_lexemes.specs.declared.sort.Sort.{Sort}
use Rattle.sw_parse_lexemes.specs.declared.sort.Sort.TheVariants as sorts
use Rattle.sw_parse_lexemes.specs.declared.plain.Plain.{Plain}
use Rattle.sw_parse_lexemes.specs.declared.state.State.{State}
use Rattle.sw_parse_lexemes.specs.Classes.{same}
use Rattle.sw_parse_lexemes.specs.Ahead.{length_at, sort_at, spaced_at, is_direct, name_direct, number_direct, code_from, next_sort}
use Rattle.sw_parse_lexemes.specs.Names.{is, is_raw, is_apart, continues}
use Rattle.sw_parse_lexemes.specs.Signs.{ends_operand, is_text, plus_signs, minus_signs, names_rule, is_behind_rest, takes_flags, ends_value}
use Rattle.sw_parse_lexemes.specs.Brackets.{innermost, is_outer, is_brace, is_custom}
use Rattle.sw_parse_lexemes.specs.Terminals.{else_terminal, terminal_of}
use Rattle.sw_parse_lexemes.specs.Lexemes.{lexeme_of}
use Rattle.sw_parse_lexemes.proofs.Knowing.{Placed, of_text}
use Rattle.sw_parse_lexemes.proofs.NameLaws.{either, and_left}
use Rattle.sw_convert_passing.proofs.NoSigns.{Calm, leaf, pick, choice, or_calm, at_calm, name_calm, string_calm, insert_calm, paren_calm, comma_calm, close_paren_calm, close_bracket_calm, inside_calm}
use Rattle.sw_convert_passing.specs.Standing.{is_prefix_sign, is_number_sign, SignStands, SignsStand}

-- what a sign is
record Facts (spaced operand : Bool) (terminal : Terminal) : Type 0 where
  prefix : is_prefix_sign terminal ≡ true → operand ≡ false
  number : is_number_sign terminal ≡ true → (spaced ≡ true) ⊎ (operand ≡ false)

neither : (a b : Bool) → (a || b) ≡ false → (a ≡ true → ⊥) × (b ≡ true → ⊥)
neither true b e = absurd (cc)
neither false b e = (λ a. absurd (cc), λ t. absurd (cc))

calm_facts : {spaced operand : Bool} {terminal : Terminal} → Calm terminal → Facts spaced operand terminal
calm_facts {spaced} {operand} {terminal} calm =
    let (p, n) = neither (is_prefix_sign terminal) (is_number_sign terminal) calm.calm in
    record { prefix = λ e. absurd (p e); number = λ e. absurd (n e) }

module _ (state : State) (plains : List Plain) (at : ℕ) where
  abbrev operand : Bool
  operand = ends_operand state.before

  abbrev Apart : Type 0
  Apart = (spaced_at plains at ≡ true) ⊎ (operand ≡ false)

  abbrev Told : Terminal → Type 0
  Told terminal = Facts (spaced_at plains at) operand terminal

  by_not : (a b : Bool) → (a && not b) ≡ true → b ≡ false
  by_not true true e = absurd (cc)
  by_not true false e = refl
  by_not false b e = absurd (cc)

  by_either : (a b c : Bool) → (a && (b || not c)) ≡ true → (b ≡ true) ⊎ (c ≡ false)
  by_either true true c e = inl refl
  by_either true false true e = absurd (cc)
  by_either true false false e = inr refl
  by_either false b c e = absurd (cc)

  plus_told : Told
      (if is_text state.mode then
      (if plus_signs state plains at && not (is_raw state.mode) then terminals.Sign else terminals.Raw)
      else (if plus_signs state plains at then terminals.Sign else
      (if operand then terminals.Plus else terminals.PrefixPlus)))
  plus_told = record {
    prefix = either is_prefix_sign (operand ≡ false) (is_text state.mode) _ _
        (λ t. either is_prefix_sign (operand ≡ false) (plus_signs state plains at && not (is_raw state.mode))
        terminals.Sign terminals.Raw (λ s e. absurd (cc)) (λ s e. absurd (cc)))
        (λ t. either is_prefix_sign (operand ≡ false) (plus_signs state plains at) terminals.Sign _ (λ s e. absurd (cc))
        (λ s. either is_prefix_sign (operand ≡ false) operand terminals.Plus
        terminals.PrefixPlus (λ o e. absurd (cc)) (λ o e. o)));
    number = either is_number_sign Apart (is_text state.mode) _ _
        (λ t. either is_number_sign Apart (plus_signs state plains at && not (is_raw state.mode)) terminals.Sign
        terminals.Raw
        (λ s e. inr (by_not (number_direct plains (at + 1)) operand (and_left (plus_signs state plains at) _ s)))
        (λ s e. absurd (cc)))
        (λ t. either is_number_sign Apart (plus_signs state plains at) terminals.Sign _
        (λ s e. inr (by_not (number_direct plains (at + 1)) operand s))
        (λ s. either is_number_sign Apart operand terminals.Plus
        terminals.PrefixPlus (λ o e. absurd (cc)) (λ o e. absurd (cc))));
  }

  slash_told : Told
      (if is_text state.mode then terminals.Raw else (if operand then terminals.Divide else terminals.PrefixSlash))
  slash_told = record {
    prefix = either is_prefix_sign (operand ≡ false) (is_text state.mode) terminals.Raw _ (λ t e. absurd (cc))
        (λ t. either is_prefix_sign (operand ≡ false) operand terminals.Divide
        terminals.PrefixSlash (λ o e. absurd (cc)) (λ o e. o));
    number = either is_number_sign Apart (is_text state.mode) terminals.Raw _ (λ t e. absurd (cc))
        (λ t. either is_number_sign Apart operand terminals.Divide
        terminals.PrefixSlash (λ o e. absurd (cc)) (λ o e. absurd (cc)));
  }

  abbrev insert : Bool
  insert = is_direct plains (at + 1) sorts.OpenInsert

  abbrev signs : Bool
  signs = minus_signs state plains at

  in_text : Terminal
  in_text =
      if names_rule state plains at && insert then terminals.WordMinus
      else (if signs && not (is_raw state.mode) then terminals.Sign else terminals.Raw)

  in_code : Terminal
  in_code =
      if insert then (if is_apart state plains at then terminals.Other else terminals.WordMinus)
      else (if signs then terminals.Sign else (if operand then terminals.Minus else terminals.PrefixMinus))

  minus_told : Told
      (if continues state plains at then terminals.Part else (if is_text state.mode then in_text else in_code))
  unfolding in_text in_code
  minus_told = record {
    prefix = either is_prefix_sign (operand ≡ false) (continues state plains at) terminals.Part _ (λ c e. absurd (cc))
        (λ c. either is_prefix_sign (operand ≡ false) (is_text state.mode) in_text in_code
        (λ t. either is_prefix_sign (operand ≡ false) (names_rule state plains at && insert) terminals.WordMinus
        _ (λ r e. absurd (cc))
        (λ r. either is_prefix_sign (operand ≡ false) (signs && not (is_raw state.mode)) terminals.Sign
        terminals.Raw (λ s e. absurd (cc)) (λ s e. absurd (cc))))
        (λ t. either is_prefix_sign (operand ≡ false) insert _ _
        (λ i. either is_prefix_sign (operand ≡ false) (is_apart state plains at) terminals.Other
        terminals.WordMinus (λ a e. absurd (cc)) (λ a e. absurd (cc)))
        (λ i. either is_prefix_sign (operand ≡ false) signs terminals.Sign _ (λ s e. absurd (cc))
        (λ s. either is_prefix_sign (operand ≡ false) operand terminals.Minus
        terminals.PrefixMinus (λ o e. absurd (cc)) (λ o e. o)))));
    number = either is_number_sign Apart (continues state plains at) terminals.Part _ (λ c e. absurd (cc))
        (λ c. either is_number_sign Apart (is_text state.mode) in_text in_code
        (λ t. either is_number_sign Apart (names_rule state plains at && insert) terminals.WordMinus
        _ (λ r e. absurd (cc))
        (λ r. either is_number_sign Apart (signs && not (is_raw state.mode)) terminals.Sign terminals.Raw
        (λ s e. by_either (number_direct plains (at + 1)) (spaced_at plains at) operand (and_left signs _ s))
        (λ s e. absurd (cc))))
        (λ t. either is_number_sign Apart insert _ _
        (λ i. either is_number_sign Apart (is_apart state plains at) terminals.Other
        terminals.WordMinus (λ a e. absurd (cc)) (λ a e. absurd (cc)))
        (λ i. either is_number_sign Apart signs terminals.Sign _
        (λ s e. by_either (number_direct plains (at + 1)) (spaced_at plains at) operand s)
        (λ s. either is_number_sign Apart operand terminals.Minus
        terminals.PrefixMinus (λ o e. absurd (cc)) (λ o e. absurd (cc))))));
  }

  sort_told : (sort : Sort) → sort_at plains at ≡ sort → Told (terminal_of state plains at)
  unfolding terminal_of in_text in_code
  sort_told sorts.Plus e = rw (e, terminal_of) plus_told
  sort_told sorts.Minus e = rw (e, terminal_of) minus_told
  sort_told sorts.Slash e = rw (e, terminal_of) slash_told
  sort_told sorts.Digits e = rw (e, terminal_of)
      (calm_facts (choice (continues state plains at) _ _ (leaf terminals.Part refl)
      (pick (is_raw state.mode) terminals.Raw terminals.Number refl refl)))
  sort_told sorts.Number e = rw (e, terminal_of)
      (calm_facts (pick (is_raw state.mode) terminals.Raw terminals.Number refl refl))
  sort_told sorts.Quoted e = rw (e, terminal_of)
      (calm_facts (choice (is_text state.mode) _ _ (leaf terminals.Raw refl)
      (string_calm state plains at true state.before)))
  sort_told sorts.Unnamed e = rw (e, terminal_of)
      (calm_facts (choice (is_text state.mode) _ _ (leaf terminals.Raw refl)
      (string_calm state plains at false state.before)))
  sort_told sorts.Comment e = rw (e, terminal_of) (calm_facts (leaf terminals.CommentWhole refl))
  sort_told sorts.CommentTemplate e = rw (e, terminal_of) (calm_facts (leaf terminals.CommentTemplate refl))
  sort_told sorts.CommentEnd e = rw (e, terminal_of) (calm_facts (leaf terminals.CommentEnd refl))
  sort_told sorts.OpenInsert e = rw (e, terminal_of)
      (calm_facts (choice (continues state plains at) _ _ (leaf terminals.PartInsert refl)
      (insert_calm state plains at state.mode)))
  sort_told sorts.CloseInsert e = rw (e, terminal_of) (calm_facts (leaf terminals.InsertEnd refl))
  sort_told sorts.OpenBrace e = rw (e, terminal_of)
      (calm_facts (choice (is_custom state.mode && nat_lt 0 (length_at plains at)) _ _ (leaf terminals.RawBrace refl)
      (choice (is_outer (innermost state.frames)) _ _ (leaf terminals.Open refl)
      (inside_calm state.mode (innermost state.frames)))))
  sort_told sorts.CloseBrace e = rw (e, terminal_of)
      (calm_facts (choice (is_brace (innermost state.frames)) _ _ (leaf terminals.RawBraceEnd refl)
      (choice (is_outer (innermost state.frames)) _ _ (leaf terminals.Close refl)
      (choice (is_custom state.mode) _ _ (leaf terminals.Other refl)
      (inside_calm state.mode (innermost state.frames))))))
  sort_told sorts.Semicolon e = rw (e, terminal_of)
      (calm_facts (choice (is_outer (innermost state.frames)) _ _ (leaf terminals.Semicolon refl)
      (inside_calm state.mode (innermost state.frames))))
  sort_told sorts.OpenParen e = rw (e, terminal_of)
      (calm_facts (choice (is state.before terminals.Special) _ _ (leaf terminals.RawParen refl)
      (paren_calm state plains at state.mode)))
  sort_told sorts.CloseParen e = rw (e, terminal_of) (calm_facts (close_paren_calm state.mode (innermost state.frames)))
  sort_told sorts.CloseBracket e = rw (e, terminal_of)
      (calm_facts (close_bracket_calm state.mode (innermost state.frames)))
  sort_told sorts.Comma e = rw (e, terminal_of) (calm_facts (comma_calm state.mode))
  sort_told sorts.Dot e = rw (e, terminal_of)
      (calm_facts (choice (is state.before terminals.Owner && not (spaced_at plains at)) _ _
      (leaf terminals.OwnerDot refl) (or_calm state.mode terminals.Other refl)))
  sort_told sorts.Dollar e = rw (e, terminal_of)
      (calm_facts (choice (is_raw state.mode) _ _ (leaf terminals.Raw refl)
      (choice (is state.before terminals.OwnerDot && not (spaced_at plains at)) _ _
      (leaf terminals.OwnerDollar refl)
      (choice (is_text state.mode) _ _
      (pick (name_direct plains (at + 1)) terminals.Dollar terminals.Raw refl refl)
      (choice (is_behind_rest state) _ _ (leaf terminals.Other refl)
      (pick (same (sort_at plains (code_from plains (at + 2))) sorts.Colon)
      terminals.DollarNamed terminals.Dollar refl refl))))))
  sort_told sorts.Exclamation e = rw (e, terminal_of)
      (calm_facts (choice (takes_flags state.mode && ends_value state plains at) _ _ (leaf terminals.Ending refl)
      (or_calm state.mode terminals.Bang refl)))
  sort_told sorts.Star e = rw (e, terminal_of)
      (calm_facts (choice (is state.before terminals.As) _ _ (leaf terminals.Star refl)
      (choice (is state.before terminals.Prefix && not (spaced_at plains at)) _ _
      (leaf terminals.PrefixStar refl) (or_calm state.mode terminals.Times refl))))
  sort_told sorts.At e = rw (e, terminal_of)
      (calm_facts (choice state.start _ _ (leaf terminals.AtInsert refl) (or_calm state.mode terminals.Other refl)))
  sort_told sorts.AtElse e = rw (e, terminal_of)
      (calm_facts (at_calm state plains at (else_terminal plains at)
      (pick (same (next_sort plains at) sorts.If) terminals.AtElseIf terminals.AtElse refl refl)))
  sort_told sorts.Hex e = rw (e, terminal_of) (calm_facts (or_calm state.mode terminals.HashName refl))
  sort_told sorts.Template e = rw (e, terminal_of) (calm_facts (or_calm state.mode terminals.Template refl))
  sort_told sorts.Text e = rw (e, terminal_of) (calm_facts (or_calm state.mode terminals.TextPiece refl))
  sort_told sorts.TemplateEnd e = rw (e, terminal_of) (calm_facts (or_calm state.mode terminals.TemplateEnd refl))
  sort_told sorts.Url e = rw (e, terminal_of) (calm_facts (or_calm state.mode terminals.Url refl))
  sort_told sorts.UrlTemplate e = rw (e, terminal_of) (calm_facts (or_calm state.mode terminals.UrlTemplate refl))
  sort_told sorts.Piece e = rw (e, terminal_of) (calm_facts (or_calm state.mode terminals.Piece refl))
  sort_told sorts.UrlEnd e = rw (e, terminal_of) (calm_facts (or_calm state.mode terminals.UrlEnd refl))
  sort_told sorts.Range e = rw (e, terminal_of) (calm_facts (or_calm state.mode terminals.Range refl))
  sort_told sorts.Colon e = rw (e, terminal_of) (calm_facts (or_calm state.mode terminals.Colon refl))
  sort_told sorts.Ellipsis e = rw (e, terminal_of) (calm_facts (or_calm state.mode terminals.Ellipsis refl))
  sort_told sorts.Hash e = rw (e, terminal_of) (calm_facts (or_calm state.mode terminals.Hash refl))
  sort_told sorts.Ampersand e = rw (e, terminal_of) (calm_facts (or_calm state.mode terminals.Ampersand refl))
  sort_told sorts.Percent e = rw (e, terminal_of) (calm_facts (or_calm state.mode terminals.Modulo refl))
  sort_told sorts.Equals e = rw (e, terminal_of) (calm_facts (or_calm state.mode terminals.Equals refl))
  sort_told sorts.EqualsEquals e = rw (e, terminal_of) (calm_facts (or_calm state.mode terminals.Equal refl))
  sort_told sorts.NotEquals e = rw (e, terminal_of) (calm_facts (or_calm state.mode terminals.NotEqual refl))
  sort_told sorts.Less e = rw (e, terminal_of) (calm_facts (or_calm state.mode terminals.Less refl))
  sort_told sorts.LessEquals e = rw (e, terminal_of) (calm_facts (or_calm state.mode terminals.LessEqual refl))
  sort_told sorts.Greater e = rw (e, terminal_of) (calm_facts (or_calm state.mode terminals.Greater refl))
  sort_told sorts.GreaterEquals e = rw (e, terminal_of) (calm_facts (or_calm state.mode terminals.GreaterEqual refl))
  sort_told sorts.Other e = rw (e, terminal_of) (calm_facts (or_calm state.mode terminals.Other refl))
  sort_told sorts.OpenBracket e = rw (e, terminal_of)
      (calm_facts (pick (is_text state.mode) terminals.RawBracket terminals.Bracket refl refl))
  sort_told sorts.AtUse e = rw (e, terminal_of)
      (calm_facts (at_calm state plains at terminals.AtUse (leaf terminals.AtUse refl)))
  sort_told sorts.AtForward e = rw (e, terminal_of)
      (calm_facts (at_calm state plains at terminals.AtForward (leaf terminals.AtForward refl)))
  sort_told sorts.AtFunction e = rw (e, terminal_of)
      (calm_facts (at_calm state plains at terminals.AtFunction (leaf terminals.AtFunction refl)))
  sort_told sorts.AtMixin e = rw (e, terminal_of)
      (calm_facts (at_calm state plains at terminals.AtMixin (leaf terminals.AtMixin refl)))
  sort_told sorts.AtInclude e = rw (e, terminal_of)
      (calm_facts (at_calm state plains at terminals.AtInclude (leaf terminals.AtInclude refl)))
  sort_told sorts.AtContent e = rw (e, terminal_of)
      (calm_facts (at_calm state plains at terminals.AtContent (leaf terminals.AtContent refl)))
  sort_told sorts.AtReturn e = rw (e, terminal_of)
      (calm_facts (at_calm state plains at terminals.AtReturn (leaf terminals.AtReturn refl)))
  sort_told sorts.AtWarn e = rw (e, terminal_of)
      (calm_facts (at_calm state plains at terminals.AtWarn (leaf terminals.AtWarn refl)))
  sort_told sorts.AtDebug e = rw (e, terminal_of)
      (calm_facts (at_calm state plains at terminals.AtDebug (leaf terminals.AtDebug refl)))
  sort_told sorts.AtError e = rw (e, terminal_of)
      (calm_facts (at_calm state plains at terminals.AtError (leaf terminals.AtError refl)))
  sort_told sorts.AtIf e = rw (e, terminal_of)
      (calm_facts (at_calm state plains at terminals.AtIf (leaf terminals.AtIf refl)))
  sort_told sorts.AtElseIf e = rw (e, terminal_of)
      (calm_facts (at_calm state plains at terminals.AtElseIfWhole (leaf terminals.AtElseIfWhole refl)))
  sort_told sorts.AtEach e = rw (e, terminal_of)
      (calm_facts (at_calm state plains at terminals.AtEach (leaf terminals.AtEach refl)))
  sort_told sorts.AtFor e = rw (e, terminal_of)
      (calm_facts (at_calm state plains at terminals.AtFor (leaf terminals.AtFor refl)))
  sort_told sorts.AtWhile e = rw (e, terminal_of)
      (calm_facts (at_calm state plains at terminals.AtWhile (leaf terminals.AtWhile refl)))
  sort_told sorts.AtMedia e = rw (e, terminal_of)
      (calm_facts (at_calm state plains at terminals.AtMedia (leaf terminals.AtMedia refl)))
  sort_told sorts.AtSupports e = rw (e, terminal_of)
      (calm_facts (at_calm state plains at terminals.AtSupports (leaf terminals.AtSupports refl)))
  sort_told sorts.AtRoot e = rw (e, terminal_of)
      (calm_facts (at_calm state plains at terminals.AtRoot (leaf terminals.AtRoot refl)))
  sort_told sorts.AtCharset e = rw (e, terminal_of)
      (calm_facts (at_calm state plains at terminals.AtCharset (leaf terminals.AtCharset refl)))
  sort_told sorts.AtImport e = rw (e, terminal_of)
      (calm_facts (at_calm state plains at terminals.AtImport (leaf terminals.AtImport refl)))
  sort_told sorts.AtExtend e = rw (e, terminal_of)
      (calm_facts (at_calm state plains at terminals.AtExtend (leaf terminals.AtExtend refl)))
  sort_told sorts.AtName e = rw (e, terminal_of)
      (calm_facts (at_calm state plains at terminals.AtOther (leaf terminals.AtOther refl)))
  sort_told sorts.Name e = rw (e, terminal_of) (calm_facts (name_calm state plains at))
  sort_told sorts.DashedName e = rw (e, terminal_of) (calm_facts (name_calm state plains at))
  sort_told sorts.True e = rw (e, terminal_of) (calm_facts (name_calm state plains at))
  sort_told sorts.False e = rw (e, terminal_of) (calm_facts (name_calm state plains at))
  sort_told sorts.Null e = rw (e, terminal_of) (calm_facts (name_calm state plains at))
  sort_told sorts.And e = rw (e, terminal_of) (calm_facts (name_calm state plains at))
  sort_told sorts.Or e = rw (e, terminal_of) (calm_facts (name_calm state plains at))
  sort_told sorts.Not e = rw (e, terminal_of) (calm_facts (name_calm state plains at))
  sort_told sorts.As e = rw (e, terminal_of) (calm_facts (name_calm state plains at))
  sort_told sorts.With e = rw (e, terminal_of) (calm_facts (name_calm state plains at))
  sort_told sorts.Show e = rw (e, terminal_of) (calm_facts (name_calm state plains at))
  sort_told sorts.Hide e = rw (e, terminal_of) (calm_facts (name_calm state plains at))
  sort_told sorts.Using e = rw (e, terminal_of) (calm_facts (name_calm state plains at))
  sort_told sorts.If e = rw (e, terminal_of) (calm_facts (name_calm state plains at))
  sort_told sorts.In e = rw (e, terminal_of) (calm_facts (name_calm state plains at))
  sort_told sorts.From e = rw (e, terminal_of) (calm_facts (name_calm state plains at))
  sort_told sorts.Through e = rw (e, terminal_of) (calm_facts (name_calm state plains at))
  sort_told sorts.To e = rw (e, terminal_of) (calm_facts (name_calm state plains at))
  sort_told sorts.Only e = rw (e, terminal_of) (calm_facts (name_calm state plains at))
  sort_told sorts.Important e = rw (e, terminal_of) (calm_facts (name_calm state plains at))
  sort_told sorts.Default e = rw (e, terminal_of) (calm_facts (name_calm state plains at))
  sort_told sorts.Global e = rw (e, terminal_of) (calm_facts (name_calm state plains at))
  sort_told sorts.Special e = rw (e, terminal_of) (calm_facts (name_calm state plains at))
  sort_told sorts.Stays e = rw (e, terminal_of) (calm_facts (name_calm state plains at))

sign_stands : (plains : List Plain) (at : ℕ) (plain : Plain) (old new : State) → Placed plains at old new
    → SignStands plains new.before (lexeme_of plain at new.commented (terminal_of new plains at))
sign_stands plains at plain old new there =
    let facts = sort_told new plains at (sort_at plains at) refl in
    record { prefix = facts.prefix; number = facts.number }

pub signs_stand : SignsStand
signs_stand bytes tokens = of_text SignStands sign_stands bytes tokens
