-- The laws of what decides how a token is read.
use Rattle.std.proofs.Common.{◌≡◌, ◌⊎◌, ℕ, ◌+◌, Bool, true, false, not, ◌&&◌, ◌||◌, if◌then◌else◌, List, inl, inr, refl, ◌∙◌}
use Rattle.sw_parse_terminals.specs.declared.terminal.Terminal.{Terminal}
use Rattle.sw_parse_terminals.specs.declared.terminal.Terminal.TheVariants as terminals
use Rattle.sw_parse_terminals.specs.declared.lexeme.Lexeme.{Lexeme}
use Rattle.sw_tokens.specs.declared.token.Token.{Token}
use Rattle.sw_parse_lexemes.specs.declared.sort.Sort.{Sort}
use Rattle.sw_parse_lexemes.specs.declared.sort.Sort.TheVariants as sorts
use Rattle.sw_parse_lexemes.specs.declared.plain.Plain.{Plain}
use Rattle.sw_parse_lexemes.specs.declared.state.State.{State}
use Rattle.sw_parse_lexemes.specs.Classes.{is_number, same}
use Rattle.sw_parse_lexemes.specs.Ahead.{sort_at, spaced_at, is_direct, number_direct}
use Rattle.sw_parse_lexemes.specs.Names.{is, is_raw, is_apart, continues}
use Rattle.sw_parse_lexemes.specs.Signs.{ends_operand, is_text, minus_signs, sign_in_text, by_operand, or_raw, names_rule, minus_in_text, plus_terminal, minus_terminal}
use Rattle.sw_parse_lexemes.specs.Terminals.{terminal_of}
use Rattle.sw_parse_lexemes.specs.Lexemes.{lexeme_of}
use Rattle.sw_parse_lexemes.specs.Laws.{plus_by, minus_by, slash_by, MinusIs, goes_on, begins, stands, SignIs, SignsAreByNeighbours}
use Rattle.sw_parse_lexemes.proofs.Knowing.{Known, Placed, of_text}

and_left : (a b : Bool) → (a && b) ≡ true → a ≡ true
and_left true b e = refl
and_left false b e = e

and_right_not : (a b : Bool) → (a && not b) ≡ true → b ≡ false
and_right_not true false e = refl
and_right_not true true e = absurd (cc)
and_right_not false b e = absurd (cc)

plus_there : (state : State) (plains : List Plain) (at : ℕ) → sort_at plains at ≡ sorts.Plus
    → terminal_of state plains at ≡ plus_terminal state plains at
unfolding terminal_of
plus_there state plains at e = rw (e, terminal_of) refl

minus_there : (state : State) (plains : List Plain) (at : ℕ) → sort_at plains at ≡ sorts.Minus
    → terminal_of state plains at ≡ minus_terminal state plains at
unfolding terminal_of
minus_there state plains at e = rw (e, terminal_of) refl

slash_there : (state : State) (plains : List Plain) (at : ℕ) → sort_at plains at ≡ sorts.Slash
    → terminal_of state plains at ≡ or_raw state.mode (by_operand state terminals.Divide terminals.PrefixSlash)
unfolding terminal_of
slash_there state plains at e = rw (e, terminal_of) refl

-- raw text, or what stands there by its neighbours
abbrev OrRaw : Terminal → Terminal → Type 0
OrRaw terminal wanted = (terminal ≡ terminals.Raw) ⊎ (terminal ≡ wanted)

plus_cases : (text raw number operand : Bool)
    → OrRaw (if text then (if (number && not operand) && not raw then terminals.Sign else terminals.Raw)
    else (if number && not operand then terminals.Sign
    else (if operand then terminals.Plus else terminals.PrefixPlus))) (plus_by number operand)
plus_cases true true true true = inl refl
plus_cases true true true false = inl refl
plus_cases true true false operand = inl refl
plus_cases true false true true = inl refl
plus_cases true false true false = inr refl
plus_cases true false false operand = inl refl
plus_cases false raw true true = inr refl
plus_cases false raw true false = inr refl
plus_cases false raw false true = inr refl
plus_cases false raw false false = inr refl

slash_cases : (text operand : Bool)
    → OrRaw (if text then terminals.Raw else (if operand then terminals.Divide else terminals.PrefixSlash)) (slash_by operand)
slash_cases true operand = inl refl
slash_cases false true = inr refl
slash_cases false false = inr refl

minus_cases : (number spaced operand : Bool)
    → (if number && (spaced || not operand) then terminals.Sign
    else (if operand then terminals.Minus else terminals.PrefixMinus)) ≡ minus_by number spaced operand
minus_cases true true true = refl
minus_cases true true false = refl
minus_cases true false true = refl
minus_cases true false false = refl
minus_cases false true true = refl
minus_cases false true false = refl
minus_cases false false true = refl
minus_cases false false false = refl

minus_text_cases : (number spaced operand raw : Bool)
    → OrRaw (if (number && (spaced || not operand)) && not raw then terminals.Sign else terminals.Raw)
    (minus_by number spaced operand)
minus_text_cases true true operand true = inl refl
minus_text_cases true true operand false = inr refl
minus_text_cases true false true raw = inl refl
minus_text_cases true false false true = inl refl
minus_text_cases true false false false = inr refl
minus_text_cases false spaced operand raw = inl refl

-- no number stands where a `#{` does
insert_no_number : (spaced : Bool) (sort : Sort) → (not spaced && same sort sorts.OpenInsert) ≡ true
    → (not spaced && is_number sort) ≡ false
insert_no_number true sort e = refl
insert_no_number false sorts.Digits e = absurd (cc)
insert_no_number false sorts.Number e = absurd (cc)
insert_no_number false _ e = refl

no_sign : (number more raw : Bool) → number ≡ false
    → (if (number && more) && not raw then terminals.Sign else terminals.Raw) ≡ terminals.Raw
no_sign false more raw e = refl
no_sign true more raw e = absurd (cc)

module _ (plains : List Plain) (state : State) (lexeme : Lexeme) (known : Known state) where
  abbrev Told : Type 0
  Told = (lexeme.terminal ≡ terminals.Raw) ⊎ MinusIs plains state.before lexeme

  abbrev inserts : Bool
  inserts = is_direct plains (lexeme.token + 1) sorts.OpenInsert

  by_sides : inserts ≡ false → (lexeme.terminal ≡ terminals.Raw)
      ⊎ (lexeme.terminal ≡ minus_by (number_direct plains (lexeme.token + 1)) (spaced_at plains lexeme.token) (ends_operand state.before))
      → Told
  by_sides i (inl e) = inl e
  by_sides i (inr e) = inr (stands i e)

  rule_name : (names insert : Bool) → inserts ≡ insert
      → lexeme.terminal ≡ (if names && insert then terminals.WordMinus
      else sign_in_text state.mode (minus_signs state plains lexeme.token)) → Told
  rule_name true true i e = inr (begins i (inl e))
  rule_name false true i e =
      inl (e ∙ no_sign (number_direct plains (lexeme.token + 1))
      (spaced_at plains lexeme.token || not (ends_operand state.before)) (is_raw state.mode)
      (insert_no_number (spaced_at plains (lexeme.token + 1)) (sort_at plains (lexeme.token + 1)) i))
  rule_name true false i e = by_sides i (elim (minus_text_cases (number_direct plains (lexeme.token + 1)) (spaced_at plains lexeme.token) (ends_operand state.before) (is_raw state.mode)) [
    | inl r ↦ inl (e ∙ r)
    | inr r ↦ inr (e ∙ r)
  ])
  rule_name false false i e = by_sides i (elim (minus_text_cases (number_direct plains (lexeme.token + 1)) (spaced_at plains lexeme.token) (ends_operand state.before) (is_raw state.mode)) [
    | inl r ↦ inl (e ∙ r)
    | inr r ↦ inr (e ∙ r)
  ])

  parted : (apart : Bool) → is_apart state plains lexeme.token ≡ apart → inserts ≡ true
      → lexeme.terminal ≡ (if apart then terminals.Other else terminals.WordMinus) → Told
  parted true a i e =
      inr (begins i (inr (e, and_left (is state.before terminals.OwnerDot) (spaced_at plains lexeme.token) a)))
  parted false a i e = inr (begins i (inl e))

  in_text : (text insert : Bool) → inserts ≡ insert
      → lexeme.terminal ≡ (if text then minus_in_text state plains lexeme.token
      else (if insert then (if is_apart state plains lexeme.token then terminals.Other else terminals.WordMinus)
      else (if minus_signs state plains lexeme.token then terminals.Sign
      else by_operand state terminals.Minus terminals.PrefixMinus))) → Told
  in_text true insert i e = rule_name (names_rule state plains lexeme.token) inserts refl e
  in_text false true i e = parted (is_apart state plains lexeme.token) refl i e
  in_text false false i e =
      inr (stands i (e ∙ minus_cases (number_direct plains (lexeme.token + 1)) (spaced_at plains lexeme.token) (ends_operand state.before)))

  continuing : (further : Bool) → continues state plains lexeme.token ≡ further
      → lexeme.terminal ≡ (if further then terminals.Part
      else (if is_text state.mode then minus_in_text state plains lexeme.token
      else (if inserts
      then (if is_apart state plains lexeme.token then terminals.Other else terminals.WordMinus)
      else (if minus_signs state plains lexeme.token then terminals.Sign
      else by_operand state terminals.Minus terminals.PrefixMinus)))) → Told
  continuing true f e =
      inr (goes_on (and_right_not state.word (spaced_at plains lexeme.token) f)
      (known.from_word (and_left state.word _ f)) e)
  continuing false f e = in_text (is_text state.mode) inserts refl e

  minus_told : lexeme.terminal ≡ minus_terminal state plains lexeme.token → Told
  minus_told e = continuing (continues state plains lexeme.token) refl e

sign_is : (plains : List Plain) (at : ℕ) (plain : Plain) (old new : State) → Placed plains at old new
    → SignIs plains new.before (lexeme_of plain at new.commented (terminal_of new plains at))
sign_is plains at plain old new there = record {
  plus = λ e. rw (plus_there new plains at e) (plus_cases (is_text new.mode) (is_raw new.mode)
      (number_direct plains (at + 1)) (ends_operand new.before));
  minus = λ e. minus_told plains new (lexeme_of plain at new.commented (terminal_of new plains at)) there.known
      (minus_there new plains at e);
  slash = λ e. rw (slash_there new plains at e) (slash_cases (is_text new.mode) (ends_operand new.before));
}

pub signs_are_by_neighbours : (bytes : List ℕ) (tokens : List Token) → SignsAreByNeighbours bytes tokens
signs_are_by_neighbours bytes tokens = of_text SignIs sign_is bytes tokens
