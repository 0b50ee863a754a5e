-- The laws of what decides how a word is read, and a `.` and a `(` beside it.
use Rattle.std.proofs.Common.{◌≡◌, ◌⊎◌, ℕ, ◌+◌, Bool, true, false, not, ◌&&◌, ◌||◌, if◌then◌else◌, List, inl, inr, refl, sym, ◌∙◌, ap, subst}
use Rattle.sw_parse_terminals.specs.declared.terminal.Terminal.{Terminal}
use Rattle.sw_parse_terminals.specs.declared.terminal.Terminal.TheVariants as terminals
use Rattle.sw_tokens.specs.declared.token.Token.{Token}
use Rattle.sw_parse_lexemes.specs.declared.sort.Sort.{Sort}
use Rattle.sw_parse_lexemes.specs.declared.sort.Sort.TheVariants as sorts
use Rattle.sw_parse_lexemes.specs.declared.plain.Plain.{Plain}
use Rattle.sw_parse_lexemes.specs.declared.state.Mode.{Mode}
use Rattle.sw_parse_lexemes.specs.declared.state.Mode.TheVariants as modes
use Rattle.sw_parse_lexemes.specs.declared.state.State.{State}
use Rattle.sw_parse_lexemes.specs.Classes.{is_name, same}
use Rattle.sw_parse_lexemes.specs.Ahead.{sort_at, spaced_at, is_direct, name_direct, code_from, next_sort, begins_word}
use Rattle.sw_parse_lexemes.specs.Names.{is, is_raw, continues, behind_dollar, constant_or_word, is_special_name, name_in_expression, stays_text, owns, name_in_special, word_in_load, before_member, name_in_use, name_in_forward, using_or_named, name_in_include, not_in_media, only_in_media, is_only, keyword_in_media, name_in_media, name_in_each, name_in_for, is_bound_end, name_in_bounds, name_in, behind_sign, name_terminal}
use Rattle.sw_parse_lexemes.specs.Signs.{is_text, or_raw, dot_terminal}
use Rattle.sw_parse_lexemes.specs.Brackets.{plain_paren, include_paren, paren_in, paren_terminal}
use Rattle.sw_parse_lexemes.specs.Terminals.{terminal_of}
use Rattle.sw_parse_lexemes.specs.Steps.{in_word}
use Rattle.sw_parse_lexemes.specs.Lexemes.{lexeme_of}
use Rattle.sw_parse_lexemes.specs.Laws.{ends_word, opens_bracket, WordIs, WordsAreByNeighbours}
use Rattle.sw_parse_lexemes.proofs.Knowing.{Known, Placed, of_text}
use Rattle.sw_parse_lexemes.proofs.NameLaws.{name_there, Only, either, is_leaf, neither, and_left, and_right, included, leaf, constant, in_expression, behind}

-- every name
module _ (state : State) (plains : List Plain) (at : ℕ) (kind : Terminal → Bool) (Holds : Type 0)
    (plain : (t : Terminal) → is_leaf t ≡ true → kind t ≡ false)
    (owner : is_direct plains (at + 1) sorts.Dot ≡ true → is state.before terminals.OwnerDot ≡ false
    → Only kind Holds terminals.Owner)
    (special : (is_special_name (sort_at plains at) && is_direct plains (at + 1) sorts.OpenParen) ≡ true
    → is state.before terminals.OwnerDot ≡ false → Only kind Holds terminals.Special)
    (part : continues state plains at ≡ true → Only kind Holds terminals.Part)
    (raw : Only kind Holds terminals.Raw) where
  a : (t : Terminal) → is_leaf t ≡ true → Only kind Holds t
  a t l = leaf state plains at kind Holds plain owner special t l

  word : (sort : Sort) → Only kind Holds (constant_or_word sort)
  word sort = constant state plains at kind Holds plain owner special sort

  expression : Only kind Holds (name_in_expression state plains at)
  expression = in_expression state plains at kind Holds plain owner special

  texted : Only kind Holds (if is_direct plains (at + 1) sorts.OpenParen && not (stays_text (sort_at plains at))
      then terminals.Word else terminals.Raw)
  texted =
      either kind Holds (is_direct plains (at + 1) sorts.OpenParen && not (stays_text (sort_at plains at)))
      terminals.Word terminals.Raw (λ p. a terminals.Word refl) (λ p. raw)

  in_special : Only kind Holds (name_in_special state plains at)
  in_special =
      either kind Holds (is state.before terminals.OwnerDot) terminals.Word
      (if owns plains at then terminals.Owner
      else (if is_direct plains (at + 1) sorts.OpenParen && not (stays_text (sort_at plains at)) then terminals.Word
      else terminals.Raw))
      (λ o. a terminals.Word refl)
      (λ o. either kind Holds (owns plains at) terminals.Owner
      (if is_direct plains (at + 1) sorts.OpenParen && not (stays_text (sort_at plains at)) then terminals.Word
      else terminals.Raw)
      (λ d. owner (and_left (is_direct plains (at + 1) sorts.Dot)
      ((is_direct plains (at + 2) sorts.Dollar && name_direct plains (at + 3))
      || (name_direct plains (at + 2) && is_direct plains (at + 3) sorts.OpenParen)) d) o)
      (λ d. texted))

  in_load : (sort : Sort) → Only kind Holds (word_in_load sort)
  in_load sorts.As = a terminals.As refl
  in_load sorts.With = a terminals.With refl
  in_load sorts.Show = a terminals.Show refl
  in_load sorts.Hide = a terminals.Hide refl
  in_load _ = a terminals.Named refl

  in_use : (sort : Sort) → Only kind Holds (name_in_use state sort)
  in_use sort =
      either kind Holds (is state.before terminals.As) terminals.Named (word_in_load sort) (λ n. a terminals.Named refl) (λ n. in_load sort)

  in_forward : (sort : Sort) → Only kind Holds (name_in_forward state sort)
  in_forward sort =
      either kind Holds (is state.before terminals.As) terminals.Prefix
      (if before_member state.before then terminals.Named else word_in_load sort)
      (λ p. a terminals.Prefix refl)
      (λ p. either kind Holds (before_member state.before) terminals.Named (word_in_load sort)
      (λ m. a terminals.Named refl) (λ m. in_load sort))

  in_using : (sort : Sort) → Only kind Holds (using_or_named sort)
  in_using sorts.Using = a terminals.Using refl
  in_using _ = a terminals.Named refl

  in_include : Only kind Holds (name_in_include state plains at)
  in_include =
      either kind Holds (is state.before terminals.AtInclude)
      (if is_direct plains (at + 1) sorts.Dot then terminals.Owner else terminals.Named)
      (if is state.before terminals.OwnerDot then terminals.Named else using_or_named (sort_at plains at))
      (λ i. either kind Holds (is_direct plains (at + 1) sorts.Dot) terminals.Owner terminals.Named
      (λ d. owner d (included state.before i)) (λ d. a terminals.Named refl))
      (λ i. either kind Holds (is state.before terminals.OwnerDot) terminals.Named (using_or_named (sort_at plains at))
      (λ o. a terminals.Named refl) (λ o. in_using (sort_at plains at)))

  in_not : Only kind Holds (not_in_media state plains at)
  in_not =
      either kind Holds (is state.before terminals.And
      || (is state.before terminals.ConditionParen || same (next_sort plains at) sorts.OpenParen))
      terminals.Not terminals.NotType (λ m. a terminals.Not refl) (λ m. a terminals.NotType refl)

  in_only : Only kind Holds (only_in_media plains at)
  in_only =
      either kind Holds (begins_word plains (code_from plains (at + 1))) terminals.Only terminals.Word
      (λ b. a terminals.Only refl) (λ b. a terminals.Word refl)

  in_keyword : Only kind Holds (keyword_in_media state plains at)
  in_keyword =
      either kind Holds (same (sort_at plains at) sorts.Not) (not_in_media state plains at)
      (if is_only (sort_at plains at) then only_in_media plains at else constant_or_word (sort_at plains at))
      (λ n. in_not)
      (λ n. either kind Holds (is_only (sort_at plains at)) (only_in_media plains at) (constant_or_word (sort_at plains at))
      (λ o. in_only) (λ o. word (sort_at plains at)))

  in_media : Only kind Holds (name_in_media state plains at)
  in_media =
      either kind Holds (is_direct plains (at + 1) sorts.OpenInsert) terminals.Word (keyword_in_media state plains at)
      (λ i. a terminals.Word refl) (λ i. in_keyword)

  in_each : (sort : Sort) → Only kind Holds (name_in_each state sort)
  in_each sort = either kind Holds _ _ _ (λ i. a terminals.In refl) (λ i. a terminals.Named refl)

  in_for : (sort : Sort) → Only kind Holds (name_in_for state sort)
  in_for sort = either kind Holds _ _ _ (λ f. a terminals.From refl) (λ f. a terminals.Named refl)

  in_bounds : (sort : Sort)
      → Only kind Holds (elim sort as (λ _. Terminal) [
        | sorts.Through ↦ if is_bound_end plains at then terminals.Through else name_in_expression state plains at
        | sorts.To ↦ if is_bound_end plains at then terminals.To else name_in_expression state plains at
        | _ ↦ name_in_expression state plains at
      ])
  in_bounds sorts.Through = either kind Holds _ _ _ (λ b. a terminals.Through refl) (λ b. expression)
  in_bounds sorts.To = either kind Holds _ _ _ (λ b. a terminals.To refl) (λ b. expression)
  in_bounds _ = expression

  in_mode : (mode : Mode)
      → Only kind Holds (elim mode as (λ _. Terminal) [
        | modes.Special ↦ name_in_special state plains at
        | modes.CustomName ↦ terminals.Custom
        | modes.Use ↦ name_in_use state (sort_at plains at)
        | modes.Forward ↦ name_in_forward state (sort_at plains at)
        | modes.Head ↦ terminals.Named
        | modes.Include ↦ name_in_include state plains at
        | modes.Each ↦ name_in_each state (sort_at plains at)
        | modes.For ↦ name_in_for state (sort_at plains at)
        | modes.Bounds ↦ name_in_bounds state plains at
        | modes.BoundEnds ↦ name_in_bounds state plains at
        | modes.Else ↦ terminals.If
        | modes.Media ↦ name_in_media state plains at
        | _ ↦ name_in_expression state plains at
      ])
  in_mode modes.Special = in_special
  in_mode modes.CustomName = a terminals.Custom refl
  in_mode modes.Use = in_use (sort_at plains at)
  in_mode modes.Forward = in_forward (sort_at plains at)
  in_mode modes.Head = a terminals.Named refl
  in_mode modes.Include = in_include
  in_mode modes.Each = in_each (sort_at plains at)
  in_mode modes.For = in_for (sort_at plains at)
  in_mode modes.Bounds = in_bounds (sort_at plains at)
  in_mode modes.BoundEnds = in_bounds (sort_at plains at)
  in_mode modes.Else = a terminals.If refl
  in_mode modes.Media = in_media
  in_mode _ = expression

  every : Only kind Holds (name_terminal state plains at)
  every =
      either kind Holds (continues state plains at) terminals.Part
      (if is_raw state.mode then terminals.Raw else behind_sign state plains at) part
      (λ c. either kind Holds (is_raw state.mode) terminals.Raw (behind_sign state plains at) (λ r. raw)
      (λ r. behind state plains at kind Holds plain owner special (name_in state plains at) (in_mode state.mode)))

is_no_owner : (t : Terminal) → is_leaf t ≡ true → is t terminals.Owner ≡ false
is_no_owner terminals.Owner e = absurd (cc)
is_no_owner _ e = refl

is_no_special : (t : Terminal) → is_leaf t ≡ true → is t terminals.Special ≡ false
is_no_special terminals.Special e = absurd (cc)
is_no_special _ e = refl

is_no_part : (t : Terminal) → is_leaf t ≡ true → is t terminals.Part ≡ false
is_no_part terminals.Part e = absurd (cc)
is_no_part _ e = refl

and_not : (a b : Bool) → (a && not b) ≡ true → b ≡ false
and_not true false e = refl
and_not true true e = absurd (cc)
and_not false b e = absurd (cc)

on_word : (word spaced raw : Bool) (x : Terminal) → word ≡ true → spaced ≡ false
    → (if word && not spaced then terminals.Part else (if raw then terminals.Raw else x)) ≡ terminals.Part
on_word true false raw x w s = refl
on_word true true raw x w s = absurd (cc)
on_word false spaced raw x w s = absurd (cc)

on_sign : (further raw spaced signed : Bool) (here x : Terminal) → spaced ≡ false → signed ≡ true
    → (further ≡ true → ⊥)
    → ((if further then terminals.Part else (if raw then terminals.Raw
    else (if not spaced && signed then here else x))) ≡ terminals.Raw)
    ⊎ ((if further then terminals.Part else (if raw then terminals.Raw
    else (if not spaced && signed then here else x))) ≡ here)
on_sign true raw spaced signed here x s g f = absurd (f refl)
on_sign false true spaced signed here x s g f = inl refl
on_sign false false false true here x s g f = inr refl
on_sign false false true signed here x s g f = absurd (cc)
on_sign false false false false here x s g f = absurd (cc)

dollar_ends_no_word : (terminal : Terminal) → behind_dollar terminal ≡ true → ends_word terminal ≡ false
dollar_ends_no_word terminals.Dollar e = refl
dollar_ends_no_word terminals.DollarNamed e = refl
dollar_ends_no_word terminals.OwnerDollar e = refl
dollar_ends_no_word _ e = absurd (cc)

hash_ends_no_word : (terminal : Terminal) → is terminal terminals.Hash ≡ true → ends_word terminal ≡ false
hash_ends_no_word terminals.Hash e = refl
hash_ends_no_word _ e = absurd (cc)

hash_no_dollar : (terminal : Terminal) → is terminal terminals.Hash ≡ true → behind_dollar terminal ≡ false
hash_no_dollar terminals.Hash e = refl
hash_no_dollar _ e = absurd (cc)

on_hash : (further raw spaced dollar hash : Bool) (x : Terminal) → spaced ≡ false → dollar ≡ false → hash ≡ true
    → (further ≡ true → ⊥)
    → ((if further then terminals.Part else (if raw then terminals.Raw
    else (if not spaced && dollar then terminals.VariableName
    else (if not spaced && hash then terminals.HashName else x)))) ≡ terminals.Raw)
    ⊎ ((if further then terminals.Part else (if raw then terminals.Raw
    else (if not spaced && dollar then terminals.VariableName
    else (if not spaced && hash then terminals.HashName else x)))) ≡ terminals.HashName)
on_hash true raw spaced dollar hash x s d h f = absurd (f refl)
on_hash false true spaced dollar hash x s d h f = inl refl
on_hash false false true dollar hash x s d h f = absurd (cc)
on_hash false false false true hash x s d h f = absurd (cc)
on_hash false false false false true x s d h f = inr refl
on_hash false false false false false x s d h f = absurd (cc)

abbrev Sum : Terminal → Terminal → Type 0
Sum wanted t = (t ≡ terminals.Raw) ⊎ (t ≡ wanted)

module _ (plains : List Plain) (at : ℕ) (state : State) (known : Known state)
    (n : is_name (sort_at plains at) ≡ true) where
  further_part : terminal_of state plains at ≡ terminals.Part → continues state plains at ≡ true
  further_part e =
      every state plains at (λ t. is t terminals.Part) (continues state plains at ≡ true) is_no_part
      (λ d b k. absurd (cc)) (λ s b k. absurd (cc)) (λ c k. c) (λ k. absurd (cc))
      (ap (λ (t : Terminal). is t terminals.Part) (sym (name_there state plains at n) ∙ e))

  owner_dot : terminal_of state plains at ≡ terminals.Owner
      → (is_direct plains (at + 1) sorts.Dot ≡ true) × (is state.before terminals.OwnerDot ≡ false)
  owner_dot e =
      every state plains at (λ t. is t terminals.Owner)
      ((is_direct plains (at + 1) sorts.Dot ≡ true) × (is state.before terminals.OwnerDot ≡ false)) is_no_owner
      (λ d b k. (d, b)) (λ s b k. absurd (cc)) (λ c k. absurd (cc)) (λ k. absurd (cc))
      (ap (λ (t : Terminal). is t terminals.Owner) (sym (name_there state plains at n) ∙ e))

  special_call : terminal_of state plains at ≡ terminals.Special
      → (is_direct plains (at + 1) sorts.OpenParen ≡ true)
      × (is_special_name (sort_at plains at) ≡ true) × (is state.before terminals.OwnerDot ≡ false)
  special_call e =
      every state plains at (λ t. is t terminals.Special)
      ((is_direct plains (at + 1) sorts.OpenParen ≡ true)
      × (is_special_name (sort_at plains at) ≡ true) × (is state.before terminals.OwnerDot ≡ false)) is_no_special
      (λ d b k. absurd (cc))
      (λ s b k. (and_right (is_special_name (sort_at plains at)) _ s, and_left (is_special_name (sort_at plains at)) _ s, b))
      (λ c k. absurd (cc)) (λ k. absurd (cc))
      (ap (λ (t : Terminal). is t terminals.Special) (sym (name_there state plains at n) ∙ e))

  goes_on_with : spaced_at plains at ≡ false → in_word state.before ≡ true → terminal_of state plains at ≡ terminals.Part
  goes_on_with s w =
      name_there state plains at n
      ∙ on_word state.word (spaced_at plains at) (is_raw state.mode) (behind_sign state plains at) (known.in_word w) s

  no_further : ends_word state.before ≡ false → continues state plains at ≡ true → ⊥
  no_further e c = neither (ends_word state.before) e (known.from_word (and_left state.word _ c))

  behind_a_dollar : spaced_at plains at ≡ false → behind_dollar state.before ≡ true
      → Sum terminals.VariableName (terminal_of state plains at)
  behind_a_dollar s d =
      subst (Sum terminals.VariableName) (sym (name_there state plains at n))
      (on_sign (continues state plains at) (is_raw state.mode) (spaced_at plains at) (behind_dollar state.before)
      terminals.VariableName _ s d (no_further (dollar_ends_no_word state.before d)))

  behind_a_hash : spaced_at plains at ≡ false → is state.before terminals.Hash ≡ true
      → Sum terminals.HashName (terminal_of state plains at)
  behind_a_hash s h =
      subst (Sum terminals.HashName) (sym (name_there state plains at n))
      (on_hash (continues state plains at) (is_raw state.mode) (spaced_at plains at) (behind_dollar state.before)
      (is state.before terminals.Hash) _ s (hash_no_dollar state.before h) h
      (no_further (hash_ends_no_word state.before h)))

dot_there : (state : State) (plains : List Plain) (at : ℕ) → sort_at plains at ≡ sorts.Dot
    → terminal_of state plains at ≡ dot_terminal state plains at
unfolding terminal_of
dot_there state plains at e = rw (e, terminal_of) refl

own : (b : Bool) (x y : Terminal) → b ≡ true → (if b then x else y) ≡ x
own true x y e = refl
own false x y e = absurd (cc)

lone : (b text : Bool) → b ≡ false
    → Sum terminals.Other (if b then terminals.OwnerDot else (if text then terminals.Raw else terminals.Other))
lone false true e = inl refl
lone false false e = inr refl
lone true text e = absurd (cc)

paren_there : (state : State) (plains : List Plain) (at : ℕ) → sort_at plains at ≡ sorts.OpenParen
    → terminal_of state plains at ≡ paren_terminal state plains at
unfolding terminal_of
paren_there state plains at e = rw (e, terminal_of) refl

shut : (b : Bool) (x y : Terminal) → opens_bracket x ≡ false → opens_bracket y ≡ false
    → opens_bracket (if b then x else y) ≡ false
shut true x y p q = p
shut false x y p q = q

calls : (b : Bool) (x : Terminal) → b ≡ true → opens_bracket (if b then terminals.CallParen else x) ≡ false
calls true x e = refl
calls false x e = absurd (cc)

module _ (plains : List Plain) (at : ℕ) (state : State) (further : continues state plains at ≡ true) where
  included_paren : opens_bracket (include_paren state plains at) ≡ false
  included_paren =
      shut (is state.before terminals.Named && not (spaced_at plains at)) terminals.CallParen
      (if is state.before terminals.Using then terminals.HeadParen else terminals.Other) refl
      (shut (is state.before terminals.Using) terminals.HeadParen terminals.Other refl refl)

  paren_by : (mode : Mode)
      → opens_bracket (elim mode as (λ _. Terminal) [
        | modes.Raw ↦ terminals.RawParen
        | modes.Custom ↦ terminals.RawParen
        | modes.Special ↦ if continues state plains at then terminals.CallParen else terminals.RawParen
        | modes.Use ↦ terminals.HeadParen
        | modes.Forward ↦ terminals.HeadParen
        | modes.Head ↦ terminals.HeadParen
        | modes.Include ↦ include_paren state plains at
        | modes.Content ↦ terminals.CallParen
        | _ ↦ if continues state plains at then terminals.CallParen else plain_paren plains at
      ]) ≡ false
  paren_by modes.Raw = refl
  paren_by modes.Custom = refl
  paren_by modes.Special = calls (continues state plains at) terminals.RawParen further
  paren_by modes.Use = refl
  paren_by modes.Forward = refl
  paren_by modes.Head = refl
  paren_by modes.Include = included_paren
  paren_by modes.Content = refl
  paren_by _ = calls (continues state plains at) (plain_paren plains at) further

  call_paren : opens_bracket (paren_terminal state plains at) ≡ false
  call_paren =
      shut (is state.before terminals.Special) terminals.RawParen (paren_in state plains at) refl (paren_by state.mode)

further_word : (word spaced : Bool) → word ≡ true → spaced ≡ false → (word && not spaced) ≡ true
further_word true false w s = refl
further_word true true w s = absurd (cc)
further_word false spaced w s = absurd (cc)

word_is : (plains : List Plain) (at : ℕ) (plain : Plain) (old new : State) → Placed plains at old new
    → WordIs plains new.before (lexeme_of plain at new.commented (terminal_of new plains at))
word_is plains at plain old new there = record {
  name = λ n. record {
    goes_on = λ s w. goes_on_with plains at new there.known n s w;
    part = λ e. let f : continues new plains at ≡ true = further_part plains at new there.known n e in
        (and_not new.word (spaced_at plains at) f, there.known.from_word (and_left new.word _ f));
    variable = λ s d. behind_a_dollar plains at new there.known n s d;
    hashed = λ s h. behind_a_hash plains at new there.known n s h;
    owner = λ e. owner_dot plains at new there.known n e;
    special = λ e. special_call plains at new there.known n e;
  };
  dot = λ e b. dot_there new plains at e ∙ own (is new.before terminals.Owner && not (spaced_at plains at)) terminals.OwnerDot (or_raw new.mode terminals.Other) b;
  lone_dot = λ e b. subst (Sum terminals.Other) (sym (dot_there new plains at e)) (lone (is new.before terminals.Owner && not (spaced_at plains at)) (is_text new.mode) b);
  text = λ e b. paren_there new plains at e ∙ own (is new.before terminals.Special) terminals.RawParen (paren_in new plains at) b;
  call = λ e s w. ap opens_bracket (paren_there new plains at e)
      ∙ call_paren plains at new (further_word new.word (spaced_at plains at) (there.known.in_word w) s);
}

pub words_are_by_neighbours : (bytes : List ℕ) (tokens : List Token) → WordsAreByNeighbours bytes tokens
words_are_by_neighbours bytes tokens = of_text WordIs word_is bytes tokens
