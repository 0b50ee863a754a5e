-- The laws of what decides how a name is read.
use Rattle.std.proofs.Common.{◌≡◌, ℕ, ◌+◌, Bool, true, false, not, ◌&&◌, if◌then◌else◌, List, refl, sym, ◌∙◌, ap, subst}
use Rattle.sw_parse_terminals.specs.declared.terminal.Terminal.{Terminal}
use Rattle.sw_parse_terminals.specs.declared.terminal.Terminal.TheVariants as terminals
use Rattle.sw_tokens.specs.declared.token.Token.{Token}
use Rattle.sw_parse_lexemes.specs.declared.sort.Sort.{Sort}
use Rattle.sw_parse_lexemes.specs.declared.sort.Sort.TheVariants as sorts
use Rattle.sw_parse_lexemes.specs.declared.plain.Plain.{Plain}
use Rattle.sw_parse_lexemes.specs.declared.state.Mode.{Mode}
use Rattle.sw_parse_lexemes.specs.declared.state.Mode.TheVariants as modes
use Rattle.sw_parse_lexemes.specs.declared.state.State.{State}
use Rattle.sw_parse_lexemes.specs.Classes.{is_name}
use Rattle.sw_parse_lexemes.specs.Ahead.{sort_at, spaced_at, is_direct}
use Rattle.sw_parse_lexemes.specs.Modes.{statement_mode, plain_mode, declared_mode}
use Rattle.sw_parse_lexemes.specs.Names.{is, is_apart, behind_dollar, is_bang, behind_bang, constant_or_word, is_special_name, name_in_expression, name_terminal}
use Rattle.sw_parse_lexemes.specs.Terminals.{terminal_of}
use Rattle.sw_parse_lexemes.specs.Steps.{begins_statement}
use Rattle.sw_parse_lexemes.specs.Lexemes.{lexeme_of}
use Rattle.sw_parse_lexemes.specs.Laws.{ends_word, is_dashed, declares, behind_word, BeginsStatement, StatementIs, StatementsAreByColon}
use Rattle.sw_parse_lexemes.proofs.Knowing.{Placed, of_text}

-- a name is read as one
named : (state : State) (plains : List Plain) (at : ℕ) (sort : Sort) (terminal : Terminal) → sort_at plains at ≡ sort
    → is_name sort ≡ true → name_terminal state plains at ≡ terminal → terminal_of state plains at ≡ terminal
unfolding terminal_of
named state plains at sorts.Name terminal e n t = rw (e, terminal_of) t
named state plains at sorts.DashedName terminal e n t = rw (e, terminal_of) t
named state plains at sorts.True terminal e n t = rw (e, terminal_of) t
named state plains at sorts.False terminal e n t = rw (e, terminal_of) t
named state plains at sorts.Null terminal e n t = rw (e, terminal_of) t
named state plains at sorts.And terminal e n t = rw (e, terminal_of) t
named state plains at sorts.Or terminal e n t = rw (e, terminal_of) t
named state plains at sorts.Not terminal e n t = rw (e, terminal_of) t
named state plains at sorts.As terminal e n t = rw (e, terminal_of) t
named state plains at sorts.With terminal e n t = rw (e, terminal_of) t
named state plains at sorts.Show terminal e n t = rw (e, terminal_of) t
named state plains at sorts.Hide terminal e n t = rw (e, terminal_of) t
named state plains at sorts.Using terminal e n t = rw (e, terminal_of) t
named state plains at sorts.If terminal e n t = rw (e, terminal_of) t
named state plains at sorts.In terminal e n t = rw (e, terminal_of) t
named state plains at sorts.From terminal e n t = rw (e, terminal_of) t
named state plains at sorts.Through terminal e n t = rw (e, terminal_of) t
named state plains at sorts.To terminal e n t = rw (e, terminal_of) t
named state plains at sorts.Only terminal e n t = rw (e, terminal_of) t
named state plains at sorts.Important terminal e n t = rw (e, terminal_of) t
named state plains at sorts.Default terminal e n t = rw (e, terminal_of) t
named state plains at sorts.Global terminal e n t = rw (e, terminal_of) t
named state plains at sorts.Special terminal e n t = rw (e, terminal_of) t
named state plains at sorts.Stays terminal e n t = rw (e, terminal_of) t
named state plains at _ terminal e n t = absurd (cc)

pub name_there : (state : State) (plains : List Plain) (at : ℕ) → is_name (sort_at plains at) ≡ true
    → terminal_of state plains at ≡ name_terminal state plains at
name_there state plains at n = named state plains at (sort_at plains at) (name_terminal state plains at) refl n refl

-- a statement that begins with a name is read by what stands behind its word
moded : (plains : List Plain) (at : ℕ) (sort : Sort) (mode : Mode) → sort_at plains at ≡ sort
    → is_name sort ≡ true → is_dashed sort ≡ false → plain_mode plains at ≡ mode → statement_mode plains at ≡ mode
unfolding statement_mode
moded plains at sorts.DashedName mode e n d t = absurd (cc)
moded plains at sorts.Name mode e n d t = rw (e, statement_mode) t
moded plains at sorts.True mode e n d t = rw (e, statement_mode) t
moded plains at sorts.False mode e n d t = rw (e, statement_mode) t
moded plains at sorts.Null mode e n d t = rw (e, statement_mode) t
moded plains at sorts.And mode e n d t = rw (e, statement_mode) t
moded plains at sorts.Or mode e n d t = rw (e, statement_mode) t
moded plains at sorts.Not mode e n d t = rw (e, statement_mode) t
moded plains at sorts.As mode e n d t = rw (e, statement_mode) t
moded plains at sorts.With mode e n d t = rw (e, statement_mode) t
moded plains at sorts.Show mode e n d t = rw (e, statement_mode) t
moded plains at sorts.Hide mode e n d t = rw (e, statement_mode) t
moded plains at sorts.Using mode e n d t = rw (e, statement_mode) t
moded plains at sorts.If mode e n d t = rw (e, statement_mode) t
moded plains at sorts.In mode e n d t = rw (e, statement_mode) t
moded plains at sorts.From mode e n d t = rw (e, statement_mode) t
moded plains at sorts.Through mode e n d t = rw (e, statement_mode) t
moded plains at sorts.To mode e n d t = rw (e, statement_mode) t
moded plains at sorts.Only mode e n d t = rw (e, statement_mode) t
moded plains at sorts.Important mode e n d t = rw (e, statement_mode) t
moded plains at sorts.Default mode e n d t = rw (e, statement_mode) t
moded plains at sorts.Global mode e n d t = rw (e, statement_mode) t
moded plains at sorts.Special mode e n d t = rw (e, statement_mode) t
moded plains at sorts.Stays mode e n d t = rw (e, statement_mode) t
moded plains at _ mode e n d t = absurd (cc)

chosen : (a b c : Bool) (x y z : Mode) → a ≡ true → b ≡ false → c ≡ true → (if a && b then x else (if c then y else z)) ≡ y
chosen true false true x y z a b c = refl
chosen true false false x y z a b c = absurd (cc)
chosen true true c x y z a b d = absurd (cc)
chosen false b c x y z a d e = absurd (cc)

-- a terminal is of a kind only where something holds
abbrev pub Only : (Terminal → Bool) → Type 0 → Terminal → Type 0
Only kind Holds terminal = kind terminal ≡ true → Holds

pub either : (kind : Terminal → Bool) (Holds : Type 0) (b : Bool) (x y : Terminal) → (b ≡ true → Only kind Holds x)
    → (b ≡ false → Only kind Holds y) → Only kind Holds (if b then x else y)
either kind Holds true x y p q = p refl
either kind Holds false x y p q = q refl

-- the terminals of names that these laws don't tell of
abbrev pub is_leaf : Terminal → Bool
is_leaf terminals.Owner = false
is_leaf terminals.Special = false
is_leaf terminals.Part = false
is_leaf terminals.Raw = false
is_leaf _ = true

pub neither : (b : Bool) → b ≡ false → b ≡ true → ⊥
neither b f t = absurd (cc)

pub and_left : (a b : Bool) → (a && b) ≡ true → a ≡ true
and_left true b e = refl
and_left false b e = e

pub and_right : (a b : Bool) → (a && b) ≡ true → b ≡ true
and_right true b e = e
and_right false b e = absurd (cc)

pub included : (terminal : Terminal) → is terminal terminals.AtInclude ≡ true → is terminal terminals.OwnerDot ≡ false
included terminals.AtInclude e = refl
included _ e = absurd (cc)

module _ (state : State) (plains : List Plain) (at : ℕ) (kind : Terminal → Bool) (Holds : Type 0)
    (plain : (t : Terminal) → is_leaf t ≡ true → kind t ≡ false)
    (owner : is_direct plains (at + 1) sorts.Dot ≡ true → is state.before terminals.OwnerDot ≡ false
    → Only kind Holds terminals.Owner)
    (special : (is_special_name (sort_at plains at) && is_direct plains (at + 1) sorts.OpenParen) ≡ true
    → is state.before terminals.OwnerDot ≡ false → Only kind Holds terminals.Special) where
  pub leaf : (t : Terminal) → is_leaf t ≡ true → Only kind Holds t
  leaf t l k = absurd (neither (kind t) (plain t l) k)

  pub constant : (sort : Sort) → Only kind Holds (constant_or_word sort)
  constant sorts.True = leaf terminals.True refl
  constant sorts.False = leaf terminals.False refl
  constant sorts.Null = leaf terminals.Null refl
  constant sorts.And = leaf terminals.And refl
  constant sorts.Or = leaf terminals.Or refl
  constant sorts.Not = leaf terminals.Not refl
  constant _ = leaf terminals.Word refl

  flag : (sort : Sort) → Only kind Holds (behind_bang sort)
  flag sorts.Important = leaf terminals.Important refl
  flag sorts.Default = leaf terminals.Default refl
  flag sorts.Global = leaf terminals.Global refl
  flag _ = leaf terminals.Word refl

  pub in_expression : Only kind Holds (name_in_expression state plains at)
  in_expression =
      either kind Holds _ _ _ (λ i. leaf terminals.Word refl)
      (λ i. either kind Holds _ _ _ (λ o. constant (sort_at plains at))
      (λ o. either kind Holds _ _ _ (λ d. owner d o)
      (λ d. either kind Holds _ _ _ (λ s. special s o) (λ s. constant (sort_at plains at)))))

  abbrev pub apart : Terminal → Terminal
  apart further = if is_apart state plains at then terminals.Other else further

  abbrev pub banged : Terminal → Terminal
  banged further = if is_bang state.before then behind_bang (sort_at plains at) else apart further

  abbrev pub hashed : Terminal → Terminal
  hashed further =
      if not (spaced_at plains at) && is state.before terminals.Hash then terminals.HashName else banged further

  abbrev pub dollared : Terminal → Terminal
  dollared further =
      if not (spaced_at plains at) && behind_dollar state.before then terminals.VariableName else hashed further

  pub behind : (further : Terminal) → Only kind Holds further → Only kind Holds (dollared further)
  behind further m =
      either kind Holds (not (spaced_at plains at) && behind_dollar state.before) terminals.VariableName (hashed further)
      (λ v. leaf terminals.VariableName refl)
      (λ v. either kind Holds (not (spaced_at plains at) && is state.before terminals.Hash) terminals.HashName (banged further)
      (λ h. leaf terminals.HashName refl)
      (λ h. either kind Holds (is_bang state.before) (behind_bang (sort_at plains at)) (apart further)
      (λ b. flag (sort_at plains at))
      (λ b. either kind Holds (is_apart state plains at) terminals.Other further
      (λ a. leaf terminals.Other refl) (λ a. m))))

-- a statement that declares
is_not_raw : (t : Terminal) → is_leaf t ≡ true → is t terminals.Raw ≡ false
is_not_raw terminals.Raw e = absurd (cc)
is_not_raw _ e = refl

unless : (b : Bool) → (b ≡ true → ⊥) → b ≡ false
unless true n = absurd (n refl)
unless false n = refl

statement_ends_no_word : (terminal : Terminal) → begins_statement terminal ≡ true → ends_word terminal ≡ false
statement_ends_no_word terminals.Word e = absurd (cc)
statement_ends_no_word terminals.Part e = absurd (cc)
statement_ends_no_word terminals.AtOther e = absurd (cc)
statement_ends_no_word terminals.Custom e = absurd (cc)
statement_ends_no_word terminals.InsertEnd e = absurd (cc)
statement_ends_no_word _ e = refl

module _ (plains : List Plain) (at : ℕ) (old state : State) (there : Placed plains at old state)
    (begins : BeginsStatement plains state.before at) where
  mode_is : state.mode ≡ declared_mode plains (behind_word plains at)
  mode_is =
      there.mode (there.known.start ∙ begins.first)
      ∙ moded plains at (sort_at plains at) (declared_mode plains (behind_word plains at)) refl begins.name begins.undashed
      (chosen _ _ _ _ _ _ begins.name begins.alone begins.word)

  no_word : state.word ≡ false
  no_word = unless state.word (λ w. neither (ends_word state.before) (statement_ends_no_word state.before begins.first)
      (there.known.from_word w))

  abbrev read_in : Mode → Bool → Terminal
  read_in mode word = name_terminal (record state { mode = mode; word = word }) plains at

  read_so : (mode : Mode) → declared_mode plains (behind_word plains at) ≡ mode
      → terminal_of state plains at ≡ read_in mode false
  read_so mode m =
      name_there state plains at begins.name
      ∙ ap (λ (n : Mode). read_in n state.word) (mode_is ∙ m)
      ∙ ap (λ (w : Bool). read_in mode w) no_word

  mode_of : (b : Bool) → declares plains at ≡ b → declared_mode plains (behind_word plains at) ≡ (if b then modes.Expression else modes.Raw)
  mode_of b e = ap (λ (c : Bool). if c then modes.Expression else modes.Raw) e

  as_rule : declares plains at ≡ false → terminal_of state plains at ≡ terminals.Raw
  as_rule e = read_so modes.Raw (mode_of false e)

  abbrev declaring : State
  declaring = record state { mode = modes.Expression; word = false }

  abbrev raw : Terminal → Bool
  raw t = is t terminals.Raw

  no_owner : is_direct plains (at + 1) sorts.Dot ≡ true → is state.before terminals.OwnerDot ≡ false
      → Only raw ⊥ terminals.Owner
  no_owner d b e = absurd (cc)

  no_special : (is_special_name (sort_at plains at) && is_direct plains (at + 1) sorts.OpenParen) ≡ true
      → is state.before terminals.OwnerDot ≡ false → Only raw ⊥ terminals.Special
  no_special d b e = absurd (cc)

  never_raw : Only raw ⊥ (read_in modes.Expression false)
  never_raw =
      behind declaring plains at raw ⊥ is_not_raw no_owner no_special (name_in_expression declaring plains at)
      (in_expression declaring plains at raw ⊥ is_not_raw no_owner no_special)

  as_declaration : declares plains at ≡ true → is (terminal_of state plains at) terminals.Raw ≡ false
  as_declaration e =
      unless (is (terminal_of state plains at) terminals.Raw)
      (subst (Only raw ⊥) (sym (read_so modes.Expression (mode_of true e))) never_raw)

statement_is : (plains : List Plain) (at : ℕ) (plain : Plain) (old new : State) → Placed plains at old new
    → StatementIs plains new.before (lexeme_of plain at new.commented (terminal_of new plains at))
statement_is plains at plain old new there = record {
  declaration = λ b e. as_declaration plains at old new there b e;
  rule = λ b e. as_rule plains at old new there b e;
}

pub statements_are_by_colon : (bytes : List ℕ) (tokens : List Token) → StatementsAreByColon bytes tokens
statements_are_by_colon bytes tokens = of_text StatementIs statement_is bytes tokens
