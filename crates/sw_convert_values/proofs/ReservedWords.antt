-- Where a name that is a constant or an operator is read as a word, in any text.
use Rattle.std.proofs.Common.{◌≡◌, ◌⊎◌, ℕ, ◌+◌, Bool, true, false, not, ◌&&◌, ◌||◌, if◌then◌else◌, List, [], ◌∷◌, ◌++◌, length, None, nat_lt, inl, inr, refl, sym, ◌∙◌, ap, subst, append_assoc, arith, length-append}
use Rattle.std.specs.Prelude.{slice_get}
use Rattle.std.proofs.lemmas.Option.{slice_get_past}
use Rattle.sw_parse_terminals.specs.declared.terminal.Terminal.{Terminal}
use Rattle.sw_parse_terminals.specs.declared.terminal.Terminal.TheVariants as terminals
use Rattle.sw_parse_terminals.specs.declared.lexeme.Lexeme.{Lexeme}
use Rattle.sw_tokens.specs.declared.token.Token.{Token}
use Rattle.sw_parse_lexemes.specs.declared.sort.Sort.{Sort}
use Rattle.sw_parse_lexemes.specs.declared.sort.Sort.TheVariants as sorts
use Rattle.sw_parse_lexemes.specs.declared.plain.Plain.{Plain}
use Rattle.sw_parse_lexemes.specs.declared.state.Mode.{Mode}
use Rattle.sw_parse_lexemes.specs.declared.state.Mode.TheVariants as modes
use Rattle.sw_parse_lexemes.specs.declared.state.State.{State}
use Rattle.sw_parse_lexemes.specs.Classes.{is_name, is_reserved, is_comment, same}
use Rattle.sw_parse_lexemes.specs.Ahead.{spaced_in, sort_at, spaced_at, is_direct, next_sort}
use Rattle.sw_parse_lexemes.specs.Plains.{plains_of}
use Rattle.sw_text_scan.proofs.Bounds.{if_true, if_false}
use Rattle.sw_parse_lexemes.specs.Names.{is, is_raw, is_bang, is_apart, continues, behind_dollar, behind_bang, constant_or_word, is_special_name, name_in_expression, stays_text, owns, name_in_special, word_in_load, before_member, name_in_use, name_in_forward, using_or_named, name_in_include, is_only, name_in_media, name_in_each, name_in_for, is_in, is_from, is_bound_end, name_in_bounds, name_terminal}
use Rattle.sw_parse_lexemes.specs.Terminals.{terminal_of}
use Rattle.sw_parse_lexemes.specs.Steps.{placed, is_white, after}
use Rattle.sw_parse_lexemes.specs.Lexemes.{Reading, lexeme_of, skipped, kept, read_placed, read, optional, lexemes_from, lexemes_of, beginning}
use Rattle.sw_parse_lexemes.specs.Laws.{OfText}
use Rattle.sw_parse_lexemes.proofs.Knowing.{Placed, of_text}
use Rattle.sw_parse_lexemes.proofs.NameLaws.{name_there}
use Rattle.sw_parse_table.specs.Sources.{bytes}
use Rattle.sw_convert_spelling.proofs.Choices.{left_no, both}
use Rattle.sw_convert_values.specs.Values.{leads, is_part_insert}

abbrev pub is_word : Terminal → Bool
is_word terminals.Word = true
is_word _ = false

owner_leads : (terminal : Terminal) → is terminal terminals.OwnerDot ≡ true → leads terminal ≡ true
owner_leads terminals.OwnerDot e = refl
owner_leads _ e = absurd (cc)

bang_leads : (terminal : Terminal) → is_bang terminal ≡ true → leads terminal ≡ true
bang_leads terminals.Bang e = refl
bang_leads terminals.Ending e = refl
bang_leads _ e = absurd (cc)

reserved_name : (sort : Sort) → is_reserved sort ≡ true → is_name sort ≡ true
reserved_name sorts.True e = refl
reserved_name sorts.False e = refl
reserved_name sorts.Null e = refl
reserved_name sorts.And e = refl
reserved_name sorts.Or e = refl
reserved_name sorts.Not e = refl
reserved_name _ e = absurd (cc)

reserved_stays : (sort : Sort) → is_reserved sort ≡ true → stays_text sort ≡ true
reserved_stays sorts.True e = refl
reserved_stays sorts.False e = refl
reserved_stays sorts.Null e = refl
reserved_stays sorts.And e = refl
reserved_stays sorts.Or e = refl
reserved_stays sorts.Not e = refl
reserved_stays _ e = absurd (cc)

no_only : (sort : Sort) → is_only sort ≡ true → is_reserved sort ≡ true → ⊥
no_only sorts.Only o e = let wrong : false ≡ true = e in cc
no_only _ o e = let wrong : false ≡ true = o in cc

-- one of these stands before it, or a `#{` directly behind it
abbrev pub Reason : List Plain → Terminal → ℕ → Type 0
Reason plains before at = (leads before ≡ true) ⊎ (is_direct plains (at + 1) sorts.OpenInsert ≡ true)

module _ (state : State) (plains : List Plain) (at : ℕ) (reserved : is_reserved (sort_at plains at) ≡ true) where
  -- if it is a word, this is why
  record Why (terminal : Terminal) : Type 0 where
    why : is_word terminal ≡ true → Reason plains state.before at

  none : (terminal : Terminal) → is_word terminal ≡ false → Why terminal
  none terminal f = record { why = λ e. absurd (let wrong : true ≡ false = sym e ∙ f in cc) }

  one : (terminal : Terminal) → Reason plains state.before at → Why terminal
  one terminal r = record { why = λ e. r }

  choice : (b : Bool) (x y : Terminal) → (b ≡ true → Why x) → (b ≡ false → Why y) → Why (if b then x else y)
  choice true x y p q = p refl
  choice false x y p q = q refl

  constant : (sort : Sort) → is_reserved sort ≡ true → Why (constant_or_word sort)
  constant sorts.True r = none terminals.True refl
  constant sorts.False r = none terminals.False refl
  constant sorts.Null r = none terminals.Null refl
  constant sorts.And r = none terminals.And refl
  constant sorts.Or r = none terminals.Or refl
  constant sorts.Not r = none terminals.Not refl
  constant _ r = absurd (cc)

  expression : Why (name_in_expression state plains at)
  expression =
      choice (is_direct plains (at + 1) sorts.OpenInsert) _ _ (λ i. one _ (inr i))
      (λ i. choice (is state.before terminals.OwnerDot) _ _ (λ o. one _ (inl (owner_leads state.before o)))
      (λ o. choice (is_direct plains (at + 1) sorts.Dot) _ _ (λ d. none terminals.Owner refl)
      (λ d. choice (is_special_name (sort_at plains at) && is_direct plains (at + 1) sorts.OpenParen) _ _
      (λ s. none terminals.Special refl) (λ s. constant (sort_at plains at) reserved))))

  special : Why (name_in_special state plains at)
  special =
      choice (is state.before terminals.OwnerDot) _ _ (λ o. one _ (inl (owner_leads state.before o)))
      (λ o. choice (owns plains at) _ _ (λ d. none terminals.Owner refl)
      (λ d. choice (is_direct plains (at + 1) sorts.OpenParen && not (stays_text (sort_at plains at))) _ _
      (λ p. absurd (stays (is_direct plains (at + 1) sorts.OpenParen) (stays_text (sort_at plains at)) p
      (reserved_stays (sort_at plains at) reserved))) (λ p. none terminals.Raw refl)))
    where
      stays : (a b : Bool) → (a && not b) ≡ true → b ≡ true → ⊥
      stays true true p e = let wrong : false ≡ true = p in cc
      stays true false p e = let wrong : false ≡ true = e in cc
      stays false b p e = let wrong : false ≡ true = p in cc

  load : (sort : Sort) → Why (word_in_load sort)
  load sorts.As = none terminals.As refl
  load sorts.With = none terminals.With refl
  load sorts.Show = none terminals.Show refl
  load sorts.Hide = none terminals.Hide refl
  load _ = none terminals.Named refl

  using : (sort : Sort) → Why (using_or_named sort)
  using sorts.Using = none terminals.Using refl
  using _ = none terminals.Named refl

  include : Why (name_in_include state plains at)
  include =
      choice (is state.before terminals.AtInclude) _ _
      (λ i. choice (is_direct plains (at + 1) sorts.Dot) terminals.Owner terminals.Named (λ d. none terminals.Owner refl)
      (λ d. none terminals.Named refl))
      (λ i. choice (is state.before terminals.OwnerDot) terminals.Named _ (λ o. none terminals.Named refl)
      (λ o. using (sort_at plains at)))

  media : Why (name_in_media state plains at)
  media =
      choice (is_direct plains (at + 1) sorts.OpenInsert) _ _ (λ i. one _ (inr i))
      (λ i. choice (same (sort_at plains at) sorts.Not) _ _
      (λ n. choice (is state.before terminals.And
      || (is state.before terminals.ConditionParen || same (next_sort plains at) sorts.OpenParen)) terminals.Not
      terminals.NotType (λ m. none terminals.Not refl) (λ m. none terminals.NotType refl))
      (λ n. choice (is_only (sort_at plains at)) _ _ (λ o. absurd (no_only (sort_at plains at) o reserved))
      (λ o. constant (sort_at plains at) reserved)))

  bounds : (sort : Sort)
      → Why (elim sort as (λ _. Terminal) [
        | sorts.Through ↦ if is_bound_end plains at then terminals.Through else name_in_expression state plains at
        | sorts.To ↦ if is_bound_end plains at then terminals.To else name_in_expression state plains at
        | _ ↦ name_in_expression state plains at
      ])
  bounds sorts.Through =
      choice (is_bound_end plains at) terminals.Through _ (λ b. none terminals.Through refl) (λ b. expression)
  bounds sorts.To = choice (is_bound_end plains at) terminals.To _ (λ b. none terminals.To refl) (λ b. expression)
  bounds _ = expression

  in_mode : (mode : Mode)
      → Why (elim mode as (λ _. Terminal) [
        | modes.Special ↦ name_in_special state plains at
        | modes.CustomName ↦ terminals.Custom
        | modes.Use ↦ name_in_use state (sort_at plains at)
        | modes.Forward ↦ name_in_forward state (sort_at plains at)
        | modes.Head ↦ terminals.Named
        | modes.Include ↦ name_in_include state plains at
        | modes.Each ↦ name_in_each state (sort_at plains at)
        | modes.For ↦ name_in_for state (sort_at plains at)
        | modes.Bounds ↦ name_in_bounds state plains at
        | modes.BoundEnds ↦ name_in_bounds state plains at
        | modes.Else ↦ terminals.If
        | modes.Media ↦ name_in_media state plains at
        | _ ↦ name_in_expression state plains at
      ])
  in_mode modes.Special = special
  in_mode modes.CustomName = none terminals.Custom refl
  in_mode modes.Use =
      choice (is state.before terminals.As) terminals.Named _ (λ n. none terminals.Named refl) (λ n. load (sort_at plains at))
  in_mode modes.Forward =
      choice (is state.before terminals.As) terminals.Prefix _ (λ p. none terminals.Prefix refl)
      (λ p. choice (before_member state.before) terminals.Named _ (λ m. none terminals.Named refl)
      (λ m. load (sort_at plains at)))
  in_mode modes.Head = none terminals.Named refl
  in_mode modes.Include = include
  in_mode modes.Each =
      choice (is state.before terminals.VariableName && is_in (sort_at plains at)) terminals.In terminals.Named
      (λ i. none terminals.In refl) (λ i. none terminals.Named refl)
  in_mode modes.For =
      choice (is state.before terminals.VariableName && is_from (sort_at plains at)) terminals.From terminals.Named
      (λ f. none terminals.From refl) (λ f. none terminals.Named refl)
  in_mode modes.Bounds = bounds (sort_at plains at)
  in_mode modes.BoundEnds = bounds (sort_at plains at)
  in_mode modes.Else = none terminals.If refl
  in_mode modes.Media = media
  in_mode _ = expression

  flag : (sort : Sort) → is_bang state.before ≡ true → Why (behind_bang sort)
  flag sort b = one _ (inl (bang_leads state.before b))

  named : Why (name_terminal state plains at)
  named =
      choice (continues state plains at) _ _ (λ c. none terminals.Part refl)
      (λ c. choice (is_raw state.mode) _ _ (λ r. none terminals.Raw refl)
      (λ r. choice (not (spaced_at plains at) && behind_dollar state.before) _ _ (λ v. none terminals.VariableName refl)
      (λ v. choice (not (spaced_at plains at) && is state.before terminals.Hash) _ _ (λ h. none terminals.HashName refl)
      (λ h. choice (is_bang state.before) _ _ (flag (sort_at plains at))
      (λ b. choice (is_apart state plains at) _ _ (λ a. none terminals.Other refl) (λ a. in_mode state.mode))))))

-- each word of a text
pub record WordIs (plains : List Plain) (before : Terminal) (lexeme : Lexeme) : Type 0 where
  pub reserved : is_word lexeme.terminal ≡ true → is_reserved (sort_at plains lexeme.token) ≡ true
      → Reason plains before lexeme.token

word_is : (plains : List Plain) (at : ℕ) (plain : Plain) (old new : State) → Placed plains at old new
    → WordIs plains new.before (lexeme_of plain at new.commented (terminal_of new plains at))
word_is plains at plain old new there = record {
  reserved = λ w r. (named new plains at r).why
      (ap is_word (sym (name_there new plains at (reserved_name (sort_at plains at) r))) ∙ w);
}

pub reserved_words : (bytes : List ℕ) (tokens : List Token) → OfText WordIs bytes tokens
reserved_words bytes tokens = of_text WordIs word_is bytes tokens

-- ---- what goes on with a word

abbrev pub begins_part : List Lexeme → Bool
begins_part [] = false
begins_part (lexeme ∷ lexemes) = is_part_insert lexeme.terminal

module _ (plains : List Plain) where
  -- a `#{` directly behind a word belongs to it
  abbrev GoesOn : Lexeme → List Lexeme → Type 0
  GoesOn lexeme rest =
      is_word lexeme.terminal ≡ true → is_direct plains (lexeme.token + 1) sorts.OpenInsert ≡ true → begins_part rest ≡ true

  abbrev pub AllGoOn : List Lexeme → Type 0
  AllGoOn [] = Unit {0}
  AllGoOn (lexeme ∷ lexemes) = GoesOn lexeme lexemes × AllGoOn lexemes

  insert_sort : (sort : Sort) → same sort sorts.OpenInsert ≡ true → sort ≡ sorts.OpenInsert
  insert_sort sorts.OpenInsert e = refl
  insert_sort _ e = absurd (cc)

  -- how far the tokens are read
  record Reached (done others : List Plain) (at : ℕ) : Type 0 where
    all : plains ≡ done ++ others
    here : length done ≡ at

  onward : (done : List Plain) (plain : Plain) (others : List Plain) (at : ℕ) → Reached done (plain ∷ others) at
      → Reached (done ++ plain ∷ []) others (at + 1)
  onward done plain others at r = record {
    all = r.all ∙ sym (append_assoc done (plain ∷ []) others);
    here = length-append done (plain ∷ []) ∙ ap (λ (n : ℕ). n + 1) r.here;
  }

  black : (a b : Bool) → (not a && b) ≡ true → a ≡ false
  black true b e = sym e
  black false b e = refl

  right : (a b : Bool) → (a && b) ≡ true → b ≡ true
  right true b e = e
  right false b e = absurd (cc)

  -- nothing stands behind the last
  past : (done : List Plain) (at : ℕ) → Reached done [] at → is_direct plains at sorts.OpenInsert ≡ true → ⊥
  unfolding spaced_at
  past done at r d =
      let none : slice_get plains at ≡ None =
      let l = length-append done [] in
      let all = ap length r.all in
      let here = r.here in
      slice_get_past plains at (omega (arith, l, all, here)) in
      let wrong : true ≡ false = sym (ap spaced_in none) ∙ black (spaced_at plains at) _ d in cc

  module _ (state : State) (at : ℕ) (plain : Plain) (w : state.word ≡ true) (s : state.start ≡ false)
      (i : state.ignored ≡ 0) (d : is_direct plains at sorts.OpenInsert ≡ true) where
    sort : sort_at plains at ≡ sorts.OpenInsert
    sort = insert_sort (sort_at plains at) (right (not (spaced_at plains at)) _ d)

    terminal : terminal_of state plains at ≡ terminals.PartInsert
    unfolding terminal_of
    terminal =
        rw (sort, terminal_of)
        (if_true (continues state plains at) _ _
        (both state.word (not (spaced_at plains at)) w (ap not (black (spaced_at plains at) _ d))))

    is_read : read state plains at plain ≡ kept state at plain (terminal_of state plains at)
    unfolding read placed
    is_read =
        if_false (nat_lt 0 state.ignored) _ _ (ap (nat_lt 0) i)
        ∙ ap (λ (t : State). read_placed t plains at plain) (if_false state.start _ _ s)
        ∙ if_false (is_white state plains at) _ _ (left_no (is_comment (sort_at plains at)) _ (ap is_comment sort))

    insert_read : (more : State → List Lexeme)
        → begins_part (optional (read state plains at plain).lexeme ++ more (read state plains at plain).state) ≡ true
    insert_read more =
        ap (λ (r : Reading). begins_part (optional r.lexeme ++ more r.state)) is_read ∙ ap is_part_insert terminal

  word_only : (terminal : Terminal) → is_word terminal ≡ true → terminal ≡ terminals.Word
  word_only terminals.Word e = refl
  word_only _ e = absurd (cc)

  word_behind : (state : State) (terminal : Terminal) → is_word terminal ≡ true
      → ((after state terminal).word ≡ true) × ((after state terminal).start ≡ false)
      × ((after state terminal).ignored ≡ 0)
  unfolding after
  word_behind state terminal w =
      subst (λ (t : Terminal). ((after state t).word ≡ true) × ((after state t).start ≡ false) × ((after state t).ignored ≡ 0))
      (sym (word_only terminal w)) (refl, refl, refl)

  begins : (others done : List Plain) (state : State) (at : ℕ) (one : Terminal) → Reached done others at
      → is_word one ≡ true → is_direct plains at sorts.OpenInsert ≡ true
      → begins_part (lexemes_from plains (after state one) at others) ≡ true
  begins [] done state at one r w d = absurd (past done at r d)
  begins (plain ∷ others) done state at one r w d =
      let it = word_behind state one w in
      insert_read (after state one) at plain it.0 it.1 it.2 d (λ later. lexemes_from plains later (at + 1) others)

  all_go_on : (others done : List Plain) (state : State) (at : ℕ) → Reached done others at
      → AllGoOn (lexemes_from plains state at others)
  unfolding read
  all_go_on [] done state at r = tt
  all_go_on (plain ∷ others) done state at r =
      ignoring (nat_lt 0 state.ignored)
      (λ later. all_go_on others (done ++ plain ∷ []) later (at + 1) (onward done plain others at r))
    where
      keeping : (new : State) (b : Bool) → ((later : State) → AllGoOn (lexemes_from plains later (at + 1) others))
          → AllGoOn
          (optional (if b then skipped new plain else kept new at plain (terminal_of new plains at)).lexeme
          ++ lexemes_from plains (if b then skipped new plain else kept new at plain (terminal_of new plains at)).state (at + 1) others)
      keeping new true again = again (skipped new plain).state
      keeping new false again = (
        λ w d. begins others (done ++ plain ∷ []) new (at + 1) (terminal_of new plains at) (onward done plain others at r) w d,
        again (after new (terminal_of new plains at)),
      )

      ignoring : (b : Bool) → ((later : State) → AllGoOn (lexemes_from plains later (at + 1) others))
          → AllGoOn
          (optional (if b then skipped state plain else read_placed (placed state plains at) plains at plain).lexeme
          ++ lexemes_from plains (if b then skipped state plain else read_placed (placed state plains at) plains at plain).state
          (at + 1) others)
      ignoring true again = again (skipped state plain).state
      ignoring false again = keeping (placed state plains at) (is_white (placed state plains at) plains at) again

pub words_go_on : (bytes : List ℕ) (tokens : List Token) → AllGoOn (plains_of bytes tokens) (lexemes_of bytes tokens)
unfolding lexemes_of
words_go_on bytes tokens =
    all_go_on (plains_of bytes tokens) (plains_of bytes tokens) [] beginning 0 (record { all = refl; here = refl })
