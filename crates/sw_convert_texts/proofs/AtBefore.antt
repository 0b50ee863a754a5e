-- Behind an `@` that begins the name of an at-rule with a `#{`, that, or the `-` before it, stands directly.
use Rattle.std.proofs.Common.{◌≡◌, ℕ, suc, ◌+◌, Bool, true, false, not, ◌&&◌, ◌||◌, if◌then◌else◌, nat_lt, List, [], ◌∷◌, ◌++◌, Some, refl, sym, ◌∙◌, ap, subst}
use Rattle.std.specs.Prelude.{codes}
use Rattle.sw_text_scan.proofs.Bounds.{if_true, if_false, and_left, and_right, not_true}
use Rattle.sw_tokens.specs.declared.token.TokenKind.{TokenKind}
use Rattle.sw_tokens.specs.Ends.{opens}
use Rattle.sw_parse_grammar.specs.Grammar.{member}
use Rattle.sw_parse_terminals.specs.Numbers.{number_of, just}
use Rattle.sw_parse_terminals.specs.declared.lexeme.Lexeme.{Lexeme}
use Rattle.sw_parse_terminals.specs.declared.terminal.Terminal.{Terminal}
use Rattle.sw_parse_terminals.specs.declared.terminal.Terminal.TheVariants as terminals
use Rattle.sw_parse_lexemes.specs.declared.plain.Plain.{Plain}
use Rattle.sw_parse_lexemes.specs.declared.sort.Sort.{Sort}
use Rattle.sw_parse_lexemes.specs.declared.sort.Sort.TheVariants as sorts
use Rattle.sw_parse_lexemes.specs.declared.state.Mode.{Mode}
use Rattle.sw_parse_lexemes.specs.declared.state.Mode.TheVariants as modes
use Rattle.sw_parse_lexemes.specs.declared.state.State.{State}
use Rattle.sw_parse_lexemes.specs.Ahead.{sort_at, spaced_at, is_direct}
use Rattle.sw_parse_lexemes.specs.Lexemes.{Reading, lexeme_of, skipped, kept, read_placed, read, optional, lexemes_from, lexemes_of, beginning}
use Rattle.sw_parse_lexemes.specs.Modes.{statement_mode}
use Rattle.sw_parse_lexemes.specs.Names.{is, is_raw, continues}
use Rattle.sw_parse_lexemes.specs.Signs.{is_text, or_raw, sign_in_text, names_rule, minus_signs, minus_in_text, insert_in}
use Rattle.sw_parse_lexemes.specs.Steps.{further_mode, placed, after, comments_at, is_white, past_white}
use Rattle.sw_parse_lexemes.specs.Terminals.{terminal_of}
use Rattle.sw_parse_table.specs.declared.source.Source.{Source}
use Rattle.sw_parse_table.specs.Sources.{lexeme_at, bytes_at}
use Rattle.sw_convert_again.specs.Tokens.{Old}
use Rattle.sw_convert_tokens.specs.Values.{WasRead}
use Rattle.sw_convert_texts.specs.Adjoining.{Adjoins}
use Rattle.sw_convert_texts.proofs.LexemePairs.{plains_in, comes_at, directly}
use Rattle.sw_convert_texts.proofs.LoneAts.{kind_of_lone, at_text}
use Rattle.sw_convert_texts.proofs.OldPieces.{old_piece, Whole, whole_bytes}
use Rattle.sw_convert_texts.proofs.OldRows.{sticks_by}
use Rattle.sw_convert_texts.proofs.TerminalChoices.{comes, is_lone_at, is_minus, is_opened_insert}
use Rattle.sw_convert_texts.proofs.Terminals.{told}
use Rattle.sw_convert_texts.proofs.TokenPairs.{Next, Pairs, pairs_at}

-- the name of an at-rule is to come
record Naming (state : State) : Type 0 where
  mode : state.mode ≡ modes.Raw
  start : state.start ≡ false
  word : state.word ≡ false

abbrev begins_name : Terminal → Bool
begins_name terminals.WordInsert = true
begins_name terminals.WordMinus = true
begins_name _ = false

insert_sort : (sort : Sort) → is_opened_insert sort ≡ true → sort ≡ sorts.OpenInsert
insert_sort sorts.OpenInsert e = refl
insert_sort _ e = absurd (cc)

minus_sort : (sort : Sort) → is_minus sort ≡ true → sort ≡ sorts.Minus
minus_sort sorts.Minus e = refl
minus_sort _ e = absurd (cc)

lone_sort : (sort : Sort) → is_lone_at sort ≡ true → sort ≡ sorts.At
lone_sort sorts.At e = refl
lone_sort _ e = absurd (cc)

pick_yes : (t : Bool) (x : Terminal) → begins_name x ≡ false → begins_name (if t then terminals.WordInsert else x) ≡ true
    → t ≡ true
pick_yes true x e f = refl
pick_yes false x e f = absurd (let no : false ≡ true = sym e ∙ f in cc)

module _ (plains : List Plain) where
  -- ---- what may begin it

  module _ (state : State) (naming : Naming state) (at : ℕ) where
    stops : continues state plains at ≡ false
    stops = ap (λ (b : Bool). b && not (spaced_at plains at)) naming.word

    insert_is : sort_at plains at ≡ sorts.OpenInsert
        → terminal_of state plains at
        ≡ (if names_rule state plains at then terminals.WordInsert else terminals.Insert)
    unfolding terminal_of
    insert_is e = rw (e, terminal_of)
        (if_false (continues state plains at) terminals.PartInsert (insert_in state plains at) stops
        ∙ ap (λ (m : Mode). insert_in (record state { mode = m }) plains at) naming.mode)

    minus_is : sort_at plains at ≡ sorts.Minus → terminal_of state plains at ≡ minus_in_text state plains at
    unfolding terminal_of
    minus_is e = rw (e, terminal_of)
        (if_false (continues state plains at) terminals.Part _ stops
        ∙ if_true (is_text state.mode) (minus_in_text state plains at) _ (ap is_text naming.mode))

    black : names_rule state plains at ≡ true → spaced_at plains at ≡ false
    black e =
        not_true (spaced_at plains at)
        (and_right (is state.before terminals.AtInsert || is state.before terminals.WordMinus) (not (spaced_at plains at)) e)

    signs_no : (signs : Bool) → begins_name (if signs then terminals.Sign else terminals.Raw) ≡ false
    signs_no true = refl
    signs_no false = refl

    minus_yes : (t : Bool) → begins_name (if t then terminals.WordMinus else sign_in_text state.mode (minus_signs state plains at)) ≡ true
        → t ≡ true
    minus_yes true f = refl
    minus_yes false f =
        absurd (let no : false ≡ true = sym (signs_no (minus_signs state plains at && not (is_raw state.mode))) ∙ f in cc)

    abbrev fit : Terminal → Bool
    fit t =
        comes t (sort_at plains at) (continues state plains at) (is_direct plains (at + 1) sorts.OpenInsert)
        (not (spaced_at plains at))

    named_direct : begins_name (terminal_of state plains at) ≡ true → spaced_at plains at ≡ false
    named_direct begins = go (terminal_of state plains at) refl begins
      where
        go : (t : Terminal) → terminal_of state plains at ≡ t → begins_name t ≡ true → spaced_at plains at ≡ false
        go terminals.WordInsert e b =
            let sort = insert_sort (sort_at plains at) (ap fit (sym e) ∙ told state plains at) in
            black (pick_yes (names_rule state plains at) terminals.Insert refl (ap begins_name (sym (insert_is sort)) ∙ begins))
        go terminals.WordMinus e b =
            let sort = minus_sort (sort_at plains at)
            (and_right (is_direct plains (at + 1) sorts.OpenInsert) _ (ap fit (sym e) ∙ told state plains at)) in
            black
            (and_left (names_rule state plains at) (is_direct plains (at + 1) sorts.OpenInsert)
            (minus_yes (names_rule state plains at && is_direct plains (at + 1) sorts.OpenInsert)
            (ap begins_name (sym (minus_is sort)) ∙ begins)))
        go _ e b = absurd (cc)

  -- ---- what is seen first

  -- no white space stands before what begins the name
  abbrev First : List Lexeme → Type 0
  First [] = Unit {0}
  First (lexeme ∷ lexemes) = begins_name lexeme.terminal ≡ true → spaced_at plains lexeme.token ≡ false

  data Outcome (state : State) (at : ℕ) (plain : Plain) : Reading → Type 0 where
    skips : Outcome state at plain (skipped state plain)
    keeps : Outcome state at plain (kept state at plain (terminal_of state plains at))

  placed_is : (state : State) (at : ℕ) → state.start ≡ false → placed state plains at ≡ state
  unfolding placed
  placed_is state at e =
      if_false state.start (record state { mode = statement_mode plains at; comments = comments_at state.comments plains at }) state e

  outcome : (state : State) (at : ℕ) (plain : Plain) → state.start ≡ false
      → Outcome state at plain (read state plains at plain)
  unfolding read
  outcome state at plain start = ignoring (nat_lt 0 state.ignored)
    where
      seeing : (b : Bool)
          → Outcome state at plain (if b then skipped state plain else kept state at plain (terminal_of state plains at))
      seeing true = skips
      seeing false = keeps

      ignoring : (b : Bool)
          → Outcome state at plain (if b then skipped state plain else read_placed (placed state plains at) plains at plain)
      ignoring true = skips
      ignoring false =
          subst (λ (s : State). Outcome state at plain (read_placed s plains at plain)) (sym (placed_is state at start))
          (seeing (is_white state plains at))

  past : (state : State) (sort : Sort) → Naming state → Naming (past_white state sort)
  unfolding past_white
  past state sort it = record { mode = it.mode; start = it.start; word = it.word }

  first_of : (others : List Plain) (state : State) (at : ℕ) → Naming state → First (lexemes_from plains state at others)
  first_of [] state at naming = tt
  first_of (plain ∷ others) state at naming =
      go (read state plains at plain) (outcome state at plain naming.start)
      (λ later more. first_of others later (at + 1) more)
    where
      go : (reading : Reading) → Outcome state at plain reading
          → ((later : State) → Naming later → First (lexemes_from plains later (at + 1) others))
          → First (optional reading.lexeme ++ lexemes_from plains reading.state (at + 1) others)
      go _ skips again = again (past_white state plain.sort) (past state plain.sort naming)
      go _ keeps again = named_direct state naming at

  -- ---- behind an `@`

  lone_is : (new : State) (at : ℕ) → sort_at plains at ≡ sorts.At
      → terminal_of new plains at ≡ (if new.start then terminals.AtInsert else or_raw new.mode terminals.Other)
  unfolding terminal_of
  lone_is new at e = rw (e, terminal_of) refl

  raw_mode : (at : ℕ) → sort_at plains at ≡ sorts.At → statement_mode plains at ≡ modes.Raw
  unfolding statement_mode
  raw_mode at e = rw (e, statement_mode) refl

  other_no : (t : Bool) → (if t then terminals.Raw else terminals.Other) ≡ terminals.AtInsert → ⊥
  other_no true f = cc
  other_no false f = cc

  start_by : (start text : Bool)
      → (if start then terminals.AtInsert else (if text then terminals.Raw else terminals.Other)) ≡ terminals.AtInsert
      → start ≡ true
  start_by true text f = refl
  start_by false text f = absurd (other_no text f)

  placed_start : (state : State) (at : ℕ) → (placed state plains at).start ≡ state.start
  unfolding placed
  placed_start state at = go state.start
    where
      go : (t : Bool)
          → (if t then record state { mode = statement_mode plains at; comments = comments_at state.comments plains at } else state).start
          ≡ state.start
      go true = refl
      go false = refl

  placed_mode : (state : State) (at : ℕ) → state.start ≡ true → (placed state plains at).mode ≡ statement_mode plains at
  unfolding placed
  placed_mode state at e =
      ap (λ (s : State). s.mode)
      (if_true state.start (record state { mode = statement_mode plains at; comments = comments_at state.comments plains at }) state e)

  -- it begins a statement, which is read as text
  begun : (state : State) (at : ℕ) → terminal_of (placed state plains at) plains at ≡ terminals.AtInsert
      → (placed state plains at).mode ≡ modes.Raw
  begun state at e =
      let new = placed state plains at in
      let sort = lone_sort (sort_at plains at)
      (ap
      (λ (t : Terminal). comes t (sort_at plains at) (continues new plains at) (is_direct plains (at + 1) sorts.OpenInsert) (not (spaced_at plains at)))
      (sym e) ∙ told new plains at) in
      let start = start_by new.start (is_text new.mode) (sym (lone_is new at sort) ∙ e) in
      placed_mode state at (sym (placed_start state at) ∙ start) ∙ raw_mode at sort

  naming_behind : (new : State) → new.mode ≡ modes.Raw → Naming (after new terminals.AtInsert)
  unfolding after
  naming_behind new e =
      record { mode = ap (λ (m : Mode). further_mode m terminals.AtInsert) e; start = refl; word = refl }

  -- no white space stands between an `@` and what begins its name
  abbrev pub Behind : Lexeme → Lexeme → Type 0
  Behind lexeme next =
      lexeme.terminal ≡ terminals.AtInsert → begins_name next.terminal ≡ true → spaced_at plains next.token ≡ false

  data Any (state : State) (at : ℕ) (plain : Plain) : Reading → Type 0 where
    skipping : (new : State) → Any state at plain (skipped new plain)
    keeping : Any state at plain (kept (placed state plains at) at plain (terminal_of (placed state plains at) plains at))

  any : (state : State) (at : ℕ) (plain : Plain) → Any state at plain (read state plains at plain)
  unfolding read
  any state at plain = ignoring (nat_lt 0 state.ignored)
    where
      seeing : (b : Bool)
          → Any state at plain
          (if b then skipped (placed state plains at) plain else kept (placed state plains at) at plain (terminal_of (placed state plains at) plains at))
      seeing true = skipping (placed state plains at)
      seeing false = keeping

      ignoring : (b : Bool)
          → Any state at plain (if b then skipped state plain else read_placed (placed state plains at) plains at plain)
      ignoring true = skipping state
      ignoring false = seeing (is_white (placed state plains at) plains at)

  next_of : (lexeme : Lexeme) (lexemes : List Lexeme) → (lexeme.terminal ≡ terminals.AtInsert → First lexemes)
      → Next Behind lexeme lexemes
  next_of lexeme [] f = tt
  next_of lexeme (next ∷ lexemes) f = f

  pub all_behind : (others : List Plain) (state : State) (at : ℕ) → Pairs Behind (lexemes_from plains state at others)
  all_behind [] state at = tt
  all_behind (plain ∷ others) state at =
      go (read state plains at plain) (any state at plain) (λ later. all_behind others later (at + 1))
    where
      go : (reading : Reading) → Any state at plain reading
          → ((later : State) → Pairs Behind (lexemes_from plains later (at + 1) others))
          → Pairs Behind (optional reading.lexeme ++ lexemes_from plains reading.state (at + 1) others)
      go _ (skipping new) again = again (past_white new plain.sort)
      go _ keeping again =
          let new = placed state plains at in
          let terminal = terminal_of new plains at in (
            next_of (lexeme_of plain at new.commented terminal) (lexemes_from plains (after new terminal) (at + 1) others)
                (λ e. first_of others (after new terminal) (at + 1)
                (subst (λ (t : Terminal). Naming (after new t)) (sym e) (naming_behind new (begun state at e)))),
            again (after new terminal),
          )

-- ---- of a sheet that was read

only_at : (terminal : Terminal) → member (number_of terminal) (just terminals.AtInsert) ≡ true
    → terminal ≡ terminals.AtInsert
only_at terminals.AtInsert m = refl
only_at _ m = absurd (cc)

insert_begins : (terminal : Terminal) → member (number_of terminal) (just terminals.WordInsert) ≡ true
    → begins_name terminal ≡ true
insert_begins terminals.WordInsert m = refl
insert_begins _ m = absurd (cc)

minus_begins : (terminal : Terminal) → member (number_of terminal) (just terminals.WordMinus) ≡ true
    → begins_name terminal ≡ true
minus_begins terminals.WordMinus m = refl
minus_begins _ m = absurd (cc)

pub record AtThere (source : Source) (i : ℕ) : Type 0 where
  pub at : bytes_at source i ≡ codes "@"
  pub sticks : Adjoins source i

module _ (source : Source) (was : WasRead source) where
  at_pairs : Pairs (Behind (plains_in source)) source.lexemes.now
  unfolding lexemes_of
  at_pairs =
      subst (Pairs (Behind (plains_in source))) (sym was.lexemes)
      (all_behind (plains_in source) (plains_in source) beginning 0)

  at_before : (i : ℕ) (old : Old source i (just terminals.AtInsert)) (next : Lexeme) → lexeme_at source (suc i) ≡ Some next
      → begins_name next.terminal ≡ true → AtThere source i
  at_before i old next there begins =
      let is = only_at old.lexeme.terminal old.kind in
      let it = comes_at source was i old.lexeme old.there in
      let lone : is_lone_at (sort_at (plains_in source) old.lexeme.token) ≡ true =
      ap (λ (t : Terminal). comes t (sort_at (plains_in source) old.lexeme.token) it.goes (is_direct (plains_in source) (old.lexeme.token + 1) sorts.OpenInsert) it.touches)
      (sym is) ∙ it.fit in
      let piece = old_piece source was i old.lexeme old.there in
      let kind = kind_of_lone piece.kind piece.text (ap is_lone_at (sym piece.sort) ∙ lone) in
      let whole = piece.own (ap opens kind) in
      let direct = pairs_at (Behind (plains_in source)) source.lexemes.now i old.lexeme next at_pairs old.there there is begins in record {
        at = whole_bytes source i old.lexeme piece.kind piece.text old.there whole
            ∙ at_text source old.lexeme piece.text (subst (λ (k : TokenKind). Whole source old.lexeme k piece.text) kind whole);
        sticks = sticks_by source was i old.lexeme next old.there there
            (directly source was i old.lexeme next old.there there direct);
      }

  pub at_inserts : (i : ℕ) → Old source i (just terminals.AtInsert) → Old source (suc i) (just terminals.WordInsert)
      → AtThere source i
  at_inserts i old next = at_before i old next.lexeme next.there (insert_begins next.lexeme.terminal next.kind)

  pub at_minuses : (i : ℕ) → Old source i (just terminals.AtInsert) → Old source (suc i) (just terminals.WordMinus)
      → AtThere source i
  at_minuses i old next = at_before i old next.lexeme next.there (minus_begins next.lexeme.terminal next.kind)
