-- What the grammar sees, one behind the other in a sheet that was read: what stands directly behind one, and what the
-- terminal of each tells of it.
use Rattle.std.proofs.Common.{◌≡◌, ◌⊎◌, ◌≤◌, ◌<◌, ℕ, suc, ◌+◌, Bool, true, false, not, ◌||◌, if◌then◌else◌, nat_lt, List, [], ◌∷◌, ◌++◌, length, Option, Some, None, inl, inr, refl, sym, ◌∙◌, ap, subst, arith, append_assoc, length-append}
use Rattle.std.specs.Prelude.{slice_get, slice_range, unwrap_or}
use Rattle.std.specs.List.{list_all}
use Rattle.sw_text_scan.specs.Bytes.{is_white as is_white_byte}
use Rattle.std.proofs.lemmas.Bool.Decides.{nat_tests}
use Rattle.std.proofs.lemmas.Option.{slice_get-get_or}
use Rattle.std.proofs.Math.Seq.{get_or-append_seam}
use Rattle.sw_text_scan.proofs.Bounds.{and_left, and_right}
use Rattle.sw_parse_terminals.specs.declared.terminal.Terminal.{Terminal}
use Rattle.sw_parse_terminals.specs.declared.terminal.Terminal.TheVariants as terminals
use Rattle.sw_parse_terminals.specs.declared.lexeme.Lexeme.{Lexeme}
use Rattle.sw_parse_lexemes.specs.declared.plain.Plain.{Plain}
use Rattle.sw_parse_lexemes.specs.declared.sort.Sort.{Sort}
use Rattle.sw_parse_lexemes.specs.declared.sort.Sort.TheVariants as sorts
use Rattle.sw_parse_lexemes.specs.declared.state.Bracket.{Bracket}
use Rattle.sw_parse_lexemes.specs.declared.state.State.{State}
use Rattle.sw_parse_lexemes.specs.Classes.{is_comment}
use Rattle.sw_parse_lexemes.specs.Ahead.{sort_in, sort_at, spaced_in, spaced_at, is_direct}
use Rattle.sw_parse_lexemes.specs.Names.{is, continues}
use Rattle.sw_parse_lexemes.specs.Plains.{plains_of}
use Rattle.sw_parse_lexemes.specs.Terminals.{terminal_of}
use Rattle.sw_parse_lexemes.specs.Modes.{statement_mode}
use Rattle.sw_parse_lexemes.specs.Steps.{opened_by, closes, inserted, popped, stepped, further_mode, in_word, after, after_opening, comments_at, ignored_after, placed, is_white, past_white}
use Rattle.sw_parse_lexemes.specs.Lexemes.{Reading, lexeme_of, skipped, kept as kept_lexeme, read_placed, read, optional, lexemes_from, lexemes_of, beginning}
use Rattle.sw_parse_table.specs.declared.source.Source.{Source}
use Rattle.sw_parse_table.specs.Sources.{bytes, lexeme_at}
use Rattle.sw_convert_tokens.specs.Values.{WasRead}
use Rattle.sw_convert_tokens.proofs.Olds.{Every, every_at}
use Rattle.sw_convert_texts.proofs.TerminalChoices.{comes}
use Rattle.sw_convert_texts.proofs.Terminals.{told}
use Rattle.sw_convert_texts.proofs.TokenGaps.{PlainGap, all_gaps}
use Rattle.sw_convert_texts.proofs.TokenPairs.{Next, Pairs, pairs_at, ends_comment, PlainBehind, all_behind}

-- ---- states

-- nothing is ignored, and no comment stands before what follows
record Calm (state : State) : Type 0 where
  ignored : state.ignored ≡ 0
  commented : state.commented ≡ false

calm_more : (state : State) (terminal : Terminal) (opens : Option Bracket) → Calm (after_opening state terminal opens)
calm_more state terminal (Some _) = record { ignored = refl; commented = refl }
calm_more state terminal None = go (is terminal terminals.InsertEnd) (closes terminal)
  where
    go : (a b : Bool)
        → Calm (if a then popped (inserted state) terminal
        else (if b then popped state terminal
        else stepped state (further_mode state.mode terminal) (in_word terminal) terminal))
    go true b = record { ignored = refl; commented = refl }
    go false true = record { ignored = refl; commented = refl }
    go false false = record { ignored = refl; commented = refl }

calm_after : (state : State) (terminal : Terminal) → Calm (after state terminal)
unfolding after
calm_after state terminal = calm_more state terminal (opened_by terminal)

-- the same is ignored where a statement is placed
record Same (old new : State) : Type 0 where
  ignored : new.ignored ≡ old.ignored
  commented : new.commented ≡ old.commented

placed_same : (state : State) (plains : List Plain) (at : ℕ) → Same state (placed state plains at)
unfolding placed
placed_same state plains at = go state.start
  where
    go : (t : Bool)
        → Same state (if t then record state { mode = statement_mode plains at; comments = comments_at state.comments plains at } else state)
    go true = record { ignored = refl; commented = refl }
    go false = record { ignored = refl; commented = refl }

-- ---- what comes of a token

data Outcome (plains : List Plain) (state : State) (at : ℕ) (plain : Plain) : Reading → Type 0 where
  skips : (new : State) → new.ignored ≡ state.ignored → (0 < state.ignored) ⊎ (is_comment (sort_at plains at) ≡ true)
      → Outcome plains state at plain (skipped new plain)
  keeps : (new : State) → new.commented ≡ state.commented → state.ignored ≡ 0
      → Outcome plains state at plain (kept_lexeme new at plain (terminal_of new plains at))

outcome : (plains : List Plain) (state : State) (at : ℕ) (plain : Plain)
    → Outcome plains state at plain (read state plains at plain)
unfolding read
outcome plains state at plain = ignoring (nat_lt 0 state.ignored) refl
  where
    new : State
    new = placed state plains at

    same : Same state new
    same = placed_same state plains at

    commenting : state.ignored ≡ 0 → (b : Bool) → is_white new plains at ≡ b
        → Outcome plains state at plain
        (if b then skipped new plain else kept_lexeme new at plain (terminal_of new plains at))
    commenting none true w = skips new same.ignored (inr (and_left (is_comment (sort_at plains at)) _ w))
    commenting none false w = keeps new same.commented none

    ignoring : (b : Bool) → nat_lt 0 state.ignored ≡ b
        → Outcome plains state at plain
        (if b then skipped state plain else read_placed new plains at plain)
    ignoring true i = skips state refl (inl (let some : 0 < state.ignored = grind (arith, nat_tests) in some))
    ignoring false i =
        commenting (let none : state.ignored ≡ 0 = grind (arith, nat_tests) in none) (is_white new plains at) refl

-- ---- one behind the other

module _ (plains : List Plain) (pairs : Pairs PlainBehind plains) where
  -- whether a comment stands before it is told by the text between it and the one before
  abbrev Silent : Lexeme → Type 0
  Silent lexeme = (plain : Plain) → slice_get plains lexeme.token ≡ Some plain → lexeme.commented ≡ plain.silent

  -- the first that is seen from a place on stands there, or a comment does and white space before the first
  abbrev pub From : ℕ → Lexeme → Type 0
  From at lexeme =
      ((spaced_at plains lexeme.token ≡ true) × (is_comment (sort_at plains at) ≡ true) × (lexeme.commented ≡ true))
      ⊎ ((lexeme.token ≡ at) × Silent lexeme)

  abbrev First : ℕ → List Lexeme → Type 0
  First at [] = Unit {0}
  First at (lexeme ∷ lexemes) = From at lexeme

  abbrev pub LexemeBehind : Lexeme → Lexeme → Type 0
  LexemeBehind lexeme next = From (lexeme.token + 1) next

  abbrev Spaced : List Lexeme → Type 0
  Spaced [] = Unit {0}
  Spaced (lexeme ∷ lexemes) = (spaced_at plains lexeme.token ≡ true) × (lexeme.commented ≡ true)

  there_is : (done : List Plain) (plain : Plain) (others : List Plain) → plains ≡ done ++ plain ∷ others
      → slice_get plains (length done) ≡ Some plain
  there_is done plain others e =
      ap (λ (t : List Plain). slice_get t (length done)) e
      ∙ slice_get-get_or (done ++ plain ∷ others) (length done) plain (let l = length-append done (plain ∷ others) in omega (arith, l))
      ∙ ap Some (get_or-append_seam done plain others plain)

  -- how far the tokens are read
  record Reached (done others : List Plain) (at : ℕ) : Type 0 where
    all : plains ≡ done ++ others
    here : length done ≡ at

  onward : (done : List Plain) (plain : Plain) (others : List Plain) (at : ℕ) → Reached done (plain ∷ others) at
      → Reached (done ++ plain ∷ []) others (at + 1)
  onward done plain others at r = record {
    all = r.all ∙ sym (append_assoc done (plain ∷ []) others);
    here = length-append done (plain ∷ []) ∙ ap (λ (n : ℕ). n + 1) r.here;
  }

  got_at : (done : List Plain) (plain : Plain) (others : List Plain) (at : ℕ) → Reached done (plain ∷ others) at
      → slice_get plains at ≡ Some plain
  got_at done plain others at r = ap (slice_get plains) (sym r.here) ∙ there_is done plain others r.all

  -- white space stands behind a comment
  spaced_next : (at : ℕ) (plain : Plain) → slice_get plains at ≡ Some plain → ends_comment plain.sort ≡ true
      → spaced_at plains (at + 1) ≡ true
  unfolding spaced_at
  spaced_next at plain got c = go (slice_get plains (at + 1)) refl
    where
      go : (o : Option Plain) → slice_get plains (at + 1) ≡ o → spaced_in o ≡ true
      go None e = refl
      go (Some q) e =
          (pairs_at PlainBehind plains at plain q pairs got (ap (slice_get plains) (let n : suc at ≡ at + 1 = omega arith in n) ∙ e)).white c

  -- within a comment, or behind white space, and a comment stands before what follows
  abbrev Covered : State → ℕ → Type 0
  Covered state at = ((0 < state.ignored) ⊎ (spaced_at plains at ≡ true)) × (state.commented ≡ true)

  ignored_more : (sort : Sort) (n : ℕ) → (0 < n) ⊎ (is_comment sort ≡ true)
      → (0 < ignored_after n sort) ⊎ (ends_comment sort ≡ true)
  ignored_more sorts.Comment n w = inr refl
  ignored_more sorts.CommentEnd n w = inr refl
  ignored_more sorts.CommentTemplate n w = inl (omega arith)
  ignored_more _ n (inl l) = inl l
  ignored_more _ n (inr c) = absurd (cc)

  covered_on : (state new : State) (at : ℕ) (plain : Plain) → slice_get plains at ≡ Some plain
      → new.ignored ≡ state.ignored → (0 < state.ignored) ⊎ (is_comment (sort_at plains at) ≡ true)
      → Covered (past_white new plain.sort) (at + 1)
  unfolding past_white sort_at
  covered_on state new at plain got same why = (
    go (ignored_more plain.sort new.ignored (turned why)),
    refl,
  )
    where
      turned : (0 < state.ignored) ⊎ (is_comment (sort_in (slice_get plains at)) ≡ true)
          → (0 < new.ignored) ⊎ (is_comment plain.sort ≡ true)
      turned (inl l) = inl (subst (λ (n : ℕ). 0 < n) (sym same) l)
      turned (inr c) = inr (ap (λ (o : Option Plain). is_comment (sort_in o)) (sym got) ∙ c)

      go : (0 < ignored_after new.ignored plain.sort) ⊎ (ends_comment plain.sort ≡ true)
          → (0 < ignored_after new.ignored plain.sort) ⊎ (spaced_at plains (at + 1) ≡ true)
      go (inl l) = inl l
      go (inr c) = inr (spaced_next at plain got c)

  covered : (others done : List Plain) (state : State) (at : ℕ) → Reached done others at → Covered state at
      → Spaced (lexemes_from plains state at others)
  covered [] done state at r c = tt
  covered (plain ∷ others) done state at r c =
      go (read state plains at plain) (outcome plains state at plain)
      (λ later more. covered others (done ++ plain ∷ []) later (at + 1) (onward done plain others at r) more)
    where
      go : (reading : Reading) → Outcome plains state at plain reading
          → ((later : State) → Covered later (at + 1) → Spaced (lexemes_from plains later (at + 1) others))
          → Spaced (optional reading.lexeme ++ lexemes_from plains reading.state (at + 1) others)
      go _ (skips new same why) again =
          again (past_white new plain.sort) (covered_on state new at plain (got_at done plain others at r) same why)
      go _ (keeps new same none) again = (spaced c.0, or_first new.commented plain.silent (same ∙ c.1))
        where
          or_first : (a b : Bool) → a ≡ true → (a || b) ≡ true
          or_first true b e = refl
          or_first false b e = absurd (cc)

          spaced : (0 < state.ignored) ⊎ (spaced_at plains at ≡ true) → spaced_at plains at ≡ true
          spaced (inl l) = absurd (omega (arith, l, none))
          spaced (inr s) = s

  spaced_first : (at : ℕ) (lexemes : List Lexeme) → is_comment (sort_at plains at) ≡ true → Spaced lexemes
      → First at lexemes
  spaced_first at [] c s = tt
  spaced_first at (lexeme ∷ lexemes) c (s, d) = inl (s, c, d)

  some_same : (a b : Plain) → Some a ≡ Some b → a ≡ b
  some_same a b e = ap (λ (o : Option Plain). unwrap_or o a) e

  first_seen : (others done : List Plain) (state : State) (at : ℕ) → Reached done others at → Calm state
      → First at (lexemes_from plains state at others)
  first_seen [] done state at r calm = tt
  first_seen (plain ∷ others) done state at r calm = go (read state plains at plain) (outcome plains state at plain)
    where
      go : (reading : Reading) → Outcome plains state at plain reading
          → First at (optional reading.lexeme ++ lexemes_from plains reading.state (at + 1) others)
      go _ (skips new same why) =
          spaced_first at _ (comment why)
          (covered others (done ++ plain ∷ []) (past_white new plain.sort) (at + 1) (onward done plain others at r)
          (covered_on state new at plain (got_at done plain others at r) same why))
        where
          comment : (0 < state.ignored) ⊎ (is_comment (sort_at plains at) ≡ true) → is_comment (sort_at plains at) ≡ true
          comment (inl l) = let i = calm.ignored in absurd (omega (arith, l, i))
          comment (inr c) = c
      go _ (keeps new same none) =
          inr (
            refl,
            λ q got. or_none new.commented plain.silent (same ∙ calm.commented)
                ∙ ap (λ (p : Plain). p.silent) (some_same plain q (sym (got_at done plain others at r) ∙ got)),
          )
        where
          or_none : (a b : Bool) → a ≡ false → (a || b) ≡ b
          or_none true b e = absurd (cc)
          or_none false b e = refl

  all_pairs : (others done : List Plain) (state : State) (at : ℕ) → Reached done others at
      → Pairs LexemeBehind (lexemes_from plains state at others)
  all_pairs [] done state at r = tt
  all_pairs (plain ∷ others) done state at r =
      go (read state plains at plain) (outcome plains state at plain)
      (λ later. all_pairs others (done ++ plain ∷ []) later (at + 1) (onward done plain others at r))
    where
      go : (reading : Reading) → Outcome plains state at plain reading
          → ((later : State) → Pairs LexemeBehind (lexemes_from plains later (at + 1) others))
          → Pairs LexemeBehind (optional reading.lexeme ++ lexemes_from plains reading.state (at + 1) others)
      go _ (skips new same why) again = again (past_white new plain.sort)
      go _ (keeps new same none) again =
          let state_behind = after new (terminal_of new plains at) in (
            turned (lexeme_of plain at new.commented (terminal_of new plains at))
                (lexemes_from plains state_behind (at + 1) others)
                (first_seen others (done ++ plain ∷ []) state_behind (at + 1) (onward done plain others at r) (calm_after new (terminal_of new plains at))),
            again state_behind,
          )
        where
          turned : (lexeme : Lexeme) (lexemes : List Lexeme) → First (lexeme.token + 1) lexemes
              → Next LexemeBehind lexeme lexemes
          turned lexeme [] f = tt
          turned lexeme (l ∷ lexemes) f = f

  -- ---- what the terminal tells

  pub record Comes (lexeme : Lexeme) : Type 0 where
    pub plain : Plain
    pub got : slice_get plains lexeme.token ≡ Some plain
    pub from : lexeme.from ≡ plain.from
    pub to : lexeme.to ≡ plain.to
    pub goes : Bool
    pub touches : Bool
    pub direct : goes ≡ true → spaced_at plains lexeme.token ≡ false
    pub unspaced : touches ≡ true → spaced_at plains lexeme.token ≡ false
    pub fit : comes lexeme.terminal (sort_at plains lexeme.token) goes
        (is_direct plains (lexeme.token + 1) sorts.OpenInsert) touches ≡ true

  one_comes : (state : State) (at : ℕ) (plain : Plain) → slice_get plains at ≡ Some plain
      → Comes (lexeme_of plain at state.commented (terminal_of state plains at))
  one_comes state at plain got = record {
    plain = plain;
    got = got;
    from = refl;
    to = refl;
    goes = continues state plains at;
    touches = not (spaced_at plains at);
    direct = λ c. black (spaced_at plains at) (and_right state.word _ c);
    unspaced = λ c. black (spaced_at plains at) c;
    fit = told state plains at;
  }
    where
      black : (t : Bool) → not t ≡ true → t ≡ false
      black true e = sym e
      black false e = refl

  all_come : (others done : List Plain) (state : State) (at : ℕ) → Reached done others at
      → Every Comes (lexemes_from plains state at others)
  all_come [] done state at r = tt
  all_come (plain ∷ others) done state at r =
      go (read state plains at plain) (outcome plains state at plain)
      (λ later. all_come others (done ++ plain ∷ []) later (at + 1) (onward done plain others at r))
    where
      go : (reading : Reading) → Outcome plains state at plain reading
          → ((later : State) → Every Comes (lexemes_from plains later (at + 1) others))
          → Every Comes (optional reading.lexeme ++ lexemes_from plains reading.state (at + 1) others)
      go _ (skips new same why) again = again (past_white new plain.sort)
      go _ (keeps new same none) again =
          (one_comes new at plain (got_at done plain others at r), again (after new (terminal_of new plains at)))

-- ---- of a sheet that was read

abbrev pub plains_in : Source → List Plain
plains_in source = plains_of (bytes source) source.tokens.now.list

module _ (source : Source) (was : WasRead source) where
  pub plain_pairs : Pairs PlainBehind (plains_in source)
  plain_pairs = all_behind (bytes source) source.tokens.now.list was.tokens

  pub comes_at : (k : ℕ) (lexeme : Lexeme) → lexeme_at source k ≡ Some lexeme → Comes (plains_in source) plain_pairs lexeme
  unfolding lexemes_of
  comes_at k lexeme there =
      every_at (Comes (plains_in source) plain_pairs) source.lexemes.now k lexeme
      (subst (Every (Comes (plains_in source) plain_pairs)) (sym was.lexemes)
      (all_come (plains_in source) plain_pairs (plains_in source) [] beginning 0 (record { all = refl; here = refl }))) there

  -- a token directly behind another
  pub record Touches (lexeme next : Lexeme) : Type 0 where
    pub there : next.token ≡ lexeme.token + 1
    pub begins : lexeme.to ≡ next.from
    pub uncommented : next.commented ≡ false

  pub lexeme_pairs : Pairs (LexemeBehind (plains_in source) plain_pairs) source.lexemes.now
  unfolding lexemes_of
  lexeme_pairs =
      subst (Pairs (LexemeBehind (plains_in source) plain_pairs)) (sym was.lexemes)
      (all_pairs (plains_in source) plain_pairs (plains_in source) [] beginning 0 (record { all = refl; here = refl }))

  touch : (lexeme next : Lexeme) → Comes (plains_in source) plain_pairs lexeme → Comes (plains_in source) plain_pairs next
      → next.token ≡ lexeme.token + 1 → spaced_at (plains_in source) next.token ≡ false
      → ((plain : Plain) → slice_get (plains_in source) next.token ≡ Some plain → next.commented ≡ plain.silent)
      → Touches lexeme next
  unfolding spaced_at
  touch lexeme next it more there direct silent =
      let behind : PlainBehind it.plain more.plain =
      pairs_at PlainBehind (plains_in source) lexeme.token it.plain more.plain plain_pairs it.got
      (ap (slice_get (plains_in source)) (let n : suc lexeme.token ≡ lexeme.token + 1 = omega arith in n ∙ sym there) ∙ more.got) in
      let (ends, calm) = behind.direct (ap spaced_in (sym more.got) ∙ direct) in record {
        there = there;
        begins = it.to ∙ ends ∙ sym more.from;
        uncommented = silent more.plain more.got ∙ calm;
      }

  -- where no white space stands before it
  pub directly : (k : ℕ) (lexeme next : Lexeme) → lexeme_at source k ≡ Some lexeme → lexeme_at source (suc k) ≡ Some next
      → spaced_at (plains_in source) next.token ≡ false → Touches lexeme next
  directly k lexeme next there next_there direct =
      go (pairs_at (LexemeBehind (plains_in source) plain_pairs) source.lexemes.now k lexeme next lexeme_pairs there next_there)
    where
      go : From (plains_in source) plain_pairs (lexeme.token + 1) next → Touches lexeme next
      go (inl (s, c, d)) = absurd (let no : true ≡ false = sym s ∙ direct in cc)
      go (inr (at, silent)) =
          touch lexeme next (comes_at k lexeme there) (comes_at (suc k) next next_there) at direct silent

  -- where a token directly behind is no comment
  pub directly_there : (k : ℕ) (lexeme next : Lexeme) → lexeme_at source k ≡ Some lexeme
      → lexeme_at source (suc k) ≡ Some next → spaced_at (plains_in source) (lexeme.token + 1) ≡ false
      → is_comment (sort_at (plains_in source) (lexeme.token + 1)) ≡ false → Touches lexeme next
  directly_there k lexeme next there next_there direct seen =
      go (pairs_at (LexemeBehind (plains_in source) plain_pairs) source.lexemes.now k lexeme next lexeme_pairs there next_there)
    where
      go : From (plains_in source) plain_pairs (lexeme.token + 1) next → Touches lexeme next
      go (inl (s, c, d)) = absurd (let no : true ≡ false = sym c ∙ seen in cc)
      go (inr (at, silent)) =
          touch lexeme next (comes_at k lexeme there) (comes_at (suc k) next next_there) at
          (ap (spaced_at (plains_in source)) at ∙ direct) silent

  -- white space alone stands between two of which the second has no comment before it
  pub record Apart (lexeme next : Lexeme) : Type 0 where
    pub order : lexeme.to ≤ next.from
    pub white : list_all is_white_byte (slice_range (bytes source) lexeme.to next.from) ≡ true

  gaps : Pairs (PlainGap (bytes source)) (plains_in source)
  gaps = all_gaps (bytes source) source.tokens.now.list was.tokens

  pub apart_there : (k : ℕ) (lexeme next : Lexeme) → lexeme_at source k ≡ Some lexeme → lexeme_at source (suc k) ≡ Some next
      → next.commented ≡ false → Apart lexeme next
  apart_there k lexeme next there next_there plain =
      go (pairs_at (LexemeBehind (plains_in source) plain_pairs) source.lexemes.now k lexeme next lexeme_pairs there next_there)
    where
      go : From (plains_in source) plain_pairs (lexeme.token + 1) next → Apart lexeme next
      go (inl (s, c, d)) = absurd (let no : true ≡ false = sym d ∙ plain in cc)
      go (inr (at, silent)) =
          let it = comes_at k lexeme there in
          let more = comes_at (suc k) next next_there in
          let gap : PlainGap (bytes source) it.plain more.plain =
          pairs_at (PlainGap (bytes source)) (plains_in source) lexeme.token it.plain more.plain gaps it.got
          (ap (slice_get (plains_in source)) (let n : suc lexeme.token ≡ lexeme.token + 1 = omega arith in n ∙ sym at) ∙ more.got) in
          let from = more.from in
          let to = it.to in
          let order = gap.order in record {
            order = omega (arith, from, to, order);
            white = ap (λ (m : ℕ). list_all is_white_byte (slice_range (bytes source) m next.from)) to
                ∙ ap (λ (m : ℕ). list_all is_white_byte (slice_range (bytes source) it.plain.to m)) from
                ∙ gap.white (sym (silent more.plain more.got) ∙ plain);
          }
