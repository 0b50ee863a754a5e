-- What is known of the state before each token, and how a law of each lexeme follows from a law of each token.
use Rattle.std.proofs.Common.{◌≡◌, ℕ, ◌+◌, Bool, true, false, ◌&&◌, if◌then◌else◌, nat_lt, List, [], ◌∷◌, ◌++◌, Option, Some, None, refl, subst}
use Rattle.sw_parse_terminals.specs.declared.terminal.Terminal.{Terminal}
use Rattle.sw_parse_terminals.specs.declared.terminal.Terminal.TheVariants as terminals
use Rattle.sw_parse_terminals.specs.declared.lexeme.Lexeme.{Lexeme}
use Rattle.sw_tokens.specs.declared.token.Token.{Token}
use Rattle.sw_parse_lexemes.specs.declared.sort.Sort.{Sort}
use Rattle.sw_parse_lexemes.specs.declared.plain.Plain.{Plain}
use Rattle.sw_parse_lexemes.specs.declared.state.State.{State}
use Rattle.sw_parse_lexemes.specs.declared.state.Bracket.{Bracket}
use Rattle.sw_parse_lexemes.specs.Modes.{statement_mode}
use Rattle.sw_parse_lexemes.specs.Names.{is}
use Rattle.sw_parse_lexemes.specs.Plains.{plains_of}
use Rattle.sw_parse_lexemes.specs.Terminals.{terminal_of}
use Rattle.sw_parse_lexemes.specs.Brackets.{innermost}
use Rattle.sw_parse_lexemes.specs.Steps.{opened_by, inserted, popped, stepped, closes, further_mode, in_word, from_word, begins_statement, comments_at, after, after_opening, placed, is_white, past_white}
use Rattle.sw_parse_lexemes.specs.Lexemes.{Reading, lexeme_of, skipped, kept, read_placed, read, optional, lexemes_from, lexemes_of, beginning}
use Rattle.sw_parse_lexemes.specs.Laws.{EachBehind, OfText, ends_word}

-- a statement begins where the terminal before says so, and a word goes on behind its parts alone
pub record Known (state : State) : Type 0 where
  pub start : state.start ≡ begins_statement state.before
  pub from_word : state.word ≡ true → ends_word state.before ≡ true
  pub in_word : in_word state.before ≡ true → state.word ≡ true

-- at the start of a statement the mode is that of the statement
pub record Placed (plains : List Plain) (at : ℕ) (old new : State) : Type 0 where
  pub known : Known new
  pub before : new.before ≡ old.before
  pub mode : new.start ≡ true → new.mode ≡ statement_mode plains at

opens_no_word : (terminal : Terminal) (what : Bracket) → opened_by terminal ≡ Some what → in_word terminal ≡ false
opens_no_word terminals.Word what e = absurd (cc)
opens_no_word terminals.Part what e = absurd (cc)
opens_no_word terminals.AtOther what e = absurd (cc)
opens_no_word terminals.Custom what e = absurd (cc)
opens_no_word _ what e = refl

closes_no_word : (terminal : Terminal) → closes terminal ≡ true → in_word terminal ≡ false
closes_no_word terminals.Word e = absurd (cc)
closes_no_word terminals.Part e = absurd (cc)
closes_no_word terminals.AtOther e = absurd (cc)
closes_no_word terminals.Custom e = absurd (cc)
closes_no_word _ e = refl

insert_no_word : (terminal : Terminal) → is terminal terminals.InsertEnd ≡ true → in_word terminal ≡ false
insert_no_word terminals.InsertEnd e = refl
insert_no_word _ e = absurd (cc)

insert_ends : (terminal : Terminal) → is terminal terminals.InsertEnd ≡ true → ends_word terminal ≡ true
insert_ends terminals.InsertEnd e = refl
insert_ends _ e = absurd (cc)

word_ends : (terminal : Terminal) → in_word terminal ≡ true → ends_word terminal ≡ true
word_ends terminals.Word e = refl
word_ends terminals.Part e = refl
word_ends terminals.AtOther e = refl
word_ends terminals.Custom e = refl
word_ends _ e = absurd (cc)

and_left : (a b : Bool) → (a && b) ≡ true → a ≡ true
and_left true b e = refl
and_left false b e = e

neither : (b : Bool) → b ≡ false → b ≡ true → ⊥
neither b f t = absurd (cc)

opened_known : (state : State) (terminal : Terminal) (opens : Option Bracket) → opened_by terminal ≡ opens
    → Known (after_opening state terminal opens)
opened_known state terminal (Some what) o = record {
  start = refl;
  from_word = λ e. absurd (cc);
  in_word = λ e. absurd (neither (in_word terminal) (opens_no_word terminal what o) e);
}
opened_known state terminal None o = closing (is terminal terminals.InsertEnd) refl (closes terminal) refl
  where
    closing : (a : Bool) → is terminal terminals.InsertEnd ≡ a → (b : Bool) → closes terminal ≡ b
        → Known (if a then popped (inserted state) terminal
        else (if b then popped state terminal
        else stepped state (further_mode state.mode terminal) (in_word terminal) terminal))
    closing true a b c = record {
      start = refl;
      from_word = λ e. insert_ends terminal a;
      in_word = λ e. absurd (neither (in_word terminal) (insert_no_word terminal a) e);
    }
    closing false a true c = record {
      start = refl;
      from_word = λ e. absurd (neither (is terminal terminals.InsertEnd) a
          (and_left (is terminal terminals.InsertEnd) (from_word (innermost state.frames)) e));
      in_word = λ e. absurd (neither (in_word terminal) (closes_no_word terminal c) e);
    }
    closing false a false c = record { start = refl; from_word = λ e. word_ends terminal e; in_word = λ e. e }

pub after_known : (state : State) (terminal : Terminal) → Known (after state terminal)
unfolding after
after_known state terminal = opened_known state terminal (opened_by terminal) refl

opened_before : (state : State) (terminal : Terminal) (opens : Option Bracket)
    → (after_opening state terminal opens).before ≡ terminal
opened_before state terminal (Some _) = refl
opened_before state terminal None = closing (is terminal terminals.InsertEnd) (closes terminal)
  where
    closing : (a b : Bool)
        → (if a then popped (inserted state) terminal
        else (if b then popped state terminal
        else stepped state (further_mode state.mode terminal) (in_word terminal) terminal)).before ≡ terminal
    closing true b = refl
    closing false true = refl
    closing false false = refl

pub after_before : (state : State) (terminal : Terminal) → (after state terminal).before ≡ terminal
unfolding after
after_before state terminal = opened_before state terminal (opened_by terminal)

pub white_known : (state : State) (sort : Sort) → Known state → Known (past_white state sort)
unfolding past_white
white_known state sort known = record { start = known.start; from_word = known.from_word; in_word = known.in_word }

pub is_placed : (plains : List Plain) (at : ℕ) (state : State) → Known state → Placed plains at state (placed state plains at)
unfolding placed
is_placed plains at state known = starting state.start refl
  where
    starting : (b : Bool) → state.start ≡ b
        → Placed plains at state (if b
        then record state { mode = statement_mode plains at; comments = comments_at state.comments plains at }
        else state)
    starting true b = record {
      known = record { start = known.start; from_word = known.from_word; in_word = known.in_word };
      before = refl;
      mode = λ e. refl;
    }
    starting false b = record { known = known; before = refl; mode = λ e. absurd (neither state.start b e) }

-- a law of each lexeme that is one of each token
module _ (plains : List Plain) (Law : Terminal → Lexeme → Type 0)
    (law : (at : ℕ) (plain : Plain) (old new : State) → Placed plains at old new
    → Law new.before (lexeme_of plain at new.commented (terminal_of new plains at))) where
  abbrev told : (State → List Lexeme) → Reading → List Lexeme
  told more reading = optional reading.lexeme ++ more reading.state

  module _ (at : ℕ) (plain : Plain) (more : State → List Lexeme)
      (rest : (s : State) → Known s → EachBehind Law s.before (more s)) where
    white : (state : State) → Known state → EachBehind Law state.before (more (past_white state plain.sort))
    unfolding past_white
    white state known = rest (past_white state plain.sort) (white_known state plain.sort known)

    keeping : (old state : State) (b : Bool) → Placed plains at old state
        → EachBehind Law state.before
        (told more (if b then skipped state plain else kept state at plain (terminal_of state plains at)))
    keeping old state true there = white state there.known
    keeping old state false there = (
      law at plain old state there,
      subst (λ t. EachBehind Law t (more (after state (terminal_of state plains at))))
          (after_before state (terminal_of state plains at))
          (rest (after state (terminal_of state plains at)) (after_known state (terminal_of state plains at))),
    )

    placing : (state : State) (b : Bool) → Known state
        → EachBehind Law state.before
        (told more (if b then skipped state plain else read_placed (placed state plains at) plains at plain))
    placing state true known = white state known
    placing state false known =
        subst (λ t. EachBehind Law t (told more (read_placed (placed state plains at) plains at plain)))
        (is_placed plains at state known).before
        (keeping state (placed state plains at) (is_white (placed state plains at) plains at) (is_placed plains at state known))

    turn : (state : State) → Known state → EachBehind Law state.before (told more (read state plains at plain))
    unfolding read
    turn state known = placing state (nat_lt 0 state.ignored) known

  each : (state : State) (at : ℕ) (rest : List Plain) → Known state
      → EachBehind Law state.before (lexemes_from plains state at rest)
  each state at [] known = tt
  each state at (plain ∷ rest) known =
      turn at plain (λ s. lexemes_from plains s (at + 1) rest) (λ s k. each s (at + 1) rest k) state known

pub of_text : (Law : List Plain → Terminal → Lexeme → Type 0)
    → ((plains : List Plain) (at : ℕ) (plain : Plain) (old new : State) → Placed plains at old new
    → Law plains new.before (lexeme_of plain at new.commented (terminal_of new plains at)))
    → (bytes : List ℕ) (tokens : List Token) → OfText Law bytes tokens
unfolding lexemes_of
of_text Law law bytes tokens =
    each (plains_of bytes tokens) (Law (plains_of bytes tokens)) (law (plains_of bytes tokens)) beginning 0
    (plains_of bytes tokens) (record { start = refl; from_word = λ e. absurd (cc); in_word = λ e. absurd (cc) })
