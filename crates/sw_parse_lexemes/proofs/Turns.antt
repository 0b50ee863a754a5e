-- The grammar sees tokens in turn: what is left out stands in a comment that is white space.
use Rattle.std.proofs.Common.{◌≡◌, ℕ, ◌+◌, Bool, true, false, ◌&&◌, if◌then◌else◌, nat_lt, List, [], ◌∷◌, ◌++◌, Option, Some, None, inl, inr, refl, slice_get}
use Rattle.sw_parse_terminals.specs.declared.terminal.Terminal.{Terminal}
use Rattle.sw_parse_terminals.specs.declared.terminal.Terminal.TheVariants as terminals
use Rattle.sw_parse_terminals.specs.declared.lexeme.Lexeme.{Lexeme}
use Rattle.sw_tokens.specs.declared.token.Token.{Token}
use Rattle.sw_parse_lexemes.specs.declared.plain.Plain.{Plain}
use Rattle.sw_parse_lexemes.specs.declared.state.State.{State}
use Rattle.sw_parse_lexemes.specs.declared.state.Bracket.{Bracket}
use Rattle.sw_parse_lexemes.specs.Classes.{is_comment}
use Rattle.sw_parse_lexemes.specs.Ahead.{sort_at}
use Rattle.sw_parse_lexemes.specs.Names.{is}
use Rattle.sw_parse_lexemes.specs.Plains.{end_by, plain_of, plains_from, plains_of}
use Rattle.sw_parse_lexemes.specs.Terminals.{terminal_of}
use Rattle.sw_parse_lexemes.specs.Steps.{opened_by, inserted, popped, stepped, closes, further_mode, in_word, after, after_opening, placed, is_white, past_white}
use Rattle.sw_parse_lexemes.specs.Lexemes.{Reading, lexeme_of, skipped, kept, read_placed, read, optional, lexemes_from, lexemes_of, beginning}
use Rattle.sw_parse_lexemes.specs.Turns.{InTurn, ended, seen, white, SeenInTurn}

and_left : (a b : Bool) → (a && b) ≡ true → a ≡ true
and_left true b e = refl
and_left false b e = e

-- behind a token of a terminal nothing is left out
opening_leaves : (state : State) (terminal : Terminal) (opens : Option Bracket)
    → (after_opening state terminal opens).ignored ≡ 0
opening_leaves state terminal (Some _) = refl
opening_leaves state terminal None = ends (is terminal terminals.InsertEnd) (closes terminal)
  where
    ends : (a b : Bool)
        → (if a then popped (inserted state) terminal
        else (if b then popped state terminal
        else stepped state (further_mode state.mode terminal) (in_word terminal) terminal)).ignored ≡ 0
    ends true b = refl
    ends false true = refl
    ends false false = refl

after_leaves : (state : State) (terminal : Terminal) → (after state terminal).ignored ≡ 0
unfolding after
after_leaves state terminal = opening_leaves state terminal (opened_by terminal)

none_left : (n : ℕ) (left : Bool) → n ≡ 0 → nat_lt 0 n ≡ true → left ≡ true
none_left n left e l = absurd (cc)

begins : (bytes : List ℕ) (gap : ℕ) (token : Token) (to : ℕ) → (plain_of bytes gap token to).from ≡ token.from
unfolding plain_of
begins bytes gap token to = refl

-- one token, where what comes of the others is known
module _ (plains : List Plain) (at : ℕ) (plain : Plain) (token : Token) (tokens : List Token) (more : State → List Lexeme)
    (there : plain.from ≡ token.from)
    (rest : (s : State) (left : Bool) → (nat_lt 0 s.ignored ≡ true → left ≡ true) → InTurn plains (at + 1) left tokens (more s)) where
  abbrev told : Reading → List Lexeme
  told r = optional r.lexeme ++ more r.state

  keeping : (state : State) (left b : Bool) → is_white state plains at ≡ b
      → InTurn plains at left (token ∷ tokens)
      (told (if b then skipped state plain else kept state at plain (terminal_of state plains at)))
  keeping state left true w =
      white token (inl (and_left (is_comment (sort_at plains at)) _ w)) (rest (past_white state plain.sort) true (λ _. refl))
  keeping state left false w =
      seen token (lexeme_of plain at state.commented (terminal_of state plains at)) refl there
      (rest (after state (terminal_of state plains at)) false
      (none_left (after state (terminal_of state plains at)).ignored false
      (after_leaves state (terminal_of state plains at))))

  placing : (state : State) (left b : Bool) → nat_lt 0 state.ignored ≡ b → (nat_lt 0 state.ignored ≡ true → left ≡ true)
      → InTurn plains at left (token ∷ tokens)
      (told (if b then skipped state plain else read_placed (placed state plains at) plains at plain))
  placing state left true e started =
      white token (inr (started e)) (rest (past_white state plain.sort) true (λ _. refl))
  placing state left false e started =
      keeping (placed state plains at) left (is_white (placed state plains at) plains at) refl

  turn : (state : State) (left : Bool) → (nat_lt 0 state.ignored ≡ true → left ≡ true)
      → InTurn plains at left (token ∷ tokens) (told (read state plains at plain))
  unfolding read
  turn state left started = placing state left (nat_lt 0 state.ignored) refl started

in_turn : (bytes : List ℕ) (plains : List Plain) (tokens : List Token) (gap : ℕ) (state : State) (at : ℕ) (left : Bool)
    → (nat_lt 0 state.ignored ≡ true → left ≡ true)
    → InTurn plains at left tokens (lexemes_from plains state at (plains_from bytes gap tokens))
in_turn bytes plains [] gap state at left started = ended
in_turn bytes plains (token ∷ tokens) gap state at left started =
    turn plains at (plain_of bytes gap token (end_by token (slice_get tokens 0))) token tokens
    (λ s. lexemes_from plains s (at + 1) (plains_from bytes (end_by token (slice_get tokens 0)) tokens))
    (begins bytes gap token (end_by token (slice_get tokens 0)))
    (λ s l g. in_turn bytes plains tokens (end_by token (slice_get tokens 0)) s (at + 1) l g) state left started

pub seen_in_turn : (bytes : List ℕ) (tokens : List Token) → SeenInTurn bytes tokens
unfolding lexemes_of
seen_in_turn bytes tokens =
    in_turn bytes (plains_of bytes tokens) tokens 0 beginning 0 false (λ e. absurd (cc))
