-- What is open around a lexeme tells whether its token is read as text.
use Rattle.std.proofs.Common.{◌≡◌, ℕ, suc, ◌+◌, ◌-◌, Bool, true, false, not, ◌&&◌, if◌then◌else◌, nat_lt, List, [], ◌∷◌, ◌++◌, length, take, slice_get, Option, Some, None, refl, sym, ap, ◌∙◌, subst, arith}
use Rattle.std.proofs.Math.Seq.{take-append_seam}
use Rattle.std.proofs.lemmas.List.{length-append}
use Rattle.sw_parse_terminals.specs.declared.terminal.Terminal.{Terminal}
use Rattle.sw_parse_terminals.specs.declared.terminal.Terminal.TheVariants as terminals
use Rattle.sw_parse_terminals.specs.declared.lexeme.Lexeme.{Lexeme}
use Rattle.sw_tokens.specs.declared.token.Token.{Token}
use Rattle.sw_parse_lexemes.specs.declared.sort.Sort.{Sort}
use Rattle.sw_parse_lexemes.specs.declared.sort.Sort.TheVariants as sorts
use Rattle.sw_parse_lexemes.specs.declared.plain.Plain.{Plain}
use Rattle.sw_parse_lexemes.specs.declared.state.Mode.{Mode}
use Rattle.sw_parse_lexemes.specs.declared.state.Mode.TheVariants as modes
use Rattle.sw_parse_lexemes.specs.declared.state.Bracket.{Bracket}
use Rattle.sw_parse_lexemes.specs.declared.state.Frame.{Frame}
use Rattle.sw_parse_lexemes.specs.declared.state.State.{State}
use Rattle.sw_parse_lexemes.specs.Plains.{plains_of}
use Rattle.sw_parse_lexemes.specs.Ahead.{sort_at, spaced_at, name_direct}
use Rattle.sw_parse_lexemes.specs.Modes.{statement_mode}
use Rattle.sw_parse_lexemes.specs.Names.{is, is_raw}
use Rattle.sw_parse_lexemes.specs.Signs.{is_text, or_raw, is_behind_rest, dollar_terminal}
use Rattle.sw_parse_lexemes.specs.Brackets.{innermost}
use Rattle.sw_parse_lexemes.specs.Terminals.{terminal_of}
use Rattle.sw_parse_lexemes.specs.Steps.{opened_by, inner_mode, further_mode, is_inserting, below_insert, inserted, popped, stepped, opened, closes, in_word, mode_of, comments_at, after, after_opening, placed, is_white, past_white}
use Rattle.sw_parse_lexemes.specs.Lexemes.{Reading, lexeme_of, skipped, kept, read_placed, read, optional, lexemes_from, lexemes_of, beginning}
use Rattle.sw_parse_lexemes.specs.Around.{text_in, text_inside, text_behind, Level, Around, opens_anything, opens_insert, to_insert, closed, around_behind, around_first, EachWithin, reads_text, sign_of, names_value, TextIs, TextIsByWhatIsAround}
use Rattle.sw_parse_lexemes.proofs.Knowing.{Known, after_known, after_before, white_known, is_placed}

-- modes

inner_text : (terminal : Terminal) (mode : Mode)
    → text_in (inner_mode mode terminal) ≡ text_inside (text_in mode) terminal
inner_text terminals.RawParen modes.Raw = refl
inner_text terminals.RawParen modes.Custom = refl
inner_text terminals.RawParen _ = refl
inner_text terminals.RawBracket modes.Raw = refl
inner_text terminals.RawBracket _ = refl
inner_text terminals.RawBrace modes.Raw = refl
inner_text terminals.RawBrace _ = refl
inner_text _ modes.Raw = refl
inner_text _ _ = refl

further_text : (terminal : Terminal) (mode : Mode)
    → text_in (further_mode mode terminal) ≡ text_behind (text_in mode) terminal
further_text terminals.Colon modes.CustomName = refl
further_text terminals.In modes.Each = refl
further_text terminals.From modes.For = refl
further_text terminals.If modes.Else = refl
further_text _ modes.CustomName = refl
further_text _ _ = refl

text_is_read : (mode : Mode) → is_text mode ≡ reads_text (text_in mode)
text_is_read modes.Raw = refl
text_is_read _ = refl

neither : (b : Bool) → b ≡ false → b ≡ true → ⊥
neither b f t = absurd (cc)

-- frames

-- the frames of a state, the innermost last, are these levels
data Frames : List Frame → List Level → Type 0 where
  none : Frames [] []
  one : {frames : List Frame} {levels : List Level} (frame : Frame) (level : Level)
      → opened_by frame.opened ≡ Some frame.bracket → frame.opened ≡ level.opened → text_in frame.mode ≡ level.outside
      → Frames frames levels → Frames (frames ++ frame ∷ []) (level ∷ levels)

last_at : (frames : List Frame) (frame : Frame) → length (frames ++ frame ∷ []) - 1 ≡ length frames
last_at frames frame = ap (λ n. n - 1) (length-append frames (frame ∷ [])) ∙ less (length frames)
  where
    less : (n : ℕ) → n + 1 - 1 ≡ n
    less n = omega arith

got_last : (frames : List Frame) (frame : Frame) → slice_get (frames ++ frame ∷ []) (length frames) ≡ Some frame
got_last [] frame = refl
got_last (first ∷ frames) frame = got_last frames frame

last_is : (frames : List Frame) (frame : Frame) → innermost (frames ++ frame ∷ []) ≡ Some frame
last_is frames frame =
    ap (slice_get (frames ++ frame ∷ [])) (last_at frames frame) ∙ got_last frames frame

without_last : (frames : List Frame) (frame : Frame)
    → take (length (frames ++ frame ∷ []) - 1) (frames ++ frame ∷ []) ≡ frames
without_last frames frame =
    ap (λ n. take n (frames ++ frame ∷ [])) (last_at frames frame) ∙ take-append_seam frames (frame ∷ [])

insert_opens : (terminal : Terminal) (frame : Frame) → opened_by terminal ≡ Some frame.bracket
    → is_inserting (Some frame) ≡ opens_insert terminal
insert_opens terminals.Open frame o = cc
insert_opens terminals.RawParen frame o = cc
insert_opens terminals.Paren frame o = cc
insert_opens terminals.ConditionParen frame o = cc
insert_opens terminals.CallParen frame o = cc
insert_opens terminals.HeadParen frame o = cc
insert_opens terminals.RawBracket frame o = cc
insert_opens terminals.Bracket frame o = cc
insert_opens terminals.RawBrace frame o = cc
insert_opens terminals.Insert frame o = cc
insert_opens terminals.WordInsert frame o = cc
insert_opens terminals.PartInsert frame o = cc
insert_opens terminals.Template frame o = cc
insert_opens terminals.UrlTemplate frame o = cc
insert_opens terminals.CommentTemplate frame o = cc
insert_opens _ frame o = absurd (cc)

long : (frames : List Frame) (frame : Frame) → length (frames ++ frame ∷ []) ≡ suc (length frames)
long frames frame = length-append frames (frame ∷ []) ∙ more (length frames)
  where
    more : (n : ℕ) → n + 1 ≡ suc n
    more n = omega arith

-- up to the innermost `#{`
down : {frames : List Frame} {levels : List Level} → Frames frames levels
    → Frames (below_insert (length frames) frames) (to_insert levels)
down none = none
down (one {frames} {levels} frame level o l m rest) =
    subst (λ n. Frames (below_insert n (frames ++ frame ∷ [])) (to_insert (level ∷ levels))) (sym (long frames frame))
    (subst (λ f. Frames (if is_inserting f then frames ++ frame ∷ []
    else below_insert (length frames) (take (length (frames ++ frame ∷ []) - 1) (frames ++ frame ∷ []))) (to_insert (level ∷ levels)))
    (sym (last_is frames frame))
    (subst (λ less. Frames (if is_inserting (Some frame) then frames ++ frame ∷ [] else below_insert (length frames) less) (to_insert (level ∷ levels)))
    (sym (without_last frames frame))
    (subst (λ b. Frames (if b then frames ++ frame ∷ [] else below_insert (length frames) frames) (to_insert (level ∷ levels)))
    (sym (insert_opens frame.opened frame o ∙ ap opens_insert l)) (either (opens_insert level.opened) (down rest)))))
  where
    either : (b : Bool) → Frames (below_insert (length frames) frames) (to_insert levels)
        → Frames (if b then frames ++ frame ∷ [] else below_insert (length frames) frames)
        (if b then level ∷ levels else to_insert levels)
    either true below = one frame level o l m rest
    either false below = below

-- states

-- a state, and what is around the next lexeme: text is read as it says, but where a statement begins
record Stands (state : State) (around : Around) : Type 0 where
  known : Known state
  frames : Frames state.frames around.levels
  text : state.start ≡ false → text_in state.mode ≡ around.text

-- the same within a statement, or at its first lexeme
record Reads (state : State) (around : Around) : Type 0 where
  frames : Frames state.frames around.levels
  text : text_in state.mode ≡ around.text

-- what remains when the innermost is closed
shut : {frames : List Frame} {levels : List Level} (mode : Mode) (text : Option Bool) → Frames frames levels → text_in mode ≡ text
    → Frames (take (length frames - 1) frames) (closed text levels).levels
    × (text_in (mode_of (innermost frames) mode) ≡ (closed text levels).text)
shut mode text none e = (none, e)
shut mode text (one {frames} {levels} frame level o l m rest) e = (
  subst (λ f. Frames f levels) (sym (without_last frames frame)) rest,
  ap (λ f. text_in (mode_of f mode)) (last_is frames frame) ∙ m,
)

module _ (state : State) (around : Around) (terminal : Terminal) (reads : Reads state around) where
  abbrev Behind : State → Around → Type 0
  Behind new there = Frames new.frames there.levels × (text_in new.mode ≡ there.text)

  abbrev closing : Bool → Bool → State
  closing insert ends =
      if insert then popped (inserted state) terminal
      else (if ends then popped state terminal
      else stepped state (further_mode state.mode terminal) (in_word terminal) terminal)

  shutting : (insert ends : Bool)
      → Behind (closing insert ends) (if insert then closed around.text (to_insert around.levels)
      else (if ends then closed around.text around.levels
      else record { levels = around.levels; text = text_behind around.text terminal }))
  shutting true ends = shut state.mode around.text (down reads.frames) reads.text
  shutting false true = shut state.mode around.text reads.frames reads.text
  shutting false false = (
    reads.frames,
    further_text terminal state.mode ∙ ap (λ text. text_behind text terminal) reads.text,
  )

  opening : (what : Option Bracket) → opened_by terminal ≡ what
      → Behind (after_opening state terminal what) (if opens_anything what
      then record {
        levels = record { opened = terminal; outside = around.text } ∷ around.levels;
        text = text_inside around.text terminal;
      }
      else (if is terminal terminals.InsertEnd then closed around.text (to_insert around.levels)
      else (if closes terminal then closed around.text around.levels
      else record { levels = around.levels; text = text_behind around.text terminal })))
  opening (Some bracket) o = (
    one (record { bracket = bracket; opened = terminal; mode = state.mode })
        (record { opened = terminal; outside = around.text }) o refl reads.text reads.frames,
    inner_text terminal state.mode ∙ ap (λ text. text_inside text terminal) reads.text,
  )
  opening None o = shutting (is terminal terminals.InsertEnd) (closes terminal)

  behind : Behind (after state terminal) (around_behind around terminal)
  unfolding after
  behind = opening (opened_by terminal) refl

  stands_behind : Stands (after state terminal) (around_behind around terminal)
  stands_behind = record {
    known = after_known state terminal;
    frames = behind.0;
    text = λ s. behind.1;
  }

-- at the first lexeme of a statement, or within it
at_first : (plains : List Plain) (at : ℕ) (state : State) (around : Around) → Stands state around
    → Reads (placed state plains at) (around_first plains state.before at around)
unfolding placed
at_first plains at state around stands =
    subst (λ b. Reads (if state.start then record state { mode = statement_mode plains at; comments = comments_at state.comments plains at } else state)
    (if b then record { levels = around.levels; text = text_in (statement_mode plains at) } else around))
    stands.known.start (starting state.start refl)
  where
    starting : (b : Bool) → state.start ≡ b
        → Reads (if b then record state { mode = statement_mode plains at; comments = comments_at state.comments plains at } else state)
        (if b then record { levels = around.levels; text = text_in (statement_mode plains at) } else around)
    starting true b = record { frames = stands.frames; text = refl }
    starting false b = record { frames = stands.frames; text = stands.text b }

-- behind white space all is as before
skipped_stands : (sort : Sort) (state : State) (around : Around) → Stands state around
    → Stands (past_white state sort) around
unfolding past_white
skipped_stands sort state around stands = record {
  known = white_known state sort stands.known;
  frames = stands.frames;
  text = stands.text;
}

-- also where a statement would begin
white_stands : (plains : List Plain) (at : ℕ) (state : State) (around : Around) → Stands state around
    → Stands (placed state plains at) around
unfolding placed
white_stands plains at state around stands = starting state.start refl
  where
    starting : (b : Bool) → state.start ≡ b
        → Stands (if b
        then record state { mode = statement_mode plains at; comments = comments_at state.comments plains at }
        else state) around
    starting true b = record {
      known = record { start = stands.known.start; from_word = stands.known.from_word; in_word = stands.known.in_word };
      frames = stands.frames;
      text = λ s. absurd (neither state.start s b);
    }
    starting false b = stands

-- signs

some_same : {a b : Terminal} → Some a ≡ Some b → a ≡ b
some_same e = cc

sign_there : (state : State) (plains : List Plain) (at : ℕ) (sort : Sort) (told : Terminal) → sort_at plains at ≡ sort
    → sign_of sort ≡ Some told → terminal_of state plains at ≡ or_raw state.mode told
unfolding terminal_of
sign_there state plains at sorts.Colon told e s = rw (e, terminal_of) (ap (or_raw state.mode) (some_same s))
sign_there state plains at sorts.Ellipsis told e s = rw (e, terminal_of) (ap (or_raw state.mode) (some_same s))
sign_there state plains at sorts.Hash told e s = rw (e, terminal_of) (ap (or_raw state.mode) (some_same s))
sign_there state plains at sorts.Ampersand told e s = rw (e, terminal_of) (ap (or_raw state.mode) (some_same s))
sign_there state plains at sorts.Percent told e s = rw (e, terminal_of) (ap (or_raw state.mode) (some_same s))
sign_there state plains at sorts.Equals told e s = rw (e, terminal_of) (ap (or_raw state.mode) (some_same s))
sign_there state plains at sorts.EqualsEquals told e s = rw (e, terminal_of) (ap (or_raw state.mode) (some_same s))
sign_there state plains at sorts.NotEquals told e s = rw (e, terminal_of) (ap (or_raw state.mode) (some_same s))
sign_there state plains at sorts.Less told e s = rw (e, terminal_of) (ap (or_raw state.mode) (some_same s))
sign_there state plains at sorts.LessEquals told e s = rw (e, terminal_of) (ap (or_raw state.mode) (some_same s))
sign_there state plains at sorts.Greater told e s = rw (e, terminal_of) (ap (or_raw state.mode) (some_same s))
sign_there state plains at sorts.GreaterEquals told e s = rw (e, terminal_of) (ap (or_raw state.mode) (some_same s))
sign_there state plains at _ told e s = absurd (cc)

dollar_there : (state : State) (plains : List Plain) (at : ℕ) → sort_at plains at ≡ sorts.Dollar
    → terminal_of state plains at ≡ dollar_terminal state plains at
unfolding terminal_of
dollar_there state plains at e = rw (e, terminal_of) refl

abbrev dollar_by : Bool → Bool → Bool → Bool → Bool → Bool → Terminal
dollar_by raw owned text name rest value =
    if raw then terminals.Raw
    else (if owned then terminals.OwnerDollar
    else (if text then (if name then terminals.Dollar else terminals.Raw)
    else (if rest then terminals.Other
    else (if value then terminals.DollarNamed else terminals.Dollar))))

dollar_named : (raw owned text name rest value : Bool) → dollar_by raw owned text name rest value ≡ terminals.DollarNamed
    → value ≡ true
dollar_named true owned text name rest value e = absurd (cc)
dollar_named false true text name rest value e = absurd (cc)
dollar_named false false true true rest value e = absurd (cc)
dollar_named false false true false rest value e = absurd (cc)
dollar_named false false false name true value e = absurd (cc)
dollar_named false false false name false true e = refl
dollar_named false false false name false false e = absurd (cc)

dollar_unnamed : (raw owned text name rest value : Bool) → text ≡ false
    → dollar_by raw owned text name rest value ≡ terminals.Dollar → value ≡ false
dollar_unnamed true owned text name rest value t e = absurd (cc)
dollar_unnamed false true text name rest value t e = absurd (cc)
dollar_unnamed false false true name rest value t e = absurd (cc)
dollar_unnamed false false false name true value t e = absurd (cc)
dollar_unnamed false false false name false true t e = absurd (cc)
dollar_unnamed false false false name false false t e = refl

module _ (plains : List Plain) (at : ℕ) (plain : Plain) (state : State) (around : Around) (reads : Reads state around) where
  read_text : is_text state.mode ≡ reads_text around.text
  read_text = text_is_read state.mode ∙ ap reads_text reads.text

  text_is : TextIs plains around (lexeme_of plain at state.commented (terminal_of state plains at))
  text_is = record {
    sign = λ told s. sign_there state plains at (sort_at plains at) told refl s
        ∙ ap (λ (text : Bool). if text then terminals.Raw else told) read_text;
    named = λ e t. dollar_named (is_raw state.mode)
        (is state.before terminals.OwnerDot && not (spaced_at plains at)) (is_text state.mode)
        (name_direct plains (at + 1)) (is_behind_rest state) (names_value plains at)
        (sym (dollar_there state plains at e) ∙ t);
    unnamed = λ e r t. dollar_unnamed (is_raw state.mode)
        (is state.before terminals.OwnerDot && not (spaced_at plains at)) (is_text state.mode)
        (name_direct plains (at + 1)) (is_behind_rest state) (names_value plains at) (read_text ∙ r)
        (sym (dollar_there state plains at e) ∙ t);
  }

-- one lexeme after another
module _ (plains : List Plain) where
  abbrev Each : Terminal → Around → List Lexeme → Type 0
  Each = EachWithin (TextIs plains) plains

  abbrev told : (State → List Lexeme) → Reading → List Lexeme
  told more reading = optional reading.lexeme ++ more reading.state

  module _ (at : ℕ) (plain : Plain) (more : State → List Lexeme)
      (rest : (s : State) (around : Around) → Stands s around → Each s.before around (more s)) where
    white : (state : State) (around : Around) → Stands state around
        → Each state.before around (more (past_white state plain.sort))
    unfolding past_white
    white state around stands =
        rest (past_white state plain.sort) around (skipped_stands plain.sort state around stands)

    keeping : (before : Terminal) (state : State) (around : Around) (b : Bool) → state.before ≡ before
        → Stands state around → Reads state (around_first plains before at around)
        → Each before around
        (told more (if b then skipped state plain else kept state at plain (terminal_of state plains at)))
    keeping before state around true e stands reads =
        subst (λ t. Each t around (more (past_white state plain.sort))) e (white state around stands)
    keeping before state around false e stands reads = (
      text_is plains at plain state (around_first plains before at around) reads,
      subst (λ t. Each t (around_behind (around_first plains before at around) (terminal_of state plains at))
          (more (after state (terminal_of state plains at))))
          (after_before state (terminal_of state plains at))
          (rest (after state (terminal_of state plains at))
          (around_behind (around_first plains before at around) (terminal_of state plains at))
          (stands_behind state (around_first plains before at around) (terminal_of state plains at) reads)),
    )

    placing : (state : State) (around : Around) (b : Bool) → Stands state around
        → Each state.before around
        (told more (if b then skipped state plain else read_placed (placed state plains at) plains at plain))
    placing state around true stands = white state around stands
    placing state around false stands =
        keeping state.before (placed state plains at) around (is_white (placed state plains at) plains at)
        (is_placed plains at state stands.known).before (white_stands plains at state around stands)
        (at_first plains at state around stands)

    turn : (state : State) (around : Around) → Stands state around
        → Each state.before around (told more (read state plains at plain))
    unfolding read
    turn state around stands = placing state around (nat_lt 0 state.ignored) stands

  each : (state : State) (around : Around) (at : ℕ) (rest : List Plain) → Stands state around
      → Each state.before around (lexemes_from plains state at rest)
  each state around at [] stands = tt
  each state around at (plain ∷ rest) stands =
      turn at plain (λ s. lexemes_from plains s (at + 1) rest) (λ s more k. each s more (at + 1) rest k) state around stands

pub text_is_by_what_is_around : (bytes : List ℕ) (tokens : List Token) → TextIsByWhatIsAround bytes tokens
unfolding lexemes_of
text_is_by_what_is_around bytes tokens =
    each (plains_of bytes tokens) beginning (record { levels = []; text = Some false }) 0 (plains_of bytes tokens) (record {
      known = record { start = refl; from_word = λ e. absurd (cc); in_word = λ e. absurd (cc) };
      frames = none;
      text = λ s. absurd (cc);
    })
