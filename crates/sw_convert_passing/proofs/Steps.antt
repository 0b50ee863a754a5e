-- One token after another, and the state behind each.
use Rattle.std.proofs.Common.{◌≡◌, ℕ, ◌+◌, ◌-◌, ◌<◌, Bool, true, false, ◌&&◌, List, [], ◌∷◌, ◌++◌, length, take, Option, Some, inl, inr, slice_get, refl, sym, ◌∙◌, ap, subst, arith, length-append}
use Rattle.std.proofs.Math.Seq.{take-append_seam}
use Rattle.std.proofs.lemmas.Option.{slice_get_cases}
use Rattle.sw_parse_terminals.specs.declared.terminal.Terminal.{Terminal}
use Rattle.sw_parse_terminals.specs.declared.terminal.Terminal.TheVariants as terminals
use Rattle.sw_parse_terminals.specs.declared.lexeme.Lexeme.{Lexeme}
use Rattle.sw_parse_lexemes.specs.declared.sort.Sort.{Sort}
use Rattle.sw_parse_lexemes.specs.declared.sort.Sort.TheVariants as sorts
use Rattle.sw_parse_lexemes.specs.declared.plain.Plain.{Plain}
use Rattle.sw_parse_lexemes.specs.declared.state.Mode.{Mode}
use Rattle.sw_parse_lexemes.specs.declared.state.Bracket.{Bracket}
use Rattle.sw_parse_lexemes.specs.declared.state.Bracket.TheVariants as brackets
use Rattle.sw_parse_lexemes.specs.declared.state.Frame.{Frame}
use Rattle.sw_parse_lexemes.specs.declared.state.State.{State}
use Rattle.sw_parse_lexemes.specs.Classes.{is_comment}
use Rattle.sw_parse_lexemes.specs.Ahead.{sort_in, sort_at}
use Rattle.sw_parse_lexemes.specs.Brackets.{innermost}
use Rattle.sw_parse_lexemes.specs.Names.{is}
use Rattle.sw_parse_lexemes.specs.Terminals.{terminal_of}
use Rattle.sw_parse_lexemes.specs.Steps.{opened_by, inner_mode, is_inserting, begins_statement, in_word, from_word, mode_of, stepped, opened, popped, inserted, after_opening, passes, stays, placed, after, past_white}
use Rattle.sw_parse_lexemes.specs.Lexemes.{lexeme_of}
use Rattle.sw_parse_lexemes.proofs.Passing.{passing_after}
use Rattle.sw_parse_lexemes.proofs.Below.{below_end}
use Rattle.sw_convert_passing.specs.Written.{Written, IsThere, Among, Passed, nothing, token, begins, comment, Within}
use Rattle.sw_convert_passing.specs.Values.{seam}

-- tokens are read as some lexemes
abbrev pub Reads : List Plain → State → ℕ → List Written → State → ℕ → Type 0
Reads plains state at tokens end to = (lexemes : List Lexeme) × Passed plains state at tokens lexemes end to

append : (plains : List Plain) {others : List Written} {more : List Lexeme} {end : State} {to : ℕ}
    {state middle : State} {at place : ℕ}
    {tokens : List Written} {lexemes : List Lexeme} → Passed plains state at tokens lexemes middle place
    → Passed plains middle place others more end to → Passed plains state at (tokens ++ others) (lexemes ++ more) end to
append plains nothing q = q
append plains (token plain one i c s g m p) q = token plain one i c s g m (append plains p q)
append plains (begins plain one i c s g m p) q = begins plain one i c s g m (append plains p q)
append plains (comment plain one n i c s g p) q = comment plain one n i c s g (append plains p q)

pub join : {plains : List Plain} {state middle end : State} {at place to : ℕ} {tokens others : List Written}
    → Reads plains state at tokens middle place → Reads plains middle place others end to
    → Reads plains state at (tokens ++ others) end to
join {plains} (lexemes, p) (more, q) = (lexemes ++ more, append plains p q)

pub stay : {plains : List Plain} {state : State} {at : ℕ} → Reads plains state at [] state at
stay = ([], nothing)

pub stay_at : {plains : List Plain} {state : State} {at to : ℕ} → at ≡ to → Reads plains state at [] state to
stay_at {plains} {state} {at} {to} e = subst (λ (k : ℕ). Reads plains state at [] state k) e ([], nothing)

pub plain_at : (plains : List Plain) (at : ℕ) → at < length plains → (plain : Plain) × (slice_get plains at ≡ Some plain)
plain_at plains at l = elim (slice_get_cases plains at).1 [
  | inr (m, x) ↦ absurd (omega (arith, l, m))
  | inl (x, m, is_x, same_x) ↦ (x, is_x)
]

sort_is : (plains : List Plain) (at : ℕ) (plain : Plain) → slice_get plains at ≡ Some plain
    → sort_at plains at ≡ plain.sort
unfolding sort_at
sort_is plains at plain e = ap sort_in e

-- a token that is a terminal where it stands
pub step : {mode : Mode} {frames : List Frame} (plains : List Plain) (state : State) (at : ℕ) (one : Written)
    (terminal : Terminal) → Within mode frames state → IsThere plains at one → is_comment one.sort ≡ false
    → terminal_of state plains at ≡ terminal → Among terminal one.may_be
    → Reads plains state at (one ∷ []) (after state terminal) (at + 1)
step plains state at one terminal within there code told among =
    let (plain, is_plain) = plain_at plains at there.within in
    subst (λ (t : Terminal). Reads plains state at (one ∷ []) (after state t) (at + 1)) told (
      lexeme_of plain at state.commented (terminal_of state plains at) ∷ [],
      token plain one is_plain (ap is_comment there.sort ∙ code) within.no_start within.no_comment
          (subst (λ (t : Terminal). Among t one.may_be) (sym told) among) nothing,
    )

-- the same of the first token of a statement
pub start_step : (plains : List Plain) (state : State) (at : ℕ) (one : Written) (terminal : Terminal)
    → state.start ≡ true
    → state.ignored ≡ 0 → IsThere plains at one → is_comment one.sort ≡ false
    → terminal_of (placed state plains at) plains at ≡ terminal → Among terminal one.may_be
    → Reads plains state at (one ∷ []) (after (placed state plains at) terminal) (at + 1)
start_step plains state at one terminal start ignored there code told among =
    let (plain, is_plain) = plain_at plains at there.within in
    subst (λ (t : Terminal). Reads plains state at (one ∷ []) (after (placed state plains at) t) (at + 1)) told (
      lexeme_of plain at (placed state plains at).commented (terminal_of (placed state plains at) plains at) ∷ [],
      begins plain one is_plain (ap is_comment there.sort ∙ code) start ignored
          (subst (λ (t : Terminal). Among t one.may_be) (sym told) among) nothing,
    )

-- an empty comment
pub seam_step : {mode : Mode} {frames : List Frame} (plains : List Plain) (state : State) (at : ℕ)
    → Within mode frames state
    → IsThere plains at seam → Reads plains state at (seam ∷ []) (past_white state sorts.Comment) (at + 1)
seam_step plains state at within there =
    let (plain, is_plain) = plain_at plains at there.within in
    subst (λ (s : Sort). Reads plains state at (seam ∷ []) (past_white state s) (at + 1))
    (sym (sort_is plains at plain is_plain) ∙ there.sort)
    ([], comment plain seam refl is_plain there.sort within.no_start within.no_comment nothing)

pub record Seamed (mode : Mode) (frames : List Frame) (state : State) : Type 0 where
  pub before : (past_white state sorts.Comment).before ≡ state.before
  pub word : (past_white state sorts.Comment).word ≡ state.word
  pub rest : (past_white state sorts.Comment).before_that ≡ state.before_that
  pub within : Within mode frames (past_white state sorts.Comment)

pub seam_next : {mode : Mode} {frames : List Frame} (state : State) → Within mode frames state
    → Seamed mode frames state
unfolding past_white
seam_next state within = record {
  before = refl;
  word = refl;
  rest = refl;
  within = record {
    mode_is = within.mode_is;
    frames_are = within.frames_are;
    no_start = within.no_start;
    no_comment = within.no_comment;
  };
}

-- the state behind a terminal
pub record Next (mode : Mode) (frames : List Frame) (state : State) (terminal : Terminal) (goes_on : Bool) : Type 0
  where
    pub before : (after state terminal).before ≡ terminal
    pub word : (after state terminal).word ≡ goes_on
    pub within : Within mode frames (after state terminal)

-- one that opens and closes nothing
pub next_from : {mode : Mode} {frames : List Frame} (state : State) → state.mode ≡ mode → state.frames ≡ frames
    → stays mode ≡ true → (terminal : Terminal) → passes terminal ≡ true → begins_statement terminal ≡ false
    → Next mode frames state terminal (in_word terminal)
next_from {mode} {frames} state mode_is frames_are steady terminal p b =
    let e = passing_after state terminal p (ap stays mode_is ∙ steady) in record {
      before = ap (λ (s : State). s.before) e;
      word = ap (λ (s : State). s.word) e;
      within = subst (Within mode frames) (sym e)
          (record { mode_is = mode_is; frames_are = frames_are; no_start = b; no_comment = refl });
    }

pub next : {mode : Mode} {frames : List Frame} (state : State) → Within mode frames state → stays mode ≡ true
    → (terminal : Terminal) → passes terminal ≡ true → begins_statement terminal ≡ false
    → Next mode frames state terminal (in_word terminal)
next state within steady terminal p b = next_from state within.mode_is within.frames_are steady terminal p b

-- what a bracket opens
abbrev pub framed : Bracket → Terminal → Mode → Frame
framed kind terminal mode = record { bracket = kind; opened = terminal; mode = mode }

opening_is : (state : State) (terminal : Terminal) (kind : Bracket) → opened_by terminal ≡ Some kind
    → after state terminal ≡ stepped (opened state kind terminal) (inner_mode state.mode terminal) false terminal
unfolding after
opening_is state terminal kind o = ap (after_opening state terminal) o

pub opens : {mode : Mode} {frames : List Frame} (state : State) → Within mode frames state → (terminal : Terminal)
    (kind : Bracket) (inner : Mode) → opened_by terminal ≡ Some kind → begins_statement terminal ≡ false
    → inner_mode mode terminal ≡ inner
    → Next inner (frames ++ framed kind terminal mode ∷ []) state terminal false
opens {mode} {frames} state within terminal kind inner o b m =
    let e = opening_is state terminal kind o in record {
      before = ap (λ (s : State). s.before) e;
      word = ap (λ (s : State). s.word) e;
      within = subst (Within inner (frames ++ framed kind terminal mode ∷ [])) (sym e) (record {
        mode_is = ap (λ (n : Mode). inner_mode n terminal) within.mode_is ∙ m;
        frames_are = ap (λ (n : Mode). state.frames ++ framed kind terminal n ∷ []) within.mode_is
            ∙ ap (λ (x : List Frame). x ++ framed kind terminal mode ∷ []) within.frames_are;
        no_start = b;
        no_comment = refl;
      });
    }

last_is : (frames : List Frame) (frame : Frame) → slice_get (frames ++ frame ∷ []) (length frames) ≡ Some frame
last_is [] frame = refl
last_is (x ∷ xs) frame = last_is xs frame

less : (frames : List Frame) (frame : Frame) → length (frames ++ frame ∷ []) - 1 ≡ length frames
less frames frame = omega (arith, length-append frames (frame ∷ []))

pub innermost_is : (frames : List Frame) (frame : Frame) → innermost (frames ++ frame ∷ []) ≡ Some frame
innermost_is frames frame =
    ap (slice_get (frames ++ frame ∷ [])) (less frames frame) ∙ last_is frames frame

pub outer_are : (frames : List Frame) (frame : Frame)
    → take (length (frames ++ frame ∷ []) - 1) (frames ++ frame ∷ []) ≡ frames
outer_are frames frame =
    ap (λ (n : ℕ). take n (frames ++ frame ∷ [])) (less frames frame) ∙ take-append_seam frames (frame ∷ [])

-- the terminals that close brackets, and those that close templates
abbrev pub is_closing : Terminal → Bool
is_closing terminals.RawParenEnd = true
is_closing terminals.RawBracketEnd = true
is_closing terminals.RawBraceEnd = true
is_closing terminals.ParenEnd = true
is_closing terminals.BracketEnd = true
is_closing terminals.TemplateEnd = true
is_closing terminals.UrlEnd = true
is_closing _ = false

-- the state where the innermost frame is closed
record Popped (mode : Mode) (frames : List Frame) (end : State) (terminal : Terminal) (goes_on : Bool) : Type 0 where
  before : end.before ≡ terminal
  word : end.word ≡ goes_on
  within : Within mode frames end

pops : {inner : Mode} {frames : List Frame} (frame : Frame) (state : State) → Within inner (frames ++ frame ∷ []) state
    → (terminal : Terminal) (word : Bool) → begins_statement terminal ≡ false
    → (is terminal terminals.InsertEnd && from_word (Some frame)) ≡ word
    → Popped frame.mode frames (popped state terminal) terminal word
pops {inner} {frames} frame state within terminal word b w =
    let here : innermost state.frames ≡ Some frame = ap innermost within.frames_are
    ∙ innermost_is frames frame in record {
      before = refl;
      word = ap (λ (x : Option Frame). is terminal terminals.InsertEnd && from_word x) here ∙ w;
      within = record {
        mode_is = ap (λ (x : Option Frame). mode_of x state.mode) here;
        frames_are = ap (λ (x : List Frame). take (length x - 1) x) within.frames_are ∙ outer_are frames frame;
        no_start = b;
        no_comment = refl;
      };
    }

closing_is : (state : State) (terminal : Terminal) → is_closing terminal ≡ true
    → (after state terminal ≡ popped state terminal) × (begins_statement terminal ≡ false)
    × (is terminal terminals.InsertEnd ≡ false)
unfolding after
closing_is state terminals.RawParenEnd c = (refl, refl, refl)
closing_is state terminals.RawBracketEnd c = (refl, refl, refl)
closing_is state terminals.RawBraceEnd c = (refl, refl, refl)
closing_is state terminals.ParenEnd c = (refl, refl, refl)
closing_is state terminals.BracketEnd c = (refl, refl, refl)
closing_is state terminals.TemplateEnd c = (refl, refl, refl)
closing_is state terminals.UrlEnd c = (refl, refl, refl)
closing_is state _ c = absurd (cc)

pub closes : {inner : Mode} {frames : List Frame} (frame : Frame) (state : State)
    → Within inner (frames ++ frame ∷ []) state
    → (terminal : Terminal) → is_closing terminal ≡ true → Next frame.mode frames state terminal false
closes {inner} {frames} frame state within terminal c =
    let (e, b, i) = closing_is state terminal c in
    let p = pops frame state within terminal false b (ap (λ (x : Bool). x && from_word (Some frame)) i) in record {
      before = ap (λ (s : State). s.before) e ∙ p.before;
      word = ap (λ (s : State). s.word) e ∙ p.word;
      within = subst (Within frame.mode frames) (sym e) p.within;
    }

insert_end_is : (state : State) → after state terminals.InsertEnd ≡ popped (inserted state) terminals.InsertEnd
unfolding after
insert_end_is state = refl

pub closes_insert : {inner : Mode} {frames : List Frame} (opened_as : Terminal) (mode : Mode) (state : State)
    → Within inner (frames ++ framed brackets.Insert opened_as mode ∷ []) state → (word : Bool)
    → from_word (Some (framed brackets.Insert opened_as mode)) ≡ word → Next mode frames state terminals.InsertEnd word
closes_insert {inner} {frames} opened_as mode state within word w =
    let frame = framed brackets.Insert opened_as mode in
    let here : is_inserting (innermost state.frames) ≡ true =
    ap (λ (x : List Frame). is_inserting (innermost x)) within.frames_are
    ∙ ap is_inserting (innermost_is frames frame) in
    let same : Within inner (frames ++ frame ∷ []) (inserted state) = record {
      mode_is = within.mode_is;
      frames_are = below_end state.frames here ∙ within.frames_are;
      no_start = within.no_start;
      no_comment = within.no_comment;
    } in
    let e = insert_end_is state in
    let p = pops frame (inserted state) same terminals.InsertEnd word refl w in record {
      before = ap (λ (s : State). s.before) e ∙ p.before;
      word = ap (λ (s : State). s.word) e ∙ p.word;
      within = subst (Within mode frames) (sym e) p.within;
    }
