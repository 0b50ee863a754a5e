-- The first token of a statement that is told, what a token changes, and the keywords of flow.
use Rattle.std.proofs.Common.{◌≡◌, ℕ, ◌+◌, Bool, true, false, not, if◌then◌else◌, List, [], ◌∷◌, refl, ◌∙◌, ap, subst}
use Rattle.sw_text_scan.proofs.Bounds.{if_true, if_false}
use Rattle.sw_parse_terminals.specs.declared.terminal.Terminal.{Terminal}
use Rattle.sw_parse_terminals.specs.declared.terminal.Terminal.TheVariants as terminals
use Rattle.sw_parse_lexemes.specs.declared.sort.Sort.TheVariants as sorts
use Rattle.sw_parse_lexemes.specs.declared.plain.Plain.{Plain}
use Rattle.sw_parse_lexemes.specs.declared.state.Mode.{Mode}
use Rattle.sw_parse_lexemes.specs.declared.state.Mode.TheVariants as modes
use Rattle.sw_parse_lexemes.specs.declared.state.Frame.{Frame}
use Rattle.sw_parse_lexemes.specs.declared.state.State.{State}
use Rattle.sw_parse_lexemes.specs.Classes.{same, is_comment}
use Rattle.sw_parse_lexemes.specs.Ahead.{sort_at, spaced_at, is_direct, next_sort}
use Rattle.sw_parse_lexemes.specs.Modes.{statement_mode}
use Rattle.sw_parse_lexemes.specs.Names.{is}
use Rattle.sw_parse_lexemes.specs.Signs.{ends_operand}
use Rattle.sw_parse_lexemes.specs.Terminals.{goes_on, terminal_of}
use Rattle.sw_parse_lexemes.specs.Steps.{begins_statement, passes, further_mode, stepped, after}
use Rattle.sw_convert_passing.specs.Written.{Written, Among, IsThere}
use Rattle.sw_convert_passing.specs.Places.{may_precede}
use Rattle.sw_convert_passing.specs.Heads.{Starts, HeadTold}
use Rattle.sw_convert_passing.proofs.Facts.{no_and, and_no}
use Rattle.sw_convert_passing.proofs.Steps.{Reads, start_step}
use Rattle.sw_convert_passing.proofs.Heads.{placed_as, placed_is, head_told}
use Rattle.sw_convert_heads_passing.proofs.Parts.{turned}
use Rattle.sw_convert_heads_passing.proofs.Loads.{Behind, Quiet}
use Rattle.sw_convert_heads_passing.proofs.Moves.{Passes}

-- the first token of a statement
pub first_moved : {mode : Mode} {frames : List Frame} (plains : List Plain) (state : State) (at : ℕ) (one : Written)
    (terminal : Terminal) → Starts frames state → IsThere plains at one → is_comment one.sort ≡ false
    → statement_mode plains at ≡ mode → terminal_of (placed_as state plains at mode) plains at ≡ terminal
    → Among terminal one.may_be → Passes terminal → further_mode mode terminal ≡ mode → begins_statement terminal ≡ false
    → Behind plains mode frames state at (one ∷ []) terminal (at + 1)
first_moved {mode} {frames} plains state at one terminal starts there code m told among passes steady b =
    let s0 = placed_as state plains at mode in
    let e = placed_is state plains at mode starts.start m in
    let n = turned {mode = mode} {frames = frames} s0 terminal false
    (passes s0 ∙ ap (λ (x : Mode). stepped s0 x false terminal) steady) starts.frames_are b in record {
      end = after s0 terminal;
      reads = subst (λ (s : State). Reads plains state at (one ∷ []) (after s terminal) (at + 1)) e
          (start_step plains state at one terminal starts.start starts.no_comment there code
          (ap (λ (s : State). terminal_of s plains at) e ∙ told) among);
      within = n.within;
      before_is = n.before;
      word = n.word;
    }

-- a head behind which a value may begin
pub headed : {plains : List Plain} {mode : Mode} {frames : List Frame} {state : State} {at to : ℕ}
    {tokens : List Written} {before : Terminal} → Behind plains mode frames state at tokens before to
    → may_precede before ≡ true → ends_operand before ≡ false → is before terminals.Comma ≡ false
    → HeadTold plains mode frames state at tokens to
headed {before = before} b m o c = head_told b.end before b.reads b.within b.before_is b.word m o c

pub dollar_passes : Passes terminals.Dollar
unfolding after
dollar_passes state = refl

pub dollar_named_passes : Passes terminals.DollarNamed
unfolding after
dollar_named_passes state = refl

pub variable_passes : Passes terminals.VariableName
unfolding after
variable_passes state = refl

pub comma_passes : Passes terminals.Comma
unfolding after
comma_passes state = refl

pub colon_passes : Passes terminals.Colon
unfolding after
colon_passes state = refl

pub in_passes : Passes terminals.In
unfolding after
in_passes state = refl

pub from_passes : Passes terminals.From
unfolding after
from_passes state = refl

pub if_passes : Passes terminals.If
unfolding after
if_passes state = refl

pub each_passes : Passes terminals.AtEach
unfolding after
each_passes state = refl

pub for_passes : Passes terminals.AtFor
unfolding after
for_passes state = refl

pub else_if_passes : Passes terminals.AtElseIf
unfolding after
else_if_passes state = refl

pub else_passes : Passes terminals.AtElse
unfolding after
else_passes state = refl

pub charset_passes : Passes terminals.AtCharset
unfolding after
charset_passes state = refl

pub plain_passes : Passes terminals.Plain
unfolding after
plain_passes state = refl

pub owner_passes : Passes terminals.Owner
unfolding after
owner_passes state = refl

pub dot_passes : Passes terminals.OwnerDot
unfolding after
dot_passes state = refl

pub owner_dollar_passes : Passes terminals.OwnerDollar
unfolding after
owner_dollar_passes state = refl

pub quiet_each : Quiet terminals.AtEach
quiet_each = record { dollar = refl; hash = refl; bang = refl; owned = refl; special = refl }

pub quiet_for : Quiet terminals.AtFor
quiet_for = record { dollar = refl; hash = refl; bang = refl; owned = refl; special = refl }

pub quiet_comma : Quiet terminals.Comma
quiet_comma = record { dollar = refl; hash = refl; bang = refl; owned = refl; special = refl }

pub quiet_variable : Quiet terminals.VariableName
quiet_variable = record { dollar = refl; hash = refl; bang = refl; owned = refl; special = refl }

pub quiet_else : Quiet terminals.AtElseIf
quiet_else = record { dollar = refl; hash = refl; bang = refl; owned = refl; special = refl }

-- ---- keywords

module _ (plains : List Plain) (at : ℕ) (no_insert : is_direct plains (at + 1) sorts.OpenInsert ≡ false) where
  pub each_mode : sort_at plains at ≡ sorts.AtEach → statement_mode plains at ≡ modes.Each
  unfolding statement_mode
  each_mode e = rw (e, statement_mode)
      (if_false (is_direct plains (at + 1) sorts.OpenInsert) modes.Raw modes.Each no_insert)

  pub each_here : (state : State) → state.start ≡ true → sort_at plains at ≡ sorts.AtEach
      → terminal_of state plains at ≡ terminals.AtEach
  unfolding terminal_of
  each_here state b e = rw (e, terminal_of) (if_true state.start _ _ b
      ∙ if_false (goes_on plains at) terminals.AtOther terminals.AtEach (and_no _ _ no_insert))

  pub for_mode : sort_at plains at ≡ sorts.AtFor → statement_mode plains at ≡ modes.For
  unfolding statement_mode
  for_mode e = rw (e, statement_mode)
      (if_false (is_direct plains (at + 1) sorts.OpenInsert) modes.Raw modes.For no_insert)

  pub for_here : (state : State) → state.start ≡ true → sort_at plains at ≡ sorts.AtFor
      → terminal_of state plains at ≡ terminals.AtFor
  unfolding terminal_of
  for_here state b e = rw (e, terminal_of) (if_true state.start _ _ b
      ∙ if_false (goes_on plains at) terminals.AtOther terminals.AtFor (and_no _ _ no_insert))

  pub charset_mode : sort_at plains at ≡ sorts.AtCharset → statement_mode plains at ≡ modes.Expression
  unfolding statement_mode
  charset_mode e = rw (e, statement_mode)
      (if_false (is_direct plains (at + 1) sorts.OpenInsert) modes.Raw modes.Expression no_insert)

  pub charset_here : (state : State) → state.start ≡ true → sort_at plains at ≡ sorts.AtCharset
      → terminal_of state plains at ≡ terminals.AtCharset
  unfolding terminal_of
  charset_here state b e = rw (e, terminal_of) (if_true state.start _ _ b
      ∙ if_false (goes_on plains at) terminals.AtOther terminals.AtCharset (and_no _ _ no_insert))

  pub else_mode : sort_at plains at ≡ sorts.AtElse → statement_mode plains at ≡ modes.Else
  unfolding statement_mode
  else_mode e = rw (e, statement_mode)
      (if_false (is_direct plains (at + 1) sorts.OpenInsert) modes.Raw modes.Else no_insert)

  pub else_here : (state : State) → state.start ≡ true → (b : Bool) → same (next_sort plains at) sorts.If ≡ b
      → sort_at plains at ≡ sorts.AtElse
      → terminal_of state plains at ≡ (if b then terminals.AtElseIf else terminals.AtElse)
  unfolding terminal_of
  else_here state b next_is f e = rw (e, terminal_of) (if_true state.start _ _ b
      ∙ if_false (goes_on plains at) terminals.AtOther _ (and_no _ _ no_insert)
      ∙ ap (λ (x : Bool). if x then terminals.AtElseIf else terminals.AtElse) f)

pub apart_no_insert : (plains : List Plain) (at : ℕ) → spaced_at plains at ≡ true
    → is_direct plains at sorts.OpenInsert ≡ false
apart_no_insert plains at s = no_and _ _ (ap not s)
