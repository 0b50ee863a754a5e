-- `@use` and `@forward` are told.
use Rattle.std.proofs.Common.{◌≡◌, ℕ, ◌+◌, Bool, true, false, not, ◌&&◌, if◌then◌else◌, List, [], ◌∷◌, ◌++◌, inl, inr, refl, ◌∙◌, ap}
use Rattle.sw_text_scan.proofs.Bounds.{if_true, if_false}
use Rattle.sw_parse_terminals.specs.declared.terminal.Terminal.{Terminal}
use Rattle.sw_parse_terminals.specs.declared.terminal.Terminal.TheVariants as terminals
use Rattle.sw_parse_lexemes.specs.declared.sort.Sort.{Sort}
use Rattle.sw_parse_lexemes.specs.declared.sort.Sort.TheVariants as sorts
use Rattle.sw_parse_lexemes.specs.declared.plain.Plain.{Plain}
use Rattle.sw_parse_lexemes.specs.declared.state.Mode.{Mode}
use Rattle.sw_parse_lexemes.specs.declared.state.Mode.TheVariants as modes
use Rattle.sw_parse_lexemes.specs.declared.state.Frame.{Frame}
use Rattle.sw_parse_lexemes.specs.declared.state.State.{State}
use Rattle.sw_parse_lexemes.specs.Classes.{same, is_name, is_comment}
use Rattle.sw_parse_lexemes.specs.Ahead.{sort_at, spaced_at, code_from}
use Rattle.sw_parse_lexemes.specs.Names.{is, is_raw, is_bang, is_apart, continues, behind_dollar, behind_bang, word_in_load, name_in}
use Rattle.sw_parse_lexemes.specs.Signs.{is_text, is_behind_rest, is_params, comma_terminal}
use Rattle.sw_parse_lexemes.specs.Terminals.{terminal_of}
use Rattle.sw_parse_lexemes.specs.Steps.{begins_statement, in_word, passes, stays, after, past_white}
use Rattle.sw_parse_lexemes.proofs.NameLaws.{name_there}
use Rattle.sw_convert_passing.specs.Written.{Written, written, direct, apart, Among, IsThere, Stand, Within}
use Rattle.sw_convert_passing.specs.Values.{dollar}
use Rattle.sw_convert_passing.proofs.Facts.{no_and, and_no, both, name_code}
use Rattle.sw_convert_passing.proofs.Steps.{Reads, join, step, stay_at, seam_next, next}
use Rattle.sw_convert_passing.proofs.BySort.{by_dollar, by_star, by_comma}
use Rattle.sw_convert_passing.proofs.Tokens.{variable_name_here}
use Rattle.sw_convert_passing.proofs.Entries.{split, one_of}
use Rattle.sw_convert_passing.proofs.Leaves.{never}
use Rattle.sw_convert_heads_passing.specs.Loads.{UseName, no_name, as_name, as_star, ForwardPrefix, no_prefix, as_prefix, MemberName, named_member, variable_member, MemberNames, one_member, more_members, ForwardFilter, no_filter, shown, hidden}

-- the modes of loads
abbrev pub is_load : Mode → Bool
is_load modes.Use = true
is_load modes.Forward = true
is_load _ = false

record LoadMode (mode : Mode) : Type 0 where
  raw : is_raw mode ≡ false
  text : is_text mode ≡ false
  steady : stays mode ≡ true
  comma : comma_terminal mode ≡ terminals.Comma

load_mode : (mode : Mode) → is_load mode ≡ true → LoadMode mode
load_mode modes.Use l = record { raw = refl; text = refl; steady = refl; comma = refl }
load_mode modes.Forward l = record { raw = refl; text = refl; steady = refl; comma = refl }
load_mode _ l = absurd (cc)

-- tokens are told, and this terminal stands before the next
pub record Behind (plains : List Plain) (mode : Mode) (frames : List Frame) (state : State) (at : ℕ)
    (tokens : List Written) (before : Terminal) (to : ℕ) : Type 0 where
  pub end : State
  pub reads : Reads plains state at tokens end to
  pub within : Within mode frames end
  pub before_is : end.before ≡ before
  pub word : end.word ≡ false

-- behind such a terminal a name is told by nothing before it
pub record Quiet (before : Terminal) : Type 0 where
  pub dollar : behind_dollar before ≡ false
  pub hash : is before terminals.Hash ≡ false
  pub bang : is_bang before ≡ false
  pub owned : is before terminals.OwnerDot ≡ false
  pub special : is before terminals.Special ≡ false

-- where a load goes on
pub record Place (mode : Mode) (frames : List Frame) (state : State) (before : Terminal) : Type 0 where
  pub within : Within mode frames state
  pub before_is : state.before ≡ before
  pub word : state.word ≡ false

pub place_of : {plains : List Plain} {mode : Mode} {frames : List Frame} {state : State} {at to : ℕ}
    {tokens : List Written} {before : Terminal} (b : Behind plains mode frames state at tokens before to)
    → Place mode frames b.end before
place_of b = record { within = b.within; before_is = b.before_is; word = b.word }

-- behind an empty comment too
pub past_seam : {mode : Mode} {frames : List Frame} {state : State} {before : Terminal} → Place mode frames state before
    → Place mode frames (past_white state sorts.Comment) before
past_seam {state = state} place =
    let s = seam_next state place.within in
    record { within = s.within; before_is = s.before ∙ place.before_is; word = s.word ∙ place.word }

-- one token
module _ {mode : Mode} {frames : List Frame} {before : Terminal} (load : is_load mode ≡ true) (plains : List Plain)
    (state : State) (at : ℕ) (place : Place mode frames state before) where
  facts : LoadMode mode
  facts = load_mode mode load

  pub one_told : (one : Written) (terminal : Terminal) → IsThere plains at one → is_comment one.sort ≡ false
      → terminal_of state plains at ≡ terminal → Among terminal one.may_be → passes terminal ≡ true
      → begins_statement terminal ≡ false → in_word terminal ≡ false
      → Behind plains mode frames state at (one ∷ []) terminal (at + 1)
  one_told one terminal there code told among p b w =
      let n = next state place.within facts.steady terminal p b in record {
        end = after state terminal;
        reads = step plains state at one terminal place.within there code told among;
        within = n.within;
        before_is = n.before;
        word = n.word ∙ w;
      }

  -- a name
  name_here : Quiet before → is_name (sort_at plains at) ≡ true
      → terminal_of state plains at ≡ name_in (record state { mode = mode; before = before }) plains at
  name_here quiet n =
      let b = place.before_is in
      name_there state plains at n
      ∙ if_false (continues state plains at) terminals.Part _ (never state plains at place.word)
      ∙ if_false (is_raw state.mode) terminals.Raw _ (ap is_raw place.within.mode_is ∙ facts.raw)
      ∙ if_false (not (spaced_at plains at) && behind_dollar state.before) terminals.VariableName _
      (and_no _ _ (ap behind_dollar b ∙ quiet.dollar))
      ∙ if_false (not (spaced_at plains at) && is state.before terminals.Hash) terminals.HashName _
      (and_no _ _ (ap (λ (t : Terminal). is t terminals.Hash) b ∙ quiet.hash))
      ∙ if_false (is_bang state.before) (behind_bang (sort_at plains at)) _ (ap is_bang b ∙ quiet.bang)
      ∙ if_false (is_apart state plains at) terminals.Other _
      (no_and _ _ (ap (λ (t : Terminal). is t terminals.OwnerDot) b ∙ quiet.owned))
      ∙ ap (λ (m : Mode). name_in (record state { mode = m }) plains at) place.within.mode_is
      ∙ ap (λ (t : Terminal). name_in (record state { mode = mode; before = t }) plains at) b

  pub name_told : Quiet before → (sort : Sort) (spaced : Bool) (terminal : Terminal) → is_name sort ≡ true
      → IsThere plains at (written sort spaced terminal)
      → name_in (record state { mode = mode; before = before }) plains at ≡ terminal → passes terminal ≡ true
      → begins_statement terminal ≡ false → in_word terminal ≡ false
      → Behind plains mode frames state at (written sort spaced terminal ∷ []) terminal (at + 1)
  name_told quiet sort spaced terminal n there told p b w =
      one_told (written sort spaced terminal) terminal there (name_code sort n)
      (name_here quiet (ap is_name there.sort ∙ n) ∙ told) one_of p b w

  -- a sign
  comma_told : IsThere plains at (direct sorts.Comma terminals.Comma)
      → Behind plains mode frames state at (direct sorts.Comma terminals.Comma ∷ []) terminals.Comma (at + 1)
  comma_told there =
      one_told (direct sorts.Comma terminals.Comma) terminals.Comma there refl
      (by_comma state plains at there.sort ∙ ap comma_terminal place.within.mode_is ∙ facts.comma) one_of refl refl refl

quiet_url : Quiet terminals.LoadUrl
quiet_url = record { dollar = refl; hash = refl; bang = refl; owned = refl; special = refl }

quiet_as : Quiet terminals.As
quiet_as = record { dollar = refl; hash = refl; bang = refl; owned = refl; special = refl }

-- what stands behind one part stands behind both
pub and_then : {plains : List Plain} {mode : Mode} {frames : List Frame} {state middle : State} {at place to : ℕ}
    {left right : List Written} {last : Terminal} → Reads plains state at left middle place
    → Behind plains mode frames middle place right last to → Behind plains mode frames state at (left ++ right) last to
and_then r b = record {
  end = b.end;
  reads = join r b.reads;
  within = b.within;
  before_is = b.before_is;
  word = b.word;
}

-- the terminals that may stand before a configuration or a filter
pub data Ended : Terminal → Type 0 where
  url_ended : Ended terminals.LoadUrl
  name_ended : Ended terminals.Named
  star_ended : Ended terminals.Star
  prefix_ended : Ended terminals.PrefixStar
  variable_ended : Ended terminals.VariableName

pub quiet_ended : {before : Terminal} → Ended before → Quiet before
quiet_ended url_ended = record { dollar = refl; hash = refl; bang = refl; owned = refl; special = refl }
quiet_ended name_ended = record { dollar = refl; hash = refl; bang = refl; owned = refl; special = refl }
quiet_ended star_ended = record { dollar = refl; hash = refl; bang = refl; owned = refl; special = refl }
quiet_ended prefix_ended = record { dollar = refl; hash = refl; bang = refl; owned = refl; special = refl }
quiet_ended variable_ended = record { dollar = refl; hash = refl; bang = refl; owned = refl; special = refl }

-- tokens are told, and behind them one of these ends
pub record Ends (plains : List Plain) (mode : Mode) (frames : List Frame) (state : State) (at : ℕ) (tokens : List Written)
    (to : ℕ) : Type 0 where
  pub before : Terminal
  pub ended : Ended before
  pub behind : Behind plains mode frames state at tokens before to

pub same_behind : {plains : List Plain} {mode : Mode} {frames : List Frame} {state : State} {at to : ℕ} {before : Terminal}
    → Place mode frames state before → at ≡ to → Behind plains mode frames state at [] before to
same_behind {plains} {mode} {frames} {state} p e =
    record { end = state; reads = stay_at e; within = p.within; before_is = p.before_is; word = p.word }

-- ---- the namespace and the prefix

module _ (plains : List Plain) (frames : List Frame) (state : State) (at to : ℕ) where
  pub use_name_told : {named : Bool} {tokens : List Written} → UseName named tokens
      → Place modes.Use frames state terminals.LoadUrl → Stand plains at tokens to
      → Ends plains modes.Use frames state at tokens to
  use_name_told no_name place stand = record
      { before = terminals.LoadUrl; ended = url_ended; behind = same_behind place stand }
  use_name_told (as_name name n) place (there, (second, e)) =
      let one = name_told refl plains state at place quiet_url sorts.As true terminals.As refl there
      (ap word_in_load there.sort) refl refl refl in
      let two = name_told refl plains one.end (at + 1) (place_of one) quiet_as name true terminals.Named n second refl
      refl refl refl in record {
        before = terminals.Named;
        ended = name_ended;
        behind = and_then one.reads (and_then two.reads (same_behind (place_of two) e));
      }
  use_name_told as_star place (there, (second, e)) =
      let one = name_told refl plains state at place quiet_url sorts.As true terminals.As refl there
      (ap word_in_load there.sort) refl refl refl in
      let told = by_star one.end plains (at + 1) second.sort
      ∙ if_true (is one.end.before terminals.As) terminals.Star _
      (ap (λ (t : Terminal). is t terminals.As) one.before_is) in
      let two = one_told refl plains one.end (at + 1) (place_of one) (apart sorts.Star terminals.Star) terminals.Star
      second refl told one_of refl refl refl in record {
        before = terminals.Star;
        ended = star_ended;
        behind = and_then one.reads (and_then two.reads (same_behind (place_of two) e));
      }

  pub prefix_told : {tokens : List Written} → ForwardPrefix tokens → Place modes.Forward frames state terminals.LoadUrl
      → Stand plains at tokens to → Ends plains modes.Forward frames state at tokens to
  prefix_told no_prefix place stand = record
      { before = terminals.LoadUrl; ended = url_ended; behind = same_behind place stand }
  prefix_told (as_prefix name n) place (there, (second, (third, e))) =
      let one = name_told refl plains state at place quiet_url sorts.As true terminals.As refl there
      (ap word_in_load there.sort) refl refl refl in
      let two = name_told refl plains one.end (at + 1) (place_of one) quiet_as name true terminals.Prefix n second refl
      refl refl refl in
      let told = by_star two.end plains ((at + 1) + 1) third.sort
      ∙ if_false (is two.end.before terminals.As) terminals.Star _
      (ap (λ (t : Terminal). is t terminals.As) two.before_is)
      ∙ if_true (is two.end.before terminals.Prefix && not (spaced_at plains ((at + 1) + 1))) terminals.PrefixStar _
      (both _ _ (ap (λ (t : Terminal). is t terminals.Prefix) two.before_is) (ap not third.spaced)) in
      let three = one_told refl plains two.end ((at + 1) + 1) (place_of two) (direct sorts.Star terminals.PrefixStar)
      terminals.PrefixStar third refl told one_of refl refl refl in record {
        before = terminals.PrefixStar;
        ended = prefix_ended;
        behind = and_then one.reads (and_then two.reads (and_then three.reads (same_behind (place_of three) e)));
      }

-- ---- members

-- what stands before a member
data Lists : Terminal → Type 0 where
  show_lists : Lists terminals.Show
  hide_lists : Lists terminals.Hide
  comma_lists : Lists terminals.Comma

quiet_lists : {before : Terminal} → Lists before → Quiet before
quiet_lists show_lists = record { dollar = refl; hash = refl; bang = refl; owned = refl; special = refl }
quiet_lists hide_lists = record { dollar = refl; hash = refl; bang = refl; owned = refl; special = refl }
quiet_lists comma_lists = record { dollar = refl; hash = refl; bang = refl; owned = refl; special = refl }

member_named : {before : Terminal} (state : State) (plains : List Plain) (at : ℕ) → Lists before
    → name_in (record state { mode = modes.Forward; before = before }) plains at ≡ terminals.Named
member_named state plains at show_lists = refl
member_named state plains at hide_lists = refl
member_named state plains at comma_lists = refl

-- the name of a variable
module _ {frames : List Frame} {before : Terminal} (plains : List Plain) (state : State) (at to : ℕ)
    (place : Place modes.Forward frames state before) (quiet : Quiet before) where
  dollar_named : (name : Sort) → is_name name ≡ true
      → Stand plains at (dollar true ∷ direct name terminals.VariableName ∷ []) to → (first : Terminal)
      → terminal_of state plains at ≡ first → Among first (dollar true).may_be → passes first ≡ true
      → begins_statement first ≡ false → in_word first ≡ false → behind_dollar first ≡ true
      → Behind plains modes.Forward frames state at (dollar true ∷ direct name terminals.VariableName ∷ [])
      terminals.VariableName to
  dollar_named name n (there, (second, e)) first told among p b w d =
      let one = one_told refl plains state at place (dollar true) first there refl told among p b w in
      let is_two = variable_name_here refl one.end one.within plains (at + 1) (ap is_name second.sort ∙ n)
      (never one.end plains (at + 1) one.word) (ap behind_dollar one.before_is ∙ d) second.spaced in
      let two = one_told refl plains one.end (at + 1) (place_of one) (direct name terminals.VariableName)
      terminals.VariableName second (name_code name n) is_two one_of refl refl refl in
      and_then one.reads (and_then two.reads (same_behind (place_of two) e))

  dollar_told : (name : Sort) → is_name name ≡ true
      → Stand plains at (dollar true ∷ direct name terminals.VariableName ∷ []) to
      → Behind plains modes.Forward frames state at (dollar true ∷ direct name terminals.VariableName ∷ [])
      terminals.VariableName to
  dollar_told name n stand =
      choice (same (sort_at plains (code_from plains (at + 2))) sorts.Colon)
      (by_dollar state plains at stand.0.sort
      ∙ if_false (is_raw state.mode) terminals.Raw _ (ap is_raw place.within.mode_is)
      ∙ if_false (is state.before terminals.OwnerDot && not (spaced_at plains at)) terminals.OwnerDollar _
      (no_and _ _ (ap (λ (t : Terminal). is t terminals.OwnerDot) place.before_is ∙ quiet.owned))
      ∙ if_false (is_text state.mode) _ _ (ap is_text place.within.mode_is)
      ∙ if_false (is_behind_rest state) terminals.Other _ (no_and _ _ (ap is_params place.within.mode_is)))
    where
      choice : (b : Bool) → terminal_of state plains at ≡ (if b then terminals.DollarNamed else terminals.Dollar)
          → Behind plains modes.Forward frames state at (dollar true ∷ direct name terminals.VariableName ∷ [])
          terminals.VariableName to
      choice true t = dollar_named name n stand terminals.DollarNamed t (inr (inl refl)) refl refl refl refl
      choice false t = dollar_named name n stand terminals.Dollar t (inl refl) refl refl refl refl

member_told : {tokens : List Written} → MemberName tokens → {before : Terminal} → Lists before → (plains : List Plain)
    (frames : List Frame) (state : State) (at to : ℕ) → Place modes.Forward frames state before
    → Stand plains at tokens to → Ends plains modes.Forward frames state at tokens to
member_told (named_member name n) lists plains frames state at to place (there, e) =
    let one = name_told refl plains state at place (quiet_lists lists) name true terminals.Named n there
    (member_named state plains at lists) refl refl refl in record {
      before = terminals.Named;
      ended = name_ended;
      behind = and_then one.reads (same_behind (place_of one) e);
    }
member_told (variable_member name n) lists plains frames state at to place stand = record {
  before = terminals.VariableName;
  ended = variable_ended;
  behind = dollar_told plains state at to place (quiet_lists lists) name n stand;
}

members_told : {tokens : List Written} → MemberNames tokens → {before : Terminal} → Lists before
    → (plains : List Plain)
    (frames : List Frame) (state : State) (at to : ℕ) → Place modes.Forward frames state before
    → Stand plains at tokens to → Ends plains modes.Forward frames state at tokens to
members_told (one_member member) lists plains frames state at to place stand =
    member_told member lists plains frames state at to place stand
members_told (more_members {member} {rest} first more) lists plains frames state at to place stand =
    let (middle, stands, (comma, others)) = split plains to member (direct sorts.Comma terminals.Comma ∷ rest) at stand in
    let one = member_told first lists plains frames state at middle place stands in
    let two = comma_told refl plains one.behind.end middle (place_of one.behind) comma in
    let three = members_told more comma_lists plains frames two.end (middle + 1) to (place_of two) others in record {
      before = three.before;
      ended = three.ended;
      behind = and_then one.behind.reads (and_then two.reads three.behind);
    }

-- a word of the head of `@forward` behind what may end there
pub forward_word : {before : Terminal} (state : State) (plains : List Plain) (at : ℕ) → Ended before
    → name_in (record state { mode = modes.Forward; before = before }) plains at ≡ word_in_load (sort_at plains at)
forward_word state plains at url_ended = refl
forward_word state plains at name_ended = refl
forward_word state plains at star_ended = refl
forward_word state plains at prefix_ended = refl
forward_word state plains at variable_ended = refl

pub use_word : {before : Terminal} (state : State) (plains : List Plain) (at : ℕ) → Ended before
    → name_in (record state { mode = modes.Use; before = before }) plains at ≡ word_in_load (sort_at plains at)
use_word state plains at url_ended = refl
use_word state plains at name_ended = refl
use_word state plains at star_ended = refl
use_word state plains at prefix_ended = refl
use_word state plains at variable_ended = refl

pub filter_told : {tokens : List Written} → ForwardFilter tokens → {before : Terminal} → Ended before
    → (plains : List Plain)
    (frames : List Frame) (state : State) (at to : ℕ) → Place modes.Forward frames state before
    → Stand plains at tokens to → Ends plains modes.Forward frames state at tokens to
filter_told no_filter {before} ended plains frames state at to place stand =
    record { before = before; ended = ended; behind = same_behind place stand }
filter_told (shown members) ended plains frames state at to place (there, stand) =
    let one = name_told refl plains state at place (quiet_ended ended) sorts.Show true terminals.Show refl there
    (forward_word state plains at ended ∙ ap word_in_load there.sort) refl refl refl in
    let rest = members_told members show_lists plains frames one.end (at + 1) to (place_of one) stand in
    record { before = rest.before; ended = rest.ended; behind = and_then one.reads rest.behind }
filter_told (hidden members) ended plains frames state at to place (there, stand) =
    let one = name_told refl plains state at place (quiet_ended ended) sorts.Hide true terminals.Hide refl there
    (forward_word state plains at ended ∙ ap word_in_load there.sort) refl refl refl in
    let rest = members_told members hide_lists plains frames one.end (at + 1) to (place_of one) stand in
    record { before = rest.before; ended = rest.ended; behind = and_then one.reads rest.behind }
