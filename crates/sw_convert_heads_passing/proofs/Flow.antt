-- The heads of `@each`, `@for`, `@else if` and of assignments to variables of modules are told.
use Rattle.std.proofs.Common.{◌≡◌, ℕ, ◌+◌, Bool, true, false, not, ◌&&◌, List, [], ◌∷◌, ◌++◌, refl, ◌∙◌, ap, arith}
use Rattle.sw_text_scan.proofs.Bounds.{if_true, if_false}
use Rattle.sw_parse_terminals.specs.declared.terminal.Terminal.{Terminal}
use Rattle.sw_parse_terminals.specs.declared.terminal.Terminal.TheVariants as terminals
use Rattle.sw_parse_lexemes.specs.declared.sort.Sort.{Sort}
use Rattle.sw_parse_lexemes.specs.declared.sort.Sort.TheVariants as sorts
use Rattle.sw_parse_lexemes.specs.declared.plain.Plain.{Plain}
use Rattle.sw_parse_lexemes.specs.declared.state.Mode.{Mode}
use Rattle.sw_parse_lexemes.specs.declared.state.Mode.TheVariants as modes
use Rattle.sw_parse_lexemes.specs.declared.state.Frame.{Frame}
use Rattle.sw_parse_lexemes.specs.declared.state.State.{State}
use Rattle.sw_parse_lexemes.specs.Classes.{same, is_name}
use Rattle.sw_parse_lexemes.specs.Ahead.{sort_at, spaced_at, is_direct}
use Rattle.sw_parse_lexemes.specs.Modes.{statement_mode}
use Rattle.sw_parse_lexemes.specs.Names.{is, is_raw, is_bang, is_apart, continues, behind_dollar, behind_bang, is_in, is_from}
use Rattle.sw_parse_lexemes.specs.Signs.{is_text}
use Rattle.sw_parse_lexemes.specs.Terminals.{terminal_of}
use Rattle.sw_parse_lexemes.proofs.NameLaws.{name_there}
use Rattle.sw_parse_lexemes.specs.Steps.{past_white}
use Rattle.sw_convert_passing.specs.Written.{Written, written, direct, apart, IsThere, Stand}
use Rattle.sw_convert_passing.specs.Values.{dollar}
use Rattle.sw_convert_passing.specs.Heads.{Starts, HeadTold}
use Rattle.sw_convert_passing.proofs.Facts.{no_and, and_no, both, name_code}
use Rattle.sw_convert_passing.proofs.Walks.{next_code}
use Rattle.sw_convert_passing.proofs.BySort.{by_dollar, by_dot, lone_here}
use Rattle.sw_convert_passing.proofs.Tokens.{variable_name_here}
use Rattle.sw_convert_passing.proofs.Entries.{split, one_of}
use Rattle.sw_convert_passing.proofs.Leaves.{never}
use Rattle.sw_convert_passing.proofs.Heads.{begun, placed_as}
use Rattle.sw_convert_heads_passing.specs.Properties.{colon, is_dashed}
use Rattle.sw_convert_heads_passing.specs.Flow.{Names, parted, FlowHead, each_head, for_head, else_if_head, assigned_head, FlowHeadsAreTold}
use Rattle.sw_convert_heads_passing.proofs.Properties.{moded}
use Rattle.sw_convert_heads_passing.proofs.Loads.{Place, Behind, place_of, and_then, same_behind}
use Rattle.sw_convert_passing.proofs.Steps.{seam_step, seam_next}
use Rattle.sw_convert_heads_passing.proofs.Moves.{moved, named_here}
use Rattle.sw_convert_heads_passing.proofs.Firsts.{apart_no_insert, colon_passes, dot_passes, each_here, each_mode, each_passes, else_here, else_if_passes, else_mode, first_moved, for_here, for_mode, for_passes, from_passes, headed, if_passes, in_passes, owner_dollar_passes, owner_passes, quiet_each, quiet_else, quiet_for, quiet_variable, variable_passes}
use Rattle.sw_convert_heads_passing.proofs.Names.{names_apart, names_told, variable_told}

two : (at : ℕ) → at + 2 ≡ (at + 1) + 1
two at = omega arith

-- ---- assignments

module _ (plains : List Plain) (at : ℕ) (owner : Sort) (named : is_name owner ≡ true) (plain : is_dashed owner ≡ false)
    (e : sort_at plains at ≡ owner) (dot : is_direct plains (at + 1) sorts.Dot ≡ true)
    (no_insert : is_direct plains (at + 1) sorts.OpenInsert ≡ false)
    (dollar_behind : is_direct plains ((at + 1) + 1) sorts.Dollar ≡ true) where
  assigned_mode : statement_mode plains at ≡ modes.Ends
  assigned_mode =
      moded plains at owner modes.Ends e named plain
      (if_true (is_name (sort_at plains at) && is_direct plains (at + 1) sorts.Dot) _ _
      (both _ _ (ap is_name e ∙ named) dot)
      ∙ if_true (is_direct plains (at + 2) sorts.Dollar) modes.Ends modes.Raw
      (ap (λ (k : ℕ). is_direct plains k sorts.Dollar) (two at) ∙ dollar_behind))

  assigned_word : {frames : List Frame} (state : State) → Starts frames state
      → terminal_of (placed_as state plains at modes.Ends) plains at ≡ terminals.Owner
  assigned_word state starts =
      let before = begun state.before starts.before in
      let s0 = placed_as state plains at modes.Ends in
      name_there s0 plains at (ap is_name e ∙ named)
      ∙ if_false (continues s0 plains at) terminals.Part _ (no_and state.word _ starts.word)
      ∙ if_false (not (spaced_at plains at) && behind_dollar state.before) terminals.VariableName _
      (and_no _ _ before.dollar)
      ∙ if_false (not (spaced_at plains at) && is state.before terminals.Hash) terminals.HashName _
      (and_no _ _ before.hash)
      ∙ if_false (is_bang state.before) (behind_bang (sort_at plains at)) _ before.bang
      ∙ if_false (is_apart s0 plains at) terminals.Other _ (no_and _ _ before.owned)
      ∙ if_false (is_direct plains (at + 1) sorts.OpenInsert) terminals.Word _ no_insert
      ∙ if_false (is state.before terminals.OwnerDot) _ _ before.owned
      ∙ if_true (is_direct plains (at + 1) sorts.Dot) terminals.Owner _ dot

assigned_told : {frames : List Frame} {spaced : Bool} (owner name : Sort) → is_name owner ≡ true → is_dashed owner ≡ false
    → is_name name ≡ true → (plains : List Plain) (state : State) (at to : ℕ) → Starts frames state
    → Stand plains at
    (written owner spaced terminals.Owner ∷ direct sorts.Dot terminals.OwnerDot
    ∷ direct sorts.Dollar terminals.OwnerDollar ∷ direct name terminals.VariableName ∷ colon ∷ []) to
    → HeadTold plains modes.Ends frames state at
    (written owner spaced terminals.Owner ∷ direct sorts.Dot terminals.OwnerDot
    ∷ direct sorts.Dollar terminals.OwnerDollar ∷ direct name terminals.VariableName ∷ colon ∷ []) to
assigned_told {frames} {spaced} owner name o d n plains state at to starts (there, (dot, (third, (fourth, (fifth, e))))) =
    let dot_there = both _ _ (ap not dot.spaced) (ap (λ (s : Sort). same s sorts.Dot) dot.sort) in
    let no_insert = and_no (not (spaced_at plains (at + 1))) _ (ap (λ (s : Sort). same s sorts.OpenInsert) dot.sort) in
    let dollar_there = both _ _ (ap not third.spaced) (ap (λ (s : Sort). same s sorts.Dollar) third.sort) in
    let p2 = (at + 1) + 1 in
    let p3 = p2 + 1 in
    let p4 = p3 + 1 in
    let first = first_moved {mode = modes.Ends} {frames = frames} plains state at (written owner spaced terminals.Owner)
    terminals.Owner starts there (name_code owner o)
    (assigned_mode plains at owner o d there.sort dot_there no_insert dollar_there)
    (assigned_word plains at owner o d there.sort dot_there no_insert dollar_there state starts) one_of owner_passes refl
    refl in
    let is_dot = by_dot first.end plains (at + 1) dot.sort
    ∙ if_true (is first.end.before terminals.Owner && not (spaced_at plains (at + 1))) terminals.OwnerDot _
    (both _ _ (ap (λ (t : Terminal). is t terminals.Owner) first.before_is) (ap not dot.spaced)) in
    let b2 = moved plains first.end (at + 1) (place_of first) (direct sorts.Dot terminals.OwnerDot) terminals.OwnerDot dot
    refl is_dot one_of dot_passes refl refl in
    let is_dollar = by_dollar b2.end plains p2 third.sort
    ∙ if_false (is_raw b2.end.mode) terminals.Raw _ (ap is_raw b2.within.mode_is)
    ∙ if_true (is b2.end.before terminals.OwnerDot && not (spaced_at plains p2)) terminals.OwnerDollar _
    (both _ _ (ap (λ (t : Terminal). is t terminals.OwnerDot) b2.before_is) (ap not third.spaced)) in
    let b3 = moved plains b2.end p2 (place_of b2) (direct sorts.Dollar terminals.OwnerDollar) terminals.OwnerDollar third
    refl is_dollar one_of owner_dollar_passes refl refl in
    let is_name_there = variable_name_here refl b3.end b3.within plains p3 (ap is_name fourth.sort ∙ n)
    (never b3.end plains p3 b3.word) (ap behind_dollar b3.before_is) fourth.spaced in
    let b4 = moved plains b3.end p3 (place_of b3) (direct name terminals.VariableName) terminals.VariableName fourth
    (name_code name n) is_name_there one_of variable_passes refl refl in
    let is_colon = lone_here b4.end plains p4 (ap is_text b4.within.mode_is) sorts.Colon refl fifth.sort in
    let b5 = moved plains b4.end p4 (place_of b4) colon terminals.Colon fifth refl is_colon one_of colon_passes refl refl in
    headed
    (and_then first.reads
    (and_then b2.reads (and_then b3.reads (and_then b4.reads (and_then b5.reads (same_behind (place_of b5) e)))))) refl refl
    refl

-- ---- heads before a value

-- a token of a head, with an empty comment before it or without
parted_told : {mode further : Mode} {frames : List Frame} {before behind : Terminal} (plains : List Plain) (one : Written)
    → ((state : State) (at : ℕ) → Place mode frames state before → IsThere plains at one
    → Behind plains further frames state at (one ∷ []) behind (at + 1))
    → (gap : Bool) (state : State) (at to : ℕ) → Place mode frames state before
    → Stand plains at (parted gap (one ∷ [])) to
    → Behind plains further frames state at (parted gap (one ∷ [])) behind to
parted_told plains one told false state at to place (there, e) =
    let b = told state at place there in
    and_then b.reads (same_behind (place_of b) e)
parted_told plains one told true state at to place (seam_there, (there, e)) =
    let s = seam_next state place.within in
    let b = told (past_white state sorts.Comment) (at + 1)
    (record { within = s.within; before_is = s.before ∙ place.before_is; word = s.word ∙ place.word }) there in
    and_then (seam_step plains state at place.within seam_there) (and_then b.reads (same_behind (place_of b) e))

in_told : {frames : List Frame} (plains : List Plain) (state : State) (at : ℕ)
    → Place modes.Each frames state terminals.VariableName → IsThere plains at (apart sorts.In terminals.In)
    → Behind plains modes.Expression frames state at (apart sorts.In terminals.In ∷ []) terminals.In (at + 1)
in_told plains state at place there =
    moved {further = modes.Expression} plains state at place (apart sorts.In terminals.In) terminals.In there refl
    (named_here plains state at place quiet_variable refl (ap is_name there.sort)
    ∙ if_true (is_in (sort_at plains at)) terminals.In terminals.Named (ap is_in there.sort)) one_of in_passes refl refl

from_told : {frames : List Frame} (plains : List Plain) (state : State) (at : ℕ)
    → Place modes.For frames state terminals.VariableName → IsThere plains at (apart sorts.From terminals.From)
    → Behind plains modes.Bounds frames state at (apart sorts.From terminals.From ∷ []) terminals.From (at + 1)
from_told plains state at place there =
    moved {further = modes.Bounds} plains state at place (apart sorts.From terminals.From) terminals.From there refl
    (named_here plains state at place quiet_variable refl (ap is_name there.sort)
    ∙ if_true (is_from (sort_at plains at)) terminals.From terminals.Named (ap is_from there.sort)) one_of from_passes refl
    refl

each_told : {frames : List Frame} {spaced : Bool} {names : List Written} → (gap : Bool) → Names names
    → (plains : List Plain) (state : State) (at to : ℕ) → Starts frames state
    → Stand plains at
    (written sorts.AtEach spaced terminals.AtEach ∷ (names ++ parted gap (apart sorts.In terminals.In ∷ []))) to
    → HeadTold plains modes.Expression frames state at
    (written sorts.AtEach spaced terminals.AtEach ∷ (names ++ parted gap (apart sorts.In terminals.In ∷ []))) to
each_told {frames} {spaced} {names} gap listed plains state at to starts (there, stand) =
    let tail = parted gap (apart sorts.In terminals.In ∷ []) in
    let free = apart_no_insert plains (at + 1) (names_apart listed tail plains (at + 1) to stand) in
    let first = first_moved {mode = modes.Each} {frames = frames} plains state at
    (written sorts.AtEach spaced terminals.AtEach) terminals.AtEach starts there refl (each_mode plains at free there.sort)
    (each_here plains at free (placed_as state plains at modes.Each) starts.start there.sort) one_of each_passes refl
    refl in
    let (place, stands, last) = split plains to names tail (at + 1) stand in
    let b2 = names_told listed quiet_each plains frames first.end (at + 1) place (place_of first) stands in
    let b3 = parted_told plains (apart sorts.In terminals.In) (in_told plains) gap b2.end place to (place_of b2) last in
    headed (and_then first.reads (and_then b2.reads b3)) refl refl refl

for_told : {frames : List Frame} {spaced : Bool} (gap : Bool) (name : Sort) → is_name name ≡ true → (plains : List Plain)
    (state : State) (at to : ℕ)
    → Starts frames state
    → Stand plains at
    (written sorts.AtFor spaced terminals.AtFor ∷ dollar true ∷ direct name terminals.VariableName
    ∷ parted gap (apart sorts.From terminals.From ∷ [])) to
    → HeadTold plains modes.Bounds frames state at
    (written sorts.AtFor spaced terminals.AtFor ∷ dollar true ∷ direct name terminals.VariableName
    ∷ parted gap (apart sorts.From terminals.From ∷ [])) to
for_told {frames} {spaced} gap name n plains state at to starts (there, (second, (third, last))) =
    let free = apart_no_insert plains (at + 1) second.spaced in
    let p3 = ((at + 1) + 1) + 1 in
    let first = first_moved {mode = modes.For} {frames = frames} plains state at
    (written sorts.AtFor spaced terminals.AtFor) terminals.AtFor starts there refl (for_mode plains at free there.sort)
    (for_here plains at free (placed_as state plains at modes.For) starts.start there.sort) one_of for_passes refl refl in
    let b2 = variable_told refl plains first.end (at + 1) p3 (place_of first) quiet_for name n (second, (third, refl)) in
    let b3 = parted_told plains (apart sorts.From terminals.From) (from_told plains) gap b2.end p3 to (place_of b2) last in
    headed (and_then first.reads (and_then b2.reads b3)) refl refl refl

else_if_told : {frames : List Frame} {spaced : Bool} (plains : List Plain) (state : State) (at to : ℕ)
    → Starts frames state
    → Stand plains at (written sorts.AtElse spaced terminals.AtElseIf ∷ apart sorts.If terminals.If ∷ []) to
    → HeadTold plains modes.Expression frames state at
    (written sorts.AtElse spaced terminals.AtElseIf ∷ apart sorts.If terminals.If ∷ []) to
else_if_told {frames} {spaced} plains state at to starts (there, (second, e)) =
    let free = apart_no_insert plains (at + 1) second.spaced in
    let first = first_moved {mode = modes.Else} {frames = frames} plains state at
    (written sorts.AtElse spaced terminals.AtElseIf) terminals.AtElseIf starts there refl
    (else_mode plains at free there.sort)
    (else_here plains at free (placed_as state plains at modes.Else) starts.start true
    (ap (λ (s : Sort). same s sorts.If) (next_code plains at sorts.If refl second.sort)) there.sort) one_of else_if_passes
    refl refl in
    let is_word = named_here plains first.end (at + 1) (place_of first) quiet_else refl (ap is_name second.sort) in
    let b2 = moved {further = modes.Expression} plains first.end (at + 1) (place_of first) (apart sorts.If terminals.If)
    terminals.If second refl is_word one_of if_passes refl refl in
    headed (and_then first.reads (and_then b2.reads (same_behind (place_of b2) e))) refl refl refl

heads_told : {mode : Mode} {tokens : List Written} → FlowHead mode tokens → (plains : List Plain)
    (frames : List Frame)
    (state : State) (at to : ℕ) → Starts frames state → Stand plains at tokens to
    → HeadTold plains mode frames state at tokens to
heads_told (each_head gap listed) plains frames state at to starts stand =
    each_told gap listed plains state at to starts stand
heads_told (for_head gap name n) plains frames state at to starts stand =
    for_told gap name n plains state at to starts stand
heads_told else_if_head plains frames state at to starts stand = else_if_told plains state at to starts stand
heads_told (assigned_head owner name o d n) plains frames state at to starts stand =
    assigned_told owner name o d n plains state at to starts stand

pub flow_heads_are_told : FlowHeadsAreTold
flow_heads_are_told mode tokens head plains frames state at to starts stand blank =
    heads_told head plains frames state at to starts stand
