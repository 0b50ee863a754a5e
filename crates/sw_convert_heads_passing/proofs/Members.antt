-- The heads of functions, mixins, `@include` and `@content` are told.
use Rattle.std.proofs.Common.{◌≡◌, ℕ, ◌+◌, true, false, not, ◌&&◌, List, ◌∷◌, ◌++◌, refl, sym, ◌∙◌, ap, subst}
use Rattle.sw_text_scan.proofs.Bounds.{if_true, if_false}
use Rattle.sw_parse_terminals.specs.declared.terminal.Terminal.{Terminal}
use Rattle.sw_parse_terminals.specs.declared.terminal.Terminal.TheVariants as terminals
use Rattle.sw_parse_lexemes.specs.declared.sort.Sort.{Sort}
use Rattle.sw_parse_lexemes.specs.declared.sort.Sort.TheVariants as sorts
use Rattle.sw_parse_lexemes.specs.declared.plain.Plain.{Plain}
use Rattle.sw_parse_lexemes.specs.declared.state.Mode.{Mode}
use Rattle.sw_parse_lexemes.specs.declared.state.Mode.TheVariants as modes
use Rattle.sw_parse_lexemes.specs.declared.state.Frame.{Frame}
use Rattle.sw_parse_lexemes.specs.declared.state.State.{State}
use Rattle.sw_parse_lexemes.specs.Classes.{same, is_name}
use Rattle.sw_parse_lexemes.specs.Ahead.{sort_at, spaced_at, is_direct}
use Rattle.sw_parse_lexemes.specs.Modes.{statement_mode}
use Rattle.sw_parse_lexemes.specs.Names.{is, is_raw, is_bang, is_apart, continues, behind_dollar, behind_bang, using_or_named, name_in}
use Rattle.sw_parse_lexemes.specs.Terminals.{goes_on, terminal_of}
use Rattle.sw_parse_lexemes.specs.Steps.{after, past_white}
use Rattle.sw_parse_lexemes.proofs.NameLaws.{name_there}
use Rattle.sw_convert_passing.specs.Written.{Written, written, direct, apart, Stand}
use Rattle.sw_convert_passing.specs.Places.{IsClosed, Told}
use Rattle.sw_convert_passing.specs.Values.{Items}
use Rattle.sw_convert_passing.specs.Heads.{Starts}
use Rattle.sw_convert_passing.proofs.Facts.{no_and, and_no, both, name_code}
use Rattle.sw_convert_passing.proofs.Steps.{join, stay_at, seam_step}
use Rattle.sw_convert_passing.proofs.BySort.{by_dot}
use Rattle.sw_convert_passing.proofs.Entries as entries
use Rattle.sw_convert_passing.proofs.Entries.{split, closed_stops, reads, one_of, led}
use Rattle.sw_convert_passing.proofs.Leaves.{never}
use Rattle.sw_convert_passing.proofs.Heads.{placed_as, first_told}
use Rattle.sw_convert_passing.proofs.Settling.{settle, stand_loose}
use Rattle.sw_convert_passing.proofs.Told.{inner_told}
use Rattle.sw_convert_heads_passing.specs.Members.{Params, params_in, Given, none_given, some_given, MixinName, own_name, owned_name, UsingParams, none_used, some_used, used_apart, MemberHead, function_head, mixin_head, lone_mixin_head, include_head, content_head, settled_head, MembersAreTold}
use Rattle.sw_convert_heads_passing.proofs.Loads.{Behind, Place, past_seam, Quiet, place_of, and_then, same_behind}
use Rattle.sw_convert_heads_passing.proofs.Moves.{told_by, Passes, moved, named_here, paren_here, InParens, parens_told}
use Rattle.sw_convert_heads_passing.proofs.Params.{params_told}

named_passes : Passes terminals.Named
unfolding after
named_passes state = refl

owner_passes : Passes terminals.Owner
unfolding after
owner_passes state = refl

dot_passes : Passes terminals.OwnerDot
unfolding after
dot_passes state = refl

using_passes : Passes terminals.Using
unfolding after
using_passes state = refl

items_in : {inner : List Written} → Items inner → InParens modes.Expression terminals.CallParen inner
items_in inside plains frames state at to within before word stand e =
    inner_told inside plains frames state at to within
    (led terminals.CallParen (record { before = refl; operand = refl; comma = refl }) before word) stand
    (closed_stops plains to sorts.CloseParen refl e)

-- the keyword before white space, or before a `(`
module _ (plains : List Plain) (at : ℕ) (no_insert : is_direct plains (at + 1) sorts.OpenInsert ≡ false) where
  function_mode : sort_at plains at ≡ sorts.AtFunction → statement_mode plains at ≡ modes.Head
  unfolding statement_mode
  function_mode e = rw (e, statement_mode)
      (if_false (is_direct plains (at + 1) sorts.OpenInsert) modes.Raw modes.Head no_insert)

  function_here : (state : State) → state.start ≡ true → sort_at plains at ≡ sorts.AtFunction
      → terminal_of state plains at ≡ terminals.AtFunction
  unfolding terminal_of
  function_here state b e = rw (e, terminal_of) (if_true state.start _ _ b
      ∙ if_false (goes_on plains at) terminals.AtOther terminals.AtFunction (and_no _ _ no_insert))

  mixin_mode : sort_at plains at ≡ sorts.AtMixin → statement_mode plains at ≡ modes.Head
  unfolding statement_mode
  mixin_mode e = rw (e, statement_mode)
      (if_false (is_direct plains (at + 1) sorts.OpenInsert) modes.Raw modes.Head no_insert)

  mixin_here : (state : State) → state.start ≡ true → sort_at plains at ≡ sorts.AtMixin
      → terminal_of state plains at ≡ terminals.AtMixin
  unfolding terminal_of
  mixin_here state b e = rw (e, terminal_of) (if_true state.start _ _ b
      ∙ if_false (goes_on plains at) terminals.AtOther terminals.AtMixin (and_no _ _ no_insert))

  include_mode : sort_at plains at ≡ sorts.AtInclude → statement_mode plains at ≡ modes.Include
  unfolding statement_mode
  include_mode e = rw (e, statement_mode)
      (if_false (is_direct plains (at + 1) sorts.OpenInsert) modes.Raw modes.Include no_insert)

  include_here : (state : State) → state.start ≡ true → sort_at plains at ≡ sorts.AtInclude
      → terminal_of state plains at ≡ terminals.AtInclude
  unfolding terminal_of
  include_here state b e = rw (e, terminal_of) (if_true state.start _ _ b
      ∙ if_false (goes_on plains at) terminals.AtOther terminals.AtInclude (and_no _ _ no_insert))

  content_mode : sort_at plains at ≡ sorts.AtContent → statement_mode plains at ≡ modes.Content
  unfolding statement_mode
  content_mode e = rw (e, statement_mode)
      (if_false (is_direct plains (at + 1) sorts.OpenInsert) modes.Raw modes.Content no_insert)

  content_here : (state : State) → state.start ≡ true → sort_at plains at ≡ sorts.AtContent
      → terminal_of state plains at ≡ terminals.AtContent
  unfolding terminal_of
  content_here state b e = rw (e, terminal_of) (if_true state.start _ _ b
      ∙ if_false (goes_on plains at) terminals.AtOther terminals.AtContent (and_no _ _ no_insert))

apart_no_insert : (plains : List Plain) (at : ℕ) → spaced_at plains at ≡ true
    → is_direct plains at sorts.OpenInsert ≡ false
apart_no_insert plains at s = no_and _ _ (ap not s)

quiet_at_function : Quiet terminals.AtFunction
quiet_at_function = record { dollar = refl; hash = refl; bang = refl; owned = refl; special = refl }

quiet_at_mixin : Quiet terminals.AtMixin
quiet_at_mixin = record { dollar = refl; hash = refl; bang = refl; owned = refl; special = refl }

quiet_at_include : Quiet terminals.AtInclude
quiet_at_include = record { dollar = refl; hash = refl; bang = refl; owned = refl; special = refl }

quiet_at_content : Quiet terminals.AtContent
quiet_at_content = record { dollar = refl; hash = refl; bang = refl; owned = refl; special = refl }

quiet_named : Quiet terminals.Named
quiet_named = record { dollar = refl; hash = refl; bang = refl; owned = refl; special = refl }

quiet_using : Quiet terminals.Using
quiet_using = record { dollar = refl; hash = refl; bang = refl; owned = refl; special = refl }

quiet_end : Quiet terminals.ParenEnd
quiet_end = record { dollar = refl; hash = refl; bang = refl; owned = refl; special = refl }

-- ---- functions and mixins

-- the name, and its parameters
callable_told : {frames : List Frame} {before : Terminal} {params : List Written} (plains : List Plain) (state : State)
    (at to : ℕ)
    → Place modes.Head frames state before → Quiet before → (name : Sort) → is_name name ≡ true → Params params
    → Stand plains at (apart name terminals.Named ∷ params_in false params) to
    → Told plains modes.Head frames state at (apart name terminals.Named ∷ params_in false params) to
callable_told {frames} {before} {params} plains state at to place quiet name n inside (there, stand) =
    let one = moved plains state at place (apart name terminals.Named) terminals.Named there (name_code name n)
    (named_here plains state at place quiet refl (ap is_name there.sort ∙ n)) one_of named_passes refl refl in
    let two = parens_told terminals.HeadParen false refl refl refl refl (params_told inside) plains one.end (at + 1) to
    (place_of one) stand (paren_here plains one.end (at + 1) (place_of one) quiet_named stand.0.sort) in
    told_by two.end (join one.reads two.reads) two.within

-- ---- arguments

-- what stands behind a name, of what could go on with it
given_dot : {given rest : List Written} → Given given → UsingParams rest → (plains : List Plain) (at to : ℕ)
    → Stand plains at (given ++ rest) to → IsClosed plains to → is_direct plains at sorts.Dot ≡ false
given_dot none_given none_used plains at to stand closed =
    (entries.calm plains at (subst (IsClosed plains) (sym stand) closed)).dot
given_dot none_given (some_used _) plains at to (there, stand) closed = no_and _ _ (ap not there.spaced)
given_dot none_given (used_apart _) plains at to (there, stand) closed =
    and_no _ _ (ap (λ (s : Sort). same s sorts.Dot) there.sort)
given_dot (some_given inside) used plains at to (there, stand) closed =
    and_no _ _ (ap (λ (s : Sort). same s sorts.Dot) there.sort)

-- what an arguments' list ends with
record Called (plains : List Plain) (frames : List Frame) (state : State) (at : ℕ) (tokens : List Written) (to : ℕ) :
    Type 0 where
  before : Terminal
  quiet : Quiet before
  no_include : is before terminals.AtInclude ≡ false
  behind : Behind plains modes.Include frames state at tokens before to

given_told : {given : List Written} → Given given → (plains : List Plain) (frames : List Frame) (state : State)
    (at to : ℕ)
    → Place modes.Include frames state terminals.Named → Stand plains at given to
    → Called plains frames state at given to
given_told none_given plains frames state at to place stand =
    record { before = terminals.Named; quiet = quiet_named; no_include = refl; behind = same_behind place stand }
given_told (some_given inside) plains frames state at to place stand = record {
  before = terminals.ParenEnd;
  quiet = quiet_end;
  no_include = refl;
  behind = parens_told terminals.CallParen false refl refl refl refl (items_in inside) plains state at to place stand
      (paren_here plains state at place quiet_named stand.0.sort
      ∙ if_true (not (spaced_at plains at)) terminals.CallParen _ (ap not stand.0.spaced));
}

-- ---- the name of a mixin

mixin_told : {name : List Written} → MixinName name → (plains : List Plain) (frames : List Frame) (state : State)
    (at to : ℕ) → Place modes.Include frames state terminals.AtInclude → Stand plains at name to
    → is_direct plains to sorts.Dot ≡ false → Behind plains modes.Include frames state at name terminals.Named to
mixin_told (own_name name n) plains frames state at to place (there, e) no_dot =
    let told = named_here plains state at place quiet_at_include refl (ap is_name there.sort ∙ n)
    ∙ if_false (is_direct plains (at + 1) sorts.Dot) terminals.Owner terminals.Named
    (ap (λ (k : ℕ). is_direct plains k sorts.Dot) e ∙ no_dot) in
    let one = moved plains state at place (apart name terminals.Named) terminals.Named there (name_code name n) told
    one_of named_passes refl refl in
    and_then one.reads (same_behind (place_of one) e)
mixin_told (owned_name owner name o n) plains frames state at to place (there, (dot, (third, e))) no_dot =
    let told = named_here plains state at place quiet_at_include refl (ap is_name there.sort ∙ o)
    ∙ if_true (is_direct plains (at + 1) sorts.Dot) terminals.Owner terminals.Named
    (both _ _ (ap not dot.spaced) (ap (λ (s : Sort). same s sorts.Dot) dot.sort)) in
    let one = moved plains state at place (apart owner terminals.Owner) terminals.Owner there (name_code owner o) told
    one_of owner_passes refl refl in
    let is_dot = by_dot one.end plains (at + 1) dot.sort
    ∙ if_true (is one.end.before terminals.Owner && not (spaced_at plains (at + 1))) terminals.OwnerDot _
    (both _ _ (ap (λ (t : Terminal). is t terminals.Owner) one.before_is) (ap not dot.spaced)) in
    let two = moved plains one.end (at + 1) (place_of one) (direct sorts.Dot terminals.OwnerDot) terminals.OwnerDot dot
    refl is_dot one_of dot_passes refl refl in
    let named = name_behind_dot plains two.end ((at + 1) + 1) (place_of two) third.spaced (ap is_name third.sort ∙ n) in
    let three = moved plains two.end ((at + 1) + 1) (place_of two) (direct name terminals.Named) terminals.Named third
    (name_code name n) named one_of named_passes refl refl in
    and_then one.reads (and_then two.reads (and_then three.reads (same_behind (place_of three) e)))
  where
    name_behind_dot : {frames : List Frame} (plains : List Plain) (state : State) (at : ℕ)
        → Place modes.Include frames state terminals.OwnerDot → spaced_at plains at ≡ false
        → is_name (sort_at plains at) ≡ true → terminal_of state plains at ≡ terminals.Named
    name_behind_dot plains state at place s n =
        let b = place.before_is in
        name_there state plains at n
        ∙ if_false (continues state plains at) terminals.Part _ (never state plains at place.word)
        ∙ if_false (is_raw state.mode) terminals.Raw _ (ap is_raw place.within.mode_is)
        ∙ if_false (not (spaced_at plains at) && behind_dollar state.before) terminals.VariableName _
        (and_no _ _ (ap behind_dollar b))
        ∙ if_false (not (spaced_at plains at) && is state.before terminals.Hash) terminals.HashName _
        (and_no _ _ (ap (λ (t : Terminal). is t terminals.Hash) b))
        ∙ if_false (is_bang state.before) (behind_bang (sort_at plains at)) _ (ap is_bang b)
        ∙ if_false (is_apart state plains at) terminals.Other _ (and_no (is state.before terminals.OwnerDot) _ s)
        ∙ ap (λ (m : Mode). name_in (record state { mode = m }) plains at) place.within.mode_is
        ∙ ap (λ (t : Terminal). name_in (record state { mode = modes.Include; before = t }) plains at) b

-- ---- `using`

used_with : {params : List Written} → Params params → {before : Terminal} → Quiet before
    → is before terminals.AtInclude ≡ false
    → (plains : List Plain) (frames : List Frame) (state : State) (at to : ℕ) → Place modes.Include frames state before
    → Stand plains at (apart sorts.Using terminals.Using ∷ params_in true params) to
    → Told plains modes.Include frames state at (apart sorts.Using terminals.Using ∷ params_in true params) to
used_with inside {before} quiet no_include plains frames state at to place (there, stand) =
    let told = named_here plains state at place quiet refl (ap is_name there.sort)
    ∙ if_false (is before terminals.AtInclude) _ _ no_include
    ∙ if_false (is before terminals.OwnerDot) terminals.Named _ quiet.owned ∙ ap using_or_named there.sort in
    let one = moved plains state at place (apart sorts.Using terminals.Using) terminals.Using there refl told one_of
    using_passes refl refl in
    let two = parens_told terminals.HeadParen true refl refl refl refl (params_told inside) plains one.end (at + 1) to
    (place_of one) stand (paren_here plains one.end (at + 1) (place_of one) quiet_using stand.0.sort) in
    told_by two.end (join one.reads two.reads) two.within

using_told : {params : List Written} → UsingParams params → {before : Terminal} → Quiet before
    → is before terminals.AtInclude ≡ false
    → (plains : List Plain) (frames : List Frame) (state : State) (at to : ℕ) → Place modes.Include frames state before
    → Stand plains at params to → Told plains modes.Include frames state at params to
using_told none_used quiet no_include plains frames state at to place stand =
    told_by state (stay_at stand) place.within
using_told (some_used inside) quiet no_include plains frames state at to place stand =
    used_with inside quiet no_include plains frames state at to place stand
using_told (used_apart inside) quiet no_include plains frames state at to place (there, stand) =
    let t = used_with inside quiet no_include plains frames (past_white state sorts.Comment) (at + 1) to (past_seam place)
    stand in
    told_by t.end (join (seam_step plains state at place.within there) (reads t)) t.within

-- ---- all heads

name_apart : {name : List Written} → MixinName name → (rest : List Written) (plains : List Plain) (at to : ℕ)
    → Stand plains at (name ++ rest) to → spaced_at plains at ≡ true
name_apart (own_name _ n) rest plains at to stand = stand.0.spaced
name_apart (owned_name _ _ o n) rest plains at to stand = stand.0.spaced

given_insert : {given : List Written} → Given given → (plains : List Plain) (at to : ℕ) → Stand plains at given to
    → IsClosed plains to → is_direct plains at sorts.OpenInsert ≡ false
given_insert none_given plains at to stand closed =
    (entries.calm plains at (subst (IsClosed plains) (sym stand) closed)).insert
given_insert (some_given inside) plains at to (there, stand) closed =
    and_no _ _ (ap (λ (s : Sort). same s sorts.OpenInsert) there.sort)

heads_told : {mode : Mode} {tokens : List Written} → MemberHead mode tokens → (plains : List Plain)
    (frames : List Frame)
    (state : State) (at to : ℕ) → Starts frames state → Stand plains at tokens to → IsClosed plains to
    → Told plains mode frames state at tokens to
heads_told (function_head {spaced} name n inside) plains frames state at to starts (there, stand) closed =
    let free = apart_no_insert plains (at + 1) stand.0.spaced in
    let first = first_told {mode = modes.Head} plains state at (written sorts.AtFunction spaced terminals.AtFunction)
    terminals.AtFunction starts there refl (function_mode plains at free there.sort) refl refl refl
    (function_here plains at free (placed_as state plains at modes.Head) starts.start there.sort) refl in
    let t = callable_told plains first.end (at + 1) to
    (record { within = first.within; before_is = first.before; word = first.goes_on }) quiet_at_function name n inside
    stand in
    told_by t.end (join first.reads (reads t)) t.within
heads_told (mixin_head {spaced} name n inside) plains frames state at to starts (there, stand) closed =
    let free = apart_no_insert plains (at + 1) stand.0.spaced in
    let first = first_told {mode = modes.Head} plains state at (written sorts.AtMixin spaced terminals.AtMixin)
    terminals.AtMixin starts there refl (mixin_mode plains at free there.sort) refl refl refl
    (mixin_here plains at free (placed_as state plains at modes.Head) starts.start there.sort) refl in
    let t = callable_told plains first.end (at + 1) to
    (record { within = first.within; before_is = first.before; word = first.goes_on }) quiet_at_mixin name n inside
    stand in
    told_by t.end (join first.reads (reads t)) t.within
heads_told (lone_mixin_head {spaced} name n) plains frames state at to starts (there, (second, e)) closed =
    let free = apart_no_insert plains (at + 1) second.spaced in
    let first = first_told {mode = modes.Head} plains state at (written sorts.AtMixin spaced terminals.AtMixin)
    terminals.AtMixin starts there refl (mixin_mode plains at free there.sort) refl refl refl
    (mixin_here plains at free (placed_as state plains at modes.Head) starts.start there.sort) refl in
    let place : Place modes.Head frames first.end terminals.AtMixin =
    record { within = first.within; before_is = first.before; word = first.goes_on } in
    let one = moved plains first.end (at + 1) place (apart name terminals.Named) terminals.Named second
    (name_code name n) (named_here plains first.end (at + 1) place quiet_at_mixin refl (ap is_name second.sort ∙ n)) one_of
    named_passes refl refl in
    told_by one.end (join first.reads (join one.reads (stay_at e))) one.within
heads_told (include_head {spaced} {name} {given} {params} named called used) plains frames state at to starts
    (there, stand) closed =
    let free = apart_no_insert plains (at + 1) (name_apart named (given ++ params) plains (at + 1) to stand) in
    let first = first_told {mode = modes.Include} plains state at (written sorts.AtInclude spaced terminals.AtInclude)
    terminals.AtInclude starts there refl (include_mode plains at free there.sort) refl refl refl
    (include_here plains at free (placed_as state plains at modes.Include) starts.start there.sort) refl in
    let place : Place modes.Include frames first.end terminals.AtInclude =
    record { within = first.within; before_is = first.before; word = first.goes_on } in
    let (p1, stands1, others1) = split plains to name (given ++ params) (at + 1) stand in
    let (p2, stands2, others2) = split plains to given params p1 others1 in
    let one = mixin_told named plains frames first.end (at + 1) p1 place stands1
    (given_dot called used plains p1 to others1 closed) in
    let two = given_told called plains frames one.end p1 p2 (place_of one) stands2 in
    let t = using_told used two.quiet two.no_include plains frames two.behind.end p2 to (place_of two.behind) others2 in
    told_by t.end (join first.reads (join one.reads (join two.behind.reads (reads t)))) t.within
heads_told (settled_head head s) plains frames state at to starts stand closed =
    let place = stand_loose plains s at to stand in
    let t = heads_told head plains frames state at to starts place closed in
    record { lexemes = t.lexemes; end = t.end; passed = settle plains s t.passed place; within = t.within }
heads_told (content_head {spaced} {given} called) plains frames state at to starts (there, stand) closed =
    let free = given_insert called plains (at + 1) to stand closed in
    let first = first_told {mode = modes.Content} plains state at (written sorts.AtContent spaced terminals.AtContent)
    terminals.AtContent starts there refl (content_mode plains at free there.sort) refl refl refl
    (content_here plains at free (placed_as state plains at modes.Content) starts.start there.sort) refl in
    let t = go called first.end
    (record { within = first.within; before_is = first.before; word = first.goes_on }) stand in
    told_by t.end (join first.reads (reads t)) t.within
  where
    go : {given : List Written} → Given given → (middle : State) → Place modes.Content frames middle terminals.AtContent
        → Stand plains (at + 1) given to → Told plains modes.Content frames middle (at + 1) given to
    go none_given middle place stand = told_by middle (stay_at stand) place.within
    go (some_given inside) middle place stand =
        let b = parens_told terminals.CallParen false refl refl refl refl (items_in inside) plains middle (at + 1) to place
        stand (paren_here plains middle (at + 1) place quiet_at_content stand.0.sort) in
        told_by b.end b.reads b.within

pub members_are_told : MembersAreTold
members_are_told mode tokens head plains frames state at to starts stand closed =
    heads_told head plains frames state at to starts stand closed
