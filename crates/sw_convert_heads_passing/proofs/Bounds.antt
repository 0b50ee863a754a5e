-- The bounds of `@for`, and the heads `@else` and `@charset`, are told.
use Rattle.std.proofs.Common.{◌≡◌, ℕ, ◌+◌, Bool, true, false, not, ◌&&◌, ◌||◌, if◌then◌else◌, List, [], ◌∷◌, refl, sym, ◌∙◌, ap, subst}
use Rattle.sw_text_scan.proofs.Bounds.{if_true, if_false}
use Rattle.sw_parse_terminals.specs.declared.terminal.Terminal.{Terminal}
use Rattle.sw_parse_terminals.specs.declared.terminal.Terminal.TheVariants as terminals
use Rattle.sw_parse_lexemes.specs.declared.sort.Sort.{Sort}
use Rattle.sw_parse_lexemes.specs.declared.sort.Sort.TheVariants as sorts
use Rattle.sw_parse_lexemes.specs.declared.plain.Plain.{Plain}
use Rattle.sw_parse_lexemes.specs.declared.state.Mode.{Mode}
use Rattle.sw_parse_lexemes.specs.declared.state.Mode.TheVariants as modes
use Rattle.sw_parse_lexemes.specs.declared.state.Frame.{Frame}
use Rattle.sw_parse_lexemes.specs.declared.state.State.{State}
use Rattle.sw_parse_lexemes.specs.Classes.{same, is_name, is_comment}
use Rattle.sw_parse_lexemes.specs.declared.state.Walk.TheVariants as walks
use Rattle.sw_parse_lexemes.specs.Ahead.{sort_at, spaced_at, is_direct, over_comment, next_sort}
use Rattle.sw_parse_lexemes.specs.Names.{is, is_raw, is_bang, is_apart, continues, behind_dollar, behind_bang, is_bound_end, name_in_expression, name_in}
use Rattle.sw_parse_lexemes.specs.Signs.{is_text, ends_operand}
use Rattle.sw_parse_lexemes.specs.Terminals.{string_in_code, terminal_of}
use Rattle.sw_parse_lexemes.specs.Steps.{begins_statement, in_word, passes, further_mode, after}
use Rattle.sw_parse_lexemes.proofs.NameLaws.{name_there}
use Rattle.sw_convert_passing.specs.Written.{Written, written, apart, Stand, Within}
use Rattle.sw_convert_passing.specs.Places.{Behind, Told, may_precede, separates}
use Rattle.sw_convert_passing.specs.Heads.{Starts, HeadTold}
use Rattle.sw_convert_passing.proofs.Facts.{no_and, and_no, name_code}
use Rattle.sw_convert_passing.proofs.Steps.{join, step, stay_at, next_from}
use Rattle.sw_convert_passing.proofs.Walks.{is_code, code_stays, next_code}
use Rattle.sw_convert_passing.proofs.BySort.{by_quoted, by_unnamed}
use Rattle.sw_convert_passing.proofs.Entries.{one_of}
use Rattle.sw_convert_passing.proofs.Heads.{placed_as, head_told}
use Rattle.sw_convert_heads_passing.specs.Flow.{is_bound, bound, BoundsAreTold, is_string, LoneHead, else_head, charset_head, Ends, before_block, before_seam, before_end, LoneHeadsAreTold}
use Rattle.sw_convert_heads_passing.proofs.Loads.{Place, place_of}
use Rattle.sw_convert_heads_passing.proofs.Moves.{told_by, moved}
use Rattle.sw_convert_heads_passing.proofs.Selectors.{goes}
use Rattle.sw_convert_heads_passing.proofs.Firsts.{apart_no_insert, charset_here, charset_mode, charset_passes, else_here, else_mode, else_passes, first_moved, plain_passes}

bound_word : (sort : Sort) → is_bound sort ≡ true → (state : State) (plains : List Plain) (at : ℕ)
    → sort_at plains at ≡ sort → is_bound_end plains at ≡ true
    → name_in (record state { mode = modes.Bounds }) plains at ≡ bound sort
bound_word sorts.Through b state plains at e f =
    ap (λ (s : Sort). elim s as (λ _. Terminal) [
      | sorts.Through ↦ if is_bound_end plains at then terminals.Through else name_in_expression state plains at
      | sorts.To ↦ if is_bound_end plains at then terminals.To else name_in_expression state plains at
      | _ ↦ name_in_expression state plains at
    ]) e
    ∙ if_true (is_bound_end plains at) terminals.Through _ f
bound_word sorts.To b state plains at e f =
    ap (λ (s : Sort). elim s as (λ _. Terminal) [
      | sorts.Through ↦ if is_bound_end plains at then terminals.Through else name_in_expression state plains at
      | sorts.To ↦ if is_bound_end plains at then terminals.To else name_in_expression state plains at
      | _ ↦ name_in_expression state plains at
    ]) e
    ∙ if_true (is_bound_end plains at) terminals.To _ f
bound_word _ b state plains at e f = absurd (cc)

record Bound (sort : Sort) : Type 0 where
  named : is_name sort ≡ true
  steady : further_mode modes.Bounds (bound sort) ≡ modes.Bounds
  begins : begins_statement (bound sort) ≡ false
  before : may_precede (bound sort) ≡ true
  operand : ends_operand (bound sort) ≡ false
  comma : is (bound sort) terminals.Comma ≡ false

bound_is : (sort : Sort) → is_bound sort ≡ true → Bound sort
bound_is sorts.Through b = record
    { named = refl; steady = refl; begins = refl; before = refl; operand = refl; comma = refl }
bound_is sorts.To b = record
    { named = refl; steady = refl; begins = refl; before = refl; operand = refl; comma = refl }
bound_is _ b = absurd (cc)

-- behind a value or a sign between values a name is told by nothing before it
pub record Ending (before : Terminal) : Type 0 where
  dollar : behind_dollar before ≡ false
  hash : is before terminals.Hash ≡ false
  bang : is_bang before ≡ false
  owned : is before terminals.OwnerDot ≡ false

ending : (before : Terminal) → ends_operand before ≡ true → Ending before
ending terminals.Dollar o = absurd (cc)
ending terminals.DollarNamed o = absurd (cc)
ending terminals.OwnerDollar o = absurd (cc)
ending terminals.Hash o = absurd (cc)
ending terminals.Bang o = absurd (cc)
ending terminals.Ending o = absurd (cc)
ending terminals.OwnerDot o = absurd (cc)
ending _ o = record { dollar = refl; hash = refl; bang = refl; owned = refl }

separated : (before : Terminal) → separates before ≡ true → Ending before
separated terminals.Comma s = record { dollar = refl; hash = refl; bang = refl; owned = refl }
separated terminals.Colon s = record { dollar = refl; hash = refl; bang = refl; owned = refl }
separated terminals.Ellipsis s = record { dollar = refl; hash = refl; bang = refl; owned = refl }
separated _ s = absurd (cc)

pub ending_by : (ended : Bool) (state : State) → Behind ended state → Ending state.before
ending_by true state behind = ending state.before behind
ending_by false state behind = separated state.before behind.0

pub bound_told : (sort : Sort) → is_bound sort ≡ true → (plains : List Plain) (frames : List Frame) (state : State)
    (at to : ℕ) → Within modes.Bounds frames state → Ending state.before
    → Stand plains at (apart sort (bound sort) ∷ []) to → spaced_at plains to ≡ true
    → HeadTold plains modes.Bounds frames state at (apart sort (bound sort) ∷ []) to
bound_told sort b plains frames state at to within f (there, e) blank =
    let facts = bound_is sort b in
    let apart_next : spaced_at plains (at + 1) ≡ true = ap (spaced_at plains) e ∙ blank in
    let ends : is_bound_end plains at ≡ true =
    ap not (or_no _ _ (no_and _ _ (ap not apart_next)) (no_and _ _ (ap not apart_next))) in
    let told = name_there state plains at (ap is_name there.sort ∙ facts.named)
    ∙ if_false (continues state plains at) terminals.Part _ (and_no state.word _ (ap not there.spaced))
    ∙ if_false (is_raw state.mode) terminals.Raw _ (ap is_raw within.mode_is)
    ∙ if_false (not (spaced_at plains at) && behind_dollar state.before) terminals.VariableName _ (and_no _ _ f.dollar)
    ∙ if_false (not (spaced_at plains at) && is state.before terminals.Hash) terminals.HashName _ (and_no _ _ f.hash)
    ∙ if_false (is_bang state.before) (behind_bang (sort_at plains at)) _ f.bang
    ∙ if_false (is_apart state plains at) terminals.Other _ (no_and _ _ f.owned)
    ∙ ap (λ (m : Mode). name_in (record state { mode = m }) plains at) within.mode_is
    ∙ bound_word sort b state plains at there.sort ends in
    let n = next_from state within.mode_is within.frames_are refl (bound sort) (passes_bound sort b) facts.begins in
    head_told (after state (bound sort)) (bound sort)
    (join (step plains state at (apart sort (bound sort)) (bound sort) within there (name_code sort facts.named) told one_of)
    (stay_at e)) n.within n.before (n.word ∙ no_word sort b) facts.before facts.operand facts.comma
  where
    or_no : (a b : Bool) → a ≡ false → b ≡ false → (a || b) ≡ false
    or_no true b e f = absurd (cc)
    or_no false b e f = f

    passes_bound : (sort : Sort) → is_bound sort ≡ true → passes (bound sort) ≡ true
    passes_bound sorts.Through b = refl
    passes_bound sorts.To b = refl
    passes_bound _ b = absurd (cc)

    no_word : (sort : Sort) → is_bound sort ≡ true → in_word (bound sort) ≡ false
    no_word sorts.Through b = refl
    no_word sorts.To b = refl
    no_word _ b = absurd (cc)

pub bounds_are_told : BoundsAreTold
bounds_are_told sort b plains frames state at to within operand stand blank =
    bound_told sort b plains frames state at to within (ending state.before operand) stand blank

-- ---- heads without a value

no_insert : (plains : List Plain) (at : ℕ) (sort : Sort) → same sort sorts.OpenInsert ≡ false → sort_at plains at ≡ sort
    → is_direct plains at sorts.OpenInsert ≡ false
no_insert plains at sort other e =
    and_no (not (spaced_at plains at)) _ (ap (λ (s : Sort). same s sorts.OpenInsert) e ∙ other)

ends_free : {plains : List Plain} {at : ℕ} → Ends plains at → is_direct plains at sorts.OpenInsert ≡ false
ends_free {plains} {at} (before_block e) = no_insert plains at sorts.OpenBrace refl e
ends_free {plains} {at} (before_seam l e f) = no_insert plains at sorts.Comment refl e
ends_free {plains} {at} (before_end e) = no_insert plains at sorts.Semicolon refl e

ends_next : {plains : List Plain} (at : ℕ) → Ends plains (at + 1) → same (next_sort plains at) sorts.If ≡ false
ends_next {plains} at (before_block e) =
    ap (λ (s : Sort). same s sorts.If) (next_code plains at sorts.OpenBrace refl e)
ends_next {plains} at (before_seam l e f) =
    ap (λ (k : ℕ). same (sort_at plains k) sorts.If)
    (goes walks.Comments plains (at + 1) 0 0 l (ap (λ (s : Sort). over_comment s 0) e)
    ∙ code_stays plains ((at + 1) + 1) (ap is_code f))
    ∙ ap (λ (s : Sort). same s sorts.If) f
ends_next {plains} at (before_end e) =
    ap (λ (s : Sort). same s sorts.If) (next_code plains at sorts.Semicolon refl e)

plain_here : (sort : Sort) → is_string sort ≡ true → {frames : List Frame} (plains : List Plain) (state : State)
    (at : ℕ) → Place modes.Expression frames state terminals.AtCharset → sort_at plains at ≡ sort
    → terminal_of state plains at ≡ terminals.Plain
plain_here sorts.Quoted s plains state at place e =
    by_quoted state plains at e ∙ if_false (is_text state.mode) terminals.Raw _ (ap is_text place.within.mode_is)
    ∙ ap (λ (t : Terminal). string_in_code (record state { before = t }) plains at true) place.before_is
plain_here sorts.Unnamed s plains state at place e =
    by_unnamed state plains at e ∙ if_false (is_text state.mode) terminals.Raw _ (ap is_text place.within.mode_is)
    ∙ ap (λ (t : Terminal). string_in_code (record state { before = t }) plains at false) place.before_is
plain_here _ s plains state at place e = absurd (cc)

string_code : (sort : Sort) → is_string sort ≡ true → is_comment sort ≡ false
string_code sorts.Quoted s = refl
string_code sorts.Unnamed s = refl
string_code _ s = absurd (cc)

lone_heads_told : {mode : Mode} {tokens : List Written} → LoneHead mode tokens → (plains : List Plain)
    (frames : List Frame)
    (state : State) (at to : ℕ) → Starts frames state → Stand plains at tokens to → Ends plains to
    → Told plains mode frames state at tokens to
lone_heads_told (else_head {spaced}) plains frames state at to starts (there, e) ends =
    let ends_here = subst (Ends plains) (sym e) ends in
    let first = first_moved {mode = modes.Else} {frames = frames} plains state at
    (written sorts.AtElse spaced terminals.AtElse) terminals.AtElse starts there refl
    (else_mode plains at (ends_free ends_here) there.sort)
    (else_here plains at (ends_free ends_here) (placed_as state plains at modes.Else) starts.start false
    (ends_next at ends_here) there.sort) one_of else_passes refl refl in
    told_by first.end (join first.reads (stay_at e)) first.within
lone_heads_told (charset_head {spaced} sort s) plains frames state at to starts (there, (second, e)) ends =
    let free = apart_no_insert plains (at + 1) second.spaced in
    let first = first_moved {mode = modes.Expression} {frames = frames} plains state at
    (written sorts.AtCharset spaced terminals.AtCharset) terminals.AtCharset starts there refl
    (charset_mode plains at free there.sort)
    (charset_here plains at free (placed_as state plains at modes.Expression) starts.start there.sort) one_of
    charset_passes refl refl in
    let b2 = moved {further = modes.Expression} plains first.end (at + 1) (place_of first) (apart sort terminals.Plain)
    terminals.Plain second (string_code sort s) (plain_here sort s plains first.end (at + 1) (place_of first) second.sort)
    one_of plain_passes refl refl in
    told_by b2.end (join first.reads (join b2.reads (stay_at e))) b2.within

pub lone_heads_are_told : LoneHeadsAreTold
lone_heads_are_told mode tokens head plains frames state at to starts stand ends =
    lone_heads_told head plains frames state at to starts stand ends
