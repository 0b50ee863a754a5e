-- The flags behind a value.
use Rattle.std.proofs.Common.{◌≡◌, ℕ, ◌+◌, Bool, true, false, ◌&&◌, ◌||◌, List, refl, ◌∙◌, ap}
use Rattle.sw_text_scan.proofs.Bounds.{if_true}
use Rattle.sw_parse_terminals.specs.declared.terminal.Terminal.{Terminal}
use Rattle.sw_parse_terminals.specs.declared.terminal.Terminal.TheVariants as terminals
use Rattle.sw_parse_lexemes.specs.declared.sort.Sort.{Sort}
use Rattle.sw_parse_lexemes.specs.declared.sort.Sort.TheVariants as sorts
use Rattle.sw_parse_lexemes.specs.declared.plain.Plain.{Plain}
use Rattle.sw_parse_lexemes.specs.declared.state.Mode.{Mode}
use Rattle.sw_parse_lexemes.specs.declared.state.Frame.{Frame}
use Rattle.sw_parse_lexemes.specs.declared.state.State.{State}
use Rattle.sw_parse_lexemes.specs.Classes.{same, is_name, is_comment}
use Rattle.sw_parse_lexemes.specs.Names.{is, is_bang, behind_dollar, behind_bang}
use Rattle.sw_parse_lexemes.specs.Signs.{takes_flags, is_flag, ends_value}
use Rattle.sw_parse_lexemes.specs.Steps.{after}
use Rattle.sw_convert_passing.specs.Written.{Written, apart, direct, Stand, Within}
use Rattle.sw_convert_passing.specs.Places.{is_value, Told}
use Rattle.sw_convert_passing.specs.Kinds.{is_flag_sort}
use Rattle.sw_convert_passing.specs.Values.{Flags, no_flag, flag}
use Rattle.sw_convert_passing.specs.Laws.{FlagsAreTold}
use Rattle.sw_convert_passing.proofs.Facts.{both, value_mode}
use Rattle.sw_convert_passing.proofs.Steps.{join, step, stay_at, next}
use Rattle.sw_convert_passing.proofs.Walks.{is_code, next_code}
use Rattle.sw_convert_passing.proofs.BySort.{by_bang}
use Rattle.sw_convert_passing.proofs.Tokens.{flag_here}
use Rattle.sw_convert_passing.proofs.Entries.{reads, one_of, Plainly}
use Rattle.sw_convert_passing.proofs.Leaves.{never}

record FlagSort (sort : Sort) : Type 0 where
  code : is_code sort ≡ true
  named : is_name sort ≡ true
  told : (same sort sorts.Default || same sort sorts.Global) ≡ true
  comment : is_comment sort ≡ false
  plainly : Plainly (behind_bang sort)

flag_sort : (sort : Sort) → is_flag_sort sort ≡ true → FlagSort sort
flag_sort sorts.Default f =
    record { code = refl; named = refl; told = refl; comment = refl; plainly = record { goes = refl; begins = refl } }
flag_sort sorts.Global f =
    record { code = refl; named = refl; told = refl; comment = refl; plainly = record { goes = refl; begins = refl } }
flag_sort _ f = absurd (cc)

or_right : (a b : Bool) → b ≡ true → (a || b) ≡ true
or_right true b e = refl
or_right false b e = e

flags_told : (plains : List Plain) (mode : Mode) (frames : List Frame) (to : ℕ) → is_value mode ≡ true
    → takes_flags mode ≡ true → (state : State) (at : ℕ) {tokens : List Written} → Flags tokens
    → Within mode frames state
    → Stand plains at tokens to → Told plains mode frames state at tokens to
flags_told plains mode frames to value takes state at no_flag within stand =
    let (lexemes, passed) = stay_at stand in
    record { lexemes = lexemes; end = state; passed = passed; within = within }
flags_told plains mode frames to value takes state at (flag {rest} sort f more) within (there, (second, stand)) =
    let facts = flag_sort sort f in
    let following = next_code plains at sort facts.code second.sort in
    let told = by_bang state plains at there.sort
    ∙ if_true (takes_flags state.mode && ends_value state plains at) terminals.Ending _
    (both _ _ (ap takes_flags within.mode_is ∙ takes)
    (or_right (is_flag state.before) _
    (ap (λ (x : Sort). same x sorts.Default || same x sorts.Global) following ∙ facts.told))) in
    let n1 = next state within (value_mode mode value).steady terminals.Ending refl refl in
    let s1 = after state terminals.Ending in
    let named = flag_here value s1 n1.within plains (at + 1) (ap is_name second.sort ∙ facts.named)
    (never s1 plains (at + 1) n1.word) (ap behind_dollar n1.before)
    (ap (λ (t : Terminal). is t terminals.Hash) n1.before) (ap is_bang n1.before)
    ∙ ap behind_bang second.sort in
    let n2 = next s1 n1.within (value_mode mode value).steady (behind_bang sort) facts.plainly.goes
    facts.plainly.begins in
    let t = flags_told plains mode frames to value takes (after s1 (behind_bang sort)) ((at + 1) + 1) more n2.within
    stand in
    let (lexemes, passed) = join
    (step plains state at (apart sorts.Exclamation terminals.Ending) terminals.Ending within there
    refl told one_of)
    (join (step plains s1 (at + 1) (direct sort (behind_bang sort)) (behind_bang sort) n1.within second
    facts.comment
    named one_of) (reads t)) in
    record { lexemes = lexemes; end = t.end; passed = passed; within = t.within }

pub flags_are_told : FlagsAreTold
flags_are_told mode tokens flags plains frames state at to value takes within stand =
    flags_told plains mode frames to value takes state at flags within stand
