-- The names of custom properties are told.
use Rattle.std.proofs.Common.{◌≡◌, ℕ, ◌+◌, Bool, true, false, not, ◌&&◌, List, [], ◌∷◌, ◌++◌, refl, ◌∙◌, ap, subst}
use Rattle.sw_text_scan.proofs.Bounds.{if_true, if_false}
use Rattle.sw_parse_terminals.specs.declared.terminal.Terminal.TheVariants as terminals
use Rattle.sw_parse_lexemes.specs.declared.sort.Sort.{Sort}
use Rattle.sw_parse_lexemes.specs.declared.sort.Sort.TheVariants as sorts
use Rattle.sw_parse_lexemes.specs.declared.plain.Plain.{Plain}
use Rattle.sw_parse_lexemes.specs.declared.state.Mode.{Mode}
use Rattle.sw_parse_lexemes.specs.declared.state.Mode.TheVariants as modes
use Rattle.sw_parse_lexemes.specs.declared.state.Walk.TheVariants as walks
use Rattle.sw_parse_lexemes.specs.declared.state.Frame.{Frame}
use Rattle.sw_parse_lexemes.specs.declared.state.State.{State}
use Rattle.sw_parse_lexemes.specs.Classes.{same, is_name}
use Rattle.sw_parse_lexemes.specs.Ahead.{sort_at, spaced_at, walk_from, code_from, in_insert, behind_first}
use Rattle.sw_parse_lexemes.specs.Modes.{custom_mode, statement_mode}
use Rattle.sw_parse_lexemes.specs.Names.{is, is_bang, is_apart, continues, behind_dollar, behind_bang}
use Rattle.sw_parse_lexemes.specs.Signs.{is_text}
use Rattle.sw_parse_lexemes.specs.Terminals.{terminal_of}
use Rattle.sw_parse_lexemes.specs.Steps.{further_mode, stepped, after}
use Rattle.sw_parse_lexemes.proofs.NameLaws.{name_there}
use Rattle.sw_convert_passing.specs.Written.{Written, written, Stand}
use Rattle.sw_convert_passing.specs.Values.{Parts}
use Rattle.sw_convert_passing.specs.Heads.{Starts}
use Rattle.sw_convert_passing.proofs.Facts.{no_and, and_no}
use Rattle.sw_convert_passing.proofs.Steps.{Reads, join, step, start_step, stay_at}
use Rattle.sw_convert_passing.proofs.BySort.{lone_here}
use Rattle.sw_convert_passing.proofs.Entries.{split, reads, one_of}
use Rattle.sw_convert_passing.proofs.Heads.{begun, placed_as, placed_is}
use Rattle.sw_convert_heads_passing.specs.RawTexts.{precedes_text}
use Rattle.sw_convert_heads_passing.specs.Heads.{HeadTold}
use Rattle.sw_convert_heads_passing.specs.Properties.{colon, CustomHead, custom_head, CustomHeadsAreTold}
use Rattle.sw_convert_heads_passing.proofs.Parts.{parts_told, turned}
use Rattle.sw_convert_heads_passing.proofs.Balanced.{parts_over}
use Rattle.sw_convert_heads_passing.proofs.Properties.{colon_place}

dashed_moded : (plains : List Plain) (at : ℕ) (mode : Mode) → sort_at plains at ≡ sorts.DashedName
    → custom_mode plains (code_from plains (behind_first plains at)) ≡ mode → statement_mode plains at ≡ mode
unfolding statement_mode
dashed_moded plains at mode e t = rw (e, statement_mode) t

custom_after : (state : State) → state.mode ≡ modes.CustomName
    → after state terminals.Custom ≡ stepped state modes.CustomName true terminals.Custom
unfolding after
custom_after state e =
    ap (λ (m : Mode). stepped state (further_mode m terminals.Custom) true terminals.Custom) e

colon_after : (state : State) → state.mode ≡ modes.CustomName
    → after state terminals.Colon ≡ stepped state modes.Custom false terminals.Colon
unfolding after
colon_after state e =
    ap (λ (m : Mode). stepped state (further_mode m terminals.Colon) false terminals.Colon) e

custom_word : {frames : List Frame} (plains : List Plain) (state : State) (at : ℕ) → Starts frames state
    → sort_at plains at ≡ sorts.DashedName
    → terminal_of (placed_as state plains at modes.CustomName) plains at ≡ terminals.Custom
custom_word plains state at starts e =
    let before = begun state.before starts.before in
    let s0 = placed_as state plains at modes.CustomName in
    name_there s0 plains at (ap is_name e)
    ∙ if_false (continues s0 plains at) terminals.Part _ (no_and state.word _ starts.word)
    ∙ if_false (not (spaced_at plains at) && behind_dollar state.before) terminals.VariableName _
    (and_no _ _ before.dollar)
    ∙ if_false (not (spaced_at plains at) && is state.before terminals.Hash) terminals.HashName _
    (and_no _ _ before.hash)
    ∙ if_false (is_bang state.before) (behind_bang (sort_at plains at)) _ before.bang
    ∙ if_false (is_apart s0 plains at) terminals.Other _ (no_and _ _ before.owned)

custom_told : {frames : List Frame} {spaced : Bool} {parts : List Written} (plains : List Plain) (state : State)
    (at to : ℕ) → Parts parts → Starts frames state
    → Stand plains at (written sorts.DashedName spaced terminals.Custom ∷ (parts ++ colon ∷ [])) to
    → (told : HeadTold plains modes.Custom frames state at
    (written sorts.DashedName spaced terminals.Custom ∷ (parts ++ colon ∷ [])) to) × (told.told.end.word ≡ false)
custom_told {frames} {spaced} {parts} plains state at to more starts (there, stand) =
    let one = written sorts.DashedName spaced terminals.Custom in
    let (place, stands, (last, e)) = split plains to parts (colon ∷ []) (at + 1) stand in
    let over = parts_over more plains (at + 1) place stands in
    let mode = dashed_moded plains at modes.CustomName there.sort
    (ap (custom_mode plains)
    (colon_place plains at place
    (ap (λ (s : Sort). walk_from walks.Word plains (in_insert s 0) (at + 1)) there.sort ∙ over) last.sort)
    ∙ if_true (same (sort_at plains place) sorts.Colon) modes.CustomName modes.Raw
    (ap (λ (s : Sort). same s sorts.Colon) last.sort)) in
    let s0 = placed_as state plains at modes.CustomName in
    let placed_so = placed_is state plains at modes.CustomName starts.start mode in
    let n = turned {frames = frames} s0 terminals.Custom true (custom_after s0 refl) starts.frames_are refl in
    let s1 = after s0 terminals.Custom in
    let first : Reads plains state at (one ∷ []) s1 (at + 1) =
    subst (λ (s : State). Reads plains state at (one ∷ []) (after s terminals.Custom) (at + 1)) placed_so
    (start_step plains state at one terminals.Custom starts.start starts.no_comment there refl
    (ap (λ (s : State). terminal_of s plains at) placed_so ∙ custom_word plains state at starts there.sort) one_of) in
    let t = parts_told more precedes_text refl refl modes.CustomName plains frames s1 (at + 1) place n.within (ap precedes_text n.before) n.word
    stands in
    let is_colon = lone_here t.told.end plains place (ap is_text t.told.within.mode_is) sorts.Colon refl last.sort in
    let m = turned {frames = frames} t.told.end terminals.Colon false (colon_after t.told.end t.told.within.mode_is)
    t.told.within.frames_are refl in
    let (lexemes, passed) = join first
    (join (reads t.told)
    (join (step plains t.told.end place colon terminals.Colon t.told.within last refl is_colon one_of) (stay_at e))) in (
      record {
        told = record { lexemes = lexemes; end = after t.told.end terminals.Colon; passed = passed; within = m.within };
        before = ap precedes_text m.before;
      },
      m.word,
    )

custom_heads_told : {tokens : List Written} → CustomHead tokens → (plains : List Plain) (frames : List Frame)
    (state : State) (at to : ℕ) → Starts frames state → Stand plains at tokens to
    → (told : HeadTold plains modes.Custom frames state at tokens to) × (told.told.end.word ≡ false)
custom_heads_told (custom_head more) plains frames state at to starts stand =
    custom_told plains state at to more starts stand

pub custom_heads_are_told : CustomHeadsAreTold
custom_heads_are_told tokens head plains frames state at to starts stand =
    custom_heads_told head plains frames state at to starts stand
