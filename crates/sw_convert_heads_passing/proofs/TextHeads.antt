-- The names of at-rules that take text are told.
use Rattle.std.proofs.Common.{◌≡◌, ℕ, ◌+◌, Bool, true, false, not, ◌&&◌, ◌||◌, nat_lt, if◌then◌else◌, List, refl, ◌∙◌, ap}
use Rattle.sw_text_scan.proofs.Bounds.{if_true, if_false}
use Rattle.sw_parse_terminals.specs.declared.terminal.Terminal.{Terminal}
use Rattle.sw_parse_terminals.specs.declared.terminal.Terminal.TheVariants as terminals
use Rattle.sw_parse_lexemes.specs.declared.sort.Sort.{Sort}
use Rattle.sw_parse_lexemes.specs.declared.sort.Sort.TheVariants as sorts
use Rattle.sw_parse_lexemes.specs.declared.plain.Plain.{Plain}
use Rattle.sw_parse_lexemes.specs.declared.state.Mode.{Mode}
use Rattle.sw_parse_lexemes.specs.declared.state.Mode.TheVariants as modes
use Rattle.sw_parse_lexemes.specs.declared.state.Frame.{Frame}
use Rattle.sw_parse_lexemes.specs.declared.state.State.{State}
use Rattle.sw_parse_lexemes.specs.Classes.{same, is_name, is_comment}
use Rattle.sw_parse_lexemes.specs.Ahead.{sort_at, spaced_at, length_at, is_direct, begins_word}
use Rattle.sw_parse_lexemes.specs.Modes.{plain_mode, statement_mode}
use Rattle.sw_parse_lexemes.specs.Names.{is, continues}
use Rattle.sw_parse_lexemes.specs.Signs.{is_text, names_rule, insert_in}
use Rattle.sw_parse_lexemes.specs.Terminals.{goes_on, terminal_of}
use Rattle.sw_parse_lexemes.specs.Steps.{begins_statement, passes, after}
use Rattle.sw_convert_passing.specs.Written.{Written, written, direct, Stand, Within}
use Rattle.sw_convert_passing.specs.Values.{Items, Parts, part_insert, inserted}
use Rattle.sw_convert_passing.specs.Heads.{Starts}
use Rattle.sw_convert_passing.proofs.Facts.{no_and, and_no, both}
use Rattle.sw_convert_passing.proofs.Steps.{Reads, join, step, stay_at, next}
use Rattle.sw_convert_passing.proofs.BySort.{by_insert, by_minus}
use Rattle.sw_convert_passing.proofs.Entries.{reads, one_of}
use Rattle.sw_convert_passing.proofs.Leaves.{never}
use Rattle.sw_convert_passing.proofs.Heads.{placed_as, first_told}
use Rattle.sw_convert_passing.proofs.Told.{inner_told}
use Rattle.sw_convert_heads_passing.specs.RawTexts.{precedes_text}
use Rattle.sw_convert_heads_passing.specs.Heads.{takes_text, text_rule, is_keyword, TextHead, text_head, named_head, keyword_head, inserted_head, minus_head, AreKeywords, HeadTold, TextHeadsAreTold}
use Rattle.sw_convert_heads_passing.proofs.Parts.{PartsTold, parts_told, insert_and}

-- a statement that begins with none of a name, a `#{` and a `-` is of raw text
module _ (plains : List Plain) (at : ℕ) where
  or_no : (a b : Bool) → a ≡ false → b ≡ false → (a || b) ≡ false
  or_no true b e f = absurd (cc)
  or_no false b e f = f

  plain_raw : (sort : Sort) → sort_at plains at ≡ sort → is_name sort ≡ false → same sort sorts.OpenInsert ≡ false
      → same sort sorts.Minus ≡ false → plain_mode plains at ≡ modes.Raw
  plain_raw sort e n i m =
      if_false (is_name (sort_at plains at) && is_direct plains (at + 1) sorts.Dot) _ _ (no_and _ _ (ap is_name e ∙ n))
      ∙ if_false (begins_word plains at) _ modes.Raw
      (if_false (is_name (sort_at plains at)) _ _ (ap is_name e ∙ n)
      ∙ or_no _ _ (ap (λ (s : Sort). same s sorts.OpenInsert) e ∙ i)
      (no_and _ _ (ap (λ (s : Sort). same s sorts.Minus) e ∙ m)))

  text_mode : (sort : Sort) → takes_text sort ≡ true → sort_at plains at ≡ sort → statement_mode plains at ≡ modes.Raw
  unfolding statement_mode
  text_mode sorts.AtSupports t e = rw (e, statement_mode) (plain_raw sorts.AtSupports e refl refl refl)
  text_mode sorts.AtRoot t e = rw (e, statement_mode) (plain_raw sorts.AtRoot e refl refl refl)
  text_mode sorts.AtImport t e = rw (e, statement_mode) (plain_raw sorts.AtImport e refl refl refl)
  text_mode sorts.AtExtend t e = rw (e, statement_mode) (plain_raw sorts.AtExtend e refl refl refl)
  text_mode _ t e = absurd (cc)

  name_mode : sort_at plains at ≡ sorts.AtName → statement_mode plains at ≡ modes.Raw
  unfolding statement_mode
  name_mode e = rw (e, statement_mode) (plain_raw sorts.AtName e refl refl refl)

  at_mode : sort_at plains at ≡ sorts.At → statement_mode plains at ≡ modes.Raw
  unfolding statement_mode
  at_mode e = rw (e, statement_mode) refl

  -- a keyword before a `#{` begins an unknown at-rule
  module _ (insert : is_direct plains (at + 1) sorts.OpenInsert ≡ true) where
    keyword_mode : (sort : Sort) → is_keyword sort ≡ true → sort_at plains at ≡ sort
        → statement_mode plains at ≡ modes.Raw
    unfolding statement_mode
    keyword_mode sorts.AtUse k e = rw (e, statement_mode)
        (if_true (is_direct plains (at + 1) sorts.OpenInsert) modes.Raw _ insert)
    keyword_mode sorts.AtForward k e = rw (e, statement_mode)
        (if_true (is_direct plains (at + 1) sorts.OpenInsert) modes.Raw _ insert)
    keyword_mode sorts.AtFunction k e = rw (e, statement_mode)
        (if_true (is_direct plains (at + 1) sorts.OpenInsert) modes.Raw _ insert)
    keyword_mode sorts.AtMixin k e = rw (e, statement_mode)
        (if_true (is_direct plains (at + 1) sorts.OpenInsert) modes.Raw _ insert)
    keyword_mode sorts.AtInclude k e = rw (e, statement_mode)
        (if_true (is_direct plains (at + 1) sorts.OpenInsert) modes.Raw _ insert)
    keyword_mode sorts.AtContent k e = rw (e, statement_mode)
        (if_true (is_direct plains (at + 1) sorts.OpenInsert) modes.Raw _ insert)
    keyword_mode sorts.AtReturn k e = rw (e, statement_mode)
        (if_true (is_direct plains (at + 1) sorts.OpenInsert) modes.Raw _ insert)
    keyword_mode sorts.AtWarn k e = rw (e, statement_mode)
        (if_true (is_direct plains (at + 1) sorts.OpenInsert) modes.Raw _ insert)
    keyword_mode sorts.AtDebug k e = rw (e, statement_mode)
        (if_true (is_direct plains (at + 1) sorts.OpenInsert) modes.Raw _ insert)
    keyword_mode sorts.AtError k e = rw (e, statement_mode)
        (if_true (is_direct plains (at + 1) sorts.OpenInsert) modes.Raw _ insert)
    keyword_mode sorts.AtIf k e = rw (e, statement_mode)
        (if_true (is_direct plains (at + 1) sorts.OpenInsert) modes.Raw _ insert)
    keyword_mode sorts.AtElse k e = rw (e, statement_mode)
        (if_true (is_direct plains (at + 1) sorts.OpenInsert) modes.Raw _ insert)
    keyword_mode sorts.AtElseIf k e = rw (e, statement_mode)
        (if_true (is_direct plains (at + 1) sorts.OpenInsert) modes.Raw _ insert)
    keyword_mode sorts.AtEach k e = rw (e, statement_mode)
        (if_true (is_direct plains (at + 1) sorts.OpenInsert) modes.Raw _ insert)
    keyword_mode sorts.AtFor k e = rw (e, statement_mode)
        (if_true (is_direct plains (at + 1) sorts.OpenInsert) modes.Raw _ insert)
    keyword_mode sorts.AtWhile k e = rw (e, statement_mode)
        (if_true (is_direct plains (at + 1) sorts.OpenInsert) modes.Raw _ insert)
    keyword_mode sorts.AtMedia k e = rw (e, statement_mode)
        (if_true (is_direct plains (at + 1) sorts.OpenInsert) modes.Raw _ insert)
    keyword_mode sorts.AtCharset k e = rw (e, statement_mode)
        (if_true (is_direct plains (at + 1) sorts.OpenInsert) modes.Raw _ insert)
    keyword_mode sort k e = text_mode sort k e

    keyword_here : (state : State) → state.start ≡ true → nat_lt 1 (length_at plains at) ≡ true → (sort : Sort)
        → is_keyword sort ≡ true → sort_at plains at ≡ sort → terminal_of state plains at ≡ terminals.AtOther
    unfolding terminal_of
    keyword_here state b l sorts.AtUse k e = rw (e, terminal_of)
        (if_true state.start _ _ b ∙ if_true (goes_on plains at) terminals.AtOther _ (both _ _ l insert))
    keyword_here state b l sorts.AtForward k e = rw (e, terminal_of)
        (if_true state.start _ _ b ∙ if_true (goes_on plains at) terminals.AtOther _ (both _ _ l insert))
    keyword_here state b l sorts.AtFunction k e = rw (e, terminal_of)
        (if_true state.start _ _ b ∙ if_true (goes_on plains at) terminals.AtOther _ (both _ _ l insert))
    keyword_here state b l sorts.AtMixin k e = rw (e, terminal_of)
        (if_true state.start _ _ b ∙ if_true (goes_on plains at) terminals.AtOther _ (both _ _ l insert))
    keyword_here state b l sorts.AtInclude k e = rw (e, terminal_of)
        (if_true state.start _ _ b ∙ if_true (goes_on plains at) terminals.AtOther _ (both _ _ l insert))
    keyword_here state b l sorts.AtContent k e = rw (e, terminal_of)
        (if_true state.start _ _ b ∙ if_true (goes_on plains at) terminals.AtOther _ (both _ _ l insert))
    keyword_here state b l sorts.AtReturn k e = rw (e, terminal_of)
        (if_true state.start _ _ b ∙ if_true (goes_on plains at) terminals.AtOther _ (both _ _ l insert))
    keyword_here state b l sorts.AtWarn k e = rw (e, terminal_of)
        (if_true state.start _ _ b ∙ if_true (goes_on plains at) terminals.AtOther _ (both _ _ l insert))
    keyword_here state b l sorts.AtDebug k e = rw (e, terminal_of)
        (if_true state.start _ _ b ∙ if_true (goes_on plains at) terminals.AtOther _ (both _ _ l insert))
    keyword_here state b l sorts.AtError k e = rw (e, terminal_of)
        (if_true state.start _ _ b ∙ if_true (goes_on plains at) terminals.AtOther _ (both _ _ l insert))
    keyword_here state b l sorts.AtIf k e = rw (e, terminal_of)
        (if_true state.start _ _ b ∙ if_true (goes_on plains at) terminals.AtOther _ (both _ _ l insert))
    keyword_here state b l sorts.AtElse k e = rw (e, terminal_of)
        (if_true state.start _ _ b ∙ if_true (goes_on plains at) terminals.AtOther _ (both _ _ l insert))
    keyword_here state b l sorts.AtElseIf k e = rw (e, terminal_of)
        (if_true state.start _ _ b ∙ if_true (goes_on plains at) terminals.AtOther _ (both _ _ l insert))
    keyword_here state b l sorts.AtEach k e = rw (e, terminal_of)
        (if_true state.start _ _ b ∙ if_true (goes_on plains at) terminals.AtOther _ (both _ _ l insert))
    keyword_here state b l sorts.AtFor k e = rw (e, terminal_of)
        (if_true state.start _ _ b ∙ if_true (goes_on plains at) terminals.AtOther _ (both _ _ l insert))
    keyword_here state b l sorts.AtWhile k e = rw (e, terminal_of)
        (if_true state.start _ _ b ∙ if_true (goes_on plains at) terminals.AtOther _ (both _ _ l insert))
    keyword_here state b l sorts.AtMedia k e = rw (e, terminal_of)
        (if_true state.start _ _ b ∙ if_true (goes_on plains at) terminals.AtOther _ (both _ _ l insert))
    keyword_here state b l sorts.AtCharset k e = rw (e, terminal_of)
        (if_true state.start _ _ b ∙ if_true (goes_on plains at) terminals.AtOther _ (both _ _ l insert))
    keyword_here state b l sorts.AtSupports k e = rw (e, terminal_of)
        (if_true state.start _ _ b ∙ if_true (goes_on plains at) terminals.AtOther _ (both _ _ l insert))
    keyword_here state b l sorts.AtRoot k e = rw (e, terminal_of)
        (if_true state.start _ _ b ∙ if_true (goes_on plains at) terminals.AtOther _ (both _ _ l insert))
    keyword_here state b l sorts.AtImport k e = rw (e, terminal_of)
        (if_true state.start _ _ b ∙ if_true (goes_on plains at) terminals.AtOther _ (both _ _ l insert))
    keyword_here state b l sorts.AtExtend k e = rw (e, terminal_of)
        (if_true state.start _ _ b ∙ if_true (goes_on plains at) terminals.AtOther _ (both _ _ l insert))
    keyword_here state b l _ k e = absurd (cc)

  -- one before no `#{` is what it says
  module _ (no_insert : is_direct plains (at + 1) sorts.OpenInsert ≡ false) where
    text_here : (state : State) → state.start ≡ true → (sort : Sort) → takes_text sort ≡ true → sort_at plains at ≡ sort
        → terminal_of state plains at ≡ text_rule sort
    unfolding terminal_of
    text_here state b sorts.AtSupports t e = rw (e, terminal_of)
        (if_true state.start _ _ b
        ∙ if_false (goes_on plains at) terminals.AtOther terminals.AtSupports (and_no _ _ no_insert))
    text_here state b sorts.AtRoot t e = rw (e, terminal_of)
        (if_true state.start _ _ b
        ∙ if_false (goes_on plains at) terminals.AtOther terminals.AtRoot (and_no _ _ no_insert))
    text_here state b sorts.AtImport t e = rw (e, terminal_of)
        (if_true state.start _ _ b
        ∙ if_false (goes_on plains at) terminals.AtOther terminals.AtImport (and_no _ _ no_insert))
    text_here state b sorts.AtExtend t e = rw (e, terminal_of)
        (if_true state.start _ _ b
        ∙ if_false (goes_on plains at) terminals.AtOther terminals.AtExtend (and_no _ _ no_insert))
    text_here state b _ t e = absurd (cc)

  either_way : (b : Bool) (x : Terminal) → (if b then x else x) ≡ x
  either_way true x = refl
  either_way false x = refl

  name_here : (state : State) → state.start ≡ true → sort_at plains at ≡ sorts.AtName
      → terminal_of state plains at ≡ terminals.AtOther
  unfolding terminal_of
  name_here state b e = rw (e, terminal_of)
      (if_true state.start _ _ b ∙ either_way (goes_on plains at) terminals.AtOther)

  at_here : (state : State) → state.start ≡ true → sort_at plains at ≡ sorts.At
      → terminal_of state plains at ≡ terminals.AtInsert
  unfolding terminal_of
  at_here state b e = rw (e, terminal_of) (if_true state.start terminals.AtInsert _ b)

record TextRule (sort : Sort) : Type 0 where
  code : is_comment sort ≡ false
  goes : passes (text_rule sort) ≡ true
  begins : begins_statement (text_rule sort) ≡ false
  before : precedes_text (text_rule sort) ≡ true

text_rule_is : (sort : Sort) → takes_text sort ≡ true → TextRule sort
text_rule_is sorts.AtSupports t = record { code = refl; goes = refl; begins = refl; before = refl }
text_rule_is sorts.AtRoot t = record { code = refl; goes = refl; begins = refl; before = refl }
text_rule_is sorts.AtImport t = record { code = refl; goes = refl; begins = refl; before = refl }
text_rule_is sorts.AtExtend t = record { code = refl; goes = refl; begins = refl; before = refl }
text_rule_is _ t = absurd (cc)

keyword_code : (sort : Sort) → is_keyword sort ≡ true → is_comment sort ≡ false
keyword_code sorts.Comment k = absurd (cc)
keyword_code sorts.CommentTemplate k = absurd (cc)
keyword_code _ k = refl

head_by : {plains : List Plain} {frames : List Frame} {state : State} {at to : ℕ} {tokens : List Written}
    (end : State)
    → Reads plains state at tokens end to → Within modes.Raw frames end → precedes_text end.before ≡ true
    → HeadTold plains modes.Raw frames state at tokens to
head_by end (lexemes, passed) within before =
    record { told = record { lexemes = lexemes; end = end; passed = passed; within = within }; before = before }

-- a `#{` directly behind an `@`, or behind its `-`
insert_here : {frames : List Frame} (state : State) → Within modes.Raw frames state → (plains : List Plain) (at : ℕ)
    → state.word ≡ false
    → (is state.before terminals.AtInsert || is state.before terminals.WordMinus) ≡ true → spaced_at plains at ≡ false
    → sort_at plains at ≡ sorts.OpenInsert → terminal_of state plains at ≡ terminals.WordInsert
insert_here state within plains at word b s e =
    by_insert state plains at e
    ∙ if_false (continues state plains at) terminals.PartInsert _ (never state plains at word)
    ∙ ap (λ (m : Mode). insert_in (record state { mode = m }) plains at) within.mode_is
    ∙ if_true (names_rule state plains at) terminals.WordInsert _ (both _ _ b (ap not s))

minus_here : {frames : List Frame} (state : State) → Within modes.Raw frames state → (plains : List Plain) (at : ℕ)
    → state.word ≡ false
    → (is state.before terminals.AtInsert || is state.before terminals.WordMinus) ≡ true → spaced_at plains at ≡ false
    → is_direct plains (at + 1) sorts.OpenInsert ≡ true
    → sort_at plains at ≡ sorts.Minus → terminal_of state plains at ≡ terminals.WordMinus
minus_here state within plains at word b s d e =
    by_minus state plains at e
    ∙ if_false (continues state plains at) terminals.Part _ (never state plains at word)
    ∙ if_true (is_text state.mode) _ _ (ap is_text within.mode_is)
    ∙ if_true (names_rule state plains at && is_direct plains (at + 1) sorts.OpenInsert) terminals.WordMinus _
    (both _ _ (both _ _ b (ap not s)) d)

insert_stands : (plains : List Plain) (at to : ℕ) (terminal : Terminal) (inner parts : List Written)
    → Stand plains at (inserted false terminal inner parts) to → is_direct plains at sorts.OpenInsert ≡ true
insert_stands plains at to terminal inner parts stand =
    both _ _ (ap not stand.0.spaced) (ap (λ (s : Sort). same s sorts.OpenInsert) stand.0.sort)

-- behind the `@`, a `#{` and what goes on with it
rule_name : {frames : List Frame} {plains : List Plain} {at to : ℕ} (state : State) → Within modes.Raw frames state
    → (inner parts : List Written) → Items inner → Parts parts → state.word ≡ false
    → (is state.before terminals.AtInsert || is state.before terminals.WordMinus) ≡ true
    → Stand plains at (inserted false terminals.WordInsert inner parts) to
    → PartsTold precedes_text plains modes.Raw frames state at (inserted false terminals.WordInsert inner parts) to
rule_name {frames} {plains} {at} {to} state within inner parts inside more word b stand =
    insert_and precedes_text refl refl state false terminals.WordInsert inner parts within refl
    (record {
      opened = refl;
      begins = refl;
      leads = record { before = refl; operand = refl; comma = refl };
      word = refl;
    })
    (inner_told inside) (parts_told more) stand
    (insert_here state within plains at word b stand.0.spaced stand.0.sort)

-- before anything but a `#{`
pub heads_told : {tokens : List Written} → TextHead tokens → (plains : List Plain) (frames : List Frame) (state : State)
    (at to : ℕ) → AreKeywords plains → Starts frames state → Stand plains at tokens to
    → is_direct plains to sorts.OpenInsert ≡ false
    → HeadTold plains modes.Raw frames state at tokens to
heads_told (text_head {spaced} sort t) plains frames state at to keywords starts (there, e) blank =
    let f = text_rule_is sort t in
    let apart = ap (λ (k : ℕ). is_direct plains k sorts.OpenInsert) e ∙ blank in
    let first = first_told {mode = modes.Raw} plains state at (written sort spaced (text_rule sort)) (text_rule sort)
    starts there f.code (text_mode plains at sort t there.sort) refl f.goes f.begins
    (text_here plains at apart (placed_as state plains at modes.Raw) starts.start sort t there.sort) refl in
    head_by first.end (join first.reads (stay_at e)) first.within (ap precedes_text first.before ∙ f.before)
heads_told (named_head {spaced} {parts} more) plains frames state at to keywords starts (there, stand) blank =
    let first = first_told {mode = modes.Raw} plains state at (written sorts.AtName spaced terminals.AtOther)
    terminals.AtOther starts there refl (name_mode plains at there.sort) refl refl refl
    (name_here plains at (placed_as state plains at modes.Raw) starts.start there.sort) refl in
    let t = parts_told more precedes_text refl refl modes.Raw plains frames first.end (at + 1) to first.within (ap precedes_text first.before)
    first.goes_on stand in
    head_by t.told.end (join first.reads (reads t.told)) t.told.within t.before
heads_told (keyword_head {spaced} {inner} {parts} sort k inside more) plains frames state at to keywords starts
    (there, stand) blank =
    let insert = insert_stands plains (at + 1) to terminals.PartInsert inner parts stand in
    let first = first_told {mode = modes.Raw} plains state at (written sort spaced terminals.AtOther)
    terminals.AtOther starts there (keyword_code sort k) (keyword_mode plains at insert sort k there.sort) refl refl refl
    (keyword_here plains at insert (placed_as state plains at modes.Raw) starts.start
    (keywords at (ap is_keyword there.sort ∙ k)) sort k there.sort) refl in
    let t = parts_told (part_insert inside more) precedes_text refl refl modes.Raw plains frames first.end (at + 1) to first.within
    (ap precedes_text first.before) first.goes_on stand in
    head_by t.told.end (join first.reads (reads t.told)) t.told.within t.before
heads_told (inserted_head {spaced} {inner} {parts} inside more) plains frames state at to keywords starts
    (there, stand) blank =
    let first = first_told {mode = modes.Raw} plains state at (written sorts.At spaced terminals.AtInsert)
    terminals.AtInsert starts there refl (at_mode plains at there.sort) refl refl refl
    (at_here plains at (placed_as state plains at modes.Raw) starts.start there.sort) refl in
    let t = rule_name first.end first.within inner parts inside more first.goes_on
    (ap (λ (x : Terminal). is x terminals.AtInsert || is x terminals.WordMinus) first.before) stand in
    head_by t.told.end (join first.reads (reads t.told)) t.told.within t.before
heads_told (minus_head {spaced} {inner} {parts} inside more) plains frames state at to keywords starts
    (there, (minus, stand)) blank =
    let first = first_told {mode = modes.Raw} plains state at (written sorts.At spaced terminals.AtInsert)
    terminals.AtInsert starts there refl (at_mode plains at there.sort) refl refl refl
    (at_here plains at (placed_as state plains at modes.Raw) starts.start there.sort) refl in
    let insert = insert_stands plains ((at + 1) + 1) to terminals.WordInsert inner parts stand in
    let is_minus = minus_here first.end first.within plains (at + 1) first.goes_on
    (ap (λ (x : Terminal). is x terminals.AtInsert || is x terminals.WordMinus) first.before) minus.spaced insert
    minus.sort in
    let n = next first.end first.within refl terminals.WordMinus refl refl in
    let s1 = after first.end terminals.WordMinus in
    let t = rule_name s1 n.within inner parts inside more n.word
    (ap (λ (x : Terminal). is x terminals.AtInsert || is x terminals.WordMinus) n.before) stand in
    head_by t.told.end
    (join first.reads
    (join (step plains first.end (at + 1) (direct sorts.Minus terminals.WordMinus) terminals.WordMinus first.within minus
    refl is_minus one_of) (reads t.told))) t.told.within t.before

pub text_heads_are_told : TextHeadsAreTold
text_heads_are_told tokens head plains frames state at to keywords starts stand blank =
    heads_told head plains frames state at to keywords starts stand (no_and _ _ (ap not blank))
