-- The heads of statements in which a value stands.
use Rattle.std.proofs.Common.{◌≡◌, ℕ, zero, suc, ◌+◌, ◌-◌, Bool, true, false, not, ◌&&◌, ◌||◌, List, [], ◌∷◌, length, Option, Some, None, inl, refl, sym, ◌∙◌, ap, subst, arith}
use Rattle.sw_text_scan.proofs.Bounds.{if_true, if_false}
use Rattle.sw_parse_terminals.specs.declared.terminal.Terminal.{Terminal}
use Rattle.sw_parse_terminals.specs.declared.terminal.Terminal.TheVariants as terminals
use Rattle.sw_parse_lexemes.specs.declared.sort.Sort.{Sort}
use Rattle.sw_parse_lexemes.specs.declared.sort.Sort.TheVariants as sorts
use Rattle.sw_parse_lexemes.specs.declared.plain.Plain.{Plain}
use Rattle.sw_parse_lexemes.specs.declared.state.Mode.{Mode}
use Rattle.sw_parse_lexemes.specs.declared.state.Mode.TheVariants as modes
use Rattle.sw_parse_lexemes.specs.declared.state.Walk.TheVariants as walks
use Rattle.sw_parse_lexemes.specs.declared.state.Frame.{Frame}
use Rattle.sw_parse_lexemes.specs.declared.state.State.{State}
use Rattle.sw_parse_lexemes.specs.Classes.{same, is_name, is_reserved, is_comment}
use Rattle.sw_parse_lexemes.specs.Ahead.{sort_at, spaced_at, is_direct, in_insert, over_word, walk_by, walk_from, code_from, behind_first, begins_word}
use Rattle.sw_parse_lexemes.specs.Modes.{declared_mode, plain_mode, statement_mode}
use Rattle.sw_parse_lexemes.specs.Names.{is, is_bang, is_apart, is_special_name, continues, behind_dollar, behind_bang, constant_or_word}
use Rattle.sw_parse_lexemes.specs.Signs.{ends_operand, is_text}
use Rattle.sw_parse_lexemes.specs.Terminals.{goes_on, terminal_of}
use Rattle.sw_parse_lexemes.specs.Steps.{begins_statement, in_word, comments_at, placed, passes, stays, after}
use Rattle.sw_parse_lexemes.proofs.NameLaws.{name_there}
use Rattle.sw_convert_passing.specs.Written.{Written, written, direct, Among, IsThere, Stand, Within}
use Rattle.sw_convert_passing.specs.Places.{may_precede}
use Rattle.sw_convert_passing.specs.Heads.{Starts, is_property, takes_value, at_rule, Head, variable_head, property_head, at_rule_head, HeadTold, HeadsAreTold}
use Rattle.sw_convert_passing.proofs.Facts.{no_and, and_no, both, and_left, and_right, word_of, name_code}
use Rattle.sw_convert_passing.proofs.Steps.{Reads, join, step, start_step, stay_at, next, next_from}
use Rattle.sw_convert_passing.proofs.Walks.{is_code, code_stays}
use Rattle.sw_convert_passing.proofs.BySort.{by_dollar, lone_here}
use Rattle.sw_convert_passing.proofs.Tokens.{variable_name_here}
use Rattle.sw_convert_passing.proofs.Entries.{one_of}
use Rattle.sw_convert_passing.proofs.Leaves.{never}

-- where a statement begins nothing goes on
pub record Begun (before : Terminal) : Type 0 where
  pub dollar : behind_dollar before ≡ false
  pub hash : is before terminals.Hash ≡ false
  pub bang : is_bang before ≡ false
  pub owned : is before terminals.OwnerDot ≡ false

pub begun : (before : Terminal) → begins_statement before ≡ true → Begun before
begun terminals.Semicolon b = record { dollar = refl; hash = refl; bang = refl; owned = refl }
begun terminals.Open b = record { dollar = refl; hash = refl; bang = refl; owned = refl }
begun terminals.Close b = record { dollar = refl; hash = refl; bang = refl; owned = refl }
begun terminals.CommentWhole b = record { dollar = refl; hash = refl; bang = refl; owned = refl }
begun terminals.CommentEnd b = record { dollar = refl; hash = refl; bang = refl; owned = refl }
begun _ b = absurd (cc)

-- a statement's first token is read in the mode of the statement
abbrev pub placed_as : State → List Plain → ℕ → Mode → State
placed_as state plains at mode =
    record state { mode = mode; comments = comments_at state.comments plains at }

pub placed_is : (state : State) (plains : List Plain) (at : ℕ) (mode : Mode) → state.start ≡ true
    → statement_mode plains at ≡ mode → placed state plains at ≡ placed_as state plains at mode
unfolding placed
placed_is state plains at mode start m =
    if_true state.start (placed_as state plains at (statement_mode plains at)) state start
    ∙ ap (placed_as state plains at) m

-- the first token, and the state behind it
pub record FirstTold (plains : List Plain) (mode : Mode) (frames : List Frame) (state : State) (at : ℕ) (one : Written)
    (terminal : Terminal) (word : Bool) : Type 0 where
  pub end : State
  pub reads : Reads plains state at (one ∷ []) end (at + 1)
  pub within : Within mode frames end
  pub before : end.before ≡ terminal
  pub goes_on : end.word ≡ word

pub first_told : {mode : Mode} {frames : List Frame} (plains : List Plain) (state : State) (at : ℕ) (one : Written)
    (terminal : Terminal) → Starts frames state → IsThere plains at one → is_comment one.sort ≡ false
    → statement_mode plains at ≡ mode → stays mode ≡ true → passes terminal ≡ true → begins_statement terminal ≡ false
    → terminal_of (placed_as state plains at mode) plains at ≡ terminal → one.may_be ≡ terminal ∷ []
    → FirstTold plains mode frames state at one terminal (in_word terminal)
first_told {mode} {frames} plains state at one terminal starts there code m steady p b told may_be =
    let e = placed_is state plains at mode starts.start m in
    let n = next_from {mode = mode} {frames = frames} (placed_as state plains at mode) refl starts.frames_are steady
    terminal p b in
    record {
      end = after (placed_as state plains at mode) terminal;
      reads = subst (λ (s : State). Reads plains state at (one ∷ []) (after s terminal) (at + 1)) e
          (start_step plains state at one terminal starts.start starts.no_comment there code
          (ap (λ (s : State). terminal_of s plains at) e ∙ told)
          (subst (Among terminal) (sym may_be) (inl refl)));
      within = n.within;
      before = n.before;
      goes_on = n.word;
    }

pub head_told : {plains : List Plain} {mode : Mode} {frames : List Frame} {state : State} {at to : ℕ}
    {tokens : List Written}
    (end : State) (terminal : Terminal) → Reads plains state at tokens end to → Within mode frames end
    → end.before ≡ terminal → end.word ≡ false → may_precede terminal ≡ true → ends_operand terminal ≡ false
    → is terminal terminals.Comma ≡ false → HeadTold plains mode frames state at tokens to
head_told end terminal (lexemes, passed) within before word m o c = record {
  told = record { lexemes = lexemes; end = end; passed = passed; within = within };
  before = ap may_precede before ∙ m;
  operand = ap ends_operand before ∙ o;
  comma = ap (λ (t : Terminal). is t terminals.Comma) before ∙ c;
  word = word;
}

two : (at : ℕ) → at + 2 ≡ (at + 1) + 1
two at = omega arith

-- `$name:`
dollar_mode : (plains : List Plain) (at : ℕ) → sort_at plains at ≡ sorts.Dollar → statement_mode plains at ≡ modes.Ends
unfolding statement_mode
dollar_mode plains at e = rw (e, statement_mode) refl

variable_told : {frames : List Frame} {spaced : Bool} (plains : List Plain) (state : State) (at to : ℕ) (name : Sort)
    → is_name name ≡ true → Starts frames state
    → Stand plains at (written sorts.Dollar spaced terminals.DollarNamed ∷ direct name terminals.VariableName
    ∷ direct sorts.Colon terminals.Colon ∷ []) to
    → HeadTold plains modes.Ends frames state at
    (written sorts.Dollar spaced terminals.DollarNamed ∷ direct name terminals.VariableName
    ∷ direct sorts.Colon terminals.Colon ∷ []) to
variable_told {frames} {spaced} plains state at to name n starts (there, (second, (third, e))) =
    let facts = begun state.before starts.before in
    let s0 = placed_as state plains at modes.Ends in
    let colon : same (sort_at plains (code_from plains (at + 2))) sorts.Colon ≡ true =
    ap (λ (k : ℕ). same (sort_at plains (code_from plains k)) sorts.Colon) (two at)
    ∙ ap (λ (k : ℕ). same (sort_at plains k) sorts.Colon)
    (code_stays plains ((at + 1) + 1) (ap is_code third.sort))
    ∙ ap (λ (s : Sort). same s sorts.Colon) third.sort in
    let told = by_dollar s0 plains at there.sort
    ∙ if_false (is state.before terminals.OwnerDot && not (spaced_at plains at)) terminals.OwnerDollar _
    (no_and _ _ facts.owned)
    ∙ if_true (same (sort_at plains (code_from plains (at + 2))) sorts.Colon) terminals.DollarNamed
    terminals.Dollar
    colon in
    let first = first_told {mode = modes.Ends} plains state at (written sorts.Dollar spaced terminals.DollarNamed)
    terminals.DollarNamed starts there refl (dollar_mode plains at there.sort) refl refl refl told refl in
    let named = variable_name_here refl first.end first.within plains (at + 1) (ap is_name second.sort ∙ n)
    (never first.end plains (at + 1) first.goes_on) (ap behind_dollar first.before) second.spaced in
    let n2 = next first.end first.within refl terminals.VariableName refl refl in
    let s2 = after first.end terminals.VariableName in
    let is_colon = lone_here s2 plains ((at + 1) + 1) (ap is_text n2.within.mode_is) sorts.Colon refl third.sort in
    let n3 = next s2 n2.within refl terminals.Colon refl refl in
    head_told (after s2 terminals.Colon) terminals.Colon
    (join first.reads (join (step plains first.end (at + 1) (direct name terminals.VariableName) terminals.VariableName
    first.within second (name_code name n) named one_of)
    (join (step plains s2 ((at + 1) + 1) (direct sorts.Colon terminals.Colon) terminals.Colon n2.within third refl
    is_colon
    one_of) (stay_at e)))) n3.within n3.before n3.word refl refl refl

-- the word that begins a declaration ends at its `:`
word_ends : (plains : List Plain) (n at : ℕ) → sort_at plains at ≡ sorts.Colon → walk_by walks.Word plains n 0 at ≡ at
word_ends plains zero at e = refl
word_ends plains (suc n) at e =
    ap (λ (more : Option ℕ). elim more as (λ _. ℕ) [ None ↦ at | Some k ↦ walk_by walks.Word plains n k (at + 1) ])
    (ap (λ (s : Sort). over_word s (spaced_at plains at) 0) e ∙ none (spaced_at plains at))
  where
    none : (b : Bool) → over_word sorts.Colon b 0 ≡ None
    none true = refl
    none false = refl

pub name_inserts_nothing : (sort : Sort) → is_name sort ≡ true → in_insert sort 0 ≡ 0
name_inserts_nothing sorts.OpenInsert n = absurd (cc)
name_inserts_nothing sorts.CloseInsert n = absurd (cc)
name_inserts_nothing _ n = refl

behind_name : (plains : List Plain) (at : ℕ) → is_name (sort_at plains at) ≡ true
    → sort_at plains (at + 1) ≡ sorts.Colon
    → code_from plains (behind_first plains at) ≡ at + 1
unfolding walk_from
behind_name plains at n e =
    ap (λ (count : ℕ). code_from plains (walk_by walks.Word plains (length plains - (at + 1)) count (at + 1)))
    (name_inserts_nothing (sort_at plains at) n)
    ∙ ap (code_from plains) (word_ends plains (length plains - (at + 1)) (at + 1) e)
    ∙ code_stays plains (at + 1) (ap is_code e)

record Property (sort : Sort) : Type 0 where
  named : is_name sort ≡ true
  free : is_reserved sort ≡ false

not_true : (b : Bool) → not b ≡ true → b ≡ false
not_true true e = absurd (cc)
not_true false e = refl

property_facts : (sort : Sort) → (is_name sort && not (is_reserved sort)) ≡ true → Property sort
property_facts sort p = record {
  named = and_left (is_name sort) _ p;
  free = not_true (is_reserved sort) (and_right (is_name sort) _ p);
}

property_is : (sort : Sort) → is_property sort ≡ true → Property sort
property_is sorts.DashedName p = absurd (cc)
property_is sort p = property_facts sort p

pub moded : (plains : List Plain) (at : ℕ) (sort : Sort) (mode : Mode) → sort_at plains at ≡ sort → is_property sort ≡ true
    → plain_mode plains at ≡ mode → statement_mode plains at ≡ mode
unfolding statement_mode
moded plains at sorts.Name mode e p t = rw (e, statement_mode) t
moded plains at sorts.As mode e p t = rw (e, statement_mode) t
moded plains at sorts.With mode e p t = rw (e, statement_mode) t
moded plains at sorts.Show mode e p t = rw (e, statement_mode) t
moded plains at sorts.Hide mode e p t = rw (e, statement_mode) t
moded plains at sorts.Using mode e p t = rw (e, statement_mode) t
moded plains at sorts.If mode e p t = rw (e, statement_mode) t
moded plains at sorts.In mode e p t = rw (e, statement_mode) t
moded plains at sorts.From mode e p t = rw (e, statement_mode) t
moded plains at sorts.Through mode e p t = rw (e, statement_mode) t
moded plains at sorts.To mode e p t = rw (e, statement_mode) t
moded plains at sorts.Only mode e p t = rw (e, statement_mode) t
moded plains at sorts.Important mode e p t = rw (e, statement_mode) t
moded plains at sorts.Default mode e p t = rw (e, statement_mode) t
moded plains at sorts.Global mode e p t = rw (e, statement_mode) t
moded plains at sorts.Special mode e p t = rw (e, statement_mode) t
moded plains at sorts.Stays mode e p t = rw (e, statement_mode) t
moded plains at _ mode e p t = absurd (cc)

or_left : (a b : Bool) → a ≡ true → (a || b) ≡ true
or_left true b e = refl
or_left false b e = absurd (cc)

-- `name:` and white space
module _ (plains : List Plain) (at : ℕ) (sort : Sort) (property : is_property sort ≡ true)
    (e : sort_at plains at ≡ sort)
    (colon : sort_at plains (at + 1) ≡ sorts.Colon) (spaced : spaced_at plains ((at + 1) + 1) ≡ true) where
  facts : Property sort
  facts = property_is sort property

  is_named : is_name (sort_at plains at) ≡ true
  is_named = ap is_name e ∙ facts.named

  is_free : is_reserved (sort_at plains at) ≡ false
  is_free = ap is_reserved e ∙ facts.free

  no_direct : (test : Sort) → same sorts.Colon test ≡ false → is_direct plains (at + 1) test ≡ false
  no_direct test n = and_no (not (spaced_at plains (at + 1))) _ (ap (λ (s : Sort). same s test) colon ∙ n)

  declares : declared_mode plains (at + 1) ≡ modes.Expression
  declares =
      if_true (same (sort_at plains (at + 1)) sorts.Colon && _) modes.Expression modes.Raw
      (both _ _ (ap (λ (s : Sort). same s sorts.Colon) colon) (ap not (no_and _ _ (no_and _ _ (ap not spaced)))))

  property_mode : statement_mode plains at ≡ modes.Expression
  property_mode =
      moded plains at sort modes.Expression e property
      (if_false (is_name (sort_at plains at) && is_direct plains (at + 1) sorts.Dot) _ _
      (and_no _ _ (no_direct sorts.Dot refl))
      ∙ if_true (begins_word plains at) _ modes.Raw
      (if_true (is_name (sort_at plains at)) _ _ is_named ∙ or_left _ _ (ap not is_free))
      ∙ ap (declared_mode plains) (behind_name plains at is_named colon) ∙ declares)

  property_word : {frames : List Frame} (state : State) → Starts frames state
      → terminal_of (placed_as state plains at modes.Expression) plains at ≡ terminals.Word
  property_word state starts =
      let before = begun state.before starts.before in
      let s0 = placed_as state plains at modes.Expression in
      name_there s0 plains at is_named
      ∙ if_false (continues s0 plains at) terminals.Part _ (no_and state.word _ starts.word)
      ∙ if_false (not (spaced_at plains at) && behind_dollar state.before) terminals.VariableName _
      (and_no _ _ before.dollar)
      ∙ if_false (not (spaced_at plains at) && is state.before terminals.Hash) terminals.HashName _
      (and_no _ _ before.hash)
      ∙ if_false (is_bang state.before) (behind_bang (sort_at plains at)) _ before.bang
      ∙ if_false (is_apart s0 plains at) terminals.Other _ (no_and _ _ before.owned)
      ∙ if_false (is_direct plains (at + 1) sorts.OpenInsert) terminals.Word _ (no_direct sorts.OpenInsert refl)
      ∙ if_false (is state.before terminals.OwnerDot) (constant_or_word (sort_at plains at)) _ before.owned
      ∙ if_false (is_direct plains (at + 1) sorts.Dot) terminals.Owner _ (no_direct sorts.Dot refl)
      ∙ if_false (is_special_name (sort_at plains at) && is_direct plains (at + 1) sorts.OpenParen) terminals.Special _
      (and_no _ _ (no_direct sorts.OpenParen refl))
      ∙ word_of (sort_at plains at) is_free

property_told : {frames : List Frame} {spaced : Bool} (plains : List Plain) (state : State) (at to : ℕ) (name : Sort)
    → is_property name ≡ true → Starts frames state
    → Stand plains at (written name spaced terminals.Word ∷ direct sorts.Colon terminals.Colon ∷ []) to
    → spaced_at plains to ≡ true
    → HeadTold plains modes.Expression frames state at
    (written name spaced terminals.Word ∷ direct sorts.Colon terminals.Colon ∷ []) to
property_told {frames} {spaced} plains state at to name p starts (there, (second, e)) blank =
    let apart = ap (spaced_at plains) e ∙ blank in
    let first = first_told {mode = modes.Expression} plains state at (written name spaced terminals.Word)
    terminals.Word starts
    there (name_code name (property_is name p).named)
    (property_mode plains at name p there.sort second.sort apart) refl
    refl refl (property_word plains at name p there.sort second.sort apart state starts) refl in
    let is_colon = lone_here first.end plains (at + 1) (ap is_text first.within.mode_is) sorts.Colon refl second.sort in
    let n2 = next first.end first.within refl terminals.Colon refl refl in
    head_told (after first.end terminals.Colon) terminals.Colon
    (join first.reads
    (join (step plains first.end (at + 1) (direct sorts.Colon terminals.Colon) terminals.Colon first.within
    second refl is_colon one_of) (stay_at e))) n2.within n2.before n2.word refl refl refl

-- the name of an at-rule
record AtRule (sort : Sort) : Type 0 where
  code : is_comment sort ≡ false
  goes : passes (at_rule sort) ≡ true
  begins : begins_statement (at_rule sort) ≡ false
  word : in_word (at_rule sort) ≡ false
  before : may_precede (at_rule sort) ≡ true
  operand : ends_operand (at_rule sort) ≡ false
  comma : is (at_rule sort) terminals.Comma ≡ false

at_rule_is : (sort : Sort) → takes_value sort ≡ true → AtRule sort
at_rule_is sorts.AtReturn t = record
    { code = refl; goes = refl; begins = refl; word = refl; before = refl; operand = refl; comma = refl }
at_rule_is sorts.AtWarn t = record
    { code = refl; goes = refl; begins = refl; word = refl; before = refl; operand = refl; comma = refl }
at_rule_is sorts.AtDebug t = record
    { code = refl; goes = refl; begins = refl; word = refl; before = refl; operand = refl; comma = refl }
at_rule_is sorts.AtError t = record
    { code = refl; goes = refl; begins = refl; word = refl; before = refl; operand = refl; comma = refl }
at_rule_is sorts.AtIf t = record
    { code = refl; goes = refl; begins = refl; word = refl; before = refl; operand = refl; comma = refl }
at_rule_is sorts.AtElseIf t = record
    { code = refl; goes = refl; begins = refl; word = refl; before = refl; operand = refl; comma = refl }
at_rule_is sorts.AtWhile t = record
    { code = refl; goes = refl; begins = refl; word = refl; before = refl; operand = refl; comma = refl }
at_rule_is _ t = absurd (cc)

module _ (plains : List Plain) (at : ℕ) (spaced : spaced_at plains (at + 1) ≡ true) where
  no_insert : is_direct plains (at + 1) sorts.OpenInsert ≡ false
  no_insert = no_and _ _ (ap not spaced)

  rule_mode : (sort : Sort) → takes_value sort ≡ true → sort_at plains at ≡ sort
      → statement_mode plains at ≡ modes.Expression
  unfolding statement_mode
  rule_mode sorts.AtReturn t e = rw (e, statement_mode)
      (if_false (is_direct plains (at + 1) sorts.OpenInsert) modes.Raw modes.Expression no_insert)
  rule_mode sorts.AtWarn t e = rw (e, statement_mode)
      (if_false (is_direct plains (at + 1) sorts.OpenInsert) modes.Raw modes.Expression no_insert)
  rule_mode sorts.AtDebug t e = rw (e, statement_mode)
      (if_false (is_direct plains (at + 1) sorts.OpenInsert) modes.Raw modes.Expression no_insert)
  rule_mode sorts.AtError t e = rw (e, statement_mode)
      (if_false (is_direct plains (at + 1) sorts.OpenInsert) modes.Raw modes.Expression no_insert)
  rule_mode sorts.AtIf t e = rw (e, statement_mode)
      (if_false (is_direct plains (at + 1) sorts.OpenInsert) modes.Raw modes.Expression no_insert)
  rule_mode sorts.AtElseIf t e = rw (e, statement_mode)
      (if_false (is_direct plains (at + 1) sorts.OpenInsert) modes.Raw modes.Expression no_insert)
  rule_mode sorts.AtWhile t e = rw (e, statement_mode)
      (if_false (is_direct plains (at + 1) sorts.OpenInsert) modes.Raw modes.Expression no_insert)
  rule_mode _ t e = absurd (cc)

  rule_here : (state : State) (sort : Sort) → takes_value sort ≡ true → state.start ≡ true → sort_at plains at ≡ sort
      → terminal_of (placed_as state plains at modes.Expression) plains at ≡ at_rule sort
  unfolding terminal_of
  rule_here state sorts.AtReturn t b e =
      rw (e, terminal_of) (if_true state.start _ _ b
      ∙ if_false (goes_on plains at) terminals.AtOther terminals.AtReturn (and_no _ _ no_insert))
  rule_here state sorts.AtWarn t b e =
      rw (e, terminal_of) (if_true state.start _ _ b
      ∙ if_false (goes_on plains at) terminals.AtOther terminals.AtWarn (and_no _ _ no_insert))
  rule_here state sorts.AtDebug t b e =
      rw (e, terminal_of) (if_true state.start _ _ b
      ∙ if_false (goes_on plains at) terminals.AtOther terminals.AtDebug (and_no _ _ no_insert))
  rule_here state sorts.AtError t b e =
      rw (e, terminal_of) (if_true state.start _ _ b
      ∙ if_false (goes_on plains at) terminals.AtOther terminals.AtError (and_no _ _ no_insert))
  rule_here state sorts.AtIf t b e =
      rw (e, terminal_of) (if_true state.start _ _ b
      ∙ if_false (goes_on plains at) terminals.AtOther terminals.AtIf (and_no _ _ no_insert))
  rule_here state sorts.AtElseIf t b e =
      rw (e, terminal_of) (if_true state.start _ _ b
      ∙ if_false (goes_on plains at) terminals.AtOther terminals.AtElseIfWhole (and_no _ _ no_insert))
  rule_here state sorts.AtWhile t b e =
      rw (e, terminal_of) (if_true state.start _ _ b
      ∙ if_false (goes_on plains at) terminals.AtOther terminals.AtWhile (and_no _ _ no_insert))
  rule_here state _ t b e = absurd (cc)

at_rule_told : {frames : List Frame} {spaced : Bool} (plains : List Plain) (state : State) (at to : ℕ) (sort : Sort)
    → takes_value sort ≡ true → Starts frames state → Stand plains at (written sort spaced (at_rule sort) ∷ []) to
    → spaced_at plains to ≡ true
    → HeadTold plains modes.Expression frames state at (written sort spaced (at_rule sort) ∷ []) to
at_rule_told {frames} {spaced} plains state at to sort t starts (there, e) blank =
    let facts = at_rule_is sort t in
    let apart = ap (spaced_at plains) e ∙ blank in
    let first = first_told {mode = modes.Expression} plains state at (written sort spaced (at_rule sort))
    (at_rule sort) starts
    there facts.code (rule_mode plains at apart sort t there.sort) refl facts.goes facts.begins
    (rule_here plains at apart state sort t starts.start there.sort) refl in
    head_told first.end (at_rule sort) (join first.reads (stay_at e)) first.within first.before
    (first.goes_on ∙ facts.word)
    facts.before facts.operand facts.comma

heads_told : {mode : Mode} {tokens : List Written} → Head mode tokens → (plains : List Plain) (frames : List Frame)
    (state : State) (at to : ℕ) → Starts frames state → Stand plains at tokens to → spaced_at plains to ≡ true
    → HeadTold plains mode frames state at tokens to
heads_told (variable_head name n) plains frames state at to starts stand blank =
    variable_told plains state at to name n starts stand
heads_told (property_head name p) plains frames state at to starts stand blank =
    property_told plains state at to name p starts stand blank
heads_told (at_rule_head sort t) plains frames state at to starts stand blank =
    at_rule_told plains state at to sort t starts stand blank

pub heads_are_told : HeadsAreTold
heads_are_told mode tokens head plains frames state at to starts stand blank =
    heads_told head plains frames state at to starts stand blank
