-- What goes on with a word is told in every mode.
use Rattle.std.proofs.Common.{◌≡◌, ◌⊎◌, ℕ, ◌+◌, Bool, true, false, not, List, [], ◌∷◌, ◌++◌, Some, inl, inr, refl, sym, ◌∙◌, ap, subst}
use Rattle.sw_text_scan.proofs.Bounds.{if_true}
use Rattle.sw_parse_terminals.specs.declared.terminal.Terminal.{Terminal}
use Rattle.sw_parse_terminals.specs.declared.terminal.Terminal.TheVariants as terminals
use Rattle.sw_parse_lexemes.specs.declared.sort.Sort.{Sort}
use Rattle.sw_parse_lexemes.specs.declared.sort.Sort.TheVariants as sorts
use Rattle.sw_parse_lexemes.specs.declared.plain.Plain.{Plain}
use Rattle.sw_parse_lexemes.specs.declared.state.Mode.{Mode}
use Rattle.sw_parse_lexemes.specs.declared.state.Mode.TheVariants as modes
use Rattle.sw_parse_lexemes.specs.declared.state.Bracket.{Bracket}
use Rattle.sw_parse_lexemes.specs.declared.state.Frame.{Frame}
use Rattle.sw_parse_lexemes.specs.declared.state.State.{State}
use Rattle.sw_parse_lexemes.specs.Classes.{is_name, is_comment}
use Rattle.sw_parse_lexemes.specs.Ahead.{sort_at}
use Rattle.sw_parse_lexemes.specs.Names.{continues}
use Rattle.sw_parse_lexemes.specs.Terminals.{terminal_of}
use Rattle.sw_parse_lexemes.specs.Steps.{opened_by, inner_mode, further_mode, begins_statement, stepped, opened, after_opening, after}
use Rattle.sw_parse_lexemes.proofs.NameLaws.{name_there}
use Rattle.sw_convert_passing.specs.Written.{Written, direct, Stand, Within}
use Rattle.sw_convert_passing.specs.Places.{Told}
use Rattle.sw_convert_passing.specs.Kinds.{is_part}
use Rattle.sw_convert_passing.specs.Values.{inserted, Parts, no_part, part, part_insert}
use Rattle.sw_convert_passing.proofs.Facts.{both}
use Rattle.sw_convert_passing.proofs.Steps.{Reads, join, step, stay_at, Next, framed}
use Rattle.sw_convert_passing.proofs.BySort.{by_digits, by_minus, by_insert}
use Rattle.sw_convert_passing.proofs.Entries.{reads, one_of}
use Rattle.sw_convert_passing.proofs.Enclosed.{IsInner, Inserting, insert_round, and_rest}
use Rattle.sw_convert_passing.proofs.Told.{inner_told}

-- the state behind a terminal, by what it is
pub turned : {mode : Mode} {frames : List Frame} (state : State) (terminal : Terminal) (word : Bool)
    → after state terminal ≡ stepped state mode word terminal → state.frames ≡ frames → begins_statement terminal ≡ false
    → Next mode frames state terminal word
turned {mode} {frames} state terminal word e frames_are b = record {
  before = ap (λ (s : State). s.before) e;
  word = ap (λ (s : State). s.word) e;
  within = subst (Within mode frames) (sym e)
      (record { mode_is = refl; frames_are = frames_are; no_start = b; no_comment = refl });
}

part_further : (mode : Mode) → further_mode mode terminals.Part ≡ mode
part_further modes.Each = refl
part_further modes.For = refl
part_further modes.Else = refl
part_further modes.CustomName = refl
part_further _ = refl

part_after : (state : State)
    → after state terminals.Part ≡ stepped state (further_mode state.mode terminals.Part) true terminals.Part
unfolding after
part_after state = refl

part_next : {mode : Mode} {frames : List Frame} (state : State) → Within mode frames state
    → Next mode frames state terminals.Part true
part_next state within =
    turned state terminals.Part true
    (part_after state
    ∙ ap (λ (m : Mode). stepped state m true terminals.Part) (part_further state.mode ∙ within.mode_is))
    within.frames_are refl

-- a bracket may be the first token of a statement
opening_is : (state : State) (terminal : Terminal) (kind : Bracket) → opened_by terminal ≡ Some kind
    → after state terminal ≡ stepped (opened state kind terminal) (inner_mode state.mode terminal) false terminal
unfolding after
opening_is state terminal kind o = ap (after_opening state terminal) o

pub opens_from : {mode : Mode} {frames : List Frame} (state : State) → state.mode ≡ mode → state.frames ≡ frames
    → (terminal : Terminal) (kind : Bracket) (inner : Mode) → opened_by terminal ≡ Some kind
    → begins_statement terminal ≡ false → inner_mode mode terminal ≡ inner
    → Next inner (frames ++ framed kind terminal mode ∷ []) state terminal false
opens_from {mode} {frames} state mode_is frames_are terminal kind inner o b m =
    let e = opening_is state terminal kind o in record {
      before = ap (λ (s : State). s.before) e;
      word = ap (λ (s : State). s.word) e;
      within = subst (Within inner (frames ++ framed kind terminal mode ∷ [])) (sym e) (record {
        mode_is = ap (λ (n : Mode). inner_mode n terminal) mode_is ∙ m;
        frames_are = ap (λ (n : Mode). state.frames ++ framed kind terminal n ∷ []) mode_is
            ∙ ap (λ (x : List Frame). x ++ framed kind terminal mode ∷ []) frames_are;
        no_start = b;
        no_comment = refl;
      });
    }

-- parts are told, and a word may go on behind them; what is known of the terminal before them is known of that behind
pub record PartsTold (test : Terminal → Bool) (plains : List Plain) (mode : Mode) (frames : List Frame)
    (state : State) (at : ℕ)
    (tokens : List Written) (to : ℕ) : Type 0 where
  pub told : Told plains mode frames state at tokens to
  pub before : test told.end.before ≡ true
  pub word : told.end.word ≡ true

pub parts_by : {test : Terminal → Bool} {plains : List Plain} {mode : Mode} {frames : List Frame} {state : State} {at to : ℕ}
    {tokens : List Written}
    (end : State) → Reads plains state at tokens end to → Within mode frames end → test end.before ≡ true
    → end.word ≡ true → PartsTold test plains mode frames state at tokens to
parts_by end (lexemes, passed) within before word = record {
  told = record { lexemes = lexemes; end = end; passed = passed; within = within };
  before = before;
  word = word;
}

abbrev pub ArePartsTold : List Written → Type 0
ArePartsTold tokens =
    (test : Terminal → Bool) → test terminals.Part ≡ true → test terminals.InsertEnd ≡ true → (mode : Mode)
    (plains : List Plain) (frames : List Frame) (state : State) (at to : ℕ) → Within mode frames state
    → test state.before ≡ true → state.word ≡ true → Stand plains at tokens to
    → PartsTold test plains mode frames state at tokens to

part_code : (sort : Sort) → is_part sort ≡ true → is_comment sort ≡ false
part_code sorts.Comment e = absurd (cc)
part_code sorts.CommentTemplate e = absurd (cc)
part_code _ e = refl

part_kinds : (sort : Sort) → is_part sort ≡ true
    → ((sort ≡ sorts.Digits) ⊎ (sort ≡ sorts.Minus)) ⊎ (is_name sort ≡ true)
part_kinds sorts.Digits e = inl (inl refl)
part_kinds sorts.Minus e = inl (inr refl)
part_kinds _ e = inr e

part_is : (state : State) (plains : List Plain) (at : ℕ) → continues state plains at ≡ true
    → ((sort_at plains at ≡ sorts.Digits) ⊎ (sort_at plains at ≡ sorts.Minus)) ⊎ (is_name (sort_at plains at) ≡ true)
    → terminal_of state plains at ≡ terminals.Part
part_is state plains at c (inl (inl e)) =
    by_digits state plains at e ∙ if_true (continues state plains at) terminals.Part _ c
part_is state plains at c (inl (inr e)) =
    by_minus state plains at e ∙ if_true (continues state plains at) terminals.Part _ c
part_is state plains at c (inr n) =
    name_there state plains at n ∙ if_true (continues state plains at) terminals.Part _ c

part_inner : (mode : Mode) → inner_mode mode terminals.PartInsert ≡ modes.Expression
part_inner modes.Media = refl
part_inner _ = refl

part_insert_here : (state : State) (plains : List Plain) (at : ℕ) → sort_at plains at ≡ sorts.OpenInsert
    → continues state plains at ≡ true → terminal_of state plains at ≡ terminals.PartInsert
part_insert_here state plains at e c =
    by_insert state plains at e ∙ if_true (continues state plains at) terminals.PartInsert _ c

-- a `#{}` in a word, and what goes on behind it
pub insert_and : (test : Terminal → Bool) → test terminals.Part ≡ true → test terminals.InsertEnd ≡ true → {mode : Mode} {frames : List Frame} {plains : List Plain} {at to : ℕ} (state : State) (spaced : Bool)
    (terminal : Terminal) (inner parts : List Written) → Within mode frames state
    → inner_mode mode terminal ≡ modes.Expression → Inserting terminal true → IsInner inner → ArePartsTold parts
    → Stand plains at (inserted spaced terminal inner parts) to → terminal_of state plains at ≡ terminal
    → PartsTold test plains mode frames state at (inserted spaced terminal inner parts) to
insert_and test p i {mode} {frames} {plains} {at} {to} state spaced terminal inner parts within inside how told more stand
    is_opening =
    let r = insert_round state spaced true terminal inner parts within inside how told stand is_opening in
    let t = more test p i mode plains frames r.end r.place to r.within (ap test r.before ∙ i) r.word r.others in
    parts_by t.told.end (and_rest spaced terminal inner parts r.reads (reads t.told)) t.told.within t.before t.word

pub parts_told : {tokens : List Written} → Parts tokens → ArePartsTold tokens
parts_told no_part test p i mode plains frames state at to within before word stand =
    parts_by state (stay_at stand) within before word
parts_told (part {parts} sort p more) test q i mode plains frames state at to within before word (there, stand) =
    let further : continues state plains at ≡ true = both state.word _ word (ap not there.spaced) in
    let is_one = part_is state plains at further (part_kinds (sort_at plains at) (ap is_part there.sort ∙ p)) in
    let n = part_next state within in
    let t = parts_told more test q i mode plains frames (after state terminals.Part) (at + 1) to n.within
    (ap test n.before ∙ q) n.word stand in
    parts_by t.told.end
    (join (step plains state at (direct sort terminals.Part) terminals.Part within there (part_code sort p) is_one
    one_of) (reads t.told)) t.told.within t.before t.word
parts_told (part_insert {inner} {parts} inside more) test p i mode plains frames state at to within before word stand =
    insert_and test p i state false terminals.PartInsert inner parts within (part_inner mode)
    (record {
      opened = refl;
      begins = refl;
      leads = record { before = refl; operand = refl; comma = refl };
      word = refl;
    })
    (inner_told inside) (parts_told more) stand
    (part_insert_here state plains at stand.0.sort (both state.word _ word (ap not stand.0.spaced)))
