-- Features and conditions of media queries are told.
use Rattle.std.proofs.Common.{◌≡◌, ℕ, ◌+◌, Bool, true, false, not, ◌&&◌, ◌||◌, if◌then◌else◌, List, [], ◌∷◌, ◌++◌, Some, refl, sym, ◌∙◌, ap, subst, append-nil}
use Rattle.sw_text_scan.proofs.Bounds.{if_true, if_false}
use Rattle.sw_parse_terminals.specs.declared.terminal.Terminal.{Terminal}
use Rattle.sw_parse_terminals.specs.declared.terminal.Terminal.TheVariants as terminals
use Rattle.sw_parse_lexemes.specs.declared.sort.Sort.{Sort}
use Rattle.sw_parse_lexemes.specs.declared.sort.Sort.TheVariants as sorts
use Rattle.sw_parse_lexemes.specs.declared.plain.Plain.{Plain}
use Rattle.sw_parse_lexemes.specs.declared.state.Mode.{Mode}
use Rattle.sw_parse_lexemes.specs.declared.state.Mode.TheVariants as modes
use Rattle.sw_parse_lexemes.specs.declared.state.Bracket.TheVariants as brackets
use Rattle.sw_parse_lexemes.specs.declared.state.Frame.{Frame}
use Rattle.sw_parse_lexemes.specs.declared.state.State.{State}
use Rattle.sw_parse_lexemes.specs.Classes.{same, is_name, is_comment}
use Rattle.sw_parse_lexemes.specs.Ahead.{sort_at, spaced_at, is_direct, code_from, next_sort}
use Rattle.sw_parse_lexemes.specs.Names.{is, is_raw, is_bang, is_apart, continues, behind_dollar, behind_bang, constant_or_word, is_only, name_in_media, name_in}
use Rattle.sw_parse_lexemes.specs.Signs.{is_text, ends_operand, is_params, insert_in}
use Rattle.sw_parse_lexemes.specs.Brackets.{opens_condition, paren_in}
use Rattle.sw_parse_lexemes.specs.Terminals.{terminal_of}
use Rattle.sw_parse_lexemes.specs.Steps.{opened_by, begins_statement, in_word, inner_mode, passes, after}
use Rattle.sw_parse_lexemes.proofs.NameLaws.{name_there}
use Rattle.sw_convert_passing.specs.Written.{Written, written, direct, apart, Among, IsThere, Stand, Within}
use Rattle.sw_convert_passing.specs.Places.{may_precede, Ready, Told, IsClosed}
use Rattle.sw_convert_passing.specs.Values.{items, ahead, enclosed}
use Rattle.sw_convert_passing.proofs.Facts.{no_and, and_no}
use Rattle.sw_convert_passing.proofs.Steps.{Reads, join, step, stay_at, next, framed, opens, closes}
use Rattle.sw_convert_passing.proofs.Walks.{code_stays}
use Rattle.sw_convert_passing.proofs.Walks as walks
use Rattle.sw_convert_passing.proofs.BySort.{by_insert, by_paren}
use Rattle.sw_convert_passing.proofs.Entries.{split, closed_spaced, closed_stops, reads, one_of, led}
use Rattle.sw_convert_passing.proofs.Leaves.{never}
use Rattle.sw_convert_passing.proofs.Enclosed.{paren, closed_here, is_raw_bracket, insert_round, and_rest}
use Rattle.sw_convert_passing.proofs.Told.{values_are_told, inner_told}
use Rattle.sw_convert_heads_passing.specs.Media.{is_insert, opens_no_condition, is_code, Joins, and_joins, or_joins, Compared, one_side, equal_sides, Inside, feature_row, feature_compared, Feature, insert_feature, condition_feature, inside_feature, Features, no_feature, more_features, Condition, not_condition, joined_condition}
use Rattle.sw_convert_heads_passing.specs.Media as media

-- the terminals behind which a query goes on or begins
abbrev pub in_media : Terminal → Bool
in_media terminals.AtMedia = true
in_media terminals.Comma = true
in_media terminals.And = true
in_media terminals.Or = true
in_media terminals.Not = true
in_media terminals.NotType = true
in_media terminals.Only = true
in_media terminals.Word = true
in_media terminals.Part = true
in_media terminals.InsertEnd = true
in_media terminals.ParenEnd = true
in_media terminals.ConditionParen = true
in_media terminals.WordMinus = true
in_media _ = false

pub record Calm (before : Terminal) : Type 0 where
  pub dollar : behind_dollar before ≡ false
  pub hash : is before terminals.Hash ≡ false
  pub bang : is_bang before ≡ false
  pub owned : is before terminals.OwnerDot ≡ false
  pub special : is before terminals.Special ≡ false

pub calm : (before : Terminal) → in_media before ≡ true → Calm before
calm terminals.AtMedia m = record { dollar = refl; hash = refl; bang = refl; owned = refl; special = refl }
calm terminals.Comma m = record { dollar = refl; hash = refl; bang = refl; owned = refl; special = refl }
calm terminals.And m = record { dollar = refl; hash = refl; bang = refl; owned = refl; special = refl }
calm terminals.Or m = record { dollar = refl; hash = refl; bang = refl; owned = refl; special = refl }
calm terminals.Not m = record { dollar = refl; hash = refl; bang = refl; owned = refl; special = refl }
calm terminals.NotType m = record { dollar = refl; hash = refl; bang = refl; owned = refl; special = refl }
calm terminals.Only m = record { dollar = refl; hash = refl; bang = refl; owned = refl; special = refl }
calm terminals.Word m = record { dollar = refl; hash = refl; bang = refl; owned = refl; special = refl }
calm terminals.Part m = record { dollar = refl; hash = refl; bang = refl; owned = refl; special = refl }
calm terminals.InsertEnd m = record { dollar = refl; hash = refl; bang = refl; owned = refl; special = refl }
calm terminals.ParenEnd m = record { dollar = refl; hash = refl; bang = refl; owned = refl; special = refl }
calm terminals.ConditionParen m = record { dollar = refl; hash = refl; bang = refl; owned = refl; special = refl }
calm terminals.WordMinus m = record { dollar = refl; hash = refl; bang = refl; owned = refl; special = refl }
calm _ m = absurd (cc)

-- a part of a query may stand here
pub record Going (plains : List Plain) (frames : List Frame) (state : State) (at : ℕ) : Type 0 where
  pub within : Within modes.Media frames state
  pub before : in_media state.before ≡ true
  pub apart : continues state plains at ≡ false

-- tokens are told, and a query goes on behind them
pub record Gone (plains : List Plain) (frames : List Frame) (state : State) (at : ℕ) (tokens : List Written) (to : ℕ) :
    Type 0 where
  pub end : State
  pub reads : Reads plains state at tokens end to
  pub within : Within modes.Media frames end
  pub before : in_media end.before ≡ true

-- with white space before what follows, or behind what is no word
pub going : {plains : List Plain} {frames : List Frame} {state : State} {at to : ℕ} {tokens : List Written}
    (g : Gone plains frames state at tokens to)
    → spaced_at plains to ≡ true → Going plains frames g.end to
going {plains} {to = to} g s =
    record { within = g.within; before = g.before; apart = and_no g.end.word _ (ap not s) }

pub going_on : {plains : List Plain} {frames : List Frame} {state middle : State} {at place to : ℕ}
    {left right : List Written} → Reads plains state at left middle place → Gone plains frames middle place right to
    → Gone plains frames state at (left ++ right) to
going_on r g = record { end = g.end; reads = join r g.reads; within = g.within; before = g.before }

-- one token
module _ {frames : List Frame} (plains : List Plain) (state : State) (at : ℕ) (place : Going plains frames state at)
  where
    facts : Calm state.before
    facts = calm state.before place.before

    pub one_gone : (one : Written) (terminal : Terminal) → IsThere plains at one → is_comment one.sort ≡ false
        → terminal_of state plains at ≡ terminal → Among terminal one.may_be → passes terminal ≡ true
        → begins_statement terminal ≡ false → in_media terminal ≡ true
        → (g : Gone plains frames state at (one ∷ []) (at + 1)) × (g.end.before ≡ terminal)
        × (g.end.word ≡ in_word terminal)
    one_gone one terminal there code told among p b m =
        let n = next state place.within refl terminal p b in (
          record {
            end = after state terminal;
            reads = step plains state at one terminal place.within there code told among;
            within = n.within;
            before = ap in_media n.before ∙ m;
          },
          n.before,
          n.word,
        )

    pub name_here : is_name (sort_at plains at) ≡ true → terminal_of state plains at ≡ name_in_media state plains at
    name_here n =
        name_there state plains at n
        ∙ if_false (continues state plains at) terminals.Part _ place.apart
        ∙ if_false (is_raw state.mode) terminals.Raw _ (ap is_raw place.within.mode_is)
        ∙ if_false (not (spaced_at plains at) && behind_dollar state.before) terminals.VariableName _
        (and_no _ _ facts.dollar)
        ∙ if_false (not (spaced_at plains at) && is state.before terminals.Hash) terminals.HashName _
        (and_no _ _ facts.hash)
        ∙ if_false (is_bang state.before) (behind_bang (sort_at plains at)) _ facts.bang
        ∙ if_false (is_apart state plains at) terminals.Other _ (no_and _ _ facts.owned)
        ∙ ap (λ (m : Mode). name_in (record state { mode = m }) plains at) place.within.mode_is

    -- one that is none of `not` and `only`
    pub word_here : (sort : Sort) → is_name sort ≡ true → sort_at plains at ≡ sort
        → is_direct plains (at + 1) sorts.OpenInsert ≡ false → same sort sorts.Not ≡ false → is_only sort ≡ false
        → terminal_of state plains at ≡ constant_or_word sort
    word_here sort n e d no_not only =
        name_here (ap is_name e ∙ n)
        ∙ if_false (is_direct plains (at + 1) sorts.OpenInsert) terminals.Word _ d
        ∙ if_false (same (sort_at plains at) sorts.Not) _ _ (ap (λ (s : Sort). same s sorts.Not) e ∙ no_not)
        ∙ if_false (is_only (sort_at plains at)) _ _ (ap is_only e ∙ only) ∙ ap constant_or_word e

    -- `not` behind `and` and in a condition, and before a `(`
    pub not_here : sort_at plains at ≡ sorts.Not → is_direct plains (at + 1) sorts.OpenInsert ≡ false
        → (b : Bool)
        → (is state.before terminals.And
        || (is state.before terminals.ConditionParen || same (next_sort plains at) sorts.OpenParen)) ≡ b
        → terminal_of state plains at ≡ (if b then terminals.Not else terminals.NotType)
    not_here e d b c =
        name_here (ap is_name e) ∙ if_false (is_direct plains (at + 1) sorts.OpenInsert) terminals.Word _ d
        ∙ if_true (same (sort_at plains at) sorts.Not) _ _ (ap (λ (s : Sort). same s sorts.Not) e)
        ∙ ap (λ (x : Bool). if x then terminals.Not else terminals.NotType) c

    pub insert_here : sort_at plains at ≡ sorts.OpenInsert → terminal_of state plains at ≡ terminals.WordInsert
    insert_here e =
        by_insert state plains at e ∙ if_false (continues state plains at) terminals.PartInsert _ place.apart
        ∙ ap (λ (m : Mode). insert_in (record state { mode = m }) plains at) place.within.mode_is
        ∙ if_false (is_apart state plains at) terminals.Other _ (no_and _ _ facts.owned)

    paren_here : (b : Bool) → opens_condition plains (code_from plains (at + 1)) ≡ b
        → sort_at plains at ≡ sorts.OpenParen
        → terminal_of state plains at ≡ (if b then terminals.ConditionParen else terminals.Paren)
    paren_here b c e =
        by_paren state plains at e ∙ if_false (is state.before terminals.Special) terminals.RawParen _ facts.special
        ∙ ap (λ (m : Mode). paren_in (record state { mode = m }) plains at) place.within.mode_is
        ∙ if_false (continues state plains at) terminals.CallParen _ place.apart
        ∙ ap (λ (x : Bool). if x then terminals.ConditionParen else terminals.Paren) c

-- ---- what stands ahead

ahead_at : (test : Sort → Bool) → test sorts.CloseParen ≡ false → (plains : List Plain) (at to : ℕ)
    (rest : List Written)
    → Stand plains at rest to → sort_at plains to ≡ sorts.CloseParen
    → (not (spaced_at plains at) && test (sort_at plains at)) ≡ ahead test 0 rest
ahead_at test t plains at to [] stand e =
    and_no (not (spaced_at plains at)) _ (ap test (ap (sort_at plains) stand ∙ e) ∙ t)
ahead_at test t plains at to (one ∷ rest) (there, stand) e =
    ap (λ (b : Bool). not b && test (sort_at plains at)) there.spaced
    ∙ ap (λ (x : Sort). not one.spaced && test x) there.sort

code_is : (sort : Sort) → is_code sort ≡ true → walks.is_code sort ≡ true
code_is sorts.Comment c = absurd (cc)
code_is sorts.CommentTemplate c = absurd (cc)
code_is sorts.CommentEnd c = absurd (cc)
code_is _ c = refl

-- what a `(` before such tokens opens
opens_at : (plains : List Plain) (at to : ℕ) (token : Written) (rest : List Written)
    → Stand plains at (token ∷ rest) to → sort_at plains to ≡ sorts.CloseParen → is_code token.sort ≡ true
    → opens_condition plains (code_from plains at) ≡ media.opens (token ∷ rest)
opens_at plains at to token rest (there, stand) e c =
    ap (opens_condition plains) (code_stays plains at (ap walks.is_code there.sort ∙ code_is token.sort c))
    ∙ ap (λ (s : Sort). same s sorts.OpenParen || (same s sorts.Not && not (is_direct plains (at + 1) sorts.OpenInsert)))
    there.sort
    ∙ ap (λ (b : Bool). same token.sort sorts.OpenParen || (same token.sort sorts.Not && not b))
    (ahead_at is_insert refl plains (at + 1) to rest stand e)

opening_code : (sort : Sort) (rest : Bool) → (same sort sorts.OpenParen || (same sort sorts.Not && rest)) ≡ true
    → is_code sort ≡ true
opening_code sorts.Comment rest o = absurd (cc)
opening_code sorts.CommentTemplate rest o = absurd (cc)
opening_code sorts.CommentEnd rest o = absurd (cc)
opening_code _ rest o = refl

or_left : (a b : Bool) → a ≡ true → (a || b) ≡ true
or_left true b e = refl
or_left false b e = absurd (cc)

or_right : (a b : Bool) → b ≡ true → (a || b) ≡ true
or_right true b e = refl
or_right false b e = e

and_left : (a b : Bool) → (a && b) ≡ true → a ≡ true
and_left true b e = refl
and_left false b e = e

not_true : (b : Bool) → not b ≡ true → b ≡ false
not_true true e = absurd (cc)
not_true false e = refl

and_right : (a b : Bool) → (a && b) ≡ true → b ≡ true
and_right true b e = e
and_right false b e = absurd (cc)

opens_so : (plains : List Plain) (at to : ℕ) (inner : List Written) → Stand plains at inner to
    → sort_at plains to ≡ sorts.CloseParen → media.opens inner ≡ true
    → opens_condition plains (code_from plains at) ≡ true
opens_so plains at to [] stand e o = absurd (cc)
opens_so plains at to (token ∷ rest) stand e o =
    opens_at plains at to token rest stand e (opening_code token.sort _ o) ∙ o

opens_none : (plains : List Plain) (at to : ℕ) (inner : List Written) → Stand plains at inner to
    → sort_at plains to ≡ sorts.CloseParen → opens_no_condition inner ≡ true
    → opens_condition plains (code_from plains at) ≡ false
opens_none plains at to [] stand e o = absurd (cc)
opens_none plains at to (token ∷ rest) stand e o =
    opens_at plains at to token rest stand e (and_left (is_code token.sort) _ o)
    ∙ not_true _ (and_right (is_code token.sort) _ o)

-- ---- what stands in the parentheses of a feature

equals_here : (state : State) (plains : List Plain) (at : ℕ) → is_text state.mode ≡ false
    → sort_at plains at ≡ sorts.Equals → terminal_of state plains at ≡ terminals.Equals
unfolding terminal_of
equals_here state plains at code e = rw (e, terminal_of) (if_false (is_text state.mode) terminals.Raw _ code)

-- a value may begin
ready : {frames : List Frame} {state : State} (spaced signed : Bool) (before : Terminal)
    → Within modes.Expression frames state → state.before ≡ before → may_precede before ≡ true
    → ends_operand before ≡ false → state.word ≡ false → Ready state spaced signed
ready {frames} {state} spaced signed before within b m o word = record {
  before = ap may_precede b ∙ m;
  word = no_and state.word _ word;
  operand = no_and (ends_operand state.before) _ (ap ends_operand b ∙ o);
  rest = no_and (is_params state.mode) _ (ap is_params within.mode_is);
}

abbrev InParens : Mode → Terminal → List Written → Type 0
InParens inner opening tokens =
    (plains : List Plain) (frames : List Frame) (state : State) (at to : ℕ) → Within inner frames state
    → state.before ≡ opening → state.word ≡ false → Stand plains at tokens to → IsClosed plains to
    → Told plains inner frames state at tokens to

told_by : {plains : List Plain} {mode : Mode} {frames : List Frame} {state : State} {at to : ℕ}
    {tokens : List Written}
    (end : State) → Reads plains state at tokens end to → Within mode frames end
    → Told plains mode frames state at tokens to
told_by end (lexemes, passed) within = record { lexemes = lexemes; end = end; passed = passed; within = within }

compared_told : {spaced : Bool} {tokens : List Written} → Compared spaced tokens → (plains : List Plain)
    (frames : List Frame) (state : State) (at to : ℕ) → Within modes.Expression frames state
    → state.before ≡ terminals.Paren → state.word ≡ false → Stand plains at tokens to → IsClosed plains to
    → Told plains modes.Expression frames state at tokens to
compared_told (one_side {spaced} {signed} {value = tokens} v) plains frames state at to within before word stand closed =
    let (t, operand) = values_are_told modes.Expression spaced signed tokens v plains frames state at to refl within
    (ready spaced signed terminals.Paren within before refl refl word) stand closed in t
compared_told (equal_sides {spaced} {signed} {left} {right} more v) plains frames state at to within before word stand
    closed =
    let equals = apart sorts.Equals terminals.Equals in
    let (place, stands, (there, others)) = split plains to left (equals ∷ right) at stand in
    let t1 = compared_told more plains frames state at place within before word stands
    (closed_spaced plains place there.spaced) in
    let is_equals = equals_here t1.end plains place (ap is_text t1.within.mode_is) there.sort in
    let m = next t1.end t1.within refl terminals.Equals refl refl in
    let s1 = after t1.end terminals.Equals in
    let (t2, operand) = values_are_told modes.Expression true signed right v plains frames s1 (place + 1) to refl m.within
    (ready true signed terminals.Equals m.within m.before refl refl m.word) others closed in
    told_by t2.end
    (join (reads t1) (join (step plains t1.end place equals terminals.Equals t1.within there refl is_equals one_of) (reads t2)))
    t2.within

inside_told : {tokens : List Written} → Inside tokens → InParens modes.Expression terminals.Paren tokens
inside_told (feature_row row) plains frames state at to within before word stand closed =
    inner_told (items row) plains frames state at to within
    (led terminals.Paren (record { before = refl; operand = refl; comma = refl }) before word) stand closed
inside_told (feature_compared values) plains frames state at to within before word stand closed =
    compared_told values plains frames state at to within before word stand closed

-- parentheses
module _ {inner : Mode} {tokens : List Written} (opening : Terminal) (spaced : Bool)
    (opened : opened_by opening ≡ Some brackets.Paren) (begins : begins_statement opening ≡ false)
    (into : inner_mode modes.Media opening ≡ inner) (no_raw : is_raw_bracket opening ≡ false)
    (told : InParens inner opening tokens) where
  parens_told : {frames : List Frame} (plains : List Plain) (state : State) (at to : ℕ)
      → Going plains frames state at
      → Stand plains at
      (enclosed (written sorts.OpenParen spaced opening) tokens (direct sorts.CloseParen terminals.ParenEnd) []) to
      → terminal_of state plains at ≡ opening
      → Gone plains frames state at
      (enclosed (written sorts.OpenParen spaced opening) tokens (direct sorts.CloseParen terminals.ParenEnd) []) to
  parens_told {frames} plains state at to place (there, stand) is_open =
      let one = written sorts.OpenParen spaced opening in
      let close = direct sorts.CloseParen terminals.ParenEnd in
      let (end, stands, (last, e)) = split plains to tokens (close ∷ []) (at + 1) stand in
      let n = opens state place.within opening brackets.Paren inner opened begins into in
      let s1 = after state opening in
      let t = told plains (frames ++ framed brackets.Paren opening modes.Media ∷ []) s1 (at + 1) end n.within n.before
      n.word stands (closed_stops plains end sorts.CloseParen refl last.sort) in
      let shut = closed_here modes.Media frames opening t.end plains end paren no_raw t.within last.sort in
      let m = closes (framed brackets.Paren opening modes.Media) t.end t.within terminals.ParenEnd refl in record {
        end = after t.end terminals.ParenEnd;
        reads = join (step plains state at one opening place.within there refl is_open one_of)
            (join (reads t) (join (step plains t.end end close terminals.ParenEnd t.within last refl shut one_of) (stay_at e)));
        within = m.within;
        before = ap in_media m.before;
      }

-- where what stands in parentheses ends
close_there : (plains : List Plain) (at to : ℕ) (inner : List Written)
    → Stand plains at (inner ++ direct sorts.CloseParen terminals.ParenEnd ∷ []) to
    → (end : ℕ) × Stand plains at inner end × (sort_at plains end ≡ sorts.CloseParen)
close_there plains at to inner stand =
    let (end, stands, (last, e)) = split plains to inner (direct sorts.CloseParen terminals.ParenEnd ∷ []) at stand in
    (end, stands, last.sort)

-- white space stands before a feature
pub feature_spaced : {one : List Written} → Feature true one → (rest : List Written) (plains : List Plain) (at to : ℕ)
    → Stand plains at (one ++ rest) to → spaced_at plains at ≡ true
feature_spaced (insert_feature inside) rest plains at to stand = stand.0.spaced
feature_spaced (condition_feature inside o) rest plains at to stand = stand.0.spaced
feature_spaced (inside_feature inside o) rest plains at to stand = stand.0.spaced

pub no_insert : (plains : List Plain) (at : ℕ) → spaced_at plains at ≡ true
    → is_direct plains at sorts.OpenInsert ≡ false
no_insert plains at s = no_and _ _ (ap not s)

-- a word that joins features
pub joins_here : {word : Sort} {terminal : Terminal} → Joins word terminal → {frames : List Frame}
    (plains : List Plain) (state : State)
    (at : ℕ) → Going plains frames state at → sort_at plains at ≡ word
    → is_direct plains (at + 1) sorts.OpenInsert ≡ false → terminal_of state plains at ≡ terminal
joins_here and_joins plains state at place e d = word_here plains state at place sorts.And refl e d refl refl
joins_here or_joins plains state at place e d = word_here plains state at place sorts.Or refl e d refl refl

pub joined_gone : {word : Sort} {terminal : Terminal} → Joins word terminal → {frames : List Frame}
    (plains : List Plain) (state : State)
    (at : ℕ) → Going plains frames state at → IsThere plains at (apart word terminal)
    → terminal_of state plains at ≡ terminal
    → (g : Gone plains frames state at (apart word terminal ∷ []) (at + 1)) × (g.end.before ≡ terminal)
    × (g.end.word ≡ false)
joined_gone and_joins plains state at place there told =
    one_gone plains state at place (apart sorts.And terminals.And) terminals.And there refl told one_of refl refl refl
joined_gone or_joins plains state at place there told =
    one_gone plains state at place (apart sorts.Or terminals.Or) terminals.Or there refl told one_of refl refl refl

mutual
  pub feature_told : {spaced : Bool} {tokens : List Written} → Feature spaced tokens → (plains : List Plain)
      (frames : List Frame) (state : State) (at to : ℕ) → Going plains frames state at → Stand plains at tokens to
      → Gone plains frames state at tokens to
  feature_told (insert_feature {spaced} {inner} inside) plains frames state at to place stand =
      let r = insert_round state spaced true terminals.WordInsert inner [] place.within refl
      (record {
        opened = refl;
        begins = refl;
        leads = record { before = refl; operand = refl; comma = refl };
        word = refl;
      })
      (inner_told inside) stand (insert_here plains state at place stand.0.sort) in record {
        end = r.end;
        reads = and_rest spaced terminals.WordInsert inner [] r.reads (stay_at r.others);
        within = r.within;
        before = ap in_media r.before;
      }
  feature_told (condition_feature {spaced} {inner} inside o) plains frames state at to place stand =
      let (end, stands, e) = close_there plains (at + 1) to inner stand.1 in
      parens_told terminals.ConditionParen spaced refl refl refl refl (condition_told inside) plains state at to place
      stand
      (paren_here plains state at place true (opens_so plains (at + 1) end inner stands e o) stand.0.sort)
  feature_told (inside_feature {spaced} {inner} inside o) plains frames state at to place stand =
      let (end, stands, e) = close_there plains (at + 1) to inner stand.1 in
      parens_told terminals.Paren spaced refl refl refl refl (inside_told inside) plains state at to place stand
      (paren_here plains state at place false (opens_none plains (at + 1) end inner stands e o) stand.0.sort)

  pub features_told : {word : Sort} {terminal : Terminal} {tokens : List Written} → Joins word terminal
      → Features word terminal tokens → (plains : List Plain) (frames : List Frame) (state : State) (at to : ℕ)
      → Within modes.Media frames state
      → in_media state.before ≡ true → Stand plains at tokens to → Gone plains frames state at tokens to
  features_told joins no_feature plains frames state at to within before stand =
      record { end = state; reads = stay_at stand; within = within; before = before }
  features_told {word} {terminal} joins (more_features {one} {rest} first more) plains frames state at to within before
      (there, stand) =
      let here : Going plains frames state at = record { within = within; before = before; apart = and_no state.word _ (ap not there.spaced) } in
      let apart_next = feature_spaced first rest plains (at + 1) to stand in
      let told = joins_here joins plains state at here there.sort (no_insert plains (at + 1) apart_next) in
      let (g1, b1, w1) = joined_gone joins plains state at here there told in
      let (place, stands, others) = split plains to one rest (at + 1) stand in
      let g2 = feature_told first plains frames g1.end (at + 1) place (going g1 apart_next) stands in
      let g3 = features_told joins more plains frames g2.end place to g2.within g2.before others in
      going_on g1.reads (going_on g2.reads g3)

  pub condition_told : {tokens : List Written} → Condition tokens
      → InParens modes.Media terminals.ConditionParen tokens
  condition_told (not_condition {one} feature) plains frames state at to within before word (there, stand) closed =
      let here : Going plains frames state at = record { within = within; before = ap in_media before; apart = never state plains at word } in
      let apart_next = feature_spaced feature [] plains (at + 1) to
      (subst (λ (x : List Written). Stand plains (at + 1) x to) (sym (append-nil one)) stand) in
      let told = not_here plains state at here there.sort (no_insert plains (at + 1) apart_next) true
      (or_right _ _ (or_left _ _ (ap (λ (t : Terminal). is t terminals.ConditionParen) before))) in
      let (g1, b1, w1) = one_gone plains state at here (direct sorts.Not terminals.Not) terminals.Not there refl told
      one_of refl refl refl in
      let g2 = feature_told feature plains frames g1.end (at + 1) to (going g1 apart_next) stand in
      told_by g2.end (join g1.reads g2.reads) g2.within
  condition_told (joined_condition {word} {terminal} {one} {rest} joins first more) plains frames state at to within
      before no_word stand closed =
      let here : Going plains frames state at = record { within = within; before = ap in_media before; apart = never state plains at no_word } in
      let (place, stands, others) = split plains to one rest at stand in
      let g1 = feature_told first plains frames state at place here stands in
      let g2 = features_told joins more plains frames g1.end place to g1.within g1.before others in
      told_by g2.end (join g1.reads g2.reads) g2.within
