-- Values beside each other, and signs between and before them.
use Rattle.std.proofs.Common.{◌≡◌, ℕ, ◌+◌, Bool, true, false, not, ◌&&◌, ◌||◌, List, [], ◌∷◌, ◌++◌, inl, refl, sym, ◌∙◌, ap, subst}
use Rattle.sw_parse_terminals.specs.declared.terminal.Terminal.{Terminal}
use Rattle.sw_parse_terminals.specs.declared.terminal.Terminal.TheVariants as terminals
use Rattle.sw_parse_lexemes.specs.declared.sort.Sort.{Sort}
use Rattle.sw_parse_lexemes.specs.declared.sort.Sort.TheVariants as sorts
use Rattle.sw_parse_lexemes.specs.declared.plain.Plain.{Plain}
use Rattle.sw_parse_lexemes.specs.declared.state.Mode.{Mode}
use Rattle.sw_parse_lexemes.specs.declared.state.Frame.{Frame}
use Rattle.sw_parse_lexemes.specs.declared.state.State.{State}
use Rattle.sw_parse_lexemes.specs.Classes.{is_comment}
use Rattle.sw_parse_lexemes.specs.Ahead.{sort_at, spaced_at}
use Rattle.sw_parse_lexemes.specs.Signs.{ends_operand}
use Rattle.sw_parse_lexemes.specs.Terminals.{terminal_of}
use Rattle.sw_parse_lexemes.specs.Steps.{in_word, after, past_white}
use Rattle.sw_convert_passing.specs.Written.{Written, written, direct, apart, Among, IsThere, Stand, Within}
use Rattle.sw_convert_passing.specs.Places.{is_value, IsClosed}
use Rattle.sw_convert_passing.specs.Kinds.{is_operator, operator, is_prefix, prefix}
use Rattle.sw_convert_passing.specs.Values.{seam}
use Rattle.sw_convert_passing.proofs.Facts.{value_mode, fresh, operand_precedes}
use Rattle.sw_convert_passing.proofs.Steps.{join, step, stay_at, seam_step, seam_next, next}
use Rattle.sw_convert_passing.proofs.BySort.{lone_here}
use Rattle.sw_convert_passing.proofs.Tokens.{code_here, plus_here, minus_here, star_here, slash_here, prefix_plus_here, prefix_minus_here, prefix_slash_here}
use Rattle.sw_convert_passing.proofs.Entries.{split, begins_more, begins_there, Entry, led_entry, behind_entry, Leads, led, calm, closed_spaced, closed_stops, Result, result, reads, Plainly, IsTold}
use Rattle.sw_convert_passing.proofs.Leaves.{no_further, keyword_here}

-- operators
record OperatorSort (sort : Sort) : Type 0 where
  code : is_comment sort ≡ false
  plainly : Plainly (operator sort)
  leads : Leads (operator sort)
  word : in_word (operator sort) ≡ false

operator_sort : (sort : Sort) → is_operator sort ≡ true → OperatorSort sort
operator_sort sorts.Or o = record {
  code = refl;
  plainly = record { goes = refl; begins = refl };
  leads = record
      { before = refl; operand = refl; comma = refl };
  word = refl;
}
operator_sort sorts.And o = record {
  code = refl;
  plainly = record { goes = refl; begins = refl };
  leads = record
      { before = refl; operand = refl; comma = refl };
  word = refl;
}
operator_sort sorts.EqualsEquals o = record {
  code = refl;
  plainly = record { goes = refl; begins = refl };
  leads = record
      { before = refl; operand = refl; comma = refl };
  word = refl;
}
operator_sort sorts.NotEquals o = record {
  code = refl;
  plainly = record { goes = refl; begins = refl };
  leads = record
      { before = refl; operand = refl; comma = refl };
  word = refl;
}
operator_sort sorts.Less o = record {
  code = refl;
  plainly = record { goes = refl; begins = refl };
  leads = record
      { before = refl; operand = refl; comma = refl };
  word = refl;
}
operator_sort sorts.LessEquals o = record {
  code = refl;
  plainly = record { goes = refl; begins = refl };
  leads = record
      { before = refl; operand = refl; comma = refl };
  word = refl;
}
operator_sort sorts.Greater o = record {
  code = refl;
  plainly = record { goes = refl; begins = refl };
  leads = record
      { before = refl; operand = refl; comma = refl };
  word = refl;
}
operator_sort sorts.GreaterEquals o = record {
  code = refl;
  plainly = record { goes = refl; begins = refl };
  leads = record
      { before = refl; operand = refl; comma = refl };
  word = refl;
}
operator_sort sorts.Plus o = record {
  code = refl;
  plainly = record { goes = refl; begins = refl };
  leads = record
      { before = refl; operand = refl; comma = refl };
  word = refl;
}
operator_sort sorts.Minus o = record {
  code = refl;
  plainly = record { goes = refl; begins = refl };
  leads = record
      { before = refl; operand = refl; comma = refl };
  word = refl;
}
operator_sort sorts.Star o = record {
  code = refl;
  plainly = record { goes = refl; begins = refl };
  leads = record
      { before = refl; operand = refl; comma = refl };
  word = refl;
}
operator_sort sorts.Slash o = record {
  code = refl;
  plainly = record { goes = refl; begins = refl };
  leads = record
      { before = refl; operand = refl; comma = refl };
  word = refl;
}
operator_sort sorts.Percent o = record {
  code = refl;
  plainly = record { goes = refl; begins = refl };
  leads = record
      { before = refl; operand = refl; comma = refl };
  word = refl;
}
operator_sort _ o = absurd (cc)

-- with white space on both sides, behind a value
operator_here : {mode : Mode} {frames : List Frame} (state : State) (plains : List Plain) (at : ℕ) (sort : Sort)
    → is_operator sort ≡ true → is_value mode ≡ true → Within mode frames state → ends_operand state.before ≡ true
    → sort_at plains at ≡ sort → spaced_at plains at ≡ true → spaced_at plains (at + 1) ≡ true
    → terminal_of state plains at ≡ operator sort
operator_here state plains at sorts.Or i value within o e s n =
    keyword_here plains at sorts.Or refl (behind_entry value within o) e s
    (calm plains (at + 1) (closed_spaced plains (at + 1) n))
operator_here state plains at sorts.And i value within o e s n =
    keyword_here plains at sorts.And refl (behind_entry value within o) e s
    (calm plains (at + 1) (closed_spaced plains (at + 1) n))
operator_here state plains at sorts.EqualsEquals i value within o e s n =
    lone_here state plains at (code_here value state within plains at) sorts.EqualsEquals refl e
operator_here state plains at sorts.NotEquals i value within o e s n =
    lone_here state plains at (code_here value state within plains at) sorts.NotEquals refl e
operator_here state plains at sorts.Less i value within o e s n =
    lone_here state plains at (code_here value state within plains at) sorts.Less refl e
operator_here state plains at sorts.LessEquals i value within o e s n =
    lone_here state plains at (code_here value state within plains at) sorts.LessEquals refl e
operator_here state plains at sorts.Greater i value within o e s n =
    lone_here state plains at (code_here value state within plains at) sorts.Greater refl e
operator_here state plains at sorts.GreaterEquals i value within o e s n =
    lone_here state plains at (code_here value state within plains at) sorts.GreaterEquals refl e
operator_here state plains at sorts.Plus i value within o e s n = plus_here value state within plains at e o
operator_here state plains at sorts.Minus i value within o e s n = minus_here value state within plains at e o s n
operator_here state plains at sorts.Star i value within o e s n =
    star_here value state within plains at e (fresh state.before (operand_precedes state.before o))
operator_here state plains at sorts.Slash i value within o e s n = slash_here value state within plains at e o
operator_here state plains at sorts.Percent i value within o e s n =
    lone_here state plains at (code_here value state within plains at) sorts.Percent refl e
operator_here state plains at _ i value within o e s n = absurd (cc)

-- a sign and a value behind it
then_value : {mode : Mode} {frames : List Frame} {plains : List Plain} {at to : ℕ} (state : State)
    (blank next_signed : Bool)
    (one : Written) (terminal : Terminal) (value : List Written) → is_value mode ≡ true → Within mode frames state
    → IsThere plains at one → Stand plains (at + 1) value to → IsClosed plains to → is_comment one.sort ≡ false
    → terminal_of state plains at ≡ terminal → one.may_be ≡ terminal ∷ [] → Plainly terminal → in_word terminal ≡ false
    → Leads terminal → IsTold mode blank next_signed value → Result plains mode frames state at (one ∷ value) to
then_value {mode} {frames} {plains} {at} {to} state blank next_signed one terminal value is_one within there stand
    closed code told
    may_be plainly word leads reading =
    let n = next state within (value_mode mode is_one).steady terminal plainly.goes plainly.begins in
    let s1 = after state terminal in
    let (t, o) = reading.told plains frames s1 (at + 1) to
    (led_entry blank next_signed is_one n.within (led terminal leads n.before (n.word ∙ word))) stand closed in
    result t.end
    (join (step plains state at one terminal within there code told (subst (Among terminal) (sym may_be) (inl refl)))
    (reads t))
    t.within o

module _ {mode : Mode} {spaced signed : Bool} where
  pub linked_told : {next_signed : Bool} (left right : List Written) (sort : Sort) → IsTold mode spaced signed left
      → is_operator sort ≡ true → IsTold mode true next_signed right
      → IsTold mode spaced signed (left ++ apart sort (operator sort) ∷ right)
  linked_told {next_signed} left right sort first o second = record {
    begins = begins_more spaced left (apart sort (operator sort) ∷ right) first.begins;
    told = λ plains frames state at to entry stand closed.
        let (place, stands, (there, rest)) = split plains to left (apart sort (operator sort) ∷ right) at stand in
        let (t, operand) = first.told plains frames state at place entry stands
        (closed_spaced plains place there.spaced) in
        let facts = operator_sort sort o in
        let (u, end) = then_value t.end true next_signed (apart sort (operator sort)) (operator sort) right
        entry.value t.within there rest
        closed facts.code
        (operator_here t.end plains place sort o entry.value t.within operand there.sort there.spaced
        (begins_there plains (place + 1) to true right second.begins rest))
        refl facts.plainly facts.word facts.leads second in
        result u.end (join (reads t) (reads u)) u.within end;
  }

  pub divided_told : {next_signed : Bool} (left right : List Written) → IsTold mode spaced signed left
      → IsTold mode false next_signed right
      → IsTold mode spaced signed (left ++ direct sorts.Slash terminals.Divide ∷ right)
  divided_told {next_signed} left right first second = record {
    begins = begins_more spaced left (direct sorts.Slash terminals.Divide ∷ right) first.begins;
    told = λ plains frames state at to entry stand closed.
        let (place, stands, (there, rest)) = split plains to left (direct sorts.Slash terminals.Divide ∷ right) at
        stand in
        let (t, operand) = first.told plains frames state at place entry stands
        (closed_stops plains place sorts.Slash refl there.sort) in
        let (u, end) = then_value t.end false next_signed (direct sorts.Slash terminals.Divide) terminals.Divide
        right entry.value t.within
        there rest closed refl (slash_here entry.value t.end t.within plains place there.sort operand) refl
        (record { goes = refl; begins = refl }) refl (record { before = refl; operand = refl; comma = refl }) second in
        result u.end (join (reads t) (reads u)) u.within end;
  }

  pub beside_told : (left right : List Written) → IsTold mode spaced signed left → IsTold mode true false right
      → IsTold mode spaced signed (left ++ right)
  beside_told left right first second = record {
    begins = begins_more spaced left right first.begins;
    told = λ plains frames state at to entry stand closed.
        let (place, stands, rest) = split plains to left right at stand in
        let (t, operand) = first.told plains frames state at place entry stands
        (closed_spaced plains place (begins_there plains place to true right second.begins rest)) in
        let (u, end) = second.told plains frames t.end place to (behind_entry entry.value t.within operand) rest
        closed in
        result u.end (join (reads t) (reads u)) u.within end;
  }

  pub seamed_told : (value : List Written) → IsTold mode spaced signed value
      → IsTold mode spaced signed (value ++ seam ∷ [])
  seamed_told value first = record {
    begins = begins_more spaced value (seam ∷ []) first.begins;
    told = λ plains frames state at to entry stand closed.
        let (place, stands, (there, e)) = split plains to value (seam ∷ []) at stand in
        let (t, operand) = first.told plains frames state at place entry stands
        (closed_stops plains place sorts.Comment refl there.sort) in
        let n = seam_next t.end t.within in
        result (past_white t.end sorts.Comment)
        (join (reads t) (join (seam_step plains t.end place t.within there) (stay_at e)))
        n.within (ap ends_operand n.before ∙ operand);
  }

-- `not` before a value, and signs before one
no_operand : (operand blank : Bool) → (operand && (not blank || true)) ≡ false → operand ≡ false
no_operand true true e = absurd (cc)
no_operand true false e = absurd (cc)
no_operand false blank e = refl

record PrefixSort (sort : Sort) : Type 0 where
  code : is_comment sort ≡ false
  plainly : Plainly (prefix sort)
  leads : Leads (prefix sort)
  word : in_word (prefix sort) ≡ false

prefix_sort : (sort : Sort) → is_prefix sort ≡ true → PrefixSort sort
prefix_sort sorts.Plus p = record {
  code = refl;
  plainly = record { goes = refl; begins = refl };
  leads = record
      { before = refl; operand = refl; comma = refl };
  word = refl;
}
prefix_sort sorts.Minus p = record {
  code = refl;
  plainly = record { goes = refl; begins = refl };
  leads = record
      { before = refl; operand = refl; comma = refl };
  word = refl;
}
prefix_sort sorts.Slash p = record {
  code = refl;
  plainly = record { goes = refl; begins = refl };
  leads = record
      { before = refl; operand = refl; comma = refl };
  word = refl;
}
prefix_sort _ p = absurd (cc)

prefix_here : {mode : Mode} {frames : List Frame} {state : State} {spaced signed : Bool} (plains : List Plain)
    (at : ℕ) (sort : Sort)
    → is_prefix sort ≡ true → Entry mode frames state spaced signed → ends_operand state.before ≡ false
    → sort_at plains at ≡ sort → spaced_at plains at ≡ spaced → spaced_at plains (at + 1) ≡ true
    → terminal_of state plains at ≡ prefix sort
prefix_here {mode} {frames} {state} plains at sorts.Plus p entry o e s n =
    prefix_plus_here entry.value state entry.within plains at e o n
prefix_here {mode} {frames} {state} plains at sorts.Minus p entry o e s n =
    prefix_minus_here entry.value state entry.within plains at e (no_further plains at entry s) o n
prefix_here {mode} {frames} {state} plains at sorts.Slash p entry o e s n =
    prefix_slash_here entry.value state entry.within plains at e o
prefix_here {mode} {frames} {state} plains at _ p entry o e s n = absurd (cc)

module _ {mode : Mode} {spaced next_signed : Bool} (value : List Written) (told : IsTold mode true next_signed value)
  where
    pub negated_told : IsTold mode spaced false (written sorts.Not spaced terminals.Not ∷ value)
    negated_told = record {
      begins = refl;
      told = λ plains frames state at to entry stand closed.
          let behind = begins_there plains (at + 1) to true value told.begins stand.1 in
          then_value state true next_signed (written sorts.Not spaced terminals.Not) terminals.Not value entry.value
          entry.within
          stand.0 stand.1 closed refl
          (keyword_here plains at sorts.Not refl entry stand.0.sort stand.0.spaced
          (calm plains (at + 1) (closed_spaced plains (at + 1) behind)))
          refl (record { goes = refl; begins = refl }) refl (record { before = refl; operand = refl; comma = refl }) told;
    }

    pub prefixed_told : (sort : Sort) → is_prefix sort ≡ true
        → IsTold mode spaced true (written sort spaced (prefix sort) ∷ value)
    prefixed_told sort p =
        let facts = prefix_sort sort p in record {
          begins = refl;
          told = λ plains frames state at to entry stand closed.
              then_value state true next_signed (written sort spaced (prefix sort)) (prefix sort) value entry.value
              entry.within
              stand.0 stand.1 closed facts.code
              (prefix_here plains at sort p entry (no_operand (ends_operand state.before) spaced entry.ready.operand)
              stand.0.sort
              stand.0.spaced (begins_there plains (at + 1) to true value told.begins stand.1))
              refl facts.plainly facts.word facts.leads told;
        }
