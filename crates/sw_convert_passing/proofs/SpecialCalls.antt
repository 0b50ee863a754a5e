-- Special functions, and what is read in their text.
use Rattle.std.proofs.Common.{◌≡◌, ℕ, ◌+◌, Bool, true, false, not, ◌||◌, List, [], ◌∷◌, ◌++◌, Some, refl, sym, ◌∙◌, ap, subst, append_assoc}
use Rattle.sw_text_scan.proofs.Bounds.{if_true}
use Rattle.sw_parse_terminals.specs.declared.terminal.Terminal.{Terminal}
use Rattle.sw_parse_terminals.specs.declared.terminal.Terminal.TheVariants as terminals
use Rattle.sw_parse_lexemes.specs.declared.sort.Sort.{Sort}
use Rattle.sw_parse_lexemes.specs.declared.sort.Sort.TheVariants as sorts
use Rattle.sw_parse_lexemes.specs.declared.plain.Plain.{Plain}
use Rattle.sw_parse_lexemes.specs.declared.state.Mode.{Mode}
use Rattle.sw_parse_lexemes.specs.declared.state.Mode.TheVariants as modes
use Rattle.sw_parse_lexemes.specs.declared.state.Bracket.{Bracket}
use Rattle.sw_parse_lexemes.specs.declared.state.Bracket.TheVariants as brackets
use Rattle.sw_parse_lexemes.specs.declared.state.Frame.{Frame}
use Rattle.sw_parse_lexemes.specs.declared.state.State.{State}
use Rattle.sw_parse_lexemes.specs.Classes.{same, is_name, is_comment}
use Rattle.sw_parse_lexemes.specs.Ahead.{sort_at, is_direct}
use Rattle.sw_parse_lexemes.specs.Names.{is, behind_dollar, is_special_name, stays_text}
use Rattle.sw_parse_lexemes.specs.Names.{owns as owns_at}
use Rattle.sw_parse_lexemes.specs.Signs.{ends_operand}
use Rattle.sw_parse_lexemes.specs.Brackets.{innermost, is_outer, is_brace, is_inner, closes_paren, closes_bracket}
use Rattle.sw_parse_lexemes.specs.Terminals.{terminal_of}
use Rattle.sw_parse_lexemes.specs.Steps.{opened_by, inner_mode, begins_statement, after}
use Rattle.sw_convert_passing.specs.Written.{Written, written, direct, IsThere, Among, Stand, Within}
use Rattle.sw_convert_passing.specs.Kinds.{ends_bound}
use Rattle.sw_convert_passing.specs.Values.{enclosed, inserted}
use Rattle.sw_convert_passing.proofs.Facts.{no_and, and_no, both, raw_inner, value_mode, name_code}
use Rattle.sw_convert_passing.proofs.Steps.{Reads, join, step, next, framed, opens, innermost_is, is_closing, closes}
use Rattle.sw_convert_passing.proofs.BySort.{by_paren}
use Rattle.sw_convert_passing.proofs.Tokens.{special_here, owner_dot_here, owner_dollar_here, variable_name_here}
use Rattle.sw_convert_passing.proofs.SpecialTokens.{in_text, insert_in_text, paren_in_text, bracket_in_text, call_name_here, owner_in_text, owned_in_text}
use Rattle.sw_convert_passing.proofs.Entries.{split, Entry, Result, result, reads, one_of, IsTold}
use Rattle.sw_convert_passing.proofs.Leaves.{fresh_here, no_further, never}
use Rattle.sw_convert_passing.proofs.Enclosed.{closing_paren, closing_bracket, IsInner, IsCall, insert_round, and_rest}
use Rattle.sw_convert_passing.proofs.Words.{CallBegins}
use Rattle.sw_convert_passing.proofs.Special.{is_shut, Inside, IsInside, InText, IsSpecial, told_by, two, three, behind_item, one_then, loose_in}

or_left : (a b : Bool) → a ≡ true → (a || b) ≡ true
or_left true b e = refl
or_left false b e = absurd (cc)

or_right : (a b : Bool) → b ≡ true → (a || b) ≡ true
or_right true b e = refl
or_right false b e = e

-- a namespace and its `.`
record OwnedText (plains : List Plain) (frames : List Frame) (state : State) (at : ℕ) (owner : Written) : Type 0 where
  end : State
  reads : Reads plains state at (owner ∷ direct sorts.Dot terminals.OwnerDot ∷ []) end ((at + 1) + 1)
  within : Within modes.Special frames end
  before : end.before ≡ terminals.OwnerDot
  word : end.word ≡ false

owned_text : {frames : List Frame} {ended spaced : Bool} (plains : List Plain) (state : State) (at : ℕ)
    (owner : Sort) → is_name owner ≡ true
    → Within modes.Special frames state → InText ended state → IsThere plains at (written owner spaced terminals.Owner)
    → IsThere plains (at + 1) (direct sorts.Dot terminals.OwnerDot) → owns_at plains at ≡ true
    → OwnedText plains frames state at (written owner spaced terminals.Owner)
owned_text {frames} {ended} {spaced} plains state at owner n within before there dot owns =
    let told = owner_in_text state within plains at (ap is_name there.sort ∙ n) before.word (loose_in before) owns in
    let n1 = next state within refl terminals.Owner refl refl in
    let s1 = after state terminals.Owner in
    let told2 = owner_dot_here refl s1 n1.within plains (at + 1) dot.sort
    (ap (λ (t : Terminal). is t terminals.Owner) n1.before) dot.spaced in
    let n2 = next s1 n1.within refl terminals.OwnerDot refl refl in record {
      end = after s1 terminals.OwnerDot;
      reads = join
          (step plains state at (written owner spaced terminals.Owner) terminals.Owner within there
          (name_code owner n) told one_of)
          (step plains s1 (at + 1) (direct sorts.Dot terminals.OwnerDot) terminals.OwnerDot n1.within dot refl told2
          one_of);
      within = n2.within;
      before = n2.before;
      word = n2.word;
    }

is_dot_there : (plains : List Plain) (at : ℕ) → IsThere plains at (direct sorts.Dot terminals.OwnerDot)
    → is_direct plains at sorts.Dot ≡ true
is_dot_there plains at there = both _ _ (ap not there.spaced) (ap (λ (x : Sort). same x sorts.Dot) there.sort)

-- a call's name and its arguments, and what follows
record Called (plains : List Plain) (frames : List Frame) (state : State) (at : ℕ) (tokens rest : List Written)
    (to : ℕ) : Type 0 where
  end : State
  place : ℕ
  reads : Reads plains state at tokens end place
  within : Within modes.Special frames end
  before : InText true end
  others : Stand plains place rest to

called_by : {frames : List Frame} (plains : List Plain) (state : State) (at to : ℕ) (one : Written)
    (call rest : List Written)
    → Within modes.Special frames state → IsThere plains at one → Stand plains (at + 1) (call ++ rest) to
    → is_comment one.sort ≡ false → terminal_of state plains at ≡ terminals.Word → one.may_be ≡ terminals.Word ∷ []
    → IsCall call → Called plains frames state at (one ∷ call) rest to
called_by plains state at to one call rest within there stand code told may_be arguing =
    let n = next state within refl terminals.Word refl refl in
    let s1 = after state terminals.Word in
    let (place, stands, others) = split plains to call rest (at + 1) stand in
    let (t, e, w) = arguing modes.Special plains _ s1 (at + 1) place refl n.within n.word (ap ends_operand n.before)
    stands in record {
      end = t.end;
      place = place;
      reads = join
          (step plains state at one terminals.Word within there code told
          (subst (Among terminals.Word) (sym may_be) one_of)) (reads t);
      within = t.within;
      before = behind_item e w refl refl;
      others = others;
    }

module _ (inner ended spaced : Bool) (rest : List Written) where
  pub text_owned_variable_told : (owner name : Sort) → is_name owner ≡ true → is_name name ≡ true
      → IsSpecial inner true rest
      → IsSpecial inner ended
      (written owner spaced terminals.Owner ∷ direct sorts.Dot terminals.OwnerDot
      ∷ direct sorts.Dollar terminals.OwnerDollar ∷ direct name terminals.VariableName ∷ rest)
  text_owned_variable_told owner name o n more plains frames state at to within inside before
      (there, (dot, (third, (fourth, stand)))) shut =
      let owns : owns_at plains at ≡ true = rw (two, three) (both _ _ (is_dot_there plains (at + 1) dot)
      (or_left _ _
      (both _ _ (both _ _ (ap not third.spaced) (ap (λ (x : Sort). same x sorts.Dollar) third.sort))
      (both _ _ (ap not fourth.spaced) (ap is_name fourth.sort ∙ n))))) in
      let by = owned_text plains state at owner o within before there dot owns in
      let told = owner_dollar_here refl by.end by.within plains ((at + 1) + 1) third.sort
      (ap (λ (t : Terminal). is t terminals.OwnerDot) by.before) third.spaced in
      let n1 = next by.end by.within refl terminals.OwnerDollar refl refl in
      let s1 = after by.end terminals.OwnerDollar in
      let t = one_then s1 n1.within inner (direct name terminals.VariableName) terminals.VariableName rest
      (record { goes = refl; begins = refl; before = refl; word = refl; operand = refl }) inside fourth stand
      shut
      (name_code name n)
      (variable_name_here refl s1 n1.within plains (((at + 1) + 1) + 1) (ap is_name fourth.sort ∙ n)
      (never s1 plains (((at + 1) + 1) + 1) n1.word) (ap behind_dollar n1.before) fourth.spaced) one_of more in
      told_by t.end
      (join by.reads
      (join (step plains by.end ((at + 1) + 1) (direct sorts.Dollar terminals.OwnerDollar) terminals.OwnerDollar
      by.within third refl told one_of) (reads t))) t.within

  pub text_call_told : (name : Sort) (call : List Written) → is_name name ≡ true → stays_text name ≡ false → IsCall call
      → CallBegins call → IsSpecial inner true rest
      → IsSpecial inner ended (written name spaced terminals.Word ∷ (call ++ rest))
  text_call_told name call n s arguing begins more plains frames state at to within inside before (there, stand) shut =
      let (place, stands, others) = split plains to call rest (at + 1) stand in
      let (direct_paren, paren) = begins plains (at + 1) place stands in
      let told = call_name_here state within plains at (ap is_name there.sort ∙ n) before.word (loose_in before)
      (no_and _ _ (and_no _ _ (ap (λ (x : Sort). same x sorts.Dot) paren)))
      (both _ _ (both _ _ (ap not direct_paren) (ap (λ (x : Sort). same x sorts.OpenParen) paren))
      (ap (λ (x : Sort). not (stays_text x)) there.sort ∙ ap not s)) in
      let c = called_by plains state at to (written name spaced terminals.Word) call rest within there stand
      (name_code name n) told refl arguing in
      let t = more plains frames c.end c.place to c.within inside c.before c.others shut in
      told_by t.end (join c.reads (reads t)) t.within

  pub text_owned_call_told : (owner name : Sort) (call : List Written) → is_name owner ≡ true → is_name name ≡ true
      → IsCall call
      → CallBegins call → IsSpecial inner true rest
      → IsSpecial inner ended
      (written owner spaced terminals.Owner ∷ direct sorts.Dot terminals.OwnerDot ∷ direct name
      terminals.Word ∷ (call ++ rest))
  text_owned_call_told owner name call o n arguing begins more plains frames state at to within inside before
      (there, (dot, (third, stand))) shut =
      let (place, stands, others) = split plains to call rest (((at + 1) + 1) + 1) stand in
      let (direct_paren, paren) = begins plains (((at + 1) + 1) + 1) place stands in
      let owns : owns_at plains at ≡ true = rw (two, three) (both _ _ (is_dot_there plains (at + 1) dot)
      (or_right _ _ (both _ _ (both _ _ (ap not third.spaced) (ap is_name third.sort ∙ n))
      (both _ _ (ap not direct_paren) (ap (λ (x : Sort). same x sorts.OpenParen) paren))))) in
      let by = owned_text plains state at owner o within before there dot owns in
      let told = owned_in_text by.end by.within plains ((at + 1) + 1) (ap is_name third.sort ∙ n) by.word by.before
      third.spaced in
      let c = called_by plains by.end ((at + 1) + 1) to (direct name terminals.Word) call rest by.within third stand
      (name_code name n)
      told refl arguing in
      let t = more plains frames c.end c.place to c.within inside c.before c.others shut in
      told_by t.end (join by.reads (join c.reads (reads t))) t.within

  pub text_insert_told : (inside : List Written) → IsInner inside → IsSpecial inner true rest
      → IsSpecial inner ended (inserted spaced terminals.Insert inside rest)
  text_insert_told inside told more plains frames state at to within round before stand shut =
      let i = insert_round state spaced false terminals.Insert inside rest within refl
      (record {
        opened = refl;
        begins = refl;
        leads = record { before = refl; operand = refl; comma = refl };
        word = refl;
      })
      told stand (insert_in_text state within plains at stand.0.sort before.word) in
      let t = more plains frames i.end i.place to i.within round (behind_item i.before i.word refl refl) i.others
      shut in
      told_by t.end (and_rest spaced terminals.Insert inside rest i.reads (reads t)) t.within

-- brackets of raw text
pub data Raw : Bracket → Terminal → Sort → Terminal → Type 0 where
  raw_paren : Raw brackets.Paren terminals.RawParen sorts.CloseParen terminals.RawParenEnd
  raw_bracket : Raw brackets.Bracket terminals.RawBracket sorts.CloseBracket terminals.RawBracketEnd

record RawFacts (kind : Bracket) (opening : Terminal) (sort : Sort) (close : Terminal) : Type 0 where
  opened : opened_by opening ≡ Some kind
  begins : begins_statement opening ≡ false
  before : in_text opening ≡ true
  operand : ends_operand opening ≡ false
  code : is_comment sort ≡ false
  shut : is_shut sort ≡ true
  closing : is_closing close ≡ true

raw_facts : {kind : Bracket} {opening : Terminal} {sort : Sort} {close : Terminal} → Raw kind opening sort close
    → RawFacts kind opening sort close
raw_facts raw_paren = record
    { opened = refl; begins = refl; before = refl; operand = refl; code = refl; shut = refl; closing = refl }
raw_facts raw_bracket = record
    { opened = refl; begins = refl; before = refl; operand = refl; code = refl; shut = refl; closing = refl }

raw_closed : {inner : Mode} (mode : Mode) (frames : List Frame) {kind : Bracket} {opening : Terminal} {sort : Sort}
    {close : Terminal}
    (state : State) (plains : List Plain) (at : ℕ) → Raw kind opening sort close
    → Within inner (frames ++ framed kind opening mode ∷ []) state → sort_at plains at ≡ sort
    → terminal_of state plains at ≡ close
raw_closed mode frames state plains at raw_paren within e =
    closing_paren state plains at e
    ∙ ap (closes_paren state.mode)
    (ap innermost within.frames_are ∙ innermost_is frames (framed brackets.Paren terminals.RawParen mode))
raw_closed mode frames state plains at raw_bracket within e =
    closing_bracket state plains at e
    ∙ ap (closes_bracket state.mode)
    (ap innermost within.frames_are ∙ innermost_is frames (framed brackets.Bracket terminals.RawBracket mode))

-- text in brackets, and what follows
record RawRound (plains : List Plain) (mode : Mode) (frames : List Frame) (state : State) (at : ℕ)
    (tokens rest : List Written)
    (close : Terminal) (to : ℕ) : Type 0 where
  end : State
  place : ℕ
  reads : Reads plains state at tokens end place
  within : Within mode frames end
  before : end.before ≡ close
  word : end.word ≡ false
  others : Stand plains place rest to

raw_round : {mode : Mode} {frames : List Frame} {plains : List Plain} {at to : ℕ} (state : State)
    (inner blank : Bool) {kind : Bracket}
    {opening : Terminal} {sort : Sort} {close : Terminal} (how : Raw kind opening sort close) (one : Written)
    (text rest : List Written)
    → Within mode frames state → inner_mode mode opening ≡ modes.Special
    → IsInside inner (frames ++ framed kind opening mode ∷ []) → IsSpecial inner false text
    → Stand plains at (enclosed one text (written sort blank close) rest) to → is_comment one.sort ≡ false
    → terminal_of state plains at ≡ opening → Among opening one.may_be
    → RawRound plains mode frames state at (enclosed one text (written sort blank close) []) rest close to
raw_round {mode} {frames} {plains} {at} {to} state inner blank {kind} {opening} {sort} {close} how one text rest
    within into inside told
    (there, stand) code is_opening among =
    let f = raw_facts how in
    let (place, stands, (last, others)) = split plains to text (written sort blank close ∷ rest) (at + 1) stand in
    let n = opens state within opening kind modes.Special f.opened f.begins into in
    let s1 = after state opening in
    let t = told plains (frames ++ framed kind opening mode ∷ []) s1 (at + 1) place n.within inside
    (behind_item n.before n.word f.before f.operand) stands (ap is_shut last.sort ∙ f.shut) in
    let m = closes (framed kind opening mode) t.end t.within close f.closing in record {
      end = after t.end close;
      place = place + 1;
      reads = join (step plains state at one opening within there code is_opening among)
          (join (reads t) (step plains t.end place (written sort blank close) close t.within last f.code
          (raw_closed mode frames t.end plains place how t.within last.sort) one_of));
      within = m.within;
      before = m.before;
      word = m.word;
      others = others;
    }

-- and then the rest
pub raw_and_rest : {plains : List Plain} {state middle end : State} {at place to : ℕ} (one close : Written)
    (text rest : List Written)
    → Reads plains state at (enclosed one text close []) middle place → Reads plains middle place rest end to
    → Reads plains state at (enclosed one text close rest) end to
raw_and_rest {plains} {state} {middle} {end} {at} {place} {to} one close text rest first second =
    subst (λ (x : List Written). Reads plains state at (one ∷ x) end to) (append_assoc text (close ∷ []) rest)
    (join first second)

in_special : (kind : Bracket) (opening : Terminal) (frames : List Frame)
    → is_outer (Some (framed kind opening modes.Special)) ≡ false
    → is_brace (Some (framed kind opening modes.Special)) ≡ false
    → Inside (frames ++ framed kind opening modes.Special ∷ [])
in_special kind opening frames o b =
    let e = innermost_is frames (framed kind opening modes.Special) in
    record { outer = ap is_outer e ∙ o; brace = ap is_brace e ∙ b; inner = ap is_inner e }

module _ (inner ended spaced blank : Bool) (inside rest : List Written) (told : IsSpecial true false inside) where
  pub text_parens_told : IsSpecial inner true rest
      → IsSpecial inner ended
      (enclosed (written sorts.OpenParen spaced terminals.RawParen) inside
      (written sorts.CloseParen blank terminals.RawParenEnd) rest)
  text_parens_told more plains frames state at to within round before stand shut =
      let r = raw_round state true blank raw_paren (written sorts.OpenParen spaced terminals.RawParen) inside rest
      within refl
      (in_special brackets.Paren terminals.RawParen frames refl refl) told stand refl
      (paren_in_text state within plains at stand.0.sort before.word (loose_in before).special) one_of in
      let t = more plains frames r.end r.place to r.within round (behind_item r.before r.word refl refl) r.others
      shut in
      told_by t.end
      (raw_and_rest (written sorts.OpenParen spaced terminals.RawParen)
      (written sorts.CloseParen blank terminals.RawParenEnd) inside rest
      r.reads (reads t)) t.within

  pub text_brackets_told : IsSpecial inner false rest
      → IsSpecial inner ended
      (enclosed (written sorts.OpenBracket spaced terminals.RawBracket) inside
      (written sorts.CloseBracket blank terminals.RawBracketEnd)
      rest)
  text_brackets_told more plains frames state at to within round before stand shut =
      let r = raw_round state true blank raw_bracket (written sorts.OpenBracket spaced terminals.RawBracket) inside
      rest within refl
      (in_special brackets.Bracket terminals.RawBracket frames refl refl) told stand refl
      (bracket_in_text state within plains at stand.0.sort) one_of in
      let t = more plains frames r.end r.place to r.within round (behind_item r.before r.word refl refl) r.others
      shut in
      told_by t.end
      (raw_and_rest (written sorts.OpenBracket spaced terminals.RawBracket)
      (written sorts.CloseBracket blank terminals.RawBracketEnd) inside
      rest r.reads (reads t)) t.within

-- a special function is a value
abbrev special_tokens : Bool → Bool → List Written → List Written
special_tokens spaced blank text =
    written sorts.Special spaced terminals.Special ∷ enclosed (direct sorts.OpenParen terminals.RawParen) text
    (written sorts.CloseParen blank terminals.RawParenEnd) []

pub special_told : {mode : Mode} {spaced : Bool} (blank : Bool) (text : List Written) → IsSpecial false false text
    → IsTold mode spaced false
    (written sorts.Special spaced terminals.Special ∷ enclosed (direct sorts.OpenParen terminals.RawParen) text
    (written sorts.CloseParen blank terminals.RawParenEnd) [])
special_told {mode} {spaced} blank text told = record {
  begins = refl;
  told = λ plains frames state at to entry stand closed. go plains frames state at to entry stand;
}
  where
    no_bound : (m : Mode) → ends_bound m sorts.Special ≡ false
    no_bound modes.Bounds = refl
    no_bound modes.BoundEnds = refl
    no_bound _ = refl

    go : (plains : List Plain) (frames : List Frame) (state : State) (at to : ℕ) → Entry mode frames state spaced false
        → Stand plains at (special_tokens spaced blank text) to
        → Result plains mode frames state at (special_tokens spaced blank text) to
    go plains frames state at to entry (there, stand) =
        let f = fresh_here entry in
        let paren = stand.0 in
        let told_name = special_here entry.value state entry.within plains at (ap is_name there.sort)
        (no_further plains at entry there.spaced)
        f.dollar f.hash f.bang (no_and _ _ f.owned)
        (no_and _ _ (ap (ends_bound mode) there.sort ∙ no_bound mode))
        (and_no _ _ (ap (λ (x : Sort). same x sorts.OpenInsert) paren.sort)) f.owned
        (and_no _ _ (ap (λ (x : Sort). same x sorts.Dot) paren.sort))
        (both _ _ (ap is_special_name there.sort)
        (both _ _ (ap not paren.spaced) (ap (λ (x : Sort). same x sorts.OpenParen) paren.sort))) in
        let n = next state entry.within (value_mode mode entry.value).steady terminals.Special refl refl in
        let s1 = after state terminals.Special in
        let told_paren = by_paren s1 plains (at + 1) paren.sort
        ∙ if_true (is s1.before terminals.Special) terminals.RawParen _
        (ap (λ (t : Terminal). is t terminals.Special) n.before) in
        let r = raw_round s1 false blank raw_paren (direct sorts.OpenParen terminals.RawParen) text [] n.within
        (raw_inner mode entry.value)
        tt told stand refl told_paren one_of in
        result r.end
        (join (step plains state at (written sorts.Special spaced terminals.Special) terminals.Special entry.within
        there refl told_name one_of)
        (subst (λ (k : ℕ). Reads plains s1 (at + 1)
        (enclosed (direct sorts.OpenParen terminals.RawParen) text
        (written sorts.CloseParen blank terminals.RawParenEnd) []) r.end k)
        r.others r.reads)) r.within (ap ends_operand r.before)
