-- Words, and calls by them.
use Rattle.std.proofs.Common.{◌≡◌, ◌⊎◌, ℕ, ◌+◌, Bool, true, false, not, ◌&&◌, ◌||◌, List, [], ◌∷◌, ◌++◌, inl, inr, refl, sym, ◌∙◌, ap, subst}
use Rattle.sw_parse_terminals.specs.declared.terminal.Terminal.{Terminal}
use Rattle.sw_parse_terminals.specs.declared.terminal.Terminal.TheVariants as terminals
use Rattle.sw_parse_lexemes.specs.declared.sort.Sort.{Sort}
use Rattle.sw_parse_lexemes.specs.declared.sort.Sort.TheVariants as sorts
use Rattle.sw_parse_lexemes.specs.declared.plain.Plain.{Plain}
use Rattle.sw_parse_lexemes.specs.declared.state.Mode.{Mode}
use Rattle.sw_parse_lexemes.specs.declared.state.Mode.TheVariants as modes
use Rattle.sw_parse_lexemes.specs.declared.state.Frame.{Frame}
use Rattle.sw_parse_lexemes.specs.declared.state.State.{State}
use Rattle.sw_parse_lexemes.specs.Classes.{same, is_name, is_reserved, is_comment}
use Rattle.sw_parse_lexemes.specs.Ahead.{sort_at, spaced_at, is_direct}
use Rattle.sw_parse_lexemes.specs.Names.{is, is_bang, is_apart, continues, behind_dollar, is_special_name}
use Rattle.sw_parse_lexemes.specs.Signs.{ends_operand}
use Rattle.sw_parse_lexemes.specs.Terminals.{terminal_of}
use Rattle.sw_parse_lexemes.specs.Steps.{inner_mode, after}
use Rattle.sw_text_scan.proofs.Bounds.{if_true}
use Rattle.sw_convert_passing.specs.Written.{Written, written, direct, Stand, Within}
use Rattle.sw_convert_passing.specs.Places.{is_value, IsClosed, Told}
use Rattle.sw_convert_passing.specs.Kinds.{is_word, ends_bound, is_part}
use Rattle.sw_convert_passing.specs.Values.{inserted, begins_insert}
use Rattle.sw_convert_passing.proofs.Facts.{value_calls, no_and, and_no, both, and_left, and_right, value_mode, inner_value, part_quiet, word_of, name_code}
use Rattle.sw_convert_passing.proofs.Steps.{Reads, join, step, stay_at, next}
use Rattle.sw_convert_passing.proofs.BySort.{by_digits, by_minus}
use Rattle.sw_convert_passing.proofs.Tokens.{insert_here, part_insert_here, minus_insert_here, part_here, mixed_word_here, owned_here, name_here}
use Rattle.sw_convert_passing.proofs.Entries.{split, Begins, begins_more, Entry, calm, calm_quiet, Result, result, reads, one_of, IsTold}
use Rattle.sw_convert_passing.proofs.Leaves.{never, fresh_here, owned_by}
use Rattle.sw_convert_passing.proofs.Enclosed.{IsInner, Inserting, insert_round, and_rest, IsCall}

-- a word is told, and one may go on behind it
abbrev pub WordResult : List Plain → Mode → List Frame → State → ℕ → List Written → ℕ → Type 0
WordResult plains mode frames state at tokens to =
    (told : Told plains mode frames state at tokens to) × (ends_operand told.end.before ≡ true) × (told.end.word ≡ true)

word_result : {plains : List Plain} {mode : Mode} {frames : List Frame} {state : State} {at to : ℕ}
    {tokens : List Written}
    (end : State) → Reads plains state at tokens end to → Within mode frames end → ends_operand end.before ≡ true
    → end.word ≡ true → WordResult plains mode frames state at tokens to
word_result end (lexemes, passed) within operand word =
    (record { lexemes = lexemes; end = end; passed = passed; within = within }, operand, word)

-- what goes on with a word
abbrev pub IsParts : List Written → Type 0
IsParts tokens =
    (mode : Mode) (plains : List Plain) (frames : List Frame) (state : State) (at to : ℕ) → is_value mode ≡ true
    → Within mode frames state → ends_operand state.before ≡ true → state.word ≡ true → Stand plains at tokens to
    → WordResult plains mode frames state at tokens to

pub no_part_told : IsParts []
no_part_told mode plains frames state at to value within operand word stand =
    word_result state (stay_at stand) within operand word

part_code : (sort : Sort) → is_part sort ≡ true → is_comment sort ≡ false
part_code sorts.Comment e = absurd (cc)
part_code sorts.CommentTemplate e = absurd (cc)
part_code _ e = refl

part_no_insert : (sort : Sort) → is_part sort ≡ true → false ≡ same sort sorts.OpenInsert
part_no_insert sorts.OpenInsert e = absurd (cc)
part_no_insert _ e = refl

-- the three kinds of parts
part_kinds : (sort : Sort) → is_part sort ≡ true
    → ((sort ≡ sorts.Digits) ⊎ (sort ≡ sorts.Minus)) ⊎ (is_name sort ≡ true)
part_kinds sorts.Digits e = inl (inl refl)
part_kinds sorts.Minus e = inl (inr refl)
part_kinds _ e = inr e

part_is : {mode : Mode} {frames : List Frame} (state : State) (plains : List Plain) (at : ℕ) → is_value mode ≡ true
    → Within mode frames state → continues state plains at ≡ true
    → ((sort_at plains at ≡ sorts.Digits) ⊎ (sort_at plains at ≡ sorts.Minus)) ⊎ (is_name (sort_at plains at) ≡ true)
    → terminal_of state plains at ≡ terminals.Part
part_is {mode} state plains at value within c (inl (inl e)) =
    by_digits state plains at e ∙ if_true (continues state plains at) terminals.Part _ c
part_is {mode} state plains at value within c (inl (inr e)) =
    by_minus state plains at e ∙ if_true (continues state plains at) terminals.Part _ c
part_is {mode} state plains at value within c (inr n) = part_here (value_mode mode value).raw state within plains at n c

pub part_told : (sort : Sort) (parts : List Written) → is_part sort ≡ true → IsParts parts
    → IsParts (direct sort terminals.Part ∷ parts)
part_told sort parts p told mode plains frames state at to value within operand word (there, stand) =
    let further : continues state plains at ≡ true = both state.word _ word (ap not there.spaced) in
    let is_one = part_is state plains at value within further
    (part_kinds (sort_at plains at) (ap is_part there.sort ∙ p)) in
    let n = next state within (value_mode mode value).steady terminals.Part refl refl in
    let (t, o, w) = told mode plains frames (after state terminals.Part) (at + 1) to value n.within
    (ap ends_operand n.before) n.word stand in
    word_result t.end
    (join (step plains state at (direct sort terminals.Part) terminals.Part within there (part_code sort p) is_one
    one_of) (reads t))
    t.within o w

-- a `#{}` in a word, and what goes on behind it
insert_and : {mode : Mode} {frames : List Frame} {plains : List Plain} {at to : ℕ} (state : State) (spaced : Bool)
    (terminal : Terminal)
    (inner parts : List Written) → is_value mode ≡ true → Within mode frames state
    → inner_mode mode terminal ≡ modes.Expression → Inserting terminal true → IsInner inner → IsParts parts
    → Stand plains at (inserted spaced terminal inner parts) to → terminal_of state plains at ≡ terminal
    → WordResult plains mode frames state at (inserted spaced terminal inner parts) to
insert_and {mode} {frames} {plains} {at} {to} state spaced terminal inner parts value within inside how told more
    stand is_opening =
    let i = insert_round state spaced true terminal inner parts within inside how told stand is_opening in
    let (t, o, w) = more mode plains frames i.end i.place to value i.within (ap ends_operand i.before) i.word
    i.others in
    word_result t.end (and_rest spaced terminal inner parts i.reads (reads t)) t.within o w

pub part_insert_told : (inner parts : List Written) → IsInner inner → IsParts parts
    → IsParts (inserted false terminals.PartInsert inner parts)
part_insert_told inner parts told more mode plains frames state at to value within operand word stand =
    insert_and state false terminals.PartInsert inner parts value within
    (inner_value mode terminals.PartInsert value refl)
    (record {
      opened = refl;
      begins = refl;
      leads = record { before = refl; operand = refl; comma = refl };
      word =
          refl;
    })
    told more stand
    (part_insert_here (value_mode mode value).raw state within plains at stand.0.sort
    (both state.word _ word (ap not stand.0.spaced)))

-- where a word may begin: behind the `.` of a namespace, or where a value may
pub record WordEntry (mode : Mode) (frames : List Frame) (state : State) (spaced owned : Bool) : Type 0 where
  pub value : is_value mode ≡ true
  pub within : Within mode frames state
  pub word : (state.word && not spaced) ≡ false
  pub dollar : behind_dollar state.before ≡ false
  pub hash : is state.before terminals.Hash ≡ false
  pub bang : is_bang state.before ≡ false
  pub apart : (is state.before terminals.OwnerDot && spaced) ≡ false
  pub owned_is : is state.before terminals.OwnerDot ≡ owned

pub word_entry : {mode : Mode} {frames : List Frame} {state : State} {spaced signed : Bool}
    → Entry mode frames state spaced signed → WordEntry mode frames state spaced false
word_entry entry =
    let f = fresh_here entry in record {
      value = entry.value;
      within = entry.within;
      word = entry.ready.word;
      dollar = f.dollar;
      hash = f.hash;
      bang = f.bang;
      apart = no_and _ _ f.owned;
      owned_is = f.owned;
    }

pub owned_entry : {mode : Mode} {frames : List Frame} {state : State} → is_value mode ≡ true → Within mode frames state
    → state.before ≡ terminals.OwnerDot → state.word ≡ false → WordEntry mode frames state false true
owned_entry {mode} {frames} {state} value within before word = record {
  value = value;
  within = within;
  word = no_and state.word _ word;
  dollar = ap behind_dollar before;
  hash = ap (λ (t : Terminal). is t terminals.Hash) before;
  bang = ap is_bang before;
  apart = and_no (is state.before terminals.OwnerDot) _ refl;
  owned_is = ap (λ (t : Terminal). is t terminals.OwnerDot) before;
}

-- behind a word stand the arguments of a call, or nothing that goes on with it
abbrev pub Follows : Bool → List Plain → ℕ → Type 0
Follows true plains at = (spaced_at plains at ≡ false) × (sort_at plains at ≡ sorts.OpenParen)
Follows false plains at = IsClosed plains at

pub record IsWord (mode : Mode) (spaced owned called : Bool) (tokens : List Written) : Type 0 where
  pub begins : Begins spaced tokens
  pub told : (plains : List Plain) (frames : List Frame) (state : State) (at to : ℕ)
      → WordEntry mode frames state spaced owned → Stand plains at tokens to → Follows called plains to
      → WordResult plains mode frames state at tokens to

continues_not : {mode : Mode} {frames : List Frame} {state : State} {spaced owned : Bool} (plains : List Plain) (at : ℕ)
    → WordEntry mode frames state spaced owned → spaced_at plains at ≡ spaced → continues state plains at ≡ false
continues_not {mode} {frames} {state} plains at entry s = ap (λ (b : Bool). state.word && not b) s ∙ entry.word

apart_not : {mode : Mode} {frames : List Frame} {state : State} {spaced owned : Bool} (plains : List Plain) (at : ℕ)
    → WordEntry mode frames state spaced owned → spaced_at plains at ≡ spaced → is_apart state plains at ≡ false
apart_not {mode} {frames} {state} plains at entry s =
    ap (λ (b : Bool). is state.before terminals.OwnerDot && b) s ∙ entry.apart

begun_by : {mode : Mode} (inner parts : List Written) → IsInner inner → IsParts parts → (plains : List Plain)
    (frames : List Frame) (state : State) (at to : ℕ) (blank : Bool) → is_value mode ≡ true → Within mode frames state
    → continues state plains at ≡ false → is_apart state plains at ≡ false
    → Stand plains at (inserted blank terminals.WordInsert inner parts) to
    → WordResult plains mode frames state at (inserted blank terminals.WordInsert inner parts) to
begun_by {mode} inner parts told more plains frames state at to blank value within c a stand =
    insert_and state blank terminals.WordInsert inner parts value within
    (inner_value mode terminals.WordInsert value refl)
    (record {
      opened = refl;
      begins = refl;
      leads = record { before = refl; operand = refl; comma = refl };
      word =
          refl;
    })
    told more stand (insert_here value state within plains at stand.0.sort c a)

module _ {mode : Mode} {spaced owned called : Bool} (inner parts : List Written) (told : IsInner inner)
    (more : IsParts parts) where
  pub begun_told : IsWord mode spaced owned called (inserted spaced terminals.WordInsert inner parts)
  begun_told = record {
    begins = refl;
    told = λ plains frames state at to entry stand follows.
        begun_by inner parts told more plains frames state at to spaced entry.value entry.within
        (continues_not plains at entry stand.0.spaced)
        (apart_not plains at entry stand.0.spaced) stand;
  }

  pub begun_minus_told : IsWord mode spaced owned called
      (written sorts.Minus spaced terminals.WordMinus ∷ inserted false terminals.WordInsert inner parts)
  begun_minus_told = record {
    begins = refl;
    told = λ plains frames state at to entry stand follows. go plains frames state at to entry stand;
  }
    where
      go : (plains : List Plain) (frames : List Frame) (state : State) (at to : ℕ)
          → WordEntry mode frames state spaced owned
          → Stand plains at
          (written sorts.Minus spaced terminals.WordMinus ∷ inserted false terminals.WordInsert inner parts) to
          → WordResult plains mode frames state at
          (written sorts.Minus spaced terminals.WordMinus ∷ inserted false terminals.WordInsert inner parts) to
      go plains frames state at to entry (there, stand) =
          let insert : is_direct plains (at + 1) sorts.OpenInsert ≡ true =
          both _ _ (ap not stand.0.spaced) (ap (λ (x : Sort). same x sorts.OpenInsert) stand.0.sort) in
          let is_one = minus_insert_here entry.value state entry.within plains at there.sort
          (continues_not plains at entry there.spaced) insert (apart_not plains at entry there.spaced) in
          let n = next state entry.within (value_mode mode entry.value).steady terminals.WordMinus refl refl in
          let s1 = after state terminals.WordMinus in
          let (t, o, w) = begun_by inner parts told more plains frames s1 (at + 1) to false entry.value n.within
          (never s1 plains (at + 1) n.word)
          (no_and _ _ (ap (λ (x : Terminal). is x terminals.OwnerDot) n.before)) stand in
          word_result t.end
          (join (step plains state at (written sorts.Minus spaced terminals.WordMinus) terminals.WordMinus
          entry.within there refl
          is_one one_of) (reads t)) t.within o w

-- what stands behind the name that a word begins with
pub record Beyond (plains : List Plain) (at : ℕ) (called insert : Bool) : Type 0 where
  pub insert_is : is_direct plains at sorts.OpenInsert ≡ insert
  pub dot : is_direct plains at sorts.Dot ≡ false
  pub paren : (is_direct plains at sorts.OpenParen && not called) ≡ false

pub beyond_end : (called : Bool) (plains : List Plain) (at : ℕ) → Follows called plains at
    → Beyond plains at called false
beyond_end true plains at (s, e) = record {
  insert_is = and_no (not (spaced_at plains at)) _ (ap (λ (x : Sort). same x sorts.OpenInsert) e);
  dot = and_no (not (spaced_at plains at)) _ (ap (λ (x : Sort). same x sorts.Dot) e);
  paren = and_no (is_direct plains at sorts.OpenParen) _ refl;
}
beyond_end false plains at closed =
    let c = calm plains at closed in record { insert_is = c.insert; dot = c.dot; paren = no_and _ _ c.paren }

pub beyond_part : (called : Bool) (plains : List Plain) (at : ℕ) (sort : Sort) → is_part sort ≡ true
    → sort_at plains at ≡ sort
    → Beyond plains at called false
beyond_part called plains at sort p e =
    let c = calm_quiet plains at (part_quiet (sort_at plains at) (ap is_part e ∙ p)) in
    record { insert_is = c.insert; dot = c.dot; paren = no_and _ _ c.paren }

pub beyond_insert : (called : Bool) (plains : List Plain) (at : ℕ) → sort_at plains at ≡ sorts.OpenInsert
    → spaced_at plains at ≡ false → Beyond plains at called true
beyond_insert called plains at e s = record {
  insert_is = both _ _ (ap not s) (ap (λ (x : Sort). same x sorts.OpenInsert) e);
  dot = and_no (not (spaced_at plains at)) _ (ap (λ (x : Sort). same x sorts.Dot) e);
  paren = no_and _ _ (and_no (not (spaced_at plains at)) _ (ap (λ (x : Sort). same x sorts.OpenParen) e));
}

-- what is known of a name that is a word without `#{` behind it
record Worded (mode : Mode) (owned called : Bool) (sort : Sort) : Type 0 where
  free : is_reserved sort ≡ false
  bound : ends_bound mode sort ≡ false
  special : (owned || (not called || not (is_special_name sort))) ≡ true

not_true : (b : Bool) → not b ≡ true → b ≡ false
not_true true e = absurd (cc)
not_true false e = refl

worded : (mode : Mode) (owned called : Bool) (sort : Sort) → is_word mode owned called sort ≡ true
    → Worded mode owned called sort
worded mode owned called sort w =
    let rest = and_right (not (is_reserved sort)) _ w in record {
      free = not_true _ (and_left (not (is_reserved sort)) _ w);
      bound = not_true _ (and_left (not (ends_bound mode sort)) _ rest);
      special = and_right (not (ends_bound mode sort)) _ rest;
    }

no_special : (special paren called : Bool) → (false || (not called || not special)) ≡ true
    → (paren && not called) ≡ false
    → (special && paren) ≡ false
no_special true true true e p = absurd (cc)
no_special true true false e p = absurd (cc)
no_special true false called e p = refl
no_special false paren called e p = refl

module _ {mode : Mode} {frames : List Frame} {state : State} {spaced : Bool} (plains : List Plain) (at : ℕ)
    (called : Bool) (sort : Sort)
    (is_named : is_name (sort_at plains at) ≡ true) (there_sort : sort_at plains at ≡ sort)
    (there_spaced : spaced_at plains at ≡ spaced) where
  first_is : (owned insert : Bool) → WordEntry mode frames state spaced owned
      → (insert || is_word mode owned called sort) ≡ true
      → Beyond plains (at + 1) called insert → terminal_of state plains at ≡ terminals.Word
  first_is owned true entry w beyond =
      mixed_word_here entry.value state entry.within plains at is_named (continues_not plains at entry there_spaced)
      entry.dollar
      entry.hash entry.bang (apart_not plains at entry there_spaced)
      (and_no (ends_bound mode (sort_at plains at)) _
      (ap (λ (b : Bool). not (b || is_direct plains (at + 1) sorts.Dot)) beyond.insert_is))
      beyond.insert_is
  first_is true false entry w beyond =
      let is_one = worded mode true called sort w in
      owned_here entry.value state entry.within plains at is_named (continues_not plains at entry there_spaced)
      entry.dollar
      entry.hash entry.bang (apart_not plains at entry there_spaced)
      (no_and _ _ (ap (ends_bound mode) there_sort ∙ is_one.bound)) beyond.insert_is entry.owned_is
      ∙ word_of (sort_at plains at) (ap is_reserved there_sort ∙ is_one.free)
  first_is false false entry w beyond =
      let is_one = worded mode false called sort w in
      name_here entry.value state entry.within plains at is_named (continues_not plains at entry there_spaced)
      entry.dollar
      entry.hash entry.bang (apart_not plains at entry there_spaced)
      (no_and _ _ (ap (ends_bound mode) there_sort ∙ is_one.bound)) beyond.insert_is entry.owned_is beyond.dot
      (no_special (is_special_name (sort_at plains at)) (is_direct plains (at + 1) sorts.OpenParen) called
      (ap (λ (x : Sort). false || (not called || not (is_special_name x))) there_sort ∙ is_one.special) beyond.paren)
      ∙ word_of (sort_at plains at) (ap is_reserved there_sort ∙ is_one.free)

-- what is known of the place behind the name, by what goes on there
abbrev pub Going : Bool → List Written → Type 0
Going called parts =
    (plains : List Plain) (at to : ℕ) → Stand plains at parts to → Follows called plains to
    → Beyond plains at called (begins_insert parts)

pub named_told : {mode : Mode} {spaced owned called : Bool} (sort : Sort) (parts : List Written) → is_name sort ≡ true
    → (begins_insert parts || is_word mode owned called sort) ≡ true → IsParts parts → Going called parts
    → IsWord mode spaced owned called (written sort spaced terminals.Word ∷ parts)
named_told {mode} {spaced} {owned} {called} sort parts named w more going = record {
  begins = refl;
  told = λ plains frames state at to entry stand follows. go plains frames state at to entry stand follows;
}
  where
    go : (plains : List Plain) (frames : List Frame) (state : State) (at to : ℕ)
        → WordEntry mode frames state spaced owned
        → Stand plains at (written sort spaced terminals.Word ∷ parts) to → Follows called plains to
        → WordResult plains mode frames state at (written sort spaced terminals.Word ∷ parts) to
    go plains frames state at to entry (there, stand) follows =
        let is_one = first_is plains at called sort (ap is_name there.sort ∙ named) there.sort there.spaced owned
        (begins_insert parts) entry w
        (going plains (at + 1) to stand follows) in
        let n = next state entry.within (value_mode mode entry.value).steady terminals.Word refl refl in
        let (t, o, x) = more mode plains frames (after state terminals.Word) (at + 1) to entry.value n.within
        (ap ends_operand n.before) n.word stand in
        word_result t.end
        (join (step plains state at (written sort spaced terminals.Word) terminals.Word entry.within there
        (name_code sort named)
        is_one one_of) (reads t)) t.within o x

pub going_end : (called : Bool) → Going called []
going_end called plains at to stand follows =
    beyond_end called plains at (subst (Follows called plains) (sym stand) follows)

pub going_part : (called : Bool) (sort : Sort) (parts : List Written) → is_part sort ≡ true
    → Going called (direct sort terminals.Part ∷ parts)
going_part called sort parts p plains at to stand follows =
    subst (Beyond plains at called) (part_no_insert sort p) (beyond_part called plains at sort p stand.0.sort)

pub going_insert : (called : Bool) (inner parts : List Written)
    → Going called (inserted false terminals.PartInsert inner parts)
going_insert called inner parts plains at to stand follows = beyond_insert called plains at stand.0.sort stand.0.spaced

-- a word by itself, and before the arguments of a call
pub word_told : {mode : Mode} {spaced : Bool} (name : List Written) → IsWord mode spaced false false name
    → IsTold mode spaced false name
word_told name word = record {
  begins = word.begins;
  told = λ plains frames state at to entry stand closed.
      let (t, o, w) = word.told plains frames state at to (word_entry entry) stand closed in (t, o);
}

-- the arguments of a call begin directly behind its name
abbrev pub CallBegins : List Written → Type 0
CallBegins call =
    (plains : List Plain) (at to : ℕ) → Stand plains at call to
    → (spaced_at plains at ≡ false) × (sort_at plains at ≡ sorts.OpenParen)

pub called_told : {mode : Mode} {spaced : Bool} (name call : List Written) → IsWord mode spaced false true name
    → IsCall call
    → CallBegins call → IsTold mode spaced false (name ++ call)
called_told {mode} {spaced} name call word arguing begins = record {
  begins = begins_more spaced name call word.begins;
  told = λ plains frames state at to entry stand closed.
      let (place, stands, rest) = split plains to name call at stand in
      let (t, o, w) = word.told plains frames state at place (word_entry entry) stands (begins plains place to rest) in
      let (u, end, shut) = arguing mode plains frames t.end place to (value_calls mode entry.value) t.within w o rest in
      result u.end (join (reads t) (reads u)) u.within (ap ends_operand end);
}

pub owned_call_told : {mode : Mode} {spaced : Bool} (owner : Sort) (name call : List Written) → is_name owner ≡ true
    → IsWord mode false true true name → IsCall call → CallBegins call
    → IsTold mode spaced false
    (written owner spaced terminals.Owner ∷ direct sorts.Dot terminals.OwnerDot ∷ (name ++ call))
owned_call_told {mode} {spaced} owner name call o word arguing begins = record {
  begins = refl;
  told = λ plains frames state at to entry stand closed. go plains frames state at to entry stand;
}
  where
    go : (plains : List Plain) (frames : List Frame) (state : State) (at to : ℕ) → Entry mode frames state spaced false
        → Stand plains at
        (written owner spaced terminals.Owner ∷ direct sorts.Dot terminals.OwnerDot ∷ (name ++ call)) to
        → Result plains mode frames state at
        (written owner spaced terminals.Owner ∷ direct sorts.Dot terminals.OwnerDot ∷ (name ++ call)) to
    go plains frames state at to entry (there, (dot, stand)) =
        let by = owned_by plains state at owner o entry there dot in
        let (place, stands, rest) = split plains to name call ((at + 1) + 1) stand in
        let (t, operand, w) = word.told plains frames by.end ((at + 1) + 1) place
        (owned_entry entry.value by.within by.before by.word) stands (begins plains place to rest) in
        let (u, end, shut) = arguing mode plains frames t.end place to (value_calls mode entry.value) t.within w
        operand rest in
        result u.end (join by.reads (join (reads t) (reads u))) u.within (ap ends_operand end)
