-- Values of one token or a few.
use Rattle.std.proofs.Common.{◌≡◌, ◌⊎◌, ℕ, ◌+◌, Bool, true, false, not, ◌&&◌, ◌||◌, List, [], ◌∷◌, inl, inr, refl, sym, ◌∙◌, ap, subst}
use Rattle.sw_parse_terminals.specs.declared.terminal.Terminal.{Terminal}
use Rattle.sw_parse_terminals.specs.declared.terminal.Terminal.TheVariants as terminals
use Rattle.sw_parse_lexemes.specs.declared.sort.Sort.{Sort}
use Rattle.sw_parse_lexemes.specs.declared.sort.Sort.TheVariants as sorts
use Rattle.sw_parse_lexemes.specs.declared.plain.Plain.{Plain}
use Rattle.sw_parse_lexemes.specs.declared.state.Mode.{Mode}
use Rattle.sw_parse_lexemes.specs.declared.state.Mode.TheVariants as modes
use Rattle.sw_parse_lexemes.specs.declared.state.Frame.{Frame}
use Rattle.sw_parse_lexemes.specs.declared.state.State.{State}
use Rattle.sw_parse_lexemes.specs.Classes.{same, is_name, is_number, is_comment}
use Rattle.sw_parse_lexemes.specs.Ahead.{sort_at, spaced_at, is_direct}
use Rattle.sw_parse_lexemes.specs.Names.{is, is_bang, is_special_name, continues, behind_dollar, behind_bang, constant_or_word}
use Rattle.sw_parse_lexemes.specs.Signs.{ends_operand, minus_signs, plus_signs}
use Rattle.sw_parse_lexemes.specs.Terminals.{terminal_of}
use Rattle.sw_parse_lexemes.specs.Steps.{in_word, after}
use Rattle.sw_convert_passing.specs.Written.{Written, written, direct, IsThere, Stand, Within}
use Rattle.sw_convert_passing.specs.Places.{is_value, IsClosed}
use Rattle.sw_convert_passing.specs.Kinds.{is_quoted, is_hash_name, is_keyword, is_constant, keyword, is_bound, ends_bound, is_lone, lone, is_lone_value}
use Rattle.sw_convert_passing.specs.Values.{dollar}
use Rattle.sw_convert_passing.proofs.Facts.{no_and, and_no, both, value_mode, Fresh, fresh, keyword_is, name_code, number_code}
use Rattle.sw_convert_passing.proofs.Steps.{Reads, join, step, next}
use Rattle.sw_convert_passing.proofs.Walks.{next_code}
use Rattle.sw_convert_passing.proofs.BySort.{lone_here}
use Rattle.sw_convert_passing.proofs.Tokens.{code_here, number_here, sign_here, positive_here, quoted_here, dollar_here, owner_dollar_here, owner_dot_here, bang_here, variable_name_here, hash_name_here, flag_here, owner_here, name_here}
use Rattle.sw_convert_passing.proofs.Entries.{Entry, Calm, calm, Result, result, one_of, Plainly, last, IsTold}

-- no word goes on where a value begins
pub no_further : {mode : Mode} {frames : List Frame} {state : State} {spaced signed : Bool} (plains : List Plain)
    (at : ℕ)
    → Entry mode frames state spaced signed → spaced_at plains at ≡ spaced → continues state plains at ≡ false
no_further {mode} {frames} {state} plains at entry s =
    ap (λ (b : Bool). state.word && not b) s ∙ entry.ready.word

pub never : (state : State) (plains : List Plain) (at : ℕ) → state.word ≡ false → continues state plains at ≡ false
never state plains at w = no_and state.word (not (spaced_at plains at)) w

pub fresh_here : {mode : Mode} {frames : List Frame} {state : State} {spaced signed : Bool}
    → Entry mode frames state spaced signed → Fresh state.before
fresh_here {mode} {frames} {state} entry = fresh state.before entry.ready.before

-- each number, string and constant
number_no_insert : (spaced : Bool) (sort : Sort) → is_number sort ≡ true
    → (not spaced && same sort sorts.OpenInsert) ≡ false
number_no_insert spaced sorts.Digits n = and_no (not spaced) _ refl
number_no_insert spaced sorts.Number n = and_no (not spaced) _ refl
number_no_insert spaced _ n = absurd (cc)

quoted_code : (sort : Sort) → is_quoted sort ≡ true → is_comment sort ≡ false
quoted_code sorts.Quoted q = refl
quoted_code sorts.Unnamed q = refl
quoted_code _ q = absurd (cc)

hash_code : (sort : Sort) → is_hash_name sort ≡ true → is_comment sort ≡ false
hash_code sorts.Comment e = absurd (cc)
hash_code sorts.CommentTemplate e = absurd (cc)
hash_code _ e = refl

record LoneValue (sort : Sort) : Type 0 where
  alone : is_lone sort ≡ true
  code : is_comment sort ≡ false
  plainly : Plainly (lone sort)
  operand : ends_operand (lone sort) ≡ true

lone_value_is : (sort : Sort) → is_lone_value sort ≡ true → LoneValue sort
lone_value_is sorts.Url e = record
    { alone = refl; code = refl; plainly = record { goes = refl; begins = refl }; operand = refl }
lone_value_is sorts.Range e = record
    { alone = refl; code = refl; plainly = record { goes = refl; begins = refl }; operand = refl }
lone_value_is sorts.Ampersand e = record
    { alone = refl; code = refl; plainly = record { goes = refl; begins = refl }; operand = refl }
lone_value_is _ e = absurd (cc)

record Constant (sort : Sort) : Type 0 where
  is_one : is_keyword sort ≡ true
  code : is_comment sort ≡ false
  plainly : Plainly (keyword sort)
  operand : ends_operand (keyword sort) ≡ true

constant_is : (sort : Sort) → is_constant sort ≡ true → Constant sort
constant_is sorts.True e = record
    { is_one = refl; code = refl; plainly = record { goes = refl; begins = refl }; operand = refl }
constant_is sorts.False e = record
    { is_one = refl; code = refl; plainly = record { goes = refl; begins = refl }; operand = refl }
constant_is sorts.Null e = record
    { is_one = refl; code = refl; plainly = record { goes = refl; begins = refl }; operand = refl }
constant_is _ e = absurd (cc)

no_bound : (mode : Mode) (sort : Sort) → is_bound sort ≡ false → ends_bound mode sort ≡ false
no_bound modes.Bounds sort b = b
no_bound modes.BoundEnds sort b = b
no_bound _ sort b = refl

-- a keyword that stands by itself
pub keyword_here : {mode : Mode} {frames : List Frame} {state : State} {spaced signed : Bool} (plains : List Plain)
    (at : ℕ)
    (sort : Sort) → is_keyword sort ≡ true → Entry mode frames state spaced signed → sort_at plains at ≡ sort
    → spaced_at plains at ≡ spaced → Calm plains (at + 1) → terminal_of state plains at ≡ keyword sort
keyword_here {mode} {frames} {state} plains at sort k entry e s next_to =
    let f = fresh_here entry in
    let told = keyword_is sort k in
    name_here entry.value state entry.within plains at (ap is_name e ∙ told.named) (no_further plains at entry s)
    f.dollar f.hash
    f.bang (no_and _ _ f.owned)
    (no_and _ _ (ap (ends_bound mode) e ∙ no_bound mode sort told.no_bound)) next_to.insert f.owned next_to.dot
    (no_and _ _ (ap is_special_name e ∙ told.no_special))
    ∙ ap constant_or_word e ∙ told.told

signed_by : (operand blank : Bool) → (operand && (not blank || false)) ≡ false → (blank || not operand) ≡ true
signed_by true true e = refl
signed_by true false e = absurd (cc)
signed_by false true e = refl
signed_by false false e = refl

-- what stands directly behind a `#`
hash_second : {mode : Mode} {frames : List Frame} (state : State) (plains : List Plain) (at : ℕ) → is_value mode ≡ true
    → Within mode frames state → state.before ≡ terminals.Hash → state.word ≡ false → spaced_at plains at ≡ false
    → (sort_at plains at ≡ sorts.Hex) ⊎ (is_name (sort_at plains at) ≡ true)
    → terminal_of state plains at ≡ terminals.HashName
hash_second state plains at value within before word s (inl e) =
    lone_here state plains at (code_here value state within plains at) sorts.Hex refl e
hash_second state plains at value within before word s (inr n) =
    hash_name_here value state within plains at n (never state plains at word) (ap behind_dollar before)
    (ap (λ (t : Terminal). is t terminals.Hash) before) s

hash_sorts : (sort : Sort) → is_hash_name sort ≡ true → (sort ≡ sorts.Hex) ⊎ (is_name sort ≡ true)
hash_sorts sorts.Hex h = inl refl
hash_sorts _ h = inr h

hash_at : (sort other : Sort) → other ≡ sort → is_hash_name sort ≡ true → (other ≡ sorts.Hex) ⊎ (is_name other ≡ true)
hash_at sort other e h = hash_sorts other (ap is_hash_name e ∙ h)

module _ {mode : Mode} {spaced : Bool} where
  pub number_told : (sort : Sort) → is_number sort ≡ true
      → IsTold mode spaced false (written sort spaced terminals.Number ∷ [])
  number_told sort n = record {
    begins = refl;
    told = λ plains frames state at to entry stand closed.
        last (written sort spaced terminals.Number) terminals.Number entry.value entry.within stand.0 stand.1
        (number_code sort n)
        (number_here (value_mode mode entry.value).raw state entry.within plains at sort n stand.0.sort
        (no_further plains at entry stand.0.spaced))
        one_of (record { goes = refl; begins = refl }) refl;
  }

  pub negative_told : (sort : Sort) → is_number sort ≡ true
      → IsTold mode spaced false (written sorts.Minus spaced terminals.Sign ∷ direct sort terminals.Number ∷ [])
  negative_told sort n = record {
    begins = refl;
    told = λ plains frames state at to entry stand closed. go plains frames state at to entry stand;
  }
    where
      go : (plains : List Plain) (frames : List Frame) (state : State) (at to : ℕ)
          → Entry mode frames state spaced false
          → Stand plains at (written sorts.Minus spaced terminals.Sign ∷ direct sort terminals.Number ∷ []) to
          → Result plains mode frames state at
          (written sorts.Minus spaced terminals.Sign ∷ direct sort terminals.Number ∷ []) to
      go plains frames state at to entry (there, (number, e)) =
          let one = written sorts.Minus spaced terminals.Sign in
          let signs : minus_signs state plains at ≡ true = both _ _
          (both _ _ (ap not number.spaced) (ap is_number number.sort ∙ n))
          (ap (λ (b : Bool). b || not (ends_operand state.before)) there.spaced
          ∙ signed_by (ends_operand state.before) spaced entry.ready.operand) in
          let no_insert : is_direct plains (at + 1) sorts.OpenInsert ≡ false =
          ap (λ (x : Sort). not (spaced_at plains (at + 1)) && same x sorts.OpenInsert) number.sort
          ∙ number_no_insert (spaced_at plains (at + 1)) sort n in
          let told = sign_here entry.value state entry.within plains at there.sort
          (no_further plains at entry there.spaced) no_insert signs in
          let n1 = next state entry.within (value_mode mode entry.value).steady terminals.Sign refl refl in
          let second = number_here (value_mode mode entry.value).raw (after state terminals.Sign) n1.within plains
          (at + 1) sort n number.sort
          (never (after state terminals.Sign) plains (at + 1) n1.word) in
          let (t, operand) = last (direct sort terminals.Number) terminals.Number entry.value n1.within number e
          (number_code sort n)
          second one_of (record { goes = refl; begins = refl }) refl in
          result t.end
          (join (step plains state at one terminals.Sign entry.within there refl told one_of) (t.lexemes, t.passed))
          t.within operand

  pub positive_told : (sort : Sort) → is_number sort ≡ true
      → IsTold mode spaced true (written sorts.Plus spaced terminals.Sign ∷ direct sort terminals.Number ∷ [])
  positive_told sort n = record {
    begins = refl;
    told = λ plains frames state at to entry stand closed. go plains frames state at to entry stand;
  }
    where
      behind_none : (operand blank : Bool) → (operand && (not blank || true)) ≡ false → operand ≡ false
      behind_none true true e = e
      behind_none true false e = e
      behind_none false blank e = refl

      go : (plains : List Plain) (frames : List Frame) (state : State) (at to : ℕ)
          → Entry mode frames state spaced true
          → Stand plains at (written sorts.Plus spaced terminals.Sign ∷ direct sort terminals.Number ∷ []) to
          → Result plains mode frames state at
          (written sorts.Plus spaced terminals.Sign ∷ direct sort terminals.Number ∷ []) to
      go plains frames state at to entry (there, (number, e)) =
          let one = written sorts.Plus spaced terminals.Sign in
          let signs : plus_signs state plains at ≡ true = both _ _
          (both _ _ (ap not number.spaced) (ap is_number number.sort ∙ n))
          (ap not (behind_none (ends_operand state.before) spaced entry.ready.operand)) in
          let told = positive_here entry.value state entry.within plains at there.sort signs in
          let n1 = next state entry.within (value_mode mode entry.value).steady terminals.Sign refl refl in
          let second = number_here (value_mode mode entry.value).raw (after state terminals.Sign) n1.within plains
          (at + 1) sort n number.sort
          (never (after state terminals.Sign) plains (at + 1) n1.word) in
          let (t, operand) = last (direct sort terminals.Number) terminals.Number entry.value n1.within number e
          (number_code sort n)
          second one_of (record { goes = refl; begins = refl }) refl in
          result t.end
          (join (step plains state at one terminals.Sign entry.within there refl told one_of) (t.lexemes, t.passed))
          t.within operand

  pub quoted_told : (sort : Sort) → is_quoted sort ≡ true
      → IsTold mode spaced false (written sort spaced terminals.Quoted ∷ [])
  quoted_told sort q = record {
    begins = refl;
    told = λ plains frames state at to entry stand closed.
        last (written sort spaced terminals.Quoted) terminals.Quoted entry.value entry.within stand.0 stand.1
        (quoted_code sort q)
        (quoted_here entry.value state entry.within plains at sort q stand.0.sort entry.ready.before)
        one_of (record { goes = refl; begins = refl }) refl;
  }

  pub lone_value_told : (sort : Sort) → is_lone_value sort ≡ true
      → IsTold mode spaced false (written sort spaced (lone sort) ∷ [])
  lone_value_told sort l =
      let facts = lone_value_is sort l in record {
        begins = refl;
        told = λ plains frames state at to entry stand closed.
            last (written sort spaced (lone sort)) (lone sort) entry.value entry.within stand.0 stand.1 facts.code
            (lone_here state plains at (code_here entry.value state entry.within plains at) sort facts.alone
            stand.0.sort)
            one_of facts.plainly facts.operand;
      }

  pub constant_told : (sort : Sort) → is_constant sort ≡ true
      → IsTold mode spaced false (written sort spaced (keyword sort) ∷ [])
  constant_told sort c =
      let facts = constant_is sort c in record {
        begins = refl;
        told = λ plains frames state at to entry stand closed.
            last (written sort spaced (keyword sort)) (keyword sort) entry.value entry.within stand.0 stand.1 facts.code
            (keyword_here plains at sort facts.is_one entry stand.0.sort stand.0.spaced
            (calm plains (at + 1) (subst (IsClosed plains) (sym stand.1) closed)))
            one_of facts.plainly facts.operand;
      }

  pub hash_told : (sort : Sort) → is_hash_name sort ≡ true
      → IsTold mode spaced false (written sorts.Hash spaced terminals.Hash ∷ direct sort terminals.HashName ∷ [])
  hash_told sort h = record {
    begins = refl;
    told = λ plains frames state at to entry stand closed. go plains frames state at to entry stand;
  }
    where
      go : (plains : List Plain) (frames : List Frame) (state : State) (at to : ℕ)
          → Entry mode frames state spaced false
          → Stand plains at (written sorts.Hash spaced terminals.Hash ∷ direct sort terminals.HashName ∷ []) to
          → Result plains mode frames state at
          (written sorts.Hash spaced terminals.Hash ∷ direct sort terminals.HashName ∷ []) to
      go plains frames state at to entry (there, (second, e)) =
          let told = lone_here state plains at (code_here entry.value state entry.within plains at) sorts.Hash refl
          there.sort in
          let n1 = next state entry.within (value_mode mode entry.value).steady terminals.Hash refl refl in
          let (t, operand) = last (direct sort terminals.HashName) terminals.HashName entry.value n1.within second e
          (hash_code sort h)
          (hash_second (after state terminals.Hash) plains (at + 1) entry.value n1.within n1.before n1.word
          second.spaced
          (hash_at sort (sort_at plains (at + 1)) second.sort h))
          one_of (record { goes = refl; begins = refl }) refl in
          result t.end
          (join (step plains state at (written sorts.Hash spaced terminals.Hash) terminals.Hash entry.within there
          refl told one_of)
          (t.lexemes, t.passed)) t.within operand

  pub important_told : IsTold mode spaced false
      (written sorts.Exclamation spaced terminals.Bang ∷ direct sorts.Important terminals.Important ∷ [])
  important_told = record {
    begins = refl;
    told = λ plains frames state at to entry stand closed. go plains frames state at to entry stand;
  }
    where
      go : (plains : List Plain) (frames : List Frame) (state : State) (at to : ℕ)
          → Entry mode frames state spaced false
          → Stand plains at
          (written sorts.Exclamation spaced terminals.Bang ∷ direct sorts.Important terminals.Important ∷ []) to
          → Result plains mode frames state at
          (written sorts.Exclamation spaced terminals.Bang ∷ direct sorts.Important terminals.Important ∷ []) to
      go plains frames state at to entry (there, (second, e)) =
          let next_is = next_code plains at sorts.Important refl second.sort in
          let told = bang_here entry.value state entry.within plains at there.sort (fresh_here entry).flag
          (ap (λ (x : Sort). same x sorts.Default) next_is) (ap (λ (x : Sort). same x sorts.Global) next_is) in
          let n1 = next state entry.within (value_mode mode entry.value).steady terminals.Bang refl refl in
          let s1 = after state terminals.Bang in
          let told2 = flag_here entry.value s1 n1.within plains (at + 1) (ap is_name second.sort)
          (never s1 plains (at + 1) n1.word) (ap behind_dollar n1.before)
          (ap (λ (t : Terminal). is t terminals.Hash) n1.before) (ap is_bang n1.before)
          ∙ ap behind_bang second.sort in
          let (t, operand) = last (direct sorts.Important terminals.Important) terminals.Important entry.value
          n1.within second e
          refl told2 one_of (record { goes = refl; begins = refl }) refl in
          result t.end
          (join (step plains state at (written sorts.Exclamation spaced terminals.Bang) terminals.Bang entry.within
          there refl told one_of)
          (t.lexemes, t.passed)) t.within operand

  pub variable_told : (name : Sort) → is_name name ≡ true
      → IsTold mode spaced false (dollar spaced ∷ direct name terminals.VariableName ∷ [])
  variable_told name n = record {
    begins = refl;
    told = λ plains frames state at to entry stand closed. go plains frames state at to entry stand;
  }
    where
      named : (plains : List Plain) (frames : List Frame) (state : State) (at to : ℕ) (first : Terminal)
          → Entry mode frames state spaced false
          → Stand plains at (dollar spaced ∷ direct name terminals.VariableName ∷ []) to
          → terminal_of state plains at ≡ first
          → (first ≡ terminals.Dollar) ⊎ ((first ≡ terminals.DollarNamed) ⊎ ⊥) → Plainly first → in_word first ≡ false
          → behind_dollar first ≡ true
          → Result plains mode frames state at (dollar spaced ∷ direct name terminals.VariableName ∷ []) to
      named plains frames state at to first entry (there, (second, e)) told among plainly word behind =
          let n1 = next state entry.within (value_mode mode entry.value).steady first plainly.goes plainly.begins in
          let (t, operand) = last (direct name terminals.VariableName) terminals.VariableName entry.value n1.within
          second e
          (name_code name n)
          (variable_name_here (value_mode mode entry.value).raw (after state first) n1.within plains (at + 1)
          (ap is_name second.sort ∙ n)
          (never (after state first) plains (at + 1) (n1.word ∙ word)) (ap behind_dollar n1.before ∙ behind)
          second.spaced)
          one_of (record { goes = refl; begins = refl }) refl in
          result t.end
          (join (step plains state at (dollar spaced) first entry.within there refl told among)
          (t.lexemes, t.passed))
          t.within operand

      go : (plains : List Plain) (frames : List Frame) (state : State) (at to : ℕ)
          → Entry mode frames state spaced false
          → Stand plains at (dollar spaced ∷ direct name terminals.VariableName ∷ []) to
          → Result plains mode frames state at (dollar spaced ∷ direct name terminals.VariableName ∷ []) to
      go plains frames state at to entry stand = elim
          (dollar_here entry.value state entry.within plains at stand.0.sort (fresh_here entry).owned
          entry.ready.rest) [
            | inl told ↦ named plains frames state at to terminals.Dollar entry stand told (inl refl)
                (record { goes = refl; begins = refl }) refl refl
            | inr told ↦ named plains frames state at to terminals.DollarNamed entry stand told (inr (inl refl))
                (record { goes = refl; begins = refl }) refl refl
          ]

-- a namespace and its `.`
pub record Owned (plains : List Plain) (mode : Mode) (frames : List Frame) (state : State) (at : ℕ)
    (owner : Written) : Type 0 where
  pub end : State
  pub reads : Reads plains state at (owner ∷ direct sorts.Dot terminals.OwnerDot ∷ []) end ((at + 1) + 1)
  pub within : Within mode frames end
  pub before : end.before ≡ terminals.OwnerDot
  pub word : end.word ≡ false

pub owned_by : {mode : Mode} {spaced : Bool} {frames : List Frame} (plains : List Plain) (state : State) (at : ℕ)
    (owner : Sort)
    → is_name owner ≡ true → Entry mode frames state spaced false
    → IsThere plains at (written owner spaced terminals.Owner)
    → IsThere plains (at + 1) (direct sorts.Dot terminals.OwnerDot)
    → Owned plains mode frames state at (written owner spaced terminals.Owner)
owned_by {mode} {spaced} {frames} plains state at owner n entry there dot =
    let f = fresh_here entry in
    let is_dot : is_direct plains (at + 1) sorts.Dot ≡ true =
    both _ _ (ap not dot.spaced) (ap (λ (x : Sort). same x sorts.Dot) dot.sort) in
    let no_insert : is_direct plains (at + 1) sorts.OpenInsert ≡ false =
    and_no _ _ (ap (λ (x : Sort). same x sorts.OpenInsert) dot.sort) in
    let told = owner_here entry.value state entry.within plains at (ap is_name there.sort ∙ n)
    (no_further plains at entry there.spaced)
    f.dollar f.hash f.bang (no_and _ _ f.owned) (and_no _ _ (no_end _ _ is_dot)) no_insert f.owned is_dot in
    let n1 = next state entry.within (value_mode mode entry.value).steady terminals.Owner refl refl in
    let s1 = after state terminals.Owner in
    let told2 = owner_dot_here (value_mode mode entry.value).raw s1 n1.within plains (at + 1) dot.sort
    (ap (λ (t : Terminal). is t terminals.Owner) n1.before) dot.spaced in
    let n2 = next s1 n1.within (value_mode mode entry.value).steady terminals.OwnerDot refl refl in record {
      end = after s1 terminals.OwnerDot;
      reads = join
          (step plains state at (written owner spaced terminals.Owner) terminals.Owner entry.within there
          (name_code owner n) told one_of)
          (step plains s1 (at + 1) (direct sorts.Dot terminals.OwnerDot) terminals.OwnerDot n1.within dot refl told2
          one_of);
      within = n2.within;
      before = n2.before;
      word = n2.word;
    }
  where
    no_end : (a b : Bool) → b ≡ true → not (a || b) ≡ false
    no_end true b e = refl
    no_end false b e = ap not e

abbrev owned_tokens : Bool → Sort → Sort → List Written
owned_tokens spaced owner name =
    written owner spaced terminals.Owner ∷ direct sorts.Dot terminals.OwnerDot
    ∷ direct sorts.Dollar terminals.OwnerDollar ∷ direct name terminals.VariableName ∷ []

pub owned_variable_told : {mode : Mode} {spaced : Bool} (owner name : Sort) → is_name owner ≡ true → is_name name ≡ true
    → IsTold mode spaced false
    (written owner spaced terminals.Owner ∷ direct sorts.Dot terminals.OwnerDot
    ∷ direct sorts.Dollar terminals.OwnerDollar ∷ direct name terminals.VariableName ∷ [])
owned_variable_told {mode} {spaced} owner name o n = record {
  begins = refl;
  told = λ plains frames state at to entry stand closed. go plains frames state at to entry stand;
}
  where
    go : (plains : List Plain) (frames : List Frame) (state : State) (at to : ℕ) → Entry mode frames state spaced false
        → Stand plains at (owned_tokens spaced owner name) to
        → Result plains mode frames state at (owned_tokens spaced owner name) to
    go plains frames state at to entry (there, (dot, (third, (fourth, e)))) =
        let by = owned_by plains state at owner o entry there dot in
        let told = owner_dollar_here (value_mode mode entry.value).raw by.end by.within plains ((at + 1) + 1) third.sort
        (ap (λ (t : Terminal). is t terminals.OwnerDot) by.before) third.spaced in
        let n1 = next by.end by.within (value_mode mode entry.value).steady terminals.OwnerDollar refl refl in
        let s1 = after by.end terminals.OwnerDollar in
        let (t, operand) = last (direct name terminals.VariableName) terminals.VariableName entry.value n1.within
        fourth e
        (name_code name n)
        (variable_name_here (value_mode mode entry.value).raw s1 n1.within plains (((at + 1) + 1) + 1)
        (ap is_name fourth.sort ∙ n)
        (never s1 plains (((at + 1) + 1) + 1) n1.word) (ap behind_dollar n1.before) fourth.spaced)
        one_of (record { goes = refl; begins = refl }) refl in
        result t.end
        (join by.reads
        (join (step plains by.end ((at + 1) + 1) (direct sorts.Dollar terminals.OwnerDollar) terminals.OwnerDollar
        by.within third refl told one_of) (t.lexemes, t.passed))) t.within operand
