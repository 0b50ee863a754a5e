-- Where names, attributes and selectors begin, and that they go forward.
use Rattle.std.proofs.Common.{◌≡◌, ℕ, ◌+◌, ◌≤◌, ◌<◌, Bool, true, false, not, ◌&&◌, ◌||◌, List, length, refl, sym, ◌∙◌, ap, arith, Option, Some, None}
use Rattle.std.specs.Prelude.{◌==◌, nat_lt, if◌then◌else◌}
use Rattle.std.proofs.lemmas.Bool.Decides.{nat_tests}
use Rattle.sw_text_scan.specs.declared.runs.Class.TheVariants as classes
use Rattle.sw_text_scan.specs.declared.signs.TheConstants.{END}
use Rattle.sw_text_scan.specs.Bytes.{sign, byte, is_white, is_letter, is_quote, starts_plainly}
use Rattle.sw_text_scan.specs.Runs.{escape_end, begins_name, starts_at, run_end}
use Rattle.sw_text_scan.specs.Brackets.{string_end}
use Rattle.sw_text_scan.proofs.Bounds.{in_text, run_forward, run_stop, if_false}
use Rattle.sw_text_scan.proofs.Progress.{either, name_taken, run_on, run_stops}
use Rattle.sw_selector.specs.declared.selector.Combinator.{Combinator}
use Rattle.sw_selector.specs.Attributes.{word_end, prefix_end, is_operator_sign, operator_end, value_end, bracket_end, modifier_end, valued_end, operated_end, matched_end, named_end, attribute_end}
use Rattle.sw_text_locality.specs.Names.{white, name_end}
use Rattle.sw_text_locality.proofs.Lexical.{equal, split, in_or, white_forward, white_none, white_twice, name_forward, name_further}
use Rattle.sw_selector.specs.Simples.{colons_end}
use Rattle.sw_selector.specs.Reading.{combinator_of, ends_complex}

-- with which bytes a simple selector begins that may stand behind another
abbrev pub begins_simple : ℕ → Bool
begins_simple b = (b == sign ".") || ((b == sign "#") || ((b == sign "%") || ((b == sign "[") || (b == sign ":"))))

abbrev pub begins_word : ℕ → Bool
begins_word b = starts_plainly b || ((b == sign "\\") || (b == sign "-"))

-- and a type
abbrev pub begins_type : ℕ → Bool
begins_type b = (b == sign "*") || ((b == sign "|") || begins_word b)

abbrev pub begins_part : ℕ → Bool
begins_part b = begins_simple b || ((b == sign "&") || begins_type b)

-- what stands for itself between compounds, or ends them
abbrev between : ℕ → Bool
between b = is_white b || (ends_complex b || ((b == sign ">") || ((b == sign "+") || (b == sign "~"))))

part_not_between : (b : ℕ) → begins_part b ≡ true → between b ≡ false
part_not_between b e = grind (arith, nat_tests)

pub or_left : (a b : Bool) → (a || b) ≡ false → a ≡ false
or_left true b e = e
or_left false b e = refl

pub or_right : (a b : Bool) → (a || b) ≡ false → b ≡ false
or_right true b e = absurd (cc)
or_right false b e = e

module _ (b : ℕ) (e : begins_part b ≡ true) where
  pub not_white : is_white b ≡ false
  not_white = or_left (is_white b) _ (part_not_between b e)

  not_rest : (ends_complex b || ((b == sign ">") || ((b == sign "+") || (b == sign "~")))) ≡ false
  not_rest = or_right (is_white b) _ (part_not_between b e)

  pub not_end : ends_complex b ≡ false
  not_end = or_left (ends_complex b) _ not_rest

  pub not_sign : combinator_of b ≡ None
  not_sign =
      let signs = or_right (ends_complex b) _ not_rest in
      let more = or_right (b == sign ">") _ signs in
      if_false (b == sign ">") _ _ (or_left (b == sign ">") _ signs)
      ∙ if_false (b == sign "+") _ _ (or_left (b == sign "+") _ more)
      ∙ if_false (b == sign "~") _ _ (or_right (b == sign "+") _ more)

pub sign_not_end : (b : ℕ) (c : Combinator) → combinator_of b ≡ Some c → ends_complex b ≡ false
sign_not_end b c e = go (ends_complex b) refl
  where
    go : (t : Bool) → ends_complex b ≡ t → t ≡ false
    go false f = refl
    go true f =
        let first : (b == sign ">") ≡ false = grind (arith, nat_tests) in
        let second : (b == sign "+") ≡ false = grind (arith, nat_tests) in
        let third : (b == sign "~") ≡ false = grind (arith, nat_tests) in
        let no = if_false (b == sign ">") _ _ first ∙ if_false (b == sign "+") _ _ second ∙ if_false (b == sign "~") _ _ third in
        let wrong : None ≡ Some c = sym no ∙ e in absurd (cc)

module _ (bs : List ℕ) where
  pub stands : (i : ℕ) (f : ℕ → Bool) → f END ≡ false → f (byte bs i) ≡ true → i < length bs
  stands i f e m = in_text f bs i e m

  -- names
  pub name_first : (i : ℕ) → begins_name bs i ≡ true → begins_word (byte bs i) ≡ true
  unfolding begins_name escape_end
  name_first i m =
      go (starts_plainly (byte bs i)) (byte bs i == sign "\\") (byte bs i == sign "-") (starts_at bs (i + 1) || (byte bs (i + 1) == sign "-")) _ m
    where
      go : (plain back dash more : Bool) (end : ℕ) → ((plain || nat_lt i (if not back then i else end)) || (dash && more)) ≡ true → (plain || (back || dash)) ≡ true
      go true back dash more end e = refl
      go false true dash more end e = refl
      go false false true more end e = refl
      go false false false more end e = grind (arith, nat_tests)

  pub word_forward : (i : ℕ) → i ≤ word_end bs i
  word_forward i =
      either (λ j. i ≤ j) (byte bs i == sign "*") (i + 1) _ (λ _. omega arith)
      (λ _. either (λ j. i ≤ j) (begins_name bs i) (name_end bs i) i (λ _. name_forward bs i) (λ _. omega arith))

  pub prefix_forward : (i : ℕ) → i ≤ prefix_end bs i
  unfolding prefix_end
  prefix_forward i =
      let word = word_forward i in
      either (λ j. i ≤ j) ((byte bs (word_end bs i) == sign "|") && not (byte bs (word_end bs i + 1) == sign "=")) (word_end bs i + 1) i
      (λ _. omega arith) (λ _. omega arith)

  pub name_none : (i : ℕ) → begins_word (byte bs i) ≡ false → begins_name bs i ≡ false
  name_none i e = go (begins_name bs i) refl
    where
      go : (t : Bool) → begins_name bs i ≡ t → t ≡ false
      go false f = refl
      go true f = let word = name_first i f in absurd (cc)

  -- where no type begins, no prefix stands
  prefix_none : (i : ℕ) → begins_type (byte bs i) ≡ false → prefix_end bs i ≡ i
  unfolding prefix_end
  prefix_none i e =
      let star = or_left (byte bs i == sign "*") _ e in
      let rest = or_right (byte bs i == sign "*") _ e in
      let bar = or_left (byte bs i == sign "|") _ rest in
      let name = name_none i (or_right (byte bs i == sign "|") _ rest) in
      let word : word_end bs i ≡ i = if_false (byte bs i == sign "*") (i + 1) _ star ∙ if_false (begins_name bs i) (name_end bs i) i name in
      if_false ((byte bs (word_end bs i) == sign "|") && not (byte bs (word_end bs i + 1) == sign "=")) (word_end bs i + 1) i
      (no_left (byte bs (word_end bs i) == sign "|") _ (ap (λ (k : ℕ). byte bs k == sign "|") word ∙ bar))
    where
      no_left : (a b : Bool) → a ≡ false → (a && b) ≡ false
      no_left true b f = absurd (cc)
      no_left false b f = refl

  type_by : (i : ℕ) → (begins_type (byte bs i) ≡ false → ⊥) → begins_type (byte bs i) ≡ true
  type_by i h = go (begins_type (byte bs i)) h
    where
      go : (t : Bool) → (t ≡ false → ⊥) → t ≡ true
      go true f = refl
      go false f = absurd (f refl)

  -- with which byte a type begins
  pub type_first : (i : ℕ) → begins_name bs (prefix_end bs i) ≡ true → begins_type (byte bs i) ≡ true
  type_first i m = type_by i (λ e.
      let here = ap (begins_name bs) (sym (prefix_none i e)) ∙ m in
      let no = name_none i (or_right (byte bs i == sign "|") _ (or_right (byte bs i == sign "*") _ e)) in cc)

  pub any_first : (i : ℕ) → byte bs (prefix_end bs i) ≡ sign "*" → begins_type (byte bs i) ≡ true
  any_first i m = type_by i (λ e.
      let here : byte bs i ≡ sign "*" = ap (byte bs) (sym (prefix_none i e)) ∙ m in
      let star : (byte bs i == sign "*") ≡ true = ap (λ (b : ℕ). b == sign "*") here in
      let no = or_left (byte bs i == sign "*") _ e in cc)

  pub colons_forward : (i : ℕ) → i < colons_end bs i
  colons_forward i = either (λ j. i < j) (byte bs (i + 1) == sign ":") (i + 2) (i + 1) (λ _. omega arith) (λ _. omega arith)

  -- attributes
  abbrev pub Ahead : ℕ → Option ℕ → Type 0
  Ahead i o = (j : ℕ) → o ≡ Some j → i ≤ j

  some_ahead : {i k : ℕ} → i ≤ k → Ahead i (Some k)
  some_ahead l j e = let same = some_is e in omega arith
    where
      some_is : {k j : ℕ} → Some k ≡ Some j → k ≡ j
      some_is e = cc

  none_ahead : {i : ℕ} → Ahead i None
  none_ahead j e = absurd (cc)

  further_ahead : {i k : ℕ} {o : Option ℕ} → i ≤ k → Ahead k o → Ahead i o
  further_ahead l a j e = let m = a j e in omega arith

  pub bracket_ahead : (i : ℕ) → Ahead i (bracket_end bs i)
  bracket_ahead i = either (Ahead i) (byte bs i == sign "]") (Some (i + 1)) None (λ _. some_ahead (omega arith)) (λ _. none_ahead)

  pub modifier_ahead : (i : ℕ) → Ahead i (modifier_end bs i)
  unfolding modifier_end
  modifier_ahead i =
      either (Ahead i) (is_letter (byte bs i)) (bracket_end bs (white bs (i + 1))) (bracket_end bs i)
      (λ _. let on = white_forward bs (i + 1) in further_ahead (omega arith) (bracket_ahead (white bs (i + 1)))) (λ _. bracket_ahead i)

  pub string_ahead : (q i : ℕ) → Ahead i (string_end bs q i)
  unfolding string_end
  string_ahead q i =
      let on = run_forward bs (classes.Text q) (i + 1) in
      either (Ahead i) (byte bs (run_end (classes.Text q) bs (i + 1)) == q) (Some (run_end (classes.Text q) bs (i + 1) + 1)) None
      (λ _. some_ahead (omega arith)) (λ _. none_ahead)

  pub value_ahead : (i : ℕ) → Ahead i (value_end bs i)
  unfolding value_end
  value_ahead i =
      either (Ahead i) (is_quote (byte bs i)) (string_end bs (byte bs i) i) _ (λ _. string_ahead (byte bs i) i)
      (λ _. either (Ahead i) (begins_name bs i) (Some (name_end bs i)) None (λ _. some_ahead (name_forward bs i)) (λ _. none_ahead))

  pub valued_ahead : (i : ℕ) (o : Option ℕ) → Ahead i o → Ahead i (valued_end bs o)
  valued_ahead i None a = none_ahead
  valued_ahead i (Some k) a = let on = a k refl in let w = white_forward bs k in further_ahead (omega arith) (modifier_ahead (white bs k))

  pub operated_ahead : (i : ℕ) (o : Option ℕ) → Ahead i o → Ahead i (operated_end bs o)
  operated_ahead i None a = none_ahead
  operated_ahead i (Some k) a =
      let on = a k refl in let w = white_forward bs k in
      further_ahead (omega arith) (valued_ahead (white bs k) (value_end bs (white bs k)) (value_ahead (white bs k)))

  pub operator_ahead : (i : ℕ) → Ahead i (operator_end bs i)
  unfolding operator_end
  operator_ahead i =
      either (Ahead i) (byte bs i == sign "=") (Some (i + 1)) _ (λ _. some_ahead (omega arith))
      (λ _. either (Ahead i) (is_operator_sign (byte bs i) && (byte bs (i + 1) == sign "=")) (Some (i + 2)) None
      (λ _. some_ahead (omega arith)) (λ _. none_ahead))

  pub matched_ahead : (i : ℕ) → Ahead i (matched_end bs i)
  unfolding matched_end
  matched_ahead i =
      either (Ahead i) (byte bs i == sign "]") (Some (i + 1)) _ (λ _. some_ahead (omega arith))
      (λ _. operated_ahead i (operator_end bs i) (operator_ahead i))

  pub named_ahead : (i : ℕ) → Ahead i (named_end bs i)
  named_ahead i =
      either (Ahead i) (begins_name bs i) (matched_end bs (white bs (name_end bs i))) None
      (λ _. let a = name_forward bs i in let b = white_forward bs (name_end bs i) in
      further_ahead (omega arith) (matched_ahead (white bs (name_end bs i)))) (λ _. none_ahead)

  pub attribute_further : (i j : ℕ) → attribute_end bs i ≡ Some j → i < j
  unfolding attribute_end
  attribute_further i j e =
      let a = white_forward bs (i + 1) in let b = prefix_forward (white bs (i + 1)) in
      let on = named_ahead (prefix_end bs (white bs (i + 1))) j e in omega arith
