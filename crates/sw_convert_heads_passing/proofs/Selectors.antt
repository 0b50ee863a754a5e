-- A statement whose tokens are those of a rule is read as one.
use Rattle.std.proofs.Common.{◌≡◌, ℕ, zero, suc, ◌+◌, ◌-◌, ◌<◌, Bool, true, false, not, ◌&&◌, ◌||◌, if◌then◌else◌, List, [], ◌∷◌, length, Option, Some, None, refl, sym, ◌∙◌, ap, subst, arith}
use Rattle.sw_text_scan.proofs.Bounds.{if_false}
use Rattle.sw_parse_lexemes.specs.declared.sort.Sort.{Sort}
use Rattle.sw_parse_lexemes.specs.declared.sort.Sort.TheVariants as sorts
use Rattle.sw_parse_lexemes.specs.declared.plain.Plain.{Plain}
use Rattle.sw_parse_lexemes.specs.declared.state.Mode.TheVariants as modes
use Rattle.sw_parse_lexemes.specs.declared.state.Walk.{Walk}
use Rattle.sw_parse_lexemes.specs.declared.state.Walk.TheVariants as walks
use Rattle.sw_parse_lexemes.specs.Classes.{is_name, is_reserved, starts_name, same}
use Rattle.sw_parse_lexemes.specs.Ahead as ahead
use Rattle.sw_parse_lexemes.specs.Ahead.{sort_at, spaced_at, in_insert, walk_step, walk_by, walk_from, code_from, opens_block, behind_first}
use Rattle.sw_parse_lexemes.specs.Modes as reading
use Rattle.sw_parse_lexemes.specs.Modes.{is_rule as reads_rule, declared_mode, custom_mode, plain_mode, statement_mode}
use Rattle.sw_convert_passing.specs.Written.{Written, IsThere, Stand}
use Rattle.sw_convert_passing.specs.Kinds.{is_dot, is_dollar}
use Rattle.sw_convert_passing.proofs.Facts.{both, and_left, and_right}
use Rattle.sw_convert_heads_passing.specs.Media.{is_insert}
use Rattle.sw_convert_heads_passing.specs.Rules.{walked, is_direct, behind_word, begins_word, begins_block, begins_pseudo, is_pseudo, goes_on, no_colon, no_variable, begins_selector, begins_other, is_rule_by, is_rule}

-- ---- walks over tokens that stand

abbrev further : Walk → List Plain → ℕ → ℕ → Option ℕ → ℕ
further walk plains n at x =
    elim x as (λ _. ℕ) [ None ↦ at | Some more ↦ walk_by walk plains n more (at + 1) ]

pub goes : (walk : Walk) (plains : List Plain) (at count more : ℕ) → at < length plains
    → walk_step walk (sort_at plains at) (spaced_at plains at) count ≡ Some more
    → walk_from walk plains count at ≡ walk_from walk plains more (at + 1)
unfolding walk_from
goes walk plains at count more l e =
    ap (λ (n : ℕ). walk_by walk plains n count at)
    (let z : length plains - at ≡ suc (length plains - (at + 1)) = omega (arith, l) in z)
    ∙ ap (further walk plains (length plains - (at + 1)) at) e

pub ends : (walk : Walk) (plains : List Plain) (at count : ℕ)
    → walk_step walk (sort_at plains at) (spaced_at plains at) count ≡ None → walk_from walk plains count at ≡ at
unfolding walk_from
ends walk plains at count e = go (length plains - at)
  where
    go : (n : ℕ) → walk_by walk plains n count at ≡ at
    go zero = refl
    go (suc n) = ap (further walk plains n at) e

-- where a walk over tokens that stand ends before one of them, and these stand there
record Ends (walk : Walk) (plains : List Plain) (count at : ℕ) (tokens : List Written) (to : ℕ) : Type 0 where
  place : ℕ
  is : walk_from walk plains count at ≡ place
  stand : Stand plains place tokens to

abbrev left_by : Walk → List Written → List Written → Option ℕ → List Written
left_by walk all tokens x = elim x as (λ _. List Written) [ None ↦ all | Some more ↦ walked walk more tokens ]

walk_ends : (walk : Walk) (plains : List Plain) (count at to : ℕ) (tokens : List Written) → Stand plains at tokens to
    → (first : Written) (rest : List Written) → walked walk count tokens ≡ first ∷ rest
    → Ends walk plains count at (first ∷ rest) to
walk_ends walk plains count at to [] stand first rest e = absurd (cc)
walk_ends walk plains count at to (token ∷ tokens) (there, stand) first rest e =
    go (λ more f. walk_ends walk plains more (at + 1) to tokens stand first rest f)
    (walk_step walk token.sort token.spaced count) refl
  where
    here : (x : Option ℕ) → walk_step walk token.sort token.spaced count ≡ x
        → walk_step walk (sort_at plains at) (spaced_at plains at) count ≡ x
    here x f =
        ap (λ (s : Sort). walk_step walk s (spaced_at plains at) count) there.sort
        ∙ ap (λ (b : Bool). walk_step walk token.sort b count) there.spaced ∙ f

    go : ((more : ℕ) → walked walk more tokens ≡ first ∷ rest → Ends walk plains more (at + 1) (first ∷ rest) to)
        → (x : Option ℕ) → walk_step walk token.sort token.spaced count ≡ x
        → Ends walk plains count at (first ∷ rest) to
    go onward None f = record {
      place = at;
      is = ends walk plains at count (here None f);
      stand = subst (λ (l : List Written). Stand plains at l to)
          (sym (ap (left_by walk (token ∷ tokens) tokens) f) ∙ e) (there, stand);
    }
    go onward (Some more) f =
        let m = onward more (sym (ap (left_by walk (token ∷ tokens) tokens) f) ∙ e) in record {
          place = m.place;
          is = goes walk plains at count more there.within (here (Some more) f) ∙ m.is;
          stand = m.stand;
        }

-- ---- single tokens

module _ (plains : List Plain) (at : ℕ) (token : Written) (there : IsThere plains at token) where
  direct_there : (sort : Sort) → ahead.is_direct plains at sort ≡ (not token.spaced && same token.sort sort)
  direct_there sort =
      ap (λ (b : Bool). not b && same (sort_at plains at) sort) there.spaced
      ∙ ap (λ (s : Sort). not token.spaced && same s sort) there.sort

  same_there : (sort : Sort) → same (sort_at plains at) sort ≡ same token.sort sort
  same_there sort = ap (λ (s : Sort). same s sort) there.sort

  pseudo_there : reading.begins_pseudo plains at
      ≡ (not token.spaced && (starts_name token.sort || (is_insert token.sort || same token.sort sorts.Colon)))
  pseudo_there =
      ap (λ (b : Bool). not b
      && (starts_name (sort_at plains at)
      || (same (sort_at plains at) sorts.OpenInsert || same (sort_at plains at) sorts.Colon))) there.spaced
      ∙ ap (λ (s : Sort). not token.spaced && (starts_name s || (same s sorts.OpenInsert || same s sorts.Colon)))
      there.sort

-- ---- from lists to places

-- a list that begins with some token
pub data Begins (tokens : List Written) : Type 0 where
  begins : (first : Written) (rest : List Written) → tokens ≡ first ∷ rest → Begins tokens

by_test : (test : List Written → Bool) → test [] ≡ false → (tokens : List Written) → test tokens ≡ true → Begins tokens
by_test test none [] t = absurd (cc)
by_test test none (first ∷ rest) t = begins first rest refl

opens_there : (plains : List Plain) (at to : ℕ) (tokens : List Written) → Stand plains at tokens to
    → begins_block (walked walks.Sign 0 tokens) ≡ true → opens_block plains at ≡ true
opens_there plains at to tokens stand b =
    elim (by_test begins_block refl (walked walks.Sign 0 tokens) b) [
      | begins first rest e ↦
          let m = walk_ends walks.Sign plains 0 at to tokens stand first rest e in
          ap (λ (k : ℕ). same (sort_at plains k) sorts.OpenBrace) m.is
          ∙ same_there plains m.place first m.stand.0 sorts.OpenBrace
          ∙ sym (ap begins_block e) ∙ b
    ]

pseudo_stands : (plains : List Plain) (at to : ℕ) (tokens : List Written) → Stand plains at tokens to
    → is_pseudo tokens ≡ true → (reading.begins_pseudo plains at && opens_block plains at) ≡ true
pseudo_stands plains at to [] stand p = absurd (cc)
pseudo_stands plains at to (token ∷ tokens) stand p =
    both (reading.begins_pseudo plains at) _
    (pseudo_there plains at token stand.0 ∙ and_left (begins_pseudo (token ∷ tokens)) _ p)
    (opens_there plains at to (token ∷ tokens) stand (and_right (begins_pseudo (token ∷ tokens)) _ p))

-- a `:` that makes no declaration
declared_raw : (a b : Bool) → (not a || b) ≡ true → (a && not b) ≡ false
declared_raw true true e = refl
declared_raw true false e = absurd (cc)
declared_raw false b e = refl

or_false : (a b : Bool) → a ≡ false → (not a || b) ≡ true
or_false true b e = absurd (cc)
or_false false b e = refl

declared_is_raw : (plains : List Plain) (at to : ℕ) (tokens : List Written) → Stand plains at tokens to
    → goes_on tokens ≡ true → declared_mode plains at ≡ modes.Raw
declared_is_raw plains at to [] stand g = absurd (cc)
declared_is_raw plains at to (token ∷ tokens) (there, stand) g =
    if_false (same (sort_at plains at) sorts.Colon && not (reads_rule plains at)) modes.Expression modes.Raw
    (declared_raw (same (sort_at plains at) sorts.Colon) (reads_rule plains at)
    (ap (λ (b : Bool). not b || reads_rule plains at) (same_there plains at token there sorts.Colon)
    ∙ pseudo_or (same token.sort sorts.Colon) (is_pseudo tokens) (reads_rule plains at) g
    (λ p. pseudo_stands plains (at + 1) to tokens stand p)))
  where
    pseudo_or : (a b c : Bool) → (not a || b) ≡ true → (b ≡ true → c ≡ true) → (not a || c) ≡ true
    pseudo_or true true c e f = f refl
    pseudo_or true false c e f = absurd (cc)
    pseudo_or false b c e f = refl

custom_is_raw : (plains : List Plain) (at to : ℕ) (tokens : List Written) → Stand plains at tokens to
    → no_colon tokens ≡ true → custom_mode plains at ≡ modes.Raw
custom_is_raw plains at to [] stand g = absurd (cc)
custom_is_raw plains at to (token ∷ tokens) (there, stand) g =
    if_false (same (sort_at plains at) sorts.Colon) modes.CustomName modes.Raw
    (same_there plains at token there sorts.Colon ∙ not_true (same token.sort sorts.Colon) g)
  where
    not_true : (b : Bool) → not b ≡ true → b ≡ false
    not_true true e = absurd (cc)
    not_true false e = refl

-- behind the first word, and comments
record Behind (plains : List Plain) (at : ℕ) (tokens : List Written) (to : ℕ) : Type 0 where
  place : ℕ
  is : code_from plains (behind_first plains at) ≡ place
  stand : Stand plains place tokens to

behind_stands : (plains : List Plain) (at to : ℕ) (sort : Sort) (tokens : List Written) → sort_at plains at ≡ sort
    → Stand plains (at + 1) tokens to → (first : Written) (rest : List Written)
    → behind_word sort tokens ≡ first ∷ rest → Behind plains at (first ∷ rest) to
behind_stands plains at to sort tokens e stand first rest b =
    go (walked walks.Word (in_insert sort 0) tokens) refl
  where
    go : (left : List Written) → walked walks.Word (in_insert sort 0) tokens ≡ left
        → Behind plains at (first ∷ rest) to
    go [] f = absurd (none (ap (walked walks.Comments 0) (sym f) ∙ b))
      where
        none : [] ≡ first ∷ rest → ⊥
        none g = absurd (cc)
    go (one ∷ more) f =
        let w = walk_ends walks.Word plains (in_insert sort 0) (at + 1) to tokens stand one more f in
        let c = walk_ends walks.Comments plains 0 w.place to (one ∷ more) w.stand first rest
        (ap (walked walks.Comments 0) (sym f) ∙ b) in record {
          place = c.place;
          is = ap (λ (s : Sort). code_from plains (walk_from walks.Word plains (in_insert s 0) (at + 1))) e
              ∙ ap (code_from plains) w.is ∙ c.is;
          stand = c.stand;
        }

word_there : (plains : List Plain) (at : ℕ) (first next : Written) → IsThere plains at first
    → IsThere plains (at + 1) next → ahead.begins_word plains at ≡ begins_word first next
word_there plains at first next there beside =
    ap (λ (b : Bool).
    if is_name (sort_at plains at) then not (is_reserved (sort_at plains at)) || b
    else (same (sort_at plains at) sorts.OpenInsert || (same (sort_at plains at) sorts.Minus && b)))
    (direct_there plains (at + 1) next beside sorts.OpenInsert)
    ∙ ap (λ (s : Sort).
    if is_name s then not (is_reserved s) || is_direct is_insert next
    else (same s sorts.OpenInsert || (same s sorts.Minus && is_direct is_insert next))) there.sort

two : (at : ℕ) → at + 2 ≡ (at + 1) + 1
two at = omega arith

-- behind a name and a `.`
variable_none : (plains : List Plain) (at to : ℕ) (tokens : List Written) → Stand plains at tokens to
    → no_variable tokens ≡ true → ahead.is_direct plains at sorts.Dollar ≡ false
variable_none plains at to [] stand n = absurd (cc)
variable_none plains at to (token ∷ tokens) (there, stand) n =
    direct_there plains at token there sorts.Dollar ∙ not_true (is_direct is_dollar token) n
  where
    not_true : (b : Bool) → not b ≡ true → b ≡ false
    not_true true e = absurd (cc)
    not_true false e = refl

-- an `if` by its parts
chosen : {A : Type 0} (test : Bool) (a b result : A) → (test ≡ true → a ≡ result) → (test ≡ false → b ≡ result)
    → (if test then a else b) ≡ result
chosen true a b result f g = f refl
chosen false a b result f g = g refl

when_true : (test a b : Bool) → test ≡ true → (if test then a else b) ≡ true → a ≡ true
when_true true a b t e = e
when_true false a b t e = absurd (cc)

when_false : (test a b : Bool) → test ≡ false → (if test then a else b) ≡ true → b ≡ true
when_false true a b t e = absurd (cc)
when_false false a b t e = e

plain_is_raw : (plains : List Plain) (at to : ℕ) (first next : Written) (rest : List Written)
    → Stand plains at (first ∷ next ∷ rest) to → begins_selector first next rest ≡ true
    → plain_mode plains at ≡ modes.Raw
plain_is_raw plains at to first next rest (there, (beside, stand)) s =
    chosen (is_name (sort_at plains at) && ahead.is_direct plains (at + 1) sorts.Dot) _ _ modes.Raw
    (λ d. if_false (ahead.is_direct plains (at + 2) sorts.Dollar) modes.Ends modes.Raw
    (ap (λ (k : ℕ). ahead.is_direct plains k sorts.Dollar) (two at)
    ∙ variable_none plains ((at + 1) + 1) to rest stand (when_true _ _ _ (sym dotted ∙ d) s)))
    (λ d. chosen (ahead.begins_word plains at) _ _ modes.Raw
    (λ w. words (when_true _ _ _ (sym worded ∙ w) (when_false _ _ _ (sym dotted ∙ d) s)))
    (λ w. refl))
  where
    dotted : (is_name (sort_at plains at) && ahead.is_direct plains (at + 1) sorts.Dot)
        ≡ (is_name first.sort && is_direct is_dot next)
    dotted =
        ap (λ (b : Bool). is_name (sort_at plains at) && b) (direct_there plains (at + 1) next beside sorts.Dot)
        ∙ ap (λ (x : Sort). is_name x && is_direct is_dot next) there.sort

    worded : ahead.begins_word plains at ≡ begins_word first next
    worded = word_there plains at first next there beside

    words : goes_on (behind_word first.sort (next ∷ rest)) ≡ true
        → declared_mode plains (code_from plains (behind_first plains at)) ≡ modes.Raw
    words g = elim (by_test goes_on refl (behind_word first.sort (next ∷ rest)) g) [
      | begins one more e ↦
          let m = behind_stands plains at to first.sort (next ∷ rest) there.sort (beside, stand) one more e in
          ap (declared_mode plains) m.is
          ∙ declared_is_raw plains m.place to (one ∷ more) m.stand (sym (ap goes_on e) ∙ g)
    ]

custom_word : (plains : List Plain) (at to : ℕ) (first next : Written) (rest : List Written)
    → Stand plains at (first ∷ next ∷ rest) to → no_colon (behind_word first.sort (next ∷ rest)) ≡ true
    → custom_mode plains (code_from plains (behind_first plains at)) ≡ modes.Raw
custom_word plains at to first next rest (there, stand) g =
    elim (by_test no_colon refl (behind_word first.sort (next ∷ rest)) g) [
      | begins one more e ↦
          let m = behind_stands plains at to first.sort (next ∷ rest) there.sort stand one more e in
          ap (custom_mode plains) m.is
          ∙ custom_is_raw plains m.place to (one ∷ more) m.stand (sym (ap no_colon e) ∙ g)
    ]

-- ---- by the first token

module _ (plains : List Plain) (at : ℕ) (first next : Written) (rest : List Written) where
  by_first : (sort : Sort) → sort_at plains at ≡ sort → is_rule_by sort first next rest ≡ true
      → (begins_selector first next rest ≡ true → plain_mode plains at ≡ modes.Raw)
      → (no_colon (behind_word first.sort (next ∷ rest)) ≡ true
      → custom_mode plains (code_from plains (behind_first plains at)) ≡ modes.Raw)
      → statement_mode plains at ≡ modes.Raw
  unfolding statement_mode
  by_first sorts.DashedName e r p c = rw (e, statement_mode) (c r)
  by_first sorts.Dollar e r p c = absurd (cc)
  by_first sorts.Comment e r p c = absurd (cc)
  by_first sorts.CommentTemplate e r p c = absurd (cc)
  by_first sorts.CommentEnd e r p c = absurd (cc)
  by_first sorts.At e r p c = absurd (cc)
  by_first sorts.AtUse e r p c = absurd (cc)
  by_first sorts.AtForward e r p c = absurd (cc)
  by_first sorts.AtFunction e r p c = absurd (cc)
  by_first sorts.AtMixin e r p c = absurd (cc)
  by_first sorts.AtInclude e r p c = absurd (cc)
  by_first sorts.AtContent e r p c = absurd (cc)
  by_first sorts.AtReturn e r p c = absurd (cc)
  by_first sorts.AtWarn e r p c = absurd (cc)
  by_first sorts.AtDebug e r p c = absurd (cc)
  by_first sorts.AtError e r p c = absurd (cc)
  by_first sorts.AtIf e r p c = absurd (cc)
  by_first sorts.AtElse e r p c = absurd (cc)
  by_first sorts.AtElseIf e r p c = absurd (cc)
  by_first sorts.AtEach e r p c = absurd (cc)
  by_first sorts.AtFor e r p c = absurd (cc)
  by_first sorts.AtWhile e r p c = absurd (cc)
  by_first sorts.AtMedia e r p c = absurd (cc)
  by_first sorts.AtSupports e r p c = absurd (cc)
  by_first sorts.AtRoot e r p c = absurd (cc)
  by_first sorts.AtCharset e r p c = absurd (cc)
  by_first sorts.AtImport e r p c = absurd (cc)
  by_first sorts.AtExtend e r p c = absurd (cc)
  by_first sorts.AtName e r p c = absurd (cc)
  by_first _ e r p c = rw (e, statement_mode) (p r)

-- the tokens of a rule are read as raw text
pub rule_mode : (plains : List Plain) (at to : ℕ) (tokens : List Written) → Stand plains at tokens to
    → is_rule tokens ≡ true → statement_mode plains at ≡ modes.Raw
rule_mode plains at to [] stand r = absurd (cc)
rule_mode plains at to (first ∷ []) stand r = absurd (cc)
rule_mode plains at to (first ∷ next ∷ rest) stand r =
    by_first plains at first next rest first.sort stand.0.sort r (plain_is_raw plains at to first next rest stand)
    (custom_word plains at to first next rest stand)

-- the first of them is that of no other statement
pub first_is : (sort : Sort) (first next : Written) (rest : List Written) → is_rule_by sort first next rest ≡ true
    → begins_other sort ≡ false
first_is sorts.Dollar first next rest r = absurd (cc)
first_is sorts.Comment first next rest r = absurd (cc)
first_is sorts.CommentTemplate first next rest r = absurd (cc)
first_is sorts.CommentEnd first next rest r = absurd (cc)
first_is sorts.At first next rest r = absurd (cc)
first_is sorts.AtUse first next rest r = absurd (cc)
first_is sorts.AtForward first next rest r = absurd (cc)
first_is sorts.AtFunction first next rest r = absurd (cc)
first_is sorts.AtMixin first next rest r = absurd (cc)
first_is sorts.AtInclude first next rest r = absurd (cc)
first_is sorts.AtContent first next rest r = absurd (cc)
first_is sorts.AtReturn first next rest r = absurd (cc)
first_is sorts.AtWarn first next rest r = absurd (cc)
first_is sorts.AtDebug first next rest r = absurd (cc)
first_is sorts.AtError first next rest r = absurd (cc)
first_is sorts.AtIf first next rest r = absurd (cc)
first_is sorts.AtElse first next rest r = absurd (cc)
first_is sorts.AtElseIf first next rest r = absurd (cc)
first_is sorts.AtEach first next rest r = absurd (cc)
first_is sorts.AtFor first next rest r = absurd (cc)
first_is sorts.AtWhile first next rest r = absurd (cc)
first_is sorts.AtMedia first next rest r = absurd (cc)
first_is sorts.AtSupports first next rest r = absurd (cc)
first_is sorts.AtRoot first next rest r = absurd (cc)
first_is sorts.AtCharset first next rest r = absurd (cc)
first_is sorts.AtImport first next rest r = absurd (cc)
first_is sorts.AtExtend first next rest r = absurd (cc)
first_is sorts.AtName first next rest r = absurd (cc)
first_is _ first next rest r = refl
