-- The names of declarations are told.
use Rattle.std.proofs.Common.{◌≡◌, ◌⊎◌, ℕ, ◌+◌, Bool, true, false, not, ◌&&◌, ◌||◌, if◌then◌else◌, List, [], ◌∷◌, ◌++◌, inl, inr, refl, sym, ◌∙◌, ap, subst, append_assoc}
use Rattle.sw_text_scan.proofs.Bounds.{if_true, if_false}
use Rattle.sw_parse_terminals.specs.declared.terminal.Terminal.{Terminal}
use Rattle.sw_parse_terminals.specs.declared.terminal.Terminal.TheVariants as terminals
use Rattle.sw_parse_lexemes.specs.declared.sort.Sort.{Sort}
use Rattle.sw_parse_lexemes.specs.declared.sort.Sort.TheVariants as sorts
use Rattle.sw_parse_lexemes.specs.declared.plain.Plain.{Plain}
use Rattle.sw_parse_lexemes.specs.declared.state.Mode.{Mode}
use Rattle.sw_parse_lexemes.specs.declared.state.Mode.TheVariants as modes
use Rattle.sw_parse_lexemes.specs.declared.state.Walk.TheVariants as walks
use Rattle.sw_parse_lexemes.specs.declared.state.Bracket.TheVariants as brackets
use Rattle.sw_parse_lexemes.specs.declared.state.Frame.{Frame}
use Rattle.sw_parse_lexemes.specs.declared.state.State.{State}
use Rattle.sw_parse_lexemes.specs.Classes.{same, is_name, is_reserved}
use Rattle.sw_parse_lexemes.specs.Ahead.{sort_at, spaced_at, is_direct, walk_from, code_from, in_insert, over_word, behind_first, begins_word}
use Rattle.sw_parse_lexemes.specs.Modes.{begins_pseudo, declared_mode, plain_mode, statement_mode}
use Rattle.sw_parse_lexemes.specs.Names.{is, is_bang, is_apart, is_special_name, continues, behind_dollar, behind_bang, constant_or_word}
use Rattle.sw_parse_lexemes.specs.Signs.{is_text, insert_in}
use Rattle.sw_parse_lexemes.specs.Terminals.{terminal_of}
use Rattle.sw_parse_lexemes.specs.Steps.{after}
use Rattle.sw_parse_lexemes.proofs.NameLaws.{name_there}
use Rattle.sw_convert_passing.specs.Written.{Written, written, direct, Stand}
use Rattle.sw_convert_passing.specs.Values.{Items, Parts, no_part, part, part_insert, inserted, begins_insert}
use Rattle.sw_convert_passing.specs.Kinds.{is_part}
use Rattle.sw_convert_passing.specs.Heads.{Starts}
use Rattle.sw_convert_passing.specs.Heads as values
use Rattle.sw_convert_passing.proofs.Facts.{no_and, and_no, both, word_of, name_code}
use Rattle.sw_convert_passing.proofs.Steps.{Reads, join, step, start_step, stay_at, next, framed, closes_insert}
use Rattle.sw_convert_passing.proofs.Walks.{is_code, code_stays}
use Rattle.sw_convert_passing.proofs.BySort.{by_insert, by_minus, by_insert_end, lone_here}
use Rattle.sw_convert_passing.proofs.Entries.{split, reads, one_of, led, closed_stops}
use Rattle.sw_convert_passing.proofs.Leaves.{never}
use Rattle.sw_convert_passing.proofs.Heads.{begun, placed_as, placed_is, first_told, head_told}
use Rattle.sw_convert_passing.proofs.Told.{inner_told}
use Rattle.sw_convert_heads_passing.specs.RawTexts.{precedes_text}
use Rattle.sw_convert_heads_passing.specs.Properties.{colon, is_dashed, PropertyHead, named_property, begun_property, minus_property, PropertyHeadsAreTold}
use Rattle.sw_convert_heads_passing.proofs.Parts.{PartsTold, parts_told, insert_and, opens_from}
use Rattle.sw_convert_heads_passing.proofs.Balanced.{goes, parts_over, insert_over, ends_before}

-- a statement that begins with a name is read by what stands behind its word
pub moded : (plains : List Plain) (at : ℕ) (sort : Sort) (mode : Mode) → sort_at plains at ≡ sort → is_name sort ≡ true
    → is_dashed sort ≡ false → plain_mode plains at ≡ mode → statement_mode plains at ≡ mode
unfolding statement_mode
moded plains at sorts.Name mode e n d t = rw (e, statement_mode) t
moded plains at sorts.True mode e n d t = rw (e, statement_mode) t
moded plains at sorts.False mode e n d t = rw (e, statement_mode) t
moded plains at sorts.Null mode e n d t = rw (e, statement_mode) t
moded plains at sorts.And mode e n d t = rw (e, statement_mode) t
moded plains at sorts.Or mode e n d t = rw (e, statement_mode) t
moded plains at sorts.Not mode e n d t = rw (e, statement_mode) t
moded plains at sorts.As mode e n d t = rw (e, statement_mode) t
moded plains at sorts.With mode e n d t = rw (e, statement_mode) t
moded plains at sorts.Show mode e n d t = rw (e, statement_mode) t
moded plains at sorts.Hide mode e n d t = rw (e, statement_mode) t
moded plains at sorts.Using mode e n d t = rw (e, statement_mode) t
moded plains at sorts.If mode e n d t = rw (e, statement_mode) t
moded plains at sorts.In mode e n d t = rw (e, statement_mode) t
moded plains at sorts.From mode e n d t = rw (e, statement_mode) t
moded plains at sorts.Through mode e n d t = rw (e, statement_mode) t
moded plains at sorts.To mode e n d t = rw (e, statement_mode) t
moded plains at sorts.Only mode e n d t = rw (e, statement_mode) t
moded plains at sorts.Important mode e n d t = rw (e, statement_mode) t
moded plains at sorts.Default mode e n d t = rw (e, statement_mode) t
moded plains at sorts.Global mode e n d t = rw (e, statement_mode) t
moded plains at sorts.Special mode e n d t = rw (e, statement_mode) t
moded plains at sorts.Stays mode e n d t = rw (e, statement_mode) t
moded plains at _ mode e n d t = absurd (cc)

insert_moded : (plains : List Plain) (at : ℕ) (mode : Mode) → sort_at plains at ≡ sorts.OpenInsert
    → plain_mode plains at ≡ mode → statement_mode plains at ≡ mode
unfolding statement_mode
insert_moded plains at mode e t = rw (e, statement_mode) t

minus_moded : (plains : List Plain) (at : ℕ) (mode : Mode) → sort_at plains at ≡ sorts.Minus
    → plain_mode plains at ≡ mode → statement_mode plains at ≡ mode
unfolding statement_mode
minus_moded plains at mode e t = rw (e, statement_mode) t

-- the sort of the token behind the first one of a word
data Follows (plains : List Plain) (at : ℕ) : Bool → Type 0 where
  follows : {insert : Bool} → is_direct plains at sorts.OpenInsert ≡ insert → is_direct plains at sorts.Dot ≡ false
      → is_direct plains at sorts.OpenParen ≡ false → Follows plains at insert

part_follows : (sort : Sort) → is_part sort ≡ true
    → (same sort sorts.OpenInsert ≡ false) × (same sort sorts.Dot ≡ false) × (same sort sorts.OpenParen ≡ false)
part_follows sorts.OpenInsert p = absurd (cc)
part_follows sorts.Dot p = absurd (cc)
part_follows sorts.OpenParen p = absurd (cc)
part_follows _ p = (refl, refl, refl)

by_sort : (plains : List Plain) (at : ℕ) (sort : Sort) → sort_at plains at ≡ sort
    → same sort sorts.OpenInsert ≡ false → same sort sorts.Dot ≡ false → same sort sorts.OpenParen ≡ false
    → Follows plains at false
by_sort plains at sort e i d p =
    follows (and_no _ _ (ap (λ (s : Sort). same s sorts.OpenInsert) e ∙ i))
    (and_no _ _ (ap (λ (s : Sort). same s sorts.Dot) e ∙ d))
    (and_no _ _ (ap (λ (s : Sort). same s sorts.OpenParen) e ∙ p))

follow : {parts : List Written} → Parts parts → (plains : List Plain) (at to : ℕ)
    → Stand plains at (parts ++ colon ∷ []) to → Follows plains at (begins_insert parts)
follow no_part plains at to (there, e) = by_sort plains at sorts.Colon there.sort refl refl refl
follow (part sort p more) plains at to (there, stand) =
    let (i, d, o) = part_follows sort p in
    subst (Follows plains at) (sym i) (by_sort plains at sort there.sort i d o)
follow (part_insert inside more) plains at to (there, stand) =
    follows (both _ _ (ap not there.spaced) (ap (λ (s : Sort). same s sorts.OpenInsert) there.sort))
    (and_no _ _ (ap (λ (s : Sort). same s sorts.Dot) there.sort))
    (and_no _ _ (ap (λ (s : Sort). same s sorts.OpenParen) there.sort))

not_true : (b : Bool) → not b ≡ true → b ≡ false
not_true true e = absurd (cc)
not_true false e = refl

either : (a b : Bool) → (a || b) ≡ true → (a ≡ true) ⊎ (b ≡ true)
either true b e = inl refl
either false b e = inr e

or_left : (a b : Bool) → a ≡ true → (a || b) ≡ true
or_left true b e = refl
or_left false b e = absurd (cc)

or_right : (a b : Bool) → b ≡ true → (a || b) ≡ true
or_right true b e = refl
or_right false b e = e

-- the `:` behind a word makes it a declaration, where no pseudo follows
declares : (plains : List Plain) (place : ℕ) → sort_at plains place ≡ sorts.Colon
    → begins_pseudo plains (place + 1) ≡ false
    → declared_mode plains place ≡ modes.Expression
declares plains place e apart =
    if_true (same (sort_at plains place) sorts.Colon && _) modes.Expression modes.Raw
    (both _ _ (ap (λ (s : Sort). same s sorts.Colon) e) (ap not (no_and _ _ apart)))

-- the place of the `:`
pub colon_place : (plains : List Plain) (at place : ℕ)
    → walk_from walks.Word plains (in_insert (sort_at plains at) 0) (at + 1) ≡ walk_from walks.Word plains 0 place
    → sort_at plains place ≡ sorts.Colon → code_from plains (behind_first plains at) ≡ place
colon_place plains at place w e =
    ap (code_from plains) (w ∙ ends_before plains place e) ∙ code_stays plains place (ap is_code e)

-- the parts of a word and the `:` behind them
colon_behind : {frames : List Frame} {parts : List Written} {at place to : ℕ} (plains : List Plain) (state : State)
    → PartsTold precedes_text plains modes.Expression frames state at parts place → Stand plains place (colon ∷ []) to
    → values.HeadTold plains modes.Expression frames state at (parts ++ colon ∷ []) to
colon_behind {frames} {parts} {at} {place} {to} plains state t (there, e) =
    let is_colon = lone_here t.told.end plains place (ap is_text t.told.within.mode_is) sorts.Colon refl there.sort in
    let n = next t.told.end t.told.within refl terminals.Colon refl refl in
    head_told (after t.told.end terminals.Colon) terminals.Colon
    (join (reads t.told)
    (join (step plains t.told.end place colon terminals.Colon t.told.within there refl is_colon one_of) (stay_at e)))
    n.within n.before n.word refl refl refl

-- behind the first token
behind : {plains : List Plain} {frames : List Frame} {state middle : State} {at place to : ℕ}
    {first rest : List Written} → Reads plains state at first middle place
    → values.HeadTold plains modes.Expression frames middle place rest to
    → values.HeadTold plains modes.Expression frames state at (first ++ rest) to
behind {plains} {frames} {state} {middle} {at} {place} {to} {first} {rest} r t =
    let (lexemes, passed) = join r (reads t.told) in record {
      told = record { lexemes = lexemes; end = t.told.end; passed = passed; within = t.told.within };
      before = t.before;
      operand = t.operand;
      comma = t.comma;
      word = t.word;
    }

-- ---- a name first

module _ (plains : List Plain) (at place : ℕ) (sort : Sort) (named : is_name sort ≡ true)
    (plain : is_dashed sort ≡ false) (insert : Bool)
    (free : (insert || not (is_reserved sort)) ≡ true) (e : sort_at plains at ≡ sort)
    (next_is : Follows plains (at + 1) insert)
    (over : walk_from walks.Word plains 0 (at + 1) ≡ walk_from walks.Word plains 0 place)
    (ends : sort_at plains place ≡ sorts.Colon) (apart : begins_pseudo plains (place + 1) ≡ false) where
  is_named : is_name (sort_at plains at) ≡ true
  is_named = ap is_name e ∙ named

  no_count : (s : Sort) → is_name s ≡ true → in_insert s 0 ≡ 0
  no_count sorts.OpenInsert n = absurd (cc)
  no_count sorts.CloseInsert n = absurd (cc)
  no_count _ n = refl

  begins : begins_word plains at ≡ true
  begins = if_true (is_name (sort_at plains at)) _ _ is_named ∙ go next_is (either insert _ free)
    where
      go : Follows plains (at + 1) insert → (insert ≡ true) ⊎ (not (is_reserved sort) ≡ true)
          → (not (is_reserved (sort_at plains at)) || is_direct plains (at + 1) sorts.OpenInsert) ≡ true
      go (follows i d p) (inl f) = or_right _ _ (i ∙ f)
      go f (inr n) = or_left _ _ (ap (λ (s : Sort). not (is_reserved s)) e ∙ n)

  name_mode : statement_mode plains at ≡ modes.Expression
  name_mode =
      moded plains at sort modes.Expression e named plain
      (if_false (is_name (sort_at plains at) && is_direct plains (at + 1) sorts.Dot) _ _ (and_no _ _ (no_dot next_is))
      ∙ if_true (begins_word plains at) _ modes.Raw begins
      ∙ ap (declared_mode plains)
      (colon_place plains at place
      (ap (λ (n : ℕ). walk_from walks.Word plains n (at + 1)) (no_count (sort_at plains at) is_named) ∙ over) ends)
      ∙ declares plains place ends apart)
    where
      no_dot : Follows plains (at + 1) insert → is_direct plains (at + 1) sorts.Dot ≡ false
      no_dot (follows i d p) = d

  name_word : {frames : List Frame} (state : State) → Starts frames state
      → terminal_of (placed_as state plains at modes.Expression) plains at ≡ terminals.Word
  name_word state starts =
      let before = begun state.before starts.before in
      let s0 = placed_as state plains at modes.Expression in
      name_there s0 plains at is_named
      ∙ if_false (continues s0 plains at) terminals.Part _ (no_and state.word _ starts.word)
      ∙ if_false (not (spaced_at plains at) && behind_dollar state.before) terminals.VariableName _
      (and_no _ _ before.dollar)
      ∙ if_false (not (spaced_at plains at) && is state.before terminals.Hash) terminals.HashName _
      (and_no _ _ before.hash)
      ∙ if_false (is_bang state.before) (behind_bang (sort_at plains at)) _ before.bang
      ∙ if_false (is_apart s0 plains at) terminals.Other _ (no_and _ _ before.owned)
      ∙ go next_is (either insert _ free) before.owned
    where
      word_if : (a b c d : Bool) (x : Terminal) → (a ≡ true) ⊎ (x ≡ terminals.Word) → b ≡ false → c ≡ false
          → d ≡ false
          → (if a then terminals.Word
          else (if b then x else (if c then terminals.Owner else (if d then terminals.Special else x))))
          ≡ terminals.Word
      word_if true b c d x w f g h = refl
      word_if false true c d x w f g h = absurd (cc)
      word_if false false true d x w f g h = absurd (cc)
      word_if false false false true x w f g h = absurd (cc)
      word_if false false false false x (inl w) f g h = absurd (cc)
      word_if false false false false x (inr w) f g h = w

      go : Follows plains (at + 1) insert → (insert ≡ true) ⊎ (not (is_reserved sort) ≡ true)
          → is state.before terminals.OwnerDot ≡ false
          → (if is_direct plains (at + 1) sorts.OpenInsert then terminals.Word
          else (if is state.before terminals.OwnerDot then constant_or_word (sort_at plains at)
          else (if is_direct plains (at + 1) sorts.Dot then terminals.Owner
          else (if is_special_name (sort_at plains at) && is_direct plains (at + 1) sorts.OpenParen
          then terminals.Special
          else constant_or_word (sort_at plains at))))) ≡ terminals.Word
      go (follows i d p) (inl f) o =
          word_if _ _ _ _ (constant_or_word (sort_at plains at)) (inl (i ∙ f)) o d (and_no _ _ p)
      go (follows i d p) (inr f) o =
          word_if _ _ _ _ (constant_or_word (sort_at plains at))
          (inr (word_of (sort_at plains at) (ap is_reserved e ∙ not_true _ f))) o d (and_no _ _ p)

named_told : {frames : List Frame} {spaced : Bool} {parts : List Written} (plains : List Plain) (state : State)
    (at to : ℕ) (sort : Sort) → is_name sort ≡ true → is_dashed sort ≡ false
    → (begins_insert parts || not (is_reserved sort)) ≡ true → Parts parts → Starts frames state
    → Stand plains at (written sort spaced terminals.Word ∷ (parts ++ colon ∷ [])) to → begins_pseudo plains to ≡ false
    → values.HeadTold plains modes.Expression frames state at
    (written sort spaced terminals.Word ∷ (parts ++ colon ∷ [])) to
named_told {frames} {spaced} {parts} plains state at to sort n d f more starts (there, stand) blank =
    let (place, stands, (last, e)) = split plains to parts (colon ∷ []) (at + 1) stand in
    let apart : begins_pseudo plains (place + 1) ≡ false = ap (begins_pseudo plains) e ∙ blank in
    let follows_it = follow more plains (at + 1) to stand in
    let over = parts_over more plains (at + 1) place stands in
    let first = first_told {mode = modes.Expression} plains state at (written sort spaced terminals.Word)
    terminals.Word starts there (name_code sort n)
    (name_mode plains at place sort n d (begins_insert parts) f there.sort follows_it over last.sort apart) refl refl refl
    (name_word plains at place sort n d (begins_insert parts) f there.sort follows_it over last.sort apart state starts)
    refl in
    behind first.reads
    (colon_behind plains first.end
    (parts_told more precedes_text refl refl modes.Expression plains frames first.end (at + 1) place first.within
    (ap precedes_text first.before) first.goes_on stands) (last, e))

-- ---- a `#{}` first

module _ (plains : List Plain) (at place : ℕ) (e : sort_at plains at ≡ sorts.OpenInsert)
    (over : walk_from walks.Word plains 1 (at + 1) ≡ walk_from walks.Word plains 0 place)
    (ends : sort_at plains place ≡ sorts.Colon) (apart : begins_pseudo plains (place + 1) ≡ false) where
  insert_mode : statement_mode plains at ≡ modes.Expression
  insert_mode =
      insert_moded plains at modes.Expression e
      (if_false (is_name (sort_at plains at) && is_direct plains (at + 1) sorts.Dot) _ _ (no_and _ _ (ap is_name e))
      ∙ if_true (begins_word plains at) _ modes.Raw
      (if_false (is_name (sort_at plains at)) _ _ (ap is_name e)
      ∙ or_left _ _ (ap (λ (s : Sort). same s sorts.OpenInsert) e))
      ∙ ap (declared_mode plains)
      (colon_place plains at place
      (ap (λ (s : Sort). walk_from walks.Word plains (in_insert s 0) (at + 1)) e ∙ over) ends)
      ∙ declares plains place ends apart)

  insert_word : {frames : List Frame} (state : State) → Starts frames state
      → terminal_of (placed_as state plains at modes.Expression) plains at ≡ terminals.WordInsert
  insert_word state starts =
      let s0 = placed_as state plains at modes.Expression in
      by_insert s0 plains at e
      ∙ if_false (continues s0 plains at) terminals.PartInsert _ (no_and state.word _ starts.word)
      ∙ if_false (is_apart s0 plains at) terminals.Other _ (no_and _ _ (begun state.before starts.before).owned)

begun_told : {frames : List Frame} {spaced : Bool} {inner parts : List Written} (plains : List Plain) (state : State)
    (at to : ℕ) → Items inner → Parts parts → Starts frames state
    → Stand plains at (inserted spaced terminals.WordInsert inner (parts ++ colon ∷ [])) to
    → begins_pseudo plains to ≡ false
    → values.HeadTold plains modes.Expression frames state at
    (inserted spaced terminals.WordInsert inner (parts ++ colon ∷ [])) to
begun_told {frames} {spaced} {inner} {parts} plains state at to inside more starts (there, stand) blank =
    let close = direct sorts.CloseInsert terminals.InsertEnd in
    let opening = written sorts.OpenInsert spaced terminals.WordInsert in
    let (middle, others, over) = insert_over inner (parts ++ colon ∷ []) inside plains at to spaced
    terminals.WordInsert (there, stand) in
    let (place, stands, (last, e)) = split plains to parts (colon ∷ []) middle others in
    let apart : begins_pseudo plains (place + 1) ≡ false = ap (begins_pseudo plains) e ∙ blank in
    let walked = over ∙ parts_over more plains middle place stands in
    let mode = insert_mode plains at place there.sort walked last.sort apart in
    let s0 = placed_as state plains at modes.Expression in
    let placed_so = placed_is state plains at modes.Expression starts.start mode in
    let n = opens_from s0 refl starts.frames_are terminals.WordInsert brackets.Insert modes.Expression refl refl refl in
    let s1 = after s0 terminals.WordInsert in
    let first : Reads plains state at (opening ∷ []) s1 (at + 1) =
    subst (λ (s : State). Reads plains state at (opening ∷ []) (after s terminals.WordInsert) (at + 1)) placed_so
    (start_step plains state at opening terminals.WordInsert starts.start starts.no_comment there refl
    (ap (λ (s : State). terminal_of s plains at) placed_so
    ∙ insert_word plains at place there.sort walked last.sort apart state starts) one_of) in
    let (end, inside_stands, (closing, rest)) = split plains to inner (close ∷ (parts ++ colon ∷ [])) (at + 1) stand in
    let t = inner_told inside plains (frames ++ framed brackets.Insert terminals.WordInsert modes.Expression ∷ []) s1
    (at + 1) end n.within
    (led terminals.WordInsert (record { before = refl; operand = refl; comma = refl }) n.before n.word) inside_stands
    (closed_stops plains end sorts.CloseInsert refl closing.sort) in
    let m = closes_insert terminals.WordInsert modes.Expression t.end t.within true refl in
    let s2 = after t.end terminals.InsertEnd in
    let (place2, stands2, last2) = split plains to parts (colon ∷ []) (end + 1) rest in
    subst (λ (x : List Written). values.HeadTold plains modes.Expression frames state at x to)
    (ap (λ (x : List Written). opening ∷ x) (append_assoc inner (close ∷ []) (parts ++ colon ∷ [])))
    (behind
    (join first (join (reads t) (step plains t.end end close terminals.InsertEnd t.within closing refl
    (by_insert_end t.end plains end closing.sort) one_of)))
    (colon_behind plains s2
    (parts_told more precedes_text refl refl modes.Expression plains frames s2 (end + 1) place2 m.within (ap precedes_text m.before) m.word stands2)
    last2))

-- ---- a `-` before it

module _ (plains : List Plain) (at place : ℕ) (e : sort_at plains at ≡ sorts.Minus)
    (direct_insert : is_direct plains (at + 1) sorts.OpenInsert ≡ true)
    (over : walk_from walks.Word plains 0 (at + 1) ≡ walk_from walks.Word plains 0 place)
    (ends : sort_at plains place ≡ sorts.Colon) (apart : begins_pseudo plains (place + 1) ≡ false) where
  minus_mode : statement_mode plains at ≡ modes.Expression
  minus_mode =
      minus_moded plains at modes.Expression e
      (if_false (is_name (sort_at plains at) && is_direct plains (at + 1) sorts.Dot) _ _ (no_and _ _ (ap is_name e))
      ∙ if_true (begins_word plains at) _ modes.Raw
      (if_false (is_name (sort_at plains at)) _ _ (ap is_name e)
      ∙ or_right _ _ (both _ _ (ap (λ (s : Sort). same s sorts.Minus) e) direct_insert))
      ∙ ap (declared_mode plains)
      (colon_place plains at place
      (ap (λ (s : Sort). walk_from walks.Word plains (in_insert s 0) (at + 1)) e ∙ over) ends)
      ∙ declares plains place ends apart)

  minus_word : {frames : List Frame} (state : State) → Starts frames state
      → terminal_of (placed_as state plains at modes.Expression) plains at ≡ terminals.WordMinus
  minus_word state starts =
      let s0 = placed_as state plains at modes.Expression in
      by_minus s0 plains at e
      ∙ if_false (continues s0 plains at) terminals.Part _ (no_and state.word _ starts.word)
      ∙ if_true (is_direct plains (at + 1) sorts.OpenInsert) _ _ direct_insert
      ∙ if_false (is_apart s0 plains at) terminals.Other _ (no_and _ _ (begun state.before starts.before).owned)

minus_told : {frames : List Frame} {spaced : Bool} {inner parts : List Written} (plains : List Plain) (state : State)
    (at to : ℕ) → Items inner → Parts parts → Starts frames state
    → Stand plains at
    (written sorts.Minus spaced terminals.WordMinus ∷ inserted false terminals.WordInsert inner (parts ++ colon ∷ [])) to
    → begins_pseudo plains to ≡ false
    → values.HeadTold plains modes.Expression frames state at
    (written sorts.Minus spaced terminals.WordMinus ∷ inserted false terminals.WordInsert inner (parts ++ colon ∷ [])) to
minus_told {frames} {spaced} {inner} {parts} plains state at to inside more starts (there, stand) blank =
    let (middle, others, over) = insert_over inner (parts ++ colon ∷ []) inside plains (at + 1) to false
    terminals.WordInsert stand in
    let (place, stands, (last, e)) = split plains to parts (colon ∷ []) middle others in
    let apart : begins_pseudo plains (place + 1) ≡ false = ap (begins_pseudo plains) e ∙ blank in
    let insert : is_direct plains (at + 1) sorts.OpenInsert ≡ true =
    both _ _ (ap not stand.0.spaced) (ap (λ (s : Sort). same s sorts.OpenInsert) stand.0.sort) in
    let walked = goes plains (at + 1) 0 1 stand.0.within
    (ap (λ (x : Sort). over_word x (spaced_at plains (at + 1)) 0) stand.0.sort
    ∙ ap (λ (x : Bool). over_word sorts.OpenInsert x 0) stand.0.spaced)
    ∙ over ∙ parts_over more plains middle place stands in
    let first = first_told {mode = modes.Expression} plains state at
    (written sorts.Minus spaced terminals.WordMinus) terminals.WordMinus starts there refl
    (minus_mode plains at place there.sort insert walked last.sort apart) refl refl refl
    (minus_word plains at place there.sort insert walked last.sort apart state starts) refl in
    let is_insert = by_insert first.end plains (at + 1) stand.0.sort
    ∙ if_false (continues first.end plains (at + 1)) terminals.PartInsert _ (never first.end plains (at + 1) first.goes_on)
    ∙ ap (λ (m : Mode). insert_in (record first.end { mode = m }) plains (at + 1)) first.within.mode_is
    ∙ if_false (is_apart first.end plains (at + 1)) terminals.Other _
    (no_and _ _ (ap (λ (x : Terminal). is x terminals.OwnerDot) first.before)) in
    let word = inserted false terminals.WordInsert inner parts in
    let whole : word ++ colon ∷ [] ≡ inserted false terminals.WordInsert inner (parts ++ colon ∷ []) =
    ap (λ (x : List Written). direct sorts.OpenInsert terminals.WordInsert ∷ x)
    (append_assoc inner (direct sorts.CloseInsert terminals.InsertEnd ∷ parts) (colon ∷ [])) in
    let (end, word_stands, ended) = split plains to word (colon ∷ []) (at + 1)
    (subst (λ (x : List Written). Stand plains (at + 1) x to) (sym whole) stand) in
    let t = insert_and precedes_text refl refl first.end false terminals.WordInsert inner parts first.within refl
    (record {
      opened = refl;
      begins = refl;
      leads = record { before = refl; operand = refl; comma = refl };
      word = refl;
    })
    (inner_told inside) (parts_told more) word_stands is_insert in
    behind first.reads
    (subst (λ (x : List Written). values.HeadTold plains modes.Expression frames first.end (at + 1) x to) whole
    (colon_behind plains first.end t ended))

-- before anything that makes no pseudo of the `:`
pub property_heads_told : {tokens : List Written} → PropertyHead tokens → (plains : List Plain) (frames : List Frame)
    (state : State) (at to : ℕ) → Starts frames state → Stand plains at tokens to → begins_pseudo plains to ≡ false
    → values.HeadTold plains modes.Expression frames state at tokens to
property_heads_told (named_property sort n d f more) plains frames state at to starts stand blank =
    named_told plains state at to sort n d f more starts stand blank
property_heads_told (begun_property inside more) plains frames state at to starts stand blank =
    begun_told plains state at to inside more starts stand blank
property_heads_told (minus_property inside more) plains frames state at to starts stand blank =
    minus_told plains state at to inside more starts stand blank

pub property_heads_are_told : PropertyHeadsAreTold
property_heads_are_told tokens head plains frames state at to starts stand blank =
    property_heads_told head plains frames state at to starts stand (no_and _ _ (ap not blank))
