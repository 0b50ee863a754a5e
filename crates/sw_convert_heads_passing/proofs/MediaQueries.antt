-- Media types and whole media queries are told.
use Rattle.std.proofs.Common.{◌≡◌, ◌⊎◌, ℕ, ◌+◌, Bool, true, false, not, ◌&&◌, ◌||◌, if◌then◌else◌, List, [], ◌∷◌, ◌++◌, inl, inr, refl, sym, ◌∙◌, ap, subst, append-nil, append_assoc}
use Rattle.sw_text_scan.proofs.Bounds.{if_true, if_false}
use Rattle.sw_parse_terminals.specs.declared.terminal.Terminal.{Terminal}
use Rattle.sw_parse_terminals.specs.declared.terminal.Terminal.TheVariants as terminals
use Rattle.sw_parse_lexemes.specs.declared.sort.Sort.{Sort}
use Rattle.sw_parse_lexemes.specs.declared.sort.Sort.TheVariants as sorts
use Rattle.sw_parse_lexemes.specs.declared.plain.Plain.{Plain}
use Rattle.sw_parse_lexemes.specs.declared.state.Mode.TheVariants as modes
use Rattle.sw_parse_lexemes.specs.declared.state.Frame.{Frame}
use Rattle.sw_parse_lexemes.specs.declared.state.State.{State}
use Rattle.sw_parse_lexemes.specs.Classes.{same, is_name, is_reserved}
use Rattle.sw_parse_lexemes.specs.Ahead.{sort_at, spaced_at, is_direct, code_from, begins_word}
use Rattle.sw_parse_lexemes.specs.Modes.{statement_mode}
use Rattle.sw_parse_lexemes.specs.Names.{is, is_apart, continues, is_only}
use Rattle.sw_parse_lexemes.specs.Signs.{is_text, comma_terminal}
use Rattle.sw_parse_lexemes.specs.Terminals.{goes_on, terminal_of}
use Rattle.sw_parse_lexemes.specs.Steps.{after}
use Rattle.sw_convert_passing.specs.Written.{Written, written, direct, apart, Stand, Within}
use Rattle.sw_convert_passing.specs.Places.{IsClosed}
use Rattle.sw_convert_passing.specs.Values.{Parts, no_part, part, part_insert, ahead, begins_insert}
use Rattle.sw_convert_passing.proofs.Facts.{no_and, and_no, both, word_of, name_code}
use Rattle.sw_convert_passing.proofs.Steps.{join, step, next}
use Rattle.sw_convert_passing.proofs.Walks.{code_stays, next_code}
use Rattle.sw_convert_passing.proofs.Walks as walks
use Rattle.sw_convert_passing.proofs.BySort.{by_minus, by_comma}
use Rattle.sw_convert_passing.proofs.Entries as entries
use Rattle.sw_convert_passing.proofs.Entries.{split, closed_spaced, closed_stops, reads, one_of}
use Rattle.sw_convert_passing.proofs.Leaves.{never}
use Rattle.sw_convert_passing.proofs.Heads.{placed_as, first_told}
use Rattle.sw_convert_passing.proofs.Told.{inner_told}
use Rattle.sw_convert_heads_passing.specs.Media.{is_insert, begins_type, Joins, and_joins, Feature, insert_feature, condition_feature, inside_feature, Features, no_feature, more_features, is_type, TypeName, named_type, inserted_type, minus_type, TypeRest, type_features, type_not, Typed, typed, Query, only_query, not_type_query, typed_query, not_query, joined_query, Queries, one_query, more_queries, media_tokens, MediaIsTold}
use Rattle.sw_convert_heads_passing.specs.Media as media
use Rattle.sw_convert_heads_passing.proofs.Parts.{PartsTold, parts_told, insert_and}
use Rattle.sw_convert_heads_passing.proofs.Media.{in_media, calm, Going, Gone, going, going_on, one_gone, name_here, word_here, not_here, insert_here, feature_spaced, no_insert, joins_here, joined_gone, feature_told, features_told}

or_left : (a b : Bool) → a ≡ true → (a || b) ≡ true
or_left true b e = refl
or_left false b e = absurd (cc)

or_right : (a b : Bool) → b ≡ true → (a || b) ≡ true
or_right true b e = refl
or_right false b e = e

or_no : (a b : Bool) → a ≡ false → b ≡ false → (a || b) ≡ false
or_no true b e f = absurd (cc)
or_no false b e f = f

either : (a b : Bool) → (a || b) ≡ true → (a ≡ true) ⊎ (b ≡ true)
either true b e = inl refl
either false b e = inr e

-- a `#{` stands directly ahead
ahead_closed : (plains : List Plain) (at to : ℕ) (rest : List Written) → Stand plains at rest to → IsClosed plains to
    → is_direct plains at sorts.OpenInsert ≡ ahead is_insert 0 rest
ahead_closed plains at to [] stand closed = (entries.calm plains at (subst (IsClosed plains) (sym stand) closed)).insert
ahead_closed plains at to (one ∷ rest) (there, stand) closed =
    ap (λ (b : Bool). not b && same (sort_at plains at) sorts.OpenInsert) there.spaced
    ∙ ap (λ (x : Sort). not one.spaced && same x sorts.OpenInsert) there.sort

gone_by : {plains : List Plain} {frames : List Frame} {state : State} {at to : ℕ} {tokens : List Written}
    → PartsTold in_media plains modes.Media frames state at tokens to → Gone plains frames state at tokens to
gone_by t = record { end = t.told.end; reads = reads t.told; within = t.told.within; before = t.before }

-- ---- the name of a media type

record TypeSort (sort : Sort) : Type 0 where
  free : is_reserved sort ≡ false
  no_not : same sort sorts.Not ≡ false
  no_only : is_only sort ≡ false

type_sort : (sort : Sort) → is_type sort ≡ true → TypeSort sort
type_sort sorts.Only t = absurd (cc)
type_sort sorts.True t = absurd (cc)
type_sort sorts.False t = absurd (cc)
type_sort sorts.Null t = absurd (cc)
type_sort sorts.And t = absurd (cc)
type_sort sorts.Or t = absurd (cc)
type_sort sorts.Not t = absurd (cc)
type_sort _ t = record { free = refl; no_not = refl; no_only = refl }

insert_is : {parts : List Written} → Parts parts → (plains : List Plain) (at to : ℕ) → Stand plains at parts to
    → IsClosed plains to → is_direct plains at sorts.OpenInsert ≡ begins_insert parts
insert_is no_part plains at to stand closed =
    (entries.calm plains at (subst (IsClosed plains) (sym stand) closed)).insert
insert_is (part sort p more) plains at to (there, stand) closed =
    ap (λ (b : Bool). not b && same (sort_at plains at) sorts.OpenInsert) there.spaced
    ∙ ap (λ (x : Sort). same x sorts.OpenInsert) there.sort
insert_is (part_insert inside more) plains at to (there, stand) closed =
    ap (λ (b : Bool). not b && same (sort_at plains at) sorts.OpenInsert) there.spaced
    ∙ ap (λ (x : Sort). same x sorts.OpenInsert) there.sort

type_word : {frames : List Frame} (plains : List Plain) (state : State) (at : ℕ) → Going plains frames state at
    → (sort : Sort) → is_name sort ≡ true → sort_at plains at ≡ sort → (insert : Bool)
    → is_direct plains (at + 1) sorts.OpenInsert ≡ insert → (insert || is_type sort) ≡ true
    → terminal_of state plains at ≡ terminals.Word
type_word plains state at place sort n e true d f =
    name_here plains state at place (ap is_name e ∙ n)
    ∙ if_true (is_direct plains (at + 1) sorts.OpenInsert) terminals.Word _ d
type_word plains state at place sort n e false d f =
    let t = type_sort sort f in
    word_here plains state at place sort n e d t.no_not t.no_only ∙ word_of sort t.free

minus_here : {frames : List Frame} (plains : List Plain) (state : State) (at : ℕ) → Going plains frames state at
    → sort_at plains at ≡ sorts.Minus → is_direct plains (at + 1) sorts.OpenInsert ≡ true
    → terminal_of state plains at ≡ terminals.WordMinus
minus_here plains state at place e d =
    by_minus state plains at e
    ∙ if_false (continues state plains at) terminals.Part _ place.apart
    ∙ if_false (is_text state.mode) _ _ (ap is_text place.within.mode_is)
    ∙ if_true (is_direct plains (at + 1) sorts.OpenInsert) _ _ d
    ∙ if_false (is_apart state plains at) terminals.Other _ (no_and _ _ (calm state.before place.before).owned)

type_told : {spaced : Bool} {tokens : List Written} → TypeName spaced tokens → (plains : List Plain)
    (frames : List Frame) (state : State) (at to : ℕ) → Going plains frames state at → Stand plains at tokens to
    → IsClosed plains to → Gone plains frames state at tokens to
type_told (named_type {spaced} {parts} sort n f more) plains frames state at to place (there, stand) closed =
    let told = type_word plains state at place sort n there.sort (begins_insert parts)
    (insert_is more plains (at + 1) to stand closed) f in
    let (g, b, w) = one_gone plains state at place (written sort spaced terminals.Word) terminals.Word there
    (name_code sort n) told one_of refl refl refl in
    going_on g.reads
    (gone_by (parts_told more in_media refl refl modes.Media plains frames g.end (at + 1) to g.within g.before w stand))
type_told (inserted_type {spaced} {inner} {parts} inside more) plains frames state at to place stand closed =
    gone_by (insert_and in_media refl refl state spaced terminals.WordInsert inner parts place.within refl
    (record {
      opened = refl;
      begins = refl;
      leads = record { before = refl; operand = refl; comma = refl };
      word = refl;
    })
    (inner_told inside) (parts_told more) stand (insert_here plains state at place stand.0.sort))
type_told (minus_type {spaced} {inner} {parts} inside more) plains frames state at to place (there, stand) closed =
    let d = both _ _ (ap not stand.0.spaced) (ap (λ (s : Sort). same s sorts.OpenInsert) stand.0.sort) in
    let (g, b, w) = one_gone plains state at place (written sorts.Minus spaced terminals.WordMinus) terminals.WordMinus
    there refl (minus_here plains state at place there.sort d) one_of refl refl refl in
    let here : Going plains frames g.end (at + 1) = record { within = g.within; before = g.before; apart = never g.end plains (at + 1) w } in
    going_on g.reads
    (gone_by (insert_and in_media refl refl g.end false terminals.WordInsert inner parts g.within refl
    (record {
      opened = refl;
      begins = refl;
      leads = record { before = refl; operand = refl; comma = refl };
      word = refl;
    })
    (inner_told inside) (parts_told more) stand (insert_here plains g.end (at + 1) here stand.0.sort)))

-- ---- what stands behind it

rest_told : {tokens : List Written} → TypeRest tokens → (plains : List Plain) (frames : List Frame) (state : State)
    (at to : ℕ)
    → Within modes.Media frames state → in_media state.before ≡ true → Stand plains at tokens to
    → Gone plains frames state at tokens to
rest_told (type_features more) plains frames state at to within before stand =
    features_told and_joins more plains frames state at to within before stand
rest_told (type_not {one} feature) plains frames state at to within before (there, (second, stand)) =
    let here : Going plains frames state at = record { within = within; before = before; apart = and_no state.word _ (ap not there.spaced) } in
    let told = joins_here and_joins plains state at here there.sort (no_insert plains (at + 1) second.spaced) in
    let (g1, b1, w1) = joined_gone and_joins plains state at here there told in
    let apart_next = feature_spaced feature [] plains ((at + 1) + 1) to
    (subst (λ (x : List Written). Stand plains ((at + 1) + 1) x to) (sym (append-nil one)) stand) in
    let place = going g1 second.spaced in
    let is_not = not_here plains g1.end (at + 1) place second.sort (no_insert plains ((at + 1) + 1) apart_next) true
    (or_left _ _ (ap (λ (t : Terminal). is t terminals.And) b1)) in
    let (g2, b2, w2) = one_gone plains g1.end (at + 1) place (apart sorts.Not terminals.Not) terminals.Not second refl
    is_not one_of refl refl refl in
    going_on g1.reads
    (going_on g2.reads (feature_told feature plains frames g2.end ((at + 1) + 1) to (going g2 apart_next) stand))

rest_closes : {rest : List Written} → TypeRest rest → (plains : List Plain) (at to : ℕ) → Stand plains at rest to
    → IsClosed plains to → IsClosed plains at
rest_closes (type_features no_feature) plains at to stand closed = subst (IsClosed plains) (sym stand) closed
rest_closes (type_features (more_features first more)) plains at to stand closed =
    closed_spaced plains at stand.0.spaced
rest_closes (type_not feature) plains at to stand closed = closed_spaced plains at stand.0.spaced

typed_told : {tokens : List Written} → Typed tokens → (plains : List Plain) (frames : List Frame) (state : State)
    (at to : ℕ)
    → Going plains frames state at → Stand plains at tokens to → IsClosed plains to
    → Gone plains frames state at tokens to
typed_told (typed {name} {rest} first more) plains frames state at to place stand closed =
    let (middle, stands, others) = split plains to name rest at stand in
    let g = type_told first plains frames state at middle place stands (rest_closes more plains middle to others closed) in
    going_on g.reads (rest_told more plains frames g.end middle to g.within g.before others)

-- ---- how a query begins

-- a word that a media type begins with is no part of a comment and no `(`
name_first : (sort : Sort) → is_name sort ≡ true → (walks.is_code sort ≡ true) × (same sort sorts.OpenParen ≡ false)
name_first sorts.Comment n = absurd (cc)
name_first sorts.CommentTemplate n = absurd (cc)
name_first sorts.CommentEnd n = absurd (cc)
name_first sorts.OpenParen n = absurd (cc)
name_first _ n = (refl, refl)

record First (plains : List Plain) (at : ℕ) : Type 0 where
  spaced : spaced_at plains at ≡ true
  code : code_from plains at ≡ at
  paren : same (sort_at plains at) sorts.OpenParen ≡ false

type_first : {name : List Written} → TypeName true name → (rest : List Written) (plains : List Plain) (at to : ℕ)
    → Stand plains at (name ++ rest) to → First plains at
type_first (named_type sort n f more) rest plains at to (there, stand) =
    let (c, p) = name_first sort n in
    record {
      spaced = there.spaced;
      code = code_stays plains at (ap walks.is_code there.sort ∙ c);
      paren = ap (λ (s : Sort). same s sorts.OpenParen) there.sort ∙ p;
    }
type_first (inserted_type inside more) rest plains at to (there, stand) = record {
  spaced = there.spaced;
  code = code_stays plains at (ap walks.is_code there.sort);
  paren = ap (λ (s : Sort). same s sorts.OpenParen) there.sort;
}
type_first (minus_type inside more) rest plains at to (there, stand) = record {
  spaced = there.spaced;
  code = code_stays plains at (ap walks.is_code there.sort);
  paren = ap (λ (s : Sort). same s sorts.OpenParen) there.sort;
}

typed_first : {tokens : List Written} → Typed tokens → (plains : List Plain) (at to : ℕ) → Stand plains at tokens to
    → First plains at
typed_first (typed {name} {rest} first more) plains at to stand = type_first first rest plains at to stand

-- a word begins there
begins_there : (plains : List Plain) (at to : ℕ) (tokens : List Written) → Stand plains at tokens to
    → IsClosed plains to → begins_type tokens ≡ true → begins_word plains at ≡ true
begins_there plains at to [] stand closed b = absurd (cc)
begins_there plains at to (token ∷ rest) (there, stand) closed b =
    ap (λ (s : Sort). if is_name s then not (is_reserved s) || is_direct plains (at + 1) sorts.OpenInsert
    else (same s sorts.OpenInsert || (same s sorts.Minus && is_direct plains (at + 1) sorts.OpenInsert))) there.sort
    ∙ ap (λ (x : Bool). if is_name token.sort then not (is_reserved token.sort) || x
    else (same token.sort sorts.OpenInsert || (same token.sort sorts.Minus && x)))
    (ahead_closed plains (at + 1) to rest stand closed)
    ∙ b

-- before a query stands no `and`, and no `(` of a condition
record Begins (before : Terminal) : Type 0 where
  no_and : is before terminals.And ≡ false
  no_paren : is before terminals.ConditionParen ≡ false

abbrev IsQuery : List Written → Type 0
IsQuery tokens =
    (plains : List Plain) (frames : List Frame) (state : State) (at to : ℕ) → Going plains frames state at
    → Begins state.before → Stand plains at tokens to → IsClosed plains to → Gone plains frames state at tokens to

query_told : {tokens : List Written} → Query tokens → IsQuery tokens
query_told (only_query {media = tokens} type b) plains frames state at to place begins (there, stand) closed =
    let f = typed_first type plains (at + 1) to stand in
    let told = name_here plains state at place (ap is_name there.sort)
    ∙ if_false (is_direct plains (at + 1) sorts.OpenInsert) terminals.Word _ (no_insert plains (at + 1) f.spaced)
    ∙ if_false (same (sort_at plains at) sorts.Not) _ _ (ap (λ (s : Sort). same s sorts.Not) there.sort)
    ∙ if_true (is_only (sort_at plains at)) _ _ (ap is_only there.sort)
    ∙ if_true (begins_word plains (code_from plains (at + 1))) terminals.Only terminals.Word
    (ap (begins_word plains) f.code ∙ begins_there plains (at + 1) to tokens stand closed b) in
    let (g, x, w) = one_gone plains state at place (apart sorts.Only terminals.Only) terminals.Only there refl told one_of
    refl refl refl in
    going_on g.reads (typed_told type plains frames g.end (at + 1) to (going g f.spaced) stand closed)
query_told (not_type_query type) plains frames state at to place begins (there, stand) closed =
    let f = typed_first type plains (at + 1) to stand in
    let told = not_here plains state at place there.sort (no_insert plains (at + 1) f.spaced) false
    (or_no _ _ begins.no_and
    (or_no _ _ begins.no_paren (ap (λ (k : ℕ). same (sort_at plains k) sorts.OpenParen) f.code ∙ f.paren))) in
    let (g, x, w) = one_gone plains state at place (apart sorts.Not terminals.NotType) terminals.NotType there refl told
    one_of refl refl refl in
    going_on g.reads (typed_told type plains frames g.end (at + 1) to (going g f.spaced) stand closed)
query_told (typed_query type) plains frames state at to place begins stand closed =
    typed_told type plains frames state at to place stand closed
query_told (not_query {one} feature o) plains frames state at to place begins (there, stand) closed =
    let apart_next = feature_spaced feature [] plains (at + 1) to
    (subst (λ (x : List Written). Stand plains (at + 1) x to) (sym (append-nil one)) stand) in
    let told = not_here plains state at place there.sort (no_insert plains (at + 1) apart_next) true
    (or_right _ _ (or_right _ _ (ap (λ (s : Sort). same s sorts.OpenParen)
    (next_code plains at sorts.OpenParen refl (paren_first feature o plains (at + 1) to stand))))) in
    let (g, x, w) = one_gone plains state at place (apart sorts.Not terminals.Not) terminals.Not there refl told one_of
    refl refl refl in
    going_on g.reads (feature_told feature plains frames g.end (at + 1) to (going g apart_next) stand)
  where
    paren_first : {one : List Written} → Feature true one → media.opens one ≡ true → (plains : List Plain) (at to : ℕ)
        → Stand plains at one to → sort_at plains at ≡ sorts.OpenParen
    paren_first (insert_feature inside) o plains at to stand = absurd (cc)
    paren_first (condition_feature inside c) o plains at to stand = stand.0.sort
    paren_first (inside_feature inside c) o plains at to stand = stand.0.sort
query_told (joined_query {word} {terminal} {one} {rest} joins first more) plains frames state at to place begins stand
    closed =
    let (middle, stands, others) = split plains to one rest at stand in
    let g = feature_told first plains frames state at middle place stands in
    going_on g.reads (features_told joins more plains frames g.end middle to g.within g.before others)

query_spaced : {tokens : List Written} → Query tokens → (rest : List Written) (plains : List Plain) (at to : ℕ)
    → Stand plains at (tokens ++ rest) to → spaced_at plains at ≡ true
query_spaced (only_query type b) rest plains at to stand = stand.0.spaced
query_spaced (not_type_query type) rest plains at to stand = stand.0.spaced
query_spaced (typed_query (typed {name = name} {rest = more} first others)) rest plains at to stand =
    (type_first first (more ++ rest) plains at to
    (subst (λ (x : List Written). Stand plains at x to) (append_assoc name more rest) stand)).spaced
query_spaced (not_query feature o) rest plains at to stand = stand.0.spaced
query_spaced (joined_query {one = one} {rest = more} joins first others) rest plains at to stand =
    feature_spaced first (more ++ rest) plains at to
    (subst (λ (x : List Written). Stand plains at x to) (append_assoc one more rest) stand)

-- ---- all queries

queries_told : {tokens : List Written} → Queries tokens → IsQuery tokens
queries_told (one_query query) plains frames state at to place begins stand closed =
    query_told query plains frames state at to place begins stand closed
queries_told (more_queries {one} {rest} query more) plains frames state at to place begins stand closed =
    let comma = direct sorts.Comma terminals.Comma in
    let (middle, stands, (there, others)) = split plains to one (comma ∷ rest) at stand in
    let g1 = query_told query plains frames state at middle place begins stands
    (closed_stops plains middle sorts.Comma refl there.sort) in
    let told = by_comma g1.end plains middle there.sort ∙ ap comma_terminal g1.within.mode_is in
    let n = next g1.end g1.within refl terminals.Comma refl refl in
    let s1 = after g1.end terminals.Comma in
    let g2 = queries_told more plains frames s1 (middle + 1) to
    (record { within = n.within; before = ap in_media n.before; apart = never s1 plains (middle + 1) n.word })
    (record {
      no_and = ap (λ (t : Terminal). is t terminals.And) n.before;
      no_paren = ap (λ (t : Terminal). is t terminals.ConditionParen) n.before;
    })
    others closed in
    going_on g1.reads (going_on (step plains g1.end middle comma terminals.Comma g1.within there refl told one_of) g2)

first_spaced : {tokens : List Written} → Queries tokens → (plains : List Plain) (at to : ℕ) → Stand plains at tokens to
    → spaced_at plains at ≡ true
first_spaced (one_query {one} query) plains at to stand =
    query_spaced query [] plains at to (subst (λ (x : List Written). Stand plains at x to) (sym (append-nil one)) stand)
first_spaced (more_queries {one} {rest} query more) plains at to stand =
    query_spaced query (direct sorts.Comma terminals.Comma ∷ rest) plains at to stand

module _ (plains : List Plain) (at : ℕ) (spaced : spaced_at plains (at + 1) ≡ true) where
  media_mode : sort_at plains at ≡ sorts.AtMedia → statement_mode plains at ≡ modes.Media
  unfolding statement_mode
  media_mode e = rw (e, statement_mode)
      (if_false (is_direct plains (at + 1) sorts.OpenInsert) modes.Raw modes.Media (no_insert plains (at + 1) spaced))

  media_here : (state : State) → state.start ≡ true → sort_at plains at ≡ sorts.AtMedia
      → terminal_of state plains at ≡ terminals.AtMedia
  unfolding terminal_of
  media_here state b e = rw (e, terminal_of) (if_true state.start _ _ b
      ∙ if_false (goes_on plains at) terminals.AtOther terminals.AtMedia
      (and_no _ _ (no_insert plains (at + 1) spaced)))

pub media_is_told : MediaIsTold
media_is_told spaced tokens queries plains frames state at to starts (there, stand) closed =
    let apart_next = first_spaced queries plains (at + 1) to stand in
    let first = first_told {mode = modes.Media} plains state at (written sorts.AtMedia spaced terminals.AtMedia)
    terminals.AtMedia starts there refl (media_mode plains at apart_next there.sort) refl refl refl
    (media_here plains at apart_next (placed_as state plains at modes.Media) starts.start there.sort) refl in
    let g = queries_told queries plains frames first.end (at + 1) to
    (record {
      within = first.within;
      before = ap in_media first.before;
      apart = never first.end plains (at + 1) first.goes_on;
    })
    (record {
      no_and = ap (λ (t : Terminal). is t terminals.And) first.before;
      no_paren = ap (λ (t : Terminal). is t terminals.ConditionParen) first.before;
    })
    stand closed in
    let (lexemes, passed) = join first.reads g.reads in
    record { lexemes = lexemes; end = g.end; passed = passed; within = g.within }
