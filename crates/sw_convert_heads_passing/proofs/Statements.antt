-- Statements one after another are told, with the blocks in them.
use Rattle.std.proofs.Common.{◌≡◌, ℕ, ◌+◌, Bool, true, false, not, ◌&&◌, ◌||◌, nat_lt, List, [], ◌∷◌, ◌++◌, refl, sym, ◌∙◌, ap, subst, append_assoc}
use Rattle.sw_parse_lexemes.specs.declared.sort.Sort.{Sort}
use Rattle.sw_parse_lexemes.specs.declared.sort.Sort.TheVariants as sorts
use Rattle.sw_parse_lexemes.specs.declared.plain.Plain.{Plain}
use Rattle.sw_parse_lexemes.specs.declared.state.Mode.{Mode}
use Rattle.sw_parse_lexemes.specs.declared.state.Mode.TheVariants as modes
use Rattle.sw_parse_lexemes.specs.declared.state.Frame.{Frame}
use Rattle.sw_parse_lexemes.specs.declared.state.State.{State}
use Rattle.sw_parse_lexemes.specs.Classes.{starts_name, same, is_else}
use Rattle.sw_parse_lexemes.specs.Ahead.{sort_at, spaced_at, length_at}
use Rattle.sw_parse_lexemes.specs.Modes.{begins_pseudo}
use Rattle.sw_parse_lexemes.specs.Signs.{is_params}
use Rattle.sw_parse_lexemes.specs.Brackets.{innermost, is_outer, is_custom}
use Rattle.sw_parse_lexemes.specs.Steps.{past_white}
use Rattle.sw_convert_passing.specs.Written.{Written, apart, Stand, Within}
use Rattle.sw_convert_passing.specs.Places.{is_value, IsClosed, Behind, Told}
use Rattle.sw_convert_passing.specs.Values.{Row, Flags, no_flag, flag, seam}
use Rattle.sw_convert_passing.specs.Heads.{Starts, Head, variable_head, property_head, at_rule_head, HeadTold}
use Rattle.sw_convert_passing.proofs.Facts.{no_and, and_no}
use Rattle.sw_convert_passing.proofs.Steps.{Reads, join, stay_at, seam_step, seam_next, innermost_is}
use Rattle.sw_convert_passing.proofs.Entries.{split, begins_there, calm, closed_stops, closed_spaced, reads}
use Rattle.sw_convert_passing.proofs.Told.{row_told, rows_are_told}
use Rattle.sw_convert_passing.proofs.Flags.{flags_are_told}
use Rattle.sw_convert_passing.proofs.Heads.{heads_are_told}
use Rattle.sw_convert_heads_passing.specs.RawTexts.{Outside, AreBraces, precedes_text}
use Rattle.sw_convert_heads_passing.specs.Heads.{AreKeywords}
use Rattle.sw_convert_heads_passing.specs.Flow.{FlowHead, each_head, for_head, else_if_head, assigned_head, parted, is_bound, bound, Ends, before_block, before_seam, before_end}
use Rattle.sw_convert_heads_passing.specs.Blocks.{end_sign, open_sign, close_sign, block_in, StartTold}
use Rattle.sw_convert_heads_passing.specs.Comments.{ends_comment, AreLoud, RunTold}
use Rattle.sw_convert_heads_passing.specs.Statements.{FlagsBehind, directly, behind_seam, Front, valued, flagged, assigned, declared, unvalued, flowing, bounded, named, texted, texted_apart, ruled, customised, loading, querying, belonging, alone, Headed, plainly, seamed, Statements, no_statement, statement_ended, statement_block, statement_rule, statement_comment, StatementsAreTold}
use Rattle.sw_convert_heads_passing.proofs.RawTexts.{raw_texts_are_told}
use Rattle.sw_convert_heads_passing.proofs.Rules.{rule_told, selector_told}
use Rattle.sw_convert_heads_passing.proofs.TextHeads.{heads_told, text_heads_are_told}
use Rattle.sw_convert_heads_passing.proofs.Properties.{property_heads_told, property_heads_are_told}
use Rattle.sw_convert_heads_passing.proofs.Customs.{custom_heads_are_told}
use Rattle.sw_convert_heads_passing.proofs.LoadHeads.{loads_are_told}
use Rattle.sw_convert_heads_passing.proofs.MediaQueries.{media_is_told}
use Rattle.sw_convert_heads_passing.proofs.Moves.{told_by}
use Rattle.sw_convert_heads_passing.proofs.Members.{members_are_told}
use Rattle.sw_convert_heads_passing.proofs.Flow.{flow_heads_are_told}
use Rattle.sw_convert_heads_passing.proofs.Bounds.{Ending, ending_by, bound_told, lone_heads_are_told}
use Rattle.sw_convert_heads_passing.proofs.Blocks.{ends_are_told, blocks_open, blocks_close}
use Rattle.sw_convert_heads_passing.proofs.Calm.{first_calm, begun_calm, passed_calm}
use Rattle.sw_convert_heads_passing.proofs.Loud.{Runs, runs, follow, comment_told, comment_over, ends_over, comment_ends}
use Rattle.sw_convert_heads_passing.proofs.Elseless.{IsElselessBehind, code_there, elseless, rest_behind, true_behind, block_behind, comment_there}

-- what a value is read in behind a head
record Valued (mode : Mode) : Type 0 where
  value : is_value mode ≡ true
  params : is_params mode ≡ false

head_mode : {mode : Mode} {tokens : List Written} → Head mode tokens → Valued mode
head_mode (variable_head _ n) = record { value = refl; params = refl }
head_mode (property_head _ n) = record { value = refl; params = refl }
head_mode (at_rule_head sort t) = record { value = refl; params = refl }

flow_mode : {mode : Mode} {tokens : List Written} → FlowHead mode tokens → Valued mode
flow_mode (each_head _ names) = record { value = refl; params = refl }
flow_mode (for_head _ _ n) = record { value = refl; params = refl }
flow_mode else_if_head = record { value = refl; params = refl }
flow_mode (assigned_head _ _ o d n) = record { value = refl; params = refl }

closed_by : {plains : List Plain} {at : ℕ} → Ends plains at → IsClosed plains at
closed_by {plains} {at} (before_block e) = closed_stops plains at sorts.OpenBrace refl e
closed_by {plains} {at} (before_seam l e f) = closed_stops plains at sorts.Comment refl e
closed_by {plains} {at} (before_end e) = closed_stops plains at sorts.Semicolon refl e

closed_by_flags : {flags : List Written} → Flags flags → (plains : List Plain) (at to : ℕ) → Stand plains at flags to
    → IsClosed plains to → IsClosed plains at
closed_by_flags no_flag plains at to e closed = subst (IsClosed plains) (sym e) closed
closed_by_flags (flag sort f more) plains at to stand closed = closed_spaced plains at stand.0.spaced

row_begins : {mode : Mode} {ended : Bool} {row : List Written} → Row mode true ended row → (plains : List Plain)
    (at to : ℕ) → Stand plains at row to → spaced_at plains at ≡ true
row_begins {row = row} values plains at to stand = begins_there plains at to true row (row_told values).begins stand

-- a value behind a head
behind_head : {plains : List Plain} {mode : Mode} {ended : Bool} {frames : List Frame} {state : State}
    {at middle to : ℕ} {head row : List Written} → Valued mode → HeadTold plains mode frames state at head middle
    → Row mode true ended row → Stand plains middle row to → IsClosed plains to
    → (told : Told plains mode frames state at (head ++ row) to) × Behind ended told.end
behind_head {plains} {mode} {ended} {frames} {middle = middle} {to = to} {row = row} facts head values stand closed =
    let t = rows_are_told mode true ended row values plains frames head.told.end middle to facts.value facts.params
    head.told.within head.before head.operand head.comma head.word stand closed in
    (told_by t.0.end (join (reads head.told) (reads t.0)) t.0.within, t.1)

-- where flags end a value, with an empty comment before them or without
flags_close : {flags : List Written} → FlagsBehind flags → (plains : List Plain) (at to : ℕ) → Stand plains at flags to
    → IsClosed plains to → IsClosed plains at
flags_close (directly marked) plains at to stand closed = closed_by_flags marked plains at to stand closed
flags_close (behind_seam marked) plains at to (there, stand) closed =
    closed_stops plains at sorts.Comment refl there.sort

flags_told : {flags : List Written} → FlagsBehind flags → (plains : List Plain) (frames : List Frame) (state : State)
    (at to : ℕ) → Within modes.Ends frames state → Stand plains at flags to
    → Told plains modes.Ends frames state at flags to
flags_told (directly {flags} marked) plains frames state at to within stand =
    flags_are_told modes.Ends flags marked plains frames state at to refl refl within stand
flags_told (behind_seam {flags} marked) plains frames state at to within (there, stand) =
    let s = seam_next state within in
    let f = flags_are_told modes.Ends flags marked plains frames (past_white state sorts.Comment) (at + 1) to refl refl
    s.within stand in
    told_by f.end (join (seam_step plains state at within there) (reads f)) f.within

-- and flags behind it
flags_behind : {plains : List Plain} {ended : Bool} {frames : List Frame} {state : State} {at middle to : ℕ}
    {head row flags : List Written} → HeadTold plains modes.Ends frames state at head middle
    → Row modes.Ends true ended row → FlagsBehind flags → Stand plains middle (row ++ flags) to → IsClosed plains to
    → Told plains modes.Ends frames state at (head ++ (row ++ flags)) to
flags_behind {plains} {ended} {frames} {middle = middle} {to = to} {row = row} {flags = flags} h values marked others
    closed =
    let (place, second, third) = split plains to row flags middle others in
    let v = rows_are_told modes.Ends true ended row values plains frames h.told.end middle place refl refl h.told.within
    h.before h.operand h.comma h.word second (flags_close marked plains place to third closed) in
    let f = flags_told marked plains frames v.0.end place to v.0.within third in
    told_by f.end (join (reads h.told) (join (reads v.0) (reads f))) f.within

-- no pseudo begins before a block or an end
no_pseudo : {plains : List Plain} {at : ℕ} → Ends plains at → begins_pseudo plains at ≡ false
no_pseudo {plains} {at} (before_block e) =
    and_no (not (spaced_at plains at)) _
    (ap (λ (s : Sort). starts_name s || (same s sorts.OpenInsert || same s sorts.Colon)) e)
no_pseudo {plains} {at} (before_seam l e f) =
    and_no (not (spaced_at plains at)) _
    (ap (λ (s : Sort). starts_name s || (same s sorts.OpenInsert || same s sorts.Colon)) e)
no_pseudo {plains} {at} (before_end e) =
    and_no (not (spaced_at plains at)) _
    (ap (λ (s : Sort). starts_name s || (same s sorts.OpenInsert || same s sorts.Colon)) e)

-- what stands before the word between two bounds is closed
parted_closes : (gap : Bool) (one : Written) (rest : List Written) (plains : List Plain) (at to : ℕ)
    → one.spaced ≡ true → Stand plains at (parted gap (one ∷ rest)) to → IsClosed plains at
parted_closes true one rest plains at to spaced (there, stand) = closed_stops plains at sorts.Comment refl there.sort
parted_closes false one rest plains at to spaced (there, stand) = closed_spaced plains at (there.spaced ∙ spaced)

-- that word and the value behind it
bound_behind : {plains : List Plain} {frames : List Frame} {ended : Bool} {last : List Written} (gap : Bool) (sort : Sort)
    → is_bound sort ≡ true → Row modes.Bounds true ended last → (state : State) (at to : ℕ)
    → Within modes.Bounds frames state → Ending state.before
    → Stand plains at (parted gap (apart sort (bound sort) ∷ last)) to → IsClosed plains to
    → Told plains modes.Bounds frames state at (parted gap (apart sort (bound sort) ∷ last)) to
bound_behind {plains} {frames} false sort b high state at to within ending (there, stand) closed =
    let w = bound_told sort b plains frames state at (at + 1) within ending (there, refl)
    (row_begins high plains (at + 1) to stand) in
    (behind_head (record { value = refl; params = refl }) w high stand closed).0
bound_behind {plains} {frames} {last = last} true sort b high state at to within ending (seam_there, (there, stand)) closed =
    let s = seam_next state within in
    let w = bound_told sort b plains frames (past_white state sorts.Comment) (at + 1) ((at + 1) + 1) s.within
    (subst Ending (sym s.before) ending) (there, refl) (row_begins high plains ((at + 1) + 1) to stand) in
    let l = (behind_head (record { value = refl; params = refl }) w high stand closed).0 in
    told_by l.end (join (seam_step plains state at within seam_there) (reads l)) l.within

module _ (plains : List Plain) (frames : List Frame) (braces : AreBraces plains) (keywords : AreKeywords plains)
    (outer : is_outer (innermost frames) ≡ true) where
  front_told : {mode : Mode} {tokens : List Written} → Front mode tokens → (state : State) (at to : ℕ)
      → Starts frames state → Stand plains at tokens to → Ends plains to → Told plains mode frames state at tokens to
  front_told (valued {mode} {head} {row} begun values) state at to starts stand ends =
      let (middle, first, second) = split plains to head row at stand in
      let h = heads_are_told mode head begun plains frames state at middle starts first
      (row_begins values plains middle to second) in
      (behind_head (head_mode begun) h values second (closed_by ends)).0
  front_told (flagged {head} {row} {flags} begun values marked) state at to starts stand ends =
      let (middle, first, others) = split plains to head (row ++ flags) at stand in
      let (place, second, third) = split plains to row flags middle others in
      let h = heads_are_told modes.Ends head begun plains frames state at middle starts first
      (row_begins values plains middle place second) in
      flags_behind h values marked others (closed_by ends)
  front_told (assigned {head} {row} {flags} begun values marked) state at to starts stand ends =
      let (middle, first, others) = split plains to head (row ++ flags) at stand in
      let (place, second, third) = split plains to row flags middle others in
      let h = flow_heads_are_told modes.Ends head begun plains frames state at middle starts first
      (row_begins values plains middle place second) in
      flags_behind h values marked others (closed_by ends)
  front_told (declared {head} {row} begun values) state at to starts stand ends =
      let (middle, first, second) = split plains to head row at stand in
      let h = property_heads_are_told head begun plains frames state at middle starts first
      (row_begins values plains middle to second) in
      (behind_head (record { value = refl; params = refl }) h values second (closed_by ends)).0
  front_told (unvalued {head} begun) state at to starts stand ends =
      (property_heads_told begun plains frames state at to starts stand (no_pseudo ends)).told
  front_told (flowing {mode} {head} {row} begun values) state at to starts stand ends =
      let (middle, first, second) = split plains to head row at stand in
      let h = flow_heads_are_told mode head begun plains frames state at middle starts first
      (row_begins values plains middle to second) in
      (behind_head (flow_mode begun) h values second (closed_by ends)).0
  front_told (bounded {head} {from} {to = last} {from_ended} begun low gap sort b high) state at to starts stand ends =
      let sign = apart sort (bound sort) in
      let (middle, first, others) = split plains to head (from ++ parted gap (sign ∷ last)) at stand in
      let (place, second, third) = split plains to from (parted gap (sign ∷ last)) middle others in
      let h = flow_heads_are_told modes.Bounds head begun plains frames state at middle starts first
      (row_begins low plains middle place second) in
      let v = behind_head (record { value = refl; params = refl }) h low second (parted_closes gap sign last plains place to refl third) in
      let l = bound_behind gap sort b high v.0.end place to v.0.within (ending_by from_ended v.0.end v.1) third
      (closed_by ends) in
      told_by l.end
      (subst (λ (x : List Written). Reads plains state at x l.end to) (append_assoc head from (parted gap (sign ∷ last)))
      (join (reads v.0) (reads l))) l.within
  front_told (named {head} begun) state at to starts stand ends =
      (heads_told begun plains frames state at to keywords starts stand (calm plains to (closed_by ends)).insert).told
  front_told (texted {head} {rest} begun one spaced text) state at to starts stand ends =
      let (middle, first, second) = split plains to head (one ∷ rest) at stand in
      let blank = second.0.spaced ∙ spaced in
      let h = text_heads_are_told head begun plains frames state at middle keywords starts first blank in
      let t = raw_texts_are_told modes.Raw Outside (one ∷ rest) text plains frames h.told.end middle to refl braces
      h.told.within outer (record { before = h.before; word = and_no h.told.end.word _ (ap not blank) }) second in
      told_by t.told.end (join (reads h.told) (reads t.told)) t.told.within
  front_told (texted_apart {head} {rest} begun one spaced text) state at to starts stand ends =
      let (middle, first, (seam_there, second)) = split plains to head (seam ∷ one ∷ rest) at stand in
      let h = heads_told begun plains frames state at middle keywords starts first
      (and_no (not (spaced_at plains middle)) _ (ap (λ (s : Sort). same s sorts.OpenInsert) seam_there.sort)) in
      let s = seam_next h.told.end h.told.within in
      let blank = second.0.spaced ∙ spaced in
      let t = raw_texts_are_told modes.Raw Outside (one ∷ rest) text plains frames (past_white h.told.end sorts.Comment)
      (middle + 1) to refl braces s.within outer
      (record { before = ap precedes_text s.before ∙ h.before; word = and_no (past_white h.told.end sorts.Comment).word _ (ap not blank) })
      second in
      told_by t.told.end
      (join (reads h.told) (join (seam_step plains h.told.end middle h.told.within seam_there) (reads t.told)))
      t.told.within
  front_told (ruled {rest} one b text) state at to starts stand ends =
      rule_told one rest b text plains frames state at to braces outer starts stand
  front_told (customised {head} {text} begun inside) state at to starts stand ends =
      let (middle, first, second) = split plains to head text at stand in
      let (h, w) = custom_heads_are_told head begun plains frames state at middle starts first in
      let t = raw_texts_are_told modes.Custom Outside text inside plains frames h.told.end middle to refl braces
      h.told.within outer (record { before = h.before; word = no_and h.told.end.word _ w }) second in
      told_by t.told.end (join (reads h.told) (reads t.told)) t.told.within
  front_told (loading {mode} {tokens} load) state at to starts stand ends =
      loads_are_told mode tokens load plains frames state at to starts stand
  front_told (querying {spaced} {queries} asked) state at to starts stand ends =
      media_is_told spaced queries asked plains frames state at to starts stand (closed_by ends)
  front_told (belonging {mode} {tokens} member) state at to starts stand ends =
      members_are_told mode tokens member plains frames state at to starts stand (closed_by ends)
  front_told (alone {mode} {tokens} head) state at to starts stand ends =
      lone_heads_are_told mode tokens head plains frames state at to starts stand ends

  -- with an empty comment before the block
  headed_told : {mode : Mode} {tokens : List Written} → Headed mode tokens → (state : State) (at to : ℕ)
      → Starts frames state → Stand plains at tokens to → sort_at plains to ≡ sorts.OpenBrace
      → Told plains mode frames state at tokens to
  headed_told (plainly fronted) state at to starts stand block =
      front_told fronted state at to starts stand (before_block block)
  headed_told (seamed {front} fronted) state at to starts stand block =
      let (place, first, (there, e)) = split plains to front (seam ∷ []) at stand in
      let f = front_told fronted state at place starts first
      (before_seam there.within there.sort (ap (sort_at plains) e ∙ block)) in
      let s = seam_next f.end f.within in
      told_by (past_white f.end sorts.Comment)
      (join (reads f) (join (seam_step plains f.end place f.within there) (stay_at e))) s.within

start_runs : {plains : List Plain} {frames : List Frame} {state : State} {at to : ℕ} {tokens : List Written}
    (told : StartTold plains frames state at tokens to) → Runs plains state at tokens told.end to
start_runs told = runs (told.lexemes, told.passed)

run_told : {plains : List Plain} {frames : List Frame} {state : State} {at to : ℕ} {tokens : List Written} (end : State)
    → Runs plains state at tokens end to → Starts frames end → RunTold plains frames state at tokens to
run_told end (lexemes, run) starts = record { end = end; lexemes = lexemes; run = run; starts = starts }

-- statements wherever they may begin
abbrev AreTold : List Plain → List Written → Type 0
AreTold plains tokens =
    (frames : List Frame) (state : State) (at to : ℕ) → is_outer (innermost frames) ≡ true → Starts frames state
    → AreLoud plains state at tokens to → Stand plains at tokens to → RunTold plains frames state at tokens to

-- a block behind its head, and what follows it
block_told : {plains : List Plain} {mode : Mode} {front inner rest : List Written} {frames : List Frame} {state : State}
    {at place to : ℕ} (spaced blank : Bool) → AreTold plains inner → AreTold plains rest
    → is_outer (innermost frames) ≡ true → Starts frames state → Told plains mode frames state at front place
    → (is_custom mode && nat_lt 0 (length_at plains place)) ≡ false → IsElselessBehind plains to false rest
    → Stand plains place (open_sign spaced ∷ (inner ++ close_sign blank ∷ rest)) to
    → RunTold plains frames state at (front ++ open_sign spaced ∷ (inner ++ close_sign blank ∷ rest)) to
block_told {plains} {mode} {inner = inner} {rest = rest} {frames} {state} {at} {place} {to} spaced blank inside more outer
    starts f custom behind (sign, others) =
    let (last, second, (close, remaining)) = split plains to inner (close_sign blank ∷ rest) (place + 1) others in
    let o = blocks_open spaced plains mode frames f.end place (place + 1) outer custom f.within (sign, refl) in
    let calm = passed_calm o.passed (begun_calm f.passed starts.start f.within.no_start) in
    let i = inside (frames ++ block_in mode ∷ []) o.end (place + 1) last
    (ap is_outer (innermost_is frames (block_in mode))) o.starts
    (record { first = λ c. calm; last = λ e. code_there plains last to (close_sign blank ∷ []) rest refl refl (close, remaining) })
    second in
    let c = blocks_close blank plains mode frames i.end last (last + 1) i.starts (close, refl) in
    let r = more frames c.end (last + 1) to outer c.starts
    (record { first = λ h. first_calm c.passed i.starts.start; last = behind }) remaining in
    run_told r.end
    (follow (runs (reads f))
    (follow (start_runs o) (follow (i.lexemes, i.run) (follow (start_runs c) (r.lexemes, r.run))))) r.starts

together : (plains : List Plain) (place to : ℕ) (left right : List Written) (at : ℕ) → Stand plains at left place
    → Stand plains place right to → Stand plains at (left ++ right) to
together plains place to [] right at e stand = subst (λ (k : ℕ). Stand plains k right to) (sym e) stand
together plains place to (one ∷ left) right at (there, more) stand =
    (there, together plains place to left right (at + 1) more stand)

module _ (plains : List Plain) (braces : AreBraces plains) (keywords : AreKeywords plains) where
  statements_told : {first : Bool} {tokens : List Written} → Statements first tokens → AreTold plains tokens
  statements_told no_statement frames state at to outer starts loud e = run_told state (runs (stay_at e)) starts
  statements_told (statement_ended {mode} {front} {rest} spaced fronted more) frames state at to outer starts loud
      stand =
      let (place, first, (sign, others)) = split plains to front (end_sign spaced ∷ rest) at stand in
      let f = front_told plains frames braces keywords outer fronted state at place starts first
      (before_end sign.sort) in
      let e = ends_are_told spaced plains mode frames f.end place (place + 1) outer f.within (sign, refl) in
      let calm = passed_calm e.passed (begun_calm f.passed starts.start f.within.no_start) in
      let r = statements_told more frames e.end (place + 1) to outer e.starts
      (record { first = λ c. calm; last = rest_behind plains to front (end_sign spaced) rest refl loud.last }) others in
      run_told r.end (follow (runs (reads f)) (follow (start_runs e) (r.lexemes, r.run))) r.starts
  statements_told (statement_block {mode} {front} {inner} {rest} spaced blank fronted custom inside more) frames state
      at to outer starts loud stand =
      let (place, first, others) = split plains to front (open_sign spaced ∷ (inner ++ close_sign blank ∷ rest)) at
      stand in
      let f = headed_told plains frames braces keywords outer fronted state at place starts first others.0.sort in
      block_told spaced blank (statements_told inside) (statements_told more) outer starts f
      (no_and (is_custom mode) (nat_lt 0 (length_at plains place)) custom)
      (block_behind plains to front spaced inner blank rest loud.last) others
  statements_told (statement_rule {text} {inner} {rest} spaced blank raw is inside more) frames state at to outer
      starts loud stand =
      let (place, first, others) = split plains to text (open_sign spaced ∷ (inner ++ close_sign blank ∷ rest)) at
      stand in
      let f = selector_told text spaced is raw plains frames state at place braces outer starts first
      (together plains place (place + 1) text (open_sign spaced ∷ []) at first (others.0, refl)) in
      block_told spaced blank (statements_told inside) (statements_told more) outer starts f refl
      (block_behind plains to text spaced inner blank rest loud.last) others
  statements_told (statement_comment {comment} {rest} begun more) frames state at to outer starts loud stand =
      let (place, first, second) = split plains to comment rest at stand in
      let behind : IsElselessBehind plains to true rest = λ e. loud.last
      (ends_over comment false rest ∙ ap (λ (b : Bool). ends_comment b rest) (comment_ends begun false) ∙ e) in
      let c = comment_told begun plains frames state at place starts (loud.first (comment_there begun plains at place first))
      (ap (λ (k : ℕ). is_else (sort_at plains k)) (comment_over begun plains at place first)
      ∙ elseless more refl plains place to second behind) first in
      let r = statements_told more frames c.end place to outer c.starts
      (record { first = λ h. c.calm; last = λ e. behind (true_behind rest e) }) second in
      run_told r.end (follow c.reads (r.lexemes, r.run)) r.starts

pub statements_are_told : StatementsAreTold
statements_are_told first tokens listed plains frames state at to braces keywords outer starts loud stand =
    statements_told plains braces keywords listed frames state at to outer starts loud stand
