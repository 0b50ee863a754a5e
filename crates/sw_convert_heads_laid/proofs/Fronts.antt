-- The walk comes back from each statement up to its end or its block, where nothing is open, and sees how it begins.
use Rattle.std.proofs.Common.{◌≡◌, Bool, true, false, not, ◌&&◌, List, [], ◌∷◌, ◌++◌, refl}
use Rattle.sw_parse_lexemes.specs.declared.sort.Sort.{Sort}
use Rattle.sw_parse_lexemes.specs.declared.sort.Sort.TheVariants as sorts
use Rattle.sw_parse_lexemes.specs.declared.state.Mode.{Mode}
use Rattle.sw_parse_lexemes.specs.Brackets.{is_custom}
use Rattle.sw_parse_lexemes.specs.Classes.{is_name}
use Rattle.sw_convert_passing.specs.Written.{Written}
use Rattle.sw_convert_passing.specs.Heads.{Head, variable_head, property_head, at_rule_head, is_property, takes_value}
use Rattle.sw_convert_heads_passing.specs.Heads.{TextHead, text_head, named_head, keyword_head, inserted_head, minus_head, takes_text, is_keyword}
use Rattle.sw_convert_heads_passing.specs.Properties.{PropertyHead, named_property, begun_property, minus_property, CustomHead, custom_head}
use Rattle.sw_convert_heads_passing.specs.Loads.{LoadHead, use_head, forward_head}
use Rattle.sw_convert_heads_passing.specs.Members.{MemberHead, function_head, mixin_head, lone_mixin_head, include_head, content_head, settled_head}
use Rattle.sw_convert_passing.specs.Values.{Settles, settled_end, settled_same, settled_dollar, settled_named}
use Rattle.sw_convert_heads_passing.specs.Flow.{FlowHead, each_head, for_head, else_if_head, assigned_head, LoneHead, else_head, charset_head}
use Rattle.sw_convert_heads_passing.specs.RawTexts.{Outside}
use Rattle.sw_convert_heads_passing.specs.Statements.{FlagsBehind, directly, behind_seam, Front, valued, flagged, assigned, declared, unvalued, flowing, bounded, named, texted, texted_apart, ruled, customised, loading, querying, belonging, alone, begins_rule}
use Rattle.sw_convert_heads_laid.specs.Marks.{sort_mark, is_noted, is_member_sort}
use Rattle.sw_convert_heads_laid.proofs.Walk.{Level, Free, freely, still, past_seam, join}
use Rattle.sw_convert_heads_laid.proofs.Values.{rows, all_flags}
use Rattle.sw_convert_heads_laid.proofs.Texts.{Within, raw_text}
use Rattle.sw_convert_heads_laid.proofs.Heads.{head, text_heads, property_heads, custom_heads, load_heads, member_heads, flow_heads, lone_heads, parted_goes, bound_plain}
use Rattle.sw_convert_heads_laid.proofs.Media.{queries}

-- where nothing is open
abbrev pub Outer : Bool → List Written → Type 0
Outer custom tokens = Level custom (Within custom Outside) tokens

flags_behind : (custom : Bool) {tokens : List Written} → FlagsBehind tokens → Free custom tokens
flags_behind custom (directly f) = all_flags custom f
flags_behind custom (behind_seam {flags = flags} f) = past_seam custom flags (all_flags custom f)

pub front_goes : {mode : Mode} {tokens : List Written} → Front mode tokens → Outer (is_custom mode) tokens
front_goes {mode} (valued {head = left} {row = right} h r) =
    freely (is_custom mode) (join (is_custom mode) left right (head (is_custom mode) h) (rows (is_custom mode) r))
front_goes (flagged {head = left} {row = row} {flags = flags} h r f) =
    freely false (join false left _ (head false h) (join false row flags (rows false r) (flags_behind false f)))
front_goes (assigned {head = left} {row = row} {flags = flags} h r f) =
    freely false (join false left _ (flow_heads false h) (join false row flags (rows false r) (flags_behind false f)))
front_goes (declared {head = left} {row = right} h r) =
    freely false (join false left right (property_heads false h) (rows false r))
front_goes (unvalued h) = freely false (property_heads false h)
front_goes {mode} (flowing {head = left} {row = right} h r) =
    freely (is_custom mode) (join (is_custom mode) left right (flow_heads (is_custom mode) h) (rows (is_custom mode) r))
front_goes (bounded {head = left} {from = from} {to = to} h low gap sort b high) =
    freely false (join false left _ (flow_heads false h) (join false from _ (rows false low)
    (parted_goes false gap (still false _ to (bound_plain false sort b) (rows false high)))))
front_goes (named h) = freely false (text_heads false h)
front_goes (texted {head = left} {rest = rest} h one s text) =
    join false left (one ∷ rest) (freely false (text_heads false h)) (raw_text text)
front_goes (texted_apart {head = left} {rest = rest} h one s text) =
    join false left _ (freely false (text_heads false h)) (past_seam false (one ∷ rest) (raw_text text))
front_goes (ruled one b text) = raw_text text
front_goes (customised {head = left} {text = right} h text) =
    join true left right (freely true (custom_heads true h)) (raw_text text)
front_goes {mode} (loading h) = freely (is_custom mode) (load_heads (is_custom mode) h)
front_goes (querying q) = freely false (still false _ _ refl (queries false q))
front_goes {mode} (belonging h) = freely (is_custom mode) (member_heads (is_custom mode) h)
front_goes {mode} (alone h) = freely (is_custom mode) (lone_heads (is_custom mode) h)

-- the first token
abbrev pub may_begin : Sort → Bool
may_begin sort = not (is_noted (sort_mark sort)) && not (is_member_sort sort)

abbrev pub begins_well : List Written → Bool
begins_well [] = false
begins_well (one ∷ rest) = may_begin one.sort

begin_by : (test : Sort → Bool) → test sorts.Comment ≡ false → test sorts.CommentTemplate ≡ false
    → test sorts.Equals ≡ false → test sorts.Plus ≡ false → (sort : Sort) → test sort ≡ true → may_begin sort ≡ true
begin_by test a b c d sorts.Comment t = absurd (cc)
begin_by test a b c d sorts.CommentTemplate t = absurd (cc)
begin_by test a b c d sorts.Equals t = absurd (cc)
begin_by test a b c d sorts.Plus t = absurd (cc)
begin_by test a b c d _ t = refl

further : (left right : List Written) → begins_well left ≡ true → begins_well (left ++ right) ≡ true
further [] right e = absurd (cc)
further (one ∷ left) right e = e

head_begins : {mode : Mode} {tokens : List Written} → Head mode tokens → begins_well tokens ≡ true
head_begins (variable_head word n) = refl
head_begins (property_head word n) = begin_by is_property refl refl refl refl word n
head_begins (at_rule_head sort t) = begin_by takes_value refl refl refl refl sort t

flow_begins : {mode : Mode} {tokens : List Written} → FlowHead mode tokens → begins_well tokens ≡ true
flow_begins (each_head gap by) = refl
flow_begins (for_head gap word n) = refl
flow_begins else_if_head = refl
flow_begins (assigned_head owner word o d n) = begin_by is_name refl refl refl refl owner o

property_begins : {tokens : List Written} → PropertyHead tokens → begins_well tokens ≡ true
property_begins (named_property sort n d r by) = begin_by is_name refl refl refl refl sort n
property_begins (begun_property inside by) = refl
property_begins (minus_property inside by) = refl

text_begins : {tokens : List Written} → TextHead tokens → begins_well tokens ≡ true
text_begins (text_head sort t) = begin_by takes_text refl refl refl refl sort t
text_begins (named_head by) = refl
text_begins (keyword_head sort k inside by) = begin_by is_keyword refl refl refl refl sort k
text_begins (inserted_head inside by) = refl
text_begins (minus_head inside by) = refl

settled_begins : {loose exact : List Written} → Settles loose exact → begins_well loose ≡ true → begins_well exact ≡ true
settled_begins settled_end e = e
settled_begins (settled_same token more) e = e
settled_begins (settled_dollar word off more) e = refl
settled_begins (settled_named word is more) e = refl

member_begins : {mode : Mode} {tokens : List Written} → MemberHead mode tokens → begins_well tokens ≡ true
member_begins (function_head word n by) = refl
member_begins (mixin_head word n by) = refl
member_begins (lone_mixin_head word n) = refl
member_begins (include_head by some using) = refl
member_begins (content_head some) = refl
member_begins (settled_head loose s) = settled_begins s (member_begins loose)

load_begins : {mode : Mode} {tokens : List Written} → LoadHead mode tokens → begins_well tokens ≡ true
load_begins (use_head url u by with_it) = refl
load_begins (forward_head url u by members with_it) = refl

custom_begins : {tokens : List Written} → CustomHead tokens → begins_well tokens ≡ true
custom_begins (custom_head by) = refl

lone_begins : {mode : Mode} {tokens : List Written} → LoneHead mode tokens → begins_well tokens ≡ true
lone_begins else_head = refl
lone_begins (charset_head sort s) = refl

pub front_begins : {mode : Mode} {tokens : List Written} → Front mode tokens → begins_well tokens ≡ true
front_begins (valued {head = left} h r) = further left _ (head_begins h)
front_begins (flagged {head = left} h r f) = further left _ (head_begins h)
front_begins (assigned {head = left} h r f) = further left _ (flow_begins h)
front_begins (declared {head = left} h r) = further left _ (property_begins h)
front_begins (unvalued h) = property_begins h
front_begins (flowing {head = left} h r) = further left _ (flow_begins h)
front_begins (bounded {head = left} h low gap sort b high) = further left _ (flow_begins h)
front_begins (named h) = text_begins h
front_begins (texted {head = left} h one s text) = further left _ (text_begins h)
front_begins (texted_apart {head = left} h one s text) = further left _ (text_begins h)
front_begins (ruled one b text) = begin_by begins_rule refl refl refl refl one.sort b
front_begins (customised {head = left} h text) = further left _ (custom_begins h)
front_begins (loading h) = load_begins h
front_begins (querying q) = refl
front_begins (belonging h) = member_begins h
front_begins (alone h) = lone_begins h
