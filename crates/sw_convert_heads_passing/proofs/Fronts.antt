-- No statement but a comment begins with a token of one.
use Rattle.std.proofs.Common.{◌≡◌, Bool, true, false, List, [], ◌∷◌, ◌++◌, refl}
use Rattle.sw_parse_lexemes.specs.declared.sort.Sort.{Sort}
use Rattle.sw_parse_lexemes.specs.declared.sort.Sort.TheVariants as sorts
use Rattle.sw_parse_lexemes.specs.declared.state.Mode.{Mode}
use Rattle.sw_parse_lexemes.specs.Classes.{is_name, is_else}
use Rattle.sw_convert_passing.specs.Written.{Written}
use Rattle.sw_convert_passing.specs.Heads.{is_property, takes_value, Head, variable_head, property_head, at_rule_head}
use Rattle.sw_convert_heads_passing.specs.Heads.{takes_text, is_keyword, TextHead, text_head, named_head, keyword_head, inserted_head, minus_head}
use Rattle.sw_convert_heads_passing.specs.Properties.{PropertyHead, named_property, begun_property, minus_property, CustomHead, custom_head}
use Rattle.sw_convert_heads_passing.specs.Loads.{LoadHead, use_head, forward_head}
use Rattle.sw_convert_heads_passing.specs.Media.{is_code}
use Rattle.sw_convert_passing.specs.Values.{Settles, settled_end, settled_same, settled_dollar, settled_named}
use Rattle.sw_convert_heads_passing.specs.Members.{MemberHead, function_head, mixin_head, lone_mixin_head, include_head, content_head, settled_head}
use Rattle.sw_convert_heads_passing.specs.Flow.{FlowHead, each_head, for_head, else_if_head, assigned_head, LoneHead, else_head, charset_head}
use Rattle.sw_convert_heads_passing.specs.Rules.{begins_other, is_rule}
use Rattle.sw_convert_heads_passing.specs.Statements.{begins_rule, begins_else, Front, valued, flagged, assigned, declared, unvalued, flowing, bounded, named, texted, texted_apart, ruled, customised, loading, querying, belonging, alone, Headed, plainly, seamed}
use Rattle.sw_convert_heads_passing.proofs.Selectors.{first_is}

-- the first token is of no comment
abbrev pub begins_code : List Written → Bool
begins_code [] = false
begins_code (token ∷ tokens) = is_code token.sort

code_by : (test : Sort → Bool) → test sorts.Comment ≡ false → test sorts.CommentTemplate ≡ false
    → test sorts.CommentEnd ≡ false → (sort : Sort) → test sort ≡ true → is_code sort ≡ true
code_by test a b c sorts.Comment t = absurd (cc)
code_by test a b c sorts.CommentTemplate t = absurd (cc)
code_by test a b c sorts.CommentEnd t = absurd (cc)
code_by test a b c _ t = refl

pub code_before : (left right : List Written) → begins_code left ≡ true → begins_code (left ++ right) ≡ true
code_before [] right b = absurd (cc)
code_before (token ∷ left) right b = b

value_head : {mode : Mode} {tokens : List Written} → Head mode tokens → begins_code tokens ≡ true
value_head (variable_head _ n) = refl
value_head (property_head sort n) = code_by is_property refl refl refl sort n
value_head (at_rule_head sort t) = code_by takes_value refl refl refl sort t

property : {tokens : List Written} → PropertyHead tokens → begins_code tokens ≡ true
property (named_property sort n d b parts) = code_by is_name refl refl refl sort n
property (begun_property inside parts) = refl
property (minus_property inside parts) = refl

custom : {tokens : List Written} → CustomHead tokens → begins_code tokens ≡ true
custom (custom_head parts) = refl

flow : {mode : Mode} {tokens : List Written} → FlowHead mode tokens → begins_code tokens ≡ true
flow (each_head _ names) = refl
flow (for_head _ _ n) = refl
flow else_if_head = refl
flow (assigned_head owner _ o d n) = code_by is_name refl refl refl owner o

texts : {tokens : List Written} → TextHead tokens → begins_code tokens ≡ true
texts (text_head sort t) = code_by takes_text refl refl refl sort t
texts (named_head parts) = refl
texts (keyword_head sort k inside parts) = code_by is_keyword refl refl refl sort k
texts (inserted_head inside parts) = refl
texts (minus_head inside parts) = refl

load : {mode : Mode} {tokens : List Written} → LoadHead mode tokens → begins_code tokens ≡ true
load (use_head _ _ _ _) = refl
load (forward_head _ _ _ _ _) = refl

settles : {loose exact : List Written} → Settles loose exact → begins_code loose ≡ true → begins_code exact ≡ true
settles settled_end b = b
settles (settled_same token s) b = b
settles (settled_dollar next n s) b = refl
settles (settled_named next n s) b = refl

member : {mode : Mode} {tokens : List Written} → MemberHead mode tokens → begins_code tokens ≡ true
member (function_head _ n _) = refl
member (mixin_head _ n _) = refl
member (lone_mixin_head _ n) = refl
member (include_head _ _ _) = refl
member (content_head _) = refl
member (settled_head head s) = settles s (member head)

lone : {mode : Mode} {tokens : List Written} → LoneHead mode tokens → begins_code tokens ≡ true
lone else_head = refl
lone (charset_head sort s) = refl

pub front_code : {mode : Mode} {tokens : List Written} → Front mode tokens → begins_code tokens ≡ true
front_code (valued {head = head} {row = row} begun values) = code_before head row (value_head begun)
front_code (flagged {head = head} begun values marked) = code_before head _ (value_head begun)
front_code (declared {head = head} {row = row} begun values) = code_before head row (property begun)
front_code (assigned {head = head} begun values marked) = code_before head _ (flow begun)
front_code (unvalued begun) = property begun
front_code (named begun) = texts begun
front_code (flowing {head = head} {row = row} begun values) = code_before head row (flow begun)
front_code (bounded {head = head} begun low gap sort b high) = code_before head _ (flow begun)
front_code (texted {head = head} begun one spaced text) = code_before head _ (texts begun)
front_code (texted_apart {head = head} begun one spaced text) = code_before head _ (texts begun)
front_code (ruled one b text) = code_by begins_rule refl refl refl one.sort b
front_code (customised {head = head} {text = text} begun inside) = code_before head text (custom begun)
front_code (loading read) = load read
front_code (querying asked) = refl
front_code (belonging read) = member read
front_code (alone read) = lone read

pub headed_code : {mode : Mode} {tokens : List Written} → Headed mode tokens → begins_code tokens ≡ true
headed_code (plainly fronted) = front_code fronted
headed_code (seamed {front = front} fronted) = code_before front _ (front_code fronted)

-- nor does a rule, nor with `@else`
other_code : (sort : Sort) → begins_other sort ≡ false → is_code sort ≡ true
other_code sorts.Comment b = absurd (cc)
other_code sorts.CommentTemplate b = absurd (cc)
other_code sorts.CommentEnd b = absurd (cc)
other_code _ b = refl

other_else : (sort : Sort) → begins_other sort ≡ false → is_else sort ≡ false
other_else sorts.AtElse b = absurd (cc)
other_else sorts.AtElseIf b = absurd (cc)
other_else _ b = refl

pub rule_code : (tokens : List Written) → is_rule tokens ≡ true → begins_code tokens ≡ true
rule_code [] r = absurd (cc)
rule_code (first ∷ []) r = absurd (cc)
rule_code (first ∷ next ∷ rest) r = other_code first.sort (first_is first.sort first next rest r)

pub rule_else : (tokens : List Written) → is_rule tokens ≡ true → begins_else tokens ≡ false
rule_else [] r = absurd (cc)
rule_else (first ∷ []) r = absurd (cc)
rule_else (first ∷ next ∷ rest) r = other_else first.sort (first_is first.sort first next rest r)
