-- No fault of these functions is moved to an argument.
use Rattle.std.specs.Prelude.{codes, bytes_eq}
use Rattle.std.proofs.Common.{◌≡◌, refl, ℕ, Bool, true, false, not, List, [], ◌∷◌, Option, Some, None, Result, Ok, Err, if◌then◌else◌, subst}
use Rattle.sw_text.specs.declared.place.Span.{Span}
use Rattle.sw_tree.specs.declared.expr.Argument.{Argument as Given}
use Rattle.sw_units.specs.declared.number.Number.{Number}
use Rattle.sw_units.specs.declared.number.Slash.{Slash, out-Slash}
use Rattle.sw_units.specs.declared.number.Slash.TheOpen.{Slash-F}
use Rattle.sw_ops.specs.declared.fault.OpFault.TheVariants as O
use Rattle.sw_ops.specs.Sides.{number_in, is_zero, plain_by, plain_number, held, plain_in}
use Rattle.sw_values.specs.declared.plain.Plain.{Plain}
use Rattle.sw_values.specs.declared.plain.Separator.{Separator}
use Rattle.sw_values.specs.declared.plain.Separator.TheVariants as S
use Rattle.sw_values.specs.declared.value.Node.{Node}
use Rattle.sw_values.specs.declared.value.Node.TheVariants as N
use Rattle.sw_values.specs.Maps.{with_value}
use Rattle.sw_values.specs.Shape.{node_of}
use Rattle.sw_values.specs.Weight.{is_within}
use Rattle.sw_fn_call.specs.declared.fault.FnFault.{FnFault}
use Rattle.sw_fn_call.specs.declared.fault.FnFault.TheVariants as F
use Rattle.sw_fn_call.specs.Answers.{Answer as FnAnswer, with as fn_with, within}
use Rattle.sw_fn_call.specs.Arguments.{Argument, two, three, unnamed, rest_by, rest}
use Rattle.sw_fn_call.specs.Kinds.{text_by, text_of}
use Rattle.sw_fn_list.specs.declared.function.Function.TheVariants as L
use Rattle.sw_fn_list.specs.Calls.{answer as list_answer}
use Rattle.sw_fn_list.specs.Joining.{append, appended}
use Rattle.sw_fn_list.specs.Separators.{separator_named, separator_chosen}
use Rattle.sw_fn_map.specs.declared.function.Function.TheVariants as M
use Rattle.sw_fn_map.specs.Calls.{answer as map_answer}
use Rattle.sw_fn_map.specs.Pairs.{Pair, no_items, pairs_by, pairs_of, map_value}
use Rattle.sw_fn_map.specs.Changes.{Parted, rebuilt, steps_of, parted, set_at, set_by, set, innermost, merged, merged_at, merge_by, merge}
use Rattle.sw_builtins.specs.declared.built_in.BuiltIn.{BuiltIn}
use Rattle.sw_builtins.specs.declared.built_in.BuiltIn.TheVariants as B
use Rattle.sw_builtins.specs.Calls.{answer}
use Rattle.sw_eval_literals.specs.Answers.{Answer, Returns, refused, with, of_op}
use Rattle.sw_eval_literals.specs.Quotients.{plain_at}
use Rattle.sw_eval_calls.specs.Placing.{all_passed, is_not_css, at_argument}
use Rattle.sw_eval_built_in_calls.specs.BuiltIns.{code_of, of_fn, built_in_arguments, built_in_value, built_in_call}
use Rattle.sw_eval_calls.proofs.Answering.{refused_then}
use Rattle.sw_eval_literals.specs.declared.refused.Refused.{Refused}
use Rattle.sw_scope.specs.declared.passed.Passed.{Passed}
use Rattle.sw_scope.specs.Passed.{none_passed}
use Rattle.sw_eval_growing.specs.Growth.{grows}

abbrev is_other : FnFault → Bool
is_other F.NotCss = false
is_other _ = true

-- what is no fault of what can't be written
abbrev is_placed : {A : Type 0} → Result A FnFault → Bool
is_placed (Ok value) = true
is_placed (Err fault) = is_other fault

with_placed : {A B : Type 0} (answer : Result A FnFault) (next : A → Result B FnFault) → is_placed answer ≡ true
    → ((value : A) → is_placed (next value) ≡ true) → is_placed (fn_with answer next) ≡ true
with_placed (Ok value) next h k = k value
with_placed (Err fault) next h k = h

two_placed : (args : List Argument) → is_placed (two args) ≡ true
unfolding two
two_placed [] = refl
two_placed (a ∷ []) = refl
two_placed (a ∷ b ∷ []) = refl
two_placed (a ∷ b ∷ c ∷ args) = refl

three_placed : (args : List Argument) → is_placed (three args) ≡ true
unfolding three
three_placed [] = refl
three_placed (a ∷ []) = refl
three_placed (a ∷ b ∷ []) = refl
three_placed (a ∷ b ∷ c ∷ []) = refl
three_placed (a ∷ b ∷ c ∷ d ∷ args) = refl

unnamed_placed : (items : List Plain) (named : List Argument) → is_placed (unnamed items named) ≡ true
unnamed_placed items [] = refl
unnamed_placed items (n ∷ named) = refl

rest_by_placed : (node : Node) → is_placed (rest_by node) ≡ true
rest_by_placed (N.Number _) = refl
rest_by_placed (N.Text _ _) = refl
rest_by_placed (N.Colour _) = refl
rest_by_placed (N.List _ _ _) = refl
rest_by_placed (N.Map _) = refl
rest_by_placed (N.Bool _) = refl
rest_by_placed N.Null = refl
rest_by_placed (N.Args items named) = unnamed_placed items named

rest_placed : (value : Plain) → is_placed (rest value) ≡ true
unfolding rest
rest_placed value = rest_by_placed (node_of value)

none_placed : (items : List Plain) → is_placed (no_items items) ≡ true
none_placed [] = refl
none_placed (item ∷ items) = refl

pairs_by_placed : (node : Node) → is_placed (pairs_by node) ≡ true
pairs_by_placed (N.Number _) = refl
pairs_by_placed (N.Text _ _) = refl
pairs_by_placed (N.Colour _) = refl
pairs_by_placed (N.List items _ _) = none_placed items
pairs_by_placed (N.Map _) = refl
pairs_by_placed (N.Bool _) = refl
pairs_by_placed N.Null = refl
pairs_by_placed (N.Args items _) = none_placed items

pairs_placed : (value : Plain) → is_placed (pairs_of value) ≡ true
unfolding pairs_of
pairs_placed value = pairs_by_placed (node_of value)

chosen_placed : {A : Type 0} (test : Bool) (one other : Result A FnFault) → is_placed one ≡ true → is_placed other ≡ true
    → is_placed (if test then one else other) ≡ true
chosen_placed true one other h k = h
chosen_placed false one other h k = k

within_placed : (value : Plain) → is_placed (within value) ≡ true
within_placed value = chosen_placed (is_within value) _ _ refl refl

-- ---- append

abbrev named_by : Bool → Bool → Bool → Bool → Result (Option Separator) FnFault
named_by auto space comma slash =
    if auto then Ok None
    else if space then Ok (Some S.Space)
    else if comma then Ok (Some S.Comma)
    else if slash then Ok (Some S.Slash)
    else Err F.ArgumentFault

by_placed : (auto space comma slash : Bool) → is_placed (named_by auto space comma slash) ≡ true
by_placed true space comma slash = refl
by_placed false true comma slash = refl
by_placed false false true slash = refl
by_placed false false false true = refl
by_placed false false false false = refl

named_placed : (name : List ℕ) → is_placed (separator_named name) ≡ true
named_placed name =
    by_placed (bytes_eq name (codes "auto")) (bytes_eq name (codes "space")) (bytes_eq name (codes "comma"))
    (bytes_eq name (codes "slash"))

text_by_placed : (node : Node) → is_placed (text_by node) ≡ true
text_by_placed (N.Number _) = refl
text_by_placed (N.Text _ _) = refl
text_by_placed (N.Colour _) = refl
text_by_placed (N.List _ _ _) = refl
text_by_placed (N.Map _) = refl
text_by_placed (N.Bool _) = refl
text_by_placed N.Null = refl
text_by_placed (N.Args _ _) = refl

text_placed : (value : Plain) → is_placed (text_of value) ≡ true
unfolding text_of
text_placed value = text_by_placed (node_of value)

separator_placed : (value : Plain) → is_placed (separator_chosen value) ≡ true
separator_placed value = with_placed (text_of value) separator_named (text_placed value) named_placed

append_placed : (args : List Argument) → is_placed (append args) ≡ true
append_placed args =
    with_placed (three args) _ (three_placed args)
    (λ values. with_placed (separator_chosen values.2) (appended values.0 values.1) (separator_placed values.2)
    (λ separator. within_placed _))

-- ---- set

rebuilt_placed : (steps : List (List Pair × Plain)) (value : Plain) → is_placed (rebuilt steps value) ≡ true
rebuilt_placed [] value = refl
rebuilt_placed (step ∷ steps) value =
    with_placed (rebuilt steps value) (λ inner. map_value (with_value step.0 step.1 inner)) (rebuilt_placed steps value)
    (λ inner. within_placed _)

set_at_placed : (pairs : List Pair) (keys : List Plain) (value : Plain) → is_placed (set_at pairs keys value) ≡ true
set_at_placed pairs [] value = refl
set_at_placed pairs (key ∷ keys) value = rebuilt_placed (steps_of pairs (key ∷ keys)) value

set_by_placed : (pairs : List Pair) (parts : Option Parted) → is_placed (set_by pairs parts) ≡ true
set_by_placed pairs None = refl
set_by_placed pairs (Some parts) = set_at_placed pairs parts.before parts.last

set_placed : (args : List Argument) → is_placed (set args) ≡ true
set_placed args =
    with_placed (two args) _ (two_placed args)
    (λ values. with_placed (rest values.1) _ (rest_placed values.1)
    (λ given. with_placed (pairs_of values.0) (λ pairs. set_by pairs (parted given)) (pairs_placed values.0)
    (λ pairs. set_by_placed pairs (parted given))))

-- ---- merge

merged_at_placed : (pairs : List Pair) (keys : List Plain) (other : List Pair)
    → is_placed (merged_at pairs keys other) ≡ true
merged_at_placed pairs keys other =
    with_placed (map_value (merged (innermost pairs keys) other)) (rebuilt (steps_of pairs keys)) (within_placed _)
    (λ inner. rebuilt_placed (steps_of pairs keys) inner)

merge_by_placed : (pairs : List Pair) (parts : Option Parted) → is_placed (merge_by pairs parts) ≡ true
merge_by_placed pairs None = refl
merge_by_placed pairs (Some parts) =
    with_placed (pairs_of parts.last) (merged_at pairs parts.before) (pairs_placed parts.last)
    (merged_at_placed pairs parts.before)

merge_placed : (args : List Argument) → is_placed (merge args) ≡ true
merge_placed args =
    with_placed (two args) _ (two_placed args)
    (λ values. with_placed (rest values.1) _ (rest_placed values.1)
    (λ given. with_placed (pairs_of values.0) (λ pairs. merge_by pairs (parted given)) (pairs_placed values.0)
    (λ pairs. merge_by_placed pairs (parted given))))

-- ---- calls

answer_placed : (function : BuiltIn) (args : List Argument) → grows function ≡ true → is_placed (answer function args) ≡ true
unfolding answer list_answer map_answer
answer_placed (B.List L.Append) args h = append_placed args
answer_placed (B.List L.Length) args h = cc
answer_placed (B.List L.Nth) args h = cc
answer_placed (B.List L.SetNth) args h = cc
answer_placed (B.List L.Index) args h = cc
answer_placed (B.List L.Zip) args h = cc
answer_placed (B.List L.Join) args h = cc
answer_placed (B.List L.IsBracketed) args h = cc
answer_placed (B.List L.Separator) args h = cc
answer_placed (B.List L.Slash) args h = cc
answer_placed (B.Map M.Set) args h = set_placed args
answer_placed (B.Map M.Get) args h = cc
answer_placed (B.Map M.HasKey) args h = cc
answer_placed (B.Map M.Keys) args h = cc
answer_placed (B.Map M.Values) args h = cc
answer_placed (B.Map M.Merge) args h = merge_placed args
answer_placed (B.Map M.Remove) args h = cc
answer_placed (B.Map M.DeepMerge) args h = cc
answer_placed (B.Map M.DeepRemove) args h = cc
answer_placed (B.Math _) args h = cc
answer_placed (B.Text _) args h = cc
answer_placed (B.Colour _) args h = cc
answer_placed (B.Css _) args h = cc
answer_placed (B.Meta _) args h = cc
answer_placed (B.Asked _) args h = cc
answer_placed B.If args h = cc
answer_placed (B.Variable _) args h = cc

-- ---- places

abbrev stays : Answer Plain → Bool
stays (Ok value) = true
stays (Err fault) = not (is_not_css fault.code)

zero_stays : (span : Span) (number : Number) (test : Bool)
    → stays (of_op span (held (if test then Err O.DivideByZero else Ok number))) ≡ true
zero_stays span number true = refl
zero_stays span number false = refl

sides_stay : (span : Span) (number : Number) (slash : Slash-F Slash Number) → stays (of_op span (held (plain_by number slash))) ≡ true
sides_stay span number Slash-F.Plain = refl
sides_stay span number (Slash-F.Sides sides) = zero_stays span _ (is_zero sides.1.value)

in_stays : (span : Span) (value : Plain) (number : Option Number) → stays (of_op span (plain_in value number)) ≡ true
unfolding plain_number
in_stays span value None = refl
in_stays span value (Some number) = sides_stay span number (out-Slash number.slash)

plain_stays : (span : Span) (value : Plain) → stays (plain_at value span) ≡ true
unfolding plain_at
plain_stays span value = in_stays span value (number_in value)

fault_stays : (span : Span) (fault : FnFault) → is_other fault ≡ true → stays (refused {A = Plain} (code_of fault) span) ≡ true
fault_stays span F.ArgumentFault h = refl
fault_stays span F.TypeFault h = refl
fault_stays span F.UnitFault h = refl
fault_stays span F.DivideByZero h = refl
fault_stays span F.NumberRange h = refl
fault_stays span F.NotCss h = cc
fault_stays span F.TooLarge h = refl
fault_stays span F.Index h = refl
fault_stays span F.Memory h = refl

call_stays : (span : Span) (answer : FnAnswer) → is_placed answer ≡ true
    → stays (with (of_fn span answer) (λ v. plain_at v span)) ≡ true
call_stays span (Ok value) h = plain_stays span value
call_stays span (Err fault) h = fault_stays span fault h

not_chosen : {A : Type 0} (test : Bool) (one other : A) → not test ≡ true → other ≡ (if test then one else other)
not_chosen true one other h = cc
not_chosen false one other h = refl

stays_there : (args : List Given) (values : List Plain) (answer : Answer Plain) → stays answer ≡ true
    → answer ≡ at_argument false args values answer
stays_there args values (Ok value) h = refl
stays_there args values (Err fault) h = not_chosen (is_not_css fault.code) _ _ h

-- what the function answers is what its call answers
pub grown_there : (function : BuiltIn) (args : List Given) (values : List Plain) (filled : List Argument) (span : Span)
    → grows function ≡ true
    → with (of_fn span (answer function filled)) (λ v. plain_at v span)
    ≡ at_argument false args values (with (of_fn span (answer function filled)) (λ v. plain_at v span))
grown_there function args values filled span h =
    stays_there args values _ (call_stays span (answer function filled) (answer_placed function filled h))

-- where nothing fills the parameters
pub refused_there : (function : BuiltIn) (passed : Passed) (span : Span) (e : Refused)
    → Returns {A = List Argument} (Err e) (built_in_arguments function passed span)
    → Returns {A = Plain} (Err e) (built_in_value function passed span)
unfolding built_in_value
refused_there function passed span e h =
    refused_then (built_in_arguments function passed span)
    (λ vs. with (of_fn span (answer function vs)) (λ v. plain_at v span)) e (Err e) h (refl, refl)

pub grown_answer : (function : BuiltIn) (args : List Given) (values : List Plain) (filled : List Argument) (span : Span)
    (result : Result Plain Refused) → grows function ≡ true
    → Returns {A = List Argument} (Ok filled) (built_in_arguments function (all_passed none_passed args values) span)
    → Returns result (with (of_fn span (answer function filled)) (λ v. plain_at v span))
    → Returns result (built_in_call function args values span)
unfolding built_in_call built_in_value
grown_answer function args values filled span result h is gave =
    rw is (subst (λ (a : Answer Plain). Returns result a) (grown_there function args values filled span h) gave)

pub grown_refused : (function : BuiltIn) (args : List Given) (values : List Plain) (span : Span)
    (result : Result Plain Refused)
    → Returns result (at_argument false args values (built_in_value function (all_passed none_passed args values) span))
    → Returns result (built_in_call function args values span)
unfolding built_in_call
grown_refused function args values span result h = h
