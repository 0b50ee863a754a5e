-- Calls: a name, and arguments in brackets behind it.
use Rattle.std.proofs.Common.{◌≡◌, ℕ, suc, Bool, true, false, not, ◌&&◌, ◌||◌, List, [], ◌∷◌, ◌++◌, length, map, Option, if◌then◌else◌, refl, sym, ◌∙◌, ap, subst, append_assoc, lit<}
use Rattle.std.specs.Prelude.{◌==◌, codes}
use Rattle.sw_text_scan.specs.Bytes.{sign, byte, is_digit}
use Rattle.sw_text_scan.proofs.Bounds.{and_left, and_right}
use Rattle.sw_text_locality.proofs.Written.{byte_before}
use Rattle.sw_tokens.specs.declared.pieces.Before.{Before}
use Rattle.sw_tokens.specs.declared.pieces.Before.TheVariants as befores
use Rattle.sw_tokens.specs.declared.token.TokenKind.{TokenKind}
use Rattle.sw_tokens.specs.declared.token.TokenKind.TheVariants as kinds
use Rattle.sw_tokens.specs.Tokens.{is_spaced}
use Rattle.sw_parse_terminals.specs.declared.terminal.Terminal.{Terminal}
use Rattle.sw_parse_terminals.specs.declared.terminal.Terminal.TheVariants as terminals
use Rattle.sw_parse_terminals.specs.Numbers.{just}
use Rattle.sw_parse_lexemes.specs.declared.sort.Sort.{Sort}
use Rattle.sw_parse_lexemes.specs.declared.sort.Sort.TheVariants as sorts
use Rattle.sw_parse_lexemes.specs.declared.state.Mode.{Mode}
use Rattle.sw_parse_lexemes.specs.Classes.{is_name, is_reserved}
use Rattle.sw_parse_lexemes.specs.Names.{is_special_name}
use Rattle.sw_parse_lexemes.specs.Sorts.{sort_of}
use Rattle.sw_parse_lexemes.specs.Words.{word_sort, is_prefixed_calc}
use Rattle.sw_parse_table.specs.declared.source.Source.{Source}
use Rattle.sw_parse_table.specs.Sources.{bytes_at, parts_between}
use Rattle.sw_convert_spelling.specs.Spelt.{behind_gap}
use Rattle.sw_convert_spelling.proofs.Choices as names
use Rattle.sw_text.specs.declared.place.Span.{Span}
use Rattle.sw_tree.specs.declared.expr.Argument.{Argument}
use Rattle.sw_tree.specs.declared.expr.ExprKind.TheVariants as exprs
use Rattle.sw_tree.specs.declared.expr.Namespaced.{Namespaced}
use Rattle.sw_tree.specs.declared.text.Parts.{Parts}
use Rattle.sw_parse_table.specs.Values.{expression, callee_of}
use Rattle.sw_convert_written.specs.declared.manner.Manner.TheVariants as manners
use Rattle.sw_convert_written.specs.Pieces.{pieces_text}
use Rattle.sw_convert_written.specs.Expressions.{is_url, ends_in_url, space_text, with_commas, call_text, parts_written, expr_text, of_argument, argument_text}
use Rattle.sw_convert_written.proofs.Unrolled as unrolled
use Rattle.sw_convert_passing.specs.Kinds.{ends_bound}
use Rattle.sw_convert_passing.specs.Written.{Written, written, direct}
use Rattle.sw_convert_passing.specs.Values.{Word, Call, call, owned_call, named, no_part}
use Rattle.sw_convert_again.specs.Tokens.{Tok, tok, Bytes, Old}
use Rattle.sw_convert_again.specs.Tokens as again
use Rattle.sw_convert_again.specs.Spells.{from_start, call_tokens}
use Rattle.sw_convert_again.proofs.Tokens.{one_byte}
use Rattle.sw_convert_tokens.specs.Joints.{Segment}
use Rattle.sw_convert_tokens.specs.Written.{is_calm, gap_of, is_bounded, Shape, AsValue, WrittenAs}
use Rattle.sw_convert_tokens.specs.Values.{WasRead}
use Rattle.sw_convert_tokens.specs.Calls.{is_unspecial}
use Rattle.sw_convert_tokens.proofs.Joins.{join, as_text, as_behind}
use Rattle.sw_convert_tokens.proofs.Signs.{Anything, Fits, lone_segment, sign_segment, sign_token}
use Rattle.sw_convert_tokens.proofs.Stops.{Behind, paren_behind, nothing_parts}
use Rattle.sw_convert_tokens.proofs.NamePieces.{name_in}
use Rattle.sw_convert_tokens.proofs.Names.{Start, name_start}
use Rattle.sw_convert_tokens.proofs.Olds.{OldToken, old_token}
use Rattle.sw_convert_tokens.proofs.OriginChoices.{fits}
use Rattle.sw_convert_tokens.proofs.Words.{kind_of_name, name_opens, parts_are, unbounded, only_word, said_is, copied_behind, copied_name, copied_bytes}
use Rattle.sw_convert_tokens.proofs.Arguments.{IsItems}
use Rattle.sw_convert_tokens.proofs.Variables.{only_owner, Begins, dot_parts}

-- ---- names of calls

-- the name of a call as it is to be told, where its `(` stands behind it
pub record IsCallee (shape : Shape) (text : List ℕ) (tokens : List Tok) (before : Before) (spaced : Bool) : Type 0 where
  pub passed : List Written
  pub segment : Segment before (gap_of spaced ++ text) tokens passed befores.Other (Begins (sign "("))
  pub told : (mode : Mode) → is_bounded mode ≡ false → shape mode (is_spaced (behind_gap before (gap_of spaced))) passed

abbrev pub CalleeAs : Shape → List ℕ → List Tok → Type 0
CalleeAs shape text tokens =
    (before : Before) (spaced : Bool) → is_calm (behind_gap before (gap_of spaced)) ≡ true
    → IsCallee shape text tokens before spaced

-- a word, behind a namespace or not
abbrev pub AsCallee : Bool → Shape
AsCallee owned mode spaced passed = Word mode spaced owned true passed

abbrev pub Callee : Bool → List ℕ → List Tok → Type 0
Callee owned text tokens = CalleeAs (AsCallee owned) text tokens

-- what a call with a name told so is to be told as, by itself and behind a namespace
abbrev pub Calling : Shape → Shape → Type 0
Calling callee shape =
    (mode : Mode) (spaced : Bool) (name args : List Written) → callee mode spaced name → Call args
    → shape mode spaced (name ++ args)

abbrev pub OwnedCalling : Shape → Shape → Type 0
OwnedCalling callee shape =
    (mode : Mode) (spaced : Bool) (owner : Sort) (name args : List Written) → is_name owner ≡ true
    → callee mode false name → Call args
    → shape mode spaced (written owner spaced terminals.Owner ∷ direct sorts.Dot terminals.OwnerDot ∷ (name ++ args))

-- a `.` may stand before it
abbrev pub Dotted : List ℕ → Type 0
Dotted text = (after : List ℕ) → Fits kinds.Dot (text ++ after)

-- ---- calls

-- what stands behind a name
called : {text args : List ℕ} {tokens others : List Tok} {ws : List Written} {before : Before}
    → Segment before text tokens ws befores.Other (Begins (sign "(")) → (it : IsItems args others)
    → Segment before (text ++ (codes "(" ++ (args ++ codes ")"))) (tokens ++ call_tokens others)
    (ws ++ (direct sorts.OpenParen terminals.CallParen ∷ (it.passed ++ direct sorts.CloseParen terminals.ParenEnd ∷ [])))
    befores.Other Anything
called {text} {args} name it =
    join name
    (join (lone_segment (sign "(") (terminals.CallParen ∷ []) befores.Other false refl refl refl (λ inside code. refl))
    (join it.segment (lone_segment (sign ")") (terminals.ParenEnd ∷ []) befores.Other false refl refl refl (λ inside code. refl))
    (λ after f. (after, refl))) (λ after f. tt))
    (λ after f. ((args ++ codes ")") ++ after, refl))

pub call_as : {callee shape : Shape} → Calling callee shape → {text args : List ℕ} {tokens others : List Tok}
    → CalleeAs callee text tokens → IsItems args others
    → WrittenAs shape (text ++ (codes "(" ++ (args ++ codes ")"))) (tokens ++ call_tokens others)
call_as says {text} {args} name it before spaced calm =
    let first = name before spaced calm in record {
      passed = _;
      segment = as_behind (λ after f. tt)
          (as_text (append_assoc (gap_of spaced) text (codes "(" ++ (args ++ codes ")"))) (called first.segment it));
      told = λ mode free.
          says mode (is_spaced (behind_gap before (gap_of spaced))) first.passed _ (first.told mode free) it.told;
    }

pub call_written : {text args : List ℕ} {tokens others : List Tok} → Callee false text tokens → IsItems args others
    → WrittenAs (AsValue false) (text ++ (codes "(" ++ (args ++ codes ")"))) (tokens ++ call_tokens others)
call_written name it = call_as (λ mode spaced word args w c. call w c) name it

-- the same behind a namespace
pub owned_call_as : {callee shape : Shape} → OwnedCalling callee shape → (source : Source) (i : ℕ) → WasRead source
    → Old source i (just terminals.Owner) → {text args : List ℕ} {tokens others : List Tok} → CalleeAs callee text tokens
    → Dotted text → IsItems args others
    → WrittenAs shape (((bytes_at source i ++ codes ".") ++ text) ++ (codes "(" ++ (args ++ codes ")")))
    (tok terminals.Owner (Bytes 1 (bytes_at source i)) ∷ again.sign terminals.OwnerDot ∷ (tokens ++ call_tokens others))
unfolding byte
owned_call_as says source i was owner {text} {args} {tokens} name dotted args_written before spaced calm =
    let it = old_token source was i owner.lexeme owner.there in
    let sort = sort_of it.kind it.text in
    let n : is_name sort ≡ true =
    ap (λ (t : Terminal). fits t sort) (sym (only_owner owner.lexeme.terminal owner.kind)) ∙ it.fit in
    let bytes_are = copied_bytes source i owner.lexeme it n in
    let callee = name befores.Other false refl in
    let first = copied_name source i owner.lexeme it n terminals.Owner (Bytes 1 (bytes_at source i)) before spaced calm
    (Begins (sign ".")) (dot_parts it.text) (λ new at same. one_byte new at ∙ same) in
    let dot = sign_segment kinds.Dot (codes ".") (terminals.OwnerDot ∷ []) befores.Other false
    (λ after. (rest : List ℕ) × (after ≡ text ++ rest)) refl refl refl (lit< tt)
    (λ inside after code b.
    sign_token kinds.Dot after inside befores.Other refl code refl
    (subst (λ (t : List ℕ). Fits kinds.Dot t) (sym b.1) (dotted b.0))) in record {
      passed = _;
      segment = as_behind (λ after f. tt)
          (as_text
          (ap (λ (t : List ℕ). (gap_of spaced ++ t) ++ (codes "." ++ (text ++ (codes "(" ++ (args ++ codes ")"))))) (sym bytes_are)
          ∙ append_assoc (gap_of spaced) (bytes_at source i) (codes "." ++ (text ++ (codes "(" ++ (args ++ codes ")"))))
          ∙ ap (λ (t : List ℕ). gap_of spaced ++ t)
          (sym (append_assoc (bytes_at source i) (codes ".") (text ++ (codes "(" ++ (args ++ codes ")"))))
          ∙ sym (append_assoc (bytes_at source i ++ codes ".") text (codes "(" ++ (args ++ codes ")")))))
          (join first
          (join dot (called callee.segment args_written)
          (λ after f. (
            (codes "(" ++ (args ++ codes ")")) ++ after,
            append_assoc text (codes "(" ++ (args ++ codes ")")) after,
          )))
          (λ after f. ((text ++ (codes "(" ++ (args ++ codes ")"))) ++ after, refl))));
      told = λ mode b.
          says mode (is_spaced (behind_gap before (gap_of spaced))) sort callee.passed _ n (callee.told mode b) args_written.told;
    }

pub owned_call_written : (source : Source) (i : ℕ) → WasRead source → Old source i (just terminals.Owner)
    → {text args : List ℕ} {tokens others : List Tok} → Callee true text tokens → Dotted text → IsItems args others
    → WrittenAs (AsValue false) (((bytes_at source i ++ codes ".") ++ text) ++ (codes "(" ++ (args ++ codes ")")))
    (tok terminals.Owner (Bytes 1 (bytes_at source i)) ∷ again.sign terminals.OwnerDot ∷ (tokens ++ call_tokens others))
owned_call_written source i was owner name dotted it =
    owned_call_as (λ mode spaced owner word args n w c. owned_call owner n w c) source i was owner name dotted it

-- ---- names that were read

-- the sort of such a name is that of no special function
special_sort : (owned : Bool) (kind : TokenKind) (text : List ℕ) → names.is_name kind ≡ true
    → is_unspecial owned text ≡ true → (owned || not (is_special_name (sort_of kind text))) ≡ true
special_sort true kind text n free = refl
special_sort false kinds.Word text n free = and_left (not (is_special_name (word_sort text))) _ free
special_sort false kinds.Name text n free =
    go (is_prefixed_calc text) (and_right (not (is_special_name (word_sort text))) _ free)
  where
    go : (t : Bool) → not t ≡ true → not (is_special_name (if t then sorts.Special else sorts.Name)) ≡ true
    go true e = absurd (cc)
    go false e = refl
special_sort false kinds.DashedName text n free = refl
special_sort false _ text n free = absurd (cc)

-- no name begins with a digit or a `.`
dot_fits : (bs : List ℕ) → Start (byte bs 0) → Fits kinds.Dot bs
unfolding byte
dot_fits bs start =
    ap (λ (x : Bool). not (x || false) && true)
    (names.neither (is_digit (byte bs 0)) _ start.digit (names.left_no (byte bs 0 == sign ".") _ start.dot))

-- a name before its `(`, told by its sort
pub name_called_as : {shape : Shape} (source : Source) (i : ℕ) (old : Old source i (just terminals.Word))
    (it : OldToken source i old.lexeme) → is_url (bytes_at source i) ≡ false
    → ((mode : Mode) (spaced : Bool) → is_bounded mode ≡ false → is_name (sort_of it.kind it.text) ≡ true
    → shape mode spaced (written (sort_of it.kind it.text) spaced terminals.Word ∷ []))
    → CalleeAs shape (bytes_at source i) (tok terminals.Word (from_start source i [] 1) ∷ [])
name_called_as source i old it no_url says before spaced calm =
    let n : is_name (sort_of it.kind it.text) ≡ true =
    ap (λ (t : Terminal). fits t (sort_of it.kind it.text)) (sym (only_word old.lexeme.terminal old.kind)) ∙ it.fit in
    let bytes_are = copied_bytes source i old.lexeme it n in
    let url = ap is_url (sym bytes_are) ∙ no_url in record {
      passed = _;
      segment = as_text (ap (λ (t : List ℕ). gap_of spaced ++ t) (sym bytes_are))
          (copied_behind source i old.lexeme it n terminals.Word (from_start source i [] 1) before spaced calm
          (Begins (sign "("))
          (λ after b. subst (Behind it.text) (sym b.1) (paren_behind it.text b.0 url))
          (λ new at same. said_is new at ∙ ap (λ (t : List ℕ). record { first = t; rest = [] }) same ∙ sym (said_is source i)));
      told = λ mode b. says mode (is_spaced (behind_gap before (gap_of spaced))) b n;
    }

-- a name whose sort is neither a constant nor an operator
pub name_called : (source : Source) (i : ℕ) (old : Old source i (just terminals.Word))
    (it : OldToken source i old.lexeme) (owned : Bool) → is_reserved (sort_of it.kind it.text) ≡ false
    → is_unspecial owned (bytes_at source i) ≡ true → is_url (bytes_at source i) ≡ false
    → Callee owned (bytes_at source i) (tok terminals.Word (from_start source i [] 1) ∷ [])
name_called source i old it owned reserved free no_url =
    name_called_as source i old it no_url
    (λ mode spaced b n.
    let sort = sort_of it.kind it.text in
    let bytes_are = copied_bytes source i old.lexeme it n in
    let unspecial = special_sort owned it.kind it.text (kind_of_name it.kind it.text n)
    (ap (is_unspecial owned) (sym bytes_are) ∙ free) in
    named sort n
    (names.both (not (is_reserved sort)) _ (ap not reserved)
    (names.both (not (ends_bound mode sort)) _ (ap not (unbounded mode sort b)) unspecial)) no_part)

pub name_dotted : (source : Source) (i : ℕ) → WasRead source → Old source i (just terminals.Word)
    → Dotted (bytes_at source i)
name_dotted source i was old after =
    let it = old_token source was i old.lexeme old.there in
    let n : is_name (sort_of it.kind it.text) ≡ true =
    ap (λ (t : Terminal). fits t (sort_of it.kind it.text)) (sym (only_word old.lexeme.terminal old.kind)) ∙ it.fit in
    let k = kind_of_name it.kind it.text n in
    let own = it.own (name_opens it.kind k) in
    let named_piece = name_in it.kind (length it.text) own.change k (it.text ++ own.after) own.inside own.before own.is in
    let start = name_start it.text own.after [] it.kind own.change k own.some named_piece (nothing_parts it.text) in
    subst (λ (t : List ℕ). Fits kinds.Dot (t ++ after)) (sym own.bytes_are)
    (dot_fits (it.text ++ after) (subst Start (sym (byte_before it.text after 0 own.some)) start))

-- ---- their texts

named_text : (source : Source) (i : ℕ)
    → pieces_text manners.Joined (parts_written (parts_between source i (suc i) [])) ≡ bytes_at source i
named_text source i =
    ap (λ (p : Parts). pieces_text manners.Joined (parts_written p)) (parts_are source i)
    ∙ ap (pieces_text manners.Joined) (unrolled.plain_is (bytes_at source i))

pub call_shown : (namespace : Option Namespaced) (parts : Parts) (args : List Argument) (span name_span : Span) (name : List ℕ)
    → pieces_text manners.Joined (parts_written parts) ≡ name → ends_in_url name ≡ false
    → expr_text (expression (exprs.Call (callee_of namespace (record { parts = parts; span = name_span })) args) span)
    ≡ (space_text namespace ++ name) ++ (codes "(" ++ (with_commas true (map argument_text args) ++ codes ")"))
call_shown namespace parts args span name_span name is no_url =
    unrolled.call_is (callee_of namespace (record { parts = parts; span = name_span })) args
    ∙ ap (λ (t : List ℕ). call_text (record { text = space_text namespace ++ t; url = ends_in_url t }) (map of_argument args)) is
    ∙ ap (λ (t : Bool). call_text (record { text = space_text namespace ++ name; url = t }) (map of_argument args)) no_url
    ∙ ap (λ (t : List ℕ). (space_text namespace ++ name) ++ (codes "(" ++ (t ++ codes ")"))) (unrolled.arguments_are args)

-- of one name
pub named_call_text : (source : Source) (i : ℕ) (namespace : Option Namespaced) (args : List Argument) (span name_span : Span)
    → ends_in_url (bytes_at source i) ≡ false
    → expr_text
    (expression
    (exprs.Call (callee_of namespace (record { parts = parts_between source i (suc i) []; span = name_span })) args) span)
    ≡ (space_text namespace ++ bytes_at source i) ++ (codes "(" ++ (with_commas true (map argument_text args) ++ codes ")"))
named_call_text source i namespace args span name_span no_url =
    call_shown namespace (parts_between source i (suc i) []) args span name_span (bytes_at source i) (named_text source i) no_url
