-- `@include` and `@content`, with arguments and parameters of a content block.
use Rattle.std.proofs.Common.{◌≡◌, ◌<◌, ℕ, suc, Bool, true, false, not, ◌&&◌, ◌||◌, List, [], ◌∷◌, ◌++◌, length, Option, append-nil, inl, inr, refl, sym, ◌∙◌, ap, subst, arith, append_assoc, lit<}
use Rattle.std.specs.Prelude.{◌==◌, codes}
use Rattle.sw_text.specs.Names.{dashed}
use Rattle.sw_text_scan.specs.Bytes.{sign, byte, is_digit}
use Rattle.sw_text_scan.proofs.Bounds.{if_true, if_false, not_true}
use Rattle.sw_tree.specs.declared.callable.Params.{Params as TreeParams}
use Rattle.sw_tree.specs.declared.expr.Namespaced.{Namespaced}
use Rattle.sw_tokens.specs.declared.pieces.Before.{Before}
use Rattle.sw_tokens.specs.declared.pieces.Before.TheVariants as befores
use Rattle.sw_tokens.specs.declared.token.TokenKind.TheVariants as kinds
use Rattle.sw_tokens.specs.Tokens.{is_spaced}
use Rattle.sw_parse_terminals.specs.declared.terminal.Terminal.{Terminal}
use Rattle.sw_parse_terminals.specs.declared.terminal.Terminal.TheVariants as terminals
use Rattle.sw_parse_lexemes.specs.declared.sort.Sort.TheVariants as sorts
use Rattle.sw_parse_lexemes.specs.declared.state.Mode.TheVariants as modes
use Rattle.sw_parse_lexemes.specs.Classes.{is_name}
use Rattle.sw_parse_lexemes.specs.Sorts.{sort_of}
use Rattle.sw_parse_table.specs.declared.source.Source.{Source}
use Rattle.sw_parse_table.specs.Sources.{bytes_at}
use Rattle.sw_parse_table.specs.Actions.{name_at, params_with}
use Rattle.sw_convert_spelling.proofs.Choices.{neither, left_no}
use Rattle.sw_convert_written.specs.Escapes.{ends_unclosed}
use Rattle.sw_convert_written.specs.Expressions.{is_url, space_text}
use Rattle.sw_convert_written.specs.Heads.{has_none, params_text, using_params, word_behind}
use Rattle.sw_convert_written.specs.Names.{name_text}
use Rattle.sw_convert_passing.specs.Written.{Written, written, apart}
use Rattle.sw_convert_passing.specs.Values.{Call, arguments, settled, settled_same}
use Rattle.sw_convert_again.specs.Tokens.{Tok, tok, Dashed, Bytes}
use Rattle.sw_convert_again.specs.Tokens as again
use Rattle.sw_convert_again.specs.Params.{SpellsMixinName, SpellsUsing, own_name, owned_name, no_using, empty_using, some_using}
use Rattle.sw_convert_again.proofs.Tokens.{one_byte}
use Rattle.sw_convert_tokens.specs.Joints.{Segment}
use Rattle.sw_convert_tokens.specs.Written.{Follows, is_calm}
use Rattle.sw_convert_tokens.specs.Values.{WasRead}
use Rattle.sw_convert_tokens.proofs.Joins as joins
use Rattle.sw_convert_tokens.proofs.Olds.{old_token}
use Rattle.sw_convert_tokens.proofs.Names.{Start}
use Rattle.sw_convert_tokens.proofs.OriginChoices.{fits}
use Rattle.sw_convert_tokens.proofs.Signs.{Fits, sign_segment, sign_token}
use Rattle.sw_convert_tokens.proofs.Spaces.{space_by}
use Rattle.sw_convert_tokens.proofs.Spaces as spaces
use Rattle.sw_convert_tokens.proofs.Stops.{Behind, paren_behind}
use Rattle.sw_convert_tokens.proofs.Unclosed.{Ends, space_ends, follows_end}
use Rattle.sw_convert_tokens.proofs.Variables.{only_owner, Begins, dot_parts}
use Rattle.sw_convert_tokens.proofs.Words.{copied_name, copied_bytes}
use Rattle.sw_convert_heads_passing.specs.Members.{Params, params_in, some_given, none_given, MixinName, UsingParams, none_used, some_used, used_apart, MemberHead, include_head, content_head, settled_head}
use Rattle.sw_convert_heads_passing.specs.Members as members
use Rattle.sw_convert_heads_passing.specs.Statements.{belonging}
use Rattle.sw_convert_texts.specs.RawTexts.{SheetSegment}
use Rattle.sw_convert_statements.specs.Segments.{seams, FrontWritten}
use Rattle.sw_convert_statements.specs.Fronts.{ValuesAreKnown, is_mixin_name}
use Rattle.sw_convert_statements.proofs.Arguments.{IsGiven, nothing_given, arguments_given, settles_around}
use Rattle.sw_convert_texts.proofs.OldNames.{NamedSo, name_start, named_there}
use Rattle.sw_convert_statements.proofs.Callables.{name_ends, none_there, some_there, word_using, member_written}
use Rattle.sw_convert_statements.proofs.Flow.{content_written}
use Rattle.sw_convert_statements.proofs.Keywords.{keyword}
use Rattle.sw_convert_statements.proofs.OneName.{url_named, name_segment, name_sort, dashed_text}
use Rattle.sw_convert_statements.proofs.Params.{parens_written}
use Rattle.sw_convert_statements.proofs.Segments.{sheet, join, as_text, as_toks, as_passed, as_behind, text_follows, value_pads, padded}

-- ---- the name of a mixin

record IsMixin (text : List ℕ) (tokens : List Tok) : Type 0 where
  passed : List Written
  are : MixinName passed
  -- the name without a namespace
  last : List ℕ
  no_url : is_url last ≡ false
  ends : (after : List ℕ) → Follows text after → Follows last after
  segment : Segment befores.Other (codes " " ++ text) tokens passed befores.Other (Behind last)

-- a name makes no number of a `.` before it
behind_dot : (text : List ℕ) → 0 < length text → Start (byte text 0) → (after : List ℕ) → Fits kinds.Dot (text ++ after)
unfolding byte
behind_dot [] some start after = absurd (omega (arith, some))
behind_dot (b ∷ text) some start after =
    ap (λ (x : Bool). not (x || false) && true) (neither (is_digit b) _ start.digit (left_no (b == sign ".") _ start.dot))

dotted : (text : List ℕ) → NamedSo text → (after : List ℕ) → Fits kinds.Dot (text ++ after)
dotted text it after = behind_dot text it.some (name_start text it) after

dot_ends : Ends (sign ".")
dot_ends = record { slash = refl; digit = refl }

mixin_written : (source : Source) → WasRead source → {i j at : ℕ} {namespace : Option Namespaced} {tokens : List Tok}
    → (mixin : SpellsMixinName source i j namespace at tokens) → is_mixin_name source mixin ≡ true
    → IsMixin (space_text namespace ++ name_text (name_at source at)) tokens
unfolding byte
mixin_written source was (own_name {i} old) t =
    let name = member_written source i was old in record {
      passed = _;
      are = members.own_name name.sort name.is;
      last = name_text (name_at source i);
      no_url = not_true (is_url (name_text (name_at source i))) t;
      ends = λ after f. f;
      segment = name.segment;
    }
mixin_written source was (owned_name {i} owner dot old) t =
    let text = name_text (name_at source (suc (suc i))) in
    let owned = old_token source was i owner.lexeme owner.there in
    let sort = sort_of owned.kind owned.text in
    let n : is_name sort ≡ true =
    ap (λ (k : Terminal). fits k sort) (sym (only_owner owner.lexeme.terminal owner.kind)) ∙ owned.fit in
    let bytes_are = copied_bytes source i owner.lexeme owned n in
    let it = (named_there source was (suc (suc i)) old).kept in
    let first = copied_name source i owner.lexeme owned n terminals.Owner (Bytes 1 (bytes_at source i)) befores.Other true
    refl (Begins (sign ".")) (dot_parts owned.text) (λ new at same. one_byte new at ∙ same) in
    let middle = sign_segment kinds.Dot (codes ".") (terminals.OwnerDot ∷ []) befores.Other false (Fits kinds.Dot) refl refl
    refl (lit< tt) (λ inside after code ok. sign_token kinds.Dot after inside befores.Other refl code refl ok) in
    let second = name_segment text it terminals.Named (Dashed (name_at source (suc (suc i)))) befores.Other false refl
    (λ new at same. ap dashed same ∙ dashed_text (bytes_at source (suc (suc i)))) in record {
      passed = _;
      are = members.owned_name sort (sort_of it.kind text) n (name_sort text it);
      last = text;
      no_url = not_true (is_url text) t;
      ends = λ after f. follows_end (bytes_at source i) text (sign ".") dot_ends after
          (subst (λ (x : List ℕ). Follows x after) (append_assoc (bytes_at source i) (codes ".") text) f);
      segment = joins.as_text
          (ap (λ (x : List ℕ). codes " " ++ (x ++ (codes "." ++ text))) (sym bytes_are)
          ∙ ap (λ (x : List ℕ). codes " " ++ x) (sym (append_assoc (bytes_at source i) (codes ".") text)))
          (joins.join first (joins.join middle second (λ after ok. dotted text it after))
          (λ after ok. (text ++ after, refl)));
    }

-- and isn't `url`
pub mixin_no_url : (source : Source) {i j at : ℕ} {namespace : Option Namespaced} {tokens : List Tok}
    → (mixin : SpellsMixinName source i j namespace at tokens) → is_mixin_name source mixin ≡ true
    → is_url (name_at source at) ≡ false
mixin_no_url source (own_name {i} old) t =
    url_named (name_at source i) (not_true (is_url (name_text (name_at source i))) t)
mixin_no_url source (owned_name {i} owner dot old) t =
    url_named (name_at source (suc (suc i))) (not_true (is_url (name_text (name_at source (suc (suc i))))) t)

-- ---- with arguments

content_of : {spaced : Bool} {call : List Written} → Call call
    → MemberHead modes.Content (written sorts.AtContent spaced terminals.AtContent ∷ call)
content_of (arguments inside) = content_head (some_given inside)
content_of (settled loose s) = settled_head (content_of loose) (settled_same _ s)

pub content_called : {text : List ℕ} {tokens : List Tok} → IsGiven text tokens
    → FrontWritten modes.Content (codes "@content" ++ text) (again.sign terminals.AtContent ∷ tokens)
content_called nothing_given before calm = content_written before calm
content_called (arguments_given {text} {passed = passed} call segment) before calm = record {
  passed = written sorts.AtContent (is_spaced before) terminals.AtContent ∷ passed;
  front = belonging (content_of call);
  first = refl;
  end = befores.Other;
  loose = λ u. refl;
  segment = as_behind (λ after e. tt)
      (join (sheet ((keyword terminals.AtContent sorts.AtContent refl).segment before calm)) (sheet segment) (λ after ok. (text ++ after, inr (inr refl))));
}

include_of : {spaced : Bool} {name call params : List Written} → Call call → MixinName name → UsingParams params
    → MemberHead modes.Include (written sorts.AtInclude spaced terminals.AtInclude ∷ (name ++ (call ++ params)))
include_of (arguments inside) named used = include_head named (some_given inside) used
include_of {name = name} {params = params} (settled loose s) named used =
    settled_head (include_of loose named used) (settled_same _ (settles_around name params s))

-- `@include` up to its end, or to the parameters of its block
record IsInclude (text : List ℕ) (tokens : List Tok) (before : Before) : Type 0 where
  passed : List Written
  head : {params : List Written} → UsingParams params
      → MemberHead modes.Include (written sorts.AtInclude (is_spaced before) terminals.AtInclude ∷ (passed ++ params))
  segment : SheetSegment before text tokens
      (written sorts.AtInclude (is_spaced before) terminals.AtInclude ∷ passed) befores.Other (Follows text)

include_given : {text given : List ℕ} {ks os : List Tok} → IsMixin text ks → IsGiven given os → (before : Before)
    → is_calm before ≡ true
    → IsInclude (codes "@include " ++ (text ++ given)) (again.sign terminals.AtInclude ∷ (ks ++ os)) before
include_given {text} {ks = ks} name nothing_given before calm = record {
  passed = name.passed;
  head = λ used. include_head name.are none_given used;
  segment = as_text (ap (λ (x : List ℕ). codes "@include " ++ x) (sym (append-nil text)))
      (as_toks (ap (λ (l : List Tok). again.sign terminals.AtInclude ∷ l) (sym (append-nil ks)))
      (as_behind
      (λ after f. name_ends name.last after
      (name.ends after
      (follows_end (codes "@include") text (sign " ") space_ends after
      (subst (λ (x : List ℕ). Follows x after) (ap (λ (x : List ℕ). codes "@include " ++ x) (append-nil text)) f))))
      (join (sheet ((keyword terminals.AtInclude sorts.AtInclude refl).segment before calm)) (sheet name.segment) (λ after ok. (text ++ after, inl refl)))));
}
include_given {text} name (arguments_given {text = given} {passed = call} called segment) before calm = record {
  passed = name.passed ++ call;
  head = λ {params} used.
      subst
      (λ (l : List Written). MemberHead modes.Include (written sorts.AtInclude (is_spaced before) terminals.AtInclude ∷ l))
      (sym (append_assoc name.passed call params)) (include_of called name.are used);
  segment = as_behind (λ after f. tt)
      (join (sheet ((keyword terminals.AtInclude sorts.AtInclude refl).segment before calm))
      (join (sheet name.segment) (sheet segment) (λ after ok. paren_behind name.last (given ++ after) name.no_url))
      (λ after ok. ((text ++ (codes "(" ++ given)) ++ after, inl refl)));
}

-- ---- with parameters of a content block

used_of : (unclosed : Bool) {params : List Written} → Params params
    → UsingParams (seams unclosed ++ apart sorts.Using terminals.Using ∷ params_in true params)
used_of true params = used_apart params
used_of false params = some_used params

module _ (source : Source) (was : WasRead source) (values : ValuesAreKnown source) {i j at : ℕ}
    {namespace : Option Namespaced} {ks : List Tok} (mixin : SpellsMixinName source i j namespace at ks)
    (known : is_mixin_name source mixin ≡ true) {given : List ℕ} {os : List Tok} (called : IsGiven given os) where
  abbrev text : List ℕ
  text = codes "@include " ++ ((space_text namespace ++ name_text (name_at source at)) ++ given)

  pub include_line_written : FrontWritten modes.Include text (again.sign terminals.AtInclude ∷ (ks ++ os))
  include_line_written before calm =
      let it = include_given (mixin_written source was mixin known) called before calm in record {
        passed = written sorts.AtInclude (is_spaced before) terminals.AtInclude ∷ it.passed;
        front = belonging
            (subst
            (λ (l : List Written). MemberHead modes.Include (written sorts.AtInclude (is_spaced before) terminals.AtInclude ∷ l))
            (append-nil it.passed) (it.head none_used));
        first = refl;
        end = befores.Other;
        loose = λ u. refl;
        segment = as_behind (λ after e. text_follows _ after e) it.segment;
      }

  pub using_written : {k m : ℕ} {params : TreeParams} {more : List Tok} → SpellsUsing source k m params more
      → FrontWritten modes.Include (using_params params text) (again.sign terminals.AtInclude ∷ ((ks ++ os) ++ more))
  using_written no_using before calm =
      (subst (λ (l : List Tok). FrontWritten modes.Include (using_params (params_with []) text) (again.sign terminals.AtInclude ∷ l))
      (sym (append-nil (ks ++ os)))
      (subst (λ (x : List ℕ). FrontWritten modes.Include x (again.sign terminals.AtInclude ∷ (ks ++ os)))
      (sym (append-nil text)) include_line_written)) before calm
  using_written (empty_using {params = params} word head items rest) before calm =
      (subst (λ (l : List Tok). FrontWritten modes.Include (using_params params text) (again.sign terminals.AtInclude ∷ l))
      (sym (append-nil (ks ++ os)))
      (subst (λ (x : List ℕ). FrontWritten modes.Include x (again.sign terminals.AtInclude ∷ (ks ++ os)))
      (sym (append-nil text)
      ∙ ap (λ (x : List ℕ). text ++ x)
      (sym (if_true (has_none params) [] (word_behind (codes "using ") text ++ params_text params)
      (none_there params items rest)))) include_line_written)) before calm
  using_written (some_using {params = params} {tokens = tokens} word head some) before calm =
      let it = include_given (mixin_written source was mixin known) called before calm in
      let parens = parens_written source was values head true in
      let unclosed = ends_unclosed text in
      let pads = padded unclosed refl (λ u. refl) (value_pads text) it.segment in
      let last = codes "using" ++ (codes " " ++ params_text params) in
      let whole : text ++ (space_by unclosed ++ last) ≡ using_params params text =
      ap (λ (x : List ℕ). text ++ x)
      (sym (append_assoc (space_by unclosed) (codes "using ") (params_text params))
      ∙ sym (if_false (has_none params) [] ((space_by unclosed ++ codes "using ") ++ params_text params)
      (some_there params some))) in record {
        passed = written sorts.AtInclude (is_spaced before) terminals.AtInclude
            ∷ (it.passed ++ (seams unclosed ++ apart sorts.Using terminals.Using ∷ params_in true parens.passed));
        front = belonging (it.head (used_of unclosed parens.are));
        first = refl;
        end = befores.Other;
        loose = λ u. refl;
        segment = as_behind (λ after e. tt)
            (as_text (spaces.space_text [] text last unclosed ∙ whole)
            (as_passed
            (ap (λ (l : List Written). written sorts.AtInclude (is_spaced before) terminals.AtInclude ∷ l)
            (append_assoc it.passed (seams unclosed) (apart sorts.Using terminals.Using ∷ params_in true parens.passed)))
            (join pads.segment
            (join (sheet (word_using pads.end)) (sheet parens.segment) (λ after ok. (params_text params ++ after, refl)))
            (λ after ok. (last ++ after, refl)))));
      }
