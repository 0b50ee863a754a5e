-- The heads of functions and mixins, and `@include` without arguments.
use Rattle.std.proofs.Common.{◌≡◌, ℕ, Bool, true, false, ◌&&◌, if◌then◌else◌, List, [], ◌∷◌, ◌++◌, Option, Some, None, append-nil, inl, refl, sym, ◌∙◌, ap, subst, lit<}
use Rattle.std.specs.Prelude.{codes}
use Rattle.sw_text.specs.Names.{dashed}
use Rattle.sw_text_scan.specs.Bytes.{sign, byte}
use Rattle.sw_text_scan.specs.Runs.{begins_name, escape_end, run_end}
use Rattle.sw_text_scan.proofs.Bounds.{if_true, if_false, not_true}
use Rattle.sw_tree.specs.declared.callable.Kind.TheVariants as callables
use Rattle.sw_tree.specs.declared.callable.Param.{Param}
use Rattle.sw_tree.specs.declared.callable.Params.{Params as TreeParams}
use Rattle.sw_tokens.specs.declared.pieces.Before.{Before}
use Rattle.sw_tokens.specs.declared.pieces.Before.TheVariants as befores
use Rattle.sw_tokens.specs.declared.token.TokenKind.TheVariants as kinds
use Rattle.sw_tokens.specs.Pieces.{name_piece}
use Rattle.sw_tokens.specs.Tokens.{is_spaced}
use Rattle.sw_parse_terminals.specs.declared.terminal.Terminal.TheVariants as terminals
use Rattle.sw_parse_terminals.specs.Numbers.{just}
use Rattle.sw_parse_lexemes.specs.declared.sort.Sort.{Sort}
use Rattle.sw_parse_lexemes.specs.declared.sort.Sort.TheVariants as sorts
use Rattle.sw_parse_lexemes.specs.declared.state.Mode.TheVariants as modes
use Rattle.sw_parse_lexemes.specs.Classes.{is_name}
use Rattle.sw_parse_lexemes.specs.Sorts.{sort_of}
use Rattle.sw_parse_table.specs.declared.source.Source.{Source}
use Rattle.sw_parse_table.specs.Sources.{bytes_at}
use Rattle.sw_parse_table.specs.Actions.{name_at}
use Rattle.sw_convert_written.specs.Escapes.{ends_unclosed}
use Rattle.sw_convert_written.specs.Escapes as escapes
use Rattle.sw_convert_written.specs.Expressions.{is_url}
use Rattle.sw_convert_written.specs.Heads.{none_in, has_none, params_text, callable_head}
use Rattle.sw_convert_written.specs.Names.{name_text}
use Rattle.sw_convert_passing.specs.Written.{written, apart}
use Rattle.sw_convert_again.specs.Tokens.{Tok, tok, Old, Dashed, Nothing}
use Rattle.sw_convert_again.specs.Tokens as again
use Rattle.sw_convert_again.specs.Params.{are_some, SpellsHeadParams, SpellsOptionalParams, no_head, empty_head, some_head}
use Rattle.sw_convert_tokens.specs.Joints.{Segment}
use Rattle.sw_convert_tokens.specs.Written.{Follows}
use Rattle.sw_convert_tokens.specs.Values.{WasRead}
use Rattle.sw_convert_tokens.proofs.Joins as joins
use Rattle.sw_convert_tokens.proofs.Spaces.{BeginsSpace}
use Rattle.sw_convert_tokens.proofs.Stops.{Behind, follows_parts, parted_behind, paren_behind}
use Rattle.sw_convert_tokens.proofs.Unclosed.{space_ends, follows_end}
use Rattle.sw_convert_heads_passing.specs.Members.{function_head, mixin_head, lone_mixin_head, params_in}
use Rattle.sw_convert_heads_passing.specs.Statements.{belonging}
use Rattle.sw_convert_texts.proofs.OldNames.{NamedSo, named_there}
use Rattle.sw_convert_statements.specs.Segments.{FrontWritten}
use Rattle.sw_convert_statements.specs.Fronts.{ValuesAreKnown, is_callable}
use Rattle.sw_convert_statements.proofs.Keywords.{keyword}
use Rattle.sw_convert_statements.proofs.OneName.{url_named, name_segment, name_sort, dashed_text}
use Rattle.sw_convert_statements.proofs.Params.{parens_written}
use Rattle.sw_convert_statements.proofs.Segments.{sheet, join, as_text, as_behind, text_follows}

-- what may stand behind a name and the end of a statement or a block
pub name_ends : (name after : List ℕ) → Follows name after → Behind name after
name_ends name after f = parted_behind name after (follows_parts name after f)

pub none_there : (params : TreeParams) → params.items ≡ [] → params.rest ≡ None → has_none params ≡ true
none_there params items rest =
    ap (λ (l : List Param). none_in l params.rest) items ∙ ap (λ (o : Option (List ℕ)). none_in [] o) rest

pub some_there : (params : TreeParams) → are_some params.items params.rest ≡ true → has_none params ≡ false
some_there params some = go params.items params.rest some
  where
    go : (items : List Param) (rest : Option (List ℕ)) → are_some items rest ≡ true → none_in items rest ≡ false
    go [] None s = absurd (cc)
    go [] (Some name) s = refl
    go (x ∷ items) rest s = refl

-- `using` before a space
using_name : NamedSo (codes "using")
unfolding name_piece byte begins_name escape_end run_end
using_name = record { kind = kinds.Word; named = refl; some = lit< tt; rest = []; piece_is = refl }

pub word_using : (before : Before) → Segment before (codes " using") (again.sign terminals.Using ∷ [])
    (apart sorts.Using terminals.Using ∷ []) befores.Other BeginsSpace
unfolding using_name ends_unclosed
word_using before =
    joins.as_behind
    (λ after space. subst (Behind (codes "using")) (sym space.1)
    (name_ends (codes "using") (codes " " ++ space.0) (record { stop = refl; closed = refl })))
    (name_segment (codes "using") using_name terminals.Using Nothing before true refl (λ new at same. tt))

-- the name of a member behind a space
pub record IsMember (source : Source) (i : ℕ) : Type 0 where
  pub sort : Sort
  pub is : is_name sort ≡ true
  pub segment : Segment befores.Other (codes " " ++ name_text (name_at source i))
      (tok terminals.Named (Dashed (name_at source i)) ∷ []) (apart sort terminals.Named ∷ []) befores.Other
      (Behind (name_text (name_at source i)))

pub member_written : (source : Source) (i : ℕ) → WasRead source → Old source i (just terminals.Named) → IsMember source i
member_written source i was old =
    let name = name_text (name_at source i) in
    let it = (named_there source was i old).kept in record {
      sort = sort_of it.kind name;
      is = name_sort name it;
      segment = name_segment name it terminals.Named (Dashed (name_at source i)) befores.Other true refl
          (λ new at same. ap dashed same ∙ dashed_text (bytes_at source i));
    }

module _ (source : Source) (was : WasRead source) (values : ValuesAreKnown source) where
  function_parens : (i : ℕ) → Old source i (just terminals.Named) → is_callable source i ≡ true → {j k : ℕ} {params : TreeParams}
      {tokens : List Tok} → SpellsHeadParams source j k params tokens
      → FrontWritten modes.Head (codes "@function " ++ (name_text (name_at source i) ++ params_text params))
      (again.sign terminals.AtFunction ∷ tok terminals.Named (Dashed (name_at source i)) ∷ tokens)
  function_parens i old t {params = params} head before calm =
      let name = member_written source i was old in
      let parens = parens_written source was values head false in
      let text = name_text (name_at source i) in record {
        passed = written sorts.AtFunction (is_spaced before) terminals.AtFunction ∷ apart name.sort terminals.Named
            ∷ params_in false parens.passed;
        front = belonging (function_head name.sort name.is parens.are);
        first = refl;
        end = befores.Other;
        loose = λ u. refl;
        segment = as_behind (λ after e. tt)
            (join (sheet ((keyword terminals.AtFunction sorts.AtFunction refl).segment before calm))
            (join (sheet name.segment) (sheet parens.segment) (λ after ok. paren_behind text _ (not_true (is_url text) t)))
            (λ after ok. ((text ++ params_text params) ++ after, inl refl)));
      }

  -- behind any other name than `url` no comment stands before the parameters
  pub function_written : (i : ℕ) → Old source i (just terminals.Named) → is_callable source i ≡ true → {j k : ℕ} {params : TreeParams}
      {tokens : List Tok} → SpellsHeadParams source j k params tokens
      → FrontWritten modes.Head (callable_head callables.Function (name_at source i) params)
      (again.sign terminals.AtFunction ∷ tok terminals.Named (Dashed (name_at source i)) ∷ tokens)
  function_written i old t {params = params} {tokens = tokens} head =
      let name = name_at source i in
      subst
      (λ (x : List ℕ). FrontWritten modes.Head (codes "@function " ++ (name_text name ++ x)) (again.sign terminals.AtFunction ∷ tok terminals.Named (Dashed name) ∷ tokens))
      (ap (λ (u : Bool). (if u && has_none params then escapes.apart else []) ++ params_text params)
      (sym (url_named name (not_true (is_url (name_text name)) t))))
      (function_parens i old t head)

  mixin_parens : (i : ℕ) → Old source i (just terminals.Named) → is_callable source i ≡ true → {j k : ℕ} {params : TreeParams}
      {tokens : List Tok} → SpellsHeadParams source j k params tokens
      → FrontWritten modes.Head (codes "@mixin " ++ (name_text (name_at source i) ++ params_text params))
      (again.sign terminals.AtMixin ∷ tok terminals.Named (Dashed (name_at source i)) ∷ tokens)
  mixin_parens i old t {params = params} head before calm =
      let name = member_written source i was old in
      let parens = parens_written source was values head false in
      let text = name_text (name_at source i) in record {
        passed = written sorts.AtMixin (is_spaced before) terminals.AtMixin ∷ apart name.sort terminals.Named
            ∷ params_in false parens.passed;
        front = belonging (mixin_head name.sort name.is parens.are);
        first = refl;
        end = befores.Other;
        loose = λ u. refl;
        segment = as_behind (λ after e. tt)
            (join (sheet ((keyword terminals.AtMixin sorts.AtMixin refl).segment before calm))
            (join (sheet name.segment) (sheet parens.segment) (λ after ok. paren_behind text _ (not_true (is_url text) t)))
            (λ after ok. ((text ++ params_text params) ++ after, inl refl)));
      }

  lone_mixin : (i : ℕ) → Old source i (just terminals.Named)
      → FrontWritten modes.Head (codes "@mixin " ++ (name_text (name_at source i) ++ []))
      (again.sign terminals.AtMixin ∷ tok terminals.Named (Dashed (name_at source i)) ∷ [])
  lone_mixin i old before calm =
      let name = member_written source i was old in
      let text = name_text (name_at source i) in record {
        passed = written sorts.AtMixin (is_spaced before) terminals.AtMixin ∷ apart name.sort terminals.Named ∷ [];
        front = belonging (lone_mixin_head name.sort name.is);
        first = refl;
        end = befores.Other;
        loose = λ u. refl;
        segment = as_text (ap (λ (x : List ℕ). codes "@mixin " ++ x) (sym (append-nil text)))
            (as_behind
            (λ after e. name_ends text after
            (follows_end (codes "@mixin") text (sign " ") space_ends after
            (subst (λ (x : List ℕ). Follows x after) (ap (λ (x : List ℕ). codes "@mixin " ++ x) (append-nil text))
            (text_follows _ after e))))
            (join (sheet ((keyword terminals.AtMixin sorts.AtMixin refl).segment before calm)) (sheet name.segment) (λ after ok. (text ++ after, inl refl))));
      }

  pub mixin_written : (i : ℕ) → Old source i (just terminals.Named) → is_callable source i ≡ true → {j k : ℕ} {params : TreeParams}
      {tokens : List Tok} → SpellsOptionalParams source j k params tokens
      → FrontWritten modes.Head (callable_head callables.Mixin (name_at source i) params)
      (again.sign terminals.AtMixin ∷ tok terminals.Named (Dashed (name_at source i)) ∷ tokens)
  mixin_written i old t no_head = lone_mixin i old
  mixin_written i old t (empty_head {params = params} head items rest) =
      subst
      (λ (x : List ℕ). FrontWritten modes.Head (codes "@mixin " ++ (name_text (name_at source i) ++ x)) (again.sign terminals.AtMixin ∷ tok terminals.Named (Dashed (name_at source i)) ∷ []))
      (sym (if_true (has_none params) [] (params_text params) (none_there params items rest))) (lone_mixin i old)
  mixin_written i old t (some_head {params = params} {tokens = tokens} head some) =
      subst
      (λ (x : List ℕ). FrontWritten modes.Head (codes "@mixin " ++ (name_text (name_at source i) ++ x)) (again.sign terminals.AtMixin ∷ tok terminals.Named (Dashed (name_at source i)) ∷ tokens))
      (sym (if_false (has_none params) [] (params_text params) (some_there params some))) (mixin_parens i old t head)
