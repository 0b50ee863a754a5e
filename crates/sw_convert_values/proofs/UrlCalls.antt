-- Calls by the name `url`, whose arguments are kept from being raw text.
use Rattle.std.proofs.Common.{◌≡◌, ℕ, suc, Bool, true, false, not, ◌||◌, if◌then◌else◌, List, [], ◌∷◌, ◌++◌, map, Option, Some, None, is_some, refl, sym, ◌∙◌, ap, subst, append_assoc, arith, lit<}
use Rattle.std.specs.Prelude.{◌==◌, codes}
use Rattle.std.proofs.lemmas.Bool.Decides.{nat_tests}
use Rattle.sw_text.specs.declared.place.Span.{Span}
use Rattle.sw_text_scan.specs.Bytes.{sign, byte, is_white}
use Rattle.sw_text_scan.specs.Words.{is_u}
use Rattle.sw_text_scan.proofs.Bounds.{and_left, and_right}
use Rattle.sw_tokens.specs.declared.pieces.Before.{Before}
use Rattle.sw_tokens.specs.declared.pieces.Before.TheVariants as befores
use Rattle.sw_tokens.specs.declared.pieces.Change.TheVariants as changes
use Rattle.sw_tokens.specs.declared.token.TokenKind.TheVariants as kinds
use Rattle.sw_tokens.specs.Pieces.{made, piece}
use Rattle.sw_tokens.specs.Tokens.{is_spaced}
use Rattle.sw_tree.specs.declared.text.Parts.{Parts}
use Rattle.sw_tree.specs.declared.text.Piece.{Piece}
use Rattle.sw_tree.specs.declared.text.Text.{Text}
use Rattle.sw_tree.specs.declared.expr.Argument.{Argument}
use Rattle.sw_tree.specs.declared.expr.Callee.{Callee}
use Rattle.sw_tree.specs.declared.expr.Expr.{Expr}
use Rattle.sw_tree.specs.declared.expr.ExprKind.{ExprKind, out-ExprKind, roll-ExprKind, roll-out-ExprKind}
use Rattle.sw_tree.specs.declared.expr.ExprKind.TheOpen.{ExprKind-F}
use Rattle.sw_tree.specs.declared.expr.ExprKind.TheVariants as exprs
use Rattle.sw_tree.specs.declared.expr.Link.{Link}
use Rattle.sw_tree.specs.declared.expr.Namespaced.{Namespaced}
use Rattle.sw_tree.specs.declared.expr.Pair.{Pair}
use Rattle.sw_parse_terminals.specs.declared.terminal.Terminal.{Terminal}
use Rattle.sw_parse_terminals.specs.declared.terminal.Terminal.TheVariants as terminals
use Rattle.sw_parse_terminals.specs.Numbers.{just}
use Rattle.sw_parse_lexemes.specs.declared.sort.Sort.TheVariants as sorts
use Rattle.sw_parse_lexemes.specs.declared.state.Mode.{Mode}
use Rattle.sw_parse_lexemes.specs.Classes.{is_comment, is_name}
use Rattle.sw_parse_lexemes.specs.Sorts.{sort_of}
use Rattle.sw_parse_lexemes.specs.Words.{word_sort}
use Rattle.sw_parse_table.specs.declared.source.Source.{Source}
use Rattle.sw_parse_table.specs.Sources.{bytes_at, parts_between}
use Rattle.sw_parse_table.specs.Values.{expression, callee_of, namespaced}
use Rattle.sw_convert_spelling.specs.Spelt.{behind_gap}
use Rattle.sw_convert_spelling.proofs.Choices.{both}
use Rattle.sw_convert_written.specs.declared.manner.Manner.TheVariants as manners
use Rattle.sw_convert_written.specs.declared.sort.Sort.TheVariants as shown
use Rattle.sw_convert_written.specs.declared.sort.Sort.{Sort}
use Rattle.sw_convert_written.specs.Names.{name_text}
use Rattle.sw_convert_written.specs.Pieces.{pieces_text}
use Rattle.sw_convert_written.specs.Expressions.{is_opaque, is_url, ends_in_url_from, ends_in_url, space_text, guard, arguments_text, with_commas, call_text, label, dots, kind_shown, parts_written, expr_shown, expr_text, of_argument, argument_text}
use Rattle.sw_convert_written.proofs.Unrolled as unrolled
use Rattle.sw_convert_passing.specs.Kinds.{ends_bound}
use Rattle.sw_convert_passing.specs.Written.{written, direct}
use Rattle.sw_convert_passing.specs.Values.{Word, call, owned_call, named, no_part}
use Rattle.sw_convert_again.specs.Tokens.{Tok, tok, Old}
use Rattle.sw_convert_again.specs.Tokens as again
use Rattle.sw_convert_again.proofs.Tokens.{one_byte}
use Rattle.sw_convert_again.specs.Spells.{from_start, call_tokens, SpellsWord}
use Rattle.sw_convert_again.specs.Spells as spells
use Rattle.sw_convert_tokens.specs.Joints.{Segment}
use Rattle.sw_convert_tokens.specs.Written.{is_calm, gap_of, is_bounded, AsValue, WrittenAs}
use Rattle.sw_convert_tokens.specs.Values.{WasRead}
use Rattle.sw_convert_tokens.proofs.Joins.{join, as_text, as_behind}
use Rattle.sw_convert_tokens.proofs.Signs.{Anything, Fits, lone_segment, token_segment, sign_segment, sign_token}
use Rattle.sw_convert_tokens.proofs.Words.{bytes_sit, parts_are, said_is, unbounded, copied_name, copied_bytes}
use Rattle.sw_convert_tokens.proofs.Olds.{old_token}
use Rattle.sw_convert_tokens.proofs.OriginChoices.{fits}
use Rattle.sw_convert_tokens.proofs.Variables.{only_owner, Begins, dot_parts}
use Rattle.sw_convert_tokens.proofs.Calls.{name_dotted}
use Rattle.sw_convert_tokens.proofs.Arguments.{IsItems}
use Rattle.sw_convert_values.specs.Values.{has_arguments, is_url_called}
use Rattle.sw_convert_values.proofs.Shapes.{same}
use Rattle.sw_convert_values.proofs.Firsts.{IsBegun}
use Rattle.sw_convert_texts.proofs.UrlNames.{is_opaque_byte, NoText, opaque, guarded, url_name}

-- ---- texts that begin with a quote or a `$`

record IsOpaque (text : List ℕ) : Type 0 where
  first : ℕ
  rest : List ℕ
  is : text ≡ first ∷ rest
  opaque : is_opaque_byte first ≡ true

opaque_more : (text more : List ℕ) → IsOpaque text → IsOpaque (text ++ more)
opaque_more text more it =
    record { first = it.first; rest = it.rest ++ more; is = ap (λ (t : List ℕ). t ++ more) it.is; opaque = it.opaque }

abbrev Open : Type 0
Open = ExprKind-F ExprKind Parts Piece Argument Callee Expr Link Pair Text

module _ (kind : ExprKind) where
  abbrev Claim : Type 0
  Claim = is_opaque (kind_shown kind).sort ≡ true → IsOpaque (kind_shown kind).text

  other : (sort : Sort) → is_opaque sort ≡ false → (kind_shown kind).sort ≡ sort → Claim
  other sort clear e o = absurd (let wrong : true ≡ false = sym o ∙ ap is_opaque e ∙ clear in cc)

  abbrev sort_in : ExprKind → Sort
  sort_in k = (kind_shown k).sort

  kind_opaque : (out : Open) → kind ≡ roll-ExprKind out → Claim
  kind_opaque (ExprKind-F.Quoted x) e o = record {
    first = sign "\"";
    rest = pieces_text manners.Quoted (parts_written x) ++ codes "\"";
    is = ap (λ (k : ExprKind). (kind_shown k).text) (e ∙ exprs.rolls-Quoted x) ∙ unrolled.quoted_is x;
    opaque = refl;
  }
  kind_opaque (ExprKind-F.Variable x) e o = record {
    first = sign "$";
    rest = name_text x;
    is = ap (λ (k : ExprKind). (kind_shown k).text) (e ∙ exprs.rolls-Variable x) ∙ unrolled.variable_is x;
    opaque = refl;
  }
  kind_opaque (ExprKind-F.Number x) e o = other shown.Number refl (ap sort_in (e ∙ exprs.rolls-Number x) ∙ unrolled.number_sort x) o
  kind_opaque (ExprKind-F.Word x) e o = other shown.Other refl (ap sort_in (e ∙ exprs.rolls-Word x) ∙ unrolled.word_sort x) o
  kind_opaque (ExprKind-F.Hash x) e o = other shown.Other refl (ap sort_in (e ∙ exprs.rolls-Hash x) ∙ unrolled.hash_sort x) o
  kind_opaque (ExprKind-F.Constant x) e o = other shown.Other refl (ap sort_in (e ∙ exprs.rolls-Constant x) ∙ unrolled.constant_sort x) o
  kind_opaque (ExprKind-F.Url x) e o = other shown.Other refl (ap sort_in (e ∙ exprs.rolls-Url x) ∙ unrolled.url_sort x) o
  kind_opaque (ExprKind-F.Special x) e o = other shown.Other refl (ap sort_in (e ∙ exprs.rolls-Special x) ∙ unrolled.special_sort x) o
  kind_opaque (ExprKind-F.Qualified x) e o = other shown.Other refl (ap sort_in (e ∙ exprs.rolls-Qualified x) ∙ unrolled.qualified_sort x) o
  kind_opaque (ExprKind-F.Call x xs) e o = other shown.Other refl (ap sort_in (e ∙ exprs.rolls-Call x xs) ∙ unrolled.call_sort x xs) o
  kind_opaque ExprKind-F.Parent e o = other shown.Other refl (ap sort_in (e ∙ exprs.rolls-Parent) ∙ unrolled.parent_sort) o
  kind_opaque ExprKind-F.Important e o = other shown.Other refl (ap sort_in (e ∙ exprs.rolls-Important) ∙ unrolled.important_sort) o
  kind_opaque (ExprKind-F.Prefixed xs x) e o = other shown.Other refl (ap sort_in (e ∙ exprs.rolls-Prefixed xs x) ∙ unrolled.prefixed_sort xs x) o
  kind_opaque (ExprKind-F.Chain x xs) e o = other shown.Other refl (ap sort_in (e ∙ exprs.rolls-Chain x xs) ∙ unrolled.chain_sort x xs) o
  kind_opaque (ExprKind-F.List xs s a) e o = other shown.Other refl (ap sort_in (e ∙ exprs.rolls-List xs s a) ∙ unrolled.list_sort xs s a) o
  kind_opaque (ExprKind-F.Paren x) e o = other shown.Other refl (ap sort_in (e ∙ exprs.rolls-Paren x) ∙ unrolled.paren_sort x) o
  kind_opaque (ExprKind-F.Map xs) e o = other shown.Other refl (ap sort_in (e ∙ exprs.rolls-Map xs) ∙ unrolled.map_sort xs) o

argument_opaque : (arg : Argument) → (of_argument arg).opaque ≡ true → IsOpaque (argument_text arg)
argument_opaque arg = by_name arg.name
  where
    by_name : (name : Option (List ℕ)) → (is_some name || is_opaque (expr_shown arg.value).sort) ≡ true
        → IsOpaque (label name ++ (expr_text arg.value ++ dots arg.spread))
    by_name (Some name) e =
        record { first = sign "$"; rest = (name_text name ++ codes ": ") ++ (expr_text arg.value ++ dots arg.spread); is = refl; opaque = refl }
    by_name None e =
        let kind = arg.value.kind in
        opaque_more (expr_text arg.value) (dots arg.spread)
        (kind_opaque kind (out-ExprKind kind) (sym (roll-out-ExprKind kind)) e)

-- ---- arguments behind the name

abbrev given : List Argument → List ℕ
given args = guard (map of_argument args) ++ with_commas true (map argument_text args)

-- arguments with the comment before them that some need
pub record UrlArguments (args : List Argument) (tokens : List Tok) : Type 0 where
  pub items : IsItems (given args) tokens
  pub no_text : (after : List ℕ) → NoText (given args ++ after)

module _ (arg : Argument) (args : List Argument) where
  abbrev inner : List ℕ
  inner = with_commas true (map argument_text (arg ∷ args))

  abbrev others : List ℕ
  others = with_commas false (map argument_text args)

  given_is : (t : Bool) → (of_argument arg).opaque ≡ t → (if t then [] else codes "/**/ ") ++ inner ≡ given (arg ∷ args)
  given_is t e = ap (λ (u : Bool). (if u then [] else codes "/**/ ") ++ inner) (sym e)

  pub opaque_arguments : {tokens : List Tok} → (of_argument arg).opaque ≡ true → IsItems inner tokens → UrlArguments (arg ∷ args) tokens
  opaque_arguments {tokens} o it =
      let first = argument_opaque arg o in record {
        items = subst (λ (t : List ℕ). IsItems t tokens) (given_is true o) it;
        no_text = λ after.
            subst (λ (t : List ℕ). NoText (t ++ after)) (given_is true o)
            (subst (λ (t : List ℕ). NoText ((t ++ others) ++ after)) (sym first.is)
            (opaque first.first ((first.rest ++ others) ++ after) first.opaque));
      }

  pub guarded_arguments : {tokens : List Tok} → (of_argument arg).opaque ≡ false → IsBegun (argument_text arg)
      → IsItems (codes "/**/ " ++ inner) tokens → UrlArguments (arg ∷ args) tokens
  guarded_arguments {tokens} o first it = record {
    items = subst (λ (t : List ℕ). IsItems t tokens) (given_is false o) it;
    no_text = λ after.
        subst (λ (t : List ℕ). NoText (t ++ after)) (given_is false o)
        (subst (λ (t : List ℕ). NoText ((codes "/**/ " ++ (t ++ others)) ++ after)) (sym first.is)
        (guarded first.first ((first.rest ++ others) ++ after) first.black first.opened));
  }

-- ---- the name

-- arguments stand behind that are no raw text
abbrev BeforeArguments : List ℕ → Type 0
BeforeArguments after = (rest : List ℕ) × (after ≡ sign "(" ∷ rest) × NoText rest

-- `url` is no word with a meaning of its own
url_sort : (u r l : ℕ) → is_u u ≡ true → word_sort (u ∷ r ∷ l ∷ []) ≡ sorts.Name
url_sort u r l e = go (u == sign "u") (u == sign "U") refl refl e
  where
    small : (u == sign "u") ≡ true → u ≡ sign "u"
    small f = grind (arith, nat_tests)

    large : (u == sign "U") ≡ true → u ≡ sign "U"
    large f = grind (arith, nat_tests)

    go : (s t : Bool) → (u == sign "u") ≡ s → (u == sign "U") ≡ t → (s || t) ≡ true
        → word_sort (u ∷ r ∷ l ∷ []) ≡ sorts.Name
    go true t f g e = ap (λ (x : ℕ). word_sort (x ∷ r ∷ l ∷ [])) (small f)
    go false true f g e = ap (λ (x : ℕ). word_sort (x ∷ r ∷ l ∷ [])) (large g)
    go false false f g e = absurd (cc)

black : (u : ℕ) → is_u u ≡ true → is_white u ≡ false
black u e = grind (arith, nat_tests)

module _ (source : Source) (i : ℕ) (before : Before) (spaced : Bool)
    (calm : is_calm (behind_gap before (gap_of spaced)) ≡ true) where
  abbrev Named : List ℕ → Type 0
  Named text =
      Segment before (gap_of spaced ++ text) (tok terminals.Word (from_start source i [] 1) ∷ [])
      (written sorts.Name (is_spaced (behind_gap before (gap_of spaced))) terminals.Word ∷ []) befores.Other BeforeArguments

  url_by : (text : List ℕ) → is_url text ≡ true → bytes_at source i ≡ text → Named text
  unfolding byte
  url_by (u ∷ r ∷ l ∷ []) is same_bytes =
      let text = u ∷ r ∷ l ∷ [] in
      let sort = url_sort u r l (and_left (is_u u) _ is) in
      subst
      (λ s. Segment before (gap_of spaced ++ text) (tok terminals.Word (from_start source i [] 1) ∷ [])
      (written s (is_spaced (behind_gap before (gap_of spaced))) terminals.Word ∷ []) befores.Other BeforeArguments) sort
      (token_segment kinds.Word text (terminals.Word ∷ []) (from_start source i [] 1) before spaced BeforeArguments refl
      (ap is_comment sort) (black u (and_left (is_u u) _ is)) (lit< tt)
      (λ new commented at front after sits.
      said_is new at
      ∙ ap (λ (t : List ℕ). record { first = t; rest = [] }) (bytes_sit new commented at front _ after sits ∙ sym same_bytes)
      ∙ sym (said_is source i))
      (λ inside after code b.
      subst (λ (t : List ℕ). piece (text ++ t) inside (behind_gap before (gap_of spaced)) 0 ≡ made kinds.Word 3 changes.Keep)
      (sym b.1) (url_name u r l b.0 is b.2 inside (behind_gap before (gap_of spaced)) code calm)))
  url_by [] is e = absurd (cc)
  url_by (a ∷ []) is e = absurd (cc)
  url_by (a ∷ b ∷ []) is e = absurd (cc)
  url_by (a ∷ b ∷ c ∷ d ∷ text) is e = absurd (cc)

  url_segment : is_url (bytes_at source i) ≡ true → Named (bytes_at source i)
  url_segment is = url_by (bytes_at source i) is refl

url_told : (owned : Bool) (mode : Mode) (spaced : Bool) → is_bounded mode ≡ false
    → Word mode spaced owned true (written sorts.Name spaced terminals.Word ∷ [])
url_told owned mode spaced free =
    named sorts.Name refl
    (both (not (ends_bound mode sorts.Name)) _ (ap not (unbounded mode sorts.Name free)) (either owned)) no_part
  where
    either : (t : Bool) → (t || true) ≡ true
    either true = refl
    either false = refl

-- ---- the call

url_text : (source : Source) (i : ℕ) (namespace : Option Namespaced) (args : List Argument) (span name_span : Span)
    → is_url (bytes_at source i) ≡ true
    → expr_text
    (expression
    (exprs.Call (callee_of namespace (record { parts = parts_between source i (suc i) []; span = name_span })) args) span)
    ≡ (space_text namespace ++ bytes_at source i) ++ (codes "(" ++ (given args ++ codes ")"))
url_text source i namespace args span name_span is =
    let text = bytes_at source i in
    let whole = space_text namespace ++ text in
    let guards = guard (map of_argument args) in
    unrolled.call_is (callee_of namespace (record { parts = parts_between source i (suc i) []; span = name_span })) args
    ∙ ap (λ (t : List ℕ). call_text (record { text = space_text namespace ++ t; url = ends_in_url t }) (map of_argument args))
    (ap (λ (p : Parts). pieces_text manners.Joined (parts_written p)) (parts_are source i)
    ∙ ap (pieces_text manners.Joined) (unrolled.plain_is text))
    ∙ ap (λ (t : Bool). whole ++ ((codes "(" ++ (if t then guards else [])) ++ (arguments_text (map of_argument args) ++ codes ")")))
    (url_ends text is)
    ∙ ap (λ (t : List ℕ). whole ++ ((codes "(" ++ guards) ++ (t ++ codes ")"))) (unrolled.arguments_are args)
    ∙ ap (λ (t : List ℕ). whole ++ (codes "(" ++ t)) (sym (append_assoc guards (with_commas true (map argument_text args)) (codes ")")))
  where
    url_ends : (text : List ℕ) → is_url text ≡ true → ends_in_url text ≡ true
    url_ends [] e = absurd (cc)
    url_ends (b ∷ text) e = ap (λ (t : Bool). t || ends_in_url_from (b == sign "}") text) e

pub has_by : (source : Source) {i k : ℕ} {parts : Parts} {tokens : List Tok} (args : List Argument)
    → (name : SpellsWord source i k parts tokens) → is_url_called source args name ≡ true → has_arguments args ≡ true
has_by source args (spells.named {i} old spells.row_end) e = and_right (is_url (bytes_at source i)) _ e
has_by source args _ e = absurd (cc)

module _ (source : Source) (args : List Argument) {others : List Tok} (it : UrlArguments args others) where
  -- the name and its arguments
  url_whole : (i : ℕ) → is_url (bytes_at source i) ≡ true → (before : Before) (spaced : Bool)
      → is_calm (behind_gap before (gap_of spaced)) ≡ true
      → Segment before (gap_of spaced ++ (bytes_at source i ++ (codes "(" ++ (given args ++ codes ")"))))
      (tok terminals.Word (from_start source i [] 1) ∷ call_tokens others)
      (written sorts.Name (is_spaced (behind_gap before (gap_of spaced))) terminals.Word
      ∷ direct sorts.OpenParen terminals.CallParen
      ∷ (it.items.passed ++ direct sorts.CloseParen terminals.ParenEnd ∷ [])) befores.Other Anything
  url_whole i is before spaced calm =
      let text = given args in
      as_text (append_assoc (gap_of spaced) (bytes_at source i) (codes "(" ++ (text ++ codes ")")))
      (join (url_segment source i before spaced calm is)
      (join (lone_segment (sign "(") (terminals.CallParen ∷ []) befores.Other false refl refl refl (λ inside code. refl))
      (join it.items.segment
      (lone_segment (sign ")") (terminals.ParenEnd ∷ []) befores.Other false refl refl refl (λ inside code. refl))
      (λ after f. (after, refl))) (λ after f. tt))
      (λ after f. (
        (text ++ codes ")") ++ after,
        refl,
        subst NoText (sym (append_assoc text (codes ")") after)) (it.no_text (codes ")" ++ after)),
      )))

  pub url_called_in : {i k : ℕ} {parts : Parts} {tokens : List Tok} (span name_span : Span)
      → (name : SpellsWord source i k parts tokens) → is_url_called source args name ≡ true
      → WrittenAs (AsValue false)
      (expr_text (expression (exprs.Call (callee_of None (record { parts = parts; span = name_span })) args) span))
      (tokens ++ call_tokens others)
  url_called_in span name_span (spells.named {i} old spells.row_end) e =
      let is = and_left (is_url (bytes_at source i)) _ e in
      same (sym (url_text source i None args span name_span is)) refl
      (λ before spaced calm. record {
        passed = _;
        segment = as_behind (λ after f. tt) (url_whole i is before spaced calm);
        told = λ mode free. call (url_told false mode (is_spaced (behind_gap before (gap_of spaced))) free) it.items.told;
      })
  url_called_in span name_span _ e = absurd (cc)

  -- behind a namespace
  owned_written : (at i : ℕ) → WasRead source → Old source at (just terminals.Owner)
      → Old source i (just terminals.Word) → is_url (bytes_at source i) ≡ true
      → WrittenAs (AsValue false)
      (((bytes_at source at ++ codes ".") ++ bytes_at source i) ++ (codes "(" ++ (given args ++ codes ")")))
      (tok terminals.Owner (again.Bytes 1 (bytes_at source at)) ∷ again.sign terminals.OwnerDot
      ∷ tok terminals.Word (from_start source i [] 1) ∷ call_tokens others)
  unfolding byte
  owned_written at i was owner old is before spaced calm =
      let word = old_token source was at owner.lexeme owner.there in
      let n : is_name (sort_of word.kind word.text) ≡ true =
      ap (λ (t : Terminal). fits t (sort_of word.kind word.text)) (sym (only_owner owner.lexeme.terminal owner.kind)) ∙ word.fit in
      let bytes_are = copied_bytes source at owner.lexeme word n in
      let space = bytes_at source at in
      let rest = bytes_at source i ++ (codes "(" ++ (given args ++ codes ")")) in
      let first = copied_name source at owner.lexeme word n terminals.Owner (again.Bytes 1 space) before spaced calm
      (Begins (sign ".")) (dot_parts word.text) (λ new k same_bytes. one_byte new k ∙ same_bytes) in
      let dot = sign_segment kinds.Dot (codes ".") (terminals.OwnerDot ∷ []) befores.Other false
      (λ after. (more : List ℕ) × (after ≡ bytes_at source i ++ more)) refl refl refl (lit< tt)
      (λ inside after code b.
      sign_token kinds.Dot after inside befores.Other refl code refl
      (subst (λ (t : List ℕ). Fits kinds.Dot t) (sym b.1) (name_dotted source i was old b.0))) in record {
        passed = _;
        segment = as_behind (λ after f. tt)
            (as_text
            (ap (λ (t : List ℕ). (gap_of spaced ++ t) ++ (codes "." ++ rest)) (sym bytes_are)
            ∙ append_assoc (gap_of spaced) space (codes "." ++ rest)
            ∙ ap (λ (t : List ℕ). gap_of spaced ++ t)
            (sym (append_assoc space (codes ".") rest)
            ∙ sym (append_assoc (space ++ codes ".") (bytes_at source i) (codes "(" ++ (given args ++ codes ")")))))
            (join first
            (join dot (url_whole i is befores.Other false refl)
            (λ after f. (
              (codes "(" ++ (given args ++ codes ")")) ++ after,
              append_assoc (bytes_at source i) (codes "(" ++ (given args ++ codes ")")) after,
            )))
            (λ after f. (rest ++ after, refl))));
        told = λ mode free. owned_call (sort_of word.kind word.text) n (url_told true mode false free) it.items.told;
      }

  pub url_owned_in : {at i k : ℕ} {parts : Parts} {tokens : List Tok} → WasRead source → (span name_span : Span)
      → Old source at (just terminals.Owner) → (name : SpellsWord source i k parts tokens)
      → is_url_called source args name ≡ true
      → WrittenAs (AsValue false)
      (expr_text
      (expression
      (exprs.Call (callee_of (Some (namespaced source at)) (record { parts = parts; span = name_span })) args) span))
      (tok terminals.Owner (again.Bytes 1 (bytes_at source at)) ∷ again.sign terminals.OwnerDot
      ∷ (tokens ++ call_tokens others))
  url_owned_in {at} was span name_span owner (spells.named {i} old spells.row_end) e =
      let is = and_left (is_url (bytes_at source i)) _ e in
      same (sym (url_text source i (Some (namespaced source at)) args span name_span is)) refl
      (owned_written at i was owner old is)
  url_owned_in was span name_span owner _ e = absurd (cc)
