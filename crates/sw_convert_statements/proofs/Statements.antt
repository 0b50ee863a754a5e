-- Statements one after another are written as their tokens, with blocks through any depth.
use Rattle.std.proofs.Common.{◌≡◌, ℕ, suc, ◌+◌, Bool, true, false, List, [], ◌∷◌, ◌++◌, map, Option, Some, None, inl, append-nil, refl, sym, ◌∙◌, ap, subst, append_assoc}
use Rattle.std.specs.Prelude.{codes}
use Rattle.sw_text_scan.specs.Bytes.{sign}
use Rattle.sw_tree.specs.declared.callable.Kind.TheVariants as kinds
use Rattle.sw_tree.specs.declared.statement.Branch.{Branch}
use Rattle.sw_tree.specs.declared.statement.Statement.{Statement}
use Rattle.sw_tree.specs.declared.statement.Statement.TheVariants as statements
use Rattle.sw_tree.specs.declared.text.Text.{Text}
use Rattle.sw_tree.specs.declared.text.Parts.TheVariants.{Mixed}
use Rattle.sw_tokens.specs.declared.pieces.Before.{Before}
use Rattle.sw_tokens.specs.declared.pieces.Before.TheVariants as befores
use Rattle.sw_tokens.specs.Tokens.{is_spaced}
use Rattle.sw_parse_terminals.specs.declared.terminal.Terminal.TheVariants as terminals
use Rattle.sw_parse_lexemes.specs.declared.sort.Sort.TheVariants as sorts
use Rattle.sw_parse_lexemes.specs.declared.state.Mode.{Mode}
use Rattle.sw_parse_lexemes.specs.declared.state.Mode.TheVariants as modes
use Rattle.sw_parse_lexemes.specs.Brackets.{is_custom}
use Rattle.sw_parse_table.specs.declared.source.Source.{Source}
use Rattle.sw_parse_table.specs.Sources.{text_between}
use Rattle.sw_parse_table.specs.Values.{qualified_of}
use Rattle.sw_parse_table.specs.Actions.{branch_of, mixin_of, name_at, names_at, stands_at, flags_at, url_at}
use Rattle.sw_convert_written.specs.Escapes.{ends_unclosed}
use Rattle.sw_convert_written.specs.Expressions.{expr_text}
use Rattle.sw_convert_written.specs.Heads.{plain_text, selector_text}
use Rattle.sw_convert_written.specs.Statements.{ShownStatement, indent, inner_text, block_text, branch_shown, branches_text, otherwise_text, shown_optional, statement_shown}
use Rattle.sw_convert_written.proofs.UnrolledStatements as unrolled
use Rattle.sw_convert_passing.specs.Written.{Written}
use Rattle.sw_convert_again.specs.Tokens.{Tok}
use Rattle.sw_convert_again.specs.Tokens as again
use Rattle.sw_convert_again.specs.Params.{dollar_tokens}
use Rattle.sw_convert_again.specs.Spells.{within}
use Rattle.sw_convert_again.specs.Statements.{SpellsStatement, SpellsBlock, SpellsBranches, SpellsElse, SpellsStatements, ended}
use Rattle.sw_convert_again.specs.Statements as spells
use Rattle.sw_convert_tokens.specs.Written.{is_calm}
use Rattle.sw_convert_tokens.proofs.Signs.{Anything}
use Rattle.sw_convert_heads_passing.specs.Blocks.{end_sign, open_sign}
use Rattle.sw_convert_heads_passing.specs.Rules.{is_rule}
use Rattle.sw_convert_heads_passing.specs.Flow.{else_head}
use Rattle.sw_convert_heads_passing.specs.Statements.{alone, Statements, no_statement, statement_ended, statement_comment}
use Rattle.sw_convert_heads_passing.proofs.Fronts.{begins_code, code_before, front_code, rule_code}
use Rattle.sw_convert_texts.specs.Comments.{CommentWritten}
use Rattle.sw_convert_texts.specs.RawTexts.{SheetSegment}
use Rattle.sw_convert_statements.specs.Segments.{seams, FrontWritten, ElseWritten}
use Rattle.sw_convert_statements.specs.Statements.{HasFronts, BranchesHaveFronts, ElseHasFronts, ListHasFronts}
use Rattle.sw_convert_statements.specs.Written.{AreLinesWritten, StatementsAreWritten}
use Rattle.sw_convert_statements.proofs.Keywords.{text_ends, keyword}
use Rattle.sw_convert_statements.proofs.Segments.{sheet, join, as_behind}
use Rattle.sw_convert_statements.proofs.Gaps.{begins_token, code_token, comment_token, gapped}
use Rattle.sw_convert_statements.proofs.Blocks.{end_segment, indent_white, line_gap, front_head, rule_head, IsBlock, block_written}

-- a statement up to its last line feed
pub record IsStatement (level : ℕ) (statement : Statement) (tokens : List Tok) (before : Before) : Type 0 where
  pub text : List ℕ
  pub text_is : (statement_shown statement).text level ≡ text ++ codes "\n"
  pub passed : List Written
  pub begins : begins_token passed ≡ true
  pub end : Before
  pub segment : SheetSegment before text tokens passed end Anything
  pub extends : {rest : List Written} → Statements false rest → Statements false (passed ++ rest)

-- a statement that a `;` ends
line_in : {mode : Mode} {level : ℕ} {statement : Statement} {text : List ℕ} {tokens : List Tok} {before : Before}
    → FrontWritten mode text tokens → is_calm before ≡ true
    → (statement_shown statement).text level ≡ text ++ codes ";\n" → IsStatement level statement (ended tokens) before
line_in {level = level} {text = text} {before = before} front calm shown =
    let it = front before calm in record {
      text = text ++ codes ";";
      text_is = shown ∙ sym (append_assoc text (codes ";") (codes "\n"));
      passed = it.passed ++ end_sign (is_spaced it.end) ∷ [];
      begins = code_token _ (code_before it.passed _ (front_code it.front));
      end = befores.Other;
      segment = join it.segment (end_segment it.end) (λ after ok. record { ends = inl refl; closed = refl });
      extends = λ {rest} more.
          subst (λ (l : List Written). Statements false l) (sym (append_assoc it.passed (end_sign (is_spaced it.end) ∷ []) rest))
          (subst (λ (b : Bool). Statements b (it.passed ++ end_sign (is_spaced it.end) ∷ rest)) it.first
          (statement_ended (is_spaced it.end) it.front more));
    }

-- a loud comment
comment_in : {level : ℕ} {tokens : List Tok} {before : Before} (text : Text) → CommentWritten (plain_text text) tokens
    → is_calm before ≡ true → IsStatement level (statements.Comment text) tokens before
comment_in {level} {before = before} text it calm =
    let comment = it before calm in record {
      text = plain_text text;
      text_is = unrolled.comment_line text level;
      passed = comment.passed;
      begins = comment_token comment.comment;
      end = comment.end;
      segment = comment.segment;
      extends = λ more. statement_comment comment.comment more;
    }

-- one that a block ends
block_in : {level : ℕ} {statement : Statement} {head : List ℕ} {shown : List ShownStatement} {tokens : List Tok}
    {before : Before} → IsBlock false level head shown tokens before
    → (statement_shown statement).text level ≡ block_text level head shown → IsStatement level statement tokens before
block_in it is = record {
  text = it.text;
  text_is = is ∙ it.text_is;
  passed = it.passed;
  begins = code_token it.passed it.code;
  end = befores.Other;
  segment = it.segment;
  extends = λ more. it.extends more;
}

retold : {level : ℕ} {statement : Statement} {before : Before} {ks ls : List Tok} → ks ≡ ls
    → IsStatement level statement ks before → IsStatement level statement ls before
retold {level} {statement} {before} e it = subst (λ (l : List Tok). IsStatement level statement l before) e it

rule_begins : (passed : List Written) (unclosed : Bool) → is_rule ((passed ++ seams unclosed) ++ open_sign true ∷ []) ≡ true
    → begins_code passed ≡ true
rule_begins [] true r = absurd (cc)
rule_begins [] false r = absurd (cc)
rule_begins (one ∷ passed) unclosed r = rule_code ((one ∷ passed ++ seams unclosed) ++ open_sign true ∷ []) r

pub empty_segment : (before : Before) → SheetSegment before [] [] [] before Anything
empty_segment before = record {
  joints = [];
  spelling = refl;
  seen = refl;
  written = refl;
  last = refl;
  tells = tt;
  stand = λ after ok. refl;
}

-- the further branches of an `@if`, and its `@else`
record IsTail (level : ℕ) (written : List ℕ) (tokens : List Tok) (before : Before) : Type 0 where
  text : List ℕ
  text_is : codes "\n" ++ written ≡ text ++ codes "\n"
  passed : List Written
  end : Before
  segment : SheetSegment before text tokens passed end Anything
  extends : {rest : List Written} → Statements false rest → (first : Bool) × Statements first (passed ++ rest)

-- a block on a line of its own before them
tail_in : {level : ℕ} {head written : List ℕ} {shown : List ShownStatement} {ks ls : List Tok} {else_first : Bool}
    {before : Before} → IsBlock else_first level head shown ks befores.White → IsTail level written ls befores.Other
    → IsTail level (indent level ++ (block_text level head shown ++ written)) (ks ++ ls) before
tail_in {level} {head} {written} {shown} {else_first = else_first} {before = before} it tail = record {
  text = (line_gap level ++ it.text) ++ tail.text;
  text_is = sym (append_assoc (line_gap level) (block_text level head shown) written)
      ∙ ap (λ (t : List ℕ). (line_gap level ++ t) ++ written) it.text_is
      ∙ ap (λ (t : List ℕ). t ++ written) (sym (append_assoc (line_gap level) it.text (codes "\n")))
      ∙ append_assoc (line_gap level ++ it.text) (codes "\n") written
      ∙ ap (λ (t : List ℕ). (line_gap level ++ it.text) ++ t) tail.text_is
      ∙ sym (append_assoc (line_gap level ++ it.text) tail.text (codes "\n"));
  passed = it.passed ++ tail.passed;
  end = tail.end;
  segment = join (gapped (sign "\n") (indent level) (indent_white level) (code_token it.passed it.code) it.segment before) tail.segment
      (λ after ok. tt);
  extends = λ {rest} more.
      let (first, listed) = tail.extends more in (
        else_first,
        subst (λ (l : List Written). Statements else_first l) (sym (append_assoc it.passed tail.passed rest))
            (it.extends listed),
      );
}

nothing_behind : (level : ℕ) (before : Before) → IsTail level [] [] before
nothing_behind level before = record {
  text = [];
  text_is = refl;
  passed = [];
  end = before;
  segment = empty_segment before;
  extends = λ more. (false, more);
}

retail : {level : ℕ} {before : Before} {xs ys : List ℕ} {ks ls : List Tok} → xs ≡ ys → ks ≡ ls
    → IsTail level xs ks before → IsTail level ys ls before
retail {level} {before} {xs} {ys} {ks} {ls} e f it =
    subst (λ (t : List ℕ). IsTail level t ls before) e (subst (λ (l : List Tok). IsTail level xs l before) f it)

-- `@else`
else_written : ElseWritten modes.Else (codes "@else") (again.sign terminals.AtElse ∷ [])
else_written before calm = record {
  passed = _;
  first = refl;
  front = alone else_head;
  end = befores.Other;
  loose = λ u. refl;
  segment = as_behind (λ after e. text_ends (codes "@else") after (keyword terminals.AtElse sorts.AtElse refl).closed e) (sheet ((keyword terminals.AtElse sorts.AtElse refl).segment before calm));
}

-- ---- statements by their kinds

-- a head and its block
nested : {mode : Mode} {level : ℕ} {statement : Statement} {head : List ℕ} {shown : List ShownStatement}
    {ks inner : List Tok} {before : Before} → is_custom mode ≡ false → FrontWritten mode head ks
    → AreLinesWritten (level + 1) shown inner befores.Other → is_calm before ≡ true
    → (statement_shown statement).text level ≡ block_text level head shown
    → IsStatement level statement (ks ++ within (again.sign terminals.Open) inner terminals.Close) before
nested {level = level} {shown = shown} {before = before} custom front inside calm is =
    block_in (block_written level shown (front_head custom (front before calm)) inside) is

mutual
  pub statement_in : {source : Source} {i j : ℕ} {statement : Statement} {tokens : List Tok}
      → (spelt : SpellsStatement source i j statement tokens) → HasFronts spelt → (level : ℕ) (before : Before)
      → is_calm before ≡ true → IsStatement level statement tokens before
  statement_in {source} (spells.return_line {value = value} span old inner end) front level before calm =
      line_in front calm (unrolled.return_line (record { value = value; span = span }) level)
  statement_in {source} (spells.say_line {value = value} level_of span old inner end) front level before calm =
      line_in front calm (unrolled.say_line (record { level = level_of; value = value; span = span }) level)
  statement_in {source} (spells.variable_line {i} {value = value} {places = places} span one two three inner flags end) front level before calm =
      line_in front calm (unrolled.variable_line (record { name = name_at source (suc i); value = value; flags = flags_at source places; span = span }) level)
  statement_in {source} (spells.assignment_line {i} {value = value} {places = places} span target_span one two three four five inner flags end) front level before calm =
      line_in front calm (unrolled.assignment_line (record { target = qualified_of source i (suc (suc (suc i))); target_span = target_span; value = value; flags = flags_at source places; span = span }) level)
  statement_in {source} (spells.import_line {i} {k} {values = values} span old inner end) front level before calm =
      line_in front calm (unrolled.import_line (record { text = text_between source (suc i) k values; span = span }) level)
  statement_in {source} (spells.extend_line {i} {k} {values = values} span old inner end) front level before calm =
      line_in front calm (unrolled.extend_line (record { text = text_between source (suc i) k values; span = span }) level)
  statement_in {source} (spells.content_line {arguments = arguments} span old given end) front level before calm =
      line_in front calm (unrolled.content_line (record { arguments = arguments; span = span }) level)
  statement_in {source} (spells.charset_line span one two end) front level before calm =
      line_in front calm (unrolled.charset_line span level)
  statement_in {source} (spells.declaration_line {parts = parts} {value = value} span text_span word mark inner end) front level before calm =
      line_in front calm (unrolled.declaration_line (record { property = record { parts = parts; span = text_span }; value = value; span = span }) level)
  statement_in {source} (spells.custom_line {parts = parts} {value = value} span text_span name mark inner end) front level before calm =
      line_in front calm (unrolled.custom_line (record { property = record { parts = parts; span = text_span }; value = value; span = span }) level)
  statement_in {source} (spells.use_line {i} {namespace = namespace} {givens = givens} span one two name settings end) front level before calm =
      line_in front calm (unrolled.use_line (record { url = url_at source (suc i); namespace = namespace; configuration = givens; span = span }) level)
  statement_in {source} (spells.forward_line {i} {prefix = prefix} {filter = filter} {givens = givens} span one two renamed members settings end) front level before calm =
      line_in front calm (unrolled.forward_line (record { url = url_at source (suc i); prefix = prefix; filter = filter; configuration = givens; span = span }) level)
  statement_in {source} (spells.include_line {namespace = namespace} {name = name} {arguments = arguments} span name_span old mixin given using end) front level before calm =
      line_in front calm (unrolled.include_lines (mixin_of source namespace name name_span arguments) None span level)
  statement_in {source} (spells.at_rule_line {parts = parts} {prelude = prelude} span text_span name raw end) front level before calm =
      line_in front calm (unrolled.at_rule_lines (record { name = record { parts = parts; span = text_span }; prelude = prelude; block = None; span = span }) level)
  statement_in (spells.comment_line {text = text} comment) front level before calm = comment_in text front calm
  statement_in {source} (spells.function_block {i} {params = params} span one two head (spells.braces {list = list} opens braced closes)) (front, inside) level before calm =
      nested refl front (inner_in braced inside (level + 1) befores.Other) calm
      (unrolled.callable_lines (record { kind = kinds.Function; name = name_at source (suc i); params = params; block = list; span = span }) level)
  statement_in {source} (spells.mixin_block {i} {params = params} span one two head (spells.braces {list = list} opens braced closes)) (front, inside) level before calm =
      nested refl front (inner_in braced inside (level + 1) befores.Other) calm
      (unrolled.callable_lines (record { kind = kinds.Mixin; name = name_at source (suc i); params = params; block = list; span = span }) level)
  statement_in {source} (spells.include_block {namespace = namespace} {name = name} {arguments = arguments} {params = params} {tokens = tokens} {others = others} {more = more} span name_span old mixin given using (spells.braces {list = list} opens braced closes)) (front, inside) level before calm =
      retold (ap (λ (l : List Tok). again.sign terminals.AtInclude ∷ l) (append_assoc tokens (others ++ more) _ ∙ ap (λ (l : List Tok). tokens ++ l) (append_assoc others more _)))
      (nested refl front (inner_in braced inside (level + 1) befores.Other) calm
      (unrolled.include_lines (mixin_of source namespace name name_span arguments) (Some (record { params = params; block = list })) span level))
  statement_in {source} (spells.at_rule_block {parts = parts} {prelude = prelude} {tokens = tokens} {others = others} span text_span name raw (spells.braces {list = list} opens braced closes)) (front, inside) level before calm =
      retold (append_assoc tokens others _)
      (nested refl front (inner_in braced inside (level + 1) befores.Other) calm
      (unrolled.at_rule_lines (record { name = record { parts = parts; span = text_span }; prelude = prelude; block = Some list; span = span }) level))
  statement_in {source} (spells.properties_block {parts = parts} {tokens = tokens} span text_span word mark (spells.braces {list = list} opens braced closes)) (front, inside) level before calm =
      retold (append_assoc tokens (again.sign terminals.Colon ∷ []) _)
      (nested refl front (inner_in braced inside (level + 1) befores.Other) calm
      (unrolled.properties_lines (record { property = record { parts = parts; span = text_span }; value = None; block = list; span = span }) level))
  statement_in {source} (spells.properties_value_block {parts = parts} {value = value} {tokens = tokens} {others = others} span text_span word mark inner (spells.braces {list = list} opens braced closes)) (front, inside) level before calm =
      retold (append_assoc tokens (again.sign terminals.Colon ∷ others) _)
      (nested refl front (inner_in braced inside (level + 1) befores.Other) calm
      (unrolled.properties_lines (record { property = record { parts = parts; span = text_span }; value = Some value; block = list; span = span }) level))
  statement_in {source} (spells.at_root_block span old (spells.braces {list = list} opens braced closes)) (front, inside) level before calm =
      nested refl front (inner_in braced inside (level + 1) befores.Other) calm
      (unrolled.at_root_lines (record { selector = None; block = list; span = span }) level)
  statement_in {source} (spells.at_root_text_block {i} {k} {values = values} span old raw (spells.braces {list = list} opens braced closes)) (front, inside) level before calm =
      nested refl front (inner_in braced inside (level + 1) befores.Other) calm
      (unrolled.at_root_lines (record { selector = Some (text_between source (suc i) k values); block = list; span = span }) level)
  statement_in {source} (spells.each_block {i} {places = places} {value = value} {tokens = tokens} {others = others} span one two three names in_word inner (spells.braces {list = list} opens braced closes)) (front, inside) level before calm =
      retold (ap (λ (l : List Tok). again.sign terminals.AtEach ∷ (dollar_tokens (name_at source (suc (suc i))) ++ l)) (append_assoc tokens (again.sign terminals.In ∷ others) _))
      (nested refl front (inner_in braced inside (level + 1) befores.Other) calm
      (unrolled.each_lines (record { names = names_at source (suc (suc i) ∷ places); value = value; block = list; span = span }) level))
  statement_in {source} (spells.for_block {i} {c} {from = from} {to = to} {tokens = tokens} {others = others} span one two three four low old high (spells.braces {list = list} opens braced closes)) (front, inside) level before calm =
      retold (ap (λ (l : List Tok). again.sign terminals.AtFor ∷ (dollar_tokens (name_at source (suc (suc i))) ++ again.sign terminals.From ∷ l)) (append_assoc tokens (again.sign old.lexeme.terminal ∷ others) _))
      (nested refl front (inner_in braced inside (level + 1) befores.Other) calm
      (unrolled.for_lines (record { name = name_at source (suc (suc i)); bounds = record { from = from; to = to; through = stands_at source c terminals.Through }; block = list; span = span }) level))
  statement_in {source} (spells.while_block {value = value} span old inner (spells.braces {list = list} opens braced closes)) (front, inside) level before calm =
      nested refl front (inner_in braced inside (level + 1) befores.Other) calm
      (unrolled.while_lines (record { condition = value; block = list; span = span }) level)
  statement_in {source} (spells.supports_block {i} {k} {values = values} span old raw (spells.braces {list = list} opens braced closes)) (front, inside) level before calm =
      nested refl front (inner_in braced inside (level + 1) befores.Other) calm
      (unrolled.supports_lines (record { condition = text_between source (suc i) k values; block = list; span = span }) level)
  statement_in {source} (spells.media_block {list = queries} span text_span old asked (spells.braces {list = list} opens braced closes)) (front, inside) level before calm =
      nested refl front (inner_in braced inside (level + 1) befores.Other) calm
      (unrolled.media_lines (record { queries = record { parts = Mixed queries; span = text_span }; block = list; span = span }) level)
  statement_in {source} (spells.rule_block {i} {k} {values = values} span raw (spells.braces {list = list} opens braced closes))
      (front, inside) level before calm =
      let it = front before calm in
      block_in (block_written level (map statement_shown list)
      (rule_head it (rule_begins it.passed (ends_unclosed (selector_text (text_between source i k values))) it.rule))
      (inner_in braced inside (level + 1) befores.Other))
      (unrolled.rule_lines (record { selector = text_between source i k values; block = list; span = span }) level)
  statement_in {source}
      (spells.if_block {value = value} {branches = branches} {otherwise = otherwise} {tokens = tokens} span old inner
      (spells.braces {list = list} {tokens = ks} opens braced closes) further last)
      (front, inside, others, final) level before calm =
      let one = block_written level (map statement_shown list) (front_head refl (front before calm))
      (inner_in braced inside (level + 1) befores.Other) in
      let tail = tail_of further others level (λ behind. else_of last final level behind) befores.Other in
      let rest = branches_text level false (map branch_shown branches) ++ otherwise_text level (shown_optional otherwise) in
      let bt = block_text level (codes "@if " ++ expr_text value) (map statement_shown list) in
      retold (ap (λ (l : List Tok). again.sign terminals.AtIf ∷ l) (append_assoc tokens _ _))
      (record {
        text = one.text ++ tail.text;
        text_is = unrolled.if_lines (branch_of value list ∷ branches) otherwise span level
            ∙ append_assoc bt (branches_text level false (map branch_shown branches)) (otherwise_text level (shown_optional otherwise))
            ∙ ap (λ (t : List ℕ). t ++ rest) one.text_is ∙ append_assoc one.text (codes "\n") rest
            ∙ ap (λ (t : List ℕ). one.text ++ t) tail.text_is ∙ sym (append_assoc one.text tail.text (codes "\n"));
        passed = one.passed ++ tail.passed;
        begins = code_token (one.passed ++ tail.passed) (code_before one.passed tail.passed one.code);
        end = tail.end;
        segment = join one.segment tail.segment (λ after ok. tt);
        extends = λ {rest} more.
            let (first, listed) = tail.extends more in
            subst (λ (l : List Written). Statements false l) (sym (append_assoc one.passed tail.passed rest))
            (one.extends listed);
      })

  -- the further branches before what stands behind them
  tail_of : {source : Source} {i m : ℕ} {branches : List Branch} {tokens : List Tok}
      → (further : SpellsBranches source i m branches tokens) → BranchesHaveFronts further → (level : ℕ)
      → {written : List ℕ} {others : List Tok} → ((before : Before) → IsTail level written others before)
      → (before : Before)
      → IsTail level (branches_text level false (map branch_shown branches) ++ written) (tokens ++ others) before
  tail_of spells.no_branches none level last before = last before
  tail_of
      (spells.more_branches {value = value} {branches = branches} {tokens = tokens} {more = more_tokens} old inner
      (spells.braces {list = list} {tokens = ks} opens braced closes) more)
      (front, inside, fronts) level {written = o} {others = last_tokens} last before =
      let bt = block_text level (codes "@else if " ++ expr_text value) (map statement_shown list) in
      let bs = branches_text level false (map branch_shown branches) in
      retail
      (sym (append_assoc (indent level) (bt ++ bs) o ∙ ap (λ (t : List ℕ). indent level ++ t) (append_assoc bt bs o)))
      (ap (λ (l : List Tok). again.sign terminals.AtElseIf ∷ again.sign terminals.If ∷ l)
      (append_assoc tokens (within (again.sign terminals.Open) ks terminals.Close) (more_tokens ++ last_tokens)
      ∙ ap (λ (l : List Tok). tokens ++ l) (sym (append_assoc (within (again.sign terminals.Open) ks terminals.Close) more_tokens last_tokens))
      ∙ sym (append_assoc tokens (within (again.sign terminals.Open) ks terminals.Close ++ more_tokens) last_tokens)))
      (tail_in (block_written level (map statement_shown list) (front_head refl (front befores.White refl))
      (inner_in braced inside (level + 1) befores.Other)) (tail_of more fronts level last befores.Other))

  -- `@else`
  else_of : {source : Source} {i j : ℕ} {otherwise : Option (List Statement)} {tokens : List Tok}
      → (last : SpellsElse source i j otherwise tokens) → ElseHasFronts last → (level : ℕ) (before : Before)
      → IsTail level (otherwise_text level (shown_optional otherwise)) tokens before
  else_of spells.no_else final level before = nothing_behind level before
  else_of (spells.else_block old (spells.braces {list = list} opens braced closes)) final level before =
      retail (ap (λ (t : List ℕ). indent level ++ t) (append-nil _)) (append-nil _)
      (tail_in (block_written level (map statement_shown list) (front_head refl (else_written befores.White refl))
      (inner_in braced final (level + 1) befores.Other)) (nothing_behind level befores.Other))

  -- statements, each on a line of its own
  inner_in : {source : Source} {i j : ℕ} {list : List Statement} {tokens : List Tok}
      → (spelt : SpellsStatements source i j list tokens) → ListHasFronts spelt → (level : ℕ) (before : Before)
      → AreLinesWritten level (map statement_shown list) tokens before
  inner_in spells.no_statements none level before = record {
    text = [];
    text_is = refl;
    passed = [];
    listed = no_statement;
    end = before;
    segment = empty_segment before;
  }
  inner_in (spells.lone_semicolon old more) fronts level before = inner_in more fronts level before
  inner_in (spells.more_statements {one = statement} {list = list} one more) (front, fronts) level before =
      let it = statement_in one front level befores.White refl in
      let rest = inner_in more fronts level it.end in
      let shown = inner_text level (map statement_shown list) in record {
        text = (line_gap level ++ it.text) ++ rest.text;
        text_is = sym (append_assoc (line_gap level) ((statement_shown statement).text level) shown)
            ∙ ap (λ (t : List ℕ). (line_gap level ++ t) ++ shown) it.text_is
            ∙ ap (λ (t : List ℕ). t ++ shown) (sym (append_assoc (line_gap level) it.text (codes "\n")))
            ∙ append_assoc (line_gap level ++ it.text) (codes "\n") shown
            ∙ ap (λ (t : List ℕ). (line_gap level ++ it.text) ++ t) rest.text_is
            ∙ sym (append_assoc (line_gap level ++ it.text) rest.text (codes "\n"));
        passed = it.passed ++ rest.passed;
        listed = it.extends rest.listed;
        end = rest.end;
        segment = join (gapped (sign "\n") (indent level) (indent_white level) it.begins it.segment before) rest.segment
            (λ after ok. tt);
      }

pub statements_written : StatementsAreWritten
statements_written source i j list tokens spelt fronts level before = inner_in spelt fronts level before
