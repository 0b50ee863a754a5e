-- The statements of a sheet are written as their tokens, with blank lines between them.
use Rattle.std.proofs.Common.{◌≡◌, ℕ, Bool, true, false, ◌&&◌, if◌then◌else◌, List, [], ◌∷◌, ◌++◌, map, append-nil, refl, sym, ◌∙◌, ap, append_assoc}
use Rattle.std.specs.Prelude.{codes}
use Rattle.std.specs.List.{list_all}
use Rattle.sw_text_scan.specs.Bytes.{sign, is_white}
use Rattle.sw_tree.specs.declared.statement.Statement.{Statement}
use Rattle.sw_tokens.specs.declared.pieces.Before.{Before}
use Rattle.sw_tokens.specs.declared.pieces.Before.TheVariants as befores
use Rattle.sw_parse_table.specs.declared.source.Source.{Source}
use Rattle.sw_convert_written.specs.Statements.{ShownStatement, blank, top_text, statement_shown}
use Rattle.sw_convert_passing.specs.Written.{Written}
use Rattle.sw_convert_again.specs.Tokens.{Tok}
use Rattle.sw_convert_again.specs.Statements.{SpellsStatements}
use Rattle.sw_convert_again.specs.Statements as spells
use Rattle.sw_convert_heads_passing.specs.Statements.{Statements, no_statement}
use Rattle.sw_convert_texts.specs.RawTexts.{SheetSegment}
use Rattle.sw_convert_statements.specs.Segments.{Anything}
use Rattle.sw_convert_statements.specs.Statements.{ListHasFronts}
use Rattle.sw_convert_statements.specs.Sheets.{IsSheetWritten, SheetsAreWritten}
use Rattle.sw_convert_statements.proofs.Segments.{join}
use Rattle.sw_convert_statements.proofs.Gaps.{gapped}
use Rattle.sw_convert_statements.proofs.Statements.{statement_in, empty_segment}

-- what stands behind a statement of the top level
abbrev top_behind : ShownStatement → List ShownStatement → List ℕ
top_behind before [] = []
top_behind before (next ∷ shown) = blank before next ++ top_text (next ∷ shown)

top_is : (first : ShownStatement) (shown : List ShownStatement)
    → top_text (first ∷ shown) ≡ first.text 0 ++ top_behind first shown
top_is first [] = sym (append-nil (first.text 0))
top_is first (next ∷ shown) = refl

blank_white : (before next : ShownStatement) → list_all is_white (codes "\n" ++ blank before next) ≡ true
blank_white before next = go (before.block && next.block)
  where
    go : (t : Bool) → list_all is_white (codes "\n" ++ (if t then codes "\n" else [])) ≡ true
    go true = refl
    go false = refl

-- further statements, up to the last line feed
record IsRest (before_them : ShownStatement) (shown : List ShownStatement) (tokens : List Tok) (before : Before) :
    Type 0 where
  text : List ℕ
  text_is : codes "\n" ++ top_behind before_them shown ≡ text ++ codes "\n"
  passed : List Written
  listed : Statements false passed
  end : Before
  segment : SheetSegment before text tokens passed end Anything

rest_in : {source : Source} {i j : ℕ} {list : List Statement} {tokens : List Tok}
    → (spelt : SpellsStatements source i j list tokens) → ListHasFronts spelt → (before_them : ShownStatement)
    (before : Before) → IsRest before_them (map statement_shown list) tokens before
rest_in spells.no_statements none before_them before = record {
  text = [];
  text_is = refl;
  passed = [];
  listed = no_statement;
  end = before;
  segment = empty_segment before;
}
rest_in (spells.lone_semicolon old more) fronts before_them before = rest_in more fronts before_them before
rest_in (spells.more_statements {one = statement} {list = list} one more) (front, fronts) before_them before =
    let shown = statement_shown statement in
    let it = statement_in one front 0 befores.White refl in
    let rest = rest_in more fronts shown it.end in
    let gap = codes "\n" ++ blank before_them shown in
    let behind = top_behind shown (map statement_shown list) in record {
      text = (gap ++ it.text) ++ rest.text;
      text_is = ap (λ (t : List ℕ). gap ++ t) (top_is shown (map statement_shown list))
          ∙ sym (append_assoc gap (shown.text 0) behind)
          ∙ ap (λ (t : List ℕ). (gap ++ t) ++ behind) it.text_is
          ∙ ap (λ (t : List ℕ). t ++ behind) (sym (append_assoc gap it.text (codes "\n")))
          ∙ append_assoc (gap ++ it.text) (codes "\n") behind
          ∙ ap (λ (t : List ℕ). (gap ++ it.text) ++ t) rest.text_is
          ∙ sym (append_assoc (gap ++ it.text) rest.text (codes "\n"));
      passed = it.passed ++ rest.passed;
      listed = it.extends rest.listed;
      end = rest.end;
      segment = join (gapped (sign "\n") (blank before_them shown) (blank_white before_them shown) it.begins it.segment before)
          rest.segment (λ after ok. tt);
    }

sheet_in : {source : Source} {i j : ℕ} {list : List Statement} {tokens : List Tok}
    → (spelt : SpellsStatements source i j list tokens) → ListHasFronts spelt → IsSheetWritten list tokens
sheet_in spells.no_statements none = record {
  text = [];
  text_is = refl;
  passed = [];
  listed = no_statement;
  end = befores.Other;
  segment = empty_segment befores.Other;
}
sheet_in (spells.lone_semicolon old more) fronts = sheet_in more fronts
sheet_in (spells.more_statements {one = statement} {list = list} one more) (front, fronts) =
    let shown = statement_shown statement in
    let it = statement_in one front 0 befores.Other refl in
    let rest = rest_in more fronts shown it.end in
    let behind = top_behind shown (map statement_shown list) in record {
      text = it.text ++ rest.text;
      text_is = top_is shown (map statement_shown list) ∙ ap (λ (t : List ℕ). t ++ behind) it.text_is
          ∙ append_assoc it.text (codes "\n") behind ∙ ap (λ (t : List ℕ). it.text ++ t) rest.text_is
          ∙ sym (append_assoc it.text rest.text (codes "\n"));
      passed = it.passed ++ rest.passed;
      listed = it.extends rest.listed;
      end = rest.end;
      segment = join it.segment rest.segment (λ after ok. tt);
    }

pub sheets_written : SheetsAreWritten
sheets_written source i j list tokens spelt fronts = sheet_in spelt fronts
