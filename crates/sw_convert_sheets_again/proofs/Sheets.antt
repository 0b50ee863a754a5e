-- Every statement, every block and every sheet is read again.
use Rattle.std.proofs.Common.{◌≡◌, ℕ, zero, suc, List, [], ◌∷◌, ◌++◌, map, inl, inr, refl, sym, subst, arith, append-nil}
use Rattle.sw_parse_grammar.specs.Grammar.{Grammar, Row, done, then}
use Rattle.sw_tree.specs.declared.statement.Statement.{Statement}
use Rattle.sw_parse_table.specs.declared.source.Source.{Source}
use Rattle.sw_parse_terminals.specs.declared.terminal.Terminal.TheVariants as terminals
use Rattle.sw_parse_terminals.specs.Numbers.{just}
use Rattle.sw_parse_table.specs.Parts.{Part, Form, States}
use Rattle.sw_parse_table.specs.Statements.{set, assigned, declaration, custom, comment, rule, use_, forward, function, mixin, include, content, return, warn, debug, error, if_, each, for_, while_, media, supports, at_root, charset, import, extend, at, plain_statement, load_statement, member_statement, flow_statement, css_statement, statement}
use Rattle.sw_convert_alike.specs.Statements.{LikeBlock}
use Rattle.sw_convert_alike.specs.Statements as alike
use Rattle.sw_convert_again.specs.Tokens.{Tok, Stands, Old}
use Rattle.sw_convert_again.specs.Again.{Reads}
use Rattle.sw_convert_again.specs.Statements.{SpellsStatements, no_statements, lone_semicolon, more_statements}
use Rattle.sw_convert_again.specs.Claims.{IsStatementAgain, LinesAgain, NestedAgain, StatementsAgain, BlocksAgain}
use Rattle.sw_convert_again.proofs.Tokens.{old_of}
use Rattle.sw_convert_again.proofs.Nested.{all_lines_again, all_nested_again}
use Rattle.sw_convert_again.proofs.Blocks.{blocks_again, sheets_again}
use Rattle.sw_convert_sheets_again.specs.Claims.{AllSheetsAgain}
use Rattle.sw_convert_sheets_again.proofs.Comments.{comment_again}
use Rattle.sw_convert_sheets_again.proofs.Loads.{use_again, forward_again}
use Rattle.sw_convert_sheets_again.proofs.Media.{media_again}

module _ (source written : Source) (n : ℕ) where
  -- what is read of a form of statements is a list of them, one or none
  record GroupAgain (h : Grammar Part Form) (i j : ℕ) (w : List Part) : Type 0 where
    list : List Statement
    is : w ≡ map States list
    tokens : List Tok
    spells : SpellsStatements source i j list tokens
    back : (p q : ℕ) → Stands written p tokens q
        → (found : List Statement) × Row (Reads written n h) p q (map States found) × LikeBlock list found

  abbrev ListAgain : (Source → Grammar Part Form) → Type 0
  ListAgain g = (i j : ℕ) (w : List Part) → Reads source n (g source) i j w → GroupAgain (g written) i j w

  single : (g h : Grammar Part Form) → ((p q : ℕ) (v : List Part) → Reads written n g p q v → Reads written n h p q v)
      → (i j : ℕ) (w : List Part) → IsStatementAgain source written n g i j w → GroupAgain h i j w
  single g h into i j w a = record {
    list = a.statement ∷ [];
    is = a.is;
    tokens = a.tokens ++ [];
    spells = more_statements a.spells no_statements;
    back = λ p q stand.
        let f = a.back p q (subst (λ (x : List Tok). Stands written p x q) (append-nil a.tokens) stand) in
        (f.found ∷ [], then (into p q _ f.reads) done, alike.statement f.alike alike.no_statements);
  }

  -- rows of one form are rows of another
  rows_into : (g h : Grammar Part Form)
      → ((p q : ℕ) (v : List Part) → Reads written n g p q v → Reads written n h p q v) → {p q : ℕ} {v : List Part}
      → Row (Reads written n g) p q v → Row (Reads written n h) p q v
  rows_into g h into done = done
  rows_into g h into (then {i} {k} {j} {u} {v} d row) = then (into i k u d) (rows_into g h into row)

  group_into : (g h : Grammar Part Form)
      → ((p q : ℕ) (v : List Part) → Reads written n g p q v → Reads written n h p q v) → (i j : ℕ) (w : List Part)
      → GroupAgain g i j w → GroupAgain h i j w
  group_into g h into i j w a = record {
    list = a.list;
    is = a.is;
    tokens = a.tokens;
    spells = a.spells;
    back = λ p q stand. let (found, rows, same) = a.back p q stand in (found, rows_into g h into rows, same);
  }

  -- a `;` alone
  nothing : (i j : ℕ) (w : List Part) → Old source i (just terminals.Semicolon) → j ≡ suc i → w ≡ []
      → GroupAgain (plain_statement written) i j w
  nothing i j w old e1 e2 = record {
    list = [];
    is = e2;
    tokens = [];
    spells = subst (λ (x : ℕ). SpellsStatements source i x [] []) (sym e1) (lone_semicolon old no_statements);
    back = λ p q e.
        ([], subst (λ (x : ℕ). Row (Reads written n (plain_statement written)) p x []) e done, alike.no_statements);
  }

  module _ (blocks : BlocksAgain source written n) where
    lines : LinesAgain source written n
    lines = all_lines_again source written n

    nested : NestedAgain source written n
    nested = all_nested_again source written n blocks

    plain_again : ListAgain plain_statement
    unfolding plain_statement
    plain_again i j w (inl (m, e1, e2)) = nothing i j w (old_of source i (just terminals.Semicolon) refl m) e1 e2
    plain_again i j w (inr (inl d)) =
        single (set written) (plain_statement written) (λ p q v d. inr (inl d)) i j w (lines.variables i j w d)
    plain_again i j w (inr (inr (inl d))) =
        single (assigned written) (plain_statement written) (λ p q v d. inr (inr (inl d))) i j w (lines.assignments i j w d)
    plain_again i j w (inr (inr (inr (inl d)))) =
        single (declaration written) (plain_statement written) (λ p q v d. inr (inr (inr (inl d)))) i j w (nested.declarations i j w d)
    plain_again i j w (inr (inr (inr (inr (inl d))))) =
        single (custom written) (plain_statement written) (λ p q v d. inr (inr (inr (inr (inl d))))) i j w (lines.customs i j w d)
    plain_again i j w (inr (inr (inr (inr (inr (inl d)))))) =
        single (comment written) (plain_statement written) (λ p q v d. inr (inr (inr (inr (inr (inl d)))))) i j w (comment_again source written n i j w d)
    plain_again i j w (inr (inr (inr (inr (inr (inr (d))))))) =
        single (rule written) (plain_statement written) (λ p q v d. inr (inr (inr (inr (inr (inr (d))))))) i j w (nested.rules i j w d)

    load_again : ListAgain load_statement
    unfolding load_statement
    load_again i j w (inl d) =
        single (use_ written) (load_statement written) (λ p q v d. inl d) i j w (use_again source written n i j w d)
    load_again i j w (inr (d)) =
        single (forward written) (load_statement written) (λ p q v d. inr (d)) i j w (forward_again source written n i j w d)

    member_again : ListAgain member_statement
    unfolding member_statement
    member_again i j w (inl d) =
        single (function written) (member_statement written) (λ p q v d. inl d) i j w (nested.functions i j w d)
    member_again i j w (inr (inl d)) =
        single (mixin written) (member_statement written) (λ p q v d. inr (inl d)) i j w (nested.mixins i j w d)
    member_again i j w (inr (inr (inl d))) =
        single (include written) (member_statement written) (λ p q v d. inr (inr (inl d))) i j w (nested.includes i j w d)
    member_again i j w (inr (inr (inr (d)))) =
        single (content written) (member_statement written) (λ p q v d. inr (inr (inr (d)))) i j w (lines.contents i j w d)

    flow_again : ListAgain flow_statement
    unfolding flow_statement
    flow_again i j w (inl d) =
        single (return written) (flow_statement written) (λ p q v d. inl d) i j w (lines.returns i j w d)
    flow_again i j w (inr (inl d)) =
        single (warn written) (flow_statement written) (λ p q v d. inr (inl d)) i j w (lines.warns i j w d)
    flow_again i j w (inr (inr (inl d))) =
        single (debug written) (flow_statement written) (λ p q v d. inr (inr (inl d))) i j w (lines.debugs i j w d)
    flow_again i j w (inr (inr (inr (inl d)))) =
        single (error written) (flow_statement written) (λ p q v d. inr (inr (inr (inl d)))) i j w (lines.errors i j w d)
    flow_again i j w (inr (inr (inr (inr (inl d))))) =
        single (if_ written) (flow_statement written) (λ p q v d. inr (inr (inr (inr (inl d))))) i j w (nested.ifs i j w d)
    flow_again i j w (inr (inr (inr (inr (inr (inl d)))))) =
        single (each written) (flow_statement written) (λ p q v d. inr (inr (inr (inr (inr (inl d)))))) i j w (nested.eaches i j w d)
    flow_again i j w (inr (inr (inr (inr (inr (inr (inl d))))))) =
        single (for_ written) (flow_statement written) (λ p q v d. inr (inr (inr (inr (inr (inr (inl d))))))) i j w (nested.fors i j w d)
    flow_again i j w (inr (inr (inr (inr (inr (inr (inr (d)))))))) =
        single (while_ written) (flow_statement written) (λ p q v d. inr (inr (inr (inr (inr (inr (inr (d)))))))) i j w (nested.whiles i j w d)

    css_again : ListAgain css_statement
    unfolding css_statement
    css_again i j w (inl d) =
        single (media written) (css_statement written) (λ p q v d. inl d) i j w (media_again source written n blocks i j w d)
    css_again i j w (inr (inl d)) =
        single (supports written) (css_statement written) (λ p q v d. inr (inl d)) i j w (nested.supports i j w d)
    css_again i j w (inr (inr (inl d))) =
        single (at_root written) (css_statement written) (λ p q v d. inr (inr (inl d))) i j w (nested.at_roots i j w d)
    css_again i j w (inr (inr (inr (inl d)))) =
        single (charset written) (css_statement written) (λ p q v d. inr (inr (inr (inl d)))) i j w (lines.charsets i j w d)
    css_again i j w (inr (inr (inr (inr (inl d))))) =
        single (import written) (css_statement written) (λ p q v d. inr (inr (inr (inr (inl d))))) i j w (lines.imports i j w d)
    css_again i j w (inr (inr (inr (inr (inr (inl d)))))) =
        single (extend written) (css_statement written) (λ p q v d. inr (inr (inr (inr (inr (inl d)))))) i j w (lines.extends i j w d)
    css_again i j w (inr (inr (inr (inr (inr (inr (d))))))) =
        single (at written) (css_statement written) (λ p q v d. inr (inr (inr (inr (inr (inr (d))))))) i j w (nested.at_rules i j w d)

    statements_again : StatementsAgain source written n
    unfolding statement
    statements_again i j w d =
        let a = group_again i j w d in record {
          list = a.list;
          is = a.is;
          tokens = a.tokens;
          spells = a.spells;
          back = a.back;
        }
      where
        group_again : ListAgain statement
        group_again i j w (inl d) =
            group_into (plain_statement written) (statement written) (λ p q v r. inl r) i j w (plain_again i j w d)
        group_again i j w (inr (inl d)) =
            group_into (load_statement written) (statement written) (λ p q v r. inr (inl r)) i j w (load_again i j w d)
        group_again i j w (inr (inr (inl d))) =
            group_into (member_statement written) (statement written) (λ p q v r. inr (inr (inl r))) i j w
            (member_again i j w d)
        group_again i j w (inr (inr (inr (inl d)))) =
            group_into (flow_statement written) (statement written) (λ p q v r. inr (inr (inr (inl r)))) i j w
            (flow_again i j w d)
        group_again i j w (inr (inr (inr (inr d)))) =
            group_into (css_statement written) (statement written) (λ p q v r. inr (inr (inr (inr r)))) i j w
            (css_again i j w d)

-- through any number of blocks
pub all_statements_again : (source written : Source) (n : ℕ) → StatementsAgain source written n
all_statements_again source written zero =
    statements_again source written zero
    (blocks_again source written zero (λ m e. absurd (omega (arith, e))))
all_statements_again source written (suc n) =
    statements_again source written (suc n)
    (blocks_again source written (suc n)
    (λ m e. subst (StatementsAgain source written) (let z : n ≡ m = omega (arith, e) in z)
    (all_statements_again source written n)))

pub all_blocks_again : (source written : Source) (n : ℕ) → BlocksAgain source written n
all_blocks_again source written n =
    blocks_again source written n (λ m e. all_statements_again source written m)

pub all_sheets_again : AllSheetsAgain
all_sheets_again source written levels =
    sheets_again source written levels (all_statements_again source written levels)
