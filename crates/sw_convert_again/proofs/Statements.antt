-- Statements of one value, of raw text, or of neither, are read again.
use Rattle.std.proofs.Common.{◌≡◌, ℕ, suc, true, List, [], ◌∷◌, ◌++◌, inl, inr, refl, sym, ◌∙◌, ap, subst}
use Rattle.sw_parse_grammar.specs.Grammar.{Grammar, skip, seq, build, member}
use Rattle.sw_text.specs.declared.place.Span.{Span}
use Rattle.sw_tree.specs.declared.expr.Expr.{Expr}
use Rattle.sw_tree.specs.declared.statement.Level.TheVariants as levels
use Rattle.sw_tree.specs.declared.statement.Rule.{Rule}
use Rattle.sw_tree.specs.declared.statement.Statement.{Statement}
use Rattle.sw_tree.specs.declared.statement.Statement.TheVariants as statements
use Rattle.sw_tree.specs.declared.statement.Supports.{Supports}
use Rattle.sw_tree.specs.declared.statement.While.{While}
use Rattle.sw_tree.specs.declared.text.Text.{Text}
use Rattle.sw_parse_terminals.specs.declared.terminal.Terminal.{Terminal}
use Rattle.sw_parse_terminals.specs.declared.terminal.Terminal.TheVariants as terminals
use Rattle.sw_parse_terminals.specs.Numbers.{just}
use Rattle.sw_parse_table.specs.declared.source.Source.{Source}
use Rattle.sw_parse_table.specs.Parts.{Part, Form, Behind, Blocks, States, Texts, Values}
use Rattle.sw_parse_table.specs.Sources.{terminal_at, span_between, text_between}
use Rattle.sw_parse_table.specs.Actions.{to_behind, to_while, to_supports, to_rule, to_import, to_extend, to_return, to_say}
use Rattle.sw_parse_table.specs.Expressions.{expr}
use Rattle.sw_parse_table.specs.Statements.{finish, set, assigned, custom, content, raw, rule, supports, import, extend, charset, assigned, return, warn, debug, error, while_}
use Rattle.sw_convert_alike.specs.Expressions.{Like}
use Rattle.sw_convert_alike.specs.Statements.{LikeStatement, LikeRaw, LikeBlock}
use Rattle.sw_convert_alike.specs.Statements as alike
use Rattle.sw_convert_alike.proofs.AsTheyStand.{raw_as_it_stands}
use Rattle.sw_convert_again.specs.Tokens.{Extent, Tok, sign, Stands, Old}
use Rattle.sw_convert_again.specs.Spells.{Spells}
use Rattle.sw_convert_again.specs.RawTexts.{SpellsRawText, raw_tokens}
use Rattle.sw_convert_again.specs.Again.{Reads}
use Rattle.sw_convert_again.specs.Statements.{Ended, marked, unmarked, ended, SpellsStatement, return_line, say_line, import_line, extend_line, charset_line, while_block, supports_block, rule_block}
use Rattle.sw_convert_again.specs.Claims.{StatementAgain, BlocksAgain, LinesAgain}
use Rattle.sw_convert_again.proofs.Tokens.{old_of, is_of, split}
use Rattle.sw_convert_again.proofs.Rows.{Plainly}
use Rattle.sw_convert_again.proofs.Values.{values_again}
use Rattle.sw_convert_again.proofs.RawTexts.{raw_texts_again}

-- a name and a value, or raw text, up to the end of a statement, and before a block
abbrev value_line : (Source → ℕ → ℕ → List Part → List Part) → Terminal → Source → Grammar Part Form
value_line action opening source = seq (build (action source) (seq (skip (just opening)) (expr source))) (finish source)

abbrev text_line : (Source → ℕ → ℕ → List Part → List Part) → Terminal → Source → Grammar Part Form
text_line action opening source = seq (build (action source) (seq (skip (just opening)) (raw source))) (finish source)

module _ (source written : Source) (n : ℕ) where
  pub was_ended : (k j : ℕ) (v : List Part) → Reads source n (finish source) k j v → Ended source k j × (v ≡ [])
  unfolding finish
  was_ended k j v (inl (m, e, f)) =
      (subst (Ended source k) (sym e) (marked (old_of source k (just terminals.Semicolon) refl m)), f)
  was_ended k j v (inr (m, e, f)) = (subst (Ended source k) (sym e) (unmarked m), f)

  pub is_ended : (p q : ℕ) → Stands written p (sign terminals.Semicolon ∷ []) q → Reads written n (finish written) p q []
  unfolding finish
  is_ended p q (is, e) =
      inl (is_of written p (sign terminals.Semicolon) (just terminals.Semicolon) is refl, sym e, refl)

  -- ---- without a block

  module _ (action : Source → ℕ → ℕ → List Part → List Part) (opening : Terminal) (plainly : Plainly opening) where
    value_again : (make : Expr → Span → Statement)
        → ((s : Source) (at behind : ℕ) (e : Expr) → action s at behind (Values e ∷ [])
        ≡ States (make e (span_between s at behind)) ∷ [])
        → ((a b : Expr) (s t : Span) → Like a b → LikeStatement (make a s) (make b t))
        → ((i k j : ℕ) (e : Expr) (tokens : List Tok) (s : Span) → Old source i (just opening)
        → Spells source (suc i) k e tokens → Ended source k j
        → SpellsStatement source i j (make e s) (ended (sign opening ∷ tokens)))
        → StatementAgain source written n (value_line action opening)
    value_again make act liked spelled i j w (k, u, v, (x, (k1, x1, x2, (m, e1, e2), d, e3), e4), f, e5) =
        let one = values_again source written n (suc i) k x2 (subst (λ (y : ℕ). Reads source n (expr source) y k x2) e1 d) in
        let end = was_ended k j v f in
        let span = span_between source i k in
        let parts : x ≡ Values one.value ∷ [] = e3 ∙ ap (λ (y : List Part). y ++ x2) e2 ∙ one.is in record {
          statement = make one.value span;
          is = e5 ∙ ap (λ (y : List Part). y ++ v) (e4 ∙ ap (action source i k) parts ∙ act source i k one.value)
              ∙ ap (λ (y : List Part). States (make one.value span) ∷ y) end.1;
          tokens = ended (sign opening ∷ one.tokens);
          spells = spelled i k j one.value one.tokens span (old_of source i (just opening) plainly.here m) one.spells end.0;
          back = λ p q stand.
              let (place, left, right) = split written q one.tokens (sign terminals.Semicolon ∷ []) (suc p) stand.1 in
              let y = one.back (suc p) place left in record {
                found = make y.found (span_between written p place);
                reads = (
                  place,
                  States (make y.found (span_between written p place)) ∷ [],
                  [],
                  (
                    Values y.found ∷ [],
                    (
                      suc p,
                      [],
                      Values y.found ∷ [],
                      (is_of written p (sign opening) (just opening) stand.0 plainly.own, refl, refl),
                      y.reads,
                      refl,
                    ),
                    sym (act written p place y.found),
                  ),
                  is_ended place q right,
                  refl,
                );
                alike = liked one.value y.found span (span_between written p place) y.alike;
              };
        }

    text_again : (make : Text → Span → Statement)
        → ((s : Source) (at behind : ℕ) (t : Text) → action s at behind (Texts t ∷ [])
        ≡ States (make t (span_between s at behind)) ∷ [])
        → ((a b : Text) (s t : Span) → LikeRaw a b → LikeStatement (make a s) (make b t))
        → ((i k j : ℕ) (values : List Part) (tokens : List Tok) (extents : List Extent) (s : Span)
        → Old source i (just opening) → SpellsRawText source (suc i) k values tokens extents → Ended source k j
        → SpellsStatement source i j (make (text_between source (suc i) k values) s)
        (ended (sign opening ∷ raw_tokens source (suc i) k values extents tokens)))
        → StatementAgain source written n (text_line action opening)
    text_again make act liked spelled i j w (k, u, v, (x, (k1, x1, x2, (m, e1, e2), d, e3), e4), f, e5) =
        let one = raw_texts_again source written n (suc i) k x2
        (subst (λ (y : ℕ). Reads source n (raw source) y k x2) e1 d) in
        let text = text_between source (suc i) k one.values in
        let tokens = raw_tokens source (suc i) k one.values one.extents one.tokens in
        let end = was_ended k j v f in
        let span = span_between source i k in
        let parts : x ≡ Texts text ∷ [] = e3 ∙ ap (λ (y : List Part). y ++ x2) e2 ∙ one.is in record {
          statement = make text span;
          is = e5 ∙ ap (λ (y : List Part). y ++ v) (e4 ∙ ap (action source i k) parts ∙ act source i k text)
              ∙ ap (λ (y : List Part). States (make text span) ∷ y) end.1;
          tokens = ended (sign opening ∷ tokens);
          spells = spelled i k j one.values one.tokens one.extents span (old_of source i (just opening) plainly.here m) one.spells end.0;
          back = λ p q stand.
              let (place, left, right) = split written q tokens (sign terminals.Semicolon ∷ []) (suc p) stand.1 in
              let (found, reads, same) = one.back (suc p) place left in
              let there = text_between written (suc p) place found in record {
                found = make there (span_between written p place);
                reads = (
                  place,
                  States (make there (span_between written p place)) ∷ [],
                  [],
                  (
                    Texts there ∷ [],
                    (
                      suc p,
                      [],
                      Texts there ∷ [],
                      (is_of written p (sign opening) (just opening) stand.0 plainly.own, refl, refl),
                      reads,
                      refl,
                    ),
                    sym (act written p place there),
                  ),
                  is_ended place q right,
                  refl,
                );
                alike = liked text there span (span_between written p place) (raw_as_it_stands same);
              };
        }

  charset_again : StatementAgain source written n charset
  unfolding charset
  charset_again i j w (k, u, v, (x, (k1, x1, x2, (m1, e1, e2), (m2, e3, e4), e5), e6), f, e7) =
      let at : k ≡ suc (suc i) = e3 ∙ ap suc e1 in
      let end = was_ended k j v f in
      let span = span_between source i k in
      let one = old_of source i (just terminals.AtCharset) refl m1 in
      let two = old_of source (suc i) (just terminals.Plain) refl
      (subst (λ (y : ℕ). member (terminal_at source y) (just terminals.Plain) ≡ true) e1 m2) in
      let tokens = ended (sign terminals.AtCharset ∷ sign terminals.Plain ∷ []) in record {
        statement = statements.Charset span;
        is = e7 ∙ ap (λ (y : List Part). y ++ v) e6 ∙ ap (λ (y : List Part). States (statements.Charset span) ∷ y) end.1;
        tokens = tokens;
        spells = charset_line span one two (subst (λ (y : ℕ). Ended source y j) at end.0);
        back = λ p q stand. record {
          found = statements.Charset (span_between written p (suc (suc p)));
          reads = (
            suc (suc p),
            States (statements.Charset (span_between written p (suc (suc p)))) ∷ [],
            [],
            (
              [],
              (
                suc p,
                [],
                [],
                (is_of written p (sign terminals.AtCharset) (just terminals.AtCharset) stand.0 refl, refl, refl),
                (is_of written (suc p) (sign terminals.Plain) (just terminals.Plain) stand.1.0 refl, refl, refl),
                refl,
              ),
              refl,
            ),
            is_ended (suc (suc p)) q stand.1.1,
            refl,
          );
          alike = alike.charset;
        };
      }

  pub lines_again : StatementAgain source written n set → StatementAgain source written n assigned
      → StatementAgain source written n custom
      → StatementAgain source written n content → LinesAgain source written n
  unfolding return warn debug error import extend
  lines_again variables assignments customs contents = record {
    variables = variables;
    assignments = assignments;
    customs = customs;
    contents = contents;
    returns = value_again to_return terminals.AtReturn (record { here = refl; own = refl })
        (λ e s. statements.Return (record { value = e; span = s })) (λ s at behind e. refl) (λ a b s t l. alike.return l)
        (λ i k j e tokens s o x z. return_line s o x z);
    warns = value_again (λ s. to_say s levels.Warn) terminals.AtWarn (record { here = refl; own = refl })
        (λ e s. statements.Say (record { level = levels.Warn; value = e; span = s })) (λ s at behind e. refl)
        (λ a b s t l. alike.say refl l) (λ i k j e tokens s o x z. say_line levels.Warn s o x z);
    debugs = value_again (λ s. to_say s levels.Debug) terminals.AtDebug (record { here = refl; own = refl })
        (λ e s. statements.Say (record { level = levels.Debug; value = e; span = s })) (λ s at behind e. refl)
        (λ a b s t l. alike.say refl l) (λ i k j e tokens s o x z. say_line levels.Debug s o x z);
    errors = value_again (λ s. to_say s levels.Error) terminals.AtError (record { here = refl; own = refl })
        (λ e s. statements.Say (record { level = levels.Error; value = e; span = s })) (λ s at behind e. refl)
        (λ a b s t l. alike.say refl l) (λ i k j e tokens s o x z. say_line levels.Error s o x z);
    imports = text_again to_import terminals.AtImport (record { here = refl; own = refl })
        (λ x s. statements.Import (record { text = x; span = s })) (λ s at behind x. refl) (λ a b s t l. alike.import l)
        (λ i k j values tokens extents s o x z. import_line s o x z);
    extends = text_again to_extend terminals.AtExtend (record { here = refl; own = refl })
        (λ x s. statements.Extend (record { text = x; span = s })) (λ s at behind x. refl) (λ a b s t l. alike.extend l)
        (λ i k j values tokens extents s o x z. extend_line s o x z);
    charsets = charset_again;
  }

  -- ---- with a block

  module _ (blocks : BlocksAgain source written n) where
    pub while_again : StatementAgain source written n while_
    unfolding while_
    while_again i j w (u, (k, u1, u2, (x, (k1, x1, x2, (m, e1, e2), d, e3), e4), b, e5), e6) =
        let one = values_again source written n (suc i) k x2 (subst (λ (y : ℕ). Reads source n (expr source) y k x2) e1 d) in
        let inner = blocks k j u2 b in
        let span = span_between source i k in
        let head : x ≡ Values one.value ∷ [] = e3 ∙ ap (λ (y : List Part). y ++ x2) e2 ∙ one.is in
        let parts : u ≡ Values one.value ∷ Behind k ∷ Blocks inner.list ∷ [] =
        e5 ∙ ap (λ (y : List Part). y ++ u2) (e4 ∙ ap (to_behind i k) head)
        ∙ ap (λ (y : List Part). Values one.value ∷ Behind k ∷ y) inner.is in record {
          statement = statements.While (record { condition = one.value; block = inner.list; span = span });
          is = e6 ∙ ap (to_while source i j) parts;
          tokens = sign terminals.AtWhile ∷ (one.tokens ++ inner.tokens);
          spells = while_block span (old_of source i (just terminals.AtWhile) refl m) one.spells inner.spells;
          back = λ p q stand.
              let (place, left, right) = split written q one.tokens inner.tokens (suc p) stand.1 in
              let y = one.back (suc p) place left in
              let (found, reads, same) = inner.back place q right in
              let a : While = record { condition = one.value; block = inner.list; span = span } in
              let b : While = record { condition = y.found; block = found; span = span_between written p place } in record {
                found = statements.While b;
                reads = (
                  Values y.found ∷ Behind place ∷ Blocks found ∷ [],
                  (
                    place,
                    Values y.found ∷ Behind place ∷ [],
                    Blocks found ∷ [],
                    (
                      Values y.found ∷ [],
                      (
                        suc p,
                        [],
                        Values y.found ∷ [],
                        (is_of written p (sign terminals.AtWhile) (just terminals.AtWhile) stand.0 refl, refl, refl),
                        y.reads,
                        refl,
                      ),
                      refl,
                    ),
                    reads,
                    refl,
                  ),
                  refl,
                );
                alike = alike.while_ a b y.alike same;
              };
        }

    pub supports_again : StatementAgain source written n supports
    unfolding supports
    supports_again i j w (u, (k, u1, u2, (x, (k1, x1, x2, (m, e1, e2), d, e3), e4), b, e5), e6) =
        let one = raw_texts_again source written n (suc i) k x2
        (subst (λ (y : ℕ). Reads source n (raw source) y k x2) e1 d) in
        let text = text_between source (suc i) k one.values in
        let tokens = raw_tokens source (suc i) k one.values one.extents one.tokens in
        let inner = blocks k j u2 b in
        let span = span_between source i k in
        let head : x ≡ Texts text ∷ [] = e3 ∙ ap (λ (y : List Part). y ++ x2) e2 ∙ one.is in
        let parts : u ≡ Texts text ∷ Behind k ∷ Blocks inner.list ∷ [] =
        e5 ∙ ap (λ (y : List Part). y ++ u2) (e4 ∙ ap (to_behind i k) head)
        ∙ ap (λ (y : List Part). Texts text ∷ Behind k ∷ y) inner.is in record {
          statement = statements.Supports (record { condition = text; block = inner.list; span = span });
          is = e6 ∙ ap (to_supports source i j) parts;
          tokens = sign terminals.AtSupports ∷ (tokens ++ inner.tokens);
          spells = supports_block span (old_of source i (just terminals.AtSupports) refl m) one.spells inner.spells;
          back = λ p q stand.
              let (place, left, right) = split written q tokens inner.tokens (suc p) stand.1 in
              let (values, raws, like_text) = one.back (suc p) place left in
              let there = text_between written (suc p) place values in
              let (found, reads, same) = inner.back place q right in
              let a : Supports = record { condition = text; block = inner.list; span = span } in
              let b : Supports = record { condition = there; block = found; span = span_between written p place } in record {
                found = statements.Supports b;
                reads = (
                  Texts there ∷ Behind place ∷ Blocks found ∷ [],
                  (
                    place,
                    Texts there ∷ Behind place ∷ [],
                    Blocks found ∷ [],
                    (
                      Texts there ∷ [],
                      (
                        suc p,
                        [],
                        Texts there ∷ [],
                        (
                          is_of written p (sign terminals.AtSupports) (just terminals.AtSupports) stand.0 refl,
                          refl,
                          refl,
                        ),
                        raws,
                        refl,
                      ),
                      refl,
                    ),
                    reads,
                    refl,
                  ),
                  refl,
                );
                alike = alike.supports a b (raw_as_it_stands like_text) same;
              };
        }

    pub rule_again : StatementAgain source written n rule
    unfolding rule
    rule_again i j w (u, (k, u1, u2, (x, d, e4), b, e5), e6) =
        let one = raw_texts_again source written n i k x d in
        let text = text_between source i k one.values in
        let tokens = raw_tokens source i k one.values one.extents one.tokens in
        let inner = blocks k j u2 b in
        let span = span_between source i k in
        let parts : u ≡ Texts text ∷ Behind k ∷ Blocks inner.list ∷ [] =
        e5 ∙ ap (λ (y : List Part). y ++ u2) (e4 ∙ ap (to_behind i k) one.is)
        ∙ ap (λ (y : List Part). Texts text ∷ Behind k ∷ y) inner.is in record {
          statement = statements.Rule (record { selector = text; block = inner.list; span = span });
          is = e6 ∙ ap (to_rule source i j) parts;
          tokens = tokens ++ inner.tokens;
          spells = rule_block span one.spells inner.spells;
          back = λ p q stand.
              let (place, left, right) = split written q tokens inner.tokens p stand in
              let (values, raws, like_text) = one.back p place left in
              let there = text_between written p place values in
              let (found, reads, same) = inner.back place q right in
              let a : Rule = record { selector = text; block = inner.list; span = span } in
              let b : Rule = record { selector = there; block = found; span = span_between written p place } in record {
                found = statements.Rule b;
                reads = (
                  Texts there ∷ Behind place ∷ Blocks found ∷ [],
                  (
                    place,
                    Texts there ∷ Behind place ∷ [],
                    Blocks found ∷ [],
                    (Texts there ∷ [], raws, refl),
                    reads,
                    refl,
                  ),
                  refl,
                );
                alike = alike.rule a b (raw_as_it_stands like_text) same;
              };
        }
