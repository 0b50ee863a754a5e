-- Values of one token or a few are read again.
use Rattle.std.proofs.Common.{◌≡◌, ℕ, suc, ◌+◌, Bool, true, false, if◌then◌else◌, List, [], ◌∷◌, ◌++◌, inl, inr, refl, sym, ◌∙◌, ap, subst, arith}
use Rattle.sw_parse_grammar.specs.Grammar.{member, skip, seq, alt}
use Rattle.sw_text.specs.Names.{dashed}
use Rattle.sw_text.specs.declared.place.Span.{Span}
use Rattle.sw_tree.specs.declared.text.Parts.{Parts}
use Rattle.sw_tree.specs.declared.text.Parts.TheVariants.{Plain as PlainParts}
use Rattle.sw_tree.specs.declared.expr.Constant.{Constant}
use Rattle.sw_tree.specs.declared.expr.Number.{Number}
use Rattle.sw_tree.specs.declared.expr.ExprKind.TheVariants as exprs
use Rattle.sw_parse_terminals.specs.declared.terminal.Terminal.TheVariants as terminals
use Rattle.sw_parse_terminals.specs.Numbers.{just}
use Rattle.sw_parse_table.specs.declared.source.Source.{Source}
use Rattle.sw_parse_table.specs.Parts.{Part, Place}
use Rattle.sw_parse_table.specs.Sources.{terminal_at, span_between, bytes_at, bytes_between, decoded_at, pieces_in, plain_parts_by, texts, stretch_between, parts_between}
use Rattle.sw_parse_table.specs.Numerals.{numeral}
use Rattle.sw_parse_table.specs.Operators.{constant_at}
use Rattle.sw_parse_table.specs.Sets.{constants, dollars, bangs}
use Rattle.sw_parse_table.specs.Values.{expression, value_of, to_variable}
use Rattle.sw_parse_table.specs.Expressions.{number, quoted, hash, constant, url, variable, range, parent, important}
use Rattle.sw_convert_alike.specs.Expressions.{Like, LikeParts, LikePieces, like, plain}
use Rattle.sw_convert_alike.specs.Expressions as alike
use Rattle.sw_convert_again.specs.Tokens.{tok, sign, Begins, Dashed, Decoded, Bytes, Numeral, Plain, Stands, Old}
use Rattle.sw_convert_again.specs.Spells.{Spells, OldNumber, unsigned, signed, below_zero, number_tokens, dollar}
use Rattle.sw_convert_again.specs.Spells as spells
use Rattle.sw_convert_again.specs.Again.{Reads, Found, Again}
use Rattle.sw_convert_again.proofs.Tokens.{old_of, is_of, old_begins, of_set, constant_same}

-- texts are alike as they stand
pub pieces_self : (texts : List (List ℕ)) → LikePieces (pieces_in texts) (pieces_in texts)
pieces_self [] = alike.no_pieces
pieces_self ([] ∷ texts) = pieces_self texts
pieces_self ((b ∷ bytes) ∷ texts) = alike.text (pieces_self texts)

pub plain_self : (first : List ℕ) (rest : List (List ℕ))
    → LikeParts (plain_parts_by first rest) (plain_parts_by first rest)
plain_self first [] = plain
plain_self first (next ∷ rest) = alike.mixed (pieces_self (first ∷ next ∷ rest))

module _ (source written : Source) (n : ℕ) where
  -- numbers
  like_number : (a b : Number) (s s' : Span) → a ≡ b
      → Like (expression (exprs.Number a) s) (expression (exprs.Number b) s')
  like_number a b s s' e =
      subst (λ (x : Number). Like (expression (exprs.Number a) s) (expression (exprs.Number x) s')) e
      (like alike.number)

  two_on : (p q : ℕ) → suc (suc p) ≡ q → p + 2 ≡ q
  two_on p q e = omega (arith, e)

  one_on : (p q : ℕ) → suc p ≡ q → p + 1 ≡ q
  one_on p q e = omega (arith, e)

  number_back : (signed : Bool) (value : Number) (span : Span) (p q : ℕ)
      → Stands written p (if signed then tok terminals.Sign (Numeral 2 value) ∷ sign terminals.Number ∷ []
      else tok terminals.Number (Numeral 1 value) ∷ []) q
      → Found written n (number written) (expression (exprs.Number value) span) p q
  unfolding number
  number_back true value span p q (first, (second, e)) = record {
    found = expression (exprs.Number (numeral (bytes_between written p q))) (span_between written p q);
    reads = (
      [],
      inl (
        suc p,
        [],
        [],
        (is_of written p (tok terminals.Sign (Numeral 2 value)) (just terminals.Sign) first refl, refl, refl),
        (is_of written (suc p) (sign terminals.Number) (just terminals.Number) second refl, sym e, refl),
        refl,
      ),
      refl,
    );
    alike = like_number value (numeral (bytes_between written p q)) span (span_between written p q)
        (sym first.said ∙ ap (λ (k : ℕ). numeral (bytes_between written p k)) (two_on p q e));
  }
  number_back false value span p q (first, e) = record {
    found = expression (exprs.Number (numeral (bytes_between written p q))) (span_between written p q);
    reads = (
      [],
      inr (is_of written p (tok terminals.Number (Numeral 1 value)) (just terminals.Number) first refl, sym e, refl),
      refl,
    );
    alike = like_number value (numeral (bytes_between written p q)) span (span_between written p q)
        (sym first.said ∙ ap (λ (k : ℕ). numeral (bytes_between written p k)) (one_on p q e));
  }

  number_begins : (signed : Bool) (value : Number)
      → Begins (if signed then tok terminals.Sign (Numeral 2 value) ∷ sign terminals.Number ∷ []
      else tok terminals.Number (Numeral 1 value) ∷ [])
  number_begins true value = refl
  number_begins false value = refl

  old_number : (i j : ℕ) (u : List Part)
      → Reads source n (alt (seq (skip (just terminals.Sign)) (skip (just terminals.Number))) (skip (just terminals.Number)))
      i j u
      → OldNumber source i j
  old_number i j u (inl (k, u1, u2, (m1, e1, e2), (m2, e3, e4), e5)) =
      let second = old_of source k (just terminals.Number) refl m2 in
      subst (λ (x : ℕ). OldNumber source i x) (sym (e3 ∙ ap suc e1))
      (signed (old_of source i (just terminals.Sign) refl m1)
      (subst (λ (x : ℕ). Old source x (just terminals.Number)) e1 second))
  old_number i j u (inr (m, e1, e2)) =
      subst (λ (x : ℕ). OldNumber source i x) (sym e1) (unsigned (old_of source i (just terminals.Number) refl m))

  pub number_again : Again source written n number
  unfolding number
  number_again i j w (u, d, e) =
      let value = numeral (bytes_between source i j) in
      let span = span_between source i j in record {
        value = expression (exprs.Number value) span;
        is = e;
        tokens = number_tokens value;
        spells = spells.number value span refl (old_number i j u d);
        begins = number_begins (below_zero value) value;
        back = number_back (below_zero value) value span;
      }

  -- values of one token
  pub quoted_again : Again source written n quoted
  unfolding quoted
  quoted_again i j w (u, (m, e1, e2), e3) =
      let text = decoded_at source i in
      let span = span_between source i j in
      let old = old_of source i (just terminals.Quoted) refl m in record {
        value = expression (exprs.Quoted (PlainParts text)) span;
        is = e3;
        tokens = tok terminals.Quoted (Decoded text) ∷ [];
        spells = subst
            (λ (k : ℕ). Spells source i k (expression (exprs.Quoted (PlainParts text)) span)
            (tok terminals.Quoted (Decoded text) ∷ []))
            (sym e1) (spells.quoted span old);
        begins = refl;
        back = λ p q stand. record {
          found = expression (exprs.Quoted (PlainParts (decoded_at written p))) (span_between written p q);
          reads = (
            [],
            (
              is_of written p (tok terminals.Quoted (Decoded text)) (just terminals.Quoted) stand.0 refl,
              sym
                  stand.1,
              refl,
            ),
            refl,
          );
          alike = like_text text (decoded_at written p) span (span_between written p q) (sym stand.0.said);
        };
      }
    where
      like_text : (a b : List ℕ) (s s' : Span) → a ≡ b
          → Like (expression (exprs.Quoted (PlainParts a)) s) (expression (exprs.Quoted (PlainParts b)) s')
      like_text a b s s' e =
          subst (λ (x : List ℕ). Like (expression (exprs.Quoted (PlainParts a)) s)
          (expression (exprs.Quoted (PlainParts x)) s')) e
          (like (alike.quoted plain))

  pub constant_again : Again source written n constant
  unfolding constant
  constant_again i j w (u, (m, e1, e2), e3) =
      let span = span_between source i j in
      let old = old_of source i constants refl m in
      let token = sign old.lexeme.terminal in record {
        value = expression (exprs.Constant (constant_at source i)) span;
        is = e3;
        tokens = token ∷ [];
        spells = subst
            (λ (k : ℕ). Spells source i k (expression (exprs.Constant (constant_at source i)) span) (token ∷ []))
            (sym e1)
            (spells.constant span old);
        begins = old_begins source i constants old refl;
        back = λ p q stand. record {
          found = expression (exprs.Constant (constant_at written p)) (span_between written p q);
          reads = ([], (of_set source written i p constants old token stand.0 refl, sym stand.1, refl), refl);
          alike = like_one (constant_at source i) (constant_at written p) span (span_between written p q)
              (sym (constant_same source written i p constants old token stand.0 refl));
        };
      }
    where
      like_one : (a b : Constant) (s s' : Span) → a ≡ b
          → Like (expression (exprs.Constant a) s) (expression (exprs.Constant b) s')
      like_one a b s s' e =
          subst (λ (x : Constant). Like (expression (exprs.Constant a) s) (expression (exprs.Constant x) s')) e
          (like alike.constant)

  pub url_again : Again source written n url
  unfolding url
  url_again i j w (u, (m, e1, e2), e3) =
      let parts = parts_between source i (suc i) [] in
      let span = span_between source i j in
      let old = old_of source i (just terminals.Url) refl m in
      let token = tok terminals.Url (Plain 1 parts) in record {
        value = expression (exprs.Url parts) span;
        is = e3 ∙ ap (λ (k : List Part). value_of (exprs.Url (parts_between source i j k)) span) e2
            ∙ ap (λ (k : ℕ). value_of (exprs.Url (parts_between source i k [])) span) e1;
        tokens = token ∷ [];
        spells = subst (λ (k : ℕ). Spells source i k (expression (exprs.Url parts) span) (token ∷ [])) (sym e1)
            (spells.url span old);
        begins = refl;
        back = λ p q stand. record {
          found = expression (exprs.Url (parts_between written p q [])) (span_between written p q);
          reads = ([], (is_of written p token (just terminals.Url) stand.0 refl, sym stand.1, refl), refl);
          alike = like_one parts (parts_between written p q []) span (span_between written p q)
              (plain_self (texts source (stretch_between source i (suc i))).first
              (texts source (stretch_between source i (suc i))).rest)
              (sym stand.0.said ∙ ap (λ (k : ℕ). parts_between written p k []) (one_on p q stand.1));
        };
      }
    where
      like_one : (a b : Parts) (s s' : Span) → LikeParts a a → a ≡ b
          → Like (expression (exprs.Url a) s) (expression (exprs.Url b) s')
      like_one a b s s' l e =
          subst (λ (x : Parts). Like (expression (exprs.Url a) s) (expression (exprs.Url x) s')) e (like (alike.url l))

  pub range_again : Again source written n range
  unfolding range
  range_again i j w (u, (m, e1, e2), e3) =
      let text = bytes_between source i (suc i) in
      let span = span_between source i j in
      let old = old_of source i (just terminals.Range) refl m in
      let token = tok terminals.Range (Bytes 1 text) in record {
        value = expression (exprs.Word (PlainParts text)) span;
        is = e3 ∙ ap (λ (k : ℕ). value_of (exprs.Word (PlainParts (bytes_between source i k))) span) e1;
        tokens = token ∷ [];
        spells = subst (λ (k : ℕ). Spells source i k (expression (exprs.Word (PlainParts text)) span) (token ∷ []))
            (sym e1)
            (spells.range span old);
        begins = refl;
        back = λ p q stand. record {
          found = expression (exprs.Word (PlainParts (bytes_between written p q))) (span_between written p q);
          reads = ([], (is_of written p token (just terminals.Range) stand.0 refl, sym stand.1, refl), refl);
          alike = like_one text (bytes_between written p q) span (span_between written p q)
              (sym stand.0.said ∙ ap (λ (k : ℕ). bytes_between written p k) (one_on p q stand.1));
        };
      }
    where
      like_one : (a b : List ℕ) (s s' : Span) → a ≡ b
          → Like (expression (exprs.Word (PlainParts a)) s) (expression (exprs.Word (PlainParts b)) s')
      like_one a b s s' e =
          subst (λ (x : List ℕ). Like (expression (exprs.Word (PlainParts a)) s)
          (expression (exprs.Word (PlainParts x)) s')) e
          (like (alike.word plain))

  pub parent_again : Again source written n parent
  unfolding parent
  parent_again i j w (u, (m, e1, e2), e3) =
      let span = span_between source i j in
      let old = old_of source i (just terminals.Ampersand) refl m in record {
        value = expression exprs.Parent span;
        is = e3;
        tokens = sign terminals.Ampersand ∷ [];
        spells = subst (λ (k : ℕ). Spells source i k (expression exprs.Parent span) (sign terminals.Ampersand ∷ []))
            (sym e1)
            (spells.parent span old);
        begins = refl;
        back = λ p q stand. record {
          found = expression exprs.Parent (span_between written p q);
          reads = (
            [],
            (
              is_of written p (sign terminals.Ampersand) (just terminals.Ampersand) stand.0 refl,
              sym stand.1,
              refl,
            ),
            refl,
          );
          alike = like alike.parent;
        };
      }

  -- values of two tokens
  pub hash_again : Again source written n hash
  unfolding hash
  hash_again i j w (u, (k, u1, u2, (m1, e1, e2), (m2, e3, e4), e5), e6) =
      let text = bytes_between source i (suc (suc i)) in
      let span = span_between source i j in
      let end : j ≡ suc (suc i) = e3 ∙ ap suc e1 in
      let one = old_of source i (just terminals.Hash) refl m1 in
      let two = old_of source (suc i) (just terminals.HashName) refl
      (subst (λ (x : ℕ). member (terminal_at source x) (just terminals.HashName) ≡ true) e1 m2) in
      let first = tok terminals.Hash (Bytes 2 text) in
      let tokens = first ∷ sign terminals.HashName ∷ [] in record {
        value = expression (exprs.Hash text) span;
        is = e6 ∙ ap (λ (x : ℕ). value_of (exprs.Hash (bytes_between source i x)) span) end;
        tokens = tokens;
        spells = subst (λ (x : ℕ). Spells source i x (expression (exprs.Hash text) span) tokens) (sym end)
            (spells.hash span one two);
        begins = refl;
        back = λ p q stand. record {
          found = expression (exprs.Hash (bytes_between written p q)) (span_between written p q);
          reads = (
            [],
            (
              suc p,
              [],
              [],
              (is_of written p first (just terminals.Hash) stand.0 refl, refl, refl),
              (
                is_of written (suc p) (sign terminals.HashName) (just terminals.HashName) stand.1.0 refl,
                sym
                    stand.1.1,
                refl,
              ),
              refl,
            ),
            refl,
          );
          alike = like_one text (bytes_between written p q) span (span_between written p q)
              (sym stand.0.said ∙ ap (λ (x : ℕ). bytes_between written p x) (two_on p q stand.1.1));
        };
      }
    where
      like_one : (a b : List ℕ) (s s' : Span) → a ≡ b
          → Like (expression (exprs.Hash a) s) (expression (exprs.Hash b) s')
      like_one a b s s' e =
          subst (λ (x : List ℕ). Like (expression (exprs.Hash a) s) (expression (exprs.Hash x) s')) e (like alike.hash)

  pub important_again : Again source written n important
  unfolding important
  important_again i j w (u, (k, u1, u2, (m1, e1, e2), (m2, e3, e4), e5), e6) =
      let span = span_between source i j in
      let end : j ≡ suc (suc i) = e3 ∙ ap suc e1 in
      let one = old_of source i bangs refl m1 in
      let two = old_of source (suc i) (just terminals.Important) refl
      (subst (λ (x : ℕ). member (terminal_at source x) (just terminals.Important) ≡ true) e1 m2) in
      let tokens = sign terminals.Bang ∷ sign terminals.Important ∷ [] in record {
        value = expression exprs.Important span;
        is = e6;
        tokens = tokens;
        spells = subst (λ (x : ℕ). Spells source i x (expression exprs.Important span) tokens) (sym end)
            (spells.important span one two);
        begins = refl;
        back = λ p q stand. record {
          found = expression exprs.Important (span_between written p q);
          reads = (
            [],
            (
              suc p,
              [],
              [],
              (is_of written p (sign terminals.Bang) bangs stand.0 refl, refl, refl),
              (
                is_of written (suc p) (sign terminals.Important) (just terminals.Important) stand.1.0 refl,
                sym
                    stand.1.1,
                refl,
              ),
              refl,
            ),
            refl,
          );
          alike = like alike.important;
        };
      }

  pub variable_again : Again source written n variable
  unfolding variable
  variable_again i j w (u, (k, u1, u2, (m1, e1, e2), (m2, e3, e4), e5), e6) =
      let name = dashed (bytes_at source (suc i)) in
      let span = span_between source i j in
      let end : j ≡ suc (suc i) = e3 ∙ ap suc e1 in
      let one = old_of source i dollars refl m1 in
      let two = old_of source (suc i) (just terminals.VariableName) refl
      (subst (λ (x : ℕ). member (terminal_at source x) (just terminals.VariableName) ≡ true) e1 m2) in
      let second = tok terminals.VariableName (Dashed name) in
      let tokens = dollar ∷ second ∷ [] in
      let parts : u ≡ Place (suc i) ∷ [] =
      e5 ∙ ap (λ (x : List Part). x ++ u2) e2 ∙ e4 ∙ ap (λ (x : ℕ). Place x ∷ []) e1 in record {
        value = expression (exprs.Variable name) span;
        is = e6 ∙ ap (to_variable source i j) parts;
        tokens = tokens;
        spells = subst (λ (x : ℕ). Spells source i x (expression (exprs.Variable name) span) tokens) (sym end)
            (spells.variable span one two);
        begins = refl;
        back = λ p q stand. record {
          found = expression (exprs.Variable (dashed (bytes_at written (suc p)))) (span_between written p q);
          reads = (
            Place (suc p) ∷ [],
            (
              suc p,
              [],
              Place (suc p) ∷ [],
              (is_of written p dollar dollars stand.0 refl, refl, refl),
              (is_of written (suc p) second (just terminals.VariableName) stand.1.0 refl, sym stand.1.1, refl),
              refl,
            ),
            refl,
          );
          alike = like_one name (dashed (bytes_at written (suc p))) span (span_between written p q)
              (sym stand.1.0.said);
        };
      }
    where
      like_one : (a b : List ℕ) (s s' : Span) → a ≡ b
          → Like (expression (exprs.Variable a) s) (expression (exprs.Variable b) s')
      like_one a b s s' e =
          subst (λ (x : List ℕ). Like (expression (exprs.Variable a) s) (expression (exprs.Variable x) s')) e
          (like alike.variable)
