-- Variables and calls behind a namespace are read again; and what one production reads again, another does.
use Rattle.std.proofs.Common.{◌≡◌, ℕ, suc, true, List, [], ◌∷◌, ◌++◌, inl, inr, refl, sym, ◌∙◌, ap, subst}
use Rattle.sw_parse_grammar.specs.Grammar.{Grammar, member}
use Rattle.sw_text.specs.Names.{dashed}
use Rattle.sw_text.specs.declared.place.Span.{Span}
use Rattle.sw_tree.specs.declared.expr.Qualified.{Qualified}
use Rattle.sw_tree.specs.declared.expr.ExprKind.TheVariants as exprs
use Rattle.sw_parse_terminals.specs.declared.terminal.Terminal.TheVariants as terminals
use Rattle.sw_parse_terminals.specs.Numbers.{just}
use Rattle.sw_parse_table.specs.declared.source.Source.{Source}
use Rattle.sw_parse_table.specs.Parts.{Part, Form, Place}
use Rattle.sw_parse_table.specs.Sources.{terminal_at, span_between, bytes_at}
use Rattle.sw_parse_table.specs.Values.{expression, to_owned, qualified_of}
use Rattle.sw_parse_table.specs.Expressions.{owned_variable, owned}
use Rattle.sw_convert_alike.specs.Expressions.{Like, like}
use Rattle.sw_convert_alike.specs.Expressions as alike
use Rattle.sw_convert_again.specs.Tokens.{tok, sign, Dashed, Bytes}
use Rattle.sw_convert_again.specs.Spells.{Spells}
use Rattle.sw_convert_again.specs.Spells as spells
use Rattle.sw_convert_again.specs.Again.{Reads, IsAgain, Again, called_by_owner}
use Rattle.sw_convert_again.proofs.Tokens.{one_byte, old_of, is_of}

module _ (source written : Source) (n : ℕ) where
  -- what one grammar takes another does
  pub into : (g h : Grammar Part Form) → ((p q : ℕ) (w : List Part) → Reads written n g p q w → Reads written n h p q w)
      → (i j : ℕ) (w : List Part) → IsAgain source written n g i j w → IsAgain source written n h i j w
  into g h f i j w a = record {
    value = a.value;
    is = a.is;
    tokens = a.tokens;
    spells = a.spells;
    begins = a.begins;
    back = λ p q stand. let x = a.back p q stand in record {
      found = x.found;
      reads = f p q _ x.reads;
      alike = x.alike;
    };
  }

  like_qualified : (a b : Qualified) (s s' : Span) → a.namespace.name ≡ b.namespace.name → a.name ≡ b.name
      → Like (expression (exprs.Qualified a) s) (expression (exprs.Qualified b) s')
  like_qualified a b s s' d e = like (alike.qualified d e)

  pub owned_again : Again source written n called_by_owner → Again source written n owned
  unfolding owned owned_variable
  owned_again calls i j w (u, (k, u1, u2, first, (k2, v1, v2, dot, inr d, e1), e2), e3) =
      into (called_by_owner written) (owned written)
      (λ p q x (a, (b, a1, a2, keeps, (c, b1, b2, skips, z, f1), f2), f3).
      (a, (b, a1, a2, keeps, (c, b1, b2, skips, inr z, f1), f2), f3))
      i j w (calls i j w (u, (k, u1, u2, first, (k2, v1, v2, dot, d, e1), e2), e3))
  owned_again calls i j w (
    u,
    (
      k,
      u1,
      u2,
      (m1, e1, e2),
      (k2, v1, v2, (m2, e3, e4), inl (k3, x1, x2, (m3, e5, e6), (m4, e7, e8), e9), e10),
      e11,
    ),
    e12,
  ) =
      let a1 : k ≡ suc i = e1 in
      let a2 : k2 ≡ suc (suc i) = e3 ∙ ap suc a1 in
      let a3 : k3 ≡ suc (suc (suc i)) = e5 ∙ ap suc a2 in
      let end : j ≡ suc (suc (suc (suc i))) = e7 ∙ ap suc a3 in
      let span = span_between source i j in
      let name = suc (suc (suc i)) in
      let value = exprs.Qualified (qualified_of source i name) in
      let o1 = old_of source i (just terminals.Owner) refl m1 in
      let o2 = old_of source (suc i) (just terminals.OwnerDot) refl
      (subst (λ (x : ℕ). member (terminal_at source x) (just terminals.OwnerDot) ≡ true) a1 m2) in
      let o3 = old_of source (suc (suc i)) (just terminals.OwnerDollar) refl
      (subst (λ (x : ℕ). member (terminal_at source x) (just terminals.OwnerDollar) ≡ true) a2 m3) in
      let o4 = old_of source name (just terminals.VariableName) refl
      (subst (λ (x : ℕ). member (terminal_at source x) (just terminals.VariableName) ≡ true) a3 m4) in
      let first = tok terminals.Owner (Bytes 1 (bytes_at source i)) in
      let last = tok terminals.VariableName (Dashed (dashed (bytes_at source name))) in
      let tokens = first ∷ sign terminals.OwnerDot ∷ sign terminals.OwnerDollar ∷ last ∷ [] in
      let parts : u ≡ Place i ∷ Place name ∷ [] =
      e11 ∙ ap (λ (x : List Part). x ++ u2) e2 ∙ ap (λ (x : List Part). Place i ∷ x)
      (e10 ∙ ap (λ (x : List Part). x ++ v2) e4 ∙ e9 ∙ ap (λ (x : List Part). x ++ x2) e6 ∙ e8
      ∙ ap (λ (x : ℕ). Place x ∷ []) a3) in record {
        value = expression value span;
        is = e12 ∙ ap (to_owned source i j) parts;
        tokens = tokens;
        spells = subst (λ (x : ℕ). Spells source i x (expression value span) tokens) (sym end)
            (spells.owned_variable span o1 o2 o3 o4);
        begins = refl;
        back = λ p q stand. record {
          found = expression (exprs.Qualified (qualified_of written p (suc (suc (suc p))))) (span_between written p q);
          reads = (
            Place p ∷ Place (suc (suc (suc p))) ∷ [],
            (
              suc p,
              Place p ∷ [],
              Place (suc (suc (suc p))) ∷ [],
              (is_of written p first (just terminals.Owner) stand.0 refl, refl, refl),
              (
                suc (suc p),
                [],
                Place (suc (suc (suc p))) ∷ [],
                (is_of written (suc p) (sign terminals.OwnerDot) (just terminals.OwnerDot) stand.1.0 refl, refl, refl),
                inl (
                  suc (suc (suc p)),
                  [],
                  Place (suc (suc (suc p))) ∷ [],
                  (
                    is_of written (suc (suc p)) (sign terminals.OwnerDollar) (just terminals.OwnerDollar) stand.1.1.0
                        refl,
                    refl,
                    refl,
                  ),
                  (
                    is_of written (suc (suc (suc p))) last (just terminals.VariableName) stand.1.1.1.0 refl,
                    sym
                        stand.1.1.1.1,
                    refl,
                  ),
                  refl,
                ),
                refl,
              ),
              refl,
            ),
            refl,
          );
          alike = like_qualified (qualified_of source i name) (qualified_of written p (suc (suc (suc p)))) span
              (span_between written p q)
              (sym stand.0.said ∙ one_byte written p) (sym stand.1.1.1.0.said);
        };
      }
