-- Urls with `#{}` are read again.
use Rattle.std.proofs.Common.{◌≡◌, ℕ, suc, ◌+◌, List, [], ◌∷◌, ◌++◌, refl, sym, ◌∙◌, ap, subst, arith}
use Rattle.sw_parse_grammar.specs.Grammar.{Row}
use Rattle.sw_tree.specs.declared.expr.ExprKind.TheVariants as exprs
use Rattle.sw_parse_terminals.specs.declared.terminal.Terminal.TheVariants as terminals
use Rattle.sw_parse_terminals.specs.Numbers.{just}
use Rattle.sw_parse_table.specs.declared.source.Source.{Source}
use Rattle.sw_parse_table.specs.Parts.{Part}
use Rattle.sw_parse_table.specs.Sources.{span_between, from_at, parts_between}
use Rattle.sw_parse_table.specs.Values.{expression, value_of, to_url}
use Rattle.sw_parse_table.specs.Expressions.{insert, url_item, url_template, expr}
use Rattle.sw_convert_alike.specs.Expressions.{Like, like}
use Rattle.sw_convert_alike.specs.Expressions as alike
use Rattle.sw_convert_again.specs.Tokens.{tok, sign}
use Rattle.sw_convert_again.specs.Spells.{Spells, SpellsRow, within, from_start}
use Rattle.sw_convert_again.specs.Spells as spells
use Rattle.sw_convert_again.specs.Again.{Reads, Again}
use Rattle.sw_convert_again.proofs.Tokens.{old_of, is_of, split}
use Rattle.sw_convert_again.proofs.Rows.{RowAgain, said_first, row_again}

nothing_more : (parts : List Part) → parts ++ [] ≡ parts
nothing_more [] = refl
nothing_more (part ∷ parts) = ap (λ (x : List Part). part ∷ x) (nothing_more parts)

module _ (source written : Source) (n : ℕ) (deep : (m : ℕ) → n ≡ suc m → Again source written m expr) where
  -- what goes on with a url, up to its end
  abbrev UrlRow : ℕ → ℕ → List Part → Type 0
  UrlRow s k w = RowAgain source written terminals.Piece terminals.Insert suc 1 n s k w

  go_on : {s k : ℕ} {w : List Part} → Row (Reads source n (url_item source)) s k w → UrlRow s k w
  unfolding url_item insert
  go_on row =
      row_again source written terminals.Piece terminals.Insert (record { here = refl; own = refl })
      (record { here = refl; own = refl }) suc 1 (λ x. let z : suc x ≡ x + 1 = omega arith in z) n deep row

  pub url_template_again : Again source written n url_template
  unfolding url_template url_item insert
  url_template_again i j w (u, (k0, u1, u2, (m1, e1, e2), (k, v1, v2, row, (m2, e3, e4), e5), e6), e7) =
      let rest : UrlRow (suc i) k v1 = subst (λ (x : ℕ). UrlRow x k v1) e1 (go_on row) in
      let span = span_between source i j in
      let value = expression (exprs.Url (parts_between source i (suc k) v1)) span in
      let opened = old_of source i (just terminals.UrlTemplate) refl m1 in
      let closed = old_of source k (just terminals.UrlEnd) refl m2 in
      let first = tok terminals.UrlTemplate (from_start source i v1 (suc rest.count)) in
      let tokens = within first rest.tokens terminals.UrlEnd in
      let parts : u ≡ v1 =
      e6 ∙ ap (λ (x : List Part). x ++ u2) e2 ∙ e5 ∙ ap (λ (x : List Part). v1 ++ x) e4 ∙ nothing_more v1 in record {
        value = value;
        is = e7 ∙ ap (to_url source i j) parts
            ∙ ap (λ (x : ℕ). value_of (exprs.Url (parts_between source i x v1)) span) e3;
        tokens = tokens;
        spells = subst (λ (x : ℕ). Spells source i x value tokens) (sym e3)
            (spells.url_template span opened rest.spells closed);
        begins = refl;
        back = λ p q stand.
            let (place, left, right) = split written q rest.tokens (sign terminals.UrlEnd ∷ []) (suc p) stand.1 in
            let r = rest.back (suc p) place left in
            let there = span_between written p q in
            let same = said_first source written i p rest.stop r.stop' v1 (suc rest.count) stand.0.said
            (let a : rest.stop ≡ i + suc rest.count = omega (arith, rest.at) in a)
            (let b : r.stop' ≡ p + suc rest.count = omega (arith, r.at) in b) in record {
              found = expression (exprs.Url (parts_between written p (suc place) r.found)) there;
              reads = (
                r.found ++ [],
                (
                  suc p,
                  [],
                  r.found ++ [],
                  (is_of written p first (just terminals.UrlTemplate) stand.0 refl, refl, refl),
                  (
                    place,
                    r.found,
                    [],
                    r.reads,
                    (
                      is_of written place (sign terminals.UrlEnd) (just terminals.UrlEnd) right.0 refl,
                      sym right.1,
                      refl,
                    ),
                    refl,
                  ),
                  refl,
                ),
                sym (ap (λ (x : List Part). value_of (exprs.Url (parts_between written p q x)) there)
                    (nothing_more r.found)
                    ∙ ap (λ (x : ℕ). value_of (exprs.Url (parts_between written p x r.found)) there) (sym right.1)),
              );
              alike = like (alike.url (r.parts (from_at source i) i (from_at written p) p same));
            };
      }
