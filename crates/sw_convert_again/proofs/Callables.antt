-- Functions and mixins are read again.
use Rattle.std.proofs.Common.{◌≡◌, ◌⊎◌, ℕ, suc, true, List, [], ◌∷◌, ◌++◌, Option, None, inl, inr, refl, sym, ◌∙◌, ap, subst}
use Rattle.sw_parse_grammar.specs.Grammar.{Grammar, alt, empty, member}
use Rattle.sw_tree.specs.declared.callable.Callable.{Callable}
use Rattle.sw_tree.specs.declared.callable.Kind.{Kind}
use Rattle.sw_tree.specs.declared.callable.Kind.TheVariants as kinds
use Rattle.sw_tree.specs.declared.callable.Param.{Param}
use Rattle.sw_tree.specs.declared.callable.Params.{Params}
use Rattle.sw_tree.specs.declared.statement.Statement.{Statement}
use Rattle.sw_tree.specs.declared.statement.Statement.TheVariants as statements
use Rattle.sw_parse_terminals.specs.declared.terminal.Terminal.TheVariants as terminals
use Rattle.sw_parse_terminals.specs.Numbers.{just}
use Rattle.sw_parse_table.specs.declared.source.Source.{Source}
use Rattle.sw_parse_table.specs.Parts.{Part, Form, Place, Behind, Blocks, Parameters}
use Rattle.sw_parse_table.specs.Sources.{terminal_at, span_between}
use Rattle.sw_parse_table.specs.Actions.{name_at, params_with, to_behind, callable_of, to_callable}
use Rattle.sw_parse_table.specs.Statements.{params, function, mixin}
use Rattle.sw_convert_alike.specs.Statements.{LikeEach, LikeParam, LikeParams}
use Rattle.sw_convert_alike.specs.Statements as alike
use Rattle.sw_convert_again.specs.Tokens.{Dashed, Tok, tok, sign, Stands}
use Rattle.sw_convert_again.specs.Again.{Reads}
use Rattle.sw_convert_again.specs.Params.{are_some, SpellsOptionalParams, no_head, empty_head, some_head}
use Rattle.sw_convert_again.specs.Statements.{function_block, mixin_block}
use Rattle.sw_convert_again.specs.Claims.{StatementAgain, BlocksAgain}
use Rattle.sw_convert_again.proofs.Tokens.{old_of, is_of, split}
use Rattle.sw_convert_again.proofs.Params.{ParamsAgain, params_again}

-- parameters in parentheses or nothing
abbrev head_params : Source → Grammar Part Form
head_params source = alt (params source) empty

-- what is read of them
abbrev pub IsHead : Params → List Part → Type 0
IsHead values w = ((w ≡ []) × (values ≡ params_with [])) ⊎ (w ≡ Parameters values ∷ [])

callable_is : (s : Source) (kind : Kind) (i j k name : ℕ) (values : Params) (w : List Part) (list : List Statement)
    → IsHead values w
    → to_callable s kind i j (((Place name ∷ w) ++ Behind k ∷ []) ++ Blocks list ∷ []) ≡ callable_of s kind i k name values list
callable_is s kind i j k name values w list (inl (e, f)) =
    ap (λ (x : List Part). to_callable s kind i j (((Place name ∷ x) ++ Behind k ∷ []) ++ Blocks list ∷ [])) e
    ∙ ap (λ (x : Params). callable_of s kind i k name x list) (sym f)
callable_is s kind i j k name values w list (inr e) =
    ap (λ (x : List Part). to_callable s kind i j (((Place name ∷ x) ++ Behind k ∷ []) ++ Blocks list ∷ [])) e

-- the same is told of what they are
pub params_some : (values : Params) (items : List Param) (rest : Option (List ℕ)) → values.items ≡ items
    → values.rest ≡ rest → are_some values.items values.rest ≡ are_some items rest
params_some values items rest e f =
    ap (λ (l : List Param). are_some l values.rest) e ∙ ap (λ (o : Option (List ℕ)). are_some items o) f

module _ (source written : Source) (n : ℕ) where
  record HeadAgain (i j : ℕ) (w : List Part) : Type 0 where
    values : Params
    is : IsHead values w
    tokens : List Tok
    spells : SpellsOptionalParams source i j values tokens
    back : (p q : ℕ) → Stands written p tokens q
        → (found : Params) × (parts : List Part) × Reads written n (head_params written) p q parts × IsHead found parts
        × LikeParams values found

  by_values : (i j : ℕ) (w : List Part) (one : ParamsAgain source written n i j w) (items : List Param)
      (rest : Option (List ℕ)) → one.values.items ≡ items → one.values.rest ≡ rest → HeadAgain i j w
  by_values i j w one [] None e f = record {
    values = one.values;
    is = inr one.is;
    tokens = [];
    spells = empty_head one.spells e f;
    back = λ p q z. (
      params_with [],
      [],
      inr (sym z, refl),
      inl (refl, refl),
      (subst (λ (x : List Param). LikeEach LikeParam x []) (sym e) tt, f),
    );
  }
  by_values i j w one items rest e f = record {
    values = one.values;
    is = inr one.is;
    tokens = one.tokens;
    spells = some_head one.spells (params_some one.values items rest e f);
    back = λ p q stand. let (found, reads, same) = one.back p q stand in
        (found, Parameters found ∷ [], inl reads, inr refl, same);
  }

  head_again : (i j : ℕ) (w : List Part) → Reads source n (head_params source) i j w → HeadAgain i j w
  head_again i j w (inl d) =
      let one = params_again source written n i j w d in by_values i j w one one.values.items one.values.rest refl refl
  head_again i j w (inr (e1, e2)) = record {
    values = params_with [];
    is = inl (e2, refl);
    tokens = [];
    spells = subst (λ (x : ℕ). SpellsOptionalParams source i x (params_with []) []) (sym e1) no_head;
    back = λ p q z. (params_with [], [], inr (sym z, refl), inl (refl, refl), (tt, refl));
  }

  module _ (blocks : BlocksAgain source written n) where
    pub function_again : StatementAgain source written n function
    unfolding function
    function_again i j w (u, (k, u1, u2, (x, (k1, x1, x2, (m1, e1, e2), (k2, y1, y2, (m2, e3, e4), d, e5), e6), e7), b, e8), e9) =
        let at : k2 ≡ suc (suc i) = e3 ∙ ap suc e1 in
        let one = params_again source written n (suc (suc i)) k y2
        (subst (λ (y : ℕ). Reads source n (params source) y k y2) at d) in
        let inner = blocks k j u2 b in
        let span = span_between source i k in
        let name = name_at source (suc i) in
        let it : Callable = record { kind = kinds.Function; name = name; params = one.values; block = inner.list; span = span } in
        let head : x ≡ Place (suc i) ∷ Parameters one.values ∷ [] =
        e6 ∙ ap (λ (y : List Part). y ++ x2) e2 ∙ e5 ∙ ap (λ (y : List Part). y ++ y2) e4
        ∙ ap (λ (y : ℕ). Place y ∷ y2) e1 ∙ ap (λ (y : List Part). Place (suc i) ∷ y) one.is in
        let parts : u ≡ Place (suc i) ∷ Parameters one.values ∷ Behind k ∷ Blocks inner.list ∷ [] =
        e8 ∙ ap (λ (y : List Part). y ++ u2) (e7 ∙ ap (to_behind i k) head)
        ∙ ap (λ (y : List Part). Place (suc i) ∷ Parameters one.values ∷ Behind k ∷ y) inner.is in
        let second = tok terminals.Named (Dashed name) in record {
          statement = statements.Callable it;
          is = e9 ∙ ap (to_callable source kinds.Function i j) parts;
          tokens = sign terminals.AtFunction ∷ second ∷ (one.tokens ++ inner.tokens);
          spells = function_block span (old_of source i (just terminals.AtFunction) refl m1)
              (old_of source (suc i) (just terminals.Named) refl
              (subst (λ (y : ℕ). member (terminal_at source y) (just terminals.Named) ≡ true) e1 m2))
              one.spells inner.spells;
          back = λ p q stand.
              let (place, left, right) = split written q one.tokens inner.tokens (suc (suc p)) stand.1.1 in
              let (values, heads, same) = one.back (suc (suc p)) place left in
              let (list, reads, more) = inner.back place q right in
              let z : Callable = record { kind = kinds.Function; name = name_at written (suc p); params = values; block = list; span = span_between written p place } in record {
                found = statements.Callable z;
                reads = (
                  Place (suc p) ∷ Parameters values ∷ Behind place ∷ Blocks list ∷ [],
                  (
                    place,
                    Place (suc p) ∷ Parameters values ∷ Behind place ∷ [],
                    Blocks list ∷ [],
                    (
                      Place (suc p) ∷ Parameters values ∷ [],
                      (
                        suc p,
                        [],
                        Place (suc p) ∷ Parameters values ∷ [],
                        (is_of written p (sign terminals.AtFunction) (just terminals.AtFunction) stand.0 refl, refl, refl),
                        (
                          suc (suc p),
                          Place (suc p) ∷ [],
                          Parameters values ∷ [],
                          (is_of written (suc p) second (just terminals.Named) stand.1.0 refl, refl, refl),
                          heads,
                          refl,
                        ),
                        refl,
                      ),
                      refl,
                    ),
                    reads,
                    refl,
                  ),
                  refl,
                );
                alike = alike.callable it z refl (sym stand.1.0.said) same more;
              };
        }

    pub mixin_again : StatementAgain source written n mixin
    unfolding mixin
    mixin_again i j w (u, (k, u1, u2, (x, (k1, x1, x2, (m1, e1, e2), (k2, y1, y2, (m2, e3, e4), d, e5), e6), e7), b, e8), e9) =
        let at : k2 ≡ suc (suc i) = e3 ∙ ap suc e1 in
        let one = head_again (suc (suc i)) k y2 (subst (λ (y : ℕ). Reads source n (head_params source) y k y2) at d) in
        let inner = blocks k j u2 b in
        let span = span_between source i k in
        let name = name_at source (suc i) in
        let it : Callable = record { kind = kinds.Mixin; name = name; params = one.values; block = inner.list; span = span } in
        let head : x ≡ Place (suc i) ∷ y2 =
        e6 ∙ ap (λ (y : List Part). y ++ x2) e2 ∙ e5 ∙ ap (λ (y : List Part). y ++ y2) e4
        ∙ ap (λ (y : ℕ). Place y ∷ y2) e1 in
        let parts : u ≡ ((Place (suc i) ∷ y2) ++ Behind k ∷ []) ++ Blocks inner.list ∷ [] =
        e8 ∙ ap (λ (y : List Part). y ++ u2) (e7 ∙ ap (to_behind i k) head)
        ∙ ap (λ (y : List Part). ((Place (suc i) ∷ y2) ++ Behind k ∷ []) ++ y) inner.is in
        let second = tok terminals.Named (Dashed name) in record {
          statement = statements.Callable it;
          is = e9 ∙ ap (to_callable source kinds.Mixin i j) parts
              ∙ callable_is source kinds.Mixin i j k (suc i) one.values y2 inner.list one.is;
          tokens = sign terminals.AtMixin ∷ second ∷ (one.tokens ++ inner.tokens);
          spells = mixin_block span (old_of source i (just terminals.AtMixin) refl m1)
              (old_of source (suc i) (just terminals.Named) refl
              (subst (λ (y : ℕ). member (terminal_at source y) (just terminals.Named) ≡ true) e1 m2))
              one.spells inner.spells;
          back = λ p q stand.
              let (place, left, right) = split written q one.tokens inner.tokens (suc (suc p)) stand.1.1 in
              let (values, others, heads, head_is, same) = one.back (suc (suc p)) place left in
              let (list, reads, more) = inner.back place q right in
              let z : Callable = record { kind = kinds.Mixin; name = name_at written (suc p); params = values; block = list; span = span_between written p place } in record {
                found = statements.Callable z;
                reads = (
                  ((Place (suc p) ∷ others) ++ Behind place ∷ []) ++ Blocks list ∷ [],
                  (
                    place,
                    (Place (suc p) ∷ others) ++ Behind place ∷ [],
                    Blocks list ∷ [],
                    (
                      Place (suc p) ∷ others,
                      (
                        suc p,
                        [],
                        Place (suc p) ∷ others,
                        (is_of written p (sign terminals.AtMixin) (just terminals.AtMixin) stand.0 refl, refl, refl),
                        (
                          suc (suc p),
                          Place (suc p) ∷ [],
                          others,
                          (is_of written (suc p) second (just terminals.Named) stand.1.0 refl, refl, refl),
                          heads,
                          refl,
                        ),
                        refl,
                      ),
                      refl,
                    ),
                    reads,
                    refl,
                  ),
                  sym (callable_is written kinds.Mixin p q place (suc p) values others list head_is),
                );
                alike = alike.callable it z refl (sym stand.1.0.said) same more;
              };
        }
