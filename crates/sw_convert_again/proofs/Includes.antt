-- `@include` is read again, with its arguments and its content block.
use Rattle.std.proofs.Common.{◌≡◌, ℕ, suc, true, List, [], ◌∷◌, ◌++◌, Option, Some, None, inl, inr, refl, sym, ◌∙◌, ap, subst}
use Rattle.sw_parse_grammar.specs.Grammar.{member}
use Rattle.sw_text.specs.declared.place.Span.{Span}
use Rattle.sw_tree.specs.declared.callable.Content.{Content}
use Rattle.sw_tree.specs.declared.callable.Param.{Param}
use Rattle.sw_tree.specs.declared.callable.Params.{Params}
use Rattle.sw_tree.specs.declared.expr.Argument.{Argument}
use Rattle.sw_tree.specs.declared.expr.Namespaced.{Namespaced}
use Rattle.sw_tree.specs.declared.statement.Statement.{Statement}
use Rattle.sw_tree.specs.declared.statement.Statement.TheVariants as statements
use Rattle.sw_parse_terminals.specs.declared.terminal.Terminal.TheVariants as terminals
use Rattle.sw_parse_terminals.specs.Numbers.{just}
use Rattle.sw_parse_table.specs.declared.source.Source.{Source}
use Rattle.sw_parse_table.specs.Parts.{Part, Place, Behind, Blocks, Includes, Arguments, Parameters}
use Rattle.sw_parse_table.specs.Sources.{terminal_at, bytes_at, span_between}
use Rattle.sw_parse_table.specs.Values.{namespaced}
use Rattle.sw_parse_table.specs.Actions.{name_at, params_with, to_behind, mixin_of, include_of, content_with, to_include_name, to_include}
use Rattle.sw_parse_table.specs.Statements.{block_or_end, include_name, using, include}
use Rattle.sw_parse_table.specs.Statements as forms
use Rattle.sw_convert_alike.specs.Expressions.{space_of}
use Rattle.sw_convert_alike.specs.Statements.{LikeEach, LikeParam, LikeParams}
use Rattle.sw_convert_alike.specs.Statements as alike
use Rattle.sw_convert_again.specs.Tokens.{Dashed, Bytes, Tok, tok, sign, Stands, Old}
use Rattle.sw_convert_again.specs.Again.{Reads}
use Rattle.sw_convert_again.specs.Params.{SpellsMixinName, own_name, owned_name, SpellsUsing, no_using, empty_using, some_using}
use Rattle.sw_convert_again.specs.Statements.{ended, include_line, include_block}
use Rattle.sw_convert_again.specs.Claims.{StatementAgain, BlocksAgain}
use Rattle.sw_convert_again.proofs.Tokens.{one_byte, old_of, is_of, split}
use Rattle.sw_convert_again.proofs.Contents.{IsGiven, given_again}
use Rattle.sw_convert_again.proofs.Params.{ParamsAgain, params_again}
use Rattle.sw_convert_again.proofs.Callables.{IsHead, params_some}
use Rattle.sw_convert_again.proofs.Statements.{was_ended, is_ended}

abbrev passed : Params → Option (List Statement) → Option Content
passed params None = None
passed params (Some list) = Some (record { params = params; block = list })

abbrev last_part : Option (List Statement) → List Part
last_part None = []
last_part (Some list) = Blocks list ∷ []

module _ (s : Source) (i j k : ℕ) (namespace : Option Namespaced) (name : ℕ) (span : Span) where
  abbrev from : List Part → List Part → Option (List Statement) → List Part
  from a b list = to_include s i j (((Includes (mixin_of s namespace name span []) ∷ (a ++ b)) ++ Behind k ∷ []) ++ last_part list)

  abbrev to : List Argument → Params → Option (List Statement) → List Part
  to a b list = include_of s i k (mixin_of s namespace name span a) (passed b list)

  include_is : (values : List Argument) (w : List Part) (params : Params) (v : List Part) (list : Option (List Statement))
      → IsGiven values w → IsHead params v → from w v list ≡ to values params list
  include_is values w params v None (inl (e, f)) (inl (g, h)) =
      ap (λ (x : List Part). from x v None) e ∙ ap (λ (x : List Part). from [] x None) g
      ∙ sym (ap (λ (x : List Argument). to x params None) f)
  include_is values w params v (Some list) (inl (e, f)) (inl (g, h)) =
      ap (λ (x : List Part). from x v (Some list)) e ∙ ap (λ (x : List Part). from [] x (Some list)) g
      ∙ sym (ap (λ (x : List Argument). to x params (Some list)) f ∙ ap (λ (x : Params). to [] x (Some list)) h)
  include_is values w params v None (inl (e, f)) (inr g) =
      ap (λ (x : List Part). from x v None) e ∙ ap (λ (x : List Part). from [] x None) g
      ∙ sym (ap (λ (x : List Argument). to x params None) f)
  include_is values w params v (Some list) (inl (e, f)) (inr g) =
      ap (λ (x : List Part). from x v (Some list)) e ∙ ap (λ (x : List Part). from [] x (Some list)) g
      ∙ sym (ap (λ (x : List Argument). to x params (Some list)) f)
  include_is values w params v None (inr e) (inl (g, h)) =
      ap (λ (x : List Part). from x v None) e ∙ ap (λ (x : List Part). from (Arguments values ∷ []) x None) g
  include_is values w params v (Some list) (inr e) (inl (g, h)) =
      ap (λ (x : List Part). from x v (Some list)) e ∙ ap (λ (x : List Part). from (Arguments values ∷ []) x (Some list)) g
      ∙ sym (ap (λ (x : Params). to values x (Some list)) h)
  include_is values w params v None (inr e) (inr g) =
      ap (λ (x : List Part). from x v None) e ∙ ap (λ (x : List Part). from (Arguments values ∷ []) x None) g
  include_is values w params v (Some list) (inr e) (inr g) =
      ap (λ (x : List Part). from x v (Some list)) e ∙ ap (λ (x : List Part). from (Arguments values ∷ []) x (Some list)) g

module _ (source written : Source) (n : ℕ) where
  -- the name of a mixin
  record MixinAgain (i j : ℕ) (w : List Part) : Type 0 where
    namespace : Option Namespaced
    name : ℕ
    is : w ≡ Includes (mixin_of source namespace name (span_between source i j) []) ∷ []
    tokens : List Tok
    spells : SpellsMixinName source i j namespace name tokens
    back : (p q : ℕ) → Stands written p tokens q
        → (space : Option Namespaced) × (place : ℕ)
        × Reads written n (include_name written) p q (Includes (mixin_of written space place (span_between written p q) []) ∷ [])
        × (space_of namespace ≡ space_of space) × (name_at source name ≡ name_at written place)

  mixin_name_again : (i j : ℕ) (w : List Part) → Reads source n (include_name source) i j w → MixinAgain i j w
  unfolding include_name
  mixin_name_again i j w (u, inl (m, e1, e2), e3) =
      let token = tok terminals.Named (Dashed (name_at source i)) in record {
        namespace = None;
        name = i;
        is = e3 ∙ ap (to_include_name source i j) e2;
        tokens = token ∷ [];
        spells = subst (λ (x : ℕ). SpellsMixinName source i x None i (token ∷ [])) (sym e1)
            (own_name (old_of source i (just terminals.Named) refl m));
        back = λ p q stand. (
          None,
          p,
          (Place p ∷ [], inl (is_of written p token (just terminals.Named) stand.0 refl, sym stand.1, refl), refl),
          refl,
          sym stand.0.said,
        );
      }
  mixin_name_again i j w (u, inr (k, u1, u2, (m1, e1, e2), (k2, v1, v2, (m2, e3, e4), (m3, e5, e6), e7), e8), e9) =
      let at : k2 ≡ suc (suc i) = e3 ∙ ap suc e1 in
      let first = tok terminals.Owner (Bytes 1 (bytes_at source i)) in
      let last = tok terminals.Named (Dashed (name_at source (suc (suc i)))) in
      let tokens = first ∷ sign terminals.OwnerDot ∷ last ∷ [] in
      let parts : u ≡ Place i ∷ Place (suc (suc i)) ∷ [] =
      e8 ∙ ap (λ (x : List Part). x ++ u2) e2 ∙ ap (λ (x : List Part). Place i ∷ x)
      (e7 ∙ ap (λ (x : List Part). x ++ v2) e4 ∙ e6 ∙ ap (λ (x : ℕ). Place x ∷ []) at) in record {
        namespace = Some (namespaced source i);
        name = suc (suc i);
        is = e9 ∙ ap (to_include_name source i j) parts;
        tokens = tokens;
        spells = subst (λ (x : ℕ). SpellsMixinName source i x (Some (namespaced source i)) (suc (suc i)) tokens)
            (sym (e5 ∙ ap suc at))
            (owned_name (old_of source i (just terminals.Owner) refl m1)
            (old_of source (suc i) (just terminals.OwnerDot) refl
            (subst (λ (x : ℕ). member (terminal_at source x) (just terminals.OwnerDot) ≡ true) e1 m2))
            (old_of source (suc (suc i)) (just terminals.Named) refl
            (subst (λ (x : ℕ). member (terminal_at source x) (just terminals.Named) ≡ true) at m3)));
        back = λ p q stand. (
          Some (namespaced written p),
          suc (suc p),
          (
            Place p ∷ Place (suc (suc p)) ∷ [],
            inr (
              suc p,
              Place p ∷ [],
              Place (suc (suc p)) ∷ [],
              (is_of written p first (just terminals.Owner) stand.0 refl, refl, refl),
              (
                suc (suc p),
                [],
                Place (suc (suc p)) ∷ [],
                (is_of written (suc p) (sign terminals.OwnerDot) (just terminals.OwnerDot) stand.1.0 refl, refl, refl),
                (is_of written (suc (suc p)) last (just terminals.Named) stand.1.1.0 refl, sym stand.1.1.1, refl),
                refl,
              ),
              refl,
            ),
            refl,
          ),
          ap (λ (x : List ℕ). Some x) (sym stand.0.said ∙ one_byte written p),
          sym stand.1.1.0.said,
        );
      }

  -- the parameters of the content block
  record UsingAgain (i j : ℕ) (w : List Part) : Type 0 where
    values : Params
    is : IsHead values w
    tokens : List Tok
    spells : SpellsUsing source i j values tokens
    back : (p q : ℕ) → Stands written p tokens q
        → (found : Params) × (parts : List Part) × Reads written n (using written) p q parts × IsHead found parts
        × LikeParams values found

  by_values : (i j : ℕ) (w : List Part) → Old source i (just terminals.Using)
      → (one : ParamsAgain source written n (suc i) j w) → (items : List Param) (rest : Option (List ℕ))
      → one.values.items ≡ items → one.values.rest ≡ rest → UsingAgain i j w
  unfolding using
  by_values i j w word one [] None e f = record {
    values = one.values;
    is = inr one.is;
    tokens = [];
    spells = empty_using word one.spells e f;
    back = λ p q z. (
      params_with [],
      [],
      inr (sym z, refl),
      inl (refl, refl),
      (subst (λ (x : List Param). LikeEach LikeParam x []) (sym e) tt, f),
    );
  }
  by_values i j w word one items rest e f = record {
    values = one.values;
    is = inr one.is;
    tokens = sign terminals.Using ∷ one.tokens;
    spells = some_using word one.spells (params_some one.values items rest e f);
    back = λ p q stand. let (found, reads, same) = one.back (suc p) q stand.1 in (
      found,
      Parameters found ∷ [],
      inl (
        suc p,
        [],
        Parameters found ∷ [],
        (is_of written p (sign terminals.Using) (just terminals.Using) stand.0 refl, refl, refl),
        reads,
        refl,
      ),
      inr refl,
      same,
    );
  }

  using_again : (i j : ℕ) (w : List Part) → Reads source n (using source) i j w → UsingAgain i j w
  unfolding using
  using_again i j w (inl (k, u, v, (m, e1, e2), d, e3)) =
      let one = params_again source written n (suc i) j v (subst (λ (x : ℕ). Reads source n (forms.params source) x j v) e1 d) in
      subst (λ (x : List Part). UsingAgain i j x) (sym (e3 ∙ ap (λ (x : List Part). x ++ v) e2))
      (by_values i j v (old_of source i (just terminals.Using) refl m) one one.values.items one.values.rest refl refl)
  using_again i j w (inr (e1, e2)) = record {
    values = params_with [];
    is = inl (e2, refl);
    tokens = [];
    spells = subst (λ (x : ℕ). SpellsUsing source i x (params_with []) []) (sym e1) no_using;
    back = λ p q z. (params_with [], [], inr (sym z, refl), inl (refl, refl), (tt, refl));
  }

  module _ (blocks : BlocksAgain source written n) where
    pub include_again : StatementAgain source written n include
    unfolding include block_or_end using
    include_again i j w (u, (k, u1, u2, (x, (k1, x1, x2, (m, e1, e2), (c, y1, y2, d, (a, z1, z2, g, h, e3), e4), e5), e6), inl b, e7), e8) =
        let name = mixin_name_again (suc i) c y1 (subst (λ (y : ℕ). Reads source n (include_name source) y c y1) e1 d) in
        let args = given_again source written n c a z1 g in
        let more = using_again a k z2 h in
        let inner = blocks k j u2 b in
        let span = span_between source i k in
        let name_span = span_between source (suc i) c in
        let it = mixin_of source name.namespace name.name name_span args.values in
        let empty = Includes (mixin_of source name.namespace name.name name_span []) in
        let head : x ≡ empty ∷ (z1 ++ z2) =
        e5 ∙ ap (λ (y : List Part). y ++ x2) e2 ∙ e4 ∙ ap (λ (y : List Part). y ++ y2) name.is
        ∙ ap (λ (y : List Part). empty ∷ y) e3 in
        let parts : u ≡ ((empty ∷ (z1 ++ z2)) ++ Behind k ∷ []) ++ last_part (Some inner.list) =
        e7 ∙ ap (λ (y : List Part). y ++ u2) (e6 ∙ ap (to_behind i k) head)
        ∙ ap (λ (y : List Part). ((empty ∷ (z1 ++ z2)) ++ Behind k ∷ []) ++ y) inner.is in record {
          statement = statements.Include it (content_with source more.values inner.list) span;
          is = e8 ∙ ap (to_include source i j) parts
              ∙ include_is source i j k name.namespace name.name name_span args.values z1 more.values z2 (Some inner.list) args.is
              more.is;
          tokens = sign terminals.AtInclude ∷ (name.tokens ++ (args.tokens ++ (more.tokens ++ inner.tokens)));
          spells = include_block span name_span (old_of source i (just terminals.AtInclude) refl m) name.spells args.spells
              more.spells inner.spells;
          back = λ p q stand.
              let (p1, l1, r1) = split written q name.tokens (args.tokens ++ (more.tokens ++ inner.tokens)) (suc p) stand.1 in
              let (p2, l2, r2) = split written q args.tokens (more.tokens ++ inner.tokens) p1 r1 in
              let (p3, l3, r3) = split written q more.tokens inner.tokens p2 r2 in
              let (space, place, names, same_space, same_name) = name.back (suc p) p1 l1 in
              let (values, w2, gives, given_is, like_args) = args.back p1 p2 l2 in
              let (params, v2, heads, head_is, like_params) = more.back p2 p3 l3 in
              let (list, reads, same) = inner.back p3 q r3 in
              let there = span_between written p p3 in
              let nspan = span_between written (suc p) p1 in
              let first = Includes (mixin_of written space place nspan []) in record {
                found = statements.Include (mixin_of written space place nspan values) (content_with written params list) there;
                reads = (
                  ((first ∷ (w2 ++ v2)) ++ Behind p3 ∷ []) ++ Blocks list ∷ [],
                  (
                    p3,
                    (first ∷ (w2 ++ v2)) ++ Behind p3 ∷ [],
                    Blocks list ∷ [],
                    (
                      first ∷ (w2 ++ v2),
                      (
                        suc p,
                        [],
                        first ∷ (w2 ++ v2),
                        (is_of written p (sign terminals.AtInclude) (just terminals.AtInclude) stand.0 refl, refl, refl),
                        (p1, first ∷ [], w2 ++ v2, names, (p2, w2, v2, gives, heads, refl), refl),
                        refl,
                      ),
                      refl,
                    ),
                    inl reads,
                    refl,
                  ),
                  sym (include_is written p q p3 space place nspan values w2 params v2 (Some list) given_is head_is),
                );
                alike = alike.include (same_space, same_name, like_args) (alike.passed like_params same);
              };
        }
    include_again i j w (u, (k, u1, u2, (x, (k1, x1, x2, (m, e1, e2), (c, y1, y2, d, (a, z1, z2, g, h, e3), e4), e5), e6), inr f, e7), e8) =
        let name = mixin_name_again (suc i) c y1 (subst (λ (y : ℕ). Reads source n (include_name source) y c y1) e1 d) in
        let args = given_again source written n c a z1 g in
        let more = using_again a k z2 h in
        let end = was_ended source written n k j u2 f in
        let span = span_between source i k in
        let name_span = span_between source (suc i) c in
        let it = mixin_of source name.namespace name.name name_span args.values in
        let empty = Includes (mixin_of source name.namespace name.name name_span []) in
        let head : x ≡ empty ∷ (z1 ++ z2) =
        e5 ∙ ap (λ (y : List Part). y ++ x2) e2 ∙ e4 ∙ ap (λ (y : List Part). y ++ y2) name.is
        ∙ ap (λ (y : List Part). empty ∷ y) e3 in
        let parts : u ≡ ((empty ∷ (z1 ++ z2)) ++ Behind k ∷ []) ++ last_part None =
        e7 ∙ ap (λ (y : List Part). y ++ u2) (e6 ∙ ap (to_behind i k) head)
        ∙ ap (λ (y : List Part). ((empty ∷ (z1 ++ z2)) ++ Behind k ∷ []) ++ y) end.1 in record {
          statement = statements.Include it None span;
          is = e8 ∙ ap (to_include source i j) parts
              ∙ include_is source i j k name.namespace name.name name_span args.values z1 more.values z2 None args.is more.is;
          tokens = ended (sign terminals.AtInclude ∷ (name.tokens ++ args.tokens));
          spells = include_line span name_span (old_of source i (just terminals.AtInclude) refl m) name.spells args.spells
              more.spells end.0;
          back = λ p q stand.
              let (p2, l0, r0) = split written q (name.tokens ++ args.tokens) (sign terminals.Semicolon ∷ []) (suc p) stand.1 in
              let (p1, l1, r1) = split written p2 name.tokens args.tokens (suc p) l0 in
              let (space, place, names, same_space, same_name) = name.back (suc p) p1 l1 in
              let (values, w2, gives, given_is, like_args) = args.back p1 p2 r1 in
              let there = span_between written p p2 in
              let nspan = span_between written (suc p) p1 in
              let first = Includes (mixin_of written space place nspan []) in record {
                found = statements.Include (mixin_of written space place nspan values) None there;
                reads = (
                  ((first ∷ (w2 ++ [])) ++ Behind p2 ∷ []) ++ [],
                  (
                    p2,
                    (first ∷ (w2 ++ [])) ++ Behind p2 ∷ [],
                    [],
                    (
                      first ∷ (w2 ++ []),
                      (
                        suc p,
                        [],
                        first ∷ (w2 ++ []),
                        (is_of written p (sign terminals.AtInclude) (just terminals.AtInclude) stand.0 refl, refl, refl),
                        (p1, first ∷ [], w2 ++ [], names, (p2, w2, [], gives, inr (refl, refl), refl), refl),
                        refl,
                      ),
                      refl,
                    ),
                    inr (is_ended source written n p2 q r0),
                    refl,
                  ),
                  sym (include_is written p q p2 space place nspan values w2 (params_with []) [] None given_is (inl (refl, refl))),
                );
                alike = alike.include (same_space, same_name, like_args) alike.no_content;
              };
        }
