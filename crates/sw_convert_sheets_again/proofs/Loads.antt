-- `@use` and `@forward` are read again.
use Rattle.std.proofs.Common.{◌≡◌, ℕ, suc, Bool, true, false, ◌||◌, if◌then◌else◌, List, [], ◌∷◌, ◌++◌, map, Option, Some, None, inl, inr, refl, sym, ◌∙◌, ap, subst, append_assoc}
use Rattle.sw_parse_grammar.specs.Grammar.{member}
use Rattle.sw_tree.specs.declared.load.Filter.{Filter}
use Rattle.sw_tree.specs.declared.load.Forward.{Forward}
use Rattle.sw_tree.specs.declared.load.Given.{Given}
use Rattle.sw_tree.specs.declared.load.Namespace.{Namespace}
use Rattle.sw_tree.specs.declared.load.Namespace.TheVariants as namespaces
use Rattle.sw_tree.specs.declared.load.Use.{Use}
use Rattle.sw_tree.specs.declared.statement.Statement.TheVariants as statements
use Rattle.sw_parse_terminals.specs.declared.terminal.Terminal.TheVariants as terminals
use Rattle.sw_parse_terminals.specs.Numbers.{just, these}
use Rattle.sw_parse_terminals.specs.Urls.{namespace_of}
use Rattle.sw_parse_table.specs.declared.source.Source.{Source}
use Rattle.sw_parse_table.specs.Parts.{Part, Place, Behind, Gives, States, givens_of}
use Rattle.sw_parse_table.specs.Sources.{terminal_at, decoded_at, bytes_at, span_between}
use Rattle.sw_parse_table.specs.Actions.{stands_at, namespace_by, url_at, to_use, to_behind, filter_by, to_forward}
use Rattle.sw_parse_table.specs.Statements.{as_name, use_, as_prefix, with_given, with_passed, forward}
use Rattle.sw_convert_alike.specs.Statements as alike
use Rattle.sw_convert_again.specs.Tokens.{Bytes, Decoded, Tok, tok, sign, Stands, Old}
use Rattle.sw_convert_again.specs.Again.{Reads}
use Rattle.sw_convert_again.specs.Loads.{SpellsNamespace, default_namespace, written_namespace, without_namespace, SpellsPrefix, no_prefix, some_prefix}
use Rattle.sw_convert_again.specs.Statements.{ended, use_line, forward_line}
use Rattle.sw_convert_again.specs.Claims.{StatementAgain}
use Rattle.sw_convert_again.proofs.Tokens.{one_byte, old_of, is_of, split}
use Rattle.sw_convert_again.proofs.Statements.{was_ended, is_ended}
use Rattle.sw_convert_sheets_again.proofs.Configurations.{with_given_again, with_passed_again}
use Rattle.sw_convert_sheets_again.proofs.Filters.{only_givens, none_of, filter_again}

module _ (source written : Source) (n : ℕ) where
  -- ---- the namespace

  record NamespaceAgain (url i j : ℕ) (w : List Part) : Type 0 where
    namespace : Namespace
    is : (givens : List Given) → namespace_by source url (w ++ map Gives givens) ≡ namespace
    givens : (givens : List Given) → givens_of (w ++ map Gives givens) ≡ givens
    tokens : List Tok
    spells : SpellsNamespace source url i j namespace tokens
    back : (there p q : ℕ) → decoded_at written there ≡ decoded_at source url → Stands written p tokens q
        → (found : List Part) × Reads written n (as_name written) p q found
        × ((givens : List Given) → namespace_by written there (found ++ map Gives givens) ≡ namespace)
        × ((givens : List Given) → givens_of (found ++ map Gives givens) ≡ givens)

  by_url : (s : Source) (url : ℕ) (givens : List Given)
      → namespace_by s url (map Gives givens) ≡ namespaces.Default (namespace_of (decoded_at s url))
  by_url s url [] = refl
  by_url s url (given ∷ givens) = refl

  by_name : (s : Source) (url name : ℕ) (b : Bool) (parts : List Part) → stands_at s name terminals.Star ≡ b
      → namespace_by s url (Place name ∷ parts)
      ≡ (if b then namespaces.Without else namespaces.Written (bytes_at s name))
  by_name s url name b parts e =
      ap (λ (x : Bool). if x then namespaces.Without else namespaces.Written (bytes_at s name)) e

  star_left : (a b : Bool) → (a || (b || false)) ≡ true → (b || false) ≡ false → (a || false) ≡ true
  star_left true b e f = refl
  star_left false b e f = absurd (cc)

  abbrev names : List ℕ
  names = these (terminals.Named ∷ terminals.Star ∷ [])

  -- behind `as`
  named_again : (url i j : ℕ) (w : List Part) → Old source i (just terminals.As) → w ≡ Place (suc i) ∷ []
      → j ≡ suc (suc i) → member (terminal_at source (suc i)) names ≡ true → (b : Bool)
      → stands_at source (suc i) terminals.Star ≡ b → NamespaceAgain url i j w
  unfolding as_name
  named_again url i j w first is end m true e =
      let tokens = sign terminals.As ∷ sign terminals.Star ∷ [] in record {
        namespace = namespaces.Without;
        is = λ givens. ap (λ (x : List Part). namespace_by source url (x ++ map Gives givens)) is
            ∙ by_name source url (suc i) true (map Gives givens) e;
        givens = λ givens. ap (λ (x : List Part). givens_of (x ++ map Gives givens)) is ∙ only_givens givens;
        tokens = tokens;
        spells = subst (λ (x : ℕ). SpellsNamespace source url i x namespaces.Without tokens) (sym end)
            (without_namespace first (old_of source (suc i) (just terminals.Star) refl e));
        back = λ there p q same stand.
            let star = is_of written (suc p) (sign terminals.Star) (just terminals.Star) stand.1.0 refl in (
              Place (suc p) ∷ [],
              inl (
                suc p,
                [],
                Place (suc p) ∷ [],
                (is_of written p (sign terminals.As) (just terminals.As) stand.0 refl, refl, refl),
                (is_of written (suc p) (sign terminals.Star) names stand.1.0 refl, sym stand.1.1, refl),
                refl,
              ),
              (λ givens. by_name written there (suc p) true (map Gives givens) star),
              (λ givens. only_givens givens),
            );
      }
  named_again url i j w first is end m false e =
      let name = bytes_at source (suc i) in
      let token = tok terminals.Named (Bytes 1 name) in
      let tokens = sign terminals.As ∷ token ∷ [] in record {
        namespace = namespaces.Written name;
        is = λ givens. ap (λ (x : List Part). namespace_by source url (x ++ map Gives givens)) is
            ∙ by_name source url (suc i) false (map Gives givens) e;
        givens = λ givens. ap (λ (x : List Part). givens_of (x ++ map Gives givens)) is ∙ only_givens givens;
        tokens = tokens;
        spells = subst (λ (x : ℕ). SpellsNamespace source url i x (namespaces.Written name) tokens) (sym end)
            (written_namespace first (old_of source (suc i) (just terminals.Named) refl (star_left _ _ m e)));
        back = λ there p q same stand.
            let none = none_of written (suc p) terminals.Named (Bytes 1 name) (just terminals.Star) stand.1.0 refl in
            let says : bytes_at written (suc p) ≡ name = sym (one_byte written (suc p)) ∙ stand.1.0.said in (
              Place (suc p) ∷ [],
              inl (
                suc p,
                [],
                Place (suc p) ∷ [],
                (is_of written p (sign terminals.As) (just terminals.As) stand.0 refl, refl, refl),
                (is_of written (suc p) token names stand.1.0 refl, sym stand.1.1, refl),
                refl,
              ),
              (λ givens. by_name written there (suc p) false (map Gives givens) none
                  ∙ ap (λ (x : List ℕ). namespaces.Written x) says),
              (λ givens. only_givens givens),
            );
      }

  namespace_again : (url i j : ℕ) (w : List Part) → Reads source n (as_name source) i j w → NamespaceAgain url i j w
  unfolding as_name
  namespace_again url i j w (inl (k, u, v, (m1, e1, e2), (m2, e3, e4), e5)) =
      named_again url i j w (old_of source i (just terminals.As) refl m1)
      (e5 ∙ ap (λ (x : List Part). x ++ v) e2 ∙ e4 ∙ ap (λ (x : ℕ). Place x ∷ []) e1) (e3 ∙ ap suc e1)
      (subst (λ (x : ℕ). member (terminal_at source x) names ≡ true) e1 m2) (stands_at source (suc i) terminals.Star)
      refl
  namespace_again url i j w (inr (e1, e2)) =
      let namespace = namespaces.Default (namespace_of (decoded_at source url)) in record {
        namespace = namespace;
        is = λ givens. ap (λ (x : List Part). namespace_by source url (x ++ map Gives givens)) e2
            ∙ by_url source url givens;
        givens = λ givens. ap (λ (x : List Part). givens_of (x ++ map Gives givens)) e2 ∙ only_givens givens;
        tokens = [];
        spells = subst (λ (x : ℕ). SpellsNamespace source url i x namespace []) (sym e1) default_namespace;
        back = λ there p q same e. (
          [],
          inr (sym e, refl),
          (λ givens. by_url written there givens ∙ ap (λ (x : List ℕ). namespaces.Default (namespace_of x)) same),
          (λ givens. only_givens givens),
        );
      }

  -- ---- `@use`

  abbrev use_of : (s : Source) (url at behind : ℕ) → Namespace → List Given → Use
  use_of s url at behind namespace givens = record {
    url = url_at s url;
    namespace = namespace;
    configuration = givens;
    span = span_between s at behind;
  }

  use_is : (s : Source) (url at behind : ℕ) (parts : List Part) (namespace : Namespace) (givens : List Given)
      → namespace_by s url parts ≡ namespace → givens_of parts ≡ givens
      → to_use s at behind (Place url ∷ parts) ≡ States (statements.Use (use_of s url at behind namespace givens)) ∷ []
  use_is s url at behind parts namespace givens e f =
      ap (λ (x : Namespace). States (statements.Use (use_of s url at behind x (givens_of parts))) ∷ []) e
      ∙ ap (λ (x : List Given). States (statements.Use (use_of s url at behind namespace x)) ∷ []) f

  pub use_again : StatementAgain source written n use_
  unfolding use_ with_given
  use_again i j w (
    k,
    u,
    v,
    (x, (k1, x1, x2, (m1, e1, e2), (k2, y1, y2, (m2, e3, e4), (k3, z1, z2, a, c, e5), e6), e7), e8),
    f,
    e9,
  ) =
      let at : k2 ≡ suc (suc i) = e3 ∙ ap suc e1 in
      let url = suc i in
      let name = namespace_again url (suc (suc i)) k3 z1 (subst (λ (t : ℕ). Reads source n (as_name source) t k3 z1) at a) in
      let list = with_given_again source written n k3 k z2 c in
      let end = was_ended source written n k j v f in
      let span = span_between source i k in
      let it = use_of source url i k name.namespace list.givens in
      let parts : x ≡ Place url ∷ (z1 ++ map Gives list.givens) =
      e7 ∙ ap (λ (t : List Part). t ++ x2) e2 ∙ e6 ∙ ap (λ (t : List Part). t ++ y2) e4
      ∙ ap (λ (t : ℕ). Place t ∷ y2) e1
      ∙ ap (λ (t : List Part). Place url ∷ t) (e5 ∙ ap (λ (t : List Part). z1 ++ t) list.is) in
      let first = tok terminals.LoadUrl (Decoded (decoded_at source url)) in
      let inner = name.tokens ++ list.tokens in record {
        statement = statements.Use it;
        is = e9 ∙ ap (λ (t : List Part). t ++ v)
            (e8 ∙ ap (to_use source i k) parts
            ∙ use_is source url i k (z1 ++ map Gives list.givens) name.namespace list.givens (name.is list.givens)
            (name.givens list.givens))
            ∙ ap (λ (t : List Part). States (statements.Use it) ∷ t) end.1;
        tokens = ended (sign terminals.AtUse ∷ first ∷ inner);
        spells = use_line span (old_of source i (just terminals.AtUse) refl m1)
            (old_of source url (just terminals.LoadUrl) refl
            (subst (λ (t : ℕ). member (terminal_at source t) (just terminals.LoadUrl) ≡ true) e1 m2))
            name.spells list.spells end.0;
        back = λ p q stand.
            let (last, l1, l2) = split written q inner (sign terminals.Semicolon ∷ []) (suc (suc p)) stand.1.1 in
            let (middle, left, right) = split written last name.tokens list.tokens (suc (suc p)) l1 in
            let (found, reads, names_is, givens_is) = name.back (suc p) (suc (suc p)) middle stand.1.0.said left in
            let (givens, others, same) = list.back middle last right in
            let z = use_of written (suc p) p last name.namespace givens in record {
              found = statements.Use z;
              reads = (
                last,
                States (statements.Use z) ∷ [],
                [],
                (
                  Place (suc p) ∷ (found ++ map Gives givens),
                  (
                    suc p,
                    [],
                    Place (suc p) ∷ (found ++ map Gives givens),
                    (is_of written p (sign terminals.AtUse) (just terminals.AtUse) stand.0 refl, refl, refl),
                    (
                      suc (suc p),
                      Place (suc p) ∷ [],
                      found ++ map Gives givens,
                      (is_of written (suc p) first (just terminals.LoadUrl) stand.1.0 refl, refl, refl),
                      (middle, found, map Gives givens, reads, others, refl),
                      refl,
                    ),
                    refl,
                  ),
                  sym (use_is written (suc p) p last (found ++ map Gives givens) name.namespace givens (names_is givens)
                      (givens_is givens)),
                ),
                is_ended source written n last q l2,
                refl,
              );
              alike = alike.use_ (sym stand.1.0.said, refl, same);
            };
      }

  -- ---- `@forward`

  abbrev prefix_parts : Option ℕ → List Part
  prefix_parts None = []
  prefix_parts (Some at) = Place at ∷ []

  abbrev prefix_at : Source → Option ℕ → Option (List ℕ)
  prefix_at s None = None
  prefix_at s (Some at) = Some (bytes_at s at)

  record PrefixAgain (i j : ℕ) (w : List Part) : Type 0 where
    place : Option ℕ
    is : w ≡ prefix_parts place
    tokens : List Tok
    spells : SpellsPrefix source i j (prefix_at source place) tokens
    back : (p q : ℕ) → Stands written p tokens q
        → (found : Option ℕ) × Reads written n (as_prefix written) p q (prefix_parts found)
        × (prefix_at written found ≡ prefix_at source place)

  prefix_again : (i j : ℕ) (w : List Part) → Reads source n (as_prefix source) i j w → PrefixAgain i j w
  unfolding as_prefix
  prefix_again i j w (inr (e1, e2)) = record {
    place = None;
    is = e2;
    tokens = [];
    spells = subst (λ (x : ℕ). SpellsPrefix source i x None []) (sym e1) no_prefix;
    back = λ p q e. (None, inr (sym e, refl), refl);
  }
  prefix_again i j w (inl (k, u, v, (m1, e1, e2), (k2, v1, v2, (m2, e3, e4), (m3, e5, e6), e7), e8)) =
      let at : k2 ≡ suc (suc i) = e3 ∙ ap suc e1 in
      let name = bytes_at source (suc i) in
      let token = tok terminals.Prefix (Bytes 1 name) in
      let tokens = sign terminals.As ∷ token ∷ sign terminals.PrefixStar ∷ [] in record {
        place = Some (suc i);
        is = e8 ∙ ap (λ (x : List Part). x ++ v) e2 ∙ e7 ∙ ap (λ (x : List Part). x ++ v2) e4
            ∙ ap (λ (x : ℕ). Place x ∷ v2) e1 ∙ ap (λ (x : List Part). Place (suc i) ∷ x) e6;
        tokens = tokens;
        spells = subst (λ (x : ℕ). SpellsPrefix source i x (Some name) tokens) (sym (e5 ∙ ap suc at))
            (some_prefix (old_of source i (just terminals.As) refl m1)
            (old_of source (suc i) (just terminals.Prefix) refl
            (subst (λ (x : ℕ). member (terminal_at source x) (just terminals.Prefix) ≡ true) e1 m2))
            (old_of source (suc (suc i)) (just terminals.PrefixStar) refl
            (subst (λ (x : ℕ). member (terminal_at source x) (just terminals.PrefixStar) ≡ true) at m3)));
        back = λ p q stand. (
          Some (suc p),
          inl (
            suc p,
            [],
            Place (suc p) ∷ [],
            (is_of written p (sign terminals.As) (just terminals.As) stand.0 refl, refl, refl),
            (
              suc (suc p),
              Place (suc p) ∷ [],
              [],
              (is_of written (suc p) token (just terminals.Prefix) stand.1.0 refl, refl, refl),
              (
                is_of written (suc (suc p)) (sign terminals.PrefixStar) (just terminals.PrefixStar) stand.1.1.0 refl,
                sym stand.1.1.1,
                refl,
              ),
              refl,
            ),
            refl,
          ),
          ap Some (sym (one_byte written (suc p)) ∙ stand.1.0.said),
        );
      }

  abbrev forward_with : (s : Source) (url at behind : ℕ) → Option (List ℕ) → Filter → List Given → Forward
  forward_with s url at behind prefix passes givens = record {
    url = url_at s url;
    prefix = prefix;
    filter = passes;
    configuration = givens;
    span = span_between s at behind;
  }

  forward_is : (s : Source) (url at behind head : ℕ) (place : Option ℕ) (parts : List Part) (passes : Filter)
      (givens : List Given) → filter_by s parts ≡ passes → givens_of parts ≡ givens
      → to_forward s at behind (Place url ∷ (prefix_parts place ++ Behind head ∷ parts))
      ≡ States (statements.Forward (forward_with s url at behind (prefix_at s place) passes givens)) ∷ []
  forward_is s url at behind head None parts passes givens e f =
      ap (λ (x : Filter). States (statements.Forward (forward_with s url at behind None x (givens_of parts))) ∷ []) e
      ∙ ap (λ (x : List Given). States (statements.Forward (forward_with s url at behind None passes x)) ∷ []) f
  forward_is s url at behind head (Some place) parts passes givens e f =
      ap (λ (x : Filter). States (statements.Forward (forward_with s url at behind (Some (bytes_at s place)) x (givens_of parts))) ∷ []) e
      ∙ ap (λ (x : List Given). States (statements.Forward (forward_with s url at behind (Some (bytes_at s place)) passes x)) ∷ []) f

  pub forward_again : StatementAgain source written n forward
  unfolding forward with_passed
  forward_again i j w (
    k,
    u,
    v,
    (
      x,
      (
        h,
        x1,
        x2,
        (y, (k1, y1, y2, (m1, e1, e2), (k2, z1, z2, (m2, e3, e4), a, e5), e6), e7),
        (k3, s1, s2, b, c, e8),
        e9,
      ),
      e10,
    ),
    f,
    e11,
  ) =
      let at : k2 ≡ suc (suc i) = e3 ∙ ap suc e1 in
      let url = suc i in
      let prefix = prefix_again (suc (suc i)) h z2 (subst (λ (t : ℕ). Reads source n (as_prefix source) t h z2) at a) in
      let some = filter_again source written n h k3 s1 b in
      let list = with_passed_again source written n k3 k s2 c in
      let end = was_ended source written n k j v f in
      let span = span_between source i k in
      let it = forward_with source url i k (prefix_at source prefix.place) some.passes list.givens in
      let rest = s1 ++ map Gives list.givens in
      let head : y ≡ Place url ∷ prefix_parts prefix.place =
      e6 ∙ ap (λ (t : List Part). t ++ y2) e2 ∙ e5 ∙ ap (λ (t : List Part). t ++ z2) e4
      ∙ ap (λ (t : ℕ). Place t ∷ z2) e1 ∙ ap (λ (t : List Part). Place url ∷ t) prefix.is in
      let parts : x ≡ Place url ∷ (prefix_parts prefix.place ++ Behind h ∷ rest) =
      e9 ∙ ap (λ (t : List Part). t ++ x2) (e7 ∙ ap (to_behind i h) head)
      ∙ append_assoc (Place url ∷ prefix_parts prefix.place) (Behind h ∷ []) x2
      ∙ ap (λ (t : List Part). Place url ∷ (prefix_parts prefix.place ++ Behind h ∷ t))
      (e8 ∙ ap (λ (t : List Part). s1 ++ t) list.is) in
      let first = tok terminals.LoadUrl (Decoded (decoded_at source url)) in
      let inner = prefix.tokens ++ (some.tokens ++ list.tokens) in record {
        statement = statements.Forward it;
        is = e11 ∙ ap (λ (t : List Part). t ++ v)
            (e10 ∙ ap (to_forward source i k) parts
            ∙ forward_is source url i k h prefix.place rest some.passes list.givens (some.is list.givens)
            (some.givens list.givens))
            ∙ ap (λ (t : List Part). States (statements.Forward it) ∷ t) end.1;
        tokens = ended (sign terminals.AtForward ∷ first ∷ inner);
        spells = forward_line span (old_of source i (just terminals.AtForward) refl m1)
            (old_of source url (just terminals.LoadUrl) refl
            (subst (λ (t : ℕ). member (terminal_at source t) (just terminals.LoadUrl) ≡ true) e1 m2))
            prefix.spells some.spells list.spells end.0;
        back = λ p q stand.
            let (last, l1, l2) = split written q inner (sign terminals.Semicolon ∷ []) (suc (suc p)) stand.1.1 in
            let (p1, left, right) = split written last prefix.tokens (some.tokens ++ list.tokens) (suc (suc p)) l1 in
            let (p2, left2, right2) = split written last some.tokens list.tokens p1 right in
            let (place, reads, prefix_is) = prefix.back (suc (suc p)) p1 left in
            let (found, others, filter_is, givens_is) = some.back p1 p2 left2 in
            let (givens, more, same) = list.back p2 last right2 in
            let all = found ++ map Gives givens in
            let z = forward_with written (suc p) p last (prefix_at written place) some.passes givens in record {
              found = statements.Forward z;
              reads = (
                last,
                States (statements.Forward z) ∷ [],
                [],
                (
                  Place (suc p) ∷ (prefix_parts place ++ Behind p1 ∷ all),
                  (
                    p1,
                    (Place (suc p) ∷ prefix_parts place) ++ Behind p1 ∷ [],
                    all,
                    (
                      Place (suc p) ∷ prefix_parts place,
                      (
                        suc p,
                        [],
                        Place (suc p) ∷ prefix_parts place,
                        (is_of written p (sign terminals.AtForward) (just terminals.AtForward) stand.0 refl, refl, refl),
                        (
                          suc (suc p),
                          Place (suc p) ∷ [],
                          prefix_parts place,
                          (is_of written (suc p) first (just terminals.LoadUrl) stand.1.0 refl, refl, refl),
                          reads,
                          refl,
                        ),
                        refl,
                      ),
                      refl,
                    ),
                    (p2, found, map Gives givens, others, more, refl),
                    sym (append_assoc (Place (suc p) ∷ prefix_parts place) (Behind p1 ∷ []) all),
                  ),
                  sym (forward_is written (suc p) p last p1 place all some.passes givens (filter_is givens) (givens_is givens)),
                ),
                is_ended source written n last q l2,
                refl,
              );
              alike = alike.forward (sym stand.1.0.said, sym prefix_is, refl, same);
            };
      }
