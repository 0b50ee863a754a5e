-- Declarations of variables are read again, with their flags.
use Rattle.std.proofs.Common.{◌≡◌, ◌⊎◌, ℕ, suc, Bool, true, false, ◌&&◌, ◌||◌, List, [], ◌∷◌, ◌++◌, map, inl, inr, refl, sym, ◌∙◌, ap, subst}
use Rattle.sw_parse_grammar.specs.Grammar.{member, Row, done, then}
use Rattle.sw_tree.specs.declared.statement.Flags.{Flags}
use Rattle.sw_tree.specs.declared.statement.Variable.{Variable}
use Rattle.sw_tree.specs.declared.statement.Assignment.{Assignment}
use Rattle.sw_tree.specs.declared.statement.Statement.TheVariants as statements
use Rattle.sw_parse_terminals.specs.declared.terminal.Terminal.{Terminal}
use Rattle.sw_parse_terminals.specs.declared.terminal.Terminal.TheVariants as terminals
use Rattle.sw_parse_terminals.specs.Numbers.{number_of, just, these}
use Rattle.sw_parse_table.specs.declared.source.Source.{Source}
use Rattle.sw_parse_table.specs.Parts.{Part, Place, States, Values, places_of, Owns}
use Rattle.sw_parse_table.specs.Values.{qualified_of}
use Rattle.sw_parse_grammar.proofs.Sets.{apart}
use Rattle.std.specs.List.{list_any}
use Rattle.sw_parse_table.specs.Sets.{dollars, endings}
use Rattle.sw_parse_table.specs.Sources.{terminal_at, bytes_at, span_between}
use Rattle.sw_parse_table.specs.Actions.{stands_at, name_at, flags_at, to_set, to_owner, to_assigned}
use Rattle.sw_parse_table.specs.Expressions.{expr}
use Rattle.sw_parse_table.specs.Statements.{dollar_name, colon_expr, flag, default_flag, set, owner, assigned}
use Rattle.sw_convert_alike.specs.Statements as alike
use Rattle.sw_convert_again.specs.Tokens.{Dashed, Bytes, tok, sign, Is, Stands, Old}
use Rattle.sw_convert_again.specs.Again.{Reads}
use Rattle.sw_convert_again.specs.Statements.{OldFlags, no_flags, more_flags, any_flag, flag_if, flag_tokens, ended, variable_line, assignment_line}
use Rattle.sw_convert_again.specs.Claims.{StatementAgain}
use Rattle.sw_convert_again.proofs.Tokens.{one_byte, unless, kind_is, old_of, is_of, split}
use Rattle.sw_convert_again.proofs.Values.{values_again}
use Rattle.sw_convert_again.proofs.Statements.{was_ended, is_ended}

placed : (places : List ℕ) → places_of (map Place places) ≡ places
placed [] = refl
placed (place ∷ places) = ap (λ (x : List ℕ). place ∷ x) (placed places)

flags_are : (a b c d : Bool) → a ≡ c → b ≡ d → (let x : Flags = record { default = a; global = b } in x) ≡ record { default = c; global = d }
flags_are a b c d e f =
    ap (λ (z : Bool). (let x : Flags = record { default = z; global = b } in x)) e
    ∙ ap (λ (z : Bool). (let x : Flags = record { default = c; global = z } in x)) f

-- a token of one terminal is none of a set without it
none_of : (source : Source) (at : ℕ) (terminal : Terminal) (set : List ℕ) → Is source at (sign terminal)
    → member (number_of terminal) set ≡ false → member (terminal_at source at) set ≡ false
none_of source at terminal set is e = ap (λ (k : ℕ). member k set) (kind_is source at is.lexeme is.there) ∙ only is.kind
  where
    only : (is.lexeme.terminal ≡ terminal) ⊎ ⊥ → member (number_of is.lexeme.terminal) set ≡ false
    only (inl f) = ap (λ (t : Terminal). member (number_of t) set) f ∙ e
    only (inr f) = absurd f

module _ (source written : Source) (n : ℕ) where
  -- the flags that were read
  record FlagsRead (names : List ℕ) (i j : ℕ) (w : List Part) : Type 0 where
    places : List ℕ
    is : w ≡ map Place places
    old : OldFlags source names i j places

  flags_read : {i j : ℕ} {w : List Part} → Row (Reads source n (flag source)) i j w → FlagsRead any_flag i j w
  unfolding flag
  flags_read (done {i}) = record { places = []; is = refl; old = no_flags }
  flags_read (then {i} {k} {j} {u} {v} (c, u1, u2, (m1, e1, e2), (m2, e3, e4), e5) row) =
      let rest = flags_read row in
      let at : k ≡ suc (suc i) = e3 ∙ ap suc e1 in
      let names = these (terminals.Default ∷ terminals.Global ∷ []) in
      let one : u ≡ Place (suc i) ∷ [] =
      e5 ∙ ap (λ (x : List Part). x ++ u2) e2 ∙ e4 ∙ ap (λ (x : ℕ). Place x ∷ []) e1 in record {
        places = suc i ∷ rest.places;
        is = ap (λ (x : List Part). x ++ v) one ∙ ap (λ (x : List Part). Place (suc i) ∷ x) rest.is;
        old = more_flags (old_of source i endings refl m1)
            (old_of source (suc i) names refl (subst (λ (x : ℕ). member (terminal_at source x) names ≡ true) e1 m2))
            (subst (λ (x : ℕ). OldFlags source any_flag x j rest.places) at rest.old);
      }

  -- the same where the one flag is `!default`
  defaults_read : {i j : ℕ} {w : List Part} → Row (Reads source n (default_flag source)) i j w
      → FlagsRead (just terminals.Default) i j w
  unfolding default_flag
  defaults_read (done {i}) = record { places = []; is = refl; old = no_flags }
  defaults_read (then {i} {k} {j} {u} {v} (c, u1, u2, (m1, e1, e2), (m2, e3, e4), e5) row) =
      let rest = defaults_read row in
      let at : k ≡ suc (suc i) = e3 ∙ ap suc e1 in
      let names = just terminals.Default in
      let one : u ≡ Place (suc i) ∷ [] =
      e5 ∙ ap (λ (x : List Part). x ++ u2) e2 ∙ e4 ∙ ap (λ (x : ℕ). Place x ∷ []) e1 in record {
        places = suc i ∷ rest.places;
        is = ap (λ (x : List Part). x ++ v) one ∙ ap (λ (x : List Part). Place (suc i) ∷ x) rest.is;
        old = more_flags (old_of source i endings refl m1)
            (old_of source (suc i) names refl (subst (λ (x : ℕ). member (terminal_at source x) names ≡ true) e1 m2))
            (subst (λ (x : ℕ). OldFlags source names x j rest.places) at rest.old);
      }

  -- none of these is `!global`
  never_global : {i j : ℕ} {places : List ℕ} → OldFlags source (just terminals.Default) i j places
      → (flags_at source places).global ≡ false
  never_global no_flags = refl
  never_global (more_flags {i} {j} {places} one two more) =
      ap (λ (x : Bool). x || list_any (λ (at : ℕ). stands_at source at terminals.Global) places)
      (ap (λ (k : ℕ). member k (just terminals.Global)) (kind_is source (suc i) two.lexeme two.there)
      ∙ unless (member (number_of two.lexeme.terminal) (just terminals.Global))
      (apart (number_of two.lexeme.terminal) (just terminals.Default) (just terminals.Global) refl two.kind))
      ∙ never_global more

  -- one flag that is written
  one_flag : (name : Terminal) → member (number_of name) (these (terminals.Default ∷ terminals.Global ∷ [])) ≡ true
      → (p : ℕ) → Is written p (sign terminals.Ending) → Is written (suc p) (sign name)
      → Reads written n (flag written) p (suc (suc p)) (Place (suc p) ∷ [])
  unfolding flag
  one_flag name e p a b = (
    suc p,
    [],
    Place (suc p) ∷ [],
    (is_of written p (sign terminals.Ending) endings a refl, refl, refl),
    (
      is_of written (suc p) (sign name) (these (terminals.Default ∷ terminals.Global ∷ [])) b (ap (λ (x : Bool). x && true) e),
      refl,
      refl,
    ),
    refl,
  )

  record FlagsBack (default global : Bool) (p q : ℕ) : Type 0 where
    places : List ℕ
    reads : Row (Reads written n (flag written)) p q (map Place places)
    same : flags_at written places ≡ record { default = default; global = global }

  is_default : (at : ℕ) → Is written at (sign terminals.Default) → member (terminal_at written at) (just terminals.Default) ≡ true
  is_default at is = is_of written at (sign terminals.Default) (just terminals.Default) is refl

  is_global : (at : ℕ) → Is written at (sign terminals.Global) → member (terminal_at written at) (just terminals.Global) ≡ true
  is_global at is = is_of written at (sign terminals.Global) (just terminals.Global) is refl

  no_global : (at : ℕ) → Is written at (sign terminals.Default) → member (terminal_at written at) (just terminals.Global) ≡ false
  no_global at is = none_of written at terminals.Default (just terminals.Global) is refl

  no_default : (at : ℕ) → Is written at (sign terminals.Global) → member (terminal_at written at) (just terminals.Default) ≡ false
  no_default at is = none_of written at terminals.Global (just terminals.Default) is refl

  either : (a b c d : Bool) → a ≡ c → b ≡ d → (a || (b || false)) ≡ (c || (d || false))
  either a b c d e f = ap (λ (x : Bool). x || (b || false)) e ∙ ap (λ (x : Bool). c || (x || false)) f

  flags_back : (default global : Bool) (p q : ℕ)
      → Stands written p (flag_if default terminals.Default ++ flag_if global terminals.Global) q
      → FlagsBack default global p q
  flags_back false false p q e = record {
    places = [];
    reads = subst (λ (x : ℕ). Row (Reads written n (flag written)) p x []) e done;
    same = refl;
  }
  flags_back true false p q (a, (b, e)) = record {
    places = suc p ∷ [];
    reads = subst (λ (x : ℕ). Row (Reads written n (flag written)) p x (Place (suc p) ∷ [])) e
        (then (one_flag terminals.Default refl p a b) done);
    same = flags_are _ _ true false (ap (λ (x : Bool). x || false) (is_default (suc p) b))
        (ap (λ (x : Bool). x || false) (no_global (suc p) b));
  }
  flags_back false true p q (a, (b, e)) = record {
    places = suc p ∷ [];
    reads = subst (λ (x : ℕ). Row (Reads written n (flag written)) p x (Place (suc p) ∷ [])) e
        (then (one_flag terminals.Global refl p a b) done);
    same = flags_are _ _ false true (ap (λ (x : Bool). x || false) (no_default (suc p) b))
        (ap (λ (x : Bool). x || false) (is_global (suc p) b));
  }
  flags_back true true p q (a, (b, (c, (d, e)))) = record {
    places = suc p ∷ suc (suc (suc p)) ∷ [];
    reads = subst (λ (x : ℕ). Row (Reads written n (flag written)) p x (Place (suc p) ∷ Place (suc (suc (suc p))) ∷ [])) e
        (then (one_flag terminals.Default refl p a b) (then (one_flag terminals.Global refl (suc (suc p)) c d) done));
    same = flags_are _ _ true true
        (either _ _ true false (is_default (suc p) b) (no_default (suc (suc (suc p))) d))
        (either _ _ false true (no_global (suc p) b) (is_global (suc (suc (suc p))) d));
  }

  pub variable_again : StatementAgain source written n set
  unfolding set dollar_name colon_expr
  variable_again i j w (
    k,
    u,
    v,
    (
      x,
      (
        a,
        x1,
        x2,
        (a1, y1, y2, (m1, e1, e2), (m2, e3, e4), e5),
        (b, z1, z2, (c, w1, w2, (m3, e6, e7), d, e8), row, e9),
        e10,
      ),
      e11,
    ),
    f,
    e12,
  ) =
      let at : a ≡ suc (suc i) = e3 ∙ ap suc e1 in
      let after : c ≡ suc (suc (suc i)) = e6 ∙ ap suc at in
      let one = values_again source written n (suc (suc (suc i))) b w2
      (subst (λ (y : ℕ). Reads source n (expr source) y b w2) after d) in
      let marks = flags_read row in
      let end = was_ended source written n k j v f in
      let name = name_at source (suc i) in
      let flags = flags_at source marks.places in
      let span = span_between source i k in
      let it : Variable = record { name = name; value = one.value; flags = flags; span = span } in
      let named : x1 ≡ Place (suc i) ∷ [] =
      e5 ∙ ap (λ (y : List Part). y ++ y2) e2 ∙ e4 ∙ ap (λ (y : ℕ). Place y ∷ []) e1 in
      let valued : x2 ≡ Values one.value ∷ map Place marks.places =
      e9 ∙ ap (λ (y : List Part). y ++ z2) (e8 ∙ ap (λ (y : List Part). y ++ w2) e7 ∙ one.is)
      ∙ ap (λ (y : List Part). Values one.value ∷ y) marks.is in
      let parts : x ≡ Place (suc i) ∷ Values one.value ∷ map Place marks.places =
      e10 ∙ ap (λ (y : List Part). y ++ x2) named ∙ ap (λ (y : List Part). Place (suc i) ∷ y) valued in
      let says : to_set source i k x ≡ States (statements.Variable it) ∷ [] =
      ap (to_set source i k) parts
      ∙ ap (λ (y : List ℕ). States (statements.Variable (record { name = name; value = one.value; flags = flags_at source y; span = span })) ∷ [])
      (placed marks.places) in
      let second = tok terminals.VariableName (Dashed name) in
      let tail = one.tokens ++ flag_tokens flags in
      let tokens = sign terminals.DollarNamed ∷ second ∷ sign terminals.Colon ∷ tail in record {
        statement = statements.Variable it;
        is = e12 ∙ ap (λ (y : List Part). y ++ v) (e11 ∙ says)
            ∙ ap (λ (y : List Part). States (statements.Variable it) ∷ y) end.1;
        tokens = ended tokens;
        spells = variable_line span (old_of source i dollars refl m1)
            (old_of source (suc i) (just terminals.VariableName) refl
            (subst (λ (y : ℕ). member (terminal_at source y) (just terminals.VariableName) ≡ true) e1 m2))
            (old_of source (suc (suc i)) (just terminals.Colon) refl
            (subst (λ (y : ℕ). member (terminal_at source y) (just terminals.Colon) ≡ true) at m3))
            one.spells marks.old end.0;
        back = λ p q stand.
            let (last, l1, l2) = split written q tail (sign terminals.Semicolon ∷ []) (suc (suc (suc p))) stand.1.1.1 in
            let (middle, left, right) = split written last one.tokens (flag_tokens flags) (suc (suc (suc p))) l1 in
            let y = one.back (suc (suc (suc p))) middle left in
            let g = flags_back flags.default flags.global middle last right in
            let there = span_between written p last in
            let z : Variable = record { name = name_at written (suc p); value = y.found; flags = flags_at written g.places; span = there } in record {
              found = statements.Variable z;
              reads = (
                last,
                States (statements.Variable z) ∷ [],
                [],
                (
                  Place (suc p) ∷ Values y.found ∷ map Place g.places,
                  (
                    suc (suc p),
                    Place (suc p) ∷ [],
                    Values y.found ∷ map Place g.places,
                    (
                      suc p,
                      [],
                      Place (suc p) ∷ [],
                      (is_of written p (sign terminals.DollarNamed) dollars stand.0 refl, refl, refl),
                      (is_of written (suc p) second (just terminals.VariableName) stand.1.0 refl, refl, refl),
                      refl,
                    ),
                    (
                      middle,
                      Values y.found ∷ [],
                      map Place g.places,
                      (
                        suc (suc (suc p)),
                        [],
                        Values y.found ∷ [],
                        (is_of written (suc (suc p)) (sign terminals.Colon) (just terminals.Colon) stand.1.1.0 refl, refl, refl),
                        y.reads,
                        refl,
                      ),
                      g.reads,
                      refl,
                    ),
                    refl,
                  ),
                  ap (λ (m : List ℕ). States (statements.Variable (record
                      { name = name_at written (suc p); value = y.found; flags = flags_at written m; span = there })) ∷ [])
                      (sym (placed g.places)),
                ),
                is_ended source written n last q l2,
                refl,
              );
              alike = alike.variable (sym stand.1.0.said) y.alike (sym g.same);
            };
      }

  -- `!default` where it is written
  default_back : (default : Bool) (p q : ℕ) → Stands written p (flag_if default terminals.Default) q
      → (places : List ℕ) × Row (Reads written n (default_flag written)) p q (map Place places)
      × (flags_at written places ≡ record { default = default; global = false })
  unfolding default_flag
  default_back false p q e =
      ([], subst (λ (x : ℕ). Row (Reads written n (default_flag written)) p x []) e done, refl)
  default_back true p q (a, (b, e)) = (
    suc p ∷ [],
    subst (λ (x : ℕ). Row (Reads written n (default_flag written)) p x (Place (suc p) ∷ [])) e
        (then (
          suc p,
          [],
          Place (suc p) ∷ [],
          (is_of written p (sign terminals.Ending) endings a refl, refl, refl),
          (is_of written (suc p) (sign terminals.Default) (just terminals.Default) b refl, refl, refl),
          refl,
        ) done),
    flags_are _ _ true false (ap (λ (x : Bool). x || false) (is_default (suc p) b))
        (ap (λ (x : Bool). x || false) (no_global (suc p) b)),
  )

  -- the variable that is set
  record OwnerAgain (i a : ℕ) (w : List Part) : Type 0 where
    end : a ≡ suc (suc (suc (suc i)))
    is : w ≡ Owns (qualified_of source i (suc (suc (suc i)))) (span_between source i a) ∷ []
    one : Old source i (just terminals.Owner)
    two : Old source (suc i) (just terminals.OwnerDot)
    three : Old source (suc (suc i)) (just terminals.OwnerDollar)
    four : Old source (suc (suc (suc i))) (just terminals.VariableName)

  owner_again : (i a : ℕ) (w : List Part) → Reads source n (owner source) i a w → OwnerAgain i a w
  unfolding owner
  owner_again i a w (o, (k1, o1, o2, (m1, e1, e2), (k2, p1, p2, (m2, e3, e4), (k3, q1, q2, (m3, e5, e6), (m4, e7, e8), e9), e10), e11), e12) =
      let a2 : k2 ≡ suc (suc i) = e3 ∙ ap suc e1 in
      let a3 : k3 ≡ suc (suc (suc i)) = e5 ∙ ap suc a2 in
      let parts : o ≡ Place i ∷ Place (suc (suc (suc i))) ∷ [] =
      e11 ∙ ap (λ (x : List Part). x ++ o2) e2 ∙ ap (λ (x : List Part). Place i ∷ x)
      (e10 ∙ ap (λ (x : List Part). x ++ p2) e4 ∙ e9 ∙ ap (λ (x : List Part). x ++ q2) e6 ∙ e8
      ∙ ap (λ (x : ℕ). Place x ∷ []) a3) in record {
        end = e7 ∙ ap suc a3;
        is = e12 ∙ ap (to_owner source i a) parts;
        one = old_of source i (just terminals.Owner) refl m1;
        two = old_of source (suc i) (just terminals.OwnerDot) refl
            (subst (λ (x : ℕ). member (terminal_at source x) (just terminals.OwnerDot) ≡ true) e1 m2);
        three = old_of source (suc (suc i)) (just terminals.OwnerDollar) refl
            (subst (λ (x : ℕ). member (terminal_at source x) (just terminals.OwnerDollar) ≡ true) a2 m3);
        four = old_of source (suc (suc (suc i))) (just terminals.VariableName) refl
            (subst (λ (x : ℕ). member (terminal_at source x) (just terminals.VariableName) ≡ true) a3 m4);
      }

  pub assignment_again : StatementAgain source written n assigned
  unfolding assigned owner colon_expr
  assignment_again i j w (k, u, v, (x, (a, x1, x2, own, (b, z1, z2, (c, w1, w2, (m, e1, e2), d, e3), row, e4), e5), e6), f, e7) =
      let target = owner_again i a x1 own in
      let after : c ≡ suc (suc (suc (suc (suc i)))) = e1 ∙ ap suc target.end in
      let one = values_again source written n (suc (suc (suc (suc (suc i))))) b w2
      (subst (λ (y : ℕ). Reads source n (expr source) y b w2) after d) in
      let marks = defaults_read row in
      let end = was_ended source written n k j v f in
      let flags = flags_at source marks.places in
      let span = span_between source i k in
      let target_span = span_between source i a in
      let name = suc (suc (suc i)) in
      let it : Assignment = record {
        target = qualified_of source i name;
        target_span = target_span;
        value = one.value;
        flags = flags;
        span = span;
      } in
      let valued : x2 ≡ Values one.value ∷ map Place marks.places =
      e4 ∙ ap (λ (y : List Part). y ++ z2) (e3 ∙ ap (λ (y : List Part). y ++ w2) e2 ∙ one.is)
      ∙ ap (λ (y : List Part). Values one.value ∷ y) marks.is in
      let parts : x ≡ Owns (qualified_of source i name) target_span ∷ Values one.value ∷ map Place marks.places =
      e5 ∙ ap (λ (y : List Part). y ++ x2) target.is
      ∙ ap (λ (y : List Part). Owns (qualified_of source i name) target_span ∷ y) valued in
      let says : to_assigned source i k x ≡ States (statements.Assignment it) ∷ [] =
      ap (to_assigned source i k) parts
      ∙ ap (λ (y : List ℕ). States (statements.Assignment (record {
        target = qualified_of source i name;
        target_span = target_span;
        value = one.value;
        flags = flags_at source y;
        span = span;
      })) ∷ []) (placed marks.places) in
      let first = tok terminals.Owner (Bytes 1 (bytes_at source i)) in
      let last_name = tok terminals.VariableName (Dashed (name_at source name)) in
      let tail = one.tokens ++ flag_if flags.default terminals.Default in
      let tokens = first ∷ sign terminals.OwnerDot ∷ sign terminals.OwnerDollar ∷ last_name ∷ sign terminals.Colon ∷ tail in record {
        statement = statements.Assignment it;
        is = e7 ∙ ap (λ (y : List Part). y ++ v) (e6 ∙ says)
            ∙ ap (λ (y : List Part). States (statements.Assignment it) ∷ y) end.1;
        tokens = ended tokens;
        spells = assignment_line span target_span target.one target.two target.three target.four
            (old_of source (suc (suc (suc (suc i)))) (just terminals.Colon) refl
            (subst (λ (y : ℕ). member (terminal_at source y) (just terminals.Colon) ≡ true) target.end m))
            one.spells marks.old end.0;
        back = λ p q stand.
            let s = suc (suc (suc p)) in
            let (last, l1, l2) = split written q tail (sign terminals.Semicolon ∷ []) (suc (suc s)) stand.1.1.1.1.1 in
            let (middle, left, right) = split written last one.tokens (flag_if flags.default terminals.Default) (suc (suc s)) l1 in
            let y = one.back (suc (suc s)) middle left in
            let (places, rows, same) = default_back flags.default middle last right in
            let there = span_between written p last in
            let owner_span = span_between written p (suc s) in
            let goal_target = qualified_of written p s in
            let z : Assignment = record {
              target = goal_target;
              target_span = owner_span;
              value = y.found;
              flags = flags_at written places;
              span = there;
            } in record {
              found = statements.Assignment z;
              reads = (
                last,
                States (statements.Assignment z) ∷ [],
                [],
                (
                  Owns goal_target owner_span ∷ Values y.found ∷ map Place places,
                  (
                    suc s,
                    Owns goal_target owner_span ∷ [],
                    Values y.found ∷ map Place places,
                    (
                      Place p ∷ Place s ∷ [],
                      (
                        suc p,
                        Place p ∷ [],
                        Place s ∷ [],
                        (is_of written p first (just terminals.Owner) stand.0 refl, refl, refl),
                        (
                          suc (suc p),
                          [],
                          Place s ∷ [],
                          (is_of written (suc p) (sign terminals.OwnerDot) (just terminals.OwnerDot) stand.1.0 refl, refl, refl),
                          (
                            s,
                            [],
                            Place s ∷ [],
                            (
                              is_of written (suc (suc p)) (sign terminals.OwnerDollar) (just terminals.OwnerDollar) stand.1.1.0
                                  refl,
                              refl,
                              refl,
                            ),
                            (is_of written s last_name (just terminals.VariableName) stand.1.1.1.0 refl, refl, refl),
                            refl,
                          ),
                          refl,
                        ),
                        refl,
                      ),
                      refl,
                    ),
                    (
                      middle,
                      Values y.found ∷ [],
                      map Place places,
                      (
                        suc (suc s),
                        [],
                        Values y.found ∷ [],
                        (is_of written (suc s) (sign terminals.Colon) (just terminals.Colon) stand.1.1.1.1.0 refl, refl, refl),
                        y.reads,
                        refl,
                      ),
                      rows,
                      refl,
                    ),
                    refl,
                  ),
                  ap (λ (m : List ℕ). States (statements.Assignment (record {
                    target = goal_target;
                    target_span = owner_span;
                    value = y.found;
                    flags = flags_at written m;
                    span = there;
                  })) ∷ []) (sym (placed places)),
                ),
                is_ended source written n last q l2,
                refl,
              );
              alike = alike.assignment (sym stand.0.said ∙ one_byte written p, sym stand.1.1.1.0.said) y.alike
                  (flags_are flags.default flags.global flags.default false refl (never_global marks.old) ∙ sym same);
            };
      }
