-- The configuration of a load is read again.
use Rattle.std.proofs.Common.{◌≡◌, ◌⊎◌, ℕ, zero, suc, Bool, true, false, ◌||◌, List, [], ◌∷◌, ◌++◌, map, inl, inr, refl, sym, ◌∙◌, ap, subst, append_assoc, append-nil}
use Rattle.sw_parse_grammar.specs.Grammar.{Grammar, empty, skip, seq, alt, sep, group, member, Row, Item, done, then}
use Rattle.sw_tree.specs.declared.expr.Expr.{Expr}
use Rattle.sw_tree.specs.declared.load.Given.{Given}
use Rattle.sw_parse_terminals.specs.declared.terminal.Terminal.TheVariants as terminals
use Rattle.sw_parse_terminals.specs.Numbers.{just}
use Rattle.sw_parse_table.specs.declared.source.Source.{Source}
use Rattle.sw_parse_table.specs.Parts.{Part, Form, Place, Behind, Values, Gives, Giving, Passing}
use Rattle.sw_parse_table.specs.Sets.{dollars, endings}
use Rattle.sw_parse_table.specs.Sources.{terminal_at, text_of, span_between}
use Rattle.sw_parse_table.specs.Actions.{name_at, to_behind, to_given}
use Rattle.sw_parse_table.specs.Expressions.{colon_space}
use Rattle.sw_parse_table.specs.Statements.{default_flag, given_name, given, giving, with_given, passed, passing, with_passed}
use Rattle.sw_convert_alike.specs.Statements.{LikeEach, LikeGiven}
use Rattle.sw_convert_again.specs.Tokens.{Tok, sign, Stands, Old}
use Rattle.sw_convert_again.specs.Spells.{SpellsPlain, within}
use Rattle.sw_convert_again.specs.Again.{Reads, Found}
use Rattle.sw_convert_again.specs.Params.{dollar_tokens}
use Rattle.sw_convert_again.specs.Loads.{configured, SpellsConfigured, configured_variable, configured_default, SpellsMoreConfigured, no_more_configured, more_configured, SpellsConfiguration, no_configuration, some_configuration}
use Rattle.sw_convert_again.proofs.Tokens.{old_of, is_of, split}
use Rattle.sw_convert_again.proofs.Values.{spaces_again}
use Rattle.sw_convert_again.proofs.Enclosed.{colon_again}
use Rattle.sw_convert_again.proofs.Loops.{name_read, name_back}
use Rattle.sw_convert_sheets_again.proofs.Pieces.{Inner}

module _ (source written : Source) (n : ℕ) where
  -- ---- one variable

  -- the name and the value of one that was read
  record NamedAgain (i k m : ℕ) (u : List Part) : Type 0 where
    value : Expr
    name_end : k ≡ suc (suc i)
    is : u ≡ Place (suc i) ∷ Behind k ∷ Values value ∷ []
    first : Old source i dollars
    second : Old source (suc i) (just terminals.VariableName)
    third : Old source (suc (suc i)) (just terminals.Colon)
    tokens : List Tok
    spells : SpellsPlain source (suc (suc (suc i))) m value tokens
    back : (p q : ℕ) → Stands written p (sign terminals.Colon ∷ tokens) q
        → Found written n (colon_space written) value p q

  named_again : (i k m : ℕ) (u1 u2 : List Part) → Reads source n (given_name source) i k u1
      → Reads source n (colon_space source) k m u2 → NamedAgain i k m (u1 ++ u2)
  unfolding given_name
  named_again i k m u1 u2 (v, d, e) c =
      let name = name_read source written n i k v d in
      let value = colon_again source written n (spaces_again source written n) k m u2 c in record {
        value = value.value;
        name_end = name.0;
        is = ap (λ (x : List Part). x ++ u2) (e ∙ ap (to_behind i k) name.1)
            ∙ ap (λ (x : List Part). Place (suc i) ∷ Behind k ∷ x) value.is;
        first = name.2;
        second = name.3;
        third = subst (λ (x : ℕ). Old source x (just terminals.Colon)) name.0 value.colon;
        tokens = value.tokens;
        spells = subst (λ (x : ℕ). SpellsPlain source (suc x) m value.value value.tokens) name.0 value.spells;
        back = value.back;
      }

  abbrev given_of : (s : Source) → ℕ → ℕ → Bool → Expr → Given
  given_of s i head default value = record {
    name = name_at s (suc i);
    name_span = span_between s i head;
    value = value;
    default = default;
  }

  name_reads : (name : List ℕ) (p place : ℕ) → Stands written p (dollar_tokens name) place
      → Reads written n (given_name written) p place (Place (suc p) ∷ Behind place ∷ [])
  unfolding given_name
  name_reads name p place stand = (Place (suc p) ∷ [], (name_back source written n name p place stand).0, refl)

  name_same : (name : List ℕ) (p place : ℕ) → Stands written p (dollar_tokens name) place
      → name ≡ name_at written (suc p)
  name_same name p place stand = sym (name_back source written n name p place stand).1

  pub record GivenAgain (flagged : Bool) (h : Grammar Part Form) (i j : ℕ) (w : List Part) : Type 0 where
    pub given : Given
    pub is : w ≡ Gives given ∷ []
    pub tokens : List Tok
    pub spells : SpellsConfigured source flagged i j given tokens
    pub back : (p q : ℕ) → Stands written p tokens q
        → (found : Given) × Reads written n h p q (Gives found ∷ []) × LikeGiven given found

  -- without `!default`
  plain_again : (flagged : Bool) (h : Grammar Part Form) (i k j : ℕ) (u w : List Part) → NamedAgain i k j u → w ≡ to_given source i j u
      → ((p place q : ℕ) (x y : List Part) → Reads written n (given_name written) p place x
      → Reads written n (colon_space written) place q y → Reads written n h p q (to_given written p q (x ++ y)))
      → GivenAgain flagged h i j w
  plain_again flagged h i k j u w one e into =
      let name = name_at source (suc i) in
      let tokens = dollar_tokens name ++ sign terminals.Colon ∷ one.tokens in record {
        given = configured source i false one.value;
        is = e ∙ ap (to_given source i j) one.is
            ∙ ap (λ (x : ℕ). Gives (given_of source i x false one.value) ∷ []) one.name_end;
        tokens = tokens;
        spells = configured_variable one.first one.second one.third one.spells;
        back = λ p q stand.
            let (place, left, right) = split written q (dollar_tokens name) (sign terminals.Colon ∷ one.tokens) p stand in
            let y = one.back place q right in (
              given_of written p place false y.found,
              into p place q (Place (suc p) ∷ Behind place ∷ []) (Values y.found ∷ []) (name_reads name p place left)
                  y.reads,
              (name_same name p place left, y.alike, refl),
            );
      }

  given_again : (i j : ℕ) (w : List Part) → Reads source n (given source) i j w → GivenAgain false (given written) i j w
  unfolding given
  given_again i j w (u, (k, u1, u2, d, c, e1), e2) =
      plain_again false (given written) i k j (u1 ++ u2) w (named_again i k j u1 u2 d c) (e2 ∙ ap (to_given source i j) e1)
      (λ p place q x y a b. (x ++ y, (place, x, y, a, b, refl), refl))

  passed_again : (i j : ℕ) (w : List Part) → Reads source n (passed source) i j w → GivenAgain true (passed written) i j w
  unfolding passed default_flag
  passed_again i j w (u, (k, u1, u2, d, (m, c1, c2, c, inr (e1, e2), e3), e4), e5) =
      let both : u ≡ u1 ++ c1 = e4 ∙ ap (λ (x : List Part). u1 ++ x) (e3 ∙ ap (λ (x : List Part). c1 ++ x) e2 ∙ append-nil c1) in
      plain_again true (passed written) i k j (u1 ++ c1) w
      (named_again i k j u1 c1 d (subst (λ (x : ℕ). Reads source n (colon_space source) k x c1) (sym e1) c))
      (e5 ∙ ap (to_given source i j) both)
      (λ p place q x y a b. (
        x ++ y,
        (place, x, y, a, (q, y, [], b, inr (refl, refl), sym (append-nil y)), refl),
        refl,
      ))
  passed_again i j w (u, (k, u1, u2, d, (m, c1, c2, c, inl f, e3), e4), e5) =
      flagged_again i k m j (u1 ++ c1) c2 w (named_again i k m u1 c1 d c) f
      (e5 ∙ ap (to_given source i j)
      (e4 ∙ ap (λ (x : List Part). u1 ++ x) e3 ∙ sym (append_assoc u1 c1 c2)))
    where
      flagged_again : (i k m j : ℕ) (u c2 w : List Part) → NamedAgain i k m u → Reads source n (default_flag source) m j c2
          → w ≡ to_given source i j (u ++ c2) → GivenAgain true (passed written) i j w
      flagged_again i k m j u c2 w one (a, b1, b2, (m1, f1, f2), (m2, f3, f4), f5) e =
          let name = name_at source (suc i) in
          let marks = sign terminals.Ending ∷ sign terminals.Default ∷ [] in
          let tokens = dollar_tokens name ++ sign terminals.Colon ∷ (one.tokens ++ marks) in
          let flag : c2 ≡ Place a ∷ [] = f5 ∙ ap (λ (x : List Part). x ++ b2) f2 ∙ f4 in
          let old = old_of source (suc m) (just terminals.Default) refl
          (subst (λ (x : ℕ). member (terminal_at source x) (just terminals.Default) ≡ true) f1 m2) in record {
            given = configured source i true one.value;
            is = e ∙ ap (λ (x : List Part). to_given source i j (u ++ x)) flag
                ∙ ap (λ (x : List Part). to_given source i j (x ++ Place a ∷ [])) one.is
                ∙ ap (λ (x : Bool). Gives (given_of source i k x one.value) ∷ []) (ap (λ (x : Bool). x || false) m2)
                ∙ ap (λ (x : ℕ). Gives (given_of source i x true one.value) ∷ []) one.name_end;
            tokens = tokens;
            spells = subst (λ (x : ℕ). SpellsConfigured source true i x (configured source i true one.value) tokens)
                (sym (f3 ∙ ap suc f1))
                (configured_default one.first one.second one.third one.spells (old_of source m endings refl m1) old);
            back = λ p q stand.
                let (place, left, right) = split written q (dollar_tokens name) (sign terminals.Colon ∷ (one.tokens ++ marks)) p stand in
                let (place2, left2, right2) = split written q (sign terminals.Colon ∷ one.tokens) marks place right in
                let y = one.back place place2 left2 in
                let is_default = is_of written (suc place2) (sign terminals.Default) (just terminals.Default) right2.1.0 refl in
                let parts = Place (suc p) ∷ Behind place ∷ Values y.found ∷ Place (suc place2) ∷ [] in (
                  given_of written p place true y.found,
                  (
                    parts,
                    (
                      place,
                      Place (suc p) ∷ Behind place ∷ [],
                      Values y.found ∷ Place (suc place2) ∷ [],
                      name_reads name p place left,
                      (
                        place2,
                        Values y.found ∷ [],
                        Place (suc place2) ∷ [],
                        y.reads,
                        inl (
                          suc place2,
                          [],
                          Place (suc place2) ∷ [],
                          (is_of written place2 (sign terminals.Ending) endings right2.0 refl, refl, refl),
                          (is_default, sym right2.1.1, refl),
                          refl,
                        ),
                        refl,
                      ),
                      refl,
                    ),
                    ap (λ (x : Bool). Gives (given_of written p place x y.found) ∷ [])
                        (sym (ap (λ (x : Bool). x || false) is_default)),
                  ),
                  (name_same name p place left, y.alike, refl),
                );
          }

  -- ---- several with commas between them

  module _ (flagged : Bool) (g : Source → Grammar Part Form)
      (each : (i j : ℕ) (w : List Part) → Reads source n (g source) i j w → GivenAgain flagged (g written) i j w) where
    abbrev Commas : Source → ℕ → ℕ → List Part → Type 0
    Commas s = Row (Item (text_of s) (just terminals.Comma) (Reads s n (g s)))

    record MoreAgain (i j : ℕ) (w : List Part) : Type 0 where
      givens : List Given
      is : w ≡ map Gives givens
      tokens : List Tok
      spells : SpellsMoreConfigured source flagged i j givens tokens
      back : (p q : ℕ) → Stands written p tokens q
          → (found : List Given) × Commas written p q (map Gives found) × LikeEach LikeGiven givens found

    more_again : {i j : ℕ} {w : List Part} → Commas source i j w → MoreAgain i j w
    more_again done = record {
      givens = [];
      is = refl;
      tokens = [];
      spells = no_more_configured;
      back = λ p q e. ([], subst (λ (x : ℕ). Commas written p x []) e done, tt);
    }
    more_again (then {i} {k} {j} {u} {v} (m, d) row) =
        let one = each (suc i) k u d in
        let rest = more_again row in record {
          givens = one.given ∷ rest.givens;
          is = ap (λ (x : List Part). x ++ v) one.is ∙ ap (λ (x : List Part). Gives one.given ∷ x) rest.is;
          tokens = sign terminals.Comma ∷ (one.tokens ++ rest.tokens);
          spells = more_configured (old_of source i (just terminals.Comma) refl m) one.spells rest.spells;
          back = λ p q stand.
              let (place, left, right) = split written q one.tokens rest.tokens (suc p) stand.1 in
              let (f, reads, like) = one.back (suc p) place left in
              let (fs, rows, likes) = rest.back place q right in (
                f ∷ fs,
                then (is_of written p (sign terminals.Comma) (just terminals.Comma) stand.0 refl, reads) rows,
                (like, likes),
              );
        }

  -- what stands in the parentheses
  record InsideAgain (flagged : Bool) (form : Form) (i c : ℕ) (w : List Part) : Type 0 where
    given : Given
    givens : List Given
    is : w ≡ map Gives (given ∷ givens)
    k : ℕ
    m : ℕ
    tokens : List Tok
    others : List Tok
    first : SpellsConfigured source flagged i k given tokens
    more : SpellsMoreConfigured source flagged k m givens others
    end : (c ≡ m) ⊎ ((c ≡ suc m) × Old source m (just terminals.Comma))
    back : (p q : ℕ) → Stands written p (tokens ++ others) q
        → (found : List Given) × Inner written n form p q (map Gives found) × LikeEach LikeGiven (given ∷ givens) found

  abbrev pub with_form : Form → Grammar Part Form
  with_form form = alt (seq (skip (just terminals.With)) (group (just terminals.HeadParen) form (just terminals.ParenEnd))) empty

  pub record ConfigurationAgain (flagged : Bool) (form : Form) (i j : ℕ) (w : List Part) : Type 0 where
    pub givens : List Given
    pub is : w ≡ map Gives givens
    pub tokens : List Tok
    pub spells : SpellsConfiguration source flagged i j givens tokens
    pub back : (p q : ℕ) → Stands written p tokens q
        → (found : List Given) × Reads written n (with_form form) p q (map Gives found)
        × LikeEach LikeGiven givens found

  configuration_by : (flagged : Bool) (form : Form)
      → ((i c : ℕ) (w : List Part) → Inner source n form i c w → InsideAgain flagged form i c w)
      → (i j : ℕ) (w : List Part) → Reads source n (with_form form) i j w → ConfigurationAgain flagged form i j w
  configuration_by flagged form inside i j w (inr (e1, e2)) = record {
    givens = [];
    is = e2;
    tokens = [];
    spells = subst (λ (x : ℕ). SpellsConfiguration source flagged i x [] []) (sym e1) no_configuration;
    back = λ p q e. ([], inr (sym e, refl), tt);
  }
  configuration_by flagged form inside i j w (inl (k, u, v, (m, e1, e2), (m1, c, d, m2, e3), e4)) =
      let one = inside (suc k) c v d in
      let inner = one.tokens ++ one.others in
      let tokens = sign terminals.With ∷ within (sign terminals.HeadParen) inner terminals.ParenEnd in
      let givens = one.given ∷ one.givens in record {
        givens = givens;
        is = e4 ∙ ap (λ (x : List Part). x ++ v) e2 ∙ one.is;
        tokens = tokens;
        spells = subst (λ (x : ℕ). SpellsConfiguration source flagged i x givens tokens) (sym e3)
            (some_configuration (old_of source i (just terminals.With) refl m)
            (old_of source (suc i) (just terminals.HeadParen) refl
            (subst (λ (x : ℕ). member (terminal_at source x) (just terminals.HeadParen) ≡ true) e1 m1))
            (subst (λ (x : ℕ). SpellsConfigured source flagged (suc x) one.k one.given one.tokens) e1 one.first) one.more one.end
            (old_of source c (just terminals.ParenEnd) refl m2));
        back = λ p q stand.
            let (place, left, right) = split written q inner (sign terminals.ParenEnd ∷ []) (suc (suc p)) stand.1.1 in
            let (found, reads, like) = one.back (suc (suc p)) place left in (
              found,
              inl (
                suc p,
                [],
                map Gives found,
                (is_of written p (sign terminals.With) (just terminals.With) stand.0 refl, refl, refl),
                (
                  is_of written (suc p) (sign terminals.HeadParen) (just terminals.HeadParen) stand.1.0 refl,
                  place,
                  reads,
                  is_of written place (sign terminals.ParenEnd) (just terminals.ParenEnd) right.0 refl,
                  sym right.1,
                ),
                refl,
              ),
              like,
            );
      }

-- both kinds of load
module _ (source written : Source) where
  inside_by : (flagged : Bool) (n : ℕ) (g : Source → Grammar Part Form)
      → ((i j : ℕ) (w : List Part) → Reads source n (g source) i j w → GivenAgain source written n flagged (g written) i j w)
      → (form : Form)
      → ((i c : ℕ) (w : List Part) → Inner source (suc n) form i c w
      → Reads source n (seq (g source) (sep (just terminals.Comma) (g source))) i c w)
      → ((i c : ℕ) (w : List Part) → Reads written n (seq (g written) (sep (just terminals.Comma) (g written))) i c w
      → Inner written (suc n) form i c w)
      → (i c : ℕ) (w : List Part) → Inner source (suc n) form i c w → InsideAgain source written (suc n) flagged form i c w
  inside_by flagged n g each form down up i c w d = go (down i c w d)
    where
      old_end : (stop : ℕ)
          → (c ≡ stop) ⊎ ((member (terminal_at source stop) (just terminals.Comma) ≡ true) × (c ≡ suc stop))
          → (c ≡ stop) ⊎ ((c ≡ suc stop) × Old source stop (just terminals.Comma))
      old_end stop (inl e) = inl e
      old_end stop (inr (m, e)) = inr (e, old_of source stop (just terminals.Comma) refl m)

      go : Reads source n (seq (g source) (sep (just terminals.Comma) (g source))) i c w
          → InsideAgain source written (suc n) flagged form i c w
      go (k, u, v, a, (stop, row, end), e) =
          let one = each i k u a in
          let rest = more_again source written n flagged g each row in record {
            given = one.given;
            givens = rest.givens;
            is = e ∙ ap (λ (x : List Part). x ++ v) one.is ∙ ap (λ (x : List Part). Gives one.given ∷ x) rest.is;
            k = k;
            m = stop;
            tokens = one.tokens;
            others = rest.tokens;
            first = one.spells;
            more = rest.spells;
            end = old_end stop end;
            back = λ p q stand.
                let (place, left, right) = split written q one.tokens rest.tokens p stand in
                let (f, reads, like) = one.back p place left in
                let (fs, rows, likes) = rest.back place q right in (
                  f ∷ fs,
                  up p q (map Gives (f ∷ fs)) (place, Gives f ∷ [], map Gives fs, reads, (q, rows, inl refl), refl),
                  (like, likes),
                );
          }

  giving_again : (n i c : ℕ) (w : List Part) → Inner source n Giving i c w
      → InsideAgain source written n false Giving i c w
  unfolding giving
  giving_again zero i c w d = absurd d
  giving_again (suc n) i c w d =
      inside_by false n given (given_again source written n) Giving (λ i c w d. d) (λ i c w d. d) i c w d

  passing_again : (n i c : ℕ) (w : List Part) → Inner source n Passing i c w
      → InsideAgain source written n true Passing i c w
  unfolding passing
  passing_again zero i c w d = absurd d
  passing_again (suc n) i c w d =
      inside_by true n passed (passed_again source written n) Passing (λ i c w d. d) (λ i c w d. d) i c w d

  pub with_given_again : (n i j : ℕ) (w : List Part) → Reads source n (with_given source) i j w
      → ConfigurationAgain source written n false Giving i j w
  unfolding with_given
  with_given_again n = configuration_by source written n false Giving (giving_again n)

  pub with_passed_again : (n i j : ℕ) (w : List Part) → Reads source n (with_passed source) i j w
      → ConfigurationAgain source written n true Passing i j w
  unfolding with_passed
  with_passed_again n = configuration_by source written n true Passing (passing_again n)
