-- The members that a load shows or hides are read again.
use Rattle.std.proofs.Common.{◌≡◌, ◌⊎◌, ℕ, suc, Bool, true, false, ◌||◌, if◌then◌else◌, List, [], ◌∷◌, ◌++◌, map, inl, inr, refl, sym, ◌∙◌, ap, subst}
use Rattle.sw_parse_grammar.specs.Grammar.{Grammar, skip, seq, member, Row, done, then as row_more}
use Rattle.sw_parse_grammar.proofs.Sets.{apart}
use Rattle.sw_tree.specs.declared.load.Filter.{Filter}
use Rattle.sw_tree.specs.declared.load.Filter.TheVariants as filters
use Rattle.sw_tree.specs.declared.load.Given.{Given}
use Rattle.sw_tree.specs.declared.load.Member.{Member}
use Rattle.sw_parse_terminals.specs.declared.terminal.Terminal.{Terminal}
use Rattle.sw_parse_terminals.specs.declared.terminal.Terminal.TheVariants as terminals
use Rattle.sw_parse_terminals.specs.Numbers.{number_of, just, these}
use Rattle.sw_parse_table.specs.declared.source.Source.{Source}
use Rattle.sw_parse_table.specs.Parts.{Part, Form, Place, Members, Gives, givens_of, members_of}
use Rattle.sw_parse_table.specs.Sources.{terminal_at}
use Rattle.sw_parse_table.specs.Actions.{name_at, stands_at, to_member, filter_by}
use Rattle.sw_parse_table.specs.Statements.{member_, filter}
use Rattle.sw_convert_again.specs.Tokens.{Said, Dashed, Tok, tok, sign, Is, Stands}
use Rattle.sw_convert_again.specs.Again.{Reads}
use Rattle.sw_convert_again.specs.Params.{dollar_tokens}
use Rattle.sw_convert_again.specs.Loads.{SpellsMember, named_member, variable_member, SpellsMoreMembers, no_more_members, more_members, SpellsFilter, no_filter, shown, hidden}
use Rattle.sw_convert_again.proofs.Tokens.{unless, kind_is, old_of, is_of, split}
use Rattle.sw_convert_again.proofs.Loops.{name_read, name_back}

-- the configuration stands behind everything else
pub only_givens : (givens : List Given) → givens_of (map Gives givens) ≡ givens
only_givens [] = refl
only_givens (given ∷ givens) = ap (λ (x : List Given). given ∷ x) (only_givens givens)

behind_members : (members : List Member) (givens : List Given)
    → givens_of (map Members members ++ map Gives givens) ≡ givens
behind_members [] givens = only_givens givens
behind_members (one ∷ members) givens = behind_members members givens

no_members : (givens : List Given) → members_of (map Gives givens) ≡ []
no_members [] = refl
no_members (given ∷ givens) = no_members givens

only_members : (members : List Member) (givens : List Given)
    → members_of (map Members members ++ map Gives givens) ≡ members
only_members [] givens = no_members givens
only_members (one ∷ members) givens = ap (λ (x : List Member). one ∷ x) (only_members members givens)

-- a token of one terminal is none of a set without it
pub none_of : (source : Source) (at : ℕ) (terminal : Terminal) (said : Said) (set : List ℕ)
    → Is source at (tok terminal said) → member (number_of terminal) set ≡ false
    → member (terminal_at source at) set ≡ false
none_of source at terminal said set is e =
    ap (λ (k : ℕ). member k set) (kind_is source at is.lexeme is.there) ∙ only is.kind
  where
    only : (is.lexeme.terminal ≡ terminal) ⊎ ⊥ → member (number_of is.lexeme.terminal) set ≡ false
    only (inl f) = ap (λ (t : Terminal). member (number_of t) set) f ∙ e
    only (inr f) = absurd f

module _ (source written : Source) (n : ℕ) where
  -- ---- one member

  record MemberAgain (i j : ℕ) (w : List Part) : Type 0 where
    one : Member
    is : w ≡ Members one ∷ []
    tokens : List Tok
    spells : SpellsMember source i j one tokens
    back : (p q : ℕ) → Stands written p tokens q → Reads written n (member_ written) p q (Members one ∷ [])

  abbrev of_kind : (variable : Bool) (name : List ℕ) → Member
  of_kind variable name = record { variable = variable; name = name }

  member_is : (a b : Bool) (x y : List ℕ) → a ≡ b → x ≡ y → Members (of_kind a x) ∷ [] ≡ Members (of_kind b y) ∷ []
  member_is a b x y e f =
      ap (λ (z : Bool). Members (of_kind z x) ∷ []) e ∙ ap (λ (z : List ℕ). Members (of_kind b z) ∷ []) f

  member_again : (i j : ℕ) (w : List Part) → Reads source n (member_ source) i j w → MemberAgain i j w
  unfolding member_
  member_again i j w (u, inl (m, e1, e2), e3) =
      let old = old_of source i (just terminals.Named) refl m in
      let name = name_at source i in
      let token = tok terminals.Named (Dashed name) in
      let none : stands_at source i terminals.VariableName ≡ false =
      unless (stands_at source i terminals.VariableName)
      (apart (terminal_at source i) (just terminals.Named) (just terminals.VariableName) refl m) in record {
        one = of_kind false name;
        is = e3 ∙ ap (to_member source i j) e2 ∙ member_is _ _ _ _ none refl;
        tokens = token ∷ [];
        spells = subst (λ (x : ℕ). SpellsMember source i x (of_kind false name) (token ∷ [])) (sym e1)
            (named_member old);
        back = λ p q stand. (
          Place p ∷ [],
          inl (is_of written p token (just terminals.Named) stand.0 refl, sym stand.1, refl),
          sym (member_is _ _ _ _
              (none_of written p terminals.Named (Dashed name) (just terminals.VariableName) stand.0 refl)
              stand.0.said),
        );
      }
  member_again i j w (u, inr d, e3) =
      let (end, is, first, second) = name_read source written n i j u d in
      let name = name_at source (suc i) in
      let variable : stands_at source (suc i) terminals.VariableName ≡ true =
      ap (λ (x : ℕ). member x (just terminals.VariableName)) (kind_is source (suc i) second.lexeme second.there)
      ∙ second.kind in record {
        one = of_kind true name;
        is = e3 ∙ ap (to_member source i j) is ∙ member_is _ _ _ _ variable refl;
        tokens = dollar_tokens name;
        spells = subst (λ (x : ℕ). SpellsMember source i x (of_kind true name) (dollar_tokens name)) (sym end)
            (variable_member first second);
        back = λ p q stand.
            let (reads, same) = name_back source written n name p q stand in (
              Place (suc p) ∷ [],
              inr reads,
              sym (member_is _ _ _ _
                  (is_of written (suc p) (tok terminals.VariableName (Dashed name)) (just terminals.VariableName)
                  stand.1.0 refl)
                  same),
            );
      }

  -- ---- several with commas between them

  abbrev comma_member : Source → Grammar Part Form
  comma_member s = seq (skip (just terminals.Comma)) (member_ s)

  record MoreAgain (i j : ℕ) (w : List Part) : Type 0 where
    members : List Member
    is : w ≡ map Members members
    tokens : List Tok
    spells : SpellsMoreMembers source i j members tokens
    back : (p q : ℕ) → Stands written p tokens q → Row (Reads written n (comma_member written)) p q (map Members members)

  more_again : {i j : ℕ} {w : List Part} → Row (Reads source n (comma_member source)) i j w → MoreAgain i j w
  more_again done = record {
    members = [];
    is = refl;
    tokens = [];
    spells = no_more_members;
    back = λ p q e. subst (λ (x : ℕ). Row (Reads written n (comma_member written)) p x []) e done;
  }
  more_again (row_more {i} {k} {j} {u} {v} (a, u1, u2, (m, e1, e2), d, e3) row) =
      let one = member_again a k u2 d in
      let rest = more_again row in record {
        members = one.one ∷ rest.members;
        is = ap (λ (x : List Part). x ++ v) (e3 ∙ ap (λ (x : List Part). x ++ u2) e2 ∙ one.is)
            ∙ ap (λ (x : List Part). Members one.one ∷ x) rest.is;
        tokens = sign terminals.Comma ∷ (one.tokens ++ rest.tokens);
        spells = more_members (old_of source i (just terminals.Comma) refl m)
            (subst (λ (x : ℕ). SpellsMember source x k one.one one.tokens) e1 one.spells) rest.spells;
        back = λ p q stand.
            let (place, left, right) = split written q one.tokens rest.tokens (suc p) stand.1 in
            row_more (
              suc p,
              [],
              Members one.one ∷ [],
              (is_of written p (sign terminals.Comma) (just terminals.Comma) stand.0 refl, refl, refl),
              one.back (suc p) place left,
              refl,
            ) (rest.back place q right);
      }

  -- ---- the filter

  pub record FilterAgain (i j : ℕ) (w : List Part) : Type 0 where
    pub passes : Filter
    pub is : (givens : List Given) → filter_by source (w ++ map Gives givens) ≡ passes
    pub givens : (givens : List Given) → givens_of (w ++ map Gives givens) ≡ givens
    pub tokens : List Tok
    pub spells : SpellsFilter source i j passes tokens
    pub back : (p q : ℕ) → Stands written p tokens q
        → (found : List Part) × Reads written n (filter written) p q found
        × ((givens : List Given) → filter_by written (found ++ map Gives givens) ≡ passes)
        × ((givens : List Given) → givens_of (found ++ map Gives givens) ≡ givens)

  all_pass : (s : Source) (givens : List Given) → filter_by s (map Gives givens) ≡ filters.All
  all_pass s [] = refl
  all_pass s (given ∷ givens) = refl

  filtered : (s : Source) (at : ℕ) (b : Bool) (members : List Member) (givens : List Given)
      → stands_at s at terminals.Show ≡ b
      → filter_by s (Place at ∷ (map Members members ++ map Gives givens))
      ≡ (if b then filters.Show members else filters.Hide members)
  filtered s at b members givens e =
      ap (λ (x : Bool). if x then filters.Show (members_of (map Members members ++ map Gives givens))
      else filters.Hide (members_of (map Members members ++ map Gives givens))) e
      ∙ ap (λ (x : List Member). if b then filters.Show x else filters.Hide x) (only_members members givens)

  abbrev words : List ℕ
  words = these (terminals.Show ∷ terminals.Hide ∷ [])

  -- one word and members
  worded_again : (word : Terminal) (b : Bool) → member (number_of word) words ≡ true
      → (member (number_of word) (just terminals.Show) ≡ b) → (i j : ℕ) (w : List Part) (one : Member)
      (members : List Member) (tokens others : List Tok)
      → stands_at source i terminals.Show ≡ b → w ≡ Place i ∷ map Members (one ∷ members)
      → SpellsFilter source i j (if b then filters.Show (one ∷ members) else filters.Hide (one ∷ members))
      (sign word ∷ (tokens ++ others))
      → ((p q : ℕ) → Stands written p tokens q → Reads written n (member_ written) p q (Members one ∷ []))
      → ((p q : ℕ) → Stands written p others q
      → Row (Reads written n (comma_member written)) p q (map Members members)) → FilterAgain i j w
  unfolding filter
  worded_again word b of_words is_show i j w one members tokens others stands is spells first more = record {
    passes = if b then filters.Show (one ∷ members) else filters.Hide (one ∷ members);
    is = λ givens.
        ap (λ (x : List Part). filter_by source (x ++ map Gives givens)) is
        ∙ filtered source i b (one ∷ members) givens stands;
    givens = λ givens.
        ap (λ (x : List Part). givens_of (x ++ map Gives givens)) is ∙ behind_members members givens;
    tokens = sign word ∷ (tokens ++ others);
    spells = spells;
    back = λ p q stand.
        let (place, left, right) = split written q tokens others (suc p) stand.1 in
        let kind = kind_of p stand.0 in (
          Place p ∷ map Members (one ∷ members),
          inl (
            suc p,
            Place p ∷ [],
            map Members (one ∷ members),
            (ap (λ (k : ℕ). member k words) kind ∙ of_words, refl, refl),
            (place, Members one ∷ [], map Members members, first (suc p) place left, more place q right, refl),
            refl,
          ),
          (λ givens. filtered written p b (one ∷ members) givens
              (ap (λ (k : ℕ). member k (just terminals.Show)) kind ∙ is_show)),
          (λ givens. behind_members members givens),
        );
  }
    where
      kind_of : (p : ℕ) → Is written p (sign word) → terminal_at written p ≡ number_of word
      kind_of p is = kind_is written p is.lexeme is.there ∙ go is.kind
        where
          go : (is.lexeme.terminal ≡ word) ⊎ ⊥ → number_of is.lexeme.terminal ≡ number_of word
          go (inl e) = ap number_of e
          go (inr e) = absurd e

  hide_left : (a b : Bool) → (a || (b || false)) ≡ true → (a || false) ≡ false → (b || false) ≡ true
  hide_left true b e f = absurd (cc)
  hide_left false b e f = e

  pub filter_again : (i j : ℕ) (w : List Part) → Reads source n (filter source) i j w → FilterAgain i j w
  unfolding filter
  filter_again i j w (inr (e1, e2)) = record {
    passes = filters.All;
    is = λ givens. ap (λ (x : List Part). filter_by source (x ++ map Gives givens)) e2 ∙ all_pass source givens;
    givens = λ givens. ap (λ (x : List Part). givens_of (x ++ map Gives givens)) e2 ∙ only_givens givens;
    tokens = [];
    spells = subst (λ (x : ℕ). SpellsFilter source i x filters.All []) (sym e1) no_filter;
    back = λ p q e. ([], inr (sym e, refl), (λ givens. all_pass written givens), (λ givens. only_givens givens));
  }
  filter_again i j w (inl (k, u, v, (m, e1, e2), (k2, v1, v2, d, row, e3), e4)) =
      let one = member_again k k2 v1 d in
      let rest = more_again row in
      let is : w ≡ Place i ∷ map Members (one.one ∷ rest.members) =
      e4 ∙ ap (λ (x : List Part). x ++ v) e2
      ∙ ap (λ (x : List Part). Place i ∷ x)
      (e3 ∙ ap (λ (x : List Part). x ++ v2) one.is ∙ ap (λ (x : List Part). Members one.one ∷ x) rest.is) in
      let first = subst (λ (x : ℕ). SpellsMember source x k2 one.one one.tokens) e1 one.spells in
      by_word (stands_at source i terminals.Show) refl one.one rest.members one.tokens rest.tokens first rest.spells is
      one.back rest.back
    where
      by_word : (b : Bool) → stands_at source i terminals.Show ≡ b → (one : Member) (members : List Member)
          (tokens others : List Tok) → SpellsMember source (suc i) k2 one tokens
          → SpellsMoreMembers source k2 j members others
          → w ≡ Place i ∷ map Members (one ∷ members)
          → ((p q : ℕ) → Stands written p tokens q → Reads written n (member_ written) p q (Members one ∷ []))
          → ((p q : ℕ) → Stands written p others q
          → Row (Reads written n (comma_member written)) p q (map Members members)) → FilterAgain i j w
      by_word true e one members tokens others first more is back backs =
          worded_again terminals.Show true refl refl i j w one members tokens others e is
          (shown (old_of source i (just terminals.Show) refl e) first more) back backs
      by_word false e one members tokens others first more is back backs =
          worded_again terminals.Hide false refl refl i j w one members tokens others e is
          (hidden (old_of source i (just terminals.Hide) refl (hide_left _ _ m e)) first more) back backs
