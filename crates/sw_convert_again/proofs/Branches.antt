-- `@if` is read again, with `@else if` and `@else`.
use Rattle.std.proofs.Common.{◌≡◌, ◌⊎◌, ℕ, suc, true, List, [], ◌∷◌, ◌++◌, map, Option, Some, None, inl, inr, refl, sym, ◌∙◌, ap, subst}
use Rattle.sw_parse_grammar.specs.Grammar.{member, Row, done, then}
use Rattle.sw_tree.specs.declared.statement.Branch.{Branch}
use Rattle.sw_tree.specs.declared.statement.Statement.{Statement}
use Rattle.sw_tree.specs.declared.statement.Statement.TheVariants as statements
use Rattle.sw_parse_terminals.specs.declared.terminal.Terminal.TheVariants as terminals
use Rattle.sw_parse_terminals.specs.Numbers.{just}
use Rattle.sw_parse_table.specs.declared.source.Source.{Source}
use Rattle.sw_parse_table.specs.Parts.{Part, Behind, Blocks, Branches, States, Values, branches_of, block_of}
use Rattle.sw_parse_table.specs.Sources.{terminal_at, span_between}
use Rattle.sw_parse_table.specs.Actions.{branch_of, to_behind, to_branch, to_if}
use Rattle.sw_parse_table.specs.Expressions.{expr}
use Rattle.sw_parse_table.specs.Statements.{block, else_if, else_, if_}
use Rattle.sw_convert_alike.specs.Statements.{LikeBranches, LikeOptionalBlock}
use Rattle.sw_convert_alike.specs.Statements as alike
use Rattle.sw_convert_again.specs.Tokens.{Tok, sign, Stands}
use Rattle.sw_convert_again.specs.Again.{Reads}
use Rattle.sw_convert_again.specs.Statements.{OldElseIf, one_word, two_words, SpellsBranches, no_branches, more_branches, SpellsElse, no_else, else_block, SpellsBlock, if_block}
use Rattle.sw_convert_again.specs.Claims.{StatementAgain, BlocksAgain}
use Rattle.sw_convert_again.proofs.Tokens.{old_of, is_of, split}
use Rattle.sw_convert_again.proofs.Values.{values_again}

-- what the parts of `@if` are behind its first block
abbrev last_part : Option (List Statement) → List Part
last_part None = []
last_part (Some block) = Blocks block ∷ []

branches_listed : (list : List Branch) (otherwise : Option (List Statement))
    → branches_of (map Branches list ++ last_part otherwise) ≡ list
branches_listed [] None = refl
branches_listed [] (Some list) = refl
branches_listed (one ∷ list) otherwise = ap (λ (x : List Branch). one ∷ x) (branches_listed list otherwise)

block_last : (list : List Branch) (otherwise : Option (List Statement))
    → block_of (map Branches list ++ last_part otherwise) ≡ otherwise
block_last [] None = refl
block_last [] (Some list) = refl
block_last (one ∷ list) otherwise = block_last list otherwise

module _ (source written : Source) (n : ℕ) (blocks : BlocksAgain source written n) where
  record BranchesAgain (i j : ℕ) (w : List Part) : Type 0 where
    list : List Branch
    is : w ≡ map Branches list
    tokens : List Tok
    spells : SpellsBranches source i j list tokens
    back : (p q : ℕ) → Stands written p tokens q
        → (found : List Branch) × Row (Reads written n (else_if written)) p q (map Branches found)
        × LikeBranches list found

  branches_again : {i j : ℕ} {w : List Part} → Row (Reads source n (else_if source)) i j w → BranchesAgain i j w
  unfolding else_if
  branches_again (done {i}) = record {
    list = [];
    is = refl;
    tokens = [];
    spells = no_branches;
    back = λ p q e. (
      [],
      subst (λ (x : ℕ). Row (Reads written n (else_if written)) p x []) e done,
      alike.no_branches,
    );
  }
  branches_again (then {i} {k} {j} {u} {v} (x, (h, x1, x2, opened, (c, y1, y2, d, b, e1), e2), e3) row) =
      let value = values_again source written n h c y1 d in
      let inner = blocks c k y2 b in
      let rest = branches_again row in
      let start = was_opened h x1 opened in
      let one = branch_of value.value inner.list in
      let parts : x ≡ Values value.value ∷ Blocks inner.list ∷ [] =
      e2 ∙ ap (λ (y : List Part). y ++ x2) start.1 ∙ e1 ∙ ap (λ (y : List Part). y ++ y2) value.is
      ∙ ap (λ (y : List Part). Values value.value ∷ y) inner.is in
      let is : u ≡ Branches one ∷ [] = e3 ∙ ap to_branch parts in
      let tail = inner.tokens ++ rest.tokens in record {
        list = one ∷ rest.list;
        is = ap (λ (y : List Part). y ++ v) is ∙ ap (λ (y : List Part). Branches one ∷ y) rest.is;
        tokens = sign terminals.AtElseIf ∷ sign terminals.If ∷ (value.tokens ++ tail);
        spells = more_branches start.0 value.spells inner.spells rest.spells;
        back = λ p q stand.
            let (place, left, right) = split written q value.tokens tail (suc (suc p)) stand.1.1 in
            let (middle, l1, l2) = split written q inner.tokens rest.tokens place right in
            let y = value.back (suc (suc p)) place left in
            let (found, reads, same) = inner.back place middle l1 in
            let (more, others, alikes) = rest.back middle q l2 in (
              branch_of y.found found ∷ more,
              then (
                Values y.found ∷ Blocks found ∷ [],
                (
                  suc (suc p),
                  [],
                  Values y.found ∷ Blocks found ∷ [],
                  inr (
                    suc p,
                    [],
                    [],
                    (is_of written p (sign terminals.AtElseIf) (just terminals.AtElseIf) stand.0 refl, refl, refl),
                    (is_of written (suc p) (sign terminals.If) (just terminals.If) stand.1.0 refl, refl, refl),
                    refl,
                  ),
                  (place, Values y.found ∷ [], Blocks found ∷ [], y.reads, reads, refl),
                  refl,
                ),
                refl,
              ) others,
              alike.branch y.alike same alikes,
            );
      }
    where
      was_opened : (h : ℕ) (x1 : List Part)
          → ((member (terminal_at source i) (just terminals.AtElseIfWhole) ≡ true) × (h ≡ suc i) × (x1 ≡ []))
          ⊎ ((c : ℕ) × (a b : List Part)
          × ((member (terminal_at source i) (just terminals.AtElseIf) ≡ true) × (c ≡ suc i) × (a ≡ []))
          × ((member (terminal_at source c) (just terminals.If) ≡ true) × (h ≡ suc c) × (b ≡ [])) × (x1 ≡ a ++ b))
          → OldElseIf source i h × (x1 ≡ [])
      was_opened h x1 (inl (m, e, f)) =
          (subst (OldElseIf source i) (sym e) (one_word (old_of source i (just terminals.AtElseIfWhole) refl m)), f)
      was_opened h x1 (inr (c, a, b, (m1, e1, e2), (m2, e3, e4), e5)) = (
        subst (OldElseIf source i) (sym (e3 ∙ ap suc e1))
            (two_words (old_of source i (just terminals.AtElseIf) refl m1)
            (old_of source (suc i) (just terminals.If) refl
            (subst (λ (y : ℕ). member (terminal_at source y) (just terminals.If) ≡ true) e1 m2))),
        e5 ∙ ap (λ (y : List Part). y ++ b) e2 ∙ e4,
      )

  record ElseAgain (i j : ℕ) (w : List Part) : Type 0 where
    otherwise : Option (List Statement)
    is : w ≡ last_part otherwise
    tokens : List Tok
    spells : SpellsElse source i j otherwise tokens
    back : (p q : ℕ) → Stands written p tokens q
        → (found : Option (List Statement)) × Reads written n (else_ written) p q (last_part found)
        × LikeOptionalBlock otherwise found

  else_again : (i j : ℕ) (w : List Part) → Reads source n (else_ source) i j w → ElseAgain i j w
  unfolding else_
  else_again i j w (inl (k, u, v, (m, e1, e2), b, e3)) =
      let inner = blocks k j v b in record {
        otherwise = Some inner.list;
        is = e3 ∙ ap (λ (y : List Part). y ++ v) e2 ∙ inner.is;
        tokens = sign terminals.AtElse ∷ inner.tokens;
        spells = subst (λ (x : ℕ). SpellsElse source i j (Some inner.list) (sign terminals.AtElse ∷ inner.tokens)) e1
            (else_block (old_of source i (just terminals.AtElse) refl m)
            (subst (λ (y : ℕ). SpellsBlock source y j inner.list inner.tokens) e1 inner.spells));
        back = λ p q stand.
            let (found, reads, same) = inner.back (suc p) q stand.1 in (
              Some found,
              inl (
                suc p,
                [],
                Blocks found ∷ [],
                (is_of written p (sign terminals.AtElse) (just terminals.AtElse) stand.0 refl, refl, refl),
                reads,
                refl,
              ),
              alike.block same,
            );
      }
  else_again i j w (inr (e1, e2)) = record {
    otherwise = None;
    is = e2;
    tokens = [];
    spells = subst (λ (x : ℕ). SpellsElse source i x None []) (sym e1) no_else;
    back = λ p q e. (None, inr (sym e, refl), alike.no_block);
  }

  pub if_again : StatementAgain source written n if_
  unfolding if_
  if_again i j w (u, (k, u1, u2, (x, (k1, x1, x2, (m, e1, e2), d, e3), e4), (c, y1, y2, b, (o, z1, z2, row, last, e5), e6), e7), e8) =
      let value = values_again source written n (suc i) k x2 (subst (λ (y : ℕ). Reads source n (expr source) y k x2) e1 d) in
      let inner = blocks k c y1 b in
      let branches = branches_again row in
      let end = else_again o j z2 last in
      let span = span_between source i k in
      let further = map Branches branches.list ++ last_part end.otherwise in
      let head : x ≡ Values value.value ∷ [] = e3 ∙ ap (λ (y : List Part). y ++ x2) e2 ∙ value.is in
      let tail : u2 ≡ Blocks inner.list ∷ further =
      e6 ∙ ap (λ (y : List Part). y ++ y2) inner.is
      ∙ ap (λ (y : List Part). Blocks inner.list ∷ y)
      (e5 ∙ ap (λ (y : List Part). y ++ z2) branches.is ∙ ap (λ (y : List Part). map Branches branches.list ++ y) end.is) in
      let parts : u ≡ Values value.value ∷ Behind k ∷ Blocks inner.list ∷ further =
      e7 ∙ ap (λ (y : List Part). y ++ u2) (e4 ∙ ap (to_behind i k) head)
      ∙ ap (λ (y : List Part). Values value.value ∷ Behind k ∷ y) tail in
      let one = branch_of value.value inner.list in
      let rest = branches.tokens ++ end.tokens in record {
        statement = statements.If (one ∷ branches.list) end.otherwise span;
        is = e8 ∙ ap (to_if source i j) parts
            ∙ ap (λ (y : List Branch). States (statements.If (one ∷ y) (block_of further) span) ∷ [])
            (branches_listed branches.list end.otherwise)
            ∙ ap (λ (y : Option (List Statement)). States (statements.If (one ∷ branches.list) y span) ∷ [])
            (block_last branches.list end.otherwise);
        tokens = sign terminals.AtIf ∷ (value.tokens ++ (inner.tokens ++ rest));
        spells = if_block span (old_of source i (just terminals.AtIf) refl m) value.spells inner.spells branches.spells
            end.spells;
        back = λ p q stand.
            let (place, l1, r1) = split written q value.tokens (inner.tokens ++ rest) (suc p) stand.1 in
            let (middle, l2, r2) = split written q inner.tokens rest place r1 in
            let (late, l3, r3) = split written q branches.tokens end.tokens middle r2 in
            let y = value.back (suc p) place l1 in
            let (found, reads, same) = inner.back place middle l2 in
            let (list, rows, alikes) = branches.back middle late l3 in
            let (otherwise, final, alike_end) = end.back late q r3 in
            let there = span_between written p place in
            let first = branch_of y.found found in
            let more = map Branches list ++ last_part otherwise in record {
              found = statements.If (first ∷ list) otherwise there;
              reads = (
                Values y.found ∷ Behind place ∷ Blocks found ∷ more,
                (
                  place,
                  Values y.found ∷ Behind place ∷ [],
                  Blocks found ∷ more,
                  (
                    Values y.found ∷ [],
                    (
                      suc p,
                      [],
                      Values y.found ∷ [],
                      (is_of written p (sign terminals.AtIf) (just terminals.AtIf) stand.0 refl, refl, refl),
                      y.reads,
                      refl,
                    ),
                    refl,
                  ),
                  (
                    middle,
                    Blocks found ∷ [],
                    more,
                    reads,
                    (late, map Branches list, last_part otherwise, rows, final, refl),
                    refl,
                  ),
                  refl,
                ),
                sym (ap (λ (z : List Branch). States (statements.If (first ∷ z) (block_of more) there) ∷ [])
                    (branches_listed list otherwise)
                    ∙ ap (λ (z : Option (List Statement)). States (statements.If (first ∷ list) z there) ∷ [])
                    (block_last list otherwise)),
              );
              alike = alike.if_ (alike.branch y.alike same alikes) alike_end;
            };
      }
