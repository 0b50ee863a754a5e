-- Texts that are built piece by piece are read again: what holds of the parts of a production holds of the whole.
use Rattle.std.specs.Prelude.{codes}
use Rattle.std.proofs.Common.{◌≡◌, ℕ, suc, ◌+◌, false, List, [], ◌∷◌, ◌++◌, map, refl, sym, ◌∙◌, ap, subst, arith}
use Rattle.std.proofs.lemmas.List.{map-append}
use Rattle.sw_parse_grammar.specs.Grammar.{Grammar, skip, seq, group, build, anywhere, member, Row, done, then, Derives}
use Rattle.sw_tree.specs.declared.text.Piece.{Piece}
use Rattle.sw_tree.specs.declared.text.Piece.TheVariants as pieces
use Rattle.sw_parse_terminals.specs.declared.terminal.Terminal.{Terminal}
use Rattle.sw_parse_terminals.specs.declared.terminal.Terminal.TheVariants as terminals
use Rattle.sw_parse_terminals.specs.Numbers.{just}
use Rattle.sw_parse_table.specs.declared.source.Source.{Source}
use Rattle.sw_parse_table.specs.Parts.{Part, Form, Pieces}
use Rattle.sw_parse_table.specs.Parts as parts
use Rattle.sw_parse_table.specs.Sources.{text_of, bytes_between}
use Rattle.sw_parse_table.specs.Table.{forms}
use Rattle.sw_parse_table.specs.Values.{inserted_piece}
use Rattle.sw_parse_table.specs.Queries.{said_before, in_parens, to_token_piece}
use Rattle.sw_convert_alike.specs.Expressions.{LikePieces}
use Rattle.sw_convert_alike.specs.Expressions as alike
use Rattle.sw_convert_again.specs.Tokens.{Tok, sign, Stands, Old}
use Rattle.sw_convert_again.specs.Spells.{within}
use Rattle.sw_convert_again.specs.Again.{Reads}
use Rattle.sw_convert_again.specs.Queries.{in_parentheses, copied, SpellsInserted, inserted_value}
use Rattle.sw_convert_again.proofs.Tokens.{old_of, is_of, of_set, split}
use Rattle.sw_convert_again.proofs.Rows.{Plainly, inserting, insert_again}
use Rattle.sw_convert_again.proofs.Values.{values_again}

pub like_both : {xs ys vs ws : List Piece} → LikePieces xs ys → LikePieces vs ws → LikePieces (xs ++ vs) (ys ++ ws)
like_both alike.no_pieces more = more
like_both (alike.text l) more = alike.text (like_both l more)
like_both (alike.inserted v l) more = alike.inserted v (like_both l more)
like_both (alike.value v l) more = alike.value v (like_both l more)
like_both (alike.empty_left l) more = alike.empty_left (like_both l more)
like_both (alike.empty_right l) more = alike.empty_right (like_both l more)

-- the same text before pieces
pub like_text : (a b : List ℕ) (xs ys : List Piece) → a ≡ b → LikePieces xs ys
    → LikePieces (pieces.Text a ∷ xs) (pieces.Text b ∷ ys)
like_text a b xs ys e l =
    subst (λ (x : List ℕ). LikePieces (pieces.Text a ∷ xs) (pieces.Text x ∷ ys)) e (alike.text l)

-- what tokens are written of pieces that were read between two places
abbrev pub Spelling : Type 1
Spelling = ℕ → ℕ → List Piece → List Tok → Type 0

-- what was read are pieces, they have tokens, and wherever these stand they are read as pieces like them
pub record PiecesAgain (written : Source) (spelled : ℕ → ℕ → List Piece → List Tok → Type 0)
    (reads : ℕ → ℕ → List Part → Type 0)
    (i j : ℕ) (w : List Part) : Type 0 where
  pub list : List Piece
  pub is : w ≡ map Pieces list
  pub tokens : List Tok
  pub spells : spelled i j list tokens
  pub back : (p q : ℕ) → Stands written p tokens q
      → (found : List Piece) × reads p q (map Pieces found) × LikePieces list found

-- all that a production derives, and what stands in brackets
abbrev pub AllAgain : Source → Source → Spelling → ℕ → (Source → Grammar Part Form) → Type 0
AllAgain source written spelled n g =
    (i j : ℕ) (w : List Part) → Reads source n (g source) i j w
    → PiecesAgain written spelled (Reads written n (g written)) i j w

abbrev pub Inner : Source → ℕ → Form → ℕ → ℕ → List Part → Type 0
Inner source n form = Derives (forms source) (text_of source) n form

abbrev pub InnerAgain : Source → Source → Spelling → ℕ → Form → Type 0
InnerAgain source written spelled n form =
    (i j : ℕ) (w : List Part) → Inner source n form i j w → PiecesAgain written spelled (Inner written n form) i j w

-- a token that is copied: of one terminal, or of a set
pub data Copied (source : Source) (terminal : Terminal) : ℕ → ℕ → List Piece → List Tok → Type 0 where
  copied_token : {i : ℕ} → Old source i (just terminal)
      → Copied source terminal i (suc i) (pieces.Text (bytes_between source i (suc i)) ∷ [])
      (copied source i terminal ∷ [])

pub data CopiedOf (source : Source) (set : List ℕ) : ℕ → ℕ → List Piece → List Tok → Type 0 where
  copied_of : {i : ℕ} → (old : Old source i set)
      → CopiedOf source set i (suc i) (pieces.Text (bytes_between source i (suc i)) ∷ [])
      (copied source i old.lexeme.terminal ∷ [])

module _ (source written : Source) (n : ℕ) where
  -- one after the other
  pub both_again : (A B C : Spelling) (g h : Source → Grammar Part Form)
      → ((i k j : ℕ) (xs ys : List Piece) (ts us : List Tok) → A i k xs ts → B k j ys us → C i j (xs ++ ys) (ts ++ us))
      → AllAgain source written A n g → AllAgain source written B n h
      → AllAgain source written C n (λ s. seq (g s) (h s))
  both_again A B C g h make one two i j w (k, u, v, d1, d2, e) =
      let a = one i k u d1 in
      let b = two k j v d2 in record {
        list = a.list ++ b.list;
        is = e ∙ ap (λ (x : List Part). x ++ v) a.is ∙ ap (λ (x : List Part). map Pieces a.list ++ x) b.is
            ∙ sym (map-append Pieces a.list b.list);
        tokens = a.tokens ++ b.tokens;
        spells = make i k j a.list b.list a.tokens b.tokens a.spells b.spells;
        back = λ p q stand.
            let (place, left, right) = split written q a.tokens b.tokens p stand in
            let (f, reads, liked) = a.back p place left in
            let (g, others, more) = b.back place q right in (
              f ++ g,
              (place, map Pieces f, map Pieces g, reads, others, map-append Pieces f g),
              like_both liked more,
            );
      }

  -- any number of them
  pub many_again : (A C : Spelling) (g : Source → Grammar Part Form) → ((i : ℕ) → C i i [] [])
      → ((i k j : ℕ) (xs ys : List Piece) (ts us : List Tok) → A i k xs ts → C k j ys us → C i j (xs ++ ys) (ts ++ us))
      → AllAgain source written A n g → {i j : ℕ} {w : List Part} → Row (Reads source n (g source)) i j w
      → PiecesAgain written C (Row (Reads written n (g written))) i j w
  many_again A C g none make one (done {i}) = record {
    list = [];
    is = refl;
    tokens = [];
    spells = none i;
    back = λ p q e. ([], subst (λ (x : ℕ). Row (Reads written n (g written)) p x []) e done, alike.no_pieces);
  }
  many_again A C g none make one (then {i} {k} {j} {u} {v} d row) =
      let a = one i k u d in
      let b = many_again A C g none make one row in record {
        list = a.list ++ b.list;
        is = ap (λ (x : List Part). x ++ v) a.is ∙ ap (λ (x : List Part). map Pieces a.list ++ x) b.is
            ∙ sym (map-append Pieces a.list b.list);
        tokens = a.tokens ++ b.tokens;
        spells = make i k j a.list b.list a.tokens b.tokens a.spells b.spells;
        back = λ p q stand.
            let (place, left, right) = split written q a.tokens b.tokens p stand in
            let (f, reads, liked) = a.back p place left in
            let (h, others, more) = b.back place q right in (
              f ++ h,
              subst (Row (Reads written n (g written)) p q) (sym (map-append Pieces f h)) (then reads others),
              like_both liked more,
            );
      }

  -- what one production reads another does
  pub into_again : (A C : Spelling) (g h : Grammar Part Form) {i j : ℕ} {w : List Part}
      → ((x y : ℕ) (xs : List Piece) (ts : List Tok) → A x y xs ts → C x y xs ts)
      → ((p q : ℕ) (v : List Part) → Reads written n g p q v → Reads written n h p q v)
      → PiecesAgain written A (Reads written n g) i j w → PiecesAgain written C (Reads written n h) i j w
  into_again A C g h {i} {j} {w} make into a = record {
    list = a.list;
    is = a.is;
    tokens = a.tokens;
    spells = make i j a.list a.tokens a.spells;
    back = λ p q stand. let (f, reads, liked) = a.back p q stand in (f, into p q (map Pieces f) reads, liked);
  }

  -- nothing
  pub none_again : (C : Spelling) (g : Grammar Part Form) (i j : ℕ) (w : List Part) → j ≡ i → w ≡ [] → C i i [] []
      → ((p : ℕ) → Reads written n g p p []) → PiecesAgain written C (Reads written n g) i j w
  none_again C g i j w e1 e2 none reads = record {
    list = [];
    is = e2;
    tokens = [];
    spells = subst (λ (x : ℕ). C i x [] []) (sym e1) none;
    back = λ p q e. ([], subst (λ (x : ℕ). Reads written n g p x []) e (reads p), alike.no_pieces);
  }

  -- behind a token, with a text before them
  pub worded_again : (opening : Terminal) → Plainly opening → (text : List ℕ) (A C : Spelling)
      (g : Source → Grammar Part Form)
      → ((i j : ℕ) (xs : List Piece) (ts : List Tok) → Old source i (just opening) → A (suc i) j xs ts
      → C i j (pieces.Text text ∷ xs) (sign opening ∷ ts))
      → AllAgain source written A n g
      → AllAgain source written C n (λ s. build (anywhere (said_before text)) (seq (skip (just opening)) (g s)))
  worded_again opening plainly text A C g make one i j w (x, (k, u, v, (m, e1, e2), d, e3), e4) =
      let a = one k j v d in record {
        list = pieces.Text text ∷ a.list;
        is = e4 ∙ ap (λ (y : List Part). Pieces (pieces.Text text) ∷ y)
            (e3 ∙ ap (λ (y : List Part). y ++ v) e2 ∙ a.is);
        tokens = sign opening ∷ a.tokens;
        spells = make i j a.list a.tokens (old_of source i (just opening) plainly.here m)
            (subst (λ (y : ℕ). A y j a.list a.tokens) e1 a.spells);
        back = λ p q stand. let (f, reads, liked) = a.back (suc p) q stand.1 in (
          pieces.Text text ∷ f,
          (
            map Pieces f,
            (
              suc p,
              [],
              map Pieces f,
              (is_of written p (sign opening) (just opening) stand.0 plainly.own, refl, refl),
              reads,
              refl,
            ),
            refl,
          ),
          alike.text liked,
        );
      }

  -- a text before them
  pub said_again : (text : List ℕ) (A C : Spelling) (g : Source → Grammar Part Form)
      → ((i j : ℕ) (xs : List Piece) (ts : List Tok) → A i j xs ts → C i j (pieces.Text text ∷ xs) ts)
      → AllAgain source written A n g
      → AllAgain source written C n (λ s. build (anywhere (said_before text)) (g s))
  said_again text A C g make one i j w (u, d, e) =
      let a = one i j u d in record {
        list = pieces.Text text ∷ a.list;
        is = e ∙ ap (λ (x : List Part). Pieces (pieces.Text text) ∷ x) a.is;
        tokens = a.tokens;
        spells = make i j a.list a.tokens a.spells;
        back = λ p q stand. let (f, reads, liked) = a.back p q stand in
            (pieces.Text text ∷ f, (map Pieces f, reads, refl), alike.text liked);
      }

  -- in parentheses
  pub parens_again : (opening : Terminal) → Plainly opening → (A C : Spelling) (form : Form)
      → ((i c : ℕ) (xs : List Piece) (ts : List Tok) → Old source i (just opening) → A (suc i) c xs ts
      → Old source c (just terminals.ParenEnd)
      → C i (suc c) (in_parentheses xs) (within (sign opening) ts terminals.ParenEnd))
      → InnerAgain source written A n form
      → AllAgain source written C n
      (λ s. build (anywhere in_parens) (group (just opening) form (just terminals.ParenEnd)))
  parens_again opening plainly A C form make one i j w (u, (m1, c, d, m2, e1), e2) =
      let a = one (suc i) c u d in
      let tokens = within (sign opening) a.tokens terminals.ParenEnd in
      let closing = Pieces (pieces.Text (codes ")")) ∷ [] in record {
        list = in_parentheses a.list;
        is = e2
            ∙ ap (λ (x : List Part). Pieces (pieces.Text (codes "(")) ∷ (x ++ closing)) a.is
            ∙ ap (λ (x : List Part). Pieces (pieces.Text (codes "(")) ∷ x)
            (sym (map-append Pieces a.list (pieces.Text (codes ")") ∷ [])));
        tokens = tokens;
        spells = subst (λ (x : ℕ). C i x (in_parentheses a.list) tokens) (sym e1)
            (make i c a.list a.tokens (old_of source i (just opening) plainly.here m1) a.spells
            (old_of source c (just terminals.ParenEnd) refl m2));
        back = λ p q stand.
            let (place, left, right) = split written q a.tokens (sign terminals.ParenEnd ∷ []) (suc p) stand.1 in
            let (f, reads, liked) = a.back (suc p) place left in (
              in_parentheses f,
              (
                map Pieces f,
                (
                  is_of written p (sign opening) (just opening) stand.0 plainly.own,
                  place,
                  reads,
                  is_of written place (sign terminals.ParenEnd) (just terminals.ParenEnd) right.0 refl,
                  sym right.1,
                ),
                ap (λ (x : List Part). Pieces (pieces.Text (codes "(")) ∷ x)
                    (map-append Pieces f (pieces.Text (codes ")") ∷ [])),
              ),
              alike.text (like_both liked (alike.text alike.no_pieces)),
            );
      }

  -- a value in `#{}`
  pub inserted_again : (opening : Terminal) → Plainly opening
      → AllAgain source written (SpellsInserted source opening) n
      (λ s. build (anywhere inserted_piece) (inserting s opening))
  inserted_again opening plainly i j w (u, d, e) =
      let one = insert_again source written n (λ m e. values_again source written m) opening plainly.here i j u d in
      let tokens = within (sign opening) one.tokens terminals.InsertEnd in record {
        list = pieces.Inserted one.value ∷ [];
        is = e ∙ ap inserted_piece one.is;
        tokens = tokens;
        spells = subst (λ (x : ℕ). SpellsInserted source opening i x (pieces.Inserted one.value ∷ []) tokens)
            (sym one.end)
            (inserted_value one.opened one.spells one.closed);
        back = λ p q stand.
            let (place, left, right) = split written q one.tokens (sign terminals.InsertEnd ∷ []) (suc p) stand.1 in
            let (f, reads, liked) = one.back p place left
            (is_of written p (sign opening) (just opening) stand.0 plainly.own)
            (is_of written place (sign terminals.InsertEnd) (just terminals.InsertEnd) right.0 refl) in (
              pieces.Inserted f ∷ [],
              subst (λ (x : ℕ). Reads written n (build (anywhere inserted_piece) (inserting written opening)) p x
                  (Pieces (pieces.Inserted f) ∷ [])) right.1
                  (parts.Inserts p (suc place) f ∷ [], reads, refl),
              alike.inserted liked alike.no_pieces,
            );
      }

  -- a token that is copied
  pub copied_same : (i p q : ℕ) → suc p ≡ q → bytes_between written p (p + 1) ≡ bytes_between source i (suc i)
      → bytes_between source i (suc i) ≡ bytes_between written p q
  copied_same i p q e said =
      sym said ∙ ap (bytes_between written p) (let z : p + 1 ≡ q = omega (arith, e) in z)

  pub copied_again : (terminal : Terminal) → Plainly terminal
      → AllAgain source written (Copied source terminal) n (λ s. build (to_token_piece s) (skip (just terminal)))
  copied_again terminal plainly i j w (u, (m, e1, e2), e3) =
      let text = bytes_between source i (suc i) in
      let token = copied source i terminal in record {
        list = pieces.Text text ∷ [];
        is = e3 ∙ ap (λ (x : List Part). Pieces (pieces.Text (bytes_between source i j)) ∷ x) e2
            ∙ ap (λ (x : ℕ). Pieces (pieces.Text (bytes_between source i x)) ∷ []) e1;
        tokens = token ∷ [];
        spells = subst (λ (x : ℕ). Copied source terminal i x (pieces.Text text ∷ []) (token ∷ [])) (sym e1)
            (copied_token (old_of source i (just terminal) plainly.here m));
        back = λ p q stand. (
          pieces.Text (bytes_between written p q) ∷ [],
          ([], (is_of written p token (just terminal) stand.0 plainly.own, sym stand.1, refl), refl),
          like_text text (bytes_between written p q) [] [] (copied_same i p q stand.1 stand.0.said) alike.no_pieces,
        );
      }

  -- the same of a token of a set
  pub copied_of_set_again : (set : List ℕ) → member 0 set ≡ false
      → AllAgain source written (CopiedOf source set) n (λ s. build (to_token_piece s) (skip set))
  copied_of_set_again set z i j w (u, (m, e1, e2), e3) =
      let text = bytes_between source i (suc i) in
      let old = old_of source i set z m in
      let token = copied source i old.lexeme.terminal in record {
        list = pieces.Text text ∷ [];
        is = e3 ∙ ap (λ (x : List Part). Pieces (pieces.Text (bytes_between source i j)) ∷ x) e2
            ∙ ap (λ (x : ℕ). Pieces (pieces.Text (bytes_between source i x)) ∷ []) e1;
        tokens = token ∷ [];
        spells = subst (λ (x : ℕ). CopiedOf source set i x (pieces.Text text ∷ []) (token ∷ [])) (sym e1)
            (copied_of old);
        back = λ p q stand. (
          pieces.Text (bytes_between written p q) ∷ [],
          ([], (of_set source written i p set old token stand.0 refl, sym stand.1, refl), refl),
          like_text text (bytes_between written p q) [] [] (copied_same i p q stand.1 stand.0.said) alike.no_pieces,
        );
      }
