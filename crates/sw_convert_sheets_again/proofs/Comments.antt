-- Loud comments are read again, with the values in them.
use Rattle.std.proofs.Common.{◌≡◌, ℕ, suc, ◌+◌, Bool, true, false, ◌&&◌, if◌then◌else◌, List, [], ◌∷◌, ◌++◌, length, inl, inr, refl, sym, ◌∙◌, ap, subst, arith, append-nil}
use Rattle.sw_parse_grammar.specs.Grammar.{Row, member}
use Rattle.sw_parse_grammar.proofs.Sets.{apart}
use Rattle.sw_tree.specs.declared.statement.Statement.TheVariants as statements
use Rattle.sw_tree.specs.declared.text.Text.{Text}
use Rattle.sw_parse_terminals.specs.declared.terminal.Terminal.{Terminal}
use Rattle.sw_parse_terminals.specs.declared.terminal.Terminal.TheVariants as terminals
use Rattle.sw_parse_terminals.specs.Numbers.{just}
use Rattle.sw_parse_table.specs.declared.source.Source.{Source}
use Rattle.sw_parse_table.specs.Parts.{Part, States}
use Rattle.sw_parse_table.specs.Sources.{texts, terminal_at, from_at, stretch_between, parts_between, text_between}
use Rattle.sw_parse_table.specs.Lined.{is_made, is_lined, lines, lined_text, comment_text}
use Rattle.sw_parse_table.specs.Actions.{to_comment}
use Rattle.sw_parse_table.specs.Expressions.{insert}
use Rattle.sw_parse_table.specs.Statements.{comment}
use Rattle.sw_convert_alike.specs.Expressions.{LikeParts}
use Rattle.sw_convert_alike.specs.Expressions as alike_expressions
use Rattle.sw_convert_alike.specs.Statements.{LikeComment}
use Rattle.sw_convert_alike.specs.Statements as alike
use Rattle.sw_convert_alike.proofs.AsTheyStand.{comment_as_it_stands}
use Rattle.sw_convert_again.specs.Tokens.{Before, Plain, Worded, text_up_to, Tok, tok, sign, Stands, Old, saying}
use Rattle.sw_convert_again.specs.Spells.{SpellsRow, row_end, row_part, row_insert, from_start}
use Rattle.sw_convert_again.specs.Again.{Reads}
use Rattle.sw_convert_again.specs.Comments.{lone, text_tokens, behind_opening, opened_text, SpellsLines, last_value, next_value, SpellsComment, whole_comment, comment_template, whole_lines, lines_template}
use Rattle.sw_convert_again.specs.Statements.{comment_line}
use Rattle.sw_convert_again.specs.Claims.{StatementAgain, IsStatementAgain, FoundStatement}
use Rattle.sw_convert_again.proofs.Tokens.{unless, kind_is, old_of, is_of, split}
use Rattle.sw_convert_again.proofs.Leaves.{plain_self}
use Rattle.sw_convert_again.proofs.Rows.{RowAgain, said_first, row_item, row_again}
use Rattle.sw_convert_again.proofs.RawTexts.{Unsaid, unsaid}
use Rattle.sw_convert_again.proofs.Extents.{tokens_long}
use Rattle.sw_convert_again.proofs.Values.{values_again}
use Rattle.sw_convert_sheets_again.proofs.Lines.{text_row, LinesAgain, LinesRead, lines_again}

-- ---- comments that are told by their lines, and others

as_it_stands : (source : Source) (at place : ℕ) (inserts : List Part) → is_lined source at ≡ false
    → comment_text source at place inserts ≡ text_between source at place inserts
unfolding comment_text
as_it_stands source at place inserts e =
    ap (λ (b : Bool). if b then lined_text source at place inserts else text_between source at place inserts) e

in_lines : (source : Source) (at place : ℕ) (inserts : List Part) → is_lined source at ≡ true
    → comment_text source at place inserts ≡ lined_text source at place inserts
unfolding comment_text
in_lines source at place inserts e =
    ap (λ (b : Bool). if b then lined_text source at place inserts else text_between source at place inserts) e

-- a whole comment isn't, nor one whose first token behind its `/*` isn't empty
no_template : (a b : Bool) → a ≡ false → (a && b) ≡ false
no_template a b e = ap (λ (x : Bool). x && b) e

not_made : (a b : Bool) → b ≡ false → (a && b) ≡ false
not_made true b e = e
not_made false b e = refl

made : (a b : Bool) → a ≡ true → b ≡ true → (a && b) ≡ true
made a b e f = ap (λ (x : Bool). x && b) e ∙ f

row_unsaid : {source : Source} {part opening : Terminal} {extra i j count : ℕ} {w : List Part} {tokens : List Tok}
    → SpellsRow source part opening extra i j w count tokens → (others : List Tok) → Unsaid others
    → Unsaid (tokens ++ others)
row_unsaid row_end others u = u
row_unsaid (row_part old more) others u = refl
row_unsaid (row_insert opened value closed more) others u = refl

lines_unsaid : {source : Source} {at to i : ℕ} {w : List Part} {tokens : List Tok} → SpellsLines source at to i w tokens
    → Unsaid tokens
lines_unsaid (last_value opened value closed) = refl
lines_unsaid (next_value opened value closed more) = refl

text_unsaid : (text : List ℕ) (others : List Tok) → Unsaid others → Unsaid (text_tokens text ++ others)
text_unsaid [] others u = u
text_unsaid (b ∷ text) others u = refl

abbrev templates : List ℕ
templates = just terminals.CommentTemplate

abbrev wholes : List ℕ
wholes = just terminals.CommentWhole

module _ (source written : Source) (n : ℕ) where
  abbrev CommentAgain : ℕ → ℕ → List Part → Type 0
  CommentAgain = IsStatementAgain source written n (comment written)

  abbrev Found : Text → ℕ → ℕ → Type 0
  Found text = FoundStatement written n (comment written) (statements.Comment text)

  -- what begins a whole comment begins no other
  whole_is_none : (s : Source) (at : ℕ) → member (terminal_at s at) wholes ≡ true → is_lined s at ≡ false
  whole_is_none s at m =
      no_template _ (is_made s (at + 1))
      (unless (member (terminal_at s at) templates) (apart (terminal_at s at) wholes templates refl m))

  -- a whole comment is read with this text
  whole_back : (text : Text) → LikeParts text.parts text.parts → (p q : ℕ)
      → Stands written p (tok terminals.CommentWhole (Plain 1 text.parts) ∷ []) q → Found text p q
  unfolding comment
  whole_back text self p q stand =
      let here = is_of written p (tok terminals.CommentWhole (Plain 1 text.parts)) wholes stand.0 refl in
      let is = as_it_stands written p q [] (whole_is_none written p here) in
      let says : text.parts ≡ (comment_text written p q []).parts =
      sym stand.0.said
      ∙ ap (λ (x : ℕ). parts_between written p x []) (let e = stand.1 in let z : p + 1 ≡ q = omega (arith, e) in z)
      ∙ sym (ap (λ (x : Text). x.parts) is) in record {
        found = statements.Comment (comment_text written p q []);
        reads = ([], (inl (here, sym stand.1, refl)), refl);
        alike = alike.comment (comment_as_it_stands (subst (LikeParts text.parts) says self));
      }

  whole_again : (i j : ℕ) (u w : List Part) → member (terminal_at source i) wholes ≡ true → j ≡ suc i → u ≡ []
      → w ≡ to_comment source i j u → CommentAgain i j w
  whole_again i j u w m e1 e2 e3 =
      let text = text_between source i (suc i) [] in
      let tokens = tok terminals.CommentWhole (Plain 1 text.parts) ∷ [] in
      let stretch = stretch_between source i (suc i) in record {
        statement = statements.Comment text;
        is = e3 ∙ ap (to_comment source i j) e2
            ∙ ap (λ (x : Text). States (statements.Comment x) ∷ [])
            (as_it_stands source i j [] (whole_is_none source i m))
            ∙ ap (λ (x : ℕ). States (statements.Comment (text_between source i x [])) ∷ []) e1;
        tokens = tokens;
        spells = comment_line (subst (λ (x : ℕ). SpellsComment source i x text tokens) (sym e1)
            (whole_comment (old_of source i wholes refl m)));
        back = whole_back text (plain_self (texts source stretch).first (texts source stretch).rest);
      }

  -- ---- with `#{}`

  abbrev Row' : ℕ → ℕ → List Part → Type 0
  Row' s k w = RowAgain source written terminals.Piece terminals.Insert suc 1 n s k w

  -- the items of a comment behind its first token, and its end, are read as a comment
  items_back : (text : Text) (p q stop : ℕ) (found : List Part) → member (terminal_at written p) templates ≡ true
      → Row (Reads written n (row_item written terminals.Piece terminals.Insert)) (suc p) stop found
      → member (terminal_at written stop) (just terminals.CommentEnd) ≡ true → q ≡ suc stop
      → is_made written (suc p) ≡ false
      → LikeParts text.parts (parts_between written p q found) → Found text p q
  unfolding comment insert
  items_back text p q stop found here reads closed end worded like =
      let is_no : is_made written (p + 1) ≡ false =
      ap (λ (x : ℕ). is_made written x) (let z : p + 1 ≡ suc p = omega arith in z) ∙ worded in
      let is = as_it_stands written p q found (not_made (member (terminal_at written p) templates) _ is_no) in record {
        found = statements.Comment (comment_text written p q found);
        reads = (
          found ++ [],
          inr (
            suc p,
            [],
            found ++ [],
            (here, refl, refl),
            (stop, found, [], reads, (closed, end, refl), refl),
            refl,
          ),
          ap (λ (x : List Part). States (statements.Comment (comment_text written p q x)) ∷ []) (sym (append-nil found)),
        );
        alike = alike.comment (comment_as_it_stands
            (subst (λ (x : Text). LikeParts text.parts x.parts) (sym is) like));
      }

  template_again : (i j k : ℕ) (u w : List Part) → Old source i templates → Row' (suc i) k u
      → Old source k (just terminals.CommentEnd) → j ≡ suc k → is_made source (i + 1) ≡ false
      → w ≡ to_comment source i j u → CommentAgain i j w
  template_again i j k u w opened rest closed end worded e =
      let text = text_between source i (suc k) u in
      let first = tok terminals.CommentTemplate (from_start source i u (suc rest.count)) in
      let inner = rest.tokens ++ sign terminals.CommentEnd ∷ [] in
      let tokens = first ∷ saying Worded inner in record {
        statement = statements.Comment text;
        is = e ∙ ap (λ (x : Text). States (statements.Comment x) ∷ [])
            (as_it_stands source i j u (not_made (member (terminal_at source i) templates) _ worded))
            ∙ ap (λ (x : ℕ). States (statements.Comment (text_between source i x u)) ∷ []) end;
        tokens = tokens;
        spells = comment_line (subst (λ (x : ℕ). SpellsComment source i x text tokens) (sym end)
            (comment_template opened worded rest.spells closed));
        back = λ p q stand.
            let (there, says) = unsaid written Worded inner
            (row_unsaid rest.spells (sign terminals.CommentEnd ∷ []) refl) (suc p) q stand.1 in
            let (place, left, right) = split written q rest.tokens (sign terminals.CommentEnd ∷ []) (suc p) there in
            let r = rest.back (suc p) place left in
            let same = said_first source written i p rest.stop r.stop' u (suc rest.count) stand.0.said
            (let a : rest.stop ≡ i + suc rest.count = omega (arith, rest.at) in a)
            (let b : r.stop' ≡ p + suc rest.count = omega (arith, r.at) in b) in
            items_back text p q place r.found (is_of written p first templates stand.0 refl) r.reads
            (is_of written place (sign terminals.CommentEnd) (just terminals.CommentEnd) right.0 refl) (sym right.1)
            says
            (subst (λ (x : ℕ). LikeParts text.parts (parts_between written p x r.found)) right.1
            (r.parts (from_at source i) i (from_at written p) p same));
      }

  -- ---- in lines

  whole_lines_again : (i j : ℕ) (u w : List Part) → Old source i templates → is_lined source i ≡ true
      → is_made source (i + 1) ≡ true → u ≡ [] → w ≡ to_comment source i j u → CommentAgain i j w
  whole_lines_again i j u w opened lined no_text e1 e2 =
      let text = lined_text source i j [] in record {
        statement = statements.Comment text;
        is = e2 ∙ ap (to_comment source i j) e1
            ∙ ap (λ (x : Text). States (statements.Comment x) ∷ []) (in_lines source i j [] lined);
        tokens = tok terminals.CommentWhole (Plain 1 text.parts) ∷ [];
        spells = comment_line (whole_lines opened no_text);
        back = whole_back text alike_expressions.plain;
      }

  lines_template_again : (i j k : ℕ) (u w : List Part) → Old source i templates → is_lined source i ≡ true
      → is_made source (i + 1) ≡ true → LinesAgain source written n i j k u → w ≡ to_comment source i j u
      → CommentAgain i j w
  lines_template_again i j k [] w opened lined no_text rest e = absurd (no_values rest.spells)
    where
      no_values : {tokens : List Tok} → SpellsLines source i j k [] tokens → ⊥
      no_values s = elim s [ ]
  lines_template_again i j k (one ∷ u) w opened lined no_text rest e =
      let text = lined_text source i j (one ∷ u) in
      let said = lines source i i k in
      let others = opened_text said in
      let first = tok terminals.CommentTemplate (Before (suc (length others)) (lone said)) in
      let tokens = first ∷ saying Worded (others ++ rest.tokens) in record {
        statement = statements.Comment text;
        is = e ∙ ap (λ (x : Text). States (statements.Comment x) ∷ []) (in_lines source i j (one ∷ u) lined);
        tokens = tokens;
        spells = comment_line (lines_template opened no_text rest.spells);
        back = λ p q stand.
            let (there, says) = unsaid written Worded (others ++ rest.tokens)
            (text_unsaid (behind_opening said) rest.tokens (lines_unsaid rest.spells)) (suc p) q stand.1 in
            let (place, left, right) = split written q others rest.tokens (suc p) there in
            let long = tokens_long written others (suc p) place left in
            let r = rest.back place q right in
            let same : text_up_to written (from_at written p) p place ≡ lone said =
            ap (text_up_to written (from_at written p) p)
            (let z : place ≡ p + suc (length others) = omega (arith, long) in z) ∙ stand.0.said in
            items_back text p q r.stop r.found (is_of written p first templates stand.0 refl)
            (text_row source written n (behind_opening said) (suc p) place r.stop r.found left r.reads) r.closed r.end
            says (r.parts i (from_at written p) p same);
      }

  -- ---- all comments

  read_again : (i j k : ℕ) (u w : List Part) → Old source i templates
      → Row (Reads source n (row_item source terminals.Piece terminals.Insert)) (suc i) k u
      → Old source k (just terminals.CommentEnd) → j ≡ suc k → w ≡ to_comment source i j u → (b : Bool)
      → is_made source (i + 1) ≡ b → CommentAgain i j w
  read_again i j k u w opened row closed end e false made_is =
      template_again i j k u w opened
      (row_again source written terminals.Piece terminals.Insert (record { here = refl; own = refl })
      (record { here = refl; own = refl }) suc 1 (λ x. let z : suc x ≡ x + 1 = omega arith in z) n
      (λ m e. values_again source written m) row) closed end made_is e
  read_again i j k u w opened row closed end e true made_is = go (lines_again source written n i j row)
    where
      lined : is_lined source i ≡ true
      lined =
          made (member (terminal_at source i) templates) _
          (ap (λ (x : ℕ). member x templates) (kind_is source i opened.lexeme opened.there) ∙ opened.kind) made_is

      go : LinesRead source written n i j u → CommentAgain i j w
      go (inl none) = whole_lines_again i j u w opened lined made_is none e
      go (inr (first, rest)) = lines_template_again i j first u w opened lined made_is rest e

  pub comment_again : StatementAgain source written n comment
  unfolding comment insert
  comment_again i j w (u, inl (m, e1, e2), e3) = whole_again i j u w m e1 e2 e3
  comment_again i j w (u, inr (a, u1, u2, (m1, e1, e2), (k, v1, v2, row, (m2, e3, e4), e5), e6), e7) =
      let parts : u ≡ v1 =
      e6 ∙ ap (λ (x : List Part). x ++ u2) e2 ∙ e5 ∙ ap (λ (x : List Part). v1 ++ x) e4 ∙ append-nil v1 in
      read_again i j k v1 w (old_of source i templates refl m1)
      (subst (λ (x : ℕ). Row (Reads source n (row_item source terminals.Piece terminals.Insert)) x k v1) e1 row)
      (old_of source k (just terminals.CommentEnd) refl m2) e3 (e7 ∙ ap (to_comment source i j) parts)
      (is_made source (i + 1)) refl
