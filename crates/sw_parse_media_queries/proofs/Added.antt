-- What is read behind the pieces that were read before.
use Rattle.std.proofs.Common.{◌≡◌, ℕ, ◌+◌, ◌-◌, ◌≤◌, Bool, true, false, List, [], ◌∷◌, ◌++◌, refl, sym, ◌∙◌, ap, length, map, codes, append_assoc}
use Rattle.sw_parse_grammar.specs.Grammar.{Grammar, skip, seq, many, group, build, anywhere, member, Answer, Got, Unexpected, TooDeep, prepend}
use Rattle.sw_parse_grammar.specs.Readers.{parse, Fails}
use Rattle.sw_parse_grammar.specs.declared.ReadError.{ReadError}
use Rattle.sw_parse_grammar.specs.declared.ReadError.TheVariants as ends
use Rattle.sw_parse_grammar.proofs.Loops.{fails_prepend, read_skip, read_both, read_act, fails_act, fails_seq, group_none, group_deep, group_got, group_unclosed, group_fails}
use Rattle.sw_parse_terminals.specs.declared.terminal.Terminal.{Terminal}
use Rattle.sw_parse_terminals.specs.declared.terminal.Terminal.TheVariants as T
use Rattle.sw_parse_terminals.specs.Numbers.{just}
use Rattle.sw_tree.specs.declared.text.Piece.{Piece}
use Rattle.sw_tree.specs.declared.text.Piece.TheVariants as pieces
use Rattle.sw_parse_table.specs.declared.source.Source.{Source}
use Rattle.sw_parse_table.specs.Parts.{Part, Form, Pieces, pieces_of}
use Rattle.sw_parse_table.specs.Sources.{terminal_at, text_of, bytes_at, bytes_between}
use Rattle.sw_parse_table.specs.Queries.{said_before, in_parens, to_comparison, to_queries, feature, and_feature, or_feature, query, comma_query, queries}
use Rattle.sw_parse_table.specs.Table.{forms}
use Rattle.sw_parse_table.specs.Reads.{reader}
use Rattle.sw_parse_media_queries.specs.Adding.{parens, paren_end}
use Rattle.sw_parse_media_queries.specs.declared.feature.Joint.{Joint}
use Rattle.sw_parse_media_queries.specs.declared.feature.Joint.TheVariants as joints
use Rattle.sw_parse_media_queries.specs.Joints.{word_of, text_of as joint_text, joined, comparisons}
use Rattle.sw_parse_media_queries.proofs.Rows.{prepend_nothing, read_then, stops_then, behind_skip, no_skip, put}

map_more : (xs : List Piece) (x : Piece) → map Pieces (xs ++ x ∷ []) ≡ map Pieces xs ++ Pieces x ∷ []
map_more [] x = refl
map_more (y ∷ xs) x = ap (λ (zs : List Part). Pieces y ∷ zs) (map_more xs x)

pub more_pieces : (old new : List Piece) (x : Piece) → new ≡ old ++ x ∷ [] → map Pieces new ≡ map Pieces old ++ Pieces x ∷ []
more_pieces old new x e = ap (map Pieces) e ∙ map_more old x

pub pieces_of_pieces : (xs : List Piece) → pieces_of (map Pieces xs) ≡ xs
pieces_of_pieces [] = refl
pieces_of_pieces (x ∷ xs) = ap (λ (ys : List Piece). x ∷ ys) (pieces_of_pieces xs)

module _ (source : Source) (n : ℕ) where
  -- a row of two, whose first is read, or isn't
  pub after : (a b : Grammar Part Form) (i j : ℕ) (old new : List Piece)
      → prepend (map Pieces old) (reader source n a i) ≡ Got (map Pieces new) j
      → prepend (map Pieces old) (reader source n (seq a b) i) ≡ prepend (map Pieces new) (reader source n b j)
  after a b i j old new e =
      read_then (forms source) (text_of source) (length source.lexemes.now) n a b i j (map Pieces old)
      (map Pieces new) e

  pub stops : (a b : Grammar Part Form) (i : ℕ) (old : List Piece) (e : ReadError)
      → Fails e (prepend (map Pieces old) (reader source n a i))
      → Fails e (prepend (map Pieces old) (reader source n (seq a b) i))
  stops a b i old e x =
      stops_then (forms source) (text_of source) (length source.lexemes.now) n a b i (map Pieces old) e x

  -- a text before what is read
  pub said : (text : List ℕ) (g : Grammar Part Form) (i : ℕ) (old new : List Piece) → new ≡ old ++ pieces.Text text ∷ []
      → prepend (map Pieces old) (reader source n (build (anywhere (said_before text)) g) i)
      ≡ prepend (map Pieces new) (reader source n g i)
  said text g i old new e =
      put (forms source) (text_of source) (length source.lexemes.now) n (said_before text) (Pieces
      (pieces.Text text) ∷ []) g i (map Pieces old) (λ v. refl)
      ∙ ap (λ (acc : List Part). prepend acc (reader source n g i)) (sym (more_pieces old new (pieces.Text text) e))

  pub worded : (text : List ℕ) (s : List ℕ) (g : Grammar Part Form) (i : ℕ) (old new : List Piece)
      → member (terminal_at source i) s ≡ true → new ≡ old ++ pieces.Text text ∷ []
      → prepend (map Pieces old) (reader source n (build (anywhere (said_before text)) (seq (skip s) g)) i)
      ≡ prepend (map Pieces new) (reader source n g (i + 1))
  worded text s g i old new m e =
      said text (seq (skip s) g) i old new e
      ∙ ap (prepend (map Pieces new)) (behind_skip (forms source) (text_of source) (length source.lexemes.now) n s g i m)

  unacted : (h : ℕ → ℕ → List Part → List Part) (g : Grammar Part Form) (i k : ℕ) (old : List Piece)
      → reader source n g i ≡ Unexpected k
      → prepend (map Pieces old) (reader source n (build h g) i) ≡ Unexpected k
  unacted h g i k old e =
      ap (prepend (map Pieces old)) (fails_act (forms source) (text_of source) (length source.lexemes.now) n h g i
      (ends.Unexpected k) e)

  pub unworded : (h : ℕ → ℕ → List Part → List Part) (s : List ℕ) (g : Grammar Part Form) (i : ℕ) (old : List Piece)
      → member (terminal_at source i) s ≡ false
      → prepend (map Pieces old) (reader source n (build h (seq (skip s) g)) i) ≡ Unexpected i
  unfolding parse
  unworded h s g i old m =
      unacted h (seq (skip s) g) i i old (rw (no_skip (forms source) (text_of source) (length source.lexemes.now) n s i m) refl)

  -- a token that is read
  pub token : (s : List ℕ) (i : ℕ) (old new : List Piece) → member (terminal_at source i) s ≡ true
      → new ≡ old ++ pieces.Text (bytes_between source i (i + 1)) ∷ []
      → prepend (map Pieces old) (reader source n (build (λ at behind parts. Pieces (pieces.Text
      (bytes_between source at behind)) ∷ parts) (skip s)) i) ≡ Got (map Pieces new) (i + 1)
  token s i old new m e =
      ap (prepend (map Pieces old)) (read_act (forms source) (text_of source) (length source.lexemes.now) n (λ at
      behind parts. Pieces (pieces.Text (bytes_between source at behind)) ∷ parts) (skip s) i (i + 1) [] (read_skip
      (forms source) (text_of source) (length source.lexemes.now) n s i m))
      ∙ ap (λ (whole : List Part). Got whole (i + 1)) (sym (more_pieces old new (pieces.Text (bytes_between source i
      (i + 1))) e))

  pub untoken : (h : ℕ → ℕ → List Part → List Part) (s : List ℕ) (i : ℕ) (old : List Piece)
      → member (terminal_at source i) s ≡ false
      → prepend (map Pieces old) (reader source n (build h (skip s)) i) ≡ Unexpected i
  untoken h s i old m =
      unacted h (skip s) i i old (no_skip (forms source) (text_of source) (length source.lexemes.now) n s i m)

  -- the parenthesis behind a form
  closed_paren : (i : ℕ) → member (terminal_at source i) (just T.ParenEnd) ≡ true
      → reader source n paren_end i ≡ Got (Pieces (pieces.Text (codes ")")) ∷ []) (i + 1)
  closed_paren i m =
      read_act (forms source) (text_of source) (length source.lexemes.now) n (anywhere (said_before (codes ")"))) (skip
      (just T.ParenEnd)) i (i + 1) [] (read_skip (forms source) (text_of source) (length source.lexemes.now) n
      (just T.ParenEnd) i m)

  unclosed_paren : (i : ℕ) → member (terminal_at source i) (just T.ParenEnd) ≡ false
      → reader source n paren_end i ≡ Unexpected i
  unclosed_paren i m =
      fails_act (forms source) (text_of source) (length source.lexemes.now) n (anywhere (said_before (codes ")"))) (skip
      (just T.ParenEnd)) i (ends.Unexpected i) (no_skip (forms source) (text_of source) (length source.lexemes.now) n
      (just T.ParenEnd) i m)

  pub ended : (i : ℕ) (old new : List Piece) → member (terminal_at source i) (just T.ParenEnd) ≡ true
      → new ≡ old ++ pieces.Text (codes ")") ∷ []
      → prepend (map Pieces old) (reader source n paren_end i) ≡ Got (map Pieces new) (i + 1)
  ended i old new m e =
      ap (prepend (map Pieces old)) (closed_paren i m)
      ∙ ap (λ (whole : List Part). Got whole (i + 1)) (sym (more_pieces old new (pieces.Text (codes ")")) e))

  pub unended : (i : ℕ) (old : List Piece) → member (terminal_at source i) (just T.ParenEnd) ≡ false
      → prepend (map Pieces old) (reader source n paren_end i) ≡ Unexpected i
  unended i old m = ap (prepend (map Pieces old)) (unclosed_paren i m)

  -- what a builder makes of a value
  pub built : (h : List Part → List Part) (g : Grammar Part Form) (i j : ℕ) (u : List Part) (old new : List Piece)
      (x : Piece) → reader source n g i ≡ Got u j → h u ≡ Pieces x ∷ [] → new ≡ old ++ x ∷ []
      → prepend (map Pieces old) (reader source n (build (anywhere h) g) i) ≡ Got (map Pieces new) j
  built h g i j u old new x r b e =
      ap (prepend (map Pieces old)) (read_act (forms source) (text_of source) (length source.lexemes.now) n (anywhere h)
      g i j u r ∙ ap (λ (v : List Part). Got v j) b)
      ∙ ap (λ (whole : List Part). Got whole j) (sym (more_pieces old new x e))

  pub unbuilt : (h : ℕ → ℕ → List Part → List Part) (g : Grammar Part Form) (i : ℕ) (old : List Piece) (e : ReadError)
      → Fails e (reader source n g i) → Fails e (prepend (map Pieces old) (reader source n (build h g) i))
  unbuilt h g i old e x =
      fails_prepend (map Pieces old) e (reader source n (build h g) i) (fails_act (forms source) (text_of source)
      (length source.lexemes.now) n h g i e x)

  -- a form in parentheses
  pub unopened : (o : Terminal) (f : Form) (i : ℕ) (old : List Piece) → member (terminal_at source i) (just o) ≡ false
      → prepend (map Pieces old) (reader source n (parens o f) i) ≡ Unexpected i
  unopened o f i old m =
      unacted (anywhere in_parens) (group (just o) f (just T.ParenEnd)) i i old (group_none (forms source)
      (text_of source) (length source.lexemes.now) n (just o) (just T.ParenEnd) f i m)

  pub too_deep : (o : Terminal) (f : Form) (i : ℕ) (old : List Piece) → n ≡ 0
      → member (terminal_at source i) (just o) ≡ true
      → prepend (map Pieces old) (reader source n (parens o f) i) ≡ TooDeep i
  too_deep o f i old z m =
      ap (prepend (map Pieces old)) (fails_act (forms source) (text_of source) (length source.lexemes.now) n
      (anywhere in_parens) (group (just o) f (just T.ParenEnd)) i (ends.TooDeep i) (group_deep (forms source)
      (text_of source) (length source.lexemes.now) n (just o) (just T.ParenEnd) f i z m))

  -- a further feature behind its word
  pub joined_worded : (joint : Joint) (i : ℕ) (old new : List Piece)
      → member (terminal_at source i) (just (word_of joint)) ≡ true → new ≡ old ++ pieces.Text (joint_text joint) ∷ []
      → prepend (map Pieces old) (reader source n (joined source joint) i)
      ≡ prepend (map Pieces new) (reader source n (feature source) (i + 1))
  unfolding and_feature or_feature
  joined_worded joints.And i old new m e = worded (codes " and ") (just T.And) (feature source) i old new m e
  joined_worded joints.Or i old new m e = worded (codes " or ") (just T.Or) (feature source) i old new m e

  -- a further query behind its comma
  pub comma_worded : (i : ℕ) (old new : List Piece) → member (terminal_at source i) (just T.Comma) ≡ true
      → new ≡ old ++ pieces.Text (codes ", ") ∷ []
      → prepend (map Pieces old) (reader source n (comma_query source) i)
      ≡ prepend (map Pieces new) (reader source n (query source) (i + 1))
  unfolding comma_query
  comma_worded i old new m e = worded (codes ", ") (just T.Comma) (query source) i old new m e

  -- a value behind what compares
  pub compared_said : (g : Grammar Part Form) (i : ℕ) (old new : List Piece)
      → member (terminal_at source i) comparisons ≡ true
      → new ≡ old ++ pieces.Text (codes " " ++ bytes_at source i ++ codes " ") ∷ []
      → prepend (map Pieces old) (reader source n (build (to_comparison source) (seq (skip comparisons) g)) i)
      ≡ prepend (map Pieces new) (reader source n g (i + 1))
  unfolding parse
  compared_said g i old new m e =
      said (codes " " ++ bytes_at source i ++ codes " ") (seq (skip comparisons) g) i old new e
      ∙ ap (prepend (map Pieces new)) (behind_skip (forms source) (text_of source) (length source.lexemes.now) n
      comparisons g i m)

  -- the text of all queries
  abbrev row : Grammar Part Form
  row = seq (query source) (many (comma_query source))

  pub whole_text : (i j : ℕ) (list : List Piece) (u : List Part)
      → prepend [] (reader source n row i) ≡ Got (map Pieces list) j
      → to_queries source i j (map Pieces list) ≡ u → reader source n (queries source) i ≡ Got u j
  unfolding queries
  whole_text i j list u e t =
      read_act (forms source) (text_of source) (length source.lexemes.now) n (to_queries source) row i j
      (map Pieces list) (sym (prepend_nothing (reader source n row i)) ∙ e)
      ∙ ap (λ (v : List Part). Got v j) t

  pub whole_stops : (i : ℕ) (e : ReadError) → Fails e (prepend [] (reader source n row i))
      → Fails e (reader source n (queries source) i)
  unfolding queries
  whole_stops i e x =
      fails_act (forms source) (text_of source) (length source.lexemes.now) n (to_queries source) row i e (rw
      prepend_nothing at x)

module _ (source : Source) (n : ℕ) (o : Terminal) (f : Form) (i : ℕ) (old new : List Piece) (l : 1 ≤ n)
    (m : member (terminal_at source i) (just o) ≡ true) (e : new ≡ old ++ pieces.Text (codes "(") ∷ []) where
  abbrev whole : Answer Part
  whole = prepend (map Pieces old) (reader source n (parens o f) i)

  abbrev inner : Answer Part
  inner = prepend (map Pieces new) (reader source (n - 1) (seq (forms source f) paren_end) (i + 1))

  stops_whole : (error : ReadError) → Fails error (reader source (n - 1) (forms source f) (i + 1)) → Fails error whole
  stops_whole error x =
      unbuilt source n (anywhere in_parens) (group (just o) f (just T.ParenEnd)) i old error (group_fails
      (forms source) (text_of source) (length source.lexemes.now) n (just o) (just T.ParenEnd) f i error l m x)

  stops_inner : (error : ReadError) → Fails error (reader source (n - 1) (forms source f) (i + 1)) → Fails error inner
  stops_inner error x =
      stops source (n - 1) (forms source f) paren_end (i + 1) new error (fails_prepend (map Pieces new) error (reader
      source (n - 1) (forms source f) (i + 1)) x)

  closes : (k : ℕ) (u : List Part) (b : Bool) → reader source (n - 1) (forms source f) (i + 1) ≡ Got u k
      → member (terminal_at source k) (just T.ParenEnd) ≡ b → whole ≡ inner
  closes k u true r c =
      ap (prepend (map Pieces old)) (read_act (forms source) (text_of source) (length source.lexemes.now) n
      (anywhere in_parens) (group (just o) f (just T.ParenEnd)) i (k + 1) u (group_got (forms source) (text_of source)
      (length source.lexemes.now) n (just o) (just T.ParenEnd) f i k u l m r c))
      ∙ ap (λ (v : List Part). Got v (k + 1)) (sym (append_assoc (map Pieces old) (Pieces (pieces.Text
      (codes "(")) ∷ []) (u ++ Pieces (pieces.Text (codes ")")) ∷ [])) ∙ ap (λ (v : List Part). v ++ (u ++ Pieces
      (pieces.Text (codes ")")) ∷ [])) (sym (more_pieces old new (pieces.Text (codes "(")) e)))
      ∙ sym (ap (prepend (map Pieces new)) (read_both (forms source) (text_of source) (length source.lexemes.now)
      (n - 1) (forms source f) paren_end (i + 1) k (k + 1) u (Pieces (pieces.Text (codes ")")) ∷ []) r (closed_paren
      source (n - 1) k c)))
  closes k u false r c =
      unacted source n (anywhere in_parens) (group (just o) f (just T.ParenEnd)) i k old (group_unclosed
      (forms source) (text_of source) (length source.lexemes.now) n (just o) (just T.ParenEnd) f i k u l m r c)
      ∙ sym (ap (prepend (map Pieces new)) (fails_seq (forms source) (text_of source) (length source.lexemes.now)
      (n - 1) (forms source f) paren_end (i + 1) k u (ends.Unexpected k) r (unclosed_paren source (n - 1) k c)))

  grouped_by : (x : Answer Part) → reader source (n - 1) (forms source f) (i + 1) ≡ x → whole ≡ inner
  grouped_by (Got u k) r = closes k u (member (terminal_at source k) (just T.ParenEnd)) r refl
  grouped_by (Unexpected k) r = stops_whole (ends.Unexpected k) r ∙ sym (stops_inner (ends.Unexpected k) r)
  grouped_by (TooDeep k) r = stops_whole (ends.TooDeep k) r ∙ sym (stops_inner (ends.TooDeep k) r)

  pub grouped : whole ≡ inner
  grouped = grouped_by (reader source (n - 1) (forms source f) (i + 1)) refl
