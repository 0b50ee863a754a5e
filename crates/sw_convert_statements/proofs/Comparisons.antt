-- What stands in the parentheses of a media feature.
use Rattle.std.proofs.Common.{◌≡◌, ◌<◌, ℕ, Bool, true, false, List, [], ◌∷◌, ◌++◌, length, Some, append-nil, refl, sym, ◌∙◌, ap, subst, append_assoc, arith}
use Rattle.std.specs.Prelude.{◌==◌, bytes_eq, codes}
use Rattle.std.proofs.lemmas.Slice.Eq.{bytes_eq-Decides}
use Rattle.sw_text_scan.specs.Bytes.{sign, byte, is_white}
use Rattle.sw_text_scan.specs.Runs.{run_end, escape_end, begins_name}
use Rattle.sw_text_scan.specs.Words.{is_u}
use Rattle.sw_text_scan.proofs.Bounds.{and_left, and_right, not_true}
use Rattle.sw_text_locality.specs.Names as locality
use Rattle.sw_tree.specs.declared.text.Piece.{Piece}
use Rattle.sw_tree.specs.declared.text.Piece.TheVariants as pieces
use Rattle.sw_tokens.specs.declared.pieces.Before.TheVariants as befores
use Rattle.sw_tokens.specs.declared.pieces.Change.TheVariants as changes
use Rattle.sw_tokens.specs.declared.skips.Inside.TheVariants as insides
use Rattle.sw_tokens.specs.declared.token.TokenKind.{TokenKind}
use Rattle.sw_tokens.specs.declared.token.TokenKind.TheVariants as kinds
use Rattle.sw_tokens.specs.Ends.{opens}
use Rattle.sw_tokens.specs.Pieces.{made, piece, code_piece, word_piece, name_piece, sign_piece, opens_url, number_piece, is_hex_form, quote_piece, loud_piece}
use Rattle.sw_tokens.specs.Tokens.{before_of}
use Rattle.sw_parse_grammar.specs.Grammar.{member}
use Rattle.sw_parse_terminals.specs.Numbers.{number_of}
use Rattle.sw_parse_terminals.specs.declared.terminal.Terminal.{Terminal}
use Rattle.sw_parse_terminals.specs.declared.terminal.Terminal.TheVariants as terminals
use Rattle.sw_parse_lexemes.specs.declared.sort.Sort.{Sort}
use Rattle.sw_parse_lexemes.specs.declared.sort.Sort.TheVariants as sorts
use Rattle.sw_parse_lexemes.specs.declared.state.Mode.TheVariants as modes
use Rattle.sw_parse_lexemes.specs.Classes.{is_comment}
use Rattle.sw_parse_lexemes.specs.Sorts.{sort_of}
use Rattle.sw_parse_table.specs.declared.source.Source.{Source}
use Rattle.sw_parse_table.specs.Sources.{bytes_at}
use Rattle.sw_convert_spelling.specs.Neighbours.{may_stand_behind}
use Rattle.sw_convert_spelling.proofs.MovedRuns.{first_byte}
use Rattle.sw_convert_written.specs.Escapes.{ends_unclosed}
use Rattle.sw_convert_written.specs.Expressions.{expr_text}
use Rattle.sw_convert_passing.specs.Kinds.{is_operator, operator}
use Rattle.sw_convert_passing.specs.Written.{Written, direct, apart}
use Rattle.sw_convert_passing.specs.Values.{Value, Row, separated, linked}
use Rattle.sw_convert_again.specs.Tokens.{Tok, tok, Bytes}
use Rattle.sw_convert_again.specs.Tokens as again
use Rattle.sw_convert_again.specs.Spells.{unlisted}
use Rattle.sw_convert_again.specs.Queries.{comparisons, SpellsComparison, SpellsComparisons, SpellsFeatureInside}
use Rattle.sw_convert_again.specs.Queries as spells
use Rattle.sw_convert_again.proofs.Tokens.{one_byte}
use Rattle.sw_convert_tokens.specs.Joints.{Segment}
use Rattle.sw_convert_tokens.specs.Written.{Follows, AsValue, AsRow, WrittenAs}
use Rattle.sw_convert_tokens.proofs.Joins.{join, as_behind}
use Rattle.sw_convert_tokens.proofs.Signs.{token_segment, token_by}
use Rattle.sw_convert_tokens.proofs.Spaces.{BeginsSpace}
use Rattle.sw_convert_tokens.proofs.Variables.{Begins}
use Rattle.sw_convert_tokens.proofs.Words.{bytes_sit}
use Rattle.sw_convert_heads_passing.specs.Media.{Compared, one_side, equal_sides, Inside, feature_row, feature_compared}
use Rattle.sw_convert_values.specs.Values.{is_led, goes_on}
use Rattle.sw_convert_values.proofs.Starts.{behind_old}
use Rattle.sw_convert_values.proofs.Stops.{before_old}
use Rattle.sw_convert_statements.proofs.StatementStops.{before_comparisons}
use Rattle.sw_convert_statements.specs.Fronts.{ValuesAreKnown}
use Rattle.sw_convert_statements.specs.Media.{comparison_text, is_side, is_compared, are_compared, is_inside}
use Rattle.sw_convert_statements.proofs.Configurations.{row_behind}
use Rattle.sw_convert_statements.proofs.FeatureStarts.{Starts, row_starts, compared_starts}
use Rattle.sw_convert_statements.proofs.MediaPieces.{flat, no_pieces, flat_append, flat_text, flat_value}
use Rattle.sw_convert_statements.proofs.Variables.{colon_segment}

-- ---- comparisons

data Compares : Terminal → Type 0 where
  less_compares : Compares terminals.Less
  less_equal_compares : Compares terminals.LessEqual
  greater_compares : Compares terminals.Greater
  greater_equal_compares : Compares terminals.GreaterEqual
  equals_compares : Compares terminals.Equals

compares_by : (terminal : Terminal) → member (number_of terminal) comparisons ≡ true → Compares terminal
compares_by terminals.Less m = less_compares
compares_by terminals.LessEqual m = less_equal_compares
compares_by terminals.Greater m = greater_compares
compares_by terminals.GreaterEqual m = greater_equal_compares
compares_by terminals.Equals m = equals_compares
compares_by _ m = absurd (cc)

abbrev comparison_sort : Terminal → Sort
comparison_sort terminals.Less = sorts.Less
comparison_sort terminals.LessEqual = sorts.LessEquals
comparison_sort terminals.Greater = sorts.Greater
comparison_sort terminals.GreaterEqual = sorts.GreaterEquals
comparison_sort _ = sorts.Equals

-- a sign between two spaces that keeps its text
said_segment : (kind : TokenKind) (b : ℕ) (bytes : List ℕ) (terminal : Terminal) (text : List ℕ) → text ≡ b ∷ bytes
    → opens kind ≡ false → is_comment (sort_of kind (b ∷ bytes)) ≡ false → is_white b ≡ false → is_u b ≡ false
    → (b == sign "}") ≡ false
    → piece ((b ∷ bytes) ++ []) insides.Sheet befores.White 0 ≡ made kind (length (b ∷ bytes)) changes.Keep
    → ((rest : List ℕ) → may_stand_behind befores.White kind (b ∷ bytes) (sign " " ∷ rest) ≡ true)
    → Segment befores.Other (sign " " ∷ b ∷ bytes) (tok terminal (Bytes 1 text) ∷ [])
    (apart (sort_of kind (b ∷ bytes)) terminal ∷ []) (before_of (Some kind)) BeginsSpace
said_segment kind b bytes terminal text e closed seen black no_u no_brace alone fits =
    token_segment kind (b ∷ bytes) (terminal ∷ []) (Bytes 1 text) befores.Other true BeginsSpace closed seen
    (ap is_white (first_byte b bytes) ∙ black) (some bytes)
    (λ new commented at front after sits. one_byte new at ∙ bytes_sit new commented at front _ after sits ∙ sym e)
    (λ inside after code space.
    token_by kind b bytes after inside befores.White code refl no_u no_brace alone
    (subst (λ (t : List ℕ). may_stand_behind befores.White kind (b ∷ bytes) t ≡ true) (sym space.1) (fits space.0)))
  where
    some : (xs : List ℕ) → 0 < length (b ∷ xs)
    some xs = omega arith

comparison_segment : {terminal : Terminal} → Compares terminal → (text : List ℕ) → text ≡ comparison_text terminal
    → Segment befores.Other (codes " " ++ comparison_text terminal) (tok terminal (Bytes 1 text) ∷ [])
    (apart (comparison_sort terminal) terminal ∷ []) befores.Other BeginsSpace
unfolding code_piece word_piece name_piece sign_piece opens_url number_piece byte begins_name escape_end run_end is_hex_form quote_piece loud_piece locality.ends_unclosed locality.is_unclosed
comparison_segment less_compares text e =
    said_segment kinds.Less (sign "<") [] terminals.Less text e refl refl refl refl refl refl (λ rest. refl)
comparison_segment less_equal_compares text e =
    said_segment kinds.LessEquals (sign "<") (codes "=") terminals.LessEqual text e refl refl refl refl refl refl (λ rest. refl)
comparison_segment greater_compares text e =
    said_segment kinds.Greater (sign ">") [] terminals.Greater text e refl refl refl refl refl refl (λ rest. refl)
comparison_segment greater_equal_compares text e =
    said_segment kinds.GreaterEquals (sign ">") (codes "=") terminals.GreaterEqual text e refl refl refl refl refl refl (λ rest. refl)
comparison_segment equals_compares text e =
    said_segment kinds.Equals (sign "=") [] terminals.Equals text e refl refl refl refl refl refl (λ rest. refl)

-- ---- values that are compared

-- the last of them, and how others before it stand
record AreSides (text : List ℕ) (tokens : List Tok) : Type 0 where
  front : List Written
  spaced : Bool
  signed : Bool
  value : List Written
  told : Value modes.Expression spaced signed value
  close : {s : Bool} {v : List Written} → Value modes.Expression spaced s v → Compared false (front ++ v)
  last : List ℕ
  closed : ends_unclosed last ≡ false
  segment : Segment befores.Other text tokens (front ++ value) befores.Other (Follows last)

same_sides : {xs ys : List ℕ} {ks ls : List Tok} → xs ≡ ys → ks ≡ ls → AreSides xs ks → AreSides ys ls
same_sides {xs} {ys} {ks} {ls} e f it =
    subst (λ (t : List Tok). AreSides ys t) f (subst (λ (t : List ℕ). AreSides t ks) e it)

first_side : {signed : Bool} {value : List ℕ} {tokens : List Tok} → WrittenAs (AsValue signed) value tokens
    → ends_unclosed value ≡ false → AreSides value tokens
first_side {signed} {value} it closed =
    let one = it befores.Other false refl in record {
      front = [];
      spaced = false;
      signed = signed;
      value = one.passed;
      told = one.told modes.Expression refl;
      close = λ v. one_side v;
      last = value;
      closed = closed;
      segment = one.segment;
    }

module _ {text : List ℕ} {ks : List Tok} (a : AreSides text ks) {next : Bool} {value : List ℕ} {os : List Tok}
    (it : WrittenAs (AsValue next) value os) (closed : ends_unclosed value ≡ false) {word : List ℕ} {token : Tok} where
  two_segment : {sort : Sort} {terminal : Terminal}
      → Segment befores.Other (codes " " ++ word) (token ∷ []) (apart sort terminal ∷ []) befores.Other BeginsSpace
      → Segment befores.Other (text ++ (codes " " ++ (word ++ (codes " " ++ value)))) (ks ++ token ∷ os)
      ((a.front ++ a.value) ++ apart sort terminal ∷ (it befores.Other true refl).passed) befores.Other (Follows value)
  two_segment op =
      let two = it befores.Other true refl in
      join a.segment (join op two.segment (λ after ok. (value ++ after, refl)))
      (λ after ok. record { stop = refl; closed = a.closed })

  linked_side : (sort : Sort) → is_operator sort ≡ true
      → Segment befores.Other (codes " " ++ word) (token ∷ []) (apart sort (operator sort) ∷ []) befores.Other BeginsSpace
      → AreSides (text ++ (codes " " ++ (word ++ (codes " " ++ value)))) (ks ++ token ∷ os)
  linked_side sort o op =
      let two = it befores.Other true refl in
      let sign_of = apart sort (operator sort) in record {
        front = a.front;
        spaced = a.spaced;
        signed = a.signed;
        value = a.value ++ sign_of ∷ two.passed;
        told = linked a.told sort o (two.told modes.Expression refl);
        close = a.close;
        last = value;
        closed = closed;
        segment = subst
            (λ (l : List Written). Segment befores.Other (text ++ (codes " " ++ (word ++ (codes " " ++ value)))) (ks ++ token ∷ os) l befores.Other (Follows value))
            (append_assoc a.front a.value (sign_of ∷ two.passed)) (two_segment op);
      }

  equal_side : Segment befores.Other (codes " " ++ word) (token ∷ []) (apart sorts.Equals terminals.Equals ∷ []) befores.Other
      BeginsSpace
      → AreSides (text ++ (codes " " ++ (word ++ (codes " " ++ value)))) (ks ++ token ∷ os)
  equal_side op =
      let two = it befores.Other true refl in
      let before = a.front ++ a.value in
      let sign_of = apart sorts.Equals terminals.Equals in record {
        front = before ++ sign_of ∷ [];
        spaced = true;
        signed = next;
        value = two.passed;
        told = two.told modes.Expression refl;
        close = λ {s} {v} right.
            subst (λ (l : List Written). Compared false l) (sym (append_assoc before (sign_of ∷ []) v))
            (equal_sides (a.close a.told) right);
        last = value;
        closed = closed;
        segment = subst
            (λ (l : List Written). Segment befores.Other (text ++ (codes " " ++ (word ++ (codes " " ++ value)))) (ks ++ token ∷ os) l befores.Other (Follows value))
            (sym (append_assoc before (sign_of ∷ []) two.passed)) (two_segment op);
      }

further_side : {text : List ℕ} {ks : List Tok} → AreSides text ks → {terminal : Terminal} → Compares terminal
    → (said : List ℕ) → said ≡ comparison_text terminal → {next : Bool} {value : List ℕ} {os : List Tok}
    → WrittenAs (AsValue next) value os → ends_unclosed value ≡ false
    → AreSides (text ++ (codes " " ++ (comparison_text terminal ++ (codes " " ++ value)))) (ks ++ tok terminal (Bytes 1 said) ∷ os)
further_side a less_compares said e it closed = linked_side a it closed sorts.Less refl (comparison_segment less_compares said e)
further_side a less_equal_compares said e it closed =
    linked_side a it closed sorts.LessEquals refl (comparison_segment less_equal_compares said e)
further_side a greater_compares said e it closed =
    linked_side a it closed sorts.Greater refl (comparison_segment greater_compares said e)
further_side a greater_equal_compares said e it closed =
    linked_side a it closed sorts.GreaterEquals refl (comparison_segment greater_equal_compares said e)
further_side a equals_compares said e it closed = equal_side a it closed (comparison_segment equals_compares said e)

module _ (source : Source) (values : ValuesAreKnown source) where
  comparison_written : {i j : ℕ} {list : List Piece} {tokens ks : List Tok} {text : List ℕ} → AreSides text ks
      → goes_on source j ≡ false
      → (one : SpellsComparison source i j list tokens) → is_compared source one ≡ true
      → AreSides (text ++ flat list) (ks ++ tokens)
  comparison_written {text = text} a ended (spells.compared {i} old (spells.side {value = value} spelt)) t =
      let said = bytes_at source i in
      let word = comparison_text old.lexeme.terminal in
      let same = (bytes_eq-Decides said word).0 (and_left (bytes_eq said word) _ t) in
      let rest = and_right (bytes_eq said word) _ t in
      let (signed, it) = values.plains _ _ _ _ (behind_old old refl) ended (unlisted (not_true _ (and_left _ _ rest)) spelt) in
      let shown = expr_text value in
      let whole : flat (pieces.Text (codes " " ++ (said ++ codes " ")) ∷ pieces.Value value ∷ [])
      ≡ codes " " ++ (word ++ (codes " " ++ shown)) =
      flat_text (codes " " ++ (said ++ codes " ")) (pieces.Value value ∷ [])
      ∙ ap (λ (x : List ℕ). (codes " " ++ (said ++ codes " ")) ++ x) (flat_value value)
      ∙ ap (λ (x : List ℕ). codes " " ++ x) (append_assoc said (codes " ") shown)
      ∙ ap (λ (x : List ℕ). codes " " ++ (x ++ (codes " " ++ shown))) same in
      same_sides (ap (λ (x : List ℕ). text ++ x) (sym whole)) refl
      (further_side a (compares_by old.lexeme.terminal old.kind) said same it (not_true _ (and_right _ _ rest)))

  comparisons_written : {i j : ℕ} {list : List Piece} {tokens ks : List Tok} {text : List ℕ} → AreSides text ks
      → goes_on source j ≡ false
      → (others : SpellsComparisons source i j list tokens) → are_compared source others ≡ true
      → AreSides (text ++ flat list) (ks ++ tokens)
  comparisons_written {ks = ks} {text = text} a ended spells.compared_end t =
      same_sides (sym (append-nil text) ∙ ap (λ (x : List ℕ). text ++ x) (sym no_pieces)) (sym (append-nil ks)) a
  comparisons_written a ended (spells.compared_last one) t = comparison_written a ended one t
  comparisons_written {ks = ks} {text = text} a ended
      (spells.compared_more {list = list} {others = others} {tokens = ls} {more = ms} one more) t =
      same_sides
      (append_assoc text (flat list) (flat others) ∙ ap (λ (x : List ℕ). text ++ x) (sym (flat_append list others)))
      (append_assoc ks ls ms)
      (comparisons_written (comparison_written a (before_comparisons more ended) one (and_left (is_compared source one) _ t)) ended more
      (and_right (is_compared source one) _ t))

-- ---- all of it

-- in parentheses
pub record IsInside (text : List ℕ) (tokens : List Tok) : Type 0 where
  pub passed : List Written
  pub are : Inside passed
  pub starts : Starts passed
  pub segment : Segment befores.Other text tokens passed befores.Other (Begins (sign ")"))

paren_follows : (value after : List ℕ) → Begins (sign ")") after → Follows value after
paren_follows value after b = subst (Follows value) (sym b.1) (record { stop = refl; closed = refl })

-- a value, `:` and another
given_inside : {first second : List ℕ} {ks os : List Tok} → WrittenAs AsRow first ks → WrittenAs AsRow second os
    → IsInside (first ++ (codes ": " ++ second)) (ks ++ again.sign terminals.Colon ∷ os)
given_inside {first} {second} a b =
    let one = a befores.Other false refl in
    let two = b befores.Other true refl in
    let left = one.told modes.Expression refl in
    let right = two.told modes.Expression refl in
    let colon = direct sorts.Colon terminals.Colon in
    let row = subst (λ (l : List Written). Row modes.Expression false right.0 l) (append_assoc one.passed (colon ∷ []) two.passed)
    (row_behind (separated left.1 sorts.Colon refl) right.1) in record {
      passed = one.passed ++ colon ∷ two.passed;
      are = feature_row row;
      starts = row_starts row;
      segment = as_behind (λ after b. paren_follows second after b)
          (join one.segment (join colon_segment two.segment (λ after f. tt))
          (λ after f. record { stop = refl; closed = refl }));
    }

compared_inside : {text : List ℕ} {tokens : List Tok} → AreSides text tokens → IsInside text tokens
compared_inside a =
    let all = a.close a.told in record {
      passed = a.front ++ a.value;
      are = feature_compared all;
      starts = compared_starts all;
      segment = as_behind (λ after b. paren_follows a.last after b) a.segment;
    }

same_inside : {xs ys : List ℕ} {ks : List Tok} → xs ≡ ys → IsInside xs ks → IsInside ys ks
same_inside {xs} {ys} {ks} e it = subst (λ (t : List ℕ). IsInside t ks) e it

pub inside_written : (source : Source) → ValuesAreKnown source → {i j : ℕ} {list : List Piece} {tokens : List Tok}
    → is_led source i ≡ false → goes_on source j ≡ false → (inside : SpellsFeatureInside source i j list tokens) → is_inside source inside ≡ true → IsInside (flat list) tokens
inside_written source values led ended
    (spells.inside_parens (spells.side {value = value} spelt) (spells.given_side colon (spells.side {value = other} more)))
    t =
    same_inside
    (sym
    (flat_append (pieces.Value value ∷ []) (pieces.Text (codes ": ") ∷ pieces.Value other ∷ [])
    ∙ ap (λ (x : List ℕ). x ++ flat (pieces.Text (codes ": ") ∷ pieces.Value other ∷ [])) (flat_value value)
    ∙ ap (λ (x : List ℕ). expr_text value ++ x)
    (flat_text (codes ": ") (pieces.Value other ∷ []) ∙ ap (λ (x : List ℕ). codes ": " ++ x) (flat_value other))))
    (given_inside (values.rows _ _ _ _ led (before_old colon refl) spelt)
    (values.rows _ _ _ _ (behind_old colon refl) ended more))
inside_written source values led ended
    (spells.inside_parens (spells.side {value = value} spelt) (spells.compared_sides {list = others} sides)) t =
    let side = is_side (spells.side spelt) in
    let plain = and_left side _ t in
    let (signed, it) = values.plains _ _ _ _ led (before_comparisons sides ended) (unlisted (not_true _ (and_left _ _ plain)) spelt) in
    same_inside
    (sym
    (flat_append (pieces.Value value ∷ []) others ∙ ap (λ (x : List ℕ). x ++ flat others) (flat_value value)))
    (compared_inside
    (comparisons_written source values (first_side it (not_true _ (and_right _ _ plain))) ended sides (and_right side _ t)))
