-- Values in which no word is `to` or `through` may be the bounds of `@for`.
use Rattle.std.proofs.Common.{◌≡◌, ◌<◌, ℕ, zero, suc, ◌-◌, Bool, true, false, not, ◌&&◌, ◌||◌, if◌then◌else◌, List, [], ◌∷◌, ◌++◌, length, take, Some, append-nil, refl, sym, ◌∙◌, ap, arith}
use Rattle.std.specs.Prelude.{codes}
use Rattle.std.proofs.Math.Seq.{take-append_seam}
use Rattle.sw_text_scan.specs.declared.runs.Class.TheVariants as classes
use Rattle.sw_text_scan.specs.Bytes.{sign, byte}
use Rattle.sw_text_scan.specs.Runs.{run_from, run_end}
use Rattle.sw_text_scan.proofs.Bounds.{and_left, and_right, not_true}
use Rattle.sw_tokens.specs.declared.pieces.Before.{Before}
use Rattle.sw_tokens.specs.declared.pieces.Change.{Change}
use Rattle.sw_tokens.specs.declared.skips.Inside.{Inside}
use Rattle.sw_tokens.specs.declared.token.TokenKind.{TokenKind}
use Rattle.sw_tokens.specs.declared.token.TokenKind.TheVariants as kinds
use Rattle.sw_tokens.specs.Pieces.{made, piece}
use Rattle.sw_tokens.specs.Tokens.{before_of}
use Rattle.sw_parse_lexemes.specs.declared.sort.Sort.{Sort}
use Rattle.sw_parse_lexemes.specs.declared.sort.Sort.TheVariants as sorts
use Rattle.sw_parse_lexemes.specs.declared.state.Mode.TheVariants as modes
use Rattle.sw_parse_lexemes.specs.Classes.{is_name, is_reserved}
use Rattle.sw_parse_lexemes.specs.Sorts.{sort_of}
use Rattle.sw_parse_lexemes.specs.Words.{word_sort, is_prefixed_calc}
use Rattle.sw_parse_terminals.specs.declared.terminal.Terminal.TheVariants as terminals
use Rattle.sw_convert_spelling.specs.Spelt.{behind_gap, innermost, opened}
use Rattle.sw_convert_spelling.proofs.Choices.{right_no}
use Rattle.sw_convert_spelling.proofs.Choices as names
use Rattle.sw_convert_passing.specs.Kinds.{is_bound}
use Rattle.sw_convert_passing.specs.Written.{Written, direct}
use Rattle.sw_convert_passing.specs.Values.{Value, Word, Row, begins_insert}
use Rattle.sw_convert_passing.specs.Values as values
use Rattle.sw_convert_again.specs.Tokens.{Tok}
use Rattle.sw_convert_tokens.specs.Joints.{Joint, Token, Apart, Segment, text, toks, writtens, spelt_of, Stand}
use Rattle.sw_convert_tokens.specs.Written.{Follows}
use Rattle.sw_convert_tokens.proofs.Words.{kind_of_name}
use Rattle.sw_convert_statements.specs.Fronts.{is_word_token, wordless, begins_bound, has_bound, is_unbounded}
use Rattle.sw_convert_statements.proofs.WordRuns.{word_run}

-- ---- tokens of which no word ends a bound

pub is_end : Written → Bool
is_end one = is_word_token one.may_be && is_bound one.sort

pub free : List Written → Bool
free [] = true
free (one ∷ rest) = not (is_end one) && free rest

both : (a b : Bool) → a ≡ true → b ≡ true → (a && b) ≡ true
both true b e g = g
both false b e g = absurd (cc)

free_left : (left right : List Written) → free (left ++ right) ≡ true → free left ≡ true
unfolding free
free_left [] right f = refl
free_left (one ∷ left) right f =
    both (not (is_end one)) (free left) (and_left (not (is_end one)) _ f)
    (free_left left right (and_right (not (is_end one)) _ f))

free_right : (left right : List Written) → free (left ++ right) ≡ true → free right ≡ true
unfolding free
free_right [] right f = f
free_right (one ∷ left) right f = free_right left right (and_right (not (is_end one)) _ f)

free_behind : (one : Written) (rest : List Written) → free (one ∷ rest) ≡ true → free rest ≡ true
unfolding free
free_behind one rest f = and_right (not (is_end one)) _ f

-- ---- told by the tokens, in which no word stands

no_word : (word bound : Bool) → not word ≡ true → not (word && bound) ≡ true
no_word true bound e = absurd (cc)
no_word false bound e = refl

wordless_free : (joints : List Joint) → wordless (toks joints) ≡ true → free (writtens joints) ≡ true
unfolding free is_end
wordless_free [] w = refl
wordless_free (Token seen ∷ joints) w =
    both _ (free (writtens joints))
    (no_word (is_word_token seen.may_be) (is_bound (sort_of seen.kind seen.bytes))
    (and_left (not (is_word_token seen.may_be)) _ w))
    (wordless_free joints (and_right (not (is_word_token seen.may_be)) _ w))
wordless_free (Apart ∷ joints) w = wordless_free joints w

-- ---- told by the text, in which no such word begins

no_bound_behind : (front rest : List ℕ) → has_bound (front ++ rest) ≡ false → has_bound rest ≡ false
no_bound_behind [] rest e = e
no_bound_behind (b ∷ front) rest e = no_bound_behind front rest (second (begins_bound (b ∷ (front ++ rest))) _ e)
  where
    second : (a c : Bool) → (a || c) ≡ false → c ≡ false
    second true c f = absurd (cc)
    second false c f = f

-- none begins with a space
space_run : (n : ℕ) (text : List ℕ) → run_from classes.Word (sign " " ∷ text) n 0 ≡ 0
unfolding byte
space_run zero text = refl
space_run (suc n) text = refl

spaced_bound : (text : List ℕ) → has_bound text ≡ false → has_bound (codes " " ++ text) ≡ false
unfolding run_end
spaced_bound text e =
    ap (λ (n : ℕ). is_bound (word_sort (take n (sign " " ∷ text))) || has_bound text)
    (space_run (length (sign " " ∷ text) - 0) text) ∙ e

-- only a word may end a bound
bound_name : (sort : Sort) → is_bound sort ≡ true → is_name sort ≡ true
bound_name sorts.Through e = refl
bound_name sorts.To e = refl
bound_name _ e = absurd (cc)

bound_kind : (kind : TokenKind) (text : List ℕ) → is_bound (sort_of kind text) ≡ true → kind ≡ kinds.Word
bound_kind kind text e = go kind (kind_of_name kind text (bound_name (sort_of kind text) e)) e
  where
    special : (t : Bool) → is_bound (if t then sorts.Special else sorts.Name) ≡ true → ⊥
    special true f = cc
    special false f = cc

    go : (k : TokenKind) → names.is_name k ≡ true → is_bound (sort_of k text) ≡ true → k ≡ kinds.Word
    go kinds.Word n f = refl
    go kinds.Name n f = absurd (special (is_prefixed_calc text) f)
    go kinds.DashedName n f = absurd (cc)
    go _ n f = absurd (cc)

-- a token that ends a bound begins the text with such a word
bound_there : (kind : TokenKind) (bytes rest : List ℕ) (inside : Inside) (before : Before) (change : Change)
    → 0 < length bytes → piece (bytes ++ rest) inside before 0 ≡ made kind (length bytes) change
    → is_bound (sort_of kind bytes) ≡ true → has_bound (bytes ++ rest) ≡ true
bound_there kind bytes rest inside before change some token bound =
    let word = bound_kind kind bytes bound in
    let run = word_run (bytes ++ rest) inside before (length bytes) change
    (token ∙ ap (λ (k : TokenKind). made k (length bytes) change) word) in
    let whole : take (run_end classes.Word (bytes ++ rest) 0) (bytes ++ rest) ≡ bytes =
    ap (λ (n : ℕ). take n (bytes ++ rest)) (sym run) ∙ take-append_seam bytes rest in
    there bytes some
    (ap (λ (t : List ℕ). is_bound (word_sort t)) whole ∙ ap (λ (k : TokenKind). is_bound (sort_of k bytes)) (sym word)
    ∙ bound)
  where
    first : (a c : Bool) → a ≡ true → (a || c) ≡ true
    first true c f = refl
    first false c f = absurd (cc)

    there : (xs : List ℕ) → 0 < length xs → begins_bound (xs ++ rest) ≡ true → has_bound (xs ++ rest) ≡ true
    there [] s f = absurd (omega (arith, s))
    there (x ∷ xs) s f = first (begins_bound (x ∷ (xs ++ rest))) (has_bound (xs ++ rest)) f

boundless_free : (joints : List Joint) (stack end : List Inside) (before : Before) → Stand stack before joints end []
    → has_bound (text joints) ≡ false → free (writtens joints) ≡ true
unfolding free is_end
boundless_free [] stack end before stand e = refl
boundless_free (Token seen ∷ joints) stack end before (gap, some, told, opening, token, rest) e =
    let behind = no_bound_behind seen.gap (seen.bytes ++ text joints) e in
    both _ (free (writtens joints)) (ap not (right_no (is_word_token seen.may_be) _ (here behind (is_bound (sort_of seen.kind seen.bytes)) refl)))
    (boundless_free joints (opened stack seen.change) end (before_of (Some seen.kind)) rest
    (no_bound_behind seen.bytes (text joints) behind))
  where
    here : has_bound (seen.bytes ++ text joints) ≡ false → (t : Bool) → is_bound (sort_of seen.kind seen.bytes) ≡ t
        → is_bound (sort_of seen.kind seen.bytes) ≡ false
    here none true b =
        absurd
        (let wrong : true ≡ false =
        sym
        (bound_there seen.kind seen.bytes (text joints) (innermost stack) (behind_gap before seen.gap) seen.change some
        (ap (λ (t : List ℕ). piece (seen.bytes ++ t) (innermost stack) (behind_gap before seen.gap) 0)
        (sym (append-nil (text joints))) ∙ token) b) ∙ none in cc)
    here none false b = b
boundless_free (Apart ∷ joints) stack end before (gap, some, told, opening, token, rest) e =
    boundless_free joints stack end (before_of (Some kinds.Comment)) rest
    (no_bound_behind (spelt_of Apart).bytes (text joints) e)

pub segment_free : {before end : Before} {value : List ℕ} {tokens : List Tok} {passed : List Written}
    → Segment before (codes " " ++ value) tokens passed end (Follows value) → is_unbounded value tokens ≡ true
    → free passed ≡ true
segment_free {value = value} {tokens = tokens} {passed = passed} a w = go (wordless tokens) refl w
  where
    go : (t : Bool) → wordless tokens ≡ t → (t || not (has_bound value)) ≡ true → free passed ≡ true
    go true e f = ap free (sym a.written) ∙ wordless_free a.joints (ap wordless a.seen ∙ e)
    go false e f =
        ap free (sym a.written)
        ∙ boundless_free a.joints [] [] _ (a.stand [] [] refl (record { stop = refl; closed = refl }))
        (ap has_bound a.spelling ∙ spaced_bound value (not_true (has_bound value) f))

-- ---- values in both modes

-- a word that is one elsewhere and ends no bound is one there
bound_word : (inserts reserved bound rest : Bool) → (inserts || (not reserved && (true && rest))) ≡ true
    → not bound ≡ true → (inserts || (not reserved && (not bound && rest))) ≡ true
bound_word inserts reserved true rest e f = absurd (cc)
bound_word inserts reserved false rest e f = e

reword : {spaced owned called : Bool} {tokens : List Written} → Word modes.Expression spaced owned called tokens
    → free tokens ≡ true → Word modes.Bounds spaced owned called tokens
unfolding free is_end
reword (values.named {parts = parts} sort n test more) f =
    values.named sort n
    (bound_word (begins_insert parts) (is_reserved sort) (is_bound sort) _ test (and_left (not (is_bound sort)) _ f)) more
reword (values.begun inside parts) f = values.begun inside parts
reword (values.begun_minus inside parts) f = values.begun_minus inside parts

-- such a value may be a bound
rebound : {spaced signed : Bool} {tokens : List Written} → Value modes.Expression spaced signed tokens → free tokens ≡ true
    → Value modes.Bounds spaced signed tokens
rebound (values.number sort n) f = values.number sort n
rebound (values.negative sort n) f = values.negative sort n
rebound (values.positive sort n) f = values.positive sort n
rebound (values.quoted sort q) f = values.quoted sort q
rebound (values.template pieces) f = values.template pieces
rebound (values.hash sort h) f = values.hash sort h
rebound (values.constant sort c) f = values.constant sort c
rebound (values.lone_value sort l) f = values.lone_value sort l
rebound (values.url_template pieces) f = values.url_template pieces
rebound (values.variable name n) f = values.variable name n
rebound (values.owned_variable owner name o n) f = values.owned_variable owner name o n
rebound (values.owned_call {name = name} {call = call} owner o one called) f =
    values.owned_call owner o
    (reword one (free_left name call (free_behind _ (name ++ call) (free_behind _ (direct sorts.Dot terminals.OwnerDot ∷ (name ++ call)) f))))
    called
rebound (values.word one) f = values.word (reword one f)
rebound (values.call {name = name} {call = call} one called) f = values.call (reword one (free_left name call f)) called
rebound values.important f = values.important
rebound (values.in_parens inside) f = values.in_parens inside
rebound (values.in_brackets inside) f = values.in_brackets inside
rebound (values.negated {value = value} one) f = values.negated (rebound one (free_behind _ value f))
rebound (values.prefixed {value = value} sort p one) f = values.prefixed sort p (rebound one (free_behind _ value f))
rebound (values.linked {left = left} {right = right} one sort o two) f =
    values.linked (rebound one (free_left left _ f)) sort o (rebound two (free_behind _ right (free_right left _ f)))
rebound (values.divided {left = left} {right = right} one two) f =
    values.divided (rebound one (free_left left _ f)) (rebound two (free_behind _ right (free_right left _ f)))
rebound (values.beside {left = left} {right = right} one two) f =
    values.beside (rebound one (free_left left right f)) (rebound two (free_right left right f))
rebound (values.special blank text) f = values.special blank text
rebound (values.seamed {value = value} one) f = values.seamed (rebound one (free_left value _ f))

pub rerow : {spaced ended : Bool} {tokens : List Written} → Row modes.Expression spaced ended tokens → free tokens ≡ true
    → Row modes.Bounds spaced ended tokens
rerow (values.first one) f = values.first (rebound one f)
rerow (values.separated {row = row} more sort s) f = values.separated (rerow more (free_left row _ f)) sort s
rerow (values.further {row = row} {value = value} more one) f =
    values.further (rerow more (free_left row value f)) (rebound one (free_right row value f))
