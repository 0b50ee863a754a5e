-- A walk over tokens as the pass has them: how many `#{}` are open, and the brackets outside these. What is closed again
-- stays as it was.
use Rattle.std.proofs.Common.{◌≡◌, ℕ, zero, suc, ◌-◌, Bool, true, false, not, ◌&&◌, ◌||◌, if◌then◌else◌, List, [], ◌∷◌, ◌++◌, length, take, Option, Some, None, refl, sym, ◌∙◌, ap, arith, append_assoc, length-append}
use Rattle.std.specs.Prelude.{slice_get}
use Rattle.std.specs.List.{list_all}
use Rattle.std.proofs.Math.Seq.{get_or-append_seam, take-append_seam}
use Rattle.std.proofs.lemmas.Option.{slice_get-get_or}
use Rattle.sw_text_scan.proofs.Bounds.{if_true}
use Rattle.sw_tokens.specs.declared.token.TokenKind.TheVariants as kinds
use Rattle.sw_parse_terminals.specs.declared.terminal.Terminal.{Terminal}
use Rattle.sw_parse_terminals.specs.declared.terminal.Terminal.TheVariants as terminals
use Rattle.sw_parse_lexemes.specs.declared.sort.Sort.{Sort}
use Rattle.sw_parse_lexemes.specs.declared.sort.Sort.TheVariants as sorts
use Rattle.sw_parse_layout.specs.declared.state.Bracket.{Bracket}
use Rattle.sw_parse_layout.specs.declared.state.Bracket.TheVariants as brackets
use Rattle.sw_parse_layout.specs.Pieces.{is_paren, is_square, popped_if, bracketed}
use Rattle.sw_convert_spelling.proofs.Choices.{both}
use Rattle.sw_convert_passing.specs.Written.{Written, written, direct}
use Rattle.sw_convert_passing.specs.Values.{Settles, settled_end, settled_same, settled_dollar, settled_named, seam, dollar, enclosed, inserted}
use Rattle.sw_convert_laid.specs.Held.{has_none}
use Rattle.sw_convert_heads_laid.specs.Marks.{Mark, Plain, OpensInsert, ClosesInsert, OpensParen, ClosesParen, OpensSquare, ClosesSquare, Brace, Noted, sort_mark, is_noted}

-- ---- the walk

pub record At : Type 0 where
  pub inserts : ℕ
  pub brackets : List Bracket

abbrev pub at : ℕ → List Bracket → At
at n bs = record { inserts = n; brackets = bs }

-- a brace outside brackets stands in a custom property alone
abbrev pub step : Bool → ℕ → List Bracket → Mark → Option At
step custom zero bs Plain = Some (at 0 bs)
step custom zero bs OpensInsert = Some (at 1 bs)
step custom zero bs ClosesInsert = Some (at 0 bs)
step custom zero bs OpensParen = Some (at 0 (bracketed bs (Some kinds.OpenParen)))
step custom zero bs ClosesParen = Some (at 0 (bracketed bs (Some kinds.CloseParen)))
step custom zero bs OpensSquare = Some (at 0 (bracketed bs (Some kinds.OpenBracket)))
step custom zero bs ClosesSquare = Some (at 0 (bracketed bs (Some kinds.CloseBracket)))
step custom zero bs Brace = if not custom && has_none bs then None else Some (at 0 bs)
step custom zero bs Noted = Some (at 0 bs)
step custom (suc n) bs Plain = Some (at (suc n) bs)
step custom (suc n) bs OpensInsert = Some (at (suc (suc n)) bs)
step custom (suc n) bs ClosesInsert = Some (at n bs)
step custom (suc n) bs OpensParen = Some (at (suc n) bs)
step custom (suc n) bs ClosesParen = Some (at (suc n) bs)
step custom (suc n) bs OpensSquare = Some (at (suc n) bs)
step custom (suc n) bs ClosesSquare = Some (at (suc n) bs)
step custom (suc n) bs Brace = Some (at (suc n) bs)
step custom (suc n) bs Noted = Some (at (suc n) bs)

abbrev pub walk : Bool → ℕ → List Bracket → List Written → Option At
walk custom n bs [] = Some (at n bs)
walk custom n bs (one ∷ rest) =
    elim (step custom n bs (sort_mark one.sort)) as (λ _. Option At) [
      | None ↦ None
      | Some next ↦ walk custom next.inserts next.brackets rest
    ]

-- one token further
pub further : (custom : Bool) (n : ℕ) (bs : List Bracket) (one : Written) (rest : List Written) (next : At)
    → step custom n bs (sort_mark one.sort) ≡ Some next
    → walk custom n bs (one ∷ rest) ≡ walk custom next.inserts next.brackets rest
further custom n bs one rest next e =
    ap (λ (x : Option At). elim x as (λ _. Option At) [
      | None ↦ None
      | Some next ↦ walk custom next.inserts next.brackets rest
    ]) e

-- a comment is none that the grammar sees
abbrev pub is_quiet : Written → Bool
is_quiet one = not (is_noted (sort_mark one.sort)) || has_none one.may_be

-- ---- what the walk comes back from

-- what is asked of brackets outside `#{}`
abbrev pub Where : (List Bracket → Type 0) → ℕ → List Bracket → Type 0
Where may zero bs = may bs
Where may (suc n) bs = Unit {0}

pub record Level (custom : Bool) (may : List Bracket → Type 0) (tokens : List Written) : Type 0 where
  pub goes : (n : ℕ) (bs : List Bracket) → Where may n bs → (rest : List Written)
      → walk custom n bs (tokens ++ rest) ≡ walk custom n bs rest
  pub quiet : (rest : List Written) → list_all is_quiet rest ≡ true → list_all is_quiet (tokens ++ rest) ≡ true

-- whatever is open
abbrev pub Anywhere : List Bracket → Type 0
Anywhere bs = Unit {0}

abbrev pub Free : Bool → List Written → Type 0
Free custom tokens = Level custom Anywhere tokens

-- a token that is none of a kind is plain
pub plain_by : (test : Sort → Bool) → test sorts.OpenInsert ≡ false → test sorts.CloseInsert ≡ false
    → test sorts.OpenParen ≡ false → test sorts.CloseParen ≡ false → test sorts.OpenBracket ≡ false
    → test sorts.CloseBracket ≡ false → test sorts.OpenBrace ≡ false → test sorts.CloseBrace ≡ false
    → test sorts.Comment ≡ false → test sorts.CommentTemplate ≡ false → (sort : Sort) → test sort ≡ true
    → sort_mark sort ≡ Plain
plain_by test a b c d e f g h i j sorts.OpenInsert t = absurd (cc)
plain_by test a b c d e f g h i j sorts.CloseInsert t = absurd (cc)
plain_by test a b c d e f g h i j sorts.OpenParen t = absurd (cc)
plain_by test a b c d e f g h i j sorts.CloseParen t = absurd (cc)
plain_by test a b c d e f g h i j sorts.OpenBracket t = absurd (cc)
plain_by test a b c d e f g h i j sorts.CloseBracket t = absurd (cc)
plain_by test a b c d e f g h i j sorts.OpenBrace t = absurd (cc)
plain_by test a b c d e f g h i j sorts.CloseBrace t = absurd (cc)
plain_by test a b c d e f g h i j sorts.Comment t = absurd (cc)
plain_by test a b c d e f g h i j sorts.CommentTemplate t = absurd (cc)
plain_by test a b c d e f g h i j _ t = refl

plain_step : (custom : Bool) (n : ℕ) (bs : List Bracket) → step custom n bs Plain ≡ Some (at n bs)
plain_step custom zero bs = refl
plain_step custom (suc n) bs = refl

noted_step : (custom : Bool) (n : ℕ) (bs : List Bracket) → step custom n bs Noted ≡ Some (at n bs)
noted_step custom zero bs = refl
noted_step custom (suc n) bs = refl

-- the last bracket is told, and closed
last_of : (bs : List Bracket) (b : Bracket) → length (bs ++ b ∷ []) - 1 ≡ length bs
last_of bs b = let e = length-append bs (b ∷ []) in omega (arith, e)

pub last_is : (bs : List Bracket) (b : Bracket) → slice_get (bs ++ b ∷ []) (length (bs ++ b ∷ []) - 1) ≡ Some b
last_is bs b =
    ap (slice_get (bs ++ b ∷ [])) (last_of bs b)
    ∙ slice_get-get_or (bs ++ b ∷ []) (length bs) b (let e = length-append bs (b ∷ []) in omega (arith, e))
    ∙ ap Some (get_or-append_seam bs b [] b)

popped : (bs : List Bracket) (b : Bracket) (t : Bool) → t ≡ true → popped_if t (bs ++ b ∷ []) ≡ bs
popped bs b t e =
    if_true t _ _ e ∙ ap (λ (n : ℕ). take n (bs ++ b ∷ [])) (last_of bs b) ∙ take-append_seam bs (b ∷ [])

pub some_brackets : (bs : List Bracket) (b : Bracket) → has_none (bs ++ b ∷ []) ≡ false
some_brackets [] b = refl
some_brackets (c ∷ bs) b = refl

quiet_of : (one : Written) → sort_mark one.sort ≡ Plain → is_quiet one ≡ true
quiet_of one e = ap (λ (x : Mark). not (is_noted x) || has_none one.may_be) e

module _ (custom : Bool) where
  pub nothing : {may : List Bracket → Type 0} → Level custom may []
  nothing = record { goes = λ n bs w rest. refl; quiet = λ rest q. q }

  -- what may stand anywhere
  pub freely : {may : List Bracket → Type 0} {tokens : List Written} → Free custom tokens → Level custom may tokens
  freely {may} {tokens} it = record { goes = λ n bs w rest. it.goes n bs (free n bs) rest; quiet = it.quiet }
    where
      free : (n : ℕ) (bs : List Bracket) → Where Anywhere n bs
      free zero bs = tt
      free (suc n) bs = tt

  pub still : {may : List Bracket → Type 0} (one : Written) (rest : List Written) → sort_mark one.sort ≡ Plain
      → Level custom may rest → Level custom may (one ∷ rest)
  still one rest p more = record {
    goes = λ n bs w others.
        further custom n bs one (rest ++ others) (at n bs) (ap (step custom n bs) p ∙ plain_step custom n bs)
        ∙ more.goes n bs w others;
    quiet = λ others q. both (is_quiet one) _ (quiet_of one p) (more.quiet others q);
  }

  -- an empty comment
  pub past_seam : {may : List Bracket → Type 0} (rest : List Written) → Level custom may rest
      → Level custom may (seam ∷ rest)
  past_seam rest more = record {
    goes = λ n bs w others. further custom n bs seam (rest ++ others) (at n bs) (noted_step custom n bs) ∙ more.goes n bs w others;
    quiet = more.quiet;
  }

  pub join : {may : List Bracket → Type 0} (left right : List Written) → Level custom may left
      → Level custom may right → Level custom may (left ++ right)
  join left right a b = record {
    goes = λ n bs w rest.
        ap (walk custom n bs) (append_assoc left right rest) ∙ a.goes n bs w (right ++ rest) ∙ b.goes n bs w rest;
    quiet = λ rest q.
        ap (list_all is_quiet) (append_assoc left right rest) ∙ a.quiet (right ++ rest) (b.quiet rest q);
  }

  -- in `#{}` anything may stand
  pub insert : {may : List Bracket → Type 0} (spaced : Bool) (terminal : Terminal) (inner rest : List Written)
      → Free custom inner → Level custom may rest → Level custom may (inserted spaced terminal inner rest)
  insert {may} spaced terminal inner rest inside more = record {
    goes = λ n bs w others.
        opens n bs ((inner ++ closing ∷ rest) ++ others)
        ∙ ap (walk custom (suc n) bs) (append_assoc inner (closing ∷ rest) others)
        ∙ inside.goes (suc n) bs tt (closing ∷ (rest ++ others))
        ∙ further custom (suc n) bs closing (rest ++ others) (at n bs) refl ∙ more.goes n bs w others;
    quiet = λ others q.
        ap (list_all is_quiet) (append_assoc inner (closing ∷ rest) others)
        ∙ inside.quiet (closing ∷ (rest ++ others)) (more.quiet others q);
  }
    where
      closing : Written
      closing = direct sorts.CloseInsert terminals.InsertEnd

      opens : (n : ℕ) (bs : List Bracket) (tokens : List Written)
          → walk custom n bs (written sorts.OpenInsert spaced terminal ∷ tokens) ≡ walk custom (suc n) bs tokens
      opens zero bs tokens = refl
      opens (suc n) bs tokens = refl

  -- between brackets of the layout
  module _ (b : Bracket) (open_mark close_mark : Mark)
      (opens : (bs : List Bracket) → step custom 0 bs open_mark ≡ Some (at 0 (bs ++ b ∷ [])))
      (closes : (bs : List Bracket) → step custom 0 (bs ++ b ∷ []) close_mark ≡ Some (at 0 bs))
      (opens_in : (n : ℕ) (bs : List Bracket) → step custom (suc n) bs open_mark ≡ Some (at (suc n) bs))
      (closes_in : (n : ℕ) (bs : List Bracket) → step custom (suc n) bs close_mark ≡ Some (at (suc n) bs))
      (open_quiet : is_noted open_mark ≡ false) (close_quiet : is_noted close_mark ≡ false) where
    round : {may inner_may : List Bracket → Type 0} (opening : Written) (inner : List Written) (closing : Written)
        (rest : List Written) → sort_mark opening.sort ≡ open_mark → sort_mark closing.sort ≡ close_mark
        → ((bs : List Bracket) → inner_may (bs ++ b ∷ [])) → Level custom inner_may inner → Level custom may rest
        → Level custom may (enclosed opening inner closing rest)
    round {may} opening inner closing rest o c all inside more = record {
      goes = goes;
      quiet = λ others q.
          both (is_quiet opening) _ (quietly opening open_mark o open_quiet)
          (ap (list_all is_quiet) (append_assoc inner (closing ∷ rest) others)
          ∙ inside.quiet (closing ∷ (rest ++ others))
          (both (is_quiet closing) _ (quietly closing close_mark c close_quiet) (more.quiet others q)));
    }
      where
        quietly : (one : Written) (mark : Mark) → sort_mark one.sort ≡ mark → is_noted mark ≡ false
            → is_quiet one ≡ true
        quietly one mark e f = ap (λ (x : Bool). not x || has_none one.may_be) (ap is_noted e ∙ f)

        goes : (n : ℕ) (bs : List Bracket) → Where may n bs → (others : List Written)
            → walk custom n bs (enclosed opening inner closing rest ++ others) ≡ walk custom n bs others
        goes zero bs w others =
            further custom 0 bs opening _ (at 0 (bs ++ b ∷ [])) (ap (step custom 0 bs) o ∙ opens bs)
            ∙ ap (walk custom 0 (bs ++ b ∷ [])) (append_assoc inner (closing ∷ rest) others)
            ∙ inside.goes 0 (bs ++ b ∷ []) (all bs) (closing ∷ (rest ++ others))
            ∙ further custom 0 (bs ++ b ∷ []) closing (rest ++ others) (at 0 bs) (ap (step custom 0 (bs ++ b ∷ [])) c ∙ closes bs)
            ∙ more.goes 0 bs w others
        goes (suc n) bs w others =
            further custom (suc n) bs opening _ (at (suc n) bs) (ap (step custom (suc n) bs) o ∙ opens_in n bs)
            ∙ ap (walk custom (suc n) bs) (append_assoc inner (closing ∷ rest) others)
            ∙ inside.goes (suc n) bs tt (closing ∷ (rest ++ others))
            ∙ further custom (suc n) bs closing (rest ++ others) (at (suc n) bs) (ap (step custom (suc n) bs) c ∙ closes_in n bs)
            ∙ more.goes (suc n) bs tt others

  paren_closes : (bs : List Bracket) → step custom 0 (bs ++ brackets.Paren ∷ []) ClosesParen ≡ Some (at 0 bs)
  paren_closes bs = ap (λ (x : List Bracket). Some (at 0 x)) (popped bs brackets.Paren _ (ap is_paren (last_is bs brackets.Paren)))

  square_closes : (bs : List Bracket) → step custom 0 (bs ++ brackets.Square ∷ []) ClosesSquare ≡ Some (at 0 bs)
  square_closes bs = ap (λ (x : List Bracket). Some (at 0 x)) (popped bs brackets.Square _ (ap is_square (last_is bs brackets.Square)))

  pub parens : {may inner_may : List Bracket → Type 0} (opening : Written) (inner : List Written) (closing : Written)
      (rest : List Written) → sort_mark opening.sort ≡ OpensParen → sort_mark closing.sort ≡ ClosesParen
      → ((bs : List Bracket) → inner_may (bs ++ brackets.Paren ∷ [])) → Level custom inner_may inner
      → Level custom may rest → Level custom may (enclosed opening inner closing rest)
  parens opening inner closing rest o c all inside more =
      round brackets.Paren OpensParen ClosesParen (λ bs. refl) paren_closes (λ n bs. refl) (λ n bs. refl) refl refl
      opening inner closing rest o c all inside more

  pub squares : {may inner_may : List Bracket → Type 0} (opening : Written) (inner : List Written) (closing : Written)
      (rest : List Written) → sort_mark opening.sort ≡ OpensSquare → sort_mark closing.sort ≡ ClosesSquare
      → ((bs : List Bracket) → inner_may (bs ++ brackets.Square ∷ [])) → Level custom inner_may inner
      → Level custom may rest → Level custom may (enclosed opening inner closing rest)
  squares opening inner closing rest o c all inside more =
      round brackets.Square OpensSquare ClosesSquare (λ bs. refl) square_closes (λ n bs. refl) (λ n bs. refl) refl refl
      opening inner closing rest o c all inside more

  -- between two plain tokens
  pub between : {may : List Bracket → Type 0} (opening : Written) (inner : List Written) (closing : Written)
      (rest : List Written) → sort_mark opening.sort ≡ Plain → Level custom may inner → sort_mark closing.sort ≡ Plain
      → Level custom may rest → Level custom may (enclosed opening inner closing rest)
  between opening inner closing rest o inside c more =
      still opening (inner ++ closing ∷ rest) o (join inner (closing ∷ rest) inside (still closing rest c more))

  -- a `$` counts for nothing, whatever it is told to be
  pub settled_over : {may : List Bracket → Type 0} {loose exact : List Written} → Level custom may loose
      → Settles loose exact → Level custom may exact
  settled_over {may} {loose} {exact} it s = record {
    goes = λ n bs w rest. sym (same_walk s n bs rest) ∙ it.goes n bs w rest;
    quiet = λ rest q. sym (same_quiet s rest) ∙ it.quiet rest q;
  }
    where
      onward : (one other : Written) (left right : List Written) → one.sort ≡ other.sort
          → ((n : ℕ) (bs : List Bracket) → walk custom n bs left ≡ walk custom n bs right) → (n : ℕ) (bs : List Bracket)
          → walk custom n bs (one ∷ left) ≡ walk custom n bs (other ∷ right)
      onward one other left right e f n bs =
          go (step custom n bs (sort_mark one.sort)) ∙ ap (λ (x : Sort). elim (step custom n bs (sort_mark x)) as (λ _. Option At) [
            | None ↦ None
            | Some next ↦ walk custom next.inserts next.brackets right
          ]) e
        where
          go : (r : Option At)
              → (elim r as (λ _. Option At) [ None ↦ None | Some next ↦ walk custom next.inserts next.brackets left ])
              ≡ (elim r as (λ _. Option At) [ None ↦ None | Some next ↦ walk custom next.inserts next.brackets right ])
          go None = refl
          go (Some next) = f next.inserts next.brackets

      same_walk : {loose exact : List Written} → Settles loose exact → (n : ℕ) (bs : List Bracket) (rest : List Written)
          → walk custom n bs (loose ++ rest) ≡ walk custom n bs (exact ++ rest)
      same_walk settled_end n bs rest = refl
      same_walk (settled_same {rest = left} {more = right} token more) n bs others =
          onward token token (left ++ others) (right ++ others) refl (λ n bs. same_walk more n bs others) n bs
      same_walk (settled_dollar {spaced = spaced} {rest = left} {more = right} name off more) n bs others =
          onward (dollar spaced) (written sorts.Dollar spaced terminals.Dollar) (name ∷ (left ++ others)) (right ++ others)
          (let same : sorts.Dollar ≡ sorts.Dollar = refl in same) (λ n bs. same_walk more n bs others) n bs
      same_walk (settled_named {spaced = spaced} {rest = left} {more = right} word is more) n bs others =
          onward (dollar spaced) (written sorts.Dollar spaced terminals.DollarNamed)
          (direct word terminals.VariableName ∷ direct sorts.Colon terminals.Colon ∷ (left ++ others)) (right ++ others)
          (let same : sorts.Dollar ≡ sorts.Dollar = refl in same) (λ n bs. same_walk more n bs others) n bs

      same_quiet : {loose exact : List Written} → Settles loose exact → (rest : List Written)
          → list_all is_quiet (loose ++ rest) ≡ list_all is_quiet (exact ++ rest)
      same_quiet settled_end rest = refl
      same_quiet (settled_same token more) others = ap (λ (x : Bool). is_quiet token && x) (same_quiet more others)
      same_quiet (settled_dollar name off more) others = same_quiet more others
      same_quiet (settled_named word is more) others = same_quiet more others
