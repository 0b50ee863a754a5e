-- A loud comment without values that was read: its text stands between `/*` and `*/`, and neither ends it nor begins a value.
use Rattle.std.proofs.Common.{◌≡◌, ◌<◌, ℕ, zero, suc, ◌+◌, ◌-◌, Bool, true, false, not, if◌then◌else◌, nat_lt, List, [], ◌∷◌, ◌++◌, length, take, drop, Option, Some, None, Result, Ok, Err, refl, sym, ◌∙◌, ap, subst, arith, take-add}
use Rattle.std.specs.Prelude.{◌==◌, slice_get, codes}
use Rattle.std.proofs.Math.Seq.{take-append_seam}
use Rattle.sw_text.specs.Places.{mark_length}
use Rattle.sw_text_scan.specs.declared.signs.TheConstants.{END}
use Rattle.sw_text_scan.specs.declared.runs.Class.TheVariants as classes
use Rattle.sw_text_scan.specs.Bytes.{sign, byte, begins_loud, ends_loud}
use Rattle.sw_text_scan.specs.Runs.{next, run_end}
use Rattle.sw_text_scan.proofs.Bounds.{if_true, if_false, and_left, and_right, or_right, run_step, run_stop}
use Rattle.sw_text_locality.proofs.Lexical.{equal}
use Rattle.sw_tokens.specs.declared.pieces.Before.{Before}
use Rattle.sw_tokens.specs.declared.pieces.Before.TheVariants as befores
use Rattle.sw_tokens.specs.declared.pieces.Change.{Change}
use Rattle.sw_tokens.specs.declared.pieces.Change.TheVariants as changes
use Rattle.sw_tokens.specs.declared.pieces.Piece.{Piece}
use Rattle.sw_tokens.specs.declared.scan.Opened.{Opened}
use Rattle.sw_tokens.specs.declared.token.Syntax.TheVariants as syntaxes
use Rattle.sw_tokens.specs.declared.token.Token.{Token}
use Rattle.sw_tokens.specs.declared.token.TokenKind.{TokenKind}
use Rattle.sw_tokens.specs.declared.token.TokenKind.TheVariants as kinds
use Rattle.sw_tokens.specs.Ends.{opens, reached, tokens_by, tokens_in, tokens_of}
use Rattle.sw_tokens.specs.Pieces.{piece}
use Rattle.sw_tokens.specs.Tokens.{inside_of, top, changed, before_of, last_start, kept_by, kept, behind, finished, walk, rest, pieces_of}
use Rattle.sw_parse_grammar.specs.Grammar.{member}
use Rattle.sw_parse_terminals.specs.Numbers.{number_of, just}
use Rattle.sw_parse_terminals.specs.Urls.{has_namespace}
use Rattle.sw_parse_terminals.specs.declared.terminal.Terminal.{Terminal}
use Rattle.sw_parse_terminals.specs.declared.terminal.Terminal.TheVariants as terminals
use Rattle.sw_parse_lexemes.specs.declared.plain.Plain.{Plain}
use Rattle.sw_parse_lexemes.specs.declared.sort.Sort.{Sort}
use Rattle.sw_parse_lexemes.specs.declared.sort.Sort.TheVariants as sorts
use Rattle.sw_parse_lexemes.specs.Ahead.{sort_in, sort_at, is_direct}
use Rattle.sw_parse_lexemes.specs.Classes.{is_name}
use Rattle.sw_parse_lexemes.specs.Plains.{end_by, plain_of, plains_from}
use Rattle.sw_parse_lexemes.specs.Sorts.{sort_of}
use Rattle.sw_parse_lexemes.specs.Words.{at_sort}
use Rattle.sw_parse_table.specs.declared.source.Source.{Source}
use Rattle.sw_parse_table.specs.Sources.{bytes, bytes_at}
use Rattle.sw_convert_again.specs.Tokens.{Old}
use Rattle.sw_convert_spelling.proofs.Choices.{both, neither, right_no}
use Rattle.sw_convert_spelling.proofs.MovedRuns.{run_moved, run_later, ends_moved}
use Rattle.sw_convert_spelling.proofs.MovedRuns as moved
use Rattle.sw_convert_tokens.specs.Values.{WasRead}
use Rattle.sw_convert_tokens.proofs.Olds.{Every, every_at}
use Rattle.sw_convert_tokens.proofs.Words.{name_yes}
use Rattle.sw_convert_texts.specs.Comments.{ends_at, is_comment_text}
use Rattle.sw_convert_texts.proofs.CommentPieces.{is_css, pushes_css, is_loud, Loud, Good, GoodIn, piece_good}
use Rattle.sw_convert_texts.proofs.CommentTokens.{ends_there}
use Rattle.sw_convert_texts.proofs.LexemePairs.{plains_in, comes_at}
use Rattle.sw_convert_texts.proofs.OldPieces.{old_piece, whole_bytes}
use Rattle.sw_convert_texts.specs.RawKinds.{is_at}
use Rattle.sw_convert_texts.proofs.TerminalChoices.{comes, is_whole_comment}
use Rattle.sw_convert_texts.proofs.TokenPairs.{at_yes}

-- ---- tokens

every_append : {A : Type 0} (P : A → Type 0) (xs ys : List A) → Every P xs → Every P ys → Every P (xs ++ ys)
every_append P [] ys e f = f
every_append P (x ∷ xs) ys (e, es) f = (e, every_append P xs ys es f)

every_take : {A : Type 0} (P : A → Type 0) (n : ℕ) (xs : List A) → Every P xs → Every P (take n xs)
every_take P zero xs e = tt
every_take P (suc n) [] e = tt
every_take P (suc n) (x ∷ xs) (e, es) = (e, every_take P n xs es)

abbrev listed_of : List Token → Result (List Token) ℕ → List Token
listed_of default (Ok list) = list
listed_of default (Err k) = default

-- no plain CSS is open
abbrev Calm : List Opened → Type 0
Calm os = Every (λ o. is_css o.inside ≡ false) os

top_calm : (os : List Opened) → Calm os → is_css (top syntaxes.Scss os) ≡ false
unfolding top
top_calm os calm = go (slice_get os (length os - 1)) refl
  where
    go : (o : Option Opened) → slice_get os (length os - 1) ≡ o → is_css (inside_of syntaxes.Scss o) ≡ false
    go None e = refl
    go (Some o) e = every_at (λ o. is_css o.inside ≡ false) os (length os - 1) o calm e

changed_calm : (os : List Opened) (change : Change) (at : ℕ) → Calm os → pushes_css change ≡ false
    → Calm (changed os change at)
changed_calm os changes.Keep at calm e = calm
changed_calm os (changes.Push inside) at calm e = every_append (λ o. is_css o.inside ≡ false) os _ calm (e, tt)
changed_calm os changes.Pop at calm e = every_take (λ o. is_css o.inside ≡ false) (length os - 1) os calm

module _ (bs : List ℕ) where
  abbrev IsWhole : Token → Type 0
  IsWhole t = is_loud (Some t.kind) ≡ true → Loud bs t.from t.to

  none_left : (os : List Opened) (ts : List Token) → finished os ≡ Ok ts → Every IsWhole ts
  none_left [] ts e = subst (Every IsWhole) (ap (listed_of []) e) tt
  none_left (o ∷ os) ts e = absurd (cc)

  whole_kept : (at : ℕ) (before : Before) (p : Piece) → Good bs at p → Every IsWhole (kept_by p.token at p.to before)
  whole_kept at before p good = go p.token good.loud
    where
      go : (token : Option TokenKind) → (is_loud token ≡ true → Loud bs at p.to)
          → Every IsWhole (kept_by token at p.to before)
      go None f = tt
      go (Some kind) f = (f, tt)

  abbrev Further : ℕ → Type 0
  Further n =
      (os : List Opened) → Calm os → (before : Before) (at : ℕ) (ts : List Token)
      → walk syntaxes.Scss bs n os before at ≡ Ok ts → Every IsWhole ts

  module _ (n : ℕ) (again : Further n) (os : List Opened) (calm : Calm os) (before : Before) (at : ℕ) (ts : List Token) where
    further : (p : Piece) → Good bs at p → (r : Result (List Token) ℕ)
        → walk syntaxes.Scss bs n (changed os p.change at) (before_of p.token) p.to ≡ r
        → behind (kept p at before) r ≡ Ok ts → Every IsWhole ts
    further p good (Err k) w f = absurd (cc)
    further p good (Ok us) w f =
        subst (Every IsWhole) (ap (listed_of []) f)
        (every_append IsWhole (kept p at before) us (whole_kept at before p good)
        (again (changed os p.change at) (changed_calm os p.change at calm good.calm) (before_of p.token) p.to us w))

    abbrev on : Option Piece → Result (List Token) ℕ
    on o = elim o as (λ _. Result (List Token) ℕ) [
      | None ↦ Err (last_start os at)
      | Some p ↦ behind (kept p at before) (walk syntaxes.Scss bs n (changed os p.change at) (before_of p.token) p.to)
    ]

    found : (o : Option Piece) → GoodIn bs at o → on o ≡ Ok ts → Every IsWhole ts
    found None good f = absurd (cc)
    found (Some p) good f =
        further p good (walk syntaxes.Scss bs n (changed os p.change at) (before_of p.token) p.to) refl f

    here : (b : Bool) → (if b then on (piece bs (top syntaxes.Scss os) before at) else finished os) ≡ Ok ts
        → Every IsWhole ts
    here true f =
        found (piece bs (top syntaxes.Scss os) before at)
        (piece_good bs at (top syntaxes.Scss os) before (top_calm os calm)) f
    here false f = none_left os ts f

  walked : (n : ℕ) → Further n
  walked zero os calm before at ts e = none_left os ts e
  walked (suc n) os calm before at ts e = here n (walked n) os calm before at ts (nat_lt at (length bs)) e

  closed_kind : (kind : TokenKind) → is_loud (Some kind) ≡ true → opens kind ≡ false
  closed_kind kinds.Comment e = refl
  closed_kind _ e = absurd (cc)

  all_reached : (ts : List Token) → Every IsWhole ts → Every IsWhole (reached ts).list
  all_reached [] e = tt
  all_reached (t ∷ ts) (e, es) = (
    λ l. subst (Loud bs t.from) (sym (if_false (opens t.kind) _ t.to (closed_kind t.kind l))) (e l),
    all_reached ts es,
  )

  all_tokens : (list : List Token) → tokens_of bs ≡ Ok list → Every IsWhole list
  unfolding tokens_in pieces_of rest
  all_tokens list e = go (pieces_of syntaxes.Scss bs) refl e
    where
      go : (r : Result (List Token) ℕ) → pieces_of syntaxes.Scss bs ≡ r → tokens_by r ≡ Ok list → Every IsWhole list
      go (Err k) p f = absurd (cc)
      go (Ok ts) p f =
          subst (Every IsWhole) (ap (listed_of []) f)
          (all_reached ts (walked (suc (length bs - mark_length bs)) [] tt befores.Other (mark_length bs) ts p))

-- ---- as the pass over tokens has them

name_no : (sort : Sort) → is_name sort ≡ true → is_whole_comment sort ≡ false
name_no sorts.Comment n = absurd (cc)
name_no _ n = refl

at_no : (sort : Sort) → is_at sort ≡ true → is_whole_comment sort ≡ false
at_no sorts.Comment n = absurd (cc)
at_no _ n = refl

quoted_no : (t : Bool) → is_whole_comment (if t then sorts.Quoted else sorts.Unnamed) ≡ false
quoted_no true = refl
quoted_no false = refl

kind_of_comment : (kind : TokenKind) (text : List ℕ) → is_whole_comment (sort_of kind text) ≡ true
    → kind ≡ kinds.Comment
kind_of_comment kinds.Comment text e = refl
kind_of_comment kinds.Word text e =
    absurd (let no : true ≡ false = sym e ∙ name_no (sort_of kinds.Word text) (name_yes kinds.Word text refl) in cc)
kind_of_comment kinds.Name text e =
    absurd (let no : true ≡ false = sym e ∙ name_no (sort_of kinds.Name text) (name_yes kinds.Name text refl) in cc)
kind_of_comment kinds.AtName text e = absurd (let no : true ≡ false = sym e ∙ at_no (at_sort text) (at_yes text) in cc)
kind_of_comment (kinds.Quoted told) text e = absurd (let no : true ≡ false = sym e ∙ quoted_no (has_namespace told) in cc)
kind_of_comment _ text e = absurd (cc)

abbrev IsPlainWhole : List ℕ → Plain → Type 0
IsPlainWhole bs p = is_whole_comment p.sort ≡ true → Loud bs p.from p.to

end_closed : (token : Token) (next : Option Token) → opens token.kind ≡ false → end_by token next ≡ token.to
end_closed token None o = refl
end_closed token (Some next) o = if_false (opens token.kind) next.from token.to o

all_plains : (bs : List ℕ) (gap : ℕ) (list : List Token) → Every (IsWhole bs) list
    → Every (IsPlainWhole bs) (plains_from bs gap list)
unfolding plain_of
all_plains bs gap [] e = tt
all_plains bs gap (t ∷ list) (e, es) = (
  λ c.
      let kind = kind_of_comment t.kind _ c in
      subst (Loud bs t.from) (sym (end_closed t (slice_get list 0) (ap opens kind)))
      (e (ap (λ (k : TokenKind). is_loud (Some k)) kind)),
  all_plains bs (end_by t (slice_get list 0)) list es,
)

-- ---- the text between its ends

within : (b : ℕ) (xs : List ℕ) (n : ℕ) → ends_there (b ∷ xs) 0 ≡ false → ends_at b (take n xs) ≡ false
unfolding byte
within b xs zero e =
    neither _ _ (right_no (b == sign "*") _ refl)
    (neither _ _ (right_no (b == sign "#") _ refl) (or_right _ (b == END) (or_right _ _ e)))
within b [] (suc n) e =
    neither _ _ (right_no (b == sign "*") _ refl)
    (neither _ _ (right_no (b == sign "#") _ refl) (or_right _ (b == END) (or_right _ _ e)))
within b (c ∷ xs) (suc n) e = e

take_nothing : (n : ℕ) → take {A = ℕ} n [] ≡ []
take_nothing zero = refl
take_nothing (suc n) = refl

-- up to where a run ends
run_text : (xs : List ℕ) → is_comment_text (take (run_end classes.Comment xs 0) xs) ≡ true
run_text [] = ap is_comment_text (take_nothing (run_end classes.Comment [] 0))
run_text (b ∷ xs) = go (ends_there (b ∷ xs) 0) refl (run_text xs)
  where
    go : (t : Bool) → ends_there (b ∷ xs) 0 ≡ t → is_comment_text (take (run_end classes.Comment xs 0) xs) ≡ true
        → is_comment_text (take (run_end classes.Comment (b ∷ xs) 0) (b ∷ xs)) ≡ true
    go true e more =
        let stays : next classes.Comment (b ∷ xs) 0 ≡ 0 = if_true (ends_there (b ∷ xs) 0) 0 (0 + 1) e in
        ap (λ (n : ℕ). is_comment_text (take n (b ∷ xs))) (run_stop (b ∷ xs) classes.Comment 0 (omega (arith, stays)))
    go false e more =
        let goes : next classes.Comment (b ∷ xs) 0 ≡ 1 = if_false (ends_there (b ∷ xs) 0) 0 (0 + 1) e in
        let run : run_end classes.Comment (b ∷ xs) 0 ≡ suc (run_end classes.Comment xs 0) =
        sym (run_step (b ∷ xs) classes.Comment 0 (omega (arith, goes)))
        ∙ ap (run_end classes.Comment (b ∷ xs)) goes ∙ run_moved (b ∷ []) xs classes.Comment 0
        ∙ (let z : 1 + run_end classes.Comment xs 0 ≡ suc (run_end classes.Comment xs 0) = omega arith in z) in
        ap (λ (n : ℕ). is_comment_text (take n (b ∷ xs))) run
        ∙ both (not (ends_at b (take (run_end classes.Comment xs 0) xs))) _
        (ap not (within b xs (run_end classes.Comment xs 0) e)) more

-- `*/` there
two_at : (xs : List ℕ) (n : ℕ) → ends_loud xs n ≡ true → take 2 (drop n xs) ≡ codes "*/"
unfolding byte
two_at [] zero e = absurd (cc)
two_at [] (suc n) e = absurd (cc)
two_at (x ∷ []) zero e = absurd (let no = and_right (x == sign "*") _ e in cc)
two_at (x ∷ y ∷ xs) zero e =
    ap (λ (c : ℕ). c ∷ y ∷ []) (equal x (sign "*") (and_left (x == sign "*") _ e))
    ∙ ap (λ (c : ℕ). sign "*" ∷ c ∷ []) (equal y (sign "/") (and_right (x == sign "*") _ e))
two_at (x ∷ xs) (suc n) e =
    two_at xs n
    (sym (ends_moved (x ∷ []) xs n) ∙ ap (ends_loud (x ∷ xs)) (let z : 1 + n ≡ suc n = omega arith in z) ∙ e)

pub record IsWholeText (text : List ℕ) : Type 0 where
  pub inner : List ℕ
  pub is : text ≡ codes "/*" ++ (inner ++ codes "*/")
  pub plain : is_comment_text inner ≡ true

-- what stands before it doesn't matter
cut : (front zs : List ℕ) (at to : ℕ) → at ≡ length front + 0 → Loud (front ++ zs) at to → Loud zs 0 (to - length front)
cut front zs at to at_is l =
    let run : run_end classes.Comment (front ++ zs) (at + 2) ≡ length front + run_end classes.Comment zs (0 + 2) =
    ap (λ (n : ℕ). run_end classes.Comment (front ++ zs) (n + 2)) at_is ∙ run_later front zs classes.Comment 0 2 in
    let to_is = l.to_is in record {
      begins = sym (moved.two front zs (λ b. b == sign "/") (λ b. b == sign "*") 0)
          ∙ ap (begins_loud (front ++ zs)) (sym at_is) ∙ l.begins;
      ends = sym (ends_moved front zs (run_end classes.Comment zs (0 + 2))) ∙ ap (ends_loud (front ++ zs)) (sym run) ∙ l.ends;
      to_is = let z : to - length front ≡ run_end classes.Comment zs (0 + 2) + 2 = omega (arith, run, to_is) in z;
    }

text_of : (text after : List ℕ) → 0 < length text → Loud (text ++ after) 0 (length text) → IsWholeText text
unfolding byte
text_of [] after some l = absurd (omega (arith, some))
text_of (x ∷ []) after some l =
    let to = l.to_is in
    absurd (let no : 1 ≡ run_end classes.Comment (x ∷ after) (0 + 2) + 2 = to in omega (arith, no))
text_of (x ∷ y ∷ ws) after some l =
    let vs = ws ++ after in
    let n = run_end classes.Comment vs 0 in
    let run : run_end classes.Comment (x ∷ y ∷ vs) (0 + 2) ≡ 2 + n = run_moved (x ∷ y ∷ []) vs classes.Comment 0 in
    let to = l.to_is in
    let long : length ws ≡ n + 2 =
    (let whole : suc (suc (length ws)) ≡ run_end classes.Comment (x ∷ y ∷ vs) (0 + 2) + 2 = to in
    omega (arith, whole, run)) in
    let ends : ends_loud vs n ≡ true =
    sym (ends_moved (x ∷ y ∷ []) vs n) ∙ ap (ends_loud (x ∷ y ∷ vs)) (sym run) ∙ l.ends in
    let rest : ws ≡ take n vs ++ codes "*/" =
    sym (take-append_seam ws after) ∙ ap (λ (m : ℕ). take m vs) long ∙ take-add n 2 vs
    ∙ ap (λ (t : List ℕ). take n vs ++ t) (two_at vs n ends) in record {
      inner = take n vs;
      is = ap (λ (c : ℕ). c ∷ y ∷ ws) (equal x (sign "/") (and_left (x == sign "/") _ l.begins))
          ∙ ap (λ (c : ℕ). sign "/" ∷ c ∷ ws) (equal y (sign "*") (and_right (x == sign "/") _ l.begins))
          ∙ ap (λ (t : List ℕ). sign "/" ∷ sign "*" ∷ t) rest;
      plain = run_text vs;
    }

-- ---- of a sheet that was read

only_whole : (terminal : Terminal) → member (number_of terminal) (just terminals.CommentWhole) ≡ true
    → terminal ≡ terminals.CommentWhole
only_whole terminals.CommentWhole m = refl
only_whole _ m = absurd (cc)

pub whole_text : (source : Source) → WasRead source → (i : ℕ) → Old source i (just terminals.CommentWhole)
    → IsWholeText (bytes_at source i)
unfolding sort_at
whole_text source was i old =
    let bs = bytes source in
    let it = comes_at source was i old.lexeme old.there in
    let c : is_whole_comment (sort_at (plains_in source) old.lexeme.token) ≡ true =
    ap (λ (t : Terminal). comes t (sort_at (plains_in source) old.lexeme.token) it.goes (is_direct (plains_in source) (old.lexeme.token + 1) sorts.OpenInsert) it.touches)
    (sym (only_whole old.lexeme.terminal old.kind)) ∙ it.fit in
    let piece = old_piece source was i old.lexeme old.there in
    let kind = kind_of_comment piece.kind piece.text (ap is_whole_comment (sym piece.sort) ∙ c) in
    let own = piece.own (ap opens kind) in
    let loud : Loud bs it.plain.from it.plain.to =
    every_at (IsPlainWhole bs) (plains_in source) old.lexeme.token it.plain
    (all_plains bs 0 source.tokens.now.list (all_tokens bs source.tokens.now.list was.tokens)) it.got
    (ap (λ (o : Option Plain). is_whole_comment (sort_in o)) (sym it.got) ∙ c) in
    let from : it.plain.from ≡ length own.front + 0 =
    sym it.from ∙ own.from ∙ (let z : length own.front ≡ length own.front + 0 = omega arith in z) in
    let size : it.plain.to - length own.front ≡ length piece.text =
    (let one = own.to in let two = it.to in omega (arith, one, two)) in
    subst IsWholeText (sym (whole_bytes source i old.lexeme piece.kind piece.text old.there own))
    (text_of piece.text own.after own.some
    (subst (Loud (piece.text ++ own.after) 0) size
    (cut own.front (piece.text ++ own.after) it.plain.from it.plain.to from
    (subst (λ (t : List ℕ). Loud t it.plain.from it.plain.to) own.whole loud))))
