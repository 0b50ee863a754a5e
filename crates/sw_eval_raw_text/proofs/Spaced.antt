-- White space in special text, a byte at a time.
use Rattle.std.proofs.Common.{◌≡◌, ℕ, zero, suc, ◌+◌, ◌<◌, ◌≤◌, Bool, true, false, List, [], ◌∷◌, ◌++◌, length, take, drop, get_or, refl, sym, ◌∙◌, ap, arith, append_assoc, append-nil, length-take, add-one}
use Rattle.std.specs.Prelude.{codes, slice_get, if◌then◌else◌}
use Rattle.std.proofs.Math.Seq.{drop-cons}
use Rattle.std.proofs.lemmas.List.{take_more, take_all, drop-append-le}
use Rattle.sw_text_scan.specs.Bytes.{byte, byte_in}
use Rattle.sw_tree.specs.declared.text.Piece.{Piece}
use Rattle.sw_eval_calls.proofs.Items.{next_item, drop_all}
use Rattle.sw_scope.specs.Bind.{is_empty}
use Rattle.sw_eval_raw_text.specs.Spacing.{stepped, is_blank, shows_space, behind, is_end, spaced, piece_spaced, behind_piece, spaced_texts}
use Rattle.sw_eval_raw_text.specs.declared.spacing.Reading.{Reading}

-- ---- how a text is read behind another one

pub behind_kept : (r : Reading) (bs : List ℕ) (i b : ℕ) → i < length bs → b ≡ get_or bs i b → is_blank r b ≡ false → behind (stepped r b) (drop (i + 1) bs) ≡ behind r (drop i bs)
behind_kept r bs i b lt is e = rw (next_item bs i b lt is, e) refl

pub behind_blank : (r : Reading) (bs : List ℕ) (i b : ℕ) → i < length bs → b ≡ get_or bs i b → is_blank r b ≡ true → behind r (drop (i + 1) bs) ≡ behind r (drop i bs)
behind_blank r bs i b lt is e = rw (next_item bs i b lt is, e) refl

pub behind_end : (r : Reading) (bs : List ℕ) (i : ℕ) → length bs ≤ i → behind r (drop i bs) ≡ r
behind_end r bs i le = rw (drop_all bs i le) refl

-- ---- a text with its white space

-- what was copied, what is to be copied, and what is to be read
abbrev pub so_far : Bool → List ℕ → List ℕ → ℕ → ℕ → Reading → List ℕ
so_far is_last name text from at r = (name ++ drop from (take at text)) ++ spaced is_last r (drop at text)

-- a text at one of its bytes
pub byte_and_rest : (text : List ℕ) (at : ℕ) → at < length text → drop at text ≡ get_or text at 0 ∷ drop (at + 1) text
byte_and_rest text at lt = rw add-one (drop-cons text at 0 lt)

pub taken_more : (text : List ℕ) (from at : ℕ) → at < length text → from ≤ at → drop from (take (at + 1) text) ≡ drop from (take at text) ++ get_or text at 0 ∷ []
taken_more text from at lt le =
    ap (drop from) (take_more text at 0 lt) ∙ drop-append-le from (take at text) (get_or text at 0 ∷ []) (omega (arith, length-take at text))

pub kept : (is_last : Bool) (name text : List ℕ) (from at : ℕ) (r : Reading) → at < length text → from ≤ at → is_blank r (get_or text at 0) ≡ false
    → so_far is_last name text from (at + 1) (stepped r (get_or text at 0)) ≡ so_far is_last name text from at r
kept is_last name text from at r lt le e =
    let b = get_or text at 0 in
    let rest = spaced is_last (stepped r b) (drop (at + 1) text) in
    ap (λ (xs : List ℕ). (name ++ xs) ++ rest) (taken_more text from at lt le)
    ∙ ap (λ (xs : List ℕ). xs ++ rest) (sym (append_assoc name (drop from (take at text)) (b ∷ [])))
    ∙ append_assoc (name ++ drop from (take at text)) (b ∷ []) rest
    ∙ rw (byte_and_rest text at lt, e) refl

first_of_rest : (bs : List ℕ) (i : ℕ) → slice_get (drop i bs) 0 ≡ slice_get bs i
first_of_rest [] zero = refl
first_of_rest [] (suc i) = refl
first_of_rest (b ∷ bs) zero = refl
first_of_rest (b ∷ bs) (suc i) = first_of_rest bs i

pub byte_of_rest : (bs : List ℕ) (i : ℕ) → byte (drop i bs) 0 ≡ byte bs i
unfolding byte
byte_of_rest bs i = ap byte_in (first_of_rest bs i)

abbrev pub space_if : Reading → Bool → ℕ → List ℕ
space_if r ends next = if shows_space r ends next then codes " " else []

pub left_out : (is_last : Bool) (name copied text : List ℕ) (from at : ℕ) (r : Reading) → at < length text → is_blank r (get_or text at 0) ≡ true
    → copied ≡ (name ++ drop from (take at text)) ++ space_if r (is_end is_last (drop (at + 1) text)) (byte text (at + 1))
    → so_far is_last copied text (at + 1) (at + 1) r ≡ so_far is_last name text from at r
left_out is_last name copied text from at r lt e made =
    let none : drop (at + 1) (take (at + 1) text) ≡ [] = drop_all (take (at + 1) text) (at + 1) (omega (arith, length-take (at + 1) text)) in
    let ends = is_end is_last (drop (at + 1) text) in
    let rest = spaced is_last r (drop (at + 1) text) in
    ap (λ (xs : List ℕ). (copied ++ xs) ++ rest) none
    ∙ ap (λ (xs : List ℕ). xs ++ rest) (append-nil copied ∙ made)
    ∙ append_assoc (name ++ drop from (take at text)) (space_if r ends (byte text (at + 1))) rest
    ∙ ap (λ (next : ℕ). (name ++ drop from (take at text)) ++ (space_if r ends next ++ rest)) (sym (byte_of_rest text (at + 1)))
    ∙ rw (byte_and_rest text at lt, e) refl

-- what was put behind it: a piece of the text, and a space where one shows
pub put_behind : (name more copied text : List ℕ) (from at next : ℕ) (ends wanted is_shown : Bool) (r : Reading) → more ≡ name ++ drop from (take at text) → copied ≡ more ++ (if is_shown then codes " " else [])
    → is_shown ≡ shows_space r ends next → ends ≡ wanted → next ≡ byte text (at + 1) → copied ≡ (name ++ drop from (take at text)) ++ space_if r wanted (byte text (at + 1))
put_behind name more copied text from at next ends wanted is_shown r first all shows same is =
    all
    ∙ ap (λ (xs : List ℕ). xs ++ (if is_shown then codes " " else [])) first
    ∙ ap (λ (b : Bool). (name ++ drop from (take at text)) ++ (if b then codes " " else [])) (shows ∙ ap (λ (b : Bool). shows_space r b next) same ∙ ap (shows_space r wanted) is)

pub spaced_end : (is_last : Bool) (name text : List ℕ) (from at : ℕ) (r : Reading) → length text ≤ at → name ++ drop from text ≡ so_far is_last name text from at r
spaced_end is_last name text from at r le =
    sym (ap (λ (xs : List ℕ). (name ++ drop from xs) ++ spaced is_last r (drop at text)) (take_all at text le)
    ∙ ap (λ (xs : List ℕ). (name ++ drop from text) ++ spaced is_last r xs) (drop_all text at le)
    ∙ append-nil (name ++ drop from text))

-- ---- with values

pub texts_next : (done : List (List ℕ)) (r : Reading) (ps : List Piece) (texts : List (List ℕ)) (i : ℕ) (p : Piece) (text : List ℕ) → i < length ps → i < length texts → p ≡ get_or ps i p → text ≡ get_or texts i text
    → (done ++ piece_spaced (is_empty (drop (i + 1) ps)) r p text ∷ []) ++ spaced_texts (behind_piece r p text) (drop (i + 1) ps) (drop (i + 1) texts) ≡ done ++ spaced_texts r (drop i ps) (drop i texts)
texts_next done r ps texts i p text lt more is has =
    rw (next_item ps i p lt is, next_item texts i text more has)
    (append_assoc done (piece_spaced (is_empty (drop (i + 1) ps)) r p text ∷ []) (spaced_texts (behind_piece r p text) (drop (i + 1) ps) (drop (i + 1) texts)))

none_spaced : (r : Reading) (ps : List Piece) → spaced_texts r ps [] ≡ []
none_spaced r [] = refl
none_spaced r (p ∷ ps) = refl

pub texts_none : (done : List (List ℕ)) (r : Reading) (ps : List Piece) (texts : List (List ℕ)) (i : ℕ) → length texts ≤ i → done ++ spaced_texts r (drop i ps) (drop i texts) ≡ done
texts_none done r ps texts i le = rw (drop_all texts i le, none_spaced r (drop i ps)) (append-nil done)

pub texts_end : (done : List (List ℕ)) (r : Reading) (ps : List Piece) (texts : List (List ℕ)) (i : ℕ) → length ps ≤ i → done ++ spaced_texts r (drop i ps) (drop i texts) ≡ done
texts_end done r ps texts i le = rw (drop_all ps i le) (append-nil done)
