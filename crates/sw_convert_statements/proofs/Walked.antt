-- The scan of a text takes one written token after another, up to white space behind the last one.
use Rattle.std.proofs.Common.{◌≡◌, ℕ, ◌+◌, ◌-◌, ◌<◌, true, false, not, ◌&&◌, List, [], ◌∷◌, ◌++◌, length, take, refl, sym, ◌∙◌, ap, subst, arith, Option, Some, None, Ok, append_assoc, append-nil, length-append}
use Rattle.std.specs.Prelude.{◌==◌, slice_get, nat_lt}
use Rattle.std.specs.List.{list_all}
use Rattle.std.proofs.Math.Seq.{get_or-append_seam, take-append_seam}
use Rattle.std.proofs.lemmas.Bool.Decides.{nat_tests}
use Rattle.std.proofs.lemmas.Option.{slice_get-get_or}
use Rattle.sw_text.specs.Places.{mark_length}
use Rattle.sw_text_scan.specs.declared.runs.Class.TheVariants as classes
use Rattle.sw_text_scan.specs.Bytes.{sign, byte, is_white, is_url_byte, opens_at}
use Rattle.sw_text_scan.specs.Runs.{next, run_end, escape_end, goes_in_url, goes_in_inner_url}
use Rattle.sw_text_scan.proofs.Bounds.{if_true, if_false, and_left, and_right, run_step, run_stop, not_true}
use Rattle.sw_tokens.specs.declared.pieces.Before.{Before}
use Rattle.sw_tokens.specs.declared.pieces.Before.TheVariants as befores
use Rattle.sw_tokens.specs.declared.pieces.Change.{Change}
use Rattle.sw_tokens.specs.declared.pieces.Change.TheVariants as changes
use Rattle.sw_tokens.specs.declared.pieces.Piece.{Piece}
use Rattle.sw_tokens.specs.declared.scan.Opened.{Opened}
use Rattle.sw_tokens.specs.declared.skips.Inside.{Inside}
use Rattle.sw_tokens.specs.declared.skips.Inside.TheVariants as insides
use Rattle.sw_tokens.specs.declared.token.Syntax.TheVariants as syntaxes
use Rattle.sw_tokens.specs.declared.token.Token.{Token}
use Rattle.sw_tokens.specs.Ends.{reached, tokens_by, tokens_in, tokens_of}
use Rattle.sw_tokens.specs.Pieces.{made_white, url_piece, piece}
use Rattle.sw_tokens.specs.Tokens.{top, inside_of, changed, before_of, is_spaced, kept, behind, finished, rest, pieces_of}
use Rattle.sw_tokens.proofs.Walks.{rest_end, rest_step, gap_piece}
use Rattle.sw_convert_spelling.specs.Spelt.{Spelt, text_of, behind_gap, end_of, placed, placed_behind, innermost, opened, takes_gap, is_gap, IsToken}
use Rattle.sw_convert_spelling.proofs.MovedRuns.{first_byte, run_moved}
use Rattle.sw_convert_spelling.proofs.MovedPieces.{moved, piece_moved}
use Rattle.sw_convert_spelling.proofs.Choices.{left_no}

-- each is a token before those behind it and this text, and what is opened is closed
abbrev pub AreBefore : List Inside → Before → List Spelt → List ℕ → Type 0
AreBefore stack before [] after = stack ≡ []
AreBefore stack before (spelt ∷ list) after =
    (is_gap (innermost stack) spelt.gap spelt.bytes ≡ true)
    × (0 < length spelt.bytes)
    × IsToken (innermost stack) (behind_gap before spelt.gap) spelt (text_of list ++ after)
    × AreBefore (opened stack spelt.change) (before_of (Some spelt.kind)) list after

-- ---- what is open

-- the stack of a scan, and what is open in it, the innermost first
data Holds : List Opened → List Inside → Type 0 where
  nothing : Holds [] []
  more : {os : List Opened} {stack : List Inside} (o : Opened) → Holds os stack → Holds (os ++ o ∷ []) (o.inside ∷ stack)

last_of : (os : List Opened) (o : Opened) → length (os ++ o ∷ []) - 1 ≡ length os
last_of os o = let e = length-append os (o ∷ []) in omega (arith, e)

top_is : (os : List Opened) (stack : List Inside) → Holds os stack → top syntaxes.Scss os ≡ innermost stack
unfolding top
top_is os stack nothing = refl
top_is os stack (more {os = front} o h) =
    ap (inside_of syntaxes.Scss)
    (ap (slice_get (front ++ o ∷ [])) (last_of front o)
    ∙ slice_get-get_or (front ++ o ∷ []) (length front) o (let e = length-append front (o ∷ []) in omega (arith, e))
    ∙ ap Some (get_or-append_seam front o [] o))

changed_holds : (os : List Opened) (stack : List Inside) (change : Change) (at : ℕ) → Holds os stack
    → Holds (changed os change at) (opened stack change)
changed_holds os stack changes.Keep at h = h
changed_holds os stack (changes.Push inside) at h = more (record { start = at; inside = inside }) h
changed_holds os stack changes.Pop at nothing = nothing
changed_holds os stack changes.Pop at (more {os = front} {stack = outer} o h) =
    subst (λ (xs : List Opened). Holds xs outer)
    (sym (ap (λ (n : ℕ). take n (front ++ o ∷ [])) (last_of front o) ∙ take-append_seam front (o ∷ []))) h

closed_all : (os : List Opened) (stack : List Inside) → Holds os stack → stack ≡ [] → finished os ≡ Ok []
closed_all os stack nothing e = refl
closed_all os stack (more o h) e = absurd (cc)

-- ---- white space

-- it ends before what is none
white_run : (gap after : List ℕ) → list_all is_white gap ≡ true → is_white (byte after 0) ≡ false
    → run_end classes.White (gap ++ after) 0 ≡ length gap
white_run [] after all black =
    run_stop after classes.White 0
    (let e : next classes.White after 0 ≡ 0 = if_false (is_white (byte after 0)) (0 + 1) 0 black in omega (arith, e))
white_run (b ∷ gap) after all black =
    let first : is_white (byte (b ∷ (gap ++ after)) 0) ≡ true =
    ap is_white (first_byte b (gap ++ after)) ∙ and_left (is_white b) _ all in
    let goes : next classes.White (b ∷ (gap ++ after)) 0 ≡ 1 = if_true (is_white (byte (b ∷ (gap ++ after)) 0)) 1 0 first in
    sym (run_step (b ∷ (gap ++ after)) classes.White 0 (omega (arith, goes)))
    ∙ ap (run_end classes.White (b ∷ (gap ++ after))) goes
    ∙ run_moved (b ∷ []) (gap ++ after) classes.White 0
    ∙ ap (λ (n : ℕ). 1 + n) (white_run gap after (and_right (is_white b) _ all) black)
    ∙ (let e : 1 + length gap ≡ length (b ∷ gap) = omega arith in e)

white_url : (b : ℕ) → is_white b ≡ true → is_url_byte b ≡ false
white_url b e = grind (arith, nat_tests)

white_paren : (b : ℕ) → is_white b ≡ true → (b == sign ")") ≡ false
white_paren b e = grind (arith, nat_tests)

white_hash : (b : ℕ) → is_white b ≡ true → (b == sign "#") ≡ false
white_hash b e = grind (arith, nat_tests)

white_slash : (b : ℕ) → is_white b ≡ true → (b == sign "\\") ≡ false
white_slash b e = grind (arith, nat_tests)

module _ (bs : List ℕ) (at : ℕ) (e : is_white (byte bs at) ≡ true) where
  no_escape : escape_end bs at ≡ at
  unfolding escape_end
  no_escape = if_true (not (byte bs at == sign "\\")) at _ (ap not (white_slash (byte bs at) e))

  no_url : is_url_byte (byte bs at) ≡ false
  no_url = white_url (byte bs at) e

  url_stays : run_end classes.Url bs at ≡ at
  url_stays =
      let n = if_false (goes_in_url bs at) (at + 1) (escape_end bs at) (left_no (is_url_byte (byte bs at)) _ no_url)
      ∙ no_escape in
      run_stop bs classes.Url at (omega (arith, n))

  inner_stays : run_end classes.UrlInside bs at ≡ at
  inner_stays =
      let n = if_false (goes_in_inner_url bs at) (at + 1) (escape_end bs at)
      (left_no (is_url_byte (byte bs at) && _) _ (left_no (is_url_byte (byte bs at)) _ no_url)) ∙ no_escape in
      run_stop bs classes.UrlInside at (omega (arith, n))

  stays : (n : ℕ) → n ≡ at → nat_lt at n ≡ false
  stays n f = grind (arith, nat_tests)

  -- where white space may stand it is a piece
  white_piece : (inside : Inside) (before : Before) → takes_gap inside ≡ true
      → piece bs inside before at ≡ made_white (run_end classes.White bs at)
  unfolding url_piece
  white_piece insides.Sheet before t = gap_piece bs insides.Sheet before at e
  white_piece insides.Interpolation before t = gap_piece bs insides.Interpolation before at e
  white_piece insides.Url before t =
      if_false (byte bs at == sign ")") _ _ (white_paren (byte bs at) e)
      ∙ if_false (opens_at bs at) _ _ (left_no (byte bs at == sign "#") _ (white_hash (byte bs at) e))
      ∙ if_false _ _ _ (stays (run_end classes.Url bs at) url_stays)
      ∙ if_true (is_white (byte bs at)) _ _ e
  white_piece insides.UrlInside before t =
      if_false (byte bs at == sign ")") _ _ (white_paren (byte bs at) e)
      ∙ if_false (opens_at bs at) _ _ (left_no (byte bs at == sign "#") _ (white_hash (byte bs at) e))
      ∙ if_false _ _ _ (stays (run_end classes.UrlInside bs at) inner_stays)
      ∙ if_true (is_white (byte bs at)) _ _ e
  white_piece insides.Css before t = absurd (cc)
  white_piece (insides.Quotes q) before t = absurd (cc)
  white_piece insides.Comment before t = absurd (cc)

-- ---- one token after another

-- the piece at a place that text stands before is the one of the text behind, further on
piece_at : (front bs : List ℕ) (inside : Inside) (before : Before) (o : Option Piece) → piece bs inside before 0 ≡ o
    → piece (front ++ bs) inside before (length front) ≡ moved (length front) o
piece_at front bs inside before o e =
    ap (piece (front ++ bs) inside before) (let p : length front ≡ length front + 0 = omega arith in p)
    ∙ piece_moved front bs inside before 0 ∙ ap (moved (length front)) e

nonempty : (front bs : List ℕ) → 0 < length bs → length front < length (front ++ bs)
nonempty front bs some = let e = length-append front bs in omega (arith, e, some)

-- the tokens from behind a text on
abbrev Rest : List ℕ → List ℕ → List Opened → Before → List Token → Type 0
Rest front bs os before tokens = rest syntaxes.Scss (front ++ bs) os before (length front) ≡ Ok tokens

-- a piece, given what comes of the rest
one_piece : (front bytes after : List ℕ) (p : Piece) (os : List Opened) (before : Before) (tokens : List Token)
    → 0 < length bytes → p.to ≡ length front + length bytes
    → piece (front ++ (bytes ++ after)) (top syntaxes.Scss os) before (length front) ≡ Some p
    → Rest (front ++ bytes) after (changed os p.change (length front)) (before_of p.token) tokens
    → rest syntaxes.Scss (front ++ (bytes ++ after)) os before (length front) ≡ behind (kept p (length front) before) (Ok tokens)
one_piece front bytes after p os before tokens some to is others =
    let at = length front in
    let long = length-append bytes after in
    rest_step syntaxes.Scss (front ++ (bytes ++ after)) os before at p
    (nonempty front (bytes ++ after) (omega (arith, long, some))) is
    ∙ ap (behind (kept p at before))
    (ap (λ (k : ℕ). rest syntaxes.Scss (front ++ (bytes ++ after)) (changed os p.change at) (before_of p.token) k)
    (to ∙ sym (length-append front bytes))
    ∙ ap (λ (bs : List ℕ). rest syntaxes.Scss bs (changed os p.change at) (before_of p.token) (length (front ++ bytes)))
    (sym (append_assoc front bytes after)) ∙ others)

module _ (os : List Opened) (stack : List Inside) (h : Holds os stack) (before : Before) where
  one_token : (front : List ℕ) (spelt : Spelt) (after : List ℕ) (tokens : List Token) → 0 < length spelt.bytes
      → IsToken (innermost stack) before spelt after
      → ((us : List Opened) → Holds us (opened stack spelt.change)
      → Rest (front ++ spelt.bytes) after us (before_of (Some spelt.kind)) tokens)
      → Rest front (spelt.bytes ++ after) os before
      (record { kind = spelt.kind; from = length front; to = length front + length spelt.bytes; spaced = is_spaced before } ∷ tokens)
  one_token front spelt after tokens some is others =
      let at = length front in
      one_piece front spelt.bytes after
      (record { token = Some spelt.kind; to = at + length spelt.bytes; change = spelt.change }) os before tokens some refl
      (ap (λ (inside : Inside). piece (front ++ (spelt.bytes ++ after)) inside before at) (top_is os stack h)
      ∙ piece_at front (spelt.bytes ++ after) (innermost stack) before _ is)
      (others (changed os spelt.change at) (changed_holds os stack spelt.change at h))

  one_white : (front gap after : List ℕ) (tokens : List Token) → takes_gap (innermost stack) ≡ true → 0 < length gap
      → list_all is_white gap ≡ true → is_white (byte after 0) ≡ false → Rest (front ++ gap) after os befores.White tokens
      → Rest front (gap ++ after) os before tokens
  one_white front gap after tokens takes some white black others =
      let at = length front in
      one_piece front gap after (record { token = None; to = at + length gap; change = changes.Keep }) os before tokens some
      refl
      (ap (λ (inside : Inside). piece (front ++ (gap ++ after)) inside before at) (top_is os stack h)
      ∙ piece_at front (gap ++ after) (innermost stack) before _
      (white_piece (gap ++ after) 0 (first_white gap white some) (innermost stack) before takes
      ∙ ap made_white (white_run gap after white black))) others
    where
      first_white : (xs : List ℕ) → list_all is_white xs ≡ true → 0 < length xs → is_white (byte (xs ++ after) 0) ≡ true
      first_white [] w s = absurd (omega (arith, s))
      first_white (x ∷ xs) w s = ap is_white (first_byte x (xs ++ after)) ∙ and_left (is_white x) _ w

-- with the white space before it
one_spelt : (front gap : List ℕ) (spelt : Spelt) (after : List ℕ) (os : List Opened) (stack : List Inside)
    (before : Before) (tokens : List Token) → Holds os stack → is_gap (innermost stack) gap spelt.bytes ≡ true
    → 0 < length spelt.bytes → IsToken (innermost stack) (behind_gap before gap) spelt after
    → ((us : List Opened) → Holds us (opened stack spelt.change)
    → Rest ((front ++ gap) ++ spelt.bytes) after us (before_of (Some spelt.kind)) tokens)
    → Rest front (gap ++ (spelt.bytes ++ after)) os before
    (record {
      kind = spelt.kind;
      from = length front + length gap;
      to = (length front + length gap) + length spelt.bytes;
      spaced = is_spaced (behind_gap before gap);
    } ∷ tokens)
one_spelt front [] spelt after os stack before tokens h g some is others =
    let none : length front ≡ length front + 0 = omega arith in
    one_token os stack h before front spelt after tokens some is
    (λ us held. subst (λ (xs : List ℕ). Rest (xs ++ spelt.bytes) after us (before_of (Some spelt.kind)) tokens) (append-nil front) (others us held))
    ∙ ap (λ (k : ℕ). Ok (record { kind = spelt.kind; from = k; to = k + length spelt.bytes; spaced = is_spaced before } ∷ tokens)) none
one_spelt front (b ∷ gap) spelt after os stack before tokens h g some is others =
    let fits = and_right (takes_gap (innermost stack)) _ g in
    one_white os stack h before front (b ∷ gap) (spelt.bytes ++ after) _ (and_left (takes_gap (innermost stack)) _ g)
    (positive gap) (and_left (list_all is_white (b ∷ gap)) _ fits)
    (ap is_white (first_of spelt.bytes after some)
    ∙ not_true (is_white (byte spelt.bytes 0)) (and_right (list_all is_white (b ∷ gap)) _ fits))
    (one_token os stack h befores.White (front ++ (b ∷ gap)) spelt after tokens some is others
    ∙ ap (λ (k : ℕ). Ok (record { kind = spelt.kind; from = k; to = k + length spelt.bytes; spaced = true } ∷ tokens)) (length-append front (b ∷ gap)))
  where
    positive : (xs : List ℕ) → 0 < length (b ∷ xs)
    positive xs = omega arith

    first_of : (xs ys : List ℕ) → 0 < length xs → byte (xs ++ ys) 0 ≡ byte xs 0
    first_of [] ys s = absurd (omega (arith, s))
    first_of (x ∷ xs) ys s = first_byte x (xs ++ ys) ∙ sym (first_byte x xs)

module _ (after : List ℕ) (white : list_all is_white after ≡ true) where
  -- white space behind the last token
  last_white : (end front : List ℕ) (os : List Opened) (stack : List Inside) (before : Before) → Holds os stack → stack ≡ []
      → list_all is_white end ≡ true → Rest front end os before []
  unfolding byte
  last_white [] front os stack before h is w =
      rest_end syntaxes.Scss (front ++ []) os before (length front) (let e = length-append front [] in omega (arith, e))
      ∙ closed_all os stack h is
  last_white (b ∷ end) front os stack before h is w =
      subst (λ (t : List ℕ). Rest front t os before []) (append-nil (b ∷ end))
      (one_white os stack h before front (b ∷ end) [] [] (ap (λ (s : List Inside). takes_gap (innermost s)) is)
      (let some : 0 < length (b ∷ end) = omega arith in some) w refl
      (rest_end syntaxes.Scss ((front ++ b ∷ end) ++ []) os befores.White (length (front ++ b ∷ end))
      (let e = length-append (front ++ b ∷ end) [] in omega (arith, e)) ∙ closed_all os stack h is))

  all_walked : (list : List Spelt) (front : List ℕ) (os : List Opened) (stack : List Inside) (before : Before)
      → Holds os stack → AreBefore stack before list after
      → Rest front (text_of list ++ after) os before (placed_behind before (length front) list)
  all_walked [] front os stack before h is = last_white after front os stack before h is white
  all_walked (spelt ∷ list) front os stack before h (gap, some, is, more_are) =
      subst (λ (t : List ℕ). Rest front t os before (placed_behind before (length front) (spelt ∷ list)))
      (sym (append_assoc spelt.gap (spelt.bytes ++ text_of list) after
      ∙ ap (λ (t : List ℕ). spelt.gap ++ t) (append_assoc spelt.bytes (text_of list) after)))
      (one_spelt front spelt.gap spelt (text_of list ++ after) os stack before
      (placed_behind (before_of (Some spelt.kind)) (end_of (length front) spelt) list) h gap some is
      (λ us held. all_walked list ((front ++ spelt.gap) ++ spelt.bytes) us (opened stack spelt.change) (before_of (Some spelt.kind)) held more_are
      ∙ ap (λ (k : ℕ). Ok (placed_behind (before_of (Some spelt.kind)) k list))
      (length-append (front ++ spelt.gap) spelt.bytes ∙ ap (λ (k : ℕ). k + length spelt.bytes) (length-append front spelt.gap))))

  -- the text of these tokens, behind a byte order mark or none, has these tokens
  pub tokens_before : (mark : List ℕ) (list : List Spelt)
      → mark_length (mark ++ (text_of list ++ after)) ≡ length mark → AreBefore [] befores.Other list after
      → tokens_of (mark ++ (text_of list ++ after)) ≡ Ok (reached (placed (length mark) list)).list
  unfolding pieces_of tokens_in
  tokens_before mark list e is =
      ap tokens_by
      (ap (rest syntaxes.Scss (mark ++ (text_of list ++ after)) [] befores.Other) e
      ∙ all_walked list mark [] [] befores.Other nothing is)
