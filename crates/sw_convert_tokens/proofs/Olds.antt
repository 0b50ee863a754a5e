-- The tokens of a sheet that was read: the bytes of each, and the terminal that it is.
use Rattle.std.proofs.Common.{◌≡◌, ◌<◌, ℕ, zero, suc, ◌+◌, ◌-◌, Bool, true, false, if◌then◌else◌, nat_lt, List, [], ◌∷◌, ◌++◌, length, take, drop, Option, Some, None, Result, Ok, Err, refl, sym, ◌∙◌, ap, subst, arith, append_assoc, length-append, take-append-drop, length-drop}
use Rattle.std.specs.Prelude.{slice_get, slice_range, unwrap_or}
use Rattle.std.proofs.lemmas.Bool.Decides.{nat_tests}
use Rattle.std.proofs.lemmas.Option.{slice_get-get_or}
use Rattle.std.proofs.Math.Seq.{get_or-append_seam}
use Rattle.sw_text.specs.Places.{mark_length}
use Rattle.sw_text_scan.proofs.Bounds.{if_false, Onward}
use Rattle.sw_text_locality.proofs.Written.{length_range}
use Rattle.sw_tokens.specs.declared.pieces.Before.{Before}
use Rattle.sw_tokens.specs.declared.pieces.Before.TheVariants as befores
use Rattle.sw_tokens.specs.declared.pieces.Change.{Change}
use Rattle.sw_tokens.specs.declared.pieces.Piece.{Piece}
use Rattle.sw_tokens.specs.declared.scan.Opened.{Opened}
use Rattle.sw_tokens.specs.declared.skips.Inside.{Inside}
use Rattle.sw_tokens.specs.declared.token.Syntax.TheVariants as syntaxes
use Rattle.sw_tokens.specs.declared.token.Token.{Token}
use Rattle.sw_tokens.specs.declared.token.TokenKind.{TokenKind}
use Rattle.sw_tokens.specs.Ends.{opens, reached, tokens_by, tokens_in, tokens_of}
use Rattle.sw_tokens.specs.Pieces.{made, piece}
use Rattle.sw_tokens.specs.Tokens.{top, changed, before_of, last_start, kept_by, kept, behind, finished, walk, rest, pieces_of, is_spaced}
use Rattle.sw_tokens.proofs.Forward.{piece_onward}
use Rattle.sw_parse_terminals.specs.declared.lexeme.Lexeme.{Lexeme}
use Rattle.sw_parse_lexemes.specs.declared.plain.Plain.{Plain}
use Rattle.sw_parse_lexemes.specs.declared.state.State.{State}
use Rattle.sw_parse_lexemes.specs.Ahead.{sort_in, sort_at}
use Rattle.sw_parse_lexemes.specs.Plains.{end_by, plain_of, plains_from, plains_of}
use Rattle.sw_parse_lexemes.specs.Sorts.{sort_of}
use Rattle.sw_parse_lexemes.specs.Terminals.{terminal_of}
use Rattle.sw_parse_lexemes.specs.Steps.{placed, is_white}
use Rattle.sw_parse_lexemes.specs.Lexemes.{lexeme_of, skipped, kept as kept_lexeme, read_placed, read, optional, lexemes_from, lexemes_of, beginning}
use Rattle.sw_parse_table.specs.declared.source.Source.{Source}
use Rattle.sw_parse_table.specs.Sources.{bytes, lexeme_at, from_in, to_in, from_at, to_at, bytes_at}
use Rattle.sw_convert_spelling.specs.Spelt.{IsToken}
use Rattle.sw_convert_spelling.proofs.MovedPieces.{moved, piece_moved}
use Rattle.sw_convert_tokens.specs.Values.{WasRead}
use Rattle.sw_convert_tokens.proofs.OriginChoices.{fits}
use Rattle.sw_convert_tokens.proofs.Origins.{told_fits}

-- each of a list
abbrev pub Every : {A : Type 0} → (A → Type 0) → List A → Type 0
Every P [] = Unit {0}
Every P (x ∷ xs) = P x × Every P xs

every_append : {A : Type 0} (P : A → Type 0) (xs ys : List A) → Every P xs → Every P ys → Every P (xs ++ ys)
every_append P [] ys e f = f
every_append P (x ∷ xs) ys (e, es) f = (e, every_append P xs ys es f)

pub every_at : {A : Type 0} (P : A → Type 0) (xs : List A) (n : ℕ) (x : A) → Every P xs → slice_get xs n ≡ Some x → P x
every_at P [] n x e got = absurd (cc)
every_at P (y ∷ xs) zero x (e, es) got = subst P (ap (λ (o : Option _). unwrap_or o y) got) e
every_at P (y ∷ xs) (suc n) x (e, es) got = every_at P xs n x es got

-- ---- tokens

-- what begins where a token does is the token, up to where its own text ends
pub record HasPiece (bs : List ℕ) (t : Token) : Type 0 where
  pub inside : Inside
  pub before : Before
  pub change : Change
  pub own : ℕ
  pub is : piece bs inside before t.from ≡ made t.kind own change
  pub spaced : t.spaced ≡ is_spaced before
  pub within : t.from < length bs
  pub closed : opens t.kind ≡ false → own ≡ t.to

abbrev listed_of : List Token → Result (List Token) ℕ → List Token
listed_of default (Ok list) = list
listed_of default (Err k) = default

module _ (bs : List ℕ) where
  none_left : (os : List Opened) (ts : List Token) → finished os ≡ Ok ts → Every (HasPiece bs) ts
  none_left [] ts e = subst (Every (HasPiece bs)) (ap (listed_of []) e) tt
  none_left (o ∷ os) ts e = absurd (cc)

  piece_kept : (inside : Inside) (before : Before) (at : ℕ) (token : Option TokenKind) (to : ℕ) (change : Change)
      → at < length bs → piece bs inside before at ≡ Some (record { token = token; to = to; change = change })
      → Every (HasPiece bs) (kept_by token at to before)
  piece_kept inside before at None to change within is = tt
  piece_kept inside before at (Some kind) to change within is = (
    record { inside = inside; before = before; change = change; own = to; is = is; spaced = refl; within = within; closed = λ o. refl },
    tt,
  )

  inside_text : (at : ℕ) → nat_lt at (length bs) ≡ true → at < length bs
  inside_text at e = grind (arith, nat_tests)

  abbrev Further : ℕ → Type 0
  Further n =
      (os : List Opened) (before : Before) (at : ℕ) (ts : List Token) → walk syntaxes.Scss bs n os before at ≡ Ok ts
      → Every (HasPiece bs) ts

  module _ (n : ℕ) (again : Further n) (os : List Opened) (before : Before) (at : ℕ) (ts : List Token) where
    further : (p : Piece) → at < length bs → piece bs (top syntaxes.Scss os) before at ≡ Some p
        → (r : Result (List Token) ℕ)
        → walk syntaxes.Scss bs n (changed os p.change at) (before_of p.token) p.to ≡ r
        → behind (kept p at before) r ≡ Ok ts → Every (HasPiece bs) ts
    further p within is (Err k) w f = absurd (cc)
    further p within is (Ok us) w f =
        subst (Every (HasPiece bs)) (ap (listed_of []) f)
        (every_append (HasPiece bs) (kept p at before) us
        (piece_kept (top syntaxes.Scss os) before at p.token p.to p.change within is)
        (again (changed os p.change at) (before_of p.token) p.to us w))

    abbrev on : Option Piece → Result (List Token) ℕ
    on o = elim o as (λ _. Result (List Token) ℕ) [
      | None ↦ Err (last_start os at)
      | Some p ↦ behind (kept p at before) (walk syntaxes.Scss bs n (changed os p.change at) (before_of p.token) p.to)
    ]

    found : at < length bs → (o : Option Piece) → piece bs (top syntaxes.Scss os) before at ≡ o → on o ≡ Ok ts
        → Every (HasPiece bs) ts
    found within None is f = absurd (cc)
    found within (Some p) is f =
        further p within is (walk syntaxes.Scss bs n (changed os p.change at) (before_of p.token) p.to) refl f

    here : (b : Bool) → nat_lt at (length bs) ≡ b
        → (if b then on (piece bs (top syntaxes.Scss os) before at) else finished os) ≡ Ok ts → Every (HasPiece bs) ts
    here true b f = found (inside_text at b) (piece bs (top syntaxes.Scss os) before at) refl f
    here false b f = none_left os ts f

  walked : (n : ℕ) → Further n
  walked zero os before at ts e = none_left os ts e
  walked (suc n) os before at ts e = here n (walked n) os before at ts (nat_lt at (length bs)) refl e

  all_reached : (ts : List Token) → Every (HasPiece bs) ts → Every (HasPiece bs) (reached ts).list
  all_reached [] e = tt
  all_reached (t ∷ ts) (e, es) = (
    record {
      inside = e.inside;
      before = e.before;
      change = e.change;
      own = e.own;
      is = e.is;
      spaced = e.spaced;
      within = e.within;
      closed = λ o. e.closed o ∙ sym (if_false (opens t.kind) _ _ o);
    },
    all_reached ts es,
  )

  pub all_tokens : (list : List Token) → tokens_of bs ≡ Ok list → Every (HasPiece bs) list
  unfolding tokens_in pieces_of rest
  all_tokens list e = go (pieces_of syntaxes.Scss bs) refl e
    where
      go : (r : Result (List Token) ℕ) → pieces_of syntaxes.Scss bs ≡ r → tokens_by r ≡ Ok list → Every (HasPiece bs) list
      go (Err k) p f = absurd (cc)
      go (Ok ts) p f =
          subst (Every (HasPiece bs)) (ap (listed_of []) f)
          (all_reached ts (walked (suc (length bs - mark_length bs)) [] befores.Other (mark_length bs) ts p))

  -- ---- as the pass over tokens has them

  record HasToken (plain : Plain) : Type 0 where
    token : Token
    piece_is : HasPiece bs token
    from : plain.from ≡ token.from
    sort : plain.sort ≡ sort_of token.kind (slice_range bs token.from token.to)
    to : opens token.kind ≡ false → plain.to ≡ token.to

  end_closed : (token : Token) (next : Option Token) → opens token.kind ≡ false → end_by token next ≡ token.to
  end_closed token None o = refl
  end_closed token (Some next) o = if_false (opens token.kind) next.from token.to o

  all_plains : (gap : ℕ) (list : List Token) → Every (HasPiece bs) list → Every HasToken (plains_from bs gap list)
  unfolding plain_of
  all_plains gap [] e = tt
  all_plains gap (token ∷ list) (e, es) = (
    record {
      token = token;
      piece_is = e;
      from = refl;
      sort = refl;
      to = λ o. end_closed token (slice_get list 0) o;
    },
    all_plains (end_by token (slice_get list 0)) list es,
  )

-- ---- lexemes

-- a lexeme is one of the tokens, as a terminal that fits it
pub record HasPlain (plains : List Plain) (lexeme : Lexeme) : Type 0 where
  pub plain : Plain
  pub got : slice_get plains lexeme.token ≡ Some plain
  pub from : lexeme.from ≡ plain.from
  pub to : lexeme.to ≡ plain.to
  pub fit : fits lexeme.terminal plain.sort ≡ true

module _ (plains : List Plain) where
  there_is : (done : List Plain) (plain : Plain) (others : List Plain) → plains ≡ done ++ plain ∷ others
      → slice_get plains (length done) ≡ Some plain
  there_is done plain others e =
      ap (λ (t : List Plain). slice_get t (length done)) e
      ∙ slice_get-get_or (done ++ plain ∷ others) (length done) plain (let l = length-append done (plain ∷ others) in omega (arith, l))
      ∙ ap Some (get_or-append_seam done plain others plain)

  lexeme_has : (state : State) (at : ℕ) (plain : Plain) (commented : Bool) → slice_get plains at ≡ Some plain
      → HasPlain plains (lexeme_of plain at commented (terminal_of state plains at))
  unfolding sort_at
  lexeme_has state at plain commented got = record {
    plain = plain;
    got = got;
    from = refl;
    to = refl;
    fit = ap (λ (o : Option Plain). fits (terminal_of state plains at) (sort_in o)) (sym got) ∙ told_fits state plains at;
  }

  one_read : (state : State) (at : ℕ) (plain : Plain) → slice_get plains at ≡ Some plain
      → Every (HasPlain plains) (optional (read state plains at plain).lexeme)
  unfolding read
  one_read state at plain got = ignoring (nat_lt 0 state.ignored)
    where
      keeping : (new : State) (b : Bool)
          → Every (HasPlain plains) (optional (if b then skipped new plain else kept_lexeme new at plain (terminal_of new plains at)).lexeme)
      keeping new true = tt
      keeping new false = (lexeme_has new at plain new.commented got, tt)

      ignoring : (b : Bool)
          → Every (HasPlain plains)
          (optional (if b then skipped state plain else read_placed (placed state plains at) plains at plain).lexeme)
      ignoring true = tt
      ignoring false = keeping (placed state plains at) (is_white (placed state plains at) plains at)

  all_lexemes : (others done : List Plain) (state : State) (at : ℕ) → plains ≡ done ++ others → length done ≡ at
      → Every (HasPlain plains) (lexemes_from plains state at others)
  all_lexemes [] done state at e l = tt
  all_lexemes (plain ∷ others) done state at e l =
      every_append (HasPlain plains) (optional (read state plains at plain).lexeme)
      (lexemes_from plains (read state plains at plain).state (at + 1) others)
      (one_read state at plain (ap (slice_get plains) (sym l) ∙ there_is done plain others e))
      (all_lexemes others (done ++ plain ∷ []) (read state plains at plain).state (at + 1)
      (e ∙ sym (append_assoc done (plain ∷ []) others))
      (length-append done (plain ∷ []) ∙ ap (λ (n : ℕ). n + 1) l))

-- ---- a token that stood in the sheet

-- where it opens nothing, these are the bytes of the token
pub record IsOwn (source : Source) (k : ℕ) (kind : TokenKind) (text : List ℕ) : Type 0 where
  pub bytes_are : bytes_at source k ≡ text
  pub some : 0 < length text
  pub inside : Inside
  pub before : Before
  pub change : Change
  pub after : List ℕ
  pub is : IsToken inside before (record { gap = []; kind = kind; bytes = text; change = change }) after

-- its kind and its bytes, which are this token in some code, and the terminal that it is fits it
pub record OldToken (source : Source) (k : ℕ) (lexeme : Lexeme) : Type 0 where
  pub kind : TokenKind
  pub text : List ℕ
  pub sort : sort_at (plains_of (bytes source) source.tokens.now.list) lexeme.token ≡ sort_of kind text
  pub fit : fits lexeme.terminal (sort_of kind text) ≡ true
  pub own : opens kind ≡ false → IsOwn source k kind text

module _ (bs : List ℕ) (t : Token) (e : HasPiece bs t) where
  abbrev own_text : List ℕ
  own_text = slice_range bs t.from t.to

  abbrev own_after : List ℕ
  own_after = drop (t.to - t.from) (drop t.from bs)

  -- where its own text ends is behind its first byte and within the text
  onward : Onward bs (t.from + 1) e.own
  onward = piece_onward bs e.inside e.before t.from (record { token = Some t.kind; to = e.own; change = e.change }) e.within e.is

  own_length : opens t.kind ≡ false → length own_text ≡ t.to - t.from
  own_length o =
      let on = onward in
      let forward = on.forward in
      let within = on.within in
      let to = e.closed o in
      length_range bs t.from t.to (omega (arith, within, to))

  own_some : opens t.kind ≡ false → 0 < length own_text
  own_some o =
      let on = onward in
      let forward = on.forward in
      let to = e.closed o in
      let l = own_length o in
      omega (arith, forward, to, l)

  -- a piece that stands further on is one by itself
  moved_piece : (d own : ℕ) (q : Option Piece) → moved d q ≡ made t.kind own e.change
      → q ≡ made t.kind (own - d) e.change
  moved_piece d own None m = absurd (cc)
  moved_piece d own (Some p) m =
      let back : Option Piece → Piece = λ o. unwrap_or o p in
      let token : p.token ≡ Some t.kind = ap (λ (o : Option Piece). (back o).token) m in
      let to : d + p.to ≡ own = ap (λ (o : Option Piece). (back o).to) m in
      let change : p.change ≡ e.change = ap (λ (o : Option Piece). (back o).change) m in
      let end : p.to ≡ own - d = omega (arith, to) in
      ap (λ (k : Option TokenKind). Some (record { token = k; to = p.to; change = p.change })) token
      ∙ ap (λ (n : ℕ). made t.kind n p.change) end ∙ ap (λ (c : Change). made t.kind (own - d) c) change

  own_is : opens t.kind ≡ false
      → IsToken e.inside e.before (record { gap = []; kind = t.kind; bytes = own_text; change = e.change }) own_after
  own_is o =
      let on = onward in
      let within = e.within in
      let front = take t.from bs in
      let others = drop t.from bs in
      let whole : front ++ others ≡ bs = take-append-drop t.from bs in
      let rest_long = length-drop t.from bs in
      let both_long = length-append front others in
      let all_long = ap length whole in
      let at : length front ≡ t.from = omega (arith, within, rest_long, both_long, all_long) in
      let there : piece (front ++ others) e.inside e.before (length front + 0) ≡ made t.kind e.own e.change =
      ap (λ (n : ℕ). piece (front ++ others) e.inside e.before n) (let z : length front + 0 ≡ t.from = omega (arith, at) in z)
      ∙ ap (λ (xs : List ℕ). piece xs e.inside e.before t.from) whole ∙ e.is in
      let alone = moved_piece (length front) e.own (piece others e.inside e.before 0)
      (sym (piece_moved front others e.inside e.before 0) ∙ there) in
      let to = e.closed o in
      let long = own_length o in
      ap (λ (xs : List ℕ). piece xs e.inside e.before 0) (take-append-drop (t.to - t.from) others) ∙ alone
      ∙ ap (λ (n : ℕ). made t.kind n e.change) (let z : e.own - length front ≡ length own_text = omega (arith, at, to, long) in z)

pub lexeme_plain : (source : Source) → WasRead source → (k : ℕ) (lexeme : Lexeme) → lexeme_at source k ≡ Some lexeme
    → HasPlain (plains_of (bytes source) source.tokens.now.list) lexeme
unfolding lexemes_of
lexeme_plain source was k lexeme there =
    let plains = plains_of (bytes source) source.tokens.now.list in
    every_at (HasPlain plains) source.lexemes.now k lexeme
    (subst (Every (HasPlain plains)) (sym was.lexemes) (all_lexemes plains plains [] beginning 0 refl refl)) there

-- each lexeme of a sheet that was read
pub old_token : (source : Source) → WasRead source → (k : ℕ) (lexeme : Lexeme) → lexeme_at source k ≡ Some lexeme
    → OldToken source k lexeme
unfolding from_at to_at sort_at
old_token source was k lexeme there =
    let bs = bytes source in
    let plains = plains_of bs source.tokens.now.list in
    let has = lexeme_plain source was k lexeme there in
    let it = every_at (HasToken bs) plains lexeme.token has.plain
    (all_plains bs 0 source.tokens.now.list (all_tokens bs source.tokens.now.list was.tokens)) has.got in
    let t = it.token in record {
      kind = t.kind;
      text = slice_range bs t.from t.to;
      sort = ap sort_in has.got ∙ it.sort;
      fit = ap (fits lexeme.terminal) (sym it.sort) ∙ has.fit;
      own = λ o. record {
        bytes_are =
            ap (λ (l : Option Lexeme). slice_range bs (from_in source l) (to_in source l)) there
            ∙ ap (λ (n : ℕ). slice_range bs n lexeme.to) (has.from ∙ it.from)
            ∙ ap (λ (n : ℕ). slice_range bs t.from n) (has.to ∙ it.to o);
        some = own_some bs t it.piece_is o;
        inside = it.piece_is.inside;
        before = it.piece_is.before;
        change = it.piece_is.change;
        after = own_after bs t it.piece_is;
        is = own_is bs t it.piece_is o;
      };
    }
