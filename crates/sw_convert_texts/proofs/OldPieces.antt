-- The tokens of a sheet that was read, each with the bytes before it and behind it.
use Rattle.std.proofs.Common.{◌≡◌, ◌<◌, ℕ, ◌+◌, ◌-◌, false, List, [], ◌∷◌, ◌++◌, length, take, drop, Option, Some, None, refl, sym, ◌∙◌, ap, arith, length-append, take-append-drop, length-drop}
use Rattle.std.specs.Prelude.{slice_get, slice_range, unwrap_or}
use Rattle.sw_text_scan.proofs.Bounds.{if_false, Onward}
use Rattle.sw_text_locality.proofs.Written.{length_range}
use Rattle.sw_tokens.specs.declared.pieces.Before.{Before}
use Rattle.sw_tokens.specs.declared.pieces.Change.{Change}
use Rattle.sw_tokens.specs.declared.pieces.Piece.{Piece}
use Rattle.sw_tokens.specs.declared.skips.Inside.{Inside}
use Rattle.sw_tokens.specs.declared.token.Token.{Token}
use Rattle.sw_tokens.specs.declared.token.TokenKind.{TokenKind}
use Rattle.sw_tokens.specs.Ends.{opens}
use Rattle.sw_tokens.specs.Pieces.{made, piece}
use Rattle.sw_tokens.specs.Tokens.{is_spaced}
use Rattle.sw_tokens.proofs.Forward.{piece_onward}
use Rattle.sw_parse_terminals.specs.declared.lexeme.Lexeme.{Lexeme}
use Rattle.sw_parse_lexemes.specs.declared.plain.Plain.{Plain}
use Rattle.sw_parse_lexemes.specs.Ahead.{sort_in, sort_at, spaced_in, spaced_at}
use Rattle.sw_parse_lexemes.specs.Plains.{end_by, plain_of, plains_from}
use Rattle.sw_parse_lexemes.specs.Sorts.{sort_of}
use Rattle.sw_parse_table.specs.declared.source.Source.{Source}
use Rattle.sw_parse_table.specs.Sources.{bytes, lexeme_at, from_in, to_in, from_at, to_at, bytes_at}
use Rattle.sw_convert_spelling.proofs.MovedPieces.{moved, piece_moved}
use Rattle.sw_convert_tokens.specs.Values.{WasRead}
use Rattle.sw_convert_tokens.proofs.Laid.{range_behind}
use Rattle.sw_convert_tokens.proofs.Olds.{Every, every_at, HasPiece, all_tokens}
use Rattle.sw_convert_texts.proofs.LexemePairs.{plains_in, comes_at}

-- where it opens nothing: the bytes before it, its own and those behind it, and what it is
pub record Whole (source : Source) (lexeme : Lexeme) (kind : TokenKind) (text : List ℕ) : Type 0 where
  pub front : List ℕ
  pub after : List ℕ
  pub whole : bytes source ≡ front ++ (text ++ after)
  pub from : lexeme.from ≡ length front
  pub to : lexeme.to ≡ length front + length text
  pub some : 0 < length text
  pub inside : Inside
  pub before : Before
  pub change : Change
  pub is : piece (text ++ after) inside before 0 ≡ made kind (length text) change
  pub spaced : spaced_at (plains_in source) lexeme.token ≡ is_spaced before

-- its kind and its bytes
pub record OldPiece (source : Source) (lexeme : Lexeme) : Type 0 where
  pub kind : TokenKind
  pub text : List ℕ
  pub sort : sort_at (plains_in source) lexeme.token ≡ sort_of kind text
  pub own : opens kind ≡ false → Whole source lexeme kind text

module _ (bs : List ℕ) where
  record HasToken (plain : Plain) : Type 0 where
    token : Token
    piece_is : HasPiece bs token
    from : plain.from ≡ token.from
    spaced : plain.spaced ≡ token.spaced
    sort : plain.sort ≡ sort_of token.kind (slice_range bs token.from token.to)
    to : opens token.kind ≡ false → plain.to ≡ token.to

  end_closed : (token : Token) (next : Option Token) → opens token.kind ≡ false → end_by token next ≡ token.to
  end_closed token None o = refl
  end_closed token (Some next) o = if_false (opens token.kind) next.from token.to o

  all_plains : (gap : ℕ) (list : List Token) → Every (HasPiece bs) list → Every HasToken (plains_from bs gap list)
  unfolding plain_of
  all_plains gap [] e = tt
  all_plains gap (token ∷ list) (e, es) = (
    record {
      token = token;
      piece_is = e;
      from = refl;
      spaced = refl;
      sort = refl;
      to = λ o. end_closed token (slice_get list 0) o;
    },
    all_plains (end_by token (slice_get list 0)) list es,
  )

  module _ (t : Token) (e : HasPiece bs t) (o : opens t.kind ≡ false) where
    abbrev own_text : List ℕ
    own_text = slice_range bs t.from t.to

    onward : Onward bs (t.from + 1) e.own
    onward = piece_onward bs e.inside e.before t.from (record { token = Some t.kind; to = e.own; change = e.change }) e.within e.is

    own_length : length own_text ≡ t.to - t.from
    own_length =
        let on = onward in
        let within = on.within in
        let to = e.closed o in
        length_range bs t.from t.to (omega (arith, within, to))

    front_length : length (take t.from bs) ≡ t.from
    front_length =
        let within = e.within in
        let rest = length-drop t.from bs in
        let both = length-append (take t.from bs) (drop t.from bs) in
        let all = ap length (take-append-drop t.from bs) in omega (arith, within, rest, both, all)

    -- a piece that stands further on is one by itself
    moved_piece : (d own : ℕ) (q : Option Piece) → moved d q ≡ made t.kind own e.change → q ≡ made t.kind (own - d) e.change
    moved_piece d own None m = absurd (cc)
    moved_piece d own (Some p) m =
        let back : Option Piece → Piece = λ o. unwrap_or o p in
        let token : p.token ≡ Some t.kind = ap (λ (o : Option Piece). (back o).token) m in
        let to : d + p.to ≡ own = ap (λ (o : Option Piece). (back o).to) m in
        let change : p.change ≡ e.change = ap (λ (o : Option Piece). (back o).change) m in
        let end : p.to ≡ own - d = omega (arith, to) in
        ap (λ (k : Option TokenKind). Some (record { token = k; to = p.to; change = p.change })) token
        ∙ ap (λ (n : ℕ). made t.kind n p.change) end ∙ ap (λ (c : Change). made t.kind (own - d) c) change

    abbrev others : List ℕ
    others = drop t.from bs

    alone : piece (own_text ++ drop (t.to - t.from) others) e.inside e.before 0 ≡ made t.kind (length own_text) e.change
    alone =
        let at = front_length in
        let there : piece (take t.from bs ++ others) e.inside e.before (length (take t.from bs) + 0) ≡ made t.kind e.own e.change =
        ap (λ (n : ℕ). piece (take t.from bs ++ others) e.inside e.before n) (let z : length (take t.from bs) + 0 ≡ t.from = omega (arith, at) in z)
        ∙ ap (λ (xs : List ℕ). piece xs e.inside e.before t.from) (take-append-drop t.from bs) ∙ e.is in
        let it = moved_piece (length (take t.from bs)) e.own (piece others e.inside e.before 0)
        (sym (piece_moved (take t.from bs) others e.inside e.before 0) ∙ there) in
        let to = e.closed o in
        let long = own_length in
        ap (λ (xs : List ℕ). piece xs e.inside e.before 0) (take-append-drop (t.to - t.from) others) ∙ it
        ∙ ap (λ (n : ℕ). made t.kind n e.change) (let z : e.own - length (take t.from bs) ≡ length own_text = omega (arith, at, to, long) in z)

    own_some : 0 < length own_text
    own_some =
        let on = onward in
        let forward = on.forward in
        let to = e.closed o in
        let l = own_length in
        omega (arith, forward, to, l)

    in_parts : bs ≡ take t.from bs ++ (own_text ++ drop (t.to - t.from) others)
    in_parts =
        sym (take-append-drop t.from bs)
        ∙ ap (λ (xs : List ℕ). take t.from bs ++ xs) (sym (take-append-drop (t.to - t.from) others))

-- each lexeme of a sheet that was read
pub old_piece : (source : Source) → WasRead source → (k : ℕ) (lexeme : Lexeme) → lexeme_at source k ≡ Some lexeme
    → OldPiece source lexeme
unfolding sort_at spaced_at
old_piece source was k lexeme there =
    let bs = bytes source in
    let it = comes_at source was k lexeme there in
    let has = every_at (HasToken bs) (plains_in source) lexeme.token it.plain
    (all_plains bs 0 source.tokens.now.list (all_tokens bs source.tokens.now.list was.tokens)) it.got in
    let t = has.token in record {
      kind = t.kind;
      text = slice_range bs t.from t.to;
      sort = ap sort_in it.got ∙ has.sort;
      own = λ o. record {
        front = take t.from bs;
        after = drop (t.to - t.from) (drop t.from bs);
        whole = in_parts bs t has.piece_is o;
        from = it.from ∙ has.from ∙ sym (front_length bs t has.piece_is o);
        to = it.to ∙ has.to o
            ∙ (let at = front_length bs t has.piece_is o in
            let long = own_length bs t has.piece_is o in
            let on = onward bs t has.piece_is o in
            let forward = on.forward in
            let closed = has.piece_is.closed o in
            let z : t.to ≡ length (take t.from bs) + length (slice_range bs t.from t.to) = omega (arith, at, long, forward, closed) in z);
        some = own_some bs t has.piece_is o;
        inside = has.piece_is.inside;
        before = has.piece_is.before;
        change = has.piece_is.change;
        is = alone bs t has.piece_is o;
        spaced = ap spaced_in it.got ∙ has.spaced ∙ has.piece_is.spaced;
      };
    }

-- its bytes are those at its place
pub whole_bytes : (source : Source) (k : ℕ) (lexeme : Lexeme) (kind : TokenKind) (text : List ℕ)
    → lexeme_at source k ≡ Some lexeme → Whole source lexeme kind text → bytes_at source k ≡ text
unfolding from_at to_at
whole_bytes source k lexeme kind text there it =
    ap (λ (l : Option Lexeme). slice_range (bytes source) (from_in source l) (to_in source l)) there
    ∙ ap (λ (n : ℕ). slice_range (bytes source) n lexeme.to) it.from
    ∙ ap (λ (n : ℕ). slice_range (bytes source) (length it.front) n) it.to
    ∙ ap (λ (bs : List ℕ). slice_range bs (length it.front) (length it.front + length text)) it.whole
    ∙ range_behind it.front text it.after
