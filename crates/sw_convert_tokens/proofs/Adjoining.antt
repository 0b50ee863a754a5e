-- A token that stands directly behind another one begins where that one ends.
use Rattle.std.proofs.Common.{◌≡◌, ◌≤◌, ℕ, zero, suc, ◌+◌, ◌-◌, Bool, true, false, ◌&&◌, if◌then◌else◌, nat_lt, List, [], ◌∷◌, ◌++◌, length, take, drop, Option, Some, None, Result, Ok, Err, refl, sym, ◌∙◌, ap, subst, arith}
use Rattle.std.specs.Prelude.{slice_get, slice_range, unwrap_or}
use Rattle.std.proofs.Math.Seq.{take-add}
use Rattle.std.proofs.lemmas.List.{drop-drop}
use Rattle.sw_text.specs.Places.{mark_length}
use Rattle.sw_text_scan.proofs.Bounds.{if_false}
use Rattle.sw_tokens.specs.declared.pieces.Before.{Before}
use Rattle.sw_tokens.specs.declared.pieces.Before.TheVariants as befores
use Rattle.sw_tokens.specs.declared.pieces.Piece.{Piece}
use Rattle.sw_tokens.specs.declared.scan.Opened.{Opened}
use Rattle.sw_tokens.specs.declared.token.Syntax.TheVariants as syntaxes
use Rattle.sw_tokens.specs.declared.token.Token.{Token}
use Rattle.sw_tokens.specs.declared.token.TokenKind.{TokenKind}
use Rattle.sw_tokens.specs.Ends.{opens, reaching, reached, tokens_by, tokens_in, tokens_of}
use Rattle.sw_tokens.specs.Pieces.{piece}
use Rattle.sw_tokens.proofs.Forward.{piece_onward}
use Rattle.sw_tokens.specs.Tokens.{top, changed, before_of, is_spaced, last_start, kept_by, kept, behind, finished, walk, rest, pieces_of}
use Rattle.sw_parse_terminals.specs.declared.lexeme.Lexeme.{Lexeme}
use Rattle.sw_parse_terminals.specs.declared.terminal.Terminal.{Terminal}
use Rattle.sw_parse_terminals.specs.declared.terminal.Terminal.TheVariants as terminals
use Rattle.sw_parse_lexemes.specs.declared.plain.Plain.{Plain}
use Rattle.sw_parse_lexemes.specs.declared.state.Bracket.{Bracket}
use Rattle.sw_parse_lexemes.specs.declared.state.State.{State}
use Rattle.sw_parse_lexemes.specs.Ahead.{spaced_in, spaced_at, sort_in, sort_at}
use Rattle.sw_parse_lexemes.specs.Classes.{is_comment}
use Rattle.sw_parse_lexemes.specs.Names.{is}
use Rattle.sw_parse_lexemes.specs.Sorts.{sort_of}
use Rattle.sw_parse_lexemes.specs.Plains.{end_by, plain_of, plains_from, plains_of}
use Rattle.sw_parse_lexemes.specs.Steps.{opened_by, closes, inserted, popped, stepped, further_mode, in_word, after, after_opening, placed, is_white, past_white}
use Rattle.sw_parse_lexemes.specs.Terminals.{terminal_of}
use Rattle.sw_parse_lexemes.specs.Lexemes.{Reading, skipped, kept as kept_lexeme, read_placed, read, optional, lexemes_from, lexemes_of, beginning}
use Rattle.sw_parse_table.specs.declared.source.Source.{Source}
use Rattle.sw_parse_table.specs.Sources.{bytes, lexeme_at, from_in, to_in, from_at, to_at, bytes_at, bytes_between}
use Rattle.sw_convert_tokens.specs.Values.{WasRead}
use Rattle.sw_convert_tokens.proofs.Olds.{HasPiece, every_at, all_tokens, lexeme_plain}

abbrev listed_of : List Token → Result (List Token) ℕ → List Token
listed_of default (Ok list) = list
listed_of default (Err k) = default

-- ---- tokens

-- the first of these tokens, behind white space or not, begins at a place where no white space stands before it
abbrev Leads : Bool → ℕ → List Token → Type 0
Leads spaced at [] = Unit {0}
Leads spaced at (t ∷ ts) = (spaced ≡ true → t.spaced ≡ true) × (t.spaced ≡ false → t.from ≡ at)

-- each token but the first begins where the one before it ends, where no white space stands between them
abbrev Adjoin : List Token → Type 0
Adjoin [] = Unit {0}
Adjoin (t ∷ ts) = Leads false t.to ts × Adjoin ts

module _ (bs : List ℕ) where
  abbrev Both : Bool → ℕ → List Token → Type 0
  Both spaced at ts = Leads spaced at ts × Adjoin ts

  none_left : (spaced : Bool) (at : ℕ) (os : List Opened) (ts : List Token) → finished os ≡ Ok ts → Both spaced at ts
  none_left spaced at [] ts e = subst (Both spaced at) (ap (listed_of []) e) (tt, tt)
  none_left spaced at (o ∷ os) ts e = absurd (cc)

  abbrev Further : ℕ → Type 0
  Further n =
      (os : List Opened) (before : Before) (at : ℕ) (ts : List Token) → walk syntaxes.Scss bs n os before at ≡ Ok ts
      → Both (is_spaced before) at ts

  -- behind white space the first token has some before it
  white_leads : (spaced : Bool) (at to : ℕ) (us : List Token) → Leads true to us → Leads spaced at us
  white_leads spaced at to [] l = tt
  white_leads spaced at to (u ∷ us) (l, m) =
      (λ e. l refl, λ e. absurd (let wrong : true ≡ false = sym (l refl) ∙ e in cc))

  any_leads : (spaced : Bool) (at : ℕ) (us : List Token) → Leads spaced at us → Leads false at us
  any_leads spaced at [] l = tt
  any_leads spaced at (u ∷ us) (l, m) = (λ e. absurd (cc), m)

  one_more : (token : Option TokenKind) (before : Before) (at to : ℕ) (us : List Token)
      → Both (is_spaced (before_of token)) to us → Both (is_spaced before) at (kept_by token at to before ++ us)
  one_more None before at to us (l, a) = (white_leads (is_spaced before) at to us l, a)
  one_more (Some kind) before at to us (l, a) = (
    (λ e. e, λ e. refl),
    (any_leads (is_spaced (before_of (Some kind))) to us l, a),
  )

  module _ (n : ℕ) (again : Further n) (os : List Opened) (before : Before) (at : ℕ) (ts : List Token) where
    further : (p : Piece) → (r : Result (List Token) ℕ)
        → walk syntaxes.Scss bs n (changed os p.change at) (before_of p.token) p.to ≡ r
        → behind (kept p at before) r ≡ Ok ts → Both (is_spaced before) at ts
    further p (Err k) w f = absurd (cc)
    further p (Ok us) w f =
        subst (Both (is_spaced before) at) (ap (listed_of []) f)
        (one_more p.token before at p.to us (again (changed os p.change at) (before_of p.token) p.to us w))

    abbrev on : Option Piece → Result (List Token) ℕ
    on o = elim o as (λ _. Result (List Token) ℕ) [
      | None ↦ Err (last_start os at)
      | Some p ↦ behind (kept p at before) (walk syntaxes.Scss bs n (changed os p.change at) (before_of p.token) p.to)
    ]

    found : (o : Option Piece) → on o ≡ Ok ts → Both (is_spaced before) at ts
    found None f = absurd (cc)
    found (Some p) f =
        further p (walk syntaxes.Scss bs n (changed os p.change at) (before_of p.token) p.to) refl f

    here : (b : Bool) → (if b then on (piece bs (top syntaxes.Scss os) before at) else finished os) ≡ Ok ts
        → Both (is_spaced before) at ts
    here true f = found (piece bs (top syntaxes.Scss os) before at) f
    here false f = none_left (is_spaced before) at os ts f

  walked : (n : ℕ) → Further n
  walked zero os before at ts e = none_left (is_spaced before) at os ts e
  walked (suc n) os before at ts e = here n (walked n) os before at ts (nat_lt at (length bs)) e

-- the same of tokens of which those that open something end where that is closed
abbrev Meets : Token → List Token → Type 0
Meets t [] = Unit {0}
Meets t (u ∷ us) = u.spaced ≡ false → opens t.kind ≡ false → u.from ≡ t.to

abbrev Meet : List Token → Type 0
Meet [] = Unit {0}
Meet (t ∷ ts) = Meets t ts × Meet ts

first_meets : (t : Token) (ts : List Token) → Leads false t.to ts → Meets (reaching t (reached ts).ends) (reached ts).list
first_meets t [] l = tt
first_meets t (u ∷ us) (l, m) = λ e o. m e ∙ sym (if_false (opens t.kind) _ t.to o)

all_meet : (ts : List Token) → Adjoin ts → Meet (reached ts).list
all_meet [] a = tt
all_meet (t ∷ ts) (l, a) = (first_meets t ts l, all_meet ts a)

tokens_meet : (bs : List ℕ) (list : List Token) → tokens_of bs ≡ Ok list → Meet list
unfolding tokens_in pieces_of rest
tokens_meet bs list e = go (pieces_of syntaxes.Scss bs) refl e
  where
    go : (r : Result (List Token) ℕ) → pieces_of syntaxes.Scss bs ≡ r → tokens_by r ≡ Ok list → Meet list
    go (Err k) p f = absurd (cc)
    go (Ok ts) p f =
        subst Meet (ap (listed_of []) f)
        (all_meet ts (walked bs (suc (length bs - mark_length bs)) [] befores.Other (mark_length bs) ts p).1)

one_of : {A : Type 0} (x y : A) → Some x ≡ Some y → x ≡ y
one_of x y e = ap (λ (o : Option _). unwrap_or o x) e

meet_at : (list : List Token) (n : ℕ) (a b : Token) → Meet list → slice_get list n ≡ Some a → slice_get list (suc n) ≡ Some b
    → b.spaced ≡ false → opens a.kind ≡ false → b.from ≡ a.to
meet_at [] n a b m one two = absurd (cc)
meet_at (t ∷ []) n a b m one two = absurd (cc)
meet_at (t ∷ u ∷ ts) zero a b (m, more) one two =
    subst (λ (x : Token). b.spaced ≡ false → opens x.kind ≡ false → b.from ≡ x.to) (one_of t a one)
    (subst (λ (x : Token). x.spaced ≡ false → opens t.kind ≡ false → x.from ≡ t.to) (one_of u b two) m)
meet_at (t ∷ ts) (suc n) a b (m, more) one two = meet_at ts n a b more one two

-- ---- as the pass over tokens has them

record PlainToken (bs : List ℕ) (list : List Token) (n : ℕ) (plain : Plain) : Type 0 where
  token : Token
  there : slice_get list n ≡ Some token
  from : plain.from ≡ token.from
  spaced : plain.spaced ≡ token.spaced
  sort : plain.sort ≡ sort_of token.kind (slice_range bs token.from token.to)
  to : opens token.kind ≡ false → plain.to ≡ token.to

end_closed : (token : Token) (next : Option Token) → opens token.kind ≡ false → end_by token next ≡ token.to
end_closed token None o = refl
end_closed token (Some next) o = if_false (opens token.kind) next.from token.to o

plain_token : (bs : List ℕ) (gap : ℕ) (list : List Token) (n : ℕ) (plain : Plain)
    → slice_get (plains_from bs gap list) n ≡ Some plain → PlainToken bs list n plain
unfolding plain_of
plain_token bs gap [] n plain e = absurd (cc)
plain_token bs gap (token ∷ list) zero plain e =
    subst (PlainToken bs (token ∷ list) zero) (one_of (plain_of bs gap token (end_by token (slice_get list 0))) plain e)
    (record {
      token = token;
      there = refl;
      from = refl;
      spaced = refl;
      sort = refl;
      to = λ o. end_closed token (slice_get list 0) o;
    })
plain_token bs gap (token ∷ list) (suc n) plain e =
    let it = plain_token bs (end_by token (slice_get list 0)) list n plain e in
    record { token = it.token; there = it.there; from = it.from; spaced = it.spaced; sort = it.sort; to = it.to }

-- ---- lexemes

ignored_none : (state : State) (terminal : Terminal) → (after state terminal).ignored ≡ 0
unfolding after
ignored_none state terminal = go (opened_by terminal)
  where
    closing : (a b : Bool)
        → (if a then popped (inserted state) terminal
        else (if b then popped state terminal
        else stepped state (further_mode state.mode terminal) (in_word terminal) terminal)).ignored ≡ 0
    closing true b = refl
    closing false true = refl
    closing false false = refl

    go : (o : Option Bracket) → (after_opening state terminal o).ignored ≡ 0
    go (Some _) = refl
    go None = closing (is terminal terminals.InsertEnd) (closes terminal)

module _ (plains : List Plain) where
  -- the first of these lexemes is the token at a place
  abbrev Begins : ℕ → List Lexeme → Type 0
  Begins at [] = Unit {0}
  Begins at (lexeme ∷ lexemes) = lexeme.token ≡ at

  -- behind each lexeme stands the one of the next token, where that is no comment
  abbrev Chain : List Lexeme → Type 0
  Chain [] = Unit {0}
  Chain (lexeme ∷ lexemes) =
      (is_comment (sort_at plains (lexeme.token + 1)) ≡ false → Begins (lexeme.token + 1) lexemes) × Chain lexemes

  left_no : (a b : Bool) → a ≡ false → (a && b) ≡ false
  left_no true b e = absurd (cc)
  left_no false b e = refl

  module _ (plain : Plain) (rest : List Plain) (at : ℕ) where
    abbrev read_on : Reading → List Lexeme
    read_on reading = optional reading.lexeme ++ lexemes_from plains reading.state (at + 1) rest

    keeps : (new : State) (b : Bool) → b ≡ false
        → Begins at (read_on (if b then skipped new plain else kept_lexeme new at plain (terminal_of new plains at)))
    keeps new true e = absurd (cc)
    keeps new false e = refl

    no_ignoring : (state : State) (b : Bool) → b ≡ false → is_comment (sort_at plains at) ≡ false
        → Begins at (read_on (if b then skipped state plain else read_placed (placed state plains at) plains at plain))
    no_ignoring state true e code = absurd (cc)
    no_ignoring state false e code =
        keeps (placed state plains at) (is_white (placed state plains at) plains at)
        (left_no (is_comment (sort_at plains at)) _ code)

  begins : (rest : List Plain) (state : State) (at : ℕ) → state.ignored ≡ 0 → is_comment (sort_at plains at) ≡ false
      → Begins at (lexemes_from plains state at rest)
  unfolding read
  begins [] state at none code = tt
  begins (plain ∷ rest) state at none code =
      no_ignoring plain rest at state (nat_lt 0 state.ignored) (ap (nat_lt 0) none) code

  module _ (plain : Plain) (rest : List Plain) (at : ℕ)
      (more : (s : State) → Chain (lexemes_from plains s (at + 1) rest)) where
    chained : (new : State) (b : Bool)
        → Chain (read_on plain rest at (if b then skipped new plain else kept_lexeme new at plain (terminal_of new plains at)))
    chained new true = more (past_white new plain.sort)
    chained new false = (
      λ code. begins rest (after new (terminal_of new plains at)) (at + 1) (ignored_none new (terminal_of new plains at)) code,
      more (after new (terminal_of new plains at)),
    )

    ignoring : (state : State) (b : Bool)
        → Chain (read_on plain rest at (if b then skipped state plain else read_placed (placed state plains at) plains at plain))
    ignoring state true = more (past_white state plain.sort)
    ignoring state false =
        chained (placed state plains at) (is_white (placed state plains at) plains at)

  chain : (rest : List Plain) (state : State) (at : ℕ) → Chain (lexemes_from plains state at rest)
  unfolding read
  chain [] state at = tt
  chain (plain ∷ rest) state at =
      ignoring plain rest at (λ new. chain rest new (at + 1)) state (nat_lt 0 state.ignored)

  chain_at : (lexemes : List Lexeme) (n : ℕ) (a b : Lexeme) → Chain lexemes → slice_get lexemes n ≡ Some a
      → slice_get lexemes (suc n) ≡ Some b → is_comment (sort_at plains (a.token + 1)) ≡ false → b.token ≡ a.token + 1
  chain_at [] n a b c one two code = absurd (cc)
  chain_at (x ∷ []) n a b c one two code = absurd (cc)
  chain_at (x ∷ y ∷ xs) zero a b (c, more) one two code =
      ap (λ (l : Lexeme). l.token) (sym (one_of y b two))
      ∙ c (subst (λ (l : Lexeme). is_comment (sort_at plains (l.token + 1)) ≡ false) (sym (one_of x a one)) code)
      ∙ ap (λ (l : Lexeme). l.token + 1) (one_of x a one)
  chain_at (x ∷ xs) (suc n) a b (c, more) one two code = chain_at xs n a b more one two code

-- ---- two lexemes side by side

pub range_split : (xs : List ℕ) (i j k : ℕ) → i ≤ j → j ≤ k → slice_range xs i k ≡ slice_range xs i j ++ slice_range xs j k
range_split xs i j k l m =
    ap (λ (n : ℕ). take n (drop i xs)) (let z : k - i ≡ (j - i) + (k - j) = omega (arith, l, m) in z)
    ∙ take-add (j - i) (k - j) (drop i xs)
    ∙ ap (λ (t : List ℕ). take (j - i) (drop i xs) ++ take (k - j) t)
    (drop-drop (j - i) i xs ∙ ap (λ (n : ℕ). drop n xs) (let z : i + (j - i) ≡ j = omega (arith, l) in z))

module _ (source : Source) (was : WasRead source) where
  abbrev pub plains : List Plain
  plains = plains_of (bytes source) source.tokens.now.list

  -- the tokens of which a plain token stems open nothing
  abbrev pub Closed : ℕ → Type 0
  Closed at = (kind : TokenKind) (text : List ℕ) → sort_of kind text ≡ sort_at plains at → opens kind ≡ false

  all_chained : Chain plains source.lexemes.now
  unfolding lexemes_of
  all_chained = subst (Chain plains) (sym was.lexemes) (chain plains plains beginning 0)

  -- a token goes forward
  forward : (n : ℕ) (token : Token) → slice_get source.tokens.now.list n ≡ Some token → opens token.kind ≡ false
      → token.from ≤ token.to
  forward n token there closed =
      let e = every_at (HasPiece (bytes source)) source.tokens.now.list n token
      (all_tokens (bytes source) source.tokens.now.list was.tokens) there in
      let on = piece_onward (bytes source) e.inside e.before token.from
      (record { token = Some token.kind; to = e.own; change = e.change }) e.within e.is in
      let up = on.forward in
      let to = e.closed closed in
      omega (arith, up, to)

  module _ (k : ℕ) (a b : Lexeme) (one : lexeme_at source k ≡ Some a) (two : lexeme_at source (suc k) ≡ Some b)
      (direct : spaced_at plains (a.token + 1) ≡ false) (code : is_comment (sort_at plains (a.token + 1)) ≡ false) where
    pub next_token : b.token ≡ a.token + 1
    next_token = chain_at plains source.lexemes.now k a b all_chained one two code

    -- two that open nothing are one text
    pub adjoined : Closed a.token → Closed (a.token + 1)
        → bytes_between source k (suc (suc k)) ≡ bytes_at source k ++ bytes_at source (suc k)
    unfolding from_at to_at sort_at spaced_at
    adjoined closed_a closed_b =
        let bs = bytes source in
        let list = source.tokens.now.list in
        let next = next_token in
        let pa = lexeme_plain source was k a one in
        let pb = lexeme_plain source was (suc k) b two in
        let got_b : slice_get plains (a.token + 1) ≡ Some pb.plain = ap (slice_get plains) (sym next) ∙ pb.got in
        let ta = plain_token bs 0 list a.token pa.plain pa.got in
        let tb = plain_token bs 0 list (a.token + 1) pb.plain got_b in
        let open_a = closed_a ta.token.kind (slice_range bs ta.token.from ta.token.to) (sym ta.sort ∙ sym (ap sort_in pa.got)) in
        let open_b = closed_b tb.token.kind (slice_range bs tb.token.from tb.token.to) (sym tb.sort ∙ sym (ap sort_in got_b)) in
        let spaced : tb.token.spaced ≡ false = sym tb.spaced ∙ sym (ap spaced_in got_b) ∙ direct in
        let there_b : slice_get list (suc a.token) ≡ Some tb.token =
        ap (slice_get list) (let z : suc a.token ≡ a.token + 1 = omega arith in z) ∙ tb.there in
        let met = meet_at list a.token ta.token tb.token (tokens_meet bs list was.tokens) ta.there there_b spaced open_a in
        let from_a = pa.from ∙ ta.from in
        let to_a = pa.to ∙ ta.to open_a in
        let from_b = pb.from ∙ tb.from in
        let to_b = pb.to ∙ tb.to open_b in
        let up_a = forward a.token ta.token ta.there open_a in
        let up_b = forward (a.token + 1) tb.token tb.there open_b in
        let seam : b.from ≡ a.to = from_b ∙ met ∙ sym to_a in
        ap (λ (n : ℕ). slice_range bs (from_in source (lexeme_at source k)) (to_in source (lexeme_at source n)))
        (let z : suc (suc k) - 1 ≡ suc k = omega arith in z)
        ∙ ap (λ (l : Option Lexeme). slice_range bs (from_in source l) (to_in source (lexeme_at source (suc k)))) one
        ∙ ap (λ (l : Option Lexeme). slice_range bs a.from (to_in source l)) two
        ∙ range_split bs a.from a.to b.to (omega (arith, from_a, to_a, up_a)) (omega (arith, from_b, to_b, up_b, seam))
        ∙ ap (λ (n : ℕ). slice_range bs a.from a.to ++ slice_range bs n b.to) (sym seam)
        ∙ sym (ap (λ (l : Option Lexeme). slice_range bs (from_in source l) (to_in source l) ++ slice_range bs b.from b.to) one)
        ∙ sym (ap (λ (l : Option Lexeme). bytes_at source k ++ slice_range bs (from_in source l) (to_in source l)) two)
