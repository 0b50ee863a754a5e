-- Tokens that are passed are seen, and say what is kept of their text.
use Rattle.std.proofs.Common.{◌≡◌, ℕ, suc, ◌+◌, Bool, true, false, ◌||◌, if◌then◌else◌, List, [], ◌∷◌, ◌++◌, length, Option, Some, None, inl, inr, append-nil, refl, sym, ◌∙◌, ap, subst, append_assoc, length-append, arith}
use Rattle.std.specs.Prelude.{slice_get, unwrap_or}
use Rattle.std.proofs.lemmas.Option.{slice_get-get_or}
use Rattle.std.proofs.Math.Seq.{get_or-append_seam}
use Rattle.sw_tokens.specs.declared.token.Token.{Token}
use Rattle.sw_parse_terminals.specs.declared.terminal.Terminal.{Terminal}
use Rattle.sw_parse_terminals.specs.declared.terminal.Terminal.TheVariants as terminals
use Rattle.sw_parse_terminals.specs.declared.lexeme.Lexeme.{Lexeme}
use Rattle.sw_parse_lexemes.specs.declared.sort.Sort.{Sort}
use Rattle.sw_parse_lexemes.specs.declared.plain.Plain.{Plain}
use Rattle.sw_parse_lexemes.specs.declared.state.State.{State}
use Rattle.sw_parse_lexemes.specs.declared.state.Bracket.{Bracket}
use Rattle.sw_parse_lexemes.specs.Ahead.{sort_in, spaced_in, sort_at, spaced_at}
use Rattle.sw_parse_lexemes.specs.Classes.{is_comment}
use Rattle.sw_parse_lexemes.specs.Modes.{statement_mode}
use Rattle.sw_parse_lexemes.specs.Names.{is}
use Rattle.sw_parse_lexemes.specs.Terminals.{terminal_of}
use Rattle.sw_parse_lexemes.specs.Steps.{opened_by, closes, inserted, popped, stepped, further_mode, in_word, after, after_opening, comments_at, placed, past_white}
use Rattle.sw_parse_lexemes.specs.Lexemes.{lexeme_of}
use Rattle.sw_parse_table.specs.declared.source.Source.{Source}
use Rattle.sw_parse_table.specs.Sources.{bytes, decoded_in, decoded_by}
use Rattle.sw_convert_written.specs.Escapes.{apart}
use Rattle.sw_convert_passing.specs.Written.{Passed, nothing, token, begins, comment}
use Rattle.sw_convert_passing.specs.Written as passing
use Rattle.sw_convert_again.specs.Tokens.{Among, Stands}
use Rattle.sw_convert_tokens.specs.Joints.{Seen, Joint, Apart, spelt_of, text, writtens, toks, Sits, Sit, Tell}
use Rattle.sw_convert_tokens.specs.Joints as joints
use Rattle.sw_convert_tokens.proofs.Laid.{IsPlain, Laid, laid_end, laid}
use Rattle.sw_convert_tokens.proofs.Loud.{no_unseen}

-- ---- places in lists

get_behind : {A : Type 0} (front : List A) (x : A) (rest : List A) → slice_get (front ++ x ∷ rest) (length front) ≡ Some x
get_behind front x rest =
    slice_get-get_or (front ++ x ∷ rest) (length front) x (let e = length-append front (x ∷ rest) in omega (arith, e))
    ∙ ap Some (get_or-append_seam front x rest x)

pub one_more : {A : Type 0} (front : List A) (x : A) (rest : List A) → (front ++ x ∷ []) ++ rest ≡ front ++ x ∷ rest
one_more front x rest = append_assoc front (x ∷ []) rest

pub length_more : {A : Type 0} (front : List A) (x : A) → length (front ++ x ∷ []) ≡ length front + 1
length_more front x = length-append front (x ∷ [])

among : (terminal : Terminal) (list : List Terminal) → passing.Among terminal list → Among terminal list
among terminal [] m = m
among terminal (one ∷ rest) (inl e) = inl e
among terminal (one ∷ rest) (inr m) = inr (among terminal rest m)

-- ---- tokens stand as they are passed over

module _ (whole : List Plain) where
  pub laid_there : (done : List Plain) {front : List ℕ} {list : List Joint} {plains : List Plain} {tokens : List Token}
      → Laid front list plains tokens → whole ≡ done ++ plains
      → passing.Stand whole (length done) (writtens list) (length whole)
  unfolding sort_at spaced_at
  laid_there done laid_end e = sym (ap length (e ∙ append-nil done))
  laid_there done (laid {joint = joint} {joints = list} {plain = plain} {plains = plains} it more) e =
      let got : slice_get whole (length done) ≡ Some plain =
      ap (λ (t : List Plain). slice_get t (length done)) e ∙ get_behind done plain plains in (
        record {
          within = let l = ap length e ∙ length-append done (plain ∷ plains) in omega (arith, l);
          sort = ap sort_in got ∙ it.sort;
          spaced = ap spaced_in got ∙ it.spaced;
        },
        subst (λ (n : ℕ). passing.Stand whole n (writtens list) (length whole)) (length_more done plain)
            (laid_there (done ++ plain ∷ []) more (e ∙ sym (one_more done plain plains))),
      )

-- ---- what is passed sits there

no_comment_more : (state : State) (terminal : Terminal) (opens : Option Bracket)
    → (after_opening state terminal opens).commented ≡ false
no_comment_more state terminal (Some _) = refl
no_comment_more state terminal None = go (is terminal terminals.InsertEnd) (closes terminal)
  where
    go : (a b : Bool)
        → (if a then popped (inserted state) terminal
        else (if b then popped state terminal
        else stepped state (further_mode state.mode terminal) (in_word terminal) terminal)).commented ≡ false
    go true b = refl
    go false true = refl
    go false false = refl

no_comment : (state : State) (terminal : Terminal) → (after state terminal).commented ≡ false
unfolding after
no_comment state terminal = no_comment_more state terminal (opened_by terminal)

pub placed_commented : (state : State) (plains : List Plain) (at : ℕ) → (placed state plains at).commented ≡ state.commented
unfolding placed
placed_commented state plains at = go state.start
  where
    go : (t : Bool)
        → (if t then record state { mode = statement_mode plains at; comments = comments_at state.comments plains at } else state).commented
        ≡ state.commented
    go true = refl
    go false = refl

pub white_commented : (state : State) (sort : Sort) → (past_white state sort).commented ≡ true
unfolding past_white
white_commented state sort = refl

or_not : (a b : Bool) → b ≡ false → (a || b) ≡ a
or_not true b e = refl
or_not false b e = e

some_same : (a b : Plain) → Some a ≡ Some b → a ≡ b
some_same a b e = ap (λ (o : Option Plain). unwrap_or o a) e

module _ (source : Source) (whole : List Plain) where
  -- that a token sits there, and how many lexemes these are
  abbrev pub Found : Bool → ℕ → List ℕ → List Joint → List Lexeme → Type 0
  Found commented at front list lexemes =
      Sit source commented at front list [] × (length lexemes ≡ length (toks list))

  pub record Places (done : List Plain) (plains : List Plain) (done_tokens tokens : List Token) (at : ℕ) : Type 0 where
    pub all : whole ≡ done ++ plains
    pub here : length done ≡ at
    pub all_tokens : source.tokens.now.list ≡ done_tokens ++ tokens
    pub here_token : length done_tokens ≡ at

  pub further : {done plains : List Plain} {plain : Plain} {done_tokens tokens : List Token} {one : Token} {at : ℕ}
      → Places done (plain ∷ plains) done_tokens (one ∷ tokens) at
      → Places (done ++ plain ∷ []) plains (done_tokens ++ one ∷ []) tokens (at + 1)
  further {done} {plains} {plain} {done_tokens} {tokens} {one} {at} p = record {
    all = p.all ∙ sym (one_more done plain plains);
    here = length_more done plain ∙ ap (λ (n : ℕ). n + 1) p.here;
    all_tokens = p.all_tokens ∙ sym (one_more done_tokens one tokens);
    here_token = length_more done_tokens one ∙ ap (λ (n : ℕ). n + 1) p.here_token;
  }

  plain_there : {done plains : List Plain} {plain : Plain} {done_tokens tokens : List Token} {at : ℕ}
      → Places done (plain ∷ plains) done_tokens tokens at → slice_get whole at ≡ Some plain
  plain_there {done} {plains} {plain} {at = at} p =
      ap (slice_get whole) (sym p.here) ∙ ap (λ (t : List Plain). slice_get t (length done)) p.all
      ∙ get_behind done plain plains

  -- a token that the grammar sees
  sits : (seen : Seen) (list : List Joint) (front : List ℕ) (plain it : Plain) (plains done : List Plain)
      (done_tokens tokens : List Token) (one : Token) (before lexemes : List Lexeme) (at : ℕ) (commented : Bool)
      (terminal : Terminal) → IsPlain front (joints.Token seen) plain one
      → Places done (plain ∷ plains) done_tokens (one ∷ tokens) at → slice_get whole at ≡ Some it
      → source.lexemes.now ≡ before ++ lexeme_of it at commented terminal ∷ lexemes
      → bytes source ≡ front ++ text (joints.Token seen ∷ list) → passing.Among terminal seen.may_be
      → Sits source commented (length before) (front ++ seen.gap) seen (text list ++ [])
  sits seen list front plain it plains done done_tokens tokens one before lexemes at commented terminal laid_so p got are
      text_is kind =
      let same : it ≡ plain = some_same it plain (sym got ∙ plain_there p) in record {
        lexeme = lexeme_of it at commented terminal;
        there = ap (λ (t : List Lexeme). slice_get t (length before)) are ∙ get_behind before (lexeme_of it at commented terminal) lexemes;
        from = ap (λ (q : Plain). q.from) same ∙ laid_so.from;
        to = ap (λ (q : Plain). q.to) same ∙ laid_so.to;
        commented_is = or_not commented it.silent (ap (λ (q : Plain). q.silent) same ∙ laid_so.silent);
        text_is = text_is ∙ sym (append_assoc front seen.gap (seen.bytes ++ text list))
            ∙ ap (λ (t : List ℕ). (front ++ seen.gap) ++ (seen.bytes ++ t)) (sym (append-nil (text list)));
        decoded_is = ap decoded_in
            (ap (slice_get source.tokens.now.list) (sym p.here_token)
            ∙ ap (λ (t : List Token). slice_get t (length done_tokens)) p.all_tokens ∙ get_behind done_tokens one tokens)
            ∙ ap decoded_by laid_so.kind;
        kind = among terminal seen.may_be kind;
      }

  -- the text behind a token
  pub rest_text : (joint : Joint) (list : List Joint) (front : List ℕ) → bytes source ≡ front ++ text (joint ∷ list)
      → bytes source ≡ ((front ++ (spelt_of joint).gap) ++ (spelt_of joint).bytes) ++ text list
  rest_text joint list front e =
      e ∙ sym (append_assoc front (spelt_of joint).gap ((spelt_of joint).bytes ++ text list))
      ∙ sym (append_assoc (front ++ (spelt_of joint).gap) (spelt_of joint).bytes (text list))

  pub sort_there : {done plains : List Plain} {plain : Plain} {done_tokens tokens : List Token} {at : ℕ}
      → Places done (plain ∷ plains) done_tokens tokens at → sort_at whole at ≡ plain.sort
  unfolding sort_at
  sort_there p = ap sort_in (plain_there p)

  -- a token that is seen, before others
  pub one_sits : (seen : Seen) (list : List Joint) (before others : List Lexeme) {front : List ℕ} {plains done : List Plain}
      {plain : Plain} {done_tokens tokens : List Token} {one : Token} {at : ℕ} (it : Plain) (commented : Bool)
      (state : State) (terminal : Terminal) → IsPlain front (joints.Token seen) plain one
      → Places done (plain ∷ plains) done_tokens (one ∷ tokens) at → slice_get whole at ≡ Some it
      → source.lexemes.now ≡ before ++ lexeme_of it at commented terminal ∷ others
      → bytes source ≡ front ++ text (joints.Token seen ∷ list) → passing.Among terminal seen.may_be
      → Found (after state terminal).commented (length (before ++ lexeme_of it at commented terminal ∷ []))
      ((front ++ seen.gap) ++ seen.bytes) list others
      → Found commented (length before) front (joints.Token seen ∷ list) (lexeme_of it at commented terminal ∷ others)
  one_sits seen list before others {front} {plains} {done} {plain} {done_tokens} {tokens} {one} {at} it commented state
      terminal laid_so p got are text_is kind (rest, count) = (
        (
          sits seen list front plain it plains done done_tokens tokens one before others at commented terminal laid_so p got are
              text_is kind,
          subst (λ (c : Bool). Sit source c (suc (length before)) ((front ++ seen.gap) ++ seen.bytes) list []) (no_comment state terminal)
              (subst (λ (n : ℕ). Sit source (after state terminal).commented n ((front ++ seen.gap) ++ seen.bytes) list [])
              (length_more before (lexeme_of it at commented terminal) ∙ (let e : length before + 1 ≡ suc (length before) = omega arith in e)) rest),
        ),
        longer count,
      )
    where
      longer : length others ≡ length (toks list) → length (lexeme_of it at commented terminal ∷ others) ≡ length (toks (joints.Token seen ∷ list))
      longer e = omega (arith, e)

  pub all_sit : (list : List Joint) (before : List Lexeme) {front : List ℕ} {plains done : List Plain}
      {done_tokens tokens : List Token} {state end : State} {at to : ℕ} {lexemes : List Lexeme}
      → Passed whole state at (writtens list) lexemes end to → Laid front list plains tokens
      → Places done plains done_tokens tokens at → source.lexemes.now ≡ before ++ lexemes
      → bytes source ≡ front ++ text list → Found state.commented (length before) front list lexemes
  all_sit [] before nothing l p are text_is = (tt, refl)
  all_sit (joints.Token seen ∷ list) before {front}
      (token {state} {end} {at} {to} {tokens} {lexemes} it w got seen_here start ignored kind more) (laid laid_so rest) p are
      text_is =
      let terminal = terminal_of state whole at in
      one_sits seen list before lexemes it state.commented state terminal laid_so p got are text_is kind
      (all_sit list (before ++ lexeme_of it at state.commented terminal ∷ []) more rest (further p)
      (are ∙ sym (one_more before (lexeme_of it at state.commented terminal) lexemes))
      (rest_text (joints.Token seen) list front text_is))
  all_sit (joints.Token seen ∷ list) before {front}
      (begins {state} {end} {at} {to} {tokens} {lexemes} it w got seen_here start ignored kind more) (laid laid_so rest) p are
      text_is =
      let new = placed state whole at in
      let terminal = terminal_of new whole at in
      subst (λ (c : Bool). Found c (length before) front (joints.Token seen ∷ list) (lexeme_of it at new.commented terminal ∷ lexemes))
      (placed_commented state whole at)
      (one_sits seen list before lexemes it new.commented new terminal laid_so p got are text_is kind
      (all_sit list (before ++ lexeme_of it at new.commented terminal ∷ []) more rest (further p)
      (are ∙ sym (one_more before (lexeme_of it at new.commented terminal) lexemes))
      (rest_text (joints.Token seen) list front text_is)))
  all_sit (joints.Token seen ∷ list) before (comment it w none got here start ignored more) (laid laid_so rest) p are text_is =
      absurd (let wrong : true ≡ false = ap is_comment (sym here ∙ sort_there p) ∙ no_unseen _ seen.may_be none laid_so.seen in cc)
  all_sit (Apart ∷ list) before (token it w got seen_here start ignored kind more) (laid laid_so rest) p are text_is = absurd kind
  all_sit (Apart ∷ list) before (begins it w got seen_here start ignored kind more) (laid laid_so rest) p are text_is = absurd kind
  all_sit (Apart ∷ list) before {front}
      (comment {state} {end} {at} {to} {tokens} {lexemes} it w none got here start ignored more) (laid laid_so rest) p are text_is =
      let (sit, count) = all_sit list before more rest (further p) are (rest_text Apart list front text_is) in (
        subst (λ (f : List ℕ). Sit source true (length before) (f ++ apart) list []) (append-nil front)
            (subst (λ (c : Bool). Sit source c (length before) ((front ++ []) ++ apart) list []) (white_commented state it.sort) sit),
        count,
      )

-- tokens that sit there stand there, and say what they are to say
pub all_stand : (source : Source) (list : List Joint) (commented : Bool) (at to : ℕ) (front after : List ℕ)
    → Sit source commented at front list after → Tell list → at + length (toks list) ≡ to
    → Stands source at (toks list) to
all_stand source [] commented at to front after sit tell e = let z : at ≡ to = omega (arith, e) in z
all_stand source (joints.Token seen ∷ list) commented at to front after (sits, more) (tells, others) e = (
  record { lexeme = sits.lexeme; there = sits.there; kind = sits.kind; said = tells source commented at front after (sits, more) },
  all_stand source list false (suc at) to ((front ++ seen.gap) ++ seen.bytes) after more others
      (let z : suc at + length (toks list) ≡ to = omega (arith, e) in z),
)
all_stand source (Apart ∷ list) commented at to front after sit tell e =
    all_stand source list true at to (front ++ apart) after sit tell e
