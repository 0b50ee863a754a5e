-- What is read of a sheet, token by token, sits where it is written.
use Rattle.std.proofs.Common.{◌≡◌, ℕ, suc, ◌+◌, Bool, true, false, ◌||◌, if◌then◌else◌, List, [], ◌∷◌, ◌++◌, length, Option, Some, None, inl, inr, append-nil, refl, sym, ◌∙◌, ap, subst, append_assoc, length-append, arith}
use Rattle.std.specs.Prelude.{slice_get, unwrap_or}
use Rattle.std.proofs.lemmas.Option.{slice_get-get_or}
use Rattle.std.proofs.Math.Seq.{get_or-append_seam}
use Rattle.sw_tokens.specs.declared.token.Token.{Token}
use Rattle.sw_parse_terminals.specs.declared.terminal.Terminal.{Terminal}
use Rattle.sw_parse_terminals.specs.declared.terminal.Terminal.TheVariants as terminals
use Rattle.sw_parse_terminals.specs.declared.lexeme.Lexeme.{Lexeme}
use Rattle.sw_parse_lexemes.specs.declared.sort.Sort.TheVariants as sorts
use Rattle.sw_parse_lexemes.specs.declared.plain.Plain.{Plain}
use Rattle.sw_parse_lexemes.specs.declared.state.State.{State}
use Rattle.sw_parse_lexemes.specs.declared.state.Bracket.{Bracket}
use Rattle.sw_parse_lexemes.specs.Ahead.{sort_at}
use Rattle.sw_parse_lexemes.specs.Classes.{is_comment}
use Rattle.sw_parse_lexemes.specs.Terminals.{terminal_of}
use Rattle.sw_parse_lexemes.specs.Names.{is}
use Rattle.sw_parse_lexemes.specs.Steps.{opened_by, closes, inserted, popped, stepped, further_mode, in_word, placed, after, after_opening, past_white}
use Rattle.sw_parse_lexemes.specs.Lexemes.{lexeme_of}
use Rattle.sw_parse_table.specs.declared.source.Source.{Source}
use Rattle.sw_parse_table.specs.Sources.{bytes, decoded_in, decoded_by}
use Rattle.sw_convert_written.specs.Escapes.{apart}
use Rattle.sw_convert_passing.specs.Written.{Written, Among, Passed, nothing, token, begins, comment}
use Rattle.sw_convert_again.specs.Tokens as again
use Rattle.sw_convert_heads_passing.specs.Comments.{Run, passed, loud, joined}
use Rattle.sw_convert_tokens.specs.Joints.{Seen, Joint, Apart, spelt_of, text, writtens, toks, Sits, Sit}
use Rattle.sw_convert_tokens.specs.Joints as joints
use Rattle.sw_convert_tokens.proofs.Laid.{IsPlain, Laid, laid}
use Rattle.sw_convert_tokens.proofs.Loud.{no_unseen}
use Rattle.sw_convert_tokens.proofs.Sitting.{Places, further, sort_there, one_more, length_more, placed_commented, white_commented}

-- one token after another: what is seen of it, in the state in which it is read, or a comment that is white space
pub data Steps (plains : List Plain) : State → ℕ → List Written → List Lexeme → State → ℕ → Type 0 where
  no_step : {state : State} {at : ℕ} → Steps plains state at [] [] state at
  seen : {state end : State} {at to : ℕ} {tokens : List Written} {lexemes : List Lexeme} → (plain : Plain) (one : Written)
      (begun : State) → slice_get plains at ≡ Some plain → begun.commented ≡ state.commented
      → Among (terminal_of begun plains at) one.may_be
      → Steps plains (after begun (terminal_of begun plains at)) (at + 1) tokens lexemes end to
      → Steps plains state at (one ∷ tokens)
      (lexeme_of plain at begun.commented (terminal_of begun plains at) ∷ lexemes) end to
  unseen : {state end : State} {at to : ℕ} {tokens : List Written} {lexemes : List Lexeme} → (plain : Plain)
      (one : Written) → one.may_be ≡ [] → sort_at plains at ≡ sorts.Comment
      → Steps plains (past_white state plain.sort) (at + 1) tokens lexemes end to
      → Steps plains state at (one ∷ tokens) lexemes end to

passed_steps : {plains : List Plain} {state end : State} {at to : ℕ} {tokens : List Written} {lexemes : List Lexeme}
    → Passed plains state at tokens lexemes end to → Steps plains state at tokens lexemes end to
passed_steps nothing = no_step
passed_steps (token {state} plain one got code start ignored among p) = seen plain one state got refl among (passed_steps p)
passed_steps {plains} (begins {state} {at = at} plain one got code start ignored among p) =
    seen plain one (placed state plains at) got (placed_commented state plains at) among (passed_steps p)
passed_steps (comment plain one none got here start ignored p) = unseen plain one none here (passed_steps p)

both_steps : {plains : List Plain} {state middle end : State} {at place to : ℕ} {tokens others : List Written}
    {lexemes more : List Lexeme} → Steps plains state at tokens lexemes middle place
    → Steps plains middle place others more end to → Steps plains state at (tokens ++ others) (lexemes ++ more) end to
both_steps no_step q = q
both_steps (seen plain one begun got same among p) q = seen plain one begun got same among (both_steps p q)
both_steps (unseen plain one none here p) q = unseen plain one none here (both_steps p q)

pub run_steps : {plains : List Plain} {state end : State} {at to : ℕ} {tokens : List Written} {lexemes : List Lexeme}
    → Run plains state at tokens lexemes end to → Steps plains state at tokens lexemes end to
run_steps (passed p) = passed_steps p
run_steps {plains} {state} {at = at} (loud plain one got ignored white among) =
    seen plain one (placed state plains at) got (placed_commented state plains at) among no_step
run_steps (joined r q) = both_steps (run_steps r) (run_steps q)

-- ---- where a token sits

get_behind : {A : Type 0} (front : List A) (x : A) (rest : List A) → slice_get (front ++ x ∷ rest) (length front) ≡ Some x
get_behind front x rest =
    slice_get-get_or (front ++ x ∷ rest) (length front) x (let e = length-append front (x ∷ rest) in omega (arith, e))
    ∙ ap Some (get_or-append_seam front x rest x)

among : (terminal : Terminal) (list : List Terminal) → Among terminal list → again.Among terminal list
among terminal [] m = m
among terminal (one ∷ rest) (inl e) = inl e
among terminal (one ∷ rest) (inr m) = inr (among terminal rest m)

no_comment_more : (state : State) (terminal : Terminal) (opens : Option Bracket)
    → (after_opening state terminal opens).commented ≡ false
no_comment_more state terminal (Some _) = refl
no_comment_more state terminal None = go (is terminal terminals.InsertEnd) (closes terminal)
  where
    go : (a b : Bool)
        → (if a then popped (inserted state) terminal
        else (if b then popped state terminal
        else stepped state (further_mode state.mode terminal) (in_word terminal) terminal)).commented ≡ false
    go true b = refl
    go false true = refl
    go false false = refl

no_comment : (state : State) (terminal : Terminal) → (after state terminal).commented ≡ false
unfolding after
no_comment state terminal = no_comment_more state terminal (opened_by terminal)

or_not : (a b : Bool) → b ≡ false → (a || b) ≡ a
or_not true b e = refl
or_not false b e = e

some_same : (a b : Plain) → Some a ≡ Some b → a ≡ b
some_same a b e = ap (λ (o : Option Plain). unwrap_or o a) e

behind_gap : (front gap here rest last : List ℕ)
    → front ++ ((gap ++ (here ++ rest)) ++ last) ≡ (front ++ gap) ++ (here ++ (rest ++ last))
behind_gap front gap here rest last =
    ap (λ (t : List ℕ). front ++ t)
    (append_assoc gap (here ++ rest) last ∙ ap (λ (t : List ℕ). gap ++ t) (append_assoc here rest last))
    ∙ sym (append_assoc front gap (here ++ (rest ++ last)))

-- with so much text behind all tokens
module _ (source : Source) (whole : List Plain) (last : List ℕ) where
  -- that a token sits there, and how many lexemes these are
  abbrev Found : Bool → ℕ → List ℕ → List Joint → List Lexeme → Type 0
  Found commented at front list lexemes =
      Sit source commented at front list last × (length lexemes ≡ length (toks list))

  sits : (shown : Seen) (list : List Joint) (front : List ℕ) (it plain : Plain) {plains done : List Plain}
      {done_tokens tokens : List Token} {one : Token} {at : ℕ} (before lexemes : List Lexeme) (commented : Bool)
      (terminal : Terminal) → IsPlain front (joints.Token shown) plain one
      → Places source whole done (plain ∷ plains) done_tokens (one ∷ tokens) at → slice_get whole at ≡ Some it
      → source.lexemes.now ≡ before ++ lexeme_of it at commented terminal ∷ lexemes
      → bytes source ≡ front ++ (text (joints.Token shown ∷ list) ++ last) → Among terminal shown.may_be
      → Sits source commented (length before) (front ++ shown.gap) shown (text list ++ last)
  sits shown list front it plain {plains} {done} {done_tokens} {tokens} {one} {at} before lexemes commented terminal
      laid_so p got are text_is kind =
      let there : slice_get whole at ≡ Some plain =
      ap (slice_get whole) (sym p.here) ∙ ap (λ (t : List Plain). slice_get t (length done)) p.all
      ∙ get_behind done plain plains in
      let same : it ≡ plain = some_same it plain (sym got ∙ there) in record {
        lexeme = lexeme_of it at commented terminal;
        there = ap (λ (t : List Lexeme). slice_get t (length before)) are
            ∙ get_behind before (lexeme_of it at commented terminal) lexemes;
        from = ap (λ (q : Plain). q.from) same ∙ laid_so.from;
        to = ap (λ (q : Plain). q.to) same ∙ laid_so.to;
        commented_is = or_not commented it.silent (ap (λ (q : Plain). q.silent) same ∙ laid_so.silent);
        text_is = text_is ∙ behind_gap front shown.gap shown.bytes (text list) last;
        decoded_is = ap decoded_in
            (ap (slice_get source.tokens.now.list) (sym p.here_token)
            ∙ ap (λ (t : List Token). slice_get t (length done_tokens)) p.all_tokens ∙ get_behind done_tokens one tokens)
            ∙ ap decoded_by laid_so.kind;
        kind = among terminal shown.may_be kind;
      }

  -- the text behind a token
  rest_text : (joint : Joint) (list : List Joint) (front : List ℕ)
      → bytes source ≡ front ++ (text (joint ∷ list) ++ last)
      → bytes source ≡ ((front ++ (spelt_of joint).gap) ++ (spelt_of joint).bytes) ++ (text list ++ last)
  rest_text joint list front e =
      e ∙ behind_gap front (spelt_of joint).gap (spelt_of joint).bytes (text list) last
      ∙ sym (append_assoc (front ++ (spelt_of joint).gap) (spelt_of joint).bytes (text list ++ last))

  pub steps_sit : (list : List Joint) (before : List Lexeme) {front : List ℕ} {plains done : List Plain}
      {done_tokens tokens : List Token} {state end : State} {at to : ℕ} {lexemes : List Lexeme}
      → Steps whole state at (writtens list) lexemes end to → Laid front list plains tokens
      → Places source whole done plains done_tokens tokens at → source.lexemes.now ≡ before ++ lexemes
      → bytes source ≡ front ++ (text list ++ last)
      → Sit source state.commented (length before) front list last × (length lexemes ≡ length (toks list))
  steps_sit [] before no_step l p are text_is = (tt, refl)
  steps_sit (joints.Token one ∷ list) before {front} {at = at}
      (seen {lexemes = lexemes} it w begun got same kind more) (laid {plain = plain} laid_so rest) p are text_is =
      let terminal = terminal_of begun whole at in
      let lexeme = lexeme_of it at begun.commented terminal in
      let (sit, count) = steps_sit list (before ++ lexeme ∷ []) more rest (further source whole p)
      (are ∙ sym (one_more before lexeme lexemes)) (rest_text (joints.Token one) list front text_is) in
      subst (λ (c : Bool). Found c (length before) front (joints.Token one ∷ list) (lexeme ∷ lexemes)) same (
        (
          sits one list front it plain before lexemes begun.commented terminal laid_so p got are text_is kind,
          subst (λ (c : Bool). Sit source c (suc (length before)) ((front ++ one.gap) ++ one.bytes) list last)
              (no_comment begun terminal)
              (subst (λ (n : ℕ). Sit source (after begun terminal).commented n ((front ++ one.gap) ++ one.bytes) list last)
              (length_more before lexeme ∙ (let e : length before + 1 ≡ suc (length before) = omega arith in e)) sit),
        ),
        longer lexeme lexemes (record { kinds = one.may_be; said = one.said }) (toks list) count,
      )
    where
      longer : (a : Lexeme) (xs : List Lexeme) (b : again.Tok) (ys : List again.Tok) → length xs ≡ length ys
          → length (a ∷ xs) ≡ length (b ∷ ys)
      longer a xs b ys e = omega (arith, e)
  steps_sit (joints.Token one ∷ list) before (unseen it w none here more) (laid laid_so rest) p are text_is =
      absurd
      (let wrong : true ≡ false =
      ap is_comment (sym here ∙ sort_there source whole p) ∙ no_unseen _ one.may_be none laid_so.seen in cc)
  steps_sit (Apart ∷ list) before (seen it w begun got same kind more) (laid laid_so rest) p are text_is = absurd kind
  steps_sit (Apart ∷ list) before {front} (unseen {state} it w none here more) (laid laid_so rest) p are text_is =
      let (sit, count) = steps_sit list before more rest (further source whole p) are (rest_text Apart list front text_is) in (
        subst (λ (f : List ℕ). Sit source true (length before) (f ++ apart) list last) (append-nil front)
            (subst (λ (c : Bool). Sit source c (length before) ((front ++ []) ++ apart) list last)
            (white_commented state it.sort) sit),
        count,
      )
