-- What a whole walk lays are statements.
use Rattle.std.proofs.Common.{◌≡◌, ℕ, zero, suc, ◌+◌, ◌-◌, ◌*◌, ◌≤◌, ◌<◌, Bool, true, false, List, [], ◌∷◌, ◌++◌, refl, sym, subst, ◌∙◌, ap, arith, length, Option, Some, None, Result, Ok, Err, append_assoc}
use Rattle.std.specs.Prelude.{◌==◌, nat_lt}
use Rattle.std.specs.List.{AllByRecursion}
use Rattle.std.proofs.lemmas.Bool.Decides.{nat_tests}
use Rattle.sw_text.specs.Places.{mark_length}
use Rattle.sw_tokens.specs.declared.token.Token.{Token}
use Rattle.sw_tokens.specs.Tokens.{first_start}
use Rattle.sw_text_scan.proofs.Progress.{either}
use Rattle.sw_tokens.proofs.Cuts.{IsText}
use Rattle.sw_parse_layout.specs.declared.laid.Laid.{Laid}
use Rattle.sw_parse_layout.specs.declared.blocks.Blocks.{Blocks}
use Rattle.sw_parse_layout.specs.declared.state.Mode.{Mode}
use Rattle.sw_parse_layout.specs.declared.state.Mode.TheVariants as modes
use Rattle.sw_parse_layout.specs.declared.state.State.{State}
use Rattle.sw_parse_layout.specs.declared.state.Found.{Found}
use Rattle.sw_parse_layout.specs.Laid.{earlier, behind}
use Rattle.sw_parse_layout.specs.Blocks.{top_depth, due_sign, shut_blocks, entered, line_laid, line_blocks}
use Rattle.sw_parse_layout.specs.Comments.{comment_signs, comment_begun}
use Rattle.sw_parse_layout.specs.Steps.{statement_begun, step}
use Rattle.sw_parse_layout.specs.Layout.{comment_end_sign, last_tokens, finished_by, finished, walk_on, walk, start_at, laid_of}
use Rattle.sw_parse_layout.specs.Laws.{BeginsLine, IsOwn, FirstAt, Own, Statements, first}
use Rattle.sw_parse_layout.proofs.Progress.{weight, Grows, on, grows}
use Rattle.sw_parse_layout.proofs.Stands.{Stands, Steps, goes, step_steps}
use Rattle.sw_parse_layout.proofs.Endings.{start_stands}
use Rattle.sw_parse_layout.proofs.Nesting.{top_none, Rest, outermost, closed_rest, Ends, ended, opened, statement_ends, comment_ends}
use Rattle.sw_parse_layout.proofs.Entering.{entered_deep, Follows, begins, goes_on, line_depth, line_follows}
use Rattle.sw_parse_layout.proofs.Stepping.{all_more, starts, Known, AtText, Kind, stays, states, comments, refuses, step_kind}
use Rattle.sw_parse_layout.proofs.Begun.{Begins, BeginsIn, first_laid}

later_none : (a b : Option ℕ) → earlier a b ≡ None → b ≡ None
later_none None b e = e
later_none (Some k) b e = absurd (cc)

earlier_none : (a b : Option ℕ) → earlier a b ≡ None → a ≡ None
earlier_none None b e = refl
earlier_none (Some k) b e = absurd (cc)

-- what begins with a token that isn't made begins with one of the statement
module _ (bs : List ℕ) where
  made : (k : ℕ) → (k == k) ≡ false → ⊥
  made k e = grind (arith, nat_tests)

  own_first : (at : ℕ) (depths : List ℕ) (own ts : List Token) → Ends bs true depths ts → Begins at (own ++ ts)
      → Begins at own
  own_first at depths (t ∷ own) ts ends b = record { first = b.first; plain = b.plain }
  own_first at depths [] _ (ended end r) b = absurd (made end b.first.1)
  own_first at depths [] _ (opened at2 depth l line f r) b = absurd (made at2 b.first.1)

  -- what a walk lays where blocks are open
  abbrev pub Lawful : Blocks → Result Laid ℕ → Type 0
  Lawful b (Ok l) = l.refused ≡ None → Follows bs b l.tokens
  Lawful b (Err k) = Unit {0}

  -- a step in a statement
  tokens_more : (b : Blocks) (xs ys : List Token) → AllByRecursion IsOwn xs → (b.first ≡ true → xs ≡ [])
      → Follows bs b ys → Follows bs b (xs ++ ys)
  tokens_more b xs ys own fresh (begins e r) =
      subst (λ (us : List Token). Follows bs b (us ++ ys)) (sym (fresh e)) (begins e r)
  tokens_more b xs _ own fresh (goes_on zs {ts = ts} e all r) =
      subst (Follows bs b) (append_assoc xs zs ts) (goes_on (xs ++ zs) e (all_more xs zs own all) r)

  stay_lawful : (x : Laid) (b c : Blocks) (r : Result Laid ℕ) → c ≡ b → AllByRecursion IsOwn x.tokens
      → (b.first ≡ true → x.tokens ≡ []) → Lawful c r → Lawful b (behind x r)
  stay_lawful x b c (Ok y) e own fresh law =
      λ none. tokens_more b x.tokens y.tokens own fresh (subst (λ (d : Blocks). Follows bs d y.tokens) e (law (later_none
      x.refused y.refused none)))
  stay_lawful x b c (Err k) e own fresh law = tt

  -- a statement begins
  begun_own : (b : Blocks) (end start at : ℕ) (ts : List Token) → (b.first ≡ true → b.depths ≡ [])
      → (line_laid bs b end start at).refused ≡ None → BeginsLine bs (at - start) at → FirstAt at ts
      → AllByRecursion IsOwn ts → Own bs (top_depth (entered b end (at - start) at).depths) ts
  begun_own b end start at ts fresh none line head all = record {
    at = at;
    begins = subst (λ (d : ℕ). BeginsLine bs d at) (sym (line_depth bs b end start at fresh none)) line;
    first = head;
    each = all;
  }

  statement_follows : (b : Blocks) (end start at : ℕ) (ts : List Token) → (b.first ≡ true → b.depths ≡ [])
      → (line_laid bs b end start at).refused ≡ None → BeginsLine bs (at - start) at → Begins at ts
      → Follows bs (line_blocks bs b end start at true) ts → Follows bs b ((line_laid bs b end start at).tokens ++ ts)
  unfolding line_blocks
  statement_follows b end start at ts fresh none line head (begins e r) = absurd (cc)
  statement_follows b end start at _ fresh none line head (goes_on own {ts = ts} e all ends) =
      let mine = own_first at (entered b end (at - start) at).depths own ts ends head in
      line_follows bs b end start at (own ++ ts) line head.first (statement_ends bs (entered b end (at - start)
      at).depths own ts (begun_own b end start at own fresh none line mine.first all) mine.plain ends)

  comment_follows : (b : Blocks) (end start at : ℕ) (ts : List Token) → (b.first ≡ true → b.depths ≡ [])
      → (line_laid bs b end start at).refused ≡ None → BeginsLine bs (at - start) at
      → Follows bs (line_blocks bs b end start at false) ts
      → Follows bs b ((line_laid bs b end start at).tokens ++ (comment_signs at ++ ts))
  unfolding line_blocks
  comment_follows b end start at ts fresh none line (begins e r) = absurd (cc)
  comment_follows b end start at _ fresh none line (goes_on own {ts = ts} e all ends) =
      line_follows bs b end start at (comment_signs at ++ (own ++ ts)) line (refl, refl) (comment_ends bs (entered b end
      (at - start) at).depths (comment_signs at ++ own) ts (begun_own b end start at (comment_signs at ++ own) fresh none
      line (refl, refl) (refl, (refl, all))) refl ends)

  module _ (s : State) (known : Known bs s) where
    fresh : s.blocks.first ≡ true → s.blocks.depths ≡ []
    fresh e = (known.first e).2

    states_lawful : (at : ℕ) (r : Result Laid ℕ) → AtText bs s at → BeginsIn at r
        → Lawful (statement_begun bs s at).state.blocks r → Lawful s.blocks (behind (statement_begun bs s at).laid r)
    states_lawful at (Ok y) text head law =
        λ none. statement_follows s.blocks s.line.end s.at at y.tokens fresh (earlier_none (line_laid bs s.blocks
        s.line.end s.at at).refused y.refused none) text.begins head (law (later_none (line_laid bs s.blocks s.line.end
        s.at at).refused y.refused none))
    states_lawful at (Err k) text head law = tt

    comments_lawful : (at : ℕ) (r : Result Laid ℕ) → AtText bs s at → Lawful (comment_begun bs s at).state.blocks r
        → Lawful s.blocks (behind (comment_begun bs s at).laid r)
    comments_lawful at (Ok y) text law =
        λ none. subst (Follows bs s.blocks) (sym (append_assoc (line_laid bs s.blocks s.line.end s.at at).tokens
        (comment_signs at) y.tokens))
        (comment_follows s.blocks s.line.end s.at at y.tokens fresh (earlier_none (line_laid bs s.blocks s.line.end s.at
        at).refused y.refused none) text.begins (law (later_none (line_laid bs s.blocks s.line.end s.at at).refused
        y.refused none)))
    comments_lawful at (Err k) text law = tt

    statement_known : (at : ℕ) → Known bs (statement_begun bs s at).state
    unfolding line_blocks
    statement_known at = record {
      line = λ e. absurd (cc);
      first = λ e. absurd (cc);
      deep = entered_deep s.blocks s.line.end (at - s.at) at known.deep;
      comments = tt;
    }

    comment_known : (at : ℕ) → Known bs (comment_begun bs s at).state
    unfolding line_blocks
    comment_known at = record {
      line = λ e. absurd (cc);
      first = λ e. absurd (cc);
      deep = entered_deep s.blocks s.line.end (at - s.at) at known.deep;
      comments = tt;
    }

    -- the end of the text
    last_first : s.blocks.first ≡ true → last_tokens s ≡ (shut_blocks s.line.end 0 s.blocks.depths).tokens
    last_first e =
        ap (λ (m : Mode). comment_end_sign m s.line.end ++ (due_sign s.blocks.due s.line.end ++ (shut_blocks s.line.end 0
        s.blocks.depths).tokens)) (known.first e).0
        ∙ ap (λ (d : Bool). due_sign d s.line.end ++ (shut_blocks s.line.end 0 s.blocks.depths).tokens) (known.first
        e).1

    sign_own : (mode : Mode) (end : ℕ) → AllByRecursion IsOwn (comment_end_sign mode end)
    sign_own modes.Between end = tt
    sign_own (modes.Statement depth) end = tt
    sign_own (modes.Comment extent) end = (refl, tt)
    sign_own (modes.Behind extent) end = tt

    shut_closed : Rest bs (length s.blocks.depths) s.blocks.depths (shut_blocks s.line.end 0 s.blocks.depths).tokens
    unfolding shut_blocks
    shut_closed = closed_rest bs (length s.blocks.depths) s.line.end s.blocks.depths known.deep

    last_follows : Follows bs s.blocks (last_tokens s)
    last_follows = go s.blocks.first refl
      where
        go : (t : Bool) → s.blocks.first ≡ t → Follows bs s.blocks (last_tokens s)
        go true e = begins e (subst (Rest bs (length s.blocks.depths) s.blocks.depths) (sym (last_first e)) shut_closed)
        go false e = goes_on (comment_end_sign s.mode s.line.end) e (sign_own s.mode s.line.end) (ended s.line.end
            shut_closed)

    finished_lawful : Lawful s.blocks (finished s)
    unfolding finished
    finished_lawful = go (first_start s.line.opened)
      where
        go : (o : Option ℕ) → Lawful s.blocks (finished_by s o)
        go None = λ _. last_follows
        go (Some k) = tt

module _ (bs : List ℕ) (text : IsText bs) where
  step_lawful : (n : ℕ) (s : State) (r : Result Found ℕ) → 2 * length bs ≤ suc n + weight s → Known bs s
      → Steps bs s r → Grows bs text s r → Kind bs s r → ((t : State) → Stands bs t → Known bs t
      → 2 * length bs ≤ n + weight t → Lawful bs t.blocks (walk bs n t)) → Lawful bs s.blocks (walk_on (walk bs n) r)
  step_lawful n s (Ok f) enough known (goes here ls) (on w) (stays same own fresh more) ih =
      stay_lawful bs f.laid s.blocks f.state.blocks (walk bs n f.state) same own fresh (ih f.state here more (omega
      arith))
  step_lawful n s (Ok f) enough known (goes here ls) (on w) (states at there silent loud) ih =
      states_lawful bs s known at (walk bs n (statement_begun bs s at).state) there (first_laid bs s at there.outside
      there.within there.begins.text silent loud n (omega arith))
      (ih (statement_begun bs s at).state here (statement_known bs s known at) (omega arith))
  step_lawful n s (Ok f) enough known (goes here ls) (on w) (comments at there) ih =
      comments_lawful bs s known at (walk bs n (comment_begun bs s at).state) there
      (ih (comment_begun bs s at).state here (comment_known bs s known at) (omega arith))
  step_lawful n s (Err k) enough known st gr refuses ih = tt

  walk_lawful : (n : ℕ) (s : State) → Stands bs s → Known bs s → 2 * length bs ≤ n + weight s
      → Lawful bs s.blocks (walk bs n s)
  walk_lawful zero s st known enough = finished_lawful bs s known
  walk_lawful (suc n) s st known enough =
      either (Lawful bs s.blocks) (nat_lt s.at (length bs)) _ _
      (λ m. let lt : s.at < length bs = before s.at m in step_lawful n s (step bs s) enough known (step_steps bs text s st
      lt) (grows bs text s st lt) (step_kind bs s known lt) (λ t here more left. walk_lawful n t here more left))
      (λ _. finished_lawful bs s known)
    where
      before : (at : ℕ) → nat_lt at (length bs) ≡ true → at < length bs
      before at m = grind (arith, nat_tests)

  start_known : Known bs (start_at (mark_length bs))
  start_known = record {
    line = λ _. (starts first, refl);
    first = λ _. (refl, refl, refl);
    deep = tt;
    comments = tt;
  }

  laid_lawful : Lawful bs (start_at (mark_length bs)).blocks (laid_of bs)
  unfolding laid_of
  laid_lawful =
      walk_lawful (2 * length bs) (start_at (mark_length bs)) (start_stands bs text (mark_length bs) refl) start_known
      (omega arith)

  outer : (ts : List Token) → Rest bs zero [] ts → Statements bs 0 ts
  outer ts (outermost st) = subst (λ (d : ℕ). Statements bs d ts) top_none st

  follows : (ts : List Token) → Follows bs (start_at (mark_length bs)).blocks ts → Statements bs 0 ts
  follows ts (begins e r) = outer ts r
  follows _ (goes_on own e all r) = absurd (cc)

  pub laid_statements : (l : Laid) → laid_of bs ≡ Ok l → l.refused ≡ None → Statements bs 0 l.tokens
  laid_statements l e none = follows l.tokens (subst (Lawful bs (start_at (mark_length bs)).blocks) e laid_lawful none)
