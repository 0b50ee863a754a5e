-- Tokens from which the walk comes back pass the test of lines, token by token.
use Rattle.std.proofs.Common.{◌≡◌, ℕ, Bool, true, false, not, ◌&&◌, ◌||◌, if◌then◌else◌, List, [], ◌∷◌, ◌++◌, length, Option, Some, None, refl, sym, ◌∙◌, ap, subst}
use Rattle.std.specs.List.{list_all}
use Rattle.sw_text_scan.proofs.Bounds.{if_true, if_false, and_left, and_right, not_true}
use Rattle.sw_tokens.specs.declared.pieces.Before.{Before}
use Rattle.sw_tokens.specs.declared.pieces.Change.{Change}
use Rattle.sw_tokens.specs.declared.pieces.Change.TheVariants as changes
use Rattle.sw_tokens.specs.declared.skips.Inside.{Inside}
use Rattle.sw_tokens.specs.declared.skips.Inside.TheVariants as insides
use Rattle.sw_tokens.specs.declared.token.TokenKind.{TokenKind}
use Rattle.sw_tokens.specs.declared.token.TokenKind.TheVariants as kinds
use Rattle.sw_tokens.specs.Tokens.{before_of, is_spaced}
use Rattle.sw_parse_layout.specs.declared.sorts.Sort.{Sort}
use Rattle.sw_parse_layout.specs.declared.state.Bracket.{Bracket}
use Rattle.sw_parse_layout.specs.Lines.{is_blank}
use Rattle.sw_parse_layout.specs.Sorts.{sorted}
use Rattle.sw_parse_layout.specs.Pieces.{bracketed, is_refused_sign}
use Rattle.sw_parse_layout.specs.Steps as steps
use Rattle.sw_convert_spelling.specs.Spelt.{Spelt, behind_gap, opened, text_of}
use Rattle.sw_convert_spelling.proofs.Choices.{both}
use Rattle.sw_convert_passing.specs.Written.{Written}
use Rattle.sw_convert_laid.specs.Heads.{Told, is_comment, opens_comment}
use Rattle.sw_convert_laid.specs.Held.{is_keep, names_member, has_none, is_empty_comment, is_held, are_held}
use Rattle.sw_convert_laid.specs.LineFeeds.{StandBefore}
use Rattle.sw_convert_heads_laid.specs.Marks.{kind_mark, sort_mark, is_noted, is_seam, IsSame, AreSame}
use Rattle.sw_convert_heads_laid.specs.Holds.{is_line_sign, is_comma, is_kept, are_kept, ends_line}
use Rattle.sw_convert_heads_laid.proofs.Fits.{is_deep, keeps, fits, token_fits_there, deep_behind}
use Rattle.sw_convert_heads_laid.proofs.Walk.{At, at, step, walk, further, is_quiet}
use Rattle.sw_convert_heads_laid.proofs.Tests.{inserts, is_brace, is_ground, is_fresh, never_fresh, no_comma, ground_next, inner_next, keep_is, refused_no, brace_none, opens_no, comment_fine, comment_is, no_of, Settled, Opening, opening_of, told, ends_after}

-- of a comment that the grammar doesn't see it is known that it is an empty one
noted_empty : (spelt : Spelt) (one : Written) → IsSame spelt one → is_quiet one ≡ true → is_noted (kind_mark spelt.kind) ≡ true
    → is_seam spelt ≡ true
noted_empty spelt one same q n =
    let noted = ap is_noted (sym same.mark) ∙ n in
    same.empty noted (unseen (is_noted (sort_mark one.sort)) (has_none one.may_be) noted q)
  where
    unseen : (a b : Bool) → a ≡ true → (not a || b) ≡ true → b ≡ true
    unseen true b e f = f
    unseen false b e f = absurd (cc)

kept_change : (change : Change) → is_keep change ≡ true → change ≡ changes.Keep
kept_change changes.Keep e = refl
kept_change _ e = absurd (cc)

module _ (custom : Bool) (after : List ℕ) where
  -- what is asked of tokens, and that they pass
  abbrev Passes : List Spelt → List Written → Type 0
  Passes list tokens =
      (stack : List Inside) (bs : List Bracket) (sort : Sort) (before : Before) (last : Bool)
      → StandBefore stack before list [] after → list_all is_deep stack ≡ true
      → walk custom (inserts stack) bs tokens ≡ Some (at 0 []) → list_all is_quiet tokens ≡ true
      → are_kept custom stack list ≡ true → ends_line last list ≡ true → Settled stack sort before last
      → Opening sort list → are_held (told stack bs sort) before list ≡ true

  -- one token outside strings, urls and `#{}`
  module _ (spelt : Spelt) (list : List Spelt) (one : Written) (tokens : List Written) (same : IsSame spelt one)
      (quiet : is_quiet one ≡ true) (rest : Passes list tokens) where
    no_brace : (bs : List Bracket) → walk custom 0 bs (one ∷ tokens) ≡ Some (at 0 [])
        → (is_brace spelt.kind && (not custom && has_none bs)) ≡ false
    no_brace bs walked = go (is_brace spelt.kind && (not custom && has_none bs)) refl
      where
        go : (t : Bool) → (is_brace spelt.kind && (not custom && has_none bs)) ≡ t → t ≡ false
        go true e =
            let stopped : step custom 0 bs (sort_mark one.sort) ≡ None = ap (step custom 0 bs) (sym same.mark) ∙ brace_none custom bs spelt.kind e in
            let nowhere : None ≡ Some (at 0 []) = sym (ap (λ (x : Option At). elim x as (λ _. Option At) [
              | None ↦ None
              | Some next ↦ walk custom next.inserts next.brackets tokens
            ]) stopped) ∙ walked in
            absurd (cc)
        go false e = refl

    held_here : (bs : List Bracket) (sort : Sort) → walk custom 0 bs (one ∷ tokens) ≡ Some (at 0 [])
        → is_kept custom [] spelt ≡ true → names_member sort spelt.kind ≡ false → is_held bs sort spelt ≡ true
    held_here bs sort walked kept unnamed =
        both (list_all is_blank spelt.gap) _ (and_left (list_all is_blank spelt.gap) _ kept)
        (both (not (is_refused_sign bs (Some spelt.kind))) _
        (ap not (refused_no custom bs spelt.kind (not_true (is_line_sign custom spelt.kind) (and_right (list_all is_blank spelt.gap) _ kept)) (no_brace bs walked)))
        (both (not (names_member sort spelt.kind)) _ (ap not unnamed)
        (both (not (opens_comment spelt.kind)) _
        (ap not (opens_no spelt.kind (λ n. and_left (is_comment spelt.kind) _ (noted_empty spelt one same quiet n))))
        (comment_fine spelt.kind (is_empty_comment spelt) (λ n. and_right (is_comment spelt.kind) _ (noted_empty spelt one same quiet n))))))

    outer_step : (bs : List Bracket) (sort : Sort) (before : Before) (last : Bool)
        → StandBefore [] before (spelt ∷ list) [] after → walk custom 0 bs (one ∷ tokens) ≡ Some (at 0 [])
        → list_all is_quiet tokens ≡ true → are_kept custom [] (spelt ∷ list) ≡ true → ends_line last (spelt ∷ list) ≡ true
        → Opening sort (spelt ∷ list) → are_held (told [] bs sort) before (spelt ∷ list) ≡ true
    outer_step bs sort before last (gap, some, token, stand) walked quiets kept ends (unnamed, begun) =
        both (is_held bs sort spelt) _ (held_here bs sort walked (and_left (is_kept custom [] spelt) _ kept) unnamed)
        (go (is_comment spelt.kind) refl)
      where
        fit : fits insides.Sheet spelt.kind spelt.change ≡ true
        fit = token_fits_there (spelt.bytes ++ (text_of list ++ after)) 0 [] (behind_gap before spelt.gap) spelt.kind
            (length spelt.bytes) spelt.change refl token

        next : Told
        next = told (opened [] spelt.change) (bracketed bs (Some spelt.kind)) (sorted sort spelt.kind (is_spaced (behind_gap before spelt.gap)))

        onward : walk custom (inserts (opened [] spelt.change)) (bracketed bs (Some spelt.kind)) tokens ≡ Some (at 0 [])
        onward =
            sym (further custom 0 bs one tokens (at (inserts (opened [] spelt.change)) (bracketed bs (Some spelt.kind)))
            (ap (step custom 0 bs) (sym same.mark) ∙ ground_next custom bs spelt.kind spelt.change fit (no_brace bs walked)))
            ∙ walked

        kept_rest : are_kept custom (opened [] spelt.change) list ≡ true
        kept_rest = and_right (is_kept custom [] spelt) _ kept

        -- behind a comma nothing is open
        inner_so : (t : Bool) → is_comma spelt.kind ≡ t → is_ground (opened [] spelt.change) ≡ false
            → steps.is_comma (sorted sort spelt.kind (is_spaced (behind_gap before spelt.gap))) ≡ false
        inner_so true c g =
            let wrong : true ≡ false = sym (ap (λ (x : Change). is_ground (opened [] x)) (keep_is spelt.change (comma_keeps spelt.kind spelt.change c fit))) ∙ g in
            absurd (cc)
          where
            comma_keeps : (kind : TokenKind) (change : Change) → is_comma kind ≡ true → fits insides.Sheet kind change ≡ true
                → keeps change ≡ true
            comma_keeps kinds.Comma change c f = f
            comma_keeps _ change c f = absurd (cc)
        inner_so false c g = no_comma sort spelt.kind (is_spaced (behind_gap before spelt.gap)) c

        settled : Settled (opened [] spelt.change) (sorted sort spelt.kind (is_spaced (behind_gap before spelt.gap)))
            (before_of (Some spelt.kind)) (ends_after spelt.kind)
        settled = record {
          begun = λ g. never_fresh sort spelt.kind (is_spaced (behind_gap before spelt.gap));
          inner = inner_so (is_comma spelt.kind) refl;
          ended = λ e.
              let (c, s) = no_of (is_comma spelt.kind) (is_spaced (before_of (Some spelt.kind))) e in
              (no_comma sort spelt.kind (is_spaced (behind_gap before spelt.gap)) c, s);
        }

        -- behind a comment all is as before it
        noted : is_comment spelt.kind ≡ true → are_held (told [] bs sort) (before_of (Some spelt.kind)) list ≡ true
        noted c =
            let kind_is = comment_is spelt.kind c in
            let empty = and_right (is_comment spelt.kind) _ (noted_empty spelt one same quiet (ap (λ (k : TokenKind). is_noted (kind_mark k)) kind_is)) in
            let change_is = kept_change spelt.change (and_right _ (is_keep spelt.change) empty) in
            rest [] bs sort (before_of (Some spelt.kind)) (ends_after spelt.kind)
            (subst (λ (x : Change). StandBefore (opened [] x) (before_of (Some spelt.kind)) list [] after) change_is stand) refl
            (sym (ap (λ (x : Change). walk custom (inserts (opened [] x)) bs tokens) change_is)
            ∙ sym (ap (λ (k : TokenKind). walk custom (inserts (opened [] spelt.change)) (bracketed bs (Some k)) tokens) kind_is) ∙ onward)
            quiets (subst (λ (x : Change). are_kept custom (opened [] x) list ≡ true) change_is kept_rest) ends
            (record {
              begun = λ g. absurd (let wrong : true ≡ false = g in cc);
              inner = λ g. absurd (let wrong : true ≡ false = g in cc);
              ended = λ e. absurd (let wrong : false ≡ true = sym (ap ends_after kind_is) ∙ e in cc);
            })
            (opening_of sort list (not_fresh (is_fresh sort) refl c))
          where
            not_fresh : (t : Bool) → is_fresh sort ≡ t → is_comment spelt.kind ≡ true → is_fresh sort ≡ false
            not_fresh true f c = absurd (let wrong : true ≡ false = sym c ∙ begun f in cc)
            not_fresh false f c = f

        go : (t : Bool) → is_comment spelt.kind ≡ t
            → are_held (if is_comment spelt.kind then told [] bs sort else next) (before_of (Some spelt.kind)) list ≡ true
        go true c =
            ap (λ (x : Told). are_held x (before_of (Some spelt.kind)) list) (if_true (is_comment spelt.kind) (told [] bs sort) next c) ∙ noted c
        go false c =
            ap (λ (x : Told). are_held x (before_of (Some spelt.kind)) list) (if_false (is_comment spelt.kind) (told [] bs sort) next c)
            ∙ rest (opened [] spelt.change) (bracketed bs (Some spelt.kind)) (sorted sort spelt.kind (is_spaced (behind_gap before spelt.gap)))
            (before_of (Some spelt.kind)) (ends_after spelt.kind) stand (deep_behind [] spelt.kind spelt.change refl fit) onward
            quiets kept_rest ends settled
            (opening_of _ list (never_fresh sort spelt.kind (is_spaced (behind_gap before spelt.gap))))

    -- one in them
    inner_step : (inside : Inside) (outer : List Inside) (bs : List Bracket) (sort : Sort) (before : Before) (last : Bool)
        → StandBefore (inside ∷ outer) before (spelt ∷ list) [] after → list_all is_deep (inside ∷ outer) ≡ true
        → walk custom (inserts (inside ∷ outer)) bs (one ∷ tokens) ≡ Some (at 0 [])
        → list_all is_quiet tokens ≡ true → are_kept custom (inside ∷ outer) (spelt ∷ list) ≡ true
        → ends_line last (spelt ∷ list) ≡ true → Settled (inside ∷ outer) sort before last
        → are_held (told (inside ∷ outer) bs sort) before (spelt ∷ list) ≡ true
    inner_step inside outer bs sort before last (gap, some, token, stand) deep walked quiets kept ends settled =
        rest (opened (inside ∷ outer) spelt.change) bs sort (before_of (Some spelt.kind)) (ends_after spelt.kind) stand
        (deep_behind (inside ∷ outer) spelt.kind spelt.change deep fit)
        (sym (further custom (inserts (inside ∷ outer)) bs one tokens (at (inserts (opened (inside ∷ outer) spelt.change)) bs)
        (ap (step custom (inserts (inside ∷ outer)) bs) (sym same.mark)
        ∙ inner_next custom bs inside outer spelt.kind spelt.change (and_left (is_deep inside) _ deep) fit)) ∙ walked)
        quiets kept ends
        (record {
          begun = λ g. settled.begun refl;
          inner = λ g. settled.inner refl;
          ended = λ e.
              (settled.inner refl, (no_of (is_comma spelt.kind) (is_spaced (before_of (Some spelt.kind))) e).1);
        })
        (opening_of sort list (settled.begun refl))
      where
        fit : fits inside spelt.kind spelt.change ≡ true
        fit = token_fits_there (spelt.bytes ++ (text_of list ++ after)) 0 (inside ∷ outer) (behind_gap before spelt.gap)
            spelt.kind (length spelt.bytes) spelt.change deep token

  pub all_pass : (list : List Spelt) (tokens : List Written) → AreSame list tokens → Passes list tokens
  all_pass [] [] same stack bs sort before last stand deep walked quiet kept ends settled begins =
      let (calm, spaced) = settled.ended ends in
      both (has_none bs) _ (none_open bs (ap (λ (x : Option At). elim x as (λ _. List Bracket) [ None ↦ [] | Some it ↦ it.brackets ]) walked))
      (both (not (steps.is_comma sort)) _ (ap not calm) (ap not spaced))
    where
      none_open : (xs : List Bracket) → xs ≡ [] → has_none xs ≡ true
      none_open xs e = ap has_none e
  all_pass [] (one ∷ tokens) same stack bs sort before last stand deep walked quiet kept ends settled begins = absurd (same)
  all_pass (spelt ∷ list) [] same stack bs sort before last stand deep walked quiet kept ends settled begins = absurd (same)
  all_pass (spelt ∷ list) (one ∷ tokens) (same, more) [] bs sort before last stand deep walked quiet kept ends settled begins =
      outer_step spelt list one tokens same (and_left (is_quiet one) _ quiet) (all_pass list tokens more) bs sort before last
      stand walked (and_right (is_quiet one) _ quiet) kept ends begins
  all_pass (spelt ∷ list) (one ∷ tokens) (same, more) (inside ∷ outer) bs sort before last stand deep walked quiet kept ends settled begins =
      inner_step spelt list one tokens same (and_left (is_quiet one) _ quiet) (all_pass list tokens more) inside outer bs sort
      before last stand deep walked (and_right (is_quiet one) _ quiet) kept ends settled
