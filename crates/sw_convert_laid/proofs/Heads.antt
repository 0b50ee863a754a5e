-- The walk goes over what stands in a line, and lays its tokens.
use Rattle.std.proofs.Common.{◌≡◌, ℕ, ◌+◌, ◌<◌, Bool, true, false, List, [], ◌∷◌, ◌++◌, length, Some, refl, sym, ◌∙◌, ap, subst, arith, append_assoc, length-append}
use Rattle.std.specs.Prelude.{◌==◌}
use Rattle.std.specs.List.{list_all}
use Rattle.sw_text_scan.specs.Bytes.{byte, is_white}
use Rattle.sw_text_scan.proofs.Bounds.{if_true, if_false, and_left, and_right, not_true}
use Rattle.sw_tokens.specs.declared.pieces.Before.{Before}
use Rattle.sw_tokens.specs.declared.pieces.Before.TheVariants as befores
use Rattle.sw_tokens.specs.declared.scan.Opened.{Opened}
use Rattle.sw_tokens.specs.declared.skips.Inside.{Inside}
use Rattle.sw_tokens.specs.declared.skips.Inside.TheVariants as insides
use Rattle.sw_tokens.specs.declared.token.Token.{Token}
use Rattle.sw_tokens.specs.declared.token.TokenKind.{TokenKind}
use Rattle.sw_tokens.specs.declared.token.TokenKind.TheVariants as kinds
use Rattle.sw_tokens.specs.Tokens.{changed, before_of, is_spaced}
use Rattle.sw_parse_layout.specs.declared.blocks.Blocks.{Blocks}
use Rattle.sw_parse_layout.specs.declared.sorts.Sort.{Sort}
use Rattle.sw_parse_layout.specs.declared.sorts.Sort.TheVariants as sorts
use Rattle.sw_parse_layout.specs.declared.state.Bracket.{Bracket}
use Rattle.sw_parse_layout.specs.declared.state.State.{State}
use Rattle.sw_parse_layout.specs.Sorts.{sorted}
use Rattle.sw_parse_layout.specs.Pieces.{bracketed}
use Rattle.sw_parse_layout.specs.Steps.{is_comma}
use Rattle.sw_convert_spelling.specs.Spelt.{Spelt, text_of, behind_gap, end_of, placed_behind, opened, takes_gap, is_gap, IsToken}
use Rattle.sw_convert_spelling.proofs.Choices.{neither}
use Rattle.sw_convert_spelling.proofs.MovedRuns.{first_byte}
use Rattle.sw_convert_laid.specs.Heads.{Told, untold, is_ground, is_comment, opens_comment, told_with, IsHeld, AreHeld}
use Rattle.sw_convert_laid.proofs.Going.{Goes, stays, then_on, to_same}
use Rattle.sw_convert_laid.proofs.Behind.{Behind, onward, reread}
use Rattle.sw_convert_laid.proofs.Inner.{gap_goes, inner_token}
use Rattle.sw_convert_laid.proofs.Sorts.{is_fresh, begun}
use Rattle.sw_convert_laid.proofs.Steps.{in_line, blanks_go, token_goes, note_goes}
use Rattle.sw_convert_laid.proofs.Taken.{Holds, nothing, more, some_open, changed_holds}

comment_is : (kind : TokenKind) → is_comment kind ≡ true → kind ≡ kinds.Comment
comment_is kinds.Comment e = refl
comment_is _ e = absurd (cc)

no_truth : {P : Type 0} → true ≡ false → P
no_truth e = absurd (cc)

-- what is known of the walk within a line: comments wait only behind white space and outside strings, urls and `#{}`
record Idle (stack : List Inside) (before : Before) (sort : Sort) (at end : ℕ) (comments : List Token) : Type 0 where
  alone : is_spaced before ≡ false → comments ≡ []
  ends : is_spaced before ≡ false → end ≡ at
  ground : is_ground stack ≡ false → comments ≡ []
  begins : is_ground stack ≡ false → is_fresh sort ≡ false

module _ (bs : List ℕ) (depth : ℕ) (blocks : Blocks) (after : List ℕ) where
  -- the walk comes to the end of the line, and nothing is open there
  pub record Headed (s : State) (tokens : List Token) (to : ℕ) : Type 0 where
    pub before : Before
    pub sort : Sort
    pub plain : is_comma sort ≡ false
    pub goes : Goes bs s tokens (in_line to depth [] before [] sort to [] blocks)

  led : {s t : State} {ts us : List Token} {to : ℕ} → Goes bs s ts t → Headed t us to → Headed s (ts ++ us) to
  led g h = record { before = h.before; sort = h.sort; plain = h.plain; goes = then_on bs g h.goes }

  headed_so : {s : State} {ts us : List Token} {to end : ℕ} → ts ≡ us → to ≡ end → Headed s ts to → Headed s us end
  headed_so {s} {ts} {end = end} e f h =
      subst (λ (x : List Token). Headed s x end) e (subst (λ (x : ℕ). Headed s ts x) f h)

  abbrev Walks : List Spelt → Type 0
  Walks list =
      (at : ℕ) (os : List Opened) (stack : List Inside) → Holds os stack → (before : Before) (brackets : List Bracket)
      (sort : Sort) (end : ℕ) (comments : List Token) → Behind bs at (text_of list ++ after)
      → AreHeld (record { stack = stack; brackets = brackets; sort = sort }) before list after
      → Idle stack before sort at end comments
      → Headed (in_line at depth os before brackets sort end comments blocks) (comments ++ placed_behind before at list)
      (at + length (text_of list))

  -- behind the last token
  none_walks : Walks []
  none_walks at os stack nothing before brackets sort end comments b (e, no_brackets, plain, unspaced) idle =
      headed_so (ap (λ (cs : List Token). cs ++ []) (sym (idle.alone unspaced))) (let p : at ≡ at + 0 = omega arith in p)
      (record {
        before = before;
        sort = sort;
        plain = plain;
        goes = to_same bs (stays bs (in_line at depth [] before brackets sort end comments blocks))
            (ap (λ (cs : List Token). in_line at depth [] before brackets sort end cs blocks) (idle.alone unspaced)
            ∙ ap (λ (n : ℕ). in_line at depth [] before brackets sort n [] blocks) (idle.ends unspaced)
            ∙ ap (λ (xs : List Bracket). in_line at depth [] before xs sort at [] blocks) no_brackets);
      })
  none_walks at os stack (more o h) before brackets sort end comments b (e, no_brackets, plain, unspaced) idle = absurd (cc)

  module _ (spelt : Spelt) (list : List Spelt) (others : Walks list) where
    abbrev further : ℕ → ℕ
    further at = end_of at spelt

    split : (spelt.gap ++ (spelt.bytes ++ text_of list)) ++ after ≡ spelt.gap ++ (spelt.bytes ++ (text_of list ++ after))
    split =
        append_assoc spelt.gap (spelt.bytes ++ text_of list) after
        ∙ ap (λ (t : List ℕ). spelt.gap ++ t) (append_assoc spelt.bytes (text_of list) after)

    far : (at : ℕ) → further at + length (text_of list) ≡ at + length (text_of (spelt ∷ list))
    far at =
        let e = length-append spelt.gap (spelt.bytes ++ text_of list) in
        let f = length-append spelt.bytes (text_of list) in omega (arith, e, f)

    first_of : (xs ys : List ℕ) → 0 < length xs → byte (xs ++ ys) 0 ≡ byte xs 0
    first_of [] ys s = absurd (omega (arith, s))
    first_of (x ∷ xs) ys s = first_byte x (xs ++ ys) ∙ sym (first_byte x xs)

    -- what stands behind a token
    abbrev token_at : ℕ → Before → Token
    token_at at before = record {
      kind = spelt.kind;
      from = at + length spelt.gap;
      to = further at;
      spaced = is_spaced (behind_gap before spelt.gap);
    }

    module _ {at : ℕ} (before : Before) (brackets : List Bracket) (sort : Sort) (end : ℕ)
        (b : Behind bs at (spelt.gap ++ (spelt.bytes ++ (text_of list ++ after)))) (some : 0 < length spelt.bytes) where
      abbrev mid : ℕ
      mid = at + length spelt.gap

      bytes_there : Behind bs mid (spelt.bytes ++ (text_of list ++ after))
      bytes_there = onward bs spelt.gap b

      rest_there : Behind bs (further at) (text_of list ++ after)
      rest_there = onward bs spelt.bytes bytes_there

      -- what is laid up to here, and then further on
      on_from : {comments waiting : List Token} {os us : List Opened} {next : Before} {ns : List Bracket} {form : Sort}
          {to : ℕ} → (ts : List Token)
          → Goes bs (in_line at depth os before brackets sort end comments blocks) ts
          (in_line (further at) depth us next ns form to waiting blocks)
          → ts ++ (waiting ++ placed_behind (before_of (Some spelt.kind)) (further at) list)
          ≡ comments ++ placed_behind before at (spelt ∷ list)
          → Headed (in_line (further at) depth us next ns form to waiting blocks)
          (waiting ++ placed_behind (before_of (Some spelt.kind)) (further at) list) (further at + length (text_of list))
          → Headed (in_line at depth os before brackets sort end comments blocks)
          (comments ++ placed_behind before at (spelt ∷ list)) (at + length (text_of (spelt ∷ list)))
      on_from ts g e h = headed_so e (far at) (led g h)

      -- outside strings, urls and `#{}`
      module _ (comments : List Token) (held : IsHeld (record { stack = []; brackets = brackets; sort = sort }) spelt)
          (token : IsToken insides.Sheet (behind_gap before spelt.gap) spelt (text_of list ++ after)) where
        white : Goes bs (in_line at depth [] before brackets sort end comments blocks) []
            (in_line mid depth [] (behind_gap before spelt.gap) brackets sort end comments blocks)
        white =
            blanks_go bs depth blocks brackets sort end comments spelt.gap (spelt.bytes ++ (text_of list ++ after)) before b
            held.blank

        -- a comment waits for the next token
        noted : is_comment spelt.kind ≡ true
            → AreHeld (record { stack = []; brackets = brackets; sort = sort }) (before_of (Some spelt.kind)) list after
            → Headed (in_line at depth [] before brackets sort end comments blocks)
            (comments ++ placed_behind before at (spelt ∷ list)) (at + length (text_of (spelt ∷ list)))
        noted c rest =
            let note : Token = record {
              kind = kinds.Comment;
              from = mid;
              to = further at;
              spaced = is_spaced (behind_gap before spelt.gap);
            } in
            on_from []
            (then_on bs white
            (to_same bs
            (note_goes bs depth blocks brackets sort end comments (behind_gap before spelt.gap) spelt (text_of list ++ after)
            bytes_there some (held.empty c))
            (ap (λ (w : Before). in_line (further at) depth [] w brackets sort end (comments ++ note ∷ []) blocks) (sym white_behind))))
            (append_assoc comments (note ∷ []) _
            ∙ ap (λ (k : TokenKind). comments ++ (token_of k ∷ placed_behind (before_of (Some spelt.kind)) (further at) list)) (sym (comment_is spelt.kind c)))
            (others (further at) [] [] nothing (before_of (Some spelt.kind)) brackets sort end (comments ++ note ∷ []) rest_there rest
            (record {
              alone = λ e. no_truth (sym (ap is_spaced white_behind) ∙ e);
              ends = λ e. no_truth (sym (ap is_spaced white_behind) ∙ e);
              ground = λ e. no_truth e;
              begins = λ e. no_truth e;
            }))
          where
            white_behind : before_of (Some spelt.kind) ≡ befores.White
            white_behind = ap (λ (k : TokenKind). before_of (Some k)) (comment_is spelt.kind c)

            token_of : TokenKind → Token
            token_of kind = record { kind = kind; from = mid; to = further at; spaced = is_spaced (behind_gap before spelt.gap) }

        taken : is_comment spelt.kind ≡ false
            → AreHeld (record {
              stack = opened [] spelt.change;
              brackets = bracketed brackets (Some spelt.kind);
              sort = sorted sort spelt.kind (is_spaced (behind_gap before spelt.gap));
            }) (before_of (Some spelt.kind)) list after
            → Headed (in_line at depth [] before brackets sort end comments blocks)
            (comments ++ placed_behind before at (spelt ∷ list)) (at + length (text_of (spelt ∷ list)))
        taken c rest =
            let form = sorted sort spelt.kind (is_spaced (behind_gap before spelt.gap)) in
            on_from (comments ++ token_at at before ∷ [])
            (then_on bs white
            (token_goes bs depth blocks brackets sort end comments (behind_gap before spelt.gap) spelt (text_of list ++ after)
            bytes_there some token (neither (is_comment spelt.kind) (opens_comment spelt.kind) c held.whole) held.allowed held.named))
            (append_assoc comments (token_at at before ∷ []) _)
            (others (further at) (changed [] spelt.change mid) (opened [] spelt.change) (changed_holds [] [] spelt.change mid nothing)
            (before_of (Some spelt.kind)) (bracketed brackets (Some spelt.kind)) form (further at) [] rest_there rest
            (record {
              alone = λ e. refl;
              ends = λ e. refl;
              ground = λ e. refl;
              begins = λ e. begun sort spelt.kind (is_spaced (behind_gap before spelt.gap));
            }))

        ground_walks : AreHeld
            (told_with (record { stack = []; brackets = brackets; sort = sort }) (is_spaced (behind_gap before spelt.gap)) spelt)
            (before_of (Some spelt.kind)) list after
            → Headed (in_line at depth [] before brackets sort end comments blocks)
            (comments ++ placed_behind before at (spelt ∷ list)) (at + length (text_of (spelt ∷ list)))
        ground_walks rest = go (is_comment spelt.kind) refl
          where
            go : (t : Bool) → is_comment spelt.kind ≡ t
                → Headed (in_line at depth [] before brackets sort end comments blocks)
                (comments ++ placed_behind before at (spelt ∷ list)) (at + length (text_of (spelt ∷ list)))
            go true c =
                noted c
                (subst (λ (x : Told). AreHeld x (before_of (Some spelt.kind)) list after) (if_true (is_comment spelt.kind) _ _ c) rest)
            go false c =
                taken c
                (subst (λ (x : Told). AreHeld x (before_of (Some spelt.kind)) list after) (if_false (is_comment spelt.kind) _ _ c) rest)

      -- in one of these
      module _ (os : List Opened) (one : Inside) (outer : List Inside) (h : Holds os (one ∷ outer))
          (deep : (length os == 0) ≡ false) (begins : is_fresh sort ≡ false) where
        inner_white : is_gap one spelt.gap spelt.bytes ≡ true
            → Goes bs (in_line at depth os before brackets sort end [] blocks) []
            (in_line mid depth os (behind_gap before spelt.gap) brackets sort end [] blocks)
        inner_white g = go spelt.gap b g
          where
            go : (gap : List ℕ) → Behind bs at (gap ++ (spelt.bytes ++ (text_of list ++ after)))
                → is_gap one gap spelt.bytes ≡ true
                → Goes bs (in_line at depth os before brackets sort end [] blocks) []
                (in_line (at + length gap) depth os (behind_gap before gap) brackets sort end [] blocks)
            go [] there g =
                to_same bs (stays bs (in_line at depth os before brackets sort end [] blocks))
                (ap (λ (k : ℕ). in_line k depth os before brackets sort end [] blocks) (let p : at ≡ at + 0 = omega arith in p))
            go (x ∷ gap) there g =
                let fits = and_right (takes_gap one) _ g in
                gap_goes bs depth blocks brackets sort end begins os (one ∷ outer) h deep (x ∷ gap)
                (spelt.bytes ++ (text_of list ++ after)) before there (positive gap) (and_left (takes_gap one) _ g)
                (and_left (list_all is_white (x ∷ gap)) _ fits)
                (ap is_white (first_of spelt.bytes (text_of list ++ after) some)
                ∙ not_true (is_white (byte spelt.bytes 0)) (and_right (list_all is_white (x ∷ gap)) _ fits))
              where
                positive : (xs : List ℕ) → 0 < length (x ∷ xs)
                positive xs = omega arith

        inner_walks : is_gap one spelt.gap spelt.bytes ≡ true
            → IsToken one (behind_gap before spelt.gap) spelt (text_of list ++ after)
            → AreHeld
            (told_with (record { stack = one ∷ outer; brackets = brackets; sort = sort }) (is_spaced (behind_gap before spelt.gap)) spelt)
            (before_of (Some spelt.kind)) list after
            → Headed (in_line at depth os before brackets sort end [] blocks) (placed_behind before at (spelt ∷ list))
            (at + length (text_of (spelt ∷ list)))
        inner_walks g token rest =
            on_from (token_at at before ∷ [])
            (then_on bs (inner_white g)
            (inner_token bs depth blocks brackets sort end begins os (one ∷ outer) h deep spelt (text_of list ++ after)
            (behind_gap before spelt.gap) bytes_there some token))
            refl
            (others (further at) (changed os spelt.change mid) (opened (one ∷ outer) spelt.change)
            (changed_holds os (one ∷ outer) spelt.change mid h) (before_of (Some spelt.kind)) brackets sort (further at) []
            rest_there rest
            (record { alone = λ e. refl; ends = λ e. refl; ground = λ e. refl; begins = λ e. begins }))

    more_walks : Walks (spelt ∷ list)
    more_walks at os stack nothing before brackets sort end comments b (gap, some, token, held, rest) idle =
        ground_walks before brackets sort end (reread bs split b) some comments (held refl) token rest
    more_walks at os stack (more {os = front} {stack = outer} o h) before brackets sort end comments b (gap, some, token, held, rest) idle =
        subst
        (λ (cs : List Token). Headed (in_line at depth (front ++ o ∷ []) before brackets sort end cs blocks)
        (cs ++ placed_behind before at (spelt ∷ list)) (at + length (text_of (spelt ∷ list))))
        (sym (idle.ground refl))
        (inner_walks before brackets sort end (reread bs split b) some (front ++ o ∷ []) o.inside outer (more o h)
        (some_open front o) (idle.begins refl) gap token rest)

  all_walk : (list : List Spelt) → Walks list
  all_walk [] = none_walks
  all_walk (spelt ∷ list) = more_walks spelt list (all_walk list)

  -- from where a statement begins
  pub line_walks : (list : List Spelt) {at : ℕ} → Behind bs at (text_of list ++ after)
      → AreHeld untold befores.White list after
      → Headed (in_line at depth [] befores.White [] sorts.Fresh at [] blocks) (placed_behind befores.White at list)
      (at + length (text_of list))
  line_walks list {at} b held =
      all_walk list at [] [] nothing befores.White [] sorts.Fresh at [] b held
      (record { alone = λ e. no_truth e; ends = λ e. no_truth e; ground = λ e. no_truth e; begins = λ e. no_truth e })
