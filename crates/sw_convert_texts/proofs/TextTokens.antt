-- Strings with `#{}` token by token: a `#{` stands in each, and no text behind another one.
use Rattle.std.proofs.Common.{◌≡◌, ◌⊎◌, inl, inr, length-append, ℕ, zero, suc, ◌-◌, Bool, true, false, if◌then◌else◌, nat_lt, List, [], ◌∷◌, ◌++◌, length, Option, Some, None, Result, Ok, Err, refl, sym, ◌∙◌, ap, subst, arith}
use Rattle.std.specs.Prelude.{◌==◌, slice_get}
use Rattle.sw_text.specs.Places.{mark_length}
use Rattle.sw_text_scan.specs.declared.runs.Class.TheVariants as classes
use Rattle.sw_text_scan.specs.Bytes.{byte}
use Rattle.sw_text_scan.specs.Runs.{run_end}
use Rattle.sw_text_scan.proofs.Bounds.{run_stop}
use Rattle.sw_text_scan.proofs.Progress.{run_stops}
use Rattle.sw_tokens.specs.declared.pieces.Before.{Before}
use Rattle.sw_tokens.specs.declared.pieces.Before.TheVariants as befores
use Rattle.sw_tokens.specs.declared.pieces.Change.{Change}
use Rattle.sw_tokens.specs.declared.pieces.Piece.{Piece}
use Rattle.sw_tokens.specs.declared.scan.Opened.{Opened}
use Rattle.sw_tokens.specs.declared.skips.Inside.{Inside}
use Rattle.sw_tokens.specs.declared.skips.Inside.TheVariants as insides
use Rattle.sw_tokens.specs.declared.token.Syntax.TheVariants as syntaxes
use Rattle.sw_tokens.specs.declared.token.Token.{Token}
use Rattle.sw_tokens.specs.declared.token.TokenKind.{TokenKind}
use Rattle.sw_tokens.specs.declared.token.TokenKind.TheVariants as kinds
use Rattle.sw_tokens.specs.Ends.{reaching, reached, tokens_by, tokens_in, tokens_of}
use Rattle.sw_tokens.specs.Tokens.{inside_of, top, changed, before_of, last_start, kept_by, kept, behind, finished, walk, rest, pieces_of, is_spaced}
use Rattle.sw_convert_texts.proofs.TokenPairs.{Next, Pairs}
use Rattle.std.proofs.lemmas.Option.{slice_get-get_or}
use Rattle.std.proofs.Math.Seq.{get_or-append_seam}
use Rattle.sw_tokens.specs.Pieces.{piece}
use Rattle.sw_convert_texts.proofs.TextPieces.{is_text, ends_text, has_text, has_end, ending, InText, in_text, text_ends}
use Rattle.sw_convert_texts.proofs.TemplatePieces.{is_template, is_open, has_template, has_open, InTemplate, in_template, TextOnward, opens_in}

pub record TextBehind (t u : Token) : Type 0 where
  pub ends : is_text t.kind ≡ true → ends_text u.kind ≡ true

abbrev Ending : List Token → Type 0
Ending [] = Unit {0}
Ending (t ∷ ts) = ends_text t.kind ≡ true

-- a `#{` comes first, or behind a text
abbrev pub Opening : List Token → Type 0
Opening [] = Unit {0}
Opening (t ∷ ts) = is_open t.kind ≡ true

abbrev pub Opens : List Token → Type 0
Opens [] = Unit {0}
Opens (t ∷ ts) = (is_open t.kind ≡ true) ⊎ ((is_text t.kind ≡ true) × Opening ts)

-- so it is of each string with `#{}`
abbrev pub Templates : List Token → Type 0
Templates [] = Unit {0}
Templates (t ∷ ts) = (is_template t.kind ≡ true → Opens ts) × Templates ts

kept_pairs : (token : Option TokenKind) (at to : ℕ) (before : Before) (us : List Token)
    → (has_text token ≡ true → Ending us) → Pairs TextBehind us → Pairs TextBehind (kept_by token at to before ++ us)
kept_pairs None at to before us h p = p
kept_pairs (Some kind) at to before us h p =
    (next us h, p)
  where
    next : (us : List Token) → (is_text kind ≡ true → Ending us)
        → Next TextBehind (record { kind = kind; from = at; to = to; spaced = is_spaced before }) us
    next [] h = tt
    next (u ∷ us) h = record { ends = h }

kept_ends : (token : Option TokenKind) (at to : ℕ) (before : Before) (us : List Token) → has_end token ≡ true
    → Ending (kept_by token at to before ++ us)
kept_ends None at to before us e = absurd (cc)
kept_ends (Some kind) at to before us e = e

kept_templates : (token : Option TokenKind) (at to : ℕ) (before : Before) (us : List Token)
    → (has_template token ≡ true → Opens us) → Templates us → Templates (kept_by token at to before ++ us)
kept_templates None at to before us h p = p
kept_templates (Some kind) at to before us h p = (h, p)

kept_opens : (token : Option TokenKind) (at to : ℕ) (before : Before) (us : List Token)
    → (has_open token ≡ true) ⊎ ((has_text token ≡ true) × Opening us) → Opens (kept_by token at to before ++ us)
kept_opens None at to before us (inl e) = absurd (cc)
kept_opens None at to before us (inr (e, o)) = absurd (cc)
kept_opens (Some kind) at to before us o = o

-- behind a text there is no further one
opening_of : (us : List Token) → Opens us → Ending us → Opening us
opening_of [] o e = tt
opening_of (u ∷ us) (inl o) e = o
opening_of (u ∷ us) (inr (text, o)) e = no u.kind text e
  where
    no : (kind : TokenKind) → is_text kind ≡ true → ends_text kind ≡ true → is_open kind ≡ true
    no (kinds.Text told) t e = absurd (cc)
    no _ t e = absurd (cc)

abbrev listed_of : List Token → Result (List Token) ℕ → List Token
listed_of default (Ok list) = list
listed_of default (Err k) = default

-- what is opened last is the innermost
pushed : (os : List Opened) (o : Opened) → top syntaxes.Scss (os ++ o ∷ []) ≡ o.inside
unfolding top
pushed os o =
    let long = length-append os (o ∷ []) in
    ap (λ (n : ℕ). inside_of syntaxes.Scss (slice_get (os ++ o ∷ []) n))
    (let z : length (os ++ o ∷ []) - 1 ≡ length os = omega (arith, long) in z)
    ∙ ap (inside_of syntaxes.Scss)
    (slice_get-get_or (os ++ o ∷ []) (length os) o (omega (arith, long)) ∙ ap Some (get_or-append_seam os o [] o))

module _ (bs : List ℕ) where
  -- text in a string has ended there
  record Stopped (os : List Opened) (at : ℕ) : Type 0 where
    quote : ℕ
    inside_is : top syntaxes.Scss os ≡ insides.Quotes quote
    stops : run_end (classes.SheetText quote) bs at ≡ at

  -- a `#{` stands before the end of a string there
  record Unended (os : List Opened) (at : ℕ) : Type 0 where
    quote : ℕ
    inside_is : top syntaxes.Scss os ≡ insides.Quotes quote
    unquoted : (byte bs (run_end (classes.SheetText quote) bs at) == quote) ≡ false

  record Told (os : List Opened) (at : ℕ) (ts : List Token) : Type 0 where
    pairs : Pairs TextBehind ts
    templates : Templates ts
    ends : Stopped os at → Ending ts
    opens : Unended os at → Opens ts

  none_left : (os : List Opened) (at : ℕ) (ts : List Token) → finished os ≡ Ok ts → Told os at ts
  none_left [] at ts e = subst (Told [] at) (ap (listed_of []) e) (record { pairs = tt; templates = tt; ends = λ s. tt; opens = λ u. tt })
  none_left (o ∷ os) at ts e = absurd (cc)

  abbrev Further : ℕ → Type 0
  Further n =
      (os : List Opened) (before : Before) (at : ℕ) (ts : List Token) → walk syntaxes.Scss bs n os before at ≡ Ok ts
      → Told os at ts

  module _ (n : ℕ) (again : Further n) (os : List Opened) (before : Before) (at : ℕ) (ts : List Token) where
    behind_text : (p : Piece) → InText bs at (top syntaxes.Scss os) p → Stopped (changed os p.change at) p.to
    behind_text p it = record {
      quote = it.quote;
      inside_is = ap (λ (c : Change). top syntaxes.Scss (changed os c at)) it.change_is ∙ it.inside_is;
      stops =
          subst (λ (k : ℕ). run_end (classes.SheetText it.quote) bs k ≡ k) (sym it.to_is)
          (run_stop bs (classes.SheetText it.quote) (run_end (classes.SheetText it.quote) bs at)
          (run_stops bs (classes.SheetText it.quote) at));
    }

    -- the end of a text in such a string is where it ends
    stopped_at : (q to : ℕ) → to ≡ run_end (classes.SheetText q) bs at → run_end (classes.SheetText q) bs to ≡ to
    stopped_at q to is =
        subst (λ (k : ℕ). run_end (classes.SheetText q) bs k ≡ k) (sym is)
        (run_stop bs (classes.SheetText q) (run_end (classes.SheetText q) bs at) (run_stops bs (classes.SheetText q) at))

    opened : (p : Piece) → piece bs (top syntaxes.Scss os) before at ≡ Some p → Unended os at → (us : List Token)
        → (told : Told (changed os p.change at) p.to us)
        → (has_open p.token ≡ true) ⊎ ((has_text p.token ≡ true) × Opening us)
    opened p is u us told =
        go (opens_in bs at u.quote p u.unquoted (sym (ap (λ (i : Inside). piece bs i before at) u.inside_is) ∙ is))
      where
        go : (has_open p.token ≡ true) ⊎ TextOnward bs at u.quote p
            → (has_open p.token ≡ true) ⊎ ((has_text p.token ≡ true) × Opening us)
        go (inl o) = inl o
        go (inr t) =
            let inside = ap (λ (c : Change). top syntaxes.Scss (changed os c at)) t.change_is ∙ u.inside_is in
            let stays = stopped_at u.quote p.to t.to_is in
            inr (
              t.text,
              opening_of us
                  (told.opens (record {
                    quote = u.quote;
                    inside_is = inside;
                    unquoted = ap (λ (k : ℕ). byte bs k == u.quote) (stays ∙ t.to_is) ∙ u.unquoted;
                  }))
                  (told.ends (record { quote = u.quote; inside_is = inside; stops = stays })),
            )

    begun : (p : Piece) → InTemplate bs at p → Unended (changed os p.change at) p.to
    begun p it = record {
      quote = it.quote;
      inside_is =
          ap (λ (c : Change). top syntaxes.Scss (changed os c at)) it.change_is
          ∙ pushed os (record { start = at; inside = insides.Quotes it.quote });
      unquoted = ap (λ (k : ℕ). byte bs (run_end (classes.SheetText it.quote) bs k) == it.quote) it.to_is ∙ it.unquoted;
    }

    ended : (p : Piece) → piece bs (top syntaxes.Scss os) before at ≡ Some p → Stopped os at → has_end p.token ≡ true
    ended p is s =
        ap ending (sym is) ∙ ap (λ (i : Inside). ending (piece bs i before at)) s.inside_is ∙ text_ends bs at s.quote s.stops

    further : (p : Piece) → piece bs (top syntaxes.Scss os) before at ≡ Some p → (r : Result (List Token) ℕ)
        → walk syntaxes.Scss bs n (changed os p.change at) (before_of p.token) p.to ≡ r
        → behind (kept p at before) r ≡ Ok ts → Told os at ts
    further p is (Err k) w f = absurd (cc)
    further p is (Ok us) w f =
        let told = again (changed os p.change at) (before_of p.token) p.to us w in
        subst (Told os at) (ap (listed_of []) f) (record {
          pairs = kept_pairs p.token at p.to before us
              (λ e. told.ends (behind_text p (in_text bs at (top syntaxes.Scss os) before p is e))) told.pairs;
          templates = kept_templates p.token at p.to before us
              (λ e. told.opens (begun p (in_template bs at (top syntaxes.Scss os) before p is e))) told.templates;
          ends = λ s. kept_ends p.token at p.to before us (ended p is s);
          opens = λ u. kept_opens p.token at p.to before us (opened p is u us told);
        })

    abbrev on : Option Piece → Result (List Token) ℕ
    on o = elim o as (λ _. Result (List Token) ℕ) [
      | None ↦ Err (last_start os at)
      | Some p ↦ behind (kept p at before) (walk syntaxes.Scss bs n (changed os p.change at) (before_of p.token) p.to)
    ]

    found : (o : Option Piece) → piece bs (top syntaxes.Scss os) before at ≡ o → on o ≡ Ok ts → Told os at ts
    found None is f = absurd (cc)
    found (Some p) is f =
        further p is (walk syntaxes.Scss bs n (changed os p.change at) (before_of p.token) p.to) refl f

    here : (b : Bool) → (if b then on (piece bs (top syntaxes.Scss os) before at) else finished os) ≡ Ok ts → Told os at ts
    here true f = found (piece bs (top syntaxes.Scss os) before at) refl f
    here false f = none_left os at ts f

  walked : (n : ℕ) → Further n
  walked zero os before at ts e = none_left os at ts e
  walked (suc n) os before at ts e = here n (walked n) os before at ts (nat_lt at (length bs)) e

next_reached : (t : Token) (ends : List ℕ) (ts : List Token) → Next TextBehind t ts
    → Next TextBehind (reaching t ends) (reached ts).list
next_reached t ends [] n = tt
next_reached t ends (u ∷ ts) n = record { ends = n.ends }

pairs_reached : (ts : List Token) → Pairs TextBehind ts → Pairs TextBehind (reached ts).list
pairs_reached [] p = tt
pairs_reached (t ∷ ts) (n, p) = (next_reached t (reached ts).ends ts n, pairs_reached ts p)

opening_reached : (ts : List Token) → Opening ts → Opening (reached ts).list
opening_reached [] o = tt
opening_reached (t ∷ ts) o = o

opens_reached : (ts : List Token) → Opens ts → Opens (reached ts).list
opens_reached [] o = tt
opens_reached (t ∷ ts) (inl o) = inl o
opens_reached (t ∷ ts) (inr (text, o)) = inr (text, opening_reached ts o)

templates_reached : (ts : List Token) → Templates ts → Templates (reached ts).list
templates_reached [] p = tt
templates_reached (t ∷ ts) (o, p) = (λ e. opens_reached ts (o e), templates_reached ts p)

pub record Strings (list : List Token) : Type 0 where
  pub pairs : Pairs TextBehind list
  pub templates : Templates list

pub all_strings : (bs : List ℕ) (list : List Token) → tokens_of bs ≡ Ok list → Strings list
unfolding tokens_in pieces_of rest
all_strings bs list e = go (pieces_of syntaxes.Scss bs) refl e
  where
    go : (r : Result (List Token) ℕ) → pieces_of syntaxes.Scss bs ≡ r → tokens_by r ≡ Ok list → Strings list
    go (Err k) p f = absurd (cc)
    go (Ok ts) p f =
        let told = walked bs (suc (length bs - mark_length bs)) [] befores.Other (mark_length bs) ts p in
        subst Strings (ap (listed_of []) f)
        (record { pairs = pairs_reached ts told.pairs; templates = templates_reached ts told.templates })
