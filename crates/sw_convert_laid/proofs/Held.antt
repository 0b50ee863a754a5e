-- Tokens that stand before a space are a line where a test tells so.
use Rattle.std.proofs.Common.{◌≡◌, ℕ, Bool, true, false, not, ◌||◌, if◌then◌else◌, List, [], ◌∷◌, ◌++◌, Some, refl, sym, ◌∙◌, ap, subst}
use Rattle.std.specs.Prelude.{codes, bytes_eq}
use Rattle.std.specs.List.{list_all}
use Rattle.std.proofs.lemmas.Slice.Eq.{bytes_eq-Decides}
use Rattle.sw_text_scan.proofs.Bounds.{if_true, if_false, and_left, and_right, not_true}
use Rattle.sw_tokens.specs.declared.pieces.Before.{Before}
use Rattle.sw_tokens.specs.declared.pieces.Before.TheVariants as befores
use Rattle.sw_tokens.specs.declared.pieces.Change.{Change}
use Rattle.sw_tokens.specs.declared.pieces.Change.TheVariants as changes
use Rattle.sw_tokens.specs.declared.skips.Inside.{Inside}
use Rattle.sw_tokens.specs.declared.token.TokenKind.{TokenKind}
use Rattle.sw_tokens.specs.declared.token.TokenKind.TheVariants as kinds
use Rattle.sw_tokens.specs.Tokens.{before_of, is_spaced}
use Rattle.sw_parse_layout.specs.declared.sorts.Sort.{Sort}
use Rattle.sw_parse_layout.specs.declared.sorts.Sort.TheVariants as sorts
use Rattle.sw_parse_layout.specs.declared.state.Bracket.{Bracket}
use Rattle.sw_parse_layout.specs.Lines.{is_blank}
use Rattle.sw_parse_layout.specs.Sorts.{sorted}
use Rattle.sw_parse_layout.specs.Pieces.{bracketed, renamed, is_refused_sign}
use Rattle.sw_parse_layout.specs.Steps.{is_comma}
use Rattle.sw_convert_spelling.specs.Spelt.{Spelt, behind_gap, opened}
use Rattle.sw_convert_laid.specs.Heads.{Told, untold, is_comment, opens_comment, IsHeld, AreHeld}
use Rattle.sw_convert_laid.specs.Held.{names_member, is_keep, has_none, is_empty_comment, is_held, are_held, is_line, AreLine}
use Rattle.sw_convert_laid.specs.LineFeeds.{StandBefore}
use Rattle.sw_convert_laid.specs.Rows.{Row, Begins}
use Rattle.sw_convert_laid.proofs.LineFeeds.{before_line_feed}

same_name : (sort : Sort) (kind : TokenKind) → names_member sort kind ≡ false → renamed sort (Some kind) ≡ Some kind
same_name sorts.Fresh kinds.Equals e = absurd (cc)
same_name sorts.Fresh kinds.Plus e = absurd (cc)
same_name sorts.Fresh _ e = refl
same_name _ kind e = refl

none_is : {A : Type 0} (xs : List A) → has_none xs ≡ true → xs ≡ []
none_is [] e = refl
none_is (x ∷ xs) e = absurd (cc)

kept : (change : Change) → is_keep change ≡ true → change ≡ changes.Keep
kept changes.Keep e = refl
kept _ e = absurd (cc)

second : (a b : Bool) → (not a || b) ≡ true → a ≡ true → b ≡ true
second true b e f = e
second false b e f = absurd (cc)

-- a comment that a line holds
comment_held : (brackets : List Bracket) (sort : Sort) (spelt : Spelt) → is_held brackets sort spelt ≡ true
    → is_comment spelt.kind ≡ true → is_empty_comment spelt ≡ true
comment_held brackets sort spelt e c =
    second (is_comment spelt.kind) (is_empty_comment spelt)
    (and_right (not (opens_comment spelt.kind)) _
    (and_right (not (names_member sort spelt.kind)) _
    (and_right (not (is_refused_sign brackets (Some spelt.kind))) _ (and_right (list_all is_blank spelt.gap) _ e)))) c

held_of : (told : Told) (spelt : Spelt) → is_held told.brackets told.sort spelt ≡ true → IsHeld told spelt
held_of told spelt e =
    let allowed = and_right (list_all is_blank spelt.gap) _ e in
    let named = and_right (not (is_refused_sign told.brackets (Some spelt.kind))) _ allowed in
    let whole = and_right (not (names_member told.sort spelt.kind)) _ named in record {
      blank = and_left (list_all is_blank spelt.gap) _ e;
      allowed = not_true (is_refused_sign told.brackets (Some spelt.kind)) (and_left (not (is_refused_sign told.brackets (Some spelt.kind))) _ allowed);
      named = same_name told.sort spelt.kind (not_true (names_member told.sort spelt.kind) (and_left (not (names_member told.sort spelt.kind)) _ named));
      whole = not_true (opens_comment spelt.kind) (and_left (not (opens_comment spelt.kind)) _ whole);
      empty = λ c. bytes_are spelt.bytes (codes "/**/")
          (and_left (bytes_eq spelt.bytes (codes "/**/")) _ (comment_held told.brackets told.sort spelt e c));
    }
  where
    bytes_are : (xs ys : List ℕ) → bytes_eq xs ys ≡ true → xs ≡ ys
    bytes_are xs ys e = (bytes_eq-Decides xs ys).0 e

module _ (after : List ℕ) where
  all_held : (list : List Spelt) (stack : List Inside) (brackets : List Bracket) (sort : Sort) (before : Before)
      → are_held (record { stack = stack; brackets = brackets; sort = sort }) before list ≡ true
      → StandBefore stack before list [] after → AreHeld (record { stack = stack; brackets = brackets; sort = sort }) before list after
  all_held [] stack brackets sort before e is =
      let rest = and_right (has_none brackets) _ e in (
        is,
        none_is brackets (and_left (has_none brackets) _ e),
        not_true (is_comma sort) (and_left (not (is_comma sort)) _ rest),
        not_true (is_spaced before) (and_right (not (is_comma sort)) _ rest),
      )
  all_held (spelt ∷ list) [] brackets sort before e (gap, some, token, others) =
      let held = and_left (is_held brackets sort spelt) _ e in
      let further = and_right (is_held brackets sort spelt) _ e in (
        gap,
        some,
        token,
        λ g. held_of (record { stack = []; brackets = brackets; sort = sort }) spelt held,
        go (is_comment spelt.kind) refl (comment_held brackets sort spelt held) further
            (λ stack brackets sort e is. all_held list stack brackets sort (before_of (Some spelt.kind)) e is),
      )
    where
      told : Told
      told = record { stack = []; brackets = brackets; sort = sort }

      next : Told
      next = record {
        stack = opened [] spelt.change;
        brackets = bracketed brackets (Some spelt.kind);
        sort = sorted sort spelt.kind (is_spaced (behind_gap before spelt.gap));
      }

      go : (t : Bool) → is_comment spelt.kind ≡ t → (is_comment spelt.kind ≡ true → is_empty_comment spelt ≡ true)
          → are_held (if is_comment spelt.kind then told else next) (before_of (Some spelt.kind)) list ≡ true
          → ((stack : List Inside) (brackets : List Bracket) (sort : Sort)
          → are_held (record { stack = stack; brackets = brackets; sort = sort }) (before_of (Some spelt.kind)) list ≡ true
          → StandBefore stack (before_of (Some spelt.kind)) list [] after
          → AreHeld (record { stack = stack; brackets = brackets; sort = sort }) (before_of (Some spelt.kind)) list after)
          → AreHeld (if is_comment spelt.kind then told else next) (before_of (Some spelt.kind)) list after
      go true c empty e f =
          subst (λ (x : Told). AreHeld x (before_of (Some spelt.kind)) list after) (sym (if_true (is_comment spelt.kind) told next c))
          (f [] brackets sort (ap (λ (x : Told). are_held x (before_of (Some spelt.kind)) list) (sym (if_true (is_comment spelt.kind) told next c)) ∙ e)
          (subst (λ (x : Change). StandBefore (opened [] x) (before_of (Some spelt.kind)) list [] after)
          (kept spelt.change (and_right (bytes_eq spelt.bytes (codes "/**/")) _ (empty c))) others))
      go false c empty e f =
          subst (λ (x : Told). AreHeld x (before_of (Some spelt.kind)) list after) (sym (if_false (is_comment spelt.kind) told next c))
          (f (opened [] spelt.change) (bracketed brackets (Some spelt.kind)) (sorted sort spelt.kind (is_spaced (behind_gap before spelt.gap)))
          (ap (λ (x : Told). are_held x (before_of (Some spelt.kind)) list) (sym (if_false (is_comment spelt.kind) told next c)) ∙ e) others)
  all_held (spelt ∷ list) (inside ∷ outer) brackets sort before e (gap, some, token, others) =
      (gap, some, token, λ g. absurd (let wrong : false ≡ true = g in cc), all_held list (opened (inside ∷ outer) spelt.change) brackets sort (before_of (Some spelt.kind)) e others)

pub line_held : (row : Row) (rest : List ℕ) → AreLine row rest
line_held row rest is plain no_call stands =
    record {
      begins = first row.list is;
      held = all_held (codes "\n" ++ rest) row.list [] [] sorts.Fresh befores.White (whole row.list is)
          (before_line_feed row.list rest befores.White plain no_call stands);
    }
  where
    first : (list : List Spelt) → is_line list ≡ true → Begins list
    first [] e = absurd (cc)
    first (spelt ∷ list) e = (
      none_is spelt.gap (and_left (has_none spelt.gap) _ e),
      not_true (is_comment spelt.kind) (and_left (not (is_comment spelt.kind)) _ (and_right (has_none spelt.gap) _ e)),
    )

    whole : (list : List Spelt) → is_line list ≡ true → are_held untold befores.White list ≡ true
    whole [] e = absurd (cc)
    whole (spelt ∷ list) e = and_right (not (is_comment spelt.kind)) _ (and_right (has_none spelt.gap) _ e)
