-- The tokens of statements pass the test of lines.
use Rattle.std.proofs.Common.{◌≡◌, ℕ, Bool, true, false, not, List, [], ◌∷◌, ◌++◌, Some, refl, sym, ◌∙◌, ap, append-nil}
use Rattle.std.specs.List.{list_all}
use Rattle.sw_text_scan.proofs.Bounds.{and_left, and_right, not_true}
use Rattle.sw_tokens.specs.declared.pieces.Before.TheVariants as befores
use Rattle.sw_tokens.specs.declared.token.TokenKind.{TokenKind}
use Rattle.sw_tokens.specs.declared.token.TokenKind.TheVariants as kinds
use Rattle.sw_parse_lexemes.specs.declared.sort.Sort.{Sort}
use Rattle.sw_parse_lexemes.specs.declared.sort.Sort.TheVariants as sorts
use Rattle.sw_parse_lexemes.specs.declared.state.Mode.{Mode}
use Rattle.sw_parse_lexemes.specs.Brackets.{is_custom}
use Rattle.sw_parse_layout.specs.declared.sorts.Sort.TheVariants as forms
use Rattle.sw_convert_spelling.specs.Spelt.{Spelt}
use Rattle.sw_convert_spelling.proofs.Choices.{both}
use Rattle.sw_convert_passing.specs.Written.{Written}
use Rattle.sw_convert_heads_passing.specs.Blocks.{open_sign}
use Rattle.sw_convert_heads_passing.specs.Rules.{is_rule, is_rule_by}
use Rattle.sw_convert_laid.specs.Heads.{is_comment}
use Rattle.sw_convert_laid.specs.Held.{names_member, has_none, is_line}
use Rattle.sw_convert_laid.specs.LineFeeds.{StandBefore}
use Rattle.sw_convert_heads_laid.specs.Marks.{kind_mark, sort_mark, is_noted, is_member, is_member_sort, IsSame, AreSame}
use Rattle.sw_convert_heads_laid.specs.Holds.{are_kept, holds_line}
use Rattle.sw_convert_heads_laid.specs.Lines.{FrontsPass, RulesPass, begins_member}
use Rattle.sw_convert_heads_laid.proofs.Walk.{at, walk, is_quiet}
use Rattle.sw_convert_heads_laid.proofs.Fronts.{Outer, begins_well, front_goes, front_begins}
use Rattle.sw_convert_heads_laid.proofs.Texts.{raw_text}
use Rattle.sw_convert_heads_laid.proofs.Passing.{all_pass}

member_no : (kind : TokenKind) → is_member kind ≡ false → names_member forms.Fresh kind ≡ false
member_no kinds.Equals e = absurd (cc)
member_no kinds.Plus e = absurd (cc)
member_no _ e = refl

noted_no : (kind : TokenKind) → is_noted (kind_mark kind) ≡ false → is_comment kind ≡ false
noted_no kinds.Comment e = absurd (cc)
noted_no _ e = refl

-- tokens from which the walk comes back, and of which the first names no member and is no comment
module _ (custom : Bool) (tokens : List Written) (outer : Outer custom tokens) (after : List ℕ) where
  walked : walk custom 0 [] tokens ≡ Some (at 0 [])
  walked = ap (walk custom 0 []) (sym (append-nil tokens)) ∙ outer.goes 0 [] refl []

  quiet : list_all is_quiet tokens ≡ true
  quiet = ap (list_all is_quiet) (sym (append-nil tokens)) ∙ outer.quiet [] refl

  pub passes : (spelt : Spelt) (list : List Spelt) → is_member spelt.kind ≡ false → is_comment spelt.kind ≡ false
      → AreSame (spelt ∷ list) tokens → StandBefore [] befores.White (spelt ∷ list) [] after
      → holds_line custom (spelt ∷ list) ≡ true → is_line (spelt ∷ list) ≡ true
  passes spelt list member noted same stand holds =
      let kept = and_right (has_none spelt.gap) _ holds in
      both (has_none spelt.gap) _ (and_left (has_none spelt.gap) _ holds)
      (both (not (is_comment spelt.kind)) _ (ap not noted)
      (all_pass custom after (spelt ∷ list) tokens same [] [] forms.Fresh befores.White false stand refl walked quiet
      (and_left (are_kept custom [] (spelt ∷ list)) _ kept) (and_right (are_kept custom [] (spelt ∷ list)) _ kept)
      (record {
        begun = λ g. absurd (let wrong : true ≡ false = g in cc);
        inner = λ g. absurd (let wrong : true ≡ false = g in cc);
        ended = λ e. absurd (let wrong : false ≡ true = e in cc);
      })
      (member_no spelt.kind member, λ f. noted)))

-- what is told of the first by its sort
unmember : (spelt : Spelt) (one : Written) → IsSame spelt one → is_member_sort one.sort ≡ false → is_member spelt.kind ≡ false
unmember spelt one same e = go (is_member spelt.kind) refl
  where
    go : (t : Bool) → is_member spelt.kind ≡ t → t ≡ false
    go true m = absurd (let wrong : true ≡ false = sym (same.member m) ∙ e in cc)
    go false m = refl

unnoted : (spelt : Spelt) (one : Written) → IsSame spelt one → is_noted (sort_mark one.sort) ≡ false → is_comment spelt.kind ≡ false
unnoted spelt one same e = noted_no spelt.kind (ap is_noted same.mark ∙ e)

pub fronts_pass : (mode : Mode) (tokens : List Written) → FrontsPass mode tokens
fronts_pass mode tokens front list after same stand holds =
    go tokens list (front_goes front) (front_begins front) same stand holds
  where
    go : (tokens : List Written) (list : List Spelt) → Outer (is_custom mode) tokens → begins_well tokens ≡ true
        → AreSame list tokens → StandBefore [] befores.White list [] after → holds_line (is_custom mode) list ≡ true
        → is_line list ≡ true
    go [] list outer b same stand holds = absurd (cc)
    go (one ∷ tokens) [] outer b same stand holds = absurd (same)
    go (one ∷ tokens) (spelt ∷ list) outer b same stand holds =
        passes (is_custom mode) (one ∷ tokens) outer after spelt list
        (unmember spelt one same.0 (not_true (is_member_sort one.sort) (and_right (not (is_noted (sort_mark one.sort))) _ b)))
        (unnoted spelt one same.0 (not_true (is_noted (sort_mark one.sort)) (and_left (not (is_noted (sort_mark one.sort))) _ b)))
        same stand holds

pub rules_pass : (tokens : List Written) → RulesPass tokens
rules_pass tokens text rule list after same member stand holds =
    go tokens list (raw_text text) rule same member stand holds
  where
    -- no rule begins with a comment
    first_sort : (sort : Sort) (first next : Written) (rest : List Written) → is_rule_by sort first next rest ≡ true
        → is_noted (sort_mark sort) ≡ false
    first_sort sorts.Comment first next rest e = absurd (cc)
    first_sort sorts.CommentTemplate first next rest e = absurd (cc)
    first_sort _ first next rest e = refl

    first_token : (one : Written) (tokens : List Written) → is_rule (one ∷ (tokens ++ open_sign true ∷ [])) ≡ true
        → is_noted (sort_mark one.sort) ≡ false
    first_token one [] e = first_sort one.sort one (open_sign true) [] e
    first_token one (next ∷ tokens) e = first_sort one.sort one next (tokens ++ open_sign true ∷ []) e

    go : (tokens : List Written) (list : List Spelt) → Outer false tokens → is_rule (tokens ++ open_sign true ∷ []) ≡ true
        → AreSame list tokens → begins_member list ≡ false → StandBefore [] befores.White list [] after
        → holds_line false list ≡ true → is_line list ≡ true
    go [] list outer r same m stand holds = absurd (cc)
    go (one ∷ tokens) [] outer r same m stand holds = absurd (same)
    go (one ∷ tokens) (spelt ∷ list) outer r same m stand holds =
        passes false (one ∷ tokens) outer after spelt list m (unnoted spelt one same.0 (first_token one tokens r)) same stand holds
