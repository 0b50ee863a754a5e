-- A text that is a name is its token.
use Rattle.std.proofs.Common.{◌≡◌, ℕ, Bool, true, false, ◌&&◌, if◌then◌else◌, List, [], ◌∷◌, ◌++◌, refl, sym, ◌∙◌, ap, subst, arith}
use Rattle.std.specs.Prelude.{◌==◌}
use Rattle.std.proofs.lemmas.Bool.Decides.{nat_tests}
use Rattle.sw_text.specs.Names.{hyphen, underscore, dash, dashed}
use Rattle.sw_text_scan.specs.Bytes.{is_digit}
use Rattle.sw_text_scan.specs.Words.{is_u, is_r, is_l}
use Rattle.sw_text_scan.proofs.Bounds.{and_left}
use Rattle.sw_tokens.specs.declared.pieces.Before.{Before}
use Rattle.sw_tokens.specs.declared.pieces.Before.TheVariants as befores
use Rattle.sw_tokens.specs.declared.pieces.Change.TheVariants as changes
use Rattle.sw_tokens.specs.Tokens.{is_spaced}
use Rattle.sw_parse_terminals.specs.declared.terminal.Terminal.{Terminal}
use Rattle.sw_parse_lexemes.specs.Classes.{is_name}
use Rattle.sw_parse_lexemes.specs.Sorts.{sort_of}
use Rattle.sw_parse_table.specs.declared.source.Source.{Source}
use Rattle.sw_parse_table.specs.Sources.{bytes_at}
use Rattle.sw_convert_spelling.specs.Spelt.{behind_gap}
use Rattle.sw_convert_written.specs.Expressions.{is_url}
use Rattle.sw_convert_written.specs.Names.{begins_no_name, name_text}
use Rattle.sw_convert_passing.specs.Written.{written}
use Rattle.sw_convert_again.specs.Tokens.{Said, Says, tok}
use Rattle.sw_convert_tokens.specs.Joints.{Segment}
use Rattle.sw_convert_tokens.specs.Written.{is_calm, gap_of}
use Rattle.sw_convert_tokens.proofs.Signs.{token_segment}
use Rattle.sw_convert_tokens.proofs.Stops.{Behind, nothing_parts}
use Rattle.sw_convert_tokens.proofs.Names.{token_at, name_black}
use Rattle.sw_convert_tokens.proofs.Words.{name_yes, name_opens, name_behind, name_comment, bytes_sit}
use Rattle.sw_convert_texts.proofs.OldNames.{NamedSo}

-- a stored name is `url` where what is written of it is
pub url_named : (name : List ℕ) → is_url (name_text name) ≡ false → is_url name ≡ false
url_named [] e = refl
url_named (a ∷ []) e = refl
url_named (a ∷ b ∷ []) e = refl
url_named (a ∷ b ∷ c ∷ []) e = go ((a == hyphen) && is_digit b) refl
  where
    no_u : (n : ℕ) → (n == hyphen) ≡ true → is_u n ≡ false
    no_u n h = grind (arith, nat_tests)

    go : (t : Bool) → ((a == hyphen) && is_digit b) ≡ t → is_url (a ∷ b ∷ c ∷ []) ≡ false
    go true p = ap (λ (u : Bool). u && (is_r b && is_l c)) (no_u a (and_left (a == hyphen) _ p))
    go false p = ap (λ (t : Bool). is_url ((if t then underscore else a) ∷ b ∷ c ∷ [])) (sym p) ∙ e
url_named (a ∷ b ∷ c ∷ d ∷ rest) e = refl

-- ---- its token

-- behind a space or directly behind what stands before it, before what goes on with no name
pub name_segment : (text : List ℕ) (it : NamedSo text) (terminal : Terminal) (said : Said) (before : Before)
    (spaced : Bool) → is_calm (behind_gap before (gap_of spaced)) ≡ true
    → ((new : Source) (at : ℕ) → bytes_at new at ≡ text → Says new at said)
    → Segment before (gap_of spaced ++ text) (tok terminal said ∷ [])
    (written (sort_of it.kind text) (is_spaced (behind_gap before (gap_of spaced))) terminal ∷ []) befores.Other
    (Behind text)
name_segment text it terminal said before spaced calm says =
    let n = name_yes it.kind text it.named in
    subst
    (λ (end : Before). Segment before (gap_of spaced ++ text) (tok terminal said ∷ []) (written (sort_of it.kind text) (is_spaced (behind_gap before (gap_of spaced))) terminal ∷ []) end (Behind text))
    (name_behind it.kind it.named)
    (token_segment it.kind text (terminal ∷ []) said before spaced (Behind text) (name_opens it.kind it.named)
    (name_comment (sort_of it.kind text) n)
    (name_black text it.rest [] it.kind changes.Keep it.named it.some it.piece_is (nothing_parts text)) it.some
    (λ new commented at front after sits. says new at (bytes_sit new commented at front _ after sits))
    (λ inside after code parted.
    token_at text it.rest after it.kind changes.Keep it.named it.some it.piece_is parted inside (behind_gap before (gap_of spaced)) code calm))

pub name_sort : (text : List ℕ) (it : NamedSo text) → is_name (sort_of it.kind text) ≡ true
name_sort text it = name_yes it.kind text it.named

-- ---- a name that is kept with `-` for each `_`

same_end : (a b : ℕ) → (a == b) ≡ true → a ≡ b
same_end a b e = grind (arith, nat_tests)

dash_by : (b : ℕ) (t : Bool) → (b == underscore) ≡ t → dash (if t then hyphen else b) ≡ (if t then hyphen else b)
dash_by b true e = refl
dash_by b false e = ap (λ (t : Bool). if t then hyphen else b) e

dash_twice : (b : ℕ) → dash (dash b) ≡ dash b
dash_twice b = dash_by b (b == underscore) refl

dashed_twice : (name : List ℕ) → dashed (dashed name) ≡ dashed name
dashed_twice [] = refl
dashed_twice (b ∷ name) =
    ap (λ (c : ℕ). c ∷ dashed (dashed name)) (dash_twice b) ∙ ap (λ (t : List ℕ). dash b ∷ t) (dashed_twice name)

first_dash : (c : ℕ) (u : Bool) (t : Bool) → (c == hyphen) ≡ t → dash c ≡ c
    → dash (if t && u then underscore else c) ≡ c
first_dash c u false e d = d
first_dash c false true e d = d
first_dash c true true e d = sym (same_end c hyphen e)

-- its text says it
pub dashed_text : (name : List ℕ) → dashed (name_text (dashed name)) ≡ dashed name
dashed_text [] = refl
dashed_text (b ∷ name) =
    ap (λ (c : ℕ). c ∷ dashed (dashed name))
    (first_dash (dash b) (begins_no_name (dashed name)) (dash b == hyphen) refl (dash_twice b))
    ∙ ap (λ (t : List ℕ). dash b ∷ t) (dashed_twice name)
