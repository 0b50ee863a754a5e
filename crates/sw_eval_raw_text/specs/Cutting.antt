-- Where the text behind `@import` is cut into parts (the Sass specification on plain CSS imports; where it is cut is this
-- project's own).
use Rattle.std.specs.Prelude.{◌≡◌, ℕ, zero, suc, ◌+◌, ◌-◌, Bool, true, false, not, ◌&&◌, ◌||◌, ◌==◌, nat_le, if◌then◌else◌, List, [], ◌∷◌, ◌++◌, length, map, None, is_none}
use Rattle.std.specs.List.{list_all}
use Rattle.sw_text_scan.specs.Brackets.{over}
use Rattle.sw_text_scan.specs.Bytes.{sign, byte, is_quote, is_white}
use Rattle.sw_text_scan.specs.Pieces.{piece}
use Rattle.sw_text_scan.specs.Runs.{run_end}
use Rattle.sw_text_scan.specs.Words.{begins_url}
use Rattle.sw_text_scan.specs.declared.runs.Class.TheVariants as classes
use Rattle.sw_eval_raw_text.specs.Spacing.{turned}
use Rattle.sw_eval_raw_text.specs.declared.cutting.Open.{Open}

-- ---- what is open at a place

abbrev pub is_opening : ℕ → Bool
is_opening b = (b == sign "(") || ((b == sign "[") || (b == sign "{"))

abbrev pub is_closing : ℕ → Bool
is_closing b = (b == sign ")") || ((b == sign "]") || (b == sign "}"))

abbrev pub nothing : Open
nothing = record { quote = None; escaped = false; depth = 0 }

abbrev pub is_nothing : Open → Bool
is_nothing here = is_none here.quote && (not here.escaped && (here.depth == 0))

-- how many brackets are open behind a byte outside strings
abbrev pub deeper : ℕ → ℕ → ℕ
deeper depth b = if is_opening b then depth + 1 else (if is_closing b then depth - 1 else depth)

-- what is open behind a byte: one behind a `\` opens nothing and closes nothing
abbrev pub stepped : Open → ℕ → Open
stepped here b =
    if here.escaped then record here { escaped = false }
    else record {
      quote = turned here.quote b;
      escaped = b == sign "\\";
      depth = if is_none here.quote then deeper here.depth b else here.depth;
    }

-- ---- cuts

-- white space, and then a string or `url(`
abbrev pub begins_part : List ℕ → Bool
begins_part [] = false
begins_part (b ∷ bs) = if is_white b then begins_part bs else is_quote b || begins_url (b ∷ bs) 0

-- a comma outside strings and brackets, behind which a part begins
abbrev pub is_cut : Open → ℕ → List ℕ → Bool
is_cut here b bs = is_nothing here && ((b == sign ",") && begins_part bs)

-- a byte before the first of some parts
abbrev pub onto : ℕ → List (List ℕ) → List (List ℕ)
onto b [] = (b ∷ []) ∷ []
onto b (part ∷ parts) = (b ∷ part) ∷ parts

-- what stands between such commas
abbrev pub cut_from : Open → List ℕ → List (List ℕ)
cut_from here [] = [] ∷ []
cut_from here (b ∷ bs) =
    if is_cut here b bs then [] ∷ cut_from nothing bs else onto b (cut_from (stepped here b) bs)

-- ---- what cutting is

-- parts with their commas
abbrev pub with_commas : List (List ℕ) → List ℕ
with_commas [] = []
with_commas (part ∷ []) = part
with_commas (part ∷ next ∷ parts) = part ++ sign "," ∷ with_commas (next ∷ parts)

-- no comma in it is such a one
abbrev pub is_whole : Open → List ℕ → Bool
is_whole here [] = true
is_whole here (b ∷ bs) = not (is_cut here b bs) && is_whole (stepped here b) bs

-- the parts with their commas are the text, and none can be cut again
pub record IsCut (text : List ℕ) (parts : List (List ℕ)) : Type 0 where
  pub text_again : with_commas parts ≡ text
  pub whole : list_all (is_whole nothing) parts ≡ true

-- ---- parts

-- behind the last character that is no white space, or is an escape, to which one white space belongs; in so many steps
abbrev pub kept_in : ℕ → List ℕ → ℕ → ℕ → ℕ
kept_in zero bs at end = end
kept_in (suc steps) bs at end =
    if nat_le (length bs) at then end
    else kept_in steps bs (over bs at) (if is_white (byte bs at) then end else over bs at)

abbrev pub kept_end : List ℕ → ℕ → ℕ
kept_end bs from = kept_in (length bs) bs from from

abbrev pub white_before : List ℕ → ℕ
white_before bs = run_end classes.White bs 0

-- a part without the white space around it
unfoldable pub bare_part : List ℕ → List ℕ
bare_part bs = piece bs (white_before bs) (kept_end bs (white_before bs))

abbrev pub parts_of : List ℕ → List (List ℕ)
parts_of bs = map bare_part (cut_from nothing bs)
