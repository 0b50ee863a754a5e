-- How selectors are written: `, ` between complex selectors, combinators with spaces. One with a placeholder, also in a
-- pseudo, isn't written.
use Rattle.std.specs.Prelude.{ℕ, List, [], ◌∷◌, ◌++◌, length, Bool, true, false, ◌==◌, codes, if◌then◌else◌}
use Rattle.sw_selector.specs.declared.holds.Sought.TheVariants as soughts
use Rattle.sw_selector.specs.declared.selector.Combinator.{Combinator}
use Rattle.sw_selector.specs.declared.selector.Combinator.TheVariants as combinators
use Rattle.sw_selector.specs.declared.selector.Part.{Part, out-Part, fold-Part}
use Rattle.sw_selector.specs.declared.selector.Part.TheOpen.{Part-F}
use Rattle.sw_selector.specs.Holds.{complex_holds}

abbrev pub sign_text : Combinator → List ℕ
sign_text combinators.Descendant = []
sign_text combinators.Child = codes ">"
sign_text combinators.Next = codes "+"
sign_text combinators.Subsequent = codes "~"

-- one in front has a space behind it alone
unfoldable pub combinator_text : Bool → Combinator → List ℕ
combinator_text first combinators.Descendant = codes " "
combinator_text first combinator = (if first then [] else codes " ") ++ sign_text combinator ++ codes " "

-- texts that say how they stand in front or behind another, one behind the other
abbrev pub run_text : Bool → List (Bool → List ℕ) → List ℕ
run_text first [] = []
run_text first (text ∷ texts) = text first ++ run_text false texts

abbrev pub separator : Bool → List ℕ
separator first = if first then [] else codes ", "

-- the same for each complex selector, with `, ` between
abbrev pub list_by : Bool → List (List (Bool → List ℕ)) → List ℕ
list_by first [] = []
list_by first (texts ∷ list) = (separator first ++ run_text true texts) ++ list_by false list

abbrev pub text_step : Part-F (Bool → List ℕ) → Bool → List ℕ
text_step (Part-F.Combinator combinator) first = combinator_text first combinator
text_step (Part-F.Parent suffix) first = codes "&" ++ suffix
text_step (Part-F.Named name) first = name
text_step (Part-F.Placeholder name) first = name
text_step (Part-F.Closed text) first = text
text_step (Part-F.Pseudo name selectors) first = name ++ codes "(" ++ list_by true selectors ++ codes ")"

-- a part in front, or behind another
unfoldable pub part_text : Part → Bool → List ℕ
part_text = fold-Part (Bool → List ℕ) text_step

abbrev pub parts_text : Bool → List Part → List ℕ
parts_text first [] = []
parts_text first (part ∷ parts) = part_text part first ++ parts_text false parts

-- complex selectors, behind others or not
abbrev pub list_text : Bool → List (List Part) → List ℕ
list_text first [] = []
list_text first (complex ∷ list) = (separator first ++ parts_text true complex) ++ list_text false list

-- the same without those in which a placeholder stands
abbrev pub written : Bool → List (List Part) → List ℕ
written first [] = []
written first (complex ∷ list) =
    if complex_holds soughts.Placeholder complex then written first list
    else (separator first ++ parts_text true complex) ++ written false list

-- the text of selectors, and the empty text where all have a placeholder
abbrev pub text_of : List (List Part) → List ℕ
text_of list = written true list

-- the texts of a complex selector's compounds and combinators so far, and of the compound at hand
pub record Units : Type 0 where
  pub list : List (List ℕ)
  pub compound : List ℕ

abbrev pub closed : List (List ℕ) → List ℕ → List (List ℕ)
closed list compound = if length compound == 0 then list else list ++ compound ∷ []

-- white space between compounds is no text
abbrev pub signed : List (List ℕ) → Combinator → List (List ℕ)
signed list combinators.Descendant = list
signed list combinator = list ++ sign_text combinator ∷ []

abbrev pub unit_by : List (List ℕ) → List ℕ → List ℕ → Part-F Part → Units
unit_by list compound text (Part-F.Combinator combinator) =
    record { list = signed (closed list compound) combinator; compound = [] }
unit_by list compound text _ = record { list = list; compound = compound ++ text }

unfoldable pub unit_step : List (List ℕ) → List ℕ → Part → Units
unit_step list compound part = unit_by list compound (part_text part false) (out-Part part)

abbrev pub units_from : List (List ℕ) → List ℕ → List Part → List (List ℕ)
units_from list compound [] = closed list compound
units_from list compound (part ∷ parts) =
    units_from (unit_step list compound part).list (unit_step list compound part).compound parts

unfoldable pub units_of : List Part → List (List ℕ)
units_of complex = units_from [] [] complex

-- the texts of the compounds and combinators of each complex selector in order
abbrev pub all_units : List (List (List ℕ)) → List (List Part) → List (List (List ℕ))
all_units out [] = out
all_units out (complex ∷ list) = all_units (out ++ units_of complex ∷ []) list
