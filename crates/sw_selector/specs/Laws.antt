-- What reading, nesting and writing are as a whole.
use Rattle.std.specs.Prelude.{◌≡◌, ◌+◌, ◌*◌, ◌<◌, ◌≤◌, ◌↔◌, ◌++◌, ◌||◌, ◌==◌, ℕ, List, [], ◌∷◌, map, length, Bool, true, not, Ok, Err}
use Rattle.std.specs.List.{flat_map, filter}
use Rattle.std.specs.Str.{IsUtf8}
use Rattle.sw_text_scan.specs.declared.signs.TheConstants.{LINE_FEED}
use Rattle.sw_text_scan.specs.Bytes.{sign, byte, is_name_byte}
use Rattle.sw_text_scan.specs.Runs.{begins_name}
use Rattle.sw_text_scan.specs.Pieces.{is_cut}
use Rattle.sw_selector.specs.declared.fault.SelectorFault.TheVariants.{BadSelector, TooLarge}
use Rattle.sw_selector.specs.declared.holds.Sought.TheVariants as soughts
use Rattle.sw_selector.specs.declared.reader.TheConstants.{LEVELS, MOST_SELECTORS}
use Rattle.sw_selector.specs.declared.selector.Part.{Part}
use Rattle.sw_text_locality.specs.Names.{name_end, name_text}
use Rattle.sw_selector.specs.Grammar.{IsSelectorList}
use Rattle.sw_selector.specs.Reading.{selectors_of}
use Rattle.sw_selector.specs.Holds.{complex_holds}
use Rattle.sw_selector.specs.Nesting.{prepared, nested, all_nested}
use Rattle.sw_selector.specs.Writing.{list_text, text_of}

-- a text is one list of selectors at most
abbrev pub IsOneList : List ℕ → Type 0
IsOneList text =
    (first second : List (List Part)) → IsSelectorList LEVELS text first → IsSelectorList LEVELS text second
    → first ≡ second

-- what is read is the list that the text is; there is none, or it is too long, exactly where this is answered
pub record ReadsLists (text : List ℕ) : Type 0 where
  pub list : (list : List (List Part))
      → (selectors_of text ≡ Ok list) ↔ (IsSelectorList LEVELS text list × (length list ≤ MOST_SELECTORS))
  pub bad : (selectors_of text ≡ Err BadSelector) ↔ ((list : List (List Part)) → ¬ IsSelectorList LEVELS text list)
  pub large : (selectors_of text ≡ Err TooLarge)
      ↔ ((list : List (List Part)) × IsSelectorList LEVELS text list × (MOST_SELECTORS < length list))

-- for each parent, each child
abbrev pub NestsInOrder : Bool → List (List Part) → List (List Part) → Type 0
NestsInOrder at_root parents child =
    all_nested at_root parents child
    ≡ flat_map (λ (parent : List Part). map (nested at_root parent) (map (prepared parents) child)) parents

-- as many as there are pairs of a parent and a child
abbrev pub NestsEachPair : Bool → List (List Part) → List (List Part) → Type 0
NestsEachPair at_root parents child = length (all_nested at_root parents child) ≡ length parents * length child

-- no placeholder stands in it
abbrev pub is_shown : List Part → Bool
is_shown complex = not (complex_holds soughts.Placeholder complex)

-- what is written is all complex selectors in order but those in which a placeholder stands
abbrev pub WritesOthers : List (List Part) → Type 0
WritesOthers list = text_of list ≡ list_text true (filter is_shown list)

-- a text that is read as these, and the empty text for none
abbrev pub IsReadAs : List ℕ → List (List Part) → Type 0
IsReadAs text [] = text ≡ []
IsReadAs text (complex ∷ list) = selectors_of text ≡ Ok (complex ∷ list)

-- what is written of a list that was read is read as this list without what isn't written
abbrev pub ReadsBack : List ℕ → List (List Part) → Type 0
ReadsBack text list = IsUtf8 text → selectors_of text ≡ Ok list → IsReadAs (text_of list) (filter is_shown list)
