-- The sheet of the tokens that a text stands for.
use Rattle.std.proofs.Common.{◌≡◌, List, sym, ap, subst, ◌∙◌, Result, Ok, Err, refl}
use Rattle.sw_text.specs.Places.{Text}
use Rattle.sw_text.specs.declared.fault.Fault.{Fault}
use Rattle.sw_tokens.specs.Listed.{Listed}
use Rattle.sw_tokens.specs.declared.token.Token.{Token}
use Rattle.sw_tokens.specs.declared.token.Fault10.{Fault10}
use Rattle.sw_tokens.specs.declared.token.Fault10.TheVariants as faults
use Rattle.sw_tree.specs.declared.sheet.Sheet.{Sheet}
use Rattle.sw_expr_parse.specs.declared.end.ReadEnd.{ReadEnd}
use Rattle.sw_scss_parse.specs.Readings.{listed_in, sheet_of_tokens, Returns, end_without_tokens, Saw}
use Rattle.sw_scss_parse.proofs.Sheets.{list_is_read, list_is_deep}
use Rattle.sw_parse_layout.specs.declared.walk.Place.{Place}
use Rattle.sw_parse_layout.specs.Layout.{layout}
use Rattle.sw_parse_layout.specs.Faults.{IsFaultBy, TellsFault}
use Rattle.sw_indent_parse.specs.Sheets.{layout_read, indented_sheet_of, ReadsLayout, IsReading, TellsLayoutDepth, SawLayout}

-- what was returned for the list is what the text gives
pub list_returned : (sheet : Text) (listed : Listed) (r : Result Sheet ReadEnd) → layout sheet.bytes ≡ Ok listed.list
    → listed.sheet ≡ sheet → Returns r (sheet_of_tokens listed) → Returns r (indented_sheet_of sheet)
unfolding indented_sheet_of
list_returned sheet listed r e is x =
    let y : Returns r (sheet_of_tokens (listed_in sheet listed.list)) =
    subst (λ (s : Text). Returns r (sheet_of_tokens (listed_in s listed.list))) is x in
    subst (λ (t : Result (List Token) Place). Returns r (layout_read sheet t)) (sym e) y

pub list_saw : (sheet : Text) (listed : Listed) (r : Result Sheet ReadEnd) → layout sheet.bytes ≡ Ok listed.list
    → listed.sheet ≡ sheet → Saw listed r → SawLayout sheet r
list_saw sheet listed r e is x tokens has =
    let y : Saw (listed_in sheet listed.list) r =
    subst (λ (s : Text). Saw (listed_in s listed.list) r) is x in
    let same : listed.list ≡ tokens = cc in
    subst (λ (t : List Token). Saw (listed_in sheet t) r) same y

refused : (sheet : Text) (t : Result (List Token) Place) (fault : Fault) → IsFaultBy sheet t fault
    → layout_read sheet t ≡ Err fault
refused sheet (Ok tokens) fault x = absurd x
refused sheet (Err place) fault x = ap (λ (f : Fault). let r : Result Sheet Fault = Err f in r) (sym x)

pub refused_returned : (sheet : Text) (fault : Fault10) → TellsFault sheet (layout sheet.bytes) fault
    → Returns (Err (end_without_tokens fault)) (indented_sheet_of sheet)
unfolding indented_sheet_of
refused_returned sheet (faults.Fault fault) x = refused sheet (layout sheet.bytes) fault x
refused_returned sheet faults.Memory x = tt

pub refused_saw : (sheet : Text) (fault : Fault10) → TellsFault sheet (layout sheet.bytes) fault
    → SawLayout sheet (Err (end_without_tokens fault))
refused_saw sheet (faults.Fault fault) x tokens has =
    absurd (subst (λ (t : Result (List Token) Place). IsFaultBy sheet t fault) has x)
refused_saw sheet faults.Memory x tokens has = tt

layout_is_read : (sheet : Text) (t : Result (List Token) Place) → ReadsLayout sheet t (layout_read sheet t)
layout_is_read sheet (Ok tokens) = list_is_read (listed_in sheet tokens)
layout_is_read sheet (Err place) = refl

pub sheet_is_read : (sheet : Text) → IsReading sheet (indented_sheet_of sheet)
unfolding indented_sheet_of
sheet_is_read sheet = layout_is_read sheet (layout sheet.bytes)

pub sheet_is_deep : (sheet : Text) → TellsLayoutDepth sheet (indented_sheet_of sheet)
unfolding indented_sheet_of
sheet_is_deep sheet tokens e at d = ap (layout_read sheet) e ∙ list_is_deep (listed_in sheet tokens) at d
