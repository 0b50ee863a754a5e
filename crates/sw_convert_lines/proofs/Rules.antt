-- The text before the block of a rule, by whether it begins as a mixin or an include.
use Rattle.std.proofs.Common.{◌≡◌, Bool, false, not, ◌&&◌, List, Some, sym, ◌∙◌, ap}
use Rattle.sw_text.specs.declared.place.Span.{Span}
use Rattle.sw_tree.specs.declared.text.Text.{Text}
use Rattle.sw_convert_lines.specs.declared.fault.ConvertFault.{ConvertFault}
use Rattle.sw_convert_lines.specs.declared.fault.ConvertFault.TheVariants as faults
use Rattle.sw_convert_lines.specs.RawTexts.{selector_line}
use Rattle.sw_convert_lines.specs.Held.{is_held, begins_member}
use Rattle.sw_convert_lines.specs.Layout.{Shown, has_none, first_refused, refused_unless, blocked}
use Rattle.sw_convert_lines.specs.Lines.{IsFault, IsMember, head_of, selector_head}

pub rule_held : (span : Span) (selector : Text) (inner : List Shown) → begins_member (selector_line selector) ≡ false
    → (blocked span (record { head = selector_head selector; inner = inner })).refused
    ≡ (blocked span (record { head = head_of (selector_line selector); inner = inner })).refused
rule_held span selector inner e =
    ap (λ (b : Bool). refused_unless ((not b && is_held false (selector_line selector)) && not (has_none inner)) span (first_refused inner)) e

pub rule_refused : (span : Span) (selector : Text) (inner : List Shown) (fault : ConvertFault)
    → IsMember (begins_member (selector_line selector)) span fault
    → IsFault (blocked span (record { head = selector_head selector; inner = inner })).refused fault
rule_refused span selector inner (faults.NotIndentable found) (e, is) =
    ap (λ (b : Bool). refused_unless ((not b && is_held false (selector_line selector)) && not (has_none inner)) span (first_refused inner)) e
    ∙ ap (λ (s : Span). Some s) (sym is)
rule_refused span selector inner faults.Memory is = tt
