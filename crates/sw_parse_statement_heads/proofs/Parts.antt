-- What the places of flags are, and the row of `@return`.
use Rattle.std.proofs.Common.{◌≡◌, ℕ, Bool, List, [], ◌∷◌, map, refl, sym, ◌∙◌, ap}
use Rattle.std.specs.List.{list_any}
use Rattle.sw_tree.specs.declared.statement.Flags.{Flags}
use Rattle.sw_parse_terminals.specs.declared.terminal.Terminal.TheVariants as terminals
use Rattle.sw_parse_table.specs.declared.source.Source.{Source}
use Rattle.sw_parse_table.specs.Parts.{Place, places_of}
use Rattle.sw_parse_table.specs.Actions.{stands_at, flags_at}
use Rattle.sw_parse_table.specs.Statements.{return}
use Rattle.sw_parse_table.specs.Reads.{reader, reads}
use Rattle.sw_parse_statement_heads.specs.Rows.{returning, return_row}

pub places_of_places : (xs : List ℕ) → places_of (map Place xs) ≡ xs
places_of_places [] = refl
places_of_places (x ∷ xs) = ap (λ (ys : List ℕ). x ∷ ys) (places_of_places xs)

abbrev pub flags_by : Bool → Bool → Flags
flags_by default global = record { default = default; global = global }

pub flags_are : (source : Source) (places : List ℕ) (default global : Bool)
    → default ≡ list_any (λ at. stands_at source at terminals.Default) places
    → global ≡ list_any (λ at. stands_at source at terminals.Global) places
    → flags_by default global ≡ flags_at source (places_of (map Place places))
flags_are source places default global d g =
    ap (λ (b : Bool). flags_by b global) d
    ∙ ap (λ (b : Bool). flags_by (list_any (λ at. stands_at source at terminals.Default) places) b) g
    ∙ ap (λ (xs : List ℕ). flags_at source xs) (sym (places_of_places places))

pub return_is : (source : Source) (n i : ℕ) → reads source n returning i ≡ reader source n (return_row source) i
unfolding return
return_is source n i = refl
