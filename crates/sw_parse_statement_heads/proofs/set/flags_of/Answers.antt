use Rattle.std.proofs.Common.{List, ℕ, ◌∙◌, ap}
use Rattle.std.specs.List.{list_any}
use Rattle.sw_parse_terminals.specs.declared.terminal.Terminal.TheVariants as terminals
use Rattle.sw_parse_table.specs.Actions.{stands_at}
use Rattle.sw_parse_statement_heads.proofs.Parts.{flags_are}
use Rattle.sw_parse_statement_heads.proofs.set.flags_of.Goals as goal

pub returns : goal.returns
returns c =
    flags_are c.args.source.now c.args.places.now _ _
    (c.is_flagged.ensures ∙ ap (λ (xs : List ℕ). list_any (λ at. stands_at c.args.source.now at terminals.Default) xs) c.as_slice.ensures)
    (c.is_flagged-2.ensures ∙ ap (λ (xs : List ℕ). list_any (λ at. stands_at c.args.source.now at terminals.Global) xs) c.as_slice-2.ensures)
