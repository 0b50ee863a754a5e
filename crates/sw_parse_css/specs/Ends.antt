-- The end of reading that a text without tokens gives.
use Rattle.sw_tokens.specs.declared.token.Fault10.{Fault10}
use Rattle.sw_tokens.specs.declared.token.Fault10.TheVariants as tokens
use Rattle.sw_parse_css.specs.declared.end.ReadEnd.{ReadEnd}
use Rattle.sw_parse_css.specs.declared.end.ReadEnd.TheVariants as ends

abbrev pub end_of : Fault10 → ReadEnd
end_of (tokens.Fault fault) = ends.Fault fault
end_of tokens.Memory = ends.Memory
