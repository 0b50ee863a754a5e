-- Only the end of the text has the number 0.
use Rattle.std.proofs.Common.{◌≤◌, arith}
use Rattle.sw_parse_terminals.specs.Numbers.{number_of}
use Rattle.sw_parse_terminals.specs.declared.terminal.Terminal.{Terminal}
use Rattle.sw_parse_terminals.specs.declared.terminal.Terminal.TheVariants as terminals

pub positive : (terminal : Terminal) → 1 ≤ number_of terminal
positive terminals.Semicolon = omega arith
positive _ = omega arith
