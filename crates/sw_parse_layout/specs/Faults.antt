-- The fault of an indented sheet that has no tokens.
use Rattle.std.specs.Prelude.{◌≡◌, List, Result, Ok, Err}
use Rattle.sw_text.specs.Places.{Text, pos_at}
use Rattle.sw_text.specs.declared.fault.Fault.{Fault}
use Rattle.sw_text.specs.declared.fault.FaultCode.TheVariants as codes
use Rattle.sw_tokens.specs.declared.token.Token.{Token}
use Rattle.sw_tokens.specs.declared.token.Fault10.{Fault10}
use Rattle.sw_tokens.specs.declared.token.Fault10.TheVariants as faults
use Rattle.sw_parse_layout.specs.declared.walk.Place.{Place}

abbrev pub fault_at : Text → Place → Fault
fault_at sheet place =
    record {
      code = codes.Syntax;
      span =
          record { file = sheet.path; from = pos_at sheet.bytes place.from; to = pos_at sheet.bytes place.to };
    }

-- the fault of a sheet, of whose text this is told
abbrev pub IsFaultBy : Text → Result (List Token) Place → Fault → Type 0
IsFaultBy sheet (Ok ts) fault = ⊥
IsFaultBy sheet (Err place) fault = fault ≡ fault_at sheet place

-- an answer tells the fault of a sheet, or want of memory
abbrev pub TellsFault : Text → Result (List Token) Place → Fault10 → Type 0
TellsFault sheet tokens faults.Memory = Unit {0}
TellsFault sheet tokens (faults.Fault fault) = IsFaultBy sheet tokens fault
