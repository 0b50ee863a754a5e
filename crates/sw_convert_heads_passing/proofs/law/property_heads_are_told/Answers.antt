use Rattle.sw_convert_heads_passing.proofs.Customs.{custom_heads_are_told}
use Rattle.sw_convert_heads_passing.proofs.Properties.{property_heads_are_told}
use Rattle.sw_convert_heads_passing.proofs.law.property_heads_are_told.Goals as goal

pub returns : goal.returns
returns c = record { properties = property_heads_are_told; customs = custom_heads_are_told }
