use Rattle.sw_values.proofs.Ascii.{number_ascii, written_ascii}
use Rattle.sw_values.proofs.value.plain_texts.write_fixed.Goals as goal

pub push_ascii-requires : goal.push_ascii-requires
push_ascii-requires c = written_ascii _ _ _ _ c.as_slice.ensures.value c.in_ok-write_into.ensures.ok c.new-text.ensures.items (number_ascii _ c.mantissa-mantissa.ensures.within)
