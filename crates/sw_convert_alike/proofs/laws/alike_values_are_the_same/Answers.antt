use Rattle.sw_convert_alike.proofs.Told.{numbers_same, variables_same, strings_same}
use Rattle.sw_convert_alike.proofs.laws.alike_values_are_the_same.Goals as goal

pub returns : goal.returns
returns c =
    record {
      numbers = λ value other l. numbers_same l;
      variables = λ value other l. variables_same l;
      strings = λ value other l. strings_same l;
    }
