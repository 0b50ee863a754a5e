use Rattle.sw_convert_alike.proofs.AsTheyStand.{raw_as_it_stands, comment_as_it_stands}
use Rattle.sw_convert_alike.proofs.laws.texts_are_alike_as_they_stand.Goals as goal

pub returns : goal.returns
returns c =
    record { raw = λ text other l. raw_as_it_stands l; comment = λ text other l. comment_as_it_stands l }
