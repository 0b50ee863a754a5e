-- What a word or a name goes on with stands directly behind it.
use Rattle.sw_convert_texts.specs.Adjoining.{part, insert, minus, PartsAdjoin}
use Rattle.sw_convert_texts.proofs.OldRows.{part_there, insert_sticks}
use Rattle.sw_convert_texts.proofs.MinusBefore.{minus_there}

pub parts_stick : PartsAdjoin
parts_stick source k lexeme was there (part old) = let it = part_there source was k lexeme there old in it.sticks
parts_stick source k lexeme was there (insert old) = insert_sticks source was k lexeme there old
parts_stick source k lexeme was there (minus sign_old old) = let it = minus_there source was k sign_old old in it.sticks
