-- What comes of a poll's line.
use Rattle.std.proofs.Common.{◌≡◌, ◌≤◌, ℕ, List, None, length, refl, ap}
use Rattle.std.specs.declared.option.Option.{Option}
use Rattle.sw_modules.specs.Fresh.{Setting}
use Rattle.sw_record.specs.declared.reply.Reply.{Reply}
use Rattle.sw_cmd_protocol.specs.declared.stop.Stop.{Stop}
use Rattle.sw_cmd_protocol.specs.declared.stop.Stop.TheVariants.{Ended, Wrong}
use Rattle.sw_cmd_protocol.specs.Turns.{place, Standing, Says, SayStops, Answers, TurnEnds}
use Rattle.sw_cmd_protocol.proofs.LineTurns as lines
use Rattle.sw_cmd_run.specs.declared.word.Word.{Word}
use Rattle.sw_cmd_run.specs.declared.word.Word.TheVariants as word
use Rattle.sw_cmd_run.specs.Poll.{Scan, Held, word_of, front_by, grammar, poll}

module _ (setting : Setting) (line ahead : List ℕ) (left written now : Option (List ℕ)) (s t : Standing Held) where
  front_is : (is : Word) → word_of line ≡ is → (rest : List ℕ) → grammar.front line rest ≡ front_by is rest
  front_is is e rest = ap (λ x. front_by x rest) e

  pub line_closes : word_of line ≡ word.End → TurnEnds (grammar.front line) (poll setting) Ended (place ahead left written) s (place ahead left written) s
  line_closes e = lines.line_closes (poll setting) (grammar.front line) ahead left written s (front_is word.End e)

  pub line_is_wrong : word_of line ≡ word.Other → TurnEnds (grammar.front line) (poll setting) Wrong (place ahead left written) s (place ahead left written) s
  line_is_wrong e = lines.line_stops (poll setting) (grammar.front line) ahead left written s {Request = Word} None (λ n. front_is word.Other e) Wrong refl

  module _ (e : word_of line ≡ word.Scan) where
    pub scan_answers : (told : List Reply) → Says (poll setting) Scan told s t written now → Answers (grammar.front line) (poll setting) told (place ahead left written) s (place ahead left now) t
    scan_answers = lines.line_answers (poll setting) (grammar.front line) ahead left written s now t Scan (front_is word.Scan e)

    pub scan_stops : (stop : Stop) → length ahead ≤ 4096 → SayStops (poll setting) stop Scan s t written now
        → TurnEnds (grammar.front line) (poll setting) stop (place ahead left written) s (place ahead left now) t
    scan_stops stop near = lines.line_breaks (poll setting) (grammar.front line) ahead left written s now t Scan (front_is word.Scan e) near stop
