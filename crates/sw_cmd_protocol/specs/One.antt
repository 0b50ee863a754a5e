-- When a transcript is one. This project's own rule.
use Rattle.std.specs.Prelude.{◌≡◌, List, map}
use Rattle.sw_cmd_protocol.specs.Protocol.{Protocol}
use Rattle.sw_cmd_protocol.specs.Transcript.{AreMarks}

-- what is free in a mark is all in which two marks of one request can differ
abbrev pub OneMark : {Event Mark Held Reply Free : Type 0} → Protocol Event Mark Held Reply → (Mark → Free) → Type 0
OneMark {Event} {Mark} {Held} p free =
    (held : Held) (event : Event) (mark other : Mark) → p.IsMark held event mark → p.IsMark held event other
    → free mark ≡ free other → mark ≡ other

-- then the requests, what is held and what is free in the marks give the marks, and so all turns
abbrev pub OneTranscript : {Event Mark Held Reply Free : Type 0} → Protocol Event Mark Held Reply → (Mark → Free)
    → Type 0
OneTranscript {Event} {Mark} {Held} p free =
    (held : Held) (events : List Event) (marks others : List Mark) → AreMarks p held events marks
    → AreMarks p held events others → map free marks ≡ map free others → marks ≡ others
