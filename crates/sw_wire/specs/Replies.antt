-- The text of replies. This project's own rule.
use Rattle.std.specs.Prelude.{ℕ, List, [], ◌∷◌, ◌++◌, length, Option, None, Some, Result, Ok, Err, codes}
use Rattle.std.specs.Fmt.{decimal}
use Rattle.sw_text.specs.declared.place.Pos.{Pos}
use Rattle.sw_text.specs.declared.place.Span.{Span}
use Rattle.sw_text.specs.declared.fault.Fault.{Fault}
use Rattle.sw_text.specs.Faults.{number_of}
use Rattle.sw_folder.specs.declared.edit.EditFault.{EditFault}
use Rattle.sw_folder.specs.declared.edit.EditFault.TheVariants.{BadPath, TooLong, TooManyFiles, NotText, NoSuchFile, Memory}
use Rattle.sw_world.specs.declared.question.SayKind.{SayKind}
use Rattle.sw_world.specs.declared.question.SayKind.TheVariants.{Warn, Debug, Fatal}
use Rattle.sw_world.specs.declared.question.Saying.{Saying}
use Rattle.sw_record.specs.declared.reply.Cause.{Cause}
use Rattle.sw_record.specs.declared.reply.Cause.TheVariants.{First, Text, Config, Load, Member, Variable, Call}
use Rattle.sw_record.specs.declared.reply.Outcome.{Outcome}
use Rattle.sw_record.specs.declared.reply.Outcome.TheVariants.{Css, Error}
use Rattle.sw_record.specs.declared.reply.Reply.{Reply}

abbrev pub pos_text : Pos → List ℕ
pos_text pos = decimal pos.line ++ codes ":" ++ decimal pos.column

-- the file, and where the span begins and ends in it
abbrev pub span_text : Span → List ℕ
span_text span = span.file ++ codes " " ++ pos_text span.from ++ codes " " ++ pos_text span.to

abbrev pub kind_word : SayKind → List ℕ
kind_word Warn = codes "warn"
kind_word Debug = codes "debug"
kind_word Fatal = codes "fatal"

-- what the message is, where it was said and how many bytes it has
abbrev pub saying_head : Saying → List ℕ
saying_head saying =
    kind_word saying.kind ++ codes " " ++ span_text saying.span ++ codes " " ++ decimal (length saying.text)
    ++ codes "\n"

abbrev pub saying_text : Saying → List ℕ
saying_text saying = saying_head saying ++ saying.text ++ codes "\n"

abbrev pub says_text : List Saying → List ℕ
says_text [] = []
says_text (saying ∷ says) = saying_text saying ++ says_text says

abbrev pub cause_word : Cause → List ℕ
cause_word First = codes "first"
cause_word Text = codes "text"
cause_word Config = codes "config"
cause_word Load = codes "load"
cause_word Member = codes "member"
cause_word Variable = codes "variable"
cause_word Call = codes "call"

-- the line of a body that ran
abbrev pub ran_line : List ℕ × Cause → List ℕ
ran_line one = codes "ran " ++ one.0 ++ codes " " ++ cause_word one.1 ++ codes "\n"

abbrev pub ran_text : List (List ℕ × Cause) → List ℕ
ran_text [] = []
ran_text (one ∷ ran) = ran_line one ++ ran_text ran

-- the number of bytes, the bytes, and a line feed
abbrev pub css_head : ℕ → List ℕ
css_head count = codes "css " ++ decimal count ++ codes "\n"

abbrev pub css_text : List ℕ → List ℕ
css_text bytes = css_head (length bytes) ++ bytes ++ codes "\n"

-- the bytes of a CSS that are sent from where they stand, if some are, and a line feed
abbrev pub css_behind : Option (List ℕ) → List ℕ
css_behind None = []
css_behind (Some bytes) = bytes ++ codes "\n"

-- the number, and the place of a fault
abbrev pub error_text : ℕ → Span → List ℕ
error_text number span = codes "error " ++ decimal number ++ codes " " ++ span_text span ++ codes "\n"

abbrev pub fault_text : Fault → List ℕ
fault_text fault = error_text (number_of fault.code) fault.span

-- lines can't hold the statement that stands there
abbrev pub not_indentable_text : Span → List ℕ
not_indentable_text span = error_text 42 span

abbrev pub outcome_text : Outcome → List ℕ
outcome_text (Css bytes) = css_text bytes
outcome_text (Error fault) = fault_text fault

-- the reply to a compile: its messages, the bodies that ran, and its outcome
abbrev pub reply_text : Reply → List ℕ
reply_text reply = says_text reply.says ++ ran_text reply.ran ++ outcome_text reply.outcome

-- the reply to a compile that found no memory
abbrev pub memory_text : List ℕ
memory_text = codes "memory\n"

-- the reply to an edit; one that found no memory ends the session instead
abbrev pub edit_text : {T : Type 0} → Result T EditFault → List ℕ
edit_text (Ok done) = codes "ok\n"
edit_text (Err BadPath) = codes "refused 201\n"
edit_text (Err TooLong) = codes "refused 202\n"
edit_text (Err TooManyFiles) = codes "refused 203\n"
edit_text (Err NotText) = codes "refused 204\n"
edit_text (Err NoSuchFile) = codes "refused 205\n"
edit_text (Err Memory) = memory_text
