-- The forms of the command line. This project's own rule.
use Rattle.std.specs.Prelude.{ℕ, ◌+◌, ◌-◌, ◌*◌, Bool, false, not, ◌&&◌, ◌||◌, ◌==◌, nat_le, if◌then◌else◌, List, [], ◌∷◌, length, codes, bytes_eq, Option, None, Some, option_map}
use Rattle.std.specs.List.{list_all}
use Rattle.sw_folder.specs.Paths.{is_path}
use Rattle.sw_cmd_line.specs.declared.command.Command.{Command}
use Rattle.sw_cmd_line.specs.declared.command.Command.TheVariants as code
use Rattle.sw_cmd_line.specs.declared.command.Target.{Target as Seen}
use Rattle.sw_cmd_line.specs.declared.syntax.Syntax.{Syntax}
use Rattle.sw_cmd_line.specs.declared.syntax.Syntax.TheVariants as syntaxes

-- what is compiled: the disk's folder, the entry in it, and the load paths
pub record Target : Type 0 where
  pub dir : List ℕ
  pub entry : List ℕ
  pub paths : List (List ℕ)

pub data Form : Type 0 where
  Session : Form
  Hosted : Form
  Steps : Form
  Once : Target → Form
  Poll : Target → Form
  Make : ℕ → Form
  Convert : Syntax → Syntax → Form

-- no word begins like an option
abbrev pub is_plain : List ℕ → Bool
is_plain [] = not false
is_plain (byte ∷ bytes) = not (byte == 45)

-- a path of the folder, or the folder itself
abbrev pub is_load_path : List ℕ → Bool
is_load_path text = bytes_eq text (codes ".") || is_path text

-- a folder is named by any text but the empty one; there are at most eight load paths
abbrev pub is_target : List ℕ → List ℕ → List (List ℕ) → Bool
is_target dir entry paths =
    not (length dir == 0) && is_path entry && nat_le (length paths) 8 && list_all is_load_path paths

abbrev pub target_of : List (List ℕ) → Option Target
target_of [] = None
target_of (dir ∷ []) = None
target_of (dir ∷ entry ∷ paths) =
    if is_target dir entry paths then Some (record { dir = dir; entry = entry; paths = paths }) else None

-- the command's name alone
abbrev pub alone : Form → List (List ℕ) → Option Form
alone form [] = Some form
alone form (word ∷ words) = None

-- a digit may stand behind the digits of n, at most six in all
abbrev pub can_follow : ℕ → ℕ → Bool
can_follow n digit = nat_le 48 digit && (nat_le digit 57 && nat_le n 99999)

-- with n for the digits so far
unfoldable pub number_from : ℕ → List ℕ → Option ℕ
number_from n [] = Some n
number_from n (digit ∷ digits) = if can_follow n digit then number_from (10 * n + (digit - 48)) digits else None

-- one to six digits, with no 0 before others
abbrev pub number_of : List ℕ → Option ℕ
number_of [] = None
number_of (digit ∷ []) = number_from 0 (digit ∷ [])
number_of (digit ∷ more ∷ digits) = if digit == 48 then None else number_from 0 (digit ∷ more ∷ digits)

-- a number alone
abbrev pub make_by : List (List ℕ) → Option Form
make_by [] = None
make_by (word ∷ []) = option_map Make (number_of word)
make_by (word ∷ more ∷ words) = None

abbrev pub syntax_of : List ℕ → Option Syntax
syntax_of word =
    if bytes_eq word (codes "scss") then Some syntaxes.Scss
    else if bytes_eq word (codes "sass") then Some syntaxes.Indented
    else None

abbrev pub convert_between : Option Syntax → Option Syntax → Option Form
convert_between (Some from) (Some to) = Some (Convert from to)
convert_between (Some from) None = None
convert_between None to = None

-- two syntaxes alone
abbrev pub convert_by : List (List ℕ) → Option Form
convert_by [] = None
convert_by (from ∷ []) = None
convert_by (from ∷ to ∷ []) = convert_between (syntax_of from) (syntax_of to)
convert_by (from ∷ to ∷ more ∷ words) = None

-- what a command's name asks for with these words behind it
abbrev pub named : List ℕ → List (List ℕ) → Option Form
named name words =
    if bytes_eq name (codes "session") then alone Session words
    else if bytes_eq name (codes "hosted") then alone Hosted words
    else if bytes_eq name (codes "steps") then alone Steps words
    else if bytes_eq name (codes "once") then option_map Once (target_of words)
    else if bytes_eq name (codes "poll") then option_map Poll (target_of words)
    else if bytes_eq name (codes "make") then make_by words
    else if bytes_eq name (codes "convert") then convert_by words
    else None

abbrev pub form_by : List (List ℕ) → Option Form
form_by [] = None
form_by (name ∷ words) = named name words

-- the form in which the words of a command line are, and None where they are in none
unfoldable pub form_of : List (List ℕ) → Option Form
form_of words = if list_all is_plain words then form_by words else None

abbrev pub target_seen : Seen → Target
target_seen t = record { dir = t.dir.now; entry = t.entry.now; paths = t.paths.now }

abbrev pub form_seen : Command → Form
form_seen code.Session = Session
form_seen code.Hosted = Hosted
form_seen code.Steps = Steps
form_seen (code.Once target) = Once (target_seen target)
form_seen (code.Poll target) = Poll (target_seen target)
form_seen (code.Make number) = Make number
form_seen (code.Convert conversion) = Convert conversion.from conversion.to
