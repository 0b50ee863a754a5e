-- Each lexeme lies where its token does.
use Rattle.std.proofs.Common.{◌≡◌, ℕ, zero, suc, ◌+◌, Bool, true, false, if◌then◌else◌, List, [], ◌∷◌, drop, All, subst, sym}
use Rattle.std.specs.List.{AllByRecursion}
use Rattle.std.proofs.lemmas.List.Elements.{All-nil, All-cons, All-append, recursion_from_All}
use Rattle.sw_parse_terminals.specs.Lies.{LexemeLies}
use Rattle.sw_parse_terminals.specs.declared.terminal.Terminal.{Terminal}
use Rattle.sw_parse_terminals.specs.declared.lexeme.Lexeme.{Lexeme}
use Rattle.sw_parse_lexemes.specs.declared.plain.Plain.{Plain}
use Rattle.sw_parse_lexemes.specs.declared.state.State.{State}
use Rattle.sw_parse_lexemes.specs.Plains.{PlainLies}
use Rattle.sw_parse_lexemes.specs.Terminals.{terminal_of}
use Rattle.sw_parse_lexemes.specs.Steps.{placed, is_white}
use Rattle.sw_parse_lexemes.specs.Lexemes.{Reading, lexeme_of, skipped, kept, read_placed, read, optional, lexemes_from, lexemes_by}

abbrev Lies : List ℕ → Reading → Type 0
Lies bytes reading = All (LexemeLies bytes) (optional reading.lexeme)

either : (bytes : List ℕ) (b : Bool) (x y : Reading) → Lies bytes x → Lies bytes y → Lies bytes (if b then x else y)
either bytes true x y p q = p
either bytes false x y p q = q

skipped_lies : (bytes : List ℕ) (state : State) (plain : Plain) → Lies bytes (skipped state plain)
skipped_lies bytes state plain = All-nil (LexemeLies bytes)

kept_lies : (bytes : List ℕ) (state : State) (at : ℕ) (plain : Plain) (terminal : Terminal) → PlainLies bytes plain → Lies bytes (kept state at plain terminal)
kept_lies bytes state at plain terminal p =
    All-cons (LexemeLies bytes) (lexeme_of plain at state.commented terminal) [] (record { from = p.from; to = p.to; start = p.start; end = p.end }) (All-nil (LexemeLies bytes))

placed_lies : (bytes : List ℕ) (state : State) (plains : List Plain) (at : ℕ) (plain : Plain) → PlainLies bytes plain → Lies bytes (read_placed state plains at plain)
placed_lies bytes state plains at plain p =
    either bytes (is_white state plains at) (skipped state plain) (kept state at plain (terminal_of state plains at)) (skipped_lies bytes state plain)
    (kept_lies bytes state at plain (terminal_of state plains at) p)

read_lies : (bytes : List ℕ) (state : State) (plains : List Plain) (at : ℕ) (plain : Plain) → PlainLies bytes plain → Lies bytes (read state plains at plain)
unfolding read
read_lies bytes state plains at plain p =
    either bytes _ (skipped state plain) (read_placed (placed state plains at) plains at plain) (skipped_lies bytes state plain)
    (placed_lies bytes (placed state plains at) plains at plain p)

from_lie : (bytes : List ℕ) (plains : List Plain) (state : State) (at : ℕ) (rest : List Plain) → AllByRecursion (PlainLies bytes) rest
    → All (LexemeLies bytes) (lexemes_from plains state at rest)
from_lie bytes plains state at [] a = All-nil (LexemeLies bytes)
from_lie bytes plains state at (plain ∷ rest) a =
    All-append (LexemeLies bytes) (optional (read state plains at plain).lexeme) (lexemes_from plains (read state plains at plain).state (at + 1) rest)
    (read_lies bytes state plains at plain a.0) (from_lie bytes plains (read state plains at plain).state (at + 1) rest a.1)

drop_all_of : (bytes : List ℕ) (at : ℕ) (plains : List Plain) → AllByRecursion (PlainLies bytes) plains → AllByRecursion (PlainLies bytes) (drop at plains)
drop_all_of bytes zero [] a = a
drop_all_of bytes zero (plain ∷ plains) a = a
drop_all_of bytes (suc n) [] a = a
drop_all_of bytes (suc n) (plain ∷ plains) a = drop_all_of bytes n plains a.1

pub lexemes_lie : (bytes : List ℕ) (plains : List Plain) (state : State) (at : ℕ) (lexemes : List Lexeme) → All (PlainLies bytes) plains
    → lexemes ≡ lexemes_by plains state at → All (LexemeLies bytes) lexemes
lexemes_lie bytes plains state at lexemes a e =
    subst (All (LexemeLies bytes)) (sym e) (from_lie bytes plains state at (drop at plains) (drop_all_of bytes at plains (recursion_from_All (PlainLies bytes) plains a)))
