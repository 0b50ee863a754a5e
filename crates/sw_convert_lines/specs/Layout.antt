-- Statements as they are written in lines: two spaces of indent for each block, one statement a line, and the statements
-- of a block below it.
use Rattle.std.specs.Prelude.{ℕ, ◌+◌, Bool, true, false, not, ◌&&◌, if◌then◌else◌, List, [], ◌∷◌, ◌++◌, Option, Some, None, codes}
use Rattle.sw_text.specs.declared.place.Span.{Span}
use Rattle.sw_convert_written.specs.Escapes.{apart, ends_unclosed}
use Rattle.sw_convert_written.specs.Statements.{indent}

-- the text of a statement up to its end or to a block, and whether lines can hold it
pub record Head : Type 0 where
  pub text : List ℕ
  pub held : Bool

-- what is written of a statement behind the indent of its first line, in so many blocks, and where
-- the first statement in it stands that lines can't hold
pub record Shown : Type 0 where
  pub text : ℕ → List ℕ
  pub refused : Option Span

-- a head, and the statements in its block
pub record Blocked : Type 0 where
  pub head : Head
  pub inner : List Shown

abbrev pub has_none : {A : Type 0} → List A → Bool
has_none [] = true
has_none (x ∷ xs) = false

-- the first of two places
abbrev pub first_of : Option Span → Option Span → Option Span
first_of (Some span) next = Some span
first_of None next = next

abbrev pub first_refused : List Shown → Option Span
first_refused [] = None
first_refused (statement ∷ statements) = first_of statement.refused (first_refused statements)

abbrev pub refused_unless : Bool → Span → Option Span → Option Span
refused_unless held span next = if held then next else Some span

-- ---- texts

-- the end of a line behind a text: an escape that is open at its end would take the line break
abbrev pub line_behind : List ℕ → List ℕ
line_behind text = if ends_unclosed text then apart ++ codes "\n" else codes "\n"

abbrev pub inner_text : ℕ → List Shown → List ℕ
inner_text level [] = []
inner_text level (statement ∷ statements) = indent level ++ (statement.text level ++ inner_text level statements)

abbrev pub block_text : ℕ → List ℕ → List Shown → List ℕ
block_text level head inner = head ++ (line_behind head ++ inner_text (level + 1) inner)

-- ---- what lines can hold

-- a block without statements can't be told from none
abbrev pub is_held_block : Blocked → Bool
is_held_block one = one.head.held && not (has_none one.inner)

abbrev pub are_held : List Blocked → Bool
are_held [] = true
are_held (one ∷ blocks) = is_held_block one && are_held blocks

-- ---- statements

abbrev pub line : Span → Head → Shown
line span head =
    record { text = λ level. head.text ++ line_behind head.text; refused = refused_unless head.held span None }

abbrev pub blocked : Span → Blocked → Shown
blocked span one = record {
  text = λ level. block_text level one.head.text one.inner;
  refused = refused_unless (is_held_block one) span (first_refused one.inner);
}
