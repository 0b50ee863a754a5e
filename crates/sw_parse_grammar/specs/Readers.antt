-- What the functions of a reader answer.
use Rattle.std.specs.Prelude.{◌≡◌, ℕ, List, Result, Ok, Err}
use Rattle.sw_parse_grammar.specs.Grammar.{Grammar, Text, Answer, Got, Unexpected, TooDeep, run, inside}
use Rattle.sw_parse_grammar.specs.Levels.{ReadsDeep}
use Rattle.sw_parse_grammar.specs.declared.ReadError.{ReadError}
use Rattle.sw_parse_grammar.specs.declared.ReadError.TheVariants as ends

-- The reader of g at a place of a text with this end, where n levels may be opened.
unfoldable pub parse : {V F : Type 0} → (F → Grammar V F) → Text V → ℕ → ℕ → Grammar V F → ℕ → Answer V
parse rules t end n g i = run t end (inside rules t end n) g i

abbrev pub Fails : {V : Type 0} → ReadError → Answer V → Type 0
Fails ends.Memory a = Unit {0}
Fails (ends.Unexpected k) a = a ≡ Unexpected k
Fails (ends.TooDeep k) a = a ≡ TooDeep k

-- What a function returned, seen by view, is what the reader answers, unless memory ran out.
abbrev pub Answers : {V X : Type 0} → (X → List V) → (X → ℕ) → Result X ReadError → Answer V → Type 0
Answers view next (Ok x) a = a ≡ Got (view x) (next x)
Answers view next (Err e) a = Fails e a

-- What reading a form from at on gives, where n levels may be opened, and the sets O and C open and close them.
abbrev pub ReadsForm : {V F X : Type 0} → (F → Grammar V F) → Text V → List ℕ → List ℕ → ℕ → F → ℕ → (X → List V)
    → (X → ℕ) → Result X ReadError → Type 0
ReadsForm rules t O C n f at view next (Ok x) = ReadsDeep rules t O C n f at (Got (view x) (next x))
ReadsForm rules t O C n f at view next (Err ends.Memory) = Unit {0}
ReadsForm rules t O C n f at view next (Err (ends.Unexpected k)) = ReadsDeep rules t O C n f at (Unexpected k)
ReadsForm rules t O C n f at view next (Err (ends.TooDeep k)) = ReadsDeep rules t O C n f at (TooDeep k)
