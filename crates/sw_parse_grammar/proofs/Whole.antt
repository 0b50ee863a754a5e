-- What the reader of a form answers is what the definitions say.
use Rattle.std.proofs.Common.{◌≡◌, ℕ, true, List, subst, Result, Ok, Err}
use Rattle.sw_parse_grammar.specs.Grammar.{Grammar, Text, Answer, Got, Unexpected, TooDeep, Reads}
use Rattle.sw_parse_grammar.specs.Levels.{nested, ReadsDeep, DeepExactly}
use Rattle.sw_parse_grammar.specs.Readers.{parse, Answers, ReadsForm}
use Rattle.sw_parse_grammar.specs.declared.ReadError.{ReadError}
use Rattle.sw_parse_grammar.specs.declared.ReadError.TheVariants as ends
use Rattle.sw_parse_grammar.proofs.Knot.{reads}
use Rattle.sw_parse_grammar.proofs.DeepOf.{reads_deep}
use Rattle.sw_parse_grammar.proofs.Exact.{deep_exactly}
use Rattle.sw_parse_grammar.proofs.Loops.{Fit}

module _ {V F : Type 0} {rules : F → Grammar V F} {t : Text V} {end : ℕ} (fit : Fit rules t end) where
  pub parse_reads : (n : ℕ) (f : F) (at : ℕ) (a : Answer V) → parse rules t end n (rules f) at ≡ a → Reads rules t n f at a
  unfolding parse
  parse_reads n f at a e = subst (Reads rules t n f at) e (reads rules t fit.ok end fit.past n f at)

  module _ (O C : List ℕ) (nest : (f : F) → nested O C (rules f) ≡ true) where
    pub parse_reads_deep : (n : ℕ) (f : F) (at : ℕ) (a : Answer V) → parse rules t end n (rules f) at ≡ a → ReadsDeep rules t O C n f at a
    parse_reads_deep n f at a e = reads_deep rules t O C nest n f at a (parse_reads n f at a e)

    pub parse_deep_exactly : (n : ℕ) (f : F) (at : ℕ) (a : Answer V) → parse rules t end n (rules f) at ≡ a → DeepExactly rules t O C n f at a
    parse_deep_exactly n f at a e = deep_exactly rules t O C n f at a (parse_reads_deep n f at a e)

    pub reads_form : {X : Type 0} (n : ℕ) (f : F) (at : ℕ) (view : X → List V) (next : X → ℕ) (r : Result X ReadError)
        → Answers view next r (parse rules t end n (rules f) at) → ReadsForm rules t O C n f at view next r
    reads_form n f at view next (Ok x) a = parse_reads_deep n f at (Got (view x) (next x)) a
    reads_form n f at view next (Err ends.Memory) a = tt
    reads_form n f at view next (Err (ends.Unexpected k)) a = parse_reads_deep n f at (Unexpected k) a
    reads_form n f at view next (Err (ends.TooDeep k)) a = parse_reads_deep n f at (TooDeep k) a
