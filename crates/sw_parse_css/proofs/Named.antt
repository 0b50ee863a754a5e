-- What is read of a statement that begins with its name, by what is read behind the name.
use Rattle.std.proofs.Common.{◌≡◌, ℕ, ◌+◌, true, List, [], ◌∷◌, ap, ◌∙◌, length}
use Rattle.sw_parse_grammar.specs.Grammar.{Grammar, Answer, Got, skip, seq, build, member}
use Rattle.sw_parse_grammar.specs.Readers.{Fails}
use Rattle.sw_parse_grammar.specs.declared.ReadError.{ReadError}
use Rattle.sw_parse_grammar.proofs.Loops.{read_skip, read_both, read_act, fails_seq, fails_act}
use Rattle.sw_parse_terminals.specs.declared.terminal.Terminal.{Terminal}
use Rattle.sw_parse_terminals.specs.Numbers.{just}
use Rattle.sw_parse_table.specs.Parts.{Part, Texts}
use Rattle.sw_parse_css.specs.Seen.{Seen, text_of, terminal_at, text_between}
use Rattle.sw_parse_css.specs.Sheets.{Form, forms, to_text, name_of}
use Rattle.sw_parse_css.specs.Reads.{reader}

module _ (seen : Seen) (h : ℕ → ℕ → List Part → List Part) (terminal : Terminal) (rest : Grammar Part Form) (n i : ℕ) where
  abbrev name : List Part
  name = Texts (text_between seen i (i + 1)) ∷ []

  name_got : member (terminal_at seen i) (just terminal) ≡ true → reader seen n (name_of seen terminal) i ≡ Got name (i + 1)
  name_got m =
      read_act (forms seen) (text_of seen) (length seen.lexemes) n (to_text seen) (skip (just terminal)) i (i + 1) [] (read_skip (forms seen) (text_of seen) (length seen.lexemes) n (just terminal) i m)

  pub statement_got : (j : ℕ) (parts made : List Part) → member (terminal_at seen i) (just terminal) ≡ true
      → reader seen n rest (i + 1) ≡ Got parts j → h i j (Texts (text_between seen i (i + 1)) ∷ parts) ≡ made
      → reader seen n (build h (seq (name_of seen terminal) rest)) i ≡ Got made j
  statement_got j parts made m e p =
      read_act (forms seen) (text_of seen) (length seen.lexemes) n h (seq (name_of seen terminal) rest) i j (Texts (text_between seen i (i + 1)) ∷ parts) (read_both (forms seen) (text_of seen) (length seen.lexemes) n (name_of seen terminal) rest i (i + 1) j name parts (name_got m) e)
      ∙ ap (λ (x : List Part). let r : Answer Part = Got x j in r) p

  pub statement_fails : (e : ReadError) → member (terminal_at seen i) (just terminal) ≡ true
      → Fails e (reader seen n rest (i + 1)) → Fails e (reader seen n (build h (seq (name_of seen terminal) rest)) i)
  statement_fails e m x =
      fails_act (forms seen) (text_of seen) (length seen.lexemes) n h (seq (name_of seen terminal) rest) i e (fails_seq (forms seen) (text_of seen) (length seen.lexemes) n (name_of seen terminal) rest i (i + 1) name e (name_got m) x)
