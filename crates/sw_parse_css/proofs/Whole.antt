-- What the reader of a whole sheet answers is what the definitions say.
use Rattle.std.proofs.Common.{◌≡◌, ℕ, suc, ◌≤◌, true, List, [], ◌∷◌, ◌++◌, inl, inr, map, refl, sym, ◌∙◌, ap, subst, arith, length, Option, Result, Ok, Err}
use Rattle.std.proofs.lemmas.Bool.Decides.{nat_tests}
use Rattle.std.proofs.lemmas.Option.{slice_get_cases}
use Rattle.std.proofs.lemmas.List.{map-append}
use Rattle.sw_parse_grammar.specs.Grammar.{Grammar, many, seq, alt, build, skip, anywhere, member, Answer, Got, Unexpected, TooDeep, Reads, Derives, DerivesAny, DerivesIn, Row, done, then}
use Rattle.sw_parse_grammar.proofs.Whole.{parse_reads, parse_reads_deep, parse_deep_exactly}
use Rattle.sw_parse_grammar.proofs.Ends.{derives_end}
use Rattle.sw_text.specs.Places.{Text}
use Rattle.sw_text.specs.declared.fault.Fault.{Fault}
use Rattle.sw_text.specs.declared.fault.FaultCode.TheVariants.{Depth}
use Rattle.sw_tokens.specs.declared.token.Syntax.TheVariants.{Css}
use Rattle.sw_tokens.specs.declared.token.Token.{Token}
use Rattle.sw_tokens.specs.declared.token.Fault10.{Fault10}
use Rattle.sw_tokens.specs.declared.token.Fault10.TheVariants as unclosed
use Rattle.sw_tokens.specs.Listed.{Listed}
use Rattle.sw_tokens.specs.Ends.{tokens_in}
use Rattle.sw_tokens.specs.Faults.{TellsFault, IsFaultBy}
use Rattle.sw_parse_terminals.specs.declared.lexeme.Lexeme.{Lexeme}
use Rattle.sw_parse_terminals.specs.Numbers.{number_of}
use Rattle.sw_parse_terminals.proofs.Terminals.{positive}
use Rattle.sw_tree.specs.declared.sheet.Sheet.{Sheet}
use Rattle.sw_tree.specs.declared.statement.Statement.{Statement}
use Rattle.sw_parse_table.specs.Parts.{Part, Texts, Behind, Blocks, States, statements_of}
use Rattle.sw_parse_table.specs.Sources.{terminal_in}
use Rattle.sw_parse_css.specs.declared.end.ReadEnd.{ReadEnd}
use Rattle.sw_parse_css.specs.declared.end.ReadEnd.TheVariants as ends
use Rattle.sw_parse_css.specs.Ends.{end_of}
use Rattle.sw_parse_css.specs.Seen.{Seen, seen_of, text_of, terminal_at}
use Rattle.sw_parse_css.specs.Sheets.{Form, Whole, Outside, forms, opening, closing, finish, text_item, text_items, text, optional_text, value, colon_value, custom_value, selector_rest, pseudo, pseudo_or_value, declaration, custom, named, dashed, rule, at_rule, import, charset, comment, nameless, other, outer_statement, inner_statement, to_named, to_rule, to_at_rule, to_import, to_charset, to_comment}
use Rattle.sw_parse_css.specs.Reads.{reader}
use Rattle.sw_parse_css.specs.Reading.{answered, seen_read, tokens_read, css_of, ReadsSeen, ReadsTokens, OpensTooMany, IsReading, TellsDepth, fault_at, Returns, Obeys}
use Rattle.sw_parse_css.proofs.Decided.{fit, forms_nested}
use Rattle.sw_parse_css.proofs.Blocks.{statements_of_map}

not_end : (k : ℕ) → 1 ≤ k → member k (0 ∷ []) ≡ true → ⊥
not_end k l e = grind (arith, nat_tests)

-- these parts are statements
abbrev AreStates : List Part → Type 0
AreStates ws = (xs : List Statement) × (ws ≡ map States xs)

no_states : AreStates []
no_states = ([], refl)

one_state : (x : Statement) → AreStates (States x ∷ [])
one_state x = (x ∷ [], refl)

states_append : (u v : List Part) → AreStates u → AreStates v → AreStates (u ++ v)
states_append u v a b = (a.0 ++ b.0, ap (λ (x : List Part). x ++ v) a.1 ∙ ap (λ (x : List Part). map States a.0 ++ x) b.1 ∙ sym (map-append States a.0 b.0))

states_same : (u w : List Part) → w ≡ u → AreStates u → AreStates w
states_same u w e a = (a.0, e ∙ a.1)

States_inj : (a b : List Statement) → map States a ≡ map States b → a ≡ b
States_inj [] [] e = refl
States_inj [] (b ∷ bs) e = absurd (cc)
States_inj (a ∷ xs) [] e = absurd (cc)
States_inj (a ∷ xs) (b ∷ bs) e =
    let t : map States xs ≡ map States bs = cc in
    let h : a ≡ b = cc in
    let r = States_inj xs bs t in cc

module _ (seen : Seen) where
  -- only the end has the number 0
  at_end : (j : ℕ) → member (terminal_at seen j) (0 ∷ []) ≡ true → length seen.lexemes ≤ j
  unfolding terminal_at
  at_end j e =
      elim (slice_get_cases seen.lexemes j).1 [
        | inr (l, x) ↦ l
        | inl (x, l, is, x2) ↦ absurd (not_end (number_of x.terminal) (positive x.terminal) (subst (λ (o : Option Lexeme). member (terminal_in o) (0 ∷ []) ≡ true) is e))
      ]

  named_states : (i j : ℕ) (us : List Part) → AreStates (to_named seen i j us)
  named_states i j (Texts name ∷ Behind head ∷ []) = one_state _
  named_states i j (Texts name ∷ Texts _ ∷ Behind head ∷ []) = one_state _
  named_states i j (Texts name ∷ Behind head ∷ Blocks block ∷ []) = one_state _
  named_states i j (Texts name ∷ Texts _ ∷ Behind head ∷ Blocks block ∷ []) = one_state _
  named_states i j _ = no_states

  rule_states : (i j : ℕ) (us : List Part) → AreStates (to_rule seen i j us)
  rule_states i j (Behind head ∷ Blocks block ∷ []) = one_state _
  rule_states i j _ = no_states

  at_rule_states : (i j : ℕ) (us : List Part) → AreStates (to_at_rule seen i j us)
  at_rule_states i j (Texts name ∷ Behind head ∷ parts) = one_state _
  at_rule_states i j (Texts name ∷ Texts prelude ∷ Behind head ∷ parts) = one_state _
  at_rule_states i j _ = no_states

  import_states : (i j : ℕ) (us : List Part) → AreStates (to_import seen i j us)
  import_states i j (Texts t ∷ []) = one_state _
  import_states i j _ = no_states

  module _ (n : ℕ) where
    abbrev In : Grammar Part Form → ℕ → ℕ → List Part → Type 0
    In = DerivesIn (text_of seen) (Derives (forms seen) (text_of seen) n)

    finish_states : (i j : ℕ) (w : List Part) → In finish i j w → AreStates w
    unfolding finish
    finish_states i j w (inl d) = states_same [] w d.2 no_states
    finish_states i j w (inr d) = states_same [] w d.2 no_states

    -- what is built of a production, and what is built before an end
    named_read : (i j : ℕ) (w : List Part) → In (named seen) i j w → AreStates w
    unfolding named
    named_read i j w (u, d, e) = states_same (to_named seen i j u) w e (named_states i j u)

    dashed_read : (i j : ℕ) (w : List Part) → In (dashed seen) i j w → AreStates w
    unfolding dashed
    dashed_read i j w (u, d, e) = states_same (to_named seen i j u) w e (named_states i j u)

    rule_read : (i j : ℕ) (w : List Part) → In (rule seen) i j w → AreStates w
    unfolding rule
    rule_read i j w (u, d, e) = states_same (to_rule seen i j u) w e (rule_states i j u)

    at_rule_read : (form : Form) (i j : ℕ) (w : List Part) → In (at_rule seen form) i j w → AreStates w
    unfolding at_rule
    at_rule_read form i j w (u, d, e) = states_same (to_at_rule seen i j u) w e (at_rule_states i j u)

    import_read : (i j : ℕ) (w : List Part) → In (import seen) i j w → AreStates w
    unfolding import
    import_read i j w (k, u, v, (x, d, same), f, e) =
        states_same (u ++ v) w e (states_append u v (states_same (to_import seen i k x) u same (import_states i k x)) (finish_states k j v f))

    charset_read : (i j : ℕ) (w : List Part) → In (charset seen) i j w → AreStates w
    unfolding charset
    charset_read i j w (k, u, v, (x, d, same), f, e) =
        states_same (u ++ v) w e (states_append u v (states_same (to_charset seen i k x) u same (one_state _)) (finish_states k j v f))

    comment_read : (i j : ℕ) (w : List Part) → In (comment seen) i j w → AreStates w
    unfolding comment
    comment_read i j w (u, d, e) = states_same (to_comment seen i j u) w e (one_state _)

    nameless_read : (i j : ℕ) (w : List Part) → In nameless i j w → AreStates w
    unfolding nameless
    nameless_read i j w (k, u, v, d, (m, e1, e2), e3) = absurd (cc)

    other_read : (form : Form) (i j : ℕ) (w : List Part) → In (other seen form) i j w → AreStates w
    unfolding other
    other_read form i j w (inl d) = at_rule_read form i j w d
    other_read form i j w (inr (inl d)) = import_read i j w d
    other_read form i j w (inr (inr (inl d))) = charset_read i j w d
    other_read form i j w (inr (inr (inr (inl d)))) = comment_read i j w d
    other_read form i j w (inr (inr (inr (inr (inl d))))) = states_same [] w d.2 no_states
    other_read form i j w (inr (inr (inr (inr (inr d))))) = nameless_read i j w d

    statement_read : (i j : ℕ) (w : List Part) → In (outer_statement seen) i j w → AreStates w
    unfolding outer_statement
    statement_read i j w (inl d) = named_read i j w d
    statement_read i j w (inr (inl d)) = dashed_read i j w d
    statement_read i j w (inr (inr (inl d))) = rule_read i j w d
    statement_read i j w (inr (inr (inr d))) = other_read Outside i j w d

    row_states : {i j : ℕ} {w : List Part} → Row (In (outer_statement seen)) i j w → AreStates w
    row_states done = no_states
    row_states (then {i} {k} {j} {u} {v} d r) = states_append u v (statement_read i k u d) (row_states r)

  -- a sheet ends at the end of the text
  sheet_end : (n j : ℕ) (w : List Part) → Derives (forms seen) (text_of seen) (suc n) Whole 0 j w → j ≡ length seen.lexemes
  unfolding finish text_item text_items text optional_text value colon_value custom_value selector_rest pseudo pseudo_or_value declaration custom named dashed rule at_rule import charset comment nameless other outer_statement inner_statement
  sheet_end n j w (k, u, v, d, (m, e1, e2), e3) =
      let le : k ≤ length seen.lexemes = derives_end (text_of seen) (Derives (forms seen) (text_of seen) n) (length seen.lexemes) ((fit seen).past) (many (outer_statement seen)) refl 0 k u d (omega arith) in
      let ge : length seen.lexemes ≤ k = at_end k m in
      omega arith

  sheet_states : (n j : ℕ) (w : List Part) → Derives (forms seen) (text_of seen) (suc n) Whole 0 j w → AreStates w
  sheet_states n j w (k, u, v, d, (m, e1, e2), e3) = states_same (u ++ v) w e3 (states_append u v (row_states n d) (states_same [] v e2 no_states))

  abbrev whole : Answer Part
  whole = reader seen 128 (forms seen Whole) 0

  got_states : (xs : List Statement) (j : ℕ) → whole ≡ Got (map States xs) j → ReadsSeen seen (Ok (record { statements = xs }))
  got_states xs j e =
      let r = parse_reads (fit seen) 128 Whole 0 (Got (map States xs) j) e in
      let end = sheet_end 128 j (map States xs) r.0 in (
        (129, subst (λ (z : ℕ). Derives (forms seen) (text_of seen) 129 Whole 0 z (map States xs)) end r.0),
        (λ others d. States_inj others xs (r.2 (map States others) (subst (λ (z : ℕ). DerivesAny (forms seen) (text_of seen) Whole 0 z (map States others)) (sym end) d))),
      )

  -- the answer of the reader of a whole sheet, as the grammar says it
  seen_is_read : (a : Answer Part) → whole ≡ a → ReadsSeen seen (answered seen a)
  seen_is_read (Got parts j) e =
      let r = parse_reads (fit seen) 128 Whole 0 (Got parts j) e in
      let xs = sheet_states 128 j parts r.0 in
      let same : statements_of parts ≡ xs.0 = ap statements_of xs.1 ∙ statements_of_map xs.0 in
      subst (λ (x : List Statement). ReadsSeen seen (Ok (record { statements = x }))) (sym same) (got_states xs.0 j (e ∙ ap (λ (x : List Part). Got x j) xs.1))
  seen_is_read (Unexpected at) e =
      let r = parse_reads (fit seen) 128 Whole 0 (Unexpected at) e in
      inl (at, ((129, r.0), r.1, (λ xs p d. r.2 (map States xs) (subst (λ (z : ℕ). DerivesAny (forms seen) (text_of seen) Whole 0 z (map States xs)) (sym p) d))), refl)
  seen_is_read (TooDeep at) e =
      inr (at, parse_reads_deep (fit seen) opening closing (forms_nested seen) 128 Whole 0 (TooDeep at) e, refl)

  seen_deep : (at : ℕ) → OpensTooMany seen at → seen_read seen ≡ Err (fault_at seen Depth at)
  seen_deep at d =
      let exactly = parse_deep_exactly (fit seen) opening closing (forms_nested seen) 128 Whole 0 whole refl at in
      ap (answered seen) (exactly.1 d)

  pub got_sheet : (xs : List Statement) (j : ℕ) → whole ≡ Got (map States xs) j → seen_read seen ≡ Ok (record { statements = xs })
  got_sheet xs j e =
      ap (answered seen) e ∙ ap (λ (x : List Statement). let r : Result Sheet Fault = Ok (record { statements = x }) in r) (statements_of_map xs)

abbrev listed : Text → List Token → Listed
listed sheet tokens = record { sheet = sheet; list = tokens }

tokens_are_read : (sheet : Text) (r : Result (List Token) ℕ) → ReadsTokens sheet r (tokens_read sheet r)
tokens_are_read sheet (Ok tokens) = seen_is_read (seen_of (listed sheet tokens)) (whole (seen_of (listed sheet tokens))) refl
tokens_are_read sheet (Err at) = refl

pub sheet_is_read : (sheet : Text) → IsReading sheet (css_of sheet)
unfolding css_of
sheet_is_read sheet = tokens_are_read sheet (tokens_in Css sheet.bytes)

pub sheet_is_deep : (sheet : Text) → TellsDepth sheet (css_of sheet)
unfolding css_of
sheet_is_deep sheet tokens at e d = ap (tokens_read sheet) e ∙ seen_deep (seen_of (listed sheet tokens)) at d

-- what was returned for the tokens is what the text gives
pub tokens_returned : (sheet : Text) (tokens : Listed) (r : Result Sheet ReadEnd) → tokens.sheet ≡ sheet → tokens_in Css sheet.bytes ≡ Ok tokens.list
    → Returns r (seen_read (seen_of tokens)) → Returns r (css_of sheet)
unfolding css_of
tokens_returned sheet tokens r e is x =
    let y = subst (λ (s : Text). Returns r (seen_read (seen_of (listed s tokens.list)))) e x in
    subst (λ (t : Result (List Token) ℕ). Returns r (tokens_read sheet t)) (sym is) y

pub unclosed_returned : (sheet : Text) (fault : Fault10) → TellsFault sheet (tokens_in Css sheet.bytes) fault → Returns (Err (end_of fault)) (css_of sheet)
unfolding css_of
unclosed_returned sheet unclosed.Memory l = tt
unclosed_returned sheet (unclosed.Fault fault) l = go (tokens_in Css sheet.bytes) l
  where
    go : (r : Result (List Token) ℕ) → IsFaultBy sheet r fault → tokens_read sheet r ≡ Err fault
    go (Ok ts) x = absurd x
    go (Err k) x = ap (λ (f : Fault). let r : Result Sheet Fault = Err f in r) (sym x)

-- what is returned obeys the grammar
pub obeys : (sheet : Text) (r : Result Sheet ReadEnd) → Returns r (css_of sheet) → Obeys sheet r
obeys sheet (Ok tree) e = subst (IsReading sheet) e (sheet_is_read sheet)
obeys sheet (Err (ends.Fault fault)) e = subst (IsReading sheet) e (sheet_is_read sheet)
obeys sheet (Err ends.Memory) e = tt
