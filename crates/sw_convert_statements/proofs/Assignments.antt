-- The assignment of another module's variable.
use Rattle.std.proofs.Common.{◌≡◌, ℕ, suc, Bool, true, false, ◌||◌, List, [], ◌∷◌, ◌++◌, append-nil, refl, sym, ◌∙◌, ap, subst, append_assoc, lit<}
use Rattle.std.specs.Prelude.{codes}
use Rattle.sw_text.specs.Names.{dashed}
use Rattle.sw_text_scan.specs.Bytes.{sign, byte}
use Rattle.sw_tree.specs.declared.statement.Flags.{Flags as TreeFlags}
use Rattle.sw_tokens.specs.declared.pieces.Before.{Before}
use Rattle.sw_tokens.specs.declared.pieces.Before.TheVariants as befores
use Rattle.sw_tokens.specs.declared.token.TokenKind.TheVariants as kinds
use Rattle.sw_parse_terminals.specs.declared.terminal.Terminal.{Terminal}
use Rattle.sw_parse_terminals.specs.declared.terminal.Terminal.TheVariants as terminals
use Rattle.sw_parse_grammar.specs.Grammar.{member}
use Rattle.sw_parse_terminals.specs.Numbers.{number_of, just}
use Rattle.sw_parse_lexemes.specs.declared.state.Mode.TheVariants as modes
use Rattle.sw_parse_lexemes.specs.Classes.{is_name}
use Rattle.sw_parse_lexemes.specs.Sorts.{sort_of}
use Rattle.sw_parse_table.specs.declared.source.Source.{Source}
use Rattle.sw_parse_table.specs.Sources.{bytes_at, terminal_at, terminal_in}
use Rattle.sw_parse_table.specs.Values.{qualified_of}
use Rattle.sw_parse_table.specs.Actions.{name_at, flags_at, stands_at}
use Rattle.sw_convert_written.specs.Expressions.{qualified_text}
use Rattle.sw_convert_written.specs.Heads.{with_flags}
use Rattle.sw_convert_written.specs.Names.{name_text}
use Rattle.sw_convert_passing.specs.Written.{Written}
use Rattle.sw_convert_again.specs.Tokens.{Tok, tok, Old, Bytes, Dashed}
use Rattle.sw_convert_again.specs.Tokens as again
use Rattle.sw_convert_again.specs.Statements.{OldFlags, no_flags, more_flags, flag_if}
use Rattle.sw_convert_again.proofs.Tokens.{one_byte}
use Rattle.sw_convert_tokens.specs.Written.{Follows, is_calm, AsRow, WrittenAs}
use Rattle.sw_convert_tokens.specs.Values.{WasRead}
use Rattle.sw_convert_tokens.proofs.Joins as joins
use Rattle.sw_convert_tokens.proofs.Olds.{old_token}
use Rattle.sw_convert_tokens.proofs.OriginChoices.{fits}
use Rattle.sw_convert_tokens.proofs.Signs.{Fits, sign_segment, sign_token}
use Rattle.sw_convert_tokens.proofs.Stops.{Parted}
use Rattle.sw_convert_tokens.proofs.Unclosed.{space_ends, follows_end}
use Rattle.sw_convert_tokens.proofs.Variables.{only_owner, Begins, dot_parts, variable_name}
use Rattle.sw_convert_tokens.proofs.Words.{copied_name, copied_bytes}
use Rattle.sw_convert_heads_passing.specs.Flow.{FlowHead, assigned_head}
use Rattle.sw_convert_heads_passing.specs.Statements.{begins_else, assigned}
use Rattle.sw_convert_texts.specs.RawTexts.{SheetSegment}
use Rattle.sw_convert_statements.specs.Segments.{Anything, FrontWritten}
use Rattle.sw_convert_statements.specs.Starts.{may_begin}
use Rattle.sw_convert_statements.proofs.FirstTokens.{is_plain, first_undashed}
use Rattle.sw_convert_statements.proofs.Flags.{flags_written}
use Rattle.sw_convert_statements.proofs.KnownNames.{name_else}
use Rattle.sw_convert_statements.proofs.Segments.{sheet, join, as_text, as_toks, as_passed, as_behind, text_follows}
use Rattle.sw_convert_statements.proofs.Variables.{colon_segment}

-- ---- its flags

-- `!global` is none of them
only_default : (terminal : Terminal) → member (number_of terminal) (just terminals.Default) ≡ true
    → member (number_of terminal) (just terminals.Global) ≡ false
only_default terminals.Default m = refl
only_default _ m = absurd (cc)

no_flag_there : (source : Source) (i : ℕ) → Old source i (just terminals.Default) → stands_at source i terminals.Global ≡ false
unfolding terminal_at
no_flag_there source i old =
    ap (λ (n : ℕ). member n (just terminals.Global)) (ap terminal_in old.there)
    ∙ only_default old.lexeme.terminal old.kind

pub no_global : (source : Source) {k f : ℕ} {places : List ℕ} → OldFlags source (just terminals.Default) k f places
    → (flags_at source places).global ≡ false
no_global source no_flags = refl
no_global source (more_flags {i} {places = places} ending old more) =
    ap (λ (b : Bool). b || (flags_at source places).global) (no_flag_there source (suc i) old) ∙ no_global source more

-- ---- its name

-- `namespace.$name:` where a statement begins
record OwnedHead (source : Source) (i : ℕ) (before : Before) : Type 0 where
  passed : List Written
  head : FlowHead modes.Ends passed
  first : (rest : List Written) → begins_else (passed ++ rest) ≡ false
  segment : SheetSegment before (qualified_text (qualified_of source i (suc (suc (suc i)))) ++ codes ":")
      (tok terminals.Owner (Bytes 1 (bytes_at source i)) ∷ again.sign terminals.OwnerDot ∷ again.sign terminals.OwnerDollar
      ∷ tok terminals.VariableName (Dashed (name_at source (suc (suc (suc i))))) ∷ again.sign terminals.Colon ∷ []) passed
      befores.Other Anything

owned_head : (source : Source) (i : ℕ) → WasRead source → Old source i (just terminals.Owner)
    → Old source (suc (suc (suc i))) (just terminals.VariableName) → may_begin source i ≡ true
    → (before : Before) → is_calm before ≡ true → OwnedHead source i before
unfolding byte
owned_head source i was owner old begins before calm =
    let owned = old_token source was i owner.lexeme owner.there in
    let sort = sort_of owned.kind owned.text in
    let n : is_name sort ≡ true =
    ap (λ (k : Terminal). fits k sort) (sym (only_owner owner.lexeme.terminal owner.kind)) ∙ owned.fit in
    let bytes_are = copied_bytes source i owner.lexeme owned n in
    let name = variable_name source (suc (suc (suc i))) was old in
    let text = name_text (dashed (bytes_at source (suc (suc (suc i))))) in
    let first = sheet
    (copied_name source i owner.lexeme owned n terminals.Owner (Bytes 1 (bytes_at source i)) before false calm
    (Parted owned.text) (λ after f. f) (λ new at same. one_byte new at ∙ same)) in
    let plain = first_undashed source owner (ap is_plain (only_owner owner.lexeme.terminal owner.kind)) was owned begins in
    let dot = sign_segment kinds.Dot (codes ".") (terminals.OwnerDot ∷ []) befores.Other false (Begins (sign "$")) refl refl
    refl (lit< tt)
    (λ inside after code b.
    sign_token kinds.Dot after inside befores.Other refl code refl
    (subst (λ (x : List ℕ). Fits kinds.Dot x) (sym b.1) refl)) in
    let sign_dollar = sign_segment kinds.Dollar (codes "$") (terminals.OwnerDollar ∷ []) befores.Other false Anything refl
    refl refl (lit< tt) (λ inside after code ok. sign_token kinds.Dollar after inside befores.Other refl code refl refl) in
    record {
      passed = _;
      head = assigned_head sort name.sort n plain name.is;
      first = λ rest. name_else sort n;
      segment = as_text
          (ap (λ (x : List ℕ). x ++ (codes ".$" ++ (text ++ codes ":"))) (sym bytes_are)
          ∙ sym (append_assoc (bytes_at source i) (codes ".$" ++ text) (codes ":")))
          (join first
          (sheet
          (joins.join dot
          (joins.join sign_dollar (joins.join name.segment colon_segment (λ after ok. record { stop = refl; closed = refl }))
          (λ after f. tt))
          (λ after f. ((text ++ codes ":") ++ after, refl))))
          (λ after ok. dot_parts owned.text _ ((codes "$" ++ (text ++ codes ":")) ++ after, refl)));
    }

-- with its value and `!default`
pub assignment_written : (source : Source) (i : ℕ) → WasRead source → Old source i (just terminals.Owner)
    → Old source (suc (suc (suc i))) (just terminals.VariableName) → may_begin source i ≡ true
    → {value : List ℕ} {tokens : List Tok} → WrittenAs AsRow value tokens → (flags : TreeFlags) → flags.global ≡ false
    → FrontWritten modes.Ends
    (with_flags flags (qualified_text (qualified_of source i (suc (suc (suc i)))) ++ (codes ": " ++ value)))
    (tok terminals.Owner (Bytes 1 (bytes_at source i)) ∷ again.sign terminals.OwnerDot ∷ again.sign terminals.OwnerDollar
    ∷ tok terminals.VariableName (Dashed (name_at source (suc (suc (suc i))))) ∷ again.sign terminals.Colon
    ∷ (tokens ++ flag_if flags.default terminals.Default))
assignment_written source i was owner old begins {value} {tokens} it flags local before calm =
    let head = owned_head source i was owner old begins before calm in
    let one = it befores.Other true refl in
    let name = qualified_text (qualified_of source i (suc (suc (suc i)))) in
    let front = tok terminals.Owner (Bytes 1 (bytes_at source i)) ∷ again.sign terminals.OwnerDot
    ∷ again.sign terminals.OwnerDollar ∷ tok terminals.VariableName (Dashed (name_at source (suc (suc (suc i)))))
    ∷ again.sign terminals.Colon ∷ [] in
    let whole : SheetSegment before (name ++ (codes ": " ++ value)) (front ++ tokens) (head.passed ++ one.passed)
    befores.Other (Follows (name ++ (codes ": " ++ value))) =
    as_behind
    (λ after f. follows_end (name ++ codes ":") value (sign " ") space_ends after
    (subst (λ (x : List ℕ). Follows x after) (sym (append_assoc name (codes ":") (sign " " ∷ value))) f))
    (as_text (append_assoc name (codes ":") (codes " " ++ value))
    (join head.segment (sheet one.segment) (λ after f. tt))) in
    let all = flags_written whole flags in record {
      passed = head.passed ++ (one.passed ++ all.more);
      first = head.first (one.passed ++ all.more);
      front = assigned head.head (one.told modes.Ends refl).1 all.are;
      end = befores.Other;
      loose = λ u. refl;
      segment = as_behind (λ after e. text_follows _ after e)
          (as_toks
          (ap (λ (b : Bool). front ++ (tokens ++ (flag_if flags.default terminals.Default ++ flag_if b terminals.Global))) local
          ∙ ap (λ (l : List Tok). front ++ (tokens ++ l)) (append-nil (flag_if flags.default terminals.Default)))
          (as_passed (append_assoc head.passed one.passed all.more) all.segment));
    }
