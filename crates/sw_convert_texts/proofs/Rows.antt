-- What a word or a name goes on with is written as its tokens.
use Rattle.std.proofs.Common.{◌≡◌, ◌⊎◌, ◌<◌, ℕ, suc, Bool, true, false, inl, inr, List, [], ◌∷◌, ◌++◌, length, Some, refl, sym, ◌∙◌, ap, subst, append_assoc, append-nil, arith}
use Rattle.std.specs.Prelude.{◌==◌, codes}
use Rattle.std.specs.List.{list_all}
use Rattle.sw_text_scan.specs.Bytes.{sign, byte, starts_plainly}
use Rattle.sw_text_scan.specs.Words.{is_u}
use Rattle.sw_tree.specs.declared.expr.Expr.{Expr}
use Rattle.sw_tokens.specs.declared.pieces.Before.{Before}
use Rattle.sw_tokens.specs.declared.pieces.Before.TheVariants as befores
use Rattle.sw_tokens.specs.declared.pieces.Change.TheVariants as changes
use Rattle.sw_tokens.specs.declared.skips.Inside.{Inside}
use Rattle.sw_tokens.specs.declared.token.TokenKind.{TokenKind}
use Rattle.sw_tokens.specs.Ends.{opens}
use Rattle.sw_tokens.specs.Pieces.{made, piece}
use Rattle.sw_parse_terminals.specs.declared.lexeme.Lexeme.{Lexeme}
use Rattle.sw_parse_terminals.specs.declared.terminal.Terminal.TheVariants as terminals
use Rattle.sw_parse_terminals.specs.Numbers.{just}
use Rattle.sw_parse_lexemes.specs.declared.sort.Sort.{Sort}
use Rattle.sw_parse_lexemes.specs.declared.sort.Sort.TheVariants as sorts
use Rattle.sw_parse_lexemes.specs.Classes.{same}
use Rattle.sw_parse_lexemes.specs.Sorts.{sort_of}
use Rattle.sw_parse_table.specs.declared.source.Source.{Source}
use Rattle.sw_parse_table.specs.Parts.{Part}
use Rattle.sw_parse_table.specs.Sources.{lexeme_at, bytes_at}
use Rattle.sw_convert_spelling.specs.Spelt.{innermost, is_sheet_code}
use Rattle.sw_convert_written.specs.Expressions.{expr_text}
use Rattle.sw_convert_passing.specs.Kinds.{is_part}
use Rattle.sw_convert_passing.specs.Written.{Written, written}
use Rattle.sw_convert_passing.specs.Values.{Parts, no_part, part, part_insert, begins_insert}
use Rattle.sw_convert_again.specs.Tokens.{Nothing, Says, Tok, tok, Old}
use Rattle.sw_convert_again.specs.Tokens as again
use Rattle.sw_convert_again.specs.Spells.{Spells, SpellsRow, behind_insert}
use Rattle.sw_convert_again.specs.Spells as spells
use Rattle.sw_convert_spelling.proofs.MovedRuns.{first_byte}
use Rattle.sw_convert_spelling.proofs.Choices.{right_no, neither}
use Rattle.sw_convert_tokens.specs.Joints.{Seen, Joint, Token, text, toks, writtens, written_of, behind, Stand, Tell}
use Rattle.sw_convert_tokens.specs.Values.{WasRead}
use Rattle.sw_convert_tokens.specs.Written.{is_calm, AsRow, WrittenAs}
use Rattle.sw_convert_tokens.proofs.Joins.{text_append, toks_append, writtens_append, behind_append, tell_append}
use Rattle.sw_convert_tokens.proofs.Unclosed.{Ends}
use Rattle.sw_convert_texts.specs.Inserted.{RowHasValues}
use Rattle.sw_convert_texts.specs.Names.{row_inserts}
use Rattle.sw_convert_texts.proofs.JoinedTexts.{lone}
use Rattle.sw_convert_texts.proofs.Stretches.{none, said_behind, behind_is}
use Rattle.sw_convert_texts.proofs.DigitTokens.{Still}
use Rattle.sw_convert_texts.proofs.NameTokens.{Settled, insert_settled}
use Rattle.sw_convert_texts.proofs.OldPieces.{old_piece, whole_bytes}
use Rattle.sw_convert_texts.proofs.OldRows.{row_text, head_of, part_closed, PartThere, part_there, behind_text}
use Rattle.sw_convert_texts.proofs.NewRows.{HeadRun, run_end, run_more, run_token, says_next}
use Rattle.sw_convert_texts.proofs.Inserts.{inner_of, inner_items, opening, closing, code_inserts, insert_stand}
use Rattle.sw_convert_texts.proofs.PartTokens.{no_slash, rejoins, Goes, PartToken}
use Rattle.sw_convert_texts.proofs.Parts.{part_token, goes_next, far_apart}

-- what may stand behind a text, so that its last name stays one
pub record Ending (Behind : List ℕ → List ℕ → Type 0) : Type 0 where
  pub settles : (value after : List ℕ) → Behind value after → Settled value after
  -- what may stand behind a text may stand behind its end
  pub cuts : (xs ys : List ℕ) (b : ℕ) → Ends b → ((b == sign "}") ≡ true) ⊎ (is_u (byte ys 0) ≡ false) → (after : List ℕ)
      → Behind (xs ++ b ∷ ys) after → Behind ys after
  pub keeps : (xs ys : List ℕ) (b : ℕ) → Ends b → is_u b ≡ false → (after : List ℕ) → Behind (xs ++ b ∷ ys) after
      → Behind (b ∷ ys) after
  pub skips : (xs ys : List ℕ) → list_all no_slash xs ≡ true → starts_plainly (byte ys 0) ≡ false → (after : List ℕ)
      → Behind (xs ++ ys) after → Behind ys after
  pub nothing : (value after : List ℕ) → Behind value after → Behind [] after

-- a row as it is written
pub record RowIs (Behind : List ℕ → List ℕ → Type 0) (source : Source) {i j count : ℕ} {inserts : List Part} {tokens : List Tok}
    (row : SpellsRow source terminals.Part terminals.PartInsert 0 i j inserts count tokens) : Type 0 where
  pub joints : List Joint
  pub spelling : text joints ≡ row_text source row
  pub seen : toks joints ≡ tokens
  pub parts : Parts (writtens joints)
  pub inserts_so : begins_insert (writtens joints) ≡ row_inserts row
  pub last : behind befores.Other joints ≡ befores.Other
  pub run : HeadRun (none inserts) count joints (head_of source row)
  pub tells : Tell joints
  pub stand : (stack : List Inside) (after : List ℕ) → is_sheet_code (innermost stack) ≡ true
      → Behind (row_text source row) after → Stand stack befores.Other joints stack after

-- behind a `-` no number goes on there
still_no : (long power : Bool) (next after : List ℕ) → Still after → rejoins long power next after ≡ false
still_no long power next after still =
    right_no long _ (right_no (byte next 0 == sign "-") _ (right_no (length next == 1) _
    (neither (starts_plainly (byte after 0)) _ still.unit (right_no power _ still.digit))))

begins_so : (xs : List ℕ) (b : ℕ) → 0 < length xs → byte xs 0 ≡ b → (rest : List ℕ) × (xs ≡ b ∷ rest)
begins_so [] b some e = absurd (omega (arith, some))
begins_so (c ∷ xs) b some e = (xs, ap (λ (d : ℕ). d ∷ xs) (sym (first_byte c xs) ∙ e))

minus_ends : Ends (sign "-")
minus_ends = record { slash = refl; digit = refl }

hash_ends : Ends (sign "#")
hash_ends = record { slash = refl; digit = refl }

pub brace_ends : Ends (sign "}")
brace_ends = record { slash = refl; digit = refl }

part_no_insert : (sort : Sort) → is_part sort ≡ true → same sort sorts.OpenInsert ≡ false
part_no_insert sorts.OpenInsert e = absurd (cc)
part_no_insert _ e = refl

module _ (Behind : List ℕ → List ℕ → Type 0) (ending : Ending Behind) (source : Source) (was : WasRead source) where
  -- the part behind a place
  abbrev IsPart : ℕ → List ℕ → Type 0
  IsPart k xs = (token : PartToken source k xs) × (is_part (sort_of token.kind xs) ≡ true)

  token_there : (k : ℕ) → PartThere source was k → IsPart (suc k) (bytes_at source (suc k))
  token_there k there =
      let piece = old_piece source was (suc k) there.lexeme there.there in
      let fits = ap is_part (sym piece.sort) ∙ there.fits in
      let whole = piece.own (part_closed piece.kind piece.text fits) in
      let same = whole_bytes source (suc k) there.lexeme piece.kind piece.text there.there whole in
      subst (IsPart (suc k)) (sym same)
      (part_token source (suc k) there.lexeme there.there piece.kind piece.text fits whole)

  -- no number goes on behind a `-` that stood directly behind it
  clear_row : {i j count : ℕ} {inserts : List Part} {tokens : List Tok}
      (row : SpellsRow source terminals.Part terminals.PartInsert 0 (suc i) j inserts count tokens) (k : ℕ) (value : List ℕ)
      (token : PartToken source k value) → PartThere source was k → i ≡ suc k → (after : List ℕ)
      → Behind (value ++ (bytes_at source i ++ row_text source row)) after
      → rejoins token.long token.power (bytes_at source (suc k)) (row_text source row ++ after) ≡ false
  clear_row {i} spells.row_end k value token next e after f =
      let settled = ending.settles (value ++ (bytes_at source i ++ [])) after f in
      still_no token.long token.power (bytes_at source (suc k)) _ settled.still
  clear_row {i} (spells.row_part old row) k value token next e after f =
      let far = part_there source was (suc k) next.lexeme next.there (subst (λ (n : ℕ). Old source (suc n) (just terminals.Part)) e old) in
      ap (rejoins token.long token.power (bytes_at source (suc k)))
      (append_assoc (bytes_at source (suc i)) (row_text source row) after
      ∙ ap (λ (n : ℕ). bytes_at source (suc n) ++ (row_text source row ++ after)) e)
      ∙ far_apart source was k value token next far (row_text source row ++ after)
  clear_row (spells.row_insert opens inner close row) k value token next e after f =
      let settled = insert_settled [] _ in
      still_no token.long token.power (bytes_at source (suc k)) _ settled.still

  -- what may stand behind a part and the text behind it may stand behind that text
  behind_part : {long power : Bool} {kind : TokenKind} (value next rest : List ℕ) → Goes long power kind value next
      → (after : List ℕ) → Behind (value ++ (next ++ rest)) after → Behind (next ++ rest) after
  behind_part value next rest goes after f = go goes.apart
    where
      go : (list_all no_slash value ≡ true) ⊎ ((0 < length next) × (byte next 0 ≡ sign "-")) → Behind (next ++ rest) after
      go (inl calm) = ending.skips value (next ++ rest) calm (goes.unbegun rest) after f
      go (inr (some, dash)) =
          let (xs, same) = begins_so next (sign "-") some dash in
          subst (λ (t : List ℕ). Behind (t ++ rest) after) (sym same)
          (ending.keeps value (xs ++ rest) (sign "-") minus_ends refl after
          (subst (λ (t : List ℕ). Behind (value ++ (t ++ rest)) after) same f))

  -- a token before a row stays one
  pub stands_row : {i j count : ℕ} {inserts : List Part} {tokens : List Tok}
      (row : SpellsRow source terminals.Part terminals.PartInsert 0 i j inserts count tokens) (k : ℕ) (value : List ℕ)
      (token : PartToken source k value) (lexeme : Lexeme) → lexeme_at source k ≡ Some lexeme → i ≡ suc k
      → (after : List ℕ) → Behind (value ++ row_text source row) after → (inside : Inside)
      → is_sheet_code inside ≡ true → (before : Before) → is_calm before ≡ true
      → piece (value ++ (row_text source row ++ after)) inside before 0 ≡ made token.kind (length value) changes.Keep
  stands_row spells.row_end k value token lexeme there e after f inside code before calm =
      token.token after (ending.settles value after (subst (λ (t : List ℕ). Behind t after) (append-nil value) f)) inside code before calm
  stands_row (spells.row_part {i = i} old row) k value token lexeme there e after f inside code before calm =
      let next = part_there source was k lexeme there (subst (λ (n : ℕ). Old source n (just terminals.Part)) e old) in
      let goes = goes_next source was k value token next in
      ap (λ (t : List ℕ). piece (value ++ t) inside before 0)
      (append_assoc (bytes_at source i) (row_text source row) after
      ∙ ap (λ (n : ℕ). bytes_at source n ++ (row_text source row ++ after)) e)
      ∙ goes.stays (row_text source row ++ after)
      (clear_row row k value token next e after f)
      inside code before calm
  stands_row (spells.row_insert opens inner close row) k value token lexeme there e after f inside code before calm =
      token.token _ (insert_settled value _) inside code before calm

  -- and what may stand behind both may stand behind the row
  pub behind_row : {i j count : ℕ} {inserts : List Part} {tokens : List Tok}
      (row : SpellsRow source terminals.Part terminals.PartInsert 0 i j inserts count tokens) (k : ℕ) (value : List ℕ)
      (token : PartToken source k value) (lexeme : Lexeme) → lexeme_at source k ≡ Some lexeme → i ≡ suc k
      → (after : List ℕ) → Behind (value ++ row_text source row) after
      → Behind (row_text source row) after
  behind_row spells.row_end k value token lexeme there e after f = ending.nothing (value ++ []) after f
  behind_row (spells.row_part {i = i} old row) k value token lexeme there e after f =
      let next = part_there source was k lexeme there (subst (λ (n : ℕ). Old source n (just terminals.Part)) e old) in
      let goes = goes_next source was k value token next in
      behind_part value (bytes_at source i) (row_text source row)
      (subst (λ (n : ℕ). Goes token.long token.power token.kind value (bytes_at source n)) (sym e) goes) after f
  behind_row (spells.row_insert {value = expression} opens inner close row) k value token lexeme there e after f =
      ending.keeps value (sign "{" ∷ (expr_text expression ++ (codes "}" ++ row_text source row))) (sign "#") hash_ends refl after f

  -- ---- one part more

  abbrev part_seen : (i : ℕ) {k : ℕ} → PartToken source k (bytes_at source i) → Seen
  part_seen i token = record {
    gap = [];
    kind = token.kind;
    bytes = bytes_at source i;
    change = changes.Keep;
    spaced = false;
    may_be = terminals.Part ∷ [];
    said = Nothing;
  }

  part_row : {i j count : ℕ} {inserts : List Part} {tokens : List Tok} (old : Old source i (just terminals.Part))
      (row : SpellsRow source terminals.Part terminals.PartInsert 0 (suc i) j inserts count tokens) (k : ℕ)
      (token : PartToken source k (bytes_at source i)) → is_part (sort_of token.kind (bytes_at source i)) ≡ true
      → RowIs Behind source row
      → ((after : List ℕ) → Behind (bytes_at source i ++ row_text source row) after → (inside : Inside) → is_sheet_code inside ≡ true
      → piece (bytes_at source i ++ (row_text source row ++ after)) inside befores.Other 0 ≡ made token.kind (length (bytes_at source i)) changes.Keep)
      → ((after : List ℕ) → Behind (bytes_at source i ++ row_text source row) after → Behind (row_text source row) after)
      → RowIs Behind source (spells.row_part old row)
  part_row {i} old row k token fits more stays follows = record {
    joints = Token (part_seen i token) ∷ more.joints;
    spelling = ap (λ (t : List ℕ). bytes_at source i ++ t) more.spelling;
    seen = ap (λ (t : List Tok). again.sign terminals.Part ∷ t) more.seen;
    parts = part (sort_of token.kind (bytes_at source i)) fits more.parts;
    inserts_so = part_no_insert (sort_of token.kind (bytes_at source i)) fits;
    last = ap (λ (b : Before). behind b more.joints) token.other ∙ more.last;
    run = run_token refl more.run;
    tells = (λ new commented at front after sit. tt, more.tells);
    stand = λ stack after code f. (
      refl,
      token.some,
      (refl, token.seen),
      λ e. absurd (let no : true ≡ false = sym e ∙ token.closed in cc),
      ap (λ (t : List ℕ). piece (bytes_at source i ++ (t ++ after)) (innermost stack) befores.Other 0) more.spelling
          ∙ stays after f (innermost stack) code,
      subst (λ (b : Before). Stand stack b more.joints stack after) (sym token.other)
          (more.stand stack after code (follows after f)),
    );
  }

  -- ---- and a value

  insert_row : {i c j count : ℕ} {value : Expr} {inserts : List Part} {tokens others : List Tok}
      (opens : Old source i (just terminals.PartInsert)) (value_is : Spells source (suc i) c value tokens)
      (close : Old source c (just terminals.InsertEnd))
      (row : SpellsRow source terminals.Part terminals.PartInsert 0 (suc c) j inserts count others)
      → WrittenAs AsRow (expr_text value) tokens → RowIs Behind source row → RowIs Behind source (spells.row_insert opens value_is close row)
  insert_row {i} {c} {j} {count} {value} {inserts} {tokens} {others} opens value_is close row has more =
      let inner = inner_of (expr_text value) tokens has in
      let list = inner.segment.joints in
      let said = behind_insert source c inserts count in
      let said_is : said ≡ said_behind (none inserts) count (lone (head_of source row)) =
      behind_is source c count inserts
      ∙ ap (said_behind (none inserts) count) (behind_text source was row close.lexeme close.there) in record {
        joints = Token (opening befores.Other false terminals.PartInsert Nothing) ∷ (list ++ Token (closing said) ∷ more.joints);
        spelling = ap (λ (t : List ℕ). codes "#{" ++ t)
            (text_append list (Token (closing said) ∷ more.joints)
            ∙ ap (λ (t : List ℕ). t ++ (codes "}" ++ text more.joints)) inner.segment.spelling
            ∙ ap (λ (t : List ℕ). expr_text value ++ (codes "}" ++ t)) more.spelling);
        seen = ap (λ (t : List Tok). again.sign terminals.PartInsert ∷ t)
            (toks_append list (Token (closing said) ∷ more.joints)
            ∙ ap (λ (t : List Tok). t ++ tok terminals.InsertEnd said ∷ toks more.joints) inner.segment.seen
            ∙ ap (λ (t : List Tok). tokens ++ tok terminals.InsertEnd said ∷ t) more.seen);
        parts = subst Parts
            (sym (ap (λ (t : List Written). written sorts.OpenInsert false terminals.PartInsert ∷ t)
            (writtens_append list (Token (closing said) ∷ more.joints)
            ∙ ap (λ (t : List Written). t ++ written_of (Token (closing said)) ∷ writtens more.joints) inner.segment.written)))
            (part_insert (inner_items inner) more.parts);
        inserts_so = refl;
        last = behind_append befores.Other list (Token (closing said) ∷ more.joints) ∙ more.last;
        run = run_more refl;
        tells = (
          λ new commented at front after sit. tt,
          tell_append list (Token (closing said) ∷ more.joints) inner.segment.tells (
            λ new commented at front after sit.
                subst (Says new at) (sym said_is) (says_next new more.run (closing said) commented at front after sit),
            more.tells,
          ),
        );
        stand = λ stack after code f.
            insert_stand stack befores.Other false terminals.PartInsert Nothing said inner more.joints after
            (code_inserts (innermost stack) code) refl
            (more.stand stack after code
            (ending.cuts (codes "#{" ++ expr_text value) (row_text source row) (sign "}") brace_ends (inl refl) after
            (subst (λ (t : List ℕ). Behind t after)
            (sym (append_assoc (codes "#{") (expr_text value) (sign "}" ∷ row_text source row))) f)));
      }

  -- ---- a whole row behind a token

  pub row_is : {i j count : ℕ} {inserts : List Part} {tokens : List Tok}
      (row : SpellsRow source terminals.Part terminals.PartInsert 0 i j inserts count tokens) (k : ℕ) (lexeme : Lexeme)
      → lexeme_at source k ≡ Some lexeme → i ≡ suc k → RowHasValues row → RowIs Behind source row
  row_is spells.row_end k lexeme there e has = record {
    joints = [];
    spelling = refl;
    seen = refl;
    parts = no_part;
    inserts_so = refl;
    last = refl;
    run = run_end;
    tells = tt;
    stand = λ stack after code f. refl;
  }
  row_is (spells.row_part {i = i} old row) k lexeme there e has =
      let next = part_there source was k lexeme there (subst (λ (n : ℕ). Old source n (just terminals.Part)) e old) in
      let (token, fits) = subst (λ (n : ℕ). IsPart (suc k) (bytes_at source n)) (sym e)
      (token_there k next) in
      part_row old row (suc k) token fits (row_is row (suc k) next.lexeme next.there (ap suc e) has)
      (λ after f inside code.
      stands_row row (suc k) (bytes_at source i) token next.lexeme next.there (ap suc e) after f inside code befores.Other refl)
      (λ after f. behind_row row (suc k) (bytes_at source i) token next.lexeme next.there (ap suc e) after f)
  row_is (spells.row_insert {c = c} opens inner close row) k lexeme there e (has, more) =
      insert_row opens inner close row has (row_is row c close.lexeme close.there refl more)
