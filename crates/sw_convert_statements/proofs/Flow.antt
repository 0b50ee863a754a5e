-- `@each`, `@charset`, and `@content` and `@at-root` by themselves.
use Rattle.std.proofs.Common.{◌≡◌, ℕ, suc, Bool, true, false, List, [], ◌∷◌, ◌++◌, map, append-nil, if◌then◌else◌, inl, refl, sym, ◌∙◌, ap, subst, append_assoc, lit<}
use Rattle.std.specs.Prelude.{codes}
use Rattle.sw_text.specs.Names.{dashed}
use Rattle.sw_text_scan.specs.Bytes.{sign, byte}
use Rattle.sw_tokens.specs.declared.pieces.Before.{Before}
use Rattle.sw_tokens.specs.declared.pieces.Before.TheVariants as befores
use Rattle.sw_tokens.specs.declared.token.TokenKind.TheVariants as kinds
use Rattle.sw_tokens.specs.Tokens.{is_spaced}
use Rattle.sw_parse_terminals.specs.Urls.{has_namespace}
use Rattle.sw_parse_terminals.specs.declared.terminal.Terminal.TheVariants as terminals
use Rattle.sw_parse_terminals.specs.Numbers.{just}
use Rattle.sw_parse_lexemes.specs.declared.sort.Sort.{Sort}
use Rattle.sw_parse_lexemes.specs.declared.sort.Sort.TheVariants as sorts
use Rattle.sw_parse_lexemes.specs.declared.state.Mode.TheVariants as modes
use Rattle.sw_parse_lexemes.specs.Classes.{is_name, is_comment}
use Rattle.sw_parse_lexemes.specs.Sorts.{quoted_sort}
use Rattle.sw_parse_table.specs.declared.source.Source.{Source}
use Rattle.sw_parse_table.specs.Sources.{bytes_at}
use Rattle.sw_parse_table.specs.Actions.{name_at, names_at}
use Rattle.sw_convert_spelling.specs.Strings.{string_text}
use Rattle.sw_convert_spelling.proofs.StringTokens as strings
use Rattle.sw_convert_written.specs.Escapes.{ends_unclosed}
use Rattle.sw_convert_written.specs.Expressions.{with_commas}
use Rattle.sw_convert_written.specs.Heads.{then_word}
use Rattle.sw_convert_written.specs.Names.{name_text, dollar_name}
use Rattle.sw_convert_passing.specs.Written.{Written, written, direct, apart}
use Rattle.sw_convert_passing.specs.Values.{dollar, seam}
use Rattle.sw_convert_again.specs.Tokens.{Tok, tok, Old, Dashed}
use Rattle.sw_convert_again.specs.Tokens as again
use Rattle.sw_convert_again.specs.Params.{dollar_tokens}
use Rattle.sw_convert_again.specs.Statements.{SpellsNames, no_names, more_names}
use Rattle.sw_convert_tokens.specs.Written.{Follows, AsRow, WrittenAs}
use Rattle.sw_convert_tokens.specs.Values.{WasRead}
use Rattle.sw_convert_tokens.proofs.Joins as joins
use Rattle.sw_convert_tokens.proofs.Signs.{lone_segment, sign_segment, sign_token}
use Rattle.sw_convert_tokens.proofs.Unclosed.{space_ends, follows_end}
use Rattle.sw_convert_tokens.proofs.Spaces.{space_by, space_text, follows_spaced}
use Rattle.sw_convert_tokens.proofs.Variables.{dollar_ends, variable_name}
use Rattle.sw_convert_heads_passing.specs.Flow.{Names, parted, last_name, more_names as names_more, is_string, each_head as each_told, charset_head}
use Rattle.sw_convert_heads_passing.specs.Heads.{text_head}
use Rattle.sw_convert_heads_passing.specs.Members.{none_given, content_head}
use Rattle.sw_convert_heads_passing.specs.Statements.{flowing, alone, named, belonging}
use Rattle.sw_convert_texts.specs.RawTexts.{SheetSegment}
use Rattle.sw_convert_statements.specs.Segments.{Anything, seams, FrontWritten}
use Rattle.sw_convert_statements.proofs.Segments.{sheet, join, as_text, as_toks, as_passed, as_behind, text_follows, value_pads, padded}
use Rattle.sw_convert_statements.proofs.Keywords.{text_ends, keyword, spaced_word}

-- a variable behind a space
pub record DollarName (source : Source) (i : ℕ) (before : Before) : Type 0 where
  pub sort : Sort
  pub is : is_name sort ≡ true
  pub segment : SheetSegment before (codes " " ++ dollar_name (name_at source i)) (dollar_tokens (name_at source i))
      (dollar true ∷ direct sort terminals.VariableName ∷ []) befores.Other (Follows (dollar_name (name_at source i)))

pub dollar_written : (source : Source) (i : ℕ) → WasRead source → Old source i (just terminals.VariableName)
    → (before : Before) → DollarName source i before
unfolding byte
dollar_written source i was old before =
    let name = variable_name source i was old in
    let text = name_text (dashed (bytes_at source i)) in record {
      sort = name.sort;
      is = name.is;
      segment = sheet
          (joins.as_behind (λ after f. follows_end [] text (sign "$") dollar_ends after f)
          (joins.join
          (sign_segment kinds.Dollar (codes "$") (terminals.Dollar ∷ terminals.DollarNamed ∷ []) before true Always refl refl
          refl (lit< tt)
          (λ inside after code ok. sign_token kinds.Dollar after inside befores.White refl code refl refl))
          name.segment (λ after f. tt)));
    }
  where
    Always : List ℕ → Type 0
    Always after = Unit {0}

-- names with commas between them
record NamesWritten (names : List (List ℕ)) (tokens : List Tok) (before : Before) : Type 0 where
  passed : List Written
  are : Names passed
  segment : SheetSegment before (codes " " ++ with_commas true (map dollar_name names)) tokens passed befores.Other
      (Follows (with_commas true (map dollar_name names)))

comma_segment : SheetSegment befores.Other (codes ",") (again.sign terminals.Comma ∷ [])
    (direct sorts.Comma terminals.Comma ∷ []) befores.Other Anything
comma_segment = sheet (lone_segment (sign ",") (terminals.Comma ∷ []) befores.Other false refl refl refl (λ inside code. refl))

names_written : (source : Source) → WasRead source → {i j k : ℕ} {places : List ℕ} {tokens : List Tok}
    → Old source k (just terminals.VariableName) → SpellsNames source i j places tokens → (before : Before)
    → NamesWritten (name_at source k ∷ names_at source places) (dollar_tokens (name_at source k) ++ tokens) before
names_written source was {k = k} old no_names before =
    let one = dollar_written source k was old before in record {
      passed = _;
      are = last_name one.sort one.is;
      segment = as_text (ap (λ (t : List ℕ). codes " " ++ t) (sym (append-nil (dollar_name (name_at source k)))))
          (as_behind (λ after f. subst (λ (t : List ℕ). Follows t after) (append-nil (dollar_name (name_at source k))) f)
          one.segment);
    }
names_written source was {k = k} old (more_names {i} {places = places} {tokens = tokens} comma sign_of name more) before =
    let one = dollar_written source k was old before in
    let rest = names_written source was name more befores.Other in
    let this = dollar_name (name_at source k) in
    let others = with_commas true (map dollar_name (name_at source (suc (suc i)) ∷ names_at source places)) in record {
      passed = _;
      are = names_more one.sort one.is rest.are;
      segment = as_behind
          (λ after f. follows_end (this ++ codes ",") others (sign " ") space_ends after
          (subst (λ (t : List ℕ). Follows t after) (sym (append_assoc this (codes ",") (codes " " ++ others))) f))
          (join one.segment (join comma_segment rest.segment (λ after f. tt))
          (λ after f. record { stop = refl; closed = refl }));
    }

abbrev each_text : List (List ℕ) → List ℕ → List ℕ
each_text names value = then_word (codes "in ") (codes "@each " ++ with_commas true (map dollar_name names)) ++ value

-- `@each`, its names, `in` and a value
pub each_written : (source : Source) → WasRead source → {i j k : ℕ} {places : List ℕ} {tokens : List Tok}
    → Old source k (just terminals.VariableName) → SpellsNames source i j places tokens
    → {value : List ℕ} {others : List Tok} → WrittenAs AsRow value others
    → FrontWritten modes.Expression (each_text (name_at source k ∷ names_at source places) value)
    (again.sign terminals.AtEach ∷ (dollar_tokens (name_at source k) ++ (tokens ++ again.sign terminals.In ∷ others)))
each_written source was {k = k} {places = places} {tokens = tokens} old names {value} {others} it before calm =
    let all = names_written source was old names befores.Other in
    let one = it befores.Other true refl in
    let texts = with_commas true (map dollar_name (name_at source k ∷ names_at source places)) in
    let head = codes "@each " ++ texts in
    let unclosed = ends_unclosed head in
    let front = as_behind (λ after f. follows_end (codes "@each") texts (sign " ") space_ends after f)
    (join (sheet ((keyword terminals.AtEach sorts.AtEach refl).segment before calm)) all.segment (λ after f. (texts ++ after, inl refl))) in
    let pads = padded unclosed refl (λ u. refl) (value_pads head) front in
    let last = codes "in" ++ (codes " " ++ value) in
    let whole : head ++ (space_by unclosed ++ last) ≡ each_text (name_at source k ∷ names_at source places) value =
    sym (append_assoc head (space_by unclosed ++ codes "in ") value
    ∙ ap (λ (t : List ℕ). head ++ t) (append_assoc (space_by unclosed) (codes "in ") value)) in record {
      passed = (written sorts.AtEach (is_spaced before) terminals.AtEach
          ∷ (all.passed ++ parted unclosed (apart sorts.In terminals.In ∷ []))) ++ one.passed;
      first = refl;
      front = flowing (each_told unclosed all.are) (one.told modes.Expression refl).1;
      end = befores.Other;
      loose = λ u. refl;
      segment = as_behind
          (λ after e. follows_end (codes "in") value (sign " ") space_ends after
          (follows_spaced head last unclosed after (subst (λ (t : List ℕ). Follows t after) (sym whole) (text_follows _ after e))))
          (as_text (space_text [] head last unclosed ∙ whole)
          (as_toks (ap (λ (l : List Tok). again.sign terminals.AtEach ∷ l)
          (append_assoc (dollar_tokens (name_at source k)) tokens (again.sign terminals.In ∷ others)))
          (as_passed (between (written sorts.AtEach (is_spaced before) terminals.AtEach ∷ all.passed) unclosed (apart sorts.In terminals.In) one.passed)
          (join pads.segment (join (sheet (spaced_word sorts.In refl pads.end)) (sheet one.segment) (λ after f. (value ++ after, refl)))
          (λ after f. (last ++ after, refl))))));
    }
  where
    between : (head : List Written) (unclosed : Bool) (one : Written) (rest : List Written)
        → (head ++ seams unclosed) ++ one ∷ rest ≡ (head ++ parted unclosed (one ∷ [])) ++ rest
    between head true one rest =
        append_assoc head (seam ∷ []) (one ∷ rest) ∙ sym (append_assoc head (seam ∷ one ∷ []) rest)
    between head false one rest =
        ap (λ (l : List Written). l ++ one ∷ rest) (append-nil head) ∙ sym (append_assoc head (one ∷ []) rest)

-- ---- `@charset`

string_sort : (text : List ℕ) → (is_string (quoted_sort text) ≡ true) × (is_comment (quoted_sort text) ≡ false)
string_sort text = go (has_namespace text)
  where
    go : (t : Bool)
        → (is_string (if t then sorts.Quoted else sorts.Unnamed) ≡ true)
        × (is_comment (if t then sorts.Quoted else sorts.Unnamed) ≡ false)
    go true = (refl, refl)
    go false = (refl, refl)

utf : List ℕ
utf = codes "UTF-8"

pub charset_written : FrontWritten modes.Expression (codes "@charset \"UTF-8\"")
    (again.sign terminals.AtCharset ∷ again.sign terminals.Plain ∷ [])
unfolding utf byte
charset_written before calm = record {
  passed = written sorts.AtCharset (is_spaced before) terminals.AtCharset ∷ apart (quoted_sort utf) terminals.Plain ∷ [];
  first = refl;
  front = alone (charset_head (quoted_sort utf) (string_sort utf).0);
  end = befores.Other;
  loose = λ u. refl;
  segment = as_behind (λ after e. tt)
      (join (sheet ((keyword terminals.AtCharset sorts.AtCharset refl).segment before calm))
      (sheet
      (sign_segment (kinds.Quoted utf) (string_text utf) (terminals.Plain ∷ []) befores.Other true Anything refl
      (string_sort utf).1 refl (lit< tt)
      (λ inside after code ok. strings.string_token utf inside befores.White after refl code)))
      (λ after ok. (string_text utf ++ after, inl refl)));
}

-- ---- at-rules by themselves

pub content_written : FrontWritten modes.Content (codes "@content") (again.sign terminals.AtContent ∷ [])
content_written before calm = record {
  passed = written sorts.AtContent (is_spaced before) terminals.AtContent ∷ [];
  first = refl;
  front = belonging (content_head none_given);
  end = befores.Other;
  loose = λ u. refl;
  segment = as_behind (λ after e. text_ends (codes "@content") after (keyword terminals.AtContent sorts.AtContent refl).closed e)
      (sheet ((keyword terminals.AtContent sorts.AtContent refl).segment before calm));
}

pub at_root_written : FrontWritten modes.Raw (codes "@at-root") (again.sign terminals.AtRoot ∷ [])
at_root_written before calm = record {
  passed = written sorts.AtRoot (is_spaced before) terminals.AtRoot ∷ [];
  first = refl;
  front = named (text_head sorts.AtRoot refl);
  end = befores.Other;
  loose = λ u. refl;
  segment = as_behind (λ after e. text_ends (codes "@at-root") after (keyword terminals.AtRoot sorts.AtRoot refl).closed e) (sheet ((keyword terminals.AtRoot sorts.AtRoot refl).segment before calm));
}
