-- Urls of loads, and `@use`.
use Rattle.std.proofs.Common.{◌≡◌, ◌<◌, ℕ, Bool, true, false, if◌then◌else◌, List, [], ◌∷◌, ◌++◌, length, append-nil, inl, refl, sym, ◌∙◌, ap, arith, lit<, subst, append_assoc, suc}
use Rattle.std.specs.Prelude.{codes}
use Rattle.sw_text_scan.specs.Bytes.{sign, byte, is_white}
use Rattle.sw_tree.specs.declared.load.Given.{Given}
use Rattle.sw_tree.specs.declared.load.Namespace.{Namespace}
use Rattle.sw_tokens.specs.declared.pieces.Before.{Before}
use Rattle.sw_tokens.specs.declared.pieces.Before.TheVariants as befores
use Rattle.sw_tokens.specs.declared.token.TokenKind.TheVariants as kinds
use Rattle.sw_tokens.specs.Tokens.{is_spaced}
use Rattle.sw_parse_terminals.specs.Urls.{has_namespace}
use Rattle.sw_parse_terminals.specs.declared.terminal.Terminal.TheVariants as terminals
use Rattle.sw_parse_lexemes.specs.declared.sort.Sort.{Sort}
use Rattle.sw_parse_lexemes.specs.declared.sort.Sort.TheVariants as sorts
use Rattle.sw_parse_lexemes.specs.declared.state.Mode.TheVariants as modes
use Rattle.sw_parse_lexemes.specs.Classes.{is_comment}
use Rattle.sw_parse_lexemes.specs.Sorts.{quoted_sort, sort_of}
use Rattle.sw_parse_table.specs.declared.source.Source.{Source}
use Rattle.sw_parse_table.specs.Sources.{bytes_at, decoded_at}
use Rattle.sw_convert_spelling.specs.Strings.{escaped, string_text}
use Rattle.sw_convert_spelling.proofs.StringTokens as strings
use Rattle.sw_convert_spelling.proofs.MovedRuns.{first_byte}
use Rattle.sw_convert_written.specs.Heads.{as_text, configured}
use Rattle.sw_convert_passing.specs.Written.{Written, written, apart}
use Rattle.sw_convert_again.specs.Tokens.{Tok, tok, Bytes, Decoded}
use Rattle.sw_convert_again.specs.Tokens as again
use Rattle.sw_convert_again.specs.Loads.{SpellsNamespace, SpellsConfiguration}
use Rattle.sw_convert_again.specs.Loads as spells_loads
use Rattle.sw_convert_again.proofs.Tokens.{one_byte}
use Rattle.sw_convert_tokens.specs.Values.{WasRead}
use Rattle.sw_convert_tokens.specs.Written.{Follows, is_calm}
use Rattle.sw_convert_tokens.proofs.Unclosed.{space_ends, follows_end}
use Rattle.sw_convert_tokens.proofs.Signs.{token_segment, sign_segment, sign_token}
use Rattle.sw_convert_tokens.proofs.Leaves.{says_decoded}
use Rattle.sw_convert_tokens.proofs.Decodings.{decoded_there}
use Rattle.sw_convert_heads_passing.specs.Loads.{is_url, UseName, no_name, as_name, as_star, use_head}
use Rattle.sw_convert_heads_passing.specs.Statements.{loading}
use Rattle.sw_convert_texts.specs.RawTexts.{SheetSegment}
use Rattle.sw_convert_texts.proofs.OldNames.{named_there}
use Rattle.sw_convert_statements.specs.Segments.{Anything, FrontWritten}
use Rattle.sw_convert_statements.specs.Fronts.{ValuesAreKnown, is_namespace}
use Rattle.sw_convert_statements.proofs.Callables.{name_ends}
use Rattle.sw_convert_statements.proofs.Configurations.{configured_written}
use Rattle.sw_convert_statements.proofs.OneName.{name_segment, name_sort}
use Rattle.sw_convert_statements.proofs.Segments.{sheet, join, as_behind, text_follows}
use Rattle.sw_convert_statements.proofs.Segments as segments
use Rattle.sw_convert_statements.proofs.Keywords.{keyword, spaced_word}

pub quoted_told : (text : List ℕ) → (is_url true (quoted_sort text) ≡ true) × (is_comment (quoted_sort text) ≡ false)
quoted_told text = go (has_namespace text)
  where
    go : (t : Bool)
        → (is_url true (if t then sorts.Quoted else sorts.Unnamed) ≡ true)
        × (is_comment (if t then sorts.Quoted else sorts.Unnamed) ≡ false)
    go true = (refl, refl)
    go false = (refl, refl)

quoted_named : (text : List ℕ) → has_namespace text ≡ true → is_url false (quoted_sort text) ≡ true
quoted_named text n = ap (λ (t : Bool). is_url false (if t then sorts.Quoted else sorts.Unnamed)) n

-- the url behind a space
pub url_segment : (source : Source) (i : ℕ) → WasRead source → (before : Before)
    → SheetSegment before (codes " " ++ string_text (decoded_at source i))
    (tok terminals.LoadUrl (Decoded (decoded_at source i)) ∷ [])
    (apart (quoted_sort (decoded_at source i)) terminals.LoadUrl ∷ []) befores.Other Anything
url_segment source i was before =
    let text = decoded_at source i in
    sheet
    (token_segment (kinds.Quoted text) (string_text text) (terminals.LoadUrl ∷ []) (Decoded text) before true Anything refl
    (quoted_told text).1 (ap is_white (first_byte (sign "\"") (escaped text ++ codes "\""))) (some (escaped text ++ codes "\""))
    (says_decoded text _ refl)
    (λ inside after code ok. strings.string_token text inside befores.White after (decoded_there source was i) code))
  where
    some : (xs : List ℕ) → 0 < length (sign "\"" ∷ xs)
    some xs = omega arith

star_segment : (before : Before) → SheetSegment before (codes " *") (again.sign terminals.Star ∷ [])
    (apart sorts.Star terminals.Star ∷ []) befores.Other Anything
unfolding byte
star_segment before =
    sheet
    (sign_segment kinds.Star (codes "*") (terminals.Star ∷ []) before true Anything refl refl refl (lit< tt)
    (λ inside after code ok. sign_token kinds.Star after inside befores.White refl code refl refl))

-- ---- `@use`

-- up to its configuration
record IsUse (text : List ℕ) (tokens : List Tok) (before : Before) : Type 0 where
  named : Bool
  sort : Sort
  is : is_url named sort ≡ true
  name : List Written
  are : UseName named name
  segment : SheetSegment before text tokens
      (written sorts.AtUse (is_spaced before) terminals.AtUse ∷ apart sort terminals.LoadUrl ∷ name) befores.Other
      (Follows text)

module _ (source : Source) (i : ℕ) (was : WasRead source) where
  abbrev address : List ℕ
  address = string_text (decoded_at source i)

  abbrev address_token : Tok
  address_token = tok terminals.LoadUrl (Decoded (decoded_at source i))

  use_of : {j k : ℕ} {namespace : Namespace} {tokens : List Tok}
      → (name : SpellsNamespace source i j k namespace tokens) → is_namespace source name ≡ true → (before : Before)
      → is_calm before ≡ true
      → IsUse (codes "@use " ++ (address ++ as_text namespace)) (again.sign terminals.AtUse ∷ address_token ∷ tokens) before
  use_of spells_loads.default_namespace t before calm = record {
    named = false;
    sort = quoted_sort (decoded_at source i);
    is = quoted_named (decoded_at source i) t;
    name = [];
    are = no_name;
    segment = segments.as_text (ap (λ (x : List ℕ). codes "@use " ++ x) (sym (append-nil address)))
        (as_behind (λ after f. tt)
        (join (sheet ((keyword terminals.AtUse sorts.AtUse refl).segment before calm)) (url_segment source i was befores.Other)
        (λ after ok. (address ++ after, inl refl))));
  }
  use_of (spells_loads.written_namespace {i = k} as_word name) t before calm =
      let text = bytes_at source (suc k) in
      let it = (named_there source was (suc k) name).stood in
      let last = name_segment text it terminals.Named (Bytes 1 text) befores.Other true refl
      (λ new at same. one_byte new at ∙ same) in record {
        named = true;
        sort = quoted_sort (decoded_at source i);
        is = (quoted_told (decoded_at source i)).0;
        name = _;
        are = as_name (sort_of it.kind text) (name_sort text it);
        segment = as_behind
            (λ after f. name_ends text after
            (follows_end (codes "@use " ++ (address ++ codes " as")) text (sign " ") space_ends after
            (subst (λ (x : List ℕ). Follows x after)
            (ap (λ (x : List ℕ). codes "@use " ++ x) (sym (append_assoc address (codes " as") (codes " " ++ text)))) f)))
            (join (sheet ((keyword terminals.AtUse sorts.AtUse refl).segment before calm))
            (join (url_segment source i was befores.Other)
            (join (sheet (spaced_word sorts.As refl befores.Other)) (sheet last) (λ after ok. (text ++ after, refl))) (λ after ok. tt))
            (λ after ok. ((address ++ (codes " as " ++ text)) ++ after, inl refl)));
      }
  use_of (spells_loads.without_namespace as_word star) t before calm = record {
    named = true;
    sort = quoted_sort (decoded_at source i);
    is = (quoted_told (decoded_at source i)).0;
    name = _;
    are = as_star;
    segment = as_behind (λ after f. tt)
        (join (sheet ((keyword terminals.AtUse sorts.AtUse refl).segment before calm))
        (join (url_segment source i was befores.Other)
        (join (sheet (spaced_word sorts.As refl befores.Other)) (star_segment befores.Other) (λ after ok. (codes "*" ++ after, refl)))
        (λ after ok. tt)) (λ after ok. ((address ++ codes " as *") ++ after, inl refl)));
  }

  pub use_written : ValuesAreKnown source → {j k m : ℕ} {namespace : Namespace} {givens : List Given}
      {tokens others : List Tok} → (name : SpellsNamespace source i j k namespace tokens) → is_namespace source name ≡ true
      → SpellsConfiguration source false k m givens others
      → FrontWritten modes.Use (configured givens (codes "@use " ++ (address ++ as_text namespace)))
      (again.sign terminals.AtUse ∷ address_token ∷ (tokens ++ others))
  use_written values name t settings before calm =
      let it = use_of name t before calm in
      let all = configured_written was values it.segment settings in record {
        passed = written sorts.AtUse (is_spaced before) terminals.AtUse ∷ apart it.sort terminals.LoadUrl
            ∷ (it.name ++ all.configuration);
        first = refl;
        front = loading (use_head it.sort it.is it.are all.are);
        end = befores.Other;
        loose = λ u. refl;
        segment = as_behind (λ after e. text_follows _ after e) all.segment;
      }
