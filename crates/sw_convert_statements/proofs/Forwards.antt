-- `@forward` with a prefix, with members that are shown or hidden, and with a configuration.
use Rattle.std.proofs.Common.{◌≡◌, ℕ, suc, true, false, List, [], ◌∷◌, ◌++◌, map, Option, append-nil, inl, refl, sym, ◌∙◌, ap, subst, append_assoc, lit<}
use Rattle.std.specs.Prelude.{◌-◌, ◌==◌, length, codes}
use Rattle.sw_text_scan.specs.declared.signs.TheConstants.{CARRIAGE_RETURN}
use Rattle.sw_text_scan.specs.Bytes.{sign, byte}
use Rattle.sw_tree.specs.declared.load.Filter.{Filter}
use Rattle.sw_tree.specs.declared.load.Given.{Given}
use Rattle.sw_tree.specs.declared.load.Member.{Member}
use Rattle.sw_tokens.specs.declared.pieces.Before.{Before}
use Rattle.sw_tokens.specs.declared.pieces.Before.TheVariants as befores
use Rattle.sw_tokens.specs.declared.token.TokenKind.TheVariants as kinds
use Rattle.sw_tokens.specs.Tokens.{is_spaced}
use Rattle.sw_parse_terminals.specs.declared.terminal.Terminal.TheVariants as terminals
use Rattle.sw_parse_lexemes.specs.declared.sort.Sort.{Sort}
use Rattle.sw_parse_lexemes.specs.declared.sort.Sort.TheVariants as sorts
use Rattle.sw_parse_lexemes.specs.declared.state.Mode.TheVariants as modes
use Rattle.sw_parse_lexemes.specs.Sorts.{quoted_sort, sort_of}
use Rattle.sw_parse_table.specs.declared.source.Source.{Source}
use Rattle.sw_parse_table.specs.Sources.{bytes_at, decoded_at}
use Rattle.sw_convert_spelling.specs.Strings.{string_text}
use Rattle.sw_convert_spelling.proofs.Choices.{right_no}
use Rattle.sw_convert_written.specs.Escapes.{ends_unclosed}
use Rattle.sw_convert_written.specs.Expressions.{with_commas}
use Rattle.sw_convert_written.specs.Heads.{prefix_text, member_text, filter_text, configured}
use Rattle.sw_convert_passing.specs.Written.{Written, written, direct, apart}
use Rattle.sw_convert_again.specs.Tokens.{Tok, tok, Bytes, Decoded}
use Rattle.sw_convert_again.specs.Tokens as again
use Rattle.sw_convert_again.specs.Loads.{SpellsPrefix, SpellsMember, SpellsMoreMembers, SpellsFilter, SpellsConfiguration}
use Rattle.sw_convert_again.specs.Loads as spells
use Rattle.sw_convert_again.proofs.Tokens.{one_byte}
use Rattle.sw_convert_tokens.specs.Joints.{Segment}
use Rattle.sw_convert_tokens.specs.Written.{Follows, is_calm}
use Rattle.sw_convert_tokens.specs.Values.{WasRead}
use Rattle.sw_convert_tokens.proofs.Joins.{join, as_behind}
use Rattle.sw_convert_tokens.proofs.Signs.{Anything, sign_segment, sign_token}
use Rattle.sw_convert_tokens.proofs.Stops.{Behind}
use Rattle.sw_convert_tokens.proofs.Unclosed.{space_ends, follows_end}
use Rattle.sw_convert_heads_passing.specs.Loads.{is_url, ForwardPrefix, MemberName, MemberNames, ForwardFilter, no_prefix, as_prefix, named_member, variable_member, one_member, more_members, no_filter, shown, hidden, forward_head}
use Rattle.sw_convert_heads_passing.specs.Statements.{loading}
use Rattle.sw_convert_texts.specs.RawTexts.{SheetSegment}
use Rattle.sw_convert_statements.specs.Segments.{FrontWritten}
use Rattle.sw_convert_texts.proofs.OldNames.{prefix_there}
use Rattle.sw_convert_statements.specs.Fronts.{ValuesAreKnown}
use Rattle.sw_convert_statements.proofs.Callables.{name_ends, member_written}
use Rattle.sw_convert_statements.proofs.ForwardConfigurations.{forward_configured}
use Rattle.sw_convert_statements.proofs.Keywords.{keyword, spaced_word}
use Rattle.sw_convert_statements.proofs.Loads.{quoted_told, url_segment}
use Rattle.sw_convert_statements.proofs.OneName.{name_segment, name_sort}
use Rattle.sw_convert_statements.proofs.Params.{comma_segment, behind_comma, variable_at}
use Rattle.sw_convert_statements.proofs.Segments.{sheet, text_follows}
use Rattle.sw_convert_statements.proofs.Segments as segments

nothing : {P : List ℕ → Type 0} → Segment befores.Other [] [] [] befores.Other P
nothing = record {
  joints = [];
  spelling = refl;
  seen = refl;
  written = refl;
  last = refl;
  tells = tt;
  stand = λ stack after code ok. refl;
}

-- ---- the prefix

record IsPrefix (text : List ℕ) (tokens : List Tok) : Type 0 where
  passed : List Written
  are : ForwardPrefix passed
  segment : Segment befores.Other text tokens passed befores.Other Anything

before_star : (name rest : List ℕ) → Behind name (codes "*" ++ rest)
unfolding byte
before_star name rest = record {
  name = refl;
  slash = refl;
  feed = right_no (byte name (length name - 1) == CARRIAGE_RETURN) _ refl;
  closed = refl;
  range = λ e. absurd (let wrong : false ≡ true = e in cc);
  url = λ e. absurd (let wrong : false ≡ true = e in cc);
}

star_segment : Segment befores.Other (codes "*") (again.sign terminals.PrefixStar ∷ [])
    (direct sorts.Star terminals.PrefixStar ∷ []) befores.Other Anything
unfolding byte
star_segment =
    sign_segment kinds.Star (codes "*") (terminals.PrefixStar ∷ []) befores.Other false Anything refl refl refl (lit< tt)
    (λ inside after code ok. sign_token kinds.Star after inside befores.Other refl code refl refl)

prefix_written : (source : Source) → WasRead source → {i j : ℕ} {prefix : Option (List ℕ)} {tokens : List Tok}
    → (it : SpellsPrefix source i j prefix tokens) → IsPrefix (prefix_text prefix) tokens
prefix_written source was spells.no_prefix = record { passed = []; are = no_prefix; segment = nothing }
prefix_written source was (spells.some_prefix {i} as_word name star) =
    let text = bytes_at source (suc i) in
    let it = (prefix_there source was (suc i) name).stood in record {
      passed = _;
      are = as_prefix (sort_of it.kind text) (name_sort text it);
      segment = join (spaced_word sorts.As refl befores.Other)
          (join
          (name_segment text it terminals.Prefix (Bytes 1 text) befores.Other true refl (λ new at same. one_byte new at ∙ same))
          star_segment (λ after ok. before_star text after))
          (λ after ok. ((text ++ codes "*") ++ after, refl));
    }

-- ---- members

record IsNamed (text : List ℕ) (tokens : List Tok) : Type 0 where
  passed : List Written
  are : MemberName passed
  segment : Segment befores.Other (codes " " ++ text) tokens passed befores.Other (Follows text)

member_named : (source : Source) → WasRead source → {i j : ℕ} {member : Member} {tokens : List Tok}
    → (it : SpellsMember source i j member tokens) → IsNamed (member_text member) tokens
member_named source was (spells.named_member {i} old) =
    let name = member_written source i was old in record {
      passed = _;
      are = named_member name.sort name.is;
      segment = as_behind (λ after f. name_ends _ after f) name.segment;
    }
member_named source was (spells.variable_member {i} sign_of old) =
    let name = variable_at source was (suc i) old true in
    record { passed = _; are = variable_member name.sort name.is; segment = name.segment }

record AreNamed (text : List ℕ) (tokens : List Tok) : Type 0 where
  passed : List Written
  are : MemberNames passed
  segment : Segment befores.Other (codes " " ++ text) tokens passed befores.Other (Follows text)

same_named : {xs ys : List ℕ} {ks ls : List Tok} → xs ≡ ys → ks ≡ ls → AreNamed xs ks → AreNamed ys ls
same_named {xs} {ys} {ks} {ls} e f it =
    subst (λ (t : List Tok). AreNamed ys t) f (subst (λ (t : List ℕ). AreNamed t ks) e it)

more_named : (source : Source) → WasRead source → {i j : ℕ} {members : List Member} {ks others : List Tok}
    {first : List ℕ} → IsNamed first ks → (more : SpellsMoreMembers source i j members others)
    → AreNamed (first ++ with_commas false (map member_text members)) (ks ++ others)
more_named source was {ks = ks} {first = first} one spells.no_more_members =
    same_named (sym (append-nil first)) (sym (append-nil ks))
    (record { passed = one.passed; are = one_member one.are; segment = one.segment })
more_named source was {first = first} one
    (spells.more_members {member = member} {members = members} comma it more) =
    let rest = more_named source was (member_named source was it) more in
    let text = member_text member ++ with_commas false (map member_text members) in record {
      passed = _;
      are = more_members one.are rest.are;
      segment = as_behind (λ after f. behind_comma first text after f)
          (join one.segment (join comma_segment rest.segment (λ after ok. tt))
          (λ after ok. record { stop = refl; closed = refl }));
    }

-- ---- the members that are shown or hidden

record IsFilter (text : List ℕ) (tokens : List Tok) : Type 0 where
  passed : List Written
  are : ForwardFilter passed
  last : List ℕ
  ends : (front after : List ℕ) → Follows (front ++ text) after → Follows last after
  segment : Segment befores.Other text tokens passed befores.Other (Follows last)

filter_written : (source : Source) → WasRead source → {i j : ℕ} {filter : Filter} {tokens : List Tok}
    → (it : SpellsFilter source i j filter tokens) → IsFilter (filter_text filter) tokens
unfolding ends_unclosed
filter_written source was spells.no_filter = record {
  passed = [];
  are = no_filter;
  last = [];
  ends = λ front after f. record { stop = f.stop; closed = right_no _ _ refl };
  segment = nothing;
}
filter_written source was (spells.shown {member = member} {members = members} old one more) =
    let names = more_named source was (member_named source was one) more in
    let text = member_text member ++ with_commas false (map member_text members) in record {
      passed = _;
      are = shown names.are;
      last = text;
      ends = λ front after f.
          follows_end (front ++ codes " show") text (sign " ") space_ends after
          (subst (λ (x : List ℕ). Follows x after) (sym (append_assoc front (codes " show") (codes " " ++ text))) f);
      segment = join (spaced_word sorts.Show refl befores.Other) names.segment (λ after ok. (text ++ after, refl));
    }
filter_written source was (spells.hidden {member = member} {members = members} old one more) =
    let names = more_named source was (member_named source was one) more in
    let text = member_text member ++ with_commas false (map member_text members) in record {
      passed = _;
      are = hidden names.are;
      last = text;
      ends = λ front after f.
          follows_end (front ++ codes " hide") text (sign " ") space_ends after
          (subst (λ (x : List ℕ). Follows x after) (sym (append_assoc front (codes " hide") (codes " " ++ text))) f);
      segment = join (spaced_word sorts.Hide refl befores.Other) names.segment (λ after ok. (text ++ after, refl));
    }

-- ---- all of it

-- up to its configuration
record IsForward (text : List ℕ) (tokens : List Tok) (before : Before) : Type 0 where
  sort : Sort
  is : is_url true sort ≡ true
  prefix : List Written
  filter : List Written
  renamed : ForwardPrefix prefix
  members : ForwardFilter filter
  segment : SheetSegment before text tokens
      (written sorts.AtForward (is_spaced before) terminals.AtForward ∷ apart sort terminals.LoadUrl ∷ (prefix ++ filter))
      befores.Other (Follows text)

module _ (source : Source) (i : ℕ) (was : WasRead source) where
  abbrev address : List ℕ
  address = string_text (decoded_at source i)

  abbrev address_token : Tok
  address_token = tok terminals.LoadUrl (Decoded (decoded_at source i))

  forward_of : {j k m : ℕ} {prefix : Option (List ℕ)} {filter : Filter} {tokens others : List Tok}
      → (renamed : SpellsPrefix source j k prefix tokens) → (members : SpellsFilter source k m filter others)
      → (before : Before)
      → is_calm before ≡ true
      → IsForward (codes "@forward " ++ (address ++ (prefix_text prefix ++ filter_text filter)))
      (again.sign terminals.AtForward ∷ address_token ∷ (tokens ++ others)) before
  forward_of {prefix = prefix} {filter = filter} renamed members before calm =
      let one = prefix_written source was renamed in
      let two = filter_written source was members in
      let tail = prefix_text prefix ++ filter_text filter in
      let front = codes "@forward " ++ (address ++ prefix_text prefix) in
      let whole : front ++ filter_text filter ≡ codes "@forward " ++ (address ++ tail) =
      ap (λ (x : List ℕ). codes "@forward " ++ x) (append_assoc address (prefix_text prefix) (filter_text filter)) in record {
        sort = quoted_sort (decoded_at source i);
        is = (quoted_told (decoded_at source i)).0;
        prefix = one.passed;
        filter = two.passed;
        renamed = one.are;
        members = two.are;
        segment = segments.as_behind
            (λ after f. two.ends front after (subst (λ (x : List ℕ). Follows x after) (sym whole) f))
            (segments.join (sheet ((keyword terminals.AtForward sorts.AtForward refl).segment before calm))
            (segments.join (url_segment source i was befores.Other)
            (sheet (join one.segment two.segment (λ after ok. tt))) (λ after ok. tt))
            (λ after ok. ((address ++ tail) ++ after, inl refl)));
      }

  pub forward_written : ValuesAreKnown source → {j k m l : ℕ} {prefix : Option (List ℕ)} {filter : Filter}
      {givens : List Given} {tokens others more : List Tok} → (renamed : SpellsPrefix source j k prefix tokens)
      → (members : SpellsFilter source k m filter others) → SpellsConfiguration source true m l givens more
      → FrontWritten modes.Forward
      (configured givens (codes "@forward " ++ (address ++ (prefix_text prefix ++ filter_text filter))))
      (again.sign terminals.AtForward ∷ address_token ∷ (tokens ++ (others ++ more)))
  forward_written values {tokens = tokens} {others = others} {more = more} renamed members settings before calm =
      let it = forward_of renamed members before calm in
      let all = forward_configured was values it.segment settings in
      let head = written sorts.AtForward (is_spaced before) terminals.AtForward in
      let url = apart it.sort terminals.LoadUrl in record {
        passed = head ∷ url ∷ (it.prefix ++ (it.filter ++ all.configuration));
        first = refl;
        front = loading (forward_head it.sort it.is it.renamed it.members all.are);
        end = befores.Other;
        loose = λ u. refl;
        segment = segments.as_behind (λ after e. text_follows _ after e)
            (segments.as_toks
            (ap (λ (l : List Tok). again.sign terminals.AtForward ∷ address_token ∷ l) (append_assoc tokens others more))
            (segments.as_passed
            (ap (λ (l : List Written). head ∷ url ∷ l) (append_assoc it.prefix it.filter all.configuration)) all.segment));
      }
