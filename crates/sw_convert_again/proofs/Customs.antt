-- Custom properties are read again: their names, and raw text where there is any.
use Rattle.std.proofs.Common.{◌≡◌, ℕ, suc, ◌+◌, List, [], ◌∷◌, ◌++◌, Option, Some, None, inl, inr, refl, sym, ◌∙◌, ap, subst, arith}
use Rattle.sw_parse_grammar.specs.Grammar.{Grammar, skip, seq, many, build}
use Rattle.sw_tree.specs.declared.statement.Custom.{Custom}
use Rattle.sw_tree.specs.declared.statement.Statement.TheVariants as statements
use Rattle.sw_tree.specs.declared.text.Text.{Text}
use Rattle.sw_parse_terminals.specs.declared.terminal.Terminal.{Terminal}
use Rattle.sw_parse_terminals.specs.declared.terminal.Terminal.TheVariants as terminals
use Rattle.sw_parse_terminals.specs.Numbers.{just}
use Rattle.sw_parse_table.specs.declared.source.Source.{Source}
use Rattle.sw_parse_table.specs.Parts.{Part, Form, States, Texts}
use Rattle.sw_parse_table.specs.Sources.{from_at, span_between, parts_between, text_between}
use Rattle.sw_parse_table.specs.Values.{to_text}
use Rattle.sw_parse_table.specs.Actions.{to_custom}
use Rattle.sw_parse_table.specs.Expressions.{word_part, part_insert, expr}
use Rattle.sw_parse_table.specs.Statements.{optional_raw, custom_name, custom}
use Rattle.sw_convert_alike.specs.Expressions.{LikeParts, LikeText}
use Rattle.sw_convert_alike.specs.Statements.{LikeOption}
use Rattle.sw_convert_alike.specs.Statements as alike
use Rattle.sw_convert_again.specs.Tokens.{Tok, tok, sign, Stands}
use Rattle.sw_convert_again.specs.Spells.{from_start}
use Rattle.sw_convert_again.specs.Again.{Reads, Again}
use Rattle.sw_convert_again.specs.Statements.{SpellsName, name_row, SpellsOptionalRaw, no_raw, some_raw, ended, custom_line}
use Rattle.sw_convert_again.specs.Claims.{StatementAgain}
use Rattle.sw_convert_again.proofs.Tokens.{old_of, is_of, split}
use Rattle.sw_convert_again.proofs.Rows.{Plainly, said_first}
use Rattle.sw_convert_again.proofs.Words.{WordRow, go_on}
use Rattle.sw_convert_again.proofs.Values.{values_again}
use Rattle.sw_convert_again.proofs.RawTexts.{raw_texts_again}
use Rattle.sw_convert_again.proofs.Statements.{was_ended, is_ended}

-- a name that begins with a token of its own
abbrev pub name_of : Terminal → Source → Grammar Part Form
name_of first source = build (to_text source) (seq (skip (just first)) (many (word_part source)))

module _ (source written : Source) (n : ℕ) where
  pub deep : (m : ℕ) → n ≡ suc m → Again source written m expr
  deep m e = values_again source written m

  pub record NameAgain (first : Terminal) (i j : ℕ) (w : List Part) : Type 0 where
    pub values : List Part
    pub is : w ≡ Texts (text_between source i j values) ∷ []
    pub tokens : List Tok
    pub spells : SpellsName source first i j (parts_between source i j values) tokens
    pub back : (p q : ℕ) → Stands written p tokens q
        → (found : List Part) × Reads written n (name_of first written) p q (Texts (text_between written p q found) ∷ [])
        × LikeParts (parts_between source i j values) (parts_between written p q found)

  pub name_again : (first : Terminal) → Plainly first → (i j : ℕ) (w : List Part)
      → Reads source n (name_of first source) i j w → NameAgain first i j w
  unfolding word_part part_insert
  name_again first plainly i j w (u, (k, u1, u2, (m, e1, e2), row, e3), e4) =
      let rest : WordRow source written n deep (suc i) j u2 =
      subst (λ (x : ℕ). WordRow source written n deep x j u2) e1 (go_on source written n deep row) in
      let token = tok first (from_start source i u2 (suc rest.count)) in record {
        values = u2;
        is = e4 ∙ ap (to_text source i j) (e3 ∙ ap (λ (x : List Part). x ++ u2) e2);
        tokens = token ∷ rest.tokens;
        spells = name_row (old_of source i (just first) plainly.here m) rest.spells;
        back = λ p q stand.
            let r = rest.back (suc p) q stand.1 in (
              r.found,
              (
                r.found,
                (
                  suc p,
                  [],
                  r.found,
                  (is_of written p token (just first) stand.0 plainly.own, refl, refl),
                  r.reads,
                  refl,
                ),
                refl,
              ),
              r.parts (from_at source i) i (from_at written p) p
                  (said_first source written i p rest.stop r.stop' u2 (suc rest.count) stand.0.said
                  (let a : rest.stop ≡ i + suc rest.count = omega (arith, rest.at) in a)
                  (let b : r.stop' ≡ p + suc rest.count = omega (arith, r.at) in b)),
            );
      }

  -- raw text where there is any
  abbrev pub raw_part : Option Text → List Part
  raw_part None = []
  raw_part (Some text) = Texts text ∷ []

  pub record OptionalRawAgain (i j : ℕ) (w : List Part) : Type 0 where
    pub value : Option Text
    pub is : w ≡ raw_part value
    pub tokens : List Tok
    pub spells : SpellsOptionalRaw source i j value tokens
    pub back : (p q : ℕ) → Stands written p tokens q
        → (found : Option Text) × Reads written n (optional_raw written) p q (raw_part found) × LikeOption LikeText value found

  pub optional_raw_again : (i j : ℕ) (w : List Part) → Reads source n (optional_raw source) i j w → OptionalRawAgain i j w
  unfolding optional_raw
  optional_raw_again i j w (inl d) =
      let one = raw_texts_again source written n i j w d in record {
        value = Some (text_between source i j one.values);
        is = one.is;
        tokens = _;
        spells = some_raw one.spells;
        back = λ p q stand. let (found, reads, same) = one.back p q stand in
            (Some (text_between written p q found), inl reads, same);
      }
  optional_raw_again i j w (inr (e1, e2)) = record {
    value = None;
    is = e2;
    tokens = [];
    spells = subst (λ (x : ℕ). SpellsOptionalRaw source i x None []) (sym e1) no_raw;
    back = λ p q e. (None, inr (sym e, refl), tt);
  }

  custom_is : (s : Source) (at behind : ℕ) (name : Text) (value : Option Text)
      → to_custom s at behind (Texts name ∷ raw_part value)
      ≡ States (statements.Custom (record { property = name; value = value; span = span_between s at behind })) ∷ []
  custom_is s at behind name None = refl
  custom_is s at behind name (Some text) = refl

  pub custom_again : StatementAgain source written n custom
  unfolding custom custom_name
  custom_again i j w (k, u, v, (x, (c, x1, x2, d, (c2, y1, y2, (m, e1, e2), r, e3), e4), e5), f, e6) =
      let name = name_again terminals.Custom (record { here = refl; own = refl }) i c x1 d in
      let text = optional_raw_again (suc c) k y2 (subst (λ (z : ℕ). Reads source n (optional_raw source) z k y2) e1 r) in
      let end = was_ended source written n k j v f in
      let named = text_between source i c name.values in
      let span = span_between source i k in
      let it : Custom = record { property = named; value = text.value; span = span } in
      let parts : x ≡ Texts named ∷ raw_part text.value =
      e4 ∙ ap (λ (z : List Part). z ++ x2) name.is
      ∙ ap (λ (z : List Part). Texts named ∷ z) (e3 ∙ ap (λ (z : List Part). z ++ y2) e2 ∙ text.is) in
      let tokens = name.tokens ++ sign terminals.Colon ∷ text.tokens in record {
        statement = statements.Custom it;
        is = e6 ∙ ap (λ (z : List Part). z ++ v)
            (e5 ∙ ap (to_custom source i k) parts ∙ custom_is source i k named text.value)
            ∙ ap (λ (z : List Part). States (statements.Custom it) ∷ z) end.1;
        tokens = ended tokens;
        spells = custom_line span (span_between source i c) name.spells (old_of source c (just terminals.Colon) refl m)
            text.spells end.0;
        back = λ p q stand.
            let (last, l1, l2) = split written q tokens (sign terminals.Semicolon ∷ []) p stand in
            let (place, left, right) = split written last name.tokens (sign terminals.Colon ∷ text.tokens) p l1 in
            let (values, reads, same) = name.back p place left in
            let (found, raws, alikes) = text.back (suc place) last right.1 in
            let there = text_between written p place values in
            let z : Custom = record { property = there; value = found; span = span_between written p last } in record {
              found = statements.Custom z;
              reads = (
                last,
                States (statements.Custom z) ∷ [],
                [],
                (
                  Texts there ∷ raw_part found,
                  (
                    place,
                    Texts there ∷ [],
                    raw_part found,
                    reads,
                    (
                      suc place,
                      [],
                      raw_part found,
                      (is_of written place (sign terminals.Colon) (just terminals.Colon) right.0 refl, refl, refl),
                      raws,
                      refl,
                    ),
                    refl,
                  ),
                  sym (custom_is written p last there found),
                ),
                is_ended source written n last q l2,
                refl,
              );
              alike = alike.custom same alikes;
            };
      }
