-- Strings with `#{}`: text, and values in it.
use Rattle.std.proofs.Common.{◌≡◌, ◌<◌, ℕ, Bool, true, false, ◌||◌, if◌then◌else◌, List, [], ◌∷◌, ◌++◌, length, refl, sym, ◌∙◌, ap, subst, append_assoc, arith, lit<}
use Rattle.std.specs.Prelude.{◌==◌, codes}
use Rattle.sw_text_scan.specs.Bytes.{sign, byte, opens_at}
use Rattle.sw_tokens.specs.declared.pieces.Before.{Before}
use Rattle.sw_tokens.specs.declared.pieces.Before.TheVariants as befores
use Rattle.sw_tokens.specs.declared.pieces.Change.TheVariants as changes
use Rattle.sw_tokens.specs.declared.skips.Inside.{Inside}
use Rattle.sw_tokens.specs.declared.skips.Inside.TheVariants as insides
use Rattle.sw_tokens.specs.declared.token.TokenKind.TheVariants as kinds
use Rattle.sw_tokens.specs.Ends.{opens}
use Rattle.sw_tokens.specs.Pieces.{made, piece, code_piece}
use Rattle.sw_tokens.specs.Tokens.{is_spaced}
use Rattle.sw_parse_terminals.specs.declared.terminal.Terminal.TheVariants as terminals
use Rattle.sw_parse_lexemes.specs.declared.sort.Sort.TheVariants as sorts
use Rattle.sw_parse_lexemes.specs.declared.state.Mode.TheVariants as modes
use Rattle.sw_convert_spelling.specs.Spelt.{behind_gap, innermost}
use Rattle.sw_convert_spelling.specs.Strings.{is_coded, is_escaped, hex_of, joins_escape, escape_close, escaped, are_bytes}
use Rattle.sw_convert_spelling.proofs.StringTokens as strings
use Rattle.sw_convert_passing.specs.Written.{Written, written, direct}
use Rattle.sw_convert_passing.specs.Values.{Pieces, no_piece, text_piece, piece_insert, items, template, inserted}
use Rattle.sw_convert_again.specs.Tokens.{Tok, tok, Nothing, Decoded}
use Rattle.sw_convert_again.specs.Tokens as again
use Rattle.sw_convert_again.specs.Spells.{within}
use Rattle.sw_convert_tokens.specs.Joints.{Seen, Joint, Token, Segment, behind, Direct, Stand, writtens, toks, Tell}
use Rattle.sw_convert_tokens.specs.Joints as joints
use Rattle.sw_convert_tokens.specs.Written.{Follows, gap_of, AsValue, AsRow, WrittenAs}
use Rattle.sw_convert_tokens.proofs.Joins.{text_append, writtens_append, toks_append, behind_append, stand_append, tell_append}
use Rattle.sw_convert_tokens.proofs.Signs.{gap_is}
use Rattle.sw_convert_tokens.proofs.Leaves.{says_decoded}

-- the closing quote stands behind
abbrev pub Quote : List ℕ → Type 0
Quote after = (rest : List ℕ) × (after ≡ sign "\"" ∷ rest)

-- where text ends: at `#{` or the closing quote
abbrev pub ends_text : List ℕ → Bool
ends_text bs = opens_at bs 0 || (byte bs 0 == sign "\"")

abbrev quotes : Inside
quotes = insides.Quotes (sign "\"")

-- the tokens in a string, behind text or not, up to its closing quote
pub record IsText (behind_text : Bool) (text : List ℕ) (tokens : List Tok) : Type 0 where
  pub list : List Joint
  pub passed : List Written
  pub spelling : joints.text list ≡ text
  pub seen : toks list ≡ tokens
  pub written : writtens list ≡ passed
  pub last : behind befores.Other list ≡ befores.Other
  pub tells : Tell list
  pub direct : (more : List Joint) → Direct more → Direct (list ++ more)
  pub fits : behind_text ≡ true → (after : List ℕ) → Quote after → ends_text (text ++ after) ≡ true
  pub stand : (stack : List Inside) (after : List ℕ) → Quote after
      → Stand (quotes ∷ stack) befores.Other list (quotes ∷ stack) after
  pub told : Pieces sorts.Text passed

quote_ends : (after : List ℕ) → Quote after → ends_text after ≡ true
unfolding byte
quote_ends after q = subst (λ (t : List ℕ). ends_text t ≡ true) (sym q.1) refl

pub nothing_more : (behind_text : Bool) → IsText behind_text [] []
nothing_more behind_text = record {
  list = [];
  passed = [];
  spelling = refl;
  seen = refl;
  written = refl;
  last = refl;
  tells = tt;
  direct = λ more d. d;
  fits = λ e after q. quote_ends after q;
  stand = λ stack after q. refl;
  told = no_piece;
}

-- ---- text

text_seen : List ℕ → Seen
text_seen text = record {
  gap = [];
  kind = kinds.Text text;
  bytes = escaped text;
  change = changes.Keep;
  spaced = false;
  may_be = terminals.TextPiece ∷ [];
  said = Decoded text;
}

escaped_some : (text : List ℕ) → 0 < length text → 0 < length (escaped text)
escaped_some [] some = absurd (omega (arith, some))
escaped_some (b ∷ rest) some = go (is_coded b) (is_escaped b rest)
  where
    go : (t u : Bool)
        → 0 < length
        ((if t then sign "\\" ∷ (hex_of b ++ escape_close (joins_escape rest))
        else (if u then sign "\\" ∷ b ∷ [] else b ∷ [])) ++ escaped rest)
    go true u = omega arith
    go false true = omega arith
    go false false = omega arith

pub text_more : (behind_text : Bool) → behind_text ≡ false → (said : List ℕ) → are_bytes said ≡ true → 0 < length said
    → {text : List ℕ} {tokens : List Tok} → IsText true text tokens
    → IsText behind_text (escaped said ++ text) (tok terminals.TextPiece (Decoded said) ∷ tokens)
unfolding text_seen
text_more behind_text closed said bytes some {text} more = record {
  list = Token (text_seen said) ∷ more.list;
  passed = direct sorts.Text terminals.TextPiece ∷ more.passed;
  spelling = ap (λ (t : List ℕ). escaped said ++ t) more.spelling;
  seen = ap (λ (t : List Tok). tok terminals.TextPiece (Decoded said) ∷ t) more.seen;
  written = ap (λ (t : List Written). direct sorts.Text terminals.TextPiece ∷ t) more.written;
  last = more.last;
  tells = (
    λ source commented at front after sit. says_decoded said (text_seen said) refl source commented at (front ++ []) _ sit.0,
    more.tells,
  );
  direct = λ others d. refl;
  fits = λ e. absurd (let wrong : true ≡ false = sym e ∙ closed in cc);
  stand = λ stack after q. (
    refl,
    escaped_some said some,
    (refl, refl),
    λ e. absurd (no e),
    strings.text_token said befores.Other (joints.text more.list ++ after) bytes some
        (ap (λ (t : List ℕ). ends_text (t ++ after)) more.spelling ∙ more.fits refl after q),
    more.stand stack after q,
  );
  told = text_piece more.told;
}
  where
    no : opens (kinds.Text said) ≡ true → ⊥
    no e = cc

-- ---- values

insert_seen : Seen
insert_seen = record {
  gap = [];
  kind = kinds.OpenInterpolation;
  bytes = codes "#{";
  change = changes.Push insides.Interpolation;
  spaced = false;
  may_be = terminals.Insert ∷ [];
  said = Nothing;
}

insert_end_seen : Seen
insert_end_seen = record {
  gap = [];
  kind = kinds.CloseInterpolation;
  bytes = codes "}";
  change = changes.Pop;
  spaced = false;
  may_be = terminals.InsertEnd ∷ [];
  said = Nothing;
}

-- the `}` that closes `#{`
insert_closes : (before : Before) (after : List ℕ)
    → piece (codes "}" ++ after) insides.Interpolation before 0 ≡ made kinds.CloseInterpolation 1 changes.Pop
unfolding code_piece byte
insert_closes before after = refl

brace_follows : (text after : List ℕ) → Follows text (sign "}" ∷ after)
brace_follows text after = record { stop = refl; closed = refl }

pub insert_more : (behind_text : Bool) → {value : List ℕ} {ks : List Tok} → WrittenAs AsRow value ks
    → {text : List ℕ} {tokens : List Tok} → IsText false text tokens
    → IsText behind_text ((codes "#{" ++ (value ++ codes "}")) ++ text)
    (again.sign terminals.Insert ∷ (ks ++ again.sign terminals.InsertEnd ∷ tokens))
unfolding insert_seen insert_end_seen byte
insert_more behind_text {value} {ks} row {text} {tokens} more =
    let it = row befores.Other false refl in
    let seg = it.segment in
    let rest = Token insert_end_seen ∷ more.list in record {
      list = Token insert_seen ∷ (seg.joints ++ rest);
      passed = inserted false terminals.Insert it.passed more.passed;
      spelling =
          ap (λ (t : List ℕ). codes "#{" ++ t)
          (text_append seg.joints rest ∙ ap (λ (t : List ℕ). t ++ joints.text rest) seg.spelling
          ∙ ap (λ (t : List ℕ). value ++ (codes "}" ++ t)) more.spelling
          ∙ sym (append_assoc value (codes "}") text));
      seen =
          ap (λ (t : List Tok). again.sign terminals.Insert ∷ t)
          (toks_append seg.joints rest ∙ ap (λ (t : List Tok). t ++ toks rest) seg.seen
          ∙ ap (λ (t : List Tok). ks ++ again.sign terminals.InsertEnd ∷ t) more.seen);
      written =
          ap (λ (t : List Written). written sorts.OpenInsert false terminals.Insert ∷ t)
          (writtens_append seg.joints rest ∙ ap (λ (t : List Written). t ++ writtens rest) seg.written
          ∙ ap (λ (t : List Written). it.passed ++ direct sorts.CloseInsert terminals.InsertEnd ∷ t) more.written);
      last = behind_append befores.Other seg.joints rest ∙ more.last;
      tells = (
        λ source commented at front after sit. tt,
        tell_append seg.joints rest seg.tells (λ source commented at front after sit. tt, more.tells),
      );
      direct = λ others d. refl;
      fits = λ e after q. refl;
      stand = λ stack after q. (
        refl,
        lit< tt,
        (refl, refl),
        λ e. absurd (no_open e),
        strings.insert_token befores.Other (joints.text (seg.joints ++ rest) ++ after),
        stand_append (insides.Interpolation ∷ quotes ∷ stack) (insides.Interpolation ∷ quotes ∷ stack) (quotes ∷ stack) befores.Other
            seg.joints rest after
            (seg.stand (insides.Interpolation ∷ quotes ∷ stack) (joints.text rest ++ after) refl
            (brace_follows value (joints.text more.list ++ after)))
            (subst (λ (b : Before). Stand (insides.Interpolation ∷ quotes ∷ stack) b rest (quotes ∷ stack) after) (sym seg.last) (
              refl,
              lit< tt,
              (refl, refl),
              λ e. absurd (no_close e),
              insert_closes befores.Other (joints.text more.list ++ after),
              more.stand stack after q,
            )),
      );
      told = piece_insert (items (it.told modes.Expression refl).1) more.told;
    }
  where
    no_open : opens kinds.OpenInterpolation ≡ true → ⊥
    no_open e = cc

    no_close : opens kinds.CloseInterpolation ≡ true → ⊥
    no_close e = cc

-- ---- the string

-- text, or none, and `#{` behind it
pub record Begun (bytes : List ℕ) : Type 0 where
  pub said : List ℕ
  pub rest : List ℕ
  pub is : bytes ≡ escaped said ++ rest
  pub of_bytes : are_bytes said ≡ true
  pub opening : opens_at rest 0 ≡ true

template_seen : Before → Bool → Seen
template_seen before spaced = record {
  gap = gap_of spaced;
  kind = kinds.Template;
  bytes = codes "\"";
  change = changes.Push (insides.Quotes (sign "\""));
  spaced = is_spaced (behind_gap before (gap_of spaced));
  may_be = terminals.Template ∷ [];
  said = Nothing;
}

template_end_seen : Seen
template_end_seen = record {
  gap = [];
  kind = kinds.TemplateEnd;
  bytes = codes "\"";
  change = changes.Pop;
  spaced = false;
  may_be = terminals.TemplateEnd ∷ [];
  said = Nothing;
}

pub template_written : {text : List ℕ} {tokens : List Tok} → IsText false text tokens
    → ((after : List ℕ) → Begun (text ++ after))
    → WrittenAs (AsValue false) (codes "\"" ++ (text ++ codes "\"")) (within (again.sign terminals.Template) tokens terminals.TemplateEnd)
unfolding template_seen template_end_seen byte
template_written {text} {tokens} it begun before spaced calm =
    let end = Token template_end_seen ∷ [] in
    let whole : joints.text (it.list ++ end) ≡ text ++ codes "\"" =
    text_append it.list end ∙ ap (λ (t : List ℕ). t ++ codes "\"") it.spelling in record {
      passed = _;
      segment = record {
        joints = Token (template_seen before spaced) ∷ (it.list ++ end);
        spelling = ap (λ (t : List ℕ). gap_of spaced ++ (codes "\"" ++ t)) whole;
        seen =
            ap (λ (t : List Tok). again.sign terminals.Template ∷ t)
            (toks_append it.list end ∙ ap (λ (t : List Tok). t ++ again.sign terminals.TemplateEnd ∷ []) it.seen);
        written =
            ap (λ (t : List Written). written sorts.Template (is_spaced (behind_gap before (gap_of spaced))) terminals.Template ∷ t)
            (writtens_append it.list end
            ∙ ap (λ (t : List Written). t ++ direct sorts.TemplateEnd terminals.TemplateEnd ∷ []) it.written);
        last = behind_append befores.Other it.list end;
        tells = (
          λ source commented at front after sit. tt,
          tell_append it.list end it.tells (λ source commented at front after sit. tt, tt),
        );
        stand = λ stack after code f.
            let b = begun (codes "\"" ++ after) in
            let same : joints.text (it.list ++ end) ++ after ≡ escaped b.said ++ b.rest =
            ap (λ (t : List ℕ). t ++ after) whole ∙ append_assoc text (codes "\"") after ∙ b.is in (
              gap_is (innermost stack) spaced (codes "\"") code refl,
              lit< tt,
              (refl, refl),
              λ e. it.direct end refl,
              ap (λ (t : List ℕ). piece (codes "\"" ++ t) (innermost stack) (behind_gap before (gap_of spaced)) 0) same
                  ∙ strings.template_token b.said (innermost stack) (behind_gap before (gap_of spaced)) b.rest b.of_bytes code b.opening,
              stand_append (quotes ∷ stack) (quotes ∷ stack) stack befores.Other it.list end after
                  (it.stand stack (codes "\"" ++ after) (after, refl))
                  (subst (λ (x : Before). Stand (quotes ∷ stack) x end stack after) (sym it.last)
                  (refl, lit< tt, (refl, refl), λ e. absurd (no e), strings.end_token befores.Other after, refl)),
            );
      };
      told = λ mode free. template it.told;
    }
  where
    no : opens kinds.TemplateEnd ≡ true → ⊥
    no e = cc
