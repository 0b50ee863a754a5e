-- Brackets in the text of a special function.
use Rattle.std.proofs.Common.{◌≡◌, ℕ, suc, ◌+◌, Bool, true, false, not, List, [], ◌∷◌, ◌++◌, length, Some, refl, sym, ◌∙◌, ap, subst, arith, append_assoc, length-append}
use Rattle.std.specs.Prelude.{codes}
use Rattle.std.specs.List.{list_all}
use Rattle.sw_text_scan.specs.Bytes.{sign, byte, is_white}
use Rattle.sw_tokens.specs.declared.pieces.Before.{Before}
use Rattle.sw_tokens.specs.declared.pieces.Before.TheVariants as befores
use Rattle.sw_tokens.specs.declared.skips.Inside.{Inside}
use Rattle.sw_tokens.specs.Ends.{opens}
use Rattle.sw_tokens.specs.Pieces.{sign_of}
use Rattle.sw_tokens.specs.Tokens.{before_of, is_spaced}
use Rattle.sw_parse_terminals.specs.declared.terminal.Terminal.{Terminal}
use Rattle.sw_parse_terminals.specs.declared.terminal.Terminal.TheVariants as terminals
use Rattle.sw_parse_lexemes.specs.Sorts.{sort_of}
use Rattle.sw_parse_table.specs.declared.source.Source.{Source}
use Rattle.sw_parse_table.specs.Parts.{Part}
use Rattle.sw_parse_terminals.specs.Numbers.{just}
use Rattle.sw_parse_table.specs.Sources.{begun, to_at}
use Rattle.sw_convert_spelling.specs.Spelt.{behind_gap, innermost, is_sheet_code}
use Rattle.sw_convert_spelling.proofs.Choices.{right_no}
use Rattle.sw_convert_passing.specs.Written.{Written, written}
use Rattle.sw_convert_passing.specs.Values.{Special, text_parens, text_brackets}
use Rattle.sw_convert_again.specs.Tokens.{Tok, Extent, shifted, Old}
use Rattle.sw_convert_again.specs.Tokens as again
use Rattle.sw_convert_again.specs.Spells.{within, SpellsText}
use Rattle.sw_convert_again.specs.Spells as spells
use Rattle.sw_convert_tokens.specs.Joints.{Seen, Joint, Token, text, toks, writtens, behind, Sit, Stand, Tell}
use Rattle.sw_convert_tokens.specs.Values.{WasRead}
use Rattle.sw_convert_tokens.proofs.Joins.{text_behind, toks_append, writtens_append, behind_append, tell_append, stand_append, sit_left}
use Rattle.sw_convert_texts.specs.RawKinds.{gap_before}
use Rattle.sw_convert_texts.specs.Specials.{special_text}
use Rattle.sw_convert_texts.proofs.AroundTexts.{CutFrom, cut_token}
use Rattle.sw_convert_texts.proofs.RawRows.{Placed}
use Rattle.sw_convert_texts.proofs.RawSits.{shifted_twice, ends_apart, ends_append, at_next, step_sits, sit_right, sit_end}
use Rattle.sw_convert_texts.proofs.SpecialOlds.{special_cut}
use Rattle.sw_convert_texts.proofs.Specials.{front_same, one_same, seen_as, IsLone, lone_stand, open_paren, close_paren, open_bracket, close_bracket, ItemIs, TextIs}

module _ (source : Source) (was : WasRead source) where
  -- ---- brackets

  module _ (a z : ℕ) (opening closing : Terminal) (opens_lone : IsLone a) (shuts_lone : IsLone z) (gap end_gap : List ℕ)
      (white : list_all is_white gap ≡ true) (end_white : list_all is_white end_gap ≡ true)
      {i c : ℕ} {parts : List Part} {tokens : List Tok} {extents : List Extent}
      (inner : SpellsText source i c parts tokens extents) (behind_text : List ℕ)
      (one : TextIs source was inner false (end_gap ++ ((z ∷ []) ++ behind_text))) where
    abbrev opener : Seen
    opener = seen_as gap (sign_of a) (a ∷ []) opening

    abbrev shut : Seen
    shut = seen_as end_gap (sign_of z) (z ∷ []) closing

    abbrev enclosed_joints : List Joint
    enclosed_joints = Token opener ∷ (one.joints ++ Token shut ∷ [])

    abbrev enclosed_tokens : List Tok
    enclosed_tokens = within (again.sign opening) tokens closing

    enclosed_spelling : (rest : List ℕ) → text enclosed_joints ++ rest
        ≡ gap ++ ((a ∷ []) ++ special_text source inner (end_gap ++ ((z ∷ []) ++ rest)))
    enclosed_spelling rest =
        append_assoc gap ((a ∷ []) ++ text (one.joints ++ Token shut ∷ [])) rest
        ∙ ap (λ (xs : List ℕ). gap ++ ((a ∷ []) ++ xs))
        (text_behind one.joints (Token shut ∷ []) rest
        ∙ ap (λ (xs : List ℕ). text one.joints ++ xs) (append_assoc end_gap ((z ∷ []) ++ []) rest)
        ∙ one.spelling (end_gap ++ ((z ∷ []) ++ rest)))

    enclosed_seen : toks enclosed_joints ≡ enclosed_tokens
    enclosed_seen =
        ap (λ (l : List Tok). again.sign opening ∷ l)
        (toks_append one.joints (Token shut ∷ []) ∙ ap (λ (l : List Tok). l ++ again.sign closing ∷ []) one.seen)

    enclosed_last : behind befores.Other enclosed_joints ≡ befores.Other
    enclosed_last =
        behind_append (before_of (Some (sign_of a))) one.joints (Token shut ∷ []) ∙ shuts_lone.other

    enclosed_ended : ends_apart false enclosed_joints ≡ false
    enclosed_ended = ends_append false one.joints (Token shut ∷ [])

    enclosed_tells : Tell enclosed_joints
    enclosed_tells = (
      λ new commented at front after sit. tt,
      tell_append one.joints (Token shut ∷ []) one.tells (λ new commented at front after sit. tt, tt),
    )

    enclosed_written : (rest : List Written) → writtens enclosed_joints ++ rest
        ≡ written (sort_of (sign_of a) (a ∷ [])) opener.spaced opening
        ∷ (writtens one.joints ++ written (sort_of (sign_of z) (z ∷ [])) shut.spaced closing ∷ rest)
    enclosed_written rest =
        ap (λ (l : List Written). written (sort_of (sign_of a) (a ∷ [])) opener.spaced opening ∷ l)
        (ap (λ (l : List Written). l ++ rest) (writtens_append one.joints (Token shut ∷ []))
        ∙ append_assoc (writtens one.joints) (written (sort_of (sign_of z) (z ∷ [])) shut.spaced closing ∷ []) rest)

    enclosed_placed : Placed enclosed_joints (length enclosed_tokens) (shifted 1 extents)
        (λ cuts. begun gap (begun (a ∷ []) (special_cut source inner (begun end_gap (begun (z ∷ []) cuts)))))
    enclosed_placed new at front after to end more cuts here (sits, sit) rest =
        let tail = Token shut ∷ [] in
        let within_front = (front ++ gap) ++ (a ∷ []) in
        let n = length tokens in
        let counted : length (toks one.joints) ≡ n = ap length one.seen in
        let left = sit_left new false (suc (suc at)) within_front one.joints tail after sit in
        let right = sit_right new false (suc (suc at)) within_front one.joints tail after sit in
        let there = at_next new (suc at) (front ++ gap) opener (text (one.joints ++ tail) ++ after) false sits in
        let place : to_at new (suc at + n) ≡ length (within_front ++ text one.joints) =
        ap (λ (m : ℕ). to_at new (suc at + m)) (sym counted)
        ∙ sit_end new false (suc at) within_front one.joints (text tail ++ after) (λ f. there) left one.ended_is in
        let last : Sit new false (suc (suc at + n)) (within_front ++ text one.joints) tail after =
        subst (λ (m : ℕ). Sit new false m (within_front ++ text one.joints) tail after)
        (let e : suc (suc at) + length (toks one.joints) ≡ suc (suc at + n) = omega (arith, counted) in e)
        (subst (λ (x : Bool). Sit new x (suc (suc at) + length (toks one.joints)) (within_front ++ text one.joints) tail after)
        one.ended_is right) in
        let long = length-append tokens (again.sign closing ∷ []) in
        subst
        (λ (list : List Extent). CutFrom new to end at (list ++ more)
        (begun gap (begun (a ∷ []) (special_cut source inner (begun end_gap (begun (z ∷ []) cuts))))))
        (sym (shifted_twice (suc at) 1 (suc (suc at)) extents (let e : suc at + 1 ≡ suc (suc at) = omega arith in e)))
        (cut_token new to end at gap (a ∷ []) (shifted (suc (suc at)) extents ++ more)
        (special_cut source inner (begun end_gap (begun (z ∷ []) cuts)))
        (step_sits new at front opener (text (one.joints ++ tail) ++ after) here sits)
        (one.placed new (suc at) within_front (text tail ++ after) to end more (begun end_gap (begun (z ∷ []) cuts)) there left
        (cut_token new to end (suc at + n) end_gap (z ∷ []) more cuts
        (step_sits new (suc at + n) (within_front ++ text one.joints) shut after place last.0)
        (subst (λ (m : ℕ). CutFrom new to end m more cuts)
        (let e : at + suc (length (tokens ++ again.sign closing ∷ [])) ≡ suc (suc at + n) = omega (arith, long) in e) rest))))

    enclosed_stand : (stack : List Inside) (after : List ℕ) → is_sheet_code (innermost stack) ≡ true
        → Stand stack befores.Other enclosed_joints stack after
    enclosed_stand stack after code =
        lone_stand a opens_lone gap opening stack (one.joints ++ Token shut ∷ []) after code white
        (stand_append stack stack stack befores.Other one.joints (Token shut ∷ []) after
        (one.stand stack (text (Token shut ∷ []) ++ after) code
        (ap (λ (xs : List ℕ). byte xs 0) (append_assoc end_gap ((z ∷ []) ++ []) after)
        ∙ front_same end_gap _ _ (one_same z _ _)))
        (subst (λ (x : Before). Stand stack x (Token shut ∷ []) stack after) (sym one.last)
        (lone_stand z shuts_lone end_gap closing stack [] after code end_white refl)))

  pub parens_item : {i c : ℕ} {parts : List Part} {tokens : List Tok} {extents : List Extent}
      (opens : Old source i (just terminals.RawParen)) (inner : SpellsText source (suc i) c parts tokens extents)
      (close : Old source c (just terminals.RawParenEnd)) (ended parens digits : Bool) (behind_text gap : List ℕ)
      → list_all is_white gap ≡ true → list_all is_white (gap_before source c) ≡ true
      → TextIs source was inner false (gap_before source c ++ (codes ")" ++ behind_text))
      → ItemIs source was (spells.item_parens opens inner close) ended parens digits behind_text gap
  parens_item {i} {c} opens inner close ended parens digits behind_text gap white end_white one =
      let end_gap = gap_before source c in
      let first = opener (sign "(") (sign ")") terminals.RawParen terminals.RawParenEnd open_paren close_paren gap end_gap white end_white inner behind_text one in record {
        joints = enclosed_joints (sign "(") (sign ")") terminals.RawParen terminals.RawParenEnd open_paren close_paren gap end_gap white end_white inner behind_text one;
        spelling = enclosed_spelling (sign "(") (sign ")") terminals.RawParen terminals.RawParenEnd open_paren close_paren gap end_gap white end_white inner behind_text one;
        seen = enclosed_seen (sign "(") (sign ")") terminals.RawParen terminals.RawParenEnd open_paren close_paren gap end_gap white end_white inner behind_text one;
        last = enclosed_last (sign "(") (sign ")") terminals.RawParen terminals.RawParenEnd open_paren close_paren gap end_gap white end_white inner behind_text one;
        ended_is = enclosed_ended (sign "(") (sign ")") terminals.RawParen terminals.RawParenEnd open_paren close_paren gap end_gap white end_white inner behind_text one;
        tells = enclosed_tells (sign "(") (sign ")") terminals.RawParen terminals.RawParenEnd open_paren close_paren gap end_gap white end_white inner behind_text one;
        special = λ inside rest next more.
            subst (Special inside ended)
            (sym (enclosed_written (sign "(") (sign ")") terminals.RawParen terminals.RawParenEnd open_paren close_paren gap end_gap white end_white inner behind_text one rest))
            (text_parens (is_spaced (behind_gap befores.Other end_gap)) (one.special true) more);
        head = λ rest. record {
          dotless = right_no (not first.spaced) _ refl;
          opener = λ e. absurd (let wrong : true ≡ false = e in cc);
          numberless = λ e. right_no (not first.spaced) _ refl;
        };
        placed = enclosed_placed (sign "(") (sign ")") terminals.RawParen terminals.RawParenEnd open_paren close_paren gap end_gap white end_white inner behind_text one;
        stand = λ stack after code f.
            enclosed_stand (sign "(") (sign ")") terminals.RawParen terminals.RawParenEnd open_paren close_paren gap end_gap white end_white inner behind_text one stack after code;
      }

  pub brackets_item : {i c : ℕ} {parts : List Part} {tokens : List Tok} {extents : List Extent}
      (opens : Old source i (just terminals.RawBracket)) (inner : SpellsText source (suc i) c parts tokens extents)
      (close : Old source c (just terminals.RawBracketEnd)) (ended parens digits : Bool) (behind_text gap : List ℕ)
      → list_all is_white gap ≡ true → list_all is_white (gap_before source c) ≡ true
      → TextIs source was inner false (gap_before source c ++ (codes "]" ++ behind_text))
      → ItemIs source was (spells.item_brackets opens inner close) ended parens digits behind_text gap
  brackets_item {i} {c} opens inner close ended parens digits behind_text gap white end_white one =
      let end_gap = gap_before source c in
      let first = opener (sign "[") (sign "]") terminals.RawBracket terminals.RawBracketEnd open_bracket close_bracket gap end_gap white end_white inner behind_text one in record {
        joints = enclosed_joints (sign "[") (sign "]") terminals.RawBracket terminals.RawBracketEnd open_bracket close_bracket gap end_gap white end_white inner behind_text one;
        spelling = enclosed_spelling (sign "[") (sign "]") terminals.RawBracket terminals.RawBracketEnd open_bracket close_bracket gap end_gap white end_white inner behind_text one;
        seen = enclosed_seen (sign "[") (sign "]") terminals.RawBracket terminals.RawBracketEnd open_bracket close_bracket gap end_gap white end_white inner behind_text one;
        last = enclosed_last (sign "[") (sign "]") terminals.RawBracket terminals.RawBracketEnd open_bracket close_bracket gap end_gap white end_white inner behind_text one;
        ended_is = enclosed_ended (sign "[") (sign "]") terminals.RawBracket terminals.RawBracketEnd open_bracket close_bracket gap end_gap white end_white inner behind_text one;
        tells = enclosed_tells (sign "[") (sign "]") terminals.RawBracket terminals.RawBracketEnd open_bracket close_bracket gap end_gap white end_white inner behind_text one;
        special = λ inside rest next more.
            subst (Special inside ended)
            (sym (enclosed_written (sign "[") (sign "]") terminals.RawBracket terminals.RawBracketEnd open_bracket close_bracket gap end_gap white end_white inner behind_text one rest))
            (text_brackets (is_spaced (behind_gap befores.Other end_gap)) (one.special true) more);
        head = λ rest. record {
          dotless = right_no (not first.spaced) _ refl;
          opener = λ e. right_no (not first.spaced) _ refl;
          numberless = λ e. right_no (not first.spaced) _ refl;
        };
        placed = enclosed_placed (sign "[") (sign "]") terminals.RawBracket terminals.RawBracketEnd open_bracket close_bracket gap end_gap white end_white inner behind_text one;
        stand = λ stack after code f.
            enclosed_stand (sign "[") (sign "]") terminals.RawBracket terminals.RawBracketEnd open_bracket close_bracket gap end_gap white end_white inner behind_text one stack after code;
      }
