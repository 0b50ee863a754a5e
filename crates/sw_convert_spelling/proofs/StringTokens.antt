-- What is written of a text as a string is one token, with `#{}` in it or not.
use Rattle.std.proofs.Common.{◌≡◌, ℕ, ◌+◌, ◌-◌, ◌≤◌, ◌<◌, Bool, true, false, not, ◌&&◌, ◌||◌, if◌then◌else◌, List, [], ◌∷◌, ◌++◌, length, take, refl, sym, ◌∙◌, ap, subst, arith, append_assoc, length-append, codes}
use Rattle.std.specs.Prelude.{◌==◌, nat_lt, slice_range}
use Rattle.std.proofs.Math.Seq.{take-append_seam}
use Rattle.std.proofs.lemmas.Bool.Decides.{nat_tests}
use Rattle.sw_text_scan.specs.declared.runs.Class.TheVariants as classes
use Rattle.sw_text_scan.specs.declared.signs.TheConstants.{END}
use Rattle.sw_text_scan.specs.Bytes.{sign, byte, is_break, is_white, is_quote, opens_at}
use Rattle.sw_text_scan.specs.Runs.{white_end, escape_end, text_next, next, run_end}
use Rattle.sw_text_scan.proofs.Bounds.{if_true, if_false, and_left, or_left, or_right, run_stop}
use Rattle.sw_tokens.specs.declared.pieces.Before.{Before}
use Rattle.sw_tokens.specs.declared.pieces.Change.TheVariants as changes
use Rattle.sw_tokens.specs.declared.skips.Inside.{Inside}
use Rattle.sw_tokens.specs.declared.skips.Inside.TheVariants as insides
use Rattle.sw_tokens.specs.declared.token.TokenKind.TheVariants as kinds
use Rattle.sw_tokens.specs.Decoded.{decoded}
use Rattle.sw_tokens.specs.Pieces.{made, text_piece, quote_piece, code_piece}
use Rattle.sw_convert_spelling.specs.Strings.{is_coded, hex_of, joins_escape, escape_close, is_escaped, escape, escaped, string_text, are_bytes, IsStringToken, IsTemplateToken, IsTextToken, IsInsertToken, IsEndToken}
use Rattle.sw_convert_spelling.proofs.Here.{Here, here_left, here_right, here_both, stands}
use Rattle.sw_convert_spelling.proofs.MovedRuns.{at_byte, opens_moved, range_same}
use Rattle.sw_convert_spelling.proofs.Choices.{left_no}
use Rattle.sw_convert_spelling.proofs.Strings.{text_run, stands_for}

-- a string is one token, whatever stands behind it
quoted : (text after : List ℕ) → are_bytes text ≡ true → quote_piece (string_text text ++ after) (sign "\"") 0 ≡ made (kinds.Quoted text) (length (string_text text)) changes.Keep
unfolding quote_piece text_next
quoted text after l =
    let es = escaped text in
    let bs = string_text text ++ after in
    let same : bs ≡ sign "\"" ∷ (es ++ (sign "\"" ∷ after)) = ap (λ (xs : List ℕ). sign "\"" ∷ xs) (append_assoc es (sign "\"" ∷ []) after) in
    let all = stands [] (sign "\"" ∷ (es ++ sign "\"" ∷ after)) in
    let here : Here bs 1 (es ++ sign "\"" ∷ after) = subst (λ (xs : List ℕ). Here xs 1 (es ++ sign "\"" ∷ after)) (sym same) all.1 in
    let left = here_left bs 1 es (sign "\"" ∷ after) here in
    let right = here_right bs 1 es (sign "\"" ∷ after) here in
    let end : byte bs (1 + length es) ≡ sign "\"" = right.0 in
    let run : run_end (classes.SheetText (sign "\"")) bs 1 ≡ 1 + length es =
    (text_run bs text 1 (sign "\"") l refl (here_both bs 1 es (sign "\"" ∷ []) left (end, tt))).0
    ∙ run_stop bs (classes.SheetText (sign "\"")) (1 + length es) (stops bs (1 + length es) end) in
    let slice : slice_range bs 1 (1 + length es) ≡ es =
    ap (λ (xs : List ℕ). slice_range xs 1 (1 + length es)) same ∙ range_same (sign "\"" ∷ []) (es ++ (sign "\"" ∷ after)) 0 (length es)
    ∙ ap (λ (n : ℕ). take n (es ++ (sign "\"" ∷ after))) (let e : length es - 0 ≡ length es = omega arith in e) ∙ take-append_seam es (sign "\"" ∷ after) in
    let long : (1 + length es) + 1 ≡ length (string_text text) = (let a = length-append es (sign "\"" ∷ []) in omega (arith, a)) in
    if_true (byte bs (run_end (classes.SheetText (sign "\"")) bs 1) == sign "\"") _ _ (ap (λ (k : ℕ). byte bs k == sign "\"") run ∙ ap (λ (c : ℕ). c == sign "\"") end)
    ∙ ap (λ (k : ℕ). made (kinds.Quoted (decoded (slice_range bs 1 k))) (k + 1) changes.Keep) run
    ∙ ap (λ (xs : List ℕ). made (kinds.Quoted (decoded xs)) ((1 + length es) + 1) changes.Keep) slice
    ∙ ap (λ (xs : List ℕ). made (kinds.Quoted xs) ((1 + length es) + 1) changes.Keep) (stands_for text l)
    ∙ ap (λ (k : ℕ). made (kinds.Quoted text) k changes.Keep) long
  where
    stops : (bs : List ℕ) (k : ℕ) → byte bs k ≡ sign "\"" → next (classes.SheetText (sign "\"")) bs k ≤ k
    stops bs k e =
        let n : next (classes.SheetText (sign "\"")) bs k ≡ k =
        if_false (opens_at bs k) k _ (left_no (byte bs k == sign "#") _ (ap (λ (c : ℕ). c == sign "#") e))
        ∙ if_true ((byte bs k == sign "\"") || (is_break (byte bs k) || (byte bs k == END))) k _ (ap (λ (c : ℕ). (c == sign "\"") || (is_break c || (c == END))) e) in
        omega (arith, n)

code_string : (top : Inside) (before : Before) (text after : List ℕ) → are_bytes text ≡ true → code_piece (string_text text ++ after) top before 0 ≡ made (kinds.Quoted text) (length (string_text text)) changes.Keep
unfolding code_piece
code_string top before text after l =
    let bs = string_text text ++ after in
    let first : byte bs 0 ≡ sign "\"" = (stands [] bs).0 in
    if_false (is_white (byte bs 0)) _ _ (ap is_white first)
    ∙ if_true (is_quote (byte bs 0)) _ _ (ap is_quote first)
    ∙ ap (λ (q : ℕ). quote_piece bs q 0) first ∙ quoted text after l

pub string_token : (text : List ℕ) (inside : Inside) (before : Before) (after : List ℕ) → IsStringToken text inside before after
string_token text insides.Sheet before after l c = code_string insides.Sheet before text after l
string_token text insides.Interpolation before after l c = code_string insides.Interpolation before text after l
string_token text insides.Css before after l c = absurd (cc)
string_token text (insides.Quotes q) before after l c = absurd (cc)
string_token text insides.Comment before after l c = absurd (cc)
string_token text insides.Url before after l c = absurd (cc)
string_token text insides.UrlInside before after l c = absurd (cc)

-- ---- with `#{}`

-- behind what a string holds, where neither its quote nor a line break stands
abbrev text_rest : List ℕ → ℕ → ℕ
text_rest bs k =
    if not (byte bs k == sign "\\") then k + 1
    else (if is_break (byte bs (k + 1)) then white_end bs (k + 1) else (if byte bs (k + 1) == END then k + 1 else escape_end bs k))

-- what ends the text of a string takes no part in it
stop_here : (bs : List ℕ) (k : ℕ) → (opens_at bs k || (byte bs k == sign "\"")) ≡ true → next (classes.SheetText (sign "\"")) bs k ≤ k
unfolding text_next
stop_here bs k e = go (opens_at bs k) (byte bs k == sign "\"") refl e
  where
    go : (t q : Bool) → (byte bs k == sign "\"") ≡ q → (t || q) ≡ true
        → (if t then k else (if (byte bs k == sign "\"") || (is_break (byte bs k) || (byte bs k == END)) then k else text_rest bs k)) ≤ k
    go true q f e = omega arith
    go false q f e =
        let n = if_true ((byte bs k == sign "\"") || (is_break (byte bs k) || (byte bs k == END))) k (text_rest bs k) (yes (byte bs k == sign "\"") _ (f ∙ e)) in omega (arith, n)
      where
        yes : (a b : Bool) → a ≡ true → (a || b) ≡ true
        yes true b e = refl
        yes false b e = absurd (cc)

-- the text that stands behind other text, up to what ends it
text_up : (front text after : List ℕ) → are_bytes text ≡ true → (opens_at after 0 || (byte after 0 == sign "\"")) ≡ true
    → run_end (classes.SheetText (sign "\"")) (front ++ (escaped text ++ after)) (length front) ≡ length front + length (escaped text)
text_up front text after l e =
    let es = escaped text in
    let bs = front ++ (es ++ after) in
    let at = length front in
    let here = stands front (es ++ after) in
    let left = here_left bs at es after here in
    let end : at + length es ≡ length (front ++ es) + 0 = (let a = length-append front es in omega (arith, a)) in
    let same : bs ≡ (front ++ es) ++ after = sym (append_assoc front es after) in
    let first : byte bs (at + length es) ≡ byte after 0 = ap (byte bs) end ∙ ap (λ (xs : List ℕ). byte xs (length (front ++ es) + 0)) same ∙ at_byte (front ++ es) after 0 in
    let opens : opens_at bs (at + length es) ≡ opens_at after 0 = ap (opens_at bs) end ∙ ap (λ (xs : List ℕ). opens_at xs (length (front ++ es) + 0)) same ∙ opens_moved (front ++ es) after 0 in
    (text_run bs text at (byte after 0) l (stop_by (byte after 0) (byte after 1) e) (here_both bs at es (byte after 0 ∷ []) left (first, tt))).0
    ∙ run_stop bs (classes.SheetText (sign "\"")) (at + length es)
    (stop_here bs (at + length es) (ap (λ (t : Bool). t || (byte bs (at + length es) == sign "\"")) opens ∙ ap (λ (b : ℕ). opens_at after 0 || (b == sign "\"")) first ∙ e))
  where
    stop_by : (b c : ℕ) → (((b == sign "#") && (c == sign "{")) || (b == sign "\"")) ≡ true → ((b == sign "\"") || ((b == sign "#") || (b == END))) ≡ true
    stop_by b c e = grind (arith, nat_tests)

opens_hash : (bs : List ℕ) (k : ℕ) → opens_at bs k ≡ true → (byte bs k == sign "\"") ≡ false
opens_hash bs k e = other (byte bs k) (and_left (byte bs k == sign "#") _ e)
  where
    other : (b : ℕ) → (b == sign "#") ≡ true → (b == sign "\"") ≡ false
    other b e = grind (arith, nat_tests)

code_template : (top : Inside) (before : Before) (text after : List ℕ) → are_bytes text ≡ true → opens_at after 0 ≡ true
    → code_piece (codes "\"" ++ (escaped text ++ after)) top before 0 ≡ made kinds.Template 1 (changes.Push (insides.Quotes (sign "\"")))
unfolding code_piece quote_piece
code_template top before text after l e =
    let bs = sign "\"" ∷ (escaped text ++ after) in
    let first : byte bs 0 ≡ sign "\"" = (stands [] bs).0 in
    let run : run_end (classes.SheetText (sign "\"")) bs 1 ≡ 1 + length (escaped text) = text_up (sign "\"" ∷ []) text after l (ap (λ (t : Bool). t || (byte after 0 == sign "\"")) e) in
    let end : byte bs (1 + length (escaped text)) ≡ byte after 0 =
    ap (byte bs) (let a : 1 + length (escaped text) ≡ length (sign "\"" ∷ escaped text) + 0 = omega arith in a) ∙ at_byte (sign "\"" ∷ escaped text) after 0 in
    if_false (is_white (byte bs 0)) _ _ (ap is_white first)
    ∙ if_true (is_quote (byte bs 0)) _ _ (ap is_quote first)
    ∙ ap (λ (q : ℕ). quote_piece bs q 0) first
    ∙ if_false (byte bs (run_end (classes.SheetText (sign "\"")) bs 1) == sign "\"") _ _ (ap (λ (k : ℕ). byte bs k == sign "\"") run ∙ ap (λ (b : ℕ). b == sign "\"") end ∙ opens_hash after 0 e)

pub template_token : (text : List ℕ) (inside : Inside) (before : Before) (after : List ℕ) → IsTemplateToken text inside before after
template_token text insides.Sheet before after l c e = code_template insides.Sheet before text after l e
template_token text insides.Interpolation before after l c e = code_template insides.Interpolation before text after l e
template_token text insides.Css before after l c e = absurd (cc)
template_token text (insides.Quotes q) before after l c e = absurd (cc)
template_token text insides.Comment before after l c e = absurd (cc)
template_token text insides.Url before after l c e = absurd (cc)
template_token text insides.UrlInside before after l c e = absurd (cc)

-- what stands for text begins neither with a quote nor with `#{`
text_first : (text after : List ℕ) → are_bytes text ≡ true → 0 < length text → (opens_at after 0 || (byte after 0 == sign "\"")) ≡ true
    → nat_lt 0 (run_end (classes.SheetText (sign "\"")) (escaped text ++ after) 0) ≡ true
text_first [] after l some e = absurd (omega (arith, some))
text_first (b ∷ rest) after l some e = positive (run_end (classes.SheetText (sign "\"")) (escaped (b ∷ rest) ++ after) 0) (text_up [] (b ∷ rest) after l e)
  where
    least : 0 < length (escape b rest)
    least = go (is_coded b) (is_escaped b rest)
      where
        go : (t u : Bool) → 0 < length (if t then sign "\\" ∷ (hex_of b ++ escape_close (joins_escape rest)) else (if u then sign "\\" ∷ b ∷ [] else b ∷ []))
        go true u = omega arith
        go false true = omega arith
        go false false = omega arith

    positive : (k : ℕ) → k ≡ 0 + length (escaped (b ∷ rest)) → nat_lt 0 k ≡ true
    positive k f = let a = length-append (escape b rest) (escaped rest) in let m = least in let lt : 0 < k = omega (arith, f, a, m) in grind (arith, nat_tests)

-- where the text of a string goes on, neither its quote nor `#{` stands
goes_on : (bs : List ℕ) → nat_lt 0 (run_end (classes.SheetText (sign "\"")) bs 0) ≡ true → (opens_at bs 0 || (byte bs 0 == sign "\"")) ≡ false
goes_on bs e = go (opens_at bs 0 || (byte bs 0 == sign "\"")) refl
  where
    go : (t : Bool) → (opens_at bs 0 || (byte bs 0 == sign "\"")) ≡ t → t ≡ false
    go false f = refl
    go true f = let stay = run_stop bs (classes.SheetText (sign "\"")) 0 (stop_here bs 0 f) in absurd (let wrong : false ≡ true = sym (ap (nat_lt 0) stay) ∙ e in cc)

pub text_token : (text : List ℕ) (before : Before) (after : List ℕ) → IsTextToken text before after
unfolding text_piece
text_token text before after l some e =
    let es = escaped text in
    let bs = es ++ after in
    let run : run_end (classes.SheetText (sign "\"")) bs 0 ≡ length es = text_up [] text after l e ∙ (let z : 0 + length es ≡ length es = omega arith in z) in
    let more = text_first text after l some e in
    let none = goes_on bs more in
    if_false (byte bs 0 == sign "\"") _ _ (or_right (opens_at bs 0) _ none)
    ∙ if_false (opens_at bs 0) _ _ (or_left (opens_at bs 0) _ none)
    ∙ if_true (nat_lt 0 (run_end (classes.SheetText (sign "\"")) bs 0)) _ _ more
    ∙ ap (λ (k : ℕ). made (kinds.Text (decoded (slice_range bs 0 k))) k changes.Keep) run
    ∙ ap (λ (xs : List ℕ). made (kinds.Text (decoded xs)) (length es) changes.Keep)
    (ap (λ (n : ℕ). take n bs) (let z : length es - 0 ≡ length es = omega arith in z) ∙ take-append_seam es after)
    ∙ ap (λ (xs : List ℕ). made (kinds.Text xs) (length es) changes.Keep) (stands_for text l)

pub insert_token : (before : Before) (after : List ℕ) → IsInsertToken before after
unfolding text_piece byte
insert_token before after = refl

pub end_token : (before : Before) (after : List ℕ) → IsEndToken before after
unfolding text_piece byte
end_token before after = refl
