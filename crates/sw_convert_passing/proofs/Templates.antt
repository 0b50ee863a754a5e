-- Strings and urls with `#{}`.
use Rattle.std.proofs.Common.{◌≡◌, ℕ, ◌+◌, Bool, true, false, List, [], ◌∷◌, ◌++◌, Some, refl, ◌∙◌, ap}
use Rattle.sw_parse_terminals.specs.declared.terminal.Terminal.TheVariants as terminals
use Rattle.sw_parse_lexemes.specs.declared.sort.Sort.{Sort}
use Rattle.sw_parse_lexemes.specs.declared.plain.Plain.{Plain}
use Rattle.sw_parse_lexemes.specs.declared.state.Mode.{Mode}
use Rattle.sw_parse_lexemes.specs.declared.state.Mode.TheVariants as modes
use Rattle.sw_parse_lexemes.specs.declared.state.Bracket.TheVariants as brackets
use Rattle.sw_parse_lexemes.specs.declared.state.Frame.{Frame}
use Rattle.sw_parse_lexemes.specs.declared.state.State.{State}
use Rattle.sw_parse_lexemes.specs.Classes.{is_comment}
use Rattle.sw_parse_lexemes.specs.Signs.{ends_operand, is_text}
use Rattle.sw_parse_lexemes.specs.Steps.{opened_by, begins_statement, in_word, after}
use Rattle.sw_convert_passing.specs.Written.{Written, written, direct, Stand, Within}
use Rattle.sw_convert_passing.specs.Places.{Told}
use Rattle.sw_convert_passing.specs.Kinds.{is_lone, lone}
use Rattle.sw_convert_passing.specs.Values.{enclosed, inserted}
use Rattle.sw_convert_passing.proofs.Facts.{inner_text, opens_text}
use Rattle.sw_convert_passing.proofs.Steps.{Reads, join, step, stay_at, next, framed, opens, is_closing, closes}
use Rattle.sw_convert_passing.proofs.BySort.{lone_here}
use Rattle.sw_convert_passing.proofs.Tokens.{code_here, text_insert_here}
use Rattle.sw_convert_passing.proofs.Entries.{split, Entry, Result, result, reads, one_of, Plainly, IsTold}
use Rattle.sw_convert_passing.proofs.Enclosed.{IsInner, insert_round, and_rest}

-- what stands between the ends of one
abbrev pub IsPieces : List Written → Type 0
IsPieces tokens =
    (plains : List Plain) (frames : List Frame) (state : State) (at to : ℕ) → Within modes.Text frames state
    → state.word ≡ false → Stand plains at tokens to → Told plains modes.Text frames state at tokens to

told_by : {plains : List Plain} {frames : List Frame} {state : State} {at to : ℕ} {tokens : List Written} (end : State)
    → Reads plains state at tokens end to → Within modes.Text frames end
    → Told plains modes.Text frames state at tokens to
told_by end (lexemes, passed) within = record { lexemes = lexemes; end = end; passed = passed; within = within }

pub no_piece_told : IsPieces []
no_piece_told plains frames state at to within word stand = told_by state (stay_at stand) within

-- a token of text
pub record Piecely (sort : Sort) : Type 0 where
  pub alone : is_lone sort ≡ true
  pub code : is_comment sort ≡ false
  pub plainly : Plainly (lone sort)
  pub word : in_word (lone sort) ≡ false

pub text_piece_told : (what : Sort) (pieces : List Written) → Piecely what → IsPieces pieces
    → IsPieces (direct what (lone what) ∷ pieces)
text_piece_told what pieces p told plains frames state at to within word (there, stand) =
    let is_one = lone_here state plains at (ap is_text within.mode_is) what p.alone there.sort in
    let n = next state within refl (lone what) p.plainly.goes p.plainly.begins in
    let s1 = after state (lone what) in
    let t = told plains frames s1 (at + 1) to n.within (n.word ∙ p.word) stand in
    told_by t.end
    (join (step plains state at (direct what (lone what)) (lone what) within there p.code is_one one_of) (reads t))
    t.within

pub piece_insert_told : (inner pieces : List Written) → IsInner inner → IsPieces pieces
    → IsPieces (inserted false terminals.Insert inner pieces)
piece_insert_told inner pieces told more plains frames state at to within word stand =
    let i = insert_round state false false terminals.Insert inner pieces within refl
    (record {
      opened = refl;
      begins = refl;
      leads = record { before = refl; operand = refl; comma = refl };
      word =
          refl;
    })
    told stand (text_insert_here state plains at within word stand.0.sort) in
    let t = more plains frames i.end i.place to i.within i.word i.others in
    told_by t.end (and_rest false terminals.Insert inner pieces i.reads (reads t)) t.within

-- how a template begins and ends
pub record Ends (sort last : Sort) : Type 0 where
  pub alone : is_lone sort ≡ true
  pub code : is_comment sort ≡ false
  pub text : opens_text (lone sort) ≡ true
  pub opened : opened_by (lone sort) ≡ Some brackets.Text
  pub begins : begins_statement (lone sort) ≡ false
  pub last_alone : is_lone last ≡ true
  pub last_code : is_comment last ≡ false
  pub closing : is_closing (lone last) ≡ true
  pub operand : ends_operand (lone last) ≡ true

pub template_told : {mode : Mode} {spaced : Bool} (sort last : Sort) (inner : List Written) → Ends sort last
    → IsPieces inner
    → IsTold mode spaced false (enclosed (written sort spaced (lone sort)) inner (direct last (lone last)) [])
template_told {mode} {spaced} sort last inner ends told = record {
  begins = refl;
  told = λ plains frames state at to entry stand closed. go plains frames state at to entry stand;
}
  where
    go : (plains : List Plain) (frames : List Frame) (state : State) (at to : ℕ) → Entry mode frames state spaced false
        → Stand plains at (enclosed (written sort spaced (lone sort)) inner (direct last (lone last)) []) to
        → Result plains mode frames state at
        (enclosed (written sort spaced (lone sort)) inner (direct last (lone last)) []) to
    go plains frames state at to entry (there, stand) =
        let (place, stands, (end_there, e)) = split plains to inner (direct last (lone last) ∷ []) (at + 1) stand in
        let is_one = lone_here state plains at (code_here entry.value state entry.within plains at) sort ends.alone
        there.sort in
        let n = opens state entry.within (lone sort) brackets.Text modes.Text ends.opened ends.begins
        (inner_text mode (lone sort) ends.text) in
        let s1 = after state (lone sort) in
        let t = told plains (frames ++ framed brackets.Text (lone sort) mode ∷ []) s1 (at + 1) place n.within n.word
        stands in
        let is_last = lone_here t.end plains place (ap is_text t.within.mode_is) last ends.last_alone end_there.sort in
        let m = closes (framed brackets.Text (lone sort) mode) t.end t.within (lone last) ends.closing in
        result (after t.end (lone last))
        (join (step plains state at (written sort spaced (lone sort)) (lone sort) entry.within there ends.code is_one
        one_of)
        (join (reads t)
        (join (step plains t.end place (direct last (lone last)) (lone last) t.within end_there ends.last_code
        is_last one_of) (stay_at e))))
        m.within (ap ends_operand m.before ∙ ends.operand)
