-- White space between tokens is a piece where it may stand.
use Rattle.std.proofs.Common.{◌≡◌, ℕ, ◌+◌, true, false, not, ◌&&◌, List, ◌∙◌, ap, arith}
use Rattle.std.specs.Prelude.{◌==◌, nat_lt}
use Rattle.std.proofs.lemmas.Bool.Decides.{nat_tests}
use Rattle.sw_text_scan.specs.declared.runs.Class.TheVariants as classes
use Rattle.sw_text_scan.specs.Bytes.{sign, byte, is_white, is_url_byte, opens_at}
use Rattle.sw_text_scan.specs.Runs.{run_end, escape_end, goes_in_url, goes_in_inner_url}
use Rattle.sw_text_scan.proofs.Bounds.{if_true, if_false, run_stop}
use Rattle.sw_tokens.specs.declared.pieces.Before.{Before}
use Rattle.sw_tokens.specs.declared.skips.Inside.{Inside}
use Rattle.sw_tokens.specs.declared.skips.Inside.TheVariants as insides
use Rattle.sw_tokens.specs.Pieces.{made_white, url_piece, piece}
use Rattle.sw_tokens.proofs.Walks.{gap_piece}
use Rattle.sw_convert_spelling.specs.Spelt.{takes_gap}
use Rattle.sw_convert_spelling.proofs.Choices.{left_no}

white_url : (b : ℕ) → is_white b ≡ true → is_url_byte b ≡ false
white_url b e = grind (arith, nat_tests)

white_paren : (b : ℕ) → is_white b ≡ true → (b == sign ")") ≡ false
white_paren b e = grind (arith, nat_tests)

white_hash : (b : ℕ) → is_white b ≡ true → (b == sign "#") ≡ false
white_hash b e = grind (arith, nat_tests)

white_slash : (b : ℕ) → is_white b ≡ true → (b == sign "\\") ≡ false
white_slash b e = grind (arith, nat_tests)

module _ (bs : List ℕ) (at : ℕ) (e : is_white (byte bs at) ≡ true) where
  no_escape : escape_end bs at ≡ at
  unfolding escape_end
  no_escape = if_true (not (byte bs at == sign "\\")) at _ (ap not (white_slash (byte bs at) e))

  no_url : is_url_byte (byte bs at) ≡ false
  no_url = white_url (byte bs at) e

  url_stays : run_end classes.Url bs at ≡ at
  url_stays =
      let n = if_false (goes_in_url bs at) (at + 1) (escape_end bs at) (left_no (is_url_byte (byte bs at)) _ no_url)
      ∙ no_escape in
      run_stop bs classes.Url at (omega (arith, n))

  inner_stays : run_end classes.UrlInside bs at ≡ at
  inner_stays =
      let n = if_false (goes_in_inner_url bs at) (at + 1) (escape_end bs at)
      (left_no (is_url_byte (byte bs at) && _) _ (left_no (is_url_byte (byte bs at)) _ no_url)) ∙ no_escape in
      run_stop bs classes.UrlInside at (omega (arith, n))

  stays : (n : ℕ) → n ≡ at → nat_lt at n ≡ false
  stays n f = grind (arith, nat_tests)

  pub white_piece : (inside : Inside) (before : Before) → takes_gap inside ≡ true
      → piece bs inside before at ≡ made_white (run_end classes.White bs at)
  unfolding url_piece
  white_piece insides.Sheet before t = gap_piece bs insides.Sheet before at e
  white_piece insides.Interpolation before t = gap_piece bs insides.Interpolation before at e
  white_piece insides.Url before t =
      if_false (byte bs at == sign ")") _ _ (white_paren (byte bs at) e)
      ∙ if_false (opens_at bs at) _ _ (left_no (byte bs at == sign "#") _ (white_hash (byte bs at) e))
      ∙ if_false _ _ _ (stays (run_end classes.Url bs at) url_stays)
      ∙ if_true (is_white (byte bs at)) _ _ e
  white_piece insides.UrlInside before t =
      if_false (byte bs at == sign ")") _ _ (white_paren (byte bs at) e)
      ∙ if_false (opens_at bs at) _ _ (left_no (byte bs at == sign "#") _ (white_hash (byte bs at) e))
      ∙ if_false _ _ _ (stays (run_end classes.UrlInside bs at) inner_stays)
      ∙ if_true (is_white (byte bs at)) _ _ e
  white_piece insides.Css before t = absurd (cc)
  white_piece (insides.Quotes q) before t = absurd (cc)
  white_piece insides.Comment before t = absurd (cc)
