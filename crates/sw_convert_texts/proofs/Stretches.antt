-- What a token says of the text that begins with it, or stands behind it: of so many tokens that stand directly behind.
use Rattle.std.proofs.Common.{◌≡◌, ℕ, suc, ◌+◌, ◌-◌, Bool, true, false, List, [], ◌∷◌, ◌∙◌, ap, arith}
use Rattle.sw_parse_table.specs.declared.source.Source.{Source}
use Rattle.sw_parse_table.specs.Parts.{Part}
use Rattle.sw_parse_table.specs.Sources.{Texts, from_at, to_at, texts, texts_from}
use Rattle.sw_convert_again.specs.Tokens.{Said, Before, All, Between, Behind, Says}
use Rattle.sw_convert_again.specs.Spells.{behind_insert, from_start}

-- nothing is inserted
abbrev pub none : List Part → Bool
none [] = true
none (part ∷ parts) = false

-- the text from an offset on, where so many tokens stand behind a place: to the end of the last, or up to the next
abbrev pub stretch_text : Source → Bool → ℕ → ℕ → ℕ → Texts
stretch_text source true from at count = texts_from source (to_at source (at + count)) from at count
stretch_text source false from at count = texts_from source (from_at source (suc (at + count))) from at (suc count)

abbrev pub said_start : Bool → ℕ → Texts → Said
said_start true count text = All (suc count) text
said_start false count text = Before (suc count) text

abbrev pub said_behind : Bool → ℕ → Texts → Said
said_behind true count text = Behind count text
said_behind false count text = Between count text

module _ (source : Source) (at count : ℕ) where
  one_less : (at + suc count) - 1 ≡ at + count
  one_less = omega arith

  as_many : (at + count) - at ≡ count
  as_many = omega arith

  one_more : at + suc count ≡ suc (at + count)
  one_more = omega arith

  so_many : (at + suc count) - at ≡ suc count
  so_many = omega arith

  here : suc at - 1 ≡ at
  here = omega arith

  behind_less : (suc at + count) - 1 ≡ at + count
  behind_less = omega arith

  behind_more : suc at + count ≡ suc (at + count)
  behind_more = omega arith

  behind_many : suc (at + count) - at ≡ suc count
  behind_many = omega arith

  -- the whole text from an offset on, and the text up to what is inserted
  start_end : (from : ℕ)
      → texts source (record { from = from; to = to_at source ((at + suc count) - 1); first = at; end = (at + suc count) - 1 })
      ≡ stretch_text source true from at count
  unfolding texts
  start_end from =
      ap (λ (n : ℕ). texts_from source (to_at source n) from at (n - at)) one_less
      ∙ ap (λ (n : ℕ). texts_from source (to_at source (at + count)) from at n) as_many

  start_up : (from : ℕ)
      → texts source (record { from = from; to = from_at source (at + suc count); first = at; end = at + suc count })
      ≡ stretch_text source false from at count
  unfolding texts
  start_up from =
      ap (λ (n : ℕ). texts_from source (from_at source n) from at ((at + suc count) - at)) one_more
      ∙ ap (λ (n : ℕ). texts_from source (from_at source (suc (at + count))) from at n) so_many

  behind_end :
      texts source (record { from = to_at source (suc at - 1); to = to_at source ((suc at + count) - 1); first = suc at - 1; end = (suc at + count) - 1 })
      ≡ stretch_text source true (to_at source at) at count
  unfolding texts
  behind_end =
      ap (λ (n : ℕ). texts_from source (to_at source ((suc at + count) - 1)) (to_at source n) n (((suc at + count) - 1) - n)) here
      ∙ ap (λ (n : ℕ). texts_from source (to_at source n) (to_at source at) at (n - at)) behind_less
      ∙ ap (λ (n : ℕ). texts_from source (to_at source (at + count)) (to_at source at) at n) as_many

  behind_up :
      texts source (record { from = to_at source (suc at - 1); to = from_at source (suc at + count); first = suc at - 1; end = suc at + count })
      ≡ stretch_text source false (to_at source at) at count
  unfolding texts
  behind_up =
      ap (λ (n : ℕ). texts_from source (from_at source (suc at + count)) (to_at source n) n ((suc at + count) - n)) here
      ∙ ap (λ (n : ℕ). texts_from source (from_at source n) (to_at source at) at (n - at)) behind_more
      ∙ ap (λ (n : ℕ). texts_from source (from_at source (suc (at + count))) (to_at source at) at n) behind_many

  pub start_is : (inserts : List Part)
      → from_start source at inserts (suc count)
      ≡ said_start (none inserts) count (stretch_text source (none inserts) (from_at source at) at count)
  start_is [] = ap (All (suc count)) (start_end (from_at source at))
  start_is (part ∷ parts) = ap (Before (suc count)) (start_up (from_at source at))

  pub behind_is : (inserts : List Part)
      → behind_insert source at inserts count
      ≡ said_behind (none inserts) count (stretch_text source (none inserts) (to_at source at) at count)
  behind_is [] = ap (Behind count) behind_end
  behind_is (part ∷ parts) = ap (Between count) behind_up

  pub says_start : (last : Bool) (text : Texts) → stretch_text source last (from_at source at) at count ≡ text
      → Says source at (said_start last count text)
  says_start true text e = start_end (from_at source at) ∙ e
  says_start false text e = start_up (from_at source at) ∙ e

  pub says_behind : (last : Bool) (text : Texts) → stretch_text source last (to_at source at) at count ≡ text
      → Says source at (said_behind last count text)
  says_behind true text e = behind_end ∙ e
  says_behind false text e = behind_up ∙ e
