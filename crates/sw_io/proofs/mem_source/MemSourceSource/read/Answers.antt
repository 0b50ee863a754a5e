use Rattle.std.proofs.Common.{◌≡◌, ℕ, ◌+◌, ◌-◌, List, [], ◌++◌, length, take, drop, sym, ap, ◌∙◌, add-zero}
use Rattle.std.proofs.lemmas.List.{take-append-drop, take_rest, drop-drop}
use Rattle.sw_io.specs.Memory.{Giver}
use Rattle.sw_io.proofs.mem_source.MemSourceSource.read.Goals as goal

-- the first n of the bytes behind a place were given
given : (bytes rest buffer : List ℕ) (at n : ℕ) → rest ≡ drop at bytes → take n buffer ≡ take n rest → drop at bytes ≡ take n buffer ++ drop (at + n) bytes
given bytes rest buffer at n r e =
    sym (take-append-drop n (drop at bytes)) ∙ ap (λ t. t ++ drop n (drop at bytes)) (sym (e ∙ ap (take n) r)) ∙ ap (λ t. take n buffer ++ t) (drop-drop n at bytes)

-- none was given, so none is left
ended : (bytes rest : List ℕ) (at n : ℕ) → rest ≡ drop at bytes → n ≡ 0 → rest ≡ [] → drop (at + n) bytes ≡ []
ended bytes rest at n r z e = ap (λ k. drop (at + k) bytes) z ∙ rw add-zero (sym r ∙ e)

pub returns-clause-bytes : goal.returns-clause-bytes
returns-clause-bytes c =
    let s = c.self.inside in
    let e = c.give-count.ensures in
    let rest : take (length c.as_slice.result.now - s.at) (drop s.at c.as_slice.result.now) ≡ drop s.at s.bytes =
    take_rest c.as_slice.result.now s.at ∙ ap (drop s.at) c.as_slice.ensures in (
      sym (ap (λ (g : Giver). g.left) c.self.view_is) ∙ given s.bytes _ c.give-count.new.buf s.at c.give-count.result rest e.front,
      λ z room. ended s.bytes _ s.at c.give-count.result rest z (e.none z room),
    )
