use Rattle.std.proofs.Common.{◌≡◌, ◌<◌, ◌+◌, ◌++◌, ◌∷◌, [], ℕ, List, length, get_or, take, drop, map, false, true, refl, sym, ◌∙◌, ap, arith}
use Rattle.sw_text.proofs.Dashes.{boundary_start, boundary_behind}
use Rattle.sw_text.proofs.Walks.{drop-take_of}
use Rattle.sw_eval_raw_text.specs.Cutting.{is_cut, stepped, bare_part, nothing}
use Rattle.sw_eval_raw_text.specs.declared.cutting.Open.{Open}
use Rattle.sw_eval_raw_text.proofs.Cuts.{so_far, goes_on, cut_off, before_nothing}
use Rattle.sw_eval_raw_text.proofs.cutting.parts_of.Goals as goal

pub bytes-init : goal.bytes-init
bytes-init c =
    record {
      done = ap (λ (parts : List (List ℕ)). so_far parts c.args.text.now 0 0 c.nothing-here.result) c.new-parts.ensures
          ∙ ap (λ (here : Open). so_far [] c.args.text.now 0 0 here) c.nothing-here.ensures
          ∙ ap (map bare_part) (before_nothing nothing c.args.text.now);
      boundary = boundary_start c.args.text.now c.utf8.text;
      behind = omega arith;
      shallow = rw c.nothing-here.ensures (omega arith);
    }

pub bytes-preserved-then-not-is_cut : goal.bytes-preserved-then-not-is_cut
bytes-preserved-then-not-is_cut c =
    let text = c.args.text.now in
    let at = c.bytes.at in
    let l : at < length text = rw c.as_bytes-byte-items.ensures.value at c.bytes-test.true in
    let e : is_cut c.bytes.here (get_or text at 0) (drop (at + 1) text) ≡ false = rw (c.as_bytes-byte-items.ensures.value, c.as_bytes.ensures.value) at (sym c.is_cut.ensures.test ∙ c.if-not-is_cut.true) in
    record {
      done = ap (λ (here : Open). so_far c.bytes.parts text c.bytes.from (at + 1) here) (c.stepped-here.ensures.state ∙ ap (λ (bs : List ℕ). stepped c.bytes.here (get_or bs at 0)) c.as_bytes-byte-items.ensures.value)
          ∙ goes_on c.bytes.parts text c.bytes.from at c.bytes.here l c.bytes.invariant.behind e ∙ c.bytes.invariant.done;
      boundary = c.bytes.invariant.boundary;
      behind = omega arith;
      shallow = omega (arith, c.stepped-here.ensures.one);
    }

pub bytes-preserved : goal.bytes-preserved
bytes-preserved c =
    let text = c.args.text.now in
    let at = c.bytes.at in
    let l : at < length text = rw c.as_bytes-byte-items.ensures.value at c.bytes-test.true in
    let e : is_cut c.bytes.here (get_or text at 0) (drop (at + 1) text) ≡ true = rw (c.as_bytes-byte-items.ensures.value, c.as_bytes.ensures.value) at (sym c.is_cut.ensures.test ∙ c.if-not-is_cut.false) in
    let made : c.add_part.new.parts ≡ c.bytes.parts ++ bare_part (drop c.bytes.from (take at text)) ∷ [] =
    c.in_ok-add_part.ensures ∙ ap (λ (xs : List ℕ). c.bytes.parts ++ bare_part xs ∷ []) (c.range.ensures.value ∙ drop-take_of c.bytes.from at text) in
    record {
      done = ap (λ (here : Open). so_far c.add_part.new.parts text (at + 1) (at + 1) here) c.nothing-here-in-bytes.ensures
          ∙ cut_off c.bytes.parts c.add_part.new.parts text c.bytes.from at c.bytes.here l e made ∙ c.bytes.invariant.done;
      boundary = boundary_behind text at c.utf8.text l _ refl (rw c.as_bytes-byte-items.ensures.value at (c.is_cut.ensures.ascii c.if-not-is_cut.false));
      behind = omega arith;
      shallow = rw c.nothing-here-in-bytes.ensures (omega arith);
    }
