use Rattle.std.proofs.Common.{◌≡◌, ◌<◌, ◌+◌, ◌++◌, ℕ, List, length, get_or, take, drop, false, true, refl, sym, ◌∙◌, ap, arith, string_bytes}
use Rattle.sw_text.proofs.Dashes.{boundary_start, boundary_behind}
use Rattle.sw_text.proofs.Walks.{drop-take_of}
use Rattle.sw_text_scan.specs.Bytes.{byte}
use Rattle.sw_eval_raw_text.specs.Spacing.{is_blank, stepped, is_end}
use Rattle.sw_eval_raw_text.specs.declared.spacing.Reading.{Reading}
use Rattle.sw_eval_raw_text.proofs.Spaced.{so_far, kept, put_behind, left_out}
use Rattle.sw_eval_raw_text.proofs.spacing.spaced.Goals as goal

pub bytes-init : goal.bytes-init
bytes-init c =
    record {
      done = ap (λ (xs : List ℕ). so_far c.args.is_last xs c.args.text.now 0 0 c.args.reading) c.new-name.ensures.bytes;
      boundary = boundary_start c.args.text.now c.utf8.text;
      behind = omega arith;
    }

pub bytes-preserved-then-not-is_blank : goal.bytes-preserved-then-not-is_blank
bytes-preserved-then-not-is_blank c =
    let text = c.args.text.now in
    let at = c.bytes.at in
    let l : at < length text = rw c.as_bytes-byte-items.ensures.value at c.bytes-test.true in
    let e : is_blank c.bytes.now (get_or text at 0) ≡ false = rw c.as_bytes-byte-items.ensures.value at (sym c.is_blank.ensures.test ∙ c.if-not-is_blank.true) in
    record {
      done = ap (λ (r : Reading). so_far c.args.is_last (string_bytes c.bytes.name) text c.bytes.from (at + 1) r) (c.stepped-now.ensures ∙ ap (λ (bs : List ℕ). stepped c.bytes.now (get_or bs at 0)) c.as_bytes-byte-items.ensures.value)
          ∙ kept c.args.is_last (string_bytes c.bytes.name) text c.bytes.from at c.bytes.now l c.bytes.invariant.behind e ∙ c.bytes.invariant.done;
      boundary = c.bytes.invariant.boundary;
      behind = omega arith;
    }

pub bytes-preserved : goal.bytes-preserved
bytes-preserved c =
    let text = c.args.text.now in
    let at = c.bytes.at in
    let l : at < length text = rw c.as_bytes-byte-items.ensures.value at c.bytes-test.true in
    let e : is_blank c.bytes.now (get_or text at 0) ≡ true = rw c.as_bytes-byte-items.ensures.value at (sym c.is_blank.ensures.test ∙ c.if-not-is_blank.false) in
    let name = string_bytes c.bytes.name in
    let more : string_bytes c.push_str.new.self ≡ name ++ drop c.bytes.from (take at text) = c.in_ok-push_str.ensures.bytes ∙ ap (λ (xs : List ℕ). name ++ xs) (c.range.ensures.value ∙ drop-take_of c.bytes.from at text) in
    let next : c.byte_at.result ≡ byte text (at + 1) = c.byte_at.ensures.byte ∙ ap (λ (bs : List ℕ). byte bs (at + 1)) c.as_bytes-in-bytes.ensures.value in
    let ends : c.is_end-is_end.result ≡ is_end c.args.is_last (drop (at + 1) text) = c.is_end-is_end.ensures ∙ ap (λ (bs : List ℕ). is_end c.args.is_last (drop (at + 1) bs)) c.as_bytes.ensures.value in
    record {
      done = left_out c.args.is_last name (string_bytes c.add_space.new.text) text c.bytes.from at c.bytes.now l e (put_behind name (string_bytes c.push_str.new.self) _ text c.bytes.from at c.byte_at.result c.is_end-is_end.result _ c.shows_space.result c.bytes.now more c.in_ok-add_space.ensures c.shows_space.ensures ends next)
          ∙ c.bytes.invariant.done;
      boundary = boundary_behind text at c.utf8.text l _ refl (rw c.as_bytes-byte-items.ensures.value at (c.is_blank.ensures.ascii c.if-not-is_blank.false));
      behind = omega arith;
    }
