use Rattle.std.proofs.Common.{[], ◌++◌, take, drop, append_assoc, sym, ap, ◌∙◌, refl}
use Rattle.std.proofs.lemmas.List.{take-append-drop, take_rest}
use Rattle.sw_cmd_protocol.proofs.Writing.{appends_none, appends_on}
use Rattle.sw_cmd_protocol.proofs.sending.send.Goals as goal

pub loop-rest-init : goal.loop-rest-init
loop-rest-init g c = record { sent = ([], refl, appends_none _); fine = refl }

pub loop-rest-preserved : goal.loop-rest-preserved
loop-rest-preserved g c =
    let i = c.loop-rest.invariant in
    let n = c.in_ok-count.count in
    let e = c.in_ok-count.ensures in
    let rest = c.loop-rest.rest.now in
    rw (take_rest rest n) record {
      sent = (
        i.sent.0 ++ take n rest,
        i.sent.1 ∙ ap (λ t. i.sent.0 ++ t) (sym (take-append-drop n rest)) ∙ sym (append_assoc i.sent.0 (take n rest) (drop n rest)),
        appends_on _ _ _ i.sent.0 (take n rest) i.sent.2 e.bytes,
      );
      fine = e.cause.fine ∙ i.fine;
    }
