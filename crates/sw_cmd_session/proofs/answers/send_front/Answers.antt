use Rattle.std.proofs.Common.{◌++◌, List, ℕ, codes, sym, ap, ◌∙◌, append_assoc, Result, Ok, Err, OnErr, option_copied}
use Rattle.sw_wire.specs.Replies.{css_behind}
use Rattle.sw_cmd_protocol.proofs.Writing.{appends_on}
use Rattle.sw_cmd_session.proofs.answers.send_front.Goals as goal

on_err : {T E P : Type 0} → (r : Result T E) → P → OnErr r P
on_err (Ok x) p = tt
on_err (Err x) p = p

pub returns-in_err-send-clause-err : goal.returns-in_err-send-clause-err
returns-in_err-send-clause-err g c =
    let cut = c.in_err-send.ensures.err in
    let behind : List ℕ = css_behind (option_copied c.args.css) in
    on_err c.from_residual.result (cut.0, cut.1 ++ behind, ap (λ t. t ++ behind) cut.2 ∙ append_assoc cut.0 cut.1 behind, cut.3)

pub returns-in_err-send-2-clause-err : goal.returns-in_err-send-2-clause-err
returns-in_err-send-2-clause-err g c =
    let cut = c.in_err-send-2.ensures.err in
    let front : List ℕ = c.args.front.now in
    on_err c.from_residual-in_err-send-2.result (
      front ++ cut.0,
      cut.1 ++ codes "\n",
      ap (λ css. front ++ css_behind (option_copied css)) c.in-Some.is
          ∙ ap (λ t. front ++ (t ++ codes "\n")) cut.2 ∙ ap (λ t. front ++ t) (append_assoc cut.0 cut.1 (codes "\n")) ∙ sym (append_assoc front cut.0 (cut.1 ++ codes "\n")),
      appends_on _ _ _ front cut.0 c.in_ok-send.ensures.ok cut.3,
    )

pub returns-in_err-send-3-clause-err : goal.returns-in_err-send-3-clause-err
returns-in_err-send-3-clause-err g c =
    let cut = c.in_err-send-3.ensures.err in
    let front : List ℕ = c.args.front.now in
    let bytes : List ℕ = c.in-Some.bytes.now in
    on_err c.from_residual-in_err-send-3.result (
      (front ++ bytes) ++ cut.0,
      cut.1,
      ap (λ css. front ++ css_behind (option_copied css)) c.in-Some.is
          ∙ ap (λ t. front ++ (bytes ++ t)) cut.2 ∙ sym (append_assoc front bytes (cut.0 ++ cut.1)) ∙ sym (append_assoc (front ++ bytes) cut.0 cut.1),
      appends_on _ _ _ (front ++ bytes) cut.0 (appends_on _ _ _ front bytes c.in_ok-send.ensures.ok c.in_ok-send-2.ensures.ok) cut.3,
    )
