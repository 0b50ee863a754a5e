use Rattle.std.proofs.Common.{◌≡◌, ◌+◌, ◌-◌, ◌∷◌, ◌++◌, length, take, drop, sym, ◌∙◌, ap, arith, length-drop}
use Rattle.std.proofs.lemmas.List.{take_more, take-append-drop, drop_more, take_all, take_rest}
use Rattle.sw_wire.proofs.Spaces.{word_and_more, one_word, no_space_push}
use Rattle.sw_wire.specs.Words.{words_of}
use Rattle.sw_wire.proofs.words.cut_word.Goals as goal

pub returns-then-byte-eq32-clause-words : goal.returns-then-byte-eq32-clause-words
returns-then-byte-eq32-clause-words c =
    let text = c.args.text.now in
    let i = c.loop-i.i in
    let rest : take (length text - (i + 1)) (drop (i + 1) text) ≡ drop (i + 1) text = take_rest text (i + 1) in
    let whole : text ≡ take i text ++ 32 ∷ drop (i + 1) text =
    sym (take-append-drop i text) ∙ ap (λ t. take i text ++ t) (drop_more text i 0 c.loop-i-test.true ∙ ap (λ b. b ∷ drop (i + 1) text) c.if-byte-eq32.true) in
    rw rest (ap words_of whole ∙ word_and_more (take i text) (drop (i + 1) text) c.loop-i.invariant)

pub returns-then-byte-eq32-clause-shorter : goal.returns-then-byte-eq32-clause-shorter
returns-then-byte-eq32-clause-shorter c =
    let text = c.args.text.now in
    let i = c.loop-i.i in
    rw (take_rest text (i + 1)) (omega (arith, length-drop (i + 1) text, c.loop-i-test.true))

pub loop-i-preserved : goal.loop-i-preserved
loop-i-preserved c =
    rw (take_more c.args.text.now c.loop-i.i 0 c.loop-i-test.true) (no_space_push (take c.loop-i.i c.args.text.now) _ c.loop-i.invariant c.if-byte-eq32.false)

pub returns-clause-words : goal.returns-clause-words
returns-clause-words c =
    let whole : take c.loop-i.i c.args.text.now ≡ c.args.text.now = take_all c.loop-i.i c.args.text.now c.loop-i-test.false in
    one_word c.args.text.now (rw whole at c.loop-i.invariant)
