use Rattle.std.proofs.Common.{◌≡◌, [], ◌∷◌, ◌++◌, ap, sym, ◌∙◌, append_assoc, arith}
use Rattle.std.proofs.lemmas.List.{length_push}
use Rattle.sw_wire.specs.Words.{rest_words}
use Rattle.sw_wire.specs.Requests.{bases_by}
use Rattle.sw_wire.proofs.LoadPaths.{bases_push, bases_many, bases_wrong, bases_end, shorter_left}
use Rattle.sw_wire.proofs.bases.read_bases.Goals as goal

pub returns-then-len-ge-MOST_BASES : goal.returns-then-len-ge-MOST_BASES
returns-then-len-ge-MOST_BASES c =
    let i = c.loop-rest.invariant in
    let words = c.cut_word.ensures.words in
    ap bases_by (i.all ∙ ap (λ rest. c.loop-rest.bases ++ rest_words rest) c.in-Some.is ∙ ap (λ rest. c.loop-rest.bases ++ rest) words)
    ∙ bases_many c.loop-rest.bases (rest_words c.cut_word.result.1) c.cut_word.result.0.now (omega arith)

pub returns-in_default-base_text : goal.returns-in_default-base_text
returns-in_default-base_text c =
    let i = c.loop-rest.invariant in
    let words = c.cut_word.ensures.words in
    ap bases_by (i.all ∙ ap (λ rest. c.loop-rest.bases ++ rest_words rest) c.in-Some.is ∙ ap (λ rest. c.loop-rest.bases ++ rest) words)
    ∙ bases_wrong c.loop-rest.bases (rest_words c.cut_word.result.1) c.cut_word.result.0.now c.in_default-base_text.ensures

pub loop-rest-smaller : goal.loop-rest-smaller
loop-rest-smaller c = shorter_left c.loop-rest.rest c.cut_word.result.1 c.in-Some.text c.in-Some.is c.cut_word.ensures.shorter

pub loop-rest-preserved : goal.loop-rest-preserved
loop-rest-preserved c =
    let i = c.loop-rest.invariant in
    let bases = c.loop-rest.bases in
    let word = c.cut_word.result.0.now in
    let base : c.in_ok-new.field-0 ≡ word = c.in_ok-new.ensures ∙ c.in-Some-base_text.ensures.1 in
    let pushed : c.push.new.self ≡ bases ++ word ∷ [] = c.in_ok-push.ensures.ok ∙ ap (λ b. bases ++ b ∷ []) base in
    rw pushed record {
      all = i.all ∙ ap (λ rest. bases ++ rest_words rest) c.in-Some.is ∙ ap (λ rest. bases ++ rest) c.cut_word.ensures.words
          ∙ sym (append_assoc bases (word ∷ []) (rest_words c.cut_word.result.1));
      few = omega (arith, length_push bases word);
      good = bases_push bases word i.good c.in-Some-base_text.ensures.0;
    }

pub returns : goal.returns
returns c =
    let i = c.loop-rest.invariant in
    bases_end (rest_words c.args.left) c.loop-rest.bases (i.all ∙ ap (λ rest. c.loop-rest.bases ++ rest_words rest) c.in_default.is) i.few i.good
