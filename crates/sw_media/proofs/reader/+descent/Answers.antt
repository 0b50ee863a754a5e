use Rattle.std.proofs.Common.{◌≡◌, ℕ, ◌+◌, ◌-◌, List, [], ◌∷◌, true, length, sym, ◌∙◌, ap, arith}
use Rattle.sw_media.specs.Words.{white, name_end, is_at}
use Rattle.sw_media.specs.Reading.{feature_at, features_at, condition_at, conditions_in, more_from}
use Rattle.sw_media.proofs.Loops.{handed_on, condition_fails, next_at, more_fails, more_goes}
use Rattle.sw_media.proofs.reader.+descent.Goals as goal

pub condition_at-returns-in_err-first : goal.condition_at-returns-in_err-first
condition_at-returns-in_err-first t c =
    let bs = c.args.text.now in
    let deeper = conditions_in bs c.args.levels in
    handed_on c.in_err-first.field-0.0 c.from_residual.result (feature_at deeper bs c.args.at) (condition_at deeper bs c.args.at)
    c.from_residual.ensures.1 c.in_err-first.ensures (λ e. condition_fails deeper bs c.args.at (sym c.if-is_at.ensures) e)

pub features_at-returns-in_err-feature : goal.features_at-returns-in_err-feature
features_at-returns-in_err-feature t c =
    let bs = c.args.text.now in
    let deeper = conditions_in bs c.args.levels in
    let keyword = c.args.keyword.now in
    let i = c.features.place in
    let p : c.white-next.result ≡ white bs i = c.white-next.ensures ∙ ap (λ (xs : List ℕ). white xs i) c.as_bytes.ensures.value in
    let e : is_at keyword bs (white bs i) ≡ true = ap (is_at keyword bs) (sym p) ∙ sym c.if-not-is_at.ensures in
    let n : c.name_end.result ≡ name_end bs (white bs i) =
    c.name_end.ensures ∙ ap (λ (xs : List ℕ). name_end xs c.white-next.result) c.as_bytes-in-features-2.ensures.value ∙ ap (name_end bs) p in
    let q : c.white-behind.result ≡ next_at deeper bs i =
    c.white-behind.ensures ∙ ap (λ (xs : List ℕ). white xs c.name_end.result) c.as_bytes-in-features.ensures.value ∙ ap (white bs) n in
    handed_on c.in_err-feature.field-0.0 c.from_residual-in_err-feature.result (feature_at deeper bs c.white-behind.result)
    (features_at deeper bs keyword (c.args.first ∷ []) c.args.at) c.from_residual-in_err-feature.ensures.1 c.in_err-feature.ensures
    (λ z. sym c.features.invariant
    ∙ more_fails deeper bs keyword ((length bs + 1) - c.features._turn) c.features.list i (omega arith) e (ap (feature_at deeper bs) (sym q) ∙ z))

pub features_at-features-preserved : goal.features_at-features-preserved
features_at-features-preserved t c =
    let bs = c.args.text.now in
    let deeper = conditions_in bs c.args.levels in
    let keyword = c.args.keyword.now in
    let i = c.features.place in
    let k = (length bs + 1) - c.features._turn in
    let p : c.white-next.result ≡ white bs i = c.white-next.ensures ∙ ap (λ (xs : List ℕ). white xs i) c.as_bytes.ensures.value in
    let e : is_at keyword bs (white bs i) ≡ true = ap (is_at keyword bs) (sym p) ∙ sym c.if-not-is_at.ensures in
    let n : c.name_end.result ≡ name_end bs (white bs i) =
    c.name_end.ensures ∙ ap (λ (xs : List ℕ). name_end xs c.white-next.result) c.as_bytes-in-features-2.ensures.value ∙ ap (name_end bs) p in
    let q : c.white-behind.result ≡ next_at deeper bs i =
    c.white-behind.ensures ∙ ap (λ (xs : List ℕ). white xs c.name_end.result) c.as_bytes-in-features.ensures.value ∙ ap (white bs) n in
    let less : (length bs + 1) - (c.features._turn + 1) ≡ k - 1 = omega arith in
    ap (λ (m : ℕ). more_from deeper bs keyword m c.push-in-features.new.self c.in_ok-feature.to) less
    ∙ ap (λ (list : List (List ℕ)). more_from deeper bs keyword (k - 1) list c.in_ok-feature.to) c.in_ok-push-2.ensures.ok
    ∙ sym (more_goes deeper bs keyword k c.features.list i c.in_ok-feature.feature c.in_ok-feature.to (omega arith) e (ap (feature_at deeper bs) (sym q) ∙ c.in_ok-feature.ensures))
    ∙ c.features.invariant
