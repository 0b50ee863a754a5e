-- The marks of a transcript, by what is free in them.
use Rattle.std.proofs.Common.{◌≡◌, List, [], ◌∷◌, map, subst, refl, sym, ap, ◌∙◌}
use Rattle.sw_cmd_protocol.specs.Protocol.{Protocol}
use Rattle.sw_cmd_protocol.specs.Transcript.{AreMarks}
use Rattle.sw_cmd_protocol.specs.One.{OneMark, OneTranscript}

module _ {Event Mark Held Reply Free : Type 0} (p : Protocol Event Mark Held Reply) (free : Mark → Free) (one : OneMark p free) where
  pub one_transcript : OneTranscript p free
  unfolding AreMarks
  one_transcript held events [] [] a b e = refl
  one_transcript held events [] (other ∷ others) a b e = cc
  one_transcript held events (mark ∷ marks) [] a b e = cc
  one_transcript held [] (mark ∷ marks) (other ∷ others) a b e = absurd a
  one_transcript held (event ∷ events) (mark ∷ marks) (other ∷ others) a b e =
      let head : free mark ≡ free other = cc in
      let tail : map free marks ≡ map free others = cc in
      let same : mark ≡ other = one held event mark other a.0 b.0 head in
      let rest : AreMarks p (p.turn_of held event mark).held events others = subst (λ (m : Mark). AreMarks p (p.turn_of held event m).held events others) (sym same) b.1 in
      ap (λ (m : Mark). m ∷ marks) same ∙ ap (λ (ms : List Mark). other ∷ ms) (one_transcript (p.turn_of held event mark).held events marks others a.1 rest tail)
