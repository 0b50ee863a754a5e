-- What comes of a put, whatever the protocol.
use Rattle.std.proofs.Common.{◌≡◌, ℕ, List, [], ◌∷◌, ◌++◌, length, inl, refl, sym, ap, ◌∙◌}
use Rattle.std.proofs.lemmas.List.{append-nil}
use Rattle.sw_folder.specs.Files.{Files}
use Rattle.sw_folder.specs.Edits.{after_put, folder_after}
use Rattle.sw_cmd_protocol.specs.declared.stop.Stop.{Stop}
use Rattle.sw_cmd_protocol.specs.declared.stop.Stop.TheVariants.{Ended, Wrong, CutOff, SourceFailed, SinkFailed, Memory, OutsideFailed, Over as Over_stop}
use Rattle.sw_cmd_protocol.specs.Protocol.{Protocol}
use Rattle.sw_cmd_protocol.specs.Script.{Next}
use Rattle.sw_cmd_protocol.specs.Turns.{Place, Uses, standing, Takes, Answers, TurnEnds}
use Rattle.sw_cmd_protocol.proofs.Saying.{says, says_some}
use Rattle.sw_cmd_edits.specs.Puts.{put_next, edit_turn}
use Rattle.sw_cmd_edits.specs.Edits.{Judged, PutAnswers, PutStops}
use Rattle.sw_cmd_edits.proofs.Nexts.{put_whole, put_wrong, put_short}

-- how a protocol carries out puts of this path: as edits of the folder, over which it holds the rest
pub record CarriesOut {Event Mark Held Reply : Type 0} (p : Protocol Event Mark Held Reply) (put : List ℕ → Event) (mark : Mark) (before : Held) (over : Files → Held) (folder : Files) (path : List ℕ) : Type 0 where
  pub turn : (bytes : List ℕ) → p.turn_of before (put bytes) mark ≡ edit_turn over folder (after_put path bytes folder)
  pub is_mark : (bytes : List ℕ) → p.IsMark before (put bytes) mark
  pub is_said : (bytes : List ℕ) → p.IsSaid before (put bytes) mark
  pub held : over folder ≡ before

module _ {Event Mark Held Reply : Type 0} (p : Protocol Event Mark Held Reply) (put : List ℕ → Event) (mark : Mark) (before after : Held) (over : Files → Held) (folder folder_now : Files) (path : List ℕ)
    (carries : CarriesOut p put mark before over folder path) (keeps : after ≡ over folder_now) (ran : List (List ℕ)) where
  module _ (bytes reply : List ℕ) (judged : Judged path bytes folder folder_now reply) where
    held_then : after ≡ over (folder_after (after_put path bytes folder) folder)
    held_then = keeps ∙ ap over judged.folder

  -- its line was read, and these are the places before and after it
  module _ (meaning : List ℕ → Next Event) (count : ℕ) (front : (bytes : List ℕ) → meaning bytes ≡ put_next put count bytes) (old new : Place) where
    takes : (bytes : List ℕ) → length bytes ≡ count → Uses old (bytes ++ 10 ∷ []) new → Takes meaning (put bytes) old new
    takes bytes long uses = record { used = bytes ++ 10 ∷ []; uses = uses; whole = λ rest. front ((bytes ++ 10 ∷ []) ++ rest) ∙ put_whole put count bytes long rest }

    pub put_answers : PutAnswers path count old folder new folder_now → Answers meaning p [] old (standing before ran) new (standing after ran)
    put_answers a = record {
      event = put a.bytes;
      takes = takes a.bytes a.long a.uses;
      says = says p (put a.bytes) mark (standing before ran) (standing after ran) (edit_turn over folder (after_put path a.bytes folder)) (carries.turn a.bytes) (carries.is_mark a.bytes)
          (held_then a.bytes a.reply a.judged) (sym (append-nil ran)) old.written new.written a.reply a.judged.reply [] refl (carries.is_said a.bytes) a.sends;
    }

    stays : folder_now ≡ folder → standing after ran ≡ standing before ran
    stays same = ap (λ (h : Held). standing h ran) (keeps ∙ ap over same ∙ carries.held)

    pub put_stops : (stop : Stop) → PutStops stop path count old folder new folder_now → TurnEnds meaning p stop old (standing before ran) new (standing after ran)
    put_stops Ended a = absurd a
    put_stops Wrong a =
        let b = a.ends in (
          record {
            used = a.used;
            uses = a.uses;
            means = λ rest. front (a.used ++ rest) ∙ ap (λ t. put_next put count (t ++ rest)) b.2 ∙ put_wrong put count b.0 b.1 b.3 b.4 rest;
            sends = a.sends;
          },
          stays a.same,
        )
    put_stops CutOff a =
        (record { used = a.used; uses = a.uses; means = front a.used ∙ put_short put count a.used a.ends.0; none = a.ends.1; sends = a.sends }, a.ends.2, stays a.same)
    put_stops SourceFailed a =
        (record { used = a.used; uses = a.uses; means = front a.used ∙ put_short put count a.used a.ends.0; none = a.ends.1; sends = a.sends }, stays a.same)
    put_stops SinkFailed a = record {
      event = put a.bytes;
      takes = takes a.bytes a.long a.uses;
      says = says_some p (put a.bytes) mark (standing before ran) (standing after ran) (edit_turn over folder (after_put path a.bytes folder)) (carries.turn a.bytes) (carries.is_mark a.bytes)
          (held_then a.bytes a.reply a.judged) (sym (append-nil ran)) old.written new.written a.reply a.judged.reply a.sends;
      near = a.near;
    }
    put_stops Memory a = inl (record { used = a.used; uses = a.uses; sends = a.sends }, stays a.same)
    put_stops OutsideFailed a = absurd a
    put_stops Over_stop a = absurd a
