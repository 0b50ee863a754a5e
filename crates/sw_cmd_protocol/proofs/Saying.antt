-- A request that was carried out, and its reply.
use Rattle.std.proofs.Common.{◌≡◌, ℕ, List, ◌++◌, sym, ap, ◌∙◌, subst}
use Rattle.std.specs.declared.option.Option.{Option}
use Rattle.std.specs.Io.KnownBytes.{Appends}
use Rattle.sw_cmd_protocol.specs.declared.stop.Stop.{Stop}
use Rattle.sw_cmd_protocol.specs.declared.stop.Stop.TheVariants.{Ended, Wrong, CutOff, SourceFailed, SinkFailed, Memory, OutsideFailed, Over as Over_stop}
use Rattle.sw_cmd_protocol.specs.Protocol.{Protocol, Turn}
use Rattle.sw_cmd_protocol.specs.Sending.{IsCutShort, SendEnds}
use Rattle.sw_cmd_protocol.specs.Turns.{Standing, Does, Says, SaysSome, SayStops}

-- as this turn
module _ {Event Mark Held Reply : Type 0} (p : Protocol Event Mark Held Reply) (event : Event) (mark : Mark) (before after : Standing Held) (turn : Turn Held Reply)
    (is : p.turn_of before.held event mark ≡ turn) (m : p.IsMark before.held event mark) (h : after.held ≡ turn.held) (r : after.ran ≡ before.ran ++ turn.ran) where
  abbrev pub does : Does p event before after
  does = record {
    mark = mark;
    is_mark = m;
    ran = r ∙ ap (λ (x : Turn Held Reply). before.ran ++ x.ran) (sym is);
    held = h ∙ ap (λ (x : Turn Held Reply). x.held) (sym is);
  }

  -- with this reply
  module _ (written now : Option (List ℕ)) (reply : List ℕ) (e : reply ≡ turn.text) where
    pub says : (told : List Reply) → turn.told ≡ told → p.IsSaid before.held event mark → Appends written now reply → Says p event told before after written now
    says told o s a = record {
      does = does;
      tells = ap (λ (x : Turn Held Reply). x.told) is ∙ o;
      said = s;
      sends = subst (λ (x : List ℕ). Appends written now x) (e ∙ ap (λ (x : Turn Held Reply). x.text) (sym is)) a;
    }

    pub says_some : IsCutShort reply written now → SaysSome p event before after written now
    says_some s = record {
      does = does;
      front = s.0;
      back = s.1;
      parts = ap (λ (x : Turn Held Reply). x.text) is ∙ sym e ∙ s.2;
      sends = s.3;
    }

    -- nothing but a fault of the sink kept it from being written whole
    pub cut_short : (stop : Stop) → (stop ≡ SinkFailed) × IsCutShort reply written now → SayStops p stop event before after written now
    cut_short stop s = subst (λ (x : Stop). SayStops p x event before after written now) (sym s.0) (says_some s.1)

    -- or no memory was found for its text
    pub send_ends : p.IsLeft Memory mark → (stop : Stop) → SendEnds stop reply written now → SayStops p stop event before after written now
    send_ends left Ended s = absurd s
    send_ends left Wrong s = absurd s
    send_ends left CutOff s = absurd s
    send_ends left SourceFailed s = absurd s
    send_ends left SinkFailed s = says_some s
    send_ends left Memory s = record { does = does; left = left; sends = s }
    send_ends left OutsideFailed s = absurd s
    send_ends left Over_stop s = absurd s
