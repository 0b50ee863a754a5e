use Rattle.std.proofs.Common.{◌≡◌, [], inl, refl, sym, append-nil}
use Rattle.sw_rows.proofs.starved.StarvingEngine.go.Goals as goal

-- nothing was asked
pub returns-then-contains-clause-went : goal.returns-then-contains-clause-went
returns-then-contains-clause-went g c =
    ([], [], record { same_job = refl; left = refl; seen = sym (append-nil (g.E.Engine.progress c.args.running.now).seen); led = refl; first = inl refl })
