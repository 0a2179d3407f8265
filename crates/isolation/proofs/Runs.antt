-- For every store and every list of calls there is a run: call by call, each on what the one before it left (`Existence` of crate `calls`).
-- Assumes nothing.
use mathlib.Core.Path.{refl, ap}
use mathlib.Core.List.{List, [], ◌∷◌}
use Rattle.calls.specs.Does.{Call}
use Rattle.calls.proofs.Existence.{Done, call-done}
use Rattle.isolation.specs.Isolation.{done, more}
use Rattle.isolation.specs.Runs.{EveryListRuns, RunOf}

pub every-list-runs : EveryListRuns
every-list-runs s b [] h = record { told = []; end = s; run = done; calls_are = refl }
every-list-runs s b (c ∷ cs) h =
    let d : Done s c = call-done s b c h.0 in
    let r : RunOf d.left cs = every-list-runs d.left d.octets cs h.1 in
    record {
      told = (c, d.reply) ∷ r.told;
      end = r.end;
      run = more b d.does r.run;
      calls_are = ap (λ (l : List Call). c ∷ l) r.calls_are;
    }
