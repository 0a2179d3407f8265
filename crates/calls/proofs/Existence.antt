-- Every call can be made on every store of octets: there is an answer, and a store afterwards, such that the call does just this.
-- A decision request and a walk answer by their definitions and leave the store; a walk may be lent no room. Edits and sets can be made (`Existence` of
-- crates `edits` and `set_rules`). Assumes nothing.
use mathlib.Core.Path.{refl}
use mathlib.Core.List.{List, []}
use Prim.Native.Nat.{ℕ}
use Rattle.numbers.specs.BigEndian.{Octets}
use Rattle.numbers.specs.Laid.{laid}
use Rattle.image.specs.Store.{held}
use Rattle.decision_steps.specs.Decision.{answer}
use Rattle.walk_rules.specs.Walk.{walk_in, handed}
use Rattle.edits.proofs.Existence.{owner-made, principal-made}
use Rattle.set_rules.proofs.Promises.{set-made}
use Rattle.calls.specs.Does.{Call, ask, owner, by, by_set, walk, Reply, decided, edited, set_edited, walked, Does, asks, owns, acts, acts_all, walks}
use Rattle.calls.specs.Does.{HandsOctets}

pub record Done (w : List ℕ) (c : Call) : Type 0 where
  pub reply : Reply
  pub left : List ℕ
  pub does : Does w c reply left
  pub octets : Octets left

pub call-done : (w : List ℕ) → Octets w → (c : Call) → HandsOctets c → Done w c
call-done w b (ask q) d = record { reply = decided (answer (held w) q); left = w; does = asks (record { answer_is = refl; number_is = refl }); octets = b }
call-done w b (owner e) d =
    let m = owner-made e d w b in record { reply = edited m.answered; left = m.left; does = owns m.promise; octets = m.octets }
call-done w b (by c e) d =
    let m = principal-made e d w b c in record { reply = edited m.answered; left = m.left; does = acts m.promise; octets = m.octets }
call-done w b (by_set c es) d =
    let m = set-made c es d w b in record { reply = set_edited m.answered; left = m.left; does = acts_all m.promise; octets = m.octets }
call-done w b (walk c i) d = record {
  reply = walked (handed (walk_in (held w) c i).answer (laid 0 (walk_in (held w) c i).identifier []) (laid 0 (walk_in (held w) c i).key []));
  left = w;
  does = walks (record { answer_is = refl; number_is = refl; parts_are = refl; key_is = refl });
  octets = b;
}
