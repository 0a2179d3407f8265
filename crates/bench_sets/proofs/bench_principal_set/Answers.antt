-- The call's own promise, for the set that the numbers say. Assumes nothing.
use mathlib.Core.Path.{◌≡◌, subst}
use mathlib.Core.List.{[], ◌∷◌}
use Prim.Native.Nat.{◌/◌}
use lib.ListN.{length}
use Rattle.edit_rules.specs.Edits.{caller_of}
use Rattle.set_rules.specs.declared.SetEdit.{SetEdit}
use Rattle.set_rules.specs.Handed.{edits_of}
use Rattle.set_rules.specs.Promise.{PrincipalSets}
use Rattle.bench_sets.proofs.bench_principal_set.Goals as goal

eight : {a b c d e f g h a' b' c' d' e' f' g' h' : SetEdit} → a ≡ a' → b ≡ b' → c ≡ c' → d ≡ d' → e ≡ e' → f ≡ f' → g ≡ g' → h ≡ h'
    → a ∷ b ∷ c ∷ d ∷ e ∷ f ∷ g ∷ h ∷ [] ≡ a' ∷ b' ∷ c' ∷ d' ∷ e' ∷ f' ∷ g' ∷ h' ∷ []
eight p q r s t u v w = rw (p, q, r, s, t, u, v, w)

pub returns : goal.returns
returns c =
    let a = c.args in
    record {
      answer = c.principal_set-answer.result;
      promise = subst
          (λ xs. PrincipalSets (caller_of a.model a.name.now a.level)
          (edits_of (record { edits = xs; count = length a.heads.now / 4 }) a.bytes.now)
          a.store.now c.principal_set-answer.new.store c.principal_set-answer.result)
          (eight c.head_at.ensures c.head_at-2.ensures c.head_at-3.ensures c.head_at-4.ensures c.head_at-5.ensures
          c.head_at-6.ensures c.head_at-7.ensures c.head_at-8.ensures)
          c.principal_set-answer.ensures;
      number_is = c.set_number.ensures;
    }
