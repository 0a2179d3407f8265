-- The call by what the survey of its store answered: its fault, 6 or 7, with no rows and the rooms as found; or, past both, the explanation on the tables
-- that are held. Assumes nothing.
use mathlib.Core.Path.{◌≡◌, refl}
use mathlib.Core.List.{List}
use Prim.Native.Nat.{ℕ}
use Rattle.std.specs.Prelude.{Err, None}
use Rattle.answers.specs.declared.Fault.{Fault}
use Rattle.image_layout.specs.declared.Layout.{Layout}
use Rattle.image_layout.specs.Layout.{layout_of}
use Rattle.image_judge.specs.Faults.{surveyed, tables_at}
use Rattle.image.specs.Store.{call_fault, held}
use Rattle.image.proofs.Surveys.{Called, call-refused}
use Rattle.decision_steps.specs.Request.{Request, legal_request}
use Rattle.explain_rules.specs.Explanation.{explained, unexplained, explanation, Rooms, HandsBack}

module _ (w : List ℕ) (q : Request) where
  pub explanation-refused : {f : Fault} → Err f ≡ surveyed (call_fault w (legal_request q)) (layout_of w) → explanation (held w) q ≡ unexplained f
  explanation-refused e = call-refused (λ f. explanation (held w) q ≡ unexplained f) w (legal_request q) e (λ n. rw n) (λ t h l. rw (h, l))

  pub explanation-laid : {l : Layout} → Called w (legal_request q) l → explanation (held w) q ≡ explained (tables_at w l) q
  explanation-laid k = rw (k.holds, k.in_range)

pub hands_none : (f : Fault) (rooms : Rooms)
    → HandsBack (unexplained f) rooms rooms (record { answer = Err f; mapping = None; access = None; view = None })
hands_none f rooms = record {
  answer_is = refl;
  number_is = refl;
  mapping_is = record { length_is = refl; room_is = refl; legal = tt };
  access_is = record { length_is = refl; room_is = refl; legal = tt };
  view_is = record { length_is = refl; room_is = refl; legal = tt };
}
