-- `decision_parts::by_access` meets its contract. In the access row the view's name lies behind its length byte up to the next field (`view_at`, `after`);
-- a part of the row is the part of the image as far behind the row's start, so that `by_name` answers of that name. Assumes nothing.
use mathlib.Core.Path.{◌≡◌, sym, ap, ◌∙◌}
use mathlib.Core.List.{List, map}
use Prim.Native.Nat.{ℕ, ◌+◌, ◌-◌, ◌≤◌}
use native.Mathlib.Omega.{arith}
use lib.ListN.{drop, length-drop}
use lib.Seq.{length-take-le}
use Rattle.rows.specs.Rows.{access_of, view_of}
use Rattle.image_layout.specs.Layout.{rows_in}
use Rattle.decision_steps.specs.Decision.{view_for}
use Rattle.decision_steps.proofs.Layouts.{name-part}
use Rattle.decision_find.specs.Found.{Lies}
use Rattle.decision_parts.specs.Parts.{part, over_rows}
use Rattle.decision_parts.proofs.Standings.{part-part, says-as}
use Rattle.decision_parts.proofs.by_access.Goals as goal

pub by_name-requires : goal.by_name-requires
by_name-requires c =
    let inside : c.args.at + c.after-m.result ≤ c.args.end = let a = c.args in let p : Lies a.w.now a.at a.end = c.requires.place in omega (arith, p.starts, c.after-m.ensures.inside, length-take-le (a.end - a.at) (drop a.at a.w.now) (omega (arith, p.starts, p.ends, length-drop a.at a.w.now))) in
    let p : Lies c.args.w.now c.args.at c.args.end = c.requires.place in
    record { name = record { starts = omega (arith, c.after-m.ensures.is); ends = omega (arith, inside, p.ends) }; rows = c.requires.rows }

pub returns : goal.returns
returns c =
    let row : List ℕ = let a = c.args in part a.w.now a.at a.end in
    let inside : c.args.at + c.after-m.result ≤ c.args.end = let a = c.args in let p : Lies a.w.now a.at a.end = c.requires.place in omega (arith, p.starts, c.after-m.ensures.inside, length-take-le (a.end - a.at) (drop a.at a.w.now) (omega (arith, p.starts, p.ends, length-drop a.at a.w.now))) in
    let named : let a = c.args in part a.w.now (a.at + c.view_at-n.result + 1) (a.at + c.after-m.result) ≡ view_for a.view_type (access_of (row)) = let a = c.args in let v = c.view_at-n in let e : a.at + v.result + 1 ≡ a.at + (v.result + 1) = omega arith in ap (λ n. part a.w.now n (a.at + c.after-m.result)) e ∙ sym (part-part a.w.now a.at a.end (v.result + 1) c.after-m.result (omega (arith, c.after-m.ensures.is)) inside) ∙ name-part row v.result c.after-m.result c.after-m.ensures.is ∙ v.ensures.is in
    let a = c.args in
    says-as c.by_name.ensures (ap (λ n. over_rows n (map view_of (rows_in a.w.now a.views))) named)
