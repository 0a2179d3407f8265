-- `explain::explain_rows` meets its contract: `authorize` found the rows of steps 2 and 3, `judge` that of step 5 and the decision (`Picks`), and each is
-- shown as it lies (`Shows`). Assumes nothing.
use mathlib.Core.Path.{ap}
use native.Mathlib.Omega.{arith}
use Rattle.std.specs.Prelude.{Ok}
use Rattle.answers.specs.Numbers.{answer_number}
use Rattle.numbers.specs.BigEndian.{Octets}
use Rattle.rows.specs.declared.Table.TheVariants.{Mapping, Access, View}
use Rattle.rows.specs.Rows.{mapping_fields, access_fields, view_fields, mapping_of, access_of, view_of}
use Rattle.rows.proofs.Typed.{mapping-fields, access-fields, view_fields_lem}
use Rattle.explain_rules.specs.Explanation.{explained}
use Rattle.explain.proofs.Picks.{judged-view, judged-decision}
use Rattle.explain.proofs.Shows.{row_fits, row-shown}
use Rattle.explain.proofs.explain_rows.Goals as goal

-- where the calls of `authorize` and `judge` stand

pub show-mapping_shown-requires : goal.show-mapping_shown-requires
show-mapping_shown-requires c =
    let k = c.authorize-authorized.ensures.mapping in
    record { lies = k.lies; room = row_fits k c.requires.mapping }

pub show-access_shown-requires : goal.show-access_shown-requires
show-access_shown-requires c =
    let k = c.authorize-authorized.ensures.access in
    record { lies = k.lies; room = row_fits k c.requires.access }

pub show-view_shown-requires : goal.show-view_shown-requires
show-view_shown-requires c =
    let k = c.judge-judged.ensures.view_is in
    record { lies = k.lies; room = row_fits k c.requires.view }

-- where the last call stands

pub returns : goal.returns
unfolding explained
returns c =
    let octets : Octets c.args.w.now = λ i. omega (arith, c.type_inv.w i) in
    let v = c.args.variable_name.now in
    let k = c.authorize-authorized.ensures in
    let decided = ap Ok (judged-decision k v c.judge-judged.ensures) in
    let m = c.show-mapping_shown in
    let a = c.show-access_shown in
    let w = c.show-view_shown in
    record {
      answer_is = decided;
      number_is = ap answer_number decided;
      mapping_is = row-shown Mapping mapping_of mapping_fields mapping-fields octets k.mapping m.ensures.counts m.ensures.lays;
      access_is = row-shown Access access_of access_fields access-fields octets k.access a.ensures.counts a.ensures.lays;
      view_is = row-shown View view_of view_fields view_fields_lem octets (judged-view k v c.judge-judged.ensures) w.ensures.counts w.ensures.lays;
    }
