-- `instance_decode::table_of` meets its contract: the tables are tried in the order of the definition. Assumes nothing.
use Rattle.std.proofs.Common.{◌≡◌, Bool, List, [], ◌∷◌, refl, sym, ap, ◌∙◌, rules, tests}
use Rattle.std.specs.Array.Iter.{array_steps, array_into_iter_items}
use Rattle.std.specs.List.{find}
use Rattle.std.proofs.lemmas.Iterator.Consumers.{YieldsList-from_shown}
use Rattle.std.proofs.lemmas.Iterator.Search.{find_from_yields_List}
use Rattle.std.proofs.lemmas.Iterator.Adapters.{option_map_id}
use Rattle.numbers.specs.Lists as lists
use Rattle.numbers.proofs.Bools.{split}
use Rattle.numbers.specs.Order.{begins}
use Rattle.rows.specs.declared.Table.{Table}
use Rattle.rows.specs.declared.Table.TheVariants.{Context, Mapping, Access, View}
use Rattle.instance_encode.specs.Instances.{base}
use Rattle.instance_decode.specs.Decoding.{table_of, found_in}
use Rattle.instance_decode.proofs.table_of.Goals as goal

-- the first, as the library and as the definition finds it
same-first : (p : Table → Bool) (ts : List Table) → find p ts ≡ found_in (lists.find p ts)
same-first p [] = refl
same-first p (t ∷ ts) = split (p t) (λ e. rw e refl) (λ e. rw e (same-first p ts))

pub returns : goal.returns
unfolding table_of
returns c =
    let p = λ (t : Table). begins (base t) c.args.oid.now in
    let all = YieldsList-from_shown array_steps (λ x. x) array_into_iter_items (λ s t h. h.0) (λ s x t h. h) c.into_iter.result in
    let first = find_from_yields_List p c.find.new.self _ c.find.result c.find.ensures.ran all (λ x b q k. search (rules, tests)) in
    sym (option_map_id c.find.result) ∙ first ∙ ap (find p) c.into_iter.ensures.into_iter_gives.0 ∙ same-first p (Context ∷ Mapping ∷ Access ∷ View ∷ [])
