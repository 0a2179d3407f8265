-- `image_transfer::read_image` meets its contract. An image in which something is wrong is refused with the store as found; with nothing wrong it is
-- no longer than a store, so that it is copied to the front of one, which then holds its tables (`Promises`). Assumes nothing.
use mathlib.Core.Path.{◌≡◌}
use mathlib.Core.Option.{none}
use native.Mathlib.Omega.{arith}
use lib.ListN.{length}
use Rattle.std.proofs.Common.{rules}
use Rattle.image.specs.Image.{image_fault}
use Rattle.image.specs.Store.{room}
use Rattle.image_transfer.proofs.Accepted.{image_room}
use Rattle.image_transfer.proofs.Promises.{laid-whole, reads-done}
use Rattle.image_transfer.proofs.read_image.Goals as goal

pub copy_in-requires : goal.copy_in-requires
copy_in-requires c =
    let sized : length c.args.store.now ≡ room = search rules in
    let whole : image_fault c.args.image.now ≡ none = search (rules, laid-whole) in
    omega (arith, image_room c.args.image.now whole, sized)

pub returns : goal.returns
returns c =
    let whole : image_fault c.args.image.now ≡ none = search (rules, laid-whole) in
    reads-done c.args.image.now c.args.store.now (λ i. search rules) (search rules) whole c.copy_in.ensures
