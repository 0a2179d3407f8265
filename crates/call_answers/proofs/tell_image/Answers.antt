-- The image that was written is that of the store's tables, and its text fits; a fault is told by its number. Assumes nothing.
use mathlib.Core.Path.{refl}
use Prim.Native.Nat.{◌-◌}
use native.Mathlib.Omega.{arith}
use lib.ListN.{take}
use Rattle.numbers.specs.BigEndian.{Octets}
use Rattle.text_values.specs.Texts.{hex_text}
use Rattle.text_values.proofs.Puts.{both, behind}
use Rattle.call_answers.specs.Answers.{image_text}
use Rattle.call_answers.proofs.Images.{Image, image-told, image-refused}
use Rattle.call_answers.proofs.tell_image.Goals as goal

pub slice_bounds-put_hex-end : goal.slice_bounds-put_hex-end
slice_bounds-put_hex-end c =
    let bytes_of : Octets c.args.store.now = λ i. omega (arith, c.type_inv.store i) in
    let image : Image c.args.store.now c.write_image-written.new.out c.in-Ok.n = image-told c.args.store.now _ c.write_image-written.new.out bytes_of refl c.write_image-written.ensures c.in-Ok.is in
    (image).image_room

pub put_hex-requires : goal.put_hex-requires
put_hex-requires c =
    let bytes_of : Octets c.args.store.now = λ i. omega (arith, c.type_inv.store i) in
    let image : Image c.args.store.now c.write_image-written.new.out c.in-Ok.n = image-told c.args.store.now _ c.write_image-written.new.out bytes_of refl c.write_image-written.ensures c.in-Ok.is in
    behind image_text (hex_text (take (c.in-Ok.n - 0) c.write_image-written.new.out)) (omega (arith, (image).short, c.requires))
    c.put_text-next.ensures

pub returns-in-Ok : goal.returns-in-Ok
returns-in-Ok c =
    let bytes_of : Octets c.args.store.now = λ i. omega (arith, c.type_inv.store i) in
    let image : Image c.args.store.now c.write_image-written.new.out c.in-Ok.n = image-told c.args.store.now _ c.write_image-written.new.out bytes_of refl c.write_image-written.ensures c.in-Ok.is in
    rw (← (image).text_is)
    (record {
      puts = both image_text (hex_text (take (c.in-Ok.n - 0) c.write_image-written.new.out)) (omega (arith, (image).short, c.requires))
          c.put_text-next.ensures c.put_hex.ensures;
      short = (image).short;
    })

pub returns-in-Err : goal.returns-in-Err
returns-in-Err c =
    let bytes_of : Octets c.args.store.now = λ i. omega (arith, c.type_inv.store i) in
    rw (image-refused c.args.store.now _ c.write_image-written.new.out bytes_of refl c.write_image-written.ensures c.in-Err.is) at
    c.tell_fault.ensures
