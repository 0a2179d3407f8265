-- What a turn reads stands behind what the turns before it read. Assumes nothing.
use Rattle.std.proofs.Common.{◌≡◌, ◌-◌, length, sym, ◌∙◌, subst, arith, length-drop, length-take}
use borrow.Rule.Slice.PartMut.{mid_of, same_len_mid}
use Rattle.std.specs.Io.KnownBytes.{Consumes}
use Rattle.std.proofs.KnownBytes.{Consumes-trans}
use Rattle.program_io.proofs.Outside.{read-behind}
use Rattle.program_io.proofs.read_file.Goals as goal

pub loop-len-preserved : goal.loop-len-preserved
loop-len-preserved g c =
    let i = c.loop-len.invariant in
    let r = c.read_some-n.ensures in
    let s = same_len_mid c.loop-len.len (length c.loop-len.octets - c.loop-len.len) c.loop-len.octets c.read_some-n.new.room c.read_some-n.auto.room in
    let m : length (mid_of c.loop-len.len (length c.loop-len.octets - c.loop-len.len) c.loop-len.octets) ≡ length c.loop-len.octets - c.loop-len.len =
    simp (length-take, length-drop) (omega arith) in
    record {
      within = omega (arith, s, m, i.within, r.within, c.read_some-n.auto.room);
      room = s ∙ i.room;
      gave =
          subst (Consumes (g.F.Read.remaining c.args.file.now) (g.F.Read.remaining c.read_some-n.new.from))
          (sym (read-behind c.loop-len.len c.read_some-n.result _ c.loop-len.octets c.read_some-n.new.room i.within r.within))
          (Consumes-trans _ _ _ _ _ i.gave r.reads.gives);
    }
