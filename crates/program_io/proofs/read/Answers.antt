-- `program_io::read` meets its contract: the front of the piece is what was read, and where nothing was read the input has ended. Assumes nothing.
use Rattle.std.proofs.Common.{take, refl, ap, arith}
use Rattle.program_io.specs.Desk.{read_on}
use Rattle.program_io.proofs.read.Goals as goal

pub returns-then-r-eq0 : goal.returns-then-r-eq0
returns-then-r-eq0 g c = let r = c.read_some.ensures in
    record {
      moves = read_on _ r.reads.gives;
      same = refl;
      end_in = r.within;
      ends = λ z. refl;
      fewer = λ l. absurd (omega (arith, c.if-r-eq0.true));
      at_end = λ some z. r.reads.at_end (omega (arith, some, c.read_some.auto.room)) (ap (λ n. take n c.read_some.new.room) z);
    }

pub returns : goal.returns
returns g c = let r = c.read_some.ensures in
    record {
      moves = read_on _ r.reads.gives;
      same = refl;
      end_in = r.within;
      ends = λ z. absurd (c.if-r-eq0.false z);
      fewer = λ l. omega (arith, c.requires);
      at_end = λ some z. absurd (c.if-r-eq0.false z);
    }
