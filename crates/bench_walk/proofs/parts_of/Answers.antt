-- One case has parts, the others have none. Assumes nothing.
use Rattle.bench_walk.proofs.parts_of.Goals as goal

pub returns-in-Next : goal.returns-in-Next
returns-in-Next c = rw c.in-Next.is
