-- `set_judge::has_front` meets its contract: bytes that are fewer than the key's do not begin with it, and others are compared as far as it goes.
-- Assumes nothing.
use mathlib.Core.Path.{sym, ◌∙◌}
use native.Mathlib.Omega.{arith}
use lib.ListN.{length}
use borrow.Author.Tests.{lt-leb}
use Rattle.set_judge.proofs.Bytes.{too_few}
use Rattle.set_judge.proofs.has_front.Goals as goal

pub returns-else-key-bytes : goal.returns-else-key-bytes
returns-else-key-bytes c = let a = c.args in lt-leb (length a.key.now) (length a.bytes.now) (omega (arith, c.if-key-bytes.false)) ∙ sym (too_few a.bytes.now a.key.now (omega (arith, c.if-key-bytes.false)))
