-- `capi::session::packed` meets its contract: 16 transfers and a 32-bit number fit 64 bits.
use Prim.Native.Nat.{ℕ, ◌+◌, ◌*◌}
use mathlib.Core.Path.{ap}
use Rattle.capi.specs.Words.{packed}
use Rattle.capi.proofs.session.packed.Goals as goal

pub returns : goal.returns
unfolding packed
returns c = ap (λ (n : ℕ). c.args.transfers * 4294967296 + n) c.from.ensures
