-- Descriptions that were good before CONTROL could be above 4095 are good, and no other of those.
use Prim.Native.Nat.{◌≤◌}
use mathlib.Core.Path.{◌≡◌, ◌∙◌}
use mathlib.Core.Bool.{true}
use native.Mathlib.Omega.{arith}
use borrow.Author.Tests.{le-leb, leb-true}
use Rattle.drum.specs.declared.Description.{Description}
use Rattle.drum.specs.Params.{every, good_params}
use Rattle.drum.specs.Older.{older_params, OlderOpen}
use Rattle.drum.proofs.Good.{every-hold}

older-below : (p : Description) → p.control ≤ 4095 → p.form ≡ 1 → good_params p ≡ older_params p
unfolding good_params older_params every
older-below p h e =
    rw (le-leb p.control 4095 h, le-leb p.control 16383 (omega arith), le-leb 1 p.form (omega arith), le-leb p.form 2 (omega arith))

older-control : (p : Description) → older_params p ≡ true → p.control ≤ 4095
unfolding older_params
older-control p h =
    let (e, (w₁, (w₂, (k₁, (k₂, (key, (d, (i, (sd, (si, (c₁, (c₂, more)))))))))))) = every-hold _ h in
    leb-true _ _ c₂

pub older-open : OlderOpen
older-open = record { below = older-below; still = λ p h e. older-below p (older-control p h) e ∙ h }
