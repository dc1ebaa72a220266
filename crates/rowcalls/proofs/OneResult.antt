-- Two results allowed by the promise of PUT or GET are equal.
use mathlib.Core.Path.{◌≡◌, sym, ◌∙◌}
use Rattle.rowcalls.specs.Calls.{returned}
use Rattle.rowcalls.specs.OneResult.{OneReturned}

pub one-returned : OneReturned
one-returned call ws file work r s us vs f g w u x y =
    let e : returned r us f w ≡ returned s vs g u = x ∙ sym y in
    (λ i. (e i).answer, λ i. (e i).row, λ i. (e i).file, λ i. (e i).work)
