-- Two results allowed by the promise of an exported function are equal.
use mathlib.Core.Path.{◌≡◌, sym, ◌∙◌}
use mathlib.Core.List.{[]}
use Rattle.capi.specs.Calls.{returned, marked}
use Rattle.capi.specs.OneResult.{OneReturned, OneReturnedOpen, OneViewed, OneMost}

pub one-returned : OneReturned
one-returned call ws file buffer work r s us vs f g b d w u x y =
    let e : returned r us f b w ≡ returned s vs g d u = x ∙ sym y in
    (λ i. (e i).answer, λ i. (e i).session, λ i. (e i).file, λ i. (e i).buffer, λ i. (e i).work)

pub one-returned-open : OneReturnedOpen
one-returned-open ws file buffer marks r s us vs f g b d m n x y =
    let e : marked (returned r us f b []) m ≡ marked (returned s vs g d []) n = x ∙ sym y in
    (λ i. (e i).returned.answer, λ i. (e i).returned.session, λ i. (e i).returned.file, λ i. (e i).returned.buffer, λ i. (e i).marks)

pub one-viewed : OneViewed
one-viewed ws file buffer block r s x y = x ∙ sym y

pub one-most : OneMost
one-most ws plan r s x y = x ∙ sym y
