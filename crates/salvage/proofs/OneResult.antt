-- Two results allowed by the promise are equal.
use mathlib.Core.Path.{◌≡◌, sym, ◌∙◌}
use Rattle.salvage.specs.Promise.{answered_with, OneSalvaged}

pub one-salvaged : OneSalvaged
one-salvaged o r s f g b d x y p q =
    let e : answered_with r f b x ≡ answered_with s g d y = p ∙ sym q in (
      λ i. record { number = (e i).number; transfers = (e i).transfers; lines = (e i).lines },
      λ i. (e i).fresh,
      λ i. (e i).buffer,
      λ i. (e i).report,
    )
