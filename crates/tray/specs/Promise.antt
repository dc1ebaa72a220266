-- The form of the tray's promise, and that two results allowed by it are equal. Nothing is proved here.
use Rattle.std.specs.Prelude.{ℕ, ◌≡◌, List, [], length}
use Rattle.rules.specs.State.{State}
use Rattle.searchfile.specs.Promise.{given}
use Rattle.tray.specs.declared.Trayed.{Trayed}
use Rattle.tray.specs.Tray.{TrayOutcome}

-- what a caller can see of it: "how many were stored, the last number and the sum of transfers", and what is left [Y2, T3]
pub record CountedTray : Type 0 where
  pub stored : ℕ
  pub number : ℕ
  pub transfers : ℕ
  pub after : State

-- the outcome so seen [T3]
abbrev pub counted_tray : TrayOutcome → CountedTray
counted_tray o = record { stored = o.stored; number = o.number; transfers = length o.transfers; after = o.after }

-- what the function gives back, with the words it leaves in file and buffer; no workspace is lent
abbrev pub answered_tray : Trayed → List ℕ → List ℕ → CountedTray
answered_tray r f b = record { stored = r.stored; number = r.number; transfers = r.transfers; after = given r.session f b [] }

-- "Two results allowed by one promise are proved equal": what it gives back, its session with it, and every word lent
abbrev pub OneTrayed : Type 0
OneTrayed =
    (o : TrayOutcome) (r s : Trayed) (f g b d : List ℕ) → answered_tray r f b ≡ counted_tray o → answered_tray s g d ≡ counted_tray o
    → (r ≡ s) × (f ≡ g) × (b ≡ d)
