-- Document 01, "What the promises pin": "Two results allowed by one promise are proved equal". Of PUT and GET: the number returned, and every
-- word lent. Nothing is proved here.
use Rattle.std.specs.Prelude.{ℕ, ◌≡◌, List}
use Rattle.rowcalls.specs.Calls.{Returned, returned}

-- `nasturakh_put`, `nasturakh_get`, and the same calls in `rowcalls`: whatever the promise asks for, two results are one
abbrev pub OneReturned : Type 0
OneReturned =
    (call : List ℕ → List ℕ → List ℕ → Returned) (ws file work : List ℕ) (r s : ℕ) (us vs f g w u : List ℕ)
    → returned r us f w ≡ call ws file work → returned s vs g u ≡ call ws file work → (r ≡ s) × (us ≡ vs) × (f ≡ g) × (w ≡ u)
