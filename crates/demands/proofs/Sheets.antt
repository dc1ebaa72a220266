-- A worked figure: the sheet run of document 000 (WPB 1792, WPR 50, K 5, no SPACE, 60,000 records), as the session formula bounds it.
use Prim.Native.Nat.{ℕ, ◌+◌, ◌*◌, ◌≤◌}
use mathlib.Core.Path.{◌≡◌, refl, sym, ap, ◌∙◌}
use mathlib.Core.List.{List}
use native.Mathlib.Omega.{arith}
use Rattle.drum.specs.declared.Description.{Description}
use Rattle.drum.specs.Params.{D, I, FD, FI}
use Rattle.rules.specs.State.{State, desc}
use Rattle.rules.specs.Requests.{Request}
use Rattle.demands.specs.Formula.{h_d, h_i, M, S, s, X, x, all_transfers, shares, Within}

-- whatever CONTROL and N are
module _ (control n : ℕ) where
  abbrev pub sheets : Description
  sheets = record { wpb = 1792; wpr = 50; k = 5; space = 0; control = control; n = n; form = 1 }

  pub sheet-halves : (h_d sheets ≡ 18) × (h_i sheets ≡ 149) × (FD sheets ≡ 35) × (FI sheets ≡ 298)
  unfolding h_d h_i FD FI D I
  sheet-halves = (refl, refl, refl, refl)

  module _ (st : State) (qs : List Request) (e : desc st ≡ sheets) (h : Within st qs) (few : M st qs ≤ 60000) where
    -- the formula with the figures
    figures : (18 * S st qs ≤ M st qs) × (35 * X st qs ≤ M st qs) × (149 * s st qs ≤ S st qs + X st qs) × (298 * x st qs ≤ S st qs + X st qs)
    figures =
        let a : h_d (desc st) ≡ 18 = ap h_d e ∙ sheet-halves.0 in
        let b : FD (desc st) ≡ 35 = ap FD e ∙ sheet-halves.2 in
        let c : h_i (desc st) ≡ 149 = ap h_i e ∙ sheet-halves.1 in
        let d : FI (desc st) ≡ 298 = ap FI e ∙ sheet-halves.3 in (
          rw (ap (λ (k : ℕ). k * S st qs) (sym a)) h.splits,
          rw (ap (λ (k : ℕ). k * X st qs) (sym b)) h.starts,
          rw (ap (λ (k : ℕ). k * s st qs) (sym c)) h.index-splits,
          rw (ap (λ (k : ℕ). k * x st qs) (sym d)) h.index-starts,
        )

    -- records in any order: at most 3,333 splits and 33 of index blocks by NSERT, 1,714 blocks and 16 index blocks started by XTEND
    pub sheet-blocks : (S st qs ≤ 3333) × (X st qs ≤ 1714) × (s st qs ≤ 33) × (x st qs ≤ 16)
    sheet-blocks = let f = figures in (omega arith, omega arith, omega arith, omega arith)

    -- all by XTEND: at most 6,861 transfers besides the calls' shares; all by NSERT: at most 13,354
    pub sheet-extended : S st qs ≡ 0 → s st qs ≡ 0 → all_transfers st qs ≤ shares st qs + 6861
    sheet-extended a b = let f = figures in omega (arith, h.transfers)

    pub sheet-inserted : X st qs ≡ 0 → x st qs ≡ 0 → all_transfers st qs ≤ shares st qs + 13354
    sheet-inserted a b = let f = figures in omega (arith, h.transfers)
