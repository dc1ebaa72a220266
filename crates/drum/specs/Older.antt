-- "Older files still open under their own CONTROL": the table of ranges with the CONTROL of before, and what it has to do with the one that holds. Nothing is
-- proved here.
use Rattle.std.specs.Prelude.{◌-◌, ◌%◌, ◌≤◌, ◌≡◌, Bool, true, [], ◌∷◌, leb, eqb}
use Rattle.drum.specs.declared.Description.{Description}
use Rattle.drum.specs.Params.{D, I, every, good_params}

-- document 01's table: "CONTROL, sections: 1..4095" [P7]
unfoldable pub older_params : Description → Bool
older_params p =
    every
    (eqb (p.wpb % 2) 0 ∷ leb 6 p.wpb ∷ leb p.wpb 4096
    ∷ leb 1 p.k ∷ leb p.k 63
    ∷ leb p.k p.wpr
    ∷ leb 2 (D p) ∷ leb 2 (I p)
    ∷ leb p.space (D p - 2) ∷ leb p.space (I p - 2)
    ∷ leb 1 p.control ∷ leb p.control 4095
    ∷ leb 2 p.n ∷ leb p.n 262142
    ∷ [])

-- with CONTROL up to 4095 and the first block form a description is good exactly as before, and all that were good are
pub record OlderOpen : Type 0 where
  pub below : (p : Description) → p.control ≤ 4095 → p.form ≡ 1 → good_params p ≡ older_params p
  pub still : (p : Description) → older_params p ≡ true → p.form ≡ 1 → good_params p ≡ true
