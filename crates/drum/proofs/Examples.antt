-- Document 01, "Parameters": "Both sides: ..", by computation.
use Prim.Native.Nat.{ℕ}
use mathlib.Core.Path.{◌≡◌, refl}
use mathlib.Core.Bool.{true, false}
use mathlib.Core.List.{[], ◌∷◌}
use Rattle.words.specs.Words.{zeros}
use Rattle.table.specs.Tables.{count, laid}
use Rattle.drum.specs.declared.Description.{Description}
use Rattle.drum.specs.Params.{D, I, master_size, every, good_params, tag_of, index_shape, detail_shape}
use Rattle.drum.specs.Blocks.{link_place, free_text}

abbrev desc : ℕ → ℕ → ℕ → ℕ → ℕ → ℕ → Description
desc wpb wpr k space control n = record { wpb = wpb; wpr = wpr; k = k; space = space; control = control; n = n; form = 1 }

-- "WPB 8, WPR 3, K 1 is good (D 2, I 3); WPR 4 is refused (D 1); SPACE 1 is refused (D−2 is 0)."
pub sides :
    (good_params (desc 8 3 1 0 2 4) ≡ true) × (D (desc 8 3 1 0 2 4) ≡ 2) × (I (desc 8 3 1 0 2 4) ≡ 3)
    × (good_params (desc 8 4 1 0 2 4) ≡ false) × (D (desc 8 4 1 0 2 4) ≡ 1) × (good_params (desc 8 3 1 1 2 4) ≡ false)
unfolding D I every good_params
sides = (refl, refl, refl, refl, refl, refl)

-- "With WPB 1792, WPR 50, K 5: D 35, I 298. Ten sections take 63 words, so 64 here."
pub large : (D (desc 1792 50 5 0 10 100) ≡ 35) × (I (desc 1792 50 5 0 10 100) ≡ 298) × (master_size (desc 1792 50 5 0 10 100) ≡ 64)
unfolding D I master_size
large = (refl, refl, refl)

-- the same description in a block form of that number
abbrev formed : ℕ → Description
formed form = record { wpb = 8; wpr = 3; k = 1; space = 0; control = 2; n = 4; form = form }

-- two block forms, and no other
pub forms : (good_params (formed 0) ≡ false) × (good_params (formed 1) ≡ true) × (good_params (formed 2) ≡ true) × (good_params (formed 3) ≡ false)
unfolding D I every good_params
forms = (refl, refl, refl, refl)

-- a free block with link 4: "word 0 the next free block or 0. All other words are 0"; "12288 for a free one, whose link moves to word 1"
pub free-texts : (free_text (formed 1) 4 ≡ 4 ∷ zeros 7) × (free_text (formed 2) 4 ≡ 12288 ∷ 4 ∷ zeros 6)
unfolding free_text laid tag_of link_place
free-texts = (refl, refl)

-- "4096 plus the count for an index block, 8192 plus the count for a detail block": a wrong kind has no count of 1..I, 1..D
pub counts :
    (count (index_shape (formed 2)) (4099 ∷ []) ≡ 3) × (count (detail_shape (formed 2)) (8194 ∷ []) ≡ 2)
    × (count (index_shape (formed 2)) (2 ∷ []) ≡ 0) × (count (index_shape (formed 2)) (8194 ∷ []) ≡ 4098) × (count (detail_shape (formed 1)) (2 ∷ []) ≡ 2)
unfolding count index_shape detail_shape tag_of
counts = (refl, refl, refl, refl, refl)
