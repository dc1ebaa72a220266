-- Laws of the file after a list of transfers: its length, its master, and "no block of the file changes unless that list writes it".
use mathlib.Core.Path.{◌≡◌, refl, sym, ap, ◌∙◌}
use mathlib.Core.Bool.{Bool, true, false, ◌||◌, or_assoc}
use mathlib.Core.List.{List, [], ◌∷◌, ◌++◌}
use Prim.Native.Nat.{ℕ, ◌+◌, ◌≤◌, ◌<◌}
use native.Mathlib.Omega.{arith}
use borrow.Author.Tests.{eq-eqb}
use lib.Dec.{eqb}
use lib.ListN.{length, get_or, set}
use Rattle.words.specs.Words.{part, put}
use Rattle.words.proofs.Keys.{clash}
use Rattle.words.proofs.Parts.{set-put}
use Rattle.drum.specs.declared.Description.{Description}
use Rattle.drum.specs.Params.{master_size, file_size}
use Rattle.drum.specs.Blocks.{block_at, put_block, Transfer, Read, Write, written, writes, Block}
use Rattle.drum.proofs.Blocks.{length-put_block, block-other, master-word, master-part, master-put}

-- every text written has the length of a block, and a number of 1..N
abbrev pub Moves : Description → List Transfer → Type 0
Moves p [] = Unit {0}
Moves p (Read b ∷ moves) = Moves p moves
Moves p (Write b t ∷ moves) = Block p b × (length t ≡ p.wpb) × Moves p moves

-- one list of transfers after another
pub written-append : (p : Description) (xs ys : List Transfer) (f : List ℕ) → written p (xs ++ ys) f ≡ written p ys (written p xs f)
unfolding written
written-append p [] ys f = refl
written-append p (Read b ∷ xs) ys f = written-append p xs ys f
written-append p (Write b t ∷ xs) ys f = written-append p xs ys (put_block p f b t)

pub writes-append : (xs ys : List Transfer) (b : ℕ) → writes (xs ++ ys) b ≡ (writes xs b || writes ys b)
unfolding writes
writes-append [] ys b = refl
writes-append (Read c ∷ xs) ys b = writes-append xs ys b
writes-append (Write c t ∷ xs) ys b = rw (writes-append xs ys b, or_assoc (eqb b c) (writes xs b) (writes ys b))

pub moves-append : (p : Description) (xs ys : List Transfer) → Moves p xs → Moves p ys → Moves p (xs ++ ys)
moves-append p [] ys h k = k
moves-append p (Read b ∷ xs) ys h k = moves-append p xs ys h k
moves-append p (Write b t ∷ xs) ys h k = (h.0, h.1, moves-append p xs ys h.2 k)

pub length-written : (p : Description) (f : List ℕ) → length f ≡ file_size p → (moves : List Transfer) → Moves p moves → length (written p moves f) ≡ file_size p
unfolding written
length-written p f hf [] h = hf
length-written p f hf (Read b ∷ moves) h = length-written p f hf moves h
length-written p f hf (Write b t ∷ moves) h = length-written p (put_block p f b t) (length-put_block p f hf b h.0 t h.1) moves h.2

-- a block that no transfer of the list writes
neither : (a b : Bool) → (a || b) ≡ false → (a ≡ false) × (b ≡ false)
neither true b e = absurd (clash e)
neither false b e = (refl, e)

apart : (b c : ℕ) → eqb b c ≡ false → b ≡ c → ⊥
apart b c h e = clash (sym (eq-eqb b c e) ∙ h)

pub only-written : (p : Description) (f : List ℕ) → length f ≡ file_size p → (moves : List Transfer) → Moves p moves → (b : ℕ) → Block p b → writes moves b ≡ false → block_at p (written p moves f) b ≡ block_at p f b
unfolding written writes
only-written p f hf [] h b k n = refl
only-written p f hf (Read c ∷ moves) h b k n = only-written p f hf moves h b k n
only-written p f hf (Write c t ∷ moves) h b k n =
    let (e, m) = neither (eqb b c) (writes moves b) n in
    only-written p (put_block p f c t) (length-put_block p f hf c h.0 t h.1) moves h.2 b k m ∙ block-other p f hf c h.0 t h.1 b k (apart b c e)

-- the master is as it was; a change of it may come before or after
pub master-word-written : (p : Description) (f : List ℕ) → length f ≡ file_size p → (moves : List Transfer) → Moves p moves → (i : ℕ) → i < master_size p → get_or (written p moves f) i 0 ≡ get_or f i 0
unfolding written
master-word-written p f hf [] h i m = refl
master-word-written p f hf (Read b ∷ moves) h i m = master-word-written p f hf moves h i m
master-word-written p f hf (Write b t ∷ moves) h i m =
    master-word-written p (put_block p f b t) (length-put_block p f hf b h.0 t h.1) moves h.2 i m ∙ master-word p f hf b h.0 t h.1 i m

pub master-part-written : (p : Description) (f : List ℕ) → length f ≡ file_size p → (moves : List Transfer) → Moves p moves → (a n : ℕ) → a + n ≤ master_size p → part a n (written p moves f) ≡ part a n f
unfolding written
master-part-written p f hf [] h a n m = refl
master-part-written p f hf (Read b ∷ moves) h a n m = master-part-written p f hf moves h a n m
master-part-written p f hf (Write b t ∷ moves) h a n m =
    master-part-written p (put_block p f b t) (length-put_block p f hf b h.0 t h.1) moves h.2 a n m ∙ master-part p f hf b h.0 t h.1 a n m

pub master-put-written : (p : Description) (f : List ℕ) → length f ≡ file_size p → (moves : List Transfer) → Moves p moves → (a : ℕ) (s : List ℕ) → a + length s ≤ master_size p → written p moves (put f a s) ≡ put (written p moves f) a s
unfolding written
master-put-written p f hf [] h a s m = refl
master-put-written p f hf (Read b ∷ moves) h a s m = master-put-written p f hf moves h a s m
master-put-written p f hf (Write b t ∷ moves) h a s m =
    ap (written p moves) (master-put p f hf b h.0 t h.1 a s m) ∙ master-put-written p (put_block p f b t) (length-put_block p f hf b h.0 t h.1) moves h.2 a s m

pub master-set-written : (p : Description) (f : List ℕ) → length f ≡ file_size p → (moves : List Transfer) → Moves p moves → (i x : ℕ) → i < master_size p → written p moves (set f i x) ≡ set (written p moves f) i x
unfolding file_size
master-set-written p f hf moves h i x m =
    let l = length-written p f hf moves h in
    rw (set-put f i x (omega arith), set-put (written p moves f) i x (omega arith)) (master-put-written p f hf moves h i (x ∷ []) (omega arith))
