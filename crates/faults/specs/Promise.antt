-- The form of the promises: bytes put into a lent slice.
use Rattle.std.specs.Prelude.{ℕ, ◌+◌, ◌≤◌, ◌≡◌, List, length}
use denote.Triple.Both.{Both}
use denote.Ref.{MutBor}
use Rattle.words.specs.Words.{put}

-- a text put into `out` from place `at` on: r is the place behind it, at most so many bytes on
abbrev pub Wrote : ℕ → Both (MutBor (List ℕ)) (MutBor (List ℕ)) → ℕ → List ℕ → ℕ → Type 0
Wrote r out at text most = (out.exit.now ≡ put out.entry.now at text) × (r ≡ at + length text) × (r ≤ at + most)

-- the bytes that a number between two texts takes at most, with its space
abbrev pub room : List ℕ → List ℕ → ℕ
room before after = length before + length after + 21
