-- Slices in contracts. Document 01: "file, buffer and workspace are lent slices of 32-bit words" [W2].
use Rattle.std.specs.Prelude.{ℕ, List}

-- words lent to a function: as they were, and as it left them
abbrev pub Slice : Type 0
Slice = List ℕ × List ℕ

-- as they were when it was called
abbrev pub was : Slice → List ℕ
was x = x.0

-- as it left them
abbrev pub became : Slice → List ℕ
became x = x.1
