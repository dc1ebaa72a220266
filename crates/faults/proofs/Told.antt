-- The text of a parameter and of a fault, where it is known which one it is.
use Prim.Native.Nat.{ℕ, ◌+◌}
use mathlib.Core.Path.{◌≡◌}
use mathlib.Core.List.{List}
use lib.ListN.{length}
use Rattle.words.specs.Words.{put}
use Rattle.faults.specs.declared.Parameter.{Parameter}
use Rattle.faults.specs.declared.Fault.{Fault}
use Rattle.faults.specs.Sentences.{is_text, fault_text}

module _ (what w : Parameter) (e : what ≡ w) (value at : ℕ) where
  pub is-put : (out out' : List ℕ) → out' ≡ put out at (is_text w value) → out' ≡ put out at (is_text what value)
  is-put out out' h = rw e h

  pub is-end : (r : ℕ) → r ≡ at + length (is_text w value) → r ≡ at + length (is_text what value)
  is-end r h = rw e h

module _ (fault f : Fault) (e : fault ≡ f) (word : List ℕ) (at : ℕ) where
  pub fault-put : (out out' : List ℕ) → out' ≡ put out at (fault_text word f) → out' ≡ put out at (fault_text word fault)
  fault-put out out' h = rw e h

  pub fault-end : (r : ℕ) → r ≡ at + length (fault_text word f) → r ≡ at + length (fault_text word fault)
  fault-end r h = rw e h
