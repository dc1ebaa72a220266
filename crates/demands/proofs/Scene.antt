-- What the laws of the calls speak of, by one letter each: of a state st, and of the sections ss of the tree that stands in its file.
use Prim.Native.Nat.{ℕ}
use mathlib.Core.Bool.{Bool}
use mathlib.Core.List.{List}
use Rattle.drum.specs.declared.Description.{Description}
use Rattle.drum.specs.Blocks.{Texts}
use Rattle.layout.specs.Tree.{Section}
use Rattle.rules.specs.State.{State, desc, texts, key_in, position_key}
use Rattle.demands.proofs.Trees.{leaves_in, records_in, key}

-- parameters, texts of the blocks, flag, whether there is a position and its key, the workspace's key, keys as numbers, the records in order
pub record Scene : Type 0 where
  pub p : Description
  pub v : Texts
  pub flag : Bool
  pub placed : Bool
  pub at : List ℕ
  pub w : List ℕ
  pub K : List ℕ → ℕ
  pub rows : List (List ℕ)

abbrev pub scene : State → List Section → Scene
scene st ss = record {
  p = desc st;
  v = texts st;
  flag = st.session.flag;
  placed = st.session.placed;
  at = position_key st.session;
  w = key_in (desc st) st.work;
  K = key (desc st).k;
  rows = records_in (leaves_in ss);
}
