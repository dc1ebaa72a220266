-- A sound state: what CREATE and OPEN leave with the parameters 8 3 1 0 2 4. So `Sound` can be met, and with it all that is proved of it.
use Prim.Native.Nat.{ℕ, zero, suc}
use mathlib.Core.Bool.{and-false}
use mathlib.Core.Path.{◌≡◌, refl}
use mathlib.Core.List.{List, [], ◌∷◌, ◌++◌}
use native.Mathlib.Omega.{arith}
use borrow.Author.Tests.{ne_eqb, lt-leb}
use Rattle.words.specs.Words.{zeros}
use Rattle.words.specs.Keys.{val}
use Rattle.drum.specs.declared.Description.{Description}
use Rattle.rules.specs.State.{State}
use Rattle.rules.specs.Requests.{opening, answer}
use Rattle.rules.specs.Run.{begun, created_outcome}
use Rattle.rules.specs.Open.{create}
use Rattle.rules.proofs.Computing.{computing}
use Rattle.demands.proofs.Rows.{cat, tab}
use Rattle.demands.proofs.Cells.{Agree, is, weigh, cell_times}
use Rattle.layout.specs.Tree.{Section}
use Rattle.demands.proofs.Trees.{key, bd, table, entry, leaf_cell, index_text, cells_of}
use Rattle.demands.proofs.Holds.{HoldsCells, Free, inside, free_cells, master_entry, master_words, master_for}
use Rattle.demands.proofs.Steps.{sec}
use Rattle.demands.proofs.Blocks.{master_of}
use Rattle.demands.proofs.Sound.{Sound, no-true-false}

abbrev pub small : Description
small = record { wpb = 8; wpr = 3; k = 1; space = 0; control = 2; n = 4; form = 1 }

-- the state after CREATE and OPEN
abbrev pub made : State
made = (answer (created_outcome (begun small) (create small (begun small).file)).after (opening (zeros 4))).after

abbrev pub tree : List Section
tree = sec 1 (record { bound = 262143 ∷ []; block = 2; records = (262143 ∷ (0 ∷ (0 ∷ []))) ∷ [] } ∷ []) ∷ []

abbrev pub free : Free
free = record { chain = []; lowest = 3; spare = 2 }

once : (b : ℕ) → cell_times b (cells_of small tree ++ free_cells small free) ≡ inside 4 b
unfolding cell_times weigh cells_of free_cells leaf_cell is inside
once zero = refl
once (suc zero) = refl
once (suc (suc zero)) = refl
once (suc (suc (suc zero))) = refl
once (suc (suc (suc (suc zero)))) = refl
once (suc (suc (suc (suc (suc b))))) =
    let n : ℕ = suc (suc (suc (suc (suc b)))) in
    simp (
      ne_eqb 1 n (λ e. omega arith),
      ne_eqb 2 n (λ e. omega arith),
      ne_eqb 3 n (λ e. omega arith),
      ne_eqb 4 n (λ e. omega arith),
      lt-leb n 4 (omega arith),
      and-false,
    )

-- a master and blocks with these words hold the tree
holds_by : (master : List ℕ) (text : ℕ → List ℕ) → master ≡ master_for small tree free → Agree text (cells_of small tree ++ free_cells small free)
    → HoldsCells small master text tree free
unfolding computing val key bd
holds_by master text m a = record {
  master-is = m;
  agree = a;
  once = once;
  ranged = ((omega arith, omega arith), tt);
  top = refl;
  sized = (
    record {
      some = omega arith;
      room = omega arith;
      leaves = (record { some = omega arith; room = omega arith; rows = ((refl, refl), tt); bound = refl; wide = refl }, tt);
    },
    tt,
  );
  sections = omega arith;
  numbers = refl;
}

pub witness : Sound made tree free
unfolding computing val cat tab weigh key bd table entry leaf_cell index_text cells_of free_cells master_entry master_words master_for master_of
witness = record {
  kept = record {
    good = refl;
    file-length = refl;
    buffer-length = refl;
    current = λ l. absurd (omega arith);
    flagged = λ e. no-true-false e refl;
    clean = λ e l. absurd (omega arith);
    holds = holds_by _ _ refl (refl, (refl, (refl, (refl, tt))));
    ended = record { front = []; is = refl };
    alone = record {
      sections = tree;
      free = free;
      holds = holds_by _ _ refl (refl, (refl, (refl, (refl, tt))));
      ended = record { front = []; is = refl };
    };
  };
  position = refl;
  placed = λ e. no-true-false e refl;
  resting = λ e. no-true-false refl e;
}
