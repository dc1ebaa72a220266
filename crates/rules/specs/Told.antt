-- The form of the promises below the session: what a call's steps leave, as its code can tell it.
use Rattle.std.specs.Prelude.{◌≡◌, ℕ, Bool, false, List, length}
use Rattle.numbers.specs.Checked.{Checked, passed, refused}
use Rattle.words.specs.Slices.{Slice, was, became}
use Rattle.drum.specs.declared.Description.{Description}
use Rattle.drum.specs.Blocks.{Texts, seen}
use Rattle.rules.specs.declared.Done.{Done}
use Rattle.rules.specs.declared.Held.{Held}
use Rattle.rules.specs.State.{Effect}

-- an effect with its transfers counted
pub record Told : Type 0 where
  pub number : ℕ
  pub transfers : ℕ
  pub current : ℕ
  pub flag : Bool
  pub keyed : Bool
  pub file : List ℕ
  pub buffer : List ℕ
  pub work : List ℕ

-- what the code gave back, with the words it left in file, buffer and workspace
abbrev pub gave : Done → List ℕ → List ℕ → List ℕ → Told
gave r f b work = record {
  number = r.number;
  transfers = r.transfers;
  current = r.current;
  flag = r.flag;
  keyed = r.keyed;
  file = f;
  buffer = b;
  work = work;
}

-- what the steps tell: a refusal leaves "all unchanged", with 0 transfers
abbrev pub told : Texts → Bool → List ℕ → Checked Effect → Told
told v flag work (refused n) = record {
  number = n;
  transfers = 0;
  current = v.current;
  flag = flag;
  keyed = false;
  file = v.file;
  buffer = v.buffer;
  work = work;
}
told v flag work (passed e) = record {
  number = e.number;
  transfers = length e.transfers;
  current = e.current;
  flag = e.flag;
  keyed = e.keyed;
  file = e.file;
  buffer = e.buffer;
  work = e.work;
}

-- the promise of a function that makes a call's steps, or the last of them: what it gave back, with the words it left, is what the steps tell
abbrev pub Follows : Done → (Texts → Bool → List ℕ → Checked Effect) → Description → ℕ → Bool → Slice → Slice → Slice → Type 0
Follows r steps p current flag file buffer work =
    let v = seen p current (was file) (was buffer) in
    gave r (became file) (became buffer) (became work) ≡ told v flag (was work) (steps v flag (was work))

-- the same promise where description, current block and flag are handed over as one
abbrev pub FollowsAt : Done → (Texts → Bool → List ℕ → Checked Effect) → Held → Slice → Slice → Slice → Type 0
FollowsAt r steps at = Follows r steps at.desc at.current at.flag
