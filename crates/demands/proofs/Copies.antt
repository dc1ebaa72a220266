-- A copy is opened and used as the file it was made from: one tree stands in both.
use Prim.Native.Nat.{ℕ, ◌≤◌}
use mathlib.Core.Path.{◌≡◌, sym, ap, ◌∙◌, subst}
use mathlib.Core.Bool.{true}
use mathlib.Core.List.{List}
use native.Mathlib.Omega.{arith}
use lib.ListN.{length}
use Rattle.numbers.specs.Numbers.{done}
use Rattle.drum.specs.declared.Description.{Description}
use Rattle.drum.specs.Params.{good_params}
use Rattle.layout.specs.Tree.{Tree, contents}
use Rattle.layout.specs.Holds.{Holds, WellFormed}
use Rattle.layout.specs.Copied.{under_control, copied}
use Rattle.layout.proofs.Good.{good-facts}
use Rattle.layout.proofs.Unique.{master-words, one-tree}
use Rattle.layout.proofs.Copied.{copy_holds}
use Rattle.rules.specs.State.{State, lent, desc}
use Rattle.rules.specs.Open.{open_file}
use Rattle.rules.specs.Copy.{Copy, copy}
use Rattle.rules.proofs.Copies.{copy-facts, copy-exact, copy-opens}
use Rattle.demands.specs.Copies.{FindsAmong, CopyFinds}
use Rattle.demands.proofs.Mission.{second as demand-two}

-- a state whose file holds t, and whose OPEN answers 0
finds-tree : (st : State) (marks : List ℕ) (t : Tree) → (open_file st marks).outcome.number ≡ done → good_params (desc st) ≡ true
    → Holds (desc st) st.file t → FindsAmong st marks (contents t)
finds-tree st marks t e good h =
    let (u, k, found) = demand-two.seek st marks e in
    let same : contents u ≡ contents t = ap contents (one-tree (desc st) st.file u t good k h) in
    record { opens = e; finds = λ qs w n. found qs w n ∙ rw same }

pub copy-finds : CopyFinds
unfolding WellFormed under_control
copy-finds p opened c f second marks d =
    let x = copy-exact p opened c f second marks in
    let (e, u, (t, h)) = x.only d in
    let z = copy-facts p c f _ _ e in
    let s : length t.sections ≤ c = omega (arith, z.room, (master-words p f (record { good = good-facts p z.good; size = h.size }) t h).secs) in
    let k : Holds (under_control c p) (copied c p f) t = copy_holds c p f t z.good z.again s h in
    let r : (copy p opened c f second marks).second ≡ copied c p f = ap (λ (y : Copy). y.second) (x.made e u t h) in (
      t,
      h,
      λ fresh buffer work others q o lb lm.
          let st = lent fresh (copy p opened c f second marks).second buffer work in
          let good : good_params fresh.desc ≡ true = ap good_params q ∙ z.again in
          let under : Holds (under_control c p) (copy p opened c f second marks).second t = subst (λ (y : List ℕ). Holds (under_control c p) y t) (sym r) k in
          let held : Holds fresh.desc (copy p opened c f second marks).second t =
          subst (λ (y : Description). Holds y (copy p opened c f second marks).second t) (sym q) under in
          finds-tree st others t ((copy-opens p opened c f second marks d fresh buffer work others o lb lm).1 q).0 good held,
    )
