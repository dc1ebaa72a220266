-- In a file made by CREATE a raw name's spelling is zero: there is no name at its first OPEN, only the end record, whose data words are 0.
use Prim.Native.Nat.{ℕ, ◌+◌, ◌-◌, ◌<◌}
use mathlib.Core.Path.{◌≡◌, sym, ap, ◌∙◌, subst}
use mathlib.Core.Bool.{Bool, true, false, cond}
use mathlib.Core.List.{List, [], ◌∷◌, ◌++◌}
use native.Mathlib.Decide.{dec_lt}
use native.Mathlib.Omega.{arith}
use lib.ListN.{length-replicate}
use Rattle.numbers.specs.Numbers.{done}
use Rattle.words.specs.Words.{part, zeros, top_word}
use Rattle.words.specs.Keys.{ones, same_key}
use Rattle.words.proofs.Parts.{part_none, part-append-high, part-zeros}
use Rattle.drum.specs.declared.Description.{Description}
use Rattle.drum.specs.Params.{good_params}
use Rattle.layout.specs.Create.{end_record}
use Rattle.layout.specs.Tree.{Tree, contents, fresh_tree, fresh_section, fresh_leaf}
use Rattle.layout.specs.Holds.{All}
use Rattle.layout.proofs.Unique.{one-tree}
use Rattle.rules.specs.State.{State, desc, key_in, lent}
use Rattle.rules.specs.Open.{create}
use Rattle.demands.specs.Refusals.{leaves_all}
use Rattle.demands.specs.History.{with_key}
use Rattle.demands.proofs.Demands.{opens, opened-desc, made-fresh}
use Rattle.register.specs.Names.{raw, spelling_size, state_of, spelling_of}
use Rattle.registered.specs.Deeds.{Deed, asking, did, left_by}
use Rattle.registered.specs.Kept.{Registers, RawZero}
use Rattle.registered.specs.Fresh.{FreshRawZero}
use Rattle.registered.proofs.Tells.{Tells}
use Rattle.registered.proofs.Spared.{none-some, one-is}
use Rattle.registered.proofs.Theorems.{found, raw-is-zero, from-open}
use Rattle.registered.proofs.Steps.{handed-done}

-- ---- the end record

end-zero : (p : Description) → spelling_of p (end_record p) ≡ zeros (spelling_size p)
unfolding spelling_of end_record
end-zero p = go (dec_lt p.k p.wpr)
  where
    go : Dec (p.k < p.wpr) → part (p.k + 1) (spelling_size p) (ones p.k ++ zeros (p.wpr - p.k)) ≡ zeros (spelling_size p)
    go (yes h) =
        ap (λ (n : ℕ). part (n + 1) (spelling_size p) (ones p.k ++ zeros (p.wpr - p.k))) (sym (length-replicate {A = ℕ} p.k top_word))
        ∙ part-append-high 1 (spelling_size p) (ones p.k) (zeros (p.wpr - p.k))
        ∙ part-zeros 1 (spelling_size p) (p.wpr - p.k) (omega arith)
    go (no n) =
        let z : spelling_size p ≡ 0 = omega arith in
        ap (λ (m : ℕ). part (p.k + 1) m (ones p.k ++ zeros (p.wpr - p.k))) z ∙ part_none (p.k + 1) _ ∙ ap zeros (sym z)

fresh-zero : (p : Description) (key : List ℕ) → RawZero p (with_key p key (contents (fresh_tree p)))
unfolding with_key fresh_tree fresh_section fresh_leaf
fresh-zero p key = go (same_key (key_in p (end_record p)) key)
  where
    go : (t : Bool) → RawZero p (cond t (end_record p ∷ []) [])
    go true r e s = ap (spelling_of p) (sym (one-is (end_record p) r e)) ∙ end-zero p
    go false r e s = absurd (none-some r [] e)

-- ---- asking, where no raw name had a spelling

abbrev AsksZero : State → (List ℕ → List (List ℕ)) → Type 0
AsksZero u was =
    ((key : List ℕ) → RawZero (desc u) (was key)) → (ds : List Deed) → All Registers ds → (name : List ℕ)
    → let o = did (left_by u ds) (asking name) in
    o.number ≡ done → state_of (desc u) o.after.work ≡ raw → spelling_of (desc u) o.after.work ≡ zeros (spelling_size (desc u))

asks-zero : (u : State) (was : List ℕ → List (List ℕ)) → Tells (desc u) u was → AsksZero u was
unfolding leaves_all
asks-zero u was h none ds only name z s =
    let o = did (left_by u ds) (asking name) in
    let key = key_in (desc u) name in
    raw-is-zero u was h ds key only (none key) o.after.work (sym (found u was h ds name (ap leaves_all z)) ∙ handed-done o z) s

pub fresh-raw-zero : FreshRawZero
fresh-raw-zero session f buffer work marks c o =
    let made = lent session (create session.desc f).file buffer work in
    let p = session.desc in
    let z = opens made marks o in
    let d = opened-desc made marks o in
    let good : good_params p ≡ true = subst (λ (q : Description). good_params q ≡ true) d z.sound.kept.good in
    let (t, there, asks) = from-open AsksZero asks-zero made marks o in
    let same : t ≡ fresh_tree p = one-tree p made.file t z.tree good there z.stands ∙ made-fresh session f buffer work marks c o in
    asks
    (λ key.
    subst (λ (q : Description). RawZero q (with_key p key (contents t))) (sym d)
    (subst (λ (x : Tree). RawZero p (with_key p key (contents x))) (sym same) (fresh-zero p key)))
