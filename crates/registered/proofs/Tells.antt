-- A state of which SEEK tells what stands under every key: what `demands` promises after an OPEN that answers 0, and after any calls from there.
use Prim.Native.Nat.{ℕ}
use mathlib.Core.Path.{◌≡◌, refl, sym, ap, ◌∙◌}
use mathlib.Core.Bool.{Bool, true, false, cond}
use mathlib.Core.List.{List, [], ◌∷◌, ◌++◌}
use Rattle.words.specs.Keys.{same_key}
use Rattle.drum.specs.declared.Description.{Description}
use Rattle.layout.specs.Holds.{All}
use Rattle.rules.specs.State.{State, desc, key_in}
use Rattle.rules.specs.Requests.{Request, seeking, answer, left}
use Rattle.demands.specs.Refusals.{leaves_all}
use Rattle.demands.specs.History.{with_key, handed}
use Rattle.demands.specs.Story.{deeds, stands, added, replaced, removed, added-to, in_place}
use Rattle.demands.specs.Story as story
use Rattle.registered.proofs.Runs.{left-append, left-desc, stands-append, deeds-append}

-- the records of a key have it
abbrev pub Keyed : Description → List ℕ → List (List ℕ) → Type 0
Keyed p key rs = All (λ (r : List ℕ). same_key (key_in p r) key ≡ true) rs

pub with-keyed : (p : Description) (key : List ℕ) (rows : List (List ℕ)) → Keyed p key (with_key p key rows)
unfolding with_key All
with-keyed p key [] = tt
with-keyed p key (r ∷ rows) = go (same_key (key_in p r) key) refl (with-keyed p key rows)
  where
    go : (t : Bool) → same_key (key_in p r) key ≡ t → Keyed p key (with_key p key rows) → Keyed p key (cond t (r ∷ with_key p key rows) (with_key p key rows))
    go true e h = (e, h)
    go false e h = h

module _ (p : Description) (key : List ℕ) where
  added-keyed : (r : List ℕ) (was : List (List ℕ)) → same_key (key_in p r) key ≡ true → Keyed p key was → Keyed p key (added-to r was)
  unfolding added-to All
  added-keyed r [] e h = (e, tt)
  added-keyed r (x ∷ xs) e h = h

  placed-keyed : (r : List ℕ) (was : List (List ℕ)) → same_key (key_in p r) key ≡ true → Keyed p key was → Keyed p key (in_place r was)
  unfolding in_place All
  placed-keyed r [] e h = tt
  placed-keyed r (x ∷ xs) e h = (e, tt)

  pub stands-keyed : (es : List story.Deed) (was : List (List ℕ)) → Keyed p key was → Keyed p key (stands p key es was)
  unfolding stands
  stands-keyed [] was h = h
  stands-keyed (added r ∷ es) was h = stands-keyed es _ (go (same_key (key_in p r) key) refl)
    where
      go : (t : Bool) → same_key (key_in p r) key ≡ t → Keyed p key (cond t (added-to r was) was)
      go true e = added-keyed r was e h
      go false e = h
  stands-keyed (replaced r ∷ es) was h = stands-keyed es _ (go (same_key (key_in p r) key) refl)
    where
      go : (t : Bool) → same_key (key_in p r) key ≡ t → Keyed p key (cond t (in_place r was) was)
      go true e = placed-keyed r was e h
      go false e = h
  stands-keyed (removed x ∷ es) was h = stands-keyed es _ (go (same_key x key))
    where
      go : (t : Bool) → Keyed p key (cond t [] was)
      go true = unfold All in tt
      go false = h

-- what stands under each key is what SEEK, not refused, then hands out
pub record Tells (p : Description) (u : State) (now : List ℕ → List (List ℕ)) : Type 0 where
  pub parameters : desc u ≡ p
  pub seen : (qs : List Request) (work : List ℕ) → leaves_all (answer (left u qs) (seeking work)).number ≡ false
      → handed (answer (left u qs) (seeking work)) ≡ stands p (key_in p work) (deeds u qs) (now (key_in p work))
  pub keyed : (key : List ℕ) → Keyed p key (now key)

-- after any calls
abbrev pub onward : Description → State → List Request → (List ℕ → List (List ℕ)) → List ℕ → List (List ℕ)
onward p u qs now key = stands p key (deeds u qs) (now key)

pub tells-on : (p : Description) (u : State) (now : List ℕ → List (List ℕ)) → Tells p u now → (qs : List Request) → Tells p (left u qs) (onward p u qs now)
tells-on p u now h qs = record {
  parameters = left-desc u qs ∙ h.parameters;
  seen = λ rs work z.
      let e = left-append u qs rs in
      ap (λ (s : State). handed (answer s (seeking work))) (sym e)
      ∙ h.seen (qs ++ rs) work (ap (λ (s : State). leaves_all (answer s (seeking work)).number) e ∙ z)
      ∙ ap (λ (x : List story.Deed). stands p (key_in p work) x (now (key_in p work))) (deeds-append u qs rs)
      ∙ stands-append p (key_in p work) (deeds u qs) (deeds (left u qs) rs) (now (key_in p work));
  keyed = λ key. stands-keyed p key (deeds u qs) (now key) (h.keyed key);
}

-- what SEEK hands out next
pub tells-now : (p : Description) (u : State) (now : List ℕ → List (List ℕ)) → Tells p u now → (work : List ℕ)
    → leaves_all (answer u (seeking work)).number ≡ false → handed (answer u (seeking work)) ≡ now (key_in p work)
unfolding left deeds stands
tells-now p u now h work z = h.seen [] work z
