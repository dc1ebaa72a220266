-- What a call is given where no row of the table of numbers before 070003 applies, and how its answer is said in terms of the contents.
use Prim.Native.Nat.{ℕ, ◌+◌, ◌≤◌}
use mathlib.Core.Bool.{Bool, true, false, not, cond, ◌&&◌}
use mathlib.Core.Path.{◌≡◌, refl, sym, ap, ◌∙◌, subst}
use mathlib.Core.List.{List}
use native.Mathlib.Omega.{arith}
use lib.ListN.{length, length-replicate}
use borrow.Author.Tests.{eq-eqb, not-true}
use Rattle.numbers.specs.Numbers.{wrong_key}
use Rattle.numbers.specs.Checked.{Checked, passed, ◌>>◌, require}
use Rattle.words.specs.Words.{part, put, all_words, top_word}
use Rattle.words.specs.Keys.{ones, is_ones, val}
use Rattle.words.proofs.Parts.{length_part, take_part, part-all, part-written, length-put}
use Rattle.words.proofs.All.{and_both, all_words-take, all_words-replicate, below-ones}
use Rattle.words.proofs.Values.{key_lt-val-lt}
use Rattle.drum.specs.declared.Description.{Description}
use Rattle.drum.specs.Params.{every, sized, file_size}
use Rattle.drum.specs.Blocks.{seen}
use Rattle.drum.proofs.Good.{Good, good-facts}
use Rattle.rules.specs.State.{Session, State, Outcome, Effect, desc, lent, key_in, record_in, holding, positioned, outcome, settle}
use Rattle.rules.specs.Checks.{sizes_ok, work_ok, is_open, key_ok}
use Rattle.layout.specs.Tree.{Section}
use Rattle.demands.proofs.Trees.{leaves_in, records_in, key}
use Rattle.demands.proofs.Holds.{Free, RowOk}
use Rattle.demands.proofs.Sound.{Key, KeptTree, Sound, no-true-false}
use Rattle.demands.proofs.Growth.{Growth, Grows}

-- a keyed call that reads so many words of the workspace
pub record Ready (reads : ℕ) (st : State) (ss : List Section) (f : Free) : Type 0 where
  pub sound : Sound st ss f
  pub opened : st.session.opened ≡ true
  pub work-length : length st.work ≡ (desc st).wpr
  pub asked : key_ok reads st ≡ passed true

pub required : (t : Bool) (n : ℕ) → require t n ≡ passed true → t ≡ true
required true n e = refl
required false n e = absurd (let z : ◌≡◌ {A = ℕ} 0 1 = cc in omega arith)

module _ (reads : ℕ) (st : State) (ss : List Section) (f : Free) (r : Ready reads st ss f) where
  words_of : (all_words (part 0 reads st.work) ≡ true) × (not (is_ones (key_in (desc st) st.work)) ≡ true)
  unfolding key_ok
  words_of = and_both _ _ (required (all_words (part 0 reads st.work) && not (is_ones (key_in (desc st) st.work))) wrong_key r.asked)

  pub key_of : (desc st).k ≤ reads → reads ≤ (desc st).wpr → Key (desc st) (key_in (desc st) st.work)
  key_of l u =
      let k : ℕ = (desc st).k in
      let w : List ℕ = key_in (desc st) st.work in
      let long : length w ≡ k = length_part 0 k st.work (omega (arith, r.work-length)) in
      let wide : all_words w ≡ true = ap all_words (sym (take_part 0 k reads st.work l)) ∙ all_words-take k (part 0 reads st.work) words_of.0 in
      record {
        long = long;
        wide = wide;
        below = key_lt-val-lt w (ones k) wide (all_words-replicate k top_word (omega arith)) (long ∙ sym (length-replicate {A = ℕ} k top_word))
            (below-ones k w long wide (not-true _ words_of.1));
      }

-- the record in the workspace, where the call reads all of it
module _ (st : State) (ss : List Section) (f : Free) (r : Ready (desc st).wpr st ss f) where
  pub work-is : record_in (desc st) st.work ≡ st.work
  work-is = part-all (desc st).wpr st.work r.work-length

  pub work-ok : RowOk (desc st) st.work
  work-ok = (r.work-length, ap all_words (sym work-is) ∙ (words_of (desc st).wpr st ss f r).0)

pub work-key : (p : Description) (work : List ℕ) → key p.k work ≡ val (key_in p work)
unfolding key part
work-key p work = refl

pub sizes-pass : (st : State) (ss : List Section) (f : Free) → Sound st ss f → sizes_ok st ≡ passed true
unfolding sizes_ok sized every
sizes-pass st ss f h = simp (
  h.kept.good,
  eq-eqb (length st.file) (file_size (desc st)) h.kept.file-length,
  eq-eqb (length st.buffer)
      (desc st).wpb h.kept.buffer-length,
)

pub work-pass : (st : State) → length st.work ≡ (desc st).wpr → work_ok st ≡ passed true
unfolding work_ok
work-pass st e = simp (eq-eqb (length st.work) (desc st).wpr e)

pub open-pass : (st : State) → st.session.opened ≡ true → is_open st ≡ passed true
unfolding is_open
open-pass st e = simp e

-- ---- the answer, where the tree was ss and is then ss' with the free blocks f': the number, how many transfers at most, a sound state of the
-- same file, its contents, and what the call brought

pub record Gives (st : State) (ss : List Section) (o : Outcome) (number : ℕ) (most : ℕ) (rows : List (List ℕ)) (brought : Growth) (ss' : List Section)
    (f' : Free) : Type 0 where
  pub number-is : o.number ≡ number
  pub most-is : length o.transfers ≤ most
  pub desc-is : desc o.after ≡ desc st
  pub sound : Sound o.after ss' f'
  pub contents-is : records_in (leaves_in ss') ≡ rows
  pub grows : Grows (desc st) ss ss' brought

pub gives_more : (st : State) (ss : List Section) (o : Outcome) (n few most : ℕ) (rows : List (List ℕ)) (brought : Growth) (ss' : List Section) (f' : Free)
    → Gives st ss o n few rows brought ss' f' → few ≤ most
    → Gives st ss o n most rows brought ss' f'
gives_more st ss o n few most rows brought ss' f' g l =
    record { number-is = g.number-is; most-is = omega (arith, g.most-is); desc-is = g.desc-is; sound = g.sound; contents-is = g.contents-is; grows = g.grows }

-- another call that answers the same and leaves the same, with so many transfers more at most
pub gives_as : (st : State) (ss : List Section) (o o₁ : Outcome) (more : ℕ) → o₁.number ≡ o.number → o₁.after ≡ o.after
    → length o₁.transfers ≤ length o.transfers + more
    → {n most : ℕ} {rows : List (List ℕ)} {brought : Growth} {ss' : List Section} {f' : Free}
    → Gives st ss o n most rows brought ss' f' → Gives st ss o₁ n (most + more) rows brought ss' f'
gives_as st ss o o₁ more en ea el {n} {most} {rows} {brought} {ss'} {f'} g = record {
  number-is = en ∙ g.number-is;
  most-is = omega (arith, g.most-is);
  desc-is = ap desc ea ∙ g.desc-is;
  sound = subst (λ (z : State). Sound z ss' f') (sym ea) g.sound;
  contents-is = g.contents-is;
  grows = g.grows;
}

module _ (st : State) (ss : List Section) (f : Free) (h : Sound st ss f) (o : st.session.opened ≡ true) (e : Effect) (ss' : List Section) (f' : Free)
    (k : KeptTree (seen (desc st) e.current e.file e.buffer) e.flag ss' f') (most : ℕ) (cost : length e.transfers ≤ most)
    (brought : Growth) (grew : Grows (desc st) ss ss' brought) where
  -- what it gives, of the session that it leaves
  leaving : (s : Session) → (outcome st.session e).after.session ≡ s → s.desc ≡ desc st → Sound (lent s e.file e.buffer e.work) ss' f'
      → Gives st ss (outcome st.session e) e.number most (records_in (leaves_in ss')) brought ss' f'
  unfolding outcome
  leaving s q d z = record {
    number-is = refl;
    most-is = cost;
    desc-is = ap (λ (x : Session). x.desc) q ∙ d;
    sound = subst (λ (x : Session). Sound (lent x e.file e.buffer e.work) ss' f') (sym q) z;
    contents-is = refl;
    grows = grew;
  }

  -- position kept
  plain : e.keyed ≡ false → Gives st ss (outcome st.session e) e.number most (records_in (leaves_in ss')) brought ss' f'
  unfolding outcome holding
  plain q =
      let s : Session = holding e.current e.flag st.session in
      leaving s (ap (λ (t : Bool). cond t (positioned (key_in (desc st) e.work) s) s) q) refl
      (record { kept = k; position = h.position; placed = h.placed; resting = λ c. no-true-false o c })

  -- "position = key"
  keyed : e.keyed ≡ true → Key (desc st) (key_in (desc st) e.work)
      → Gives st ss (outcome st.session e) e.number most (records_in (leaves_in ss')) brought ss' f'
  unfolding outcome holding positioned
  keyed q kw =
      let key : List ℕ = key_in (desc st) e.work in
      let g : Good (desc st) = good-facts (desc st) k.good in
      let s : Session = record { desc = desc st; opened = st.session.opened; current = e.current; flag = e.flag; placed = st.session.placed; position = st.session.position } in
      let t : Session = record { desc = desc st; opened = st.session.opened; current = e.current; flag = e.flag; placed = true; position = put st.session.position 0 key } in
      let room : 0 + length key ≤ length st.session.position = omega (arith, kw.long, h.position, g.k-most) in
      let z : Sound (record { session = t; file = e.file; buffer = e.buffer; work = e.work }) ss' f'
      = record {
        kept = k;
        position = length-put st.session.position 0 key room ∙ h.position;
        placed = λ c. subst (Key (desc st)) (sym (part-written st.session.position 0 (desc st).k key kw.long (omega (arith, kw.long, room)))) kw;
        resting = λ c. no-true-false o c;
      } in
      leaving t (ap (λ (b : Bool). cond b t s) q) refl z

  pub effect-gives : (n : ℕ) (rows : List (List ℕ)) → e.number ≡ n → records_in (leaves_in ss') ≡ rows
      → (e.keyed ≡ true → Key (desc st) (key_in (desc st) e.work))
      → Gives st ss (outcome st.session e) n most rows brought ss' f'
  effect-gives n rows en er kw =
      subst (λ (m : ℕ). Gives st ss (outcome st.session e) m most rows brought ss' f') en
      (subst (λ (z : List (List ℕ)). Gives st ss (outcome st.session e) e.number most z brought ss' f') er (go e.keyed refl))
    where
      go : (t : Bool) → e.keyed ≡ t → Gives st ss (outcome st.session e) e.number most (records_in (leaves_in ss')) brought ss' f'
      go true q = keyed q (kw q)
      go false q = plain q

-- a call whose checks pass does what its steps come to
module _ (st : State) (ss : List Section) (f : Free) (reads : ℕ) (r : Ready reads st ss f) (steps : Checked Effect) (e : Effect)
    (steps-are : steps ≡ passed e) where
  pub ready-pass : settle st (sizes_ok st >> (work_ok st >> (is_open st >> (key_ok reads st >> steps)))) ≡ outcome st.session e
  unfolding settle
  ready-pass = simp (sizes-pass st ss f r.sound, work-pass st r.work-length, open-pass st r.opened, r.asked, steps-are)
