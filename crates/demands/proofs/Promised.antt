-- Demand 2's sentences about the file and its blocks: each block reached once, chained once or never used; no 070003; words small; only the
-- blocks of the list written.
use Prim.Native.Nat.{ℕ, suc, ◌≤◌}
use mathlib.Core.Bool.{Bool, true, false, cond}
use mathlib.Core.Logic.{◌⊎◌, inl, inr}
use mathlib.Core.Path.{◌≡◌, refl, sym, ap, ◌∙◌, subst}
use mathlib.Core.List.{List, [], ◌∷◌, ◌++◌}
use native.Mathlib.Omega.{arith}
use native.Mathlib.Decide.{ℕ_discrete}
use lib.ListN.{length}
use borrow.Author.Tests.{eq-eqb, ne_eqb}
use Rattle.numbers.specs.Numbers.{done, wrong_size, is_closed, at_end, accepted}
use Rattle.words.specs.Words.{all_words}
use Rattle.words.specs.Keys.{val}
use Rattle.words.proofs.All.{all_words-part}
use Rattle.drum.specs.declared.Description.{Description}
use Rattle.drum.specs.Blocks.{Write, block_at, written}
use Rattle.drum.specs.Blocks as drum
use Rattle.layout.specs.Tree.{Section}
use Rattle.layout.specs.Holds as lay
use Rattle.rules.specs.State.{State, Outcome, desc, texts, key_in, unchanged, settle}
use Rattle.rules.specs.Checks.{work_ok, is_open}
use Rattle.rules.specs.Lookup.{flush_moves}
use Rattle.rules.specs.Seek.{seek, seek_steps}
use Rattle.rules.specs.Adv.{adv}
use Rattle.rules.specs.Open.{open_file}
use Rattle.rules.specs.Requests.{opening, closing, seeking, advancing, inserting, deleting, updating, extending, given, lending, answer}
use Rattle.demands.proofs.Scene.{scene}
use Rattle.demands.proofs.Refused.{impossible}
use Rattle.demands.proofs.Lengths.{only-written-changes}
use Rattle.demands.specs.Promises.{AfterOpen, put_back, EachBlockOnce, NoBadFile, Small, WordsSmall, OnlyWritten}
use Rattle.demands.proofs.Lists.{All, all_right}
use Rattle.demands.proofs.Order.{below, from, below-from, hit}
use Rattle.demands.proofs.Trees.{leaves_in}
use Rattle.demands.proofs.Cells.{wrote-same}
use Rattle.demands.proofs.Blocks.{cells_written, written-text}
use Rattle.demands.proofs.Holds.{Free, RowOk}
use Rattle.demands.proofs.Sound.{Sound, current-in}
use Rattle.demands.proofs.Answers.{sizes-pass}
use Rattle.demands.proofs.Seek.{SeekRight, seek-right}
use Rattle.demands.proofs.Adv.{AdvRight, mark}
use Rattle.demands.proofs.AdvRight.{adv-right}
use Rattle.demands.proofs.Records.{rows_of, rows_ok}
use Rattle.demands.proofs.Step.{Gate, stopped, ready, gate, lent-sound, sound-run}
use Rattle.demands.proofs.Opens.{Opens, flushed-stands, file-alone, never-070003}
use Rattle.demands.proofs.Demands.{opens}

-- what holds of sound states holds after each call of a run
pub after_open : (P : State → Type 0) → ((st : State) (ss : List Section) (f : Free) → Sound st ss f → P st) → AfterOpen P
after_open P h st marks o qs =
    let z : Opens st marks = opens st marks o in
    let r = sound-run (open_file st marks).outcome.after z.tree.sections _ z.sound qs in
    h _ r.0 r.1 r.2

pub each-block-once : EachBlockOnce
unfolding lay.WellFormed
each-block-once =
    after_open (λ (st : State). lay.WellFormed (desc st) (put_back st) × lay.WellFormed (desc st) st.file) λ st ss f h.
    ((_, flushed-stands st ss f h), file-alone st ss f h)

pub no-bad-file : NoBadFile
no-bad-file = after_open _ never-070003

-- ---- words

module _ (st : State) (ss : List Section) (f : Free) (h : Sound st ss f) where
  abbrev p : Description
  p = desc st

  small-file : all_words st.file ≡ true
  small-file = unfold lay.WellFormed in (file-alone st ss f h).1.words

  block-small : (b : ℕ) (file : List ℕ) → all_words file ≡ true → all_words (block_at p file b) ≡ true
  unfolding block_at
  block-small b file e = all_words-part _ _ file e

  flushes : st.session.flag ≡ true → put_back st ≡ written p (Write st.session.current st.buffer ∷ []) st.file
  unfolding flush_moves
  flushes e = ap (λ (t : Bool). written p (cond t (Write st.session.current st.buffer ∷ []) []) st.file) e

  small-buffer : 1 ≤ st.session.current → all_words st.buffer ≡ true
  unfolding cells_written
  small-buffer l = go st.session.flag refl (flushed-stands st ss f h).words
    where
      c : ℕ
      c = st.session.current

      go : (t : Bool) → st.session.flag ≡ t → all_words (put_back st) ≡ true → all_words st.buffer ≡ true
      go false e w = subst (λ (x : List ℕ). all_words x ≡ true) (sym (h.kept.clean e l)) (block-small c st.file small-file)
      go true e w =
          let u : c ≤ p.n = current-in (texts st) st.session.flag ss f h.kept l in
          let ms : List drum.Transfer = Write c st.buffer ∷ [] in
          let is : put_back st ≡ written p ms st.file = flushes e in
          let at : block_at p (put_back st) c ≡ st.buffer
          = ap (λ (x : List ℕ). block_at p x c) is ∙ written-text p ms st.file h.kept.file-length ((l, u, h.kept.buffer-length), tt) c l u
          ∙ wrote-same (block_at p st.file) c st.buffer in
          subst (λ (x : List ℕ). all_words x ≡ true) at (block-small c (put_back st) w)

  -- what SEEK and ADV hand out is a record of the file
  open scene st ss use {K, rows}

  row_small : (fr : List (List ℕ)) (y : List ℕ) (cs : List (List ℕ)) → rows ≡ fr ++ y ∷ cs → all_words y ≡ true
  row_small fr y cs e = (all_right (RowOk p) fr _ (subst (All (RowOk p)) e (rows_of p (leaves_in ss) (rows_ok p ss h.kept.holds.sized)))).0.1

  seek-small : Gate st ss f h p.k → (seek st).number ≡ done → all_words (seek st).after.work ≡ true
  unfolding seek hit
  seek-small (stopped n ne ac nf e) d =
      impossible (sym (ap accepted d) ∙ ap accepted (ap (λ (o : Outcome). o.number) (e (seek_steps (texts st) st.session.flag st.work))) ∙ ac)
  seek-small (ready r) d = go (seek-right st ss f r)
    where
      x : ℕ
      x = val (key_in p st.work)

      go : SeekRight st ss f → all_words (seek st).after.work ≡ true
      go (inl (e, g, z)) = absurd (omega (arith, g.number-is, d))
      go (inr (y, e, g, z)) =
          subst (λ (t : List ℕ). all_words t ≡ true) (sym z)
          (row_small (below K x rows) y (from K (suc x) (from K x rows))
          (sym (below-from K x rows)
          ∙ ap (λ (t : List (List ℕ)). below K x rows ++ t)
          (sym (below-from K (suc x) (from K x rows)) ∙ ap (λ (t : List (List ℕ)). t ++ from K (suc x) (from K x rows)) e)))

  neither : (n : ℕ) → (n ≡ done → ⊥) → (n ≡ at_end → ⊥) → adv st ≡ unchanged st n → ((adv st).number ≡ done) ⊎ ((adv st).number ≡ at_end)
      → all_words (adv st).after.work ≡ true
  neither n d a e (inl z) = absurd (d (ap (λ (o : Outcome). o.number) (sym e) ∙ z))
  neither n d a e (inr z) = absurd (a (ap (λ (o : Outcome). o.number) (sym e) ∙ z))

  adv-small : Dec (length st.work ≡ p.wpr) → (u : Bool) → st.session.opened ≡ u → ((adv st).number ≡ done) ⊎ ((adv st).number ≡ at_end)
      → all_words (adv st).after.work ≡ true
  unfolding adv work_ok is_open settle
  adv-small (no n) u o d = neither wrong_size (λ e. omega arith) (λ e. omega arith) (simp (sizes-pass st ss f h, ne_eqb (length st.work) p.wpr n)) d
  adv-small (yes l) false o d = neither is_closed (λ e. omega arith) (λ e. omega arith) (simp (sizes-pass st ss f h, eq-eqb (length st.work) p.wpr l, o)) d
  adv-small (yes l) true o d =
      let q : AdvRight st ss f = adv-right st ss f h o l in
      subst (λ (t : List ℕ). all_words t ≡ true) (sym q.4)
      (row_small (below K (mark st) rows) q.0 q.1 (sym (below-from K (mark st) rows) ∙ ap (λ (t : List (List ℕ)). below K (mark st) rows ++ t) q.2))

pub words_small : WordsSmall
unfolding answer lending
words_small = after_open Small λ st ss f h.
    record {
      file = small-file st ss f h;
      buffer = small-buffer st ss f h;
      seek = λ w. let k = lent-sound w st ss f h in seek-small (lending w st) ss f k (gate (lending w st) ss f k (desc st).k);
      adv = λ w. adv-small (lending w st) ss f (lent-sound w st ss f h) (ℕ_discrete (length w) (desc st).wpr) st.session.opened refl;
    }

-- ---- only the blocks written change

pub only-written : OnlyWritten
unfolding given lending
only-written st (opening marks) b = only-written-changes st (opening marks) b
only-written st closing b = only-written-changes st closing b
only-written st (seeking w) b = only-written-changes st (seeking w) b
only-written st (advancing w) b = only-written-changes st (advancing w) b
only-written st (inserting w) b = only-written-changes st (inserting w) b
only-written st (deleting w) b = only-written-changes st (deleting w) b
only-written st (updating w) b = only-written-changes st (updating w) b
only-written st (extending w) b = only-written-changes st (extending w) b
