-- The reading set opens exactly the finished files, and XTEND makes them.
use Prim.Native.Nat.{ℕ}
use mathlib.Core.Path.{◌≡◌, refl, sym, ap, ◌∙◌, subst}
use mathlib.Core.Bool.{Bool, true, false, ◌&&◌}
use mathlib.Core.Logic.{◌⊎◌, inl, inr}
use mathlib.Core.List.{List, [], ◌∷◌}
use native.Mathlib.Omega.{arith}
use borrow.Author.Tests.{eq-eqb}
use lib.Dec.{eqb}
use lib.ListN.{length}
use Rattle.numbers.specs.Numbers.{done, wrong_size, is_closed, bad_file}
use Rattle.numbers.specs.Checked.{Checked, passed, refused, ◌>>◌, require}
use Rattle.words.specs.Words.{zeros}
use Rattle.words.proofs.All.{and_both}
use Rattle.drum.specs.declared.Description.{Description}
use Rattle.drum.specs.Params.{good_params, file_size, sized, every}
use Rattle.drum.proofs.Good.{sized-facts}
use Rattle.layout.specs.Inspect.{layout_marks}
use Rattle.layout.specs.Tree.{Leaf, Tree, leaves_of, marks_of}
use Rattle.layout.specs.Holds.{Holds}
use Rattle.layout.proofs.Exact.{open-exact, refused_none}
use Rattle.rules.specs.State.{State, desc, texts, lent}
use Rattle.rules.specs.Checks.{sizes_ok, is_open}
use Rattle.rules.specs.Lookup.{flush_ok}
use Rattle.rules.specs.Open.{Opened, create, open_file, open_checks, open_layout}
use Rattle.rules.specs.Close.{close, close_checks, close_done}
use Rattle.rules.specs.Requests.{Request, answer, left}
use Rattle.demands.specs.Promises.{put_back}
use Rattle.demands.specs.Filled.{ButLast, Full, Most, Any, Filled}
use Rattle.demands.proofs.Came.{same-parameters}
use Rattle.demands.proofs.Demands.{opened-desc}
use Rattle.demands.proofs.Filled.{extended-filled}
use Rattle.reading.specs.declared.ReadingSession.{ReadingSession}
use Rattle.reading.specs.Finished.{finished, finished_marks}
use Rattle.reading.specs.Reading.{given, read_open, read_open_done}
use Rattle.reading.proofs.Order.{not-laid, is-laid, not-finished}
use Rattle.readings.specs.Trees.{Finished, OpensFinished, ReadingOpens, AllExtended}
use Rattle.readings.proofs.Trees.{finished-tree, tree-finished}

-- ---- the inspection comes to one of two

Bad : Description → List ℕ → Type 0
Bad p f = finished_marks p f ≡ refused bad_file

Good : Description → List ℕ → Type 0
Good p f = (ms : List ℕ) × (layout_marks p f ≡ passed ms) × (finished p f ≡ true) × (finished_marks p f ≡ passed ms)

one_of : (p : Description) (f : List ℕ) → good_params p ≡ true → length f ≡ file_size p → Bad p f ⊎ Good p f
unfolding Bad Good
one_of p f good size = go (layout_marks p f) (finished p f) refl refl
  where
    go : (c : Checked (List ℕ)) (b : Bool) → layout_marks p f ≡ c → finished p f ≡ b → Bad p f ⊎ Good p f
    go (refused n) b e q = inl (not-laid p f [] false ((open-exact p f good size).2 (refused_none p f n good size e)) refl)
    go (passed ms) false e q = inl (not-finished p f ms true e refl (finished p f) refl q)
    go (passed ms) true e q = inr (ms, e, q, is-laid p f ms true e refl (finished p f) refl q)

module _ (s : ReadingSession) (f b w marks : List ℕ) (one : s.desc.control ≡ 1) (fit : sized s.desc (length f) (length b) ≡ true)
    (long : length marks ≡ s.desc.n) (shut : s.opened ≡ false) where
  abbrev p : Description
  p = s.desc

  abbrev st : State
  st = given s f b w

  good : good_params p ≡ true
  good = (sized-facts p (length f) (length b) fit).good

  size : length f ≡ file_size p
  size = (sized-facts p (length f) (length b) fit).file-is

  seen : read_open st marks ≡ open_layout st (finished_marks p f)
  unfolding read_open read_open_done open_checks sizes_ok
  seen = simp (eq-eqb _ _ one, fit, eq-eqb _ _ long, shut)

  opened : (ms : List ℕ) → finished_marks p f ≡ passed ms → ((read_open st marks).outcome.number ≡ done) × ((read_open st marks).marks ≡ ms)
  unfolding open_layout
  opened ms q = let o = seen ∙ ap (open_layout st) q in (ap (λ (x : Opened). x.outcome.number) o, ap (λ (x : Opened). x.marks) o)

  refusal : Bad p f → ((read_open st marks).outcome.number ≡ bad_file) × ((read_open st marks).marks ≡ zeros p.n)
  unfolding open_layout Bad
  refusal q = let o = seen ∙ ap (open_layout st) q in (ap (λ (x : Opened). x.outcome.number) o, ap (λ (x : Opened). x.marks) o)

  only-by : Bad p f ⊎ Good p f → (read_open st marks).outcome.number ≡ done → (t : Tree) × Holds p f t × Finished p t
  unfolding Good
  only-by (inl q) e = absurd (omega (arith, e, (refusal q).0))
  only-by (inr (ms, q, F, r)) e =
      let (t, h, m) = (open-exact p f good size).0 ms q in
      (t, h, finished-tree p f good one t h F)

  refuses-by : Bad p f ⊎ Good p f → ((read_open st marks).outcome.number ≡ done → ⊥)
      → ((read_open st marks).outcome.number ≡ bad_file) × ((read_open st marks).marks ≡ zeros p.n)
  unfolding Good
  refuses-by (inl q) n = refusal q
  refuses-by (inr (ms, q, F, r)) n = absurd (n (opened ms r).0)

  pub opens-finished : OpensFinished s f b w marks
  opens-finished = record {
    opens = λ t h F.
        let q = (open-exact p f good size).1 t h in
        opened (marks_of t p.n) (is-laid p f (marks_of t p.n) true q refl (finished p f) refl (tree-finished p f good one t h F));
    only = only-by (one_of p f good size);
    refuses = refuses-by (one_of p f good size);
  }

pub reading-opens : ReadingOpens
reading-opens s f b w marks one fit long shut = opens-finished s f b w marks one fit long shut

-- ---- a filled file is finished while one section lasts

any_last : (p : Description) (ls : List Leaf) → ButLast (Full p) (Most p) ls → ButLast (Full p) Any ls
unfolding ButLast
any_last p [] h = tt
any_last p (l ∷ []) h = tt
any_last p (l ∷ m ∷ ls) h = (h.0, any_last p (m ∷ ls) h.1)

filled-finished : (p : Description) (t : Tree) → Filled p t → length t.sections ≡ 1 → Finished p t
filled-finished p t F one = record { one = one; order = F.order; details = any_last p (leaves_of t) F.details; chain = F.chain }

-- CLOSE that answers 0 leaves the file with the buffer put back
closed-file : (st : State) → (close st).number ≡ done → (close st).after.file ≡ put_back st
unfolding close close_checks close_done sizes_ok is_open
closed-file st e =
    go (sized (desc st) (length st.file) (length st.buffer)) st.session.opened (flush_ok (texts st) st.session.flag) e
  where
    go : (a b c : Bool) → (close_done st (require a wrong_size >> (require b is_closed >> require c bad_file))).number ≡ done
        → (close_done st (require a wrong_size >> (require b is_closed >> require c bad_file))).after.file ≡ put_back st
    go true true true q = refl
    go true true false q = absurd (omega (arith, q))
    go true false c q = absurd (omega (arith, q))
    go false b c q = absurd (omega (arith, q))

-- a run keeps the parameters
left-desc : (s : State) (qs : List Request) → desc (left s qs) ≡ desc s
unfolding left
left-desc s [] = refl
left-desc s (q ∷ qs) = left-desc (answer s q).after qs ∙ same-parameters s q

-- CREATE that answers 0 was given good parameters
created-good : (p : Description) (f : List ℕ) → (create p f).number ≡ done → good_params p ≡ true
unfolding create
created-good p f e = (and_both (good_params p) (eqb (length f) (file_size p)) (go (good_params p && eqb (length f) (file_size p)) refl)).0
  where
    go : (t : Bool) → (good_params p && eqb (length f) (file_size p)) ≡ t → (good_params p && eqb (length f) (file_size p)) ≡ true
    go true q = q
    go false q = absurd (omega (arith, e, wrong q))
      where
        wrong : (good_params p && eqb (length f) (file_size p)) ≡ false → (create p f).number ≡ wrong_size
        wrong q = simp q

right-sizes : (p : Description) (f b : List ℕ) → good_params p ≡ true → length f ≡ file_size p → length b ≡ p.wpb → sized p (length f) (length b) ≡ true
unfolding sized every
right-sizes p f b good size buffer = simp (good, eq-eqb _ _ size, eq-eqb _ _ buffer)

pub extended-finished : AllExtended
extended-finished session f buffer work marks c o = record {
  lasts = λ qs only.
      let (t, h, F, n) = extended-filled session f buffer work marks c o qs only in
      (t, h, filled-finished _ t F);
  opens = λ one qs only closed r b w ms er shut lb lm.
      let made = (open_file (lent session (create session.desc f).file buffer work) marks).outcome.after in
      let st = left made qs in
      let (t, h, F, n) = extended-filled session f buffer work marks c o qs only in
      let d : desc st ≡ r.desc = left-desc made qs ∙ opened-desc (lent session (create session.desc f).file buffer work) marks o ∙ sym er in
      let held : Holds r.desc (close st).after.file t
      = subst (λ (x : List ℕ). Holds r.desc x t) (sym (closed-file st closed)) (subst (λ (p : Description). Holds p (put_back st) t) d h) in
      let filled : Filled r.desc t = subst (λ (p : Description). Filled p t) d F in
      let single : r.desc.control ≡ 1 = ap (λ (p : Description). p.control) er ∙ one in
      let good : good_params r.desc ≡ true = ap good_params er ∙ created-good session.desc f c in
      let fit = right-sizes r.desc (close st).after.file b good held.size lb in
      ((opens-finished r (close st).after.file b w ms single fit lm shut).opens t held
      (filled-finished r.desc t filled (omega (arith, single, held.control)))).0;
}
