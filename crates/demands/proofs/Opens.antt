-- OPEN and the sentences of Layout: an OPEN that answers 0 leaves a sound state; a sound state's file is as under Layout, with and without its buffer, and opens.
use Prim.Native.Nat.{ℕ}
use mathlib.Core.Bool.{Bool, true, false}
use mathlib.Core.Logic.{inl}
use mathlib.Core.Path.{◌≡◌, refl, sym, ap, ◌∙◌, subst}
use mathlib.Core.List.{List, [], ◌++◌, append-nil}
use native.Mathlib.Omega.{arith}
use native.Mathlib.Decide.{ℕ_discrete}
use lib.ListN.{length, length-replicate}
use borrow.Author.Tests.{eq-eqb, ne_eqb}
use Rattle.numbers.specs.Numbers.{done, bad_file, wrong_size}
use Rattle.numbers.specs.Checked.{Checked, passed, refused}
use Rattle.drum.specs.declared.Description.{Description}
use Rattle.drum.specs.Params.{good_params, file_size, sized, every}
use Rattle.drum.specs.Blocks.{written}
use Rattle.layout.specs.Tree.{Section, Tree, marks_of}
use Rattle.layout.specs.Holds as lay
use Rattle.layout.specs.Inspect.{layout_marks}
use Rattle.layout.proofs.Exact.{open-exact}
use Rattle.rules.specs.State.{State, desc, texts, at_rest}
use Rattle.rules.specs.Checks.{sizes_ok}
use Rattle.rules.specs.Lookup.{flush_moves}
use Rattle.rules.specs.Open.{Opened, open_checks, open_layout, open_done, open_file}
use Rattle.rules.specs.Requests.{Request, opening, closing, seeking, advancing, inserting, deleting, updating, extending, answer}
use Rattle.demands.proofs.Holds.{Free}
use Rattle.demands.proofs.Places.{holds-ext}
use Rattle.demands.proofs.Blocks.{cells_written}
use Rattle.demands.proofs.Sound.{Alone, KeptTree, Sound, no-true-false, text-other}
use Rattle.demands.proofs.Reach.{bring}
use Rattle.demands.proofs.Answers.{sizes-pass}
use Rattle.demands.proofs.Reader.{free_of}
use Rattle.demands.proofs.Joined.{cells-held, contents-ended}
use Rattle.demands.proofs.Told.{told-holds}
use Rattle.demands.proofs.Step.{open_step, closed-fine}

-- an OPEN that answers 0: a tree stands in the file, and the state it leaves is sound with that tree
pub record Opens (st : State) (marks : List ℕ) : Type 0 where
  pub tree : Tree
  pub stands : lay.Holds (desc st) st.file tree
  pub marks-are : (open_file st marks).marks ≡ marks_of tree (desc st).n
  pub sound : Sound (open_file st marks).outcome.after tree.sections (free_of (desc st) tree)

module _ (st : State) (marks : List ℕ) (g : good_params (desc st) ≡ true) (lf : length st.file ≡ file_size (desc st)) (lb : length st.buffer ≡ (desc st).wpb)
    (lm : length marks ≡ (desc st).n) (o : st.session.opened ≡ false) where
  abbrev p : Description
  p = desc st

  pub open-tests : open_file st marks ≡ open_layout st (layout_marks (desc st) st.file)
  unfolding open_file open_done open_checks sizes_ok sized every
  open-tests = simp (g, eq-eqb (length st.file) (file_size p) lf, eq-eqb (length st.buffer) p.wpb lb, eq-eqb (length marks) p.n lm, o)

  pub opened-right : (ms : List ℕ) → layout_marks p st.file ≡ passed ms → Opens st marks
  unfolding open_layout at_rest
  opened-right ms e =
      let q = (open-exact p st.file g lf).0 ms e in
      let t : Tree = q.0 in
      let h : lay.Holds p st.file t = q.1 in
      let out : open_file st marks ≡ open_layout st (passed ms) = open-tests ∙ ap (open_layout st) e in
      record {
        tree = t;
        stands = h;
        marks-are = ap (λ (x : Opened). x.marks) out ∙ q.2;
        sound = subst (λ (x : Opened). Sound x.outcome.after t.sections (free_of p t)) (sym out) (record {
          kept = record {
            good = g;
            file-length = lf;
            buffer-length = lb;
            current = λ l. absurd (omega arith);
            flagged = λ x. no-true-false x refl;
            clean = λ x l. absurd (omega arith);
            holds =
                holds-ext p _ _ _ t.sections (free_of p t)
                (λ b l u. text-other (record { desc = p; current = 0; file = st.file; buffer = st.buffer }) b (λ x. omega arith))
                (cells-held p g st.file t h);
            ended = contents-ended p g st.file t h;
            alone = record { sections = t.sections; free = free_of p t; holds = cells-held p g st.file t h; ended = contents-ended p g st.file t h };
          };
          position = length-replicate {A = ℕ} 63 0;
          placed = λ x. no-true-false x refl;
          resting = λ x. no-true-false refl x;
        });
      }

  -- "answering 0" is that the test passed
  pub open-right : (open_file st marks).outcome.number ≡ done → Opens st marks
  open-right e = go (layout_marks p st.file) refl
    where
      number : (c : Checked (List ℕ)) → layout_marks p st.file ≡ c → (open_layout st c).outcome.number ≡ done
      number c q = ap (λ (x : Checked (List ℕ)). (open_layout st x).outcome.number) (sym q) ∙ ap (λ (x : Opened). x.outcome.number) (sym open-tests) ∙ e

      refused-not : (n : ℕ) → layout_marks p st.file ≡ refused n → n ≡ done
      refused-not n q = unfold open_layout in number (refused n) q

      not-zero : (n : ℕ) → n ≡ done → layout_marks p st.file ≡ refused n → ⊥
      not-zero n z q = bad ((open-exact p st.file g lf).2 (λ w. none w))
        where
          none : lay.WellFormed p st.file → ⊥
          none w = unfold lay.WellFormed in clash (sym q ∙ (open-exact p st.file g lf).1 w.0 w.1)
            where
              clash : {x : List ℕ} → refused n ≡ passed x → ⊥
              clash e = let y : ◌≡◌ {A = ℕ} 0 1 = cc in omega arith

          bad : layout_marks p st.file ≡ refused bad_file → ⊥
          bad e = let y : n ≡ bad_file = same (sym q ∙ e) in omega arith
            where
              same : ◌≡◌ {A = Checked (List ℕ)} (refused n) (refused bad_file) → n ≡ bad_file
              same e = cc

      go : (c : Checked (List ℕ)) → layout_marks p st.file ≡ c → Opens st marks
      go (passed ms) q = opened-right ms q
      go (refused n) q = absurd (not-zero n (refused-not n q) q)

-- ---- a sound state's file is as under Layout

module _ (st : State) (ss : List Section) (f : Free) (h : Sound st ss f) where
  -- with the buffer put back: "write the buffer if flagged"
  pub flushed-stands : lay.Holds (desc st) (written (desc st) (flush_moves (texts st) st.session.flag) st.file)
      (record { sections = ss; chain = f.chain; lowest = f.lowest })
  unfolding cells_written
  flushed-stands =
      let p : Description = desc st in
      let ms = flush_moves (texts st) st.session.flag in
      let k : KeptTree (record { desc = p; current = 0; file = written p (ms ++ []) st.file; buffer = st.buffer }) false ss f
      = bring (texts st) st.session.flag ss f h.kept [] refl 0 st.buffer (inl (refl, h.kept.buffer-length)) in
      subst (λ (x : List ℕ). lay.Holds p x (record { sections = ss; chain = f.chain; lowest = f.lowest }))
      (ap (λ (m : List _). written p m st.file) (append-nil ms))
      (told-holds p k.good (written p (ms ++ []) st.file) k.file-length ss f
      (holds-ext p _ _ _ ss f (λ b l u. sym (text-other (record { desc = p; current = 0; file = written p (ms ++ []) st.file; buffer = st.buffer }) b
      (λ x. omega arith))) k.holds) k.ended)

  -- D2.9: the file alone, whatever is in the buffer
  pub file-alone : lay.WellFormed (desc st) st.file
  unfolding lay.WellFormed
  file-alone =
      let a : Alone (desc st) st.file = h.kept.alone in
      (_, told-holds (desc st) h.kept.good st.file h.kept.file-length a.sections a.free a.holds a.ended)

  -- so it opens
  pub file-opens : (ms : List ℕ) × (layout_marks (desc st) st.file ≡ passed ms)
  file-opens =
      let a : Alone (desc st) st.file = h.kept.alone in
      let t : Tree = record { sections = a.sections; chain = a.free.chain; lowest = a.free.lowest } in (
        marks_of t (desc st).n,
        (open-exact (desc st) st.file h.kept.good h.kept.file-length).1 t
            (told-holds (desc st) h.kept.good st.file h.kept.file-length a.sections a.free a.holds a.ended),
      )

-- no call on a sound state answers 070003: of an open session none does, and OPEN of a closed one passes its test
pub never-070003 : (st : State) (ss : List Section) (f : Free) → Sound st ss f → (q : Request) → (answer st q).number ≡ bad_file → ⊥
never-070003 st ss f h q e = go st.session.opened refl q e
  where
    opens : st.session.opened ≡ false → (marks : List ℕ) → (open_file st marks).outcome.number ≡ bad_file → ⊥
    opens o marks e = length-is (ℕ_discrete (length marks) (desc st).n)
      where
        fits : length marks ≡ (desc st).n → (open_file st marks).outcome.number ≡ done
        fits l = unfold open_layout in
            (ap (λ (x : Opened). x.outcome.number) (open-tests st marks h.kept.good h.kept.file-length h.kept.buffer-length l o
            ∙ ap (open_layout st) (file-opens st ss f h).1))

        wrong : (length marks ≡ (desc st).n → ⊥) → (open_file st marks).outcome.number ≡ wrong_size
        wrong n = unfold open_file open_checks open_done in simp (sizes-pass st ss f h, ne_eqb (length marks) (desc st).n n)

        length-is : Dec (length marks ≡ (desc st).n) → ⊥
        length-is (yes l) = let z : ◌≡◌ {A = ℕ} done bad_file = sym (fits l) ∙ e in omega arith
        length-is (no n) = let z : ◌≡◌ {A = ℕ} wrong_size bad_file = sym (wrong n) ∙ e in omega arith

    go : (t : Bool) → st.session.opened ≡ t → (q : Request) → (answer st q).number ≡ bad_file → ⊥
    go true o q e = (open_step st ss f h o q).0 e
    go false o (opening marks) e = opens o marks (unfold answer in e)
    go false o closing e = closed-fine st ss f h o closing tt e
    go false o (seeking w) e = closed-fine st ss f h o (seeking w) tt e
    go false o (updating w) e = closed-fine st ss f h o (updating w) tt e
    go false o (deleting w) e = closed-fine st ss f h o (deleting w) tt e
    go false o (inserting w) e = closed-fine st ss f h o (inserting w) tt e
    go false o (extending w) e = closed-fine st ss f h o (extending w) tt e
    go false o (advancing w) e = closed-fine st ss f h o (advancing w) tt e
