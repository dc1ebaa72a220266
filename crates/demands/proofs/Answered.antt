-- What each call answers, as questions of a sorted list.
use Prim.Native.Nat.{ℕ, suc, ◌+◌, ◌≤◌}
use mathlib.Core.Bool.{Bool, true, false, cond, not, ◌&&◌}
use mathlib.Core.Logic.{◌⊎◌, inl, inr}
use mathlib.Core.Path.{◌≡◌, refl, sym, ap, ap₂, ◌∙◌, subst}
use mathlib.Core.List.{List, [], ◌∷◌, ◌++◌}
use native.Mathlib.Omega.{arith}
use lib.ListN.{length}
use Rattle.numbers.specs.Numbers.{done, none_free, no_room, at_end}
use Rattle.words.specs.Words.{part}
use Rattle.words.specs.Keys.{ones, is_ones, val}
use Rattle.words.proofs.All.{is_ones-true}
use Rattle.drum.specs.Params.{D}
use Rattle.layout.specs.Create.{end_record}
use Rattle.layout.specs.Tree.{Section, Tree}
use Rattle.layout.specs.Tree as lay
use Rattle.layout.proofs.Unique.{one-tree}
use Rattle.rules.specs.State.{State, desc, key_in, position_key}
use Rattle.rules.specs.Checks.{key_ok}
use Rattle.rules.specs.Nsert.{half_count}
use Rattle.rules.specs.Requests.{seeking, advancing, inserting, deleting, updating, extending, lending, answer}
use Rattle.demands.specs.History.{with_key}
use Rattle.demands.specs.Promises.{put_back}
use Rattle.demands.specs.Contents.{records_above, Contains}
use Rattle.demands.specs.Answers.{Lent, Keyed, ordinary, records_from, above_position, Sought, Met, Inserted, Advanced, Extended, Answered}
use Rattle.demands.specs.Answers.{CallAnswers}
use Rattle.demands.proofs.Scene.{scene}
use Rattle.demands.proofs.Lists.{All, all_right, last-same}
use Rattle.demands.proofs.Order.{Asc, asc-le, asc-right, below, from, below-from, from-above, hit}
use Rattle.demands.proofs.Trees.{leaves_in, records_in, key, reach}
use Rattle.demands.proofs.Holds.{Free, RowOk}
use Rattle.demands.proofs.Records.{key-long}
use Rattle.demands.proofs.Sound.{Sound}
use Rattle.demands.proofs.Answers.{Ready, key_of}
use Rattle.demands.proofs.Frees.{taken}
use Rattle.demands.proofs.Step.{lent-sound}
use Rattle.demands.proofs.Seek.{SeekRight, seek-right, UpdatRight, updat-right}
use Rattle.demands.proofs.DleteRight.{DleteRight, dlete-right}
use Rattle.demands.proofs.NsertRight.{Nserted, duplicate, room, split, both, no_room_lem, nsert-right}
use Rattle.demands.proofs.Adv.{AdvRight, mark}
use Rattle.demands.proofs.AdvRight.{adv-right}
use Rattle.demands.proofs.Standing.{with-hit, ordered}
use Rattle.demands.proofs.Opens.{flushed-stands}
use Rattle.demands.proofs.Contents.{above-is}
use Rattle.demands.proofs.Extends.{stored_one, xtend-answers}
use Rattle.demands.proofs.Promised.{after_open}

module _ (st : State) (ss : List Section) (f : Free) (h : Sound st ss f) where
  open scene st ss use {p, K, rows}
  open ordered st ss f h use {kr, asc, ok}

  -- a keyed call that is not refused
  pub readied : (reads : ℕ) (w : List ℕ) → Keyed st reads w → Ready reads (lending w st) ss f
  unfolding lending key_ok
  readied reads w a =
      record { sound = lent-sound w st ss f h; opened = a.0.0; work-length = a.0.1; asked = simp (ap₂ (λ (x y : Bool). x && not y) a.1 a.2) }

  -- the records with its key, by their numbers
  with-is : (reads : ℕ) (w : List ℕ) → Keyed st reads w → p.k ≤ reads → reads ≤ p.wpr → with_key p (key_in p w) rows ≡ hit K (val (key_in p w)) rows
  unfolding lending
  with-is reads w a l u = with-hit p kr (key_in p w) (key_of reads (lending w st) ss f (readied reads w a) l u) 0 rows _ asc ok

  seek-answers : (w : List ℕ) → Keyed st p.k w → Sought w (with_key p (key_in p w) rows) (answer st (seeking w))
  unfolding answer lending
  seek-answers w a = go (seek-right (lending w st) ss f (readied p.k w a))
    where
      is : with_key p (key_in p w) rows ≡ hit K (val (key_in p w)) rows
      is = with-is p.k w a (omega arith) kr

      go : SeekRight (lending w st) ss f → Sought w (with_key p (key_in p w) rows) (answer st (seeking w))
      go (inl (e, g, z)) = subst (λ (x : List (List ℕ)). Sought w x (answer st (seeking w))) (sym (is ∙ e)) (g.number-is, z)
      go (inr (y, e, g, z)) = subst (λ (x : List (List ℕ)). Sought w x (answer st (seeking w))) (sym (is ∙ e)) (refl, g.number-is, z)

  updat-answers : (w : List ℕ) → Keyed st p.wpr w → Met (with_key p (key_in p w) rows) (answer st (updating w))
  unfolding answer lending
  updat-answers w a = go (updat-right (lending w st) ss f (readied p.wpr w a))
    where
      is : with_key p (key_in p w) rows ≡ hit K (val (key_in p w)) rows
      is = with-is p.wpr w a kr (omega arith)

      go : UpdatRight (lending w st) ss f → Met (with_key p (key_in p w) rows) (answer st (updating w))
      go (inl (e, g)) = subst (λ (x : List (List ℕ)). Met x (answer st (updating w))) (sym (is ∙ e)) g.number-is
      go (inr (y, e, ss', f', g, c, d)) = subst (λ (x : List (List ℕ)). Met x (answer st (updating w))) (sym (is ∙ e)) g.number-is

  dlete-answers : (w : List ℕ) → Keyed st p.k w → Met (with_key p (key_in p w) rows) (answer st (deleting w))
  unfolding answer lending
  dlete-answers w a = go (dlete-right (lending w st) ss f (readied p.k w a))
    where
      is : with_key p (key_in p w) rows ≡ hit K (val (key_in p w)) rows
      is = with-is p.k w a (omega arith) kr

      go : DleteRight (lending w st) ss f → Met (with_key p (key_in p w) rows) (answer st (deleting w))
      go (inl (e, g)) = subst (λ (x : List (List ℕ)). Met x (answer st (deleting w))) (sym (is ∙ e)) g.number-is
      go (inr (y, e, ss', f', g, c)) = subst (λ (x : List (List ℕ)). Met x (answer st (deleting w))) (sym (is ∙ e)) g.number-is

  nsert-answers : (w : List ℕ) → Keyed st p.wpr w → Inserted (with_key p (key_in p w) rows) (answer st (inserting w))
  unfolding answer lending
  nsert-answers w a = go (nsert-right (lending w st) ss f (readied p.wpr w a))
    where
      is : with_key p (key_in p w) rows ≡ hit K (val (key_in p w)) rows
      is = with-is p.wpr w a kr (omega arith)

      in_two : (n : ℕ) → (n ≡ done) ⊎ (n ≡ none_free) → (n ≡ done) ⊎ ((n ≡ none_free) ⊎ (n ≡ no_room))
      in_two n (inl e) = inl e
      in_two n (inr e) = inr (inl e)

      new : hit K (val (key_in p w)) rows ≡ [] → Inserted [] (answer st (inserting w)) → Inserted (with_key p (key_in p w) rows) (answer st (inserting w))
      new e = subst (λ (x : List (List ℕ)). Inserted x (answer st (inserting w))) (sym (is ∙ e))

      go : Nserted (lending w st) ss f → Inserted (with_key p (key_in p w) rows) (answer st (inserting w))
      go (duplicate y e g) = subst (λ (x : List (List ℕ)). Inserted x (answer st (inserting w))) (sym (is ∙ e)) g.number-is
      go (no_room_lem e a i l m g) = new e (inr (inr g.number-is))
      go (room e a i l g) =
          new e (in_two (answer st (inserting w)).number (stored_one p (length a.leaf.records + 1) f (answer st (inserting w)).number g.number-is))
      go (split e a i l m s k q g) =
          new e (in_two (answer st (inserting w)).number (stored_one p (half_count (D p) k) (taken f) (answer st (inserting w)).number g.number-is))
      go (both e a i l m s c k q g) =
          new e
          (in_two (answer st (inserting w)).number (stored_one p (half_count (D p) k) (taken (taken f)) (answer st (inserting w)).number g.number-is))

  extend-answers : (w : List ℕ) → Keyed st p.wpr w
      → Extended (ordinary p (records_from p (key_in p w) rows)) (answer st (extending w))
  unfolding answer lending
  extend-answers w a = xtend-answers (lending w st) ss f (readied p.wpr w a)

  -- ---- ADV

  above-position : above_position st.session rows ≡ from K (mark st) rows
  above-position = go st.session.placed refl
    where
      go : (t : Bool) → st.session.placed ≡ t
          → cond t (records_above p (position_key st.session) rows) rows ≡ from K (cond t (suc (val (position_key st.session))) 0) rows
      go true e = above-is p kr (position_key st.session) (h.placed e) 0 rows _ asc ok
      go false e = sym (from-above K 0 rows _ asc)

  adv-answers : (w : List ℕ) → Lent st w → Advanced p (ordinary p (above_position st.session rows)) (answer st (advancing w))
  unfolding answer lending ordinary
  adv-answers w a = go (adv-right (lending w st) ss f (lent-sound w st ss f h) a.0 a.1)
    where
      go : AdvRight (lending w st) ss f → Advanced p (ordinary p (above_position st.session rows)) (answer st (advancing w))
      go (r, cs, e, g, z) =
          subst (λ (x : List (List ℕ)). Advanced p (ordinary p x) (answer st (advancing w))) (sym (above-position ∙ e)) (by (is_ones (key_in p r)) refl)
        where
          cut : rows ≡ below K (mark st) rows ++ r ∷ cs
          cut = sym (below-from K (mark st) rows) ∙ ap (λ (x : List (List ℕ)). below K (mark st) rows ++ x) e

          rok : RowOk p r
          rok = (all_right (RowOk p) (below K (mark st) rows) _ (subst (All (RowOk p)) cut ok)).0

          -- nothing is behind a key ONES, so it is the end record's
          ends : is_ones (key_in p r) ≡ true → (ds : List (List ℕ)) → cs ≡ ds → (cs ≡ []) × (r ≡ end_record p)
          ends o [] q = (
            q,
            last-same (below K (mark st) rows) r h.kept.ended.front (end_record p)
                (ap (λ (x : List (List ℕ)). below K (mark st) rows ++ r ∷ x) (sym q) ∙ sym cut ∙ h.kept.ended.is),
          )
          ends o (d ∷ ds) q =
              let top : K r ≡ val (ones p.k) = unfold key part in ap val (is_ones-true p.k _ (key-long p kr r rok).0 o) in
              let s = asc-right K 0 (below K (mark st) rows) (r ∷ d ∷ ds) _ (subst (λ (x : List (List ℕ)). Asc K 0 x (reach p.k 0 (leaves_in ss))) (cut ∙ ap (λ (x : List (List ℕ)). below K (mark st) rows ++ r ∷ x) q) asc) in
              absurd (omega (arith, top, s.1.0, asc-le K (suc (K d)) ds _ s.1.1, h.kept.holds.top))

          by : (t : Bool) → is_ones (key_in p r) ≡ t → Advanced p (ordinary p (r ∷ cs)) (answer st (advancing w))
          by false o = rw o (g.number-is ∙ ap (λ (t : Bool). cond t at_end done) o, z)
          by true o =
              let q : (cs ≡ []) × (r ≡ end_record p) = ends o cs refl in
              rw (o, q.0) (g.number-is ∙ ap (λ (t : Bool). cond t at_end done) o, z ∙ q.1)

  answered : Answered st rows
  answered = record { seek = seek-answers; adv = adv-answers; nsert = nsert-answers; dlete = dlete-answers; updat = updat-answers; xtend = extend-answers }

pub sound-answers : (st : State) (ss : List Section) (f : Free) → Sound st ss f → (rows : List (List ℕ)) → Contains st rows → Answered st rows
sound-answers st ss f h rows c =
    let t : Tree = record { sections = ss; chain = f.chain; lowest = f.lowest } in
    let one : t ≡ c.tree = one-tree (desc st) (put_back st) t c.tree h.kept.good (flushed-stands st ss f h) c.held in
    let is : records_in (leaves_in ss) ≡ rows = ap lay.contents one ∙ c.are in
    subst (Answered st) is (answered st ss f h)

pub call-answers : CallAnswers
call-answers =
    after_open (λ (st : State). (rows : List (List ℕ)) → Contains st rows → Answered st rows) sound-answers
