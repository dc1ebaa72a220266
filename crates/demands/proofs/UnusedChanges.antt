-- The same of the calls that change the file: the plans of DLETE, NSERT and XTEND, and what each comes to.
use Prim.Native.Nat.{ℕ, ◌-◌}
use mathlib.Core.Path.{◌≡◌, refl, ap}
use mathlib.Core.Bool.{Bool, true, false, cond, not}
use mathlib.Core.List.{List, []}
use native.Mathlib.Omega.{arith}
use lib.Dec.{ltb, eqb}
use borrow.Author.Tests.{eqb-false}
use Rattle.numbers.specs.Checked.{Checked, passed, up_to, ◌>>=◌, require, ◌>>◌}
use Rattle.numbers.proofs.Passed.{Passed, chain, by-passed}
use Rattle.words.specs.Keys.{key_lt}
use Rattle.table.specs.Tables.{count, key_at, row_above}
use Rattle.numbers.specs.Numbers.{bad_file}
use Rattle.drum.specs.declared.Description.{Description}
use Rattle.drum.specs.Params.{D, I, FD, FI, detail_shape, index_shape}
use Rattle.drum.specs.Blocks.{Texts, text_of, seen, link_in, is_free}
use Rattle.rules.specs.declared.Path.{Path}
use Rattle.rules.specs.declared.Way.{Way}
use Rattle.rules.specs.declared.Way.TheVariants.{Here, By}
use Rattle.rules.specs.declared.Look.{Look}
use Rattle.rules.specs.declared.Look.TheVariants as look_is
use Rattle.rules.specs.State.{key_in}
use Rattle.rules.specs.Lookup.{on_buffer, bringing, reached}
use Rattle.rules.specs.Paths.{path_to}
use Rattle.rules.specs.declared.Taken.{Taken}
use Rattle.rules.specs.declared.Insert.{Insert}
use Rattle.rules.specs.declared.Insert.TheVariants as insert-is
use Rattle.rules.specs.declared.Delete.{Delete}
use Rattle.rules.specs.declared.Delete.TheVariants as delete-is
use Rattle.rules.specs.declared.Extend.{Extend}
use Rattle.rules.specs.declared.Extend.TheVariants as extend-is
use Rattle.rules.specs.Free.{none_left, granted, take_one, take_two}
use Rattle.rules.specs.Dlete as d
use Rattle.rules.specs.Nsert as n
use Rattle.rules.specs.NsertDone as nd
use Rattle.rules.specs.Xtend as x
use Rattle.rules.specs.XtendDone as xd
use Rattle.rules.specs.Fits.{PathFits, FlushFits, WayFits, LookFits}
use Rattle.rules.proofs.Fits.{path-fits, flush-of, last-passed, last_of-fits}
use Rattle.demands.proofs.SameChecks.{SameChecks, same_refl, same-bind, same_test}
use Rattle.demands.proofs.UnusedLooks.{text_same, unused-index, unused-detail, path-same, reached-same, way_same, by-plan}

-- the chain's head, as a new block
abbrev linked : Texts → ℕ → ℕ → Checked Taken
linked v head lowest = do
  require (is_free v.desc (text_of v head)) bad_file
  link ← up_to v.desc.n (link_in v.desc (text_of v head))
  passed (record { block = head; head = link; lowest = lowest })

module _ (p : Description) (f a b : List ℕ) where
  -- two buffers
  abbrev v : Texts
  v = seen p 0 f a

  abbrev u : Texts
  u = seen p 0 f b

  -- DLETE: its plan, and what the plan comes to
  module _ (work : List ℕ) where
    record Deleted (e : Delete) : Type 0 where
      done : SameChecks (d.delete_done v false work e) (d.delete_done u false work e)

    delete-stop : (w : Path) → LookFits v false (look_is.Missing w) → Deleted (delete-is.Stop w)
    unfolding d.delete_done
    delete-stop w h = record { done = rw (reached-same p f a b (By w) h) (same_refl _) }

    delete-remove : (way : Way) (i : ℕ) → LookFits v false (look_is.Found way i) → Deleted (delete-is.Remove way i)
    unfolding d.delete_done
    delete-remove way i h = record { done = rw (reached-same p f a b way h.0) (same_refl _) }

    delete-either : (t : Bool) (way : Way) (w : Path) (head : ℕ) → WayFits v false way → PathFits v w
        → Deleted (cond t (delete-is.Both way w head) (delete-is.Empty way w head))
    unfolding d.delete_done d.both_file d.both_all d.empty_file d.empty_all
    delete-either true way w head h q = record { done = rw (reached-same p f a b way h) (same_refl _) }
    delete-either false way w head h q = record { done = rw (reached-same p f a b way h, unused-index p f a b w q) (same_refl _) }

    delete-after : (key : List ℕ) (l : Look) → LookFits v false l
        → Passed Deleted (d.delete_after v key l) × SameChecks (d.delete_after v key l) (d.delete_after u key l)
    unfolding d.delete_after d.empty_at d.empty_deed
    delete-after key (look_is.Missing w) h = (by-passed _ (delete-stop w h), same_refl _)
    delete-after key (look_is.Found Here i) h = absurd (omega (arith, h.0.current-least))
    delete-after key (look_is.Found (By w) i) h =
        let r = delete-remove (By w) i h in
        let g : WayFits v false (By w) = h.0 in
        let q : PathFits v w = h.0.0 in
        (search (chain, delete-either) depth 12, rw (unused-detail p f a b w q, unused-index p f a b w q) (same_refl _))

    pub dlete-same : SameChecks (d.dlete_steps v false work) (d.dlete_steps u false work)
    unfolding d.dlete_steps d.delete_deed
    dlete-same = by-plan p f a b Deleted (key_in p work) _ _ _ _ (delete-after (key_in p work)) (λ e q. q.done)

  -- new blocks
  linked-same : (head lowest : ℕ) → (head ≡ 0 → ⊥) → SameChecks (linked v head lowest) (linked u head lowest)
  linked-same head lowest ne = rw (text_same p f a b head (omega (arith, ne))) (same_refl _)

  granted-same : (head lowest : ℕ) → SameChecks (granted v head lowest) (granted u head lowest)
  unfolding granted
  granted-same head lowest =
      same-bind (none_left p head lowest) (none_left p head lowest) _ _ (same_refl _)
      (λ none e. same_test none none _ _ _ _ refl (λ z. same_refl _)
      (λ z. same_test (eqb head 0) (eqb head 0) _ _ _ _ refl (λ y. same_refl _) (λ y. linked-same head lowest (eqb-false _ _ y))))

  one_same : (w : Path) → SameChecks (take_one v false w) (take_one u false w)
  unfolding take_one
  one_same w = same-bind _ _ _ _ (granted-same _ _) (λ t e. same_refl _)

  two-same : (w : Path) → SameChecks (take_two v false w) (take_two u false w)
  unfolding take_two
  two-same w = same-bind _ _ _ _ (granted-same _ _) (λ t e. same-bind _ _ _ _ (granted-same _ _) (λ y h. same_refl _))

  -- NSERT
  module _ (work : List ℕ) where
    record Inserted (e : Insert) : Type 0 where
      done : SameChecks (nd.insert_done v false work e) (nd.insert_done u false work e)

    insert-stop : (way : Way) (k : ℕ) → WayFits v false way → Inserted (insert-is.Stop way k)
    unfolding nd.insert_done
    insert-stop way k h = record { done = rw (reached-same p f a b way h) (same_refl _) }

    module _ (w : Path) (q : PathFits v w) (g : FlushFits v false) where
      insert-no-room : (k : ℕ) → Inserted (insert-is.Stop (By w) k)
      insert-no-room k = insert-stop (By w) k (q, g)

      insert-room : (i k : ℕ) → Inserted (insert-is.Room w i k)
      unfolding nd.insert_done
      insert-room i k = record { done = rw (reached-same p f a b (By w) (q, g)) (same_refl _) }

      insert-split : (i k : ℕ) (t : Taken) → Inserted (insert-is.Split w i t k)
      unfolding nd.insert_done nd.split_file nd.split_moves nd.index_entered nd.detail_entry nd.detail_low nd.detail_high
      insert-split i k t = record { done = rw (reached-same p f a b (By w) (q, g), unused-detail p f a b w q, unused-index p f a b w q) (same_refl _) }

      insert-both : (i k c : ℕ) (t : Taken) → Inserted (insert-is.Both w i c t k)
      unfolding nd.insert_done nd.both_split_file nd.both_split_moves nd.index_entry nd.index_low nd.index_high nd.detail_entry nd.detail_low nd.detail_high
      insert-both i k c t = record { done = rw (reached-same p f a b (By w) (q, g), unused-detail p f a b w q, unused-index p f a b w q) (same_refl _) }

      room-same : (i : ℕ) → SameChecks (n.room_deed v w i) (n.room_deed u w i)
      unfolding n.room_deed
      room-same i = rw (unused-detail p f a b w q) (same_refl _)

      split-same : (i : ℕ) → SameChecks (n.split_deed v false w i) (n.split_deed u false w i)
      unfolding n.split_deed
      split-same i = same-bind _ _ _ _ (one_same w) (λ t e. same_refl _)

      both-same : (i : ℕ) → SameChecks (n.both_deed v false w i) (n.both_deed u false w i)
      unfolding n.both_deed
      both-same i = same-bind _ _ _ _ (two-same w) (λ t e. same_refl _)

      insert-at-same : (i : ℕ) → SameChecks (n.insert_at v false w i) (n.insert_at u false w i)
      unfolding n.insert_at
      insert-at-same i =
          same_test _ _ _ _ _ _ (ap (λ (t : List ℕ). ltb (count (detail_shape p) t) (D p)) (unused-detail p f a b w q)) (λ e. room-same i)
          (λ e. same_test _ _ _ _ _ _ (ap (λ (t : List ℕ). ltb (count (index_shape p) t) (I p)) (unused-index p f a b w q)) (λ z. split-same i) (λ z. both-same i))

    insert-missing : (w : Path) → PathFits v w → FlushFits v false → (key : List ℕ)
        → SameChecks (n.insert_after v false key (look_is.Missing w)) (n.insert_after u false key (look_is.Missing w))
    unfolding n.insert_after
    insert-missing w q g key = rw (unused-detail p f a b w q) (insert-at-same w q g (row_above (detail_shape p) key (text_of u w.detail)))

    insert-after : (key : List ℕ) (l : Look) → LookFits v false l
        → Passed Inserted (n.insert_after v false key l) × SameChecks (n.insert_after v false key l) (n.insert_after u false key l)
    unfolding n.insert_after n.insert_at n.room_deed n.split_deed n.both_deed
    insert-after key (look_is.Found way i) h = (by-passed _ (insert-stop way _ h.0), same_refl _)
    insert-after key (look_is.Missing w) h =
        let q : PathFits v w = h.0 in
        let g : FlushFits v false = h.1 in
        (search (chain, insert-no-room, insert-room, insert-split, insert-both) depth 16, insert-missing w q g key)

    insert-planned : (key : List ℕ) (w : Path) → PathFits v w → FlushFits v false → (d : Insert)
        → n.insert_at v false w (row_above (detail_shape p) key (text_of v w.detail)) ≡ passed d → Inserted d
    unfolding n.insert_after
    insert-planned key w q g d e = (insert-after key (look_is.Missing w) (q, g)).0.holds d e

    pub nsert-same : SameChecks (nd.nsert_steps v false work) (nd.nsert_steps u false work)
    unfolding nd.nsert_steps n.insert_deed
    nsert-same = by-plan p f a b Inserted (key_in p work) _ _ _ _ (insert-after (key_in p work)) (λ e q. q.done)

  -- XTEND
  last-same : SameChecks (x.last_way v false) (x.last_way u false)
  unfolding x.last_way on_buffer x.last_outside
  last-same = same-bind _ _ _ _ (path-same p f a b _ _ []) (λ w e. rw (unused-detail p f a b w (path-fits v _ _ [] w e)) (same_refl _))

  module _ (work : List ℕ) where
    record Extended (e : Extend) : Type 0 where
      done : SameChecks (xd.extend_done v false work e) (xd.extend_done u false work e)

    -- what NSERT does, under XTEND's list
    -- the buffer is not flagged any more
    again : (y : Path) (d : Insert) → SameChecks (nd.insert_done v false work d) (nd.insert_done u false work d)
        → SameChecks (nd.insert_done v (reached u false (By y)).flag work d) (nd.insert_done u (reached u false (By y)).flag work d)
    unfolding reached bringing
    again y d s = s

    extend-as : (way : Way) → WayFits v false way → (w : Path) (d : Insert) → SameChecks (nd.insert_done v false work d) (nd.insert_done u false work d)
        → Extended (extend-is.Before way w d)
    unfolding xd.extend_done
    extend-as Here h w d s = absurd (omega (arith, h.current-least))
    extend-as (By y) h w d s = record {
      done = rw (reached-same p f a b (By y) h)
          (same-bind _ _ _ _ s (λ e i. same-bind _ _ _ _ (again y d s) (λ t k. same_refl _)));
    }

    module _ (way : Way) (h : WayFits v false way) where
      extend-stop : (i k : ℕ) → Extended (extend-is.Stop way i k)
      unfolding xd.extend_done
      extend-stop i k = record { done = rw (reached-same p f a b way h) (same_refl _) }

      extend-room : (i k : ℕ) → Extended (extend-is.Room way i k)
      unfolding xd.extend_done
      extend-room i k = record { done = rw (reached-same p f a b way h) (same_refl _) }

      extend-new : (w : Path) (k : ℕ) (t : Taken) → x.last_of v way ≡ passed w → Extended (extend-is.New way w t k)
      unfolding xd.extend_done xd.new_file xd.new_moves xd.old_text xd.end_text
      extend-new w k t e =
          record { done = rw (reached-same p f a b way h, way_same p f a b way h, unused-index p f a b w (last_of-fits v false way w h e)) (same_refl _) }

      extend-both : (w : Path) (k c : ℕ) (t : Taken) → x.last_of v way ≡ passed w → Extended (extend-is.Both way w c t k)
      unfolding xd.extend_done xd.section_file xd.section_moves xd.old_text xd.end_text
      extend-both w k c t e =
          record { done = rw (reached-same p f a b way h, way_same p f a b way h, unused-index p f a b w (last_of-fits v false way w h e)) (same_refl _) }

      -- as NSERT, after a lookup
      extend-turned : (key : List ℕ) (w c : Path) (k : ℕ) → path_to v key ≡ passed c → Extended (extend-is.Before way w (insert-is.Stop (By c) k))
      extend-turned key w c k e = extend-as way h w _ (insert-stop work (By c) k (path-fits v _ _ key c e, flush-of v false way h)).done

      extend-before : (key : List ℕ) (w c : Path) (d : Insert) → path_to v key ≡ passed c
          → n.insert_at v false c (row_above (detail_shape p) key (text_of v c.detail)) ≡ passed d → Extended (extend-is.Before way w d)
      extend-before key w c d e i = extend-as way h w d (insert-planned work key c (path-fits v _ _ key c e) (flush-of v false way h) d i).done

    module _ (w : Path) (q : PathFits v w) (g : FlushFits v false) where
      extend-room-same : (i : ℕ) → SameChecks (x.last_room v (By w) i) (x.last_room u (By w) i)
      unfolding x.last_room
      extend-room-same i = rw (unused-detail p f a b w q) (same_refl _)

      before_same : (key : List ℕ) → x.not_above_before v key w ≡ x.not_above_before u key w
      unfolding x.not_above_before
      before_same key = rw (unused-index p f a b w q)

      behind-same : (key : List ℕ) (c : Path) → PathFits v c → x.not_behind v key w c ≡ x.not_behind u key w c
      unfolding x.not_behind x.just_before
      behind-same key c h = rw (unused-detail p f a b c h, unused-index p f a b c h)

      insert-before-same : (key : List ℕ) (c : Path) → PathFits v c
          → SameChecks (x.insert_before v false key (By w) w c) (x.insert_before u false key (By w) w c)
      unfolding x.insert_before
      insert-before-same key c h =
          rw (unused-detail p f a b c h)
          (same-bind _ _ _ _ (insert-at-same work c h g (row_above (detail_shape p) key (text_of u c.detail))) (λ d e. same_refl _))

      look-same : (key : List ℕ) → SameChecks (x.look_deed v false key (By w) w) (x.look_deed u false key (By w) w)
      unfolding x.look_deed
      look-same key =
          same-bind _ _ _ _ (path-same p f a b _ _ key) (λ c e. let h = path-fits v _ _ key c e in
          same_test _ _ _ _ _ _ (behind-same key c h) (λ z. same_refl _) (λ z. insert-before-same key c h))

      alone-same : (key : List ℕ) → SameChecks (x.alone_deed v false key (By w)) (x.alone_deed u false key (By w))
      unfolding x.alone_deed x.last_of
      alone-same key = same_test _ _ _ _ _ _ (before_same key) (λ e. look-same key) (λ e. extend-room-same w.index)

      new-same : SameChecks (x.new_deed v false (By w)) (x.new_deed u false (By w))
      unfolding x.new_deed x.last_of x.new_at x.start_deed x.section_deed
      new-same =
          rw (unused-detail p f a b w q) (same_test _ _ _ _ _ _ (ap (λ (z : List ℕ). ltb (count (index_shape p) z) (FI p)) (unused-index p f a b w q))
          (λ z. same-bind _ _ _ _ (one_same w) (λ t e. same_refl _)) (λ z. same-bind _ _ _ _ (two-same w) (λ t e. same_refl _)))

      extend-at-same : (key : List ℕ) → SameChecks (x.extend_at v false key (By w)) (x.extend_at u false key (By w))
      unfolding x.extend_at
      extend-at-same key =
          let t = text_of u w.detail in
          let alone = eqb (count (detail_shape p) t) 1 in
          let low = not (key_lt (key_at (detail_shape p) t (count (detail_shape p) t - 2)) key) in
          let few = ltb (count (detail_shape p) t) (FD p) in
          rw (unused-detail p f a b w q) (same_test alone alone _ _ _ _ refl (λ e. alone-same key)
          (λ e. same_test low low _ _ _ _ refl (λ z. same_refl _)
          (λ z. same_test few few _ _ _ _ refl (λ y. extend-room-same 0) (λ y. new-same))))

    extend-after : (key : List ℕ) (way : Way) → WayFits v false way
        → SameChecks (x.extend_at v false key way) (x.extend_at u false key way)
    extend-after key Here h = absurd (omega (arith, h.current-least))
    extend-after key (By w) h = extend-at-same w h.0 h.1 key

    last_fits : (way : Way) → x.last_way v false ≡ passed way → WayFits v false way
    last_fits way e = (last-passed v false).holds way e

    extend-done : (key : List ℕ) → Passed Extended (x.extend_deed v false key)
    unfolding x.extend_deed x.extend_at x.alone_deed x.look_deed x.insert_before x.last_room x.new_deed x.new_at x.start_deed x.section_deed
    extend-done key = search (chain, last_fits, extend-stop, extend-room, extend-turned, extend-before, extend-new, extend-both) depth 24

    extend_same : (key : List ℕ) → SameChecks (x.extend_deed v false key) (x.extend_deed u false key)
    unfolding x.extend_deed
    extend_same key = same-bind _ _ _ _ last-same (λ way e. extend-after key way (last_fits way e))

    pub xtend-same : SameChecks (xd.xtend_steps v false work) (xd.xtend_steps u false work)
    unfolding xd.xtend_steps
    xtend-same = same-bind _ _ _ _ (extend_same (key_in p work)) (λ e h. ((extend-done (key_in p work)).holds e h).done)
