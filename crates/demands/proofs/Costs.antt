-- The transfers of one call, from its definition alone, in whatever state: at most its share, 4 for each detail block that its plan splits or
-- starts, and 1 for each new index block.
use Prim.Native.Nat.{ℕ, ◌+◌, ◌*◌, ◌≤◌}
use mathlib.Core.Bool.{Bool, true, false, cond}
use mathlib.Core.Path.{◌≡◌, refl, sym, ap, subst}
use mathlib.Core.List.{List, [], ◌∷◌, ◌++◌, append-nil}
use native.Mathlib.Omega.{arith}
use lib.Dec.{eqb}
use lib.ListN.{length, length-append}
use Rattle.numbers.specs.Checked.{Checked, passed, refused, ◌>>=◌, ◌>>◌}
use Rattle.drum.specs.Blocks.{Transfer, Read, Texts}
use Rattle.layout.specs.Inspect.{layout_marks}
use Rattle.rules.specs.declared.Way.{Way}
use Rattle.rules.specs.declared.Way.TheVariants.{Here, By}
use Rattle.rules.specs.declared.Look.{Look}
use Rattle.rules.specs.declared.Look.TheVariants as look_is
use Rattle.rules.specs.declared.Step.{Step}
use Rattle.rules.specs.declared.Step.TheVariants as step_is
use Rattle.rules.specs.declared.Insert.{Insert}
use Rattle.rules.specs.declared.Insert.TheVariants as insert-is
use Rattle.rules.specs.declared.Delete.{Delete}
use Rattle.rules.specs.declared.Delete.TheVariants as delete-is
use Rattle.rules.specs.declared.Extend.{Extend}
use Rattle.rules.specs.declared.Extend.TheVariants as extend-is
use Rattle.rules.specs.State.{State, Outcome, Effect, desc, texts, key_in, position_key, settle, outcome}
use Rattle.rules.specs.Checks.{sizes_ok, work_ok, is_open, key_ok}
use Rattle.rules.specs.Lookup.{flush_moves, bringing, reached, look, stopping, storing, landing}
use Rattle.rules.specs.Seek.{giving, seek_done, seek_steps, seek, updat_done, updat_steps, updat}
use Rattle.rules.specs.Adv.{adv_step, adv_giving, adv_reads, adv_done, adv_steps, adv}
use Rattle.rules.specs.NsertDone.{split_moves, insert_done, nsert}
use Rattle.rules.specs.NsertDone as nsert-is
use Rattle.rules.specs.Dlete.{delete_deed, empty_moves, empty_all, both_all, emptying, delete_done, dlete_steps, dlete}
use Rattle.rules.specs.XtendDone.{reading, new_moves, listed, extend_done, xtend}
use Rattle.rules.specs.XtendDone as xtend-is
use Rattle.rules.specs.Close.{close_checks, close_done, close}
use Rattle.rules.specs.Open.{open_checks, open_layout, open_done, open_file}
use Rattle.rules.specs.Requests.{Request, opening, closing, seeking, advancing, inserting, deleting, updating, extending, lending, answer}
use Rattle.numbers.proofs.Passed.{Passed, by-bind, by-then, by-passed}
use Rattle.demands.specs.Formula.{share}
use Rattle.demands.specs.Counted.{detail_splits, index_splits, detail_starts, index_starts, extend_splits, nsert_plan, xtend_plan, of_plan, splits_of, starts_of}
use Rattle.rules.proofs.Sizes.{flush-few, bring-few, way-few, adv-few}
use Rattle.demands.proofs.Counted.{as-planned}

-- ---- the steps of each call

abbrev Most : ℕ → Effect → Type 0
Most n e = length e.transfers ≤ n

-- transfers behind those of the way to a block
way-more : (v : Texts) (flag : Bool) (way : Way) (ms : List Transfer) → length ((reached v flag way).moves ++ ms) ≤ 3 + length ms
way-more v flag way ms = rw (length-append (reached v flag way).moves ms) (omega (arith, way-few v flag way))

-- with the buffer not flagged, one less
way-calm : (v : Texts) (way : Way) (ms : List Transfer) → length ((reached v false way).moves ++ ms) ≤ 2 + length ms
unfolding reached bringing flush_moves
way-calm v Here ms = omega arith
way-calm v (By w) ms = omega arith

insert-calm : (v : Texts) (work : List ℕ) (d : Insert) → Passed (Most (2 + 4 * detail_splits d + index_splits d)) (insert_done v false work d)
unfolding insert_done landing stopping storing detail_splits index_splits split_moves nsert-is.both_split_moves
insert-calm v work (insert-is.Stop way n) = by-passed _ (omega (arith, way-calm v way [], ap length (append-nil (reached v false way).moves)))
insert-calm v work (insert-is.Room w i n) = by-passed _ (omega (arith, way-calm v (By w) [], ap length (append-nil (reached v false (By w)).moves)))
insert-calm v work (insert-is.Split w i d n) = by-passed _ (way-calm v (By w) _)
insert-calm v work (insert-is.Both w i b x n) = by-passed _ (way-calm v (By w) _)

module _ (v : Texts) (flag : Bool) (work : List ℕ) where
  stop-most : (way : Way) (n : ℕ) → Most 3 (stopping n work (reached v flag way))
  unfolding stopping
  stop-most way n = way-few v flag way

  store-most : (way : Way) (n : ℕ) (t : List ℕ) → Most 3 (storing n work (reached v flag way) t)
  unfolding storing
  store-most way n t = way-few v flag way

  seek-most : (l : Look) → Passed (Most 3) (seek_done v flag work l)
  unfolding seek_done giving
  seek-most (look_is.Found way i) = by-passed _ (way-few v flag way)
  seek-most (look_is.Missing w) = by-passed _ (stop-most (By w) _)

  updat-most : (l : Look) → Passed (Most 3) (updat_done v flag work l)
  unfolding updat_done
  updat-most (look_is.Found way i) = by-passed _ (store-most way _ _)
  updat-most (look_is.Missing w) = by-passed _ (stop-most (By w) _)

  adv-most : (s : Step) → Passed (Most 5) (adv_done v flag s)
  unfolding adv_done adv_giving giving
  adv-most (step_is.At way i) = by-passed _ (omega (arith, way-few v flag way))
  adv-most (step_is.Beyond w x i) = by-passed _ (omega (arith, bring-few v flag x.detail (adv_reads w x), adv-few w x))

  insert-most : (d : Insert) → Passed (Most (3 + 4 * detail_splits d + index_splits d)) (insert_done v flag work d)
  unfolding insert_done landing detail_splits index_splits split_moves nsert-is.both_split_moves
  insert-most (insert-is.Stop way n) = by-passed _ (stop-most way n)
  insert-most (insert-is.Room w i n) = by-passed _ (store-most (By w) n _)
  insert-most (insert-is.Split w i d n) = by-passed _ (way-more v flag (By w) _)
  insert-most (insert-is.Both w i b x n) = by-passed _ (way-more v flag (By w) _)

  delete-most : (d : Delete) → Passed (Most 6) (delete_done v flag work d)
  unfolding delete_done stopping storing emptying empty_all both_all empty_moves
  delete-most (delete-is.Stop w) = by-passed _ (omega (arith, way-few v flag (By w)))
  delete-most (delete-is.Remove way i) = by-passed _ (omega (arith, way-few v flag way))
  delete-most (delete-is.Empty way w head) = by-passed _ (way-more v flag way _)
  delete-most (delete-is.Both way w head) = by-passed _ (way-more v flag way _)

  read-most : (x : ℕ) (way : Way) → length (reading x (reached v flag way)).moves ≤ 4
  unfolding reading
  read-most x way = omega (arith, way-more v flag way (cond (eqb x 0) [] (Read x ∷ [])), go (eqb x 0))
    where
      go : (t : Bool) → length (cond t [] (Read x ∷ [])) ≤ 1
      go true = omega arith
      go false = omega arith

  -- after the last block was reached, what NSERT does
  before-most : (way : Way) (x : ℕ) (d : Insert) (t : Effect) → insert_done v (reached v flag way).flag work d ≡ passed t
      → length ((reading x (reached v flag way)).moves ++ t.transfers) ≤ 6 + 4 * detail_splits d + index_splits d
  unfolding reached bringing
  before-most Here x d t e = rw (length-append (reading x (reached v flag Here)).moves t.transfers) (omega (arith, here, (insert-most d).holds t e))
    where
      one : (b : Bool) → length (cond b [] (Read x ∷ [])) ≤ 1
      one true = omega arith
      one false = omega arith

      here : length (reading x (reached v flag Here)).moves ≤ 1
      here = unfold reading in one (eqb x 0)
  before-most (By w) x d t e =
      rw (length-append (reading x (reached v flag (By w))).moves t.transfers) (omega (arith, read-most x (By w), (insert-calm v work d).holds t e))

  extend-most : (d : Extend)
      → Passed (Most (6 + 4 * (detail_starts d + extend_splits detail_splits d) + (index_starts d + extend_splits index_splits d))) (extend_done v flag work d)
  unfolding extend_done stopping storing landing listed detail_starts index_starts extend_splits new_moves xtend-is.section_moves
  extend-most (extend-is.Stop way x n) = by-passed _ (omega (arith, read-most x way))
  extend-most (extend-is.Room way x n) = by-passed _ (omega (arith, read-most x way))
  extend-most (extend-is.Before way w d) =
      by-bind (insert_done v flag work d) _ λ e h. by-bind (insert_done v (reached v flag way).flag work d) _ λ t k. by-passed _ (omega
      (arith, before-most way w.index d t k))
  extend-most (extend-is.New way w d n) = by-passed _ (omega (arith, way-more v flag way (new_moves v way w work d.block)))
  extend-most (extend-is.Both way w b x n) = by-passed _ (omega (arith, way-more v flag way (xtend-is.section_moves v way w work b x.block)))

-- ---- the calls

-- a refused call moves nothing
settled : (st : State) (c : Checked Effect) (n : ℕ) → Passed (Most n) c → length (settle st c).transfers ≤ n
unfolding settle outcome
settled st (refused m) n h = omega arith
settled st (passed e) n h = h.holds e refl

-- the refusals before a call's own steps
open-most : (st : State) (steps : Checked Effect) (n : ℕ) → Passed (Most n) steps
    → length (settle st (sizes_ok st >> (work_ok st >> (is_open st >> steps)))).transfers ≤ n
open-most st steps n h =
    let h₁ : Passed (Most n) (is_open st >> steps) = by-then (is_open st) steps (λ a e. h) in
    let h₂ : Passed (Most n) (work_ok st >> (is_open st >> steps)) = by-then (work_ok st) (is_open st >> steps) (λ a e. h₁) in
    settled st (sizes_ok st >> (work_ok st >> (is_open st >> steps))) n (by-then (sizes_ok st) (work_ok st >> (is_open st >> steps)) (λ a e. h₂))

keyed : (st : State) (reads : ℕ) (steps : Checked Effect) (n : ℕ) → Passed (Most n) steps
    → length (settle st (sizes_ok st >> (work_ok st >> (is_open st >> (key_ok reads st >> steps))))).transfers ≤ n
keyed st reads steps n h = open-most st (key_ok reads st >> steps) n (by-then (key_ok reads st) steps (λ a e. h))

-- what NSERT and XTEND may cost, by their plan
abbrev insert-bound : Checked Insert → ℕ
insert-bound c = 3 + 4 * of_plan detail_splits c + of_plan index_splits c

abbrev extend-bound : Checked Extend → ℕ
extend-bound c =
    6 + 4 * (of_plan detail_starts c + of_plan (extend_splits detail_splits) c) + (of_plan index_starts c + of_plan (extend_splits index_splits) c)

module _ (st : State) where
  abbrev v : Texts
  v = texts st

  abbrev flag : Bool
  flag = st.session.flag

  abbrev key : List ℕ
  key = key_in (desc st) st.work

  pub seek-cost : length (seek st).transfers ≤ 3
  unfolding seek seek_steps
  seek-cost = keyed st (desc st).k (seek_steps v flag st.work) 3 (by-bind (look v flag key) _ λ l e. seek-most v flag st.work l)

  pub updat-cost : length (updat st).transfers ≤ 3
  unfolding updat updat_steps
  updat-cost = keyed st (desc st).wpr (updat_steps v flag st.work) 3 (by-bind (look v flag key) _ λ l e. updat-most v flag st.work l)

  pub adv-cost : length (adv st).transfers ≤ 5
  unfolding adv adv_steps
  adv-cost =
      let placed : Bool = st.session.placed in
      let at : List ℕ = position_key st.session in
      open-most st (adv_steps v flag placed at) 5 (by-bind (adv_step v flag placed at) _ λ s e. adv-most v flag st.work s)

  pub dlete-cost : length (dlete st).transfers ≤ 6
  unfolding dlete dlete_steps
  dlete-cost = keyed st (desc st).k (dlete_steps v flag st.work) 6 (by-bind (delete_deed v flag key) _ λ d e. delete-most v flag st.work d)

  -- a call that carries out a plan, each of its plans within its own bound
  planned-cost : {A : Type 0} (o : Outcome) (plan : Checked A) (deed : A → Checked Effect) (bound : Checked A → ℕ) → o ≡ settle st (plan >>= deed)
      → ((d : A) → Passed (Most (bound (passed d))) (deed d)) → length o.transfers ≤ bound plan
  planned-cost {A} o plan deed bound e h =
      subst (λ (x : Outcome). length x.transfers ≤ bound plan) (sym e)
      (settled st (plan >>= deed) (bound plan) (by-bind plan deed λ d q. subst (λ (c : Checked A). Passed (Most (bound c)) (deed d)) (sym q) (h d)))

  pub nsert-cost : length (nsert st).transfers ≤ insert-bound (nsert_plan st)
  unfolding of_plan
  nsert-cost =
      planned-cost (nsert st) (nsert_plan st) (λ d. insert_done v flag st.work d) insert-bound (as-planned st).nsert-is
      (λ d. insert-most v flag st.work d)

  pub xtend-cost : length (xtend st).transfers ≤ extend-bound (xtend_plan st)
  unfolding of_plan
  xtend-cost =
      planned-cost (xtend st) (xtend_plan st) (λ d. extend_done v flag st.work d) extend-bound (as-planned st).xtend-is
      (λ d. extend-most v flag st.work d)

pub close-cost : (st : State) → length (close st).transfers ≤ 1
unfolding close close_done
close-cost st = go (close_checks st)
  where
    go : (c : Checked Bool) → length (close_done st c).transfers ≤ 1
    go (refused n) = omega arith
    go (passed x) = flush-few (texts st) st.session.flag

-- OPEN moves nothing
pub open_none : (st : State) (marks : List ℕ) → length (open_file st marks).outcome.transfers ≡ 0
unfolding open_file open_done open_layout
open_none st marks = go (open_checks st marks)
  where
    laid : (c : Checked (List ℕ)) → length (open_layout st c).outcome.transfers ≡ 0
    laid (refused n) = refl
    laid (passed m) = refl

    go : (c : Checked Bool) → length (open_done st marks c).outcome.transfers ≡ 0
    go (refused n) = refl
    go (passed t) = laid (layout_marks (desc st) st.file)

pub open-cost : (st : State) (marks : List ℕ) → length (open_file st marks).outcome.transfers ≤ 0
open-cost st marks = omega (arith, open_none st marks)

-- the bound of one call, whatever the state and the request
pub call-cost : (st : State) (q : Request)
    → length (answer st q).transfers
    ≤ share q + 4 * (splits_of detail_splits st q + starts_of detail_starts st q) + (splits_of index_splits st q + starts_of index_starts st q)
unfolding answer share splits_of starts_of
call-cost st (opening marks) = open-cost st marks
call-cost st closing = close-cost st
call-cost st (seeking w) = seek-cost (lending w st)
call-cost st (advancing w) = adv-cost (lending w st)
call-cost st (inserting w) = omega (arith, nsert-cost (lending w st))
call-cost st (deleting w) = dlete-cost (lending w st)
call-cost st (updating w) = updat-cost (lending w st)
call-cost st (extending w) = omega (arith, xtend-cost (lending w st))

-- a plan splits or starts one block of each kind at most
splits-few : (c : Checked Insert) → 4 * of_plan detail_splits c + of_plan index_splits c ≤ 5
unfolding of_plan detail_splits index_splits
splits-few (refused n) = omega arith
splits-few (passed (insert-is.Stop way n)) = omega arith
splits-few (passed (insert-is.Room w i n)) = omega arith
splits-few (passed (insert-is.Split w i d n)) = omega arith
splits-few (passed (insert-is.Both w i b x n)) = omega arith

starts-few : (c : Checked Extend)
    → 4 * (of_plan detail_starts c + of_plan (extend_splits detail_splits) c) + (of_plan index_starts c + of_plan (extend_splits index_splits) c) ≤ 5
unfolding of_plan detail_starts index_starts extend_splits
starts-few (refused n) = omega arith
starts-few (passed (extend-is.Stop way x n)) = omega arith
starts-few (passed (extend-is.Room way x n)) = omega arith
starts-few (passed (extend-is.New way w d n)) = omega arith
starts-few (passed (extend-is.Both way w b x n)) = omega arith
starts-few (passed (extend-is.Before way w d)) = unfold of_plan in omega (arith, splits-few (passed d))

-- so at most 16, whatever the state and the request
pub few-transfers : (st : State) (q : Request) → length (answer st q).transfers ≤ 16
unfolding answer
few-transfers st (opening marks) = omega (arith, open-cost st marks)
few-transfers st closing = omega (arith, close-cost st)
few-transfers st (seeking w) = omega (arith, seek-cost (lending w st))
few-transfers st (advancing w) = omega (arith, adv-cost (lending w st))
few-transfers st (inserting w) = omega (arith, nsert-cost (lending w st), splits-few (nsert_plan (lending w st)))
few-transfers st (deleting w) = omega (arith, dlete-cost (lending w st))
few-transfers st (updating w) = omega (arith, updat-cost (lending w st))
few-transfers st (extending w) = omega (arith, xtend-cost (lending w st), starts-few (xtend_plan (lending w st)))
