-- What SEEK found is in the buffer: an UPDAT of that key right after it moves no block. On all words: a way that passed its checks ends in a block whose
-- number and count pass those of the buffer.
use Prim.Native.Nat.{ℕ, ◌≤◌, ◌<◌}
use mathlib.Core.Path.{◌≡◌, refl, sym, ap, ◌∙◌, subst}
use mathlib.Core.Bool.{Bool, true, false, cond}
use mathlib.Core.List.{List, []}
use native.Mathlib.Nat.{add-zero}
use native.Mathlib.Omega.{arith}
use borrow.Author.Tests.{lt-ltb, ltb-true, le-leb, ne_eqb}
use lib.Dec.{ltb}
use Rattle.numbers.specs.Numbers.{done, not_found, wrong_size, is_closed, wrong_key, bad_file}
use Rattle.numbers.specs.Checked.{Checked, passed, refused, ◌>>=◌, ◌>>◌}
use Rattle.numbers.proofs.Passed.{Passed, chain, by-passed, by-refused, by-bind}
use Rattle.words.specs.Words.{part}
use Rattle.words.proofs.Keys.{same_key-true}
use Rattle.words.proofs.Parts.{part-part}
use Rattle.table.specs.declared.Want.TheVariants.{Equal}
use Rattle.table.specs.Tables.{count, place, row, key_at, fits, row_with}
use Rattle.table.proofs.Searches.{first-true}
use Rattle.drum.specs.declared.Description.{Description}
use Rattle.drum.specs.Params.{D, detail_shape}
use Rattle.drum.specs.Blocks.{Texts, text_of, seen}
use Rattle.rules.specs.declared.Path.{Path}
use Rattle.rules.specs.declared.Way.TheVariants.{Here, By}
use Rattle.rules.specs.declared.Look.{Look}
use Rattle.rules.specs.declared.Look.TheVariants.{Found, Missing}
use Rattle.rules.specs.State.{State, Effect, desc, texts, key_in, holding, positioned, outcome, settle}
use Rattle.rules.specs.Checks.{sizes_ok, work_ok, is_open, key_ok, keyed_call}
use Rattle.rules.specs.Paths.{path_to}
use Rattle.rules.specs.Lookup.{Reached, on_buffer, in_buffer, look_at, look_outside, look, bringing, reached, stopping, storing}
use Rattle.rules.specs.Seek.{giving, seek_done, seek_steps, seek, updat_done, updat_steps, updat}
use Rattle.rules.specs.Requests.{lending}
use Rattle.rules.specs.Fits.{PathFits, BufferFits}
use Rattle.rules.proofs.Fits.{path-fits, tested-fits}
use Rattle.demands.proofs.Refused.{Refuses, refusing}
use Rattle.demands.proofs.BadFile.{IsBad, seek-bad}

-- ---- the lookup again

-- the key is in the buffered block, at place i
pub record Buffered (v : Texts) (key : List ℕ) (i : ℕ) : Type 0 where
  pub found : (flag : Bool) → look v flag key ≡ passed (Found Here i)
  pub same : key_at (detail_shape v.desc) v.buffer i ≡ key

module _ (v : Texts) (b : BufferFits v) where
  on-buffer : (test : Bool) → on_buffer v test ≡ passed test
  unfolding on_buffer
  on-buffer test =
      let a = b.current-least in
      simp (
        ne_eqb v.current 0 (λ e. omega arith),
        le-leb 1 v.current a,
        le-leb v.current v.desc.n b.current-most,
        le-leb 1 (count (detail_shape v.desc) v.buffer) b.records-least,
        le-leb (count (detail_shape v.desc) v.buffer) (D v.desc) b.records-most,
      )

  buffered : (key : List ℕ) → row_with (detail_shape v.desc) key v.buffer < count (detail_shape v.desc) v.buffer
      → Buffered v key (row_with (detail_shape v.desc) key v.buffer)
  unfolding look in_buffer fits
  buffered key l =
      let h = detail_shape v.desc in
      let i = row_with h key v.buffer in
      record {
        found = λ flag.
            ap (λ (m : Checked Bool). m >>= (λ here. cond here (passed (Found Here i)) (look_outside v flag key)))
            (on-buffer (ltb i (count h v.buffer)) ∙ ap passed (lt-ltb i (count h v.buffer) l));
        same = same_key-true (key_at h v.buffer i) key (first-true (fits Equal h key v.buffer) (count h v.buffer) l);
      }

-- what a way left
abbrev left_in : Texts → Reached → Texts
left_in v r = seen v.desc r.current r.file r.buffer

abbrev Again : Texts → Bool → List ℕ → Look → Type 0
Again v flag key (Found way i) = Buffered (left_in v (reached v flag way)) key i
Again v flag key (Missing w) = Unit {0}

module _ (v : Texts) (flag : Bool) (key : List ℕ) where
  here-again : (here : Bool) → in_buffer v key ≡ passed here → here ≡ true → Again v flag key (Found Here (row_with (detail_shape v.desc) key v.buffer))
  unfolding in_buffer reached
  here-again here e h =
      let a = tested-fits v (ltb (row_with (detail_shape v.desc) key v.buffer) (count (detail_shape v.desc) v.buffer)) here e h in
      buffered v a.0 key (ltb-true _ _ a.1)

  outside-again : (w : Path) → path_to v key ≡ passed w → Again v flag key (look_at v key w)
  unfolding reached bringing
  outside-again w e = go (ltb i n) refl
    where
      n : ℕ
      n = count (detail_shape v.desc) (text_of v w.detail)

      i : ℕ
      i = row_with (detail_shape v.desc) key (text_of v w.detail)

      a : PathFits v w
      a = path-fits v _ _ key w e

      go : (t : Bool) → ltb i n ≡ t → Again v flag key (cond t (Found (By w) i) (Missing w))
      go true g =
          buffered (left_in v (reached v flag (By w)))
          (record { current-least = a.detail-least; current-most = a.detail-most; records-least = a.records-least; records-most = a.records-most })
          key
          (ltb-true i n g)
      go false g = tt

  look-again : Passed (Again v flag key) (look v flag key)
  unfolding look look_outside
  look-again = search (chain, here-again, outside-again) depth 12

-- ---- SEEK

-- the key's record is in the workspace, and its block is the buffered one
pub record Brought (p : Description) (key : List ℕ) (u : State) : Type 0 where
  pub described : desc u ≡ p
  pub place_of : ℕ
  pub found : (flag : Bool) → look (texts u) flag key ≡ passed (Found Here place_of)
  pub key-is : key_in p u.work ≡ key

-- a refusal's number is not 0
record NotDone (n : ℕ) : Type 0 where
  no : n ≡ done → ⊥

size-not : NotDone wrong_size
size-not = record { no = λ z. omega arith }

closed-not : NotDone is_closed
closed-not = record { no = λ z. omega arith }

key-not : NotDone wrong_key
key-not = record { no = λ z. omega arith }

bad-not : (c : Checked Effect) → Refuses IsBad c → Refuses NotDone c
bad-not c b = record { number = λ n e. record { no = λ z. let y : n ≡ bad_file = b.number n e in omega arith } }

module _ (st : State) (wide : (desc st).k ≤ (desc st).wpr) where
  abbrev key : List ℕ
  key = key_in (desc st) st.work

  abbrev Brings : Effect → Type 0
  Brings e = e.number ≡ done → Brought (desc st) key (outcome st.session e).after

  -- a row's key
  row-key : (t : List ℕ) (i : ℕ) → key_in (desc st) (row (detail_shape (desc st)) t i) ≡ key_at (detail_shape (desc st)) t i
  unfolding row key_at detail_shape
  row-key t i =
      part-part (place (detail_shape (desc st)) i) (desc st).wpr 0 (desc st).k t (omega arith)
      ∙ ap (λ (n : ℕ). part n (desc st).k t) (add-zero (place (detail_shape (desc st)) i))

  done-brings : (l : Look) → look (texts st) st.session.flag key ≡ passed l → Passed Brings (seek_done (texts st) st.session.flag st.work l)
  unfolding seek_done giving stopping outcome holding positioned
  done-brings (Found way i) e =
      let r = reached (texts st) st.session.flag way in
      let b : Buffered (left_in (texts st) r) key i = (look-again (texts st) st.session.flag key).holds (Found way i) e in
      by-passed _ (λ z. record { described = refl; place_of = i; found = b.found; key-is = row-key r.buffer i ∙ b.same })
  done-brings (Missing w) e = by-passed _ (λ z. absurd (let y : not_found ≡ 0 = z in omega arith))

  steps-bring : Passed Brings (seek_steps (texts st) st.session.flag st.work)
  unfolding seek_steps
  steps-bring = by-bind _ _ done-brings

  settled : (c : Checked Effect) → Refuses NotDone c → Passed Brings c → (settle st c).number ≡ done → Brought (desc st) key (settle st c).after
  unfolding settle outcome
  settled (refused n) r p z = absurd ((r.number n refl).no z)
  settled (passed e) r p z = p.holds e refl z

  module _ (c : Checked Effect) (bad : Refuses IsBad c) (steps : Passed Brings c) where
    keyed : (keyed_call (desc st).k st c).number ≡ done → Brought (desc st) key (keyed_call (desc st).k st c).after
    unfolding sizes_ok work_ok is_open key_ok
    keyed = settled _ (search (refusing, size-not, closed-not, key-not, bad-not) depth 9) (search (chain, steps) depth 9)

  pub seek-brings : (seek st).number ≡ done → Brought (desc st) key (seek st).after
  unfolding seek
  seek-brings = keyed _ (seek-bad (texts st) st.session.flag st.work) steps-bring

-- ---- UPDAT

abbrev None : Effect → Type 0
None e = e.transfers ≡ []

module _ (st : State) where
  none-settled : (c : Checked Effect) → Passed None c → (settle st c).transfers ≡ []
  unfolding settle outcome
  none-settled (refused n) p = refl
  none-settled (passed e) p = p.holds e refl

  module _ (c : Checked Effect) (steps : Passed None c) (reads : ℕ) where
    none-keyed : (keyed_call reads st c).transfers ≡ []
    none-keyed = none-settled _ (search (chain, steps) depth 9)

here-none : (v : Texts) (flag : Bool) (w : List ℕ) (i : ℕ) → Passed None (updat_done v flag w (Found Here i))
unfolding updat_done storing reached
here-none v flag w i = by-passed _ refl

module _ (p : Description) (key w : List ℕ) (u : State) (b : Brought p key u) (same : key_in p w ≡ key) where
  pub updat-here : updat_steps (texts u) u.session.flag w ≡ updat_done (texts u) u.session.flag w (Found Here b.place_of)
  unfolding updat_steps
  updat-here =
      let v = texts u in
      let flag = u.session.flag in
      ap (λ (x : List ℕ). look v flag x >>= updat_done v flag w) (ap (λ (q : Description). key_in q w) b.described ∙ same)
      ∙ ap (λ (m : Checked Look). m >>= updat_done v flag w) (b.found flag)

  steps-none : Passed None (updat_steps (texts u) u.session.flag w)
  steps-none = subst (Passed None) (sym updat-here) (here-none (texts u) u.session.flag w b.place_of)

  -- UPDAT of what was found moves nothing, whatever it answers
  pub updat-free : (updat (lending w u)).transfers ≡ []
  unfolding updat lending
  updat-free = none-keyed (lending w u) _ steps-none (desc u).wpr
