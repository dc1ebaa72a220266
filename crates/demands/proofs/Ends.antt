-- What the steps of each call come to, where they pass: they stop at what a lookup, or the way to the last block, reached; or their number is no
-- refusal. With it, which numbers they end with, and that they set position where the number is 0 or 070001 and only there.
use Prim.Native.Nat.{ℕ}
use mathlib.Core.Path.{◌≡◌, refl, sym, ap, ◌∙◌}
use mathlib.Core.Bool.{Bool, true, false, cond, not}
use mathlib.Core.List.{List, append-nil}
use Rattle.numbers.specs.Numbers as number_is
use Rattle.numbers.specs.Numbers.{accepted}
use Rattle.numbers.specs.Checked.{passed}
use Rattle.words.specs.Keys.{is_ones}
use Rattle.table.specs.Tables.{key_at}
use Rattle.drum.specs.declared.Description.{Description}
use Rattle.drum.specs.Params.{detail_shape}
use Rattle.drum.specs.Blocks.{Transfer, Texts}
use Rattle.rules.specs.declared.Path.{Path}
use Rattle.rules.specs.declared.Way.{Way}
use Rattle.rules.specs.declared.Way.TheVariants.{Here, By}
use Rattle.rules.specs.declared.Look.{Look}
use Rattle.rules.specs.declared.Look.TheVariants as look_is
use Rattle.rules.specs.declared.Step.{Step}
use Rattle.rules.specs.declared.Step.TheVariants as step_is
use Rattle.rules.specs.declared.Taken.{Taken}
use Rattle.rules.specs.declared.Insert.{Insert}
use Rattle.rules.specs.declared.Insert.TheVariants as insert-is
use Rattle.rules.specs.declared.Delete.{Delete}
use Rattle.rules.specs.declared.Delete.TheVariants as delete-is
use Rattle.rules.specs.declared.Extend.{Extend}
use Rattle.rules.specs.declared.Extend.TheVariants as extend-is
use Rattle.rules.specs.State.{Effect, key_in}
use Rattle.rules.specs.Lookup.{Reached, look, reached, stopping, storing, landing}
use Rattle.rules.specs.Free.{stored_number}
use Rattle.rules.specs.Seek.{giving, seek_done, seek_steps, updat_done, updat_steps}
use Rattle.rules.specs.Adv.{adv_giving, adv_done, adv_steps}
use Rattle.rules.specs.Nsert.{room_deed, split_deed, both_deed, insert_at, insert_after, insert_deed}
use Rattle.rules.specs.NsertDone.{insert_done, nsert_steps}
use Rattle.rules.specs.Dlete.{empty_deed, empty_at, delete_after, delete_deed, emptying, delete_done, dlete_steps}
use Rattle.rules.specs.Xtend as x
use Rattle.rules.specs.Paths.{path_to}
use Rattle.rules.specs.XtendDone.{reading, listed, extend_done, xtend_steps}
use Rattle.demands.specs.Refusals.{leaves_all, stops, way_of, end_alone, looked_from, LooksBefore}
use Rattle.demands.specs.Answering.{finds, advances, inserts, extends}
use Rattle.numbers.proofs.Passed.{Passed, chain, by-passed}

-- steps end with a number of which ok holds: they stop, having reached an r of which R holds; or the number is none at which a call stops
pub data Ends (ok : ℕ → Bool) (R : Reached → Type 0) (work : List ℕ) : Effect → Type 0 where
  stopped : (n : ℕ) (r : Reached) → ok n ≡ true → leaves_all n ≡ false → accepted n ≡ false → R r → Ends ok R work (stopping n work r)
  went : (e : Effect) → ok e.number ≡ true → leaves_all e.number ≡ false → stops e.number ≡ false → e.keyed ≡ accepted e.number
      → Ends ok R work e

-- the number of a call that has stored: 0 or 070001
record Stored (n : ℕ) : Type 0 where
  is : accepted n ≡ true
  quiet : leaves_all n ≡ false
  other : stops n ≡ false

stored-by : (p : Description) (n head lowest : ℕ) → Passed Stored (stored_number p n head lowest)
unfolding stored_number leaves_all stops
stored-by p n head lowest = search (chain, either) depth 9
  where
    either : (t : Bool) → Stored (cond t number_is.none_free number_is.done)
    either true = record { is = refl; quiet = refl; other = refl }
    either false = record { is = refl; quiet = refl; other = refl }

stored : (p : Description) (m head lowest n : ℕ) → stored_number p m head lowest ≡ passed n → Stored n
stored p m head lowest n e = (stored-by p m head lowest).holds n e

in-inserts : (n : ℕ) → Stored n → inserts n ≡ true
unfolding inserts
in-inserts n s = rw s.is

in-extends : (n : ℕ) → Stored n → extends n ≡ true
unfolding extends
in-extends n s = rw s.is

went-stored : (ok : ℕ → Bool) (R : Reached → Type 0) (work : List ℕ) (n : ℕ) (r : Reached) (t : List ℕ) → Stored n → ok n ≡ true
    → Ends ok R work (storing n work r t)
unfolding storing
went-stored ok R work n r t s o = went (storing n work r t) o s.quiet s.other (sym s.is)

went-landed : (ok : ℕ → Bool) (R : Reached → Type 0) (p : Description) (work : List ℕ) (n : ℕ) (moves : List Transfer) (b : ℕ) (f : List ℕ)
    → Stored n → ok n ≡ true → Ends ok R work (landing p n work moves b f)
unfolding landing
went-landed ok R p work n moves b f s o = went (landing p n work moves b f) o s.quiet s.other (sym s.is)

-- what SEEK, UPDAT, NSERT and DLETE reach: what the lookup does
pub record LookedUp (v : Texts) (flag : Bool) (key : List ℕ) (r : Reached) : Type 0 where
  pub result : Look
  pub looked : look v flag key ≡ passed result
  pub is : r ≡ reached v flag (way_of result)

-- what XTEND reaches: the last block, or from there what the lookup does
pub data Lasted (v : Texts) (flag : Bool) (key : List ℕ) (r : Reached) : Type 0 where
  at_last_lem : (way : Way) → x.last_way v flag ≡ passed way → end_alone v way ≡ false → r ≡ reached v flag way → Lasted v flag key r
  at-found : (way : Way) (w q : Path) → LooksBefore v flag key way w q → r ≡ looked_from v flag way w q → Lasted v flag key r

-- ADV does not stop
abbrev pub Never : Reached → Type 0
Never r = ⊥

-- what NSERT's plan is, where it passes
data Inserts (v : Texts) (flag : Bool) (key : List ℕ) : Insert → Type 0 where
  stop : (way : Way) (n : ℕ) → inserts n ≡ true → leaves_all n ≡ false → accepted n ≡ false → LookedUp v flag key (reached v flag way)
      → Inserts v flag key (insert-is.Stop way n)
  room : (w : Path) (i n : ℕ) → Stored n → Inserts v flag key (insert-is.Room w i n)
  split : (w : Path) (i : ℕ) (d : Taken) (n : ℕ) → Stored n → Inserts v flag key (insert-is.Split w i d n)
  both : (w : Path) (i b : ℕ) (d : Taken) (n : ℕ) → Stored n → Inserts v flag key (insert-is.Both w i b d n)

-- what DLETE's plan is, where it passes
data Deletes (v : Texts) (flag : Bool) (key : List ℕ) : Delete → Type 0 where
  stop : (w : Path) → look v flag key ≡ passed (look_is.Missing w) → Deletes v flag key (delete-is.Stop w)
  remove : (way : Way) (i : ℕ) → Deletes v flag key (delete-is.Remove way i)
  empty : (way : Way) (w : Path) (head : ℕ) → Deletes v flag key (delete-is.Empty way w head)
  both : (way : Way) (w : Path) (head : ℕ) → Deletes v flag key (delete-is.Both way w head)

-- what NSERT's plan is on a path, where it passes
data InsertsAt (w : Path) : Insert → Type 0 where
  stop : (n : ℕ) → n ≡ number_is.no_room → InsertsAt w (insert-is.Stop (By w) n)
  room : (i n : ℕ) → Stored n → InsertsAt w (insert-is.Room w i n)
  split : (i : ℕ) (d : Taken) (n : ℕ) → Stored n → InsertsAt w (insert-is.Split w i d n)
  both : (i b : ℕ) (d : Taken) (n : ℕ) → Stored n → InsertsAt w (insert-is.Both w i b d n)

-- what XTEND's plan is, where it passes
data Extends (v : Texts) (flag : Bool) (key : List ℕ) : Extend → Type 0 where
  stop : (way : Way) (n : ℕ) → extends n ≡ true → leaves_all n ≡ false → accepted n ≡ false → x.last_way v flag ≡ passed way → end_alone v way ≡ false
      → Extends v flag key (extend-is.Stop way 0 n)
  room : (way : Way) (i n : ℕ) → Stored n → Extends v flag key (extend-is.Room way i n)
  new : (way : Way) (w : Path) (d : Taken) (n : ℕ) → Stored n → Extends v flag key (extend-is.New way w d n)
  both : (way : Way) (w : Path) (b : ℕ) (d : Taken) (n : ℕ) → Stored n → Extends v flag key (extend-is.Both way w b d n)
  turned : (way : Way) (w q : Path) (n : ℕ) → extends n ≡ true → leaves_all n ≡ false → accepted n ≡ false → LooksBefore v flag key way w q
      → Extends v flag key (extend-is.Before way w (insert-is.Stop (By q) n))
  put-room : (way : Way) (w q : Path) (i n : ℕ) → Stored n → Extends v flag key (extend-is.Before way w (insert-is.Room q i n))
  put-split : (way : Way) (w q : Path) (i : ℕ) (d : Taken) (n : ℕ) → Stored n → Extends v flag key (extend-is.Before way w (insert-is.Split q i d n))
  put_both : (way : Way) (w q : Path) (i b : ℕ) (d : Taken) (n : ℕ) → Stored n → Extends v flag key (extend-is.Before way w (insert-is.Both q i b d n))

module _ (v : Texts) (flag : Bool) (key : List ℕ) where
  by-missing : (w : Path) → look v flag key ≡ passed (look_is.Missing w) → LookedUp v flag key (reached v flag (By w))
  unfolding way_of
  by-missing w e = record { result = look_is.Missing w; looked = e; is = refl }

  by-found : (way : Way) (i : ℕ) → look v flag key ≡ passed (look_is.Found way i) → LookedUp v flag key (reached v flag way)
  unfolding way_of
  by-found way i e = record { result = look_is.Found way i; looked = e; is = refl }

  -- NSERT's plan
  insert-after : (l : Look) → look v flag key ≡ passed l → Passed (Inserts v flag key) (insert_after v flag key l)
  unfolding insert_after insert_at room_deed split_deed both_deed leaves_all inserts
  insert-after (look_is.Found way i) e = search (chain, stop, by-found)
  insert-after (look_is.Missing w) e = search (chain, stop, room, split, both, by-missing, stored) depth 16

  insert-plans : Passed (Inserts v flag key) (insert_deed v flag key)
  unfolding insert_deed
  insert-plans = search (chain, insert-after)

  -- DLETE's plan
  head-or : (t : Bool) (way : Way) (w : Path) (head : ℕ) → Deletes v flag key (cond t (delete-is.Both way w head) (delete-is.Empty way w head))
  head-or true way w head = both way w head
  head-or false way w head = empty way w head

  delete-after : (l : Look) → look v flag key ≡ passed l → Passed (Deletes v flag key) (delete_after v key l)
  unfolding delete_after empty_at empty_deed
  delete-after (look_is.Missing w) e = search (chain, stop)
  delete-after (look_is.Found Here i) e = search (chain, remove, head-or) depth 9
  delete-after (look_is.Found (By w) i) e = search (chain, remove, head-or) depth 9

  deletes : Passed (Deletes v flag key) (delete_deed v flag key)
  unfolding delete_deed
  deletes = search (chain, delete-after)

module _ (v : Texts) (flag : Bool) where
  -- no index read besides
  read_none : (r : Reached) → reading 0 r ≡ r
  unfolding reading
  read_none r = λ i. record { file = r.file; current = r.current; flag = r.flag; buffer = r.buffer; moves = append-nil r.moves i }

  by_last : (key : List ℕ) (way : Way) → x.last_way v flag ≡ passed way → end_alone v way ≡ false → Lasted v flag key (reading 0 (reached v flag way))
  by_last key way e g = at_last_lem way e g (read_none (reached v flag way))

  -- NSERT's plan on a path
  at-plans : (w : Path) (i : ℕ) → Passed (InsertsAt w) (insert_at v flag w i)
  unfolding insert_at room_deed split_deed both_deed
  at-plans w i = search (chain, stop, room, split, both, stored) depth 16

  module _ (key : List ℕ) where
    -- the lookup stops, or NSERT's plan follows
    by-look : (way : Way) (w q : Path) → x.last_way v flag ≡ passed way → end_alone v way ≡ true → x.last_of v way ≡ passed w
        → x.not_above_before v key w ≡ true → path_to v key ≡ passed q → Extends v flag key (extend-is.Before way w (insert-is.Stop
        (By q) number_is.out_of_sequence))
    unfolding leaves_all extends
    by-look way w q e g l n k = turned way w q _ refl refl refl (record { last = e; alone = g; path = l; under = n; looked = k })

    by-insert : (way : Way) (w q : Path) (i : ℕ) (d : Insert) → x.last_way v flag ≡ passed way → end_alone v way ≡ true → x.last_of v way ≡ passed w
        → x.not_above_before v key w ≡ true → path_to v key ≡ passed q → insert_at v flag q i ≡ passed d → Extends v flag key (extend-is.Before way w d)
    unfolding leaves_all extends
    by-insert way w q i d e g l n k h = go d ((at-plans q i).holds d h)
      where
        go : (d : Insert) → InsertsAt q d → Extends v flag key (extend-is.Before way w d)
        go _ (stop m z) = turned way w q m (rw z) (rw z) (rw z) (record { last = e; alone = g; path = l; under = n; looked = k })
        go _ (room i m s) = put-room way w q i m s
        go _ (split i t m s) = put-split way w q i t m s
        go _ (both i b t m s) = put_both way w q i b t m s

    -- XTEND's plan
    extend-plans : Passed (Extends v flag key) (x.extend_deed v flag key)
    unfolding x.extend_deed x.extend_at x.alone_deed x.look_deed x.insert_before x.last_room x.new_deed x.new_at x.start_deed x.section_deed leaves_all extends
    extend-plans = search (chain, stop, room, new, both, by-look, by-insert, stored) depth 24

module _ (v : Texts) (flag : Bool) (work : List ℕ) where
  seek-done : (l : Look) → look v flag (key_in v.desc work) ≡ passed l
      → Passed (Ends finds (LookedUp v flag (key_in v.desc work)) work) (seek_done v flag work l)
  unfolding seek_done giving leaves_all stops finds
  seek-done (look_is.Found way i) e = search (chain, went)
  seek-done (look_is.Missing w) e = search (chain, stopped, by-missing)

  pub seek-ends : Passed (Ends finds (LookedUp v flag (key_in v.desc work)) work) (seek_steps v flag work)
  unfolding seek_steps
  seek-ends = search (chain, seek-done)

  updat-done : (l : Look) → look v flag (key_in v.desc work) ≡ passed l
      → Passed (Ends finds (LookedUp v flag (key_in v.desc work)) work) (updat_done v flag work l)
  unfolding updat_done storing leaves_all stops finds
  updat-done (look_is.Found way i) e = search (chain, went)
  updat-done (look_is.Missing w) e = search (chain, stopped, by-missing)

  pub updat-ends : Passed (Ends finds (LookedUp v flag (key_in v.desc work)) work) (updat_steps v flag work)
  unfolding updat_steps
  updat-ends = search (chain, updat-done)

  -- ADV
  given-row : (r : Reached) (i : ℕ) → Ends advances Never work (adv_giving v r i)
  unfolding adv_giving giving leaves_all stops advances
  given-row r i = go (is_ones (key_at (detail_shape v.desc) r.buffer i))
    where
      given_by : Bool → Effect
      given_by t = giving v r (cond t number_is.at_end number_is.done) i (not t)

      go : (t : Bool) → Ends advances Never work (given_by t)
      go true = went (given_by true) refl refl refl refl
      go false = went (given_by false) refl refl refl refl

  adv-done : (s : Step) → Passed (Ends advances Never work) (adv_done v flag s)
  unfolding adv_done
  adv-done (step_is.At way i) = search (chain, given-row)
  adv-done (step_is.Beyond w u i) = search (chain, given-row)

  pub adv-ends : (placed : Bool) (at : List ℕ) → Passed (Ends advances Never work) (adv_steps v flag placed at)
  unfolding adv_steps
  adv-ends placed at = search (chain, adv-done)

  -- NSERT
  insert-done : (d : Insert) → Inserts v flag (key_in v.desc work) d
      → Passed (Ends inserts (LookedUp v flag (key_in v.desc work)) work) (insert_done v flag work d)
  unfolding insert_done
  insert-done _ (stop way n o q a l) = search (chain, stopped)
  insert-done _ (room w i n s) = search (chain, went-stored, in-inserts)
  insert-done _ (split w i d n s) = search (chain, went-landed, in-inserts)
  insert-done _ (both w i b d n s) = search (chain, went-landed, in-inserts)

  insert-as : (d : Insert) → insert_deed v flag (key_in v.desc work) ≡ passed d → Inserts v flag (key_in v.desc work) d
  insert-as d e = (insert-plans v flag (key_in v.desc work)).holds d e

  pub nsert-ends : Passed (Ends inserts (LookedUp v flag (key_in v.desc work)) work) (nsert_steps v flag work)
  unfolding nsert_steps
  nsert-ends = search (chain, insert-done, insert-as)

  -- DLETE
  emptied : (moves : List Transfer) (f : List ℕ) → Ends finds (LookedUp v flag (key_in v.desc work)) work (emptying v.desc work moves f)
  unfolding emptying leaves_all stops finds
  emptied moves f = went (emptying v.desc work moves f) refl refl refl refl

  taken_out : (r : Reached) (t : List ℕ) → Ends finds (LookedUp v flag (key_in v.desc work)) work (storing number_is.done work r t)
  unfolding storing leaves_all stops finds
  taken_out r t = went (storing number_is.done work r t) refl refl refl refl

  delete-done : (d : Delete) → Deletes v flag (key_in v.desc work) d
      → Passed (Ends finds (LookedUp v flag (key_in v.desc work)) work) (delete_done v flag work d)
  unfolding delete_done leaves_all finds
  delete-done _ (stop w e) = search (chain, stopped, by-missing)
  delete-done _ (remove way i) = search (chain, taken_out)
  delete-done _ (empty way w head) = search (chain, emptied)
  delete-done _ (both way w head) = search (chain, emptied)

  delete-as : (d : Delete) → delete_deed v flag (key_in v.desc work) ≡ passed d → Deletes v flag (key_in v.desc work) d
  delete-as d e = (deletes v flag (key_in v.desc work)).holds d e

  pub dlete-ends : Passed (Ends finds (LookedUp v flag (key_in v.desc work)) work) (dlete_steps v flag work)
  unfolding dlete_steps
  dlete-ends = search (chain, delete-done, delete-as)

  -- XTEND: what it has stored as NSERT does
  went-with : (n : ℕ) (e : Effect) → Stored n → e.number ≡ n → e.keyed ≡ true → Ends extends (Lasted v flag (key_in v.desc work)) work e
  went-with n e s q k = went e (rw q (in-extends n s)) (rw q s.quiet) (rw q s.other) (k ∙ sym (ap accepted q ∙ s.is))

  extend-done : (d : Extend) → Extends v flag (key_in v.desc work) d → Passed (Ends extends (Lasted v flag (key_in v.desc work)) work)
      (extend_done v flag work d)
  unfolding extend_done insert_done listed stopping storing landing looked_from
  extend-done _ (stop way n o q a l b) = search (chain, stopped, by_last)
  extend-done _ (turned way w q n o r a l) = by-passed _ (stopped n (looked_from v flag way w q) o r a (at-found way w q l refl))
  extend-done _ (put-room way w q i n s) = by-passed _ (went-with n _ s refl refl)
  extend-done _ (put-split way w q i d n s) = by-passed _ (went-with n _ s refl refl)
  extend-done _ (put_both way w q i b d n s) = by-passed _ (went-with n _ s refl refl)
  extend-done _ (room way i n s) = search (chain, went-stored, in-extends)
  extend-done _ (new way w d n s) = search (chain, went-landed, in-extends)
  extend-done _ (both way w b d n s) = search (chain, went-landed, in-extends)

  extend-as : (d : Extend) → x.extend_deed v flag (key_in v.desc work) ≡ passed d → Extends v flag (key_in v.desc work) d
  extend-as d e = (extend-plans v flag (key_in v.desc work)).holds d e

  pub xtend-ends : Passed (Ends extends (Lasted v flag (key_in v.desc work)) work) (xtend_steps v flag work)
  unfolding xtend_steps
  xtend-ends = search (chain, extend-done, extend-as)
