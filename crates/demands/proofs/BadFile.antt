-- Every step of a call behind its first refusals, and OPEN's walk through the file, refuse with 070003 alone.
use Prim.Native.Nat.{ℕ, zero, suc, ◌+◌}
use mathlib.Core.Path.{◌≡◌, refl}
use mathlib.Core.Bool.{Bool, true, false}
use mathlib.Core.List.{List}
use lib.Dec.{eqb}
use lib.ListN.{drop}
use Rattle.numbers.specs.Numbers.{bad_file}
use Rattle.numbers.specs.Checked.{Checked, passed, refused, ◌>>=◌, ◌>>◌, require}
use Rattle.words.specs.Words.{all_are}
use Rattle.table.specs.declared.Shape.{Shape}
use Rattle.drum.specs.declared.Description.{Description}
use Rattle.drum.specs.Blocks.{Texts, is_free, link_in, link_place, block_at}
use Rattle.layout.specs.Inspect.{marked, rows_in, detail_held, index_held, through, chain_held, walked, layout_marks}
use Rattle.rules.specs.declared.Which.{Which}
use Rattle.rules.specs.declared.Path.{Path}
use Rattle.rules.specs.declared.Way.{Way}
use Rattle.rules.specs.declared.Way.TheVariants.{Here, By}
use Rattle.rules.specs.declared.Look.{Look}
use Rattle.rules.specs.declared.Look.TheVariants as look_is
use Rattle.rules.specs.declared.Step.{Step}
use Rattle.rules.specs.declared.Step.TheVariants as step_is
use Rattle.rules.specs.declared.Insert.{Insert}
use Rattle.rules.specs.declared.Insert.TheVariants as insert-is
use Rattle.rules.specs.declared.Delete.{Delete}
use Rattle.rules.specs.declared.Delete.TheVariants as delete-is
use Rattle.rules.specs.declared.Extend.{Extend}
use Rattle.rules.specs.declared.Extend.TheVariants as extend-is
use Rattle.rules.specs.Paths.{entry_of, path_at, path_under, path_by}
use Rattle.rules.specs.Lookup.{on_buffer, in_buffer, look, look_outside}
use Rattle.rules.specs.Free.{none_left, granted, take_one, take_two, stored_number}
use Rattle.rules.specs.Seek.{seek_done, seek_steps, updat_done, updat_steps}
use Rattle.rules.specs.Adv.{next_in_buffer, next_path, adv_beyond, adv_at, adv_outside, adv_step, adv_done, adv_steps}
use Rattle.rules.specs.NsertDone.{insert_done, nsert_steps}
use Rattle.rules.specs.Nsert.{room_deed, split_deed, both_deed, insert_at, insert_after, insert_deed}
use Rattle.rules.specs.Dlete.{empty_deed, empty_at, delete_after, delete_deed, delete_done, dlete_steps}
use Rattle.rules.specs.Xtend as x
use Rattle.rules.specs.XtendDone.{extend_done, xtend_steps}
use Rattle.demands.proofs.Refused.{Refuses, of-refused, of-passed, of-bind, of-elim, refusing}

-- 070003
abbrev pub IsBad : ℕ → Type 0
IsBad n = n ≡ bad_file

-- the way to a block
entry-bad : (p : Description) (h : Shape) (most : ℕ) (which : Which) (key t : List ℕ) → Refuses IsBad (entry_of p h most which key t)
unfolding entry_of
entry-bad p h most which key t = search refusing depth 9

path-bad : (v : Texts) (top which : Which) (key : List ℕ) → Refuses IsBad (path_by v top which key)
unfolding path_by path_under path_at
path-bad v top which key = search (refusing, entry-bad) depth 12

-- the lookup
buffer-bad : (v : Texts) (test : Bool) → Refuses IsBad (on_buffer v test)
unfolding on_buffer
buffer-bad v test = search refusing depth 9

look-bad : (v : Texts) (flag : Bool) (key : List ℕ) → Refuses IsBad (look v flag key)
unfolding look in_buffer look_outside
look-bad v flag key = search (refusing, buffer-bad, path-bad) depth 9

-- SEEK and UPDAT
seek-done-bad : (v : Texts) (flag : Bool) (work : List ℕ) (l : Look) → Refuses IsBad (seek_done v flag work l)
unfolding seek_done
seek-done-bad v flag work (look_is.Found way i) = search refusing
seek-done-bad v flag work (look_is.Missing w) = search refusing

pub seek-bad : (v : Texts) (flag : Bool) (work : List ℕ) → Refuses IsBad (seek_steps v flag work)
unfolding seek_steps
seek-bad v flag work = search (refusing, look-bad, seek-done-bad)

updat-done-bad : (v : Texts) (flag : Bool) (work : List ℕ) (l : Look) → Refuses IsBad (updat_done v flag work l)
unfolding updat_done
updat-done-bad v flag work (look_is.Found way i) = search refusing
updat-done-bad v flag work (look_is.Missing w) = search refusing

pub updat-bad : (v : Texts) (flag : Bool) (work : List ℕ) → Refuses IsBad (updat_steps v flag work)
unfolding updat_steps
updat-bad v flag work = search (refusing, look-bad, updat-done-bad)

-- new blocks
none-bad : (p : Description) (head lowest : ℕ) → Refuses IsBad (none_left p head lowest)
unfolding none_left
none-bad p head lowest = search refusing depth 9

granted-bad : (v : Texts) (head lowest : ℕ) → Refuses IsBad (granted v head lowest)
unfolding granted
granted-bad v head lowest = search (refusing, none-bad) depth 9

one-bad : (v : Texts) (flag : Bool) (w : Path) → Refuses IsBad (take_one v flag w)
unfolding take_one
one-bad v flag w = search (refusing, granted-bad) depth 9

two-bad : (v : Texts) (flag : Bool) (w : Path) → Refuses IsBad (take_two v flag w)
unfolding take_two
two-bad v flag w = search (refusing, granted-bad) depth 14

stored-bad : (p : Description) (n head lowest : ℕ) → Refuses IsBad (stored_number p n head lowest)
unfolding stored_number
stored-bad p n head lowest = search (refusing, none-bad) depth 9

-- ADV
step-bad : (v : Texts) (flag placed : Bool) (at : List ℕ) → Refuses IsBad (adv_step v flag placed at)
unfolding adv_step next_in_buffer adv_outside adv_at adv_beyond next_path
step-bad v flag false at = search (refusing, path-bad) depth 12
step-bad v flag true at = search (refusing, buffer-bad, path-bad) depth 14

adv-done-bad : (v : Texts) (flag : Bool) (s : Step) → Refuses IsBad (adv_done v flag s)
unfolding adv_done
adv-done-bad v flag (step_is.At way i) = search refusing
adv-done-bad v flag (step_is.Beyond w u i) = search refusing

pub adv-bad : (v : Texts) (flag placed : Bool) (at : List ℕ) → Refuses IsBad (adv_steps v flag placed at)
unfolding adv_steps
adv-bad v flag placed at = search (refusing, step-bad, adv-done-bad)

-- NSERT
insert-bad : (v : Texts) (flag : Bool) (key : List ℕ) (l : Look) → Refuses IsBad (insert_after v flag key l)
unfolding insert_after insert_at room_deed split_deed both_deed
insert-bad v flag key (look_is.Found way i) = search refusing
insert-bad v flag key (look_is.Missing w) = search (refusing, one-bad, two-bad, stored-bad) depth 14

insert-at-bad : (v : Texts) (flag : Bool) (w : Path) (i : ℕ) → Refuses IsBad (insert_at v flag w i)
unfolding insert_at room_deed split_deed both_deed
insert-at-bad v flag w i = search (refusing, one-bad, two-bad, stored-bad) depth 14

nsert-deed-bad : (v : Texts) (flag : Bool) (key : List ℕ) → Refuses IsBad (insert_deed v flag key)
unfolding insert_deed
nsert-deed-bad v flag key = search (refusing, look-bad, insert-bad)

insert-done-bad : (v : Texts) (flag : Bool) (work : List ℕ) (d : Insert) → Refuses IsBad (insert_done v flag work d)
unfolding insert_done
insert-done-bad v flag work (insert-is.Stop way n) = search refusing
insert-done-bad v flag work (insert-is.Room w i n) = search refusing
insert-done-bad v flag work (insert-is.Split w i d n) = search refusing
insert-done-bad v flag work (insert-is.Both w i b d n) = search refusing

pub nsert-bad : (v : Texts) (flag : Bool) (work : List ℕ) → Refuses IsBad (nsert_steps v flag work)
unfolding nsert_steps
nsert-bad v flag work = search (refusing, nsert-deed-bad, insert-done-bad)

-- DLETE
delete-bad : (v : Texts) (key : List ℕ) (l : Look) → Refuses IsBad (delete_after v key l)
unfolding delete_after empty_at empty_deed
delete-bad v key (look_is.Missing w) = search refusing
delete-bad v key (look_is.Found Here i) = search (refusing, path-bad) depth 12
delete-bad v key (look_is.Found (By w) i) = search refusing depth 12

dlete-deed-bad : (v : Texts) (flag : Bool) (key : List ℕ) → Refuses IsBad (delete_deed v flag key)
unfolding delete_deed
dlete-deed-bad v flag key = search (refusing, look-bad, delete-bad)

delete-done-bad : (v : Texts) (flag : Bool) (work : List ℕ) (d : Delete) → Refuses IsBad (delete_done v flag work d)
unfolding delete_done
delete-done-bad v flag work (delete-is.Stop w) = search refusing
delete-done-bad v flag work (delete-is.Remove way i) = search refusing
delete-done-bad v flag work (delete-is.Empty way w head) = search refusing
delete-done-bad v flag work (delete-is.Both way w head) = search refusing

pub dlete-bad : (v : Texts) (flag : Bool) (work : List ℕ) → Refuses IsBad (dlete_steps v flag work)
unfolding dlete_steps
dlete-bad v flag work = search (refusing, dlete-deed-bad, delete-done-bad)

-- XTEND
last-bad : (v : Texts) (flag : Bool) → Refuses IsBad (x.last_way v flag)
unfolding x.last_way x.last_outside
last-bad v flag = search (refusing, buffer-bad, path-bad) depth 9

last_of-bad : (v : Texts) (way : Way) → Refuses IsBad (x.last_of v way)
unfolding x.last_of
last_of-bad v Here = search (refusing, path-bad)
last_of-bad v (By w) = search refusing

extend-bad : (v : Texts) (flag : Bool) (key : List ℕ) (way : Way) → Refuses IsBad (x.extend_at v flag key way)
unfolding x.extend_at x.alone_deed x.look_deed x.insert_before x.last_room x.new_deed x.new_at x.start_deed x.section_deed
extend-bad v flag key way = search (refusing, last_of-bad, path-bad, insert-at-bad, one-bad, two-bad, stored-bad) depth 18

xtend-deed-bad : (v : Texts) (flag : Bool) (key : List ℕ) → Refuses IsBad (x.extend_deed v flag key)
unfolding x.extend_deed
xtend-deed-bad v flag key = search (refusing, last-bad, extend-bad)

extend-done-bad : (v : Texts) (flag : Bool) (work : List ℕ) (d : Extend) → Refuses IsBad (extend_done v flag work d)
unfolding extend_done
extend-done-bad v flag work (extend-is.Stop way i n) = search refusing
extend-done-bad v flag work (extend-is.Room way i n) = search refusing
extend-done-bad v flag work (extend-is.New way w d n) = search refusing
extend-done-bad v flag work (extend-is.Both way w b d n) = search refusing
extend-done-bad v flag work (extend-is.Before way w d) = search (refusing, insert-done-bad)

pub xtend-bad : (v : Texts) (flag : Bool) (work : List ℕ) → Refuses IsBad (xtend_steps v flag work)
unfolding xtend_steps
xtend-bad v flag work = search (refusing, xtend-deed-bad, extend-done-bad)

-- OPEN's walk
through-bad : (step : ℕ → ℕ → List ℕ → Checked (List ℕ)) → ((low e : ℕ) (marks : List ℕ) → Refuses IsBad (step low e marks))
    → (stride low e n : ℕ) (marks : List ℕ) → Refuses IsBad (through step stride low e n marks)
unfolding through
through-bad step h stride low e zero marks = of-passed marks
through-bad step h stride low e (suc n) marks =
    of-bind (step low e marks) (λ ms. through step stride e (e + stride) n ms) (h low e marks) (λ ms. through-bad step h stride e (e + stride) n ms)

detail-bad : (p : Description) (f : List ℕ) (low e : ℕ) (marks : List ℕ) → Refuses IsBad (detail_held p f low e marks)
unfolding detail_held marked rows_in
detail-bad p f low e marks = search refusing depth 12

index-bad : (p : Description) (f : List ℕ) (low e : ℕ) (marks : List ℕ) → Refuses IsBad (index_held p f low e marks)
unfolding index_held marked rows_in
index-bad p f low e marks = search (refusing, through-bad, detail-bad) depth 12

chain-bad : (p : Description) (f : List ℕ) (fuel b : ℕ) (marks : List ℕ) → Refuses IsBad (chain_held p f fuel b marks)
unfolding chain_held marked
chain-bad p f zero b marks = of-elim (eqb b 0) (passed marks) (refused bad_file) (of-passed marks) (of-refused bad_file refl)
chain-bad p f (suc fuel) b marks =
    of-elim (eqb b 0) (passed marks) (do
      ms ← marked 2 b marks
      require (is_free p (block_at p f b)) bad_file
      require (all_are 0 (drop (link_place p + 1) (block_at p f b))) bad_file
      chain_held p f fuel (link_in p (block_at p f b)) ms)
    (of-passed marks)
    (let rest : (ms : List ℕ) → Refuses IsBad (chain_held p f fuel (link_in p (block_at p f b)) ms) = λ ms. chain-bad p f fuel (link_in p (block_at p f b)) ms in
    search refusing depth 12)

pub walk-bad : (p : Description) (f : List ℕ) → Refuses IsBad (layout_marks p f)
unfolding layout_marks walked
walk-bad p f = search (refusing, through-bad, index-bad, chain-bad) depth 14
