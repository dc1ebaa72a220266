-- What a call leaves in the file alone, on all words: where the flag is on then, the file as it was, or with the buffer put back that the call found.
use Prim.Native.Nat.{ℕ}
use mathlib.Core.Path.{◌≡◌, refl, ◌∙◌}
use mathlib.Core.Bool.{Bool, true, false, cond}
use mathlib.Core.List.{List, [], ◌∷◌, ◌++◌}
use Rattle.numbers.specs.Checked.{Checked, passed, refused}
use Rattle.numbers.proofs.Passed.{Passed, chain}
use Rattle.drum.specs.Blocks.{Texts, Read, written}
use Rattle.drum.proofs.Written.{written-append}
use Rattle.layout.specs.Inspect.{layout_marks}
use Rattle.rules.specs.declared.Way.{Way}
use Rattle.rules.specs.declared.Way.TheVariants.{Here, By}
use Rattle.rules.specs.declared.Look.{Look}
use Rattle.rules.specs.declared.Look.TheVariants as look_is
use Rattle.rules.specs.declared.Step.{Step}
use Rattle.rules.specs.declared.Step.TheVariants as step_is
use Rattle.rules.specs.declared.Insert.{Insert}
use Rattle.rules.specs.declared.Insert.TheVariants as insert-is
use Rattle.rules.specs.declared.Delete.{Delete}
use Rattle.rules.specs.declared.Delete.TheVariants as delete-is
use Rattle.rules.specs.declared.Extend.{Extend}
use Rattle.rules.specs.declared.Extend.TheVariants as extend-is
use Rattle.rules.specs.State.{Session, State, Effect, desc, texts, key_in, holding, positioned, at_rest, outcome, settle}
use Rattle.rules.specs.Checks.{keyed_call}
use Rattle.rules.specs.Lookup.{flush_moves, bringing, reached, stopping, storing, landing}
use Rattle.rules.specs.Open.{open_checks, open_layout, open_done, open_file}
use Rattle.rules.specs.Close.{close_checks, close_done, close}
use Rattle.rules.specs.Seek.{giving, seek_done, seek_steps, seek, updat_done, updat_steps, updat}
use Rattle.rules.specs.Adv.{adv_giving, adv_done, adv_steps, adv}
use Rattle.rules.specs.NsertDone.{insert_done, nsert_steps, nsert}
use Rattle.rules.specs.Dlete.{emptying, delete_done, dlete_steps, dlete}
use Rattle.rules.specs.XtendDone.{reading, listed, extend_done, xtend_steps, xtend}
use Rattle.rules.specs.Requests.{Request, opening, closing, seeking, advancing, inserting, deleting, updating, extending, lending, answer}
use Rattle.demands.specs.Promises.{put_back}

-- of the flag and the file that are left, where v and flag were found
data LeftIn (v : Texts) (found : Bool) (flag : Bool) (file : List ℕ) : Type 0 where
  off : flag ≡ false → LeftIn v found flag file
  as-was : file ≡ v.file → LeftIn v found flag file
  flushed : file ≡ written v.desc (flush_moves v found) v.file → LeftIn v found flag file

abbrev Leaves : Texts → Bool → Effect → Type 0
Leaves v found e = LeftIn v found e.flag e.file

module _ (v : Texts) (flag : Bool) (work : List ℕ) where
  -- reading writes nothing
  reads_two : (a b : ℕ) → written v.desc (flush_moves v flag ++ Read a ∷ Read b ∷ []) v.file ≡ written v.desc (flush_moves v flag) v.file
  unfolding written
  reads_two a b = written-append v.desc (flush_moves v flag) (Read a ∷ Read b ∷ []) v.file

  stop-leaves : (n : ℕ) (way : Way) → Leaves v flag (stopping n work (reached v flag way))
  unfolding stopping reached bringing
  stop-leaves n Here = as-was refl
  stop-leaves n (By w) = off refl

  give-leaves : (n i : ℕ) (k : Bool) (way : Way) → Leaves v flag (giving v (reached v flag way) n i k)
  unfolding giving reached bringing
  give-leaves n i k Here = as-was refl
  give-leaves n i k (By w) = off refl

  store-leaves : (n : ℕ) (way : Way) (t : List ℕ) → Leaves v flag (storing n work (reached v flag way) t)
  unfolding storing reached bringing
  store-leaves n Here t = as-was refl
  store-leaves n (By w) t = flushed (reads_two w.index w.detail)

  last-leaves : (n x : ℕ) (way : Way) → Leaves v flag (stopping n work (reading x (reached v flag way)))
  unfolding stopping reading reached bringing
  last-leaves n x Here = as-was refl
  last-leaves n x (By w) = off refl

  extend-leaves : (n x : ℕ) (way : Way) (t : List ℕ) → Leaves v flag (storing n work (reading x (reached v flag way)) t)
  unfolding storing reading reached bringing
  extend-leaves n x Here t = as-was refl
  extend-leaves n x (By w) t = flushed (reads_two w.index w.detail)

  seek-done : (l : Look) → Passed (Leaves v flag) (seek_done v flag work l)
  unfolding seek_done
  seek-done (look_is.Found way i) = search (chain, give-leaves)
  seek-done (look_is.Missing w) = search (chain, stop-leaves)

  updat-done : (l : Look) → Passed (Leaves v flag) (updat_done v flag work l)
  unfolding updat_done
  updat-done (look_is.Found way i) = search (chain, store-leaves)
  updat-done (look_is.Missing w) = search (chain, stop-leaves)

  adv-done : (s : Step) → Passed (Leaves v flag) (adv_done v flag s)
  unfolding adv_done adv_giving giving bringing
  adv-done (step_is.At way i) = search (chain, give-leaves)
  adv-done (step_is.Beyond w x i) = search (chain, off)

  insert-done : (d : Insert) → Passed (Leaves v flag) (insert_done v flag work d)
  unfolding insert_done landing
  insert-done (insert-is.Stop way n) = search (chain, stop-leaves)
  insert-done (insert-is.Room w i n) = search (chain, store-leaves)
  insert-done (insert-is.Split w i d n) = search (chain, off)
  insert-done (insert-is.Both w i b x n) = search (chain, off)

  delete-done : (d : Delete) → Passed (Leaves v flag) (delete_done v flag work d)
  unfolding delete_done emptying
  delete-done (delete-is.Stop w) = search (chain, stop-leaves)
  delete-done (delete-is.Remove way i) = search (chain, store-leaves)
  delete-done (delete-is.Empty way w head) = search (chain, off)
  delete-done (delete-is.Both way w head) = search (chain, off)

  extend-done : (d : Extend) → Passed (Leaves v flag) (extend_done v flag work d)
  unfolding extend_done landing
  extend-done (extend-is.Stop way x n) = search (chain, last-leaves)
  extend-done (extend-is.Room way x n) = search (chain, extend-leaves)
  extend-done (extend-is.New way w d n) = search (chain, off)
  extend-done (extend-is.Both way w b x n) = search (chain, off)
  extend-done (extend-is.Before way w d) = search (chain, as-insert)
    where
      as-insert : (e t : Effect) → insert_done v flag work d ≡ passed e → Leaves v flag (listed ((reading w.index
          (reached v flag way)).moves ++ t.transfers) e)
      as-insert e t h = unfold listed in (insert-done d).holds e h

-- of the state that a call leaves
pub data LeftBy (st now : State) : Type 0 where
  clean : now.session.flag ≡ false → LeftBy st now
  same : now.file ≡ st.file → LeftBy st now
  put-back : now.file ≡ put_back st → LeftBy st now

module _ (st : State) where
  effect-left : (e : Effect) → Leaves (texts st) st.session.flag e → LeftBy st (outcome st.session e).after
  unfolding outcome holding positioned
  effect-left e (off c) = clean (go e.keyed ∙ c)
    where
      held : Session
      held = holding e.current e.flag st.session

      go : (t : Bool) → (cond t (positioned (key_in (desc st) e.work) held) held).flag ≡ e.flag
      go true = refl
      go false = refl
  effect-left e (as-was c) = same c
  effect-left e (flushed c) = put-back c

  settled-left : (c : Checked Effect) → Passed (Leaves (texts st) st.session.flag) c → LeftBy st (settle st c).after
  unfolding settle
  settled-left (refused n) p = same refl
  settled-left (passed e) p = effect-left e (p.holds e refl)

  keyed-left : (reads : ℕ) (c : Checked Effect) → Passed (Leaves (texts st) st.session.flag) c → LeftBy st (keyed_call reads st c).after
  keyed-left reads c p = settled-left _ (search chain depth 9)

  open-left : (marks : List ℕ) → LeftBy st (open_file st marks).outcome.after
  unfolding open_file open_done open_layout
  open-left marks = go (open_checks st marks)
    where
      tested : (c : Checked (List ℕ)) → LeftBy st (open_layout st c).outcome.after
      tested (refused n) = same refl
      tested (passed m) = same refl

      go : (c : Checked Bool) → LeftBy st (open_done st marks c).outcome.after
      go (refused n) = same refl
      go (passed t) = tested (layout_marks (desc st) st.file)

  close-left : LeftBy st (close st).after
  unfolding close close_done at_rest
  close-left = go (close_checks st)
    where
      go : (c : Checked Bool) → LeftBy st (close_done st c).after
      go (refused n) = same refl
      go (passed t) = clean refl

-- the workspace is no part of it
relent : (st : State) (w : List ℕ) {now : State} → LeftBy (lending w st) now → LeftBy st now
unfolding lending
relent st w (clean c) = clean c
relent st w (same c) = same c
relent st w (put-back c) = put-back c

-- every call
pub left_by_lem : (st : State) (q : Request) → LeftBy st (answer st q).after
unfolding answer lending seek updat nsert dlete xtend adv seek_steps updat_steps nsert_steps dlete_steps xtend_steps adv_steps
left_by_lem st (opening marks) = open-left st marks
left_by_lem st closing = close-left st
left_by_lem st (seeking w) = relent st w (keyed-left (lending w st) (desc st).k _ (search (chain, seek-done)))
left_by_lem st (advancing w) = relent st w (settled-left (lending w st) _ (search (chain, adv-done) depth 9))
left_by_lem st (inserting w) = relent st w (keyed-left (lending w st) (desc st).wpr _ (search (chain, insert-done)))
left_by_lem st (deleting w) = relent st w (keyed-left (lending w st) (desc st).k _ (search (chain, delete-done)))
left_by_lem st (updating w) = relent st w (keyed-left (lending w st) (desc st).wpr _ (search (chain, updat-done)))
left_by_lem st (extending w) = relent st w (keyed-left (lending w st) (desc st).wpr _ (search (chain, extend-done)))
