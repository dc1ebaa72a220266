-- Every call keeps the length of every slice it is lent; and "no block of the file changes unless that list writes it", on all inputs.
use Prim.Native.Nat.{ℕ}
use mathlib.Core.Path.{◌≡◌, refl, sym, ◌∙◌}
use mathlib.Core.Bool.{Bool, true, false, cond}
use mathlib.Core.List.{List}
use native.Mathlib.Omega.{arith}
use borrow.Author.Tests.{eqb-true}
use lib.ListN.{length, length-replicate}
use Rattle.numbers.specs.Numbers as number_is
use Rattle.numbers.specs.Checked.{Checked, passed, refused, ◌>>◌, require}
use Rattle.words.specs.Words.{put}
use Rattle.words.proofs.Parts.{length_part, length-put}
use Rattle.drum.specs.Blocks.{writes, block_at, Fitting, Block}
use Rattle.drum.proofs.Good.{caps, sized-facts}
use Rattle.drum.proofs.Written.{length-written, only-written}
use Rattle.layout.specs.Inspect.{layout_marks}
use Rattle.rules.specs.State.{Session, State, Outcome, Effect, desc, texts, key_in, holding, positioned, at_rest, outcome, unchanged, settle}
use Rattle.rules.specs.Checks.{sizes_ok, work_ok, is_open, keyed_call}
use Rattle.rules.specs.Lookup.{flush_ok, flush_moves}
use Rattle.rules.specs.Open.{open_checks, open_layout, open_done, open_file}
use Rattle.rules.specs.Close.{close_checks, close_done, close}
use Rattle.rules.specs.Seek.{seek, updat}
use Rattle.rules.specs.Adv.{adv}
use Rattle.rules.specs.NsertDone.{nsert}
use Rattle.rules.specs.Dlete.{dlete}
use Rattle.rules.specs.XtendDone.{xtend}
use Rattle.rules.specs.Requests.{Request, opening, closing, seeking, advancing, inserting, deleting, updating, extending, answer, given, lending}
use Rattle.rules.specs.Fits.{FlushFits}
use Rattle.demands.specs.Lengths.{SameLengths}
use Rattle.numbers.proofs.Passed.{Passed, chain, required}
use Rattle.rules.proofs.Fits.{flush-due}
use Rattle.rules.proofs.Kept.{Kept, flush-moves, seek-kept, updat-kept, adv-kept}
use Rattle.rules.proofs.NsertKept.{nsert-kept}
use Rattle.rules.proofs.DleteKept.{dlete-kept}
use Rattle.rules.proofs.XtendKept.{xtend-kept}

-- what holds of every outcome
record Sure (st : State) (o : Outcome) : Type 0 where
  lengths : SameLengths st o.after
  only : (b : ℕ) → Block (desc st) b → writes o.transfers b ≡ false → block_at (desc st) o.after.file b ≡ block_at (desc st) st.file b

same-lengths : (st : State) → SameLengths st st
same-lengths st = record { file = refl; buffer = refl; work = refl; position = λ e. e }

sure-refused : (st : State) (n : ℕ) → Sure st (unchanged st n)
sure-refused st n = record { lengths = same-lengths st; only = λ b k e. refl }

-- the effect of steps on the state of a call
record Held (st : State) (e : Effect) : Type 0 where
  file : length e.file ≡ length st.file
  buffer : length e.buffer ≡ length st.buffer
  work : length e.work ≡ length st.work
  key : length st.session.position ≡ 63 → length (put st.session.position 0 (key_in (desc st) e.work)) ≡ 63
  only : (b : ℕ) → Block (desc st) b → writes e.transfers b ≡ false → block_at (desc st) e.file b ≡ block_at (desc st) st.file b

abbrev Fits : State → Type 0
Fits st = Fitting (desc st) st.file st.buffer

fitting : (st : State) (a : Bool) → sizes_ok st ≡ passed a → Fits st
unfolding sizes_ok
fitting st a e =
    let s = sized-facts (desc st) (length st.file) (length st.buffer) (required _ number_is.wrong_size a e) in
    record { good = s.good; file-is = s.file-is; buffer-is = s.buffer-is }

lent-work : (st : State) (a : Bool) → work_ok st ≡ passed a → length st.work ≡ (desc st).wpr
unfolding work_ok
lent-work st a e = eqb-true (length st.work) (desc st).wpr (required _ number_is.wrong_size a e)

module _ (st : State) where
  held : (e : Effect) → Fits st → length st.work ≡ (desc st).wpr → Kept (texts st) e → Held st e
  held e f w k = record {
    file = k.file-is ∙ sym f.file-is;
    buffer = k.buffer-is ∙ sym f.buffer-is;
    work = k.work-is ∙ sym w;
    key = λ h.
        let g = (caps (desc st) f.good).facts in
        let x = k.work-is in
        let l = length_part 0 (desc st).k e.work (omega arith) in
        length-put st.session.position 0 (key_in (desc st) e.work) (omega arith) ∙ h;
    only = k.only;
  }

  sure-effect : (e : Effect) → Held st e → Sure st (outcome st.session e)
  unfolding outcome holding positioned
  sure-effect e h = record {
    lengths = record {
      file = h.file;
      buffer = h.buffer;
      work = h.work;
      position =
          λ l. go e.keyed (positioned (key_in (desc st) e.work) (holding e.current e.flag st.session))
          (holding e.current e.flag st.session) (h.key l) l;
    };
    only = h.only;
  }
    where
      go : (t : Bool) (a b : Session) → length a.position ≡ 63 → length b.position ≡ 63 → length (cond t a b).position ≡ 63
      go true a b x y = x
      go false a b x y = y

  settled : (c : Checked Effect) → Passed (Held st) c → Sure st (settle st c)
  unfolding settle
  settled (refused n) p = sure-refused st n
  settled (passed e) p = sure-effect e (p.holds e refl)

  -- the steps, behind the refusals
  module _ (c : Checked Effect) (steps : Fits st → length st.work ≡ (desc st).wpr → Passed (Kept (texts st)) c) where
    after : (a b : Bool) → sizes_ok st ≡ passed a → work_ok st ≡ passed b → Passed (Held st) c
    after a b e g =
        let f = fitting st a e in
        let w = lent-work st b g in
        record { holds = λ x q. held x f w ((steps f w).holds x q) }

    keyed : (reads : ℕ) → Sure st (keyed_call reads st c)
    keyed reads = settled _ (search (chain, after) depth 9)

    unkeyed : Sure st (settle st do
      sizes_ok st
      work_ok st
      is_open st
      c)
    unkeyed = settled _ (search (chain, after) depth 9)

  open-sure : (marks : List ℕ) → Sure st (open_file st marks).outcome
  unfolding open_file open_done open_layout at_rest
  open-sure marks = go (open_checks st marks)
    where
      walk : (c : Checked (List ℕ)) → Sure st (open_layout st c).outcome
      walk (refused n) = sure-refused st n
      walk (passed ms) =
          record { lengths = record { file = refl; buffer = refl; work = refl; position = λ e. length-replicate {A = ℕ} 63 0 }; only = λ b k e. refl }

      go : (c : Checked Bool) → Sure st (open_done st marks c).outcome
      go (refused n) = sure-refused st n
      go (passed x) = walk (layout_marks (desc st) st.file)

  -- what CLOSE has passed
  record Closing (x : Bool) : Type 0 where
    fits : Fits st
    due : FlushFits (texts st) st.session.flag

  closing-fits : (a x : Bool) → sizes_ok st ≡ passed a → require (flush_ok (texts st) st.session.flag) number_is.bad_file ≡ passed x → Closing x
  closing-fits a x e g = record { fits = fitting st a e; due = flush-due (texts st) st.session.flag x g }

  close-checked : Passed Closing (close_checks st)
  unfolding close_checks
  close-checked = search (chain, last)
    where
      last : (a : Bool) → sizes_ok st ≡ passed a → Passed Closing (require (flush_ok (texts st) st.session.flag) number_is.bad_file)
      last a e = record { holds = λ x h. closing-fits a x e h }

  close-sure : Sure st (close st)
  unfolding close close_done at_rest
  close-sure = go (close_checks st) close-checked
    where
      go : (c : Checked Bool) → Passed Closing c → Sure st (close_done st c)
      go (refused n) p = sure-refused st n
      go (passed x) p =
          let q = p.holds x refl in
          let m = flush-moves (texts st) q.fits st.session.flag q.due in
          record {
            lengths = record {
              file = length-written (desc st) st.file q.fits.file-is (flush_moves (texts st) st.session.flag) m ∙ sym q.fits.file-is;
              buffer = refl;
              work = refl;
              position = λ e. length-replicate {A = ℕ} 63 0;
            };
            only = only-written (desc st) st.file q.fits.file-is (flush_moves (texts st) st.session.flag) m;
          }

-- every call, on every state
sure : (st : State) (q : Request) → Sure (given st q) (answer st q)
unfolding answer given lending seek updat nsert dlete xtend adv
sure st (opening marks) = open-sure st marks
sure st closing = close-sure st
sure st (seeking w) = keyed (lending w st) _ (λ f l. seek-kept _ f _ w l) (desc st).k
sure st (advancing w) = unkeyed (lending w st) _ (λ f l. adv-kept _ f _ w l _ _)
sure st (inserting w) = keyed (lending w st) _ (λ f l. nsert-kept _ f _ w l) (desc st).wpr
sure st (deleting w) = keyed (lending w st) _ (λ f l. dlete-kept _ f _ w l) (desc st).k
sure st (updating w) = keyed (lending w st) _ (λ f l. updat-kept _ f _ w l) (desc st).wpr
sure st (extending w) = keyed (lending w st) _ (λ f l. xtend-kept _ f _ w l) (desc st).wpr

-- every call keeps the lengths
pub lengths-kept : (st : State) (q : Request) → SameLengths (given st q) (answer st q).after
lengths-kept st q = (sure st q).lengths

-- a block of the file that a call's list of transfers does not write is as it was
pub only-written-changes : (st : State) (q : Request) (b : ℕ) → Block (desc (given st q)) b → writes (answer st q).transfers b ≡ false
    → block_at (desc (given st q)) (answer st q).after.file b ≡ block_at (desc (given st q)) (given st q).file b
only-written-changes st q b k e = (sure st q).only b k e
