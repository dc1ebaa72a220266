-- A call held as its kind, its key or record in an array of words kept beside: what it does, of whatever it is given.
use Rattle.std.specs.Prelude.{ℕ, ◌+◌, Bool, true, false, cond, ◌&&◌, List, leb, length}
use Rattle.numbers.specs.Numbers.{wrong_size}
use Rattle.words.specs.Words.{part, put}
use Rattle.drum.specs.declared.Description.{Description}
use Rattle.rules.specs.declared.Call.{Call}
use Rattle.rules.specs.declared.Call.TheVariants.{Create, Open, Close, Seek, Adv, Nsert, Dlete, Updat, Xtend}
use Rattle.rules.specs.State.{State, Outcome, desc, lent, unchanged}
use Rattle.rules.specs.Open.{Opened, create, open_file}
use Rattle.rules.specs.Close.{close}
use Rattle.rules.specs.Seek.{seek, updat}
use Rattle.rules.specs.Adv.{adv}
use Rattle.rules.specs.NsertDone.{nsert}
use Rattle.rules.specs.Dlete.{dlete}
use Rattle.rules.specs.XtendDone.{xtend}
use Rattle.rules.specs.Run.{created_outcome}
use Rattle.searchfile.specs.Answers.{Answer}
use Rattle.searchfile.specs.Promise.{CountedOpen, answered}

-- whether what a call carries has room, and the workspace with it
pub record Staged : Type 0 where
  pub fits : Bool
  pub work : List ℕ

-- the same of its two parts
abbrev pub staged_as : Bool → List ℕ → Staged
staged_as fits w = record { fits = fits; work = w }

-- the n words that begin at word `at` of the words beside written over the first n of the workspace w; where the words beside or the workspace
-- have no room for n words there, the workspace stays as it is
unfoldable pub staged : List ℕ → ℕ → ℕ → List ℕ → Staged
staged ws at n w = cond (leb (at + n) (length ws) && leb n (length w)) (staged_as true (put w 0 (part at n ws))) (staged_as false w)

-- the workspace that the call is lent: "the key or record that kind carries" is put into it
unfoldable pub staged_for : List ℕ → Description → List ℕ → Call → Staged
staged_for ws p w Create = staged_as true w
staged_for ws p w Open = staged_as true w
staged_for ws p w Close = staged_as true w
staged_for ws p w (Seek at) = staged ws at p.k w
staged_for ws p w Adv = staged_as true w
staged_for ws p w (Nsert at) = staged ws at p.wpr w
staged_for ws p w (Dlete at) = staged ws at p.k w
staged_for ws p w (Updat at) = staged ws at p.wpr w
staged_for ws p w (Xtend at) = staged ws at p.wpr w

-- a call that is lent no marks leaves them
abbrev pub marked : List ℕ → Outcome → Opened
marked marks o = record { outcome = o; marks = marks }

-- what the call does to what it is lent: CREATE "has no session", so all but the file is as it was
unfoldable pub called : State → List ℕ → Call → Opened
called st marks Create = marked marks (created_outcome st (create (desc st) st.file))
called st marks Open = open_file st marks
called st marks Close = marked marks (close st)
called st marks (Seek at) = marked marks (seek st)
called st marks Adv = marked marks (adv st)
called st marks (Nsert at) = marked marks (nsert st)
called st marks (Dlete at) = marked marks (dlete st)
called st marks (Updat at) = marked marks (updat st)
called st marks (Xtend at) = marked marks (xtend st)

-- the call on the workspace made for it; where its key or record has no room, "slice length wrong": 020007, all unchanged
unfoldable pub called_on : State → List ℕ → Call → Staged → Opened
called_on st marks c g =
    cond g.fits (called (lent st.session st.file st.buffer g.work) marks c) (marked marks (unchanged st wrong_size))

-- "A call is held as its kind with the key or record that kind carries": what it does, and the marks it leaves [O9]
unfoldable pub done : List ℕ → State → List ℕ → Call → Opened
done ws st marks c = called_on st marks c (staged_for ws (desc st) st.work c)

-- what the code gives back, with the words and marks it leaves
abbrev pub performed_as : Answer → List ℕ → List ℕ → List ℕ → List ℕ → CountedOpen
performed_as r f b w m = record { outcome = answered r f b w; marks = m }
