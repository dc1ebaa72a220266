-- Document 01, "One session, printed": calls held as their kind, the words beside, and what is printed of each.
use Rattle.std.specs.Prelude.{ℕ, Bool, false, cond, ◌||◌, List, [], ◌∷◌, eqb, length}
use Rattle.numbers.specs.Numbers.{done, at_end}
use Rattle.words.specs.Words.{part, put, zeros}
use Rattle.drum.specs.declared.Description.{Description}
use Rattle.drum.specs.Params.{file_size}
use Rattle.rules.specs.declared.Call.{Call}
use Rattle.rules.specs.declared.Call.TheVariants.{Create, Open, Close, Seek, Adv, Nsert, Dlete, Updat, Xtend}
use Rattle.rules.specs.State.{State, Outcome, desc, lent}
use Rattle.rules.specs.Open.{Created, create}
use Rattle.rules.specs.Requests.{opening, closing, seeking, advancing, inserting, deleting, updating, extending, answer}

-- a closed session over a file, a buffer and a workspace of zeros [O9]
unfoldable pub begun : Description → State
begun p =
    lent
    (record { desc = p; opened = false; current = 0; flag = false; placed = false; position = zeros 63 })
    (zeros (file_size p))
    (zeros p.wpb)
    (zeros p.wpr)

-- CREATE "has no session": the file is new, and all else as it was [S8, T2]
unfoldable pub created_outcome : State → Created → Outcome
created_outcome st c =
    record { number = c.number; transfers = []; after = lent st.session c.file st.buffer st.work }

-- the workspace with the key, or the record, that begins at word `at` of the words beside [O9]
unfoldable pub key_from : List ℕ → State → ℕ → List ℕ
key_from ws st at = put st.work 0 (part at (desc st).k ws)

-- the same with the record [O9]
unfoldable pub record_from : List ℕ → State → ℕ → List ℕ
record_from ws st at = put st.work 0 (part at (desc st).wpr ws)

-- "A call is held as its kind with the key or record that kind carries": what it does [O9]
unfoldable pub perform : List ℕ → State → Call → Outcome
perform ws st Create = created_outcome st (create (desc st) st.file)
perform ws st Open = answer st (opening (zeros (desc st).n))
perform ws st Close = answer st closing
perform ws st (Seek at) = answer st (seeking (key_from ws st at))
perform ws st Adv = answer st (advancing st.work)
perform ws st (Nsert at) = answer st (inserting (record_from ws st at))
perform ws st (Dlete at) = answer st (deleting (key_from ws st at))
perform ws st (Updat at) = answer st (updating (record_from ws st at))
perform ws st (Xtend at) = answer st (extending (record_from ws st at))

-- a line: "number as six octal digits, transfers, and for SEEK and ADV answering 0 or 030002 the workspace" [O5]
pub record Line : Type 0 where
  pub number : ℕ
  pub count : ℕ
  pub shown : List ℕ

-- "for SEEK and ADV answering 0 or 030002" [O5]
unfoldable pub shows : Call → ℕ → Bool
shows Create n = false
shows Open n = false
shows Close n = false
shows (Seek at) n = eqb n done || eqb n at_end
shows Adv n = eqb n done || eqb n at_end
shows (Nsert at) n = false
shows (Dlete at) n = false
shows (Updat at) n = false
shows (Xtend at) n = false

-- the line of a call that came to o [O5]
unfoldable pub line_of : Call → Outcome → Line
line_of c o = record {
  number = o.number;
  count = length o.transfers;
  shown = cond (shows c o.number) o.after.work [];
}

-- the lines of a run of calls, and the state it leaves [O5]
unfoldable pub printed : List ℕ → State → List Call → List Line
printed ws st [] = []
printed ws st (c ∷ cs) = let o = perform ws st c in line_of c o ∷ printed ws o.after cs

-- the state that a run of calls leaves [O9]
unfoldable pub ended : List ℕ → State → List Call → State
ended ws st [] = st
ended ws st (c ∷ cs) = ended ws (perform ws st c).after cs
