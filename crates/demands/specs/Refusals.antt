-- What each refusal leaves. Document 01, "Numbers returned (octal)", column "leaves", row by row.
use Rattle.std.specs.Prelude.{ℕ, ◌≡◌, Bool, true, false, ◌||◌, ◌⊎◌, List, [], ◌++◌, eqb}
use Rattle.numbers.specs.Numbers.{wrong_size, already_open, is_closed, wrong_key, bad_file, not_found, out_of_sequence, no_room}
use Rattle.numbers.specs.Checked.{passed}
use Rattle.words.specs.Words.{zeros}
use Rattle.table.specs.Tables.{count}
use Rattle.drum.specs.Params.{detail_shape}
use Rattle.drum.specs.Blocks.{Texts}
use Rattle.rules.specs.declared.Path.{Path}
use Rattle.rules.specs.declared.Way.{Way}
use Rattle.rules.specs.declared.Way.TheVariants.{By}
use Rattle.rules.specs.declared.Look.{Look}
use Rattle.rules.specs.declared.Look.TheVariants.{Found, Missing}
use Rattle.rules.specs.State.{State, Outcome, desc, texts, key_in}
use Rattle.rules.specs.Lookup.{Reached, look, reached, text_at}
use Rattle.rules.specs.Open.{Opened}
use Rattle.rules.specs.Paths.{path_to}
use Rattle.rules.specs.Xtend.{last_way, last_of, not_above_before}
use Rattle.rules.specs.XtendDone.{reading}
use Rattle.rules.specs.Requests.{Request, opening, closing, seeking, advancing, inserting, deleting, updating, extending}

-- 020007, 020006, 020005, 030001: "all unchanged"; 070003: "all unchanged but OPEN's marks; 0 transfers" [N1, N2, N3, N4, N5, T7]
unfoldable pub leaves_all : ℕ → Bool
leaves_all n = eqb n wrong_size || (eqb n already_open || (eqb n is_closed || (eqb n wrong_key || eqb n bad_file)))

-- "all unchanged": the call leaves what it was given, st, and its list of transfers is empty
pub record AllUnchanged (st : State) (o : Outcome) : Type 0 where
  pub session : o.after.session ≡ st.session
  pub file : o.after.file ≡ st.file
  pub buffer : o.after.buffer ≡ st.buffer
  pub work : o.after.work ≡ st.work
  pub transfers : o.transfers ≡ []

-- the call leaves what its first steps came to, r, and no more: file, buffer, current block and flag as they left them, their transfers;
-- "workspace, position kept", and so are the parameters and whether it is open
pub record JustReached (st : State) (r : Reached) (o : Outcome) : Type 0 where
  pub file : o.after.file ≡ r.file
  pub buffer : o.after.buffer ≡ r.buffer
  pub current : o.after.session.current ≡ r.current
  pub flag : o.after.session.flag ≡ r.flag
  pub transfers : o.transfers ≡ r.moves
  pub work : o.after.work ≡ st.work
  pub placed : o.after.session.placed ≡ st.session.placed
  pub position : o.after.session.position ≡ st.session.position
  pub opened : o.after.session.opened ≡ st.session.opened
  pub parameters : o.after.session.desc ≡ st.session.desc

-- the way that a lookup has gone, the key found or not
unfoldable pub way_of : Look → Way
way_of (Found way i) = way
way_of (Missing w) = By w

-- 000001: "lookup done; workspace, position kept": the lookup of the workspace's key [N6]
pub record LookupDone (st : State) (o : Outcome) : Type 0 where
  pub result : Look
  pub looked : look (texts st) st.session.flag (key_in (desc st) st.work) ≡ passed result
  pub leaves : JustReached st (reached (texts st) st.session.flag (way_of result)) o

-- the last block, reached on its way, "holds only the end record" [C24, E2]
abbrev pub end_alone : Texts → Way → Bool
end_alone v way = eqb (count (detail_shape v.desc) (text_at v way)) 1

-- 000005: "last block reached; position kept", where that block has ordinary records [N7]
pub record LastReached (st : State) (o : Outcome) : Type 0 where
  pub way : Way
  pub last : last_way (texts st) st.session.flag ≡ passed way
  pub alone : end_alone (texts st) way ≡ false
  pub leaves : JustReached st (reached (texts st) st.session.flag way) o

-- "the last block is reached as now and a lookup for the key follows": what the lookup reaches, under the transfers of both; a flagged buffer is
-- written once [E2, E3]
unfoldable pub looked_from : Texts → Bool → Way → Path → Path → Reached
looked_from v flag way w q =
    let there = reached v flag (By q) in
    record {
      file = there.file;
      current = there.current;
      flag = there.flag;
      buffer = there.buffer;
      moves = (reading w.index (reached v flag way)).moves ++ (reached v (reached v flag way).flag (By q)).moves;
    }

-- "Where the last block holds only the end record and the key is not above the bound before it": w is the path to that block, q the key's [E2]
pub record LooksBefore (v : Texts) (flag : Bool) (key : List ℕ) (way : Way) (w q : Path) : Type 0 where
  pub last : last_way v flag ≡ passed way
  pub alone : end_alone v way ≡ true
  pub path : last_of v way ≡ passed w
  pub under : not_above_before v key w ≡ true
  pub looked : path_to v key ≡ passed q

-- 000005 there, "the lookup done"; "070002 after that lookup leaves the lookup done" [E3, E7]
pub record LookedBefore (st : State) (o : Outcome) : Type 0 where
  pub way : Way
  pub last : Path
  pub found : Path
  pub looks : LooksBefore (texts st) st.session.flag (key_in (desc st) st.work) way last found
  pub leaves : JustReached st (looked_from (texts st) st.session.flag way last found) o

-- 000001, 000005, 070002 ("as 1 (NSERT) or 5 (XTEND)"): the call ends where its lookup, or the way to the last block, came to [N6, N7, N8]
unfoldable pub stops : ℕ → Bool
stops n = eqb n not_found || (eqb n out_of_sequence || eqb n no_room)

-- what such a call leaves; the others never answer one of these numbers
abbrev pub Stopped : Request → State → Outcome → Type 0
Stopped (opening marks) st o = ⊥
Stopped closing st o = ⊥
Stopped (seeking work) st o = LookupDone st o
Stopped (advancing work) st o = ⊥
Stopped (inserting work) st o = LookupDone st o
Stopped (deleting work) st o = LookupDone st o
Stopped (updating work) st o = LookupDone st o
Stopped (extending work) st o = LastReached st o ⊎ LookedBefore st o

-- the column "leaves" for the call q, which was given st and came to o
pub record Leaves (q : Request) (st : State) (o : Outcome) : Type 0 where
  pub refusal : leaves_all o.number ≡ true → AllUnchanged st o
  pub stop : stops o.number ≡ true → Stopped q st o

-- OPEN's marks, "all unchanged" by 020007 and 020006, and "answering 070003 it leaves all 0" [S6]
pub record LeavesMarks (st : State) (marks : List ℕ) (o : Opened) : Type 0 where
  pub wrong : o.outcome.number ≡ wrong_size → o.marks ≡ marks
  pub already : o.outcome.number ≡ already_open → o.marks ≡ marks
  pub bad : o.outcome.number ≡ bad_file → o.marks ≡ zeros (desc st).n
