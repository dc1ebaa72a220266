-- Document 01, "Lookup": what it comes to, and what it moves.
use Rattle.std.specs.Prelude.{ℕ, Bool, true, false, cond, not, ◌||◌, List, [], ◌∷◌, ◌++◌, ltb, eqb}
use Rattle.numbers.specs.Numbers.{bad_file}
use Rattle.numbers.specs.Checked.{Checked, passed, ◌>>=◌, ◌>>◌, require, within, between}
use Rattle.table.specs.Tables.{count, row_with}
use Rattle.drum.specs.declared.Description.{Description}
use Rattle.drum.specs.Params.{D, detail_shape}
use Rattle.drum.specs.Blocks.{Transfer, Read, Write, written, block_at, Texts, text_of}
use Rattle.rules.specs.declared.Path.{Path}
use Rattle.rules.specs.declared.Way.{Way}
use Rattle.rules.specs.declared.Way.TheVariants.{Here, By}
use Rattle.rules.specs.declared.Look.{Look}
use Rattle.rules.specs.declared.Look.TheVariants.{Found, Missing}
use Rattle.rules.specs.State.{Effect}
use Rattle.rules.specs.Paths.{path_to}

-- "While current is 0 no block is buffered, and every test of the buffer's keys below fails, whatever its words": else the test, made on a
-- block whose number and count are checked [S3, B2]
unfoldable pub on_buffer : Texts → Bool → Checked Bool
on_buffer v test =
    cond (eqb v.current 0) (passed false) (do
      within 1 v.desc.n v.current
      within 1 (D v.desc) (count (detail_shape v.desc) v.buffer)
      passed test)

-- the block that a flagged buffer is written to has a good number [B2]
abbrev pub flush_ok : Texts → Bool → Bool
flush_ok v flag = not flag || between 1 v.desc.n v.current

-- "Key in the buffered block: 0." [C1]
unfoldable pub in_buffer : Texts → List ℕ → Checked Bool
in_buffer v key = on_buffer v (ltb (row_with (detail_shape v.desc) key v.buffer) (count (detail_shape v.desc) v.buffer))

-- where the key is in the block at the end of the way w [C2]
abbrev pub look_at : Texts → List ℕ → Path → Look
look_at v key w =
    let t = text_of v w.detail in
    let i = row_with (detail_shape v.desc) key t in
    cond (ltb i (count (detail_shape v.desc) t)) (Found (By w) i) (Missing w)

-- "Else write the buffer if flagged (1) ..; read the index block .. (1); read the detail block .. (1)." [C2]
unfoldable pub look_outside : Texts → Bool → List ℕ → Checked Look
look_outside v flag key = do
  w ← path_to v key
  require (flush_ok v flag) bad_file
  passed (look_at v key w)

-- the lookup: in the buffered block, or else outside [C1, C2]
unfoldable pub look : Texts → Bool → List ℕ → Checked Look
look v flag key = do
  here ← in_buffer v key
  cond here (passed (Found Here (row_with (detail_shape v.desc) key v.buffer))) (look_outside v flag key)

-- "write the buffer if flagged (1)" [T6]
unfoldable pub flush_moves : Texts → Bool → List Transfer
flush_moves v flag = cond flag (Write v.current v.buffer ∷ []) []

-- what some steps come to: the words of file and buffer, the current block and the flag, and the transfers made
pub record Reached : Type 0 where
  pub file : List ℕ
  pub current : ℕ
  pub flag : Bool
  pub buffer : List ℕ
  pub moves : List Transfer

-- "write the buffer if flagged (1) and clear the flag", then some blocks are read, b the last: its current text is in the buffer [T5, T6]
unfoldable pub bringing : Texts → Bool → ℕ → List Transfer → Reached
bringing v flag b reads = record {
  file = written v.desc (flush_moves v flag ++ reads) v.file;
  current = b;
  flag = false;
  buffer = text_of v b;
  moves = flush_moves v flag ++ reads;
}

-- a block reached on its way: nothing moves, or "write the buffer if flagged ..; read the index block ..; read the detail block .." [C2, T3]
unfoldable pub reached : Texts → Bool → Way → Reached
reached v flag Here = record { file = v.file; current = v.current; flag = flag; buffer = v.buffer; moves = [] }
reached v flag (By w) = bringing v flag w.detail (Read w.index ∷ Read w.detail ∷ [])

-- the text of that block, as the buffer then holds it
abbrev pub text_at : Texts → Way → List ℕ
text_at v Here = v.buffer
text_at v (By w) = text_of v w.detail

-- the call ends as the steps left things: "lookup done; workspace, position kept" [N6, N7, N8]
unfoldable pub stopping : ℕ → List ℕ → Reached → Effect
stopping number work r = record {
  number = number;
  transfers = r.moves;
  current = r.current;
  flag = r.flag;
  keyed = false;
  file = r.file;
  buffer = r.buffer;
  work = work;
}

-- the call stores in the buffered block, which is then t: "flag on, position = key" [C4, C11, C17, C26, C33]
unfoldable pub storing : ℕ → List ℕ → Reached → List ℕ → Effect
storing number work r t = record {
  number = number;
  transfers = r.moves;
  current = r.current;
  flag = true;
  keyed = true;
  file = r.file;
  buffer = t;
  work = work;
}

-- the call has written blocks anew, and then holds block b of the file f: "The buffer then holds .., flag off.", position = key [C16, C30, C33]
unfoldable pub landing : Description → ℕ → List ℕ → List Transfer → ℕ → List ℕ → Effect
landing p number work moves b f = record {
  number = number;
  transfers = moves;
  current = b;
  flag = false;
  keyed = true;
  file = f;
  buffer = block_at p f b;
  work = work;
}
