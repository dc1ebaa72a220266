-- Document 01, DLETE: "found: remove, flag on. Left empty: .."
use Rattle.std.specs.Prelude.{ℕ, ◌+◌, ◌-◌, Bool, true, false, cond, List, [], ◌∷◌, ◌++◌, eqb, set}
use Rattle.numbers.specs.Numbers.{done, not_found, bad_file}
use Rattle.numbers.specs.Checked.{Checked, passed, refused, ◌>>=◌, ◌>>◌, require, up_to}
use Rattle.words.specs.Words.{zeros}
use Rattle.table.specs.Tables.{count, key_at, removed, replaced}
use Rattle.drum.specs.declared.Description.{Description}
use Rattle.drum.specs.Params.{master_shape, index_shape, detail_shape}
use Rattle.drum.specs.Blocks.{Transfer, Read, Write, written, free_text, Texts, text_of, chain_head}
use Rattle.rules.specs.declared.Path.{Path}
use Rattle.rules.specs.declared.Way.{Way}
use Rattle.rules.specs.declared.Way.TheVariants.{Here, By}
use Rattle.rules.specs.declared.Look.{Look}
use Rattle.rules.specs.declared.Look.TheVariants as look_is
use Rattle.rules.specs.declared.Delete.{Delete}
use Rattle.rules.specs.declared.Delete.TheVariants.{Stop, Remove, Empty, Both}
use Rattle.rules.specs.State.{State, Outcome, Effect, desc, texts, key_in}
use Rattle.rules.specs.Checks.{keyed_call}
use Rattle.rules.specs.Paths.{path_to}
use Rattle.rules.specs.Lookup.{look, reached, text_at, stopping, storing}

-- "Left empty": the block is made the chain's head, so word 1 becomes its link; its index block is emptied too, or not [C18, C20, B9]
unfoldable pub empty_deed : Texts → Way → Path → Checked Delete
empty_deed v way w = do
  head ← up_to v.desc.n (chain_head v.file)
  passed (cond (eqb (count (index_shape v.desc) (text_of v w.index)) 1) (Both way w head) (Empty way w head))

-- the way to the block: the one it was brought by; of a buffered block the one for the key, whose "index entry .. that names another block
-- than the one in the buffer" is bad [C22, B8]
unfoldable pub empty_at : Texts → List ℕ → Way → Checked Delete
empty_at v key (By w) = empty_deed v (By w) w
empty_at v key Here = do
  w ← path_to v key
  require (eqb w.detail v.current) bad_file
  empty_deed v Here w

-- what DLETE will do [C17, C18]
unfoldable pub delete_after : Texts → List ℕ → Look → Checked Delete
delete_after v key (look_is.Missing w) = passed (Stop w)
delete_after v key (look_is.Found way i) = cond (eqb (count (detail_shape v.desc) (text_at v way)) 1) (empty_at v key way) (passed (Remove way i))

-- the lookup, and then what DLETE will do [C17]
unfoldable pub delete_deed : Texts → Bool → List ℕ → Checked Delete
delete_deed v flag key = do
  l ← look v flag key
  delete_after v key l

-- "its entry goes, and if it was the index block's last entry the one before takes its bound": of index text t, entry j [C19]
unfoldable pub entry_gone : Description → ℕ → List ℕ → List ℕ
entry_gone p j t =
    let g = index_shape p in
    removed g j (cond (eqb (j + 1) (count g t)) (replaced g (j - 1) (key_at g t j) t) t)

-- "Write detail, read index, write index: 3.": the emptied block has the link, the index block the text t [C21]
unfoldable pub empty_moves : Description → Path → ℕ → List ℕ → List Transfer
empty_moves p w link t = Write w.detail (free_text p link) ∷ Read w.index ∷ Write w.index t ∷ []

-- the transfers: "its entry goes"; or "An emptied index block is then made the head" [C19, C21]
unfoldable pub empty_all : Texts → Bool → Way → Path → ℕ → List Transfer
empty_all v flag way w head =
    (reached v flag way).moves ++ empty_moves v.desc w head (entry_gone v.desc w.entry (text_of v w.index))

-- the transfers where the index block is emptied too: it gets the block's number as its link [C20, C21]
unfoldable pub both_all : Texts → Bool → Way → Path → ℕ → List Transfer
both_all v flag way w head = (reached v flag way).moves ++ empty_moves v.desc w head (free_text v.desc w.detail)

-- the file then: the block, or the index block, is the chain's head; "and its master entry goes" [C18]
unfoldable pub empty_file : Texts → Bool → Way → Path → ℕ → List ℕ
empty_file v flag way w head = written v.desc (empty_all v flag way w head) (set v.file 1 w.detail)

-- the file where the index block is the chain's head: "and its master entry goes" [C20]
unfoldable pub both_file : Texts → Bool → Way → Path → ℕ → List ℕ
both_file v flag way w head =
    removed (master_shape v.desc) w.section (written v.desc (both_all v flag way w head) (set v.file 1 w.index))

-- "Left empty: buffer zeroed, current 0, flag off" [C18, C33]
unfoldable pub emptying : Description → List ℕ → List Transfer → List ℕ → Effect
emptying p work moves f = record {
  number = done;
  transfers = moves;
  current = 0;
  flag = false;
  keyed = true;
  file = f;
  buffer = zeros p.wpb;
  work = work;
}

-- what DLETE does, of what it will do: "found: remove, flag on. Left empty: .." [C17, C18, C20]
unfoldable pub delete_done : Texts → Bool → List ℕ → Delete → Checked Effect
delete_done v flag work (Stop w) = passed (stopping not_found work (reached v flag (By w)))
delete_done v flag work (Remove way i) =
    let r = reached v flag way in
    passed (storing done work r (removed (detail_shape v.desc) i r.buffer))
delete_done v flag work (Empty way w head) =
    passed (emptying v.desc work (empty_all v flag way w head) (empty_file v flag way w head))
delete_done v flag work (Both way w head) =
    passed (emptying v.desc work (both_all v flag way w head) (both_file v flag way w head))

-- DLETE's steps, after the refusals [C17]
unfoldable pub dlete_steps : Texts → Bool → List ℕ → Checked Effect
dlete_steps v flag work = do
  d ← delete_deed v flag (key_in v.desc work)
  delete_done v flag work d

-- DLETE: 020007, 020005, 030001, and then its steps, which give 070003, 000001 or 0 [C17, N1, N3, N4]
unfoldable pub dlete : State → Outcome
dlete st = keyed_call (desc st).k st (dlete_steps (texts st) st.session.flag st.work)
