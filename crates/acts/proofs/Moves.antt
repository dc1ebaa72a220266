-- Laws of a buffer written if it is flagged, and of blocks read after it: the count, the file's length, and the current texts, which stay.
use mathlib.Core.Path.{◌≡◌, refl, sym, ap, ◌∙◌}
use mathlib.Core.Bool.{Bool, true, false, cond}
use mathlib.Core.List.{List, [], ◌∷◌, ◌++◌}
use Prim.Native.Nat.{ℕ, ◌+◌, ◌≤◌, ◌<◌}
use native.Mathlib.Decide.{ℕ_discrete}
use native.Mathlib.Omega.{arith}
use lib.ListN.{length, length-append}
use Rattle.drum.specs.declared.Description.{Description}
use Rattle.drum.specs.Params.{file_size, detail_shape}
use Rattle.drum.specs.Blocks.{Fitting, Block, Transfer, Read, Write, written, block_at, put_block, Texts, seen, text_of}
use Rattle.drum.proofs.Blocks.{length-put_block, block-other, text-current, text-other}
use Rattle.numbers.specs.Checked.{passed}
use Rattle.table.specs.Tables.{count, place}
use Rattle.rules.specs.declared.Way.{Way}
use Rattle.rules.specs.declared.Done.{Done}
use Rattle.rules.specs.Lookup.{Reached, flush_moves, bringing, reached, text_at, stopping}
use Rattle.rules.specs.Fits.{FlushFits, WayFits}
use Rattle.rules.specs.Told.{gave, told}
pub use Rattle.rules.proofs.Kept.{row_within, reached-fits, reached-text, way-counts}
use Rattle.acts.specs.Reach.{come}

-- a list of reads leaves the file as it is
abbrev pub OnlyReads : List Transfer → Type 0
OnlyReads [] = Unit {0}
OnlyReads (Read b ∷ moves) = OnlyReads moves
OnlyReads (Write b t ∷ moves) = ⊥

pub written-reads : (p : Description) (moves reads : List Transfer) (f : List ℕ) → OnlyReads reads → written p (moves ++ reads) f ≡ written p moves f
unfolding written
written-reads p [] [] f h = refl
written-reads p [] (Read b ∷ reads) f h = written-reads p [] reads f h
written-reads p [] (Write b t ∷ reads) f h = absurd h
written-reads p (Read b ∷ moves) reads f h = written-reads p moves reads f h
written-reads p (Write b t ∷ moves) reads f h = written-reads p moves reads (put_block p f b t) h

-- how many transfers: one if flagged
pub flush-count : (v : Texts) (flag : Bool) → length (flush_moves v flag) ≡ cond flag 1 0
unfolding flush_moves
flush-count v true = refl
flush-count v false = refl

pub flush-most : (v : Texts) (flag : Bool) → length (flush_moves v flag) ≤ 1
unfolding flush_moves
flush-most v true = omega arith
flush-most v false = omega arith

-- the file after the buffer is written, if it is
module _ (v : Texts) (fit : Fitting v.desc v.file v.buffer) where
  pub length-flushed : (flag : Bool) → FlushFits v flag → length (written v.desc (flush_moves v flag) v.file) ≡ file_size v.desc
  unfolding written flush_moves
  length-flushed true due = length-put_block v.desc v.file fit.file-is v.current (due refl) v.buffer fit.buffer-is
  length-flushed false due = fit.file-is

  pub flushed-fits : (flag : Bool) → FlushFits v flag → Fitting v.desc (written v.desc (flush_moves v flag) v.file) v.buffer
  flushed-fits flag due = record { good = fit.good; file-is = length-flushed flag due; buffer-is = fit.buffer-is }

  pub block-flushed : (flag : Bool) → FlushFits v flag → (b : ℕ) → Block v.desc b → (b ≡ v.current → ⊥)
      → block_at v.desc (written v.desc (flush_moves v flag) v.file) b ≡ block_at v.desc v.file b
  unfolding written flush_moves
  block-flushed true due b h n = block-other v.desc v.file fit.file-is v.current (due refl) v.buffer fit.buffer-is b h n
  block-flushed false due b h n = refl

  pub text-flushed : (flag : Bool) → FlushFits v flag → (b : ℕ) → Block v.desc b
      → text_of (seen v.desc v.current (written v.desc (flush_moves v flag) v.file) v.buffer) b ≡ text_of v b
  text-flushed flag due b h = by (ℕ_discrete b v.current)
    where
      w : Texts
      w = seen v.desc v.current (written v.desc (flush_moves v flag) v.file) v.buffer

      by : Dec (b ≡ v.current) → text_of w b ≡ text_of v b
      by (yes e) = text-current w b e ∙ sym (text-current v b e)
      by (no n) = text-other w b n ∙ block-flushed flag due b h n ∙ sym (text-other v b n)

-- a block brought into the buffer after some blocks were read, the last of them itself
pub come-by : (v : Texts) (flag : Bool) (b : ℕ) (reads : List Transfer) (wrote n : ℕ) (f t : List ℕ)
    → wrote ≡ length (flush_moves v flag) → n ≡ length reads → f ≡ written v.desc (flush_moves v flag) v.file → t ≡ text_of v b → OnlyReads reads
    → record { file = f; current = b; flag = false; buffer = t; transfers = wrote + n } ≡ come (bringing v flag b reads)
unfolding bringing
come-by v flag b reads wrote n f t ew en ef et h =
    let eg : f ≡ written v.desc (flush_moves v flag ++ reads) v.file = ef ∙ sym (written-reads v.desc (flush_moves v flag) reads v.file h) in
    let ec : wrote + n ≡ length (flush_moves v flag ++ reads) = rw (ew, en) (sym (length-append (flush_moves v flag) reads)) in
    λ j. record { file = eg j; current = b; flag = false; buffer = et j; transfers = ec j }

-- a call that stops leaves the workspace, whatever it is
pub stopped : (v : Texts) (flag : Bool) (number : ℕ) (work : List ℕ) (r : Done) (f b : List ℕ) (x : Reached)
    → gave r f b [] ≡ told v flag [] (passed (stopping number [] x)) → gave r f b work ≡ told v flag work (passed (stopping number work x))
unfolding stopping
stopped v flag number work r f b x e =
    λ j. record {
      number = (e j).number;
      transfers = (e j).transfers;
      current = (e j).current;
      flag = (e j).flag;
      keyed = (e j).keyed;
      file = (e j).file;
      buffer = (e j).buffer;
      work = work;
    }

-- a row of the block reached lies in its text
pub row-reached : (v : Texts) → Fitting v.desc v.file v.buffer → (flag : Bool) (way : Way) → WayFits v flag way → (i : ℕ)
    → i < count (detail_shape v.desc) (text_at v way)
    → (b : List ℕ) → b ≡ (reached v flag way).buffer → place (detail_shape v.desc) i + v.desc.wpr ≤ length b
row-reached v fit flag way h i l b e =
    let t : b ≡ text_at v way = e ∙ reached-text v flag way in
    let n : length b ≡ v.desc.wpb = ap length e ∙ (reached-fits v fit flag way h).buffer-is in
    row_within v.desc b i fit.good n (rw t (way-counts v flag way h).1) (rw t l)
