-- What DLETE has stored on the way: texts between those that document 01 names.
use Rattle.std.specs.Prelude.{ℕ, ◌+◌, ◌-◌, Bool, cond, List, eqb}
use Rattle.table.specs.Tables.{count, key_at, replaced}
use Rattle.drum.specs.declared.Description.{Description}
use Rattle.drum.specs.Params.{index_shape}
use Rattle.drum.specs.Blocks.{put_block, written, free_text, Texts, text_of}
use Rattle.rules.specs.declared.Path.{Path}
use Rattle.rules.specs.declared.Way.{Way}
use Rattle.rules.specs.Lookup.{reached}

-- "if it was the index block's last entry the one before takes its bound": of index text t, entry j, which is still there
unfoldable pub handed : Description → ℕ → List ℕ → List ℕ
handed p j t =
    let g = index_shape p in
    cond (eqb (j + 1) (count g t)) (replaced g (j - 1) (key_at g t j) t) t

-- the file after the steps of the way, with the index block's current text in it, which may stand in the buffer alone, and with the
-- emptied block, which has the link
unfoldable pub freed : Texts → Bool → Way → Path → ℕ → List ℕ
freed v flag way w link =
    let p = v.desc in
    put_block p (put_block p (written p (reached v flag way).moves v.file) w.index (text_of v w.index)) w.detail (free_text p link)
