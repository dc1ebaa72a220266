-- What ADV gives back of a record.
use Rattle.std.specs.Prelude.{ℕ, cond, not, List}
use Rattle.numbers.specs.Numbers.{done, at_end}
use Rattle.words.specs.Keys.{is_ones}
use Rattle.table.specs.Tables.{key_at}
use Rattle.drum.specs.declared.Description.{Description}
use Rattle.drum.specs.Params.{detail_shape}
use Rattle.rules.specs.declared.Done.{Done}
use Rattle.acts.specs.declared.Arrived.{Arrived}

-- of record i of the buffer's text b, after what came to `here`: "for the end record the answer is 030002 and position stays" [C9, N10]
abbrev pub handed : Description → List ℕ → ℕ → Arrived → Done
handed p b i here =
    let end = is_ones (key_at (detail_shape p) b i) in
    record { number = cond end at_end done; transfers = here.transfers; current = here.current; flag = here.flag; keyed = not end }
