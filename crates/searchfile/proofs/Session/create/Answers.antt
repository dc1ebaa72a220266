-- `searchfile::Session::create` meets its contract: each way through CREATE.
use mathlib.Core.Path.{sym, ◌∙◌}
use Rattle.searchfile.proofs.Creating.{create-params, create-size, create-whole, create-done}
use Rattle.searchfile.proofs.Session.create.Goals.{then-not-is_good-via-then-not-is_good, then-not-is_good-via-else-not-is_good+then-file-file_size}
use Rattle.searchfile.proofs.Session.create.Goals as goal

pub returns-then-not-is_good : goal.returns-then-not-is_good
returns-then-not-is_good c =
    elim c.then-not-is_good.branch [
      | then-not-is_good-via-then-not-is_good w ↦ create-params _ _ _ c.refused.ensures (sym c.is_good.ensures ∙ w.if-not-is_good.true)
      | then-not-is_good-via-else-not-is_good+then-file-file_size w ↦
          create-size _ _ _ c.refused.ensures _ w.file_size.ensures w.if-file-file_size.true (sym c.is_good.ensures ∙ w.if-not-is_good.false)
    ]

pub lay_out-requires : goal.lay_out-requires
lay_out-requires c =
    let g = sym c.is_good.ensures ∙ c.if-not-is_good.false in
    (g, create-whole _ _ _ c.file_size.ensures g c.if-file-file_size.false)

pub returns : goal.returns
returns c = create-done _ _ _ _ c.lay_out.ensures c.file_size.ensures c.if-file-file_size.false (sym c.is_good.ensures ∙ c.if-not-is_good.false)
