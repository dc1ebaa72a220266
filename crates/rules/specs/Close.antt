-- Document 01: CLOSE, and VIEW ("The session").
use Rattle.std.specs.Prelude.{ℕ, Bool, false, cond, ◌&&◌, List, [], length}
use Rattle.numbers.specs.Numbers.{done, bad_file}
use Rattle.numbers.specs.Checked.{Checked, passed, refused, ◌>>=◌, ◌>>◌, require, between}
use Rattle.drum.specs.Params.{sized}
use Rattle.drum.specs.Blocks.{written, text_of}
use Rattle.rules.specs.State.{State, Outcome, desc, lent, texts, at_rest, unchanged}
use Rattle.rules.specs.Checks.{sizes_ok, is_open}
use Rattle.rules.specs.Lookup.{flush_ok, flush_moves}

-- the refusals of CLOSE [N1, N3, N5, B2]
unfoldable pub close_checks : State → Checked Bool
close_checks st = do
  sizes_ok st
  is_open st
  require (flush_ok (texts st) st.session.flag) bad_file

-- "CLOSE: write if flagged (1); closed." [C31, S2]
unfoldable pub close_done : State → Checked Bool → Outcome
close_done st (refused n) = unchanged st n
close_done st (passed x) =
    let moves = flush_moves (texts st) st.session.flag in
    record {
      number = done;
      transfers = moves;
      after = lent (at_rest false st.session) (written (desc st) moves st.file) st.buffer st.work;
    }

-- CLOSE: 020007, 020005, 070003, or done [C31]
unfoldable pub close : State → Outcome
close st = close_done st (close_checks st)

-- "VIEW of block b lends back that text .. and an empty part for a closed session, bad sizes, or b outside 1..N." [S5, T2]
unfoldable pub view : State → ℕ → List ℕ
view st b =
    cond (st.session.opened && (sized (desc st) (length st.file) (length st.buffer) && between 1 (desc st).n b))
    (text_of (texts st) b)
    []
