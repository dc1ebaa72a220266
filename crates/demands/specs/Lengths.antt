-- Every slice that is lent has the length at exit that it had at entry.
use Rattle.std.specs.Prelude.{◌≡◌, length}
use Rattle.rules.specs.State.{State}

-- file, buffer and workspace keep their lengths; the position is 63 words
pub record SameLengths (st now : State) : Type 0 where
  pub file : length now.file ≡ length st.file
  pub buffer : length now.buffer ≡ length st.buffer
  pub work : length now.work ≡ length st.work
  pub position : length st.session.position ≡ 63 → length now.session.position ≡ 63
