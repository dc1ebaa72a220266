-- Document 01: SEEK and UPDAT.
use Rattle.std.specs.Prelude.{ℕ, Bool, true, List}
use Rattle.numbers.specs.Numbers.{done, not_found, bad_file}
use Rattle.numbers.specs.Checked.{Checked, passed, refused, ◌>>=◌, ◌>>◌}
use Rattle.table.specs.Tables.{row, replaced}
use Rattle.drum.specs.Params.{detail_shape}
use Rattle.drum.specs.Blocks.{Texts}
use Rattle.rules.specs.declared.Way.TheVariants.{By}
use Rattle.rules.specs.declared.Look.{Look}
use Rattle.rules.specs.declared.Look.TheVariants.{Found, Missing}
use Rattle.rules.specs.State.{State, Outcome, Effect, desc, texts, key_in, record_in}
use Rattle.rules.specs.Checks.{keyed_call}
use Rattle.rules.specs.Lookup.{Reached, reached, look, stopping, storing}

-- "SEEK found: record to workspace, position = key." [C3]
unfoldable pub giving : Texts → Reached → ℕ → ℕ → Bool → Effect
giving v r number i keyed = record {
  number = number;
  transfers = r.moves;
  current = r.current;
  flag = r.flag;
  keyed = keyed;
  file = r.file;
  buffer = r.buffer;
  work = row (detail_shape v.desc) r.buffer i;
}

-- what SEEK does, of what the lookup came to [C3, N6]
unfoldable pub seek_done : Texts → Bool → List ℕ → Look → Checked Effect
seek_done v flag work (Found way i) = passed (giving v (reached v flag way) done i true)
seek_done v flag work (Missing w) = passed (stopping not_found work (reached v flag (By w)))

-- SEEK's steps, after the refusals [C3]
unfoldable pub seek_steps : Texts → Bool → List ℕ → Checked Effect
seek_steps v flag work = do
  l ← look v flag (key_in v.desc work)
  seek_done v flag work l

-- SEEK: 020007, 020005, 030001, and then its steps, which give 070003, 000001 or 0 [C3, N1, N3, N4]
unfoldable pub seek : State → Outcome
seek st = keyed_call (desc st).k st (seek_steps (texts st) st.session.flag st.work)

-- "UPDAT found: record replaced, flag on, position = key." [C4, N6]
unfoldable pub updat_done : Texts → Bool → List ℕ → Look → Checked Effect
updat_done v flag work (Found way i) =
    let r = reached v flag way in
    passed (storing done work r (replaced (detail_shape v.desc) i (record_in v.desc work) r.buffer))
updat_done v flag work (Missing w) = passed (stopping not_found work (reached v flag (By w)))

-- UPDAT's steps, after the refusals [C4]
unfoldable pub updat_steps : Texts → Bool → List ℕ → Checked Effect
updat_steps v flag work = do
  l ← look v flag (key_in v.desc work)
  updat_done v flag work l

-- UPDAT: 020007, 020005, 030001, and then its steps, which give 070003, 000001 or 0 [C4, N1, N3, N4]
unfoldable pub updat : State → Outcome
updat st = keyed_call (desc st).wpr st (updat_steps (texts st) st.session.flag st.work)
