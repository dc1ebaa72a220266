-- The form of the promises, and that two results allowed by the public one are equal. Nothing is proved here.
use Rattle.std.specs.Prelude.{ℕ, ◌+◌, ◌*◌, ◌≤◌, ◌≡◌, true, List, length, get_or}
use Rattle.drum.specs.declared.Description.{Description}
use Rattle.drum.specs.Params.{D, file_size, good_params, detail_kind}
use Rattle.searchfile.specs.Promise.{held}
use Rattle.salvage.specs.declared.Going.{Going}
use Rattle.salvage.specs.declared.Salvaged.{Salvaged}
use Rattle.salvage.specs.Met.{count_in}
use Rattle.salvage.specs.Salvage.{Walk, Salvaging, after, tried}

-- the walk as the code has it: what goes by value, with the words lent
abbrev pub walking : Going → List ℕ → List ℕ → List ℕ → Walk
walking g f b report =
    record { session = held g.session; file = f; buffer = b; report = report; lines = g.lines; transfers = g.transfers }

-- the number of an NSERT and what it leaves
pub record Told : Type 0 where
  pub number : ℕ
  pub after : Walk

abbrev pub tells : ℕ → Walk → Told
tells n w = record { number = n; after = w }

-- NSERT of a record, so told
abbrev pub inserted : List ℕ → Walk → Told
inserted r w = tells (tried r w).number (after (tried r w) w)

-- what the call gives back, with the words it leaves
abbrev pub answered_with : Salvaged → List ℕ → List ℕ → List ℕ → Salvaging
answered_with r fresh buffer report =
    record { number = r.number; transfers = r.transfers; lines = r.lines; fresh = fresh; buffer = buffer; report = report }

-- there is room for k lines more in a report of so many words, and the count of transfers can grow by those of k NSERTs
pub record Spare (g : Going) (k report : ℕ) : Type 0 where
  pub lines : 3 * (g.lines + k) ≤ report
  pub transfers : g.transfers + 16 * k ≤ 1099511627776

-- the text of block b can be looked at, and there is room for the lines that it gives
pub record Ready (g : Going) (t : List ℕ) (b report : ℕ) : Type 0 where
  pub good : good_params g.session.desc ≡ true
  pub text-is : length t ≡ g.session.desc.wpb
  pub block : b ≤ 262143
  pub spare : Spare g (1 + D g.session.desc) report

-- its records can be taken: its count is good
pub record Taken (g : Going) (t : List ℕ) (b report : ℕ) : Type 0 where
  pub ready : Ready g t b report
  pub marked : detail_kind ≤ get_or t 0 0
  pub counted : count_in t ≤ D g.session.desc

-- good parameters, and a copy of the file's length
pub record Copied (g : Going) (copy : List ℕ) : Type 0 where
  pub good : good_params g.session.desc ≡ true
  pub copy_is : length copy ≡ file_size g.session.desc

-- what 020007 leaves to rely on: good parameters, the lengths, and room for every line [Z6]
pub record Roomy (p : Description) (copy fresh buffer report : ℕ) : Type 0 where
  pub good : good_params p ≡ true
  pub copy_is : copy ≡ file_size p
  pub fresh-is : fresh ≡ file_size p
  pub buffer-is : buffer ≡ p.wpb
  pub room : 3 * (p.n * (1 + D p)) ≤ report

-- "Two results allowed by one promise are proved equal": number, transfers, lines, and every word lent
abbrev pub OneSalvaged : Type 0
OneSalvaged =
    (o : Salvaging) (r s : Salvaged) (f g b d x y : List ℕ) → answered_with r f b x ≡ o → answered_with s g d y ≡ o
    → (r ≡ s) × (f ≡ g) × (b ≡ d) × (x ≡ y)
