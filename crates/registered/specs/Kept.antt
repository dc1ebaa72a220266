-- What no sequence of register calls can do. Document 02, "The name register": "While only register calls touch the file, no sequence of them changes a
-- romanised name's spelling or lists a name twice, and asking changes no record." Nothing is proved here.
use Rattle.std.specs.Prelude.{ℕ, false, ◌⊎◌, ◌≡◌, List, [], ◌∷◌, ◌++◌}
use Rattle.numbers.specs.Numbers.{done}
use Rattle.words.specs.Words.{zeros}
use Rattle.words.specs.Keys.{same_key}
use Rattle.drum.specs.declared.Description.{Description}
use Rattle.layout.specs.Tree.{Tree, contents}
use Rattle.layout.specs.Holds.{Holds, All}
use Rattle.rules.specs.State.{State, desc, key_in}
use Rattle.rules.specs.Open.{open_file}
use Rattle.rules.specs.Requests.{opening, closing, seeking, advancing, inserting, deleting, updating, extending, lending, left}
use Rattle.demands.specs.Refusals.{leaves_all}
use Rattle.demands.specs.History.{with_key, handed}
use Rattle.demands.specs.Story.{deeds, stands}
use Rattle.register.specs.Names.{raw, romanised, on_hold, spelling_size, state_of, spelling_of}
use Rattle.registered.specs.Deeds.{Deed, entering, asking, listing, holding, freeing, romanising, calling, did, left_by, requests}

-- ---- what stands under a key

-- what stands under the key after a run from st, where `was` stood under it: nothing, or the record of a name
unfoldable pub under : State → List Deed → List ℕ → List (List ℕ) → List (List ℕ)
under st ds key was = stands (desc st) key (deeds st (requests st ds)) was

-- P of every session that an OPEN answering 0 began, with what stood under each key in its file: from there any calls, "closing and reopening included"
abbrev pub FromOpen : (State → (List ℕ → List (List ℕ)) → Type 0) → Type 0
FromOpen P = (st : State) (marks : List ℕ) → (open_file st marks).outcome.number ≡ done
    → (t : Tree) × Holds (desc st) st.file t × P (open_file st marks).outcome.after (λ key. with_key (desc st) key (contents t))

-- the routine, given a run's calls, is left as the register's calls leave it: but for the workspace, which every call is lent anew
abbrev pub SameRun : Type 0
SameRun = (st : State) (ds : List Deed) (work : List ℕ) → lending work (left_by st ds) ≡ lending work (left st (requests st ds))

-- asking finds a name exactly when it was there or was entered, "with the state and spelling last given"
abbrev pub Found : State → (List ℕ → List (List ℕ)) → Type 0
Found st was = (ds : List Deed) (work : List ℕ)
    → let o = did (left_by st ds) (asking work) in
    leaves_all o.number ≡ false → handed o ≡ under st ds (key_in (desc st) work) (was (key_in (desc st) work))

-- ---- states

-- "Held is romanised too"
abbrev pub Romanised : Description → List ℕ → Type 0
Romanised p r = (state_of p r ≡ romanised) ⊎ (state_of p r ≡ on_hold)

-- one move, from the record r to the record s of a name
pub data Moved (p : Description) (r s : List ℕ) : Type 0 where
  spelling : state_of p r ≡ raw → state_of p s ≡ romanised → Moved p r s
  held : state_of p r ≡ romanised → state_of p s ≡ on_hold → spelling_of p s ≡ spelling_of p r → Moved p r s
  freed : state_of p r ≡ on_hold → state_of p s ≡ romanised → spelling_of p s ≡ spelling_of p r → Moved p r s

-- absent → raw → romanised ⇄ held, never back: what one register call may make of what stands under a key
pub data Step (p : Description) (was now : List (List ℕ)) : Type 0 where
  stays : now ≡ was → Step p was now
  enters : (r : List ℕ) → was ≡ [] → now ≡ r ∷ [] → state_of p r ≡ raw → spelling_of p r ≡ zeros (spelling_size p) → Step p was now
  moves : (r s : List ℕ) → was ≡ r ∷ [] → now ≡ s ∷ [] → Moved p r s → Step p was now

-- "only register calls": OPEN and CLOSE belong to the run; SEEK and ADV change no record
abbrev pub Registers : Deed → Type 0
Registers (entering w) = Unit {0}
Registers (asking w) = Unit {0}
Registers (listing w) = Unit {0}
Registers (holding w) = Unit {0}
Registers (freeing w) = Unit {0}
Registers (romanising w s) = Unit {0}
Registers (calling (opening marks)) = Unit {0}
Registers (calling closing) = Unit {0}
Registers (calling (seeking w)) = Unit {0}
Registers (calling (advancing w)) = Unit {0}
Registers (calling (inserting w)) = ⊥
Registers (calling (deleting w)) = ⊥
Registers (calling (updating w)) = ⊥
Registers (calling (extending w)) = ⊥

-- after any calls, one more register call
abbrev pub States : State → (List ℕ → List (List ℕ)) → Type 0
States st was = (ds : List Deed) (d : Deed) → Registers d → (key : List ℕ)
    → Step (desc st) (under st ds key (was key)) (under st (ds ++ d ∷ []) key (was key))

-- ---- the spelling

-- calls that leave the name with this key alone: register calls, and of the routine's all but an UPDAT or DLETE of that very key
abbrev pub Spares : Description → List ℕ → Deed → Type 0
Spares p key (entering w) = Unit {0}
Spares p key (asking w) = Unit {0}
Spares p key (listing w) = Unit {0}
Spares p key (holding w) = Unit {0}
Spares p key (freeing w) = Unit {0}
Spares p key (romanising w s) = Unit {0}
Spares p key (calling (opening marks)) = Unit {0}
Spares p key (calling closing) = Unit {0}
Spares p key (calling (seeking w)) = Unit {0}
Spares p key (calling (advancing w)) = Unit {0}
Spares p key (calling (inserting w)) = Unit {0}
Spares p key (calling (extending w)) = Unit {0}
Spares p key (calling (deleting w)) = same_key (key_in p w) key ≡ false
Spares p key (calling (updating w)) = same_key (key_in p w) key ≡ false

-- a name that was found romanised or held, with a spelling: after any further calls that spare it, it is there, romanised or held, with that spelling [G7]
abbrev pub SpellingKept : State → (List ℕ → List (List ℕ)) → Type 0
SpellingKept st was = (ds es : List Deed) (key r : List ℕ) → All (Spares (desc st) key) es → under st ds key (was key) ≡ r ∷ [] → Romanised (desc st) r
    → (s : List ℕ) × (under st (ds ++ es) key (was key) ≡ s ∷ []) × Romanised (desc st) s × (spelling_of (desc st) s ≡ spelling_of (desc st) r)

-- the same as the editor sees it, by asking
abbrev pub SpellingAsked : State → (List ℕ → List (List ℕ)) → Type 0
SpellingAsked st was = (ds es : List Deed) (work : List ℕ) → All (Spares (desc st) (key_in (desc st) work)) es
    → let a = did (left_by st ds) (asking work) in
    let b = did (left_by st (ds ++ es)) (asking work) in
    a.number ≡ done → Romanised (desc st) a.after.work → leaves_all b.number ≡ false
    → (b.number ≡ done) × Romanised (desc st) b.after.work × (spelling_of (desc st) b.after.work ≡ spelling_of (desc st) a.after.work)

-- ---- asking

-- asking and listing change nothing that stands under any key, whatever they answer [G9]
abbrev pub AskingChangesNothing : State → (List ℕ → List (List ℕ)) → Type 0
AskingChangesNothing st was = (ds : List Deed) (work key : List ℕ)
    → (under st (ds ++ asking work ∷ []) key (was key) ≡ under st ds key (was key))
    × (under st (ds ++ listing work ∷ []) key (was key) ≡ under st ds key (was key))

-- ---- once

-- "Romanising moves raw to romanised with a given spelling": what stood under the key, and what stands there
pub record RomanisedAs (p : Description) (was now : List (List ℕ)) (spelling : List ℕ) : Type 0 where
  pub before : List ℕ
  pub after : List ℕ
  pub stood : was ≡ before ∷ []
  pub stands-there : now ≡ after ∷ []
  pub was-raw : state_of p before ≡ raw
  pub is-romanised : state_of p after ≡ romanised
  pub is_spelled : spelling_of p after ≡ spelling

-- a romanising that answers 0 found the name raw, and leaves it romanised with the spelling given
abbrev pub Romanises : State → (List ℕ → List (List ℕ)) → Type 0
Romanises st was = (ds : List Deed) (work spelling : List ℕ) → (did (left_by st ds) (romanising work spelling)).number ≡ done
    → let key = key_in (desc st) work in
    RomanisedAs (desc st) (under st ds key (was key)) (under st (ds ++ romanising work spelling ∷ []) key (was key)) spelling

-- "once": after one that answers 0, and any calls that spare the name, no other of that name does
abbrev pub Once : State → (List ℕ → List (List ℕ)) → Type 0
Once st was = (ds es : List Deed) (work other spelling again : List ℕ) → All (Spares (desc st) (key_in (desc st) work)) es
    → key_in (desc st) other ≡ key_in (desc st) work → (did (left_by st ds) (romanising work spelling)).number ≡ done
    → (did (left_by st ((ds ++ romanising work spelling ∷ []) ++ es)) (romanising other again)).number ≡ done → ⊥

-- ---- raw is zero

-- a raw name of these records has the spelling zero
abbrev pub RawZero : Description → List (List ℕ) → Type 0
RawZero p rs = (r : List ℕ) → rs ≡ r ∷ [] → state_of p r ≡ raw → spelling_of p r ≡ zeros (spelling_size p)

-- "Entering adds a raw name, its spelling zero.": while only register calls touch the file, a raw name has no spelling, if it had none at the OPEN
abbrev pub RawIsZero : State → (List ℕ → List (List ℕ)) → Type 0
RawIsZero st was = (ds : List Deed) (key : List ℕ) → All Registers ds → RawZero (desc st) (was key) → RawZero (desc st) (under st ds key (was key))
