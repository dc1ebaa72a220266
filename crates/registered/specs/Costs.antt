-- What a move costs and answers: "a move costs what its question costs". Of every session on any words, whether an OPEN came before or not. Nothing is
-- proved here.
use Rattle.std.specs.Prelude.{ℕ, ◌≡◌, Bool, true, cond, ◌&&◌, List, [], eqb, length}
use Rattle.numbers.specs.Numbers.{done, wrong_key, not_allowed}
use Rattle.words.specs.Words.{all_words}
use Rattle.drum.specs.declared.Description.{Description}
use Rattle.rules.specs.State.{State, Outcome, desc}
use Rattle.register.specs.Names.{raw, romanised, on_hold, spelling_size, state_of, spelling_of}
use Rattle.registered.specs.Deeds.{Deed, asking, holding, freeing, romanising, did}

-- a spelling that can be given: as long as a record's, with no word above 262143 [G11, G12]
unfoldable pub can_spell : Description → List ℕ → Bool
can_spell p spelling = eqb (length spelling) (spelling_size p) && all_words spelling

-- the call makes the same transfers as the question, in the same order
abbrev pub SameCost : State → Deed → List ℕ → Type 0
SameCost st d work = (did st d).transfers ≡ (did st (asking work)).transfers

-- a move makes exactly the transfers of asking for its name, whatever it answers; a spelling that cannot be given costs none [G13]
pub record MoveFree (st : State) (work : List ℕ) : Type 0 where
  pub holds : SameCost st (holding work) work
  pub frees : SameCost st (freeing work) work
  pub romanises : (spelling : List ℕ)
      → (did st (romanising work spelling)).transfers ≡ cond (can_spell (desc st) spelling) (did st (asking work)).transfers []

-- a move's number, of what asking answers: asking's own; 030007 from another state than `from`; else n, the last step's [G10, G13]
abbrev pub numbered : ℕ → Description → Outcome → ℕ → ℕ
numbered from p asked n = cond (eqb asked.number done) (cond (eqb (state_of p asked.after.work) from) n not_allowed) asked.number

-- holding and freeing refuse a stored spelling with a word above 262143, by 030001 [G11]
abbrev pub kept : Description → Outcome → ℕ
kept p asked = cond (all_words (spelling_of p asked.after.work)) done wrong_key

-- UPDAT never refuses what SEEK found: a move from the right state answers 0 [G4, G5, G10]
pub record MoveAnswers (st : State) (work : List ℕ) : Type 0 where
  pub holds : let asked = did st (asking work) in
      (did st (holding work)).number ≡ numbered romanised (desc st) asked (kept (desc st) asked)
  pub frees : let asked = did st (asking work) in
      (did st (freeing work)).number ≡ numbered on_hold (desc st) asked (kept (desc st) asked)
  pub romanises : (spelling : List ℕ) → can_spell (desc st) spelling ≡ true
      → (did st (romanising work spelling)).number ≡ numbered raw (desc st) (did st (asking work)) done
