-- What the digits have room for: each number that a call answers is a word, and from an OPEN that answers 0 no call makes 10^20 transfers.
use Prim.Native.Nat.{ℕ, zero, suc, ◌*◌, ◌^◌, ◌≤◌, ◌<◌}
use native.Mathlib.Nat.{mul-le-mul_right}
use native.Mathlib.Omega.{arith}
use mathlib.Core.Path.{◌≡◌, refl, subst}
use mathlib.Core.Bool.{Bool, true, false, ◌||◌}
use mathlib.Core.List.{List, [], ◌∷◌, ◌++◌}
use lib.Dec.{eqb}
use lib.ListN.{length}
use borrow.Author.Tests.{eqb-true}
use Rattle.numbers.specs.Numbers.{wrong_size, already_open, is_closed, wrong_key, bad_file, not_found, out_of_sequence, no_room, none_free, at_end, done, accepted}
use Rattle.words.specs.Words.{top_word, all_words}
use Rattle.words.proofs.All.{all_words-part, all_words-get_or}
use Rattle.table.specs.Tables.{count, block_in}
use Rattle.drum.specs.declared.Description.{Description}
use Rattle.drum.specs.Params.{master_shape}
use Rattle.drum.specs.Blocks.{block_at, sections}
use Rattle.rules.specs.State.{State, Outcome, desc}
use Rattle.rules.specs.Open.{open_file}
use Rattle.rules.specs.Requests.{Request, opening, closing, seeking, advancing, inserting, deleting, updating, extending, answer, left}
use Rattle.demands.specs.Answering.{open_refuses, plain_refuses, keyed_refuses, finds, advances, inserts, extends, can_answer}
use Rattle.demands.proofs.Answering.{can-answer}
use Rattle.demands.specs.Formula.{details_under, detail_blocks, index_blocks, new_details, new_indexes, share, CallWithin}
use Rattle.demands.proofs.Demands.{call-bound}
use Rattle.demands.proofs.Promised.{after_open, words_small}

-- ---- the number

-- a test that only words pass
abbrev Low : Bool → ℕ → Type 0
Low t n = t ≡ true → n ≤ top_word

module _ (n : ℕ) where
  is : (m : ℕ) → m ≤ top_word → Low (eqb n m) n
  is m h e = omega (arith, eqb-true n m e)

  either : (s t : Bool) → Low s n → Low t n → Low (s || t) n
  either true t h k e = h refl
  either false t h k e = k e

  size : Low (eqb n wrong_size) n
  size = is wrong_size (omega arith)

  bad : Low (eqb n bad_file) n
  bad = is bad_file (omega arith)

  closed : Low (eqb n is_closed || eqb n bad_file) n
  closed = either (eqb n is_closed) _ (is is_closed (omega arith)) bad

  plain : Low (plain_refuses n) n
  unfolding plain_refuses
  plain = either (eqb n wrong_size) _ size closed

  keyed : Low (keyed_refuses n) n
  unfolding keyed_refuses
  keyed = either (eqb n wrong_size) _ size (either (eqb n is_closed) _ (is is_closed (omega arith)) (either (eqb n wrong_key) _ (is wrong_key (omega arith)) bad))

  fine : Low (eqb n done) n
  fine = is done (omega arith)

  missing : Low (eqb n not_found) n
  missing = is not_found (omega arith)

  stored : Low (accepted n) n
  stored = either (eqb n done) _ fine (is none_free (omega arith))

  full : Low (eqb n no_room) n
  full = is no_room (omega arith)

  number-low : (q : Request) → Low (can_answer q n) n
  unfolding can_answer open_refuses finds advances inserts extends
  number-low (opening marks) =
      either (open_refuses n) _ (either (eqb n wrong_size) _ size (either (eqb n already_open) _ (is already_open (omega arith)) bad)) fine
  number-low closing = either (plain_refuses n) _ plain fine
  number-low (seeking w) = either (keyed_refuses n) _ keyed (either (eqb n done) _ fine missing)
  number-low (advancing w) = either (plain_refuses n) _ plain (either (eqb n done) _ fine (is at_end (omega arith)))
  number-low (inserting w) = either (keyed_refuses n) _ keyed (either (accepted n) _ stored (either (eqb n not_found) _ missing full))
  number-low (deleting w) = either (keyed_refuses n) _ keyed (either (eqb n done) _ fine missing)
  number-low (updating w) = either (keyed_refuses n) _ keyed (either (eqb n done) _ fine missing)
  number-low (extending w) =
      either (keyed_refuses n) _ keyed (either (accepted n) _ stored (either (eqb n out_of_sequence) _ (is out_of_sequence (omega arith)) full))

-- ---- the count

module _ (p : Description) (f : List ℕ) (h : all_words f ≡ true) where
  details-few : (n : ℕ) → details_under p f n ≤ n * top_word
  unfolding details_under block_at count
  details-few zero = omega arith
  details-few (suc n) = omega (arith, details-few n, all_words-get_or (block_at p f (block_in (master_shape p) f n)) 0 (all_words-part _ _ f h))

blocks-few : (st : State) → all_words st.file ≡ true → (detail_blocks st ≤ top_word * top_word) × (index_blocks st ≤ top_word)
unfolding detail_blocks index_blocks
blocks-few st h =
    let i = all_words-get_or st.file 0 h in
    (omega (arith, details-few (desc st) st.file h (sections st.file), mul-le-mul_right top_word i), i)

share-few : (q : Request) → share q ≤ 6
unfolding share
share-few (opening marks) = omega arith
share-few closing = omega arith
share-few (seeking w) = omega arith
share-few (advancing w) = omega arith
share-few (inserting w) = omega arith
share-few (deleting w) = omega arith
share-few (updating w) = omega arith
share-few (extending w) = omega arith

count-few : (st : State) (q : Request) → CallWithin st q → all_words (answer st q).after.file ≡ true → length (answer st q).transfers < 10 ^ 20
unfolding new_details new_indexes
count-few st q c h =
    let b = blocks-few (answer st q).after h in
    omega (arith, c, b.0, b.1, share-few q)

left-last : (st : State) (qs : List Request) (q : Request) → left st (qs ++ (q ∷ [])) ≡ (answer (left st qs) q).after
unfolding left
left-last st [] q = refl
left-last st (r ∷ qs) q = left-last (answer st r).after qs q

-- an answer that a line has room for
pub record Room (o : Outcome) : Type 0 where
  pub number : o.number ≤ top_word
  pub count : length o.transfers < 10 ^ 20

pub rooms : (st : State) (marks : List ℕ) → (open_file st marks).outcome.number ≡ done
    → (qs : List Request) (q : Request) → Room (answer (left (open_file st marks).outcome.after qs) q)
rooms st marks o qs q =
    let now : State = left (open_file st marks).outcome.after qs in
    let bound : CallWithin now q = after_open (λ (s : State). (r : Request) → CallWithin s r) call-bound st marks o qs q in
    let small = (words_small st marks o (qs ++ (q ∷ []))).file in
    record {
      number = number-low (answer now q).number q (can-answer now q);
      count = count-few now q bound (subst (λ (s : State). all_words s.file ≡ true) (left-last (open_file st marks).outcome.after qs q) small);
    }
