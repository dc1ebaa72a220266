-- What NSERT and XTEND answer: one number, of the key and the tree.
use mathlib.Core.Path.{◌≡◌, subst}
use mathlib.Core.List.{List}
use Rattle.layout.specs.Tree.{Section, Tree}
use Rattle.layout.specs.Holds as laid
use Rattle.layout.proofs.Unique.{one-tree}
use Rattle.rules.specs.State.{State, desc}
use Rattle.rules.specs.Requests.{lending, answer}
use Rattle.demands.specs.Promises.{put_back}
use Rattle.demands.specs.Storing.{Stored, CallNumbers}
use Rattle.demands.proofs.Holds.{Free}
use Rattle.demands.proofs.Sound.{Sound}
use Rattle.demands.proofs.Opens.{flushed-stands}
use Rattle.demands.proofs.Answered.{readied}
use Rattle.demands.proofs.Moves.{tree_in}
use Rattle.demands.proofs.Promised.{after_open}
use Rattle.demands.proofs.NsertNumber.{nsert-number}
use Rattle.demands.proofs.XtendNumber.{xtend-number}

pub sound-numbers : (st : State) (ss : List Section) (f : Free) → Sound st ss f → (t : Tree) → laid.Holds (desc st) (put_back st) t → Stored st t
unfolding answer lending
sound-numbers st ss f h t ht =
    let is : tree_in ss f ≡ t = one-tree (desc st) (put_back st) (tree_in ss f) t h.kept.good (flushed-stands st ss f h) ht in
    subst (Stored st) is (record {
      nsert = nsert-number st ss f h;
      xtend = λ w a. xtend-number (lending w st) ss f (readied st ss f h (desc st).wpr w a)
          (nsert-number st ss f h w a);
    })

pub call-numbers : CallNumbers
call-numbers = after_open (λ (st : State). (t : Tree) → laid.Holds (desc st) (put_back st) t → Stored st t) sound-numbers
