-- XTEND behind all ordinary keys, where the last block holds only the end record and the key is not above the bound before it, does what NSERT of
-- the same record does.
use Prim.Native.Nat.{ℕ, ◌+◌}
use mathlib.Core.Path.{◌≡◌, sym, ap, ◌∙◌, subst}
use mathlib.Core.List.{List}
use lib.ListN.{length}
use Rattle.numbers.specs.Checked.{Checked, passed}
use Rattle.words.proofs.Keys.{clash}
use Rattle.layout.specs.Tree.{Section, Tree}
use Rattle.layout.specs.Tree as lay
use Rattle.layout.specs.Holds as laid
use Rattle.layout.proofs.Unique.{one-tree}
use Rattle.rules.specs.declared.Way.{Way}
use Rattle.rules.specs.State.{State, desc, texts, key_in}
use Rattle.rules.specs.Xtend.{last_way}
use Rattle.rules.specs.NsertDone.{nsert}
use Rattle.rules.specs.Requests.{lending, answer}
use Rattle.demands.specs.Promises.{put_back}
use Rattle.demands.specs.Answers.{Keyed}
use Rattle.demands.specs.Storing.{is_above, limits, at_last}
use Rattle.demands.specs.AsNsert.{besides, BehindAll, AsNsert, XtendAsNsert}
use Rattle.demands.proofs.Holds.{Free}
use Rattle.demands.proofs.Sound.{Sound}
use Rattle.demands.proofs.Answers.{Ready}
use Rattle.demands.proofs.Last.{Last}
use Rattle.demands.proofs.XtendAs.{AsCalled}
use Rattle.demands.proofs.XtendRight.{InSequence, Xtended, too-low, too-low-alone, before, room, started, both, no_room_lem, xtend-right}
use Rattle.demands.proofs.Extends.{not-below}
use Rattle.demands.proofs.XtendNumber.{at-yes}
use Rattle.demands.proofs.Opens.{flushed-stands}
use Rattle.demands.proofs.Answered.{readied}
use Rattle.demands.proofs.Moves.{tree_in}
use Rattle.demands.proofs.Promised.{after_open}

-- one way leads to the last block
one_way : (c : Checked Way) (a b : Way) → c ≡ passed a → c ≡ passed b → a ≡ b
one_way c a b e g = cc

module _ (st : State) (ss : List Section) (f : Free) (r : Ready (desc st).wpr st ss f)
    (b : BehindAll (desc st) (key_in (desc st) st.work) (tree_in ss f)) where
  -- the key does not belong in the last block
  outside : (L : Last (texts st) st.session.flag ss f) → InSequence st ss f L → ⊥
  unfolding at_last limits
  outside L iq =
      clash (sym (at-yes st ss f r L iq) ∙ ap (λ (z : List (List ℕ)). is_above (limits (desc st) z (lay.leaves_of (tree_in ss f))) (key_in (desc st) st.work))
      b.alone ∙ b.under)

  called : (L : Last (texts st) st.session.flag ss f) → Xtended st ss f L → AsCalled st L.way
  called L (before e l s n a y) = a
  called L (too-low fr y e l g) = absurd (not-below st ss f r L fr y e l b.none)
  called L (too-low-alone e l hs g) = absurd (hs b.none)
  called L (room iq l g) = absurd (outside L iq)
  called L (started iq l m s g) = absurd (outside L iq)
  called L (both iq l m s c g) = absurd (outside L iq)
  called L (no_room_lem iq l m g) = absurd (outside L iq)

sound-as : (st : State) (ss : List Section) (f : Free) → Sound st ss f → (w : List ℕ) → Keyed st (desc st).wpr w
    → BehindAll (desc st) (key_in (desc st) w) (tree_in ss f) → AsNsert st w
unfolding answer lending
sound-as st ss f h w ask b =
    let r = readied st ss f h (desc st).wpr w ask in
    let z = xtend-right (lending w st) ss f r in
    let c = called (lending w st) ss f r b z.0 z.1 in
    record {
      number = c.number-is;
      after = c.after_is;
      transfers = λ way e. c.more-is ∙ ap (λ (y : Way). length (nsert (lending w st)).transfers + besides y)
          (one_way (last_way (texts st) st.session.flag) z.0.way way z.0.way-is e);
    }

pub xtend-as-nsert : XtendAsNsert
xtend-as-nsert =
    after_open (λ (st : State). (t : Tree) → laid.Holds (desc st) (put_back st) t → (w : List ℕ) → Keyed st (desc st).wpr w
    → BehindAll (desc st) (key_in (desc st) w) t → AsNsert st w) λ st ss f h t ht.
    let is : tree_in ss f ≡ t = one-tree (desc st) (put_back st) (tree_in ss f) t h.kept.good (flushed-stands st ss f h) ht in
    subst (λ (z : Tree). (w : List ℕ) → Keyed st (desc st).wpr w → BehindAll (desc st) (key_in (desc st) w) z → AsNsert st w) is (sound-as st ss f h)
