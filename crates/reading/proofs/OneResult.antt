-- Two results allowed by one of the reading set's promises are equal.
use mathlib.Core.Path.{◌≡◌, sym, ◌∙◌}
use mathlib.Core.List.{List, []}
use Prim.Native.Nat.{ℕ}
use Rattle.drum.specs.Parts.{part_of}
use Rattle.rules.specs.State.{Outcome}
use Rattle.face.specs.Counted.{counted}
use Rattle.reading.specs.Answers.{Answer}
use Rattle.reading.specs.Reading.{answered, answered_open}
use Rattle.reading.specs.OneResult.{OneReading}

one_answer : (o : Outcome) (r s : Answer) (f g b d w u : List ℕ) → answered r f b w ≡ counted o → answered s g d u ≡ counted o
    → (r ≡ s) × (f ≡ g) × (b ≡ d) × (w ≡ u)
one_answer o r s f g b d w u x y =
    let e : answered r f b w ≡ answered s g d u = x ∙ sym y in (
      λ i. record {
        number = (e i).number;
        transfers = (e i).transfers;
        session = record {
          desc = (e i).after.session.desc;
          opened = (e i).after.session.opened;
          current = (e i).after.session.current;
          placed = (e i).after.session.placed;
          position = (e i).after.session.position;
        };
      },
      λ i. (e i).after.file,
      λ i. (e i).after.buffer,
      λ i. (e i).after.work,
    )

pub one-reading : OneReading
one-reading = record {
  answers = one_answer;
  opens = λ o r s f g b d m n x y.
      let e : answered_open r f b m ≡ answered_open s g d n = x ∙ sym y in
      let a = one_answer o.outcome r s f g b d [] [] (λ i. (x i).outcome) (λ i. (y i).outcome) in
      (a.0, a.1, a.2, λ i. (e i).marks);
  views = λ s file buffer b one other x y. let e : part_of one ≡ part_of other = x ∙ sym y in (λ i. (e i).address, λ i. (e i).words);
}
