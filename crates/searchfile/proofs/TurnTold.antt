-- The turning call's answer from what the turning function left; and two results allowed by its promise are equal.
use Prim.Native.Nat.{ℕ}
use mathlib.Core.Path.{◌≡◌, sym, ◌∙◌}
use mathlib.Core.List.{List, []}
use Rattle.rules.specs.Turning.{turn_left, turning, describing, turn_file}
use Rattle.drum.specs.declared.Description.{Description}
use Rattle.searchfile.specs.declared.Session as code
use Rattle.searchfile.specs.Promise.{given}
use Rattle.searchfile.specs.Turning.{counted_turn, answered_turn, OneTurned}
use Rattle.searchfile.proofs.OneResult.{one_answer}

-- number and parameters are what the turning function left; the rest of the session is that which came in
pub turn-told : (s : code.Session) (n : ℕ) (p : Description) (f marks g m : List ℕ) → turn_left n p g m ≡ turning s.desc s.opened f marks
    → answered_turn
    (record {
      number = n;
      transfers = 0;
      session =
          record { desc = p; opened = s.opened; current = s.current; flag = s.flag; placed = s.placed; position = s.position };
    })
    g m
    ≡ counted_turn (turn_file (given s f [] []) marks)
unfolding turn_file describing
turn-told s n p f marks g m e = λ j. record {
  outcome = record {
    number = (e j).number;
    transfers = 0;
    after = record {
      session = record {
        desc = (e j).desc;
        opened = s.opened;
        current = s.current;
        flag = s.flag;
        placed = s.placed;
        position = s.position;
      };
      file = (e j).file;
      buffer = [];
      work = [];
    };
  };
  marks = (e j).marks;
}

pub one-turned : OneTurned
one-turned o r s f g m n a b =
    let e : answered_turn r f m ≡ answered_turn s g n = a ∙ sym b in
    let z = one_answer o.outcome r s f g [] [] [] [] (λ i. (a i).outcome) (λ i. (b i).outcome) in
    (z.0, z.1, λ i. (e i).marks)
