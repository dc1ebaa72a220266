-- Two results allowed by the tray's promise are equal.
use mathlib.Core.Path.{◌≡◌, sym, ◌∙◌}
use Rattle.tray.specs.Promise.{answered_tray, OneTrayed}

pub one-trayed : OneTrayed
one-trayed o r s f g b d x y =
    let e : answered_tray r f b ≡ answered_tray s g d = x ∙ sym y in (
      λ i. record {
        stored = (e i).stored;
        number = (e i).number;
        transfers = (e i).transfers;
        session = record {
          desc = (e i).after.session.desc;
          opened = (e i).after.session.opened;
          current = (e i).after.session.current;
          flag = (e i).after.session.flag;
          placed = (e i).after.session.placed;
          position = (e i).after.session.position;
        };
      },
      λ i. (e i).after.file,
      λ i. (e i).after.buffer,
    )
