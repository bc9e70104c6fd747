use Rattle.std.proofs.Common.{◌+◌, take, drop, ap, subst, ◌∙◌}
use Rattle.uv_desk.specs.Gathering.{IsPlaceOf}
use Rattle.uv_desk.proofs.Drawing.{split_at}
use Rattle.uv_desk.proofs.closing.draw.Goals as goal

pub returns : goal.returns
returns g c =
    let seats = c.args.seats.now.items in let at = c.place_of-at.result in
    let is = subst (λ l. IsPlaceOf c.args.number l at) c.as_slice.ensures.value c.place_of-at.ensures in
    record {
      front = take at seats;
      back = drop (at + 1) seats;
      stood = split_at seats at c.remove.result is.0 c.remove.ensures.value;
      left_is = c.remove.ensures.by_index.2;
      number_is = ap (λ s. s.number) c.remove.ensures.value ∙ is.1 c.remove.result;
    }
