use Rattle.std.proofs.Common.{rules, ◌≡◌, ◌<◌, ap, sym, subst, ◌∙◌, length}
use Rattle.std.specs.Prelude.{slice_index_or}
use Rattle.uv_desk.specs.Laws.{place}
use Rattle.uv_desk.proofs.Raced.{raced_all}
use Rattle.uv_desk.proofs.tests.race_all.Goals as goal

pub returns : goal.returns
returns g c =
    let v = c.as_mut_slice.ensures.value in
    let n : c.args.seats.now.len ≡ length c.args.seats.now.items = search rules in
    raced_all c.places_are_all.ensures _ c.args.seats.now.items c.race.new.seats _ c.requires.all (c.race.ensures.len ∙ ap length v)
    (λ i d lt. c.race.ensures.places i d (subst (λ l. i < length l) (sym v) lt) ∙ ap (λ l. place (slice_index_or l i d)) v) n
