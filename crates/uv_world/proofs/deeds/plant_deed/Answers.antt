use Rattle.std.proofs.Common.{Some, refl, sym, ap}
use Rattle.uv_world.proofs.deeds.plant_deed.Goals as goal

pub returns : goal.returns
returns c = λ out lives told same new. record {
  kind = new.kind;
  index = new.index;
  generation = new.generation;
  spent = new.spent;
  planted = refl;
  identity = ap Some (sym same);
  lives = tt;
}
