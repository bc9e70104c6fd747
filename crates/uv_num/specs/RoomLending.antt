-- What a room is once a borrow of its items ends.
use Rattle.std.specs.Prelude.{ℕ, List, ◌++◌, take, drop, length, slice_set}
use Rattle.std.specs.Borrow.{Lends, MutBor, Fml, Array, RattleType}
use Rattle.uv_num.specs.contracts.room.Room.{the_row}

module _ (T Most : RattleType) (s : MutBor (List T.Denot)) where
  -- the items are those that the slice shows last
  abbrev pub lends_slice : MutBor (List T.Denot) → Fml
  lends_slice r = Lends (the_row T Most) (Array T 0) s r (λ w. take (length s.now) (w ++ drop (length w) s.now))

  -- the item at that place is the last one written
  abbrev pub lends_item : ℕ → MutBor T.Denot → Fml
  lends_item at r = Lends (the_row T Most) T s r (λ w. slice_set s.now at w)
