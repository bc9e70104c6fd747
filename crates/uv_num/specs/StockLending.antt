-- What a stock is once a borrow of its items ends.
use Rattle.std.specs.Prelude.{ℕ, List, ◌++◌, take, drop, length, slice_set}
use Rattle.std.specs.Borrow.{Lends, MutBor, Fml, Array, RattleType}
use Rattle.uv_num.specs.Stocked.{Stocked}
use Rattle.uv_num.specs.contracts.stock.Stock.{the_row}

module _ (T : RattleType) (s : MutBor (Stocked T.Denot)) where
  -- the items are those that the slice shows last, and the room is as before
  abbrev pub lends_slice : MutBor (List T.Denot) → Fml
  lends_slice r =
      Lends (the_row T) (Array T 0) s r (λ w. record { items = take (length s.now.items) (w ++ drop (length w) s.now.items); room = s.now.room })

  -- the item at that place is the last one written, and the room is as before
  abbrev pub lends_item : ℕ → MutBor T.Denot → Fml
  lends_item at r = Lends (the_row T) T s r (λ w. record { items = slice_set s.now.items at w; room = s.now.room })
