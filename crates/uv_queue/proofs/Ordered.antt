-- Nothing is lost, doubled or overtaken.
use Rattle.std.proofs.Common.{List, [], ◌∷◌, ◌++◌, ap, sym, ◌∙◌, append_assoc, append-nil}
use Rattle.uv_queue.specs.Turns.{Turn, IsInOrder, came_in}
use Rattle.uv_queue.specs.Turns.Turn.{Comes, Leaves}

pub in_order : {X : Type 0} (xs : List X) (turns : List (Turn X)) → IsInOrder xs turns
in_order xs [] = sym (append-nil xs)
in_order xs (Comes x ∷ turns) = in_order (xs ++ x ∷ []) turns ∙ append_assoc xs (x ∷ []) (came_in turns)
in_order [] (Leaves ∷ turns) = in_order [] turns
in_order (x ∷ xs) (Leaves ∷ turns) = ap (λ ys. x ∷ ys) (in_order xs turns)
