-- What the seats know as they are made and joined.
use Rattle.std.specs.Prelude.{ℕ, true, false, List, [], ◌∷◌, Option, Some, None}
use Rattle.uv_order.specs.declared.signed.Signed.{Signed}
use Rattle.uv_order.specs.Signed.{nobody, sign}
use Rattle.uv_desk.specs.declared.view.View.{View}
use Rattle.uv_desk.specs.declared.view.Kept.{Kept}

module _ {M E O : Type 0} where
  -- the first seat, over a machine with this history and with this own part of the seat
  abbrev pub newcomer : M → List E → O → View M E O
  newcomer m history own = record { numbered = true; number = 0; ticket = None; held = None; seen = sign nobody history; told = []; start = Some m; next = 1; whole = 1; joined = []; own = Some own }

  -- no seat, but one that carries what a seat had seen
  abbrev pub guest : List (Signed E) → View M E O
  guest seen = record { numbered = false; number = 0; ticket = None; held = None; seen = seen; told = []; start = None; next = 0; whole = 0; joined = []; own = None }

  -- the seat that the first one makes next
  abbrev pub further : (M → ℕ → O) → View M E O → Option M → View M E O
  further own v None = guest []
  further own v (Some m) = record { numbered = true; number = v.next; ticket = None; held = None; seen = v.seen; told = []; start = None; next = 0; whole = 0; joined = []; own = Some (own m v.next) }

  -- what is kept of a seat that is joined to the first
  abbrev pub kept : View M E O → Kept E O
  kept w = record { number = w.number; seen = w.seen; own = w.own }

  -- the first seat, with one more that is joined to it, for the numbers from `whole` on
  abbrev pub with_kept : View M E O → Kept E O → ℕ → View M E O
  with_kept v k whole = record v { whole = whole; joined = k ∷ v.joined }
