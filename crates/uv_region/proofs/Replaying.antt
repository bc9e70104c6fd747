-- Laws of replays.
use Rattle.std.proofs.Common.{◌≡◌, ℕ, ◌+◌, ◌≤◌, List, [], ◌∷◌, ◌++◌, length, take, drop, refl, arith, length-append, length-drop}
use Rattle.std.proofs.lemmas.List.{length-take-le, take_at}
use Rattle.uv_region.specs.Actions.{PlainAction}
use Rattle.uv_region.specs.Replay.{standing, overwritten, effect, replay_from, HoldsRead, ReadsHold}

-- one more action
pub replay_from-snoc : (bytes : List ℕ) (actions : List PlainAction) (a : PlainAction) → replay_from bytes (actions ++ a ∷ []) ≡ effect a (replay_from bytes actions)
replay_from-snoc bytes [] a = refl
replay_from-snoc bytes (x ∷ rest) a = replay_from-snoc (effect x bytes) rest a

-- one more read, which holds the bytes of its turn
pub ReadsHold-snoc : (bytes : List ℕ) (actions : List PlainAction) (a : PlainAction) → ReadsHold bytes actions → HoldsRead (replay_from bytes actions) a → ReadsHold bytes (actions ++ a ∷ [])
ReadsHold-snoc bytes [] a hold one = (one, tt)
ReadsHold-snoc bytes (x ∷ rest) a hold one = (hold.0, ReadsHold-snoc (effect x bytes) rest a hold.1 one)

-- what stands at a place inside is as long as asked
pub length-standing : (a : PlainAction) (bytes : List ℕ) → a.offset + a.length ≤ length bytes → length (standing a bytes) ≡ a.length
length-standing a bytes inside =
    let enough : a.length ≤ length (drop a.offset bytes) = omega (arith, length-drop a.offset bytes) in
    length-take-le a.length (drop a.offset bytes) enough

-- a piece inside leaves the length
pub length-overwritten : (at : ℕ) (piece bytes : List ℕ) → at + length piece ≤ length bytes → length (overwritten at piece bytes) ≡ length bytes
length-overwritten at piece bytes inside =
    let front : at ≤ length bytes = omega arith in
    omega (arith, length-append (take at bytes ++ piece) (drop (at + length piece) bytes), length-append (take at bytes) piece, length-take-le at bytes front, length-drop (at + length piece) bytes)

-- what a buffer holds when a borrow of all its bytes ends
pub written_back : (n : ℕ) (now was : List ℕ) → length now ≡ n → length was ≡ n → take n (now ++ drop (length now) was) ≡ now
written_back n now was same whole = take_at now (drop (length now) was) n same
