-- Pieces of parts have bytes, and all together no more than are asked for.
use Rattle.std.proofs.Common.{◌≡◌, ◌==◌, cond, false, ℕ, zero, suc, ◌+◌, ◌-◌, ◌≤◌, true, List, [], ◌∷◌, ◌++◌, length, drop, refl, sym, ap, ◌∙◌, arith}
use Rattle.std.proofs.lemmas.List.{append-nil, drop_all}
use Rattle.std.proofs.lemmas.List.Sums.{sum_by-cons}
use Rattle.uv_region.specs.declared.piece.Piece.{Piece}
use Rattle.uv_region.specs.Several.{all_have_bytes, piece_length, pieces_length}
use Rattle.uv_wr.specs.declared.work.Sge.{Sge}
use Rattle.uv_qp.specs.Pieces.{piece_of, pieces, within_part}

full_with : (part : Sge) (from n : ℕ) (rest : List Piece) → all_have_bytes rest ≡ true → all_have_bytes (piece_of part from n ++ rest) ≡ true
full_with part from zero rest h = h
full_with part from (suc n) rest h = grind (arith, h)

pub pieces_full : (parts : List Sge) (from count : ℕ) → all_have_bytes (pieces parts from count) ≡ true
pieces_full [] from count = refl
pieces_full (part ∷ parts) from count =
    full_with part from (within_part part.length from count) (pieces parts (from - part.length) (count - within_part part.length from count)) (pieces_full parts (from - part.length) (count - within_part part.length from count))

few_with : (part : Sge) (from n count : ℕ) (rest : List Piece) → n ≤ count → pieces_length rest ≤ count - n → pieces_length (piece_of part from n ++ rest) ≤ count
few_with part from zero count rest less h = omega (arith, h)
few_with part from (suc n) count rest less h =
    let p : Piece = record { key = part.key; offset = part.offset + from; length = suc n } in
    let some : (suc n == 0) ≡ false = grind arith in
    let here : pieces_length (piece_of part from (suc n) ++ rest) ≡ pieces_length (p ∷ rest) = ap (λ b. pieces_length (cond b [] (p ∷ []) ++ rest)) some in
    let one : pieces_length (p ∷ rest) ≡ suc n + pieces_length rest = sum_by-cons piece_length p rest in
    omega (arith, less, h, here, one)

pub pieces_few : (parts : List Sge) (from count : ℕ) → pieces_length (pieces parts from count) ≤ count
pieces_few [] from count = omega arith
pieces_few (part ∷ parts) from count =
    few_with part from (within_part part.length from count) count (pieces parts (from - part.length) (count - within_part part.length from count)) (omega arith)
    (pieces_few parts (from - part.length) (count - within_part part.length from count))

-- what was found is all, once no part is left
pub all_found : (found : List Piece) (parts : List Sge) (place at left from count : ℕ) → length parts ≤ place
    → found ++ pieces (drop place parts) at left ≡ pieces parts from count → found ≡ pieces parts from count
all_found found parts place at left from count less h =
    sym (append-nil found) ∙ sym (ap (λ ps. found ++ pieces ps at left) (drop_all place parts less)) ∙ h
