-- The shares of the packets of a work, one after another.
use Rattle.std.proofs.Common.{◌≡◌, ℕ, zero, suc, ◌+◌, ◌-◌, ◌*◌, ◌/◌, ◌%◌, ◌<◌, ◌≤◌, min, false, List, ◌++◌, length, take, drop, sym, ap, ◌∙◌, arith, rules, append-nil, take-add, cond, ◌==◌}
use Rattle.std.proofs.Math.Nat.{mod-eq-sub-div-mul, mod-lt}
use Rattle.std.proofs.lemmas.List.{drop-drop, length-drop, take_all, take_min}
use Rattle.std.specs.List.{range_with_len, flat_map}
use Rattle.uv_qp.specs.PacketCounts.{packets_in}
use Rattle.uv_wr.specs.declared.work.Op.{Op}
use Rattle.uv_wr.specs.declared.work.Op.TheVariants.{Send, SendImm, Write, WriteImm, Read, Ud, UdImm}
use Rattle.uv_requester.specs.Segments.{op_requests, op_share}
use Rattle.uv_requester.specs.SendPlaces.{is_read_op}

-- the bytes of a place
abbrev piece_at : ℕ → List ℕ → ℕ → List ℕ
piece_at mtu bytes at = take (min mtu (length bytes - at * mtu)) (drop (at * mtu) bytes)

-- as many as the path MTU, if there are so many
piece_is : (mtu : ℕ) (bytes : List ℕ) (at : ℕ) → piece_at mtu bytes at ≡ take mtu (drop (at * mtu) bytes)
piece_is mtu bytes at =
    let n : length (drop (at * mtu) bytes) ≡ length bytes - at * mtu = length-drop (at * mtu) bytes in
    ap (λ m. take (min mtu m) (drop (at * mtu) bytes)) (sym n) ∙ take_min mtu (drop (at * mtu) bytes)

none : (mtu : ℕ) → 0 * mtu ≡ 0
none mtu = omega arith

one_more : (a mtu : ℕ) → (a + 1) * mtu ≡ a * mtu + mtu
one_more a mtu = search (arith, rules)

one_first : (n mtu : ℕ) → mtu + n * mtu ≡ suc n * mtu
one_first n mtu = search (arith, rules)

-- so many pieces from a place on
joined : (mtu : ℕ) (bytes : List ℕ) (a n : ℕ) → flat_map (piece_at mtu bytes) (range_with_len a n) ≡ take (n * mtu) (drop (a * mtu) bytes)
joined mtu bytes a zero = ap (λ k. take k (drop (a * mtu) bytes)) (sym (none mtu))
joined mtu bytes a (suc n) =
    ap (λ xs. xs ++ flat_map (piece_at mtu bytes) (range_with_len (a + 1) n)) (piece_is mtu bytes a)
    ∙ ap (λ xs. take mtu (drop (a * mtu) bytes) ++ xs) (joined mtu bytes (a + 1) n)
    ∙ ap (λ k. take mtu (drop (a * mtu) bytes) ++ take (n * mtu) (drop k bytes)) (one_more a mtu)
    ∙ ap (λ xs. take mtu (drop (a * mtu) bytes) ++ take (n * mtu) xs) (sym (drop-drop mtu (a * mtu) bytes))
    ∙ sym (take-add mtu (n * mtu) (drop (a * mtu) bytes))
    ∙ ap (λ k. take k (drop (a * mtu) bytes)) (one_first n mtu)

-- the packets of so many bytes have room for them
enough : (mtu size : ℕ) → 256 ≤ mtu → size ≤ packets_in mtu size * mtu
enough mtu zero some = omega arith
enough mtu (suc n) some =
    let m : ℕ = suc n + (mtu - 1) in
    let over : m % mtu ≡ m - m / mtu * mtu = mod-eq-sub-div-mul m mtu in
    let less : m % mtu < mtu = mod-lt m (omega (arith, some)) in
    let e : (suc n == 0) ≡ false = grind arith in
    let is : packets_in mtu (suc n) * mtu ≡ m / mtu * mtu = ap (λ b. cond b 1 (m / mtu) * mtu) e in
    omega (arith, over, less, some, is)

whole : (mtu : ℕ) (bytes : List ℕ) → 256 ≤ mtu → flat_map (piece_at mtu bytes) (range_with_len 0 (packets_in mtu (length bytes))) ≡ bytes
whole mtu bytes some =
    joined mtu bytes 0 (packets_in mtu (length bytes))
    ∙ ap (λ k. take (packets_in mtu (length bytes) * mtu) (drop k bytes)) (none mtu)
    ∙ take_all (packets_in mtu (length bytes) * mtu) bytes (enough mtu (length bytes) some)

one_whole : (mtu : ℕ) (bytes : List ℕ) → flat_map (λ at. take (length bytes) (drop (at * mtu) bytes)) (range_with_len 0 1) ≡ bytes
one_whole mtu bytes =
    append-nil (take (length bytes) (drop (0 * mtu) bytes))
    ∙ ap (λ k. take (length bytes) (drop k bytes)) (none mtu)
    ∙ take_all (length bytes) bytes (omega arith)

pub nothing_lost : (o : Op) (mtu : ℕ) (bytes : List ℕ) → 256 ≤ mtu → is_read_op o ≡ false
    → flat_map (λ at. take (op_share mtu o (length bytes) at) (drop (at * mtu) bytes)) (range_with_len 0 (op_requests mtu o (length bytes))) ≡ bytes
nothing_lost Send mtu bytes some sends = whole mtu bytes some
nothing_lost (SendImm imm) mtu bytes some sends = whole mtu bytes some
nothing_lost (Write at key) mtu bytes some sends = whole mtu bytes some
nothing_lost (WriteImm at key imm) mtu bytes some sends = whole mtu bytes some
nothing_lost (Read at key) mtu bytes some sends = grind (arith, sends)
nothing_lost (Ud device qp qkey) mtu bytes some sends = one_whole mtu bytes
nothing_lost (UdImm device qp qkey imm) mtu bytes some sends = one_whole mtu bytes
