-- The entries in front of the end of a script.
use Rattle.std.proofs.Common.{◌≡◌, ℕ, zero, suc, ◌<◌, List, [], ◌∷◌, ◌++◌, length, get_or, take, drop, drop-cons, append-nil, refl, sym, ◌∙◌, ap, subst, arith, true, false}
use Rattle.std.proofs.Math.Seq.{take-length, drop-length}
use Rattle.uv_machine.specs.declared.entry.Entry.{Entry}
use Rattle.uv_model.specs.Gone.{begins, before_end}

-- these entries stand in front, and of the others those that do
abbrev pub IsBefore : List Entry → ℕ → Type 0
IsBefore es i = take i es ++ before_end (drop i es) ≡ before_end es

-- an entry that doesn't begin the end stands in front
next : (d : Entry) (es : List Entry) (i : ℕ) → i < length es → begins (get_or es i d) ≡ false → take (suc i) es ++ before_end (drop (suc i) es) ≡ take i es ++ before_end (drop i es)
next d [] i within other = absurd (omega arith)
next d (e ∷ es) zero within other = rw other refl
next d (e ∷ es) (suc i) within other = ap (λ v. e ∷ v) (next d es i (omega arith) other)

pub before-next : (d : Entry) (es : List Entry) (i : ℕ) → i < length es → begins (get_or es i d) ≡ false → IsBefore es i → IsBefore es (suc i)
before-next d es i within other before = next d es i within other ∙ before

-- where an entry begins the end, no more stand in front
stop : (d : Entry) (es : List Entry) (i : ℕ) → i < length es → begins (get_or es i d) ≡ true → before_end (drop i es) ≡ []
stop d es i within at = rw (drop-cons es i d, at) refl

pub before-until : (d : Entry) (es : List Entry) (i : ℕ) → i < length es → begins (get_or es i d) ≡ true → IsBefore es i → take i es ≡ before_end es
before-until d es i within at before =
    sym (append-nil (take i es)) ∙ (ap (λ v. take i es ++ v) (sym (stop d es i within at)) ∙ before)

-- where none begins it, they are all
pub before-all : (es : List Entry) (i : ℕ) → i ≡ length es → IsBefore es i → es ≡ before_end es
before-all es i end before =
    let P : ℕ → Type 0 = IsBefore es in
    let whole : take (length es) es ++ before_end (drop (length es) es) ≡ es = rw (take-length es, drop-length es) (append-nil es) in
    sym whole ∙ subst P end before
