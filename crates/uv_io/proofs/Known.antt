-- Known bytes that grow, or are used up, in more than one step.
use Rattle.std.proofs.Common.{◌≡◌, ℕ, ◌+◌, ◌-◌, List, ◌++◌, length, take, drop, Option, None, Some, sym, ap, subst, ◌∙◌, append_assoc, arith, take-add, take_all, length-drop}
use Rattle.std.specs.Io.KnownBytes.{Appends, Consumes}

-- a read that gave ys behind reads that gave xs
pub consumes_more : (old mid new : Option (List ℕ)) (xs ys : List ℕ) → Consumes old mid xs → Consumes mid new ys → Consumes old new (xs ++ ys)
consumes_more None mid new xs ys before more = tt
consumes_more (Some a) None new xs ys before more = absurd before
consumes_more (Some a) (Some b) None xs ys before more = absurd more
consumes_more (Some a) (Some b) (Some c) xs ys before more = before ∙ ap (λ v. xs ++ v) more ∙ sym (append_assoc xs ys c)

-- a write that took ys behind writes that took xs
pub appends_more : (old mid new : Option (List ℕ)) (xs ys : List ℕ) → Appends old mid xs → Appends mid new ys → Appends old new (xs ++ ys)
appends_more None mid new xs ys before more = tt
appends_more (Some a) None new xs ys before more = absurd before
appends_more (Some a) (Some b) None xs ys before more = absurd more
appends_more (Some a) (Some b) (Some c) xs ys before more = more ∙ ap (λ v. v ++ ys) before ∙ append_assoc a xs ys

-- a write that took the first `count` of the bytes behind the first `done`
pub appends_next : (old mid new : Option (List ℕ)) (bytes : List ℕ) (done count : ℕ) → Appends old mid (take done bytes) → Appends mid new (take count (take (length bytes - done) (drop done bytes))) → Appends old new (take (done + count) bytes)
appends_next old mid new bytes done count before more =
    let P : List ℕ → Type 0 = λ v. Appends old new (take done bytes ++ take count v) in
    let Q : List ℕ → Type 0 = λ v. Appends old new v in
    let whole : take (length bytes - done) (drop done bytes) ≡ drop done bytes = take_all _ _ (omega (arith, length-drop done bytes)) in
    subst Q (sym (take-add done count bytes)) (subst P whole (appends_more old mid new _ _ before more))
