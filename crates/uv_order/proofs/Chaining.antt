-- What a chain of takings of one list comes to.
use Rattle.std.proofs.Common.{sym, ap, ◌∙◌, [], ◌∷◌, ◌++◌, append_assoc, append-nil as append_nil}
use Rattle.std.specs.Prelude.{flat_map}
use Rattle.std.proofs.lemmas.List.Concat.{flat_map-cons}
use Rattle.uv_order.specs.Rings.{FirstInFirstOut, WholeIsAdded}

pub in_order : (X C : Type 0) → FirstInFirstOut X C
in_order X C entered left polled pushed p [] o even c = c ∙ sym (append_nil p)
in_order X C entered left polled pushed p (x ∷ xs) o even c =
    let r = in_order X C entered left polled pushed (left x) xs o even.1 c.1 in
    ap (λ l. l ++ o) (flat_map-cons polled x xs)
    ∙ (append_assoc (polled x) (flat_map polled xs) o
    ∙ (ap (λ l. polled x ++ l) r
    ∙ (sym (append_assoc (polled x) (left x) (flat_map pushed xs))
    ∙ (ap (λ l. l ++ flat_map pushed xs) even.0
    ∙ (append_assoc (entered x) (pushed x) (flat_map pushed xs)
    ∙ (ap (λ l. l ++ (pushed x ++ flat_map pushed xs)) c.0
    ∙ ap (λ l. p ++ l) (sym (flat_map-cons pushed x xs))))))))

pub all_added : (X C : Type 0) → WholeIsAdded X C
all_added X C entered left added p [] o grows c = c ∙ sym (append_nil p)
all_added X C entered left added p (x ∷ xs) o grows c =
    all_added X C entered left added (left x) xs o grows.1 c.1
    ∙ (ap (λ l. l ++ flat_map added xs) (grows.0 ∙ ap (λ l. l ++ added x) c.0)
    ∙ (append_assoc p (added x) (flat_map added xs) ∙ ap (λ l. p ++ l) (sym (flat_map-cons added x xs))))
