-- The completions of works that end one after another.
use Rattle.std.proofs.Common.{◌≡◌, ℕ, zero, suc, ◌+◌, ◌<◌, true, is_some, length, List, [], ◌∷◌, ◌++◌, map, take, drop, slice_get, Option, None, Some, refl, ◌∙◌, ap, arith}
use Rattle.std.specs.Option.{option_map, option_to_list}
use Rattle.uv_qp.specs.declared.state.Names.{Names}
use Rattle.uv_qp.specs.Pairs.{Paired}
use Rattle.uv_qp.specs.Writers.{send_completion, send_ended}
use Rattle.uv_queue.specs.Order.{oldest}
use Rattle.uv_wr.specs.declared.completion.Completion.{Completion}
use Rattle.uv_wr.specs.declared.completion.Status.{Status}
use Rattle.uv_wr.specs.declared.completion.Status.TheVariants.{Success}
use Rattle.uv_wr.specs.Works.{Sending}
use Rattle.uv_completer.specs.Replies.{failure_at, succeeded, successes}

-- what stays when a send ends

without_first : {X : Type 0} (xs : List X) → slice_get xs 0 ≡ None → xs ≡ drop 1 xs
without_first [] h = refl
without_first (x ∷ xs) h = cc

ended_rest : (p : Paired) (status : Status) (o : Option Sending) → oldest p.sends.works ≡ o → (send_ended p status o).sends.works ≡ drop 1 p.sends.works
ended_rest p status None h = without_first p.sends.works h
ended_rest p status (Some w) h = refl

ended_names : (p : Paired) (status : Status) (o : Option Sending) → (send_ended p status o).names ≡ p.names
ended_names p status None = refl
ended_names p status (Some w) = refl

ended_state : (p : Paired) (status : Status) (o : Option Sending) → (send_ended p status o).state ≡ p.state
ended_state p status None = refl
ended_state p status (Some w) = refl

later : {X : Type 0} (xs : List X) (n : ℕ) → drop 1 (drop n xs) ≡ drop (suc n) xs
later xs zero = refl
later [] (suc n) = refl
later (x ∷ xs) (suc n) = later xs n

pub succeeded_rest : (p : Paired) (n : ℕ) → (succeeded p n).sends.works ≡ drop n p.sends.works
succeeded_rest p zero = refl
succeeded_rest p (suc n) =
    ended_rest (succeeded p n) Success (oldest (succeeded p n).sends.works) refl
    ∙ ap (drop 1) (succeeded_rest p n) ∙ later p.sends.works n

pub succeeded_names : (p : Paired) (n : ℕ) → (succeeded p n).names ≡ p.names
succeeded_names p zero = refl
succeeded_names p (suc n) = ended_names (succeeded p n) Success (oldest (succeeded p n).sends.works) ∙ succeeded_names p n

pub succeeded_state : (p : Paired) (n : ℕ) → (succeeded p n).state ≡ p.state
succeeded_state p zero = refl
succeeded_state p (suc n) = ended_state (succeeded p n) Success (oldest (succeeded p n).sends.works) ∙ succeeded_state p n

-- the first item after so many is the one at that place
first_after : {X : Type 0} (xs : List X) (n : ℕ) → slice_get (drop n xs) 0 ≡ slice_get xs n
first_after xs zero = refl
first_after [] (suc n) = refl
first_after (x ∷ xs) (suc n) = first_after xs n

-- the completion of the send that ends next
pub next_completion : (p : Paired) (n : ℕ) (status : Status) → option_map (send_completion (succeeded p n).names status) (oldest (succeeded p n).sends.works) ≡ option_map (send_completion p.names status) (slice_get p.sends.works n)
next_completion p n status =
    ap (λ (names : Names). option_map (send_completion names status) (oldest (succeeded p n).sends.works)) (succeeded_names p n)
    ∙ ap (λ (works : List Sending). option_map (send_completion p.names status) (oldest works)) (succeeded_rest p n)
    ∙ ap (option_map (send_completion p.names status)) (first_after p.sends.works n)

-- one is there
there : {X : Type 0} (xs : List X) (n : ℕ) → n < length xs → is_some (slice_get xs n) ≡ true
there [] n h = absurd (omega (arith, h))
there (x ∷ xs) zero h = refl
there (x ∷ xs) (suc n) h = there xs n (omega (arith, h))

pub has_next : (p : Paired) (n : ℕ) → n < length p.sends.works → is_some (oldest (succeeded p n).sends.works) ≡ true
has_next p n h =
    ap (λ (works : List Sending). is_some (oldest works)) (succeeded_rest p n)
    ∙ ap (λ (o : Option Sending). is_some o) (first_after p.sends.works n)
    ∙ there p.sends.works n h

-- one more item is taken
pub taken_next : {X Y : Type 0} (f : X → Y) (xs : List X) (n : ℕ) → map f (take (suc n) xs) ≡ map f (take n xs) ++ option_to_list (option_map f (slice_get xs n))
taken_next f [] zero = refl
taken_next f (x ∷ xs) zero = refl
taken_next f [] (suc n) = refl
taken_next f (x ∷ xs) (suc n) = ap (λ ys. f x ∷ ys) (taken_next f xs n)

pub one_of : {X : Type 0} (o : Option X) (x : X) → Some x ≡ o → option_to_list o ≡ x ∷ []
one_of None x h = cc
one_of (Some y) x h = cc

pub successes_next : (p : Paired) (n : ℕ) (c : Completion) → Some c ≡ option_map (send_completion (succeeded p n).names Success) (oldest (succeeded p n).sends.works) → successes p (n + 1) ≡ successes p n ++ c ∷ []
successes_next p n c h =
    let one : option_to_list (option_map (send_completion p.names Success) (slice_get p.sends.works n)) ≡ c ∷ [] = one_of (option_map (send_completion p.names Success) (slice_get p.sends.works n)) c (h ∙ next_completion p n Success) in
    let more : n + 1 ≡ suc n = omega arith in
    ap (successes p) more ∙ taken_next (send_completion p.names Success) p.sends.works n ∙ ap (λ ys. successes p n ++ ys) one

pub failure_told : (p : Paired) (n : ℕ) (status : Status) (c : Completion) → Some c ≡ option_map (send_completion (succeeded p n).names status) (oldest (succeeded p n).sends.works) → failure_at p n status ≡ c ∷ []
failure_told p n status c h = one_of (option_map (send_completion p.names status) (slice_get p.sends.works n)) c (h ∙ next_completion p n status)
