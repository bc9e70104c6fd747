-- The words of plans: what stands at a place, and what that says of the call.
use Rattle.std.proofs.Common.{◌≡◌, ℕ, zero, suc, ◌+◌, ◌<◌, ◌≤◌, Bool, true, false, List, [], ◌∷◌, ◌++◌, Option, Some, None, length, drop, replicate, refl, ap, sym, ◌∙◌, subst, arith, inl, inr, ◌⊎◌, ⊎_elim}
use Rattle.std.specs.Prelude.{slice_get, unwrap_or}
use Rattle.std.proofs.lemmas.Option.{none-some, same_Some}
use Rattle.std.proofs.lemmas.Bool.Decides.{nat_tests}
use Rattle.uv_num.specs.declared.errno.Errno.{Errno}
use Rattle.uv_num.specs.declared.ids.Ids.{Ids}
use Rattle.uv_num.specs.declared.ids.Ids.TheVariants.{Empty, One, Two, Three, Four}
use Rattle.uv_num.specs.declared.kind.Kind.{Kind}
use Rattle.uv_num.specs.declared.request.Act as request
use Rattle.uv_num.specs.declared.request.Ask.{Ask}
use Rattle.uv_num.specs.declared.request.Request.{Request}
use Rattle.uv_num.specs.declared.request.Request.TheVariants.{AllocPd, DeallocPd, CreateChannel, DestroyChannel, CreateCq, DestroyCq, CreateQp, DestroyQp, ModifyQp, QueryQp, CreateSrq, DestroySrq, CreateAh, DestroyAh, RegMr, DeregMr, AllocMw, DeallocMw, BindMw, GetAsync}
use Rattle.uv_num.specs.declared.request.Role.{Role}
use Rattle.uv_num.specs.declared.request.Role.TheVariants.{Creates, Destroys, Acts}
use Rattle.uv_num.specs.Looks.{looks_of}
use Rattle.uv_num.specs.Request.{role_of}
use Rattle.uv_machine.specs.declared.entry.Word.{Word}
use Rattle.uv_machine.specs.declared.entry.Word.TheVariants.{Reserve, Look, Make, Commit, Act, Lock, Check, Finish, Abort, Free, Exit}
use Rattle.uv_machine.specs.declared.call.InFlight.{InFlight}
use Rattle.uv_machine.specs.Plans.{plan_of, plan_for, freeing, closing_word, closing, word_behind, next_word, next_place}

-- The words of a plan.

-- what stands after so many looks
pub record IsBehind (ys : List Word) (n p : ℕ) (w : Word) : Type 0 where
  pub more : ℕ
  pub here : p ≡ n + more
  pub word : slice_get ys more ≡ Some w

behind_more : (ys : List Word) (n p : ℕ) (w : Word) → IsBehind ys n p w → IsBehind ys (suc n) (suc p) w
behind_more ys n p w b = record { more = b.more; here = omega (arith, b.here); word = b.word }

-- a word after looks is one of these, or stands after them
pub looks_then : (ys : List Word) (n p : ℕ) (w : Word) → slice_get (replicate n Look ++ ys) p ≡ Some w → ((w ≡ Look) × (p < n)) ⊎ IsBehind ys n p w
looks_then ys zero p w e = inr (record { more = p; here = omega arith; word = e })
looks_then ys (suc n) zero w e = inl (sym (same_Some Look w e), omega arith)
looks_then ys (suc n) (suc p) w e =
    ⊎_elim (λ k. inl (k.0, omega (arith, k.1))) (λ k. inr (behind_more ys n p w k)) (looks_then ys n p w e)

pub record IsCreating (role : Role) (place here : ℕ) : Type 0 where
  pub kind : Kind
  pub creates : role ≡ Creates kind
  pub at : place ≡ here

pub record IsDestroying (role : Role) (place here : ℕ) : Type 0 where
  pub asked : Ask
  pub destroys : role ≡ Destroys asked
  pub at : place ≡ here

pub record IsActing (role : Role) (place here : ℕ) : Type 0 where
  pub act : request.Act
  pub acts : role ≡ Acts act
  pub at : place ≡ here

-- a create looks after its Reserve, an act at once
pub record IsCreateLook (role : Role) (looks place : ℕ) : Type 0 where
  pub kind : Kind
  pub creates : role ≡ Creates kind
  pub from : 1 ≤ place
  pub to : place ≤ looks

pub record IsActLook (role : Role) (looks place : ℕ) : Type 0 where
  pub act : request.Act
  pub acts : role ≡ Acts act
  pub to : place < looks

-- where a word of a plan stands
abbrev pub StandsAt : Role → ℕ → ℕ → Word → Type 0
StandsAt role looks place Reserve = IsCreating role place 0
StandsAt role looks place Look = IsCreateLook role looks place ⊎ IsActLook role looks place
StandsAt role looks place Make = IsCreating role place (looks + 1)
StandsAt role looks place Commit = IsCreating role place (looks + 2)
StandsAt role looks place Act = IsActing role place looks
StandsAt role looks place Lock = IsDestroying role place 0
StandsAt role looks place Check = IsDestroying role place 1
StandsAt role looks place Finish = IsDestroying role place 2
StandsAt role looks place Abort = ⊥
StandsAt role looks place Free = ⊥
StandsAt role looks place Exit = ⊥

stands_by : (role : Role) (looks place : ℕ) (v w : Word) → v ≡ w → StandsAt role looks place v → StandsAt role looks place w
stands_by role looks place v w e s = let P : Word → Type 0 = λ x. StandsAt role looks place x in subst P e s

made_stands : (kind : Kind) (looks p more : ℕ) (w : Word) → p ≡ looks + more → slice_get (Make ∷ Commit ∷ []) more ≡ Some w → StandsAt (Creates kind) looks (suc p) w
made_stands kind looks p zero w here e =
    stands_by (Creates kind) looks (suc p) Make w (same_Some Make w e) (record { kind = kind; creates = refl; at = omega arith })
made_stands kind looks p (suc zero) w here e =
    stands_by (Creates kind) looks (suc p) Commit w (same_Some Commit w e) (record { kind = kind; creates = refl; at = omega arith })
made_stands kind looks p (suc (suc more)) w here e = absurd (none-some w e)

acted_stands : (act : request.Act) (looks p more : ℕ) (w : Word) → p ≡ looks + more → slice_get (Act ∷ []) more ≡ Some w → StandsAt (Acts act) looks p w
acted_stands act looks p zero w here e =
    stands_by (Acts act) looks p Act w (same_Some Act w e) (record { act = act; acts = refl; at = omega arith })
acted_stands act looks p (suc more) w here e = absurd (none-some w e)

pub stands : (role : Role) (looks place : ℕ) (w : Word) → slice_get (plan_of role looks) place ≡ Some w → StandsAt role looks place w
stands (Creates kind) looks zero w e =
    stands_by (Creates kind) looks 0 Reserve w (same_Some Reserve w e) (record { kind = kind; creates = refl; at = refl })
stands (Creates kind) looks (suc p) w e =
    ⊎_elim
    (λ k. stands_by (Creates kind) looks (suc p) Look w (sym k.0) (inl (record { kind = kind; creates = refl; from = omega arith; to = omega (arith, k.1) })))
    (λ k. made_stands kind looks p k.more w k.here k.word)
    (looks_then (Make ∷ Commit ∷ []) looks p w e)
stands (Destroys asked) looks zero w e =
    stands_by (Destroys asked) looks 0 Lock w (same_Some Lock w e) (record { asked = asked; destroys = refl; at = refl })
stands (Destroys asked) looks (suc zero) w e =
    stands_by (Destroys asked) looks 1 Check w (same_Some Check w e) (record { asked = asked; destroys = refl; at = refl })
stands (Destroys asked) looks (suc (suc zero)) w e =
    stands_by (Destroys asked) looks 2 Finish w (same_Some Finish w e) (record { asked = asked; destroys = refl; at = refl })
stands (Destroys asked) looks (suc (suc (suc more))) w e = absurd (none-some w e)
stands (Acts act) looks p w e =
    ⊎_elim
    (λ k. stands_by (Acts act) looks p Look w (sym k.0) (inr (record { act = act; acts = refl; to = k.1 })))
    (λ k. acted_stands act looks p k.more w k.here k.word)
    (looks_then (Act ∷ []) looks p w e)

-- How many looks there are.

looks_if_few : (request : Request) → length (looks_of request) ≤ 4
looks_if_few AllocPd = omega arith
looks_if_few (DeallocPd pd) = omega arith
looks_if_few CreateChannel = omega arith
looks_if_few (DestroyChannel channel) = omega arith
looks_if_few (CreateCq depth None) = omega arith
looks_if_few (CreateCq depth (Some channel)) = omega arith
looks_if_few (DestroyCq cq) = omega arith
looks_if_few (CreateQp pd send_cq recv_cq None service send_depth recv_depth) = omega arith
looks_if_few (CreateQp pd send_cq recv_cq (Some srq) service send_depth recv_depth) = omega arith
looks_if_few (DestroyQp qp) = omega arith
looks_if_few (ModifyQp qp to attrs) = omega arith
looks_if_few (QueryQp qp) = omega arith
looks_if_few (CreateSrq pd depth) = omega arith
looks_if_few (DestroySrq srq) = omega arith
looks_if_few (CreateAh pd device) = omega arith
looks_if_few (DestroyAh ah) = omega arith
looks_if_few (RegMr pd length access) = omega arith
looks_if_few (DeregMr mr) = omega arith
looks_if_few (AllocMw pd) = omega arith
looks_if_few (DeallocMw mw) = omega arith
looks_if_few (BindMw mw None offset length access) = omega arith
looks_if_few (BindMw mw (Some mr) offset length access) = omega arith
looks_if_few GetAsync = omega arith

pub looks_few : (request : Request) → length (looks_of request) ≤ 4
looks_few request = looks_if_few request

-- The next word of a call.

-- the word is one of the call's plan, and no refusal was met
pub record InPlan (call : InFlight) (w : Word) : Type 0 where
  pub fine : call.refusal ≡ None
  pub planned : slice_get (plan_for call.request) call.place ≡ Some w

-- the call is after its plan, or after a refusal
abbrev pub IsClosing : InFlight → Type 0
IsClosing call = call.refusal ≡ None → slice_get (plan_for call.request) call.place ≡ None

planned_or_closing : (call : InFlight) (w : Word) (o : Option Word) → call.refusal ≡ None → slice_get (plan_for call.request) call.place ≡ o → unwrap_or o (closing call) ≡ w → InPlan call w ⊎ (IsClosing call × (closing call ≡ w))
planned_or_closing call w None fine is e = inr ((λ _. is), e)
planned_or_closing call w (Some v) fine is e = inl (record { fine = fine; planned = is ∙ ap (λ (x : Word). Some x) e })

next_by : (call : InFlight) (w : Word) (r : Option Errno) → call.refusal ≡ r → word_behind call r ≡ w → InPlan call w ⊎ (IsClosing call × (closing call ≡ w))
next_by call w None fine e = planned_or_closing call w (slice_get (plan_for call.request) call.place) fine refl e
next_by call w (Some errno) fine e = inr ((λ none. absurd (none-some errno (sym none ∙ fine))), e)

pub next_cases : (call : InFlight) (w : Word) → next_word call ≡ w → InPlan call w ⊎ (IsClosing call × (closing call ≡ w))
next_cases call w e = next_by call w call.refusal refl e

abbrev pub unwinds : Word → Bool
unwinds Reserve = false
unwinds Look = false
unwinds Make = false
unwinds Commit = false
unwinds Act = false
unwinds Lock = false
unwinds Check = false
unwinds Finish = false
unwinds Abort = true
unwinds Free = true
unwinds Exit = true

freeing_unwinds : (looked : Ids) → unwinds (freeing looked) ≡ true
freeing_unwinds Empty = refl
freeing_unwinds (One a) = refl
freeing_unwinds (Two a b) = refl
freeing_unwinds (Three a b c) = refl
freeing_unwinds (Four a b c d) = refl

closing_word_unwinds : (reserved : Option ℕ) (looked : Ids) → unwinds (closing_word reserved looked) ≡ true
closing_word_unwinds None looked = freeing_unwinds looked
closing_word_unwinds (Some number) looked = refl

pub closing_unwinds : (call : InFlight) → unwinds (closing call) ≡ true
closing_unwinds call = closing_word_unwinds call.reserved call.looked

stands_forward : (role : Role) (looks place : ℕ) (w : Word) → StandsAt role looks place w → unwinds w ≡ false
stands_forward role looks place Reserve s = refl
stands_forward role looks place Look s = refl
stands_forward role looks place Make s = refl
stands_forward role looks place Commit s = refl
stands_forward role looks place Act s = refl
stands_forward role looks place Lock s = refl
stands_forward role looks place Check s = refl
stands_forward role looks place Finish s = refl
stands_forward role looks place Abort s = absurd s
stands_forward role looks place Free s = absurd s
stands_forward role looks place Exit s = absurd s

pub stands_in_plan : (call : InFlight) (w : Word) → InPlan call w → StandsAt (role_of call.request) (length (looks_of call.request)) call.place w
stands_in_plan call w plan = stands (role_of call.request) (length (looks_of call.request)) call.place w plan.planned

pub in_plan_forward : (call : InFlight) (w : Word) → InPlan call w → unwinds w ≡ false
in_plan_forward call w plan = stands_forward (role_of call.request) (length (looks_of call.request)) call.place w (stands_in_plan call w plan)

pub in_plan : (call : InFlight) (w : Word) → next_word call ≡ w → unwinds w ≡ false → InPlan call w
in_plan call w e forward =
    ⊎_elim (λ k. k) (λ k. absurd (let back : unwinds w ≡ true = ap unwinds (sym k.1) ∙ closing_unwinds call in cc)) (next_cases call w e)

pub is_closing : (call : InFlight) (w : Word) → next_word call ≡ w → unwinds w ≡ true → IsClosing call × (closing call ≡ w)
is_closing call w e back =
    ⊎_elim (λ k. absurd (let forward : unwinds w ≡ false = in_plan_forward call w k in cc)) (λ k. k) (next_cases call w e)

closing_by : (call : InFlight) (r : Option Errno) → call.refusal ≡ r → IsClosing call → word_behind call r ≡ closing call
closing_by call None fine ends = ap (λ o. unwrap_or o (closing call)) (ends fine)
closing_by call (Some e) fine ends = refl

-- a call that closes makes its closing word next
pub next_word-closing : (call : InFlight) → IsClosing call → next_word call ≡ closing call
next_word-closing call ends = closing_by call call.refusal refl ends

-- a call in its plan makes that word next
pub next_word-planned : (call : InFlight) (w : Word) → call.refusal ≡ None → slice_get (plan_for call.request) call.place ≡ Some w → next_word call ≡ w
next_word-planned call w fine planned = ap (word_behind call) fine ∙ ap (λ o. unwrap_or o (closing call)) planned

-- What the closing words say.

aborts_by : (reserved : Option ℕ) (looked : Ids) → closing_word reserved looked ≡ Abort → (n : ℕ) × (reserved ≡ Some n)
aborts_by None Empty e = absurd cc
aborts_by None (One a) e = absurd cc
aborts_by None (Two a b) e = absurd cc
aborts_by None (Three a b c) e = absurd cc
aborts_by None (Four a b c d) e = absurd cc
aborts_by (Some n) looked e = (n, refl)

pub closing_abort : (call : InFlight) → closing call ≡ Abort → (n : ℕ) × (call.reserved ≡ Some n)
closing_abort call e = aborts_by call.reserved call.looked e

exits_by : (reserved : Option ℕ) (looked : Ids) → closing_word reserved looked ≡ Exit → (reserved ≡ None) × (looked ≡ Empty)
exits_by None Empty e = (refl, refl)
exits_by None (One a) e = absurd cc
exits_by None (Two a b) e = absurd cc
exits_by None (Three a b c) e = absurd cc
exits_by None (Four a b c d) e = absurd cc
exits_by (Some n) looked e = absurd cc

pub closing_exit : (call : InFlight) → closing call ≡ Exit → (call.reserved ≡ None) × (call.looked ≡ Empty)
closing_exit call e = exits_by call.reserved call.looked e

frees_by : (reserved : Option ℕ) (looked : Ids) → closing_word reserved looked ≡ Free → (reserved ≡ None) × (freeing looked ≡ Free)
frees_by None looked e = (refl, e)
frees_by (Some n) looked e = absurd cc

pub closing_free : (call : InFlight) → closing call ≡ Free → (call.reserved ≡ None) × (freeing call.looked ≡ Free)
closing_free call e = frees_by call.reserved call.looked e

-- Places.

stands_low : (role : Role) (looks place : ℕ) (w : Word) → looks ≤ 4 → StandsAt role looks place w → place < 16
stands_low role looks place Reserve few s = omega (arith, s.at)
stands_low role looks place Look few s = ⊎_elim (λ k. omega (arith, k.to)) (λ k. omega (arith, k.to)) s
stands_low role looks place Make few s = omega (arith, s.at)
stands_low role looks place Commit few s = omega (arith, s.at)
stands_low role looks place Act few s = omega (arith, s.at)
stands_low role looks place Lock few s = omega (arith, s.at)
stands_low role looks place Check few s = omega (arith, s.at)
stands_low role looks place Finish few s = omega (arith, s.at)
stands_low role looks place Abort few s = absurd s
stands_low role looks place Free few s = absurd s
stands_low role looks place Exit few s = absurd s

next_place_low : (p : ℕ) → p < 16 → next_place p ≡ p + 1
next_place_low p low = grind (arith, nat_tests)

-- a step of a plan leads to the next place
pub next_place-in_plan : (call : InFlight) (w : Word) → InPlan call w → next_place call.place ≡ call.place + 1
next_place-in_plan call w plan =
    next_place_low call.place (stands_low (role_of call.request) (length (looks_of call.request)) call.place w (looks_few call.request) (stands_in_plan call w plan))

-- the words from a place on
pub drop-here : {X : Type 0} (xs : List X) (p : ℕ) (x : X) → slice_get xs p ≡ Some x → drop p xs ≡ x ∷ drop (p + 1) xs
drop-here [] p x e = absurd (none-some x e)
drop-here (y ∷ ys) zero x e = ap (λ v. v ∷ ys) (same_Some y x e)
drop-here (y ∷ ys) (suc p) x e =
    let more : suc p + 1 ≡ suc (p + 1) = omega arith in
    drop-here ys p x e ∙ ap (λ k. x ∷ drop k (y ∷ ys)) (sym more)

drop-behind_suc : {X : Type 0} (xs : List X) (p : ℕ) → slice_get xs p ≡ None → drop p xs ≡ []
drop-behind_suc [] zero e = refl
drop-behind_suc [] (suc p) e = refl
drop-behind_suc (y ∷ ys) zero e = absurd (none-some y (sym e))
drop-behind_suc (y ∷ ys) (suc p) e = drop-behind_suc ys p e

pub drop-behind : {X : Type 0} (xs : List X) (p : ℕ) → slice_get xs p ≡ None → drop p xs ≡ []
drop-behind xs p e = drop-behind_suc xs p e
