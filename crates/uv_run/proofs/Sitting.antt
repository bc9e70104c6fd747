-- What an actor asked for, with its replies and its calls, as it stands between two events.
use Rattle.std.proofs.Common.{◌≡◌, ℕ, Bool, true, false, List, [], ◌∷◌, ◌++◌, Option, Some, None, refl, ap, sym, ◌∙◌, subst, append-nil, filter}
use Rattle.std.specs.Prelude.{◌≢◌, cond, is_none}
use Rattle.std.proofs.lemmas.Bool.{eq-eqb, ne_eqb}
use Rattle.std.proofs.lemmas.List.Elements.{filter-append}
use Rattle.uv_num.specs.declared.kind.Kind.{Kind}
use Rattle.uv_num.specs.declared.request.Request.{Request}
use Rattle.uv_machine.specs.declared.call.InFlight.{InFlight}
use Rattle.uv_machine.specs.declared.entry.Answer.{Answer}
use Rattle.uv_machine.specs.declared.entry.Entry.{Entry}
use Rattle.uv_machine.specs.Calls.{Asked, Item, answered, asked_of, calls_of, unanswered}
use Rattle.uv_machine.specs.Calls.Item.{Opening, Calling}
use Rattle.uv_machine.specs.Histories.{IsLegal, state_of}
use Rattle.uv_machine.specs.States.{call_of}
use Rattle.uv_machine.proofs.Clients.{calls_in_flight}
use Rattle.uv_run.specs.declared.flight.Task.{Task}
use Rattle.uv_run.specs.declared.flight.Task.TheVariants as task
use Rattle.uv_run.specs.declared.flight.Teardown.{Teardown}
use Rattle.uv_run.specs.declared.reply.Reply.{Reply}
use Rattle.uv_run.specs.Asking.{Asking}
use Rattle.uv_run.specs.Follows.{AreAnswered, IsAnswered, is_asked_by, is_call, replied_to}
use Rattle.uv_run.specs.Follows.AreAnswered.{Nothing, Call, Teardown as Torn}

-- Calls that have their answers.

unanswered_append : (xs ys : List Item) → unanswered (xs ++ ys) ≡ unanswered xs ++ unanswered ys
unanswered_append [] ys = refl
unanswered_append (Opening f d b ∷ xs) ys = unanswered_append xs ys
unanswered_append (Calling f q None ∷ xs) ys = ap (λ v. Asked.Asks f q ∷ v) (unanswered_append xs ys)
unanswered_append (Calling f q (Some b) ∷ xs) ys = unanswered_append xs ys

item_closed : (t : Task) (r : Reply) (item : Item) → IsAnswered t r item → unanswered (item ∷ []) ≡ []
item_closed (task.Opens f d) r (Opening g e b) is = refl
item_closed (task.Opens f d) r (Calling g q b) is = absurd is
item_closed (task.Calls f q) r (Opening g e b) is = absurd is
item_closed (task.Calls f q) r (Calling g p None) is = let k : None ≡ Some r.answer = is.2 in absurd (cc)
item_closed (task.Calls f q) r (Calling g p (Some b)) is = refl
item_closed (task.Closes f) r item is = absurd is
item_closed (task.Unplugs d) r item is = absurd is

pub answered_closed : (A : List Asking) (R : List Reply) (I : List Item) → AreAnswered A R I → unanswered I ≡ []
answered_closed A R I Nothing = refl
answered_closed A R I (Call asked replies items x r item all to is) =
    unanswered_append items (item ∷ []) ∙ ap (λ v. v ++ unanswered (item ∷ [])) (answered_closed asked replies items all) ∙ item_closed x.task r item is
answered_closed A R I (Torn asked replies items x r all to is) = answered_closed asked replies items all

answered_last : (a : Answer) (items : List Item) (f : ℕ) (q : Request) → unanswered items ≡ [] → answered a (items ++ Calling f q None ∷ []) ≡ items ++ Calling f q (Some a) ∷ []
answered_last a [] f q none = refl
answered_last a (Opening g d b ∷ items) f q none = ap (λ v. Opening g d b ∷ v) (answered_last a items f q none)
answered_last a (Calling g p None ∷ items) f q none = absurd (cc)
answered_last a (Calling g p (Some b) ∷ items) f q none = ap (λ v. Calling g p (Some b) ∷ v) (answered_last a items f q none)

idle_slot : (slot : Option InFlight) → asked_of slot ≡ [] → slot ≡ None
idle_slot None e = refl
idle_slot (Some call) e = absurd (cc)

-- an actor whose calls have their answers has none in flight
pub idle_items : (h : List Entry) (c : ℕ) → IsLegal h → unanswered (calls_of h c) ≡ [] → call_of (state_of h) c ≡ None
idle_items h c legal none = idle_slot (call_of (state_of h) c) (sym (calls_in_flight h c legal) ∙ none)

busy_slot : (slot : Option InFlight) (x : Asked) → asked_of slot ≡ x ∷ [] → is_none slot ≡ false
busy_slot None x e = absurd (cc)
busy_slot (Some call) x e = refl

open_last : (items : List Item) (f : ℕ) (q : Request) → unanswered items ≡ [] → unanswered (items ++ Calling f q None ∷ []) ≡ Asked.Asks f q ∷ []
open_last items f q none = unanswered_append items (Calling f q None ∷ []) ∙ ap (λ v. v ++ Asked.Asks f q ∷ []) none

-- One actor.

-- it rests, or has a call in flight, or a teardown that it was asked for
pub data Sits (A : List Asking) (R : List Reply) (I : List Item) (c n : ℕ) (t : Option Teardown) : Type 0 where
  Rests : AreAnswered A R I → t ≡ None → Sits A R I c n t
  InCall :
      (before : List Asking) (x : Asking) (items : List Item) (f : ℕ) (q : Request) → A ≡ before ++ x ∷ [] → AreAnswered before R items → x.line ≡ n → x.actor ≡ c
      → x.task ≡ task.Calls f q → I ≡ items ++ Calling f q None ∷ [] → t ≡ None → Sits A R I c n t
  InTear :
      (before : List Asking) (x : Asking) → A ≡ before ++ x ∷ [] → AreAnswered before R I → x.line ≡ n → x.actor ≡ c → is_call x.task ≡ false → is_none t ≡ false
      → Sits A R I c n t

-- an actor that is told sits; one whose close isn't told has its answers
abbrev pub SitsBy : Bool → List Asking → List Reply → List Item → ℕ → ℕ → Option Teardown → Type 0
SitsBy true A R I c n t = Sits A R I c n t
SitsBy false A R I c n t = AreAnswered A R I

pub sits_moved : (b : Bool) (A : List Asking) (R R' : List Reply) (I I' : List Item) (c n : ℕ) (t t' : Option Teardown) → R' ≡ R → I' ≡ I → t' ≡ t → SitsBy b A R I c n t → SitsBy b A R' I' c n t'
sits_moved b A R R' I I' c n t t' er ei et sits =
    let P1 : List Reply → Type 0 = λ v. SitsBy b A v I c n t in
    let P2 : List Item → Type 0 = λ v. SitsBy b A R' v c n t in
    let P3 : Option Teardown → Type 0 = λ v. SitsBy b A R' I' c n v in
    subst P3 (sym et) (subst P2 (sym ei) (subst P1 (sym er) sits))

-- a teardown that was asked for ends
pub sits_over : (A : List Asking) (R : List Reply) (I : List Item) (c n : ℕ) (t : Teardown) (a : Answer) → Sits A R I c n (Some t) → Sits A (R ++ record { line = n; actor = c; made = None; answer = a } ∷ []) I c n None
sits_over A R I c n t a (Rests all none) = absurd (cc)
sits_over A R I c n t a (InCall before x items f q is all line actor what now none) = absurd (cc)
sits_over A R I c n t a (InTear before x is all line actor what busy) =
    let r : Reply = record { line = n; actor = c; made = None; answer = a } in
    let P : List Asking → Type 0 = λ v. AreAnswered v (R ++ r ∷ []) I in
    Rests (subst P (sym is) (Torn before R I x r all (record { line = sym line; actor = sym actor }) what)) refl

-- a call ends
pub sits_exit :
    (A : List Asking) (R : List Reply) (I : List Item) (c n : ℕ) (t : Option Teardown) (made : Option Kind) (a : Answer) → Sits A R I c n t → unanswered I ≢ []
    → Sits A (R ++ record { line = n; actor = c; made = made; answer = a } ∷ []) (answered a I) c n t
sits_exit A R I c n t made a (Rests all none) apart = absurd (apart (answered_closed A R I all))
sits_exit A R I c n t made a (InCall before x items f q is all line actor what now none) apart =
    let r : Reply = record { line = n; actor = c; made = made; answer = a } in
    let item : Item = Calling f q (Some a) in
    let P : List Asking → Type 0 = λ v. AreAnswered v (R ++ r ∷ []) (answered a I) in
    let Q : List Item → Type 0 = λ v. AreAnswered (before ++ x ∷ []) (R ++ r ∷ []) v in
    let T : Task → Type 0 = λ v. IsAnswered v r item in
    let items_now : answered a I ≡ items ++ item ∷ [] = ap (answered a) now ∙ answered_last a items f q (answered_closed before R items all) in
    Rests (subst P (sym is) (subst Q (sym items_now) (Call before R items x r item all (record { line = sym line; actor = sym actor }) (subst T (sym what) (refl, refl, refl))))) none
sits_exit A R I c n t made a (InTear before x is all line actor what busy) apart = absurd (apart (answered_closed before R I all))

-- one that has neither a call nor a teardown in flight rests
pub rests : (A : List Asking) (R : List Reply) (h : List Entry) (c n : ℕ) (t : Option Teardown) → IsLegal h → call_of (state_of h) c ≡ None → t ≡ None → Sits A R (calls_of h c) c n t → AreAnswered A R (calls_of h c)
rests A R h c n t legal none idle (Rests all e) = all
rests A R h c n t legal none idle (InCall before x items f q is all line actor what now e) =
    let one = sym (open_last items f q (answered_closed before R items all)) ∙ ap unanswered (sym now) ∙ calls_in_flight h c legal in
    let busy : is_none (call_of (state_of h) c) ≡ false = busy_slot (call_of (state_of h) c) (Asked.Asks f q) (sym one) in
    absurd (cc)
rests A R h c n t legal none idle (InTear before x is all line actor what busy) = absurd (cc)

-- Replies and askings of one actor.

filter_in : {X : Type 0} (p : X → Bool) (xs : List X) (x : X) → p x ≡ true → filter p (xs ++ x ∷ []) ≡ filter p xs ++ x ∷ []
filter_in p xs x e = filter-append p xs (x ∷ []) ∙ ap (λ b. filter p xs ++ cond b (x ∷ []) []) e

filter_out : {X : Type 0} (p : X → Bool) (xs : List X) (x : X) → p x ≡ false → filter p (xs ++ x ∷ []) ≡ filter p xs
filter_out p xs x e = filter-append p xs (x ∷ []) ∙ ap (λ b. filter p xs ++ cond b (x ∷ []) []) e ∙ append-nil (filter p xs)

pub asked_own : (asked : List Asking) (x : Asking) → filter (is_asked_by x.actor) (asked ++ x ∷ []) ≡ filter (is_asked_by x.actor) asked ++ x ∷ []
asked_own asked x = filter_in (is_asked_by x.actor) asked x (eq-eqb x.actor x.actor refl)

pub asked_other : (asked : List Asking) (x : Asking) (c : ℕ) → c ≢ x.actor → filter (is_asked_by c) (asked ++ x ∷ []) ≡ filter (is_asked_by c) asked
asked_other asked x c ne = filter_out (is_asked_by c) asked x (ne_eqb x.actor c (λ e. ne (sym e)))

pub replied_own : (replies : List Reply) (r : Reply) → filter (replied_to r.actor) (replies ++ r ∷ []) ≡ filter (replied_to r.actor) replies ++ r ∷ []
replied_own replies r = filter_in (replied_to r.actor) replies r (eq-eqb r.actor r.actor refl)

pub replied_other : (replies : List Reply) (r : Reply) (c : ℕ) → c ≢ r.actor → filter (replied_to c) (replies ++ r ∷ []) ≡ filter (replied_to c) replies
replied_other replies r c ne = filter_out (replied_to c) replies r (ne_eqb r.actor c (λ e. ne (sym e)))
